-- The ways through a function whose instructions are in order.
use Rattle.std.proofs.Common.{◌≡◌, refl, sym, ap, subst, ◌∙◌, ℕ, zero, suc, ◌+◌, ◌-◌, ◌≤◌, ◌<◌, List, [], ◌∷◌, ◌++◌, append_assoc, length, arith, Some}
use Rattle.std.specs.Prelude.{slice_get, unwrap_or}
use Rattle.std.specs.List.{AllByRecursion}
use Rattle.std.proofs.lemmas.List.{length-append}
use Rattle.std.proofs.lemmas.List.Elements.{All-from_recursion, All-contains}
use Rattle.bytecode.specs.declared.instr.Instr.{Instr}
use Rattle.bytecode.specs.Code.{Code, FunctionCode, Instr as Plain}
use Rattle.bytecode.specs.Valid.{IsPlace, IsWritten, leads_from, IsReached, at_first, further, AsksOpen, KeepsOpen, AreWritten}
use Rattle.bytecode.specs.Views.{instr_of}
use Rattle.selection.proofs.stands.Standing.{Stand}
use Rattle.selection.proofs.valid.Begins.{Are}
use Rattle.selection.proofs.valid.Goods.{IsGood, AreGood, Meets}

-- the begins that are open at a place, by a list of them for each place from one on
abbrev pub opened : List (List ℕ) → ℕ → ℕ → List ℕ
opened opens from q = unwrap_or (slice_get opens (q - from)) []

at_length : (before after : List (List ℕ)) (bs : List ℕ) → slice_get (before ++ bs ∷ after) (length before) ≡ Some bs
at_length [] after bs = refl
at_length (x ∷ before) after bs = at_length before after bs

are_opened_from : (opens : List (List ℕ)) (from : ℕ) (before after : List (List ℕ)) → before ++ after ≡ opens → Are (opened opens from) (from + length before) after
are_opened_from opens from before [] e = tt
are_opened_from opens from before (bs ∷ after) e =
    let place : length before ≡ (from + length before) - from = omega arith in
    let here : slice_get opens (length before) ≡ Some bs = subst (λ xs. slice_get xs (length before) ≡ Some bs) e (at_length before after bs) in
    let next : from + length (before ++ bs ∷ []) ≡ suc (from + length before) = (let h : length (before ++ bs ∷ []) ≡ length before + 1 = length-append before (bs ∷ []) in omega (arith, h)) in (
      ap (λ o. unwrap_or o []) (subst (λ n. slice_get opens n ≡ Some bs) place here),
      subst (λ q. Are (opened opens from) q after) next (are_opened_from opens from (before ++ bs ∷ []) after (append_assoc before (bs ∷ []) after ∙ e)),
    )

pub are_opened : (opens : List (List ℕ)) (from : ℕ) → Are (opened opens from) from opens
are_opened opens from = let same : from + 0 ≡ from = omega arith in subst (λ q. Are (opened opens from) q opens) same (are_opened_from opens from [] opens refl)

some_same : (i j : Plain) → Some i ≡ Some j → i ≡ j
some_same i j e = ap (λ o. unwrap_or o i) e

module _ (code : Code) (arguments : List ℕ) (f : FunctionCode) (end : ℕ) (open_at : ℕ → List ℕ) where
  record Stands (q : ℕ) : Type 0 where
    instr : Plain
    there : slice_get code.instructions q ≡ Some instr
    good : IsGood code arguments f end open_at q instr

  stands_from : (is : List Instr) (q k : ℕ) → AreGood code arguments f end open_at q is → Stand code arguments q is → k < length is → Stands (q + k)
  stands_from [] q k h st low = absurd (omega (arith, low))
  stands_from (i ∷ is) q zero h st low = let same : q ≡ q + 0 = omega arith in subst Stands same (record { instr = instr_of arguments i; there = st.0; good = h.0 })
  stands_from (i ∷ is) q (suc k) h st low = let same : suc q + k ≡ q + suc k = omega arith in subst Stands same (stands_from is (suc q) k h.1 st.1 (omega (arith, low)))

  -- all instructions of the function are in order, and no begin is open at its first place
  module _ (is : List Instr) (goods : AreGood code arguments f end open_at f.first is) (stand : Stand code arguments f.first is) (end_is : end ≡ f.first + length is) (starts : open_at f.first ≡ []) (some : f.first < end) where
    at : (q : ℕ) → f.first ≤ q → q < end → Stands q
    at q low high =
        let same : f.first + (q - f.first) ≡ q = omega (arith, low) in
        subst Stands same (stands_from is f.first (q - f.first) goods stand (omega (arith, low, high, end_is)))

    pub all_written : AreWritten code f end
    all_written q i low high e = let s = at q low high in subst (IsWritten code f end) (some_same s.instr i (sym s.there ∙ e)) s.good.written

    record Found (q : ℕ) (xs : List ℕ) : Type 0 where
      place : IsPlace code f end q
      are : open_at q ≡ xs

    reached : (q : ℕ) (xs : List ℕ) → IsReached code f q xs → Found q xs
    reached q xs at_first = record { place = (omega arith, some); are = starts }
    reached q xs (further {q = r} {xs = ys} w c) =
        let h = reached r ys w in
        let s = at r h.place.0 h.place.1 in
        let begins : s.good.begins ≡ ys = sym s.good.are ∙ h.are in
        let leads : AllByRecursion (Meets code arguments f end open_at) (leads_from code r ys (Some s.instr)) = subst (λ bs. AllByRecursion (Meets code arguments f end open_at) (leads_from code r bs (Some s.instr))) begins s.good.leads in
        let all : AllByRecursion (Meets code arguments f end open_at) (leads_from code r ys (slice_get code.instructions r)) = subst (λ o. AllByRecursion (Meets code arguments f end open_at) (leads_from code r ys o)) (sym s.there) leads in
        let m = All-contains (Meets code arguments f end open_at) (leads_from code r ys (slice_get code.instructions r)) (q, xs) (All-from_recursion (Meets code arguments f end open_at) (leads_from code r ys (slice_get code.instructions r)) all) c in
        record { place = m.0; are = m.1 }

    pub keeps_open : KeepsOpen code f end
    keeps_open = record {
      inside = λ q xs w. (reached q xs w).place;
      one_list = λ q xs ys v w. sym (reached q xs v).are ∙ (reached q ys w).are;
      asks = λ q xs w.
          let h = reached q xs w in
          let s = at q h.place.0 h.place.1 in
          subst (λ o. AsksOpen o xs) (sym s.there) (subst (AsksOpen (Some s.instr)) (sym s.good.are ∙ h.are) s.good.asks);
    }
