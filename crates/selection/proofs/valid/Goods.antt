-- Instructions that are in order where they stand: what they name is there, and they lead to places of their function where
-- the begins are open that should be.
use Rattle.std.proofs.Common.{◌≡◌, refl, sym, ap, subst, ℕ, suc, ◌+◌, ◌≤◌, ◌<◌, List, [], ◌∷◌, ◌++◌, length, arith, Some}
use Rattle.std.specs.List.{AllByRecursion}
use Rattle.std.proofs.lemmas.List.{length-append}
use Rattle.bytecode.specs.declared.instr.Instr.{Instr}
use Rattle.bytecode.specs.declared.instr.Instr.TheVariants as own
use Rattle.bytecode.specs.Code.{Code, FunctionCode, Instr as Plain}
use Rattle.bytecode.specs.Valid.{Standing, IsPlace, IsWritten, leads_from, AsksOpen}
use Rattle.bytecode.specs.Views.{instr_of}
use Rattle.selection.proofs.valid.Begins.{through, Are, opens, IsBalanced, opens_split, opens_first}

-- the open begins at the first of these places
abbrev first_open : List Standing → List ℕ
first_open [] = []
first_open (s ∷ ss) = s.1

module _ (code : Code) (arguments : List ℕ) (f : FunctionCode) (end : ℕ) where
  -- an instruction that leads to the next place alone, and asks for no open begins
  abbrev pub GoesOn : Plain → Type 0
  GoesOn i = (q : ℕ) (bs : List ℕ) → (leads_from code q bs (Some i) ≡ (suc q, bs) ∷ []) × AsksOpen (Some i) bs

  -- so it opens none and leaves none
  goes_through : (i : Plain) → GoesOn i → (q : ℕ) (bs : List ℕ) → through i q bs ≡ bs
  goes_through (Plain.Begin to) way q bs = ap first_open (way q bs).0
  goes_through Plain.Commit way q [] = refl
  goes_through Plain.Commit way q (b ∷ bs) = ap first_open (way q (b ∷ bs)).0
  goes_through i way q bs = refl

  pub balanced_one : (i : Instr) → GoesOn (instr_of arguments i) → IsBalanced arguments (i ∷ [])
  balanced_one i way = λ q bs. goes_through (instr_of arguments i) way q bs

  module _ (open_at : ℕ → List ℕ) where
    abbrev pub Meets : Standing → Type 0
    Meets s = IsPlace code f end s.0 × (open_at s.0 ≡ s.1)

    pub record IsGood (q : ℕ) (i : Plain) : Type 0 where
      pub begins : List ℕ
      pub are : open_at q ≡ begins
      pub written : IsWritten code f end i
      pub asks : AsksOpen (Some i) begins
      pub leads : AllByRecursion Meets (leads_from code q begins (Some i))

    abbrev pub AreGood : ℕ → List Instr → Type 0
    AreGood q [] = Unit {0}
    AreGood q (i ∷ is) = IsGood q (instr_of arguments i) × AreGood (suc q) is

    pub good_append : (q to : ℕ) (a b : List Instr) → to ≡ q + length a → AreGood q a → AreGood to b → AreGood q (a ++ b)
    good_append q to [] b e h g = let same : to ≡ q = omega (arith, e) in subst (λ n. AreGood n b) same g
    good_append q to (i ∷ a) b e h g = let same : to ≡ suc q + length a = omega (arith, e) in (h.0, good_append (suc q) to a b same h.1 g)

    -- instructions of the function, along which those begins are open that their text says, and at whose end the first ones are
    pub record Runs (from : ℕ) (bs : List ℕ) (is : List Instr) : Type 0 where
      pub first : f.first ≤ from
      pub last : from + length is < end
      pub are : Are open_at from (opens arguments from bs is)
      pub out : open_at (from + length is) ≡ bs

    pub runs_to : (from to : ℕ) (bs : List ℕ) (is : List Instr) → to ≡ from + length is → f.first ≤ from → to < end → Are open_at from (opens arguments from bs is) → open_at to ≡ bs → Runs from bs is
    runs_to from to bs is e first last are out = record { first = first; last = omega (arith, e, last); are = are; out = subst (λ q. open_at q ≡ bs) e out }

    pub meets_first : (at from : ℕ) (bs : List ℕ) (is : List Instr) → at ≡ from → Runs from bs is → Meets (at, bs)
    meets_first at from bs is e r =
        let x = r.first in
        let y = r.last in
        ((omega (arith, x, e), omega (arith, y, e)), subst (λ q. open_at q ≡ bs) (sym e) (opens_first arguments open_at from (from + length is) bs is refl r.are r.out))

    pub meets_out : (to from : ℕ) (bs : List ℕ) (is : List Instr) → to ≡ from + length is → Runs from bs is → Meets (to, bs)
    meets_out to from bs is e r =
        let x = r.first in
        let y = r.last in
        ((omega (arith, x, e), omega (arith, y, e)), subst (λ q. open_at q ≡ bs) (sym e) r.out)

    -- of two parts the first leaves what it opens
    pub parted : (from mid : ℕ) (bs : List ℕ) (a b : List Instr) → mid ≡ from + length a → IsBalanced arguments a → Runs from bs (a ++ b) → Runs from bs a × Runs mid bs b
    parted from mid bs a b e balanced r =
        let whole : length (a ++ b) ≡ length a + length b = length-append a b in
        let x = r.first in
        let y = r.last in
        let two = opens_split arguments open_at from mid bs a b e r.are in
        let out_is : from + length (a ++ b) ≡ mid + length b = omega (arith, e, whole) in
        let rest : Runs mid bs b = (record {
          first = omega (arith, x, e);
          last = omega (arith, y, e, whole);
          are = subst (λ xs. Are open_at mid (opens arguments mid xs b)) (balanced from bs) two.1;
          out = subst (λ q. open_at q ≡ bs) out_is r.out;
        }) in
        let ahead : Runs from bs a = (record {
          first = x;
          last = omega (arith, y, whole);
          are = two.0;
          out = (meets_first (from + length a) mid bs b (sym e) rest).1;
        }) in
        (ahead, rest)

    -- both are in order where each is along its own places
    pub good_parts : (from mid : ℕ) (bs : List ℕ) (a b : List Instr) → mid ≡ from + length a → IsBalanced arguments a → Runs from bs (a ++ b) → (Runs from bs a → AreGood from a) → (Runs mid bs b → AreGood mid b) → AreGood from (a ++ b)
    good_parts from mid bs a b e balanced r first second = let two = parted from mid bs a b e balanced r in good_append from mid a b e (first two.0) (second two.1)

    pub next_run : (q : ℕ) (bs : List ℕ) (i : Instr) (is : List Instr) → IsBalanced arguments (i ∷ []) → Runs q bs (i ∷ is) → Runs (suc q) bs is
    next_run q bs i is balanced r = (parted q (suc q) bs (i ∷ []) is (omega arith) balanced r).1

    pub good_on : (q : ℕ) (bs : List ℕ) (i : Instr) (is : List Instr) → GoesOn (instr_of arguments i) → IsWritten code f end (instr_of arguments i) → Runs q bs (i ∷ is) → IsGood q (instr_of arguments i)
    good_on q bs i is way w r = record {
      begins = bs;
      are = r.are.0;
      written = w;
      asks = (way q bs).1;
      leads = subst (AllByRecursion Meets) (sym (way q bs).0) (meets_first (suc q) (suc q) bs is refl (next_run q bs i is (balanced_one i way) r), tt);
    }

    pub good_jump : (q : ℕ) (bs : List ℕ) (there : ℕ) (is : List Instr) → Meets (there, bs) → Runs q bs (own.Jump there ∷ is) → IsGood q (Plain.Jump there)
    good_jump q bs there is m r = record { begins = bs; are = r.are.0; written = m.0; asks = tt; leads = (m, tt) }

    pub good_zero : (q : ℕ) (bs : List ℕ) (a there : ℕ) (is : List Instr) → a < f.registers → Meets (there, bs) → Runs q bs (own.JumpZero a there ∷ is) → IsGood q (Plain.JumpZero a there)
    good_zero q bs a there is h m r = record {
      begins = bs;
      are = r.are.0;
      written = (h, m.0);
      asks = tt;
      leads = (meets_first (suc q) (suc q) bs is refl (next_run q bs (own.JumpZero a there) is (λ r xs. refl) r), (m, tt));
    }

    pub good_nonzero : (q : ℕ) (bs : List ℕ) (a there : ℕ) (is : List Instr) → a < f.registers → Meets (there, bs) → Runs q bs (own.JumpNonzero a there ∷ is) → IsGood q (Plain.JumpNonzero a there)
    good_nonzero q bs a there is h m r = record {
      begins = bs;
      are = r.are.0;
      written = (h, m.0);
      asks = tt;
      leads = (meets_first (suc q) (suc q) bs is refl (next_run q bs (own.JumpNonzero a there) is (λ r xs. refl) r), (m, tt));
    }
