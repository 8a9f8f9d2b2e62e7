-- A list of phrases, up to a token that stops it, is read exactly where one phrase is. T: what else may be said of that token.
use Rattle.std.proofs.Common.{◌≡◌, ℕ, zero, suc, ◌-◌, ◌<◌, ◌≤◌, Bool, true, false, List, [], ◌∷◌, ◌++◌, length, Option, Some, None, Result, Ok, Err, refl, sym, ap, subst, ◌∙◌, append_assoc, arith, ◌⊎◌, inl, inr, length-append}
use Rattle.std.proofs.lemmas.List.{append-nil}
use Rattle.lex.specs.Tokens.{Tok}
use Rattle.syntax.specs.Phrases.{Phrase, Begins, Many}
use Rattle.parse.specs.inner.Reading.{Fault, wrong, deep, ◌>>=◌, Parser, head, many, many_until}
use Rattle.parse.proofs.combinators.Exact.{head_append, Nonempty, Reads, Exact, bind_ok, bind_err, ok_pair, err_is}

abbrev pub ManyFit : {A : Type 0} → (ℕ → A → Type 0) → ℕ → List A → Type 0
ManyFit W d [] = Unit {0}
ManyFit W d (x ∷ xs) = W d x × ManyFit W d xs

bool_cases : (b : Bool) → (b ≡ true) ⊎ (b ≡ false)
bool_cases true = inl refl
bool_cases false = inr refl

module _ {A : Type 0} (P : ℕ → Parser A) (L : A → Phrase) (W : ℕ → A → Type 0) (S C : A → Option Tok → Type 0) (d : ℕ) (E : Exact P L W S C d) (stop : Option Tok → Bool) (T : Option Tok → Type 0)
    (solid : (x : A) (p : List Tok) → L x p → Nonempty p)
    (goes : (x : A) (p q : List Tok) → L x p → stop (head (p ++ q)) ≡ false)
    (follows : (x : A) (h : Option Tok) → stop h ≡ true → T h → S x h)
    (next : (x y : A) (p q : List Tok) → L y p → S x (head (p ++ q))) where
  stopped : (D n : ℕ) (ts : List Tok) → stop (head ts) ≡ true → many stop n (P D) ts ≡ Ok ([], ts)
  stopped D zero ts e = rw e refl
  stopped D (suc n) ts e = rw e refl

  longer : (p q : List Tok) → Nonempty p → length q < length (p ++ q)
  longer [] q n = absurd n
  longer (t ∷ p) q n = omega (arith, length-append p q)

  many_again : (xs : List A) (n : ℕ) (p q : List Tok) → length (p ++ q) ≤ n → Many L xs p → ManyFit W d xs → stop (head q) ≡ true → T (head q) → many stop n (P d) (p ++ q) ≡ Ok (xs, q)
  many_again [] n p q le l w h f = rw l (stopped d n q h)
  many_again (x ∷ xs) zero p q le l w h f = absurd (let n = solid x l.front l.first in let lt = longer l.front (l.back ++ q) n in let same : length (p ++ q) ≡ length (l.front ++ (l.back ++ q)) = ap length (ap (λ (z : List Tok). z ++ q) l.whole ∙ append_assoc l.front l.back q) in omega arith)
  many_again (x ∷ xs) (suc n) p q le l w h f =
      let lt = longer l.front (l.back ++ q) (solid x l.front l.first) in
      let parts : p ++ q ≡ l.front ++ (l.back ++ q) = ap (λ (z : List Tok). z ++ q) l.whole ∙ append_assoc l.front l.back q in
      let same = ap length parts in
      let e = E.again x l.front (l.back ++ q) l.first w.0 (after xs l.back l.second) in
      let rest = many_again xs n l.back q (omega arith) l.second w.1 h f in
      rw (parts, goes x l.front (l.back ++ q) l.first, e, rest) refl
    where
      after : (ys : List A) (b : List Tok) → Many L ys b → S x (head (b ++ q))
      after [] b m = rw m (follows x (head q) h f)
      after (y ∷ ys) b m = subst (λ (z : List Tok). S x (head z)) (sym (ap (λ (z : List Tok). z ++ q) m.whole ∙ append_assoc m.front m.back q)) (next x y m.front (m.back ++ q) m.first)

  record Listed (ts : List Tok) (xs : List A) (r : List Tok) : Type 0 where
    front : List Tok
    whole : ts ≡ front ++ r
    spelled : Many L xs front
    within : ManyFit W d xs
    closed : stop (head r) ≡ true
    stable : (D N : ℕ) (s : List Tok) → d ≤ D → length (front ++ s) ≤ N → head r ≡ head s → many stop N (P D) (front ++ s) ≡ Ok (xs, s)

  none_listed : (ts : List Tok) → stop (head ts) ≡ true → Listed ts [] ts
  none_listed ts h = record { front = []; whole = refl; spelled = refl; within = tt; closed = h; stable = λ D N s le fits same. stopped D N s (ap stop (sym same) ∙ h) }

  -- one more turn, over any fuel that suffices
  turn : (D N : ℕ) (x : A) (front s : List Tok) → Nonempty front → L x front → length (front ++ s) ≤ N → P D (front ++ s) ≡ Ok (x, s) → many stop N (P D) (front ++ s) ≡ (many stop (N - 1) (P D) s >>= λ y. Ok (x ∷ y.0, y.1))
  turn D zero x front s n l fits e = absurd (let lt = longer front s n in omega arith)
  turn D (suc N) x front s n l fits e =
      let k : suc N - 1 ≡ N = omega arith in
      rw (goes x front s l, e, k) refl

  many_ok : (n : ℕ) (ts : List Tok) (xs : List A) (r : List Tok) → many stop n (P d) ts ≡ Ok (xs, r) → Listed ts xs r
  many_ok zero ts xs r e = elim (bool_cases (stop (head ts))) [
    | inl h ↦ ended ts xs r h (ok_pair [] xs ts r (many stop zero (P d) ts) (stopped d zero ts h) e)
    | inr h ↦ absurd (let f : many stop zero (P d) ts ≡ Err (wrong ts) = rw h refl in no_both (many stop zero (P d) ts) (xs, r) (wrong ts) e f)
  ]
    where
      no_both : {A : Type 0} (r : Result A Fault) (x : A) (f : Fault) → r ≡ Ok x → r ≡ Err f → ⊥
      no_both r x f p q = cc

      ended : (ts : List Tok) (xs : List A) (r : List Tok) → stop (head ts) ≡ true → ([] ≡ xs) × (ts ≡ r) → Listed ts xs r
      ended ts xs r h same = subst (λ (z : List A). Listed ts z r) same.0 (subst (Listed ts []) same.1 (none_listed ts h))
  many_ok (suc n) ts xs r e = go (many_ok n) (bool_cases (stop (head ts)))
    where
      ended : (ts : List Tok) (xs : List A) (r : List Tok) → stop (head ts) ≡ true → ([] ≡ xs) × (ts ≡ r) → Listed ts xs r
      ended ts xs r h same = subst (λ (z : List A). Listed ts z r) same.0 (subst (Listed ts []) same.1 (none_listed ts h))

      one : (x : A) (ys : List A) (r1 : List Tok) (R : Reads P L W C d ts x r1) → Listed r1 ys r → Listed ts (x ∷ ys) r
      one x ys r1 R I = record {
        front = R.front ++ I.front;
        whole = R.whole ∙ ap (λ (z : List Tok). R.front ++ z) I.whole ∙ sym (append_assoc R.front I.front r);
        spelled = record { front = R.front; back = I.front; first = R.spelled; second = I.spelled; whole = refl };
        within = (R.within, I.within);
        closed = I.closed;
        stable = λ D N s le fits same.
            let parts = append_assoc R.front I.front s in
            let same_length = ap length parts in
            let n = solid x R.front R.spelled in
            let lt = longer R.front (I.front ++ s) n in
            ap (many stop N (P D)) parts
            ∙ turn D N x R.front (I.front ++ s) n R.spelled (omega arith) (R.stable D (I.front ++ s) le (ap head I.whole ∙ head_append I.front r s same))
            ∙ rw (I.stable D (N - 1) s le (omega arith) same) refl;
      }

      go : ((ts : List Tok) (xs : List A) (r : List Tok) → many stop n (P d) ts ≡ Ok (xs, r) → Listed ts xs r) → (stop (head ts) ≡ true) ⊎ (stop (head ts) ≡ false) → Listed ts xs r
      go rec (inl h) = ended ts xs r h (ok_pair [] xs ts r (many stop (suc n) (P d) ts) (stopped d (suc n) ts h) e)
      go rec (inr h) =
          let e' : (P d ts >>= λ (x : A × List Tok). many stop n (P d) x.1 >>= λ (y : List A × List Tok). Ok (x.0 ∷ y.0, y.1)) ≡ Ok (xs, r) = rw h at e in
          let b1 = bind_ok (P d ts) (λ (x : A × List Tok). many stop n (P d) x.1 >>= λ (y : List A × List Tok). Ok (x.0 ∷ y.0, y.1)) (xs, r) e' in
          let b2 = bind_ok (many stop n (P d) (b1.0).1) (λ (y : List A × List Tok). Ok ((b1.0).0 ∷ y.0, y.1)) (xs, r) b1.2 in
          let same = ok_pair ((b1.0).0 ∷ (b2.0).0) xs (b2.0).1 r (Ok ((b1.0).0 ∷ (b2.0).0, (b2.0).1)) refl b2.2 in
          let R = E.ok ts (b1.0).0 (b1.0).1 b1.1 in
          subst (λ (z : List A). Listed ts z r) same.0 (one (b1.0).0 (b2.0).0 (b1.0).1 R (rec (b1.0).1 (b2.0).0 r (b2.1 ∙ ap (λ (z : List Tok). Ok ((b2.0).0, z)) same.1)))

  -- ---- faults

  -- What stands before the fault, and what it shows, and that the fault stays at these depths whatever stands behind its token.
  record Stays (fault : List Tok → Fault) (AtDepth : ℕ → Type 0) (Shows : List Tok → List Tok → Type 0) (ts r : List Tok) : Type 0 where
    front : List Tok
    whole : ts ≡ front ++ r
    shows : Shows front r
    stable : (D N : ℕ) (s : List Tok) → AtDepth D → length (front ++ s) ≤ N → head r ≡ head s → many stop N (P D) (front ++ s) ≡ Err (fault s)

  -- Either fault of a list: it stands in the first item, or further on, or no token is left.
  module _ (fault : List Tok → Fault) (AtDepth : ℕ → Type 0) (Shows : List Tok → List Tok → Type 0)
      (reaches : (D : ℕ) → AtDepth D → d ≤ D)
      (further : (x : A) (p q r : List Tok) → L x p → Shows q r → Shows (p ++ q) r)
      (first : (ts r : List Tok) → stop (head ts) ≡ false → P d ts ≡ Err (fault r) → Stays fault AtDepth Shows ts r)
      (at_end : (r : List Tok) → stop None ≡ false → wrong [] ≡ fault r → Stays fault AtDepth Shows [] r) where
    later : (ts r1 r : List Tok) (x : A) → Reads P L W C d ts x r1 → Stays fault AtDepth Shows r1 r → Stays fault AtDepth Shows ts r
    later ts r1 r x R I =
        let nonempty = solid x R.front R.spelled in
        record {
          front = R.front ++ I.front;
          whole = R.whole ∙ ap (λ (z : List Tok). R.front ++ z) I.whole ∙ sym (append_assoc R.front I.front r);
          shows = further x R.front I.front r R.spelled I.shows;
          stable = λ D N s at fits same.
              let parts = append_assoc R.front I.front s in
              let same_length = ap length parts in
              let lt = longer R.front (I.front ++ s) nonempty in
              ap (many stop N (P D)) parts
              ∙ turn D N x R.front (I.front ++ s) nonempty R.spelled (omega arith) (R.stable D (I.front ++ s) (reaches D at) (ap head I.whole ∙ head_append I.front r s same))
              ∙ rw (I.stable D (N - 1) s at (omega arith) same) refl;
        }

    no_err : {X : Type 0} (a : Result X Fault) (x : X) (f : Fault) → a ≡ Ok x → a ≡ Err f → ⊥
    no_err a x f p q = cc

    ok_no_err : {X : Type 0} {x : X} {f : Fault} → Ok x ≡ Err f → ⊥
    ok_no_err h = cc

    many_fails : (n : ℕ) (ts r : List Tok) → length ts ≤ n → many stop n (P d) ts ≡ Err (fault r) → Stays fault AtDepth Shows ts r
    many_fails zero (t ∷ ts) r fits e = absurd (omega arith)
    many_fails zero [] r fits e = elim (bool_cases (stop None)) [
      | inl h ↦ absurd (no_err (many stop zero (P d) []) ([], []) (fault r) (stopped d zero [] h) e)
      | inr h ↦ at_end r h (let f : many stop zero (P d) [] ≡ Err (wrong []) = rw h refl in err_is (wrong []) (fault r) (many stop zero (P d) []) f e)
    ]
    many_fails (suc n) ts r fits e = go (many_fails n) (bool_cases (stop (head ts)))
      where
        go : ((ts r : List Tok) → length ts ≤ n → many stop n (P d) ts ≡ Err (fault r) → Stays fault AtDepth Shows ts r) → (stop (head ts) ≡ true) ⊎ (stop (head ts) ≡ false) → Stays fault AtDepth Shows ts r
        go rec (inl h) = absurd (no_err (many stop (suc n) (P d) ts) ([], ts) (fault r) (stopped d (suc n) ts h) e)
        go rec (inr h) =
            let e' : (P d ts >>= λ (x : A × List Tok). many stop n (P d) x.1 >>= λ (y : List A × List Tok). Ok (x.0 ∷ y.0, y.1)) ≡ Err (fault r) = rw h at e in
            elim (bind_err (P d ts) (λ (x : A × List Tok). many stop n (P d) x.1 >>= λ (y : List A × List Tok). Ok (x.0 ∷ y.0, y.1)) (fault r) e') [
              | inl p ↦ first ts r h p
              | inr b ↦
                  elim (bind_err (many stop n (P d) (b.0).1) (λ (y : List A × List Tok). Ok ((b.0).0 ∷ y.0, y.1)) (fault r) b.2) [
                    | inl p ↦
                        let R = E.ok ts (b.0).0 (b.0).1 b.1 in
                        let shorter = longer R.front (b.0).1 (solid (b.0).0 R.front R.spelled) in
                        let whole_length = ap length R.whole in
                        later ts (b.0).1 r (b.0).0 R (rec (b.0).1 r (omega arith) p)
                    | inr p ↦ absurd (ok_no_err p.2)
                  ]
            ]

  one_begins : (p : List Tok) → Begins L p → Begins (Many L) p
  one_begins p b = record { value = b.value ∷ []; more = b.more; spelled = record { front = p ++ b.more; back = []; first = b.spelled; second = refl; whole = sym (append-nil (p ++ b.more)) } }

  after_one : (x : A) (p q : List Tok) → L x p → Begins (Many L) q → Begins (Many L) (p ++ q)
  after_one x p q l b = record { value = x ∷ b.value; more = b.more; spelled = record { front = p; back = q ++ b.more; first = l; second = b.spelled; whole = append_assoc p q b.more } }

  after_some : (x : A) (p q : List Tok) → L x p → (Nonempty q → Begins (Many L) q) → Begins (Many L) (p ++ q)
  after_some x p [] l b = after_one x p [] l (record { value = []; more = []; spelled = refl })
  after_some x p (t ∷ q) l b = after_one x p (t ∷ q) l (b tt)

  nothing_before : (p q : List Tok) → p ++ q ≡ [] → q ≡ []
  nothing_before [] q e = e
  nothing_before (t ∷ p) q e = absurd cc

  now_wrong : (D N : ℕ) (front s : List Tok) → length (front ++ s) ≤ N → stop (head (front ++ s)) ≡ false → P D (front ++ s) ≡ Err (wrong s) → many stop N (P D) (front ++ s) ≡ Err (wrong s)
  now_wrong D zero front s fits h e = at_end (front ++ s) refl
    where
      at_end : (z : List Tok) → z ≡ front ++ s → many stop zero (P D) (front ++ s) ≡ Err (wrong s)
      at_end [] is = let none = nothing_before front s (sym is) in rw h (ap (λ (z : List Tok). Err (wrong z)) (sym is ∙ sym none))
      at_end (t ∷ z) is = absurd (let n = ap length is in omega arith)
  now_wrong D (suc N) front s fits h e = rw (h, e) refl

  abbrev Broken : List Tok → List Tok → Type 0
  Broken = Stays wrong (λ D. d ≤ D) (λ front r. Nonempty front → Begins (Many L) front)

  first_wrong : (ts r : List Tok) → stop (head ts) ≡ false → P d ts ≡ Err (wrong r) → Broken ts r
  first_wrong ts r h p =
      let R = E.wrong ts r p in
      record {
        front = R.front;
        whole = R.whole;
        shows = λ n. one_begins R.front (R.begins n);
        stable = λ D N s le fits heads. now_wrong D N R.front s fits (ap stop (sym (ap head R.whole ∙ head_append R.front r s heads)) ∙ h) (R.stable D s le heads);
      }

  -- where no token is left, an item is refused
  empty : (a : Result (A × List Tok) Fault) → P d [] ≡ a → P d [] ≡ Err (wrong [])
  empty (Ok x) is = absurd (let R = E.ok [] x.0 x.1 is in let none = ends R.front x.1 R.whole in subst Nonempty none (solid x.0 R.front R.spelled))
    where
      ends : (p q : List Tok) → [] ≡ p ++ q → p ≡ []
      ends [] q e = refl
      ends (t ∷ p) q e = absurd cc
  empty (Err (wrong w)) is = let R = E.wrong [] w is in is ∙ ap (λ (z : List Tok). Err (wrong z)) (nothing_before R.front w (sym R.whole))
  empty (Err (deep w)) is = absurd (let R = E.deep [] w is in let none = nothing_before R.front w (sym R.whole) in let bad : [] ≡ R.at ∷ R.after = sym none ∙ R.here in cc)

  end_wrong : (r : List Tok) → stop None ≡ false → wrong [] ≡ wrong r → Broken [] r
  end_wrong r h same = let nil : [] ≡ r = cc in subst (Broken []) nil (first_wrong [] [] h (empty (P d []) refl))

  many_wrong : (n : ℕ) (ts r : List Tok) → length ts ≤ n → many stop n (P d) ts ≡ Err (wrong r) → Broken ts r
  many_wrong = many_fails wrong (λ D. d ≤ D) (λ front r. Nonempty front → Begins (Many L) front) (λ D le. le) (λ x p q r l b n. after_some x p q l b) first_wrong end_wrong

  now_deep : (N : ℕ) (xs : List Tok) (s : List Tok) → length xs ≤ N → Nonempty xs → stop (head xs) ≡ false → P d xs ≡ Err (deep s) → many stop N (P d) xs ≡ Err (deep s)
  now_deep N [] s fits n h e = absurd n
  now_deep zero (t ∷ xs) s fits n h e = absurd (omega arith)
  now_deep (suc N) (t ∷ xs) s fits n h e = rw (h, e) refl

  some_head : (p s r : List Tok) (t : Tok) → head r ≡ Some t → head r ≡ head s → Nonempty (p ++ s)
  some_head (u ∷ p) s r t e same = tt
  some_head [] (u ∷ s) r t e same = tt
  some_head [] [] r t e same = absurd (let bad : Some t ≡ None = sym e ∙ same in cc)

  abbrev Drowned : List Tok → List Tok → Type 0
  Drowned = Stays deep (λ D. D ≡ d) (λ front r. (at : Tok) × (after : List Tok) × (r ≡ at ∷ after) × Begins (Many L) (front ++ at ∷ []))

  first_deep : (ts r : List Tok) → stop (head ts) ≡ false → P d ts ≡ Err (deep r) → Drowned ts r
  first_deep ts r h p =
      let R = E.deep ts r p in
      record {
        front = R.front;
        whole = R.whole;
        shows = (R.at, R.after, R.here, one_begins (R.front ++ R.at ∷ []) R.begins);
        stable = λ D N s is fits heads.
            rw is (now_deep N (R.front ++ s) s fits (some_head R.front s r R.at (ap head R.here) heads) (ap stop (sym (ap head R.whole ∙ head_append R.front r s heads)) ∙ h) (R.stable s heads));
      }

  many_deep : (n : ℕ) (ts r : List Tok) → length ts ≤ n → many stop n (P d) ts ≡ Err (deep r) → Drowned ts r
  many_deep = many_fails deep (λ D. D ≡ d) (λ front r. (at : Tok) × (after : List Tok) × (r ≡ at ∷ after) × Begins (Many L) (front ++ at ∷ [])) (λ D is. omega arith) deeper first_deep (λ r h same. absurd cc)
    where
      deeper : (x : A) (p q r : List Tok) → L x p → (at : Tok) × (after : List Tok) × (r ≡ at ∷ after) × Begins (Many L) (q ++ at ∷ []) → (at : Tok) × (after : List Tok) × (r ≡ at ∷ after) × Begins (Many L) ((p ++ q) ++ at ∷ [])
      deeper x p q r l b = (b.0, b.1, b.2, subst (Begins (Many L)) (sym (append_assoc p q (b.0 ∷ []))) (after_one x p (q ++ b.0 ∷ []) l b.3))

  -- A list is read exactly.
  pub many_exact : Exact (λ D. many_until stop (P D)) (Many L) (ManyFit W) (λ xs h. (stop h ≡ true) × T h) (λ xs h. stop h ≡ true) d
  many_exact = record {
    again = λ xs p q l w h. many_again xs (length (p ++ q)) p q (omega arith) l w h.0 h.1;
    ok = λ ts xs r e. let I = many_ok (length ts) ts xs r e in record { front = I.front; whole = I.whole; spelled = I.spelled; within = I.within; closed = I.closed; stable = λ D s le same. I.stable D (length (I.front ++ s)) s le (omega arith) same };
    wrong = λ ts r e. let I = many_wrong (length ts) ts r (omega arith) e in record { front = I.front; whole = I.whole; begins = I.shows; stable = λ D s le same. I.stable D (length (I.front ++ s)) s le (omega arith) same };
    deep = λ ts r e. let I = many_deep (length ts) ts r (omega arith) e in record { front = I.front; whole = I.whole; at = I.shows.0; after = I.shows.1; here = I.shows.2; begins = I.shows.3; stable = λ s same. I.stable d (length (I.front ++ s)) s refl (omega arith) same };
  }
