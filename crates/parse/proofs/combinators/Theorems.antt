-- From an exact parser to what a whole call promises, for any language.
use Rattle.std.proofs.Common.{◌≡◌, ℕ, ◌≤◌, max, List, [], ◌∷◌, ◌++◌, None, Result, Ok, Err, refl, sym, ap, subst, ◌∙◌, append_assoc, arith, inl, inr}
use Rattle.std.proofs.lemmas.Bool.{cases_lt}
use Rattle.std.proofs.lemmas.List.{append-nil}
use Rattle.lex.specs.Tokens.{Tok}
use Rattle.syntax.specs.Phrases.{Phrase, Begins, IsUnexpected, IsTooDeep}
use Rattle.parse.specs.inner.Reading.{Fault, wrong, deep, ◌>>=◌, Parser, head, whole_input}
use Rattle.parse.proofs.combinators.Exact.{Nonempty, Exact, Always, bind_ok, bind_err}

no_both : {A : Type 0} (r : Result A Fault) (x : A) (f : Fault) → r ≡ Ok x → r ≡ Err f → ⊥
no_both r x f p q = cc

finished_ok : {A : Type 0} (x : A × List Tok) (e : A) → whole_input x ≡ Ok e → (x.0 ≡ e) × (x.1 ≡ [])
finished_ok (x, []) e h = (cc, refl)
finished_ok (x, t ∷ ts) e h = absurd cc

finished_wrong : {A : Type 0} (x : A × List Tok) (r : List Tok) → whole_input x ≡ Err (wrong r) → (x.1 ≡ r) × Nonempty r
finished_wrong (x, []) r h = absurd cc
finished_wrong (x, t ∷ ts) r h = let same : wrong (t ∷ ts) ≡ wrong r = cc in let eq : t ∷ ts ≡ r = cc in (eq, subst Nonempty eq tt)

finished_deep : {A : Type 0} (x : A × List Tok) (r : List Tok) → whole_input x ≡ Err (deep r) → ⊥
finished_deep (x, []) r h = cc
finished_deep (x, t ∷ ts) r h = cc

-- Nothing follows what is read.
module _ {A : Type 0} (P : ℕ → Parser A) (L : A → Phrase) (depth : A → ℕ)
    (E : (d : ℕ) → Exact P L (λ D x. depth x ≤ D) (λ x h. h ≡ None) Always d) (some : Begins L []) where
  -- something that the tokens spell to their end
  abbrev pub whole : ℕ → List Tok → Result A Fault
  whole d ts = P d ts >>= whole_input

  -- what is spelled is read, within its depth
  pub whole_again : (d : ℕ) (e : A) (ts : List Tok) → L e ts → depth e ≤ d → whole d ts ≡ Ok e
  whole_again d e ts s w =
      let read = (E d).again e ts [] s w refl in
      let same : ts ++ [] ≡ ts = append-nil ts in
      let read' : P d ts ≡ Ok (e, []) = ap (P d) (sym same) ∙ read in
      rw read' refl

  -- no list of tokens spells two trees
  pub one_tree_law : (ts : List Tok) (a b : A) → L a ts → L b ts → a ≡ b
  one_tree_law ts a b sa sb =
      let d = max (depth a) (depth b) in
      let ra = whole_again d a ts sa (omega arith) in
      let rb = whole_again d b ts sb (omega arith) in
      cc

  -- what is read is spelled so
  pub whole_found : (d : ℕ) (ts : List Tok) (e : A) → whole d ts ≡ Ok e → L e ts × (depth e ≤ d)
  whole_found d ts e h =
      let b = bind_ok (P d ts) whole_input e h in
      let f = finished_ok b.0 e b.2 in
      let R = (E d).ok ts (b.0).0 (b.0).1 b.1 in
      let whole : ts ≡ R.front = R.whole ∙ ap (λ (z : List Tok). R.front ++ z) f.1 ∙ append-nil R.front in
      subst (λ (x : A). L x ts × (depth x ≤ d)) f.0 (subst (L (b.0).0) (sym whole) R.spelled, R.within)

  begun_any : (p : List Tok) → (Nonempty p → Begins L p) → Begins L p
  begun_any [] b = some
  begun_any (t ∷ p) b = b tt

  -- a fault with its span, and why nothing goes on there
  pub record Blocked (d : ℕ) (ts r : List Tok) : Type 0 where
    pub front : List Tok
    pub parts : ts ≡ front ++ r
    pub begun : Begins L front
    pub stable : (D : ℕ) (s : List Tok) → d ≤ D → head r ≡ head s → whole D (front ++ s) ≡ Err (wrong s)

  closed_wrong : (D : ℕ) (ts : List Tok) (e : A) (t : Tok) (s : List Tok) → P D ts ≡ Ok (e, t ∷ s) → whole D ts ≡ Err (wrong (t ∷ s))
  closed_wrong D ts e t s h = rw h refl

  pub whole_wrong : (d : ℕ) (ts r : List Tok) → whole d ts ≡ Err (wrong r) → Blocked d ts r
  whole_wrong d ts r h =
      elim (bind_err (P d ts) whole_input (wrong r) h) [
        | inl p ↦
            let R = (E d).wrong ts r p in
            record { front = R.front; parts = R.whole; begun = begun_any R.front R.begins; stable = λ D s le same. rw (R.stable D s le same) refl }
        | inr b ↦
            let f = finished_wrong b.0 r b.2 in
            let R = (E d).ok ts (b.0).0 (b.0).1 b.1 in
            record {
              front = R.front;
              parts = R.whole ∙ ap (λ (z : List Tok). R.front ++ z) f.0;
              begun = record { value = (b.0).0; more = []; spelled = subst (L (b.0).0) (sym (append-nil R.front)) R.spelled };
              stable = λ D s le same. nonempty D (b.0).0 R.front s r f.1 same (R.stable D s le (ap head f.0 ∙ same));
            }
      ]
    where
      nonempty : (D : ℕ) (e : A) (front s r : List Tok) → Nonempty r → head r ≡ head s → P D (front ++ s) ≡ Ok (e, s) → whole D (front ++ s) ≡ Err (wrong s)
      nonempty D e front [] [] n same h = absurd n
      nonempty D e front [] (t ∷ r) n same h = absurd cc
      nonempty D e front (u ∷ s) r n same h = closed_wrong D (front ++ (u ∷ s)) e u s h

  pub unexpected : (ts : List Tok) (t : Tok) (after : List Tok) (d : ℕ) → whole d ts ≡ Err (wrong (t ∷ after)) → IsUnexpected L ts t.span
  unexpected ts t after d h =
      let B = whole_wrong d ts (t ∷ after) h in
      record {
        here = record { before = B.front; token = t; after = after; whole = B.parts; there = refl };
        begins = B.begun;
        not = λ b.
            let D = max d (depth b.value) in
            let parts = append_assoc B.front (t ∷ []) b.more in
            let ok = whole_again D b.value (B.front ++ (t ∷ b.more)) (subst (L b.value) parts b.spelled) (omega arith) in
            no_both (whole D (B.front ++ (t ∷ b.more))) b.value (wrong (t ∷ b.more)) ok (B.stable D (t ∷ b.more) (omega arith) refl);
      }

  pub begins_all : (ts : List Tok) (d : ℕ) → whole d ts ≡ Err (wrong []) → Begins L ts
  begins_all ts d h =
      let B = whole_wrong d ts [] h in
      subst (Begins L) (sym (B.parts ∙ append-nil B.front)) B.begun

  pub spells_none : (ts : List Tok) (d : ℕ) → whole d ts ≡ Err (wrong []) → (e : A) → L e ts → ⊥
  spells_none ts d h e l =
      let B = whole_wrong d ts [] h in
      let D = max d (depth e) in
      let ok = whole_again D e ts l (omega arith) in
      let err : whole D ts ≡ Err (wrong []) = ap (whole D) B.parts ∙ B.stable D [] (omega arith) refl in
      no_both (whole D ts) e (wrong []) ok err

  pub too_deep : (ts : List Tok) (t : Tok) (after : List Tok) (d : ℕ) → whole d ts ≡ Err (deep (t ∷ after)) → IsTooDeep L depth d ts t.span
  too_deep ts t after d h =
      elim (bind_err (P d ts) whole_input (deep (t ∷ after)) h) [
        | inl p ↦
            let R = (E d).deep ts (t ∷ after) p in
            let same : t ≡ R.at = first_same R.here in
            record {
              here = record { before = R.front; token = t; after = after; whole = R.whole; there = refl };
              begins = subst (λ (x : Tok). Begins L (R.front ++ x ∷ [])) (sym same) R.begins;
              deep = λ b. elim (cases_lt d (depth b.value)) [
                | inl lt ↦ lt
                | inr le ↦
                    let parts = append_assoc R.front (t ∷ []) b.more in
                    let ok = whole_again d b.value (R.front ++ (t ∷ b.more)) (subst (L b.value) parts b.spelled) le in
                    let err : whole d (R.front ++ (t ∷ b.more)) ≡ Err (deep (t ∷ b.more)) = rw (R.stable (t ∷ b.more) refl) refl in
                    absurd (no_both (whole d (R.front ++ (t ∷ b.more))) b.value (deep (t ∷ b.more)) ok err)
              ];
            }
        | inr b ↦ absurd (finished_deep b.0 (t ∷ after) b.2)
      ]
    where
      first_same : {a b : List Tok} {x y : Tok} → x ∷ a ≡ y ∷ b → x ≡ y
      first_same h = cc

  pub no_deep_end : (ts : List Tok) (d : ℕ) → whole d ts ≡ Err (deep []) → ⊥
  no_deep_end ts d h =
      elim (bind_err (P d ts) whole_input (deep []) h) [
        | inl p ↦ (let R = (E d).deep ts [] p in empty_not R.here)
        | inr b ↦ finished_deep b.0 [] b.2
      ]
    where
      empty_not : {x : Tok} {a : List Tok} → [] ≡ x ∷ a → ⊥
      empty_not h = cc

  -- what is spelled within the depth meets no fault
  pub none_fails : (ts : List Tok) (d : ℕ) (f : Fault) → whole d ts ≡ Err f → (e : A) → L e ts → depth e ≤ d → ⊥
  none_fails ts d f h e l w = no_both (whole d ts) e f (whole_again d e ts l w) h
