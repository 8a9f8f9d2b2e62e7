-- Reading a list item by item, as a loop does.
use Rattle.std.proofs.Common.{◌≡◌, ℕ, zero, suc, ◌+◌, ◌-◌, ◌<◌, Bool, true, false, List, [], ◌∷◌, ◌++◌, Option, Result, Ok, Err, refl, sym, ap, ◌∙◌, append_assoc, arith, ◌⊎◌, inl, inr}
use Rattle.std.proofs.lemmas.List.{append-nil}
use Rattle.lex.specs.Tokens.{Tok}
use Rattle.parse.specs.inner.Reading.{Fault, wrong, ◌>>=◌, Parser, head, many}

-- what was read before, and what is still read
abbrev pub onward : {A : Type 0} → List A → Result (List A × List Tok) Fault → Result (List A × List Tok) Fault
onward front read = read >>= λ x. Ok (front ++ x.0, x.1)

pub nothing_before : {A : Type 0} (read : Result (List A × List Tok) Fault) → onward [] read ≡ read
nothing_before (Ok x) = refl
nothing_before (Err f) = refl

module _ {A : Type 0} (stop : Option Tok → Bool) (P : Parser A) where
  regroup : (front : List A) (x : A) (read : Result (List A × List Tok) Fault) → onward front (read >>= λ y. Ok (x ∷ y.0, y.1)) ≡ onward (front ++ x ∷ []) read
  regroup front x (Ok y) = ap (λ (xs : List A). Ok (xs, y.1)) (sym (append_assoc front (x ∷ []) y.0))
  regroup front x (Err f) = refl

  pub goes_on : (front : List A) (len i : ℕ) (ts after : List Tok) (x : A) (total : Result (List A × List Tok) Fault) → i < len → stop (head ts) ≡ false → P ts ≡ Ok (x, after)
      → onward front (many stop (len - i) P ts) ≡ total → onward (front ++ x ∷ []) (many stop (len - (i + 1)) P after) ≡ total
  goes_on front len i ts after x total lt h e so_far =
      let k : len - i ≡ suc (len - (i + 1)) = omega arith in
      let one : onward front (many stop (len - i) P ts) ≡ onward (front ++ x ∷ []) (many stop (len - (i + 1)) P after) = rw (k, h, e) (regroup front x (many stop (len - (i + 1)) P after)) in
      sym one ∙ so_far

  pub fails_on : (front : List A) (len i : ℕ) (ts : List Tok) (f : Fault) (total : Result (List A × List Tok) Fault) → i < len → stop (head ts) ≡ false → P ts ≡ Err f
      → onward front (many stop (len - i) P ts) ≡ total → total ≡ Err f
  fails_on front len i ts f total lt h e so_far =
      let k : len - i ≡ suc (len - (i + 1)) = omega arith in
      let one : onward front (many stop (len - i) P ts) ≡ Err f = rw (k, h, e) refl in
      sym so_far ∙ one

  pub stops_at : (front : List A) (n : ℕ) (ts : List Tok) (total : Result (List A × List Tok) Fault) → stop (head ts) ≡ true → onward front (many stop n P ts) ≡ total → total ≡ Ok (front, ts)
  stops_at front zero ts total h so_far = sym so_far ∙ rw h (ap (λ (xs : List A). Ok (xs, ts)) (append-nil front))
  stops_at front (suc n) ts total h so_far = sym so_far ∙ rw h (ap (λ (xs : List A). Ok (xs, ts)) (append-nil front))

  pub runs_out : (front : List A) (n : ℕ) (ts : List Tok) (total : Result (List A × List Tok) Fault) → n ≡ 0 → stop (head ts) ≡ false → onward front (many stop n P ts) ≡ total → total ≡ Err (wrong ts)
  runs_out front n ts total z h so_far = sym so_far ∙ rw (z, h) refl

test : (b : Bool) → (b ≡ true) ⊎ (b ≡ false)
test true = inl refl
test false = inr refl

-- what was read, and then something else
abbrev pub joined : {A B : Type 0} → Parser B → Result (List A × List Tok) Fault → Result ((List A × B) × List Tok) Fault
joined {B = B} Q read = read >>= λ x. Q x.1 >>= λ (y : B × List Tok). Ok ((x.0, y.0), y.1)

-- After a loop something is read that is wrong where the loop did not stop.
module _ {A B : Type 0} (stop : Option Tok → Bool) (P : Parser A) (Q : Parser B) (front : List A) (n : ℕ) (rest : List Tok) (total : Result (List A × List Tok) Fault)
    (refuses : stop (head rest) ≡ false → Q rest ≡ Err (wrong rest))
    (so_far : onward front (many stop n P rest) ≡ total) where
  no_both : {X : Type 0} (r : Result X Fault) (x : X) (f : Fault) → r ≡ Ok x → r ≡ Err f → ⊥
  no_both r x f p q = cc

  not_both : (b : Bool) → b ≡ true → b ≡ false → ⊥
  not_both b p q = cc

  same_err : {X Y : Type 0} (r : Result X Fault) (s : Result Y Fault) (w f : Fault) → s ≡ Err w → r ≡ Err w → r ≡ Err f → s ≡ Err f
  same_err r s w f e p q = let same : w ≡ f = cc in rw (e, same) refl

  -- what is read next ends it
  pub good_end : (x : B × List Tok) → Q rest ≡ Ok x → total ≡ Ok (front, rest)
  good_end x e = elim (test (stop (head rest))) [
    | inl h ↦ stops_at stop P front n rest total h so_far
    | inr h ↦ absurd (no_both (Q rest) x (wrong rest) e (refuses h))
  ]

  -- what fails next fails the whole
  pub bad_end : (f : Fault) → (n ≡ 0) ⊎ (stop (head rest) ≡ true) → Q rest ≡ Err f → joined Q total ≡ Err f
  bad_end f way e = elim (test (stop (head rest))) [
    | inl h ↦ rw (stops_at stop P front n rest total h so_far, e) refl
    | inr h ↦ at_end way h
  ]
    where
      at_end : (n ≡ 0) ⊎ (stop (head rest) ≡ true) → stop (head rest) ≡ false → joined Q total ≡ Err f
      at_end (inl z) h = let out = runs_out stop P front n rest total z h so_far in same_err (Q rest) (joined Q total) (wrong rest) f (rw out refl) (refuses h) e
      at_end (inr y) h = absurd (not_both (stop (head rest)) y h)
