-- Loops that read items up to a fixed token, which is read too: each way round them and out of them.
use Rattle.std.proofs.Common.{◌≡◌, ℕ, ◌+◌, ◌-◌, ◌<◌, Bool, true, false, Option, List, [], ◌∷◌, ◌++◌, length, Result, Ok, Err, refl, sym, ap, subst, ◌∙◌, ◌⊎◌}
use Rattle.lex.specs.declared.token.Fixed.{Fixed}
use Rattle.lex.specs.Tokens.{Tok}
use Rattle.parse.specs.declared.fault.ParseFailure.{ParseFailure}
use Rattle.parse.specs.inner.Reading.{Fault, wrong, ◌>>=◌, Fails, Parser, head, many, many_until, expect}
use Rattle.parse.proofs.code.Climbing.{fails_along}
use Rattle.parse.proofs.code.Turns.{onward, joined, nothing_before, goes_on, fails_on, good_end, bad_end}
use Rattle.parse.proofs.code.Braces.{ended}

module _ {A : Type 0} (stop : Option Tok → Bool) (P : Parser A) (k : Fixed) (total : Result (List A × List Tok) Fault) where
  -- what was read, and what is still to be read, give the whole
  abbrev pub Round : List A → ℕ → List Tok → Type 0
  Round front n ts = ended k (onward front (many stop n P ts)) ≡ total

  pub round_starts : (ts : List Tok) (n : ℕ) → n ≡ length ts → ended k (many_until stop P ts) ≡ total → Round [] n ts
  round_starts ts n e h = rw e (ap (ended k) (nothing_before (many_until stop P ts)) ∙ h)

  pub round_goes : (front : List A) (len i : ℕ) (ts after : List Tok) (x : A) → Round front (len - i) ts → i < len → stop (head ts) ≡ false → P ts ≡ Ok (x, after) → Round (front ++ x ∷ []) (len - (i + 1)) after
  round_goes front len i ts after x so_far lt h e = ap (ended k) (goes_on stop P front len i ts after x (onward front (many stop (len - i) P ts)) lt h e refl) ∙ so_far

  pub round_goes_to : (front more : List A) (len i : ℕ) (ts after : List Tok) → Round front (len - i) ts → i < len → stop (head ts) ≡ false → ◌>>=◌ {B = List A × List Tok} (P ts) (λ x. Ok (front ++ x.0 ∷ [], x.1)) ≡ Ok (more, after) → Round more (len - (i + 1)) after
  round_goes_to front more len i ts after so_far lt h made = go (P ts) refl made
    where
      go : (r : Result (A × List Tok) Fault) → P ts ≡ r → ◌>>=◌ {B = List A × List Tok} r (λ x. Ok (front ++ x.0 ∷ [], x.1)) ≡ Ok (more, after) → Round more (len - (i + 1)) after
      go (Err f) e m = absurd cc
      go (Ok x) e m =
          let both : (front ++ x.0 ∷ [], x.1) ≡ (more, after) = cc in
          let one : Round (front ++ x.0 ∷ []) (len - (i + 1)) x.1 = round_goes front len i ts x.1 x.0 so_far lt h e in
          subst (λ (z : List A × List Tok). Round z.0 (len - (i + 1)) z.1) both one

  pub round_fails : (e : ParseFailure) (front : List A) (len i : ℕ) (ts : List Tok) → Round front (len - i) ts → i < len → stop (head ts) ≡ false → Fails e (P ts) → Fails e total
  round_fails e front len i ts so_far lt h =
      fails_along e (P ts) total (λ f failed. sym so_far ∙ whole f (fails_on stop P front len i ts f (onward front (many stop (len - i) P ts)) lt h failed refl))
    where
      whole : (f : Fault) → onward front (many stop (len - i) P ts) ≡ Err f → ended k (onward front (many stop (len - i) P ts)) ≡ Err f
      whole f out = rw out refl

  module _ (front : List A) (n : ℕ) (ts : List Tok) (refuses : stop (head ts) ≡ false → expect k ts ≡ Err (wrong ts)) where
    pub round_bad : (e : ParseFailure) → Round front n ts → (n ≡ 0) ⊎ (stop (head ts) ≡ true) → Fails e (expect k ts) → Fails e total
    round_bad e so_far way =
        fails_along e (expect k ts) total (λ f failed. sym so_far ∙ whole f (bad_end stop P (expect k) front n ts (onward front (many stop n P ts)) refuses refl f way failed))
      where
        whole : (f : Fault) → joined (expect k) (onward front (many stop n P ts)) ≡ Err f → ended k (onward front (many stop n P ts)) ≡ Err f
        whole f out = rw out refl

    pub round_good : (r : List Tok) → Round front n ts → expect k ts ≡ Ok (tt, r) → total ≡ Ok (front, r)
    round_good r so_far e = sym so_far ∙ rw (good_end stop P (expect k) front n ts (onward front (many stop n P ts)) refuses refl (tt, r) e, e) refl
