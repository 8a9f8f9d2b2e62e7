-- The table as it is opened.
use Rattle.std.proofs.Common.{◌≡◌, ◌⊎◌, ℕ, zero, suc, ◌+◌, ◌-◌, ◌<◌, ◌≤◌, ◌==◌, true, false, List, [], ◌∷◌, Some, replicate, slice_get, refl, sym, ap, ◌∙◌, subst, arith, inl, inr}
use Rattle.std.specs.Prelude.{if◌then◌else◌, nat_lt}
use Rattle.std.proofs.lemmas.Bool.Decides.{eqb_tells, leb_tells}
use mathlib.Core.Option.{some, some-ne-none, some-injective}
use lib.ListN.{get_elem?}
use Rattle.machine.specs.Answered.{Heard}
use Rattle.bytecode.specs.Code.{Configuration}
use Rattle.machine.specs.Worlds.{new_part, new_parts, new_world}
use Rattle.bytecode.specs.Valid.{IsValid}
use Rattle.bytecode.specs.Initial.{initial_of}
use Rattle.bytecode.specs.Beginning.{beginning}
use Rattle.shared_words.specs.Setup.{Setup}
use Rattle.shared_words.specs.Views.{Among, ViewPart, first_part, first_parts, first_view, parts_of}
use Rattle.shared_words.specs.Rule.{Fits, IsRuled}

abbrev pub nothing : List Heard
nothing = []

pub none_heard : (n i : ℕ) → i < n → slice_get (replicate n nothing) i ≡ Some nothing
none_heard zero i h = absurd (omega arith)
none_heard (suc n) zero h = refl
none_heard (suc n) (suc i) h = none_heard n i (omega arith)

pub new_part_there : (init : ℕ → Configuration) (b n i : ℕ) → i < n → slice_get (new_parts init b n) i ≡ Some (new_part (init (b + i)))
new_part_there init b zero i h = absurd (omega arith)
new_part_there init b (suc n) zero h = let e : b ≡ b + 0 = omega arith in ap (λ k. Some (new_part (init k))) e
new_part_there init b (suc n) (suc i) h = let e : suc b + i ≡ b + suc i = omega arith in new_part_there init (suc b) n i (omega arith) ∙ ap (λ k. Some (new_part (init k))) e

pub next_part : (key : Setup) (i n : ℕ) → i < n → first_parts key i (n - i) ≡ first_part key i ∷ first_parts key (i + 1) (n - (i + 1))
next_part key i n h = let e : n - i ≡ suc (n - (i + 1)) = omega arith in let next : suc i ≡ i + 1 = omega arith in ap (first_parts key i) e ∙ ap (λ (k : ℕ). first_part key i ∷ first_parts key k (n - (i + 1))) next

differ : (n m : ℕ) → (n ≡ m → ⊥) → ◌≡◌ {A = ℕ} (if n == m then 1 else 0) 0
differ n m h = at (eqb_tells n m)
  where
    at : (((n == m) ≡ true) × (n ≡ m)) ⊎ (((n == m) ≡ false) × (n ≡ m → ⊥)) → ◌≡◌ {A = ℕ} (if n == m then 1 else 0) 0
    at (inl f) = absurd (h f.1)
    at (inr f) = rw f.0 refl

same : (n m : ℕ) → n ≡ m → ◌≡◌ {A = ℕ} (if n == m then 1 else 0) 1
same n m e = rw (Rattle.std.proofs.Common.eq-eqb n m e) refl

module _ (key : Setup) where
  none_below : (number from count : ℕ) → number < from → parts_of number (first_parts key from count) ≡ 0
  none_below number from zero h = refl
  none_below number from (suc count) h = let rest = none_below number (suc from) count (omega arith) in let z = differ from number (λ e. omega arith) in omega arith

  none_above : (number from count : ℕ) → from + count ≤ number → parts_of number (first_parts key from count) ≡ 0
  none_above number from zero h = refl
  none_above number from (suc count) h = let rest = none_above number (suc from) count (omega arith) in let z = differ from number (λ e. omega arith) in omega arith

  one_there : (number from count : ℕ) → from ≤ number → number < from + count → parts_of number (first_parts key from count) ≡ 1
  one_there number from zero h l = absurd (omega arith)
  one_there number from (suc count) h l = at (λ g. one_there number (suc from) count g (omega arith)) (equal_or number from h)
    where
      equal_or : (n m : ℕ) → m ≤ n → (m ≡ n) ⊎ (suc m ≤ n)
      equal_or n m l = grind arith

      at : (suc from ≤ number → parts_of number (first_parts key (suc from) count) ≡ 1) → (from ≡ number) ⊎ (suc from ≤ number) → parts_of number (first_parts key from (suc count)) ≡ 1
      at ih (inl e) = let z = none_below number (suc from) count (omega arith) in let s = same from number e in omega arith
      at ih (inr g) = let rest = ih g in let z = differ from number (λ e. omega arith) in omega arith

  counts : (number : ℕ) → parts_of number (first_view key) ≡ (if nat_lt number key.threads then 1 else 0)
  counts number = at (leb_tells (suc number) key.threads)
    where
      at : ((nat_lt number key.threads ≡ true) × (suc number ≤ key.threads)) ⊎ ((nat_lt number key.threads ≡ false) × (key.threads < suc number)) → parts_of number (first_view key) ≡ (if nat_lt number key.threads then 1 else 0)
      at (inl f) = let lt = f.1 in one_there number 0 key.threads (omega arith) (omega arith) ∙ (rw f.0 refl)
      at (inr f) = let le = f.1 in none_above number 0 key.threads (omega arith) ∙ (rw f.0 refl)

  numbered : (p : ViewPart) (from count : ℕ) → Among p (first_parts key from count) → (p ≡ first_part key p.number) × (p.number < from + count)
  numbered p from zero a = absurd a
  numbered p from (suc count) (inl e) = let n : p.number ≡ from = ap (λ (q : ViewPart). q.number) e in (e ∙ ap (first_part key) (sym n), omega arith)
  numbered p from (suc count) (inr a) = let r = numbered p (suc from) count a in (r.0, let b = r.1 in omega arith)

  first_fits : (p : ViewPart) → Among p (first_view key) → Fits key [] (new_world (beginning key.code) (initial_of key.code) key.threads) (replicate key.threads []) p
  first_fits p a = let n = numbered p 0 key.threads a in
      let lt = n.1 in
      subst (λ (q : ViewPart). Fits key [] (new_world (beginning key.code) (initial_of key.code) key.threads) (replicate key.threads []) q) (sym n.0) (record {
        setup = refl;
        part = new_part_there (beginning key.code) 0 key.threads p.number (omega arith) ∙ (let e : 0 + p.number ≡ p.number = omega arith in ap (λ k. Some (new_part (beginning key.code k))) e);
        answers = none_heard key.threads p.number (omega arith);
        floor = omega arith;
        since = tt;
        seen = ([], refl);
        stands = record {
          steps = tt;
          part = new_part_there (beginning key.code) 0 key.threads p.number (omega arith) ∙ (let e : 0 + p.number ≡ p.number = omega arith in ap (λ k. Some (new_part (beginning key.code k))) e);
          answers = none_heard key.threads p.number (omega arith);
        };
      })

  pub opens : (words : List ℕ) → IsValid key.code → words ≡ 0 ∷ initial_of key.code → IsRuled key words (first_view key ∷ [])
  opens words valid e = record {
    trace = [];
    is_trace = record { steps = tt; world = refl; answers = refl };
    world = new_world (beginning key.code) (initial_of key.code) key.threads;
    heard = replicate key.threads [];
    words_are = e;
    valid = valid;
    once = λ number. (let c : parts_of number (first_view key) + 0 ≡ parts_of number (first_view key) = omega arith in c) ∙ counts number;
    fits = one;
  }
    where
      one : (seat : ℕ) (view : List ViewPart) (p : ViewPart) → get_elem? (first_view key ∷ []) seat ≡ some view → Among p view → Fits key [] (new_world (beginning key.code) (initial_of key.code) key.threads) (replicate key.threads []) p
      one zero view p f a = first_fits p (subst (Among p) (sym (some-injective _ _ f)) a)
      one (suc seat) view p f a = absurd (some-ne-none view (sym f))
