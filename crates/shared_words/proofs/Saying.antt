-- What the rule says, from the machine's laws.
use Rattle.std.proofs.Common.{◌≡◌, ◌≢◌, ◌⊎◌, inl, inr, ℕ, zero, suc, ◌+◌, ◌<◌, ◌≤◌, ◌==◌, Bool, true, false, cond, List, [], ◌∷◌, Some, slice_get, refl, sym, ap, ◌∙◌, subst, arith}
use Rattle.std.specs.Prelude.{nat_lt}
use Rattle.std.proofs.lemmas.Bool.Decides.{eqb_tells, leb_tells}
use Rattle.std.proofs.lemmas.Option.{slice_get_within}
use mathlib.Core.Option.{some}
use lib.ListN.{get_elem?}
use Rattle.machine.specs.Answered.{Heard}
use Rattle.machine.specs.Worlds.{World}
use Rattle.machine.proofs.answers.Reached.{answers_ok, numbers_below, runs}
use Rattle.machine.proofs.answers.Traces.{traced}
use Rattle.machine.proofs.runs.Computes.{answered_compute}
use Rattle.machine.proofs.runs.Drops.{drops_are_bounded}
use Rattle.bytecode.specs.Code.{Configuration, effect}
use Rattle.bytecode.specs.Beginning.{beginning}
use Rattle.bytecode.specs.Initial.{initial_of}
use Rattle.bytecode.specs.Valid.{IsValid, bounds_of}
use Rattle.bytecode.proofs.Fits.{fits_cells}
use Rattle.shared_words.proofs.Codes.{initial_fits}
use Rattle.shared_words.proofs.Traces.{ruled_world}
use Rattle.shared_words.specs.Setup.{IsWorldOf, Setup}
use Rattle.shared_words.specs.Views.{Among, ViewPart, Views, parts_in, parts_of}
use Rattle.shared_words.specs.Rule.{IsRuled}
use Rattle.shared_words.specs.Saying.{AllAreSeen, DropsSay, PartSays, RuleSays, RunsSay}

find_of : (number : ℕ) (v : List ViewPart) → 1 ≤ parts_of number v → (q : ViewPart) × Among q v × (q.number ≡ number)
find_of number [] le = absurd (omega arith)
find_of number (p ∷ ps) le = at (λ h. find_of number ps h) (eqb_tells p.number number) le
  where
    at : (1 ≤ parts_of number ps → (q : ViewPart) × Among q ps × (q.number ≡ number)) → (((p.number == number) ≡ true) × (p.number ≡ number)) ⊎ (((p.number == number) ≡ false) × (p.number ≢ number)) → 1 ≤ cond (p.number == number) 1 0 + parts_of number ps → (q : ViewPart) × Among q (p ∷ ps) × (q.number ≡ number)
    at ih (inl f) h = (p, inl refl, f.1)
    at ih (inr f) h = let k = subst (λ (b : Bool). 1 ≤ cond b 1 0 + parts_of number ps) f.0 h in let r = ih (omega arith) in (r.0, inr r.1, r.2)

find_in : (number : ℕ) (views : Views) → 1 ≤ parts_in number views → (seat : ℕ) × (view : List ViewPart) × (q : ViewPart) × (get_elem? views seat ≡ some view) × Among q view × (q.number ≡ number)
find_in number [] le = absurd (omega arith)
find_in number (v ∷ vs) le = at (λ h. find_in number vs h) (some_or (parts_of number v))
  where
    some_or : (n : ℕ) → (1 ≤ n) ⊎ (n ≡ 0)
    some_or zero = inr refl
    some_or (suc n) = inl (omega arith)

    at : (1 ≤ parts_in number vs → (seat : ℕ) × (view : List ViewPart) × (q : ViewPart) × (get_elem? vs seat ≡ some view) × Among q view × (q.number ≡ number)) → (1 ≤ parts_of number v) ⊎ (parts_of number v ≡ 0) → (seat : ℕ) × (view : List ViewPart) × (q : ViewPart) × (get_elem? (v ∷ vs) seat ≡ some view) × Among q view × (q.number ≡ number)
    at ih (inl h) = let r = find_of number v h in (0, v, r.0, refl, r.1, r.2)
    at ih (inr h) = let r = ih (omega arith) in (suc r.0, r.1, r.2, r.3, r.4, r.5)

lt_true : (a b : ℕ) → a < b → nat_lt a b ≡ true
lt_true a b lt = at (leb_tells (suc a) b)
  where
    at : ((nat_lt a b ≡ true) × (suc a ≤ b)) ⊎ ((nat_lt a b ≡ false) × (b < suc a)) → nat_lt a b ≡ true
    at (inl f) = f.0
    at (inr f) = let gt = f.1 in absurd (omega arith)

module _ (key : Setup) (w : World Configuration) (heard : List (List Heard)) (valid : IsValid key.code) (answered : IsWorldOf key w heard) where
  pub runs_say : RunsSay key w
  runs_say =
      let r = runs (effect key.code) (beginning key.code) (bounds_of key.code) (initial_of key.code) (initial_fits key.code) (fits_cells key.code valid) key.threads w heard answered in
      record {
        entries = r.0;
        is_merge = r.1;
        each = r.2;
        attempts = answered_compute (effect key.code) (beginning key.code) (bounds_of key.code) (initial_of key.code) (initial_fits key.code) (fits_cells key.code valid) key.threads w heard answered;
      }

  pub drops_say : DropsSay key w heard
  drops_say =
      let g = traced (effect key.code) (beginning key.code) (initial_of key.code) key.threads w heard answered in
      record {
        traced = g;
        bounded = drops_are_bounded (effect key.code) (beginning key.code) (bounds_of key.code) (initial_of key.code) (initial_fits key.code) (fits_cells key.code valid) key.threads g.trace;
      }

pub says : (key : Setup) (words : List ℕ) (views : Views) (rule : IsRuled key words views) → RuleSays key words views rule
says key words views rule = (runs_say key rule.world rule.heard rule.valid (ruled_world key words views rule), drops_say key rule.world rule.heard rule.valid (ruled_world key words views rule), seen, each)
  where
    seen : AllAreSeen rule.world views
    seen t p e =
        let r = runs (effect key.code) (beginning key.code) (bounds_of key.code) (initial_of key.code) (initial_fits key.code) (fits_cells key.code rule.valid) key.threads rule.world rule.heard (ruled_world key words views rule) in
        let count = (r.2 r.0 r.1).count in
        let below = slice_get_within rule.world.parts t p e in
        let one = rule.once t in
        let lt = lt_true t key.threads (omega arith) in
        let ones : parts_in t views ≡ 1 = one ∙ (ap (λ (b : Bool). cond b 1 0) lt) in
        let f = find_in t views (omega arith) in
        let g : Some f.2.part ≡ Some p = sym (rule.fits f.0 f.1 f.2 f.3 f.4).part ∙ ap (slice_get rule.world.parts) f.5 ∙ e in
        (f.0, f.1, f.2, f.3, f.4, f.5, (cc))

    each : (seat : ℕ) (view : List ViewPart) (p : ViewPart) → get_elem? views seat ≡ some view → Among p view → PartSays key rule.world p
    each seat view p at a =
        let f = rule.fits seat view p at a in
        record {
          answers = answers_ok (effect key.code) (beginning key.code) (bounds_of key.code) (initial_of key.code) (initial_fits key.code) (fits_cells key.code rule.valid) key.threads rule.world rule.heard (ruled_world key words views rule) p.number p.part p.heard f.part f.answers;
          below = numbers_below (effect key.code) (beginning key.code) (bounds_of key.code) (initial_of key.code) (initial_fits key.code) (fits_cells key.code rule.valid) key.threads rule.world rule.heard (ruled_world key words views rule) p.number p.part f.part;
          floor = f.floor;
          since = f.since;
        }
