-- A list of demands with no unmet one.
use Rattle.std.proofs.Common.{◌≡◌, ℕ, List, [], ◌∷◌, ◌++◌, Option, Some, None, Bool, true, false, refl, if◌then◌else◌, All, IsTrue, codes, ◌≤◌, nat_le, arith}
use Rattle.std.proofs.lemmas.Bool.Decides.{nat_tests}
use Rattle.std.proofs.lemmas.List.Elements.{All-cons, All-nil}
use Rattle.syntax.specs.Tree.{Span, Program}
use Rattle.syntax.specs.Types.{file_scope}
use Rattle.syntax.specs.Typing.{is_worker}
use Rattle.syntax.specs.Typing.{Demand, first_unmet, demand, AreTypedItems, AreDefined, Meets, IsTypedProgram}

pub met_first : (b : Bool) (r : Option (ℕ × Span)) (f : ℕ × Span) → None ≡ (if b then r else Some f) → IsTrue b × (None ≡ r)
met_first true r f h = (refl, h)
met_first false r f h = absurd cc

-- each demand is met
pub all_met : (ds : List Demand) → None ≡ first_unmet ds → All (λ d. IsTrue d.met) ds
all_met [] h = All-nil (λ d. IsTrue d.met)
all_met (d ∷ ds) h = let p = met_first d.met (first_unmet ds) (d.number, d.span) h in All-cons (λ e. IsTrue e.met) d ds p.0 (all_met ds p.1)

step_anywhere : (t : Bool) (r s : Option (ℕ × Span)) (f : ℕ × Span) → (None ≡ r → None ≡ s) → IsTrue t × (None ≡ r) → None ≡ (if t then s else Some f)
step_anywhere true r s f go h = go h.1
step_anywhere false r s f go h = absurd (let t = h.0 in cc)

-- the place of a missing `worker` does not matter to a program that has one
pub met_anywhere : (ds : List Demand) (n : ℕ) (a b : Span) (met : Bool) → None ≡ first_unmet (ds ++ demand n a met) → None ≡ first_unmet (ds ++ demand n b met)
met_anywhere [] n a b true h = refl
met_anywhere [] n a b false h = absurd cc
met_anywhere (d ∷ ds) n a b met h = step_anywhere d.met (first_unmet (ds ++ demand n a met)) (first_unmet (ds ++ demand n b met)) (d.number, d.span) (met_anywhere ds n a b met) (met_first d.met (first_unmet (ds ++ demand n a met)) (d.number, d.span) h)

-- a program that breaks no rule is typed
pub typed_program : (end : ℕ) (p : Program) → None ≡ first_unmet (Meets end p) → IsTypedProgram p
typed_program end p h = all_met (Meets 0 p) (met_anywhere (AreTypedItems [] p ++ AreDefined p [] p) 28 (record { start = end; end = end }) (record { start = 0; end = 0 }) (is_worker (file_scope p (codes "worker"))) h)

-- the last of them is met
pub last_met : (ds : List Demand) (n : ℕ) (at : Span) (met : Bool) → None ≡ first_unmet (ds ++ demand n at met) → met ≡ true
last_met [] n at met h = (met_first met None (n, at) h).0
last_met (d ∷ ds) n at met h = last_met ds n at met (met_first d.met (first_unmet (ds ++ demand n at met)) (d.number, d.span) h).1

-- the first of them is met
pub first_met : (n : ℕ) (at : Span) (met : Bool) (ds : List Demand) → None ≡ first_unmet (demand n at met ++ ds) → met ≡ true
first_met n at met ds h = (met_first met (first_unmet ds) (n, at) h).0

pub le_true : (a b : ℕ) → nat_le a b ≡ true → a ≤ b
le_true a b h = grind (arith, nat_tests)
