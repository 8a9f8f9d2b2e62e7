-- Laws of safe functions and programs.
use Rattle.std.specs.Prelude.{◌≡◌, ◌≢◌, ℕ, List, Some}
use Rattle.syntax.specs.Tree.{Span, Stmts, Function, Program}
use Rattle.syntax.specs.Names.{definition_of}
use Rattle.syntax.specs.Actions.{State}
use Rattle.syntax.specs.Meaning.{Cancels, CancelsOuter, stmts, calls}
use Rattle.syntax.specs.Laws.{WhereGiven}
use Rattle.safety.specs.Safe.{IsSafeSet, IsSafe, IsSafeProgram}
use Rattle.safety.specs.Faults.{IsSafetyFault}

-- the safe functions are themselves a safe set, and so the greatest one
abbrev pub SafeIsSafeSet : Type 0
SafeIsSafeSet = (p : Program) → IsSafeSet p (IsSafe p)

-- a safe program has no fault of safety
abbrev pub SafeHasNoFault : Type 0
SafeHasNoFault = (p : Program) → IsSafeProgram p → (n : ℕ) (at : Span) → IsSafetyFault n at p → ⊥

-- in a safe program no cancel and no outer cancel leaves the body of a definition
abbrev pub CancelsStay : Type 0
CancelsStay =
    (p : Program) → IsSafeProgram p → (x : List ℕ) (d : Function × Stmts) → definition_of p x ≡ Some d →
    (frames : ℕ) (s : State) →
    WhereGiven (stmts p (calls p frames) d.1 s) (λ end now. (end ≢ Cancels) × (end ≢ CancelsOuter))
