-- Small programs, typed, and the first faults of others.
use Rattle.std.proofs.Common.{◌≡◌, refl, ℕ, List, [], ◌∷◌, Some, None, true, false}
use Rattle.std.specs.Prelude.{codes}
use Rattle.lex.specs.declared.token.Span.{Span}
use Rattle.lex.specs.Tokens.{Tok}
use Rattle.syntax.specs.Tree.{Name, Expr, Variable, Stmt, Do, Assign, If, IfElse, Program}
use Rattle.syntax.specs.Grammar as Grammar
use Rattle.syntax.specs.Typing.{Meets, IsTypedProgram, first_unmet}
use Rattle.syntax.proofs.typing.Demands.{all_met}
use Rattle.syntax.proofs.samples.Rows.{num, sets_one, atomic, just, worker_with}

sets_one_typed : IsTypedProgram sets_one
sets_one_typed = all_met (Meets 0 sets_one) refl

-- spans of the text
abbrev between : ℕ → ℕ → Span
between start end = record { start = start; end = end }

abbrev name_at : List ℕ → ℕ → ℕ → Name
name_at x start end = record { text = x; span = between start end }

-- W{ atomic { z = 1; } }: no name z is known
abbrev sets_unknown : Program
sets_unknown = worker_with (just (atomic (just (Do (Assign (Variable (name_at (codes "z") 47 48)) None (num 1)))))) ∷ []

unknown_name : first_unmet (Meets 80 sets_unknown) ≡ Some (20, between 47 48)
unknown_name = refl

no_worker : first_unmet (Meets 3 []) ≡ Some (28, between 3 3)
no_worker = refl

-- an else never belongs to the outer of two ifs
no_outer_else : (c d : Expr) (a b : Stmt) (ts : List Tok) → Grammar.stmt (IfElse c (If d a) b) ts → ⊥
no_outer_else c d a b ts h = let e : true ≡ false = h.0 in cc
