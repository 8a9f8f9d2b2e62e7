-- Small programs, and their first unmet demands where the functions that touch are these.
use Rattle.std.proofs.Common.{◌≡◌, refl, ℕ, ◌+◌, [], ◌∷◌, Option, Some, None, true, false}
use Rattle.std.specs.Prelude.{codes, bytes_eq}
use Rattle.lex.specs.declared.token.Span.{Span}
use Rattle.syntax.specs.Tree as Tree
use Rattle.syntax.specs.Tree.{Variable, Assign, Evaluate, Call, Do, Program}
use Rattle.syntax.specs.Typing.{first_unmet}
use Rattle.syntax.proofs.samples.Rows.{num, sets_one, just, worker_with, global}
use Rattle.syntax.proofs.samples.MoreRows.{then_}
use Rattle.safety.specs.Sites.{sites_of}
use Rattle.safety.specs.Safe.{FunctionSet}
use Rattle.separation.specs.Touching.{separation_demands}

abbrev fault : Program → FunctionSet → Option (ℕ × Span)
fault p touching = first_unmet (separation_demands touching (sites_of p (codes "worker")))

abbrev at : ℕ → Span
at n = record { start = n; end = n + 1 }

-- int x; W{ f(); x = 1; }
abbrev bare : Program
bare =
    global (codes "x")
    ∷ worker_with (then_ (Do (Evaluate (Call (record { text = codes "f"; span = at 3 }) Tree.[] (at 3)))) (just (Do (Assign (Variable (record { text = codes "x"; span = at 5 })) None (num 1))))) ∷ []

bare_access : fault bare (bytes_eq (codes "worker")) ≡ Some (50, at 5)
bare_access = refl

bare_call : fault bare (λ f. true) ≡ Some (51, at 3)
bare_call = refl

in_transaction : fault sets_one (λ f. false) ≡ None
in_transaction = refl
