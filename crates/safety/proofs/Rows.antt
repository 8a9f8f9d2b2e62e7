-- Small programs, their sites, and their first unmet demands where the functions that are safe are these.
use Rattle.std.proofs.Common.{◌≡◌, refl, ℕ, ◌+◌, List, [], ◌∷◌, Option, Some, None, Bool, true, false}
use Rattle.std.specs.Prelude.{codes, bytes_eq, not}
use Rattle.lex.specs.declared.token.Span.{Span}
use Rattle.syntax.specs.declared.tree.Mode.TheVariants.{Relaxed}
use Rattle.syntax.specs.declared.tree.TransactionKind.TheVariants.{Plain}
use Rattle.syntax.specs.declared.tree.Attribute.TheVariants.{Safe}
use Rattle.syntax.specs.Tree as Tree
use Rattle.syntax.specs.Tree.{Evaluate, Call, Stmts, Do, Print, Transaction, Cancel, Item, Defines, Program}
use Rattle.syntax.specs.Typing.{first_unmet}
use Rattle.syntax.proofs.samples.Rows.{here, called, sets_one, atomic, just, worker_with}
use Rattle.syntax.proofs.samples.MoreRows.{then_}
use Rattle.safety.specs.Sites.{Construct, Uses, Site, sites_of}
use Rattle.safety.specs.Safe.{FunctionSet}
use Rattle.safety.specs.Faults.{safety_demands}

abbrev site : Construct → Bool → Bool → Site
site c atomic in_any = record { construct = c; span = here; atomic = atomic; outer = false; in_any = in_any }

-- all functions but this one
abbrev but : List ℕ → FunctionSet
but f g = not (bytes_eq f g)

abbrev fault : Program → FunctionSet → Option (ℕ × Span)
fault p safe = first_unmet (safety_demands p safe (λ f. false))

abbrev at : ℕ → Span
at n = record { start = n; end = n + 1 }

-- int x; W{ atomic { x = 1; } }
sets_one_sites : sites_of sets_one (codes "worker") ≡ site (Uses (codes "x")) true true ∷ []
sets_one_sites = refl

sets_one_safe : fault sets_one (λ f. true) ≡ None
sets_one_safe = refl

-- W{ atomic { relaxed { } } }
abbrev relaxed_inside : Program
relaxed_inside = worker_with (just (atomic (just (Transaction (Plain Relaxed) Tree.[] (at 5))))) ∷ []

relaxed_in_atomic : fault relaxed_inside (but (codes "worker")) ≡ Some (41, at 5)
relaxed_in_atomic = refl

-- W{ relaxed { cancel; } }
abbrev cancels_relaxed : Program
cancels_relaxed = worker_with (just (Transaction (Plain Relaxed) (just (Cancel (at 6))) here)) ∷ []

cancel_outside_atomic : fault cancels_relaxed (but (codes "worker")) ≡ Some (42, at 6)
cancel_outside_atomic = refl

-- safe void f(void) { cancel; printf(""); } W{ atomic { f(); } }: a promise comes before the function's own sites, and
-- a function before those after it
abbrev safe_function : Stmts → Item
safe_function body = Defines (record { attributes = Safe ∷ []; result = None; name = record { text = codes "f"; span = at 1 }; parameters = []; body = Some body })

abbrev promises : Program
promises =
    safe_function (then_ (Cancel (at 2)) (just (Print (at 3) [] here Tree.[])))
    ∷ worker_with (just (atomic (just (Do (Evaluate (Call (called (codes "f")) Tree.[] here)))))) ∷ []

broken_promise : fault promises (λ f. false) ≡ Some (43, at 1)
broken_promise = refl
