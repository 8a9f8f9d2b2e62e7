-- Programs that break two rules of types each, and which fault is the first.
use Rattle.std.proofs.Common.{◌≡◌, refl, ℕ, ◌+◌, List, [], ◌∷◌, Option, Some, None}
use Rattle.std.specs.Prelude.{codes}
use Rattle.lex.specs.declared.token.Span.{Span}
use Rattle.lex.specs.declared.token.Scalar.TheVariants.{Int}
use Rattle.syntax.specs.declared.tree.BinaryOp.TheVariants.{Add}
use Rattle.syntax.specs.Tree as Tree
use Rattle.syntax.specs.Tree.{Name, Expr, Variable, Constant, Element, Call, Binary, Evaluate, Stmts, Do, Print, Return, Global, Item, Defines, Shares, Program}
use Rattle.syntax.specs.Typing.{Meets, first_unmet}
use Rattle.syntax.proofs.samples.Rows.{here, called, just, worker_with}

-- the first fault of a program whose text ends at 99
abbrev fault : Program → Option (ℕ × Span)
fault p = first_unmet (Meets 99 p)

abbrev at : ℕ → Span
at n = record { start = n; end = n + 1 }

abbrev named : List ℕ → ℕ → Name
named x n = record { text = x; span = at n }

abbrev void : List ℕ → Stmts → Item
void f body = Defines (record { attributes = []; result = None; name = called f; parameters = []; body = Some body })

abbrev evaluates : Expr → Item
evaluates e = worker_with (just (Do (Evaluate e)))

-- void f(void) { } void g(void) { return f(); } W{ }: a value that is no number, where none may be returned
returns_nothing : fault (void (codes "f") Tree.[] ∷ void (codes "g") (just (Return (Some (Call (called (codes "f")) Tree.[] (at 7))) (at 6))) ∷ worker_with Tree.[] ∷ []) ≡ Some (22, at 6)
returns_nothing = refl

-- W{ self[z]; }, W{ self(z); }: operands come before what is done with them
no_array : fault (evaluates (Element (named (codes "self") 5) (Variable (named (codes "z") 6)) (at 5)) ∷ []) ≡ Some (20, at 6)
no_array = refl

no_function : fault (evaluates (Call (named (codes "self") 5) (Tree.◌∷◌ (Variable (named (codes "z") 6)) Tree.[]) (at 5)) ∷ []) ≡ Some (20, at 6)
no_function = refl

-- void f(void) { } W{ f() + z; }: each operand is looked at whole before the next
no_number : fault (void (codes "f") Tree.[] ∷ evaluates (Binary Add (Call (called (codes "f")) Tree.[] (at 5)) (Variable (named (codes "z") 6)) (at 5)) ∷ []) ≡ Some (22, at 5)
no_number = refl

-- int a[4096], b, c; W{ }: the first global beyond 4,096 cells
abbrev int_global : List ℕ → ℕ → Option (ℕ × Span) → Global
int_global x n length = record { ty = Int; name = named x n; length = length; first = [] }

no_cell : fault (Shares (int_global (codes "a") 1 (Some (4096, at 2)) ∷ int_global (codes "b") 3 None ∷ int_global (codes "c") 4 None ∷ []) ∷ worker_with Tree.[] ∷ []) ≡ Some (25, at 3)
no_cell = refl

-- W{ printf("%u %d", 1); }: a format that does not fit its arguments comes before each argument's type
no_argument : fault (worker_with (just (Print here (codes "%u %d") (at 5) (Tree.◌∷◌ (Constant 1 Int (at 6)) Tree.[]))) ∷ []) ≡ Some (27, at 5)
no_argument = refl

-- int f; void f(void) { } W{ f(); }: a name that is new twice
new_twice : fault (Shares (int_global (codes "f") 1 None ∷ []) ∷ Defines (record { attributes = []; result = None; name = named (codes "f") 3; parameters = []; body = Some Tree.[] }) ∷ evaluates (Call (named (codes "f") 5) Tree.[] (at 5)) ∷ []) ≡ Some (21, at 3)
new_twice = refl
