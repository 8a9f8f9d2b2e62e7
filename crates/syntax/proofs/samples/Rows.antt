-- Small programs, computed.
use Rattle.std.proofs.Common.{◌≡◌, refl, ℕ, List, [], ◌∷◌, Some, None}
use Rattle.std.specs.Prelude.{codes}
use Rattle.lex.specs.declared.token.Span.{Span}
use Rattle.lex.specs.declared.token.Scalar.TheVariants.{Int}
use Rattle.syntax.specs.declared.tree.Mode.TheVariants.{Atomic}
use Rattle.syntax.specs.declared.tree.TransactionKind.TheVariants.{Plain}
use Rattle.syntax.specs.Tree as Tree
use Rattle.syntax.specs.Tree.{Name, Expr, Variable, Constant, Assign, Stmt, Stmts, Do, Transaction, Item, Defines, Shares, Program}
use Rattle.syntax.specs.declared.thread_end.Halt.TheVariants.{Wants, Spent}
use Rattle.syntax.specs.Behaviours.{Ended, Stopped}
use Rattle.syntax.specs.Threads.{thread}

abbrev pub here : Span
here = record { start = 0; end = 0 }

abbrev pub called : List ℕ → Name
called t = record { text = t; span = here }

abbrev pub var : List ℕ → Expr
var x = Variable (called x)

abbrev pub num : ℕ → Expr
num n = Constant n Int here

abbrev pub set_to : List ℕ → Expr → Stmt
set_to x e = Do (Assign (var x) None e)

abbrev pub atomic : Stmts → Stmt
atomic ss = Transaction (Plain Atomic) ss here

abbrev pub just : Stmt → Stmts
just s = Tree.◌∷◌ s Tree.[]

abbrev pub function : List ℕ → List ℕ → Stmts → Item
function f q body = Defines (record { attributes = []; result = None; name = called f; parameters = record { ty = Int; name = Some (called q) } ∷ []; body = Some body })

abbrev pub worker_with : Stmts → Item
worker_with body = function (codes "worker") (codes "self") body

abbrev pub global : List ℕ → Item
global x = Shares (record { ty = Int; name = called x; length = None; first = [] } ∷ [])

-- void worker(int self) { }
abbrev idle : Program
idle = worker_with Tree.[] ∷ []

idle_0 : thread idle 0 [] 0 ≡ record { lefts = []; text = []; end = Stopped Spent }
idle_0 = refl

idle_1 : thread idle 0 [] 1 ≡ record { lefts = []; text = []; end = Ended }
idle_1 = refl

-- int x; void worker(int self) { __transaction_atomic { x = 1; } }
abbrev pub sets_one : Program
sets_one = global (codes "x") ∷ worker_with (just (atomic (just (set_to (codes "x") (num 1))))) ∷ []

sets_one_0 : thread sets_one 0 [] 0 ≡ record { lefts = []; text = []; end = Stopped Spent }
sets_one_0 = refl

sets_one_1 : thread sets_one 0 [] 1 ≡ record { lefts = []; text = []; end = Stopped Wants }
sets_one_1 = refl

sets_one_2 : thread sets_one 0 ((0 ∷ []) ∷ []) 2 ≡ record { lefts = []; text = []; end = Stopped Spent }
sets_one_2 = refl

sets_one_3 : thread sets_one 0 ((0 ∷ []) ∷ []) 3 ≡ record { lefts = (1 ∷ []) ∷ []; text = []; end = Stopped Spent }
sets_one_3 = refl

sets_one_4 : thread sets_one 0 ((0 ∷ []) ∷ []) 4 ≡ record { lefts = (1 ∷ []) ∷ []; text = []; end = Ended }
sets_one_4 = refl
