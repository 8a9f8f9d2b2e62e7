-- Small programs with transactions that are expressions, computed.
use Rattle.std.proofs.Common.{◌≡◌, refl, ℕ, ◌-◌, ◌^◌, [], ◌∷◌, Some, None, false}
use Rattle.std.specs.Prelude.{codes}
use Rattle.std.specs.Fmt.{digits}
use Rattle.lex.specs.declared.token.Span.{Span}
use Rattle.lex.specs.declared.token.Scalar.TheVariants.{Int}
use Rattle.syntax.specs.declared.tree.Mode.TheVariants.{Atomic, Relaxed}
use Rattle.syntax.specs.declared.thread_end.Trap.TheVariants.{OutOfRange}
use Rattle.syntax.specs.declared.thread_end.Halt.TheVariants.{Trapped, Wants, Spent}
use Rattle.syntax.specs.declared.tree.Initialiser.{Initialiser}
use Rattle.syntax.specs.Tree as Tree
use Rattle.syntax.specs.Tree.{Expr, Call, InTransaction, Evaluate, Stmt, Declare, Do, Print, Defines, Shares, Program}
use Rattle.syntax.specs.Behaviours.{Ended, Stopped}
use Rattle.syntax.specs.Threads.{thread}
use Rattle.syntax.specs.Depth.{expr_depth}
use Rattle.syntax.specs.Typing.{Meets, IsTypedProgram, first_unmet}
use Rattle.syntax.proofs.typing.Demands.{all_met}
use Rattle.syntax.proofs.samples.Rows.{here, called, var, num, set_to, atomic, just, worker_with, global}
use Rattle.syntax.proofs.samples.MoreRows.{plus, then_}

abbrev atomic_value : Expr → Expr
atomic_value e = InTransaction Atomic here e here

abbrev relaxed_value : Expr → Expr
relaxed_value e = InTransaction Relaxed here e here

abbrev x_value : Expr
x_value = atomic_value (var (codes "x"))

abbrev prints : Expr → Stmt
prints e = Print here (codes "%d") here (Tree.◌∷◌ e Tree.[])

abbrev declares : Expr → Stmt
declares e = Declare (record { ty = Int; declarators = record { name = called (codes "v"); first = Some e } ∷ [] })

-- int x; W{ int v = __transaction_atomic(x); }: a tick before the memory is wanted, and a tick when it is left
abbrev reads : Program
reads = global (codes "x") ∷ worker_with (just (declares x_value)) ∷ []

reads_typed : IsTypedProgram reads
reads_typed = all_met (Meets 0 reads) refl

reads_1 : thread reads 0 [] 1 ≡ record { lefts = []; text = []; end = Stopped Spent }
reads_1 = refl

reads_2 : thread reads 0 [] 2 ≡ record { lefts = []; text = []; end = Stopped Wants }
reads_2 = refl

reads_found : thread reads 0 ((7 ∷ []) ∷ []) 2 ≡ record { lefts = []; text = []; end = Stopped Spent }
reads_found = refl

reads_3 : thread reads 0 ((7 ∷ []) ∷ []) 3 ≡ record { lefts = (7 ∷ []) ∷ []; text = []; end = Stopped Spent }
reads_3 = refl

reads_4 : thread reads 0 ((7 ∷ []) ∷ []) 4 ≡ record { lefts = (7 ∷ []) ∷ []; text = []; end = Ended }
reads_4 = refl

-- int x; W{ printf("%d", __transaction_atomic(x) + __transaction_atomic(x)); }: each finds a memory of its own
abbrev twice : Program
twice = global (codes "x") ∷ worker_with (just (prints (plus x_value x_value))) ∷ []

twice_row : thread twice 0 ((1 ∷ []) ∷ (5 ∷ []) ∷ []) 100 ≡ record { lefts = (1 ∷ []) ∷ (5 ∷ []) ∷ []; text = codes "6"; end = Ended }
unfolding digits
twice_row = refl

twice_wants : thread twice 0 ((1 ∷ []) ∷ []) 100 ≡ record { lefts = (1 ∷ []) ∷ []; text = []; end = Stopped Wants }
twice_wants = refl

-- int x; W{ printf("%d", __transaction_atomic(__transaction_atomic(x) + __transaction_atomic(x))); }: inside another, on its memory
abbrev nested : Program
nested = global (codes "x") ∷ worker_with (just (prints (atomic_value (plus x_value x_value)))) ∷ []

nested_row : thread nested 0 ((5 ∷ []) ∷ []) 100 ≡ record { lefts = (5 ∷ []) ∷ []; text = codes "10"; end = Ended }
unfolding digits
nested_row = refl

-- int x; W{ __transaction_atomic { x = x + 1; x = __transaction_atomic(x) + 1; } }: inside one takes no tick
abbrev inside : Program
inside = global (codes "x") ∷ worker_with (just (atomic (then_ (set_to (codes "x") (plus (var (codes "x")) (num 1))) (just (set_to (codes "x") (plus x_value (num 1))))))) ∷ []

inside_4 : thread inside 0 ((5 ∷ []) ∷ []) 4 ≡ record { lefts = (7 ∷ []) ∷ []; text = []; end = Stopped Spent }
inside_4 = refl

inside_5 : thread inside 0 ((5 ∷ []) ∷ []) 5 ≡ record { lefts = (7 ∷ []) ∷ []; text = []; end = Ended }
inside_5 = refl

-- int x = 2147483647; W{ printf("a"); int v = 1 + __transaction_atomic(x + 1); }: a trap leaves the memory that was found
abbrev greatest : Initialiser
greatest = record { negative = false; value = 2 ^ 31 - 1; ty = Int; span = here }

abbrev traps : Program
traps =
    Shares (record { ty = Int; name = called (codes "x"); length = None; first = greatest ∷ [] } ∷ [])
    ∷ worker_with (then_ (Print here (codes "a") here Tree.[]) (just (declares (plus (num 1) (atomic_value (plus (var (codes "x")) (num 1))))))) ∷ []

traps_row : thread traps 0 (((2 ^ 31 - 1) ∷ []) ∷ []) 100 ≡ record { lefts = ((2 ^ 31 - 1) ∷ []) ∷ []; text = codes "a"; end = Stopped (Trapped OutOfRange) }
traps_row = refl

-- one node more than the operand
nested_depth : expr_depth (atomic_value (relaxed_value (num 1))) ≡ 3
nested_depth = refl

-- void f(void) { } W{ __transaction_relaxed(f()); }: an operand without a value is refused, and in its own place
abbrev between : ℕ → ℕ → Span
between start end = record { start = start; end = end }

abbrev no_value : Program
no_value =
    Defines (record { attributes = []; result = None; name = called (codes "f"); parameters = []; body = Some Tree.[] })
    ∷ worker_with (just (Do (Evaluate (InTransaction Relaxed (between 40 61) (Call (called (codes "f")) Tree.[] (between 62 65)) (between 40 66))))) ∷ []

no_value_refused : first_unmet (Meets 80 no_value) ≡ Some (22, between 62 65)
no_value_refused = refl
