-- Small programs with outer cancels, computed.
use Rattle.std.proofs.Common.{◌≡◌, refl, ℕ, [], ◌∷◌, Some}
use Rattle.std.specs.Prelude.{codes}
use Rattle.std.specs.Fmt.{digits}
use Rattle.lex.specs.declared.token.Scalar.TheVariants.{Int}
use Rattle.syntax.specs.declared.tree.Mode.TheVariants.{Relaxed}
use Rattle.syntax.specs.declared.tree.TransactionKind.TheVariants.{Plain, Outer}
use Rattle.syntax.specs.declared.thread_end.Halt.TheVariants.{Spent, Astray}
use Rattle.syntax.specs.Tree as Tree
use Rattle.syntax.specs.Tree.{Stmt, Stmts, Declare, Block, Print, While, Transaction, CancelOuter, Program}
use Rattle.syntax.specs.Behaviours.{Ended, Stopped}
use Rattle.syntax.specs.Threads.{thread}
use Rattle.syntax.proofs.samples.Rows.{here, called, var, num, set_to, atomic, just, worker_with, global}
use Rattle.syntax.proofs.samples.MoreRows.{plus, then_}

abbrev outer : Stmts → Stmt
outer ss = Transaction Outer ss here

abbrev relaxed : Stmts → Stmt
relaxed ss = Transaction (Plain Relaxed) ss here

abbrev sets_x : ℕ → Stmt
sets_x n = set_to (codes "x") (num n)

abbrev adds_to_x : ℕ → Stmt
adds_to_x n = set_to (codes "x") (plus (var (codes "x")) (num n))

-- W{ int a = 5; outer { a = 6; x = 2; atomic { x = 3; cancel outer; } x = 4; } printf("%d", a); }: all of the outer one is undone
abbrev undone : Program
undone =
    global (codes "x")
    ∷ worker_with
    (then_ (Declare (record { ty = Int; declarators = record { name = called (codes "a"); first = Some (num 5) } ∷ [] }))
    (then_ (outer (then_ (set_to (codes "a") (num 6)) (then_ (sets_x 2) (then_ (atomic (then_ (sets_x 3) (just (CancelOuter here)))) (just (sets_x 4))))))
    (just (Print here (codes "%d") here (Tree.◌∷◌ (var (codes "a")) Tree.[])))))
    ∷ []

undone_row : thread undone 0 ((1 ∷ []) ∷ []) 100 ≡ record { lefts = (1 ∷ []) ∷ []; text = codes "5"; end = Ended }
unfolding digits
undone_row = refl

-- W{ relaxed { x = 1; outer { x = 2; atomic { cancel outer; } } x = x + 10; } }: a transaction round the outer one goes on
abbrev enclosed : Program
enclosed =
    global (codes "x")
    ∷ worker_with (just (relaxed (then_ (sets_x 1) (then_ (outer (then_ (sets_x 2) (just (atomic (just (CancelOuter here)))))) (just (adds_to_x 10))))))
    ∷ []

enclosed_row : thread enclosed 0 ((0 ∷ []) ∷ []) 100 ≡ record { lefts = (11 ∷ []) ∷ []; text = []; end = Ended }
enclosed_row = refl

-- W{ outer { x = 1; outer { x = 2; cancel outer; } x = x + 10; } }: the innermost outer one alone
abbrev innermost : Program
innermost =
    global (codes "x") ∷ worker_with (just (outer (then_ (sets_x 1) (then_ (outer (then_ (sets_x 2) (just (CancelOuter here)))) (just (adds_to_x 10)))))) ∷ []

innermost_row : thread innermost 0 ((0 ∷ []) ∷ []) 100 ≡ record { lefts = (11 ∷ []) ∷ []; text = []; end = Ended }
innermost_row = refl

-- W{ outer { while (1) { x = x + 1; atomic { cancel outer; } } } }: out of a loop, and for one tick, as any transaction is left
abbrev out_of_loop : Program
out_of_loop =
    global (codes "x") ∷ worker_with (just (outer (just (While (num 1) (Block (then_ (adds_to_x 1) (just (atomic (just (CancelOuter here)))))))))) ∷ []

out_of_loop_7 : thread out_of_loop 0 ((3 ∷ []) ∷ []) 7 ≡ record { lefts = []; text = []; end = Stopped Spent }
out_of_loop_7 = refl

out_of_loop_8 : thread out_of_loop 0 ((3 ∷ []) ∷ []) 8 ≡ record { lefts = (3 ∷ []) ∷ []; text = []; end = Stopped Spent }
out_of_loop_8 = refl

out_of_loop_9 : thread out_of_loop 0 ((3 ∷ []) ∷ []) 9 ≡ record { lefts = (3 ∷ []) ∷ []; text = []; end = Ended }
out_of_loop_9 = refl

-- W{ atomic { cancel outer; } }: where no transaction is an outer one, its function's end is astray
abbrev no_outer : Program
no_outer = global (codes "x") ∷ worker_with (just (atomic (just (CancelOuter here)))) ∷ []

no_outer_row : thread no_outer 0 ((3 ∷ []) ∷ []) 100 ≡ record { lefts = (3 ∷ []) ∷ []; text = []; end = Stopped Astray }
no_outer_row = refl
