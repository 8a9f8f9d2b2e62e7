-- Larger programs, computed.
use Rattle.std.proofs.Common.{◌≡◌, refl, rules, arith, ℕ, zero, suc, ◌-◌, ◌+◌, ◌^◌, ◌<◌, List, [], ◌∷◌, Some, None, Bool, true, false}
use Rattle.std.specs.Prelude.{codes}
use Rattle.std.specs.Fmt.{digits}
use Rattle.lex.specs.declared.token.Scalar.TheVariants.{Int, Unsigned}
use Rattle.syntax.specs.declared.tree.UnaryOp.TheVariants.{Negate}
use Rattle.syntax.specs.declared.tree.BinaryOp.TheVariants.{Add, Subtract, Equal, Divide, Less, Greater}
use Rattle.syntax.specs.declared.tree.IncDec.TheVariants.{Increment}
use Rattle.syntax.specs.declared.thread_end.Trap.TheVariants.{OutOfRange, Index, Frames}
use Rattle.syntax.specs.Tree as Tree
use Rattle.syntax.specs.Tree.{Expr, Constant, Element, Call, Unary, Binary, Evaluate, Assign, Adjust, Does, Stmt, Stmts, Declare, Do, Block, Print, If, IfElse, While, For, Break, Cancel, Defines, Shares, Program}
use Rattle.syntax.specs.declared.thread_end.Halt.TheVariants.{Trapped}
use Rattle.syntax.specs.declared.tree.Initialiser.{Initialiser}
use Rattle.syntax.specs.Names.{initial_memory}
use Rattle.syntax.specs.Behaviours.{Memory, Ended, Stopped, Step, founds_of, lefts_of, last_memory}
use Rattle.syntax.specs.Threads.{thread, IsSourceRun}
use Rattle.syntax.proofs.samples.Rows.{here, called, var, num, set_to, atomic, just, function, worker_with, global}

abbrev pub plus : Expr → Expr → Expr
plus a b = Binary Add a b here

abbrev minus : Expr → Expr → Expr
minus a b = Binary Subtract a b here

abbrev pub then_ : Stmt → Stmts → Stmts
then_ s ss = Tree.◌∷◌ s ss

abbrev declare_int : List ℕ → Expr → Stmt
declare_int x e = Declare (record { ty = Int; declarators = record { name = called x; first = Some e } ∷ [] })

-- int x = 1; W{ int a = 5; atomic { a = 6; x = 2; cancel; } printf("%d\n", a); }
abbrev cancels : Program
cancels = global (codes "x") ∷ worker_with (then_ (declare_int (codes "a") (num 5)) (then_ (atomic (then_ (set_to (codes "a") (num 6)) (then_ (set_to (codes "x") (num 2)) (just (Cancel here))))) (just (Print here (codes "%d\n") here (Tree.◌∷◌ (var (codes "a")) Tree.[]))))) ∷ []

cancels_row : thread cancels 0 ((1 ∷ []) ∷ []) 100 ≡ record { lefts = (1 ∷ []) ∷ []; text = codes "5\n"; end = Ended }
unfolding digits
cancels_row = refl

-- int n; W{ while (1) { atomic { n = n + 1; if (n == 3) break; } } printf("done"); }
abbrev counts : Program
counts = global (codes "n") ∷ worker_with (then_ (While (num 1) (Block (just (atomic (then_ (set_to (codes "n") (plus (var (codes "n")) (num 1))) (just (If (Binary Equal (var (codes "n")) (num 3) here) (Break here)))))))) (just (Print here (codes "done") here Tree.[]))) ∷ []

counts_row : thread counts 0 ((0 ∷ []) ∷ (1 ∷ []) ∷ (2 ∷ []) ∷ []) 100 ≡ record { lefts = (1 ∷ []) ∷ (2 ∷ []) ∷ (3 ∷ []) ∷ []; text = codes "done"; end = Ended }
counts_row = refl

-- void down(int k) { if (k > 0) down(k - 1); } W{ down(62 + self); }
abbrev call_of : List ℕ → Expr → Stmt
call_of f e = Do (Evaluate (Call (called f) (Tree.◌∷◌ e Tree.[]) here))

abbrev downs : Program
downs = function (codes "down") (codes "k") (just (If (Binary Greater (var (codes "k")) (num 0) here) (call_of (codes "down") (minus (var (codes "k")) (num 1))))) ∷ worker_with (just (call_of (codes "down") (plus (num 62) (var (codes "self"))))) ∷ []

downs_0 : thread downs 0 [] 1000 ≡ record { lefts = []; text = []; end = Ended }
downs_0 = refl

downs_1 : thread downs 1 [] 1000 ≡ record { lefts = []; text = []; end = Stopped (Trapped Frames) }
downs_1 = refl

-- int x; W{ int i; for (i = 0; i < 100; i++) { atomic { x = x + 1; } } }
abbrev declare_only : List ℕ → Stmt
declare_only x = Declare (record { ty = Int; declarators = record { name = called x; first = None } ∷ [] })

abbrev hundred : Program
hundred = global (codes "x") ∷ worker_with (then_ (declare_only (codes "i")) (just (For (Does (Assign (var (codes "i")) None (num 0))) (Some (Binary Less (var (codes "i")) (num 100) here)) (Some (Adjust (var (codes "i")) Increment)) (Block (just (atomic (just (set_to (codes "x") (plus (var (codes "x")) (num 1)))))))))) ∷ []

abbrev memories : ℕ → ℕ → List Memory
memories zero k = []
memories (suc n) k = (k ∷ []) ∷ memories n (k + 1)

hundred_row : thread hundred 0 (memories 100 0) 1000 ≡ record { lefts = memories 100 1; text = []; end = Ended }
hundred_row = refl

-- int x; W{ atomic { x = a / -1 } } at the least int, and a[3] past an array's end
abbrev least : Program
least = global (codes "x") ∷ worker_with (then_ (declare_int (codes "a") (minus (Unary Negate (num (2 ^ 31 - 1)) here) (num 1))) (just (atomic (just (set_to (codes "x") (Binary Divide (var (codes "a")) (Unary Negate (num 1) here) here)))))) ∷ []

least_row : thread least 0 ((0 ∷ []) ∷ []) 100 ≡ record { lefts = (0 ∷ []) ∷ []; text = []; end = Stopped (Trapped OutOfRange) }
least_row = refl

-- W{ printf("%u\n", 0xFFFFFFFF + 1); }: unsigned numbers wrap
abbrev wraps : Program
wraps = worker_with (just (Print here (codes "%u\n") here (Tree.◌∷◌ (Binary Add (Constant (2 ^ 32 - 1) Unsigned here) (num 1) here) Tree.[]))) ∷ []

wraps_row : thread wraps 0 [] 100 ≡ record { lefts = []; text = codes "0\n"; end = Ended }
unfolding digits
wraps_row = refl

-- int x; W{ atomic { if (0) if (1) x = 1; else x = 2; } }: the else belongs to the nearer if
abbrev nearer : Program
nearer = global (codes "x") ∷ worker_with (just (atomic (just (If (num 0) (IfElse (num 1) (set_to (codes "x") (num 1)) (set_to (codes "x") (num 2))))))) ∷ []

nearer_row : thread nearer 0 ((0 ∷ []) ∷ []) 100 ≡ record { lefts = (0 ∷ []) ∷ []; text = []; end = Ended }
nearer_row = refl

-- unsigned a[3] = {1, 2}; int b = -1; W{ atomic { b = 7; a[3] = 1; } }: a trap leaves what was found
abbrev first_number : Bool → ℕ → Initialiser
first_number minus n = record { negative = minus; value = n; ty = Int; span = here }

abbrev past_end : Program
past_end =
    Shares (record { ty = Unsigned; name = called (codes "a"); length = Some (3, here); first = first_number false 1 ∷ first_number false 2 ∷ [] } ∷ [])
    ∷ Shares (record { ty = Int; name = called (codes "b"); length = None; first = first_number true 1 ∷ [] } ∷ [])
    ∷ worker_with (just (atomic (then_ (set_to (codes "b") (num 7)) (just (Do (Assign (Element (called (codes "a")) (num 3) here) None (num 1))))))) ∷ []

past_end_begins : initial_memory past_end ≡ 1 ∷ 2 ∷ 0 ∷ (2 ^ 32 - 1) ∷ []
past_end_begins = refl

past_end_row : thread past_end 0 (initial_memory past_end ∷ []) 100 ≡ record { lefts = initial_memory past_end ∷ []; text = []; end = Stopped (Trapped Index) }
past_end_row = refl

-- unsigned f(void) { } W{ printf("%d", f() < -1); }: the end of a function gives 0 of its own type
abbrev runs_off : Program
runs_off =
    Defines (record { attributes = []; result = Some Unsigned; name = called (codes "f"); parameters = []; body = Some Tree.[] })
    ∷ worker_with (just (Print here (codes "%d") here (Tree.◌∷◌ (Binary Less (Call (called (codes "f")) Tree.[] here) (Unary Negate (num 1) here) here) Tree.[]))) ∷ []

runs_off_row : thread runs_off 0 [] 100 ≡ record { lefts = []; text = codes "1"; end = Ended }
unfolding digits
runs_off_row = refl

-- int x; W{ atomic { x = x + 1; } }: two threads, one after the other
abbrev adds : Program
adds = global (codes "x") ∷ worker_with (just (atomic (just (set_to (codes "x") (plus (var (codes "x")) (num 1)))))) ∷ []

abbrev adding : List Step
adding = record { thread = 0; found = 0 ∷ []; left = 1 ∷ [] } ∷ record { thread = 1; found = 1 ∷ []; left = 2 ∷ [] } ∷ []

adds_each : (t : ℕ) → t < 2 → (n : ℕ) × ((thread adds t (founds_of t adding) n).lefts ≡ lefts_of t adding)
adds_each zero below = (4, refl)
adds_each (suc zero) below = (4, refl)
adds_each (suc (suc t)) below = absurd (omega (arith, below))

adds_row : IsSourceRun adds 2 adding
adds_row = record { named = search rules; chained = (refl, (refl, tt)); each = adds_each }

adds_last : last_memory (initial_memory adds) adding ≡ 2 ∷ []
adds_last = refl
