-- The code that is picked for small programs.
use Rattle.std.proofs.Common.{◌≡◌, ℕ, zero, suc, List, [], ◌∷◌, ◌++◌, Some, None, refl}
use Rattle.std.specs.Prelude.{codes}
use Rattle.lex.specs.declared.token.Span.{Span}
use Rattle.syntax.specs.declared.tree.BinaryOp.TheVariants.{Less, Greater, Add, NotEqual, ShiftLeft}
use Rattle.syntax.specs.declared.tree.UnaryOp.TheVariants.{Not}
use Rattle.lex.specs.declared.token.Scalar.TheVariants.{Int, LongLong}
use Rattle.syntax.specs.declared.tree.LogicalOp.TheVariants.{AndThen}
use Rattle.syntax.specs.declared.tree.Mode.TheVariants.{Atomic, Relaxed}
use Rattle.syntax.specs.declared.tree.TransactionKind.TheVariants.{Plain, Outer}
use Rattle.syntax.specs.declared.tree.IncDec.TheVariants.{Increment}
use Rattle.syntax.specs.Tree.{Expr, Exprs, Print, If, While, For, Declares, Break, Name, Variable, Constant, Element, Call, Unary, Parenthesized, Binary, Logical, InTransaction, Assign, Adjust, Stmts, Do, Transaction, CancelOuter, Return, Function, Global, Defines, Shares, Cast, Program}
use Rattle.bytecode.specs.Code.{Code, Instr}
use Rattle.selection.specs.Lists.{Lists}
use Rattle.selection.specs.Expressions.{emit}
use Rattle.bytecode.specs.declared.instr.Instr.{Instr as Own}
use Rattle.bytecode.specs.declared.instr.Instr.TheVariants as own
use Rattle.lower_spec.specs.Expressions.{LocalScope}
use Rattle.selection.specs.Statements.{stmt_code}
use Rattle.selection.specs.Programs.{no_exits, nothing_preloaded, picked_code}

abbrev no_lists : Lists
no_lists = record { arguments = []; texts = []; registers = 0; layout = nothing_preloaded }

abbrev no_span : Span
no_span = record { start = 0; end = 0 }

abbrev named : List ℕ → Name
named text = record { text = text; span = no_span }

abbrev var : List ℕ → Expr
var x = Variable (named x)

abbrev num : ℕ → Expr
num n = Constant n Int no_span

abbrev body : Stmts → Function
body ss = record { attributes = []; result = None; name = named (codes "worker"); parameters = record { ty = Int; name = Some (named (codes "self")) } ∷ []; body = Some ss }

abbrev x : Global
x = record { ty = Int; name = named (codes "x"); length = None; first = [] }

abbrev a : Global
a = record { ty = Int; name = named (codes "a"); length = Some (4, no_span); first = [] }

-- int x; void worker(int self) { __transaction_atomic { x = x + 1; } }
first_code : (picked_code (Shares (x ∷ []) ∷ Defines (body (Stmts.◌∷◌ (Transaction (Plain Atomic) (Stmts.◌∷◌ (Do (Assign (var (codes "x")) None (Binary Add (var (codes "x")) (num 1) no_span))) Stmts.[]) no_span) Stmts.[])) ∷ [])).instructions ≡
    Instr.Begin 6 ∷ (Instr.Read 1 0 ∷ (Instr.Constant 2 1 ∷ (Instr.Compute Add Int 1 1 2 ∷ (Instr.Write 0 1 ∷ (Instr.Commit ∷ (Instr.Return None ∷ []))))))
first_code = refl

-- x + __transaction_relaxed(x + x), to be had in register 1
in_its_own : (emit (Shares (x ∷ []) ∷ []) [] (Binary Add (var (codes "x")) (InTransaction Relaxed no_span (Binary Add (var (codes "x")) (var (codes "x")) no_span) no_span) no_span) 7 1 1 no_lists).code ≡
    own.Read 1 0 ∷ own.Begin 13 ∷ own.Read 2 0 ∷ own.Read 3 0 ∷ own.Compute Add Int 2 2 3 ∷ own.Commit ∷ own.Compute Add Int 1 1 2 ∷ []
in_its_own = refl

abbrev atomic : Stmts → Stmts
atomic ss = Stmts.◌∷◌ (Transaction (Plain Atomic) ss no_span) Stmts.[]

abbrev outer_cancel : Stmts → Stmts
outer_cancel ss = Stmts.◌∷◌ (CancelOuter no_span) ss

-- void worker(int self) {
--   __transaction_atomic [[outer]] {
--     __transaction_cancel [[outer]];
--     __transaction_atomic { __transaction_atomic { __transaction_cancel [[outer]]; } }
--   }
-- }
three_levels : (picked_code (Defines (body (Stmts.◌∷◌ (Transaction Outer (outer_cancel (atomic (atomic (outer_cancel Stmts.[])))) no_span) Stmts.[])) ∷ [])).instructions ≡
    Instr.Begin 8 ∷ (Instr.Cancel ∷ (Instr.Begin 7 ∷ (Instr.Begin 6 ∷ (Instr.CancelOuter 3 ∷ (Instr.Commit ∷ (Instr.Commit ∷ (Instr.Commit ∷ (Instr.Return None ∷ []))))))))
three_levels = refl

-- 90 ones, added from left to right behind two locals, need four registers
abbrev ones : ℕ → Expr
ones zero = num 1
ones (suc n) = Binary Add (ones n) (num 1) no_span

four_registers : (emit [] [] (ones 89) 0 2 2 (record { arguments = []; texts = []; registers = 2; layout = nothing_preloaded })).lists.registers ≡ 4
four_registers = refl

-- int a[4]; int f(int n) { if (n > 1 && n) return f(n); return 0; }
-- void worker(int self) { for (int i = 0; i < 3; i++) __transaction_relaxed { a[i] += f(i); printf("%d!", a[i]); break; } }
abbrev f : Function
f = record {
  attributes = [];
  result = Some Int;
  name = named (codes "f");
  parameters = record { ty = Int; name = Some (named (codes "n")) } ∷ [];
  body = Some (Stmts.◌∷◌ (If (Logical AndThen (Binary Greater (var (codes "n")) (num 1) no_span) (var (codes "n")) no_span) (Return (Some (Call (named (codes "f")) (Exprs.◌∷◌ (var (codes "n")) Exprs.[]) no_span)) no_span)) (Stmts.◌∷◌ (Return (Some (num 0)) no_span) Stmts.[]));
}

abbrev element : Expr
element = Element (named (codes "a")) (var (codes "i")) no_span

abbrev turn : Stmts
turn = Stmts.◌∷◌ (Do (Assign element (Some Add) (Call (named (codes "f")) (Exprs.◌∷◌ (var (codes "i")) Exprs.[]) no_span))) (Stmts.◌∷◌ (Print no_span (codes "%d!") no_span (Exprs.◌∷◌ element Exprs.[])) (Stmts.◌∷◌ (Break no_span) Stmts.[]))

abbrev counting : Stmts
counting = Stmts.◌∷◌ (For (Declares (record { ty = Int; declarators = record { name = named (codes "i"); first = Some (num 0) } ∷ [] })) (Some (Binary Less (var (codes "i")) (num 3) no_span)) (Some (Adjust (var (codes "i")) Increment)) (Transaction (Plain Relaxed) turn no_span)) Stmts.[]

abbrev second : Code
second = picked_code (Shares (a ∷ []) ∷ Defines f ∷ Defines (body counting) ∷ [])

of_f : List Instr
of_f =
    -- 0: n > 1, and then n
    Instr.Constant 1 1 ∷ Instr.Compute Less Int 1 1 0 ∷ Instr.JumpZero 1 6 ∷ Instr.JumpZero 0 6
    -- 4: the branch
    ∷ Instr.Call 0 1 (0 ∷ []) ∷ Instr.Return (Some 1) ∷ Instr.Constant 1 0 ∷ Instr.Return (Some 1) ∷ Instr.Return None ∷ []

of_worker : List Instr
of_worker =
    -- 9: 3 and 1, with which the loop computes
    Instr.Constant 4 3 ∷ Instr.Constant 5 1
    -- 11: i = 0, and then the loop's jumps
    ∷ Instr.Constant 1 0 ∷ Instr.Constant 1 0 ∷ Instr.Jump 29 ∷ Instr.Jump 31 ∷ Instr.Jump 28
    -- 16: a[i] += f(i)
    ∷ Instr.Begin 28 ∷ Instr.ReadAt 2 0 4 1 ∷ Instr.Call 0 3 (1 ∷ []) ∷ Instr.Compute Add Int 2 2 3 ∷ Instr.WriteAt 0 4 1 2
    -- 21: the number, and a text
    ∷ Instr.Irrevocable ∷ Instr.ReadAt 2 0 4 1 ∷ Instr.PrintNumber Int 2 ∷ Instr.PrintText 0
    -- 25: a break, and what stands behind it
    ∷ Instr.Commit ∷ Instr.Jump 14 ∷ Instr.Commit
    -- 28: i++, and i < 3
    ∷ Instr.Compute Add Int 1 1 5 ∷ Instr.Compute Less Int 2 1 4 ∷ Instr.JumpNonzero 2 16 ∷ Instr.Return None ∷ []

second_code : second.instructions ≡ of_f ++ of_worker
unfolding of_f of_worker
second_code = refl

-- while (!(v != 0)) v = 5;
waiting : (stmt_code [] (While (Unary Not (Parenthesized (Binary NotEqual (var (codes "v")) (num 0) no_span) no_span) no_span) (Do (Assign (var (codes "v")) None (num 5)))) (no_exits None) (record { name = codes "v"; ty = Int; word = 0 } ∷ []) 7 no_lists).code ≡
    own.Jump 10 ∷ own.Jump 11 ∷ own.Constant 0 5 ∷ own.JumpZero 0 9 ∷ []
waiting = refl

-- long long y; int x; and locals: long long v; int i;
abbrev wide : Program
wide = Shares (record { ty = LongLong; name = named (codes "y"); length = None; first = [] } ∷ x ∷ []) ∷ []

abbrev locals : LocalScope
locals = record { name = codes "v"; ty = LongLong; word = 0 } ∷ record { name = codes "i"; ty = Int; word = 0 } ∷ []

abbrev assigned : List ℕ → Expr → List Own
assigned to e = (stmt_code wide (Do (Assign (var to) None e)) (no_exits None) locals 7 no_lists).code

-- v = v + 1; v = 1 + v; v = i + v; v = v << i;
adds_to_v : assigned (codes "v") (Binary Add (var (codes "v")) (num 1) no_span) ≡ own.Constant 2 1 ∷ own.Compute Add LongLong 0 0 2 ∷ []
adds_to_v = refl

adds_v : assigned (codes "v") (Binary Add (num 1) (var (codes "v")) no_span) ≡ own.Constant 2 1 ∷ own.Compute Add LongLong 0 2 0 ∷ []
adds_v = refl

adds_both : assigned (codes "v") (Binary Add (var (codes "i")) (var (codes "v")) no_span) ≡ own.Extend 2 1 ∷ own.Compute Add LongLong 0 2 0 ∷ []
adds_both = refl

shifts_v : assigned (codes "v") (Binary ShiftLeft (var (codes "v")) (var (codes "i")) no_span) ≡ own.Compute ShiftLeft LongLong 0 0 1 ∷ []
shifts_v = refl

-- v = i; i = v; v = 5; i = v < 5;
extends : assigned (codes "v") (var (codes "i")) ≡ own.Extend 0 1 ∷ []
extends = refl

halves : assigned (codes "i") (var (codes "v")) ≡ own.Low 1 0 ∷ []
halves = refl

sets : assigned (codes "v") (num 5) ≡ own.Constant 0 5 ∷ []
sets = refl

compares : assigned (codes "i") (Binary Less (var (codes "v")) (num 5) no_span) ≡ own.Constant 2 5 ∷ own.Compute Less LongLong 1 0 2 ∷ []
compares = refl

-- y = i; x = v; x = 4294967297LL;
widens : assigned (codes "y") (var (codes "i")) ≡ own.Extend 2 1 ∷ own.Write 2 0 ∷ []
widens = refl

narrows : assigned (codes "x") (var (codes "v")) ≡ own.Write 0 1 ∷ []
narrows = refl

sets_lower_half : assigned (codes "x") (Constant 4294967297 LongLong no_span) ≡ own.Constant 2 1 ∷ own.Write 2 1 ∷ []
sets_lower_half = refl

-- i += v; and a condition (int)v
changes : (stmt_code wide (Do (Assign (var (codes "i")) (Some Add) (var (codes "v")))) (no_exits None) locals 7 no_lists).code ≡ own.Extend 2 1 ∷ own.Compute Add LongLong 1 2 0 ∷ own.Low 1 1 ∷ []
changes = refl

asks : (stmt_code wide (If (Cast Int (var (codes "v")) no_span) (Do (Assign (var (codes "i")) None (num 1)))) (no_exits None) locals 7 no_lists).code ≡ own.Low 2 0 ∷ own.JumpZero 2 10 ∷ own.Constant 1 1 ∷ []
asks = refl
