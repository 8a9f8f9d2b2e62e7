-- The instructions that are picked for statements. A loop is tested at its bottom, after a jump to its test or body and
-- jumps for breaks and continues, whose places are known before the body is generated.
use Rattle.std.specs.Prelude.{ℕ, zero, suc, ◌+◌, List, [], ◌∷◌, ◌++◌, length, replicate, Option, Some, None}
use Rattle.lex.specs.declared.token.Scalar.{Scalar}
use Rattle.lex.specs.declared.token.Scalar.TheVariants.{Int, Unsigned, LongLong}
use Rattle.syntax.specs.declared.tree.TransactionKind.{TransactionKind}
use Rattle.syntax.specs.declared.tree.TransactionKind.TheVariants.{Plain, Outer}
use Rattle.syntax.specs.Tree.{Expr, Simple, Stmt, Stmts, Empty, Declare, Do, Block, Print, If, IfElse, While, DoWhile}
use Rattle.syntax.specs.Tree.{For, Break, Continue, Return, Transaction, Cancel, CancelOuter, Program}
use Rattle.syntax.specs.Formats.{Piece, Literal, Specifier, pieces}
use Rattle.bytecode.specs.declared.instr.Instr.{Instr}
use Rattle.bytecode.specs.declared.instr.Instr.TheVariants as own
use Rattle.lower_spec.specs.Expressions.{LocalScope}
use Rattle.lower_spec.specs.Statements.{locals_of_start, locals_after}
use Rattle.selection.specs.declared.locations.Exits.{Exits}
use Rattle.selection.specs.Lists.{Lists}
use Rattle.selection.specs.Expressions.{Emitted, AllEmitted, as_type, emit_all, condition}
use Rattle.selection.specs.Conditions.{Condition, test_in, going_on, going_back}
use Rattle.selection.specs.Simples.{Written, nothing_written, one_written, and_then, code_of_value, simple_written}
use Rattle.selection.specs.Simples.{declared_written, start_written}

-- n commits, and then an instruction
abbrev pub left_by : ℕ → Instr → ℕ → Lists → Written
left_by n i from l = record { code = replicate n own.Commit ++ i ∷ []; lists = l; to = from + n + 1 }

-- how many transactions are open from the innermost outer one on, including it; 0 if there is none
abbrev pub level_in : TransactionKind → ℕ → ℕ
level_in Outer n = 1
level_in (Plain mode) zero = 0
level_in (Plain mode) (suc n) = suc (suc n)

abbrev pub in_transaction : TransactionKind → Exits → Exits
in_transaction kind x = record x {
  in_loop = x.in_loop + 1;
  in_function = x.in_function + 1;
  to_outer = level_in kind x.to_outer;
}

-- the instruction that cancels so many transactions as one
abbrev pub cancelling : ℕ → Instr
cancelling (suc zero) = own.Cancel
cancelling n = own.CancelOuter n

abbrev pub looping : Exits → (break_to continue_to : ℕ) → Exits
looping x break_to continue_to = record x { break_to = break_to; continue_to = continue_to; in_loop = 0 }

-- a condition, a jump to the place after the branch if it does not hold, and the branch
abbrev pub if_code : Condition → Written → Written
if_code c a = record { code = going_on c.code (test_in c) a.to ++ a.code; lists = a.lists; to = a.to }

abbrev pub branched_twice : Condition → Written → Written → Written
branched_twice c a b = record {
  code = going_on c.code (test_in c) (a.to + 1) ++ a.code ++ own.Jump b.to ∷ b.code;
  lists = b.lists;
  to = b.to;
}

-- a condition, and a jump if it holds
abbrev pub tested_back : Condition → ℕ → Written
tested_back c to = record { code = going_back c.code (test_in c) to; lists = c.lists; to = c.to + 1 }

-- a jump to the test, which is a continue's jump too, a jump for breaks, the body, and the test
abbrev pub while_written : Written → Written → Written
while_written a test =
    record { code = own.Jump a.to ∷ own.Jump test.to ∷ a.code ++ test.code; lists = test.lists; to = test.to }

-- a jump to the body, jumps for breaks and continues, the body, and the test
abbrev pub do_written : ℕ → Written → Written → Written
do_written body_at a test = record {
  code = own.Jump body_at ∷ own.Jump test.to ∷ own.Jump a.to ∷ a.code ++ test.code;
  lists = test.lists;
  to = test.to;
}

-- the start, a jump to the test, jumps for breaks and continues, the body, the step, and the test
abbrev pub for_written : (start body step test : Written) → Written
for_written start a step test = record {
  code =
      start.code
      ++ own.Jump step.to ∷ own.Jump test.to ∷ own.Jump a.to ∷ a.code
      ++ step.code
      ++ test.code;
  lists = test.lists;
  to = test.to;
}

-- a cancel continues after the commit
abbrev pub transaction_code : Written → Written
transaction_code a = record { code = own.Begin (a.to + 1) ∷ a.code ++ own.Commit ∷ []; lists = a.lists; to = a.to + 1 }

abbrev pub return_code : ℕ → Emitted → Written
return_code n e = and_then (code_of_value e) (left_by n (own.ReturnValue e.location.register) e.location.to e.lists)

abbrev pub printing : Scalar → ℕ → Instr
printing Int r = own.PrintSigned r
printing Unsigned r = own.PrintUnsigned r
printing LongLong r = own.PrintLong r

abbrev pub and_one : Instr → Written → Written
and_one i a = record { code = i ∷ a.code; lists = a.lists; to = a.to }

-- the pieces of a format, with these registers for its specifiers
abbrev pub pieces_written : List Piece → List ℕ → ℕ → Lists → Written
pieces_written [] rs from l = nothing_written from l
pieces_written (Literal text ∷ ps) rs from l =
    and_one (own.PrintText (length l.texts))
    (pieces_written ps rs (from + 1) (record l { texts = l.texts ++ text ∷ [] }))
pieces_written (Specifier t ∷ ps) [] from l = nothing_written from l
pieces_written (Specifier t ∷ ps) (r ∷ rs) from l = and_one (printing t r) (pieces_written ps rs (from + 1) l)

abbrev pub print_written : AllEmitted → List Piece → Written
print_written args ps =
    let all = pieces_written ps args.registers args.to args.lists in
    record { code = own.Irrevocable ∷ args.code ++ all.code; lists = all.lists; to = all.to }

module _ (p : Program) where
  -- a missing condition always holds
  abbrev pub for_test : LocalScope → Option Expr → ℕ → ℕ → Lists → Written
  for_test scope None body_at from l = one_written (own.Jump body_at) from l
  for_test scope (Some c) body_at from l = tested_back (condition p scope c from (length scope) l) body_at

  abbrev pub for_step : LocalScope → Option Simple → ℕ → Lists → Written
  for_step scope None from l = nothing_written from l
  for_step scope (Some s) from l = simple_written p scope s from (length scope) l

  abbrev pub return_written : LocalScope → Option Expr → Exits → ℕ → Lists → Written
  return_written scope None x from l = left_by x.in_function own.Return from l
  return_written scope (Some e) x from l =
      return_code x.in_function (as_type p scope x.gives e from (length scope) (length scope) l)

  abbrev mutual
    pub stmt_code : Stmt → Exits → LocalScope → ℕ → Lists → Written
    stmt_code Empty x scope from l = nothing_written from l
    stmt_code (Declare d) x scope from l = declared_written p d.ty d.declarators scope from l
    stmt_code (Do s) x scope from l = simple_written p scope s from (length scope) l
    stmt_code (Block ss) x scope from l = stmts_code ss x scope from l
    stmt_code (Print at format format_at es) x scope from l =
        print_written (emit_all p scope [] es (from + 1) (length scope) l) (pieces format)
    stmt_code (If c a) x scope from l =
        let test = condition p scope c from (length scope) l in
        if_code test (stmt_code a x scope (test.to + 1) test.lists)
    stmt_code (IfElse c a b) x scope from l =
        let test = condition p scope c from (length scope) l in
        let first = stmt_code a x scope (test.to + 1) test.lists in
        branched_twice test first (stmt_code b x scope (first.to + 1) first.lists)
    stmt_code (While c a) x scope from l =
        let body = stmt_code a (looping x (from + 1) from) scope (from + 2) l in
        while_written body (tested_back (condition p scope c body.to (length scope) body.lists) (from + 2))
    stmt_code (DoWhile a c) x scope from l =
        let body = stmt_code a (looping x (from + 1) (from + 2)) scope (from + 3) l in
        do_written (from + 3) body
        (tested_back (condition p scope c body.to (length scope) body.lists) (from + 3))
    stmt_code (For start c step a) x scope from l =
        let inner = locals_of_start start scope in
        let first = start_written p start scope from l in
        let jumps_at = first.to in
        let body = stmt_code a (looping x (jumps_at + 1) (jumps_at + 2)) inner (jumps_at + 3) first.lists in
        let next = for_step inner step body.to body.lists in
        for_written first body next (for_test inner c (jumps_at + 3) next.to next.lists)
    stmt_code (Break at) x scope from l = left_by x.in_loop (own.Jump x.break_to) from l
    stmt_code (Continue at) x scope from l = left_by x.in_loop (own.Jump x.continue_to) from l
    stmt_code (Return e at) x scope from l = return_written scope e x from l
    stmt_code (Transaction kind ss at) x scope from l =
        transaction_code (stmts_code ss (in_transaction kind x) scope (from + 1) l)
    stmt_code (Cancel at) x scope from l = one_written own.Cancel from l
    stmt_code (CancelOuter at) x scope from l = one_written (cancelling x.to_outer) from l

    pub stmts_code : Stmts → Exits → LocalScope → ℕ → Lists → Written
    stmts_code Stmts.[] x scope from l = nothing_written from l
    stmts_code (Stmts.◌∷◌ s ss) x scope from l =
        let first = stmt_code s x scope from l in
        and_then first (stmts_code ss x (locals_after s scope) first.to first.lists)
