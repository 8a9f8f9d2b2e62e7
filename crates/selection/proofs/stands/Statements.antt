-- What is picked for a statement of a typed program stands for it.
use Rattle.std.proofs.Common.{◌≡◌, refl, sym, ap, subst, ◌∙◌, ℕ, zero, suc, ◌+◌, ◌≤◌, List, [], ◌∷◌, ◌++◌, length, replicate, arith, Option, Some, None, Bool, true, inl, inr, IsTrue, eqb-true}
use Rattle.std.specs.Prelude.{slice_get, ◌==◌}
use Rattle.std.specs.Option.{IfSome}
use Rattle.std.proofs.lemmas.List.{length-append, length-replicate}
use Rattle.lex.specs.declared.token.Scalar.{Scalar}
use Rattle.lex.specs.declared.token.Scalar.TheVariants.{Int, Unsigned, LongLong}
use Rattle.syntax.specs.declared.tree.Mode.{Mode}
use Rattle.syntax.specs.declared.tree.Mode.TheVariants.{Atomic}
use Rattle.syntax.specs.declared.tree.TransactionKind.{TransactionKind}
use Rattle.syntax.specs.declared.tree.TransactionKind.TheVariants as kinds
use Rattle.syntax.specs.Tree.{Expr, Exprs, Simple, Stmt, Stmts, Empty, Declare, Do, Block, Print, If, IfElse, While, DoWhile, For, Break, Continue, Return, Transaction, Cancel, CancelOuter, Program}
use Rattle.syntax.specs.Meaning.{mode_of}
use Rattle.syntax.specs.Formats.{Piece, Literal, Specifier, pieces, specifiers}
use Rattle.syntax.specs.Types.{Scope, running_scope}
use Rattle.syntax.specs.Typing as Typing
use Rattle.syntax.specs.Typing.{IsTypedProgram, count, scope_of_start}
use Rattle.syntax.specs.ScopeLaws.{IsSubscope}
use Rattle.syntax.proofs.typing.TypedParts.{TypedExprs, TypedExpr, TypedSimple, TypedStmt, TypedStmts}
use Rattle.bytecode.specs.declared.instr.Instr.{Instr}
use Rattle.bytecode.specs.declared.instr.Instr.TheVariants as own
use Rattle.bytecode.specs.Code.{Code, Instr as Plain}
use Rattle.bytecode.specs.Views.{instr_of}
use Rattle.lower_spec.specs.Expressions.{LocalScope, Coded, Layout, InstructionAt, TypedCode, types_left, ExprCode, CondCode, ArgsCode}
use Rattle.lower_spec.specs.Statements as Lowered
use Rattle.lower_spec.specs.Statements.{StartCode, IfCode, IfElseCode, WhileCode, DoWhileCode, ForCode, PrintCode, TransactionCode, OuterCancelCode, Exits, with_level, in_transaction, cancelling, looping, locals_of_start, locals_after, Leaves, ResultCode, TestCode, HoldsCode, SteppedCode, PiecesCode, StmtCode, StmtsCode}
use Rattle.selection.specs.declared.locations.Exits.{Exits as OwnExits}
use Rattle.selection.specs.Lists.{Lists}
use Rattle.selection.specs.Expressions.{above, in_first_type, emitted_type, emit, as_type, emit_all, condition}
use Rattle.selection.specs.Conditions.{Condition, test_in, going_on}
use Rattle.selection.specs.Simples.{Written, one_written, code_of_value, start_written}
use Rattle.selection.specs.Statements as Own
use Rattle.selection.specs.Statements.{left_by, if_code, branched_twice, tested_back, while_written, do_written, for_written, transaction_code, return_code, printing, pieces_written, print_written, for_test, for_step, stmt_code, stmts_code}
use Rattle.selection.proofs.stands.Standing.{Stand, front, behind, front_same, front_more, Grows, grows_same, grows_further, Fits, fits_before}
use Rattle.selection.proofs.stands.Exprs.{CalleesStand, DefinedAreCallees, all_emits, due_emits, cond_decides}
use Rattle.selection.proofs.stands.Conds.{Decides, on_is, goes_on, back_is, goes_back}
use Rattle.selection.proofs.stands.Writing.{Writes, nothing_writes, one_writes, then_writes, evaluated_writes}
use Rattle.selection.proofs.stands.Simply.{simple_writes, declared_agrees, declared_writes, start_agrees, start_writes}

-- the transactions of a body round a place: how the innermost one runs, and how many are open inside the innermost
-- outer one, if there is one
pub record Enclosing : Type 0 where
  pub innermost : Option Mode
  pub in_outer : Option ℕ

abbrev pub not_enclosed : Enclosing
not_enclosed = record { innermost = None; in_outer = None }

abbrev pub enclosed_in : TransactionKind → Enclosing → Enclosing
enclosed_in kind m = record { innermost = Some (mode_of kind); in_outer = with_level kind m.in_outer }

abbrev pub enclosing : Exits → Enclosing
enclosing y = record { innermost = y.innermost; in_outer = y.in_outer }

-- an outer transaction is among them
abbrev pub IsInOuter : Option ℕ → Type 0
IsInOuter None = ⊥
IsInOuter (Some n) = Unit {0}

-- a cancel stands directly in an atomic transaction, and an outer cancel in an outer one
abbrev mutual
  pub CancelsFit : Stmt → Enclosing → Type 0
  CancelsFit (Block ss) m = AllCancelsFit ss m
  CancelsFit (If c a) m = CancelsFit a m
  CancelsFit (IfElse c a b) m = CancelsFit a m × CancelsFit b m
  CancelsFit (While c a) m = CancelsFit a m
  CancelsFit (DoWhile a c) m = CancelsFit a m
  CancelsFit (For start c step a) m = CancelsFit a m
  CancelsFit (Transaction kind ss at) m = AllCancelsFit ss (enclosed_in kind m)
  CancelsFit (Cancel at) m = m.innermost ≡ Some Atomic
  CancelsFit (CancelOuter at) m = IsInOuter m.in_outer
  CancelsFit s m = Unit {0}

  pub AllCancelsFit : Stmts → Enclosing → Type 0
  AllCancelsFit Stmts.[] m = Unit {0}
  AllCancelsFit (Stmts.◌∷◌ s ss) m = CancelsFit s m × AllCancelsFit ss m

-- how many transactions are open from the innermost outer one on
abbrev pub level_of : Option ℕ → ℕ
level_of None = 0
level_of (Some n) = suc n

pub level_inside : (kind : TransactionKind) (levels : Option ℕ) → Own.level_in kind (level_of levels) ≡ level_of (with_level kind levels)
level_inside kinds.Outer levels = refl
level_inside (kinds.Plain mode) None = refl
level_inside (kinds.Plain mode) (Some n) = refl

-- where control goes, as the generator keeps it
pub record SameExits (x : OwnExits) (y : Exits) : Type 0 where
  pub break_to : y.break_to ≡ x.break_to
  pub continue_to : y.continue_to ≡ x.continue_to
  pub in_loop : y.in_loop ≡ x.in_loop
  pub in_function : y.in_function ≡ x.in_function
  pub gives : y.gives ≡ x.gives
  pub to_outer : x.to_outer ≡ level_of y.in_outer

same_in_transaction : (kind : TransactionKind) (x : OwnExits) (y : Exits) → SameExits x y → SameExits (Own.in_transaction kind x) (in_transaction kind y)
same_in_transaction kind x y h = record {
  break_to = h.break_to;
  continue_to = h.continue_to;
  in_loop = let a = h.in_loop in omega (arith, a);
  in_function = let a = h.in_function in omega (arith, a);
  gives = h.gives;
  to_outer = ap (Own.level_in kind) h.to_outer ∙ level_inside kind y.in_outer;
}

same_looping : (x : OwnExits) (y : Exits) (b c : ℕ) → SameExits x y → SameExits (Own.looping x b c) (looping y b c)
same_looping x y b c h = record { break_to = refl; continue_to = refl; in_loop = refl; in_function = h.in_function; gives = h.gives; to_outer = h.to_outer }

-- as many registers as arguments
pub registers_are : (p : Program) (scope : LocalScope) (ts : List Scalar) (es : Exprs) (from free : ℕ) (l : Lists) → length (emit_all p scope ts es from free l).registers ≡ count es
registers_are p scope ts Exprs.[] from free l = refl
registers_are p scope ts (Exprs.◌∷◌ e es) from free l =
    let first = in_first_type (emitted_type p scope e) ts e (emit p scope e from free free l) from free l in
    let h = registers_are p scope (types_left ts) es first.location.to (above free first.location.register) first.lists in
    omega (arith, h)

module _ (p : Program) where
  -- a statement keeps what is known and its locals alike
  pub after_agrees : (s : Stmt) (known : Scope) (scope : LocalScope) → IsSubscope known (running_scope p scope) → IsSubscope (Typing.scope_after s known) (running_scope p (locals_after s scope))
  after_agrees Empty known scope h = h
  after_agrees (Declare d) known scope h = declared_agrees p d.ty d.declarators known scope h
  after_agrees (Do s) known scope h = h
  after_agrees (Block ss) known scope h = h
  after_agrees (Print at format format_at es) known scope h = h
  after_agrees (If c a) known scope h = h
  after_agrees (IfElse c a b) known scope h = h
  after_agrees (While c a) known scope h = h
  after_agrees (DoWhile a c) known scope h = h
  after_agrees (For start c step a) known scope h = h
  after_agrees (Break at) known scope h = h
  after_agrees (Continue at) known scope h = h
  after_agrees (Return e at) known scope h = h
  after_agrees (Transaction kind ss at) known scope h = h
  after_agrees (Cancel at) known scope h = h
  after_agrees (CancelOuter at) known scope h = h

module _ (p : Program) (code : Code) (arguments : List ℕ) (layout : Layout) where
  leaves_stand : (n from : ℕ) (i : Instr) → Stand code arguments from (replicate n own.Commit ++ i ∷ []) → Leaves code layout p from n (instr_of arguments i)
  leaves_stand zero from i h = h.0
  leaves_stand (suc n) from i h = (h.0, leaves_stand n (suc from) i h.1)

  left_writes : (n : ℕ) (i : Instr) (from : ℕ) (l : Lists) → Writes p code arguments layout (λ from to. Leaves code layout p from n (instr_of arguments i)) from l (left_by n i from l)
  left_writes n i from l = record {
    to_is =
        let a : length (replicate n own.Commit ++ i ∷ []) ≡ length (replicate n own.Commit) + 1 = length-append (replicate n own.Commit) (i ∷ []) in
        let b : length (replicate n own.Commit) ≡ n = length-replicate n own.Commit in
        omega (arith, a, b);
    grows = grows_same l;
    stands = λ f st. leaves_stand n from i st;
  }

  -- the pieces of a format
  printing_is : (t : Scalar) (r : ℕ) → instr_of arguments (printing t r) ≡ Plain.PrintNumber t r
  printing_is Int r = refl
  printing_is Unsigned r = refl
  printing_is LongLong r = refl

  at_length : (xs ys : List (List ℕ)) (x : List ℕ) → slice_get ((xs ++ x ∷ []) ++ ys) (length xs) ≡ Some x
  at_length [] ys x = refl
  at_length (y ∷ xs) ys x = at_length xs ys x

  pieces_write : (ps : List Piece) (rs : List ℕ) → length (specifiers ps) ≤ length rs → (from : ℕ) (l : Lists) → Writes p code arguments layout (λ from to. PiecesCode code layout p ps rs from to) from l (pieces_written ps rs from l)
  pieces_write [] rs h from l = nothing_writes p code arguments layout from l
  pieces_write (Literal text ∷ ps) rs h from l =
      let more : Lists = record l { texts = l.texts ++ text ∷ [] } in
      let g = pieces_write ps rs h (from + 1) more in
      let rest = pieces_written ps rs (from + 1) more in
      let first : Grows l more = record { arguments = front_same l.arguments; texts = front_more l.texts (text ∷ []); registers = omega arith; layout = refl } in
      record {
        to_is = let a = g.to_is in omega (arith, a);
        grows = grows_further l more rest.lists first g.grows;
        stands = λ f st.
            let k = fits_before code arguments layout more rest.lists g.grows f in (
              record {
                number = length l.texts;
                known = ap (λ ts. slice_get ts (length l.texts)) k.texts.1 ∙ at_length l.texts k.texts.0 text;
                prints = st.0;
              },
              subst (λ q. PiecesCode code layout p ps rs q rest.to) (omega arith) (g.stands f (subst (λ q. Stand code arguments q rest.code) (omega arith) st.1)),
            );
      }
  pieces_write (Specifier t ∷ ps) [] h from l = absurd (omega (arith, h))
  pieces_write (Specifier t ∷ ps) (r ∷ rs) h from l =
      let g = pieces_write ps rs (omega (arith, h)) (from + 1) l in
      let rest = pieces_written ps rs (from + 1) l in
      record {
        to_is = let a = g.to_is in omega (arith, a);
        grows = g.grows;
        stands = λ f st.
            (subst (λ i. InstructionAt code from i) (printing_is t r) st.0, subst (λ q. PiecesCode code layout p ps rs q rest.to) (omega arith) (g.stands f (subst (λ q. Stand code arguments q rest.code) (omega arith) st.1)));
      }

module _ (p : Program) (code : Code) (arguments : List ℕ) (layout : Layout) (typed : IsTypedProgram p) (stand : CalleesStand p code) (defined : DefinedAreCallees p) where
  -- a condition and a jump that is taken where it holds
  back_writes : (known : Scope) (scope : LocalScope) → IsSubscope known (running_scope p scope) → (c : Expr) → TypedExpr known c → (there from : ℕ) (l : Lists) →
      Writes p code arguments layout (λ from to. TestCode code layout p scope (CondCode code layout p scope c) from there to) from l (tested_back (condition p scope c from (length scope) l) there)
  back_writes known scope agrees c h there from l =
      let k = condition p scope c from (length scope) l in
      let d = cond_decides p code arguments layout typed stand defined known scope agrees c h from (length scope) l in
      let T = CondCode code layout p scope c in
      record {
        to_is = back_is code arguments layout T from (length scope) l k d there;
        grows = d.grows;
        stands = λ f st. record { free = length scope; room = omega arith; leads = goes_back code arguments layout T from (length scope) l k d f there st };
      }

  -- a condition, and a jump past what is done where it holds
  module _ (known : Scope) (scope : LocalScope) (agrees : IsSubscope known (running_scope p scope)) (c : Expr) (h : TypedExpr known c) (from : ℕ) (l : Lists) where
    abbrev k : Condition
    k = condition p scope c from (length scope) l

    d : Decides code arguments layout (CondCode code layout p scope c) from (length scope) l k
    d = cond_decides p code arguments layout typed stand defined known scope agrees c h from (length scope) l

    head_is : (there : ℕ) (rest : List Instr) (to : ℕ) → to ≡ (k.to + 1) + length rest → to ≡ from + length (going_on k.code (test_in k) there ++ rest)
    head_is there rest to e =
        let a = on_is code arguments layout (CondCode code layout p scope c) from (length scope) l k d there in
        let u : length (going_on k.code (test_in k) there ++ rest) ≡ length (going_on k.code (test_in k) there) + length rest = length-append (going_on k.code (test_in k) there) rest in
        omega (arith, a, u, e)

    forward_test : (there : ℕ) (rest : List Instr) → Fits code arguments layout k.lists → Stand code arguments from (going_on k.code (test_in k) there ++ rest) → TestCode code layout p scope (CondCode code layout p scope c) from (k.to + 1) there
    forward_test there rest f st = record {
      free = length scope;
      room = omega arith;
      leads = goes_on code arguments layout (CondCode code layout p scope c) from (length scope) l k d f there (front code arguments from (going_on k.code (test_in k) there) rest st);
    }

    forward_rest : (there : ℕ) (rest : List Instr) → Stand code arguments from (going_on k.code (test_in k) there ++ rest) → Stand code arguments (k.to + 1) rest
    forward_rest there rest st = behind code arguments from (k.to + 1) (going_on k.code (test_in k) there) rest (on_is code arguments layout (CondCode code layout p scope c) from (length scope) l k d there) st

    if_writes : (A : ℕ → ℕ → Type 0) (a : Written) → Writes p code arguments layout A (k.to + 1) k.lists a →
        Writes p code arguments layout (λ from to. IfCode code layout p scope (CondCode code layout p scope c) A from to) from l (if_code k a)
    if_writes A a g = record {
      to_is = head_is a.to a.code a.to g.to_is;
      grows = grows_further l k.lists a.lists d.grows g.grows;
      stands = λ f st. record {
        true_exit = k.to + 1;
        false_exit = a.to;
        last = a.to;
        tests = forward_test a.to a.code (fits_before code arguments layout k.lists a.lists g.grows f) st;
        then_code = g.stands f (forward_rest a.to a.code st);
        then_leads = inl refl;
        else_leads = inl refl;
      };
    }

    if_else_writes : (A B : ℕ → ℕ → Type 0) (a b : Written) → Writes p code arguments layout A (k.to + 1) k.lists a → Writes p code arguments layout B (a.to + 1) a.lists b →
        Writes p code arguments layout (λ from to. IfElseCode code layout p scope (CondCode code layout p scope c) A B from to) from l (branched_twice k a b)
    if_else_writes A B a b g w =
        let skip : Instr = own.Jump b.to in
        let head : List Instr = going_on k.code (test_in k) (a.to + 1) ++ a.code in
        let last_is : a.to ≡ from + length head = head_is (a.to + 1) a.code a.to g.to_is in
        record {
          to_is = let y = w.to_is in let u : length (head ++ skip ∷ b.code) ≡ length head + length (skip ∷ b.code) = length-append head (skip ∷ b.code) in omega (arith, last_is, y, u);
          grows = grows_further l k.lists b.lists d.grows (grows_further k.lists a.lists b.lists g.grows w.grows);
          stands = λ f st.
              let first = front code arguments from head (skip ∷ b.code) st in
              let rest = behind code arguments from a.to head (skip ∷ b.code) last_is st in
              let fa = fits_before code arguments layout a.lists b.lists w.grows f in
              record {
                true_exit = k.to + 1;
                false_exit = a.to + 1;
                last = a.to;
                end = b.to;
                tests = forward_test (a.to + 1) a.code (fits_before code arguments layout k.lists a.lists g.grows fa) first;
                then_code = g.stands fa (forward_rest (a.to + 1) a.code first);
                then_leads = inr rest.0;
                else_code = w.stands f (subst (λ q. Stand code arguments q b.code) (omega arith) rest.1);
                else_leads = inl refl;
              };
        }

  -- loops: jumps, and the parts behind them
  jump_at : (n q to : ℕ) → n ≡ q → InstructionAt code n (Plain.Jump to) → InstructionAt code q (Plain.Jump to)
  jump_at n q to e h = subst (λ m. InstructionAt code m (Plain.Jump to)) e h

  loop_writes : (x : Exits) (scope : LocalScope) (c : Expr) (A : Exits → ℕ → ℕ → Type 0) (from : ℕ) (l : Lists) (a test : Written) →
      Writes p code arguments layout (A (looping x (from + 1) from)) (from + 2) l a →
      Writes p code arguments layout (λ from' to. TestCode code layout p scope (CondCode code layout p scope c) from' (from + 2) to) a.to a.lists test →
      Writes p code arguments layout (λ from to. WhileCode code layout p x scope (CondCode code layout p scope c) A from to) from l (while_written a test)
  loop_writes x scope c A from l a test g w =
      let jumps : List Instr = own.Jump a.to ∷ own.Jump test.to ∷ a.code in
      let last_is : a.to ≡ from + length jumps = (let y = g.to_is in omega (arith, y)) in
      record {
        to_is = let z = w.to_is in let u : length (jumps ++ test.code) ≡ length jumps + length test.code = length-append jumps test.code in omega (arith, last_is, z, u);
        grows = grows_further l a.lists test.lists g.grows w.grows;
        stands = λ f st.
            let first = front code arguments from jumps test.code st in
            record {
              test_at = a.to;
              body_at = from + 2;
              out = test.to;
              last = a.to;
              break_to = from + 1;
              continue_to = from;
              enters = inr first.0;
              tests = w.stands f (behind code arguments from a.to jumps test.code last_is st);
              ends = inl refl;
              body = g.stands (fits_before code arguments layout a.lists test.lists w.grows f) (subst (λ q. Stand code arguments q a.code) (omega arith) first.1.1);
              again = inl refl;
              breaks = inr (jump_at (suc from) (from + 1) test.to (omega arith) first.1.0);
              continues = inr first.0;
            };
      }

  do_writes : (x : Exits) (scope : LocalScope) (c : Expr) (A : Exits → ℕ → ℕ → Type 0) (from : ℕ) (l : Lists) (a test : Written) →
      Writes p code arguments layout (A (looping x (from + 1) (from + 2))) (from + 3) l a →
      Writes p code arguments layout (λ from' to. TestCode code layout p scope (CondCode code layout p scope c) from' (from + 3) to) a.to a.lists test →
      Writes p code arguments layout (λ from to. DoWhileCode code layout p x scope (CondCode code layout p scope c) A from to) from l (do_written (from + 3) a test)
  do_writes x scope c A from l a test g w =
      let jumps : List Instr = own.Jump (from + 3) ∷ own.Jump test.to ∷ own.Jump a.to ∷ a.code in
      let last_is : a.to ≡ from + length jumps = (let y = g.to_is in omega (arith, y)) in
      record {
        to_is = let z = w.to_is in let u : length (jumps ++ test.code) ≡ length jumps + length test.code = length-append jumps test.code in omega (arith, last_is, z, u);
        grows = grows_further l a.lists test.lists g.grows w.grows;
        stands = λ f st.
            let first = front code arguments from jumps test.code st in
            record {
              body_at = from + 3;
              last = a.to;
              test_at = a.to;
              again_at = from + 3;
              out = test.to;
              break_to = from + 1;
              continue_to = from + 2;
              enters = inr first.0;
              body = g.stands (fits_before code arguments layout a.lists test.lists w.grows f) (subst (λ q. Stand code arguments q a.code) (omega arith) first.1.1.1);
              goes_on = inl refl;
              tests = w.stands f (behind code arguments from a.to jumps test.code last_is st);
              again = inl refl;
              ends = inl refl;
              breaks = inr (jump_at (suc from) (from + 1) test.to (omega arith) first.1.0);
              continues = inr (jump_at (suc (suc from)) (from + 2) a.to (omega arith) first.1.1.0);
            };
      }

  for_writes : (x : Exits) (inner : LocalScope) (S : ℕ → ℕ → Type 0) (c : Option Expr) (step : Option Simple) (A : Exits → ℕ → ℕ → Type 0) (from : ℕ) (l : Lists) (start a next test : Written) →
      Writes p code arguments layout S from l start →
      Writes p code arguments layout (A (looping x (start.to + 1) (start.to + 2))) (start.to + 3) start.lists a →
      Writes p code arguments layout (SteppedCode code layout p inner step) a.to a.lists next →
      Writes p code arguments layout (λ from' to. HoldsCode code layout p inner c from' (start.to + 3) to) next.to next.lists test →
      Writes p code arguments layout (λ from to. ForCode code layout p x inner S c step A from to) from l (for_written start a next test)
  for_writes x inner S c step A from l start a next test s g n w =
      let jumps : List Instr = own.Jump next.to ∷ own.Jump test.to ∷ own.Jump a.to ∷ a.code in
      let one : List Instr = start.code ++ jumps in
      let two : List Instr = one ++ next.code in
      let one_is : a.to ≡ from + length one = (let y = s.to_is in let z = g.to_is in let u : length one ≡ length start.code + length jumps = length-append start.code jumps in omega (arith, y, z, u)) in
      let two_is : next.to ≡ from + length two = (let y = n.to_is in let u : length two ≡ length one + length next.code = length-append one next.code in omega (arith, one_is, y, u)) in
      let to_next : Grows a.lists test.lists = grows_further a.lists next.lists test.lists n.grows w.grows in
      let to_body : Grows start.lists test.lists = grows_further start.lists a.lists test.lists g.grows to_next in
      record {
        to_is = let y = w.to_is in let u : length (two ++ test.code) ≡ length two + length test.code = length-append two test.code in omega (arith, two_is, y, u);
        grows = grows_further l start.lists test.lists s.grows to_body;
        stands = λ f st.
            let st2 = front code arguments from two test.code st in
            let st1 = front code arguments from one next.code st2 in
            let at = behind code arguments from start.to start.code jumps s.to_is st1 in
            record {
              started = start.to;
              test_at = next.to;
              body_at = start.to + 3;
              out = test.to;
              last = a.to;
              step_at = a.to;
              stepped = next.to;
              break_to = start.to + 1;
              continue_to = start.to + 2;
              start_code = s.stands (fits_before code arguments layout start.lists test.lists to_body f) (front code arguments from start.code jumps st1);
              enters = inr at.0;
              tests = w.stands f (behind code arguments from next.to two test.code two_is st);
              ends = inl refl;
              body = g.stands (fits_before code arguments layout a.lists test.lists to_next f) (subst (λ q. Stand code arguments q a.code) (omega arith) at.1.1.1);
              goes_on = inl refl;
              steps = n.stands (fits_before code arguments layout next.lists test.lists w.grows f) (behind code arguments from a.to one next.code one_is st2);
              again = inl refl;
              breaks = inr (jump_at (suc start.to) (start.to + 1) test.to (omega arith) at.1.0);
              continues = inr (jump_at (suc (suc start.to)) (start.to + 2) a.to (omega arith) at.1.1.0);
            };
      }

  step_writes : (known : Scope) (scope : LocalScope) → IsSubscope known (running_scope p scope) → (step : Option Simple) → IfSome step (TypedSimple known) → (from : ℕ) (l : Lists) →
      Writes p code arguments layout (SteppedCode code layout p scope step) from l (for_step p scope step from l)
  step_writes known scope agrees None h from l = nothing_writes p code arguments layout from l
  step_writes known scope agrees (Some s) h from l = simple_writes p code arguments layout typed stand defined known scope agrees s h from l

  test_writes : (known : Scope) (scope : LocalScope) → IsSubscope known (running_scope p scope) → (c : Option Expr) → IfSome c (TypedExpr known) → (there from : ℕ) (l : Lists) →
      Writes p code arguments layout (λ from' to. HoldsCode code layout p scope c from' there to) from l (for_test p scope c there from l)
  test_writes known scope agrees None h there from l = one_writes p code arguments layout (λ from' to. HoldsCode code layout p scope None from' there to) (own.Jump there) from l (λ at. at)
  test_writes known scope agrees (Some c) h there from l = back_writes known scope agrees c h there from l

  return_writes : (known : Scope) (scope : LocalScope) → IsSubscope known (running_scope p scope) → (e : Expr) → TypedExpr known e → (u v : Scalar) (n m from : ℕ) → u ≡ v → m ≡ n → (l : Lists) →
      Writes p code arguments layout (λ from to. (mid : ℕ) × (r : ℕ) × ResultCode code layout p scope u e from mid r × Leaves code layout p mid m (Plain.Return (Some r))) from l
      (return_code n (as_type p scope v e from (length scope) (length scope) l))
  return_writes known scope agrees e h u v n m from gives same l =
      let x = as_type p scope v e from (length scope) (length scope) l in
      let i : Instr = own.ReturnValue x.location.register in
      let A : Coded = λ from to free r t. TypedCode code layout None e (ExprCode code layout p None scope e) v from to free r in
      then_writes p code arguments layout (λ from to. A from to (length scope) x.location.register x.location.ty) (λ from to. Leaves code layout p from n (Plain.Return (Some x.location.register)))
      (λ from to. (mid : ℕ) × (r : ℕ) × ResultCode code layout p scope u e from mid r × Leaves code layout p mid m (Plain.Return (Some r))) from l (code_of_value x) (left_by n i x.location.to x.lists)
      (evaluated_writes p code arguments layout A from (length scope) l x (due_emits p code arguments layout typed stand defined known scope agrees None v e h from (length scope) (length scope) l (omega arith)))
      (left_writes p code arguments layout n i x.location.to x.lists)
      (λ a b. (x.location.to, x.location.register, record { free = length scope; room = omega arith; computes = subst (λ t. TypedCode code layout None e (ExprCode code layout p None scope e) t from x.location.to (length scope) x.location.register) (sym gives) a }, subst (λ k. Leaves code layout p x.location.to k (Plain.Return (Some x.location.register))) (sym same) b))

  print_writes : (known : Scope) (scope : LocalScope) → IsSubscope known (running_scope p scope) → (format : List ℕ) (es : Exprs) → TypedExprs known es → IsTrue (length (specifiers (pieces format)) == count es) → (from : ℕ) (l : Lists) →
      Writes p code arguments layout (PrintCode code layout p scope format es) from l (print_written (emit_all p scope [] es (from + 1) (length scope) l) (pieces format))
  print_writes known scope agrees format es h n from l =
      let args = emit_all p scope [] es (from + 1) (length scope) l in
      let g = all_emits p code arguments layout typed stand defined known scope agrees [] es h (from + 1) (length scope) l in
      let number : length (specifiers (pieces format)) ≡ count es = eqb-true (length (specifiers (pieces format))) (count es) n in
      let many = registers_are p scope [] es (from + 1) (length scope) l in
      let w = pieces_write p code arguments layout (pieces format) args.registers (omega (arith, number, many)) args.to args.lists in
      let rest = pieces_written (pieces format) args.registers args.to args.lists in
      let head : List Instr = own.Irrevocable ∷ args.code in
      let head_is : args.to ≡ from + length head = (let a = g.to_is in omega (arith, a)) in
      record {
        to_is = let b = w.to_is in let u : length (head ++ rest.code) ≡ length head + length rest.code = length-append head rest.code in omega (arith, head_is, b, u);
        grows = grows_further l args.lists rest.lists g.grows w.grows;
        stands = λ f st.
            let first = front code arguments from head rest.code st in
            record {
              irrevocable = first.0;
              free = length scope;
              room = omega arith;
              mid = args.to;
              rs = args.registers;
              args = subst (λ q. ArgsCode code layout p scope [] es q args.to (length scope) args.registers) (omega arith)
                  (g.stands (fits_before code arguments layout args.lists rest.lists w.grows f) (subst (λ q. Stand code arguments q args.code) (omega arith) first.1));
              prints = w.stands f (behind code arguments from args.to head rest.code head_is st);
            };
      }

  transaction_writes : (kind : TransactionKind) (x : Exits) (A : Exits → ℕ → ℕ → Type 0) (from : ℕ) (l : Lists) (a : Written) → Writes p code arguments layout (A (in_transaction kind x)) (from + 1) l a →
      Writes p code arguments layout (λ from to. TransactionCode code layout p kind x A from to) from l (transaction_code a)
  transaction_writes kind x A from l a g =
      let begins : List Instr = own.Begin (a.to + 1) ∷ a.code in
      let last_is : a.to ≡ from + length begins = (let y = g.to_is in omega (arith, y)) in
      record {
        to_is = let u : length (begins ++ own.Commit ∷ []) ≡ length begins + 1 = length-append begins (own.Commit ∷ []) in omega (arith, last_is, u);
        grows = g.grows;
        stands = λ f st.
            let first = front code arguments from begins (own.Commit ∷ []) st in
            record {
              last = a.to;
              begins = first.0;
              runs = subst (λ q. A (in_transaction kind x) q a.to) (omega arith) (g.stands f (subst (λ q. Stand code arguments q a.code) (omega arith) first.1));
              commits = (behind code arguments from a.to begins (own.Commit ∷ []) last_is st).0;
              to_is = omega arith;
            };
      }

  -- an outer cancel
  cancelling_is : (n : ℕ) → instr_of arguments (Own.cancelling (suc n)) ≡ cancelling n
  cancelling_is zero = refl
  cancelling_is (suc n) = refl

  outer_cancel_writes : (levels : Option ℕ) → IsInOuter levels → (n : ℕ) → n ≡ level_of levels → (from : ℕ) (l : Lists) →
      Writes p code arguments layout (λ from to. OuterCancelCode code layout p levels from) from l (one_written (Own.cancelling n) from l)
  outer_cancel_writes None inside n e from l = absurd inside
  outer_cancel_writes (Some levels) inside n e from l =
      subst (λ n. Writes p code arguments layout (λ from to. InstructionAt code from (cancelling levels)) from l (one_written (Own.cancelling n) from l)) (sym e)
      (one_writes p code arguments layout (λ from to. InstructionAt code from (cancelling levels)) (Own.cancelling (suc levels)) from l (λ a. subst (λ i. InstructionAt code from i) (cancelling_is levels) a))

  mutual
    pub stmt_writes : (s : Stmt) (known : Scope) (looping : Bool) (scope : LocalScope) (x : OwnExits) (y : Exits) → IsSubscope known (running_scope p scope) → SameExits x y → TypedStmt s known looping → CancelsFit s (enclosing y) → (from : ℕ) (l : Lists) →
        Writes p code arguments layout (StmtCode code layout p y scope s) from l (stmt_code p s x scope from l)
    stmt_writes Empty known looping scope x y agrees same h c from l = nothing_writes p code arguments layout from l
    stmt_writes (Declare d) known looping scope x y agrees same h c from l = declared_writes p code arguments layout typed stand defined d.ty d.declarators known scope agrees h from l
    stmt_writes (Do s) known looping scope x y agrees same h c from l = simple_writes p code arguments layout typed stand defined known scope agrees s h from l
    stmt_writes (Block ss) known looping scope x y agrees same h c from l = stmts_write ss known looping scope x y agrees same h c from l
    stmt_writes (Print at format format_at es) known looping scope x y agrees same h c from l = print_writes known scope agrees format es h.0 h.1 from l
    stmt_writes (If e a) known looping scope x y agrees same h c from l =
        let k = condition p scope e from (length scope) l in
        if_writes known scope agrees e h.0 from l (StmtCode code layout p y scope a) (stmt_code p a x scope (k.to + 1) k.lists)
        (stmt_writes a known looping scope x y agrees same h.1 c (k.to + 1) k.lists)
    stmt_writes (IfElse e a b) known looping scope x y agrees same h c from l =
        let k = condition p scope e from (length scope) l in
        let first = stmt_code p a x scope (k.to + 1) k.lists in
        if_else_writes known scope agrees e h.0 from l (StmtCode code layout p y scope a) (StmtCode code layout p y scope b) first (stmt_code p b x scope (first.to + 1) first.lists)
        (stmt_writes a known looping scope x y agrees same h.1 c.0 (k.to + 1) k.lists)
        (stmt_writes b known looping scope x y agrees same h.2 c.1 (first.to + 1) first.lists)
    stmt_writes (While e a) known looping scope x y agrees same h c from l =
        let body = stmt_code p a (Own.looping x (from + 1) from) scope (from + 2) l in
        loop_writes y scope e (λ z. StmtCode code layout p z scope a) from l body (tested_back (condition p scope e body.to (length scope) body.lists) (from + 2))
        (stmt_writes a known true scope (Own.looping x (from + 1) from) (Lowered.looping y (from + 1) from) agrees (same_looping x y (from + 1) from same) h.1 c (from + 2) l)
        (back_writes known scope agrees e h.0 (from + 2) body.to body.lists)
    stmt_writes (DoWhile a e) known looping scope x y agrees same h c from l =
        let body = stmt_code p a (Own.looping x (from + 1) (from + 2)) scope (from + 3) l in
        do_writes y scope e (λ z. StmtCode code layout p z scope a) from l body (tested_back (condition p scope e body.to (length scope) body.lists) (from + 3))
        (stmt_writes a known true scope (Own.looping x (from + 1) (from + 2)) (Lowered.looping y (from + 1) (from + 2)) agrees (same_looping x y (from + 1) (from + 2) same) h.0 c (from + 3) l)
        (back_writes known scope agrees e h.1 (from + 3) body.to body.lists)
    stmt_writes (For start e step a) known looping scope x y agrees same h c from l =
        let inner = locals_of_start start scope in
        let known' = scope_of_start start known in
        let ahead = start_agrees p start known scope agrees in
        let first = start_written p start scope from l in
        let body = stmt_code p a (Own.looping x (first.to + 1) (first.to + 2)) inner (first.to + 3) first.lists in
        let next = for_step p inner step body.to body.lists in
        for_writes y inner (StartCode code layout p scope start) e step (λ z. StmtCode code layout p z inner a) from l first body next (for_test p inner e (first.to + 3) next.to next.lists)
        (start_writes p code arguments layout typed stand defined start known scope agrees h.0 from l)
        (stmt_writes a known' true inner (Own.looping x (first.to + 1) (first.to + 2)) (Lowered.looping y (first.to + 1) (first.to + 2)) ahead (same_looping x y (first.to + 1) (first.to + 2) same) h.3 c (first.to + 3) first.lists)
        (step_writes known' inner ahead step h.2 body.to body.lists)
        (test_writes known' inner ahead e h.1 (first.to + 3) next.to next.lists)
    stmt_writes (Break at) known looping scope x y agrees same h c from l =
        subst (λ n. Writes p code arguments layout (λ from to. Leaves code layout p from n (Plain.Jump y.break_to)) from l (left_by x.in_loop (own.Jump x.break_to) from l)) (sym same.in_loop)
        (subst (λ q. Writes p code arguments layout (λ from to. Leaves code layout p from x.in_loop (Plain.Jump q)) from l (left_by x.in_loop (own.Jump x.break_to) from l)) (sym same.break_to)
        (left_writes p code arguments layout x.in_loop (own.Jump x.break_to) from l))
    stmt_writes (Continue at) known looping scope x y agrees same h c from l =
        subst (λ n. Writes p code arguments layout (λ from to. Leaves code layout p from n (Plain.Jump y.continue_to)) from l (left_by x.in_loop (own.Jump x.continue_to) from l)) (sym same.in_loop)
        (subst (λ q. Writes p code arguments layout (λ from to. Leaves code layout p from x.in_loop (Plain.Jump q)) from l (left_by x.in_loop (own.Jump x.continue_to) from l)) (sym same.continue_to)
        (left_writes p code arguments layout x.in_loop (own.Jump x.continue_to) from l))
    stmt_writes (Return None at) known looping scope x y agrees same h c from l =
        subst (λ n. Writes p code arguments layout (λ from to. Leaves code layout p from n (Plain.Return None)) from l (left_by x.in_function own.Return from l)) (sym same.in_function)
        (left_writes p code arguments layout x.in_function own.Return from l)
    stmt_writes (Return (Some e) at) known looping scope x y agrees same h c from l = return_writes known scope agrees e h y.gives x.gives x.in_function y.in_function from same.gives same.in_function l
    stmt_writes (Transaction kind ss at) known looping scope x y agrees same h c from l =
        transaction_writes kind y (λ z. StmtsCode code layout p z scope ss) from l (stmts_code p ss (Own.in_transaction kind x) scope (from + 1) l)
        (stmts_write ss known looping scope (Own.in_transaction kind x) (Lowered.in_transaction kind y) agrees (same_in_transaction kind x y same) h c (from + 1) l)
    stmt_writes (Cancel at) known looping scope x y agrees same h c from l = one_writes p code arguments layout (StmtCode code layout p y scope (Cancel at)) own.Cancel from l (λ a. (c, a))
    stmt_writes (CancelOuter at) known looping scope x y agrees same h c from l = outer_cancel_writes y.in_outer c x.to_outer same.to_outer from l

    pub stmts_write : (ss : Stmts) (known : Scope) (looping : Bool) (scope : LocalScope) (x : OwnExits) (y : Exits) → IsSubscope known (running_scope p scope) → SameExits x y → TypedStmts ss known looping → AllCancelsFit ss (enclosing y) → (from : ℕ) (l : Lists) →
        Writes p code arguments layout (StmtsCode code layout p y scope ss) from l (stmts_code p ss x scope from l)
    stmts_write Stmts.[] known looping scope x y agrees same h c from l = nothing_writes p code arguments layout from l
    stmts_write (Stmts.◌∷◌ s ss) known looping scope x y agrees same h c from l =
        let first = stmt_code p s x scope from l in
        then_writes p code arguments layout (StmtCode code layout p y scope s) (StmtsCode code layout p y (locals_after s scope) ss) (StmtsCode code layout p y scope (Stmts.◌∷◌ s ss)) from l first (stmts_code p ss x (locals_after s scope) first.to first.lists)
        (stmt_writes s known looping scope x y agrees same h.0 c.0 from l)
        (stmts_write ss (Typing.scope_after s known) looping (locals_after s scope) x y (after_agrees p s known scope agrees) same h.1 c.1 first.to first.lists)
        (λ a b. (first.to, a, b))
