-- The meaning of expressions and statements (C11 6.5, 6.8), evaluated from left to right.
use Rattle.std.specs.Prelude.{ℕ, zero, suc, ◌+◌, pos, List, [], ◌∷◌, ◌++◌, length, take, Option, Some, None}
use Rattle.std.specs.Prelude.{if◌then◌else◌, Bool, true, false, not, nat_lt, unwrap_or, option_map}
use Rattle.std.specs.Fmt.{signed_decimal}
use Rattle.syntax.specs.Tree.{Scalar, Int, BinaryOp, Add, Subtract, AndThen, OrElse, IncDec, Increment, Decrement, Mode}
use Rattle.syntax.specs.Tree.{Atomic, Relaxed, TransactionKind, Plain, Outer, Expr, Exprs, Variable, Constant, Element}
use Rattle.syntax.specs.Tree.{Call}
use Rattle.syntax.specs.Tree.{Parenthesized, Cast, Unary, Binary, Logical, Conditional, InTransaction, Simple, Evaluate}
use Rattle.syntax.specs.Tree.{Assign, Adjust, Declarator, Start, Nothing, Declares, Does, Stmt, Stmts, Empty, Declare}
use Rattle.syntax.specs.Tree.{Do, Block, Print, If, IfElse, While, DoWhile, For, Break, Continue, Return, Transaction}
use Rattle.syntax.specs.Tree.{Cancel, CancelOuter, Parameter, Program}
use Rattle.syntax.specs.Numbers.{Value, Index, Frames, word_of, number, value_in_type, is_zero, flag, unary, binary}
use Rattle.syntax.specs.Names.{Local, newest, word_at, with_word, global_of, cells, definition_of}
use Rattle.syntax.specs.Formats.{Piece, Literal, Specifier, pieces}
use Rattle.syntax.specs.Types.{type_of, running_scope}
use Rattle.syntax.specs.Behaviours.{Memory, Trapped, Wants, Spent, Astray}
use Rattle.syntax.specs.Actions.{Context, Outside, Inside, State, Answer, Gives, Stops, Action, pure, stop, go_on}
use Rattle.syntax.specs.Actions.{◌>>=◌, ◌>>◌, tick, trap, or_trap, or_astray, locals, put_locals, load, store}
use Rattle.syntax.specs.Actions.{may_print, print_piece, memory_in}

-- an lvalue: a local variable, by its index among the locals, or a shared cell
pub data Lvalue : Type 0 where
  InLocal : (i : ℕ) (ty : Scalar) → Lvalue
  InCell : (cell : ℕ) (ty : Scalar) → Lvalue

abbrev pub fetch : Lvalue → Action Value
fetch (InLocal i t) = do mine ← locals; pure (record { ty = t; word = word_at mine i })
fetch (InCell c t) = do w ← load c; pure (record { ty = t; word = w })

abbrev pub assign : Lvalue → Value → Action (Unit {0})
assign (InLocal i t) v = do mine ← locals; put_locals (with_word mine i (value_in_type t v).word)
assign (InCell c t) v = store c (value_in_type t v).word

-- the pieces of a format, with these values for its specifiers
abbrev pub print_pieces : List Piece → List Value → Action (Unit {0})
print_pieces [] vs = pure tt
print_pieces (Literal text ∷ ps) vs = print_piece text >> print_pieces ps vs
print_pieces (Specifier t ∷ ps) [] = stop Astray
print_pieces (Specifier t ∷ ps) (v ∷ vs) = print_piece (signed_decimal (number t v.word)) >> print_pieces ps vs

-- ---- statements (C11 6.8)

-- how a statement ends
pub data Completion : Type 0 where
  Next Breaks Continues : Completion
  Returns : (v : Value) → Completion
  Cancels CancelsOuter : Completion

-- the rest follows if the first completes normally
abbrev pub on_next : Action Completion → Completion → Action Completion
on_next rest Next = rest
on_next rest end = pure end

-- a scope: its names are gone at its end
abbrev pub in_scope : Action Completion → Action Completion
in_scope run = do
  outer ← locals
  end ← run
  all ← locals
  put_locals (take (length outer) all)
  pure end

-- after an iteration, which may end the loop
abbrev pub after_turn : Action Completion → Option Completion → Action Completion
after_turn rest None = rest
after_turn rest (Some end) = pure end

-- at most this many iterations, each for a tick
abbrev pub turns : ℕ → Action (Option Completion) → Action Completion
turns zero turn = stop Spent
turns (suc n) turn = tick >> (turn >>= after_turn (turns n turn))

-- a loop: since each iteration takes a tick, there are never more iterations than ticks
abbrev pub loop : Action (Option Completion) → Action Completion
loop turn s = turns s.ticks turn s

-- how the end of a loop's body affects the loop, which may continue with the next action
abbrev pub after_body : Action (Option Completion) → Completion → Action (Option Completion)
after_body go Next = go
after_body go Continues = go
after_body go Breaks = pure (Some Next)
after_body go end = pure (Some end)

-- ---- transactions (the C++ draft on transactions 1.1, 2012: atomic, relaxed and outer ones, and the statements that
-- cancel them)

-- how a transaction of this kind runs
abbrev pub mode_of : TransactionKind → Mode
mode_of (Plain mode) = mode
mode_of Outer = Atomic

-- a cancel undoes the innermost transaction, and an outer cancel the innermost outer one with all in it
abbrev pub undoes : Completion → TransactionKind → Bool
undoes Cancels kind = true
undoes CancelsOuter Outer = true
undoes end kind = false

-- the effects of a transaction: one that is undone restores shared memory and locals, and the run continues after it
pub record Left : Type 0 where
  pub end : Completion
  pub locals : List Local
  pub memory : Memory

abbrev pub left_or : Bool → List Local → Memory → Completion → State → Left
left_or true mine found end now = record { end = Next; locals = mine; memory = found }
left_or false mine found end now = record { end = end; locals = now.locals; memory = memory_in now.context }

abbrev pub left_by : TransactionKind → List Local → Memory → Completion → State → Left
left_by kind mine found end now = left_or (undoes end kind) mine found end now

-- a transaction nested in another, which runs as outer and sees the effects
abbrev pub leave_inner : Mode → Left → State → Answer Completion
leave_inner outer left now = Gives left.end (record now { locals = left.locals; context = Inside outer left.memory })

abbrev pub close_inner : Mode → TransactionKind → List Local → Memory → Answer Completion → Answer Completion
close_inner outer kind mine found (Gives end now) = leave_inner outer (left_by kind mine found end now) now
close_inner outer kind mine found (Stops why now) = Stops why now

abbrev pub inner : (outer : Mode) (kind : TransactionKind) → Memory → Action Completion → Action Completion
inner outer kind found run s =
    close_inner outer kind s.locals found (run (record s { context = Inside (mode_of kind) found }))

-- an outermost transaction commits or is undone: its tick is due before the post-state is added
abbrev pub leave : List Memory → List Memory → Left → Action Completion
leave founds lefts left now =
    go_on (tick (record now { context = Outside founds lefts }))
    (λ u then_. Gives left.end
    (record then_ { locals = left.locals; context = Outside founds (lefts ++ left.memory ∷ []) }))

-- a trap leaves the transaction's pre-state, and any other stop leaves none
abbrev pub close : TransactionKind → List Memory → List Memory → List Local → Memory → Answer Completion
    → Answer Completion
close kind founds lefts mine found (Gives end now) = leave founds lefts (left_by kind mine found end now) now
close kind founds lefts mine found (Stops (Trapped k) now) =
    Stops (Trapped k) (record now { context = Outside founds (lefts ++ found ∷ []) })
close kind founds lefts mine found (Stops why now) = Stops why (record now { context = Outside founds lefts })

abbrev pub outermost : TransactionKind → Memory → List Memory → List Memory → Action Completion → Action Completion
outermost kind found founds lefts run s =
    close kind founds lefts s.locals found (run (record s { context = Inside (mode_of kind) found }))

-- a transaction begins: outside it takes the next memory, and inside an atomic one no relaxed one may begin
abbrev pub enter : Context → TransactionKind → Action Completion → Action Completion
enter (Outside [] lefts) kind run = stop Wants
enter (Outside (found ∷ founds) lefts) kind run = outermost kind found founds lefts run
enter (Inside Relaxed found) kind run = inner Relaxed kind found run
enter (Inside Atomic found) (Plain Relaxed) run = stop Astray
enter (Inside Atomic found) kind run = inner Atomic kind found run

abbrev pub transaction : TransactionKind → Action Completion → Action Completion
transaction kind run s = enter s.context kind run s

-- outside transactions, a transaction expression takes a tick before it needs a memory
abbrev pub begin_at : Context → Action (Unit {0})
begin_at (Outside founds lefts) = tick
begin_at (Inside mode memory) = pure tt

abbrev pub begin_value : Action (Unit {0})
begin_value s = begin_at s.context s

-- the value of a transaction expression (the draft's): its body ends with it
abbrev pub value_at : Completion → Action Value
value_at (Returns v) = pure v
value_at end = stop Astray

abbrev pub value_transaction : Mode → Action Value → Action Value
value_transaction mode run = do
  begin_value
  end ← transaction (Plain mode) (do v ← run; pure (Returns v))
  value_at end

abbrev pub op_of : IncDec → BinaryOp
op_of Increment = Add
op_of Decrement = Subtract

abbrev pub int_one : Value
int_one = record { ty = Int; word = 1 }

-- ---- expressions (C11 6.5)

-- a call of a function by its name
abbrev pub Caller : Type 0
Caller = List ℕ → List Value → Action Value

module _ (p : Program) (call : Caller) where
  -- the lvalue of a name: the newest local of that name, else the global
  abbrev pub lvalue_from : List ℕ → Option (ℕ × Scalar) → Action Lvalue
  lvalue_from x (Some l) = pure (InLocal l.0 l.1)
  lvalue_from x None = do g ← or_astray (global_of p x); pure (InCell g.cell g.global.ty)

  abbrev pub lvalue_of_name : List ℕ → Action Lvalue
  lvalue_of_name x = do mine ← locals; lvalue_from x (newest mine x)

  -- an index is checked when it is computed
  abbrev pub element : List ℕ → Value → Action Lvalue
  element x k = do
    g ← or_astray (global_of p x)
    if nat_lt k.word (cells g.global) then pure (InCell (g.cell + k.word) g.global.ty) else trap Index

  abbrev mutual
    -- names and constants, elements and calls (C11 6.5.1, 6.5.2.1, 6.5.2.2)
    pub expr : Expr → Action Value
    expr (Variable x) = do at ← lvalue_of_name x.text; fetch at
    expr (Constant n t at) = pure (record { ty = t; word = word_of t (pos n) })
    expr (Element x i at) = do k ← expr i; at ← element x.text k; fetch at
    expr (Call f es at) = do vs ← exprs es; tick; call f.text vs
    expr (Parenthesized e at) = expr e
    -- conversions and operators (6.5.4, 6.5.3.3, 6.5.5 to 6.5.12)
    expr (Cast t e at) = do v ← expr e; pure (value_in_type t v)
    expr (Unary op e at) = do v ← expr e; or_trap (unary op v)
    expr (Binary op a b at) = do v ← expr a; w ← expr b; or_trap (binary op v w)
    -- operands that are evaluated only if needed (6.5.13 to 6.5.15)
    expr (Logical AndThen a b at) =
        do v ← expr a; w ← if is_zero v then pure v else expr b; pure (flag (not (is_zero w)))
    expr (Logical OrElse a b at) =
        do v ← expr a; w ← if is_zero v then expr b else pure v; pure (flag (not (is_zero w)))
    expr (Conditional c a b at) = do
      v ← expr c
      w ← if is_zero v then expr b else expr a
      mine ← locals
      t ← or_astray (type_of (running_scope p mine) (Conditional c a b at))
      pure (value_in_type t w)
    -- a transaction expression, as one step
    expr (InTransaction mode keyword e at) = value_transaction mode (expr e)

    pub exprs : Exprs → Action (List Value)
    exprs Exprs.[] = pure []
    exprs (Exprs.◌∷◌ e es) = do v ← expr e; vs ← exprs es; pure (v ∷ vs)

  -- the left side of an assignment
  abbrev pub lvalue : Expr → Action Lvalue
  lvalue (Variable x) = lvalue_of_name x.text
  lvalue (Element x i at) = do k ← expr i; element x.text k
  lvalue e = stop Astray

  -- the value that a compound assignment stores; the old value is read first
  abbrev pub assign_by_operator : Lvalue → Action Value → BinaryOp → Action (Unit {0})
  assign_by_operator at by op = do old ← fetch at; v ← by; new ← or_trap (binary op old v); assign at new

  abbrev pub assign_by : Lvalue → Action Value → Option BinaryOp → Action (Unit {0})
  assign_by at by None = do v ← by; assign at v
  assign_by at by (Some op) = assign_by_operator at by op

  -- expressions as statements, assignments, ++ and -- (C11 6.8.3, 6.5.16, 6.5.2.4, 6.5.3.1)
  abbrev pub simple : Simple → Action Completion
  simple (Evaluate e) = do expr e; pure Next
  simple (Assign to op e) = do at ← lvalue to; assign_by at (expr e) op; pure Next
  simple (Adjust to by) = do at ← lvalue to; assign_by_operator at (pure int_one) (op_of by); pure Next

  -- a declared name is 0 and then, in its own scope, its first value (6.2.1, 6.7.9)
  abbrev pub first_value : Lvalue → Option Expr → Action (Unit {0})
  first_value at None = pure tt
  first_value at (Some e) = do v ← expr e; assign at v

  abbrev pub declare : Scalar → List Declarator → Action Completion
  declare t [] = pure Next
  declare t (d ∷ ds) = do
    mine ← locals
    put_locals (mine ++ record { name = d.name.text; ty = t; word = 0 } ∷ [])
    first_value (InLocal (length mine) t) d.first
    declare t ds

  abbrev pub start_with : Start → Action Completion
  start_with Nothing = pure Next
  start_with (Declares d) = declare d.ty d.declarators
  start_with (Does s) = simple s

  -- a missing condition is true
  abbrev pub for_condition : Option Expr → Action Bool
  for_condition None = pure true
  for_condition (Some e) = do v ← expr e; pure (not (is_zero v))

  abbrev pub optional_step : Option Simple → Action (Option Completion)
  optional_step None = pure None
  optional_step (Some s) = do simple s; pure None

  abbrev pub return_value : Option Expr → Action Value
  return_value None = pure (flag false)
  return_value (Some e) = expr e

  abbrev mutual
    -- blocks and declarations (C11 6.8.2), printing (7.21.6.3)
    pub stmt : Stmt → Action Completion
    stmt Empty = do tick; pure Next
    stmt (Declare d) = do tick; declare d.ty d.declarators
    stmt (Do s) = do tick; simple s
    stmt (Block ss) = do tick; in_scope (stmts ss)
    stmt (Print at format format_at es) = do tick; may_print; vs ← exprs es; print_pieces (pieces format) vs; pure Next
    -- selection and iteration: each substatement is a scope of its own (6.8.4, 6.8.5)
    stmt (If c a) = do tick; v ← expr c; if is_zero v then pure Next else in_scope (stmt a)
    stmt (IfElse c a b) = do tick; v ← expr c; if is_zero v then in_scope (stmt b) else in_scope (stmt a)
    stmt (While c a) = do
      tick
      loop (do v ← expr c; if is_zero v then pure (Some Next) else (in_scope (stmt a) >>= after_body (pure None)))
    stmt (DoWhile a c) = do
      tick
      loop (in_scope (stmt a) >>= after_body (do v ← expr c; pure (if is_zero v then Some Next else None)))
    stmt (For start c step a) = do
      tick
      in_scope (do
        start_with start
        loop (do
          more ← for_condition c
          if more then (in_scope (stmt a) >>= after_body (optional_step step)) else pure (Some Next)))
    -- jumps (6.8.6)
    stmt (Break at) = do tick; pure Breaks
    stmt (Continue at) = do tick; pure Continues
    stmt (Return e at) = do tick; v ← return_value e; pure (Returns v)
    -- transactions run as one step; a cancel ends the innermost one, an outer cancel the innermost outer one
    stmt (Transaction kind ss at) = do tick; transaction kind (in_scope (stmts ss))
    stmt (Cancel at) = do tick; pure Cancels
    stmt (CancelOuter at) = do tick; pure CancelsOuter

    pub stmts : Stmts → Action Completion
    stmts Stmts.[] = pure Next
    stmts (Stmts.◌∷◌ s ss) = stmt s >>= on_next (stmts ss)

-- the parameters, with the arguments converted (C11 6.5.2.2); an unnamed one binds nothing
abbrev pub parameter_local : Parameter → Value → List Local
parameter_local q v =
    unwrap_or (option_map (λ x. record { name = x.text; ty = q.ty; word = (value_in_type q.ty v).word } ∷ []) q.name) []

abbrev pub call_locals : List Parameter → List Value → Option (List Local)
call_locals [] [] = Some []
call_locals (q ∷ qs) (v ∷ vs) = option_map (λ ls. parameter_local q v ++ ls) (call_locals qs vs)
call_locals qs vs = None

-- the value of a call, of the function's own type (6.8.6.4): 0 if the body runs off its end; no other end leaves a body
abbrev pub result_of : Option Scalar → Completion → Action Value
result_of t Next = pure (value_in_type (unwrap_or t Int) (flag false))
result_of t (Returns v) = pure (value_in_type (unwrap_or t Int) v)
result_of t end = stop Astray

-- a function's body, with locals of its own
abbrev pub invoke : Program → Caller → Caller
invoke p call x vs = do
  f ← or_astray (definition_of p x)
  mine ← or_astray (call_locals f.0.parameters vs)
  outer ← locals
  put_locals mine
  end ← stmts p call f.1
  put_locals outer
  result_of f.0.result end

-- a call if this many further frames may be live
abbrev pub calls : Program → ℕ → Caller
calls p zero x vs = trap Frames
calls p (suc k) x vs = invoke p (calls p k) x vs
