-- A statement keeps the names and types of the locals that were there before.
use Rattle.std.proofs.Common.{◌≡◌, ℕ, zero, suc, refl, sym, ap, ◌∙◌, List, [], ◌∷◌, ◌++◌, append_assoc, append-nil, length, map, take, Option, Some, None, Bool, true, false}
use Rattle.std.specs.Prelude.{if◌then◌else◌}
use Rattle.lex.specs.declared.token.Scalar.{Scalar}
use Rattle.syntax.specs.declared.tree.BinaryOp.{BinaryOp}
use Rattle.syntax.specs.declared.tree.Mode.{Mode}
use Rattle.syntax.specs.declared.tree.Mode.TheVariants.{Atomic, Relaxed}
use Rattle.syntax.specs.declared.tree.TransactionKind.{TransactionKind}
use Rattle.syntax.specs.declared.tree.TransactionKind.TheVariants.{Plain, Outer}
use Rattle.syntax.specs.declared.thread_end.Halt.{Halt}
use Rattle.syntax.specs.declared.thread_end.Halt.TheVariants.{Trapped, Spent, Astray}
use Rattle.syntax.specs.declared.value.Value.{Value}
use Rattle.syntax.specs.Tree as Tree
use Rattle.syntax.specs.Tree.{Expr, Variable, Element, Simple, Evaluate, Assign, Adjust, Declarator, Start, Nothing, Declares, Does, Stmt, Stmts, Empty, Declare, Do, Block, Print, If, IfElse, While, DoWhile, For, Break, Continue, Return, Transaction, Cancel, CancelOuter, Program}
use Rattle.syntax.specs.Names.{Local, with_word}
use Rattle.syntax.specs.Formats.{Piece, Literal, Specifier, pieces}
use Rattle.syntax.specs.Behaviours.{Memory}
use Rattle.syntax.specs.Actions.{Context, Outside, Inside, State, Answer, Gives, Stops, Action, pure, stop, go_on, ◌>>=◌, ◌>>◌, spend, tick, store_at, may_print_at, may_print, write, print_piece}
use Rattle.syntax.specs.Meaning.{Lvalue, InLocal, InCell, assign, print_pieces, Completion, Next, Breaks, Continues, Returns, Cancels, CancelsOuter, mode_of, on_next, in_scope, after_turn, turns, loop, after_body, Left, undoes, left_or, left_by, close_inner, close, enter, transaction, op_of, int_one, Caller, expr, lvalue, assign_by_operator, assign_by, simple, first_value, declare, start_with, for_condition, optional_step, return_value, stmt, stmts, calls}
use Rattle.syntax.specs.Laws.{WhereGiven, shape, KeepsOlderLocals, BeginsWithLocals}
use Rattle.syntax.proofs.locals.Expressions.{LeavesLocals, named_holds, element_holds, expr_holds, exprs_holds, fetch_holds, or_trap_holds, calls_holds}

begins_same : (ls ms : List Local) → ms ≡ ls → BeginsWithLocals ls ms
begins_same ls ms e = ([], ap (map shape) e ∙ sym (append-nil (map shape ls)))

begins_trans : (ls ms ns : List Local) → BeginsWithLocals ls ms → BeginsWithLocals ms ns → BeginsWithLocals ls ns
begins_trans ls ms ns a b = (a.0 ++ b.0, b.1 ∙ ap (λ x. x ++ b.0) a.1 ∙ append_assoc (map shape ls) a.0 b.0)

-- where it gives something, the locals of its beginning stand first
pub record KeepsOlder {A : Type 0} (run : Action A) : Type 0 where
  pub keeps : (s : State) → WhereGiven (run s) (λ a now. BeginsWithLocals s.locals now.locals)

from_earlier : {A : Type 0} (ls ms : List Local) (r : Answer A) → BeginsWithLocals ls ms → WhereGiven r (λ a now. BeginsWithLocals ms now.locals) → WhereGiven r (λ a now. BeginsWithLocals ls now.locals)
from_earlier ls ms (Gives a t) e h = begins_trans ls ms t.locals e h
from_earlier ls ms (Stops why t) e h = tt

on_keeps : {A B : Type 0} (ls : List Local) (r : Answer A) (rest : A → Action B) → WhereGiven r (λ a now. BeginsWithLocals ls now.locals) → ((a : A) (t : State) → WhereGiven (rest a t) (λ b now. BeginsWithLocals t.locals now.locals)) → WhereGiven (go_on r rest) (λ b now. BeginsWithLocals ls now.locals)
on_keeps ls (Gives a t) rest e h = from_earlier ls t.locals (rest a t) e (h a t)
on_keeps ls (Stops why t) rest e h = tt

pub on_older : {A B : Type 0} {run : Action A} {rest : A → Action B} → KeepsOlder run → ((a : A) → KeepsOlder (rest a)) → KeepsOlder (run >>= rest)
on_older {run = run} {rest = rest} g h = record { keeps = λ s. on_keeps s.locals (run s) rest (g.keeps s) (λ a t. (h a).keeps t) }

pub then_older : {A B : Type 0} {run : Action A} {rest : Action B} → KeepsOlder run → KeepsOlder rest → KeepsOlder (run >> rest)
then_older g h = on_older g (λ _. h)

left_alone : {A : Type 0} (ls : List Local) (r : Answer A) → WhereGiven r (λ a now. now.locals ≡ ls) → WhereGiven r (λ a now. BeginsWithLocals ls now.locals)
left_alone ls (Gives a t) e = begins_same ls t.locals e
left_alone ls (Stops why t) e = tt

leaves_older : {A : Type 0} {run : Action A} → LeavesLocals run → KeepsOlder run
leaves_older {run = run} h = record { keeps = λ s. left_alone s.locals (run s) (h.leaves s) }

pub pure_older : {A : Type 0} (a : A) → KeepsOlder (pure a)
pure_older a = record { keeps = λ s. begins_same s.locals s.locals refl }

stop_older : {A : Type 0} (why : Halt) → KeepsOlder (stop {A = A} why)
stop_older why = record { keeps = λ s. tt }

pub if_older : {A : Type 0} (b : Bool) {x y : Action A} → KeepsOlder x → KeepsOlder y → KeepsOlder (if b then x else y)
if_older true g h = g
if_older false g h = h

spend_older : (n : ℕ) (s : State) → WhereGiven (spend n s) (λ a now. BeginsWithLocals s.locals now.locals)
spend_older zero s = tt
spend_older (suc n) s = begins_same s.locals s.locals refl

tick_older : KeepsOlder tick
tick_older = record { keeps = λ s. spend_older s.ticks s }

store_keeps : (p : Context) (c w : ℕ) (s : State) → WhereGiven (store_at p c w s) (λ a now. BeginsWithLocals s.locals now.locals)
store_keeps (Outside f l) c w s = tt
store_keeps (Inside mode m) c w s = begins_same s.locals s.locals refl

may_print_keeps : (p : Context) (s : State) → WhereGiven (may_print_at p s) (λ a now. BeginsWithLocals s.locals now.locals)
may_print_keeps (Outside f l) s = begins_same s.locals s.locals refl
may_print_keeps (Inside Relaxed m) s = begins_same s.locals s.locals refl
may_print_keeps (Inside Atomic m) s = tt

may_print_older : KeepsOlder may_print
may_print_older = record { keeps = λ s. may_print_keeps s.context s }

write_older : (text : List ℕ) → KeepsOlder (write text)
write_older text = record { keeps = λ s. begins_same s.locals s.locals refl }

piece_older : (text : List ℕ) → KeepsOlder (print_piece text)
piece_older text = then_older tick_older (write_older text)

-- a written word changes no name and no type
pub same_shapes : (ls : List Local) (i w : ℕ) → map shape (with_word ls i w) ≡ map shape ls
same_shapes [] i w = refl
same_shapes (l ∷ ls) zero w = refl
same_shapes (l ∷ ls) (suc i) w = ap (λ x. shape l ∷ x) (same_shapes ls i w)

assign_older : (at : Lvalue) (v : Value) → KeepsOlder (assign at v)
assign_older (InLocal i t) v = record { keeps = λ s. ([], same_shapes s.locals i _ ∙ sym (append-nil (map shape s.locals))) }
assign_older (InCell c t) v = record { keeps = λ s. store_keeps s.context c _ s }

pieces_older : (ps : List Piece) (vs : List Value) → KeepsOlder (print_pieces ps vs)
pieces_older [] vs = pure_older tt
pieces_older (Literal text ∷ ps) vs = then_older (piece_older text) (pieces_older ps vs)
pieces_older (Specifier t ∷ ps) [] = stop_older Astray
pieces_older (Specifier t ∷ ps) (v ∷ vs) = then_older (piece_older _) (pieces_older ps vs)

on_next_older : {rest : Action Completion} → KeepsOlder rest → (end : Completion) → KeepsOlder (on_next rest end)
on_next_older h Next = h
on_next_older h Breaks = pure_older Breaks
on_next_older h Continues = pure_older Continues
on_next_older h (Returns v) = pure_older (Returns v)
on_next_older h Cancels = pure_older Cancels
on_next_older h CancelsOuter = pure_older CancelsOuter

-- the locals of the beginning, taken again at a scope's end
taken : (ls ms : List Local) → BeginsWithLocals ls ms → BeginsWithLocals ls (take (length ls) ms)
taken [] ms b = ([], refl)
taken (l ∷ ls) [] b = absurd (cc)
taken (l ∷ ls) (m ∷ ms) b =
    let rest = taken ls ms (b.0, ap tail_of b.1) in
    (rest.0, ap (λ x. shape m ∷ x) rest.1 ∙ ap (λ x. x ∷ (map shape ls ++ rest.0)) (ap (λ x. head_of (shape m) x) b.1))
  where
    tail_of : List (List ℕ × Scalar) → List (List ℕ × Scalar)
    tail_of [] = []
    tail_of (x ∷ xs) = xs

    head_of : (List ℕ × Scalar) → List (List ℕ × Scalar) → (List ℕ × Scalar)
    head_of d [] = d
    head_of d (x ∷ xs) = x

scope_ends : (ls : List Local) (r : Answer Completion) → WhereGiven r (λ a now. BeginsWithLocals ls now.locals) → WhereGiven (go_on r (λ end t. Gives end (record t { locals = take (length ls) t.locals }))) (λ a now. BeginsWithLocals ls now.locals)
scope_ends ls (Gives end t) h = taken ls t.locals h
scope_ends ls (Stops why t) h = tt

pub scoped_older : {run : Action Completion} → KeepsOlder run → KeepsOlder (in_scope run)
scoped_older {run} h = record { keeps = λ s. scope_ends s.locals (run s) (h.keeps s) }

pub after_body_older : {go : Action (Option Completion)} → KeepsOlder go → (end : Completion) → KeepsOlder (after_body go end)
after_body_older h Next = h
after_body_older h Breaks = pure_older (Some Next)
after_body_older h Continues = h
after_body_older h (Returns v) = pure_older (Some (Returns v))
after_body_older h Cancels = pure_older (Some Cancels)
after_body_older h CancelsOuter = pure_older (Some CancelsOuter)

after_turn_older : {rest : Action Completion} → KeepsOlder rest → (o : Option Completion) → KeepsOlder (after_turn rest o)
after_turn_older h None = h
after_turn_older h (Some end) = pure_older end

turns_older : {turn : Action (Option Completion)} → KeepsOlder turn → (n : ℕ) → KeepsOlder (turns n turn)
turns_older h zero = stop_older Spent
turns_older h (suc n) = then_older tick_older (on_older h (after_turn_older (turns_older h n)))

pub loop_older : {turn : Action (Option Completion)} → KeepsOlder turn → KeepsOlder (loop turn)
loop_older h = record { keeps = λ s. (turns_older h s.ticks).keeps s }

-- a transaction that is undone puts the locals back, and another leaves its body's
left_older : (undone : Bool) (mine : List Local) (found : Memory) (end : Completion) (now : State) → BeginsWithLocals mine now.locals → BeginsWithLocals mine (left_or undone mine found end now).locals
left_older true mine found end now h = begins_same mine mine refl
left_older false mine found end now h = h

leave_older : (n : ℕ) (mine : List Local) (founds lefts : List Memory) (left : Left) (now : State) → BeginsWithLocals mine left.locals → WhereGiven (go_on (spend n (record now { context = Outside founds lefts })) (λ u then_. Gives left.end (record then_ { locals = left.locals; context = Outside founds (lefts ++ left.memory ∷ []) }))) (λ a last. BeginsWithLocals mine last.locals)
leave_older zero mine founds lefts left now h = tt
leave_older (suc n) mine founds lefts left now h = h

close_older : (kind : TransactionKind) (founds lefts : List Memory) (mine : List Local) (found : Memory) (r : Answer Completion) → WhereGiven r (λ a now. BeginsWithLocals mine now.locals) → WhereGiven (close kind founds lefts mine found r) (λ a now. BeginsWithLocals mine now.locals)
close_older kind founds lefts mine found (Gives end now) h = leave_older now.ticks mine founds lefts (left_by kind mine found end now) now (left_older (undoes end kind) mine found end now h)
close_older kind founds lefts mine found (Stops (Trapped k) now) h = tt
close_older kind founds lefts mine found r h = tt

inner_older : (outer : Mode) (kind : TransactionKind) (mine : List Local) (found : Memory) (r : Answer Completion) → WhereGiven r (λ a now. BeginsWithLocals mine now.locals) → WhereGiven (close_inner outer kind mine found r) (λ a now. BeginsWithLocals mine now.locals)
inner_older outer kind mine found (Gives end now) h = left_older (undoes end kind) mine found end now h
inner_older outer kind mine found (Stops why now) h = tt

enter_older : (run : Action Completion) → KeepsOlder run → (kind : TransactionKind) (p : Context) (s : State) → WhereGiven (enter p kind run s) (λ a now. BeginsWithLocals s.locals now.locals)
enter_older run h kind (Outside [] lefts) s = tt
enter_older run h kind (Outside (m ∷ founds) lefts) s = close_older kind founds lefts s.locals m (run (record s { context = Inside (mode_of kind) m })) (h.keeps (record s { context = Inside (mode_of kind) m }))
enter_older run h kind (Inside Relaxed m) s = inner_older Relaxed kind s.locals m (run (record s { context = Inside (mode_of kind) m })) (h.keeps (record s { context = Inside (mode_of kind) m }))
enter_older run h (Plain Atomic) (Inside Atomic m) s = inner_older Atomic (Plain Atomic) s.locals m (run (record s { context = Inside Atomic m })) (h.keeps (record s { context = Inside Atomic m }))
enter_older run h Outer (Inside Atomic m) s = inner_older Atomic Outer s.locals m (run (record s { context = Inside Atomic m })) (h.keeps (record s { context = Inside Atomic m }))
enter_older run h (Plain Relaxed) (Inside Atomic m) s = tt

transaction_older : (kind : TransactionKind) {run : Action Completion} → KeepsOlder run → KeepsOlder (transaction kind run)
transaction_older kind {run} h = record { keeps = λ s. enter_older run h kind s.context s }

module _ (p : Program) (call : Caller) (h : (x : List ℕ) (vs : List Value) → LeavesLocals (call x vs)) where
  pub expr_older : (e : Expr) → KeepsOlder (expr p call e)
  expr_older e = leaves_older (expr_holds p call h e)

  lvalue_older : (e : Expr) → KeepsOlder (lvalue p call e)
  lvalue_older (Variable x) = leaves_older (named_holds p call h x.text)
  lvalue_older (Element x i at) = on_older (expr_older i) (λ k. leaves_older (element_holds p call h x.text k))
  lvalue_older e = stop_older Astray

  changed_older : (at : Lvalue) {by : Action Value} → KeepsOlder by → (op : BinaryOp) → KeepsOlder (assign_by_operator p call at by op)
  changed_older at g op = on_older (leaves_older (fetch_holds at)) (λ old. on_older g (λ v. on_older (leaves_older (or_trap_holds _)) (λ new. assign_older at new)))

  assigned_older : (at : Lvalue) {by : Action Value} → KeepsOlder by → (op : Option BinaryOp) → KeepsOlder (assign_by p call at by op)
  assigned_older at g None = on_older g (λ v. assign_older at v)
  assigned_older at g (Some op) = changed_older at g op

  simple_older : (s : Simple) → KeepsOlder (simple p call s)
  simple_older (Evaluate e) = then_older (expr_older e) (pure_older Next)
  simple_older (Assign to op e) = on_older (lvalue_older to) (λ at. then_older (assigned_older at (expr_older e) op) (pure_older Next))
  simple_older (Adjust to by) = on_older (lvalue_older to) (λ at. then_older (changed_older at (pure_older int_one) (op_of by)) (pure_older Next))

  first_value_older : (at : Lvalue) (o : Option Expr) → KeepsOlder (first_value p call at o)
  first_value_older at None = pure_older tt
  first_value_older at (Some e) = on_older (expr_older e) (λ v. assign_older at v)

  -- a declared name stands behind the others
  one_more : (ls : List Local) (l : Local) → BeginsWithLocals ls (ls ++ l ∷ [])
  one_more [] l = (shape l ∷ [], refl)
  one_more (x ∷ ls) l = let rest = one_more ls l in (rest.0, ap (λ y. shape x ∷ y) rest.1)

  declared_older : (t : Scalar) (d : Declarator) (ds : List Declarator) → KeepsOlder (declare p call t ds) → KeepsOlder (declare p call t (d ∷ ds))
  declared_older t d ds g = record { keeps = λ s. begun s }
    where
      rest_older : (i : ℕ) → KeepsOlder (first_value p call (InLocal i t) d.first >> declare p call t ds)
      rest_older i = then_older (first_value_older (InLocal i t) d.first) g

      begun : (s : State) → WhereGiven (declare p call t (d ∷ ds) s) (λ a now. BeginsWithLocals s.locals now.locals)
      begun s =
          let new : Local = record { name = d.name.text; ty = t; word = 0 } in
          from_earlier s.locals (s.locals ++ new ∷ []) _ (one_more s.locals new) ((rest_older (length s.locals)).keeps (record s { locals = s.locals ++ new ∷ [] }))

  declare_older : (t : Scalar) (ds : List Declarator) → KeepsOlder (declare p call t ds)
  declare_older t [] = pure_older Next
  declare_older t (d ∷ ds) = declared_older t d ds (declare_older t ds)

  pub start_older : (s : Start) → KeepsOlder (start_with p call s)
  start_older Nothing = pure_older Next
  start_older (Declares d) = declare_older d.ty d.declarators
  start_older (Does s) = simple_older s

  pub holds_older : (o : Option Expr) → KeepsOlder (for_condition p call o)
  holds_older None = pure_older true
  holds_older (Some e) = on_older (expr_older e) (λ v. pure_older _)

  pub stepped_older : (o : Option Simple) → KeepsOlder (optional_step p call o)
  stepped_older None = pure_older None
  stepped_older (Some s) = then_older (simple_older s) (pure_older None)

  return_older : (o : Option Expr) → KeepsOlder (return_value p call o)
  return_older None = pure_older _
  return_older (Some e) = expr_older e

  mutual
    pub stmt_older : (s : Stmt) → KeepsOlder (stmt p call s)
    stmt_older Empty = then_older tick_older (pure_older Next)
    stmt_older (Declare d) = then_older tick_older (declare_older d.ty d.declarators)
    stmt_older (Do s) = then_older tick_older (simple_older s)
    stmt_older (Block ss) = then_older tick_older (scoped_older (stmts_older ss))
    stmt_older (Print at format format_at es) = then_older tick_older (then_older may_print_older (on_older (leaves_older (exprs_holds p call h es)) (λ vs. then_older (pieces_older (pieces format) vs) (pure_older Next))))
    stmt_older (If c a) = then_older tick_older (on_older (expr_older c) (λ v. if_older _ (pure_older Next) (scoped_older (stmt_older a))))
    stmt_older (IfElse c a b) = then_older tick_older (on_older (expr_older c) (λ v. if_older _ (scoped_older (stmt_older b)) (scoped_older (stmt_older a))))
    stmt_older (While c a) = then_older tick_older (loop_older (on_older (expr_older c) (λ v. if_older _ (pure_older _) (on_older (scoped_older (stmt_older a)) (after_body_older (pure_older None))))))
    stmt_older (DoWhile a c) = then_older tick_older (loop_older (on_older (scoped_older (stmt_older a)) (after_body_older (on_older (expr_older c) (λ v. pure_older _)))))
    stmt_older (For start c step a) = then_older tick_older (scoped_older (then_older (start_older start) (loop_older (on_older (holds_older c) (λ more. if_older _ (on_older (scoped_older (stmt_older a)) (after_body_older (stepped_older step))) (pure_older _))))))
    stmt_older (Break at) = then_older tick_older (pure_older Breaks)
    stmt_older (Continue at) = then_older tick_older (pure_older Continues)
    stmt_older (Return e at) = then_older tick_older (on_older (return_older e) (λ v. pure_older _))
    stmt_older (Transaction kind ss at) = then_older tick_older (transaction_older kind (scoped_older (stmts_older ss)))
    stmt_older (Cancel at) = then_older tick_older (pure_older Cancels)
    stmt_older (CancelOuter at) = then_older tick_older (pure_older CancelsOuter)

    pub stmts_older : (ss : Stmts) → KeepsOlder (stmts p call ss)
    stmts_older Tree.[] = pure_older Next
    stmts_older (Tree.◌∷◌ s ss) = on_older (stmt_older s) (on_next_older (stmts_older ss))

pub keeps_older_locals : KeepsOlderLocals
keeps_older_locals p frames st s = (stmt_older p (calls p frames) (calls_holds p frames) st).keeps s
