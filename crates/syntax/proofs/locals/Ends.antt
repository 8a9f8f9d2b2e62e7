-- How statements end: by a break or a continue only in a loop, by a cancel only in a transaction, by an outer cancel only in
-- an outer one.
use Rattle.std.proofs.Common.{refl, ℕ, zero, suc, List, [], ◌∷◌, ◌++◌, length, take, Option, Some, None, Bool, true, false, IsTrue}
use Rattle.std.specs.Prelude.{if◌then◌else◌}
use Rattle.lex.specs.declared.token.Scalar.{Scalar}
use Rattle.syntax.specs.declared.tree.Mode.{Mode}
use Rattle.syntax.specs.declared.tree.Mode.TheVariants.{Atomic, Relaxed}
use Rattle.syntax.specs.declared.tree.TransactionKind.{TransactionKind}
use Rattle.syntax.specs.declared.tree.TransactionKind.TheVariants.{Plain, Outer}
use Rattle.syntax.specs.declared.thread_end.Halt.TheVariants.{Trapped}
use Rattle.syntax.specs.Tree as Tree
use Rattle.syntax.specs.Tree.{Simple, Evaluate, Assign, Adjust, Declarator, Stmt, Stmts, Empty, Declare, Do, Block, Print, If, IfElse, While, DoWhile, For, Break, Continue, Return, Transaction, Cancel, CancelOuter, Program}
use Rattle.syntax.specs.Names.{Local}
use Rattle.syntax.specs.Types.{Scope}
use Rattle.syntax.specs.Typing.{scope_after, scope_of_start}
use Rattle.syntax.specs.Behaviours.{Memory}
use Rattle.syntax.specs.Actions.{Context, Outside, Inside, State, Answer, Gives, Stops, Action, pure, go_on, ◌>>=◌, ◌>>◌, spend, tick, locals, put_locals, may_print}
use Rattle.syntax.specs.Formats.{pieces}
use Rattle.syntax.specs.Meaning.{Completion, Next, Breaks, Continues, Returns, Cancels, CancelsOuter, mode_of, on_next, in_scope, after_turn, turns, loop, after_body, Left, left_by, close_inner, close, enter, transaction, Caller, InLocal, op_of, int_one, expr, exprs, lvalue, assign_by, assign_by_operator, first_value, for_condition, return_value, print_pieces, simple, declare, start_with, optional_step, stmt, stmts, calls}
use Rattle.syntax.specs.Laws.{WhereGiven}
use Rattle.syntax.specs.ScopeLaws.{IsNoJump, EndsFit}
use Rattle.syntax.proofs.typing.TypedParts.{TypedStmt, TypedStmts, stmt_parts}

-- a break or a continue comes only out of a statement in a loop, a cancel out of one in a transaction, and an outer cancel
-- out of one in an outer transaction
abbrev pub Fits : (looping inside outer : Bool) → Completion → Type 0
Fits looping inside outer Next = Unit {0}
Fits looping inside outer Breaks = IsTrue looping
Fits looping inside outer Continues = IsTrue looping
Fits looping inside outer (Returns v) = Unit {0}
Fits looping inside outer Cancels = IsTrue inside
Fits looping inside outer CancelsOuter = IsTrue outer

pub record EndsSo (looping inside outer : Bool) (run : Action Completion) : Type 0 where
  pub ends : (s : State) → WhereGiven (run s) (λ end now. Fits looping inside outer end)

-- whether what stands in a transaction of this kind stands in an outer one
abbrev pub in_outer : TransactionKind → Bool → Bool
in_outer Outer outer = true
in_outer (Plain mode) outer = outer

-- each break and continue stands in a loop, each cancel in a transaction, and each outer cancel in an outer one
abbrev mutual
  pub JumpsFit : Stmt → (looping inside outer : Bool) → Type 0
  JumpsFit (Break at) l c o = IsTrue l
  JumpsFit (Continue at) l c o = IsTrue l
  JumpsFit (Cancel at) l c o = IsTrue c
  JumpsFit (CancelOuter at) l c o = IsTrue o
  JumpsFit (Block ss) l c o = AllJumpsFit ss l c o
  JumpsFit (If e a) l c o = JumpsFit a l c o
  JumpsFit (IfElse e a b) l c o = JumpsFit a l c o × JumpsFit b l c o
  JumpsFit (While e a) l c o = JumpsFit a true c o
  JumpsFit (DoWhile a e) l c o = JumpsFit a true c o
  JumpsFit (For start e step a) l c o = JumpsFit a true c o
  JumpsFit (Transaction kind ss at) l c o = AllJumpsFit ss l true (in_outer kind o)
  JumpsFit s l c o = Unit {0}

  pub AllJumpsFit : Stmts → (looping inside outer : Bool) → Type 0
  AllJumpsFit Stmts.[] l c o = Unit {0}
  AllJumpsFit (Stmts.◌∷◌ s ss) l c o = JumpsFit s l c o × AllJumpsFit ss l c o

-- a turn of a loop takes them up
abbrev FitsTurn : (inside outer : Bool) → Option Completion → Type 0
FitsTurn inside outer None = Unit {0}
FitsTurn inside outer (Some end) = Fits false inside outer end

record TurnsSo (inside outer : Bool) (turn : Action (Option Completion)) : Type 0 where
  ends : (s : State) → WhereGiven (turn s) (λ end now. FitsTurn inside outer end)

on_last : {A B : Type 0} (P : B → Type 0) (r : Answer A) (rest : A → Action B) → ((a : A) (t : State) → WhereGiven (rest a t) (λ b now. P b)) → WhereGiven (go_on r rest) (λ b now. P b)
on_last P (Gives a t) rest h = h a t
on_last P (Stops why t) rest h = tt

on_both : {A B : Type 0} (P : A → Type 0) (Q : B → Type 0) (r : Answer A) (rest : A → Action B) → WhereGiven r (λ a now. P a) → ((a : A) → P a → (t : State) → WhereGiven (rest a t) (λ b now. Q b)) → WhereGiven (go_on r rest) (λ b now. Q b)
on_both P Q (Gives a t) rest g h = h a g t
on_both P Q (Stops why t) rest g h = tt

last_ends : {A : Type 0} {l c o : Bool} (run : Action A) {rest : A → Action Completion} → ((a : A) → EndsSo l c o (rest a)) → EndsSo l c o (run >>= rest)
last_ends {l = l} {c = c} {o = o} run {rest = rest} h = record { ends = λ s. on_last (Fits l c o) (run s) rest (λ a t. (h a).ends t) }

then_ends : {A : Type 0} {l c o : Bool} (run : Action A) {rest : Action Completion} → EndsSo l c o rest → EndsSo l c o (run >> rest)
then_ends run h = last_ends run (λ _. h)

last_turns : {A : Type 0} {c o : Bool} (run : Action A) {rest : A → Action (Option Completion)} → ((a : A) → TurnsSo c o (rest a)) → TurnsSo c o (run >>= rest)
last_turns {c = c} {o = o} run {rest = rest} h = record { ends = λ s. on_last (FitsTurn c o) (run s) rest (λ a t. (h a).ends t) }

ends_by : {l c o : Bool} (end : Completion) → Fits l c o end → EndsSo l c o (pure end)
ends_by end h = record { ends = λ s. h }

turns_by : {c o : Bool} (end : Option Completion) → FitsTurn c o end → TurnsSo c o (pure end)
turns_by end h = record { ends = λ s. h }

if_ends : {l c o : Bool} (b : Bool) {x y : Action Completion} → EndsSo l c o x → EndsSo l c o y → EndsSo l c o (if b then x else y)
if_ends true g h = g
if_ends false g h = h

if_turns : {c o : Bool} (b : Bool) {x y : Action (Option Completion)} → TurnsSo c o x → TurnsSo c o y → TurnsSo c o (if b then x else y)
if_turns true g h = g
if_turns false g h = h

scope_ends : (l c o : Bool) (n : ℕ) (r : Answer Completion) → WhereGiven r (λ end now. Fits l c o end) → WhereGiven (go_on r (λ end t. Gives end (record t { locals = take n t.locals }))) (λ end now. Fits l c o end)
scope_ends l c o n (Gives end t) h = h
scope_ends l c o n (Stops why t) h = tt

scoped_ends : {l c o : Bool} {run : Action Completion} → EndsSo l c o run → EndsSo l c o (in_scope run)
scoped_ends {l = l} {c = c} {o = o} {run = run} h = record { ends = λ s. scope_ends l c o (length s.locals) (run s) (h.ends s) }

on_next_ends : {l c o : Bool} {rest : Action Completion} → EndsSo l c o rest → (end : Completion) → Fits l c o end → EndsSo l c o (on_next rest end)
on_next_ends h Next f = h
on_next_ends h Breaks f = ends_by Breaks f
on_next_ends h Continues f = ends_by Continues f
on_next_ends h (Returns v) f = ends_by (Returns v) tt
on_next_ends h Cancels f = ends_by Cancels f
on_next_ends h CancelsOuter f = ends_by CancelsOuter f

joined : {l c o : Bool} {run rest : Action Completion} → EndsSo l c o run → EndsSo l c o rest → EndsSo l c o (run >>= on_next rest)
joined {l = l} {c = c} {o = o} {run = run} {rest = rest} g h = record { ends = λ s. on_both (Fits l c o) (Fits l c o) (run s) (on_next rest) (g.ends s) (λ end f t. (on_next_ends h end f).ends t) }

after_body_turns : {c o : Bool} {go : Action (Option Completion)} → TurnsSo c o go → (end : Completion) → Fits true c o end → TurnsSo c o (after_body go end)
after_body_turns h Next f = h
after_body_turns h Breaks f = turns_by (Some Next) tt
after_body_turns h Continues f = h
after_body_turns h (Returns v) f = turns_by (Some (Returns v)) tt
after_body_turns h Cancels f = turns_by (Some Cancels) f
after_body_turns h CancelsOuter f = turns_by (Some CancelsOuter) f

body_turns : {c o : Bool} {run : Action Completion} {go : Action (Option Completion)} → EndsSo true c o run → TurnsSo c o go → TurnsSo c o (run >>= after_body go)
body_turns {c = c} {o = o} {run = run} {go = go} g h = record { ends = λ s. on_both (Fits true c o) (FitsTurn c o) (run s) (after_body go) (g.ends s) (λ end f t. (after_body_turns h end f).ends t) }

-- what comes out of a loop comes out of any statement
out_of_loop : (l c o : Bool) (end : Completion) → Fits false c o end → Fits l c o end
out_of_loop l c o Next h = tt
out_of_loop l c o Breaks h = absurd (cc)
out_of_loop l c o Continues h = absurd (cc)
out_of_loop l c o (Returns v) h = tt
out_of_loop l c o Cancels h = h
out_of_loop l c o CancelsOuter h = h

after_turn_ends : {l c o : Bool} {rest : Action Completion} → EndsSo l c o rest → (q : Option Completion) → FitsTurn c o q → EndsSo l c o (after_turn rest q)
after_turn_ends h None f = h
after_turn_ends {l = l} {c = c} {o = o} h (Some end) f = ends_by end (out_of_loop l c o end f)

turns_end : {c o : Bool} {turn : Action (Option Completion)} (l : Bool) → TurnsSo c o turn → (n : ℕ) → EndsSo l c o (turns n turn)
turns_end l h zero = record { ends = λ s. tt }
turns_end {c = c} {o = o} {turn = turn} l h (suc n) = then_ends tick (record { ends = λ s. on_both (FitsTurn c o) (Fits l c o) (turn s) (after_turn (turns n turn)) (h.ends s) (λ q f t. (after_turn_ends (turns_end l h n) q f).ends t) })

loop_ends : {c o : Bool} {turn : Action (Option Completion)} (l : Bool) → TurnsSo c o turn → EndsSo l c o (loop turn)
loop_ends l h = record { ends = λ s. (turns_end l h s.ticks).ends s }

-- a transaction takes a cancel up, and an outer one an outer cancel
left_ends : (l c o : Bool) (kind : TransactionKind) (mine : List Local) (found : Memory) (end : Completion) (now : State) → Fits l true (in_outer kind o) end → Fits l c o (left_by kind mine found end now).end
left_ends l c o kind mine found Cancels now h = tt
left_ends l c o Outer mine found CancelsOuter now h = tt
left_ends l c o (Plain mode) mine found CancelsOuter now h = h
left_ends l c o kind mine found Next now h = h
left_ends l c o kind mine found Breaks now h = h
left_ends l c o kind mine found Continues now h = h
left_ends l c o kind mine found (Returns v) now h = h

leave_ends : (l c o : Bool) (n : ℕ) (founds lefts : List Memory) (left : Left) (now : State) → Fits l c o left.end → WhereGiven (go_on (spend n (record now { context = Outside founds lefts })) (λ u then_. Gives left.end (record then_ { locals = left.locals; context = Outside founds (lefts ++ left.memory ∷ []) }))) (λ end last. Fits l c o end)
leave_ends l c o zero founds lefts left now h = tt
leave_ends l c o (suc n) founds lefts left now h = h

close_ends : (l c o : Bool) (kind : TransactionKind) (founds lefts : List Memory) (mine : List Local) (found : Memory) (r : Answer Completion) → WhereGiven r (λ end now. Fits l true (in_outer kind o) end) → WhereGiven (close kind founds lefts mine found r) (λ end now. Fits l c o end)
close_ends l c o kind founds lefts mine found (Gives end now) h = leave_ends l c o now.ticks founds lefts (left_by kind mine found end now) now (left_ends l c o kind mine found end now h)
close_ends l c o kind founds lefts mine found (Stops (Trapped k) now) h = tt
close_ends l c o kind founds lefts mine found r h = tt

inner_ends : (l c o : Bool) (outer : Mode) (kind : TransactionKind) (mine : List Local) (found : Memory) (r : Answer Completion) → WhereGiven r (λ end now. Fits l true (in_outer kind o) end) → WhereGiven (close_inner outer kind mine found r) (λ end now. Fits l c o end)
inner_ends l c o outer kind mine found (Gives end now) h = left_ends l c o kind mine found end now h
inner_ends l c o outer kind mine found (Stops why now) h = tt

enter_ends : (l c o : Bool) (kind : TransactionKind) (run : Action Completion) → EndsSo l true (in_outer kind o) run → (p : Context) (s : State) → WhereGiven (enter p kind run s) (λ end now. Fits l c o end)
enter_ends l c o kind run h (Outside [] lefts) s = tt
enter_ends l c o kind run h (Outside (m ∷ founds) lefts) s = close_ends l c o kind founds lefts s.locals m (run (record s { context = Inside (mode_of kind) m })) (h.ends (record s { context = Inside (mode_of kind) m }))
enter_ends l c o kind run h (Inside Relaxed m) s = inner_ends l c o Relaxed kind s.locals m (run (record s { context = Inside (mode_of kind) m })) (h.ends (record s { context = Inside (mode_of kind) m }))
enter_ends l c o (Plain Atomic) run h (Inside Atomic m) s = inner_ends l c o Atomic (Plain Atomic) s.locals m (run (record s { context = Inside Atomic m })) (h.ends (record s { context = Inside Atomic m }))
enter_ends l c o Outer run h (Inside Atomic m) s = inner_ends l c o Atomic Outer s.locals m (run (record s { context = Inside Atomic m })) (h.ends (record s { context = Inside Atomic m }))
enter_ends l c o (Plain Relaxed) run h (Inside Atomic m) s = tt

transaction_ends : {l : Bool} (c o : Bool) (kind : TransactionKind) {run : Action Completion} → EndsSo l true (in_outer kind o) run → EndsSo l c o (transaction kind run)
transaction_ends {l = l} c o kind {run = run} h = record { ends = λ s. enter_ends l c o kind run h s.context s }

module _ (p : Program) (call : Caller) where
  simple_ends : (l c o : Bool) (s : Simple) → EndsSo l c o (simple p call s)
  simple_ends l c o (Evaluate e) = then_ends (expr p call e) (ends_by Next tt)
  simple_ends l c o (Assign to op e) = last_ends (lvalue p call to) (λ at. then_ends (assign_by p call at (expr p call e) op) (ends_by Next tt))
  simple_ends l c o (Adjust to by) = last_ends (lvalue p call to) (λ at. then_ends (assign_by_operator p call at (pure int_one) (op_of by)) (ends_by Next tt))

  declare_ends : (l c o : Bool) (t : Scalar) (ds : List Declarator) → EndsSo l c o (declare p call t ds)
  declare_ends l c o t [] = ends_by Next tt
  declare_ends l c o t (d ∷ ds) =
      last_ends locals (λ mine. then_ends (put_locals (mine ++ record { name = d.name.text; ty = t; word = 0 } ∷ [])) (then_ends (first_value p call (InLocal (length mine) t) d.first) (declare_ends l c o t ds)))

  stepped_turns : (c o : Bool) (q : Option Simple) → TurnsSo c o (optional_step p call q)
  stepped_turns c o None = turns_by None tt
  stepped_turns c o (Some s) = last_turns (simple p call s) (λ _. turns_by None tt)

  tested_turns : (c o b : Bool) → TurnsSo c o (pure (if b then Some Next else None))
  tested_turns c o true = turns_by (Some Next) tt
  tested_turns c o false = turns_by None tt

  mutual
    pub stmt_ends : (s : Stmt) (l c o : Bool) → JumpsFit s l c o → EndsSo l c o (stmt p call s)
    stmt_ends Empty l c o h = then_ends tick (ends_by Next tt)
    stmt_ends (Declare d) l c o h = then_ends tick (declare_ends l c o d.ty d.declarators)
    stmt_ends (Do s) l c o h = then_ends tick (simple_ends l c o s)
    stmt_ends (Block ss) l c o h = then_ends tick (scoped_ends (stmts_end ss l c o h))
    stmt_ends (Print at format format_at es) l c o h = then_ends tick (then_ends may_print (last_ends (exprs p call es) (λ vs. then_ends (print_pieces (pieces format) vs) (ends_by Next tt))))
    stmt_ends (If e a) l c o h = then_ends tick (last_ends (expr p call e) (λ v. if_ends _ (ends_by Next tt) (scoped_ends (stmt_ends a l c o h))))
    stmt_ends (IfElse e a b) l c o h = then_ends tick (last_ends (expr p call e) (λ v. if_ends _ (scoped_ends (stmt_ends b l c o h.1)) (scoped_ends (stmt_ends a l c o h.0))))
    stmt_ends (While e a) l c o h = then_ends tick (loop_ends l (last_turns (expr p call e) (λ v. if_turns _ (turns_by (Some Next) tt) (body_turns (scoped_ends (stmt_ends a true c o h)) (turns_by None tt)))))
    stmt_ends (DoWhile a e) l c o h = then_ends tick (loop_ends l (body_turns (scoped_ends (stmt_ends a true c o h)) (last_turns (expr p call e) (λ v. tested_turns c o _))))
    stmt_ends (For start e step a) l c o h = then_ends tick (scoped_ends (then_ends (start_with p call start) (loop_ends l (last_turns (for_condition p call e) (λ more. if_turns _ (body_turns (scoped_ends (stmt_ends a true c o h)) (stepped_turns c o step)) (turns_by (Some Next) tt))))))
    stmt_ends (Break at) l c o h = then_ends tick (ends_by Breaks h)
    stmt_ends (Continue at) l c o h = then_ends tick (ends_by Continues h)
    stmt_ends (Return e at) l c o h = then_ends tick (last_ends (return_value p call e) (λ v. ends_by (Returns v) tt))
    stmt_ends (Transaction kind ss at) l c o h = then_ends tick (transaction_ends c o kind (scoped_ends (stmts_end ss l true (in_outer kind o) h)))
    stmt_ends (Cancel at) l c o h = then_ends tick (ends_by Cancels h)
    stmt_ends (CancelOuter at) l c o h = then_ends tick (ends_by CancelsOuter h)

    pub stmts_end : (ss : Stmts) (l c o : Bool) → AllJumpsFit ss l c o → EndsSo l c o (stmts p call ss)
    stmts_end Tree.[] l c o h = ends_by Next tt
    stmts_end (Tree.◌∷◌ s ss) l c o h = joined (stmt_ends s l c o h.0) (stmts_end ss l c o h.1)

-- in a typed statement breaks and continues stand in loops
mutual
  jumps_typed : (s : Stmt) (known : Scope) (l : Bool) → TypedStmt s known l → JumpsFit s l true true
  jumps_typed Empty known l h = tt
  jumps_typed (Declare d) known l h = tt
  jumps_typed (Do s) known l h = tt
  jumps_typed (Block ss) known l h = all_jumps_typed ss known l h
  jumps_typed (Print at format format_at es) known l h = tt
  jumps_typed (If e a) known l h = jumps_typed a known l h.1
  jumps_typed (IfElse e a b) known l h = (jumps_typed a known l h.1, jumps_typed b known l h.2)
  jumps_typed (While e a) known l h = jumps_typed a known true h.1
  jumps_typed (DoWhile a e) known l h = jumps_typed a known true h.0
  jumps_typed (For start e step a) known l h = jumps_typed a (scope_of_start start known) true h.3
  jumps_typed (Break at) known l h = h
  jumps_typed (Continue at) known l h = h
  jumps_typed (Return e at) known l h = tt
  jumps_typed (Transaction Outer ss at) known l h = all_jumps_typed ss known l h
  jumps_typed (Transaction (Plain mode) ss at) known l h = all_jumps_typed ss known l h
  jumps_typed (Cancel at) known l h = refl
  jumps_typed (CancelOuter at) known l h = refl

  all_jumps_typed : (ss : Stmts) (known : Scope) (l : Bool) → TypedStmts ss known l → AllJumpsFit ss l true true
  all_jumps_typed Tree.[] known l h = tt
  all_jumps_typed (Tree.◌∷◌ s ss) known l h = (jumps_typed s known l h.0, all_jumps_typed ss (scope_after s known) l h.1)

fits_outside : (c o : Bool) (end : Completion) → Fits false c o end → IsNoJump end
fits_outside c o Next h = tt
fits_outside c o Breaks h = absurd (cc)
fits_outside c o Continues h = absurd (cc)
fits_outside c o (Returns v) h = tt
fits_outside c o Cancels h = tt
fits_outside c o CancelsOuter h = tt

pub ends_fit : EndsFit
ends_fit p frames gives st known declared s h = outside (stmt p (calls p frames) st s) ((stmt_ends p (calls p frames) st false true true (jumps_typed st known false (stmt_parts gives st known declared false h))).ends s)
  where
    outside : (r : Answer Completion) → WhereGiven r (λ end now. Fits false true true end) → WhereGiven r (λ end now. IsNoJump end)
    outside (Gives end now) f = fits_outside true true end f
    outside (Stops why now) f = tt
