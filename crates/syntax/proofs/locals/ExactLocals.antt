-- The locals after a statement: those before it, and those that it declares.
use Rattle.std.proofs.Common.{◌≡◌, ℕ, zero, suc, refl, sym, ap, subst, ◌∙◌, List, [], ◌∷◌, ◌++◌, append_assoc, append-nil, length, map, take, Option, Some, None, Bool, true, false}
use Rattle.std.specs.Prelude.{if◌then◌else◌}
use Rattle.std.proofs.lemmas.List.{map-append}
use Rattle.lex.specs.declared.token.Scalar.{Scalar}
use Rattle.syntax.specs.declared.tree.BinaryOp.{BinaryOp}
use Rattle.syntax.specs.declared.tree.Mode.{Mode}
use Rattle.syntax.specs.declared.tree.Mode.TheVariants.{Atomic, Relaxed}
use Rattle.syntax.specs.declared.tree.TransactionKind.{TransactionKind}
use Rattle.syntax.specs.declared.tree.TransactionKind.TheVariants.{Plain, Outer}
use Rattle.syntax.specs.declared.thread_end.Halt.{Halt}
use Rattle.syntax.specs.declared.thread_end.Halt.TheVariants.{Trapped, Spent, Astray}
use Rattle.syntax.specs.declared.value.Value.{Value}
use Rattle.syntax.specs.Tree.{Expr, Variable, Element, Simple, Evaluate, Assign, Adjust, Declarator, Stmt, Empty, Declare, Do, Block, Print, If, IfElse, While, DoWhile, For, Break, Continue, Return, Transaction, Cancel, CancelOuter, Program}
use Rattle.syntax.specs.Names.{Local}
use Rattle.syntax.specs.Formats.{Piece, Literal, Specifier, pieces}
use Rattle.syntax.specs.Types.{Scope, running_scope}
use Rattle.syntax.specs.Typing.{scope_after}
use Rattle.syntax.specs.Behaviours.{Memory}
use Rattle.syntax.specs.Actions.{Context, Outside, Inside, State, Answer, Gives, Stops, Action, pure, stop, go_on, ◌>>=◌, ◌>>◌, spend, tick, store_at, may_print_at, may_print, print_piece}
use Rattle.syntax.specs.Meaning.{Lvalue, InLocal, InCell, assign, print_pieces, Completion, Next, Breaks, Continues, Returns, Cancels, CancelsOuter, mode_of, in_scope, after_turn, turns, loop, after_body, Left, undoes, left_or, left_by, close_inner, close, enter, transaction, op_of, int_one, Caller, expr, lvalue, assign_by_operator, assign_by, simple, first_value, declare, return_value, stmt, calls}
use Rattle.syntax.specs.Laws.{WhereGiven, shape, BeginsWithLocals}
use Rattle.syntax.specs.ScopeLaws.{LocalsExact, ScopeFits, IsSubscope, declared_by}
use Rattle.syntax.proofs.locals.Expressions.{LeavesLocals, named_holds, element_holds, expr_holds, exprs_holds, fetch_holds, or_trap_holds, calls_holds}
use Rattle.syntax.proofs.locals.OlderLocals.{KeepsOlder, then_older, on_older, if_older, pure_older, loop_older, after_body_older, same_shapes, start_older, holds_older, stepped_older, scoped_older, stmt_older, stmts_older}
use Rattle.syntax.proofs.typing.Fits.{scope_in, agrees_by_shape, shape_agrees, declared_fit}

-- where it gives something, the locals are those at its beginning, by name and type
record KeepsShape {A : Type 0} (run : Action A) : Type 0 where
  keeps : (s : State) → WhereGiven (run s) (λ a now. map shape now.locals ≡ map shape s.locals)

from_same : {A : Type 0} (ls ms : List Local) (r : Answer A) → map shape ms ≡ map shape ls → WhereGiven r (λ a now. map shape now.locals ≡ map shape ms) → WhereGiven r (λ a now. map shape now.locals ≡ map shape ls)
from_same ls ms (Gives b u) e f = f ∙ e
from_same ls ms (Stops why u) e f = tt

on_keeps : {A B : Type 0} (ls : List Local) (r : Answer A) (rest : A → Action B) → WhereGiven r (λ a now. map shape now.locals ≡ map shape ls) → ((a : A) (t : State) → WhereGiven (rest a t) (λ b now. map shape now.locals ≡ map shape t.locals)) → WhereGiven (go_on r rest) (λ b now. map shape now.locals ≡ map shape ls)
on_keeps ls (Gives a t) rest e h = from_same ls t.locals (rest a t) e (h a t)
on_keeps ls (Stops why t) rest e h = tt

on_same : {A B : Type 0} {run : Action A} {rest : A → Action B} → KeepsShape run → ((a : A) → KeepsShape (rest a)) → KeepsShape (run >>= rest)
on_same {run = run} {rest = rest} g h = record { keeps = λ s. on_keeps s.locals (run s) rest (g.keeps s) (λ a t. (h a).keeps t) }

then_same : {A B : Type 0} {run : Action A} {rest : Action B} → KeepsShape run → KeepsShape rest → KeepsShape (run >> rest)
then_same g h = on_same g (λ _. h)

left_alone : {A : Type 0} (ls : List Local) (r : Answer A) → WhereGiven r (λ a now. now.locals ≡ ls) → WhereGiven r (λ a now. map shape now.locals ≡ map shape ls)
left_alone ls (Gives a t) e = ap (map shape) e
left_alone ls (Stops why t) e = tt

leaves_same : {A : Type 0} {run : Action A} → LeavesLocals run → KeepsShape run
leaves_same {run = run} h = record { keeps = λ s. left_alone s.locals (run s) (h.leaves s) }

pure_same : {A : Type 0} (a : A) → KeepsShape (pure a)
pure_same a = record { keeps = λ s. refl }

stop_same : {A : Type 0} (why : Halt) → KeepsShape (stop {A = A} why)
stop_same why = record { keeps = λ s. tt }

if_same : {A : Type 0} (b : Bool) {x y : Action A} → KeepsShape x → KeepsShape y → KeepsShape (if b then x else y)
if_same true g h = g
if_same false g h = h

spend_same : (n : ℕ) (s : State) → WhereGiven (spend n s) (λ a now. map shape now.locals ≡ map shape s.locals)
spend_same zero s = tt
spend_same (suc n) s = refl

tick_same : KeepsShape tick
tick_same = record { keeps = λ s. spend_same s.ticks s }

store_same : (p : Context) (c w : ℕ) (s : State) → WhereGiven (store_at p c w s) (λ a now. map shape now.locals ≡ map shape s.locals)
store_same (Outside f l) c w s = tt
store_same (Inside mode m) c w s = refl

may_print_at_same : (p : Context) (s : State) → WhereGiven (may_print_at p s) (λ a now. map shape now.locals ≡ map shape s.locals)
may_print_at_same (Outside f l) s = refl
may_print_at_same (Inside Relaxed m) s = refl
may_print_at_same (Inside Atomic m) s = tt

may_print_same : KeepsShape may_print
may_print_same = record { keeps = λ s. may_print_at_same s.context s }

piece_same : (text : List ℕ) → KeepsShape (print_piece text)
piece_same text = then_same tick_same (record { keeps = λ s. refl })

assign_same : (at : Lvalue) (v : Value) → KeepsShape (assign at v)
assign_same (InLocal i t) v = record { keeps = λ s. same_shapes s.locals i _ }
assign_same (InCell c t) v = record { keeps = λ s. store_same s.context c _ s }

pieces_same : (ps : List Piece) (vs : List Value) → KeepsShape (print_pieces ps vs)
pieces_same [] vs = pure_same tt
pieces_same (Literal text ∷ ps) vs = then_same (piece_same text) (pieces_same ps vs)
pieces_same (Specifier t ∷ ps) [] = stop_same Astray
pieces_same (Specifier t ∷ ps) (v ∷ vs) = then_same (piece_same _) (pieces_same ps vs)

-- a scope's end leaves the locals of its beginning
pub same_taken : (ls ms : List Local) (more : List (List ℕ × Scalar)) → map shape ms ≡ map shape ls ++ more → map shape (take (length ls) ms) ≡ map shape ls
same_taken [] ms more e = refl
same_taken (l ∷ ls) [] more e = absurd (cc)
same_taken (l ∷ ls) (m ∷ ms) more e =
    ap (λ x. shape m ∷ x) (same_taken ls ms more (ap tail_of e)) ∙ ap (λ x. x ∷ map shape ls) (ap (λ x. head_of (shape m) x) e)
  where
    tail_of : List (List ℕ × Scalar) → List (List ℕ × Scalar)
    tail_of [] = []
    tail_of (x ∷ xs) = xs

    head_of : (List ℕ × Scalar) → List (List ℕ × Scalar) → (List ℕ × Scalar)
    head_of d [] = d
    head_of d (x ∷ xs) = x

scoped_same : {run : Action Completion} → KeepsOlder run → KeepsShape (in_scope run)
scoped_same {run} h = record { keeps = λ s. scope_ends s.locals (run s) (h.keeps s) }
  where
    scope_ends : (ls : List Local) (r : Answer Completion) → WhereGiven r (λ a now. BeginsWithLocals ls now.locals) → WhereGiven (go_on r (λ end t. Gives end (record t { locals = take (length ls) t.locals }))) (λ a now. map shape now.locals ≡ map shape ls)
    scope_ends ls (Gives end t) b = same_taken ls t.locals b.0 b.1
    scope_ends ls (Stops why t) b = tt

after_body_same : {go : Action (Option Completion)} → KeepsShape go → (end : Completion) → KeepsShape (after_body go end)
after_body_same h Next = h
after_body_same h Breaks = pure_same (Some Next)
after_body_same h Continues = h
after_body_same h (Returns v) = pure_same (Some (Returns v))
after_body_same h Cancels = pure_same (Some Cancels)
after_body_same h CancelsOuter = pure_same (Some CancelsOuter)

after_turn_same : {rest : Action Completion} → KeepsShape rest → (o : Option Completion) → KeepsShape (after_turn rest o)
after_turn_same h None = h
after_turn_same h (Some end) = pure_same end

turns_same : {turn : Action (Option Completion)} → KeepsShape turn → (n : ℕ) → KeepsShape (turns n turn)
turns_same h zero = stop_same Spent
turns_same h (suc n) = then_same tick_same (on_same h (after_turn_same (turns_same h n)))

loop_same : {turn : Action (Option Completion)} → KeepsShape turn → KeepsShape (loop turn)
loop_same h = record { keeps = λ s. (turns_same h s.ticks).keeps s }

-- a transaction that is undone puts the locals back, and another leaves its body's
left_same : (undone : Bool) (mine : List Local) (found : Memory) (end : Completion) (now : State) → map shape now.locals ≡ map shape mine → map shape (left_or undone mine found end now).locals ≡ map shape mine
left_same true mine found end now h = refl
left_same false mine found end now h = h

leave_same : (n : ℕ) (mine : List Local) (founds lefts : List Memory) (left : Left) (now : State) → map shape left.locals ≡ map shape mine → WhereGiven (go_on (spend n (record now { context = Outside founds lefts })) (λ u then_. Gives left.end (record then_ { locals = left.locals; context = Outside founds (lefts ++ left.memory ∷ []) }))) (λ a last. map shape last.locals ≡ map shape mine)
leave_same zero mine founds lefts left now h = tt
leave_same (suc n) mine founds lefts left now h = h

close_same : (kind : TransactionKind) (founds lefts : List Memory) (mine : List Local) (found : Memory) (r : Answer Completion) → WhereGiven r (λ a now. map shape now.locals ≡ map shape mine) → WhereGiven (close kind founds lefts mine found r) (λ a now. map shape now.locals ≡ map shape mine)
close_same kind founds lefts mine found (Gives end now) h = leave_same now.ticks mine founds lefts (left_by kind mine found end now) now (left_same (undoes end kind) mine found end now h)
close_same kind founds lefts mine found (Stops (Trapped k) now) h = tt
close_same kind founds lefts mine found r h = tt

inner_same : (outer : Mode) (kind : TransactionKind) (mine : List Local) (found : Memory) (r : Answer Completion) → WhereGiven r (λ a now. map shape now.locals ≡ map shape mine) → WhereGiven (close_inner outer kind mine found r) (λ a now. map shape now.locals ≡ map shape mine)
inner_same outer kind mine found (Gives end now) h = left_same (undoes end kind) mine found end now h
inner_same outer kind mine found (Stops why now) h = tt

enter_same : (run : Action Completion) → KeepsShape run → (kind : TransactionKind) (p : Context) (s : State) → WhereGiven (enter p kind run s) (λ a now. map shape now.locals ≡ map shape s.locals)
enter_same run h kind (Outside [] lefts) s = tt
enter_same run h kind (Outside (m ∷ founds) lefts) s = close_same kind founds lefts s.locals m (run (record s { context = Inside (mode_of kind) m })) (h.keeps (record s { context = Inside (mode_of kind) m }))
enter_same run h kind (Inside Relaxed m) s = inner_same Relaxed kind s.locals m (run (record s { context = Inside (mode_of kind) m })) (h.keeps (record s { context = Inside (mode_of kind) m }))
enter_same run h (Plain Atomic) (Inside Atomic m) s = inner_same Atomic (Plain Atomic) s.locals m (run (record s { context = Inside Atomic m })) (h.keeps (record s { context = Inside Atomic m }))
enter_same run h Outer (Inside Atomic m) s = inner_same Atomic Outer s.locals m (run (record s { context = Inside Atomic m })) (h.keeps (record s { context = Inside Atomic m }))
enter_same run h (Plain Relaxed) (Inside Atomic m) s = tt

transaction_same : (kind : TransactionKind) {run : Action Completion} → KeepsShape run → KeepsShape (transaction kind run)
transaction_same kind {run} h = record { keeps = λ s. enter_same run h kind s.context s }

module _ (p : Program) (call : Caller) (h : (x : List ℕ) (vs : List Value) → LeavesLocals (call x vs)) where
  expr_same : (e : Expr) → KeepsShape (expr p call e)
  expr_same e = leaves_same (expr_holds p call h e)

  lvalue_same : (e : Expr) → KeepsShape (lvalue p call e)
  lvalue_same (Variable x) = leaves_same (named_holds p call h x.text)
  lvalue_same (Element x i at) = on_same (expr_same i) (λ k. leaves_same (element_holds p call h x.text k))
  lvalue_same e = stop_same Astray

  changed_same : (at : Lvalue) {by : Action Value} → KeepsShape by → (op : BinaryOp) → KeepsShape (assign_by_operator p call at by op)
  changed_same at g op = on_same (leaves_same (fetch_holds at)) (λ old. on_same g (λ v. on_same (leaves_same (or_trap_holds _)) (λ new. assign_same at new)))

  assigned_same : (at : Lvalue) {by : Action Value} → KeepsShape by → (op : Option BinaryOp) → KeepsShape (assign_by p call at by op)
  assigned_same at g None = on_same g (λ v. assign_same at v)
  assigned_same at g (Some op) = changed_same at g op

  simple_same : (s : Simple) → KeepsShape (simple p call s)
  simple_same (Evaluate e) = then_same (expr_same e) (pure_same Next)
  simple_same (Assign to op e) = on_same (lvalue_same to) (λ at. then_same (assigned_same at (expr_same e) op) (pure_same Next))
  simple_same (Adjust to by) = on_same (lvalue_same to) (λ at. then_same (changed_same at (pure_same int_one) (op_of by)) (pure_same Next))

  first_same : (at : Lvalue) (o : Option Expr) → KeepsShape (first_value p call at o)
  first_same at None = pure_same tt
  first_same at (Some e) = on_same (expr_same e) (λ v. assign_same at v)

  return_same : (o : Option Expr) → KeepsShape (return_value p call o)
  return_same None = pure_same _
  return_same (Some e) = expr_same e

  -- a declaration adds its names
  abbrev Adds : List (List ℕ × Scalar) → Action Completion → Type 0
  Adds more run = (s : State) → WhereGiven (run s) (λ end now. map shape now.locals ≡ map shape s.locals ++ more)

  then_adds : {A : Type 0} (ls : List Local) (more : List (List ℕ × Scalar)) (r : Answer A) (rest : Action Completion) → WhereGiven r (λ a now. map shape now.locals ≡ map shape ls) → Adds more rest → WhereGiven (go_on r (λ _. rest)) (λ end now. map shape now.locals ≡ map shape ls ++ more)
  then_adds ls more (Gives a t) rest e g = behind (rest t) (g t)
    where
      behind : (r : Answer Completion) → WhereGiven r (λ end now. map shape now.locals ≡ map shape t.locals ++ more) → WhereGiven r (λ end now. map shape now.locals ≡ map shape ls ++ more)
      behind (Gives end u) f = f ∙ ap (λ x. x ++ more) e
      behind (Stops why u) f = tt
  then_adds ls more (Stops why t) rest e g = tt

  declare_adds : (t : Scalar) (ds : List Declarator) → Adds (map (λ d. (d.name.text, t)) ds) (declare p call t ds)
  declare_adds t [] s = sym (append-nil (map shape s.locals))
  declare_adds t (d ∷ ds) s =
      let new : Local = record { name = d.name.text; ty = t; word = 0 } in
      let more = map (λ (d : Declarator). (d.name.text, t)) ds in
      let begun = record s { locals = s.locals ++ new ∷ [] } in
      moved s.locals new more (go_on (first_value p call (InLocal (length s.locals) t) d.first begun) (λ _. declare p call t ds))
      (then_adds begun.locals more (first_value p call (InLocal (length s.locals) t) d.first begun) (declare p call t ds) ((first_same (InLocal (length s.locals) t) d.first).keeps begun) (declare_adds t ds))
    where
      moved : (ls : List Local) (l : Local) (more : List (List ℕ × Scalar)) (r : Answer Completion) → WhereGiven r (λ end now. map shape now.locals ≡ map shape (ls ++ l ∷ []) ++ more) → WhereGiven r (λ end now. map shape now.locals ≡ map shape ls ++ (shape l ∷ more))
      moved ls l more (Gives end u) f = f ∙ ap (λ x. x ++ more) (map-append shape ls (l ∷ [])) ∙ append_assoc (map shape ls) (shape l ∷ []) more
      moved ls l more (Stops why u) f = tt

  exact : (more : List (List ℕ × Scalar)) {run : Action Completion} → more ≡ [] → KeepsShape run → Adds more run
  exact more {run} e g s = still (run s) (g.keeps s)
    where
      still : (r : Answer Completion) → WhereGiven r (λ end now. map shape now.locals ≡ map shape s.locals) → WhereGiven r (λ end now. map shape now.locals ≡ map shape s.locals ++ more)
      still (Gives end u) f = f ∙ sym (append-nil (map shape s.locals)) ∙ ap (λ x. map shape s.locals ++ x) (sym e)
      still (Stops why u) f = tt

  pub stmt_adds : (st : Stmt) → Adds (declared_by st) (stmt p call st)
  stmt_adds Empty = exact [] refl (then_same tick_same (pure_same Next))
  stmt_adds (Declare d) = λ s. then_adds s.locals (map (λ e. (e.name.text, d.ty)) d.declarators) (tick s) (declare p call d.ty d.declarators) (spend_same s.ticks s) (declare_adds d.ty d.declarators)
  stmt_adds (Do s) = exact [] refl (then_same tick_same (simple_same s))
  stmt_adds (Block ss) = exact [] refl (then_same tick_same (scoped_same (stmts_older p call h ss)))
  stmt_adds (Print at format format_at es) = exact [] refl (then_same tick_same (then_same may_print_same (on_same (leaves_same (exprs_holds p call h es)) (λ vs. then_same (pieces_same (pieces format) vs) (pure_same Next)))))
  stmt_adds (If c a) = exact [] refl (then_same tick_same (on_same (expr_same c) (λ v. if_same _ (pure_same Next) (scoped_same (stmt_older p call h a)))))
  stmt_adds (IfElse c a b) = exact [] refl (then_same tick_same (on_same (expr_same c) (λ v. if_same _ (scoped_same (stmt_older p call h b)) (scoped_same (stmt_older p call h a)))))
  stmt_adds (While c a) = exact [] refl (then_same tick_same (loop_same (on_same (expr_same c) (λ v. if_same _ (pure_same _) (on_same (scoped_same (stmt_older p call h a)) (after_body_same (pure_same None)))))))
  stmt_adds (DoWhile a c) = exact [] refl (then_same tick_same (loop_same (on_same (scoped_same (stmt_older p call h a)) (after_body_same (on_same (expr_same c) (λ v. pure_same _))))))
  stmt_adds (For start c step a) = exact [] refl (then_same tick_same (scoped_same (then_older (start_older p call h start) (loop_older (on_older (holds_older p call h c) (λ more. if_older _ (on_older (scoped_older (stmt_older p call h a)) (after_body_older (stepped_older p call h step))) (pure_older _)))))))
  stmt_adds (Break at) = exact [] refl (then_same tick_same (pure_same Breaks))
  stmt_adds (Continue at) = exact [] refl (then_same tick_same (pure_same Continues))
  stmt_adds (Return e at) = exact [] refl (then_same tick_same (on_same (return_same e) (λ v. pure_same _)))
  stmt_adds (Transaction kind ss at) = exact [] refl (then_same tick_same (transaction_same kind (scoped_same (stmts_older p call h ss))))
  stmt_adds (Cancel at) = exact [] refl (then_same tick_same (pure_same Cancels))
  stmt_adds (CancelOuter at) = exact [] refl (then_same tick_same (pure_same CancelsOuter))

pub locals_exact : LocalsExact
locals_exact p frames st s = stmt_adds p (calls p frames) (calls_holds p frames) st s

-- what is known after a statement
after_agrees : (p : Program) (st : Stmt) (known : Scope) (ls ms : List Local) → IsSubscope known (running_scope p ls) → map shape ms ≡ map shape ls ++ declared_by st → IsSubscope (scope_after st known) (running_scope p ms)
after_agrees p st known ls ms g e = agrees_by_shape p (scope_after st known) ms (subst (λ x. IsSubscope (scope_after st known) (scope_in p x)) (sym e) (behind st (shape_agrees p known ls g)))
  where
    none : IsSubscope known (scope_in p (map shape ls)) → IsSubscope known (scope_in p (map shape ls ++ []))
    none h = subst (λ x. IsSubscope known (scope_in p x)) (sym (append-nil (map shape ls))) h

    behind : (st : Stmt) → IsSubscope known (scope_in p (map shape ls)) → IsSubscope (scope_after st known) (scope_in p (map shape ls ++ declared_by st))
    behind Empty h = none h
    behind (Declare d) h = declared_fit p known (map shape ls) d.ty d.declarators h
    behind (Do s) h = none h
    behind (Block ss) h = none h
    behind (Print at format format_at es) h = none h
    behind (If c a) h = none h
    behind (IfElse c a b) h = none h
    behind (While c a) h = none h
    behind (DoWhile a c) h = none h
    behind (For start c step a) h = none h
    behind (Break at) h = none h
    behind (Continue at) h = none h
    behind (Return e at) h = none h
    behind (Transaction kind ss at) h = none h
    behind (Cancel at) h = none h
    behind (CancelOuter at) h = none h

pub scope_fits : ScopeFits
scope_fits p frames st s known g = fit (stmt p (calls p frames) st s) (locals_exact p frames st s)
  where
    fit : (r : Answer Completion) → WhereGiven r (λ end now. map shape now.locals ≡ map shape s.locals ++ declared_by st) → WhereGiven r (λ end now. IsSubscope (scope_after st known) (running_scope p now.locals))
    fit (Gives end now) e = after_agrees p st known s.locals now.locals g e
    fit (Stops why now) e = tt
