-- What is done step by step is what the meaning says.
use Rattle.std.proofs.Common.{◌≡◌, ℕ, ◌<◌, ◌≤◌, ◌-◌, length, take, drop, get_or, Vec, arith, suc, List, [], ◌∷◌, Option, Some, None, true, false, refl, sym, ap, ◌∙◌}
use Rattle.std.proofs.lemmas.List.{take_all}
use Rattle.lex.specs.declared.token.Span.{Span}
use Rattle.syntax.specs.declared.value.Value.{Value}
use Rattle.syntax.specs.declared.thread_end.Halt.{Halt}
use Rattle.syntax.specs.declared.thread_end.Halt.TheVariants.{Astray}
use Rattle.syntax.specs.declared.tree.BinaryOp.{BinaryOp}
use Rattle.syntax.specs.declared.tree.IncDec.{IncDec}
use Rattle.syntax.specs.declared.tree.Mode.{Mode}
use Rattle.syntax.specs.declared.tree.Mode.TheVariants.{Atomic, Relaxed}
use Rattle.syntax.specs.declared.tree.TransactionKind.{TransactionKind}
use Rattle.syntax.specs.declared.tree.TransactionKind.TheVariants.{Plain, Outer}
use Rattle.std.specs.Prelude.{Bool, if◌then◌else◌}
use Rattle.syntax.specs.Numbers.{value_in_type, is_zero, binary}
use Rattle.syntax.specs.Types.{common_of, type_of, running_scope}
use Rattle.syntax.specs.Tree as tree
use Rattle.syntax.specs.Tree.{Program, Expr, Conditional, Stmt, Stmts, Exprs, Print, Function}
use Rattle.syntax.specs.Names.{Local, definition_of}
use Rattle.syntax.specs.Behaviours.{Memory}
use Rattle.syntax.specs.Formats.{pieces}
use Rattle.syntax.specs.Actions.{Context, Outside, Inside, State, Answer, Gives, Stops, Action, pure, go_on, or_trap, or_astray, locals, put_locals, tick, may_print, ◌>>=◌, ◌>>◌}
use Rattle.syntax.specs.Meaning.{Caller, Lvalue, fetch, assign, lvalue, assign_by_operator, op_of, int_one, Completion, Next, Breaks, Continues, Returns, Cancels, CancelsOuter, mode_of, in_scope, loop, simple, declare, return_value, expr, stmt, stmts, exprs, print_pieces, transaction, begin_value, value_at, value_transaction, enter, leave, left_by, leave_inner, close, close_inner, call_locals, invoke, calls, result_of}
use Rattle.meaning.specs.inner.Calls.{Begins, begin_call}
use Rattle.meaning.specs.Outcomes.{memories_in}
use Rattle.meaning.specs.inner.Does.{is_forbidden, while_turn, do_turn, for_all}
use Rattle.meaning.proofs.Sequences.{after, halts}

-- a statement's tick, and then the rest
pub ticks_then : (p : Program) (call : Caller) (s clean : Stmt) (run : Action Completion) (s0 s1 : State) (r : Answer Completion) →
    s ≡ clean → stmt p call clean s0 ≡ go_on (tick s0) (λ _. run) → tick s0 ≡ Gives tt s1 → run s1 ≡ r → stmt p call s s0 ≡ r
ticks_then p call s clean run s0 s1 r is does t d = ap (λ x. stmt p call x s0) is ∙ does ∙ ap (λ q. go_on q (λ _. run)) t ∙ d

-- where no tick is left for a statement, it does nothing
pub spent_first : (p : Program) (call : Caller) (s : Stmt) (s0 s1 : State) (why : Halt) → tick s0 ≡ Stops why s1 → stmt p call s s0 ≡ Stops why s1
spent_first p call tree.Empty s0 s1 why t = halts (tick s0) (λ _. pure Next) why s1 t
spent_first p call (tree.Declare d) s0 s1 why t = halts (tick s0) (λ _. declare p call d.ty d.declarators) why s1 t
spent_first p call (tree.Do i) s0 s1 why t = halts (tick s0) (λ _. simple p call i) why s1 t
spent_first p call (tree.Block ss) s0 s1 why t = halts (tick s0) (λ _. in_scope (stmts p call ss)) why s1 t
spent_first p call (tree.Print at format format_at es) s0 s1 why t =
    halts (tick s0) (λ _. may_print >> (exprs p call es >>= (λ us. print_pieces (pieces format) us >> pure Next))) why s1 t
spent_first p call (tree.If c a) s0 s1 why t = halts (tick s0) (λ _. expr p call c >>= (λ v. if is_zero v then pure Next else in_scope (stmt p call a))) why s1 t
spent_first p call (tree.IfElse c a b) s0 s1 why t =
    halts (tick s0) (λ _. expr p call c >>= (λ v. if is_zero v then in_scope (stmt p call b) else in_scope (stmt p call a))) why s1 t
spent_first p call (tree.While c a) s0 s1 why t = halts (tick s0) (λ _. loop (while_turn p call c a)) why s1 t
spent_first p call (tree.DoWhile a c) s0 s1 why t = halts (tick s0) (λ _. loop (do_turn p call a c)) why s1 t
spent_first p call (tree.For start c step a) s0 s1 why t = halts (tick s0) (λ _. in_scope (for_all p call start c step a)) why s1 t
spent_first p call (tree.Break at) s0 s1 why t = halts (tick s0) (λ _. pure Breaks) why s1 t
spent_first p call (tree.Continue at) s0 s1 why t = halts (tick s0) (λ _. pure Continues) why s1 t
spent_first p call (tree.Return e at) s0 s1 why t = halts (tick s0) (λ _. return_value p call e >>= (λ v. pure (Returns v))) why s1 t
spent_first p call (tree.Transaction kind ss at) s0 s1 why t = halts (tick s0) (λ _. transaction kind (in_scope (stmts p call ss))) why s1 t
spent_first p call (tree.Cancel at) s0 s1 why t = halts (tick s0) (λ _. pure Cancels) why s1 t
spent_first p call (tree.CancelOuter at) s0 s1 why t = halts (tick s0) (λ _. pure CancelsOuter) why s1 t

-- a print, up to its pieces
pub print_until : (p : Program) (call : Caller) (at format_at : Span) (format : List ℕ) (es : Exprs) (s0 s1 s2 s3 : State) (vs : List Value) →
    tick s0 ≡ Gives tt s1 → may_print s1 ≡ Gives tt s2 → exprs p call es s2 ≡ Gives vs s3 → stmt p call (Print at format format_at es) s0 ≡ go_on (print_pieces (pieces format) vs s3) (λ _. pure Next)
print_until p call at format_at format es s0 s1 s2 s3 vs t m d =
    after (tick s0) (λ _. may_print >> (exprs p call es >>= (λ us. print_pieces (pieces format) us >> pure Next))) tt s1 t
    ∙ after (may_print s1) (λ _. exprs p call es >>= (λ us. print_pieces (pieces format) us >> pure Next)) tt s2 m
    ∙ after (exprs p call es s2) (λ us. print_pieces (pieces format) us >> pure Next) vs s3 d

-- a conditional, once one of its branches is computed
pub conditional_gives : (p : Program) (call : Caller) (c a b : Expr) (at : Span) (s0 s1 s2 : State) (v w : Value) (r : Answer Value) →
    expr p call c s0 ≡ Gives v s1 → (if is_zero v then expr p call b else expr p call a) s1 ≡ Gives w s2 →
    go_on (or_astray (common_of (type_of (running_scope p s2.locals) a) (type_of (running_scope p s2.locals) b)) s2) (λ t. pure (value_in_type t w)) ≡ r →
    expr p call (Conditional c a b at) s0 ≡ r
conditional_gives p call c a b at s0 s1 s2 v w r test branch last =
    after (expr p call c s0) (λ x. (if is_zero x then expr p call b else expr p call a) >>= (λ y. locals >>= (λ mine. or_astray (common_of (type_of (running_scope p mine) a) (type_of (running_scope p mine) b)) >>= (λ t. pure (value_in_type t y))))) v s1 test
    ∙ after ((if is_zero v then expr p call b else expr p call a) s1) (λ y. locals >>= (λ mine. or_astray (common_of (type_of (running_scope p mine) a) (type_of (running_scope p mine) b)) >>= (λ t. pure (value_in_type t y)))) w s2 branch
    ∙ last

-- an old value that is changed, up to what an operator gives
rewritten : (p : Program) (call : Caller) (at : Lvalue) (by : Action Value) (op : BinaryOp) (s1 s2 s3 : State) (old v : Value) (r : Answer Completion) →
    fetch at s1 ≡ Gives old s2 → by s2 ≡ Gives v s3 → go_on (go_on (or_trap (binary op old v) s3) (assign at)) (λ _. pure Next) ≡ r → go_on (assign_by_operator p call at by op s1) (λ _. pure Next) ≡ r
rewritten p call at by op s1 s2 s3 old v r f d last =
    ap (λ q. go_on (go_on q (λ x. by >>= (λ y. or_trap (binary op x y) >>= assign at))) (λ _. pure Next)) f
    ∙ ap (λ q. go_on (go_on q (λ y. or_trap (binary op old y) >>= assign at)) (λ _. pure Next)) d
    ∙ last

pub changed_gives : (p : Program) (call : Caller) (to e : Expr) (op : BinaryOp) (s0 s1 s2 s3 : State) (at : Lvalue) (old v : Value) (r : Answer Completion) →
    lvalue p call to s0 ≡ Gives at s1 → fetch at s1 ≡ Gives old s2 → expr p call e s2 ≡ Gives v s3 → go_on (go_on (or_trap (binary op old v) s3) (assign at)) (λ _. pure Next) ≡ r →
    simple p call (tree.Assign to (Some op) e) s0 ≡ r
changed_gives p call to e op s0 s1 s2 s3 at old v r there f d last =
    after (lvalue p call to s0) (λ a. assign_by_operator p call a (expr p call e) op >> pure Next) at s1 there
    ∙ rewritten p call at (expr p call e) op s1 s2 s3 old v r f d last

pub adjusted_gives : (p : Program) (call : Caller) (to : Expr) (by : IncDec) (op : BinaryOp) (one : Value) (s0 s1 s2 : State) (at : Lvalue) (old : Value) (r : Answer Completion) →
    op ≡ op_of by → one ≡ int_one → lvalue p call to s0 ≡ Gives at s1 → fetch at s1 ≡ Gives old s2 → go_on (go_on (or_trap (binary op old one) s2) (assign at)) (λ _. pure Next) ≡ r →
    simple p call (tree.Adjust to by) s0 ≡ r
adjusted_gives p call to by op one s0 s1 s2 at old r is same there f last =
    after (lvalue p call to s0) (λ a. assign_by_operator p call a (pure int_one) (op_of by) >> pure Next) at s1 there
    ∙ rewritten p call at (pure int_one) (op_of by) s1 s2 s2 old int_one r f refl
    (ap (λ o. go_on (go_on (or_trap (binary o old int_one) s2) (assign at)) (λ _. pure Next)) (sym is) ∙ ap (λ w. go_on (go_on (or_trap (binary op old w) s2) (assign at)) (λ _. pure Next)) (sym same) ∙ last)

-- a branch that is picked
pub branch_gives : (run other : Action Value) (tested zero : Bool) (s : State) (r : Answer Value) → tested ≡ zero → (if zero then run else other) s ≡ r → (if tested then run else other) s ≡ r
branch_gives run other tested zero s r e d = ap (λ z. (if z then run else other) s) e ∙ d

-- a call, once it has begun
abbrev pub call_rest : Program → Caller → Begins → Action Value
call_rest p call b = do
  outer ← locals
  put_locals b.mine
  end ← stmts p call b.body
  put_locals outer
  result_of b.ty end

bound_then : (p : Program) (call : Caller) (f : Function × Stmts) (o : Option (List Local)) (s : State) →
    go_on (or_astray o s) (λ mine. call_rest p call (record { ty = f.0.result; body = f.1; mine = mine })) ≡ go_on (go_on (or_astray o s) (λ mine. pure (record { ty = f.0.result; body = f.1; mine = mine }))) (call_rest p call)
bound_then p call f (Some mine) s = refl
bound_then p call f None s = refl

defined_then : (p : Program) (call : Caller) (o : Option (Function × Stmts)) (vs : List Value) (s : State) →
    go_on (or_astray o s) (λ f. or_astray (call_locals f.0.parameters vs) >>= (λ mine. call_rest p call (record { ty = f.0.result; body = f.1; mine = mine })))
    ≡ go_on (go_on (or_astray o s) (λ f. or_astray (call_locals f.0.parameters vs) >>= (λ mine. pure (record { ty = f.0.result; body = f.1; mine = mine })))) (call_rest p call)
defined_then p call (Some f) vs s = bound_then p call f (call_locals f.0.parameters vs) s
defined_then p call None vs s = refl

pub invoke_begun : (p : Program) (call : Caller) (x : List ℕ) (vs : List Value) (s : State) → invoke p call x vs s ≡ go_on (begin_call p x vs s) (call_rest p call)
invoke_begun p call x vs s = defined_then p call (definition_of p x) vs s

module _ (p : Program) (n k : ℕ) (x : List ℕ) (vs : List Value) (s0 s1 : State) (b : Begins) (mine outer : List Local) (more : n ≡ suc k) (d : begin_call p x vs s0 ≡ Gives b s1) (bound : mine ≡ b.mine) (outer_is : outer ≡ s1.locals) where
  call_begun : calls p n x vs s0 ≡ go_on (stmts p (calls p k) b.body (record s1 { locals = mine })) (λ end. put_locals outer >> result_of b.ty end)
  call_begun =
      ap (λ i. calls p i x vs s0) more ∙ invoke_begun p (calls p k) x vs s0 ∙ after (begin_call p x vs s0) (call_rest p (calls p k)) b s1 d
      ∙ ap (λ ls. go_on (stmts p (calls p k) b.body (record s1 { locals = ls })) (λ end. put_locals s1.locals >> result_of b.ty end)) (sym bound)
      ∙ ap (λ ls. go_on (stmts p (calls p k) b.body (record s1 { locals = mine })) (λ end. put_locals ls >> result_of b.ty end)) (sym outer_is)

  pub call_gives : (s2 : State) (e : Completion) (r : Answer Value) → stmts p (calls p k) b.body (record s1 { locals = mine }) ≡ Gives e s2 → result_of b.ty e (record s2 { locals = outer }) ≡ r → calls p n x vs s0 ≡ r
  call_gives s2 e r h g = call_begun ∙ after _ (λ end. put_locals outer >> result_of b.ty end) e s2 h ∙ g

  pub call_stops : (s2 : State) (why : Halt) → stmts p (calls p k) b.body (record s1 { locals = mine }) ≡ Stops why s2 → calls p n x vs s0 ≡ Stops why s2
  call_stops s2 why h = call_begun ∙ halts _ (λ end. put_locals outer >> result_of b.ty end) why s2 h

-- transactions
pub transaction_at : (kind : TransactionKind) (run : Action Completion) (s : State) (before : Context) (r : Answer Completion) → s.context ≡ before → enter before kind run (record s { context = before }) ≡ r → transaction kind run s ≡ r
transaction_at kind run s before r is d = ap (λ k. enter k kind run (record s { context = k })) is ∙ d

pub outermost_none : (kind : TransactionKind) (founds lefts : List Memory) (run : Action Completion) (s : State) (r : Answer Completion) → founds ≡ [] → enter (Outside [] lefts) kind run s ≡ r → enter (Outside founds lefts) kind run s ≡ r
outermost_none kind founds lefts run s r none d = ap (λ ms. enter (Outside ms lefts) kind run s) none ∙ d

module _ (kind : TransactionKind) (mode : Mode) (all founds lefts : List Memory) (found memory : Memory) (run : Action Completion) (s now : State) (runs : mode ≡ mode_of kind) (is : all ≡ found ∷ founds) (copied : memory ≡ found) where
  pub outermost_gives : (mine : List Local) (e : Completion) (r : Answer Completion) → mine ≡ s.locals → run (record s { context = Inside mode memory }) ≡ Gives e now → leave founds lefts (left_by kind mine found e now) now ≡ r → enter (Outside all lefts) kind run s ≡ r
  outermost_gives mine e r same h d =
      ap (λ ms. enter (Outside ms lefts) kind run s) is
      ∙ ap (λ m. close kind founds lefts s.locals found (run (record s { context = Inside (mode_of kind) m }))) (sym copied)
      ∙ ap (λ k. close kind founds lefts s.locals found (run (record s { context = Inside k memory }))) (sym runs)
      ∙ ap (close kind founds lefts s.locals found) h ∙ ap (λ ls. leave founds lefts (left_by kind ls found e now) now) (sym same) ∙ d

  pub outermost_stops : (why : Halt) (r : Answer Completion) → run (record s { context = Inside mode memory }) ≡ Stops why now → close kind founds lefts s.locals found (Stops why now) ≡ r → enter (Outside all lefts) kind run s ≡ r
  outermost_stops why r h d =
      ap (λ ms. enter (Outside ms lefts) kind run s) is
      ∙ ap (λ m. close kind founds lefts s.locals found (run (record s { context = Inside (mode_of kind) m }))) (sym copied)
      ∙ ap (λ k. close kind founds lefts s.locals found (run (record s { context = Inside k memory }))) (sym runs)
      ∙ ap (close kind founds lefts s.locals found) h ∙ d

false_is_true : false ≡ true → ⊥
false_is_true e = cc

pub nested_astray : (outer : Mode) (kind : TransactionKind) (found : Memory) (run : Action Completion) (s : State) → is_forbidden outer (mode_of kind) ≡ true → enter (Inside outer found) kind run s ≡ Stops Astray s
nested_astray Atomic (Plain Relaxed) found run s h = refl
nested_astray Atomic (Plain Atomic) found run s h = absurd (false_is_true h)
nested_astray Atomic Outer found run s h = absurd (false_is_true h)
nested_astray Relaxed kind found run s h = absurd (false_is_true h)

inner_is : (outer : Mode) (kind : TransactionKind) (found memory : Memory) (run : Action Completion) (s : State) → is_forbidden outer (mode_of kind) ≡ false → memory ≡ found →
    enter (Inside outer found) kind run s ≡ close_inner outer kind s.locals found (run (record s { context = Inside (mode_of kind) memory }))
inner_is Atomic (Plain Relaxed) found memory run s h c = absurd (false_is_true (sym h))
inner_is Atomic (Plain Atomic) found memory run s h c = ap (λ m. close_inner Atomic (Plain Atomic) s.locals found (run (record s { context = Inside Atomic m }))) (sym c)
inner_is Atomic Outer found memory run s h c = ap (λ m. close_inner Atomic Outer s.locals found (run (record s { context = Inside Atomic m }))) (sym c)
inner_is Relaxed kind found memory run s h c = ap (λ m. close_inner Relaxed kind s.locals found (run (record s { context = Inside (mode_of kind) m }))) (sym c)

-- as this mode, which is that of the kind
module _ (outer : Mode) (kind : TransactionKind) (mode : Mode) (found memory : Memory) (run : Action Completion) (s now : State) (runs : mode ≡ mode_of kind) (may : is_forbidden outer mode ≡ false) (copied : memory ≡ found) where
  within_is : enter (Inside outer found) kind run s ≡ close_inner outer kind s.locals found (run (record s { context = Inside mode memory }))
  within_is =
      inner_is outer kind found memory run s (ap (is_forbidden outer) (sym runs) ∙ may) copied
      ∙ ap (λ k. close_inner outer kind s.locals found (run (record s { context = Inside k memory }))) (sym runs)

  pub nested_gives : (mine : List Local) (e : Completion) (r : Answer Completion) → mine ≡ s.locals → run (record s { context = Inside mode memory }) ≡ Gives e now → leave_inner outer (left_by kind mine found e now) now ≡ r → enter (Inside outer found) kind run s ≡ r
  nested_gives mine e r same h d =
      within_is ∙ ap (close_inner outer kind s.locals found) h ∙ ap (λ ls. leave_inner outer (left_by kind ls found e now) now) (sym same) ∙ d

  pub nested_stops : (why : Halt) → run (record s { context = Inside mode memory }) ≡ Stops why now → enter (Inside outer found) kind run s ≡ Stops why now
  nested_stops why h = within_is ∙ ap (close_inner outer kind s.locals found) h

-- a transaction that is an expression, where it begins and where its body's end is known
abbrev value_of_body : Mode → Action Value → Action Value
value_of_body mode run = transaction (Plain mode) (do v ← run; pure (Returns v)) >>= value_at

module _ (mode : Mode) (run : Action Value) (s0 s1 : State) where
  pub value_unbegun : (why : Halt) → begin_value s0 ≡ Stops why s1 → value_transaction mode run s0 ≡ Stops why s1
  value_unbegun why d = halts (begin_value s0) (λ _. value_of_body mode run) why s1 d

  pub value_gives : (s2 : State) (e : Completion) (r : Answer Value) → begin_value s0 ≡ Gives tt s1 → transaction (Plain mode) (do v ← run; pure (Returns v)) s1 ≡ Gives e s2 → value_at e s2 ≡ r → value_transaction mode run s0 ≡ r
  value_gives s2 e r begin_call d last = after (begin_value s0) (λ _. value_of_body mode run) tt s1 begin_call ∙ after _ value_at e s2 d ∙ last

  pub value_stops : (s2 : State) (why : Halt) → begin_value s0 ≡ Gives tt s1 → transaction (Plain mode) (do v ← run; pure (Returns v)) s1 ≡ Stops why s2 → value_transaction mode run s0 ≡ Stops why s2
  value_stops s2 why begin_call d = after (begin_value s0) (λ _. value_of_body mode run) tt s1 begin_call ∙ halts _ value_at why s2 d

-- the memories to be found
module _ {A : Type 0} where
  pub found_none : (ms : List (Vec ℕ A)) → length ms < 1 → memories_in ms ≡ []
  found_none [] h = refl
  found_none (m ∷ ms) h = absurd (omega (arith, h))

  pub found_first : (ms : List (Vec ℕ A)) (m : Vec ℕ A) (found : Memory) → 1 ≤ length ms → m ≡ get_or ms 0 m → found ≡ m.items → memories_in ms ≡ found ∷ memories_in (take (length ms - 1) (drop 1 ms))
  found_first [] m found h is same = absurd (omega (arith, h))
  found_first (x ∷ ms) m found h is same =
      let all : length ms ≤ length (x ∷ ms) - 1 = omega arith in
      ap (λ y. y.items ∷ memories_in ms) (sym is) ∙ ap (λ y. y ∷ memories_in ms) (sym same) ∙ ap (λ ys. found ∷ memories_in ys) (sym (take_all (length (x ∷ ms) - 1) ms all))
