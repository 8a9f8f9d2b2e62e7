-- A property of runs that the words of runs keep holds of all that a program does.
use Rattle.std.specs.Prelude.{if◌then◌else◌, nat_lt, Contains, ℤ}
use Rattle.std.specs.Fmt.{signed_decimal}
use Rattle.std.proofs.lemmas.List.Elements.{Contains-append_left, Contains-append_right}
use Rattle.std.proofs.Common.{◌≡◌, refl, inl, inr, arith, length, ℕ, ◌+◌, ◌<◌, subst, zero, suc, List, [], ◌∷◌, ◌++◌, Option, Some, None, Bool, true, false, Result, Ok, Err}
use Rattle.lex.specs.declared.token.Scalar.{Scalar}
use Rattle.syntax.specs.declared.tree.BinaryOp.{BinaryOp}
use Rattle.syntax.specs.declared.tree.LogicalOp.TheVariants.{AndThen, OrElse}
use Rattle.syntax.specs.declared.thread_end.Trap.{Trap}
use Rattle.syntax.specs.declared.thread_end.Trap.TheVariants.{Index, Frames}
use Rattle.syntax.specs.declared.tree.TransactionKind.{TransactionKind}
use Rattle.syntax.specs.declared.tree.TransactionKind.TheVariants.{Plain}
use Rattle.syntax.specs.Tree as Tree
use Rattle.syntax.specs.Tree.{Expr, Exprs, Variable, Constant, Element, Call, Parenthesized, Cast, Unary, Binary, Logical, Conditional, InTransaction, Simple, Evaluate, Assign, Adjust, Declarator, Start, Nothing, Declares, Does, Stmt, Stmts, Empty, Declare, Do, Block, Print, If, IfElse, While, DoWhile, For, Break, Continue, Return, Transaction, Cancel, CancelOuter, Program}
use Rattle.syntax.specs.declared.value.Value.{Value}
use Rattle.syntax.specs.Numbers.{modulus, number, number_of}
use Rattle.syntax.specs.Names.{Local, newest, GlobalCells, cells, global_of, definition_of}
use Rattle.syntax.specs.declared.thread_end.Halt.TheVariants.{Trapped, Astray}
use Rattle.syntax.specs.Actions.{State, spend, Answer, Gives, Stops, go_on, Action, pure, stop, ◌>>=◌, ◌>>◌, tick, trap, or_trap, or_astray, locals, put_locals, load, store, may_print, print_piece}
use Rattle.syntax.specs.Formats.{Piece, Literal, Specifier, pieces, formats_in, formats_among, IsFormatOf}
use Rattle.syntax.specs.Laws.{IsPieceOf}
use Rattle.syntax.specs.Meaning.{Lvalue, InLocal, InCell, fetch, assign, print_pieces, Completion, Next, Breaks, Continues, Returns, Cancels, CancelsOuter, on_next, in_scope, loop, after_body, transaction, begin_value, value_at, op_of, int_one, Caller, lvalue_from, lvalue_of_name, element, expr, exprs, lvalue, assign_by_operator, assign_by, simple, first_value, declare, start_with, for_condition, optional_step, return_value, stmt, stmts, call_locals, result_of, invoke, calls}
use Rattle.syntax.proofs.words.Words.{word_below}
use Rattle.syntax.proofs.running.InExpressions as InExpressions
use Rattle.syntax.proofs.running.InExpressions.{IsKeptInExpressions}
use Rattle.syntax.specs.Threads.{worker_run}

-- a property that each word of runs keeps, where only such pieces are printed, and only words of a cell's type are stored
pub record IsPreserved (IsPiece : List ℕ → Type 0) (IsCell : ℕ → Scalar → Type 0) (Q : (A : Type 0) → Action A → Type 0) : Type 1 where
  pub pure_holds : {A : Type 0} (a : A) → Q A (pure a)
  pub on_holds : {A B : Type 0} {run : Action A} {rest : A → Action B} → Q A run → ((a : A) → Q B (rest a)) → Q B (run >>= rest)
  pub astray_holds : {A : Type 0} → Q A (stop Astray)
  pub trap_holds : {A : Type 0} (t : Trap) → Q A (trap t)
  pub tick_holds : Q (Unit {0}) tick
  pub locals_holds : Q (List Local) locals
  pub put_locals_holds : (ls : List Local) → Q (Unit {0}) (put_locals ls)
  pub load_holds : (c : ℕ) → Q ℕ (load c)
  pub store_holds : (c w : ℕ) (t : Scalar) → IsCell c t → w < modulus t → Q (Unit {0}) (store c w)
  pub may_print_holds : Q (Unit {0}) may_print
  pub print_piece_holds : (text : List ℕ) → IsPiece text → Q (Unit {0}) (print_piece text)
  pub loop_holds : {turn : Action (Option Completion)} → Q (Option Completion) turn → Q Completion (loop turn)
  pub transaction_holds : (kind : TransactionKind) {run : Action Completion} → Q Completion run → Q Completion (transaction kind run)
  pub begin_value_holds : Q (Unit {0}) begin_value

contains_first : {X : Type 0} (x : X) (xs : List X) → Contains (x ∷ xs) x
contains_first x xs = (0, omega arith, refl)

contains_later : {X : Type 0} (x : X) (xs : List X) (y : X) → Contains xs y → Contains (x ∷ xs) y
contains_later x xs y c = (suc c.0, omega (arith, c.1), c.2)

-- runs group to the right
on_assoc : {A B C : Type 0} (run : Action A) (f : A → Action B) (g : B → Action C) → run >>= (λ a. f a >>= g) ≡ (run >>= f) >>= g
on_assoc {A} run f g = λ i s. go (run s) i
  where
    go : (r : Answer A) → go_on r (λ a. f a >>= g) ≡ go_on (go_on r f) g
    go (Gives a s) = refl
    go (Stops why s) = refl

-- nothing follows a trap
trap_stops : {A B : Type 0} (k : Trap) (rest : A → Action B) → trap k ≡ trap k >>= rest
trap_stops {A} {B} k rest = λ i s. go s s.ticks i
  where
    go : (s : State) (n : ℕ) → go_on (spend n s) (λ _. stop (Trapped k)) ≡ go_on (go_on (spend n s) (λ _. stop (Trapped k))) rest
    go s zero = refl
    go s (suc n) = refl

-- the cells that names stand for are of the globals' types
pub record AreCells (p : Program) (IsCell : ℕ → Scalar → Type 0) : Type 0 where
  pub first : (x : List ℕ) (g : GlobalCells) → global_of p x ≡ Some g → IsCell g.cell g.global.ty
  pub each : (x : List ℕ) (g : GlobalCells) (k : ℕ) → global_of p x ≡ Some g → nat_lt k (cells g.global) ≡ true → IsCell (g.cell + k) g.global.ty

-- numbers are such pieces, and so is the literal text of the program's formats
module _ (p : Program) (IsPiece : List ℕ → Type 0) (IsCell : ℕ → Scalar → Type 0) (cells_are : AreCells p IsCell) (number_piece : (z : ℤ) → IsPiece (signed_decimal z)) (literal_piece : (format : List ℕ) → IsFormatOf p format → (text : List ℕ) → Contains (pieces format) (Literal text) → IsPiece text) (Q : (A : Type 0) → Action A → Type 0) (preserved : IsPreserved IsPiece IsCell Q) where
  open preserved use {pure_holds, on_holds, astray_holds, trap_holds, tick_holds, locals_holds, put_locals_holds, load_holds, store_holds, may_print_holds, print_piece_holds, loop_holds, transaction_holds, begin_value_holds}

  value_at_holds : (end : Completion) → Q _ (value_at end)
  value_at_holds (Returns v) = pure_holds v
  value_at_holds Next = astray_holds
  value_at_holds Breaks = astray_holds
  value_at_holds Continues = astray_holds
  value_at_holds Cancels = astray_holds
  value_at_holds CancelsOuter = astray_holds

  kept : IsKeptInExpressions Q
  kept = record { pure_holds = pure_holds; on_holds = on_holds; astray_holds = astray_holds; trap_holds = trap_holds; tick_holds = tick_holds; locals_holds = locals_holds; load_holds = load_holds; in_transaction_holds = λ mode h. on_holds begin_value_holds (λ _. on_holds (transaction_holds (Plain mode) (on_holds h (λ v. pure_holds (Returns v)))) value_at_holds) }

  then_holds : {A B : Type 0} {run : Action A} {rest : Action B} → Q A run → Q B rest → Q B (run >> rest)
  then_holds g h = InExpressions.then_holds Q kept g h

  if_holds : {A : Type 0} (b : Bool) {x y : Action A} → Q A x → Q A y → Q A (if b then x else y)
  if_holds b g h = InExpressions.if_holds Q kept b g h

  or_trap_holds : {A : Type 0} (r : Result A Trap) → Q A (or_trap r)
  or_trap_holds r = InExpressions.or_trap_holds Q kept r

  or_astray_holds : {A : Type 0} (o : Option A) → Q A (or_astray o)
  or_astray_holds o = InExpressions.or_astray_holds Q kept o

  fetch_holds : (at : Lvalue) → Q _ (fetch at)
  fetch_holds at = InExpressions.fetch_holds Q kept at

  -- a cell of the type that is written there
  abbrev IsLvalue : Lvalue → Type 0
  IsLvalue (InLocal i t) = Unit {0}
  IsLvalue (InCell c t) = IsCell c t

  assign_holds : (at : Lvalue) → IsLvalue at → (v : Value) → Q _ (assign at v)
  assign_holds (InLocal i t) f v = on_holds locals_holds (λ mine. put_locals_holds _)
  assign_holds (InCell c t) f v = store_holds c _ t f (word_below t (number_of v))

  -- what is there may be said to be there
  found_holds : {A B : Type 0} (o : Option A) {rest : A → Action B} → ((a : A) → o ≡ Some a → Q B (rest a)) → Q B (or_astray o >>= rest)
  found_holds (Some a) h = h a refl
  found_holds None h = astray_holds

  print_pieces_holds : (ps : List Piece) (vs : List Value) → ((text : List ℕ) → Contains ps (Literal text) → IsPiece text) → Q _ (print_pieces ps vs)
  print_pieces_holds [] vs h = pure_holds tt
  print_pieces_holds (Literal text ∷ ps) vs h = then_holds (print_piece_holds text (h text (contains_first (Literal text) ps))) (print_pieces_holds ps vs (λ t c. h t (contains_later (Literal text) ps (Literal t) c)))
  print_pieces_holds (Specifier t ∷ ps) [] h = astray_holds
  print_pieces_holds (Specifier t ∷ ps) (v ∷ vs) h = then_holds (print_piece_holds _ (number_piece (number t v.word))) (print_pieces_holds ps vs (λ text c. h text (contains_later (Specifier t) ps (Literal text) c)))

  -- formats whose literal text is such pieces
  abbrev pub Stand : List (List ℕ) → Type 0
  Stand formats = (format : List ℕ) → Contains formats format → (text : List ℕ) → Contains (pieces format) (Literal text) → IsPiece text

  front_stands : (fs gs : List (List ℕ)) → Stand (fs ++ gs) → Stand fs
  front_stands fs gs h format c = h format (Contains-append_left fs gs format c)

  back_stands : (fs gs : List (List ℕ)) → Stand (fs ++ gs) → Stand gs
  back_stands fs gs h format c = h format (Contains-append_right fs gs format c)

  on_next_holds : {rest : Action Completion} → Q _ rest → (end : Completion) → Q _ (on_next rest end)
  on_next_holds h Next = h
  on_next_holds h Breaks = pure_holds Breaks
  on_next_holds h Continues = pure_holds Continues
  on_next_holds h (Returns v) = pure_holds (Returns v)
  on_next_holds h Cancels = pure_holds Cancels
  on_next_holds h CancelsOuter = pure_holds CancelsOuter

  pub scoped_holds : {run : Action Completion} → Q _ run → Q _ (in_scope run)
  scoped_holds h = on_holds locals_holds (λ outer. on_holds h (λ end. on_holds locals_holds (λ all. then_holds (put_locals_holds _) (pure_holds end))))

  after_body_holds : {go : Action (Option Completion)} → Q _ go → (end : Completion) → Q _ (after_body go end)
  after_body_holds h Next = h
  after_body_holds h Breaks = pure_holds (Some Next)
  after_body_holds h Continues = h
  after_body_holds h (Returns v) = pure_holds (Some (Returns v))
  after_body_holds h Cancels = pure_holds (Some Cancels)
  after_body_holds h CancelsOuter = pure_holds (Some CancelsOuter)

  -- every expression and every statement, where each call is steady
  module _ (call : Caller) (h : (x : List ℕ) (vs : List Value) → Q Value (call x vs)) where
    pub expr_holds : (e : Expr) → Q _ (expr p call e)
    expr_holds e = InExpressions.expr_holds Q kept p call h e

    exprs_holds : (es : Exprs) → Q _ (exprs p call es)
    exprs_holds es = InExpressions.exprs_holds Q kept p call h es

    -- what follows where an lvalue is found
    abbrev Follows : {B : Type 0} → (Lvalue → Action B) → Type 0
    Follows {B} rest = (at : Lvalue) → IsLvalue at → Q B (rest at)

    global_then : {B : Type 0} (x : List ℕ) (rest : Lvalue → Action B) → Follows rest → (o : Option GlobalCells) → global_of p x ≡ o → Q B ((or_astray o >>= λ g. pure (InCell g.cell g.global.ty)) >>= rest)
    global_then x rest h (Some g) e = h (InCell g.cell g.global.ty) (cells_are.first x g e)
    global_then x rest h None e = astray_holds

    lvalue_from_then : {B : Type 0} (x : List ℕ) (rest : Lvalue → Action B) → Follows rest → (o : Option (ℕ × Scalar)) → Q B (lvalue_from p call x o >>= rest)
    lvalue_from_then x rest h (Some l) = h (InLocal l.0 l.1) tt
    lvalue_from_then x rest h None = global_then x rest h (global_of p x) refl

    named_then : {B : Type 0} (x : List ℕ) (rest : Lvalue → Action B) → Follows rest → Q B (lvalue_of_name p call x >>= rest)
    named_then x rest h = subst (Q _) (on_assoc locals (λ mine. lvalue_from p call x (newest mine x)) rest) (on_holds locals_holds (λ mine. lvalue_from_then x rest h (newest mine x)))

    element_if : {B : Type 0} (x : List ℕ) (k : Value) (rest : Lvalue → Action B) → Follows rest → (g : GlobalCells) → global_of p x ≡ Some g → (b : Bool) → nat_lt k.word (cells g.global) ≡ b → Q B ((if b then pure (InCell (g.cell + k.word) g.global.ty) else trap Index) >>= rest)
    element_if x k rest h g e true lt = h (InCell (g.cell + k.word) g.global.ty) (cells_are.each x g k.word e lt)
    element_if x k rest h g e false lt = subst (Q _) (trap_stops Index rest) (trap_holds Index)

    element_then : {B : Type 0} (x : List ℕ) (k : Value) (rest : Lvalue → Action B) → Follows rest → (o : Option GlobalCells) → global_of p x ≡ o → Q B ((or_astray o >>= λ g. if nat_lt k.word (cells g.global) then pure (InCell (g.cell + k.word) g.global.ty) else trap Index) >>= rest)
    element_then x k rest h (Some g) e = element_if x k rest h g e (nat_lt k.word (cells g.global)) refl
    element_then x k rest h None e = astray_holds

    lvalue_then : {B : Type 0} (e : Expr) (rest : Lvalue → Action B) → Follows rest → Q B (lvalue p call e >>= rest)
    lvalue_then (Variable x) rest h = named_then x.text rest h
    lvalue_then (Element x i at) rest h = subst (Q _) (on_assoc (expr p call i) (λ k. element p call x.text k) rest) (on_holds (expr_holds i) (λ k. element_then x.text k rest h (global_of p x.text) refl))
    lvalue_then e rest h = astray_holds

    changed_holds : (at : Lvalue) → IsLvalue at → {by : Action Value} → Q _ by → (op : BinaryOp) → Q _ (assign_by_operator p call at by op)
    changed_holds at f g op = on_holds (fetch_holds at) (λ old. on_holds g (λ v. on_holds (or_trap_holds _) (λ new. assign_holds at f new)))

    assigned_holds : (at : Lvalue) → IsLvalue at → {by : Action Value} → Q _ by → (op : Option BinaryOp) → Q _ (assign_by p call at by op)
    assigned_holds at f g None = on_holds g (λ v. assign_holds at f v)
    assigned_holds at f g (Some op) = changed_holds at f g op

    pub simple_holds : (s : Simple) → Q _ (simple p call s)
    simple_holds (Evaluate e) = then_holds (expr_holds e) (pure_holds Next)
    simple_holds (Assign to op e) = lvalue_then to _ (λ at f. then_holds (assigned_holds at f (expr_holds e) op) (pure_holds Next))
    simple_holds (Adjust to by) = lvalue_then to _ (λ at f. then_holds (changed_holds at f (pure_holds int_one) (op_of by)) (pure_holds Next))

    first_value_holds : (at : Lvalue) → IsLvalue at → (o : Option Expr) → Q _ (first_value p call at o)
    first_value_holds at f None = pure_holds tt
    first_value_holds at f (Some e) = on_holds (expr_holds e) (λ v. assign_holds at f v)

    declare_holds : (t : Scalar) (ds : List Declarator) → Q _ (declare p call t ds)
    declare_holds t [] = pure_holds Next
    declare_holds t (d ∷ ds) = on_holds locals_holds (λ mine. then_holds (put_locals_holds (mine ++ record { name = d.name.text; ty = t; word = 0 } ∷ [])) (then_holds (first_value_holds (InLocal (length mine) t) tt d.first) (declare_holds t ds)))

    start_with_holds : (s : Start) → Q _ (start_with p call s)
    start_with_holds Nothing = pure_holds Next
    start_with_holds (Declares d) = declare_holds d.ty d.declarators
    start_with_holds (Does s) = simple_holds s

    holds_holds : (o : Option Expr) → Q _ (for_condition p call o)
    holds_holds None = pure_holds true
    holds_holds (Some e) = on_holds (expr_holds e) (λ v. pure_holds _)

    stepped_holds : (o : Option Simple) → Q _ (optional_step p call o)
    stepped_holds None = pure_holds None
    stepped_holds (Some s) = then_holds (simple_holds s) (pure_holds None)

    return_value_holds : (o : Option Expr) → Q _ (return_value p call o)
    return_value_holds None = pure_holds _
    return_value_holds (Some e) = expr_holds e

    mutual
      pub stmt_holds : (s : Stmt) → Stand (formats_in s) → Q _ (stmt p call s)
      stmt_holds Empty st = then_holds tick_holds (pure_holds Next)
      stmt_holds (Declare d) st = then_holds tick_holds (declare_holds d.ty d.declarators)
      stmt_holds (Do s) st = then_holds tick_holds (simple_holds s)
      stmt_holds (Block ss) st = then_holds tick_holds (scoped_holds (stmts_holds ss st))
      stmt_holds (Print at format format_at es) st = then_holds tick_holds (then_holds may_print_holds (on_holds (exprs_holds es) (λ vs. then_holds (print_pieces_holds (pieces format) vs (λ text c. st format (contains_first format []) text c)) (pure_holds Next))))
      stmt_holds (If c a) st = then_holds tick_holds (on_holds (expr_holds c) (λ v. if_holds _ (pure_holds Next) (scoped_holds (stmt_holds a st))))
      stmt_holds (IfElse c a b) st = then_holds tick_holds (on_holds (expr_holds c) (λ v. if_holds _ (scoped_holds (stmt_holds b (back_stands (formats_in a) (formats_in b) st))) (scoped_holds (stmt_holds a (front_stands (formats_in a) (formats_in b) st)))))
      stmt_holds (While c a) st = then_holds tick_holds (loop_holds (on_holds (expr_holds c) (λ v. if_holds _ (pure_holds _) (on_holds (scoped_holds (stmt_holds a st)) (after_body_holds (pure_holds None))))))
      stmt_holds (DoWhile a c) st = then_holds tick_holds (loop_holds (on_holds (scoped_holds (stmt_holds a st)) (after_body_holds (on_holds (expr_holds c) (λ v. pure_holds _)))))
      stmt_holds (For start c step a) st = then_holds tick_holds (scoped_holds (then_holds (start_with_holds start) (loop_holds (on_holds (holds_holds c) (λ more. if_holds _ (on_holds (scoped_holds (stmt_holds a st)) (after_body_holds (stepped_holds step))) (pure_holds _))))))
      stmt_holds (Break at) st = then_holds tick_holds (pure_holds Breaks)
      stmt_holds (Continue at) st = then_holds tick_holds (pure_holds Continues)
      stmt_holds (Return e at) st = then_holds tick_holds (on_holds (return_value_holds e) (λ v. pure_holds _))
      stmt_holds (Transaction kind ss at) st = then_holds tick_holds (transaction_holds kind (scoped_holds (stmts_holds ss st)))
      stmt_holds (Cancel at) st = then_holds tick_holds (pure_holds Cancels)
      stmt_holds (CancelOuter at) st = then_holds tick_holds (pure_holds CancelsOuter)

      pub stmts_holds : (ss : Stmts) → Stand (formats_among ss) → Q _ (stmts p call ss)
      stmts_holds Tree.[] st = pure_holds Next
      stmts_holds (Tree.◌∷◌ s ss) st = on_holds (stmt_holds s (front_stands (formats_in s) (formats_among ss) st)) (on_next_holds (stmts_holds ss (back_stands (formats_in s) (formats_among ss) st)))

    result_of_holds : (t : Option Scalar) (end : Completion) → Q _ (result_of t end)
    result_of_holds t Next = pure_holds _
    result_of_holds t (Returns v) = pure_holds _
    result_of_holds t Breaks = astray_holds
    result_of_holds t Continues = astray_holds
    result_of_holds t Cancels = astray_holds
    result_of_holds t CancelsOuter = astray_holds

    invoke_holds : (x : List ℕ) (vs : List Value) → Q _ (invoke p call x vs)
    invoke_holds x vs = found_holds (definition_of p x) (λ f e. on_holds (or_astray_holds (call_locals f.0.parameters vs)) (λ mine. on_holds locals_holds (λ outer. then_holds (put_locals_holds mine) (on_holds (stmts_holds f.1 (λ format c. literal_piece format (x, f, e, c))) (λ end. then_holds (put_locals_holds outer) (result_of_holds f.0.result end))))))

  pub calls_holds : (n : ℕ) (x : List ℕ) (vs : List Value) → Q _ (calls p n x vs)
  calls_holds zero x vs = trap_holds Frames
  calls_holds (suc n) x vs = invoke_holds (calls p n) (calls_holds n) x vs

  any_worker_holds : (t : ℕ) → Q _ (worker_run p t)
  any_worker_holds t = then_holds (invoke_holds (calls p 63) (calls_holds 63) _ _) tick_holds

-- where only pieces of the program are printed
pub worker_holds : (p : Program) (IsCell : ℕ → Scalar → Type 0) → AreCells p IsCell → (Q : (A : Type 0) → Action A → Type 0) → IsPreserved (IsPieceOf p) IsCell Q → (t : ℕ) → Q _ (worker_run p t)
worker_holds p IsCell are Q preserved t = any_worker_holds p (IsPieceOf p) IsCell are (λ z. inr (z, refl)) (λ format is text c. inl (format, is, c)) Q preserved t

-- whatever is printed
abbrev pub IsAlwaysPreserved : ((A : Type 0) → Action A → Type 0) → Type 1
IsAlwaysPreserved Q = IsPreserved (λ text. Unit {0}) (λ c t. Unit {0}) Q

pub any_cells : (p : Program) → AreCells p (λ c t. Unit {0})
any_cells p = record { first = λ x g e. tt; each = λ x g k e h. tt }

module _ (p : Program) (Q : (A : Type 0) → Action A → Type 0) (preserved : IsAlwaysPreserved Q) where
  pub block_holds : (call : Caller) → ((x : List ℕ) (vs : List Value) → Q Value (call x vs)) → (ss : Stmts) → Q Completion (in_scope (stmts p call ss))
  block_holds call h ss =
      scoped_holds p (λ text. Unit {0}) (λ c t. Unit {0}) (any_cells p) (λ z. tt) (λ format is text c. tt) Q preserved
      (stmts_holds p (λ text. Unit {0}) (λ c t. Unit {0}) (any_cells p) (λ z. tt) (λ format is text c. tt) Q preserved call h ss (λ format c text d. tt))

  -- an expression, as the body of a transaction
  pub returned_holds : (call : Caller) → ((x : List ℕ) (vs : List Value) → Q Value (call x vs)) → (e : Expr) → Q Completion (expr p call e >>= λ v. pure (Returns v))
  returned_holds call h e =
      preserved.on_holds (expr_holds p (λ text. Unit {0}) (λ c t. Unit {0}) (any_cells p) (λ z. tt) (λ format is text c. tt) Q preserved call h e) (λ v. preserved.pure_holds (Returns v))

module _ (p : Program) (Q : (A : Type 0) → Action A → Type 0) (preserved : IsAlwaysPreserved Q) (frames : ℕ) where
  pub called_holds : (x : List ℕ) (vs : List Value) → Q Value (calls p frames x vs)
  called_holds = calls_holds p (λ text. Unit {0}) (λ c t. Unit {0}) (any_cells p) (λ z. tt) (λ format is text c. tt) Q preserved frames

  pub each_expr_holds : (e : Expr) → Q Value (expr p (calls p frames) e)
  each_expr_holds = expr_holds p (λ text. Unit {0}) (λ c t. Unit {0}) (any_cells p) (λ z. tt) (λ format is text c. tt) Q preserved (calls p frames) called_holds

  pub each_simple_holds : (s : Simple) → Q Completion (simple p (calls p frames) s)
  each_simple_holds = simple_holds p (λ text. Unit {0}) (λ c t. Unit {0}) (any_cells p) (λ z. tt) (λ format is text c. tt) Q preserved (calls p frames) called_holds

  pub each_stmt_holds : (st : Stmt) → Q Completion (stmt p (calls p frames) st)
  each_stmt_holds st = stmt_holds p (λ text. Unit {0}) (λ c t. Unit {0}) (any_cells p) (λ z. tt) (λ format is text c. tt) Q preserved (calls p frames) called_holds st (λ format c text d. tt)
