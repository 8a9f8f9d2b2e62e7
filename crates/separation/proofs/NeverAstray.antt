-- No thread of an accepted program goes astray.
use Rattle.std.proofs.Common.{◌≡◌, ◌≢◌, refl, sym, ap, subst, ◌∙◌, ℕ, zero, suc, ◌+◌, List, [], ◌∷◌, ◌++◌, append-nil, append_assoc, length, map, arith, Option, Some, None, Bool, true, false, not, IsTrue}
use Rattle.std.specs.Prelude.{if◌then◌else◌, ◌||◌, ◌==◌, bytes_eq, pos, nat_lt, is_some, option_map, unwrap_or, codes}
use Rattle.std.specs.Option.{option_or, IfSome}
use Rattle.std.proofs.lemmas.List.{length-map, map-append}
use Rattle.std.proofs.lemmas.Bool.Decides.{Decides-eqb}
use Rattle.std.proofs.lemmas.List.Folds.{list_any-append}
use Rattle.lex.specs.declared.token.Scalar.{Scalar}
use Rattle.lex.specs.declared.token.Scalar.TheVariants.{Int, Unsigned}
use Rattle.syntax.specs.declared.tree.BinaryOp.{BinaryOp}
use Rattle.syntax.specs.declared.tree.LogicalOp.TheVariants.{AndThen, OrElse}
use Rattle.syntax.specs.declared.tree.TransactionKind.TheVariants.{Plain, Outer}
use Rattle.syntax.specs.declared.tree.Mode.{Mode}
use Rattle.syntax.specs.declared.tree.Mode.TheVariants.{Atomic, Relaxed}
use Rattle.syntax.specs.declared.thread_end.Trap.TheVariants.{Index, Frames}
use Rattle.syntax.specs.declared.thread_end.Halt.TheVariants.{Astray}
use Rattle.syntax.specs.declared.value.Value.{Value}
use Rattle.syntax.specs.Tree as Tree
use Rattle.syntax.specs.Tree.{Name, Expr, Exprs, Variable, Constant, Element, Call, Parenthesized, Cast, Unary, Binary, Logical, Conditional, InTransaction, Simple, Evaluate, Assign, Adjust, Declarator, Start, Nothing, Declares, Does, Stmt, Stmts, Empty, Declare, Do, Block, Print, If, IfElse, While, DoWhile, For, Break, Continue, Return, Transaction, Cancel, CancelOuter, Parameter, Function, Program}
use Rattle.syntax.specs.Numbers.{word_of, value_in_type, flag, is_zero, unary, binary}
use Rattle.syntax.specs.Names.{Local, newest, global_of, definition_of, cells}
use Rattle.syntax.specs.Formats.{pieces, specifiers}
use Rattle.syntax.specs.Types.{Known, Unknown, Number, Array, Callable, Scope, known_function, file_scope, with_number, type_of, running_scope}
use Rattle.syntax.specs.Typing.{has_name, is_unknown, may_be_number, may_be_array, may_be_function, may_be_assigned, takes_so_many, count, is_void, is_worker, knows, scope_after, names_of, scope_of_start, parameter_names}
use Rattle.syntax.specs.Behaviours.{Stopped}
use Rattle.syntax.specs.Actions.{Answer, Stops, Action, pure}
use Rattle.syntax.specs.Meaning.{Lvalue, InLocal, InCell, Completion, Next, Breaks, Continues, Returns, Cancels, CancelsOuter, in_scope, op_of, int_one, Caller, lvalue_from, lvalue_of_name, element, expr, exprs, lvalue, assign_by_operator, assign_by, simple, first_value, declare, start_with, for_condition, optional_step, return_value, stmt, stmts, call_locals, result_of, invoke, calls}
use Rattle.syntax.specs.Threads.{outcome_of, first_state, worker_run}
use Rattle.syntax.specs.Laws.{shape}
use Rattle.syntax.specs.ScopeLaws.{IsSubscope, declared_by, body_scope}
use Rattle.syntax.proofs.typing.TypedParts.{TypedExpr, TypedExprs, TypedTarget, TypedSimple, TypedDeclarators, TypedStart, TypedStmt, TypedStmts, stmts_parts}
use Rattle.syntax.proofs.typing.ValueTypes.{Found, found, shared_type}
use Rattle.syntax.proofs.typing.Fits.{newest_in, newest_by_shape, newest_behind, scope_in, agrees_by_shape, shape_agrees, one_more_fits, declared_fit, same_type_of, has_type}
use Rattle.syntax.proofs.typing.Called.{called_are_defined, bodies_are_typed, worker_known, all_enter, shapes_of, entered_shapes}
use Rattle.safety.specs.Sites.{Prints, Relaxes, OpensOuter, Cancels as CancelConstruct, CancelsOuter as OuterCancelConstruct, Calls, Uses, Around, site, with_names, in_transaction, uses, expr_sites, exprs_sites, sites_if_any, simple_sites, declarator_sites, start_sites, names_of_start, stmt_sites, stmts_sites}
use Rattle.safety.proofs.CancelsStay.{definition_sites}
use Rattle.separation.specs.Touching.{IsAccepted}
use Rattle.separation.specs.Laws.{NeverAstray}
use Rattle.separation.proofs.Goes.{Shapes, Goes, Opens, Any, Fine, IsInside, LvalueFits, CompletionFits, TurnFits, on_goes, then_goes, pure_goes, if_goes, tick_goes, trap_goes, or_trap_goes, there_goes, locals_goes, put_goes, may_print_goes, fetch_goes, assign_goes, pieces_go, opened, no_further, scoped_goes, on_opens, next_opens, after_body_goes, loop_goes, transaction_goes, value_transaction_goes}
use Rattle.separation.proofs.Permitted.{Permits, mode_in, AllPermitted, front_permitted, back_permitted, one_permitted, may_print, is_inside, may_begin_atomic, may_begin_relaxed, relaxed_inside, all_permitted, worker_permitted}

-- what a name that is typed is known as
known_number : (k : Known) → IsTrue (not (is_unknown k)) → IsTrue (may_be_number k) → (t : Scalar) × (k ≡ Number t)
known_number Unknown g h = absurd (cc)
known_number (Number t) g h = (t, refl)
known_number (Array t n) g h = absurd (cc)
known_number (Callable r ts) g h = absurd (cc)

known_array : (k : Known) → IsTrue (not (is_unknown k)) → IsTrue (may_be_array k) → (t : Scalar) × (n : ℕ) × (k ≡ Array t n)
known_array Unknown g h = absurd (cc)
known_array (Number t) g h = absurd (cc)
known_array (Array t n) g h = (t, n, refl)
known_array (Callable r ts) g h = absurd (cc)

known_callable : (k : Known) (n : ℕ) → IsTrue (not (is_unknown k)) → IsTrue (may_be_function k) → IsTrue (takes_so_many k n) → (r : Option Scalar) × (ts : List Scalar) × (k ≡ Callable r ts) × (n ≡ length ts)
known_callable Unknown n g h e = absurd (cc)
known_callable (Number t) n g h e = absurd (cc)
known_callable (Array t m) n g h e = absurd (cc)
known_callable (Callable r ts) n g h e = (r, ts, refl, (Decides-eqb n (length ts)).0 e)

-- no local stands for what is an array or a function
abbrev over : Option Scalar → Known → Known
over o k = unwrap_or (option_map (λ t. Number t) o) k

over_number : (o : Option Scalar) (k : Known) (t : Scalar) → o ≡ None → over o k ≡ Number t → k ≡ Number t
over_number o k t e g = ap (λ q. over q k) (sym e) ∙ g

over_array : (o : Option Scalar) (k : Known) (t : Scalar) (n : ℕ) → over o k ≡ Array t n → (o ≡ None) × (k ≡ Array t n)
over_array None k t n e = (refl, e)
over_array (Some s) k t n e = absurd (cc)

over_callable : (o : Option Scalar) (k : Known) (r : Option Scalar) (ts : List Scalar) → over o k ≡ Callable r ts → k ≡ Callable r ts
over_callable None k r ts e = e
over_callable (Some s) k r ts e = absurd (cc)

is_there : {A : Type 0} (o : Option A) (a : A) → o ≡ Some a → IsTrue (is_some o)
is_there o a e = subst (λ q. IsTrue (is_some q)) (sym e) refl

none_there : {A : Type 0} (o : Option Scalar) → o ≡ None → IsTrue (is_some o) → A
none_there None e h = absurd (cc)
none_there (Some t) e h = absurd (cc)

or_there : (o q : Option Scalar) → IsTrue (is_some o) → IsTrue (is_some (option_or o q))
or_there None q h = absurd (cc)
or_there (Some t) q h = refl

or_there_later : (o q : Option Scalar) → IsTrue (is_some q) → IsTrue (is_some (option_or o q))
or_there_later None q h = h
or_there_later (Some t) q h = refl

-- where a name is among these, it is that of a local
abbrev Named : List (List ℕ) → Shapes → Type 0
Named names ls = (x : List ℕ) → IsTrue (has_name names x) → IsTrue (is_some (newest_in ls x))

one_named : (b : Bool) (t : Scalar) (rest : Bool) (o : Option Scalar) → (IsTrue rest → IsTrue (is_some o)) → IsTrue (b || rest) → IsTrue (is_some (option_or (if b then Some t else None) o))
one_named true t rest o f h = refl
one_named false t rest o f h = f h

named_more : (names : List (List ℕ)) (ls : Shapes) (x : List ℕ) (t : Scalar) → Named names ls → Named (x ∷ names) (ls ++ (x, t) ∷ [])
named_more names ls x t h y g = subst (λ q. IsTrue (is_some q)) (sym (newest_behind ls ((x, t) ∷ []) y)) (one_named (bytes_eq x y) t (has_name names y) (newest_in ls y) (λ k. h y k) g)

first_named : (b : Bool) (t : Scalar) (rest : Bool) (o : Option Scalar) → (IsTrue rest → IsTrue (is_some o)) → IsTrue (b || rest) → IsTrue (is_some (option_or o (if b then Some t else None)))
first_named true t rest o f h = or_there_later o (Some t) refl
first_named false t rest o f h = or_there o None (f h)

declared_named : (t : Scalar) (ds : List Declarator) (y : List ℕ) → IsTrue (has_name (map (λ d. d.name.text) ds) y) → IsTrue (is_some (newest_in (map (λ d. (d.name.text, t)) ds) y))
declared_named t [] y h = absurd (cc)
declared_named t (d ∷ ds) y h = first_named (bytes_eq d.name.text y) t (has_name (map (λ d. d.name.text) ds) y) (newest_in (map (λ d. (d.name.text, t)) ds) y) (λ k. declared_named t ds y k) h

parameters_named : (qs : List Parameter) (y : List ℕ) → IsTrue (has_name (parameter_names qs) y) → IsTrue (is_some (newest_in (shapes_of qs) y))
parameters_named [] y h = absurd (cc)
parameters_named (q ∷ qs) y h = by_name q.name (λ k. parameters_named qs y k) h
  where
    by_name : (n : Option Name) → (IsTrue (has_name (parameter_names qs) y) → IsTrue (is_some (newest_in (shapes_of qs) y))) → IsTrue (has_name (unwrap_or (option_map (λ x. x.text ∷ parameter_names qs) n) (parameter_names qs)) y) → IsTrue (is_some (newest_in (unwrap_or (option_map (λ x. (x.text, q.ty) ∷ []) n) [] ++ shapes_of qs) y))
    by_name None others h = others h
    by_name (Some x) others h = first_named (bytes_eq x.text y) q.ty (has_name (parameter_names qs) y) (newest_in (shapes_of qs) y) others h

either_named : (a b : Bool) (o q : Option Scalar) → (IsTrue a → IsTrue (is_some o)) → (IsTrue b → IsTrue (is_some q)) → IsTrue (a || b) → IsTrue (is_some (option_or o q))
either_named true b o q f g h = or_there o q (f refl)
either_named false b o q f g h = or_there_later o q (g h)

named_behind : (names more : List (List ℕ)) (ls os : Shapes) → Named names ls → Named more os → Named (more ++ names) (ls ++ os)
named_behind names more ls os g h y k =
    subst (λ q. IsTrue (is_some q)) (sym (newest_behind ls os y))
    (either_named (has_name more y) (has_name names y) (newest_in os y) (newest_in ls y) (λ i. h y i) (λ i. g y i)
    (subst (λ b. IsTrue b) (list_any-append (λ z. bytes_eq z y) more names) k))

-- where something runs: what is known, the locals' names and types, and what surrounds it
record Here (p : Program) (known : Scope) (ls : Shapes) (a : Around) : Type 0 where
  fits : IsSubscope known (scope_in p ls)
  named : Named a.locals ls

here_more : (p : Program) (known : Scope) (ls : Shapes) (a : Around) (x : List ℕ) (t : Scalar) → Here p known ls a → Here p (with_number x t known) (ls ++ (x, t) ∷ []) (with_names (x ∷ []) a)
here_more p known ls a x t h = record { fits = one_more_fits p known ls x t h.fits; named = named_more a.locals ls x t h.named }

here_declared : (p : Program) (known : Scope) (ls : Shapes) (a : Around) (t : Scalar) (ds : List Declarator) → Here p known ls a → Here p (knows t ds known) (ls ++ map (λ d. (d.name.text, t)) ds) (with_names (map (λ d. d.name.text) ds) a)
here_declared p known ls a t ds h = record { fits = declared_fit p known ls t ds h.fits; named = named_behind a.locals (map (λ d. d.name.text) ds) ls (map (λ d. (d.name.text, t)) ds) h.named (λ y k. declared_named t ds y k) }

here_still : (p : Program) (known : Scope) (ls : Shapes) (a : Around) → Here p known ls a → Here p known (ls ++ []) (with_names [] a)
here_still p known ls a h = record { fits = subst (λ ms. IsSubscope known (scope_in p ms)) (sym (append-nil ls)) h.fits; named = subst (λ ms. Named a.locals ms) (sym (append-nil ls)) h.named }

here_after : (p : Program) (known : Scope) (ls : Shapes) (a : Around) (s : Stmt) → Here p known ls a → Here p (scope_after s known) (ls ++ declared_by s) (with_names (names_of s) a)
here_after p known ls a (Declare d) h = here_declared p known ls a d.ty d.declarators h
here_after p known ls a Empty h = here_still p known ls a h
here_after p known ls a (Do s) h = here_still p known ls a h
here_after p known ls a (Block ss) h = here_still p known ls a h
here_after p known ls a (Print at format format_at es) h = here_still p known ls a h
here_after p known ls a (If c s) h = here_still p known ls a h
here_after p known ls a (IfElse c s s') h = here_still p known ls a h
here_after p known ls a (While c s) h = here_still p known ls a h
here_after p known ls a (DoWhile s c) h = here_still p known ls a h
here_after p known ls a (For start c step s) h = here_still p known ls a h
here_after p known ls a (Break at) h = here_still p known ls a h
here_after p known ls a (Continue at) h = here_still p known ls a h
here_after p known ls a (Return e at) h = here_still p known ls a h
here_after p known ls a (Transaction mode ss at) h = here_still p known ls a h
here_after p known ls a (Cancel at) h = here_still p known ls a h
here_after p known ls a (CancelOuter at) h = here_still p known ls a h

abbrev started_by : Start → Shapes
started_by Nothing = []
started_by (Declares d) = map (λ e. (e.name.text, d.ty)) d.declarators
started_by (Does s) = []

here_started : (p : Program) (known : Scope) (ls : Shapes) (a : Around) (s : Start) → Here p known ls a → Here p (scope_of_start s known) (ls ++ started_by s) (with_names (names_of_start s) a)
here_started p known ls a Nothing h = here_still p known ls a h
here_started p known ls a (Declares d) h = here_declared p known ls a d.ty d.declarators h
here_started p known ls a (Does s) h = here_still p known ls a h

-- a call goes well wherever it is permitted
abbrev CallsGo : Program → Caller → Type 0
CallsGo p call =
    (w : Option Mode) (ls : Shapes) (f : List ℕ) (vs : List Value) (result : Option Scalar) (takes : List Scalar) →
    file_scope p f ≡ Callable result takes → length vs ≡ length takes → Permits p w (Calls f) → Goes w ls ls Any (call f vs)

module _ (p : Program) (call : Caller) (called : CallsGo p call) (outer : Option Mode) where
  abbrev mode_of : Around → Option Mode
  mode_of a = mode_in outer a.atomic a.in_any

  -- a shared name
  shared_inside : (x : Name) (a : Around) (b : Bool) → b ≡ false → AllPermitted p outer (if b then [] else site a (Uses x.text) x.span) → IsInside (mode_of a)
  shared_inside x a true e h = absurd (cc)
  shared_inside x a false e h = is_inside p (mode_of a) x.text (one_permitted (record { construct = Uses x.text; span = x.span; atomic = a.atomic; outer = a.outer; in_any = a.in_any }) h).0

  no_local : (names : List (List ℕ)) (ls : Shapes) (x : List ℕ) → Named names ls → newest_in ls x ≡ None → has_name names x ≡ false
  no_local names ls x h e = by_name (has_name names x) refl
    where
      by_name : (b : Bool) → has_name names x ≡ b → b ≡ false
      by_name true k = none_there (newest_in ls x) e (h x k)
      by_name false k = refl

  used_inside : (known : Scope) (ls : Shapes) (a : Around) (x : Name) → Here p known ls a → AllPermitted p outer (uses x a) → newest_in ls x.text ≡ None → IsInside (mode_of a)
  used_inside known ls a x h m e = shared_inside x a (has_name a.locals x.text) (no_local a.locals ls x.text h.named e) m

  lvalue_goes : (w : Option Mode) (ls : Shapes) (x : List ℕ) (t : Scalar) → (newest_in ls x ≡ None → IsInside w) → over (newest_in ls x) (file_scope p x) ≡ Number t → (o : Option (ℕ × Scalar)) → option_map (λ (l : ℕ × Scalar). l.1) o ≡ newest_in ls x → Goes w ls ls (LvalueFits w) (lvalue_from p call x o)
  lvalue_goes w ls x t inside e (Some l) g = pure_goes (InLocal l.0 l.1) tt
  lvalue_goes w ls x t inside e None g =
      let here : Found (global_of p x) t = found p x t (ap shared_type (over_number (newest_in ls x) (file_scope p x) t (sym g) e)) in
      on_goes (there_goes (global_of p x) (is_there (global_of p x) here.0 here.1)) (λ c f. pure_goes (InCell c.cell c.global.ty) (inside (sym g)))

  module _ (known : Scope) (ls : Shapes) where
    module _ (a : Around) (here : Here p known ls a) where
      named_goes : (x : Name) → IsTrue (not (is_unknown (known x.text))) → IsTrue (may_be_number (known x.text)) → AllPermitted p outer (uses x a) → Goes (mode_of a) ls ls (LvalueFits (mode_of a)) (lvalue_of_name p call x.text)
      named_goes x g h m =
          let number = known_number (known x.text) g h in
          on_goes locals_goes (λ mine e. lvalue_goes (mode_of a) ls x.text number.0 (used_inside known ls a x here m) (here.fits x.text g ∙ number.1) (newest mine x.text) (newest_by_shape 0 mine x.text ∙ ap (λ ms. newest_in ms x.text) e))

      element_goes : (x : Name) (k : Value) → IsTrue (not (is_unknown (known x.text))) → IsTrue (may_be_array (known x.text)) → AllPermitted p outer (uses x a) → Goes (mode_of a) ls ls (LvalueFits (mode_of a)) (element p call x.text k)
      element_goes x k g h m =
          let array = known_array (known x.text) g h in
          let hidden = over_array (newest_in ls x.text) (file_scope p x.text) array.0 array.1 (here.fits x.text g ∙ array.2) in
          let cell : Found (global_of p x.text) array.0 = found p x.text array.0 (ap shared_type hidden.1) in
          on_goes (there_goes (global_of p x.text) (is_there (global_of p x.text) cell.0 cell.1))
          (λ c f. if_goes (nat_lt k.word (cells c.global)) (pure_goes (InCell (c.cell + k.word) c.global.ty) (used_inside known ls a x here m hidden.0)) (trap_goes Index))

      call_goes : (f : Name) (es : Exprs) (vs : List Value) → IsTrue (not (is_unknown (known f.text))) → IsTrue (may_be_function (known f.text)) → IsTrue (takes_so_many (known f.text) (count es)) → length vs ≡ count es → AllPermitted p outer (site a (Calls f.text) f.span) → Goes (mode_of a) ls ls Any (call f.text vs)
      call_goes f es vs g h e n m =
          let function = known_callable (known f.text) (count es) g h e in
          called (mode_of a) ls f.text vs function.0 function.1 (over_callable (newest_in ls f.text) (file_scope p f.text) function.0 function.1 (here.fits f.text g ∙ function.2)) (n ∙ function.3)
          (one_permitted (record { construct = Calls f.text; span = f.span; atomic = a.atomic; outer = a.outer; in_any = a.in_any }) m).0

      -- the type of a conditional expression is there
      typed_there : (e : Expr) → TypedExpr known e → IsTrue (not (is_void known e)) → (mine : List Local) → map shape mine ≡ ls → IsTrue (is_some (type_of (running_scope p mine) e))
      typed_there e h g mine f =
          subst (λ t. IsTrue (is_some t)) (sym (same_type_of known (running_scope p mine) (agrees_by_shape p known mine (subst (λ ms. IsSubscope known (scope_in p ms)) (sym f) here.fits)) e h)) (has_type known e h g)

    mutual
      expr_goes : (a : Around) → Here p known ls a → (e : Expr) → TypedExpr known e → AllPermitted p outer (expr_sites e a) → Goes (mode_of a) ls ls Any (expr p call e)
      expr_goes a here (Variable x) h m = on_goes (named_goes a here x h.0 h.1 m) (λ at f. fetch_goes at f)
      expr_goes a here (Constant n t at) h m = pure_goes (record { ty = t; word = word_of t (pos n) }) tt
      expr_goes a here (Element x i at) h m =
          on_goes (expr_goes a here i h.1 (back_permitted (uses x a) (expr_sites i a) m)) (λ k _. on_goes (element_goes a here x k h.0 h.2 (front_permitted (uses x a) (expr_sites i a) m)) (λ at f. fetch_goes at f))
      expr_goes a here (Call f es at) h m =
          on_goes (exprs_go a here es h.1 (back_permitted (site a (Calls f.text) f.span) (exprs_sites es a) m))
          (λ vs n. then_goes tick_goes (call_goes a here f es vs h.0 h.2 h.3 n (front_permitted (site a (Calls f.text) f.span) (exprs_sites es a) m)))
      expr_goes a here (Parenthesized e at) h m = expr_goes a here e h m
      expr_goes a here (Cast t e at) h m = on_goes (expr_goes a here e h m) (λ v _. pure_goes (value_in_type t v) tt)
      expr_goes a here (Unary op e at) h m = on_goes (expr_goes a here e h.0 m) (λ v _. or_trap_goes (unary op v))
      expr_goes a here (Binary op x y at) h m =
          on_goes (expr_goes a here x h.0 (front_permitted (expr_sites x a) (expr_sites y a) m)) (λ v _. on_goes (expr_goes a here y h.2 (back_permitted (expr_sites x a) (expr_sites y a) m)) (λ w _. or_trap_goes (binary op v w)))
      expr_goes a here (Logical AndThen x y at) h m =
          on_goes (expr_goes a here x h.0 (front_permitted (expr_sites x a) (expr_sites y a) m)) (λ v _. on_goes (if_goes (is_zero v) (pure_goes v tt) (expr_goes a here y h.1 (back_permitted (expr_sites x a) (expr_sites y a) m))) (λ w _. pure_goes (flag (not (is_zero w))) tt))
      expr_goes a here (Logical OrElse x y at) h m =
          on_goes (expr_goes a here x h.0 (front_permitted (expr_sites x a) (expr_sites y a) m)) (λ v _. on_goes (if_goes (is_zero v) (expr_goes a here y h.1 (back_permitted (expr_sites x a) (expr_sites y a) m)) (pure_goes v tt)) (λ w _. pure_goes (flag (not (is_zero w))) tt))
      expr_goes a here (Conditional c x y at) h m =
          let first = front_permitted (expr_sites c a ++ expr_sites x a) (expr_sites y a) m in
          on_goes (expr_goes a here c h.0 (front_permitted (expr_sites c a) (expr_sites x a) first))
          (λ v _. on_goes (if_goes (is_zero v) (expr_goes a here y h.3 (back_permitted (expr_sites c a ++ expr_sites x a) (expr_sites y a) m)) (expr_goes a here x h.1 (back_permitted (expr_sites c a) (expr_sites x a) first)))
          (λ w _. on_goes locals_goes (λ mine f. on_goes (there_goes (type_of (running_scope p mine) (Conditional c x y at)) (typed_there a here (Conditional c x y at) h refl mine f)) (λ t _. pure_goes (value_in_type t w) tt))))
      expr_goes a here (InTransaction Atomic keyword e at) h m =
          let a' = in_transaction (Plain Atomic) a in
          value_transaction_goes Atomic (may_begin_atomic (mode_of a))
          (expr_goes a' (record { fits = here.fits; named = here.named }) e h.0 (back_permitted [] (expr_sites e a') m))
      expr_goes a here (InTransaction Relaxed keyword e at) h m =
          let a' = in_transaction (Plain Relaxed) a in
          let permit = (one_permitted (record { construct = Relaxes; span = keyword; atomic = a.atomic; outer = a.outer; in_any = a.in_any }) (front_permitted (site a Relaxes keyword) (expr_sites e a') m)).0 in
          value_transaction_goes Relaxed (may_begin_relaxed p (mode_of a) permit)
          (subst (λ w. Goes w ls ls Any (expr p call e)) (relaxed_inside p outer a.atomic a.in_any permit)
          (expr_goes a' (record { fits = here.fits; named = here.named }) e h.0 (back_permitted (site a Relaxes keyword) (expr_sites e a') m)))

      exprs_go : (a : Around) → Here p known ls a → (es : Exprs) → TypedExprs known es → AllPermitted p outer (exprs_sites es a) → Goes (mode_of a) ls ls (λ vs. length vs ≡ count es) (exprs p call es)
      exprs_go a here Tree.[] h m = pure_goes [] refl
      exprs_go a here (Tree.◌∷◌ e es) h m =
          on_goes (expr_goes a here e h.0 (front_permitted (expr_sites e a) (exprs_sites es a) m)) (λ v _. on_goes (exprs_go a here es h.1 (back_permitted (expr_sites e a) (exprs_sites es a) m)) (λ vs n. pure_goes (v ∷ vs) (omega (arith, n))))

    module _ (a : Around) (here : Here p known ls a) where
      target_goes : (to : Expr) → TypedTarget known to → IsTrue (may_be_assigned known to) → AllPermitted p outer (expr_sites to a) → Goes (mode_of a) ls ls (LvalueFits (mode_of a)) (lvalue p call to)
      target_goes (Variable x) h g m = named_goes a here x h g m
      target_goes (Element x i at) h g m =
          on_goes (expr_goes a here i h.1 (back_permitted (uses x a) (expr_sites i a) m)) (λ k _. element_goes a here x k h.0 h.2 (front_permitted (uses x a) (expr_sites i a) m))
      target_goes to h g m = absurd (cc)

      changed_goes : (at : Lvalue) {by : Action Value} → LvalueFits (mode_of a) at → Goes (mode_of a) ls ls Any by → (op : BinaryOp) → Goes (mode_of a) ls ls Any (assign_by_operator p call at by op)
      changed_goes at f g op = on_goes (fetch_goes at f) (λ old _. on_goes g (λ v _. on_goes (or_trap_goes (binary op old v)) (λ new _. assign_goes at new f)))

      assigned_goes : (at : Lvalue) {by : Action Value} → LvalueFits (mode_of a) at → Goes (mode_of a) ls ls Any by → (op : Option BinaryOp) → Goes (mode_of a) ls ls Any (assign_by p call at by op)
      assigned_goes at f g None = on_goes g (λ v _. assign_goes at v f)
      assigned_goes at f g (Some op) = changed_goes at f g op

      simple_goes : (l b u : Bool) (s : Simple) → TypedSimple known s → AllPermitted p outer (simple_sites s a) → Goes (mode_of a) ls ls (CompletionFits l b u) (simple p call s)
      simple_goes l b u (Evaluate e) h m = then_goes (expr_goes a here e h m) (pure_goes Next tt)
      simple_goes l b u (Assign to op e) h m =
          on_goes (target_goes to h.0 h.2 (front_permitted (expr_sites to a) (expr_sites e a) m))
          (λ at f. then_goes (assigned_goes at f (expr_goes a here e h.1 (back_permitted (expr_sites to a) (expr_sites e a) m)) op) (pure_goes Next tt))
      simple_goes l b u (Adjust to by) h m =
          on_goes (target_goes to h.0 h.1 m) (λ at f. then_goes (changed_goes at f (pure_goes int_one tt) (op_of by)) (pure_goes Next tt))

      first_goes : (i : ℕ) (t : Scalar) (o : Option Expr) → IfSome o (TypedExpr known) → AllPermitted p outer (sites_if_any expr_sites o a) → Goes (mode_of a) ls ls Any (first_value p call (InLocal i t) o)
      first_goes i t None h m = pure_goes tt tt
      first_goes i t (Some e) h m = on_goes (expr_goes a here e h m) (λ v _. assign_goes (InLocal i t) v tt)

      holds_goes : (o : Option Expr) → IfSome o (TypedExpr known) → AllPermitted p outer (sites_if_any expr_sites o a) → Goes (mode_of a) ls ls Any (for_condition p call o)
      holds_goes None h m = pure_goes true tt
      holds_goes (Some e) h m = on_goes (expr_goes a here e h m) (λ v _. pure_goes (not (is_zero v)) tt)

      stepped_goes : (l b u : Bool) (o : Option Simple) → IfSome o (TypedSimple known) → AllPermitted p outer (sites_if_any simple_sites o a) → Goes (mode_of a) ls ls (TurnFits l b u) (optional_step p call o)
      stepped_goes l b u None h m = pure_goes None tt
      stepped_goes l b u (Some s) h m = then_goes (simple_goes l b u s h m) (pure_goes None tt)

      return_goes : (o : Option Expr) → IfSome o (TypedExpr known) → AllPermitted p outer (sites_if_any expr_sites o a) → Goes (mode_of a) ls ls Any (return_value p call o)
      return_goes None h m = pure_goes (flag false) tt
      return_goes (Some e) h m = expr_goes a here e h m

  same_count : (n k i : ℕ) → IsTrue (n == k) → i ≡ k → n ≡ i
  same_count n k i h e = (Decides-eqb n k).0 h ∙ sym e

  tested_goes : {w : Option Mode} {ls : Shapes} (l b u more : Bool) → Goes w ls ls (TurnFits l b u) (pure (if more then Some Next else None))
  tested_goes l b u true = pure_goes (Some Next) tt
  tested_goes l b u false = pure_goes None tt

  declare_goes : (l b u : Bool) (t : Scalar) (ds : List Declarator) (known : Scope) (ls : Shapes) (a : Around) → Here p known ls a → TypedDeclarators known t ds → AllPermitted p outer (declarator_sites ds a) → Goes (mode_of a) ls (ls ++ map (λ d. (d.name.text, t)) ds) (CompletionFits l b u) (declare p call t ds)
  declare_goes l b u t [] known ls a here h m = no_further (pure_goes Next tt)
  declare_goes l b u t (d ∷ ds) known ls a here h m =
      let x = d.name.text in
      let a' = with_names (x ∷ []) a in
      let known' = with_number x t known in
      let more = map (λ (d : Declarator). (d.name.text, t)) ds in
      let here' = here_more p known ls a x t here in
      let own = sites_if_any expr_sites d.first a' in
      on_goes locals_goes (λ mine e. then_goes (put_goes (mine ++ record { name = x; ty = t; word = 0 } ∷ []) (map-append shape mine (record { name = x; ty = t; word = 0 } ∷ []) ∙ ap (λ ms. ms ++ (x, t) ∷ []) e))
      (then_goes (first_goes known' (ls ++ (x, t) ∷ []) a' here' (length mine) t d.first h.0 (front_permitted own (declarator_sites ds a') m))
      (subst (λ ms. Goes (mode_of a) (ls ++ (x, t) ∷ []) ms (CompletionFits l b u) (declare p call t ds)) (append_assoc ls ((x, t) ∷ []) more)
      (declare_goes l b u t ds known' (ls ++ (x, t) ∷ []) a' here' h.1 (back_permitted own (declarator_sites ds a') m)))))

  start_goes : (l b u : Bool) (s : Start) (known : Scope) (ls : Shapes) (a : Around) → Here p known ls a → TypedStart known s → AllPermitted p outer (start_sites s a) → Goes (mode_of a) ls (ls ++ started_by s) (CompletionFits l b u) (start_with p call s)
  start_goes l b u Nothing known ls a here h m = no_further (pure_goes Next tt)
  start_goes l b u (Declares d) known ls a here h m = declare_goes l b u d.ty d.declarators known ls a here h m
  start_goes l b u (Does s) known ls a here h m = no_further (simple_goes known ls a here l b u s h m)

  mutual
    stmt_goes : (s : Stmt) (known : Scope) (ls : Shapes) (a : Around) (l : Bool) → Here p known ls a → TypedStmt s known l → AllPermitted p outer (stmt_sites s a) → Goes (mode_of a) ls (ls ++ declared_by s) (CompletionFits l a.atomic a.outer) (stmt p call s)
    stmt_goes Empty known ls a l here h m = no_further (then_goes tick_goes (pure_goes Next tt))
    stmt_goes (Declare d) known ls a l here h m = then_goes tick_goes (declare_goes l a.atomic a.outer d.ty d.declarators known ls a here h m)
    stmt_goes (Do s) known ls a l here h m = no_further (then_goes tick_goes (simple_goes known ls a here l a.atomic a.outer s h m))
    stmt_goes (Block ss) known ls a l here h m = no_further (then_goes tick_goes (scoped_goes (stmts_open ss known ls a l here h m)))
    stmt_goes (Print at format format_at es) known ls a l here h m =
        let may = may_print p (mode_of a) (one_permitted (record { construct = Prints; span = at; atomic = a.atomic; outer = a.outer; in_any = a.in_any }) (front_permitted (site a Prints at) (exprs_sites es a) m)).0 in
        no_further (then_goes tick_goes (then_goes (may_print_goes may) (on_goes (exprs_go known ls a here es h.0 (back_permitted (site a Prints at) (exprs_sites es a) m))
        (λ vs n. then_goes (pieces_go (pieces format) vs (same_count (length (specifiers (pieces format))) (count es) (length vs) h.1 n)) (pure_goes Next tt)))))
    stmt_goes (If c s) known ls a l here h m =
        no_further (then_goes tick_goes (on_goes (expr_goes known ls a here c h.0 (front_permitted (expr_sites c a) (stmt_sites s a) m))
        (λ v _. if_goes (is_zero v) (pure_goes Next tt) (scoped_goes (opened (declared_by s) (stmt_goes s known ls a l here h.1 (back_permitted (expr_sites c a) (stmt_sites s a) m)))))))
    stmt_goes (IfElse c s s') known ls a l here h m =
        let first = front_permitted (expr_sites c a ++ stmt_sites s a) (stmt_sites s' a) m in
        no_further (then_goes tick_goes (on_goes (expr_goes known ls a here c h.0 (front_permitted (expr_sites c a) (stmt_sites s a) first))
        (λ v _. if_goes (is_zero v) (scoped_goes (opened (declared_by s') (stmt_goes s' known ls a l here h.2 (back_permitted (expr_sites c a ++ stmt_sites s a) (stmt_sites s' a) m))))
        (scoped_goes (opened (declared_by s) (stmt_goes s known ls a l here h.1 (back_permitted (expr_sites c a) (stmt_sites s a) first)))))))
    stmt_goes (While c s) known ls a l here h m =
        no_further (then_goes tick_goes (loop_goes l a.atomic a.outer (on_goes (expr_goes known ls a here c h.0 (front_permitted (expr_sites c a) (stmt_sites s a) m))
        (λ v _. if_goes (is_zero v) (pure_goes (Some Next) tt) (on_goes (scoped_goes (opened (declared_by s) (stmt_goes s known ls a true here h.1 (back_permitted (expr_sites c a) (stmt_sites s a) m))))
        (after_body_goes l a.atomic a.outer (pure_goes None tt)))))))
    stmt_goes (DoWhile s c) known ls a l here h m =
        no_further (then_goes tick_goes (loop_goes l a.atomic a.outer (on_goes (scoped_goes (opened (declared_by s) (stmt_goes s known ls a true here h.0 (front_permitted (stmt_sites s a) (expr_sites c a) m))))
        (after_body_goes l a.atomic a.outer (on_goes (expr_goes known ls a here c h.1 (back_permitted (stmt_sites s a) (expr_sites c a) m)) (λ v _. tested_goes l a.atomic a.outer (is_zero v)))))))
    stmt_goes (For start c step s) known ls a l here h m =
        let a' = with_names (names_of_start start) a in
        let known' = scope_of_start start known in
        let begin = start_sites start a in
        let test = sites_if_any expr_sites c a' in
        let further = sites_if_any simple_sites step a' in
        let three = front_permitted (begin ++ test ++ further) (stmt_sites s a') m in
        let two = front_permitted (begin ++ test) further three in
        let here' = here_started p known ls a start here in
        no_further (then_goes tick_goes (scoped_goes (opened (started_by start) (then_goes (start_goes l a.atomic a.outer start known ls a here h.0 (front_permitted begin test two))
        (loop_goes l a.atomic a.outer (on_goes (holds_goes known' (ls ++ started_by start) a' here' c h.1 (back_permitted begin test two))
        (λ more _. if_goes more (on_goes (scoped_goes (opened (declared_by s) (stmt_goes s known' (ls ++ started_by start) a' true here' h.3 (back_permitted (begin ++ test ++ further) (stmt_sites s a') m))))
        (after_body_goes l a.atomic a.outer (stepped_goes known' (ls ++ started_by start) a' here' l a.atomic a.outer step h.2 (back_permitted (begin ++ test) further three)))) (pure_goes (Some Next) tt))))))))
    stmt_goes (Break at) known ls a l here h m = no_further (then_goes tick_goes (pure_goes Breaks h))
    stmt_goes (Continue at) known ls a l here h m = no_further (then_goes tick_goes (pure_goes Continues h))
    stmt_goes (Return e at) known ls a l here h m = no_further (then_goes tick_goes (on_goes (return_goes known ls a here e h m) (λ v _. pure_goes (Returns v) tt)))
    stmt_goes (Transaction (Plain Atomic) ss at) known ls a l here h m =
        let a' = in_transaction (Plain Atomic) a in
        no_further (then_goes tick_goes (transaction_goes l true a.atomic a.outer (Plain Atomic) (may_begin_atomic (mode_of a))
        (scoped_goes (stmts_open ss known ls a' l (record { fits = here.fits; named = here.named }) h (back_permitted [] (stmts_sites ss a') m)))))
    stmt_goes (Transaction (Plain Relaxed) ss at) known ls a l here h m =
        let a' = in_transaction (Plain Relaxed) a in
        let permit = (one_permitted (record { construct = Relaxes; span = at; atomic = a.atomic; outer = a.outer; in_any = a.in_any }) (front_permitted (site a Relaxes at) (stmts_sites ss a') m)).0 in
        no_further (then_goes tick_goes (transaction_goes l a.atomic a.atomic a.outer (Plain Relaxed) (may_begin_relaxed p (mode_of a) permit)
        (subst (λ w. Goes w ls ls (CompletionFits l a.atomic a.outer) (in_scope (stmts p call ss))) (relaxed_inside p outer a.atomic a.in_any permit)
        (scoped_goes (stmts_open ss known ls a' l (record { fits = here.fits; named = here.named }) h (back_permitted (site a Relaxes at) (stmts_sites ss a') m))))))
    stmt_goes (Transaction Outer ss at) known ls a l here h m =
        let a' = in_transaction Outer a in
        no_further (then_goes tick_goes (transaction_goes l true a.atomic a.outer Outer (may_begin_atomic (mode_of a))
        (scoped_goes (stmts_open ss known ls a' l (record { fits = here.fits; named = here.named }) h (back_permitted (site a OpensOuter at) (stmts_sites ss a') m)))))
    stmt_goes (Cancel at) known ls a l here h m =
        no_further (then_goes tick_goes (pure_goes Cancels ((one_permitted (record { construct = CancelConstruct; span = at; atomic = a.atomic; outer = a.outer; in_any = a.in_any }) m).1 refl)))
    stmt_goes (CancelOuter at) known ls a l here h m =
        no_further (then_goes tick_goes (pure_goes CancelsOuter ((one_permitted (record { construct = OuterCancelConstruct; span = at; atomic = a.atomic; outer = a.outer; in_any = a.in_any }) m).2 refl)))

    stmts_open : (ss : Stmts) (known : Scope) (ls : Shapes) (a : Around) (l : Bool) → Here p known ls a → TypedStmts ss known l → AllPermitted p outer (stmts_sites ss a) → Opens (mode_of a) ls (CompletionFits l a.atomic a.outer) (stmts p call ss)
    stmts_open Tree.[] known ls a l here h m = opened [] (no_further (pure_goes Next tt))
    stmts_open (Tree.◌∷◌ s ss) known ls a l here h m =
        let a' = with_names (names_of s) a in
        next_opens l a.atomic a.outer (declared_by s) (stmt_goes s known ls a l here h.0 (front_permitted (stmt_sites s a) (stmts_sites ss a') m))
        (stmts_open ss (scope_after s known) (ls ++ declared_by s) a' l (here_after p known ls a s here) h.1 (back_permitted (stmt_sites s a) (stmts_sites ss a') m))

-- a function that is called goes well: its body is typed, and all its sites are permitted
result_goes : {w : Option Mode} {ls : Shapes} (t : Option Scalar) (end : Completion) → CompletionFits false false false end → Goes w ls ls Any (result_of t end)
result_goes t Next h = pure_goes (value_in_type (unwrap_or t Int) (flag false)) tt
result_goes t Breaks h = absurd (cc)
result_goes t Continues h = absurd (cc)
result_goes t (Returns v) h = pure_goes (value_in_type (unwrap_or t Int) v) tt
result_goes t Cancels h = absurd (cc)
result_goes t CancelsOuter h = absurd (cc)

abbrev takes_of : Known → List Scalar
takes_of (Callable r ts) = ts
takes_of other = []

takes_as_many : (d : Function) (result : Option Scalar) (takes : List Scalar) (n : ℕ) → known_function d ≡ Callable result takes → n ≡ length takes → n ≡ length d.parameters
takes_as_many d result takes n e h = h ∙ ap (λ k. length (takes_of k)) (sym e) ∙ length-map d.parameters (λ q. q.ty)

module _ (p : Program) (accepted : IsAccepted p) where
  body_goes : (call : Caller) → CallsGo p call → (w : Option Mode) (x : List ℕ) (d : Function × Stmts) (vs : List Value) (mine : List Local) → definition_of p x ≡ Some d → call_locals d.0.parameters vs ≡ Some mine → Permits p w (Calls x) → (ms : Shapes) → map shape mine ≡ ms → Opens w ms (CompletionFits false false false) (stmts p call d.1)
  body_goes call called w x d vs mine e g h ms same =
      let typed = bodies_are_typed p accepted.typed x d e in
      let known = body_scope typed.earlier d.0 in
      let around : Around = record { locals = parameter_names d.0.parameters; atomic = false; outer = false; in_any = false } in
      stmts_open p call called w d.1 known ms around false
      (record {
        fits = subst (λ os. IsSubscope known (scope_in p os)) same (shape_agrees p known mine (typed.fits vs mine g));
        named = λ y k. subst (λ os. IsTrue (is_some (newest_in os y))) (sym (entered_shapes d.0.parameters vs mine g) ∙ same) (parameters_named d.0.parameters y k);
      })
      (stmts_parts d.0.result d.1 known (parameter_names d.0.parameters) false typed.body)
      (record { each = λ m c. (all_permitted p accepted w x h).each m (definition_sites p x d e m c) })

  invoke_goes : (call : Caller) → CallsGo p call → CallsGo p (invoke p call)
  invoke_goes call called w ls x vs result takes e n h =
      let there = called_are_defined p accepted.typed x result takes e in
      on_goes (there_goes (definition_of p x) (is_there (definition_of p x) there.0 there.1))
      (λ d f. on_goes (there_goes (call_locals d.0.parameters vs) (enters d (known_as d f there)))
      (λ mine g. on_goes locals_goes
      (λ outer k. then_goes (put_goes {ms = map shape mine} mine refl) (on_opens (body_goes call called w x d vs mine f g h (map shape mine) refl)
      (λ end i ms. then_goes (put_goes outer k) (result_goes d.0.result end i))))))
    where
      some_is : (a b : Function × Stmts) → Some a ≡ Some b → a ≡ b
      some_is a b e = ap (λ o. unwrap_or o a) e

      known_as : (d : Function × Stmts) → definition_of p x ≡ Some d → ((c : Function × Stmts) × (definition_of p x ≡ Some c) × (known_function c.0 ≡ Callable result takes)) → known_function d.0 ≡ Callable result takes
      known_as d f there = subst (λ c. known_function c.0 ≡ Callable result takes) (some_is there.0 d (sym there.1 ∙ f)) there.2

      enters : (d : Function × Stmts) → known_function d.0 ≡ Callable result takes → IsTrue (is_some (call_locals d.0.parameters vs))
      enters d k = let all = all_enter d.0.parameters vs (takes_as_many d.0 result takes (length vs) k n) in is_there (call_locals d.0.parameters vs) all.0 all.1

  calls_go : (k : ℕ) → CallsGo p (calls p k)
  calls_go zero w ls x vs result takes e n h = trap_goes Frames
  calls_go (suc k) w ls x vs result takes e n h = invoke_goes (calls p k) (calls_go k) w ls x vs result takes e n h

  worker_types : (k : Known) → IsTrue (is_worker k) → (result : Option Scalar) × (takes : List Scalar) × (k ≡ Callable result takes) × (1 ≡ length takes)
  worker_types (Callable None (t ∷ [])) h = (None, t ∷ [], refl, refl)
  worker_types (Callable None (Int ∷ s ∷ ts)) h = absurd (cc)
  worker_types k h = absurd (cc)

  worker_goes : (t : ℕ) → Goes None [] [] Any (worker_run p t)
  worker_goes t =
      let worker = worker_types (file_scope p (codes "worker")) (worker_known p accepted.typed) in
      then_goes (invoke_goes (calls p 63) (calls_go 63) None [] (codes "worker") (record { ty = Unsigned; word = t } ∷ []) worker.0 worker.1 worker.2 worker.3 (worker_permitted p accepted)) tick_goes

not_astray : (r : Answer (Unit {0})) → Fine None [] Any r → (outcome_of r).end ≢ Stopped Astray
not_astray (Stops Astray s) h e = h
not_astray r h e = cc

pub never_astray : NeverAstray
never_astray p accepted t founds n = not_astray (worker_run p t (first_state founds n)) ((worker_goes p accepted t).goes (first_state founds n) refl refl)
