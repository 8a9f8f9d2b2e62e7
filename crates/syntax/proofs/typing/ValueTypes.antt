-- In a typed program an expression's value has the expression's type.
use Rattle.std.proofs.Common.{◌≡◌, ℕ, zero, suc, ◌+◌, ◌⊎◌, inl, inr, refl, sym, ap, subst, ◌∙◌, List, [], ◌∷◌, ◌++◌, append_assoc, Option, Some, None, Bool, true, false, not, IsTrue, Result, Ok, Err}
use Rattle.std.specs.Prelude.{if◌then◌else◌, bytes_eq, option_map, unwrap_or, nat_lt, ◌&&◌, ◌||◌, is_none, codes}
use Rattle.std.proofs.lemmas.Slice.Eq.{bytes_eq-Decides}
use Rattle.lex.specs.declared.token.Span.{Span}
use Rattle.lex.specs.declared.token.Span.{Span}
use Rattle.lex.specs.declared.token.Scalar.{Scalar}
use Rattle.lex.specs.declared.token.Scalar.TheVariants.{Int, Unsigned, LongLong}
use Rattle.syntax.specs.declared.tree.UnaryOp.{UnaryOp}
use Rattle.syntax.specs.declared.tree.UnaryOp.TheVariants.{Negate, Keep, Not, Complement}
use Rattle.syntax.specs.declared.tree.BinaryOp.{BinaryOp}
use Rattle.syntax.specs.declared.tree.BinaryOp.TheVariants.{Or, Xor, And, Equal, NotEqual, Less, Greater, LessEqual, GreaterEqual, ShiftLeft, ShiftRight, Add, Subtract, Multiply, Divide, Remainder}
use Rattle.syntax.specs.declared.tree.LogicalOp.TheVariants.{AndThen, OrElse}
use Rattle.syntax.specs.declared.thread_end.Trap.{Trap}
use Rattle.syntax.specs.declared.thread_end.Trap.TheVariants.{Index, Frames}
use Rattle.syntax.specs.declared.thread_end.Halt.TheVariants.{Trapped}
use Rattle.syntax.specs.declared.value.Value.{Value}
use Rattle.syntax.specs.Tree.{Expr, Variable, Constant, Element, Call, Parenthesized, Cast, Unary, Binary, Logical, Conditional, InTransaction, Function, Global, Item, Defines, Shares, Stmts, Program}
use Rattle.syntax.specs.Numbers.{common, value_in_type, result_type, operand_type, typed_result, unary, binary, is_zero, flag}
use Rattle.syntax.specs.Names.{Local, GlobalCells, globals, cells, global_from, global_of, definition_or, definition_of, newest}
use Rattle.syntax.specs.Types.{Known, Unknown, Number, Array, Callable, known_global, known_function, known_among, file_scope, number_type, element_type, call_type, Scope, common_of, unary_type, binary_type, type_of, running_scope}
use Rattle.syntax.specs.Typing.{same_type, same_result, agrees, may_be_function, has_name, defined_names, is_worker, demand, AreDistinct, IsTypedBody, IsTypedFunction, IsTypedItem, AreTypedItems, AreDefined, IsTypedProgram}
use Rattle.syntax.proofs.typing.Demands.{AreMet, met_before, met_behind, is_met}
use Rattle.syntax.specs.Actions.{Context, Outside, Inside, State, Answer, Gives, Stops, Action, pure, stop, go_on, ◌>>=◌, ◌>>◌, spend, tick, trap, or_trap, or_astray, locals, put_locals, load_at}
use Rattle.syntax.specs.Meaning.{Lvalue, InLocal, InCell, fetch, Completion, Next, Breaks, Continues, Returns, Cancels, CancelsOuter, lvalue_from, element, expr, exprs, stmts, call_locals, result_of, Caller, calls}
use Rattle.syntax.specs.Laws.{WhereGiven, GivesItsType}
use Rattle.syntax.proofs.locals.Expressions.{expr_holds, calls_holds, value_transaction_gives}

some_same : (s t : Scalar) → Some s ≡ Some t → s ≡ t
some_same s t e = ap (λ o. unwrap_or o s) e

none_some : {A : Type 0} (t : Scalar) → None ≡ Some t → A
none_some t e = absurd (cc)

-- what a name shares: the type of a variable or of an array's elements
abbrev pub shared_type : Known → Option Scalar
shared_type (Number t) = Some t
shared_type (Array t n) = Some t
shared_type (Callable r ts) = None
shared_type Unknown = None

number_shared : (k : Known) (t : Scalar) → number_type k ≡ Some t → shared_type k ≡ Some t
number_shared (Number s) t e = e
number_shared (Array s n) t e = none_some t e
number_shared (Callable r ts) t e = none_some t e
number_shared Unknown t e = none_some t e

element_shared : (k : Known) (t : Scalar) → element_type k ≡ Some t → shared_type k ≡ Some t
element_shared (Number s) t e = none_some t e
element_shared (Array s n) t e = e
element_shared (Callable r ts) t e = none_some t e
element_shared Unknown t e = none_some t e

-- a name that the file knows as shared is a global of that type
abbrev pub Found : Option GlobalCells → Scalar → Type 0
Found o t = (g : GlobalCells) × (o ≡ Some g) × (g.global.ty ≡ t)

either : (b : Bool) (k k' : Known) (o o' : Option GlobalCells) (t : Scalar) → (shared_type k ≡ Some t → Found o t) → (shared_type k' ≡ Some t → Found o' t) → shared_type (if b then k else k') ≡ Some t → Found (if b then o else o') t
either true k k' o o' t g h e = g e
either false k k' o o' t g h e = h e

other : (b : Bool) (f : Function) (k : Known) (o : Option GlobalCells) (t : Scalar) → (shared_type k ≡ Some t → Found o t) → shared_type (if b then known_function f else k) ≡ Some t → Found o t
other true f k o t h e = none_some t e
other false f k o t h e = h e

global_type : (ty : Scalar) (length : Option (ℕ × Span)) (t : Scalar) → shared_type (unwrap_or (option_map (λ n. Array ty n.0) length) (Number ty)) ≡ Some t → ty ≡ t
global_type ty None t e = some_same ty t e
global_type ty (Some n) t e = some_same ty t e

among : (rest : Scope) (gs more : List Global) (c : ℕ) (x : List ℕ) (t : Scalar) → ((c : ℕ) → shared_type (rest x) ≡ Some t → Found (global_from c more x) t) → shared_type (known_among gs rest x) ≡ Some t → Found (global_from c (gs ++ more) x) t
among rest [] more c x t h e = h c e
among rest (g ∷ gs) more c x t h e =
    either (bytes_eq g.name.text x) (known_global g) (known_among gs rest x) (Some (record { global = g; cell = c })) (global_from (c + cells g) (gs ++ more) x) t
    (λ f. (record { global = g; cell = c }, refl, global_type g.ty g.length t f))
    (λ f. among rest gs more (c + cells g) x t h f) e

found_from : (items : List Item) (c : ℕ) (x : List ℕ) (t : Scalar) → shared_type (file_scope items x) ≡ Some t → Found (global_from c (globals items) x) t
found_from [] c x t e = none_some t e
found_from (Defines f ∷ items) c x t e = other (bytes_eq f.name.text x) f (file_scope items x) (global_from c (globals items) x) t (λ h. found_from items c x t h) e
found_from (Shares gs ∷ items) c x t e = among (file_scope items) gs (globals items) c x t (λ d h. found_from items d x t h) e

pub found : (p : Program) (x : List ℕ) (t : Scalar) → shared_type (file_scope p x) ≡ Some t → Found (global_of p x) t
found p x t e = found_from p 0 x t e

-- where something is given, this holds of it
abbrev HasType : Option Scalar → Value → Type 0
HasType o v = (t : Scalar) → o ≡ Some t → v.ty ≡ t

abbrev GivesType : Option Scalar → Answer Value → Type 0
GivesType o r = WhereGiven r (λ v now. HasType o v)

on_any : {A : Type 0} (o : Option Scalar) (r : Answer A) (rest : A → Action Value) → ((a : A) (u : State) → GivesType o (rest a u)) → GivesType o (go_on r rest)
on_any o (Gives a u) rest h = h a u
on_any o (Stops why u) rest h = tt

on_typed : (o o' : Option Scalar) (r : Answer Value) (rest : Value → Action Value) → GivesType o r → ((v : Value) (u : State) → HasType o v → GivesType o' (rest v u)) → GivesType o' (go_on r rest)
on_typed o o' (Gives v u) rest g h = h v u g
on_typed o o' (Stops why u) rest g h = tt

trapped : (o : Option Scalar) (k : Trap) (n : ℕ) (s : State) → GivesType o (go_on (spend n s) (λ _. stop (Trapped k)))
trapped o k zero s = tt
trapped o k (suc n) s = tt

trap_typed : (o : Option Scalar) (k : Trap) (s : State) → GivesType o (trap k s)
trap_typed o k s = trapped o k s.ticks s

-- an operator's result as a value of type t
result_typed : (o : Option Scalar) (t : Scalar) (r : Result ℕ Trap) (s : State) → ((v : Value) → v.ty ≡ t → HasType o v) → GivesType o (or_trap (typed_result t r) s)
result_typed o t (Ok w) s h = h (record { ty = t; word = w }) refl
result_typed o t (Err k) s h = trap_typed o k s

unary_typed : (op : UnaryOp) (o : Option Scalar) (v : Value) (s : State) → HasType o v → GivesType (unary_type op o) (or_trap (unary op v) s)
unary_typed Negate o v s h = result_typed o v.ty _ s (λ w e t f. e ∙ h t f)
unary_typed Keep o v s h = h
unary_typed Not o v s h = λ t f. some_same Int t f
unary_typed Complement o v s h = h

common_typed : (to : Scalar → Scalar) (o o' : Option Scalar) (v w : Value) → HasType o v → HasType o' w → (t : Scalar) → option_map to (common_of o o') ≡ Some t → to (common v.ty w.ty) ≡ t
common_typed to (Some a) (Some b) v w g h t e =
    let x : v.ty ≡ a = g a refl in
    let y : w.ty ≡ b = h b refl in
    ap (λ i. to (common i w.ty)) x ∙ ap (λ i. to (common a i)) y ∙ some_same (to (common a b)) t e
common_typed to (Some a) None v w g h t e = none_some t e
common_typed to None o' v w g h t e = none_some t e

operator_typed : (op : BinaryOp) (o o' : Option Scalar) (v w : Value) → HasType o v → HasType o' w → (t : Scalar) → binary_type op o o' ≡ Some t → result_type op (operand_type op v.ty w.ty) ≡ t
operator_typed ShiftLeft o o' v w g h t e = g t e
operator_typed ShiftRight o o' v w g h t e = g t e
operator_typed Or o o' v w g h t e = common_typed (result_type Or) o o' v w g h t e
operator_typed Xor o o' v w g h t e = common_typed (result_type Xor) o o' v w g h t e
operator_typed And o o' v w g h t e = common_typed (result_type And) o o' v w g h t e
operator_typed Equal o o' v w g h t e = common_typed (result_type Equal) o o' v w g h t e
operator_typed NotEqual o o' v w g h t e = common_typed (result_type NotEqual) o o' v w g h t e
operator_typed Less o o' v w g h t e = common_typed (result_type Less) o o' v w g h t e
operator_typed Greater o o' v w g h t e = common_typed (result_type Greater) o o' v w g h t e
operator_typed LessEqual o o' v w g h t e = common_typed (result_type LessEqual) o o' v w g h t e
operator_typed GreaterEqual o o' v w g h t e = common_typed (result_type GreaterEqual) o o' v w g h t e
operator_typed Add o o' v w g h t e = common_typed (result_type Add) o o' v w g h t e
operator_typed Subtract o o' v w g h t e = common_typed (result_type Subtract) o o' v w g h t e
operator_typed Multiply o o' v w g h t e = common_typed (result_type Multiply) o o' v w g h t e
operator_typed Divide o o' v w g h t e = common_typed (result_type Divide) o o' v w g h t e
operator_typed Remainder o o' v w g h t e = common_typed (result_type Remainder) o o' v w g h t e

binary_typed : (op : BinaryOp) (o o' : Option Scalar) (v w : Value) (s : State) → HasType o v → HasType o' w → GivesType (binary_type op o o') (or_trap (binary op v w) s)
binary_typed op o o' v w s g h = result_typed (binary_type op o o') (result_type op (operand_type op v.ty w.ty)) _ s (λ x e t f. e ∙ operator_typed op o o' v w g h t f)

-- where a name's value stands
fetched : (o : Option Scalar) (c : ℕ) (t : Scalar) (p : Context) (s : State) → HasType o (record { ty = t; word = 0 }) → GivesType o (go_on (load_at p c s) (λ w. pure (record { ty = t; word = w })))
fetched o c t (Outside f l) s h = tt
fetched o c t (Inside mode m) s h = h

abbrev in_scope : Program → Option (ℕ × Scalar) → List ℕ → Known
in_scope p o x = unwrap_or (option_map (λ l. Number l.1) o) (file_scope p x)

module _ (p : Program) where
  -- a name that is typed as a number or an element is a global of that type
  global_has : (x : List ℕ) (o : Option Scalar) → ((t : Scalar) → o ≡ Some t → shared_type (file_scope p x) ≡ Some t) → (c : GlobalCells) → global_of p x ≡ Some c → HasType o (record { ty = c.global.ty; word = 0 })
  global_has x o shared c e t f =
      let here : Found (global_of p x) t = found p x t (shared t f) in
      let same : here.0 ≡ c = some_global here.0 c (sym here.1 ∙ e) in
      ap (λ d. d.global.ty) (sym same) ∙ here.2
    where
      some_global : (a b : GlobalCells) → Some a ≡ Some b → a ≡ b
      some_global a b e = ap (λ o. unwrap_or o a) e

  -- a variable: the newest local of its name, else a global
  variable_typed : (call : Caller) (x : List ℕ) (l : Option (ℕ × Scalar)) (s : State) → GivesType (number_type (in_scope p l x)) (go_on (lvalue_from p call x l s) fetch)
  variable_typed call x (Some l) s = λ t f. some_same l.1 t f
  variable_typed call x None s =
      let o = number_type (file_scope p x) in
      known_global_typed o (global_of p x) (global_has x o (λ t f. number_shared (file_scope p x) t f))
    where
      known_global_typed : (o : Option Scalar) (g : Option GlobalCells) → ((c : GlobalCells) → g ≡ Some c → HasType o (record { ty = c.global.ty; word = 0 })) → GivesType o (go_on (go_on (or_astray g s) (λ c. pure (InCell c.cell c.global.ty))) fetch)
      known_global_typed o (Some c) h = fetched o c.cell c.global.ty s.context s (h c refl)
      known_global_typed o None h = tt

  element_typed : (call : Caller) (x : List ℕ) (k : Value) (l : Option (ℕ × Scalar)) (s : State) → GivesType (element_type (in_scope p l x)) (go_on (element p call x k s) fetch)
  element_typed call x k (Some l) s = on_any None (element p call x k s) fetch (λ at u. fetch_none at u)
    where
      fetch_none : (at : Lvalue) (u : State) → GivesType None (fetch at u)
      fetch_none (InLocal i t) u = λ t f. none_some t f
      fetch_none (InCell c t) u = fetched None c t u.context u (λ t f. none_some t f)
  element_typed call x k None s =
      let o = element_type (file_scope p x) in
      known_global_typed o (global_of p x) (global_has x o (λ t f. element_shared (file_scope p x) t f))
    where
      tested : (o : Option Scalar) (b : Bool) (at : ℕ) (t : Scalar) → HasType o (record { ty = t; word = 0 }) → GivesType o (go_on ((if b then pure (InCell at t) else trap Index) s) fetch)
      tested o true at t h = fetched o at t s.context s h
      tested o false at t h = untrapped o s.ticks
        where
          untrapped : (o : Option Scalar) (n : ℕ) → GivesType o (go_on (go_on (spend n s) (λ _. stop {A = Lvalue} (Trapped Index))) fetch)
          untrapped o zero = tt
          untrapped o (suc n) = tt

      known_global_typed : (o : Option Scalar) (g : Option GlobalCells) → ((c : GlobalCells) → g ≡ Some c → HasType o (record { ty = c.global.ty; word = 0 })) → GivesType o (go_on (go_on (or_astray g s) (λ c. if nat_lt k.word (cells c.global) then pure (InCell (c.cell + k.word) c.global.ty) else trap Index)) fetch)
      known_global_typed o (Some c) h = tested o (nat_lt k.word (cells c.global)) (c.cell + k.word) c.global.ty (h c refl)
      known_global_typed o None h = tt

-- what the file knows after some items: what they make known, else what the others do
abbrev pub or_known : Known → Known → Known
or_known Unknown k = k
or_known (Number t) k = Number t
or_known (Array t n) k = Array t n
or_known (Callable r ts) k = Callable r ts

if_or_known : (b : Bool) (k k' last : Known) (whole : Known) → or_known k last ≡ k → whole ≡ or_known k' last → (if b then k else whole) ≡ or_known (if b then k else k') last
if_or_known true k k' last whole e f = sym e
if_or_known false k k' last whole e f = f

global_known : (ty : Scalar) (length : Option (ℕ × Span)) (last : Known) → or_known (unwrap_or (option_map (λ n. Array ty n.0) length) (Number ty)) last ≡ unwrap_or (option_map (λ n. Array ty n.0) length) (Number ty)
global_known ty None last = refl
global_known ty (Some n) last = refl

pub among_known : (gs : List Global) (rest whole : Scope) (x : List ℕ) (last : Known) → whole x ≡ or_known (rest x) last → known_among gs whole x ≡ or_known (known_among gs rest x) last
among_known [] rest whole x last e = e
among_known (g ∷ gs) rest whole x last e = if_or_known (bytes_eq g.name.text x) (known_global g) (known_among gs rest x) last (known_among gs whole x) (global_known g.ty g.length last) (among_known gs rest whole x last e)

pub scope_append : (earlier items : List Item) (x : List ℕ) → file_scope (earlier ++ items) x ≡ or_known (file_scope earlier x) (file_scope items x)
scope_append [] items x = refl
scope_append (Defines f ∷ earlier) items x = if_or_known (bytes_eq f.name.text x) (known_function f) (file_scope earlier x) (file_scope items x) (file_scope (earlier ++ items) x) refl (scope_append earlier items x)
scope_append (Shares gs ∷ earlier) items x = among_known gs (file_scope earlier) (file_scope (earlier ++ items)) x (file_scope items x) (scope_append earlier items x)

pub same_type_is : (s t : Scalar) → IsTrue (same_type s t) → s ≡ t
same_type_is Int Int h = refl
same_type_is Unsigned Unsigned h = refl
same_type_is LongLong LongLong h = refl
same_type_is s t h = absurd (cc)

pub same_result_is : (r : Option Scalar) (t : Scalar) → IsTrue (same_result (Some t) r) → r ≡ Some t
same_result_is None t h = absurd (cc)
same_result_is (Some s) t h = ap Some (same_type_is s t h)

pub both_true : (a b : Bool) → IsTrue (a && b) → IsTrue a
both_true true b h = refl
both_true false b h = absurd (cc)

-- a definition gives what its name is known to give
agreeing : (g : Function) (k : Known) (t : Scalar) → IsTrue (agrees g k) → call_type (or_known k (known_function g)) ≡ Some t → g.result ≡ Some t
agreeing g Unknown t h e = e
agreeing g (Number s) t h e = none_some t e
agreeing g (Array s n) t h e = none_some t e
agreeing g (Callable None ts) t h e = none_some t e
agreeing g (Callable (Some s) ts) t h e = same_result_is g.result s (both_true _ _ h) ∙ e

defined_is : (g : Function) (f : List ℕ) (body : Option Stmts) (rest : Option (Function × Stmts)) (d : Function × Stmts) → definition_or g f body rest ≡ Some d → (rest ≡ Some d) ⊎ ((bytes_eq g.name.text f ≡ true) × (d.0 ≡ g))
defined_is g f None rest d e = inl e
defined_is g f (Some b) rest d e = by_name (bytes_eq g.name.text f) refl e
  where
    pair_same : (x y : Function × Stmts) → Some x ≡ Some y → x ≡ y
    pair_same x y e = ap (λ o. unwrap_or o x) e

    by_name : (same : Bool) → bytes_eq g.name.text f ≡ same → (if same then Some (g, b) else rest) ≡ Some d → (rest ≡ Some d) ⊎ ((bytes_eq g.name.text f ≡ true) × (d.0 ≡ g))
    by_name true h e = inr (h, ap (λ x. x.0) (sym (pair_same (g, b) d e)))
    by_name false h e = inl e

-- what is met of items is met of the first and of the others
pub rest_met : (earlier : List Item) (i : Item) (items : List Item) → AreMet (AreTypedItems earlier (i ∷ items)) → AreMet (AreTypedItems (earlier ++ i ∷ []) items)
rest_met earlier i items h = met_behind (IsTypedItem earlier i) (AreTypedItems (earlier ++ i ∷ []) items) h

pub agrees_before : (earlier items : List Item) (f : Function) → AreMet (AreTypedItems earlier (Defines f ∷ items)) → IsTrue (agrees f (file_scope earlier f.name.text))
agrees_before earlier items f h =
    let name = demand 21 f.name.span (may_be_function (file_scope earlier f.name.text) && (is_none f.body || not (has_name (defined_names earlier) f.name.text))) in
    let type = demand 22 f.name.span (agrees f (file_scope earlier f.name.text)) in
    let own : AreMet (IsTypedFunction earlier f) = met_before (IsTypedFunction earlier f) (AreTypedItems (earlier ++ Defines f ∷ []) items) h in
    let both : AreMet (name ++ type) = met_before (name ++ type) (AreDistinct [] f.parameters) (met_before (name ++ type ++ AreDistinct [] f.parameters) (IsTypedBody earlier f f.body) own) in
    is_met 22 f.name.span (agrees f (file_scope earlier f.name.text)) (met_behind name type both)

agreed_from : (earlier items : List Item) (f : List ℕ) (t : Scalar) (d : Function × Stmts) → AreMet (AreTypedItems earlier items) → call_type (file_scope (earlier ++ items) f) ≡ Some t → definition_of items f ≡ Some d → d.0.result ≡ Some t
agreed_from earlier [] f t d h e g = absurd (cc)
agreed_from earlier (Shares gs ∷ items) f t d h e g = agreed_from (earlier ++ Shares gs ∷ []) items f t d (rest_met earlier (Shares gs) items h) (ap (λ x. call_type (file_scope x f)) (append_assoc earlier (Shares gs ∷ []) items) ∙ e) g
agreed_from earlier (Defines c ∷ items) f t d h e g =
    split (defined_is c f c.body (definition_of items f) d g) (λ rest. agreed_from (earlier ++ Defines c ∷ []) items f t d (rest_met earlier (Defines c) items h) (ap (λ x. call_type (file_scope x f)) (append_assoc earlier (Defines c ∷ []) items) ∙ e) rest)
  where
    split : (definition_of items f ≡ Some d) ⊎ ((bytes_eq c.name.text f ≡ true) × (d.0 ≡ c)) → (definition_of items f ≡ Some d → d.0.result ≡ Some t) → d.0.result ≡ Some t
    split (inl rest) later = later rest
    split (inr here) later =
        let name : c.name.text ≡ f = (bytes_eq-Decides c.name.text f).0 here.0 in
        let last : file_scope (Defines c ∷ items) f ≡ known_function c = ap (λ b. if b then known_function c else file_scope items f) here.0 in
        let all : call_type (or_known (file_scope earlier f) (known_function c)) ≡ Some t = ap (λ k. call_type (or_known (file_scope earlier f) k)) (sym last) ∙ ap call_type (sym (scope_append earlier (Defines c ∷ items) f)) ∙ e in
        let agree : IsTrue (agrees c (file_scope earlier f)) = subst (λ x. IsTrue (agrees c (file_scope earlier x))) name (agrees_before earlier items c h) in
        ap (λ x. x.result) here.1 ∙ agreeing c (file_scope earlier f) t agree all

agreed : (p : Program) (f : List ℕ) (t : Scalar) (d : Function × Stmts) → IsTypedProgram p → call_type (file_scope p f) ≡ Some t → definition_of p f ≡ Some d → d.0.result ≡ Some t
agreed p f t d h e g =
    let worker = demand 28 (record { start = 0; end = 0 }) (is_worker (file_scope p (codes "worker"))) in
    agreed_from [] p f t d (met_before (AreTypedItems [] p) (AreDefined p [] p) (met_before (AreTypedItems [] p ++ AreDefined p [] p) worker h)) e g

-- a call's value has the type that the function gives
returned_typed : (o result : Option Scalar) → ((t : Scalar) → o ≡ Some t → result ≡ Some t) → (outer : List Local) (r : Answer Completion) → GivesType o (go_on r (λ end. put_locals outer >> result_of result end))
returned_typed o result h outer (Gives Next now) = λ t e. ap (λ x. unwrap_or x Int) (h t e)
returned_typed o result h outer (Gives (Returns v) now) = λ t e. ap (λ x. unwrap_or x Int) (h t e)
returned_typed o result h outer (Gives Breaks now) = tt
returned_typed o result h outer (Gives Continues now) = tt
returned_typed o result h outer (Gives Cancels now) = tt
returned_typed o result h outer (Gives CancelsOuter now) = tt
returned_typed o result h outer (Stops why now) = tt

module _ (p : Program) (checked : IsTypedProgram p) where
  body_typed : (call : Caller) (o : Option Scalar) (d : Function × Stmts) (vs : List Value) (s : State) → ((t : Scalar) → o ≡ Some t → d.0.result ≡ Some t) → (mine : Option (List Local)) → GivesType o (go_on (or_astray mine s) (λ ls. locals >>= λ outer. put_locals ls >> (stmts p call d.1 >>= λ end. put_locals outer >> result_of d.0.result end)))
  body_typed call o d vs s h (Some ls) = returned_typed o d.0.result h s.locals (stmts p call d.1 (record s { locals = ls }))
  body_typed call o d vs s h None = tt

  invoke_typed : (call : Caller) (f : List ℕ) (vs : List Value) (s : State) → (d : Option (Function × Stmts)) → definition_of p f ≡ d → GivesType (call_type (file_scope p f)) (go_on (or_astray d s) (λ c. or_astray (call_locals c.0.parameters vs) >>= λ ls. locals >>= λ outer. put_locals ls >> (stmts p call c.1 >>= λ end. put_locals outer >> result_of c.0.result end)))
  invoke_typed call f vs s (Some d) e = body_typed call (call_type (file_scope p f)) d vs s (λ t g. agreed p f t d checked g e) (call_locals d.0.parameters vs)
  invoke_typed call f vs s None e = tt

  called_typed : (n : ℕ) (f : List ℕ) (vs : List Value) (s : State) → GivesType (call_type (file_scope p f)) (calls p n f vs s)
  called_typed zero f vs s = trap_typed (call_type (file_scope p f)) Frames s
  called_typed (suc n) f vs s = invoke_typed (calls p n) f vs s (definition_of p f) refl

  -- a local hides a function, and gives no type to a call
  call_typed : (n : ℕ) (f : List ℕ) (vs : List Value) (l : Option (ℕ × Scalar)) (s : State) → GivesType (call_type (in_scope p l f)) (calls p n f vs s)
  call_typed n f vs (Some l) s = no_type (calls p n f vs s)
    where
      no_type : (r : Answer Value) → GivesType None r
      no_type (Gives v u) = λ t e. none_some t e
      no_type (Stops why u) = tt
  call_typed n f vs None s = called_typed n f vs s

  ticked : (o : Option Scalar) (k : ℕ) (rest : Action Value) (s : State) → ((u : State) → u.locals ≡ s.locals → GivesType o (rest u)) → GivesType o (go_on (spend k s) (λ _. rest))
  ticked o zero rest s h = tt
  ticked o (suc k) rest s h = h (record s { ticks = k }) refl

  converted_typed : (o o' : Option Scalar) (w : Value) (s : State) → o' ≡ o → GivesType o (go_on (or_astray o' s) (λ t. pure (value_in_type t w)))
  converted_typed o (Some t) w s e = λ t' f. some_same t t' (e ∙ f)
  converted_typed o None w s e = tt

  -- a rest that begins with the same locals
  on_locals : {A : Type 0} (ls : List Local) (o : Option Scalar) (r : Answer A) (rest : A → Action Value) → WhereGiven r (λ a now. now.locals ≡ ls) → ((a : A) (u : State) → u.locals ≡ ls → GivesType o (rest a u)) → GivesType o (go_on r rest)
  on_locals ls o (Gives a u) rest e h = h a u e
  on_locals ls o (Stops why u) rest e h = tt

  on_both : (ls : List Local) (o o' : Option Scalar) (r : Answer Value) (rest : Value → Action Value) → GivesType o r → WhereGiven r (λ a now. now.locals ≡ ls) → ((v : Value) (u : State) → HasType o v → u.locals ≡ ls → GivesType o' (rest v u)) → GivesType o' (go_on r rest)
  on_both ls o o' (Gives v u) rest g e h = h v u g e
  on_both ls o o' (Stops why u) rest g e h = tt

  module _ (n : ℕ) where
    abbrev type_at : List Local → Expr → Option Scalar
    type_at ls e = type_of (running_scope p ls) e

    abbrev at_locals : (e : Expr) (s : State) → WhereGiven (expr p (calls p n) e s) (λ v now. now.locals ≡ s.locals)
    at_locals e s = (expr_holds p (calls p n) (calls_holds p n) e).leaves s

    branch_locals : (b : Bool) (x y : Expr) (s : State) → WhereGiven ((if b then expr p (calls p n) x else expr p (calls p n) y) s) (λ v now. now.locals ≡ s.locals)
    branch_locals true x y s = at_locals x s
    branch_locals false x y s = at_locals y s

    expr_typed : (e : Expr) (s : State) → GivesType (type_at s.locals e) (expr p (calls p n) e s)
    expr_typed (Variable x) s = variable_typed p (calls p n) x.text (newest s.locals x.text) s
    expr_typed (Constant k t at) s = λ i f. some_same t i f
    expr_typed (Element x i at) s =
        on_locals s.locals (type_at s.locals (Element x i at)) (expr p (calls p n) i s) (λ k. element p (calls p n) x.text k >>= fetch) (at_locals i s)
        (λ k u e. element_typed p (calls p n) x.text k (newest s.locals x.text) u)
    expr_typed (Call f es at) s =
        on_any (type_at s.locals (Call f es at)) (exprs p (calls p n) es s) (λ vs. tick >> calls p n f.text vs)
        (λ vs u. ticked (type_at s.locals (Call f es at)) u.ticks (calls p n f.text vs) u (λ w e. call_typed n f.text vs (newest s.locals f.text) w))
    expr_typed (Parenthesized e at) s = expr_typed e s
    expr_typed (Cast t e at) s = on_any (Some t) (expr p (calls p n) e s) (λ v. pure (value_in_type t v)) (λ v u i f. some_same t i f)
    expr_typed (Unary op e at) s =
        on_typed (type_at s.locals e) (type_at s.locals (Unary op e at)) (expr p (calls p n) e s) (λ v. or_trap (unary op v)) (expr_typed e s)
        (λ v u h. unary_typed op (type_at s.locals e) v u h)
    expr_typed (Binary op a b at) s =
        on_both s.locals (type_at s.locals a) (type_at s.locals (Binary op a b at)) (expr p (calls p n) a s) (λ v. expr p (calls p n) b >>= λ w. or_trap (binary op v w)) (expr_typed a s) (at_locals a s)
        (λ v u g e. on_typed (type_at s.locals b) (type_at s.locals (Binary op a b at)) (expr p (calls p n) b u) (λ w. or_trap (binary op v w)) (subst (λ ls. GivesType (type_at ls b) (expr p (calls p n) b u)) e (expr_typed b u))
        (λ w x h. binary_typed op (type_at s.locals a) (type_at s.locals b) v w x g h))
    expr_typed (Logical AndThen a b at) s =
        on_any (Some Int) (expr p (calls p n) a s) (λ v. (if is_zero v then pure v else expr p (calls p n) b) >>= λ w. pure (flag (not (is_zero w))))
        (λ v u. on_any (Some Int) ((if is_zero v then pure v else expr p (calls p n) b) u) (λ w. pure (flag (not (is_zero w)))) (λ w x i f. some_same Int i f))
    expr_typed (Logical OrElse a b at) s =
        on_any (Some Int) (expr p (calls p n) a s) (λ v. (if is_zero v then expr p (calls p n) b else pure v) >>= λ w. pure (flag (not (is_zero w))))
        (λ v u. on_any (Some Int) ((if is_zero v then expr p (calls p n) b else pure v) u) (λ w. pure (flag (not (is_zero w)))) (λ w x i f. some_same Int i f))
    expr_typed (Conditional c a b at) s =
        let o = type_at s.locals (Conditional c a b at) in
        on_locals s.locals o (expr p (calls p n) c s) (λ v. (if is_zero v then expr p (calls p n) b else expr p (calls p n) a) >>= λ w. locals >>= λ mine. or_astray (type_at mine (Conditional c a b at)) >>= λ t. pure (value_in_type t w)) (at_locals c s)
        (λ v u e. on_locals u.locals o ((if is_zero v then expr p (calls p n) b else expr p (calls p n) a) u) (λ w. locals >>= λ mine. or_astray (type_at mine (Conditional c a b at)) >>= λ t. pure (value_in_type t w)) (branch_locals (is_zero v) b a u)
        (λ w x f. converted_typed o (type_at x.locals (Conditional c a b at)) w x (ap (λ ls. type_at ls (Conditional c a b at)) (f ∙ e))))
    expr_typed (InTransaction mode keyword e at) s =
        let o = type_at s.locals e in
        value_transaction_gives (λ v ls. HasType o v) s.locals (expr p (calls p n) e) (λ t same. subst (λ ls. GivesType (type_at ls e) (expr p (calls p n) e t)) same (expr_typed e t)) mode s refl

given_is : (o : Option Scalar) (t : Scalar) → o ≡ Some t → (r : Answer Value) → GivesType o r → WhereGiven r (λ v now. v.ty ≡ t)
given_is o t e (Gives v u) h = h t e
given_is o t e (Stops why u) h = tt

pub gives_its_type : GivesItsType
gives_its_type p checked frames e s t h = given_is (type_of (running_scope p s.locals) e) t h (expr p (calls p frames) e s) (expr_typed p checked frames e s)
