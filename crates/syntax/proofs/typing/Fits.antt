-- What is known as a program runs, and what is known where its parts are typed.
use Rattle.std.proofs.Common.{◌≡◌, refl, sym, ap, subst, ◌∙◌, ℕ, ◌+◌, List, [], ◌∷◌, ◌++◌, append-nil, append_assoc, map, Option, Some, None, Bool, true, false, not, IsTrue}
use Rattle.std.specs.Prelude.{if◌then◌else◌, bytes_eq, option_map, unwrap_or, is_some}
use Rattle.std.specs.Option.{option_or}
use Rattle.lex.specs.declared.token.Scalar.{Scalar}
use Rattle.syntax.specs.declared.tree.UnaryOp.{UnaryOp}
use Rattle.syntax.specs.declared.tree.UnaryOp.TheVariants.{Negate, Keep, Not, Complement}
use Rattle.syntax.specs.declared.tree.BinaryOp.{BinaryOp}
use Rattle.syntax.specs.declared.tree.BinaryOp.TheVariants.{ShiftLeft, ShiftRight}
use Rattle.syntax.specs.Tree.{Expr, Variable, Constant, Element, Call, Parenthesized, Cast, Unary, Binary, Logical, Conditional, InTransaction, Declarator, Program}
use Rattle.syntax.specs.Names.{Local, newest_from}
use Rattle.syntax.specs.Types.{Known, Unknown, Number, Array, Callable, Scope, file_scope, with_number, number_type, element_type, call_type, common_of, unary_type, binary_type, type_of, running_scope}
use Rattle.syntax.specs.Typing.{is_unknown, may_be_number, may_be_array, may_be_function, gives_nothing, is_void, knows}
use Rattle.syntax.specs.Laws.{shape}
use Rattle.syntax.specs.ScopeLaws.{IsSubscope, TypesAgree}
use Rattle.syntax.proofs.typing.TypedParts.{TypedExpr, expr_parts}

-- a typed expression has the same type wherever the names that are known stand for the same
module _ (known other : Scope) (agrees : IsSubscope known other) where
  pub same_type_of : (e : Expr) → TypedExpr known e → type_of other e ≡ type_of known e
  same_type_of (Variable x) h = ap number_type (agrees x.text h.0)
  same_type_of (Constant n t at) h = refl
  same_type_of (Element x i at) h = ap element_type (agrees x.text h.0)
  same_type_of (Call f es at) h = ap call_type (agrees f.text h.0)
  same_type_of (Parenthesized e at) h = same_type_of e h
  same_type_of (Cast t e at) h = refl
  same_type_of (Unary op e at) h = ap (unary_type op) (same_type_of e h.0)
  same_type_of (Binary op a b at) h = ap (λ t. binary_type op t (type_of other b)) (same_type_of a h.0) ∙ ap (binary_type op (type_of known a)) (same_type_of b h.2)
  same_type_of (Logical op a b at) h = refl
  same_type_of (Conditional c a b at) h = ap (λ t. common_of t (type_of other b)) (same_type_of a h.1) ∙ ap (common_of (type_of known a)) (same_type_of b h.3)
  same_type_of (InTransaction mode keyword e at) h = same_type_of e h.0

-- a typed expression that is not void has a type
abbrev HasOne : Option Scalar → Type 0
HasOne o = IsTrue (is_some o)

number_has_one : (k : Known) → IsTrue (not (is_unknown k)) → IsTrue (may_be_number k) → HasOne (number_type k)
number_has_one Unknown g h = absurd (cc)
number_has_one (Number t) g h = refl
number_has_one (Array t n) g h = absurd (cc)
number_has_one (Callable r ts) g h = absurd (cc)

element_has_one : (k : Known) → IsTrue (not (is_unknown k)) → IsTrue (may_be_array k) → HasOne (element_type k)
element_has_one Unknown g h = absurd (cc)
element_has_one (Number t) g h = absurd (cc)
element_has_one (Array t n) g h = refl
element_has_one (Callable r ts) g h = absurd (cc)

call_has_one : (k : Known) → IsTrue (not (is_unknown k)) → IsTrue (may_be_function k) → IsTrue (not (gives_nothing k)) → HasOne (call_type k)
call_has_one (Callable (Some t) ts) g h e = refl
call_has_one k g h e = absurd (cc)

unary_has_one : (op : UnaryOp) (o : Option Scalar) → HasOne o → HasOne (unary_type op o)
unary_has_one Negate o h = h
unary_has_one Keep o h = h
unary_has_one Not o h = refl
unary_has_one Complement o h = h

common_has_one : (o o' : Option Scalar) → HasOne o → HasOne o' → HasOne (common_of o o')
common_has_one (Some s) (Some t) g h = refl
common_has_one (Some s) None g h = absurd (cc)
common_has_one None o' g h = absurd (cc)

result_has_one : (f : Scalar → Scalar) (o o' : Option Scalar) → HasOne o → HasOne o' → HasOne (option_map f (common_of o o'))
result_has_one f (Some s) (Some t) g h = refl
result_has_one f (Some s) None g h = absurd (cc)
result_has_one f None o' g h = absurd (cc)

binary_has_one : (op : BinaryOp) (o o' : Option Scalar) → HasOne o → HasOne o' → HasOne (binary_type op o o')
binary_has_one ShiftLeft o o' g h = g
binary_has_one ShiftRight o o' g h = g
binary_has_one op o o' g h = result_has_one _ o o' g h

module _ (known : Scope) where
  pub has_type : (e : Expr) → TypedExpr known e → IsTrue (not (is_void known e)) → HasOne (type_of known e)
  has_type (Variable x) h e = number_has_one (known x.text) h.0 h.1
  has_type (Constant n t at) h e = refl
  has_type (Element x i at) h e = element_has_one (known x.text) h.0 h.2
  has_type (Call f es at) h e = call_has_one (known f.text) h.0 h.2 e
  has_type (Parenthesized e at) h g = has_type e h g
  has_type (Cast t e at) h g = refl
  has_type (Unary op e at) h g = unary_has_one op (type_of known e) (has_type e h.0 h.1)
  has_type (Binary op a b at) h g = binary_has_one op (type_of known a) (type_of known b) (has_type a h.0 h.1) (has_type b h.2 h.3)
  has_type (Logical op a b at) h g = refl
  has_type (Conditional c a b at) h g = common_has_one (type_of known a) (type_of known b) (has_type a h.1 h.2) (has_type b h.3 h.4)
  has_type (InTransaction mode keyword e at) h g = has_type e h.0 h.1

pub types_agree : TypesAgree
types_agree known other agrees e h = (same_type_of known other agrees e (expr_parts known e h), λ g. has_type known e (expr_parts known e h) g)

-- the type of the newest local of a name, among names and types
abbrev pub newest_in : List (List ℕ × Scalar) → List ℕ → Option Scalar
newest_in [] x = None
newest_in (l ∷ ls) x = option_or (newest_in ls x) (if bytes_eq l.0 x then Some l.1 else None)

abbrev type_at : Option (ℕ × Scalar) → Option Scalar
type_at o = option_map (λ l. l.1) o

either_newest : (o q : Option (ℕ × Scalar)) → type_at (option_or o q) ≡ option_or (type_at o) (type_at q)
either_newest None q = refl
either_newest (Some l) q = refl

one_newest : (b : Bool) (i : ℕ) (t : Scalar) → type_at (if b then Some (i, t) else None) ≡ (if b then Some t else None)
one_newest true i t = refl
one_newest false i t = refl

pub newest_by_shape : (i : ℕ) (ls : List Local) (x : List ℕ) → option_map (λ (l : ℕ × Scalar). l.1) (newest_from i ls x) ≡ newest_in (map shape ls) x
newest_by_shape i [] x = refl
newest_by_shape i (l ∷ ls) x =
    either_newest (newest_from (i + 1) ls x) (if bytes_eq l.name x then Some (i, l.ty) else None)
    ∙ ap (λ o. option_or o (type_at (if bytes_eq l.name x then Some (i, l.ty) else None))) (newest_by_shape (i + 1) ls x)
    ∙ ap (option_or (newest_in (map shape ls) x)) (one_newest (bytes_eq l.name x) i l.ty)

or_three : (a b c : Option Scalar) → option_or (option_or a b) c ≡ option_or a (option_or b c)
or_three None b c = refl
or_three (Some t) b c = refl

or_none : (a : Option Scalar) → option_or a None ≡ a
or_none None = refl
or_none (Some t) = refl

pub newest_behind : (ls ms : List (List ℕ × Scalar)) (x : List ℕ) → newest_in (ls ++ ms) x ≡ option_or (newest_in ms x) (newest_in ls x)
newest_behind [] ms x = sym (or_none (newest_in ms x))
newest_behind (l ∷ ls) ms x =
    ap (λ o. option_or o (if bytes_eq l.0 x then Some l.1 else None)) (newest_behind ls ms x)
    ∙ or_three (newest_in ms x) (newest_in ls x) (if bytes_eq l.0 x then Some l.1 else None)

-- what is known while a function runs with locals of these names and types
abbrev pub scope_in : Program → List (List ℕ × Scalar) → Scope
scope_in p ls x = unwrap_or (option_map (λ t. Number t) (newest_in ls x)) (file_scope p x)

number_known : (o : Option (ℕ × Scalar)) (rest : Known) → unwrap_or (option_map (λ l. Number l.1) o) rest ≡ unwrap_or (option_map (λ t. Number t) (type_at o)) rest
number_known None rest = refl
number_known (Some l) rest = refl

pub running_by_shape : (p : Program) (ls : List Local) (x : List ℕ) → running_scope p ls x ≡ scope_in p (map shape ls) x
running_by_shape p ls x = number_known (newest_from 0 ls x) (file_scope p x) ∙ ap (λ o. unwrap_or (option_map (λ t. Number t) o) (file_scope p x)) (newest_by_shape 0 ls x)

pub agrees_by_shape : (p : Program) (known : Scope) (ls : List Local) → IsSubscope known (scope_in p (map shape ls)) → IsSubscope known (running_scope p ls)
agrees_by_shape p known ls h x k = running_by_shape p ls x ∙ h x k

pub shape_agrees : (p : Program) (known : Scope) (ls : List Local) → IsSubscope known (running_scope p ls) → IsSubscope known (scope_in p (map shape ls))
shape_agrees p known ls h x k = sym (running_by_shape p ls x) ∙ h x k

-- one declared name more, in both scopes
one_more_known : (b : Bool) (t : Scalar) (o : Option Scalar) (k k' : Known) → (IsTrue (not (is_unknown k)) → unwrap_or (option_map (λ t. Number t) o) k' ≡ k) → IsTrue (not (is_unknown (if b then Number t else k))) → unwrap_or (option_map (λ t. Number t) (option_or (if b then Some t else None) o)) k' ≡ (if b then Number t else k)
one_more_known true t o k k' h g = refl
one_more_known false t o k k' h g = h g

pub one_more_fits : (p : Program) (known : Scope) (ls : List (List ℕ × Scalar)) (x : List ℕ) (t : Scalar) → IsSubscope known (scope_in p ls) → IsSubscope (with_number x t known) (scope_in p (ls ++ (x, t) ∷ []))
one_more_fits p known ls x t h y k =
    ap (λ o. unwrap_or (option_map (λ t. Number t) o) (file_scope p y)) (newest_behind ls ((x, t) ∷ []) y)
    ∙ one_more_known (bytes_eq x y) t (newest_in ls y) (known y) (file_scope p y) (λ g. h y g) k

-- the names of a declaration, one after another
pub declared_fit : (p : Program) (known : Scope) (ls : List (List ℕ × Scalar)) (t : Scalar) (ds : List Declarator) → IsSubscope known (scope_in p ls) → IsSubscope (knows t ds known) (scope_in p (ls ++ map (λ d. (d.name.text, t)) ds))
declared_fit p known ls t [] h = subst (λ ms. IsSubscope known (scope_in p ms)) (sym (append-nil ls)) h
declared_fit p known ls t (d ∷ ds) h =
    subst (λ ms. IsSubscope (knows t ds (with_number d.name.text t known)) (scope_in p ms)) (append_assoc ls ((d.name.text, t) ∷ []) (map (λ d. (d.name.text, t)) ds))
    (declared_fit p (with_number d.name.text t known) (ls ++ (d.name.text, t) ∷ []) t ds (one_more_fits p known ls d.name.text t h))
