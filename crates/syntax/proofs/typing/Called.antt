-- Functions that are called are defined, and the bodies of definitions are typed.
use Rattle.std.proofs.Common.{◌≡◌, refl, sym, ap, subst, ◌∙◌, ℕ, List, [], ◌∷◌, ◌++◌, append_assoc, append-nil, length, arith, map, Option, Some, None, Bool, true, false, not, IsTrue}
use Rattle.std.specs.Prelude.{if◌then◌else◌, bytes_eq, option_map, unwrap_or, is_some, is_none, codes, ◌&&◌, ◌||◌}
use Rattle.std.proofs.lemmas.List.{map-append}
use Rattle.std.proofs.lemmas.Slice.Eq.{bytes_eq-Decides}
use Rattle.lex.specs.declared.token.Span.{Span}
use Rattle.lex.specs.declared.token.Scalar.{Scalar}
use Rattle.syntax.specs.Tree.{Name, Stmts, Parameter, Function, Global, Item, Defines, Shares, Program}
use Rattle.syntax.specs.declared.value.Value.{Value}
use Rattle.syntax.specs.Numbers.{value_in_type}
use Rattle.syntax.specs.Names.{Local, definition_or, definition_of}
use Rattle.syntax.specs.Types.{Known, Unknown, Number, Array, Callable, Scope, known_global, known_function, known_among, file_scope, with_number}
use Rattle.syntax.specs.Typing.{is_unknown, may_be_function, same_type, same_types, same_result, agrees, has_name, defined_names, parameter_names, with_parameters, is_worker, demand, AreDistinct, AreTypedStmts, IsTypedBody, IsTypedFunction, AreTypedItems, AreDefined, IsTypedProgram}
use Rattle.syntax.specs.Meaning.{parameter_local, call_locals}
use Rattle.syntax.specs.Laws.{shape}
use Rattle.syntax.specs.ScopeLaws.{IsSubscope, CalledAreDefined, BodiesAreTyped, body_scope}
use Rattle.syntax.proofs.typing.Demands.{AreMet, met_before, met_behind, is_met}
use Rattle.syntax.proofs.typing.Fits.{scope_in, agrees_by_shape, one_more_fits}
use Rattle.syntax.proofs.typing.ValueTypes.{or_known, scope_append, rest_met, agrees_before, same_type_is, same_result_is, both_true}

-- where a definition stands among items: after earlier ones, and typed there
record Stands (whole : List Item) (x : List ℕ) (d : Function × Stmts) : Type 0 where
  earlier : List Item
  later : List Item
  stands : earlier ++ Defines d.0 ∷ later ≡ whole
  name : d.0.name.text ≡ x
  body : d.0.body ≡ Some d.1
  typed : AreMet (AreTypedItems earlier (Defines d.0 ∷ later))

some_is : (a b : Function × Stmts) → Some a ≡ Some b → a ≡ b
some_is a b e = ap (λ o. unwrap_or o a) e

stands_from : (earlier items : List Item) (x : List ℕ) (d : Function × Stmts) → AreMet (AreTypedItems earlier items) → definition_of items x ≡ Some d → Stands (earlier ++ items) x d
stands_from earlier [] x d h e = absurd (cc)
stands_from earlier (Shares gs ∷ items) x d h e =
    subst (λ whole. Stands whole x d) (append_assoc earlier (Shares gs ∷ []) items)
    (stands_from (earlier ++ Shares gs ∷ []) items x d (rest_met earlier (Shares gs) items h) e)
stands_from earlier (Defines f ∷ items) x d h e =
    here f.body refl e
    (λ g. subst (λ whole. Stands whole x d) (append_assoc earlier (Defines f ∷ []) items) (stands_from (earlier ++ Defines f ∷ []) items x d (rest_met earlier (Defines f) items h) g))
  where
    by_name : (b : Stmts) → f.body ≡ Some b → (same : Bool) → bytes_eq f.name.text x ≡ same → (if same then Some (f, b) else definition_of items x) ≡ Some d → (definition_of items x ≡ Some d → Stands (earlier ++ Defines f ∷ items) x d) → Stands (earlier ++ Defines f ∷ items) x d
    by_name b own true n g others =
        subst (λ d. Stands (earlier ++ Defines f ∷ items) x d) (some_is (f, b) d g)
        (record { earlier = earlier; later = items; stands = refl; name = (bytes_eq-Decides f.name.text x).0 n; body = own; typed = h })
    by_name b own false n g others = others g

    here : (body : Option Stmts) → f.body ≡ body → definition_or f x body (definition_of items x) ≡ Some d → (definition_of items x ≡ Some d → Stands (earlier ++ Defines f ∷ items) x d) → Stands (earlier ++ Defines f ∷ items) x d
    here None own g others = others g
    here (Some b) own g others = by_name b own (bytes_eq f.name.text x) refl g others

-- the types of a declaration
same_types_is : (ss ts : List Scalar) → IsTrue (same_types ss ts) → ss ≡ ts
same_types_is [] [] h = refl
same_types_is [] (t ∷ ts) h = absurd (cc)
same_types_is (s ∷ ss) [] h = absurd (cc)
same_types_is (s ∷ ss) (t ∷ ts) h = ap (λ x. x ∷ ss) (same_type_is s t (both_true (same_type s t) (same_types ss ts) h)) ∙ ap (λ xs. t ∷ xs) (same_types_is ss ts (second_true (same_type s t) (same_types ss ts) h))
  where
    second_true : (a b : Bool) → IsTrue (a && b) → IsTrue b
    second_true true b h = h
    second_true false b h = absurd (cc)

result_is : (r s : Option Scalar) → IsTrue (same_result r s) → s ≡ r
result_is None None h = refl
result_is None (Some t) h = absurd (cc)
result_is (Some t) s h = same_result_is s t h

agreeing_types : (g : Function) (k : Known) (result : Option Scalar) (takes : List Scalar) → IsTrue (agrees g k) → or_known k (known_function g) ≡ Callable result takes → known_function g ≡ Callable result takes
agreeing_types g Unknown result takes h e = e
agreeing_types g (Number t) result takes h e = absurd (cc)
agreeing_types g (Array t n) result takes h e = absurd (cc)
agreeing_types g (Callable r ts) result takes h e =
    ap (λ o. Callable o (map (λ q. q.ty) g.parameters)) (result_is r g.result (both_true (same_result r g.result) (same_types ts (map (λ q. q.ty) g.parameters)) h))
    ∙ ap (λ xs. Callable r xs) (sym (same_types_is ts (map (λ q. q.ty) g.parameters) (second_true (same_result r g.result) (same_types ts (map (λ q. q.ty) g.parameters)) h)))
    ∙ e
  where
    second_true : (a b : Bool) → IsTrue (a && b) → IsTrue b
    second_true true b h = h
    second_true false b h = absurd (cc)

-- a definition has the types that its name is known to have
types_of : (p : Program) (x : List ℕ) (d : Function × Stmts) (result : Option Scalar) (takes : List Scalar) → Stands p x d → file_scope p x ≡ Callable result takes → known_function d.0 ≡ Callable result takes
types_of p x d result takes s e =
    agreeing_types d.0 (file_scope s.earlier x) result takes
    (subst (λ y. IsTrue (agrees d.0 (file_scope s.earlier y))) s.name (agrees_before s.earlier s.later d.0 s.typed))
    (ap (or_known (file_scope s.earlier x)) (sym here) ∙ sym (scope_append s.earlier (Defines d.0 ∷ s.later) x) ∙ ap (λ items. file_scope items x) s.stands ∙ e)
  where
    here : file_scope (Defines d.0 ∷ s.later) x ≡ known_function d.0
    here = ap (λ b. if b then known_function d.0 else file_scope s.later x) ((bytes_eq-Decides d.0.name.text x).1 s.name)

-- globals stand for no function, and leave a function as it is known
globals_apart : (g : Global) (result : Option Scalar) (takes : List Scalar) → known_global g ≡ Callable result takes → ⊥
globals_apart g result takes e = apart g.ty g.length e
  where
    apart : (ty : Scalar) (length : Option (ℕ × Span)) → unwrap_or (option_map (λ n. Array ty n.0) length) (Number ty) ≡ Callable result takes → ⊥
    apart ty None e = cc
    apart ty (Some n) e = cc

behind_globals : (gs : List Global) (rest other : Scope) (x : List ℕ) (result : Option Scalar) (takes : List Scalar) → known_among gs rest x ≡ Callable result takes → (rest x ≡ Callable result takes) × (known_among gs other x ≡ other x)
behind_globals [] rest other x result takes e = (e, refl)
behind_globals (g ∷ gs) rest other x result takes e = by_name (bytes_eq g.name.text x) (λ f. behind_globals gs rest other x result takes f) e
  where
    by_name : (b : Bool) → (known_among gs rest x ≡ Callable result takes → (rest x ≡ Callable result takes) × (known_among gs other x ≡ other x)) → (if b then known_global g else known_among gs rest x) ≡ Callable result takes → (rest x ≡ Callable result takes) × ((if b then known_global g else known_among gs other x) ≡ other x)
    by_name true others e = absurd (globals_apart g result takes e)
    by_name false others e = others e

-- each function that is declared among these items, and not before them, is defined
defined_from : (p : Program) (earlier items : List Item) (x : List ℕ) (result : Option Scalar) (takes : List Scalar) → AreMet (AreDefined p earlier items) → file_scope earlier x ≡ Unknown → file_scope items x ≡ Callable result takes → IsTrue (is_some (definition_of p x))
defined_from p earlier [] x result takes h g e = absurd (cc)
defined_from p earlier (Shares gs ∷ items) x result takes h g e =
    let apart = behind_globals gs (file_scope items) (λ y. Unknown) x result takes e in
    defined_from p (earlier ++ Shares gs ∷ []) items x result takes h
    (scope_append earlier (Shares gs ∷ []) x ∙ ap (λ k. or_known k (known_among gs (λ y. Unknown) x)) g ∙ apart.1)
    apart.0
defined_from p earlier (Defines f ∷ items) x result takes h g e =
    by_name (bytes_eq f.name.text x) refl (λ n. defined_from p (earlier ++ Defines f ∷ []) items x result takes (met_behind (demand 29 f.name.span (not (is_unknown (file_scope earlier f.name.text)) || is_some (definition_of p f.name.text))) (AreDefined p (earlier ++ Defines f ∷ []) items) h)
    (scope_append earlier (Defines f ∷ []) x ∙ ap (λ k. or_known k (if bytes_eq f.name.text x then known_function f else Unknown)) g ∙ ap (λ b. if b then known_function f else Unknown) n)) e
  where
    own : IsTrue (not (is_unknown (file_scope earlier f.name.text)) || is_some (definition_of p f.name.text))
    own = is_met 29 f.name.span (not (is_unknown (file_scope earlier f.name.text)) || is_some (definition_of p f.name.text)) (met_before (demand 29 f.name.span (not (is_unknown (file_scope earlier f.name.text)) || is_some (definition_of p f.name.text))) (AreDefined p (earlier ++ Defines f ∷ []) items) h)

    by_name : (b : Bool) → bytes_eq f.name.text x ≡ b → (bytes_eq f.name.text x ≡ false → file_scope items x ≡ Callable result takes → IsTrue (is_some (definition_of p x))) → (if b then known_function f else file_scope items x) ≡ Callable result takes → IsTrue (is_some (definition_of p x))
    by_name true n others e =
        let same : f.name.text ≡ x = (bytes_eq-Decides f.name.text x).0 n in
        let here : IsTrue (not (is_unknown (file_scope earlier x)) || is_some (definition_of p x)) = subst (λ y. IsTrue (not (is_unknown (file_scope earlier y)) || is_some (definition_of p y))) same own in
        subst (λ k. IsTrue (not (is_unknown k) || is_some (definition_of p x))) g here
    by_name false n others e = others n e

-- the two parts of a typed program that speak of its items
items_met : (p : Program) → IsTypedProgram p → AreMet (AreTypedItems [] p) × AreMet (AreDefined p [] p)
items_met p h =
    let worker = demand 28 (record { start = 0; end = 0 }) (is_worker (file_scope p (codes "worker"))) in
    let both = met_before (AreTypedItems [] p ++ AreDefined p [] p) worker h in
    (met_before (AreTypedItems [] p) (AreDefined p [] p) both, met_behind (AreTypedItems [] p) (AreDefined p [] p) both)

pub worker_known : (p : Program) → IsTypedProgram p → IsTrue (is_worker (file_scope p (codes "worker")))
worker_known p h =
    let worker = is_worker (file_scope p (codes "worker")) in
    is_met 28 (record { start = 0; end = 0 }) worker (met_behind (AreTypedItems [] p ++ AreDefined p [] p) (demand 28 (record { start = 0; end = 0 }) worker) h)

pub called_are_defined : CalledAreDefined
called_are_defined p h x result takes e = there (definition_of p x) refl (defined_from p [] p x result takes (items_met p h).1 refl e)
  where
    there : (o : Option (Function × Stmts)) → definition_of p x ≡ o → IsTrue (is_some o) → (d : Function × Stmts) × (definition_of p x ≡ Some d) × (known_function d.0 ≡ Callable result takes)
    there None g i = absurd (cc)
    there (Some d) g i = (d, g, types_of p x d result takes (stands_from [] p x d (items_met p h).0 g) e)

-- the names and types of parameters
abbrev pub shapes_of : List Parameter → List (List ℕ × Scalar)
shapes_of [] = []
shapes_of (q ∷ qs) = unwrap_or (option_map (λ x. (x.text, q.ty) ∷ []) q.name) [] ++ shapes_of qs

bound_shape : (q : Parameter) (v : Value) → map shape (parameter_local q v) ≡ unwrap_or (option_map (λ x. (x.text, q.ty) ∷ []) q.name) []
bound_shape q v = named q.name
  where
    named : (n : Option Name) → map shape (unwrap_or (option_map (λ (x : Name). record { name = x.text; ty = q.ty; word = (value_in_type q.ty v).word } ∷ []) n) []) ≡ unwrap_or (option_map (λ x. (x.text, q.ty) ∷ []) n) []
    named None = refl
    named (Some x) = refl

pub entered_shapes : (qs : List Parameter) (vs : List Value) (ls : List Local) → call_locals qs vs ≡ Some ls → map shape ls ≡ shapes_of qs
entered_shapes [] [] ls e = ap (λ o. map shape (unwrap_or o [])) (sym e)
entered_shapes [] (v ∷ vs) ls e = absurd (cc)
entered_shapes (q ∷ qs) [] ls e = absurd (cc)
entered_shapes (q ∷ qs) (v ∷ vs) ls e = behind (call_locals qs vs) (λ ms f. entered_shapes qs vs ms f) e
  where
    behind : (o : Option (List Local)) → ((ms : List Local) → o ≡ Some ms → map shape ms ≡ shapes_of qs) → option_map (λ ms. parameter_local q v ++ ms) o ≡ Some ls → map shape ls ≡ shapes_of (q ∷ qs)
    behind None h e = absurd (cc)
    behind (Some ms) h e =
        ap (λ o. map shape (unwrap_or o [])) (sym e) ∙ map-append shape (parameter_local q v) ms ∙ ap (λ x. x ++ map shape ms) (bound_shape q v)
        ∙ ap (λ x. unwrap_or (option_map (λ x. (x.text, q.ty) ∷ []) q.name) [] ++ x) (h ms refl)

-- as many arguments as parameters enter
pub all_enter : (qs : List Parameter) (vs : List Value) → length vs ≡ length qs → (ls : List Local) × (call_locals qs vs ≡ Some ls)
all_enter [] [] e = ([], refl)
all_enter [] (v ∷ vs) e = absurd (omega (arith, e))
all_enter (q ∷ qs) [] e = absurd (omega (arith, e))
all_enter (q ∷ qs) (v ∷ vs) e =
    let others = all_enter qs vs (omega (arith, e)) in
    (parameter_local q v ++ others.0, ap (option_map (λ ls. parameter_local q v ++ ls)) others.1)

-- the parameters' names are known as those locals
parameters_fit : (p : Program) (known : Scope) (ls : List (List ℕ × Scalar)) (qs : List Parameter) → IsSubscope known (scope_in p ls) → IsSubscope (with_parameters qs known) (scope_in p (ls ++ shapes_of qs))
parameters_fit p known ls [] h = subst (λ ms. IsSubscope known (scope_in p ms)) (sym (append-nil ls)) h
parameters_fit p known ls (q ∷ qs) h = named q.ty q.name (λ known ls h. parameters_fit p known ls qs h)
  where
    named : (ty : Scalar) (n : Option Name) → ((known : Scope) (ls : List (List ℕ × Scalar)) → IsSubscope known (scope_in p ls) → IsSubscope (with_parameters qs known) (scope_in p (ls ++ shapes_of qs))) → IsSubscope (with_parameters qs (unwrap_or (option_map (λ x. with_number x.text ty known) n) known)) (scope_in p (ls ++ (unwrap_or (option_map (λ x. (x.text, ty) ∷ []) n) [] ++ shapes_of qs)))
    named ty None others = others known ls h
    named ty (Some x) others =
        subst (λ ms. IsSubscope (with_parameters qs (with_number x.text ty known)) (scope_in p ms)) (append_assoc ls ((x.text, ty) ∷ []) (shapes_of qs))
        (others (with_number x.text ty known) (ls ++ (x.text, ty) ∷ []) (one_more_fits p known ls x.text ty h))

first_known : (k k' : Known) → IsTrue (not (is_unknown k)) → or_known k k' ≡ k
first_known Unknown k' h = absurd (cc)
first_known (Number t) k' h = refl
first_known (Array t n) k' h = refl
first_known (Callable r ts) k' h = refl

-- what earlier items make known is known in the whole program
earlier_agree : (p earlier later : List Item) → p ≡ earlier ++ later → IsSubscope (file_scope earlier) (scope_in p [])
earlier_agree p earlier later e x k = ap (λ items. file_scope items x) e ∙ scope_append earlier later x ∙ first_known (file_scope earlier x) (file_scope later x) k

body_met : (earlier later : List Item) (f : Function) (body : Stmts) → f.body ≡ Some body → AreMet (AreTypedItems earlier (Defines f ∷ later)) → AreMet (AreTypedStmts f.result body (body_scope earlier f) (parameter_names f.parameters) false)
body_met earlier later f body e h =
    let name = demand 21 f.name.span (may_be_function (file_scope earlier f.name.text) && (is_none f.body || not (has_name (defined_names earlier) f.name.text))) in
    let type = demand 22 f.name.span (agrees f (file_scope earlier f.name.text)) in
    let own : AreMet (IsTypedFunction earlier f) = met_before (IsTypedFunction earlier f) (AreTypedItems (earlier ++ Defines f ∷ []) later) h in
    subst (λ b. AreMet (IsTypedBody earlier f b)) e (met_behind (name ++ type ++ AreDistinct [] f.parameters) (IsTypedBody earlier f f.body) own)

pub bodies_are_typed : BodiesAreTyped
bodies_are_typed p h x d e =
    let s = stands_from [] p x d (items_met p h).0 e in
    let whole : p ≡ (s.earlier ++ Defines d.0 ∷ []) ++ s.later = sym (append_assoc s.earlier (Defines d.0 ∷ []) s.later ∙ s.stands) in
    record {
      earlier = s.earlier;
      later = s.later;
      stands = whole;
      body = body_met s.earlier s.later d.0 d.1 s.body s.typed;
      fits = λ vs ls g. agrees_by_shape p (body_scope s.earlier d.0) ls
          (subst (λ ms. IsSubscope (body_scope s.earlier d.0) (scope_in p ms)) (sym (entered_shapes d.0.parameters vs ls g))
          (parameters_fit p (file_scope (s.earlier ++ Defines d.0 ∷ [])) [] d.0.parameters (earlier_agree p (s.earlier ++ Defines d.0 ∷ []) s.later whole)));
    }
