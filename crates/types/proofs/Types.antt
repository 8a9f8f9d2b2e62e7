-- Lists of types.
use Rattle.std.proofs.Common.{◌≡◌, ◌≢◌, ℕ, ◌+◌, ◌<◌, List, [], ◌∷◌, length, drop, get_or, map, Option, Some, None, Bool, true, false, not, ◌&&◌, refl, ap, ◌∙◌, arith, is_some, is_none, option_map, if◌then◌else◌}
use Rattle.std.proofs.lemmas.List.{at_drop_more}
use Rattle.syntax.specs.Tree.{Scalar}
use Rattle.syntax.specs.declared.tree.Parameter.{Parameter}
use Rattle.syntax.specs.declared.tree.Expr as E
use Rattle.syntax.specs.Views.{expr_of, parameter_of}
use Rattle.syntax.specs.Typing.{same_type, same_types, returns_right}

and_false : (b c : Bool) → c ≡ false → (b && c) ≡ false
and_false true c h = h
and_false false c h = refl

-- as many types, where they are the same
pub differ : (ss ts : List Scalar) → length ss ≢ length ts → same_types ss ts ≡ false
differ [] [] h = absurd (h refl)
differ [] (t ∷ ts) h = refl
differ (s ∷ ss) [] h = refl
differ (s ∷ ss) (t ∷ ts) h = and_false (same_type s t) (same_types ss ts) (differ ss ts (λ e. h (omega (arith, e))))

-- one parameter more
pub same_more : {A : Type 0} (ps qs : List (Parameter A)) (i : ℕ) (a b : Parameter A) → i < length ps → i < length qs → same_types (map (λ q. q.ty) (drop i ps)) (map (λ q. q.ty) (drop i qs)) ≡ (same_type (get_or ps i a).ty (get_or qs i b).ty && same_types (map (λ q. q.ty) (drop (i + 1) ps)) (map (λ q. q.ty) (drop (i + 1) qs)))
same_more ps qs i a b h k =
    at_drop_more (λ xs. same_types (map (λ q. q.ty) xs) (map (λ q. q.ty) (drop i qs))) ps i a h
    ∙ at_drop_more (λ xs. same_types (map (λ q. q.ty) (get_or ps i a ∷ drop (i + 1) ps)) (map (λ q. q.ty) xs)) qs i b k

-- the types that a function takes
pub takes_are : {A : Type 0} (ps : List (Parameter A)) → map (λ q. q.ty) (map parameter_of ps) ≡ map (λ q. q.ty) ps
takes_are [] = refl
takes_are (p ∷ ps) = ap (λ ts. p.ty ∷ ts) (takes_are ps)

-- a test that there is nothing
pub none_of : {X : Type 0} (o : Option X) (r : Bool) → is_some o ≡ not r → r ≡ true → true ≡ is_none o
none_of None r h e = refl
none_of (Some x) r h e = absurd (let f = h ∙ ap not e in cc)

-- a `return` is right by whether there is a value
right_by : {A : Type 0} (gives : Option Scalar) (e : Option (E.Expr A)) → (if is_some gives then is_some e else not (is_some e)) ≡ returns_right gives (option_map expr_of e)
right_by None None = refl
right_by None (Some e) = refl
right_by (Some t) None = refl
right_by (Some t) (Some e) = refl

pub is_right : {A : Type 0} (gives : Option Scalar) (e : Option (E.Expr A)) (right some : Bool) → right ≡ (if is_some gives then some else not some) → some ≡ is_some e → right ≡ returns_right gives (option_map expr_of e)
is_right gives e right some h k = h ∙ ap (λ b. if is_some gives then b else not b) k ∙ right_by gives e
