-- Functions that can be properties, and names of which one can't be.
use Rattle.std.proofs.Common.{◌≡◌, ◌∙◌, ◌&&◌, ℕ, ◌+◌, ◌<◌, ◌≤◌, Bool, true, false, IsTrue, List, [], ◌∷◌, All, map, length, drop, get_or, add-one, drop-cons, suc, Option, None, Some, is_some, refl, sym, ap, subst, arith}
use Rattle.std.specs.Prelude.{◌↔◌, IfNone, IfSome, if◌then◌else◌, bytes_eq}
use Rattle.std.proofs.lemmas.Bool.{false≢true}
use Rattle.std.proofs.lemmas.List.{at_drop_all, get_or-map, length-map}
use Rattle.std.proofs.lemmas.List.Elements.{All-cons, All-nil}
use Rattle.std.proofs.lemmas.Slice.Eq.{bytes_eq-Decides}
use Rattle.syntax.specs.Names.{definition_of, definition_or}
use Rattle.syntax.specs.Tree.{Defines, Function, Item, Program, Shares, Stmts}
use Rattle.safety.specs.Links.{IsLeast, KeepsTo}
use Rattle.safety.specs.Safe.{FunctionSet}
use Rattle.safety.specs.Sites.{Calls, Cancels, CancelsOuter, Construct, OpensOuter, Prints, Relaxes, Uses}
use Rattle.safety.specs.inner.SiteLinks.{site_links}
use Rattle.safety.specs.inner.UnsafeLinks.{construct_links, unsafe_at}
use Rattle.safety.proofs.Linked.{in_set_if, keeps_if, keeps_none, keeps_one}
use Rattle.safety.proofs.Spread.{tells_least}
use Rattle.serving.specs.Askable.{CannotBeUndone, IsAskable, IsIrrevocable, TellsIrrevocable}
use Rattle.serving.specs.inner.Askable.{MayBeAsked, definition_in}

drop_here : {X : Type 0} (xs : List X) (i : ℕ) (x : X) → x ≡ get_or xs i x → i < length xs → drop i xs ≡ x ∷ drop (i + 1) xs
drop_here xs i x e h = rw (add-one, drop-cons xs i x) (ap (λ y. y ∷ drop (suc i) xs) (sym e))

pub drop_at : {X : Type 0} (xs : List X) (i : ℕ) (d : X) → i < length xs → drop i xs ≡ get_or xs i d ∷ drop (i + 1) xs
drop_at xs i d h = rw (add-one, drop-cons xs i d) refl

-- ---- facts about options

pub none_of : {X : Type 0} {Q : Type 0} (o : Option X) → o ≡ None → IfNone o Q → Q
none_of None e q = q
none_of (Some x) e q = absurd (cc)

pub some_of : {X : Type 0} {Q : Type 0} (o : Option X) (x : X) → o ≡ Some x → IfSome o (λ _. Q) → Q
some_of None x e q = absurd (cc)
some_of (Some y) x e q = q

pub none_weaker : {X : Type 0} {Q R : Type 0} (o : Option X) → (Q → R) → IfNone o Q → IfNone o R
none_weaker None f q = f q
none_weaker (Some x) f q = tt

pub some_weaker : {X : Type 0} {Q R : Type 0} (o : Option X) → (Q → R) → IfSome o (λ _. Q) → IfSome o (λ _. R)
some_weaker None f q = tt
some_weaker (Some x) f q = f q

pub not_empty : {X Y : Type 0} (see : X → Y) (xs : List X) (b : Bool) → (IsTrue b ↔ (xs ≡ [])) → b ≡ false → map see xs ≡ [] → ⊥
not_empty see [] b iff is none = false≢true (sym is ∙ iff.1 refl)
not_empty see (x ∷ xs) b iff is none = absurd (cc)

-- ---- the least set that keeps to the links decides which functions are irrevocable

module _ (set : FunctionSet) where
  abbrev In : List ℕ → Type 0
  In f = IsTrue (set f)

  in_set : (f : List ℕ) (c : Construct) → KeepsTo (construct_links f c) set → CannotBeUndone In c → In f
  in_set f Prints h u = in_set_if set true f h refl
  in_set f Relaxes h u = in_set_if set true f h refl
  in_set f (Calls g) h u = h (record { caller = f; callee = Some g }) (0, omega arith, refl) u
  in_set f OpensOuter h u = absurd u
  in_set f Cancels h u = absurd u
  in_set f CancelsOuter h u = absurd u
  in_set f (Uses x) h u = absurd u

  keep : (f : List ℕ) (c : Construct) → (CannotBeUndone In c → In f) → KeepsTo (construct_links f c) set
  keep f Prints h = keeps_if set true f (λ e. h tt)
  keep f Relaxes h = keeps_if set true f (λ e. h tt)
  keep f (Calls g) h = keeps_one set (record { caller = f; callee = Some g }) h
  keep f OpensOuter h = keeps_none set
  keep f Cancels h = keeps_none set
  keep f CancelsOuter h = keeps_none set
  keep f (Uses x) h = keeps_none set

pub tells_irrevocable : (p : Program) (set : FunctionSet) → IsLeast (site_links unsafe_at p) set → TellsIrrevocable p set
tells_irrevocable p set h =
    tells_least unsafe_at (λ s t. CannotBeUndone (λ g. IsTrue (s g)) t.construct)
    (λ s f t. in_set s f t.construct) (λ s f t. keep s f t.construct) p set h

-- ---- the definition of a name

-- an item that does not define it is skipped, and one that does is the definition
module _ (x : List ℕ) (rest : Option (Function × Stmts)) (f : Function) where
  passed : (o : Option Stmts) (t : Bool) → bytes_eq f.name.text x ≡ t → (if is_some o && t then Some f else None) ≡ None → definition_or f x o rest ≡ rest
  passed None t is none = refl
  passed (Some b) false is none = ap (λ u. if u then Some (f, b) else rest) is
  passed (Some b) true is none = absurd (cc)

  here : (g : Function) (o : Option Stmts) (t : Bool) → bytes_eq f.name.text x ≡ t → (if is_some o && t then Some f else None) ≡ Some g → (b : Stmts) × (definition_or f x o rest ≡ Some (f, b)) × (f ≡ g) × (f.name.text ≡ x)
  here g None t is some = absurd (cc)
  here g (Some b) false is some = absurd (cc)
  here g (Some b) true is some = (b, ap (λ u. if u then Some (f, b) else rest) is, same f g some, (bytes_eq-Decides f.name.text x).0 is)
    where
      same : (a c : Function) → Some a ≡ Some c → a ≡ c
      same a c e = cc

definition_more : (i : Item) (items : List Item) (x : List ℕ) → definition_in i x ≡ None → definition_of (i ∷ items) x ≡ definition_of items x
definition_more (Defines f) items x none = passed x (definition_of items x) f f.body (bytes_eq f.name.text x) refl none
definition_more (Shares gs) items x none = refl

-- a function is defined by this name
pub record IsDefined (items : List Item) (x : List ℕ) (f : Function) : Type 0 where
  pub body : Stmts
  pub is : definition_of items x ≡ Some (f, body)
  pub named : f.name.text ≡ x

definition_here : (i : Item) (items : List Item) (x : List ℕ) (g : Function) → definition_in i x ≡ Some g → IsDefined (i ∷ items) x g
definition_here (Defines f) items x g some =
    let h = here x (definition_of items x) f g f.body (bytes_eq f.name.text x) refl some in
    subst (IsDefined (Defines f ∷ items) x) h.2 (record { body = h.0; is = h.1; named = h.3 })
definition_here (Shares gs) items x g some = absurd (cc)

module _ {A : Type 0} (see : A → Item) (items : List A) (i : ℕ) (item : A) (is : item ≡ get_or items i item) (less : i < length items) (x : List ℕ) (before : definition_of (map see (drop i items)) x ≡ definition_of (map see items) x) where
  pub definition_later : definition_in (see item) x ≡ None → definition_of (map see (drop (i + 1) items)) x ≡ definition_of (map see items) x
  definition_later none =
      sym (definition_more (see item) (map see (drop (i + 1) items)) x none)
      ∙ ap (λ ys. definition_of (map see ys) x) (sym (drop_here items i item is less)) ∙ before

  pub definition_found : (g : Function) → definition_in (see item) x ≡ Some g → IsDefined (map see items) x g
  definition_found g some =
      let h = definition_here (see item) (map see (drop (i + 1) items)) x g some in
      record {
        body = h.body;
        is = sym before ∙ ap (λ ys. definition_of (map see ys) x) (drop_here items i item is less) ∙ h.is;
        named = h.named;
      }

pub not_defined : {A : Type 0} (see : A → Item) (items : List A) (i : ℕ) (x : List ℕ) → length items ≤ i → definition_of (map see (drop i items)) x ≡ definition_of (map see items) x → definition_of (map see items) x ≡ None
not_defined see items i x over before = sym before ∙ at_drop_all (λ ys. definition_of (map see ys) x) items i over

-- ---- functions that may be properties can be, and no others

pub unknown : (p : Program) (x : List ℕ) → definition_of p x ≡ None → IsAskable p x → ⊥
unknown p x none is = nothing (sym none ∙ is.defined)
  where
    nothing : {X : Type 0} {y : X} → None ≡ Some y → ⊥
    nothing e = cc

module _ (p : Program) (set : FunctionSet) (tells : TellsIrrevocable p set) (x : List ℕ) (f : Function) (defined : IsDefined p x f) where
  pub askable : MayBeAsked set f → IsAskable p x
  askable may = record {
    function = f;
    body = defined.body;
    defined = defined.is;
    gives_int = may.0;
    takes_nothing = may.1;
    revocable = λ irrevocable. false≢true (sym may.2 ∙ ap set defined.named ∙ (tells x).1 irrevocable);
  }

  pub only_askable : IsAskable p x → MayBeAsked set f
  only_askable is =
      let e = same (is.function, is.body) (f, defined.body) (sym is.defined ∙ defined.is) in (
        ap (λ (g : Function). g.result) (sym e) ∙ is.gives_int,
        ap (λ (g : Function). g.parameters) (sym e) ∙ is.takes_nothing,
        ap set defined.named ∙ not_in (set x) refl is.revocable,
      )
    where
      same : (a b : Function × Stmts) → Some a ≡ Some b → a.0 ≡ b.0
      same a b e = cc

      not_in : (b : Bool) → set x ≡ b → (IsIrrevocable p x → ⊥) → b ≡ false
      not_in false e not = refl
      not_in true e not = absurd (not ((tells x).0 e))

-- ---- one name after another

module _ {X Y : Type 0} (P : Y → Type 0) (h : X → Y) (xs : List X) where
  -- if this holds of the rest, it holds of all
  abbrev pub AllIfRest : ℕ → Type 0
  AllIfRest n = All P (map h (drop n xs)) → All P (map h xs)

  module _ (i : ℕ) (d : X) (less : i < length xs) where
    pub one_less : P (h (get_or xs i d)) → AllIfRest i → AllIfRest (i + 1)
    one_less this before rest = before (subst (λ ys. All P (map h ys)) (sym (drop_at xs i d less)) (All-cons P (h (get_or xs i d)) (map h (drop (i + 1) xs)) this rest))

    pub one_not : (P (h (get_or xs i d)) → ⊥) → All P (map h xs) → ⊥
    one_not not all =
        let long = length-map xs h in
        not (subst P (get_or-map h xs i d (h d) less) (all i (h d) (omega (arith, less, long))))

  pub all_seen : (i : ℕ) → length xs ≤ i → AllIfRest i → All P (map h xs)
  all_seen i over before = before (subst (λ ys. All P (map h ys)) (sym (at_drop_all (λ ys. ys) xs i over)) (All-nil P))
