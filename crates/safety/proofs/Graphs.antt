-- A graph with one more number, and with one more link.
use Rattle.std.proofs.Common.{◌≡◌, ℕ, zero, suc, ◌+◌, ◌<◌, List, [], ◌∷◌, ◌++◌, length, length-append, drop, get_or, set, take, refl, sym, ap, subst, ◌∙◌, arith, bytes_eq, Bool, true, false, cond, if◌then◌else◌, Option, Some, None, ◌⊎◌, inl, inr}
use Rattle.std.specs.Prelude.{Contains}
use Rattle.std.proofs.lemmas.List.{get_or-set_same, get_or-set_other}
use Rattle.std.proofs.lemmas.List.Elements.{Contains-push, Contains-append_left, Contains-append_cases}
use Rattle.std.proofs.lemmas.Bool.{cases_eq}
use Rattle.std.proofs.Math.Seq.{take-append_seam}
use Rattle.std.proofs.lemmas.Slice.Eq.{bytes_eq-Decides}
use Rattle.std.specs.Option.{option_or}
use Rattle.name_tables.specs.Named.{first, with_declaration}
use Rattle.name_tables.proofs.Firsts.{first_declared}
use Rattle.safety.specs.Links.{Link}
use Rattle.safety.specs.inner.Graphs.{IsNumbered, IsNumber, IsEdge, callers_at, HasLinks, ExtendsMap}
use Rattle.safety.specs.inner.Closing.{IsWithin}
use Rattle.safety.proofs.Closing.{one_is}

some_is : (a b : ℕ) → Some a ≡ Some b → a ≡ b
some_is a b e = cc

not_none : (a : ℕ) → None ≡ Some a → ⊥
not_none a e = cc

padded : (cs : List (List ℕ)) (j : ℕ) → get_or (cs ++ [] ∷ []) j [] ≡ get_or cs j []
padded [] zero = refl
padded [] (suc j) = refl
padded (c ∷ cs) zero = refl
padded (c ∷ cs) (suc j) = padded cs j

pub number_more : (old new : List ℕ → Option ℕ) → ExtendsMap old new → (o : Option (List ℕ)) (j : ℕ) → IsNumber old o j → IsNumber new o j
number_more old new h None j e = e
number_more old new h (Some x) j e = h x j e

-- one more number, with no callers
module _ (old new : List ℕ → Option ℕ) (callers : List (List ℕ)) (name : List ℕ) (none : old name ≡ None) (is : (x : List ℕ) → new x ≡ cond (bytes_eq name x) (Some (length callers)) (old x)) (h : IsNumbered old callers) where
  at_name : (x : List ℕ) → bytes_eq name x ≡ true → name ≡ x
  at_name x e = (bytes_eq-Decides name x).0 e

  pub extended : ExtendsMap old new
  extended x k e = by (bytes_eq name x) refl
    where
      by : (b : Bool) → bytes_eq name x ≡ b → new x ≡ Some k
      by true g = absurd (not_none k (sym none ∙ ap old (at_name x g) ∙ e))
      by false g = is x ∙ ap (λ b. cond b (Some (length callers)) (old x)) g ∙ e

  -- an old number, or the new one
  data Which (x : List ℕ) (k : ℕ) : Type 0 where
    older : old x ≡ Some k → Which x k
    newer : name ≡ x → k ≡ length callers → Which x k

  which : (x : List ℕ) (k : ℕ) → new x ≡ Some k → Which x k
  which x k e = by (bytes_eq name x) refl
    where
      by : (b : Bool) → bytes_eq name x ≡ b → Which x k
      by true g = newer (at_name x g) (some_is k (length callers) (sym e ∙ is x ∙ ap (λ b. cond b (Some (length callers)) (old x)) g))
      by false g = older (sym (is x ∙ ap (λ b. cond b (Some (length callers)) (old x)) g) ∙ e)

  size : length (callers ++ [] ∷ []) ≡ length callers + 1
  size = length-append callers ([] ∷ [])

  within_by : (x : List ℕ) (k : ℕ) → Which x k → (0 < k) × (k < length (callers ++ [] ∷ []))
  within_by x k (older e) = (let w = h.within x k e in (w.0, (let more = size in omega (arith, w.1, more))))
  within_by x k (newer e g) = (let begun = h.begun in let more = size in (omega (arith, begun, g), omega (arith, g, more)))

  distinct_by : (x y : List ℕ) (k : ℕ) → Which x k → Which y k → x ≡ y
  distinct_by x y k (older e) (older f) = h.distinct x y k e f
  distinct_by x y k (older e) (newer f g) = absurd (let w = h.within x k e in omega (arith, w.1, g))
  distinct_by x y k (newer e g) (older f) = absurd (let w = h.within y k f in omega (arith, w.1, g))
  distinct_by x y k (newer e g) (newer f i) = sym e ∙ f

  pub numbered_more : (all : List (List ℕ)) → all ≡ callers ++ [] ∷ [] → IsNumbered new all
  numbered_more all same = subst (IsNumbered new) (sym same) (record {
    begun = (let begun = h.begun in let more = size in omega (arith, begun, more));
    within = λ x k e. within_by x k (which x k e);
    distinct = λ x y k e f. distinct_by x y k (which x k e) (which y k f);
  })

  pub linked_more : (links : List Link) (all : List (List ℕ)) → all ≡ callers ++ [] ∷ [] → HasLinks links old callers → HasLinks links new all
  linked_more links all same k = subst (HasLinks links new) (sym same) (record {
    complete = λ l c. (let s = k.complete l c in (s.0, s.1, (number_more old new extended l.callee s.0 s.2.0, extended l.caller s.1 s.2.1), subst (λ cs. Contains cs s.1) (sym (padded callers s.0)) s.3));
    sound = λ j i c. (let s = k.sound j i (subst (λ cs. Contains cs i) (padded callers j) c) in (s.0, s.1, (number_more old new extended s.0.callee j s.2.0, extended s.0.caller i s.2.1)));
  })

-- what a name that is new stands for
pub put_number : (old new : List (List ℕ × ℕ)) (name : List ℕ) (k : ℕ) → first old name ≡ None → new ≡ with_declaration old name k → (x : List ℕ) → first new x ≡ cond (bytes_eq name x) (Some k) (first old x)
put_number old new name k none is x = ap (λ es. first es x) is ∙ first_declared old name k x ∙ by (bytes_eq name x) refl
  where
    nothing : (o : Option ℕ) → option_or o None ≡ o
    nothing None = refl
    nothing (Some n) = refl

    by : (b : Bool) → bytes_eq name x ≡ b → option_or (first old x) (if b then Some k else None) ≡ cond b (Some k) (first old x)
    by true e = ap (λ o. option_or o (Some k)) (ap (first old) (sym ((bytes_eq-Decides name x).0 e)) ∙ none)
    by false e = nothing (first old x)

-- one more link
module _ (numbers : List ℕ → Option ℕ) (callers all : List (List ℕ)) (l : Link) (j i : ℕ) (is : all ≡ set callers j (callers_at callers j ++ i ∷ [])) (less : j < length callers) where
  here : callers_at all j ≡ callers_at callers j ++ i ∷ []
  here = ap (λ cs. callers_at cs j) is ∙ get_or-set_same callers j (callers_at callers j ++ i ∷ []) [] less

  there : (k : ℕ) → (k ≡ j → ⊥) → callers_at all k ≡ callers_at callers k
  there k n = ap (λ cs. callers_at cs k) is ∙ get_or-set_other callers j k (callers_at callers j ++ i ∷ []) [] n

  caller_more : (k m : ℕ) → Contains (callers_at callers k) m → Contains (callers_at all k) m
  caller_more k m c = elim (cases_eq k j) [
    | inl e ↦ subst (λ cs. Contains cs m) (sym (ap (callers_at all) e ∙ here)) (Contains-append_left (callers_at callers j) (i ∷ []) m (subst (λ q. Contains (callers_at callers q) m) e c))
    | inr n ↦ subst (λ cs. Contains cs m) (sym (there k n)) c
  ]

  -- an old edge, or the new one
  data Edge (k m : ℕ) : Type 0 where
    older : Contains (callers_at callers k) m → Edge k m
    newer : k ≡ j → m ≡ i → Edge k m

  edge : (k m : ℕ) → Contains (callers_at all k) m → Edge k m
  edge k m c = elim (cases_eq k j) [
    | inl e ↦ by e (Contains-append_cases (callers_at callers j) (i ∷ []) m (subst (λ cs. Contains cs m) (ap (callers_at all) e ∙ here) c))
    | inr n ↦ older (subst (λ cs. Contains cs m) (there k n) c)
  ]
    where
      by : k ≡ j → Contains (callers_at callers j) m ⊎ Contains (i ∷ []) m → Edge k m
      by e (inl old) = older (subst (λ q. Contains (callers_at callers q) m) (sym e) old)
      by e (inr new) = newer e (one_is i m new)

  module _ (links : List Link) (h : HasLinks links numbers callers) (own : IsEdge numbers l j i) where
    abbrev Stands : Link → Type 0
    Stands m = (a : ℕ) × (b : ℕ) × IsEdge numbers m a b × Contains (callers_at all a) b

    abbrev Said : ℕ → ℕ → Type 0
    Said k m = (o : Link) × Contains (links ++ l ∷ []) o × IsEdge numbers o k m

    only : (m : Link) → Contains (l ∷ []) m → m ≡ l
    only m (zero, lt, e) = sym e
    only m (suc k, lt, e) = absurd (omega (arith, lt))

    complete_by : (m : Link) → Contains links m ⊎ Contains (l ∷ []) m → Stands m
    complete_by m (inl c) = (let s = h.complete m c in (s.0, s.1, s.2, caller_more s.0 s.1 s.3))
    complete_by m (inr c) = subst Stands (sym (only m c)) (j, i, own, subst (λ cs. Contains cs i) (sym here) (Contains-push (callers_at callers j) i))

    sound_by : (k m : ℕ) → Edge k m → Said k m
    sound_by k m (older c) = (let s = h.sound k m c in (s.0, Contains-append_left links (l ∷ []) s.0 s.1, s.2))
    sound_by k m (newer e f) = subst (λ a. Said a m) (sym e) (subst (λ b. Said j b) (sym f) (l, Contains-push links l, own))

    pub linked_one : HasLinks (links ++ l ∷ []) numbers all
    linked_one = record {
      complete = λ m c. complete_by m (Contains-append_cases links (l ∷ []) m c);
      sound = λ k m c. sound_by k m (edge k m c);
    }

-- callers are numbers of the graph
pub callers_within : (links : List Link) (numbers : List ℕ → Option ℕ) (callers : List (List ℕ)) → IsNumbered numbers callers → HasLinks links numbers callers → IsWithin callers
callers_within links numbers callers h k j i c = (let s = k.sound j i c in (h.within s.0.caller i s.2.1).1)

pub callee_within : (numbers : List ℕ → Option ℕ) (callers : List (List ℕ)) (o : Option (List ℕ)) (j : ℕ) → IsNumbered numbers callers → IsNumber numbers o j → j < length callers
callee_within numbers callers None j h e = let begun = h.begun in omega (arith, e, begun)
callee_within numbers callers (Some x) j h e = (h.within x j e).1

-- a list lent as a slice, with its writes
pub written_back : {X : Type 0} (new old : List X) (n : ℕ) → n ≡ length old → length new ≡ length old → take n (new ++ drop (length new) old) ≡ new
written_back new old n e f = ap (λ k. take k (new ++ drop (length new) old)) (e ∙ sym f) ∙ take-append_seam new (drop (length new) old)
