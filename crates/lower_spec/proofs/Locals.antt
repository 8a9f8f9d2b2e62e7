-- Locals in registers: their types and words, writing one, and the end of a scope.
use Rattle.std.proofs.Common.{◌≡◌, ◌≢◌, ℕ, zero, suc, ◌+◌, ◌<◌, Bool, true, false, List, [], ◌∷◌, ◌++◌, length, take, Option, Some, None, refl, sym, ap, ◌∙◌, subst, arith, length-append, append_assoc}
use Rattle.std.specs.Prelude.{map, bytes_eq, if◌then◌else◌}
use Rattle.std.specs.List.{AllByRecursion}
use Rattle.std.specs.Option.{option_or}
use Rattle.std.proofs.lemmas.List.{length-map, map-append}
use Rattle.lex.specs.declared.token.Scalar.{Scalar}
use Rattle.syntax.specs.Numbers.{modulus}
use Rattle.syntax.specs.Names.{Local, newest, newest_from, word_at, with_word}
use Rattle.syntax.specs.Laws.{shape}
use Rattle.syntax.proofs.words.Words.{some_below}
use Rattle.lower_spec.specs.Expressions.{LocalScope, IsLike}

-- each local holds a word of its type
abbrev pub AreWords : List Local → Type 0
AreWords ls = AllByRecursion (λ (l : Local). l.word < modulus l.ty) ls

-- the local of an index has this type, if there is one
abbrev pub TypeIs : List Local → ℕ → Scalar → Type 0
TypeIs [] i t = Unit {0}
TypeIs (l ∷ ls) zero t = l.ty ≡ t
TypeIs (l ∷ ls) (suc i) t = TypeIs ls i t

pub word_typed : (ls : List Local) (i : ℕ) (t : Scalar) → TypeIs ls i t → AreWords ls → word_at ls i < modulus t
word_typed [] zero t e h = some_below t
word_typed [] (suc i) t e h = some_below t
word_typed (l ∷ ls) zero t e h = subst (λ (u : Scalar). l.word < modulus u) e h.0
word_typed (l ∷ ls) (suc i) t e h = word_typed ls i t e h.1

pub word_written : (ls : List Local) (i w : ℕ) → i < length ls → word_at (with_word ls i w) i ≡ w
word_written [] i w h = absurd (omega (arith, h))
word_written (l ∷ ls) zero w h = refl
word_written (l ∷ ls) (suc i) w h = word_written ls i w (omega (arith, h))

pub word_other : (ls : List Local) (i j w : ℕ) → j ≢ i → word_at (with_word ls i w) j ≡ word_at ls j
word_other [] i j w h = refl
word_other (l ∷ ls) zero zero w h = absurd (h refl)
word_other (l ∷ ls) zero (suc j) w h = refl
word_other (l ∷ ls) (suc i) zero w h = refl
word_other (l ∷ ls) (suc i) (suc j) w h = word_other ls i j w (λ e. h (ap suc e))

pub words_written : (ls : List Local) (i w : ℕ) (t : Scalar) → TypeIs ls i t → w < modulus t → AreWords ls → AreWords (with_word ls i w)
words_written [] i w t e b h = tt
words_written (l ∷ ls) zero w t e b h = (subst (λ (u : Scalar). w < modulus u) (sym e) b, h.1)
words_written (l ∷ ls) (suc i) w t e b h = (h.0, words_written ls i w t e b h.1)

pub shape_written : (ls : List Local) (i w : ℕ) → map shape (with_word ls i w) ≡ map shape ls
shape_written [] i w = refl
shape_written (l ∷ ls) zero w = refl
shape_written (l ∷ ls) (suc i) w = ap (λ ss. shape l ∷ ss) (shape_written ls i w)

pub length_like : (scope : LocalScope) (ls : List Local) → IsLike scope ls → length ls ≡ length scope
length_like scope ls e = sym (length-map ls shape) ∙ ap length e ∙ length-map scope shape

-- the end of a scope
pub word_taken : (ls : List Local) (n i : ℕ) → i < n → word_at (take n ls) i ≡ word_at ls i
word_taken ls zero i h = absurd (omega (arith, h))
word_taken [] (suc n) i h = refl
word_taken (l ∷ ls) (suc n) zero h = refl
word_taken (l ∷ ls) (suc n) (suc i) h = word_taken ls n i (omega (arith, h))

pub words_taken : (ls : List Local) (n : ℕ) → AreWords ls → AreWords (take n ls)
words_taken ls zero h = tt
words_taken [] (suc n) h = tt
words_taken (l ∷ ls) (suc n) h = (h.0, words_taken ls n h.1)

abbrev first_or : {X : Type 0} → X → List X → X
first_or d [] = d
first_or d (x ∷ xs) = x

abbrev others : {X : Type 0} → List X → List X
others [] = []
others (x ∷ xs) = xs

pub shape_taken : (ls : List Local) (scope more : LocalScope) → map shape ls ≡ map shape (scope ++ more) → map shape (take (length scope) ls) ≡ map shape scope
shape_taken ls [] more e = refl
shape_taken [] (s ∷ scope) more e = absurd (omega (arith, ap length e))
shape_taken (l ∷ ls) (s ∷ scope) more e =
    ap (λ x. x ∷ map shape (take (length scope) ls)) (ap (first_or (shape l)) e)
    ∙ ap (λ ss. shape s ∷ ss) (shape_taken ls scope more (ap others e))

-- a new local
pub word_new : (ls : List Local) (l : Local) (i : ℕ) → i < length ls → word_at (ls ++ l ∷ []) i ≡ word_at ls i
word_new [] l i h = absurd (omega (arith, h))
word_new (k ∷ ls) l zero h = refl
word_new (k ∷ ls) l (suc i) h = word_new ls l i (omega (arith, h))

pub word_last : (ls : List Local) (l : Local) → word_at (ls ++ l ∷ []) (length ls) ≡ l.word
word_last [] l = refl
word_last (k ∷ ls) l = word_last ls l

pub words_new : (ls : List Local) (l : Local) → AreWords ls → l.word < modulus l.ty → AreWords (ls ++ l ∷ [])
words_new [] l h b = (b, tt)
words_new (k ∷ ls) l h b = (h.0, words_new ls l h.1 b)

pub type_last : (ls : List Local) (l : Local) → TypeIs (ls ++ l ∷ []) (length ls) l.ty
type_last [] l = refl
type_last (k ∷ ls) l = type_last ls l

pub shape_new : (scope ls : List Local) (l m : Local) → map shape ls ≡ map shape scope → shape l ≡ shape m → map shape (ls ++ l ∷ []) ≡ map shape (scope ++ m ∷ [])
shape_new scope ls l m e f = map-append shape ls (l ∷ []) ∙ ap (λ ss. ss ++ shape l ∷ []) e ∙ ap (λ x. map shape scope ++ x ∷ []) f ∙ sym (map-append shape scope (m ∷ []))

-- the types of locals that are like those of a scope
pub type_like : (scope ls : List Local) (i : ℕ) (t : Scalar) → IsLike scope ls → TypeIs scope i t → TypeIs ls i t
type_like scope [] i t e h = tt
type_like [] (l ∷ ls) i t e h = absurd (omega (arith, ap length e))
type_like (s ∷ scope) (l ∷ ls) zero t e h = ap (λ (x : List ℕ × Scalar). x.1) (ap (first_or (shape l)) e) ∙ h
type_like (s ∷ scope) (l ∷ ls) (suc i) t e h = type_like scope ls i t (ap others e) h

-- a local that is found has the type that is said of it
abbrev pub KnownLocal : List Local → Option (ℕ × Scalar) → Type 0
KnownLocal ls None = Unit {0}
KnownLocal ls (Some l) = TypeIs ls l.0 l.1

newest_behind : (before ls : List Local) (x : List ℕ) → KnownLocal (before ++ ls) (newest_from (length before) ls x)
newest_behind before [] x = tt
newest_behind before (k ∷ ls) x = by (newest_from (length before + 1) ls x) (later (newest_behind (before ++ k ∷ []) ls x)) (bytes_eq k.name x)
  where
    later : KnownLocal ((before ++ k ∷ []) ++ ls) (newest_from (length (before ++ k ∷ [])) ls x) → KnownLocal (before ++ k ∷ ls) (newest_from (length before + 1) ls x)
    later h =
        subst (λ (n : ℕ). KnownLocal (before ++ k ∷ ls) (newest_from n ls x)) (length-append before (k ∷ []))
        (subst (λ (ms : List Local). KnownLocal ms (newest_from (length (before ++ k ∷ [])) ls x)) (append_assoc before (k ∷ []) ls) h)

    here : (before : List Local) → TypeIs (before ++ k ∷ ls) (length before) k.ty
    here [] = refl
    here (b ∷ before) = here before

    by : (o : Option (ℕ × Scalar)) → KnownLocal (before ++ k ∷ ls) o → (b : Bool) → KnownLocal (before ++ k ∷ ls) (option_or o (if b then Some (length before, k.ty) else None))
    by (Some l) h b = h
    by None h true = here before
    by None h false = tt

pub newest_known : (ls : List Local) (x : List ℕ) → KnownLocal ls (newest ls x)
newest_known ls x = newest_behind [] ls x
