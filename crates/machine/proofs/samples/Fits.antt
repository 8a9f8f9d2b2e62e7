-- The worked codes meet the premises of the laws, so all lists of their steps are opaque.
use Rattle.std.proofs.Common.{◌≡◌, ◌<◌, ◌+◌, ◌%◌, ◌^◌, ◌==◌, nat_lt, ℕ, zero, suc, Bool, true, false, cond, List, [], ◌∷◌, Option, None, Some, replicate, refl, sym, ◌∙◌, subst, length, slice_get, slice_index, arith}
use Rattle.std.proofs.lemmas.Bool.{eqb-true}
use Rattle.std.proofs.lemmas.Nat.{mod_below}
use Rattle.std.proofs.lemmas.Option.{slice_get_within}
use Rattle.syntax.specs.Behaviours.{Memory, IsMemory}
use Rattle.bytecode.specs.Effects.{Effect, FitsCells}
use Rattle.bytecode.specs.Sequential.{meaning}
use Rattle.machine.specs.Serializable.{IsOpaque}
use Rattle.machine.proofs.runs.Programs.{opaque}
use Rattle.machine.proofs.samples.Samples.{Instruction, Configuration, begins, effect_of, effects_of, instruction_effect}
use Rattle.machine.proofs.samples.Samples.Instruction.{Add, Sub, Div, Jnz, Read, Write}
use Rattle.machine.proofs.samples.Rows.{count_code, copy_code, back_code, div_code, look_code, nested_code, cancel_code, relaxed_code, trap_code, inner_code, inner_cancel_code, two_prints_code, kept_undo_code, outer_code, middle_code, all_code, kept_all_code}

-- the cell is there, and its bound is 2 ^ 32
abbrev is_word : Option ℕ → Bool
is_word None = false
is_word (Some b) = b == 2 ^ 32

-- the cells of the instruction, and of the code, are such cells
abbrev names_cell : List ℕ → Instruction → Bool
names_cell bounds (Read d c) = is_word (slice_get bounds c)
names_cell bounds (Write c a) = is_word (slice_get bounds c)
names_cell bounds _ = true

abbrev names_cells : List ℕ → List Instruction → Bool
names_cells bounds [] = true
names_cells bounds (i ∷ is) = cond (names_cell bounds i) (names_cells bounds is) false

index_at : (xs : List ℕ) (i b : ℕ) → slice_get xs i ≡ Some b → slice_index xs i ≡ b
index_at [] i b e = absurd (cc)
index_at (x ∷ xs) zero b e = let same : x ≡ b = cc in same
index_at (x ∷ xs) (suc i) b e = index_at xs i b e

cell : (bounds : List ℕ) (c : ℕ) → is_word (slice_get bounds c) ≡ true → (c < length bounds) × (slice_index bounds c ≡ 2 ^ 32)
cell bounds c e = at (slice_get bounds c) refl e
  where
    at : (o : Option ℕ) → slice_get bounds c ≡ o → is_word o ≡ true → (c < length bounds) × (slice_index bounds c ≡ 2 ^ 32)
    at None f g = absurd (cc)
    at (Some b) f g = (slice_get_within bounds c b f, index_at bounds c b f ∙ eqb-true b (2 ^ 32) g)

named : (bounds : List ℕ) (code : List Instruction) (p : ℕ) (i : Instruction) → names_cells bounds code ≡ true → slice_get code p ≡ Some i → names_cell bounds i ≡ true
named bounds [] p i e f = absurd (cc)
named bounds (j ∷ js) p i e f = at (names_cell bounds j) refl e p f (λ q h k. named bounds js q i h k)
  where
    at : (b : Bool) → names_cell bounds j ≡ b → cond b (names_cells bounds js) false ≡ true → (q : ℕ) → slice_get (j ∷ js) q ≡ Some i
        → ((r : ℕ) → names_cells bounds js ≡ true → slice_get js r ≡ Some i → names_cell bounds i ≡ true) → names_cell bounds i ≡ true
    at true g h zero k rest = let same : j ≡ i = cc in subst (λ (x : Instruction). names_cell bounds x ≡ true) same g
    at true g h (suc q) k rest = rest q h k
    at false g h q k rest = absurd (cc)

abbrev Fitting : List ℕ → Effect Configuration → Type 0
Fitting bounds (Effect.Read a k) = a < length bounds
Fitting bounds (Effect.Write a v d) = (a < length bounds) × (v < slice_index bounds a)
Fitting bounds _ = Unit {0}

module _ (bounds : List ℕ) where
  either : (b : Bool) (x y : Effect Configuration) → Fitting bounds x → Fitting bounds y → Fitting bounds (cond b x y)
  either true x y g h = g
  either false x y g h = h

  fitting : (c : Configuration) (i : Instruction) → names_cell bounds i ≡ true → Fitting bounds (instruction_effect c i)
  fitting c (Add d a b) e = either (nat_lt (slice_index c.registers a + slice_index c.registers b) (2 ^ 31)) _ _ tt tt
  fitting c (Sub d a b) e = either (nat_lt (slice_index c.registers a) (slice_index c.registers b)) _ _ tt tt
  fitting c (Div d a b) e = either (slice_index c.registers b == 0) _ _ tt tt
  fitting c (Jnz a p) e = either (slice_index c.registers a == 0) _ _ tt tt
  fitting c (Read d a) e = (cell bounds a e).0
  fitting c (Write a r) e =
      let f = cell bounds a e in
      let lt = mod_below (slice_index c.registers r) (2 ^ 32) (omega arith) in
      (f.0, subst (λ (n : ℕ). slice_index c.registers r % 2 ^ 32 < n) (sym f.1) lt)
  fitting c i e = tt

  fitting_code : (code : List Instruction) → names_cells bounds code ≡ true → (c : Configuration) → Fitting bounds (effects_of code c)
  fitting_code code all c = at (slice_get code c.place) refl
    where
      at : (o : Option Instruction) → slice_get code c.place ≡ o → Fitting bounds (effect_of c o)
      at None e = tt
      at (Some i) e = fitting c i (named bounds code c.place i all e)

  pub fits : (code : List Instruction) → names_cells bounds code ≡ true → FitsCells (effects_of code) bounds
  fits code all = record { reads = λ c a k e. subst (Fitting bounds) e (fitting_code code all c); writes = λ c d a v e. subst (Fitting bounds) e (fitting_code code all c) }

-- all lists of steps of the code, by so many threads, from this memory
abbrev pub AllOpaque : List ℕ → Memory → List Instruction → Type 0
AllOpaque bounds m0 code = (threads : ℕ) (steps : List ℕ) → IsOpaque (effects_of code) begins (meaning (effects_of code) begins) bounds m0 threads steps

all_opaque : (bounds : List ℕ) (m0 : Memory) (code : List Instruction) → names_cells bounds code ≡ true → IsMemory bounds m0 → AllOpaque bounds m0 code
all_opaque bounds m0 code all is_memory = opaque (effects_of code) begins bounds m0 is_memory (fits bounds code all)

-- so many cells of 32 bits
abbrev words : ℕ → List ℕ
words n = replicate n (2 ^ 32)

pub counting_is_opaque : AllOpaque (words 1) (0 ∷ []) count_code
counting_is_opaque = all_opaque (words 1) (0 ∷ []) count_code refl (omega arith, tt)

copying_is_opaque : AllOpaque (words 2) (5 ∷ 0 ∷ []) copy_code
copying_is_opaque = all_opaque (words 2) (5 ∷ 0 ∷ []) copy_code refl (omega arith, (omega arith, tt))

going_back_is_opaque : AllOpaque (words 3) (1 ∷ 0 ∷ 0 ∷ []) back_code
going_back_is_opaque = all_opaque (words 3) (1 ∷ 0 ∷ 0 ∷ []) back_code refl (omega arith, (omega arith, (omega arith, tt)))

dividing_is_opaque : AllOpaque (words 3) (3 ∷ 3 ∷ 0 ∷ []) div_code
dividing_is_opaque = all_opaque (words 3) (3 ∷ 3 ∷ 0 ∷ []) div_code refl (omega arith, (omega arith, (omega arith, tt)))

looking_is_opaque : AllOpaque (words 1) (1 ∷ []) look_code
looking_is_opaque = all_opaque (words 1) (1 ∷ []) look_code refl (omega arith, tt)

nesting_is_opaque : AllOpaque (words 3) (0 ∷ 1 ∷ 0 ∷ []) nested_code
nesting_is_opaque = all_opaque (words 3) (0 ∷ 1 ∷ 0 ∷ []) nested_code refl (omega arith, (omega arith, (omega arith, tt)))

cancelling_is_opaque : AllOpaque (words 1) (1 ∷ []) cancel_code
cancelling_is_opaque = all_opaque (words 1) (1 ∷ []) cancel_code refl (omega arith, tt)

relaxed_is_opaque : AllOpaque (words 1) (0 ∷ []) relaxed_code
relaxed_is_opaque = all_opaque (words 1) (0 ∷ []) relaxed_code refl (omega arith, tt)

trapping_is_opaque : AllOpaque (words 2) (2147483647 ∷ 0 ∷ []) trap_code
trapping_is_opaque = all_opaque (words 2) (2147483647 ∷ 0 ∷ []) trap_code refl (omega arith, (omega arith, tt))

inner_is_opaque : AllOpaque (words 2) (4 ∷ 7 ∷ []) inner_code
inner_is_opaque = all_opaque (words 2) (4 ∷ 7 ∷ []) inner_code refl (omega arith, (omega arith, tt))

inner_cancel_is_opaque : AllOpaque (words 2) (1 ∷ 0 ∷ []) inner_cancel_code
inner_cancel_is_opaque = all_opaque (words 2) (1 ∷ 0 ∷ []) inner_cancel_code refl (omega arith, (omega arith, tt))

printing_is_opaque : AllOpaque (words 1) (4 ∷ []) two_prints_code
printing_is_opaque = all_opaque (words 1) (4 ∷ []) two_prints_code refl (omega arith, tt)

kept_undo_is_opaque : AllOpaque (words 1) (0 ∷ []) kept_undo_code
kept_undo_is_opaque = all_opaque (words 1) (0 ∷ []) kept_undo_code refl (omega arith, tt)

outer_is_opaque : AllOpaque (words 3) (0 ∷ 1 ∷ 0 ∷ []) outer_code
outer_is_opaque = all_opaque (words 3) (0 ∷ 1 ∷ 0 ∷ []) outer_code refl (omega arith, (omega arith, (omega arith, tt)))

middle_is_opaque : AllOpaque (words 2) (1 ∷ 0 ∷ []) middle_code
middle_is_opaque = all_opaque (words 2) (1 ∷ 0 ∷ []) middle_code refl (omega arith, (omega arith, tt))

all_is_opaque : AllOpaque (words 1) (1 ∷ []) all_code
all_is_opaque = all_opaque (words 1) (1 ∷ []) all_code refl (omega arith, tt)

kept_all_is_opaque : AllOpaque (words 1) (0 ∷ []) kept_all_code
kept_all_is_opaque = all_opaque (words 1) (0 ∷ []) kept_all_code refl (omega arith, tt)
