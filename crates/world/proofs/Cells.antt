-- The memory in which the threads of a code begin, and the words of its cells.
use Rattle.std.proofs.Common.{◌≡◌, ◌≢◌, ◌<◌, ◌==◌, ◌⊎◌, inl, inr, ℕ, zero, suc, Bool, true, false, List, [], ◌∷◌, length, slice_index, refl, sym, subst, arith}
use Rattle.std.specs.Prelude.{if◌then◌else◌}
use Rattle.std.proofs.lemmas.Bool.Decides.{eqb_tells}
use Rattle.syntax.specs.Behaviours.{IsMemory}
use Rattle.syntax.proofs.words.Words.{initial_words}
use Rattle.bytecode.specs.Code.{Code}
use Rattle.bytecode.specs.Initial.{initial_of}
use Rattle.bytecode.specs.Valid.{bounds_of}
use Rattle.norec_core.specs.declared.step.Access.{Access}
use Rattle.norec_core.specs.declared.step.Access.TheVariants.{LoadWord, Swap}
use Rattle.norec_core.specs.declared.step.Answer.TheVariants.{Lost, Won}
use Rattle.norec_core.specs.Accesses.{IsAnswerTo}
use Rattle.machine.specs.NamedCells.{AccessFits}
use Rattle.machine.specs.Worlds.{answer}
use Rattle.machine.specs.States.{IsWordOf}

pub initial_fits : (code : Code) → IsMemory (bounds_of code) (initial_of code)
initial_fits code = initial_words code.globals

-- a cell's word is below the cell's bound
word_at : (bs ws : List ℕ) (a : ℕ) → a < length bs → IsMemory bs ws → slice_index ws a < slice_index bs a
word_at [] ws a there is = absurd (omega (arith, there))
word_at (b ∷ bs) [] a there is = absurd is
word_at (b ∷ bs) (w ∷ ws) zero there is = is.0
word_at (b ∷ bs) (w ∷ ws) (suc a) there is = word_at bs ws a (omega (arith, there)) is.1

pub word_fits : (code : Code) (x : Access) (lock : ℕ) (words : List ℕ) → AccessFits (length (bounds_of code)) x → IsMemory (bounds_of code) words → IsWordOf code x (answer lock words x)
word_fits code (LoadWord a) lock words there is = word_at (bounds_of code) words a there is
word_fits code (Swap from) lock words there is = at (lock == from)
  where
    at : (b : Bool) → IsWordOf code (Swap from) (if b then Won else Lost lock)
    at true = tt
    at false = tt
word_fits code x lock words there is = tt

-- the answer is one to its access
pub answer_fits : (x : Access) (lock : ℕ) (words : List ℕ) → IsAnswerTo x (answer lock words x)
answer_fits (Swap from) lock words = at (eqb_tells lock from)
  where
    at : ((lock == from) ≡ true) × (lock ≡ from) ⊎ ((lock == from) ≡ false) × (lock ≢ from) → IsAnswerTo (Swap from) (if lock == from then Won else Lost lock)
    at (inl f) = subst (λ (b : Bool). IsAnswerTo (Swap from) (if b then Won else Lost lock)) (sym f.0) tt
    at (inr f) = subst (λ (b : Bool). IsAnswerTo (Swap from) (if b then Won else Lost lock)) (sym f.0) f.1
answer_fits x lock words = tt

-- a memory of the code has a word for each cell
pub memory_length : (bs ws : List ℕ) → IsMemory bs ws → length bs ≡ length ws
memory_length [] [] is = refl
memory_length [] (w ∷ ws) is = absurd is
memory_length (b ∷ bs) [] is = absurd is
memory_length (b ∷ bs) (w ∷ ws) is = (let e = memory_length bs ws is.1 in omega arith)
