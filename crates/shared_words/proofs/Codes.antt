-- The memory in which the threads of a code begin, and the words of its cells.
use Rattle.std.proofs.Common.{◌≡◌, ◌<◌, ℕ, zero, suc, List, [], ◌∷◌, length, slice_index, arith}
use Rattle.syntax.specs.Behaviours.{IsMemory}
use Rattle.syntax.proofs.words.Words.{initial_words}
use Rattle.bytecode.specs.Code.{Code}
use Rattle.bytecode.specs.Initial.{initial_of}
use Rattle.bytecode.specs.Valid.{bounds_of, cells_of}
use Rattle.bytecode.proofs.Fits.{as_many}
use Rattle.norec_core.specs.declared.step.Access.{Access}
use Rattle.norec_core.specs.declared.step.Access.TheVariants.{LoadWord, Swap}
use Rattle.norec_core.specs.declared.step.Answer.TheVariants.{Lost, Won}
use Rattle.std.specs.Prelude.{Bool, true, false, if◌then◌else◌, ◌==◌}
use Rattle.machine.specs.NamedCells.{AccessFits}
use Rattle.machine.specs.Worlds.{answer}
use Rattle.machine.specs.States.{IsWordOf}

pub initial_fits : (code : Code) → IsMemory (bounds_of code) (initial_of code)
initial_fits code = initial_words code.globals

pub count_bounds : (code : Code) → length (bounds_of code) ≡ cells_of code
count_bounds code = as_many code

-- a cell's word is below the cell's bound
word_at : (bs ws : List ℕ) (a : ℕ) → a < length bs → IsMemory bs ws → slice_index ws a < slice_index bs a
word_at [] ws a there is = absurd (omega (arith, there))
word_at (b ∷ bs) [] a there is = absurd is
word_at (b ∷ bs) (w ∷ ws) zero there is = is.0
word_at (b ∷ bs) (w ∷ ws) (suc a) there is = word_at bs ws a (omega (arith, there)) is.1

pub word_fits : (code : Code) (x : Access) (lock : ℕ) (words : List ℕ) → AccessFits (length (bounds_of code)) x → IsMemory (bounds_of code) words → IsWordOf code x (answer lock words x)
word_fits code (LoadWord a) lock words there is = word_at (bounds_of code) words a there is
word_fits code (Swap from) lock words there is = at (lock == from)
  where
    at : (b : Bool) → IsWordOf code (Swap from) (if b then Won else Lost lock)
    at true = tt
    at false = tt
word_fits code x lock words there is = tt
