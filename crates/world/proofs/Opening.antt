-- A world before any step.
use Rattle.std.proofs.Common.{◌≡◌, ◌≤◌, ◌+◌, ℕ, zero, suc, List, [], ◌∷◌, ◌++◌, length, refl, sym, ◌∙◌, ap, subst, arith}
use Rattle.bytecode.specs.Beginning.{beginning}
use Rattle.bytecode.proofs.Fits.{fits_cells}
use Rattle.bytecode.specs.Code.{Code, effect}
use Rattle.bytecode.specs.Initial.{initial_of}
use Rattle.bytecode.specs.Valid.{IsValid, bounds_of}
use Rattle.machine.specs.Standing.{IsThreadOf}
use Rattle.machine.specs.States.{ThreadState, first_thread}
use Rattle.machine.specs.Worlds.{new_parts}
use Rattle.machine.proofs.runs.Programs.{reaches_end_program}
use Rattle.world.proofs.Cells.{initial_fits}
use Rattle.world.specs.Simulations.{EndsAlone}
use Rattle.world.specs.inner.Following.{AreFirstFrom, AreOfParts, IsWorldOf}

pub first_more : (code : Code) (from : ℕ) (xs : List ThreadState) (y : ThreadState) (t : ℕ) → AreFirstFrom code from xs → from + length xs ≡ t → y.thread ≡ first_thread code t → IsThreadOf code y.thread → y.accesses ≡ 0 → AreFirstFrom code from (xs ++ y ∷ [])
first_more code from [] y t all e is of none = ((is ∙ ap (first_thread code) (let f : t ≡ from = omega arith in f), of, none), tt)
first_more code from (x ∷ xs) y t all e is of none = (all.0, first_more code (suc from) xs y t all.1 (omega arith) is of none)

first_of : (code : Code) (from count : ℕ) (xs : List ThreadState) → AreFirstFrom code from xs → length xs ≡ count → AreOfParts code 0 xs (new_parts (beginning code) from count)
first_of code from zero [] all e = tt
first_of code from zero (x ∷ xs) all e = absurd (omega arith)
first_of code from (suc count) [] all e = absurd (omega arith)
first_of code from (suc count) (x ∷ xs) all e = (record { thread = all.0.0; of = all.0.1; few = (let n = all.0.2 in omega arith) }, first_of code (suc from) count xs all.1 (omega arith))

pub opens : (code : Code) (threads : List ThreadState) → IsValid code → length threads ≤ 64 → AreFirstFrom code 0 threads → IsWorldOf (record { code = code; threads = length threads; trace = [] }) 0 (initial_of code) threads 0
opens code threads valid few all = record {
  valid = valid;
  few = few;
  count = refl;
  lock_is = refl;
  words_are = refl;
  threads_are = first_of code 0 (length threads) threads all refl;
  accesses_are = refl;
  at_most = omega arith;
  runs_on = tt;
}

pub opened_as : (code : Code) (words : List ℕ) (threads : List ThreadState) (trace : List ℕ) → IsValid code → length threads ≤ 64 → AreFirstFrom code 0 threads → words ≡ initial_of code → trace ≡ [] → IsWorldOf (record { code = code; threads = length threads; trace = trace }) 0 words threads 0
opened_as code words threads trace valid few all e f =
    subst (λ (v : List ℕ × List ℕ). IsWorldOf (record { code = code; threads = length threads; trace = v.1 }) 0 v.0 threads 0) (λ i. (sym e i, sym f i)) (opens code threads valid few all)

pub ends_alone : (code : Code) → IsValid code → EndsAlone code
ends_alone code valid program ss n means =
    reaches_end_program (effect code) (beginning code) (bounds_of code) (initial_of code) (initial_fits code) (fits_cells code valid) program means ss n
