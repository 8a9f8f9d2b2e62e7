-- The invariant of a world, by the machine's world that its steps lead to.
use Rattle.std.specs.Prelude.{◌≡◌, ◌≤◌, ℕ, suc, List, [], ◌∷◌, length}
use Rattle.bytecode.specs.Beginning.{beginning}
use Rattle.bytecode.specs.Code.{Code, Configuration, effect}
use Rattle.bytecode.specs.Initial.{initial_of}
use Rattle.bytecode.specs.Valid.{IsValid}
use Rattle.machine.specs.Standing.{IsThreadOf}
use Rattle.machine.specs.States.{ThreadState, first_thread}
use Rattle.machine.specs.Traces.{RunsOn}
use Rattle.machine.specs.Worlds.{Part, new_world}
use Rattle.world.specs.Simulations.{Simulation, world_of, accesses_of}

-- a thread of the code, that of the machine's part, with at most this many accesses
pub record IsOfPart (code : Code) (most : ℕ) (x : ThreadState) (p : Part Configuration) : Type 0 where
  pub thread : x.thread ≡ p.thread
  pub of : IsThreadOf code x.thread
  pub few : x.accesses ≤ most

-- the threads of the parts, in their order
abbrev pub AreOfParts : Code → ℕ → List ThreadState → List (Part Configuration) → Type 0
AreOfParts code most [] [] = Unit {0}
AreOfParts code most (x ∷ xs) (p ∷ ps) = IsOfPart code most x p × AreOfParts code most xs ps
AreOfParts code most _ _ = ⊥

-- threads at their beginning, from this number on
abbrev pub AreFirstFrom : Code → ℕ → List ThreadState → Type 0
AreFirstFrom code t [] = Unit {0}
AreFirstFrom code t (x ∷ xs) =
    ((x.thread ≡ first_thread code t) × IsThreadOf code x.thread × (x.accesses ≡ 0)) × AreFirstFrom code (suc t) xs

-- the lock, the words and the threads are those of the world that the steps lead to, and none of the steps stops
pub record IsWorldOf (s : Simulation) (lock : ℕ) (words : List ℕ) (threads : List ThreadState) (accesses : ℕ) :
    Type 0 where
  pub valid : IsValid s.code
  pub few : s.threads ≤ 64
  pub count : s.threads ≡ length threads
  pub lock_is : lock ≡ (world_of s).lock
  pub words_are : words ≡ (world_of s).words
  pub threads_are : AreOfParts s.code (length s.trace) threads (world_of s).parts
  pub accesses_are : accesses ≡ accesses_of s
  pub at_most : accesses ≤ length s.trace
  pub runs_on : RunsOn (effect s.code) s.trace (new_world (beginning s.code) (initial_of s.code) s.threads)
