-- The rule's claims about each thread and the words, in terms of runs.
use Rattle.std.specs.Prelude.{ℕ, ◌≡◌, ◌≤◌, ◌^◌, List, ◌++◌, Some, drop}
use Rattle.std.specs.List.{slice_get}
use mathlib.Core.Option.{some}
use lib.ListN.{get_elem?}
use Rattle.bytecode.specs.Code.{Code, Configuration, effect}
use Rattle.bytecode.specs.Initial.{initial_of}
use Rattle.bytecode.specs.Sequential.{meaning}
use Rattle.bytecode.specs.Valid.{bounds_of}
use Rattle.machine.specs.Answered.{AnswersOk, Heard, LocksFrom, NumbersBelow}
use Rattle.machine.specs.Computes.{AttemptsCompute}
use Rattle.machine.specs.Drops.{DropsAreBounded}
use Rattle.machine.specs.Explained.{IsExplainedBy}
use Rattle.machine.specs.Merges.{Entry, IsMerge}
use Rattle.machine.specs.OneOrder.{IsInOneOrder}
use Rattle.machine.specs.Serializable.{merge_after}
use Rattle.machine.specs.Strict.{IsStrictlySerializable}
use Rattle.machine.specs.Traces.{IsTraced}
use Rattle.machine.specs.Worlds.{Part, World}
use Rattle.syntax.specs.Behaviours.{Behaviour, Means}
use Rattle.bytecode.specs.Beginning.{beginning}
use Rattle.shared_words.specs.Setup.{IsPartAfter, IsPrefix, Setup}
use Rattle.shared_words.specs.Views.{ViewPart, Views, Among}
use Rattle.shared_words.specs.Rule.{IsRuled}

-- a merge explains the world, as a run of what the threads do
abbrev pub IsExplainedAtSeats : Behaviour → Setup → World Configuration → List Entry → Type 0
IsExplainedAtSeats does key w es = IsExplainedBy does (bounds_of key.code) (initial_of key.code) key.threads w es

-- what the threads of the code do
abbrev pub code_does : Code → Behaviour
code_does code = meaning (effect code) (beginning code)

-- There is a merge of the records, and every merge is a run of the code that contains every thread's state. While the
-- lock is even, the words are its last memory; while it is odd, one thread has it, and the words are that memory
-- overlaid with this thread's stores so far. Each attempt has a moment, and even one that will abort is in the state
-- that its code's meaning reaches on the memory of its moment.
pub record RunsSay (key : Setup) (w : World Configuration) : Type 0 where
  pub entries : List Entry
  pub is_merge : IsMerge w.parts entries
  pub each : (es : List Entry) → IsMerge w.parts es → IsExplainedAtSeats (code_does key.code) key w es
  pub attempts : AttemptsCompute (effect key.code) (beginning key.code) (initial_of key.code) w

-- Some list of steps leads to the world and to all responses, so it does exactly what the threads did; and in it each
-- thread has aborted at most once for each transaction of another thread that took the lock, and once more while the
-- lock is held. KeepsTime covers the real-time order in which the steps were made, the rule's own list.
pub record DropsSay (key : Setup) (w : World Configuration) (heard : List (List Heard)) : Type 0 where
  pub traced : IsTraced (effect key.code) (beginning key.code) (initial_of key.code) key.threads w heard
  pub bounded :
      DropsAreBounded (effect key.code) (beginning key.code) (initial_of key.code) key.threads traced.trace

-- The responses of a thread are in order and each is explained; its records that took the lock have numbers below the
-- lock, its floor is not above the lock, and no lock value received since is below the floor.
pub record PartSays (key : Setup) (w : World Configuration) (p : ViewPart) : Type 0 where
  pub answers : AnswersOk (initial_of key.code) w p.heard
  pub below : NumbersBelow w.lock p.part.records
  pub floor : p.floor ≤ w.lock
  pub since : LocksFrom p.floor (drop p.floor_at p.heard)

-- Every thread's part is in some view, with its value in the world; so the part of a thread that has the lock is.
abbrev pub AllAreSeen : World Configuration → Views → Type 0
AllAreSeen w views = (t : ℕ) (p : Part Configuration) → slice_get w.parts t ≡ Some p →
    (seat : ℕ) × (view : List ViewPart) × (q : ViewPart) × (get_elem? views seat ≡ some view) × Among q view
    × (q.number ≡ t) × (q.part ≡ p)

abbrev pub RuleSays : (key : Setup) (words : List ℕ) (views : Views) → IsRuled key words views → Type 0
RuleSays key words views rule =
    RunsSay key rule.world
    × DropsSay key rule.world rule.heard
    × AllAreSeen rule.world views
    × ((seat : ℕ) (view : List ViewPart) (p : ViewPart) → get_elem? views seat ≡ some view → Among p view →
    PartSays key rule.world p)

-- the transactions that took effect in these steps, in the order in which they did
abbrev pub merge_of : Setup → List ℕ → List Entry
merge_of key ts = merge_after (effect key.code) (beginning key.code) (initial_of key.code) key.threads ts

-- after these steps, and this many more, a thread's later transactions come after all that has taken effect
abbrev pub IsStrictAtSeats : Behaviour → Setup → List ℕ → List ℕ → Type 0
IsStrictAtSeats does key ts us = IsStrictlySerializable (effect key.code) (beginning key.code) does
    (bounds_of key.code) (initial_of key.code) key.threads ts us

-- These steps, in the order in which they were made, explain the world: the transactions that took effect in them are a
-- merge of its records, and all attempts are in one order. For each prefix of the list, if a thread had no attempt
-- then, its transactions begun later come after all that had taken effect by then; the same for every program that the
-- code means.
pub record KeepsTime (key : Setup) (trace : List ℕ) (w : World Configuration) : Type 0 where
  pub is_merge : IsMerge w.parts (merge_of key trace)
  pub attempts : IsInOneOrder (effect key.code) (beginning key.code) (initial_of key.code) key.threads trace
  pub strict : (seen us : List ℕ) → trace ≡ seen ++ us → IsStrictAtSeats (code_does key.code) key seen us
  pub programs : (does : Behaviour) → Means (bounds_of key.code) (code_does key.code) does → key.threads ≤ 2 ^ 32 →
      (seen us : List ℕ) → trace ≡ seen ++ us → IsStrictAtSeats does key seen us

-- There is one list of steps for all moments. Each seat has seen a prefix of it, after which its thread is in the state
-- that the seat knows.
pub record InTimeSays (key : Setup) (trace : List ℕ) (w : World Configuration) (views : Views) : Type 0 where
  pub time : KeepsTime key trace w
  pub seats : (seat : ℕ) (view : List ViewPart) (p : ViewPart) → get_elem? views seat ≡ some view → Among p view →
      IsPrefix p.seen trace × IsPartAfter key p.seen p.number p.part p.heard
