-- The responses that each thread of a world has received. This includes the worlds of real threads: each access there
-- is an atomic step on the shared words, and a thread learns only the responses.
use Rattle.std.specs.Prelude.{◌≡◌, ◌≤◌, ◌<◌, ◌+◌, ◌*◌, ◌⊎◌, ℕ, zero, suc, Bool, true, false, List, [], ◌∷◌, ◌++◌}
use Rattle.std.specs.Prelude.{Option, None, Some, replicate, slice_index, slice_set, if◌then◌else◌}
use Rattle.std.specs.List.{slice_get}
use Rattle.syntax.specs.Behaviours.{Memory, last_memory}
use Rattle.bytecode.specs.Effects.{Effect}
use Rattle.norec_core.specs.declared.step.Access.{Access}
use Rattle.norec_core.specs.declared.step.Access.TheVariants.{Local, LoadLock, LoadWord, Swap, StoreWord, StoreLock}
use Rattle.norec_core.specs.declared.step.Answer.{Answer}
use Rattle.norec_core.specs.declared.step.Answer.TheVariants.{Done, Value, Won, Lost}
use Rattle.norec_core.specs.Accesses.{IsAnswerTo, stops}
use Rattle.norec_core.specs.Attempts.{Attempt}
use Rattle.machine.specs.Threads.{Thread, access, step_with}
use Rattle.machine.specs.Worlds.{Record, Part, World, answer, step, part_after, new_world}
use Rattle.machine.specs.Merges.{Entry, IsMerge, run_of, count_takers}
use Rattle.machine.specs.Explained.{HasLock, stored_of}

-- an access with its response
pub record Heard : Type 0 where
  pub access : Access
  pub answer : Answer

abbrev pub is_local : Access → Bool
is_local Local = true
is_local LoadLock = false
is_local (LoadWord a) = false
is_local (Swap from) = false
is_local (StoreWord a v) = false
is_local (StoreLock n) = false

-- a local step receives no response
abbrev pub hearing : Access → Answer → List Heard
hearing x a = if is_local x then [] else record { access = x; answer = a } ∷ []

-- The worlds that lists of steps without a stop lead to, with the responses of each thread.
pub data Answered {C : Type 0} (code : C → Effect C) (init : ℕ → C) (m0 : List ℕ) (threads : ℕ) : World C →
    List (List Heard) → Type 0 where
  new : Answered code init m0 threads (new_world init m0 threads) (replicate threads [])
  moved : (w : World C) (heard : List (List Heard)) (t : ℕ) (p : Part C) (hs : List Heard) →
      Answered code init m0 threads w heard → slice_get w.parts t ≡ Some p → slice_get heard t ≡ Some hs →
      stops (access code p.thread) ≡ false
      → Answered code init m0 threads (step code w t)
      (slice_set heard t (hs ++ hearing (access code p.thread) (answer w.lock w.words (access code p.thread))))

-- a local step: it depends on the part alone
abbrev pub local_step : {C : Type 0} → (C → Effect C) → Part C → Part C
local_step code p = part_after p.base p (step_with code p.thread Done)

-- n steps of a part, if they are all local
abbrev pub after_local_steps : {C : Type 0} → (C → Effect C) → ℕ → Part C → Option (Part C)
after_local_steps code zero p = Some p
after_local_steps code (suc k) p = if is_local (access code p.thread) then after_local_steps code k (local_step code p)
    else None

-- The thread reaches this one in n steps if its accesses receive exactly these responses in order, and no step stops.
pub data StepsHearing {C : Type 0} (code : C → Effect C) (th : Thread C) : ℕ → List Heard → Thread C → Type 0 where
  none : StepsHearing code th zero [] th
  local_more : (n : ℕ) (hs : List Heard) (u : Thread C) → StepsHearing code th n hs u → is_local (access code u) ≡ true
      →
      StepsHearing code th (suc n) hs (step_with code u Done).thread
  heard_more : (n : ℕ) (hs : List Heard) (u : Thread C) (a : Answer) → StepsHearing code th n hs u →
      is_local (access code u) ≡ false → stops (access code u) ≡ false
      → StepsHearing code th (suc n) (hs ++ record { access = access code u; answer = a } ∷ [])
      (step_with code u a).thread

-- the lock value in a response
abbrev pub lock_value : Access → Answer → Option ℕ
lock_value LoadLock (Value n) = Some n
lock_value (Swap from) (Lost n) = Some n
lock_value (Swap from) Won = Some from
lock_value x a = None

-- each lock value among these responses is at least n, or at most n
abbrev pub LocksFrom : ℕ → List Heard → Type 0
LocksFrom n [] = Unit {0}
LocksFrom n (h ∷ hs) = ((l : ℕ) → lock_value h.access h.answer ≡ Some l → n ≤ l) × LocksFrom n hs

abbrev pub LocksTo : ℕ → List Heard → Type 0
LocksTo n [] = Unit {0}
LocksTo n (h ∷ hs) = ((l : ℕ) → lock_value h.access h.answer ≡ Some l → l ≤ n) × LocksTo n hs

-- no lock value among these responses is below an earlier one
abbrev pub Ascends : List Heard → Type 0
Ascends [] = Unit {0}
Ascends (h ∷ hs) = ((l : ℕ) → lock_value h.access h.answer ≡ Some l → LocksFrom l hs) × Ascends hs

-- each record that took the lock did so at a lock value below n
abbrev pub NumbersBelow : ℕ → List Record → Type 0
NumbersBelow n [] = Unit {0}
NumbersBelow n (r ∷ rs) = (r.took_lock ≡ true → r.snapshot + 1 < n) × NumbersBelow n rs

-- the last lock value in a response
abbrev pub next_lock : ℕ → Option ℕ → ℕ
next_lock l None = l
next_lock l (Some n) = n

-- each response is one to its access
abbrev pub AreAnswers : List Heard → Type 0
AreAnswers [] = Unit {0}
AreAnswers (h ∷ hs) = IsAnswerTo h.access h.answer × AreAnswers hs

-- the pair is among these pairs
abbrev pub IsAmong : ℕ × ℕ → List (ℕ × ℕ) → Type 0
IsAmong p [] = ⊥
IsAmong p (q ∷ qs) = (p ≡ q) ⊎ IsAmong p qs

-- The word v of cell a, received after the lock value l, is that of a place of the run with at least half of l
-- lock-taking steps before it, or that of a pair which the lock's holder has stored so far.
abbrev pub IsVisibleWord : {C : Type 0} → Memory → World C → List Entry → ℕ → ℕ → ℕ → Type 0
IsVisibleWord {C} m0 w es l a v =
    ((before : List Entry) × (after : List Entry) × (es ≡ before ++ after) × (l ≤ 2 * count_takers before + 1)
    × (slice_index (last_memory m0 (run_of before)) a ≡ v))
    ⊎ ((t : ℕ) × (p : Part C) × (b : Attempt C) × (slice_get w.parts t ≡ Some p) × HasLock p b
    × IsAmong (a, v) (stored_of b.writes b.phase))

abbrev pub WordOf : {C : Type 0} → Memory → World C → List Entry → ℕ → Access → Answer → Type 0
WordOf m0 w es l (LoadWord a) (Value v) = IsVisibleWord m0 w es l a v
WordOf m0 w es l x y = Unit {0}

-- each word among these responses is one that a place of the run has, or that is stored so far
abbrev pub AreVisibleWords : {C : Type 0} → Memory → World C → List Entry → ℕ → List Heard → Type 0
AreVisibleWords m0 w es l [] = Unit {0}
AreVisibleWords m0 w es l (h ∷ hs) = WordOf m0 w es l h.access h.answer
    × AreVisibleWords m0 w es (next_lock l (lock_value h.access h.answer)) hs

-- In every world, the lock values that a thread receives never fall and are at most the lock; a lost swap found a value
-- other than the expected one; and each word is one that a place of the run has, or that is stored so far.
pub record AnswersOk {C : Type 0} (m0 : Memory) (w : World C) (hs : List Heard) : Type 0 where
  pub ascend : Ascends hs
  pub bounded : LocksTo w.lock hs
  pub fit : AreAnswers hs
  pub words : (es : List Entry) → IsMerge w.parts es → AreVisibleWords m0 w es 0 hs
