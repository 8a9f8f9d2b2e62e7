-- The invariant of the machine's steps. It is about a lock, words and a list of parts, and each step changes one part.
use Rattle.std.specs.Prelude.{◌≡◌, ◌≢◌, ◌<◌, ◌≤◌, ◌+◌, ◌%◌, ◌⊎◌, ℕ, Bool, true, false, List, [], ◌∷◌, ◌++◌, Option}
use Rattle.std.specs.Prelude.{None, Some, length, map, slice_index}
use Rattle.std.specs.List.{slice_get, AllByRecursion}
use Rattle.write_log.specs.Overlay.{overlay, Lacks, IsDistinct}
use Rattle.read_log.specs.Agreement.{Agrees}
use Rattle.read_log.specs.inner.Agreement.{AgreesBelow}
use Rattle.syntax.specs.declared.thread_end.Status.{Status}
use Rattle.syntax.specs.declared.thread_end.Status.TheVariants.{Running}
use Rattle.syntax.specs.Behaviours.{Memory, IsMemory}
use Rattle.bytecode.specs.Effects.{Effect, after_cancel}
use Rattle.bytecode.specs.Effects.Effect.{Read, Begin, Commit, Irrevocable}
use Rattle.bytecode.specs.Sequential.{outside, start, steps}
use Rattle.norec_core.specs.declared.step.Phase.{Phase}
use Rattle.norec_core.specs.declared.step.Phase.TheVariants.{AtOperation, ReadsLock, ValidatesTime, ValidatesEntry}
use Rattle.norec_core.specs.declared.step.Phase.TheVariants.{Stores}
use Rattle.norec_core.specs.Attempts.{Attempt, Checkpoint}
use Rattle.machine.specs.Threads.{Thread}
use Rattle.machine.specs.Worlds.{Record, Part, World}
use Rattle.machine.specs.Explained.{has_lock, stored_of}
pub use Rattle.machine.specs.Open.{inside, inner_of, inners_of, inside_of}

-- The committed history: top is the lock value after the last commit, mem the memory at each even lock value up to top,
-- owner the thread that committed from there, holder the thread that has the lock, and stored the pairs that it has
-- stored so far.
pub record History : Type 0 where
  pub lock : ℕ
  pub top : ℕ
  pub mem : ℕ → Memory
  pub owner : ℕ → ℕ
  pub holder : Option ℕ
  pub stored : List (ℕ × ℕ)

abbrev pub LockIs : History → Option ℕ → Type 0
LockIs h None = (h.lock ≡ h.top) × (h.stored ≡ [])
LockIs h (Some t) = h.lock ≡ h.top + 1

-- the word of each of these pairs is below its cell's bound
abbrev pub AreWords : List ℕ → List (ℕ × ℕ) → Type 0
AreWords bounds pairs = AllByRecursion (λ (p : ℕ × ℕ). p.1 < slice_index bounds p.0) pairs

-- the lock and the words, by the history
pub record IsHistory (bounds : List ℕ) (h : History) (words : List ℕ) : Type 0 where
  -- an even lock value is the one after the last commit
  pub even : h.top % 2 ≡ 0
  -- a free lock has the last commit's value, a held lock one more
  pub lock : LockIs h h.holder
  -- the memory under an even lock, and under a commit that has stored a part of its log
  pub contents : words ≡ overlay (h.mem h.top) h.stored
  -- the states that transactions find and leave are memories
  pub memories : (s : ℕ) → s ≤ h.top → IsMemory bounds (h.mem s)
  -- the words stay below their bounds while a commit stores
  pub stored_words : AreWords bounds h.stored

-- the memory that a transaction of thread t left: the next one if it took the lock, otherwise the one it found
abbrev pub LeftIs : History → ℕ → Record → Bool → Type 0
LeftIs h t x true = (x.snapshot + 2 ≤ h.top) × (h.owner x.snapshot ≡ t) × (x.left ≡ h.mem (x.snapshot + 2))
LeftIs h t x false = (x.snapshot ≤ h.top) × (x.left ≡ x.found)

-- a record of thread t
pub record RecordOk (h : History) (t : ℕ) (x : Record) : Type 0 where
  -- a snapshot is the value of a free lock
  pub even : x.snapshot % 2 ≡ 0
  -- the transaction found the memory at its last snapshot
  pub found : x.found ≡ h.mem x.snapshot
  -- the transaction is followed by its own memory, or leaves the memory that it found: so runs are chained
  pub left : LeftIs h t x x.took_lock

-- the lock value from which a later transaction of the same thread begins
abbrev pub next_snapshot : ℕ → Bool → ℕ
next_snapshot s true = s + 2
next_snapshot s false = s

-- a thread's own records are in order, between two lock values
abbrev pub Ordered : ℕ → List Record → ℕ → Type 0
Ordered s [] e = s ≤ e
Ordered s (x ∷ xs) e = (s ≤ x.snapshot) × Ordered (next_snapshot x.snapshot x.took_lock) xs e

abbrev pub HasTaker : ℕ → List Record → Type 0
HasTaker s [] = ⊥
HasTaker s (x ∷ xs) = ((x.took_lock ≡ true) × (x.snapshot ≡ s)) ⊎ HasTaker s xs

abbrev pub bound_of : {C : Type 0} → History → Option (Attempt C) → ℕ
bound_of h None = h.top
bound_of h (Some a) = a.snapshot

abbrev pub founds_in : List Record → List Memory
founds_in xs = map (λ (x : Record). x.found) xs

abbrev pub lefts_in : List Record → List Memory
lefts_in xs = map (λ (x : Record). x.left) xs

-- the memories that an attempt may have found: those that agree with its read log, or its base while the lock is kept
pub record MayHaveFound (reads : List (ℕ × ℕ)) (kept : Bool) (base m : Memory) : Type 0 where
  pub agrees : Agrees m reads
  pub known : kept ≡ true → m ≡ base

-- who holds the lock, by whether the attempt of thread t has it
abbrev pub LockBy : {C : Type 0} → History → ℕ → Attempt C → Bool → Type 0
LockBy h t a true = (h.holder ≡ Some t) × (a.snapshot ≡ h.top) × (h.stored ≡ stored_of a.writes a.phase)
LockBy h t a false = h.holder ≢ Some t

-- a write log: one pair for each cell, with a word below its bound
abbrev pub IsLog : List ℕ → List (ℕ × ℕ) → Type 0
IsLog bounds writes = IsDistinct writes × AreWords bounds writes

-- what a step of thread t may do to the history
pub record Moves (t : ℕ) (h k : History) : Type 0 where
  -- validation's time stays at most the lock
  pub lock : h.lock ≤ k.lock
  -- snapshots stay at most the last commit's value
  pub top : h.top ≤ k.top
  -- the memories that attempts and records found are unchanged
  pub mem : (s : ℕ) → s ≤ h.top → k.mem s ≡ h.mem s
  -- past commits are unchanged
  pub owner : (s : ℕ) → s < h.top → k.owner s ≡ h.owner s
  -- a new commit is the stepping thread's own
  pub new : (s : ℕ) → s % 2 ≡ 0 → h.top ≤ s → s < k.top → k.owner s ≡ t
  -- no other thread takes the lock from its holder, or stores for it
  pub holds : (u : ℕ) → u ≢ t → h.holder ≡ Some u → (k.holder ≡ Some u) × (k.top ≡ h.top) × (k.stored ≡ h.stored)
  -- no thread gives the lock to another one
  pub held : (u : ℕ) → u ≢ t → k.holder ≡ Some u → h.holder ≡ Some u

-- the operations that need validation
abbrev pub Validates : {C : Type 0} → Effect C → Type 0
Validates (Read cell k) = Unit {0}
Validates (Commit c) = Unit {0}
Validates (Irrevocable c) = Unit {0}
Validates _ = ⊥

module _ {C : Type 0} (code : C → Effect C) where
  -- after these transactions the thread's meaning is in c, outside transactions, whatever memories come next
  abbrev pub ComesTo : C → List Record → C → List ℕ → Status → Type 0
  ComesTo c0 xs c text status =
      (n : ℕ) × ((more : List Memory) →
      steps code n (start c0 (founds_in xs ++ more)) ≡ outside c more (lefts_in xs) text status)

  -- from an attempt's begin, in each memory that it may have found, the thread's meaning is where the attempt is
  abbrev pub Reaches : List ℕ → Memory → C → List ℕ → C → Attempt C → List ℕ → Type 0
  Reaches bounds base c1 text1 c a text =
      (n : ℕ) × ((m : Memory) (founds lefts : List Memory) → length m ≡ length bounds →
      MayHaveFound a.reads a.kept base m →
      steps code n (inside c1 (inside_of code m a.saved [] [] false) founds lefts text1)
      ≡ inside c (inside_of code m a.saved a.writes a.inner a.kept) founds lefts text)

  -- the attempt's begin
  pub record Begun (bounds : List ℕ) (h : History) (c0 : C) (xs : List Record) (c : C) (a : Attempt C)
      (text : List ℕ) : Type 0 where
    pub c1 : C
    pub text1 : List ℕ
    -- the meaning enters the transaction here, and a cancel continues at the same place in both
    pub begins : code a.saved ≡ Begin c1 (after_cancel (code a.saved) a.saved)
    -- the meaning reaches the begin with exactly the thread's own founds and lefts: the thread is in its state
    pub comes_to : ComesTo c0 xs a.saved text1 Running
    -- nothing was printed without the lock, so an abort leaves the text unchanged
    pub same_text : a.kept ≡ false → text1 ≡ text
    -- the meaning reaches the attempt's state in every memory that the attempt may have found: so a new snapshot needs
    -- no proof, and the end is one step of the run
    pub reaches : Reaches bounds (h.mem a.snapshot) c1 text1 c a text

  -- properties of the values in hand
  abbrev pub InHand : History → Attempt C → C → Phase → Type 0
  InHand h a c AtOperation = Unit {0}
  InHand h a c (ReadsLock v) = (ad : ℕ) × (k : ℕ → C) × (code c ≡ Read ad k) × (Lacks ad a.writes) × (a.kept ≡ false)
      × (h.lock ≡ a.snapshot → slice_index (h.mem a.snapshot) ad ≡ v)
  InHand h a c ValidatesTime = (a.kept ≡ false) × Validates (code c)
  InHand h a c (ValidatesEntry time i) = (a.kept ≡ false) × (time % 2 ≡ 0) × (a.snapshot ≤ time) × (time ≤ h.lock)
      × (h.lock ≡ time → AgreesBelow i (h.mem time) a.reads) × Validates (code c)
  InHand h a c (Stores i) = (a.inner ≡ []) × ((d : C) × (code c ≡ Commit d))

  -- facts that an attempt's own steps mostly preserve: found is the memory at the snapshot, top the last commit's value
  pub record Steady (bounds : List ℕ) (top : ℕ) (found base : Memory) (status : Status) (first snapshot : ℕ)
      (reads writes : List (ℕ × ℕ)) (inner : List (Checkpoint C)) : Type 0 where
    -- the thread's end is open
    pub running : status ≡ Running
    -- a snapshot is the value of a free lock
    pub even : snapshot % 2 ≡ 0
    -- the moment is not before the attempt's begin: order in time
    pub since : first ≤ snapshot
    -- the moment is a place of the run
    pub in_time : snapshot ≤ top
    -- the memory that a record will say it found
    pub based : base ≡ found
    -- the moment's memory agrees with all reads
    pub agrees : Agrees found reads
    -- the log that a commit stores: one pair for each cell, below its bound
    pub log : IsLog bounds writes
    -- the log that a cancel returns to: one pair for each cell, below its bound
    pub marks : AllByRecursion (λ (k : Checkpoint C). IsLog bounds k.writes) inner

  pub record AttemptOk (bounds : List ℕ) (h : History) (t : ℕ) (c0 : C) (xs : List Record) (base : Memory) (c : C)
      (a : Attempt C) (text : List ℕ) (status : Status) : Type 0 where
    pub steady : Steady bounds h.top (h.mem a.snapshot) base status a.first a.snapshot a.reads a.writes a.inner
    -- the meaning is in the attempt's state
    pub begun : Begun bounds h c0 xs c a text
    -- a single holder, whose snapshot is the last one, and the pairs that it has stored
    pub holds : LockBy h t a (has_lock a.kept a.phase)
    -- a word or a validation in hand is right if the lock still has its value, so another thread's step preserves or
    -- invalidates it
    pub in_hand : InHand h a c a.phase

  abbrev pub Now : List ℕ → History → ℕ → C → List Record → Memory → Thread C → Option (Attempt C) → Type 0
  Now bounds h t c0 xs base th None = ComesTo c0 xs th.configuration th.text th.status × (h.holder ≢ Some t)
  Now bounds h t c0 xs base th (Some a) = AttemptOk bounds h t c0 xs base th.configuration a th.text th.status

  -- one part, by the history: no other part occurs in it
  pub record PartOk (bounds : List ℕ) (h : History) (t : ℕ) (c0 : C) (p : Part C) : Type 0 where
    -- the transactions that took effect are part of the history
    pub each : AllByRecursion (RecordOk h t) p.records
    -- a merge exists, and no step of the thread is after its attempt's moment
    pub ordered : Ordered 0 p.records (bound_of h p.thread.attempt)
    -- each number occurs in every merge
    pub complete : (s : ℕ) → s % 2 ≡ 0 → s < h.top → h.owner s ≡ t → HasTaker s p.records
    -- the thread is in its meaning's state, or its attempt is
    pub now : Now bounds h t c0 p.records p.base p.thread p.thread.attempt

  -- the invariant
  pub record Invariant (bounds : List ℕ) (init : ℕ → C) (m0 : Memory) (h : History) (w : World C) : Type 0 where
    -- the words are those of the history
    pub history : IsHistory bounds h w.words
    -- the lock is that of the history
    pub lock : w.lock ≡ h.lock
    -- runs begin at the initial memory
    pub first : h.mem 0 ≡ m0
    -- the lock's holder is a thread of the world: exactly one has it while it is odd
    pub holder : (t : ℕ) → h.holder ≡ Some t → t < length w.parts
    -- each commit is one of a thread of the world, so it is in every merge
    pub owners : (s : ℕ) → s % 2 ≡ 0 → s < h.top → h.owner s < length w.parts
    -- each part by the history alone, so a step has only its own to prove
    pub parts : (t : ℕ) (p : Part C) → slice_get w.parts t ≡ Some p → PartOk bounds h t (init t) p

  -- the result of a step of thread t: an extended history, with the part and the words by it
  pub record StepOk (bounds : List ℕ) (t : ℕ) (c0 : C) (h : History) (lock : ℕ) (words : List ℕ)
      (p : Part C) : Type 0 where
    pub after : History
    pub history : IsHistory bounds after words
    pub same_lock : lock ≡ after.lock
    pub part : PartOk bounds after t c0 p
    pub moves : Moves t h after
