-- The invariant of the words and of everything that the seats know.
use Rattle.std.specs.Prelude.{◌≡◌, ℕ, suc, ◌+◌, ◌≤◌, ◌==◌, nat_lt, false, MatchBool, if◌then◌else◌, List, [], ◌∷◌, ◌++◌}
use Rattle.std.specs.Prelude.{drop, Some}
use Rattle.std.specs.List.{slice_get}
use mathlib.Core.Option.{some}
use lib.ListN.{get_elem?}
use Rattle.atomic_table.specs.Table.{Me}
use Rattle.bytecode.specs.Code.{Configuration, effect}
use Rattle.bytecode.specs.Valid.{IsValid}
use Rattle.norec_core.specs.declared.step.Access.{Access}
use Rattle.norec_core.specs.declared.step.Access.TheVariants.{Local, LoadLock, LoadWord, Swap, StoreWord, StoreLock}
use Rattle.norec_core.specs.declared.step.Answer.{Answer}
use Rattle.norec_core.specs.declared.step.Answer.TheVariants.{Done, Value, Won, Lost}
use Rattle.machine.specs.Answered.{Heard, LocksFrom, LocksTo, NumbersBelow, is_local, after_local_steps}
use Rattle.machine.specs.Threads.{Thread, access, step_with}
use Rattle.machine.specs.Worlds.{Part, World, part_after}
use Rattle.norec_core.specs.Accesses.{IsAnswerTo}
use Rattle.machine.specs.States.{IsWordOf}
use Rattle.shared_words.specs.Setup.{IsPartAfter, IsPrefix, IsTraceOf, Setup, world_of}
use Rattle.shared_words.specs.Views.{ViewPart, Views, parts_in, Among, with_floor}

-- the invariant of one part
pub record Fits (key : Setup) (ts : List ℕ) (w : World Configuration) (heard : List (List Heard)) (p : ViewPart)
    : Type 0 where
  pub setup : p.setup ≡ key
  pub part : slice_get w.parts p.number ≡ Some p.part
  pub answers : slice_get heard p.number ≡ Some p.heard
  pub floor : p.floor ≤ w.lock
  pub since : LocksFrom p.floor (drop p.floor_at p.heard)
  pub seen : IsPrefix p.seen ts
  pub stands : IsPartAfter key p.seen p.number p.part p.heard

-- The words are the lock and the words of a world that a list of steps of the machine leads to. Each thread has one
-- part among all views, which is its part in that world; and that list begins with what each seat has seen.
pub record IsRuled (key : Setup) (words : List ℕ) (views : Views) : Type 0 where
  pub trace : List ℕ
  pub world : World Configuration
  pub heard : List (List Heard)
  pub words_are : words ≡ world.lock ∷ world.words
  pub valid : IsValid key.code
  pub is_trace : IsTraceOf key trace world heard
  pub once : (number : ℕ) → parts_in number views ≡ (if nat_lt number key.threads then 1 else 0)
  pub fits : (seat : ℕ) (view : List ViewPart) (p : ViewPart) → get_elem? views seat ≡ some view → Among p view →
      Fits key trace world heard p

-- the response to an access that found n
abbrev pub reply : Access → ℕ → Answer
reply Local n = Done
reply LoadLock n = Value n
reply (LoadWord a) n = Value n
reply (Swap from) n = if n == from then Won else Lost n
reply (StoreWord a v) n = Done
reply (StoreLock l) n = Done

-- a seat's knowledge; it holds no slot
abbrev pub SeatView : Type 0
SeatView = Me (Unit {0}) (List ViewPart)

-- the responses with one more
abbrev pub more_heard : List Heard → Access → Answer → List Heard
more_heard hs x a = hs ++ record { access = x; answer = a } ∷ []

-- the part and its responses after an access of the thread, which by then had reached the current part, and is the last
-- of these steps
abbrev pub part_after_access : ViewPart → List ℕ → Part Configuration → Access → Answer → List ℕ → ℕ → ViewPart
part_after_access p words now x a ts k = record p {
  part = part_after words now (step_with (effect p.setup.code) now.thread a);
  heard = more_heard p.heard x a;
  seen = ts;
  made = p.made + suc k;
}

-- a part and its view after an access
pub record TookAs (p : ViewPart) (k : ℕ) (now : Part Configuration) (x : Access) (a : Answer) (after : List ViewPart)
    : Type 0 where
  pub words : List ℕ
  pub steps : List ℕ
  pub leaves : after ≡ part_after_access p words now x a steps k ∷ []
  pub answers : IsAnswerTo x a
  pub word : IsWordOf p.setup.code x a
  pub since : LocksFrom p.floor (drop p.floor_at (more_heard p.heard x a))
  pub seen : IsPrefix p.seen steps
  pub stands : IsPartAfter p.setup steps p.number (part_after_access p words now x a steps k).part (more_heard p.heard x a)

-- an access, which found n, of a thread that had made local steps since the seat's last one
abbrev pub Took : SeatView → ℕ → SeatView → Type 0
Took m n w =
    (w.1 ≡ m.1)
    × ((p : ViewPart) (k : ℕ) (now : Part Configuration) → m.0 ≡ p ∷ [] →
    after_local_steps (effect p.setup.code) k p.part ≡ Some now
    → is_local (access (effect p.setup.code) now.thread) ≡ false →
    TookAs p k now (access (effect p.setup.code) now.thread)
    (reply (access (effect p.setup.code) now.thread) n) w.0)

-- the seat represents only one thread, which has made local steps since the seat's last access and now has this part
abbrev pub SitsAt : Setup → SeatView → Part Configuration → Type 0
SitsAt key m now =
    (p : ViewPart) × (k : ℕ) × (m ≡ (p ∷ [], [])) × (p.setup ≡ key)
    × (after_local_steps (effect key.code) k p.part ≡ Some now)

-- the seat represents only this thread
abbrev pub Sits : Setup → SeatView → Thread Configuration → Type 0
Sits key m th = (now : Part Configuration) × SitsAt key m now × (now.thread ≡ th)

-- the seat represents only one thread, whose next access is this
abbrev pub IsNext : Setup → SeatView → Access → Type 0
IsNext key m x = (th : Thread Configuration) × Sits key m th × (access (effect key.code) th ≡ x)

-- one step and its response: local, or an access that the seat made
abbrev pub IsSeatStep : Access → SeatView → Answer → SeatView → Type 0
IsSeatStep x m a w = MatchBool (is_local x) ((w ≡ m) × (a ≡ Done)) ((n : ℕ) × (a ≡ reply x n) × Took m n w)

-- the list of steps with the local ones that the thread has made since the seat's last access
pub record SettledAs (p : ViewPart) (k : ℕ) (now : Part Configuration) (after : List ViewPart) : Type 0 where
  pub steps : List ℕ
  pub leaves : after ≡ record p { part = now; seen = steps; made = p.made + k } ∷ []
  pub seen : IsPrefix p.seen steps
  pub stands : IsPartAfter p.setup steps p.number now p.heard

-- the thread has made this many steps in all
abbrev pub Settled : ℕ → SeatView → SeatView → Type 0
Settled all m w = (w.1 ≡ m.1) × ((p : ViewPart) (k : ℕ) (now : Part Configuration) → m.0 ≡ p ∷ [] →
    after_local_steps (effect p.setup.code) k p.part ≡ Some now → p.made + k ≡ all → SettledAs p k now w.0)

-- the seat represents only one thread, which has made local steps since the seat's last access, and this many in all
abbrev pub SitsAfter : Setup → SeatView → ℕ → Type 0
SitsAfter key m all = (p : ViewPart) × (k : ℕ) × (now : Part Configuration) × (m ≡ (p ∷ [], [])) × (p.setup ≡ key)
    × (after_local_steps (effect key.code) k p.part ≡ Some now) × (p.made + k ≡ all)

-- A lock value n is at least all lock values received so far, above the number of each record that took the lock, and
-- not below the floor. It is the lock after these steps, which begin with all that the seat has seen, and after which
-- the thread's state is unchanged.
pub record MayBeFloor (n : ℕ) (ts : List ℕ) (p : ViewPart) : Type 0 where
  pub locks : LocksTo n p.heard
  pub below : NumbersBelow n p.part.records
  pub floor : p.floor ≤ n
  pub lock : (world_of p.setup ts).lock ≡ n
  pub seen : IsPrefix p.seen ts
  pub stands : IsPartAfter p.setup ts p.number p.part p.heard

-- Two seats that each represent one thread, before and after they met at the lock value n. Then both have seen the same
-- steps, and so everything that each of them had seen.
abbrev pub MeetsBoth : ℕ → SeatView → SeatView → SeatView → SeatView → Type 0
MeetsBoth n m o m' o' = (ts : List ℕ) × ((p q : ViewPart) → m ≡ (p ∷ [], []) → o ≡ (q ∷ [], []) →
    ((m' ≡ (with_floor n ts p ∷ [], [])) × MayBeFloor n ts p) × ((o' ≡ (with_floor n ts q ∷ [], [])) × MayBeFloor n ts q))

-- the table's cells when it is closed, as known to a seat
abbrev pub LeavesCells : Setup → ℕ → SeatView → List ℕ → Type 0
LeavesCells key id m cells =
    (lock : ℕ) × (views : Views) × IsRuled key (lock ∷ cells) views × (get_elem? views id ≡ some m.0)
