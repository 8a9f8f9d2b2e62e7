-- What a step of the core does with the begins that are open and with the words of its logs, by what comes of the operation.
use Rattle.std.proofs.Common.{◌≡◌, ◌≢◌, ◌<◌, ◌≤◌, ◌-◌, ◌^◌, ◌==◌, ◌%◌, ℕ, suc, Bool, true, false, cond, List, [], ◌∷◌, ◌++◌, Option, None, Some, refl, sym, ◌∙◌, ap, subst, slice_get, map, length, take, drop, append_assoc, take-append-drop, length-append, length-take-le, arith}
use Rattle.std.proofs.lemmas.List.{length-map, map-append}
use Rattle.std.specs.List.{AllByRecursion}
use Rattle.write_log.specs.Overlay.{overlay_word, with_write}
use Rattle.norec_core.specs.declared.step.Op.{Op}
use Rattle.norec_core.specs.declared.step.Op.TheVariants as op
use Rattle.norec_core.specs.declared.step.Access.TheVariants.{LoadWord}
use Rattle.norec_core.specs.declared.step.Answer.{Answer}
use Rattle.norec_core.specs.declared.step.Answer.TheVariants.{Done, Value, Won, Lost}
use Rattle.norec_core.specs.declared.step.OpOutcome.{OpOutcome}
use Rattle.norec_core.specs.declared.step.OpOutcome.TheVariants as outcome
use Rattle.norec_core.specs.declared.step.Phase.{Phase}
use Rattle.norec_core.specs.declared.step.Phase.TheVariants.{AtOperation, ReadsLock, ValidatesTime, ValidatesEntry, Stores}
use Rattle.norec_core.specs.Attempts.{Checkpoint, Attempt, Completed}
use Rattle.norec_core.specs.Phases.{CoreStep, on, on_snapshot, validating, idle, core_word, core_read, core_store, core_swap, core_commit, core_cancel, core_operation, core_check, core_time, core_compare, core_phase, core_begin, core_step, core_access, phase_access, operation_access, read_access}
use Rattle.machine.specs.Standing.{begins_of, HaveWords, HasInHand, GivesRegisterWords, GivesWordsIf}
use Rattle.machine.proofs.Levels.{all_left}
use Rattle.machine.proofs.contexts.Words.{FitsRegister}

-- operations that leave the begins as they are
abbrev pub is_plain : Op → Bool
is_plain (op.Write a v) = true
is_plain op.Irrevocable = true
is_plain _ = false

abbrev pub is_read : Op → Bool
is_read (op.Read a) = true
is_read _ = false

abbrev pub is_cancel : Op → Bool
is_cancel op.Cancel = true
is_cancel (op.CancelOuter levels) = true
is_cancel _ = false

-- of so many begins that are open a cancel takes away so many inside the one that it goes back to
abbrev pub TakesAway : Op → (inner all : ℕ) → Type 0
TakesAway op.Cancel inner all = inner ≡ 0
TakesAway (op.CancelOuter levels) inner all = levels ≤ all → inner ≡ levels - 1
TakesAway _ inner all = ⊥

pub cancels_so : (o : Op) (inner all : ℕ) → TakesAway o inner all → is_cancel o ≡ true
cancels_so op.Cancel inner all h = refl
cancels_so (op.CancelOuter levels) inner all h = refl
cancels_so _ inner all h = absurd h

pub plain_stays : (o : Op) → is_plain o ≡ true → is_cancel o ≡ false
plain_stays (op.Write a v) h = refl
plain_stays op.Irrevocable h = refl
plain_stays _ h = absurd (cc)

-- a word that an operation writes fits a register
abbrev pub WritesWord : Op → Type 0
WritesWord (op.Write a v) = v < 2 ^ 64
WritesWord _ = Unit {0}

abbrev pub tells_commit : {S : Type 0} → Option (Attempt S) → Option Completed → Type 0
tells_commit None c = c ≢ None
tells_commit (Some a) c = c ≡ None

pub data Does {S : Type 0} (now : S) (old : List S) (o : Op) (n : CoreStep S) : Type 0 where
  goes : n.outcome ≡ outcome.Going → n.back ≡ None → begins_of n.attempt ≡ old → GivesWordsIf n.attempt → Does now old o n
  reads : (v : ℕ) → is_read o ≡ true → v < 2 ^ 64 → n.outcome ≡ outcome.Read v → n.back ≡ None → begins_of n.attempt ≡ old → GivesWordsIf n.attempt → Does now old o n
  works : is_plain o ≡ true → n.outcome ≡ outcome.Done → n.back ≡ None → begins_of n.attempt ≡ old → GivesWordsIf n.attempt → Does now old o n
  begins : o ≡ op.Begin → n.outcome ≡ outcome.Done → n.back ≡ None → begins_of n.attempt ≡ now ∷ old → GivesWordsIf n.attempt → Does now old o n
  commits : (s : S) → o ≡ op.Commit → n.outcome ≡ outcome.Done → n.back ≡ None → old ≡ s ∷ begins_of n.attempt → GivesWordsIf n.attempt → tells_commit n.attempt n.completed → Does now old o n
  cancels : (inner : List S) (s : S) → TakesAway o (length inner) (length old) → n.outcome ≡ outcome.Done → n.back ≡ Some s → old ≡ inner ++ s ∷ begins_of n.attempt → GivesWordsIf n.attempt → Does now old o n
  drops : (inner : List S) (s : S) → n.outcome ≡ outcome.Aborted → n.back ≡ Some s → old ≡ inner ++ s ∷ [] → n.attempt ≡ None → Does now old o n
  releases : o ≡ op.Release → n.outcome ≡ outcome.Done → n.back ≡ None → n.attempt ≡ None → Does now old o n

-- a word that was written is one of a log of words
pub written_word : (ad : ℕ) (ws : List (ℕ × ℕ)) (v : ℕ) → HaveWords ws → overlay_word ad ws ≡ Some v → v < 2 ^ 64
written_word ad [] v h e = absurd (cc)
written_word ad (p ∷ ps) v h e = at (p.0 == ad) e (written_word ad ps v h.1)
  where
    at : (b : Bool) → cond b (Some p.1) (overlay_word ad ps) ≡ Some v → (overlay_word ad ps ≡ Some v → v < 2 ^ 64) → v < 2 ^ 64
    at true f g = let same : p.1 ≡ v = cc in subst (λ x. x < 2 ^ 64) same h.0
    at false f g = g f

pub put_words : (ad v : ℕ) (ws : List (ℕ × ℕ)) → v < 2 ^ 64 → HaveWords ws → HaveWords (with_write ad v ws)
put_words ad v [] g h = (g, tt)
put_words ad v (p ∷ ps) g h = at (p.0 == ad) (put_words ad v ps g h.1)
  where
    at : (b : Bool) → HaveWords (with_write ad v ps) → HaveWords (cond b ((ad, v) ∷ ps) (p ∷ with_write ad v ps))
    at true k = (g, h.1)
    at false k = (h.0, k)

module _ {S : Type 0} (now : S) (a : Attempt S) (w : GivesRegisterWords a) where
  abbrev old : List S
  old = begins_of (Some a)

  -- the attempt goes on with the same begins and logs
  abbrev Same : Attempt S → Type 0
  Same b = (begins_of (Some b) ≡ old) × GivesRegisterWords b

  module _ (o : Op) where
    going : (b : Attempt S) → Same b → Does now old o (on b outcome.Going)
    going b s = goes refl refl s.0 s.1

    going_snapshot : (b : Attempt S) → Same b → Does now old o (on_snapshot b outcome.Going)
    going_snapshot b s = goes refl refl s.0 s.1

    stays : Does now old o (on a outcome.Going)
    stays = going a (refl, w)

    in_phase : (q : Phase) → HasInHand a.inner q → Same (record a { phase = q })
    in_phase q h = (refl, record { writes = w.writes; marks = w.marks; in_hand = h })

    validates : Does now old o (validating a)
    validates = going (record a { phase = ValidatesTime }) (in_phase ValidatesTime tt)

    gives : (b : Attempt S) (v : ℕ) → is_read o ≡ true → v < 2 ^ 64 → Same b → Does now old o (on b (outcome.Read v))
    gives b v r h s = reads v r h refl refl s.0 s.1

    either : (t : Bool) (m n : CoreStep S) → Does now old o m → Does now old o n → Does now old o (cond t m n)
    either true m n f g = f
    either false m n f g = g

    dropped_now : Does now old o (record { attempt = None; outcome = outcome.Aborted; back = Some a.saved; completed = None; sets_snapshot = false })
    dropped_now = drops (map (λ (k : Checkpoint S). k.saved) a.inner) a.saved refl refl refl refl

    swap : (b : Attempt S) (r : OpOutcome) (z : Answer) → Does now old o (on b r) → Does now old o (core_swap a b r z)
    swap b r Won d = d
    swap b r (Lost n) d = validates
    swap b r Done d = stays
    swap b r (Value n) d = stays

    time : (z : Answer) → Does now old o (core_time a z)
    time (Value lock) = either (lock % 2 == 0) _ _ (going (record a { phase = ValidatesEntry lock 0 }) (in_phase (ValidatesEntry lock 0) tt)) stays
    time Done = stays
    time Won = stays
    time (Lost n) = stays

    compare : (t i : ℕ) (r : Option (ℕ × ℕ)) (z : Answer) → Does now old o (core_compare a t i r z)
    compare t i (Some p) (Value x) = either (x == p.1) _ _ (going (record a { phase = ValidatesEntry t (suc i) }) (in_phase (ValidatesEntry t (suc i)) tt)) dropped_now
    compare t i None (Value lock) = either (lock == t) _ _ (going_snapshot (record a { snapshot = t; phase = AtOperation }) (refl, record { writes = w.writes; marks = w.marks; in_hand = tt })) validates
    compare t i r z = stays

  word : (ad : ℕ) (kept : Bool) (z : Answer) → FitsRegister (LoadWord ad) z → Does now old (op.Read ad) (core_word a kept z)
  word ad true (Value v) h = gives (op.Read ad) a v refl h (refl, w)
  word ad false (Value v) h = going (op.Read ad) (record a { phase = ReadsLock v }) (in_phase (op.Read ad) (ReadsLock v) h)
  word ad kept z h = stays (op.Read ad)

  read : (ad : ℕ) (r : Option ℕ) (z : Answer) → r ≡ overlay_word ad a.writes → FitsRegister (read_access ad r) z → Does now old (op.Read ad) (core_read a r z)
  read ad (Some v) z e h = gives (op.Read ad) a v refl (written_word ad a.writes v w.writes (sym e)) (refl, w)
  read ad None z e h = word ad a.kept z h

  ends : (inner : List (Checkpoint S)) → a.inner ≡ inner → inner ≡ [] → old ≡ a.saved ∷ []
  ends inner e f = ap (λ (ks : List (Checkpoint S)). map (λ (k : Checkpoint S). k.saved) ks ++ a.saved ∷ []) (e ∙ f)

  commit_store : (inner : List (Checkpoint S)) (i : ℕ) (r : Option (ℕ × ℕ)) → a.inner ≡ inner → inner ≡ [] → Does now old op.Commit (core_store a i r)
  commit_store inner i None e f = commits a.saved refl refl refl (ends inner e f) tt (λ g. cc)
  commit_store inner i (Some p) e f = going op.Commit (record a { phase = Stores (suc i) }) (in_phase op.Commit (Stores (suc i)) (e ∙ f))

  -- at an operation nothing is in hand
  hand : (inner : List (Checkpoint S)) → a.phase ≡ AtOperation → HasInHand inner a.phase
  hand inner p = subst (HasInHand inner) (sym p) tt

  commit : (inner : List (Checkpoint S)) (kept : Bool) (ws : List (ℕ × ℕ)) (z : Answer) → a.inner ≡ inner → a.phase ≡ AtOperation → Does now old op.Commit (core_commit a inner kept ws z)
  commit [] true ws z e q = commit_store [] 0 (slice_get ws 0) e refl
  commit [] false [] z e q = commits a.saved refl refl refl (ends [] e refl) tt (λ g. cc)
  commit [] false (p ∷ ps) z e q = swap op.Commit (record a { phase = Stores 0 }) outcome.Going z (going op.Commit (record a { phase = Stores 0 }) (in_phase op.Commit (Stores 0) e))
  commit (l ∷ ls) kept ws z e q = commits l.saved refl refl refl (ap (λ (ks : List (Checkpoint S)). map (λ (k : Checkpoint S). k.saved) ks ++ a.saved ∷ []) e) (record { writes = w.writes; marks = (subst (AllByRecursion (λ (k : Checkpoint S). HaveWords k.writes)) e w.marks).1; in_hand = hand ls q }) refl

  -- the first inner begins
  abbrev first_begins : ℕ → List S
  first_begins d = map (λ (k : Checkpoint S). k.saved) (take d a.inner)

  opens : (d : ℕ) (inner : List (Checkpoint S)) → drop d a.inner ≡ inner → old ≡ first_begins d ++ (map (λ (k : Checkpoint S). k.saved) inner ++ a.saved ∷ [])
  opens d inner e =
      let all : a.inner ≡ take d a.inner ++ inner = sym (take-append-drop d a.inner) ∙ ap (λ (ks : List (Checkpoint S)). take d a.inner ++ ks) e in
      ap (λ (ks : List (Checkpoint S)). map (λ (k : Checkpoint S). k.saved) ks ++ a.saved ∷ []) all
      ∙ ap (λ (ss : List S). ss ++ a.saved ∷ []) (map-append (λ (k : Checkpoint S). k.saved) (take d a.inner) inner)
      ∙ append_assoc (first_begins d) (map (λ (k : Checkpoint S). k.saved) inner) (a.saved ∷ [])

  -- where so many are open, so many of them are inner ones
  takes : (levels : ℕ) → levels ≤ length old → length (first_begins (levels - 1)) ≡ levels - 1
  takes levels le =
      let all = length-append (map (λ (k : Checkpoint S). k.saved) a.inner) (a.saved ∷ []) in
      let inner = length-map a.inner (λ (k : Checkpoint S). k.saved) in
      length-map (take (levels - 1) a.inner) (λ (k : Checkpoint S). k.saved) ∙ length-take-le (levels - 1) a.inner (omega (arith, le, all, inner))

  -- a cancel that leaves these inner begins
  cancel : (o : Op) (d : ℕ) (inner : List (Checkpoint S)) (kept : Bool) → drop d a.inner ≡ inner → a.phase ≡ AtOperation → TakesAway o (length (first_begins d)) (length old) → Does now old o (core_cancel a inner kept)
  cancel o d [] false e q t = cancels (first_begins d) a.saved t refl refl (opens d [] e) tt
  cancel o d [] true e q t = stays o
  cancel o d (l ∷ ls) kept e q t =
      let m = subst (AllByRecursion (λ (k : Checkpoint S). HaveWords k.writes)) e (all_left (λ (k : Checkpoint S). HaveWords k.writes) d a.inner w.marks) in
      cancels (first_begins d) l.saved t refl refl (opens d (l ∷ ls) e) (record { writes = m.0; marks = m.1; in_hand = hand ls q })

  irrevocable : (kept : Bool) (z : Answer) → Does now old op.Irrevocable (cond kept (on a outcome.Done) (core_swap a (record a { kept = true }) outcome.Done z))
  irrevocable true z = works refl refl refl refl w
  irrevocable false z = swap op.Irrevocable (record a { kept = true }) outcome.Done z (works refl refl refl refl (record { writes = w.writes; marks = w.marks; in_hand = w.in_hand }))

  operation : (o : Op) (z : Answer) → a.phase ≡ AtOperation → WritesWord o → FitsRegister (operation_access a o) z → Does now old o (core_operation now a o z)
  operation op.Begin z q g h = begins refl refl refl refl (record { writes = w.writes; marks = (w.writes, w.marks); in_hand = hand (record { saved = now; writes = a.writes } ∷ a.inner) q })
  operation (op.Read ad) z q g h = read ad (overlay_word ad a.writes) z refl h
  operation (op.Write ad v) z q g h = works refl refl refl refl (record { writes = put_words ad v a.writes g w.writes; marks = w.marks; in_hand = w.in_hand })
  operation op.Commit z q g h = commit a.inner a.kept a.writes z refl q
  operation op.Cancel z q g h = cancel op.Cancel 0 a.inner a.kept refl q refl
  operation (op.CancelOuter levels) z q g h = cancel (op.CancelOuter levels) (levels - 1) (drop (levels - 1) a.inner) a.kept refl q (takes levels)
  operation op.Irrevocable z q g h = irrevocable a.kept z
  operation op.Release z q g h = releases refl refl refl refl

  check : (o : Op) (v : ℕ) (z : Answer) → v < 2 ^ 64 → Does now old o (core_check a o v z)
  check (op.Read ad) v (Value lock) h = either (op.Read ad) (lock == a.snapshot) _ _ (gives (op.Read ad) (record a { reads = a.reads ++ (ad, v) ∷ []; phase = AtOperation }) v refl h (refl, record { writes = w.writes; marks = w.marks; in_hand = tt })) (validates (op.Read ad))
  check (op.Read ad) v Done h = stays (op.Read ad)
  check (op.Read ad) v Won h = stays (op.Read ad)
  check (op.Read ad) v (Lost n) h = stays (op.Read ad)
  check op.Begin v z h = stays op.Begin
  check (op.Write ad x) v z h = stays (op.Write ad x)
  check op.Commit v z h = stays op.Commit
  check op.Cancel v z h = stays op.Cancel
  check (op.CancelOuter levels) v z h = stays (op.CancelOuter levels)
  check op.Irrevocable v z h = stays op.Irrevocable
  check op.Release v z h = stays op.Release

  pub phase : (q : Phase) (o : Op) (z : Answer) → a.phase ≡ q → WritesWord o → FitsRegister (phase_access a q o) z → Does now old o (core_phase now a q o z)
  phase AtOperation o z e g h = operation o z e g h
  phase (ReadsLock v) o z e g h = check o v z (subst (HasInHand a.inner) e w.in_hand)
  phase ValidatesTime o z e g h = time o z
  phase (ValidatesEntry t i) o z e g h = compare o t i (slice_get a.reads i) z
  phase (Stores i) op.Commit z e g h = commit_store a.inner i (slice_get a.writes i) refl (subst (HasInHand a.inner) e w.in_hand)
  phase (Stores i) op.Begin z e g h = stays op.Begin
  phase (Stores i) (op.Read ad) z e g h = stays (op.Read ad)
  phase (Stores i) (op.Write ad v) z e g h = stays (op.Write ad v)
  phase (Stores i) op.Cancel z e g h = stays op.Cancel
  phase (Stores i) (op.CancelOuter levels) z e g h = stays (op.CancelOuter levels)
  phase (Stores i) op.Irrevocable z e g h = stays op.Irrevocable
  phase (Stores i) op.Release z e g h = stays op.Release

-- a word that a read has fits a register
pub reads_word : {S : Type 0} (now : S) (old : List S) (o : Op) (n : CoreStep S) (v : ℕ) → Does now old o n → n.outcome ≡ outcome.Read v → v < 2 ^ 64
reads_word now old o n v (reads w r lt e f b g) h = let same : w ≡ v = cc in subst (λ x. x < 2 ^ 64) same lt
reads_word now old o n v (goes e f b g) h = absurd (cc)
reads_word now old o n v (works r e f b g) h = absurd (cc)
reads_word now old o n v (begins r e f b g) h = absurd (cc)
reads_word now old o n v (commits s r e f b g d) h = absurd (cc)
reads_word now old o n v (cancels inner s r e f b g) h = absurd (cc)
reads_word now old o n v (drops inner s e f b a) h = absurd (cc)
reads_word now old o n v (releases r e f a) h = absurd (cc)

-- outside transactions
module _ {S : Type 0} (now : S) where
  still : (o : Op) → Does now [] o idle
  still o = goes refl refl refl tt

  begun : (z : Answer) → Does now [] op.Begin (core_begin now z)
  begun (Value lock) = at (lock % 2 == 0)
    where
      at : (b : Bool) → Does now [] op.Begin (cond b (on_snapshot (record { saved = now; first = lock; snapshot = lock; reads = []; writes = []; inner = []; kept = false; phase = AtOperation }) outcome.Done) idle)
      at true = begins refl refl refl refl (record { writes = tt; marks = tt; in_hand = tt })
      at false = still op.Begin
  begun Done = still op.Begin
  begun Won = still op.Begin
  begun (Lost n) = still op.Begin

  pub outside : (o : Op) (z : Answer) → Does now [] o (core_step now None o z)
  outside op.Begin z = begun z
  outside (op.Read ad) z = still (op.Read ad)
  outside (op.Write ad v) z = still (op.Write ad v)
  outside op.Commit z = still op.Commit
  outside op.Cancel z = still op.Cancel
  outside (op.CancelOuter levels) z = still (op.CancelOuter levels)
  outside op.Irrevocable z = still op.Irrevocable
  outside op.Release z = still op.Release

-- each step of the core
pub does : {S : Type 0} (now : S) (att : Option (Attempt S)) (o : Op) (z : Answer) → GivesWordsIf att → WritesWord o → FitsRegister (core_access att o) z → Does now (begins_of att) o (core_step now att o z)
does now None o z w g h = outside now o z
does now (Some a) o z w g h = phase now a w a.phase o z refl g h
