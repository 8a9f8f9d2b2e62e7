-- What a thread was answered: the lock values never fall, and each word answered is one that a place of the run has or that
-- the thread with the lock has stored so far.
use Rattle.std.proofs.Common.{◌≡◌, ◌≢◌, ◌≤◌, ◌+◌, ◌%◌, ◌==◌, ◌⊎◌, inl, inr, ⊎_elim, ℕ, zero, suc, Bool, true, false, cond, List, [], ◌∷◌, ◌++◌, Option, None, Some, refl, sym, ◌∙◌, ap, subst, length, replicate, take, set, slice_get, slice_index, append-nil, arith}
use Rattle.std.proofs.lemmas.Bool.Decides.{eqb_tells}
use Rattle.syntax.specs.Behaviours.{IsMemory}
use Rattle.write_log.specs.Overlay.{IsDistinct, Lacks, overlay}
use Rattle.read_log.proofs.Logs.{take_more}
use Rattle.bytecode.specs.Effects.{Effect, FitsCells}
use Rattle.bytecode.specs.Effects.Effect.{Commit}
use Rattle.norec_core.specs.Accesses.{IsAnswerTo}
use Rattle.norec_core.specs.Attempts.{Attempt}
use Rattle.norec_core.specs.Phases.{core_phase, core_store, phase_access, store_access}
use Rattle.norec_core.specs.declared.step.Access.{Access}
use Rattle.norec_core.specs.declared.step.Access.TheVariants.{LoadLock, LoadWord, Local, StoreLock, StoreWord, Swap}
use Rattle.norec_core.specs.declared.step.Answer.{Answer}
use Rattle.norec_core.specs.declared.step.Answer.TheVariants.{Lost, Value, Won}
use Rattle.norec_core.specs.declared.step.Op.TheVariants as op
use Rattle.norec_core.specs.declared.step.Phase.{Phase}
use Rattle.norec_core.specs.declared.step.Phase.TheVariants.{AtOperation, ReadsLock, Stores, ValidatesEntry, ValidatesTime}
use Rattle.machine.specs.Answered.{Answered, AreAnswers, Ascends, Heard, IsAmong, LocksFrom, LocksTo, hearing, lock_value, next_lock}
use Rattle.machine.specs.Explained.{has_lock, stored_of}
use Rattle.machine.specs.inner.Invariant.{History, InHand, Invariant, IsHistory, StepOk, LockBy, LockIs, Now, PartOk}
use Rattle.machine.specs.Threads.{Thread, access, access_of, step_with, told_of}
use Rattle.machine.specs.Worlds.{Part, World, answer, lock_after, new_parts, new_world, part_after, step_of, words_after}
use Rattle.machine.specs.NamedCells.{LogsFitIf}
use Rattle.machine.proofs.answers.NamedCells.{told_fits}
use Rattle.machine.proofs.answers.Answering.{after_step, at_set}
use Rattle.machine.proofs.runs.Serializable.{new_invariant, start_of}
use Rattle.machine.proofs.steps.PartSteps.{part_step}
use Rattle.machine.proofs.steps.Worlds.{changed}

-- lock values

pub LocksTo-up : (n m : ℕ) (hs : List Heard) → n ≤ m → LocksTo n hs → LocksTo m hs
LocksTo-up n m [] le f = tt
LocksTo-up n m (h ∷ hs) le f = ((λ l e. let x = f.0 l e in omega arith), LocksTo-up n m hs le f.1)

LocksTo-more : (n : ℕ) (hs : List Heard) (h : Heard) → LocksTo n hs → ((l : ℕ) → lock_value h.access h.answer ≡ Some l → l ≤ n) → LocksTo n (hs ++ h ∷ [])
LocksTo-more n [] h f new = (new, tt)
LocksTo-more n (x ∷ xs) h f new = (f.0, LocksTo-more n xs h f.1 new)

LocksFrom-snoc : (n : ℕ) (hs : List Heard) (h : Heard) → LocksFrom n hs → ((l : ℕ) → lock_value h.access h.answer ≡ Some l → n ≤ l) → LocksFrom n (hs ++ h ∷ [])
LocksFrom-snoc n [] h f new = (new, tt)
LocksFrom-snoc n (x ∷ xs) h f new = (f.0, LocksFrom-snoc n xs h f.1 new)

Ascends-more : (n : ℕ) (hs : List Heard) (h : Heard) → Ascends hs → LocksTo n hs → ((l : ℕ) → lock_value h.access h.answer ≡ Some l → l ≡ n) → Ascends (hs ++ h ∷ [])
Ascends-more n [] h a f new = ((λ l e. tt), tt)
Ascends-more n (x ∷ xs) h a f new = ((λ l e. LocksFrom-snoc l xs h (a.0 l e) (λ m e'. let le = f.0 l e in let is = new m e' in omega arith)), Ascends-more n xs h a.1 f.1 new)

answers-more : (hs : List Heard) (h : Heard) → AreAnswers hs → IsAnswerTo h.access h.answer → AreAnswers (hs ++ h ∷ [])
answers-more [] h a new = (new, tt)
answers-more (x ∷ xs) h a new = (a.0, answers-more xs h a.1 new)

-- a lock value answered is the lock's
pub lock_value_is : (x : Access) (lock : ℕ) (words : List ℕ) (l : ℕ) → lock_value x (answer lock words x) ≡ Some l → l ≡ lock
lock_value_is LoadLock lock words l e = cc
lock_value_is (Swap from) lock words l e = at (eqb_tells lock from) e
  where
    at : (((lock == from) ≡ true) × (lock ≡ from)) ⊎ (((lock == from) ≡ false) × (lock ≢ from)) → lock_value (Swap from) (cond (lock == from) Won (Lost lock)) ≡ Some l → l ≡ lock
    at (inl f) e = let g : Some from ≡ Some l = sym (ap (λ b. lock_value (Swap from) (cond b Won (Lost lock))) f.0) ∙ e in let same = f.1 in cc
    at (inr f) e = let g : Some lock ≡ Some l = sym (ap (λ b. lock_value (Swap from) (cond b Won (Lost lock))) f.0) ∙ e in cc
lock_value_is x lock words l e = absurd (cc)

pub answer_fits : (x : Access) (lock : ℕ) (words : List ℕ) → IsAnswerTo x (answer lock words x)
answer_fits (Swap from) lock words = at (eqb_tells lock from)
  where
    at : (((lock == from) ≡ true) × (lock ≡ from)) ⊎ (((lock == from) ≡ false) × (lock ≢ from)) → IsAnswerTo (Swap from) (cond (lock == from) Won (Lost lock))
    at (inl f) = rw f.0 tt
    at (inr f) = rw f.0 f.1
answer_fits x lock words = tt

-- words

set_index : (m : List ℕ) (i w a : ℕ) → ((i ≡ a) × (slice_index (set m i w) a ≡ w)) ⊎ (slice_index (set m i w) a ≡ slice_index m a)
set_index [] i w a = inr refl
set_index (x ∷ m) zero w zero = inl (refl, refl)
set_index (x ∷ m) zero w (suc a) = inr refl
set_index (x ∷ m) (suc i) w zero = inr refl
set_index (x ∷ m) (suc i) w (suc a) = ⊎_elim (λ f. inl (ap suc f.0, f.1)) (λ f. inr f) (set_index m i w a)

-- a word of a memory with writes over it is that of a write, or the memory's
overlaid : (ps : List (ℕ × ℕ)) (m : List ℕ) (a v : ℕ) → slice_index (overlay m ps) a ≡ v → IsAmong (a, v) ps ⊎ (slice_index m a ≡ v)
overlaid [] m a v e = inr e
overlaid (q ∷ ps) m a v e = ⊎_elim (λ f. inl (inr f)) (λ f. at (set_index m q.0 q.1 a) f) (overlaid ps (set m q.0 q.1) a v e)
  where
    at : ((q.0 ≡ a) × (slice_index (set m q.0 q.1) a ≡ q.1)) ⊎ (slice_index (set m q.0 q.1) a ≡ slice_index m a) → slice_index (set m q.0 q.1) a ≡ v → IsAmong (a, v) (q ∷ ps) ⊎ (slice_index m a ≡ v)
    at (inl g) f = let value : v ≡ q.1 = sym f ∙ g.1 in inl (inl (λ i. (sym g.0 i, value i)))
    at (inr g) f = inr (sym g ∙ f)

lacks_get : (b : ℕ) (ws : List (ℕ × ℕ)) (i : ℕ) (q : ℕ × ℕ) → Lacks b ws → slice_get ws i ≡ Some q → q.0 ≢ b
lacks_get b [] i q l e = absurd (cc)
lacks_get b (w ∷ ws) zero q l e = let r : w ≡ q = cc in subst (λ (x : ℕ × ℕ). x.0 ≢ b) r l.0
lacks_get b (w ∷ ws) (suc i) q l e = lacks_get b ws i q l.1 e

-- the next pair is at none of the cells before it
distinct_next : (ws : List (ℕ × ℕ)) (i : ℕ) (q : ℕ × ℕ) (a v : ℕ) → IsDistinct ws → IsAmong (a, v) (take i ws) → slice_get ws i ≡ Some q → q.0 ≢ a
distinct_next [] i q a v d am e = absurd (cc)
distinct_next (w ∷ ws) zero q a v d am e = absurd am
distinct_next (w ∷ ws) (suc i) q a v d (inl is) e = let same : w.0 ≡ a = ap (λ (x : ℕ × ℕ). x.0) (sym is) in subst (λ (b : ℕ). q.0 ≢ b) same (lacks_get w.0 ws i q d.0 e)
distinct_next (w ∷ ws) (suc i) q a v d (inr am) e = distinct_next ws i q a v d.1 am e

among_more : (p : ℕ × ℕ) (ps qs : List (ℕ × ℕ)) → IsAmong p ps → IsAmong p (ps ++ qs)
among_more p [] qs am = absurd am
among_more p (x ∷ ps) qs (inl e) = inl e
among_more p (x ∷ ps) qs (inr am) = inr (among_more p ps qs am)

-- the word v of cell a, answered after the lock value l
abbrev pub InHistory : History → List ℕ → ℕ → ℕ → ℕ → Type 0
InHistory h words l a v =
    ((s : ℕ) × (s % 2 ≡ 0) × (s ≤ h.top) × (l ≤ s + 1) × (slice_index (h.mem s) a ≡ v))
    ⊎ ((l ≤ h.lock) × IsAmong (a, v) h.stored × (slice_index words a ≡ v))

abbrev pub WordIn : History → List ℕ → ℕ → Access → Answer → Type 0
WordIn h words l (LoadWord a) (Value v) = InHistory h words l a v
WordIn h words l x y = Unit {0}

abbrev pub WordsIn : History → List ℕ → ℕ → List Heard → Type 0
WordsIn h words l [] = Unit {0}
WordsIn h words l (x ∷ hs) = WordIn h words l x.access x.answer × WordsIn h words (next_lock l (lock_value x.access x.answer)) hs

abbrev last_lock : ℕ → List Heard → ℕ
last_lock l [] = l
last_lock l (x ∷ hs) = last_lock (next_lock l (lock_value x.access x.answer)) hs

last_low : (n l : ℕ) (hs : List Heard) → l ≤ n → LocksTo n hs → last_lock l hs ≤ n
last_low n l [] le f = le
last_low n l (x ∷ hs) le f = last_low n (next_lock l (lock_value x.access x.answer)) hs (at (lock_value x.access x.answer) refl) f.1
  where
    at : (o : Option ℕ) → lock_value x.access x.answer ≡ o → next_lock l o ≤ n
    at None e = le
    at (Some m) e = f.0 m e

words_more : (h : History) (words : List ℕ) (l : ℕ) (hs : List Heard) (x : Heard) → WordsIn h words l hs → WordIn h words (last_lock l hs) x.access x.answer → WordsIn h words l (hs ++ x ∷ [])
words_more h words l [] x f new = (new, tt)
words_more h words l (y ∷ hs) x f new = (f.0, words_more h words (next_lock l (lock_value y.access y.answer)) hs x f.1 new)

-- a word just loaded
loaded : (bounds : List ℕ) (h : History) (words : List ℕ) (l a : ℕ) → IsHistory bounds h words → l ≤ h.lock → InHistory h words l a (slice_index words a)
loaded bounds h words l a i le = at (overlaid h.stored (h.mem h.top) a (slice_index words a) (ap (λ m. slice_index m a) (sym i.contents))) (up h.holder i.lock)
  where
    up : (o : Option ℕ) → LockIs h o → h.lock ≤ h.top + 1
    up None e = let same = e.0 in omega arith
    up (Some t) e = omega arith

    at : IsAmong (a, slice_index words a) h.stored ⊎ (slice_index (h.mem h.top) a ≡ slice_index words a) → h.lock ≤ h.top + 1 → InHistory h words l a (slice_index words a)
    at (inl am) b = inr (le, am, refl)
    at (inr e) b = inl (h.top, i.even, omega arith, omega arith, e)

word_answered : (bounds : List ℕ) (h : History) (words : List ℕ) (l : ℕ) (x : Access) → IsHistory bounds h words → l ≤ h.lock → WordIn h words l x (answer h.lock words x)
word_answered bounds h words l (LoadWord a) i le = loaded bounds h words l a i le
word_answered bounds h words l x i le = tt

-- what holds of the answers, by the history
pub record HearsOk (h : History) (words : List ℕ) (hs : List Heard) : Type 0 where
  pub bounded : LocksTo h.lock hs
  pub ascend : Ascends hs
  pub fit : AreAnswers hs
  pub words_in : WordsIn h words 0 hs

hears_more : (bounds : List ℕ) (h : History) (words : List ℕ) (hs : List Heard) (x : Access) → IsHistory bounds h words → HearsOk h words hs → HearsOk h words (hs ++ hearing x (answer h.lock words x))
hears_more bounds h words hs x i ok = at x
  where
    more : (x : Access) → HearsOk h words (hs ++ record { access = x; answer = answer h.lock words x } ∷ [])
    more x =
        let new : Heard = record { access = x; answer = answer h.lock words x } in
        record {
          bounded = LocksTo-more h.lock hs new ok.bounded (λ l e. let is = lock_value_is x h.lock words l e in omega arith);
          ascend = Ascends-more h.lock hs new ok.ascend ok.bounded (λ l e. lock_value_is x h.lock words l e);
          fit = answers-more hs new ok.fit (answer_fits x h.lock words);
          words_in = words_more h words 0 hs new ok.words_in (word_answered bounds h words (last_lock 0 hs) x i (last_low h.lock 0 hs (omega arith) ok.bounded));
        }

    at : (x : Access) → HearsOk h words (hs ++ hearing x (answer h.lock words x))
    at Local = subst (HearsOk h words) (sym (append-nil hs)) ok
    at LoadLock = more LoadLock
    at (LoadWord a) = more (LoadWord a)
    at (Swap from) = more (Swap from)
    at (StoreWord a v) = more (StoreWord a v)
    at (StoreLock n) = more (StoreLock n)

module _ {C : Type 0} (code : C → Effect C) where
  -- a thread that is storing its commit's words
  module _ (th : Thread C) (b : Attempt C) (d : C) (i : ℕ) (o : Option (ℕ × ℕ)) (e : th.attempt ≡ Some b) (ex : code th.configuration ≡ Commit d) (ph : b.phase ≡ Stores i) (g : slice_get b.writes i ≡ o) where
    store_is : access code th ≡ store_access b.snapshot o
    store_is = ap (λ y. access_of th y (code th.configuration)) e ∙ ap (λ x. access_of th (Some b) x) ex ∙ ap (λ q. phase_access b q op.Commit) ph ∙ ap (store_access b.snapshot) g

    stored_leaves : (y : Answer) → (step_with code th y).thread.attempt ≡ (core_store b i o).attempt
    stored_leaves y =
        ap (λ z. (told_of code th z (code th.configuration) y).thread.attempt) e
        ∙ ap (λ x. (told_of code th (Some b) x y).thread.attempt) ex
        ∙ ap (λ q. (core_phase th.configuration b q op.Commit y).attempt) ph
        ∙ ap (λ z. (core_store b i z).attempt) g

  module _ (bounds : List ℕ) (t : ℕ) (c0 : C) (h : History) (words : List ℕ) (i : IsHistory bounds h words) (lock' : ℕ) (words' : List ℕ) (r : Part C) (k : StepOk code bounds t c0 h lock' words' r) where
    module _ (l a v : ℕ) (low : l ≤ h.lock) (am : IsAmong (a, v) h.stored) (e : slice_index words a ≡ v) where
      -- another thread has the lock
      by_other : (u : ℕ) → u ≢ t → h.holder ≡ Some u → InHistory k.after words' l a v
      by_other u ne is =
          let m = k.moves in
          let q = m.holds u ne is in
          let up = m.lock in
          let same : words' ≡ words = k.history.contents ∙ ap (λ n. overlay (k.after.mem n) k.after.stored) q.1 ∙ ap (λ n. overlay n k.after.stored) (m.mem h.top (omega arith)) ∙ ap (overlay (h.mem h.top)) q.2 ∙ sym i.contents in
          inr (omega arith, subst (IsAmong (a, v)) (sym q.2) am, ap (λ n. slice_index n a) same ∙ e)

      -- the thread stores one more word
      by_store : (b : Attempt C) (j : ℕ) (q : ℕ × ℕ) → IsDistinct b.writes → h.stored ≡ take j b.writes → slice_get b.writes j ≡ Some q → words' ≡ set words q.0 q.1 → r.thread.attempt ≡ Some (record b { phase = Stores (suc j) }) → InHistory k.after words' l a v
      by_store b j q distinct st g ws after = at r.thread.attempt after k.part.now
        where
          mine : (step_ok : Bool) → LockBy k.after t (record b { phase = Stores (suc j) }) (has_lock step_ok (Stores (suc j))) → k.after.stored ≡ take (suc j) b.writes
          mine true f = f.2
          mine false f = f.2

          away : q.0 ≢ a
          away = distinct_next b.writes j q a v distinct (subst (IsAmong (a, v)) st am) g

          other : ((q.0 ≡ a) × (slice_index (set words q.0 q.1) a ≡ q.1)) ⊎ (slice_index (set words q.0 q.1) a ≡ slice_index words a) → slice_index (set words q.0 q.1) a ≡ v
          other (inl f) = absurd (away f.0)
          other (inr f) = f ∙ e

          at : (o : Option (Attempt C)) → o ≡ Some (record b { phase = Stores (suc j) }) → Now code bounds k.after t c0 r.records r.base r.thread o → InHistory k.after words' l a v
          at None f n = absurd (cc)
          at (Some c) f n =
              let same : c ≡ record b { phase = Stores (suc j) } = cc in
              let holds = subst (λ (x : Attempt C). LockBy k.after t x (has_lock x.kept x.phase)) same n.holds in
              let stored = mine b.kept holds in
              let up = k.moves.lock in
              inr (
                omega arith,
                subst (IsAmong (a, v)) (sym (stored ∙ take_more b.writes j q g)) (among_more (a, v) (take j b.writes) (q ∷ []) (subst (IsAmong (a, v)) st am)),
                ap (λ n. slice_index n a) ws ∙ other (set_index words q.0 q.1 a),
              )

      -- the thread gives the lock back
      by_release : h.holder ≡ Some t → words' ≡ words → r.thread.attempt ≡ None → InHistory k.after words' l a v
      by_release is ws after = at k.after.holder refl k.history.lock (free r.thread.attempt after k.part.now)
        where
          free : (o : Option (Attempt C)) → o ≡ None → Now code bounds k.after t c0 r.records r.base r.thread o → k.after.holder ≢ Some t
          free None f n = n.1
          free (Some c) f n = absurd (cc)

          at : (o : Option ℕ) → k.after.holder ≡ o → LockIs k.after o → k.after.holder ≢ Some t → InHistory k.after words' l a v
          at None f lk ne =
              let up = k.moves.lock in
              let same = lk.0 in
              inl (k.after.top, k.history.even, omega arith, omega arith, ap (λ n. slice_index n a) (sym (ap (overlay (k.after.mem k.after.top)) lk.1) ∙ sym k.history.contents ∙ ws) ∙ e)
          at (Some u) f lk ne = other (eqb_tells u t)
            where
              other : (((u == t) ≡ true) × (u ≡ t)) ⊎ (((u == t) ≡ false) × (u ≢ t)) → InHistory k.after words' l a v
              other (inl g) = absurd (ne (f ∙ ap (λ n. Some n) g.1))
              other (inr g) = let was : h.holder ≡ Some u = k.moves.held u g.1 f in absurd (let x : u ≡ t = cc in g.1 x)

      -- the thread has the lock
      by_mine : (p : Part C) → PartOk code bounds h t c0 p → h.holder ≡ Some t → words' ≡ words_after words (access code p.thread) → ((x : Attempt C) → r.thread.attempt ≡ (step_with code p.thread (answer h.lock words (access code p.thread))).thread.attempt) → InHistory k.after words' l a v
      by_mine p ok is ws left = at p.thread.attempt refl ok.now
        where
          empty : {A : Type 0} (ps : List (ℕ × ℕ)) → h.stored ≡ ps → ps ≡ [] → A
          empty ps f g = absurd (subst (IsAmong (a, v)) (f ∙ g) am)

          storing : (b : Attempt C) (d : C) (j : ℕ) (o : Option (ℕ × ℕ)) → p.thread.attempt ≡ Some b → code p.thread.configuration ≡ Commit d → b.phase ≡ Stores j → slice_get b.writes j ≡ o → IsDistinct b.writes → h.stored ≡ take j b.writes → InHistory k.after words' l a v
          storing b d j None f ex ph g distinct st = by_release is (ws ∙ ap (words_after words) (store_is p.thread b d j None f ex ph g)) (left b ∙ stored_leaves p.thread b d j None f ex ph g _)
          storing b d j (Some q) f ex ph g distinct st = by_store b j q distinct st g (ws ∙ ap (words_after words) (store_is p.thread b d j (Some q) f ex ph g)) (left b ∙ stored_leaves p.thread b d j (Some q) f ex ph g _)

          phases : (b : Attempt C) (q : Phase) → p.thread.attempt ≡ Some b → b.phase ≡ q → InHand code h b p.thread.configuration q → IsDistinct b.writes → h.stored ≡ stored_of b.writes q → InHistory k.after words' l a v
          phases b AtOperation f ph hand distinct st = empty [] st refl
          phases b (ReadsLock x) f ph hand distinct st = empty [] st refl
          phases b ValidatesTime f ph hand distinct st = empty [] st refl
          phases b (ValidatesEntry x y) f ph hand distinct st = empty [] st refl
          phases b (Stores j) f ph hand distinct st = storing b hand.1.0 j (slice_get b.writes j) f hand.1.1 ph refl distinct st

          locked : (b : Attempt C) (has : Bool) → LockBy h t b has → h.stored ≡ stored_of b.writes b.phase
          locked b true f = f.2
          locked b false f = absurd (f is)

          at : (o : Option (Attempt C)) → p.thread.attempt ≡ o → Now code bounds h t c0 p.records p.base p.thread o → InHistory k.after words' l a v
          at None f n = absurd (n.1 is)
          at (Some b) f n = phases b b.phase f refl n.in_hand n.steady.log.0 (locked b (has_lock b.kept b.phase) n.holds)

    -- a step keeps each word answered so far
    module _ (p : Part C) (ok : PartOk code bounds h t c0 p) (ws : words' ≡ words_after words (access code p.thread)) (left : r.thread.attempt ≡ (step_with code p.thread (answer h.lock words (access code p.thread))).thread.attempt) where
      word_stays : (l a v : ℕ) → InHistory h words l a v → InHistory k.after words' l a v
      word_stays l a v (inl f) = let m = k.moves in let up = m.top in let le = f.2 in inl (f.0, f.1, omega arith, f.3, ap (λ n. slice_index n a) (m.mem f.0 f.2) ∙ f.4)
      word_stays l a v (inr f) = at h.holder refl i.lock
        where
          at : (o : Option ℕ) → h.holder ≡ o → LockIs h o → InHistory k.after words' l a v
          at None g lk = absurd (subst (IsAmong (a, v)) lk.1 f.1)
          at (Some u) g lk = other (eqb_tells u t)
            where
              other : (((u == t) ≡ true) × (u ≡ t)) ⊎ (((u == t) ≡ false) × (u ≢ t)) → InHistory k.after words' l a v
              other (inl s) = by_mine l a v f.0 f.1 f.2 p ok (g ∙ ap (λ n. Some n) s.1) ws (λ x. left)
              other (inr s) = by_other l a v f.0 f.1 f.2 u s.1 g

      one_invariant : (l : ℕ) (x : Access) (y : Answer) → WordIn h words l x y → WordIn k.after words' l x y
      one_invariant l (LoadWord a) (Value v) f = word_stays l a v f
      one_invariant l x y f = tt

      words_stay : (l : ℕ) (hs : List Heard) → WordsIn h words l hs → WordsIn k.after words' l hs
      words_stay l [] f = tt
      words_stay l (x ∷ hs) f = (one_invariant l x.access x.answer f.0, words_stay (next_lock l (lock_value x.access x.answer)) hs f.1)

      pub hears_on : (hs : List Heard) → HearsOk h words hs → HearsOk k.after words' hs
      hears_on hs f = record {
        bounded = LocksTo-up h.lock k.after.lock hs k.moves.lock f.bounded;
        ascend = f.ascend;
        fit = f.fit;
        words_in = words_stay 0 hs f.words_in;
      }

no_answers : (n t : ℕ) (hs : List Heard) → slice_get (replicate n []) t ≡ Some hs → hs ≡ []
no_answers zero t hs e = absurd (cc)
no_answers (suc n) zero hs e = cc
no_answers (suc n) (suc t) hs e = no_answers n t hs e

pub no_attempt : {C : Type 0} (init : ℕ → C) (b n t : ℕ) (p : Part C) → slice_get (new_parts init b n) t ≡ Some p → p.thread.attempt ≡ None
no_attempt init b zero t p e = absurd (cc)
no_attempt init b (suc n) zero p e = let r : Rattle.machine.specs.Worlds.new_part (init b) ≡ p = cc in ap (λ (q : Part _). q.thread.attempt) (sym r)
no_attempt init b (suc n) (suc t) p e = no_attempt init (suc b) n t p e

module _ {C : Type 0} (code : C → Effect C) (init : ℕ → C) (bounds : List ℕ) (m0 : List ℕ) (is_memory : IsMemory bounds m0) (fits : FitsCells code bounds) (threads : ℕ) where
  -- what holds of each world with its answers
  pub record Sound (w : World C) (heard : List (List Heard)) : Type 0 where
    pub history : History
    pub invariant : Invariant code bounds init m0 history w
    pub hears : (t : ℕ) (p : Part C) (hs : List Heard) → slice_get w.parts t ≡ Some p → slice_get heard t ≡ Some hs → HearsOk history w.words hs
    pub logs : (t : ℕ) (p : Part C) → slice_get w.parts t ≡ Some p → LogsFitIf (length bounds) p.thread.attempt

  sound_new : Sound (new_world init m0 threads) (replicate threads [])
  sound_new = record {
    history = start_of m0;
    invariant = new_invariant code init bounds m0 is_memory threads;
    hears = λ t p hs e f. subst (HearsOk (start_of m0) m0) (sym (no_answers threads t hs f)) (record { bounded = tt; ascend = tt; fit = tt; words_in = tt });
    logs = λ t p e. subst (LogsFitIf (length bounds)) (sym (no_attempt init 0 threads t p e)) tt;
  }

  module _ (w : World C) (heard : List (List Heard)) (t : ℕ) (p : Part C) (s : Sound w heard) (here : slice_get w.parts t ≡ Some p) where
    abbrev pub StepOkBy : ℕ → Type 0
    StepOkBy l = StepOk code bounds t (init t) s.history (lock_after l (access code p.thread)) (words_after w.words (access code p.thread)) (part_after w.words p (step_with code p.thread (answer l w.words (access code p.thread))))

    pub step_ok : StepOkBy w.lock
    step_ok = subst StepOkBy (sym s.invariant.lock) (part_step code bounds t (init t) s.history w.words fits s.invariant.history p (s.invariant.parts t p here))

  module _ (w : World C) (heard : List (List Heard)) (t : ℕ) (p : Part C) (hs : List Heard) (s : Sound w heard) (here : slice_get w.parts t ≡ Some p) (said : slice_get heard t ≡ Some hs) where
    abbrev k : StepOkBy w heard t p s here w.lock
    k = step_ok w heard t p s here

    abbrev old : (us : List Heard) → HearsOk s.history w.words us → HearsOk k.after (words_after w.words (access code p.thread)) us
    old = hears_on code bounds t (init t) s.history w.words s.invariant.history (lock_after w.lock (access code p.thread)) (words_after w.words (access code p.thread)) (part_after w.words p (step_with code p.thread (answer w.lock w.words (access code p.thread)))) k p (s.invariant.parts t p here) refl
        (ap (λ l. (step_with code p.thread (answer l w.words (access code p.thread))).thread.attempt) s.invariant.lock)

    new_hears : HearsOk k.after (words_after w.words (access code p.thread)) (hs ++ hearing (access code p.thread) (answer w.lock w.words (access code p.thread)))
    new_hears = old _ (subst (λ l. HearsOk s.history w.words (hs ++ hearing (access code p.thread) (answer l w.words (access code p.thread)))) (sym s.invariant.lock) (hears_more bounds s.history w.words hs (access code p.thread) s.invariant.history (s.hears t p hs here said)))

    sound_step : Sound (after_step code w t p (access code p.thread)) (set heard t (hs ++ hearing (access code p.thread) (answer w.lock w.words (access code p.thread))))
    sound_step = record {
      history = k.after;
      invariant = changed code bounds init m0 fits w s.history t p (part_after w.words p (step_with code p.thread (answer w.lock w.words (access code p.thread)))) (lock_after w.lock (access code p.thread)) (words_after w.words (access code p.thread)) here s.invariant k;
      hears = λ u r us e f. each u r us (at_set w.parts t u _ r p here e) (at_set heard t u _ us hs said f);
      logs = λ u r e. log u r (at_set w.parts t u _ r p here e);
    }
      where
        each : (u : ℕ) (r : Part C) (us : List Heard)
            → ((u ≡ t) × (part_after w.words p (step_with code p.thread (answer w.lock w.words (access code p.thread))) ≡ r)) ⊎ ((u ≢ t) × (slice_get w.parts u ≡ Some r))
            → ((u ≡ t) × ((hs ++ hearing (access code p.thread) (answer w.lock w.words (access code p.thread))) ≡ us)) ⊎ ((u ≢ t) × (slice_get heard u ≡ Some us))
            → HearsOk k.after (words_after w.words (access code p.thread)) us
        each u r us e (inl f) = subst (HearsOk k.after (words_after w.words (access code p.thread))) f.1 new_hears
        each u r us (inl e) (inr f) = absurd (f.0 e.0)
        each u r us (inr e) (inr f) = old us (s.hears u r us e.1 f.1)

        log : (u : ℕ) (r : Part C) → ((u ≡ t) × (part_after w.words p (step_with code p.thread (answer w.lock w.words (access code p.thread))) ≡ r)) ⊎ ((u ≢ t) × (slice_get w.parts u ≡ Some r)) → LogsFitIf (length bounds) r.thread.attempt
        log u r (inl e) = subst (λ (y : Part C). LogsFitIf (length bounds) y.thread.attempt) e.1 (told_fits code bounds fits p.thread (answer w.lock w.words (access code p.thread)) (s.logs t p here))
        log u r (inr e) = s.logs u r e.1

  -- every world that is reached
  pub sound : (w : World C) (heard : List (List Heard)) → Answered code init m0 threads w heard → Sound w heard
  sound w heard Answered.new = sound_new
  sound w heard (Answered.moved v said t p hs r here there on) = subst (λ o. Sound (step_of code v t o) (set said t (hs ++ hearing (access code p.thread) (answer v.lock v.words (access code p.thread))))) (sym here) (sound_step v said t p hs (sound v said r) here there)
