-- What each world has that steps which do not stop lead to, with what each thread was answered.
use Rattle.std.proofs.Common.{◌≡◌, ◌<◌, ◌≤◌, ◌+◌, ◌%◌, inl, inr, ℕ, Bool, true, false, List, [], ◌∷◌, Option, None, Some, refl, sym, ◌∙◌, ap, subst, length, slice_get, slice_index, arith}
use Rattle.std.specs.List.{AllByRecursion}
use Rattle.syntax.specs.Behaviours.{IsMemory}
use Rattle.bytecode.specs.Effects.{Effect, FitsCells}
use Rattle.bytecode.specs.Sequential.{meaning}
use Rattle.norec_core.specs.Attempts.{Attempt}
use Rattle.norec_core.specs.declared.step.Access.{Access}
use Rattle.norec_core.specs.declared.step.Access.TheVariants.{LoadWord, Swap}
use Rattle.norec_core.specs.declared.step.Answer.{Answer}
use Rattle.norec_core.specs.declared.step.Answer.TheVariants.{Value}
use Rattle.machine.specs.Answered.{Answered, AnswersOk, IsVisibleWord, AreVisibleWords, Heard, IsAmong, NumbersBelow, WordOf, lock_value, next_lock}
use Rattle.machine.specs.Explained.{HasLock, IsExplainedBy}
use Rattle.machine.specs.inner.Invariant.{LeftIs, LockIs, Now, RecordOk}
use Rattle.machine.specs.Merges.{Entry, IsMerge}
use Rattle.machine.specs.Threads.{access, access_of, op_of}
use Rattle.machine.specs.Worlds.{Part, Record, World, lock_after}
use Rattle.machine.specs.NamedCells.{AccessFits}
use Rattle.machine.proofs.answers.NamedCells.{access_fits}
use Rattle.machine.proofs.answers.Answering.{reached}
use Rattle.machine.proofs.runs.Explained.{each_ok, holder_has, lock_of, part_at, whole}
use Rattle.machine.proofs.merges.Follow.{Cut, all_left, counted, cut, last_is}
use Rattle.machine.proofs.parts.Frame.{lock_bounds}
use Rattle.machine.proofs.answers.Hearing.{InHistory, Sound, WordIn, WordsIn, step_ok, sound}
use Rattle.machine.proofs.runs.Serializable.{serializable}
use Rattle.machine.proofs.parts.Memories.{memory-overlay}
use Rattle.machine.proofs.merges.Merge.{EntryOk}
use Rattle.machine.proofs.alone.Unstopped.{inside_swaps, outside_swaps, reached_steps}

module _ {C : Type 0} (code : C → Effect C) (init : ℕ → C) (bounds : List ℕ) (m0 : List ℕ) (is_memory : IsMemory bounds m0) (fits : FitsCells code bounds) (threads : ℕ) (w : World C) (heard : List (List Heard)) (r : Answered code init m0 threads w heard) where
  s : Sound code init bounds m0 is_memory fits threads w heard
  s = sound code init bounds m0 is_memory fits threads w heard r

  -- some merge explains it, and so does every one
  pub runs : (es : List Entry) × IsMerge w.parts es × ((fs : List Entry) → IsMerge w.parts fs → IsExplainedBy (meaning code init) bounds m0 threads w fs)
  runs =
      let g = reached_steps code init m0 threads w (reached code init m0 threads w heard r) in
      let x = serializable code init bounds m0 is_memory fits threads g.0 in
      subst (λ (v : World C). (es : List Entry) × IsMerge v.parts es × ((fs : List Entry) → IsMerge v.parts fs → IsExplainedBy (meaning code init) bounds m0 threads v fs)) (sym g.1) (_, x.is_merge, x.each_merge)

  pub memory : IsMemory bounds w.words
  memory = let i = s.invariant.history in subst (IsMemory bounds) (sym i.contents) (memory-overlay bounds (s.history.mem s.history.top) s.history.stored (i.memories s.history.top (omega arith)) i.stored_words)

  -- while no thread has the lock it is even
  pub unheld : ((t : ℕ) (p : Part C) (a : Attempt C) → slice_get w.parts t ≡ Some p → HasLock p a → ⊥) → w.lock % 2 ≡ 0
  unheld none = at s.history.holder refl s.invariant.history.lock
    where
      at : (o : Option ℕ) → s.history.holder ≡ o → LockIs s.history o → w.lock % 2 ≡ 0
      at None f l = ap (λ n. n % 2) (s.invariant.lock ∙ l.0) ∙ s.invariant.history.even
      at (Some t) f l =
          let g = part_at w.parts t (s.invariant.holder t f) in
          let b = there t g.0 g.1 f in
          absurd (none t g.0 b.0 g.1 b.1)
        where
          there : (t : ℕ) (p : Part C) → slice_get w.parts t ≡ Some p → s.history.holder ≡ Some t → (a : Attempt C) × HasLock p a
          there t p e is = let x = runs in holder_has code init bounds m0 w s.history s.invariant x.0 x.1 t p e is

  -- the lock does not fall
  pub lock_grows : (t : ℕ) (p : Part C) → slice_get w.parts t ≡ Some p → w.lock ≤ lock_after w.lock (access code p.thread)
  lock_grows t p e =
      let k = step_ok code init bounds m0 is_memory fits threads w heard t p s e in
      let up = k.moves.lock in
      let same = k.same_lock in
      let was = s.invariant.lock in
      omega arith

  -- the part's next access names a cell
  pub within : (t : ℕ) (p : Part C) → slice_get w.parts t ≡ Some p → AccessFits (length bounds) (access code p.thread)
  within t p e = access_fits code bounds fits p.thread (s.logs t p e)

  -- a swap is from an even value
  pub swaps_even : (t : ℕ) (p : Part C) (from : ℕ) → slice_get w.parts t ≡ Some p → access code p.thread ≡ Swap from → from % 2 ≡ 0
  swaps_even t p from e is = at p.thread.attempt (s.invariant.parts t p e).now is
    where
      at : (o : Option (Attempt C)) → Now code bounds s.history t (init t) p.records p.base p.thread o → access_of p.thread o (code p.thread.configuration) ≡ Swap from → from % 2 ≡ 0
      at None n f = outside_swaps p.thread.status (code p.thread.configuration) from f
      at (Some a) n f = ap (λ k. k % 2) (inside_swaps a from (op_of (code p.thread.configuration) a.kept p.thread.trapping) f) ∙ n.steady.even

  -- the lock is past the number of each took_lock record
  pub numbers_below : (t : ℕ) (p : Part C) → slice_get w.parts t ≡ Some p → NumbersBelow w.lock p.records
  numbers_below t p e = all p.records (s.invariant.parts t p e).each
    where
      one : (x : Record) (b : Bool) → x.took_lock ≡ b → LeftIs s.history t x b → b ≡ true → x.snapshot + 1 < w.lock
      one x true f l is = let up = lock_bounds s.history s.history.holder s.invariant.history.lock in let same = s.invariant.lock in let a = up.0 in let b = l.0 in omega arith
      one x false f l is = absurd (cc)

      all : (xs : List Record) → AllByRecursion (RecordOk s.history t) xs → NumbersBelow w.lock xs
      all [] f = tt
      all (x ∷ xs) f = ((λ is. one x x.took_lock refl f.0.left is), all xs f.1)

  -- a word that was answered, in a merge
  module _ (es : List Entry) (m : IsMerge w.parts es) where
    has_word : (l a v : ℕ) → InHistory s.history w.words l a v → IsVisibleWord m0 w es l a v
    has_word l a v (inl f) =
        let h = s.history in
        let c : Cut 0 f.0 es = cut 0 f.0 0 es h.top refl f.1 (omega arith) f.2 m.sorted (whole code init bounds m0 w h s.invariant es m) in
        let count = counted 0 c.before f.0 c.follows in
        let low = f.3 in
        inl (
          c.before,
          c.after,
          c.place,
          omega arith,
          ap (λ n. slice_index n a) (last_is h 0 m0 c.before f.0 (sym s.invariant.first) c.follows (all_left (EntryOk h) c.before c.after (subst (AllByRecursion (EntryOk h)) c.place (each_ok code init bounds m0 w h s.invariant es m)))) ∙ f.4,
        )
    has_word l a v (inr f) = at s.history.holder refl s.invariant.history.lock
      where
        at : (o : Option ℕ) → s.history.holder ≡ o → LockIs s.history o → IsVisibleWord m0 w es l a v
        at None g lk = absurd (subst (IsAmong (a, v)) lk.1 f.1)
        at (Some t) g lk =
            let p = part_at w.parts t (s.invariant.holder t g) in
            let b = holder_has code init bounds m0 w s.history s.invariant es m t p.0 p.1 g in
            let q = lock_of code init bounds m0 w s.history s.invariant es m t p.0 b.0 p.1 b.1 in
            inr (t, p.0, b.0, p.1, b.1, subst (IsAmong (a, v)) q.2 f.1)

    has_one : (l : ℕ) (x : Access) (y : Answer) → WordIn s.history w.words l x y → WordOf m0 w es l x y
    has_one l (LoadWord a) (Value v) f = has_word l a v f
    has_one l x y f = tt

    have_words : (l : ℕ) (hs : List Heard) → WordsIn s.history w.words l hs → AreVisibleWords m0 w es l hs
    have_words l [] f = tt
    have_words l (x ∷ hs) f = (has_one l x.access x.answer f.0, have_words (next_lock l (lock_value x.access x.answer)) hs f.1)

  -- what holds of each thread's answers
  pub answers_ok : (t : ℕ) (p : Part C) (hs : List Heard) → slice_get w.parts t ≡ Some p → slice_get heard t ≡ Some hs → AnswersOk m0 w hs
  answers_ok t p hs e f =
      let h = s.hears t p hs e f in
      record {
        ascend = h.ascend;
        bounded = subst (λ n. Rattle.machine.specs.Answered.LocksTo n hs) (sym s.invariant.lock) h.bounded;
        fit = h.fit;
        words = λ es m. have_words es m 0 hs h.words_in;
      }
