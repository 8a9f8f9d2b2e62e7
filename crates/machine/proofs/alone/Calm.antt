-- In a reached world a thread that has no attempt is in no trap, and there are as many words as at first; so it gets on
-- alone.
use Rattle.std.proofs.Common.{◌≡◌, ◌≢◌, ◌⊎◌, inl, inr, ◌==◌, ◌<◌, ◌+◌, ◌-◌, ◌^◌, ℕ, Bool, true, false, List, Option, None, Some, refl, sym, ◌∙◌, ap, subst, length, replicate, set, slice_get, arith}
use Rattle.std.proofs.lemmas.Bool.{true≢false}
use Rattle.std.proofs.lemmas.Bool.Decides.{eqb_tells}
use Rattle.std.proofs.Math.ListN.{length-set}
use Rattle.syntax.specs.Behaviours.{IsMemory}
use Rattle.syntax.specs.declared.thread_end.Status.{Status}
use Rattle.syntax.specs.declared.thread_end.Trap.{Trap}
use Rattle.syntax.specs.declared.thread_end.Status.TheVariants.{Running, Ended as HasEnded, Trapped as HasTrapped}
use Rattle.bytecode.specs.Effects.{Effect, FitsCells}
use Rattle.bytecode.specs.Effects.Effect.{Begin, Cancel, CancelOuter, Commit, End, Irrevocable, Print, Pure, Read, Traps, Write}
use Rattle.bytecode.specs.Sequential.{Sequential}
use Rattle.bytecode.proofs.Tables.{some_same}
use Rattle.norec_core.specs.Attempts.{Attempt}
use Rattle.norec_core.specs.declared.step.Access.{Access}
use Rattle.norec_core.specs.declared.step.Access.TheVariants.{LoadLock, LoadWord, Local, StoreLock, StoreWord, Swap}
use Rattle.norec_core.specs.declared.step.Answer.{Answer}
use Rattle.norec_core.specs.declared.step.Op.{Op}
use Rattle.norec_core.specs.declared.step.Op.TheVariants as op
use Rattle.norec_core.specs.Phases.{core_step}
use Rattle.machine.specs.Threads.{Thread, access, op_of, print_inside, step_with, told_inside, told_of, told_outside, told_running}
use Rattle.machine.specs.Worlds.{Part, Reached, World, answer, part_after, run, step_of, words_after}
use Rattle.machine.proofs.parts.Memories.{sized}
use Rattle.machine.proofs.runs.Serializable.{new_part_at}
use Rattle.machine.proofs.steps.Worlds.{get-set_other, get-set_same}
use Rattle.machine.specs.Solo.{GoesAs, SoloProgress}
use Rattle.machine.proofs.alone.Beside.{runs_alone, stays_reached}

-- a thread is in a trap only while its attempt keeps the lock
abbrev pub Calm : {C : Type 0} → Option (Attempt C) → Bool → Type 0
Calm None trapping = trapping ≡ false
Calm (Some a) trapping = a.kept ≡ false → trapping ≡ false

free_calm : {C : Type 0} (o : Option (Attempt C)) → Calm o false
free_calm None = refl
free_calm (Some a) = λ e. refl

module _ {C : Type 0} (code : C → Effect C) where
  abbrev CalmThread : Thread C → Type 0
  CalmThread th = Calm th.attempt th.trapping

  calm_running : (th : Thread C) (x : Effect C) (a : Answer) → CalmThread th → CalmThread (told_running code th x a).thread
  calm_running th (Begin c d) a calm = let n = core_step th.configuration None op.Begin a in free_calm n.attempt
  calm_running th x a calm = calm

  calm_outside : (th : Thread C) (st : Status) (x : Effect C) (a : Answer) → CalmThread th → CalmThread (told_outside code th st x a).thread
  calm_outside th Running x a calm = calm_running th x a calm
  calm_outside th HasEnded x a calm = calm
  calm_outside th (HasTrapped cause) x a calm = calm

  module _ (th : Thread C) (at : Attempt C) (is : th.attempt ≡ Some at) (answer : Answer) (calm : CalmThread th) where
    calm_op : (x : Effect C) (o : Op) → CalmThread (told_inside code th at x (Some o) answer).thread
    calm_op x o = let n = core_step th.configuration (Some at) o answer in free_calm n.attempt

    calm_print : (piece : List ℕ) (c : C) (b : Bool) → CalmThread (print_inside th piece c b).thread
    calm_print piece c true = calm
    calm_print piece c false = calm

    -- with the lock kept a trap makes a step of its own
    calm_trap : (cause : Trap) (kept trapping : Bool) → at.kept ≡ kept → CalmThread (told_inside code th at (Traps cause) (op_of {C = C} (Traps cause) kept trapping) answer).thread
    calm_trap cause true false e = subst (λ (o : Option (Attempt C)). Calm o true) (sym is) (λ f. absurd (true≢false (sym e ∙ f)))
    calm_trap cause true true e = calm_op (Traps cause) op.Release
    calm_trap cause false trapping e = calm_op (Traps cause) op.Release

    calm_inside : (x : Effect C) → CalmThread (told_inside code th at x (op_of x at.kept th.trapping) answer).thread
    calm_inside (Pure c) = calm
    calm_inside (Print piece c) = calm_print piece c at.kept
    calm_inside End = calm
    calm_inside (Traps cause) = calm_trap cause at.kept th.trapping refl
    calm_inside (Begin c d) = calm_op (Begin c d) op.Begin
    calm_inside (Read cell k) = calm_op (Read cell k) (op.Read cell)
    calm_inside (Write cell v c) = calm_op (Write cell v c) (op.Write cell v)
    calm_inside (Commit c) = calm_op (Commit c) op.Commit
    calm_inside Cancel = calm_op Cancel op.Cancel
    calm_inside (CancelOuter levels) = calm_op (CancelOuter levels) (op.CancelOuter levels)
    calm_inside (Irrevocable c) = calm_op (Irrevocable c) op.Irrevocable

  calm_told : (th : Thread C) (o : Option (Attempt C)) → th.attempt ≡ o → (x : Effect C) (a : Answer) → CalmThread th → CalmThread (told_of code th o x a).thread
  calm_told th None is x a calm = calm_outside th th.status x a calm
  calm_told th (Some at) is x a calm = calm_inside th at is a calm x

  words_sized : (words : List ℕ) (a : Access) → length (words_after words a) ≡ length words
  words_sized words Local = refl
  words_sized words LoadLock = refl
  words_sized words (LoadWord c) = refl
  words_sized words (Swap from) = refl
  words_sized words (StoreWord c v) = length-set words c v
  words_sized words (StoreLock n) = refl

  module _ (init : ℕ → C) (m0 : List ℕ) (threads : ℕ) where
    pub record AllCalm (w : World C) : Type 0 where
      pub words : length w.words ≡ length m0
      pub each : (t : ℕ) (p : Part C) → slice_get w.parts t ≡ Some p → CalmThread p.thread

    calm_step : (w : World C) (t : ℕ) (p : Part C) → slice_get w.parts t ≡ Some p → AllCalm w → AllCalm (step_of code w t (Some p))
    calm_step w t p here v = record { words = words_sized w.words (access code p.thread) ∙ v.words; each = all }
      where
        now : Part C
        now = part_after w.words p (step_with code p.thread (answer w.lock w.words (access code p.thread)))

        all : (u : ℕ) (q : Part C) → slice_get (set w.parts t now) u ≡ Some q → CalmThread q.thread
        all u q e = by (eqb_tells u t)
          where
            by : ((u == t) ≡ true) × (u ≡ t) ⊎ ((u == t) ≡ false) × (u ≢ t) → CalmThread q.thread
            by (inl h) = subst (λ (x : Part C). CalmThread x.thread) (some_same now q (sym (get-set_same w.parts t now p here) ∙ ap (slice_get (set w.parts t now)) (sym h.1) ∙ e))
                (calm_told p.thread p.thread.attempt refl (code p.thread.configuration) (answer w.lock w.words (access code p.thread)) (v.each t p here))
            by (inr h) = v.each u q (sym (get-set_other w.parts t u now h.1) ∙ e)

    pub all_calm : (w : World C) → Reached code init m0 threads w → AllCalm w
    all_calm w Reached.new = record { words = refl; each = λ t p e. subst (λ (x : Part C). CalmThread x.thread) (sym (new_part_at init 0 threads t p e)) refl }
    all_calm w (Reached.moved v t p r e f) = subst (λ o. AllCalm (step_of code v t o)) (sym e) (calm_step v t p e (all_calm v r))

  low_after : (w : World C) (t : ℕ) (r : Sequential C) → w.lock + 2 < 2 ^ 64 - 1 → (g : GoesAs code w t r) → (run code (replicate g.steps t) w).lock < 2 ^ 64 - 1
  low_after w t r low g = subst (λ (x : World C). x.lock < 2 ^ 64 - 1) (sym g.world) (by g.locked)
    where
      by : (g.lock ≡ w.lock) ⊎ (g.lock ≡ w.lock + 2) → g.lock < 2 ^ 64 - 1
      by (inl e) = omega (arith, e, low)
      by (inr e) = omega (arith, e, low)

  pub solo_progress : (init : ℕ → C) (bounds : List ℕ) (m0 : List ℕ) → IsMemory bounds m0 → FitsCells code bounds → SoloProgress code init m0
  solo_progress init bounds m0 is_memory fits threads w t p n r even low here none over =
      let v = all_calm init m0 threads w r in
      let th = p.thread in
      let calm : th.trapping ≡ false = subst (λ (o : Option (Attempt C)). Calm o th.trapping) none (v.each t p here) in
      let is : th ≡ record { configuration = th.configuration; attempt = None; trapping = false; text = th.text; status = th.status } =
      λ i. record { configuration = th.configuration; attempt = none i; trapping = calm i; text = th.text; status = th.status } in
      let g = runs_alone code bounds fits w t p th.configuration th.text th.status n even (v.words ∙ sized bounds m0 is_memory) here is over in
      (g, stays_reached code init bounds m0 is_memory fits threads w (replicate g.steps t) r (low_after w t _ low g))
