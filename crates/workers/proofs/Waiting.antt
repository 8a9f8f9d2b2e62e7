-- Accesses of validation and of a begin that waits, each one step of the worker.
use Rattle.std.proofs.Common.{◌≡◌, ℕ, ◌+◌, ◌<◌, ◌%◌, ◌==◌, false, Option, None, cond, refl, sym, ap, ◌∙◌, subst, arith}
use Rattle.syntax.specs.declared.thread_end.Status.{Status}
use Rattle.syntax.specs.declared.thread_end.Status.TheVariants.{Running}
use Rattle.bytecode.specs.Effects.{Effect}
use Rattle.bytecode.specs.Code.{Code, Configuration, effect, going, onward}
use Rattle.bytecode.specs.Valid.{cells_of}
use Rattle.frames.specs.Doings.{IsDoingAt}
use Rattle.frames.specs.declared.doing.Doing.TheVariants as doing
use Rattle.norec_core.specs.Accesses.{cost, stops}
use Rattle.norec_core.specs.Attempts.{Attempt}
use Rattle.norec_core.specs.Phases.{CoreStep, core_begin, idle}
use Rattle.norec_core.specs.declared.step.Access.{Access}
use Rattle.norec_core.specs.declared.step.Access.TheVariants.{LoadLock, LoadWord}
use Rattle.norec_core.specs.declared.step.Answer.{Answer}
use Rattle.norec_core.specs.declared.step.Answer.TheVariants.{Value}
use Rattle.machine.specs.Threads.{Thread, access, resume_next, step_with, told_of, told_outside}
use Rattle.machine.specs.Standing.{IsThreadOf}
use Rattle.machine.specs.States.{IsWordOf, StandsAt, ThreadState}
use Rattle.shared_words.specs.Setup.{Setup}
use Rattle.shared_words.specs.Rule.{IsNext, IsSeatStep, SeatView, Took}
use Rattle.workers.specs.Works.{GoesOnFrom, Works}
use Rattle.workers.proofs.Turns.{answer_ready, ready_makeable, ready_next, stepped}

module _ (key : Setup) (number : ℕ) (th : Thread Configuration) (steps accesses : ℕ) (m : SeatView) (works : Works key number th steps accesses m) (code : Code) (same : key.code ≡ code) where
  -- after one access
  module _ (x : Access) (x_is : access (effect code) th ≡ x) (one : cost x ≡ 1) (on : stops x ≡ false) (answer : Answer) (w : SeatView) (made : IsSeatStep x m answer w)
      (next : Thread Configuration) (next_is : next ≡ (step_with (effect code) th answer).thread) (of_code : IsThreadOf code next) (all count : ℕ) (all_is : all ≡ steps + 1) (count_is : count ≡ accesses + 1) where
    accessed : (is : Works key number next all count w) × GoesOnFrom key.code works.part works.now is.part is.now
    accessed =
        let c : cost (access (effect code) th) ≡ 1 = ap cost x_is ∙ one in
        subst (λ (n : ℕ). (is : Works key number next n count w) × GoesOnFrom key.code works.part works.now is.part is.now) (sym all_is)
        (stepped key number th steps accesses m works code same th refl x (sym x_is) answer w made on next next_is of_code count (omega (arith, c, count_is)))

  -- a load of the lock
  module _ (loads : access (effect code) th ≡ LoadLock) where
    pub lock_is_next : IsNext key m LoadLock
    lock_is_next = ready_next key number th steps accesses m works code same th refl LoadLock (sym loads)

    pub lock_loaded : (lock : ℕ) (w : SeatView) → Took m lock w → (next : Thread Configuration) → next ≡ (step_with (effect code) th (Value lock)).thread → IsThreadOf code next → (all count : ℕ) → all ≡ steps + 1 → count ≡ accesses + 1
        → (is : Works key number next all count w) × GoesOnFrom key.code works.part works.now is.part is.now
    lock_loaded lock w took next next_is of_code all count all_is count_is =
        accessed LoadLock loads refl refl (Value lock) w (lock, refl, took) next next_is of_code all count all_is count_is

  -- a load of a cell's word
  module _ (cell : ℕ) (loads : access (effect code) th ≡ LoadWord cell) where
    pub cell_fits : cell < cells_of key.code
    cell_fits = ready_makeable key number th steps accesses m works code same th refl (LoadWord cell) (sym loads)

    pub word_is_next : IsNext key m (LoadWord cell)
    word_is_next = ready_next key number th steps accesses m works code same th refl (LoadWord cell) (sym loads)

    module _ (word : ℕ) (w : SeatView) (took : Took m word w) where
      pub loaded_fits : IsWordOf code (LoadWord cell) (Value word)
      loaded_fits = subst (λ (x : Access). IsWordOf code x (Value word)) loads (answer_ready key number th steps accesses m works code same th refl (LoadWord cell) (sym loads) (Value word) w (word, refl, took)).1

      pub word_loaded : (next : Thread Configuration) → next ≡ (step_with (effect code) th (Value word)).thread → IsThreadOf code next → (all count : ℕ) → all ≡ steps + 1 → count ≡ accesses + 1
          → (is : Works key number next all count w) × GoesOnFrom key.code works.part works.now is.part is.now
      word_loaded next next_is of_code all count all_is count_is =
          accessed (LoadWord cell) loads refl refl (Value word) w (word, refl, took) next next_is of_code all count all_is count_is

-- a begin that found the lock odd stands where it stood
module _ (code : Code) (to lock : ℕ) (odd : lock % 2 ≡ 1) where
  other : {X : Type 0} (n : ℕ) (x y : X) → n ≡ 1 → cond (n == 0) x y ≡ y
  other n x y e = ap (λ (k : ℕ). cond (k == 0) x y) e

  no_snapshot : {S : Type 0} (now : S) → core_begin now (Value lock) ≡ idle
  no_snapshot now = other (lock % 2) _ idle odd

  stays_at : (th : Thread Configuration) → th.attempt ≡ None → th.status ≡ Running → IsDoingAt code th.configuration (doing.Begin to) → (step_with (effect code) th (Value lock)).thread.configuration ≡ th.configuration
  stays_at th none running t =
      ap (λ (a : Option (Attempt Configuration)). (told_of (effect code) th a (effect code th.configuration) (Value lock)).thread.configuration) none
      ∙ ap (λ (s : Status). (told_outside (effect code) th s (effect code th.configuration) (Value lock)).thread.configuration) running
      ∙ ap (λ (x : Effect Configuration). (told_outside (effect code) th Running x (Value lock)).thread.configuration) t
      ∙ ap (λ (n : CoreStep Configuration). (resume_next (effect code) th (Effect.Begin (onward th.configuration) (going th.configuration to)) n).thread.configuration) (no_snapshot th.configuration)

  pub begin_stands : (s t : ThreadState) → s.thread.attempt ≡ None → s.thread.status ≡ Running → StandsAt code s (doing.Begin to) → t.thread ≡ (step_with (effect code) s.thread (Value lock)).thread → StandsAt code t (doing.Begin to)
  begin_stands s t none running stands e = λ _.
      subst (λ (c : Configuration). IsDoingAt code c (doing.Begin to)) (sym (ap (λ (th : Thread Configuration). th.configuration) e ∙ stays_at s.thread none running (stands running))) (stands running)
