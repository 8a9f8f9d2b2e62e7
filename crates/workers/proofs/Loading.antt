-- Both steps of a read, each an access of the seat.
use Rattle.std.proofs.Common.{◌≡◌, ℕ, ◌+◌, ◌<◌, ◌^◌, refl, sym, ap, ◌∙◌, subst, arith}
use Rattle.norec_core.specs.declared.step.Access.{Access}
use Rattle.norec_core.specs.declared.step.Access.TheVariants.{LoadLock, LoadWord}
use Rattle.norec_core.specs.declared.step.Answer.TheVariants.{Value}
use Rattle.norec_core.specs.Accesses.{cost}
use Rattle.bytecode.specs.Code.{Code, Configuration, effect}
use Rattle.bytecode.specs.Valid.{cells_of}
use Rattle.machine.specs.Threads.{Thread, access, step_with}
use Rattle.machine.specs.Standing.{IsThreadOf}
use Rattle.machine.specs.States.{IsWordOf, told_twice}
use Rattle.machine.proofs.contexts.Words.{word_fits}
use Rattle.shared_words.specs.Setup.{Setup}
use Rattle.shared_words.specs.Rule.{IsNext, IsSeatStep, SeatView, Took}
use Rattle.workers.specs.Works.{GoesOnFrom, Works}
use Rattle.workers.proofs.Going.{goes_further}
use Rattle.workers.proofs.Turns.{answer_ready, ready_makeable, ready_next, stepped}

module _ (key : Setup) (number : ℕ) (th : Thread Configuration) (steps accesses : ℕ) (m : SeatView) (works : Works key number th steps accesses m) (code : Code) (same : key.code ≡ code)
    (ready : Thread Configuration) (r : ready ≡ th) (cell : ℕ) (first : access (effect code) ready ≡ LoadWord cell) where
  first_is : LoadWord cell ≡ access (effect code) th
  first_is = sym first ∙ ap (access (effect code)) r

  pub word_makeable : cell < cells_of key.code
  word_makeable = ready_makeable key number th steps accesses m works code same ready r (LoadWord cell) first_is

  module _ (word : ℕ) (w : SeatView) (took : Took m word w) where
    made : IsSeatStep (LoadWord cell) m (Value word) w
    made = (word, refl, took)

    -- its word fits a register
    pub loaded_fits : word < 2 ^ 64
    loaded_fits = word_fits code (LoadWord cell) (Value word) (subst (λ (x : Access). IsWordOf code x (Value word)) first (answer_ready key number th steps accesses m works code same ready r (LoadWord cell) first_is (Value word) w made).1)

    -- the thread between both steps
    abbrev middle : Thread Configuration
    middle = (step_with (effect code) ready (Value word)).thread

    module _ (of_code : IsThreadOf code middle) (second : access (effect code) middle ≡ LoadLock) where
      half : (is : Works key number middle (steps + 1) (accesses + cost (access (effect code) ready)) w) × GoesOnFrom key.code works.part works.now is.part is.now
      half = stepped key number th steps accesses m works code same ready r (LoadWord cell) first_is (Value word) w made refl middle refl of_code (accesses + cost (access (effect code) ready)) refl

      pub lock_next : IsNext key w LoadLock
      lock_next = ready_next key number middle (steps + 1) (accesses + cost (access (effect code) ready)) w half.0 code same middle refl LoadLock (sym second)

      module _ (lock : ℕ) (v : SeatView) (took_lock : Took w lock v) (last : Thread Configuration) (last_is : last ≡ (told_twice code ready word lock).thread) (last_of : IsThreadOf code last) (all count : ℕ) (all_is : all ≡ steps + 2) (count_is : count ≡ accesses + 2) where
        pub both_stepped : (is : Works key number last all count v) × GoesOnFrom key.code works.part works.now is.part is.now
        both_stepped =
            let n = accesses + cost (access (effect code) ready) in
            let h = stepped key number middle (steps + 1) n w half.0 code same middle refl LoadLock (sym second) (Value lock) v (lock, refl, took_lock) refl last last_is last_of (n + cost (access (effect code) middle)) refl in
            let one : cost (access (effect code) ready) ≡ 1 = ap cost first in
            let two : cost (access (effect code) middle) ≡ 1 = ap cost second in
            let a : steps + 1 + 1 ≡ all = omega (arith, all_is) in
            let b : accesses + cost (access (effect code) ready) + cost (access (effect code) middle) ≡ count = omega (arith, count_is, one, two) in
            subst (λ (z : ℕ × ℕ). (is : Works key number last z.0 z.1 v) × GoesOnFrom key.code works.part works.now is.part is.now) (λ i. (a i, b i))
            (h.0, goes_further key.code works.part half.0.part h.0.part works.now half.0.now h.0.now half.1 h.1)
