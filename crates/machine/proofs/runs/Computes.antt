-- What attempts have computed, after every list of steps.
use Rattle.std.proofs.Common.{ℕ, List, sym, subst}
use Rattle.syntax.specs.Behaviours.{IsMemory}
use Rattle.bytecode.specs.Effects.{Effect, FitsCells}
use Rattle.machine.specs.Answered.{Answered, Heard}
use Rattle.machine.specs.Computes.{AttemptsCompute}
use Rattle.machine.specs.Serializable.{world_after}
use Rattle.machine.specs.Worlds.{World, new_world, run}
use Rattle.machine.proofs.alone.Unstopped.{reached_steps}
use Rattle.machine.proofs.answers.Answering.{reached}
use Rattle.machine.proofs.runs.Explained.{computed}
use Rattle.machine.proofs.runs.Serializable.{new_invariant, start_of}
use Rattle.machine.proofs.steps.Worlds.{run_invariant}

module _ {C : Type 0} (code : C → Effect C) (init : ℕ → C) (bounds : List ℕ) (m0 : List ℕ) (is_memory : IsMemory bounds m0) where
  pub all_compute : FitsCells code bounds → (threads : ℕ) (ts : List ℕ) → AttemptsCompute code init m0 (world_after code init m0 threads ts)
  all_compute fits threads ts es m t p a e has =
      let r = run_invariant code bounds init m0 fits ts (new_world init m0 threads) (start_of m0) (new_invariant code init bounds m0 is_memory threads) in
      computed code init bounds m0 (run code ts (new_world init m0 threads)) r.0 r.1 es m t p a e has

  -- so too in each world of steps that do not stop
  pub answered_compute : FitsCells code bounds → (threads : ℕ) (w : World C) (heard : List (List Heard)) → Answered code init m0 threads w heard → AttemptsCompute code init m0 w
  answered_compute fits threads w heard r =
      let g = reached_steps code init m0 threads w (reached code init m0 threads w heard r) in
      subst (AttemptsCompute code init m0) (sym g.1) (all_compute fits threads g.0)
