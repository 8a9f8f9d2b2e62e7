-- What a report shows of the threads.
use Rattle.std.proofs.Common.{◌≡◌, ◌≤◌, ◌+◌, ℕ, zero, suc, List, [], ◌∷◌, ◌++◌, Option, Some, length, take, refl, sym, ◌∙◌, ap, slice_get, arith, add-one, add-zero}
use Rattle.std.specs.Prelude.{option_map}
use Rattle.std.proofs.Math.Seq.{take_all}
use Rattle.syntax.specs.declared.thread_end.Status.{Status}
use Rattle.bytecode.specs.Code.{Configuration}
use Rattle.machine.specs.Worlds.{Part}
use Rattle.world.specs.declared.report.WorldEnd.{WorldEnd}
use Rattle.world.specs.declared.stop.StopReason.{StopReason}
use Rattle.world.specs.Reports.{end_with, parts_shown, threads_shown}
use Rattle.world.specs.Simulations.{IsExplained, Simulation, output_at, status_at, world_of}
use Rattle.world.proofs.Stepping.{parts_count}

module _ (stop : Option (ℕ × StopReason)) where
  more : (from : ℕ) (ps : List (Part Configuration)) (t : ℕ) (status : Status) (text : List ℕ) → option_map (λ (p : Part Configuration). p.thread.status) (slice_get ps t) ≡ Some status → option_map (λ (p : Part Configuration). p.thread.text) (slice_get ps t) ≡ Some text
      → take (suc t) (parts_shown stop from ps) ≡ take t (parts_shown stop from ps) ++ (end_with stop (from + t) status, text) ∷ []
  more from [] t status text e f = absurd (cc)
  more from (p ∷ ps) zero status text e f =
      let g : p.thread.status ≡ status = cc in
      let h : p.thread.text ≡ text = cc in
      λ i. (end_with stop (sym (add-zero from) i) (g i), h i) ∷ []
  more from (p ∷ ps) (suc t) status text e f =
      let g : suc from + t ≡ from + suc t = omega arith in
      ap (λ (l : List (WorldEnd × List ℕ)). (end_with stop from p.thread.status, p.thread.text) ∷ l) (more (suc from) ps t status text e f ∙ ap (λ n. take t (parts_shown stop (suc from) ps) ++ (end_with stop n status, text) ∷ []) g)

  pub shown_more : (s : Simulation) (t : ℕ) (status : Status) (text : List ℕ) → status_at s t ≡ Some status → output_at s t ≡ Some text
      → take t (threads_shown stop s) ++ (end_with stop t status, text) ∷ [] ≡ take (t + 1) (threads_shown stop s)
  shown_more s t status text e f = rw add-one (sym (more 0 (world_of s).parts t status text e f ∙ ap (λ n. take t (threads_shown stop s) ++ (end_with stop n status, text) ∷ []) (let g : 0 + t ≡ t = omega arith in g)))

  count : (from : ℕ) (ps : List (Part Configuration)) → length (parts_shown stop from ps) ≡ length ps
  count from [] = refl
  count from (p ∷ ps) = ap suc (count (suc from) ps)

  pub shown_all : (s : Simulation) (n : ℕ) → IsExplained s → s.threads ≤ n → take n (threads_shown stop s) ≡ threads_shown stop s
  shown_all s n k le = take_all n (threads_shown stop s) (let c = count 0 (world_of s).parts in let d = parts_count s k in omega arith)
