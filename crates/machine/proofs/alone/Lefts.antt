-- A code that uses its cells alone leaves memories where it finds memories.
use Rattle.std.proofs.Common.{◌≡◌, ℕ, zero, suc, Bool, true, false, List, [], ◌∷◌, ◌++◌, ◌-◌, drop, Option, None, Some, refl}
use Rattle.std.specs.List.{AllByRecursion}
use Rattle.syntax.specs.declared.thread_end.Status.{Status}
use Rattle.syntax.specs.declared.thread_end.Status.TheVariants.{Running, Ended as HasEnded, Trapped as HasTrapped}
use Rattle.syntax.specs.Behaviours.{IsMemory}
use Rattle.bytecode.specs.Effects.{Effect, FitsCells}
use Rattle.bytecode.specs.Effects.Effect.{Begin, Cancel, CancelOuter, Commit, End, Irrevocable, Print, Pure, Read, Traps, Write}
use Rattle.bytecode.specs.Sequential.{InnerTransaction, OpenTransaction, Sequential, cancel_step, commit_step, found_next, inside_step, meaning, next, outside_step, print_step, sequential_step, steps}
use Rattle.machine.proofs.Levels.{all_left}
use Rattle.machine.proofs.parts.Memories.{memory-set}
use Rattle.machine.proofs.parts.Part.{each_append}

module _ {C : Type 0} (code : C → Effect C) (bounds : List ℕ) (fits : FitsCells code bounds) where
  abbrev InnersOk : List (InnerTransaction C) → Type 0
  InnersOk ls = AllByRecursion (λ (l : InnerTransaction C). IsMemory bounds l.mem) ls

  abbrev InsideOk : Option (OpenTransaction C) → Type 0
  InsideOk None = Unit {0}
  InsideOk (Some i) = IsMemory bounds i.found × IsMemory bounds i.mem × InnersOk i.inner

  abbrev Ok : Sequential C → Type 0
  Ok s = InsideOk s.inside × AllByRecursion (IsMemory bounds) s.founds × AllByRecursion (IsMemory bounds) s.lefts

  module _ (s : Sequential C) (ok : Ok s) where
    finds : (c d : C) (fs : List (List ℕ)) → AllByRecursion (IsMemory bounds) fs → Ok (found_next s c d fs)
    finds c d [] all = ok
    finds c d (m ∷ ms) all = ((all.0, all.0, tt), all.1, ok.2)

    outside_ok : (x : Effect C) → Ok (outside_step s x)
    outside_ok (Begin c d) = finds c d s.founds ok.1
    outside_ok x = ok

    module _ (i : OpenTransaction C) (inner_ok : InsideOk (Some i)) where
      leaves : (m : List ℕ) → IsMemory bounds m → AllByRecursion (IsMemory bounds) (s.lefts ++ m ∷ [])
      leaves m is = each_append (IsMemory bounds) s.lefts m ok.2 is

      prints : (piece : List ℕ) (c : C) (kept : Bool) → Ok (print_step s piece c kept)
      prints piece c true = ok
      prints piece c false = ok

      commits : (c : C) (ls : List (InnerTransaction C)) → InnersOk ls → Ok (commit_step s i c ls)
      commits c [] all = (tt, ok.1, leaves i.mem inner_ok.1)
      commits c (l ∷ ls) all = ((inner_ok.0, inner_ok.1, all.1), ok.1, ok.2)

      cancels : (ls : List (InnerTransaction C)) (kept : Bool) → InnersOk ls → Ok (cancel_step s i ls kept)
      cancels [] false all = (tt, ok.1, leaves i.found inner_ok.0)
      cancels [] true all = ok
      cancels (l ∷ ls) kept all = ((inner_ok.0, all.0, all.1), ok.1, ok.2)

      inside_ok : (x : Effect C) → code s.configuration ≡ x → Ok (inside_step s i x)
      inside_ok (Pure c) e = ok
      inside_ok (Print piece c) e = prints piece c i.kept
      inside_ok (Begin c d) e = ((inner_ok.0, inner_ok.1, (inner_ok.1, inner_ok.2)), ok.1, ok.2)
      inside_ok (Read a k) e = ok
      inside_ok (Write a v c) e = ((inner_ok.0, memory-set bounds i.mem a v inner_ok.1 (fits.writes s.configuration c a v e).1, inner_ok.2), ok.1, ok.2)
      inside_ok (Commit c) e = commits c i.inner inner_ok.2
      inside_ok Cancel e = cancels i.inner i.kept inner_ok.2
      inside_ok (CancelOuter levels) e = cancels (drop (levels - 1) i.inner) i.kept (all_left (λ (l : InnerTransaction C). IsMemory bounds l.mem) (levels - 1) i.inner inner_ok.2)
      inside_ok (Irrevocable c) e = (inner_ok, ok.1, ok.2)
      inside_ok (Traps cause) e = (tt, ok.1, leaves i.found inner_ok.0)
      inside_ok End e = ok

    one : (wants : Bool) (status : Status) (o : Option (OpenTransaction C)) → InsideOk o → Ok (sequential_step s wants status o (code s.configuration))
    one true status o is = ok
    one false Running None is = outside_ok (code s.configuration)
    one false Running (Some i) is = inside_ok i is (code s.configuration) refl
    one false HasEnded o is = ok
    one false (HasTrapped cause) o is = ok

  all_steps : (n : ℕ) (s : Sequential C) → Ok s → Ok (steps code n s)
  all_steps zero s ok = ok
  all_steps (suc n) s ok = all_steps n (next code s) (one s ok s.wants s.status s.inside ok.0)

  pub leaves_memories : (init : ℕ → C) (t : ℕ) (founds : List (List ℕ)) (n : ℕ) → AllByRecursion (IsMemory bounds) founds → AllByRecursion (IsMemory bounds) (meaning code init t founds n).lefts
  leaves_memories init t founds n all = (all_steps n _ (tt, all, tt)).2
