-- A thread with more memories to find, and with some left before.
use Rattle.std.proofs.Common.{◌≡◌, ◌-◌, ℕ, zero, suc, Bool, true, false, List, [], ◌∷◌, ◌++◌, Option, None, Some, refl, ◌∙◌, ap, drop, append_assoc}
use Rattle.syntax.specs.declared.thread_end.Status.{Status}
use Rattle.syntax.specs.declared.thread_end.Status.TheVariants.{Running, Ended as HasEnded, Trapped as HasTrapped}
use Rattle.syntax.specs.Behaviours.{Memory}
use Rattle.bytecode.specs.Effects.{Effect}
use Rattle.bytecode.specs.Effects.Effect.{Print, Begin, Commit, Cancel, CancelOuter, Traps}
use Rattle.bytecode.specs.Sequential.{Sequential, OpenTransaction, InnerTransaction, next, steps, sequential_step, found_next, commit_step, cancel_step, print_step}

module _ {C : Type 0} (code : C → Effect C) where
  -- memories left before
  abbrev pub after_lefts : List Memory → Sequential C → Sequential C
  after_lefts ls s = record { configuration = s.configuration; inside = s.inside; founds = s.founds; lefts = ls ++ s.lefts; text = s.text; status = s.status; wants = s.wants }

  module _ (ls : List Memory) (s : Sequential C) where
    leaving : (m : Memory) → (ls ++ s.lefts) ++ m ∷ [] ≡ ls ++ (s.lefts ++ m ∷ [])
    leaving m = append_assoc ls s.lefts (m ∷ [])

    left_cancel : (i : OpenTransaction C) (is : List (InnerTransaction C)) (b : Bool) → cancel_step (after_lefts ls s) i is b ≡ after_lefts ls (cancel_step s i is b)
    left_cancel i [] true = refl
    left_cancel i [] false = ap (λ l. record { configuration = i.cancelled; inside = None; founds = s.founds; lefts = l; text = s.text; status = s.status; wants = s.wants }) (leaving i.found)
    left_cancel i (j ∷ is) b = refl

    left_step : (w : Bool) (st : Status) (o : Option (OpenTransaction C)) (x : Effect C) → sequential_step (after_lefts ls s) w st o x ≡ after_lefts ls (sequential_step s w st o x)
    left_step false Running None (Begin c d) = by s.founds
      where
        by : (ms : List Memory) → found_next (after_lefts ls s) c d ms ≡ after_lefts ls (found_next s c d ms)
        by [] = refl
        by (m ∷ ms) = refl
    left_step false Running (Some i) (Print piece c) = by i.kept
      where
        by : (b : Bool) → print_step (after_lefts ls s) piece c b ≡ after_lefts ls (print_step s piece c b)
        by true = refl
        by false = refl
    left_step false Running (Some i) (Commit c) = by i.inner
      where
        by : (is : List (InnerTransaction C)) → commit_step (after_lefts ls s) i c is ≡ after_lefts ls (commit_step s i c is)
        by [] = ap (λ l. record { configuration = c; inside = None; founds = s.founds; lefts = l; text = s.text; status = s.status; wants = s.wants }) (leaving i.mem)
        by (j ∷ is) = refl
    left_step false Running (Some i) Cancel = left_cancel i i.inner i.kept
    left_step false Running (Some i) (CancelOuter n) = left_cancel i (drop (n - 1) i.inner) i.kept
    left_step false Running (Some i) (Traps cause) = ap (λ l. record { configuration = s.configuration; inside = None; founds = s.founds; lefts = l; text = s.text; status = HasTrapped cause; wants = s.wants }) (leaving i.found)
    left_step w st o x = refl

  pub steps_after : (n : ℕ) (ls : List Memory) (s : Sequential C) → steps code n (after_lefts ls s) ≡ after_lefts ls (steps code n s)
  steps_after zero ls s = refl
  steps_after (suc n) ls s = ap (steps code n) (left_step ls s s.wants s.status s.inside (code s.configuration)) ∙ steps_after n ls (next code s)

  -- further memories to find
  abbrev pub with_founds : List Memory → Sequential C → Sequential C
  with_founds fs s = record { configuration = s.configuration; inside = s.inside; founds = s.founds ++ fs; lefts = s.lefts; text = s.text; status = s.status; wants = s.wants }

  module _ (fs : List Memory) (s : Sequential C) where
    found_cancel : (i : OpenTransaction C) (is : List (InnerTransaction C)) (b : Bool) → cancel_step (with_founds fs s) i is b ≡ with_founds fs (cancel_step s i is b)
    found_cancel i [] true = refl
    found_cancel i [] false = refl
    found_cancel i (j ∷ is) b = refl

    found_step : (w : Bool) (st : Status) (o : Option (OpenTransaction C)) (x : Effect C) → s.wants ≡ w → (sequential_step s w st o x).wants ≡ false → sequential_step (with_founds fs s) w st o x ≡ with_founds fs (sequential_step s w st o x)
    found_step false Running None (Begin c d) e h = by s.founds h
      where
        by : (ms : List Memory) → (found_next s c d ms).wants ≡ false → found_next (with_founds fs s) c d (ms ++ fs) ≡ with_founds fs (found_next s c d ms)
        by [] h = absurd (cc)
        by (m ∷ ms) h = refl
    found_step false Running (Some i) (Print piece c) e h = by i.kept
      where
        by : (b : Bool) → print_step (with_founds fs s) piece c b ≡ with_founds fs (print_step s piece c b)
        by true = refl
        by false = refl
    found_step false Running (Some i) (Commit c) e h = by i.inner
      where
        by : (is : List (InnerTransaction C)) → commit_step (with_founds fs s) i c is ≡ with_founds fs (commit_step s i c is)
        by [] = refl
        by (j ∷ is) = refl
    found_step false Running (Some i) Cancel e h = found_cancel i i.inner i.kept
    found_step false Running (Some i) (CancelOuter n) e h = found_cancel i (drop (n - 1) i.inner) i.kept
    found_step w st o x e h = refl

  wanted : (s : Sequential C) (w : Bool) → s.wants ≡ w → (sequential_step s w s.status s.inside (code s.configuration)).wants ≡ false → s.wants ≡ false
  wanted s true e h = h
  wanted s false e h = e

  none_wanted : (n : ℕ) (s : Sequential C) → (steps code n s).wants ≡ false → s.wants ≡ false
  none_wanted zero s h = h
  none_wanted (suc n) s h = wanted s s.wants refl (none_wanted n (next code s) h)

  pub steps_with : (n : ℕ) (fs : List Memory) (s : Sequential C) → (steps code n s).wants ≡ false → steps code n (with_founds fs s) ≡ with_founds fs (steps code n s)
  steps_with zero fs s h = refl
  steps_with (suc n) fs s h = ap (steps code n) (found_step fs s s.wants s.status s.inside (code s.configuration) refl (none_wanted n (next code s) h)) ∙ steps_with n fs (next code s) h

  -- one that stays where it is
  pub steps_stay : (n : ℕ) (s : Sequential C) → next code s ≡ s → steps code n s ≡ s
  steps_stay zero s e = refl
  steps_stay (suc n) s e = ap (steps code n) e ∙ steps_stay n s e

  over_by : (s : Sequential C) (w : Bool) (st : Status) → (st ≡ Running → ⊥) → sequential_step s w st s.inside (code s.configuration) ≡ s
  over_by s true st h = refl
  over_by s false Running h = absurd (h refl)
  over_by s false HasEnded h = refl
  over_by s false (HasTrapped cause) h = refl

  pub over_stays : (s : Sequential C) → (s.status ≡ Running → ⊥) → next code s ≡ s
  over_stays s h = over_by s s.wants s.status h

  pub want_stays : (s : Sequential C) → s.wants ≡ true → next code s ≡ s
  want_stays s e = ap (λ w. sequential_step s w s.status s.inside (code s.configuration)) e
