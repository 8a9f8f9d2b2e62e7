-- The steps of a thread's context: each shows as the machine's step.
use Rattle.std.proofs.Common.{◌≡◌, ◌<◌, ◌+◌, ◌-◌, ◌^◌, ℕ, suc, Bool, true, false, List, [], ◌∷◌, ◌++◌, Option, None, Some, refl, sym, ◌∙◌, ap, subst, map, length, length-append, arith}
use Rattle.syntax.specs.declared.thread_end.Status.{Status}
use Rattle.syntax.specs.declared.thread_end.Status.TheVariants.{Running, Trapped as HasTrapped}
use Rattle.syntax.specs.declared.thread_end.Trap.{Trap}
use Rattle.nesting.specs.Begins.{Saved}
use Rattle.bytecode.specs.Effects.{Effect, after_cancel}
use Rattle.bytecode.specs.Effects.Effect.{Pure, Print, Begin, Read, Write, Commit, Cancel, CancelOuter, Irrevocable, Traps, End}
use Rattle.bytecode.specs.Code.{Code, Configuration, effect}
use Rattle.frames.specs.Open.{MayStand, AreRestored, IsSuccessor, begin_configuration, saved_in, BeginsStayOpen}
use Rattle.norec_core.specs.declared.step.Op.{Op}
use Rattle.norec_core.specs.declared.step.Op.TheVariants as op
use Rattle.norec_core.specs.declared.step.OpOutcome.{OpOutcome}
use Rattle.norec_core.specs.declared.step.OpOutcome.TheVariants as outcome
use Rattle.norec_core.specs.declared.step.Answer.{Answer}
use Rattle.norec_core.specs.Attempts.{Attempt}
use Rattle.norec_core.specs.Phases.{CoreStep, core_step}
use Rattle.norec_core.specs.Saved.{if_some, core_step_as}
use Rattle.norec_core.proofs.SavedByMaps.{commutes}
use Rattle.machine.specs.Threads.{Thread, told_of, told_outside, told_inside, resume_next, resume, status_after, op_of}
use Rattle.machine.specs.Standing.{begins_of, GivesWordsIf}
use Rattle.machine.specs.States.{asks_outside, asks_by}
use Rattle.machine.specs.inner.Contexts.{shown_from, AreWithin, ContextWith}
use Rattle.machine.proofs.Levels.{same_split}
use Rattle.machine.proofs.contexts.Operations.{Does, TakesAway, cancels_so, is_cancel, is_plain, is_read}
use Rattle.machine.proofs.contexts.Operations.Does.{goes, reads, works, begins, commits, cancels, drops, releases}
use Rattle.machine.proofs.contexts.Seen.{restored_saved, now_unused, within}

-- a step of the core shows as the core's step on what is shown
pub core_shown : (c : Configuration) (s : Saved) (att : Option (Attempt Saved)) (o : Op) (y : Answer) → (o ≡ op.Begin → s ≡ saved_in c) → core_step c (shown_from c att) o y ≡ core_step_as (begin_configuration c) (core_step s att o y)
core_shown c s att o y h = at o h ∙ (commutes (begin_configuration c)).step s att o y
  where
    at : (x : Op) → (x ≡ op.Begin → s ≡ saved_in c) → core_step c (shown_from c att) x y ≡ core_step (begin_configuration c s) (shown_from c att) x y
    at op.Begin e = ap (λ (z : Configuration). core_step z (shown_from c att) op.Begin y) (sym (ap (begin_configuration c) (e refl) ∙ restored_saved c))
    at (op.Read a) e = now_unused c (begin_configuration c s) (shown_from c att) (op.Read a) y (λ g. cc)
    at (op.Write a v) e = now_unused c (begin_configuration c s) (shown_from c att) (op.Write a v) y (λ g. cc)
    at op.Commit e = now_unused c (begin_configuration c s) (shown_from c att) op.Commit y (λ g. cc)
    at op.Cancel e = now_unused c (begin_configuration c s) (shown_from c att) op.Cancel y (λ g. cc)
    at (op.CancelOuter levels) e = now_unused c (begin_configuration c s) (shown_from c att) (op.CancelOuter levels) y (λ g. cc)
    at op.Irrevocable e = now_unused c (begin_configuration c s) (shown_from c att) op.Irrevocable y (λ g. cc)
    at op.Release e = now_unused c (begin_configuration c s) (shown_from c att) op.Release y (λ g. cc)

module _ {C : Type 0} (f : C → Effect C) (th : Thread C) (y : Answer) where
  outside_asked : (s : Status) (x : Effect C) (o : Op) → asks_outside s x ≡ Some o → told_outside f th s x y ≡ resume_next f th x (core_step th.configuration None o y)
  outside_asked Running (Begin c d) o e = let same : op.Begin ≡ o = cc in ap (λ (z : Op). resume_next f th (Begin c d) (core_step th.configuration None z y)) same
  outside_asked s x o e = absurd (cc)

  -- a step that asks the core for an operation
  pub told_asked : (att : Option (Attempt C)) (x : Effect C) (o : Op) → asks_by th att x ≡ Some o → told_of f th att x y ≡ resume_next f th x (core_step th.configuration att o y)
  told_asked None x o e = outside_asked th.status x o e
  told_asked (Some a) x o e = ap (λ (q : Option Op). told_inside f th a x q y) e

-- the operation that an instruction asks for
abbrev pub Matches : {C : Type 0} → Effect C → Op → Type 0
Matches (Begin c d) o = o ≡ op.Begin
Matches (Read a k) o = o ≡ op.Read a
Matches (Write a v c) o = o ≡ op.Write a v
Matches (Commit c) o = o ≡ op.Commit
Matches Cancel o = o ≡ op.Cancel
Matches (CancelOuter levels) o = o ≡ op.CancelOuter levels
Matches (Irrevocable c) o = o ≡ op.Irrevocable
Matches (Traps k) o = o ≡ op.Release
Matches (Pure c) o = ⊥
Matches (Print p c) o = ⊥
Matches End o = ⊥

module _ {C : Type 0} where
  op_matches : (x : Effect C) (kept trapping : Bool) (o : Op) → op_of x kept trapping ≡ Some o → Matches x o
  op_matches (Traps cause) true false o e = absurd (cc)
  op_matches (Pure c) k t o e = absurd (cc)
  op_matches (Print p c) k t o e = absurd (cc)
  op_matches End k t o e = absurd (cc)
  op_matches x kept trapping o e = cc

  outside_matches : (s : Status) (x : Effect C) (o : Op) → asks_outside s x ≡ Some o → Matches x o
  outside_matches Running (Begin c d) o e = cc
  outside_matches s x o e = absurd (cc)

  pub matches : (th : Thread C) (att : Option (Attempt C)) (x : Effect C) (o : Op) → asks_by th att x ≡ Some o → Matches x o
  matches th None x o e = outside_matches th.status x o e
  matches th (Some a) x o e = op_matches x a.kept th.trapping o e

-- where the operation of a core's step leaves the thread, and whether it runs
pub record Leaves (code : Code) (c : Configuration) (x : Effect Configuration) (r : OpOutcome) (o : Option (Attempt Saved)) (d : Configuration) (s : Status) : Type 0 where
  pub stands : ContextWith code (record { configuration = d; core = record { attempt = o; asked = None; saved = saved_in c; read_room = 0; write_room = 0 }; trapping = false; text = []; status = s }) s
  pub within : AreWithin d (begins_of o)
  pub restored : AreRestored c d (begins_of o)

module _ (code : Code) (law : BeginsStayOpen code) where
  module _ (c : Configuration) (ss : List Saved) (m : MayStand code c ss) where
    runs_at : (x : Effect Configuration) (r : OpOutcome) (o : Option (Attempt Saved)) (d : Configuration) → MayStand code d (begins_of o) → AreRestored c d (begins_of o) → GivesWordsIf o → Leaves code c x r o d Running
    runs_at x r o d s a w = record { stands = record { stands = s; words = w }; within = within code law d (begins_of o) s; restored = a }

    over_at : (x : Effect Configuration) (r : OpOutcome) (cause : Trap) → Leaves code c x r None c (HasTrapped cause)
    over_at x r cause = record { stands = refl; within = tt; restored = refl }

    here : (x : Effect Configuration) (r : OpOutcome) (o : Option (Attempt Saved)) → begins_of o ≡ ss → GivesWordsIf o → Leaves code c x r o c Running
    here x r o e w = runs_at x r o c (subst (MayStand code c) (sym e) m) refl w

    on_at : (x : Effect Configuration) (r : OpOutcome) (o : Option (Attempt Saved)) (d : Configuration) → effect code c ≡ x → IsSuccessor x d → begins_of o ≡ ss → GivesWordsIf o → Leaves code c x r o d Running
    on_at x r o d ex g e w =
        let h = law.goes_on c d ss m (subst (λ z. IsSuccessor z d) (sym ex) g) in
        runs_at x r o d (subst (MayStand code d) (sym e) h.0) (subst (AreRestored c d) (sym e) h.1) w

    module _ (s : Saved) (o : Op) (n : CoreStep Saved) (same : o ≡ op.Begin → s ≡ saved_in c) where
      -- where the operation goes on: by what came of it, and by the instruction that asked for it
      abbrev To : Effect Configuration → Configuration
      To x = resume (effect code) x c n.outcome (if_some (begin_configuration c) n.back)

      abbrev LeavesTo : Effect Configuration → Type 0
      LeavesTo x = Leaves code c x n.outcome n.attempt (To x) (status_after n.outcome x Running)

      to_at : (x : Effect Configuration) (r : OpOutcome) (b : Option Saved) (d : Configuration) (st : Status) → n.outcome ≡ r → n.back ≡ b → resume (effect code) x c r (if_some (begin_configuration c) b) ≡ d → status_after r x Running ≡ st →
          Leaves code c x n.outcome n.attempt d st → LeavesTo x
      to_at x r b d st e f g h l =
          let place : To x ≡ d = ap (λ (z : OpOutcome). resume (effect code) x c z (if_some (begin_configuration c) n.back)) e ∙ ap (λ (z : Option Saved). resume (effect code) x c r (if_some (begin_configuration c) z)) f ∙ g in
          let status : status_after n.outcome x Running ≡ st = ap (λ (z : OpOutcome). status_after z x Running) e ∙ h in
          subst (λ z. Leaves code c x n.outcome n.attempt (To x) z) (sym status) (subst (λ z. Leaves code c x n.outcome n.attempt z st) (sym place) l)

      going_on : (x : Effect Configuration) → n.outcome ≡ outcome.Going → n.back ≡ None → begins_of n.attempt ≡ ss → GivesWordsIf n.attempt → LeavesTo x
      going_on x e f b w = to_at x outcome.Going None c Running e f refl refl (here x n.outcome n.attempt b w)

      reading : (x : Effect Configuration) (v : ℕ) → effect code c ≡ x → Matches x o → is_read o ≡ true → v < 2 ^ 64 → n.outcome ≡ outcome.Read v → n.back ≡ None → begins_of n.attempt ≡ ss → GivesWordsIf n.attempt → LeavesTo x
      reading (Read a k) v ex q r lt e f b w = to_at (Read a k) (outcome.Read v) None (k v) Running e f refl refl (on_at (Read a k) n.outcome n.attempt (k v) ex (v, lt, refl) b w)
      reading (Pure d) v ex q r lt e f b w = absurd q
      reading (Print p d) v ex q r lt e f b w = absurd q
      reading End v ex q r lt e f b w = absurd q
      reading x v ex q r lt e f b w = let z : is_read o ≡ false = ap is_read q in absurd (cc)

      working : (x : Effect Configuration) → effect code c ≡ x → Matches x o → is_plain o ≡ true → n.outcome ≡ outcome.Done → n.back ≡ None → begins_of n.attempt ≡ ss → GivesWordsIf n.attempt → LeavesTo x
      working (Write a u d) ex q r e f b w = to_at (Write a u d) outcome.Done None d Running e f refl refl (on_at (Write a u d) n.outcome n.attempt d ex refl b w)
      working (Irrevocable d) ex q r e f b w = to_at (Irrevocable d) outcome.Done None d Running e f refl refl (on_at (Irrevocable d) n.outcome n.attempt d ex refl b w)
      working (Pure d) ex q r e f b w = absurd q
      working (Print p d) ex q r e f b w = absurd q
      working End ex q r e f b w = absurd q
      working x ex q r e f b w = let z : is_plain o ≡ false = ap is_plain q in absurd (cc)

      beginning : (x : Effect Configuration) → effect code c ≡ x → Matches x o → o ≡ op.Begin → n.outcome ≡ outcome.Done → n.back ≡ None → begins_of n.attempt ≡ s ∷ ss → GivesWordsIf n.attempt → LeavesTo x
      beginning (Begin d g) ex q r e f b w =
          let h = law.opens c d g ss m ex in
          let now : s ≡ saved_in c = same r in
          let all : begins_of n.attempt ≡ saved_in c ∷ ss = b ∙ ap (λ (z : Saved). z ∷ ss) now in
          let back : AreRestored c d (saved_in c ∷ ss) = ap (λ (z : Configuration). z ∷ map (begin_configuration d) ss) (h.1 ∙ sym (restored_saved c)) ∙ ap (λ (zs : List Configuration). begin_configuration c (saved_in c) ∷ zs) h.2 in
          to_at (Begin d g) outcome.Done None d Running e f refl refl
          (runs_at (Begin d g) n.outcome n.attempt d (subst (MayStand code d) (sym all) h.0) (subst (AreRestored c d) (sym all) back) w)
      beginning (Pure d) ex q r e f b w = absurd q
      beginning (Print p d) ex q r e f b w = absurd q
      beginning End ex q r e f b w = absurd q
      beginning x ex q r e f b w = absurd (cc)

      committing : (x : Effect Configuration) (t : Saved) → effect code c ≡ x → Matches x o → o ≡ op.Commit → n.outcome ≡ outcome.Done → n.back ≡ None → ss ≡ t ∷ begins_of n.attempt → GivesWordsIf n.attempt → LeavesTo x
      committing (Commit d) t ex q r e f b w =
          let h = law.closes c d ss m ex in
          let rest : h.1 ≡ begins_of n.attempt = let g = h.2 in cc in
          to_at (Commit d) outcome.Done None d Running e f refl refl
          (runs_at (Commit d) n.outcome n.attempt d (subst (MayStand code d) rest h.3) (subst (AreRestored c d) rest h.4) w)
      committing (Pure d) t ex q r e f b w = absurd q
      committing (Print p d) t ex q r e f b w = absurd q
      committing End t ex q r e f b w = absurd q
      committing x t ex q r e f b w = absurd (cc)

      -- where a cancel of the begin that saved this goes on
      abbrev Back : Saved → Configuration
      Back z = after_cancel (effect code (begin_configuration c z)) (begin_configuration c z)

      -- back at a begin, which is this one
      back_at : (x : Effect Configuration) (z t : Saved) (rest : List Saved) → status_after outcome.Done x Running ≡ Running → MayStand code (Back z) rest → AreRestored c (Back z) rest → (z ≡ t) × (rest ≡ begins_of n.attempt)
          → n.outcome ≡ outcome.Done → n.back ≡ Some t → GivesWordsIf n.attempt → LeavesTo x
      back_at x z t rest runs stands begin_configuration same e f w =
          to_at x outcome.Done (Some t) (Back t) Running e f refl runs
          (runs_at x n.outcome n.attempt (Back t) (subst (λ (y : Saved). MayStand code (Back y) (begins_of n.attempt)) same.0 (subst (MayStand code (Back z)) same.1 stands))
          (subst (λ (y : Saved). AreRestored c (Back y) (begins_of n.attempt)) same.0 (subst (AreRestored c (Back z)) same.1 begin_configuration)) w)

      cancelling : (x : Effect Configuration) (inner : List Saved) (t : Saved) → effect code c ≡ x → Matches x o → TakesAway o (length inner) (length ss) → n.outcome ≡ outcome.Done → n.back ≡ Some t → ss ≡ inner ++ t ∷ begins_of n.attempt → GivesWordsIf n.attempt
          → LeavesTo x
      cancelling Cancel inner t ex q r e f b w =
          let h = law.cancels c ss m ex in
          let none : length inner ≡ 0 = subst (λ (z : Op). TakesAway z (length inner) (length ss)) q r in
          back_at Cancel h.0 t h.1 refl h.3 h.4 (same_split [] inner h.0 t h.1 (begins_of n.attempt) (sym none) (sym h.2 ∙ b)) e f w
      cancelling (CancelOuter levels) inner t ex q r e f b w =
          let h = law.cancels_outer levels c ss m ex in
          let all : length ss ≡ length h.0 + suc (length h.2) = ap length h.4 ∙ length-append h.0 (h.1 ∷ h.2) in
          let some : length inner ≡ levels - 1 = subst (λ (z : Op). TakesAway z (length inner) (length ss)) q r (omega (arith, all, h.3)) in
          back_at (CancelOuter levels) h.1 t h.2 refl h.5 h.6 (same_split h.0 inner h.1 t h.2 (begins_of n.attempt) (omega (arith, some, h.3)) (sym h.4 ∙ b)) e f w
      cancelling (Pure d) inner t ex q r e f b w = absurd q
      cancelling (Print p d) inner t ex q r e f b w = absurd q
      cancelling End inner t ex q r e f b w = absurd q
      cancelling x inner t ex q r e f b w = let y : is_cancel o ≡ true = cancels_so o _ _ r in let z : is_cancel o ≡ false = ap is_cancel q in absurd (cc)

      dropping : (x : Effect Configuration) (inner : List Saved) (t : Saved) → n.outcome ≡ outcome.Aborted → n.back ≡ Some t → ss ≡ inner ++ t ∷ [] → n.attempt ≡ None → LeavesTo x
      dropping x inner t e f b a =
          let h = law.goes_back c inner t [] (subst (MayStand code c) b m) in
          to_at x outcome.Aborted (Some t) (begin_configuration c t) Running e f refl refl
          (subst (λ (z : Option (Attempt Saved)). Leaves code c x n.outcome z (begin_configuration c t) Running) (sym a) (runs_at x n.outcome None (begin_configuration c t) h.0 refl tt))

      releasing : (x : Effect Configuration) → Matches x o → o ≡ op.Release → n.outcome ≡ outcome.Done → n.back ≡ None → n.attempt ≡ None → LeavesTo x
      releasing (Traps k) q r e f a = to_at (Traps k) outcome.Done None c (HasTrapped k) e f refl refl (subst (λ (z : Option (Attempt Saved)). Leaves code c (Traps k) n.outcome z c (HasTrapped k)) (sym a) (over_at (Traps k) n.outcome k))
      releasing (Pure d) q r e f a = absurd q
      releasing (Print p d) q r e f a = absurd q
      releasing End q r e f a = absurd q
      releasing x q r e f a = absurd (cc)

      pub leaves : (x : Effect Configuration) → effect code c ≡ x → Matches x o → Does s ss o n → LeavesTo x
      leaves x ex q (goes e f b w) = going_on x e f b w
      leaves x ex q (reads v r lt e f b w) = reading x v ex q r lt e f b w
      leaves x ex q (works r e f b w) = working x ex q r e f b w
      leaves x ex q (begins r e f b w) = beginning x ex q r e f b w
      leaves x ex q (commits t r e f b w c) = committing x t ex q r e f b w
      leaves x ex q (cancels inner t r e f b w) = cancelling x inner t ex q r e f b w
      leaves x ex q (drops inner t e f b a) = dropping x inner t e f b a
      leaves x ex q (releases r e f a) = releasing x q r e f a
