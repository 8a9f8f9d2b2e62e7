-- Local steps of a worker's thread, many at once.
use Rattle.std.proofs.Common.{◌≡◌, ℕ, ◌+◌, true, List, [], ◌∷◌, ◌++◌, length, refl, sym, ap, ◌∙◌, subst, Some, arith, add-zero, add-suc, length-append, append-nil}
use Rattle.norec_core.specs.declared.step.Answer.TheVariants.{Done}
use Rattle.bytecode.specs.Effects.{Effect}
use Rattle.bytecode.specs.Code.{Code, Configuration, effect}
use Rattle.machine.specs.Answered.{Heard, StepsHearing, is_local, local_step, after_local_steps}
use Rattle.machine.specs.Threads.{Thread, access, step_with}
use Rattle.machine.specs.Worlds.{Part}
use Rattle.machine.specs.Standing.{IsThreadOf}
use Rattle.machine.specs.States.{first_thread}
use Rattle.machine.proofs.answers.Answering.{grows_on, local_grows, paused_more, replays_on}
use Rattle.shared_words.specs.Setup.{Setup}
use Rattle.shared_words.specs.Rule.{SeatView}
use Rattle.workers.specs.Works.{GoesOnFrom, Grows, Works}

no_last : {X : Type 0} (xs : List X) (x : X) → xs ++ x ∷ [] ≡ [] → ⊥
no_last xs x e = let l = ap length e in omega (arith, l, length-append xs (x ∷ []))

-- local steps of a thread are its part's
module _ {C : Type 0} (code : C → Effect C) (k : ℕ) (p now : Part C) (e : after_local_steps code k p ≡ Some now) where
  pub part_rests : (th u : Thread C) (n : ℕ) (hs : List Heard) → now.thread ≡ th → StepsHearing code th n hs u → hs ≡ [] → (later : Part C) × (after_local_steps code (k + n) p ≡ Some later) × (later.thread ≡ u) × Grows now.records later.records
  part_rests th u n hs t StepsHearing.none z = (now, ap (λ (j : ℕ). after_local_steps code j p) (add-zero k) ∙ e, t, ([], sym (append-nil now.records)))
  part_rests th u n hs t (StepsHearing.local_more m gs v r far) z =
      let b = part_rests th v m gs t r z in
      let at : is_local (access code b.0.thread) ≡ true = ap (λ (y : Thread C). is_local (access code y)) b.2 ∙ far in
      (local_step code b.0, ap (λ (j : ℕ). after_local_steps code j p) (add-suc k m) ∙ paused_more code (k + m) p b.0 b.1 at, ap (λ (y : Thread C). (step_with code y Done).thread) b.2, grows_on now.records b.0.records (local_step code b.0).records b.3 (local_grows code b.0))
  part_rests th u n hs t (StepsHearing.heard_more m gs v a r far on) z = absurd (no_last gs _ z)

module _ (key : Setup) (number : ℕ) (th : Thread Configuration) (steps accesses : ℕ) (m : SeatView) (works : Works key number th steps accesses m) (code : Code) (same : key.code ≡ code) where
  -- after so many local steps
  pub rested : (n : ℕ) (u : Thread Configuration) (all count : ℕ) → StepsHearing (effect code) th n [] u → IsThreadOf code u → all ≡ steps + n → count ≡ accesses →
      (is : Works key number u all count m) × GoesOnFrom key.code works.part works.now is.part is.now
  rested n u all count r of_code all_is count_is =
      let s : StepsHearing (effect key.code) th n [] u = subst (λ (c : Code). StepsHearing (effect c) th n [] u) (sym same) r in
      let b = part_rests (effect key.code) works.pauses works.part.part works.now works.paused_to th u n [] works.thread_is s refl in (
        record {
          part = works.part;
          pauses = works.pauses + n;
          now = b.0;
          sits = works.sits;
          setup = works.setup;
          number_is = works.number_is;
          paused_to = b.1;
          thread_is = b.2;
          valid = works.valid;
          of_code = subst (λ (c : Code). IsThreadOf c u) (sym same) of_code;
          replays = subst (λ (z : ℕ × List Heard). StepsHearing (effect key.code) (first_thread key.code number) z.0 z.1 u) (λ i. (sym all_is i, append-nil works.part.heard i))
              (replays_on (effect key.code) (first_thread key.code number) th u steps n works.part.heard [] works.replays s);
          counted = works.counted ∙ sym count_is;
          fewer = (let f = works.fewer in omega (arith, f, all_is, count_is));
          made = (let f = works.made in omega (arith, f, all_is));
          since = works.since;
          stands = works.stands;
        },
        record {
          count = n;
          more = [];
          heard = sym (append-nil works.part.heard);
          steps = subst (λ (z : Thread Configuration × Thread Configuration). StepsHearing (effect key.code) z.0 n [] z.1) (λ i. (sym works.thread_is i, sym b.2 i)) s;
          records = b.3;
          floor = (refl, refl);
          seen = ([], sym (append-nil works.part.seen));
        },
      )
