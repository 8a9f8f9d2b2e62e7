-- The swap that takes the lock.
use Rattle.std.proofs.Common.{◌≡◌, ◌≢◌, ◌<◌, ◌+◌, ◌%◌, ◌==◌, ◌⊎◌, inl, inr, ℕ, true, false, cond, List, [], Option, None, Some, refl, sym, ◌∙◌, ap, subst, arith}
use Rattle.std.specs.List.{AllByRecursion}
use Rattle.std.proofs.lemmas.Bool.Decides.{eqb_tells}
use Rattle.bytecode.specs.Effects.{Effect}
use Rattle.bytecode.specs.Effects.Effect.{Commit, Irrevocable}
use Rattle.bytecode.specs.Sequential.{inside_step}
use Rattle.norec_core.specs.Attempts.{Attempt}
use Rattle.norec_core.specs.Phases.{core_swap}
use Rattle.norec_core.specs.declared.step.Answer.TheVariants.{Lost, Won}
use Rattle.norec_core.specs.declared.step.Phase.TheVariants.{AtOperation, Stores, ValidatesTime}
use Rattle.machine.specs.Explained.{stored_of}
use Rattle.machine.specs.inner.Invariant.{AttemptOk, HasTaker, History, InHand, IsHistory, StepOk, LockIs, Moves, Ordered, PartOk, RecordOk, inside, inside_of}
use Rattle.machine.specs.Threads.{resume_next}
use Rattle.machine.specs.Worlds.{Part, part_after}
use Rattle.machine.proofs.parts.Forms.{go}
use Rattle.machine.proofs.parts.Frame.{begun_frame, each_frame}
use Rattle.machine.proofs.steps.Loads.{validate_step}
use Rattle.machine.proofs.parts.Meaning.{steps-last}
use Rattle.machine.proofs.parts.Part.{attempt_part, even_words, rephase, still}
use Rattle.norec_core.specs.declared.step.OpOutcome.TheVariants as outcome

-- thread t has taken the lock
abbrev pub taken : ℕ → History → History
taken t h = record h { lock = h.top + 1; holder = Some t; stored = [] }

pub free_lock : (h : History) → h.top % 2 ≡ 0 → h.lock % 2 ≡ 0 → (o : Option ℕ) → LockIs h o → o ≡ None
free_lock h even e None l = refl
free_lock h even e (Some t) l = absurd (omega arith)

pub taken_moves : (t : ℕ) (h : History) → h.holder ≡ None → h.lock ≡ h.top → Moves t h (taken t h)
taken_moves t h none e = record {
  lock = omega arith;
  top = omega arith;
  mem = λ s le. refl;
  owner = λ s lt. refl;
  new = λ s even ge lt. absurd (omega arith);
  holds = λ u ne some. absurd (cc);
  held = λ u ne some. absurd (let same : t ≡ u = cc in ne (sym same));
}

pub taken_history : (bounds : List ℕ) (t : ℕ) (h : History) (words : List ℕ) → IsHistory bounds h words → words ≡ h.mem h.top → IsHistory bounds (taken t h) words
taken_history bounds t h words i e = record { even = i.even; lock = refl; contents = e; memories = i.memories; stored_words = tt }

module _ {C : Type 0} (code : C → Effect C) (bounds : List ℕ) (t : ℕ) (c0 : C) (h : History) (words : List ℕ) (i : IsHistory bounds h words) where
  module _ (p : Part C) (each : AllByRecursion (RecordOk h t) p.records) (comp : (s : ℕ) → s % 2 ≡ 0 → s < h.top → h.owner s ≡ t → HasTaker s p.records) where
    module _ (a : Attempt C) (ord : Ordered 0 p.records a.snapshot) (n : AttemptOk code bounds h t c0 p.records p.base p.thread.configuration a p.thread.text p.thread.status) (e : p.thread.attempt ≡ Some a) (ph : a.phase ≡ AtOperation) (free : a.kept ≡ false) where
      -- what the swap finds where it is won
      module _ (same : h.lock ≡ a.snapshot) where
        top_is : h.lock ≡ h.top
        top_is = (even_words bounds h words i (rw same n.steady.even)).0

        moves : Moves t h (taken t h)
        moves = taken_moves t h (free_lock h i.even (rw same n.steady.even) h.holder i.lock) top_is

        snap_is : a.snapshot ≡ h.top
        snap_is = sym same ∙ top_is

        step_by : (q : Part C) → PartOk code bounds (taken t h) t c0 q → StepOk code bounds t c0 h (a.snapshot + 1) words q
        step_by q ok = record {
          after = taken t h;
          history = taken_history bounds t h words i (even_words bounds h words i (rw same n.steady.even)).1;
          same_lock = ap (λ s. s + 1) snap_is;
          part = ok;
          moves = moves;
        }

        commit_won : (c : C) → a.inner ≡ [] → code p.thread.configuration ≡ Commit c → StepOk code bounds t c0 h (a.snapshot + 1) words (part_after words p (go p.thread p.thread.configuration (record a { phase = Stores 0 })))
        commit_won c ei ex =
            let b : Attempt C = record a { phase = Stores 0 } in
            step_by (part_after words p (go p.thread p.thread.configuration (record a { phase = Stores 0 }))) (attempt_part code bounds t c0 (taken t h) (part_after words p (go p.thread p.thread.configuration (record a { phase = Stores 0 }))) b refl (each_frame t t h (taken t h) p.records moves each) ord comp (record {
              steady = n.steady;
              begun = rephase code bounds (taken t h) c0 p.records p.thread.configuration a p.thread.text (Stores 0) (begun_frame code bounds t h (taken t h) c0 p.records p.thread.configuration a p.thread.text n.steady.in_time moves n.begun);
              holds = rw free (refl, snap_is, refl);
              in_hand = (ei, (c, ex));
            }))

        irrevocable_won : (c : C) → code p.thread.configuration ≡ Irrevocable c → StepOk code bounds t c0 h (a.snapshot + 1) words (part_after words p (go p.thread c (record a { kept = true })))
        irrevocable_won c ex =
            let b : Attempt C = record a { kept = true } in
            let r = begun_frame code bounds t h (taken t h) c0 p.records p.thread.configuration a p.thread.text n.steady.in_time moves n.begun in
            step_by (part_after words p (go p.thread c b)) (attempt_part code bounds t c0 (taken t h) (part_after words p (go p.thread c b)) b refl (each_frame t t h (taken t h) p.records moves each) ord comp (record {
              steady = n.steady;
              begun = record {
                c1 = r.c1;
                text1 = r.text1;
                begins = r.begins;
                comes_to = r.comes_to;
                same_text = λ f. absurd (cc);
                reaches = (
                  r.reaches.0 + 1,
                  λ m fs ls size ok.
                      steps-last code r.reaches.0 _ _ (r.reaches.1 m fs ls size (record { agrees = ok.agrees; known = λ k. absurd (cc) }))
                      ∙ ap (inside_step (inside p.thread.configuration (inside_of code m a.saved a.writes a.inner a.kept) fs ls p.thread.text) (inside_of code m a.saved a.writes a.inner a.kept)) ex,
                );
              };
              holds = (refl, snap_is, sym (ap (stored_of a.writes) ph));
              in_hand = subst (InHand code (taken t h) b c) (sym ph) tt;
            }))

      pub commit_swap_step : (c : C) → a.inner ≡ [] → code p.thread.configuration ≡ Commit c → StepOk code bounds t c0 h (cond (h.lock == a.snapshot) (a.snapshot + 1) h.lock) words (part_after words p (resume_next code p.thread (Commit c) (core_swap a (record a { phase = Stores 0 }) outcome.Going (cond (h.lock == a.snapshot) Won (Lost h.lock)))))
      commit_swap_step c ei ex = at (eqb_tells h.lock a.snapshot)
        where
          at : ((h.lock == a.snapshot) ≡ true) × (h.lock ≡ a.snapshot) ⊎ ((h.lock == a.snapshot) ≡ false) × (h.lock ≢ a.snapshot) → StepOk code bounds t c0 h (cond (h.lock == a.snapshot) (a.snapshot + 1) h.lock) words (part_after words p (resume_next code p.thread (Commit c) (core_swap a (record a { phase = Stores 0 }) outcome.Going (cond (h.lock == a.snapshot) Won (Lost h.lock)))))
          at (inl f) = rw f.0 (commit_won f.1 c ei ex)
          at (inr f) = rw f.0 (still code bounds t c0 h h.lock words (part_after words p (go p.thread p.thread.configuration (record a { phase = ValidatesTime }))) refl i (validate_step code bounds t c0 h words i p each comp a e ord n (rw (ph, free) refl) (rw ex tt)))

      pub irrevocable_step : (c : C) → code p.thread.configuration ≡ Irrevocable c → StepOk code bounds t c0 h (cond (h.lock == a.snapshot) (a.snapshot + 1) h.lock) words (part_after words p (resume_next code p.thread (Irrevocable c) (core_swap a (record a { kept = true }) outcome.Done (cond (h.lock == a.snapshot) Won (Lost h.lock)))))
      irrevocable_step c ex = at (eqb_tells h.lock a.snapshot)
        where
          at : ((h.lock == a.snapshot) ≡ true) × (h.lock ≡ a.snapshot) ⊎ ((h.lock == a.snapshot) ≡ false) × (h.lock ≢ a.snapshot) → StepOk code bounds t c0 h (cond (h.lock == a.snapshot) (a.snapshot + 1) h.lock) words (part_after words p (resume_next code p.thread (Irrevocable c) (core_swap a (record a { kept = true }) outcome.Done (cond (h.lock == a.snapshot) Won (Lost h.lock)))))
          at (inl f) = rw f.0 (irrevocable_won f.1 c ex)
          at (inr f) = rw f.0 (still code bounds t c0 h h.lock words (part_after words p (go p.thread p.thread.configuration (record a { phase = ValidatesTime }))) refl i (validate_step code bounds t c0 h words i p each comp a e ord n (rw (ph, free) refl) (rw ex tt)))
