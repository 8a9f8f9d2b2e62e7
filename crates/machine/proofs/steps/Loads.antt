-- Loads of the lock and of words, and what is done with their answers.
use Rattle.std.proofs.Common.{◌≡◌, ◌≢◌, ◌<◌, ◌≤◌, ◌%◌, ◌==◌, ◌⊎◌, inl, inr, ℕ, suc, Bool, true, false, List, [], ◌∷◌, ◌++◌, Option, None, Some, refl, sym, ◌∙◌, ap, subst, get_or, slice_index, slice_get, arith}
use Rattle.std.specs.List.{AllByRecursion}
use Rattle.std.proofs.lemmas.Bool.Decides.{eqb_tells}
use Rattle.write_log.specs.Overlay.{Lacks, overlay}
use Rattle.read_log.specs.inner.Agreement.{AgreesBelow}
use Rattle.bytecode.specs.Effects.{Effect}
use Rattle.bytecode.specs.Effects.Effect.{Read}
use Rattle.norec_core.specs.Attempts.{Attempt}
use Rattle.norec_core.specs.Phases.{core_check, core_compare, core_time, core_word, drop_step, on_snapshot}
use Rattle.norec_core.specs.declared.step.Answer.{Answer}
use Rattle.norec_core.specs.declared.step.Answer.TheVariants.{Value}
use Rattle.norec_core.specs.declared.step.Phase.{Phase}
use Rattle.norec_core.specs.declared.step.Phase.TheVariants.{AtOperation, ReadsLock, ValidatesEntry, ValidatesTime}
use Rattle.machine.specs.Explained.{has_lock, stored_of}
use Rattle.machine.specs.inner.Invariant.{AttemptOk, ComesTo, HasTaker, History, InHand, IsHistory, LockBy, Ordered, PartOk, RecordOk, Validates, inside, inside_of}
use Rattle.machine.specs.Threads.{resume_next}
use Rattle.machine.specs.Worlds.{Part, part_after}
use Rattle.write_log.proofs.Overlay.{overlay-other}
use Rattle.read_log.proofs.Logs.{agrees_all, agrees_below_more, agrees_both, agrees_front, agrees_last}
use Rattle.machine.proofs.parts.Forms.{go}
use Rattle.machine.proofs.parts.Frame.{lock_bounds, ordered_up}
use Rattle.machine.proofs.parts.Meaning.{begun_step}
use Rattle.machine.proofs.parts.Part.{advance, attempt_part, even_words, free_holds, free_kept, not_holder, outside_part, to_phase}
use Rattle.norec_core.specs.declared.step.Op.TheVariants as op
use Rattle.norec_core.specs.declared.step.OpOutcome.TheVariants as outcome

-- the words that a holder that has stored nothing finds
stored_nothing : {C : Type 0} (h : History) (t : ℕ) (a : Attempt C) (kept : Bool) → kept ≡ true → a.phase ≡ AtOperation → LockBy h t a (has_lock kept a.phase) → (a.snapshot ≡ h.top) × (h.stored ≡ [])
stored_nothing h t a true k ph n = (n.1, n.2 ∙ ap (stored_of a.writes) ph)
stored_nothing h t a false k ph n = absurd (cc)

module _ {C : Type 0} (code : C → Effect C) (bounds : List ℕ) (t : ℕ) (c0 : C) (h : History) (words : List ℕ) (i : IsHistory bounds h words) where
  module _ (p : Part C) (each : AllByRecursion (RecordOk h t) p.records) (comp : (s : ℕ) → s % 2 ≡ 0 → s < h.top → h.owner s ≡ t → HasTaker s p.records) where
    module _ (a : Attempt C) (e : p.thread.attempt ≡ Some a) (ord : Ordered 0 p.records a.snapshot) (n : AttemptOk code bounds h t c0 p.records p.base p.thread.configuration a p.thread.text p.thread.status) where
      -- another phase, without the lock
      phase_part : (q : Phase) → has_lock a.kept a.phase ≡ false → has_lock a.kept q ≡ false → InHand code h (record a { phase = q }) p.thread.configuration q → PartOk code bounds h t c0 (part_after words p (go p.thread p.thread.configuration (record a { phase = q })))
      phase_part q free free' hand = attempt_part code bounds t c0 h (part_after words p (go p.thread p.thread.configuration (record a { phase = q }))) (record a { phase = q }) refl each ord comp (to_phase code bounds t c0 h p.records p.base p.thread.configuration a p.thread.text p.thread.status q free free' hand n)

      -- the attempt goes on as it is
      pub unmoved_step : PartOk code bounds h t c0 (part_after words p (go p.thread p.thread.configuration a))
      unmoved_step = attempt_part code bounds t c0 h _ a refl each ord comp n

      pub validate_step : has_lock a.kept a.phase ≡ false → Validates (code p.thread.configuration) → PartOk code bounds h t c0 (part_after words p (go p.thread p.thread.configuration (record a { phase = ValidatesTime })))
      validate_step free asks = let kept = free_kept a.kept a.phase free in phase_part ValidatesTime free (rw kept refl) (kept, asks)

      -- the word of a read
      pub word_step : (ad : ℕ) (k : ℕ → C) (kept : Bool) → a.kept ≡ kept → a.phase ≡ AtOperation → code p.thread.configuration ≡ Read ad k → Lacks ad a.writes → PartOk code bounds h t c0 (part_after words p (resume_next code p.thread (Read ad k) (core_word a kept (Value (slice_index words ad)))))
      word_step ad k false free ph ex lacks = phase_part (ReadsLock (slice_index words ad)) (rw (ph, free) refl) (rw free refl) (
        ad,
        k,
        ex,
        lacks,
        free,
        λ same.
            let b = lock_bounds h h.holder i.lock in
            let le = n.steady.in_time in
            let q = even_words bounds h words i (rw same n.steady.even) in
            let top = q.0 in
            let s : a.snapshot ≡ h.top = omega arith in
            rw (q.1, s) refl,
      )
      word_step ad k true kept ph ex lacks =
          let z = stored_nothing h t a a.kept kept ph n.holds in
          let w : words ≡ h.mem a.snapshot = i.contents ∙ ap (overlay (h.mem h.top)) z.1 ∙ ap h.mem (sym z.0) in
          attempt_part code bounds t c0 h (part_after words p (go p.thread (k (slice_index words ad)) a)) a refl each ord comp
          (advance code bounds t c0 h p.records p.base p.thread.configuration (k (slice_index words ad)) a p.thread.text p.thread.text p.thread.status a.writes a.inner (Read ad k) ex ph n.steady.log n.steady.marks (λ f. refl)
          (λ m fs ls size ok. ap (λ v. inside (k v) (inside_of code m a.saved a.writes a.inner a.kept) fs ls p.thread.text)
          (overlay-other m ad a.writes lacks ∙ ap (λ m'. get_or m' ad 0) (ok.known kept ∙ sym w))) n)

      -- the read is logged
      logged : (v : ℕ) (ad : ℕ) (k : ℕ → C) → code p.thread.configuration ≡ Read ad k → Lacks ad a.writes → has_lock a.kept a.phase ≡ false → slice_index (h.mem a.snapshot) ad ≡ v
          → PartOk code bounds h t c0 (part_after words p (go p.thread (k v) (record a { reads = a.reads ++ (ad, v) ∷ []; phase = AtOperation })))
      logged v ad k ex lacks free here =
          let b : Attempt C = record a { reads = a.reads ++ (ad, v) ∷ []; phase = AtOperation } in
          attempt_part code bounds t c0 h (part_after words p (go p.thread (k v) b)) b refl each ord comp (record {
            steady = record {
              running = n.steady.running;
              even = n.steady.even;
              since = n.steady.since;
              in_time = n.steady.in_time;
              based = n.steady.based;
              agrees = agrees_both (h.mem a.snapshot) a.reads (ad, v) n.steady.agrees here;
              log = n.steady.log;
              marks = n.steady.marks;
            };
            begun = begun_step code bounds h c0 p.records p.thread.configuration (k v) a p.thread.text p.thread.text (a.reads ++ (ad, v) ∷ []) a.writes a.inner AtOperation (Read ad k) ex
                (λ m ok. record { agrees = agrees_front m a.reads (ad, v) ok.agrees; known = ok.known })
                (λ f. refl)
                (λ m fs ls size ok. ap (λ x. inside (k x) (inside_of code m a.saved a.writes a.inner a.kept) fs ls p.thread.text)
                (overlay-other m ad a.writes lacks ∙ agrees_last m a.reads (ad, v) ok.agrees))
                n.begun;
            holds = free_holds h t a b (has_lock a.kept a.phase) (has_lock a.kept AtOperation) free (rw (free_kept a.kept a.phase free) refl) n.holds;
            in_hand = tt;
          })

      -- the lock, for a read that has its word
      pub check_step : (v ad : ℕ) (k : ℕ → C) → has_lock a.kept a.phase ≡ false → code p.thread.configuration ≡ Read ad k → InHand code h a p.thread.configuration (ReadsLock v)
          → PartOk code bounds h t c0 (part_after words p (resume_next code p.thread (Read ad k) (core_check a (op.Read ad) v (Value h.lock))))
      check_step v ad k free ex hand = at (eqb_tells h.lock a.snapshot)
        where
          both : Read hand.0 hand.1 ≡ Read ad k
          both = sym hand.2 ∙ ex

          same : hand.0 ≡ ad
          same = cc

          at : ((h.lock == a.snapshot) ≡ true) × (h.lock ≡ a.snapshot) ⊎ ((h.lock == a.snapshot) ≡ false) × (h.lock ≢ a.snapshot) → PartOk code bounds h t c0 (part_after words p (resume_next code p.thread (Read ad k) (core_check a (op.Read ad) v (Value h.lock))))
          at (inl f) = rw f.0 (logged v ad k ex (subst (λ z. Lacks z a.writes) same hand.3) free (ap (slice_index (h.mem a.snapshot)) (sym same) ∙ hand.5 f.1))
          at (inr f) = rw f.0 (validate_step free (rw ex tt))

      pub time_step : (x : Effect C) → has_lock a.kept a.phase ≡ false → Validates (code p.thread.configuration) → PartOk code bounds h t c0 (part_after words p (resume_next code p.thread x (core_time a (Value h.lock))))
      time_step x free asks = at (eqb_tells (h.lock % 2) 0)
        where
          at : (((h.lock % 2) == 0) ≡ true) × (h.lock % 2 ≡ 0) ⊎ (((h.lock % 2) == 0) ≡ false) × (h.lock % 2 ≢ 0) → PartOk code bounds h t c0 (part_after words p (resume_next code p.thread x (core_time a (Value h.lock))))
          at (inr f) = rw f.0 unmoved_step
          at (inl f) =
              let b = lock_bounds h h.holder i.lock in
              let le = n.steady.in_time in
              let kept = free_kept a.kept a.phase free in
              rw f.0 (phase_part (ValidatesEntry h.lock 0) free (rw kept refl) (kept, f.1, omega arith, omega arith, (λ same j q lt g. absurd (omega arith)), asks))

      -- the attempt is dropped
      pub abort_step : (x : Effect C) → has_lock a.kept a.phase ≡ false → PartOk code bounds h t c0 (part_after words p (resume_next code p.thread x (drop_step a)))
      abort_step x free =
          outside_part code bounds t c0 h _ refl each (ordered_up 0 p.records a.snapshot h.top n.steady.in_time ord) comp
          (subst (λ x. ComesTo code c0 p.records a.saved x p.thread.status) (n.begun.same_text (free_kept a.kept a.phase free)) (subst (ComesTo code c0 p.records a.saved n.begun.text1) (sym n.steady.running) n.begun.comes_to))
          (not_holder h t a (has_lock a.kept a.phase) free n.holds)

      -- validation's last load finds the time
      renewed : (x : Effect C) (time j : ℕ) → has_lock a.kept a.phase ≡ false → time % 2 ≡ 0 → a.snapshot ≤ time → time ≤ h.top → words ≡ h.mem time → AgreesBelow j (h.mem time) a.reads → slice_get a.reads j ≡ None → PartOk code bounds h t c0 (part_after words p (resume_next code p.thread x (on_snapshot (record a { snapshot = time; phase = AtOperation }) outcome.Going)))
      renewed x time j free even lo hi here below none =
          let b : Attempt C = record a { snapshot = time; phase = AtOperation } in
          let first = n.steady.since in
          attempt_part code bounds t c0 h _ b refl each (ordered_up 0 p.records a.snapshot time lo ord) comp (record {
            steady = record {
              running = n.steady.running;
              even = even;
              since = omega arith;
              in_time = hi;
              based = here;
              agrees = agrees_all j (h.mem time) a.reads none below;
              log = n.steady.log;
              marks = n.steady.marks;
            };
            begun = record {
              c1 = n.begun.c1;
              text1 = n.begun.text1;
              begins = n.begun.begins;
              comes_to = n.begun.comes_to;
              same_text = n.begun.same_text;
              reaches = (n.begun.reaches.0, λ m fs ls size ok. n.begun.reaches.1 m fs ls size (record { agrees = ok.agrees; known = λ k. absurd (let kept = free_kept a.kept a.phase free in cc) }));
            };
            holds = free_holds h t a b (has_lock a.kept a.phase) (has_lock a.kept AtOperation) free (rw (free_kept a.kept a.phase free) refl) n.holds;
            in_hand = tt;
          })

      -- a word or the lock, in validation
      pub compare_step : (x : Effect C) (time j : ℕ) (o : Option (ℕ × ℕ)) (ans : Answer) → has_lock a.kept a.phase ≡ false → slice_get a.reads j ≡ o → InHand code h a p.thread.configuration (ValidatesEntry time j)
          → ((q : ℕ × ℕ) → o ≡ Some q → ans ≡ Value (slice_index words q.0)) → (o ≡ None → ans ≡ Value h.lock)
          → PartOk code bounds h t c0 (part_after words p (resume_next code p.thread x (core_compare a time j o ans)))
      compare_step x time j (Some q) ans free g hand word lock = rw (word q refl) (at (eqb_tells (slice_index words q.0) q.1))
        where
          at : ((slice_index words q.0 == q.1) ≡ true) × (slice_index words q.0 ≡ q.1) ⊎ ((slice_index words q.0 == q.1) ≡ false) × (slice_index words q.0 ≢ q.1) → PartOk code bounds h t c0 (part_after words p (resume_next code p.thread x (core_compare a time j (Some q) (Value (slice_index words q.0)))))
          at (inr f) = rw f.0 (abort_step x free)
          at (inl f) = rw f.0 (phase_part (ValidatesEntry time (suc j)) free (rw hand.0 refl) (
            hand.0,
            hand.1,
            hand.2,
            hand.3,
            λ same.
                let qt = even_words bounds h words i (rw same hand.1) in
                let top : h.top ≡ time = sym qt.0 ∙ same in
                agrees_below_more j (h.mem time) a.reads q g (ap (λ s. get_or (h.mem s) q.0 0) (sym top) ∙ ap (λ w. get_or w q.0 0) (sym qt.1) ∙ f.1) (hand.4 same),
            hand.5,
          ))
      compare_step x time j None ans free g hand word lock = rw (lock refl) (at (eqb_tells h.lock time))
        where
          at : ((h.lock == time) ≡ true) × (h.lock ≡ time) ⊎ ((h.lock == time) ≡ false) × (h.lock ≢ time) → PartOk code bounds h t c0 (part_after words p (resume_next code p.thread x (core_compare a time j None (Value h.lock))))
          at (inr f) = rw f.0 (validate_step free hand.5)
          at (inl f) =
              let same = f.1 in
              let qt = even_words bounds h words i (rw same hand.1) in
              let top = qt.0 in
              rw f.0 (renewed x time j free hand.1 hand.2 (omega arith) (qt.1 ∙ ap h.mem (sym top ∙ same)) (hand.4 same) g)
