-- Local steps, and the load of the lock at an outermost begin.
use Rattle.std.proofs.Common.{◌≡◌, ◌≢◌, ◌<◌, ◌-◌, ◌%◌, ◌==◌, ◌⊎◌, inl, inr, ℕ, Bool, true, false, List, [], ◌∷◌, ◌++◌, ◌∙◌, None, Some, refl, sym, ap, subst, length, drop, arith}
use Rattle.std.specs.List.{AllByRecursion}
use Rattle.std.proofs.lemmas.Bool.Decides.{eqb_tells}
use Rattle.syntax.specs.declared.thread_end.Status.TheVariants.{Running, Trapped as HasTrapped}
use Rattle.syntax.specs.declared.thread_end.Trap.{Trap}
use Rattle.write_log.specs.Overlay.{overlay, with_write, overlay_word}
use Rattle.bytecode.specs.Effects.{Effect, FitsCells, after_cancel}
use Rattle.bytecode.specs.Effects.Effect.{Begin, Cancel, CancelOuter, Commit, End, Irrevocable, Print, Pure, Read, Traps, Write}
use Rattle.bytecode.specs.Sequential.{inside_step, outside, outside_step}
use Rattle.norec_core.specs.Attempts.{Attempt, Checkpoint}
use Rattle.norec_core.specs.declared.step.Answer.{Answer}
use Rattle.norec_core.specs.declared.step.Answer.TheVariants.{Value}
use Rattle.norec_core.specs.declared.step.Phase.TheVariants.{AtOperation}
use Rattle.machine.specs.inner.Invariant.{AttemptOk, ComesTo, HasTaker, History, IsHistory, IsLog, MayHaveFound, Ordered, PartOk, RecordOk, inners_of, inside, inside_of, lefts_in}
use Rattle.machine.specs.Threads.{own_step, print_inside, told_running}
use Rattle.machine.specs.Worlds.{Part, part_after}
use Rattle.write_log.proofs.Overlay.{overlay-put, overlay-written}
use Rattle.machine.proofs.Levels.{all_left}
use Rattle.machine.proofs.parts.Forms.{finish, go}
use Rattle.machine.proofs.parts.Meaning.{comes_step, outer_cancelled}
use Rattle.machine.proofs.parts.Memories.{log-put}
use Rattle.machine.proofs.parts.Part.{advance, attempt_part, even_words, joined_part, outside_part}

module _ {C : Type 0} (code : C → Effect C) (bounds : List ℕ) (t : ℕ) (c0 : C) (h : History) (words : List ℕ) where
  -- Each step is given what holds of the part, apart.
  module _ (p : Part C) (each : AllByRecursion (RecordOk h t) p.records) (comp : (s : ℕ) → s % 2 ≡ 0 → s < h.top → h.owner s ≡ t → HasTaker s p.records) where
    outside_goes : (q : Part C) (x : Effect C) → q.thread.attempt ≡ None → q.records ≡ p.records → p.thread.status ≡ Running → code p.thread.configuration ≡ x → Ordered 0 p.records h.top → h.holder ≢ Some t
        → ((more : List (List ℕ)) → outside_step (outside p.thread.configuration more (lefts_in p.records) p.thread.text Running) x ≡ outside q.thread.configuration more (lefts_in p.records) q.thread.text q.thread.status)
        → ComesTo code c0 p.records p.thread.configuration p.thread.text p.thread.status
        → PartOk code bounds h t c0 q
    outside_goes q x e er st ex ord nh one s =
        outside_part code bounds t c0 h q e (rw er each) (rw er ord) (rw er comp)
        (rw er (comes_step code c0 p.records p.thread.configuration q.thread.configuration p.thread.text q.thread.text q.thread.status x ex one (subst (ComesTo code c0 p.records p.thread.configuration p.thread.text) st s))) nh

    -- an outermost begin
    begin_step : (d dc : C) → p.thread.attempt ≡ None → p.thread.status ≡ Running → code p.thread.configuration ≡ Begin d dc → IsHistory bounds h words → Ordered 0 p.records h.top → h.holder ≢ Some t
        → ComesTo code c0 p.records p.thread.configuration p.thread.text p.thread.status
        → PartOk code bounds h t c0 (part_after words p (told_running code p.thread (Begin d dc) (Value h.lock)))
    begin_step d dc e st ex i ord nh s = at (eqb_tells (h.lock % 2) 0)
      where
        new : Attempt C
        new = record { saved = p.thread.configuration; first = h.lock; snapshot = h.lock; reads = []; writes = []; inner = []; kept = false; phase = AtOperation }

        at : (((h.lock % 2) == 0) ≡ true) × (h.lock % 2 ≡ 0) ⊎ (((h.lock % 2) == 0) ≡ false) × (h.lock % 2 ≢ 0) → PartOk code bounds h t c0 (part_after words p (told_running code p.thread (Begin d dc) (Value h.lock)))
        at (inr f) = rw f.0 (outside_part code bounds t c0 h _ refl each ord comp s nh)
        at (inl f) =
            let top : h.lock ≡ h.top = (even_words bounds h words i f.1).0 in
            rw f.0 (attempt_part code bounds t c0 h _ new refl each (subst (Ordered 0 p.records) (sym top) ord) comp (record {
              steady = record {
                running = st;
                even = f.1;
                since = omega arith;
                in_time = omega arith;
                based = (even_words bounds h words i f.1).1 ∙ ap h.mem (sym top);
                agrees = λ n q g. absurd (cc);
                log = (tt, tt);
                marks = tt;
              };
              begun = record {
                c1 = d;
                text1 = p.thread.text;
                begins = rw ex refl;
                comes_to = subst (ComesTo code c0 p.records p.thread.configuration p.thread.text) st s;
                same_text = λ k. refl;
                reaches = (0, λ m fs ls size all. refl);
              };
              holds = nh;
              in_hand = tt;
            }))

    -- a thread that runs outside transactions
    pub outside_steps : (x : Effect C) (ans : Answer) → p.thread.attempt ≡ None → p.thread.status ≡ Running → code p.thread.configuration ≡ x → IsHistory bounds h words → Ordered 0 p.records h.top → h.holder ≢ Some t
        → ComesTo code c0 p.records p.thread.configuration p.thread.text p.thread.status → PartOk code bounds h t c0 p
        → ((d dc : C) → x ≡ Begin d dc → ans ≡ Value h.lock)
        → PartOk code bounds h t c0 (part_after words p (told_running code p.thread x ans))
    outside_steps (Pure c) ans e st ex i ord nh s ok lock = outside_goes _ (Pure c) e refl st ex ord nh (λ more. ap (outside c more (lefts_in p.records) p.thread.text) (sym st)) s
    outside_steps (Print piece c) ans e st ex i ord nh s ok lock = outside_goes _ (Print piece c) e refl st ex ord nh (λ more. ap (outside c more (lefts_in p.records) (p.thread.text ++ piece)) (sym st)) s
    outside_steps (Begin d dc) ans e st ex i ord nh s ok lock = rw (lock d dc refl) (begin_step d dc e st ex i ord nh s)
    outside_steps (Irrevocable c) ans e st ex i ord nh s ok lock = outside_goes _ (Irrevocable c) e refl st ex ord nh (λ more. ap (outside c more (lefts_in p.records) p.thread.text) (sym st)) s
    outside_steps (Traps cause) ans e st ex i ord nh s ok lock = outside_goes _ (Traps cause) e refl st ex ord nh (λ more. refl) s
    outside_steps End ans e st ex i ord nh s ok lock = outside_goes _ End e refl st ex ord nh (λ more. refl) s
    outside_steps x ans e st ex i ord nh s ok lock = ok

    -- the attempt stands at an instruction
    module _ (a : Attempt C) (e : p.thread.attempt ≡ Some a) (ph : a.phase ≡ AtOperation) (ord : Ordered 0 p.records a.snapshot) (n : AttemptOk code bounds h t c0 p.records p.base p.thread.configuration a p.thread.text p.thread.status) where
      -- a local step that changes the write log, the inner transactions and the place
      goes : (d : C) (writes : List (ℕ × ℕ)) (inner : List (Checkpoint C)) (x : Effect C) → code p.thread.configuration ≡ x → IsLog bounds writes → AllByRecursion (λ (k : Checkpoint C). IsLog bounds k.writes) inner
          → ((m : List ℕ) (founds lefts : List (List ℕ)) → length m ≡ length bounds → MayHaveFound a.reads a.kept (h.mem a.snapshot) m →
          inside_step (inside p.thread.configuration (inside_of code m a.saved a.writes a.inner a.kept) founds lefts p.thread.text) (inside_of code m a.saved a.writes a.inner a.kept) x ≡ inside d (inside_of code m a.saved writes inner a.kept) founds lefts p.thread.text)
          → PartOk code bounds h t c0 (part_after words p (go p.thread d (record a { writes = writes; inner = inner })))
      goes d writes inner x ex dis marks one =
          attempt_part code bounds t c0 h (part_after words p (go p.thread d (record a { writes = writes; inner = inner }))) (record a { writes = writes; inner = inner }) refl each ord comp
          (advance code bounds t c0 h p.records p.base p.thread.configuration d a p.thread.text p.thread.text p.thread.status writes inner x ex ph dis marks (λ k. refl) one n)

      pub pure_step : (c : C) → code p.thread.configuration ≡ Pure c → PartOk code bounds h t c0 (part_after words p (own_step p.thread a (Pure c)))
      pure_step c ex =
          attempt_part code bounds t c0 h _ a e each ord comp
          (advance code bounds t c0 h p.records p.base p.thread.configuration c a p.thread.text p.thread.text p.thread.status a.writes a.inner (Pure c) ex ph n.steady.log n.steady.marks (λ k. refl) (λ m fs ls size all. refl) n)

      pub print_step : (piece : List ℕ) (c : C) (kept : Bool) → a.kept ≡ kept → code p.thread.configuration ≡ Print piece c → PartOk code bounds h t c0 p → PartOk code bounds h t c0 (part_after words p (print_inside p.thread piece c kept))
      print_step piece c false k ex ok = ok
      print_step piece c true k ex ok =
          attempt_part code bounds t c0 h (part_after words p (print_inside p.thread piece c true)) a e each ord comp
          (advance code bounds t c0 h p.records p.base p.thread.configuration c a p.thread.text (p.thread.text ++ piece) p.thread.status a.writes a.inner (Print piece c) ex ph n.steady.log n.steady.marks (λ f. absurd (cc)) (λ m fs ls size all. rw k refl) n)

      pub inner_begin_step : (c d : C) → code p.thread.configuration ≡ Begin c d → PartOk code bounds h t c0 (part_after words p (go p.thread c (record a { inner = record { saved = p.thread.configuration; writes = a.writes } ∷ a.inner })))
      inner_begin_step c d ex = goes c a.writes (record { saved = p.thread.configuration; writes = a.writes } ∷ a.inner) (Begin c d) ex n.steady.log (n.steady.log, n.steady.marks) (λ m fs ls size ok. rw ex refl)

      pub write_step : (ad v : ℕ) (c : C) → FitsCells code bounds → code p.thread.configuration ≡ Write ad v c → PartOk code bounds h t c0 (part_after words p (go p.thread c (record a { writes = with_write ad v a.writes })))
      write_step ad v c fits ex = goes c (with_write ad v a.writes) a.inner (Write ad v c) ex (log-put bounds ad v a.writes (fits.writes p.thread.configuration c ad v ex).1 n.steady.log) n.steady.marks
          (λ m fs ls size ok. ap (λ w. inside c (record { cancelled = after_cancel (code a.saved) a.saved; found = m; mem = w; inner = inners_of code m a.inner; kept = a.kept }) fs ls p.thread.text) (sym (overlay-put m ad v a.writes n.steady.log.0)))

      -- a read that the write log serves
      pub served_step : (ad v : ℕ) (k : ℕ → C) → FitsCells code bounds → code p.thread.configuration ≡ Read ad k → overlay_word ad a.writes ≡ Some v → PartOk code bounds h t c0 (part_after words p (go p.thread (k v) a))
      served_step ad v k fits ex w = goes (k v) a.writes a.inner (Read ad k) ex n.steady.log n.steady.marks
          (λ m fs ls size ok. ap (λ x. inside (k x) (inside_of code m a.saved a.writes a.inner a.kept) fs ls p.thread.text) (overlay-written m ad v a.writes n.steady.log.0 (let lt = fits.reads p.thread.configuration ad k ex in omega arith) w))

      pub inner_commit_step : (c : C) (l : Checkpoint C) (ls : List (Checkpoint C)) → a.inner ≡ l ∷ ls → code p.thread.configuration ≡ Commit c → PartOk code bounds h t c0 (part_after words p (go p.thread c (record a { inner = ls })))
      inner_commit_step c l ls ei ex = goes c a.writes ls (Commit c) ex n.steady.log (let ms = rw ei at n.steady.marks in ms.1) (λ m fs gs size ok. rw ei refl)

      pub inner_cancel_step : (l : Checkpoint C) (ls : List (Checkpoint C)) → a.inner ≡ l ∷ ls → code p.thread.configuration ≡ Cancel → PartOk code bounds h t c0 (part_after words p (go p.thread (after_cancel (code l.saved) l.saved) (record a { writes = l.writes; inner = ls })))
      inner_cancel_step l ls ei ex = goes (after_cancel (code l.saved) l.saved) l.writes ls Cancel ex (let ms = rw ei at n.steady.marks in ms.0) (let ms = rw ei at n.steady.marks in ms.1) (λ m fs gs size ok. rw ei refl)

      pub inner_outer_cancel_step : (levels : ℕ) (l : Checkpoint C) (ls : List (Checkpoint C)) → drop (levels - 1) a.inner ≡ l ∷ ls → code p.thread.configuration ≡ CancelOuter levels
          → PartOk code bounds h t c0 (part_after words p (go p.thread (after_cancel (code l.saved) l.saved) (record a { writes = l.writes; inner = ls })))
      inner_outer_cancel_step levels l ls ei ex =
          let ms = subst (AllByRecursion (λ (k : Checkpoint C). IsLog bounds k.writes)) ei (all_left (λ (k : Checkpoint C). IsLog bounds k.writes) (levels - 1) a.inner n.steady.marks) in
          goes (after_cancel (code l.saved) l.saved) l.writes ls (CancelOuter levels) ex ms.0 ms.1 (λ m fs gs size ok. outer_cancelled code _ m a.saved a.writes a.inner (l ∷ ls) a.kept levels ei)

      pub kept_irrevocable_step : (c : C) → a.kept ≡ true → code p.thread.configuration ≡ Irrevocable c → PartOk code bounds h t c0 (part_after words p (go p.thread c a))
      kept_irrevocable_step c k ex = goes c a.writes a.inner (Irrevocable c) ex n.steady.log n.steady.marks (λ m fs ls size ok. rw k refl)

      -- an outermost transaction that takes effect without the lock
      module _ (i : IsHistory bounds h (overlay (h.mem h.top) h.stored)) (free : a.kept ≡ false) where
        pub read_only_commit_step : (c : C) → a.inner ≡ [] → a.writes ≡ [] → code p.thread.configuration ≡ Commit c → PartOk code bounds h t c0 (part_after words p (finish p.thread a c p.thread.status false []))
        read_only_commit_step c ei ew ex = joined_part code bounds t c0 h words p a c p.thread.status (Commit c) ex (rw (ph, free) refl) i each ord comp (λ fs ls. rw (ei, ew, n.steady.running) refl) n

        pub cancel_step : a.inner ≡ [] → code p.thread.configuration ≡ Cancel → PartOk code bounds h t c0 (part_after words p (finish p.thread a (after_cancel (code a.saved) a.saved) p.thread.status false []))
        cancel_step ei ex = joined_part code bounds t c0 h words p a (after_cancel (code a.saved) a.saved) p.thread.status Cancel ex (rw (ph, free) refl) i each ord comp (λ fs ls. rw (ei, free, n.steady.running) refl) n

        pub outer_cancel_step : (levels : ℕ) → drop (levels - 1) a.inner ≡ [] → code p.thread.configuration ≡ CancelOuter levels → PartOk code bounds h t c0 (part_after words p (finish p.thread a (after_cancel (code a.saved) a.saved) p.thread.status false []))
        outer_cancel_step levels ei ex =
            joined_part code bounds t c0 h words p a (after_cancel (code a.saved) a.saved) p.thread.status (CancelOuter levels) ex (rw (ph, free) refl) i each ord comp
            (λ fs ls. outer_cancelled code _ p.base a.saved a.writes a.inner [] a.kept levels ei ∙ rw (free, n.steady.running) refl) n

        pub trap_step : (cause : Trap) → code p.thread.configuration ≡ Traps cause → PartOk code bounds h t c0 (part_after words p (finish p.thread a p.thread.configuration (HasTrapped cause) false []))
        trap_step cause ex = joined_part code bounds t c0 h words p a p.thread.configuration (HasTrapped cause) (Traps cause) ex (rw (ph, free) refl) i each ord comp (λ fs ls. refl) n
