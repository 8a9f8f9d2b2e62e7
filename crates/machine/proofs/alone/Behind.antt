-- A thread alone whose attempt may have a snapshot below the lock: it goes on as its meaning does, or is dropped once.
use Rattle.std.proofs.Common.{◌≡◌, ◌≤◌, ◌+◌, ◌-◌, ◌%◌, ◌==◌, ◌⊎◌, inl, inr, ℕ, zero, suc, Bool, true, false, List, [], ◌∷◌, Option, None, Some, refl, sym, ◌∙◌, ap, subst, length, drop, slice_get, slice_index, arith}
use Rattle.std.specs.List.{AllByRecursion}
use Rattle.std.proofs.lemmas.Bool.{eq-eqb, eqb-true}
use Rattle.std.proofs.lemmas.Option.{slice_get_past}
use Rattle.syntax.specs.declared.thread_end.Status.{Status}
use Rattle.syntax.specs.declared.thread_end.Status.TheVariants.{Running, Trapped as HasTrapped}
use Rattle.write_log.specs.Overlay.{IsDistinct, overlay_word, with_write}
use Rattle.write_log.proofs.Overlay.{distinct-put, overlay-put, overlay-written}
use Rattle.bytecode.specs.Effects.{Effect, FitsCells, after_cancel}
use Rattle.bytecode.specs.Effects.Effect.{Begin, Cancel, CancelOuter, Commit, End, Irrevocable, Print, Pure, Read, Traps, Write}
use Rattle.bytecode.specs.Sequential.{Sequential, inside_step, next, outside, steps}
use Rattle.norec_core.specs.Attempts.{Attempt, Checkpoint}
use Rattle.norec_core.specs.declared.step.Op.{Op}
use Rattle.norec_core.specs.declared.step.Phase.{Phase}
use Rattle.norec_core.specs.declared.step.Phase.TheVariants.{AtOperation, ReadsLock, ValidatesEntry, ValidatesTime}
use Rattle.machine.specs.Threads.{op_of}
use Rattle.machine.specs.inner.Invariant.{inners_of, inside, inside_of}
use Rattle.machine.proofs.Levels.{all_left}
use Rattle.machine.proofs.parts.Meaning.{outer_cancelled}
use Rattle.machine.proofs.alone.Alone.{In, Reach, ReachInside, Solo, at_attempt, in_solo, lock_for, once_inside, out_solo, reaches, solo_with, then, then_inside}
use Rattle.machine.proofs.alone.Transaction.{Follows, Left, after, ahead_left, reaches_by, runs_inside, within}

module _ {C : Type 0} (code : C → Effect C) (bounds : List ℕ) (fits : FitsCells code bounds) (lock : ℕ) (words : List ℕ) (even : lock % 2 ≡ 0) (sized : length words ≡ length bounds) where
  -- the thread is inside its attempt, where the meaning is
  pub record Open (r : Sequential C) (s : Solo C) : Type 0 where
    pub c : C
    pub text : List ℕ
    pub attempt : Attempt C
    pub meaning : r ≡ inside c (inside_of code words attempt.saved attempt.writes attempt.inner attempt.kept) [] [] text
    pub machine : s ≡ in_solo (lock_for lock attempt.kept) words c text attempt

  -- the machine comes to where the meaning is, still inside or outside again
  abbrev pub Keeps : Sequential C → Solo C → Type 0
  Keeps r s = ((q : Solo C) × Reach code s q × Open r q) ⊎ Left code bounds fits lock r s []

  -- after so many instructions of the meaning, or more
  abbrev pub GoesOn : ℕ → Sequential C → Solo C → Type 0
  GoesOn n r s = (m : ℕ) × (n ≤ m) × Keeps (steps code m r) s

  opened : (r : Sequential C) (q : Solo C) → In code bounds fits lock r q words [] [] → Open r q
  opened r q i = record {
    c = i.c;
    text = i.text;
    attempt = at_attempt i.saved i.first i.snapshot i.reads i.writes i.inner i.kept AtOperation;
    meaning = i.meaning;
    machine = i.machine ∙ ap (λ l. in_solo (lock_for l i.kept) words i.c i.text (at_attempt i.saved i.first i.snapshot i.reads i.writes i.inner i.kept AtOperation)) i.began;
  }

  keeps : (r : Sequential C) (s : Solo C) → Follows code bounds fits lock r s words [] → Keeps r s
  keeps r s (inl i) = inl (i.0, reaches_by code s i.0 i.1, opened r i.0 i.2)
  keeps r s (inr l) = inr l

  ahead_keeps : (r : Sequential C) (s q : Solo C) → ReachInside code s q → Keeps r q → Keeps r s
  ahead_keeps r s q g (inl i) = inl (i.0, then code s q i.0 (reaches code s q g) i.1, i.2)
  ahead_keeps r s q g (inr l) = inr (ahead_left code bounds fits lock s q r [] (runs_inside code s q g) l)

  module _ (saved : C) (first : ℕ) (text : List ℕ) where
    abbrev pub at : ℕ → List (ℕ × ℕ) → List (ℕ × ℕ) → List (Checkpoint C) → Phase → C → Solo C
    at snapshot reads writes inner phase c = in_solo lock words c text (at_attempt saved first snapshot reads writes inner false phase)

    abbrev pub meant : List (ℕ × ℕ) → List (Checkpoint C) → C → Sequential C
    meant writes inner c = inside c (inside_of code words saved writes inner false) [] [] text

    abbrev pub dropped : Solo C
    dropped = record (out_solo lock words saved text Running) { drops = 1 }

    -- the attempt is dropped, once, or goes on
    abbrev pub Ends : ℕ → Sequential C → Solo C → Type 0
    Ends n r s = ReachInside code s dropped ⊎ GoesOn n r s

    -- by steps of the machine
    pub ahead_ends : (n : ℕ) (r : Sequential C) (s q : Solo C) → ReachInside code s q → Ends n r q → Ends n r s
    ahead_ends n r s q g (inl d) = inl (then_inside code s q _ g d)
    ahead_ends n r s q g (inr k) = inr (k.0, k.1, ahead_keeps _ s q g k.2)

    -- by an instruction of the meaning
    pub later : (n k : ℕ) (r r' : Sequential C) (s : Solo C) → n ≤ suc k → next code r ≡ r' → Ends k r' s → Ends n r s
    later n k r r' s le e (inl d) = inl d
    later n k r r' s le e (inr g) = inr (suc g.0, (let up = g.1 in omega (arith, le, up)), subst (λ x. Keeps (steps code g.0 x) s) (sym e) g.2)

    -- with a snapshot that is the lock
    pub from_lock : (n : ℕ) (reads writes : List (ℕ × ℕ)) (inner : List (Checkpoint C)) (c : C) → IsDistinct writes → AllByRecursion (λ (k : Checkpoint C). IsDistinct k.writes) inner
        → Ends n (meant writes inner c) (at lock reads writes inner AtOperation c)
    from_lock n reads writes inner c distinct marks = inr (
      n,
      omega arith,
      keeps _ _ (within code bounds fits n lock (meant writes inner c) (at lock reads writes inner AtOperation c) words [] (record {
        c = c;
        text = text;
        saved = saved;
        first = first;
        snapshot = lock;
        reads = reads;
        writes = writes;
        inner = inner;
        kept = false;
        even = even;
        sized = sized;
        began = refl;
        distinct = distinct;
        marks = marks;
        meaning = refl;
        machine = refl;
      })),
    )

    -- a validation
    module _ (snapshot : ℕ) (reads writes : List (ℕ × ℕ)) (inner : List (Checkpoint C)) (c : C) (x : Effect C) (o : Op) (ex : code c ≡ x) (eo : op_of x false false ≡ Some o) where
      abbrev valid : Phase → Solo C
      valid phase = at snapshot reads writes inner phase c

      -- the entries from the i-th on are compared
      abbrev Compared : ℕ → ℕ → Type 0
      Compared time i = ReachInside code (valid (ValidatesEntry time i)) dropped ⊎ ((j : ℕ) × (slice_get reads j ≡ None) × ReachInside code (valid (ValidatesEntry time i)) (valid (ValidatesEntry time j)))

      compared : (time i k : ℕ) → length reads ≤ i + k → Compared time i
      compared time i zero le = inr (i, slice_get_past reads i (omega (arith, le)), (0, refl, tt))
      compared time i (suc k) le = look (compared time (suc i) k (omega (arith, le))) (slice_get reads i) refl
        where
          hit : ReachInside code (valid (ValidatesEntry time i)) (valid (ValidatesEntry time (suc i))) → Compared time (suc i) → Compared time i
          hit g (inl d) = inl (then_inside code _ _ _ g d)
          hit g (inr h) = inr (h.0, h.1, then_inside code _ _ _ g h.2)

          word : Compared time (suc i) → (e : ℕ × ℕ) → slice_get reads i ≡ Some e → (b : Bool) → (slice_index words e.0 == e.1) ≡ b → Compared time i
          word more e get true eb = hit (once_inside code _ _ x ex (rw (eo, get, eb) refl) tt) more
          word more e get false eb = inl (once_inside code _ _ x ex (rw (eo, get, eb) refl) tt)

          look : Compared time (suc i) → (u : Option (ℕ × ℕ)) → slice_get reads i ≡ u → Compared time i
          look more None get = inr (i, get, (0, refl, tt))
          look more (Some e) get = word more e get (slice_index words e.0 == e.1) refl

      module _ (distinct : IsDistinct writes) (marks : AllByRecursion (λ (k : Checkpoint C). IsDistinct k.writes) inner) (n : ℕ) where
        abbrev Wanted : Phase → Type 0
        Wanted phase = Ends n (meant writes inner c) (valid phase)

        -- from the lock's load on
        pub validates : Wanted ValidatesTime
        validates = ahead_ends n _ _ (valid (ValidatesEntry lock 0)) (once_inside code _ _ x ex (rw (eo, eq-eqb (lock % 2) 0 even) refl) tt) (by (compared lock 0 (length reads) (omega arith)))
          where
            by : Compared lock 0 → Wanted (ValidatesEntry lock 0)
            by (inl d) = inl d
            by (inr h) = ahead_ends n _ _ (at lock reads writes inner AtOperation c) (then_inside code _ _ _ h.2 (once_inside code _ _ x ex (rw (eo, h.1, eq-eqb lock lock refl) refl) tt)) (from_lock n reads writes inner c distinct marks)

        -- from an entry on, with a time that the lock may no longer have
        pub validates_entry : (time i : ℕ) → Wanted (ValidatesEntry time i)
        validates_entry time i = by (compared time i (length reads) (omega arith))
          where
            last : (j : ℕ) → slice_get reads j ≡ None → (b : Bool) → (lock == time) ≡ b → Wanted (ValidatesEntry time j)
            last j get true eb = ahead_ends n _ _ (at lock reads writes inner AtOperation c) (once_inside code _ _ x ex (rw (eo, get, eb) (ap (λ s. at s reads writes inner AtOperation c) (sym (eqb-true lock time eb)))) tt) (from_lock n reads writes inner c distinct marks)
            last j get false eb = ahead_ends n _ _ (valid ValidatesTime) (once_inside code _ _ x ex (rw (eo, get, eb) refl) tt) validates

            by : Compared time i → Wanted (ValidatesEntry time i)
            by (inl d) = inl d
            by (inr h) = ahead_ends n _ _ (valid (ValidatesEntry time h.0)) h.2 (last h.0 h.1 (lock == time) refl)

    -- one instruction, with a snapshot below the lock
    module _ (snapshot : ℕ) (reads : List (ℕ × ℕ)) (below : (lock == snapshot) ≡ false) where
      abbrev Goal : ℕ → Type 0
      Goal n = (c : C) (writes : List (ℕ × ℕ)) (inner : List (Checkpoint C)) → IsDistinct writes → AllByRecursion (λ (k : Checkpoint C). IsDistinct k.writes) inner
          → Ends n (meant writes inner c) (at snapshot reads writes inner AtOperation c)

      module _ (n : ℕ) (on : Goal n) (c : C) (writes : List (ℕ × ℕ)) (inner : List (Checkpoint C)) (distinct : IsDistinct writes) (marks : AllByRecursion (λ (k : Checkpoint C). IsDistinct k.writes) inner) where
        abbrev here : Solo C
        here = at snapshot reads writes inner AtOperation c

        abbrev Does : Effect C → Type 0
        Does x = code c ≡ x → Ends (suc n) (meant writes inner c) here

        within_by : (x : Effect C) (c' : C) (writes' : List (ℕ × ℕ)) (inner' : List (Checkpoint C)) → code c ≡ x → solo_with code x here ≡ at snapshot reads writes' inner' AtOperation c'
            → IsDistinct writes' → AllByRecursion (λ (k : Checkpoint C). IsDistinct k.writes) inner' → inside_step (meant writes inner c) (inside_of code words saved writes inner false) x ≡ meant writes' inner' c' → Ends (suc n) (meant writes inner c) here
        within_by x c' writes' inner' ex one dis ms is = later (suc n) n _ (meant writes' inner' c') here (omega arith) (ap (inside_step (meant writes inner c) (inside_of code words saved writes inner false)) ex ∙ is)
            (ahead_ends n _ here _ (once_inside code here _ x ex one tt) (on c' writes' inner' dis ms))

        -- the machine stands still, and so does the meaning
        stays : (x : Effect C) → code c ≡ x → inside_step (meant writes inner c) (inside_of code words saved writes inner false) x ≡ meant writes inner c → Ends (suc n) (meant writes inner c) here
        stays x ex is = later (suc n) n _ _ here (omega arith) (ap (inside_step (meant writes inner c) (inside_of code words saved writes inner false)) ex ∙ is) (on c writes inner distinct marks)

        -- the transaction is over, and leaves what it found
        leaves : (x : Effect C) (c' : C) (status : Status) → code c ≡ x → solo_with code x here ≡ out_solo lock words c' text status
            → inside_step (meant writes inner c) (inside_of code words saved writes inner false) x ≡ outside c' [] (words ∷ []) text status → Ends (suc n) (meant writes inner c) here
        leaves x c' status ex one is = inr (
          suc n,
          omega arith,
          subst (λ r. Keeps (steps code n r) here) (sym (ap (inside_step (meant writes inner c) (inside_of code words saved writes inner false)) ex ∙ is))
              (ahead_keeps _ here (out_solo lock words c' text status) (once_inside code here _ x ex one tt) (inr (record {
                left = words;
                lock = lock;
                moved = inl refl;
                sized = sized;
                there = after code lock words (words ∷ []) n c' text status;
              }))),
        )

        -- the lock is not the snapshot
        validated : (x : Effect C) (o : Op) → code c ≡ x → op_of x false false ≡ Some o → ReachInside code here (at snapshot reads writes inner ValidatesTime c) → Ends (suc n) (meant writes inner c) here
        validated x o ex eo g = ahead_ends (suc n) _ here _ g (validates snapshot reads writes inner c x o ex eo distinct marks (suc n))

        reading : (cell : ℕ) (k : ℕ → C) (u : Option ℕ) → overlay_word cell writes ≡ u → Does (Read cell k)
        reading cell k (Some v) get ex = within_by (Read cell k) (k v) writes inner ex (rw get refl) distinct marks
            (ap (λ v'. meant writes inner (k v')) (overlay-written words cell v writes distinct (let lt = fits.reads c cell k ex in omega arith) get))
        reading cell k None get ex = validated (Read cell k) _ ex refl
            (then_inside code _ (at snapshot reads writes inner (ReadsLock (slice_index words cell)) c) _ (once_inside code _ _ (Read cell k) ex (rw get refl) tt) (once_inside code _ _ (Read cell k) ex (rw below refl) tt))

        committing : (e : C) (ls : List (Checkpoint C)) (ws : List (ℕ × ℕ)) → inner ≡ ls → writes ≡ ws → Does (Commit e)
        committing e (l ∷ ls) ws ei ew ex = within_by (Commit e) e writes ls ex (rw ei refl) distinct (let ms = rw ei at marks in ms.1) (rw ei refl)
        committing e [] [] ei ew ex = leaves (Commit e) e Running ex (rw (ei, ew) refl) (rw (ei, ew) refl)
        committing e [] (p ∷ ps) ei ew ex = validated (Commit e) _ ex refl (once_inside code _ _ (Commit e) ex (rw (ei, ew, below) (λ i. at snapshot reads (ew i) (ei i) ValidatesTime c)) tt)

        cancelling : (ls : List (Checkpoint C)) → inner ≡ ls → Does Cancel
        cancelling (l ∷ ls) ei ex = within_by Cancel (after_cancel (code l.saved) l.saved) l.writes ls ex (rw ei refl) (let ms = rw ei at marks in ms.0) (let ms = rw ei at marks in ms.1) (rw ei refl)
        cancelling [] ei ex = leaves Cancel (after_cancel (code saved) saved) Running ex (rw ei refl) (rw ei refl)

        outer_cancelling : (levels : ℕ) (ls : List (Checkpoint C)) → drop (levels - 1) inner ≡ ls → Does (CancelOuter levels)
        outer_cancelling levels (l ∷ ls) ei ex =
            let ms = subst (AllByRecursion (λ (k : Checkpoint C). IsDistinct k.writes)) ei (all_left (λ (k : Checkpoint C). IsDistinct k.writes) (levels - 1) inner marks) in
            within_by (CancelOuter levels) (after_cancel (code l.saved) l.saved) l.writes ls ex (rw ei refl) ms.0 ms.1 (outer_cancelled code (meant writes inner c) words saved writes inner (l ∷ ls) false levels ei)
        outer_cancelling levels [] ei ex = leaves (CancelOuter levels) (after_cancel (code saved) saved) Running ex (rw ei refl) (outer_cancelled code (meant writes inner c) words saved writes inner [] false levels ei)

        does : (x : Effect C) → Does x
        does (Pure e) ex = within_by (Pure e) e writes inner ex refl distinct marks refl
        does (Print piece e) ex = stays (Print piece e) ex refl
        does (Begin e e') ex = within_by (Begin e e') e writes (record { saved = c; writes = writes } ∷ inner) ex refl distinct (distinct, marks) (rw ex refl)
        does (Read cell k) ex = reading cell k (overlay_word cell writes) refl ex
        does (Write cell v e) ex = within_by (Write cell v e) e (with_write cell v writes) inner ex refl (distinct-put cell v writes distinct) marks
            (ap (λ w. inside e (record { cancelled = after_cancel (code saved) saved; found = words; mem = w; inner = inners_of code words inner; kept = false }) [] [] text) (sym (overlay-put words cell v writes distinct)))
        does (Commit e) ex = committing e inner writes refl refl ex
        does Cancel ex = cancelling inner refl ex
        does (CancelOuter levels) ex = outer_cancelling levels (drop (levels - 1) inner) refl ex
        does (Irrevocable e) ex = validated (Irrevocable e) _ ex refl (once_inside code _ _ (Irrevocable e) ex (rw below refl) tt)
        does (Traps cause) ex = leaves (Traps cause) c (HasTrapped cause) ex refl refl
        does End ex = stays End ex refl

      pub from_below : (n : ℕ) → Goal n
      from_below zero c writes inner distinct marks = inr (
        0,
        omega arith,
        inl (
          at snapshot reads writes inner AtOperation c,
          (0, refl),
          record {
            c = c;
            text = text;
            attempt = at_attempt saved first snapshot reads writes inner false AtOperation;
            meaning = refl;
            machine = refl;
          },
        ),
      )
      from_below (suc n) c writes inner distinct marks = does n (from_below n) c writes inner distinct marks (code c) refl
