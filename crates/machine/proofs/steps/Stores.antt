-- Stores of words, and the store that gives the lock back.
use Rattle.std.proofs.Common.{◌≡◌, ◌≢◌, ◌<◌, ◌≤◌, ◌+◌, ◌%◌, ◌⊎◌, inl, inr, ℕ, suc, Bool, true, false, cond, leb, List, [], ◌∷◌, ◌++◌, Option, None, Some, refl, sym, ◌∙◌, ap, subst, length, take, set, slice_get, slice_index, arith}
use Rattle.std.specs.List.{AllByRecursion}
use Rattle.std.proofs.lemmas.Bool.Decides.{leb_tells}
use Rattle.syntax.specs.declared.thread_end.Status.{Status}
use Rattle.syntax.specs.Behaviours.{IsMemory}
use Rattle.write_log.specs.Overlay.{overlay}
use Rattle.read_log.specs.Agreement.{Agrees}
use Rattle.bytecode.specs.Effects.{Effect}
use Rattle.bytecode.specs.Effects.Effect.{Commit}
use Rattle.bytecode.specs.Sequential.{inside_step, outside}
use Rattle.norec_core.specs.Attempts.{Attempt}
use Rattle.norec_core.specs.declared.step.Phase.TheVariants.{Stores}
use Rattle.machine.specs.Explained.{has_lock}
use Rattle.machine.specs.inner.Invariant.{AreWords, AttemptOk, HasTaker, History, IsHistory, StepOk, LockBy, LockIs, Moves, Ordered, RecordOk, inside, inside_of}
use Rattle.machine.specs.Worlds.{Part, Record, part_after, record_of}
use Rattle.write_log.proofs.Overlay.{overlay-append}
use Rattle.read_log.proofs.Logs.{take_more}
use Rattle.machine.proofs.parts.Forms.{finish, go}
use Rattle.machine.proofs.parts.Frame.{begun_frame, each_frame}
use Rattle.machine.proofs.parts.Meaning.{joined}
use Rattle.machine.proofs.parts.Memories.{memory-overlay, sized, word-at, words-append}
use Rattle.machine.proofs.parts.Part.{attempt_part, each_append, takers_append, takers_last, ordered_append, outside_part, rephase}

-- one more pair is stored
abbrev pub with_stored : History → ℕ × ℕ → History
with_stored h q = record h { stored = h.stored ++ q ∷ [] }

-- thread t has given the lock back after these writes
abbrev pub released : ℕ → List (ℕ × ℕ) → History → History
released t ws h = record {
  lock = h.top + 2;
  top = h.top + 2;
  mem = λ s. cond (leb s h.top) (h.mem s) (overlay (h.mem h.top) ws);
  owner = λ s. cond (leb (suc s) h.top) (h.owner s) t;
  holder = None;
  stored = [];
}

pub old_mem : (t : ℕ) (ws : List (ℕ × ℕ)) (h : History) (s : ℕ) → s ≤ h.top → (released t ws h).mem s ≡ h.mem s
old_mem t ws h s le = at (leb_tells s h.top)
  where
    at : ((leb s h.top ≡ true) × (s ≤ h.top)) ⊎ ((leb s h.top ≡ false) × (h.top < s)) → cond (leb s h.top) (h.mem s) (overlay (h.mem h.top) ws) ≡ h.mem s
    at (inl f) = rw f.0 refl
    at (inr f) = let gt = f.1 in absurd (omega arith)

pub new_mem : (t : ℕ) (ws : List (ℕ × ℕ)) (h : History) (s : ℕ) → h.top < s → (released t ws h).mem s ≡ overlay (h.mem h.top) ws
new_mem t ws h s gt = at (leb_tells s h.top)
  where
    at : ((leb s h.top ≡ true) × (s ≤ h.top)) ⊎ ((leb s h.top ≡ false) × (h.top < s)) → cond (leb s h.top) (h.mem s) (overlay (h.mem h.top) ws) ≡ overlay (h.mem h.top) ws
    at (inl f) = let le = f.1 in absurd (omega arith)
    at (inr f) = rw f.0 refl

pub old_owner : (t : ℕ) (ws : List (ℕ × ℕ)) (h : History) (s : ℕ) → s < h.top → (released t ws h).owner s ≡ h.owner s
old_owner t ws h s lt = at (leb_tells (suc s) h.top)
  where
    at : ((leb (suc s) h.top ≡ true) × (s < h.top)) ⊎ ((leb (suc s) h.top ≡ false) × (h.top < suc s)) → cond (leb (suc s) h.top) (h.owner s) t ≡ h.owner s
    at (inl f) = rw f.0 refl
    at (inr f) = let gt = f.1 in absurd (omega arith)

pub new_owner : (t : ℕ) (ws : List (ℕ × ℕ)) (h : History) (s : ℕ) → h.top ≤ s → (released t ws h).owner s ≡ t
new_owner t ws h s ge = at (leb_tells (suc s) h.top)
  where
    at : ((leb (suc s) h.top ≡ true) × (s < h.top)) ⊎ ((leb (suc s) h.top ≡ false) × (h.top < suc s)) → cond (leb (suc s) h.top) (h.owner s) t ≡ t
    at (inl f) = let lt = f.1 in absurd (omega arith)
    at (inr f) = rw f.0 refl

other : (t u : ℕ) (h : History) {P : Type 0} → u ≢ t → h.holder ≡ Some t → h.holder ≡ Some u → P
other t u h ne e f = absurd (let same : t ≡ u = cc in ne (sym same))

pub stored_moves : (t : ℕ) (h : History) (q : ℕ × ℕ) → h.holder ≡ Some t → Moves t h (with_stored h q)
stored_moves t h q e = record {
  lock = omega arith;
  top = omega arith;
  mem = λ s le. refl;
  owner = λ s lt. refl;
  new = λ s even ge lt. absurd (omega arith);
  holds = λ u ne some. other t u h ne e some;
  held = λ u ne some. some;
}

held_lock : (t : ℕ) (h : History) (o : Option ℕ) → o ≡ Some t → LockIs h o → h.lock ≡ h.top + 1
held_lock t h None e l = absurd (cc)
held_lock t h (Some u) e l = l

pub stored_history : (bounds : List ℕ) (t : ℕ) (h : History) (words : List ℕ) (q : ℕ × ℕ) → h.holder ≡ Some t → q.1 < slice_index bounds q.0 → IsHistory bounds h words → IsHistory bounds (with_stored h q) (set words q.0 q.1)
stored_history bounds t h words q e lt i = record {
  even = i.even;
  lock = rw e (held_lock t h h.holder e i.lock);
  contents = ap (λ w. set w q.0 q.1) i.contents ∙ sym (overlay-append (h.mem h.top) h.stored (q ∷ []));
  memories = i.memories;
  stored_words = words-append bounds h.stored q i.stored_words lt;
}

pub released_moves : (t : ℕ) (ws : List (ℕ × ℕ)) (h : History) → h.holder ≡ Some t → h.lock ≡ h.top + 1 → Moves t h (released t ws h)
released_moves t ws h e l = record {
  lock = omega arith;
  top = omega arith;
  mem = old_mem t ws h;
  owner = old_owner t ws h;
  new = λ s even ge lt. new_owner t ws h s ge;
  holds = λ u ne some. other t u h ne e some;
  held = λ u ne some. absurd (cc);
}

pub released_history : (bounds : List ℕ) (t : ℕ) (ws : List (ℕ × ℕ)) (h : History) (words : List ℕ) → IsHistory bounds h words → h.stored ≡ ws → IsHistory bounds (released t ws h) words
released_history bounds t ws h words i s = record {
  even = let even = i.even in omega arith;
  lock = (refl, refl);
  contents = i.contents ∙ ap (overlay (h.mem h.top)) s ∙ sym (new_mem t ws h (h.top + 2) (omega arith));
  memories = λ s' le. at s' (leb_tells s' h.top);
  stored_words = tt;
}
  where
    at : (s' : ℕ) → ((leb s' h.top ≡ true) × (s' ≤ h.top)) ⊎ ((leb s' h.top ≡ false) × (h.top < s')) → IsMemory bounds ((released t ws h).mem s')
    at s' (inl f) = subst (IsMemory bounds) (sym (old_mem t ws h s' f.1)) (i.memories s' f.1)
    at s' (inr f) = subst (IsMemory bounds) (sym (new_mem t ws h s' f.1)) (memory-overlay bounds (h.mem h.top) ws (i.memories h.top (omega arith)) (subst (AreWords bounds) s i.stored_words))

module _ {C : Type 0} (code : C → Effect C) (bounds : List ℕ) (t : ℕ) (c0 : C) (h : History) (words : List ℕ) (i : IsHistory bounds h words) where
  module _ (p : Part C) (each : AllByRecursion (RecordOk h t) p.records) (comp : (s : ℕ) → s % 2 ≡ 0 → s < h.top → h.owner s ≡ t → HasTaker s p.records) where
    module _ (a : Attempt C) (ord : Ordered 0 p.records a.snapshot) (n : AttemptOk code bounds h t c0 p.records p.base p.thread.configuration a p.thread.text p.thread.status) (holder : h.holder ≡ Some t) (top : a.snapshot ≡ h.top) where
      -- the i-th word of a commit
      pub store_word_step : (c : C) (j : ℕ) (q : ℕ × ℕ) → h.stored ≡ take j a.writes → slice_get a.writes j ≡ Some q → a.inner ≡ [] → code p.thread.configuration ≡ Commit c
          → StepOk code bounds t c0 h h.lock (set words q.0 q.1) (part_after words p (go p.thread p.thread.configuration (record a { phase = Stores (suc j) })))
      store_word_step c j q st g ei ex =
          let b : Attempt C = record a { phase = Stores (suc j) } in
          let k : History = with_stored h q in
          let m : Moves t h k = stored_moves t h q holder in
          record {
            after = k;
            history = stored_history bounds t h words q holder (word-at bounds a.writes j q n.steady.log.1 g) i;
            same_lock = refl;
            part = attempt_part code bounds t c0 k (part_after words p (go p.thread p.thread.configuration b)) b refl (each_frame t t h k p.records m each) ord comp (record {
              steady = n.steady;
              begun = rephase code bounds k c0 p.records p.thread.configuration a p.thread.text (Stores (suc j)) (begun_frame code bounds t h k c0 p.records p.thread.configuration a p.thread.text n.steady.in_time m n.begun);
              holds = storing a.kept;
              in_hand = (ei, (c, ex));
            });
            moves = m;
          }
        where
          storing : (kept : Bool) → LockBy (with_stored h q) t (record a { phase = Stores (suc j) }) (has_lock kept (Stores (suc j)))
          storing true = (holder, top, ap (λ l. l ++ q ∷ []) st ∙ sym (take_more a.writes j q g))
          storing false = (holder, top, ap (λ l. l ++ q ∷ []) st ∙ sym (take_more a.writes j q g))

      -- the lock is given back, after these writes
      pub release_step : (d : C) (status : Status) (ws : List (ℕ × ℕ)) (x : Effect C) → h.stored ≡ ws → code p.thread.configuration ≡ x
          → ((m : List ℕ) (founds lefts : List (List ℕ)) →
          inside_step (inside p.thread.configuration (inside_of code m a.saved a.writes a.inner a.kept) founds lefts p.thread.text) (inside_of code m a.saved a.writes a.inner a.kept) x ≡ outside d founds (lefts ++ overlay m ws ∷ []) p.thread.text status)
          → StepOk code bounds t c0 h (a.snapshot + 2) words (part_after words p (finish p.thread a d status true ws))
      release_step d status ws x st ex one =
          let k : History = released t ws h in
          let m : Moves t h k = released_moves t ws h holder (held_lock t h h.holder holder i.lock) in
          let item : Record = record_of p.base (record { snapshot = a.snapshot; took_lock = true; writes = ws }) in
          let le = n.steady.in_time in
          let base : k.mem a.snapshot ≡ h.mem a.snapshot = old_mem t ws h a.snapshot le in
          record {
            after = k;
            history = released_history bounds t ws h words i st;
            same_lock = omega arith;
            part = outside_part code bounds t c0 k (part_after words p (finish p.thread a d status true ws)) refl
                (each_append (RecordOk k t) p.records item (each_frame t t h k p.records m each) (record {
                  even = n.steady.even;
                  found = n.steady.based ∙ sym base;
                  left = (omega arith, new_owner t ws h a.snapshot (omega arith), ap (λ w. overlay w ws) (n.steady.based ∙ ap h.mem top) ∙ sym (new_mem t ws h (a.snapshot + 2) (omega arith)));
                }))
                (ordered_append 0 p.records item (h.top + 2) ord (omega arith))
                (λ s even lt o. complete s even lt o (leb_tells (suc s) h.top))
                (joined code bounds k c0 p.records p.base p.thread.configuration d a p.thread.text status true ws x ex (n.steady.based ∙ sym base)
                (ap length n.steady.based ∙ sized bounds (h.mem a.snapshot) (i.memories a.snapshot le))
                (record { agrees = subst (λ w. Agrees w a.reads) (sym n.steady.based) n.steady.agrees; known = λ kept. n.steady.based ∙ sym base })
                (one p.base)
                (begun_frame code bounds t h k c0 p.records p.thread.configuration a p.thread.text le m n.begun))
                (λ e. absurd (cc));
            moves = m;
          }
        where
          complete : (s : ℕ) → s % 2 ≡ 0 → s < h.top + 2 → (released t ws h).owner s ≡ t → ((leb (suc s) h.top ≡ true) × (s < h.top)) ⊎ ((leb (suc s) h.top ≡ false) × (h.top < suc s)) → HasTaker s (p.records ++ record_of p.base (record { snapshot = a.snapshot; took_lock = true; writes = ws }) ∷ [])
          complete s even lt o (inl f) = takers_append s p.records (record_of p.base (record { snapshot = a.snapshot; took_lock = true; writes = ws })) (comp s even f.1 (sym (old_owner t ws h s f.1) ∙ o))
          complete s even lt o (inr f) =
              let ge = f.1 in
              let he = i.even in
              takers_last s p.records (record_of p.base (record { snapshot = a.snapshot; took_lock = true; writes = ws })) refl (omega arith)
