-- How what holds of a part is put together again after its step.
use Rattle.std.proofs.Common.{◌≡◌, ◌≢◌, ◌<◌, ◌≤◌, ◌%◌, inl, inr, ℕ, Bool, true, false, List, [], ◌∷◌, ◌++◌, Option, None, Some, refl, sym, ◌∙◌, ap, subst, length, arith}
use Rattle.machine.proofs.parts.Memories.{sized}
use Rattle.std.specs.List.{AllByRecursion}
use Rattle.syntax.specs.declared.thread_end.Status.{Status}
use Rattle.write_log.specs.Overlay.{overlay}
use Rattle.read_log.specs.Agreement.{Agrees}
use Rattle.bytecode.specs.Effects.{Effect}
use Rattle.bytecode.specs.Sequential.{inside_step, outside}
use Rattle.norec_core.specs.Attempts.{Attempt, Checkpoint}
use Rattle.norec_core.specs.declared.step.Phase.{Phase}
use Rattle.norec_core.specs.declared.step.Phase.TheVariants.{AtOperation}
use Rattle.machine.specs.Explained.{has_lock, stored_of}
use Rattle.machine.specs.inner.Invariant.{AttemptOk, Begun, ComesTo, HasTaker, History, InHand, IsHistory, IsLog, StepOk, LockBy, LockIs, MayHaveFound, Moves, Ordered, PartOk, RecordOk, inside, inside_of, next_snapshot}
use Rattle.machine.specs.Worlds.{Part, Record, part_after, record_of}
use Rattle.machine.proofs.parts.Forms.{finish}
use Rattle.machine.proofs.parts.Meaning.{begun_step, joined}

pub each_append : {X : Type 0} (P : X → Type 0) (xs : List X) (x : X) → AllByRecursion P xs → P x → AllByRecursion P (xs ++ x ∷ [])
each_append P [] x all h = (h, tt)
each_append P (y ∷ xs) x all h = (all.0, each_append P xs x all.1 h)

pub ordered_append : (s : ℕ) (xs : List Record) (x : Record) (e : ℕ) → Ordered s xs x.snapshot → next_snapshot x.snapshot x.took_lock ≤ e → Ordered s (xs ++ x ∷ []) e
ordered_append s [] x e o le = (o, le)
ordered_append s (y ∷ xs) x e o le = (o.0, ordered_append (next_snapshot y.snapshot y.took_lock) xs x e o.1 le)

pub takers_append : (s : ℕ) (xs : List Record) (x : Record) → HasTaker s xs → HasTaker s (xs ++ x ∷ [])
takers_append s [] x m = absurd m
takers_append s (y ∷ xs) x (inl m) = inl m
takers_append s (y ∷ xs) x (inr m) = inr (takers_append s xs x m)

pub takers_last : (s : ℕ) (xs : List Record) (x : Record) → x.took_lock ≡ true → x.snapshot ≡ s → HasTaker s (xs ++ x ∷ [])
takers_last s [] x m e = inl (m, e)
takers_last s (y ∷ xs) x m e = inr (takers_last s xs x m e)

-- while the lock is even the words are the last memory
pub even_words : (bounds : List ℕ) (h : History) (words : List ℕ) → IsHistory bounds h words → h.lock % 2 ≡ 0 → (h.lock ≡ h.top) × (words ≡ h.mem h.top)
even_words bounds h words i e = at h.holder i.lock
  where
    at : (o : Option ℕ) → LockIs h o → (h.lock ≡ h.top) × (words ≡ h.mem h.top)
    at None l = (l.0, i.contents ∙ ap (overlay (h.mem h.top)) l.1)
    at (Some t) l = let even = i.even in absurd (omega arith)

pub moves_refl : (t : ℕ) (h : History) → Moves t h h
moves_refl t h = record {
  lock = omega arith;
  top = omega arith;
  mem = λ s le. refl;
  owner = λ s lt. refl;
  new = λ s even ge lt. absurd (omega arith);
  holds = λ u ne e. (e, refl, refl);
  held = λ u ne e. e;
}

pub holds_at : {C : Type 0} (h : History) (t : ℕ) (a b : Attempt C) (kept : Bool) → a.phase ≡ AtOperation → b.phase ≡ AtOperation → b.snapshot ≡ a.snapshot → LockBy h t a (has_lock kept a.phase) → LockBy h t b (has_lock kept b.phase)
holds_at h t a b true p q s k = (k.0, s ∙ k.1, k.2 ∙ ap (stored_of a.writes) p ∙ sym (ap (stored_of b.writes) q))
holds_at h t a b false p q s k = rw q (let k' = rw p at k in k')

pub free_holds : {C : Type 0} (h : History) (t : ℕ) (a b : Attempt C) (x y : Bool) → x ≡ false → y ≡ false → LockBy h t a x → LockBy h t b y
free_holds h t a b true y e f k = absurd (cc)
free_holds h t a b false true e f k = absurd (cc)
free_holds h t a b false false e f k = k

pub not_holder : {C : Type 0} (h : History) (t : ℕ) (a : Attempt C) (x : Bool) → x ≡ false → LockBy h t a x → h.holder ≢ Some t
not_holder h t a true e k = absurd (cc)
not_holder h t a false e k = k

pub free_kept : (kept : Bool) (p : Phase) → has_lock kept p ≡ false → kept ≡ false
free_kept true p e = absurd (cc)
free_kept false p e = refl

module _ {C : Type 0} (code : C → Effect C) where
  pub rephase : (bounds : List ℕ) (h : History) (c0 : C) (xs : List Record) (c : C) (a : Attempt C) (text : List ℕ) (p : Phase) → Begun code bounds h c0 xs c a text → Begun code bounds h c0 xs c (record a { phase = p }) text
  rephase bounds h c0 xs c a text p b = record { c1 = b.c1; text1 = b.text1; begins = b.begins; comes_to = b.comes_to; same_text = b.same_text; reaches = b.reaches }

  module _ (bounds : List ℕ) (t : ℕ) (c0 : C) (h : History) where
    -- the history stays
    pub still : (lock : ℕ) (words : List ℕ) (p : Part C) → lock ≡ h.lock → IsHistory bounds h words → PartOk code bounds h t c0 p → StepOk code bounds t c0 h lock words p
    still lock words p e i ok = record { after = h; history = i; same_lock = e; part = ok; moves = moves_refl t h }

    pub outside_part : (p : Part C) → p.thread.attempt ≡ None → AllByRecursion (RecordOk h t) p.records → Ordered 0 p.records h.top → ((s : ℕ) → s % 2 ≡ 0 → s < h.top → h.owner s ≡ t → HasTaker s p.records) → ComesTo code c0 p.records p.thread.configuration p.thread.text p.thread.status → h.holder ≢ Some t → PartOk code bounds h t c0 p
    outside_part p e each ord comp s nh = record {
      each = each;
      ordered = rw e ord;
      complete = comp;
      now = rw e (s, nh);
    }

    pub attempt_part : (p : Part C) (a : Attempt C) → p.thread.attempt ≡ Some a → AllByRecursion (RecordOk h t) p.records → Ordered 0 p.records a.snapshot → ((s : ℕ) → s % 2 ≡ 0 → s < h.top → h.owner s ≡ t → HasTaker s p.records) → AttemptOk code bounds h t c0 p.records p.base p.thread.configuration a p.thread.text p.thread.status → PartOk code bounds h t c0 p
    attempt_part p a e each ord comp n = record {
      each = each;
      ordered = rw e ord;
      complete = comp;
      now = rw e n;
    }

    -- a local step inside the attempt
    pub advance : (xs : List Record) (base : List ℕ) (c d : C) (a : Attempt C) (text text' : List ℕ) (status : Status) (writes : List (ℕ × ℕ)) (inner : List (Checkpoint C)) (x : Effect C)
        → code c ≡ x → a.phase ≡ AtOperation → IsLog bounds writes → AllByRecursion (λ (k : Checkpoint C). IsLog bounds k.writes) inner → (a.kept ≡ false → text ≡ text')
        → ((m : List ℕ) (founds lefts : List (List ℕ)) → length m ≡ length bounds → MayHaveFound a.reads a.kept (h.mem a.snapshot) m →
        inside_step (inside c (inside_of code m a.saved a.writes a.inner a.kept) founds lefts text) (inside_of code m a.saved a.writes a.inner a.kept) x ≡ inside d (inside_of code m a.saved writes inner a.kept) founds lefts text')
        → AttemptOk code bounds h t c0 xs base c a text status → AttemptOk code bounds h t c0 xs base d (record a { writes = writes; inner = inner }) text' status
    advance xs base c d a text text' status writes inner x e ph dis marks same one n = record {
      steady = record {
        running = n.steady.running;
        even = n.steady.even;
        since = n.steady.since;
        in_time = n.steady.in_time;
        based = n.steady.based;
        agrees = n.steady.agrees;
        log = dis;
        marks = marks;
      };
      begun = begun_step code bounds h c0 xs c d a text text' a.reads writes inner a.phase x e (λ m ok. ok) same one n.begun;
      holds = holds_at h t a (record a { writes = writes; inner = inner }) a.kept ph ph refl n.holds;
      in_hand = subst (InHand code h (record a { writes = writes; inner = inner }) d) (sym ph) tt;
    }

    -- another phase, without the lock
    pub to_phase : (xs : List Record) (base : List ℕ) (c : C) (a : Attempt C) (text : List ℕ) (status : Status) (p : Phase) → has_lock a.kept a.phase ≡ false → has_lock a.kept p ≡ false → InHand code h (record a { phase = p }) c p → AttemptOk code bounds h t c0 xs base c a text status → AttemptOk code bounds h t c0 xs base c (record a { phase = p }) text status
    to_phase xs base c a text status p free free' hand n = record {
      steady = n.steady;
      begun = rephase bounds h c0 xs c a text p n.begun;
      holds = free_holds h t a (record a { phase = p }) (has_lock a.kept a.phase) (has_lock a.kept p) free free' n.holds;
      in_hand = hand;
    }

    -- the attempt takes effect, without the lock
    pub joined_part : (words : List ℕ) (p : Part C) (a : Attempt C) (d : C) (status : Status) (x : Effect C)
        → code p.thread.configuration ≡ x → has_lock a.kept a.phase ≡ false → IsHistory bounds h (overlay (h.mem h.top) h.stored)
        → AllByRecursion (RecordOk h t) p.records → Ordered 0 p.records a.snapshot → ((s : ℕ) → s % 2 ≡ 0 → s < h.top → h.owner s ≡ t → HasTaker s p.records)
        → ((founds lefts : List (List ℕ)) →
        inside_step (inside p.thread.configuration (inside_of code p.base a.saved a.writes a.inner a.kept) founds lefts p.thread.text) (inside_of code p.base a.saved a.writes a.inner a.kept) x ≡ outside d founds (lefts ++ p.base ∷ []) p.thread.text status)
        → AttemptOk code bounds h t c0 p.records p.base p.thread.configuration a p.thread.text p.thread.status
        → PartOk code bounds h t c0 (part_after words p (finish p.thread a d status false []))
    joined_part words p a d status x e free i each ord comp one n =
        let item : Record = record_of p.base (record { snapshot = a.snapshot; took_lock = false; writes = [] }) in
        outside_part (part_after words p (finish p.thread a d status false [])) refl
        (each_append (RecordOk h t) p.records item each (record { even = n.steady.even; found = n.steady.based; left = (n.steady.in_time, refl) }))
        (ordered_append 0 p.records item h.top ord n.steady.in_time)
        (λ s even lt o. takers_append s p.records item (comp s even lt o))
        (joined code bounds h c0 p.records p.base p.thread.configuration d a p.thread.text status false [] x e n.steady.based
        (ap length n.steady.based ∙ sized bounds (h.mem a.snapshot) (i.memories a.snapshot n.steady.in_time))
        (record { agrees = subst (λ m. Agrees m a.reads) (sym n.steady.based) n.steady.agrees; known = λ k. n.steady.based }) one n.begun)
        (not_holder h t a (has_lock a.kept a.phase) free n.holds)
