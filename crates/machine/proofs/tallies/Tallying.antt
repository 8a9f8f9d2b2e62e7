-- What a step of an undisturbed transaction costs, beside the instruction of the code's meaning and its tally.
use Rattle.std.proofs.Common.{◌≡◌, ◌≢◌, ◌<◌, ◌≤◌, ◌+◌, ◌-◌, ◌==◌, ◌⊎◌, if◌then◌else◌, inl, inr, ℕ, zero, suc, Bool, true, false, cond, List, [], ◌∷◌, ◌++◌, Option, None, Some, refl, sym, ◌∙◌, ap, subst, map, slice_get, slice_index, length, drop, zero-add, suc-add, arith}
use Rattle.std.specs.List.{AllByRecursion}
use Rattle.std.proofs.lemmas.Bool.{eq-eqb}
use Rattle.std.proofs.lemmas.Bool.Decides.{eqb_tells}
use Rattle.std.proofs.lemmas.List.{drop-map, length-map}
use Rattle.std.proofs.lemmas.Option.{slice_get_within}
use Rattle.syntax.specs.Behaviours.{Memory}
use Rattle.syntax.specs.declared.thread_end.Trap.{Trap}
use Rattle.write_log.specs.Overlay.{IsDistinct, overlay, with_write, overlay_word}
use Rattle.write_log.proofs.Overlay.{distinct-put, not_written, overlay-other, overlay-put, overlay-written}
use Rattle.bytecode.specs.Effects.{Effect, FitsCells, after_cancel}
use Rattle.bytecode.specs.Effects.Effect.{Pure, Print, Begin, Read, Write, Commit, Cancel, CancelOuter, Irrevocable, Traps, End}
use Rattle.bytecode.specs.Sequential.{OpenTransaction, Sequential, cancel_step, commit_step, inside_step, next, print_step, start}
use Rattle.norec_core.specs.declared.step.Op.{Op}
use Rattle.norec_core.specs.declared.step.Op.TheVariants as op
use Rattle.norec_core.specs.declared.step.OpOutcome.TheVariants as outcome
use Rattle.norec_core.specs.declared.step.Access.{Access}
use Rattle.norec_core.specs.declared.step.Access.TheVariants as access_
use Rattle.norec_core.specs.declared.step.Answer.{Answer}
use Rattle.norec_core.specs.declared.step.Phase.{Phase}
use Rattle.norec_core.specs.declared.step.Phase.TheVariants.{AtOperation, ReadsLock, ValidatesTime, ValidatesEntry, Stores}
use Rattle.norec_core.specs.Accesses.{cost}
use Rattle.norec_core.specs.Attempts.{Checkpoint, Attempt, Completed}
use Rattle.norec_core.specs.Phases.{phase_access, read_access, commit_access, store_access, core_phase, core_read, core_word, core_commit, core_cancel, core_store, core_check, core_swap, on}
use Rattle.machine.specs.inner.Invariant.{inners_of, inside, inside_of}
use Rattle.machine.specs.Tallies.{Tally, accesses, accesses_at, accesses_so_far, commit_accesses, empty_tally, is_among, is_commit, tally_step, tally_after, with_cancel, with_cell, with_commit, with_read}
use Rattle.machine.specs.Threads.{Thread, Next, access, access_of, step_with, told_of, op_of, own_step, print_inside, resume_next}
use Rattle.machine.specs.Worlds.{answer, lock_after, words_after}
use Rattle.machine.proofs.Levels.{all_left}
use Rattle.machine.proofs.parts.Meaning.{outer_cancelled}

-- the cells that a write log has, in its order
abbrev pub cells : List (ℕ × ℕ) → List ℕ
cells ws = map (λ (p : ℕ × ℕ). p.0) ws

among-written : (a v : ℕ) (ws : List (ℕ × ℕ)) → overlay_word a ws ≡ Some v → is_among a (cells ws) ≡ true
among-written a v [] e = absurd (cc)
among-written a v (p ∷ ws) e = at (p.0 == a) refl (among-written a v ws)
  where
    at : (b : Bool) → (p.0 == a) ≡ b → (overlay_word a ws ≡ Some v → is_among a (cells ws) ≡ true) → cond (p.0 == a) true (is_among a (cells ws)) ≡ true
    at true f ih = rw f refl
    at false f ih = let g = rw f at e in rw f (ih g)

among-unwritten : (a : ℕ) (ws : List (ℕ × ℕ)) → overlay_word a ws ≡ None → is_among a (cells ws) ≡ false
among-unwritten a [] e = refl
among-unwritten a (p ∷ ws) e = at (p.0 == a) refl (among-unwritten a ws)
  where
    at : (b : Bool) → (p.0 == a) ≡ b → (overlay_word a ws ≡ None → is_among a (cells ws) ≡ false) → cond (p.0 == a) true (is_among a (cells ws)) ≡ false
    at true f ih = let g = rw f at e in absurd (cc)
    at false f ih = let g = rw f at e in rw f (ih g)

cells-put : (a v : ℕ) (ws : List (ℕ × ℕ)) → with_cell a (cells ws) ≡ cells (with_write a v ws)
cells-put a v [] = refl
cells-put a v (p ∷ ws) = at (eqb_tells p.0 a) (is_among a (cells ws)) refl (cells-put a v ws)
  where
    at : ((p.0 == a) ≡ true) × (p.0 ≡ a) ⊎ ((p.0 == a) ≡ false) × (p.0 ≢ a) → (b : Bool) → is_among a (cells ws) ≡ b → cond (is_among a (cells ws)) (cells ws) (cells ws ++ a ∷ []) ≡ cells (with_write a v ws)
        → cond (cond (p.0 == a) true (is_among a (cells ws))) (p.0 ∷ cells ws) (p.0 ∷ cells ws ++ a ∷ []) ≡ cells (cond (p.0 == a) ((a, v) ∷ ws) (p ∷ with_write a v ws))
    at (inl e) b f ih = rw e.0 (ap (λ c. c ∷ cells ws) e.1)
    at (inr e) true f ih = let g = rw f at ih in rw (e.0, f) (ap (λ l. p.0 ∷ l) g)
    at (inr e) false f ih = let g = rw f at ih in rw (e.0, f) (ap (λ l. p.0 ∷ l) g)

commit-some : (ws : List (ℕ × ℕ)) → 0 < length ws → commit_accesses (cells ws) ≡ length ws + 2
commit-some [] lt = absurd (omega arith)
commit-some (p ∷ ws) lt = let e = length-map ws (λ (q : ℕ × ℕ). q.0) in omega arith

if_so : (b : Bool) (x y : ℕ) → b ≡ true → (if b then x else y) ≡ x
if_so b x y e = ap (λ c. cond c x y) e

if_not : (b : Bool) (x y : ℕ) → b ≡ false → (if b then x else y) ≡ y
if_not b x y e = ap (λ c. cond c x y) e

none_past : (xs : List (ℕ × ℕ)) (i : ℕ) → slice_get xs i ≡ None → length xs ≤ i
none_past [] i e = omega arith
none_past (x ∷ xs) zero e = absurd (cc)
none_past (x ∷ xs) (suc i) e = let r = none_past xs i e in omega arith

-- A transaction that begins in begin and finds this memory.
module _ {C : Type 0} (code : C → Effect C) (bounds : List ℕ) (fits : FitsCells code bounds) (begin : C) (found : Memory) (sized : length found ≡ length bounds) where
  abbrev pub entered : Sequential C
  entered = next code (start begin (found ∷ []))

  tally-add : (n m : ℕ) (s : Sequential C) (t : Tally) → tally_after code (n + m) s t ≡ tally_after code m (tally_after code n s t).0 (tally_after code n s t).1
  tally-add zero m s t = ap (λ k. tally_after code k s t) (zero-add m)
  tally-add (suc n) m s t = ap (λ k. tally_after code k s t) (suc-add n m) ∙ tally-add n m (next code s) (tally_step t (code s.configuration))

  -- the tally of an attempt
  abbrev pub tally_of : ℕ → ℕ → Attempt C → Tally
  tally_of r kr a = record { reads = r; kept_reads = kr; written = cells a.writes; inner = map (λ (l : Checkpoint C). cells l.writes) a.inner; kept = a.kept }

  abbrev pub opened : Attempt C → OpenTransaction C
  opened a = inside_of code found a.saved a.writes a.inner a.kept

  -- the meaning where the attempt is
  abbrev pub meant : C → Attempt C → List ℕ → Sequential C
  meant c a text = inside c (opened a) [] [] text

  abbrev pub Tells : ℕ → ℕ → C → Attempt C → Type 0
  Tells r kr c a = (n : ℕ) × (text : List ℕ) × (tally_after code n entered empty_tally ≡ (meant c a text, tally_of r kr a))

  -- one more instruction
  advance : (r kr : ℕ) (c : C) (a : Attempt C) (x : Effect C) → code c ≡ x → Tells r kr c a → (r' kr' : ℕ) (c' : C) (b : Attempt C)
      → ((text : List ℕ) → (text' : List ℕ) × (inside_step (meant c a text) (opened a) x ≡ meant c' b text')) → tally_step (tally_of r kr a) x ≡ tally_of r' kr' b → Tells r' kr' c' b
  advance r kr c a x e s r' kr' c' b one tally =
      let m = one s.1 in (
        s.0 + 1,
        m.0,
        tally-add s.0 1 entered empty_tally
            ∙ ap (λ (p : Sequential C × Tally). tally_after code 1 p.0 p.1) s.2
            ∙ ap (λ y. (inside_step (meant c a s.1) (opened a) y, tally_step (tally_of r kr a) y)) e
            ∙ (λ i. (m.1 i, tally i)),
      )

  -- what the phase knows
  abbrev AtPhase : ℕ → List ℕ → C → Attempt C → Phase → Type 0
  AtPhase lock words c a AtOperation = (words ≡ found) × (a.kept ≡ false → lock ≡ a.snapshot)
  AtPhase lock words c a (ReadsLock v) = (words ≡ found) × (a.kept ≡ false) × (lock ≡ a.snapshot)
      × ((ad : ℕ) × (f : ℕ → C) × (code c ≡ Read ad f) × (overlay_word ad a.writes ≡ None) × (v ≡ slice_index found ad))
  AtPhase lock words c a (Stores i) = (i ≤ length a.writes) × (0 < length a.writes) × (a.inner ≡ []) × ((d : C) × (code c ≡ Commit d))
  AtPhase lock words c a _ = ⊥

  -- the attempt after k accesses
  pub record Quiet (lock : ℕ) (words : List ℕ) (k : ℕ) (c : C) (a : Attempt C) : Type 0 where
    pub reads : ℕ
    pub kept_reads : ℕ
    pub tells : Tells reads kept_reads c a
    pub unkept : a.kept ≡ false → kept_reads ≡ 0
    pub count : k ≡ accesses_so_far (tally_of reads kept_reads a) + accesses_at a.kept a.phase
    pub distinct : IsDistinct a.writes
    pub marks : AllByRecursion (λ (l : Checkpoint C). IsDistinct l.writes) a.inner
    pub at : AtPhase lock words c a a.phase

  -- the end after k accesses, from which the thread goes on in d
  pub record EndsQuietly (k : ℕ) (d : C) : Type 0 where
    pub reads : ℕ
    pub kept_reads : ℕ
    pub c : C
    pub attempt : Attempt C
    pub tells : Tells reads kept_reads c attempt
    pub ends : (text : List ℕ) → ((next code (meant c attempt text)).inside ≡ None) × ((next code (meant c attempt text)).configuration ≡ d)
    pub count : k ≡ accesses (tally_of reads kept_reads attempt) (is_commit (code c))

  abbrev pub QuietAfter : ℕ → List ℕ → ℕ → C → Option (Attempt C) → Option Completed → Type 0
  QuietAfter lock words k c (Some b) None = Quiet lock words k c b
  QuietAfter lock words k c (Some b) (Some x) = ⊥
  QuietAfter lock words k c None None = ⊥
  QuietAfter lock words k c None (Some x) = EndsQuietly k c

  module _ (th : Thread C) (a : Attempt C) (lock : ℕ) (words : List ℕ) (e : th.attempt ≡ Some a) (k r kr : ℕ) (tells : Tells r kr th.configuration a) (unkept : a.kept ≡ false → kr ≡ 0) (distinct : IsDistinct a.writes)
      (marks : AllByRecursion (λ (l : Checkpoint C). IsDistinct l.writes) a.inner) where
    abbrev After : Access → (Answer → Next C) → Type 0
    After x tell = QuietAfter (lock_after lock x) (words_after words x) (k + cost x) (tell (answer lock words x)).thread.configuration (tell (answer lock words x)).thread.attempt (tell (answer lock words x)).completed

    abbrev access_in : Phase → Option Op → Access
    access_in q None = access_.Local
    access_in q (Some o) = phase_access a q o

    abbrev told_in : Phase → Effect C → Option Op → Answer → Next C
    told_in q x None y = own_step th a x
    told_in q x (Some o) y = resume_next code th x (core_phase th.configuration a q o y)

    abbrev here : C
    here = th.configuration

    abbrev tally : Tally
    tally = tally_of r kr a

    abbrev so_far : ℕ
    so_far = accesses_so_far tally

    -- the end, by an instruction
    ends_by : (n : ℕ) (d : C) (x : Effect C) → code here ≡ x → ((text : List ℕ) → ((inside_step (meant here a text) (opened a) x).inside ≡ None) × ((inside_step (meant here a text) (opened a) x).configuration ≡ d))
        → n ≡ accesses tally (is_commit x) → EndsQuietly n d
    ends_by n d x ex ends count = record {
      reads = r;
      kept_reads = kr;
      c = here;
      attempt = a;
      tells = tells;
      ends = λ text. subst (λ y. ((inside_step (meant here a text) (opened a) y).inside ≡ None) × ((inside_step (meant here a text) (opened a) y).configuration ≡ d)) (sym ex) (ends text);
      count = subst (λ y. n ≡ accesses tally (is_commit y)) (sym ex) count;
    }

    -- the attempt at a commit's i-th store, or past the last one
    storing : (n i : ℕ) (d : C) (l : ℕ) (ws : List ℕ) → code here ≡ Commit d → a.inner ≡ [] → n ≡ so_far + (if a.kept then i else suc i) → i ≤ length a.writes → 0 < length a.writes
        → Quiet l ws n here (record a { phase = Stores i })
    storing n i d l ws ex inner count le some = record { reads = r; kept_reads = kr; tells = tells; unkept = unkept; count = count; distinct = distinct; marks = marks; at = (le, some, inner, (d, ex)) }

    commits : (d : C) → a.inner ≡ [] → (text : List ℕ) → ((inside_step (meant here a text) (opened a) (Commit d)).inside ≡ None) × ((inside_step (meant here a text) (opened a) (Commit d)).configuration ≡ d)
    commits d g text = (ap (λ (s : Sequential C). s.inside) is, ap (λ (s : Sequential C). s.configuration) is)
      where
        is : inside_step (meant here a text) (opened a) (Commit d) ≡ commit_step (meant here a text) (opened a) d []
        is = ap (λ ls. commit_step (meant here a text) (opened a) d (inners_of code found ls)) g

    -- a release with the lock kept, or after a commit's swap
    stored : (n : ℕ) (d : C) → code here ≡ Commit d → a.inner ≡ [] → (kept : Bool) → a.kept ≡ kept → 0 < length a.writes → n ≡ so_far + (if kept then length a.writes else suc (length a.writes)) + 1 → EndsQuietly n d
    stored n d ex inner true g some count =
        let own = if_so a.kept (length (cells a.writes) + 1) (commit_accesses (cells a.writes)) g in
        let same = length-map a.writes (λ (p : ℕ × ℕ). p.0) in
        ends_by n d (Commit d) ex (commits d inner) (omega arith)
    stored n d ex inner false g some count =
        let own = if_not a.kept (length (cells a.writes) + 1) (commit_accesses (cells a.writes)) g in
        let same = commit-some a.writes some in
        ends_by n d (Commit d) ex (commits d inner) (omega arith)

    module _ (ph : a.phase ≡ AtOperation) (same : words ≡ found) (free : a.kept ≡ false → lock ≡ a.snapshot) (count : k ≡ so_far) where
      -- the attempt goes on as b, at an instruction
      rests : (l n : ℕ) (c : C) (b : Attempt C) (r' kr' : ℕ) → b.phase ≡ AtOperation → (b.kept ≡ false → l ≡ b.snapshot) → Tells r' kr' c b → (b.kept ≡ false → kr' ≡ 0) → n ≡ accesses_so_far (tally_of r' kr' b)
          → IsDistinct b.writes → AllByRecursion (λ (m : Checkpoint C). IsDistinct m.writes) b.inner → Quiet l words n c b
      rests l n c b r' kr' q un t no_reads is dis ms = record {
        reads = r';
        kept_reads = kr';
        tells = t;
        unkept = no_reads;
        count = subst (λ p. n ≡ accesses_so_far (tally_of r' kr' b) + accesses_at b.kept p) (sym q) (omega arith);
        distinct = dis;
        marks = ms;
        at = subst (AtPhase l words c b) (sym q) (same, un);
      }

      -- an instruction without access, of the thread's own or of the core
      moves : (c : C) → Tells r kr c a → Quiet lock words (k + 0) c a
      moves c t = rests lock (k + 0) c a r kr ph free t unkept (omega arith) distinct marks

      unmoved : (c : C) → Tells r kr c a → QuietAfter lock words (k + 0) c th.attempt None
      unmoved c t = subst (λ o. QuietAfter lock words (k + 0) c o None) (sym e) (moves c t)

      word : (ad : ℕ) (f : ℕ → C) → code here ≡ Read ad f → overlay_word ad a.writes ≡ None → (kept : Bool) → a.kept ≡ kept → After (access_.LoadWord ad) (λ y. resume_next code th (Read ad f) (core_word a kept y))
      word ad f ex g true kp =
          let before = if_so a.kept (1 + kr) 0 kp in
          let after = if_so a.kept (1 + suc kr) 0 kp in
          rests lock (k + 1) (f (slice_index words ad)) a r (suc kr) ph free
          (advance r kr here a (Read ad f) ex tells r (suc kr) (f (slice_index words ad)) a
          (λ text. (text, ap (λ v. meant (f v) a text) (overlay-other found ad a.writes (not_written ad a.writes g) ∙ ap (λ m. slice_index m ad) (sym same))))
          (λ i. with_read tally (among-unwritten ad a.writes g i) (kp i)))
          (λ free_now. absurd (let x : true ≡ false = sym kp ∙ free_now in cc)) (omega arith) distinct marks
      word ad f ex g false kp = record {
        reads = r;
        kept_reads = kr;
        tells = tells;
        unkept = unkept;
        count = (omega arith);
        distinct = distinct;
        marks = marks;
        at = (same, kp, free kp, (ad, f, ex, g, ap (λ m. slice_index m ad) same));
      }

      read : (ad : ℕ) (f : ℕ → C) → code here ≡ Read ad f → (o : Option ℕ) → overlay_word ad a.writes ≡ o → After (read_access ad o) (λ y. resume_next code th (Read ad f) (core_read a o y))
      read ad f ex (Some v) g =
          let lt = fits.reads here ad f ex in
          let le : ad < length found = omega (arith, sized) in
          moves (f v)
          (advance r kr here a (Read ad f) ex tells r kr (f v) a (λ text. (text, ap (λ u. meant (f u) a text) (overlay-written found ad v a.writes distinct le g)))
          (ap (λ own. with_read tally own a.kept) (among-written ad v a.writes g)))
      read ad f ex None g = word ad f ex g a.kept refl

      write : (ad v : ℕ) (c : C) → code here ≡ Write ad v c → Quiet lock words (k + 0) c (record a { writes = with_write ad v a.writes })
      write ad v c ex = rests lock (k + 0) c (record a { writes = with_write ad v a.writes }) r kr ph free
          (advance r kr here a (Write ad v c) ex tells r kr c (record a { writes = with_write ad v a.writes })
          (λ text. (text, ap (λ m. inside c (record (opened a) { mem = m }) [] [] text) (sym (overlay-put found ad v a.writes distinct))))
          (ap (λ ws. record tally { written = ws }) (cells-put ad v a.writes)))
          unkept (omega arith) (distinct-put ad v a.writes distinct) marks

      begin_inner : (c d : C) → code here ≡ Begin c d → Quiet lock words (k + 0) c (record a { inner = record { saved = here; writes = a.writes } ∷ a.inner })
      begin_inner c d ex = rests lock (k + 0) c (record a { inner = record { saved = here; writes = a.writes } ∷ a.inner }) r kr ph free
          (advance r kr here a (Begin c d) ex tells r kr c (record a { inner = record { saved = here; writes = a.writes } ∷ a.inner })
          (λ text. (text, ap (λ y. inside c (record (opened a) { inner = record { cancelled = after_cancel y here; mem = overlay found a.writes } ∷ inners_of code found a.inner }) [] [] text) (sym ex)))
          refl)
          unkept (omega arith) distinct (distinct, marks)

      commit_kept : (c : C) → code here ≡ Commit c → a.inner ≡ [] → a.kept ≡ true → (ws : List (ℕ × ℕ)) → a.writes ≡ ws → After (store_access a.snapshot (slice_get ws 0)) (λ y. resume_next code th (Commit c) (core_store a 0 (slice_get ws 0)))
      commit_kept c ex g kp [] h =
          let own = if_so a.kept (length (cells a.writes) + 1) (commit_accesses (cells a.writes)) kp in
          let none : length (cells a.writes) ≡ 0 = ap (λ l. length (cells l)) h in
          ends_by (k + 1) c (Commit c) ex (commits c g) (omega arith)
      commit_kept c ex g kp (p ∷ ps) h =
          let own = if_so a.kept 1 2 kp in
          let size : length a.writes ≡ suc (length ps) = ap length h in
          storing (k + 1) 1 c _ _ ex g (omega arith) (omega arith) (omega arith)

      commit : (c : C) → code here ≡ Commit c → (inner : List (Checkpoint C)) → a.inner ≡ inner → (kept : Bool) → a.kept ≡ kept → (ws : List (ℕ × ℕ)) → a.writes ≡ ws
          → After (commit_access a inner kept ws) (λ y. resume_next code th (Commit c) (core_commit a inner kept ws y))
      commit c ex [] g true kp ws h = commit_kept c ex g kp ws h
      commit c ex [] g false kp [] h =
          let own = if_not a.kept (length (cells a.writes) + 1) (commit_accesses (cells a.writes)) kp in
          let none : commit_accesses (cells a.writes) ≡ 0 = ap (λ l. commit_accesses (cells l)) h in
          ends_by (k + 0) c (Commit c) ex (commits c g) (omega arith)
      commit c ex [] g false kp (p ∷ ps) h =
          let own = if_not a.kept 0 1 kp in
          let size : length a.writes ≡ suc (length ps) = ap length h in
          rw (eq-eqb lock a.snapshot (free kp)) (storing (k + 1) 0 c _ _ ex g (omega arith) (omega arith) (omega arith))
      commit c ex (l ∷ ls) g kept kp ws h = rests lock (k + 0) c (record a { inner = ls }) r kr ph free
          (advance r kr here a (Commit c) ex tells r kr c (record a { inner = ls })
          (λ text. (text, ap (λ ms. commit_step (meant here a text) (opened a) c (inners_of code found ms)) g))
          (ap (λ ms. with_commit tally (map (λ (m : Checkpoint C). cells m.writes) ms)) g))
          unkept (omega arith) distinct (subst (AllByRecursion (λ (m : Checkpoint C). IsDistinct m.writes)) g marks).1

      cancel : code here ≡ Cancel → (inner : List (Checkpoint C)) → a.inner ≡ inner → (kept : Bool) → a.kept ≡ kept → After access_.Local (λ y. resume_next code th Cancel (core_cancel a inner kept))
      cancel ex [] g true kp = moves here tells
      cancel ex [] g false kp =
          let own = if_not a.kept 1 0 kp in
          ends_by (k + 0) (after_cancel (code a.saved) a.saved) Cancel ex (λ text.
          let is : inside_step (meant here a text) (opened a) Cancel ≡ cancel_step (meant here a text) (opened a) [] false = λ i. cancel_step (meant here a text) (opened a) (inners_of code found (g i)) (kp i) in
          (ap (λ (s : Sequential C). s.inside) is, ap (λ (s : Sequential C). s.configuration) is)) (omega arith)
      cancel ex (l ∷ ls) g kept kp = rests lock (k + 0) (after_cancel (code l.saved) l.saved) (record a { writes = l.writes; inner = ls }) r kr ph free
          (advance r kr here a Cancel ex tells r kr (after_cancel (code l.saved) l.saved) (record a { writes = l.writes; inner = ls })
          (λ text. (text, ap (λ ms. cancel_step (meant here a text) (opened a) (inners_of code found ms) a.kept) g))
          (ap (λ ms. with_cancel tally (map (λ (m : Checkpoint C). cells m.writes) ms)) g))
          unkept (omega arith) (subst (AllByRecursion (λ (m : Checkpoint C). IsDistinct m.writes)) g marks).0 (subst (AllByRecursion (λ (m : Checkpoint C). IsDistinct m.writes)) g marks).1

      outer_cancel : (levels : ℕ) → code here ≡ CancelOuter levels → (inner : List (Checkpoint C)) → drop (levels - 1) a.inner ≡ inner → (kept : Bool) → a.kept ≡ kept → After access_.Local (λ y. resume_next code th (CancelOuter levels) (core_cancel a inner kept))
      outer_cancel levels ex [] g true kp = moves here tells
      outer_cancel levels ex [] g false kp =
          let own = if_not a.kept 1 0 kp in
          ends_by (k + 0) (after_cancel (code a.saved) a.saved) (CancelOuter levels) ex (λ text.
          let is : inside_step (meant here a text) (opened a) (CancelOuter levels) ≡ cancel_step (meant here a text) (opened a) [] false =
          outer_cancelled code (meant here a text) found a.saved a.writes a.inner [] a.kept levels g ∙ ap (cancel_step (meant here a text) (opened a) []) kp in
          (ap (λ (s : Sequential C). s.inside) is, ap (λ (s : Sequential C). s.configuration) is)) (omega arith)
      outer_cancel levels ex (l ∷ ls) g kept kp =
          let ms = subst (AllByRecursion (λ (m : Checkpoint C). IsDistinct m.writes)) g (all_left (λ (m : Checkpoint C). IsDistinct m.writes) (levels - 1) a.inner marks) in
          rests lock (k + 0) (after_cancel (code l.saved) l.saved) (record a { writes = l.writes; inner = ls }) r kr ph free
          (advance r kr here a (CancelOuter levels) ex tells r kr (after_cancel (code l.saved) l.saved) (record a { writes = l.writes; inner = ls })
          (λ text. (text, outer_cancelled code (meant here a text) found a.saved a.writes a.inner (l ∷ ls) a.kept levels g))
          (ap (with_cancel tally) (drop-map (λ (m : Checkpoint C). cells m.writes) (levels - 1) a.inner) ∙ ap (λ ms. with_cancel tally (map (λ (m : Checkpoint C). cells m.writes) ms)) g))
          unkept (omega arith) ms.0 ms.1

      print : (piece : List ℕ) (c : C) → code here ≡ Print piece c → (kept : Bool) → a.kept ≡ kept → After access_.Local (λ y. print_inside th piece c kept)
      print piece c ex true kp = unmoved c
          (advance r kr here a (Print piece c) ex tells r kr c a (λ text. (text ++ piece, ap (print_step (meant here a text) piece c) kp)) refl)
      print piece c ex false kp = unmoved here tells

      irrevocable : (c : C) → code here ≡ Irrevocable c → (kept : Bool) → a.kept ≡ kept
          → After (cond kept access_.Local (access_.Swap a.snapshot)) (λ y. resume_next code th (Irrevocable c) (cond kept (on a outcome.Done) (core_swap a (record a { kept = true }) outcome.Done y)))
      irrevocable c ex true kp = moves c
          (advance r kr here a (Irrevocable c) ex tells r kr c a
          (λ text. (text, ap (λ b. inside c (record (opened a) { kept = b }) [] [] text) (sym kp)))
          (ap (λ b. record tally { kept = b }) (sym kp)))
      irrevocable c ex false kp =
          let own = if_not a.kept (1 + kr) 0 kp in
          let none = unkept kp in
          rw (eq-eqb lock a.snapshot (free kp)) (rests _ (k + 1) c (record a { kept = true }) r kr ph (λ f. absurd (cc))
          (advance r kr here a (Irrevocable c) ex tells r kr c (record a { kept = true }) (λ text. (text, refl)) refl)
          (λ f. absurd (cc)) (omega arith) distinct marks)

      abbrev traps : Trap → Effect C
      traps cause = Traps cause

      trapped : (n : ℕ) (cause : Trap) → code here ≡ Traps cause → n ≡ so_far + (if a.kept then 1 else 0) → EndsQuietly n here
      trapped n cause ex is = ends_by n here (Traps cause) ex (λ text. (refl, refl)) is

      trap : (cause : Trap) → code here ≡ Traps cause → (kept trapping : Bool) → a.kept ≡ kept → After (access_in AtOperation (op_of (traps cause) kept trapping)) (told_in AtOperation (traps cause) (op_of (traps cause) kept trapping))
      trap cause ex true false kp = unmoved here tells
      trap cause ex true true kp =
          let own = if_so a.kept 1 0 kp in
          let over : EndsQuietly (k + 1) here = trapped (k + 1) cause ex (omega arith) in
          rw kp over
      trap cause ex false trapping kp =
          let own = if_not a.kept 1 0 kp in
          let over : EndsQuietly (k + 0) here = trapped (k + 0) cause ex (omega arith) in
          rw kp over

      at_step : (x : Effect C) → code here ≡ x → After (access_in AtOperation (op_of x a.kept th.trapping)) (told_in AtOperation x (op_of x a.kept th.trapping))
      at_step (Pure c) ex = unmoved c (advance r kr here a (Pure c) ex tells r kr c a (λ text. (text, refl)) refl)
      at_step (Print piece c) ex = print piece c ex a.kept refl
      at_step (Begin c d) ex = begin_inner c d ex
      at_step (Read ad f) ex = read ad f ex (overlay_word ad a.writes) refl
      at_step (Write ad v c) ex = write ad v c ex
      at_step (Commit c) ex = commit c ex a.inner refl a.kept refl a.writes refl
      at_step Cancel ex = cancel ex a.inner refl a.kept refl
      at_step (CancelOuter levels) ex = outer_cancel levels ex (drop (levels - 1) a.inner) refl a.kept refl
      at_step (Irrevocable c) ex = irrevocable c ex a.kept refl
      at_step (Traps cause) ex = trap cause ex a.kept th.trapping refl
      at_step End ex = unmoved here tells

    -- a read's word is logged
    check : (ad : ℕ) (f : ℕ → C) (v : ℕ) → code here ≡ Read ad f → words ≡ found → a.kept ≡ false → lock ≡ a.snapshot → overlay_word ad a.writes ≡ None → v ≡ slice_index found ad → k ≡ so_far + 1
        → After access_.LoadLock (λ y. resume_next code th (Read ad f) (core_check a (op.Read ad) v y))
    check ad f v ex same kp lk none is count = rw (eq-eqb lock a.snapshot lk) (record {
      reads = suc r;
      kept_reads = kr;
      tells = advance r kr here a (Read ad f) ex tells (suc r) kr (f v) (record a { reads = a.reads ++ (ad, v) ∷ []; phase = AtOperation })
          (λ text. (text, ap (λ u. meant (f u) a text) (overlay-other found ad a.writes (not_written ad a.writes none) ∙ sym is)))
          (λ i. with_read tally (among-unwritten ad a.writes none i) (kp i));
      unkept = unkept;
      count = (omega arith);
      distinct = distinct;
      marks = marks;
      at = (same, λ f. lk);
    })

    store : (c : C) → code here ≡ Commit c → (i : ℕ) (o : Option (ℕ × ℕ)) → slice_get a.writes i ≡ o → i ≤ length a.writes → 0 < length a.writes → a.inner ≡ [] → k ≡ so_far + (if a.kept then i else suc i)
        → After (store_access a.snapshot o) (λ y. resume_next code th (Commit c) (core_store a i o))
    store c ex i None g le some inner count =
        let past = none_past a.writes i g in
        let last : i ≡ length a.writes = omega arith in
        stored (k + 1) c ex inner a.kept refl some (ap (λ n. n + 1) (count ∙ ap (λ (n : ℕ). so_far + (if a.kept then n else suc n)) last))
    store c ex i (Some p) g le some inner count =
        let lt = slice_get_within a.writes i p g in
        let more : (if a.kept then suc i else suc (suc i)) ≡ (if a.kept then i else suc i) + 1 = shift a.kept i in
        storing (k + 1) (suc i) c _ _ ex inner (omega arith) (omega arith) some
      where
        shift : (b : Bool) (j : ℕ) → (if b then suc j else suc (suc j)) ≡ (if b then j else suc j) + 1
        shift true j = omega arith
        shift false j = omega arith

    by_phase : (q : Phase) (x : Effect C) → code here ≡ x → a.phase ≡ q → AtPhase lock words here a q → k ≡ so_far + accesses_at a.kept q → After (access_in q (op_of x a.kept th.trapping)) (told_in q x (op_of x a.kept th.trapping))
    by_phase AtOperation x ex ph h count = at_step ph h.0 h.1 (omega arith) x ex
    by_phase (ReadsLock v) x ex ph h count =
        let is = h.3 in
        let same : x ≡ Read is.0 is.1 = sym ex ∙ is.2 in
        subst (λ y. After (access_in (ReadsLock v) (op_of y a.kept th.trapping)) (told_in (ReadsLock v) y (op_of y a.kept th.trapping))) (sym same)
        (check is.0 is.1 v is.2 h.0 h.1 h.2 is.3 is.4 (omega arith))
    by_phase (Stores j) x ex ph h count =
        let is = h.3 in
        let same : x ≡ Commit is.0 = sym ex ∙ is.1 in
        subst (λ y. After (access_in (Stores j) (op_of y a.kept th.trapping)) (told_in (Stores j) y (op_of y a.kept th.trapping))) (sym same)
        (store is.0 is.1 j (slice_get a.writes j) refl h.0 h.1 h.2 count)
    by_phase ValidatesTime x ex ph h count = absurd h
    by_phase (ValidatesEntry t j) x ex ph h count = absurd h

  -- one undisturbed step
  pub quiet_step : (th : Thread C) (a : Attempt C) (lock : ℕ) (words : List ℕ) (k : ℕ) → th.attempt ≡ Some a → Quiet lock words k th.configuration a
      → QuietAfter (lock_after lock (access code th)) (words_after words (access code th)) (k + cost (access code th)) (step_with code th (answer lock words (access code th))).thread.configuration
      (step_with code th (answer lock words (access code th))).thread.attempt (step_with code th (answer lock words (access code th))).completed
  quiet_step th a lock words k e q =
      subst (λ o. After th a lock words e k q.reads q.kept_reads q.tells q.unkept q.distinct q.marks (access_of th o (code th.configuration)) (told_of code th o (code th.configuration))) (sym e)
      (by_phase th a lock words e k q.reads q.kept_reads q.tells q.unkept q.distinct q.marks a.phase (code th.configuration) refl refl q.at q.count)
