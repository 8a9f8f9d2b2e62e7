-- A thread that steps alone does what its meaning does, and no step of it drops an attempt.
use Rattle.std.proofs.Common.{◌≡◌, ◌≤◌, ◌+◌, ◌-◌, ◌*◌, ◌%◌, ◌⊎◌, inl, inr, ℕ, zero, suc, Bool, true, false, List, [], ◌∷◌, ◌++◌, Option, None, Some, refl, sym, ◌∙◌, ap, subst, length, drop, slice_get, slice_index, zero-add, suc-add, append_assoc, append-nil, arith}
use Rattle.std.specs.List.{AllByRecursion}
use Rattle.std.proofs.lemmas.Bool.{eq-eqb}
use Rattle.syntax.specs.declared.thread_end.Status.{Status}
use Rattle.syntax.specs.declared.thread_end.Status.TheVariants.{Running, Ended as HasEnded, Trapped as HasTrapped}
use Rattle.syntax.specs.declared.thread_end.Trap.{Trap}
use Rattle.write_log.specs.Overlay.{IsDistinct, overlay, with_write, overlay_word}
use Rattle.bytecode.specs.Effects.{Effect, FitsCells, after_cancel}
use Rattle.bytecode.specs.Effects.Effect.{Begin, Cancel, CancelOuter, Commit, End, Irrevocable, Print, Pure, Read, Traps, Write}
use Rattle.bytecode.specs.Sequential.{InnerTransaction, OpenTransaction, Sequential, cancel_step, commit_step, end_of, found_next, inside_step, next, outside, outside_step, print_step, sequential_step, start, steps}
use Rattle.norec_core.specs.Attempts.{Attempt, Checkpoint}
use Rattle.norec_core.specs.declared.step.Phase.{Phase}
use Rattle.norec_core.specs.declared.step.Phase.TheVariants.{AtOperation, ReadsLock, Stores}
use Rattle.machine.specs.Alone.{IsOver}
use Rattle.machine.specs.Drops.{drop_count}
use Rattle.machine.specs.inner.Invariant.{inners_of, inside, inside_of}
use Rattle.machine.specs.Threads.{Thread, access_of, told_of}
use Rattle.machine.specs.Worlds.{answer, lock_after, words_after}
use Rattle.machine.proofs.Levels.{all_left}
use Rattle.machine.proofs.parts.Meaning.{outer_cancelled}
use Rattle.write_log.proofs.Overlay.{distinct-put, length-overlay, not_written, overlay-append, overlay-other, overlay-put, overlay-written}

get_seam : (xs ys : List (ℕ × ℕ)) (y : ℕ × ℕ) → slice_get (xs ++ y ∷ ys) (length xs) ≡ Some y
get_seam [] ys y = refl
get_seam (x ∷ xs) ys y = get_seam xs ys y

get_end : (xs : List (ℕ × ℕ)) → slice_get xs (length xs) ≡ None
get_end [] = refl
get_end (x ∷ xs) = get_end xs

length_snoc : {X : Type 0} (xs : List X) (y : X) → length (xs ++ y ∷ []) ≡ suc (length xs)
length_snoc [] y = refl
length_snoc (x ∷ xs) y = ap suc (length_snoc xs y)

-- the machine with one thread, apart from its records, and how often an attempt was dropped
pub record Solo (C : Type 0) : Type 0 where
  pub lock : ℕ
  pub words : List ℕ
  pub thread : Thread C
  pub drops : ℕ

-- a step with the instruction x
abbrev pub solo_with : {C : Type 0} → (C → Effect C) → Effect C → Solo C → Solo C
solo_with code x s =
    let a = access_of s.thread s.thread.attempt x in
    let n = told_of code s.thread s.thread.attempt x (answer s.lock s.words a) in
    record { lock = lock_after s.lock a; words = words_after s.words a; thread = n.thread; drops = s.drops + drop_count s.thread.attempt n.thread.attempt n.completed }

abbrev pub solo : {C : Type 0} → (C → Effect C) → ℕ → Solo C → Solo C
solo code zero s = s
solo code (suc n) s = solo code n (solo_with code (code s.thread.configuration) s)

-- the meaning's thread has come to its end
abbrev pub IsOverAt : {C : Type 0} → Sequential C → Type 0
IsOverAt r = IsOver (end_of r.wants r.status)

-- the lock of an attempt that nobody disturbs
abbrev pub lock_for : ℕ → Bool → ℕ
lock_for s true = s + 1
lock_for s false = s

abbrev pub out_solo : {C : Type 0} → ℕ → List ℕ → C → List ℕ → Status → Solo C
out_solo lock words c text status = record { lock = lock; words = words; thread = record { configuration = c; attempt = None; trapping = false; text = text; status = status }; drops = 0 }

abbrev pub in_solo_with : {C : Type 0} → Bool → ℕ → List ℕ → C → List ℕ → Attempt C → Solo C
in_solo_with trapping lock words c text a = record { lock = lock; words = words; thread = record { configuration = c; attempt = Some a; trapping = trapping; text = text; status = Running }; drops = 0 }

abbrev pub in_solo : {C : Type 0} → ℕ → List ℕ → C → List ℕ → Attempt C → Solo C
in_solo lock words c text a = in_solo_with false lock words c text a

-- an attempt at an instruction
abbrev pub at_attempt : {C : Type 0} → C → ℕ → ℕ → List (ℕ × ℕ) → List (ℕ × ℕ) → List (Checkpoint C) → Bool → Phase → Attempt C
at_attempt saved first snapshot reads writes inner kept phase = record { saved = saved; first = first; snapshot = snapshot; reads = reads; writes = writes; inner = inner; kept = kept; phase = phase }

-- each memory found is the one left before, and each transaction leaves one
abbrev pub Feeds : List ℕ → List (List ℕ) → List (List ℕ) → Type 0
Feeds words [] [] = Unit {0}
Feeds words (f ∷ fs) (l ∷ ls) = (f ≡ words) × Feeds l fs ls
Feeds words [] (l ∷ ls) = ⊥
Feeds words (f ∷ fs) [] = ⊥

abbrev pub last_of : List ℕ → List (List ℕ) → List ℕ
last_of words [] = words
last_of words (l ∷ ls) = last_of l ls

module _ {C : Type 0} (code : C → Effect C) where
  abbrev pub Reach : Solo C → Solo C → Type 0
  Reach s r = (n : ℕ) × (solo code n s ≡ r)

  pub solo-add : (n m : ℕ) (s : Solo C) → solo code (n + m) s ≡ solo code m (solo code n s)
  solo-add zero m s = ap (λ k. solo code k s) (zero-add m)
  solo-add (suc n) m s = ap (λ k. solo code k s) (suc-add n m) ∙ solo-add n m (solo_with code (code s.thread.configuration) s)

  pub then : (s r q : Solo C) → Reach s r → Reach r q → Reach s q
  then s r q a b = (a.0 + b.0, solo-add a.0 b.0 s ∙ ap (solo code b.0) a.1 ∙ b.1)

  -- one step
  pub once : (s r : Solo C) (x : Effect C) → code s.thread.configuration ≡ x → solo_with code x s ≡ r → Reach s r
  once s r x e f = (1, ap (λ y. solo_with code y s) e ∙ f)

  abbrev pub IsOpen : Option (Attempt C) → Type 0
  IsOpen None = ⊥
  IsOpen (Some a) = Unit {0}

  -- an attempt is open before each of so many steps
  abbrev pub AllOpen : ℕ → Solo C → Type 0
  AllOpen zero s = Unit {0}
  AllOpen (suc n) s = IsOpen s.thread.attempt × AllOpen n (solo_with code (code s.thread.configuration) s)

  abbrev pub ReachInside : Solo C → Solo C → Type 0
  ReachInside s r = (n : ℕ) × (solo code n s ≡ r) × AllOpen n s

  pub reaches : (s r : Solo C) → ReachInside s r → Reach s r
  reaches s r a = (a.0, a.1)

  open-add : (n m : ℕ) (s : Solo C) → AllOpen n s → AllOpen m (solo code n s) → AllOpen (n + m) s
  open-add zero m s a b = subst (λ k. AllOpen k s) (sym (zero-add m)) b
  open-add (suc n) m s a b = subst (λ k. AllOpen k s) (sym (suc-add n m)) (a.0, open-add n m (solo_with code (code s.thread.configuration) s) a.1 b)

  pub then_inside : (s r q : Solo C) → ReachInside s r → ReachInside r q → ReachInside s q
  then_inside s r q a b = (a.0 + b.0, solo-add a.0 b.0 s ∙ ap (solo code b.0) a.1 ∙ b.1, open-add a.0 b.0 s a.2 (subst (AllOpen b.0) (sym a.1) b.2))

  pub once_inside : (s r : Solo C) (x : Effect C) → code s.thread.configuration ≡ x → solo_with code x s ≡ r → IsOpen s.thread.attempt → ReachInside s r
  once_inside s r x e f o = (1, ap (λ y. solo_with code y s) e ∙ f, (o, tt))

  module _ (bounds : List ℕ) (fits : FitsCells code bounds) where
    -- The meaning's thread beside the machine's, with the words, the memories still to be found and those left so far.
    pub record Out (from : ℕ) (r : Sequential C) (s : Solo C) (words : List ℕ) (founds lefts : List (List ℕ)) : Type 0 where
      pub c : C
      pub text : List ℕ
      pub status : Status
      pub lock : ℕ
      pub even : lock % 2 ≡ 0
      pub sized : length words ≡ length bounds
      pub moved : (lock ≡ from) ⊎ (lock ≡ from + 2)
      pub meaning : r ≡ outside c founds lefts text status
      pub machine : s ≡ out_solo lock words c text status

    pub record In (from : ℕ) (r : Sequential C) (s : Solo C) (words : List ℕ) (founds lefts : List (List ℕ)) : Type 0 where
      pub c : C
      pub text : List ℕ
      pub saved : C
      pub first : ℕ
      pub snapshot : ℕ
      pub reads : List (ℕ × ℕ)
      pub writes : List (ℕ × ℕ)
      pub inner : List (Checkpoint C)
      pub kept : Bool
      pub even : snapshot % 2 ≡ 0
      pub sized : length words ≡ length bounds
      pub began : snapshot ≡ from
      pub distinct : IsDistinct writes
      pub marks : AllByRecursion (λ (k : Checkpoint C). IsDistinct k.writes) inner
      pub meaning : r ≡ inside c (inside_of code words saved writes inner kept) founds lefts text
      pub machine : s ≡ in_solo (lock_for snapshot kept) words c text (at_attempt saved first snapshot reads writes inner kept AtOperation)

    -- The machine comes to where the meaning is: still inside, or outside with one more memory left, which is the words.
    -- An attempt is open on the way.
    abbrev pub Comes : ℕ → Sequential C → Solo C → List ℕ → List (List ℕ) → List (List ℕ) → Type 0
    Comes from r s words founds lefts = (q : Solo C) × ReachInside s q × (In from r q words founds lefts ⊎ ((left : List ℕ) × Out from r q left founds (lefts ++ left ∷ [])))

    -- a commit's stores, from the word after front on
    stores : (saved c e : C) (text : List ℕ) (first snapshot : ℕ) (reads front rest : List (ℕ × ℕ)) (kept : Bool) (m : List ℕ) → code c ≡ Commit e
        → ReachInside (in_solo (snapshot + 1) (overlay m front) c text (at_attempt saved first snapshot reads (front ++ rest) [] kept (Stores (length front)))) (out_solo (snapshot + 2) (overlay m (front ++ rest)) e text Running)
    stores saved c e text first snapshot reads front [] kept m ex = once_inside _ _ (Commit e) ex (rw (append-nil front, get_end front) refl) tt
    stores saved c e text first snapshot reads front (p ∷ rest) kept m ex =
        then_inside _ (in_solo (snapshot + 1) (overlay m (front ++ p ∷ [])) c text (at_attempt saved first snapshot reads ((front ++ p ∷ []) ++ rest) [] kept (Stores (length (front ++ p ∷ []))))) _
        (once_inside _ _ (Commit e) ex (rw (get_seam front rest p, length_snoc front p, append_assoc front (p ∷ []) rest, overlay-append m front (p ∷ [])) refl) tt)
        (subst (λ l. ReachInside (in_solo (snapshot + 1) (overlay m (front ++ p ∷ [])) c text (at_attempt saved first snapshot reads ((front ++ p ∷ []) ++ rest) [] kept (Stores (length (front ++ p ∷ []))))) (out_solo (snapshot + 2) (overlay m l) e text Running)) (append_assoc front (p ∷ []) rest) (stores saved c e text first snapshot reads (front ++ p ∷ []) rest kept m ex))

    -- one instruction inside
    module _ (c : C) (text : List ℕ) (saved : C) (first snapshot : ℕ) (reads writes : List (ℕ × ℕ)) (inner : List (Checkpoint C)) (words : List ℕ) (founds lefts : List (List ℕ))
        (even : snapshot % 2 ≡ 0) (sized : length words ≡ length bounds) (distinct : IsDistinct writes) (marks : AllByRecursion (λ (k : Checkpoint C). IsDistinct k.writes) inner) where
      abbrev here : Bool → Solo C
      here kept = in_solo (lock_for snapshot kept) words c text (at_attempt saved first snapshot reads writes inner kept AtOperation)

      abbrev meant : Bool → Sequential C
      meant kept = inside c (inside_of code words saved writes inner kept) founds lefts text

      abbrev Does : Bool → Effect C → Type 0
      Does kept x = Comes snapshot (inside_step (meant kept) (inside_of code words saved writes inner kept) x) (here kept) words founds lefts

      -- a local step, or the answer to one access
      within : (kept : Bool) (r : Sequential C) (c' : C) (text' : List ℕ) (reads' writes' : List (ℕ × ℕ)) (inner' : List (Checkpoint C)) (kept' : Bool)
          → ReachInside (here kept) (in_solo (lock_for snapshot kept') words c' text' (at_attempt saved first snapshot reads' writes' inner' kept' AtOperation))
          → IsDistinct writes' → AllByRecursion (λ (k : Checkpoint C). IsDistinct k.writes) inner' → r ≡ inside c' (inside_of code words saved writes' inner' kept') founds lefts text' → Comes snapshot r (here kept) words founds lefts
      within kept r c' text' reads' writes' inner' kept' reach dis ms is = (
        _,
        reach,
        inl (record {
          c = c';
          text = text';
          saved = saved;
          first = first;
          snapshot = snapshot;
          reads = reads';
          writes = writes';
          inner = inner';
          kept = kept';
          even = even;
          sized = sized;
          began = refl;
          distinct = dis;
          marks = ms;
          meaning = is;
          machine = refl;
        }),
      )

      leaves : (kept : Bool) (r : Sequential C) (c' : C) (status : Status) (lock : ℕ) (left : List ℕ) → ReachInside (here kept) (out_solo lock left c' text status) → lock % 2 ≡ 0 → ((lock ≡ snapshot) ⊎ (lock ≡ snapshot + 2)) → length left ≡ length bounds → r ≡ outside c' founds (lefts ++ left ∷ []) text status → Comes snapshot r (here kept) words founds lefts
      leaves kept r c' status lock left reach ev up size is = (
        _,
        reach,
        inr (
          left,
          record {
            c = c';
            text = text;
            status = status;
            lock = lock;
            even = ev;
            sized = size;
            moved = up;
            meaning = is;
            machine = refl;
          },
        ),
      )

      unlogged : (kept : Bool) (ad : ℕ) (k : ℕ → C) → code c ≡ Read ad k → overlay_word ad writes ≡ None → Does kept (Read ad k)
      unlogged true ad k ex g = within true _ (k (slice_index words ad)) text reads writes inner true (once_inside _ _ (Read ad k) ex (rw g refl) tt) distinct marks
          (ap (λ v. inside (k v) (inside_of code words saved writes inner true) founds lefts text) (overlay-other words ad writes (not_written ad writes g)))
      unlogged false ad k ex g = within false _ (k (slice_index words ad)) text (reads ++ (ad, slice_index words ad) ∷ []) writes inner false
          (then_inside _ (in_solo snapshot words c text (at_attempt saved first snapshot reads writes inner false (ReadsLock (slice_index words ad)))) _
          (once_inside _ _ (Read ad k) ex (rw g refl) tt)
          (once_inside _ _ (Read ad k) ex (rw (eq-eqb snapshot snapshot refl) refl) tt)) distinct marks
          (ap (λ v. inside (k v) (inside_of code words saved writes inner false) founds lefts text) (overlay-other words ad writes (not_written ad writes g)))

      reading : (kept : Bool) (ad : ℕ) (k : ℕ → C) (o : Option ℕ) → code c ≡ Read ad k → overlay_word ad writes ≡ o → Does kept (Read ad k)
      reading kept ad k None ex g = unlogged kept ad k ex g
      reading kept ad k (Some v) ex g = within kept _ (k v) text reads writes inner kept (once_inside _ _ (Read ad k) ex (rw g refl) tt) distinct marks
          (ap (λ v'. inside (k v') (inside_of code words saved writes inner kept) founds lefts text) (overlay-written words ad v writes distinct (let lt = fits.reads c ad k ex in omega arith) g))

      committing : (kept : Bool) (e : C) (ls : List (Checkpoint C)) (ws : List (ℕ × ℕ)) → code c ≡ Commit e → inner ≡ ls → writes ≡ ws → Does kept (Commit e)
      committing kept e (l ∷ ls) ws ex ei ew = within kept _ e text reads writes ls kept (once_inside _ _ (Commit e) ex (rw ei refl) tt) distinct (let ms = rw ei at marks in ms.1) (rw ei refl)
      committing true e [] [] ex ei ew = leaves true _ e Running (snapshot + 2) words (once_inside _ _ (Commit e) ex (rw (ei, ew) refl) tt) (omega arith) (inr refl) sized (rw (ei, ew) refl)
      committing true e [] (p ∷ ps) ex ei ew = leaves true _ e Running (snapshot + 2) (overlay words (p ∷ ps))
          (then_inside _ (in_solo (snapshot + 1) (overlay words (p ∷ [])) c text (at_attempt saved first snapshot reads (p ∷ ps) [] true (Stores 1))) _
          (once_inside _ _ (Commit e) ex (rw (ei, ew, ei) refl) tt)
          (stores saved c e text first snapshot reads (p ∷ []) ps true words ex))
          (omega arith) (inr refl) (length-overlay words (p ∷ ps) ∙ sized) (rw (ei, ew) refl)
      committing false e [] [] ex ei ew = leaves false _ e Running snapshot words (once_inside _ _ (Commit e) ex (rw (ei, ew) refl) tt) even (inl refl) sized (rw (ei, ew) refl)
      committing false e [] (p ∷ ps) ex ei ew = leaves false _ e Running (snapshot + 2) (overlay words (p ∷ ps))
          (then_inside _ (in_solo (snapshot + 1) words c text (at_attempt saved first snapshot reads (p ∷ ps) [] false (Stores 0))) _
          (once_inside _ _ (Commit e) ex (rw (ei, ew, eq-eqb snapshot snapshot refl, ei, ew) refl) tt)
          (stores saved c e text first snapshot reads [] (p ∷ ps) false words ex))
          (omega arith) (inr refl) (length-overlay words (p ∷ ps) ∙ sized) (rw (ei, ew) refl)

      stays_at : (kept : Bool) (r : Sequential C) → r ≡ meant kept → Comes snapshot r (here kept) words founds lefts
      stays_at kept r is = within kept r c text reads writes inner kept (0, refl, tt) distinct marks is

      cancelling : (kept : Bool) (ls : List (Checkpoint C)) → code c ≡ Cancel → inner ≡ ls → Does kept Cancel
      cancelling kept (l ∷ ls) ex ei = within kept _ (after_cancel (code l.saved) l.saved) text reads l.writes ls kept (once_inside _ _ Cancel ex (rw ei refl) tt) (let ms = rw ei at marks in ms.0) (let ms = rw ei at marks in ms.1) (rw ei refl)
      cancelling true [] ex ei = stays_at true _ (rw ei refl)
      cancelling false [] ex ei = leaves false _ (after_cancel (code saved) saved) Running snapshot words (once_inside _ _ Cancel ex (rw ei refl) tt) even (inl refl) sized (rw ei refl)

      outer_cancelling : (levels : ℕ) (kept : Bool) (ls : List (Checkpoint C)) → code c ≡ CancelOuter levels → drop (levels - 1) inner ≡ ls → Does kept (CancelOuter levels)
      outer_cancelling levels kept (l ∷ ls) ex ei =
          let ms = subst (AllByRecursion (λ (k : Checkpoint C). IsDistinct k.writes)) ei (all_left (λ (k : Checkpoint C). IsDistinct k.writes) (levels - 1) inner marks) in
          within kept _ (after_cancel (code l.saved) l.saved) text reads l.writes ls kept (once_inside _ _ (CancelOuter levels) ex (rw ei refl) tt) ms.0 ms.1 (outer_cancelled code _ words saved writes inner (l ∷ ls) kept levels ei)
      outer_cancelling levels true [] ex ei = stays_at true _ (outer_cancelled code _ words saved writes inner [] true levels ei)
      outer_cancelling levels false [] ex ei = leaves false _ (after_cancel (code saved) saved) Running snapshot words (once_inside _ _ (CancelOuter levels) ex (rw ei refl) tt) even (inl refl) sized (outer_cancelled code _ words saved writes inner [] false levels ei)

      printing : (kept : Bool) (piece : List ℕ) (e : C) → code c ≡ Print piece e → Does kept (Print piece e)
      printing true piece e ex = within true _ e (text ++ piece) reads writes inner true (once_inside _ _ (Print piece e) ex refl tt) distinct marks refl
      printing false piece e ex = stays_at false _ refl

      taking : (kept : Bool) (e : C) → code c ≡ Irrevocable e → Does kept (Irrevocable e)
      taking true e ex = within true _ e text reads writes inner true (once_inside _ _ (Irrevocable e) ex refl tt) distinct marks refl
      taking false e ex = within false _ e text reads writes inner true (once_inside _ _ (Irrevocable e) ex (rw (eq-eqb snapshot snapshot refl) refl) tt) distinct marks refl

      trapping : (kept : Bool) (cause : Trap) → code c ≡ Traps cause → Does kept (Traps cause)
      trapping false cause ex = leaves false _ c (HasTrapped cause) snapshot words (once_inside _ _ (Traps cause) ex refl tt) even (inl refl) sized refl
      trapping true cause ex = leaves true _ c (HasTrapped cause) (snapshot + 2) words
          (then_inside _ (in_solo_with true (snapshot + 1) words c text (at_attempt saved first snapshot reads writes inner true AtOperation)) _
          (once_inside _ _ (Traps cause) ex refl tt) (once_inside _ _ (Traps cause) ex refl tt)) (omega arith) (inr refl) sized refl

      pub in_step : (kept : Bool) (x : Effect C) → code c ≡ x → Does kept x
      in_step kept (Pure e) ex = within kept _ e text reads writes inner kept (once_inside _ _ (Pure e) ex refl tt) distinct marks refl
      in_step kept (Print piece e) ex = printing kept piece e ex
      in_step kept (Begin e e') ex = within kept _ e text reads writes (record { saved = c; writes = writes } ∷ inner) kept (once_inside _ _ (Begin e e') ex refl tt) distinct (distinct, marks) (rw ex refl)
      in_step kept (Read ad k) ex = reading kept ad k (overlay_word ad writes) ex refl
      in_step kept (Write ad v e) ex = within kept _ e text reads (with_write ad v writes) inner kept (once_inside _ _ (Write ad v e) ex refl tt) (distinct-put ad v writes distinct) marks
          (ap (λ w. inside e (record { cancelled = after_cancel (code saved) saved; found = words; mem = w; inner = inners_of code words inner; kept = kept }) founds lefts text) (sym (overlay-put words ad v writes distinct)))
      in_step kept (Commit e) ex = committing kept e inner writes ex refl refl
      in_step kept Cancel ex = cancelling kept inner ex refl
      in_step kept (CancelOuter levels) ex = outer_cancelling levels kept (drop (levels - 1) inner) ex refl
      in_step kept (Irrevocable e) ex = taking kept e ex
      in_step kept (Traps cause) ex = trapping kept cause ex
      in_step kept End ex = stays_at kept _ refl

    -- what the meaning leaves only grows
    outside_grows : (r : Sequential C) (x : Effect C) → (more : List (List ℕ)) × ((outside_step r x).lefts ≡ r.lefts ++ more)
    outside_grows r (Begin c d) = begin r.founds
      where
        begin : (fs : List (List ℕ)) → (more : List (List ℕ)) × ((found_next r c d fs).lefts ≡ r.lefts ++ more)
        begin [] = ([], sym (append-nil r.lefts))
        begin (f ∷ fs) = ([], sym (append-nil r.lefts))
    outside_grows r x = ([], sym (append-nil r.lefts))

    cancel_grows : (r : Sequential C) (i : OpenTransaction C) (ls : List (InnerTransaction C)) (b : Bool) → (more : List (List ℕ)) × ((cancel_step r i ls b).lefts ≡ r.lefts ++ more)
    cancel_grows r i [] false = (i.found ∷ [], refl)
    cancel_grows r i [] true = ([], sym (append-nil r.lefts))
    cancel_grows r i (l ∷ ls) b = ([], sym (append-nil r.lefts))

    inside_grows : (r : Sequential C) (i : OpenTransaction C) (x : Effect C) → (more : List (List ℕ)) × ((inside_step r i x).lefts ≡ r.lefts ++ more)
    inside_grows r i (Commit c) = commit i.inner
      where
        commit : (ls : List (InnerTransaction C)) → (more : List (List ℕ)) × ((commit_step r i c ls).lefts ≡ r.lefts ++ more)
        commit [] = (i.mem ∷ [], refl)
        commit (l ∷ ls) = ([], sym (append-nil r.lefts))
    inside_grows r i Cancel = cancel_grows r i i.inner i.kept
    inside_grows r i (CancelOuter levels) = cancel_grows r i (drop (levels - 1) i.inner) i.kept
    inside_grows r i (Print piece c) = print i.kept
      where
        print : (b : Bool) → (more : List (List ℕ)) × ((print_step r piece c b).lefts ≡ r.lefts ++ more)
        print true = ([], sym (append-nil r.lefts))
        print false = ([], sym (append-nil r.lefts))
    inside_grows r i (Traps cause) = (i.found ∷ [], refl)
    inside_grows r i x = ([], sym (append-nil r.lefts))

    sequential_grows : (r : Sequential C) (wants : Bool) (s : Status) (o : Option (OpenTransaction C)) (x : Effect C) → (more : List (List ℕ)) × ((sequential_step r wants s o x).lefts ≡ r.lefts ++ more)
    sequential_grows r true s o x = ([], sym (append-nil r.lefts))
    sequential_grows r false Running None x = outside_grows r x
    sequential_grows r false Running (Some i) x = inside_grows r i x
    sequential_grows r false HasEnded o x = ([], sym (append-nil r.lefts))
    sequential_grows r false (HasTrapped cause) o x = ([], sym (append-nil r.lefts))

    steps_grow : (n : ℕ) (r : Sequential C) → (more : List (List ℕ)) × ((steps code n r).lefts ≡ r.lefts ++ more)
    steps_grow zero r = ([], sym (append-nil r.lefts))
    steps_grow (suc n) r =
        let a = sequential_grows r r.wants r.status r.inside (code r.configuration) in
        let b = steps_grow n (next code r) in
        (a.0 ++ b.0, b.1 ∙ ap (λ l. l ++ b.0) a.1 ∙ append_assoc r.lefts a.0 b.0)

    -- a thread that wants a memory stays
    wanting : (n : ℕ) (c : C) (founds lefts : List (List ℕ)) (text : List ℕ) (s : Status) → steps code n (record (outside c founds lefts text s) { wants = true }) ≡ record (outside c founds lefts text s) { wants = true }
    wanting zero c founds lefts text s = refl
    wanting (suc n) c founds lefts text s = wanting n c founds lefts text s

    -- the machine's thread is at the same end, and the words are the last memory left
    pub record IsThere (r : Sequential C) (s : Solo C) (words : List ℕ) : Type 0 where
      pub c : C
      pub lock : ℕ
      pub even : lock % 2 ≡ 0
      pub low : lock ≤ 2 * length r.lefts
      pub wants : r.wants ≡ false
      pub machine : s ≡ out_solo lock words c r.text r.status

    cons_same : (xs ys zs : List (List ℕ)) (y z : List ℕ) → xs ++ y ∷ ys ≡ xs ++ z ∷ zs → (y ≡ z) × (ys ≡ zs)
    cons_same [] ys zs y z e = (cc, cc)
    cons_same (x ∷ xs) ys zs y z e = cons_same xs ys zs y z (cc)

    -- the machine comes to the end of r
    abbrev Goal : Sequential C → Solo C → List ℕ → Type 0
    Goal r s words = (q : Solo C) × Reach s q × IsThere r q words

    further : (s q : Solo C) (r : Sequential C) (words : List ℕ) → Reach s q → Goal r q words → Goal r s words
    further s q r words a g = (g.0, then s q g.0 a g.1, g.2)

    nothing_more : (xs ys : List (List ℕ)) → xs ≡ xs ++ ys → ys ≡ []
    nothing_more [] ys e = sym e
    nothing_more (x ∷ xs) ys e = nothing_more xs ys (cc)

    abbrev OutGoal : ℕ → Type 0
    OutGoal n = (c : C) (text : List ℕ) (status : Status) (lock : ℕ) (words : List ℕ) (founds lefts ls : List (List ℕ)) → lock % 2 ≡ 0 → length words ≡ length bounds → lock ≤ 2 * length lefts
        → IsOverAt (steps code n (outside c founds lefts text status)) → (steps code n (outside c founds lefts text status)).lefts ≡ lefts ++ ls → Feeds words founds ls
        → Goal (steps code n (outside c founds lefts text status)) (out_solo lock words c text status) (last_of words ls)

    abbrev InGoal : ℕ → Type 0
    InGoal n = (from : ℕ) (r : Sequential C) (s : Solo C) (words l : List ℕ) (founds lefts ls : List (List ℕ)) → from ≤ 2 * length lefts → In from r s words founds lefts → IsOverAt (steps code n r) → (steps code n r).lefts ≡ lefts ++ l ∷ ls → Feeds l founds ls → Goal (steps code n r) s (last_of l ls)

    moved_low : (l from n : ℕ) → from + 2 ≤ 2 * n → (l ≡ from) ⊎ (l ≡ from + 2) → l ≤ 2 * n
    moved_low l from n low (inl e) = omega (arith, low, e)
    moved_low l from n low (inr e) = omega (arith, low, e)

    from_out : (n from : ℕ) → OutGoal n → (r : Sequential C) (s : Solo C) (words : List ℕ) (founds lefts ls : List (List ℕ)) → from + 2 ≤ 2 * length lefts → Out from r s words founds lefts → IsOverAt (steps code n r) → (steps code n r).lefts ≡ lefts ++ ls → Feeds words founds ls → Goal (steps code n r) s (last_of words ls)
    from_out n from out r s words founds lefts ls low o ov le f =
        let e = o.meaning in
        subst (λ x. Goal (steps code n x) s (last_of words ls)) (sym e)
        (subst (λ y. Goal (steps code n (outside o.c founds lefts o.text o.status)) y (last_of words ls)) (sym o.machine)
        (out o.c o.text o.status o.lock words founds lefts ls o.even o.sized (moved_low o.lock from (length lefts) low o.moved)
        (subst (λ x. IsOverAt (steps code n x)) e ov) (sym (ap (λ x. (steps code n x).lefts) e) ∙ le) f))

    -- one instruction outside
    out_step : (n : ℕ) → OutGoal n → InGoal n → (c : C) (text : List ℕ) (lock : ℕ) (words : List ℕ) (founds lefts ls : List (List ℕ)) → lock % 2 ≡ 0 → length words ≡ length bounds → lock ≤ 2 * length lefts → (x : Effect C) → code c ≡ x
        → IsOverAt (steps code n (outside_step (outside c founds lefts text Running) x)) → (steps code n (outside_step (outside c founds lefts text Running) x)).lefts ≡ lefts ++ ls → Feeds words founds ls
        → Goal (steps code n (outside_step (outside c founds lefts text Running) x)) (out_solo lock words c text Running) (last_of words ls)
    out_step n out inn c text lock words [] lefts ls ev size low (Begin e d) ex ov le f = absurd (subst (λ (r : Sequential C). IsOverAt r) (wanting n c [] lefts text Running) ov)
    out_step n out inn c text lock words (m ∷ ms) lefts [] ev size low (Begin e d) ex ov le f = absurd f
    out_step n out inn c text lock words (m ∷ ms) lefts (l ∷ ls) ev size low (Begin e d) ex ov le f =
        let s : Solo C = in_solo lock words e text (at_attempt c lock lock [] [] [] false AtOperation) in
        further _ s _ _ (once _ _ (Begin e d) ex (rw (eq-eqb (lock % 2) 0 ev) refl))
        (inn lock _ s words l ms lefts ls low (record {
          c = e;
          text = text;
          saved = c;
          first = lock;
          snapshot = lock;
          reads = [];
          writes = [];
          inner = [];
          kept = false;
          even = ev;
          sized = size;
          began = refl;
          distinct = tt;
          marks = tt;
          meaning = rw ex (ap (λ w. inside e (record { cancelled = d; found = w; mem = w; inner = []; kept = false }) ms lefts text) f.0);
          machine = refl;
        }) ov le f.1)
    out_step n out inn c text lock words founds lefts ls ev size low (Pure e) ex ov le f = further _ (out_solo lock words e text Running) _ _ (once _ _ (Pure e) ex refl) (out e text Running lock words founds lefts ls ev size low ov le f)
    out_step n out inn c text lock words founds lefts ls ev size low (Print piece e) ex ov le f = further _ (out_solo lock words e (text ++ piece) Running) _ _ (once _ _ (Print piece e) ex refl) (out e (text ++ piece) Running lock words founds lefts ls ev size low ov le f)
    out_step n out inn c text lock words founds lefts ls ev size low (Irrevocable e) ex ov le f = further _ (out_solo lock words e text Running) _ _ (once _ _ (Irrevocable e) ex refl) (out e text Running lock words founds lefts ls ev size low ov le f)
    out_step n out inn c text lock words founds lefts ls ev size low (Traps cause) ex ov le f = further _ (out_solo lock words c text (HasTrapped cause)) _ _ (once _ _ (Traps cause) ex refl) (out c text (HasTrapped cause) lock words founds lefts ls ev size low ov le f)
    out_step n out inn c text lock words founds lefts ls ev size low End ex ov le f = further _ (out_solo lock words c text HasEnded) _ _ (once _ _ End ex refl) (out c text HasEnded lock words founds lefts ls ev size low ov le f)
    out_step n out inn c text lock words founds lefts ls ev size low x ex ov le f = out c text Running lock words founds lefts ls ev size low ov le f

    -- the next instruction of a thread inside
    in_next : (n : ℕ) → OutGoal n → InGoal n → InGoal (suc n)
    in_next n out inn from r s words l founds lefts ls low i ov le f =
        subst (λ x. Goal (steps code (suc n) x) s (last_of l ls)) (sym i.meaning)
        (subst (λ y. Goal (steps code (suc n) (inside i.c (inside_of code words i.saved i.writes i.inner i.kept) founds lefts i.text)) y (last_of l ls)) (sym i.machine)
        (at (subst (λ v. Comes v r' (in_solo (lock_for i.snapshot i.kept) words i.c i.text (at_attempt i.saved i.first i.snapshot i.reads i.writes i.inner i.kept AtOperation)) words founds lefts) i.began (in_step i.c i.text i.saved i.first i.snapshot i.reads i.writes i.inner words founds lefts i.even i.sized i.distinct i.marks i.kept (code i.c) refl))))
      where
        r' : Sequential C
        r' = next code (inside i.c (inside_of code words i.saved i.writes i.inner i.kept) founds lefts i.text)

        ov' : IsOverAt (steps code n r')
        ov' = subst (λ x. IsOverAt (steps code n (next code x))) i.meaning ov

        le' : (steps code n r').lefts ≡ lefts ++ l ∷ ls
        le' = sym (ap (λ x. (steps code n (next code x)).lefts) i.meaning) ∙ le

        at : Comes from r' (in_solo (lock_for i.snapshot i.kept) words i.c i.text (at_attempt i.saved i.first i.snapshot i.reads i.writes i.inner i.kept AtOperation)) words founds lefts → Goal (steps code n r') (in_solo (lock_for i.snapshot i.kept) words i.c i.text (at_attempt i.saved i.first i.snapshot i.reads i.writes i.inner i.kept AtOperation)) (last_of l ls)
        at g = by g.2
          where
            by : In from r' g.0 words founds lefts ⊎ ((left : List ℕ) × Out from r' g.0 left founds (lefts ++ left ∷ [])) → Goal (steps code n r') (in_solo (lock_for i.snapshot i.kept) words i.c i.text (at_attempt i.saved i.first i.snapshot i.reads i.writes i.inner i.kept AtOperation)) (last_of l ls)
            by (inl j) = further _ g.0 _ _ (reaches _ g.0 g.1) (inn from r' g.0 words l founds lefts ls low j ov' le' f)
            by (inr o) =
                let grow = steps_grow n r' in
                let was : r'.lefts ≡ lefts ++ o.0 ∷ [] = ap (λ (x : Sequential C). x.lefts) o.1.meaning in
                let same : lefts ++ o.0 ∷ grow.0 ≡ lefts ++ l ∷ ls = sym (append_assoc lefts (o.0 ∷ []) grow.0) ∙ sym (ap (λ x. x ++ grow.0) was) ∙ sym grow.1 ∙ le' in
                let parts = cons_same lefts grow.0 ls o.0 l same in
                further _ g.0 _ _ (reaches _ g.0 g.1)
                (subst (λ w. Goal (steps code n r') g.0 (last_of w ls)) parts.0
                (from_out n from out r' g.0 o.0 founds (lefts ++ o.0 ∷ []) ls (let size = length_snoc lefts o.0 in omega (arith, low, size)) o.1 ov'
                (le' ∙ sym (append_assoc lefts (o.0 ∷ []) ls ∙ ap (λ w. lefts ++ w ∷ ls) parts.0))
                (subst (λ w. Feeds w founds ls) (sym parts.0) f)))

    both : (n : ℕ) → OutGoal n × InGoal n
    both zero = (
      λ c text status lock words founds lefts ls ev size low ov le f.
          (out_solo lock words c text status, (0, refl), record { c = c; lock = lock; even = ev; low = low; wants = refl; machine = ap (λ w. out_solo lock w c text status) (sym (ap (last_of words) (nothing_more lefts ls le))) }),
      λ from r s words l founds lefts ls low i ov le f. absurd (subst (λ (x : Sequential C). IsOverAt x) i.meaning ov),
    )
    both (suc n) = (out_next (both n).0 (both n).1, in_next n (both n).0 (both n).1)
      where
        out_next : OutGoal n → InGoal n → OutGoal (suc n)
        out_next out inn c text Running lock words founds lefts ls ev size low ov le f = out_step n out inn c text lock words founds lefts ls ev size low (code c) refl ov le f
        out_next out inn c text HasEnded lock words founds lefts ls ev size low ov le f = out c text HasEnded lock words founds lefts ls ev size low ov le f
        out_next out inn c text (HasTrapped cause) lock words founds lefts ls ev size low ov le f = out c text (HasTrapped cause) lock words founds lefts ls ev size low ov le f

    -- what is over stays, in the machine too
    solo_over : (n lock : ℕ) (words : List ℕ) (c : C) (text : List ℕ) (s : Status) → IsOver (end_of false s) → solo code n (out_solo lock words c text s) ≡ out_solo lock words c text s
    solo_over zero lock words c text s o = refl
    solo_over (suc n) lock words c text HasEnded o = solo_over n lock words c text HasEnded o
    solo_over (suc n) lock words c text (HasTrapped cause) o = solo_over n lock words c text (HasTrapped cause) o
    solo_over (suc n) lock words c text Running o = absurd o

    -- Where the meaning of a thread comes to its end over memories that it left itself, the machine's thread alone
    -- comes to the same end, with the same text and the last memory left, and stays there.
    pub alone : (c0 : C) (m0 : List ℕ) (n : ℕ) (fs ls : List (List ℕ)) → length m0 ≡ length bounds → Feeds m0 fs ls → (steps code n (start c0 fs)).lefts ≡ ls → IsOverAt (steps code n (start c0 fs))
        → (k : ℕ) × ((j : ℕ) → IsThere (steps code n (start c0 fs)) (solo code (k + j) (out_solo 0 m0 c0 [] Running)) (last_of m0 ls))
    alone c0 m0 n fs ls size f le ov =
        let g = (both n).0 c0 [] Running 0 m0 fs [] ls refl size (omega arith) ov le f in (
          g.1.0,
          λ j. record {
            c = g.2.c;
            lock = g.2.lock;
            even = g.2.even;
            low = g.2.low;
            wants = g.2.wants;
            machine = solo-add g.1.0 j (out_solo 0 m0 c0 [] Running) ∙ ap (solo code j) (g.1.1 ∙ g.2.machine) ∙ solo_over j g.2.lock (last_of m0 ls) g.2.c _ _ (subst (λ b. IsOver (end_of b (steps code n (start c0 fs)).status)) g.2.wants ov);
          },
        )
