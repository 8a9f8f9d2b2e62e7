-- What the workers of a hall add up to when it is closed.
use Rattle.std.proofs.Common.{drop, ◌≡◌, ◌≢◌, ◌⊎◌, inl, inr, ⊎_elim, ℕ, zero, suc, ◌+◌, ◌<◌, ◌≤◌, true, false, List, [], ◌∷◌, ◌++◌, Some, length, length-append, replicate, get_or, set, slice_get, refl, sym, ap, ◌∙◌, subst, arith}
use Rattle.std.specs.Prelude.{Option, nat_lt, unwrap_or}
use Rattle.std.proofs.lemmas.Option.{slice_get_within}
use mathlib.Core.Option.{some, some-ne-none, some-injective}
use lib.ListN.{get_elem?}
use Rattle.atomic_table.proofs.Lists.{at_index}
use Rattle.atomic_table.specs.Seated.{TableId}
use Rattle.norec_core.specs.Attempts.{Attempt}
use Rattle.machine.specs.Answered.{Heard}
use Rattle.machine.specs.Explained.{HasLock}
use Rattle.bytecode.specs.Code.{Configuration}
use Rattle.machine.specs.Worlds.{Part, World}
use Rattle.machine.proofs.answers.Reached.{unheld}
use Rattle.machine.proofs.runs.Programs.{explained_source}
use Rattle.machine.proofs.steps.Worlds.{get-set_other, get-set_same}
use Rattle.bytecode.specs.Code.{effect}
use Rattle.bytecode.specs.Beginning.{beginning}
use Rattle.machine.specs.States.{attempt_has_lock, thread_has_lock}
use Rattle.bytecode.specs.Initial.{initial_of}
use Rattle.bytecode.specs.Sequential.{meaning}
use Rattle.bytecode.specs.Valid.{bounds_of}
use Rattle.bytecode.proofs.Fits.{fits_cells}
use Rattle.shared_words.proofs.Codes.{initial_fits}
use Rattle.shared_words.specs.Setup.{IsPrefix, IsTraceOf, IsWorldOf, Setup}
use Rattle.shared_words.proofs.Traces.{begins_on, begins_self, world_is}
use Rattle.shared_words.proofs.Traces as traces
use Rattle.shared_words.proofs.InTime.{keeps_time}
use Rattle.workers.specs.Closing.{HaveSeen}
use Rattle.workers.specs.declared.worker.Worker.{Worker}
use Rattle.workers.specs.declared.close.Finished.{Finished}
use Rattle.shared_words.specs.Views.{Among, ViewPart, parts_in, parts_of}
use Rattle.shared_words.specs.Rule.{Fits, LeavesCells, SeatView}
use Rattle.workers.specs.Workers.{AreWorkersOf, IsWorkerOf}
use Rattle.workers.specs.Closing.{AreThere, Closes, finished_back}
use Rattle.workers.specs.inner.Closing.{parts_back}
use Rattle.shared_words.proofs.Keeps.{at_most_one}
use Rattle.shared_words.proofs.Parts.{one_if, parts_in-at, parts_of-append}
use Rattle.shared_words.proofs.Saying.{drops_say, runs_say}

split : (k i : ℕ) → k < i + 1 → (k < i) ⊎ (k ≡ i)
split zero zero lt = inr refl
split zero (suc i) lt = inl (omega arith)
split (suc k) zero lt = absurd (omega arith)
split (suc k) (suc i) lt = ⊎_elim (λ h. inl (omega arith)) (λ h. inr (ap suc h)) (split k i (omega arith))

pub below_more : (P : ℕ → Type 0) (i : ℕ) → ((n : ℕ) → n < i → P n) → P i → (n : ℕ) → n < i + 1 → P n
below_more P i below here n lt = ⊎_elim (λ (less : n < i). below n less) (λ (same : n ≡ i). subst P (sym same) here) (split n i lt)

module _ {A : Type 0} where
  pub index_below : (l : List A) (k : ℕ) (a : A) → get_elem? l k ≡ some a → k < length l
  index_below [] k a e = absurd (some-ne-none a (sym e))
  index_below (x ∷ xs) zero a e = omega arith
  index_below (x ∷ xs) (suc k) a e = let h = index_below xs k a e in omega arith

  pub item_at : (l ds : List A) (i : ℕ) (x : A) → ds ≡ l → i < length ds → x ≡ get_or ds i x → get_elem? l i ≡ some x
  item_at l ds i x e h is = sym (ap (λ (m : List A). get_elem? m i) e) ∙ at_index ds i x h is

  -- what holds of each element below i, and of element i
  pub each_more : (P : A → Type 0) (l ds : List A) (i : ℕ) (x : A) → ds ≡ l → i < length ds → x ≡ get_or ds i x → ((k : ℕ) (a : A) → k < i → get_elem? l k ≡ some a → P a) → P x → (k : ℕ) (a : A) → k < i + 1 → get_elem? l k ≡ some a → P a
  each_more P l ds i x e h is below here k a lt at = ⊎_elim
      (λ (less : k < i). below k a less at)
      (λ (same : k ≡ i). subst P (some-injective x a (sym (item_at l ds i x e h is) ∙ (sym (ap (get_elem? l) same) ∙ at))) here)
      (split k i lt)

  pub each_of : (P : A → Type 0) (l ds : List A) (i : ℕ) → ds ≡ l → length ds ≤ i → ((k : ℕ) (a : A) → k < i → get_elem? l k ≡ some a → P a) → (k : ℕ) (a : A) → get_elem? l k ≡ some a → P a
  each_of P l ds i e h below k a at = let lt = index_below l k a at in let len : length ds ≡ length l = ap length e in below k a (omega arith) at

among_front : (q : ViewPart) (ps qs : List ViewPart) → Among q ps → Among q (ps ++ qs)
among_front q [] qs a = absurd a
among_front q (r ∷ ps) qs (inl e) = inl e
among_front q (r ∷ ps) qs (inr a) = inr (among_front q ps qs a)

among_back : (q : ViewPart) (ps qs : List ViewPart) → Among q qs → Among q (ps ++ qs)
among_back q [] qs a = a
among_back q (r ∷ ps) qs a = inr (among_back q ps qs a)

not_both : true ≡ false → ⊥
not_both e = cc

has_it : (p : Part Configuration) (a : Attempt Configuration) → HasLock p a → thread_has_lock p.thread ≡ true
has_it p a has = ap attempt_has_lock has.0 ∙ has.1

module _ {A : Type 0} (z : TableId) (key : Setup) where
  count_front : (x : Worker A) (is : IsWorkerOf z key x) (xs : List (Worker A)) (n : ℕ) → parts_of n (parts_back (x ∷ xs)) ≡ parts_of n (parts_back xs) + parts_of n (is.1.part ∷ [])
  count_front x is xs n = parts_of-append n (parts_back xs) x.seat.me.0 ∙ ap (λ (k : ℕ). parts_of n (parts_back xs) + k) (ap (λ m. parts_of n m.0) is.1.sits)

  -- what is there stays, where the part of another thread changes
  there_stays : (w : World Configuration) (heard : List (List Heard)) (n : ℕ) (now : Part Configuration) (xs : List (Worker A)) (all : AreWorkersOf z key xs) → parts_of n (parts_back xs) ≡ 0 → AreThere z key w heard xs all → AreThere z key (record w { parts = set w.parts n now }) heard xs all
  there_stays w heard n now [] all none t = tt
  there_stays w heard n now (x ∷ xs) all none t =
      let works = all.0.1 in
      let c = count_front x all.0 xs n in
      let apart : x.number ≢ n = (λ e. let o = one_if works.part.number n (works.number_is ∙ e) in omega arith) in
      (get-set_other w.parts n x.number now apart ∙ t.0, t.1, there_stays w heard n now xs all.1 (omega arith) t.2)

  module _ (ts : List ℕ) (w : World Configuration) (heard : List (List Heard)) (is_trace : IsTraceOf key ts w heard) where
    -- the world once each worker's last local steps are made
    pub record LastStepsMade (ws : List (Worker A)) (all : AreWorkersOf z key ws) : Type 0 where
      pub parts : List (Part Configuration)
      pub trace : List ℕ
      pub reached : IsTraceOf key trace (record w { parts = parts }) heard
      pub longer : IsPrefix ts trace
      pub there : AreThere z key (record w { parts = parts }) heard ws all
      pub others : (n : ℕ) → parts_of n (parts_back ws) ≡ 0 → slice_get parts n ≡ slice_get w.parts n

    all_close : (ws : List (Worker A)) (all : AreWorkersOf z key ws) → ((n : ℕ) → parts_of n (parts_back ws) ≤ 1) → ((p : ViewPart) → Among p (parts_back ws) → Fits key ts w heard p) → LastStepsMade ws all
    all_close [] all once fits = record { parts = w.parts; trace = ts; reached = is_trace; longer = begins_self ts; there = tt; others = λ n none. refl }
    all_close (x ∷ xs) all once fits =
        let works = all.0.1 in
        let p : ViewPart = works.part in
        let view : x.seat.me.0 ≡ p ∷ [] = ap (λ m. m.0) works.sits in
        let rest = all_close xs all.1 (λ n. let o = once n in let a = count_front x all.0 xs n in omega arith) (λ q a. fits q (among_front q (parts_back xs) x.seat.me.0 a)) in
        let mine : Fits key ts w heard p = fits p (among_back p (parts_back xs) x.seat.me.0 (subst (Among p) (sym view) (inl refl))) in
        let alone : parts_of p.number (parts_back xs) ≡ 0 = (
        let o = once p.number in
        let a = count_front x all.0 xs p.number in
        let one = one_if p.number p.number refl in omega arith
        ) in
        let at : slice_get rest.parts p.number ≡ Some p.part = rest.others p.number alone ∙ mine.part in
        record {
          parts = set rest.parts p.number works.now;
          trace = rest.trace ++ replicate works.pauses p.number;
          longer = begins_on ts rest.trace (rest.trace ++ replicate works.pauses p.number) rest.longer (replicate works.pauses p.number, refl);
          reached = traces.pauses key works.pauses rest.trace p.number p.part works.now p.heard w.lock w.words rest.parts heard rest.reached at mine.answers works.paused_to;
          there = (
            ap (slice_get (set rest.parts p.number works.now)) (sym works.number_is) ∙ get-set_same rest.parts p.number works.now p.part at,
            ap (slice_get heard) (sym works.number_is) ∙ mine.answers,
            there_stays (record w { parts = rest.parts }) heard p.number works.now xs all.1 alone rest.there,
          );
          others = λ n none.
              let a = count_front x all.0 xs n in
              let ne : n ≢ p.number = (λ e. let one = one_if p.number n (sym e) in omega arith) in
              get-set_other rest.parts p.number n works.now ne ∙ rest.others n (omega arith);
        }

  have_seen : (ts trace : List ℕ) (w : World Configuration) (heard : List (List Heard)) → IsPrefix ts trace → (ws : List (Worker A)) (all : AreWorkersOf z key ws) → ((p : ViewPart) → Among p (parts_back ws) → Fits key ts w heard p) → HaveSeen z key trace ws all
  have_seen ts trace w heard longer [] all fits = tt
  have_seen ts trace w heard longer (x ∷ xs) all fits =
      let works = all.0.1 in
      let view : x.seat.me.0 ≡ works.part ∷ [] = ap (λ m. m.0) works.sits in
      let mine : Fits key ts w heard works.part = fits works.part (among_back works.part (parts_back xs) x.seat.me.0 (subst (Among works.part) (sym view) (inl refl))) in
      (begins_on works.part.seen ts trace mine.seen longer, have_seen ts trace w heard longer xs all.1 (λ q a. fits q (among_front q (parts_back xs) x.seat.me.0 a)))

  -- a worker that is there has its thread there
  thread_there : (w : World Configuration) (heard : List (List Heard)) (ws : List (Worker A)) (all : AreWorkersOf z key ws) → AreThere z key w heard ws all → (k : ℕ) (x : Worker A) → get_elem? ws k ≡ some x → (p : Part Configuration) × (slice_get w.parts x.number ≡ Some p) × (p.thread ≡ x.thread.thread)
  thread_there w heard [] all t k x e = absurd (some-ne-none x (sym e))
  thread_there w heard (y ∷ ys) all t zero x e =
      subst (λ (v : Worker A). (p : Part Configuration) × (slice_get w.parts v.number ≡ Some p) × (p.thread ≡ v.thread.thread)) (some-injective y x e) (all.0.1.now, t.0, all.0.1.thread_is)
  thread_there w heard (y ∷ ys) all t (suc k) x e = thread_there w heard ys all.1 t.2 k x e

  -- and where the worker's does not have the lock, that one does not
  free_thread : (parts : List (Part Configuration)) (x : Worker A) (t : ℕ) (p q : Part Configuration) → slice_get parts x.number ≡ Some q → q.thread ≡ x.thread.thread → x.number ≡ t → slice_get parts t ≡ Some p → thread_has_lock x.thread.thread ≡ false → thread_has_lock p.thread ≡ false
  free_thread parts x t p q at is number here free =
      let both : Some q ≡ Some p = sym at ∙ ap (slice_get parts) number ∙ here in
      let same : q ≡ p = ap (λ (o : Option (Part Configuration)). unwrap_or o p) both in
      ap (λ (r : Part Configuration). thread_has_lock r.thread) (sym same) ∙ ap thread_has_lock is ∙ free

  pub closes : (id : ℕ) (m : SeatView) (ws : List (Worker A)) → m.0 ≡ parts_back ws → (all : AreWorkersOf z key ws) → (cells : List ℕ) → LeavesCells key id m cells → (threads : List (Finished A)) → threads ≡ finished_back ws
      → Closes z key ws all cells threads
  closes id m ws same all cells left threads finished =
      let views = left.1 in
      let rule = left.2 in
      let at : get_elem? views id ≡ some (parts_back ws) = subst (λ (v : List ViewPart). get_elem? views id ≡ some v) same left.3 in
      let s = all_close rule.trace rule.world rule.heard rule.is_trace ws all (λ n. let a = parts_in-at n views id (parts_back ws) at in let o = at_most_one (nat_lt n key.threads) (parts_in n views) (rule.once n) in omega arith) (λ p a. rule.fits id (parts_back ws) p at a) in
      let reached : IsWorldOf key (record rule.world { parts = s.parts }) rule.heard = world_is key s.trace (record rule.world { parts = s.parts }) rule.heard s.reached in
      let r = runs_say key (record rule.world { parts = s.parts }) rule.heard rule.valid reached in
      record {
        world = record rule.world { parts = s.parts };
        heard = rule.heard;
        trace = s.trace;
        is_trace = s.reached;
        seen = have_seen rule.trace s.trace rule.world rule.heard s.longer ws all (λ p a. rule.fits id (parts_back ws) p at a);
        time = keeps_time key s.trace (record rule.world { parts = s.parts }) rule.heard rule.valid s.reached;
        answered = reached;
        cells_are = (let e : (left.0 ∷ cells) ≡ rule.world.lock ∷ rule.world.words = rule.words_are in sym (ap (λ (l : List ℕ). drop 1 l) e));
        there = s.there;
        threads_are = finished;
        runs = r;
        programs = λ does means few es m. explained_source (bounds_of key.code) (initial_of key.code) (initial_fits key.code) (meaning (effect key.code) (beginning key.code)) does means key.threads few (record rule.world { parts = s.parts }) es (r.each es m);
        drops = drops_say key (record rule.world { parts = s.parts }) rule.heard rule.valid reached;
        even = λ here free. unheld (effect key.code) (beginning key.code) (bounds_of key.code) (initial_of key.code) (initial_fits key.code) (fits_cells key.code rule.valid) key.threads (record rule.world { parts = s.parts }) rule.heard reached
            (λ t p a e has.
            let count = (r.each r.entries r.is_merge).count in
            let below = slice_get_within s.parts t p e in
            let h = here t (omega arith) in
            let g = thread_there (record rule.world { parts = s.parts }) rule.heard ws all s.there h.0 h.1 h.2 in
            let no = free_thread s.parts h.1 t p g.0 g.1 g.2 h.3 e (free h.0 h.1 h.2) in
            let yes = has_it p a has in
            absurd (not_both (sym yes ∙ no)));
      }

pub worker_in : {A : Type 0} (z : TableId) (key : Setup) (ws xs ys : List (Worker A)) (w : Worker A) → AreWorkersOf z key ws → ws ≡ xs ++ w ∷ ys → IsWorkerOf z key w
worker_in {A = A} z key ws xs ys w all e = inside xs (subst (AreWorkersOf z key) e all)
  where
    inside : (xs : List (Worker A)) → AreWorkersOf z key (xs ++ w ∷ ys) → IsWorkerOf z key w
    inside [] a = a.0
    inside (x ∷ xs) a = inside xs a.1

-- there is a word more than there are cells
pub has_word : (words cells : ℕ) → words ≡ cells + 1 → 0 < words
has_word words cells e = omega arith

-- there is room for the first one, and for each one that is left
pub room_first : {X : Type 0} (items : List X) (len workers capacity : ℕ) → items ≡ [] → len ≡ length items → 0 < workers → workers ≤ capacity → len < capacity
room_first items len workers capacity none e lt le = let n = ap length none in omega arith

pub room_for_one : (threads workers left capacity : ℕ) → workers ≡ left + 1 → threads + workers ≤ capacity → threads < capacity
room_for_one threads workers left capacity e le = omega arith

pub room_for_all : {X : Type 0} (items : List X) (len workers capacity : ℕ) → items ≡ [] → len ≡ length items → workers ≤ capacity → len + workers ≤ capacity
room_for_all items len workers capacity none e le = let n = ap length none in omega arith

-- so many are left
pub one_fewer : {X : Type 0} (xs ys : List X) (x : X) → xs ≡ ys ++ x ∷ [] → length ys < length xs
one_fewer xs ys x e = let l = ap length e ∙ length-append ys (x ∷ []) in omega arith

pub counts_one_fewer : {X : Type 0} (xs ys : List X) (x : X) (n m : ℕ) → xs ≡ ys ++ x ∷ [] → n ≡ length xs → m ≡ length ys → n ≡ m + 1
counts_one_fewer xs ys x n m e a b = let l = ap length e ∙ length-append ys (x ∷ []) in omega arith

-- where one more is pushed and one fewer is left, there is room still
pub room_left : (threads more workers left capacity : ℕ) {capacity' : ℕ} → more ≡ threads + 1 → capacity' ≡ capacity → workers ≡ left + 1 → threads + workers ≤ capacity → more + left ≤ capacity'
room_left threads more workers left capacity a b c d = omega arith
