-- A run of the source is the order of its steps.
use Rattle.std.proofs.Common.{◌≡◌, ◌≢◌, ◌==◌, ◌⊎◌, inl, inr, ℕ, zero, suc, ◌<◌, ◌≤◌, ◌+◌, true, false, cond, List, [], ◌∷◌, ◌++◌, map, length, take, drop, replicate, Some, slice_get, slice_set, slice_index_or, refl, sym, ap, ap₂, ◌∙◌, subst, arith, append_assoc, append-nil}
use Rattle.std.specs.List.{AllByRecursion}
use Rattle.std.proofs.lemmas.List.{map-append, length-append}
use Rattle.std.proofs.lemmas.List.Elements.{filter-append}
use Rattle.std.proofs.lemmas.Bool.Decides.{eqb_tells}
use Rattle.std.proofs.Math.Seq.{take-append_seam, drop-append_seam}
use Rattle.syntax.specs.Tree.{Program}
use Rattle.syntax.specs.Names.{initial_memory}
use Rattle.syntax.specs.declared.thread_end.Halt.TheVariants.{Trapped, Wants, Spent, Astray}
use Rattle.syntax.specs.Behaviours.{Memory, Outcome, ThreadEnd, Ended, Stopped, Step, IsChained, of_thread, founds_of, lefts_of, last_memory}
use Rattle.syntax.specs.Orders.{Progress, entries, entry, finds, if_wanting, last_left, outcomes}
use Rattle.syntax.specs.Threads.{thread, IsSourceRun}
use Rattle.syntax.specs.Laws.{IsOutcomePrefix, GoesOn, LeftAsManyAsFound, NeverMoreLeft}
use Rattle.syntax.specs.OrderLaws.{IsItsOrder, RunsAreOrders}
use Rattle.syntax.proofs.running.MoreFounds.{more_founds}

-- ---- the steps of one thread

head_own : (t : ℕ) (s : Step) (rest : List Step) → s.thread ≡ t → of_thread t (s ∷ rest) ≡ s ∷ of_thread t rest
head_own t s rest e = at (eqb_tells s.thread t)
  where
    at : ((s.thread == t) ≡ true) × (s.thread ≡ t) ⊎ ((s.thread == t) ≡ false) × (s.thread ≢ t) → cond (s.thread == t) (s ∷ of_thread t rest) (of_thread t rest) ≡ s ∷ of_thread t rest
    at (inl f) = rw f.0 refl
    at (inr f) = absurd (f.1 e)

head_other : (t : ℕ) (s : Step) (rest : List Step) → s.thread ≢ t → of_thread t (s ∷ rest) ≡ of_thread t rest
head_other t s rest e = at (eqb_tells s.thread t)
  where
    at : ((s.thread == t) ≡ true) × (s.thread ≡ t) ⊎ ((s.thread == t) ≡ false) × (s.thread ≢ t) → cond (s.thread == t) (s ∷ of_thread t rest) (of_thread t rest) ≡ of_thread t rest
    at (inl f) = absurd (e f.1)
    at (inr f) = rw f.0 refl

of_own : (t : ℕ) (pre : List Step) (s : Step) (rest : List Step) → s.thread ≡ t → of_thread t (pre ++ s ∷ rest) ≡ of_thread t pre ++ s ∷ of_thread t rest
of_own t pre s rest e = filter-append (λ (x : Step). x.thread == t) pre (s ∷ rest) ∙ ap (λ x. of_thread t pre ++ x) (head_own t s rest e)

pub of_other : (t : ℕ) (pre : List Step) (s : Step) → s.thread ≢ t → of_thread t (pre ++ s ∷ []) ≡ of_thread t pre
of_other t pre s e = filter-append (λ (x : Step). x.thread == t) pre (s ∷ []) ∙ ap (λ x. of_thread t pre ++ x) (head_other t s [] e) ∙ append-nil (of_thread t pre)

pub founds_own : (t : ℕ) (pre : List Step) (s : Step) (rest : List Step) → s.thread ≡ t → founds_of t (pre ++ s ∷ rest) ≡ founds_of t pre ++ s.found ∷ founds_of t rest
founds_own t pre s rest e = ap (λ ss. map (λ (x : Step). x.found) ss) (of_own t pre s rest e) ∙ map-append (λ (x : Step). x.found) (of_thread t pre) (s ∷ of_thread t rest)

pub lefts_own : (t : ℕ) (pre : List Step) (s : Step) (rest : List Step) → s.thread ≡ t → lefts_of t (pre ++ s ∷ rest) ≡ lefts_of t pre ++ s.left ∷ lefts_of t rest
lefts_own t pre s rest e = ap (λ ss. map (λ (x : Step). x.left) ss) (of_own t pre s rest e) ∙ map-append (λ (x : Step). x.left) (of_thread t pre) (s ∷ of_thread t rest)

pub as_many : (ss : List Step) → length (map (λ (x : Step). x.left) ss) ≡ length (map (λ (x : Step). x.found) ss)
as_many [] = refl
as_many (s ∷ ss) = ap suc (as_many ss)

-- ---- a step of a run

named_at : (threads : ℕ) (pre : List Step) (s : Step) (rest : List Step) → AllByRecursion (λ (x : Step). x.thread < threads) (pre ++ s ∷ rest) → s.thread < threads
named_at threads [] s rest a = a.0
named_at threads (x ∷ pre) s rest a = named_at threads pre s rest a.1

found_at : (m : Memory) (pre : List Step) (s : Step) (rest : List Step) → IsChained m (pre ++ s ∷ rest) → s.found ≡ last_memory m pre
found_at m [] s rest c = c.0
found_at m (x ∷ pre) s rest c = found_at x.left pre s rest c.1

pub last_after : (m : Memory) (pre : List Step) (s : Step) → last_memory m (pre ++ s ∷ []) ≡ s.left
last_after m [] s = refl
last_after m (x ∷ pre) s = last_after x.left pre s

-- ---- what threads from one on find

abbrev table : List Step → ℕ → ℕ → List (List Memory)
table run from zero = []
table run from (suc n) = founds_of from run ∷ table run (from + 1) n

table_new : (from n : ℕ) → table [] from n ≡ replicate n []
table_new from zero = refl
table_new from (suc n) = ap (λ x. [] ∷ x) (table_new (from + 1) n)

table_at : (run : List Step) (from n t : ℕ) → t < n → slice_index_or (table run from n) t [] ≡ founds_of (from + t) run
table_at run from zero t lt = absurd (omega (arith, lt))
table_at run from (suc n) zero lt = let e : from ≡ from + 0 = omega arith in ap (λ k. founds_of k run) e
table_at run from (suc n) (suc t) lt =
    let e : from + 1 + t ≡ from + suc t = omega arith in
    table_at run (from + 1) n t (omega (arith, lt)) ∙ ap (λ k. founds_of k run) e

table_other : (run : List Step) (s : Step) (from n : ℕ) → s.thread < from → table run from n ≡ table (run ++ s ∷ []) from n
table_other run s from zero lt = refl
table_other run s from (suc n) lt =
    ap₂ (λ x y. x ∷ y) (ap (λ ss. map (λ (x : Step). x.found) ss) (sym (of_other from run s (λ e. omega (arith, lt, e))))) (table_other run s (from + 1) n (omega (arith, lt)))

table_set : (run : List Step) (s : Step) (from n t : ℕ) → t < n → s.thread ≡ from + t → slice_set (table run from n) t (founds_of s.thread run ++ s.found ∷ []) ≡ table (run ++ s ∷ []) from n
table_set run s from zero t lt e = absurd (omega (arith, lt))
table_set run s from (suc n) zero lt e =
    let is : s.thread ≡ from = omega (arith, e) in
    ap₂ (λ x y. x ∷ y) (ap (λ k. founds_of k run ++ s.found ∷ []) is ∙ sym (founds_own from run s [] is)) (table_other run s (from + 1) n (omega (arith, is)))
table_set run s from (suc n) (suc t) lt e =
    ap₂ (λ x y. x ∷ y) (ap (λ ss. map (λ (x : Step). x.found) ss) (sym (of_other from run s (λ x. omega (arith, e, x))))) (table_set run s (from + 1) n t (omega (arith, lt)) (omega (arith, e)))

outcomes_at : (p : Program) (ticks : ℕ) (run : List Step) (from n t : ℕ) → t < n → slice_get (outcomes (thread p) ticks from (table run from n)) t ≡ Some (thread p (from + t) (founds_of (from + t) run) ticks)
outcomes_at p ticks run from zero t lt = absurd (omega (arith, lt))
outcomes_at p ticks run from (suc n) zero lt = let e : from ≡ from + 0 = omega arith in ap (λ k. Some (thread p k (founds_of k run) ticks)) e
outcomes_at p ticks run from (suc n) (suc t) lt =
    let e : from + 1 + t ≡ from + suc t = omega arith in
    outcomes_at p ticks run (from + 1) n t (omega (arith, lt)) ∙ ap (λ k. Some (thread p k (founds_of k run) ticks)) e

outcomes_count : (p : Program) (ticks : ℕ) (run : List Step) (from n : ℕ) → length (outcomes (thread p) ticks from (table run from n)) ≡ n
outcomes_count p ticks run from zero = refl
outcomes_count p ticks run from (suc n) = ap suc (outcomes_count p ticks run (from + 1) n)

-- ---- a thread on the first of the memories that it finds

pub is_wanting : (e : ThreadEnd) → (e ≡ Stopped Wants) ⊎ (e ≢ Stopped Wants)
is_wanting Ended = inr (λ x. cc)
is_wanting (Stopped Wants) = inl refl
is_wanting (Stopped Spent) = inr (λ x. cc)
is_wanting (Stopped Astray) = inr (λ x. cc)
is_wanting (Stopped (Trapped k)) = inr (λ x. cc)

same_front : {X : Type 0} (xs ys cs bs : List X) → length xs ≡ length ys → xs ++ cs ≡ ys ++ bs → xs ≡ ys
same_front xs ys cs bs l e = sym (take-append_seam xs cs) ∙ ap (take (length xs)) e ∙ ap (λ n. take n (ys ++ bs)) l ∙ take-append_seam ys bs

module _ (left_as_many : LeftAsManyAsFound) (never_more : NeverMoreLeft) (goes_on : GoesOn) where
  module _ (p : Program) (ticks t : ℕ) (whole : List Memory) (full : length (thread p t whole ticks).lefts ≡ length whole) where
    -- where it wants no memory it leaves no more with those that are to come
    too_few : (f x : List Memory) → whole ≡ f ++ x → (thread p t f ticks).end ≢ Stopped Wants → length f + length x ≤ length f
    too_few f x e n =
        let l : length (thread p t (f ++ x) ticks).lefts ≡ length (f ++ x) = subst (λ w. length (thread p t w ticks).lefts ≡ length w) e full in
        let k : length (thread p t f ticks).lefts ≡ length (f ++ x) = ap (λ (o : Outcome). length o.lefts) (sym (more_founds p t f x ticks n)) ∙ l in
        let s : length (f ++ x) ≡ length f + length x = length-append f x in
        let b : length (thread p t f ticks).lefts ≤ length f = never_more p t f ticks in
        omega (arith, k, s, b)

    wanting : (f : List Memory) (m : Memory) (x : List Memory) → whole ≡ f ++ m ∷ x → (thread p t f ticks).end ≡ Stopped Wants
    wanting f m x e = at (is_wanting (thread p t f ticks).end)
      where
        at : ((thread p t f ticks).end ≡ Stopped Wants) ⊎ ((thread p t f ticks).end ≢ Stopped Wants) → (thread p t f ticks).end ≡ Stopped Wants
        at (inl w) = w
        at (inr n) = let l : length f + suc (length x) ≤ length f = too_few f (m ∷ x) e n in absurd (omega (arith, l))

    filled : (f x : List Memory) → whole ≡ f ++ x → length (thread p t f ticks).lefts ≡ length f
    filled f x e = at (is_wanting (thread p t f ticks).end)
      where
        at : ((thread p t f ticks).end ≡ Stopped Wants) ⊎ ((thread p t f ticks).end ≢ Stopped Wants) → length (thread p t f ticks).lefts ≡ length f
        at (inl w) = left_as_many p t f ticks w
        at (inr n) =
            let l : length (thread p t (f ++ x) ticks).lefts ≡ length (f ++ x) = subst (λ w. length (thread p t w ticks).lefts ≡ length w) e full in
            let k : length (thread p t f ticks).lefts ≡ length (f ++ x) = ap (λ (o : Outcome). length o.lefts) (sym (more_founds p t f x ticks n)) ∙ l in
            let s : length (f ++ x) ≡ length f + length x = length-append f x in
            let b : length (thread p t f ticks).lefts ≤ length f = never_more p t f ticks in
            omega (arith, k, s, b)

    first_lefts : (f x ls ms : List Memory) → whole ≡ f ++ x → (thread p t whole ticks).lefts ≡ ls ++ ms → length ls ≡ length f → (thread p t f ticks).lefts ≡ ls
    first_lefts f x ls ms e is l =
        let b : IsOutcomePrefix (thread p t f ticks) (thread p t (f ++ x) (ticks + 0)) = goes_on p t f x ticks 0 in
        let n : ticks + 0 ≡ ticks = omega arith in
        same_front (thread p t f ticks).lefts ls b.further ms (filled f x e ∙ sym l)
        (sym b.lefts ∙ ap (λ k. (thread p t (f ++ x) k).lefts) n ∙ ap (λ w. (thread p t w ticks).lefts) (sym e) ∙ is)

  module _ (p : Program) (threads ticks : ℕ) (run : List Step) (is_run : IsSourceRun p threads run) (each : (t : ℕ) → t < threads → (thread p t (founds_of t run) ticks).lefts ≡ lefts_of t run) where
    abbrev m0 : Memory
    m0 = initial_memory p

    abbrev after : List Step → Progress
    after pre = record { memory = last_memory m0 pre; founds = table pre 0 threads }

    -- an entry of the order makes the run's next step
    one_entry : (pre : List Step) (s : Step) (rest : List Step) → run ≡ pre ++ s ∷ rest → entry (thread p) ticks s.thread (after pre) ≡ after (pre ++ s ∷ [])
    one_entry pre s rest e =
        let f : List Memory = founds_of s.thread pre in
        let l : List Memory = lefts_of s.thread pre in
        let lt : s.thread < threads = named_at threads pre s rest (subst (AllByRecursion (λ (x : Step). x.thread < threads)) e is_run.named) in
        let m : s.found ≡ last_memory m0 pre = found_at m0 pre s rest (subst (IsChained m0) e is_run.chained) in
        let fs : founds_of s.thread run ≡ f ++ s.found ∷ founds_of s.thread rest = ap (founds_of s.thread) e ∙ founds_own s.thread pre s rest refl in
        let ls : lefts_of s.thread run ≡ l ++ s.left ∷ lefts_of s.thread rest = ap (lefts_of s.thread) e ∙ lefts_own s.thread pre s rest refl in
        let mine : (thread p s.thread (founds_of s.thread run) ticks).lefts ≡ lefts_of s.thread run = each s.thread lt in
        let full : length (thread p s.thread (founds_of s.thread run) ticks).lefts ≡ length (founds_of s.thread run) = ap length mine ∙ as_many (of_thread s.thread run) in
        let w : (thread p s.thread f ticks).end ≡ Stopped Wants = wanting p ticks s.thread (founds_of s.thread run) full f s.found (founds_of s.thread rest) fs in
        let now_left : (thread p s.thread f ticks).lefts ≡ l =
        first_lefts p ticks s.thread (founds_of s.thread run) full f (s.found ∷ founds_of s.thread rest) l (s.left ∷ lefts_of s.thread rest) fs (mine ∙ ls) (as_many (of_thread s.thread pre)) in
        let k : length (l ++ s.left ∷ []) ≡ length (f ++ s.found ∷ []) =
        (let a : length (l ++ s.left ∷ []) ≡ length l + 1 = length-append l (s.left ∷ []) in
        let b : length (f ++ s.found ∷ []) ≡ length f + 1 = length-append f (s.found ∷ []) in
        let c : length l ≡ length f = as_many (of_thread s.thread pre) in
        omega (arith, a, b, c)) in
        let then_left : (thread p s.thread (f ++ s.found ∷ []) ticks).lefts ≡ l ++ s.left ∷ [] =
        first_lefts p ticks s.thread (founds_of s.thread run) full (f ++ s.found ∷ []) (founds_of s.thread rest) (l ++ s.left ∷ []) (lefts_of s.thread rest)
        (fs ∙ sym (append_assoc f (s.found ∷ []) (founds_of s.thread rest)))
        (mine ∙ ls ∙ sym (append_assoc l (s.left ∷ []) (lefts_of s.thread rest))) k in
        let z : 0 + s.thread ≡ s.thread = omega arith in
        let here : slice_index_or (table pre 0 threads) s.thread [] ≡ f = table_at pre 0 threads s.thread lt ∙ ap (λ n. founds_of n pre) z in
        ap (λ g. if_wanting (thread p) ticks (thread p s.thread g ticks).end (finds (thread p) ticks s.thread g (after pre)) (after pre)) here
        ∙ ap (λ end. if_wanting (thread p) ticks end (finds (thread p) ticks s.thread f (after pre)) (after pre)) w
        ∙ ap (λ x. record {
          memory = last_left (last_memory m0 pre) (drop (length (thread p s.thread f ticks).lefts) (thread p s.thread (f ++ x ∷ []) ticks).lefts);
          founds = slice_set (table pre 0 threads) s.thread (f ++ x ∷ []);
        }) (sym m)
        ∙ ap₂ (λ a b. record { memory = a; founds = b })
        (ap₂ (λ a b. last_left (last_memory m0 pre) (drop (length a) b)) now_left then_left
        ∙ ap (last_left (last_memory m0 pre)) (drop-append_seam l (s.left ∷ []))
        ∙ sym (last_after m0 pre s))
        (table_set pre s 0 threads s.thread lt (sym z))

    follow : (pre post : List Step) → pre ++ post ≡ run → entries (thread p) ticks (map (λ (s : Step). s.thread) post) (after pre) ≡ after run
    follow pre [] e = ap after (sym (append-nil pre) ∙ e)
    follow pre (s ∷ rest) e =
        ap (entries (thread p) ticks (map (λ (s : Step). s.thread) rest)) (one_entry pre s rest (sym e))
        ∙ follow (pre ++ s ∷ []) rest (append_assoc pre (s ∷ []) rest ∙ e)

    last : entries (thread p) ticks (map (λ (s : Step). s.thread) run) (record { memory = m0; founds = replicate threads [] }) ≡ after run
    last = ap (λ fs. entries (thread p) ticks (map (λ (s : Step). s.thread) run) (record { memory = m0; founds = fs })) (sym (table_new 0 threads)) ∙ follow [] run refl

    is_its_order : IsItsOrder p threads ticks run
    is_its_order = record {
      memory = ap (λ (x : Progress). x.memory) last;
      each = λ t lt.
          let z : 0 + t ≡ t = omega arith in
          ap (λ (x : Progress). slice_get (outcomes (thread p) ticks 0 x.founds) t) last
          ∙ outcomes_at p ticks run 0 threads t lt ∙ ap (λ k. Some (thread p k (founds_of k run) ticks)) z;
      count = ap (λ (x : Progress). length (outcomes (thread p) ticks 0 x.founds)) last ∙ outcomes_count p ticks run 0 threads;
    }

  pub runs_are_orders : RunsAreOrders
  runs_are_orders p threads ticks run is_run each = is_its_order p threads ticks run is_run each
