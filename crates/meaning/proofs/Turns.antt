-- Threads that take turns.
use Rattle.std.proofs.Common.{◌≡◌, ◌≢◌, ℕ, zero, suc, ◌+◌, ◌-◌, ◌<◌, ◌≤◌, List, [], ◌∷◌, ◌++◌, map, length, get_or, set, drop, take, replicate, refl, sym, ap, ◌∙◌, subst, ◌⊎◌, inl, inr, arith, Vec, Result, Ok, Err, OnOk, append_assoc}
use Rattle.std.proofs.lemmas.List.{map-append, length-map, at_drop_more, take-append-drop, drop-append-le, length-take-le, replicate-append-replicate, length-replicate, set-get_or, get_or-map, map-set}
use Rattle.std.proofs.lemmas.Simd.{map-map}
use Rattle.std.proofs.lemmas.Grind.{common_steps}
use Rattle.syntax.specs.declared.thread_end.Halt.TheVariants.{Wants}
use Rattle.syntax.specs.Names.{initial_memory}
use Rattle.syntax.specs.Behaviours.{Memory, Behaviour, ThreadEnd, Stopped}
use Rattle.syntax.specs.Orders.{Progress, last_left, finds, if_wanting, entry, entries, outcomes, in_order}
use Rattle.syntax.specs.Threads.{first_state, thread, worker_run}
use Rattle.meaning.specs.declared.outcome.SourceOutcome.{SourceOutcome}
use Rattle.meaning.specs.declared.orders.Standing.{Standing}
use Rattle.meaning.specs.declared.standing.StandingThread.{StandingThread}
use Rattle.meaning.specs.declared.standing.StoppedThread.{StoppedThread}
use Rattle.meaning.specs.Outcomes.{memories_in, thread_end_in}
use Rattle.meaning.specs.InOrder.{IsInOrder, report_in, text_and_end}
use Rattle.program_tables.specs.declared.program.ProgramTables.{ProgramTables}
use Rattle.program_tables.specs.Views.{program_in}
use Rattle.meaning.specs.inner.Standing.{IsStop, end_by, rest}
use Rattle.meaning.proofs.Advancing.{seen_is}
use Rattle.meaning.specs.inner.Turns.{AreKnown, IsKnown, TakesTurn, does_in, founds_in, seen_in}

last_of : (m : Memory) (ys : List Memory) (y : Memory) → last_left m (ys ++ y ∷ []) ≡ y
last_of m [] y = refl
last_of m (z ∷ ys) y = last_of z ys y

all_dropped : {X : Type 0} (n : ℕ) (xs : List X) → length xs ≤ n → drop n xs ≡ []
all_dropped n xs le = grind (arith, common_steps)

at_last : {X : Type 0} (xs : List X) (n : ℕ) (x : X) → n + 1 ≡ length xs → x ≡ get_or xs n x → xs ≡ take n xs ++ x ∷ []
at_last xs n x h e =
    sym (take-append-drop n xs)
    ∙ ap (λ ys. take n xs ++ ys) (at_drop_more (λ ys. ys) xs n x (omega (arith, h)) ∙ ap (λ y. y ∷ drop (n + 1) xs) (sym e) ∙ ap (λ ys. x ∷ ys) (all_dropped (n + 1) xs (omega (arith, h))))

-- the last of the memories beyond the first ones
pub last_beyond : {A : Type 0} (m : Memory) (ls : List (Vec ℕ A)) (before : ℕ) (l : Vec ℕ A) → before < length ls → l ≡ get_or ls (length ls - 1) l → l.items ≡ last_left m (drop before (memories_in ls))
last_beyond m ls before l h e =
    let n = length ls - 1 in
    let size : n + 1 ≡ length ls = omega (arith, h) in
    let whole = at_last ls n l size e in
    let few : before ≤ length (memories_in (take n ls)) = (let a = length-map (take n ls) (λ v. v.items) in let b = length-take-le n ls (omega (arith, size)) in omega (arith, a, b, h, size)) in
    sym (ap (λ ys. last_left m (drop before ys)) (ap memories_in whole ∙ map-append (λ v. v.items) (take n ls) (l ∷ []))
    ∙ ap (last_left m) (drop-append-le before (memories_in (take n ls)) (l.items ∷ []) few)
    ∙ last_of m (drop before (memories_in (take n ls))) l.items)

-- the last of the memories beyond the first ones, of two lists behind one another
last_appended : (m : Memory) (xs ys : List Memory) → last_left m (xs ++ ys) ≡ last_left (last_left m xs) ys
last_appended m [] ys = refl
last_appended m (x ∷ xs) ys = last_appended x xs ys

dropped_appended : (n : ℕ) (xs ys : List Memory) → drop n (xs ++ ys) ≡ drop n xs ++ drop (n - length xs) ys
dropped_appended zero [] ys = refl
dropped_appended zero (x ∷ xs) ys =
    let none : 0 ≡ 0 - length (x ∷ xs) = omega arith in ap (λ k. (x ∷ xs) ++ drop k ys) none
dropped_appended (suc n) [] ys =
    let all : suc n ≡ suc n - length {A = Memory} [] = omega arith in ap (λ k. drop k ys) all
dropped_appended (suc n) (x ∷ xs) ys =
    let less : n - length xs ≡ suc n - length (x ∷ xs) = omega arith in dropped_appended n xs ys ∙ ap (λ k. drop n xs ++ drop k ys) less

last_of_both : (m : Memory) (n : ℕ) (xs ys : List Memory) → last_left m (drop n (xs ++ ys)) ≡ last_left (last_left m (drop n xs)) (drop (n - length xs) ys)
last_of_both m n xs ys = ap (last_left m) (dropped_appended n xs ys) ∙ last_appended m (drop n xs) (drop (n - length xs) ys)

-- the memory at hand, by what a thread has left up to its point and behind it
pub left_of_both : {A : Type 0} (m n1 n2 : Memory) (before later : ℕ) (xs ys : List (Vec ℕ A)) → later ≡ before - length xs → n1 ≡ last_left m (drop before (memories_in xs)) → n2 ≡ last_left n1 (drop later (memories_in ys)) →
    n2 ≡ last_left m (drop before (memories_in xs ++ memories_in ys))
left_of_both m n1 n2 before later xs ys less first second =
    let rest : later ≡ before - length (memories_in xs) = less ∙ ap (λ i. before - i) (sym (length-map xs (λ v. v.items))) in
    second ∙ ap (λ q. last_left q (drop later (memories_in ys))) first ∙ ap (λ i. last_left (last_left m (drop before (memories_in xs))) (drop i (memories_in ys))) rest
    ∙ sym (last_of_both m before (memories_in xs) (memories_in ys))

-- a thread that wants no memory does nothing
rests : (does : Behaviour) (ticks : ℕ) (end : ThreadEnd) (after now : Progress) → end ≢ Stopped Wants → if_wanting does ticks end after now ≡ now
rests does ticks (Stopped Wants) after now h = absurd (h refl)
rests does ticks end after now h = refl

-- a turn is an entry of an order
enters_by : (does : Behaviour) (ticks t : ℕ) (m n : Memory) (all : List (List Memory)) (further : List Memory) → let founds = get_or all t [] in
    ((((does t founds ticks).end ≢ Stopped Wants) × (n ≡ m) × (further ≡ founds))
    ⊎ (((does t founds ticks).end ≡ Stopped Wants) × (n ≡ last_left m (drop (length (does t founds ticks).lefts) (does t further ticks).lefts)) × (further ≡ founds ++ m ∷ []))) →
    record { memory = n; founds = set all t further } ≡ entry does ticks t (record { memory = m; founds = all })
enters_by does ticks t m n all further (inl (none, same, unchanged)) =
    let now : Progress = record { memory = m; founds = all } in
    (λ i. record { memory = same i; founds = set all t (unchanged i) })
    ∙ ap (λ (fs : List (List Memory)). record { memory = m; founds = fs }) (set-get_or all t [])
    ∙ sym (rests does ticks (does t (get_or all t []) ticks).end (finds does ticks t (get_or all t []) now) now none)
enters_by does ticks t m n all further (inr (some, left, more)) =
    let now : Progress = record { memory = m; founds = all } in
    let founds = get_or all t [] in
    (λ i. record { memory = left i; founds = set all t further })
    ∙ ap (λ (fs : List Memory). record { memory = last_left m (drop (length (does t founds ticks).lefts) (does t fs ticks).lefts); founds = set all t fs }) more
    ∙ sym (ap (λ e. if_wanting does ticks e (finds does ticks t founds now) now) some)

module _ {A : Type 0} (source : ProgramTables A) (ticks : ℕ) where
  pub rested : (t : ℕ) (m : Memory) (s : Standing A) → IsKnown source ticks t s → thread_end_in s.end ≢ Stopped Wants → TakesTurn (program_in source) ticks t m (memories_in s.founds.items) m (memories_in s.founds.items)
  unfolding TakesTurn
  rested t m s known h = inl ((λ e. h (ap (λ o. o.end) known.seen ∙ e)), refl, refl)

  pub found : (t : ℕ) (m n : Memory) (s r : Standing A) → IsKnown source ticks t s → IsKnown source ticks t r → thread_end_in s.end ≡ Stopped Wants → memories_in r.founds.items ≡ memories_in s.founds.items ++ m ∷ [] →
      n ≡ last_left m (drop (length (seen_in s).lefts) (seen_in r).lefts) → TakesTurn (program_in source) ticks t m (memories_in s.founds.items) n (memories_in r.founds.items)
  unfolding TakesTurn
  found t m n s r known then_ wants more left =
      inr (sym (ap (λ o. o.end) known.seen) ∙ wants, left ∙ (λ i. last_left m (drop (length (known.seen i).lefts) (then_.seen i).lefts)), more)

  -- what is known of a thread that goes no further
  pub known_by : (t : ℕ) (r : Standing A) (stop : StoppedThread A) → ((further : List Memory) → rest source r.thread further ≡ worker_run (program_in source) t (first_state (memories_in r.founds.items ++ further) ticks)) →
      IsStop source r.thread stop → r.further ≡ stop.shown → thread_end_in r.end ≡ end_by stop.why → IsKnown source ticks t r
  unfolding does_in
  known_by t r stop stands stops further end = record {
    stands = stands;
    seen =
        (λ i. record { lefts = memories_in r.thread.shown.lefts.items ++ memories_in (further i).lefts.items; text = r.thread.shown.text.items ++ (further i).text.items; end = end i })
        ∙ seen_is source (program_in source) ticks t r.thread (memories_in r.founds.items) stands stop stops;
  }

  -- where a thread that has found one memory more goes on
  pub stands_on : (t : ℕ) (s : Standing A) (m : Memory) (mid new : StandingThread A) (founds : List Memory) → IsKnown source ticks t s → ((further : List Memory) → rest source mid further ≡ rest source s.thread (m ∷ further)) →
      ((further : List Memory) → rest source new further ≡ rest source mid further) → founds ≡ memories_in s.founds.items ++ m ∷ [] →
      (further : List Memory) → rest source new further ≡ worker_run (program_in source) t (first_state (founds ++ further) ticks)
  stands_on t s m mid new founds known finds same more further =
      same further ∙ finds further ∙ known.stands (m ∷ further)
      ∙ ap (λ fs. worker_run (program_in source) t (first_state fs ticks)) (sym (append_assoc (memories_in s.founds.items) (m ∷ []) further) ∙ ap (λ fs. fs ++ further) (sym more))

  -- of each thread something is known
  known_at : (k t : ℕ) (xs : List (Standing A)) (d : Standing A) → t < length xs → AreKnown source ticks k xs → IsKnown source ticks (k + t) (get_or xs t d)
  unfolding AreKnown
  known_at k t [] d lt ks = absurd (omega (arith, lt))
  known_at k zero (x ∷ xs) d lt (h, hs) = subst (λ j. IsKnown source ticks j x) (omega arith) h
  known_at k (suc t) (x ∷ xs) d lt (h, hs) = subst (λ j. IsKnown source ticks j (get_or xs t d)) (omega arith) (known_at (k + 1) t xs d (omega (arith, lt)) hs)

  known_with : (k t : ℕ) (xs : List (Standing A)) (y : Standing A) → AreKnown source ticks k xs → IsKnown source ticks (k + t) y → AreKnown source ticks k (set xs t y)
  unfolding AreKnown
  known_with k t [] y ks h = tt
  known_with k zero (x ∷ xs) y (_, hs) h = (subst (λ j. IsKnown source ticks j y) (omega arith) h, hs)
  known_with k (suc t) (x ∷ xs) y (h', hs) h = (h', known_with (k + 1) t xs y hs (subst (λ j. IsKnown source ticks j y) (omega arith) h))

  -- what is known of one of all, and of all with one replaced
  pub known_one : (t : ℕ) (xs : List (Standing A)) (s : Standing A) → t < length xs → s ≡ get_or xs t s → AreKnown source ticks 0 xs → IsKnown source ticks t s
  known_one t xs s lt at ks = subst (λ x. IsKnown source ticks t x) (sym at) (subst (λ j. IsKnown source ticks j (get_or xs t s)) (omega arith) (known_at 0 t xs s lt ks))

  pub known_set : (t : ℕ) (xs : List (Standing A)) (y : Standing A) → AreKnown source ticks 0 xs → IsKnown source ticks t y → AreKnown source ticks 0 (set xs t y)
  known_set t xs y ks h = known_with 0 t xs y ks (subst (λ j. IsKnown source ticks j y) (omega arith) h)

  pub known_more : (k : ℕ) (xs : List (Standing A)) (y : Standing A) → AreKnown source ticks k xs → IsKnown source ticks (k + length xs) y → AreKnown source ticks k (xs ++ y ∷ [])
  unfolding AreKnown
  known_more k [] y ks h = (subst (λ j. IsKnown source ticks j y) (omega arith) h, tt)
  known_more k (x ∷ xs) y (h', hs) h = (h', known_more (k + 1) xs y hs (subst (λ j. IsKnown source ticks j y) (omega arith) h))

  pub known_none : (xs : List (Standing A)) → xs ≡ [] → AreKnown source ticks 0 xs
  unfolding AreKnown
  known_none xs e = subst (λ (ys : List (Standing A)). AreKnown source ticks 0 ys) (sym e) tt

  pub count_of : (n : ℕ) (xs : List (Standing A)) → founds_in xs ≡ replicate n [] → length xs ≡ n
  count_of n xs h = sym (length-map xs (λ s. memories_in s.founds.items)) ∙ ap length h ∙ length-replicate n []

  -- one more thread that has found no memory
  pub begun_more : (t : ℕ) (xs ys : List (Standing A)) (y : Standing A) → ys ≡ xs ++ y ∷ [] → AreKnown source ticks 0 xs → founds_in xs ≡ replicate t [] → IsKnown source ticks t y → y.founds.items ≡ [] →
      AreKnown source ticks 0 ys × (founds_in ys ≡ replicate (t + 1) [])
  begun_more t xs ys y e ks none h mine =
      let count = count_of t xs none in (
        subst (λ zs. AreKnown source ticks 0 zs) (sym e) (known_more 0 xs y ks (subst (λ j. IsKnown source ticks j y) (omega (arith, count)) h)),
        ap founds_in e ∙ map-append (λ (s : Standing A). memories_in s.founds.items) xs (y ∷ []) ∙ (λ i. none i ++ memories_in (mine i) ∷ []) ∙ replicate-append-replicate t 1 [],
      )

  outcomes_known : (k : ℕ) (xs : List (Standing A)) → AreKnown source ticks k xs → map (λ s. seen_in s) xs ≡ outcomes (does_in (program_in source)) ticks k (founds_in xs)
  unfolding AreKnown
  outcomes_known k [] ks = refl
  outcomes_known k (x ∷ xs) (h, hs) = λ i. h.seen i ∷ outcomes_known (k + 1) xs hs i

  -- one entry of an order
  pub enters : (t : ℕ) (m n : Memory) (xs : List (Standing A)) (s y : Standing A) → t < length xs → s ≡ get_or xs t s → TakesTurn (program_in source) ticks t m (memories_in s.founds.items) n (memories_in y.founds.items) →
      record { memory = n; founds = founds_in (set xs t y) } ≡ entry (does_in (program_in source)) ticks t (record { memory = m; founds = founds_in xs })
  unfolding TakesTurn
  enters t m n xs s y lt at taken =
      let found_by = λ (x : Standing A). memories_in x.founds.items in
      let own : memories_in s.founds.items ≡ get_or (founds_in xs) t [] = ap found_by at ∙ sym (get_or-map found_by xs t s [] lt) in
      ap (λ fs. record { memory = n; founds = fs }) (map-set found_by xs t y)
      ∙ enters_by (does_in (program_in source)) ticks t m n (founds_in xs) (found_by y) (subst (λ fs. TakesTurn (program_in source) ticks t m fs n (found_by y)) own taken)

-- what follows where a call is done
pub on_ok : {T E X Y : Type 0} (r : Result T E) → (X → Y) → OnOk r X → OnOk r Y
on_ok (Ok x) f h = f h
on_ok (Err e) f h = tt

-- where the entries lead, by what is known of each thread
stands : {A : Type 0} (source : ProgramTables A) (ticks : ℕ) (order : List ℕ) (start : Progress) (m : Memory) (xs : List (Standing A)) → AreKnown source ticks 0 xs → entries (does_in (program_in source)) ticks order start ≡ record { memory = m; founds = founds_in xs } →
    let last = entries (does_in (program_in source)) ticks order start in (last.memory ≡ m) × (outcomes (does_in (program_in source)) ticks 0 last.founds ≡ map (λ s. seen_in s) xs)
stands source ticks order start m xs known gone = (ap (λ w. w.memory) gone, ap (λ w. outcomes (does_in (program_in source)) ticks 0 w.founds) gone ∙ sym (outcomes_known source ticks 0 xs known))

in_order_by : {A : Type 0} (source : ProgramTables A) (threads ticks : ℕ) (order : List ℕ) (m : Memory) (xs : List (Standing A)) → AreKnown source ticks 0 xs →
    entries (does_in (program_in source)) ticks order (record { memory = initial_memory (program_in source); founds = replicate threads [] }) ≡ record { memory = m; founds = founds_in xs } →
    in_order (thread (program_in source)) (initial_memory (program_in source)) threads ticks order ≡ record { memory = m; threads = map (λ s. seen_in s) xs }
unfolding does_in
in_order_by source threads ticks order m xs known gone =
    let h = stands source ticks order (record { memory = initial_memory (program_in source); founds = replicate threads [] }) m xs known gone in
    λ i. record { memory = h.0 i; threads = h.1 i }

pub in_this_order : {A : Type 0} (source : ProgramTables A) (threads ticks : ℕ) (order : List ℕ) (m : Memory) (xs : List (Standing A)) (o : SourceOutcome A) → AreKnown source ticks 0 xs →
    entries (does_in (program_in source)) ticks order (record { memory = initial_memory (program_in source); founds = replicate threads [] }) ≡ record { memory = m; founds = founds_in xs } →
    o.memory.items ≡ m → map report_in o.threads.items ≡ map (λ s. text_and_end (seen_in s)) xs → IsInOrder (program_in source) threads ticks order o
in_this_order source threads ticks order m xs o known gone memory reports =
    let h = in_order_by source threads ticks order m xs known gone in
    record {
      memory = memory ∙ sym (ap (λ w. w.memory) h);
      threads = reports ∙ sym (map-map text_and_end (λ s. seen_in s) xs) ∙ sym (ap (λ w. map text_and_end w.threads) h);
    }
