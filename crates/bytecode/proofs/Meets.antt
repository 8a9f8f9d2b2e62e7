-- A visit: what it gives, and when it fails.
use Rattle.std.proofs.Common.{◌≡◌, ◌≢◌, ℕ, ◌+◌, ◌-◌, ◌<◌, ◌≤◌, Bool, true, false, List, [], ◌∷◌, ◌++◌, length, Option, Some, None, refl, sym, ap, ◌∙◌, subst, arith}
use Rattle.std.specs.Prelude.{slice_set, if◌then◌else◌}
use Rattle.std.proofs.lemmas.Bool.Decides.{nat_tests}
use Rattle.std.proofs.lemmas.Option.{slice_get-get_or}
use Rattle.bytecode.specs.Code.{Code, FunctionCode}
use Rattle.bytecode.specs.Valid.{IsReached, KeepsOpen}
use Rattle.bytecode.specs.declared.walk.Arrival.{Arrival}
use Rattle.bytecode.specs.declared.walk.Arrival.TheVariants.{Unseen, Outside, Inside}
use Rattle.bytecode.specs.inner.Walking.{Arrivals, arrival_at, same_arrival, arrive_with, visit_place}
use Rattle.bytecode.proofs.Tables.{IsChain, some_same, IsFound, conflict}
use Rattle.bytecode.proofs.Arrivals.{seen_one, innermost, id_of, table, from_on, Visited, visited_first, visited_again}

abbrev pub State : Type 0
State = Arrivals × List ℕ

by_test : (b : Bool) (x : State) (y : State) → (if b then Some x else None) ≡ Some y → (b ≡ true) × (x ≡ y)
by_test true x y e = (refl, some_same x y e)
by_test false x y e = cc e

fails_test : (b : Bool) (x : State) → (if b then Some x else None) ≡ None → b ≡ false
fails_test true x e = cc e
fails_test false x e = refl

same_id : (m m' : Arrival) → seen_one m ≡ 1 → seen_one m' ≡ 1 → same_arrival m m' ≡ true → (innermost (Some m) ≡ Some (id_of m')) × (id_of m ≡ id_of m')
same_id Unseen m' s s' e = cc s
same_id Outside Unseen s s' e = cc s'
same_id Outside Outside s s' e = (refl, refl)
same_id Outside (Inside c) s s' e = cc e
same_id (Inside b) Unseen s s' e = cc s'
same_id (Inside b) Outside s s' e = cc e
same_id (Inside b) (Inside c) s s' e = let h : b ≡ c = grind (arith, nat_tests, e) in (ap (λ x. Some (Some x)) h, ap Some h)

apart_id : (m m' : Arrival) → seen_one m ≡ 1 → seen_one m' ≡ 1 → same_arrival m m' ≡ false → id_of m ≢ id_of m'
apart_id Unseen m' s s' e = cc s
apart_id Outside Unseen s s' e = cc s'
apart_id Outside Outside s s' e = cc e
apart_id Outside (Inside c) s s' e = λ h. cc h
apart_id (Inside b) Unseen s s' e = cc s'
apart_id (Inside b) Outside s s' e = λ h. cc h
apart_id (Inside b) (Inside c) s s' e = λ h. let d : b ≡ c = some_same b c h in grind (arith, nat_tests, e, d)

ends_so : (first : ℕ) (ms : Arrivals) (work : List ℕ) (q : ℕ) (m : Arrival) (x y : State) → x ≡ y → Visited first ms work q m x.0 x.1 → Visited first ms work q m y.0 y.1
ends_so first ms work q m x y e v = subst (λ (z : State). Visited first ms work q m z.0 z.1) e v

met_gives : (first : ℕ) (ms : Arrivals) (work : List ℕ) (q : ℕ) (m : Arrival) (s : State) (o : Option Arrival) → seen_one m ≡ 1 → arrival_at first ms q ≡ o → arrive_with first ms work q m o ≡ Some s → Visited first ms work q m s.0 s.1
met_gives first ms work q m s None one e h = cc h
met_gives first ms work q m s (Some Unseen) one e h = ends_so first ms work q m (slice_set ms (q - first) m, work ++ q ∷ []) s (some_same _ s h) (visited_first first ms work q m one e)
met_gives first ms work q m s (Some Outside) one e h =
    let t = by_test (same_arrival Outside m) (ms, work) s h in
    ends_so first ms work q m (ms, work) s t.1 (visited_again first ms work q m (ap innermost e ∙ (same_id Outside m refl one t.0).0))
met_gives first ms work q m s (Some (Inside b)) one e h =
    let t = by_test (same_arrival (Inside b) m) (ms, work) s h in
    ends_so first ms work q m (ms, work) s t.1 (visited_again first ms work q m (ap innermost e ∙ (same_id (Inside b) m refl one t.0).0))

pub visited_gives : (first : ℕ) (ms : Arrivals) (work : List ℕ) (q : ℕ) (m : Arrival) (s : State) → seen_one m ≡ 1 → visit_place first ms work q m ≡ Some s → Visited first ms work q m s.0 s.1
visited_gives first ms work q m s one h = met_gives first ms work q m s (arrival_at first ms q) one refl h

no_arrival : (first : ℕ) (ms : Arrivals) (q : ℕ) → arrival_at first ms q ≡ None → first ≤ q → q < first + length ms → ⊥
no_arrival first ms q e le lt = cc (slice_get-get_or ms (q - first) Unseen (omega (arith, le, lt)), sym (from_on first q ms le) ∙ e)

met_fails : (code : Code) (f : FunctionCode) (end : ℕ) (ms : Arrivals) (work : List ℕ) (q : ℕ) (m : Arrival) (o : Option Arrival) (begins : List ℕ) → f.first + length ms ≡ end → IsFound code f (table f.first ms) → IsReached code f q begins → IsChain (table f.first ms) (id_of m) begins → seen_one m ≡ 1 → arrival_at f.first ms q ≡ o → arrive_with f.first ms work q m o ≡ None → KeepsOpen code f end → ⊥
met_fails code f end ms work q m None begins long found r c one e h k = let i = k.inside q begins r in no_arrival f.first ms q e i.0 (omega (arith, i.1, long))
met_fails code f end ms work q m (Some Unseen) begins long found r c one e h k = cc h
met_fails code f end ms work q m (Some Outside) begins long found r c one e h k =
    conflict code f (table f.first ms) found q None (id_of m) begins (ap innermost e) r c (apart_id Outside m refl one (fails_test _ (ms, work) h)) (λ xs ys v w. k.one_list q xs ys v w)
met_fails code f end ms work q m (Some (Inside b)) begins long found r c one e h k =
    conflict code f (table f.first ms) found q (Some b) (id_of m) begins (ap innermost e) r c (apart_id (Inside b) m refl one (fails_test _ (ms, work) h)) (λ xs ys v w. k.one_list q xs ys v w)

pub visited_fails : (code : Code) (f : FunctionCode) (end : ℕ) (ms : Arrivals) (work : List ℕ) (q : ℕ) (m : Arrival) (begins : List ℕ) → f.first + length ms ≡ end → IsFound code f (table f.first ms) → IsReached code f q begins → IsChain (table f.first ms) (id_of m) begins → seen_one m ≡ 1 → visit_place f.first ms work q m ≡ None → KeepsOpen code f end → ⊥
visited_fails code f end ms work q m begins long found r c one h k = met_fails code f end ms work q m (arrival_at f.first ms q) begins long found r c one refl h k
