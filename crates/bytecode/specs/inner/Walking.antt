-- How paths through a function are followed: what an instruction does to the place and to the open begins.
use Rattle.std.specs.Prelude.{ℕ, zero, suc, ◌-◌, List, [], ◌∷◌, ◌++◌, Bool, true, false, Option, Some, None, slice_get}
use Rattle.std.specs.Prelude.{slice_set, nat_lt, if◌then◌else◌, ◌==◌}
use Rattle.bytecode.specs.Code.{Instr}
use Rattle.bytecode.specs.declared.walk.Arrival.{Arrival}
use Rattle.bytecode.specs.declared.walk.Arrival.TheVariants.{Unseen, Outside, Inside}
use Rattle.bytecode.specs.declared.walk.Successor.{Successor}
use Rattle.bytecode.specs.declared.walk.Successor.TheVariants.{On, To, Both, Opens, Closes, Cancels, CancelsOuter, Ends}

-- the successors of an instruction
abbrev pub way_of : Instr → Successor
way_of (Instr.Jump to) = To to
way_of (Instr.JumpZero a to) = Both to
way_of (Instr.JumpNonzero a to) = Both to
way_of (Instr.Begin to) = Opens
way_of Instr.Commit = Closes
way_of Instr.Cancel = Cancels
way_of (Instr.CancelOuter n) = CancelsOuter n
way_of (Instr.Return a) = Ends
way_of i = On

-- the arrivals at a function's places, from its first one on, and the places that have been reached and not continued
-- from
abbrev pub Arrivals : Type 0
Arrivals = List Arrival

abbrev pub arrival_at : ℕ → Arrivals → ℕ → Option Arrival
arrival_at first ms q = if nat_lt q first then None else slice_get ms (q - first)

abbrev pub same_arrival : Arrival → Arrival → Bool
same_arrival Unseen Unseen = true
same_arrival Outside Outside = true
same_arrival (Inside b) (Inside c) = b == c
same_arrival _ _ = false

-- a path reaches a place that has this arrival: the arrivals and places after it, or nothing if it must not
abbrev pub arrive_with : ℕ → Arrivals → List ℕ → ℕ → Arrival → Option Arrival → Option (Arrivals × List ℕ)
arrive_with first ms work q m None = None
arrive_with first ms work q m (Some Unseen) = Some (slice_set ms (q - first) m, work ++ q ∷ [])
arrive_with first ms work q m (Some Outside) = if same_arrival Outside m then Some (ms, work) else None
arrive_with first ms work q m (Some (Inside b)) = if same_arrival (Inside b) m then Some (ms, work) else None

abbrev pub visit_place : ℕ → Arrivals → List ℕ → ℕ → Arrival → Option (Arrivals × List ℕ)
visit_place first ms work q m = arrive_with first ms work q m (arrival_at first ms q)

-- the result of a call that answers yes or no
abbrev pub walk_answer : Bool → Arrivals → List ℕ → Option (Arrivals × List ℕ)
walk_answer true ms work = Some (ms, work)
walk_answer false ms work = None

-- back inside the begin that encloses another: its arrival
abbrev pub reopen_begin : ℕ → Arrivals → List ℕ → ℕ → Option Arrival → Option (Arrivals × List ℕ)
reopen_begin first ms work to None = None
reopen_begin first ms work to (Some Unseen) = None
reopen_begin first ms work to (Some Outside) = visit_place first ms work to Outside
reopen_begin first ms work to (Some (Inside c)) = visit_place first ms work to (Inside c)

-- where a cancel of the begin here continues
abbrev pub begun_by : Instr → Option ℕ
begun_by (Instr.Begin to) = Some to
begun_by i = None

abbrev pub begin_target : Option Instr → Option ℕ
begin_target None = None
begin_target (Some i) = begun_by i

abbrev pub cancel_to : ℕ → Arrivals → List ℕ → Option Arrival → Option ℕ → Option (Arrivals × List ℕ)
cancel_to first ms work o (Some to) = reopen_begin first ms work to o
cancel_to first ms work o None = None

-- the begin that encloses this one, and so on n times: the arrival at a begin says which one encloses it
abbrev pub begin_in : Option Arrival → (ℕ → Option ℕ) → Option ℕ
begin_in (Some (Inside c)) on = on c
begin_in o on = None

abbrev pub begin_round : ℕ → Arrivals → ℕ → ℕ → Option ℕ
begin_round first ms zero b = Some b
begin_round first ms (suc n) b = begin_in (arrival_at first ms b) (begin_round first ms n)

abbrev pub cancelled_at : List Instr → ℕ → Arrivals → List ℕ → Option ℕ → Option (Arrivals × List ℕ)
cancelled_at is first ms work None = None
cancelled_at is first ms work (Some b) = cancel_to first ms work (arrival_at first ms b) (begin_target (slice_get is b))

abbrev pub twice : ℕ → ℕ → Arrival → Option (Arrivals × List ℕ) → Option (Arrivals × List ℕ)
twice first to m None = None
twice first to m (Some s) = visit_place first s.0 s.1 to m

-- a path continues from a place, by its instruction
abbrev pub went_by : List Instr → ℕ → Arrivals → List ℕ → ℕ → Arrival → Successor → Option (Arrivals × List ℕ)
went_by is first ms work q m On = visit_place first ms work (suc q) m
went_by is first ms work q m (To to) = visit_place first ms work to m
went_by is first ms work q m (Both to) = twice first to m (visit_place first ms work (suc q) m)
went_by is first ms work q m Opens = visit_place first ms work (suc q) (Inside q)
went_by is first ms work q (Inside b) Closes = reopen_begin first ms work (suc q) (arrival_at first ms b)
went_by is first ms work q Outside Closes = None
went_by is first ms work q Unseen Closes = None
went_by is first ms work q (Inside b) Cancels =
    cancel_to first ms work (arrival_at first ms b) (begin_target (slice_get is b))
went_by is first ms work q (Inside b) (CancelsOuter n) = cancelled_at is first ms work (begin_round first ms (n - 1) b)
went_by is first ms work q Outside (CancelsOuter zero) = Some (ms, work)
went_by is first ms work q Unseen (CancelsOuter zero) = Some (ms, work)
went_by is first ms work q Outside (CancelsOuter (suc n)) = None
went_by is first ms work q Unseen (CancelsOuter (suc n)) = None
went_by is first ms work q Outside Cancels = None
went_by is first ms work q Unseen Cancels = None
went_by is first ms work q Outside Ends = Some (ms, work)
went_by is first ms work q (Inside b) Ends = None
went_by is first ms work q Unseen Ends = None
