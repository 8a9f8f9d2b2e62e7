-- What is begun after a meeting stands behind all that had taken effect by then.
use Rattle.std.proofs.Common.{◌≡◌, List, ℕ, zero, suc, ◌++◌, [], ◌∷◌, Some, refl, sym, ap, ◌∙◌, subst, slice_get}
use mathlib.Core.Option.{some, some-injective, some-ne-none}
use lib.ListN.{get_elem?}
use Rattle.atomic_table.specs.Seated.{TableId}
use Rattle.bytecode.specs.Code.{Configuration}
use Rattle.machine.specs.Strict.{StandsBehind}
use Rattle.machine.specs.Worlds.{Part}
use Rattle.shared_words.proofs.Traces.{begins_on}
use Rattle.shared_words.specs.Rule.{SeatView}
use Rattle.shared_words.specs.Setup.{IsPrefix, Setup, IsPartAfter, world_of}
use Rattle.shared_words.specs.Saying.{merge_of}
use Rattle.shared_words.specs.Views.{ViewPart}
use Rattle.workers.specs.declared.worker.Worker.{Worker}
use Rattle.workers.specs.Closing.{HaveSeen, MeetingsHaveAll, StandsBehindMeetings}
use Rattle.bytecode.specs.Code.{effect}
use Rattle.bytecode.specs.Beginning.{beginning}
use Rattle.bytecode.specs.Initial.{initial_of}
use Rattle.bytecode.specs.Valid.{bounds_of}
use Rattle.bytecode.proofs.Fits.{fits_cells}
use Rattle.machine.proofs.runs.Serializable.{serializable}
use Rattle.shared_words.proofs.Codes.{initial_fits}
use Rattle.workers.specs.Workers.{AreWorkersOf, IsWorkerOf}

-- what is known of a worker's view is the same, however it is known
one_view : (m : SeatView) (p q : ViewPart) → m ≡ (p ∷ [], []) → m ≡ (q ∷ [], []) → p ≡ q
one_view m p q e f = let g : (p ∷ []) ≡ (q ∷ []) = ap (λ (x : SeatView). x.0) (sym e ∙ f) in cc

seen_there : {A : Type 0} (z : TableId) (key : Setup) (trace : List ℕ) (ws : List (Worker A)) (all : AreWorkersOf z key ws) → HaveSeen z key trace ws all → (k : ℕ) (w : Worker A) → get_elem? ws k ≡ some w → (is : IsWorkerOf z key w) → IsPrefix is.1.part.seen trace
seen_there z key trace [] all h k w e is = absurd (some-ne-none w (sym e))
seen_there z key trace (x ∷ xs) all h zero w e is =
    let same : w.seat.me ≡ (all.0.1.part ∷ [], []) = ap (λ (y : Worker _). y.seat.me) (sym (some-injective x w e)) ∙ all.0.1.sits in
    subst (λ (p : ViewPart). IsPrefix p.seen trace) (one_view w.seat.me all.0.1.part is.1.part same is.1.sits) h.0
seen_there z key trace (x ∷ xs) all h (suc k) w e is = seen_there z key trace xs all.1 h.1 k w e is

pub stands_behind : (A : Type 0) → StandsBehindMeetings A
stands_behind A z key ws all cells threads c n seen before after last k floors goes at was none =
    let met = floors was in
    let on = goes met.0 in
    let looked : met.0.1.part.seen ≡ seen = ap (λ (p : ViewPart). p.seen) met.1.part in
    let begins : IsPrefix seen c.trace = subst (λ (l : List ℕ). IsPrefix l c.trace) looked
    (begins_on met.0.1.part.seen on.0.1.part.seen c.trace on.1.seen (seen_there z key c.trace ws all c.seen k last at on.0)) in
    let there : slice_get (world_of key seen).parts before.number ≡ Some was.1.now =
    subst (λ (x : Setup × ℕ). slice_get (world_of x.0 seen).parts x.1 ≡ Some was.1.now) (λ i. (was.1.setup i, was.1.number_is i)) met.1.may_be_floor.stands.part in
    subst (λ (l : List ℕ). StandsBehind before.number (merge_of key seen) (merge_of key l)) (sym begins.1) ((c.time.strict seen begins.0 begins.1).behind before.number was.1.now there none)

pub have_all : (A : Type 0) → MeetingsHaveAll A
have_all A z key n seen before after floors was =
    let met = floors was in
    let there : slice_get (world_of key seen).parts before.number ≡ Some was.1.now =
    subst (λ (x : Setup × ℕ). slice_get (world_of x.0 seen).parts x.1 ≡ Some was.1.now) (λ i. (was.1.setup i, was.1.number_is i)) met.1.may_be_floor.stands.part in
    (serializable (effect key.code) (beginning key.code) (bounds_of key.code) (initial_of key.code) (initial_fits key.code) (fits_cells key.code was.1.valid) key.threads seen).is_merge.own_records before.number was.1.now there
