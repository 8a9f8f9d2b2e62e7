use Rattle.std.proofs.Common.{rules, ◌≡◌, ◌∙◌, ap, sym, subst, ℕ, [], ◌∷◌, ◌-◌, ◌+◌, ◌<◌}
use Rattle.atomic_table.specs.Seated.{TableId}
use Rattle.shared_words.specs.Views.{first_of, first_part, first_parts, without_first}
use Rattle.shared_words.specs.Rule.{SeatView}
use Rattle.workers.specs.Workers.{AreWorkersFrom}
use Rattle.shared_words.proofs.Opens.{next_part}
use Rattle.workers.proofs.Opens.{is_below, is_last, minus_none}
use Rattle.workers.proofs.open.workers.Goals as goal

pub numbers-init : goal.numbers-init
numbers-init g c = record {
  table = c.requires.table.0;
  seat = c.requires.seat ∙ ap (λ (n : ℕ). (first_parts c.args.setup.now 0 n, [])) (sym (minus_none c.args.setup.now.threads));
  count = search rules;
  workers = subst (AreWorkersFrom c.args.words.now.table_id c.args.setup.now 0) (sym c.new-all.ensures.items) tt;
}

pub add_worker-requires-clause-number : goal.add_worker-requires-clause-number
add_worker-requires-clause-number g c = (c.numbers.invariant.count, is_below c.numbers.number c.threads-last.result c.args.setup.now.threads c.numbers-test.true c.threads-last.ensures)

pub add_worker-requires-clause-seat : goal.add_worker-requires-clause-seat
add_worker-requires-clause-seat g c =
    let key = c.args.setup.now in
    let below : c.numbers.number < key.threads = is_below c.numbers.number c.threads-last.result key.threads c.numbers-test.true c.threads-last.ensures in
    let parts : c.numbers.seat.me.0 ≡ first_part key c.numbers.number ∷ first_parts key (c.numbers.number + 1) (key.threads - (c.numbers.number + 1)) =
    ap (λ (m : SeatView). m.0) c.numbers.invariant.seat ∙ next_part key c.numbers.number key.threads below in
    c.split_first-first.ensures.new ∙ (λ i. (first_of (parts i), []))

pub add_worker-requires-clause-workers : goal.add_worker-requires-clause-workers
add_worker-requires-clause-workers g c = subst (λ (z : TableId). AreWorkersFrom z c.args.setup.now 0 c.numbers.all.items) (sym (c.split_first-first.ensures.table.1 ∙ c.numbers.invariant.table)) c.numbers.invariant.workers

pub numbers-preserved : goal.numbers-preserved
numbers-preserved g c =
    let key = c.args.setup.now in
    let inv = c.numbers.invariant in
    let did = c.split_first-first.ensures in
    let below : c.numbers.number < key.threads = is_below c.numbers.number c.threads-last.result key.threads c.numbers-test.true c.threads-last.ensures in
    let parts : c.numbers.seat.me.0 ≡ first_part key c.numbers.number ∷ first_parts key (c.numbers.number + 1) (key.threads - (c.numbers.number + 1)) =
    ap (λ (m : SeatView). m.0) inv.seat ∙ next_part key c.numbers.number key.threads below in
    record {
      table = did.table.0 ∙ inv.table;
      seat = did.seat ∙ (λ i. (without_first (parts i), (ap (λ (m : SeatView). m.1) inv.seat) i));
      count = c.in_ok-add_worker.ensures.count;
      workers = subst (λ (z : TableId). AreWorkersFrom z key 0 c.add_worker.new.all.items) (did.table.1 ∙ inv.table) c.in_ok-add_worker.ensures.workers;
    }

pub add_worker-requires-2-clause-number : goal.add_worker-requires-2-clause-number
add_worker-requires-2-clause-number g c =
    let key = c.args.setup.now in
    let ends = is_last c.numbers.number c.threads-last.result key.threads c.numbers-test.false c.numbers.auto.number-end c.threads-last.ensures c.requires.table.3 in
    (c.numbers.invariant.count ∙ sym ends.1, subst (λ (n : ℕ). n < key.threads) (sym ends.1) ends.2)

pub add_worker-requires-2-clause-seat : goal.add_worker-requires-2-clause-seat
add_worker-requires-2-clause-seat g c =
    let key = c.args.setup.now in
    let inv = c.numbers.invariant in
    let ends = is_last c.numbers.number c.threads-last.result key.threads c.numbers-test.false c.numbers.auto.number-end c.threads-last.ensures c.requires.table.3 in
    let parts : c.numbers.seat.me.0 ≡ first_part key (c.threads-last.result - 1) ∷ [] =
    ap (λ (m : SeatView). m.0) inv.seat ∙ (next_part key c.numbers.number key.threads ends.2 ∙ (λ i. first_part key (sym ends.1 i) ∷ first_parts key (c.numbers.number + 1) (ends.3 i))) in
    λ i. (parts i, (ap (λ (m : SeatView). m.1) inv.seat) i)

pub add_worker-requires-2-clause-workers : goal.add_worker-requires-2-clause-workers
add_worker-requires-2-clause-workers g c = subst (λ (z : TableId). AreWorkersFrom z c.args.setup.now 0 c.numbers.all.items) (sym c.numbers.invariant.table) c.numbers.invariant.workers

pub returns : goal.returns
returns g c =
    let key = c.args.setup.now in
    let ends = is_last c.numbers.number c.threads-last.result key.threads c.numbers-test.false c.numbers.auto.number-end c.threads-last.ensures c.requires.table.3 in
    let made = c.in_ok-add_worker-2.ensures in
    record {
      workers = (
        made.count ∙ ap (λ (n : ℕ). n + 1) ends.1 ∙ ends.0,
        subst (λ (z : TableId). AreWorkersFrom z key 0 c.add_worker-2.new.all.items) c.numbers.invariant.table made.workers,
      );
    }
