use Rattle.std.proofs.Common.{rules, ◌≡◌, ◌∙◌, ap, List, [], ◌∷◌, ◌++◌, append_assoc}
use Rattle.workers.specs.declared.worker.Worker.{Worker}
use Rattle.workers.specs.Workers.{IsWorkerOf}
use Rattle.shared_words.specs.Rule.{SeatView}
use Rattle.workers.proofs.Closings.{counts_one_fewer, one_fewer, room_first, room_for_all, room_for_one, room_left, worker_in}
use Rattle.workers.proofs.close.join_all.Goals as goal

pub loop-worker-init : goal.loop-worker-init
loop-worker-init g c =
    let is : IsWorkerOf c.args.words.now.table_id c.args.words.now.key c.in-Some.last = worker_in c.args.words.now.table_id c.args.words.now.key c.args.workers.items c.pop.new.self.items [] c.in-Some.last c.requires.workers (c.in-Some.ensures.items) in
    let seat = c.into_parts-all.ensures.0 in (
      ap (λ s. s.table_id) seat ∙ is.0,
      (
        c.in-Some.last ∷ [],
        c.in-Some.ensures.items,
        ap (λ s. s.me) seat ∙ (λ i. (c.in-Some.last.seat.me.0, (ap (λ (m : SeatView). m.1) is.1.sits) i)),
        c.push_reserved.ensures.items ∙ (λ i. c.requires.places.0 i ++ c.into_parts-all.ensures.1 i ∷ []),
      ),
      room_left _ _ _ _ _ c.push_reserved.ensures.len c.push_reserved.ensures.capacity (counts_one_fewer _ _ _ _ _ c.in-Some.ensures.items c.args.workers.ok.0 c.pop.new.self.ok.0) (room_for_all _ _ _ _ c.requires.places.0 c.args.threads.ok.0 c.requires.places.1),
    )

pub push_reserved-requires : goal.push_reserved-requires
push_reserved-requires g c = room_first _ _ _ _ c.requires.places.0 c.args.threads.ok.0 c.requires.some c.requires.places.1

pub push_reserved-requires-in-Some-pop : goal.push_reserved-requires-in-Some-pop
push_reserved-requires-in-Some-pop g c = room_for_one _ _ _ _ (counts_one_fewer _ _ _ _ _ c.in-Some-pop.ensures.items c.loop-worker.workers.ok.0 c.pop-in-loop-worker.new.self.ok.0) c.loop-worker.invariant.2

pub loop-worker-smaller : goal.loop-worker-smaller
loop-worker-smaller g c = one_fewer _ _ _ c.in-Some-pop.ensures.items

pub loop-worker-preserved : goal.loop-worker-preserved
loop-worker-preserved g c =
    let inv = c.loop-worker.invariant.1 in
    let items : c.args.workers.items ≡ c.pop-in-loop-worker.new.self.items ++ c.in-Some-pop.worker ∷ inv.0 = inv.1 ∙ (ap (λ (l : List (Worker _)). l ++ inv.0) (c.in-Some-pop.ensures.items) ∙ append_assoc c.pop-in-loop-worker.new.self.items (c.in-Some-pop.worker ∷ []) inv.0) in (
      c.join.ensures.table ∙ c.loop-worker.invariant.0,
      (
        c.in-Some-pop.worker ∷ inv.0,
        items,
        c.join.ensures.seat ∙ (λ i. ((inv.2 i).0 ++ (c.into_parts-seat.ensures.0 i).me.0, (inv.2 i).1)),
        c.push_reserved-in-Some-pop.ensures.items ∙ (λ i. inv.3 i ++ c.into_parts-seat.ensures.1 i ∷ []),
      ),
      room_left _ _ _ _ _ c.push_reserved-in-Some-pop.ensures.len c.push_reserved-in-Some-pop.ensures.capacity (counts_one_fewer _ _ _ _ _ c.in-Some-pop.ensures.items c.loop-worker.workers.ok.0 c.pop-in-loop-worker.new.self.ok.0) c.loop-worker.invariant.2,
    )

pub join-requires-clause-table : goal.join-requires-clause-table
join-requires-clause-table g c =
    let inv = c.loop-worker.invariant.1 in
    let items : c.args.workers.items ≡ c.pop-in-loop-worker.new.self.items ++ c.in-Some-pop.worker ∷ inv.0 = inv.1 ∙ (ap (λ (l : List (Worker _)). l ++ inv.0) (c.in-Some-pop.ensures.items) ∙ append_assoc c.pop-in-loop-worker.new.self.items (c.in-Some-pop.worker ∷ []) inv.0) in
    let is : IsWorkerOf c.args.words.now.table_id c.args.words.now.key c.in-Some-pop.worker = worker_in c.args.words.now.table_id c.args.words.now.key c.args.workers.items c.pop-in-loop-worker.new.self.items inv.0 c.in-Some-pop.worker c.requires.workers items in
    (search rules, ap (λ s. s.table_id) c.into_parts-seat.ensures.0 ∙ is.0, search rules)

pub join-requires-clause-none : goal.join-requires-clause-none
join-requires-clause-none g c =
    let inv = c.loop-worker.invariant.1 in
    let items : c.args.workers.items ≡ c.pop-in-loop-worker.new.self.items ++ c.in-Some-pop.worker ∷ inv.0 = inv.1 ∙ (ap (λ (l : List (Worker _)). l ++ inv.0) (c.in-Some-pop.ensures.items) ∙ append_assoc c.pop-in-loop-worker.new.self.items (c.in-Some-pop.worker ∷ []) inv.0) in
    let is : IsWorkerOf c.args.words.now.table_id c.args.words.now.key c.in-Some-pop.worker = worker_in c.args.words.now.table_id c.args.words.now.key c.args.workers.items c.pop-in-loop-worker.new.self.items inv.0 c.in-Some-pop.worker c.requires.workers items in
    ap (λ s. s.me.1) c.into_parts-seat.ensures.0 ∙ ap (λ (m : SeatView). m.1) is.1.sits
