use Rattle.std.proofs.Common.{◌≤◌, ◌+◌, ◌∙◌, ap, sym, subst}
use Rattle.std.specs.Vec.{vec_capacity}
use Rattle.bytecode.specs.Valid.{cells_of}
use Rattle.shared_words.specs.Setup.{Setup}
use Rattle.shared_words.specs.Rule.{LeavesCells}
use Rattle.workers.specs.Workers.{AreWorkersOf}
use Rattle.workers.proofs.Closings.{closes, has_word}
use Rattle.workers.proofs.close.gather.Goals as goal

pub join_all-seat-requires-clause-table : goal.join_all-seat-requires-clause-table
join_all-seat-requires-clause-table g c = has_word _ _ c.args.hall.wide

pub join_all-seat-requires-clause-workers : goal.join_all-seat-requires-clause-workers
join_all-seat-requires-clause-workers g c = subst (λ (k : Setup). AreWorkersOf c.args.hall.table.shared.table_id k c.args.workers.items) (sym c.args.hall.key) c.requires.workers

pub close-words-requires-clause-table : goal.close-words-requires-clause-table
close-words-requires-clause-table g c = c.join_all-seat.ensures.0

pub close-words-requires-clause-words : goal.close-words-requires-clause-words
close-words-requires-clause-words g c = c.args.hall.wide ∙ ap (λ (k : Setup). cells_of k.code + 1) (sym c.args.hall.key)

pub close-words-requires-clause-room : goal.close-words-requires-clause-room
close-words-requires-clause-room g c = (c.requires.room.0, subst (λ (k : Setup). cells_of k.code ≤ vec_capacity c.args.cells) (sym c.args.hall.key) c.requires.room.1)

pub returns : goal.returns
returns g c = λ all.
    let hall = c.args.hall in
    let left = subst (λ (k : Setup). LeavesCells k c.join_all-seat.result.0.id c.join_all-seat.result.0.me c.close-words.result.items) hall.key c.close-words.ensures in
    closes hall.table.shared.table_id hall.setup c.join_all-seat.result.0.id c.join_all-seat.result.0.me c.args.workers.items (ap (λ m. m.0) c.join_all-seat.ensures.1) all c.close-words.result.items left
    c.join_all-seat.result.1.items c.join_all-seat.ensures.2
