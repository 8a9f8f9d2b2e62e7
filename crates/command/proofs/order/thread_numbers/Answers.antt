use Rattle.std.proofs.Common.{[]}
use Rattle.std.proofs.lemmas.List.{map_more}
use Rattle.command.proofs.Numbers.{one_more, unlisted}
use Rattle.command.proofs.order.thread_numbers.Goals as goal

pub pieces-preserved : goal.pieces-preserved
pieces-preserved c = rw (c.in_ok-push-in-Some.ensures.items, map_more (λ p. p.now) c.args.pieces.now c.pieces.piece-index (record { ref_ptr = (0, 0); now = [] }) c.pieces-test.true) (one_more _ _ _ _ c.pieces.invariant c.in-Some.ensures)

pub returns-in-None : goal.returns-in-None
returns-in-None c = unlisted c.args.pieces.now c.pieces.piece-index (record { ref_ptr = (0, 0); now = [] }) c.pieces-test.true c.in-None.ensures
