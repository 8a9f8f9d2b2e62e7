use Rattle.std.proofs.Common.{map, take}
use Rattle.command.specs.Asked.{AreThreads}
use Rattle.command.proofs.order.thread_numbers.Given as goal

-- the pieces so far are these numbers
abbrev pub invariant-pieces : goal.invariant-pieces
invariant-pieces l = AreThreads (map (λ p. p.now) (take l.piece-index l.pieces)) l.numbers.items
