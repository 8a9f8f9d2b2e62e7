use Rattle.std.proofs.Common.{length}
use Rattle.command.proofs.OrderWords.{Reads}
use Rattle.command.proofs.listed.listed_order.Given as goal

-- these numbers stand before what is left
abbrev pub invariant-words : goal.invariant-words
invariant-words g l = Reads l.text l.rest l.order.items

abbrev pub decreases-words : goal.decreases-words
decreases-words g l = length l.rest
