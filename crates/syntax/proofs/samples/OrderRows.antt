-- Small programs, run in an order.
use Rattle.std.proofs.Common.{◌≡◌, refl, [], ◌∷◌}
use Rattle.std.specs.Prelude.{codes}
use Rattle.syntax.specs.Tree as Tree
use Rattle.syntax.specs.Tree.{While, Block, Program}
use Rattle.syntax.specs.Behaviours.{Ended, Stopped, Spent, Wants}
use Rattle.syntax.specs.Threads.{thread}
use Rattle.syntax.specs.Orders.{in_order}
use Rattle.syntax.proofs.samples.Rows.{num, var, set_to, atomic, just, worker_with, global}
use Rattle.syntax.proofs.samples.MoreRows.{plus}

-- int x; W{ atomic { x = x + 1; } }
abbrev adds_one : Program
adds_one = global (codes "x") ∷ worker_with (just (atomic (just (set_to (codes "x") (plus (var (codes "x")) (num 1)))))) ∷ []

both_turns : in_order (thread adds_one) (0 ∷ []) 2 1000 (0 ∷ 1 ∷ []) ≡ record {
  memory = 2 ∷ [];
  threads = record { lefts = (1 ∷ []) ∷ []; text = []; end = Ended } ∷ record { lefts = (2 ∷ []) ∷ []; text = []; end = Ended } ∷ [];
}
both_turns = refl

-- the other thread waits for a memory
one_turn : in_order (thread adds_one) (0 ∷ []) 2 1000 (0 ∷ []) ≡ record {
  memory = 1 ∷ [];
  threads = record { lefts = (1 ∷ []) ∷ []; text = []; end = Ended } ∷ record { lefts = []; text = []; end = Stopped Wants } ∷ [];
}
one_turn = refl

-- an entry of a thread that has ended does nothing
idle_entries : in_order (thread adds_one) (0 ∷ []) 1 1000 (0 ∷ 0 ∷ []) ≡ record {
  memory = 1 ∷ [];
  threads = record { lefts = (1 ∷ []) ∷ []; text = []; end = Ended } ∷ [];
}
idle_entries = refl

-- int x; W{ atomic { while (1) { } } }: the ticks are spent inside, and the memory stays
abbrev turns_for_ever : Program
turns_for_ever = global (codes "x") ∷ worker_with (just (atomic (just (While (num 1) (Block Tree.[]))))) ∷ []

spent_inside : in_order (thread turns_for_ever) (0 ∷ []) 1 100 (0 ∷ []) ≡ record {
  memory = 0 ∷ [];
  threads = record { lefts = []; text = []; end = Stopped Spent } ∷ [];
}
spent_inside = refl
