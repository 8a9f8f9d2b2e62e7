-- The parts of workers.
use Rattle.std.specs.Prelude.{List, [], ◌∷◌, ◌++◌}
use Rattle.workers.specs.declared.worker.Worker.{Worker}
use Rattle.shared_words.specs.Views.{ViewPart}

module _ {A : Type 0} where
  -- the parts of all workers
  abbrev pub parts_back : List (Worker A) → List ViewPart
  parts_back [] = []
  parts_back (w ∷ ws) = parts_back ws ++ w.seat.me.0
