-- The words beyond those of globals.
use Rattle.std.specs.Prelude.{List, [], ◌∷◌, drop}
use Rattle.syntax.specs.Behaviours.{Memory}
use Rattle.syntax.specs.Names.{cells}
use Rattle.syntax.specs.Tree.{Global}

-- the words beyond those of these globals
abbrev pub words_beyond : List Global → Memory → Memory
words_beyond [] ws = ws
words_beyond (g ∷ gs) ws = words_beyond gs (drop (cells g) ws)
