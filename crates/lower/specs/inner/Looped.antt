-- The constants that are operands in a function's loops, as collected so far.
use Rattle.selection.specs.Loops.{Looped}
use Rattle.lower.specs.declared.loops.Looped.{Looped as OwnLooped}

module _ {A : Type 0} where
  abbrev pub looped_in : OwnLooped A → Looped
  looped_in l = record { lowest = l.lowest; operands = l.operands; constants = l.constants.items }
