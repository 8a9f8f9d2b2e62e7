-- The layout of the functions' codes, one after another.
use Rattle.std.specs.Prelude.{◌≡◌, ◌<◌, List, [], ◌∷◌}
use Rattle.bytecode.specs.Code.{Code, FunctionCode}
use Rattle.bytecode.specs.Valid.{end_before}

-- each of the last functions begins before its end
abbrev pub StartBeforeEnds : Code → List FunctionCode → Type 0
StartBeforeEnds code [] = Unit {0}
StartBeforeEnds code (f ∷ fs) = (f.first < end_before code fs) × StartBeforeEnds code fs

-- the first function begins at 0, and each has an instruction
abbrev pub AreLaidOut : Code → Type 0
AreLaidOut code = (end_before code code.functions ≡ 0) × StartBeforeEnds code code.functions
