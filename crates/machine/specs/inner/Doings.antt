-- The work at a thread's place.
use Rattle.frames.specs.declared.doing.Doing.{Doing}
use Rattle.frames.specs.declared.doing.Doing.TheVariants as doing

-- the work is a begin
abbrev pub IsBegin : Doing → Type 0
IsBegin (doing.Begin to) = Unit {0}
IsBegin _ = ⊥

-- the work is an operation under which an attempt is validated
abbrev pub MayValidate : Doing → Type 0
MayValidate (doing.Read d cell) = Unit {0}
MayValidate doing.Commit = Unit {0}
MayValidate doing.Irrevocable = Unit {0}
MayValidate _ = ⊥
