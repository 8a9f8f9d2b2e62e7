-- The response to words that are not a request.
use Rattle.command.specs.declared.request.UsageFault.{UsageFault}
use Rattle.command.specs.declared.request.UsageFault.TheVariants.{Help, Wrong}

-- help is printed
abbrev pub IsHelp : UsageFault → Type 0
IsHelp (Help text) = Unit {0}
IsHelp _ = ⊥

-- words are refused
abbrev pub IsWrong : UsageFault → Type 0
IsWrong (Wrong text) = Unit {0}
IsWrong _ = ⊥
