-- The meaning of each fault.
use Rattle.std.specs.Prelude.{◌≡◌, ℕ, List, Option, Some, None, Result, Ok, Err}
use Rattle.lex.specs.declared.token.Span.{Span}
use Rattle.lex.specs.Tokens.{Tok}
use Rattle.syntax.specs.declared.tree.Unit.{Unit as Tree}
use Rattle.syntax.specs.Views.{program_of}
use Rattle.syntax.specs.Phrases.{IsUnexpected, IsUnfinished, IsTooDeep}
use Rattle.syntax.specs.Grammar.{ParsedSource, Spells, source_depth, deepest_program}
use Rattle.parse.specs.declared.fault.ParseFault.{ParseFault}
use Rattle.parse.specs.declared.fault.ParseFault.TheVariants as fault

abbrev pub number_of : ParseFault → ℕ
number_of fault.OutOfMemory = 0
number_of (fault.Unexpected at) = 10
number_of (fault.TooDeep at) = 11
number_of (fault.Unfinished at) = 12

abbrev pub span_of : ParseFault → Option Span
span_of fault.OutOfMemory = None
span_of (fault.Unexpected at) = Some at
span_of (fault.TooDeep at) = Some at
span_of (fault.Unfinished at) = Some at

-- the program that a unit holds, and where its last token ends
abbrev pub source_of : {A : Type 0} → Tree A → ParsedSource
source_of u = record { program = program_of u; ends = u.end }

-- what a fault implies of the tokens; an allocation failure implies nothing
abbrev pub IsParseFaultOf : List Tok → ParseFault → Type 0
IsParseFaultOf ts fault.OutOfMemory = Unit {0}
IsParseFaultOf ts (fault.Unexpected at) = IsUnexpected Spells ts at
IsParseFaultOf ts (fault.TooDeep at) = IsTooDeep Spells source_depth deepest_program ts at
IsParseFaultOf ts (fault.Unfinished at) = IsUnfinished Spells ts at

-- this program was found, unless memory ran out
abbrev pub Finds : {A : Type 0} → ParsedSource → Result (Tree A) ParseFault → Type 0
Finds s (Ok u) = source_of u ≡ s
Finds s (Err fault.OutOfMemory) = Unit {0}
Finds s (Err (fault.Unexpected at)) = ⊥
Finds s (Err (fault.TooDeep at)) = ⊥
Finds s (Err (fault.Unfinished at)) = ⊥
