-- Why a source's text is refused.
use Rattle.std.specs.Prelude.{◌≡◌, ◌⊎◌, ℕ, List, Option, Some, None, is_some, true}
use Rattle.lex.specs.declared.token.Span.{Span}
use Rattle.lex.specs.Faults as lex
use Rattle.parse.specs.Faults as parse
use Rattle.lex.specs.Tokens.{Tok}
use Rattle.lex.specs.Pieces.{IsLexed}
use Rattle.lex.specs.Faults.{IsFault}
use Rattle.syntax.specs.Grammar.{ParsedSource}
use Rattle.syntax.specs.Typing.{Meets, first_unmet}
use Rattle.syntax.specs.Violations.{number_of, told_of}
use Rattle.syntax.specs.declared.violation.Violation.{Violation}
use Rattle.safety.specs.Faults.{IsSafetyFault}
use Rattle.separation.specs.Touching.{IsSeparationFault}
use Rattle.parse.specs.Faults.{IsParseFaultOf as IsParseFault}
use Rattle.meaning.specs.InOrder.{IsFaultOfOrder, number_in as order_number}
use Rattle.serving.specs.declared.program.SourceFault.{SourceFault}
use Rattle.serving.specs.declared.program.SourceFault.TheVariants.{OutOfMemory, Lex, Parse, Broken, NoCode}
use Rattle.serving.specs.declared.program.SourceFault.TheVariants.{NoCode}
use Rattle.lower.specs.Answers as lower
use Rattle.serving.specs.declared.source.OrderFault.{OrderFault}
use Rattle.serving.specs.declared.source.OrderFault.TheVariants.{Source as OfSource, Order as OfOrder}
use Rattle.serving.specs.Checks.{Accepts, IsSourceOf}

-- the tokens of a text have this fault
pub record IsMisspelled (text : List ℕ) (says : List Tok → Type 0) : Type 0 where
  pub tokens : List Tok
  pub lexed : IsLexed text tokens
  pub fault : says tokens

-- the first demand that the program of a text violates is of this rule and at this position
pub record IsMistyped (text : List ℕ) (v : Violation) : Type 0 where
  pub source : ParsedSource
  pub spelled : IsSourceOf text source
  pub first : Some (told_of v) ≡ first_unmet (Meets source.ends source.program)

-- the program that a text spells first breaks a rule of safety here
pub record IsUnsafe (text : List ℕ) (v : Violation) : Type 0 where
  pub source : ParsedSource
  pub spelled : IsSourceOf text source
  pub first : IsSafetyFault (number_of v.rule) v.at source.program

-- the program that a text spells first breaks a rule of separation here
pub record IsNotSeparate (text : List ℕ) (v : Violation) : Type 0 where
  pub source : ParsedSource
  pub spelled : IsSourceOf text source
  pub first : IsSeparationFault (number_of v.rule) v.at source.program

-- the meaning of a fault for a text, if no code is generated: never one of code; an allocation failure implies nothing
abbrev pub IsFaultOfSource : List ℕ → SourceFault → Type 0
IsFaultOfSource text OutOfMemory = Unit {0}
IsFaultOfSource text (Lex fault) = IsFault text fault
IsFaultOfSource text (Parse fault) = IsMisspelled text (λ tokens. IsParseFault tokens fault)
IsFaultOfSource text (Broken v) = IsMistyped text v ⊎ IsUnsafe text v ⊎ IsNotSeparate text v
IsFaultOfSource text (NoCode fault) = ⊥

-- the meaning of a fault for a text and for an order: the order is checked last
abbrev pub IsFaultInOrder : (text : List ℕ) (threads : ℕ) (order : List ℕ) → OrderFault → Type 0
IsFaultInOrder text threads order (OfSource fault) = IsFaultOfSource text fault
IsFaultInOrder text threads order (OfOrder fault) = Accepts text × IsFaultOfOrder threads order fault

abbrev pub number_of_source : SourceFault → ℕ
number_of_source OutOfMemory = 0
number_of_source (Lex fault) = lex.number_of fault
number_of_source (Parse fault) = parse.number_of fault
number_of_source (Broken v) = number_of v.rule
number_of_source (NoCode fault) = lower.number_of fault

abbrev pub number_of_order : OrderFault → ℕ
number_of_order (OfSource fault) = number_of_source fault
number_of_order (OfOrder fault) = order_number fault

abbrev pub span_of_source : SourceFault → Option Span
span_of_source OutOfMemory = None
span_of_source (Lex fault) = lex.span_of fault
span_of_source (Parse fault) = parse.span_of fault
span_of_source (Broken v) = Some v.at
span_of_source (NoCode fault) = lower.span_of fault

-- a text has a fault of this kind at some position in it
abbrev pub IsFaulty : (List ℕ → SourceFault → Type 0) → List ℕ → Type 0
IsFaulty IsFaultOf text = (fault : SourceFault) × IsFaultOf text fault × (is_some (span_of_source fault) ≡ true)

-- the program breaks a rule of the language at a position
abbrev pub IsRefused : List ℕ → Type 0
IsRefused text = IsFaulty IsFaultOfSource text
