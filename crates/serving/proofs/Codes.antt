-- The program of a text, with its code.
use Rattle.std.proofs.Common.{ℕ, List}
use Rattle.syntax.specs.Views.{program_of}
use Rattle.parse.specs.Faults.{source_of}
use Rattle.serving.specs.declared.program.Compiled.{Compiled}
use Rattle.serving.specs.Codes.{Compiles, IsCodeOf}
use Rattle.bytecode.specs.Code.{Code}
use Rattle.serving.specs.Checks.{Accepts, IsSourceOf}

abbrev pub compiles : {A : Type 0} (text : List ℕ) (c : Compiled A) → IsSourceOf text (source_of c.accepted.safe.typed.unit) → IsCodeOf (program_of c.accepted.safe.typed.unit) c.code → Compiles text c.code
compiles text c spelled compiled = record {
  source = source_of c.accepted.safe.typed.unit;
  spelled = spelled;
  accepted = c.accepted.accepted;
  compiled = compiled;
}

-- the program is accepted
pub accepts : (text : List ℕ) (code : Code) → Compiles text code → Accepts text
accepts text code c = record { source = c.source; spelled = c.spelled; accepted = c.accepted }
