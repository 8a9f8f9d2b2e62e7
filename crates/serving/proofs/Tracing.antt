-- A replay of an order of a text's program.
use Rattle.std.proofs.Common.{◌≡◌, ℕ, List, Option, subst}
use Rattle.syntax.specs.Views.{program_of}
use Rattle.parse.specs.Faults.{source_of}
use Rattle.world.specs.declared.stop.WorldStop.{WorldStop}
use Rattle.replay.specs.declared.line.Line.{Line}
use Rattle.report.specs.Printed.{Printed}
use Rattle.serving.specs.declared.program.Compiled.{Compiled}
use Rattle.serving.specs.Checks.{IsSourceOf}
use Rattle.serving.specs.Codes.{IsCodeOf}
use Rattle.serving.specs.Replays.{AreTurnsOf, IsReplayOf}
use Rattle.serving.specs.Traces.{IsOrderTraced}
use Rattle.serving.proofs.Codes.{compiles}

pub order_traced : {A : Type 0} (threads : ℕ) (order text : List ℕ) (c : Compiled A) (found slice : List Line) (made : List ℕ) (stop : Option WorldStop) (shown : Printed) → IsSourceOf text (source_of c.accepted.safe.typed.unit) → IsCodeOf (program_of c.accepted.safe.typed.unit) c.code → AreTurnsOf c.code threads order found → slice ≡ found → IsReplayOf (program_of c.accepted.safe.typed.unit) c.code threads slice made stop shown → IsOrderTraced threads order text stop shown
order_traced threads order text c found slice made stop shown spelled compiled lines same replay = record {
  code = c.code;
  made = made;
  compiled = compiles text c spelled compiled;
  found = found;
  lines = lines;
  replay = subst (λ (ls : List Line). IsReplayOf (program_of c.accepted.safe.typed.unit) c.code threads ls made stop shown) same replay;
}
