use Rattle.parse.specs.Faults.{source_of}
use Rattle.serving.proofs.all_outcomes.list_outcomes.Goals as goal

pub returns-in-Ok-outcomes_in-clause-are : goal.returns-in-Ok-outcomes_in-clause-are
returns-in-Ok-outcomes_in-clause-are g c = record {
  source = source_of c.in-Ok.compiled.accepted.safe.typed.unit;
  spelled = c.in-Ok.ensures.source;
  accepted = c.in-Ok.compiled.accepted.accepted;
  are = c.in-Ok-outcomes_in.ensures.are;
}
