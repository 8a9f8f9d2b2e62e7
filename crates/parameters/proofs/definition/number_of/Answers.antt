use Rattle.parameters.proofs.Words.{only_signed, value_read}
use Rattle.parameters.proofs.definition.number_of.Goals as goal

pub returns-else-eq : goal.returns-else-eq
returns-else-eq c = value_read c.args.threads c.args.value.now c.signed-else-eq.result c.eq.result c.eq.ensures c.if-eq.false c.signed-else-eq.ensures

pub returns-in_default : goal.returns-in_default
returns-in_default c = rw c.in_default.is (only_signed c.args.value.now c.signed.result c.signed.ensures)
