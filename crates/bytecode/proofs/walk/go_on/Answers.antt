use Rattle.std.proofs.Common.{ap, ◌∙◌}
use Rattle.bytecode.specs.Views.{instr_of}
use Rattle.bytecode.specs.inner.Walking.{way_of}
use Rattle.bytecode.proofs.Answering.{item_of}
use Rattle.bytecode.proofs.walk.go_on.Goals as goal

pub returns-clause-went : goal.returns-clause-went
returns-clause-went g c = λ arguments i s. rw (← (c.way_on-way.ensures arguments ∙ ap way_of (item_of (instr_of arguments) c.args.instrs.now c.args.at _ i c.requires s))) (c.go_by.ensures.went arguments)
