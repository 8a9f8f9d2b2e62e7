use Rattle.std.proofs.Common.{◌∙◌}
use Rattle.workers.proofs.Opens.{has_thread}
use Rattle.workers.proofs.open.open_hall.Goals as goal

pub invariant_of-result : goal.invariant_of-result
invariant_of-result g c = record {
  key = c.in_ok-table.ensures.key;
  wide = c.in_ok-table.ensures.words;
  no_slot = c.in_ok-table.ensures.slots;
  some_thread = has_thread c.args.threads c.new-setup.result.threads c.requires c.new-setup.ensures.threads;
}

pub returns-clause-setup : goal.returns-clause-setup
returns-clause-setup g c = (c.new-setup.ensures.code ∙ c.in_ok-copy.ensures, c.new-setup.ensures.threads)
