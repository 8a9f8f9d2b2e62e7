use Rattle.norec_core.proofs.LawsOfSteps.{begins, snapshots, entries, reads, pairs, release, effect}
use Rattle.norec_core.proofs.Ending.{commit_ends}
use Rattle.norec_core.proofs.laws.steps.Goals as goal

pub returns-clause-begins : goal.returns-clause-begins
returns-clause-begins g c = begins

pub returns-clause-snapshots : goal.returns-clause-snapshots
returns-clause-snapshots g c = snapshots

pub returns-clause-entries : goal.returns-clause-entries
returns-clause-entries g c = entries

pub returns-clause-reads : goal.returns-clause-reads
returns-clause-reads g c = reads

pub returns-clause-stores : goal.returns-clause-stores
returns-clause-stores g c = pairs

pub returns-clause-release : goal.returns-clause-release
returns-clause-release g c = release

pub returns-clause-effect : goal.returns-clause-effect
returns-clause-effect g c = effect

pub returns-clause-ends : goal.returns-clause-ends
returns-clause-ends g c = commit_ends
