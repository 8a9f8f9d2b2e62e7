use Rattle.std.proofs.Common.{length, ap}
use Rattle.name_tables.specs.Named.{first, newest}
use Rattle.types.specs.inner.Known.{known_as, known_in}
use Rattle.types.proofs.table.ScopeTable.new.Goals as goal

pub returns-clause-known : goal.returns-clause-known
returns-clause-known g c = unfold known_in in (λ i x. known_as (newest (c.new-2.ensures i) x) (first (c.new.ensures i) x))
