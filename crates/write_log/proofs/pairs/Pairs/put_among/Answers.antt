use Rattle.std.proofs.Common.{subst}
use Rattle.write_log.specs.inner.Order.{IsPlace}
use Rattle.write_log.proofs.pairs.Pairs.put_among.Goals as goal

pub replace-requires : goal.replace-requires
replace-requires g c = rw (← c.self.view_is) (subst (λ xs. IsPlace c.args.cell xs c.in-Some.index) c.as_slice.ensures.value c.in-Some.ensures)
