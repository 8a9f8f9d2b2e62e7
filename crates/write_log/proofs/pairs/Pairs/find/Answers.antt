use Rattle.std.proofs.Common.{◌<◌, ◌≤◌, Err, ◌⊎◌, inl, inr, subst, arith}
use Rattle.write_log.specs.inner.Order.{IsIndexed}
use Rattle.write_log.proofs.Order.{ordered-distinct, indexed-missing, outside}
use Rattle.write_log.proofs.pairs.Pairs.find.Goals as goal
use Rattle.write_log.proofs.pairs.Pairs.find.Goals.{then-cell-self-via-then-cell-self, then-cell-self-via-else-cell-self+then-self-from}

pub returns-then-cell-self-clause-found : goal.returns-then-cell-self-clause-found
returns-then-cell-self-clause-found g c =
    let out : (c.args.cell < c.self.inside.least) ⊎ (c.self.inside.above ≤ c.args.cell) =
    elim c.then-cell-self.branch [
      | then-cell-self-via-then-cell-self w ↦ inl w.if-cell-self.true
      | then-cell-self-via-else-cell-self+then-self-from w ↦ inr (omega (arith, w.if-self-from.true, w.from.ensures))
    ] in
    rw (← c.self.view_is) (outside c.args.cell c.self.inside.least c.self.inside.above c.self.inside.list.items c.self.invariant.1 out)

pub returns-then-cell-self-clause-distinct : goal.returns-then-cell-self-clause-distinct
returns-then-cell-self-clause-distinct g c = rw (← c.self.view_is) (ordered-distinct c.self.inside.list.items c.self.inside.order.items c.self.invariant.0)

pub returns-in-Ok-clause-distinct : goal.returns-in-Ok-clause-distinct
returns-in-Ok-clause-distinct g c = rw (← c.self.view_is) (ordered-distinct c.self.inside.list.items c.self.inside.order.items c.self.invariant.0)

pub returns-in-Err-clause-found : goal.returns-in-Err-clause-found
returns-in-Err-clause-found g c =
    let a = c.args.cell in
    let ps = c.self.inside.list.items in
    let order = c.self.inside.order.items in
    let k = c.in-Err.field-0 in
    let of_list = subst (λ xs. IsIndexed a xs c.as_slice-2.result.now (Err k)) c.as_slice.ensures.value c.in-Err.ensures.found in
    rw (← c.self.view_is) (indexed-missing a ps order k c.self.invariant.0 (subst (λ xs. IsIndexed a ps xs (Err k)) c.as_slice-2.ensures.value of_list))

pub returns-in-Err-clause-distinct : goal.returns-in-Err-clause-distinct
returns-in-Err-clause-distinct g c = rw (← c.self.view_is) (ordered-distinct c.self.inside.list.items c.self.inside.order.items c.self.invariant.0)
