use Rattle.std.proofs.Common.{◌<◌, ℕ, Ok, Err, sym, ap, subst, length, set, arith}
use Rattle.std.proofs.lemmas.List.{get_or_read}
use Rattle.std.proofs.Math.ListN.{length-set}
use Rattle.write_log.specs.inner.Journal.{CanUndo}
use Rattle.write_log.specs.inner.Order.{Listed, IsSearched, AreOrdered, AreBetween}
use Rattle.write_log.proofs.Order.{kept, ordered, order-removed, order-rising, order-between, ordered-popped, between-removed, ordered-same, between-same, cells-set}
use Rattle.write_log.proofs.pairs.Pairs.undo.Goals as goal

pub slot_of-requires-clause-ordered : goal.slot_of-requires-clause-ordered
slot_of-requires-clause-ordered g c = rw c.as_slice.ensures.value (order-rising c.self.inside.list.items c.self.inside.order.items c.self.invariant.0)

pub slot_of-requires-clause-between : goal.slot_of-requires-clause-between
slot_of-requires-clause-between g c = rw c.as_slice.ensures.value (order-between c.self.inside.list.items c.self.inside.order.items c.self.inside.least c.self.inside.above c.self.invariant.0 c.self.invariant.1)

pub invariant_of-self : goal.invariant_of-self
invariant_of-self g c =
    let order = c.self.inside.order.items in
    let ps = c.take_last-cell.new.self.items in
    let p = c.take_last-cell.result in
    let was = subst (λ xs. AreOrdered xs order) c.take_last-cell.ensures.items c.self.invariant.0 in
    let bounds = subst (AreBetween c.self.inside.least c.self.inside.above) c.take_last-cell.ensures.items c.self.invariant.1 in
    let searched = subst (λ xs. IsSearched p.0 xs (Ok c.in-Ok.at)) c.as_slice.ensures.value c.in-Ok.ensures in
    let whole = kept _ order (omega (arith, searched.0)) was in (
      rw c.remove.ensures.items (ordered _ _ (order-removed p ps order c.in-Ok.at whole searched)),
      between-removed p c.self.inside.least c.self.inside.above ps bounds,
      omega (arith, c.self.invariant.2, c.take_last-cell.ensures.capacity),
      omega (arith, c.self.invariant.3, c.remove.ensures.capacity),
    )

pub invariant_of-self-in_default : goal.invariant_of-self-in_default
invariant_of-self-in_default g c =
    let order = c.self.inside.order.items in
    let ps = c.take_last-cell.new.self.items in
    let p = c.take_last-cell.result in
    let was = subst (λ xs. AreOrdered xs order) c.take_last-cell.ensures.items c.self.invariant.0 in
    let bounds = subst (AreBetween c.self.inside.least c.self.inside.above) c.take_last-cell.ensures.items c.self.invariant.1 in
    let searched = subst (λ xs. IsSearched p.0 xs (Err c.in_default.field-0)) c.as_slice.ensures.value c.in_default.ensures in (
      ordered-popped p ps order c.in_default.field-0 was searched,
      between-removed p c.self.inside.least c.self.inside.above ps bounds,
      omega (arith, c.self.invariant.2, c.take_last-cell.ensures.capacity),
      c.self.invariant.3,
    )

pub invariant_of-self-in-Replaced : goal.invariant_of-self-in-Replaced
invariant_of-self-in-Replaced g c =
    let ps = c.self.inside.list.items in
    let i = c.in-Replaced.index in
    let p : ℕ × ℕ = (c.index_mut.result.now.0, c.in-Replaced.word) in
    let within = subst (λ (v : Listed). i < length v.pairs) (sym c.self.view_is) (subst (λ change. CanUndo change c.args.self.now.pairs) c.in-Replaced.is c.requires) in
    let was = get_or_read ps i c.index_mut.result.now within c.index_mut.ensures.value (0, 0) in
    let long = length-set ps i p in
    let same = cells-set ps i p (within, sym (ap (λ y. y.0) was)) in (
      ordered-same ps (set ps i p) c.self.inside.order.items long same c.self.invariant.0,
      between-same ps (set ps i p) c.self.inside.least c.self.inside.above long same c.self.invariant.1,
      c.self.invariant.2,
      c.self.invariant.3,
    )
