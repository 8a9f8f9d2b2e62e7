use Rattle.std.proofs.Common.{◌≡◌, [], ◌∷◌, ◌++◌, Ok, Err, sym, ◌∙◌, subst, length, arith}
use Rattle.write_log.specs.inner.Order.{IsPlace, IsOrderOf, IsIndexed, Listed}
use Rattle.write_log.proofs.Indices.{put_new}
use Rattle.write_log.proofs.Order.{indexed-missing, order-added, ordered, between-added}
use Rattle.write_log.proofs.pairs.Pairs.put_searched.Goals as goal

pub replace-requires : goal.replace-requires
replace-requires g c = rw (← c.self.view_is) (subst (λ xs. IsPlace c.args.cell xs c.in-Ok.index) c.as_slice.ensures.value c.in-Ok.ensures)

pub invariant_of-self : goal.invariant_of-self
invariant_of-self g c =
    let ps = c.self.inside.list.items in
    let a = c.args.cell in
    let k = c.in-Err.at in
    let index : c.len.result ≡ length ps = omega (arith, c.self.inside.list.ok.0) in
    let made = subst (λ xs. IsOrderOf xs c.keep_order.new.order.items) c.as_slice-in-Err.ensures.value c.keep_order.ensures.order in
    let of_list = subst (λ xs. IsIndexed a xs c.as_slice-2.result.now (Err k)) (c.as_slice.ensures.value ∙ sym c.as_slice-in-Err.ensures.value) c.in-Err.ensures in
    let searched = c.keep_order.ensures.same a k (subst (λ xs. IsIndexed a c.as_slice-in-Err.result.now xs (Err k)) c.as_slice-2.ensures.value of_list) in (
      rw (c.push_reserved.ensures.items, c.insert_reserved.ensures.items, index) (ordered _ _ (order-added a c.args.word ps c.keep_order.new.order.items k made searched)),
      rw (c.push_reserved.ensures.items, c.min-self-inside.ensures, c.max-self-inside.ensures, c.from.ensures) (between-added a c.args.word c.self.inside.least c.self.inside.above ps c.self.invariant.1),
      omega (arith, c.self.invariant.2, c.push_reserved.ensures.capacity),
      omega (arith, c.self.invariant.3, c.keep_order.ensures.capacity, c.insert_reserved.ensures.capacity),
    )

pub returns-in-Err-clause-pairs : goal.returns-in-Err-clause-pairs
returns-in-Err-clause-pairs g c =
    let ps = c.self.inside.list.items in
    let a = c.args.cell in
    let k = c.in-Err.at in
    let of_list = subst (λ xs. IsIndexed a xs c.as_slice-2.result.now (Err k)) c.as_slice.ensures.value c.in-Err.ensures in
    let indexed = subst (λ xs. IsIndexed a ps xs (Err k)) c.as_slice-2.ensures.value of_list in
    let stored : c.push_reserved.new.self.items ≡ ps ++ (a, c.args.word) ∷ [] = c.push_reserved.ensures.items in
    rw (← c.self.view_is) (stored ∙ sym (put_new a c.args.word ps (indexed-missing a ps c.self.inside.order.items k c.self.invariant.0 indexed)))
