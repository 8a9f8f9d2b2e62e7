use Rattle.std.proofs.Common.{◌≡◌, [], ◌∷◌, ◌++◌, sym, ◌∙◌, subst, length, arith}
use Rattle.write_log.specs.inner.Order.{IsAbove, Listed}
use Rattle.write_log.proofs.Indices.{put_new}
use Rattle.write_log.proofs.Order.{above_lacks, ordered-above, between-above}
use Rattle.write_log.proofs.pairs.Pairs.put.Goals as goal

pub invariant_of-self : goal.invariant_of-self
invariant_of-self g c =
    let ps = c.self.inside.list.items in
    let a = c.args.cell in
    let over : IsAbove a ps = subst (λ (v : Listed). IsAbove a v.pairs) (sym c.self.view_is) (c.is_above.ensures c.if-is_above.true) in
    let index : c.len.result ≡ length ps = omega (arith, c.self.inside.list.ok.0) in (
      rw (c.push_reserved.ensures.items, c.push_entry.ensures.items, index) (ordered-above a c.args.word ps c.self.inside.order.items over c.self.invariant.0),
      rw (c.push_reserved.ensures.items, c.min-self-inside.ensures, c.from.ensures) (between-above a c.args.word c.self.inside.least c.self.inside.above ps over c.self.invariant.1),
      omega (arith, c.self.invariant.2, c.push_reserved.ensures.capacity),
      omega (arith, c.self.invariant.3, c.push_entry.ensures.capacity),
    )

pub returns-then-is_above-clause-pairs : goal.returns-then-is_above-clause-pairs
returns-then-is_above-clause-pairs g c =
    let ps = c.self.inside.list.items in
    let a = c.args.cell in
    let over : IsAbove a ps = subst (λ (v : Listed). IsAbove a v.pairs) (sym c.self.view_is) (c.is_above.ensures c.if-is_above.true) in
    let stored : c.push_reserved.new.self.items ≡ ps ++ (a, c.args.word) ∷ [] = c.push_reserved.ensures.items in
    rw (← c.self.view_is) (stored ∙ sym (put_new a c.args.word ps (above_lacks a ps over)))
