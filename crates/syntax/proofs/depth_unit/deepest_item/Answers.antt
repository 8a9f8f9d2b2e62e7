use Rattle.std.proofs.Common.{◌-◌, ◌^◌, min, max, map, ap, sym, ◌∙◌}
use Rattle.syntax.specs.Depth.{program_depth, item_depth}
use Rattle.syntax.specs.Views.{item_of, item_of}
use Rattle.syntax.proofs.trees.Depths.{ord_max_is, cut_more, cut_all, items_more, items_all}
use Rattle.syntax.proofs.depth_unit.deepest_item.Goals as goal

pub each-preserved : goal.each-preserved
each-preserved g c =
    let all = c.args.all.now in
    let here = items_more all c.each.one-index c.one-item.result c.one-item.is c.each-test.true in
    cut_more (2 ^ 64 - 1) c.each.most c.max-most.result c.depth.result (item_depth (item_of c.one-item.result)) _ (program_depth (map item_of all)) (ap (λ front. max c.each.most (min front (2 ^ 64 - 1))) (sym here) ∙ c.each.invariant) c.depth.ensures (c.max-most.ensures ∙ ord_max_is c.each.most c.depth.result)

pub returns : goal.returns
returns g c =
    cut_all (2 ^ 64 - 1) c.each.most _ _ c.each.invariant (items_all c.args.all.now c.each.one-index c.each-test.false)
