use Rattle.std.proofs.Common.{◌-◌, ◌^◌, min, max, map, option_map, ap, sym, ◌∙◌}
use Rattle.syntax.specs.Depth.{deepest_value, optional_depth}
use Rattle.syntax.specs.Views.{declarator_of, expr_of}
use Rattle.syntax.proofs.trees.Depths.{ord_max_is, cut_more, cut_all, first_more, first_all}
use Rattle.syntax.proofs.depth_stmt.deepest_first.Goals as goal

pub each-preserved : goal.each-preserved
each-preserved g c =
    let all = c.args.all.now in
    let here = first_more all c.each.one-index c.one-item.result c.one-item.is c.each-test.true in
    cut_more (2 ^ 64 - 1) c.each.most c.max-most.result c.option_depth.result (optional_depth (option_map expr_of c.one-item.result.first)) _ (deepest_value (map declarator_of all)) (ap (λ front. max c.each.most (min front (2 ^ 64 - 1))) (sym here) ∙ c.each.invariant) c.option_depth.ensures (c.max-most.ensures ∙ ord_max_is c.each.most c.option_depth.result)

pub returns : goal.returns
returns g c =
    cut_all (2 ^ 64 - 1) c.each.most _ _ c.each.invariant (first_all c.args.all.now c.each.one-index c.each-test.false)
