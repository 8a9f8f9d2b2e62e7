use Rattle.std.proofs.Common.{◌<◌, [], length, get_or, ap, ◌∙◌, arith}
use Rattle.std.proofs.lemmas.List.{get_or_default}
use Rattle.safety.specs.inner.Graphs.{SearchState, all_visited}
use Rattle.safety.proofs.Closing.{finished, next_within, closing_more, queue_fits}
use Rattle.safety.proofs.closure.close.Goals as goal

pub returns-then-at-len : goal.returns-then-at-len
returns-then-at-len g c =
    let s : SearchState = record { members = c.each.members; queue = c.each.queue } in
    finished c.args.callers.now s c.each.at c.each.invariant (omega (arith, c.if-at-len.true, c.len.ensures))

pub offset_bounds-callers-next : goal.offset_bounds-callers-next
offset_bounds-callers-next g c =
    let s : SearchState = record { members = c.each.members; queue = c.each.queue } in
    let within = next_within c.args.callers.now s c.each.at (get_or c.as_slice.result.now c.each.at 0) c.each.invariant (omega (arith, c.if-at-len.false, c.len.ensures)) (ap (λ xs. get_or xs c.each.at 0) c.as_slice.ensures) in
    omega (arith, within)

pub bounds-callers-next : goal.bounds-callers-next
bounds-callers-next g c =
    let s : SearchState = record { members = c.each.members; queue = c.each.queue } in
    next_within c.args.callers.now s c.each.at (get_or c.as_slice.result.now c.each.at 0) c.each.invariant (omega (arith, c.if-at-len.false, c.len.ensures)) (ap (λ xs. get_or xs c.each.at 0) c.as_slice.ensures)

pub each-preserved : goal.each-preserved
each-preserved g c =
    let callers = c.args.callers.now in
    let at = c.each.at in
    let s : SearchState = record { members = c.each.members; queue = c.each.queue } in
    let t : SearchState = record { members = c.visit_all.new.members; queue = c.visit_all.new.queue } in
    let next = get_or c.as_slice.result.now at 0 in
    let less : at < length c.each.queue = omega (arith, c.if-at-len.false, c.len.ensures) in
    let is = ap (λ xs. get_or xs at 0) c.as_slice.ensures in
    let within = next_within callers s at next c.each.invariant less is in
    let all = c.as_slice-in-each.ensures ∙ c.index-callers-next.is ∙ get_or_default callers next c.index-callers-next.result [] within in
    closing_more callers s t at next c.requires.within c.each.invariant less is (c.in_ok-visit_all.ensures ∙ ap (all_visited s) all)

pub returns : goal.returns
returns g c =
    let s : SearchState = record { members = c.each.members; queue = c.each.queue } in
    let fits = queue_fits c.args.callers.now s c.each.invariant.known in
    finished c.args.callers.now s c.each.at c.each.invariant (omega (arith, fits, c.each-test.false))
