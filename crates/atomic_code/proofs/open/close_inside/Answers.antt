use Rattle.std.proofs.Common.{◌≡◌, ◌-◌, ◌≤◌, ap, ◌∙◌, length, take, reverse, map, arith}
use Rattle.std.proofs.lemmas.List.{length-map, length-reverse}
use Rattle.atomic_code.specs.inner.Making.{inner_of, transaction_of, with_memory}
use Rattle.atomic_code.proofs.Closing.{innermost_left_out}
use Rattle.atomic_code.proofs.open.close_inside.Goals as goal

pub returns : goal.returns
returns g c =
    let items = c.args.transaction.now.inner.items in
    let o = transaction_of {A = g.row.A.Denot} c.args.transaction.now in
    let seen = length-map (reverse items) (inner_of {A = g.row.A.Denot}) in
    let turned = length-reverse items in
    let fits = c.requires in
    let few : c.args.count ≤ length items = omega arith in
    let whole = c.len.ensures in
    let long : c.len.result ≡ length items = omega arith in
    ap (λ is. with_memory o o.mem is)
    (ap (λ xs. map (inner_of {A = g.row.A.Denot}) (reverse xs)) (c.truncate.ensures.items ∙ ap (λ n. take (n - c.args.count) items) long) ∙ innermost_left_out (inner_of {A = g.row.A.Denot}) c.args.count items few)
