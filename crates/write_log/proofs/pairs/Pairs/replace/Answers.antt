use Rattle.std.proofs.Common.{◌≡◌, ℕ, sym, ap, subst, set}
use Rattle.std.proofs.lemmas.List.{get_or_read}
use Rattle.std.proofs.Math.ListN.{length-set}
use Rattle.write_log.specs.inner.Order.{IsPlace, Listed}
use Rattle.write_log.proofs.Indices.{put_there}
use Rattle.write_log.proofs.Order.{ordered-distinct, replaced_back, ordered-same, between-same, cells-set}
use Rattle.write_log.proofs.pairs.Pairs.replace.Goals as goal

pub invariant_of-self : goal.invariant_of-self
invariant_of-self g c =
    let ps = c.self.inside.list.items in
    let i = c.args.index in
    let p : ℕ × ℕ = (c.args.cell, c.args.word) in
    let there = subst (λ (v : Listed). IsPlace p.0 v.pairs i) (sym c.self.view_is) c.requires in
    let long = length-set ps i p in
    let same = cells-set ps i p there in (
      ordered-same ps (set ps i p) c.self.inside.order.items long same c.self.invariant.0,
      between-same ps (set ps i p) c.self.inside.least c.self.inside.above long same c.self.invariant.1,
      c.self.invariant.2,
      c.self.invariant.3,
    )

pub returns-clause-pairs : goal.returns-clause-pairs
returns-clause-pairs g c =
    let ps = c.self.inside.list.items in
    let there = subst (λ (v : Listed). IsPlace c.args.cell v.pairs c.args.index) (sym c.self.view_is) c.requires in
    rw (← c.self.view_is) (sym (put_there c.args.cell c.args.word ps c.args.index (ordered-distinct ps c.self.inside.order.items c.self.invariant.0) there))

pub returns-clause-undone : goal.returns-clause-undone
returns-clause-undone g c =
    let ps = c.self.inside.list.items in
    let there = subst (λ (v : Listed). IsPlace c.args.cell v.pairs c.args.index) (sym c.self.view_is) c.requires in
    let before = get_or_read ps c.args.index c.index.result.now there.0 c.index.ensures (0, 0) in
    rw (← c.self.view_is) (replaced_back c.args.cell c.args.word c.index.result.now.1 ps c.args.index there (ap (λ y. y.1) before))
