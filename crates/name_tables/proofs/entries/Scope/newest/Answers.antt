use Rattle.std.proofs.Common.{◌∙◌, ◌≤◌, length, reverse, subst, sym, ap, arith}
use Rattle.std.proofs.lemmas.List.{length-reverse}
use Rattle.name_tables.specs.inner.Numbers.{number_in}
use Rattle.name_tables.proofs.Numbered.{found, below, local_at, seen}
use Rattle.name_tables.proofs.entries.Scope.newest.Goals as goal

pub returns-then-number-eq0 : goal.returns-then-number-eq0
returns-then-number-eq0 g c =
    let self = c.args.self.now in
    sym (found self.locals.items c.args.name.now ∙ ap (local_at self.locals.items) (sym (c.number_of-number.ensures ∙ self.numbered c.args.name.now) ∙ c.if-number-eq0.true))

pub index-requires : goal.index-requires
index-requires g c =
    let self = c.args.self.now in
    let some = c.if-number-eq0.false in
    let is = c.number_of-number.ensures ∙ self.numbered c.args.name.now in
    let few = below (reverse self.locals.items) c.args.name.now in
    let size = length-reverse self.locals.items in
    omega (arith, some, is, few, size)

pub returns : goal.returns
returns g c =
    let self = c.args.self.now in
    let ls = self.locals.items in
    let k = c.number_of-number.result in
    let some = c.if-number-eq0.false in
    let is = c.number_of-number.ensures ∙ self.numbered c.args.name.now in
    let few = subst (λ n. number_in (reverse ls) c.args.name.now ≤ n) (length-reverse ls) (below (reverse ls) c.args.name.now) in
    let within : k ≤ length ls = omega (arith, is, few) in
    sym (found ls c.args.name.now ∙ ap (local_at ls) (sym is) ∙ seen ls k c.index.result.now (omega (arith, some)) within c.index.ensures)
