use Rattle.std.proofs.Common.{◌≡◌, ◌∙◌, sym, length, ◌+◌, ◌-◌, ◌<◌, arith}
use Rattle.meaning.proofs.Lookup.{newest_here, newest_before}
use Rattle.meaning.proofs.source_thread.newest.Goals as goal

pub returns-then-eq : goal.returns-then-eq
returns-then-eq c =
    let h : c.locals.i - 1 < length c.args.locals.now = omega (arith, c.locals.invariant.within) in
    let more : c.locals.i ≡ c.locals.i - 1 + 1 = omega arith in
    sym (c.locals.invariant.value ∙ newest_here c.args.locals.now (c.locals.i - 1) c.locals.i c.args.name.now _ h more (sym c.eq.ensures ∙ c.if-eq.true))

pub locals-preserved : goal.locals-preserved
locals-preserved c =
    let h : c.locals.i - 1 < length c.args.locals.now = omega (arith, c.locals.invariant.within) in
    let more : c.locals.i ≡ c.locals.i - 1 + 1 = omega arith in
    record {
      within = omega (arith, c.locals.invariant.within);
      value = c.locals.invariant.value ∙ newest_before c.args.locals.now (c.locals.i - 1) c.locals.i c.args.name.now _ h more (sym c.eq.ensures ∙ c.if-eq.false);
    }
