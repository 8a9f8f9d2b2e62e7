use Rattle.std.proofs.Common.{refl}
use Rattle.std.proofs.lemmas.Bool.{false≢true}
use Rattle.report.specs.Views.{shown_of}
use Rattle.refinements.proofs.Among.{no_global, not_this_global, nothing_before, this_global}
use Rattle.refinements.proofs.shown.has_global.Goals as goal

pub globals-init : goal.globals-init
globals-init g c = nothing_before shown_of c.args.globals.now (shown_of c.args.global.now)

pub globals-preserved : goal.globals-preserved
globals-preserved g c =
    not_this_global c.args.globals.now c.globals.one-index c.one-item.result c.args.global.now c.same.result c.same.ensures c.one-item.is c.globals-test.true c.globals.invariant c.if-same.false

pub returns-then-same : goal.returns-then-same
returns-then-same g c =
    (λ is. this_global c.args.globals.now c.globals.one-index c.one-item.result c.args.global.now c.same.result c.same.ensures c.one-item.is c.globals-test.true c.if-same.true, λ has. refl)

pub returns : goal.returns
returns g c = (
  λ no. absurd (false≢true no),
  λ has. absurd (no_global c.args.globals.now c.globals.one-index (shown_of c.args.global.now) c.globals.invariant c.globals-test.false has),
)
