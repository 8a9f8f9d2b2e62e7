use Rattle.refinements.proofs.Among.{not_shown, shown_if}
use Rattle.refinements.proofs.shown.is_shown_by.Goals as goal

pub returns-then-not-same : goal.returns-then-not-same
returns-then-not-same g c = not_shown c.args.this.now c.args.that.now c.same.result c.same.ensures c.if-not-same.true

pub returns : goal.returns
returns g c =
    shown_if c.args.this.now c.args.that.now c.same.result c.has_globals.result c.as_slice.result.now c.as_slice-2.result.now c.same.ensures c.has_globals.ensures c.as_slice.ensures c.as_slice-2.ensures c.if-not-same.false
