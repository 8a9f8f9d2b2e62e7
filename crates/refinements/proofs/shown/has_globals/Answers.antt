use Rattle.std.proofs.Common.{Contains, map, refl, sym, ◌∙◌}
use Rattle.std.proofs.lemmas.Bool.{false≢true}
use Rattle.report.specs.Views.{shown_of}
use Rattle.refinements.proofs.Among.{all_more, all_over, all_start, not_all}
use Rattle.refinements.proofs.shown.has_globals.Goals as goal

pub wanted-init : goal.wanted-init
wanted-init g c = all_start (Contains (map shown_of c.args.globals.now)) shown_of c.args.wanted.now

pub wanted-preserved : goal.wanted-preserved
wanted-preserved g c =
    all_more (Contains (map shown_of c.args.globals.now)) shown_of c.args.wanted.now c.wanted.one-index c.one-item.result c.wanted.invariant c.one-item.is c.wanted-test.true (c.has_global.ensures.0 c.if-not-has_global.false)

pub returns-then-not-has_global : goal.returns-then-not-has_global
returns-then-not-has_global g c = (
  λ no. absurd (false≢true no),
  λ all. absurd (not_all (Contains (map shown_of c.args.globals.now)) shown_of c.args.wanted.now c.wanted.one-index c.one-item.result c.one-item.is c.wanted-test.true (λ has. false≢true (sym c.if-not-has_global.true ∙ c.has_global.ensures.1 has)) all),
)

pub returns : goal.returns
returns g c = (λ yes. all_over (Contains (map shown_of c.args.globals.now)) shown_of c.args.wanted.now c.wanted.one-index c.wanted.invariant c.wanted-test.false, λ all. refl)
