use Rattle.std.proofs.Common.{◌≡◌, ◌==◌, ◌∙◌, true, sym, ap}
use Rattle.std.specs.Prelude.{slice_index}
use Rattle.syntax.proofs.trees.FormatDirectives.{specifier_is}
use Rattle.syntax.proofs.format.directive_at.Goals as goal

pub returns-in-Some : goal.returns-in-Some
returns-in-Some c =
    let percent : (slice_index c.args.format.now c.args.i == 37) ≡ true = ap (λ b. b == 37) c.if-byte-ne37.false in
    specifier_is c.args.format.now c.args.i (c.in-Some.ty, c.in-Some.count) c.requires percent (sym c.specifier_at.ensures.is ∙ c.in-Some.is) c.in-Some.ensures.fits
