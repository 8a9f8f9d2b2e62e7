use Rattle.std.proofs.Common.{◌∙◌, drop, arith, ap, sym}
use Rattle.syntax.specs.Views.{exprs_of}
use Rattle.syntax.specs.Formats.{pieces, specifiers}
use Rattle.syntax.specs.Typing.{first_unmet, HaveTypes}
use Rattle.types.specs.inner.Known.{known_in}
use Rattle.types.proofs.Formats.{literal_specifiers, specifier_more}
use Rattle.types.proofs.Steps.{skip, stop}
use Rattle.types.proofs.format.check_specifiers.Goals as goal

pub directives-preserved-in-Byte : goal.directives-preserved-in-Byte
directives-preserved-in-Byte g c =
    let k = known_in c.args.names.now in
    let es = exprs_of (drop c.directives.next c.args.args.now) in (
      ap (λ ts. first_unmet (HaveTypes k ts es)) (sym (ap specifiers c.in-Byte.ensures.is ∙ literal_specifiers _ (pieces (drop c.in-Byte.behind c.args.format.now)))) ∙ c.directives.invariant.0,
      c.directives.invariant.1,
      c.in-Byte.ensures.within,
    )

pub returns-in_err-check_specifier-in-Specifier : goal.returns-in_err-check_specifier-in-Specifier
returns-in_err-check_specifier-in-Specifier g c =
    let k = known_in c.args.names.now in
    let args = c.args.args.now in
    let rest = specifiers (pieces (drop c.in-Specifier.behind c.args.format.now)) in
    let got = c.in-Some.ensures.lookup in
    stop c.check_specifier.result _ c.in_err-check_specifier-in-Specifier.field-0.0 _ _ _ (sym c.directives.invariant.0 ∙ ap (λ ps. first_unmet (HaveTypes k (specifiers ps) (exprs_of (drop c.directives.next args)))) c.in-Specifier.ensures.is ∙ specifier_more k args c.directives.next c.in-Some.arg.now c.in-Specifier.ty rest got.1 got.3.0) c.check_specifier.ensures c.in_err-check_specifier-in-Specifier.was c.from_residual.ensures

pub directives-preserved : goal.directives-preserved
directives-preserved g c =
    let k = known_in c.args.names.now in
    let args = c.args.args.now in
    let rest = specifiers (pieces (drop c.in-Specifier.behind c.args.format.now)) in
    let got = c.in-Some.ensures.lookup in (
      sym (skip c.check_specifier.result _ _ _ _ (ap (λ ps. first_unmet (HaveTypes k (specifiers ps) (exprs_of (drop c.directives.next args)))) c.in-Specifier.ensures.is ∙ specifier_more k args c.directives.next c.in-Some.arg.now c.in-Specifier.ty rest got.1 got.3.0) c.check_specifier.ensures c.in_ok-check_specifier-in-Specifier.was) ∙ c.directives.invariant.0,
      (let less = got.3.0 in omega (arith, less)),
      c.in-Specifier.ensures.within,
    )
