use Rattle.std.proofs.Common.{◌∙◌, ap}
use Rattle.std.proofs.lemmas.Option.{IfSome_then}
use Rattle.syntax.specs.Meaning.{expr}
use Rattle.meaning.proofs.Parts.{call_is, parenthesized_is}
use Rattle.meaning.proofs.left.+call_in.Goals as goal

pub returns-in-Call : goal.returns-in-Call
returns-in-Call g t c = λ p call. ap (expr p call) (call_is c.args.e.now c.in-Call.f c.in-Call.args c.as_slice.result.now c.in-Call.at c.in-Call.is c.as_slice.ensures)

pub returns-in-Parenthesized : goal.returns-in-Parenthesized
returns-in-Parenthesized g t c =
    IfSome_then c.call_in.result c.call_in.ensures
    (λ w h p call. ap (expr p call) (parenthesized_is c.args.e.now c.in-Parenthesized.e c.get.result.now c.in-Parenthesized.field-1 c.in-Parenthesized.is c.get.ensures) ∙ h p call)
