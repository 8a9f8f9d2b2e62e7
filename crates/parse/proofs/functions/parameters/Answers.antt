use Rattle.std.proofs.Common.{map}
use Rattle.lex.specs.declared.token.Fixed.TheVariants.{Punctuator}
use Rattle.lex.specs.declared.token.Punctuator.TheVariants as punct
use Rattle.lex.specs.Tokens.{toks}
use Rattle.syntax.specs.Views.{parameter_of}
use Rattle.parse.specs.inner.Reading.{before}
use Rattle.parse.specs.inner.Items.{parameter_list}
use Rattle.parse.proofs.code.Braces.{behind_is}
use Rattle.parse.proofs.code.Made.{closes}
use Rattle.parse.proofs.functions.parameters.Goals as goal

pub returns : goal.returns
returns g c =
    rw (behind_is (Punctuator punct.OpenParen) (before (Punctuator punct.CloseParen) parameter_list) (toks c.args.tokens.now) (toks c.in_ok-rest.rest.now) c.in_ok-rest.ensures)
    (closes (λ qs. map parameter_of qs) (Punctuator punct.CloseParen) parameter_list (toks c.in_ok-rest.rest.now) c.parameter_list.result c.expect_close.result c.parameter_list.ensures c.expect_close.ensures)
