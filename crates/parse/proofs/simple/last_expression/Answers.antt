use Rattle.std.proofs.Common.{Some, Ok, refl, option_map}
use Rattle.lex.specs.declared.token.Fixed.TheVariants.{Punctuator}
use Rattle.lex.specs.declared.token.Punctuator.TheVariants as punct
use Rattle.lex.specs.Tokens.{toks}
use Rattle.syntax.specs.Views.{expr_of}
use Rattle.parse.specs.inner.Reading.{unless}
use Rattle.parse.specs.inner.Expressions.{whole_at}
use Rattle.parse.proofs.code.Made.{closes}
use Rattle.parse.proofs.simple.last_expression.Goals as goal

pub returns : goal.returns
returns g c =
    closes (option_map expr_of) (Punctuator punct.Semicolon) (unless (Punctuator punct.Semicolon) (whole_at c.args.depth)) (toks c.args.tokens.now) (Ok (Some c.in_ok-value.value, c.in_ok-value.rest)) c.expect_close.result
    (rw (c.in_default.ensures, c.in_ok-value.ensures) refl) c.expect_close.ensures
