use Rattle.lex.specs.declared.token.Fixed.TheVariants.{Punctuator}
use Rattle.lex.specs.declared.token.Punctuator.TheVariants as punct
use Rattle.lex.specs.Tokens.{toks}
use Rattle.parse.specs.inner.Reading.{expect_span}
use Rattle.parse.proofs.code.Made.{closes}
use Rattle.parse.proofs.plain.alone.Goals as goal

pub returns : goal.returns
returns c = closes (λ x. x) (Punctuator punct.Semicolon) (expect_span c.args.fixed) (toks c.args.tokens.now) c.expect_span.result c.expect_close.result c.expect_span.ensures c.expect_close.ensures
