use Rattle.lex.specs.declared.token.Fixed.TheVariants.{Punctuator}
use Rattle.lex.specs.declared.token.Punctuator.TheVariants as punct
use Rattle.lex.specs.Tokens.{toks}
use Rattle.syntax.specs.Grammar.{the_length}
use Rattle.parse.specs.inner.Reading.{before, take}
use Rattle.parse.proofs.code.Braces.{behind_is}
use Rattle.parse.proofs.code.Made.{closes}
use Rattle.parse.proofs.globals.array_length.Goals as goal

pub returns : goal.returns
returns c =
    rw (behind_is (Punctuator punct.OpenBracket) (before (Punctuator punct.CloseBracket) (take the_length)) (toks c.args.tokens.now) (toks c.in_ok-rest.rest.now) c.in_ok-rest.ensures)
    (closes (λ x. x) (Punctuator punct.CloseBracket) (take the_length) (toks c.in_ok-rest.rest.now) c.length.result c.expect_close.result c.length.ensures c.expect_close.ensures)
