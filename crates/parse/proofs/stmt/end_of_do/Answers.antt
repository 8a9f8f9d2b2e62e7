use Rattle.lex.specs.declared.token.Fixed.TheVariants.{Keyword, Punctuator}
use Rattle.lex.specs.declared.token.Keyword.TheVariants as key
use Rattle.lex.specs.declared.token.Punctuator.TheVariants as punct
use Rattle.lex.specs.Tokens.{toks}
use Rattle.syntax.specs.Views.{expr_of}
use Rattle.parse.specs.inner.Reading.{before}
use Rattle.parse.specs.inner.Expressions.{whole_at}
use Rattle.parse.specs.inner.Statements.{in_parens}
use Rattle.parse.proofs.code.Braces.{behind_is}
use Rattle.parse.proofs.code.Made.{closes}
use Rattle.parse.proofs.stmt.end_of_do.Goals as goal

pub returns : goal.returns
returns g c =
    rw (behind_is (Keyword key.While) (before (Punctuator punct.Semicolon) (in_parens (whole_at c.args.depth))) (toks c.args.tokens.now) (toks c.in_ok-rest.rest.now) c.in_ok-rest.ensures)
    (closes expr_of (Punctuator punct.Semicolon) (in_parens (whole_at c.args.depth)) (toks c.in_ok-rest.rest.now) c.in_parens.result c.expect_close.result c.in_parens.ensures c.expect_close.ensures)
