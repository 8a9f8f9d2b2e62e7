use Rattle.std.proofs.Common.{map}
use Rattle.lex.specs.declared.token.Fixed.TheVariants.{Punctuator}
use Rattle.lex.specs.declared.token.Punctuator.TheVariants as punct
use Rattle.lex.specs.Tokens.{toks}
use Rattle.syntax.specs.Views.{declarator_of}
use Rattle.parse.specs.inner.Reading.{comma_list}
use Rattle.parse.specs.inner.Expressions.{whole_at}
use Rattle.parse.specs.inner.Statements.{declarator}
use Rattle.parse.proofs.code.Made.{closes}
use Rattle.parse.proofs.simple.declarators.Goals as goal

pub returns : goal.returns
returns g c = closes (λ ds. map declarator_of ds) (Punctuator punct.Semicolon) (comma_list (declarator (whole_at c.args.depth))) (toks c.args.tokens.now) c.comma_list.result c.expect_close.result c.comma_list.ensures c.expect_close.ensures
