use Rattle.lex.specs.Tokens.{toks}
use Rattle.syntax.specs.Views.{simple_of}
use Rattle.parse.specs.inner.Statements.{simple_at}
use Rattle.parse.proofs.code.Made.{closes}
use Rattle.parse.proofs.simple.simple_before.Goals as goal

pub returns : goal.returns
returns g c = closes simple_of c.args.fixed (simple_at c.args.depth) (toks c.args.tokens.now) c.simple.result c.expect_close.result c.simple.ensures c.expect_close.ensures
