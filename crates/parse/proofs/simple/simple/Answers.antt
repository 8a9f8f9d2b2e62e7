use Rattle.std.proofs.Common.{◌-◌, arith}
use Rattle.lex.specs.Tokens.{toks}
use Rattle.parse.proofs.code.Within.{simple_start}
use Rattle.parse.proofs.simple.simple.Goals as goal

pub returns : goal.returns
returns g c = rw (simple_start c.args.depth (c.args.depth - 1) (toks c.args.tokens.now) (omega arith)) c.simple_over.ensures
