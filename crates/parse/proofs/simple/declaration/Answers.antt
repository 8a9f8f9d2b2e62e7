use Rattle.std.proofs.Common.{◌-◌, arith}
use Rattle.lex.specs.Tokens.{toks}
use Rattle.parse.proofs.code.Within.{declaration_start}
use Rattle.parse.proofs.simple.declaration.Goals as goal

pub returns : goal.returns
returns g c = rw (declaration_start c.args.depth (c.args.depth - 1) (toks c.args.tokens.now) (omega arith)) c.declaration_over.ensures
