use Rattle.lex.specs.Tokens.{toks}
use Rattle.syntax.specs.Views.{start_of}
use Rattle.parse.proofs.code.Climbing.{fails_along}
use Rattle.parse.proofs.code.Nodes.{head_of_for_fails}
use Rattle.parse.proofs.stmt.head_of_for.Goals as goal

pub returns-in-Err : goal.returns-in-Err
returns-in-Err g c = fails_along c.in-Err.failure _ _ (λ f e. head_of_for_fails c.args.depth (toks c.args.tokens.now) (toks c.in_ok-rest.rest.now) (toks c.in_ok-start.rest.now) (start_of c.in_ok-start.start) f c.in_ok-rest.ensures c.in_ok-start.ensures e) c.in-Err.ensures
