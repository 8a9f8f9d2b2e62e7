use Rattle.std.proofs.Common.{option_map}
use Rattle.lex.specs.Tokens.{toks}
use Rattle.syntax.specs.Views.{expr_of, simple_of}
use Rattle.parse.proofs.code.Climbing.{fails_along}
use Rattle.parse.proofs.code.Nodes.{rest_of_head_fails, rest_of_head_is}
use Rattle.parse.proofs.stmt.rest_of_head.Goals as goal

pub returns-in-Err : goal.returns-in-Err
returns-in-Err g c = fails_along c.in-Err.failure _ _ (λ f e. rest_of_head_fails c.args.depth (toks c.args.tokens.now) (toks c.in_ok-condition.rest.now) (option_map expr_of c.in_ok-condition.condition) f c.in_ok-condition.ensures e) c.in-Err.ensures

pub returns-in-Ok : goal.returns-in-Ok
returns-in-Ok g c = rest_of_head_is c.args.depth (toks c.args.tokens.now) (toks c.in_ok-condition.rest.now) (toks c.in-Ok.rest.now) (option_map expr_of c.in_ok-condition.condition) (option_map simple_of c.in-Ok.step) c.in_ok-condition.ensures c.in-Ok.ensures
