use Rattle.std.proofs.Common.{Ok, map, sym, ap, ◌∙◌}
use Rattle.lex.specs.Tokens.{toks}
use Rattle.syntax.specs.Views.{expr_of}
use Rattle.syntax.proofs.trees.Seen.{stmt_of_print}
use Rattle.parse.proofs.code.Nodes.{print_stmt_is}
use Rattle.parse.proofs.plain.print_stmt.Goals as goal

pub returns : goal.returns
returns g c =
    print_stmt_is c.args.depth (toks c.args.tokens.now) (toks c.in_ok-span.rest.now) (toks c.in_ok-rest.rest.now) (toks c.in_ok-format.rest.now) (toks c.in_ok-arguments.rest.now) c.in_ok-span.span (c.in_ok-format.format, c.in_ok-format.format_span) (map expr_of c.in_ok-arguments.arguments)
    c.in_ok-span.ensures c.in_ok-rest.ensures c.in_ok-format.ensures c.in_ok-arguments.ensures
    ∙ ap (λ s. Ok (s, toks c.in_ok-arguments.rest.now)) (sym (stmt_of_print c.in_ok-span.span c.in_ok-format.format c.in_ok-format.format_span c.in_ok-arguments.arguments))
