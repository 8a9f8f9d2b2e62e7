use Rattle.std.proofs.Common.{sym, ◌∙◌}
use Rattle.lex.specs.Tokens.{toks}
use Rattle.parse.specs.inner.Headings.{heading_of}
use Rattle.parse.proofs.code.Loops.{function_goes, shared_goes}
use Rattle.parse.proofs.unit.item.Goals as goal

pub returns-then-is_next : goal.returns-then-is_next
returns-then-is_next g c = rw (function_goes c.args.depth (toks c.args.tokens.now) (toks c.in_ok-heading.rest.now) (heading_of c.in_ok-heading.heading) c.in_ok-heading.ensures (sym c.is_next.ensures ∙ c.if-is_next.true)) c.function.ensures

pub returns : goal.returns
returns g c = rw (shared_goes c.args.depth (toks c.args.tokens.now) (toks c.in_ok-heading.rest.now) (heading_of c.in_ok-heading.heading) c.in_ok-heading.ensures (sym c.is_next.ensures ∙ c.if-is_next.false)) c.shared_globals.ensures
