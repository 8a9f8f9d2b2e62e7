use Rattle.std.proofs.Common.{◌≡◌}
use Rattle.lex.specs.Tokens.{toks}
use Rattle.parameters.specs.Puts.{has_name}
use Rattle.parameters.proofs.Texts.{no_tokens, read_used}
use Rattle.parameters.proofs.put.uses.Goals as goal

pub returns-in-Ok-clause-yes : goal.returns-in-Ok-clause-yes
returns-in-Ok-clause-yes g c so =
    let is : c.has_name.result ≡ has_name c.args.name.now (toks c.in-Ok.tokens.items) = rw c.as_slice.ensures.value at c.has_name.ensures in
    read_used _ _ _ c.has_name.result c.in-Ok.ensures.ok is so

pub returns-else-is_memory-clause-yes : goal.returns-else-is_memory-clause-yes
returns-else-is_memory-clause-yes g c so ts lexed = absurd (no_tokens _ _ (c.is_memory.ensures c.if-is_memory.false) c.in-Err.ensures.err ts lexed)
