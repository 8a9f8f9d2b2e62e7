use Rattle.std.proofs.Common.{◌≡◌, false}
use Rattle.lex.specs.Tokens.{toks}
use Rattle.parameters.specs.Definitions.{IsNameAlone}
use Rattle.parameters.proofs.Texts.{no_name, no_tokens, no_tokens_no_name}
use Rattle.parameters.proofs.definition.is_name.Goals as goal

pub returns-in-Ok-clause-no : goal.returns-in-Ok-clause-no
returns-in-Ok-clause-no c other =
    let never : IsNameAlone c.args.word.now (toks c.in-Ok.tokens.items) → ⊥ = rw c.as_slice.ensures.value at (c.is_name_alone.ensures.no other) in
    no_name _ _ c.in-Ok.ensures.ok never

pub returns-else-is_memory-clause-no : goal.returns-else-is_memory-clause-no
returns-else-is_memory-clause-no c other = no_tokens_no_name _ (no_tokens _ _ (c.is_memory.ensures c.if-is_memory.false) c.in-Err.ensures.err)
