use Rattle.std.proofs.Common.{◌≡◌, IfOk}
use Rattle.std.proofs.lemmas.Result.{IfOk-weaker}
use Rattle.lex.specs.Tokens.{toks}
use Rattle.lex.proofs.unique.Lies.{lie_law}
use Rattle.parameters.specs.Puts.{put_from}
use Rattle.parameters.proofs.Texts.{no_tokens, read_put, unread_put}
use Rattle.parameters.proofs.put.put_in.Goals as goal

pub put_tokens-requires : goal.put_tokens-requires
put_tokens-requires g c = rw c.as_slice.ensures.value (lie_law _ _ c.in-Ok.ensures.ok)

pub returns-in-Ok : goal.returns-in-Ok
returns-in-Ok g c =
    let are : IfOk c.put_tokens.result (λ v. v.items ≡ put_from c.args.definitions.now c.args.text.now 0 (toks c.in-Ok.tokens.items)) = rw c.as_slice.ensures.value at c.put_tokens.ensures in
    IfOk-weaker c.put_tokens.result _ _ (λ v is. read_put c.args.definitions.now c.args.text.now v.items _ c.in-Ok.ensures.ok is) are

pub returns-else-is_memory : goal.returns-else-is_memory
returns-else-is_memory g c =
    IfOk-weaker c.copied.result _ _ (λ v is. unread_put c.args.definitions.now c.args.text.now v.items (no_tokens _ _ (c.is_memory.ensures c.if-is_memory.false) c.in-Err.ensures.err) is) c.copied.ensures
