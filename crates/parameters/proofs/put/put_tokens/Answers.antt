use Rattle.std.proofs.Common.{◌≡◌}
use Rattle.parameters.proofs.Texts.{first_within, second_within}
use Rattle.parameters.proofs.put.put_tokens.Goals as goal

pub part-requires-clause-within : goal.part-requires-clause-within
part-requires-clause-within g c = first_within c.args.text.now c.tokens.from _ c.args.tokens.now c.tokens.token-index _ c.tokens-test.true c.tokens.invariant.lie

pub part-token_bytes-requires-clause-within : goal.part-token_bytes-requires-clause-within
part-token_bytes-requires-clause-within g c = second_within c.args.text.now c.tokens.from _ c.args.tokens.now c.tokens.token-index _ c.tokens-test.true c.tokens.invariant.lie
