-- (the prover finds these unwritten too; where they are written, it refuses a wrong body sooner)
use Rattle.std.proofs.Common.{rules}
use Rattle.shared_words.proofs.opening.opening_words.Goals as goal

pub returns-clause-words : goal.returns-clause-words
returns-clause-words g c = search rules
