use Rattle.syntax.proofs.typing.ValueTypes.{gives_its_type}
use Rattle.syntax.proofs.words.Words.{gives_words}
use Rattle.syntax.proofs.laws.values_fit.Goals as goal

pub returns-clause-types : goal.returns-clause-types
returns-clause-types c = gives_its_type

pub returns-clause-words : goal.returns-clause-words
returns-clause-words c = gives_words
