use Rattle.syntax.proofs.running.Ticks.{ticks_never_grow}
use Rattle.syntax.proofs.running.Contexts.{stays_in_context}
use Rattle.syntax.proofs.words.WordsStay.{words_stay}
use Rattle.syntax.proofs.locals.Expressions.{keeps_locals}
use Rattle.syntax.proofs.locals.OlderLocals.{keeps_older_locals}
use Rattle.syntax.proofs.laws.statements_keep.Goals as goal

pub returns-clause-ticks : goal.returns-clause-ticks
returns-clause-ticks c = ticks_never_grow

pub returns-clause-context : goal.returns-clause-context
returns-clause-context c = stays_in_context

pub returns-clause-words : goal.returns-clause-words
returns-clause-words c = words_stay

pub returns-clause-locals : goal.returns-clause-locals
returns-clause-locals c = keeps_locals

pub returns-clause-older_locals : goal.returns-clause-older_locals
returns-clause-older_locals c = keeps_older_locals
