use Rattle.syntax.proofs.running.Counted.{left_as_many_as_found, never_more_left}
use Rattle.syntax.proofs.words.Words.{begins_with_memory}
use Rattle.syntax.proofs.words.Memories.{leaves_memories}
use Rattle.syntax.proofs.laws.threads_leave_memories.Goals as goal

pub returns-clause-wanting : goal.returns-clause-wanting
returns-clause-wanting c = left_as_many_as_found

pub returns-clause-never_more : goal.returns-clause-never_more
returns-clause-never_more c = never_more_left

pub returns-clause-first : goal.returns-clause-first
returns-clause-first c = begins_with_memory

pub returns-clause-memories : goal.returns-clause-memories
returns-clause-memories c = leaves_memories
