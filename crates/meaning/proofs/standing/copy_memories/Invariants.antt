use Rattle.std.proofs.Common.{◌≡◌, take}
use Rattle.meaning.specs.Outcomes.{memories_in}
use Rattle.meaning.proofs.standing.copy_memories.Given as goal

abbrev pub invariant-memories : goal.invariant-memories
invariant-memories g l = memories_in l.copies.items ≡ memories_in (take l.memory-index l.memories)
