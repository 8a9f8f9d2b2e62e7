use Rattle.std.proofs.Common.{◌≡◌, drop}
use Rattle.selection.specs.Expressions.{preloaded_from}
use Rattle.lower_exprs.proofs.preloaded.preloaded.Given as goal

-- none of the constants that were passed is the word
abbrev pub invariant-each : goal.invariant-each
invariant-each g l = preloaded_from l.fn.lists.writable l.fn.lists.constants.items l.word ≡ preloaded_from l.register (drop l.constant-index l.fn.lists.constants.items) l.word
