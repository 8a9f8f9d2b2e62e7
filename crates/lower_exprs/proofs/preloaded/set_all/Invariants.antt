use Rattle.std.proofs.Common.{◌≡◌, ◌+◌, ◌++◌, drop}
use Rattle.selection.specs.Programs.{all_set}
use Rattle.lower_exprs.proofs.preloaded.set_all.Given as goal

-- what is set and what is to come are all
abbrev pub invariant-each : goal.invariant-each
invariant-each g l = record {
  register : l.register ≡ l.first + l.word-index;
  code : l.code.items ++ all_set l.register (drop l.word-index l.words) ≡ l.fn.code.items ++ all_set l.first l.words;
}
