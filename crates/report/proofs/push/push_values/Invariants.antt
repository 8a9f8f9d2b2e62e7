use Rattle.std.proofs.Common.{◌≡◌, ◌++◌, drop}
use Rattle.report.specs.Report.{values_text}
use Rattle.report.proofs.push.push_values.Given as goal

-- what is written and what is to come make up the whole
abbrev pub invariant-words : goal.invariant-words
invariant-words g l = l.report.items ++ values_text l.ty (drop l.word-index l.words) ≡ l.initial.report.items ++ values_text l.ty l.words
