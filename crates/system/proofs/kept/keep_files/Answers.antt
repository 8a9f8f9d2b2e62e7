use Rattle.std.proofs.Common.{rules}
use Rattle.system.proofs.kept.keep_files.Goals as goal
use Rattle.system.proofs.kept.keep_files.Goals.{in-Program+in_ok-keep-in-Program+in-Some+in_ok-keep-in-Program-2, in-Program+in_ok-keep-in-Program+in_default, in-Certify+in_ok-keep-in-Certify+in_ok-keep-in-Certify-2+in_ok-keep-in-Certify-3, in-Compare+in_ok-keep-in-Compare+in_ok-keep-in-Compare-2, in-Explain, in-Explain-2, in-Ask+in_ok-keep-in-Ask}

pub returns-clause-read : goal.returns-clause-read
returns-clause-read g c = elim c.match-request.branch [
  | in-Program+in_ok-keep-in-Program+in-Some+in_ok-keep-in-Program-2 w ↦ search rules
  | in-Program+in_ok-keep-in-Program+in_default w ↦ search rules
  | in-Certify+in_ok-keep-in-Certify+in_ok-keep-in-Certify-2+in_ok-keep-in-Certify-3 w ↦ search rules
  | in-Compare+in_ok-keep-in-Compare+in_ok-keep-in-Compare-2 w ↦ search rules
  | in-Explain w ↦ search rules
  | in-Explain-2 w ↦ search rules
  | in-Ask+in_ok-keep-in-Ask w ↦ search rules
]
