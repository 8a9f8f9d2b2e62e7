use Rattle.std.proofs.Common.{◌≡◌, ◌++◌, drop}
use Rattle.pages.specs.Escaped.{escaped_text}
use Rattle.pages.proofs.escaped.push_escaped.Given as goal

-- what is written and what is to come make up the whole
abbrev pub invariant-bytes : goal.invariant-bytes
invariant-bytes g l = l.to.items ++ escaped_text (drop l.byte-index l.text) ≡ l.initial.to.items ++ escaped_text l.text
