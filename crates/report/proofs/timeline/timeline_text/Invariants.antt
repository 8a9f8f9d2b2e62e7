use Rattle.std.proofs.Common.{◌≡◌, ◌++◌, drop}
use Rattle.std.specs.Prelude.{flat_map}
use Rattle.report.specs.Timeline.{step_line, timeline_text}
use Rattle.report.proofs.timeline.timeline_text.Given as goal

-- what is written and what is to come make up the whole
abbrev pub invariant-steps : goal.invariant-steps
invariant-steps g l = l.report.items ++ flat_map (step_line l.code) (drop l.accesses-index l.steps) ≡ timeline_text l.code l.steps
