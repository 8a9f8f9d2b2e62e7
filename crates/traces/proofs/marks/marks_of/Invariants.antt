use Rattle.std.proofs.Common.{◌≡◌}
use Rattle.traces.specs.Marks.{marks_to}
use Rattle.traces.proofs.marks.marks_of.Given as goal

-- the marks of the first cells
abbrev pub invariant-cells : goal.invariant-cells
invariant-cells g l = l.marks ≡ marks_to l.touched.reads.items l.touched.writes.items l.found l.left l.cell
