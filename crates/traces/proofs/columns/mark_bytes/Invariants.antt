use Rattle.std.proofs.Common.{◌≡◌, drop}
use Rattle.traces.specs.Columns.{mark_text}
use Rattle.traces.proofs.columns.mark_bytes.Given as goal

-- the marks before are of other cells
abbrev pub invariant-marks : goal.invariant-marks
invariant-marks g l = mark_text l.cell l.ty (drop l.mark-index l.marks) ≡ mark_text l.cell l.ty l.marks
