use Rattle.std.proofs.Common.{◌≡◌, ◌-◌, ◌∷◌, ◌++◌, ◌∙◌, Vec, ◌+◌, [], refl, sym, ap, subst, arith, map, take}
use Rattle.replay.specs.declared.line.Line.{Line}
use Rattle.replay.specs.Schedules.{AreSpaces, Asks, IsBad, AreRows, counts}
use Rattle.replay.proofs.Lines.{blank_next, counts_more, line_next, reads_to}
use Rattle.replay.proofs.schedule.read_rows.Goals.{in-Blank, in-Steps+else-line-left+in-Ok}
use Rattle.replay.proofs.schedule.read_rows.Goals as goal

pub returns-in-Bad-clause-fault : goal.returns-in-Bad-clause-fault
returns-in-Bad-clause-fault g c =
    let few = c.rows.invariant.few in
    (_, c.rows.at, c.rows.found.items, reads_to c.args.rows.now c.rows.at (record { ref_ptr = (0, 0); now = [] }) c.rows.found.items c.rows-test.true c.rows.invariant.lines_are (omega (arith, few)), refl, subst IsBad c.as_bytes.ensures.value c.in-Bad.ensures)

pub returns-then-line-left-clause-fault : goal.returns-then-line-left-clause-fault
returns-then-line-left-clause-fault g c =
    let few = c.rows.invariant.few in
    let more = c.if-line-left.true in
    (_, c.rows.at, c.rows.found.items, c.in-Steps.line, reads_to c.args.rows.now c.rows.at (record { ref_ptr = (0, 0); now = [] }) c.rows.found.items c.rows-test.true c.rows.invariant.lines_are (omega (arith, few)), subst (λ row. Asks row c.in-Steps.line) c.as_bytes.ensures.value c.in-Steps.ensures, omega (arith, few, more))

pub rows-preserved : goal.rows-preserved
rows-preserved g c =
    let few = c.rows.invariant.few in
    elim c.match-read_row.branch [
      | in-Blank w ↦
          let items : c.match-read_row.found.items ≡ c.rows.found.items = ap (λ (v : Vec Line _). v.items) w.found-is in
          let left : c.match-read_row.left ≡ c.rows.left = w.left-is in
          let same : counts c.match-read_row.found.items ≡ counts c.rows.found.items = ap counts items in
          record {
            lines_are = subst (AreRows (map (λ row. row.now) (take (c.rows.at + 1) c.args.rows.now))) (sym items) (blank_next c.args.rows.now c.rows.at (record { ref_ptr = (0, 0); now = [] }) c.rows.found.items c.rows-test.true c.rows.invariant.lines_are (subst AreSpaces c.as_bytes.ensures.value w.in-Blank.ensures));
            few = omega (arith, few, left, same);
          }
      | in-Steps+else-line-left+in-Ok w ↦
          let line = w.in-Steps.line in
          let items : c.match-read_row.found.items ≡ c.rows.found.items ++ line ∷ [] = ap (λ (v : Vec Line _). v.items) w.found-is ∙ w.in-Ok.ensures.items in
          let left : c.match-read_row.left ≡ c.rows.left - line.count = w.left-is in
          let less = w.if-line-left.false in
          let more : counts c.match-read_row.found.items ≡ counts c.rows.found.items + line.count = ap counts items ∙ counts_more c.rows.found.items line in
          record {
            lines_are = subst (AreRows (map (λ row. row.now) (take (c.rows.at + 1) c.args.rows.now))) (sym items) (line_next c.args.rows.now c.rows.at (record { ref_ptr = (0, 0); now = [] }) c.rows.found.items line c.rows-test.true c.rows.invariant.lines_are (subst (λ row. Asks row line) c.as_bytes.ensures.value w.in-Steps.ensures));
            few = omega (arith, few, left, less, more);
          }
    ]
