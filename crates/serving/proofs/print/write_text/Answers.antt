use Rattle.std.proofs.Common.{◌≤◌, length, take, subst, sym}
use Rattle.std.specs.Io.KnownBytes.{Appends}
use Rattle.serving.proofs.Parts.{part_unchanged, part_more, part_within}
use Rattle.serving.proofs.print.write_text.Goals as goal
use Rattle.serving.proofs.print.write_text.Goals.{in-Ok, in-Err+else-ne}

pub turns-preserved : goal.turns-preserved
turns-preserved g c = elim c.match-write.branch [
  | in-Ok w ↦
      let text = c.args.text.now in
      let was = c.turns.invariant in
      record {
        within = subst (λ n. n ≤ length text) (sym w.written-is) (part_within c.turns.written w.in-Ok.count text was.within w.in-Ok.ensures.bound);
        appended = subst (λ n. Appends (g.W.Write.contents c.args.out.now) (g.W.Write.contents c.write.new.self) (take n text)) (sym w.written-is) (part_more _ _ _ c.turns.written w.in-Ok.count text was.appended w.in-Ok.ensures.bytes);
      }
  | in-Err+else-ne w ↦
      let text = c.args.text.now in
      let was = c.turns.invariant in
      record {
        within = subst (λ n. n ≤ length text) (sym w.written-is) was.within;
        appended = subst (λ n. Appends (g.W.Write.contents c.args.out.now) (g.W.Write.contents c.write.new.self) (take n text)) (sym w.written-is) (part_unchanged _ _ _ _ was.appended w.in-Err.ensures.bytes);
      }
]
