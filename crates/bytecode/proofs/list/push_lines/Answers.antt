use Rattle.std.proofs.Common.{string_bytes, map, arith}
use Rattle.bytecode.specs.Flat.{instruction_from}
use Rattle.bytecode.specs.Views.{function_of}
use Rattle.bytecode.proofs.Lines.{next_line}
use Rattle.bytecode.proofs.list.push_lines.Goals as goal

pub each-preserved : goal.each-preserved
each-preserved g c = record {
  place = omega (arith, c.each.invariant.place);
  text = next_line (instruction_from c.args.words.now) (map function_of c.args.functions.now) c.args.firsts.now c.each.first-index c.each.place 0 _ (string_bytes c.each.text) _ _ _ _ _ _ c.each-test.true c.each.invariant.text c.format.ensures.text c.in_ok-push_str.ensures.bytes c.in_ok-push_str-2.ensures.bytes c.view_at.ensures c.in_ok-push_instr.ensures c.in_ok-push_str-3.ensures.bytes;
}
