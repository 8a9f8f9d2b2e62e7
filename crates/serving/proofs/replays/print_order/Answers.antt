use Rattle.std.proofs.Common.{◌∙◌, arith, inl, inr, refl, string_bytes, subst}
use Rattle.std.specs.Io.KnownBytes.{Appends}
use Rattle.serving.specs.Written.{AppendsBeginning}
use Rattle.serving.proofs.Codes.{compiles}
use Rattle.serving.proofs.Parts.{printed_unrefused, printed_within}
use Rattle.serving.proofs.ReplayRuns.{lines_written}
use Rattle.serving.proofs.replays.print_order.Goals as goal

pub returns-in-Ok-write_schedule : goal.returns-in-Ok-write_schedule
returns-in-Ok-write_schedule g c =
    let found = c.in-Ok-lines_in_order.found.items in
    let asked = lines_written _ found _ c.as_slice.ensures.value c.in-Ok-lines_in_order.ensures.turns.few c.in-Ok-write_schedule.ensures in
    let bytes = c.as_bytes.ensures.value ∙ c.as_str.ensures.value in
    let code = compiles c.args.text.now c.in-Ok.compiled c.in-Ok.ensures.source c.in-Ok.ensures.code in
    record {
      within = printed_within c.print_text.result c.print_text.ensures.status;
      answers = λ ended. (string_bytes c.in-Ok-write_schedule.written, c.in-Ok.compiled.code, found, code, c.in-Ok-lines_in_order.ensures.turns, asked, subst (Appends (g.W.Write.contents c.args.out.now) (g.W.Write.contents c.print_text.new.out)) bytes (c.print_text.ensures.printed ended));
      refused = λ one. absurd (printed_unrefused c.print_text.result c.print_text.ensures.status one);
      written = inr (string_bytes c.in-Ok-write_schedule.written, (c.in-Ok.compiled.code, found, code, c.in-Ok-lines_in_order.ensures.turns, asked), subst (AppendsBeginning (g.W.Write.contents c.args.out.now) (g.W.Write.contents c.print_text.new.out)) bytes c.print_text.ensures.written);
      untouched = λ one. absurd (printed_unrefused c.print_text.result c.print_text.ensures.status one);
    }

pub returns-in-Ok-lines_in_order : goal.returns-in-Ok-lines_in_order
returns-in-Ok-lines_in_order g c =
    let four = c.out_of_memory.ensures in
    record {
      within = omega (arith, four);
      answers = λ ended. absurd (omega (arith, four, ended));
      refused = λ one. absurd (omega (arith, four, one));
      written = inl refl;
      untouched = λ one. refl;
    }
