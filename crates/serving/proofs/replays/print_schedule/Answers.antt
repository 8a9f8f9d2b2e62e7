use Rattle.std.proofs.Common.{◌∙◌, arith, inl, inr, refl, string_bytes, subst}
use Rattle.std.specs.Io.KnownBytes.{Appends}
use Rattle.serving.specs.Written.{AppendsBeginning}
use Rattle.serving.proofs.Codes.{compiles}
use Rattle.serving.proofs.Parts.{printed_unrefused, printed_within}
use Rattle.serving.proofs.ReplayRuns.{lines_of}
use Rattle.serving.proofs.replays.print_schedule.Goals as goal

pub returns-in-Ok-write_schedule : goal.returns-in-Ok-write_schedule
returns-in-Ok-write_schedule g c =
    let asked = lines_of c.args.seed c.args.threads c.args.count _ _ _ c.in-Ok-lines_picked.ensures.lines c.as_slice.ensures.value c.in-Ok-lines_picked.ensures.few c.in-Ok-write_schedule.ensures in
    let bytes = c.as_bytes.ensures.value ∙ c.as_str.ensures.value in
    let code = compiles c.args.text.now c.in-Ok._compiled c.in-Ok.ensures.source c.in-Ok.ensures.code in
    record {
      within = printed_within c.print_text.result c.print_text.ensures.status;
      answers = λ ended. (string_bytes c.in-Ok-write_schedule.written, c.in-Ok._compiled.code, code, asked, subst (Appends (g.W.Write.contents c.args.out.now) (g.W.Write.contents c.print_text.new.out)) bytes (c.print_text.ensures.printed ended));
      refused = λ one. absurd (printed_unrefused c.print_text.result c.print_text.ensures.status one);
      written = inr (string_bytes c.in-Ok-write_schedule.written, (c.in-Ok._compiled.code, code, asked), subst (AppendsBeginning (g.W.Write.contents c.args.out.now) (g.W.Write.contents c.print_text.new.out)) bytes c.print_text.ensures.written);
      untouched = λ one. absurd (printed_unrefused c.print_text.result c.print_text.ensures.status one);
    }

pub returns-in-Ok-lines_picked : goal.returns-in-Ok-lines_picked
returns-in-Ok-lines_picked g c =
    let four = c.out_of_memory.ensures in
    record {
      within = omega (arith, four);
      answers = λ ended. absurd (omega (arith, four, ended));
      refused = λ one. absurd (omega (arith, four, one));
      written = inl refl;
      untouched = λ one. refl;
    }
