use Rattle.std.proofs.Common.{◌∙◌, inr, subst}
use Rattle.std.specs.Io.KnownBytes.{Appends}
use Rattle.serving.proofs.Printing.{serves_so}
use Rattle.serving.proofs.replays.print_replay.Goals as goal

pub returns-in-Ok-clause-prints : goal.returns-in-Ok-clause-prints
returns-in-Ok-clause-prints g c =
    let text = c.as_slice.ensures.value ∙ c.in-Ok.ensures in
    serves_so c.print_for_replay.ensures.prints
    (λ says status. let printed = says status in (printed.0, subst (Appends (g.W.Write.contents c.args.out.now) (g.W.Write.contents c.print_for_replay.new.out)) text printed.1)) (λ part. inr (c.as_slice.result.now, text, part))
