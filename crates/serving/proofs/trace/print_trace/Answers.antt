use Rattle.std.proofs.Common.{arith, inl, inr, refl}
use Rattle.report.specs.Views.{printed_of}
use Rattle.serving.proofs.Refusals.{neither}
use Rattle.serving.proofs.Printing.{serves_so}
use Rattle.serving.proofs.trace.print_trace.Goals as goal

pub returns-in-Some-clause-prints : goal.returns-in-Some-clause-prints
returns-in-Some-clause-prints g c =
    serves_so c.print_for_replay.ensures.prints
    (λ says status. let printed = says status in (c.as_slice.result.now, printed_of c.args.replayed.now.printed, refl, printed.0, printed.1)) (λ part. inr (c.as_slice.result.now, tt, part))

pub returns-in-None-clause-prints : goal.returns-in-None-clause-prints
returns-in-None-clause-prints g c =
    let e = c.out_of_memory.ensures in
    record {
      within = omega (arith, e);
      answers = λ status. absurd (neither c.out_of_memory.result (λ z. absurd (omega (arith, e, z))) (λ z. absurd (omega (arith, e, z))) status);
      refused = λ one. absurd (omega (arith, e, one));
      written = inl refl;
      untouched = λ one. refl;
    }
