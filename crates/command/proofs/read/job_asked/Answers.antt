use Rattle.std.proofs.lemmas.Result.{IfErr-weaker}
use Rattle.clap.specs.Words.{found_of, rows_of}
use Rattle.command.proofs.Defining.{both_met}
use Rattle.command.proofs.Refusals.{own_weaker}
use Rattle.command.proofs.Testing.{no_job}
use Rattle.command.proofs.read.job_asked.Goals as goal

pub returns-in-Some-clause-err : goal.returns-in-Some-clause-err
returns-in-Some-clause-err c =
    let met = both_met _ _ _ c.in-Some.name.now (rows_of (found_of c.in-Some.given.now)) c.in-Some.ensures.name c.in-Some.ensures.rows in
    IfErr-weaker c.job_of.result _ _ (λ f own. own_weaker _ _ (no_job _ _ _ met) f own) c.job_of.ensures.err
