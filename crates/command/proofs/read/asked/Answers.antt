use Rattle.std.proofs.lemmas.Result.{IfErr-weaker}
use Rattle.clap.specs.Words.{found_of, rows_of}
use Rattle.command.proofs.Refusals.{own_weaker}
use Rattle.command.proofs.Defining.{both_met, none_met}
use Rattle.command.proofs.read.asked.Goals as goal

pub returns-in-Some-clause-err : goal.returns-in-Some-clause-err
returns-in-Some-clause-err c =
    let met = both_met _ _ _ c.in-Some.name.now (rows_of (found_of c.in-Some.given.now)) c.in-Some.ensures.name c.in-Some.ensures.rows in
    IfErr-weaker c.asked_of.result _ _ (λ f own. own_weaker _ _ (none_met _ _ _ met) f own) c.asked_of.ensures.err
