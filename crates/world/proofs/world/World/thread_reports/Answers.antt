use Rattle.std.proofs.Common.{◌∙◌, ◌++◌, ◌∷◌, [], ap, arith}
use Rattle.std.proofs.lemmas.List.{map-append}
use Rattle.world.specs.Reports.{threads_of}
use Rattle.world.proofs.Shown.{shown_all, shown_more}
use Rattle.world.proofs.world.World.thread_reports.Goals as goal

pub threads-preserved : goal.threads-preserved
threads-preserved g c = ap threads_of c.in_ok-push.ensures.items ∙ map-append _ c.threads.shown.items _ ∙ (λ i. c.threads.invariant i ++ (c.end_with-end.ensures i, c.in_ok-text.ensures.ok i) ∷ [])
    ∙ shown_more c.args.stop c.args.self.now c.threads.t c.status.result c.output.result.now c.status.ensures c.output.ensures

pub returns : goal.returns
returns g c = c.threads.invariant ∙ shown_all c.args.stop c.args.self.now c.threads.t c.threads-t-end.ensures.explained (let e = c.threads-t-end.ensures.threads in let f = c.threads-test.false in omega arith)
