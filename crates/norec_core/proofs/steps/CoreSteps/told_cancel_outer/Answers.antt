use Rattle.std.proofs.Common.{◌≡◌, ◌-◌, ◌<◌, Bool, Some, None, cond, refl, ap, length, drop, arith}
use Rattle.std.proofs.lemmas.List.{length-drop}
use Rattle.norec_core.specs.inner.Runs.{attempt_by}
use Rattle.norec_core.proofs.Cancelling.{inner_cancel}
use Rattle.norec_core.proofs.steps.CoreSteps.told_cancel_outer.Goals as goal

pub returns-else-is_outermost-2 : goal.returns-else-is_outermost-2
returns-else-is_outermost-2 g c =
    let logs = c.self.inside.logs in
    let count = c.depth-inner.ensures in
    let begun = rw (← c.self.view_is) at c.requires in
    let least = c.min-open.ensures in
    let most = c.saturating_add.ensures in
    let fits = c.ranges.levels.fits in
    let within = c.if-is_outermost-2.false in
    let several = c.if-open-lt2.false in
    let all : c.min-open.result ≡ c.args.levels = omega arith in
    let gone = length-drop (c.min-open.result - 1) logs.begins.inner in
    let some : 0 < length (drop (c.min-open.result - 1) logs.begins.inner) = omega arith in
    let left = attempt_by c.cancel_outer.new.self c.self.inside.first c.self.inside.snapshot c.self.inside.phase in
    rw (← c.self.view_is, ← all)
    (inner_cancel logs c.cancel_outer.new.self c.self.inside.first c.self.inside.snapshot c.self.inside.phase _ _ logs.kept some c.cancel_outer.ensures.back c.cancel_outer.ensures.reads c.cancel_outer.ensures.kept (ap (λ (b : Bool). cond b (Some left) None) begun) refl)
