use Rattle.std.proofs.Common.{◌-◌}
use Rattle.syntax.specs.Views.{program_of}
use Rattle.serving.specs.Refines.{SaysRefines, ShowsBeyond}
use Rattle.serving.specs.Verdicts.{IsEither, Tells}
use Rattle.serving.proofs.InTurn.{LeadsFrom}
use Rattle.serving.proofs.refined.refine_in_turn.Given as goal

-- an answer from this number of threads on is an answer from the first on
abbrev pub invariant-numbers : goal.invariant-numbers
invariant-numbers g l =
    LeadsFrom 5 (λ k t b a. Tells (SaysRefines l.name k (program_of l.this.accepted.safe.typed.unit) (program_of l.that.accepted.safe.typed.unit)) (ShowsBeyond l.name k (program_of l.this.accepted.safe.typed.unit) (program_of l.that.accepted.safe.typed.unit)) t b a) (λ k w. IsEither (SaysRefines l.name k (program_of l.this.accepted.safe.typed.unit) (program_of l.that.accepted.safe.typed.unit)) (ShowsBeyond l.name k (program_of l.this.accepted.safe.typed.unit) (program_of l.that.accepted.safe.typed.unit)) w) l.fn.limits.threads l.last l.each.threads (g.W.Write.contents l.initial.out) (g.W.Write.contents l.out)

abbrev pub decreases-numbers : goal.decreases-numbers
decreases-numbers g l = l.last - l.each.threads
