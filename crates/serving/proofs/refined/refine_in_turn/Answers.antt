use Rattle.syntax.specs.Views.{program_of}
use Rattle.serving.specs.Refines.{SaysRefines, ShowsBeyond}
use Rattle.serving.specs.Verdicts.{IsEither, Tells}
use Rattle.serving.proofs.InTurn.{ends_at, goes_on, starts, stops_at, verdict_written}
use Rattle.serving.proofs.refined.refine_in_turn.Goals as goal

pub numbers-init : goal.numbers-init
numbers-init g c = starts 5 (λ k t b a. Tells (SaysRefines c.args.name.now k (program_of c.args.this.now.accepted.safe.typed.unit) (program_of c.args.that.now.accepted.safe.typed.unit)) (ShowsBeyond c.args.name.now k (program_of c.args.this.now.accepted.safe.typed.unit) (program_of c.args.that.now.accepted.safe.typed.unit)) t b a) (λ k w. IsEither (SaysRefines c.args.name.now k (program_of c.args.this.now.accepted.safe.typed.unit) (program_of c.args.that.now.accepted.safe.typed.unit)) (ShowsBeyond c.args.name.now k (program_of c.args.this.now.accepted.safe.typed.unit) (program_of c.args.that.now.accepted.safe.typed.unit)) w) c.args.limits.threads c.args.last (g.W.Write.contents c.args.out.now)

pub numbers-preserved : goal.numbers-preserved
numbers-preserved g c =
    goes_on 5 (λ k t b a. Tells (SaysRefines c.args.name.now k (program_of c.args.this.now.accepted.safe.typed.unit) (program_of c.args.that.now.accepted.safe.typed.unit)) (ShowsBeyond c.args.name.now k (program_of c.args.this.now.accepted.safe.typed.unit) (program_of c.args.that.now.accepted.safe.typed.unit)) t b a) (λ k w. IsEither (SaysRefines c.args.name.now k (program_of c.args.this.now.accepted.safe.typed.unit) (program_of c.args.that.now.accepted.safe.typed.unit)) (ShowsBeyond c.args.name.now k (program_of c.args.this.now.accepted.safe.typed.unit) (program_of c.args.that.now.accepted.safe.typed.unit)) w) c.args.limits.threads c.args.last (g.W.Write.contents c.args.out.now) c.numbers.each.threads c.refine_programs-status.result (g.W.Write.contents c.numbers.out) (g.W.Write.contents c.refine_programs-status.new.out) c.refine_programs-status.ensures c.numbers.invariant
    (verdict_written (λ k. (SaysRefines c.args.name.now k (program_of c.args.this.now.accepted.safe.typed.unit) (program_of c.args.that.now.accepted.safe.typed.unit))) (λ k. (ShowsBeyond c.args.name.now k (program_of c.args.this.now.accepted.safe.typed.unit) (program_of c.args.that.now.accepted.safe.typed.unit))) c.numbers.each.threads) c.numbers-test.true c.if-status-ne-ENDED.false

pub returns-then-status-ne-ENDED : goal.returns-then-status-ne-ENDED
returns-then-status-ne-ENDED g c =
    stops_at 5 (λ k t b a. Tells (SaysRefines c.args.name.now k (program_of c.args.this.now.accepted.safe.typed.unit) (program_of c.args.that.now.accepted.safe.typed.unit)) (ShowsBeyond c.args.name.now k (program_of c.args.this.now.accepted.safe.typed.unit) (program_of c.args.that.now.accepted.safe.typed.unit)) t b a) (λ k w. IsEither (SaysRefines c.args.name.now k (program_of c.args.this.now.accepted.safe.typed.unit) (program_of c.args.that.now.accepted.safe.typed.unit)) (ShowsBeyond c.args.name.now k (program_of c.args.this.now.accepted.safe.typed.unit) (program_of c.args.that.now.accepted.safe.typed.unit)) w) c.args.limits.threads c.args.last (g.W.Write.contents c.args.out.now) c.numbers.each.threads c.refine_programs-status.result (g.W.Write.contents c.numbers.out) (g.W.Write.contents c.refine_programs-status.new.out) c.refine_programs-status.ensures c.numbers.invariant c.if-status-ne-ENDED.true

pub returns : goal.returns
returns g c =
    ends_at 5 (λ k t b a. Tells (SaysRefines c.args.name.now k (program_of c.args.this.now.accepted.safe.typed.unit) (program_of c.args.that.now.accepted.safe.typed.unit)) (ShowsBeyond c.args.name.now k (program_of c.args.this.now.accepted.safe.typed.unit) (program_of c.args.that.now.accepted.safe.typed.unit)) t b a) (λ k w. IsEither (SaysRefines c.args.name.now k (program_of c.args.this.now.accepted.safe.typed.unit) (program_of c.args.that.now.accepted.safe.typed.unit)) (ShowsBeyond c.args.name.now k (program_of c.args.this.now.accepted.safe.typed.unit) (program_of c.args.that.now.accepted.safe.typed.unit)) w) c.args.limits.threads c.args.last (g.W.Write.contents c.args.out.now) c.numbers.each.threads c.refine_programs.result (g.W.Write.contents c.numbers.out) (g.W.Write.contents c.refine_programs.new.out) c.refine_programs.ensures c.numbers.invariant c.numbers-test.false
