use Rattle.std.proofs.Common.{◌++◌, false, map, true}
use Rattle.syntax.specs.Views.{program_of}
use Rattle.serving.specs.Properties.{AreAnswered, IsTextOfProperties, TellsProperties, asked_each}
use Rattle.serving.proofs.InTurn.{ends_at, goes_on, properties_written, starts, stops_at}
use Rattle.serving.proofs.ask.ask_in_turn.Goals as goal

pub numbers-init : goal.numbers-init
numbers-init g c = starts 5 (λ k t b a. TellsProperties k (AreAnswered (program_of c.args.compiled.now.accepted.safe.typed.unit) k c.args.questions.now.steps (asked_each false (map (λ n. n.now) c.args.always.now) ++ asked_each true (map (λ n. n.now) c.args.last.now))) t b a) (λ k w. IsTextOfProperties k (AreAnswered (program_of c.args.compiled.now.accepted.safe.typed.unit) k c.args.questions.now.steps (asked_each false (map (λ n. n.now) c.args.always.now) ++ asked_each true (map (λ n. n.now) c.args.last.now))) w) c.args.range.first c.args.range.last (g.W.Write.contents c.args.out.now)

pub numbers-preserved : goal.numbers-preserved
numbers-preserved g c =
    goes_on 5 (λ k t b a. TellsProperties k (AreAnswered (program_of c.args.compiled.now.accepted.safe.typed.unit) k c.args.questions.now.steps (asked_each false (map (λ n. n.now) c.args.always.now) ++ asked_each true (map (λ n. n.now) c.args.last.now))) t b a) (λ k w. IsTextOfProperties k (AreAnswered (program_of c.args.compiled.now.accepted.safe.typed.unit) k c.args.questions.now.steps (asked_each false (map (λ n. n.now) c.args.always.now) ++ asked_each true (map (λ n. n.now) c.args.last.now))) w) c.args.range.first c.args.range.last (g.W.Write.contents c.args.out.now) c.numbers.threads c.ask_names-status.result (g.W.Write.contents c.numbers.out) (g.W.Write.contents c.ask_names-status.new.out) c.ask_names-status.ensures.prints c.numbers.invariant
    (properties_written (λ k. AreAnswered (program_of c.args.compiled.now.accepted.safe.typed.unit) k c.args.questions.now.steps (asked_each false (map (λ n. n.now) c.args.always.now) ++ asked_each true (map (λ n. n.now) c.args.last.now))) c.numbers.threads) c.numbers-test.true c.if-status-ne-ENDED.false

pub returns-then-status-ne-ENDED-clause-prints : goal.returns-then-status-ne-ENDED-clause-prints
returns-then-status-ne-ENDED-clause-prints g c =
    stops_at 5 (λ k t b a. TellsProperties k (AreAnswered (program_of c.args.compiled.now.accepted.safe.typed.unit) k c.args.questions.now.steps (asked_each false (map (λ n. n.now) c.args.always.now) ++ asked_each true (map (λ n. n.now) c.args.last.now))) t b a) (λ k w. IsTextOfProperties k (AreAnswered (program_of c.args.compiled.now.accepted.safe.typed.unit) k c.args.questions.now.steps (asked_each false (map (λ n. n.now) c.args.always.now) ++ asked_each true (map (λ n. n.now) c.args.last.now))) w) c.args.range.first c.args.range.last (g.W.Write.contents c.args.out.now) c.numbers.threads c.ask_names-status.result (g.W.Write.contents c.numbers.out) (g.W.Write.contents c.ask_names-status.new.out) c.ask_names-status.ensures.prints c.numbers.invariant c.if-status-ne-ENDED.true

pub returns-clause-prints : goal.returns-clause-prints
returns-clause-prints g c =
    ends_at 5 (λ k t b a. TellsProperties k (AreAnswered (program_of c.args.compiled.now.accepted.safe.typed.unit) k c.args.questions.now.steps (asked_each false (map (λ n. n.now) c.args.always.now) ++ asked_each true (map (λ n. n.now) c.args.last.now))) t b a) (λ k w. IsTextOfProperties k (AreAnswered (program_of c.args.compiled.now.accepted.safe.typed.unit) k c.args.questions.now.steps (asked_each false (map (λ n. n.now) c.args.always.now) ++ asked_each true (map (λ n. n.now) c.args.last.now))) w) c.args.range.first c.args.range.last (g.W.Write.contents c.args.out.now) c.numbers.threads c.ask_names.result (g.W.Write.contents c.numbers.out) (g.W.Write.contents c.ask_names.new.out) c.ask_names.ensures.prints c.numbers.invariant c.numbers-test.false
