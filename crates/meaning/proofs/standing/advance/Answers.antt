use Rattle.std.proofs.Common.{◌≡◌, arith, length, refl, subst}
use Rattle.std.proofs.lemmas.List.{nil_from_length}
use Rattle.meaning.specs.inner.Standing.{IsGone, bare}
use Rattle.meaning.proofs.Advancing.{advanced, stops_at}
use Rattle.meaning.proofs.standing.advance.Goals as goal

pub returns-in_default-clause-stops : goal.returns-in_default-clause-stops
returns-in_default-clause-stops g c =
    let none : length c.pop.new.self.items ≡ 0 = search (arith, c.in_default.ensures.cases.1) in
    c.at_end.ensures c.args.source.now (record c.args.thread.now { left = c.pop.new.self }) refl (nil_from_length c.pop.new.self.items none)

pub returns-in_ok-arrive-in-Went-clause-same : goal.returns-in_ok-arrive-in-Went-clause-same
returns-in_ok-arrive-in-Went-clause-same g c =
    let step = c.in_ok-next.ensures in
    let gone = subst (λ it. IsGone c.args.source.now it (step.0 (bare c.args.thread.now.at))) c.in-Went.is step.2 in
    let arrived = c.in_ok-arrive-in-Went.ensures in
    advanced c.args.source.now c.args.thread.now c.arrive.new.thread c.in-Some.left c.pop.new.self.items step.0 c.in-Went.next c.in-Went.at c.in-Went.shown c.in-Some.ensures.items step.1 gone (arrived.left c.args.source.now) arrived.at arrived.lefts arrived.text

pub returns-in_ok-push-in-Stopped-clause-stops : goal.returns-in_ok-push-in-Stopped-clause-stops
returns-in_ok-push-in-Stopped-clause-stops g c =
    let step = c.in_ok-next.ensures in
    let gone = subst (λ it. IsGone c.args.source.now it (step.0 (bare c.args.thread.now.at))) c.in-Stopped.is step.2 in
    stops_at c.args.source.now (record c.args.thread.now { left = c.push.new.self }) c.in-Some.left c.pop.new.self.items step.0 c.in-Stopped.why c.in-Stopped.shown gone.0 gone.1 c.in_ok-push-in-Stopped.ensures.items step.1 gone.2 gone.3 gone.4 _ refl refl
