use Rattle.std.proofs.Common.{Some, refl, ap, sym}
use Rattle.machine.proofs.contexts.Calls.{ended_over, trapped_over, runs_of, over_local, over_shown, used_up_never}
use Rattle.machine.specs.States.{ThreadState}
use Rattle.machine.specs.inner.Contexts.{context_of}
use Rattle.machine.proofs.thread.Thread.prepare_at.Goals as goal

pub prepare-requires-clause-runs : goal.prepare-requires-clause-runs
prepare-requires-clause-runs g c =
    runs_of c.args.code.now (context_of {A = g.row.A.Denot} c.self.inside.context) c.args.self.now.thread (ap (λ (s : ThreadState). s.thread) c.self.view_is) c.self.invariant c.in-Running.is c.requires.of

pub returns-in-Ended-clause-access : goal.returns-in-Ended-clause-access
returns-in-Ended-clause-access g c =
    (sym (over_local c.args.code.now (context_of {A = g.row.A.Denot} c.self.inside.context) c.args.self.now.thread (ap (λ (s : ThreadState). s.thread) c.self.view_is) c.self.invariant (ended_over _ c.in-Ended.is) c.requires.of), refl)

pub returns-in-Ended-clause-used_up : goal.returns-in-Ended-clause-used_up
returns-in-Ended-clause-used_up g c =
    used_up_never _ _ (over_local c.args.code.now (context_of {A = g.row.A.Denot} c.self.inside.context) c.args.self.now.thread (ap (λ (s : ThreadState). s.thread) c.self.view_is) c.self.invariant (ended_over _ c.in-Ended.is) c.requires.of)

pub returns-in-Trapped-clause-access : goal.returns-in-Trapped-clause-access
returns-in-Trapped-clause-access g c =
    (sym (over_local c.args.code.now (context_of {A = g.row.A.Denot} c.self.inside.context) c.args.self.now.thread (ap (λ (s : ThreadState). s.thread) c.self.view_is) c.self.invariant (trapped_over _ _ c.in-Trapped.is) c.requires.of), refl)

pub returns-in-Trapped-clause-used_up : goal.returns-in-Trapped-clause-used_up
returns-in-Trapped-clause-used_up g c =
    used_up_never _ _ (over_local c.args.code.now (context_of {A = g.row.A.Denot} c.self.inside.context) c.args.self.now.thread (ap (λ (s : ThreadState). s.thread) c.self.view_is) c.self.invariant (trapped_over _ _ c.in-Trapped.is) c.requires.of)

pub returns-in-Ended-clause-prepared : goal.returns-in-Ended-clause-prepared
returns-in-Ended-clause-prepared g c = record {
  access = ap Some (sym (over_shown c.args.code.now (context_of {A = g.row.A.Denot} c.self.inside.context) c.args.self.now.thread (ap (λ (s : ThreadState). s.thread) c.self.view_is) c.self.invariant (ended_over _ c.in-Ended.is) c.requires.of));
  ready = λ e. absurd (ended_over _ c.in-Ended.is e);
}

pub returns-in-Trapped-clause-prepared : goal.returns-in-Trapped-clause-prepared
returns-in-Trapped-clause-prepared g c = record {
  access = ap Some (sym (over_shown c.args.code.now (context_of {A = g.row.A.Denot} c.self.inside.context) c.args.self.now.thread (ap (λ (s : ThreadState). s.thread) c.self.view_is) c.self.invariant (trapped_over _ _ c.in-Trapped.is) c.requires.of));
  ready = λ e. absurd (trapped_over _ _ c.in-Trapped.is e);
}
