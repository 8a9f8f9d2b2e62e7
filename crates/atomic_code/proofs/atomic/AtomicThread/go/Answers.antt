use Rattle.std.proofs.Common.{◌+◌, refl, ap, sym, subst}
use Rattle.atomic_code.specs.Threads.{IsAtomicThreadOf, AtomicThreadState}
use Rattle.atomic_code.specs.inner.Making as making
use Rattle.atomic_code.proofs.Threads.{breaks_of, breaks_off, runs_by, runs_of, is_thread_of}
use Rattle.atomic_code.proofs.atomic.AtomicThread.go.Goals as goal
use Rattle.atomic_code.proofs.atomic.AtomicThread.go.Goals.{in-Err, in-Ok-Goes, in-Ok-Leaves, in-Ok-Wants}

pub carry_on-made-requires-clause-runs : goal.carry_on-made-requires-clause-runs
carry_on-made-requires-clause-runs g c =
    let k = making.thread_of {A = g.row.A.Denot} c.self.inside.context in
    runs_of c.args.code.now k (runs_by k.status c.in-None.ensures) (subst (IsAtomicThreadOf c.args.code.now) (sym (ap (λ (s : AtomicThreadState). s.thread) c.self.view_is)) c.requires.of)

pub returns-after-outcome-clause-err : goal.returns-after-outcome-clause-err
returns-after-outcome-clause-err g c =
    let k = making.thread_of {A = g.row.A.Denot} c.self.inside.context in
    let l = making.thread_of {A = g.row.A.Denot} c.carry_on-made.new.self in
    elim c.match-outcome.branch [
      | in-Err w ↦
          let h = rw w.in-Err.is at c.carry_on-made.ensures in
          rw w.result-is (breaks_off c.args.code.now c.note_valid.ensures c.args.found.now c.args.steps k c.carry_on-made.result.0 l h c.args.self.now _ (ap (λ (s : AtomicThreadState). s.thread) c.self.view_is) refl (ap (λ (s : AtomicThreadState). s.steps + c.carry_on-made.result.0) c.self.view_is))
      | in-Ok-Goes w ↦ rw w.result-is tt
      | in-Ok-Leaves w ↦ rw w.result-is tt
      | in-Ok-Wants w ↦ rw w.result-is tt
    ]

pub returns-after-outcome-clause-of : goal.returns-after-outcome-clause-of
returns-after-outcome-clause-of g c =
    let k = making.thread_of {A = g.row.A.Denot} c.self.inside.context in
    let l = making.thread_of {A = g.row.A.Denot} c.carry_on-made.new.self in
    elim c.match-outcome.branch [
      | in-Err w ↦
          let h = rw w.in-Err.is at c.carry_on-made.ensures in
          breaks_of c.args.code.now c.note_valid.ensures c.args.found.now c.args.steps k c.carry_on-made.result.0 l h
      | in-Ok-Goes w ↦ let h = rw (w.in-Ok-Goes.is, w.in-Ok-Goes.field-0-is) at c.carry_on-made.ensures in is_thread_of c.args.code.now l h.of
      | in-Ok-Leaves w ↦ let h = rw (w.in-Ok-Leaves.is, w.in-Ok-Leaves.field-0-is) at c.carry_on-made.ensures in is_thread_of c.args.code.now l h.of
      | in-Ok-Wants w ↦ let h = rw (w.in-Ok-Wants.is, w.in-Ok-Wants.field-0-is) at c.carry_on-made.ensures in is_thread_of c.args.code.now l h.of
    ]
