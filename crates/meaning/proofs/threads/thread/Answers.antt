use Rattle.std.proofs.Common.{◌≡◌, ◌∙◌, sym, ap}
use Rattle.syntax.specs.Views.{program_of}
use Rattle.syntax.specs.Threads.{worker_run, thread}
use Rattle.syntax.specs.Actions.{Stops, lefts_in}
use Rattle.meaning.specs.Outcomes.{memories_in, outcome_in}
use Rattle.meaning.specs.inner.SourceThread.{halt_of, state_in}
use Rattle.meaning.proofs.Outcomes.{thread_ends, thread_stops, stops_within, happened, leaves_memories}
use Rattle.meaning.proofs.threads.thread.Goals as goal

pub returns-in-Ok-work : goal.returns-in-Ok-work
returns-in-Ok-work g c =
    let p = program_of c.args.accepted.now.safe.typed.unit in
    let founds = memories_in c.args.founds.now in
    let same = ap (λ u. worker_run (program_of u) c.args.t (state_in c.start-m.result)) (sym (c.in-Ok.ensures ∙ ap (λ t. t.unit) (c.typed.ensures ∙ ap (λ s. s.typed) c.safe.ensures))) in
    let value : outcome_in c.finish.result ≡ thread p c.args.t founds c.args.ticks =
    c.finish.ensures ∙ sym (thread_ends p c.args.t c.args.ticks founds (state_in c.start-m.result) (state_in c.work.new.m) c.start-m.ensures (same ∙ c.in-Ok-work.ensures tt)) in
    record {
      value = value;
      memories = leaves_memories p c.args.t c.args.ticks founds (outcome_in c.finish.result) c.threads_leave_memories.ensures.memories c.args.accepted.now.safe.typed.typed value;
    }

pub completion_of-requires : goal.completion_of-requires
completion_of-requires g c =
    let same = ap (λ u. worker_run (program_of u) c.args.t (state_in c.start-m.result)) (sym (c.in-Ok.ensures ∙ ap (λ t. t.unit) (c.typed.ensures ∙ ap (λ s. s.typed) c.safe.ensures))) in
    let stops = same ∙ c.in-Err.ensures (happened c.work.new.m.why c.in-Some.why c.in-Some.is) ∙ ap (λ o. Stops (halt_of o) (state_in c.work.new.m)) c.in-Some.is in
    stops_within (program_of c.args.accepted.now.safe.typed.unit) c.args.t c.args.ticks (memories_in c.args.founds.now) (state_in c.start-m.result) (state_in c.work.new.m) c.start-m.ensures c.never_astray.ensures c.args.accepted.now.accepted c.in-Some.why stops

pub returns-in-Some : goal.returns-in-Some
returns-in-Some g c =
    let p = program_of c.args.accepted.now.safe.typed.unit in
    let founds = memories_in c.args.founds.now in
    let s = state_in c.work.new.m in
    let same = ap (λ u. worker_run (program_of u) c.args.t (state_in c.start-m.result)) (sym (c.in-Ok.ensures ∙ ap (λ t. t.unit) (c.typed.ensures ∙ ap (λ s. s.typed) c.safe.ensures))) in
    let stops = same ∙ c.in-Err.ensures (happened c.work.new.m.why c.in-Some.why c.in-Some.is) ∙ ap (λ o. Stops (halt_of o) s) c.in-Some.is in
    let value : outcome_in c.finish-in-Some.result ≡ thread p c.args.t founds c.args.ticks =
    c.finish-in-Some.ensures ∙ ap (λ e. record { lefts = lefts_in s.context; text = s.text; end = e }) c.completion_of.ensures
    ∙ sym (thread_stops p c.args.t c.args.ticks founds (state_in c.start-m.result) s c.start-m.ensures c.in-Some.why stops) in
    record {
      value = value;
      memories = leaves_memories p c.args.t c.args.ticks founds (outcome_in c.finish-in-Some.result) c.threads_leave_memories.ensures.memories c.args.accepted.now.safe.typed.typed value;
    }
