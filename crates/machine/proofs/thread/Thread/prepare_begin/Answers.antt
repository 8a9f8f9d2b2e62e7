use Rattle.std.proofs.Common.{◌∙◌, refl, sym, ap, subst}
use Rattle.syntax.specs.declared.thread_end.Status.TheVariants.{Running}
use Rattle.frames.specs.declared.doing.Doing.TheVariants as doing
use Rattle.frames.proofs.Keeping.{begins_stay_open}
use Rattle.machine.proofs.contexts.Calls.{runs_of, saved_same}
use Rattle.machine.proofs.contexts.Committing.{begin_access}
use Rattle.machine.proofs.contexts.Makes.{context_same}
use Rattle.machine.specs.States.{StandsAt, ThreadState}
use Rattle.machine.specs.inner.Contexts.{context_of, shown_from}
use Rattle.std.specs.Prelude.{◌<◌, ℕ, List, length}
use Rattle.machine.proofs.contexts.Left.{none_shown}
use Rattle.machine.proofs.thread.Thread.prepare_begin.Goals as goal

pub frames-requires : goal.frames-requires
frames-requires g c =
    let k = context_of {A = g.row.A.Denot} c.self.inside.context in
    (runs_of c.args.code.now k c.args.self.now.thread (ap (λ (s : ThreadState). s.thread) c.self.view_is) c.self.invariant c.in-Running.is c.requires.of).stands.few

pub returns-in-Running-clause-begins : goal.returns-in-Running-clause-begins
returns-in-Running-clause-begins g c = λ made. record {
  running = c.in-Running.is;
  attempt = ap (shown_from c.self.inside.context.frames.configuration) (c.prepare_begin.ensures.none made);
  saved = c.prepare_begin.ensures.saved made ∙ saved_same c.self.inside.context.frames.configuration c.registers.result.now c.frames.result c.place.result c.registers.ensures c.frames.ensures c.place.ensures;
}

pub returns-in-Running-clause-access : goal.returns-in-Running-clause-access
returns-in-Running-clause-access g c = λ made.
    let k = context_of {A = g.row.A.Denot} c.self.inside.context in
    let law = begins_stay_open c.args.code.now c.requires.of.valid in
    let l = record k { core = c.prepare_begin.new.self } in
    let runs = runs_of c.args.code.now k c.args.self.now.thread (ap (λ (s : ThreadState). s.thread) c.self.view_is) c.self.invariant c.in-Running.is c.requires.of in
    let tells = subst (λ (s : ThreadState). StandsAt c.args.code.now s (doing.Begin c.args.to)) (sym c.self.view_is) c.requires.stands c.in-Running.is in
    begin_access c.args.code.now law l c.args.to c.in-Running.is (context_same c.args.code.now k l Running refl (sym c.prepare_begin.ensures.attempt) runs) tells (c.prepare_begin.ensures.none made)

pub returns-in-Running-clause-full : goal.returns-in-Running-clause-full
returns-in-Running-clause-full g c = λ made runs none.
    let attempt = none_shown c.self.inside.context.frames.configuration c.self.inside.context.core.attempt (ap (λ (s : ThreadState). s.thread.attempt) c.self.view_is ∙ none) in
    let full = subst (λ (rs : List ℕ). length c.self.inside.context.core.saved.registers < length rs) c.registers.ensures (c.prepare_begin.ensures.full made attempt) in
    subst (λ (s : ThreadState). length s.ready.saved.registers < length s.thread.configuration.registers) c.self.view_is full
