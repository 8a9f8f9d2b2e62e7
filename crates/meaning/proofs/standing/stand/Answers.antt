use Rattle.std.proofs.Common.{◌∙◌, ◌∷◌, [], None, ap, refl, sym}
use Rattle.std.specs.Prelude.{codes}
use Rattle.syntax.specs.Tree.{Unsigned}
use Rattle.meaning.specs.Outcomes.{memories_in}
use Rattle.meaning.specs.declared.left.Pending.TheVariants as task
use Rattle.meaning.specs.declared.source_thread.StmtCompletion.TheVariants as end
use Rattle.meaning.specs.inner.Calls.{begin_call, begun_in}
use Rattle.meaning.specs.inner.SourceThread.{state_in}
use Rattle.program_tables.specs.Views.{program_in}
use Rattle.meaning.proofs.Advancing.{begins_left, begins_so}
use Rattle.meaning.proofs.standing.stand.Goals as goal

pub returns : goal.returns
returns g c =
    let source = c.args.source.now in
    let s = state_in c.start-m.result in
    let b = c.in-Ok.field-0 in
    begins_so source (record { left = c.push-2.new.self; end = end.Next; at = record { ticks = c.args.ticks; locals = b.mine; due = c.new-2.result }; shown = record { lefts = c.new-3.result; text = c.new-4.result; at = None } })
    c.args.ticks c.args.t (begun_in b) s (state_in c.begin.new.m)
    (ap (λ w. begin_call (program_in source) (codes "worker") (record { ty = Unsigned; word = w } ∷ []) s) (sym c.from.ensures) ∙ c.in-Ok.ensures.value tt)
    (begins_left source c.new-left.result.items c.push.new.self.items c.push-2.new.self.items b.ty c.new.result (task.Apart 63 b.body) c.new-left.ensures.items c.in_ok-push.ensures.items c.in_ok-push-2.ensures.items c.new.ensures.items)
    refl refl (ap memories_in c.new-2.ensures.items) (ap memories_in c.new-3.ensures.items) c.new-4.ensures.items
