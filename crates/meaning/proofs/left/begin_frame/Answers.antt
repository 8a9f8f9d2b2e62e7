use Rattle.std.proofs.Common.{◌≡◌, ◌∙◌, ◌-◌, suc, ap, arith}
use Rattle.meaning.specs.inner.Calls.{begun_in}
use Rattle.meaning.specs.inner.Going.{frame_begun}
use Rattle.meaning.specs.inner.SourceThread.{items_in, state_in}
use Rattle.program_tables.specs.Views.{program_in}
use Rattle.meaning.proofs.Calling.{enters}
use Rattle.meaning.proofs.left.begin_frame.Goals as goal

pub returns-then-frames-eq0 : goal.returns-then-frames-eq0
returns-then-frames-eq0 g c done =
    ap (λ n. frame_begun (program_in c.args.source.now) n c.args.f.now c.args.values.now (state_in c.args.m.now)) c.if-frames-eq0.true ∙ c.trap_frames.ensures c.args.source.now done

pub returns : goal.returns
returns g c done =
    let more : c.args.frames ≡ suc (c.args.frames - 1) = omega (arith, c.if-frames-eq0.false) in
    enters (program_in c.args.source.now) c.args.frames (c.args.frames - 1) c.args.f.now c.args.values.now (state_in c.args.m.now) (state_in c.begin.new.m) (begun_in c.in_ok-ty.field-0) (items_in c.replace-outer.new.dest) (items_in c.replace-outer.result) more (c.in_ok-ty.ensures.value tt) (ap items_in c.replace-outer.ensures.after) (ap items_in c.replace-outer.ensures.value)
