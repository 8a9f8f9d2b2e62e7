use Rattle.std.proofs.Common.{refl}
use Rattle.syntax.specs.Views.{exprs_of, stmt_of}
use Rattle.meaning.specs.declared.left.Pending.TheVariants as task
use Rattle.meaning.specs.declared.left.Direction.TheVariants as way
use Rattle.meaning.specs.inner.Left.{first_step, step_of}
use Rattle.meaning.specs.inner.Does.{caller_in}
use Rattle.meaning.specs.inner.Going.{call_begun}
use Rattle.meaning.specs.inner.SourceThread.{completion_of}
use Rattle.program_tables.specs.Views.{program_in}
use Rattle.meaning.proofs.Pieces.{call_step, open_step, own_step}
use Rattle.meaning.proofs.standing.try_step.Goals as goal

pub returns-in_default : goal.returns-in_default
returns-in_default g c = (step_of c.args.source.now c.args.left.now (completion_of c.args.end), own_step c.args.source.now c.args.left.now (completion_of c.args.end), c.in_ok-gone.ensures)

pub returns-in_default-wanting : goal.returns-in_default-wanting
returns-in_default-wanting g c = (step_of c.args.source.now c.args.left.now (completion_of c.args.end), own_step c.args.source.now c.args.left.now (completion_of c.args.end), c.in_ok-gone.ensures)

pub returns : goal.returns
returns g c = (step_of c.args.source.now c.args.left.now (completion_of c.args.end), own_step c.args.source.now c.args.left.now (completion_of c.args.end), c.in_ok-gone.ensures)

pub returns-in-Some-parts_of : goal.returns-in-Some-parts_of
returns-in-Some-parts_of g c = (
  first_step c.args.source.now c.in-Some.frames (stmt_of c.in-Some.s.now) c.in-Some-parts_of.parts,
  open_step c.args.source.now c.in-Some.frames c.args.left.now (task.Alone way.Whole c.in-Some.frames c.in-Some.s) (stmt_of c.in-Some.s.now) c.in-Some-parts_of.parts (completion_of c.args.end) c.in-Some.ensures.left c.in-Some.ensures.end refl c.in-Some-parts_of.ensures,
  c.in_ok-opened.ensures,
)

pub returns-in-Some-call_alone : goal.returns-in-Some-call_alone
returns-in-Some-call_alone g c = (
  call_begun (program_in c.args.source.now) c.in-Some.frames c.in-Some-call_alone.f.now.text (exprs_of c.in-Some-call_alone.args.now),
  call_step c.args.source.now c.in-Some.frames c.args.left.now (task.Alone way.Whole c.in-Some.frames c.in-Some.s) (stmt_of c.in-Some.s.now) c.in-Some-call_alone.f.now.text (exprs_of c.in-Some-call_alone.args.now) (completion_of c.args.end) c.in-Some.ensures.left c.in-Some.ensures.end refl
      (c.in-Some-call_alone.ensures (program_in c.args.source.now) (caller_in c.args.source.now c.in-Some.frames)),
  c.in_ok-entered-in-Some-call_alone.ensures,
)
