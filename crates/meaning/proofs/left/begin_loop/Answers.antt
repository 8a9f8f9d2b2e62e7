use Rattle.std.proofs.Common.{◌∙◌, ap}
use Rattle.syntax.specs.Views.{stmt_of}
use Rattle.meaning.specs.inner.Does.{caller_in}
use Rattle.meaning.specs.inner.Going.{turn_of}
use Rattle.meaning.specs.inner.Left.{loop_opened}
use Rattle.meaning.specs.inner.SourceThread.{state_in}
use Rattle.program_tables.specs.Views.{program_in}
use Rattle.meaning.proofs.left.begin_loop.Goals as goal

pub returns-in-For : goal.returns-in-For
returns-in-For g c done =
    let source = c.args.source.now in
    ap (λ w. loop_opened source c.args.frames (turn_of (program_in source) (caller_in source c.args.frames) (stmt_of c.args.s.now)) w (state_in c.args.m.now)) c.in-For.is ∙ c.begin_for.ensures done
