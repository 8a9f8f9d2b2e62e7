use Rattle.syntax.proofs.running.Loops.{loop_is_its_turns as the_law}
use Rattle.syntax.proofs.laws.a_loop_is_its_turns.Goals as goal

pub returns : goal.returns
returns c = the_law
