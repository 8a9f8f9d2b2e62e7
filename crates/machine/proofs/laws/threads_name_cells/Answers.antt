use Rattle.machine.proofs.answers.Cells.{names_cells}
use Rattle.machine.proofs.laws.threads_name_cells.Goals as goal

pub returns : goal.returns
returns g c code init bounds m0 threads steps fits = names_cells code bounds fits init m0 threads steps
