use Rattle.bytecode.proofs.Fits.{fits_cells}
use Rattle.bytecode.proofs.laws.valid_code_fits_its_cells.Goals as goal

pub returns : goal.returns
returns c = fits_cells
