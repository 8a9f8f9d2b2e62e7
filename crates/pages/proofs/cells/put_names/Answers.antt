use Rattle.std.proofs.Common.{map}
use Rattle.json.specs.Token.{string}
use Rattle.traces.specs.Names.{cell_of}
use Rattle.traces.specs.Views.{named_of}
use Rattle.pages.proofs.Writing.{next_counted}
use Rattle.pages.proofs.cells.put_names.Goals as goal

pub cells-preserved : goal.cells-preserved
cells-preserved g c =
    next_counted (λ k. string (cell_of (map named_of c.args.globals.now) k).name) c.cells.cell c.cells.invariant c.in_ok-put_name.ensures
