use Rattle.std.proofs.Common.{◌≡◌, length, map, subst, arith}
use Rattle.traces.specs.Columns.{columns_to}
use Rattle.traces.specs.Views.{column_of, named_of, turn_of}
use Rattle.traces.proofs.Growing.{columns_more}
use Rattle.traces.proofs.columns.columns_of.Goals as goal

pub cells-preserved : goal.cells-preserved
cells-preserved g c = columns_more (map named_of c.args.names.now) c.args.first.now (map turn_of c.args.turns.now) c.cells.cell _ _ c.in_ok-push_column_at.ensures c.cells.invariant

pub returns : goal.returns
returns g c =
    let end : c.cells.cell ≡ length c.args.first.now = let past = c.cells-test.false in let within = c.cells.auto.cell-end in omega (arith, past, within) in
    subst (λ n. map column_of c.cells.columns ≡ columns_to (map named_of c.args.names.now) c.args.first.now (map turn_of c.args.turns.now) n) end c.cells.invariant
