use Rattle.std.proofs.Common.{◌∙◌, map, sym, ap, subst, arith}
use Rattle.syntax.specs.Names.{globals, global_of}
use Rattle.syntax.specs.Types.{file_scope}
use Rattle.syntax.specs.Typing.{IsTypedProgram}
use Rattle.syntax.specs.Views.{item_of, program_of}
use Rattle.program_tables.specs.inner.Tables.{place_from, total_cells}
use Rattle.program_tables.proofs.CellsFit.{cells_few}
use Rattle.program_tables.proofs.make.tables.Goals as goal

pub place_globals-requires : goal.place_globals-requires
place_globals-requires g c =
    let few = cells_few (program_of c.unit-unit.result.now) (subst (λ u. IsTypedProgram (program_of u)) (sym c.unit-unit.ensures) c.args.typed.now.typed) in
    let same = ap (λ xs. total_cells (globals (map item_of xs))) c.as_slice.ensures in
    omega (arith, few, same)

pub invariant_of-result : goal.invariant_of-result
invariant_of-result g c = record {
  small = cells_few (program_of c.unit-unit.result.now) (subst (λ u. IsTypedProgram (program_of u)) (sym c.unit-unit.ensures) c.args.typed.now.typed);
  shared = λ x. c.in_ok-globals.ensures x ∙ ap (λ xs. global_of (map item_of xs) x) c.as_slice.ensures;
  defined = λ x. c.in_ok-functions.ensures x ∙ ap (λ xs. place_from 0 0 (map item_of xs) x) c.as_slice-2.ensures;
  declared = λ x. c.in_ok-symbols.ensures x ∙ ap (λ xs. file_scope (map item_of xs) x) c.as_slice-3.ensures;
}
