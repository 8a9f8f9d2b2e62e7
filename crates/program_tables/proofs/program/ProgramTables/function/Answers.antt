use Rattle.std.proofs.Common.{◌∙◌, length, get_or, option_map, sym, ap, arith}
use Rattle.syntax.specs.Views.{item_of, program_of}
use Rattle.program_tables.specs.inner.Tables.{numbered}
use Rattle.program_tables.proofs.Defined.{defined_by, defined_twice, definition_from, no_place, place_less, place_same}
use Rattle.program_tables.proofs.program.ProgramTables.function.Goals as goal

pub offset_bounds-items-place : goal.offset_bounds-items-place
offset_bounds-items-place g c =
    let less = place_less c.args.self.now.unit.now.items c.args.name.now c.in-Some.place.now (sym (c.args.self.now.defined c.args.name.now) ∙ sym c.in-Some.ensures) in
    let same = ap length c.as_slice-items.ensures in
    omega (arith, less, same)

pub bounds-items-place : goal.bounds-items-place
bounds-items-place g c =
    let less = place_less c.args.self.now.unit.now.items c.args.name.now c.in-Some.place.now (sym (c.args.self.now.defined c.args.name.now) ∙ sym c.in-Some.ensures) in
    let same = ap length c.as_slice-items.ensures in
    omega (arith, less, same)

pub returns-in-Some-clause-number : goal.returns-in-Some-clause-number
returns-in-Some-clause-number g c =
    let x = c.args.name.now in
    let at = c.in-Some.place.now in
    let item = c.index-items-place.result in
    c.entry_of.ensures
    ∙ ap (λ it. numbered at.number (item_of it)) (c.index-items-place.is ∙ ap (λ ys. get_or ys at.item item) c.as_slice-items.ensures)
    ∙ sym (place_same c.args.self.now.unit.now.items x item at (sym (c.args.self.now.defined x) ∙ sym c.in-Some.ensures))

pub returns-in-Some-clause-definition : goal.returns-in-Some-clause-definition
returns-in-Some-clause-definition g c =
    let x = c.args.name.now in
    let at = c.in-Some.place.now in
    let item = c.index-items-place.result in
    defined_twice c.entry_of.result
    ∙ ap (option_map defined_by)
    (c.entry_of.ensures
    ∙ ap (λ it. numbered at.number (item_of it)) (c.index-items-place.is ∙ ap (λ ys. get_or ys at.item item) c.as_slice-items.ensures)
    ∙ sym (place_same c.args.self.now.unit.now.items x item at (sym (c.args.self.now.defined x) ∙ sym c.in-Some.ensures)))
    ∙ definition_from 0 (program_of c.args.self.now.unit.now) x

pub returns-in-None-clause-number : goal.returns-in-None-clause-number
returns-in-None-clause-number g c =
    sym (no_place 0 0 (program_of c.args.self.now.unit.now) c.args.name.now (sym (c.args.self.now.defined c.args.name.now) ∙ sym c.in-None.ensures))

pub returns-in-None-clause-definition : goal.returns-in-None-clause-definition
returns-in-None-clause-definition g c =
    ap (option_map defined_by) (sym (no_place 0 0 (program_of c.args.self.now.unit.now) c.args.name.now (sym (c.args.self.now.defined c.args.name.now) ∙ sym c.in-None.ensures)))
    ∙ definition_from 0 (program_of c.args.self.now.unit.now) c.args.name.now
