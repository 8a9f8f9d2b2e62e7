use Rattle.std.proofs.Common.{◌≡◌, ◌∙◌, ◌++◌, ◌∷◌, [], ap, sym, map, arith}
use Rattle.std.proofs.lemmas.List.FromFn.{map-range_with_len_more}
use Rattle.traces.specs.Names.{cell_of}
use Rattle.traces.specs.Views.{named_of}
use Rattle.pages.specs.Data.{types_of}
use Rattle.pages.proofs.cells.types_of.Goals as goal

pub cells-preserved : goal.cells-preserved
cells-preserved g c =
    c.in_ok-push.ensures.items ∙ ap (λ l. l ++ c.in_ok-_name.ty ∷ []) c.cells.invariant
    ∙ ap (λ t. types_of (map named_of c.args.globals.now) c.cells.cell ++ t ∷ []) c.in_ok-_name.ensures.ty
    ∙ sym (map-range_with_len_more (λ k. (cell_of (map named_of c.args.globals.now) k).ty) 0 c.cells.cell c.cells.cell (omega arith))

pub returns : goal.returns
returns g c =
    let end = c.cells-test.false in
    let most = c.cells.auto.cell-end in
    let whole : c.cells.cell ≡ c.args.cells = omega (arith, end, most) in
    c.cells.invariant ∙ ap (types_of (map named_of c.args.globals.now)) whole
