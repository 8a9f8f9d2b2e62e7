use Rattle.std.proofs.Common.{◌≡◌, ◌∙◌, ◌+◌, ◌-◌, ◌<◌, length, map, take, drop, slice_index, sym, ap, subst, arith}
use Rattle.std.specs.Prelude.{EachIndex}
use Rattle.std.proofs.lemmas.Bool.{eq-eqb, eqb-true}
use Rattle.std.proofs.lemmas.List.{drop-drop, length-drop}
use Rattle.syntax.specs.Behaviours.{IsMemory}
use Rattle.syntax.specs.Names.{cells, cell_types, bounds_of}
use Rattle.syntax.specs.Numbers.{modulus}
use Rattle.syntax.specs.Views.{global_of}
use Rattle.bytecode.proofs.Cells.{bounds_from}
use Rattle.atomic_code.proofs.Memories.{all_behind, cells_before, each_before, no_bounds, none_left, none_over}
use Rattle.atomic_code.proofs.memory.are_cells.Goals as goal

pub returns-then-cells-words : goal.returns-then-cells-words
returns-then-cells-words g c =
    let item = global_of c.global-item.result in
    let words = drop c.each.from c.args.words.now in
    let bounds = bounds_from global_of c.args.globals.now c.each.global-index c.global-item.result c.each-test.true c.global-item.is in
    let many = c.if-cells-words.true in
    let same = c.cell_count-cells.ensures in
    let long = length-drop c.each.from c.args.words.now in (
      λ t. absurd (cc t),
      λ is.
          let enough = (all_behind item.ty (cells item) (cell_types (map global_of (drop (c.each.global-index + 1) c.args.globals.now))) words (subst (λ bs. IsMemory bs words) bounds (c.each.invariant.1.0 is))).0 in
          absurd (omega (arith, enough, long, many, same)),
    )

pub returns-then-not-are_words : goal.returns-then-not-are_words
returns-then-not-are_words g c =
    let item = global_of c.global-item.result in
    let words = drop c.each.from c.args.words.now in
    let bounds = bounds_from global_of c.args.globals.now c.each.global-index c.global-item.result c.each-test.true c.global-item.is in
    let same = c.cell_count-cells.ensures in
    let count : c.each.from + c.cell_count-cells.result - c.each.from ≡ cells item = omega (arith, same) in (
      λ t. absurd (cc t),
      λ is.
          let each = each_before item.ty (cells item) (cell_types (map global_of (drop (c.each.global-index + 1) c.args.globals.now))) words (subst (λ bs. IsMemory bs words) bounds (c.each.invariant.1.0 is)) in
          let yes = c.are_words.ensures.1 (subst (λ n. EachIndex (take n words) (λ i. slice_index (take n words) i < modulus item.ty)) (sym count) each) in
          let no = c.if-not-are_words.true in
          absurd (cc (yes, no)),
    )

pub each-preserved : goal.each-preserved
each-preserved g c =
    let item = global_of c.global-item.result in
    let left = map global_of (drop (c.each.global-index + 1) c.args.globals.now) in
    let words = drop c.each.from c.args.words.now in
    let bounds = bounds_from global_of c.args.globals.now c.each.global-index c.global-item.result c.each-test.true c.global-item.is in
    let few = c.if-cells-words.false in
    let in_time = c.each.invariant.0 in
    let same = c.cell_count-cells.ensures in
    let long = length-drop c.each.from c.args.words.now in
    let count : c.each.from + c.cell_count-cells.result - c.each.from ≡ cells item = omega (arith, same) in
    let on = drop-drop (cells item) c.each.from c.args.words.now ∙ ap (λ n. drop (c.each.from + n) c.args.words.now) (sym same) in
    let each = subst (λ n. EachIndex (take n words) (λ i. slice_index (take n words) i < modulus item.ty)) count (c.are_words.ensures.0 c.if-not-are_words.false) in (
      omega (arith, few, in_time),
      (
        λ is. subst (IsMemory (bounds_of left)) on (all_behind item.ty (cells item) (cell_types left) words (subst (λ bs. IsMemory bs words) bounds (c.each.invariant.1.0 is))).1,
        λ is. c.each.invariant.1.1 (subst (λ bs. IsMemory bs words) (sym bounds) (cells_before item.ty (cells item) (cell_types left) words (omega (arith, few, same, long)) each (subst (IsMemory (bounds_of left)) (sym on) is))),
      ),
    )

pub returns : goal.returns
returns g c =
    let words = drop c.each.from c.args.words.now in
    let bounds = no_bounds global_of c.args.globals.now c.each.global-index c.each-test.false in (
      λ t. c.each.invariant.1.1 (subst (λ bs. IsMemory bs words) (sym bounds) (none_left c.each.from c.args.words.now (eqb-true c.each.from (length c.args.words.now) t))),
      λ is. eq-eqb c.each.from (length c.args.words.now) (none_over c.each.from c.args.words.now c.each.invariant.0 (subst (λ bs. IsMemory bs words) bounds (c.each.invariant.1.0 is))),
    )
