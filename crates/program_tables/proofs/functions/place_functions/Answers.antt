use Rattle.std.proofs.Common.{ℕ, List, ◌∙◌, ◌+◌, map, drop, sym, ap, arith}
use Rattle.std.specs.Option.{option_or}
use Rattle.std.proofs.lemmas.List.{at_drop_all}
use Rattle.name_tables.specs.Known.{entries_in}
use Rattle.name_tables.specs.Named.{first}
use Rattle.syntax.specs.Views.{item_of}
use Rattle.program_tables.specs.inner.Tables.{place_from}
use Rattle.program_tables.proofs.Placing.{or_none}
use Rattle.syntax.proofs.typing.Items.{items_more}
use Rattle.program_tables.proofs.Defined.{globals_here, not_placed_here, placed_here}
use Rattle.program_tables.proofs.functions.place_functions.Goals as goal
use Rattle.program_tables.proofs.functions.place_functions.Goals.{in-Function+then-is_some+in_ok-add_function-in-Function, in-Function+else-is_some, in-Globals}

pub items-preserved : goal.items-preserved
items-preserved g c =
    let xs = c.args.items.now in
    let i = c.items.i in
    let item = c.index-items-i.result in
    let old = c.items.table in
    let n = c.items.number in
    let rest = map item_of (drop (i + 1) xs) in
    let few = c.items.invariant.few in
    let next = (λ (x : List ℕ). sym (items_more (λ items. option_or (first (entries_in old) x) (place_from i n items x)) xs i item c.items-test.true c.index-items-i.is) ∙ c.items.invariant.value x) in
    elim c.match-items-i.branch [
      | in-Function+then-is_some+in_ok-add_function-in-Function w ↦ (
          let number-is = w.number-is in
          record {
            value = λ x.
                (λ j. option_or (first (entries_in (w.table-is j)) x) (place_from (i + 1) (w.number-is j) rest x))
                ∙ w.in_ok-add_function-in-Function.ensures x (place_from (i + 1) (n + 1) rest x)
                ∙ sym (ap (λ o. option_or (first (entries_in old) x) o) (placed_here item w.in-Function.f i n rest x w.in-Function.is (sym w.is_some.ensures ∙ w.if-is_some.true)))
                ∙ next x;
            few = omega (arith, number-is, few);
          })
      | in-Function+else-is_some w ↦ (
          let number-is = w.number-is in
          record {
            value = λ x.
                (λ j. option_or (first (entries_in (w.table-is j)) x) (place_from (i + 1) (w.number-is j) rest x))
                ∙ sym (ap (λ o. option_or (first (entries_in old) x) o) (not_placed_here item w.in-Function.f i n rest x w.in-Function.is (sym w.is_some.ensures ∙ w.if-is_some.false)))
                ∙ next x;
            few = omega (arith, number-is, few);
          })
      | in-Globals w ↦ (
          let number-is = w.number-is in
          record {
            value = λ x.
                (λ j. option_or (first (entries_in (w.table-is j)) x) (place_from (i + 1) (w.number-is j) rest x))
                ∙ sym (ap (λ o. option_or (first (entries_in old) x) o) (globals_here item i n _ rest x w.in-Globals.is))
                ∙ next x;
            few = omega (arith, number-is, few);
          })
    ]

pub returns : goal.returns
returns g c = λ x.
    sym (or_none (first (entries_in c.items.table) x))
    ∙ sym (at_drop_all (λ items. option_or (first (entries_in c.items.table) x) (place_from c.items.i c.items.number (map item_of items) x)) c.args.items.now c.items.i c.items-test.false)
    ∙ c.items.invariant.value x
