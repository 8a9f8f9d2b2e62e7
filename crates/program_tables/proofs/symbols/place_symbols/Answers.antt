use Rattle.std.proofs.Common.{◌∙◌, ◌+◌, map, drop, sym}
use Rattle.std.proofs.lemmas.List.{at_drop_all}
use Rattle.syntax.specs.Types.{file_scope}
use Rattle.syntax.specs.Views.{item_of}
use Rattle.name_tables.specs.Known.{entries_in}
use Rattle.name_tables.specs.Named.{first}
use Rattle.program_tables.specs.inner.Tables.{known_or}
use Rattle.syntax.proofs.typing.Items.{items_more}
use Rattle.program_tables.proofs.symbols.place_symbols.Goals as goal

pub items-preserved : goal.items-preserved
items-preserved g c = λ x.
    c.in_ok-add_declared.ensures x (map item_of (drop (c.items.item-index + 1) c.args.items.now))
    ∙ sym (items_more (λ items. known_or (first (entries_in c.items.table) x) (file_scope items x)) c.args.items.now c.items.item-index c.item-item.result c.items-test.true c.item-item.is)
    ∙ c.items.invariant x

pub returns : goal.returns
returns g c = λ x.
    sym (at_drop_all (λ items. known_or (first (entries_in c.items.table) x) (file_scope (map item_of items) x)) c.args.items.now c.items.item-index c.items-test.false)
    ∙ c.items.invariant x
