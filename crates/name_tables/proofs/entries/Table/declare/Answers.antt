use Rattle.std.proofs.Common.{◌∙◌, sym, ap, is_some, not, map, bytes_eq, [], ◌∷◌}
use Rattle.indexmap.proofs.CallerLemmas.{insert_entry-new}
use Rattle.std.proofs.lemmas.List.{map-append}
use Rattle.name_tables.specs.Known.{entries_in, entry_of}
use Rattle.name_tables.proofs.Firsts.{firsts, unchanged, added, absent}
use Rattle.name_tables.proofs.entries.Table.declare.Goals as goal

pub returns-then-contains_key-clause-ok : goal.returns-then-contains_key-clause-ok
returns-then-contains_key-clause-ok g c =
    unchanged (entries_in c.args.self.now) c.args.name.now c.args.value (ap is_some (sym (firsts c.args.self.now.map.entries c.args.name.now)) ∙ sym c.contains_key.ensures ∙ c.if-contains_key.true)

pub returns-in-Ok-clause-ok : goal.returns-in-Ok-clause-ok
returns-in-Ok-clause-ok g c =
    let old = c.args.self.now in
    let name = c.args.name in
    let is = sym c.contains_key.ensures ∙ c.if-contains_key.false in
    ap (map entry_of) (c.in-Ok.ensures.entries ∙ insert_entry-new (λ a b. bytes_eq a.now b.now) old.map name c.args.value (absent _ is))
    ∙ map-append entry_of old.map.entries ((name, c.args.value) ∷ [])
    ∙ added (entries_in old) name.now c.args.value (ap is_some (sym (firsts old.map.entries name.now)) ∙ is)

pub returns-then-contains_key-clause-new : goal.returns-then-contains_key-clause-new
returns-then-contains_key-clause-new g c =
    ap not (sym c.if-contains_key.true ∙ c.contains_key.ensures ∙ ap is_some (firsts c.args.self.now.map.entries c.args.name.now))

pub returns-in-Ok-clause-new : goal.returns-in-Ok-clause-new
returns-in-Ok-clause-new g c =
    ap not (sym c.if-contains_key.false ∙ c.contains_key.ensures ∙ ap is_some (firsts c.args.self.now.map.entries c.args.name.now))
