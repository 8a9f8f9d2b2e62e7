use Rattle.std.proofs.Common.{◌≡◌, ◌++◌, ◌≤◌, length, map, drop, take}
use Rattle.std.specs.List.{AllByRecursion}
use Rattle.syntax.specs.Names.{globals}
use Rattle.syntax.specs.Views.{item_of, global_of}
use Rattle.bytecode.specs.Views.{function_of}
use Rattle.selection.specs.Programs.{made_for}
use Rattle.program_tables.specs.Views.{program_in}
use Rattle.lower.specs.inner.Parts.{made_in}
use Rattle.lower.proofs.generate.lower_parts.Given as goal

-- the code of the first items is made, and their globals and those that are to come are all
abbrev pub invariant-items : goal.invariant-items
invariant-items g l =
    let items = l.names.unit.now.items in
    let left = map item_of (drop l.item-index items) in
    record {
      made : made_in l.making ≡ made_for (program_in l.names) (map item_of (take l.item-index items));
      globals : map global_of l.making.globals.items ++ globals left ≡ globals (map item_of items);
      few : AllByRecursion (λ f. f.registers ≤ 65535) (map function_of l.making.functions.items);
      short : length l.making.code.items ≤ 1048576;
    }
