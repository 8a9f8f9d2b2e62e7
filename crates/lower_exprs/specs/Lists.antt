-- The contents of a code's lists while it is generated.
use Rattle.selection.specs.Lists.{Lists}
use Rattle.lower_exprs.specs.declared.lists.Lists.{Lists as OwnLists}

module _ {A : Type 0} where
  abbrev pub lists_of : OwnLists A → Lists
  lists_of l = record {
    arguments = l.arguments.items;
    texts = l.texts.items;
    registers = l.registers;
    layout = record { writable = l.writable; constants = l.constants.items };
  }
