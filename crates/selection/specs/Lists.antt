-- The lists of a code while it is generated, except that of its instructions.
use Rattle.std.specs.Prelude.{ℕ, suc, List, max}
use Rattle.lower_spec.specs.Expressions.{Layout}

-- the arguments of its calls, its texts, the number of registers that its function needs so far, and the
-- constants that are preloaded in that function
pub record Lists : Type 0 where
  pub arguments : List ℕ
  pub texts : List (List ℕ)
  pub registers : ℕ
  pub layout : Layout

-- a register is used
abbrev pub with_register : ℕ → Lists → Lists
with_register r l = record l { registers = max l.registers (suc r) }

-- n registers are used
abbrev pub with_registers : ℕ → Lists → Lists
with_registers n l = record l { registers = max l.registers n }
