-- The code generated so far for a program, and why none is generated for a definition, an item or a program whose
-- transactions are not nested too deeply.
use Rattle.std.specs.Prelude.{◌≡◌, ◌<◌, ◌++◌, ◌∷◌, [], ℕ, List, map, Contains}
use Rattle.syntax.specs.Tree.{Function, Item, Defines, Program}
use Rattle.bytecode.specs.Code.{FunctionCode}
use Rattle.bytecode.specs.Views.{function_of}
use Rattle.selection.specs.Simples.{Written}
use Rattle.selection.specs.Programs.{FunctionCodes, function_code}
use Rattle.lower_exprs.specs.Lists.{lists_of}
use Rattle.lower.specs.declared.generate.Making.{Making}
use Rattle.lower.specs.declared.fault.LowerFault.{LowerFault}
use Rattle.lower.specs.declared.fault.LowerFault.TheVariants.{OutOfMemory, TooManyRegisters, TooMuchCode, NestedTooDeep}
use Rattle.lower.specs.Limits.{NeedsTooMany, PassesWith, IsTooMuch}

module _ {A : Type 0} where
  abbrev pub made_in : Making A → FunctionCodes
  made_in m = record {
    functions = map function_of m.functions.items;
    code = m.code.items;
    lists = lists_of m.lists;
    to = m.to;
  }

-- the code of items, and after it that of others
abbrev pub made_behind : FunctionCodes → FunctionCodes → FunctionCodes
made_behind a b =
    record { functions = a.functions ++ b.functions; code = a.code ++ b.code; lists = b.lists; to = b.to }

-- the code of one definition
abbrev pub made_once : Function → ℕ → Written → FunctionCodes
made_once f from w =
    record { functions = function_code f from w ∷ []; code = w.code; lists = w.lists; to = w.to }

-- why a definition that needs so many registers gets no code, if there are so many instructions after it
abbrev pub IsOfDefinition : Function → (registers instructions : ℕ) → LowerFault → Type 0
IsOfDefinition f registers instructions OutOfMemory = Unit {0}
IsOfDefinition f registers instructions (TooManyRegisters at) = (at ≡ f.name.span) × (65535 < registers)
IsOfDefinition f registers instructions (TooMuchCode at) = (at ≡ f.name.span) × (1048576 < instructions)
IsOfDefinition f registers instructions (NestedTooDeep at) = ⊥

-- one of these codes has this function's name and needs too many registers
abbrev pub NeedsTooManyIn : Function → List FunctionCode → Type 0
NeedsTooManyIn f codes = (g : FunctionCode) × Contains codes g × (g.name ≡ f.name.text) × (65535 < g.registers)

-- why an item with these codes is refused, if there are so many instructions after it
abbrev pub IsOfItem : Item → List FunctionCode → ℕ → LowerFault → Type 0
IsOfItem item codes instructions OutOfMemory = Unit {0}
IsOfItem (Defines f) codes instructions (TooManyRegisters at) = (at ≡ f.name.span) × NeedsTooManyIn f codes
IsOfItem (Defines f) codes instructions (TooMuchCode at) = (at ≡ f.name.span) × (1048576 < instructions)
IsOfItem item codes instructions fault = ⊥

abbrev pub IsOfCode : Program → LowerFault → Type 0
IsOfCode p OutOfMemory = Unit {0}
IsOfCode p (TooManyRegisters at) = NeedsTooMany p at
IsOfCode p (TooMuchCode at) = PassesWith p at × IsTooMuch p
IsOfCode p (NestedTooDeep at) = ⊥
