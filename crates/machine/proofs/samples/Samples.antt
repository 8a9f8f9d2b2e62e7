-- A small instruction set, to run worked examples by the definitions. What is written is the residue modulo 2 ^ 32.
use Rattle.std.specs.Prelude.{◌+◌, ◌-◌, ◌*◌, ◌/◌, ◌%◌, ◌^◌, ◌==◌, nat_lt, ℕ, suc, List, [], ◌∷◌, Option, None, Some, slice_index, slice_set, if◌then◌else◌}
use Rattle.std.specs.List.{slice_get}
use Rattle.syntax.specs.declared.thread_end.Trap.TheVariants.{OutOfRange, ZeroDivisor}
use Rattle.bytecode.specs.Effects.{Effect}

pub data Instruction : Type 0 where
  Const : (d k : ℕ) → Instruction
  Add : (d a b : ℕ) → Instruction  -- traps from 2 ^ 31 on
  Sub : (d a b : ℕ) → Instruction  -- traps below 0
  Mul : (d a b : ℕ) → Instruction
  Div : (d a b : ℕ) → Instruction  -- traps by 0
  Jump : (p : ℕ) → Instruction
  Jnz : (a p : ℕ) → Instruction
  Read : (d c : ℕ) → Instruction
  Write : (c a : ℕ) → Instruction
  Open : (p : ℕ) → Instruction
  Close : Instruction
  Undo : Instruction
  UndoOuter : (levels : ℕ) → Instruction
  Keep : Instruction
  Show : (a : ℕ) → Instruction
  Ret : Instruction

pub record Configuration : Type 0 where
  pub place : ℕ
  pub registers : List ℕ

abbrev pub to : Configuration → ℕ → ℕ → Effect Configuration
to c d v = Effect.Pure (record { place = suc c.place; registers = slice_set c.registers d v })

abbrev pub ahead : Configuration → Configuration
ahead c = record c { place = suc c.place }

abbrev pub instruction_effect : Configuration → Instruction → Effect Configuration
instruction_effect c (Const d k) = to c d k
instruction_effect c (Add d a b) = if nat_lt (slice_index c.registers a + slice_index c.registers b) (2 ^ 31) then to c d (slice_index c.registers a + slice_index c.registers b) else Effect.Traps OutOfRange
instruction_effect c (Sub d a b) = if nat_lt (slice_index c.registers a) (slice_index c.registers b) then Effect.Traps OutOfRange else to c d (slice_index c.registers a - slice_index c.registers b)
instruction_effect c (Mul d a b) = to c d (slice_index c.registers a * slice_index c.registers b)
instruction_effect c (Div d a b) = if slice_index c.registers b == 0 then Effect.Traps ZeroDivisor else to c d (slice_index c.registers a / slice_index c.registers b)
instruction_effect c (Jump p) = Effect.Pure (record c { place = p })
instruction_effect c (Jnz a p) = if slice_index c.registers a == 0 then Effect.Pure (ahead c) else Effect.Pure (record c { place = p })
instruction_effect c (Read d a) = Effect.Read a (λ v. record { place = suc c.place; registers = slice_set c.registers d v })
instruction_effect c (Write a r) = Effect.Write a (slice_index c.registers r % 2 ^ 32) (ahead c)
instruction_effect c (Open p) = Effect.Begin (ahead c) (record c { place = p })
instruction_effect c Close = Effect.Commit (ahead c)
instruction_effect c Undo = Effect.Cancel
instruction_effect c (UndoOuter levels) = Effect.CancelOuter levels
instruction_effect c Keep = Effect.Irrevocable (ahead c)
instruction_effect c (Show a) = Effect.Print (slice_index c.registers a ∷ []) (ahead c)
instruction_effect c Ret = Effect.End

abbrev pub effect_of : Configuration → Option Instruction → Effect Configuration
effect_of c None = Effect.End
effect_of c (Some i) = instruction_effect c i

-- what the next instruction of the code does
abbrev pub effects_of : List Instruction → Configuration → Effect Configuration
effects_of code c = effect_of c (slice_get code c.place)

-- thread t begins with its number in register 0
abbrev pub begins : ℕ → Configuration
begins t = record { place = 0; registers = t ∷ 0 ∷ 0 ∷ 0 ∷ [] }
