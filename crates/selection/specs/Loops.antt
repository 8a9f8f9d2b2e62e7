-- The constant operands in a function's loops. An operator takes them right after the instruction that sets them,
-- between a place and a later jump to it or further back.
use Rattle.std.specs.Prelude.{ℕ, suc, Bool, ◌&&◌, false, ◌||◌, not, nat_le, nat_lt, ◌==◌, min, if◌then◌else◌, List, []}
use Rattle.std.specs.Prelude.{◌∷◌, ◌++◌, length, Option, Some, None}
use Rattle.bytecode.specs.Code.{Instr as Plain}
use Rattle.bytecode.specs.Views.{instr_of}
use Rattle.bytecode.specs.declared.instr.Instr.{Instr}
use Rattle.bytecode.specs.declared.instr.Instr.TheVariants as own

-- of instructions: the lowest place that one of them jumps to, or else the place after them; the operand registers of
-- the first of them; and the constants of loops
pub record Looped : Type 0 where
  pub lowest : ℕ
  pub operands : Option (ℕ × ℕ)
  pub constants : List ℕ

-- the operand registers of a binary operator
abbrev pub operands_of : Plain → Option (ℕ × ℕ)
operands_of (Plain.Compute op t d a b) = Some (a, b)
operands_of i = None

abbrev pub is_operand : Option (ℕ × ℕ) → ℕ → Bool
is_operand None r = false
is_operand (Some o) r = o.0 == r || o.1 == r

abbrev pub has_word : List ℕ → ℕ → Bool
has_word [] w = false
has_word (x ∷ xs) w = x == w || has_word xs w

-- the most constants that are preloaded in a function
abbrev pub MOST_PRELOADED : ℕ
MOST_PRELOADED = 16

-- a constant in a register, at a place before other instructions: it is added if the next one has it as an operand and
-- a jump leads back to it or past it
abbrev pub is_more : (at r w : ℕ) → Looped → Bool
is_more at r w looped =
    is_operand looped.operands r
    && nat_le looped.lowest at
    && nat_lt (length looped.constants) MOST_PRELOADED
    && not (has_word looped.constants w)

abbrev pub one_more : (at r w : ℕ) → Looped → Looped
one_more at r w looped =
    if is_more at r w looped then record looped { constants = looped.constants ++ w ∷ [] } else looped

abbrev pub with_jump_to : ℕ → Looped → Looped
with_jump_to to looped = record looped { lowest = min to looped.lowest }

abbrev pub looped_by : Instr → ℕ → Looped → Looped
looped_by (own.Constant r w) at looped = one_more at r w looped
looped_by (own.Jump to) at looped = with_jump_to to looped
looped_by (own.JumpZero r to) at looped = with_jump_to to looped
looped_by (own.JumpNonzero r to) at looped = with_jump_to to looped
looped_by i at looped = looped

-- one more instruction before others
abbrev pub looped_with : Instr → ℕ → Looped → Looped
looped_with i at looped = record (looped_by i at looped) { operands = operands_of (instr_of [] i) }

-- the lowest place that one jumps to, the operand registers of the first one and the constants of loops, of the
-- instructions from a place on
abbrev pub looped_from : ℕ → List Instr → Looped
looped_from at [] = record { lowest = at; operands = None; constants = [] }
looped_from at (i ∷ is) = looped_with i at (looped_from (suc at) is)

abbrev pub in_loops : ℕ → List Instr → List ℕ
in_loops from is = (looped_from from is).constants
