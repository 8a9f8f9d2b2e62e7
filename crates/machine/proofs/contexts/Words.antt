-- Words of cells fit registers.
use Rattle.std.proofs.Common.{◌<◌, ◌≤◌, ◌^◌, ℕ, zero, suc, List, [], ◌∷◌, map, slice_index, arith}
use Rattle.syntax.specs.Tree.{Scalar, Int, Unsigned, LongLong}
use Rattle.syntax.specs.Numbers.{modulus}
use Rattle.syntax.specs.Names.{cell_types}
use Rattle.bytecode.specs.Code.{Code}
use Rattle.norec_core.specs.declared.step.Access.{Access}
use Rattle.norec_core.specs.declared.step.Access.TheVariants.{LoadWord}
use Rattle.norec_core.specs.declared.step.Answer.{Answer}
use Rattle.norec_core.specs.declared.step.Answer.TheVariants.{Value}
use Rattle.machine.specs.States.{IsWordOf}

-- a loaded cell's word fits a register
abbrev pub FitsRegister : Access → Answer → Type 0
FitsRegister (LoadWord cell) (Value word) = word < 2 ^ 64
FitsRegister _ _ = Unit {0}

type_fits : (t : Scalar) → modulus t ≤ 2 ^ 64
type_fits Int = omega arith
type_fits Unsigned = omega arith
type_fits LongLong = omega arith

bound_fits : (ts : List Scalar) (a : ℕ) → slice_index (map modulus ts) a ≤ 2 ^ 64
bound_fits [] a = omega arith
bound_fits (t ∷ ts) zero = type_fits t
bound_fits (t ∷ ts) (suc a) = bound_fits ts a

pub word_fits : (code : Code) (x : Access) (y : Answer) → IsWordOf code x y → FitsRegister x y
word_fits code (LoadWord a) (Value w) h = let b = bound_fits (cell_types code.globals) a in omega (arith, h, b)
word_fits code x y h = tt
