-- Where values are in the types that are due, no conversion stands.
use Rattle.std.proofs.Common.{ℕ, Option, refl}
use Rattle.lex.specs.declared.token.Scalar.{Scalar}
use Rattle.lex.specs.declared.token.Scalar.TheVariants.{Int, Unsigned, LongLong}
use Rattle.syntax.specs.Tree.{Program}
use Rattle.bytecode.specs.Code.{Code}
use Rattle.lower_spec.specs.Expressions.{Layout, Coded, widening, ConvertedBy, Converts, ConvertedCode}
use Rattle.lower_spec.specs.Statements.{Target, LocalAt, CellAt, ElementOf, target_type, StoreCode, StoredCode}

pub lies_there : (code : Code) (layout : Layout) (home : Option ℕ) (u : Scalar) (ra from free : ℕ) → Converts code layout home u u ra from from free ra
lies_there code layout home Int ra from free = (refl, refl)
lies_there code layout home Unsigned ra from free = (refl, refl)
lies_there code layout home LongLong ra from free = (refl, refl)

pub goes_there : (code : Code) (layout : Layout) (home : Option ℕ) (u : Scalar) (ra from free : ℕ) → ConvertedBy code layout (widening u u) home u ra from from free ra
goes_there code layout home Int ra from free = (refl, refl)
goes_there code layout home Unsigned ra from free = (refl, refl)
goes_there code layout home LongLong ra from free = (refl, refl)

-- a value that lies in its own type
pub own_is : (code : Code) (layout : Layout) (home : Option ℕ) (e : Coded) (u : Scalar) (from to free r : ℕ) → e from to free r u → ConvertedCode code layout home e u from to free r u
own_is code layout home e u from to free r h = record { mid = to; ra = r; computes = h; converts = lies_there code layout home u r to free }

pub stored_is : (code : Code) (layout : Layout) (p : Program) (target : Target) (ra from to free : ℕ) → StoreCode code layout p target ra from to → StoredCode code layout p target (target_type target) ra from to free
stored_is code layout p (LocalAt l) ra from to free c = record { mid = from; r = ra; converts = lies_there code layout _ l.1 ra from free; stores = c }
stored_is code layout p (CellAt g) ra from to free c = record { mid = from; r = ra; converts = goes_there code layout _ g.global.ty ra from free; stores = c }
stored_is code layout p (ElementOf g ri) ra from to free c = record { mid = from; r = ra; converts = goes_there code layout _ g.global.ty ra from free; stores = c }
