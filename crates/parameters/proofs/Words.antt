-- What words define.
use Rattle.std.proofs.Common.{◌≡◌, ◌≢◌, ◌∙◌, ℕ, List, ◌∷◌, Option, None, Some, Bool, true, false, sym, subst, inl, inr}
use Rattle.std.specs.Prelude.{MatchOption, codes, if◌then◌else◌}
use Rattle.std.specs.Str.{bytes_eq}
use Rattle.std.proofs.lemmas.Slice.Eq.{bytes_eq-Decides}
use Rattle.parameters.specs.declared.definition.Definition.{Definition}
use Rattle.parameters.specs.declared.definition.Number.{Number}
use Rattle.parameters.specs.Definitions.{IsDefinition, IsMagnitude, IsValue, IsSigned, value_part}

by_sign : (value digits : List ℕ) (n : ℕ) (b : Bool) → ((rest : List ℕ) → value ≢ 45 ∷ rest) → ((m : ℕ) → IsMagnitude value m → ⊥) → value ≡ (if b then 45 ∷ digits else digits) → IsMagnitude digits n → ⊥
by_sign value digits n true plain none e is = plain digits e
by_sign value digits n false plain none e is = none n (subst (λ ds. IsMagnitude ds n) (sym e) is)

-- what begins with no minus and is no magnitude is no number
pub unsigned_none : (value : List ℕ) → ((rest : List ℕ) → value ≢ 45 ∷ rest) → ((m : ℕ) → IsMagnitude value m → ⊥) → (n : Number) → IsSigned value n → ⊥
unsigned_none value plain none n is = by_sign value is.0 n.magnitude n.is_negative plain none is.1 is.2

-- what is not `threads` and no number is no value
pub no_value : (threads : Option ℕ) (value : List ℕ) → value ≢ codes "threads" → ((n : Number) → IsSigned value n → ⊥) → (n : Number) → IsValue threads value n → ⊥
no_value threads value other none n (inl same) = other same.0
no_value threads value other none n (inr is) = none n is

-- if there is no single number of threads, a value is a number that is written
no_signed : (value : List ℕ) → ((n : Number) → IsSigned value n → ⊥) → (n : Number) → IsValue None value n → ⊥
no_signed value none n (inl same) = let never = same.1 in cc
no_signed value none n (inr is) = none n is

pub only_signed : (value : List ℕ) (o : Option Number) → MatchOption o ((n : Number) → IsSigned value n → ⊥) (IsSigned value) → MatchOption o ((n : Number) → IsValue None value n → ⊥) (IsValue None value)
only_signed value None none = no_signed value none
only_signed value (Some n) found = inr found

pub value_read : (threads : Option ℕ) (value : List ℕ) (o : Option Number) (b : Bool) → b ≡ bytes_eq value (codes "threads") → b ≡ false → MatchOption o ((n : Number) → IsSigned value n → ⊥) (IsSigned value) → MatchOption o ((n : Number) → IsValue threads value n → ⊥) (IsValue threads value)
value_read threads value None b is other none =
    no_value threads value (λ same. let t = (bytes_eq-Decides value (codes "threads")).1 same in let e : bytes_eq value (codes "threads") ≡ false = sym is ∙ other in cc) none
value_read threads value (Some n) b is other found = inr found

-- what has no number behind its first `=` defines nothing
pub no_definition : (threads : Option ℕ) (word value : List ℕ) → value ≡ value_part word → ((n : Number) → IsValue threads value n → ⊥) → (d : Definition) → IsDefinition threads word d → ⊥
no_definition threads word value is none d defines = none d.number (subst (λ v. IsValue threads v d.number) (sym is) defines.number_is)
