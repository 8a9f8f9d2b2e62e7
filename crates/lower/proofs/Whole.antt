-- What is made of a whole program is within the limits of code, and means the program.
use Rattle.std.proofs.Common.{◌≡◌, ◌≤◌, length, map, ap, sym, ◌∙◌, subst, arith}
use Rattle.std.specs.List.{AllByRecursion}
use Rattle.std.proofs.Math.Logic.{∥∥₁_elim}
use Rattle.std.proofs.lemmas.List.{length-map}
use Rattle.syntax.specs.declared.tree.Unit.{Unit as OwnUnit}
use Rattle.syntax.specs.Tree.{Program}
use Rattle.syntax.specs.Views.{program_of}
use Rattle.syntax.specs.Typing.{IsTypedProgram}
use Rattle.types.specs.declared.typed.Typed.{Typed}
use Rattle.safety.specs.declared.checked.Safe.{Safe}
use Rattle.safety.specs.Safe.{IsSafeProgram}
use Rattle.separation.specs.declared.checked.Accepted.{Accepted}
use Rattle.separation.specs.Touching.{IsAccepted}
use Rattle.separation.specs.Laws.{NeverAstray}
use Rattle.bytecode.specs.declared.code.Parts.{Parts}
use Rattle.bytecode.specs.Code.{Code, FunctionCode}
use Rattle.bytecode.specs.Valid.{IsValid}
use Rattle.bytecode.specs.Views.{code_of, function_of, instr_of}
use Rattle.lower_spec.specs.Programs.{IsLowered}
use Rattle.lower_spec.specs.Means.{MeansItsProgram}
use Rattle.lower_spec.specs.Laws.{LoweredCodeMeans}
use Rattle.selection.specs.Programs.{picked_code}
use Rattle.selection.specs.Laws.{IsWithinLimits, PickedCodeIsValid, PickedCodeStands}
use Rattle.lower.proofs.Bodies.{few_at}

-- the program that an accepted one lends
pub lent_program : {A : Type 0} {unit : OwnUnit A} {typed : Typed A} {safe : Safe A} (accepted : Accepted A) → unit ≡ typed.unit → typed ≡ safe.typed → safe ≡ accepted.safe → program_of unit ≡ program_of accepted.safe.typed.unit
lent_program accepted u t s = ap program_of u ∙ (λ j. program_of (t j).unit) ∙ (λ j. program_of (s j).typed.unit)

module _ (p : Program) (typed : IsTypedProgram p) (safe : ∥ IsSafeProgram p ∥₁) where
  pub parts_are_valid : PickedCodeIsValid → {A : Type 0} (parts : Parts A) → code_of parts ≡ picked_code p → AllByRecursion (λ (f : FunctionCode). f.registers ≤ 65535) (map function_of parts.functions) → length parts.instructions ≤ 1048576 → IsValid (code_of parts)
  parts_are_valid valid parts is few short =
      let n : length (map (instr_of parts.arguments) parts.instructions) ≡ length parts.instructions = length-map parts.instructions (instr_of parts.arguments) in
      let within : IsWithinLimits (code_of parts) = record { registers = λ k f e. few_at (map function_of parts.functions) k f few e; instructions = omega (arith, n, short) } in
      subst IsValid (sym is) (valid p typed safe (subst IsWithinLimits is within))

  pub code_means : PickedCodeStands → LoweredCodeMeans → NeverAstray → ∥ IsAccepted p ∥₁ → (code : Code) → code ≡ picked_code p → MeansItsProgram p code
  code_means stands means never accepted code is =
      means p code typed (subst (IsLowered p) (sym is) (stands p typed safe))
      (λ t founds below memories n e. ∥∥₁_elim accepted (λ x y. absurd x) (λ a. never p a t founds n e))
