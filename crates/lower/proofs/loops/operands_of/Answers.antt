use Rattle.std.proofs.Common.{◌≡◌, ◌∙◌, ℕ, [], Option, Some, None, refl, ap}
use Rattle.lex.specs.declared.token.Scalar.{Scalar}
use Rattle.syntax.specs.declared.tree.BinaryOp.{BinaryOp}
use Rattle.bytecode.specs.Code.{Instr, operator_of}
use Rattle.bytecode.specs.Views.{instr_of}
use Rattle.selection.specs.Loops.{operands_of}
use Rattle.lower.proofs.loops.operands_of.Goals as goal

-- the registers that an operator takes
taken : Option (BinaryOp × Scalar × ℕ × ℕ × ℕ) → Option (ℕ × ℕ)
taken (Some s) = Some (s.3, s.4)
taken None = None

same : (x : Instr) → taken (operator_of x) ≡ operands_of x
unfolding taken
same (Instr.Compute op t d a b) = refl
same x = refl

pub returns-in-Some : goal.returns-in-Some
unfolding taken
returns-in-Some c = ap taken c.in-Some.ensures ∙ same (instr_of [] c.args.instr)

pub returns-in-None : goal.returns-in-None
unfolding taken
returns-in-None c = ap taken c.in-None.ensures ∙ same (instr_of [] c.args.instr)
