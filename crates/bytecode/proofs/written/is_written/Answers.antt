use Rattle.bytecode.proofs.Operators.{operator_is}
use Rattle.bytecode.proofs.written.is_written.Goals as goal

pub returns-in-Some : goal.returns-in-Some
returns-in-Some g c = rw (operator_is c.args.parts.now.arguments c.args.instr.now _ c.in-Some.ensures) c.has_three.ensures

pub returns-in-Move : goal.returns-in-Move
returns-in-Move g c = rw c.in-Move.is c.has_two.ensures

pub returns-in-NegateSigned : goal.returns-in-NegateSigned
returns-in-NegateSigned g c = rw c.in-NegateSigned.is c.has_two-in-NegateSigned.ensures

pub returns-in-NegateUnsigned : goal.returns-in-NegateUnsigned
returns-in-NegateUnsigned g c = rw c.in-NegateUnsigned.is c.has_two-in-NegateUnsigned.ensures

pub returns-in-Complement : goal.returns-in-Complement
returns-in-Complement g c = rw c.in-Complement.is c.has_two-in-Complement.ensures

pub returns-in-Check : goal.returns-in-Check
returns-in-Check g c = rw c.in-Check.is c.has-in-Check.ensures

pub returns-in-ReturnValue : goal.returns-in-ReturnValue
returns-in-ReturnValue g c = rw c.in-ReturnValue.is c.has-in-ReturnValue.ensures

pub returns-in-PrintSigned : goal.returns-in-PrintSigned
returns-in-PrintSigned g c = rw c.in-PrintSigned.is c.has-in-PrintSigned.ensures

pub returns-in-PrintUnsigned : goal.returns-in-PrintUnsigned
returns-in-PrintUnsigned g c = rw c.in-PrintUnsigned.is c.has-in-PrintUnsigned.ensures

pub returns-in-Jump : goal.returns-in-Jump
returns-in-Jump g c = rw c.in-Jump.is c.lies.ensures

pub returns-in-Begin : goal.returns-in-Begin
returns-in-Begin g c = rw c.in-Begin.is c.lies-in-Begin.ensures

pub returns-in-NegateLong : goal.returns-in-NegateLong
returns-in-NegateLong g c = rw c.in-NegateLong.is c.has_two-in-NegateLong.ensures

pub returns-in-ComplementLong : goal.returns-in-ComplementLong
returns-in-ComplementLong g c = rw c.in-ComplementLong.is c.has_two-in-ComplementLong.ensures

pub returns-in-Extend : goal.returns-in-Extend
returns-in-Extend g c = rw c.in-Extend.is c.has_two-in-Extend.ensures

pub returns-in-Low : goal.returns-in-Low
returns-in-Low g c = rw c.in-Low.is c.has_two-in-Low.ensures

pub returns-in-PrintLong : goal.returns-in-PrintLong
returns-in-PrintLong g c = rw c.in-PrintLong.is c.has-in-PrintLong.ensures
