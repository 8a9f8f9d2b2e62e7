use Rattle.std.proofs.Common.{is_some, refl, ap, sym, ◌∙◌, arith}
use Rattle.lower_exprs.proofs.Handed.{named_taken, named_left, named_none}
use Rattle.lower_exprs.proofs.call.push_named.Goals as goal
use Rattle.lower_exprs.proofs.call.push_named.Goals.{then-is_some+in_ok-push, else-is_some}

pub returns-then-i-registers : goal.returns-then-i-registers
returns-then-i-registers g c = named_none c.args.parameters.now c.args.registers.now c.each.i c.each.all.items _ (omega (arith, c.if-i-registers.true)) c.each.invariant

pub each-preserved : goal.each-preserved
each-preserved g c = elim c.if-is_some.branch [
  | then-is_some+in_ok-push w ↦ named_taken c.args.parameters.now c.args.registers.now c.each.i c.index-parameters-i.result c.each.all.items c.if-is_some.all.items _ _ c.each-test.true (omega (arith, c.if-i-registers.false)) c.index-parameters-i.is refl (ap (λ x. is_some x.name) c.index-parameters-i.is ∙ sym c.is_some.ensures ∙ w.if-is_some.true) (ap (λ v. v.items) w.all-is ∙ w.in_ok-push.ensures) c.each.invariant
  | else-is_some w ↦ named_left c.args.parameters.now c.args.registers.now c.each.i c.index-parameters-i.result c.each.all.items c.if-is_some.all.items _ c.each-test.true (omega (arith, c.if-i-registers.false)) c.index-parameters-i.is (ap (λ x. is_some x.name) c.index-parameters-i.is ∙ sym c.is_some.ensures ∙ w.if-is_some.false) (ap (λ v. v.items) w.all-is) c.each.invariant
]
