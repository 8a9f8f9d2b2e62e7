use Rattle.std.proofs.Common.{ℕ, ◌≤◌, map, length, refl, ap, arith}
use Rattle.bytecode.specs.Valid.{IsWritten}
use Rattle.bytecode.specs.Views.{code_of, function_of, instr_of}
use Rattle.bytecode.proofs.Each.{has_plain, one_more, denied, affirmed}
use Rattle.bytecode.proofs.valid.are_written.Goals as goal

pub returns-then-not-is_written : goal.returns-then-not-is_written
returns-then-not-is_written g c = denied c.is_written.result _ _ (search) c.is_written.ensures (λ w. w c.each.at _ c.each.auto.at c.each-test.true (has_plain (instr_of c.args.parts.now.arguments) c.args.parts.now.instructions c.as_slice-instrs.result.now c.each.at _ c.as_slice-instrs.ensures (let a = c.requires.ends in let b = ap length c.as_slice-instrs.ensures in let d = c.each-test.true in omega (arith, a, b, d))))

pub each-preserved : goal.each-preserved
each-preserved g c = λ q i le lt e. one_more (λ (n : ℕ) j. c.args.f.now.first ≤ n → IsWritten (code_of c.args.parts.now) (function_of c.args.f.now) c.args.behind j) (map (instr_of c.args.parts.now.arguments) c.args.parts.now.instructions) c.each.at _ (has_plain (instr_of c.args.parts.now.arguments) c.args.parts.now.instructions c.as_slice-instrs.result.now c.each.at _ c.as_slice-instrs.ensures (let a = c.requires.ends in let b = ap length c.as_slice-instrs.ensures in let d = c.each-test.true in omega (arith, a, b, d))) (λ b. affirmed c.is_written.result _ (search) c.is_written.ensures) (λ n j l a b. c.each.invariant n j b l a) q i lt e le

pub returns : goal.returns
returns g c = (λ t q i le lt e. c.each.invariant q i le (let h = c.each-test.false in omega (arith, h, lt)) e, λ w. refl)
