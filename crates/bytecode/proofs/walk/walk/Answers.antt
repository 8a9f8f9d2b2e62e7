use Rattle.std.proofs.Common.{ap, sym, refl, map}
use Rattle.bytecode.specs.Views.{code_of, function_of, instr_of}
use Rattle.bytecode.proofs.Answering.{ok_map}
use Rattle.bytecode.proofs.walk.walk.Goals as goal

pub returns : goal.returns
returns g c = ok_map c.walk_over.result _ _ c.walk_over.ensures (λ b h. h (code_of c.args.parts.now) c.args.parts.now.arguments (function_of c.args.f.now) (ap (map (instr_of c.args.parts.now.arguments)) (sym c.as_slice.ensures)) refl)
