use Rattle.std.proofs.Common.{◌≡◌, ℕ, ◌<◌}
use Rattle.std.specs.Prelude.{codes}
use Rattle.bytecode.specs.Code.{FunctionCode}
use Rattle.bytecode.specs.Valid.{Has}
use Rattle.bytecode.specs.Views.{code_of}
use Rattle.bytecode.proofs.valid.has_worker.Given as goal

abbrev pub invariant-each : goal.invariant-each
invariant-each g l = (n : ℕ) (f : FunctionCode) → n < l.f-index → Has (code_of l.parts) n f → f.name ≡ codes "worker" → f.parameters ≡ 1 → ⊥
