use Rattle.std.proofs.Common.{subst}
use Rattle.bytecode.specs.Code.{effect}
use Rattle.bytecode.specs.Effects.{FitsCells}
use Rattle.lower_spec.proofs.Calls.{means, same_bounds}
use Rattle.lower_spec.proofs.laws.accepted_code_meets_the_machine.Goals as goal

pub returns : goal.returns
returns c = λ p code a l v. record {
  fits = subst (FitsCells (effect code)) (same_bounds p code l) (c.valid_code_fits_its_cells.ensures code v);
  starts = c.threads_leave_memories.ensures.first p;
  means = means p code a.typed l (λ t founds below memories n. c.never_astray.ensures p a t founds n);
}
