use Rattle.std.proofs.Common.{◌∙◌, ap, map}
use Rattle.syntax.specs.Views.{item_of, program_of}
use Rattle.syntax.specs.Typing.{first_unmet, Meets}
use Rattle.types.proofs.AllMet.{typed_program}
use Rattle.types.proofs.unit.check.Goals as goal

pub invariant_of-result : goal.invariant_of-result
invariant_of-result g c =
    let u = c.args.unit in
    record { typed = typed_program u.end (program_of u) (c.in-Ok.ensures ∙ ap (λ xs. first_unmet (Meets u.end (map item_of xs))) c.as_slice.ensures) }
