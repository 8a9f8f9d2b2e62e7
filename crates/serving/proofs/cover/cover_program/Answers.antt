use Rattle.std.proofs.Common.{◌∙◌, ◌==◌, ap, inr, map, refl}
use Rattle.std.specs.List.{slice_split}
use Rattle.syntax.specs.Views.{program_of}
use Rattle.serving.proofs.CoveringTold.{prints_named, refused_coverings}
use Rattle.serving.proofs.cover.cover_program.Goals as goal

pub returns-in-Ok : goal.returns-in-Ok
returns-in-Ok g c =
    let same = ap (map (λ n. n.now)) c.as_slice.ensures.value ∙ c.in-Ok.ensures ∙ ap (slice_split (λ b. b == 44)) c.as_str.ensures.value in
    prints_named (program_of c.args.compiled.now.accepted.safe.typed.unit) c.args.coverage.now.steps _ _ c.cover_names.result _ _ same c.cover_names.ensures

pub returns-in-Err : goal.returns-in-Err
returns-in-Err g c = refused_coverings _ c.out_of_memory.result _ _ (inr c.out_of_memory.ensures) refl
