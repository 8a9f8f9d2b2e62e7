use Rattle.std.proofs.Common.{◌∙◌, ◌++◌, ap}
use Rattle.std.specs.Prelude.{codes}
use Rattle.refinements.proofs.Pieces.{seven_joined}
use Rattle.refinements.proofs.told.refined_text.Goals as goal

pub returns : goal.returns
returns g c =
    let first = c.in_ok-push_bytes.ensures ∙ ap (λ xs. xs ++ codes "== refines ") c.new-text.ensures.items in
    let second = c.in_ok-push_bytes-2.ensures ∙ ap (λ bs. c.push_bytes.new.text.items ++ bs) c.as_bytes.ensures.value in
    seven_joined _ _ _ _ _ _ _ _ _ _ _ _ _ _ first second c.in_ok-push_bytes-3.ensures c.in_ok-push_number.ensures c.in_ok-push_bytes-4.ensures c.in_ok-push_number-2.ensures c.in_ok-push_threads.ensures
