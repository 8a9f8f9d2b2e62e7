use Rattle.std.proofs.Common.{◌∙◌, ◌++◌, ap}
use Rattle.std.specs.Prelude.{codes}
use Rattle.refinements.proofs.Pieces.{four_pieces}
use Rattle.refinements.proofs.admitted.none_text.Goals as goal

pub returns : goal.returns
returns g c =
    let first = c.in_ok-push_bytes.ensures ∙ ap (λ xs. xs ++ codes "== does not admit ") c.new-text.ensures.items in
    let second = c.in_ok-push_bytes-2.ensures ∙ ap (λ bs. c.push_bytes.new.text.items ++ bs) c.as_bytes.ensures.value in
    four_pieces _ _ _ _ _ _ _ _ first second c.in_ok-push_bytes-3.ensures c.in_ok-push_threads.ensures
