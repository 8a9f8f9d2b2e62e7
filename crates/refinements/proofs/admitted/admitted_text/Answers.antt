use Rattle.std.proofs.Common.{◌∙◌, ◌++◌, ap}
use Rattle.std.specs.Prelude.{codes}
use Rattle.refinements.specs.Admitted.{order_options}
use Rattle.refinements.proofs.Pieces.{three_pieces}
use Rattle.refinements.proofs.admitted.admitted_text.Goals as goal

pub returns : goal.returns
returns g c =
    let first = c.in_ok-push_bytes.ensures ∙ ap (λ xs. xs ++ codes "== admits ") c.new-text.ensures.items in
    let second = c.in_ok-push_bytes-2.ensures ∙ ap (λ bs. c.push_bytes.new.text.items ++ bs) c.as_bytes.ensures.value in
    let third = c.in_ok-push_options.ensures ∙ ap (λ o. c.push_bytes-2.new.text.items ++ order_options c.args.threads o) c.as_slice.ensures in
    three_pieces _ _ _ _ _ _ first second third
