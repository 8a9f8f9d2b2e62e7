use Rattle.std.proofs.Common.{◌∙◌, ◌++◌, ap}
use Rattle.std.specs.Prelude.{codes}
use Rattle.report.specs.OutcomeList.{order_word}
use Rattle.refinements.proofs.Pieces.{six_joined}
use Rattle.refinements.proofs.told.beyond_text.Goals as goal

pub returns : goal.returns
returns g c =
    let first = c.in_ok-push_bytes.ensures ∙ ap (λ xs. xs ++ codes "== not an outcome of ") c.new-text.ensures.items in
    let second = c.in_ok-push_bytes-2.ensures ∙ ap (λ bs. c.push_bytes.new.text.items ++ bs) c.as_bytes.ensures.value in
    let fourth = c.in_ok-push_order.ensures ∙ ap (λ o. c.push_bytes-3.new.text.items ++ order_word o) c.as_slice.ensures in
    let sixth = c.in_ok-push_bytes-5.ensures ∙ ap (λ r. c.push_bytes-4.new.text.items ++ r) (c.as_slice-2.ensures.value ∙ c.in_ok-report.ensures) in
    six_joined _ _ _ _ _ _ _ _ _ _ _ _ first second c.in_ok-push_bytes-3.ensures fourth c.in_ok-push_bytes-4.ensures sixth
