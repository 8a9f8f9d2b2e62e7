use Rattle.std.proofs.Common.{◌∙◌, ◌++◌, ap}
use Rattle.std.specs.Prelude.{codes}
use Rattle.refinements.specs.Admitted.{order_options}
use Rattle.refinements.proofs.Pieces.{five_pieces}
use Rattle.refinements.proofs.admitted.nearest_text.Goals as goal

pub returns : goal.returns
returns g c = λ line at.
    let first = c.in_ok-push_bytes.ensures ∙ ap (λ xs. xs ++ codes "== does not admit ") c.new-text.ensures.items in
    let second = c.in_ok-push_bytes-2.ensures ∙ ap (λ bs. c.push_bytes.new.text.items ++ bs) c.as_bytes.ensures.value in
    let fourth = c.in_ok-push_options.ensures ∙ ap (λ o. c.push_bytes-3.new.text.items ++ order_options c.args.threads o) c.as_slice.ensures in
    let fifth = c.in_ok-push_bytes-4.ensures ∙ ap (λ l. c.push_options.new.text.items ++ l) (c.as_slice-2.ensures.value ∙ c.in_ok-lines.ensures line at) in
    five_pieces _ _ _ _ _ _ _ _ _ _ first second c.in_ok-push_bytes-3.ensures fourth fifth
