use Rattle.std.specs.Prelude.{decimal}
use Rattle.std.proofs.Common.{◌∙◌, ◌++◌, ap}
use Rattle.std.proofs.lemmas.Result.{on_ok_weaker}
use Rattle.refinements.proofs.Pieces.{five_joined}
use Rattle.refinements.proofs.admitted.push_options.Goals as goal

pub returns : goal.returns
returns g c = on_ok_weaker c.push_bytes-3.result (λ last.
    five_joined _ _ _ _ _ _ _ _ _ _ _ c.in_ok-push_bytes.ensures
    (c.in_ok-push_number.ensures ∙ ap (λ n. c.push_bytes.new.text.items ++ decimal n) c.from.ensures) c.in_ok-push_bytes-2.ensures c.in_ok-push_order.ensures last) c.push_bytes-3.ensures
