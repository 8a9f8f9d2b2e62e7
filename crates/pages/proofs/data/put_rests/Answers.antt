use Rattle.std.proofs.Common.{◌∙◌, ap}
use Rattle.pages.specs.Content.{rest_data}
use Rattle.pages.specs.Data.{rest_object}
use Rattle.pages.proofs.Writing.{next_listed, same_tokens}
use Rattle.pages.proofs.data.put_rests.Goals as goal

pub rests-preserved : goal.rests-preserved
rests-preserved g c = (
  c.in_ok-put_rest.ensures.before ∙ c.rests.invariant.0,
  next_listed rest_object rest_data c.args.rests.now c.rests.rest-index c.rest-item.result c.rests.to c.put_rest.new.to _ c.rests-test.true c.rests.invariant.1
      (same_tokens _ _ (ap (λ x. rest_object (rest_data x)) c.rest-item.is) c.in_ok-put_rest.ensures),
)
