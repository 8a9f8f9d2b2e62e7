use Rattle.serving.specs.Reports.{is_spent}
use Rattle.serving.proofs.Listings.{shown_so}
use Rattle.serving.proofs.certify.unspent_by_source.Goals as goal

pub returns-else-has_spent : goal.returns-else-has_spent
returns-else-has_spent g c = record {
  ticks = c.from.result;
  run = c.in-Ok.ensures;
  unspent = shown_so is_spent c.in-Ok.printed c.as_slice.result.now c.has_spent.result c.has_spent.ensures c.as_slice.ensures c.if-has_spent.false;
}
