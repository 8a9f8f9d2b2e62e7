use Rattle.std.proofs.Common.{◌∙◌, sym}
use Rattle.std.proofs.lemmas.Result.{on_ok_weaker}
use Rattle.traces.specs.Views.{column_of}
use Rattle.traces.proofs.Growing.{column_pushed}
use Rattle.traces.proofs.columns.push_column_at.Goals as goal

pub returns : goal.returns
returns g c = on_ok_weaker c.push.result (λ is. column_pushed column_of c.args.columns.now c.push.new.self c.in_ok-column_at.field-0 _ _ (sym c.is_touched.ensures ∙ c.if-not-is_touched.false) c.in_ok-column_at.ensures is) c.push.ensures.ok
