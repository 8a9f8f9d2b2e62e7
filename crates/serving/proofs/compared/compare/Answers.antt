use Rattle.std.proofs.Common.{refl}
use Rattle.std.specs.Prelude.{string_bytes}
use Rattle.serving.proofs.Opening.{comparison_read, comparison_unread}
use Rattle.serving.proofs.compared.compare.Goals as goal

pub returns-in-Ok : goal.returns-in-Ok
returns-in-Ok g c =
    comparison_read c.args.comparison.now (g.Q.Read.remaining c.args.other) (g.R.Read.remaining c.args.source) (string_bytes c.in-Ok.text) c.as_str.result.now c.compare_text.result _ _ c.in-Ok.ensures.ok c.as_str.ensures.value c.compare_text.ensures

pub returns-in-Err : goal.returns-in-Err
returns-in-Err g c = comparison_unread c.args.comparison.now (g.Q.Read.remaining c.args.other) (g.R.Read.remaining c.args.source) c.in-Err.status _ _ c.in-Err.ensures.status refl
