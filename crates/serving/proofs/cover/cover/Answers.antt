use Rattle.std.proofs.Common.{refl}
use Rattle.std.specs.Prelude.{string_bytes}
use Rattle.serving.proofs.Opening.{coverage_read, coverage_unread}
use Rattle.serving.proofs.cover.cover.Goals as goal

pub returns-in-Ok : goal.returns-in-Ok
returns-in-Ok g c =
    coverage_read c.args.coverage.now (g.R.Read.remaining c.args.source) (string_bytes c.in-Ok.text) c.as_str.result.now c.cover_text.result _ _ c.in-Ok.ensures.ok c.as_str.ensures.value c.cover_text.ensures

pub returns-in-Err : goal.returns-in-Err
returns-in-Err g c = coverage_unread c.args.coverage.now (g.R.Read.remaining c.args.source) c.in-Err.status _ _ c.in-Err.ensures.status refl
