use Rattle.std.proofs.Common.{refl}
use Rattle.std.specs.Prelude.{string_bytes}
use Rattle.serving.proofs.Opening.{questions_read, questions_unread}
use Rattle.serving.proofs.ask.ask.Goals as goal

pub returns-in-Ok : goal.returns-in-Ok
returns-in-Ok g c =
    questions_read c.args.questions.now (g.R.Read.remaining c.args.source) (string_bytes c.in-Ok.text) c.as_str.result.now c.ask_text.result _ _ c.in-Ok.ensures.ok c.as_str.ensures.value c.ask_text.ensures.serves

pub returns-in-Err : goal.returns-in-Err
returns-in-Err g c = questions_unread c.args.questions.now (g.R.Read.remaining c.args.source) c.in-Err.status _ _ c.in-Err.ensures.status refl
