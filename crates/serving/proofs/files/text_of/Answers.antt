use Rattle.std.proofs.Common.{inl, inr, subst}
use Rattle.std.specs.Prelude.{IfSome}
use Rattle.serving.specs.Sources.{IsTextOf}
use Rattle.serving.proofs.Refusals.{long_refused}
use Rattle.serving.proofs.files.text_of.Goals as goal

pub returns-in-Ok-TooLong-clause-status : goal.returns-in-Ok-TooLong-clause-status
returns-in-Ok-TooLong-clause-status g c = inl (c.too_long.ensures, long_refused (g.R.Read.remaining c.args.source) (subst (λ s. IfSome (g.R.Read.remaining c.args.source) (λ bytes. IsTextOf bytes s)) c.in-Ok-TooLong.field-0-is c.in-Ok-TooLong.ensures))

pub returns-in-Err-clause-status : goal.returns-in-Err-clause-status
returns-in-Err-clause-status g c = inr c.not_read.ensures.status
