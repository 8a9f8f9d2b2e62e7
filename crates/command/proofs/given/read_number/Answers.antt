use Rattle.std.proofs.Common.{subst}
use Rattle.std.specs.Prelude.{IsSomeAnd}
use Rattle.std.specs.Str.Parse.{ParsesUnsigned, ExplainsUnsignedError, HasUnsignedDigitsIfOk}
use Rattle.clap.specs.Words.{found_of}
use Rattle.clap.proofs.WalkLemmas.{one_text-rows}
use Rattle.command.specs.Asked.{IsNoNumber, IsNumberRead}
use Rattle.command.proofs.Reading.{number_read, number_unread, parsed, unparsed}
use Rattle.command.proofs.given.read_number.Goals as goal

pub returns-in-Ok-clause-ok : goal.returns-in-Ok-clause-ok
returns-in-Ok-clause-ok c =
    subst (λ o. IsNumberRead o c.in-Ok.number) (one_text-rows (found_of c.args.given.now) c.args.id.now)
    (number_read (λ bs r. ParsesUnsigned 32 10 bs r × ExplainsUnsignedError 10 bs r × HasUnsignedDigitsIfOk bs r) (λ t n g. parsed t n g.0) _ _ c.in-Ok.ensures.none c.in-Ok.ensures.value)

pub returns-in-Err-clause-err : goal.returns-in-Err-clause-err
returns-in-Err-clause-err c =
    let unread = number_unread (λ bs r. ParsesUnsigned 32 10 bs r × ExplainsUnsignedError 10 bs r × HasUnsignedDigitsIfOk bs r) (λ t e g. unparsed t g.0) _ _ c.in-Err.ensures.none c.in-Err.ensures.value in
    subst (λ o. IsSomeAnd o IsNoNumber) (one_text-rows (found_of c.args.given.now) c.args.id.now) unread
