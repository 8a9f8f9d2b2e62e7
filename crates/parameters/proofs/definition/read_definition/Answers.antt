use Rattle.std.proofs.Common.{Some, lit<}
use Rattle.std.proofs.lemmas.Str.Pattern.{split_once_first}
use Rattle.parameters.proofs.Words.{no_definition}
use Rattle.parameters.proofs.definition.read_definition.Goals as goal

pub returns-in-None : goal.returns-in-None
returns-in-None c =
    let parts = split_once_first 61 c.args.word.now (Some (c.in-Some.name, c.in-Some.value)) c.in-Some.ensures.cases (lit< tt) in
    no_definition c.args.threads c.args.word.now c.in-Some.value.now parts.2 c.in-None.ensures
