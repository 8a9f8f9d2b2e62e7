use Rattle.std.proofs.Common.{None, lit<}
use Rattle.std.proofs.lemmas.Str.Pattern.{strip_prefix_char}
use Rattle.parameters.proofs.Words.{unsigned_none}
use Rattle.parameters.proofs.definition.signed.Goals as goal

pub returns-in-None-magnitude-2 : goal.returns-in-None-magnitude-2
returns-in-None-magnitude-2 c = unsigned_none c.args.value.now (strip_prefix_char 45 c.args.value.now None c.in-None.ensures.cases (lit< tt)) c.in-None-magnitude-2.ensures
