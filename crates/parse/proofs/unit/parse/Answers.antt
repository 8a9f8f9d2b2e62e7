use Rattle.std.proofs.Common.{map}
use Rattle.lex.specs.Tokens.{toks}
use Rattle.syntax.specs.Views.{item_of}
use Rattle.parse.specs.inner.Reading.{wrong, deep}
use Rattle.parse.proofs.items.Sources.{found, one_source, too_deep_not, none_fails, unexpected_at, too_deep_at, unfinished_at, no_deep_at}
use Rattle.parse.proofs.unit.parse.Goals as goal

pub unreachable-requires : goal.unreachable-requires
unreachable-requires g c = no_deep_at (toks c.args.tokens.now) c.in-Err-Deep-empty.field-0-0.now c.in-Err-Deep-empty.len_below (rw c.in-Err-Deep-empty.field-0-is at c.in-Err-Deep-empty.ensures)

pub returns-in-Ok-clause-found : goal.returns-in-Ok-clause-found
returns-in-Ok-clause-found g c = found (toks c.args.tokens.now) (map item_of c.in-Ok.items) c.end_of.result c.in-Ok.ensures c.end_of.ensures

pub returns-in-Ok-clause-complete : goal.returns-in-Ok-clause-complete
returns-in-Ok-clause-complete g c = λ s l w. one_source (toks c.args.tokens.now) (record { program = map item_of c.in-Ok.items; ends = c.end_of.result }) s (found (toks c.args.tokens.now) (map item_of c.in-Ok.items) c.end_of.result c.in-Ok.ensures c.end_of.ensures).0 l

pub returns-in-Ok-clause-refused : goal.returns-in-Ok-clause-refused
returns-in-Ok-clause-refused g c = λ s l w. absurd (too_deep_not (toks c.args.tokens.now) (map item_of c.in-Ok.items) s c.in-Ok.ensures l w)

pub returns-in-Err-Wrong-empty-clause-fault : goal.returns-in-Err-Wrong-empty-clause-fault
returns-in-Err-Wrong-empty-clause-fault g c = unfinished_at _ _ _ c.in-Err-Wrong-empty.len_below c.end_of-end.ensures (rw c.in-Err-Wrong-empty.field-0-is at c.in-Err-Wrong-empty.ensures)

pub returns-in-Err-Wrong-empty-clause-complete : goal.returns-in-Err-Wrong-empty-clause-complete
returns-in-Err-Wrong-empty-clause-complete g c = none_fails (toks c.args.tokens.now) (wrong (toks c.in-Err-Wrong-empty.field-0-0.now)) (rw c.in-Err-Wrong-empty.field-0-is at c.in-Err-Wrong-empty.ensures)

pub returns-in-Err-Wrong-len1-up-clause-fault : goal.returns-in-Err-Wrong-len1-up-clause-fault
returns-in-Err-Wrong-len1-up-clause-fault g c = unexpected_at _ _ _ c.in-Err-Wrong-len1-up.len_at_least (rw c.in-Err-Wrong-len1-up.field-0-is at c.in-Err-Wrong-len1-up.ensures)

pub returns-in-Err-Wrong-len1-up-clause-complete : goal.returns-in-Err-Wrong-len1-up-clause-complete
returns-in-Err-Wrong-len1-up-clause-complete g c = none_fails (toks c.args.tokens.now) (wrong (toks c.in-Err-Wrong-len1-up.field-0-0.now)) (rw c.in-Err-Wrong-len1-up.field-0-is at c.in-Err-Wrong-len1-up.ensures)

pub returns-in-Err-Deep-len1-up-clause-fault : goal.returns-in-Err-Deep-len1-up-clause-fault
returns-in-Err-Deep-len1-up-clause-fault g c = too_deep_at _ _ _ c.in-Err-Deep-len1-up.len_at_least (rw c.in-Err-Deep-len1-up.field-0-is at c.in-Err-Deep-len1-up.ensures)

pub returns-in-Err-Deep-len1-up-clause-complete : goal.returns-in-Err-Deep-len1-up-clause-complete
returns-in-Err-Deep-len1-up-clause-complete g c = none_fails (toks c.args.tokens.now) (deep (toks c.in-Err-Deep-len1-up.field-0-0.now)) (rw c.in-Err-Deep-len1-up.field-0-is at c.in-Err-Deep-len1-up.ensures)
