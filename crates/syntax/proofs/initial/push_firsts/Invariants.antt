use Rattle.std.proofs.Common.{◌≡◌, ◌++◌, map, drop}
use Rattle.syntax.specs.Names.{first_word}
use Rattle.syntax.proofs.initial.push_firsts.Given as goal

abbrev pub invariant-firsts : goal.invariant-firsts
invariant-firsts g l = l.words.items ++ map (first_word l.ty) (drop l.first-index l.firsts) ≡ l.initial.words.items ++ map (first_word l.ty) l.firsts
