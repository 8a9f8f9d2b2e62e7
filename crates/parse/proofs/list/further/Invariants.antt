use Rattle.std.proofs.Common.{◌≡◌, ◌-◌, ◌++◌, map, length}
use Rattle.lex.specs.Tokens.{toks}
use Rattle.lex.specs.declared.token.Fixed.TheVariants.{Punctuator}
use Rattle.lex.specs.declared.token.Punctuator.TheVariants as punct
use Rattle.parse.specs.inner.Reading.{behind, is_other, many, many_until, map_parser}
use Rattle.parse.proofs.code.Turns.{onward}
use Rattle.parse.proofs.list.further.Given as goal

-- what was read, and what is still to be read
abbrev pub invariant-turns : goal.invariant-turns
invariant-turns g l = record {
  long : l.count ≡ length l.tokens;
  value : onward (map g.E.Element.plain l.all) (many (is_other (Punctuator punct.Comma)) (l.count - l._turn) (behind (Punctuator punct.Comma) (g.E.Element.reads l.element)) (toks l.rest)) ≡ map_parser (λ xs. map g.E.Element.plain l.fn.read ++ xs) (many_until (is_other (Punctuator punct.Comma)) (behind (Punctuator punct.Comma) (g.E.Element.reads l.element))) (toks l.tokens);
}
