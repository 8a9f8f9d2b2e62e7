use Rattle.std.proofs.Common.{◌≡◌, ◌++◌, ◌∷◌, [], map, refl}
use Rattle.lex.specs.declared.token.Fixed.TheVariants.{Punctuator}
use Rattle.lex.specs.declared.token.Punctuator.TheVariants as punct
use Rattle.lex.specs.Tokens.{toks}
use Rattle.parse.specs.inner.Reading.{behind, is_other, comma_list, many_until, map_parser}
use Rattle.parse.proofs.code.Braces.{listed_is}
use Rattle.parse.proofs.list.comma_list.Goals as goal

pub returns : goal.returns
returns g c =
    let P = g.E.Element.reads c.args.element.now in
    let view = g.E.Element.plain in
    let front : map view c.in_ok-all.all ≡ view c.in_ok-first.first ∷ [] = rw c.in_ok-all.ensures refl in
    let start : comma_list P (toks c.args.tokens.now) ≡ map_parser (λ xs. map view c.in_ok-all.all ++ xs) (many_until (is_other (Punctuator punct.Comma)) (behind (Punctuator punct.Comma) P)) (toks c.in_ok-first.rest.now) =
    rw front (listed_is P (toks c.args.tokens.now) (toks c.in_ok-first.rest.now) (view c.in_ok-first.first) c.in_ok-first.ensures) in
    rw start c.further.ensures
