use Rattle.std.proofs.Common.{◌≡◌, ◌++◌, ◌∷◌, [], map, refl}
use Rattle.lex.specs.declared.token.Fixed.TheVariants.{Punctuator}
use Rattle.lex.specs.declared.token.Punctuator.TheVariants as punct
use Rattle.lex.specs.Tokens.{toks}
use Rattle.syntax.specs.Views.{name_of, global_of}
use Rattle.parse.specs.inner.Reading.{behind, is_other, many_until, map_parser}
use Rattle.parse.specs.inner.Items.{Size, global, global_tree, several}
use Rattle.parse.proofs.code.Loops.{several_is}
use Rattle.parse.proofs.globals.several.Goals as goal

pub returns : goal.returns
returns g c =
    let x = name_of c.args.name in
    let size : Size = (c.in_ok-length.length, c.in_ok-length.first) in
    let front : map global_of c.in_ok-all.all ≡ global_tree c.args.ty x size ∷ [] = rw c.in_ok-all.ensures refl in
    let start : several c.args.ty x (toks c.args.tokens.now) ≡ map_parser (λ gs. map global_of c.in_ok-all.all ++ gs) (many_until (is_other (Punctuator punct.Comma)) (behind (Punctuator punct.Comma) (global c.args.ty))) (toks c.in_ok-length.rest.now) =
    rw front (several_is c.args.ty x size (toks c.args.tokens.now) (toks c.in_ok-length.rest.now) c.in_ok-length.ensures) in
    rw start c.further.ensures
