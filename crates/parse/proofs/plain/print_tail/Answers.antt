use Rattle.std.proofs.Common.{map}
use Rattle.lex.specs.declared.token.Fixed.TheVariants.{Punctuator}
use Rattle.lex.specs.declared.token.Punctuator.TheVariants as punct
use Rattle.lex.specs.Tokens.{toks}
use Rattle.syntax.specs.Views.{expr_of}
use Rattle.parse.specs.inner.Reading.{before, behind, is_other, many_until}
use Rattle.parse.specs.inner.Expressions.{whole_at}
use Rattle.parse.proofs.code.Made.{closes}
use Rattle.parse.proofs.plain.print_tail.Goals as goal

pub returns : goal.returns
returns g c =
    let more = many_until (is_other (Punctuator punct.Comma)) (behind (Punctuator punct.Comma) (whole_at c.args.depth)) in
    closes (λ es. map expr_of es) (Punctuator punct.Semicolon) (before (Punctuator punct.CloseParen) more) (toks c.args.tokens.now) c.expect_close.result c.expect_close-2.result
    (closes (λ es. map expr_of es) (Punctuator punct.CloseParen) more (toks c.args.tokens.now) c.further.result c.expect_close.result c.further.ensures c.expect_close.ensures) c.expect_close-2.ensures
