use Rattle.std.proofs.Common.{◌∙◌}
use Rattle.lex.specs.declared.token.Fixed.TheVariants.{Punctuator}
use Rattle.lex.specs.declared.token.Punctuator.TheVariants as punct
use Rattle.lex.specs.Tokens.{toks}
use Rattle.parse.specs.inner.Reading.{behind, before}
use Rattle.parse.specs.inner.Items.{value_list}
use Rattle.parse.proofs.code.Braces.{behind_is}
use Rattle.parse.proofs.code.Made.{closes}
use Rattle.parse.proofs.globals.first_values.Goals as goal

pub returns : goal.returns
returns g c =
    let inner = before (Punctuator punct.CloseBrace) value_list in
    rw c.in-Some.ensures.0
    (rw (behind_is (Punctuator punct.Assign) (behind (Punctuator punct.OpenBrace) inner) (toks c.args.tokens.now) (toks c.in-Some.rest.now) c.in-Some.ensures.1 ∙ behind_is (Punctuator punct.OpenBrace) inner (toks c.in-Some.rest.now) (toks c.in_ok-rest.rest.now) c.in_ok-rest.ensures)
    (closes (λ x. x) (Punctuator punct.CloseBrace) value_list (toks c.in_ok-rest.rest.now) c.value_list.result c.expect_close.result c.value_list.ensures c.expect_close.ensures))
