use Rattle.std.proofs.Common.{◌∙◌}
use Rattle.lex.specs.Tokens.{toks}
use Rattle.parse.specs.inner.Reading.{behind, before}
use Rattle.parse.specs.inner.Items.{words}
use Rattle.parse.proofs.code.Braces.{behind_is}
use Rattle.parse.proofs.code.Made.{closes}
use Rattle.parse.proofs.attributes.doubly_enclosed_words.Goals as goal

pub returns : goal.returns
returns g c =
    let k = c.args.closing in
    rw (behind_is c.args.opening (behind c.args.opening (before k (before k words))) (toks c.args.tokens.now) (toks c.in_ok-rest.rest.now) c.in_ok-rest.ensures ∙ behind_is c.args.opening (before k (before k words)) (toks c.in_ok-rest.rest.now) (toks c.in_ok-rest-2.rest.now) c.in_ok-rest-2.ensures)
    (closes (λ x. x) k (before k words) (toks c.in_ok-rest-2.rest.now) c.expect_close.result c.expect_close-2.result (closes (λ x. x) k words (toks c.in_ok-rest-2.rest.now) c.words.result c.expect_close.result c.words.ensures c.expect_close.ensures) c.expect_close-2.ensures)
