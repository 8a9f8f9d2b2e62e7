use Rattle.std.proofs.Common.{◌≡◌, ◌++◌, map, sym, ◌∙◌}
use Rattle.std.proofs.lemmas.Result.{err_from_is_err_and}
use Rattle.lex.specs.declared.token.Fixed.TheVariants.{Punctuator}
use Rattle.lex.specs.declared.token.Punctuator.TheVariants as punct
use Rattle.lex.specs.Tokens.{toks}
use Rattle.syntax.specs.Views.{expr_of}
use Rattle.parse.specs.inner.Reading.{behind, is_other, many_until, map_parser}
use Rattle.parse.specs.inner.Expressions.{whole_at}
use Rattle.parse.proofs.code.Climbing.{fails_along}
use Rattle.parse.proofs.code.Turns.{nothing_before}
use Rattle.parse.proofs.expr.further.Goals as goal

pub returns-in_err-all : goal.returns-in_err-all
returns-in_err-all g c =
    let p = err_from_is_err_and c.from_residual.result c.from_residual.ensures.1 in
    let none : map_parser (λ es. map expr_of c.new.result ++ es) (many_until (is_other (Punctuator punct.Comma)) (behind (Punctuator punct.Comma) (whole_at c.args.depth))) (toks c.args.tokens.now) ≡ many_until (is_other (Punctuator punct.Comma)) (behind (Punctuator punct.Comma) (whole_at c.args.depth)) (toks c.args.tokens.now) = rw c.new.ensures (nothing_before _) in
    rw (p.1, p.2) (fails_along c.in_err-all.field-0.0 _ _ (λ f e. sym none ∙ e) c.in_err-all.ensures.value)

pub returns : goal.returns
returns g c =
    let none : map_parser (λ es. map expr_of c.new.result ++ es) (many_until (is_other (Punctuator punct.Comma)) (behind (Punctuator punct.Comma) (whole_at c.args.depth))) (toks c.args.tokens.now) ≡ many_until (is_other (Punctuator punct.Comma)) (behind (Punctuator punct.Comma) (whole_at c.args.depth)) (toks c.args.tokens.now) = rw c.new.ensures (nothing_before _) in
    sym none ∙ c.in_ok-all.ensures.value
