use Rattle.std.proofs.Common.{map, refl, ◌∙◌}
use Rattle.std.proofs.lemmas.Result.{err_from_is_err_and}
use Rattle.lex.specs.declared.token.Fixed.TheVariants.{Punctuator}
use Rattle.lex.specs.declared.token.Punctuator.TheVariants as punct
use Rattle.lex.specs.Tokens.{toks}
use Rattle.syntax.specs.Views.{name_of, global_of}
use Rattle.parse.specs.inner.Items.{several}
use Rattle.parse.proofs.code.Climbing.{fails_along}
use Rattle.parse.proofs.code.Loops.{globals_are}
use Rattle.parse.proofs.code.Made.{closes}
use Rattle.parse.proofs.globals.globals.Goals as goal

pub returns-in_err-all : goal.returns-in_err-all
returns-in_err-all g c =
    let p = err_from_is_err_and c.from_residual.result c.from_residual.ensures.1 in
    let failed = closes (λ gs. map global_of gs) (Punctuator punct.Semicolon) (several c.args.ty (name_of c.args.name)) (toks c.args.tokens.now) c.several.result _ c.several.ensures c.in_err-all.ensures in
    rw (p.1, p.2) (fails_along c.in_err-all.field-0.0 _ _ (λ f e. globals_are c.args.ty (name_of c.args.name) (toks c.args.tokens.now) ∙ rw e refl) failed)

pub returns : goal.returns
returns g c =
    let read = closes (λ gs. map global_of gs) (Punctuator punct.Semicolon) (several c.args.ty (name_of c.args.name)) (toks c.args.tokens.now) c.several.result _ c.several.ensures c.in_ok-all.ensures in
    globals_are c.args.ty (name_of c.args.name) (toks c.args.tokens.now) ∙ rw read refl
