-- What a format prints, specifier by specifier.
use Rattle.std.proofs.Common.{◌≡◌, ℕ, ◌+◌, ◌<◌, List, [], ◌∷◌, length, drop, get_or, refl, sym, ap, ◌∙◌}
use Rattle.std.proofs.lemmas.List.{at_drop_more}
use Rattle.std.specs.Option.{option_or}
use Rattle.syntax.specs.Tree.{Scalar}
use Rattle.syntax.specs.declared.tree.Expr as E
use Rattle.syntax.specs.Formats.{Piece, Literal, Specifier, literal, specifiers}
use Rattle.syntax.specs.Views.{expr_of, exprs_of}
use Rattle.syntax.specs.Types.{Scope, type_of}
use Rattle.syntax.specs.Typing.{span_of, first_unmet, demand, HaveTypes}
use Rattle.types.proofs.Steps.{first_of_two}
use Rattle.types.specs.inner.Specifiers.{is_fitting}

-- literal text prints no number
pub literal_specifiers : (c : ℕ) (ps : List Piece) → specifiers (literal c ps) ≡ specifiers ps
literal_specifiers c [] = refl
literal_specifiers c (Literal cs ∷ ps) = refl
literal_specifiers c (Specifier t ∷ ps) = refl

-- one argument more
pub specifier_more : {A : Type 0} (known : Scope) (args : List (E.Expr A)) (next : ℕ) (e : E.Expr A) (t : Scalar) (ts : List Scalar) → e ≡ get_or args next e → next < length args → first_unmet (HaveTypes known (t ∷ ts) (exprs_of (drop next args))) ≡ option_or (first_unmet (demand 27 (span_of (expr_of e)) (is_fitting t (type_of known (expr_of e))))) (first_unmet (HaveTypes known ts (exprs_of (drop (next + 1) args))))
specifier_more known args next e t ts is less =
    at_drop_more (λ xs. first_unmet (HaveTypes known (t ∷ ts) (exprs_of xs))) args next e less
    ∙ ap (λ x. first_unmet (HaveTypes known (t ∷ ts) (exprs_of (x ∷ drop (next + 1) args)))) (sym is)
    ∙ first_of_two (demand 27 (span_of (expr_of e)) (is_fitting t (type_of known (expr_of e)))) (HaveTypes known ts (exprs_of (drop (next + 1) args)))
