-- The locals of parameters, one after another.
use Rattle.std.proofs.Common.{◌≡◌, ◌∙◌, ℕ, ◌+◌, ◌<◌, List, [], ◌∷◌, ◌++◌, map, length, drop, get_or, ap, sym, append_assoc, append-nil}
use Rattle.std.proofs.lemmas.List.{at_drop_more}
use Rattle.syntax.specs.Tree.{Parameter}
use Rattle.lower_spec.specs.Expressions.{LocalScope}
use Rattle.lower_spec.specs.Programs.{parameter_locals}

-- those of one parameter, and those of the parameters behind it
pub parameter_before : (q : Parameter) (qs : List Parameter) → parameter_locals (q ∷ qs) ≡ parameter_locals (q ∷ []) ++ parameter_locals qs
parameter_before q qs = ap (λ (first : LocalScope). first ++ parameter_locals qs) (sym (append-nil _))

-- one more parameter is declared
pub next_parameter : {X : Type 0} (of : X → Parameter) (ps : List X) (i : ℕ) (p : X) (before now whole : LocalScope) → p ≡ get_or ps i p → i < length ps → before ++ parameter_locals (map of (drop i ps)) ≡ whole → now ≡ before ++ parameter_locals (of p ∷ []) → now ++ parameter_locals (map of (drop (i + 1) ps)) ≡ whole
next_parameter of ps i p before now whole e h was new =
    let split = at_drop_more (λ xs. parameter_locals (map of xs)) ps i p h
    ∙ ap (λ y. parameter_locals (of y ∷ map of (drop (i + 1) ps))) (sym e)
    ∙ parameter_before (of p) (map of (drop (i + 1) ps)) in
    ap (λ (s : LocalScope). s ++ parameter_locals (map of (drop (i + 1) ps))) new
    ∙ append_assoc before (parameter_locals (of p ∷ [])) (parameter_locals (map of (drop (i + 1) ps)))
    ∙ sym (ap (λ (s : LocalScope). before ++ s) split)
    ∙ was
