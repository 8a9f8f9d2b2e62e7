use Rattle.std.proofs.Common.{◌≡◌, ◌∙◌, ◌∷◌, [], ◌&&◌, map, sym, ap}
use Rattle.syntax.specs.Tree.{Int}
use Rattle.syntax.specs.Views.{parameter_of}
use Rattle.syntax.specs.Typing.{is_worker, same_types}
use Rattle.types.specs.inner.Scopes.{known_of}
use Rattle.types.proofs.Types.{takes_are, none_of}
use Rattle.types.proofs.function.is_worker.Goals as goal

pub returns-then-is_none : goal.returns-then-is_none
returns-then-is_none g c =
    let a = c.in-Callable.f.now in
    let ts = map (λ q. q.ty) (map parameter_of a.parameters) in
    let first : map (λ q. q.ty) c.as_slice.result.now ≡ ts = ap (map (λ q. q.ty)) c.as_slice.ensures ∙ sym (takes_are a.parameters) in
    c.takes_one_int.ensures ∙ ap (λ us. same_types us (Int ∷ [])) first ∙ ap (λ r. r && same_types ts (Int ∷ [])) (none_of a.result c.is_none.result c.is_none.ensures c.if-is_none.true) ∙ sym (ap (λ s. is_worker (known_of s)) c.in-Callable.is)
