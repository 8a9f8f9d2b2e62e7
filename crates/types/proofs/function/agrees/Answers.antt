use Rattle.std.proofs.Common.{◌≡◌, ◌∙◌, ◌&&◌, map, sym, ap}
use Rattle.syntax.specs.Views.{function_of, parameter_of}
use Rattle.syntax.specs.Typing.{agrees, same_types}
use Rattle.types.specs.inner.Scopes.{known_of}
use Rattle.types.proofs.Types.{takes_are}
use Rattle.types.proofs.function.agrees.Goals as goal

pub returns-then-same_result : goal.returns-then-same_result
returns-then-same_result g c =
    let a = c.in-Callable.g.now in
    let b = c.args.f.now in
    let ts = map (λ q. q.ty) (map parameter_of a.parameters) in
    let us = map (λ q. q.ty) (map parameter_of b.parameters) in
    let first : map (λ q. q.ty) c.as_slice.result.now ≡ ts = ap (map (λ q. q.ty)) c.as_slice.ensures ∙ sym (takes_are a.parameters) in
    let second : map (λ q. q.ty) c.as_slice-then-same_result.result.now ≡ us = ap (map (λ q. q.ty)) c.as_slice-then-same_result.ensures ∙ sym (takes_are b.parameters) in
    let both : same_types (map (λ q. q.ty) c.as_slice.result.now) (map (λ q. q.ty) c.as_slice-then-same_result.result.now) ≡ same_types ts us = (λ i. same_types (first i) (second i)) in
    c.same_parameters.ensures ∙ both ∙ ap (λ r. r && same_types ts us) (sym c.if-same_result.true ∙ c.same_result.ensures) ∙ sym (ap (λ s. agrees (function_of b) (known_of s)) c.in-Callable.is)
