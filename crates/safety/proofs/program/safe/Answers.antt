use Rattle.std.proofs.Common.{None, Some, ap, map, refl, subst, sym, ◌∙◌}
use Rattle.syntax.specs.Views.{item_of, program_of}
use Rattle.safety.specs.inner.Unmet.{Judges}
use Rattle.safety.proofs.Judged.{met_is_safe}
use Rattle.safety.proofs.program.safe.Goals as goal

pub returns-in-Ok-None : goal.returns-in-Ok-None
returns-in-Ok-None g c =
    let typed = c.args.typed in
    let p = program_of typed.unit in
    let is = c.as_slice.ensures ∙ ap (λ u. u.items) c.unit-unit.ensures in
    let judged : Judges p None = subst (λ xs. Judges (map item_of xs) None) is (rw c.in-Ok-None.field-0-is at c.in-Ok-None.ensures) in
    (refl, met_is_safe p typed.typed judged.0 judged.1 judged.2 judged.3 judged.4)

pub invariant_of-result : goal.invariant_of-result
invariant_of-result g c =
    let typed = c.args.typed in
    let p = program_of typed.unit in
    let is = c.as_slice.ensures ∙ ap (λ u. u.items) c.unit-unit.ensures in
    let judged : Judges p None = subst (λ xs. Judges (map item_of xs) None) is (rw c.in-Ok-None.field-0-is at c.in-Ok-None.ensures) in
    record { safe = ∣ met_is_safe p typed.typed judged.0 judged.1 judged.2 judged.3 judged.4 ∣₁ }

pub returns-in-Ok-Some : goal.returns-in-Ok-Some
returns-in-Ok-Some g c =
    let is = c.as_slice.ensures ∙ ap (λ u. u.items) c.unit-unit.ensures in
    let judged = subst (λ xs. Judges (map item_of xs) (Some c.in-Ok-Some.violation)) is (rw c.in-Ok-Some.field-0-is at c.in-Ok-Some.ensures) in
    (refl, (judged.0, judged.1, judged.2, judged.3, sym judged.4))
