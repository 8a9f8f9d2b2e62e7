use Rattle.std.proofs.Common.{◌≡◌, map, None, ap, sym, ◌∙◌, subst}
use Rattle.syntax.specs.Views.{item_of, program_of}
use Rattle.bytecode.specs.Valid.{IsValid}
use Rattle.bytecode.specs.Views.{code_of}
use Rattle.selection.specs.Programs.{picked_code}
use Rattle.lower.specs.Nested.{items_too_deep, nested_too_deep}
use Rattle.lower.specs.Faults.{IsLowerFaultOf}
use Rattle.lower.specs.inner.Parts.{IsOfCode}
use Rattle.program_tables.specs.Views.{program_in}
use Rattle.lower.proofs.Faulty.{handed_on, of_program}
use Rattle.lower.proofs.Whole.{lent_program, parts_are_valid, code_means}
use Rattle.lower.proofs.generate.lower.Goals as goal

pub from_valid-requires : goal.from_valid-requires
from_valid-requires g c =
    let p = program_of c.args.accepted.now.safe.typed.unit in
    let own : program_in c.in-Ok.names ≡ p = lent_program c.args.accepted.now c.in-Ok.ensures c.typed-typed.ensures c.safe.ensures in
    let is : code_of c.in_ok-parts.parts ≡ picked_code p = c.in_ok-parts.ensures.code ∙ ap picked_code own in
    parts_are_valid p c.args.accepted.now.safe.typed.typed c.args.accepted.now.safe.safe c.picked_code_is_valid.ensures c.in_ok-parts.parts is c.in_ok-parts.ensures.few c.in_ok-parts.ensures.short

pub returns-in-Ok-from_valid-clause-means : goal.returns-in-Ok-from_valid-clause-means
returns-in-Ok-from_valid-clause-means g c =
    let p = program_of c.args.accepted.now.safe.typed.unit in
    let own : program_in c.in-Ok.names ≡ p = lent_program c.args.accepted.now c.in-Ok.ensures c.typed-typed.ensures c.safe.ensures in
    let is : c.with_origins.result ≡ picked_code p = c.with_origins.ensures ∙ c.in-Ok-from_valid.ensures.made ∙ c.in_ok-parts.ensures.code ∙ ap picked_code own in
    code_means p c.args.accepted.now.safe.typed.typed c.args.accepted.now.safe.safe c.picked_code_stands.ensures c.lowered_code_means.ensures c.never_astray.ensures c.args.accepted.now.accepted c.with_origins.result is

pub returns-in-Ok-from_valid-clause-worker : goal.returns-in-Ok-from_valid-clause-worker
returns-in-Ok-from_valid-clause-worker g c =
    let p = program_of c.args.accepted.now.safe.typed.unit in
    let own : program_in c.in-Ok.names ≡ p = lent_program c.args.accepted.now c.in-Ok.ensures c.typed-typed.ensures c.safe.ensures in
    let is : code_of c.in_ok-parts.parts ≡ picked_code p = c.in_ok-parts.ensures.code ∙ ap picked_code own in
    let valid : IsValid c.with_origins.result =
    subst IsValid (sym (c.with_origins.ensures ∙ c.in-Ok-from_valid.ensures.made))
    (parts_are_valid p c.args.accepted.now.safe.typed.typed c.args.accepted.now.safe.safe c.picked_code_is_valid.ensures c.in_ok-parts.parts is c.in_ok-parts.ensures.few c.in_ok-parts.ensures.short) in
    valid.worker

pub returns-in_err-parts-clause-fault : goal.returns-in_err-parts-clause-fault
returns-in_err-parts-clause-fault g c =
    let p = program_of c.args.accepted.now.safe.typed.unit in
    let own : program_in c.in-Ok.names ≡ p = lent_program c.args.accepted.now c.in-Ok.ensures c.typed-typed.ensures c.safe.ensures in
    let items : map item_of c.as_slice.result.now ≡ p = (λ j. map item_of (c.as_slice.ensures j)) ∙ lent_program c.args.accepted.now c.unit.ensures c.typed-typed.ensures c.safe.ensures in
    let shallow : nested_too_deep p ≡ None = sym (ap (λ xs. items_too_deep xs 16) items) ∙ sym c.first_too_deep.ensures ∙ c.in-None.is in
    handed_on c.lower_parts.result c.from_residual.result c.in_err-parts.field-0.0 (IsOfCode (program_in c.in-Ok.names)) (IsLowerFaultOf p) c.lower_parts.ensures.fault c.in_err-parts.was c.from_residual.ensures
    (λ e h. of_program p e shallow (subst (λ x. IsOfCode x e) own h))
