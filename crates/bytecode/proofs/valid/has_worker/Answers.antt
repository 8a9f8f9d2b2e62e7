use Rattle.std.proofs.Common.{◌≡◌, map, refl, sym, ◌∙◌}
use Rattle.std.specs.Prelude.{codes}
use Rattle.std.proofs.lemmas.Slice.Eq.{bytes_eq-Decides}
use Rattle.bytecode.specs.Views.{function_of}
use Rattle.bytecode.proofs.Each.{has_item, one_more, among_all}
use Rattle.bytecode.proofs.valid.has_worker.Goals as goal
use Rattle.bytecode.proofs.valid.has_worker.Goals.{else-eq-via-then-eq+else-f-eq1, else-eq-via-else-eq}

pub returns-then-f-eq1 : goal.returns-then-f-eq1
returns-then-f-eq1 g c = (λ t. (c.each.f-index, function_of c.f-item.result, has_item function_of c.args.parts.now.functions c.as_slice-f-items.result.now c.each.f-index c.f-item.result c.as_slice-f-items.ensures c.f-item.is c.each-test.true, sym c.as_str.ensures ∙ (bytes_eq-Decides c.as_str.result.now (codes "worker")).0 (sym c.if-eq.ensures), c.if-f-eq1.true), λ h. refl)

pub each-preserved : goal.each-preserved
each-preserved g c = one_more (λ n f. f.name ≡ codes "worker" → f.parameters ≡ 1 → ⊥) (map function_of c.args.parts.now.functions) c.each.f-index (function_of c.f-item.result) (has_item function_of c.args.parts.now.functions c.as_slice-f-items.result.now c.each.f-index c.f-item.result c.as_slice-f-items.ensures c.f-item.is c.each-test.true) (elim c.else-eq.branch [
  | else-eq-via-then-eq+else-f-eq1 w ↦ λ a b. w.if-f-eq1.false b
  | else-eq-via-else-eq w ↦ λ a b. cc (w.if-eq.ensures, (bytes_eq-Decides c.as_str.result.now (codes "worker")).1 (c.as_str.ensures ∙ a))
]) c.each.invariant

pub returns : goal.returns
returns g c = (λ t. cc t, λ w. absurd (c.each.invariant w.0 w.1 (among_all function_of c.args.parts.now.functions c.as_slice-f-items.result.now w.0 c.each.f-index w.1 c.as_slice-f-items.ensures c.each-test.false w.2) w.2 w.3 w.4))
