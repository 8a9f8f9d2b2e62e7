use Rattle.std.proofs.Common.{ℕ, List, Bor, subst, refl, sym}
use Rattle.std.specs.Prelude.{nat_eq}
use Rattle.std.specs.Cmp.Lexicographic.{pointwise}
use Rattle.std.specs.HashSet.{contains}
use Rattle.bytecode.specs.Views.{code_of, function_of}
use Rattle.bytecode.proofs.Each.{has_item, among_all}
use Rattle.bytecode.proofs.Names.{IsNamed, named_more, distinct_more, named_twice, was_in, was_not}
use Rattle.bytecode.proofs.valid.have_distinct_names.Goals as goal

pub returns-in-Ok-false : goal.returns-in-Ok-false
returns-in-Ok-false g c = (λ t. cc t, λ d. absurd (named_twice (code_of c.args.parts.now) c.each.f-index (function_of c.f-item.result) (has_item function_of c.args.parts.now.functions c.as_slice-functions.result.now c.each.f-index c.f-item.result c.as_slice-functions.ensures c.f-item.is c.each-test.true) (subst (IsNamed (code_of c.args.parts.now) c.each.f-index) c.as_str.ensures ((c.each.invariant.known c.as_str.result).0 (was_in (contains {K = Bor (List ℕ)} (λ x y. pointwise nat_eq x.now y.now) c.each.names c.as_str.result) c.in-Ok-false.field-0 c.in-Ok-false.ensures.added c.in-Ok-false.field-0-test))) d))

pub each-preserved : goal.each-preserved
each-preserved g c = record {
  known = named_more (code_of c.args.parts.now) c.each.f-index (function_of c.f-item.result) (has_item function_of c.args.parts.now.functions c.as_slice-functions.result.now c.each.f-index c.f-item.result c.as_slice-functions.ensures c.f-item.is c.each-test.true) (contains {K = Bor (List ℕ)} (λ x y. pointwise nat_eq x.now y.now) c.each.names) (contains {K = Bor (List ℕ)} (λ x y. pointwise nat_eq x.now y.now) c.insert.new.self) c.as_str.result.now c.as_str.ensures c.each.invariant.known c.in-Ok-true.ensures.updates.0;
  distinct = distinct_more (code_of c.args.parts.now) c.each.f-index (function_of c.f-item.result) (has_item function_of c.args.parts.now.functions c.as_slice-functions.result.now c.each.f-index c.f-item.result c.as_slice-functions.ensures c.f-item.is c.each-test.true) c.each.invariant.distinct (λ n. was_not (contains {K = Bor (List ℕ)} (λ x y. pointwise nat_eq x.now y.now) c.each.names c.as_str.result) c.in-Ok-true.field-0 c.in-Ok-true.ensures.added c.in-Ok-true.field-0-test ((c.each.invariant.known c.as_str.result).1 (subst (IsNamed (code_of c.args.parts.now) c.each.f-index) (sym c.as_str.ensures) n)));
}

pub returns : goal.returns
returns g c = (λ t i j f h x y e. c.each.invariant.distinct i j f h (among_all function_of c.args.parts.now.functions c.as_slice-functions.result.now i c.each.f-index f c.as_slice-functions.ensures c.each-test.false x) (among_all function_of c.args.parts.now.functions c.as_slice-functions.result.now j c.each.f-index h c.as_slice-functions.ensures c.each-test.false y) x y e, λ v. refl)
