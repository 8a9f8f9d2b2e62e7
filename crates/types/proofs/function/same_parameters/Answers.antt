use Rattle.std.proofs.Common.{◌≡◌, ◌∙◌, ◌+◌, ◌&&◌, true, false, [], map, drop, sym, ap, rules}
use Rattle.std.proofs.lemmas.List.{at_drop_all, length-map}
use Rattle.syntax.specs.Typing.{same_types}
use Rattle.types.proofs.Types.{differ, same_more}
use Rattle.types.proofs.function.same_parameters.Goals as goal

pub returns-then-a-b : goal.returns-then-a-b
returns-then-a-b g c = sym (differ (map (λ q. q.ty) c.args.a.now) (map (λ q. q.ty) c.args.b.now) (λ e. c.if-a-b.true (sym (length-map c.args.a.now (λ q. q.ty)) ∙ e ∙ length-map c.args.b.now (λ q. q.ty))))

pub each-preserved : goal.each-preserved
each-preserved g c =
    let more = same_more c.args.a.now c.args.b.now c.each.i c.index-a-i.result c.index-b-i.result c.each-test.true (rw (sym c.if-a-b.false) c.each-test.true) in
    let same : c.same_type.result ≡ true = search rules in
    sym (more ∙ ap (λ t. t && same_types (map (λ q. q.ty) (drop (c.each.i + 1) c.args.a.now)) (map (λ q. q.ty) (drop (c.each.i + 1) c.args.b.now))) (sym c.same_type.ensures ∙ same)) ∙ c.each.invariant

pub returns-then-not-same_type : goal.returns-then-not-same_type
returns-then-not-same_type g c =
    let more = same_more c.args.a.now c.args.b.now c.each.i c.index-a-i.result c.index-b-i.result c.each-test.true (rw (sym c.if-a-b.false) c.each-test.true) in
    let other : c.same_type.result ≡ false = search rules in
    ap (λ t. t && same_types (map (λ q. q.ty) (drop (c.each.i + 1) c.args.a.now)) (map (λ q. q.ty) (drop (c.each.i + 1) c.args.b.now))) (sym other ∙ c.same_type.ensures) ∙ sym more ∙ c.each.invariant

pub returns : goal.returns
returns g c =
    sym (at_drop_all (λ xs. same_types (map (λ q. q.ty) xs) (map (λ q. q.ty) (drop c.each.i c.args.b.now))) c.args.a.now c.each.i c.each-test.false ∙ at_drop_all (λ xs. same_types [] (map (λ q. q.ty) xs)) c.args.b.now c.each.i (rw (sym c.if-a-b.false) c.each-test.false)) ∙ c.each.invariant
