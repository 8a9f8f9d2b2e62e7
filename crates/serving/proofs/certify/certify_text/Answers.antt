use Rattle.std.proofs.Common.{arith, refl, subst, sym}
use Rattle.std.specs.Prelude.{IfSome}
use Rattle.command.specs.Asked.{IsListedOrder}
use Rattle.parse.specs.Faults.{source_of}
use Rattle.serving.proofs.Certifying.{claim_served, no_claim_verdict, nothing_claimed}
use Rattle.serving.proofs.certify.certify_text.Goals as goal

pub returns-in-Ok-order_of : goal.returns-in-Ok-order_of
returns-in-Ok-order_of g c =
    let lists = subst (λ o. IfSome (g.S.Read.remaining c.args.order) (λ bytes. IsListedOrder bytes o)) (sym c.as_slice.ensures.value) c.in-Ok-order_of.ensures.ok in
    claim_served c.args.claim.now (g.S.Read.remaining c.args.order) (g.Q.Read.remaining c.args.report) c.args.text.now c.as_slice.result.now (source_of c.in-Ok.accepted.safe.typed.unit) c.certify_order.result _ _ lists c.in-Ok.ensures.ok c.in-Ok.accepted.accepted c.certify_order.ensures

pub returns-in-Err : goal.returns-in-Err
returns-in-Err g c = record {
  within = let most = c.refuse.ensures.within in omega (arith, most);
  answers = no_claim_verdict c.args.claim.now (g.S.Read.remaining c.args.order) (g.Q.Read.remaining c.args.report) c.args.text.now c.refuse.result _ _ c.refuse.ensures.not_ended (λ z. absurd (omega (arith, c.refuse.ensures.within, z)));
  refused = λ one. (c.in-Err.fault, c.in-Err.ensures.err, c.refuse.ensures.refused one);
  written = nothing_claimed c.args.claim.now (g.S.Read.remaining c.args.order) (g.Q.Read.remaining c.args.report) c.args.text.now _ _ refl;
  untouched = λ one. refl;
}
