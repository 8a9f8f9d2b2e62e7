use Rattle.std.proofs.Common.{◌<◌, sym, ap, refl, map, length, arith}
use Rattle.std.proofs.lemmas.List.{length-map}
use Rattle.lex.specs.declared.token.Scalar.TheVariants.{Int}
use Rattle.syntax.specs.Views.{parameter_of}
use Rattle.syntax.specs.Meaning.{call_locals}
use Rattle.meaning.proofs.Entering.{unfit, unnamed, named}
use Rattle.meaning.proofs.calls.locals_of.Goals as goal

pub returns-then-parameters-values : goal.returns-then-parameters-values
returns-then-parameters-values g c = sym (unfit (map parameter_of c.args.parameters.now) c.args.values.now (λ e. omega (arith, e, length-map c.args.parameters.now parameter_of)))

pub parameters-preserved-in_default : goal.parameters-preserved-in_default
parameters-preserved-in_default g c =
    let k : c.parameters.i < length c.args.values.now = omega arith in
    unnamed c.args.parameters.now c.args.values.now c.parameters.i c.index-parameters-i.result (record { ty = Int; word = 0 }) c.parameters.mine.items (call_locals (map parameter_of c.args.parameters.now) c.args.values.now)
    c.parameters-test.true k c.index-parameters-i.is c.parameters.invariant c.in_default.is

pub parameters-preserved : goal.parameters-preserved
parameters-preserved g c =
    let k : c.parameters.i < length c.args.values.now = omega arith in
    named c.args.parameters.now c.args.values.now c.parameters.i c.index-parameters-i.result (record { ty = Int; word = 0 }) c.parameters.mine.items (call_locals (map parameter_of c.args.parameters.now) c.args.values.now)
    c.parameters-test.true k c.index-parameters-i.is c.parameters.invariant c.in-Some.x (record { name = c.as_str.result; ty = c.index-parameters-i.result.ty; word = c.convert.result.word }) c.push.new.self.items
    c.in-Some.is c.in_ok-push.ensures.items c.as_str.ensures refl (ap (λ v. v.word) c.convert.ensures)
