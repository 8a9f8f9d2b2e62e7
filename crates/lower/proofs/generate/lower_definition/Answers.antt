use Rattle.std.proofs.Common.{◌≡◌, ◌++◌, ◌∷◌, [], map, length, ap, sym, refl, ◌∙◌, arith}
use Rattle.std.proofs.lemmas.List.{length-map, map-append}
use Rattle.syntax.specs.Views.{function_of, stmts_of, parameter_of}
use Rattle.bytecode.specs.Views.{function_of as code_function}
use Rattle.lower_exprs.specs.Lists.{lists_of}
use Rattle.program_tables.specs.Views.{program_in}
use Rattle.lower.proofs.Faulty.{parameters_fit}
use Rattle.lower.proofs.generate.lower_definition.Goals as goal

pub returns-then-len-clause-fault : goal.returns-then-len-clause-fault
returns-then-len-clause-fault g c =
    let fit = parameters_fit (program_in c.args.names.now) (function_of c.args.f.now) (stmts_of c.args.body.now) c.args.making.now.to (lists_of c.args.making.now.lists) in
    let n : length (map parameter_of c.args.f.now.parameters) ≡ length c.args.f.now.parameters = length-map c.args.f.now.parameters parameter_of in
    (refl, omega (arith, fit, n, c.len.ensures, c.if-len.true))

pub returns-clause-made : goal.returns-clause-made
returns-clause-made g c =
    let k = c.in-Ok.ensures in
    let n : c.len-3.result ≡ length (map parameter_of c.args.f.now.parameters) = c.len-3.ensures ∙ sym (length-map c.args.f.now.parameters parameter_of) in
    let old = c.args.making.now.functions.items in
    let functions =
    ap (map code_function) c.in-Ok-push.ensures.items
    ∙ map-append code_function old _
    ∙ (λ j. map code_function old ++ record { name = c.in-Ok-copy.ensures j; first = c.args.making.now.to; registers = (k.lists j).registers; parameters = n j } ∷ []) in
    λ j. record { functions = functions j; code = k.code j; lists = k.lists j; to = k.end j }
