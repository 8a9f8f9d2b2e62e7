use Rattle.std.proofs.Common.{◌∙◌, ◌++◌, ap}
use Rattle.syntax.specs.Views.{program_of}
use Rattle.bytecode.specs.Initial.{initial_of}
use Rattle.report.specs.Views.{printed_of}
use Rattle.serving.proofs.ByCode.{unspent_order}
use Rattle.serving.proofs.StatesShown.{first_memory}
use Rattle.serving.proofs.by_code.shown_by_code.Goals as goal

pub rest_in_order-requires-clause-memory : goal.rest_in_order-requires-clause-memory
rest_in_order-requires-clause-memory g c =
    let code = c.args.code.now in
    let words = c.as_slice-words.ensures.value ∙ c.in_ok-push_initial.ensures.words ∙ ap (λ xs. xs ++ initial_of code) c.new-memory.ensures.items in
    first_memory (program_of c.args.accepted.now.safe.typed.unit) code c.as_slice-words.result.now c.requires.code words

pub returns : goal.returns
returns g c =
    let p = program_of c.args.accepted.now.safe.typed.unit in
    let code = c.args.code.now in
    let words = c.as_slice-words.ensures.value ∙ c.in_ok-push_initial.ensures.words ∙ ap (λ xs. xs ++ initial_of code) c.new-memory.ensures.items in
    let rest = c.in-Some.rest in
    let comes = rw c.in-Some.is at c.in_ok-rest.ensures in
    unspent_order p code c.args.accepted.now.safe.typed.typed c.requires.code c.args.threads c.args.order.now c.as_slice-words.result.now rest.memory.items rest.threads.items words comes (program_of c.unit_of-unit.result.now) c.in_ok-told.told.items c.as_slice-left.result.now (printed_of c.in_ok-shown.shown) c.requires.named (ap program_of c.unit_of-unit.ensures) c.in_ok-told.ensures c.as_slice-left.ensures.value c.in_ok-shown.ensures
