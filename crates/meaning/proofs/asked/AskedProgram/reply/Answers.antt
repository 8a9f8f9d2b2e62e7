use Rattle.std.proofs.Common.{◌∙◌, ap, sym}
use Rattle.meaning.specs.Asked.{program_asked, state_over}
use Rattle.meaning.specs.inner.SourceThread.{state_in}
use Rattle.meaning.specs.inner.Word.{value_of}
use Rattle.meaning.proofs.Outcomes.{fails_within, happened, holds_within, takes_more, traps_within}
use Rattle.meaning.proofs.asked.AskedProgram.reply.Goals as goal

pub returns-then-is_zero : goal.returns-then-is_zero
returns-then-is_zero g c =
    let none = c.as_slice.ensures.value ∙ c.new-none.ensures.items in
    let start = c.thread_over-m.ensures ∙ ap (λ m. state_over m c.args.ticks) c.in_ok-copy.ensures in
    fails_within (program_asked c.args.self.now) c.args.name.now c.args.memory.now c.args.ticks (state_in c.thread_over-m.result) (state_in c.enter_function.new.m) c.as_slice.result.now none start
    (value_of c.in-Ok.value) (c.in-Ok.ensures tt) (sym c.is_zero.ensures ∙ c.if-is_zero.true)

pub returns-in-Ok : goal.returns-in-Ok
returns-in-Ok g c =
    let none = c.as_slice.ensures.value ∙ c.new-none.ensures.items in
    let start = c.thread_over-m.ensures ∙ ap (λ m. state_over m c.args.ticks) c.in_ok-copy.ensures in
    holds_within (program_asked c.args.self.now) c.args.name.now c.args.memory.now c.args.ticks (state_in c.thread_over-m.result) (state_in c.enter_function.new.m) c.as_slice.result.now none start
    (value_of c.in-Ok.value) (c.in-Ok.ensures tt) (sym c.is_zero.ensures ∙ c.if-is_zero.false)

pub returns-in-Trapped : goal.returns-in-Trapped
returns-in-Trapped g c =
    let none = c.as_slice.ensures.value ∙ c.new-none.ensures.items in
    let start = c.thread_over-m.ensures ∙ ap (λ m. state_over m c.args.ticks) c.in_ok-copy.ensures in
    let why = c.enter_function.new.m.why in
    traps_within (program_asked c.args.self.now) c.args.name.now c.args.memory.now c.args.ticks (state_in c.thread_over-m.result) (state_in c.enter_function.new.m) c.as_slice.result.now none start
    c.in-Trapped.field-0 why c.in-Some.why c.in-Some.is c.in-Trapped.is (c.in-Err.ensures (happened why c.in-Some.why c.in-Some.is))

pub returns-in-Spent : goal.returns-in-Spent
returns-in-Spent g c =
    let none = c.as_slice.ensures.value ∙ c.new-none.ensures.items in
    let start = c.thread_over-m.ensures ∙ ap (λ m. state_over m c.args.ticks) c.in_ok-copy.ensures in
    let why = c.enter_function.new.m.why in
    takes_more (program_asked c.args.self.now) c.args.name.now c.args.memory.now c.args.ticks (state_in c.thread_over-m.result) (state_in c.enter_function.new.m) c.as_slice.result.now none start
    why c.in-Some.why c.in-Some.is c.in-Spent.is (c.in-Err.ensures (happened why c.in-Some.why c.in-Some.is))
