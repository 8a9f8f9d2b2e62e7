use Rattle.std.proofs.Common.{◌≡◌, ℕ, ◌+◌, List, length, not, ◌&&◌, nat_le, ◌==◌, sym, ap, ◌∙◌, arith}
use Rattle.std.proofs.lemmas.List.{length-append}
use Rattle.syntax.specs.Views.{function_of, stmts_of}
use Rattle.bytecode.specs.declared.instr.Instr.{Instr}
use Rattle.lower_spec.specs.Expressions.{Layout}
use Rattle.selection.specs.Lists.{Lists}
use Rattle.selection.specs.Loops.{in_loops}
use Rattle.selection.specs.Programs.{body_with, nothing_preloaded}
use Rattle.selection.proofs.Leaner.{body_leaner}
use Rattle.lower_exprs.specs.Lists.{lists_of}
use Rattle.lower_exprs.specs.Fragments.{of_written}
use Rattle.program_tables.specs.Views.{program_in}
use Rattle.lower_exprs.proofs.Adding.{same, stops}
use Rattle.lower.proofs.Better.{made_once_more, arguments_fit, texts_fit, stays_plain, gets_better, body_more, has_room, behind_others, in_front}
use Rattle.lower.proofs.function.lower_function.Goals as goal

pub returns-in_err-to : goal.returns-in_err-to
returns-in_err-to g c =
    let p = program_in c.args.names.now in
    let f = function_of c.args.f.now in
    let body = stmts_of c.args.body.now in
    let l = lists_of c.args.lists.now in
    stops c.lower_plain.ensures c.in_err-to.was c.from_residual.ensures (body_more p f body c.args.from l)

pub in_loops_behind-requires : goal.in_loops_behind-requires
in_loops_behind-requires g c =
    let o = c.args.code.now.ok.0 in
    let n = ap length (c.as_slice.ensures.value ∙ c.in_ok-to.ensures.code) ∙ length-append c.args.code.now.items _ in
    omega (arith, n, o, c.len.ensures)

pub returns-then-not-is_better : goal.returns-then-not-is_better
returns-then-not-is_better g c =
    let p = program_in c.args.names.now in
    let f = function_of c.args.f.now in
    let body = stmts_of c.args.body.now in
    let l = lists_of c.args.lists.now in
    let o = c.args.code.now.ok.0 in
    let n : c.len.result ≡ length c.args.code.now.items = omega (arith, o, c.len.ensures) in
    let plain = body_with nothing_preloaded p f body c.args.from l in
    let ws = c.in_ok-constants.constants.items in
    let are : ws ≡ in_loops c.args.from plain.code =
    c.in_ok-constants.ensures ∙ ap (λ (is : List Instr). in_loops c.args.from is) (behind_others c.lower_plain.new.code.items c.as_slice.result.now c.args.code.now.items plain.code c.len.result n c.as_slice.ensures.value c.in_ok-to.ensures.code) in
    let test = ap (λ (xs : List ℕ). not (length xs == 0) && nat_le (c.lower_plain.new.lists.registers + length xs) 65535) (sym c.as_slice-2.ensures.value) ∙ sym c.is_better.ensures in
    let is = stays_plain p f body c.args.from l (lists_of c.lower_plain.new.lists) ws c.in_ok-to.ensures.lists are (test ∙ c.if-not-is_better.true) in
    same (ap of_written (sym is)) c.in_ok-to.ensures

pub overflow_cast-writable : goal.overflow_cast-writable
overflow_cast-writable g c =
    let room = has_room c.lower_plain.new.lists.registers c.as_slice-2.result.now (sym c.is_better.ensures ∙ c.if-not-is_better.false) in
    omega (arith, room)

pub cut_to-requires : goal.cut_to-requires
cut_to-requires g c =
    let p = program_in c.args.names.now in
    let f = function_of c.args.f.now in
    let body = stmts_of c.args.body.now in
    let l = lists_of c.args.lists.now in
    let o = c.args.code.now.ok.0 in
    let o2 = c.args.lists.now.arguments.ok.0 in
    let o3 = c.args.lists.now.texts.ok.0 in
    let n = ap length c.in_ok-to.ensures.code ∙ length-append c.args.code.now.items _ in
    let a = arguments_fit p f body c.args.from l in
    let b = ap (λ (m : Lists). length m.arguments) c.in_ok-to.ensures.lists in
    let t = texts_fit p f body c.args.from l in
    let u = ap (λ (m : Lists). length m.texts) c.in_ok-to.ensures.lists in
    (omega (arith, n, o, c.len.ensures), omega (arith, a, b, o2, c.len-2.ensures), omega (arith, t, u, o3, c.len-3.ensures))

pub lower_preloaded-requires-clause-room : goal.lower_preloaded-requires-clause-room
lower_preloaded-requires-clause-room g c =
    let room = has_room c.lower_plain.new.lists.registers c.as_slice-2.result.now (sym c.is_better.ensures ∙ c.if-not-is_better.false) in
    let n = ap length c.as_slice-2.ensures.value in
    omega (arith, room, n)

pub returns : goal.returns
returns g c =
    let p = program_in c.args.names.now in
    let f = function_of c.args.f.now in
    let body = stmts_of c.args.body.now in
    let l = lists_of c.args.lists.now in
    let o = c.args.code.now.ok.0 in
    let n : c.len.result ≡ length c.args.code.now.items = omega (arith, o, c.len.ensures) in
    let plain = body_with nothing_preloaded p f body c.args.from l in
    let ws = c.in_ok-constants.constants.items in
    let are : ws ≡ in_loops c.args.from plain.code =
    c.in_ok-constants.ensures ∙ ap (λ (is : List Instr). in_loops c.args.from is) (behind_others c.lower_plain.new.code.items c.as_slice.result.now c.args.code.now.items plain.code c.len.result n c.as_slice.ensures.value c.in_ok-to.ensures.code) in
    let test = ap (λ (xs : List ℕ). not (length xs == 0) && nat_le (c.lower_plain.new.lists.registers + length xs) 65535) (sym c.as_slice-2.ensures.value) ∙ sym c.is_better.ensures in
    let o2 = c.args.lists.now.arguments.ok.0 in
    let n2 : c.len-2.result ≡ length c.args.lists.now.arguments.items = omega (arith, o2, c.len-2.ensures) in
    let o3 = c.args.lists.now.texts.ok.0 in
    let n3 : c.len-3.result ≡ length c.args.lists.now.texts.items = omega (arith, o3, c.len-3.ensures) in
    let is = gets_better p f body c.args.from l (lists_of c.lower_plain.new.lists) ws c.in_ok-to.ensures.lists are (test ∙ c.if-not-is_better.false) (lists_of c.cut_to.new.lists) c.len-2.result c.len-3.result n2 n3 c.cut_to.ensures.lists in
    let before = c.cut_to.ensures.code ∙ in_front c.lower_plain.new.code.items c.args.code.now.items plain.code c.len.result n c.in_ok-to.ensures.code in
    let layout : Layout = record { writable = c.lower_plain.new.lists.registers; constants = ws } in
    let leaner = body_leaner p f body layout c.args.from (c.args.from + length ws) l (lists_of c.cut_to.new.lists) in
    let more = body_more p f body c.args.from l in
    made_once_more before is c.lower_preloaded.ensures.code c.lower_preloaded.ensures.fails (omega (arith, leaner, more))
