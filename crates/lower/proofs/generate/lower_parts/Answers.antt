use Rattle.std.proofs.Common.{◌≡◌, ◌++◌, ◌+◌, ◌≤◌, ◌<◌, map, length, ap, sym, ◌∙◌, subst, append-nil, append_assoc, drop, get_or, arith, ◌∷◌, []}
use Rattle.std.specs.List.{AllByRecursion}
use Rattle.std.proofs.lemmas.List.{drop_all}
use Rattle.syntax.specs.Names.{globals, shared_by}
use Rattle.syntax.specs.Views.{item_of, global_of}
use Rattle.bytecode.specs.Code.{FunctionCode}
use Rattle.bytecode.specs.Views.{instr_of, function_of as code_function}
use Rattle.selection.specs.Programs.{FunctionCodes, all_made}
use Rattle.lower.specs.inner.Parts.{made_in, IsOfItem, IsOfCode}
use Rattle.program_tables.specs.Views.{program_in}
use Rattle.lower.proofs.Bodies.{front_more, front_last}
use Rattle.syntax.proofs.typing.Items.{items_more}
use Rattle.lower.proofs.Faulty.{item_fault, handed_on}
use Rattle.lower.proofs.generate.lower_parts.Goals as goal

pub items-init : goal.items-init
items-init g c =
    let p = program_in c.args.names.now in
    let short : length c.new-2.result.items ≡ 0 = ap length c.new-2.ensures.items in
    record {
      made = λ j. record {
        functions = map code_function (c.new.ensures.items j);
        code = c.new-2.ensures.items j;
        lists = record { arguments = c.new-3.ensures.items j; texts = c.new-4.ensures.items j; registers = 0; layout = record { writable = 0; constants = c.new-5.ensures.items j } };
        to = 0;
      };
      globals = λ j. map global_of (c.new-7.ensures.items j) ++ globals p;
      few = subst (λ xs. AllByRecursion (λ (f : FunctionCode). f.registers ≤ 65535) (map code_function xs)) (sym c.new.ensures.items) tt;
      short = omega (arith, short);
    }

pub items-preserved : goal.items-preserved
items-preserved g c =
    let p = program_in c.args.names.now in
    let items = c.args.names.now.unit.now.items in
    let i = c.items.item-index in
    let x = c.item-item.result in
    let same = c.as_slice-item-items.ensures in
    let h : i < length items = subst (λ xs. i < length xs) same c.items-test.true in
    let is : x ≡ get_or items i x = c.item-item.is ∙ ap (λ xs. get_or xs i x) same in
    let e = c.in_ok-lower_item.ensures in
    let inv = c.items.invariant in
    let rest = globals (map item_of (drop (i + 1) items)) in
    let done = map global_of c.items.making.globals.items in
    record {
      made = front_more p items i x h is inv.made e.made;
      globals =
          ap (λ gs. gs ++ rest) e.globals
          ∙ append_assoc done (shared_by (item_of x)) rest
          ∙ sym (ap (λ gs. done ++ gs) (items_more globals items i x h is))
          ∙ inv.globals;
      few = e.few;
      short = e.short;
    }

pub returns-clause-code : goal.returns-clause-code
returns-clause-code g c =
    let p = program_in c.args.names.now in
    let items = c.args.names.now.unit.now.items in
    let i = c.items.item-index in
    let inv = c.items.invariant in
    let h : length items ≤ i = subst (λ xs. length xs ≤ i) c.as_slice-item-items.ensures c.items-test.false in
    let made = front_last p items i h inv.made in
    let done = map global_of c.items.making.globals.items in
    let fs = ap (λ xs. map code_function xs) c.from_vec.ensures ∙ ap (λ (m : FunctionCodes). m.functions) made in
    let is = c.from_vec-2.ensures ∙ ap (λ (m : FunctionCodes). m.code) made in
    let regs = c.from_vec-3.ensures ∙ ap (λ (m : FunctionCodes). m.lists.arguments) made in
    let ts = c.from_vec-4.ensures ∙ ap (λ (m : FunctionCodes). m.lists.texts) made in
    let gs : map global_of c.from_vec-5.result ≡ globals p =
    ap (λ xs. map global_of xs) c.from_vec-5.ensures
    ∙ sym (append-nil done)
    ∙ sym (ap (λ xs. done ++ globals (map item_of xs)) (drop_all i items h))
    ∙ inv.globals in
    λ j. record { functions = fs j; instructions = map (instr_of (regs j)) (is j); texts = ts j; globals = gs j }

pub returns-in_err-lower_item-clause-fault : goal.returns-in_err-lower_item-clause-fault
returns-in_err-lower_item-clause-fault g c =
    let p = program_in c.args.names.now in
    let items = c.args.names.now.unit.now.items in
    let i = c.items.item-index in
    let x = c.item-item.result in
    let same = c.as_slice-item-items.ensures in
    let h : i < length items = subst (λ xs. i < length xs) same c.items-test.true in
    let is : x ≡ get_or items i x = c.item-item.is ∙ ap (λ xs. get_or xs i x) same in
    let done = made_in c.items.making in
    let m = all_made p (item_of x ∷ []) done.to done.lists in
    handed_on c.lower_item.result c.from_residual.result c.in_err-lower_item.field-0.0
    (IsOfItem (item_of x) m.functions (length (done.code ++ m.code))) (IsOfCode p)
    c.lower_item.ensures.fault c.in_err-lower_item.was c.from_residual.ensures
    (λ e. item_fault items i x done e h is c.items.invariant.made c.items.invariant.short)
