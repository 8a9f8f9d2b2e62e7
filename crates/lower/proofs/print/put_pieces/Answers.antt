use Rattle.std.proofs.Common.{ap, sym, ◌∙◌, arith, refl, drop}
use Rattle.syntax.specs.Formats.{pieces}
use Rattle.selection.specs.Simples.{Written}
use Rattle.selection.specs.Statements.{pieces_written}
use Rattle.selection.proofs.GrowingStmts.{pieces_same}
use Rattle.lower_exprs.specs.Lists.{lists_of}
use Rattle.lower_exprs.proofs.Adding.{written_behind, goes_on, stops}
use Rattle.lower.specs.inner.Formats.{with_literal}
use Rattle.lower.proofs.Formatted.{byte_goes, specifier_goes, text_same, no_register, no_piece}
use Rattle.lower.proofs.print.put_pieces.Goals as goal

pub directives-init : goal.directives-init
directives-init g c =
    let same = ap (λ bs. pieces_written (with_literal bs (pieces c.args.format.now)) c.args.registers.now c.args.from (lists_of c.args.lists.now)) c.new-bytes.ensures.items in
    record { within = omega arith; taken = omega arith; code = ap (written_behind c.args.code.now.items) same }

pub directives-preserved-in-Byte : goal.directives-preserved-in-Byte
directives-preserved-in-Byte g c =
    let u = c.directives in
    let same = byte_goes c.args.format.now c.args.registers.now u.bytes.items u.i u.k u.to (lists_of u.lists) c.in-Byte.c c.in-Byte.next c.add_byte.new.bytes.items c.in-Byte.ensures.is c.in_ok-add_byte-in-Byte.ensures in
    record {
      within = c.in-Byte.ensures.within;
      taken = omega (arith, u.invariant.taken, c.in-Byte.ensures.after);
      code = ap (written_behind u.code.items) same ∙ u.invariant.code;
    }

pub directives-preserved : goal.directives-preserved
directives-preserved g c =
    let u = c.directives in
    record {
      within = c.in-Specifier.ensures.within;
      taken = omega (arith, u.invariant.taken, c.in-Specifier.ensures.after);
      code = specifier_goes c.args.format.now c.args.registers.now u.bytes.items u.i u.k u.to (lists_of u.lists) c.in-Specifier.next c.in-Specifier.ensures.is c.if-k-registers.false refl c.new-bytes-in-Specifier.ensures.items c.in_ok-to-in-Specifier.ensures u.invariant.code;
    }

pub returns-in_err-to-in-Specifier : goal.returns-in_err-to-in-Specifier
returns-in_err-to-in-Specifier g c =
    let u = c.directives in
    let text = text_same u.bytes.items u.to (lists_of u.lists) in
    let rest = pieces_same (with_literal u.bytes.items (pieces (drop u.i c.args.format.now))) (drop u.k c.args.registers.now) u.to (lists_of u.lists) in
    let whole = ap (λ (w : Written). w.lists.registers) u.invariant.code in
    stops c.put_specifier.ensures c.in_err-to-in-Specifier.was c.from_residual-in_err-to-in-Specifier.ensures (omega (arith, text, rest, whole))

pub returns-then-k-registers : goal.returns-then-k-registers
returns-then-k-registers g c =
    let u = c.directives in
    let last = no_register c.args.format.now c.args.registers.now u.bytes.items u.i u.k u.to (lists_of u.lists) c.in-Specifier.ty c.in-Specifier.next c.in-Specifier.ensures.is c.if-k-registers.true in
    goes_on (ap (written_behind u.code.items) (sym last) ∙ u.invariant.code) c.put_text.ensures

pub returns : goal.returns
returns g c =
    let u = c.directives in
    let last = no_piece c.args.format.now c.args.registers.now u.bytes.items u.i u.k u.to (lists_of u.lists) c.directives-test.false in
    goes_on (ap (written_behind u.code.items) (sym last) ∙ u.invariant.code) c.put_text-2.ensures
