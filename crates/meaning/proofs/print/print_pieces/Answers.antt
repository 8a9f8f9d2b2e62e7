use Rattle.std.proofs.Common.{◌≡◌, Err, arith}
use Rattle.syntax.specs.Formats.{pieces}
use Rattle.syntax.specs.Meaning.{print_pieces}
use Rattle.meaning.specs.inner.SourceThread.{state_in, halt_of}
use Rattle.meaning.proofs.Stops.{err_of, stops_as}
use Rattle.meaning.proofs.Printed.{byte_goes, byte_stops, specifier_goes}
use Rattle.meaning.proofs.print.print_pieces.Goals as goal

pub returns-in_err-put_byte-in-Byte : goal.returns-in_err-put_byte-in-Byte
returns-in_err-put_byte-in-Byte g c =
    let is : c.from_residual.result ≡ Err c.in_err-put_byte-in-Byte.field-0.0 = err_of c.from_residual.result c.in_err-put_byte-in-Byte.field-0.0 c.from_residual.ensures.1 in
    stops_as (λ u. u) c.from_residual.result c.in_err-put_byte-in-Byte.field-0.0 _ c.put_byte.new.m is
    (λ d. byte_stops c.args.format.now c.args.values.now c.bytes.begun c.bytes.i c.bytes.k (state_in c.bytes.m) (print_pieces (pieces c.args.format.now) c.args.values.now (state_in c.args.m.now)) c.in-Byte.c c.in-Byte.next (state_in c.put_byte.new.m) (halt_of c.put_byte.new.m.why) c.bytes.invariant.value c.in-Byte.ensures.is (c.in_err-put_byte-in-Byte.ensures d))

pub bytes-preserved-in-Byte : goal.bytes-preserved-in-Byte
bytes-preserved-in-Byte g c = record {
  within = c.in-Byte.ensures.within;
  taken = omega (arith, c.bytes.invariant.taken, c.in-Byte.ensures.after);
  value = byte_goes c.args.format.now c.args.values.now c.bytes.begun c.bytes.i c.bytes.k (state_in c.bytes.m) (print_pieces (pieces c.args.format.now) c.args.values.now (state_in c.args.m.now)) c.in-Byte.c c.in-Byte.next (state_in c.put_byte.new.m) c.bytes.invariant.value c.in-Byte.ensures.is (c.in_ok-put_byte-in-Byte.ensures tt);
}

pub bytes-preserved : goal.bytes-preserved
bytes-preserved g c = record {
  within = c.in-Specifier.ensures.within;
  taken = omega (arith, c.bytes.invariant.taken, c.in-Specifier.ensures.after);
  value = specifier_goes c.args.format.now c.args.values.now c.bytes.begun c.bytes.i c.bytes.k (state_in c.bytes.m) (print_pieces (pieces c.args.format.now) c.args.values.now (state_in c.args.m.now)) c.in-Specifier.ty c.in-Specifier.next (state_in c.put_specifier.new.m) c.bytes.invariant.value c.in-Specifier.ensures.is (c.in_ok-put_specifier-in-Specifier.ensures tt);
}
