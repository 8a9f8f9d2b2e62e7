use Rattle.std.proofs.Common.{◌<◌, length, arith}
use Rattle.serving.proofs.Taken.{as_long, text_taken}
use Rattle.serving.proofs.files.read_source.Goals as goal

pub returns-else-len-gt-MOST_BYTES : goal.returns-else-len-gt-MOST_BYTES
returns-else-len-gt-MOST_BYTES g c =
    let short : length c.in_ok-bytes.bytes.items < 1048577 = omega (arith, c.len.ensures, c.if-len-gt-MOST_BYTES.false) in
    text_taken (g.R.Read.remaining c.args.source) 1048577 c.in_ok-bytes.bytes.items c.source_of.result c.in_ok-bytes.ensures short c.source_of.ensures

pub returns-then-len-gt-MOST_BYTES : goal.returns-then-len-gt-MOST_BYTES
returns-then-len-gt-MOST_BYTES g c =
    let long : 1048576 < length c.in_ok-bytes.bytes.items = omega (arith, c.len.ensures, c.if-len-gt-MOST_BYTES.true) in
    as_long (g.R.Read.remaining c.args.source) 1048577 1048576 c.in_ok-bytes.bytes.items c.in_ok-bytes.ensures long
