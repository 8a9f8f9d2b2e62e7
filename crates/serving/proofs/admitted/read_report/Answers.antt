use Rattle.std.proofs.Common.{◌<◌, length, subst}
use Rattle.serving.proofs.Taken.{bytes_taken}
use Rattle.serving.proofs.admitted.read_report.Goals as goal

pub returns : goal.returns
returns g c =
    let short : length c.in_ok-bytes.bytes.items < c.args.most = subst (λ xs. length xs < c.args.most) c.as_slice.ensures.value (c.are_fewer.ensures c.if-not-are_fewer.false) in
    bytes_taken (g.Q.Read.remaining c.args.report) c.args.most c.in_ok-bytes.bytes.items c.in_ok-bytes.ensures short
