use Rattle.std.proofs.Common.{sym, arith}
use Rattle.lex.proofs.pieces.Strings.{inside_plain, open_plain, inside_escape, open_escape}
use Rattle.lex.proofs.string.inside_len.Goals as goal

pub inside-preserved-then-is_plain : goal.inside-preserved-then-is_plain
inside-preserved-then-is_plain c =
    let plain = sym c.if-is_plain.ensures in
    record {
      within = omega arith;
      inside = inside_plain c.args.rest.now c.inside.at c.inside-test.true plain c.inside.invariant.inside;
      open_if = λ u. c.inside.invariant.open_if (open_plain c.args.rest.now c.inside.at c.inside-test.true plain u);
    }

pub inside-preserved : goal.inside-preserved
inside-preserved c = record {
  within = omega arith;
  inside = inside_escape c.args.rest.now c.inside.at c.if-at-rest.true c.if-rest-at-eq92.true (sym c.if-is_escape.ensures) c.inside.invariant.inside;
  open_if = λ u. c.inside.invariant.open_if (open_escape c.args.rest.now c.inside.at c.if-at-rest.true c.if-rest-at-eq92.true u);
}
