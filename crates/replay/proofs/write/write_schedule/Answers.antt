use Rattle.std.proofs.Common.{List, ap, subst, ◌∙◌, string_bytes, arith}
use Rattle.std.specs.Prelude.{flat_map}
use Rattle.std.specs.List.{AllByRecursion}
use Rattle.std.proofs.lemmas.List.{take_all}
use Rattle.replay.specs.declared.line.Line.{Line}
use Rattle.replay.specs.inner.Written.{IsInBounds, line_text}
use Rattle.replay.proofs.Writing.{written}
use Rattle.replay.proofs.write.write_schedule.Goals as goal

pub returns : goal.returns
returns g c =
    let all = take_all c.lines.line-index c.args.lines.now (let f = c.lines-test.false in omega arith) in
    written c.args.lines.now (string_bytes c.lines.text) (c.lines.invariant.written ∙ ap (λ (ls : List Line). flat_map line_text ls) all) (subst (AllByRecursion IsInBounds) all c.lines.invariant.bounds)
