use Rattle.std.proofs.Common.{◌≡◌, ◌∙◌, ◌++◌, true, drop, ap, sym, append-nil}
use Rattle.traces.specs.Trace.{are_blanks}
use Rattle.traces.proofs.Lines.{all_trimmed, rest_taken}
use Rattle.traces.proofs.push.push_trimmed.Goals as goal

-- only blanks are left, of which nothing is written
pub returns-then-are_blanks : goal.returns-then-are_blanks
returns-then-are_blanks g c =
    let blank : are_blanks (drop c.bytes.at c.args.bytes.now) ≡ true =
    ap are_blanks (sym (rest_taken c.args.bytes.now c.bytes.at)) ∙ sym c.are_blanks.ensures ∙ c.if-are_blanks.true in
    sym (append-nil _) ∙ ap (λ t. c.bytes.text.items ++ t) (sym (all_trimmed (drop c.bytes.at c.args.bytes.now) blank)) ∙ c.bytes.invariant
