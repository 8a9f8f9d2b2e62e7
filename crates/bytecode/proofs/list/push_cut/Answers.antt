use Rattle.std.proofs.Common.{◌++◌, ◌-◌, ap, ◌∙◌, drop, map, take, string_bytes}
use Rattle.std.proofs.lemmas.Result.{on_ok_weaker}
use Rattle.bytecode.specs.Flat.{instruction_from}
use Rattle.bytecode.specs.Listing.{lines_from}
use Rattle.bytecode.proofs.Stored.{cut_whole}
use Rattle.bytecode.proofs.Lines.{lines_fit, cut_map}
use Rattle.bytecode.proofs.list.push_cut.Goals as goal

pub push_lines-requires-clause-whole : goal.push_lines-requires-clause-whole
push_lines-requires-clause-whole g c =
    let fs = c.flat.result.1.now in
    cut_whole c.flat.result.0.now fs c.cut-lines.result.now (c.args.end - c.args.first) c.args.first c.flat.ensures.flat (c.cut-lines.ensures ∙ ap (λ n. take n (drop c.args.first fs)) c.saturating_sub-count.ensures)

pub push_lines-requires-clause-few : goal.push_lines-requires-clause-few
push_lines-requires-clause-few g c = rw c.from.ensures (lines_fit c.flat.result.1.now c.cut-lines.result.now c.args.first c.args.end c.ranges.first.fits c.ranges.end.fits (c.cut-lines.ensures ∙ ap (λ n. take n (drop c.args.first c.flat.result.1.now)) c.saturating_sub-count.ensures))

pub returns : goal.returns
returns g c =
    let code = c.args.code.now in
    let ws = c.flat.result.0.now in
    let fs = c.flat.result.1.now in
    let lines = c.cut-lines.result.now in
    let n = c.args.end - c.args.first in
    let cut = c.cut-lines.ensures ∙ ap (λ k. take k (drop c.args.first fs)) c.saturating_sub-count.ensures in
    on_ok_weaker c.push_lines.result (λ h. h ∙ ap (λ r. string_bytes c.args.text.now ++ r) (
    ap (λ gs. lines_from gs c.from.result (map (instruction_from ws) lines)) c.functions.ensures
    ∙ ap (λ k. lines_from code.functions k (map (instruction_from ws) lines)) c.from.ensures
    ∙ ap (lines_from code.functions c.args.first) (
    ap (map (instruction_from ws)) cut ∙ cut_map (instruction_from ws) n c.args.first fs ∙ ap (λ is. take n (drop c.args.first is)) c.flat.ensures.decodes
    )
    )) c.push_lines.ensures
