use Rattle.std.proofs.Common.{◌∙◌, ap, sym}
use Rattle.differences.proofs.Firsts.{same_lines_same_text, seen}
use Rattle.differences.proofs.first_line.Goals as goal

pub returns : goal.returns
returns g c =
    same_lines_same_text c.args.due.now c.args.found.now
    (sym c.in_ok-found_lines.ensures ∙ ap seen (sym c.as_slice-2.ensures.value) ∙ c.in-None.ensures.differ ∙ ap seen c.as_slice.ensures.value ∙ c.in_ok-due_lines.ensures)
