use Rattle.std.proofs.Common.{◌∙◌, ◌+◌}
use Rattle.pages.proofs.Entries.{entries_bounded}
use Rattle.pages.proofs.data.row_of.Goals as goal

pub returns : goal.returns
returns c =
    c.words_of.ensures.is ∙ entries_bounded c.args.rows.now (c.args.cells + c.args.threads) c.saturating_add.result c.args.state c.saturating_add.ensures c.words_of.ensures.short
