use Rattle.serving.proofs.Certifying.{one_report}
use Rattle.serving.proofs.laws.one_report_is_printed.Goals as goal

pub returns : goal.returns
returns c = one_report c.one_list_of_tokens.ensures c.one_tree.ensures
