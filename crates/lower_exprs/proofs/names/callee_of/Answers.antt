use Rattle.std.proofs.Common.{◌∙◌, Some, option_map, ap}
use Rattle.selection.specs.Names.{callee_by}
use Rattle.lower_exprs.proofs.names.callee_of.Goals as goal

pub returns-in-Some : goal.returns-in-Some
returns-in-Some g c = ap Some c.callee_at.ensures ∙ ap (option_map callee_by) c.in-Some.ensures.number

pub returns-in-None : goal.returns-in-None
returns-in-None g c = ap (option_map callee_by) c.in-None.ensures.number
