use Rattle.std.proofs.Common.{ap}
use Rattle.selection.specs.Expressions.{constant}
use Rattle.lower_exprs.specs.Lists.{lists_of}
use Rattle.lower_exprs.specs.Fragments.{of_value}
use Rattle.lower_exprs.proofs.Adding.{same}
use Rattle.lower_exprs.proofs.expr.put_number.Goals as goal

pub returns : goal.returns
returns g c =
    same (ap (λ n. of_value (constant n c.args.ty c.args.from c.args.into (lists_of c.args.lists.now))) c.constant_word.ensures) c.put_constant.ensures
