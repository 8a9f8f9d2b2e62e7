use Rattle.std.proofs.Common.{◌+◌, ◌++◌, ap, ◌∙◌}
use Rattle.selection.specs.declared.locations.ConditionRegister.{ConditionRegister}
use Rattle.selection.specs.Conditions.{going_back}
use Rattle.lower_exprs.proofs.Adding.{gathered}
use Rattle.lower.proofs.stmt.lower_back.Goals as goal

pub returns : goal.returns
returns g c =
    let k = c.in_ok-t.ensures in
    let test = gathered k c.new-drafts.ensures.items c.as_slice.ensures.value in
    record {
      code = c.in_ok-put_back.ensures.code ∙ (λ j. c.args.code.now.items ++ going_back (test j).code (k.end j) c.args.back);
      lists = k.lists;
      end = c.in_ok-put_back.ensures.place ∙ ap (λ (t : ConditionRegister). t.to + 1) k.end;
      fails = tt;
    }
