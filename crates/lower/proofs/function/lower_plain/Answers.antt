use Rattle.std.proofs.Common.{ℕ, List, ap}
use Rattle.syntax.specs.Views.{function_of, stmts_of}
use Rattle.selection.specs.Programs.{body_with}
use Rattle.lower_exprs.specs.Lists.{lists_of}
use Rattle.lower_exprs.specs.Fragments.{of_written}
use Rattle.program_tables.specs.Views.{program_in}
use Rattle.lower_exprs.proofs.Adding.{same}
use Rattle.lower.proofs.function.lower_plain.Goals as goal

pub returns : goal.returns
returns g c =
    let plain = (λ (ws : List ℕ). of_written (body_with (record { writable = 0; constants = ws }) (program_in c.args.names.now) (function_of c.args.f.now) (stmts_of c.args.body.now) c.args.from (lists_of c.args.lists.now))) in
    same (ap plain c.clear.ensures.items) c.lower_body.ensures
