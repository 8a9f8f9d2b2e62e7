use Rattle.std.proofs.Common.{option_map}
use Rattle.std.specs.Option.{option_copied}
use Rattle.syntax.specs.Views.{expr_of}
use Rattle.lower_exprs.specs.Lists.{lists_of}
use Rattle.lower_exprs.specs.Views.{scope_in}
use Rattle.program_tables.specs.Views.{program_in}
use Rattle.lower_exprs.proofs.Adding.{stops}
use Rattle.lower_exprs.proofs.Changing.{fetched_within, old_within, right_within, both_within, old_there, right_there, both_there, changed_there}
use Rattle.lower_exprs.proofs.simple.lower_changed.Goals as goal

pub returns-in_err-first : goal.returns-in_err-first
returns-in_err-first g c =
    stops c.fetch.ensures c.in_err-first.was c.from_residual.ensures (fetched_within (program_in c.args.names.now) (scope_in c.args.scope.now) c.args.op (option_map expr_of (option_copied c.args.by)) c.args.target c.args.from c.args.free (lists_of c.args.lists.now))

pub returns-in_err-old : goal.returns-in_err-old
returns-in_err-old g c =
    let old = old_there (program_in c.args.names.now) (scope_in c.args.scope.now) c.args.op (option_map expr_of (option_copied c.args.by)) c.args.target c.args.from c.args.free (lists_of c.args.lists.now) c.type_at-own.ensures c.type_or_int-other.ensures c.operand_type-ty.ensures c.operand_type-due.ensures c.in_ok-first.ensures c.put_converted.ensures in
    stops old c.in_err-old.was c.from_residual-in_err-old.ensures (old_within (program_in c.args.names.now) (scope_in c.args.scope.now) c.args.op (option_map expr_of (option_copied c.args.by)) c.args.target c.args.from c.args.free (lists_of c.args.lists.now))

pub returns-in_err-right : goal.returns-in_err-right
returns-in_err-right g c =
    let old = old_there (program_in c.args.names.now) (scope_in c.args.scope.now) c.args.op (option_map expr_of (option_copied c.args.by)) c.args.target c.args.from c.args.free (lists_of c.args.lists.now) c.type_at-own.ensures c.type_or_int-other.ensures c.operand_type-ty.ensures c.operand_type-due.ensures c.in_ok-first.ensures c.in_ok-old.ensures in
    let right = right_there (program_in c.args.names.now) (scope_in c.args.scope.now) c.args.op (option_map expr_of (option_copied c.args.by)) c.args.target c.args.from c.args.free (lists_of c.args.lists.now) c.type_at-own.ensures c.type_or_int-other.ensures c.operand_type-ty.ensures c.operand_type-due.ensures old c.above-behind.ensures c.lower_by.ensures in
    stops right c.in_err-right.was c.from_residual-in_err-right.ensures (right_within (program_in c.args.names.now) (scope_in c.args.scope.now) c.args.op (option_map expr_of (option_copied c.args.by)) c.args.target c.args.from c.args.free (lists_of c.args.lists.now))

pub returns-in_err-location : goal.returns-in_err-location
returns-in_err-location g c =
    let old = old_there (program_in c.args.names.now) (scope_in c.args.scope.now) c.args.op (option_map expr_of (option_copied c.args.by)) c.args.target c.args.from c.args.free (lists_of c.args.lists.now) c.type_at-own.ensures c.type_or_int-other.ensures c.operand_type-ty.ensures c.operand_type-due.ensures c.in_ok-first.ensures c.in_ok-old.ensures in
    let right = right_there (program_in c.args.names.now) (scope_in c.args.scope.now) c.args.op (option_map expr_of (option_copied c.args.by)) c.args.target c.args.from c.args.free (lists_of c.args.lists.now) c.type_at-own.ensures c.type_or_int-other.ensures c.operand_type-ty.ensures c.operand_type-due.ensures old c.above-behind.ensures c.in_ok-right.ensures in
    let both = both_there (program_in c.args.names.now) (scope_in c.args.scope.now) c.args.op (option_map expr_of (option_copied c.args.by)) c.args.target c.args.from c.args.free (lists_of c.args.lists.now) c.type_at-own.ensures c.type_or_int-other.ensures c.operand_type-ty.ensures c.operand_type-due.ensures old c.above-behind.ensures right c.home_or-home.ensures c.put_both.ensures in
    stops both c.in_err-location.was c.from_residual-in_err-location.ensures (both_within (program_in c.args.names.now) (scope_in c.args.scope.now) c.args.op (option_map expr_of (option_copied c.args.by)) c.args.target c.args.from c.args.free (lists_of c.args.lists.now))

pub returns : goal.returns
returns g c =
    let old = old_there (program_in c.args.names.now) (scope_in c.args.scope.now) c.args.op (option_map expr_of (option_copied c.args.by)) c.args.target c.args.from c.args.free (lists_of c.args.lists.now) c.type_at-own.ensures c.type_or_int-other.ensures c.operand_type-ty.ensures c.operand_type-due.ensures c.in_ok-first.ensures c.in_ok-old.ensures in
    let right = right_there (program_in c.args.names.now) (scope_in c.args.scope.now) c.args.op (option_map expr_of (option_copied c.args.by)) c.args.target c.args.from c.args.free (lists_of c.args.lists.now) c.type_at-own.ensures c.type_or_int-other.ensures c.operand_type-ty.ensures c.operand_type-due.ensures old c.above-behind.ensures c.in_ok-right.ensures in
    let both = both_there (program_in c.args.names.now) (scope_in c.args.scope.now) c.args.op (option_map expr_of (option_copied c.args.by)) c.args.target c.args.from c.args.free (lists_of c.args.lists.now) c.type_at-own.ensures c.type_or_int-other.ensures c.operand_type-ty.ensures c.operand_type-due.ensures old c.above-behind.ensures right c.home_or-home.ensures c.in_ok-location.ensures in
    changed_there (program_in c.args.names.now) (scope_in c.args.scope.now) c.args.op (option_map expr_of (option_copied c.args.by)) c.args.target c.args.from c.args.free (lists_of c.args.lists.now) c.type_at-own.ensures c.type_or_int-other.ensures c.operand_type-ty.ensures c.operand_type-due.ensures both c.home_or-home.ensures c.result_type.ensures c.put_fitting.ensures
