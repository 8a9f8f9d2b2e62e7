use Rattle.serving.proofs.Unrefused.{not_refused, pass_limits}
use Rattle.serving.proofs.laws.accepted_programs_are_not_refused.Goals as goal

pub returns-clause-refused : goal.returns-clause-refused
returns-clause-refused c = not_refused c.one_list_of_tokens.ensures c.tokens_leave_no_fault.ensures c.one_tree.ensures c.a_safe_program_has_no_fault.ensures c.a_fault_touches.ensures

pub returns-clause-limits : goal.returns-clause-limits
returns-clause-limits c = pass_limits c.one_list_of_tokens.ensures c.tokens_leave_no_fault.ensures c.one_tree.ensures c.a_safe_program_has_no_fault.ensures c.a_fault_touches.ensures
