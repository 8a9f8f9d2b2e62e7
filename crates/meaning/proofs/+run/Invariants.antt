use Rattle.std.proofs.Common.{◌≡◌, ◌-◌, ◌+◌, ◌*◌, map, max, drop, option_map}
use Rattle.syntax.specs.Views.{expr_of, exprs_of, simple_of, start_of, stmt_of, stmts_of, declarator_of}
use Rattle.syntax.specs.Depth.{expr_depth, deepest, optional_depth, simple_depth, optional_simple_depth, deepest_value, start_depth, stmt_depth, block_depth}
use Rattle.syntax.specs.Actions.{go_on}
use Rattle.syntax.specs.Meaning.{turns, exprs, declare}
use Rattle.meaning.specs.inner.SourceThread.{state_in}
use Rattle.program_tables.specs.Views.{program_in}
use Rattle.meaning.specs.inner.Does.{weight, loop_depth, depth_within, else_depth, head_depth, caller_in, does_stmts, does_turn, joined_to}
use Rattle.meaning.proofs.+run.Given as goal

abbrev pub decreases-expr::eval : goal.decreases-expr::eval
decreases-expr::eval g l = weight (program_in l.source.now) l.frames + (8 * (expr_depth (expr_of l.e.now)) + 0)

abbrev pub decreases-expr::logical : goal.decreases-expr::logical
decreases-expr::logical g l = weight (program_in l.source.now) l.frames + (8 * (max (expr_depth (expr_of l.a.now)) (expr_depth (expr_of l.b.now))) + 4)

abbrev pub decreases-expr::conditional : goal.decreases-expr::conditional
decreases-expr::conditional g l = weight (program_in l.source.now) l.frames + (8 * (max (expr_depth (expr_of l.c.now)) (max (expr_depth (expr_of l.a.now)) (expr_depth (expr_of l.b.now)))) + 4)

abbrev pub decreases-expr::element : goal.decreases-expr::element
decreases-expr::element g l = weight (program_in l.source.now) l.frames + (8 * (expr_depth (expr_of l.i.now)) + 4)

abbrev pub decreases-calls::call : goal.decreases-calls::call
decreases-calls::call g l = weight (program_in l.source.now) l.frames + (8 * (deepest (exprs_of l.args.now)) + 6)

abbrev pub decreases-calls::values : goal.decreases-calls::values
decreases-calls::values g l = weight (program_in l.source.now) l.frames + (8 * (deepest (exprs_of l.args.now)) + 4)

abbrev pub decreases-calls::enter_function : goal.decreases-calls::enter_function
decreases-calls::enter_function g l = weight (program_in l.source.now) l.frames + (8 * 0 + 1)

abbrev pub decreases-simple::target : goal.decreases-simple::target
decreases-simple::target g l = weight (program_in l.source.now) l.frames + (8 * (expr_depth (expr_of l.e.now)) + 2)

abbrev pub decreases-simple::simple_assignment : goal.decreases-simple::simple_assignment
decreases-simple::simple_assignment g l = weight (program_in l.source.now) l.frames + (8 * (max (expr_depth (expr_of l.to.now)) (expr_depth (expr_of l.e.now))) + 4)

abbrev pub decreases-simple::compound_assignment : goal.decreases-simple::compound_assignment
decreases-simple::compound_assignment g l = weight (program_in l.source.now) l.frames + (8 * (max (expr_depth (expr_of l.to.now)) (expr_depth (expr_of l.e.now))) + 4)

abbrev pub decreases-simple::simple : goal.decreases-simple::simple
decreases-simple::simple g l = weight (program_in l.source.now) l.frames + (8 * (simple_depth (simple_of l.s.now)) + 0)

abbrev pub decreases-stmt::stmt : goal.decreases-stmt::stmt
decreases-stmt::stmt g l = weight (program_in l.source.now) l.frames + (8 * (stmt_depth (stmt_of l.s.now)) + 2)

abbrev pub decreases-stmt::stmts : goal.decreases-stmt::stmts
decreases-stmt::stmts g l = weight (program_in l.source.now) l.frames + (8 * (block_depth (stmts_of l.ss.now)) + 0)

abbrev pub decreases-stmt::block : goal.decreases-stmt::block
decreases-stmt::block g l = weight (program_in l.source.now) l.frames + (8 * (block_depth (stmts_of l.ss.now)) + 1)

abbrev pub decreases-stmt::scoped_stmt : goal.decreases-stmt::scoped_stmt
decreases-stmt::scoped_stmt g l = weight (program_in l.source.now) l.frames + (8 * (stmt_depth (stmt_of l.s.now)) + 3)

abbrev pub decreases-stmt::print_output : goal.decreases-stmt::print_output
decreases-stmt::print_output g l = weight (program_in l.source.now) l.frames + (8 * (deepest (exprs_of l.args.now)) + 6)

abbrev pub decreases-stmt::either : goal.decreases-stmt::either
decreases-stmt::either g l = weight (program_in l.source.now) l.frames + (8 * (max (expr_depth (expr_of l.c.now)) (max (stmt_depth (stmt_of l.a.now)) (else_depth (option_map stmt_of l.b.now)))) + 4)

abbrev pub decreases-stmt::return_end : goal.decreases-stmt::return_end
decreases-stmt::return_end g l = weight (program_in l.source.now) l.frames + (8 * (optional_depth (option_map expr_of l.e.now)) + 4)

abbrev pub decreases-loops::repeat : goal.decreases-loops::repeat
decreases-loops::repeat g l = weight (program_in l.source.now) l.frames + (8 * (loop_depth l.which.now) + 7)

abbrev pub decreases-loops::turn : goal.decreases-loops::turn
decreases-loops::turn g l = weight (program_in l.source.now) l.frames + (8 * (loop_depth l.which.now) + 6)

abbrev pub decreases-loops::turn_while : goal.decreases-loops::turn_while
decreases-loops::turn_while g l = weight (program_in l.source.now) l.frames + (8 * (max (expr_depth (expr_of l.c.now)) (stmt_depth (stmt_of l.a.now))) + 5)

abbrev pub decreases-loops::loop_test : goal.decreases-loops::loop_test
decreases-loops::loop_test g l = weight (program_in l.source.now) l.frames + (8 * (expr_depth (expr_of l.c.now)) + 2)

abbrev pub decreases-loops::turn_do : goal.decreases-loops::turn_do
decreases-loops::turn_do g l = weight (program_in l.source.now) l.frames + (8 * (max (stmt_depth (stmt_of l.a.now)) (expr_depth (expr_of l.c.now))) + 5)

abbrev pub decreases-loops::turn_for : goal.decreases-loops::turn_for
decreases-loops::turn_for g l = weight (program_in l.source.now) l.frames + (8 * (max (optional_depth (option_map expr_of l.head.now.condition)) (max (optional_simple_depth (option_map simple_of l.head.now.step)) (stmt_depth (stmt_of l.a.now)))) + 5)

abbrev pub decreases-loops::for_condition : goal.decreases-loops::for_condition
decreases-loops::for_condition g l = weight (program_in l.source.now) l.frames + (8 * (optional_depth (option_map expr_of l.c.now)) + 2)

abbrev pub decreases-loops::for_step : goal.decreases-loops::for_step
decreases-loops::for_step g l = weight (program_in l.source.now) l.frames + (8 * (optional_simple_depth (option_map simple_of l.step.now)) + 2)

abbrev pub decreases-loops::for_scoped : goal.decreases-loops::for_scoped
decreases-loops::for_scoped g l = weight (program_in l.source.now) l.frames + (8 * (head_depth l.head.now l.a.now) + 9)

abbrev pub decreases-loops::for_run : goal.decreases-loops::for_run
decreases-loops::for_run g l = weight (program_in l.source.now) l.frames + (8 * (head_depth l.head.now l.a.now) + 8)

abbrev pub decreases-loops::for_start : goal.decreases-loops::for_start
decreases-loops::for_start g l = weight (program_in l.source.now) l.frames + (8 * (start_depth (start_of l.start.now)) + 5)

abbrev pub decreases-simple::declare : goal.decreases-simple::declare
decreases-simple::declare g l = weight (program_in l.source.now) l.frames + (8 * (deepest_value (map declarator_of l.ds.now)) + 4)

abbrev pub decreases-simple::declare_one : goal.decreases-simple::declare_one
decreases-simple::declare_one g l = weight (program_in l.source.now) l.frames + (8 * (optional_depth (option_map expr_of l.d.now.first)) + 2)

abbrev pub decreases-transactions::transaction : goal.decreases-transactions::transaction
decreases-transactions::transaction g l = weight (program_in l.source.now) l.frames + (8 * (depth_within l.body.now) + 6)

abbrev pub decreases-transactions::outermost : goal.decreases-transactions::outermost
decreases-transactions::outermost g l = weight (program_in l.source.now) l.frames + (8 * (depth_within l.body.now) + 4)

abbrev pub decreases-transactions::nested_transaction : goal.decreases-transactions::nested_transaction
decreases-transactions::nested_transaction g l = weight (program_in l.source.now) l.frames + (8 * (depth_within l.body.now) + 4)

abbrev pub decreases-transactions::run_body : goal.decreases-transactions::run_body
decreases-transactions::run_body g l = weight (program_in l.source.now) l.frames + (8 * (depth_within l.body.now) + 2)

abbrev pub decreases-transactions::value_transaction : goal.decreases-transactions::value_transaction
decreases-transactions::value_transaction g l = weight (program_in l.source.now) l.frames + (8 * (expr_depth (expr_of l.e.now)) + 7)

-- what is left of the arguments goes behind their values so far
abbrev pub invariant-calls::values-arguments : goal.invariant-calls::values-arguments
invariant-calls::values-arguments g l =
    go_on (exprs (program_in l.source) (caller_in l.source l.frames) (exprs_of (drop l.e-index l.args)) (state_in l.m)) (joined_to l.values.items) ≡ exprs (program_in l.source) (caller_in l.source l.frames) (exprs_of l.args) (state_in l.initial.m)

-- what is left of the statements does what all of them do
abbrev pub invariant-stmt::stmts-statements : goal.invariant-stmt::stmts-statements
invariant-stmt::stmts-statements g l = does_stmts l.source l.frames (drop l.s-index l.ss) (state_in l.m) ≡ does_stmts l.source l.frames l.ss (state_in l.initial.m)

-- what is left of the turns gives what all of them do
abbrev pub invariant-loops::repeat-turns : goal.invariant-loops::repeat-turns
invariant-loops::repeat-turns g l = turns (l.most - l.counter) (does_turn l.source l.frames l.which) (state_in l.m) ≡ turns l.most (does_turn l.source l.frames l.which) (state_in l.initial.m)

-- what is left of the declarators does what all of them do
abbrev pub invariant-simple::declare-declarators : goal.invariant-simple::declare-declarators
invariant-simple::declare-declarators g l =
    declare (program_in l.source) (caller_in l.source l.frames) l.ty (map declarator_of (drop l.d-index l.ds)) (state_in l.m) ≡ declare (program_in l.source) (caller_in l.source l.frames) l.ty (map declarator_of l.ds) (state_in l.initial.m)
