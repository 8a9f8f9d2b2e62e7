use Rattle.std.proofs.Common.{◌≡◌, map, false, true}
use Rattle.std.specs.Prelude.{string_bytes}
use Rattle.clap.specs.Words.{found_of, rows_of}
use Rattle.command.specs.Asked.{has_twice}
use Rattle.command.proofs.Defining.{defined_once, twice_defined, undefined_at}
use Rattle.command.proofs.Refusals.{own_of, own_passed}
use Rattle.command.proofs.definitions.definitions.Goals as goal

pub returns-in_err-definitions-clause-err : goal.returns-in_err-definitions-clause-err
returns-in_err-definitions-clause-err c =
    own_passed _ _ c.in_err-definitions.field-0.0 c.from_residual.result c.from_residual.ensures c.in_err-definitions.ensures.err (undefined_at c.args.name.now (rows_of (found_of c.args.given.now)) c.thread_count.result c.thread_count.ensures)

pub returns-in-Some-clause-err : goal.returns-in-Some-clause-err
returns-in-Some-clause-err c =
    let is : has_twice (map (λ d. string_bytes d.name) c.in_ok-definitions.definitions.items) ≡ true = rw c.as_slice.ensures.value at c.in-Some.ensures in
    own_of _ _ (twice_defined c.args.name.now (rows_of (found_of c.args.given.now)) c.thread_count.result _ c.in_ok-definitions.ensures.ok is) c.defined_twice.ensures

pub returns-in-None-clause-ok : goal.returns-in-None-clause-ok
returns-in-None-clause-ok c =
    let is : has_twice (map (λ d. string_bytes d.name) c.in_ok-definitions.definitions.items) ≡ false = rw c.as_slice.ensures.value at c.in-None.ensures in
    defined_once c.args.name.now (rows_of (found_of c.args.given.now)) c.thread_count.result _ c.thread_count.ensures c.in_ok-definitions.ensures.ok is
