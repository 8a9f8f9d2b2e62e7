use Rattle.std.proofs.Common.{◌<◌, ◌^◌, arith}
use Rattle.frames.specs.Stack.{Stack}
use Rattle.frames.specs.Open.{IsConfigurationOf}
use Rattle.bytecode.specs.Beginning.{beginning}
use Rattle.std.proofs.Common.{◌≡◌}
use Rattle.machine_tests.proofs.Carrying.{at_first, if_ok}
use Rattle.machine_tests.proofs.of_frames.carried.first.Goals as goal

pub returns : goal.returns
returns g c =
    let h : c.args.thread < 2 ^ 32 = (let f = c.ranges.thread.fits in omega (arith, f)) in
    if_ok (λ (f : Stack). f.configuration ≡ beginning c.args.code.now c.args.thread) (λ (f : Stack). IsConfigurationOf c.args.code.now f.configuration) c.new.result (λ f e. at_first c.args.code.now c.note_valid.ensures c.args.thread f.configuration h e) c.new.ensures
