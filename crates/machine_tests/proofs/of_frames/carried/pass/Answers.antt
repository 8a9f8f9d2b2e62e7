use Rattle.std.proofs.Common.{◌≡◌, Bool, true, false, refl, subst, sym}
use Rattle.bytecode.specs.Effects.{Effect}
use Rattle.bytecode.specs.Code.{Code, Configuration, effect}
use Rattle.bytecode.specs.Valid.{IsValid}
use Rattle.frames.specs.Open.{IsConfigurationOf}
use Rattle.machine_tests.proofs.Carrying.{after_pure, after_return}
use Rattle.machine_tests.proofs.of_frames.carried.pass.Goals as goal

after_either : (code : Code) (v : IsValid code) (c d : Configuration) (b : Bool) → IsConfigurationOf code c → (b ≡ true → effect code c ≡ Effect.Pure d) → (b ≡ false → d ≡ c) → IsConfigurationOf code d
after_either code v c d true of p s = after_pure code v c d of (p refl)
after_either code v c d false of p s = subst (λ (x : Configuration). IsConfigurationOf code x) (sym (s refl)) of

pub returns-in-Call : goal.returns-in-Call
returns-in-Call g c = after_either c.args.code.now c.note_valid.ensures c.args.frames.now.configuration c.enter.new.self.configuration c.enter.result c.requires.of c.enter.ensures.made c.enter.ensures.still

pub returns-in-Return : goal.returns-in-Return
returns-in-Return g c = let t = rw c.in-Return.is at c.requires.told in after_return c.args.code.now c.note_valid.ensures c.args.frames.now.configuration c.give_back.new.self.configuration c.in-Return.word c.requires.of t.0 c.give_back.ensures
