use Rattle.std.proofs.Common.{sym, subst}
use Rattle.bytecode.specs.Code.{Configuration, going}
use Rattle.frames.specs.Open.{IsConfigurationOf}
use Rattle.machine_tests.proofs.Carrying.{after_pure, after_read, after_write, after_print, after_irrevocable, after_begin, after_commit, after_return}
use Rattle.machine_tests.proofs.of_frames.carried.carry_out.Goals as goal

pub returns-in-Local : goal.returns-in-Local
returns-in-Local g c = after_pure c.args.code.now c.note_valid.ensures c.args.frames.now.configuration c.step.new.self.configuration c.requires.of c.step.ensures

pub returns-in-Read : goal.returns-in-Read
returns-in-Read g c = let t = rw c.in-Read.is at c.requires.told in after_read c.args.code.now c.note_valid.ensures c.args.frames.now.configuration c.set.new.self.configuration c.in-Read.cell c.in-Read.d c.word_at-word.result c.requires.of t.0 c.word_at-word.ensures c.set.ensures.configuration

pub returns-after-at-memory : goal.returns-after-at-memory
returns-after-at-memory g c = let t = rw c.in-Write.is at c.requires.told in after_write c.args.code.now c.note_valid.ensures c.args.frames.now.configuration c.go_on.new.self.configuration c.in-Write.cell c.in-Write.word c.requires.of t.0 c.go_on.ensures.configuration

pub returns-in-Begin : goal.returns-in-Begin
returns-in-Begin g c = let t = rw c.in-Begin.is at c.requires.told in after_begin c.args.code.now c.note_valid.ensures c.args.frames.now.configuration c.go_on-in-Begin.new.self.configuration (going c.args.frames.now.configuration c.in-Begin.field-0) c.requires.of t c.go_on-in-Begin.ensures.configuration

pub returns-in-Commit : goal.returns-in-Commit
returns-in-Commit g c = let t = rw c.in-Commit.is at c.requires.told in after_commit c.args.code.now c.note_valid.ensures c.args.frames.now.configuration c.go_on-in-Commit.new.self.configuration c.requires.of t c.go_on-in-Commit.ensures.configuration

pub returns-in-Irrevocable : goal.returns-in-Irrevocable
returns-in-Irrevocable g c = let t = rw c.in-Irrevocable.is at c.requires.told in after_irrevocable c.args.code.now c.note_valid.ensures c.args.frames.now.configuration c.go_on-in-Irrevocable.new.self.configuration c.requires.of t c.go_on-in-Irrevocable.ensures.configuration

pub returns-in_ok-prepare_call-in-Call : goal.returns-in_ok-prepare_call-in-Call
returns-in_ok-prepare_call-in-Call g c = after_pure c.args.code.now c.note_valid.ensures c.prepare_call.new.self.configuration c.call.new.self.configuration (subst (λ (x : Configuration). IsConfigurationOf c.args.code.now x) (sym c.prepare_call.ensures.configuration) c.requires.of) c.call.ensures

pub returns-in-Return : goal.returns-in-Return
returns-in-Return g c = let t = rw c.in-Return.is at c.requires.told in after_return c.args.code.now c.note_valid.ensures c.args.frames.now.configuration c.give_back.new.self.configuration c.in-Return.word c.requires.of t.0 c.give_back.ensures

pub returns-in_ok-push_piece-in-PrintText : goal.returns-in_ok-push_piece-in-PrintText
returns-in_ok-push_piece-in-PrintText g c = let t = rw c.in-PrintText.is at c.requires.told in after_print c.args.code.now c.note_valid.ensures c.args.frames.now.configuration c.go_on-in-PrintText.new.self.configuration _ c.requires.of t c.go_on-in-PrintText.ensures.configuration

pub returns-in_ok-push_piece-in-PrintNumber : goal.returns-in_ok-push_piece-in-PrintNumber
returns-in_ok-push_piece-in-PrintNumber g c = let t = rw c.in-PrintNumber.is at c.requires.told in after_print c.args.code.now c.note_valid.ensures c.args.frames.now.configuration c.go_on-in-PrintNumber.new.self.configuration _ c.requires.of t c.go_on-in-PrintNumber.ensures.configuration
