use Rattle.std.proofs.Common.{ℕ, ◌<◌, sym, subst}
use Rattle.workers.specs.declared.close.CloseReason.{CloseReason}
use Rattle.workers.specs.declared.close.CloseReason.TheVariants.{Missing}
use Rattle.workers.specs.Closing.{AllHere, IsReason}
use Rattle.workers.proofs.Opens.{some_word}
use Rattle.workers.proofs.Ran.{some_worker}
use Rattle.workers.proofs.hall.Hall.close.Goals as goal

pub gather-requires-clause-some : goal.gather-requires-clause-some
gather-requires-clause-some g c =
    let here = subst (AllHere c.args.workers.items) c.threads.ensures c.if-missing.ensures in
    subst (λ (n : ℕ). 0 < n) (sym c.args.workers.ok.0) (some_worker c.args.workers.items c.args.self.setup.threads c.args.self.some_thread here)

pub returns-in-Ok-with_capacity-clause-all : goal.returns-in-Ok-with_capacity-clause-all
returns-in-Ok-with_capacity-clause-all g c = subst (AllHere c.args.workers.items) c.threads.ensures c.if-missing.ensures

pub returns-then-missing-clause-reason : goal.returns-then-missing-clause-reason
returns-then-missing-clause-reason g c =
    subst (λ (r : CloseReason). IsReason r c.args.self.setup.threads c.args.workers.items) (sym c.fault.ensures.0)
    (subst (λ (t : ℕ). IsReason Missing t c.args.workers.items) c.threads.ensures c.if-missing.ensures)

pub returns-in-Some-clause-reason : goal.returns-in-Some-clause-reason
returns-in-Some-clause-reason g c =
    subst (λ (r : CloseReason). IsReason r c.args.self.setup.threads c.args.workers.items) (sym c.fault-in-Some.ensures.0)
    (c.in-Some.ensures, subst (AllHere c.args.workers.items) c.threads.ensures c.if-missing.ensures)

pub overflow_sub-word_count : goal.overflow_sub-word_count
overflow_sub-word_count g c = some_word c.word_count.result _ _ c.word_count.ensures c.args.self.wide
