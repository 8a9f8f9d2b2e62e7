-- A worker's thread stands in a run, as it is now.
use Rattle.std.proofs.Common.{sym, ap, ◌∙◌, subst}
use Rattle.atomic_table.specs.Seated.{TableId}
use Rattle.bytecode.specs.Beginning.{beginning}
use Rattle.bytecode.specs.Code.{Configuration, effect}
use Rattle.bytecode.specs.Initial.{initial_of}
use Rattle.bytecode.specs.Sequential.{meaning}
use Rattle.bytecode.specs.Valid.{bounds_of}
use Rattle.machine.specs.Merges.{run_of}
use Rattle.machine.specs.Threads.{Thread}
use Rattle.machine.proofs.runs.Programs.{explained_source}
use Rattle.shared_words.proofs.Codes.{initial_fits}
use Rattle.shared_words.proofs.Saying.{runs_say}
use Rattle.shared_words.specs.Setup.{Setup}
use Rattle.syntax.specs.Behaviours.{Stands}
use Rattle.workers.proofs.Turns.{now_stands}
use Rattle.workers.specs.declared.worker.Worker.{Worker}
use Rattle.workers.specs.Workers.{StandsOn, StepsOn}
use Rattle.workers.specs.Works.{Grows}

module _ {A : Type 0} (z : TableId) (key : Setup) where
  pub stands_on : (a b : Worker A) → StepsOn z key a b → StandsOn z key a b
  stands_on a b on does means few was =
      let x = on was in
      let is = x.0.1 in
      let s = now_stands key b.number b.thread.thread b.steps b.thread.accesses b.seat.me is in
      let r = runs_say key s.world s.heard is.valid s.answered in
      let e = explained_source (bounds_of key.code) (initial_of key.code) (initial_fits key.code) (meaning (effect key.code) (beginning key.code)) does means key.threads few s.world r.entries (r.each r.entries r.is_merge) in
      record {
        entries = r.entries;
        is_run = e.is_run;
        stands = subst (λ (th : Thread Configuration). Stands does (initial_of key.code) (run_of r.entries) b.number th.text th.status) is.thread_is (e.standing b.number is.now s.part);
        first = subst (Grows was.1.now.records) (sym (r.is_merge.own_records b.number is.now s.part)) x.1.records;
        part = is.now;
        thread_is = is.thread_is;
        computes = λ a' has. r.attempts r.entries r.is_merge b.number is.now a' s.part (ap (λ (th : Thread Configuration). th.attempt) is.thread_is ∙ has);
      }
