-- What a run of all threads reports.
use Rattle.std.proofs.Common.{◌≡◌, ◌<◌, ◌≤◌, ℕ, List, Option, length, sym, subst, arith}
use Rattle.std.specs.Prelude.{MatchOption}
use Rattle.syntax.specs.Behaviours.{Behaviour, Means}
use Rattle.bytecode.specs.Sequential.{meaning}
use Rattle.machine.proofs.runs.Programs.{explained_source}
use Rattle.atomic_table.specs.Seated.{TableId}
use Rattle.bytecode.specs.Code.{Code, effect}
use Rattle.bytecode.specs.Initial.{initial_of}
use Rattle.bytecode.specs.Valid.{bounds_of}
use Rattle.shared_words.proofs.Codes.{initial_fits}
use Rattle.bytecode.specs.Beginning.{beginning}
use Rattle.shared_words.specs.Setup.{Setup}
use Rattle.workers.specs.declared.worker.Worker.{Worker}
use Rattle.workers.specs.declared.run.RunMemory.{RunMemory}
use Rattle.workers.specs.declared.run.RunMemory.TheVariants.{LockHeld, Words}
use Rattle.workers.specs.declared.run.RunReport.{RunReport}
use Rattle.workers.specs.Workers.{AreWorkersOf}
use Rattle.workers.specs.Closing.{AllHere, Closes, Holds, NoneHolds}
use Rattle.workers.specs.Driving.{AreEnded, IsMemoryOf, Ran}
use Rattle.workers.specs.inner.Driving.{TellsMemory}
use Rattle.workers.proofs.Closings.{index_below}

module _ {A : Type 0} where
  pub some_worker : (ws : List (Worker A)) (n : ℕ) → 0 < n → AllHere ws n → 0 < length ws
  some_worker ws n lt here = let h = here 0 lt in let b = index_below ws h.0 h.1 h.2 in omega arith

  memory_is : (m : RunMemory) (cells : List ℕ) (held : Option ℕ) (ws : List (Worker A)) → TellsMemory m cells held → MatchOption held (NoneHolds ws) (λ n. Holds ws n) → IsMemoryOf m ws cells
  memory_is (Words v) cells held ws t h = (t.0, subst (λ (o : Option ℕ). MatchOption o (NoneHolds ws) (λ n. Holds ws n)) t.1 h)
  memory_is (LockHeld n) cells held ws t h = subst (λ (o : Option ℕ). MatchOption o (NoneHolds ws) (λ n. Holds ws n)) t h

  pub ran : (does : Behaviour) (all : ℕ) (key : Setup) (few : key.threads ≤ 64) → Means (bounds_of key.code) (meaning (effect key.code) (beginning key.code)) does
      → (z : TableId) (ws : List (Worker A)) (are : AreWorkersOf z key ws) (cells : List ℕ) (held : Option ℕ) (r : RunReport A) → Closes z key ws are cells r.threads.items → AllHere ws key.threads → TellsMemory r.memory cells held → MatchOption held (NoneHolds ws) (λ n. Holds ws n)
      → AreEnded key all ws r.ends.items → Ran does key all r
  ran does all key few means z ws are cells held r closes here tells holder ended = record {
    table = z;
    workers = ws;
    are = are;
    cells = cells;
    closes = closes;
    here = here;
    memory = memory_is r.memory cells held ws tells holder;
    ends = ended;
    program = λ es m. explained_source (bounds_of key.code) (initial_of key.code) (initial_fits key.code) (meaning (effect key.code) (beginning key.code)) does means key.threads (omega arith) closes.world es (closes.runs.each es m);
  }

  -- a run of a hall with this code and so many threads
  pub ran_of : (does : Behaviour) (code : Code) (threads all : ℕ) (key : Setup) (r : RunReport A) → key.code ≡ code → key.threads ≡ threads → Means (bounds_of code) (meaning (effect code) (beginning code)) does
      → (Means (bounds_of key.code) (meaning (effect key.code) (beginning key.code)) does → Ran does key all r) → Ran does (record { code = code; threads = threads }) all r
  ran_of does code threads all key r same count means run =
      subst (λ (k : Setup). Ran does k all r) (λ i. record { code = same i; threads = count i }) (run (subst (λ (c : Code). Means (bounds_of c) (meaning (effect c) (beginning c)) does) (sym same) means))
