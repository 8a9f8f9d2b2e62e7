-- Workers of a hall as it is opened.
use Rattle.std.proofs.Common.{◌≡◌, ◌≢◌, ℕ, suc, ◌+◌, ◌-◌, ◌<◌, ◌≤◌, List, [], ◌∷◌, ◌++◌, Some, length, replicate, refl, sym, ap, ◌∙◌, subst, arith}
use Rattle.bytecode.specs.Beginning.{beginning}
use Rattle.bytecode.specs.Code.{Configuration}
use Rattle.bytecode.specs.Initial.{initial_of}
use Rattle.bytecode.specs.Valid.{IsValid}
use Rattle.atomic_table.specs.Seated.{TableId}
use Rattle.machine.specs.Answered.{Answered, StepsHearing}
use Rattle.machine.specs.Threads.{Thread}
use Rattle.machine.specs.Worlds.{new_part, new_world}
use Rattle.shared_words.specs.Setup.{Setup}
use Rattle.shared_words.specs.Views.{first_part}
use Rattle.shared_words.specs.Rule.{SeatView}
use Rattle.shared_words.proofs.Opens.{new_part_there, none_heard}
use Rattle.machine.specs.Standing.{IsThreadOf}
use Rattle.machine.specs.States.{first_thread}
use Rattle.workers.specs.declared.worker.Worker.{Worker}
use Rattle.workers.specs.Works.{Works}
use Rattle.workers.specs.Workers.{AreWorkersFrom, IsWorkerOf}

pub minus_none : (n : ℕ) → n - 0 ≡ n
minus_none n = omega arith

-- there is a word more than there are cells
pub some_word : (n words cells : ℕ) → n ≡ words → words ≡ cells + 1 → 1 ≤ n
some_word n words cells e f = omega arith

-- there is a thread
pub is_some : (n count : ℕ) → n ≢ 0 → count ≡ n → 0 < count
is_some n count some e = omega arith

pub has_thread : (n count : ℕ) → 0 < n → count ≡ n → 0 < count
has_thread n count some e = omega arith

-- the number of a worker, before the last one and at it, of so many threads
pub is_below : (n end count : ℕ) → n < end - 1 → end ≡ count → n < count
is_below n end count lt e = omega arith

pub is_last : (n end count : ℕ) → end - 1 ≤ n → n ≤ end - 1 → end ≡ count → 0 < count → (n + 1 ≡ count) × (end - 1 ≡ n) × (n < count) × (count - (n + 1) ≡ 0)
is_last n end count le ge e some = (omega arith, omega arith, omega arith, omega arith)

-- the number of the next worker is the number of those so far
pub is_next : {X : Type 0} (ws : List X) (len number n : ℕ) → len ≡ n → len ≡ length ws → number ≡ n → number ≡ 0 + length ws
is_next ws len number n e l is = omega arith

pub one_more : (len more n count : ℕ) → more ≡ len + 1 → len ≡ n → n + 1 ≡ count → more ≡ count
one_more len more n count a b c = omega arith

module _ (key : Setup) where
  -- a worker that has made no step
  works_first : (number : ℕ) (valid : IsValid key.code) → IsThreadOf key.code (first_thread key.code number) → number < key.threads → Works key number (first_thread key.code number) 0 0 (first_part key number ∷ [], [])
  works_first number valid of_code h = record {
    part = first_part key number;
    pauses = 0;
    now = new_part (beginning key.code number);
    sits = refl;
    setup = refl;
    number_is = refl;
    paused_to = refl;
    thread_is = refl;
    valid = valid;
    of_code = of_code;
    replays = StepsHearing.none;
    counted = refl;
    fewer = omega arith;
    made = refl;
    since = tt;
    stands = record {
      steps = tt;
      part = new_part_there (beginning key.code) 0 key.threads number h ∙ (let e : 0 + number ≡ number = omega arith in ap (λ k. Some (new_part (beginning key.code k))) e);
      answers = none_heard key.threads number h;
    };
  }

module _ {A : Type 0} (key : Setup) where
  pub workers_more : (z : TableId) (from : ℕ) (ws : List (Worker A)) (w : Worker A) → AreWorkersFrom z key from ws → IsWorkerOf z key w → w.number ≡ from + length ws → w.steps ≡ 0 → AreWorkersFrom z key from (ws ++ w ∷ [])
  workers_more z from [] w f is n s = (is, omega arith, s, tt)
  workers_more z from (x ∷ xs) w f is n s = (f.0, f.1, f.2, workers_more z (suc from) xs w f.3 is (omega arith) s)

  pub works_made : (number : ℕ) (w : Worker A) → IsValid key.code → number < key.threads → w.number ≡ number → w.thread.thread ≡ first_thread key.code number → IsThreadOf key.code w.thread.thread → w.steps ≡ 0 → w.thread.accesses ≡ 0 → w.seat.me ≡ (first_part key number ∷ [], []) → Works key w.number w.thread.thread w.steps w.thread.accesses w.seat.me
  works_made number w valid h n t of_code s a m = subst (λ (z : ℕ × Thread Configuration × ℕ × ℕ × SeatView). Works key z.0 z.1 z.2 z.3 z.4) (λ i. (sym n i, sym t i, sym s i, sym a i, sym m i)) (works_first key number valid (subst (IsThreadOf key.code) t of_code) h)
