-- A run of all threads of a code at once is one of the program that the code means.
use Rattle.std.proofs.Common.{◌≡◌, ◌∙◌, ◌+◌, ◌++◌, ◌∷◌, [], ℕ, List, Option, map, ap, ap₂, subst, sym, add-one}
use Rattle.std.proofs.lemmas.List.{map-append}
use Rattle.report.specs.declared.pieces.ThreadSeen.{ThreadSeen}
use Rattle.report.specs.declared.printed.Shown.{Shown}
use Rattle.report.specs.Pieces.{seen_of}
use Rattle.report.specs.Views.{shown_of}
use Rattle.std.specs.Global.{Global}
use Rattle.syntax.specs.Tree.{Program}
use Rattle.syntax.specs.Names.{bounds}
use Rattle.syntax.specs.Names.{bounds_of as cell_bounds}
use Rattle.syntax.specs.Behaviours.{Behaviour, Means}
use Rattle.syntax.specs.Threads.{thread}
use Rattle.bytecode.specs.Code.{Code}
use Rattle.bytecode.specs.Valid.{bounds_of}
use Rattle.shared_words.specs.Saying.{code_does}
use Rattle.report.specs.Printed.{Printed}
use Rattle.report.specs.Printed as plain
use Rattle.workers.specs.Driving.{Ran}
use Rattle.workers.specs.declared.run.RunReport.{RunReport}
use Rattle.serving.specs.Codes.{IsCodeOf}
use Rattle.serving.specs.Runs.{IsConcurrentRun, globals_left, held_by, run_shown, thread_of_run, threads_of_run}
use Rattle.serving.specs.declared.run.RunLeft.{RunLeft}
use Rattle.serving.specs.inner.Printing.{plain_report}
use Rattle.serving.specs.inner.Threads.{left_shown}
use Rattle.serving.proofs.Found.{thread_shown}

pub run_concurrently : (p : Program) (code : Code) (threads budget : ℕ) (r : RunReport Global) (shown : Printed) → IsCodeOf p code → ((does : Behaviour) → Means (bounds_of code) (code_does code) does → Ran does (record { code = code; threads = threads }) budget r) → shown ≡ run_shown p threads r → IsConcurrentRun p code threads budget shown
run_concurrently p code threads budget r shown compiled ran shows =
    let cells : bounds p ≡ bounds_of code = ap cell_bounds (sym compiled.globals) in
    let means : Ran (thread p) (record { code = code; threads = threads }) budget r = ran (thread p) (subst (λ bs. Means bs (code_does code) (thread p)) cells compiled.means) in
    record {
      report = r;
      ran = means;
      shows = shows;
      each = λ n lt. thread_shown (thread p) (record { code = code; threads = threads }) budget r means n lt;
    }

-- one more thread
pub one_more_thread : (r : RunReport Global) (n : ℕ) (before after : List ThreadSeen) (t : ThreadSeen) → map seen_of before ≡ threads_of_run r n → seen_of t ≡ thread_of_run r n → after ≡ before ++ t ∷ [] → map seen_of after ≡ threads_of_run r (n + 1)
one_more_thread r n before after t so_far this more =
    rw (add-one) (ap (map seen_of) more ∙ map-append seen_of before (t ∷ []) ∙ ap₂ (λ xs x. xs ++ x ∷ []) so_far this)

-- the printed threads are those that the run leaves
pub is_left : {A : Type 0} (threads : ℕ) (left : RunLeft) (seen : List ThreadSeen) (globals : List (Shown A)) (holder : Option ℕ) → map seen_of seen ≡ threads_of_run left.ran threads → map shown_of globals ≡ map shown_of left.globals → holder ≡ held_by left.ran.memory → plain_report (map seen_of seen) (map shown_of globals) holder ≡ left_shown threads left
is_left threads left seen globals holder e f h =
    ap₂ (λ (ts : List plain.ThreadShown) (gs : List plain.Shown). plain_report ts gs holder) e f
    ∙ ap (plain_report (threads_of_run left.ran threads) (map shown_of left.globals)) h

-- and the report of the run shows them
pub leaves : (p : Program) (threads : ℕ) (r : RunReport Global) (globals : List plain.Shown) → globals ≡ globals_left p r.memory → plain_report (threads_of_run r threads) globals (held_by r.memory) ≡ run_shown p threads r
leaves p threads r globals e = ap (λ (gs : List plain.Shown). plain_report (threads_of_run r threads) gs (held_by r.memory)) e
