-- The text of a timeline: a line for each step.
use Rattle.std.specs.Prelude.{ℕ, List, [], ◌++◌, codes, decimal, flat_map, option_map, unwrap_or}
use Rattle.syntax.specs.declared.thread_end.Status.{Status}
use Rattle.syntax.specs.declared.thread_end.Status.TheVariants.{Running, Ended as HasEnded, Trapped as HasTrapped}
use Rattle.bytecode.specs.Code.{Code}
use Rattle.bytecode.specs.Listing.{text_at}
use Rattle.norec_core.specs.declared.step.Access.{Access}
use Rattle.norec_core.specs.declared.step.Access.TheVariants.{Local, LoadLock, LoadWord, Swap, StoreWord, StoreLock}
use Rattle.norec_core.specs.declared.step.Answer.{Answer}
use Rattle.norec_core.specs.declared.step.Answer.TheVariants.{Done, Value, Won, Lost}
use Rattle.machine.specs.declared.event.StepShown.{StepShown}
use Rattle.report.specs.declared.printed.End.TheVariants.{Ended, Trapped}
use Rattle.report.specs.Printed.{Event}
use Rattle.report.specs.Report.{end_words, event_words}

-- the thread's program counter and the instruction there; or that the thread has terminated
abbrev pub place_words : Code → Status → ℕ → List ℕ
place_words code Running place = decimal place ++ codes " " ++ text_at code place
place_words code HasEnded place = end_words Ended
place_words code (HasTrapped cause) place = end_words (Trapped cause)

-- the access to the lock or a word that the step makes
abbrev pub access_words : Access → List ℕ
access_words Local = []
access_words LoadLock = codes "; load lock"
access_words (LoadWord cell) = codes "; load @" ++ decimal cell
access_words (Swap from) = codes "; swap lock " ++ decimal from
access_words (StoreWord cell word) = codes "; store @" ++ decimal cell ++ codes " = " ++ decimal word
access_words (StoreLock value) = codes "; store lock = " ++ decimal value

-- the answer to the step's access
abbrev pub answer_words : Answer → List ℕ
answer_words Done = []
answer_words (Value value) = codes " = " ++ decimal value
answer_words Won = codes ": won"
answer_words (Lost value) = codes ": lost, " ++ decimal value

-- the event of the step, if it is shown
abbrev pub happened_words : Event → List ℕ
happened_words e = unwrap_or (option_map (λ words. codes "; " ++ words) (event_words e)) []

-- the content of a step's line: its thread's program counter and instruction, the access, its answer, and the event
abbrev pub shown_words : Code → StepShown → List ℕ
shown_words code s =
    place_words code s.status s.place ++ access_words s.access ++ answer_words s.answer ++ happened_words s.event

-- a step's line: the shared accesses made so far, the thread, and the content
abbrev pub step_words : Code → ℕ × ℕ × StepShown → List ℕ
step_words code s = decimal s.0 ++ codes " " ++ decimal s.1 ++ codes " " ++ shown_words code s.2

abbrev pub step_line : Code → ℕ × ℕ × StepShown → List ℕ
step_line code s = step_words code s ++ codes "\n"

abbrev pub timeline_text : Code → List (ℕ × ℕ × StepShown) → List ℕ
timeline_text code steps = codes "== timeline\n" ++ flat_map (step_line code) steps
