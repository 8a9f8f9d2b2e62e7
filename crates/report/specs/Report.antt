-- The text of a report.
use Rattle.std.specs.Prelude.{ℕ, ◌+◌, ◌-◌, ◌==◌, List, [], ◌∷◌, ◌++◌, length, codes, flat_map, Bool, true, not, Option}
use Rattle.std.specs.Prelude.{Some, None, option_map, unwrap_or, if◌then◌else◌, decimal}
use Rattle.std.specs.List.{slice_get}
use Rattle.std.specs.Fmt.{signed_decimal}
use Rattle.lex.specs.declared.token.Scalar.{Scalar}
use Rattle.syntax.specs.Numbers.{number, trap_number}
use Rattle.machine.specs.declared.event.Event.TheVariants as event
use Rattle.report.specs.declared.printed.End.TheVariants.{Ended, Trapped, OutOfMemory, SequenceUsedUp, Budget, Running}
use Rattle.report.specs.declared.printed.End.TheVariants.{Waits, Spent}
use Rattle.report.specs.Printed.{Event, End, ThreadShown, Shown, Printed}

-- the event of a step; a quiet one is not shown
abbrev pub event_words : Event → Option (List ℕ)
event_words event.Quiet = None
event_words event.Commit = Some (codes "commit")
event_words event.Abort = Some (codes "abort")
event_words event.Cancel = Some (codes "cancel")
event_words (event.Trap k) = Some (codes "trap " ++ decimal (trap_number k))

-- an event's line: the shared accesses made so far, the thread, and the event
abbrev pub event_line : ℕ × ℕ × Event → List ℕ
event_line e =
    unwrap_or (option_map (λ words. decimal e.0 ++ codes " " ++ decimal e.1 ++ codes " " ++ words ++ codes "\n")
    (event_words e.2)) []

abbrev pub events_text : Option (List (ℕ × ℕ × Event)) → List ℕ
events_text None = []
events_text (Some events) = codes "== events\n" ++ flat_map event_line events

-- the status of a thread
abbrev pub end_words : End → List ℕ
end_words Ended = codes "ended"
end_words (Trapped k) = codes "trap " ++ decimal (trap_number k)
end_words OutOfMemory = codes "stop 00"
end_words SequenceUsedUp = codes "stop 70"
end_words Budget = codes "budget"
end_words Running = codes "running"
end_words Waits = codes "waits"
end_words Spent = codes "spent"

-- a text that is not empty and does not end with LF
abbrev pub is_open : List ℕ → Bool
is_open text = not (unwrap_or (option_map (λ b. b == 10) (slice_get text (length text - 1))) true)

-- a text with its last line ended
abbrev pub lines_of : List ℕ → List ℕ
lines_of text = text ++ (if is_open text then codes "\n" else [])

-- the numbers that words denote, each after a space
abbrev pub values_text : Scalar → List ℕ → List ℕ
values_text ty = flat_map (λ w. codes " " ++ signed_decimal (number ty w))

-- the status of a thread, and its output
abbrev pub thread_text : ℕ → ThreadShown → List ℕ
thread_text t thread =
    codes "== thread " ++ decimal t ++ codes ": " ++ end_words thread.end ++ codes "\n" ++ lines_of thread.text

-- threads from this one on
abbrev pub threads_text : ℕ → List ThreadShown → List ℕ
threads_text t [] = []
threads_text t (thread ∷ threads) = thread_text t thread ++ threads_text (t + 1) threads

-- a global's line: its name and its values
abbrev pub global_line : Shown → List ℕ
global_line g = g.name ++ codes " =" ++ values_text g.ty g.words ++ codes "\n"

-- the globals, in order of declaration, or else the thread that holds the lock
abbrev pub memory_text : Option ℕ → List Shown → List ℕ
memory_text None globals = codes "== memory\n" ++ flat_map global_line globals
memory_text (Some t) globals = codes "== memory: lock held by thread " ++ decimal t ++ codes "\n"

abbrev pub report_text : Printed → List ℕ
report_text p = events_text p.events ++ threads_text 0 p.threads ++ memory_text p.holder p.globals
