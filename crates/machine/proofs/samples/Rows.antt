-- Worked examples, computed by the definitions: each gives the events with the number of shared accesses made and the thread,
-- the lock, the words, and each thread's text and end.
use Rattle.std.proofs.Common.{◌≡◌, ℕ, Option, None, Some, List, [], ◌∷◌, refl}
use Rattle.syntax.specs.declared.thread_end.Trap.TheVariants.{OutOfRange}
use Rattle.syntax.specs.declared.thread_end.Status.TheVariants.{Running, Ended as HasEnded, Trapped as HasTrapped}
use Rattle.norec_core.specs.Attempts.{Attempt}
use Rattle.norec_core.specs.Phases.{core_access, core_step}
use Rattle.norec_core.specs.declared.step.Access.{Access}
use Rattle.norec_core.specs.declared.step.Access.TheVariants.{Local, LoadLock, LoadWord, Swap, StoreWord}
use Rattle.norec_core.specs.declared.step.Answer.{Answer}
use Rattle.norec_core.specs.declared.step.Answer.TheVariants.{Done, Value, Won}
use Rattle.norec_core.specs.declared.step.Op.{Op}
use Rattle.norec_core.specs.declared.step.Op.TheVariants as op
use Rattle.norec_core.specs.declared.step.OpOutcome.{OpOutcome}
use Rattle.norec_core.specs.declared.step.OpOutcome.TheVariants as outcome
use Rattle.machine.specs.declared.event.Event.TheVariants as event
use Rattle.machine.proofs.samples.Samples.{Instruction, begins}
use Rattle.machine.proofs.samples.Samples.Instruction.{Const, Add, Sub, Mul, Div, Jump, Jnz, Read, Write, Open, Close, Undo, UndoOuter, Keep, Show, Ret}
use Rattle.machine.specs.Worlds.{new_world}
use Rattle.machine.proofs.samples.Replays.{replayed, lines}

-- x = x + 1, by two threads
abbrev pub count_code : List Instruction
count_code = Open 6 ∷ Read 1 0 ∷ Const 2 1 ∷ Add 1 1 2 ∷ Write 0 1 ∷ Close ∷ Ret ∷ []

both_count : replayed count_code (0 ∷ []) 2 ((0, 1) ∷ (1, 1) ∷ (0, 1) ∷ (1, 1) ∷ (0, 1) ∷ (1, 1) ∷ (0, 1) ∷ (1, 1) ∷ (0, 1) ∷ (1, 1) ∷ (0, 2) ∷ (1, 9) ∷ [])
    ≡ record { events = (11, 0, event.Commit) ∷ (13, 1, event.Abort) ∷ (19, 1, event.Commit) ∷ []; lock = 4; words = 2 ∷ []; texts = [] ∷ [] ∷ []; ends = HasEnded ∷ HasEnded ∷ [] }
both_count = refl

-- thread 0 writes x = 5, which it has; the other one copies it to y. r0 is the thread's number
abbrev pub copy_code : List Instruction
copy_code = Open 8 ∷ Jnz 0 5 ∷ Const 1 5 ∷ Write 0 1 ∷ Jump 7 ∷ Read 1 0 ∷ Write 1 1 ∷ Close ∷ Ret ∷ []

same_value : replayed copy_code (5 ∷ 0 ∷ []) 2 ((1, 3) ∷ (0, 5) ∷ (1, 8) ∷ [])
    ≡ record { events = (7, 0, event.Commit) ∷ (14, 1, event.Commit) ∷ []; lock = 4; words = 5 ∷ 5 ∷ []; texts = [] ∷ [] ∷ []; ends = HasEnded ∷ HasEnded ∷ [] }
same_value = refl

-- x goes 1, 2, 1 between two reads
abbrev pub back_code : List Instruction
back_code = Jnz 0 12 ∷ Open 5 ∷ Const 1 2 ∷ Write 0 1 ∷ Close ∷ Open 11 ∷ Const 1 1 ∷ Write 0 1 ∷ Const 1 7 ∷ Write 1 1 ∷ Close ∷ Ret
    ∷ Open 20 ∷ Read 1 0 ∷ Const 2 10 ∷ Mul 1 1 2 ∷ Read 2 1 ∷ Add 1 1 2 ∷ Write 2 1 ∷ Close ∷ Ret ∷ []

there_and_back : replayed back_code (1 ∷ 0 ∷ 0 ∷ []) 2 ((1, 3) ∷ (0, 10) ∷ (1, 11) ∷ [])
    ≡ record { events = (7, 0, event.Commit) ∷ (12, 0, event.Commit) ∷ (22, 1, event.Commit) ∷ []; lock = 6; words = 1 ∷ 7 ∷ 17 ∷ []; texts = [] ∷ [] ∷ []; ends = HasEnded ∷ HasEnded ∷ [] }
there_and_back = refl

-- q = 100 / (1 + x - y), while x and y change together
abbrev pub div_code : List Instruction
div_code = Jnz 0 7 ∷ Open 6 ∷ Const 1 4 ∷ Write 0 1 ∷ Write 1 1 ∷ Close ∷ Ret
    ∷ Open 17 ∷ Const 1 1 ∷ Read 2 0 ∷ Add 1 1 2 ∷ Read 2 1 ∷ Sub 1 1 2 ∷ Const 2 100 ∷ Div 1 2 1 ∷ Write 2 1 ∷ Close ∷ Ret ∷ []

never_divides_by_zero : replayed div_code (3 ∷ 3 ∷ 0 ∷ []) 2 ((1, 3) ∷ (0, 4) ∷ (1, 3) ∷ (0, 2) ∷ (1, 11) ∷ [])
    ≡ record { events = (11, 0, event.Commit) ∷ (13, 1, event.Abort) ∷ (21, 1, event.Commit) ∷ []; lock = 4; words = 4 ∷ 4 ∷ 100 ∷ []; texts = [] ∷ [] ∷ []; ends = HasEnded ∷ HasEnded ∷ [] }
never_divides_by_zero = refl

-- a read-only transaction that commits late
abbrev pub look_code : List Instruction
look_code = Jnz 0 6 ∷ Open 5 ∷ Const 1 2 ∷ Write 0 1 ∷ Close ∷ Ret ∷ Open 9 ∷ Read 1 0 ∷ Close ∷ Show 1 ∷ Ret ∷ []

late_commit : replayed look_code (1 ∷ []) 2 ((1, 3) ∷ (0, 5) ∷ (1, 1) ∷ [])
    ≡ record { events = (7, 0, event.Commit) ∷ (7, 1, event.Commit) ∷ []; lock = 2; words = 2 ∷ []; texts = [] ∷ (1 ∷ []) ∷ []; ends = HasEnded ∷ HasEnded ∷ [] }
late_commit = refl

-- a cancelled inner transaction, whose read is validated all the same: f, g, h
abbrev pub nested_code : List Instruction
nested_code = Jnz 0 7 ∷ Open 6 ∷ Const 1 1 ∷ Write 0 1 ∷ Write 2 1 ∷ Close ∷ Ret
    ∷ Open 22 ∷ Open 17 ∷ Read 1 0 ∷ Jnz 1 14 ∷ Const 1 9 ∷ Write 1 1 ∷ Undo ∷ Const 1 5 ∷ Write 1 1 ∷ Close
    ∷ Read 1 1 ∷ Read 2 2 ∷ Add 1 1 2 ∷ Write 1 1 ∷ Close ∷ Ret ∷ []

cancelled_read_counts : replayed nested_code (0 ∷ 1 ∷ 0 ∷ []) 2 ((1, 5) ∷ (0, 6) ∷ (1, 13) ∷ [])
    ≡ record { events = (3, 1, event.Cancel) ∷ (10, 0, event.Commit) ∷ (14, 1, event.Abort) ∷ (22, 1, event.Commit) ∷ []; lock = 4; words = 1 ∷ 6 ∷ 1 ∷ []; texts = [] ∷ [] ∷ []; ends = HasEnded ∷ HasEnded ∷ [] }
cancelled_read_counts = refl

-- a cancel restores registers too
abbrev pub cancel_code : List Instruction
cancel_code = Const 1 5 ∷ Open 5 ∷ Const 1 6 ∷ Write 0 1 ∷ Undo ∷ Show 1 ∷ Ret ∷ []

cancel_restores : replayed cancel_code (1 ∷ []) 1 ((0, 9) ∷ [])
    ≡ record { events = (1, 0, event.Cancel) ∷ []; lock = 0; words = 1 ∷ []; texts = (5 ∷ []) ∷ []; ends = HasEnded ∷ [] }
cancel_restores = refl

-- x = x + 1 and a print of it, in a relaxed transaction
abbrev pub relaxed_code : List Instruction
relaxed_code = Open 9 ∷ Read 1 0 ∷ Const 2 1 ∷ Add 1 1 2 ∷ Write 0 1 ∷ Keep ∷ Read 1 0 ∷ Show 1 ∷ Close ∷ Ret ∷ []

relaxed_prints : replayed relaxed_code (0 ∷ []) 2 ((0, 3) ∷ (1, 3) ∷ (0, 1) ∷ (1, 2) ∷ (0, 3) ∷ (1, 9) ∷ [])
    ≡ record { events = (11, 0, event.Commit) ∷ (13, 1, event.Abort) ∷ (19, 1, event.Commit) ∷ []; lock = 4; words = 2 ∷ []; texts = (1 ∷ []) ∷ (2 ∷ []) ∷ []; ends = HasEnded ∷ HasEnded ∷ [] }
relaxed_prints = refl

relaxed_holds : replayed relaxed_code (0 ∷ []) 1 ((0, 5) ∷ [])
    ≡ record { events = []; lock = 1; words = 1 ∷ []; texts = (1 ∷ []) ∷ []; ends = Running ∷ [] }
relaxed_holds = refl

-- a trap with the lock kept: y = 3, a print, then x + 1 beyond the range
abbrev pub trap_code : List Instruction
trap_code = Open 9 ∷ Const 1 3 ∷ Write 1 1 ∷ Keep ∷ Show 1 ∷ Read 1 0 ∷ Const 2 1 ∷ Add 1 1 2 ∷ Close ∷ Ret ∷ []

trap_releases : replayed trap_code (2147483647 ∷ 0 ∷ []) 1 ((0, 10) ∷ [])
    ≡ record { events = (4, 0, event.Trap OutOfRange) ∷ []; lock = 2; words = 2147483647 ∷ 0 ∷ []; texts = (3 ∷ []) ∷ []; ends = HasTrapped OutOfRange ∷ [] }
trap_releases = refl

-- an inner transaction is cancelled while the lock is kept: x, y
abbrev pub inner_code : List Instruction
inner_code = Open 11 ∷ Keep ∷ Show 0 ∷ Read 1 1 ∷ Write 0 1 ∷ Open 9 ∷ Const 2 1 ∷ Write 1 2 ∷ Undo ∷ Close ∷ Ret ∷ Ret ∷ []

kept_cancel : replayed inner_code (4 ∷ 7 ∷ []) 1 ((0, 20) ∷ [])
    ≡ record { events = (3, 0, event.Cancel) ∷ (5, 0, event.Commit) ∷ []; lock = 2; words = 7 ∷ 7 ∷ []; texts = (0 ∷ []) ∷ []; ends = HasEnded ∷ [] }
kept_cancel = refl

-- rows of an inner cancel, whose cancelled writes are not seen, and of two prints in one relaxed transaction
abbrev pub inner_cancel_code : List Instruction
inner_cancel_code = Open 15 ∷ Const 1 2 ∷ Write 0 1 ∷ Open 9 ∷ Const 1 3 ∷ Write 0 1 ∷ Read 1 0 ∷ Write 1 1 ∷ Undo ∷ Read 1 0 ∷ Read 2 1 ∷ Add 1 1 2 ∷ Write 1 1 ∷ Close ∷ Ret ∷ Ret ∷ []

inner_cancel : replayed inner_cancel_code (1 ∷ 0 ∷ []) 1 ((0, 20) ∷ [])
    ≡ record { events = (1, 0, event.Cancel) ∷ (7, 0, event.Commit) ∷ []; lock = 2; words = 2 ∷ 2 ∷ []; texts = [] ∷ []; ends = HasEnded ∷ [] }
inner_cancel = refl

abbrev pub two_prints_code : List Instruction
two_prints_code = Open 16 ∷ Read 1 0 ∷ Const 2 1 ∷ Add 1 1 2 ∷ Write 0 1 ∷ Keep ∷ Read 1 0 ∷ Show 1 ∷ Read 1 0 ∷ Const 2 2 ∷ Mul 1 1 2 ∷ Write 0 1 ∷ Keep ∷ Read 1 0 ∷ Show 1 ∷ Close ∷ Ret ∷ []

two_prints : replayed two_prints_code (4 ∷ []) 1 ((0, 20) ∷ [])
    ≡ record { events = (6, 0, event.Commit) ∷ []; lock = 2; words = 10 ∷ []; texts = (5 ∷ 10 ∷ []) ∷ []; ends = HasEnded ∷ [] }
two_prints = refl

-- an outermost cancel while the lock is kept stands still, and is no event
abbrev pub kept_undo_code : List Instruction
kept_undo_code = Open 3 ∷ Keep ∷ Undo ∷ Ret ∷ []

kept_undo : (lines kept_undo_code ((0, 2) ∷ []) (record { world = new_world begins (0 ∷ []) 1; count = 0; events = [] })).events ≡ []
kept_undo = refl

-- a cancel of two levels, as nested_code has one: what was read inside both is validated all the same
abbrev pub outer_code : List Instruction
outer_code = Jnz 0 7 ∷ Open 6 ∷ Const 1 1 ∷ Write 0 1 ∷ Write 2 1 ∷ Close ∷ Ret
    ∷ Open 24 ∷ Open 19 ∷ Open 16 ∷ Read 1 0 ∷ Jnz 1 15 ∷ Const 1 9 ∷ Write 1 1 ∷ UndoOuter 2 ∷ Close ∷ Const 1 5 ∷ Write 1 1 ∷ Close
    ∷ Read 1 1 ∷ Read 2 2 ∷ Add 1 1 2 ∷ Write 1 1 ∷ Close ∷ Ret ∷ []

outer_read_counts : replayed outer_code (0 ∷ 1 ∷ 0 ∷ []) 2 ((1, 5) ∷ (0, 6) ∷ (1, 13) ∷ [])
    ≡ record { events = (3, 1, event.Cancel) ∷ (10, 0, event.Commit) ∷ (14, 1, event.Abort) ∷ (22, 1, event.Commit) ∷ []; lock = 4; words = 1 ∷ 6 ∷ 1 ∷ []; texts = [] ∷ [] ∷ []; ends = HasEnded ∷ HasEnded ∷ [] }
outer_read_counts = refl

-- of three levels two are cancelled: words and registers are those of the middle begin, and the thread goes on where that says
abbrev pub middle_code : List Instruction
middle_code = Open 14 ∷ Const 1 2 ∷ Write 0 1 ∷ Open 10 ∷ Const 1 3 ∷ Write 0 1 ∷ Open 9 ∷ Write 1 1 ∷ UndoOuter 2 ∷ Const 1 7 ∷ Read 2 0 ∷ Add 1 1 2 ∷ Write 1 1 ∷ Close ∷ Ret ∷ []

middle_cancel : replayed middle_code (1 ∷ 0 ∷ []) 1 ((0, 20) ∷ [])
    ≡ record { events = (1, 0, event.Cancel) ∷ (5, 0, event.Commit) ∷ []; lock = 2; words = 2 ∷ 4 ∷ []; texts = [] ∷ []; ends = HasEnded ∷ [] }
middle_cancel = refl

-- all levels at once: the outermost transaction is cancelled
abbrev pub all_code : List Instruction
all_code = Const 1 5 ∷ Open 8 ∷ Const 1 6 ∷ Write 0 1 ∷ Open 7 ∷ Const 1 7 ∷ UndoOuter 2 ∷ Const 1 9 ∷ Show 1 ∷ Ret ∷ []

all_cancelled : replayed all_code (1 ∷ []) 1 ((0, 9) ∷ [])
    ≡ record { events = (1, 0, event.Cancel) ∷ []; lock = 0; words = 1 ∷ []; texts = (5 ∷ []) ∷ []; ends = HasEnded ∷ [] }
all_cancelled = refl

-- while the lock is kept that stands still too
abbrev pub kept_all_code : List Instruction
kept_all_code = Open 4 ∷ Keep ∷ Open 4 ∷ UndoOuter 2 ∷ Ret ∷ []

kept_all : (lines kept_all_code ((0, 2) ∷ []) (record { world = new_world begins (0 ∷ []) 1; count = 0; events = [] })).events ≡ []
kept_all = refl

-- The core played by hand: what each step asks for and what comes of it, and the snapshot and read log at the end.
abbrev log_of : Option (Attempt ℕ) → ℕ × List (ℕ × ℕ)
log_of None = (0, [])
log_of (Some a) = (a.snapshot, a.reads)

abbrev played : Option (Attempt ℕ) → List (Op × Answer) → List (Access × OpOutcome) × (ℕ × List (ℕ × ℕ))
played o [] = ([], log_of o)
played o (q ∷ qs) =
    let c = core_step 0 o q.0 q.1 in
    let rest = played c.attempt qs in
    ((core_access o q.0, c.outcome) ∷ rest.0, rest.1)

-- a read under a lock that moves, a write and a commit
core_by_hand : played None ((op.Begin, Value 1) ∷ (op.Begin, Value 2) ∷ (op.Read 5, Value 7) ∷ (op.Read 5, Value 4) ∷ (op.Read 5, Value 4) ∷ (op.Read 5, Value 4) ∷ (op.Read 5, Value 8) ∷ (op.Read 5, Value 4)
    ∷ (op.Write 5 9, Done) ∷ (op.Commit, Won) ∷ (op.Commit, Done) ∷ [])
    ≡ (
      (LoadLock, outcome.Going) ∷ (LoadLock, outcome.Done) ∷ (LoadWord 5, outcome.Going) ∷ (LoadLock, outcome.Going) ∷ (LoadLock, outcome.Going) ∷ (LoadLock, outcome.Going) ∷ (LoadWord 5, outcome.Going) ∷ (LoadLock, outcome.Read 8)
          ∷ (Local, outcome.Done) ∷ (Swap 4, outcome.Going) ∷ (StoreWord 5 9, outcome.Going) ∷ [],
      (4, (5, 8) ∷ []),
    )
core_by_hand = refl
