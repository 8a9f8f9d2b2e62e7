-- Schedules by shared accesses, and their events.
use Rattle.std.specs.Prelude.{◌+◌, ◌==◌, ℕ, zero, suc, List, [], ◌∷◌, ◌++◌, Option, None, Some, map, if◌then◌else◌}
use Rattle.std.specs.List.{slice_get}
use Rattle.syntax.specs.declared.thread_end.Status.{Status}
use Rattle.norec_core.specs.Accesses.{cost}
use Rattle.machine.specs.declared.event.Event.{Event}
use Rattle.machine.specs.declared.event.Event.TheVariants.{Quiet}
use Rattle.machine.specs.Threads.{access, step_with}
use Rattle.machine.specs.Worlds.{Part, World, answer, step, new_world}
use Rattle.machine.proofs.samples.Samples.{Instruction, Configuration, effects_of, begins}

pub record Replay : Type 0 where
  pub world : World Configuration
  pub count : ℕ
  pub events : List (ℕ × ℕ × Event)

-- a step that tells nothing is not listed
abbrev pub note : ℕ → ℕ → Event → List (ℕ × ℕ × Event)
note n t Quiet = []
note n t e = (n, t, e) ∷ []

abbrev pub one_of : List Instruction → Replay → ℕ → Option (Part Configuration) → Replay
one_of code r t None = r
one_of code r t (Some p) =
    let a = access (effects_of code) p.thread in
    let n = step_with (effects_of code) p.thread (answer r.world.lock r.world.words a) in
    let count = r.count + cost a in
    record { world = step (effects_of code) r.world t; count = count; events = r.events ++ note count t n.event }

abbrev pub one : List Instruction → Replay → ℕ → Replay
one code r t = one_of code r t (slice_get r.world.parts t)

-- steps of t until n accesses are made
abbrev pub until : List Instruction → ℕ → ℕ → ℕ → Replay → Replay
until code zero t n r = r
until code (suc fuel) t n r = if r.count == n then r else until code fuel t n (one code r t)

abbrev pub line : List Instruction → Replay → ℕ → ℕ → Replay
line code r t n = until code 60 t (r.count + n) r

abbrev pub lines : List Instruction → List (ℕ × ℕ) → Replay → Replay
lines code [] r = r
lines code (l ∷ ls) r = lines code ls (line code r l.0 l.1)

pub record Shown : Type 0 where
  pub events : List (ℕ × ℕ × Event)
  pub lock : ℕ
  pub words : List ℕ
  pub texts : List (List ℕ)
  pub ends : List Status

abbrev pub shown : Replay → Shown
shown r = record { events = r.events; lock = r.world.lock; words = r.world.words; texts = map (λ (p : Part Configuration). p.thread.text) r.world.parts; ends = map (λ (p : Part Configuration). p.thread.status) r.world.parts }

abbrev pub replayed : List Instruction → List ℕ → ℕ → List (ℕ × ℕ) → Shown
replayed code m0 threads ls = shown (lines code ls (record { world = new_world begins m0 threads; count = 0; events = [] }))
