-- Reports of worlds.
use Rattle.std.specs.Prelude.{◌==◌, ℕ, suc, List, [], ◌∷◌, Option, None, Some, map, string_bytes, length, if◌then◌else◌}
use Rattle.std.specs.declared.string.String.{String}
use Rattle.syntax.specs.declared.thread_end.Status.{Status}
use Rattle.syntax.specs.declared.thread_end.Status.TheVariants.{Running, Ended as HasEnded, Trapped as HasTrapped}
use Rattle.bytecode.specs.Code.{Configuration}
use Rattle.machine.specs.Worlds.{Part}
use Rattle.world.specs.declared.report.WorldEnd.{WorldEnd}
use Rattle.world.specs.declared.report.WorldEnd.TheVariants as end
use Rattle.world.specs.declared.stop.StopReason.{StopReason}
use Rattle.world.specs.declared.stop.StopReason.TheVariants.{OutOfMemory, SequenceUsedUp, Stranger}
use Rattle.world.specs.declared.stop.WorldStop.{WorldStop}
use Rattle.world.specs.Simulations.{Simulation, world_of}

-- the reported end of a thread with this status
abbrev pub end_of : Status → WorldEnd
end_of Running = end.Running
end_of HasEnded = end.Ended
end_of (HasTrapped cause) = end.Trapped cause

-- the reported end of a thread with this status if its next step was not made
abbrev pub end_by : StopReason → Status → WorldEnd
end_by OutOfMemory status = end.OutOfMemory
end_by SequenceUsedUp status = end.SequenceUsedUp
end_by Stranger status = end_of status

-- the reported end of thread t if the next step of a thread was not made
abbrev pub end_with : Option (ℕ × StopReason) → ℕ → Status → WorldEnd
end_with None t status = end_of status
end_with (Some u) t status = if u.0 == t then end_by u.1 status else end_of status

-- the reported end of each thread from this number on, and the text it has printed
abbrev pub parts_shown : Option (ℕ × StopReason) → ℕ → List (Part Configuration) → List (WorldEnd × List ℕ)
parts_shown stop t [] = []
parts_shown stop t (p ∷ ps) = (end_with stop t p.thread.status, p.thread.text) ∷ parts_shown stop (suc t) ps

abbrev pub threads_shown : Option (ℕ × StopReason) → Simulation → List (WorldEnd × List ℕ)
threads_shown stop s = parts_shown stop 0 (world_of s).parts

-- the end and printed text of each thread, as in a report
abbrev pub threads_of : {A : Type 0} → List (WorldEnd × String A) → List (WorldEnd × List ℕ)
threads_of {A} rs = map (λ (r : WorldEnd × String A). (r.0, string_bytes r.1)) rs

-- the step that was not made, after those of a world
abbrev pub stop_with : Option (ℕ × StopReason) → Simulation → Option WorldStop
stop_with None s = None
stop_with (Some u) s = Some (record { step = length s.trace; reason = u.1 })
