-- The picture of a replay.
use Rattle.std.specs.Prelude.{ℕ, List, [], ◌∷◌, Option, Some, flat_map, if◌then◌else◌}
use Rattle.std.specs.Prelude.{slice_get}
use Rattle.syntax.specs.declared.thread_end.Status.{Status}
use Rattle.syntax.specs.declared.thread_end.Status.TheVariants.{Running}
use Rattle.bytecode.specs.Code.{Code, Instr}
use Rattle.machine.specs.declared.event.StepShown.{StepShown}
use Rattle.report.specs.Timeline.{step_words}
use Rattle.picture.specs.declared.step.LocalAction.{LocalAction}
use Rattle.picture.specs.declared.step.LocalAction.TheVariants as action
use Rattle.picture.specs.Figures.{xml}
use Rattle.picture.specs.Glyphs.{DrawnStep, is_drawn}
use Rattle.picture.specs.Pictures.{IsPicture}

-- the action of an instruction, if a local step of it has a glyph
abbrev pub action_of : Option Instr → LocalAction
action_of (Some (Instr.Begin to)) = action.Begin
action_of (Some Instr.Commit) = action.Commit
action_of (Some (Instr.PrintText k)) = action.Print
action_of (Some (Instr.PrintNumber t a)) = action.Print
action_of _ = action.Other

-- the action of the instruction at a thread's program counter; a thread that has terminated has none
abbrev pub action_at : Code → Status → ℕ → LocalAction
action_at code Running place = action_of (slice_get code.instructions place)
action_at code _ place = action.Other

-- a step as it is drawn: its title is its line in the timeline
abbrev pub drawn_step : Code → ℕ × ℕ × StepShown → DrawnStep
drawn_step code s = record {
  accesses = s.0;
  thread = s.1;
  access = s.2.access;
  happening = s.2.event;
  title = xml (step_words code s);
}

-- a step, if it is drawn
abbrev pub if_drawn : (from : ℕ) → Code → ℕ × ℕ × StepShown → List DrawnStep
if_drawn from code s =
    if is_drawn from s.0 s.2.access s.2.event (action_at code s.2.status s.2.place) then drawn_step code s ∷ []
    else []

-- a text is a picture of these steps of a source, from an access on: of those that are drawn
abbrev pub IsDrawn : (source : List ℕ) → (from : ℕ) → Code → List (ℕ × ℕ × StepShown) → List ℕ → Type 0
IsDrawn source from code steps svg = IsPicture source (flat_map (if_drawn from code) steps) svg
