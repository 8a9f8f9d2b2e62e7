-- The glyphs of a picture: which steps have one, and how it is spelled.
use Rattle.std.specs.Prelude.{ℕ, ◌+◌, ◌==◌, List, ◌∷◌, ◌++◌, Bool, true, false, ◌||◌, ◌&&◌, nat_le, nat_lt, codes}
use Rattle.std.specs.Prelude.{if◌then◌else◌}
use Rattle.norec_core.specs.declared.step.Access.{Access}
use Rattle.norec_core.specs.declared.step.Access.TheVariants.{Local, LoadLock, LoadWord, Swap, StoreWord, StoreLock}
use Rattle.picture.specs.declared.step.LocalAction.{LocalAction}
use Rattle.picture.specs.declared.step.LocalAction.TheVariants.{Begin, Commit, Print, Other}
use Rattle.machine.specs.declared.event.Event.{Event}
use Rattle.machine.specs.declared.event.Event.TheVariants.{Quiet, Commit as Committed, Abort, Cancel, Trap}
use Rattle.picture.specs.Figures.{Figure, Symbol, figures_text}

abbrev pub is_access : Access → Bool
is_access Local = false
is_access LoadLock = true
is_access (LoadWord _) = true
is_access (Swap _) = true
is_access (StoreWord _ _) = true
is_access (StoreLock _) = true

abbrev pub is_eventful : Event → Bool
is_eventful Quiet = false
is_eventful Committed = true
is_eventful Abort = true
is_eventful Cancel = true
is_eventful (Trap _) = true

abbrev pub has_glyph_alone : LocalAction → Bool
has_glyph_alone Begin = true
has_glyph_alone Commit = true
has_glyph_alone Print = true
has_glyph_alone Other = false

-- a step has a glyph if it is an access, if it has an event, or if it begins, commits or prints
abbrev pub is_noted : Access → Event → LocalAction → Bool
is_noted access happening action = is_access access || is_eventful happening || has_glyph_alone action

-- the first access that is drawn: if it is 0, all is drawn from the beginning, even before the first access
abbrev pub first_drawn : (from : ℕ) → ℕ
first_drawn from = if from == 0 then 1 else from

-- a step after so many accesses is drawn if they reach the first one, and it is one of 400 or directly follows them
abbrev pub is_among : (from accesses : ℕ) → Bool
is_among from accesses = nat_le from accesses && nat_lt accesses (first_drawn from + 400)

-- a step is drawn if it has a glyph and is made among these
abbrev pub is_drawn : (from accesses : ℕ) → Access → Event → LocalAction → Bool
is_drawn from accesses access happening action = is_among from accesses && is_noted access happening action

-- a step that is drawn: how many accesses all threads had made with it, its thread, its access, its event, and the
-- title of its glyph
pub record DrawnStep : Type 0 where
  pub accesses : ℕ
  pub thread : ℕ
  pub access : Access
  pub happening : Event
  pub title : List ℕ

-- a step's glyph: the drawing of the step
pub record Glyph : Type 0 where
  pub step : DrawnStep
  pub figures : List Figure

-- the height of a glyph: that of its symbol, which is drawn first
abbrev pub height_of : List Figure → ℕ
height_of (Symbol name x y ∷ figures) = y
height_of _ = 0

-- a group of a picture, with its title
abbrev pub group_text : List ℕ → List ℕ → List ℕ
group_text title drawn = codes "<g><title>" ++ title ++ codes "</title>\n" ++ drawn ++ codes "</g>\n"

abbrev pub glyph_text : Glyph → List ℕ
glyph_text g = group_text g.step.title (figures_text g.figures)
