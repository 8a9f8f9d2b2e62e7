-- The possible configurations of a code's thread, and how it returns to a begin that is open: a begin saves the
-- registers of the frame on top, the number of frames and its place, and the other frames are still there.
use Rattle.std.specs.Prelude.{◌≡◌, ℕ, suc, ◌-◌, ◌<◌, ◌≤◌, ◌^◌, List, [], ◌∷◌, ◌++◌, length, map, drop, Some, slice_get}
use Rattle.nesting.specs.Begins.{Saved}
use Rattle.bytecode.specs.Effects.{Effect, after_cancel}
use Rattle.bytecode.specs.Code.{Code, FunctionCode, Frame, Configuration, effect}
use Rattle.bytecode.specs.Valid.{Has, IsReached}
use Rattle.bytecode.specs.Beginning.{beginning}
use Rattle.local_steps.specs.Local.{AreWords, after_local}

-- what a begin saves
abbrev pub saved_in : Configuration → Saved
saved_in c = record { registers = c.registers; frames = suc (length c.frames); place = c.place }

-- the configuration at a begin, given what it saved and the callers now
abbrev pub begin_configuration : Configuration → Saved → Configuration
begin_configuration c s = record {
  place = s.place;
  registers = s.registers;
  frames = drop (suc (length c.frames) - s.frames) c.frames;
}

-- the frame of a begin is still there, with as many registers as the begin saved
pub record CanRestore (c : Configuration) (s : Saved) : Type 0 where
  pub some : 0 < s.frames
  pub there : s.frames ≤ suc (length c.frames)
  pub registers : List ℕ
  pub found : slice_get (c.registers ∷ map (λ (f : Frame). f.registers) c.frames) (suc (length c.frames) - s.frames)
      ≡ Some registers
  pub long : length s.registers ≡ length registers

-- what a begin at this place saved, in the frame of f with this number from the bottom
pub record IsSavedAt (f : FunctionCode) (number : ℕ) (place : ℕ) (s : Saved) : Type 0 where
  pub at : s.place ≡ place
  pub frame : s.frames ≡ number
  pub long : length s.registers ≡ f.registers
  pub words : AreWords s.registers

-- The open begins (what they saved, the innermost first) are those of one frame, followed by those of its callers.
abbrev pub AreSaved : FunctionCode → ℕ → List ℕ → List Saved → List Saved → Type 0
AreSaved f number [] open_begins callers = open_begins ≡ callers
AreSaved f number (b ∷ begins) [] callers = ⊥
AreSaved f number (b ∷ begins) (s ∷ ss) callers = IsSavedAt f number b s × AreSaved f number begins ss callers

-- A frame of a function of the code: a path of the function reaches its place, with open begins that saved these; it
-- has as many registers as the function, and they hold words.
pub record IsFrame (code : Code) (number place : ℕ) (registers : List ℕ) (all callers : List Saved) : Type 0 where
  pub index : ℕ
  pub function : FunctionCode
  pub begins : List ℕ
  pub has : Has code index function
  pub reached : IsReached code function place begins
  pub long : length registers ≡ function.registers
  pub words : AreWords registers
  pub saved : AreSaved function number begins all callers

-- the callers: each has the register that takes the value
abbrev pub AreCallers : Code → List Frame → List Saved → Type 0
AreCallers code [] all = all ≡ []
AreCallers code (f ∷ fs) all = (callers : List Saved) × IsFrame code (suc (length fs)) f.place f.registers all callers
    × (f.result < length f.registers) × AreCallers code fs callers

-- a thread of the code may be in this configuration, with open begins that saved these, the innermost first
pub record MayStand (code : Code) (c : Configuration) (all : List Saved) : Type 0 where
  pub callers : List Saved
  pub top : IsFrame code (suc (length c.frames)) c.place c.registers all callers
  pub below : AreCallers code c.frames callers
  pub few : length c.frames < 64

-- a thread of the code may be in this configuration
abbrev pub IsConfigurationOf : Code → Configuration → Type 0
IsConfigurationOf code c = (all : List Saved) × MayStand code c all

-- the configurations at these begins are the same, seen from c and from d
abbrev pub AreRestored : Configuration → Configuration → List Saved → Type 0
AreRestored c d ss = map (begin_configuration d) ss ≡ map (begin_configuration c) ss

-- the configuration after an instruction that neither opens nor closes a begin
abbrev pub IsSuccessor : Effect Configuration → Configuration → Type 0
IsSuccessor (Effect.Pure c) d = d ≡ c
IsSuccessor (Effect.Print piece c) d = d ≡ c
IsSuccessor (Effect.Read a k) d = (w : ℕ) × (w < 2 ^ 64) × (d ≡ k w)
IsSuccessor (Effect.Write a w c) d = d ≡ c
IsSuccessor (Effect.Irrevocable c) d = d ≡ c
IsSuccessor x d = ⊥

-- The invariants of a code's thread.
pub record BeginsStayOpen (code : Code) : Type 0 where
  pub none_yet : (t : ℕ) → t < 2 ^ 32 → MayStand code (beginning code t) []
  pub goes_on : (c d : Configuration) (ss : List Saved) → MayStand code c ss → IsSuccessor (effect code c) d →
      MayStand code d ss × AreRestored c d ss
  pub steps : (n : ℕ) (c d : Configuration) (ss : List Saved) → MayStand code c ss → after_local code n c ≡ Some d →
      MayStand code d ss × AreRestored c d ss
  -- a begin opens one more, and can be returned to
  pub opens : (c d e : Configuration) (ss : List Saved) → MayStand code c ss → effect code c ≡ Effect.Begin d e →
      MayStand code d (saved_in c ∷ ss) × (begin_configuration d (saved_in c) ≡ c) × AreRestored c d ss
  -- a commit closes the innermost begin
  pub closes : (c d : Configuration) (ss : List Saved) → MayStand code c ss → effect code c ≡ Effect.Commit d →
      (s : Saved) × (rest : List Saved) × (ss ≡ s ∷ rest) × MayStand code d rest × AreRestored c d rest
  -- a cancel closes the innermost begin, and continues where that begin says
  pub cancels : (c : Configuration) (ss : List Saved) → MayStand code c ss → effect code c ≡ Effect.Cancel →
      (s : Saved) × (rest : List Saved) × (ss ≡ s ∷ rest)
      × MayStand code (after_cancel (effect code (begin_configuration c s)) (begin_configuration c s)) rest
      × AreRestored c (after_cancel (effect code (begin_configuration c s)) (begin_configuration c s)) rest
  -- an outer cancel closes n begins, and continues where the outermost of these says
  pub cancels_outer : (n : ℕ) (c : Configuration) (ss : List Saved) → MayStand code c ss →
      effect code c ≡ Effect.CancelOuter n →
      (inner : List Saved) × (s : Saved) × (rest : List Saved) × (n ≡ suc (length inner)) × (ss ≡ inner ++ s ∷ rest)
      × MayStand code (after_cancel (effect code (begin_configuration c s)) (begin_configuration c s)) rest
      × AreRestored c (after_cancel (effect code (begin_configuration c s)) (begin_configuration c s)) rest
  -- after a return to any open begin, those outside it are open
  pub goes_back : (c : Configuration) (inner : List Saved) (s : Saved) (outer : List Saved) →
      MayStand code c (inner ++ s ∷ outer) → MayStand code (begin_configuration c s) outer
      × AreRestored c (begin_configuration c s) outer
      × CanRestore c s
      × ((d : Configuration) × (e : Configuration) × (effect code (begin_configuration c s) ≡ Effect.Begin d e))
  -- a thread ends only if no begin is open
  pub ends : (c : Configuration) (ss : List Saved) → MayStand code c ss → effect code c ≡ Effect.End → ss ≡ []
