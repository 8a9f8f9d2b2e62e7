-- The begins that are open in all frames: none is in a frame above the one on top, so a frame that comes or goes on top
-- changes none of the configurations that they had.
use Rattle.std.proofs.Common.{◌≡◌, ℕ, suc, ◌-◌, ◌≤◌, List, [], ◌∷◌, length, map, drop, refl, sym, ap, ap₂, subst, arith}
use Rattle.nesting.specs.Begins.{Saved}
use Rattle.bytecode.specs.Code.{Code, FunctionCode, Frame}
use Rattle.local_steps.specs.Local.{standing}
use Rattle.frames.specs.Open.{begin_configuration, AreSaved, AreCallers, MayStand}

abbrev pub AreUpTo : ℕ → List Saved → Type 0
AreUpTo n [] = Unit {0}
AreUpTo n (s ∷ ss) = (s.frames ≤ n) × AreUpTo n ss

more : (n : ℕ) (ss : List Saved) → AreUpTo n ss → AreUpTo (suc n) ss
more n [] h = tt
more n (s ∷ ss) h = ((let l = h.0 in omega arith), more n ss h.1)

saved_up_to : (f : FunctionCode) (n : ℕ) (begins : List ℕ) (ss callers : List Saved) → AreSaved f n begins ss callers → AreUpTo n callers → AreUpTo n ss
saved_up_to f n [] ss callers a h = subst (AreUpTo n) (sym a) h
saved_up_to f n (b ∷ begins) [] callers a h = absurd a
saved_up_to f n (b ∷ begins) (s ∷ ss) callers a h = ((let l = a.0.frame in omega arith), saved_up_to f n begins ss callers a.1 h)

pub callers_up_to : (code : Code) (fs : List Frame) (ss : List Saved) → AreCallers code fs ss → AreUpTo (length fs) ss
callers_up_to code [] ss h = subst (AreUpTo 0) (sym h) tt
callers_up_to code (f ∷ fs) ss h = saved_up_to h.1.function (suc (length fs)) h.1.begins ss h.0 h.1.saved (more (length fs) h.0 (callers_up_to code fs h.0 h.3))

pub all_up_to : (code : Code) (p : ℕ) (rs : List ℕ) (fs : List Frame) (ss : List Saved) → MayStand code (standing p rs fs) ss → AreUpTo (suc (length fs)) ss
all_up_to code p rs fs ss m = saved_up_to m.top.function (suc (length fs)) m.top.begins ss m.callers m.top.saved (more (length fs) m.callers (callers_up_to code fs m.callers m.below))

fewer : (n k : ℕ) → k ≤ n → suc n - k ≡ suc (n - k)
fewer n k h = omega arith

-- with one frame more, the frames of a begin are the same
pub frames_under : (n : ℕ) (f : Frame) (fs : List Frame) (s : Saved) → s.frames ≤ n → drop (suc n - s.frames) (f ∷ fs) ≡ drop (n - s.frames) fs
frames_under n f fs s h = rw (fewer n s.frames h) refl

pub restored_under : (p q : ℕ) (rs ts : List ℕ) (f : Frame) (fs : List Frame) (ss : List Saved) → AreUpTo (suc (length fs)) ss → map (begin_configuration (standing p rs (f ∷ fs))) ss ≡ map (begin_configuration (standing q ts fs)) ss
restored_under p q rs ts f fs [] h = refl
restored_under p q rs ts f fs (s ∷ ss) h = ap₂ (λ x xs. x ∷ xs) (ap (standing s.place s.registers) (frames_under (suc (length fs)) f fs s h.0)) (restored_under p q rs ts f fs ss h.1)
