-- Memories stay memories under writes of words.
use Rattle.std.proofs.Common.{◌≡◌, ◌<◌, ◌==◌, ℕ, zero, suc, Bool, true, false, cond, List, [], ◌∷◌, ◌++◌, Some, ap, subst, length, set, refl, slice_get, slice_index}
use Rattle.syntax.specs.Behaviours.{IsMemory}
use Rattle.write_log.specs.Overlay.{overlay, with_write}
use Rattle.machine.specs.inner.Invariant.{AreWords, IsLog}
use Rattle.write_log.proofs.Overlay.{distinct-put}

-- a memory has a word for each cell
pub sized : (bounds m : List ℕ) → IsMemory bounds m → length m ≡ length bounds
sized [] [] is = refl
sized [] (w ∷ m) is = absurd is
sized (b ∷ bounds) [] is = absurd is
sized (b ∷ bounds) (w ∷ m) is = ap suc (sized bounds m is.1)

pub memory-set : (bounds m : List ℕ) (a v : ℕ) → IsMemory bounds m → v < slice_index bounds a → IsMemory bounds (set m a v)
memory-set [] [] a v is lt = is
memory-set [] (w ∷ m) a v is lt = absurd is
memory-set (b ∷ bounds) [] a v is lt = absurd is
memory-set (b ∷ bounds) (w ∷ m) zero v is lt = (lt, is.1)
memory-set (b ∷ bounds) (w ∷ m) (suc a) v is lt = (is.0, memory-set bounds m a v is.1 lt)

pub memory-overlay : (bounds m : List ℕ) (ps : List (ℕ × ℕ)) → IsMemory bounds m → AreWords bounds ps → IsMemory bounds (overlay m ps)
memory-overlay bounds m [] is ws = is
memory-overlay bounds m (p ∷ ps) is ws = memory-overlay bounds (set m p.0 p.1) ps (memory-set bounds m p.0 p.1 is ws.0) ws.1

words-put : (bounds : List ℕ) (a v : ℕ) (ps : List (ℕ × ℕ)) → v < slice_index bounds a → AreWords bounds ps → AreWords bounds (with_write a v ps)
words-put bounds a v [] lt ws = (lt, tt)
words-put bounds a v (p ∷ ps) lt ws = at (p.0 == a) (words-put bounds a v ps lt ws.1)
  where
    at : (b : Bool) → AreWords bounds (with_write a v ps) → AreWords bounds (cond b ((a, v) ∷ ps) (p ∷ with_write a v ps))
    at true ih = (lt, ws.1)
    at false ih = (ws.0, ih)

pub log-put : (bounds : List ℕ) (a v : ℕ) (ps : List (ℕ × ℕ)) → v < slice_index bounds a → IsLog bounds ps → IsLog bounds (with_write a v ps)
log-put bounds a v ps lt log = (distinct-put a v ps log.0, words-put bounds a v ps lt log.1)

pub words-append : (bounds : List ℕ) (ps : List (ℕ × ℕ)) (q : ℕ × ℕ) → AreWords bounds ps → q.1 < slice_index bounds q.0 → AreWords bounds (ps ++ q ∷ [])
words-append bounds [] q ws lt = (lt, tt)
words-append bounds (p ∷ ps) q ws lt = (ws.0, words-append bounds ps q ws.1 lt)

pub word-at : (bounds : List ℕ) (ps : List (ℕ × ℕ)) (i : ℕ) (q : ℕ × ℕ) → AreWords bounds ps → slice_get ps i ≡ Some q → q.1 < slice_index bounds q.0
word-at bounds [] i q ws e = absurd (cc)
word-at bounds (p ∷ ps) zero q ws e = let r : p ≡ q = cc in subst (λ (x : ℕ × ℕ). x.1 < slice_index bounds x.0) r ws.0
word-at bounds (p ∷ ps) (suc i) q ws e = word-at bounds ps i q ws.1 e
