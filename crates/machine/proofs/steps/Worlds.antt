-- Each step of the machine keeps the invariant, whichever thread makes it, and so does each list of steps.
use Rattle.std.proofs.Common.{◌≡◌, ◌≢◌, ◌<◌, ◌≤◌, ◌%◌, ◌==◌, ◌⊎◌, inl, inr, ℕ, zero, suc, true, false, List, [], ◌∷◌, Option, None, Some, refl, sym, ◌∙◌, ap, subst, length, slice_get, set, arith}
use Rattle.std.proofs.lemmas.Bool.Decides.{eqb_tells}
use Rattle.std.proofs.lemmas.Option.{slice_get_within}
use Rattle.std.proofs.Math.ListN.{length-set}
use Rattle.bytecode.specs.Effects.{Effect, FitsCells}
use Rattle.machine.specs.inner.Invariant.{History, Invariant, StepOk, PartOk}
use Rattle.machine.specs.Threads.{access, step_with}
use Rattle.machine.specs.Worlds.{Part, World, answer, lock_after, part_after, run, step, step_of, words_after}
use Rattle.machine.proofs.parts.Frame.{frame}
use Rattle.machine.proofs.steps.PartSteps.{part_step}

pub get-set_same : {X : Type 0} (xs : List X) (t : ℕ) (x y : X) → slice_get xs t ≡ Some y → slice_get (set xs t x) t ≡ Some x
get-set_same [] t x y e = absurd (cc)
get-set_same (z ∷ xs) zero x y e = refl
get-set_same (z ∷ xs) (suc t) x y e = get-set_same xs t x y e

pub get-set_other : {X : Type 0} (xs : List X) (t u : ℕ) (x : X) → u ≢ t → slice_get (set xs t x) u ≡ slice_get xs u
get-set_other [] t u x ne = refl
get-set_other (z ∷ xs) zero zero x ne = absurd (ne refl)
get-set_other (z ∷ xs) zero (suc u) x ne = refl
get-set_other (z ∷ xs) (suc t) zero x ne = refl
get-set_other (z ∷ xs) (suc t) (suc u) x ne = get-set_other xs t u x (λ e. ne (ap suc e))

module _ {C : Type 0} (code : C → Effect C) (bounds : List ℕ) (init : ℕ → C) (m0 : List ℕ) (fits : FitsCells code bounds) where
  -- the world after one part, the lock and the words changed
  module _ (w : World C) (h : History) (t : ℕ) (p q : Part C) (lock : ℕ) (words : List ℕ) (here : slice_get w.parts t ≡ Some p) (v : Invariant code bounds init m0 h w) (k : StepOk code bounds t (init t) h lock words q) where
    len : length (set w.parts t q) ≡ length w.parts
    len = length-set w.parts t q

    within : t < length w.parts
    within = slice_get_within w.parts t p here

    holder_in : (u : ℕ) → k.after.holder ≡ Some u → u < length (set w.parts t q)
    holder_in u e = at (eqb_tells u t)
      where
        at : ((u == t) ≡ true) × (u ≡ t) ⊎ ((u == t) ≡ false) × (u ≢ t) → u < length (set w.parts t q)
        at (inl f) = let same = f.1 in omega (arith, len, within)
        at (inr f) = let old = v.holder u (k.moves.held u f.1 e) in omega (arith, len)

    owner_in : (s : ℕ) → s % 2 ≡ 0 → s < k.after.top → k.after.owner s < length (set w.parts t q)
    owner_in s even lt = at (cases)
      where
        cases : (s < h.top) ⊎ (h.top ≤ s)
        cases = grind arith

        at : (s < h.top) ⊎ (h.top ≤ s) → k.after.owner s < length (set w.parts t q)
        at (inl l) = let old = v.owners s even l in let same = k.moves.owner s l in omega (arith, len)
        at (inr g) = let same = k.moves.new s even g lt in omega (arith, len, within)

    each_part : (u : ℕ) (r : Part C) → slice_get (set w.parts t q) u ≡ Some r → PartOk code bounds k.after u (init u) r
    each_part u r e = at (eqb_tells u t)
      where
        at : ((u == t) ≡ true) × (u ≡ t) ⊎ ((u == t) ≡ false) × (u ≢ t) → PartOk code bounds k.after u (init u) r
        at (inl f) =
            let same : Some q ≡ Some r = sym (get-set_same w.parts t q p here) ∙ ap (slice_get (set w.parts t q)) (sym f.1) ∙ e in
            let is : q ≡ r = cc in
            subst (λ n. PartOk code bounds k.after n (init n) r) (sym f.1) (subst (PartOk code bounds k.after t (init t)) is k.part)
        at (inr f) = frame code bounds t u h k.after (init u) r v.history.even v.history.lock f.1 k.moves (v.parts u r (sym (get-set_other w.parts t u q f.1) ∙ e))

    pub changed : Invariant code bounds init m0 k.after (record { lock = lock; words = words; parts = set w.parts t q })
    changed = record {
      history = k.history;
      lock = k.same_lock;
      first = k.moves.mem 0 (omega arith) ∙ v.first;
      holder = holder_in;
      owners = owner_in;
      parts = each_part;
    }

  -- one step of one thread
  pub step_invariant : (w : World C) (h : History) (t : ℕ) → Invariant code bounds init m0 h w → (k : History) × Invariant code bounds init m0 k (step code w t)
  step_invariant w h t v = at (slice_get w.parts t) refl
    where
      at : (o : Option (Part C)) → slice_get w.parts t ≡ o → (k : History) × Invariant code bounds init m0 k (step_of code w t o)
      at None e = (h, v)
      at (Some p) e =
          let a = access code p.thread in
          let made = part_step code bounds t (init t) h w.words fits v.history p (v.parts t p e) in
          let moved = subst (λ l. StepOk code bounds t (init t) h (lock_after l a) (words_after w.words a) (part_after w.words p (step_with code p.thread (answer l w.words a)))) (sym v.lock) made in
          (moved.after, changed w h t p (part_after w.words p (step_with code p.thread (answer w.lock w.words a))) (lock_after w.lock a) (words_after w.words a) e v moved)

  -- any list of steps
  pub run_invariant : (ts : List ℕ) (w : World C) (h : History) → Invariant code bounds init m0 h w → (k : History) × Invariant code bounds init m0 k (run code ts w)
  run_invariant [] w h v = (h, v)
  run_invariant (t ∷ ts) w h v = let s = step_invariant w h t v in run_invariant ts (step code w t) s.0 s.1
