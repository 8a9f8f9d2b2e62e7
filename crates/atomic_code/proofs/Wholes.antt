-- A whole thread, from transaction to transaction.
use Rattle.std.proofs.Common.{◌≡◌, ◌+◌, ◌-◌, ◌<◌, ◌≤◌, ℕ, zero, suc, true, false, List, [], ◌∷◌, ◌++◌, Option, None, refl, sym, ◌∙◌, ap, subst, length, drop, arith}
use Rattle.std.specs.Prelude.{Vec, slice_get}
use Rattle.std.specs.List.{AllByRecursion}
use Rattle.std.proofs.lemmas.List.{append-nil, length-append}
use Rattle.syntax.specs.declared.thread_end.Status.TheVariants.{Running}
use Rattle.syntax.specs.Behaviours.{Memory, IsMemory}
use Rattle.nesting.specs.Begins.{Saved}
use Rattle.bytecode.specs.Code.{Code, Configuration, effect}
use Rattle.bytecode.specs.Beginning.{beginning}
use Rattle.bytecode.specs.Sequential.{Sequential, next, steps, start, outcome_of, end_of}
use Rattle.atomic_code.specs.declared.context.Signal.{Signal}
use Rattle.atomic_code.specs.declared.context.Signal.TheVariants.{Goes, Leaves, Wants}
use Rattle.atomic_code.specs.Threads.{AtomicThread, RunsAtomically, StandsAtomically, meaning_thread}
use Rattle.atomic_code.specs.Carried.{finding, to_find}
use Rattle.atomic_code.specs.inner.Making.{HasMemoryAtHand, after_step}
use Rattle.atomic_code.specs.inner.Carrying.{ComesTo}
use Rattle.atomic_code.specs.inner.Standing.{HasComeTo}
use Rattle.atomic_code.proofs.Counting.{steps_add}
use Rattle.atomic_code.proofs.Growing.{after_lefts, with_founds, steps_after, steps_with, steps_stay, over_stays, want_stays}

-- the one at hand comes first of those still to be found
next_found : (fs : List Memory) (n : ℕ) → to_find {S = Saved} None (slice_get fs n) ++ drop (suc n) fs ≡ drop n fs
next_found [] zero = refl
next_found [] (suc n) = refl
next_found (f ∷ fs) zero = refl
next_found (f ∷ fs) (suc n) = next_found fs n

none_found : (fs : List Memory) (n : ℕ) → slice_get fs n ≡ None → drop n fs ≡ []
none_found [] zero e = refl
none_found [] (suc n) e = refl
none_found (f ∷ fs) zero e = absurd (cc)
none_found (f ∷ fs) (suc n) e = none_found fs n e

pub memory_found : (bounds : List ℕ) (fs : List Memory) (n : ℕ) → AllByRecursion (IsMemory bounds) fs → HasMemoryAtHand bounds (slice_get fs n)
memory_found bounds [] n h = tt
memory_found bounds (f ∷ fs) zero h = h.0
memory_found bounds (f ∷ fs) (suc n) h = memory_found bounds fs n h.1

-- the outcome after all, where the thread goes no further
finishes : (code : Code) (s t : Sequential Configuration) (most made : ℕ) → steps (effect code) made s ≡ t → made ≤ most → (made < most → next (effect code) t ≡ t) → outcome_of (steps (effect code) most s) ≡ outcome_of t
finishes code s t most made e few stays = ap outcome_of (by (most - made) (let h : made + (most - made) ≡ most = omega arith in h))
  where
    by : (n : ℕ) → made + n ≡ most → steps (effect code) most s ≡ t
    by zero h = ap (λ k. steps (effect code) k s) (let q : most ≡ made = omega arith in q) ∙ e
    by (suc n) h = ap (λ k. steps (effect code) k s) (sym h) ∙ steps_add (effect code) made (suc n) s t e ∙ steps_stay (effect code) (suc n) t (stays (omega arith))

module _ (code : Code) (t : ℕ) (fs : List Memory) (most : ℕ) where
  abbrev first : Sequential Configuration
  first = start (beginning code t) fs

  pub comes_to_first : (k : AtomicThread) → k.configuration ≡ beginning code t → k.open_in ≡ None → k.text ≡ [] → k.status ≡ Running → RunsAtomically code k → HasComeTo code t fs most 0 [] k
  comes_to_first k c o x s runs = record {
    few = omega arith;
    does = sym (same k c o x s);
    outside = o;
    running = s;
    runs = runs;
  }
    where
      same : (k : AtomicThread) → k.configuration ≡ beginning code t → k.open_in ≡ None → k.text ≡ [] → k.status ≡ Running → meaning_thread code fs [] false k ≡ first
      same k c o x s = ap (meaning_thread code fs [] false) (all k (record { configuration = beginning code t; open_in = None; text = []; status = Running }) c o x s)
        where
          all : (a b : AtomicThread) → a.configuration ≡ b.configuration → a.open_in ≡ b.open_in → a.text ≡ b.text → a.status ≡ b.status → a ≡ b
          all a b c d e f =
              ap (λ z. record { configuration = z; open_in = a.open_in; text = a.text; status = a.status }) c
              ∙ ap (λ z. record { configuration = b.configuration; open_in = z; text = a.text; status = a.status }) d
              ∙ ap (λ z. record { configuration = b.configuration; open_in = b.open_in; text = z; status = a.status }) e
              ∙ ap (λ z. record { configuration = b.configuration; open_in = b.open_in; text = b.text; status = z }) f

  module _ {A : Type 0} (made : ℕ) (ls : List Memory) (k : AtomicThread) (h : HasComeTo code t fs most made ls k) (more : ℕ) (s : Signal A) (l : AtomicThread) (x : ComesTo code (slice_get fs (length ls)) (most - made) k more s l) where
    abbrev rest : List Memory
    rest = drop (suc (length ls)) fs

    abbrev hand : Option Memory
    hand = slice_get fs (length ls)

    -- where it stood, said by the memory at hand
    from : meaning_thread code (drop (length ls) fs) ls false k ≡ after_lefts (effect code) ls (with_founds (effect code) rest (finding code hand k))
    from = ap (λ f. meaning_thread code f ls false k) (sym (next_found fs (length ls)) ∙ ap (λ o. to_find o hand ++ rest) (sym h.outside))
        ∙ ap (λ z. meaning_thread code (to_find k.open_in hand ++ rest) z false k) (sym (append-nil ls))

    few_more : made + more ≤ most
    few_more = let a = x.few in let b = h.few in omega arith

    -- where it stands, if it wants nothing
    to : (after_step code hand s l).wants ≡ false → steps (effect code) (made + more) first ≡ after_lefts (effect code) ls (with_founds (effect code) rest (after_step code hand s l))
    to e = steps_add (effect code) made more first _ h.does ∙ ap (steps (effect code) more) from ∙ steps_after (effect code) more ls (with_founds (effect code) rest (finding code hand k))
        ∙ ap (after_lefts (effect code) ls) (steps_with (effect code) more rest (finding code hand k) (ap (λ (z : Sequential Configuration). z.wants) x.does ∙ e) ∙ ap (with_founds (effect code) rest) x.does)

  module _ {A : Type 0} (made : ℕ) (ls : List Memory) (k : AtomicThread) (h : HasComeTo code t fs most made ls k) (more : ℕ) (l : AtomicThread) where
    pub goes_outcome : ComesTo {A = A} code (slice_get fs (length ls)) (most - made) k more Goes l → outcome_of (steps (effect code) most first) ≡ record { lefts = ls; text = l.text; end = end_of false l.status }
    goes_outcome x =
        finishes code first _ most (made + more) (to made ls k h more Goes l x refl) (few_more made ls k h more Goes l x)
        (λ lt. over_stays (effect code) _ (λ e. x.pauses (let a = h.few in omega arith) (record { running = e; nothing_left = refl; wants_none = refl })))
        ∙ ap (λ z. record { lefts = z; text = l.text; end = end_of false l.status }) (append-nil ls)

    pub wants_outcome : ComesTo {A = A} code (slice_get fs (length ls)) (most - made) k more Wants l → outcome_of (steps (effect code) most first) ≡ record { lefts = ls; text = l.text; end = end_of true l.status }
    wants_outcome x =
        finishes code first (after_lefts (effect code) ls (meaning_thread code [] [] true l)) most (made + more)
        (steps_add (effect code) made more first _ h.does ∙ ap (steps (effect code) more) none_from ∙ steps_after (effect code) more ls (finding code (slice_get fs (length ls)) k) ∙ ap (after_lefts (effect code) ls) x.does)
        (few_more made ls k h more Wants l x)
        (λ lt. want_stays (effect code) _ refl)
        ∙ ap (λ z. record { lefts = z; text = l.text; end = end_of true l.status }) (append-nil ls)
      where
        none_from : meaning_thread code (drop (length ls) fs) ls false k ≡ after_lefts (effect code) ls (finding code (slice_get fs (length ls)) k)
        none_from =
            ap (λ f. meaning_thread code f ls false k) (none_found fs (length ls) x.left ∙ ap (λ m. to_find {S = Saved} None m) (sym x.left) ∙ ap (λ o. to_find o (slice_get fs (length ls))) (sym h.outside))
            ∙ ap (λ z. meaning_thread code (to_find k.open_in (slice_get fs (length ls))) z false k) (sym (append-nil ls))

    module _ (left : Vec ℕ A) (x : ComesTo code (slice_get fs (length ls)) (most - made) k more (Leaves left) l) where
      pub over_outcome : (l.status ≡ Running → ⊥) → outcome_of (steps (effect code) most first) ≡ record { lefts = ls ++ left.items ∷ []; text = l.text; end = end_of false l.status }
      over_outcome not_running = finishes code first _ most (made + more) (to made ls k h more (Leaves left) l x refl) (few_more made ls k h more (Leaves left) l x) (λ lt. over_stays (effect code) _ not_running)

      pub goes_on : l.status ≡ Running → HasComeTo code t fs most (made + more) (ls ++ left.items ∷ []) l
      goes_on running = record {
        few = few_more made ls k h more (Leaves left) l x;
        does = to made ls k h more (Leaves left) l x refl ∙ ap (λ n. meaning_thread code (drop n fs) (ls ++ left.items ∷ []) false l) (let e : suc (length ls) ≡ length (ls ++ left.items ∷ []) = omega (arith, length-append ls (left.items ∷ [])) in e);
        outside = x.left.1;
        running = running;
        runs = subst (StandsAtomically code l) running x.of;
      }
