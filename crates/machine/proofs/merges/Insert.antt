-- The merge that keeps equals in the order in which they took effect.
use Rattle.std.proofs.Common.{◌≡◌, ◌≢◌, ◌<◌, ◌≤◌, ◌==◌, ◌⊎◌, inl, inr, ℕ, Bool, true, false, cond, leb, List, [], ◌∷◌, ◌++◌, refl, ap, arith}
use Rattle.std.specs.List.{AllByRecursion}
use Rattle.std.proofs.lemmas.Bool.Decides.{eqb_tells, leb_tells}
use Rattle.machine.specs.inner.Invariant.{Ordered, next_snapshot}
use Rattle.machine.specs.Merges.{Entry, IsSorted, insert, key, key_of, own}
use Rattle.machine.specs.Worlds.{Record}

pub insert_sorted : (k : ℕ) (e : Entry) (es : List Entry) → k ≤ key e → IsSorted k es → IsSorted k (insert e es)
insert_sorted k e [] le o = (le, tt)
insert_sorted k e (f ∷ fs) le o = at (leb_tells (key f) (key e)) (insert_sorted (key f) e fs)
  where
    at : ((leb (key f) (key e) ≡ true) × (key f ≤ key e)) ⊎ ((leb (key f) (key e) ≡ false) × (key e < key f)) → (key f ≤ key e → IsSorted (key f) fs → IsSorted (key f) (insert e fs)) → IsSorted k (cond (leb (key f) (key e)) (f ∷ insert e fs) (e ∷ f ∷ fs))
    at (inl g) ih = rw g.0 (o.0, ih g.1 o.1)
    at (inr g) ih = let lt = g.1 in rw g.0 (le, (omega arith, o.1))

pub insert_all : (P : Entry → Type 0) (e : Entry) (es : List Entry) → P e → AllByRecursion P es → AllByRecursion P (insert e es)
insert_all P e [] h all = (h, tt)
insert_all P e (f ∷ fs) h all = at (leb (key f) (key e)) (insert_all P e fs h all.1)
  where
    at : (b : Bool) → AllByRecursion P (insert e fs) → AllByRecursion P (cond b (f ∷ insert e fs) (e ∷ f ∷ fs))
    at true ih = (all.0, ih)
    at false ih = (h, all)

pub own-insert_other : (t : ℕ) (e : Entry) (es : List Entry) → e.thread ≢ t → own t (insert e es) ≡ own t es
own-insert_other t e [] ne = at (eqb_tells e.thread t)
  where
    at : ((e.thread == t) ≡ true) × (e.thread ≡ t) ⊎ ((e.thread == t) ≡ false) × (e.thread ≢ t) → cond (e.thread == t) (e.item ∷ []) [] ≡ []
    at (inl f) = absurd (ne f.1)
    at (inr f) = rw f.0 refl
own-insert_other t e (f ∷ fs) ne = at (eqb_tells e.thread t) (leb (key f) (key e)) (own-insert_other t e fs ne)
  where
    at : ((e.thread == t) ≡ true) × (e.thread ≡ t) ⊎ ((e.thread == t) ≡ false) × (e.thread ≢ t) → (b : Bool) → own t (insert e fs) ≡ own t fs → own t (cond b (f ∷ insert e fs) (e ∷ f ∷ fs)) ≡ own t (f ∷ fs)
    at (inl g) b ih = absurd (ne g.1)
    at (inr g) true ih = ap (λ l. cond (f.thread == t) (f.item ∷ l) l) ih
    at (inr g) false ih = rw g.0 refl

-- later entries of a sorted list have no key up to this one
none_above : (t n k : ℕ) (es : List Entry) → n < k → IsSorted k es → AllByRecursion (λ (x : Record). key_of x.snapshot x.took_lock ≤ n) (own t es) → own t es ≡ []
none_above t n k [] lt o all = refl
none_above t n k (e ∷ es) lt o all = at (e.thread == t) all (none_above t n (key e) es (let up = o.0 in omega arith) o.1)
  where
    at : (b : Bool) → AllByRecursion (λ (x : Record). key_of x.snapshot x.took_lock ≤ n) (cond b (e.item ∷ own t es) (own t es)) → (AllByRecursion (λ (x : Record). key_of x.snapshot x.took_lock ≤ n) (own t es) → own t es ≡ []) → cond b (e.item ∷ own t es) (own t es) ≡ []
    at true all' ih = absurd (let up = o.0 in let le = all'.0 in omega arith)
    at false all' ih = ih all'

pub own-insert_same : (t k : ℕ) (e : Entry) (es : List Entry) → e.thread ≡ t → IsSorted k es → AllByRecursion (λ (x : Record). key_of x.snapshot x.took_lock ≤ key e) (own t es) → own t (insert e es) ≡ own t es ++ e.item ∷ []
own-insert_same t k e [] is o all = at (eqb_tells e.thread t)
  where
    at : ((e.thread == t) ≡ true) × (e.thread ≡ t) ⊎ ((e.thread == t) ≡ false) × (e.thread ≢ t) → cond (e.thread == t) (e.item ∷ []) [] ≡ e.item ∷ []
    at (inl f) = rw f.0 refl
    at (inr f) = absurd (f.1 is)
own-insert_same t k e (f ∷ fs) is o all = at (leb_tells (key f) (key e)) (own-insert_same t (key f) e fs is o.1)
  where
    tail : (b : Bool) → AllByRecursion (λ (x : Record). key_of x.snapshot x.took_lock ≤ key e) (cond b (f.item ∷ own t fs) (own t fs)) → AllByRecursion (λ (x : Record). key_of x.snapshot x.took_lock ≤ key e) (own t fs)
    tail true h = h.1
    tail false h = h

    first : (b : Bool) → own t (insert e fs) ≡ own t fs ++ e.item ∷ [] → cond b (f.item ∷ own t (insert e fs)) (own t (insert e fs)) ≡ cond b (f.item ∷ own t fs) (own t fs) ++ e.item ∷ []
    first true ih = ap (λ l. f.item ∷ l) ih
    first false ih = ih

    head : ((e.thread == t) ≡ true) × (e.thread ≡ t) ⊎ ((e.thread == t) ≡ false) × (e.thread ≢ t) → own t (f ∷ fs) ≡ [] → cond (e.thread == t) (e.item ∷ own t (f ∷ fs)) (own t (f ∷ fs)) ≡ own t (f ∷ fs) ++ e.item ∷ []
    head (inl g) none = rw (g.0, none) refl
    head (inr g) none = absurd (g.1 is)

    at : ((leb (key f) (key e) ≡ true) × (key f ≤ key e)) ⊎ ((leb (key f) (key e) ≡ false) × (key e < key f)) → (AllByRecursion (λ (x : Record). key_of x.snapshot x.took_lock ≤ key e) (own t fs) → own t (insert e fs) ≡ own t fs ++ e.item ∷ []) → own t (cond (leb (key f) (key e)) (f ∷ insert e fs) (e ∷ f ∷ fs)) ≡ own t (f ∷ fs) ++ e.item ∷ []
    at (inl g) ih = rw g.0 (first (f.thread == t) (ih (tail (f.thread == t) all)))
    at (inr g) ih = rw g.0 (head (eqb_tells e.thread t) (none_above t (key e) (key f) (f ∷ fs) g.1 (omega arith, o.1) all))

-- a thread's transactions before its last
pub keys_before : (s : ℕ) (xs : List Record) (x : Record) (e : ℕ) → Ordered s (xs ++ x ∷ []) e → AllByRecursion (λ (y : Record). key_of y.snapshot y.took_lock ≤ key_of x.snapshot x.took_lock) xs
keys_before s [] x e o = tt
keys_before s (y ∷ xs) x e o = (at y.took_lock x.took_lock (low (next_snapshot y.snapshot y.took_lock) xs o.1), keys_before (next_snapshot y.snapshot y.took_lock) xs x e o.1)
  where
    up : (n : ℕ) (b : Bool) → n ≤ next_snapshot n b
    up n true = omega arith
    up n false = omega arith

    low : (r : ℕ) (ys : List Record) → Ordered r (ys ++ x ∷ []) e → r ≤ x.snapshot
    low r [] o' = o'.0
    low r (z ∷ zs) o' = let a = o'.0 in let b = up z.snapshot z.took_lock in let c = low (next_snapshot z.snapshot z.took_lock) zs o'.1 in omega arith

    at : (b c : Bool) → next_snapshot y.snapshot b ≤ x.snapshot → key_of y.snapshot b ≤ key_of x.snapshot c
    at true true le = omega arith
    at true false le = omega arith
    at false true le = omega arith
    at false false le = omega arith
