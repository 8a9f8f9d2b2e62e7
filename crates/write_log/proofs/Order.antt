-- An order of pairs by cell: what it tells of them, and what each change leaves.
use Rattle.std.proofs.Common.{◌≡◌, ◌≢◌, ◌<◌, ◌≤◌, ◌+◌, ◌-◌, ◌/◌, ◌^◌, ◌==◌, ℕ, zero, suc, List, [], ◌∷◌, ◌++◌, Option, None, Some, Result, Ok, Err, ◌⊎◌, inl, inr, refl, sym, ◌∙◌, ap, subst, length, get_or, set, min, max, arith, eq-eqb}
use Rattle.std.specs.List.{position, insert, remove}
use Rattle.std.proofs.lemmas.Bool.{le-ltb, lt-ltb, ne_eqb, cases_eq, cases_lt, cases_order}
use Rattle.std.proofs.lemmas.List.{get_or-set_same, get_or-set_other, get_or_append_left, get_or_push, length_push, set-set, set-get_or}
use Rattle.std.proofs.lemmas.List.Edits.{length-insert, get_or-insert_below, get_or-insert_at, get_or-insert_above, insert_end, length-remove, get_or-remove_below, get_or-remove_above}
use Rattle.std.proofs.lemmas.List.Sums.{position_or_len_is}
use Rattle.std.proofs.Math.Nat.{pow-suc}
use Rattle.write_log.specs.Overlay.{Lacks, IsDistinct}
use Rattle.write_log.specs.inner.Order.{IsPlace, IsFound, IsRising, IsOrderOf, AreOrdered, by_cell, with_entry, IsNumbered, AreBetween, IsAbove, IsSearched, IsIndexed}
use Rattle.write_log.proofs.Indices.{lacks_all, lacks_at}

-- ---- searching

-- half of what was left has a digit fewer
pub halve : (s t d : ℕ) → 0 < s → t ≤ s / 2 → s < 2 ^ d → (e : ℕ) × (t < 2 ^ e) × (e + 1 ≡ d)
halve s t zero pos half lt = absurd (omega arith)
halve s t (suc e) pos half lt = let p = pow-suc 2 e in (e, omega arith, omega arith)

-- all below one that is below are below, and all above one that is above are above
pub below_at : (order : List (ℕ × ℕ)) (m a : ℕ) → IsRising order → m < length order → (get_or order m (0, 0)).0 < a → (j : ℕ) → j < m + 1 → (get_or order j (0, 0)).0 < a
below_at order m a up lt here j le = at (cases_eq j m)
  where
    at : (j ≡ m) ⊎ (j ≢ m) → (get_or order j (0, 0)).0 < a
    at (inl e) = rw e here
    at (inr ne) = let r = up j m (omega arith) lt in omega arith

pub above_at : (order : List (ℕ × ℕ)) (m a : ℕ) → IsRising order → m < length order → a < (get_or order m (0, 0)).0 → (j : ℕ) → m ≤ j → j < length order → a < (get_or order j (0, 0)).0
above_at order m a up lt here j le inside = at (cases_eq j m)
  where
    at : (j ≡ m) ⊎ (j ≢ m) → a < (get_or order j (0, 0)).0
    at (inl e) = rw e here
    at (inr ne) = let r = up m j (omega arith) inside in omega arith

-- as far apart as two stand in the order, so far apart are they at least
gap : (order : List (ℕ × ℕ)) (i k : ℕ) → IsRising order → i + k < length order → (get_or order i (0, 0)).0 + k ≤ (get_or order (i + k) (0, 0)).0
gap order i zero up lt = let e : i + 0 ≡ i = omega arith in rw e (omega arith)
gap order i (suc k) up lt =
    let r = gap order i k up (omega arith) in
    let s = up (i + k) (i + suc k) (omega arith) lt in
    omega (arith, r, s)

gap_first : (order : List (ℕ × ℕ)) (j : ℕ) → IsRising order → j < length order → (get_or order 0 (0, 0)).0 + j ≤ (get_or order j (0, 0)).0
gap_first order zero up lt = omega arith
gap_first order (suc j) up lt =
    let r = gap_first order j up (omega arith) in
    let s = up j (suc j) (omega arith) lt in
    omega (arith, r, s)

-- before so many, all are below a cell, and from so many on above it
pub below_few : (order : List (ℕ × ℕ)) (least above a j : ℕ) → IsRising order → AreBetween least above order → j < length order - (above - a) → (get_or order j (0, 0)).0 < a
below_few order least above a j up b lt =
    let k = length order - 1 - j in
    let e : j + k ≡ length order - 1 = omega arith in
    let r = gap order j k up (omega arith) in
    let s = (b (j + k) (omega arith)).1 in
    omega (arith, r, s, e)

pub above_few : (order : List (ℕ × ℕ)) (least above a j : ℕ) → IsRising order → AreBetween least above order → (a - least) + 1 ≤ j → j < length order → a < (get_or order j (0, 0)).0
above_few order least above a j up b le lt =
    let r = gap_first order j up lt in
    let s = (b 0 (omega arith)).0 in
    omega (arith, r, s)

-- as many as there are lie between the bounds
pub spread : (order : List (ℕ × ℕ)) (least above : ℕ) → IsRising order → AreBetween least above order → 0 < length order → least + (length order - 1) < above
spread order least above up b some =
    let r = gap_first order (length order - 1) up (omega arith) in
    let s = (b 0 some).0 in
    let t = (b (length order - 1) (omega arith)).1 in
    omega (arith, r, s, t)

-- what is left to be halved begins before it ends
pub starts : (order : List (ℕ × ℕ)) (least above a : ℕ) → IsRising order → AreBetween least above order → length order - (above - a) ≤ min (length order) ((a - least) + 1)
starts order least above a up b = at (cases_lt 0 (length order))
  where
    at : (0 < length order) ⊎ (length order ≤ 0) → length order - (above - a) ≤ min (length order) ((a - least) + 1)
    at (inl some) = let s = spread order least above up b some in omega (arith, s)
    at (inr none) = omega arith

-- where there are as many as numbers between the bounds, each number has its place
pub dense : (order : List (ℕ × ℕ)) (least above a : ℕ) → IsRising order → AreBetween least above order → least ≤ a → a < above → above - least ≤ length order → IsSearched a order (Ok (a - least))
dense order least above a up b lo hi many =
    let k = a - least in
    let m = length order - 1 - k in
    let e : k + m ≡ length order - 1 = omega arith in
    let r = gap_first order k up (omega arith) in
    let s = (b 0 (omega arith)).0 in
    let t = gap order k m up (omega arith) in
    let u = (b (k + m) (omega arith)).1 in
    (omega arith, omega (arith, r, s, t, u, e))

-- ---- what an order tells of its pairs

pub place_at : (ps order : List (ℕ × ℕ)) (k i : ℕ) → IsOrderOf ps order → k < length order → (get_or order k (0, 0)).1 ≡ i → (get_or ps i (0, 0)).0 ≡ (get_or order k (0, 0)).0
place_at ps order k i o lt e = rw e at (o.here k lt).1

one_entry : (order : List (ℕ × ℕ)) (k m : ℕ) → IsRising order → k < length order → m < length order → (get_or order k (0, 0)).0 ≡ (get_or order m (0, 0)).0 → k ≡ m
one_entry order k m up lk lm e = at (cases_order k m)
  where
    at : (k ≡ m) ⊎ ((k < m) ⊎ (m < k)) → k ≡ m
    at (inl f) = f
    at (inr (inl l)) = let r = up k m l lm in absurd (omega arith)
    at (inr (inr l)) = let r = up m k l lk in absurd (omega arith)

-- no two indices have one cell
one_place : (ps order : List (ℕ × ℕ)) (i j : ℕ) → IsOrderOf ps order → i < length ps → j < length ps → (get_or ps i (0, 0)).0 ≡ (get_or ps j (0, 0)).0 → i ≡ j
one_place ps order i j o li lj e =
    let s = o.there i li in
    let t = o.there j lj in
    let f = one_entry order s.0 t.0 o.rising s.1 t.1 (sym (place_at ps order s.0 i o s.1 s.2) ∙ e ∙ place_at ps order t.0 j o t.1 t.2) in
    sym s.2 ∙ ap (λ k. (get_or order k (0, 0)).1) f ∙ t.2

distinct_from_apart : (ps : List (ℕ × ℕ)) → ((i j : ℕ) → i < j → j < length ps → (get_or ps i (0, 0)).0 ≢ (get_or ps j (0, 0)).0) → IsDistinct ps
distinct_from_apart [] h = tt
distinct_from_apart (p ∷ ps) h =
    (lacks_all p.0 ps (λ k l e. h 0 (suc k) (omega arith) (omega arith) (sym e)), distinct_from_apart ps (λ i j l m. h (suc i) (suc j) (omega arith) (omega arith)))

pub order-distinct : (ps order : List (ℕ × ℕ)) → IsOrderOf ps order → IsDistinct ps
order-distinct ps order o = distinct_from_apart ps (λ i j l m e. let f = one_place ps order i j o (omega arith) m e in omega arith)

-- a cell that was found
pub found_place : (a : ℕ) (ps order : List (ℕ × ℕ)) (k : ℕ) → IsOrderOf ps order → IsSearched a order (Ok k) → IsPlace a ps (get_or order k (0, 0)).1
found_place a ps order k o h = let p = o.here k h.0 in (p.0, p.1 ∙ h.1)

-- a cell that was not found
pub missing : (a : ℕ) (ps order : List (ℕ × ℕ)) (k : ℕ) → IsOrderOf ps order → IsSearched a order (Err k) → Lacks a ps
missing a ps order k o h = lacks_all a ps (λ i l e.
    let s = o.there i l in
    let p : (get_or order s.0 (0, 0)).0 ≡ a = sym (place_at ps order s.0 i o s.1 s.2) ∙ e in
    at s.0 s.1 p (cases_lt s.0 k))
  where
    at : (j : ℕ) → j < length order → (get_or order j (0, 0)).0 ≡ a → (j < k) ⊎ (k ≤ j) → ⊥
    at j l p (inl b) = let r = h.1 j b in omega arith
    at j l p (inr b) = let r = h.2 j b l in omega arith

-- a cell outside the bounds
pub outside : (a least above : ℕ) (ps : List (ℕ × ℕ)) → AreBetween least above ps → (a < least) ⊎ (above ≤ a) → Lacks a ps
outside a least above ps b out = lacks_all a ps (λ i l e. at i (b i l) e out)
  where
    at : (i : ℕ) → (least ≤ (get_or ps i (0, 0)).0) × ((get_or ps i (0, 0)).0 < above) → (get_or ps i (0, 0)).0 ≡ a → (a < least) ⊎ (above ≤ a) → ⊥
    at i h e (inl l) = omega arith
    at i h e (inr l) = omega arith

-- one above them
pub above_lacks : (a : ℕ) (ps : List (ℕ × ℕ)) → IsAbove a ps → Lacks a ps
above_lacks a ps over = lacks_all a ps (λ i l e. let r = over i l in absurd (omega (arith, r, e)))

-- ---- the pairs where no order is kept, since their cells rise

-- where they are searched themselves
pub missing_rising : (a : ℕ) (ps : List (ℕ × ℕ)) (k : ℕ) → IsSearched a ps (Err k) → Lacks a ps
missing_rising a ps k h = lacks_all a ps (λ i l e. at i l e (cases_lt i k))
  where
    at : (i : ℕ) → i < length ps → (get_or ps i (0, 0)).0 ≡ a → (i < k) ⊎ (k ≤ i) → ⊥
    at i l e (inl b) = let r = h.1 i b in omega (arith, r, e)
    at i l e (inr b) = let r = h.2 i b l in omega (arith, r, e)

rising-distinct : (ps : List (ℕ × ℕ)) → IsRising ps → IsDistinct ps
rising-distinct ps up = distinct_from_apart ps (λ i j l m e. let r = up i j l m in absurd (omega (arith, r, e)))

-- the order that is made of them
pub numbered-order : (ps order : List (ℕ × ℕ)) → IsRising ps → IsNumbered ps order → IsOrderOf ps order
numbered-order ps order up n = record {
  rising = λ i j l m.
      let r = up i j l (omega (arith, m, n.0)) in
      let e = ap (λ y. y.0) (n.1 i (omega (arith, l, m, n.0))) in
      let f = ap (λ y. y.0) (n.1 j (omega (arith, m, n.0))) in
      omega (arith, r, e, f);
  length_is = n.0;
  here = λ k l. let e = n.1 k (omega (arith, l, n.0)) in rw e (omega (arith, l, n.0), refl);
  there = λ i l. (i, omega (arith, l, n.0), ap (λ y. y.1) (n.1 i l));
}

pub numbered-searched : (a : ℕ) (ps order : List (ℕ × ℕ)) (k : ℕ) → IsNumbered ps order → IsSearched a ps (Err k) → IsSearched a order (Err k)
numbered-searched a ps order k n h = (
  omega (arith, h.0, n.0),
  (λ j l. let e = ap (λ y. y.0) (n.1 j (omega (arith, l, h.0))) in let r = h.1 j l in omega (arith, r, e)),
  (λ j le l. let e = ap (λ y. y.0) (n.1 j (omega (arith, l, n.0))) in let r = h.2 j le (omega (arith, l, n.0)) in omega (arith, r, e)),
)

-- ---- with an order or without one

pub kept : (ps order : List (ℕ × ℕ)) → 0 < length order → AreOrdered ps order → IsOrderOf ps order
kept ps [] some o = absurd (omega arith)
kept ps (e ∷ es) some o = o

pub kept-by_cell : (ps order : List (ℕ × ℕ)) → 0 < length order → by_cell ps order ≡ order
kept-by_cell ps [] some = absurd (omega arith)
kept-by_cell ps (e ∷ es) some = refl

pub none-rising : (ps order : List (ℕ × ℕ)) → length order ≡ 0 → AreOrdered ps order → IsRising ps
none-rising ps [] none o = o
none-rising ps (e ∷ es) none o = absurd (omega arith)

pub none-by_cell : (ps order : List (ℕ × ℕ)) → length order ≡ 0 → by_cell ps order ≡ ps
none-by_cell ps [] none = refl
none-by_cell ps (e ∷ es) none = absurd (omega arith)

pub ordered : (ps order : List (ℕ × ℕ)) → IsOrderOf ps order → AreOrdered ps order
ordered ps [] o = let e = o.length_is in λ i j l m. absurd (omega (arith, e, m))
ordered ps (e ∷ es) o = o

pub ordered-length : (ps order : List (ℕ × ℕ)) → AreOrdered ps order → length order ≤ length ps
ordered-length ps [] o = omega arith
ordered-length ps (e ∷ es) o = let r = o.length_is in omega (arith, r)

pub ordered-distinct : (ps order : List (ℕ × ℕ)) → AreOrdered ps order → IsDistinct ps
ordered-distinct ps [] o = rising-distinct ps o
ordered-distinct ps (e ∷ es) o = order-distinct ps (e ∷ es) o

pub order-rising : (ps order : List (ℕ × ℕ)) → AreOrdered ps order → IsRising order
order-rising ps [] o = λ i j l m. absurd (omega arith)
order-rising ps (e ∷ es) o = o.rising

pub order-between : (ps order : List (ℕ × ℕ)) (least above : ℕ) → AreOrdered ps order → AreBetween least above ps → AreBetween least above order
order-between ps [] least above o b = λ k l. absurd (omega arith)
order-between ps (e ∷ es) least above o b = λ k l.
    let p = o.here k l in
    let h = b (get_or (e ∷ es) k (0, 0)).1 p.0 in
    (omega (arith, h.0, p.1), omega (arith, h.1, p.1))

pub indexed-rising : (a : ℕ) (ps order : List (ℕ × ℕ)) (r : Result ℕ ℕ) → length order ≡ 0 → IsSearched a ps r → IsIndexed a ps order r
indexed-rising a ps order (Ok k) none h = h
indexed-rising a ps order (Err k) none h = subst (λ xs. IsSearched a xs (Err k)) (sym (none-by_cell ps order none)) h

pub indexed-missing : (a : ℕ) (ps order : List (ℕ × ℕ)) (k : ℕ) → AreOrdered ps order → IsIndexed a ps order (Err k) → Lacks a ps
indexed-missing a ps [] k o h = missing_rising a ps k h
indexed-missing a ps (e ∷ es) k o h = missing a ps (e ∷ es) k o h

-- the index that was found is the first, since no other has the cell
before_place : (a : ℕ) (ps : List (ℕ × ℕ)) (i k : ℕ) → IsDistinct ps → IsPlace a ps i → k < i → (get_or ps k (0, 0)).0 ≢ a
before_place a [] i k d h lt = absurd (omega (arith, h.0))
before_place a (p ∷ ps) zero k d h lt = absurd (omega arith)
before_place a (p ∷ ps) (suc i) zero d h lt = λ e. lacks_at p.0 ps i d.0 (omega (arith, h.0)) (h.1 ∙ sym e)
before_place a (p ∷ ps) (suc i) (suc k) d h lt = before_place a ps i k d.1 (omega (arith, h.0), h.1) (omega arith)

pub position_is : (a : ℕ) (ps : List (ℕ × ℕ)) (r : Option ℕ) → IsDistinct ps → IsFound a ps r → r ≡ position (λ p. p.0 == a) ps
position_is a ps None d h =
    let e = position_or_len_is (λ (p : ℕ × ℕ). p.0 == a) ps (length ps) (0, 0) (omega arith) (λ k l. ne_eqb _ _ (lacks_at a ps k h l)) (λ l. absurd (omega arith)) in
    rw (e, le-ltb (length ps) (length ps) (omega arith)) refl
position_is a ps (Some i) d h =
    let e = position_or_len_is (λ (p : ℕ × ℕ). p.0 == a) ps i (0, 0) (omega (arith, h.0)) (λ k l. ne_eqb _ _ (before_place a ps i k d h l)) (λ l. eq-eqb _ _ h.1) in
    rw (e, lt-ltb i (length ps) h.0) refl

-- ---- what each change leaves

-- a word replaced
pub replaced_back : (a v w : ℕ) (ps : List (ℕ × ℕ)) (i : ℕ) → IsPlace a ps i → w ≡ (get_or ps i (0, 0)).1 → set (set ps i (a, v)) i ((get_or (set ps i (a, v)) i (0, 0)).0, w) ≡ ps
replaced_back a v w ps i h e =
    let f : (a, w) ≡ get_or ps i (0, 0) = ap (λ x. (x, w)) (sym h.1) ∙ ap (λ x. ((get_or ps i (0, 0)).0, x)) e in
    rw (get_or-set_same ps i (a, v) (0, 0) h.0, set-set) (ap (set ps i) f ∙ set-get_or ps i (0, 0))

-- a pair added
pub between-added : (a v least top : ℕ) (ps : List (ℕ × ℕ)) → AreBetween least top ps → AreBetween (min least a) (max top (a + 1)) (ps ++ (a, v) ∷ [])
between-added a v least top ps b i l = at (cases_lt i (length ps))
  where
    at : (i < length ps) ⊎ (length ps ≤ i) → (min least a ≤ (get_or (ps ++ (a, v) ∷ []) i (0, 0)).0) × ((get_or (ps ++ (a, v) ∷ []) i (0, 0)).0 < max top (a + 1))
    at (inl m) = let h = b i m in rw (get_or_append_left ps ((a, v) ∷ []) (0, 0) i m) (omega arith, omega arith)
    at (inr m) = rw (get_or_push ps (a, v) (0, 0) i (omega (arith, length_push ps (a, v)))) (omega arith, omega arith)

-- where an entry comes from, after an insertion
data Inserted (order : List (ℕ × ℕ)) (k : ℕ) (e : ℕ × ℕ) (j : ℕ) : Type 0 where
  below : j < k → get_or (insert order k e) j (0, 0) ≡ get_or order j (0, 0) → Inserted order k e j
  new : j ≡ k → get_or (insert order k e) j (0, 0) ≡ e → Inserted order k e j
  above : (m : ℕ) → j ≡ m + 1 → k ≤ m → get_or (insert order k e) j (0, 0) ≡ get_or order m (0, 0) → Inserted order k e j

inserted : (order : List (ℕ × ℕ)) (k : ℕ) (e : ℕ × ℕ) (j : ℕ) → k ≤ length order → Inserted order k e j
inserted order k e j le = at (cases_order j k)
  where
    at : (j ≡ k) ⊎ ((j < k) ⊎ (k < j)) → Inserted order k e j
    at (inl f) = new f (ap (λ i. get_or (insert order k e) i (0, 0)) f ∙ get_or-insert_at order k e (0, 0) le)
    at (inr (inl l)) = below l (get_or-insert_below order k e (0, 0) j l le)
    at (inr (inr l)) =
        let f : j ≡ (j - 1) + 1 = omega arith in
        above (j - 1) f (omega arith) (ap (λ i. get_or (insert order k e) i (0, 0)) f ∙ get_or-insert_above order k e (0, 0) (j - 1) (omega arith) le)

rising-added : (a n : ℕ) (order : List (ℕ × ℕ)) (k : ℕ) → IsRising order → IsSearched a order (Err k) → IsRising (insert order k (a, n))
rising-added a n order k up h i j lt inside =
    at (inserted order k (a, n) i h.0) (inserted order k (a, n) j h.0) (length-insert order k (a, n) h.0)
  where
    at : Inserted order k (a, n) i → Inserted order k (a, n) j → length (insert order k (a, n)) ≡ length order + 1 → (get_or (insert order k (a, n)) i (0, 0)).0 < (get_or (insert order k (a, n)) j (0, 0)).0
    at (below l p) (below m q) long = rw (p, q) (up i j lt (omega (arith, h.0)))
    at (below l p) (new f q) long = rw (p, q) (h.1 i l)
    at (below l p) (above m f le q) long = rw (p, q) (up i m (omega arith) (omega arith))
    at (new e p) (new f q) long = absurd (omega arith)
    at (new e p) (below m q) long = absurd (omega arith)
    at (new e p) (above m f le q) long = rw (p, q) (h.2 m le (omega arith))
    at (above o e le p) (below m q) long = absurd (omega arith)
    at (above o e le p) (new f q) long = absurd (omega arith)
    at (above o e le p) (above m f ge q) long = rw (p, q) (up o m (omega arith) (omega arith))

pub order-added : (a v : ℕ) (ps order : List (ℕ × ℕ)) (k : ℕ) → IsOrderOf ps order → IsSearched a order (Err k) → IsOrderOf (ps ++ (a, v) ∷ []) (insert order k (a, length ps))
order-added a v ps order k o h = record {
  rising = rising-added a (length ps) order k o.rising h;
  length_is = length-insert order k (a, length ps) h.0 ∙ ap (λ n. n + 1) o.length_is ∙ sym (length_push ps (a, v));
  here = λ j l. here j (omega (arith, length-insert order k (a, length ps) h.0)) (inserted order k (a, length ps) j h.0);
  there = λ i l. there i (cases_order i (length ps)) (omega (arith, length_push ps (a, v)));
}
  where
    old : (x : ℕ × ℕ) → IsPlace x.0 ps x.1 → IsPlace x.0 (ps ++ (a, v) ∷ []) x.1
    old x p = (omega (arith, p.0, length_push ps (a, v)), ap (λ y. y.0) (get_or_append_left ps ((a, v) ∷ []) (0, 0) x.1 p.0) ∙ p.1)

    here : (j : ℕ) → j < length order + 1 → Inserted order k (a, length ps) j → IsPlace (get_or (insert order k (a, length ps)) j (0, 0)).0 (ps ++ (a, v) ∷ []) (get_or (insert order k (a, length ps)) j (0, 0)).1
    here j l (below m e) = rw e (old (get_or order j (0, 0)) (o.here j (omega (arith, h.0))))
    here j l (new f e) = rw e (omega (arith, length_push ps (a, v)), ap (λ y. y.0) (get_or_push ps (a, v) (0, 0) (length ps) refl))
    here j l (above m f le e) = rw e (old (get_or order m (0, 0)) (o.here m (omega arith)))

    there : (i : ℕ) → (i ≡ length ps) ⊎ ((i < length ps) ⊎ (length ps < i)) → i < length ps + 1 → (j : ℕ) × (j < length (insert order k (a, length ps))) × ((get_or (insert order k (a, length ps)) j (0, 0)).1 ≡ i)
    there i (inl f) l = (k, omega (arith, h.0, length-insert order k (a, length ps) h.0), ap (λ y. y.1) (get_or-insert_at order k (a, length ps) (0, 0) h.0) ∙ sym f)
    there i (inr (inl m)) l = moved (o.there i m).0 (o.there i m).1 (o.there i m).2 (cases_lt (o.there i m).0 k)
      where
        moved : (j : ℕ) → j < length order → (get_or order j (0, 0)).1 ≡ i → (j < k) ⊎ (k ≤ j) → (j : ℕ) × (j < length (insert order k (a, length ps))) × ((get_or (insert order k (a, length ps)) j (0, 0)).1 ≡ i)
        moved j b e (inl c) = (j, omega (arith, length-insert order k (a, length ps) h.0), ap (λ y. y.1) (get_or-insert_below order k (a, length ps) (0, 0) j c h.0) ∙ e)
        moved j b e (inr c) = (j + 1, omega (arith, length-insert order k (a, length ps) h.0), ap (λ y. y.1) (get_or-insert_above order k (a, length ps) (0, 0) j c h.0) ∙ e)
    there i (inr (inr m)) l = absurd (omega arith)

-- the last pair taken back
last_place : (p : ℕ × ℕ) (ps order : List (ℕ × ℕ)) (k : ℕ) → IsOrderOf (ps ++ p ∷ []) order → IsSearched p.0 order (Ok k) → (get_or order k (0, 0)).1 ≡ length ps
last_place p ps order k o h =
    let f = found_place p.0 (ps ++ p ∷ []) order k o h in
    one_place (ps ++ p ∷ []) order _ (length ps) o f.0 (omega (arith, length_push ps p)) (f.1 ∙ sym (ap (λ y. y.0) (get_or_push ps p (0, 0) (length ps) refl)))

-- where an entry comes from, after a removal
data Removed (order : List (ℕ × ℕ)) (k : ℕ) (j : ℕ) : Type 0 where
  below : j < k → get_or (remove order k) j (0, 0) ≡ get_or order j (0, 0) → Removed order k j
  above : k ≤ j → get_or (remove order k) j (0, 0) ≡ get_or order (j + 1) (0, 0) → Removed order k j

removed : (order : List (ℕ × ℕ)) (k : ℕ) (j : ℕ) → k < length order → Removed order k j
removed order k j lt = at (cases_lt j k)
  where
    at : (j < k) ⊎ (k ≤ j) → Removed order k j
    at (inl l) = below l (get_or-remove_below order k (0, 0) j l lt)
    at (inr l) = above l (get_or-remove_above order k (0, 0) j l lt)

rising-removed : (order : List (ℕ × ℕ)) (k : ℕ) → IsRising order → k < length order → IsRising (remove order k)
rising-removed order k up lt i j l inside = at (removed order k i lt) (removed order k j lt) (length-remove order k lt)
  where
    at : Removed order k i → Removed order k j → length (remove order k) + 1 ≡ length order → (get_or (remove order k) i (0, 0)).0 < (get_or (remove order k) j (0, 0)).0
    at (below b p) (below d q) long = rw (p, q) (up i j l (omega arith))
    at (below b p) (above d q) long = rw (p, q) (up i (j + 1) (omega arith) (omega arith))
    at (above b p) (below d q) long = absurd (omega arith)
    at (above b p) (above d q) long = rw (p, q) (up (i + 1) (j + 1) (omega arith) (omega arith))

pub order-removed : (p : ℕ × ℕ) (ps order : List (ℕ × ℕ)) (k : ℕ) → IsOrderOf (ps ++ p ∷ []) order → IsSearched p.0 order (Ok k) → IsOrderOf ps (remove order k)
order-removed p ps order k o h = record {
  rising = rising-removed order k o.rising h.0;
  length_is = omega (arith, length-remove order k h.0, o.length_is, length_push ps p);
  here = λ j l. here j (omega (arith, length-remove order k h.0)) (removed order k j h.0);
  there = λ i l. let s = o.there i (omega (arith, length_push ps p)) in there i l s.0 s.1 s.2 (cases_order s.0 k);
}
  where
    -- another entry has an index below the last
    other : (m : ℕ) → m < length order → m ≢ k → IsPlace (get_or order m (0, 0)).0 ps (get_or order m (0, 0)).1
    other m l ne =
        let q = o.here m l in
        let f : (get_or order m (0, 0)).1 ≢ length ps = λ e.
        ne (one_entry order m k o.rising l h.0 (sym q.1 ∙ ap (λ i. (get_or (ps ++ p ∷ []) i (0, 0)).0) e ∙ ap (λ y. y.0) (get_or_push ps p (0, 0) (length ps) refl) ∙ sym h.1)) in
        let lt : (get_or order m (0, 0)).1 < length ps = omega (arith, q.0, f, length_push ps p) in
        (lt, sym (ap (λ y. y.0) (get_or_append_left ps (p ∷ []) (0, 0) (get_or order m (0, 0)).1 lt)) ∙ q.1)

    here : (j : ℕ) → j + 1 < length order → Removed order k j → IsPlace (get_or (remove order k) j (0, 0)).0 ps (get_or (remove order k) j (0, 0)).1
    here j l (below b e) = rw e (other j (omega arith) (omega arith))
    here j l (above b e) = rw e (other (j + 1) l (omega arith))

    there : (i : ℕ) → i < length ps → (m : ℕ) → m < length order → (get_or order m (0, 0)).1 ≡ i → (m ≡ k) ⊎ ((m < k) ⊎ (k < m)) → (j : ℕ) × (j < length (remove order k)) × ((get_or (remove order k) j (0, 0)).1 ≡ i)
    there i l m b e (inl f) = let g = last_place p ps order k o h in absurd (omega (arith, sym e ∙ ap (λ x. (get_or order x (0, 0)).1) f ∙ g))
    there i l m b e (inr (inl c)) = (m, omega (arith, h.0, length-remove order k h.0), ap (λ y. y.1) (get_or-remove_below order k (0, 0) m c h.0) ∙ e)
    there i l m b e (inr (inr c)) =
        let f : (m - 1) + 1 ≡ m = omega arith in
        (m - 1, omega (arith, length-remove order k h.0), ap (λ y. y.1) (get_or-remove_above order k (0, 0) (m - 1) (omega arith) h.0) ∙ ap (λ x. (get_or order x (0, 0)).1) f ∙ e)

pub between-removed : (p : ℕ × ℕ) (least top : ℕ) (ps : List (ℕ × ℕ)) → AreBetween least top (ps ++ p ∷ []) → AreBetween least top ps
between-removed p least top ps b i l =
    let h = b i (omega (arith, length_push ps p)) in
    let e = ap (λ y. y.0) (get_or_append_left ps (p ∷ []) (0, 0) i l) in
    (omega arith, omega arith)

-- the last cell is found, since it is there
pub last_found : (p : ℕ × ℕ) (ps order : List (ℕ × ℕ)) (k : ℕ) → IsOrderOf (ps ++ p ∷ []) order → IsSearched p.0 order (Err k) → ⊥
last_found p ps order k o h =
    lacks_at p.0 (ps ++ p ∷ []) (length ps) (missing p.0 (ps ++ p ∷ []) order k o h) (omega (arith, length_push ps p)) (ap (λ y. y.0) (get_or_push ps p (0, 0) (length ps) refl))

-- the same without an order
rising-popped : (p : ℕ × ℕ) (ps : List (ℕ × ℕ)) → IsRising (ps ++ p ∷ []) → IsRising ps
rising-popped p ps up i j l m =
    let r = up i j l (omega (arith, m, length_push ps p)) in
    let e = ap (λ y. y.0) (get_or_append_left ps (p ∷ []) (0, 0) i (omega (arith, l, m))) in
    let f = ap (λ y. y.0) (get_or_append_left ps (p ∷ []) (0, 0) j m) in
    omega (arith, r, e, f)

pub ordered-popped : (p : ℕ × ℕ) (ps order : List (ℕ × ℕ)) (k : ℕ) → AreOrdered (ps ++ p ∷ []) order → IsSearched p.0 order (Err k) → AreOrdered ps order
ordered-popped p ps [] k o h = rising-popped p ps o
ordered-popped p ps (e ∷ es) k o h = absurd (last_found p ps (e ∷ es) k o h)

-- a pair added above all others
rising-pushed : (a v : ℕ) (ps : List (ℕ × ℕ)) → IsAbove a ps → IsRising ps → IsRising (ps ++ (a, v) ∷ [])
rising-pushed a v ps over up =
    subst IsRising (insert_end ps (a, v)) (rising-added a v ps (length ps) up (omega arith, over, (λ j le l. absurd (omega arith))))

above_all : (a : ℕ) (ps order : List (ℕ × ℕ)) → IsOrderOf ps order → IsAbove a ps → IsSearched a order (Err (length order))
above_all a ps order o over =
    (omega arith, (λ j l. let p = o.here j l in let q = over (get_or order j (0, 0)).1 p.0 in omega (arith, p.1)), (λ j le l. absurd (omega arith)))

pub ordered-above : (a v : ℕ) (ps order : List (ℕ × ℕ)) → IsAbove a ps → AreOrdered ps order → AreOrdered (ps ++ (a, v) ∷ []) (with_entry order (a, length ps))
ordered-above a v ps [] over o = rising-pushed a v ps over o
ordered-above a v ps (e ∷ es) over o =
    subst (IsOrderOf (ps ++ (a, v) ∷ [])) (insert_end (e ∷ es) (a, length ps)) (order-added a v ps (e ∷ es) (length (e ∷ es)) o (above_all a ps (e ∷ es) o over))

pub between-above : (a v least top : ℕ) (ps : List (ℕ × ℕ)) → IsAbove a ps → AreBetween least top ps → AreBetween (min least a) (a + 1) (ps ++ (a, v) ∷ [])
between-above a v least top ps over b i l =
    let h = between-added a v least (a + 1) ps (λ j m. ((b j m).0, let r = over j m in omega (arith, r))) i l in
    (h.0, omega (arith, h.1))

-- other words for the same cells
pub ordered-same : (ps qs order : List (ℕ × ℕ)) → length qs ≡ length ps → ((i : ℕ) → (get_or qs i (0, 0)).0 ≡ (get_or ps i (0, 0)).0) → AreOrdered ps order → AreOrdered qs order
ordered-same ps qs [] long same o = λ i j l m.
    let r = o i j l (omega (arith, m, long)) in
    let e = same i in
    let f = same j in
    omega (arith, r, e, f)
ordered-same ps qs (e ∷ es) long same o = record {
  rising = o.rising;
  length_is = o.length_is ∙ sym long;
  here = λ k l. let p = o.here k l in (omega (arith, p.0, long), same (get_or (e ∷ es) k (0, 0)).1 ∙ p.1);
  there = λ i l. o.there i (omega (arith, l, long));
}

pub between-same : (ps qs : List (ℕ × ℕ)) (least top : ℕ) → length qs ≡ length ps → ((i : ℕ) → (get_or qs i (0, 0)).0 ≡ (get_or ps i (0, 0)).0) → AreBetween least top ps → AreBetween least top qs
between-same ps qs least top long same b i l =
    let h = b i (omega (arith, l, long)) in
    let e = same i in
    (omega (arith, h.0, e), omega (arith, h.1, e))

pub cells-set : (ps : List (ℕ × ℕ)) (i : ℕ) (p : ℕ × ℕ) → IsPlace p.0 ps i → (j : ℕ) → (get_or (set ps i p) j (0, 0)).0 ≡ (get_or ps j (0, 0)).0
cells-set ps i p h j = at (cases_eq j i)
  where
    at : (j ≡ i) ⊎ (j ≢ i) → (get_or (set ps i p) j (0, 0)).0 ≡ (get_or ps j (0, 0)).0
    at (inl e) = rw (e, get_or-set_same ps i p (0, 0) h.0) (sym h.1)
    at (inr ne) = ap (λ y. y.0) (get_or-set_other ps i j p (0, 0) ne)
