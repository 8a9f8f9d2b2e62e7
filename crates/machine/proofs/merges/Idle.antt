-- Merges with attempts between that leave what they found.
use Rattle.std.proofs.Common.{◌≡◌, ◌<◌, ◌≤◌, ◌+◌, ◌*◌, ◌%◌, ◌⊎◌, inl, inr, ℕ, Bool, true, false, cond, leb, List, [], ◌∷◌, refl, sym, ap, subst, arith}
use Rattle.std.specs.List.{AllByRecursion}
use Rattle.std.proofs.lemmas.Bool.Decides.{leb_tells}
use Rattle.machine.specs.inner.Invariant.{History, next_snapshot}
use Rattle.machine.specs.Merges.{Entry, IsSorted, insert, key, key_of}
use Rattle.machine.specs.OneOrder.{IsIdle, WithIdle}
use Rattle.machine.proofs.merges.Merge.{EntryOk, Follows}
use Rattle.machine.proofs.parts.Frame.{snapshot_le}

-- an idle one first
idle_first : (x : Entry) (es all : List Entry) → IsIdle x → WithIdle es all → WithIdle es (x ∷ all)
idle_first x [] all i w = (i, w)
idle_first x (e ∷ es) all i w = inr (i, w)

-- an idle one more
pub idle_insert : (d : Entry) (es all : List Entry) → IsIdle d → WithIdle es all → WithIdle es (insert d all)
idle_insert d [] [] i w = (i, w)
idle_insert d (e ∷ es) [] i w = absurd w
idle_insert d [] (x ∷ all) i w = at (leb (key x) (key d)) (idle_insert d [] all i w.1)
  where
    at : (b : Bool) → WithIdle [] (insert d all) → WithIdle [] (cond b (x ∷ insert d all) (d ∷ x ∷ all))
    at true ih = (w.0, ih)
    at false ih = (i, w)
idle_insert d (e ∷ es) (x ∷ all) i w = at (leb (key x) (key d)) w (idle_insert d es all i) (idle_insert d (e ∷ es) all i)
  where
    at : (b : Bool) → ((e ≡ x) × WithIdle es all) ⊎ (IsIdle x × WithIdle (e ∷ es) all) → (WithIdle es all → WithIdle es (insert d all)) → (WithIdle (e ∷ es) all → WithIdle (e ∷ es) (insert d all)) → WithIdle (e ∷ es) (cond b (x ∷ insert d all) (d ∷ x ∷ all))
    at true (inl r) tail whole = inl (r.0, tail r.1)
    at true (inr r) tail whole = inr (r.0, whole r.1)
    at false r tail whole = inr (i, r)

-- the first of the run is no earlier than the first of all
first_late : (k : ℕ) (y : Entry) (es all : List Entry) → IsSorted k all → WithIdle (y ∷ es) all → k ≤ key y
first_late k y es [] o w = absurd w
first_late k y es (x ∷ all) o (inl r) = let up = o.0 in let same : key y ≡ key x = ap key r.0 in omega (arith, up, same)
first_late k y es (x ∷ all) o (inr r) = let up = o.0 in let late = first_late (key x) y es all o.1 r.1 in omega (arith, up, late)

-- what is before all of these is put first
put_first : (e : Entry) (k : ℕ) (es all : List Entry) → key e < k → IsSorted k all → WithIdle es all → insert e es ≡ e ∷ es
put_first e k [] all lt o w = refl
put_first e k (y ∷ es) all lt o w = at (leb_tells (key y) (key e))
  where
    at : ((leb (key y) (key e) ≡ true) × (key y ≤ key e)) ⊎ ((leb (key y) (key e) ≡ false) × (key e < key y)) → insert e (y ∷ es) ≡ e ∷ y ∷ es
    at (inl g) = let le = g.1 in let late = first_late k y es all o w in absurd (omega (arith, le, late, lt))
    at (inr g) = rw g.0 refl

-- one more of both
pub both_insert : (e : Entry) (k : ℕ) (es all : List Entry) → IsSorted k all → WithIdle es all → WithIdle (insert e es) (insert e all)
both_insert e k [] [] o w = inl (refl, w)
both_insert e k (y ∷ es) [] o w = absurd w
both_insert e k [] (x ∷ all) o w = at (leb (key x) (key e)) (both_insert e (key x) [] all o.1 w.1)
  where
    at : (b : Bool) → WithIdle (e ∷ []) (insert e all) → WithIdle (e ∷ []) (cond b (x ∷ insert e all) (e ∷ x ∷ all))
    at true ih = inr (w.0, ih)
    at false ih = inl (refl, w)
both_insert e k (y ∷ es) (x ∷ all) o (inl r) =
    subst (λ (z : Entry). WithIdle (insert e (z ∷ es)) (insert e (x ∷ all))) (sym r.0) (at (leb (key x) (key e)) (both_insert e (key x) es all o.1 r.1))
  where
    at : (b : Bool) → WithIdle (insert e es) (insert e all) → WithIdle (cond b (x ∷ insert e es) (e ∷ x ∷ es)) (cond b (x ∷ insert e all) (e ∷ x ∷ all))
    at true ih = inl (refl, ih)
    at false ih = inl (refl, inl (refl, r.1))
both_insert e k (y ∷ es) (x ∷ all) o (inr r) = at (leb_tells (key x) (key e)) (both_insert e (key x) (y ∷ es) all o.1 r.1)
  where
    at : ((leb (key x) (key e) ≡ true) × (key x ≤ key e)) ⊎ ((leb (key x) (key e) ≡ false) × (key e < key x)) → WithIdle (insert e (y ∷ es)) (insert e all) → WithIdle (insert e (y ∷ es)) (cond (leb (key x) (key e)) (x ∷ insert e all) (e ∷ x ∷ all))
    at (inl g) ih = subst (λ b. WithIdle (insert e (y ∷ es)) (cond b (x ∷ insert e all) (e ∷ x ∷ all))) (sym g.0) (idle_first x (insert e (y ∷ es)) (insert e all) r.0 ih)
    at (inr g) ih =
        subst (λ b. WithIdle (insert e (y ∷ es)) (cond b (x ∷ insert e all) (e ∷ x ∷ all))) (sym g.0)
        (subst (λ l. WithIdle l (e ∷ x ∷ all)) (sym (put_first e (key x) (y ∷ es) all g.1 o.1 r.1)) (inl (refl, inr r)))

-- those that did not take the lock are from s on
abbrev pub IdleFrom : ℕ → List Entry → Type 0
IdleFrom s es = AllByRecursion (λ (e : Entry). e.item.took_lock ≡ false → s ≤ e.item.snapshot) es

idle_key : (s : ℕ) (b : Bool) → b ≡ false → key_of s b ≡ 2 * s
idle_key s true e = absurd (cc)
idle_key s false e = omega arith

-- past an entry at s those that did not take the lock are from where it leads
idle_after : (h : History) (s : ℕ) (b : Bool) (k : ℕ) (es : List Entry) → s % 2 ≡ 0 → key_of s b ≤ k → IsSorted k es → AllByRecursion (EntryOk h) es → IdleFrom (next_snapshot s b) es
idle_after h s b k [] even le o ok = tt
idle_after h s b k (e ∷ es) even le o ok =
    let up = o.0 in
    (λ took. at b took le, idle_after h s b (key e) es even (omega (arith, up, le)) o.1 ok.1)
  where
    at : (c : Bool) → e.item.took_lock ≡ false → key_of s c ≤ k → next_snapshot s c ≤ e.item.snapshot
    at true took le' =
        let up = o.0 in
        let is = idle_key e.item.snapshot e.item.took_lock took in
        let ev = ok.0.even in
        omega (arith, up, is, ev, even, le')
    at false took le' =
        let up = o.0 in
        let is = idle_key e.item.snapshot e.item.took_lock took in
        omega (arith, up, is, le')

next_even : (s : ℕ) (b : Bool) → s % 2 ≡ 0 → next_snapshot s b % 2 ≡ 0
next_even s true e = omega (arith, e)
next_even s false e = e

taker_key : (n : ℕ) (b : Bool) → key_of n b ≤ 2 * n + 1
taker_key n true = omega arith
taker_key n false = omega arith

-- an idle one stands just where the run is
idle_at : (h : History) (s : ℕ) (d : Entry) (es all : List Entry) → IsIdle d → IsSorted (key d) all → EntryOk h d → WithIdle es all → s ≤ d.item.snapshot → Follows s es h.top → d.item.snapshot ≡ s
idle_at h s d [] all i o ok w low f = let top = snapshot_le h d.thread d.item d.item.took_lock ok.left in let e : s ≡ h.top = f in omega (arith, top, e, low)
idle_at h s d (y ∷ ys) all i o ok w low f =
    let late : key d ≤ key y = first_late (key d) y ys all o w in
    let m : key d ≡ 2 * d.item.snapshot = idle_key d.item.snapshot d.item.took_lock i.0 in
    let up : key y ≤ 2 * y.item.snapshot + 1 = taker_key y.item.snapshot y.item.took_lock in
    let is : y.item.snapshot ≡ s = f.0 in
    omega (arith, late, m, up, is, low)

-- where the run follows the history, so do all
pub follows_all : (h : History) (s k : ℕ) (es all : List Entry) → s % 2 ≡ 0 → WithIdle es all → IsSorted k all → AllByRecursion (EntryOk h) all → IdleFrom s all → Follows s es h.top → Follows s all h.top
follows_all h s k [] [] even w o ok low f = f
follows_all h s k (e ∷ es) [] even w o ok low f = absurd w
follows_all h s k [] (d ∷ all) even w o ok low f = (
  idle_at h s d [] all w.0 o.1 ok.0 w.1 (low.0 w.0.0) f,
  subst (λ b. Follows (next_snapshot s b) all h.top) (sym w.0.0) (follows_all h s (key d) [] all even w.1 o.1 ok.1 low.1 f),
)
follows_all h s k (e ∷ es) (x ∷ all) even (inl r) o ok low f =
    let g : Follows s (x ∷ es) h.top = subst (λ (z : Entry). Follows s (z ∷ es) h.top) r.0 f in
    let is : key_of s x.item.took_lock ≡ key x = ap (λ n. key_of n x.item.took_lock) (sym g.0) in
    (g.0, follows_all h (next_snapshot s x.item.took_lock) (key x) es all (next_even s x.item.took_lock even) r.1 o.1 ok.1 (idle_after h s x.item.took_lock (key x) all even (omega (arith, is)) o.1 ok.1) g.1)
follows_all h s k (e ∷ es) (d ∷ all) even (inr r) o ok low f = (
  idle_at h s d (e ∷ es) all r.0 o.1 ok.0 r.1 (low.0 r.0.0) f,
  subst (λ b. Follows (next_snapshot s b) all h.top) (sym r.0.0) (follows_all h s (key d) (e ∷ es) all even r.1 o.1 ok.1 low.1 f),
)

pub idle_from_first : (es : List Entry) → IdleFrom 0 es
idle_from_first [] = tt
idle_from_first (e ∷ es) = (λ took. omega arith, idle_from_first es)
