-- The checkpoints of lists of what was saved and of marks: after a begin, a commit and a cancel.
use Rattle.std.proofs.Common.{◌≡◌, ◌<◌, ◌≤◌, ◌+◌, ◌-◌, ℕ, zero, suc, List, [], ◌∷◌, ◌++◌, Some, refl, sym, ap, subst, ◌∙◌, length, take, drop, slice_get, set, get_or, arith, add-one}
use Rattle.std.proofs.lemmas.List.{take-set}
use Rattle.std.proofs.lemmas.Option.{slice_get-get_or}
use Rattle.nesting.specs.Begins.{Saved, Checkpoint}
use Rattle.nesting.specs.inner.Checkpoints.{checkpoints}

-- one more begin: the last of the lists
more : (outer : List (Checkpoint Saved)) (d : ℕ) (items : List Saved) (ms : List (List (ℕ × ℕ))) (s : Saved) (w : List (ℕ × ℕ)) → d < length items → d ≤ length ms →
    checkpoints outer (take (suc d) (set items d s)) (take d ms ++ w ∷ []) ≡ record { saved = s; writes = w } ∷ checkpoints outer (take d items) ms
more outer d [] ms s w lt le = absurd (omega arith)
more outer zero (x ∷ xs) ms s w lt le = refl
more outer (suc d) (x ∷ xs) [] s w lt le = absurd (omega arith)
more outer (suc d) (x ∷ xs) (m ∷ ms) s w lt le = more (record { saved = x; writes = m } ∷ outer) d xs ms s w (omega arith) (omega arith)

-- the last of the lists
last : (outer : List (Checkpoint Saved)) (d : ℕ) (items : List Saved) (ms : List (List (ℕ × ℕ))) (s : Saved) (w : List (ℕ × ℕ)) → d < length items → s ≡ get_or items d s → slice_get ms d ≡ Some w →
    checkpoints outer (take (suc d) items) ms ≡ record { saved = s; writes = w } ∷ checkpoints outer (take d items) ms
last outer d [] ms s w lt e f = absurd (omega arith)
last outer d (x ∷ xs) [] s w lt e f = absurd (cc)
last outer zero (x ∷ xs) (m ∷ ms) s w lt e f = let g : m ≡ w = cc in rw (e, g) refl
last outer (suc d) (x ∷ xs) (m ∷ ms) s w lt e f = last (record { saved = x; writes = m } ∷ outer) d xs ms s w (omega arith) e f

-- marks past those of the open begins do not matter
front : (outer : List (Checkpoint Saved)) (d : ℕ) (items : List Saved) (ms : List (List (ℕ × ℕ))) → checkpoints outer (take d items) (take d ms) ≡ checkpoints outer (take d items) ms
front outer zero items ms = refl
front outer (suc d) [] ms = refl
front outer (suc d) (x ∷ xs) [] = refl
front outer (suc d) (x ∷ xs) (m ∷ ms) = front (record { saved = x; writes = m } ∷ outer) d xs ms

count : (outer : List (Checkpoint Saved)) (d : ℕ) (items : List Saved) (ms : List (List (ℕ × ℕ))) → d ≤ length items → d ≤ length ms → d + length outer ≡ length (checkpoints outer (take d items) ms)
count outer zero items ms a b = omega arith
count outer (suc d) [] ms a b = absurd (omega arith)
count outer (suc d) (x ∷ xs) [] a b = absurd (omega arith)
count outer (suc d) (x ∷ xs) (m ∷ ms) a b = let e = count (record { saved = x; writes = m } ∷ outer) d xs ms (omega arith) (omega arith) in omega arith

pub after_begin : (d : ℕ) (items : List Saved) (ms : List (List (ℕ × ℕ))) (s : Saved) (w : List (ℕ × ℕ)) → d < length items → d ≤ length ms →
    checkpoints [] (take (d + 1) (set items d s)) (take d ms ++ w ∷ []) ≡ record { saved = s; writes = w } ∷ checkpoints [] (take d items) ms
after_begin d items ms s w lt le = rw add-one (more [] d items ms s w lt le)

pub after_commit : (n : ℕ) (items : List Saved) (ms : List (List (ℕ × ℕ))) → 0 < n → n ≤ length items → n ≤ length ms →
    checkpoints [] (take (n - 1) items) ms ≡ drop 1 (checkpoints [] (take n items) ms)
after_commit zero items ms pos a b = absurd (omega arith)
after_commit (suc d) [] ms pos a b = absurd (omega arith)
after_commit (suc d) (x ∷ xs) ms pos a b =
    let e : suc d - 1 ≡ d = omega arith in
    let s = get_or (x ∷ xs) d x in
    let same : s ≡ get_or (x ∷ xs) d s = defaults d (x ∷ xs) x s (omega arith) in
    let f = last [] d (x ∷ xs) ms s (get_or ms d []) (omega arith) same (slice_get-get_or ms d [] (omega arith)) in
    rw (e, f) refl
  where
    defaults : (i : ℕ) (ys : List Saved) (d1 d2 : Saved) → i < length ys → get_or ys i d1 ≡ get_or ys i d2
    defaults i [] d1 d2 lt = absurd (omega arith)
    defaults zero (y ∷ ys) d1 d2 lt = refl
    defaults (suc i) (y ∷ ys) d1 d2 lt = defaults i ys d1 d2 (omega arith)

-- without the last of the lists
fewer : (k d : ℕ) (items : List Saved) (ms : List (List (ℕ × ℕ))) → k + d ≤ length items → k + d ≤ length ms →
    drop k (checkpoints [] (take (k + d) items) ms) ≡ checkpoints [] (take d items) ms
fewer zero d items ms a b = let none : 0 + d ≡ d = omega arith in rw none refl
fewer (suc k) d items ms a b =
    let less : suc k + d - 1 ≡ k + d = omega arith in
    let one = rw less at (after_commit (suc k + d) items ms (omega arith) a b) in
    drop_suc k (checkpoints [] (take (suc k + d) items) ms) ∙ ap (drop k) (sym one) ∙ fewer k d items ms (omega arith) (omega arith)
  where
    drop_suc : {X : Type 0} (n : ℕ) (xs : List X) → drop (suc n) xs ≡ drop n (drop 1 xs)
    drop_suc zero [] = refl
    drop_suc (suc n) [] = refl
    drop_suc n (x ∷ xs) = refl

-- back at any open begin: those inside it and it are closed
pub after_cancel : (n d : ℕ) (items : List Saved) (ms : List (List (ℕ × ℕ))) (s x : Saved) (w : List (ℕ × ℕ)) → d < n → n ≤ length items → n ≤ length ms → s ≡ get_or items d s → slice_get ms d ≡ Some w →
    drop (n - suc d) (checkpoints [] (take n items) ms) ≡ record { saved = s; writes = w } ∷ checkpoints [] (take d (set items d x)) (take d ms)
after_cancel n d items ms s x w lt a b e f =
    let all : (n - suc d) + suc d ≡ n = omega arith in
    let left = fewer (n - suc d) (suc d) items ms (omega arith) (omega arith) in
    rw (take-set items d x, front [] d items ms) (subst (λ m. drop (n - suc d) (checkpoints [] (take m items) ms) ≡ checkpoints [] (take (suc d) items) ms) all left ∙ last [] d items ms s w (omega arith) e f)

pub counts_begins : (d : ℕ) (items : List Saved) (ms : List (List (ℕ × ℕ))) → d ≤ length items → d ≤ length ms → d ≡ length (checkpoints [] (take d items) ms)
counts_begins d items ms a b = let e = count [] d items ms a b in omega arith
