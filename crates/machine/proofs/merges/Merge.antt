-- Laws of merges: a merge of transactions that took effect follows the history.
use Rattle.std.proofs.Common.{◌≡◌, ◌≢◌, ◌<◌, ◌≤◌, ◌+◌, ◌*◌, ◌%◌, ◌==◌, ◌⊎◌, inl, inr, ℕ, Bool, true, false, cond, List, [], ◌∷◌, refl, sym, ◌∙◌, ap, subst, arith}
use Rattle.std.specs.List.{AllByRecursion}
use Rattle.std.proofs.lemmas.Bool.{eq-eqb}
use Rattle.machine.specs.inner.Invariant.{HasTaker, History, LeftIs, Ordered, RecordOk, next_snapshot}
use Rattle.machine.specs.Merges.{Entry, IsSorted, key, key_of, own}
use Rattle.machine.specs.Worlds.{Record}

-- the thread's own first entry
own_head : (e : Entry) (es : List Entry) → own e.thread (e ∷ es) ≡ e.item ∷ own e.thread es
own_head e es = rw (eq-eqb e.thread e.thread refl) refl

own_tail : (P : Record → Type 0) (t : ℕ) (e : Entry) (es : List Entry) → AllByRecursion P (own t (e ∷ es)) → AllByRecursion P (own t es)
own_tail P t e es all = at (e.thread == t) all
  where
    at : (b : Bool) → AllByRecursion P (cond b (e.item ∷ own t es) (own t es)) → AllByRecursion P (own t es)
    at true h = h.1
    at false h = h

-- what holds of each thread's own transactions holds of all
pub all_own : (P : ℕ → Record → Type 0) (threads : ℕ) (es : List Entry) → ((t : ℕ) → t < threads → AllByRecursion (P t) (own t es)) → AllByRecursion (λ (e : Entry). e.thread < threads) es → AllByRecursion (λ (e : Entry). P e.thread e.item) es
all_own P threads [] each below = tt
all_own P threads (e ∷ es) each below = (
  (subst (AllByRecursion (P e.thread)) (own_head e es) (each e.thread below.0)).0,
  all_own P threads es (λ t lt. own_tail (P t) t e es (each t lt)) below.1,
)

-- each later transaction of the thread begins after this one
pub Rising : List Record → Type 0
Rising [] = Unit {0}
Rising (x ∷ xs) = AllByRecursion (λ (y : Record). next_snapshot x.snapshot x.took_lock ≤ y.snapshot) xs × Rising xs

next_le : (s : ℕ) (b : Bool) → s ≤ next_snapshot s b
next_le s true = omega arith
next_le s false = omega arith

ordered_low : (r s : ℕ) (xs : List Record) (e : ℕ) → r ≤ s → Ordered s xs e → AllByRecursion (λ (y : Record). r ≤ y.snapshot) xs
ordered_low r s [] e le o = tt
ordered_low r s (x ∷ xs) e le o =
    let first = o.0 in
    let more = next_le x.snapshot x.took_lock in
    (omega arith, ordered_low r (next_snapshot x.snapshot x.took_lock) xs e (omega arith) o.1)

pub rising : (s : ℕ) (xs : List Record) (e : ℕ) → Ordered s xs e → Rising xs
unfolding Rising
rising s [] e o = tt
rising s (x ∷ xs) e o = (ordered_low (next_snapshot x.snapshot x.took_lock) (next_snapshot x.snapshot x.took_lock) xs e (omega arith) o.1, rising (next_snapshot x.snapshot x.took_lock) xs e o.1)

rising_tail : (t : ℕ) (e : Entry) (es : List Entry) → Rising (own t (e ∷ es)) → Rising (own t es)
unfolding Rising
rising_tail t e es r = at (e.thread == t) r
  where
    at : (b : Bool) → Rising (cond b (e.item ∷ own t es) (own t es)) → Rising (own t es)
    at true h = h.1
    at false h = h

-- an entry that took the lock from s
abbrev pub Has : ℕ → List Entry → Type 0
Has s [] = ⊥
Has s (e ∷ es) = ((e.item.took_lock ≡ true) × (e.item.snapshot ≡ s)) ⊎ Has s es

pub has_own : (s t : ℕ) (es : List Entry) → HasTaker s (own t es) → Has s es
has_own s t [] m = m
has_own s t (e ∷ es) m = at (e.thread == t) m (has_own s t es)
  where
    at : (b : Bool) → HasTaker s (cond b (e.item ∷ own t es) (own t es)) → (HasTaker s (own t es) → Has s es) → ((e.item.took_lock ≡ true) × (e.item.snapshot ≡ s)) ⊎ Has s es
    at true (inl h) rec = inl h
    at true (inr h) rec = inr (rec h)
    at false h rec = inr (rec h)

key_of_taker : (s : ℕ) (b : Bool) → b ≡ true → key_of s b ≡ 2 * s + 1
key_of_taker s true e = refl
key_of_taker s false e = absurd (cc)

has_sorted : (s k : ℕ) (es : List Entry) → IsSorted k es → Has s es → k ≤ 2 * s + 1
has_sorted s k [] o h = absurd h
has_sorted s k (e ∷ es) o (inl h) =
    let le = o.0 in
    let is = key_of_taker e.item.snapshot e.item.took_lock h.0 in
    let at = h.1 in
    omega arith
has_sorted s k (e ∷ es) o (inr h) =
    let le = o.0 in
    let r = has_sorted s (key e) es o.1 h in
    omega arith

abbrev pub EntryOk : History → Entry → Type 0
EntryOk h e = RecordOk h e.thread e.item

left_of_taker : (h : History) (t : ℕ) (x : Record) (b : Bool) → b ≡ true → LeftIs h t x b → (x.snapshot + 2 ≤ h.top) × (h.owner x.snapshot ≡ t) × (x.left ≡ h.mem (x.snapshot + 2))
left_of_taker h t x true e k = k
left_of_taker h t x false e k = absurd (cc)

-- no other entry took the lock from there
abbrev pub NoneTookFrom : ℕ → List Entry → Type 0
NoneTookFrom s es = AllByRecursion (λ (e : Entry). e.item.took_lock ≡ true → e.item.snapshot ≢ s) es

lacks_later : (h : History) (s u : ℕ) (es : List Entry) → h.owner s ≡ u → AllByRecursion (EntryOk h) es → AllByRecursion (λ (y : Record). s + 2 ≤ y.snapshot) (own u es) → NoneTookFrom s es
lacks_later h s u [] o ok low = tt
lacks_later h s u (e ∷ es) o ok low = (
  λ m is.
      let mine : e.thread ≡ u = sym (left_of_taker h e.thread e.item e.item.took_lock m ok.0.left).1 ∙ ap h.owner is ∙ o in
      let low' = subst (AllByRecursion (λ (y : Record). s + 2 ≤ y.snapshot)) (ap (λ v. own v (e ∷ es)) (sym mine) ∙ own_head e es) low in
      let here = low'.0 in
      omega arith,
  lacks_later h s u es o ok.1 (own_tail (λ (y : Record). s + 2 ≤ y.snapshot) u e es low),
)

-- the entries follow the history from one lock value to another
abbrev pub Follows : ℕ → List Entry → ℕ → Type 0
Follows s [] e = s ≡ e
Follows s (x ∷ xs) e = (x.item.snapshot ≡ s) × Follows (next_snapshot s x.item.took_lock) xs e

-- from the key s + 1 on without s itself, all begin at s + 2 or later
low_after : (h : History) (s k : ℕ) (es : List Entry) → s % 2 ≡ 0 → 2 * s + 1 ≤ k → IsSorted k es → NoneTookFrom s es → AllByRecursion (EntryOk h) es → AllByRecursion (λ (e : Entry). s + 2 ≤ e.item.snapshot) es
low_after h s k [] even le o l ok = tt
low_after h s k (e ∷ es) even le o l ok =
    let up = o.0 in
    (at e.item.took_lock refl, low_after h s (key e) es even (omega arith) o.1 l.1 ok.1)
  where
    at : (b : Bool) → e.item.took_lock ≡ b → s + 2 ≤ e.item.snapshot
    at true m =
        let is : key e ≡ 2 * e.item.snapshot + 1 = ap (key_of e.item.snapshot) m in
        let ne = l.0 m in
        let ev = ok.0.even in
        let up = o.0 in
        omega arith
    at false m =
        let is : key e ≡ 2 * e.item.snapshot + 0 = ap (key_of e.item.snapshot) m in
        let ev = ok.0.even in
        let up = o.0 in
        omega arith

-- Each merge follows the history.
pub follows : (h : History) (threads s k : ℕ) (es : List Entry) → h.top % 2 ≡ 0 → s % 2 ≡ 0 → s ≤ h.top → AllByRecursion (EntryOk h) es → IsSorted k es → AllByRecursion (λ (e : Entry). s ≤ e.item.snapshot) es → AllByRecursion (λ (e : Entry). e.thread < threads) es → ((t : ℕ) → t < threads → Rising (own t es)) → ((r : ℕ) → r % 2 ≡ 0 → s ≤ r → r < h.top → Has r es) → Follows s es h.top
unfolding Rising
follows h threads s k [] even es le ok o low below up has = at (cases)
  where
    cases : (s ≡ h.top) ⊎ (s < h.top)
    cases = grind arith

    at : (s ≡ h.top) ⊎ (s < h.top) → s ≡ h.top
    at (inl e) = e
    at (inr lt) = absurd (has s es (omega arith) lt)
follows h threads s k (e ∷ es) even ev le ok o low below up has = (here, next e.item.took_lock refl (λ s' k' ev' le' o' low' has'. follows h threads s' k' es even ev' le' ok.1 o' low' below.1 (λ t lt. rising_tail t e es (up t lt)) has'))
  where
    first : (s ≡ e.item.snapshot) ⊎ (s < e.item.snapshot)
    first = let l = low.0 in grind arith

    snap_top : (b : Bool) → LeftIs h e.thread e.item b → e.item.snapshot ≤ h.top
    snap_top true k' = let x = k'.0 in omega arith
    snap_top false k' = k'.0

    key_ge : (b : Bool) → 2 * e.item.snapshot ≤ key_of e.item.snapshot b
    key_ge true = omega arith
    key_ge false = omega arith

    here_of : (s ≡ e.item.snapshot) ⊎ (s < e.item.snapshot) → e.item.snapshot ≡ s
    here_of (inl f) = sym f
    here_of (inr lt) =
        let t = snap_top e.item.took_lock ok.0.left in
        let ev' = ok.0.even in
        absurd (none (has s ev (omega arith) (omega arith)))
      where
        none : ((e.item.took_lock ≡ true) × (e.item.snapshot ≡ s)) ⊎ Has s es → ⊥
        none (inl f) = let same = f.1 in omega arith
        none (inr f) =
            let r = has_sorted s (key e) es o.1 f in
            let g = key_ge e.item.took_lock in
            let ev' = ok.0.even in
            omega arith

    here : e.item.snapshot ≡ s
    here = here_of first

    next : (b : Bool) → e.item.took_lock ≡ b → ((s' k' : ℕ) → s' % 2 ≡ 0 → s' ≤ h.top → IsSorted k' es → AllByRecursion (λ (f : Entry). s' ≤ f.item.snapshot) es → ((r : ℕ) → r % 2 ≡ 0 → s' ≤ r → r < h.top → Has r es) → Follows s' es h.top) → Follows (next_snapshot s e.item.took_lock) es h.top
    next false m rec = rw m (rec s (key e) ev le o.1 low.1 (λ r er ge lt. others r (has r er ge lt)))
      where
        others : (r : ℕ) → ((e.item.took_lock ≡ true) × (e.item.snapshot ≡ r)) ⊎ Has r es → Has r es
        others r (inl f) = absurd (let y = f.0 in cc)
        others r (inr f) = f
    next true m rec =
        let tk = left_of_taker h e.thread e.item e.item.took_lock m ok.0.left in
        let top = tk.0 in
        let rise = subst Rising (own_head e es) (up e.thread below.0) in
        let low_own : AllByRecursion (λ (y : Record). s + 2 ≤ y.snapshot) (own e.thread es) = subst (λ n. AllByRecursion (λ (y : Record). n ≤ y.snapshot) (own e.thread es)) (ap (next_snapshot e.item.snapshot) m ∙ ap (λ n. n + 2) here) rise.0 in
        let lacks : NoneTookFrom s es = lacks_later h s e.thread es (ap h.owner (sym here) ∙ tk.1) ok.1 low_own in
        let is : key e ≡ 2 * s + 1 = ap (key_of e.item.snapshot) m ∙ ap (λ n. 2 * n + 1) here in
        rw m (rec (s + 2) (key e) (omega arith) (omega arith) o.1 (low_after h s (key e) es ev (omega arith) o.1 lacks ok.1) (λ r er ge lt. others r ge (has r er (omega arith) lt)))
      where
        others : (r : ℕ) → s + 2 ≤ r → ((e.item.took_lock ≡ true) × (e.item.snapshot ≡ r)) ⊎ Has r es → Has r es
        others r ge (inl f) = absurd (let y = f.1 in let z = here in omega arith)
        others r ge (inr f) = f
