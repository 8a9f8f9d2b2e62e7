-- What a list of entries that follows the history finds and leaves.
use Rattle.std.proofs.Common.{◌≡◌, ◌<◌, ◌≤◌, ◌+◌, ◌*◌, ◌%◌, ◌==◌, ◌⊎◌, inl, inr, ℕ, suc, Bool, true, false, cond, List, [], ◌∷◌, ◌++◌, refl, map, sym, ◌∙◌, ap, subst, arith}
use Rattle.std.specs.List.{AllByRecursion}
use Rattle.syntax.specs.Behaviours.{IsChained, IsMemory, Step, founds_of, last_memory, lefts_of, of_thread}
use Rattle.machine.specs.inner.Invariant.{History, LeftIs, Ordered, founds_in, lefts_in, next_snapshot}
use Rattle.machine.specs.Merges.{Entry, IsSorted, count_takers, key, key_of, own, run_of, step_of_entry}
use Rattle.machine.specs.Worlds.{Record}
use Rattle.machine.proofs.parts.Frame.{snapshot_le}
use Rattle.machine.proofs.merges.Merge.{EntryOk, Follows}

-- what a record leaves
left_after : (h : History) (s : ℕ) (t : ℕ) (x : Record) (b : Bool) → x.snapshot ≡ s → x.found ≡ h.mem x.snapshot → LeftIs h t x b → x.left ≡ h.mem (next_snapshot s b)
left_after h s t x true at is k = k.2 ∙ ap (λ n. h.mem (n + 2)) at
left_after h s t x false at is k = k.1 ∙ is ∙ ap h.mem at

pub chained : (h : History) (s : ℕ) (m : List ℕ) (es : List Entry) (e : ℕ) → m ≡ h.mem s → Follows s es e → AllByRecursion (EntryOk h) es → IsChained m (run_of es)
chained h s m [] e is f ok = tt
chained h s m (x ∷ xs) e is f ok = (
  ok.0.found ∙ ap h.mem f.0 ∙ sym is,
  chained h (next_snapshot s x.item.took_lock) x.item.left xs e (left_after h s x.thread x.item x.item.took_lock f.0 ok.0.found ok.0.left) f.1 ok.1,
)

pub threads_below : (threads : ℕ) (es : List Entry) → AllByRecursion (λ (e : Entry). e.thread < threads) es → AllByRecursion (λ (s : Step). s.thread < threads) (run_of es)
threads_below threads [] b = tt
threads_below threads (e ∷ es) b = (b.0, threads_below threads es b.1)

pub last_is : (h : History) (s : ℕ) (m : List ℕ) (es : List Entry) (e : ℕ) → m ≡ h.mem s → Follows s es e → AllByRecursion (EntryOk h) es → last_memory m (run_of es) ≡ h.mem e
last_is h s m [] e is f ok = is ∙ ap h.mem f
last_is h s m (x ∷ xs) e is f ok = last_is h (next_snapshot s x.item.took_lock) x.item.left xs e (left_after h s x.thread x.item x.item.took_lock f.0 ok.0.found ok.0.left) f.1 ok.1

pub founds_are : (t : ℕ) (es : List Entry) → founds_of t (run_of es) ≡ founds_in (own t es)
founds_are t [] = refl
founds_are t (x ∷ xs) = at (x.thread == t) (founds_are t xs)
  where
    at : (b : Bool) → founds_of t (run_of xs) ≡ founds_in (own t xs) → map (λ (s : Step). s.found) (cond b (step_of_entry x ∷ of_thread t (run_of xs)) (of_thread t (run_of xs))) ≡ founds_in (cond b (x.item ∷ own t xs) (own t xs))
    at true ih = ap (λ ms. x.item.found ∷ ms) ih
    at false ih = ih

pub lefts_are : (t : ℕ) (es : List Entry) → lefts_of t (run_of es) ≡ lefts_in (own t es)
lefts_are t [] = refl
lefts_are t (x ∷ xs) = at (x.thread == t) (lefts_are t xs)
  where
    at : (b : Bool) → lefts_of t (run_of xs) ≡ lefts_in (own t xs) → map (λ (s : Step). s.left) (cond b (step_of_entry x ∷ of_thread t (run_of xs)) (of_thread t (run_of xs))) ≡ lefts_in (cond b (x.item ∷ own t xs) (own t xs))
    at true ih = ap (λ ms. x.item.left ∷ ms) ih
    at false ih = ih

-- what records find and leave are memories
pub memories_are : (bounds : List ℕ) (h : History) (es : List Entry) → ((s : ℕ) → s ≤ h.top → IsMemory bounds (h.mem s)) → AllByRecursion (EntryOk h) es → AllByRecursion (λ (s : Step). IsMemory bounds s.found × IsMemory bounds s.left) (run_of es)
memories_are bounds h [] all ok = tt
memories_are bounds h (x ∷ xs) all ok = ((found, left x.item.took_lock ok.0.left), memories_are bounds h xs all ok.1)
  where
    found : IsMemory bounds x.item.found
    found = subst (IsMemory bounds) (sym ok.0.found) (all x.item.snapshot (snapshot_le h x.thread x.item x.item.took_lock ok.0.left))

    left : (b : Bool) → LeftIs h x.thread x.item b → IsMemory bounds x.item.left
    left true k = subst (IsMemory bounds) (sym k.2) (all (x.item.snapshot + 2) k.0)
    left false k = subst (IsMemory bounds) (sym k.1) found

pub counted : (s : ℕ) (es : List Entry) (e : ℕ) → Follows s es e → e ≡ s + 2 * count_takers es
counted s [] e f = omega arith
counted s (x ∷ xs) e f = at x.item.took_lock (counted (next_snapshot s x.item.took_lock) xs e f.1)
  where
    at : (b : Bool) → e ≡ next_snapshot s b + 2 * count_takers xs → e ≡ s + 2 * cond b (suc (count_takers xs)) (count_takers xs)
    at true ih = omega arith
    at false ih = ih

-- a merge cut at the place of a lock value
pub record Cut (s snapshot : ℕ) (es : List Entry) : Type 0 where
  pub before : List Entry
  pub after : List Entry
  pub place : es ≡ before ++ after
  pub follows : Follows s before snapshot
  pub later : IsSorted (2 * snapshot + 1) after

pub cut : (s snapshot k : ℕ) (es : List Entry) (e : ℕ) → s % 2 ≡ 0 → snapshot % 2 ≡ 0 → s ≤ snapshot → snapshot ≤ e → IsSorted k es → Follows s es e → Cut s snapshot es
cut s snapshot k [] e even even' lo hi o f = record { before = []; after = []; place = refl; follows = omega arith; later = tt }
cut s snapshot k (x ∷ xs) e even even' lo hi o f = at x.item.took_lock refl (λ s' ev lo' g. cut s' snapshot (key x) xs e ev even' lo' hi o.1 g)
  where
    more : Follows s (x ∷ []) (next_snapshot s x.item.took_lock) → Cut (next_snapshot s x.item.took_lock) snapshot xs → Cut s snapshot (x ∷ xs)
    more first c = record { before = x ∷ c.before; after = c.after; place = ap (λ l. x ∷ l) c.place; follows = (f.0, c.follows); later = c.later }

    at : (b : Bool) → x.item.took_lock ≡ b → ((s' : ℕ) → s' % 2 ≡ 0 → s' ≤ snapshot → Follows s' xs e → Cut s' snapshot xs) → Cut s snapshot (x ∷ xs)
    at false m rec = more (f.0, refl) (rec (next_snapshot s x.item.took_lock) (rw m even) (rw m lo) f.1)
    at true m rec = go (cases)
      where
        cases : (s ≡ snapshot) ⊎ (s + 2 ≤ snapshot)
        cases = parity (lt_or s snapshot lo)
          where
            lt_or : (a b : ℕ) → a ≤ b → (a ≡ b) ⊎ (a < b)
            lt_or a b le = grind arith

            parity : (s ≡ snapshot) ⊎ (s < snapshot) → (s ≡ snapshot) ⊎ (s + 2 ≤ snapshot)
            parity (inl q) = inl q
            parity (inr q) = inr (omega arith)

        key_is : key x ≡ 2 * snapshot + 1 → IsSorted (2 * snapshot + 1) (x ∷ xs)
        key_is q = (omega arith, o.1)

        go : (s ≡ snapshot) ⊎ (s + 2 ≤ snapshot) → Cut s snapshot (x ∷ xs)
        go (inl q) = record { before = []; after = x ∷ xs; place = refl; follows = q; later = key_is (ap (key_of x.item.snapshot) m ∙ ap (λ n. 2 * n + 1) (f.0 ∙ q)) }
        go (inr q) = more (f.0, refl) (rec (next_snapshot s x.item.took_lock) (rw m (omega arith)) (rw m q) f.1)

pub own-append : (t : ℕ) (xs ys : List Entry) → own t (xs ++ ys) ≡ own t xs ++ own t ys
own-append t [] ys = refl
own-append t (x ∷ xs) ys = at (x.thread == t) (own-append t xs ys)
  where
    at : (b : Bool) → own t (xs ++ ys) ≡ own t xs ++ own t ys → cond b (x.item ∷ own t (xs ++ ys)) (own t (xs ++ ys)) ≡ cond b (x.item ∷ own t xs) (own t xs) ++ own t ys
    at true ih = ap (λ l. x.item ∷ l) ih
    at false ih = ih

pub all_left : {X : Type 0} (P : X → Type 0) (xs ys : List X) → AllByRecursion P (xs ++ ys) → AllByRecursion P xs
all_left P [] ys all = tt
all_left P (x ∷ xs) ys all = (all.0, all_left P xs ys all.1)

pub all_right : {X : Type 0} (P : X → Type 0) (xs ys : List X) → AllByRecursion P (xs ++ ys) → AllByRecursion P ys
all_right P [] ys all = all
all_right P (x ∷ xs) ys all = all_right P xs ys all.1

-- the transactions of a thread end before its attempt's snapshot
pub ended_by : (s : ℕ) (xs : List Record) (e : ℕ) → Ordered s xs e → AllByRecursion (λ (x : Record). next_snapshot x.snapshot x.took_lock ≤ e) xs
ended_by s [] e o = tt
ended_by s (x ∷ xs) e o = (low (next_snapshot x.snapshot x.took_lock) xs o.1, ended_by (next_snapshot x.snapshot x.took_lock) xs e o.1)
  where
    step_up : (n : ℕ) (b : Bool) → n ≤ next_snapshot n b
    step_up n true = omega arith
    step_up n false = omega arith

    low : (r : ℕ) (ys : List Record) → Ordered r ys e → r ≤ e
    low r [] o' = o'
    low r (y ∷ ys) o' = let a = o'.0 in let b = step_up y.snapshot y.took_lock in let c = low (next_snapshot y.snapshot y.took_lock) ys o'.1 in omega arith

pub none_later : (t s k : ℕ) (es : List Entry) → 2 * s + 1 ≤ k → IsSorted k es → AllByRecursion (λ (x : Record). next_snapshot x.snapshot x.took_lock ≤ s) (own t es) → own t es ≡ []
none_later t s k [] le o all = refl
none_later t s k (e ∷ es) le o all = at (e.thread == t) all (none_later t s (key e) es (let up = o.0 in omega arith) o.1)
  where
    late : (b : Bool) → k ≤ key_of e.item.snapshot b → next_snapshot e.item.snapshot b ≤ s → ⊥
    late true up le' = omega arith
    late false up le' = omega arith

    at : (b : Bool) → AllByRecursion (λ (x : Record). next_snapshot x.snapshot x.took_lock ≤ s) (cond b (e.item ∷ own t es) (own t es)) → (AllByRecursion (λ (x : Record). next_snapshot x.snapshot x.took_lock ≤ s) (own t es) → own t es ≡ []) → cond b (e.item ∷ own t es) (own t es) ≡ []
    at true all' ih = absurd (late e.item.took_lock o.0 all'.0)
    at false all' ih = ih all'
