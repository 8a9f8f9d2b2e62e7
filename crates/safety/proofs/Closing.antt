-- The search for callers, step by step.
use Rattle.std.proofs.Common.{◌≡◌, ℕ, zero, suc, ◌+◌, ◌<◌, ◌≤◌, List, [], ◌∷◌, ◌++◌, length, length-append, append_assoc, get_or, set, replicate, refl, sym, ap, subst, ◌∙◌, arith, Bool, true, false, cond, inl, inr}
use Rattle.std.specs.Prelude.{Contains, if◌then◌else◌}
use Rattle.std.specs.List.{count_by}
use Rattle.std.proofs.lemmas.List.{append-nil, get_or_default, get_or-set_same, get_or-set_other, length-set, get_or_append_left}
use Rattle.std.proofs.lemmas.List.Elements.{Contains-push, Contains-append_left, Contains-append_right, Contains-append_cases}
use Rattle.std.proofs.lemmas.List.Sums.{sum_by-set, count_by-le-length}
use Rattle.std.proofs.lemmas.Grind.{common_steps}
use Rattle.std.proofs.lemmas.Bool.{cases_lt, cases_eq}
use Rattle.safety.specs.inner.Graphs.{callers_at, IsReached, SearchState, enqueue, all_visited}
use Rattle.safety.specs.inner.Closing.{IsWithin, IsMember, IsQueued, IsClosing, IsClosed}

pub one_is : (x y : ℕ) → Contains (x ∷ []) y → y ≡ x
one_is x y (zero, less, e) = sym e
one_is x y (suc k, less, e) = absurd (omega (arith, less))

member_within : (members : List Bool) (i : ℕ) → IsMember members i → i < length members
member_within [] i h = absurd (no h)
  where
    no : false ≡ true → ⊥
    no e = cc
member_within (b ∷ members) zero h = omega arith
member_within (b ∷ members) (suc i) h = let le = member_within members i h in omega (arith, le)

member_more : (members : List Bool) (i k : ℕ) → i < length members → IsMember members k → IsMember (set members i true) k
member_more members i k less h = elim (cases_eq k i) [
  | inl e ↦ subst (IsMember (set members i true)) (sym e) (get_or-set_same members i true false less)
  | inr n ↦ get_or-set_other members i k true false n ∙ h
]

module _ (callers : List (List ℕ)) where
  module _ (s : SearchState) (i : ℕ) where
    abbrev put : SearchState
    put = record { members = set s.members i true; queue = s.queue ++ i ∷ [] }

    put_keeps : IsQueued callers s → i < length s.members → get_or s.members i true ≡ false → IsReached callers i → IsQueued callers put
    put_keeps h less not reached = record {
      same = length-set s.members i true ∙ h.same;
      count = (let more = sum_by-set (λ b. cond b 1 0) s.members i true true less in let here = ap (λ b. cond {A = ℕ} b 1 0) not in let size = length-append s.queue (i ∷ []) in omega (arith, more, here, size, h.count));
      queued = λ k m. elim (cases_eq k i) [
        | inl e ↦ subst (Contains (s.queue ++ i ∷ [])) (sym e) (Contains-push s.queue i)
        | inr n ↦ Contains-append_left s.queue (i ∷ []) k (h.queued k (sym (get_or-set_other s.members i k true false n) ∙ m))
      ];
      member = λ k c. elim (Contains-append_cases s.queue (i ∷ []) k c) [
        | inl old ↦ member_more s.members i k less (h.member k old)
        | inr new ↦ subst (IsMember (set s.members i true)) (sym (one_is i k new)) (get_or-set_same s.members i true false less)
      ];
      reached = λ k c. elim (Contains-append_cases s.queue (i ∷ []) k c) [
        | inl old ↦ h.reached k old
        | inr new ↦ subst (IsReached callers) (sym (one_is i k new)) reached
      ];
    }

    keeps_by : (b : Bool) → get_or s.members i true ≡ b → IsQueued callers s → i < length s.members → IsReached callers i → IsQueued callers (if b then s else put)
    keeps_by true e h less reached = h
    keeps_by false e h less reached = put_keeps h less e reached

    visited_keeps : IsQueued callers s → i < length s.members → IsReached callers i → IsQueued callers (enqueue s i)
    visited_keeps h less reached = keeps_by (get_or s.members i true) refl h less reached

    member_by : (b : Bool) → get_or s.members i true ≡ b → i < length s.members → IsMember (if b then s else put).members i
    member_by true e less = get_or_default s.members i false true less ∙ e
    member_by false e less = get_or-set_same s.members i true false less

    visited_is_member : i < length s.members → IsMember (enqueue s i).members i
    visited_is_member less = member_by (get_or s.members i true) refl less

    grows_by : (b : Bool) (k : ℕ) → i < length s.members → IsMember s.members k → IsMember (if b then s else put).members k
    grows_by true k less h = h
    grows_by false k less h = member_more s.members i k less h

    visited_grows : (k : ℕ) → i < length s.members → IsMember s.members k → IsMember (enqueue s i).members k
    visited_grows k less h = grows_by (get_or s.members i true) k less h

    more_by : (b : Bool) → (more : List ℕ) × ((if b then s else put).queue ≡ s.queue ++ more)
    more_by true = ([], sym (append-nil s.queue))
    more_by false = (i ∷ [], refl)

  -- what visiting numbers one by one leaves
  record AreVisited (s t : SearchState) (all : List ℕ) : Type 0 where
    known : IsQueued callers t
    grows : (k : ℕ) → IsMember s.members k → IsMember t.members k
    more : List ℕ
    longer : t.queue ≡ s.queue ++ more
    member : (i : ℕ) → Contains all i → IsMember t.members i

  all_keep : (all : List ℕ) (s : SearchState) → IsQueued callers s → ((i : ℕ) → Contains all i → (i < length callers) × IsReached callers i) → AreVisited s (all_visited s all) all
  all_keep [] s h right = record { known = h; grows = λ k m. m; more = []; longer = sym (append-nil s.queue); member = λ i c. absurd (omega (arith, c.1)) }
  all_keep (i ∷ all) s h right =
      let here = right i (0, omega arith, refl) in
      let less : i < length s.members = omega (arith, h.same, here.0) in
      let mid = enqueue s i in
      let rest = all_keep all mid (visited_keeps s i h less here.1) (λ k c. right k (Contains-append_right (i ∷ []) all k c)) in
      let first = more_by s i (get_or s.members i true) in
      record {
        known = rest.known;
        grows = λ k m. rest.grows k (visited_grows s i k less m);
        more = first.0 ++ rest.more;
        longer = rest.longer ∙ ap (λ q. q ++ rest.more) first.1 ∙ append_assoc s.queue first.0 rest.more;
        member = λ k c. elim (Contains-append_cases (i ∷ []) all k c) [
          | inl one ↦ subst (IsMember (all_visited mid all).members) (sym (one_is i k one)) (rest.grows i (visited_is_member s i less))
          | inr other ↦ rest.member k other
        ];
      }

  -- one number of the queue more
  pub closing_more : (s t : SearchState) (at next : ℕ) → IsWithin callers → IsClosing callers at s → at < length s.queue → next ≡ get_or s.queue at 0 → t ≡ all_visited s (callers_at callers next) → IsClosing callers (at + 1) t
  closing_more s t at next within h less is visits =
      let mine : Contains s.queue next = (at, less, get_or_default s.queue at next 0 less ∙ sym is) in
      let done = all_keep (callers_at callers next) s h.known (λ i c. (within next i c, let way = h.known.reached next mine in (next ∷ way.0, (c, way.1)))) in
      subst (IsClosing callers (at + 1)) (sym visits) (record {
        known = done.known;
        begun = done.grows 0 h.begun;
        passed = (let size = ap length done.longer ∙ length-append s.queue done.more in omega (arith, size, less));
        done = λ k i lt c. elim (cases_lt k at) [
          | inl before ↦ done.grows i (h.done k i before (subst (λ j. Contains (callers_at callers j) i) (older k (omega (arith, before, less)) (all_visited s (callers_at callers next)).queue done.more done.longer) c))
          | inr behind ↦ (let e : k ≡ at = omega (arith, lt, behind) in
              done.member i (subst (λ j. Contains (callers_at callers j) i) (older k (omega (arith, e, less)) (all_visited s (callers_at callers next)).queue done.more done.longer ∙ ap (λ m. get_or s.queue m 0) e ∙ sym is) c))
        ];
      })
    where
      older : (k : ℕ) → k < length s.queue → (q more : List ℕ) → q ≡ s.queue ++ more → get_or q k 0 ≡ get_or s.queue k 0
      older k less q more e = ap (λ xs. get_or xs k 0) e ∙ get_or_append_left s.queue more 0 k less

  pub queue_fits : (s : SearchState) → IsQueued callers s → length s.queue ≤ length callers
  queue_fits s h = let le = count_by-le-length (λ b. b) s.members in omega (arith, le, h.count, h.same)

  pub finished : (s : SearchState) (at : ℕ) → IsClosing callers at s → length s.queue ≤ at → IsClosed callers s.members
  finished s at h le = record {
    begun = h.begun;
    closed = λ j i m c. (let there = h.known.queued j m in h.done there.0 i (omega (arith, there.1, le)) (subst (λ q. Contains (callers_at callers q) i) (sym (get_or_default s.queue there.0 0 j there.1 ∙ there.2)) c));
    reached = λ i m. h.known.reached i (h.known.queued i m);
  }

  pub next_within : (s : SearchState) (at next : ℕ) → IsClosing callers at s → at < length s.queue → next ≡ get_or s.queue at 0 → next < length callers
  next_within s at next h less is =
      let mine : Contains s.queue next = (at, less, get_or_default s.queue at next 0 less ∙ sym is) in
      let member = member_within s.members next (h.known.member next mine) in
      omega (arith, member, h.known.same)

  no_members : (n i : ℕ) → get_or (replicate n false) i false ≡ false
  no_members zero i = refl
  no_members (suc n) zero = refl
  no_members (suc n) (suc i) = no_members n i

  no_member_counted : (n : ℕ) → count_by (λ b. b) (replicate n false) ≡ 0
  no_member_counted n = grind (arith, common_steps)

  length_members : (n : ℕ) → length (replicate n false) ≡ n
  length_members n = grind (arith, common_steps)

  nothing_known : (n : ℕ) → n ≡ length callers → IsQueued callers (record { members = replicate n false; queue = [] })
  nothing_known n e = record {
    same = length_members n ∙ e;
    count = sym (no_member_counted n);
    queued = λ i m. absurd (no (sym (no_members n i) ∙ m));
    member = λ i c. absurd (omega (arith, c.1));
    reached = λ i c. absurd (omega (arith, c.1));
  }
    where
      no : false ≡ true → ⊥
      no e = cc

  pub begins : (n : ℕ) (s : SearchState) → n ≡ length callers → 0 < length callers → s ≡ enqueue (record { members = replicate n false; queue = [] }) 0 → IsClosing callers 0 s
  begins n s e some is =
      let start : SearchState = record { members = replicate n false; queue = [] } in
      let less : 0 < length start.members = (let size = length_members n in omega (arith, size, e, some)) in
      subst (IsClosing callers 0) (sym is) (record {
        known = visited_keeps start 0 (nothing_known n e) less ([], refl);
        begun = visited_is_member start 0 less;
        passed = omega arith;
        done = λ k i lt c. absurd (omega (arith, lt));
      })
