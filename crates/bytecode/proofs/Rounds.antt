-- The begins round a begin, as arrivals tell them, are those behind it in the list of open begins.
use Rattle.std.proofs.Common.{◌≡◌, ◌≢◌, ℕ, zero, suc, ◌+◌, ◌-◌, ◌<◌, ◌≤◌, List, [], ◌∷◌, length, drop, Option, Some, None, sym, ap, ◌∙◌, subst, arith}
use Rattle.std.proofs.lemmas.List.{length-drop}
use Rattle.bytecode.specs.declared.walk.Arrival.{Arrival}
use Rattle.bytecode.specs.declared.walk.Arrival.TheVariants.{Unseen, Outside, Inside}
use Rattle.bytecode.specs.inner.Walking.{Arrivals, arrival_at, begin_in, begin_round}
use Rattle.bytecode.proofs.Tables.{Table, IsChain, some_same}
use Rattle.bytecode.proofs.Arrivals.{innermost, table}

-- some are open where one is the innermost
pub some_open : (t : Table) (b : ℕ) (bs : List ℕ) → IsChain t (Some b) bs → 0 < length bs
some_open t b [] c = cc c
some_open t b (d ∷ bs) c = omega arith

pub not_empty : (t : Table) (b : ℕ) (bs : List ℕ) → IsChain t (Some b) bs → bs ≢ []
not_empty t b [] c e = cc c
not_empty t b (d ∷ bs) c e = cc e

-- as many are open as stand in front of one, and that one
pub enough : (t : Table) (n b : ℕ) (bs : List ℕ) → IsChain t (Some b) (drop (n - 1) bs) → n ≤ length bs
enough t n b bs c = let some = some_open t b (drop (n - 1) bs) c in let l = length-drop (n - 1) bs in omega (arith, some, l)

module _ (first : ℕ) (ms : Arrivals) where
  -- the begin so many further out, or that there are no more than so many
  abbrev pub IsRound : ℕ → List ℕ → Option ℕ → Type 0
  IsRound n bs None = length bs ≤ n
  IsRound n bs (Some d) = IsChain (table first ms) (Some d) (drop n bs)

  -- a step out, where k of n steps are made
  pub steps_out : (n k b c : ℕ) (x : Option ℕ) → k < n → arrival_at first ms b ≡ Some (Inside c) → begin_round first ms (n - k) b ≡ x → begin_round first ms (n - (k + 1)) c ≡ x
  steps_out n k b c x lt e h =
      let left : n - k ≡ suc (n - (k + 1)) = omega (arith, lt) in
      subst (λ o. begin_in o (begin_round first ms (n - (k + 1))) ≡ x) e (subst (λ m. begin_round first ms m b ≡ x) left h)

  none_round : (n : ℕ) (bs : List ℕ) → IsChain (table first ms) None bs → length bs ≤ n
  none_round n [] c = omega arith
  none_round n (d ∷ bs) c = cc c.0

  one_further : (n b : ℕ) (bs : List ℕ) (x : Option ℕ) → IsRound n bs x → IsRound (suc n) (b ∷ bs) x
  one_further n b bs None h = omega (arith, h)
  one_further n b bs (Some d) h = h

  out : (n b : ℕ) (bs : List ℕ) (parent : Option ℕ) (m : Option Arrival) (x : Option ℕ) → innermost m ≡ Some parent → IsChain (table first ms) parent bs → ((c : ℕ) → IsChain (table first ms) (Some c) bs → begin_round first ms n c ≡ x → IsRound n bs x) → begin_in m (begin_round first ms n) ≡ x → IsRound (suc n) (b ∷ bs) x
  out n b bs parent None x t c on e = cc t
  out n b bs parent (Some Unseen) x t c on e = cc t
  out n b bs parent (Some Outside) x t c on e =
      let none : IsChain (table first ms) None bs = subst (λ i. IsChain (table first ms) i bs) (sym (some_same None parent t)) c in
      subst (IsRound (suc n) (b ∷ bs)) e (one_further n b bs None (none_round n bs none))
  out n b bs parent (Some (Inside d)) x t c on e =
      one_further n b bs x (on d (subst (λ i. IsChain (table first ms) i bs) (sym (some_same (Some d) parent t)) c) e)

  -- the begin so many further out stands behind so many in the list
  pub rounds : (n b : ℕ) (bs : List ℕ) (x : Option ℕ) → IsChain (table first ms) (Some b) bs → begin_round first ms n b ≡ x → IsRound n bs x
  rounds zero b bs x c e = subst (IsRound zero bs) e c
  rounds (suc n) b [] x c e = cc c
  rounds (suc n) b (d ∷ bs) x c e =
      let same : b ≡ d = some_same b d c.0 in
      out n d bs c.1 (arrival_at first ms b) x (ap (table first ms) same ∙ c.2) c.3 (λ k h f. rounds n k bs x h f) e
