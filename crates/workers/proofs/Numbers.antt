-- Numbers of workers, handles and results, as they are moved from one list to another.
use Rattle.std.proofs.Common.{◌≡◌, ◌⊎◌, inl, inr, ⊎_elim, ℕ, suc, ◌+◌, ◌<◌, ◌≤◌, List, [], ◌∷◌, ◌++◌, length, sym, ◌∙◌, subst, refl, arith}
use Rattle.atomic_table.specs.Seated.{TableId}
use Rattle.shared_words.specs.Setup.{Setup}
use Rattle.workers.specs.declared.worker.Worker.{Worker}
use Rattle.workers.specs.Workers.{AreWorkersFrom}
use Rattle.workers.specs.Closing.{AllHere, HasWorkerFor}
use Rattle.workers.specs.inner.Driving.{HasNumber}
use Rattle.workers.specs.Seen.{worker_number}

module _ {A : Type 0} (f : A → ℕ) where
  numbered_last : (xs : List A) (x : A) (n : ℕ) → HasNumber f (xs ++ x ∷ []) n → HasNumber f xs n ⊎ (f x ≡ n)
  numbered_last [] x n (inl e) = inr e
  numbered_last [] x n (inr a) = absurd a
  numbered_last (y ∷ xs) x n (inl e) = inl (inl e)
  numbered_last (y ∷ xs) x n (inr a) = ⊎_elim (λ b. inl (inr b)) (λ e. inr e) (numbered_last xs x n a)

  numbered_front : (xs : List A) (x : A) (n : ℕ) → HasNumber f xs n → HasNumber f (xs ++ x ∷ []) n
  numbered_front [] x n a = absurd a
  numbered_front (y ∷ xs) x n (inl e) = inl e
  numbered_front (y ∷ xs) x n (inr a) = inr (numbered_front xs x n a)

  numbered_end : (xs : List A) (x : A) (n : ℕ) → f x ≡ n → HasNumber f (xs ++ x ∷ []) n
  numbered_end [] x n e = inl e
  numbered_end (y ∷ xs) x n e = inr (numbered_end xs x n e)

-- one moves from the end of one list to the end of the other
pub moved : {A B : Type 0} (f : A → ℕ) (g : B → ℕ) (Q : ℕ → Type 0) (xs left : List A) (x : A) (ys more : List B) (y : B) → ((n : ℕ) → Q n → HasNumber f xs n ⊎ HasNumber g ys n) → xs ≡ left ++ x ∷ [] → more ≡ ys ++ y ∷ [] → f x ≡ g y
    → (n : ℕ) → Q n → HasNumber f left n ⊎ HasNumber g more n
moved f g Q xs left x ys more y each is leads same n q =
    subst (λ l. HasNumber f left n ⊎ HasNumber g l n) (sym leads) (⊎_elim
    (λ a. ⊎_elim (λ b. inl b) (λ e. inr (numbered_end g ys y n (sym same ∙ e))) (numbered_last f left x n (subst (λ l. HasNumber f l n) is a)))
    (λ b. inr (numbered_front g ys y n b))
    (each n q))

from_first : {A : Type 0} (z : TableId) (key : Setup) (from : ℕ) (ws : List (Worker A)) → AreWorkersFrom z key from ws → (n : ℕ) → from ≤ n → n < from + length ws → HasNumber worker_number ws n
from_first z key from [] a n le lt = absurd (omega arith)
from_first z key from (w ∷ ws) a n le lt = at (λ g. from_first z key (suc from) ws a.3 n g (omega arith)) (equal_or n from le)
  where
    equal_or : (n m : ℕ) → m ≤ n → (m ≡ n) ⊎ (suc m ≤ n)
    equal_or n m l = grind arith

    at : (suc from ≤ n → HasNumber worker_number ws n) → (from ≡ n) ⊎ (suc from ≤ n) → HasNumber worker_number (w ∷ ws) n
    at ih (inl e) = inl (a.1 ∙ e)
    at ih (inr g) = inr (ih g)

pub numbers_from : {A : Type 0} (z : TableId) (key : Setup) (ws : List (Worker A)) → AreWorkersFrom z key 0 ws → (count : ℕ) → length ws ≡ count → (n : ℕ) → n < count → HasNumber worker_number ws n
numbers_from z key ws a count len n lt = from_first z key 0 ws a n (omega arith) (omega arith)

has_worker : {A : Type 0} (ws : List (Worker A)) (n : ℕ) → HasNumber worker_number ws n → HasWorkerFor ws n
has_worker [] n a = absurd a
has_worker (w ∷ ws) n (inl e) = (0, w, refl, e)
has_worker (w ∷ ws) n (inr a) = let h = has_worker ws n a in (suc h.0, h.1, h.2, h.3)

pub all_here : {A : Type 0} (ws : List (Worker A)) (count : ℕ) → ((n : ℕ) → n < count → HasNumber worker_number ws n) → AllHere ws count
all_here ws count each n lt = has_worker ws n (each n lt)
