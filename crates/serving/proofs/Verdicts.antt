-- Verdicts: whether something holds or not, and the known bytes of the file that it is about.
use Rattle.std.proofs.Common.{◌≡◌, ◌≢◌, ◌∙◌, ◌⊎◌, ◌≤◌, inl, inr, ℕ, List, Option, Some, None, subst, arith}
use Rattle.std.specs.Prelude.{IfSome}
use Rattle.std.specs.Io.KnownBytes.{Appends}
use Rattle.serving.specs.Verdicts.{IsEither, Tells}
use Rattle.serving.specs.Written.{AppendsBeginning, WritesPart}
use Rattle.serving.specs.inner.Serves.{PrintsEither, ServesEither}
use Rattle.serving.proofs.Parts.{part_so, printed_unrefused, printed_within}
use Rattle.serving.proofs.Printing.{serves_so}

-- ---- a verdict by one definition is one by another

module _ (S N T M : List ℕ → Type 0) (one : (w : List ℕ) → S w → T w) (other : (w : List ℕ) → N w → M w) where
  pub tells_so : (status : ℕ) (old new : Option (List ℕ)) → Tells S N status old new → Tells T M status old new
  tells_so status old new t = record {
    so = λ e. let w = t.so e in (w.0, one w.0 w.1, w.2);
    not_so = λ e. let w = t.not_so e in (w.0, other w.0 w.1, w.2);
  }

  pub either_so : (w : List ℕ) → IsEither S N w → IsEither T M w
  either_so w (inl s) = inl (one w s)
  either_so w (inr n) = inr (other w n)

  pub writes_so : (old new : Option (List ℕ)) → WritesPart (IsEither S N) old new → WritesPart (IsEither T M) old new
  writes_so old new w = part_so (IsEither S N) (IsEither T M) old new either_so w

  pub prints_so : (status : ℕ) (old new : Option (List ℕ)) → PrintsEither S N status old new → PrintsEither T M status old new
  prints_so status old new s = serves_so s (tells_so status old new) (writes_so old new)

-- ---- a status that reports no verdict

pub tells_nothing : (S N : List ℕ → Type 0) (status : ℕ) (old new : Option (List ℕ)) → status ≢ 0 → status ≢ 5 → Tells S N status old new
tells_nothing S N status old new no_zero no_five = record { so = λ e. absurd (no_zero e); not_so = λ e. absurd (no_five e) }

-- a refusal
pub tells_refusal : (S N : List ℕ → Type 0) (status : ℕ) (old new : Option (List ℕ)) → status ≤ 4 → status ≢ 0 → Tells S N status old new
tells_refusal S N status old new within not_ended = tells_nothing S N status old new not_ended (λ e. absurd (omega (arith, within, e)))

pub not_zero : (status : ℕ) → (status ≡ 2) ⊎ (status ≡ 4) → status ≢ 0
not_zero status (inl e) = λ z. absurd (omega (arith, e, z))
not_zero status (inr e) = λ z. absurd (omega (arith, e, z))

pub not_five : (status : ℕ) → (status ≡ 2) ⊎ (status ≡ 4) → status ≢ 5
not_five status (inl e) = λ z. absurd (omega (arith, e, z))
not_five status (inr e) = λ z. absurd (omega (arith, e, z))

pub not_one : (status : ℕ) → (status ≡ 2) ⊎ (status ≡ 4) → status ≢ 1
not_one status (inl e) = λ z. absurd (omega (arith, e, z))
not_one status (inr e) = λ z. absurd (omega (arith, e, z))

pub at_most_five : (status : ℕ) → (status ≡ 2) ⊎ (status ≡ 4) → status ≤ 5
at_most_five status (inl e) = omega (arith, e)
at_most_five status (inr e) = omega (arith, e)

-- ---- the known bytes of a file

pub known_so : (P Q : List ℕ → Type 0) → ((bytes : List ℕ) → P bytes → Q bytes) → (known : Option (List ℕ)) → IfSome known P → IfSome known Q
known_so P Q so None p = tt
known_so P Q so (Some bytes) p = so bytes p

pub known_all : (P : List ℕ → Type 0) → ((bytes : List ℕ) → P bytes) → (known : Option (List ℕ)) → IfSome known P
known_all P all None = tt
known_all P all (Some bytes) = all bytes

pub known_is : (P : List ℕ → Type 0) (known : Option (List ℕ)) (found taken : List ℕ) → IfSome known (λ bytes. found ≡ bytes) → taken ≡ found → P taken → IfSome known P
known_is P None found taken is same p = tt
known_is P (Some bytes) found taken is same p = subst P (same ∙ is) p

-- or another fact holds
pub known_or : (X : Type 0) (P : List ℕ → Type 0) (known : Option (List ℕ)) (found taken : List ℕ) → IfSome known (λ bytes. found ≡ bytes) → taken ≡ found → X ⊎ P taken → X ⊎ IfSome known P
known_or X P known found taken is same (inl x) = inl x
known_or X P known found taken is same (inr p) = inr (known_is P known found taken is same p)

-- ---- a verdict on its bytes

module _ (S N : List ℕ → List ℕ → Type 0) where
  -- these bytes were read
  pub either_known : (known : Option (List ℕ)) (found taken : List ℕ) (status : ℕ) (old new : Option (List ℕ)) → IfSome known (λ bytes. found ≡ bytes) → taken ≡ found → ServesEither S N ⊥ (Some taken) status old new → ServesEither S N ⊥ known status old new
  either_known None found taken status old new is same s = record {
    within = s.within;
    answers = tt;
    refused = s.refused;
    written = tt;
    untouched = s.untouched;
  }
  either_known (Some bytes) found taken status old new is same s = subst (λ b. ServesEither S N ⊥ (Some b) status old new) (same ∙ is) s

  -- there are no bytes, and nothing is written
  pub either_untold : (known : Option (List ℕ)) (status : ℕ) (old new : Option (List ℕ)) → (status ≡ 2) ⊎ (status ≡ 4) → new ≡ old → ServesEither S N ⊥ known status old new
  either_untold known status old new is same = record {
    within = at_most_five status is;
    answers = known_all (λ b. Tells (S b) (N b) status old new) (λ b. tells_nothing (S b) (N b) status old new (not_zero status is) (not_five status is)) known;
    refused = λ e. not_one status is e;
    written = known_all (λ b. WritesPart (IsEither (S b) (N b)) old new) (λ b. inl same) known;
    untouched = λ e. same;
  }

-- by one definition and by another
module _ (S N T M : List ℕ → List ℕ → Type 0) (one : (b w : List ℕ) → S b w → T b w) (other : (b w : List ℕ) → N b w → M b w) where
  pub either_served : (Refuses : Type 0) (known : Option (List ℕ)) (status : ℕ) (old new : Option (List ℕ)) → ServesEither S N ⊥ known status old new → ServesEither T M Refuses known status old new
  either_served Refuses None status old new s = record {
    within = s.within;
    answers = tt;
    refused = λ e. absurd (s.refused e);
    written = tt;
    untouched = s.untouched;
  }
  either_served Refuses (Some b) status old new s = serves_so s (tells_so (S b) (N b) (T b) (M b) (one b) (other b) status old new) (writes_so (S b) (N b) (T b) (M b) (one b) (other b) old new)

-- a text is printed that reports that it holds
pub prints_text : (S N : List ℕ → Type 0) (text : List ℕ) (status : ℕ) (old new : Option (List ℕ)) → S text → (status ≡ 0) ⊎ (status ≡ 4) → (status ≡ 0 → Appends old new text) → AppendsBeginning old new text → PrintsEither S N status old new
prints_text S N text status old new so is printed part = record {
  within = let most = printed_within status is in omega (arith, most);
  answers = record { so = λ e. (text, so, printed e); not_so = λ e. absurd (let most = printed_within status is in omega (arith, most, e)) };
  refused = printed_unrefused status is;
  written = inr (text, inl so, part);
  untouched = λ e. absurd (printed_unrefused status is e);
}
