-- Outcomes that are compared with a report, one by one.
use Rattle.std.proofs.Common.{◌≡◌, ◌∙◌, ◌⊎◌, inl, inr, ℕ, zero, suc, ◌+◌, ◌<◌, ◌≤◌, List, [], ◌∷◌, ◌++◌, All, Contains, map, length, get_or, take, slice_get, refl, sym, ap, subst, arith}
use Rattle.std.proofs.lemmas.Bool.{cases_order}
use Rattle.std.proofs.lemmas.List.{take_all}
use Rattle.std.proofs.lemmas.List.Elements.{All-push, All-weaker, Contains-append_left, Contains-push}
use Rattle.std.specs.Prelude.{codes}
use Rattle.differences.specs.Texts.{DifferFirstAt, IsFirstDifference, difference_text, text_lines}
use Rattle.report.specs.OutcomeList as plain
use Rattle.report.specs.Views.{reported_of}
use Rattle.report.specs.declared.outcome_list.ReportedOrder.{ReportedOrder}
use Rattle.refinements.specs.Admitted.{DiffersAt, DiffersBy, HasReport}
use Rattle.refinements.specs.inner.Closest.{IsClosest}
use Rattle.refinements.specs.declared.admitted.Closest.{Closest}
use Rattle.refinements.proofs.Among.{all_none, seen_more}

-- ---- texts first differ in one line

get_of_take : (xs : List (List ℕ)) (n k : ℕ) → k < n → slice_get (take n xs) k ≡ slice_get xs k
get_of_take [] zero k low = absurd (omega (arith, low))
get_of_take [] (suc n) k low = refl
get_of_take (x ∷ xs) zero k low = absurd (omega (arith, low))
get_of_take (x ∷ xs) (suc n) zero low = refl
get_of_take (x ∷ xs) (suc n) (suc k) low = get_of_take xs n k (omega (arith, low))

not_before : (due found : List (List ℕ)) (a b : ℕ) → DifferFirstAt due found a → DifferFirstAt due found b → a < b → ⊥
not_before due found a b first other low =
    first.differs (sym (get_of_take due b a low) ∙ ap (λ xs. slice_get xs a) other.same ∙ get_of_take found b a low)

one_line_by : (due found : List (List ℕ)) (a b : ℕ) → DifferFirstAt due found a → DifferFirstAt due found b → (a ≡ b) ⊎ ((a < b) ⊎ (b < a)) → a ≡ b
one_line_by due found a b first other (inl same) = same
one_line_by due found a b first other (inr (inl low)) = absurd (not_before due found a b first other low)
one_line_by due found a b first other (inr (inr low)) = absurd (not_before due found b a other first low)

pub one_line : (due found : List (List ℕ)) (a b : ℕ) → DifferFirstAt due found a → DifferFirstAt due found b → a ≡ b
one_line due found a b first other = one_line_by due found a b first other (cases_order a b)

-- ---- one outcome more

module _ (os : List plain.ReportedOrder) (report : List ℕ) (o : plain.ReportedOrder) (line : ℕ) (at : DiffersAt report o line) where
  one_more : (before most : ℕ) → before ≤ most → line ≤ most → All (DiffersBy report before) os → All (DiffersBy report most) (os ++ o ∷ [])
  one_more before most low lower all =
      All-push (DiffersBy report most) os o (All-weaker (DiffersBy report before) (DiffersBy report most) (λ u by. (by.0, by.1, let k = by.2 in omega (arith, k, low))) os all) (line, at, lower)

  pub first_one : os ≡ [] → Contains (os ++ o ∷ []) o × DiffersAt report o line × All (DiffersBy report line) (os ++ o ∷ [])
  first_one none =
      let all = subst (All (DiffersBy report line)) (sym none) (all_none (DiffersBy report line)) in
      (Contains-push os o, at, one_more line line (omega arith) (omega arith) all)

  pub closer_one : (u : plain.ReportedOrder) (before : ℕ) → Contains os u × DiffersAt report u before × All (DiffersBy report before) os → before < line → Contains (os ++ o ∷ []) o × DiffersAt report o line × All (DiffersBy report line) (os ++ o ∷ [])
  closer_one u before was low = (Contains-push os o, at, one_more before line (omega (arith, low)) (omega arith) was.2)

  pub other_stays : (u : plain.ReportedOrder) (before : ℕ) → Contains os u × DiffersAt report u before × All (DiffersBy report before) os → line ≤ before → Contains (os ++ o ∷ []) u × DiffersAt report u before × All (DiffersBy report before) (os ++ o ∷ [])
  other_stays u before was low = (Contains-append_left os (o ∷ []) u was.0, was.1, one_more before before (omega arith) low was.2)

  pub same_stays : (u : plain.ReportedOrder) → Contains os u × HasReport report u → Contains (os ++ o ∷ []) u × HasReport report u
  same_stays u was = (Contains-append_left os (o ∷ []) u was.0, was.1)

-- ---- the outcomes so far

pub none_before : {A : Type 0} (xs : List (ReportedOrder A)) → map reported_of (take 0 xs) ≡ []
none_before [] = refl
none_before (x ∷ xs) = refl

pub one_seen : {A : Type 0} (xs : List (ReportedOrder A)) (report : List ℕ) (i : ℕ) (x : ReportedOrder A) (next : Closest A) → x ≡ get_or xs i x → i < length xs → IsClosest (map reported_of (take i xs) ++ reported_of x ∷ []) report next → IsClosest (map reported_of (take (i + 1) xs)) report next
one_seen xs report i x next at low is = subst (λ os. IsClosest os report next) (seen_more reported_of xs i x at low) is

pub all_seen : {A : Type 0} (xs : List (ReportedOrder A)) (report : List ℕ) (i : ℕ) (closest : Closest A) → length xs ≤ i → IsClosest (map reported_of (take i xs)) report closest → IsClosest (map reported_of xs) report closest
all_seen xs report i closest over is = subst (λ ys. IsClosest (map reported_of ys) report closest) (take_all i xs over) is

-- what is so of all is so of each
pub each_by : (os : List plain.ReportedOrder) (report : List ℕ) (at : ℕ) (o : plain.ReportedOrder) → All (DiffersBy report at) os → Contains os o → DiffersBy report at o
each_by os report at o all has = subst (DiffersBy report at) has.2 (all has.0 o has.1)

-- ---- the text of the line that differs

-- it is that of the first difference
pub line_shown : (due text found : List ℕ) (at line : ℕ) (told : List ℕ) → text ≡ due → IsFirstDifference text found at → told ≡ difference_text (codes "outcome") (codes "report") text found at → IsFirstDifference due found line → told ≡ difference_text (codes "outcome") (codes "report") due found line
line_shown due text found at line told same first is other =
    let here = subst (λ t. IsFirstDifference t found at) same first in
    let e = one_line (text_lines due) (text_lines found) at line here other in
    subst (λ k. told ≡ difference_text (codes "outcome") (codes "report") due found k) e (subst (λ t. told ≡ difference_text (codes "outcome") (codes "report") t found at) same is)

-- equal texts differ in no line
pub same_texts : (due text found : List ℕ) (line : ℕ) → text ≡ due → found ≡ text → IsFirstDifference due found line → ⊥
same_texts due text found line same equal other =
    let e : due ≡ found = sym same ∙ sym equal in
    other.differs (ap (λ t. slice_get (text_lines t) line) e)
