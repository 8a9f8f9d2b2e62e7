-- Orders that are stuck, though they were not without their last turn.
use Rattle.std.proofs.Common.{◌≡◌, ◌∙◌, ◌<◌, ℕ, List, [], ◌∷◌, ◌++◌, drop, length, refl, sym, ap, subst}
use Rattle.std.proofs.Math.Seq.{drop-append_seam, take-append_seam}
use Rattle.std.proofs.lemmas.List.{append-nil, append_assoc}
use Rattle.std.proofs.lemmas.List.Elements.{All-append, All-drop, All-take}
use Rattle.syntax.specs.Tree.{Program}
use Rattle.states.specs.Shown.{CanEnd, IsOrderAmong, IsStuck, NoneIsSpent, NoneWants, told_in}
use Rattle.serving.specs.Outcomes.{IsFirstStuck}

-- all but the last of some numbers, and the last
record HasLast (t : ℕ) (ts : List ℕ) : Type 0 where
  first : List ℕ
  last : ℕ
  is : t ∷ ts ≡ first ++ last ∷ []

has_last : (t : ℕ) (ts : List ℕ) → HasLast t ts
has_last t [] = record { first = []; last = t; is = refl }
has_last t (u ∷ ts) = let h = has_last u ts in record { first = t ∷ h.first; last = h.last; is = ap (λ xs. t ∷ xs) h.is }

module _ (p : Program) (count : ℕ) where
  -- a stuck order is stuck with more turns, and so cannot end
  never_ends : (before more : List ℕ) → IsOrderAmong count more → IsStuck p count before → CanEnd p count (before ++ more) → ⊥
  never_ends before more named stuck (further, ticks, names, unspent, over) =
      let same = append_assoc before more further in
      stuck (more ++ further) ticks (All-append (λ t. t < count) more further named names)
      (subst (λ xs. NoneIsSpent (told_in p count ticks xs)) same unspent) (subst (λ xs. NoneWants (told_in p count ticks xs)) same over)

  -- a stuck prefix of such an order is the whole order
  pub whole_prefix : (order before after : List ℕ) → IsOrderAmong count order → order ≡ before ++ after → IsStuck p count before → IsFirstStuck p count order → before ≡ order
  whole_prefix order before [] named is stuck first = sym (is ∙ append-nil before)
  whole_prefix order before (t ∷ after) named is stuck first =
      let h = has_last t after in
      let named_after : IsOrderAmong count (h.first ++ h.last ∷ []) =
      subst (IsOrderAmong count) (ap (drop (length before)) is ∙ drop-append_seam before (t ∷ after) ∙ h.is) (All-drop (λ x. x < count) (length before) order named) in
      let named_first : IsOrderAmong count h.first =
      subst (IsOrderAmong count) (take-append_seam h.first (h.last ∷ [])) (All-take (λ x. x < count) (length h.first) (h.first ++ h.last ∷ []) named_after) in
      absurd (never_ends before h.first named_first stuck
      (first.before (before ++ h.first) h.last (is ∙ ap (λ xs. before ++ xs) h.is ∙ sym (append_assoc before h.first (h.last ∷ [])))))
