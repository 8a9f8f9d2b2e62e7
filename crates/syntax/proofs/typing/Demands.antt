-- Demands put together: the first unmet one of two lists, and what it is that all are met.
use Rattle.std.proofs.Common.{◌≡◌, ℕ, List, [], ◌∷◌, ◌++◌, Option, Some, None, Bool, true, false, refl, if◌then◌else◌, All, IsTrue}
use Rattle.std.specs.Option.{option_or}
use Rattle.std.proofs.lemmas.List.Elements.{All-nil, All-cons, All-head, All-tail}
use Rattle.lex.specs.declared.token.Span.{Span}
use Rattle.syntax.specs.Typing.{Demand, demand, first_unmet}

abbrev pub AreMet : List Demand → Type 0
AreMet ds = All (λ d. IsTrue d.met) ds

-- the first unmet demand of two lists
pub first_of_two : (ds es : List Demand) → first_unmet (ds ++ es) ≡ option_or (first_unmet ds) (first_unmet es)
first_of_two [] es = refl
first_of_two (d ∷ ds) es = by d.met (first_unmet ds) (first_unmet es) (first_unmet (ds ++ es)) (d.number, d.span) (first_of_two ds es)
  where
    by : (b : Bool) (r s t : Option (ℕ × Span)) (f : ℕ × Span) → t ≡ option_or r s → (if b then t else Some f) ≡ option_or (if b then r else Some f) s
    by true r s t f h = h
    by false r s t f h = refl

-- each demand is met where none is the first unmet one
pub all_met : (ds : List Demand) → None ≡ first_unmet ds → AreMet ds
all_met [] h = All-nil (λ d. IsTrue d.met)
all_met (d ∷ ds) h = let p = here d.met (first_unmet ds) (d.number, d.span) h in All-cons (λ e. IsTrue e.met) d ds p.0 (all_met ds p.1)
  where
    here : (b : Bool) (r : Option (ℕ × Span)) (f : ℕ × Span) → None ≡ (if b then r else Some f) → IsTrue b × (None ≡ r)
    here true r f h = (refl, h)
    here false r f h = absurd cc

pub none_unmet : (ds : List Demand) → AreMet ds → None ≡ first_unmet ds
none_unmet [] h = refl
none_unmet (d ∷ ds) h = here d.met (first_unmet ds) (d.number, d.span) (All-head (λ e. IsTrue e.met) d ds h) (none_unmet ds (All-tail (λ e. IsTrue e.met) d ds h))
  where
    here : (b : Bool) (r : Option (ℕ × Span)) (f : ℕ × Span) → IsTrue b → None ≡ r → None ≡ (if b then r else Some f)
    here true r f t h = h
    here false r f t h = absurd cc

-- what is met in two lists is met in each
pub met_before : (ds es : List Demand) → AreMet (ds ++ es) → AreMet ds
met_before [] es h = All-nil (λ d. IsTrue d.met)
met_before (d ∷ ds) es h = All-cons (λ e. IsTrue e.met) d ds (All-head (λ e. IsTrue e.met) d (ds ++ es) h) (met_before ds es (All-tail (λ e. IsTrue e.met) d (ds ++ es) h))

pub met_behind : (ds es : List Demand) → AreMet (ds ++ es) → AreMet es
met_behind [] es h = h
met_behind (d ∷ ds) es h = met_behind ds es (All-tail (λ e. IsTrue e.met) d (ds ++ es) h)

pub is_met : (n : ℕ) (at : Span) (met : Bool) → AreMet (demand n at met) → IsTrue met
is_met n at met h = All-head (λ e. IsTrue e.met) (record { number = n; span = at; met = met }) [] h
