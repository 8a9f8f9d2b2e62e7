-- The first unmet demand of two lists, one behind the other.
use Rattle.std.proofs.Common.{◌≡◌, ℕ, List, [], ◌∷◌, ◌++◌, Option, Some, None, Bool, true, false, refl, sym, ap, subst, ◌∙◌, if◌then◌else◌, Result, Ok, Err}
use Rattle.std.specs.Option.{option_or}
use Rattle.std.specs.Result.{IsErr, IsErrAnd}
use Rattle.syntax.specs.Tree.{Span}
use Rattle.syntax.specs.declared.violation.Violation.{Violation}
use Rattle.types.specs.declared.fault.TypeFailure.{TypeFailure}
use Rattle.types.specs.declared.fault.TypeFailure.TheVariants.{Violation as Breaks}
use Rattle.types.specs.declared.fault.TypeFailure.TheVariants as F
use Rattle.syntax.specs.Violations.{told_of}
use Rattle.types.specs.inner.Unmet.{unmet_in, Tells}
use Rattle.syntax.specs.Typing.{Demand, first_unmet, demand}

-- the first unmet demand of two lists
pub first_of_two : (ds es : List Demand) → first_unmet (ds ++ es) ≡ option_or (first_unmet ds) (first_unmet es)
first_of_two [] es = refl
first_of_two (d ∷ ds) es = by d.met (first_unmet ds) (first_unmet es) (first_unmet (ds ++ es)) (d.number, d.span) (first_of_two ds es)
  where
    by : (b : Bool) (r s t : Option (ℕ × Span)) (f : ℕ × Span) → t ≡ option_or r s → (if b then t else Some f) ≡ option_or (if b then r else Some f) s
    by true r s t f h = h
    by false r s t f h = refl

pub or_or : {F : Type 0} (a b c : Option F) → option_or (option_or a b) c ≡ option_or a (option_or b c)
or_or None b c = refl
or_or (Some x) b c = refl

pub first_of_three : (a b c : List Demand) → first_unmet (a ++ b ++ c) ≡ option_or (first_unmet a) (option_or (first_unmet b) (first_unmet c))
first_of_three a b c = first_of_two (a ++ b) c ∙ ap (λ o. option_or o (first_unmet c)) (first_of_two a b) ∙ or_or (first_unmet a) (first_unmet b) (first_unmet c)

-- a `?` that goes on: what is left is all
pub skip : {X : Type 0} (r : Result X Violation) (x : X) (here rest all : Option (ℕ × Span)) → all ≡ option_or here rest → unmet_in r ≡ here → r ≡ Ok x → all ≡ rest
skip r x here rest all a h e = a ∙ ap (λ o. option_or o rest) (sym h ∙ ap unmet_in e)

error_in : {Y : Type 0} (s : Result Y Violation) (f : Violation) → IsErr s × IsErrAnd s (λ y. y ≡ f) → unmet_in s ≡ Some (told_of f)
error_in (Ok y) f h = absurd h.1
error_in (Err g) f h = ap (λ b. Some (told_of b)) h.1

-- a `?` that stops
pub stop : {X Y : Type 0} (r : Result X Violation) (s : Result Y Violation) (f : Violation) (here rest all : Option (ℕ × Span)) → all ≡ option_or here rest → unmet_in r ≡ here → r ≡ Err f → IsErr s × IsErrAnd s (λ y. y ≡ f) → unmet_in s ≡ all
stop r s f here rest all a h e g = error_in s f g ∙ sym (a ∙ ap (λ o. option_or o rest) (sym h ∙ ap unmet_in e))

told : {Y : Type 0} (s : Result Y TypeFailure) (f : Violation) (all : Option (ℕ × Span)) → IsErr s × IsErrAnd s (λ y. y ≡ Breaks f) → Some (told_of f) ≡ all → Tells s all
told (Ok y) f all h e = absurd h.1
told (Err g) f all h e = subst (λ b. Tells {X = Unit {0}} (Err b) all) (sym h.1) e

-- a `?` over a single rule, in a check that may want memory
pub stop_at : {X Y : Type 0} (r : Result X Violation) (s : Result Y TypeFailure) (f : Violation) (here rest all : Option (ℕ × Span)) → all ≡ option_or here rest → unmet_in r ≡ here → r ≡ Err f → IsErr s × IsErrAnd s (λ y. y ≡ Breaks f) → Tells s all
stop_at r s f here rest all a h e g = told s f all g (sym (a ∙ ap (λ o. option_or o rest) (sym h ∙ ap unmet_in e)))

-- the same over a check that may want memory
pub tell_skip : {X : Type 0} (r : Result X TypeFailure) (x : X) (here rest all : Option (ℕ × Span)) → all ≡ option_or here rest → Tells r here → r ≡ Ok x → all ≡ rest
tell_skip r x here rest all a h e = let none : None ≡ here = subst (λ q. Tells q here) e h in a ∙ ap (λ o. option_or o rest) (sym none)

tell_or : (X Y : Type 0) (f : TypeFailure) (here rest : Option (ℕ × Span)) → Tells {X = X} (Err f) here → Tells {X = Y} (Err f) (option_or here rest)
tell_or X Y F.OutOfMemory here rest h = tt
tell_or X Y (Breaks b) here rest h = ap (λ o. option_or o rest) h

err_is : {Y : Type 0} (s : Result Y TypeFailure) (f : TypeFailure) → IsErr s × IsErrAnd s (λ y. y ≡ f) → s ≡ Err f
err_is (Ok y) f h = absurd h.1
err_is (Err g) f h = ap Err h.1

pub tell_stop : {X Y : Type 0} (r : Result X TypeFailure) (s : Result Y TypeFailure) (f : TypeFailure) (here rest all : Option (ℕ × Span)) → all ≡ option_or here rest → Tells r here → r ≡ Err f → IsErr s × IsErrAnd s (λ y. y ≡ f) → Tells s all
tell_stop {X} {Y} r s f here rest all a h e g = subst (λ q. Tells q all) (sym (err_is s f g)) (subst (λ o. Tells {X = Y} (Err f) o) (sym a) (tell_or X Y f here rest (subst (λ q. Tells q here) e h)))

-- what is told of the rest is told of all
pub tell_rest : {X : Type 0} (s : Result X TypeFailure) (rest all : Option (ℕ × Span)) → all ≡ rest → Tells s rest → Tells s all
tell_rest s rest all a h = subst (Tells s) (sym a) h

tell_err : (X Y : Type 0) (f : TypeFailure) (all : Option (ℕ × Span)) → Tells {X = X} (Err f) all → Tells {X = Y} (Err f) all
tell_err X Y F.OutOfMemory all h = tt
tell_err X Y (Breaks b) all h = h

-- a `?` over the whole
pub tell_same : {X Y : Type 0} (r : Result X TypeFailure) (s : Result Y TypeFailure) (f : TypeFailure) (here all : Option (ℕ × Span)) → here ≡ all → Tells r here → r ≡ Err f → IsErr s × IsErrAnd s (λ y. y ≡ f) → Tells s all
tell_same {X} {Y} r s f here all a h e g = subst (λ q. Tells q all) (sym (err_is s f g)) (tell_err X Y f all (subst (λ q. Tells q all) e (subst (Tells r) a h)))

-- a `?` over the whole, of single rules
pub tell_single : {X Y : Type 0} (r : Result X Violation) (s : Result Y TypeFailure) (f : Violation) (all : Option (ℕ × Span)) → unmet_in r ≡ all → r ≡ Err f → IsErr s × IsErrAnd s (λ y. y ≡ Breaks f) → Tells s all
tell_single r s f all h e g = told s f all g (sym (ap unmet_in e) ∙ h)

-- a single rule that is met
pub demand_met : {X : Type 0} (r : Result X Violation) (x : X) (n : ℕ) (at : Span) (met : Bool) → unmet_in r ≡ first_unmet (demand n at met) → r ≡ Ok x → met ≡ true
demand_met r x n at true h e = refl
demand_met r x n at false h e = absurd (let f = sym (ap unmet_in e) ∙ h in cc)
