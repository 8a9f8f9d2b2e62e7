-- What is given for an argument.
use Rattle.std.proofs.Common.{◌≡◌, ◌∙◌, ◌<◌, ◌^◌, ℕ, Bool, false, Option, Some, None, Result, Ok, Err, refl, sym, ap, subst}
use Rattle.std.specs.Prelude.{◌↔◌, IsSomeAnd, IsTrue}
use Rattle.std.specs.Str.Parse.{IsNumeral, digits_value, without_leading_plus}
use Rattle.std.specs.Str.{bytes_eq}
use Rattle.std.proofs.lemmas.Slice.Eq.{bytes_eq-Decides}
use Rattle.clap.specs.Words.{Text}
use Rattle.clap.specs.Matches.{TriesOne}
use Rattle.command.specs.Asked.{IsNoNumber, IsNumberRead, SaysNumber}

-- the number that was read is the number that is said
pub number_read : {E : Type 0} (gives : Text → Result ℕ E → Type 0) → ((t : Text) (n : ℕ) → gives t (Ok n) → SaysNumber t n) → (o : Option Text) (n : Option ℕ) → (o ≡ None → ◌≡◌ {A = Result (Option ℕ) E} (Ok n) (Ok None)) → ((t : Text) → o ≡ Some t → TriesOne gives t (Ok n)) → IsNumberRead o n
number_read gives exact None None none some = tt
number_read gives exact None (Some n) none some = let e = none refl in cc
number_read gives exact (Some t) None none some = absurd (some t refl)
number_read gives exact (Some t) (Some n) none some = exact t n (some t refl)

-- a text of which no number was read says none
pub number_unread : {E : Type 0} (gives : Text → Result ℕ E → Type 0) → ((t : Text) (e : E) → gives t (Err e) → IsNoNumber t) → (o : Option Text) (e : E) → (o ≡ None → ◌≡◌ {A = Result (Option ℕ) E} (Err e) (Ok None)) → ((t : Text) → o ≡ Some t → TriesOne gives t (Err e)) → IsSomeAnd o IsNoNumber
number_unread gives exact None e none some = let e = none refl in cc
number_unread gives exact (Some t) e none some = exact t e (some t refl)

-- what `parse` says of a text
pub parsed : (t : Text) (n : ℕ) → (IsNumeral 10 (without_leading_plus t) × (digits_value 10 (without_leading_plus t) < 2 ^ 32)) × (n ≡ digits_value 10 (without_leading_plus t)) → SaysNumber t n
parsed t n p = (p.0.0, sym p.1, subst (λ m. m < 4294967296) (sym p.1) p.0.1)

pub unparsed : (t : Text) → (IsNumeral 10 (without_leading_plus t) × (digits_value 10 (without_leading_plus t) < 2 ^ 32) → ⊥) → IsNoNumber t
unparsed t none n says = none (says.0, subst (λ m. m < 4294967296) (sym says.1) says.2)

-- a text was compared with this one
pub text_compared : (o : Option Text) (text said : Text) (b : Bool) → Some text ≡ o → b ≡ bytes_eq text said → IsTrue b ↔ (o ≡ Some said)
text_compared o text said b is compared = let d = bytes_eq-Decides text said in (λ t. sym is ∙ ap Some (d.0 (sym compared ∙ t)), λ e. let same : text ≡ said = cc in compared ∙ d.1 same)

-- there is none
pub none_compared : (o : Option Text) (said : Text) → None ≡ o → IsTrue false ↔ (o ≡ Some said)
none_compared o said is = (λ t. cc, λ e. cc)
