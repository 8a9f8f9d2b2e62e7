-- Outcomes that show what others do, looked for one by one.
use Rattle.std.proofs.Common.{◌≡◌, ◌∙◌, ◌↔◌, ◌⊎◌, inl, inr, ℕ, zero, suc, ◌+◌, ◌<◌, ◌≤◌, Bool, true, false, IsTrue, List, [], ◌∷◌, ◌++◌, All, Contains, map, length, get_or, take, refl, sym, ap, subst, arith}
use Rattle.std.proofs.lemmas.Bool.{false≢true}
use Rattle.std.proofs.lemmas.List.{get_or-map, length-map, map-append, take_all, take_more}
use Rattle.std.proofs.lemmas.List.Elements.{All-append, All-cons, Contains-append_cases}
use Rattle.report.specs.OutcomeList.{reports}
use Rattle.report.specs.Printed as plain
use Rattle.refinements.specs.ShownBy.{IsShownAmong, IsShownBy}
use Rattle.report.specs.Views.{printed_of, reported_of, shown_of, thread_of}
use Rattle.report.specs.declared.outcome_list.ReportedOrder.{ReportedOrder}
use Rattle.report.specs.declared.printed.Printed.{Printed}
use Rattle.report.specs.declared.printed.Shown.{Shown}
use Rattle.report.specs.declared.printed.ThreadShown.{ThreadShown}

-- ---- what is shown tells outcomes apart

module _ {A : Type 0} where
  thread_back : plain.ThreadShown → ThreadShown A
  thread_back t = record { end = t.end; text = t.text }

  threads_back : (ts : List (ThreadShown A)) → map thread_back (map thread_of ts) ≡ ts
  unfolding thread_back
  threads_back [] = refl
  threads_back (t ∷ ts) = ap (λ us. t ∷ us) (threads_back ts)

  thread_tells : (ts us : List (ThreadShown A)) → map thread_of ts ≡ map thread_of us → ts ≡ us
  thread_tells ts us e = sym (threads_back ts) ∙ ap (map thread_back) e ∙ threads_back us

  shown_back : plain.Shown → Shown A
  shown_back s = record { name = s.name; ty = s.ty; words = s.words }

  shown_tells : (g h : Shown A) → shown_of g ≡ shown_of h → g ≡ h
  unfolding shown_back
  shown_tells g h e = ap shown_back e

  -- the report of an order
  abbrev pub report_of : ReportedOrder A → plain.Printed
  report_of o = printed_of o.shown

  reports_are : (os : List (ReportedOrder A)) → reports (map reported_of os) ≡ map report_of os
  reports_are [] = refl
  reports_are (o ∷ os) = ap (λ ps. report_of o ∷ ps) (reports_are os)

-- ---- a search, one by one

-- a list of one
just_at : {X : Type 0} (x z : X) (k : ℕ) → k < 1 → get_or (x ∷ []) k z ≡ z → x ≡ z
just_at x z zero below e = e
just_at x z (suc k) below e = absurd (omega (arith, below))

just : {X : Type 0} (x z : X) → Contains (x ∷ []) z → x ≡ z
just x z has = just_at x z has.0 has.1 has.2

neither : {X : Type 0} (xs : List X) (x z : X) → (Contains xs z → ⊥) → (x ≡ z → ⊥) → Contains xs z ⊎ Contains (x ∷ []) z → ⊥
neither xs x z none ne (inl h) = none h
neither xs x z none ne (inr h) = ne (just x z h)

module _ {X Y : Type 0} (f : Y → X) where
  pub seen_more : (xs : List Y) (i : ℕ) (x : Y) → x ≡ get_or xs i x → i < length xs → map f (take i xs) ++ f x ∷ [] ≡ map f (take (i + 1) xs)
  seen_more xs i x at lt = sym (map-append f (take i xs) (x ∷ [])) ∙ ap (map f) (ap (λ y. take i xs ++ y ∷ []) at ∙ sym (take_more xs i x lt))

  none_more : (xs : List Y) (i : ℕ) (x : Y) (z : X) → (Contains (map f (take i xs)) z → ⊥) → x ≡ get_or xs i x → i < length xs → (f x ≡ z → ⊥) → Contains (map f (take (i + 1) xs)) z → ⊥
  none_more xs i x z none at lt ne has =
      neither (map f (take i xs)) (f x) z none ne (Contains-append_cases (map f (take i xs)) (f x ∷ []) z (subst (λ l. Contains l z) (sym (seen_more xs i x at lt)) has))

  has_one : (xs : List Y) (i : ℕ) (x : Y) (z : X) → x ≡ get_or xs i x → i < length xs → f x ≡ z → Contains (map f xs) z
  has_one xs i x z at lt e = (i, let n = length-map xs f in omega (arith, n, lt), get_or-map f xs i x z lt ∙ ap f (sym at) ∙ e)

-- ---- what is so of each, one by one

pub all_none : {X : Type 0} (P : X → Type 0) → All P []
all_none P k d lt = absurd (omega (arith, lt))

module _ {X Y : Type 0} (P : X → Type 0) (f : Y → X) where
  pub all_start : (xs : List Y) → All P (map f (take 0 xs))
  all_start [] = all_none P
  all_start (x ∷ xs) = all_none P

  pub all_more : (xs : List Y) (i : ℕ) (x : Y) → All P (map f (take i xs)) → x ≡ get_or xs i x → i < length xs → P (f x) → All P (map f (take (i + 1) xs))
  all_more xs i x so at lt p = subst (All P) (seen_more f xs i x at lt) (All-append P (map f (take i xs)) (f x ∷ []) so (All-cons P (f x) [] p (all_none P)))

  pub all_over : (xs : List Y) (i : ℕ) → All P (map f (take i xs)) → length xs ≤ i → All P (map f xs)
  all_over xs i so over = subst (λ ys. All P (map f ys)) (take_all i xs over) so

  -- where it is not so of one, it is not of all
  pub not_all : (xs : List Y) (i : ℕ) (x : Y) → x ≡ get_or xs i x → i < length xs → (P (f x) → ⊥) → All P (map f xs) → ⊥
  not_all xs i x at lt lacks all =
      lacks (subst P (get_or-map f xs i x (f x) lt ∙ ap f (sym at)) (all i (f x) (let n = length-map xs f in omega (arith, n, lt))))

-- ---- globals

module _ {A : Type 0} (gs : List (Shown A)) (i : ℕ) (one wanted : Shown A) (same : Bool) (is : IsTrue same ↔ (one ≡ wanted)) (at : one ≡ get_or gs i one) (lt : i < length gs) where
  pub not_this_global : (Contains (map shown_of (take i gs)) (shown_of wanted) → ⊥) → same ≡ false → Contains (map shown_of (take (i + 1) gs)) (shown_of wanted) → ⊥
  not_this_global none differs = none_more shown_of gs i one (shown_of wanted) none at lt (λ e. false≢true (sym differs ∙ is.1 (shown_tells one wanted e)))

  pub this_global : same ≡ true → Contains (map shown_of gs) (shown_of wanted)
  this_global holds = has_one shown_of gs i one (shown_of wanted) at lt (ap shown_of (is.0 holds))

pub no_global : {A : Type 0} (gs : List (Shown A)) (i : ℕ) (wanted : plain.Shown) → (Contains (map shown_of (take i gs)) wanted → ⊥) → length gs ≤ i → Contains (map shown_of gs) wanted → ⊥
no_global gs i wanted none over has = none (subst (λ xs. Contains (map shown_of xs) wanted) (sym (take_all i gs over)) has)

pub nothing_before : {X Y : Type 0} (f : Y → X) (xs : List Y) (z : X) → Contains (map f (take 0 xs)) z → ⊥
nothing_before f [] z has = absurd (let lt = has.1 in omega (arith, lt))
nothing_before f (x ∷ xs) z has = absurd (let lt = has.1 in omega (arith, lt))

-- ---- what an outcome shows

pub shown_by : {A : Type 0} (this that : Printed A) → (this.threads ≡ that.threads) → All (Contains (map shown_of that.globals)) (map shown_of this.globals) → IsShownBy (printed_of this) (printed_of that)
shown_by this that same all = record { threads = ap (map thread_of) same; globals = all }

pub same_threads : {A : Type 0} (this that : Printed A) → IsShownBy (printed_of this) (printed_of that) → this.threads ≡ that.threads
same_threads this that is = thread_tells this.threads that.threads is.threads

-- both are so, or the first is not
pub shown_if : {A : Type 0} (this that : Printed A) (a b : Bool) (gs ws : List (Shown A)) → IsTrue a ↔ (this.threads ≡ that.threads) → IsTrue b ↔ All (Contains (map shown_of gs)) (map shown_of ws) → gs ≡ that.globals → ws ≡ this.globals → a ≡ true → IsTrue b ↔ IsShownBy (printed_of this) (printed_of that)
shown_if this that a b gs ws one other of_that of_this holds =
    let those = subst (λ xs. IsTrue b ↔ All (Contains (map shown_of xs)) (map shown_of ws)) of_that other in
    let these = subst (λ xs. IsTrue b ↔ All (Contains (map shown_of that.globals)) (map shown_of xs)) of_this those in
    (λ t. shown_by this that (one.0 holds) (these.0 t), λ is. these.1 is.globals)

pub not_shown : {A : Type 0} (this that : Printed A) (a : Bool) → IsTrue a ↔ (this.threads ≡ that.threads) → a ≡ false → IsTrue false ↔ IsShownBy (printed_of this) (printed_of that)
not_shown this that a one fails = (λ t. absurd (false≢true t), λ is. absurd (false≢true (sym fails ∙ one.1 (same_threads this that is))))

-- ---- outcomes

module _ {A : Type 0} (os : List (ReportedOrder A)) (this : plain.Printed) where
  -- none of the first shows it
  abbrev pub IsNoneOf : ℕ → Type 0
  IsNoneOf i = (that : plain.Printed) → Contains (map report_of (take i os)) that → IsShownBy this that → ⊥

  pub none_start : IsNoneOf 0
  none_start that has is = nothing_before report_of os that has

  pub none_next : (i : ℕ) (one : ReportedOrder A) → IsNoneOf i → one ≡ get_or os i one → i < length os → (IsShownBy this (report_of one) → ⊥) → IsNoneOf (i + 1)
  none_next i one none at lt lacks that has is = by (Contains-append_cases (map report_of (take i os)) (report_of one ∷ []) that (subst (λ l. Contains l that) (sym (seen_more report_of os i one at lt)) has))
    where
      by : Contains (map report_of (take i os)) that ⊎ Contains (report_of one ∷ []) that → ⊥
      by (inl h) = none that h is
      by (inr h) = lacks (subst (IsShownBy this) (sym (just (report_of one) that h)) is)

  pub none_over : (i : ℕ) → IsNoneOf i → length os ≤ i → IsShownAmong (map reported_of os) this → ⊥
  none_over i none over among =
      none among.0 (subst (λ xs. Contains (map report_of xs) among.0) (sym (take_all i os over)) (subst (λ ps. Contains ps among.0) (reports_are os) among.1)) among.2

  pub one_shows : (i : ℕ) (one : ReportedOrder A) → one ≡ get_or os i one → i < length os → IsShownBy this (report_of one) → IsShownAmong (map reported_of os) this
  one_shows i one at lt is = (report_of one, subst (λ ps. Contains ps (report_of one)) (sym (reports_are os)) (has_one report_of os i one (report_of one) at lt refl), is)

-- one of these
pub one_of : {A : Type 0} (os : List (ReportedOrder A)) (i : ℕ) (one : ReportedOrder A) → one ≡ get_or os i one → i < length os → Contains (map reported_of os) (reported_of one)
one_of os i one at lt = has_one reported_of os i one (reported_of one) at lt refl

-- each report
pub all_reports : {A : Type 0} (P : plain.Printed → Type 0) (os : List (ReportedOrder A)) (i : ℕ) → All P (map report_of (take i os)) → length os ≤ i → All P (reports (map reported_of os))
all_reports P os i so over = subst (All P) (sym (reports_are os)) (all_over P report_of os i so over)
