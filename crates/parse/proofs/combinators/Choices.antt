-- One phrase or another, as the first token says.
use Rattle.std.proofs.Common.{◌≡◌, ℕ, suc, ◌≤◌, ◌<◌, Bool, true, false, if◌then◌else◌, nat_le, List, [], ◌∷◌, ◌++◌, Option, Some, None, Result, Ok, Err, refl, sym, ap, ◌∙◌, arith, ◌⊎◌, inl, inr}
use Rattle.std.proofs.lemmas.Bool.{cases_lt, le-leb, lt-leb}
use Rattle.lex.specs.declared.token.Fixed.{Fixed}
use Rattle.lex.specs.Tokens.{Tok}
use Rattle.syntax.specs.Phrases.{Phrase, Begins}
use Rattle.syntax.specs.Grammar.{optional}
use Rattle.parse.specs.inner.Reading.{Fault, wrong, deep, Parser, head, none, map_parser, choice, either, is_next, unless}
use Rattle.parse.proofs.combinators.Exact.{head_append, Reads, Refuses, FailsTooDeep, Exact, Comes, Empty, err_is, give_exact, choice_exact, value_of, restated}
use Rattle.parse.proofs.combinators.Parts.{MaybeW, BranchC}

-- ---- by the kind of the first token

pub kinds_exact : {K A : Type 0} (kind : Option Tok → K) (P : K → ℕ → Parser A) (Lk : K → A → Phrase) (L : A → Phrase) {W : ℕ → A → Type 0} {S B : A → Option Tok → Type 0} (C : A → Option Tok → Type 0) {d : ℕ}
    → ((k : K) → Exact (P k) (Lk k) W S B d)
    → ((x : A) (p q : List Tok) → L x p → S x (head q) → Lk (kind (head (p ++ q))) x p)
    → ((k : K) (x : A) (p : List Tok) → Lk k x p → L x p)
    → ((x : A) (p r : List Tok) → Lk (kind (head (p ++ r))) x p → B x (head r) → C x (head r))
    → Exact (λ D. choice (λ h. P (kind h) D)) L W S C d
kinds_exact kind P Lk L {W = W} {S = S} {B = B} C {d = d} E pick keep closing =
    choice_exact (λ D h. P (kind h) D) (λ h. Lk (kind h)) L W S C d B (λ h. E (kind h)) pick (λ h. keep (kind h)) closing

-- ---- by a test of the first token

abbrev EitherL : {A : Type 0} → (A → Phrase) → (A → Phrase) → Bool → A → Phrase
EitherL L M true x p = L x p
EitherL L M false x p = M x p

module _ {A : Type 0} (P Q : ℕ → Parser A) (L M : A → Phrase) (W : ℕ → A → Type 0) (S B C : A → Option Tok → Type 0) (d : ℕ) (test : Option Tok → Bool)
    (EP : Exact P L W S B d) (EQ : Exact Q M W S B d)
    (first : (x : A) (p q : List Tok) → L x p → S x (head q) → test (head (p ++ q)) ≡ true)
    (second : (x : A) (p q : List Tok) → M x p → S x (head q) → test (head (p ++ q)) ≡ false)
    (first_closes : (x : A) (p r : List Tok) → L x p → test (head (p ++ r)) ≡ true → B x (head r) → C x (head r))
    (second_closes : (x : A) (p r : List Tok) → M x p → test (head (p ++ r)) ≡ false → B x (head r) → C x (head r)) where
  branch : (b : Bool) → Exact (λ D ts. if b then P D ts else Q D ts) (EitherL L M b) W S B d
  branch true = EP
  branch false = EQ

  at_true : (b : Bool) (x : A) (p : List Tok) → b ≡ true → L x p → EitherL L M b x p
  at_true true x p e l = l
  at_true false x p e l = absurd cc

  at_false : (b : Bool) (x : A) (p : List Tok) → b ≡ false → M x p → EitherL L M b x p
  at_false true x p e l = absurd cc
  at_false false x p e l = l

  keep : (b : Bool) (x : A) (p : List Tok) → EitherL L M b x p → L x p ⊎ M x p
  keep true x p l = inl l
  keep false x p l = inr l

  pick : (x : A) (p q : List Tok) → L x p ⊎ M x p → S x (head q) → EitherL L M (test (head (p ++ q))) x p
  pick x p q (inl l) s = at_true (test (head (p ++ q))) x p (first x p q l s) l
  pick x p q (inr l) s = at_false (test (head (p ++ q))) x p (second x p q l s) l

  closing : (x : A) (p r : List Tok) → EitherL L M (test (head (p ++ r))) x p → B x (head r) → C x (head r)
  closing x p r l c = go (test (head (p ++ r))) refl l
    where
      go : (b : Bool) → test (head (p ++ r)) ≡ b → EitherL L M b x p → C x (head r)
      go true e l = first_closes x p r l e c
      go false e l = second_closes x p r l e c

  pub either_is : Exact (λ D. either test (P D) (Q D)) (λ x p. L x p ⊎ M x p) W S C d
  either_is = choice_exact (λ D h ts. if test h then P D ts else Q D ts) (λ h. EitherL L M (test h)) (λ x p. L x p ⊎ M x p) W S C d B (λ h. branch (test h)) pick (λ h. keep (test h)) closing

pub either_exact : {A : Type 0} {P Q : ℕ → Parser A} {L M : A → List Tok → Type 0} {W : ℕ → A → Type 0} {S B : A → Option Tok → Type 0} {d : ℕ} (test : Option Tok → Bool) (C : A → Option Tok → Type 0)
    → Exact P L W S B d → Exact Q M W S B d
    → ((x : A) (p q : List Tok) → L x p → S x (head q) → test (head (p ++ q)) ≡ true)
    → ((x : A) (p q : List Tok) → M x p → S x (head q) → test (head (p ++ q)) ≡ false)
    → ((x : A) (p r : List Tok) → L x p → test (head (p ++ r)) ≡ true → B x (head r) → C x (head r))
    → ((x : A) (p r : List Tok) → M x p → test (head (p ++ r)) ≡ false → B x (head r) → C x (head r))
    → Exact (λ D. either test (P D) (Q D)) (λ x p. L x p ⊎ M x p) W S C d
either_exact {P = P} {Q = Q} {L = L} {M = M} {W = W} {S = S} {B = B} {d = d} test C EP EQ first second first_closes second_closes =
    either_is P Q L M W S B C d test EP EQ first second first_closes second_closes

-- ---- the same parser in other words

pub same_exact : {A : Type 0} {P : ℕ → Parser A} (P' : ℕ → Parser A) {L : A → List Tok → Type 0} {W : ℕ → A → Type 0} {S C : A → Option Tok → Type 0} {d : ℕ}
    → ((D : ℕ) (ts : List Tok) → P' D ts ≡ P D ts) → Exact P L W S C d → Exact P' L W S C d
same_exact P' {d = d} same E = record {
  again = λ x p q l w h. same d (p ++ q) ∙ E.again x p q l w h;
  ok = λ ts x r e.
      let R = E.ok ts x r (sym (same d ts) ∙ e) in
      record { front = R.front; whole = R.whole; spelled = R.spelled; within = R.within; closed = R.closed; stable = λ D s le h. same D (R.front ++ s) ∙ R.stable D s le h };
  wrong = λ ts r e.
      let R = E.wrong ts r (sym (same d ts) ∙ e) in
      record { front = R.front; whole = R.whole; begins = R.begins; stable = λ D s le h. same D (R.front ++ s) ∙ R.stable D s le h };
  deep = λ ts r e.
      let R = E.deep ts r (sym (same d ts) ∙ e) in
      record { front = R.front; whole = R.whole; at = R.at; after = R.after; here = R.here; begins = R.begins; stable = λ s h. same d (R.front ++ s) ∙ R.stable s h };
}

-- what is exact one level deeper, as a parser of this level
pub shift_exact : {A : Type 0} {P : ℕ → Parser A} {L : A → List Tok → Type 0} {W : ℕ → A → Type 0} {S C : A → Option Tok → Type 0} {d : ℕ}
    → Exact P L W S C (suc d) → Exact (λ D. P (suc D)) L (λ D. W (suc D)) S C d
shift_exact E = record {
  again = E.again;
  ok = λ ts x r e. let R = E.ok ts x r e in record { front = R.front; whole = R.whole; spelled = R.spelled; within = R.within; closed = R.closed; stable = λ D s le h. R.stable (suc D) s (omega arith) h };
  wrong = λ ts r e. let R = E.wrong ts r e in record { front = R.front; whole = R.whole; begins = R.begins; stable = λ D s le h. R.stable (suc D) s (omega arith) h };
  deep = λ ts r e. let R = E.deep ts r e in record { front = R.front; whole = R.whole; at = R.at; after = R.after; here = R.here; begins = R.begins; stable = R.stable };
}

-- ---- where the first branch is exact behind the test alone

pub guarded_either : {A : Type 0} (P : ℕ → Parser A) {Q : ℕ → Parser A} {L M : A → List Tok → Type 0} {W : ℕ → A → Type 0} {S B : A → Option Tok → Type 0} {d : ℕ} (test : Option Tok → Bool) (C : A → Option Tok → Type 0)
    → Exact (λ D. either test (P D) none) L W S B d → Exact Q M W S B d
    → ((x : A) (p q : List Tok) → L x p → S x (head q) → test (head (p ++ q)) ≡ true)
    → ((x : A) (p q : List Tok) → M x p → S x (head q) → test (head (p ++ q)) ≡ false)
    → ((x : A) (p r : List Tok) → L x p → test (head (p ++ r)) ≡ true → B x (head r) → C x (head r))
    → ((x : A) (p r : List Tok) → M x p → test (head (p ++ r)) ≡ false → B x (head r) → C x (head r))
    → Exact (λ D. either test (P D) (Q D)) (λ x p. L x p ⊎ M x p) W S C d
guarded_either P {Q = Q} test C EP EQ first second first_closes second_closes =
    same_exact (λ D. either test (P D) (Q D)) (λ D ts. twice (test (head ts)) (P D ts) (Q D ts) (Err (wrong ts))) (either_exact test C EP EQ first second first_closes second_closes)
  where
    twice : {X : Type 0} (b : Bool) (x y z : Result X Fault) → ◌≡◌ {A = Result X Fault} (if b then x else y) (if b then (if b then x else z) else y)
    twice true x y z = refl
    twice false x y z = refl

-- ---- within a depth, or else too deep; n: the depth of what stands before

-- within this depth, where the test holds
abbrev pub limited : {A : Type 0} → (Option Tok → Bool) → ℕ → ℕ → Parser A → Parser A
limited test n d P = either test (λ ts. if nat_le n d then P ts else Err (deep ts)) none

data Way (test : Option Tok → Bool) (n d : ℕ) (h : Option Tok) : Type 0 where
  fits : test h ≡ true → n ≤ d → Way test n d h
  goes_deep : test h ≡ true → d < n → Way test n d h
  stops : test h ≡ false → Way test n d h

way : (test : Option Tok → Bool) (n d : ℕ) (h : Option Tok) → Way test n d h
way test n d h = go (test h) refl
  where
    go : (b : Bool) → test h ≡ b → Way test n d h
    go true e = elim (cases_lt d n) [
      | inl lt ↦ goes_deep e lt
      | inr le ↦ fits e le
    ]
    go false e = stops e

module _ {A : Type 0} (P : ℕ → Parser A) (L : A → Phrase) (W : ℕ → A → Type 0) (S C : A → Option Tok → Type 0) (d : ℕ) (test : Option Tok → Bool) (n : ℕ)
    (E : Exact P L W S C d)
    (first : (x : A) (p q : List Tok) → L x p → test (head (p ++ q)) ≡ true)
    (begins : (t : Tok) → test (Some t) ≡ true → Begins L (t ∷ []))
    (at_end : test None ≡ false) where
  abbrev here : ℕ → Parser A
  here D = limited test n D (P D)

  abbrev Fits : ℕ → A → Type 0
  Fits D x = W D x × (n ≤ D)

  goes : (D : ℕ) (ts : List Tok) → test (head ts) ≡ true → n ≤ D → here D ts ≡ P D ts
  goes D ts e le = rw (e, le-leb n D le) refl

  too_deep : (D : ℕ) (ts : List Tok) → test (head ts) ≡ true → D < n → here D ts ≡ Err (deep ts)
  too_deep D ts e lt = rw (e, lt-leb n D lt) refl

  not_here : (D : ℕ) (ts : List Tok) → test (head ts) ≡ false → here D ts ≡ Err (wrong ts)
  not_here D ts e = rw e refl

  no_both : {X : Type 0} (r : Result X Fault) (x : X) (f : Fault) → r ≡ Ok x → r ≡ Err f → ⊥
  no_both r x f p q = cc

  apart : {X : Type 0} (a : Result X Fault) (x y : List Tok) → a ≡ Err (wrong x) → a ≡ Err (deep y) → ⊥
  apart a x y p q = cc

  wrongs : {X : Type 0} (a : Result X Fault) (x y : List Tok) → a ≡ Err (wrong x) → a ≡ Err (wrong y) → x ≡ y
  wrongs a x y p q = let h : wrong x ≡ wrong y = err_is (wrong x) (wrong y) a p q in cc

  deeps : {X : Type 0} (a : Result X Fault) (x y : List Tok) → a ≡ Err (deep x) → a ≡ Err (deep y) → x ≡ y
  deeps a x y p q = let h : deep x ≡ deep y = err_is (deep x) (deep y) a p q in cc

  still : (ts front r s : List Tok) (b : Bool) → ts ≡ front ++ r → head r ≡ head s → test (head ts) ≡ b → test (head (front ++ s)) ≡ b
  still ts front r s b e h is = ap test (sym (ap head e ∙ head_append front r s h)) ∙ is

  ok_way : (ts : List Tok) (x : A) (r : List Tok) → here d ts ≡ Ok (x, r) → Way test n d (head ts) → Reads here L Fits C d ts x r
  ok_way ts x r e (fits h le) =
      let R = E.ok ts x r (sym (goes d ts h le) ∙ e) in
      record {
        front = R.front;
        whole = R.whole;
        spelled = R.spelled;
        within = (R.within, le);
        closed = R.closed;
        stable = λ D s more same. goes D (R.front ++ s) (still ts R.front r s true R.whole same h) (omega arith) ∙ R.stable D s more same;
      }
  ok_way ts x r e (goes_deep h lt) = absurd (no_both (here d ts) (x, r) (deep ts) e (too_deep d ts h lt))
  ok_way ts x r e (stops h) = absurd (no_both (here d ts) (x, r) (wrong ts) e (not_here d ts h))

  wrong_way : (ts r : List Tok) → here d ts ≡ Err (wrong r) → Way test n d (head ts) → Refuses here L Fits C d ts r
  wrong_way ts r e (fits h le) =
      let R = E.wrong ts r (sym (goes d ts h le) ∙ e) in
      record {
        front = R.front;
        whole = R.whole;
        begins = R.begins;
        stable = λ D s more same. goes D (R.front ++ s) (still ts R.front r s true R.whole same h) (omega arith) ∙ R.stable D s more same;
      }
  wrong_way ts r e (goes_deep h lt) = absurd (apart (here d ts) r ts e (too_deep d ts h lt))
  wrong_way ts r e (stops h) =
      let is = wrongs (here d ts) ts r (not_here d ts h) e in
      record { front = []; whole = is; begins = λ n. absurd n; stable = λ D s le same. not_here D s (still ts [] r s false is same h) }

  deep_way : (ts r : List Tok) → here d ts ≡ Err (deep r) → Way test n d (head ts) → FailsTooDeep here L Fits C d ts r
  deep_way ts r e (fits h le) =
      let R = E.deep ts r (sym (goes d ts h le) ∙ e) in
      record {
        front = R.front;
        whole = R.whole;
        at = R.at;
        after = R.after;
        here = R.here;
        begins = R.begins;
        stable = λ s same. goes d (R.front ++ s) (still ts R.front r s true R.whole same h) le ∙ R.stable s same;
      }
  deep_way [] r e (goes_deep h lt) = absurd (true_false (sym h ∙ at_end))
    where
      true_false : true ≡ false → ⊥
      true_false h = cc
  deep_way (t ∷ ts) r e (goes_deep h lt) =
      let is = deeps (here d (t ∷ ts)) (t ∷ ts) r (too_deep d (t ∷ ts) h lt) e in
      record { front = []; whole = is; at = t; after = ts; here = sym is; begins = begins t h; stable = λ s same. too_deep d s (still (t ∷ ts) [] r s true is same h) lt }
  deep_way ts r e (stops h) = absurd (apart (here d ts) ts r (not_here d ts h) e)

  pub limited_is : Exact here L Fits S C d
  limited_is = record {
    again = λ x p q l w h. goes d (p ++ q) (first x p q l) w.1 ∙ E.again x p q l w.0 h;
    ok = λ ts x r e. ok_way ts x r e (way test n d (head ts));
    wrong = λ ts r e. wrong_way ts r e (way test n d (head ts));
    deep = λ ts r e. deep_way ts r e (way test n d (head ts));
  }

pub within_exact : {A : Type 0} {P : ℕ → Parser A} {L : A → List Tok → Type 0} {W : ℕ → A → Type 0} {S C : A → Option Tok → Type 0} {d : ℕ} (test : Option Tok → Bool) (n : ℕ)
    → Exact P L W S C d
    → ((x : A) (p q : List Tok) → L x p → test (head (p ++ q)) ≡ true)
    → ((t : Tok) → test (Some t) ≡ true → Begins L (t ∷ []))
    → test None ≡ false
    → Exact (λ D. limited test n D (P D)) L (λ D x. W D x × (n ≤ D)) S C d
within_exact {P = P} {L = L} {W = W} {S = S} {C = C} {d = d} test n E first begins at_end = limited_is P L W S C d test n E first begins at_end

-- ---- nothing, where the next token is a fixed token

abbrev pub UnlessS : {A : Type 0} → Fixed → (A → Option Tok → Type 0) → Option A → Option Tok → Type 0
UnlessS k S None h = is_next k h ≡ true
UnlessS k S (Some x) h = S x h

abbrev SomeL : {A : Type 0} → (A → Phrase) → Option A → Phrase
SomeL L None p = ⊥
SomeL L (Some x) p = L x p

module _ {A : Type 0} (P : ℕ → Parser A) (L : A → Phrase) (W : ℕ → A → Type 0) (S C : A → Option Tok → Type 0) (d : ℕ) (k : Fixed)
    (E : Exact P L W S C d)
    (other : (x : A) (p q : List Tok) → L x p → is_next k (head (p ++ q)) ≡ false) where
  some : Exact (λ D. map_parser Some (P D)) (SomeL L) (MaybeW W) (UnlessS k S) (BranchC C) d
  some = value_of Some (SomeL L) (MaybeW W) (UnlessS k S) (BranchC C) E comes (λ x p l. l) (λ x w. w) (λ x h c. c)
    where
      comes : (y : Option A) (p : List Tok) → SomeL L y p → Comes Some L (W d) (MaybeW W d) S (UnlessS k S) y p
      comes (Some x) p l = record { value = x; same = refl; spelled = l; within = λ w. w; stops = λ h c. c }
      comes None p l = absurd l

  first : (x : Option A) (p q : List Tok) → Empty None x p → UnlessS k S x (head q) → is_next k (head (p ++ q)) ≡ true
  first None p q l h = rw l.1 h
  first (Some x) p q l h = absurd (let e = l.0 in cc)

  second : (x : Option A) (p q : List Tok) → SomeL L x p → UnlessS k S x (head q) → is_next k (head (p ++ q)) ≡ false
  second None p q l h = absurd l
  second (Some x) p q l h = other x p q l

  first_closes : (x : Option A) (p r : List Tok) → Empty None x p → is_next k (head (p ++ r)) ≡ true → BranchC C x (head r) → UnlessS k C x (head r)
  first_closes None p r l h c = ap (λ (z : List Tok). is_next k (head (z ++ r))) (sym l.1) ∙ h
  first_closes (Some x) p r l h c = c

  second_closes : (x : Option A) (p r : List Tok) → SomeL L x p → is_next k (head (p ++ r)) ≡ false → BranchC C x (head r) → UnlessS k C x (head r)
  second_closes None p r l h c = absurd l
  second_closes (Some x) p r l h c = c

  to : (x : Option A) (p : List Tok) → Empty None x p ⊎ SomeL L x p → optional L x p
  to None p (inl l) = l.1
  to (Some x) p (inl l) = absurd (let e = l.0 in cc)
  to None p (inr l) = absurd l
  to (Some x) p (inr l) = l

  from : (x : Option A) (p : List Tok) → optional L x p → Empty None x p ⊎ SomeL L x p
  from None p l = inl (refl, l)
  from (Some x) p l = inr l

  pub unless_is : Exact (λ D. unless k (P D)) (optional L) (MaybeW W) (UnlessS k S) (UnlessS k C) d
  unless_is = restated (optional L) (MaybeW W) (UnlessS k S) (UnlessS k C)
      (either_exact (is_next k) (UnlessS k C) (give_exact None (MaybeW W) (UnlessS k S) (BranchC C) d tt (λ h. tt)) some first second first_closes second_closes)
      to from (λ x p l w. w) (λ x p l w. w) (λ x p h l s. s) (λ x p h l c. c)

pub unless_exact : {A : Type 0} {P : ℕ → Parser A} {L : A → List Tok → Type 0} {W : ℕ → A → Type 0} {S C : A → Option Tok → Type 0} {d : ℕ} (k : Fixed)
    → Exact P L W S C d → ((x : A) (p q : List Tok) → L x p → is_next k (head (p ++ q)) ≡ false) → Exact (λ D. unless k (P D)) (optional L) (MaybeW W) (UnlessS k S) (UnlessS k C) d
unless_exact {P = P} {L = L} {W = W} {S = S} {C = C} {d = d} k E other = unless_is P L W S C d k E other
