-- What stands behind or before a fixed token, and what may be left out.
use Rattle.std.proofs.Common.{◌≡◌, ℕ, Bool, true, false, List, [], ◌∷◌, ◌++◌, Option, Some, None, refl, sym, ap, subst, ◌∙◌, append_assoc}
use Rattle.std.proofs.lemmas.List.{append-nil}
use Rattle.lex.specs.declared.token.Fixed.{Fixed}
use Rattle.lex.specs.declared.token.Span.{Span}
use Rattle.lex.specs.Tokens.{fixed, Tok}
use Rattle.syntax.specs.Phrases.{Phrase, Seq, One, Is, Begins, is_fixed, the_fixed, fixed_span}
use Rattle.syntax.specs.Grammar.{optional}
use Rattle.parse.specs.inner.Reading.{Parser, head, give, is_next, if_there, perhaps, behind, before}
use Rattle.parse.proofs.combinators.Exact.{Exact, Always, Comes, Two, Empty, give_exact, take_exact, choice_exact, relabel, two, value_of}
use Rattle.parse.proofs.combinators.FixedTokens.{fixed_is, fixed_has, one_begins, a_fixed, one_head}

-- ---- phrases in phrases

pub seq_map : {L M K N : Phrase} {p : List Tok} → Seq L M p → ((q : List Tok) → L q → K q) → ((q : List Tok) → M q → N q) → Seq K N p
seq_map s f g = record { front = s.front; back = s.back; first = f s.front s.first; second = g s.back s.second; whole = s.whole }

pub seq_right : {L M N : Phrase} {p : List Tok} → Seq (Seq L M) N p → Seq L (Seq M N) p
seq_right s = record {
  front = s.first.front;
  back = s.first.back ++ s.back;
  first = s.first.first;
  second = record { front = s.first.back; back = s.back; first = s.first.second; second = s.second; whole = refl };
  whole = s.whole ∙ ap (λ (z : List Tok). z ++ s.back) s.first.whole ∙ append_assoc s.first.front s.first.back s.back;
}

pub seq_left : {L M N : Phrase} {p : List Tok} → Seq L (Seq M N) p → Seq (Seq L M) N p
seq_left s = record {
  front = s.front ++ s.second.front;
  back = s.second.back;
  first = record { front = s.front; back = s.second.front; first = s.first; second = s.second.first; whole = refl };
  second = s.second.second;
  whole = s.whole ∙ ap (λ (z : List Tok). s.front ++ z) s.second.whole ∙ sym (append_assoc s.front s.second.front s.second.back);
}

-- nothing behind it
pub no_seq : {L : Phrase} {p : List Tok} → L p → Seq L (λ q. q ≡ []) p
no_seq {p = p} l = record { front = p; back = []; first = l; second = refl; whole = sym (append-nil p) }

pub un_seq : {L : Phrase} {p : List Tok} → Seq L (λ q. q ≡ []) p → L p
un_seq {L = L} s = subst L (sym (s.whole ∙ ap (λ (z : List Tok). s.front ++ z) s.second ∙ append-nil s.front)) s.first

-- nothing before it
pub un_seq_left : {L : Phrase} {p : List Tok} → Seq (λ q. q ≡ []) L p → L p
un_seq_left {L = L} s = subst L (sym (s.whole ∙ ap (λ (z : List Tok). z ++ s.back) s.first)) s.second

-- ---- fixed tokens

pub is_here : (k : Fixed) (p q : List Tok) → Is k p → is_next k (head (p ++ q)) ≡ true
is_here k p q o = ap (is_next k) (one_head o q) ∙ is_it k o.token (fixed_is k o.token tt o.has)
  where
    is_it : (k : Fixed) (t : Tok) → t.terminal ≡ fixed k → is_next k (Some t) ≡ true
    is_it k t e = go (is_fixed k t.terminal) refl
      where
        go : (b : Bool) → is_fixed k t.terminal ≡ b → is_fixed k t.terminal ≡ true
        go true is = is
        go false is = absurd (let h = fixed_has k t e in let n : the_fixed k t ≡ None = rw is refl in cc)

-- another fixed token is not next
pub is_not_here : (k j : Fixed) (p q : List Tok) → is_fixed j (fixed k) ≡ false → Is k p → is_next j (head (p ++ q)) ≡ false
is_not_here k j p q apart o = ap (is_next j) (one_head o q) ∙ ap (is_fixed j) (fixed_is k o.token tt o.has) ∙ apart

pub seq_here : (k : Fixed) (M : Phrase) (p q : List Tok) → Seq (Is k) M p → is_next k (head (p ++ q)) ≡ true
seq_here k M p q s = subst (λ (z : List Tok). is_next k (head z) ≡ true) (sym (ap (λ (z : List Tok). z ++ q) s.whole ∙ append_assoc s.front s.back q)) (is_here k s.front (s.back ++ q) s.first)

pub seq_not_here : (k j : Fixed) (M : Phrase) (p q : List Tok) → is_fixed j (fixed k) ≡ false → Seq (Is k) M p → is_next j (head (p ++ q)) ≡ false
seq_not_here k j M p q apart s = subst (λ (z : List Tok). is_next j (head z) ≡ false) (sym (ap (λ (z : List Tok). z ++ q) s.whole ∙ append_assoc s.front s.back q)) (is_not_here k j s.front (s.back ++ q) apart s.first)

-- the span of a fixed token
pub fixed_has_span : (k : Fixed) (t : Tok) → the_fixed k t ≡ Some tt → fixed_span k t ≡ Some t.span
fixed_has_span k t e = go (is_fixed k t.terminal) refl
  where
    go : (b : Bool) → is_fixed k t.terminal ≡ b → fixed_span k t ≡ Some t.span
    go true is = rw is refl
    go false is = absurd (let n : the_fixed k t ≡ None = rw is refl in cc)

pub span_is_fixed : (k : Fixed) (t : Tok) (at : Span) → fixed_span k t ≡ Some at → (the_fixed k t ≡ Some tt) × (t.span ≡ at)
span_is_fixed k t at e = go (is_fixed k t.terminal) refl
  where
    go : (b : Bool) → is_fixed k t.terminal ≡ b → (the_fixed k t ≡ Some tt) × (t.span ≡ at)
    go true is = (rw is refl, let h : fixed_span k t ≡ Some t.span = rw is refl in cc)
    go false is = absurd (let n : fixed_span k t ≡ None = rw is refl in cc)

-- ---- behind and before a fixed token

pub head_begins : {A : Type 0} (k : Fixed) (L : A → Phrase) → Begins L [] → Begins (λ x. Seq (Is k) (L x)) []
head_begins k L b = record { value = b.value; more = a_fixed k ∷ b.more; spelled = record { front = a_fixed k ∷ []; back = b.more; first = record { token = a_fixed k; has = fixed_has k (a_fixed k) refl; whole = refl }; second = b.spelled; whole = refl } }

pub behind_exact : {A : Type 0} {P : ℕ → Parser A} {L : A → Phrase} {W : ℕ → A → Type 0} {S C : A → Option Tok → Type 0} {d : ℕ} (k : Fixed)
    → Exact P L W S C d → Begins L [] → Exact (λ D. behind k (P D)) (λ x. Seq (Is k) (L x)) W S C d
behind_exact {A = A} {L = L} {W = W} {S = S} {C = C} {d = d} k E b =
    value_of (λ x. x.1) (λ x. Seq (Is k) (L x)) W S C
    (two (take_exact (the_fixed k) d) E (λ a c p q l h. tt) b)
    comes (λ x p l. l) (λ x w. w.1) (λ x h c. c)
  where
    comes : (y : A) (p : List Tok) → Seq (Is k) (L y) p → Comes (λ (x : Unit {0} × A). x.1) (Two (One (the_fixed k)) L) (λ x. Unit {0} × W d x.1) (W d) (λ x h. S x.1 h) S y p
    comes y p l = record { value = (tt, y); same = refl; spelled = l; within = λ w. (tt, w); stops = λ h s. s }

pub tail_begins : {A : Type 0} (k : Fixed) (L : A → Phrase) → Begins L [] → Begins (λ x. Seq (L x) (Is k)) []
tail_begins k L b = record { value = b.value; more = b.more ++ a_fixed k ∷ []; spelled = record { front = b.more; back = a_fixed k ∷ []; first = b.spelled; second = record { token = a_fixed k; has = fixed_has k (a_fixed k) refl; whole = refl }; whole = refl } }

pub before_exact : {A : Type 0} {P : ℕ → Parser A} {L : A → Phrase} {W : ℕ → A → Type 0} {S C : A → Option Tok → Type 0} {d : ℕ} (k : Fixed)
    → Exact P L W S C d → ((a : A) (t : Tok) → t.terminal ≡ fixed k → S a (Some t)) → Exact (λ D. before k (P D)) (λ x. Seq (L x) (Is k)) W Always Always d
before_exact {A = A} {L = L} {W = W} {S = S} {C = C} {d = d} k E follow =
    value_of (λ x. x.0) (λ x. Seq (L x) (Is k)) W Always Always
    (two E (take_exact (the_fixed k) d) (λ a b p q o h. subst (S a) (sym (one_head o q)) (follow a o.token (fixed_is k o.token b o.has))) (one_begins k))
    comes (λ x p l. l) (λ x w. w.0) (λ x h c. tt)
  where
    comes : (y : A) (p : List Tok) → Seq (L y) (Is k) p → Comes (λ (x : A × Unit {0}). x.0) (Two L (One (the_fixed k))) (λ x. W d x.0 × Unit {0}) (W d) (λ x h. Unit {0}) Always y p
    comes y p l = record { value = (y, tt); same = refl; spelled = l; within = λ w. (w, tt); stops = λ h s. tt }

-- ---- what may be left out

abbrev pub MaybeW : {A : Type 0} → (ℕ → A → Type 0) → ℕ → Option A → Type 0
MaybeW W d None = Unit {0}
MaybeW W d (Some x) = W d x

abbrev pub MaybeS : {A : Type 0} → Fixed → (A → Option Tok → Type 0) → Option A → Option Tok → Type 0
MaybeS k S None h = is_next k h ≡ false
MaybeS k S (Some x) h = S x h

abbrev pub BranchC : {A : Type 0} → (A → Option Tok → Type 0) → Option A → Option Tok → Type 0
BranchC C None h = Unit {0}
BranchC C (Some x) h = C x h

abbrev NoneC : {A : Type 0} → (A → Option Tok → Type 0) → Option A → Option Tok → Type 0
NoneC C None h = Unit {0}
NoneC C (Some x) h = ⊥

abbrev BranchL : {A : Type 0} → (A → Phrase) → Bool → Option A → Phrase
BranchL L true None p = ⊥
BranchL L true (Some x) p = L x p
BranchL L false None p = p ≡ []
BranchL L false (Some x) p = ⊥

module _ {A : Type 0} (P : ℕ → Parser A) (L : A → Phrase) (W : ℕ → A → Type 0) (S C : A → Option Tok → Type 0) (d : ℕ) (k : Fixed) (E : Exact P L W S C d)
    (first : (x : A) (p q : List Tok) → L x p → is_next k (head (p ++ q)) ≡ true) where
  there : Exact (λ D. if_there true (P D)) (BranchL L true) (MaybeW W) (MaybeS k S) (BranchC C) d
  there = value_of Some (BranchL L true) (MaybeW W) (MaybeS k S) (BranchC C) E comes (λ x p l. l) (λ x w. w) (λ x h c. c)
    where
      comes : (y : Option A) (p : List Tok) → BranchL L true y p → Comes Some L (W d) (MaybeW W d) S (MaybeS k S) y p
      comes (Some x) p l = record { value = x; same = refl; spelled = l; within = λ w. w; stops = λ h c. c }
      comes None p l = absurd l

  absent : Exact (λ D. if_there false (P D)) (BranchL L false) (MaybeW W) (MaybeS k S) (BranchC C) d
  absent =
      relabel (λ D. give None) (Empty None) (BranchL L false) (MaybeW W) (MaybeW W) (MaybeS k S) (MaybeS k S) (NoneC C) (BranchC C) d
      (give_exact None (MaybeW W) (MaybeS k S) (NoneC C) d tt (λ h. tt))
      to from (λ x p l w. w) (λ x w. w) (λ x h s. s) is_none
    where
      to : (x : Option A) (p : List Tok) → Empty None x p → BranchL L false x p
      to None p l = l.1
      to (Some s) p l = absurd (some_none l.0)
        where
          some_none : {s : A} → Some s ≡ None → ⊥
          some_none h = cc

      from : (x : Option A) (p : List Tok) → BranchL L false x p → Empty None x p
      from None p l = (refl, l)
      from (Some s) p l = absurd l

      is_none : (x : Option A) (h : Option Tok) → NoneC C x h → BranchC C x h
      is_none None h c = tt
      is_none (Some s) h c = absurd c

  branch : (b : Bool) → Exact (λ D. if_there b (P D)) (BranchL L b) (MaybeW W) (MaybeS k S) (BranchC C) d
  branch true = there
  branch false = absent

  pub perhaps_is : Exact (λ D. perhaps k (P D)) (optional L) (MaybeW W) (MaybeS k S) (MaybeS k C) d
  perhaps_is = choice_exact (λ D h. if_there (is_next k h) (P D)) (λ h. BranchL L (is_next k h)) (optional L) (MaybeW W) (MaybeS k S) (MaybeS k C) d (BranchC C) (λ h. branch (is_next k h)) pick keep closing
    where
      at_false : (b : Bool) → b ≡ false → BranchL L b None []
      at_false false e = refl
      at_false true e = absurd cc

      at_true : (b : Bool) (s : A) (p : List Tok) → b ≡ true → L s p → BranchL L b (Some s) p
      at_true true s p e l = l
      at_true false s p e l = absurd cc

      pick : (x : Option A) (p q : List Tok) → optional L x p → MaybeS k S x (head q) → BranchL L (is_next k (head (p ++ q))) x p
      pick None p q l h = rw l (at_false (is_next k (head q)) h)
      pick (Some s) p q l h = at_true (is_next k (head (p ++ q))) s p (first s p q l) l

      keep_at : (b : Bool) (x : Option A) (p : List Tok) → BranchL L b x p → optional L x p
      keep_at true None p l = absurd l
      keep_at true (Some s) p l = l
      keep_at false None p l = l
      keep_at false (Some s) p l = absurd l

      keep : (h : Option Tok) (x : Option A) (p : List Tok) → BranchL L (is_next k h) x p → optional L x p
      keep h x p l = keep_at (is_next k h) x p l

      none_here : (b : Bool) (p : List Tok) → BranchL L b None p → b ≡ false
      none_here true p l = absurd l
      none_here false p l = refl

      closing : (x : Option A) (p r : List Tok) → BranchL L (is_next k (head (p ++ r))) x p → BranchC C x (head r) → MaybeS k C x (head r)
      closing None p r l c =
          let nil : p ≡ [] = keep_at (is_next k (head (p ++ r))) None p l in
          ap (λ (z : List Tok). is_next k (head (z ++ r))) (sym nil) ∙ none_here (is_next k (head (p ++ r))) p l
      closing (Some s) p r l c = c

pub perhaps_exact : {A : Type 0} {P : ℕ → Parser A} {L : A → Phrase} {W : ℕ → A → Type 0} {S C : A → Option Tok → Type 0} {d : ℕ} (k : Fixed)
    → Exact P L W S C d → ((x : A) (p q : List Tok) → L x p → is_next k (head (p ++ q)) ≡ true) → Exact (λ D. perhaps k (P D)) (optional L) (MaybeW W) (MaybeS k S) (MaybeS k C) d
perhaps_exact {P = P} {L = L} {W = W} {S = S} {C = C} {d = d} k E first = perhaps_is P L W S C d k E first
