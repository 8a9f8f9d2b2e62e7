-- What it means that a parser reads a language exactly, and how such parsers are put together.
use Rattle.std.proofs.Common.{◌≡◌, ℕ, ◌≤◌, List, [], ◌∷◌, ◌++◌, Option, Some, None, Result, Ok, Err, refl, sym, ap, subst, ◌∙◌, append_assoc, arith, ◌⊎◌, inl, inr}
use Rattle.lex.specs.Tokens.{Tok}
use Rattle.syntax.specs.Phrases.{Phrase, Seq, One, Begins}
use Rattle.parse.specs.inner.Reading.{Fault, wrong, deep, ◌>>=◌, Parser, head, none, give, bind, seq, map_parser, choice, take_value, take}

pub head_append : (p r s : List Tok) → head r ≡ head s → head (p ++ r) ≡ head (p ++ s)
head_append [] r s e = e
head_append (t ∷ p) r s e = refl

abbrev pub Nonempty : List Tok → Type 0
Nonempty [] = ⊥
Nonempty (t ∷ ts) = Unit {0}

module _ {A : Type 0} (P : ℕ → Parser A) (L : A → Phrase) (W : ℕ → A → Type 0) (C : A → Option Tok → Type 0) (d : ℕ) where
  -- What was read is spelled so, and is read so whatever stands behind the next token, at each greater depth.
  pub record Reads (ts : List Tok) (x : A) (r : List Tok) : Type 0 where
    pub front : List Tok
    pub whole : ts ≡ front ++ r
    pub spelled : L x front
    pub within : W d x
    pub closed : C x (head r)
    pub stable : (D : ℕ) (s : List Tok) → d ≤ D → head r ≡ head s → P D (front ++ s) ≡ Ok (x, s)

  -- What stands before the fault begins a phrase, and the fault stays whatever stands behind its token.
  pub record Refuses (ts r : List Tok) : Type 0 where
    pub front : List Tok
    pub whole : ts ≡ front ++ r
    pub begins : Nonempty front → Begins L front
    pub stable : (D : ℕ) (s : List Tok) → d ≤ D → head r ≡ head s → P D (front ++ s) ≡ Err (wrong s)

  -- Some phrase begins with what stands before the token and the token, and at this depth the fault stays.
  pub record FailsTooDeep (ts r : List Tok) : Type 0 where
    pub front : List Tok
    pub whole : ts ≡ front ++ r
    pub at : Tok
    pub after : List Tok
    pub here : r ≡ at ∷ after
    pub begins : Begins L (front ++ at ∷ [])
    pub stable : (s : List Tok) → head r ≡ head s → P d (front ++ s) ≡ Err (deep s)

-- S: what may follow a phrase that is to be read. C: what does follow a phrase that was read. W: what the depth allows.
pub record Exact {A : Type 0} (P : ℕ → Parser A) (L : A → Phrase) (W : ℕ → A → Type 0) (S C : A → Option Tok → Type 0) (d : ℕ) : Type 0 where
  pub again : (x : A) (p q : List Tok) → L x p → W d x → S x (head q) → P d (p ++ q) ≡ Ok (x, q)
  pub ok : (ts : List Tok) (x : A) (r : List Tok) → P d ts ≡ Ok (x, r) → Reads P L W C d ts x r
  pub wrong : (ts r : List Tok) → P d ts ≡ Err (wrong r) → Refuses P L W C d ts r
  pub deep : (ts r : List Tok) → P d ts ≡ Err (deep r) → FailsTooDeep P L W C d ts r

-- ---- one after the other

-- the value of a step that did not fail
pub bind_ok : {A B : Type 0} (r : Result A Fault) (f : A → Result B Fault) (y : B) → (r >>= f) ≡ Ok y → (x : A) × (r ≡ Ok x) × (f x ≡ Ok y)
bind_ok (Ok x) f y e = (x, refl, e)
bind_ok (Err d) f y e = absurd cc

-- where a fault comes from
pub bind_err : {A B : Type 0} (r : Result A Fault) (f : A → Result B Fault) (w : Fault) → (r >>= f) ≡ Err w → (r ≡ Err w) ⊎ ((x : A) × (r ≡ Ok x) × (f x ≡ Err w))
bind_err (Ok x) f w e = inr (x, refl, e)
bind_err (Err d) f w e = inl cc

-- there is a way to end
pub record Ends {B : Type 0} (M : B → Phrase) (J : B → Type 0) : Type 0 where
  pub value : B
  pub text : List Tok
  pub spelled : M value text
  pub joined : J value

-- one thing and then another that depends on it; J joins them
abbrev pub ChainL : {A B : Type 0} → (A → Phrase) → (A → B → Phrase) → (A → B → Type 0) → A × B → Phrase
ChainL L M J x ts = Seq (L x.0) (M x.0 x.1) ts × J x.0 x.1

abbrev pub SeqL : {A B : Type 0} → (A → Phrase) → (B → Phrase) → (A → B → Type 0) → A × B → Phrase
SeqL L M J = ChainL L (λ x. M) J

pub ok_pair : {A : Type 0} (x y : A) (r s : List Tok) (e : Result (A × List Tok) Fault) → e ≡ Ok (x, r) → e ≡ Ok (y, s) → (x ≡ y) × (r ≡ s)
ok_pair {A = A} x y r s e p q =
    let whole : ◌≡◌ {A = A × List Tok} (x, r) (y, s) = cc in
    (ap (λ (z : A × List Tok). z.0) whole, ap (λ (z : A × List Tok). z.1) whole)

pub err_is : {A : Type 0} (x y : Fault) (e : Result A Fault) → e ≡ Err x → e ≡ Err y → x ≡ y
err_is x y e p q = cc

module _ {A B : Type 0} (P : ℕ → Parser A) (Q : A → ℕ → Parser B) (L : A → Phrase) (M : A → B → Phrase) (J : A → B → Type 0) (WP : ℕ → A → Type 0) (WQ : A → ℕ → B → Type 0) (S1 C1 : A → Option Tok → Type 0) (S2 C2 : A → B → Option Tok → Type 0) (d : ℕ)
    (EP : Exact P L WP S1 C1 d) (EQ : (a : A) → Exact (Q a) (M a) (WQ a) (S2 a) (C2 a) d)
    (follow : (a : A) (b : B) (p q : List Tok) → M a b p → J a b → S2 a b (head q) → S1 a (head (p ++ q)))
    (joins : (a : A) (b : B) (p r : List Tok) → M a b p → C1 a (head (p ++ r)) → J a b)
    (ends : (a : A) → Ends (M a) (J a)) where
  chained_again : (x : A × B) (p q : List Tok) → ChainL L M J x p → WP d x.0 × WQ x.0 d x.1 → S2 x.0 x.1 (head q) → bind (P d) (λ a. Q a d) (p ++ q) ≡ Ok (x, q)
  chained_again x p q s w h =
      let eP = EP.again x.0 s.0.front (s.0.back ++ q) s.0.first w.0 (follow x.0 x.1 s.0.back q s.0.second s.1 h) in
      let eQ = (EQ x.0).again x.1 s.0.back q s.0.second w.1 h in
      rw (s.0.whole, append_assoc s.0.front s.0.back q, eP, eQ) refl

  -- the front of a whole that goes on as the second part goes on
  chained_go : (ts r1 r : List Tok) (a : A) (RP : Reads P L WP C1 d ts a r1) (fq : List Tok) → r1 ≡ fq ++ r → (D : ℕ) (s : List Tok) → d ≤ D → head r ≡ head s → bind (P D) (λ a. Q a D) ((RP.front ++ fq) ++ s) ≡ (Q a D (fq ++ s) >>= λ y. Ok ((a, y.0), y.1))
  chained_go ts r1 r a RP fq e D s le same =
      let eP = RP.stable D (fq ++ s) le (ap head e ∙ head_append fq r s same) in
      rw (append_assoc RP.front fq s, eP) refl

  chained_ok_parts : (ts r1 r : List Tok) (a : A) (b : B) → P d ts ≡ Ok (a, r1) → Q a d r1 ≡ Ok (b, r) → Reads (λ D. bind (P D) (λ a. Q a D)) (ChainL L M J) (λ D x. WP D x.0 × WQ x.0 D x.1) (λ x h. C2 x.0 x.1 h) d ts (a, b) r
  chained_ok_parts ts r1 r a b p q =
      let RP = EP.ok ts a r1 p in
      let RQ = (EQ a).ok r1 b r q in
      record {
        front = RP.front ++ RQ.front;
        whole = RP.whole ∙ ap (λ (t : List Tok). RP.front ++ t) RQ.whole ∙ sym (append_assoc RP.front RQ.front r);
        spelled = (record { front = RP.front; back = RQ.front; first = RP.spelled; second = RQ.spelled; whole = refl }, joins a b RQ.front r RQ.spelled (subst (λ (t : List Tok). C1 a (head t)) RQ.whole RP.closed));
        within = (RP.within, RQ.within);
        closed = RQ.closed;
        stable = λ D s le same. chained_go ts r1 r a RP RQ.front RQ.whole D s le same ∙ rw (RQ.stable D s le same) refl;
      }

  chained_ok : (ts : List Tok) (x : A × B) (r : List Tok) → bind (P d) (λ a. Q a d) ts ≡ Ok (x, r) → Reads (λ D. bind (P D) (λ a. Q a D)) (ChainL L M J) (λ D x. WP D x.0 × WQ x.0 D x.1) (λ x h. C2 x.0 x.1 h) d ts x r
  chained_ok ts x r e =
      let b1 = bind_ok (P d ts) (λ (x : A × List Tok). Q x.0 d x.1 >>= λ (y : B × List Tok). Ok ((x.0, y.0), y.1)) (x, r) e in
      let b2 = bind_ok (Q (b1.0).0 d (b1.0).1) (λ (y : B × List Tok). Ok (((b1.0).0, y.0), y.1)) (x, r) b1.2 in
      let same = ok_pair ((b1.0).0, (b2.0).0) x (b2.0).1 r _ refl b2.2 in
      subst (λ (y : A × B). Reads (λ D. bind (P D) (λ a. Q a D)) (ChainL L M J) (λ D x. WP D x.0 × WQ x.0 D x.1) (λ x h. C2 x.0 x.1 h) d ts y r) same.0
      (chained_ok_parts ts (b1.0).1 r (b1.0).0 (b2.0).0 b1.1 (b2.1 ∙ ap (λ (t : List Tok). Ok ((b2.0).0, t)) same.1))

  -- a beginning of the first part, ended
  chained_first : (p : List Tok) → Begins L p → Begins (ChainL L M J) p
  chained_first p b =
      let e = ends b.value in
      record {
        value = (b.value, e.value);
        more = b.more ++ e.text;
        spelled = (record { front = p ++ b.more; back = e.text; first = b.spelled; second = e.spelled; whole = sym (append_assoc p b.more e.text) }, e.joined);
      }

  -- the first part and a beginning of the second, which isn't empty
  chained_second : (ts r1 : List Tok) (a : A) (RP : Reads P L WP C1 d ts a r1) (t : Tok) (p r2 : List Tok) → r1 ≡ (t ∷ p) ++ r2 → Begins (M a) (t ∷ p) → Begins (ChainL L M J) (RP.front ++ (t ∷ p))
  chained_second ts r1 a RP t p r2 e b = record {
    value = (a, b.value);
    more = b.more;
    spelled = (record { front = RP.front; back = (t ∷ p) ++ b.more; first = RP.spelled; second = b.spelled; whole = append_assoc RP.front (t ∷ p) b.more }, joins a b.value ((t ∷ p) ++ b.more) [] b.spelled (subst (λ (h : Option Tok). C1 a h) (ap head e) RP.closed));
  }

  chained_wrong_second : (ts r1 r : List Tok) (a : A) → P d ts ≡ Ok (a, r1) → Q a d r1 ≡ Err (wrong r) → Refuses (λ D. bind (P D) (λ a. Q a D)) (ChainL L M J) (λ D x. WP D x.0 × WQ x.0 D x.1) (λ x h. C2 x.0 x.1 h) d ts r
  chained_wrong_second ts r1 r a p q =
      let RP = EP.ok ts a r1 p in
      let RQ = (EQ a).wrong r1 r q in
      record {
        front = RP.front ++ RQ.front;
        whole = RP.whole ∙ ap (λ (t : List Tok). RP.front ++ t) RQ.whole ∙ sym (append_assoc RP.front RQ.front r);
        begins = λ _. begun RP RQ.front RQ.whole RQ.begins;
        stable = λ D s le same. chained_go ts r1 r a RP RQ.front RQ.whole D s le same ∙ rw (RQ.stable D s le same) refl;
      }
    where
      begun : (RP : Reads P L WP C1 d ts a r1) (fq : List Tok) → r1 ≡ fq ++ r → (Nonempty fq → Begins (M a) fq) → Begins (ChainL L M J) (RP.front ++ fq)
      begun RP [] e b =
          let n = ends a in
          record {
            value = (a, n.value);
            more = n.text;
            spelled = (record { front = RP.front; back = n.text; first = RP.spelled; second = n.spelled; whole = append_assoc RP.front [] n.text }, n.joined);
          }
      begun RP (t ∷ fq) e b = chained_second ts r1 a RP t fq r e (b tt)

  chained_wrong : (ts r : List Tok) → bind (P d) (λ a. Q a d) ts ≡ Err (wrong r) → Refuses (λ D. bind (P D) (λ a. Q a D)) (ChainL L M J) (λ D x. WP D x.0 × WQ x.0 D x.1) (λ x h. C2 x.0 x.1 h) d ts r
  chained_wrong ts r e =
      elim (bind_err (P d ts) (λ (x : A × List Tok). Q x.0 d x.1 >>= λ (y : B × List Tok). Ok ((x.0, y.0), y.1)) (wrong r) e) [
        | inl p ↦
            let RP = EP.wrong ts r p in
            record {
              front = RP.front;
              whole = RP.whole;
              begins = λ n. chained_first RP.front (RP.begins n);
              stable = λ D s le same. rw (RP.stable D s le same) refl;
            }
        | inr p ↦
            elim (bind_err (Q (p.0).0 d (p.0).1) (λ (y : B × List Tok). Ok (((p.0).0, y.0), y.1)) (wrong r) p.2) [
              | inl q ↦ chained_wrong_second ts (p.0).1 r (p.0).0 p.1 q
              | inr q ↦ absurd (ok_no_err q.2)
            ]
      ]
    where
      ok_no_err : {X : Type 0} {x : X} → Ok x ≡ Err (wrong r) → ⊥
      ok_no_err h = cc

  chained_deep_second : (ts r1 r : List Tok) (a : A) → P d ts ≡ Ok (a, r1) → Q a d r1 ≡ Err (deep r) → FailsTooDeep (λ D. bind (P D) (λ a. Q a D)) (ChainL L M J) (λ D x. WP D x.0 × WQ x.0 D x.1) (λ x h. C2 x.0 x.1 h) d ts r
  chained_deep_second ts r1 r a p q =
      let RP = EP.ok ts a r1 p in
      let RQ = (EQ a).deep r1 r q in
      record {
        front = RP.front ++ RQ.front;
        whole = RP.whole ∙ ap (λ (t : List Tok). RP.front ++ t) RQ.whole ∙ sym (append_assoc RP.front RQ.front r);
        at = RQ.at;
        after = RQ.after;
        here = RQ.here;
        begins = rw (append_assoc RP.front RQ.front (RQ.at ∷ [])) (begun RP RQ.front RQ.at RQ.after (RQ.whole ∙ ap (λ (t : List Tok). RQ.front ++ t) RQ.here) RQ.begins);
        stable = λ s same. chained_go ts r1 r a RP RQ.front RQ.whole d s (omega arith) same ∙ rw (RQ.stable s same) refl;
      }
    where
      begun : (RP : Reads P L WP C1 d ts a r1) (fq : List Tok) (t : Tok) (after : List Tok) → r1 ≡ fq ++ (t ∷ after) → Begins (M a) (fq ++ t ∷ []) → Begins (ChainL L M J) (RP.front ++ (fq ++ t ∷ []))
      begun RP [] t after e b = chained_second ts r1 a RP t [] after e b
      begun RP (u ∷ fq) t after e b = chained_second ts r1 a RP u (fq ++ t ∷ []) after (e ∙ ap (λ (x : List Tok). u ∷ x) (sym (append_assoc fq (t ∷ []) after))) b

  chained_deep : (ts r : List Tok) → bind (P d) (λ a. Q a d) ts ≡ Err (deep r) → FailsTooDeep (λ D. bind (P D) (λ a. Q a D)) (ChainL L M J) (λ D x. WP D x.0 × WQ x.0 D x.1) (λ x h. C2 x.0 x.1 h) d ts r
  chained_deep ts r e =
      elim (bind_err (P d ts) (λ (x : A × List Tok). Q x.0 d x.1 >>= λ (y : B × List Tok). Ok ((x.0, y.0), y.1)) (deep r) e) [
        | inl p ↦
            let RP = EP.deep ts r p in
            record {
              front = RP.front;
              whole = RP.whole;
              at = RP.at;
              after = RP.after;
              here = RP.here;
              begins = chained_first (RP.front ++ RP.at ∷ []) RP.begins;
              stable = λ s same. rw (RP.stable s same) refl;
            }
        | inr p ↦
            elim (bind_err (Q (p.0).0 d (p.0).1) (λ (y : B × List Tok). Ok (((p.0).0, y.0), y.1)) (deep r) p.2) [
              | inl q ↦ chained_deep_second ts (p.0).1 r (p.0).0 p.1 q
              | inr q ↦ absurd (ok_no_err q.2)
            ]
      ]
    where
      ok_no_err : {X : Type 0} {x : X} → Ok x ≡ Err (deep r) → ⊥
      ok_no_err h = cc

  -- Two exact parsers, one after the other.
  pub chained_exact : Exact (λ D. bind (P D) (λ a. Q a D)) (ChainL L M J) (λ D x. WP D x.0 × WQ x.0 D x.1) (λ x h. S2 x.0 x.1 h) (λ x h. C2 x.0 x.1 h) d
  chained_exact = record { again = chained_again; ok = chained_ok; wrong = chained_wrong; deep = chained_deep }

-- one after the other, where the second does not depend on the first
module _ {A B : Type 0} (P : ℕ → Parser A) (Q : ℕ → Parser B) (L : A → Phrase) (M : B → Phrase) (J : A → B → Type 0) (WP : ℕ → A → Type 0) (WQ : ℕ → B → Type 0) (S1 C1 : A → Option Tok → Type 0) (S2 C2 : B → Option Tok → Type 0) (d : ℕ)
    (EP : Exact P L WP S1 C1 d) (EQ : Exact Q M WQ S2 C2 d)
    (follow : (a : A) (b : B) (p q : List Tok) → M b p → J a b → S2 b (head q) → S1 a (head (p ++ q)))
    (joins : (a : A) (b : B) (p r : List Tok) → M b p → C1 a (head (p ++ r)) → J a b)
    (ends : (a : A) → Ends M (J a)) where
  pub seq_exact : Exact (λ D. seq (P D) (Q D)) (SeqL L M J) (λ D x. WP D x.0 × WQ D x.1) (λ x h. S2 x.1 h) (λ x h. C2 x.1 h) d
  seq_exact = chained_exact P (λ a. Q) L (λ a. M) J WP (λ a. WQ) S1 C1 (λ a. S2) (λ a. C2) d EP (λ a. EQ) follow joins ends

-- ---- another language for the same phrases

-- the same phrases in other words; what the depth allows and what may follow may be said of the phrases alone
module _ {A : Type 0} (P : ℕ → Parser A) (L M : A → Phrase) (W W' : ℕ → A → Type 0) (S S' C C' : A → Option Tok → Type 0) (d : ℕ) (E : Exact P L W S C d)
    (to : (x : A) (p : List Tok) → L x p → M x p) (from : (x : A) (p : List Tok) → M x p → L x p)
    (w_to : (x : A) (p : List Tok) → L x p → W d x → W' d x) (w_from : (x : A) (p : List Tok) → M x p → W' d x → W d x)
    (s_from : (x : A) (p : List Tok) (h : Option Tok) → M x p → S' x h → S x h) (c_to : (x : A) (p : List Tok) (h : Option Tok) → L x p → C x h → C' x h) where
  to_begins : (p : List Tok) → Begins L p → Begins M p
  to_begins p b = record { value = b.value; more = b.more; spelled = to b.value (p ++ b.more) b.spelled }

  pub restate : Exact P M W' S' C' d
  restate = record {
    again = λ x p q l w h. E.again x p q (from x p l) (w_from x p l w) (s_from x p (head q) l h);
    ok = λ ts x r e. let R = E.ok ts x r e in record { front = R.front; whole = R.whole; spelled = to x R.front R.spelled; within = w_to x R.front R.spelled R.within; closed = c_to x R.front (head r) R.spelled R.closed; stable = R.stable };
    wrong = λ ts r e. let R = E.wrong ts r e in record { front = R.front; whole = R.whole; begins = λ n. to_begins R.front (R.begins n); stable = R.stable };
    deep = λ ts r e. let R = E.deep ts r e in record { front = R.front; whole = R.whole; at = R.at; after = R.after; here = R.here; begins = to_begins (R.front ++ R.at ∷ []) R.begins; stable = R.stable };
  }

module _ {A : Type 0} (P : ℕ → Parser A) (L M : A → Phrase) (W W' : ℕ → A → Type 0) (S S' C C' : A → Option Tok → Type 0) (d : ℕ) (E : Exact P L W S C d)
    (to : (x : A) (p : List Tok) → L x p → M x p) (from : (x : A) (p : List Tok) → M x p → L x p)
    (w_to : (x : A) (p : List Tok) → L x p → W d x → W' d x) (w_from : (x : A) → W' d x → W d x)
    (s_from : (x : A) (h : Option Tok) → S' x h → S x h) (c_to : (x : A) (h : Option Tok) → C x h → C' x h) where
  pub relabel : Exact P M W' S' C' d
  relabel = restate P L M W W' S S' C C' d E to from w_to (λ x p l. w_from x) (λ x p h l. s_from x h) (λ x p h l. c_to x h)

abbrev pub Two : {A B : Type 0} → (A → Phrase) → (B → Phrase) → A × B → List Tok → Type 0
Two L M x = Seq (L x.0) (M x.1)

-- one thing and then another that depends on it
abbrev pub Dep : {A B : Type 0} → (A → Phrase) → (A → B → Phrase) → A × B → List Tok → Type 0
Dep L M x = Seq (L x.0) (M x.0 x.1)

-- where nothing else joins them
module _ {A B : Type 0} (P : ℕ → Parser A) (Q : A → ℕ → Parser B) (L : A → Phrase) (M : A → B → Phrase) (WP : ℕ → A → Type 0) (WQ : A → ℕ → B → Type 0) (S1 C1 : A → Option Tok → Type 0) (S2 C2 : A → B → Option Tok → Type 0) (d : ℕ)
    (EP : Exact P L WP S1 C1 d) (EQ : (a : A) → Exact (Q a) (M a) (WQ a) (S2 a) (C2 a) d)
    (follow : (a : A) (b : B) (p q : List Tok) → M a b p → S2 a b (head q) → S1 a (head (p ++ q)))
    (ends : (a : A) → Begins (M a) []) where
  pub dep_exact : Exact (λ D. bind (P D) (λ a. Q a D)) (Dep L M) (λ D x. WP D x.0 × WQ x.0 D x.1) (λ x h. S2 x.0 x.1 h) (λ x h. C2 x.0 x.1 h) d
  dep_exact =
      relabel (λ D. bind (P D) (λ a. Q a D)) (ChainL L M (λ a b. Unit {0})) (Dep L M) (λ D x. WP D x.0 × WQ x.0 D x.1) (λ D x. WP D x.0 × WQ x.0 D x.1) (λ x h. S2 x.0 x.1 h) (λ x h. S2 x.0 x.1 h) (λ x h. C2 x.0 x.1 h) (λ x h. C2 x.0 x.1 h) d
      (chained_exact P Q L M (λ a b. Unit {0}) WP WQ S1 C1 S2 C2 d EP EQ (λ a b p q m j h. follow a b p q m h) (λ a b p r m h. tt) (λ a. record { value = (ends a).value; text = (ends a).more; spelled = (ends a).spelled; joined = tt }))
      (λ x p l. l.0) (λ x p l. (l, tt)) (λ x p l w. w) (λ x w. w) (λ x h s. s) (λ x h c. c)

-- the same, where the second does not depend on the first
module _ {A B : Type 0} (P : ℕ → Parser A) (Q : ℕ → Parser B) (L : A → Phrase) (M : B → Phrase) (WP : ℕ → A → Type 0) (WQ : ℕ → B → Type 0) (S1 C1 : A → Option Tok → Type 0) (S2 C2 : B → Option Tok → Type 0) (d : ℕ)
    (EP : Exact P L WP S1 C1 d) (EQ : Exact Q M WQ S2 C2 d)
    (follow : (a : A) (b : B) (p q : List Tok) → M b p → S2 b (head q) → S1 a (head (p ++ q)))
    (ends : Begins M []) where
  pub two_exact : Exact (λ D. seq (P D) (Q D)) (Two L M) (λ D x. WP D x.0 × WQ D x.1) (λ x h. S2 x.1 h) (λ x h. C2 x.1 h) d
  two_exact = dep_exact P (λ a. Q) L (λ a. M) WP (λ a. WQ) S1 C1 (λ a. S2) (λ a. C2) d EP (λ a. EQ) follow (λ a. ends)

-- ---- another value

-- the value before it was changed
pub record Comes {A B : Type 0} (f : A → B) (L : A → Phrase) (W : A → Type 0) (W' : B → Type 0) (S : A → Option Tok → Type 0) (S' : B → Option Tok → Type 0) (y : B) (p : List Tok) : Type 0 where
  pub value : A
  pub same : y ≡ f value
  pub spelled : L value p
  pub within : W' y → W value
  pub stops : (h : Option Tok) → S' y h → S value h

module _ {A B : Type 0} (f : A → B) (P : ℕ → Parser A) (L : A → Phrase) (M : B → Phrase) (W : ℕ → A → Type 0) (W' : ℕ → B → Type 0) (S C : A → Option Tok → Type 0) (S' C' : B → Option Tok → Type 0) (d : ℕ)
    (EP : Exact P L W S C d)
    (comes : (y : B) (p : List Tok) → M y p → Comes f L (W d) (W' d) S S' y p)
    (goes : (x : A) (p : List Tok) → L x p → M (f x) p)
    (deepens : (x : A) → W d x → W' d (f x))
    (closes : (x : A) (h : Option Tok) → C x h → C' (f x) h) where
  map_again : (y : B) (p q : List Tok) → M y p → W' d y → S' y (head q) → map_parser f (P d) (p ++ q) ≡ Ok (y, q)
  map_again y p q m w h =
      let c = comes y p m in
      let e = EP.again c.value p q c.spelled (c.within w) (c.stops (head q) h) in
      rw e (ap (λ (z : B). Ok (z, q)) (sym c.same))

  map_begins : (p : List Tok) → Begins L p → Begins M p
  map_begins p b = record { value = f b.value; more = b.more; spelled = goes b.value (p ++ b.more) b.spelled }

  map_ok : (ts : List Tok) (y : B) (r : List Tok) → map_parser f (P d) ts ≡ Ok (y, r) → Reads (λ D. map_parser f (P D)) M W' C' d ts y r
  map_ok ts y r e =
      let b = bind_ok (P d ts) (λ (x : A × List Tok). Ok (f x.0, x.1)) (y, r) e in
      let same = ok_pair (f (b.0).0) y (b.0).1 r _ refl b.2 in
      let R = EP.ok ts (b.0).0 r (b.1 ∙ ap (λ (t : List Tok). Ok ((b.0).0, t)) same.1) in
      subst (λ (y : B). Reads (λ D. map_parser f (P D)) M W' C' d ts y r) same.0 (record {
        front = R.front;
        whole = R.whole;
        spelled = goes (b.0).0 R.front R.spelled;
        within = deepens (b.0).0 R.within;
        closed = closes (b.0).0 (head r) R.closed;
        stable = λ D s le h. rw (R.stable D s le h) refl;
      })

  map_wrong : (ts r : List Tok) → map_parser f (P d) ts ≡ Err (wrong r) → Refuses (λ D. map_parser f (P D)) M W' C' d ts r
  map_wrong ts r e =
      elim (bind_err (P d ts) (λ (x : A × List Tok). Ok (f x.0, x.1)) (wrong r) e) [
        | inl p ↦
            let R = EP.wrong ts r p in
            record { front = R.front; whole = R.whole; begins = λ n. map_begins R.front (R.begins n); stable = λ D s le h. rw (R.stable D s le h) refl }
        | inr q ↦ absurd (ok_no_err q.2)
      ]
    where
      ok_no_err : {X : Type 0} {x : X} → Ok x ≡ Err (wrong r) → ⊥
      ok_no_err h = cc

  map_deep : (ts r : List Tok) → map_parser f (P d) ts ≡ Err (deep r) → FailsTooDeep (λ D. map_parser f (P D)) M W' C' d ts r
  map_deep ts r e =
      elim (bind_err (P d ts) (λ (x : A × List Tok). Ok (f x.0, x.1)) (deep r) e) [
        | inl p ↦
            let R = EP.deep ts r p in
            record { front = R.front; whole = R.whole; at = R.at; after = R.after; here = R.here; begins = map_begins _ R.begins; stable = λ s h. rw (R.stable s h) refl }
        | inr q ↦ absurd (ok_no_err q.2)
      ]
    where
      ok_no_err : {X : Type 0} {x : X} → Ok x ≡ Err (deep r) → ⊥
      ok_no_err h = cc

  pub map_exact : Exact (λ D. map_parser f (P D)) M W' S' C' d
  map_exact = record { again = map_again; ok = map_ok; wrong = map_wrong; deep = map_deep }

-- ---- one token

abbrev pub Always : {A : Type 0} → A → Option Tok → Type 0
Always x h = Unit {0}

abbrev pub Shallow : {A : Type 0} → ℕ → A → Type 0
Shallow d x = Unit {0}

pub taken_ok : {A : Type 0} (o : Option A) (t : Tok) (ts : List Tok) (x : A) (r : List Tok) → take_value o t ts ≡ Ok (x, r) → (o ≡ Some x) × (ts ≡ r)
taken_ok (Some a) t ts x r e = let s = ok_pair a x ts r _ refl e in (ap Some s.0, s.1)
taken_ok None t ts x r e = absurd cc

taken_wrong : {A : Type 0} (o : Option A) (t : Tok) (ts : List Tok) (r : List Tok) → take_value o t ts ≡ Err (wrong r) → (o ≡ None) × (t ∷ ts ≡ r)
taken_wrong (Some a) t ts r e = absurd cc
taken_wrong None t ts r e = (refl, cc)

taken_deep : {A : Type 0} (o : Option A) (t : Tok) (ts : List Tok) (r : List Tok) → take_value o t ts ≡ Err (deep r) → ⊥
taken_deep (Some a) t ts r e = cc
taken_deep None t ts r e = cc

module _ {A : Type 0} (f : Tok → Option A) (d : ℕ) where
  take_again : (x : A) (p q : List Tok) → One f x p → Unit {0} → Unit {0} → take f (p ++ q) ≡ Ok (x, q)
  take_again x p q o w h = rw (o.whole, o.has) refl

  take_ok : (ts : List Tok) (x : A) (r : List Tok) → take f ts ≡ Ok (x, r) → Reads (λ D. take f) (One f) (λ D. Shallow D) Always d ts x r
  take_ok [] x r e = absurd cc
  take_ok (t ∷ ts) x r e =
      let s = taken_ok (f t) t ts x r e in
      record {
        front = t ∷ [];
        whole = ap (λ (z : List Tok). t ∷ z) s.1;
        spelled = record { token = t; has = s.0; whole = refl };
        within = tt;
        closed = tt;
        stable = λ D z le same. rw s.0 refl;
      }

  take_wrong : (ts r : List Tok) → take f ts ≡ Err (wrong r) → Refuses (λ D. take f) (One f) (λ D. Shallow D) Always d ts r
  take_wrong [] [] e = record { front = []; whole = refl; begins = λ n. absurd n; stable = none_stays }
    where
      none_stays : (D : ℕ) (s : List Tok) → d ≤ D → head [] ≡ head s → take f s ≡ Err (wrong s)
      none_stays D [] le same = refl
      none_stays D (t ∷ s) le same = absurd cc
  take_wrong [] (t ∷ r) e = absurd (let w : wrong [] ≡ wrong (t ∷ r) = cc in cc)
  take_wrong (t ∷ ts) r e =
      let s = taken_wrong (f t) t ts r e in
      record { front = []; whole = s.1; begins = λ n. absurd n; stable = λ D z le same. stays z (ap head s.1 ∙ same) s.0 }
    where
      stays : (z : List Tok) → Some t ≡ head z → f t ≡ None → take f z ≡ Err (wrong z)
      stays [] same n = absurd cc
      stays (u ∷ z) same n = let e : t ≡ u = cc in rw (← e, n) refl

  take_deep : (ts r : List Tok) → take f ts ≡ Err (deep r) → FailsTooDeep (λ D. take f) (One f) (λ D. Shallow D) Always d ts r
  take_deep [] r e = absurd cc
  take_deep (t ∷ ts) r e = absurd (taken_deep (f t) t ts r e)

  pub take_exact : Exact (λ D. take f) (One f) (λ D. Shallow D) Always Always d
  take_exact = record { again = take_again; ok = take_ok; wrong = take_wrong; deep = take_deep }

-- ---- a choice by the first token, and nothing

abbrev pub Nothing : {A : Type 0} → A → List Tok → Type 0
Nothing x p = ⊥

module _ {A : Type 0} (W : ℕ → A → Type 0) (S C : A → Option Tok → Type 0) (d : ℕ) where
  pub none_exact : Exact {A = A} (λ D. none) Nothing W S C d
  none_exact = record {
    again = λ x p q l w h. absurd l;
    ok = λ ts x r e. absurd (no_ok e);
    wrong = λ ts r e. let same = err_is (wrong ts) (wrong r) (Err (wrong ts)) refl e in record { front = []; whole = here same; begins = λ n. absurd n; stable = λ D s le h. refl };
    deep = λ ts r e. absurd (no_deep e);
  }
    where
      no_ok : {X : Type 0} {x : X} {w : Fault} → Err w ≡ Ok x → ⊥
      no_ok h = cc

      no_deep : {X : Type 0} {ts r : List Tok} → ◌≡◌ {A = Result X Fault} (Err (wrong ts)) (Err (deep r)) → ⊥
      no_deep h = cc

      here : {ts r : List Tok} → wrong ts ≡ wrong r → ts ≡ r
      here h = cc

abbrev pub Empty : {A : Type 0} → A → A → List Tok → Type 0
Empty x y p = (y ≡ x) × (p ≡ [])

module _ {A : Type 0} (x : A) (W : ℕ → A → Type 0) (S C : A → Option Tok → Type 0) (d : ℕ) (w : W d x) (c : (h : Option Tok) → C x h) where
  pub give_exact : Exact (λ D. give x) (Empty x) W S C d
  give_exact = record {
    again = λ y p q l w h. rw (l.0, l.1) refl;
    ok = λ ts y r e. let s = ok_pair x y ts r (Ok (x, ts)) refl e in subst (λ (y : A). Reads (λ D. give x) (Empty x) W C d ts y r) s.0 (record { front = []; whole = s.1; spelled = (refl, refl); within = w; closed = c (head r); stable = λ D s le h. refl });
    wrong = λ ts r e. absurd (no_err e);
    deep = λ ts r e. absurd (no_err e);
  }
    where
      no_err : {X : Type 0} {x : X} {w : Fault} → Ok x ≡ Err w → ⊥
      no_err h = cc

module _ {A : Type 0} (c : ℕ → Option Tok → Parser A) (Lc : Option Tok → A → Phrase) (L : A → Phrase) (W : ℕ → A → Type 0) (S C : A → Option Tok → Type 0) (d : ℕ)
    (B : A → Option Tok → Type 0) (E : (h : Option Tok) → Exact (λ D. c D h) (Lc h) W S B d)
    (pick : (x : A) (p q : List Tok) → L x p → S x (head q) → Lc (head (p ++ q)) x p)
    (keep : (h : Option Tok) (x : A) (p : List Tok) → Lc h x p → L x p)
    (closing : (x : A) (p r : List Tok) → Lc (head (p ++ r)) x p → B x (head r) → C x (head r)) where
  keep_begins : (h : Option Tok) (p : List Tok) → Begins (Lc h) p → Begins L p
  keep_begins h p b = record { value = b.value; more = b.more; spelled = keep h b.value (p ++ b.more) b.spelled }

  same_head : (ts front r s : List Tok) → ts ≡ front ++ r → head r ≡ head s → head ts ≡ head (front ++ s)
  same_head ts front r s e h = ap head e ∙ head_append front r s h

  choice_ok : (ts : List Tok) (x : A) (r : List Tok) → choice (c d) ts ≡ Ok (x, r) → Reads (λ D. choice (c D)) L W C d ts x r
  choice_ok ts x r e =
      let R = (E (head ts)).ok ts x r e in
      record {
        front = R.front;
        whole = R.whole;
        spelled = keep (head ts) x R.front R.spelled;
        within = R.within;
        closed = closing x R.front r (subst (λ (z : List Tok). Lc (head z) x R.front) R.whole R.spelled) R.closed;
        stable = λ D s le h. subst (λ (o : Option Tok). c D o (R.front ++ s) ≡ Ok (x, s)) (same_head ts R.front r s R.whole h) (R.stable D s le h);
      }

  choice_wrong : (ts r : List Tok) → choice (c d) ts ≡ Err (wrong r) → Refuses (λ D. choice (c D)) L W C d ts r
  choice_wrong ts r e =
      let R = (E (head ts)).wrong ts r e in
      record {
        front = R.front;
        whole = R.whole;
        begins = λ n. keep_begins (head ts) R.front (R.begins n);
        stable = λ D s le h. subst (λ (o : Option Tok). c D o (R.front ++ s) ≡ Err (wrong s)) (same_head ts R.front r s R.whole h) (R.stable D s le h);
      }

  choice_deep : (ts r : List Tok) → choice (c d) ts ≡ Err (deep r) → FailsTooDeep (λ D. choice (c D)) L W C d ts r
  choice_deep ts r e =
      let R = (E (head ts)).deep ts r e in
      record {
        front = R.front;
        whole = R.whole;
        at = R.at;
        after = R.after;
        here = R.here;
        begins = keep_begins (head ts) _ R.begins;
        stable = λ s h. subst (λ (o : Option Tok). c d o (R.front ++ s) ≡ Err (deep s)) (same_head ts R.front r s R.whole h) (R.stable s h);
      }

  pub choice_exact : Exact (λ D. choice (c D)) L W S C d
  choice_exact = record {
    again = λ x p q l w h. (E (head (p ++ q))).again x p q (pick x p q l h) w h;
    ok = choice_ok;
    wrong = choice_wrong;
    deep = choice_deep;
  }

-- ---- the same, with what can be seen left out

pub chained_one : {A B : Type 0} {P : ℕ → Parser A} {Q : A → ℕ → Parser B} {L : A → List Tok → Type 0} {M : A → B → List Tok → Type 0} {WP : ℕ → A → Type 0} {WQ : A → ℕ → B → Type 0} {S1 C1 : A → Option Tok → Type 0} {S2 C2 : A → B → Option Tok → Type 0} {d : ℕ}
    → Exact P L WP S1 C1 d → ((a : A) → Exact (Q a) (M a) (WQ a) (S2 a) (C2 a) d)
    → ((a : A) (b : B) (p q : List Tok) → M a b p → S2 a b (head q) → S1 a (head (p ++ q)))
    → ((a : A) → Begins (M a) [])
    → Exact (λ D. bind (P D) (λ a. Q a D)) (Dep L M) (λ D x. WP D x.0 × WQ x.0 D x.1) (λ x h. S2 x.0 x.1 h) (λ x h. C2 x.0 x.1 h) d
chained_one {P = P} {Q = Q} {L = L} {M = M} {WP = WP} {WQ = WQ} {S1 = S1} {C1 = C1} {S2 = S2} {C2 = C2} {d = d} EP EQ follow ends =
    dep_exact P Q L M WP WQ S1 C1 S2 C2 d EP EQ follow ends

pub two : {A B : Type 0} {P : ℕ → Parser A} {Q : ℕ → Parser B} {L : A → List Tok → Type 0} {M : B → List Tok → Type 0} {WP : ℕ → A → Type 0} {WQ : ℕ → B → Type 0} {S1 C1 : A → Option Tok → Type 0} {S2 C2 : B → Option Tok → Type 0} {d : ℕ}
    → Exact P L WP S1 C1 d → Exact Q M WQ S2 C2 d
    → ((a : A) (b : B) (p q : List Tok) → M b p → S2 b (head q) → S1 a (head (p ++ q)))
    → Begins M []
    → Exact (λ D. seq (P D) (Q D)) (Two L M) (λ D x. WP D x.0 × WQ D x.1) (λ x h. S2 x.1 h) (λ x h. C2 x.1 h) d
two {P = P} {Q = Q} {L = L} {M = M} {WP = WP} {WQ = WQ} {S1 = S1} {C1 = C1} {S2 = S2} {C2 = C2} {d = d} EP EQ follow ends =
    two_exact P Q L M WP WQ S1 C1 S2 C2 d EP EQ follow ends

pub value_of : {A B : Type 0} (f : A → B) {P : ℕ → Parser A} {L : A → List Tok → Type 0} (M : B → Phrase) {W : ℕ → A → Type 0} (W' : ℕ → B → Type 0) {S C : A → Option Tok → Type 0} (S' C' : B → Option Tok → Type 0) {d : ℕ}
    → Exact P L W S C d
    → ((y : B) (p : List Tok) → M y p → Comes f L (W d) (W' d) S S' y p)
    → ((x : A) (p : List Tok) → L x p → M (f x) p)
    → ((x : A) → W d x → W' d (f x))
    → ((x : A) (h : Option Tok) → C x h → C' (f x) h)
    → Exact (λ D. map_parser f (P D)) M W' S' C' d
value_of f {P = P} {L = L} M {W = W} W' {S = S} {C = C} S' C' {d = d} EP comes goes deepens closes =
    map_exact f P L M W W' S C S' C' d EP comes goes deepens closes

pub restated : {A : Type 0} {P : ℕ → Parser A} {L : A → List Tok → Type 0} (M : A → Phrase) {W : ℕ → A → Type 0} (W' : ℕ → A → Type 0) {S C : A → Option Tok → Type 0} (S' C' : A → Option Tok → Type 0) {d : ℕ}
    → Exact P L W S C d
    → ((x : A) (p : List Tok) → L x p → M x p)
    → ((x : A) (p : List Tok) → M x p → L x p)
    → ((x : A) (p : List Tok) → L x p → W d x → W' d x)
    → ((x : A) (p : List Tok) → M x p → W' d x → W d x)
    → ((x : A) (p : List Tok) (h : Option Tok) → M x p → S' x h → S x h)
    → ((x : A) (p : List Tok) (h : Option Tok) → L x p → C x h → C' x h)
    → Exact P M W' S' C' d
restated {P = P} {L = L} M {W = W} W' {S = S} {C = C} S' C' {d = d} E to from w_to w_from s_from c_to =
    restate P L M W W' S S' C C' d E to from w_to w_from s_from c_to
