-- Phrases behind commas, and perhaps one comma more, up to a brace, are read exactly where one phrase is.
use Rattle.std.proofs.Common.{◌≡◌, ℕ, zero, suc, ◌-◌, ◌≤◌, Bool, true, false, List, [], ◌∷◌, ◌++◌, length, Option, Some, None, Result, Ok, Err, refl, sym, ap, subst, ◌∙◌, append_assoc, arith, ◌⊎◌, inl, inr, length-append}
use Rattle.std.proofs.lemmas.List.{append-nil}
use Rattle.lex.specs.declared.token.Fixed.TheVariants.{Punctuator}
use Rattle.lex.specs.declared.token.Punctuator.TheVariants as punct
use Rattle.lex.specs.Tokens.{fixed, Tok}
use Rattle.syntax.specs.Phrases.{Phrase, Seq, Is, Begins, Many, is_fixed, the_fixed}
use Rattle.parse.specs.inner.Reading.{Fault, wrong, deep, ◌>>=◌, Parser, head, is_next, trailing}
use Rattle.parse.proofs.combinators.Exact.{head_append, Nonempty, Reads, Exact, bind_ok, bind_err, ok_pair}
use Rattle.parse.proofs.combinators.Many.{ManyFit}
use Rattle.parse.proofs.combinators.Lists.{Behind}
use Rattle.parse.proofs.combinators.FixedTokens.{fixed_is, that_fixed}

-- a comma more, or none
abbrev pub Spare : Phrase
Spare q = (q ≡ []) ⊎ Is (Punctuator punct.Comma) q

abbrev pub Trailed : {A : Type 0} → (A → Phrase) → List A → Phrase
Trailed L xs = Seq (Many (Behind L) xs) Spare

-- what the tokens begin with
data Look (ts : List Tok) : Type 0 where
  other : is_next (Punctuator punct.Comma) (head ts) ≡ false → Look ts
  last : (t : Tok) (c : List Tok) → ts ≡ t ∷ c → the_fixed (Punctuator punct.Comma) t ≡ Some tt → is_next (Punctuator punct.CloseBrace) (head c) ≡ true → Look ts
  more : (t : Tok) (c : List Tok) → ts ≡ t ∷ c → the_fixed (Punctuator punct.Comma) t ≡ Some tt → is_next (Punctuator punct.CloseBrace) (head c) ≡ false → Look ts

is_comma : (t : Tok) → is_fixed (Punctuator punct.Comma) t.terminal ≡ true → the_fixed (Punctuator punct.Comma) t ≡ Some tt
is_comma t e = rw e refl

comma_is : (t : Tok) → the_fixed (Punctuator punct.Comma) t ≡ Some tt → is_fixed (Punctuator punct.Comma) t.terminal ≡ true
comma_is t e = ap (is_fixed (Punctuator punct.Comma)) (fixed_is (Punctuator punct.Comma) t tt e)

look : (ts : List Tok) → Look ts
look [] = other refl
look (t ∷ c) = go (is_fixed (Punctuator punct.Comma) t.terminal) (is_next (Punctuator punct.CloseBrace) (head c)) refl refl
  where
    go : (a b : Bool) → is_fixed (Punctuator punct.Comma) t.terminal ≡ a → is_next (Punctuator punct.CloseBrace) (head c) ≡ b → Look (t ∷ c)
    go false b e f = other e
    go true true e f = last t c refl (is_comma t e) f
    go true false e f = more t c refl (is_comma t e) f

no_both : {X : Type 0} (r : Result X Fault) (x : X) (f : Fault) → r ≡ Ok x → r ≡ Err f → ⊥
no_both r x f p q = cc

-- where a brace is next, no comma is
brace_not_comma : (h : Option Tok) → is_next (Punctuator punct.CloseBrace) h ≡ true → is_next (Punctuator punct.Comma) h ≡ false
brace_not_comma None e = refl
brace_not_comma (Some t) e = ap (is_fixed (Punctuator punct.Comma)) (that_fixed (Punctuator punct.CloseBrace) t e)

module _ {A : Type 0} (P : ℕ → Parser A) (L : A → Phrase) (W : ℕ → A → Type 0) (S C : A → Option Tok → Type 0) (d : ℕ) (E : Exact P L W S C d)
    (inside : (x : A) (p q : List Tok) → L x p → is_next (Punctuator punct.CloseBrace) (head (p ++ q)) ≡ false)
    (comma : (x : A) (t : Tok) → t.terminal ≡ fixed (Punctuator punct.Comma) → S x (Some t))
    (brace : (x : A) (t : Tok) → t.terminal ≡ fixed (Punctuator punct.CloseBrace) → S x (Some t)) where
  at_other : (D n : ℕ) (ts : List Tok) → is_next (Punctuator punct.Comma) (head ts) ≡ false → trailing n (P D) ts ≡ Ok ([], ts)
  at_other D zero ts e = rw e refl
  at_other D (suc n) ts e = rw e refl

  at_last : (D n : ℕ) (t : Tok) (c : List Tok) → length (t ∷ c) ≤ n → the_fixed (Punctuator punct.Comma) t ≡ Some tt → is_next (Punctuator punct.CloseBrace) (head c) ≡ true → trailing n (P D) (t ∷ c) ≡ Ok ([], c)
  at_last D zero t c le e f = absurd (omega arith)
  at_last D (suc n) t c le e f = rw (comma_is t e, f) refl

  at_more : (D n : ℕ) (t : Tok) (c : List Tok) → the_fixed (Punctuator punct.Comma) t ≡ Some tt → is_next (Punctuator punct.CloseBrace) (head c) ≡ false → trailing (suc n) (P D) (t ∷ c) ≡ (P D c >>= λ x. trailing n (P D) x.1 >>= λ y. Ok (x.0 ∷ y.0, y.1))
  at_more D n t c e f = rw (comma_is t e, f) refl

  -- one more turn, over any fuel that suffices
  turn : (D N : ℕ) (t : Tok) (c : List Tok) → length (t ∷ c) ≤ N → the_fixed (Punctuator punct.Comma) t ≡ Some tt → is_next (Punctuator punct.CloseBrace) (head c) ≡ false → trailing N (P D) (t ∷ c) ≡ (P D c >>= λ x. trailing (N - 1) (P D) x.1 >>= λ y. Ok (x.0 ∷ y.0, y.1))
  turn D zero t c le e f = absurd (omega arith)
  turn D (suc N) t c le e f = let k : suc N - 1 ≡ N = omega arith in at_more D N t c e f ∙ rw k refl

  -- ---- what is spelled is read

  follow_brace : (x : A) (h : Option Tok) → is_next (Punctuator punct.CloseBrace) h ≡ true → S x h
  follow_brace x None e = absurd cc
  follow_brace x (Some t) e = brace x t (that_fixed (Punctuator punct.CloseBrace) t e)

  follow_spare : (x : A) (b q : List Tok) → Spare b → is_next (Punctuator punct.CloseBrace) (head q) ≡ true → S x (head (b ++ q))
  follow_spare x b q (inl e) h = subst (λ (z : List Tok). S x (head (z ++ q))) (sym e) (follow_brace x (head q) h)
  follow_spare x b q (inr o) h = subst (λ (z : List Tok). S x (head (z ++ q))) (sym o.whole) (comma x o.token (fixed_is (Punctuator punct.Comma) o.token tt o.has))

  follow : (x : A) (ys : List A) (f b q : List Tok) → Many (Behind L) ys f → Spare b → is_next (Punctuator punct.CloseBrace) (head q) ≡ true → S x (head (f ++ (b ++ q)))
  follow x [] f b q l s h = subst (λ (z : List Tok). S x (head (z ++ (b ++ q)))) (sym l) (follow_spare x b q s h)
  follow x (y ∷ ys) f b q l s h =
      let whole : f ≡ l.first.first.token ∷ (l.first.back ++ l.back) = l.whole ∙ ap (λ (z : List Tok). z ++ l.back) (l.first.whole ∙ ap (λ (z : List Tok). z ++ l.first.back) l.first.first.whole) in
      subst (λ (z : List Tok). S x (head (z ++ (b ++ q)))) (sym whole) (comma x l.first.first.token (fixed_is (Punctuator punct.Comma) l.first.first.token tt l.first.first.has))

  trailing_again : (xs : List A) (n : ℕ) (f b q : List Tok) → length (f ++ (b ++ q)) ≤ n → Many (Behind L) xs f → Spare b → ManyFit W d xs → is_next (Punctuator punct.CloseBrace) (head q) ≡ true → trailing n (P d) (f ++ (b ++ q)) ≡ Ok (xs, q)
  trailing_again [] n f b q le l (inl e) w h = rw (l, e) (at_other d n q (brace_not_comma (head q) h))
  trailing_again [] n f b q le l (inr o) w h =
      let whole : f ++ (b ++ q) ≡ o.token ∷ q = rw (l, o.whole) refl in
      let same = ap length whole in
      ap (trailing n (P d)) whole ∙ at_last d n o.token q (omega arith) o.has h
  trailing_again (x ∷ xs) n f b q le l s w h =
      let t = l.first.first.token in
      let has = l.first.first.has in
      let p = l.first.back in
      let rest = l.back ++ (b ++ q) in
      let parts : f ≡ t ∷ (p ++ l.back) = l.whole ∙ ap (λ (z : List Tok). z ++ l.back) (l.first.whole ∙ ap (λ (z : List Tok). z ++ l.first.back) l.first.first.whole) in
      let whole : f ++ (b ++ q) ≡ t ∷ (p ++ rest) = ap (λ (z : List Tok). z ++ (b ++ q)) parts ∙ ap (λ (z : List Tok). t ∷ z) (append_assoc p l.back (b ++ q)) in
      let same = ap length whole in
      let part = length-append p rest in
      let one = turn d n t (p ++ rest) (omega arith) has (inside x p rest l.first.second) in
      let read = E.again x p rest l.first.second w.0 (follow x xs l.back b q l.second s h) in
      let onward = trailing_again xs (n - 1) l.back b q (omega arith) l.second s w.1 h in
      ap (trailing n (P d)) whole ∙ one ∙ rw (read, onward) refl

  -- ---- what is read is spelled

  record Listed (ts : List Tok) (xs : List A) (r : List Tok) : Type 0 where
    front : List Tok
    whole : ts ≡ front ++ r
    spelled : Trailed L xs front
    within : ManyFit W d xs
    closed : is_next (Punctuator punct.Comma) (head r) ≡ false
    stable : (D N : ℕ) (s : List Tok) → d ≤ D → length (front ++ s) ≤ N → head r ≡ head s → trailing N (P D) (front ++ s) ≡ Ok (xs, s)

  one_comma : (t : Tok) → the_fixed (Punctuator punct.Comma) t ≡ Some tt → Is (Punctuator punct.Comma) (t ∷ [])
  one_comma t e = record { token = t; has = e; whole = refl }

  behind : (x : A) (t : Tok) (p : List Tok) → the_fixed (Punctuator punct.Comma) t ≡ Some tt → L x p → Behind L x (t ∷ p)
  behind x t p e l = record { front = t ∷ []; back = p; first = one_comma t e; second = l; whole = refl }

  none_listed : (ts : List Tok) → is_next (Punctuator punct.Comma) (head ts) ≡ false → Listed ts [] ts
  none_listed ts h = record {
    front = [];
    whole = refl;
    spelled = record { front = []; back = []; first = refl; second = inl refl; whole = refl };
    within = tt;
    closed = h;
    stable = λ D N s le fits same. at_other D N s (ap (is_next (Punctuator punct.Comma)) (sym same) ∙ h);
  }

  last_listed : (t : Tok) (c : List Tok) → the_fixed (Punctuator punct.Comma) t ≡ Some tt → is_next (Punctuator punct.CloseBrace) (head c) ≡ true → Listed (t ∷ c) [] c
  last_listed t c e h = record {
    front = t ∷ [];
    whole = refl;
    spelled = record { front = []; back = t ∷ []; first = refl; second = inr (one_comma t e); whole = refl };
    within = tt;
    closed = brace_not_comma (head c) h;
    stable = λ D N s le fits same. at_last D N t s fits e (ap (is_next (Punctuator punct.CloseBrace)) (sym same) ∙ h);
  }

  after_one : (xs : List A) (x : A) (t : Tok) (p f : List Tok) → the_fixed (Punctuator punct.Comma) t ≡ Some tt → L x p → Trailed L xs f → Trailed L (x ∷ xs) (t ∷ (p ++ f))
  after_one xs x t p f e l s = record {
    front = t ∷ (p ++ s.front);
    back = s.back;
    first = record { front = t ∷ p; back = s.front; first = behind x t p e l; second = s.first; whole = refl };
    second = s.second;
    whole = ap (λ (z : List Tok). t ∷ z) (ap (λ (z : List Tok). p ++ z) s.whole ∙ sym (append_assoc p s.front s.back));
  }

  -- what stands before a brace or not still does
  still : (c front r s : List Tok) → c ≡ front ++ r → head r ≡ head s → is_next (Punctuator punct.CloseBrace) (head c) ≡ false → is_next (Punctuator punct.CloseBrace) (head (front ++ s)) ≡ false
  still c front r s e same h = ap (is_next (Punctuator punct.CloseBrace)) (sym (ap head e ∙ head_append front r s same)) ∙ h

  one : (t : Tok) (c : List Tok) (x : A) (xs : List A) (r1 r : List Tok) → the_fixed (Punctuator punct.Comma) t ≡ Some tt → is_next (Punctuator punct.CloseBrace) (head c) ≡ false → Reads P L W C d c x r1 → Listed r1 xs r → Listed (t ∷ c) (x ∷ xs) r
  one t c x xs r1 r e h R I = record {
    front = t ∷ (R.front ++ I.front);
    whole = ap (λ (z : List Tok). t ∷ z) (R.whole ∙ ap (λ (z : List Tok). R.front ++ z) I.whole ∙ sym (append_assoc R.front I.front r));
    spelled = after_one xs x t R.front I.front e R.spelled I.spelled;
    within = (R.within, I.within);
    closed = I.closed;
    stable = λ D N s le fits same.
        let parts = append_assoc R.front I.front s in
        let same_length = ap length parts in
        let part = length-append R.front (I.front ++ s) in
        let heads = ap head I.whole ∙ head_append I.front r s same in
        ap (λ (z : List Tok). trailing N (P D) (t ∷ z)) parts
        ∙ turn D N t (R.front ++ (I.front ++ s)) (omega arith) e (still c R.front r1 (I.front ++ s) R.whole heads h)
        ∙ rw (R.stable D (I.front ++ s) le heads, I.stable D (N - 1) s le (omega arith) same) refl;
  }

  trailing_ok : (n : ℕ) (ts : List Tok) (xs : List A) (r : List Tok) → length ts ≤ n → trailing n (P d) ts ≡ Ok (xs, r) → Listed ts xs r
  trailing_ok zero (t ∷ ts) xs r le e = absurd (omega arith)
  trailing_ok zero [] xs r le e =
      let same = ok_pair [] xs [] r (trailing zero (P d) []) (at_other d zero [] refl) e in
      subst (λ (z : List A). Listed [] z r) same.0 (subst (Listed [] []) same.1 (none_listed [] refl))
  trailing_ok (suc n) ts xs r le e = go (trailing_ok n) (look ts)
    where
      go : ((ts : List Tok) (xs : List A) (r : List Tok) → length ts ≤ n → trailing n (P d) ts ≡ Ok (xs, r) → Listed ts xs r) → Look ts → Listed ts xs r
      go rec (other h) =
          let same = ok_pair [] xs ts r (trailing (suc n) (P d) ts) (at_other d (suc n) ts h) e in
          subst (λ (z : List A). Listed ts z r) same.0 (subst (Listed ts []) same.1 (none_listed ts h))
      go rec (last t c is has h) =
          let fits : length (t ∷ c) ≤ suc n = subst (λ (z : List Tok). length z ≤ suc n) is le in
          let same = ok_pair [] xs c r (trailing (suc n) (P d) (t ∷ c)) (at_last d (suc n) t c fits has h) (ap (trailing (suc n) (P d)) (sym is) ∙ e) in
          subst (λ (z : List Tok). Listed z xs r) (sym is) (subst (λ (z : List A). Listed (t ∷ c) z r) same.0 (subst (Listed (t ∷ c) []) same.1 (last_listed t c has h)))
      go rec (more t c is has h) =
          let fits : length (t ∷ c) ≤ suc n = subst (λ (z : List Tok). length z ≤ suc n) is le in
          let e' : (P d c >>= λ (x : A × List Tok). trailing n (P d) x.1 >>= λ (y : List A × List Tok). Ok (x.0 ∷ y.0, y.1)) ≡ Ok (xs, r) = sym (at_more d n t c has h) ∙ ap (trailing (suc n) (P d)) (sym is) ∙ e in
          let b1 = bind_ok (P d c) (λ (x : A × List Tok). trailing n (P d) x.1 >>= λ (y : List A × List Tok). Ok (x.0 ∷ y.0, y.1)) (xs, r) e' in
          let b2 = bind_ok (trailing n (P d) (b1.0).1) (λ (y : List A × List Tok). Ok ((b1.0).0 ∷ y.0, y.1)) (xs, r) b1.2 in
          let same = ok_pair ((b1.0).0 ∷ (b2.0).0) xs (b2.0).1 r (Ok ((b1.0).0 ∷ (b2.0).0, (b2.0).1)) refl b2.2 in
          let R = E.ok c (b1.0).0 (b1.0).1 b1.1 in
          let shorter = ap length R.whole ∙ length-append R.front (b1.0).1 in
          let I = rec (b1.0).1 (b2.0).0 r (omega arith) (b2.1 ∙ ap (λ (z : List Tok). Ok ((b2.0).0, z)) same.1) in
          subst (λ (z : List Tok). Listed z xs r) (sym is) (subst (λ (z : List A). Listed (t ∷ c) z r) same.0 (one t c (b1.0).0 (b2.0).0 (b1.0).1 r has h R I))

  -- ---- faults

  -- What stands before the fault, and what it shows, and that the fault stays at these depths whatever stands behind its token.
  record Stays (fault : List Tok → Fault) (AtDepth : ℕ → Type 0) (Shows : List Tok → List Tok → Type 0) (ts r : List Tok) : Type 0 where
    front : List Tok
    whole : ts ≡ front ++ r
    shows : Shows front r
    stable : (D N : ℕ) (s : List Tok) → AtDepth D → length (front ++ s) ≤ N → head r ≡ head s → trailing N (P D) (front ++ s) ≡ Err (fault s)

  ok_no_err : {X : Type 0} {x : X} {f : Fault} → Ok x ≡ Err f → ⊥
  ok_no_err h = cc

  -- Either fault: it stands in the first phrase, or further on.
  module _ (fault : List Tok → Fault) (AtDepth : ℕ → Type 0) (Shows : List Tok → List Tok → Type 0)
      (reaches : (D : ℕ) → AtDepth D → d ≤ D)
      (further : (x : A) (t : Tok) (p q r : List Tok) → the_fixed (Punctuator punct.Comma) t ≡ Some tt → L x p → Shows q r → Shows (t ∷ (p ++ q)) r)
      (first : (t : Tok) (c r : List Tok) → the_fixed (Punctuator punct.Comma) t ≡ Some tt → is_next (Punctuator punct.CloseBrace) (head c) ≡ false → P d c ≡ Err (fault r) → Stays fault AtDepth Shows (t ∷ c) r) where
    later : (t : Tok) (c : List Tok) (x : A) (r1 r : List Tok) → the_fixed (Punctuator punct.Comma) t ≡ Some tt → is_next (Punctuator punct.CloseBrace) (head c) ≡ false → Reads P L W C d c x r1 → Stays fault AtDepth Shows r1 r → Stays fault AtDepth Shows (t ∷ c) r
    later t c x r1 r has h R I = record {
      front = t ∷ (R.front ++ I.front);
      whole = ap (λ (z : List Tok). t ∷ z) (R.whole ∙ ap (λ (z : List Tok). R.front ++ z) I.whole ∙ sym (append_assoc R.front I.front r));
      shows = further x t R.front I.front r has R.spelled I.shows;
      stable = λ D N s at enough same.
          let parts = append_assoc R.front I.front s in
          let same_length = ap length parts in
          let part = length-append R.front (I.front ++ s) in
          let heads = ap head I.whole ∙ head_append I.front r s same in
          ap (λ (z : List Tok). trailing N (P D) (t ∷ z)) parts
          ∙ turn D N t (R.front ++ (I.front ++ s)) (omega arith) has (still c R.front r1 (I.front ++ s) R.whole heads h)
          ∙ rw (R.stable D (I.front ++ s) (reaches D at) heads, I.stable D (N - 1) s at (omega arith) same) refl;
    }

    trailing_fails : (n : ℕ) (ts r : List Tok) → length ts ≤ n → trailing n (P d) ts ≡ Err (fault r) → Stays fault AtDepth Shows ts r
    trailing_fails zero (t ∷ ts) r le e = absurd (omega arith)
    trailing_fails zero [] r le e = absurd (no_both (trailing zero (P d) []) ([], []) (fault r) (at_other d zero [] refl) e)
    trailing_fails (suc n) ts r le e = go (trailing_fails n) (look ts)
      where
        turned : ((ts r : List Tok) → length ts ≤ n → trailing n (P d) ts ≡ Err (fault r) → Stays fault AtDepth Shows ts r) → (t : Tok) (c : List Tok) → length (t ∷ c) ≤ suc n → the_fixed (Punctuator punct.Comma) t ≡ Some tt → is_next (Punctuator punct.CloseBrace) (head c) ≡ false
            → ◌≡◌ {A = Result (List A × List Tok) Fault} (P d c >>= λ (x : A × List Tok). trailing n (P d) x.1 >>= λ (y : List A × List Tok). Ok (x.0 ∷ y.0, y.1)) (Err (fault r)) → Stays fault AtDepth Shows (t ∷ c) r
        turned rec t c fits has h e =
            elim (bind_err (P d c) (λ (x : A × List Tok). trailing n (P d) x.1 >>= λ (y : List A × List Tok). Ok (x.0 ∷ y.0, y.1)) (fault r) e) [
              | inl p ↦ first t c r has h p
              | inr b ↦
                  elim (bind_err (trailing n (P d) (b.0).1) (λ (y : List A × List Tok). Ok ((b.0).0 ∷ y.0, y.1)) (fault r) b.2) [
                    | inl p ↦
                        let R = E.ok c (b.0).0 (b.0).1 b.1 in
                        let shorter = ap length R.whole ∙ length-append R.front (b.0).1 in
                        later t c (b.0).0 (b.0).1 r has h R (rec (b.0).1 r (omega arith) p)
                    | inr p ↦ absurd (ok_no_err p.2)
                  ]
            ]

        go : ((ts r : List Tok) → length ts ≤ n → trailing n (P d) ts ≡ Err (fault r) → Stays fault AtDepth Shows ts r) → Look ts → Stays fault AtDepth Shows ts r
        go rec (other h) = absurd (no_both (trailing (suc n) (P d) ts) ([], ts) (fault r) (at_other d (suc n) ts h) e)
        go rec (last t c is has h) =
            let fits : length (t ∷ c) ≤ suc n = subst (λ (z : List Tok). length z ≤ suc n) is le in
            absurd (no_both (trailing (suc n) (P d) (t ∷ c)) ([], c) (fault r) (at_last d (suc n) t c fits has h) (ap (trailing (suc n) (P d)) (sym is) ∙ e))
        go rec (more t c is has h) =
            let fits : length (t ∷ c) ≤ suc n = subst (λ (z : List Tok). length z ≤ suc n) is le in
            subst (λ (z : List Tok). Stays fault AtDepth Shows z r) (sym is) (turned rec t c fits has h (sym (at_more d n t c has h) ∙ ap (trailing (suc n) (P d)) (sym is) ∙ e))

  begin_one : (t : Tok) (p : List Tok) → the_fixed (Punctuator punct.Comma) t ≡ Some tt → Begins L p → Begins (Trailed L) (t ∷ p)
  begin_one t p e b = record {
    value = b.value ∷ [];
    more = b.more;
    spelled = record {
      front = t ∷ (p ++ b.more);
      back = [];
      first = record { front = t ∷ (p ++ b.more); back = []; first = behind b.value t (p ++ b.more) e b.spelled; second = refl; whole = sym (append-nil (t ∷ (p ++ b.more))) };
      second = inl refl;
      whole = sym (append-nil (t ∷ (p ++ b.more)));
    };
  }

  begin_some : (t : Tok) (p : List Tok) → the_fixed (Punctuator punct.Comma) t ≡ Some tt → (Nonempty p → Begins L p) → Begins (Trailed L) (t ∷ p)
  begin_some t [] e b = record { value = []; more = []; spelled = record { front = []; back = t ∷ []; first = refl; second = inr (one_comma t e); whole = refl } }
  begin_some t (u ∷ p) e b = begin_one t (u ∷ p) e (b tt)

  begin_after : (x : A) (t : Tok) (p q : List Tok) → the_fixed (Punctuator punct.Comma) t ≡ Some tt → L x p → Begins (Trailed L) q → Begins (Trailed L) (t ∷ (p ++ q))
  begin_after x t p q e l b = record {
    value = x ∷ b.value;
    more = b.more;
    spelled = subst (Trailed L (x ∷ b.value)) (ap (λ (z : List Tok). t ∷ z) (sym (append_assoc p q b.more))) (after_one b.value x t p (q ++ b.more) e l b.spelled);
  }

  abbrev Broken : List Tok → List Tok → Type 0
  Broken = Stays wrong (λ D. d ≤ D) (λ front r. Begins (Trailed L) front)

  first_wrong : (t : Tok) (c r : List Tok) → the_fixed (Punctuator punct.Comma) t ≡ Some tt → is_next (Punctuator punct.CloseBrace) (head c) ≡ false → P d c ≡ Err (wrong r) → Broken (t ∷ c) r
  first_wrong t c r has h p =
      let R = E.wrong c r p in
      record {
        front = t ∷ R.front;
        whole = ap (λ (z : List Tok). t ∷ z) R.whole;
        shows = begin_some t R.front has R.begins;
        stable = λ D N s le enough heads. turn D N t (R.front ++ s) enough has (still c R.front r s R.whole heads h) ∙ rw (R.stable D s le heads) refl;
      }

  trailing_wrong : (n : ℕ) (ts r : List Tok) → length ts ≤ n → trailing n (P d) ts ≡ Err (wrong r) → Broken ts r
  trailing_wrong = trailing_fails wrong (λ D. d ≤ D) (λ front r. Begins (Trailed L) front) (λ D le. le) (λ x t p q r. begin_after x t p q) first_wrong

  abbrev Drowned : List Tok → List Tok → Type 0
  Drowned = Stays deep (λ D. D ≡ d) (λ front r. (at : Tok) × (after : List Tok) × (r ≡ at ∷ after) × Begins (Trailed L) (front ++ at ∷ []))

  first_deep : (t : Tok) (c r : List Tok) → the_fixed (Punctuator punct.Comma) t ≡ Some tt → is_next (Punctuator punct.CloseBrace) (head c) ≡ false → P d c ≡ Err (deep r) → Drowned (t ∷ c) r
  first_deep t c r has h p =
      let R = E.deep c r p in
      record {
        front = t ∷ R.front;
        whole = ap (λ (z : List Tok). t ∷ z) R.whole;
        shows = (R.at, R.after, R.here, begin_one t (R.front ++ R.at ∷ []) has R.begins);
        stable = λ D N s is enough heads. rw is (turn d N t (R.front ++ s) enough has (still c R.front r s R.whole heads h) ∙ rw (R.stable s heads) refl);
      }

  trailing_deep : (n : ℕ) (ts r : List Tok) → length ts ≤ n → trailing n (P d) ts ≡ Err (deep r) → Drowned ts r
  trailing_deep = trailing_fails deep (λ D. D ≡ d) (λ front r. (at : Tok) × (after : List Tok) × (r ≡ at ∷ after) × Begins (Trailed L) (front ++ at ∷ [])) (λ D is. omega arith) deeper first_deep
    where
      deeper : (x : A) (t : Tok) (p q r : List Tok) → the_fixed (Punctuator punct.Comma) t ≡ Some tt → L x p → (at : Tok) × (after : List Tok) × (r ≡ at ∷ after) × Begins (Trailed L) (q ++ at ∷ [])
          → (at : Tok) × (after : List Tok) × (r ≡ at ∷ after) × Begins (Trailed L) ((t ∷ (p ++ q)) ++ at ∷ [])
      deeper x t p q r has l b = (b.0, b.1, b.2, subst (λ (z : List Tok). Begins (Trailed L) (t ∷ z)) (sym (append_assoc p q (b.0 ∷ []))) (begin_after x t p (q ++ b.0 ∷ []) has l b.3))

  pub trailing_is : Exact (λ D ts. trailing (length ts) (P D) ts) (Trailed L) (ManyFit W) (λ xs h. is_next (Punctuator punct.CloseBrace) h ≡ true) (λ xs h. is_next (Punctuator punct.Comma) h ≡ false) d
  trailing_is = record {
    again = λ xs p q l w h.
        let whole : p ++ q ≡ l.front ++ (l.back ++ q) = ap (λ (z : List Tok). z ++ q) l.whole ∙ append_assoc l.front l.back q in
        let same = ap length whole in
        ap (trailing (length (p ++ q)) (P d)) whole ∙ trailing_again xs (length (p ++ q)) l.front l.back q (omega arith) l.first l.second w h;
    ok = λ ts xs r e. let I = trailing_ok (length ts) ts xs r (omega arith) e in record { front = I.front; whole = I.whole; spelled = I.spelled; within = I.within; closed = I.closed; stable = λ D s le same. I.stable D (length (I.front ++ s)) s le (omega arith) same };
    wrong = λ ts r e. let I = trailing_wrong (length ts) ts r (omega arith) e in record { front = I.front; whole = I.whole; begins = λ n. I.shows; stable = λ D s le same. I.stable D (length (I.front ++ s)) s le (omega arith) same };
    deep = λ ts r e. let I = trailing_deep (length ts) ts r (omega arith) e in record { front = I.front; whole = I.whole; at = I.shows.0; after = I.shows.1; here = I.shows.2; begins = I.shows.3; stable = λ s same. I.stable d (length (I.front ++ s)) s refl (omega arith) same };
  }

pub trailing_exact : {A : Type 0} {P : ℕ → Parser A} {L : A → List Tok → Type 0} {W : ℕ → A → Type 0} {S C : A → Option Tok → Type 0} {d : ℕ}
    → Exact P L W S C d
    → ((x : A) (p q : List Tok) → L x p → is_next (Punctuator punct.CloseBrace) (head (p ++ q)) ≡ false)
    → ((x : A) (t : Tok) → t.terminal ≡ fixed (Punctuator punct.Comma) → S x (Some t))
    → ((x : A) (t : Tok) → t.terminal ≡ fixed (Punctuator punct.CloseBrace) → S x (Some t))
    → Exact (λ D ts. trailing (length ts) (P D) ts) (Trailed L) (ManyFit W) (λ xs h. is_next (Punctuator punct.CloseBrace) h ≡ true) (λ xs h. is_next (Punctuator punct.Comma) h ≡ false) d
trailing_exact {P = P} {L = L} {W = W} {S = S} {C = C} {d = d} E inside comma brace = trailing_is P L W S C d E inside comma brace
