-- One or more phrases with commas between, and further ones behind commas, are read exactly where one phrase is.
use Rattle.std.proofs.Common.{◌≡◌, ℕ, true, not, List, [], ◌∷◌, ◌++◌, Option, Some, refl, sym, ap, subst, ◌∙◌, append_assoc}
use Rattle.lex.specs.declared.token.Fixed.TheVariants.{Punctuator}
use Rattle.lex.specs.declared.token.Punctuator.TheVariants as punct
use Rattle.lex.specs.Tokens.{fixed, Tok}
use Rattle.syntax.specs.Phrases.{Phrase, Seq, Is, Begins, Many, Listed}
use Rattle.parse.specs.inner.Reading.{Parser, head, many_until, behind, is_other, in_front, comma_list}
use Rattle.parse.proofs.combinators.Exact.{Nonempty, Exact, Comes, Two, two, value_of}
use Rattle.parse.proofs.combinators.Many.{ManyFit, many_exact}
use Rattle.parse.proofs.combinators.FixedTokens.{fixed_is, seq_head}
use Rattle.parse.proofs.combinators.Parts.{behind_exact, seq_here}

-- a phrase behind a comma
abbrev pub Behind : {A : Type 0} → (A → Phrase) → A → Phrase
Behind L x = Seq (Is (Punctuator punct.Comma)) (L x)

-- T: what else may be said of the token behind the last
module _ {A : Type 0} (P : ℕ → Parser A) (L : A → Phrase) (W : ℕ → A → Type 0) (S C : A → Option Tok → Type 0) (d : ℕ) (T : Option Tok → Type 0)
    (E : Exact P L W S C d) (begins : Begins L [])
    (follows : (x : A) (h : Option Tok) → is_other (Punctuator punct.Comma) h ≡ true → T h → S x h)
    (comma : (x : A) (t : Tok) → t.terminal ≡ fixed (Punctuator punct.Comma) → S x (Some t)) where
  abbrev LastS : List A → Option Tok → Type 0
  LastS xs h = (is_other (Punctuator punct.Comma) h ≡ true) × T h

  abbrev LastC : List A → Option Tok → Type 0
  LastC xs h = is_other (Punctuator punct.Comma) h ≡ true

  solid : (x : A) (p : List Tok) → Behind L x p → Nonempty p
  solid x p l = subst Nonempty (sym (l.whole ∙ ap (λ (z : List Tok). z ++ l.back) l.first.whole)) tt

  next : (x y : A) (p q : List Tok) → Behind L y p → S x (head (p ++ q))
  next x y p q l = subst (S x) (sym (seq_head l q)) (comma x l.first.token (fixed_is (Punctuator punct.Comma) l.first.token tt l.first.has))

  pub further_is : Exact (λ D. many_until (is_other (Punctuator punct.Comma)) (behind (Punctuator punct.Comma) (P D))) (Many (Behind L)) (ManyFit W) LastS LastC d
  further_is = many_exact (λ D. behind (Punctuator punct.Comma) (P D)) (Behind L) W S C d (behind_exact (Punctuator punct.Comma) E begins) (is_other (Punctuator punct.Comma)) T solid (λ x p q l. ap not (seq_here (Punctuator punct.Comma) (L x) p q l)) follows next

  follow : (x : A) (ys : List A) (p q : List Tok) → Many (Behind L) ys p → LastS ys (head q) → S x (head (p ++ q))
  follow x [] p q l h = subst (λ (z : List Tok). S x (head (z ++ q))) (sym l) (follows x (head q) h.0 h.1)
  follow x (y ∷ ys) p q l h = subst (λ (z : List Tok). S x (head z)) (sym (ap (λ (z : List Tok). z ++ q) l.whole ∙ append_assoc l.front l.back q)) (next x y l.front (l.back ++ q) l.first)

  comes : (xs : List A) (p : List Tok) → Listed L xs p → Comes in_front (Two L (Many (Behind L))) (λ x. W d x.0 × ManyFit W d x.1) (ManyFit W d) (λ x h. LastS x.1 h) LastS xs p
  comes [] p l = absurd l
  comes (x ∷ xs) p l = record { value = (x, xs); same = refl; spelled = l; within = λ w. w; stops = λ h s. s }

  pub listed_is : Exact (λ D. comma_list (P D)) (Listed L) (ManyFit W) LastS LastC d
  listed_is = value_of in_front (Listed L) (ManyFit W) LastS LastC
      (two E further_is follow (record { value = []; more = []; spelled = refl }))
      comes (λ x p l. l) (λ x w. w) (λ x h c. c)

pub further_exact : {A : Type 0} {P : ℕ → Parser A} {L : A → List Tok → Type 0} {W : ℕ → A → Type 0} {S C : A → Option Tok → Type 0} {d : ℕ} (T : Option Tok → Type 0)
    → Exact P L W S C d → Begins L []
    → ((x : A) (h : Option Tok) → is_other (Punctuator punct.Comma) h ≡ true → T h → S x h)
    → ((x : A) (t : Tok) → t.terminal ≡ fixed (Punctuator punct.Comma) → S x (Some t))
    → Exact (λ D. many_until (is_other (Punctuator punct.Comma)) (behind (Punctuator punct.Comma) (P D))) (Many (Behind L)) (ManyFit W) (λ xs h. (is_other (Punctuator punct.Comma) h ≡ true) × T h) (λ xs h. is_other (Punctuator punct.Comma) h ≡ true) d
further_exact {P = P} {L = L} {W = W} {S = S} {C = C} {d = d} T E begins follows comma = further_is P L W S C d T E begins follows comma

pub listed_exact : {A : Type 0} {P : ℕ → Parser A} {L : A → List Tok → Type 0} {W : ℕ → A → Type 0} {S C : A → Option Tok → Type 0} {d : ℕ} (T : Option Tok → Type 0)
    → Exact P L W S C d → Begins L []
    → ((x : A) (h : Option Tok) → is_other (Punctuator punct.Comma) h ≡ true → T h → S x h)
    → ((x : A) (t : Tok) → t.terminal ≡ fixed (Punctuator punct.Comma) → S x (Some t))
    → Exact (λ D. comma_list (P D)) (Listed L) (ManyFit W) (λ xs h. (is_other (Punctuator punct.Comma) h ≡ true) × T h) (λ xs h. is_other (Punctuator punct.Comma) h ≡ true) d
listed_exact {P = P} {L = L} {W = W} {S = S} {C = C} {d = d} T E begins follows comma = listed_is P L W S C d T E begins follows comma

-- something is spelled
pub listed_begins : {A : Type 0} {L : A → List Tok → Type 0} → Begins L [] → Begins (Listed L) []
listed_begins b = record { value = b.value ∷ []; more = b.more ++ []; spelled = record { front = b.more; back = []; first = b.spelled; second = refl; whole = refl } }
