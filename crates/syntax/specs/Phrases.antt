-- Phrases: lists of tokens with a meaning, and the combinators that a grammar consists of.
use Rattle.std.specs.Prelude.{◌≡◌, ◌⊎◌, ℕ, ◌<◌, List, [], ◌∷◌, ◌++◌, Option, Some, None, Bool, false, if◌then◌else◌}
use denote.Enum.Bare.{sameb}
use Rattle.lex.specs.{declared.token.Fixed.Fixed, declared.token.Span.Span, Tokens.Terminal, Tokens.Tok}
use Rattle.lex.specs.declared.token.Keyword as keyword_type
use Rattle.lex.specs.declared.token.Punctuator as punctuator_type
use Rattle.lex.specs.declared.token.Fixed.TheVariants.{Keyword, Punctuator}
use Rattle.lex.specs.contracts.token.Keyword as keyword
use Rattle.lex.specs.contracts.token.Punctuator as punctuator
use Rattle.lex.specs.declared.token.Punctuator.TheVariants as punct

abbrev pub Phrase : Type 1
Phrase = List Tok → Type 0

-- a phrase of the first kind, followed by one of the second
pub record Seq (L M : Phrase) (ts : List Tok) : Type 0 where
  pub front : List Tok
  pub back : List Tok
  pub first : L front
  pub second : M back
  pub whole : ts ≡ front ++ back

-- one token, with the value x
pub record One {A : Type 0} (f : Tok → Option A) (x : A) (ts : List Tok) : Type 0 where
  pub token : Tok
  pub has : f token ≡ Some x
  pub whole : ts ≡ token ∷ []

-- no token
abbrev pub Nil : Phrase
Nil ts = ts ≡ []

abbrev pub never : Phrase
never ts = ⊥

infixr 40 ◌⨾◌
infixr 30 ◌∣◌
-- one phrase followed by the other
abbrev pub ◌⨾◌ : Phrase → Phrase → Phrase
◌⨾◌ L M = Seq L M

-- one phrase or the other
abbrev pub ◌∣◌ : Phrase → Phrase → Phrase
◌∣◌ L M ts = L ts ⊎ M ts

-- a phrase under a condition
abbrev pub phrase_if : Type 0 → Phrase → Phrase
phrase_if c L ts = c × L ts

-- any number of phrases, one after another
abbrev pub Many : {A : Type 0} → (A → Phrase) → List A → Phrase
Many L [] = Nil
Many L (x ∷ xs) = L x ⨾ Many L xs

-- ---- single tokens

abbrev pub same_fixed : Fixed → Fixed → Bool
same_fixed (Keyword a) (Keyword b) = sameb keyword.the_type a b
same_fixed (Punctuator a) (Punctuator b) = sameb punctuator.the_type a b
same_fixed _ _ = false

abbrev pub is_fixed : Fixed → Terminal → Bool
is_fixed m (Terminal.fixed k) = same_fixed k m
is_fixed m _ = false

-- the keyword or punctuator m
abbrev pub the_fixed : Fixed → Tok → Option (Unit {0})
the_fixed m t = if is_fixed m t.terminal then Some tt else None

abbrev pub Is : Fixed → Phrase
Is m = One (the_fixed m) tt

abbrev pub Sign : punctuator_type.Punctuator → Phrase
Sign p = Is (Punctuator p)

abbrev pub Word : keyword_type.Keyword → Phrase
Word k = Is (Keyword k)

-- the keyword m, by its span
abbrev pub fixed_span : Fixed → Tok → Option Span
fixed_span m t = if is_fixed m t.terminal then Some t.span else None

abbrev pub IsAt : Fixed → Span → Phrase
IsAt m = One (fixed_span m)

-- one or more phrases, with commas between
abbrev pub Listed : {A : Type 0} → (A → Phrase) → List A → Phrase
Listed L [] = never
Listed L (x ∷ xs) = L x ⨾ Many (λ y. Is (Punctuator punct.Comma) ⨾ L y) xs

-- ---- spans

abbrev pub end_from : ℕ → List Tok → ℕ
end_from e [] = e
end_from e (t ∷ ts) = end_from t.span.end ts

-- where the last token ends, or 0 if there is none
abbrev pub end_of : List Tok → ℕ
end_of ts = end_from 0 ts

-- a span from the first token's start to the last one's end
abbrev pub Covers : Span → Phrase
Covers at [] = ⊥
Covers at (t ∷ ts) = at ≡ record { start = t.span.start; end = end_from t.span.end ts }

-- a phrase with the span of its tokens
abbrev pub spanning : Span → Phrase → Phrase
spanning at L ts = Covers at ts × L ts

-- ---- what is wrong with tokens that spell nothing

-- the span of one of the tokens
pub record At (ts : List Tok) (at : Span) : Type 0 where
  pub before : List Tok
  pub token : Tok
  pub after : List Tok
  pub whole : ts ≡ before ++ token ∷ after
  pub there : token.span ≡ at

module _ {A : Type 0} (L : A → Phrase) where
  -- some phrase begins with these tokens
  pub record Begins (front : List Tok) : Type 0 where
    pub value : A
    pub more : List Tok
    pub spelled : L value (front ++ more)

  -- the first token at which no phrase can continue
  pub record IsUnexpected (ts : List Tok) (at : Span) : Type 0 where
    pub here : At ts at
    pub begins : Begins here.before
    pub not : Begins (here.before ++ here.token ∷ []) → ⊥

  -- the tokens begin a phrase and are none; the span is empty, at the end of the last one
  pub record IsUnfinished (ts : List Tok) (at : Span) : Type 0 where
    pub begins : Begins ts
    pub not : (x : A) → L x ts → ⊥
    pub empty : at ≡ record { start = end_of ts; end = end_of ts }

  -- some phrase begins with the tokens up to this one, and each that does is deeper than the limit
  pub record IsTooDeep (depth : A → ℕ) (limit : ℕ) (ts : List Tok) (at : Span) : Type 0 where
    pub here : At ts at
    pub begins : Begins (here.before ++ here.token ∷ [])
    pub deep : (b : Begins (here.before ++ here.token ∷ [])) → limit < depth b.value
