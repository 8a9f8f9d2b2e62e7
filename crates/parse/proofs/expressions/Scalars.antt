-- Names and types are read exactly.
use Rattle.std.proofs.Common.{◌≡◌, ℕ, Bool, true, false, List, [], ◌∷◌, ◌++◌, Option, Some, None, refl, sym, ap, subst, ◌∙◌, ◌⊎◌, inl, inr, is_some}
use Rattle.std.proofs.lemmas.List.{append-nil}
use Rattle.lex.specs.declared.token.Fixed.{Fixed}
use Rattle.lex.specs.declared.token.Fixed.TheVariants.{Keyword}
use Rattle.lex.specs.declared.token.Keyword.TheVariants as key
use Rattle.lex.specs.declared.token.Scalar.{Scalar}
use Rattle.lex.specs.declared.token.Scalar.TheVariants.{Int, Unsigned, LongLong}
use Rattle.lex.specs.declared.token.Span.{Span}
use Rattle.lex.specs.Tokens.{Terminal, name, fixed, Tok}
use Rattle.syntax.specs.Tree.{Name}
use Rattle.syntax.specs.Phrases.{Phrase, Seq, One, Is, Word, Nil, ◌⨾◌, ◌∣◌, Begins, is_fixed, the_fixed}
use Rattle.syntax.specs.Grammar.{by_fixed, name_in, the_name, optional}
use Rattle.syntax.specs.Grammar as Grammar
use Rattle.parse.specs.declared.scalar.TypeWord.{TypeWord}
use Rattle.parse.specs.declared.scalar.TypeWord.TheVariants as word
use Rattle.parse.specs.inner.Reading.{head, is_next}
use Rattle.parse.specs.inner.Expressions.{type_of_fixed, the_type_word, starts_type, longer, long_long, type_from, scalar}
use Rattle.parse.proofs.combinators.Exact.{Exact, Always, Shallow, Comes, Dep, Empty, take_exact, give_exact, chained_one, value_of}
use Rattle.parse.proofs.combinators.FixedTokens.{that_fixed, fixed_is, fixed_has, a_fixed, one_head, seq_head}
use Rattle.parse.proofs.combinators.Parts.{MaybeW, MaybeS, seq_map, un_seq_left, is_here, is_not_here, seq_here, head_begins, behind_exact, perhaps_exact}
use Rattle.parse.proofs.combinators.Choices.{either_exact}

-- ---- names

abbrev pub some_name : Name
some_name = record { text = []; span = record { start = 0; «end» = 0 } }

abbrev pub some_name_token : Tok
some_name_token = record { terminal = name []; span = record { start = 0; «end» = 0 } }

abbrev pub name_begins : Begins (One the_name) []
name_begins = record { value = some_name; more = some_name_token ∷ []; spelled = record { token = some_name_token; has = refl; whole = refl } }

name_in_no : (k : Fixed) (l : Terminal) (at : Span) (x : Name) → name_in l at ≡ Some x → is_fixed k l ≡ false
name_in_no k (fixed j) at x h = absurd cc
name_in_no k l at x h = refl

-- a name is no fixed token
pub name_not_fixed : (k : Fixed) (x : Name) (p q : List Tok) → One the_name x p → is_next k (head (p ++ q)) ≡ false
name_not_fixed k x p q o = ap (is_next k) (one_head o q) ∙ name_in_no k o.token.terminal o.token.span x o.has

-- a fixed token is no other fixed token
pub fixed_differs : (k j : Fixed) (t : Tok) → is_fixed j (fixed k) ≡ false → t.terminal ≡ fixed k → is_next j (Some t) ≡ false
fixed_differs k j t apart e = ap (is_fixed j) e ∙ apart

-- ---- types

-- no word of a type is next
abbrev pub TypeEnds : {A : Type 0} → A → Option Tok → Type 0
TypeEnds x h = (is_next (Keyword key.Int) h ≡ false) × (is_next (Keyword key.Long) h ≡ false)

-- a name is no word of a type
pub name_ends : (x : Name) (p q : List Tok) → One the_name x p → (is_next (Keyword key.Int) (head (p ++ q)) ≡ false) × (is_next (Keyword key.Long) (head (p ++ q)) ≡ false)
name_ends x p q o = (name_not_fixed (Keyword key.Int) x p q o, name_not_fixed (Keyword key.Long) x p q o)

-- nor is another fixed token
pub fixed_ends : {A : Type 0} (k : Fixed) (x : A) (t : Tok) → is_fixed (Keyword key.Int) (fixed k) ≡ false → is_fixed (Keyword key.Long) (fixed k) ≡ false → t.terminal ≡ fixed k → TypeEnds x (Some t)
fixed_ends k x t int long e = (fixed_differs k (Keyword key.Int) t int e, fixed_differs k (Keyword key.Long) t long e)

-- `int` may stand behind a type
abbrev LongerL : Scalar → Scalar → Phrase
LongerL ty t p = (t ≡ ty) × (Nil ∣ Word key.Int) p

abbrev LongLongL : Scalar → Phrase
LongLongL t = Seq (Word key.Long) (LongerL LongLong t)

abbrev SignedL : Scalar → Phrase
SignedL t p = Seq (Word key.Long) (LongLongL t) p ⊎ LongerL Int t p

-- what stands behind a type's first word
abbrev RestL : TypeWord → Scalar → Phrase
RestL word.Int = Empty Int
RestL word.Signed = SignedL
RestL word.Unsigned = LongerL Unsigned
RestL word.Long = LongLongL

abbrev WordsL : TypeWord × Scalar → Phrase
WordsL = Dep (One the_type_word) RestL

longer_begins : (ty : Scalar) → Begins (LongerL ty) []
longer_begins ty = record { value = ty; more = []; spelled = (refl, inl refl) }

long_long_begins : Begins LongLongL []
long_long_begins = head_begins (Keyword key.Long) (LongerL LongLong) (longer_begins LongLong)

rest_begins : (w : TypeWord) → Begins (RestL w) []
rest_begins word.Int = record { value = Int; more = []; spelled = (refl, refl) }
rest_begins word.Signed = record { value = Int; more = []; spelled = inr (refl, inl refl) }
rest_begins word.Unsigned = longer_begins Unsigned
rest_begins word.Long = long_long_begins

longer_exact : (ty : Scalar) (d : ℕ) → Exact (λ D. longer ty) (LongerL ty) (λ D. Shallow D) TypeEnds Always d
longer_exact ty d =
    value_of (λ x. ty) (LongerL ty) (λ D. Shallow D) TypeEnds Always
    (perhaps_exact (Keyword key.Int) (take_exact (the_fixed (Keyword key.Int)) d) (λ x p q o. is_here (Keyword key.Int) p q o))
    comes goes (λ x w. tt) (λ x h c. tt)
  where
    comes : (t : Scalar) (p : List Tok) → LongerL ty t p → Comes (λ (x : Option (Unit {0})). ty) (optional (One (the_fixed (Keyword key.Int)))) (MaybeW (λ D. Shallow D) d) (λ x. Unit {0}) (MaybeS (Keyword key.Int) Always) TypeEnds t p
    comes t p (same, inl nil) = record { value = None; same = same; spelled = nil; within = λ w. tt; stops = λ h s. s.0 }
    comes t p (same, inr o) = record { value = Some tt; same = same; spelled = o; within = λ w. tt; stops = λ h s. tt }

    goes : (x : Option (Unit {0})) (p : List Tok) → optional (One (the_fixed (Keyword key.Int))) x p → LongerL ty ty p
    goes None p l = (refl, inl l)
    goes (Some x) p l = (refl, inr l)

long_long_exact : (d : ℕ) → Exact (λ D. long_long) LongLongL (λ D. Shallow D) TypeEnds Always d
long_long_exact d = behind_exact (Keyword key.Long) (longer_exact LongLong d) (longer_begins LongLong)

signed_exact : (d : ℕ) → Exact (λ D. type_from word.Signed) SignedL (λ D. Shallow D) TypeEnds Always d
signed_exact d =
    either_exact (is_next (Keyword key.Long)) Always
    (behind_exact (Keyword key.Long) (long_long_exact d) long_long_begins) (longer_exact Int d)
    (λ x p q l h. seq_here (Keyword key.Long) (LongLongL x) p q l) not_long
    (λ x p r l e b. tt) (λ x p r l e b. tt)
  where
    not_long : (t : Scalar) (p q : List Tok) → LongerL Int t p → TypeEnds t (head q) → is_next (Keyword key.Long) (head (p ++ q)) ≡ false
    not_long t p q (same, inl nil) h = ap (λ (z : List Tok). is_next (Keyword key.Long) (head (z ++ q))) nil ∙ h.1
    not_long t p q (same, inr o) h = is_not_here (Keyword key.Int) (Keyword key.Long) p q refl o

rest_exact : (d : ℕ) (w : TypeWord) → Exact (λ D. type_from w) (RestL w) (λ D. Shallow D) TypeEnds Always d
rest_exact d word.Int = give_exact Int (λ D. Shallow D) TypeEnds Always d tt (λ h. tt)
rest_exact d word.Signed = signed_exact d
rest_exact d word.Unsigned = longer_exact Unsigned d
rest_exact d word.Long = long_long_exact d

-- one word
alone : (k : Fixed) (t : Tok) → t.terminal ≡ fixed k → Is k (t ∷ [])
alone k t is = record { token = t; has = fixed_has k t is; whole = refl }

-- one word, and perhaps `int` behind it
with_int : (k : Fixed) (t : Tok) (q : List Tok) → t.terminal ≡ fixed k → (Nil ∣ Word key.Int) q → (Is k ∣ Is k ⨾ Word key.Int) (t ∷ q)
with_int k t q is (inl nil) = inl (record { token = t; has = fixed_has k t is; whole = ap (λ (z : List Tok). t ∷ z) nil })
with_int k t q is (inr o) = inr (record { front = t ∷ []; back = q; first = alone k t is; second = o; whole = refl })

word_goes : (k : Fixed) (t : Tok) (w : TypeWord) (ty : Scalar) (q : List Tok) → t.terminal ≡ fixed k → type_of_fixed k ≡ Some w → RestL w ty q → Grammar.scalar ty (t ∷ q)
word_goes (Keyword key.Int) t w ty q is e l =
    let same : word.Int ≡ w = cc in
    subst (λ (w : TypeWord). RestL w ty q → Grammar.scalar ty (t ∷ q)) same go l
  where
    go : RestL word.Int ty q → Grammar.scalar ty (t ∷ q)
    go l = subst (λ (z : Scalar). Grammar.scalar z (t ∷ q)) (sym l.0) (inl (record { token = t; has = fixed_has (Keyword key.Int) t is; whole = ap (λ (z : List Tok). t ∷ z) l.1 }))
word_goes (Keyword key.Signed) t w ty q is e l =
    let same : word.Signed ≡ w = cc in
    subst (λ (w : TypeWord). RestL w ty q → Grammar.scalar ty (t ∷ q)) same go l
  where
    go : RestL word.Signed ty q → Grammar.scalar ty (t ∷ q)
    go (inl s) =
        subst (λ (z : Scalar). Grammar.scalar z (t ∷ q)) (sym s.second.second.0)
        (record { front = t ∷ []; back = q; first = inr (alone (Keyword key.Signed) t is); second = seq_map s (λ r o. o) (λ r n. seq_map n (λ u o. o) (λ u m. m.1)); whole = refl })
    go (inr l) = subst (λ (z : Scalar). Grammar.scalar z (t ∷ q)) (sym l.0) (inr (with_int (Keyword key.Signed) t q is l.1))
word_goes (Keyword key.Unsigned) t w ty q is e l =
    let same : word.Unsigned ≡ w = cc in
    subst (λ (w : TypeWord). RestL w ty q → Grammar.scalar ty (t ∷ q)) same go l
  where
    go : RestL word.Unsigned ty q → Grammar.scalar ty (t ∷ q)
    go l = subst (λ (z : Scalar). Grammar.scalar z (t ∷ q)) (sym l.0) (with_int (Keyword key.Unsigned) t q is l.1)
word_goes (Keyword key.Long) t w ty q is e l =
    let same : word.Long ≡ w = cc in
    subst (λ (w : TypeWord). RestL w ty q → Grammar.scalar ty (t ∷ q)) same go l
  where
    go : RestL word.Long ty q → Grammar.scalar ty (t ∷ q)
    go s =
        subst (λ (z : Scalar). Grammar.scalar z (t ∷ q)) (sym s.second.0)
        (record {
          front = [];
          back = t ∷ q;
          first = inl refl;
          second = record { front = t ∷ []; back = q; first = alone (Keyword key.Long) t is; second = seq_map s (λ r o. o) (λ r m. m.1); whole = refl };
          whole = refl;
        })
word_goes _ t w ty q is e l = absurd cc

terminal_goes : (k : Terminal) (t : Tok) (w : TypeWord) (ty : Scalar) (q : List Tok) → t.terminal ≡ k → by_fixed type_of_fixed k ≡ Some w → RestL w ty q → Grammar.scalar ty (t ∷ q)
terminal_goes (fixed k) t w ty q is e l = word_goes k t w ty q is e l
terminal_goes k t w ty q is e l = absurd cc

words_go : (x : TypeWord × Scalar) (p : List Tok) → WordsL x p → Grammar.scalar x.1 p
words_go x p s =
    let whole : p ≡ s.first.token ∷ s.back = s.whole ∙ ap (λ (z : List Tok). z ++ s.back) s.first.whole in
    subst (Grammar.scalar x.1) (sym whole) (terminal_goes s.first.token.terminal s.first.token x.0 x.1 s.back refl s.first.has s.second)

abbrev WordsComes : ℕ → Scalar → List Tok → Type 0
WordsComes d t p = Comes (λ (x : TypeWord × Scalar). x.1) WordsL (λ x. Unit {0} × Unit {0}) (λ x. Unit {0}) (λ x h. TypeEnds x.1 h) TypeEnds t p

-- the first word of a type
first_word : (k : Fixed) (w : TypeWord) (p : List Tok) → type_of_fixed k ≡ Some w → Is k p → One the_type_word w p
first_word k w p e o = record { token = o.token; has = ap (by_fixed type_of_fixed) (fixed_is k o.token tt o.has) ∙ e; whole = o.whole }

-- a type by its first word and what stands behind that
by_word : (d : ℕ) (k : Fixed) (w : TypeWord) (t : Scalar) (p : List Tok) → type_of_fixed k ≡ Some w → Seq (Is k) (RestL w t) p → WordsComes d t p
by_word d k w t p e s = record {
  value = (w, t);
  same = refl;
  spelled = record { front = s.front; back = s.back; first = first_word k w s.front e s.first; second = s.second; whole = s.whole };
  within = λ v. (tt, tt);
  stops = λ h c. c;
}

-- one word alone is a type
no_more : (k : Fixed) (M : Phrase) (p : List Tok) → M [] → Is k p → Seq (Is k) M p
no_more k M p m o = record { front = p; back = []; first = o; second = m; whole = sym (append-nil p) }

words_come : (d : ℕ) (t : Scalar) (p : List Tok) → Grammar.scalar t p → WordsComes d t p
words_come d Int p (inl o) = by_word d (Keyword key.Int) word.Int Int p refl (no_more (Keyword key.Int) (RestL word.Int Int) p (refl, refl) o)
words_come d Int p (inr (inl o)) = by_word d (Keyword key.Signed) word.Signed Int p refl (no_more (Keyword key.Signed) (RestL word.Signed Int) p (inr (refl, inl refl)) o)
words_come d Int p (inr (inr s)) = by_word d (Keyword key.Signed) word.Signed Int p refl (seq_map s (λ q o. o) (λ q o. inr (refl, inr o)))
words_come d Unsigned p (inl o) = by_word d (Keyword key.Unsigned) word.Unsigned Unsigned p refl (no_more (Keyword key.Unsigned) (RestL word.Unsigned Unsigned) p (refl, inl refl) o)
words_come d Unsigned p (inr s) = by_word d (Keyword key.Unsigned) word.Unsigned Unsigned p refl (seq_map s (λ q o. o) (λ q o. (refl, inr o)))
words_come d LongLong p s = go s.first
  where
    longs : (q : List Tok) → (Word key.Long ⨾ (Nil ∣ Word key.Int)) q → LongLongL LongLong q
    longs q n = seq_map n (λ r o. o) (λ r m. (refl, m))

    go : (Nil ∣ Word key.Signed) s.front → WordsComes d LongLong p
    go (inl nil) =
        by_word d (Keyword key.Long) word.Long LongLong p refl
        (seq_map (un_seq_left {L = Word key.Long ⨾ Word key.Long ⨾ (Nil ∣ Word key.Int)} (record { front = s.front; back = s.back; first = nil; second = s.second; whole = s.whole })) (λ q o. o) (λ q n. seq_map n (λ r o. o) (λ r m. (refl, m))))
    go (inr o) =
        by_word d (Keyword key.Signed) word.Signed LongLong p refl
        (record { front = s.front; back = s.back; first = o; second = inl (seq_map s.second (λ q w. w) longs); whole = s.whole })

-- A type is read exactly where no word of a type follows it.
pub scalar_exact : (d : ℕ) → Exact (λ D. scalar) Grammar.scalar (λ D. Shallow D) TypeEnds Always d
scalar_exact d =
    value_of (λ x. x.1) Grammar.scalar (λ D. Shallow D) TypeEnds Always
    (chained_one (take_exact the_type_word d) (rest_exact d) (λ a b p q l h. tt) rest_begins)
    (words_come d) words_go (λ x w. tt) (λ x h c. tt)

abbrev pub scalar_begins : Begins Grammar.scalar []
scalar_begins = record { value = Int; more = a_fixed (Keyword key.Int) ∷ []; spelled = inl (record { token = a_fixed (Keyword key.Int); has = fixed_has (Keyword key.Int) (a_fixed (Keyword key.Int)) refl; whole = refl }) }

pub scalar_first : (t : Scalar) (p q : List Tok) → Grammar.scalar t p → starts_type (head (p ++ q)) ≡ true
scalar_first t p q l =
    let c = words_come 0 t p l in
    ap starts_type (seq_head c.spelled q) ∙ ap is_some c.spelled.first.has

-- a type begins with each of its first words
pub type_begins : (t : Tok) → starts_type (Some t) ≡ true → Begins Grammar.scalar (t ∷ [])
type_begins t e = go (the_type_word t) refl
  where
    go : (o : Option TypeWord) → the_type_word t ≡ o → Begins Grammar.scalar (t ∷ [])
    go (Some w) is = let b = rest_begins w in record { value = b.value; more = b.more; spelled = terminal_goes t.terminal t w b.value b.more refl is b.spelled }
    go None is = absurd (let n : starts_type (Some t) ≡ false = ap is_some is in cc)

-- a type's first word is a fixed token of its own
pub type_not_fixed : (k : Fixed) (h : Option Tok) → is_some (type_of_fixed k) ≡ false → starts_type h ≡ true → is_next k h ≡ false
type_not_fixed k None apart e = refl
type_not_fixed k (Some t) apart e = go (is_fixed k t.terminal) refl
  where
    go : (b : Bool) → is_fixed k t.terminal ≡ b → is_fixed k t.terminal ≡ false
    go false is = is
    go true is = absurd (let same = that_fixed k t is in let n : starts_type (Some t) ≡ false = ap (λ (z : Terminal). is_some (by_fixed type_of_fixed z)) same ∙ apart in cc)
