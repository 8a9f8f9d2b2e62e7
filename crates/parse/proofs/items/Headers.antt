-- Attributes, and what stands before a function's parameters or behind the first global's name, are read exactly.
use Rattle.std.proofs.Common.{◌≡◌, ℕ, Bool, true, false, if◌then◌else◌, not, List, [], ◌∷◌, ◌++◌, Option, Some, None, refl, sym, ap, subst, ◌∙◌, append_assoc, codes, ◌⊎◌, inl, inr, is_some}
use Rattle.lex.specs.declared.token.Fixed.{Fixed}
use Rattle.lex.specs.declared.token.Fixed.TheVariants.{Keyword, Punctuator}
use Rattle.lex.specs.declared.token.Keyword.TheVariants as key
use Rattle.lex.specs.declared.token.Punctuator.TheVariants as punct
use Rattle.lex.specs.declared.token.Scalar.{Scalar}
use Rattle.lex.specs.Tokens.{name, fixed, Tok}
use Rattle.syntax.specs.declared.tree.Attribute.{Attribute}
use Rattle.syntax.specs.declared.tree.Attribute.TheVariants.{Safe}
use Rattle.syntax.specs.Tree.{Name}
use Rattle.syntax.specs.Phrases.{Phrase, Seq, One, Is, never, Begins, Many, Listed, is_fixed, the_fixed}
use Rattle.syntax.specs.Grammar.{the_name, the_attribute, attribute_list, attributes, attributes_of, scalar, result}
use Rattle.parse.specs.inner.Reading.{Parser, head, map_parser, either, expect, is_next, is_other}
use Rattle.parse.specs.inner.Expressions.{type_of_fixed}
use Rattle.parse.specs.inner.Items.{is_plain, Header}
use Rattle.parse.specs.inner.Items as read
use Rattle.parse.proofs.combinators.Exact.{Exact, Always, Shallow, Comes, Two, take_exact, relabel, restated, two, value_of, Nonempty}
use Rattle.parse.proofs.combinators.Many.{ManyFit, many_exact}
use Rattle.parse.proofs.combinators.FixedTokens.{that_fixed, one_begins}
use Rattle.parse.proofs.combinators.Parts.{seq_map, seq_left, seq_right, is_here, is_not_here, seq_here, seq_not_here, tail_begins, head_begins, behind_exact, before_exact}
use Rattle.parse.proofs.combinators.Choices.{either_exact}
use Rattle.parse.proofs.combinators.Lists.{listed_exact, listed_begins}
use Rattle.parse.proofs.expressions.Scalars.{TypeEnds, name_begins, name_ends, scalar_exact, scalar_first, type_not_fixed}

-- ---- what is next

-- where one fixed token is next, another is not
pub next_not : (k j : Fixed) → is_fixed j (fixed k) ≡ false → (h : Option Tok) → is_next k h ≡ true → is_next j h ≡ false
next_not k j apart None e = absurd cc
next_not k j apart (Some t) e = ap (is_fixed j) (that_fixed k t e) ∙ apart

-- a fixed token is next
abbrev pub Next : {A : Type 0} → Fixed → A → Option Tok → Type 0
Next k x h = is_next k h ≡ true

-- a comma or this fixed token is next
abbrev pub Parted : {A : Type 0} → Fixed → A → Option Tok → Type 0
Parted k x h = (is_next (Punctuator punct.Comma) h ≡ true) ⊎ (is_next k h ≡ true)

pub parted_not : {A : Type 0} (k j : Fixed) (x : A) → is_fixed j (fixed (Punctuator punct.Comma)) ≡ false → is_fixed j (fixed k) ≡ false → (h : Option Tok) → Parted k x h → is_next j h ≡ false
parted_not k j x comma apart h (inl e) = next_not (Punctuator punct.Comma) j comma h e
parted_not k j x comma apart h (inr e) = next_not k j apart h e

-- the first token of two phrases is the first one's
pub front_head : {L M : Phrase} (p q : List Tok) (s : Seq L M p) → head (p ++ q) ≡ head (s.front ++ (s.back ++ q))
front_head p q s = ap head (ap (λ (z : List Tok). z ++ q) s.whole ∙ append_assoc s.front s.back q)

pub seq_solid : (k : Fixed) (M : Phrase) (p : List Tok) → Seq (Is k) M p → Nonempty p
seq_solid k M p s = subst Nonempty (sym (s.whole ∙ ap (λ (z : List Tok). z ++ s.back) s.first.whole)) tt

pub all_shallow : {A : Type 0} (d : ℕ) (xs : List A) → ManyFit (λ D. Shallow D) d xs
all_shallow d [] = tt
all_shallow d (x ∷ xs) = (tt, all_shallow d xs)

-- ---- one phrase or another, where nothing more is known of what follows

pub one_of : {A : Type 0} {P Q : ℕ → Parser A} {L M : A → List Tok → Type 0} {W : ℕ → A → Type 0} {S : A → Option Tok → Type 0} {d : ℕ} (test : Option Tok → Bool) (N : A → Phrase)
    → Exact P L W S Always d → Exact Q M W S Always d
    → ((x : A) (p q : List Tok) → L x p → S x (head q) → test (head (p ++ q)) ≡ true)
    → ((x : A) (p q : List Tok) → M x p → S x (head q) → test (head (p ++ q)) ≡ false)
    → ((x : A) (p : List Tok) → L x p → N x p) → ((x : A) (p : List Tok) → M x p → N x p) → ((x : A) (p : List Tok) → N x p → L x p ⊎ M x p)
    → Exact (λ D. either test (P D) (Q D)) N W S Always d
one_of {A = A} {P = P} {Q = Q} {L = L} {M = M} {W = W} {S = S} {d = d} test N EP EQ first second to_first to_second from =
    relabel (λ D. either test (P D) (Q D)) (λ x p. L x p ⊎ M x p) N W W S S Always Always d
    (either_exact test Always EP EQ first second (λ x p r l t b. tt) (λ x p r l t b. tt))
    to from (λ x p l w. w) (λ x w. w) (λ x h s. s) (λ x h c. c)
  where
    to : (x : A) (p : List Tok) → L x p ⊎ M x p → N x p
    to x p (inl l) = to_first x p l
    to x p (inr l) = to_second x p l

-- something, that may also be left out
abbrev pub SomeL : {A : Type 0} → (A → Phrase) → Option A → Phrase
SomeL L None = never
SomeL L (Some x) = L x

pub some_exact : {A : Type 0} {P : ℕ → Parser A} {L : A → List Tok → Type 0} {S : A → Option Tok → Type 0} {d : ℕ} (S' : Option A → Option Tok → Type 0)
    → Exact P L (λ D. Shallow D) S Always d → ((x : A) (h : Option Tok) → S' (Some x) h → S x h)
    → Exact (λ D. map_parser Some (P D)) (SomeL L) (λ D. Shallow D) S' Always d
some_exact {A = A} {L = L} {S = S} S' E stops = value_of Some (SomeL L) (λ D. Shallow D) S' Always E comes (λ x p l. l) (λ x w. w) (λ x h c. c)
  where
    comes : (y : Option A) (p : List Tok) → SomeL L y p → Comes Some L (λ x. Unit {0}) (λ x. Unit {0}) S S' y p
    comes None p l = absurd l
    comes (Some x) p l = record { value = x; same = refl; spelled = l; within = λ w. w; stops = stops x }

-- a fixed token that stands for something
pub sign_exact : {A : Type 0} (k : Fixed) (x : A) (W : ℕ → A → Type 0) (S : A → Option Tok → Type 0) (d : ℕ) → W d x → Exact (λ D. map_parser (λ u. x) (expect k)) (λ y p. (y ≡ x) × Is k p) W S Always d
sign_exact {A = A} k x W S d w = value_of (λ u. x) (λ y p. (y ≡ x) × Is k p) W S Always (take_exact (the_fixed k) d) comes (λ u p l. (refl, l)) (λ u v. w) (λ u h c. tt)
  where
    comes : (y : A) (p : List Tok) → (y ≡ x) × Is k p → Comes (λ (u : Unit {0}). x) (One (the_fixed k)) (λ u. Unit {0}) (W d) (λ u h. Unit {0}) S y p
    comes y p l = record { value = tt; same = l.0; spelled = l.1; within = λ v. tt; stops = λ h s. tt }

-- ---- attributes

abbrev pub Words : List Attribute → Phrase
Words = Listed (One the_attribute)

abbrev safe_word : Tok
safe_word = record { terminal = name (codes "transaction_safe"); span = record { start = 0; «end» = 0 } }

word_begins : Begins (One the_attribute) []
word_begins = record { value = Safe; more = safe_word ∷ []; spelled = record { token = safe_word; has = refl; whole = refl } }

words_exact : (d : ℕ) → Exact (λ D. read.words) Words (λ D. Shallow D) (λ x h. is_next (Punctuator punct.Comma) h ≡ false) Always d
words_exact d =
    restated Words (λ D. Shallow D) (λ x h. is_next (Punctuator punct.Comma) h ≡ false) Always
    (listed_exact (λ h. Unit {0}) (take_exact the_attribute d) word_begins (λ x h o t. tt) (λ x t is. tt))
    (λ x p l. l) (λ x p l. l) (λ x p l w. tt) (λ x p l w. all_shallow d x) (λ x p h l s. (ap not s, tt)) (λ x p h l c. tt)

-- words that two fixed tokens close
abbrev Closed : Fixed → List Attribute → Phrase
Closed k x = Seq (Seq (Words x) (Is k)) (Is k)

closed_begins : (k : Fixed) → Begins (Closed k) []
closed_begins k = tail_begins k (λ x. Seq (Words x) (Is k)) (tail_begins k Words (listed_begins word_begins))

abbrev BracketsL : List Attribute → Phrase
BracketsL x = Seq (Is (Punctuator punct.OpenBracket)) (Seq (Is (Punctuator punct.OpenBracket)) (Closed (Punctuator punct.CloseBracket) x))

abbrev ParensL : List Attribute → Phrase
ParensL x = Seq (Is (Keyword key.Attribute)) (Seq (Is (Punctuator punct.OpenParen)) (Seq (Is (Punctuator punct.OpenParen)) (Closed (Punctuator punct.CloseParen) x)))

bracketed_exact : (d : ℕ) → Exact (λ D. read.bracket_attributes) BracketsL (λ D. Shallow D) Always Always d
bracketed_exact d =
    let closed = before_exact (Punctuator punct.CloseBracket) (before_exact (Punctuator punct.CloseBracket) (words_exact d) (λ a t is. rw is refl)) (λ a t is. tt) in
    let inner = behind_exact (Punctuator punct.OpenBracket) closed (closed_begins (Punctuator punct.CloseBracket)) in
    behind_exact (Punctuator punct.OpenBracket) inner (head_begins (Punctuator punct.OpenBracket) (Closed (Punctuator punct.CloseBracket)) (closed_begins (Punctuator punct.CloseBracket)))

parenthesized_exact : (d : ℕ) → Exact (λ D. read.gnu_attributes) ParensL (λ D. Shallow D) Always Always d
parenthesized_exact d =
    let closed = before_exact (Punctuator punct.CloseParen) (before_exact (Punctuator punct.CloseParen) (words_exact d) (λ a t is. rw is refl)) (λ a t is. tt) in
    let inner = behind_exact (Punctuator punct.OpenParen) closed (closed_begins (Punctuator punct.CloseParen)) in
    let begins = head_begins (Punctuator punct.OpenParen) (Closed (Punctuator punct.CloseParen)) (closed_begins (Punctuator punct.CloseParen)) in
    let outer = behind_exact (Punctuator punct.OpenParen) inner begins in
    behind_exact (Keyword key.Attribute) outer (head_begins (Punctuator punct.OpenParen) (λ x. Seq (Is (Punctuator punct.OpenParen)) (Closed (Punctuator punct.CloseParen) x)) begins)

list_exact : (d : ℕ) → Exact (λ D. read.attribute_list) attribute_list (λ D. Shallow D) Always Always d
list_exact d =
    one_of (is_next (Punctuator punct.OpenBracket)) attribute_list (bracketed_exact d) (parenthesized_exact d)
    (λ x p q l h. seq_here (Punctuator punct.OpenBracket) _ p q l)
    (λ x p q l h. seq_not_here (Keyword key.Attribute) (Punctuator punct.OpenBracket) _ p q refl l)
    (λ x p l. inl (seq_map l (λ q o. o) (λ q a. seq_map a (λ r o. o) (λ r b. seq_right b))))
    (λ x p l. inr (seq_map l (λ q o. o) (λ q a. seq_map a (λ r o. o) (λ r b. seq_map b (λ u o. o) (λ u c. seq_right c)))))
    from
  where
    from : (x : List Attribute) (p : List Tok) → attribute_list x p → BracketsL x p ⊎ ParensL x p
    from x p (inl l) = inl (seq_map l (λ q o. o) (λ q a. seq_map a (λ r o. o) (λ r b. seq_left b)))
    from x p (inr l) = inr (seq_map l (λ q o. o) (λ q a. seq_map a (λ r o. o) (λ r b. seq_map b (λ u o. o) (λ u c. seq_left c))))

list_solid : (x : List Attribute) (p : List Tok) → attribute_list x p → Nonempty p
list_solid x p (inl l) = seq_solid (Punctuator punct.OpenBracket) _ p l
list_solid x p (inr l) = seq_solid (Keyword key.Attribute) _ p l

-- no attributes are next
abbrev pub Plain : {A : Type 0} → A → Option Tok → Type 0
Plain x h = is_plain h ≡ true

pub plain_true : (h : Option Tok) → is_next (Punctuator punct.OpenBracket) h ≡ false → is_next (Keyword key.Attribute) h ≡ false → is_plain h ≡ true
plain_true h b a = ap (λ (c : Bool). if c then false else is_other (Keyword key.Attribute) h) b ∙ ap not a

list_first : (x : List Attribute) (p q : List Tok) → attribute_list x p → is_plain (head (p ++ q)) ≡ false
list_first x p q (inl l) = ap (λ (c : Bool). if c then false else is_other (Keyword key.Attribute) (head (p ++ q))) (seq_here (Punctuator punct.OpenBracket) _ p q l)
list_first x p q (inr l) =
    ap (λ (c : Bool). if c then false else is_other (Keyword key.Attribute) (head (p ++ q))) (seq_not_here (Keyword key.Attribute) (Punctuator punct.OpenBracket) _ p q refl l)
    ∙ ap not (seq_here (Keyword key.Attribute) _ p q l)

pub attributes_exact : (d : ℕ) → Exact (λ D. read.attributes) attributes (λ D. Shallow D) Plain Always d
attributes_exact d =
    value_of attributes_of attributes (λ D. Shallow D) Plain Always
    (many_exact (λ D. read.attribute_list) attribute_list (λ D. Shallow D) Always Always d (list_exact d) is_plain (λ h. Unit {0}) list_solid list_first (λ x h s t. tt) (λ x y p q l. tt))
    comes (λ x p l. (x, refl, l)) (λ x w. tt) (λ x h c. tt)
  where
    comes : (y : List Attribute) (p : List Tok) → attributes y p → Comes attributes_of (Many attribute_list) (λ x. ManyFit (λ D. Shallow D) d x) (λ x. Unit {0}) (λ x h. (is_plain h ≡ true) × Unit {0}) Plain y p
    comes y p l = record { value = l.0; same = l.1; spelled = l.2; within = λ w. all_shallow d l.0; stops = λ h e. (e, tt) }

pub no_words : attributes [] []
no_words = ([], refl, refl)

-- no attributes, no tokens
pub no_attributes : (p : List Tok) → attributes [] p → p ≡ []
no_attributes p a = go a.0 a.1 a.2
  where
    go : (lists : List (List Attribute)) → [] ≡ attributes_of lists → Many attribute_list lists p → p ≡ []
    go [] is l = l
    go ([] ∷ rest) is l = absurd (none l.first)
      where
        none : attribute_list [] l.front → ⊥
        none (inl s) = s.second.second.first
        none (inr s) = s.second.second.second.first
    go ((w ∷ ws) ∷ rest) is l = absurd (let h : [] ≡ w ∷ (ws ++ attributes_of rest) = is in cc)

-- ---- results and headers

-- what is no word of a type does not begin one
pub scalar_not : (j : Fixed) → is_some (type_of_fixed j) ≡ false → (t : Scalar) (p q : List Tok) → scalar t p → is_next j (head (p ++ q)) ≡ false
scalar_not j apart t p q l = type_not_fixed j (head (p ++ q)) apart (scalar_first t p q l)

abbrev VoidL : Option Scalar → Phrase
VoidL x p = (x ≡ None) × Is (Keyword key.Void) p

abbrev pub HeaderL : Header → Phrase
HeaderL = Two attributes (Two result (One the_name))

abbrev pub HeaderW : ℕ → Header → Type 0
HeaderW d x = Unit {0} × (Unit {0} × Unit {0})

result_exact : (d : ℕ) → Exact (λ D. read.result) result (λ D. Shallow D) TypeEnds Always d
result_exact d =
    one_of (is_next (Keyword key.Void)) result (sign_exact (Keyword key.Void) None (λ D. Shallow D) TypeEnds d tt) (some_exact TypeEnds (scalar_exact d) (λ x h s. s))
    (λ x p q l h. is_here (Keyword key.Void) p q l.1) type_here (λ x p l. subst (λ (z : Option Scalar). result z p) (sym l.0) l.1) type_is from
  where
    type_here : (x : Option Scalar) (p q : List Tok) → SomeL scalar x p → TypeEnds x (head q) → is_next (Keyword key.Void) (head (p ++ q)) ≡ false
    type_here None p q l h = absurd l
    type_here (Some t) p q l h = scalar_not (Keyword key.Void) refl t p q l

    type_is : (x : Option Scalar) (p : List Tok) → SomeL scalar x p → result x p
    type_is None p l = absurd l
    type_is (Some t) p l = l

    from : (x : Option Scalar) (p : List Tok) → result x p → VoidL x p ⊎ SomeL scalar x p
    from None p l = inl (refl, l)
    from (Some t) p l = inr l

result_not : (j : Fixed) → is_fixed j (fixed (Keyword key.Void)) ≡ false → is_some (type_of_fixed j) ≡ false → (x : Option Scalar) (p q : List Tok) → result x p → is_next j (head (p ++ q)) ≡ false
result_not j v apart None p q l = is_not_here (Keyword key.Void) j p q v l
result_not j v apart (Some t) p q l = scalar_not j apart t p q l

pub header_exact : (d : ℕ) → Exact (λ D. read.header) HeaderL HeaderW Always Always d
header_exact d =
    two (attributes_exact d) (two (result_exact d) (take_exact the_name d) (λ a b p q o h. name_ends b p q o) name_begins) follow begins
  where
    follow : (a : List Attribute) (b : Option Scalar × Name) (p q : List Tok) → Two result (One the_name) b p → Unit {0} → Plain a (head (p ++ q))
    follow a b p q s h =
        let first = front_head p q s in
        subst (λ (o : Option Tok). is_plain o ≡ true) (sym first)
        (plain_true (head (s.front ++ (s.back ++ q))) (result_not (Punctuator punct.OpenBracket) refl refl b.0 s.front (s.back ++ q) s.first) (result_not (Keyword key.Attribute) refl refl b.0 s.front (s.back ++ q) s.first))

    begins : Begins (Two result (One the_name)) []
    begins =
        let v = one_begins (Keyword key.Void) in
        let n = name_begins in
        record { value = (None, n.value); more = v.more ++ n.more; spelled = record { front = v.more; back = n.more; first = v.spelled; second = n.spelled; whole = refl } }
