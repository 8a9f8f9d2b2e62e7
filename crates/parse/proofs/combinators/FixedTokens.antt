-- Tokens with one spelling: keywords and punctuators.
use Rattle.std.proofs.Common.{◌≡◌, Bool, true, false, cond, List, [], ◌∷◌, ◌++◌, Option, Some, None, refl, ap}
use denote.Enum.Bare.{same_true, true_same}
use Rattle.lex.specs.declared.token.Fixed.{Fixed}
use Rattle.lex.specs.declared.token.Fixed.TheVariants.{Keyword, Punctuator}
use Rattle.lex.specs.contracts.token.Keyword as keyword
use Rattle.lex.specs.contracts.token.Punctuator as punctuator
use Rattle.lex.specs.Tokens.{Terminal, fixed, Tok}
use Rattle.syntax.specs.Phrases.{Phrase, Seq, One, Begins, same_fixed, is_fixed, the_fixed}
use Rattle.parse.specs.inner.Reading.{head}

same_is : (j k : Fixed) → same_fixed j k ≡ true → j ≡ k
same_is (Keyword a) (Keyword b) is = ap Keyword (same_true keyword.the_type tt a b is)
same_is (Punctuator a) (Punctuator b) is = ap Punctuator (same_true punctuator.the_type tt a b is)
same_is (Keyword a) (Punctuator b) is = absurd cc
same_is (Punctuator a) (Keyword b) is = absurd cc

fixed_terminal : {A : Type 0} (k : Fixed) (l : Terminal) (x b : A) → cond (is_fixed k l) (Some x) None ≡ Some b → l ≡ fixed k
fixed_terminal k (fixed j) x b e = go (same_fixed j k) refl e
  where
    go : (c : Bool) → same_fixed j k ≡ c → cond c (Some x) None ≡ Some b → fixed j ≡ fixed k
    go true is h = ap fixed (same_is j k is)
    go false is h = absurd cc
fixed_terminal k l x b e = absurd cc

-- a token that says what a fixed token says is that token
pub fixed_is : (k : Fixed) (t : Tok) (b : Unit {0}) → the_fixed k t ≡ Some b → t.terminal ≡ fixed k
fixed_is k t b e = fixed_terminal k t.terminal tt b e

pub that_fixed : (k : Fixed) (t : Tok) → is_fixed k t.terminal ≡ true → t.terminal ≡ fixed k
that_fixed k t e = fixed_is k t tt (rw e refl)

same_self : (k : Fixed) → same_fixed k k ≡ true
same_self (Keyword a) = true_same keyword.the_type a a refl
same_self (Punctuator a) = true_same punctuator.the_type a a refl

-- a token that is a fixed token
abbrev pub a_fixed : Fixed → Tok
a_fixed m = record { terminal = fixed m; span = record { start = 0; «end» = 0 } }

pub fixed_has : (k : Fixed) (t : Tok) → t.terminal ≡ fixed k → the_fixed k t ≡ Some tt
fixed_has k t e = rw (e, same_self k) refl

pub one_begins : (k : Fixed) → Begins (λ (x : Unit {0}) p. One (the_fixed k) x p) []
one_begins k = record { value = tt; more = a_fixed k ∷ []; spelled = record { token = a_fixed k; has = fixed_has k (a_fixed k) refl; whole = refl } }

pub one_head : {A : Type 0} {f : Tok → Option A} {x : A} {p : List Tok} (o : One f x p) (q : List Tok) → head (p ++ q) ≡ Some o.token
one_head o q = rw o.whole refl

pub seq_head : {A : Type 0} {f : Tok → Option A} {x : A} {M : Phrase} {p : List Tok} (s : Seq (One f x) M p) (q : List Tok) → head (p ++ q) ≡ Some s.first.token
seq_head s q = rw (s.whole, s.first.whole) refl
