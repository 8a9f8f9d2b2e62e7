-- The attribute `outer` of a transaction, and of what cancels it, is read exactly.
use Rattle.std.proofs.Common.{◌≡◌, ℕ, Bool, true, false, if◌then◌else◌, List, [], ◌∷◌, ◌++◌, Option, codes, refl, sym, ap, subst, ◌∙◌, ◌⊎◌, inl, inr}
use Rattle.lex.specs.declared.token.Fixed.{Fixed}
use Rattle.lex.specs.declared.token.Fixed.TheVariants.{Keyword, Punctuator}
use Rattle.lex.specs.declared.token.Keyword.TheVariants as key
use Rattle.lex.specs.declared.token.Punctuator.TheVariants as punct
use Rattle.lex.specs.Tokens.{name, fixed, Tok}
use Rattle.syntax.specs.declared.tree.TransactionKind.{TransactionKind}
use Rattle.syntax.specs.declared.tree.TransactionKind.TheVariants.{Plain, Outer}
use Rattle.syntax.specs.declared.tree.Mode.{Mode}
use Rattle.syntax.specs.declared.tree.Mode.TheVariants.{Atomic, Relaxed}
use Rattle.syntax.specs.Phrases.{Phrase, Seq, One, Is, Begins, is_fixed}
use Rattle.syntax.specs.Grammar as Grammar
use Rattle.syntax.specs.Grammar.{the_outer}
use Rattle.parse.specs.inner.Reading.{head, is_next}
use Rattle.parse.specs.inner.Statements.{begins_outer_attribute, enclosed_outer, outer_attribute, outer_attribute_if_any, atomic_kind, kind}
use Rattle.parse.proofs.combinators.Exact.{Exact, Always, Shallow, Comes, Empty, take_exact, give_exact, value_of, restated}
use Rattle.parse.proofs.combinators.Parts.{seq_map, seq_left, seq_right, seq_here, seq_not_here, head_begins, tail_begins, behind_exact, before_exact}
use Rattle.parse.proofs.combinators.Choices.{either_exact}

-- ---- the word and what encloses it

abbrev WordL : Unit {0} → Phrase
WordL = One the_outer

word_begins : Begins WordL []
word_begins = let t : Tok = record { terminal = name (codes "outer"); span = record { start = 0; «end» = 0 } } in record { value = tt; more = t ∷ []; spelled = record { token = t; has = refl; whole = refl } }

abbrev ClosedL : Fixed → Unit {0} → Phrase
ClosedL closing x = Seq (Seq (WordL x) (Is closing)) (Is closing)

abbrev EnclosedL : Fixed → Fixed → Unit {0} → Phrase
EnclosedL opening closing x = Seq (Is opening) (Seq (Is opening) (ClosedL closing x))

closed_begins : (k : Fixed) → Begins (ClosedL k) []
closed_begins k = tail_begins k (λ x. Seq (WordL x) (Is k)) (tail_begins k WordL word_begins)

enclosed_begins : (opening closing : Fixed) → Begins (EnclosedL opening closing) []
enclosed_begins opening closing = head_begins opening (λ x. Seq (Is opening) (ClosedL closing x)) (head_begins opening (ClosedL closing) (closed_begins closing))

enclosed_exact : (opening closing : Fixed) (d : ℕ) → Exact (λ D. enclosed_outer opening closing) (EnclosedL opening closing) (λ D. Shallow D) Always Always d
enclosed_exact opening closing d =
    behind_exact opening
    (behind_exact opening (before_exact closing (before_exact closing (take_exact the_outer d) (λ a t is. tt)) (λ a t is. tt)) (closed_begins closing))
    (head_begins opening (ClosedL closing) (closed_begins closing))

-- ---- the attribute

abbrev BracketsL : Unit {0} → Phrase
BracketsL = EnclosedL (Punctuator punct.OpenBracket) (Punctuator punct.CloseBracket)

abbrev ParensL : Unit {0} → Phrase
ParensL x = Seq (Is (Keyword key.Attribute)) (EnclosedL (Punctuator punct.OpenParen) (Punctuator punct.CloseParen) x)

abbrev pub AttributeL : Unit {0} → Phrase
AttributeL x = Grammar.outer_phrase

attribute_goes : (x : Unit {0}) (p : List Tok) → BracketsL x p ⊎ ParensL x p → Grammar.outer_phrase p
attribute_goes x p (inl l) = inl (seq_map l (λ q o. o) (λ q a. seq_map a (λ r o. o) (λ r b. seq_right b)))
attribute_goes x p (inr l) = inr (seq_map l (λ q o. o) (λ q a. seq_map a (λ r o. o) (λ r b. seq_map b (λ u o. o) (λ u c. seq_right c))))

attribute_comes : (x : Unit {0}) (p : List Tok) → Grammar.outer_phrase p → BracketsL x p ⊎ ParensL x p
attribute_comes x p (inl l) = inl (seq_map l (λ q o. o) (λ q a. seq_map a (λ r o. o) (λ r b. seq_left b)))
attribute_comes x p (inr l) = inr (seq_map l (λ q o. o) (λ q a. seq_map a (λ r o. o) (λ r b. seq_map b (λ u o. o) (λ u c. seq_left c))))

attribute_exact : (d : ℕ) → Exact (λ D. outer_attribute) AttributeL (λ D. Shallow D) Always Always d
attribute_exact d =
    restated AttributeL (λ D. Shallow D) Always Always
    (either_exact (is_next (Punctuator punct.OpenBracket)) Always
    (enclosed_exact (Punctuator punct.OpenBracket) (Punctuator punct.CloseBracket) d)
    (behind_exact (Keyword key.Attribute) (enclosed_exact (Punctuator punct.OpenParen) (Punctuator punct.CloseParen) d) (enclosed_begins (Punctuator punct.OpenParen) (Punctuator punct.CloseParen)))
    (λ x p q l h. seq_here (Punctuator punct.OpenBracket) _ p q l) (λ x p q l h. seq_not_here (Keyword key.Attribute) (Punctuator punct.OpenBracket) _ p q refl l)
    (λ x p r l e c. tt) (λ x p r l e c. tt))
    attribute_goes attribute_comes (λ x p l w. tt) (λ x p l w. tt) (λ x p h l s. tt) (λ x p h l c. tt)

attribute_here : (p q : List Tok) → Grammar.outer_phrase p → begins_outer_attribute (head (p ++ q)) ≡ true
attribute_here p q (inl l) = ap (λ (b : Bool). if b then true else is_next (Keyword key.Attribute) (head (p ++ q))) (seq_here (Punctuator punct.OpenBracket) _ p q l)
attribute_here p q (inr l) =
    ap (λ (b : Bool). if b then true else is_next (Keyword key.Attribute) (head (p ++ q))) (seq_not_here (Keyword key.Attribute) (Punctuator punct.OpenBracket) _ p q refl l)
    ∙ seq_here (Keyword key.Attribute) _ p q l

-- an attribute begins with no other fixed token
pub attribute_not_here : (k : Fixed) → is_fixed k (fixed (Punctuator punct.OpenBracket)) ≡ false → is_fixed k (fixed (Keyword key.Attribute)) ≡ false → (p q : List Tok) → Grammar.outer_phrase p → is_next k (head (p ++ q)) ≡ false
attribute_not_here k a b p q (inl l) = seq_not_here (Punctuator punct.OpenBracket) k _ p q a l
attribute_not_here k a b p q (inr l) = seq_not_here (Keyword key.Attribute) k _ p q b l

-- where neither of its first tokens is, no attribute begins
pub no_attribute : (h : Option Tok) → is_next (Punctuator punct.OpenBracket) h ≡ false → is_next (Keyword key.Attribute) h ≡ false → begins_outer_attribute h ≡ false
no_attribute h b a = ap (λ (c : Bool). if c then true else is_next (Keyword key.Attribute) h) b ∙ a

-- ---- with or without it

abbrev pub MaybeAttributeL : Bool → Phrase
MaybeAttributeL true p = Grammar.outer_phrase p
MaybeAttributeL false p = p ≡ []

-- nothing is read where an attribute stands
abbrev pub MaybeAttributeS : Bool → Option Tok → Type 0
MaybeAttributeS true h = Unit {0}
MaybeAttributeS false h = begins_outer_attribute h ≡ false

abbrev OuterL : Bool → Phrase
OuterL b p = (b ≡ true) × Grammar.outer_phrase p

pub maybe_attribute_begins : Begins MaybeAttributeL []
maybe_attribute_begins = record { value = false; more = []; spelled = refl }

pub maybe_attribute_exact : (d : ℕ) → Exact (λ D. outer_attribute_if_any) MaybeAttributeL (λ D. Shallow D) MaybeAttributeS Always d
maybe_attribute_exact d =
    restated MaybeAttributeL (λ D. Shallow D) MaybeAttributeS Always
    (either_exact begins_outer_attribute Always
    (value_of (λ (x : Unit {0}). true) OuterL (λ D. Shallow D) MaybeAttributeS Always (attribute_exact d) (λ b p l. record { value = tt; same = l.0; spelled = l.1; within = λ w. tt; stops = λ h s. tt }) (λ x p l. (refl, l)) (λ x w. tt) (λ x h c. tt))
    (give_exact false (λ D. Shallow D) MaybeAttributeS Always d tt (λ h. tt))
    (λ b p q l s. attribute_here p q l.1) none (λ b p r l e c. tt) (λ b p r l e c. tt))
    goes comes (λ b p l w. tt) (λ b p l w. tt) (λ b p h l s. s) (λ b p h l c. tt)
  where
    none : (b : Bool) (p q : List Tok) → Empty false b p → MaybeAttributeS b (head q) → begins_outer_attribute (head (p ++ q)) ≡ false
    none b p q l s =
        let s' : MaybeAttributeS false (head q) = subst (λ (z : Bool). MaybeAttributeS z (head q)) l.0 s in
        ap (λ (z : List Tok). begins_outer_attribute (head (z ++ q))) l.1 ∙ s'

    goes : (b : Bool) (p : List Tok) → OuterL b p ⊎ Empty false b p → MaybeAttributeL b p
    goes true p (inl l) = l.1
    goes false p (inl l) = absurd (let e = l.0 in cc)
    goes true p (inr l) = absurd (let e = l.0 in cc)
    goes false p (inr l) = l.1

    comes : (b : Bool) (p : List Tok) → MaybeAttributeL b p → OuterL b p ⊎ Empty false b p
    comes true p l = inl (refl, l)
    comes false p l = inr (refl, l)

-- ---- the kind of a transaction

-- behind the keyword of this mode
abbrev pub KindL : Mode → TransactionKind → Phrase
KindL mode (Plain of) p = (of ≡ mode) × (p ≡ [])
KindL Atomic Outer p = Grammar.outer_phrase p
KindL Relaxed Outer p = ⊥

abbrev pub KindS : TransactionKind → Option Tok → Type 0
KindS k h = begins_outer_attribute h ≡ false

pub kind_exact : (mode : Mode) (d : ℕ) → Exact (λ D. kind mode) (KindL mode) (λ D. Shallow D) KindS Always d
kind_exact Atomic d = value_of atomic_kind (KindL Atomic) (λ D. Shallow D) KindS Always (maybe_attribute_exact d) comes goes (λ x w. tt) (λ x h c. tt)
  where
    stops : (b : Bool) (h : Option Tok) → begins_outer_attribute h ≡ false → MaybeAttributeS b h
    stops true h s = tt
    stops false h s = s

    comes : (k : TransactionKind) (p : List Tok) → KindL Atomic k p → Comes atomic_kind MaybeAttributeL (λ b. Unit {0}) (λ k. Unit {0}) MaybeAttributeS KindS k p
    comes (Plain of) p l = record { value = false; same = ap Plain l.0; spelled = l.1; within = λ w. tt; stops = stops false }
    comes Outer p l = record { value = true; same = refl; spelled = l; within = λ w. tt; stops = stops true }

    goes : (b : Bool) (p : List Tok) → MaybeAttributeL b p → KindL Atomic (atomic_kind b) p
    goes true p l = l
    goes false p l = (refl, l)
kind_exact Relaxed d =
    restated (KindL Relaxed) (λ D. Shallow D) KindS Always (give_exact (Plain Relaxed) (λ D. Shallow D) KindS Always d tt (λ h. tt))
    goes comes (λ k p l w. tt) (λ k p l w. tt) (λ k p h l s. s) (λ k p h l c. tt)
  where
    goes : (k : TransactionKind) (p : List Tok) → Empty (Plain Relaxed) k p → KindL Relaxed k p
    goes k p l = subst (λ (z : TransactionKind). KindL Relaxed z p) (sym l.0) (refl, l.1)

    comes : (k : TransactionKind) (p : List Tok) → KindL Relaxed k p → Empty (Plain Relaxed) k p
    comes (Plain of) p l = (ap Plain l.0, l.1)
    comes Outer p l = absurd l
