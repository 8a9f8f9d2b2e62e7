-- What is wrong at an offset is one thing, and nothing else can be read there.
use Rattle.std.proofs.Common.{◌≡◌, ℕ, ◌+◌, ◌-◌, ◌<◌, inl, inr, Bool, true, false, List, [], ◌∷◌, ◌++◌, length, take, drop, slice_index, codes, Option, Some, None, refl, sym, ap, ◌∙◌, arith, subst, length-drop}
use Rattle.lex.specs.declared.token.Scalar.{Scalar}
use Rattle.lex.specs.declared.fault.LexFault.{LexFault}
use Rattle.lex.specs.declared.fault.LexFault.TheVariants as fault
use Rattle.lex.specs.Tokens.{Terminal}
use Rattle.lex.specs.Bytes.{starts, is_glue}
use Rattle.lex.specs.Faults.{FaultAt}
use Rattle.lex.specs.Pieces.{Longest, IsGap, IsToken, Gap, Says, Parted, Constant, constant_type, IsDirective, IsInclude, IsOpen, FirstOnLine}
use Rattle.lex.specs.Pieces as s
use Rattle.lex.specs.Faults as wrong
use Rattle.lex.proofs.unique.Lies.{some_len}
use Rattle.lex.proofs.pieces.Classes.{Class, space, letter, digit, number, quotes, slash, class, white_class, byte_class}
use Rattle.lex.proofs.pieces.Spellings.{reserved_class}
use Rattle.lex.proofs.unique.Once.{same_type, word_class, constant_class, string_class, comment_class, line_class, no_fixed_word, TokenClass, says_class, second_of, second_apart}

pub one_length : (rest : List ℕ) (a b : ℕ) → Longest rest a → Longest rest b → a ≡ b
one_length rest a b l k =
    let le = l.longest b k.within k.shaped in
    let ge = k.longest a l.within l.shaped in
    omega arith

pub no_end : (text : List ℕ) (at len : ℕ) → at ≡ length text → Longest (drop at text) len → ⊥
no_end text at len e l =
    let lt = some_len (drop at text) len l in
    let le = l.within in
    let size = length-drop at text in
    omega arith

-- what is wrong with the longest piece
data Flaw (before w after : List ℕ) (at len : ℕ) : LexFault → Type 0 where
  misplaced : IsDirective w → (FirstOnLine before → ⊥) → Flaw before w after at len (fault.BadCharacter (record { start = at; «end» = at + 1 }))
  glued : (t : Scalar) (c : Constant w) → constant_type c ≡ Some t → starts is_glue after ≡ true → Flaw before w after at len (fault.BadCharacter (record { start = at + len; «end» = at + len + 1 }))
  large : (c : Constant w) → constant_type c ≡ None → Flaw before w after at len (fault.ConstantTooLarge (record { start = at; «end» = at + len }))
  unclosed : IsOpen w → Flaw before w after at len (fault.OpenComment (record { start = at; «end» = at + len }))
  quote : w ≡ codes "\"" → Flaw before w after at len (fault.BadString (record { start = at; «end» = at + 1 }))
  unknown : IsDirective w → FirstOnLine before → (IsInclude w → ⊥) → Flaw before w after at len (fault.Directive (record { start = at; «end» = at + 1 }))

record Found (text : List ℕ) (at : ℕ) (f : LexFault) : Type 0 where
  len : ℕ
  long : Longest (drop at text) len
  flaw : Flaw (take at text) (take len (drop at text)) (drop len (drop at text)) at len f

data View (text : List ℕ) (at : ℕ) (f : LexFault) : Type 0 where
  strange : at < length text → s.HasNoShape (drop at text) → f ≡ fault.BadCharacter (record { start = at; «end» = at + wrong.character_len (drop at text) }) → View text at f
  found : Found text at f → View text at f

view : (text : List ℕ) (at : ℕ) (f : LexFault) → FaultAt text at f → View text at f
view text at f (wrong.strange lt x) = strange lt x refl
view text at f (wrong.misplaced n l d o) = found record { len = n; long = l; flaw = misplaced d o }
view text at f (wrong.glued n t l c e g) = found record { len = n; long = l; flaw = glued t c e g }
view text at f (wrong.large n l c e) = found record { len = n; long = l; flaw = large c e }
view text at f (wrong.unclosed n l o) = found record { len = n; long = l; flaw = unclosed o }
view text at f (wrong.quote n l q) = found record { len = n; long = l; flaw = quote q }
view text at f (wrong.unknown n l d o i) = found record { len = n; long = l; flaw = unknown d o i }

abbrev flaw_class : {before w after : List ℕ} {at len : ℕ} {f : LexFault} → Flaw before w after at len f → Class
flaw_class (misplaced d f) = number
flaw_class (glued t c e g) = digit
flaw_class (large c e) = digit
flaw_class (unclosed o) = slash
flaw_class (quote q) = quotes
flaw_class (unknown d f i) = number

flaw_classed : {before w after : List ℕ} {at len : ℕ} {f : LexFault} (x : Flaw before w after at len f) → class w ≡ flaw_class x
flaw_classed {w = w} (misplaced d f) = byte_class (slice_index w 0) 35 d.number
flaw_classed {w = w} (glued t c e g) = constant_class c
flaw_classed {w = w} (large c e) = constant_class c
flaw_classed {w = w} (unclosed o) = byte_class (slice_index w 0) 47 o.opens.0
flaw_classed {w = w} (quote q) = ap class q
flaw_classed {w = w} (unknown d f i) = byte_class (slice_index w 0) 35 d.number

some_none : {t : Scalar} (o : Option Scalar) → o ≡ Some t → o ≡ None → ⊥
some_none o e f = cc

clash : (b : Bool) → b ≡ true → b ≡ false → ⊥
clash b t f = cc

one_flaw : (before w after : List ℕ) (at len : ℕ) (f g : LexFault) (x : Flaw before w after at len f) (y : Flaw before w after at len g) → flaw_class x ≡ flaw_class y → f ≡ g
one_flaw before w after at len x y (misplaced d f) (misplaced d2 f2) same = refl
one_flaw before w after at len x y (misplaced d f) (unknown d2 f2 i2) same = absurd (f f2)
one_flaw before w after at len x y (glued t c e g) (glued t2 c2 e2 g2) same = refl
one_flaw before w after at len x y (glued t c e g) (large c2 e2) same = absurd (some_none (constant_type c) e (same_type c c2 ∙ e2))
one_flaw before w after at len x y (large c e) (glued t2 c2 e2 g2) same = absurd (some_none (constant_type c2) e2 (same_type c2 c ∙ e))
one_flaw before w after at len x y (large c e) (large c2 e2) same = refl
one_flaw before w after at len x y (unclosed o) (unclosed o2) same = refl
one_flaw before w after at len x y (quote q) (quote q2) same = refl
one_flaw before w after at len x y (unknown d f i) (misplaced d2 f2) same = absurd (f2 f)
one_flaw before w after at len x y (unknown d f i) (unknown d2 f2 i2) same = refl
one_flaw before w after at len x y _ _ same = absurd cc

found_at : (text : List ℕ) (at n : ℕ) (f : LexFault) → Longest (drop at text) n → (x : Found text at f) → Flaw (take at text) (take n (drop at text)) (drop n (drop at text)) at n f
found_at text at n f l x = subst (λ (k : ℕ). Flaw (take at text) (take k (drop at text)) (drop k (drop at text)) at k f) (one_length (drop at text) x.len n x.long l) x.flaw

pub one_fault : (text : List ℕ) (at : ℕ) (f g : LexFault) → FaultAt text at f → FaultAt text at g → f ≡ g
one_fault text at f g w x = by (view text at f w) (view text at g x)
  where
    by : View text at f → View text at g → f ≡ g
    by (strange lt q e) (strange l p h) = e ∙ sym h
    by (strange lt q e) (found y) = absurd (q y.len y.long.within y.long.shaped)
    by (found y) (strange lt q e) = absurd (q y.len y.long.within y.long.shaped)
    by (found y) (found z) =
        let j = found_at text at y.len g y.long z in
        one_flaw (take at text) (take y.len (drop at text)) (drop y.len (drop at text)) at y.len f g y.flaw j (sym (flaw_classed y.flaw) ∙ flaw_classed j)

pub fault_end : (text : List ℕ) (at : ℕ) (f : LexFault) → at ≡ length text → FaultAt text at f → ⊥
fault_end text at f e w = by (view text at f w)
  where
    by : View text at f → ⊥
    by (strange lt q h) = omega arith
    by (found y) = no_end text at y.len e y.long

flaw_gap : (before w after : List ℕ) (at len : ℕ) (f : LexFault) (x : Flaw before w after at len f) → Gap before w → ⊥
flaw_gap before w after at len f x (s.white h) = go x (sym (white_class (slice_index w 0) h.1) ∙ flaw_classed x)
  where
    go : {f : LexFault} (x : Flaw before w after at len f) → space ≡ flaw_class x → ⊥
    go (misplaced d f) e = cc
    go (glued t c e g) p = cc
    go (large c e) p = cc
    go (unclosed o) e = cc
    go (quote q) e = cc
    go (unknown d f i) e = cc
flaw_gap before w after at len f x (s.comment h) = go x (sym (comment_class w h) ∙ flaw_classed x)
  where
    go : {f : LexFault} (x : Flaw before w after at len f) → slash ≡ flaw_class x → ⊥
    go (misplaced d f) e = cc
    go (glued t c e g) p = cc
    go (large c e) p = cc
    go (unclosed o) e = let big = h.large in o.never (length w - 2) (omega arith) (omega arith) h.closes
    go (quote q) e = cc
    go (unknown d f i) e = cc
flaw_gap before w after at len f x (s.line h) = go x (sym (line_class w h) ∙ flaw_classed x)
  where
    differ : (b : ℕ) → b ≡ 42 → b ≡ 47 → ⊥
    differ b e f = omega arith

    go : {f : LexFault} (x : Flaw before w after at len f) → slash ≡ flaw_class x → ⊥
    go (misplaced d f) e = cc
    go (glued t c e g) p = cc
    go (large c e) p = cc
    go (unclosed o) e = differ (slice_index w 1) o.opens.1 h.slashes.1
    go (quote q) e = cc
    go (unknown d f i) e = cc
flaw_gap before w after at len f x (s.include d first inside) = go x (sym (byte_class (slice_index w 0) 35 d.number) ∙ flaw_classed x)
  where
    go : {f : LexFault} (x : Flaw before w after at len f) → number ≡ flaw_class x → ⊥
    go (misplaced d f) e = f first
    go (glued t c e g) p = cc
    go (large c e) p = cc
    go (unclosed o) e = cc
    go (quote q) e = cc
    go (unknown d f i) e = i inside

pub fault_gap : (text : List ℕ) (at len : ℕ) (f : LexFault) → FaultAt text at f → IsGap text at len → ⊥
fault_gap text at len f w g = by (view text at f w)
  where
    by : View text at f → ⊥
    by (strange lt q e) = q len g.front.within g.front.shaped
    by (found y) = flaw_gap (take at text) (take len (drop at text)) (drop len (drop at text)) at len f (found_at text at len f g.front y) g.gap

flaw_token : (before w after : List ℕ) (at len : ℕ) (f : LexFault) (t : Terminal) (x : Flaw before w after at len f) → Says w t → Parted t after → ⊥
flaw_token before w after at len f t (misplaced d o) m p = elim (says_class w t m) [ inl c ↦ subst TokenClass (byte_class (slice_index w 0) 35 d.number) c | inr k ↦ no_fixed_word w k.0 number k.1 (byte_class (slice_index w 0) 35 d.number) refl ]
flaw_token before w after at len f t (unknown d o i) m p = elim (says_class w t m) [ inl c ↦ subst TokenClass (byte_class (slice_index w 0) 35 d.number) c | inr k ↦ no_fixed_word w k.0 number k.1 (byte_class (slice_index w 0) 35 d.number) refl ]
flaw_token before w after at len f t (unclosed o) m p = elim (says_class w t m) [ inl c ↦ subst TokenClass (byte_class (slice_index w 0) 47 o.opens.0) c | inr k ↦ second_apart (slice_index w 1) (second_of w k.0 (slice_index w 1) k.1 (byte_class (slice_index w 0) 47 o.opens.0) refl) (inl o.opens.1) ]
flaw_token before w after at len f t (glued v c e g) m p = go t m p
  where
    go : (t : Terminal) → Says w t → Parted t after → ⊥
    go t (s.name h n r) p = let q : letter ≡ digit = sym (word_class w h) ∙ constant_class c in cc
    go t (s.reserved r) p = let q : letter ≡ digit = sym (reserved_class w r) ∙ constant_class c in cc
    go t (s.fixed k h) p = no_fixed_word w k digit h (constant_class c) refl
    go t (s.constant d u h) p = clash (starts is_glue after) g p
    go t (s.string i h) p = let q : quotes ≡ digit = sym (string_class w i h) ∙ constant_class c in cc
flaw_token before w after at len f t (large c e) m p = go t m
  where
    go : (t : Terminal) → Says w t → ⊥
    go t (s.name h n r) = let q : letter ≡ digit = sym (word_class w h) ∙ constant_class c in cc
    go t (s.reserved r) = let q : letter ≡ digit = sym (reserved_class w r) ∙ constant_class c in cc
    go t (s.fixed k h) = no_fixed_word w k digit h (constant_class c) refl
    go t (s.constant d u h) = some_none (constant_type d) h (same_type d c ∙ e)
    go t (s.string i h) = let q : quotes ≡ digit = sym (string_class w i h) ∙ constant_class c in cc
flaw_token before w after at len f t (quote q) m p = go t m
  where
    alone : (i : List ℕ) → codes "\"" ≡ 34 ∷ (i ++ 34 ∷ []) → ⊥
    alone [] e = let h : ◌≡◌ {A = List ℕ} [] (34 ∷ []) = ap (drop 1) e in cc
    alone (b ∷ i) e = let h : ◌≡◌ {A = List ℕ} [] (b ∷ (i ++ 34 ∷ [])) = ap (drop 1) e in cc

    go : (t : Terminal) → Says w t → ⊥
    go t (s.name h n r) = let c : letter ≡ quotes = sym (word_class w h) ∙ ap class q in cc
    go t (s.reserved r) = let c : letter ≡ quotes = sym (reserved_class w r) ∙ ap class q in cc
    go t (s.fixed k h) = no_fixed_word w k quotes h (ap class q) refl
    go t (s.constant d u h) = let c : digit ≡ quotes = sym (constant_class d) ∙ ap class q in cc
    go t (s.string i h) = alone i (sym q ∙ h.written)

pub fault_token : (text : List ℕ) (at len : ℕ) (t : Terminal) (f : LexFault) → FaultAt text at f → IsToken text at len t → ⊥
fault_token text at len t f w k = by (view text at f w)
  where
    by : View text at f → ⊥
    by (strange lt q e) = q len k.front.within k.front.shaped
    by (found y) = flaw_token (take at text) (take len (drop at text)) (drop len (drop at text)) at len f t (found_at text at len f k.front y) k.means k.parted
