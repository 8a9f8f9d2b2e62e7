-- From what stands behind an offset to what the text has there.
use Rattle.std.proofs.Common.{◌≡◌, ℕ, zero, suc, ◌+◌, ◌-◌, ◌<◌, ◌≤◌, true, false, ◌==◌, List, ◌∷◌, length, take, drop, slice_index, Option, Some, None, sym, ap, ◌∙◌, arith, subst, length-drop, add-zero, IsUtf8}
use Rattle.std.specs.List.{prefix_len}
use Rattle.std.specs.Str.{IsCharBoundary}
use Rattle.std.proofs.lemmas.Str.{IsCharBoundary-after_ascii, IsCharBoundary-before_ascii}
use Rattle.std.proofs.lemmas.Bool.Decides.{nat_tests}
use Rattle.std.proofs.lemmas.List.{drop_more}
use Rattle.std.proofs.lemmas.List.Sums.{prefix_len_passes, prefix_len-le-length}
use Rattle.lex.specs.declared.constant.Base.{Base}
use Rattle.lex.specs.declared.token.Fixed.{Fixed}
use Rattle.lex.specs.declared.token.Scalar.{Scalar}
use Rattle.lex.specs.declared.fault.LexFault.TheVariants as fault
use Rattle.lex.specs.inner.Punctuators.{punctuator_at, NoOtherPiece}
use Rattle.lex.specs.Tokens.{Terminal}
use Rattle.lex.specs.Tokens as tokens
use Rattle.lex.specs.Bytes.{is_letter, is_digit, is_part, is_glue, in_line, starts}
use Rattle.lex.specs.Faults.{FaultAt, character_len}
use Rattle.lex.specs.Pieces.{ClosesComment, IsOpen, IsDirective, IsInclude, FirstOnLine, Constant, constant_type, value, Gap, Says, Parted, Longest, IsGap, IsToken, IsStringBody}
use Rattle.lex.specs.Pieces as s
use Rattle.lex.specs.inner.Strings.{Unclosed}
use Rattle.lex.specs.declared.constant.Suffix.{Suffix}
use Rattle.lex.specs.inner.Constants.{constant_len, suffix_size}
use Rattle.lex.proofs.pieces.Constants.{Found, constant_longest, constant_piece, constant_typed, constant_value}
use Rattle.lex.proofs.pieces.Runs.{rest_byte}
use Rattle.lex.proofs.pieces.Shapes.{letter_part, word_longest, word_piece, directive_longest, directive_piece, line_longest, line_piece, comment_longest, comment_piece, open_longest, open_piece}
use Rattle.lex.proofs.pieces.Strings.{string_longest, string_piece, quote_longest}
use Rattle.lex.proofs.pieces.Punctuators.{found, missing, punctuator_longest, punctuator_says, strange}

pub rest_first : (text rest : List ℕ) (at k : ℕ) → rest ≡ drop at text → slice_index rest k ≡ slice_index text (at + k)
rest_first text rest at k e = ap (λ (z : List ℕ). slice_index z k) e ∙ rest_byte text at k

pub rest_zero : (text rest : List ℕ) (at : ℕ) → rest ≡ drop at text → slice_index rest 0 ≡ slice_index text at
rest_zero text rest at e = rest_first text rest at 0 e ∙ ap (slice_index text) (add-zero at)

pub rest_length : (text rest : List ℕ) (at : ℕ) → rest ≡ drop at text → length rest ≡ length text - at
rest_length text rest at e = ap (λ (z : List ℕ). length z) e ∙ length-drop at text

pub gap_of : (text rest : List ℕ) (at len : ℕ) → rest ≡ drop at text → Longest rest len → Gap (take at text) (take len rest) → IsGap text at len
gap_of text rest at len e l g = record { front = subst (λ (z : List ℕ). Longest z len) e l; gap = subst (λ (z : List ℕ). Gap (take at text) (take len z)) e g }

pub token_of : (text rest : List ℕ) (at len : ℕ) (t : Terminal) → rest ≡ drop at text → Longest rest len → Says (take len rest) t → Parted t (drop len rest) → IsToken text at len t
token_of text rest at len t e l m p = record {
  front = subst (λ (z : List ℕ). Longest z len) e l;
  means = subst (λ (z : List ℕ). Says (take len z) t) e m;
  parted = subst (λ (z : List ℕ). Parted t (drop len z)) e p;
}

-- ---- comments

pub comment_step : (text rest : List ℕ) (at k : ℕ) → rest ≡ drop at text → slice_index text at ≡ 47 → slice_index text (at + 1) ≡ 42 → (2 ≤ k) × (k + 2 ≤ length rest) × ClosesComment rest k × ((j : ℕ) → 2 ≤ j → j < k → ClosesComment rest j → ⊥) → IsGap text at (k + 2)
comment_step text rest at k e a b h =
    let zeroth : slice_index rest 0 ≡ 47 = rest_zero text rest at e ∙ a in
    let first : slice_index rest 1 ≡ 42 = rest_first text rest at 1 e ∙ b in
    gap_of text rest at (k + 2) e (comment_longest rest k zeroth first h.0 h.1 h.2 h.3) (Gap.comment (comment_piece rest k zeroth first h.0 h.1 h.2 h.3))

pub open_step : (text rest : List ℕ) (at : ℕ) → rest ≡ drop at text → at + 1 < length text → slice_index text at ≡ 47 → slice_index text (at + 1) ≡ 42 → ((j : ℕ) → 2 ≤ j → j + 2 ≤ length rest → ClosesComment rest j → ⊥) → FaultAt text at (fault.OpenComment (record { start = at; «end» = length text }))
open_step text rest at e lt a b none =
    let zeroth : slice_index rest 0 ≡ 47 = rest_zero text rest at e ∙ a in
    let first : slice_index rest 1 ≡ 42 = rest_first text rest at 1 e ∙ b in
    let size : length rest ≡ length text - at = rest_length text rest at e in
    let l = open_longest rest (omega arith) zeroth first none in
    let o = open_piece rest (omega arith) zeroth first none in
    let sum : at + length rest ≡ length text = omega arith in
    subst (λ (n : ℕ). FaultAt text at (fault.OpenComment (record { start = at; «end» = n }))) sum (FaultAt.unclosed (length rest) (subst (λ (z : List ℕ). Longest z (length rest)) e l) (subst (λ (z : List ℕ). IsOpen (take (length rest) z)) e o))

pub line_step : (text rest : List ℕ) (at len : ℕ) → rest ≡ drop at text → at + 1 < length text → slice_index text at ≡ 47 → slice_index text (at + 1) ≡ 47 → len ≡ prefix_len in_line rest → IsGap text at len
line_step text rest at len e lt a b h =
    let zeroth : slice_index rest 0 ≡ 47 = rest_zero text rest at e ∙ a in
    let first : slice_index rest 1 ≡ 47 = rest_first text rest at 1 e ∙ b in
    let size : length rest ≡ length text - at = rest_length text rest at e in
    subst (λ (n : ℕ). IsGap text at n) (sym h) (gap_of text rest at (prefix_len in_line rest) e (line_longest rest (omega arith) zeroth first) (Gap.line (line_piece rest (omega arith) zeroth first)))

-- ---- directives

record Line (text rest : List ℕ) (at : ℕ) : Type 0 where
  long : Longest (drop at text) (prefix_len in_line rest)
  is : IsDirective (take (prefix_len in_line rest) (drop at text))

line_of : (text rest : List ℕ) (at : ℕ) → rest ≡ drop at text → at < length text → slice_index text at ≡ 35 → Line text rest at
line_of text rest at e lt a =
    let zeroth : slice_index rest 0 ≡ 35 = rest_zero text rest at e ∙ a in
    let size : length rest ≡ length text - at = rest_length text rest at e in
    record {
      long = subst (λ (z : List ℕ). Longest z (prefix_len in_line rest)) e (directive_longest rest (omega arith) zeroth);
      is = subst (λ (z : List ℕ). IsDirective (take (prefix_len in_line rest) z)) e (directive_piece rest (omega arith) zeroth);
    }

pub misplaced_step : (text before rest : List ℕ) (at : ℕ) → before ≡ take at text → rest ≡ drop at text → at < length text → slice_index text at ≡ 35 → (FirstOnLine before → ⊥) → FaultAt text at (fault.BadCharacter (record { start = at; «end» = at + 1 }))
misplaced_step text before rest at b e lt a out =
    let l = line_of text rest at e lt a in
    FaultAt.misplaced (prefix_len in_line rest) l.long l.is (subst (λ (z : List ℕ). FirstOnLine z → ⊥) b out)

pub unknown_step : (text before rest line : List ℕ) (at len : ℕ) → before ≡ take at text → rest ≡ drop at text → len ≡ prefix_len in_line rest → line ≡ take len rest → at < length text → slice_index text at ≡ 35 → FirstOnLine before → (IsInclude line → ⊥) → FaultAt text at (fault.Directive (record { start = at; «end» = at + 1 }))
unknown_step text before rest line at len b e h w lt a f out =
    let l = line_of text rest at e lt a in
    let whole : line ≡ take (prefix_len in_line rest) (drop at text) = w ∙ ap (λ (n : ℕ). take n rest) h ∙ ap (take (prefix_len in_line rest)) e in
    FaultAt.unknown (prefix_len in_line rest) l.long l.is (subst FirstOnLine b f) (subst (λ (z : List ℕ). IsInclude z → ⊥) whole out)

pub include_step : (text before rest line : List ℕ) (at len : ℕ) → before ≡ take at text → rest ≡ drop at text → len ≡ prefix_len in_line rest → line ≡ take len rest → at < length text → slice_index text at ≡ 35 → FirstOnLine before → IsInclude line → IsGap text at len
include_step text before rest line at len b e h w lt a f inside =
    let l = line_of text rest at e lt a in
    let whole : line ≡ take (prefix_len in_line rest) (drop at text) = w ∙ ap (λ (n : ℕ). take n rest) h ∙ ap (take (prefix_len in_line rest)) e in
    subst (λ (n : ℕ). IsGap text at n) (sym h) (record { front = l.long; gap = Gap.include l.is (subst FirstOnLine b f) (subst IsInclude whole inside) })

-- ---- punctuators

pub punctuator_step : (text rest : List ℕ) (at : ℕ) (x : Fixed × ℕ) → rest ≡ drop at text → NoOtherPiece (drop at text) → punctuator_at rest ≡ Some x → IsToken text at x.1 (tokens.fixed x.0)
punctuator_step text rest at x e o h =
    let other : NoOtherPiece rest = subst NoOtherPiece (sym e) o in
    let f = found rest x h in
    token_of text rest at x.1 (tokens.fixed x.0) e (punctuator_longest rest x other f) (Says.fixed x.0 (punctuator_says rest x f)) tt

pub strange_step : (text rest : List ℕ) (at len : ℕ) → rest ≡ drop at text → at < length text → NoOtherPiece (drop at text) → punctuator_at rest ≡ None → len ≡ character_len rest → FaultAt text at (fault.BadCharacter (record { start = at; «end» = at + len }))
strange_step text rest at len e lt o h l =
    let size : len ≡ character_len (drop at text) = l ∙ ap character_len e in
    let whole : punctuator_at (drop at text) ≡ None = ap punctuator_at (sym e) ∙ h in
    subst (λ (n : ℕ). FaultAt text at (fault.BadCharacter (record { start = at; «end» = at + n }))) (sym size) (FaultAt.strange lt (strange (drop at text) o (missing (drop at text) whole)))

-- ---- strings

behind_is : (text behind : List ℕ) (at : ℕ) → at < length text → slice_index text at ≡ 34 → behind ≡ drop (at + 1) text → drop at text ≡ 34 ∷ behind
behind_is text behind at lt a e = drop_more text at 0 lt ∙ ap (λ (b : ℕ). b ∷ drop (at + 1) text) a ∙ ap (λ (z : List ℕ). 34 ∷ z) (sym e)

pub string_step : (text behind inner : List ℕ) (at n : ℕ) → at < length text → slice_index text at ≡ 34 → behind ≡ drop (at + 1) text → (n < length behind) × IsStringBody (take n behind) × (slice_index behind n ≡ 34) → inner ≡ take n behind → IsToken text at (n + 2) (tokens.string_literal inner)
string_step text behind inner at n lt a e h i =
    let whole : drop at text ≡ 34 ∷ behind = behind_is text behind at lt a e in
    record {
      front = string_longest (drop at text) behind n whole h.0 h.1 h.2;
      means = subst (λ (z : List ℕ). Says (take (n + 2) (drop at text)) (tokens.string_literal z)) (sym i) (Says.string (take n behind) (string_piece (drop at text) behind n whole h.0 h.1 h.2));
      parted = tt;
    }

pub quote_step : (text behind : List ℕ) (at : ℕ) → at < length text → slice_index text at ≡ 34 → behind ≡ drop (at + 1) text → Unclosed behind → FaultAt text at (fault.BadString (record { start = at; «end» = at + 1 }))
quote_step text behind at lt a e u =
    let whole : drop at text ≡ 34 ∷ behind = behind_is text behind at lt a e in
    FaultAt.quote 1 (quote_longest (drop at text) behind whole u) (ap (take 1) whole)

-- ---- words

part_ascii : (b : ℕ) → is_part b ≡ true → b < 128
part_ascii b h = grind (arith, nat_tests)

pub word_ends : (text rest : List ℕ) (at len : ℕ) → IsUtf8 text → rest ≡ drop at text → at < length text → is_letter (slice_index text at) ≡ true → len ≡ prefix_len is_part rest → IsCharBoundary text (at + len)
word_ends text rest at zero u e lt a h = subst (IsCharBoundary text) (sym (add-zero at)) (IsCharBoundary-before_ascii text at lt (part_ascii (slice_index text at) (letter_part (slice_index text at) a)))
word_ends text rest at (suc n) u e lt a h =
    let size : length rest ≡ length text - at = rest_length text rest at e in
    let most : prefix_len is_part rest ≤ length rest = prefix_len-le-length is_part rest in
    let passes : is_part (slice_index rest n) ≡ true = prefix_len_passes is_part rest n 0 (omega arith) in
    let byte : is_part (slice_index text (at + n)) ≡ true = ap is_part (sym (rest_first text rest at n e)) ∙ passes in
    let sum : at + n + 1 ≡ at + suc n = omega arith in
    subst (IsCharBoundary text) sum (IsCharBoundary-after_ascii text (at + n) u (omega arith) (part_ascii (slice_index text (at + n)) byte))

pub the_word : (text rest word : List ℕ) (at len : ℕ) → rest ≡ drop at text → len ≡ prefix_len is_part rest → word ≡ take (at + len - at) (drop at text) → word ≡ take (prefix_len is_part rest) rest
the_word text rest word at len e h w =
    let sum : at + len - at ≡ prefix_len is_part rest = omega arith in
    w ∙ ap (λ (n : ℕ). take n (drop at text)) sum ∙ ap (take (prefix_len is_part rest)) (sym e)

pub word_is : (text rest word : List ℕ) (at len : ℕ) → rest ≡ drop at text → at < length text → is_letter (slice_index text at) ≡ true → len ≡ prefix_len is_part rest → word ≡ take (at + len - at) (drop at text) → s.IsWord word
word_is text rest word at len e lt a h w =
    let size : length rest ≡ length text - at = rest_length text rest at e in
    subst s.IsWord (sym (the_word text rest word at len e h w)) (word_piece rest (omega arith) (ap is_letter (rest_zero text rest at e) ∙ a))

pub word_step : (text rest word : List ℕ) (at len : ℕ) (t : Terminal) → rest ≡ drop at text → at < length text → is_letter (slice_index text at) ≡ true → len ≡ prefix_len is_part rest → word ≡ take (at + len - at) (drop at text) → Says word t → ((z : List ℕ) → Parted t z) → IsToken text at len t
word_step text rest word at len t e lt a h w m p =
    let size : length rest ≡ length text - at = rest_length text rest at e in
    subst (λ (n : ℕ). IsToken text at n t) (sym h) (token_of text rest at (prefix_len is_part rest) t e (word_longest rest (omega arith) (ap is_letter (rest_zero text rest at e) ∙ a)) (subst (λ (z : List ℕ). Says z t) (the_word text rest word at len e h w) m) (p (drop (prefix_len is_part rest) rest)))

-- ---- constants

-- the constant at an offset, with its type
record At (text : List ℕ) (at len : ℕ) (o : Option Scalar) (v : ℕ) : Type 0 where
  long : Longest (drop at text) len
  constant : Constant (take len (drop at text))
  of : constant_type constant ≡ o
  counts : value constant ≡ v

record Here (rest : List ℕ) (len : ℕ) (o : Option Scalar) (v : ℕ) : Type 0 where
  long : Longest rest len
  constant : Constant (take len rest)
  of : constant_type constant ≡ o
  counts : value constant ≡ v

at_of : (text rest : List ℕ) (at len : ℕ) (o : Option Scalar) (v : ℕ) → rest ≡ drop at text → Here rest len o v → At text at len o v
at_of text rest at len o v e h =
    let k = subst (λ (z : List ℕ). Here z len o v) e h in
    record { long = k.long; constant = k.constant; of = k.of; counts = k.counts }

constant_at : (text rest : List ℕ) (at : ℕ) (base : Base) (start : ℕ) (digits : List ℕ) (suffix : Suffix) (after : List ℕ) (o : Option Scalar) → rest ≡ drop at text → at < length text → is_digit (slice_index text at) ≡ true → Found rest base start digits suffix after → s.type_of (s.is_decimal base) suffix (s.value_from (s.radix base) 0 digits) ≡ o → At text at (start + length digits + suffix_size suffix) o (s.value_from (s.radix base) 0 digits)
constant_at text rest at base start digits suffix after o e lt a f t =
    let size : length rest ≡ length text - at = rest_length text rest at e in
    let some : 0 < length rest = omega arith in
    let first : is_digit (slice_index rest 0) ≡ true = ap is_digit (rest_zero text rest at e) ∙ a in
    let here : Here rest (constant_len rest) o (s.value_from (s.radix base) 0 digits) = record {
      long = constant_longest rest some first;
      constant = constant_piece rest some first;
      of = constant_typed rest some first ∙ sym f.type_is ∙ t;
      counts = constant_value rest some first ∙ sym f.value_is;
    } in
    at_of text rest at (start + length digits + suffix_size suffix) o (s.value_from (s.radix base) 0 digits) e (subst (λ (n : ℕ). Here rest n o (s.value_from (s.radix base) 0 digits)) (sym f.len_is) here)

pub large_step : (text rest : List ℕ) (at : ℕ) (base : Base) (start : ℕ) (digits : List ℕ) (suffix : Suffix) (after : List ℕ) → rest ≡ drop at text → at < length text → is_digit (slice_index text at) ≡ true → Found rest base start digits suffix after → s.type_of (s.is_decimal base) suffix (s.value_from (s.radix base) 0 digits) ≡ None → FaultAt text at (fault.ConstantTooLarge (record { start = at; «end» = at + (start + length digits + suffix_size suffix) }))
large_step text rest at base start digits suffix after e lt a f t =
    let k = constant_at text rest at base start digits suffix after None e lt a f t in
    FaultAt.large (start + length digits + suffix_size suffix) k.long k.constant k.of

-- what stands behind the constant
behind_at : (text rest : List ℕ) (at : ℕ) (base : Base) (start : ℕ) (digits : List ℕ) (suffix : Suffix) (after : List ℕ) → rest ≡ drop at text → Found rest base start digits suffix after → after ≡ drop (start + length digits + suffix_size suffix) (drop at text)
behind_at text rest at base start digits suffix after e f = f.after_is ∙ ap (λ (n : ℕ). drop n rest) (sym f.len_is) ∙ ap (drop (start + length digits + suffix_size suffix)) e

pub glued_step : (text rest : List ℕ) (at : ℕ) (base : Base) (start : ℕ) (digits : List ℕ) (suffix : Suffix) (after : List ℕ) (t : Scalar) → rest ≡ drop at text → at < length text → is_digit (slice_index text at) ≡ true → Found rest base start digits suffix after → s.type_of (s.is_decimal base) suffix (s.value_from (s.radix base) 0 digits) ≡ Some t → starts is_glue after ≡ true → FaultAt text at (fault.BadCharacter (record { start = at + (start + length digits + suffix_size suffix); «end» = at + (start + length digits + suffix_size suffix) + 1 }))
glued_step text rest at base start digits suffix after t e lt a f h g =
    let k = constant_at text rest at base start digits suffix after (Some t) e lt a f h in
    FaultAt.glued (start + length digits + suffix_size suffix) t k.long k.constant k.of (ap (starts is_glue) (sym (behind_at text rest at base start digits suffix after e f)) ∙ g)

pub constant_step : (text rest : List ℕ) (at : ℕ) (base : Base) (start : ℕ) (digits : List ℕ) (suffix : Suffix) (after : List ℕ) (t : Scalar) (v : ℕ) → rest ≡ drop at text → at < length text → is_digit (slice_index text at) ≡ true → Found rest base start digits suffix after → v ≡ s.value_from (s.radix base) 0 digits → s.type_of (s.is_decimal base) suffix (s.value_from (s.radix base) 0 digits) ≡ Some t → starts is_glue after ≡ false → IsToken text at (start + length digits + suffix_size suffix) (tokens.constant v t)
constant_step text rest at base start digits suffix after t v e lt a f w h g =
    let k = constant_at text rest at base start digits suffix after (Some t) e lt a f h in
    record {
      front = k.long;
      means = subst (λ (n : ℕ). Says (take (start + length digits + suffix_size suffix) (drop at text)) (tokens.constant n t)) (k.counts ∙ sym w) (Says.constant k.constant t k.of);
      parted = ap (starts is_glue) (sym (behind_at text rest at base start digits suffix after e f)) ∙ g;
    }
