-- Thread numbers that are read from a text word by word.
use Rattle.std.proofs.Common.{◌≡◌, ◌∙◌, ◌+◌, ◌-◌, ℕ, suc, Bool, true, false, List, [], ◌∷◌, ◌++◌, length, take, drop, refl, sym, ap, subst, arith, rules}
use Rattle.std.specs.Prelude.{cond, filter, min, not, ◌==◌}
use Rattle.std.specs.List.{onto_first, slice_split, position_or_len}
use Rattle.std.specs.Str.{IsAscii, IsUtf8}
use Rattle.std.specs.Str.Parse.{AllDigits}
use Rattle.std.proofs.lemmas.List.{append-nil, append_assoc, take_rest}
use Rattle.std.proofs.lemmas.Str.{IsUtf8-from_ascii}
use Rattle.std.proofs.lemmas.Str.Ascii.{IsAscii-from_reads}
use Rattle.std.proofs.lemmas.Str.Parse.{digit_at}
use Rattle.clap.specs.Words.{Text}
use Rattle.command.specs.Asked.{AreThreads, IsDecimal, IsListedOrder, is_between, words_listed}

-- the parts of a text behind what parts them at its front
abbrev pub parts_after : (ℕ → Bool) → Text → List Text
parts_after p [] = []
parts_after p (x ∷ xs) = slice_split p xs

abbrev pub SplitsAt : (ℕ → Bool) → Text → ℕ → Type 0
SplitsAt p xs at = slice_split p xs ≡ take at xs ∷ parts_after p (drop at xs)

by_place : (p : ℕ → Bool) (x : ℕ) (xs : Text) (b : Bool) → SplitsAt p xs (position_or_len p xs) →
    let place = cond (not b) (1 + position_or_len p xs) 0 in
    cond b ([] ∷ slice_split p xs) (onto_first x (slice_split p xs)) ≡ take place (x ∷ xs) ∷ parts_after p (drop place (x ∷ xs))
by_place p x xs true splits = refl
by_place p x xs false splits =
    let e : suc (position_or_len p xs) ≡ 1 + position_or_len p xs = omega arith in
    subst (λ k. onto_first x (slice_split p xs) ≡ take k (x ∷ xs) ∷ parts_after p (drop k (x ∷ xs))) e (ap (onto_first x) splits)

pub split_front : (p : ℕ → Bool) (xs : Text) → SplitsAt p xs (position_or_len p xs)
split_front p [] = refl
split_front p (x ∷ xs) = by_place p x xs (p x) (split_front p xs)

abbrev pub kept_words : List Text → List Text
kept_words = filter (λ word. not (length word == 0))

keep_by : (word : Text) (words : List Text) (b : Bool) → (length word == 0) ≡ b → kept_words (word ∷ words) ≡ cond (not b) (word ∷ kept_words words) (kept_words words)
keep_by word words b is = ap (λ (z : Bool). cond (not z) (word ∷ kept_words words) (kept_words words)) is

-- what is behind a word, and behind what parts it from the next one
abbrev pub beyond : Text → ℕ → Text
beyond text at = drop (min (length (drop at text)) 1) (drop at text)

next_words : (more : Text) → kept_words (parts_after is_between more) ≡ words_listed (drop (min (length more) 1) more)
next_words [] = refl
next_words (x ∷ xs) =
    let one : min (length (x ∷ xs)) 1 ≡ 1 = search rules in
    subst (λ n. kept_words (slice_split is_between xs) ≡ words_listed (drop n (x ∷ xs))) (sym one) refl

words_front : (text : Text) (at : ℕ) → at ≡ position_or_len is_between text → words_listed text ≡ kept_words (take at text ∷ parts_after is_between (drop at text))
words_front text at is =
    subst (λ n. words_listed text ≡ kept_words (take n text ∷ parts_after is_between (drop n text))) (sym is) (ap kept_words (split_front is_between text))

-- a word without a byte is none
pub word_skipped : (text : Text) (at : ℕ) → at ≡ position_or_len is_between text → (length (take at text) == 0) ≡ true → words_listed text ≡ words_listed (beyond text at)
word_skipped text at is none =
    words_front text at is ∙ keep_by (take at text) (parts_after is_between (drop at text)) true none ∙ next_words (drop at text)

pub word_taken : (text : Text) (at : ℕ) → at ≡ position_or_len is_between text → (length (take at text) == 0) ≡ false → words_listed text ≡ take at text ∷ words_listed (beyond text at)
word_taken text at is some =
    words_front text at is ∙ keep_by (take at text) (parts_after is_between (drop at text)) false some
    ∙ ap (λ ws. take at text ∷ ws) (next_words (drop at text))

-- these numbers were read of a text, and this is left of it
pub record Reads (text rest : Text) (order : List ℕ) : Type 0 where
  pub more : (ns : List ℕ) → AreThreads (words_listed rest) ns → AreThreads (words_listed text) (order ++ ns)
  pub only : (ns : List ℕ) → AreThreads (words_listed text) ns → (ms : List ℕ) × AreThreads (words_listed rest) ms

pub reads_start : (text : Text) → Reads text text []
reads_start text = record { more = λ ns are. are; only = λ ns are. (ns, are) }

pub reads_on : (text rest next : Text) (order : List ℕ) → Reads text rest order → words_listed rest ≡ words_listed next → Reads text next order
reads_on text rest next order reads same = record {
  more = λ ns are. reads.more ns (subst (λ ws. AreThreads ws ns) (sym same) are);
  only = λ ns are. let left = reads.only ns are in (left.0, subst (λ ws. AreThreads ws left.0) same left.1);
}

rest_of : (word : Text) (words : List Text) (ms : List ℕ) → AreThreads (word ∷ words) ms → (ns : List ℕ) × AreThreads words ns
rest_of word words [] are = absurd are
rest_of word words (m ∷ ms) are = (ms, are.1)

pub reads_one : (text rest next word : Text) (order : List ℕ) (n : ℕ) → Reads text rest order → words_listed rest ≡ word ∷ words_listed next → IsDecimal word n → Reads text next (order ++ n ∷ [])
reads_one text rest next word order n reads same is = record {
  more = λ ns are. subst (AreThreads (words_listed text)) (sym (append_assoc order (n ∷ []) ns)) (reads.more (n ∷ ns) (subst (λ ws. AreThreads ws (n ∷ ns)) (sym same) (is, are)));
  only = λ ns are. let left = reads.only ns are in rest_of word (words_listed next) left.0 (subst (λ ws. AreThreads ws left.0) same left.1);
}

no_number : (word : Text) (words : List Text) → ((n : ℕ) → IsDecimal word n → ⊥) → (ms : List ℕ) → AreThreads (word ∷ words) ms → ⊥
no_number word words none [] are = are
no_number word words none (m ∷ ms) are = none m are.0

pub reads_none : (text rest next word : Text) (order : List ℕ) → Reads text rest order → words_listed rest ≡ word ∷ words_listed next → ((n : ℕ) → IsDecimal word n → ⊥) → (ns : List ℕ) → IsListedOrder text ns → ⊥
reads_none text rest next word order reads same none ns are = let left = reads.only ns are in no_number word (words_listed next) none left.0 (subst (λ ws. AreThreads ws left.0) same left.1)

ended : (text rest : Text) (order : List ℕ) → Reads text rest order → rest ≡ [] → IsListedOrder text (order ++ [])
ended text rest order reads none = reads.more [] (subst (λ r. AreThreads (words_listed r) []) (sym none) tt)

pub reads_end : (text rest : Text) (order : List ℕ) → Reads text rest order → length rest ≡ 0 → IsListedOrder text order
reads_end text [] order reads none = subst (AreThreads (words_listed text)) (append-nil order) (ended text [] order reads refl)
reads_end text (x ∷ rest) order reads none = absurd (omega (arith, none))

-- what is left behind a word, as the slices of the loop give it
next_of : (rest more : Text) (at k : ℕ) → more ≡ drop at rest → k ≡ min (length more) 1 → take (length more - k) (drop k more) ≡ beyond rest at
next_of rest more at k back is = take_rest more k ∙ ap (λ n. drop n more) is ∙ ap (λ (m : Text). drop (min (length m) 1) m) back

pub skipped_next : (text rest word more : Text) (order : List ℕ) (at k : ℕ) → Reads text rest order → at ≡ position_or_len is_between rest → word ≡ take at rest → more ≡ drop at rest → k ≡ min (length more) 1 → (length word == 0) ≡ true → Reads text (take (length more - k) (drop k more)) order
skipped_next text rest word more order at k reads place front back is none =
    subst (λ r. Reads text r order) (sym (next_of rest more at k back is))
    (reads_on text rest (beyond rest at) order reads (word_skipped rest at place (ap (λ (w : Text). length w == 0) (sym front) ∙ none)))

word_is : (rest word : Text) (at : ℕ) → at ≡ position_or_len is_between rest → word ≡ take at rest → (length word == 0) ≡ false → words_listed rest ≡ word ∷ words_listed (beyond rest at)
word_is rest word at place front some =
    word_taken rest at place (ap (λ (w : Text). length w == 0) (sym front) ∙ some) ∙ ap (λ (w : Text). w ∷ words_listed (beyond rest at)) (sym front)

pub taken_next : (text rest word more : Text) (order items : List ℕ) (at k n : ℕ) → Reads text rest order → at ≡ position_or_len is_between rest → word ≡ take at rest → more ≡ drop at rest → k ≡ min (length more) 1 → (length word == 0) ≡ false → IsDecimal word n → items ≡ order ++ n ∷ [] → Reads text (take (length more - k) (drop k more)) items
taken_next text rest word more order items at k n reads place front back is some decimal pushed =
    subst (λ ns. Reads text (take (length more - k) (drop k more)) ns) (sym pushed)
    (subst (λ r. Reads text r (order ++ n ∷ [])) (sym (next_of rest more at k back is))
    (reads_one text rest (beyond rest at) word order n reads (word_is rest word at place front some) decimal))

pub none_next : (text rest word : Text) (order : List ℕ) (at : ℕ) → Reads text rest order → at ≡ position_or_len is_between rest → word ≡ take at rest → (length word == 0) ≡ false → ((n : ℕ) → IsDecimal word n → ⊥) → (ns : List ℕ) → IsListedOrder text ns → ⊥
none_next text rest word order at reads place front some none = reads_none text rest (beyond rest at) word order reads (word_is rest word at place front some) none

-- digits are bytes below 128
digits_ascii : (ds : Text) → AllDigits 10 ds → IsAscii ds
digits_ascii ds all = IsAscii-from_reads ds (length ds) (omega arith) (λ k lt. let r = digit_at ds k all lt in omega (arith, r.0, r.1))

pub decimal_is_text : (word : Text) (n : ℕ) → IsDecimal word n → IsUtf8 word
decimal_is_text word n is = IsUtf8-from_ascii word (digits_ascii word is.0.1)
