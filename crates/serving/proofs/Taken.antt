-- Bytes that were read up to a limit, but do not reach it, are all bytes.
use Rattle.std.proofs.Common.{◌≡◌, ◌∙◌, ◌<◌, ℕ, List, [], ◌++◌, Option, Some, None, take, length, arith, ap, subst}
use Rattle.std.specs.Prelude.{IfSome, min, option_map}
use Rattle.std.specs.Io.Take.{take_limit, take_inner, take_remaining}
use Rattle.std.specs.declared.io.traits.Take.{Take}
use Rattle.std.proofs.lemmas.List.{length-take, take_all}
use Rattle.serving.specs.declared.files.SourceText.{SourceText}
use Rattle.serving.specs.Sources.{IsTextOf}

taken_known : (known : Option (List ℕ)) (n : ℕ) (before ys : List ℕ) → before ≡ [] → IfSome (option_map (take n) known) (λ xs. ys ≡ before ++ xs) → IfSome known (λ xs. ys ≡ take n xs)
taken_known None n before ys empty is = tt
taken_known (Some xs) n before ys empty is = is ∙ ap (λ b. b ++ take n xs) empty

-- a reader with a limit returns what the reader returns up to the limit
pub taken_of : {R : Type 0} (remaining : R → Option (List ℕ)) (t : Take R) (n : ℕ) (source : R) (before ys : List ℕ) → take_limit t ≡ n → take_inner t ≡ source → before ≡ [] → IfSome (take_remaining remaining t) (λ xs. ys ≡ before ++ xs) → IfSome (remaining source) (λ xs. ys ≡ take n xs)
taken_of remaining t n source before ys limit inner empty is =
    let here = taken_known (remaining (take_inner t)) (take_limit t) before ys empty is in
    let there = subst (λ m. IfSome (remaining (take_inner t)) (λ xs. ys ≡ take m xs)) limit here in
    subst (λ s. IfSome (remaining s) (λ xs. ys ≡ take n xs)) inner there

all_taken : (n : ℕ) (xs ys : List ℕ) → ys ≡ take n xs → length ys < n → ys ≡ xs
all_taken n xs ys is short =
    let counted : length ys ≡ min n (length xs) = ap length is ∙ length-take n xs in
    is ∙ take_all n xs (omega (arith, counted, short))

-- bytes that were read completely are the known ones
pub bytes_taken : (known : Option (List ℕ)) (n : ℕ) (ys : List ℕ) → IfSome known (λ xs. ys ≡ take n xs) → length ys < n → IfSome known (λ xs. ys ≡ xs)
bytes_taken None n ys is short = tt
bytes_taken (Some xs) n ys is short = all_taken n xs ys is short

-- a text that was read completely is that of the known bytes
pub text_taken : {A : Type 0} (known : Option (List ℕ)) (n : ℕ) (ys : List ℕ) (s : SourceText A) → IfSome known (λ xs. ys ≡ take n xs) → length ys < n → IsTextOf ys s → IfSome known (λ xs. IsTextOf xs s)
text_taken None n ys s is short text = tt
text_taken (Some xs) n ys s is short text = subst (λ zs. IsTextOf zs s) (all_taken n xs ys is short) text

-- the bytes that were read are no longer than the available ones
pub as_long : (known : Option (List ℕ)) (n most : ℕ) (ys : List ℕ) → IfSome known (λ xs. ys ≡ take n xs) → most < length ys → IfSome known (λ xs. most < length xs)
as_long None n most ys is long = tt
as_long (Some xs) n most ys is long =
    let counted : length ys ≡ min n (length xs) = ap length is ∙ length-take n xs in
    omega (arith, counted, long)
