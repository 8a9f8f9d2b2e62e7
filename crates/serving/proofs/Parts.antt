-- Prefixes of texts that are written.
use Rattle.std.proofs.Common.{◌≡◌, ◌≢◌, ◌∙◌, ◌⊎◌, ◌+◌, ◌-◌, ◌<◌, ◌≤◌, ◌++◌, ◌∷◌, [], arith, ℕ, List, Option, None, Some, length, take, drop, get_or, inl, inr, ap, subst, sym, append_assoc, append-nil}
use Rattle.std.specs.Prelude.{flat_map}
use Rattle.std.proofs.Math.Seq.{take-add, take-append_seam}
use Rattle.std.proofs.lemmas.Grind.{flat_map-append}
use Rattle.std.proofs.lemmas.List.{length-drop, take_all, take-append-drop, take_more, take_rest}
use Rattle.std.specs.Io.KnownBytes.{Appends, Keeps}
use Rattle.serving.specs.Written.{AppendsBeginning, WritesPart}
use Rattle.serving.proofs.ReplayRuns.{appends_more}

-- more of a text is written, from the rest of it
pub part_more : (a b c : Option (List ℕ)) (n m : ℕ) (text : List ℕ) → Appends a b (take n text) → Appends b c (take m (take (length text - n) (drop n text))) → Appends a c (take (n + m) text)
part_more a b c n m text p q =
    let rest = subst (λ (l : List ℕ). Appends b c (take m l)) (take_rest text n) q in
    subst (Appends a c) (sym (take-add n m text)) (appends_more a b c (take n text) (take m (drop n text)) p rest)

pub part_within : (n m : ℕ) (text : List ℕ) → n ≤ length text → m ≤ length (take (length text - n) (drop n text)) → n + m ≤ length text
part_within n m text h k =
    let left = ap length (take_rest text n) ∙ length-drop n text in
    omega (arith, h, k, left)

-- and nothing more
pub part_unchanged : (a b c : Option (List ℕ)) (bs : List ℕ) → Appends a b bs → Keeps b c → Appends a c bs
part_unchanged None b c bs p q = tt
part_unchanged (Some x) None c bs p q = absurd p
part_unchanged (Some x) (Some y) None bs p q = absurd q
part_unchanged (Some x) (Some y) (Some z) bs p q = q ∙ p

-- a text of one kind is one of another
pub part_so : (IsSo Is : List ℕ → Type 0) (old new : Option (List ℕ)) → ((text : List ℕ) → IsSo text → Is text) → WritesPart IsSo old new → WritesPart Is old new
part_so IsSo Is old new weaker (inl e) = inl e
part_so IsSo Is old new weaker (inr w) = inr (w.0, weaker w.0 w.1, w.2)

-- the status after a text was printed
pub printed_within : (status : ℕ) → (status ≡ 0) ⊎ (status ≡ 4) → status ≤ 4
printed_within status (inl ended) = omega (arith, ended)
printed_within status (inr stopped) = omega (arith, stopped)

pub printed_unrefused : (status : ℕ) → (status ≡ 0) ⊎ (status ≡ 4) → status ≢ 1
printed_unrefused status (inl ended) = λ one. absurd (omega (arith, ended, one))
printed_unrefused status (inr stopped) = λ one. absurd (omega (arith, stopped, one))

-- ---- pieces of a text, one after another

module _ {X : Type 0} (bytes : X → List ℕ) where
  joined_more : (xs : List X) (i : ℕ) (x : X) → x ≡ get_or xs i x → i < length xs → flat_map bytes (take (i + 1) xs) ≡ flat_map bytes (take i xs) ++ bytes x
  joined_more xs i x at lt = ap (flat_map bytes) (take_more xs i x lt ∙ ap (λ y. take i xs ++ y ∷ []) (sym at)) ∙ flat_map-append bytes (take i xs) (x ∷ []) ∙ ap (λ l. flat_map bytes (take i xs) ++ l) (append-nil (bytes x))

  four : (before begun left rest : List ℕ) → (before ++ (begun ++ left)) ++ rest ≡ (before ++ begun) ++ (left ++ rest)
  four before begun left rest = simp append_assoc

  all_of : (xs : List X) (i k : ℕ) (x : X) → x ≡ get_or xs i x → i < length xs → flat_map bytes xs ≡ (flat_map bytes (take i xs) ++ take k (bytes x)) ++ (drop k (bytes x) ++ flat_map bytes (drop (i + 1) xs))
  all_of xs i k x at lt =
      ap (flat_map bytes) (sym (take-append-drop (i + 1) xs))
      ∙ flat_map-append bytes (take (i + 1) xs) (drop (i + 1) xs)
      ∙ ap (λ l. l ++ flat_map bytes (drop (i + 1) xs)) (joined_more xs i x at lt ∙ ap (λ l. flat_map bytes (take i xs) ++ l) (sym (take-append-drop k (bytes x))))
      ∙ four (flat_map bytes (take i xs)) (take k (bytes x)) (drop k (bytes x)) (flat_map bytes (drop (i + 1) xs))

  -- a prefix of one more is written
  pub pieces_part : (a b c : Option (List ℕ)) (xs : List X) (i : ℕ) (x : X) → x ≡ get_or xs i x → i < length xs → Appends a b (flat_map bytes (take i xs)) → AppendsBeginning b c (bytes x) → AppendsBeginning a c (flat_map bytes xs)
  pieces_part a b c xs i x at lt p w =
      let begun = flat_map bytes (take i xs) ++ take w.0 (bytes x) in
      let cut = ap (take (length begun)) (all_of xs i w.0 x at lt) ∙ take-append_seam begun (drop w.0 (bytes x) ++ flat_map bytes (drop (i + 1) xs)) in
      (length begun, subst (Appends a c) (sym cut) (appends_more a b c (flat_map bytes (take i xs)) (take w.0 (bytes x)) p w.1))

  -- all are written
  pub all_pieces : (a b : Option (List ℕ)) (xs : List X) (i : ℕ) → length xs ≤ i → Appends a b (flat_map bytes (take i xs)) → AppendsBeginning a b (flat_map bytes xs)
  all_pieces a b xs i most p =
      let whole = ap (flat_map bytes) (take_all i xs most) in
      let all = take_all (length (flat_map bytes xs)) (flat_map bytes xs) (omega arith) in
      (length (flat_map bytes xs), subst (Appends a b) (whole ∙ sym all) p)
