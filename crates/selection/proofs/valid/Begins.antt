-- The begins that are open along a list of instructions, read off the list itself: a begin opens one more, and a commit
-- leaves the innermost.
use Rattle.std.proofs.Common.{◌≡◌, refl, ap, subst, ◌∙◌, ℕ, suc, ◌+◌, List, [], ◌∷◌, ◌++◌, length, drop, arith}
use Rattle.bytecode.specs.declared.instr.Instr.{Instr}
use Rattle.bytecode.specs.Code.{Instr as Plain}
use Rattle.bytecode.specs.Views.{instr_of}

-- the open begins behind an instruction, of those in front of it
abbrev pub through : Plain → ℕ → List ℕ → List ℕ
through (Plain.Begin to) q bs = q ∷ bs
through Plain.Commit q bs = drop 1 bs
through i q bs = bs

-- these begins are open at a place and those behind it
module _ (open_at : ℕ → List ℕ) where
  abbrev pub Are : ℕ → List (List ℕ) → Type 0
  Are q [] = Unit {0}
  Are q (bs ∷ rest) = (open_at q ≡ bs) × Are (suc q) rest

  pub are_front : (q : ℕ) (a b : List (List ℕ)) → Are q (a ++ b) → Are q a
  are_front q [] b h = tt
  are_front q (bs ∷ a) b h = (h.0, are_front (suc q) a b h.1)

  pub are_behind : (q to : ℕ) (a b : List (List ℕ)) → to ≡ q + length a → Are q (a ++ b) → Are to b
  are_behind q to [] b e h = let f : q ≡ to = omega (arith, e) in subst (λ n. Are n b) f h
  are_behind q to (bs ∷ a) b e h = let f : to ≡ suc q + length a = omega (arith, e) in are_behind (suc q) to a b f h.1

module _ (arguments : List ℕ) where
  -- those in front of each instruction
  abbrev pub opens : ℕ → List ℕ → List Instr → List (List ℕ)
  opens q bs [] = []
  opens q bs (i ∷ is) = bs ∷ opens (suc q) (through (instr_of arguments i) q bs) is

  -- and those behind the last one
  abbrev pub left_open : ℕ → List ℕ → List Instr → List ℕ
  left_open q bs [] = bs
  left_open q bs (i ∷ is) = left_open (suc q) (through (instr_of arguments i) q bs) is

  -- what is opened is left again
  abbrev pub IsBalanced : List Instr → Type 0
  IsBalanced is = (q : ℕ) (bs : List ℕ) → left_open q bs is ≡ bs

  pub opens_many : (q : ℕ) (bs : List ℕ) (is : List Instr) → length (opens q bs is) ≡ length is
  opens_many q bs [] = refl
  opens_many q bs (i ∷ is) = ap suc (opens_many (suc q) (through (instr_of arguments i) q bs) is)

  pub left_append : (q : ℕ) (bs : List ℕ) (a b : List Instr) → left_open q bs (a ++ b) ≡ left_open (q + length a) (left_open q bs a) b
  left_append q bs [] b = let same : q ≡ q + 0 = omega arith in ap (λ n. left_open n bs b) same
  left_append q bs (i ∷ a) b =
      let more : List ℕ = through (instr_of arguments i) q bs in
      let same : suc q + length a ≡ q + suc (length a) = omega arith in
      left_append (suc q) more a b ∙ ap (λ n. left_open n (left_open (suc q) more a) b) same

  pub balanced_append : (a b : List Instr) → IsBalanced a → IsBalanced b → IsBalanced (a ++ b)
  balanced_append a b h g = λ q bs. left_append q bs a b ∙ g (q + length a) (left_open q bs a) ∙ h q bs

  module _ (open_at : ℕ → List ℕ) where
    pub opens_split : (q mid : ℕ) (bs : List ℕ) (a b : List Instr) → mid ≡ q + length a → Are open_at q (opens q bs (a ++ b)) → Are open_at q (opens q bs a) × Are open_at mid (opens mid (left_open q bs a) b)
    opens_split q mid bs [] b e h = let same : q ≡ mid = omega (arith, e) in (tt, subst (λ n. Are open_at n (opens n bs b)) same h)
    opens_split q mid bs (i ∷ a) b e h = let r = opens_split (suc q) mid (through (instr_of arguments i) q bs) a b (omega (arith, e)) h.1 in ((h.0, r.0), r.1)

    -- at the first place those are open that the text begins with, be it empty or not
    pub opens_first : (q to : ℕ) (bs : List ℕ) (is : List Instr) → to ≡ q + length is → Are open_at q (opens q bs is) → open_at to ≡ bs → open_at q ≡ bs
    opens_first q to bs [] e are out = let same : to ≡ q = omega (arith, e) in subst (λ n. open_at n ≡ bs) same out
    opens_first q to bs (i ∷ is) e are out = are.0
