-- Loops over lists that are seen item by item.
use Rattle.std.proofs.Common.{◌≡◌, ℕ, ◌+◌, ◌<◌, ◌≤◌, Bool, true, false, List, length, map, get_or, Some, refl, sym, ap, ◌∙◌, subst, arith, inl, inr}
use Rattle.std.specs.Prelude.{slice_get, option_map, IsTrue, ◌↔◌}
use Rattle.std.proofs.lemmas.List.{length-map, get_or_default}
use Rattle.std.proofs.lemmas.Option.{slice_get-map, slice_get_read, slice_get_within}
use Rattle.bytecode.proofs.Tables.{some_same}
use Rattle.bytecode.proofs.Arrivals.{equal_or_not}

-- an item of a lent list, in the view of the whole
pub has_item : {X Y : Type 0} (v : X → Y) (xs s : List X) (n : ℕ) (x : X) → s ≡ xs → x ≡ get_or s n x → n < length s → slice_get (map v xs) n ≡ Some (v x)
has_item v xs s n x e g h =
    subst (λ l. slice_get (map v l) n ≡ Some (v x)) e (slice_get-map v s n ∙ ap (option_map v) (slice_get_read s (length s) n x refl h g))

pub has_plain : {X Y : Type 0} (v : X → Y) (xs s : List X) (n : ℕ) (d : X) → s ≡ xs → n < length s → slice_get (map v xs) n ≡ Some (v (get_or s n d))
has_plain v xs s n d e h = has_item v xs s n (get_or s n d) e (get_or_default s n d (get_or s n d) h) h

-- what holds of the first items and of the next one
pub one_more : {Y : Type 0} (P : ℕ → Y → Type 0) (ys : List Y) (k : ℕ) (y : Y) → slice_get ys k ≡ Some y → P k y → ((n : ℕ) (z : Y) → n < k → slice_get ys n ≡ Some z → P n z) → (n : ℕ) (z : Y) → n < k + 1 → slice_get ys n ≡ Some z → P n z
one_more P ys k y at here below n z lt e = elim (equal_or_not n k) [
  | inl same ↦ subst (λ m. P m z) (sym same) (subst (P k) (some_same y z (sym at ∙ ap (slice_get ys) (sym same) ∙ e)) here)
  | inr other ↦ below n z (omega (arith, lt, other)) e
]

-- an item that is there is among the first ones, where these are all
pub among_all : {X Y : Type 0} (v : X → Y) (xs s : List X) (n k : ℕ) (y : Y) → s ≡ xs → length s ≤ k → slice_get (map v xs) n ≡ Some y → n < k
among_all v xs s n k y e h at =
    let a = slice_get_within (map v xs) n y at in
    let b = length-map xs v in
    let c = ap length e in
    omega (arith, a, b, c, h)

-- answers of tests
pub denied : (b : Bool) (P Q : Type 0) → b ≡ false → IsTrue b ↔ P → (Q → P) → IsTrue false ↔ Q
denied b P Q e h f = (λ t. cc t, λ q. subst IsTrue e (h.1 (f q)))

pub affirmed : (b : Bool) (P : Type 0) → b ≡ true → IsTrue b ↔ P → P
affirmed b P e h = h.0 e
