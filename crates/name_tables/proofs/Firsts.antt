-- What a table finds.
use denote.Ref.{Bor}
use Rattle.std.proofs.Common.{◌≡◌, ℕ, List, [], ◌∷◌, ◌++◌, Bool, not, true, false, cond, refl, sym, ap, ◌∙◌, map, bytes_eq, if◌then◌else◌, is_some, Option, Some, None, true≢false, position, nat_lt, length, suc, ◌+◌}
use Rattle.std.proofs.lemmas.Cmp.{nat_list_eq_equiv}
use Rattle.std.specs.List.{position_or_len}
use Rattle.std.proofs.lemmas.Slice.Eq.{bytes_eq-Decides}
use Rattle.std.specs.Option.{option_or}
use Rattle.std.specs.Map.{lookup, keys_of}
use Rattle.name_tables.specs.Named.{first, first_index, with_declaration}
use Rattle.name_tables.specs.Known.{entry_of}

module _ {V : Type 0} where
  -- the first declaration of a name is the one that a look-up finds
  pub firsts : (es : List (Bor (List ℕ) × V)) (x : List ℕ) → lookup (λ k. bytes_eq x k.now) es ≡ first (map entry_of es) x
  firsts [] x = refl
  firsts (e ∷ es) x = ap (λ b. cond b (Some e.1) (lookup (λ k. bytes_eq x k.now) es)) (nat_list_eq_equiv.symm x e.0.now) ∙ by (bytes_eq e.0.now x) (firsts es x)
    where
      by : (b : Bool) → lookup (λ k. bytes_eq x k.now) es ≡ first (map entry_of es) x → cond b (Some e.1) (lookup (λ k. bytes_eq x k.now) es) ≡ (if b then Some e.1 else first (map entry_of es) x)
      by true h = refl
      by false h = h

  -- and the index too
  pub indices : (es : List (Bor (List ℕ) × V)) (x : List ℕ) → position (λ k. bytes_eq x k.now) (keys_of es) ≡ first_index (map entry_of es) x
  indices es x = ap (λ n. cond (nat_lt n (length (keys_of es))) (Some n) None) (lens es) ∙ ap (λ n. cond (nat_lt (position_or_len (bytes_eq x) (map (λ e. e.0) (map entry_of es))) n) (Some (position_or_len (bytes_eq x) (map (λ e. e.0) (map entry_of es)))) None) (sizes es)
    where
      lens : (es : List (Bor (List ℕ) × V)) → position_or_len (λ k. bytes_eq x k.now) (keys_of es) ≡ position_or_len (bytes_eq x) (map (λ e. e.0) (map entry_of es))
      lens [] = refl
      lens (e ∷ es) = ap (λ n. cond (not (bytes_eq x e.0.now)) (1 + n) 0) (lens es)

      sizes : (es : List (Bor (List ℕ) × V)) → length (keys_of es) ≡ length (map (λ e. e.0) (map entry_of es))
      sizes [] = refl
      sizes (e ∷ es) = ap suc (sizes es)

  -- a name that is there, and one that is new
  pub unchanged : (es : List (List ℕ × V)) (x : List ℕ) (v : V) → is_some (first es x) ≡ true → es ≡ with_declaration es x v
  unchanged es x v h = sym (ap (λ b. if b then es else es ++ (x, v) ∷ []) h)

  pub added : (es : List (List ℕ × V)) (x : List ℕ) (v : V) → is_some (first es x) ≡ false → es ++ (x, v) ∷ [] ≡ with_declaration es x v
  added es x v h = sym (ap (λ b. if b then es else es ++ (x, v) ∷ []) h)

  pub absent : (o : Option V) → is_some o ≡ false → o ≡ None
  absent None h = refl
  absent (Some v) h = absurd (true≢false h)

  first_last : (es : List (List ℕ × V)) (n : List ℕ) (v : V) (x : List ℕ) → first (es ++ (n, v) ∷ []) x ≡ option_or (first es x) (if bytes_eq n x then Some v else None)
  first_last [] n v x = refl
  first_last (e ∷ es) n v x = by (bytes_eq e.0 x) (first_last es n v x)
    where
      by : (b : Bool) → first (es ++ (n, v) ∷ []) x ≡ option_or (first es x) (if bytes_eq n x then Some v else None)
          → (if b then Some e.1 else first (es ++ (n, v) ∷ []) x) ≡ option_or (if b then Some e.1 else first es x) (if bytes_eq n x then Some v else None)
      by true h = refl
      by false h = h

  known : (o : Option V) (w : Option V) → is_some o ≡ true → o ≡ option_or o w
  known None w h = absurd (true≢false (sym h))
  known (Some v) w h = refl

  nothing : (o : Option V) → o ≡ option_or o None
  nothing None = refl
  nothing (Some v) = refl

  -- after a declaration a look-up finds what it found before, and else this one
  pub first_declared : (es : List (List ℕ × V)) (n : List ℕ) (v : V) (x : List ℕ) → first (with_declaration es n v) x ≡ option_or (first es x) (if bytes_eq n x then Some v else None)
  first_declared es n v x = by (is_some (first es n)) refl
    where
      there : is_some (first es n) ≡ true → (b : Bool) → bytes_eq n x ≡ b → first es x ≡ option_or (first es x) (if b then Some v else None)
      there h true e = known (first es x) (Some v) (ap (λ y. is_some (first es y)) (sym ((bytes_eq-Decides n x).0 e)) ∙ h)
      there h false e = nothing (first es x)

      by : (b : Bool) → is_some (first es n) ≡ b → first (if b then es else es ++ (n, v) ∷ []) x ≡ option_or (first es x) (if bytes_eq n x then Some v else None)
      by true h = there h (bytes_eq n x) refl
      by false h = first_last es n v x
