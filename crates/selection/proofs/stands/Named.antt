-- What the names of a typed program stand for.
use Rattle.std.proofs.Common.{◌≡◌, refl, ap, subst, ◌∙◌, ℕ, ◌+◌, ◌<◌, List, [], ◌∷◌, length, arith, Option, Some, None, Bool, true, false, not, IsTrue}
use Rattle.std.specs.Prelude.{if◌then◌else◌, bytes_eq, option_map, unwrap_or}
use Rattle.std.specs.Option.{option_or}
use Rattle.lex.specs.declared.token.Scalar.{Scalar}
use Rattle.syntax.specs.Tree.{Stmts, Function, Program}
use Rattle.syntax.specs.Names.{Local, GlobalCells, newest_from, newest, global_of, definition_of}
use Rattle.syntax.specs.Types.{Known, Unknown, Number, Array, Callable, number_type, known_function, file_scope, running_scope}
use Rattle.syntax.specs.Typing.{is_unknown, may_be_number, may_be_array, may_be_function, IsTypedProgram}
use Rattle.syntax.proofs.typing.ValueTypes.{shared_type, Found, found}
use Rattle.syntax.proofs.typing.Called.{called_are_defined}

abbrev own_or_none : Bool → ℕ → Scalar → Option (ℕ × Scalar)
own_or_none b i t = if b then Some (i, t) else None

-- a local that is found is one of them
newest_below : (i : ℕ) (ls : List Local) (x : List ℕ) (n : ℕ) (t : Scalar) → newest_from i ls x ≡ Some (n, t) → n < i + length ls
newest_below i [] x n t e = absurd (cc)
newest_below i (l ∷ ls) x n t e = by (newest_from (i + 1) ls x) (bytes_eq l.name x) (λ f. let h = newest_below (i + 1) ls x n t f in omega (arith, h)) e
  where
    here : (b : Bool) → (own_or_none b i l.ty) ≡ Some (n, t) → n < i + length (l ∷ ls)
    here true f = let g : i ≡ n = ap (λ (o : Option (ℕ × Scalar)). (unwrap_or o (0, t)).0) f in omega (arith, g)
    here false f = absurd (cc)

    by : (o : Option (ℕ × Scalar)) (b : Bool) → (o ≡ Some (n, t) → n < i + length (l ∷ ls)) → option_or o (own_or_none b i l.ty) ≡ Some (n, t) → n < i + length (l ∷ ls)
    by None b h f = here b f
    by (Some m) b h f = h f

-- a variable: one of the locals, or a global
abbrev pub VariableFound : (locals : ℕ) → Option (ℕ × Scalar) → Option GlobalCells → Scalar → Type 0
VariableFound locals (Some l) g t = (l.0 < locals) × (l.1 ≡ t)
VariableFound locals None (Some g) t = g.global.ty ≡ t
VariableFound locals None None t = ⊥

module _ (p : Program) (scope : List Local) where
  abbrev over : Option (ℕ × Scalar) → List ℕ → Known
  over o x = unwrap_or (option_map (λ l. Number l.1) o) (file_scope p x)

  number_is : (s t : Scalar) → Number s ≡ Number t → s ≡ t
  number_is s t e = ap (λ k. unwrap_or (number_type k) s) e

  pub variable_found : (x : List ℕ) (t : Scalar) → running_scope p scope x ≡ Number t → VariableFound (length scope) (newest scope x) (global_of p x) t
  variable_found x t e = by (newest scope x) refl (global_of p x) refl e
    where
      by_global : (g : Option GlobalCells) → Found g t → VariableFound (length scope) None g t
      by_global None h = absurd (cc h.1)
      by_global (Some g) h = let f : g ≡ h.0 = ap (λ o. unwrap_or o g) h.1 in ap (λ k. k.global.ty) f ∙ h.2

      by : (o : Option (ℕ × Scalar)) → newest scope x ≡ o → (g : Option GlobalCells) → global_of p x ≡ g → over o x ≡ Number t → VariableFound (length scope) o g t
      by (Some l) n g m f = (let h = newest_below 0 scope x l.0 l.1 n in omega (arith, h), number_is l.1 t f)
      by None n g m f = by_global g (subst (λ o. Found o t) m (found p x t (ap shared_type f)))

  pub array_found : (x : List ℕ) (t : Scalar) (n : ℕ) → running_scope p scope x ≡ Array t n → Found (global_of p x) t
  array_found x t n e = by (newest scope x) e
    where
      by : (o : Option (ℕ × Scalar)) → over o x ≡ Array t n → Found (global_of p x) t
      by (Some l) f = absurd (cc)
      by None f = found p x t (ap shared_type f)

  pub function_found : IsTypedProgram p → (x : List ℕ) (result : Option Scalar) (takes : List Scalar) → running_scope p scope x ≡ Callable result takes →
      (d : Function × Stmts) × (definition_of p x ≡ Some d) × (known_function d.0 ≡ Callable result takes)
  function_found h x result takes e = called_are_defined p h x result takes (by (newest scope x) e)
    where
      by : (o : Option (ℕ × Scalar)) → over o x ≡ Callable result takes → file_scope p x ≡ Callable result takes
      by (Some l) f = absurd (cc)
      by None f = f

-- what a name is known as, by what is asked of it
pub known_number : (k : Known) → IsTrue (not (is_unknown k)) → IsTrue (may_be_number k) → (t : Scalar) × (k ≡ Number t)
known_number Unknown g h = absurd (cc)
known_number (Number t) g h = (t, refl)
known_number (Array t n) g h = absurd (cc)
known_number (Callable r ts) g h = absurd (cc)

pub known_array : (k : Known) → IsTrue (not (is_unknown k)) → IsTrue (may_be_array k) → (t : Scalar) × (n : ℕ) × (k ≡ Array t n)
known_array Unknown g h = absurd (cc)
known_array (Number t) g h = absurd (cc)
known_array (Array t n) g h = (t, n, refl)
known_array (Callable r ts) g h = absurd (cc)

pub known_callable : (k : Known) → IsTrue (not (is_unknown k)) → IsTrue (may_be_function k) → (result : Option Scalar) × (takes : List Scalar) × (k ≡ Callable result takes)
known_callable Unknown g h = absurd (cc)
known_callable (Number t) g h = absurd (cc)
known_callable (Array t n) g h = absurd (cc)
known_callable (Callable r ts) g h = (r, ts, refl)
