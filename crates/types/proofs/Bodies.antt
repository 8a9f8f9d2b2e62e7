-- One body more.
use Rattle.std.proofs.Common.{◌≡◌, ℕ, List, [], ◌∷◌, ◌++◌, Option, Some, None, Bool, true, false, ◌||◌, refl, sym, ap, ◌∙◌, is_some, is_none, not, ◌&&◌, option_map, unwrap_or, bytes_eq, if◌then◌else◌}
use Rattle.std.specs.Option.{option_or}
use Rattle.syntax.specs.Tree.{Item, Defines, Stmts}
use Rattle.syntax.specs.declared.tree.Function as Own
use Rattle.syntax.specs.Views.{function_of, stmts_of}
use Rattle.syntax.specs.Types.{Known}
use Rattle.syntax.specs.Typing.{has_name, defined_names, may_be_function}
use Rattle.name_tables.specs.Named.{first, with_declaration}
use Rattle.name_tables.specs.Known.{entries_in}
use Rattle.name_tables.specs.declared.entries.Table.{Table}
use Rattle.name_tables.proofs.Firsts.{first_declared}
use Rattle.types.specs.inner.Bodies.{AreBodies}
use Rattle.types.proofs.Files.{defined_append}

pub or_none : (r : Bool) → r ≡ (r || false)
or_none true = refl
or_none false = refl

or_some : {V : Type 0} (o : Option V) (b : Bool) (v : V) → is_some (option_or o (if b then Some v else None)) ≡ (is_some o || (b || false))
or_some None true v = refl
or_some None false v = refl
or_some (Some w) b v = refl

with_body : {X : Type 0} (f : X → Stmts) (o : Option X) (n x : List ℕ) → is_some o ≡ true → has_name (unwrap_or (option_map (λ b. n ∷ []) (option_map f o)) []) x ≡ (bytes_eq n x || false)
with_body f None n x h = absurd cc
with_body f (Some b) n x h = refl

no_body : {X : Type 0} (f : X → Stmts) (o : Option X) (n x : List ℕ) → is_some o ≡ false → has_name (unwrap_or (option_map (λ b. n ∷ []) (option_map f o)) []) x ≡ false
no_body f None n x h = refl
no_body f (Some b) n x h = absurd cc

module _ {B V A : Type 0} (earlier : List Item) (f : Own.Function B) where
  pub body_more : (old new : Table V A) (x : List ℕ) (v : V) → entries_in new ≡ with_declaration (entries_in old) x v → x ≡ f.name.text → is_some f.body ≡ true → AreBodies old earlier → AreBodies new (earlier ++ Defines (function_of f) ∷ [])
  body_more old new n v e name body h = λ x.
      ap (λ es. is_some (first es x)) e ∙ ap is_some (first_declared (entries_in old) n v x) ∙ or_some (first (entries_in old) x) (bytes_eq n x) v
      ∙ ap (λ r. r || (bytes_eq n x || false)) (h x)
      ∙ ap (λ m. has_name (defined_names earlier) x || (bytes_eq m x || false)) name
      ∙ ap (λ r. has_name (defined_names earlier) x || r) (sym (with_body stmts_of f.body f.name.text x body))
      ∙ sym (defined_append earlier (Defines (function_of f) ∷ []) x)

  pub body_same : (old : Table V A) → is_some f.body ≡ false → AreBodies old earlier → AreBodies old (earlier ++ Defines (function_of f) ∷ [])
  body_same old body h = λ x.
      h x ∙ or_none (has_name (defined_names earlier) x)
      ∙ ap (λ r. has_name (defined_names earlier) x || r) (sym (no_body stmts_of f.body f.name.text x body))
      ∙ sym (defined_append earlier (Defines (function_of f) ∷ []) x)

-- a name that is free, by whether there is a body
pub free_right : {X : Type 0} (f : X → Stmts) (k : Known) (o : Option X) (d : Bool) → (may_be_function k && (not (is_some o) || not d)) ≡ (may_be_function k && (is_none (option_map f o) || not d))
free_right f k None d = refl
free_right f k (Some b) d = refl
