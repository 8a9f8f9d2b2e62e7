-- The functions of a program that have a body. In `int f(void); int g(void) { .. } int f(void) { .. }` the function g
-- has number 0 and f has number 1.
use Rattle.std.specs.Prelude.{ℕ, suc, List, [], ◌∷◌, Option, Some, None, if◌then◌else◌, bytes_eq}
use Rattle.syntax.specs.Tree.{Stmts, Function, Defines, Shares, Program}

-- a function with its body, and its number among those that have one
pub record NumberedFunction : Type 0 where
  pub number : ℕ
  pub definition : Function × Stmts

-- a function of this name, if it has a body, or else one of the rest
abbrev pub function_first : ℕ → Function → Option Stmts → (ℕ → Option NumberedFunction) → List ℕ →
    Option NumberedFunction
function_first n f None rest x = rest n
function_first n f (Some body) rest x =
    if bytes_eq f.name.text x then Some (record { number = n; definition = (f, body) }) else rest (suc n)

-- the function of this name, if the first one of these items that has a body has this number
abbrev pub function_from : ℕ → Program → List ℕ → Option NumberedFunction
function_from n [] x = None
function_from n (Shares gs ∷ items) x = function_from n items x
function_from n (Defines f ∷ items) x = function_first n f f.body (λ m. function_from m items x) x

abbrev pub function_named : Program → List ℕ → Option NumberedFunction
function_named p x = function_from 0 p x
