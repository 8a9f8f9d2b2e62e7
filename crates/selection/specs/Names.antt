-- What a function's name denotes in code.
use Rattle.std.specs.Prelude.{ℕ, List, Option, option_map, unwrap_or}
use Rattle.lex.specs.declared.token.Scalar.{Scalar}
use Rattle.lex.specs.declared.token.Scalar.TheVariants.{Int}
use Rattle.syntax.specs.Tree.{Parameter, Function, Program}
use Rattle.program_tables.specs.Functions.{NumberedFunction, function_named}

-- a function that may be called: its number among the code's functions, the type of its value, and its parameters
pub record Callee : Type 0 where
  pub number : ℕ
  pub ty : Scalar
  pub parameters : List Parameter

abbrev pub callee_at : ℕ → Function → Callee
callee_at n f = record { number = n; ty = unwrap_or f.result Int; parameters = f.parameters }

abbrev pub callee_by : NumberedFunction → Callee
callee_by f = callee_at f.number f.definition.0

abbrev pub callee_of : Program → List ℕ → Option Callee
callee_of p x = option_map callee_by (function_named p x)
