-- The arguments of a print.
use Rattle.std.specs.Prelude.{Bool, ◌||◌, Option, is_none}
use Rattle.syntax.specs.Tree.{Scalar}
use Rattle.syntax.specs.Typing.{is_type}

-- an argument fits a specifier if it has this type, or no value
abbrev pub is_fitting : Scalar → Option Scalar → Bool
is_fitting t given = is_none given || is_type t given
