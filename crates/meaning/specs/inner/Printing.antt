-- Printing a format byte by byte.
use Rattle.std.specs.Prelude.{ℕ, List, [], ◌∷◌, Bool, true, false}
use Rattle.std.specs.Fmt.{signed_decimal}
use Rattle.syntax.specs.Tree.{Scalar}
use Rattle.syntax.specs.declared.value.Value.{Value}
use Rattle.syntax.specs.Numbers.{number}
use Rattle.syntax.specs.declared.thread_end.Halt.TheVariants.{Astray}
use Rattle.syntax.specs.Actions.{Action, stop, tick, write, print_piece, ◌>>◌}
use Rattle.syntax.specs.Formats.{Piece, Literal}
use Rattle.syntax.specs.Meaning.{print_pieces}

-- one byte of a literal piece, which is open already or starts with it
abbrev pub push_byte : Bool → ℕ → Action (Unit {0})
push_byte true c = write (c ∷ [])
push_byte false c = tick >> write (c ∷ [])

-- the first value, as a number of this type
abbrev pub specifier : Scalar → List Value → Action (Unit {0})
specifier t [] = stop Astray
specifier t (v ∷ vs) = print_piece (signed_decimal (number t v.word))

-- pieces of which the first, if it is literal, may be open already
abbrev pub print_from : Bool → List Piece → List Value → Action (Unit {0})
print_from true (Literal cs ∷ ps) vs = write cs >> print_pieces ps vs
print_from true ps vs = print_pieces ps vs
print_from false ps vs = print_pieces ps vs
