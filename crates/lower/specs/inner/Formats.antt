-- The code of a format, directive by directive.
use Rattle.std.specs.Prelude.{ℕ, ◌+◌, List, [], ◌∷◌, ◌++◌, length}
use Rattle.lex.specs.declared.token.Scalar.{Scalar}
use Rattle.syntax.specs.Formats.{Piece, literal}
use Rattle.bytecode.specs.declared.instr.Instr.TheVariants as own
use Rattle.selection.specs.Lists.{Lists}
use Rattle.selection.specs.Simples.{Written, nothing_written, one_written, and_then}
use Rattle.selection.specs.Statements.{printing}

-- bytes of literal text before these pieces
abbrev pub with_literal : List ℕ → List Piece → List Piece
with_literal [] ps = ps
with_literal (c ∷ cs) ps = literal c (with_literal cs ps)

-- a literal text, if there is one
abbrev pub text_written : List ℕ → ℕ → Lists → Written
text_written [] from l = nothing_written from l
text_written (c ∷ cs) from l = record {
  code = own.PrintText (length l.texts) ∷ [];
  lists = record l { texts = l.texts ++ (c ∷ cs) ∷ [] };
  to = from + 1;
}

-- a literal text, if there is one, and a number after it
abbrev pub specifier_written : List ℕ → Scalar → ℕ → ℕ → Lists → Written
specifier_written text t r from l =
    let before = text_written text from l in and_then before (one_written (printing t r) before.to before.lists)
