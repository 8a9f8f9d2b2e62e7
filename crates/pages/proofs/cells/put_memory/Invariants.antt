use Rattle.std.proofs.Common.{map}
use Rattle.std.specs.Prelude.{slice_index, slice_index_or}
use Rattle.std.specs.List.{range_with_len}
use Rattle.lex.specs.declared.token.Scalar.TheVariants.{Int}
use Rattle.pages.specs.Data.{Appends, word_token}
use Rattle.pages.proofs.cells.put_memory.Given as goal

-- the numbers in the first cells are written
abbrev pub invariant-words : goal.invariant-words
invariant-words g l =
    Appends l.initial.to l.to
    (map (λ c. word_token (slice_index_or l.types c Int) (slice_index l.words c)) (range_with_len 0 l.cell))
