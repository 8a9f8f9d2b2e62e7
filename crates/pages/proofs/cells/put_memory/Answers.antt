use Rattle.std.proofs.Common.{[], ◌∷◌, ap}
use Rattle.std.specs.Prelude.{slice_index, slice_index_or}
use Rattle.lex.specs.declared.token.Scalar.TheVariants.{Int}
use Rattle.pages.specs.Data.{word_token}
use Rattle.pages.proofs.Writing.{next_counted, same_tokens}
use Rattle.pages.proofs.cells.put_memory.Goals as goal

pub words-preserved : goal.words-preserved
words-preserved g c =
    next_counted (λ k. word_token (slice_index_or c.args.types.now k Int) (slice_index c.args.words.now k)) c.words.cell c.words.invariant
    (same_tokens (word_token c.type_of.result (slice_index c.args.words.now c.words.cell) ∷ []) _ (ap (λ t. word_token t (slice_index c.args.words.now c.words.cell) ∷ []) c.type_of.ensures) c.in_ok-put_word.ensures)
