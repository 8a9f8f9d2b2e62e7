use Rattle.std.proofs.Common.{[], get_or}
use Rattle.std.proofs.lemmas.List.{map_more}
use Rattle.parameters.specs.declared.definition.Definition.{Definition}
use Rattle.parameters.specs.Definitions.{IsDefinition}
use Rattle.command.proofs.Defining.{one_more, undefined}
use Rattle.command.proofs.Refusals.{own_of}
use Rattle.command.proofs.definitions.read.Goals as goal

pub words-preserved : goal.words-preserved
words-preserved c =
    let is : IsDefinition c.args.threads (get_or c.args.words.now c.words.word-index (record { ref_ptr = (0, 0); now = [] })).now c.in-Some.definition = rw c.in-Some.is at c.in_ok-definition.ensures in
    rw (c.in_ok-add-in-Some.ensures, map_more (λ p. p.now) c.args.words.now c.words.word-index (record { ref_ptr = (0, 0); now = [] }) c.words-test.true) (one_more _ _ _ _ _ c.words.invariant is)

pub returns-in-None-clause-err : goal.returns-in-None-clause-err
returns-in-None-clause-err c =
    let none : (d : Definition) → IsDefinition c.args.threads (get_or c.args.words.now c.words.word-index (record { ref_ptr = (0, 0); now = [] })).now d → ⊥ = rw c.in-None.is at c.in_ok-definition.ensures in
    own_of _ _ (undefined c.args.threads c.args.words.now c.words.word-index (record { ref_ptr = (0, 0); now = [] }) c.words-test.true none) c.bad_definition.ensures
