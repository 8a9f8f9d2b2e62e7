use Rattle.std.proofs.Common.{◌∷◌, [], ◌++◌, replicate, ap, ◌∙◌}
use Rattle.std.proofs.lemmas.List.{append_assoc, replicate-append-replicate}
use Rattle.syntax.proofs.initial.push_zeros.Goals as goal

pub zeros-preserved : goal.zeros-preserved
zeros-preserved g c =
    c.in_ok-push.ensures.items
    ∙ ap (λ xs. xs ++ 0 ∷ []) c.zeros.invariant
    ∙ append_assoc c.args.words.now.items (replicate c.zeros.counter 0) (0 ∷ [])
    ∙ ap (λ xs. c.args.words.now.items ++ xs) (replicate-append-replicate c.zeros.counter 1 0)
