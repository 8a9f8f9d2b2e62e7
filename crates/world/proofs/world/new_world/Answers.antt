use Rattle.std.proofs.Common.{◌∙◌, ◌++◌, ℕ, List, ap, arith}
use Rattle.bytecode.specs.Initial.{initial_of}
use Rattle.world.proofs.Opening.{opened_as}
use Rattle.world.proofs.world.new_world.Goals as goal

pub invariant_of-result : goal.invariant_of-result
invariant_of-result g c =
    opened_as c.in_ok-code.code c.push_initial.new.words.items c.in_ok-threads.threads.items c.new.result.items c.in_ok-push_initial.ensures.valid (let n = c.in_ok-threads.ensures.count in let m = c.requires in omega arith) c.in_ok-threads.ensures.first
    (c.in_ok-push_initial.ensures.words ∙ ap (λ (l : List ℕ). l ++ initial_of c.in_ok-code.code) c.new-words.ensures.items) c.new.ensures.items
