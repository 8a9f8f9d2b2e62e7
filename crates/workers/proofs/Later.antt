-- What a thread begins after a meeting.
use Rattle.std.proofs.Common.{◌≡◌, ℕ, List, [], ◌∷◌, ◌++◌, length, drop, refl, ◌∙◌, subst}
use Rattle.machine.specs.Answered.{Heard, LocksFrom}
use Rattle.machine.proofs.answers.Firsts.{first_from, first_heard}
use Rattle.bytecode.specs.Code.{effect}
use Rattle.workers.specs.Works.{BeginsLater}

drop_front : (hs gs : List Heard) → drop (length hs) (hs ++ gs) ≡ gs
drop_front [] gs = refl
drop_front (h ∷ hs) gs = drop_front hs gs

pub begins_later : BeginsLater
begins_later code n ts p now q later a g since idle has =
    let at : q.floor ≡ n = g.floor.0 in
    let rest : drop q.floor_at q.heard ≡ g.more = (λ i. drop (g.floor.1 i) (g.heard i)) ∙ drop_front p.heard g.more in
    first_from n a.first g.more (subst (λ (z : ℕ × List Heard). LocksFrom z.0 z.1) (λ i. (at i, rest i)) since) (first_heard (effect code) now.thread idle g.count g.more later.thread g.steps a has)
