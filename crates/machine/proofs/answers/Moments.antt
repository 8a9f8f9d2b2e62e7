-- Where the moment of an attempt stands.
use Rattle.std.proofs.Common.{◌≡◌, ◌<◌, ◌≤◌, ◌⊎◌, ⊎_elim, ℕ, suc, Bool, true, false, cond, List, [], ◌∷◌, ◌++◌, Option, None, Some, length, sym, ◌∙◌, subst, arith}
use Rattle.syntax.specs.Behaviours.{Behaviour}
use Rattle.norec_core.specs.Attempts.{Attempt}
use Rattle.machine.specs.Explained.{HasMoment, HasMomentIf}
use Rattle.machine.specs.Merges.{Entry, count_takers}
use Rattle.machine.specs.Moments.{BeginsPast, StandsPast}
use Rattle.machine.specs.Worlds.{World}

-- a longer beginning of a list has no fewer that took the lock
counts_up : (xs ys cs ds : List Entry) → xs ++ cs ≡ ys ++ ds → length xs ≤ length ys → count_takers xs ≤ count_takers ys
counts_up [] ys cs ds e le = omega arith
counts_up (x ∷ xs) [] cs ds e le = absurd (omega arith)
counts_up (x ∷ xs) (y ∷ ys) cs ds e le =
    let same : x ≡ y = cc in
    let rest : xs ++ cs ≡ ys ++ ds = cc in
    subst (λ (z : Entry). cond x.item.took_lock (suc (count_takers xs)) (count_takers xs) ≤ cond z.item.took_lock (suc (count_takers ys)) (count_takers ys)) same (at x.item.took_lock (counts_up xs ys cs ds rest (omega arith)))
  where
    at : (b : Bool) → count_takers xs ≤ count_takers ys → cond b (suc (count_takers xs)) (count_takers xs) ≤ cond b (suc (count_takers ys)) (count_takers ys)
    at true h = omega arith
    at false h = omega arith

pub begins_past : {C : Type 0} (does : Behaviour) (bounds m0 : List ℕ) (threads : ℕ) (w : World C) (es : List Entry) → BeginsPast does bounds m0 threads w es
begins_past {C} does bounds m0 threads w es x t p a e f n le = at p.thread.attempt f (x.moments t p e)
  where
    less_or : (u v : ℕ) → (u < v) ⊎ (v ≤ u)
    less_or u v = grind arith

    past : (m : HasMoment m0 t a.snapshot a.reads es) → a.first ≤ a.snapshot → StandsPast n es m.before
    past m low front y back is took_lock small = ⊎_elim (λ h. h) (λ h.
        let up = counts_up m.before front m.after (y ∷ back) (sym m.place ∙ is) h in
        let number = m.number in
        let own = (x.numbered front y back is).0 in
        absurd (omega arith)) (less_or (length front) (length m.before))

    at : (o : Option (Attempt C)) → o ≡ Some a → HasMomentIf m0 t o es → (m : HasMoment m0 t a.snapshot a.reads es) × StandsPast n es m.before
    at None g h = absurd (cc)
    at (Some b) g h =
        let same : b ≡ a = cc in
        let k = subst (λ (c : Attempt C). (c.first ≤ c.snapshot) × HasMoment m0 t c.snapshot c.reads es) same h in
        (k.1, past k.1 k.0)
