-- The laws of threads, from steadiness.
use Rattle.std.proofs.Common.{◌≡◌, ◌≢◌, ℕ, zero, suc, ◌+◌, List, [], ◌++◌, refl, sym, ap, ◌∙◌, subst, append-nil, arith}
use Rattle.syntax.specs.Tree.{Program}
use Rattle.syntax.specs.declared.thread_end.Halt.TheVariants.{Trapped, Wants, Spent, Astray}
use Rattle.syntax.specs.Behaviours.{Memory}
use Rattle.syntax.specs.Actions.{Context, Outside, Inside, State, Answer, Gives, Stops}
use Rattle.syntax.specs.Actions.{lefts_in}
use Rattle.syntax.proofs.running.Further.{state_of, added, with_founds, with_more, Follows, Grown, Extends}
use Rattle.syntax.specs.Behaviours.{ThreadEnd, Ended, Stopped, Outcome}
use Rattle.syntax.specs.Threads.{outcome_of, first_state, worker_run, thread}
use Rattle.syntax.specs.Laws.{IsOutcomePrefix, MoreTicks, MoreMemories, GoesOn}
use Rattle.syntax.proofs.running.MeaningSteady.{worker_steady}

added_is : (n k : ℕ) → added n k ≡ n + k
added_is zero k = omega arith
added_is (suc n) k = let e : added n k ≡ n + k = added_is n k in omega (arith, e)

lefts_follow : (p q : Context) → Follows p q → (more : List Memory) × (lefts_in q ≡ lefts_in p ++ more)
lefts_follow (Outside f l) (Outside f' l') a = a
lefts_follow (Outside f l) (Inside mode m) a = absurd a
lefts_follow (Inside mode m) (Outside f l) a = absurd a
lefts_follow (Inside mode m) (Inside mode' m') a = ([], refl)

outcome_lefts : (r : Answer (Unit {0})) → (outcome_of r).lefts ≡ lefts_in (state_of r).context
outcome_lefts (Gives u s) = refl
outcome_lefts (Stops why s) = refl

outcome_text : (r : Answer (Unit {0})) → (outcome_of r).text ≡ (state_of r).text
outcome_text (Gives u s) = refl
outcome_text (Stops why s) = refl

further_lefts : (extra : List Memory) (p : Context) → lefts_in (with_founds extra p) ≡ lefts_in p
further_lefts extra (Outside f l) = refl
further_lefts extra (Inside mode m) = refl

begins_grown : (s : State) (r : Answer (Unit {0})) (end : ThreadEnd) → Grown s (state_of r) → IsOutcomePrefix (record { lefts = lefts_in s.context; text = s.text; end = end }) (outcome_of r)
begins_grown s r end g =
    let l = lefts_follow s.context (state_of r).context g.context in
    record { printed = g.printed; text = outcome_text r ∙ g.text; further = l.0; lefts = outcome_lefts r ∙ l.1 }

abbrev outcome : List Memory → List ℕ → ThreadEnd → Outcome
outcome lefts text end = record { lefts = lefts; text = text; end = end }

begins_all : (o : Outcome) → IsOutcomePrefix o o
begins_all o = record { printed = []; text = sym (append-nil o.text); further = []; lefts = sym (append-nil o.lefts) }

-- an end that stays
same_outcome : (k : ℕ) (extra : List Memory) (s : State) (end : ThreadEnd) → outcome (lefts_in (with_more k extra s).context) s.text end ≡ outcome (lefts_in s.context) s.text end
same_outcome k extra s end = ap (λ l. outcome l s.text end) (further_lefts extra s.context)

stays : (k : ℕ) (extra : List Memory) (r more : Answer (Unit {0})) → Extends k extra r more → (outcome_of r).end ≢ Stopped Spent → ((outcome_of r).end ≢ Stopped Wants) → outcome_of more ≡ outcome_of r
stays k extra (Gives u s) more e spent wants = ap outcome_of e ∙ same_outcome k extra s Ended
stays k extra (Stops (Trapped t) s) more e spent wants = ap outcome_of e ∙ same_outcome k extra s (Stopped (Trapped t))
stays k extra (Stops Astray s) more e spent wants = ap outcome_of e ∙ same_outcome k extra s (Stopped Astray)
stays k extra (Stops Spent s) more e spent wants = absurd (spent refl)
stays k extra (Stops Wants s) more e spent wants = absurd (wants refl)

stays_alone : (k : ℕ) (r more : Answer (Unit {0})) → Extends k [] r more → (outcome_of r).end ≢ Stopped Spent → outcome_of more ≡ outcome_of r
stays_alone k (Gives u s) more e spent = ap outcome_of e ∙ same_outcome k [] s Ended
stays_alone k (Stops (Trapped t) s) more e spent = ap outcome_of e ∙ same_outcome k [] s (Stopped (Trapped t))
stays_alone k (Stops Astray s) more e spent = ap outcome_of e ∙ same_outcome k [] s (Stopped Astray)
stays_alone k (Stops Spent s) more e spent = absurd (spent refl)
stays_alone k (Stops Wants s) more e spent = ap outcome_of (e.1 refl) ∙ same_outcome k [] s (Stopped Wants)

begins : (k : ℕ) (extra : List Memory) (r more : Answer (Unit {0})) → Extends k extra r more → IsOutcomePrefix (outcome_of r) (outcome_of more)
begins k extra (Gives u s) more e = subst (λ o. IsOutcomePrefix (outcome_of (Gives u s)) o) (sym (stays k extra (Gives u s) more e (λ x. cc) (λ x. cc))) (begins_all (outcome_of (Gives u s)))
begins k extra (Stops (Trapped t) s) more e = subst (λ o. IsOutcomePrefix (outcome_of (Stops (Trapped t) s)) o) (sym (stays k extra (Stops (Trapped t) s) more e (λ x. cc) (λ x. cc))) (begins_all (outcome_of (Stops (Trapped t) s)))
begins k extra (Stops Astray s) more e = subst (λ o. IsOutcomePrefix (outcome_of (Stops Astray s)) o) (sym (stays k extra (Stops Astray s) more e (λ x. cc) (λ x. cc))) (begins_all (outcome_of (Stops Astray s)))
begins k extra (Stops Spent s) more e = begins_grown s more (Stopped Spent) e
begins k extra (Stops Wants s) more e = begins_grown s more (Stopped Wants) e.0

-- a thread and the same thread with more
extends : (p : Program) (t : ℕ) (founds extra : List Memory) (n k : ℕ) → Extends k extra (worker_run p t (first_state founds n)) (worker_run p t (first_state (founds ++ extra) (added n k)))
extends p t founds extra n k = (worker_steady p t).extends k extra (first_state founds n)

pub more_ticks : MoreTicks
more_ticks p t founds n k spent =
    let e = stays_alone k (worker_run p t (first_state founds n)) (worker_run p t (first_state (founds ++ []) (added n k))) (extends p t founds [] n k) spent in
    sym (ap (λ m. thread p t founds m) (added_is n k)) ∙ sym (ap (λ f. thread p t f (added n k)) (append-nil founds)) ∙ e

pub more_memories : MoreMemories
more_memories p t founds extra n k spent wants =
    sym (ap (λ m. thread p t (founds ++ extra) m) (added_is n k)) ∙ stays k extra _ _ (extends p t founds extra n k) spent wants

pub goes_on : GoesOn
goes_on p t founds extra n k =
    subst (λ m. IsOutcomePrefix (thread p t founds n) (thread p t (founds ++ extra) m)) (added_is n k) (begins k extra _ _ (extends p t founds extra n k))
