-- A thread that stands somewhere goes on: a step of its innermost piece, whatever stands round it, is the first of all that is left.
use Rattle.std.proofs.Common.{◌≡◌, List, [], ◌∷◌, ◌++◌, sym, ap, ◌∙◌, subst}
use Rattle.syntax.specs.declared.thread_end.Halt.{Halt}
use Rattle.syntax.specs.declared.thread_end.Halt.TheVariants.{Trapped, Wants, Spent, Astray}
use Rattle.syntax.specs.Actions.{State, Answer, Gives, Stops, Action, go_on}
use Rattle.syntax.specs.Meaning.{Completion}
use Rattle.meaning.specs.Frames.{StateExtension, extended_state, Alike}
use Rattle.meaning.specs.inner.Going.{Follow, follows, gone_on, IsStep}
use Rattle.meaning.proofs.Going.{same_answer}
use Rattle.meaning.proofs.Sequences.{twice}

-- the piece at the end comes first
pub gone_on_last : (pieces : List (Completion → Action Completion)) (piece : Completion → Action Completion) (e : Completion) (s : State) → gone_on (pieces ++ piece ∷ []) e s ≡ go_on (piece e s) (gone_on pieces)
gone_on_last [] piece e s = sym (same_answer (piece e s))
gone_on_last (x ∷ xs) piece e s = ap (λ r. go_on r x) (gone_on_last xs piece e s) ∙ sym (twice (piece e s) (gone_on xs) x)

-- where there is no further memory, a stop is the same in a frame
stops_framed : {X : Type 0} (f : StateExtension) (why : Halt) (s : State) (more : Answer X) → f.founds ≡ [] → Alike f (Stops why s) more → more ≡ Stops why (extended_state f s)
stops_framed f (Trapped t) s more none e = e
stops_framed f Wants s more none e = e none
stops_framed f Spent s more none e = e
stops_framed f Astray s more none e = e

module _ (piece : Completion → Action Completion) (pieces : List (Completion → Action Completion)) (e : Completion) (run : Action Follow) (step : IsStep piece e run) (f : StateExtension) (s now : State) where
  first_is : gone_on (pieces ++ piece ∷ []) e (extended_state f s) ≡ go_on (go_on (run (extended_state f s)) follows) (gone_on pieces)
  first_is = gone_on_last pieces piece e (extended_state f s) ∙ ap (λ r. go_on r (gone_on pieces)) (step.does (extended_state f s))

  -- where the step leads on, the thread goes on so from there
  pub went_is : (next : Follow) → run s ≡ Gives next now → gone_on (pieces ++ piece ∷ []) e (extended_state f s) ≡ go_on (follows next (extended_state f now)) (gone_on pieces)
  went_is next h =
      first_is ∙ ap (λ r. go_on (go_on r follows) (gone_on pieces)) (subst (λ r. Alike f r (run (extended_state f s))) h (step.framed.alike f s))

  -- where it stops, the thread stops there
  pub stopped_is : (why : Halt) → f.founds ≡ [] → run s ≡ Stops why now → gone_on (pieces ++ piece ∷ []) e (extended_state f s) ≡ Stops why (extended_state f now)
  stopped_is why none h =
      first_is
      ∙ ap (λ r. go_on (go_on r follows) (gone_on pieces)) (stops_framed f why now (run (extended_state f s)) none (subst (λ r. Alike f r (run (extended_state f s))) h (step.framed.alike f s)))
