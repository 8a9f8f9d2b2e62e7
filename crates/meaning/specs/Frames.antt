-- The surroundings of a run: the memories found later, and what was left and printed before.
use Rattle.std.specs.Prelude.{◌≡◌, ℕ, List, [], ◌++◌}
use Rattle.syntax.specs.declared.thread_end.Halt.TheVariants.{Trapped, Wants, Spent, Astray}
use Rattle.syntax.specs.Behaviours.{Memory}
use Rattle.syntax.specs.Actions.{Context, Outside, Inside, State, Answer, Gives, Stops, Action}

pub record StateExtension : Type 0 where
  pub founds : List Memory
  pub lefts : List Memory
  pub text : List ℕ

abbrev pub context_framed : StateExtension → Context → Context
context_framed f (Outside founds lefts) = Outside (founds ++ f.founds) (f.lefts ++ lefts)
context_framed f (Inside mode memory) = Inside mode memory

abbrev pub extended_state : StateExtension → State → State
extended_state f s = record {
  ticks = s.ticks;
  locals = s.locals;
  context = context_framed f s.context;
  text = f.text ++ s.text;
}

-- How an answer determines that of the extended state. If it needs a memory, so does the other, unless the extension
-- has one.
abbrev pub Alike : {A : Type 0} → StateExtension → Answer A → Answer A → Type 0
Alike f (Gives a s) more = more ≡ Gives a (extended_state f s)
Alike f (Stops (Trapped t) s) more = more ≡ Stops (Trapped t) (extended_state f s)
Alike f (Stops Astray s) more = more ≡ Stops Astray (extended_state f s)
Alike f (Stops Spent s) more = more ≡ Stops Spent (extended_state f s)
Alike f (Stops Wants s) more = f.founds ≡ [] → more ≡ Stops Wants (extended_state f s)

-- a run does the same whatever its surroundings
pub record IsFramed {A : Type 0} (run : Action A) : Type 0 where
  pub alike : (f : StateExtension) (s : State) → Alike f (run s) (run (extended_state f s))
