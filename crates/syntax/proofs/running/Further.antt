-- More ticks and more memories: what a run does with them, beside what it does without.
use Rattle.std.specs.Prelude.{◌≡◌, ℕ, zero, suc, List, [], ◌++◌}
use Rattle.syntax.specs.declared.thread_end.Halt.TheVariants.{Trapped, Wants, Spent, Astray}
use Rattle.syntax.specs.Behaviours.{Memory}
use Rattle.syntax.specs.Actions.{Context, Outside, Inside, State, Answer, Gives, Stops, Action}
pub use Rattle.syntax.specs.Actions.{state_of}

-- n and k
abbrev pub added : ℕ → ℕ → ℕ
added zero k = k
added (suc n) k = suc (added n k)

abbrev pub with_founds : List Memory → Context → Context
with_founds extra (Outside founds lefts) = Outside (founds ++ extra) lefts
with_founds extra (Inside mode m) = Inside mode m

-- the state with k further ticks and further memories to be found
abbrev pub with_more : ℕ → List Memory → State → State
with_more k extra s = record s { ticks = added s.ticks k; context = with_founds extra s.context }

-- a later context: outside transactions the memories left begin with the earlier ones,
-- and a run that begins inside a transaction stays inside
abbrev pub Follows : Context → Context → Type 0
Follows (Outside founds lefts) (Outside founds' lefts') = (more : List Memory) × (lefts' ≡ lefts ++ more)
Follows (Outside founds lefts) (Inside mode m) = ⊥
Follows (Inside mode m) (Outside founds lefts) = ⊥
Follows (Inside mode m) (Inside mode' m') = Unit {0}

-- text and lefts begin with those of an earlier state
pub record Grown (old new : State) : Type 0 where
  pub printed : List ℕ
  pub text : new.text ≡ old.text ++ printed
  pub context : Follows old.context new.context

-- what an answer says of the answer with more
abbrev pub Extends : {A : Type 0} → ℕ → List Memory → Answer A → Answer A → Type 0
Extends k extra (Gives a s) more = more ≡ Gives a (with_more k extra s)
Extends k extra (Stops (Trapped t) s) more = more ≡ Stops (Trapped t) (with_more k extra s)
Extends k extra (Stops Astray s) more = more ≡ Stops Astray (with_more k extra s)
Extends k extra (Stops Spent s) more = Grown s (state_of more)
Extends k extra (Stops Wants s) more = Grown s (state_of more) × (extra ≡ [] → more ≡ Stops Wants (with_more k [] s))

-- a run keeps what was printed and left, and goes the same way with more
pub record IsSteady {A : Type 0} (run : Action A) : Type 0 where
  pub grows : (s : State) → Grown s (state_of (run s))
  pub extends : (k : ℕ) (extra : List Memory) (s : State) → Extends k extra (run s) (run (with_more k extra s))
