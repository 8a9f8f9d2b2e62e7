-- A thread from its start to its end.
use Rattle.std.proofs.Common.{◌≡◌, ◌≢◌, ℕ, List, [], Option, Some, None, true, false, sym, ap, ap₂, subst, ◌∙◌}
use Rattle.std.proofs.Math.Logic.{∥∥₁_elim}
use Rattle.syntax.specs.Tree.{Program}
use Rattle.syntax.specs.Names.{Local}
use Rattle.syntax.specs.declared.thread_end.Halt.{Halt}
use Rattle.syntax.specs.declared.thread_end.Halt.TheVariants.{Astray, Spent, Trapped}
use Rattle.syntax.specs.declared.thread_end.Trap.{Trap}
use Rattle.syntax.specs.declared.value.Value.{Value}
use Rattle.syntax.specs.declared.tree.Mode.TheVariants.{Atomic}
use Rattle.syntax.specs.Numbers.{is_zero}
use Rattle.syntax.specs.Meaning.{calls}
use Rattle.std.specs.List.{AllByRecursion}
use Rattle.syntax.specs.Names.{bounds}
use Rattle.syntax.specs.Typing.{IsTypedProgram}
use Rattle.syntax.specs.Laws.{LeavesMemories}
use Rattle.syntax.specs.Behaviours.{Memory, IsMemory, Outcome, Ended, Stopped}
use Rattle.syntax.specs.Actions.{Answer, State, Gives, Stops, Inside, Outside, lefts_in}
use Rattle.separation.specs.Touching.{IsAccepted}
use Rattle.separation.specs.Laws.{NeverAstray}
use Rattle.meaning.specs.Asked.{FailsWithin, GivesZero, HoldsWithin, TakesMore, Traps, asked_over, state_over}
use Rattle.meaning.specs.inner.SourceThread.{Happened, halt_of}
use Rattle.syntax.specs.Threads.{outcome_of, first_state, worker_run, thread}

pub starts : (n : ℕ) (ls : List Local) (founds os : List Memory) (text : List ℕ) → ls ≡ [] → os ≡ [] → text ≡ [] → record { ticks = n; locals = ls; context = Outside founds os; text = text } ≡ first_state founds n
starts n ls founds os text a b c =
    ap (λ x. record { ticks = n; locals = x; context = Outside founds os; text = text }) a
    ∙ ap (λ x. record { ticks = n; locals = []; context = Outside founds x; text = text }) b
    ∙ ap (λ x. record { ticks = n; locals = []; context = Outside founds []; text = x }) c

module _ (p : Program) (t n : ℕ) (founds : List Memory) (s0 s1 : State) (start : s0 ≡ first_state founds n) where
  pub thread_ends : worker_run p t s0 ≡ Gives tt s1 → thread p t founds n ≡ record { lefts = lefts_in s1.context; text = s1.text; end = Ended }
  thread_ends d = sym (ap (λ s. outcome_of (worker_run p t s)) start) ∙ ap outcome_of d

  pub thread_stops : (why : Halt) → worker_run p t s0 ≡ Stops why s1 → thread p t founds n ≡ record { lefts = lefts_in s1.context; text = s1.text; end = Stopped why }
  thread_stops why d = sym (ap (λ s. outcome_of (worker_run p t s)) start) ∙ ap outcome_of d

  -- it stops for no reason that an accepted program has not
  pub stops_within : NeverAstray → ∥ IsAccepted p ∥₁ → (why : Halt) → worker_run p t s0 ≡ Stops why s1 → why ≢ Astray
  stops_within law ok why d astray = ∥∥₁_elim ok (hlevel) (λ a. law p a t founds n (ap (λ o. o.end) (thread_stops why d) ∙ ap Stopped astray))

pub happened : (o : Option Halt) (why : Halt) → o ≡ Some why → Happened o
happened (Some k) why e = tt
happened None why e = absurd (cc)

-- what is told of a thread leaves memories of the program
pub leaves_memories : (p : Program) (t n : ℕ) (founds : List Memory) (told : Outcome) → LeavesMemories → IsTypedProgram p → told ≡ thread p t founds n → AllByRecursion (IsMemory (bounds p)) founds → AllByRecursion (IsMemory (bounds p)) told.lefts
leaves_memories p t n founds told law typed is are = subst (λ o. AllByRecursion (IsMemory (bounds p)) o.lefts) (sym is) (law p typed t founds n are)

-- a thread that is within a transaction over a memory
pub stands_over : (n : ℕ) (ls : List Local) (m : Memory) (text : List ℕ) → ls ≡ [] → text ≡ [] → record { ticks = n; locals = ls; context = Inside Atomic m; text = text } ≡ state_over m n
stands_over n ls m text a b =
    ap (λ x. record { ticks = n; locals = x; context = Inside Atomic m; text = text }) a
    ∙ ap (λ x. record { ticks = n; locals = []; context = Inside Atomic m; text = x }) b

-- what a call gives there
module _ (p : Program) (x : List ℕ) (m : Memory) (n : ℕ) (s0 s1 : State) (vs : List Value) (none : vs ≡ []) (start : s0 ≡ state_over m n) where
  asked_there : (r : Answer Value) → calls p 64 x vs s0 ≡ r → asked_over p x m n ≡ r
  asked_there r does = sym (ap₂ (λ ws s. calls p 64 x ws s) none start) ∙ does

  pub holds_within : (v : Value) → calls p 64 x vs s0 ≡ Gives v s1 → is_zero v ≡ false → HoldsWithin p x m n
  holds_within v does not_zero = record { value = v; after = s1; gives = asked_there (Gives v s1) does; not_zero = not_zero }

  pub fails_within : (v : Value) → calls p 64 x vs s0 ≡ Gives v s1 → is_zero v ≡ true → FailsWithin p x m n
  fails_within v does zero = GivesZero v s1 (asked_there (Gives v s1) does) zero

  pub traps_within : (k : Trap) (why : Option Halt) (h : Halt) → why ≡ Some h → h ≡ Trapped k → calls p 64 x vs s0 ≡ Stops (halt_of why) s1 → FailsWithin p x m n
  traps_within k why h is trapped does = Traps k s1 (asked_there (Stops (Trapped k) s1) (does ∙ ap (λ o. Stops (halt_of o) s1) is ∙ ap (λ y. Stops y s1) trapped))

  pub takes_more : (why : Option Halt) (h : Halt) → why ≡ Some h → h ≡ Spent → calls p 64 x vs s0 ≡ Stops (halt_of why) s1 → TakesMore p x m n
  takes_more why h is spent does = record { state = s1; spent = asked_there (Stops Spent s1) (does ∙ ap (λ o. Stops (halt_of o) s1) is ∙ ap (λ y. Stops y s1) spent) }
