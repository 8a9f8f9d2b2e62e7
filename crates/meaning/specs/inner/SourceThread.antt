-- The state of a thread, and the meaning of its answers.
use Rattle.std.specs.Prelude.{Vec, ◌≡◌, List, [], ◌∷◌, ◌++◌, map, Result, Ok, Err, Option, Some, None, option_map}
use Rattle.syntax.specs.declared.thread_end.Halt.{Halt}
use Rattle.syntax.specs.declared.thread_end.Halt.TheVariants.{Astray}
use Rattle.syntax.specs.declared.value.Value.{Value}
use Rattle.syntax.specs.Tree.{Program}
use Rattle.syntax.specs.Views.{program_of}
use Rattle.syntax.specs.Names as Names
use Rattle.syntax.specs.Behaviours.{Memory}
use Rattle.syntax.specs.Actions as Actions
use Rattle.syntax.specs.Actions.{State, Answer, Gives, Stops}
use Rattle.meaning.specs.Outcomes.{memories_in}
use Rattle.syntax.specs.Meaning as Meaning
use Rattle.meaning.specs.declared.source_thread.Local.{Local}
use Rattle.meaning.specs.declared.source_thread.SourceThread.{SourceThread}
use Rattle.meaning.specs.declared.source_thread.Context.{Context}
use Rattle.meaning.specs.declared.source_thread.Halted.{Halted}
use Rattle.meaning.specs.declared.source_thread.Context.TheVariants as context
use Rattle.meaning.specs.declared.source_thread.Lvalue.{Lvalue}
use Rattle.meaning.specs.declared.source_thread.Lvalue.TheVariants as lvalue
use Rattle.meaning.specs.declared.source_thread.StmtCompletion.{StmtCompletion}
use Rattle.meaning.specs.declared.source_thread.StmtCompletion.TheVariants as end
use Rattle.meaning.specs.declared.word.Word.{Word}
use Rattle.meaning.specs.inner.Word.{value_of}

abbrev pub completion_of : StmtCompletion → Meaning.Completion
completion_of end.Next = Meaning.Next
completion_of end.Breaks = Meaning.Breaks
completion_of end.Continues = Meaning.Continues
completion_of (end.Returns w) = Meaning.Returns (value_of w)
completion_of end.Cancels = Meaning.Cancels
completion_of end.CancelsOuter = Meaning.CancelsOuter

abbrev pub lvalue_of : Lvalue → Meaning.Lvalue
lvalue_of (lvalue.InLocal i t) = Meaning.InLocal i t
lvalue_of (lvalue.InCell c t) = Meaning.InCell c t

abbrev pub local_in : Local → Names.Local
local_in l = record { name = l.name.now; ty = l.ty; word = l.word }

-- with one more memory among those left
abbrev pub with_left : Memory → Actions.Context → Actions.Context
with_left memory (Actions.Outside founds lefts) = Actions.Outside founds (lefts ++ memory ∷ [])
with_left memory (Actions.Inside mode now) = Actions.Inside mode now

abbrev pub left_too : Memory → State → State
left_too memory s = record s { context = with_left memory s.context }

-- no allocation failed: a reason is known
abbrev pub Happened : Option Halt → Type 0
Happened (Some why) = Unit {0}
Happened None = ⊥

abbrev pub halt_of : Option Halt → Halt
halt_of (Some why) = why
halt_of None = Astray

module _ {A : Type 0} where
  abbrev pub items_in : Vec Local A → List Names.Local
  items_in mine = map local_in mine.items

  abbrev pub context_in : Context A → Actions.Context
  context_in (context.Outside founds lefts) = Actions.Outside (memories_in founds.now) (memories_in lefts.items)
  context_in (context.Inside mode memory) = Actions.Inside mode memory.items

  abbrev pub state_in : SourceThread A → State
  state_in m = record {
    ticks = m.ticks;
    locals = map local_in m.locals.items;
    context = context_in m.context;
    text = m.text.items;
  }

  abbrev pub IsDone : {X : Type 0} → Result X Halted → SourceThread A → Type 0
  IsDone (Ok x) m = Unit {0}
  IsDone (Err h) m = Happened m.why

  -- an answer, with its result seen by f
  abbrev pub given_as : {X Y : Type 0} → (X → Y) → Result X Halted → SourceThread A → Answer Y
  given_as f (Ok x) m = Gives (f x) (state_in m)
  given_as f (Err h) m = Stops (halt_of m.why) (state_in m)

  -- this was done, unless memory ran out
  abbrev pub MeansAs : {X Y : Type 0} → (X → Y) → Result X Halted → Answer Y → SourceThread A → Type 0
  MeansAs f result does m = IsDone result m → does ≡ given_as f result m

  abbrev pub Means : {X : Type 0} → Result X Halted → Answer X → SourceThread A → Type 0
  Means = MeansAs (λ x. x)

  abbrev pub MeansWord : Result Word Halted → Answer Value → SourceThread A → Type 0
  MeansWord = MeansAs value_of

  abbrev pub MeansWords : Result (Vec Value A) Halted → Answer (List Value) → SourceThread A → Type 0
  MeansWords = MeansAs (λ v. v.items)

  abbrev pub MeansLvalue : Result Lvalue Halted → Answer Meaning.Lvalue → SourceThread A → Type 0
  MeansLvalue = MeansAs lvalue_of

  abbrev pub MeansCompletion : Result StmtCompletion Halted → Answer Meaning.Completion → SourceThread A → Type 0
  MeansCompletion = MeansAs completion_of

  abbrev pub MeansTurn : Result (Option StmtCompletion) Halted → Answer (Option Meaning.Completion) →
      SourceThread A → Type 0
  MeansTurn = MeansAs (option_map completion_of)
