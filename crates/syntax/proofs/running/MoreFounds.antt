-- A thread that wants no memory does the same with further ones, in the same ticks; also where it is spent.
use Rattle.std.proofs.Common.{◌≡◌, ◌≢◌, ℕ, zero, suc, List, [], ◌∷◌, ◌++◌, Option, Some, None, Bool, true, false, refl, sym, ap, ◌∙◌, subst}
use Rattle.syntax.specs.declared.tree.Mode.{Mode}
use Rattle.syntax.specs.declared.tree.Mode.TheVariants.{Atomic, Relaxed}
use Rattle.syntax.specs.declared.tree.TransactionKind.{TransactionKind}
use Rattle.syntax.specs.declared.tree.TransactionKind.TheVariants.{Plain, Outer}
use Rattle.syntax.specs.Tree.{Program}
use Rattle.syntax.specs.Names.{Local}
use Rattle.syntax.specs.declared.thread_end.Halt.TheVariants.{Trapped, Wants, Spent, Astray}
use Rattle.syntax.specs.Behaviours.{Memory, Ended, Stopped}
use Rattle.syntax.specs.Actions.{Context, Outside, Inside, State, Answer, Gives, Stops, Action, go_on, ◌>>=◌, spend, tick, load_at, store_at, may_print_at, memory_in, lefts_in}
use Rattle.syntax.specs.Meaning.{Completion, after_turn, turns, Left, undoes, left_or, left_by, leave_inner, close_inner, inner, close, enter, mode_of, begin_at}
use Rattle.syntax.specs.Threads.{outcome_of, first_state, worker_run}
use Rattle.syntax.specs.Laws.{IsPieceOf, MoreFounds}
use Rattle.syntax.proofs.running.Preserved.{IsPreserved, any_cells, worker_holds}

-- further memories to be found
abbrev with_founds : List Memory → Context → Context
with_founds extra (Outside founds lefts) = Outside (founds ++ extra) lefts
with_founds extra (Inside mode m) = Inside mode m

abbrev further : List Memory → State → State
further extra s = record s { context = with_founds extra s.context }

-- an answer that wants no memory is the same with further ones
abbrev Alike : {A : Type 0} → List Memory → Answer A → Answer A → Type 0
Alike extra (Gives a s) more = more ≡ Gives a (further extra s)
Alike extra (Stops (Trapped t) s) more = more ≡ Stops (Trapped t) (further extra s)
Alike extra (Stops Astray s) more = more ≡ Stops Astray (further extra s)
Alike extra (Stops Spent s) more = more ≡ Stops Spent (further extra s)
Alike extra (Stops Wants s) more = Unit {0}

record IsAlike {A : Type 0} (run : Action A) : Type 0 where
  alike : (extra : List Memory) (s : State) → Alike extra (run s) (run (further extra s))

on_alike : {A B : Type 0} (extra : List Memory) (r more : Answer A) (rest : A → Action B) → Alike extra r more → ((a : A) (t : State) → Alike extra (rest a t) (rest a (further extra t))) → Alike extra (go_on r rest) (go_on more rest)
on_alike extra (Gives a s) more rest e h = subst (λ x. Alike extra (rest a s) (go_on x rest)) (sym e) (h a s)
on_alike extra (Stops (Trapped t) s) more rest e h = ap (λ x. go_on x rest) e
on_alike extra (Stops Astray s) more rest e h = ap (λ x. go_on x rest) e
on_alike extra (Stops Spent s) more rest e h = ap (λ x. go_on x rest) e
on_alike extra (Stops Wants s) more rest e h = tt

on_all : {A B : Type 0} {run : Action A} {rest : A → Action B} → IsAlike run → ((a : A) → IsAlike (rest a)) → IsAlike (run >>= rest)
on_all {run = run} {rest = rest} g h = record { alike = λ extra s. on_alike extra (run s) (run (further extra s)) rest (g.alike extra s) (λ a t. (h a).alike extra t) }

spend_alike : (extra : List Memory) (n : ℕ) (s : State) → Alike extra (spend n s) (spend n (further extra s))
spend_alike extra zero s = refl
spend_alike extra (suc n) s = refl

tick_alike : IsAlike tick
tick_alike = record { alike = λ extra s. spend_alike extra s.ticks s }

load_alike : (extra : List Memory) (p : Context) (c : ℕ) (s : State) → Alike extra (load_at p c s) (load_at (with_founds extra p) c (further extra s))
load_alike extra (Outside founds lefts) c s = refl
load_alike extra (Inside mode m) c s = refl

store_alike : (extra : List Memory) (p : Context) (c w : ℕ) (s : State) → Alike extra (store_at p c w s) (store_at (with_founds extra p) c w (further extra s))
store_alike extra (Outside founds lefts) c w s = refl
store_alike extra (Inside mode m) c w s = refl

may_print_alike : (extra : List Memory) (p : Context) (s : State) → Alike extra (may_print_at p s) (may_print_at (with_founds extra p) (further extra s))
may_print_alike extra (Outside founds lefts) s = refl
may_print_alike extra (Inside Relaxed m) s = refl
may_print_alike extra (Inside Atomic m) s = refl

after_turn_alike : (extra : List Memory) (rest : Action Completion) → ((s : State) → Alike extra (rest s) (rest (further extra s))) → (o : Option Completion) (s : State) → Alike extra (after_turn rest o s) (after_turn rest o (further extra s))
after_turn_alike extra rest h None s = h s
after_turn_alike extra rest h (Some end) s = refl

turns_alike : (turn : Action (Option Completion)) → IsAlike turn → (extra : List Memory) (n : ℕ) (s : State) → Alike extra (turns n turn s) (turns n turn (further extra s))
turns_alike turn h extra zero s = refl
turns_alike turn h extra (suc n) s =
    on_alike extra (tick s) (tick (further extra s)) (λ _. turn >>= after_turn (turns n turn)) (tick_alike.alike extra s)
    (λ _ t. on_alike extra (turn t) (turn (further extra t)) (after_turn (turns n turn)) (h.alike extra t) (after_turn_alike extra (turns n turn) (turns_alike turn h extra n)))

memory_further : (extra : List Memory) (p : Context) → memory_in (with_founds extra p) ≡ memory_in p
memory_further extra (Outside founds lefts) = refl
memory_further extra (Inside mode m) = refl

abbrev left_with : Completion → List Local → Memory → Left
left_with end ls m = record { end = end; locals = ls; memory = m }

left_further : (extra : List Memory) (undone : Bool) (mine : List Local) (found : Memory) (end : Completion) (now : State) → left_or undone mine found end (further extra now) ≡ left_or undone mine found end now
left_further extra true mine found end now = refl
left_further extra false mine found end now = ap (λ m. left_with end now.locals m) (memory_further extra now.context)

close_inner_alike : (outer : Mode) (kind : TransactionKind) (mine : List Local) (found : Memory) (extra : List Memory) (r more : Answer Completion) → Alike extra r more → Alike extra (close_inner outer kind mine found r) (close_inner outer kind mine found more)
close_inner_alike outer kind mine found extra (Gives end now) more e =
    ap (close_inner outer kind mine found) e ∙ ap (λ l. leave_inner outer l (further extra now)) (left_further extra (undoes end kind) mine found end now)
close_inner_alike outer kind mine found extra (Stops (Trapped t) s) more e = ap (close_inner outer kind mine found) e
close_inner_alike outer kind mine found extra (Stops Astray s) more e = ap (close_inner outer kind mine found) e
close_inner_alike outer kind mine found extra (Stops Spent s) more e = ap (close_inner outer kind mine found) e
close_inner_alike outer kind mine found extra (Stops Wants s) more e = tt

inner_alike : (extra : List Memory) (outer : Mode) (kind : TransactionKind) (found : Memory) (run : Action Completion) → IsAlike run → (s : State) → Alike extra (inner outer kind found run s) (inner outer kind found run (further extra s))
inner_alike extra outer kind found run h s =
    let start = record s { context = Inside (mode_of kind) found } in
    close_inner_alike outer kind s.locals found extra (run start) (run (further extra start)) (h.alike extra start)

abbrev leave_at : ℕ → State → List Memory → List Memory → Left → Answer Completion
leave_at n now founds lefts left =
    go_on (spend n (record now { context = Outside founds lefts }))
    (λ u then_. Gives left.end (record then_ { locals = left.locals; context = Outside founds (lefts ++ left.memory ∷ []) }))

leave_alike : (extra : List Memory) (n : ℕ) (now : State) (founds lefts : List Memory) (left : Left) → Alike extra (leave_at n now founds lefts left) (leave_at n (further extra now) (founds ++ extra) lefts left)
leave_alike extra zero now founds lefts left = refl
leave_alike extra (suc n) now founds lefts left = refl

close_alike : (kind : TransactionKind) (extra founds lefts : List Memory) (mine : List Local) (found : Memory) (r more : Answer Completion) → Alike extra r more → Alike extra (close kind founds lefts mine found r) (close kind (founds ++ extra) lefts mine found more)
close_alike kind extra founds lefts mine found (Gives end now) more e =
    let left = left_by kind mine found end now in
    let same = ap (close kind (founds ++ extra) lefts mine found) e ∙ ap (λ l. leave_at now.ticks (further extra now) (founds ++ extra) lefts l) (left_further extra (undoes end kind) mine found end now) in
    subst (λ x. Alike extra (leave_at now.ticks now founds lefts left) x) (sym same) (leave_alike extra now.ticks now founds lefts left)
close_alike kind extra founds lefts mine found (Stops (Trapped t) s) more e = ap (close kind (founds ++ extra) lefts mine found) e
close_alike kind extra founds lefts mine found (Stops Astray s) more e = ap (close kind (founds ++ extra) lefts mine found) e
close_alike kind extra founds lefts mine found (Stops Spent s) more e = ap (close kind (founds ++ extra) lefts mine found) e
close_alike kind extra founds lefts mine found (Stops Wants s) more e = tt

abbrev state : ℕ → List Local → Context → List ℕ → State
state n ls p t = record { ticks = n; locals = ls; context = p; text = t }

enter_alike : (extra : List Memory) (kind : TransactionKind) (run : Action Completion) → IsAlike run → (p : Context) (n : ℕ) (ls : List Local) (t : List ℕ) → Alike extra (enter p kind run (state n ls p t)) (enter (with_founds extra p) kind run (further extra (state n ls p t)))
enter_alike extra kind run h (Outside [] lefts) n ls t = tt
enter_alike extra kind run h (Outside (found ∷ founds) lefts) n ls t =
    let start = state n ls (Inside (mode_of kind) found) t in
    close_alike kind extra founds lefts ls found (run start) (run (further extra start)) (h.alike extra start)
enter_alike extra kind run h (Inside Relaxed found) n ls t = inner_alike extra Relaxed kind found run h (state n ls (Inside Relaxed found) t)
enter_alike extra (Plain Atomic) run h (Inside Atomic found) n ls t = inner_alike extra Atomic (Plain Atomic) found run h (state n ls (Inside Atomic found) t)
enter_alike extra Outer run h (Inside Atomic found) n ls t = inner_alike extra Atomic Outer found run h (state n ls (Inside Atomic found) t)
enter_alike extra (Plain Relaxed) run h (Inside Atomic found) n ls t = refl

begin_alike : (extra : List Memory) (p : Context) (s : State) → Alike extra (begin_at p s) (begin_at (with_founds extra p) (further extra s))
begin_alike extra (Outside founds lefts) s = tick_alike.alike extra s
begin_alike extra (Inside mode m) s = refl

alike_preserved : (p : Program) → IsPreserved (IsPieceOf p) (λ c t. Unit {0}) (λ A run. IsAlike run)
alike_preserved p = record {
  pure_holds = λ a. record { alike = λ extra s. refl };
  on_holds = on_all;
  astray_holds = record { alike = λ extra s. refl };
  trap_holds = λ t. on_all tick_alike (λ _. record { alike = λ extra s. refl });
  tick_holds = tick_alike;
  locals_holds = record { alike = λ extra s. refl };
  put_locals_holds = λ ls. record { alike = λ extra s. refl };
  load_holds = λ c. record { alike = λ extra s. load_alike extra s.context c s };
  store_holds = λ c w t cell below. record { alike = λ extra s. store_alike extra s.context c w s };
  may_print_holds = record { alike = λ extra s. may_print_alike extra s.context s };
  print_piece_holds = λ text shown. on_all tick_alike (λ _. record { alike = λ extra s. refl });
  loop_holds = λ h. record { alike = λ extra s. turns_alike _ h extra s.ticks s };
  transaction_holds = λ kind h. record { alike = λ extra s. enter_alike extra kind _ h s.context s.ticks s.locals s.text };
  begin_value_holds = record { alike = λ extra s. begin_alike extra s.context s };
}

further_lefts : (extra : List Memory) (p : Context) → lefts_in (with_founds extra p) ≡ lefts_in p
further_lefts extra (Outside f l) = refl
further_lefts extra (Inside mode m) = refl

same : (extra : List Memory) (r more : Answer (Unit {0})) → Alike extra r more → (outcome_of r).end ≢ Stopped Wants → outcome_of more ≡ outcome_of r
same extra (Gives u s) more e wants = ap outcome_of e ∙ ap (λ l. record { lefts = l; text = s.text; end = Ended }) (further_lefts extra s.context)
same extra (Stops (Trapped t) s) more e wants = ap outcome_of e ∙ ap (λ l. record { lefts = l; text = s.text; end = Stopped (Trapped t) }) (further_lefts extra s.context)
same extra (Stops Astray s) more e wants = ap outcome_of e ∙ ap (λ l. record { lefts = l; text = s.text; end = Stopped Astray }) (further_lefts extra s.context)
same extra (Stops Spent s) more e wants = ap outcome_of e ∙ ap (λ l. record { lefts = l; text = s.text; end = Stopped Spent }) (further_lefts extra s.context)
same extra (Stops Wants s) more e wants = absurd (wants refl)

pub more_founds : MoreFounds
more_founds p t founds extra n wants =
    same extra (worker_run p t (first_state founds n)) (worker_run p t (first_state (founds ++ extra) n))
    ((worker_holds p (λ c t. Unit {0}) (any_cells p) (λ A run. IsAlike run) (alike_preserved p) t).alike extra (first_state founds n)) wants
