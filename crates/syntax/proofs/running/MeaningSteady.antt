-- Each part of the meaning is steady.
use Rattle.std.proofs.Common.{◌≡◌, ℕ, zero, suc, List, [], ◌∷◌, ◌++◌, Option, Some, None, Bool, true, false, refl, sym, ap, ◌∙◌, subst, append-nil}
use Rattle.syntax.specs.declared.tree.Mode.{Mode}
use Rattle.syntax.specs.declared.tree.Mode.TheVariants.{Atomic, Relaxed}
use Rattle.syntax.specs.declared.tree.TransactionKind.{TransactionKind}
use Rattle.syntax.specs.declared.tree.TransactionKind.TheVariants.{Plain, Outer}
use Rattle.syntax.specs.Tree.{Program}
use Rattle.syntax.specs.Names.{Local}
use Rattle.syntax.specs.declared.thread_end.Halt.TheVariants.{Trapped, Wants, Spent, Astray}
use Rattle.syntax.specs.Behaviours.{Memory}
use Rattle.syntax.specs.Actions.{Context, Outside, Inside, State, Answer, Gives, Stops, Action, stop, go_on, ◌>>=◌, spend, tick}
use Rattle.syntax.specs.Actions.{memory_in}
use Rattle.syntax.specs.Meaning.{Completion, after_turn, turns, loop, Left, undoes, left_or, left_by, leave_inner, close_inner, inner, close, outermost, enter, transaction, mode_of, begin_at, begin_value}
use Rattle.syntax.specs.Threads.{worker_run}
use Rattle.syntax.proofs.running.Further.{state_of, added, with_founds, with_more, Follows, Grown, Extends, IsSteady}
use Rattle.syntax.specs.Laws.{IsPieceOf}
use Rattle.syntax.proofs.running.Preserved.{IsPreserved, any_cells, worker_holds}
use Rattle.syntax.proofs.running.Steady.{still, grown_trans, more_grown, on_grown, on_extends, on_steady, pure_steady, astray_steady, tick_steady, locals_steady, put_locals_steady, load_steady, store_steady, may_print_steady, trap_steady, print_piece_steady}

after_turn_grows : (rest : Action Completion) → ((s : State) → Grown s (state_of (rest s))) → (o : Option Completion) (s : State) → Grown s (state_of (after_turn rest o s))
after_turn_grows rest h None s = h s
after_turn_grows rest h (Some end) s = still s

after_turn_extends : (k : ℕ) (extra : List Memory) (rest rest' : Action Completion) → ((s : State) → Extends k extra (rest s) (rest' (with_more k extra s))) → (o : Option Completion) (s : State) → Extends k extra (after_turn rest o s) (after_turn rest' o (with_more k extra s))
after_turn_extends k extra rest rest' h None s = h s
after_turn_extends k extra rest rest' h (Some end) s = refl

turns_grow : (turn : Action (Option Completion)) → IsSteady turn → (n : ℕ) (s : State) → Grown s (state_of (turns n turn s))
turns_grow turn h zero s = still s
turns_grow turn h (suc n) s =
    on_grown s (tick s) (λ _. turn >>= after_turn (turns n turn)) (tick_steady.grows s)
    (λ _ t. on_grown t (turn t) (after_turn (turns n turn)) (h.grows t) (after_turn_grows _ (turns_grow turn h n)))

-- with more ticks a loop may make more turns, and makes the same ones before them
turns_extend : (turn : Action (Option Completion)) → IsSteady turn → (k : ℕ) (extra : List Memory) (n : ℕ) (s : State) → Extends k extra (turns n turn s) (turns (added n k) turn (with_more k extra s))
turns_extend turn h k extra zero s = grown_trans s (with_more k extra s) _ (more_grown k extra s) (turns_grow turn h k (with_more k extra s))
turns_extend turn h k extra (suc n) s =
    on_extends k extra (tick s) (tick (with_more k extra s)) (λ _. turn >>= after_turn (turns n turn)) (λ _. turn >>= after_turn (turns (added n k) turn)) (tick_steady.extends k extra s)
    (λ _ t. on_grown t (turn t) (after_turn (turns (added n k) turn)) (h.grows t) (after_turn_grows _ (turns_grow turn h (added n k))))
    (λ _ t. on_extends k extra (turn t) (turn (with_more k extra t)) (after_turn (turns n turn)) (after_turn (turns (added n k) turn)) (h.extends k extra t) (after_turn_grows _ (turns_grow turn h (added n k))) (after_turn_extends k extra (turns n turn) (turns (added n k) turn) (turns_extend turn h k extra n)))

loop_steady : {turn : Action (Option Completion)} → IsSteady turn → IsSteady (loop turn)
loop_steady {turn = turn} h = record { grows = λ s. turns_grow turn h s.ticks s; extends = λ k extra s. turns_extend turn h k extra s.ticks s }

memory_further : (extra : List Memory) (p : Context) → memory_in (with_founds extra p) ≡ memory_in p
memory_further extra (Outside founds lefts) = refl
memory_further extra (Inside mode m) = refl

abbrev left_with : Completion → List Local → Memory → Left
left_with end ls m = record { end = end; locals = ls; memory = m }

abbrev IsInside : Context → Type 0
IsInside (Outside founds lefts) = ⊥
IsInside (Inside mode m) = Unit {0}

inside_follows : (p : Context) → IsInside p → (outer : Mode) (m : Memory) → Follows p (Inside outer m)
inside_follows (Outside founds lefts) f outer m = f
inside_follows (Inside mode m') f outer m = tt

-- a run that begins inside stays inside
stays_inside : (mode : Mode) (m : Memory) (p : Context) → Follows (Inside mode m) p → IsInside p
stays_inside mode m (Outside founds lefts) f = f
stays_inside mode m (Inside mode' m') f = tt

-- what a transaction leaves does not hang on what there is more
left_further : (k : ℕ) (extra : List Memory) (undone : Bool) (mine : List Local) (found : Memory) (end : Completion) (now : State) → left_or undone mine found end (with_more k extra now) ≡ left_or undone mine found end now
left_further k extra true mine found end now = refl
left_further k extra false mine found end now = ap (λ m. left_with end now.locals m) (memory_further extra now.context)

abbrev state : ℕ → List Local → Context → List ℕ → State
state n ls p t = record { ticks = n; locals = ls; context = p; text = t }

module _ (outer : Mode) (kind : TransactionKind) (mine : List Local) (found : Memory) where
  close_inner_grows : (s : State) (r : Answer Completion) → IsInside s.context → Grown s (state_of r) → Grown s (state_of (close_inner outer kind mine found r))
  close_inner_grows s (Gives end now) f g = record { printed = g.printed; text = g.text; context = inside_follows s.context f outer _ }
  close_inner_grows s (Stops why now) f g = g

  close_inner_extends : (k : ℕ) (extra : List Memory) (r more : Answer Completion) → IsInside (state_of r).context → Extends k extra r more → Extends k extra (close_inner outer kind mine found r) (close_inner outer kind mine found more)
  close_inner_extends k extra (Gives end now) more f e =
      ap (close_inner outer kind mine found) e ∙ ap (λ l. leave_inner outer l (with_more k extra now)) (left_further k extra (undoes end kind) mine found end now)
  close_inner_extends k extra (Stops (Trapped t) s) more f e = ap (close_inner outer kind mine found) e
  close_inner_extends k extra (Stops Astray s) more f e = ap (close_inner outer kind mine found) e
  close_inner_extends k extra (Stops Spent s) more f e = close_inner_grows s more f e
  close_inner_extends k extra (Stops Wants s) more f e = (close_inner_grows s more f e.0, λ n. ap (close_inner outer kind mine found) (e.1 n))

-- the answer of a transaction inside another one
inner_steady : (outer : Mode) (kind : TransactionKind) (found : Memory) (run : Action Completion) → IsSteady run → (n : ℕ) (ls : List Local) (old : Memory) (t : List ℕ) → Grown (state n ls (Inside outer old) t) (state_of (inner outer kind found run (state n ls (Inside outer old) t)))
inner_steady outer kind found run h n ls old t =
    let g = h.grows (state n ls (Inside (mode_of kind) found) t) in
    inner_grown (run (state n ls (Inside (mode_of kind) found) t)) g
  where
    inner_grown : (r : Answer Completion) → Grown (state n ls (Inside (mode_of kind) found) t) (state_of r) → Grown (state n ls (Inside outer old) t) (state_of (close_inner outer kind ls found r))
    inner_grown (Gives end now) g = record { printed = g.printed; text = g.text; context = tt }
    inner_grown (Stops why now) g = record { printed = g.printed; text = g.text; context = inside_too now.context (stays_inside (mode_of kind) found now.context g.context) }
      where
        inside_too : (p : Context) → IsInside p → Follows (Inside outer old) p
        inside_too (Outside founds lefts) f = f
        inside_too (Inside mode' m') f = tt

inner_extends : (k : ℕ) (extra : List Memory) (outer : Mode) (kind : TransactionKind) (found : Memory) (run : Action Completion) → IsSteady run → (s : State) → Extends k extra (inner outer kind found run s) (inner outer kind found run (with_more k extra s))
inner_extends k extra outer kind found run h s =
    let start = record s { context = Inside (mode_of kind) found } in
    close_inner_extends outer kind s.locals found k extra (run start) (run (with_more k extra start)) (stays_inside (mode_of kind) found (state_of (run start)).context (h.grows start).context) (h.extends k extra start)

-- an outermost transaction that is left, with its tick or without
abbrev leave_at : ℕ → State → List Memory → List Memory → Left → Answer Completion
leave_at n now founds lefts left =
    go_on (spend n (record now { context = Outside founds lefts }))
    (λ u then_. Gives left.end (record then_ { locals = left.locals; context = Outside founds (lefts ++ left.memory ∷ []) }))

leave_grows : (n : ℕ) (old now : State) (founds founds' lefts : List Memory) (left : Left) → (printed : List ℕ) → now.text ≡ old.text ++ printed → Grown (record old { context = Outside founds lefts }) (state_of (leave_at n now founds' lefts left))
leave_grows zero old now founds founds' lefts left printed e = record { printed = printed; text = e; context = ([], sym (append-nil lefts)) }
leave_grows (suc n) old now founds founds' lefts left printed e = record { printed = printed; text = e; context = (left.memory ∷ [], refl) }

leave_extends : (k : ℕ) (extra : List Memory) (n : ℕ) (now : State) (founds lefts : List Memory) (left : Left) → Extends k extra (leave_at n now founds lefts left) (leave_at (added n k) (with_more k extra now) (founds ++ extra) lefts left)
leave_extends k extra zero now founds lefts left = leave_grows k now (with_more k extra now) founds (founds ++ extra) lefts left [] (sym (append-nil now.text))
leave_extends k extra (suc n) now founds lefts left = refl

close_grows : (kind : TransactionKind) (founds founds' lefts : List Memory) (mine : List Local) (found : Memory) (s : State) (r : Answer Completion) → Grown s (state_of r) → Grown (record s { context = Outside founds lefts }) (state_of (close kind founds' lefts mine found r))
close_grows kind founds founds' lefts mine found s (Gives end now) g = leave_grows now.ticks s now founds founds' lefts (left_by kind mine found end now) g.printed g.text
close_grows kind founds founds' lefts mine found s (Stops (Trapped t) now) g = record { printed = g.printed; text = g.text; context = (found ∷ [], refl) }
close_grows kind founds founds' lefts mine found s (Stops Wants now) g = record { printed = g.printed; text = g.text; context = ([], sym (append-nil lefts)) }
close_grows kind founds founds' lefts mine found s (Stops Spent now) g = record { printed = g.printed; text = g.text; context = ([], sym (append-nil lefts)) }
close_grows kind founds founds' lefts mine found s (Stops Astray now) g = record { printed = g.printed; text = g.text; context = ([], sym (append-nil lefts)) }

close_extends : (kind : TransactionKind) (k : ℕ) (extra founds lefts : List Memory) (mine : List Local) (found : Memory) (r more : Answer Completion) → Extends k extra r more → Extends k extra (close kind founds lefts mine found r) (close kind (founds ++ extra) lefts mine found more)
close_extends kind k extra founds lefts mine found (Gives end now) more e =
    let left = left_by kind mine found end now in
    let same = ap (close kind (founds ++ extra) lefts mine found) e ∙ ap (λ l. leave_at (added now.ticks k) (with_more k extra now) (founds ++ extra) lefts l) (left_further k extra (undoes end kind) mine found end now) in
    subst (λ x. Extends k extra (leave_at now.ticks now founds lefts left) x) (sym same) (leave_extends k extra now.ticks now founds lefts left)
close_extends kind k extra founds lefts mine found (Stops (Trapped t) s) more e = ap (close kind (founds ++ extra) lefts mine found) e
close_extends kind k extra founds lefts mine found (Stops Astray s) more e = ap (close kind (founds ++ extra) lefts mine found) e
close_extends kind k extra founds lefts mine found (Stops Spent s) more e = close_grows kind founds (founds ++ extra) lefts mine found s more e
close_extends kind k extra founds lefts mine found (Stops Wants s) more e =
    (close_grows kind founds (founds ++ extra) lefts mine found s more e.0, λ n. ap (close kind (founds ++ extra) lefts mine found) (e.1 n) ∙ ap (λ x. Stops Wants (record s { ticks = added s.ticks k; context = Outside (founds ++ x) lefts })) n)

outermost_extends : (k : ℕ) (extra : List Memory) (kind : TransactionKind) (found : Memory) (founds lefts : List Memory) (run : Action Completion) → IsSteady run → (s : State) → Extends k extra (outermost kind found founds lefts run s) (outermost kind found (founds ++ extra) lefts run (with_more k extra s))
outermost_extends k extra kind found founds lefts run h s =
    let start = record s { context = Inside (mode_of kind) found } in
    close_extends kind k extra founds lefts s.locals found (run start) (run (with_more k extra start)) (h.extends k extra start)

outermost_grows : (kind : TransactionKind) (found : Memory) (founds founds' lefts : List Memory) (run : Action Completion) → IsSteady run → (s : State) → Grown (record s { context = Outside founds' lefts }) (state_of (outermost kind found founds lefts run s))
outermost_grows kind found founds founds' lefts run h s =
    let start = record s { context = Inside (mode_of kind) found } in
    close_grows kind founds' founds lefts s.locals found start (run start) (h.grows start)

enter_grows : (kind : TransactionKind) (run : Action Completion) → IsSteady run → (p : Context) (n : ℕ) (ls : List Local) (t : List ℕ) → Grown (state n ls p t) (state_of (enter p kind run (state n ls p t)))
enter_grows kind run h (Outside [] lefts) n ls t = still (state n ls (Outside [] lefts) t)
enter_grows kind run h (Outside (found ∷ founds) lefts) n ls t = outermost_grows kind found founds (found ∷ founds) lefts run h (state n ls (Outside (found ∷ founds) lefts) t)
enter_grows kind run h (Inside Relaxed found) n ls t = inner_steady Relaxed kind found run h n ls found t
enter_grows (Plain Atomic) run h (Inside Atomic found) n ls t = inner_steady Atomic (Plain Atomic) found run h n ls found t
enter_grows Outer run h (Inside Atomic found) n ls t = inner_steady Atomic Outer found run h n ls found t
enter_grows (Plain Relaxed) run h (Inside Atomic found) n ls t = still (state n ls (Inside Atomic found) t)

wants_extends : (k : ℕ) (extra lefts : List Memory) (kind : TransactionKind) (run : Action Completion) → IsSteady run → (n : ℕ) (ls : List Local) (t : List ℕ) → Extends k extra (stop {A = Completion} Wants (state n ls (Outside [] lefts) t)) (enter (Outside extra lefts) kind run (state (added n k) ls (Outside extra lefts) t))
wants_extends k [] lefts kind run h n ls t = (more_grown k [] (state n ls (Outside [] lefts) t), λ _. refl)
wants_extends k (m ∷ ms) lefts kind run h n ls t =
    let s = state (added n k) ls (Outside (m ∷ ms) lefts) t in
    (grown_trans (state n ls (Outside [] lefts) t) s _ (more_grown k (m ∷ ms) (state n ls (Outside [] lefts) t)) (outermost_grows kind m ms (m ∷ ms) lefts run h s), λ e. absurd (cc))

enter_extends : (k : ℕ) (extra : List Memory) (kind : TransactionKind) (run : Action Completion) → IsSteady run → (p : Context) (n : ℕ) (ls : List Local) (t : List ℕ) → Extends k extra (enter p kind run (state n ls p t)) (enter (with_founds extra p) kind run (with_more k extra (state n ls p t)))
enter_extends k extra kind run h (Outside [] lefts) n ls t = wants_extends k extra lefts kind run h n ls t
enter_extends k extra kind run h (Outside (found ∷ founds) lefts) n ls t = outermost_extends k extra kind found founds lefts run h (state n ls (Outside (found ∷ founds) lefts) t)
enter_extends k extra kind run h (Inside Relaxed found) n ls t = inner_extends k extra Relaxed kind found run h (state n ls (Inside Relaxed found) t)
enter_extends k extra (Plain Atomic) run h (Inside Atomic found) n ls t = inner_extends k extra Atomic (Plain Atomic) found run h (state n ls (Inside Atomic found) t)
enter_extends k extra Outer run h (Inside Atomic found) n ls t = inner_extends k extra Atomic Outer found run h (state n ls (Inside Atomic found) t)
enter_extends k extra (Plain Relaxed) run h (Inside Atomic found) n ls t = refl

transaction_steady : (kind : TransactionKind) {run : Action Completion} → IsSteady run → IsSteady (transaction kind run)
transaction_steady kind {run} h = record {
  grows = λ s. enter_grows kind run h s.context s.ticks s.locals s.text;
  extends = λ k extra s. enter_extends k extra kind run h s.context s.ticks s.locals s.text;
}

begin_grows : (p : Context) (s : State) → Grown s (state_of (begin_at p s))
begin_grows (Outside founds lefts) s = tick_steady.grows s
begin_grows (Inside mode m) s = still s

begin_extends : (k : ℕ) (extra : List Memory) (p : Context) (s : State) → Extends k extra (begin_at p s) (begin_at (with_founds extra p) (with_more k extra s))
begin_extends k extra (Outside founds lefts) s = tick_steady.extends k extra s
begin_extends k extra (Inside mode m) s = refl

begin_value_steady : IsSteady begin_value
begin_value_steady = record { grows = λ s. begin_grows s.context s; extends = λ k extra s. begin_extends k extra s.context s }

steady_preserved : (p : Program) → IsPreserved (IsPieceOf p) (λ c t. Unit {0}) (λ A run. IsSteady run)
steady_preserved p = record {
  pure_holds = pure_steady;
  on_holds = on_steady;
  astray_holds = astray_steady;
  trap_holds = trap_steady;
  tick_holds = tick_steady;
  locals_holds = locals_steady;
  put_locals_holds = put_locals_steady;
  load_holds = load_steady;
  store_holds = λ c w t cell below. store_steady c w;
  may_print_holds = may_print_steady;
  print_piece_holds = λ text shown. print_piece_steady text;
  loop_holds = loop_steady;
  transaction_holds = transaction_steady;
  begin_value_holds = begin_value_steady;
}

pub worker_steady : (p : Program) (t : ℕ) → IsSteady (worker_run p t)
worker_steady p t = worker_holds p (λ c t. Unit {0}) (any_cells p) (λ A run. IsSteady run) (steady_preserved p) t
