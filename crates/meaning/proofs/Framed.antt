-- What expressions and statements do is the same whatever stands round it: each word of runs keeps this.
use Rattle.std.proofs.Common.{◌≡◌, ℕ, zero, suc, List, [], ◌∷◌, ◌++◌, Option, Some, None, Bool, true, false, refl, sym, ap, ◌∙◌, subst, append_assoc}
use Rattle.syntax.specs.declared.tree.Mode.{Mode}
use Rattle.syntax.specs.declared.tree.Mode.TheVariants.{Atomic, Relaxed}
use Rattle.syntax.specs.declared.tree.TransactionKind.{TransactionKind}
use Rattle.syntax.specs.declared.tree.TransactionKind.TheVariants.{Plain, Outer}
use Rattle.syntax.specs.Names.{Local}
use Rattle.syntax.specs.declared.thread_end.Halt.TheVariants.{Trapped, Wants, Spent, Astray}
use Rattle.syntax.specs.Behaviours.{Memory}
use Rattle.syntax.specs.Actions.{Context, Outside, Inside, State, Answer, Gives, Stops, Action, go_on, ◌>>=◌, spend, tick, load_at, store_at, may_print_at, memory_in, write}
use Rattle.syntax.specs.Meaning.{Completion, after_turn, turns, Left, undoes, left_or, left_by, leave_inner, close_inner, inner, close, enter, mode_of, begin_at}
use Rattle.syntax.proofs.running.Preserved.{IsAlwaysPreserved}
use Rattle.meaning.specs.Frames.{StateExtension, context_framed, extended_state, Alike, IsFramed}

on_alike : {A B : Type 0} (f : StateExtension) (r more : Answer A) (rest : A → Action B) → Alike f r more → ((a : A) (t : State) → Alike f (rest a t) (rest a (extended_state f t))) → Alike f (go_on r rest) (go_on more rest)
on_alike f (Gives a s) more rest e h = subst (λ x. Alike f (rest a s) (go_on x rest)) (sym e) (h a s)
on_alike f (Stops (Trapped t) s) more rest e h = ap (λ x. go_on x rest) e
on_alike f (Stops Astray s) more rest e h = ap (λ x. go_on x rest) e
on_alike f (Stops Spent s) more rest e h = ap (λ x. go_on x rest) e
on_alike f (Stops Wants s) more rest e h = λ n. ap (λ x. go_on x rest) (e n)

pub on_framed : {A B : Type 0} {run : Action A} {rest : A → Action B} → IsFramed run → ((a : A) → IsFramed (rest a)) → IsFramed (run >>= rest)
on_framed {run = run} {rest = rest} g h = record { alike = λ f s. on_alike f (run s) (run (extended_state f s)) rest (g.alike f s) (λ a t. (h a).alike f t) }

spend_alike : (f : StateExtension) (n : ℕ) (s : State) → Alike f (spend n s) (spend n (extended_state f s))
spend_alike f zero s = refl
spend_alike f (suc n) s = refl

tick_framed : IsFramed tick
tick_framed = record { alike = λ f s. spend_alike f s.ticks s }

load_alike : (f : StateExtension) (p : Context) (c : ℕ) (s : State) → Alike f (load_at p c s) (load_at (context_framed f p) c (extended_state f s))
load_alike f (Outside founds lefts) c s = refl
load_alike f (Inside mode m) c s = refl

store_alike : (f : StateExtension) (p : Context) (c w : ℕ) (s : State) → Alike f (store_at p c w s) (store_at (context_framed f p) c w (extended_state f s))
store_alike f (Outside founds lefts) c w s = refl
store_alike f (Inside mode m) c w s = refl

may_print_alike : (f : StateExtension) (p : Context) (s : State) → Alike f (may_print_at p s) (may_print_at (context_framed f p) (extended_state f s))
may_print_alike f (Outside founds lefts) s = refl
may_print_alike f (Inside Relaxed m) s = refl
may_print_alike f (Inside Atomic m) s = refl

abbrev state : ℕ → List Local → Context → List ℕ → State
state n ls p t = record { ticks = n; locals = ls; context = p; text = t }

write_alike : (f : StateExtension) (text : List ℕ) (s : State) → Alike f (write text s) (write text (extended_state f s))
write_alike f text s = ap (λ t. Gives tt (state s.ticks s.locals (context_framed f s.context) t)) (append_assoc f.text s.text text)

after_turn_alike : (f : StateExtension) (rest : Action Completion) → ((s : State) → Alike f (rest s) (rest (extended_state f s))) → (o : Option Completion) (s : State) → Alike f (after_turn rest o s) (after_turn rest o (extended_state f s))
after_turn_alike f rest h None s = h s
after_turn_alike f rest h (Some end) s = refl

turns_alike : (turn : Action (Option Completion)) → IsFramed turn → (f : StateExtension) (n : ℕ) (s : State) → Alike f (turns n turn s) (turns n turn (extended_state f s))
turns_alike turn h f zero s = refl
turns_alike turn h f (suc n) s =
    on_alike f (tick s) (tick (extended_state f s)) (λ _. turn >>= after_turn (turns n turn)) (tick_framed.alike f s)
    (λ _ t. on_alike f (turn t) (turn (extended_state f t)) (after_turn (turns n turn)) (h.alike f t) (after_turn_alike f (turns n turn) (turns_alike turn h f n)))

memory_framed : (f : StateExtension) (p : Context) → memory_in (context_framed f p) ≡ memory_in p
memory_framed f (Outside founds lefts) = refl
memory_framed f (Inside mode m) = refl

abbrev left_with : Completion → List Local → Memory → Left
left_with end ls m = record { end = end; locals = ls; memory = m }

left_framed : (f : StateExtension) (undone : Bool) (mine : List Local) (found : Memory) (end : Completion) (now : State) → left_or undone mine found end (extended_state f now) ≡ left_or undone mine found end now
left_framed f true mine found end now = refl
left_framed f false mine found end now = ap (λ m. left_with end now.locals m) (memory_framed f now.context)

close_inner_alike : (outer : Mode) (kind : TransactionKind) (mine : List Local) (found : Memory) (f : StateExtension) (r more : Answer Completion) → Alike f r more → Alike f (close_inner outer kind mine found r) (close_inner outer kind mine found more)
close_inner_alike outer kind mine found f (Gives end now) more e =
    ap (close_inner outer kind mine found) e ∙ ap (λ l. leave_inner outer l (extended_state f now)) (left_framed f (undoes end kind) mine found end now)
close_inner_alike outer kind mine found f (Stops (Trapped t) s) more e = ap (close_inner outer kind mine found) e
close_inner_alike outer kind mine found f (Stops Astray s) more e = ap (close_inner outer kind mine found) e
close_inner_alike outer kind mine found f (Stops Spent s) more e = ap (close_inner outer kind mine found) e
close_inner_alike outer kind mine found f (Stops Wants s) more e = λ n. ap (close_inner outer kind mine found) (e n)

inner_alike : (f : StateExtension) (outer : Mode) (kind : TransactionKind) (found : Memory) (run : Action Completion) → IsFramed run → (s : State) → Alike f (inner outer kind found run s) (inner outer kind found run (extended_state f s))
inner_alike f outer kind found run h s =
    let start = state s.ticks s.locals (Inside (mode_of kind) found) s.text in
    close_inner_alike outer kind s.locals found f (run start) (run (extended_state f start)) (h.alike f start)

abbrev leave_at : ℕ → State → List Memory → List Memory → Left → Answer Completion
leave_at n now founds lefts left =
    go_on (spend n (record now { context = Outside founds lefts }))
    (λ u then_. Gives left.end (record then_ { locals = left.locals; context = Outside founds (lefts ++ left.memory ∷ []) }))

leave_alike : (f : StateExtension) (n : ℕ) (now : State) (founds lefts : List Memory) (left : Left) → Alike f (leave_at n now founds lefts left) (leave_at n (extended_state f now) (founds ++ f.founds) (f.lefts ++ lefts) left)
leave_alike f zero now founds lefts left = refl
leave_alike f (suc n) now founds lefts left =
    ap (λ ls. Gives left.end (state n left.locals (Outside (founds ++ f.founds) ls) (f.text ++ now.text))) (append_assoc f.lefts lefts (left.memory ∷ []))

close_alike : (kind : TransactionKind) (f : StateExtension) (founds lefts : List Memory) (mine : List Local) (found : Memory) (r more : Answer Completion) → Alike f r more → Alike f (close kind founds lefts mine found r) (close kind (founds ++ f.founds) (f.lefts ++ lefts) mine found more)
close_alike kind f founds lefts mine found (Gives end now) more e =
    let left = left_by kind mine found end now in
    let same = ap (close kind (founds ++ f.founds) (f.lefts ++ lefts) mine found) e ∙ ap (λ l. leave_at now.ticks (extended_state f now) (founds ++ f.founds) (f.lefts ++ lefts) l) (left_framed f (undoes end kind) mine found end now) in
    subst (λ x. Alike f (leave_at now.ticks now founds lefts left) x) (sym same) (leave_alike f now.ticks now founds lefts left)
close_alike kind f founds lefts mine found (Stops (Trapped t) s) more e =
    ap (close kind (founds ++ f.founds) (f.lefts ++ lefts) mine found) e
    ∙ ap (λ ls. Stops (Trapped t) (state s.ticks s.locals (Outside (founds ++ f.founds) ls) (f.text ++ s.text))) (append_assoc f.lefts lefts (found ∷ []))
close_alike kind f founds lefts mine found (Stops Astray s) more e = ap (close kind (founds ++ f.founds) (f.lefts ++ lefts) mine found) e
close_alike kind f founds lefts mine found (Stops Spent s) more e = ap (close kind (founds ++ f.founds) (f.lefts ++ lefts) mine found) e
close_alike kind f founds lefts mine found (Stops Wants s) more e = λ n. ap (close kind (founds ++ f.founds) (f.lefts ++ lefts) mine found) (e n)

-- a transaction that finds no memory finds none where there is no further one
wants_alike : (f : StateExtension) (founds lefts : List Memory) (kind : TransactionKind) (run : Action Completion) (s : State) → founds ≡ [] → enter (Outside founds lefts) kind run s ≡ Stops Wants s
wants_alike f founds lefts kind run s none = ap (λ fs. enter (Outside fs lefts) kind run s) none

enter_alike : (f : StateExtension) (kind : TransactionKind) (run : Action Completion) → IsFramed run → (p : Context) (n : ℕ) (ls : List Local) (t : List ℕ) → Alike f (enter p kind run (state n ls p t)) (enter (context_framed f p) kind run (extended_state f (state n ls p t)))
enter_alike f kind run h (Outside [] lefts) n ls t = λ none. wants_alike f f.founds (f.lefts ++ lefts) kind run (extended_state f (state n ls (Outside [] lefts) t)) none
enter_alike f kind run h (Outside (found ∷ founds) lefts) n ls t =
    let start = state n ls (Inside (mode_of kind) found) t in
    close_alike kind f founds lefts ls found (run start) (run (extended_state f start)) (h.alike f start)
enter_alike f kind run h (Inside Relaxed found) n ls t = inner_alike f Relaxed kind found run h (state n ls (Inside Relaxed found) t)
enter_alike f (Plain Atomic) run h (Inside Atomic found) n ls t = inner_alike f Atomic (Plain Atomic) found run h (state n ls (Inside Atomic found) t)
enter_alike f Outer run h (Inside Atomic found) n ls t = inner_alike f Atomic Outer found run h (state n ls (Inside Atomic found) t)
enter_alike f (Plain Relaxed) run h (Inside Atomic found) n ls t = refl

begin_alike : (f : StateExtension) (p : Context) (s : State) → Alike f (begin_at p s) (begin_at (context_framed f p) (extended_state f s))
begin_alike f (Outside founds lefts) s = tick_framed.alike f s
begin_alike f (Inside mode m) s = refl

pub framed_preserved : IsAlwaysPreserved (λ A run. IsFramed run)
framed_preserved = record {
  pure_holds = λ a. record { alike = λ f s. refl };
  on_holds = on_framed;
  astray_holds = record { alike = λ f s. refl };
  trap_holds = λ t. on_framed tick_framed (λ _. record { alike = λ f s. refl });
  tick_holds = tick_framed;
  locals_holds = record { alike = λ f s. refl };
  put_locals_holds = λ ls. record { alike = λ f s. refl };
  load_holds = λ c. record { alike = λ f s. load_alike f s.context c s };
  store_holds = λ c w t is below. record { alike = λ f s. store_alike f s.context c w s };
  may_print_holds = record { alike = λ f s. may_print_alike f s.context s };
  print_piece_holds = λ text shown. on_framed tick_framed (λ _. record { alike = λ f s. write_alike f text s });
  loop_holds = λ h. record { alike = λ f s. turns_alike _ h f s.ticks s };
  transaction_holds = λ kind h. record { alike = λ f s. enter_alike f kind _ h s.context s.ticks s.locals s.text };
  begin_value_holds = record { alike = λ f s. begin_alike f s.context s };
}
