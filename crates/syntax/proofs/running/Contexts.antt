-- What comes to its end inside a transaction is in it still, and outside one memory is left for each that is found.
use Rattle.std.proofs.Common.{refl, sym, ap, ◌∙◌, ℕ, zero, suc, List, [], ◌∷◌, ◌++◌, length-append, append_assoc, append-nil, Option, Some, None, arith}
use Rattle.syntax.specs.declared.tree.Mode.{Mode}
use Rattle.syntax.specs.declared.tree.Mode.TheVariants.{Atomic, Relaxed}
use Rattle.syntax.specs.declared.tree.TransactionKind.{TransactionKind}
use Rattle.syntax.specs.declared.tree.TransactionKind.TheVariants.{Plain, Outer}
use Rattle.syntax.specs.declared.thread_end.Halt.TheVariants.{Trapped}
use Rattle.syntax.specs.Names.{Local}
use Rattle.syntax.specs.Behaviours.{Memory}
use Rattle.syntax.specs.Actions.{Context, Outside, Inside, State, Answer, Gives, Stops, Action, stop, go_on, ◌>>=◌, spend, tick, load_at, store, may_print_at, write}
use Rattle.syntax.specs.Meaning.{Completion, after_turn, turns, Left, left_by, close_inner, close, enter, mode_of, begin_at}
use Rattle.syntax.specs.Laws.{WhereGiven, StaysIn, StaysInContext}
use Rattle.syntax.proofs.running.Preserved.{IsAlwaysPreserved, each_expr_holds, each_stmt_holds}

pub stays_refl : (c : Context) → StaysIn c c
stays_refl (Outside f l) = ([], [], refl, sym (append-nil l), refl)
stays_refl (Inside mode m) = refl

pub stays_trans : (c d e : Context) → StaysIn c d → StaysIn d e → StaysIn c e
stays_trans (Outside f l) (Outside f' l') (Outside f'' l'') (u, a, fu, la, n) (u', a', fu', la', n') =
    let many = length-append u u' in
    let more = length-append a a' in
    (u ++ u', a ++ a', fu ∙ ap (λ x. u ++ x) fu' ∙ sym (append_assoc u u' f''), la' ∙ ap (λ x. x ++ a') la ∙ append_assoc l a a', omega (arith, many, more, n, n'))
stays_trans (Outside f l) (Outside f' l') (Inside mode m) a b = b
stays_trans (Outside f l) (Inside mode m) e a b = absurd a
stays_trans (Inside mode m) (Outside f l) e a b = absurd a
stays_trans (Inside mode m) (Inside mode' m') (Outside f l) a b = b
stays_trans (Inside mode m) (Inside mode' m') (Inside mode'' m'') a b = a ∙ b

abbrev pub Given : {A : Type 0} → Context → Answer A → Type 0
Given c r = WhereGiven r (λ a now. StaysIn c now.context)

pub record Stays {A : Type 0} (run : Action A) : Type 0 where
  pub stays : (s : State) → Given s.context (run s)

given_from : {A : Type 0} (c d : Context) (r : Answer A) → StaysIn c d → Given d r → Given c r
given_from c d (Gives a t) k h = stays_trans c d t.context k h
given_from c d (Stops why t) k h = tt

on_given : {A B : Type 0} (c : Context) (r : Answer A) (rest : A → Action B) → Given c r → ((a : A) (t : State) → Given t.context (rest a t)) → Given c (go_on r rest)
on_given c (Gives a t) rest g h = given_from c t.context (rest a t) g (h a t)
on_given c (Stops why t) rest g h = tt

spend_given : (n : ℕ) (s : State) → Given s.context (spend n s)
spend_given zero s = tt
spend_given (suc n) s = stays_refl s.context

load_given : (p : Context) (c : ℕ) (s : State) → Given s.context (load_at p c s)
load_given (Outside f l) c s = tt
load_given (Inside mode m) c s = stays_refl s.context

store_given : (n : ℕ) (ls : List Local) (p : Context) (t : List ℕ) (c w : ℕ) → Given p (store c w (record { ticks = n; locals = ls; context = p; text = t }))
store_given n ls (Outside f l) t c w = tt
store_given n ls (Inside mode m) t c w = refl

may_print_given : (p : Context) (s : State) → Given s.context (may_print_at p s)
may_print_given (Outside f l) s = stays_refl s.context
may_print_given (Inside Relaxed m) s = stays_refl s.context
may_print_given (Inside Atomic m) s = tt

after_turn_given : (rest : Action Completion) → ((s : State) → Given s.context (rest s)) → (o : Option Completion) (s : State) → Given s.context (after_turn rest o s)
after_turn_given rest h None s = h s
after_turn_given rest h (Some end) s = stays_refl s.context

turns_given : (turn : Action (Option Completion)) → Stays turn → (n : ℕ) (s : State) → Given s.context (turns n turn s)
turns_given turn h zero s = tt
turns_given turn h (suc n) s =
    on_given s.context (tick s) (λ _. turn >>= after_turn (turns n turn)) (spend_given s.ticks s)
    (λ _ t. on_given t.context (turn t) (after_turn (turns n turn)) (h.stays t) (after_turn_given (turns n turn) (turns_given turn h n)))

leave_given : (n : ℕ) (now : State) (m : Memory) (founds lefts : List Memory) (left : Left) → Given (Outside (m ∷ founds) lefts) (go_on (spend n (record now { context = Outside founds lefts })) (λ u then_. Gives left.end (record then_ { locals = left.locals; context = Outside founds (lefts ++ left.memory ∷ []) })))
leave_given zero now m founds lefts left = tt
leave_given (suc n) now m founds lefts left = (m ∷ [], left.memory ∷ [], refl, refl, refl)

close_given : (kind : TransactionKind) (m : Memory) (founds lefts : List Memory) (mine : List Local) (r : Answer Completion) → Given (Outside (m ∷ founds) lefts) (close kind founds lefts mine m r)
close_given kind m founds lefts mine (Gives end now) = leave_given now.ticks now m founds lefts (left_by kind mine m end now)
close_given kind m founds lefts mine (Stops (Trapped k) now) = tt
close_given kind m founds lefts mine r = tt

close_inner_given : (outer : Mode) (kind : TransactionKind) (m : Memory) (mine : List Local) (r : Answer Completion) → Given (Inside outer m) (close_inner outer kind mine m r)
close_inner_given outer kind m mine (Gives end now) = refl
close_inner_given outer kind m mine (Stops why now) = tt

begin_given : (p : Context) (s : State) → Given s.context (begin_at p s)
begin_given (Outside founds lefts) s = spend_given s.ticks s
begin_given (Inside mode m) s = stays_refl s.context

enter_given : (kind : TransactionKind) (run : Action Completion) → (p : Context) (n : ℕ) (ls : List Local) (t : List ℕ) → Given p (enter p kind run (record { ticks = n; locals = ls; context = p; text = t }))
enter_given kind run (Outside [] lefts) n ls t = tt
enter_given kind run (Outside (m ∷ founds) lefts) n ls t = close_given kind m founds lefts ls (run (record { ticks = n; locals = ls; context = Inside (mode_of kind) m; text = t }))
enter_given kind run (Inside Relaxed m) n ls t = close_inner_given Relaxed kind m ls (run (record { ticks = n; locals = ls; context = Inside (mode_of kind) m; text = t }))
enter_given (Plain Atomic) run (Inside Atomic m) n ls t = close_inner_given Atomic (Plain Atomic) m ls (run (record { ticks = n; locals = ls; context = Inside Atomic m; text = t }))
enter_given Outer run (Inside Atomic m) n ls t = close_inner_given Atomic Outer m ls (run (record { ticks = n; locals = ls; context = Inside Atomic m; text = t }))
enter_given (Plain Relaxed) run (Inside Atomic m) n ls t = tt

pub stays_preserved : IsAlwaysPreserved (λ A run. Stays run)
stays_preserved = record {
  pure_holds = λ a. record { stays = λ s. stays_refl s.context };
  on_holds = λ g h. record { stays = λ s. on_given s.context _ _ (g.stays s) (λ a t. (h a).stays t) };
  astray_holds = record { stays = λ s. tt };
  trap_holds = λ t. record { stays = λ s. on_given s.context (tick s) (λ _. stop (Trapped t)) (spend_given s.ticks s) (λ _ u. tt) };
  tick_holds = record { stays = λ s. spend_given s.ticks s };
  locals_holds = record { stays = λ s. stays_refl s.context };
  put_locals_holds = λ ls. record { stays = λ s. stays_refl s.context };
  load_holds = λ c. record { stays = λ s. load_given s.context c s };
  store_holds = λ c w t cell below. record { stays = λ s. store_given s.ticks s.locals s.context s.text c w };
  may_print_holds = record { stays = λ s. may_print_given s.context s };
  print_piece_holds = λ text shown. record { stays = λ s. on_given s.context (tick s) (λ _. write text) (spend_given s.ticks s) (λ _ u. stays_refl u.context) };
  loop_holds = λ h. record { stays = λ s. turns_given _ h s.ticks s };
  transaction_holds = λ kind h. record { stays = λ s. enter_given kind _ s.context s.ticks s.locals s.text };
  begin_value_holds = record { stays = λ s. begin_given s.context s };
}

pub stays_in_context : StaysInContext
stays_in_context p frames =
    (λ e s. (each_expr_holds p (λ A run. Stays run) stays_preserved frames e).stays s, λ st s. (each_stmt_holds p (λ A run. Stays run) stays_preserved frames st).stays s)
