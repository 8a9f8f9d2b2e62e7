-- Where a thread wants a memory, it has left one for each that it found.
use Rattle.std.proofs.Common.{◌≡◌, ℕ, zero, suc, ◌+◌, List, [], ◌∷◌, ◌++◌, ◌≤◌, length, length-append, Option, Some, None, refl, ◌∙◌, arith}
use Rattle.syntax.specs.declared.tree.Mode.{Mode}
use Rattle.syntax.specs.declared.tree.Mode.TheVariants.{Atomic, Relaxed}
use Rattle.syntax.specs.declared.tree.TransactionKind.{TransactionKind}
use Rattle.syntax.specs.declared.tree.TransactionKind.TheVariants.{Plain, Outer}
use Rattle.syntax.specs.declared.thread_end.Halt.TheVariants.{Trapped, Wants, Spent, Astray}
use Rattle.syntax.specs.Tree.{Program}
use Rattle.syntax.specs.Names.{Local}
use Rattle.syntax.specs.Behaviours.{Memory}
use Rattle.syntax.specs.Actions.{Context, Outside, Inside, State, Answer, Gives, Stops, Action, stop, go_on, ◌>>=◌, spend, tick, load_at, store, may_print_at, write}
use Rattle.syntax.specs.Meaning.{Completion, after_turn, turns, Left, left_by, close_inner, close, enter, mode_of, begin_at}
use Rattle.syntax.specs.Actions.{lefts_in}
use Rattle.syntax.specs.Behaviours.{Stopped}
use Rattle.syntax.specs.Laws.{IsPieceOf, LeftAsManyAsFound, NeverMoreLeft}
use Rattle.syntax.specs.Threads.{outcome_of, first_state, worker_run}
use Rattle.syntax.proofs.running.Preserved.{IsPreserved, any_cells, worker_holds}

-- memories to be found and memories left are as many as before
abbrev Keeps : Context → Context → Type 0
Keeps (Outside f l) (Outside f' l') = length f' + length l' ≡ length f + length l
Keeps (Outside f l) (Inside mode m) = ⊥
Keeps (Inside mode m) (Outside f l) = ⊥
Keeps (Inside mode m) (Inside mode' m') = Unit {0}

-- a memory is wanted outside alone, where none is left to be found
abbrev Wanting : Context → Context → Type 0
Wanting (Outside f l) (Outside f' l') = length l' ≡ length f + length l
Wanting (Outside f l) (Inside mode m) = ⊥
Wanting (Inside mode m) q = ⊥

-- no more memories are left outside than were to be found and left
abbrev Bounded : Context → Context → Type 0
Bounded (Outside f l) (Outside f' l') = length l' ≤ length f + length l
Bounded (Outside f l) (Inside mode m) = ⊥
Bounded (Inside mode m) q = Unit {0}

abbrev Counted : {A : Type 0} → Context → Answer A → Type 0
Counted p (Gives a t) = Keeps p t.context
Counted p (Stops Wants t) = Wanting p t.context
Counted p (Stops (Trapped k) t) = Bounded p t.context
Counted p (Stops Spent t) = Bounded p t.context
Counted p (Stops Astray t) = Bounded p t.context

record IsCounted {A : Type 0} (run : Action A) : Type 0 where
  counts : (s : State) → Counted s.context (run s)

keeps_refl : (p : Context) → Keeps p p
keeps_refl (Outside f l) = refl
keeps_refl (Inside mode m) = tt

keeps_trans : (p q r : Context) → Keeps p q → Keeps q r → Keeps p r
keeps_trans (Outside f l) (Outside f' l') (Outside f'' l'') a b = b ∙ a
keeps_trans (Outside f l) (Outside f' l') (Inside mode m) a b = b
keeps_trans (Outside f l) (Inside mode m) r a b = absurd a
keeps_trans (Inside mode m) (Outside f l) r a b = absurd a
keeps_trans (Inside mode m) (Inside mode' m') (Outside f l) a b = b
keeps_trans (Inside mode m) (Inside mode' m') (Inside mode'' m'') a b = tt

wanting_trans : (p q r : Context) → Keeps p q → Wanting q r → Wanting p r
wanting_trans (Outside f l) (Outside f' l') (Outside f'' l'') a b = b ∙ a
wanting_trans (Outside f l) (Outside f' l') (Inside mode m) a b = b
wanting_trans (Outside f l) (Inside mode m) r a b = absurd a
wanting_trans (Inside mode m) (Outside f l) r a b = absurd a
wanting_trans (Inside mode m) (Inside mode' m') r a b = absurd b

bounded_refl : (p : Context) → Bounded p p
bounded_refl (Outside f l) = omega arith
bounded_refl (Inside mode m) = tt

bounded_trans : (p q r : Context) → Keeps p q → Bounded q r → Bounded p r
bounded_trans (Outside f l) (Outside f' l') (Outside f'' l'') a b = omega (arith, a, b)
bounded_trans (Outside f l) (Outside f' l') (Inside mode m) a b = b
bounded_trans (Outside f l) (Inside mode m) r a b = absurd a
bounded_trans (Inside mode m) q r a b = tt

counted_from : {A : Type 0} (p q : Context) (r : Answer A) → Keeps p q → Counted q r → Counted p r
counted_from p q (Gives a t) k c = keeps_trans p q t.context k c
counted_from p q (Stops Wants t) k c = wanting_trans p q t.context k c
counted_from p q (Stops (Trapped w) t) k c = bounded_trans p q t.context k c
counted_from p q (Stops Spent t) k c = bounded_trans p q t.context k c
counted_from p q (Stops Astray t) k c = bounded_trans p q t.context k c

on_counted : {A B : Type 0} (p : Context) (r : Answer A) (rest : A → Action B) → Counted p r → ((a : A) (t : State) → Counted t.context (rest a t)) → Counted p (go_on r rest)
on_counted p (Gives a t) rest c h = counted_from p t.context (rest a t) c (h a t)
on_counted p (Stops Wants t) rest c h = c
on_counted p r rest c h = c

spend_counted : (n : ℕ) (s : State) → Counted s.context (spend n s)
spend_counted zero s = bounded_refl s.context
spend_counted (suc n) s = keeps_refl s.context

load_counted : (p : Context) (c : ℕ) (s : State) → Counted s.context (load_at p c s)
load_counted (Outside f l) c s = bounded_refl s.context
load_counted (Inside mode m) c s = keeps_refl s.context

store_counted : (n : ℕ) (ls : List Local) (p : Context) (t : List ℕ) (c w : ℕ) → Counted p (store c w (record { ticks = n; locals = ls; context = p; text = t }))
store_counted n ls (Outside f l) t c w = bounded_refl (Outside f l)
store_counted n ls (Inside mode m) t c w = tt

may_print_counted : (p : Context) (s : State) → Counted s.context (may_print_at p s)
may_print_counted (Outside f l) s = keeps_refl s.context
may_print_counted (Inside Relaxed m) s = keeps_refl s.context
may_print_counted (Inside Atomic m) s = bounded_refl s.context

after_turn_counted : (rest : Action Completion) → ((s : State) → Counted s.context (rest s)) → (o : Option Completion) (s : State) → Counted s.context (after_turn rest o s)
after_turn_counted rest h None s = h s
after_turn_counted rest h (Some end) s = keeps_refl s.context

turns_counted : (turn : Action (Option Completion)) → IsCounted turn → (n : ℕ) (s : State) → Counted s.context (turns n turn s)
turns_counted turn h zero s = bounded_refl s.context
turns_counted turn h (suc n) s =
    on_counted s.context (tick s) (λ _. turn >>= after_turn (turns n turn)) (spend_counted s.ticks s)
    (λ _ t. on_counted t.context (turn t) (after_turn (turns n turn)) (h.counts t) (after_turn_counted (turns n turn) (turns_counted turn h n)))

-- a transaction moves one memory from those to be found to those left
leave_counted : (n : ℕ) (now : State) (m : Memory) (founds lefts : List Memory) (left : Left) → Counted (Outside (m ∷ founds) lefts) (go_on (spend n (record now { context = Outside founds lefts })) (λ u then_. Gives left.end (record then_ { locals = left.locals; context = Outside founds (lefts ++ left.memory ∷ []) })))
leave_counted zero now m founds lefts left = omega arith
leave_counted (suc n) now m founds lefts left = omega (arith, length-append lefts (left.memory ∷ []))

close_counted : (kind : TransactionKind) (m : Memory) (founds lefts : List Memory) (mine : List Local) (r : Answer Completion) → Counted (Inside (mode_of kind) m) r → Counted (Outside (m ∷ founds) lefts) (close kind founds lefts mine m r)
close_counted kind m founds lefts mine (Gives end now) c = leave_counted now.ticks now m founds lefts (left_by kind mine m end now)
close_counted kind m founds lefts mine (Stops (Trapped k) now) c = omega (arith, length-append lefts (m ∷ []))
close_counted kind m founds lefts mine (Stops Wants now) c = absurd c
close_counted kind m founds lefts mine (Stops Spent now) c = omega arith
close_counted kind m founds lefts mine (Stops Astray now) c = omega arith

close_inner_counted : (outer : Mode) (kind : TransactionKind) (old m : Memory) (mine : List Local) (r : Answer Completion) → Counted (Inside (mode_of kind) m) r → Counted (Inside outer old) (close_inner outer kind mine m r)
close_inner_counted outer kind old m mine (Stops Wants now) c = c
close_inner_counted outer kind old m mine r c = tt

enter_counted : (kind : TransactionKind) (run : Action Completion) → IsCounted run → (p : Context) (n : ℕ) (ls : List Local) (t : List ℕ) → Counted p (enter p kind run (record { ticks = n; locals = ls; context = p; text = t }))
enter_counted kind run h (Outside [] lefts) n ls t = omega arith
enter_counted kind run h (Outside (m ∷ founds) lefts) n ls t = close_counted kind m founds lefts ls _ (h.counts (record { ticks = n; locals = ls; context = Inside (mode_of kind) m; text = t }))
enter_counted kind run h (Inside Relaxed m) n ls t = close_inner_counted Relaxed kind m m ls _ (h.counts (record { ticks = n; locals = ls; context = Inside (mode_of kind) m; text = t }))
enter_counted (Plain Atomic) run h (Inside Atomic m) n ls t = close_inner_counted Atomic (Plain Atomic) m m ls _ (h.counts (record { ticks = n; locals = ls; context = Inside Atomic m; text = t }))
enter_counted Outer run h (Inside Atomic m) n ls t = close_inner_counted Atomic Outer m m ls _ (h.counts (record { ticks = n; locals = ls; context = Inside Atomic m; text = t }))
enter_counted (Plain Relaxed) run h (Inside Atomic m) n ls t = tt

begin_counted : (p : Context) (s : State) → Counted s.context (begin_at p s)
begin_counted (Outside f l) s = spend_counted s.ticks s
begin_counted (Inside mode m) s = keeps_refl s.context

counted_preserved : (IsPiece : List ℕ → Type 0) → IsPreserved IsPiece (λ c t. Unit {0}) (λ A run. IsCounted run)
counted_preserved IsPiece = record {
  pure_holds = λ a. record { counts = λ s. keeps_refl s.context };
  on_holds = λ g h. record { counts = λ s. on_counted s.context _ _ (g.counts s) (λ a t. (h a).counts t) };
  astray_holds = record { counts = λ s. bounded_refl s.context };
  trap_holds = λ t. record { counts = λ s. on_counted s.context (tick s) (λ _. stop (Trapped t)) (spend_counted s.ticks s) (λ _ u. bounded_refl u.context) };
  tick_holds = record { counts = λ s. spend_counted s.ticks s };
  locals_holds = record { counts = λ s. keeps_refl s.context };
  put_locals_holds = λ ls. record { counts = λ s. keeps_refl s.context };
  load_holds = λ c. record { counts = λ s. load_counted s.context c s };
  store_holds = λ c w t cell below. record { counts = λ s. store_counted s.ticks s.locals s.context s.text c w };
  may_print_holds = record { counts = λ s. may_print_counted s.context s };
  print_piece_holds = λ text shown. record { counts = λ s. on_counted s.context (tick s) (λ _. write text) (spend_counted s.ticks s) (λ _ u. keeps_refl u.context) };
  loop_holds = λ h. record { counts = λ s. turns_counted _ h s.ticks s };
  transaction_holds = λ kind h. record { counts = λ s. enter_counted kind _ h s.context s.ticks s.locals s.text };
  begin_value_holds = record { counts = λ s. begin_counted s.context s };
}

wants_counted : (founds : List Memory) (r : Answer (Unit {0})) → Counted (Outside founds []) r → (outcome_of r).end ≡ Stopped Wants → length (outcome_of r).lefts ≡ length founds
wants_counted founds (Stops Wants s) c e = at s.context c
  where
    at : (p : Context) → Wanting (Outside founds []) p → length (lefts_in p) ≡ length founds
    at (Outside f l) w = omega (arith, w)
    at (Inside mode m) w = absurd w
wants_counted founds r c e = absurd (cc)

lefts_bounded : (founds : List Memory) (p : Context) → Bounded (Outside founds []) p → length (lefts_in p) ≤ length founds
lefts_bounded founds (Outside f l) b = omega (arith, b)
lefts_bounded founds (Inside mode m) b = absurd b

lefts_within : (founds : List Memory) (p : Context) → Keeps (Outside founds []) p → length (lefts_in p) ≤ length founds
lefts_within founds (Outside f l) b = omega (arith, b)
lefts_within founds (Inside mode m) b = absurd b

lefts_wanting : (founds : List Memory) (p : Context) → Wanting (Outside founds []) p → length (lefts_in p) ≤ length founds
lefts_wanting founds (Outside f l) b = omega (arith, b)
lefts_wanting founds (Inside mode m) b = absurd b

answer_bounded : (founds : List Memory) (r : Answer (Unit {0})) → Counted (Outside founds []) r → length (outcome_of r).lefts ≤ length founds
answer_bounded founds (Gives u s) c = lefts_within founds s.context c
answer_bounded founds (Stops (Trapped k) s) c = lefts_bounded founds s.context c
answer_bounded founds (Stops Spent s) c = lefts_bounded founds s.context c
answer_bounded founds (Stops Astray s) c = lefts_bounded founds s.context c
answer_bounded founds (Stops Wants s) c = lefts_wanting founds s.context c

worker_counted : (p : Program) (t : ℕ) (founds : List Memory) (n : ℕ) → Counted (Outside founds []) (worker_run p t (first_state founds n))
worker_counted p t founds n = (worker_holds p (λ c t. Unit {0}) (any_cells p) (λ A run. IsCounted run) (counted_preserved (IsPieceOf p)) t).counts (first_state founds n)

pub left_as_many_as_found : LeftAsManyAsFound
left_as_many_as_found p t founds n e = wants_counted founds (worker_run p t (first_state founds n)) (worker_counted p t founds n) e

pub never_more_left : NeverMoreLeft
never_more_left p t founds n = answer_bounded founds (worker_run p t (first_state founds n)) (worker_counted p t founds n)
