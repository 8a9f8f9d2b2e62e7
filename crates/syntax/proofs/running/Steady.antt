-- Every run of a program is steady.
use Rattle.std.proofs.Common.{◌≡◌, ℕ, zero, suc, List, [], ◌++◌, refl, sym, ap, ◌∙◌, subst, append_assoc, append-nil}
use Rattle.std.specs.Prelude.{slice_set}
use Rattle.syntax.specs.declared.thread_end.Trap.{Trap}
use Rattle.syntax.specs.declared.tree.Mode.TheVariants.{Atomic, Relaxed}
use Rattle.syntax.specs.Names.{Local}
use Rattle.syntax.specs.declared.thread_end.Halt.TheVariants.{Trapped, Wants, Spent, Astray}
use Rattle.syntax.specs.Behaviours.{Memory}
use Rattle.syntax.specs.Actions.{Context, Outside, Inside, State, Answer, Gives, Stops, Action, pure, stop, go_on, ◌>>=◌, ◌>>◌, spend, tick, trap, locals, put_locals, load_at, load, store_at, store, may_print_at, may_print, write, print_piece}
use Rattle.syntax.proofs.running.Further.{state_of, added, with_founds, with_more, Follows, Grown, Extends, IsSteady}

pub follows_refl : (p : Context) → Follows p p
follows_refl (Outside founds lefts) = ([], sym (append-nil lefts))
follows_refl (Inside mode m) = tt

follows_trans : (p q r : Context) → Follows p q → Follows q r → Follows p r
follows_trans (Outside f l) (Outside f' l') (Outside f'' l'') a b = (a.0 ++ b.0, b.1 ∙ ap (λ x. x ++ b.0) a.1 ∙ append_assoc l a.0 b.0)
follows_trans (Outside f l) (Outside f' l') (Inside mode m) a b = b
follows_trans (Outside f l) (Inside mode m) r a b = absurd a
follows_trans (Inside mode m) (Outside f l) r a b = absurd a
follows_trans (Inside mode m) (Inside mode' m') (Outside f l) a b = b
follows_trans (Inside mode m) (Inside mode' m') (Inside mode'' m'') a b = tt

follows_further : (extra : List Memory) (p : Context) → Follows p (with_founds extra p)
follows_further extra (Outside founds lefts) = ([], sym (append-nil lefts))
follows_further extra (Inside mode m) = tt

-- nothing printed
pub quiet : (s t : State) → t.text ≡ s.text → Follows s.context t.context → Grown s t
quiet s t e f = record { printed = []; text = e ∙ sym (append-nil s.text); context = f }

pub still : (s : State) → Grown s s
still s = quiet s s refl (follows_refl s.context)

pub grown_trans : (s t u : State) → Grown s t → Grown t u → Grown s u
grown_trans s t u g h = record {
  printed = g.printed ++ h.printed;
  text = h.text ∙ ap (λ x. x ++ h.printed) g.text ∙ append_assoc s.text g.printed h.printed;
  context = follows_trans s.context t.context u.context g.context h.context;
}

-- to have more is no growth
pub more_grown : (k : ℕ) (extra : List Memory) (s : State) → Grown s (with_more k extra s)
more_grown k extra s = quiet s (with_more k extra s) refl (follows_further extra s.context)

pub on_grown : {A B : Type 0} (s : State) (r : Answer A) (rest : A → Action B) → Grown s (state_of r) → ((a : A) (t : State) → Grown t (state_of (rest a t))) → Grown s (state_of (go_on r rest))
on_grown s (Gives a t) rest g h = grown_trans s t _ g (h a t)
on_grown s (Stops why t) rest g h = g

pub on_extends : {A B : Type 0} (k : ℕ) (extra : List Memory) (r more : Answer A) (rest rest' : A → Action B) → Extends k extra r more → ((a : A) (t : State) → Grown t (state_of (rest' a t))) → ((a : A) (t : State) → Extends k extra (rest a t) (rest' a (with_more k extra t))) → Extends k extra (go_on r rest) (go_on more rest')
on_extends k extra (Gives a s) more rest rest' e g h = subst (λ x. Extends k extra (rest a s) (go_on x rest')) (sym e) (h a s)
on_extends k extra (Stops (Trapped t) s) more rest rest' e g h = ap (λ x. go_on x rest') e
on_extends k extra (Stops Astray s) more rest rest' e g h = ap (λ x. go_on x rest') e
on_extends k extra (Stops Spent s) more rest rest' e g h = on_grown s more rest' e g
on_extends k extra (Stops Wants s) more rest rest' e g h = (on_grown s more rest' e.0 g, λ n. ap (λ x. go_on x rest') (e.1 n))

pub on_steady : {A B : Type 0} {run : Action A} {rest : A → Action B} → IsSteady run → ((a : A) → IsSteady (rest a)) → IsSteady (run >>= rest)
on_steady {run = run} {rest = rest} g h = record {
  grows = λ s. on_grown s (run s) rest (g.grows s) (λ a t. (h a).grows t);
  extends = λ k extra s. on_extends k extra (run s) (run (with_more k extra s)) rest rest (g.extends k extra s) (λ a t. (h a).grows t) (λ a t. (h a).extends k extra t);
}

pub then_steady : {A B : Type 0} {run : Action A} {rest : Action B} → IsSteady run → IsSteady rest → IsSteady (run >> rest)
then_steady g h = on_steady g (λ _. h)

pub pure_steady : {A : Type 0} (a : A) → IsSteady (pure a)
pure_steady a = record { grows = λ s. still s; extends = λ k extra s. refl }

pub astray_steady : {A : Type 0} → IsSteady (stop {A = A} Astray)
astray_steady = record { grows = λ s. still s; extends = λ k extra s. refl }

pub trapped_steady : {A : Type 0} (t : Trap) → IsSteady (stop {A = A} (Trapped t))
trapped_steady t = record { grows = λ s. still s; extends = λ k extra s. refl }

spend_grows : (n : ℕ) (s : State) → Grown s (state_of (spend n s))
spend_grows zero s = still s
spend_grows (suc n) s = quiet s (record s { ticks = n }) refl (follows_refl s.context)

spend_extends : (k : ℕ) (extra : List Memory) (n : ℕ) (s : State) → Extends k extra (spend n s) (spend (added n k) (with_more k extra s))
spend_extends k extra zero s = grown_trans s (with_more k extra s) _ (more_grown k extra s) (spend_grows k (with_more k extra s))
spend_extends k extra (suc n) s = refl

pub tick_steady : IsSteady tick
tick_steady = record { grows = λ s. spend_grows s.ticks s; extends = λ k extra s. spend_extends k extra s.ticks s }

pub trap_steady : {A : Type 0} (t : Trap) → IsSteady (trap {A = A} t)
trap_steady t = then_steady tick_steady (trapped_steady t)

pub locals_steady : IsSteady locals
locals_steady = record { grows = λ s. still s; extends = λ k extra s. refl }

pub put_locals_steady : (ls : List Local) → IsSteady (put_locals ls)
put_locals_steady ls = record { grows = λ s. quiet s (record s { locals = ls }) refl (follows_refl s.context); extends = λ k extra s. refl }

load_grows : (p : Context) (c : ℕ) (s : State) → Grown s (state_of (load_at p c s))
load_grows (Outside founds lefts) c s = still s
load_grows (Inside mode m) c s = still s

load_extends : (k : ℕ) (extra : List Memory) (p : Context) (c : ℕ) (s : State) → Extends k extra (load_at p c s) (load_at (with_founds extra p) c (with_more k extra s))
load_extends k extra (Outside founds lefts) c s = refl
load_extends k extra (Inside mode m) c s = refl

pub load_steady : (c : ℕ) → IsSteady (load c)
load_steady c = record { grows = λ s. load_grows s.context c s; extends = λ k extra s. load_extends k extra s.context c s }

abbrev state : ℕ → List Local → Context → List ℕ → State
state n ls p t = record { ticks = n; locals = ls; context = p; text = t }

store_grows : (n : ℕ) (ls : List Local) (p : Context) (t : List ℕ) (c w : ℕ) → Grown (state n ls p t) (state_of (store c w (state n ls p t)))
store_grows n ls (Outside founds lefts) t c w = still (state n ls (Outside founds lefts) t)
store_grows n ls (Inside mode m) t c w = quiet (state n ls (Inside mode m) t) (state n ls (Inside mode (slice_set m c w)) t) refl tt

store_extends : (k : ℕ) (extra : List Memory) (p : Context) (c w : ℕ) (s : State) → Extends k extra (store_at p c w s) (store_at (with_founds extra p) c w (with_more k extra s))
store_extends k extra (Outside founds lefts) c w s = refl
store_extends k extra (Inside mode m) c w s = refl

pub store_steady : (c w : ℕ) → IsSteady (store c w)
store_steady c w = record { grows = λ s. store_grows s.ticks s.locals s.context s.text c w; extends = λ k extra s. store_extends k extra s.context c w s }

may_print_grows : (p : Context) (s : State) → Grown s (state_of (may_print_at p s))
may_print_grows (Outside founds lefts) s = still s
may_print_grows (Inside Relaxed m) s = still s
may_print_grows (Inside Atomic m) s = still s

may_print_extends : (k : ℕ) (extra : List Memory) (p : Context) (s : State) → Extends k extra (may_print_at p s) (may_print_at (with_founds extra p) (with_more k extra s))
may_print_extends k extra (Outside founds lefts) s = refl
may_print_extends k extra (Inside Relaxed m) s = refl
may_print_extends k extra (Inside Atomic m) s = refl

pub may_print_steady : IsSteady may_print
may_print_steady = record { grows = λ s. may_print_grows s.context s; extends = λ k extra s. may_print_extends k extra s.context s }

pub write_steady : (text : List ℕ) → IsSteady (write text)
write_steady text = record {
  grows = λ s. record { printed = text; text = refl; context = follows_refl s.context };
  extends = λ k extra s. refl;
}

pub print_piece_steady : (text : List ℕ) → IsSteady (print_piece text)
print_piece_steady text = then_steady tick_steady (write_steady text)
