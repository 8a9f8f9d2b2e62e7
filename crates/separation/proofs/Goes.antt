-- Runs that do not go astray: from a place of this kind and locals of these names and types to such a place and such
-- locals.
use Rattle.std.proofs.Common.{◌≡◌, refl, sym, ap, subst, ◌∙◌, ℕ, zero, suc, List, [], ◌∷◌, ◌++◌, append-nil, append_assoc, length, map, take, arith, Option, Some, None, Bool, true, false, IsTrue, Result, Ok, Err}
use Rattle.std.specs.Prelude.{if◌then◌else◌, is_some}
use Rattle.std.specs.Fmt.{signed_decimal}
use Rattle.lex.specs.declared.token.Scalar.{Scalar}
use Rattle.syntax.specs.declared.tree.TransactionKind.{TransactionKind}
use Rattle.syntax.specs.declared.tree.TransactionKind.TheVariants.{Plain, Outer}
use Rattle.syntax.specs.declared.tree.Mode.{Mode}
use Rattle.syntax.specs.declared.tree.Mode.TheVariants.{Atomic, Relaxed}
use Rattle.syntax.specs.declared.thread_end.Trap.{Trap}
use Rattle.syntax.specs.declared.thread_end.Halt.{Halt}
use Rattle.syntax.specs.declared.thread_end.Halt.TheVariants.{Trapped, Wants, Spent, Astray}
use Rattle.syntax.specs.declared.value.Value.{Value}
use Rattle.syntax.specs.Numbers.{number, value_in_type}
use Rattle.syntax.specs.Names.{Local, word_at, with_word}
use Rattle.syntax.specs.Formats.{Piece, Literal, Specifier, specifiers}
use Rattle.syntax.specs.Behaviours.{Memory}
use Rattle.syntax.specs.Actions.{Context, Outside, Inside, State, Answer, Gives, Stops, Action, pure, go_on, ◌>>=◌, ◌>>◌, spend, tick, trap, or_trap, or_astray, locals, put_locals, load_at, load, store_at, store, may_print_at, may_print, print_piece}
use Rattle.syntax.specs.Meaning.{Lvalue, InLocal, InCell, fetch, assign, print_pieces, Completion, Next, Breaks, Continues, Returns, Cancels, CancelsOuter, on_next, in_scope, after_turn, turns, loop, after_body, Left, mode_of, left_by, close_inner, close, enter, transaction, begin_at, begin_value, value_at, value_transaction}
use Rattle.syntax.specs.Laws.{shape}
use Rattle.syntax.proofs.locals.OlderLocals.{same_shapes}
use Rattle.syntax.proofs.locals.ExactLocals.{same_taken}

-- names and types of locals
abbrev pub Shapes : Type 0
Shapes = List (List ℕ × Scalar)

-- none outside transactions, else how the innermost one runs
abbrev pub mode_at : Context → Option Mode
mode_at (Outside founds lefts) = None
mode_at (Inside mode m) = Some mode

abbrev pub IsInside : Option Mode → Type 0
IsInside None = ⊥
IsInside (Some mode) = Unit {0}

abbrev pub MayPrint : Option Mode → Type 0
MayPrint None = Unit {0}
MayPrint (Some Relaxed) = Unit {0}
MayPrint (Some Atomic) = ⊥

-- inside an atomic transaction no relaxed one begins
abbrev pub MayBegin : Option Mode → Mode → Type 0
MayBegin None mode = Unit {0}
MayBegin (Some Relaxed) mode = Unit {0}
MayBegin (Some Atomic) Atomic = Unit {0}
MayBegin (Some Atomic) Relaxed = ⊥

abbrev pub IsNotAstray : Halt → Type 0
IsNotAstray Astray = ⊥
IsNotAstray Wants = Unit {0}
IsNotAstray Spent = Unit {0}
IsNotAstray (Trapped k) = Unit {0}

-- what is given and the state then reached, or a stop that is not astray
abbrev pub Fine : {A : Type 0} → Option Mode → Shapes → (A → Type 0) → Answer A → Type 0
Fine w ls P (Gives a now) = (mode_at now.context ≡ w) × (map shape now.locals ≡ ls) × P a
Fine w ls P (Stops why now) = IsNotAstray why

pub record Goes {A : Type 0} (w : Option Mode) (ls ms : Shapes) (P : A → Type 0) (run : Action A) : Type 0 where
  pub goes : (s : State) → mode_at s.context ≡ w → map shape s.locals ≡ ls → Fine w ms P (run s)

-- the same, where further locals may be left
abbrev pub FineOpen : {A : Type 0} → Option Mode → Shapes → (A → Type 0) → Answer A → Type 0
FineOpen w ls P (Gives a now) = (mode_at now.context ≡ w) × ((more : Shapes) × (map shape now.locals ≡ ls ++ more)) × P a
FineOpen w ls P (Stops why now) = IsNotAstray why

pub record Opens {A : Type 0} (w : Option Mode) (ls : Shapes) (P : A → Type 0) (run : Action A) : Type 0 where
  pub opens : (s : State) → mode_at s.context ≡ w → map shape s.locals ≡ ls → FineOpen w ls P (run s)

abbrev pub Any : {A : Type 0} → A → Type 0
Any a = Unit {0}

on_fine : {A B : Type 0} (w : Option Mode) (ms os : Shapes) (P : A → Type 0) (Q : B → Type 0) (r : Answer A) (rest : A → Action B) → Fine w ms P r → ((a : A) → P a → Goes w ms os Q (rest a)) → Fine w os Q (go_on r rest)
on_fine w ms os P Q (Gives a now) rest f h = (h a f.2).goes now f.0 f.1
on_fine w ms os P Q (Stops why now) rest f h = f

pub on_goes : {A B : Type 0} {w : Option Mode} {ls ms os : Shapes} {P : A → Type 0} {Q : B → Type 0} {run : Action A} {rest : A → Action B} → Goes w ls ms P run → ((a : A) → P a → Goes w ms os Q (rest a)) → Goes w ls os Q (run >>= rest)
on_goes {w = w} {ms = ms} {os = os} {P = P} {Q = Q} {run = run} {rest = rest} g h = record { goes = λ s e f. on_fine w ms os P Q (run s) rest (g.goes s e f) h }

pub then_goes : {A B : Type 0} {w : Option Mode} {ls ms os : Shapes} {P : A → Type 0} {Q : B → Type 0} {run : Action A} {rest : Action B} → Goes w ls ms P run → Goes w ms os Q rest → Goes w ls os Q (run >> rest)
then_goes g h = on_goes g (λ _ _. h)

pub pure_goes : {A : Type 0} {w : Option Mode} {ls : Shapes} {P : A → Type 0} (a : A) → P a → Goes w ls ls P (pure a)
pure_goes a h = record { goes = λ s e f. (e, f, h) }

pub if_goes : {A : Type 0} {w : Option Mode} {ls ms : Shapes} {P : A → Type 0} (b : Bool) {x y : Action A} → Goes w ls ms P x → Goes w ls ms P y → Goes w ls ms P (if b then x else y)
if_goes true g h = g
if_goes false g h = h

spend_fine : (w : Option Mode) (ls : Shapes) (n : ℕ) (s : State) → mode_at s.context ≡ w → map shape s.locals ≡ ls → Fine w ls Any (spend n s)
spend_fine w ls zero s e f = tt
spend_fine w ls (suc n) s e f = (e, f, tt)

pub tick_goes : {w : Option Mode} {ls : Shapes} → Goes w ls ls Any tick
tick_goes {w = w} {ls = ls} = record { goes = λ s e f. spend_fine w ls s.ticks s e f }

pub trap_goes : {A : Type 0} {w : Option Mode} {ls ms : Shapes} {P : A → Type 0} (t : Trap) → Goes w ls ms P (trap t)
trap_goes t = then_goes tick_goes (record { goes = λ s e f. tt })

pub or_trap_goes : {A : Type 0} {w : Option Mode} {ls : Shapes} (r : Result A Trap) → Goes w ls ls Any (or_trap r)
or_trap_goes (Ok a) = pure_goes a tt
or_trap_goes (Err t) = trap_goes t

-- what is there
pub there_goes : {A : Type 0} {w : Option Mode} {ls : Shapes} (o : Option A) → IsTrue (is_some o) → Goes w ls ls (λ a. o ≡ Some a) (or_astray o)
there_goes (Some a) h = pure_goes a refl
there_goes None h = absurd (cc)

pub locals_goes : {w : Option Mode} {ls : Shapes} → Goes w ls ls (λ mine. map shape mine ≡ ls) locals
locals_goes = record { goes = λ s e f. (e, f, f) }

pub put_goes : {w : Option Mode} {ls ms : Shapes} (mine : List Local) → map shape mine ≡ ms → Goes w ls ms Any (put_locals mine)
put_goes mine h = record { goes = λ s e f. (e, h, tt) }

outside_absurd : {A : Type 0} (w : Option Mode) → IsInside w → None ≡ w → A
outside_absurd None h e = absurd h
outside_absurd (Some mode) h e = absurd (cc)

load_fine : (w : Option Mode) (ls : Shapes) (c : ℕ) (pl : Context) (s : State) → IsInside w → mode_at pl ≡ w → mode_at s.context ≡ w → map shape s.locals ≡ ls → Fine w ls Any (load_at pl c s)
load_fine w ls c (Outside founds lefts) s h g e f = outside_absurd w h g
load_fine w ls c (Inside mode m) s h g e f = (e, f, tt)

load_goes : {w : Option Mode} {ls : Shapes} (c : ℕ) → IsInside w → Goes w ls ls Any (load c)
load_goes {w = w} {ls = ls} c h = record { goes = λ s e f. load_fine w ls c s.context s h e e f }

store_fine : (w : Option Mode) (ls : Shapes) (c v : ℕ) (pl : Context) (s : State) → IsInside w → mode_at pl ≡ w → map shape s.locals ≡ ls → Fine w ls Any (store_at pl c v s)
store_fine w ls c v (Outside founds lefts) s h g f = outside_absurd w h g
store_fine w ls c v (Inside mode m) s h g f = (g, f, tt)

store_goes : {w : Option Mode} {ls : Shapes} (c v : ℕ) → IsInside w → Goes w ls ls Any (store c v)
store_goes {w = w} {ls = ls} c v h = record { goes = λ s e f. store_fine w ls c v s.context s h e f }

atomic_absurd : {A : Type 0} (w : Option Mode) → MayPrint w → Some Atomic ≡ w → A
atomic_absurd None h e = absurd (cc)
atomic_absurd (Some Relaxed) h e = absurd (cc)
atomic_absurd (Some Atomic) h e = absurd h

may_print_fine : (w : Option Mode) (ls : Shapes) (pl : Context) (s : State) → MayPrint w → mode_at pl ≡ w → mode_at s.context ≡ w → map shape s.locals ≡ ls → Fine w ls Any (may_print_at pl s)
may_print_fine w ls (Outside founds lefts) s h g e f = (e, f, tt)
may_print_fine w ls (Inside Relaxed m) s h g e f = (e, f, tt)
may_print_fine w ls (Inside Atomic m) s h g e f = atomic_absurd w h g

pub may_print_goes : {w : Option Mode} {ls : Shapes} → MayPrint w → Goes w ls ls Any may_print
may_print_goes {w = w} {ls = ls} h = record { goes = λ s e f. may_print_fine w ls s.context s h e e f }

piece_goes : {w : Option Mode} {ls : Shapes} (text : List ℕ) → Goes w ls ls Any (print_piece text)
piece_goes text = then_goes tick_goes (record { goes = λ s e f. (e, f, tt) })

-- a value's cell is reached only inside transactions
abbrev pub LvalueFits : Option Mode → Lvalue → Type 0
LvalueFits w (InLocal i t) = Unit {0}
LvalueFits w (InCell c t) = IsInside w

pub fetch_goes : {w : Option Mode} {ls : Shapes} (at : Lvalue) → LvalueFits w at → Goes w ls ls Any (fetch at)
fetch_goes (InLocal i t) h = on_goes locals_goes (λ mine e. pure_goes (record { ty = t; word = word_at mine i }) tt)
fetch_goes (InCell c t) h = on_goes (load_goes c h) (λ v e. pure_goes (record { ty = t; word = v }) tt)

pub assign_goes : {w : Option Mode} {ls : Shapes} (at : Lvalue) (v : Value) → LvalueFits w at → Goes w ls ls Any (assign at v)
assign_goes (InLocal i t) v h = on_goes locals_goes (λ mine e. put_goes (with_word mine i (value_in_type t v).word) (same_shapes mine i (value_in_type t v).word ∙ e))
assign_goes (InCell c t) v h = store_goes c (value_in_type t v).word h

pub pieces_go : {w : Option Mode} {ls : Shapes} (ps : List Piece) (vs : List Value) → length (specifiers ps) ≡ length vs → Goes w ls ls Any (print_pieces ps vs)
pieces_go [] vs h = pure_goes tt tt
pieces_go (Literal text ∷ ps) vs h = then_goes (piece_goes text) (pieces_go ps vs h)
pieces_go (Specifier t ∷ ps) [] h = absurd (omega (arith, h))
pieces_go (Specifier t ∷ ps) (v ∷ vs) h = then_goes (piece_goes (signed_decimal (number t v.word))) (pieces_go ps vs (omega (arith, h)))

-- scopes
open_fine : {A : Type 0} (w : Option Mode) (ls more : Shapes) (P : A → Type 0) (r : Answer A) → Fine w (ls ++ more) P r → FineOpen w ls P r
open_fine w ls more P (Gives a now) h = (h.0, (more, h.1), h.2)
open_fine w ls more P (Stops why now) h = h

pub opened : {A : Type 0} {w : Option Mode} {ls : Shapes} {P : A → Type 0} {run : Action A} (more : Shapes) → Goes w ls (ls ++ more) P run → Opens w ls P run
opened {w = w} {ls = ls} {P = P} {run = run} more g = record { opens = λ s e f. open_fine w ls more P (run s) (g.goes s e f) }

pub no_further : {A : Type 0} {w : Option Mode} {ls : Shapes} {P : A → Type 0} {run : Action A} → Goes w ls ls P run → Goes w ls (ls ++ []) P run
no_further {w = w} {ls = ls} {P = P} {run = run} g = subst (λ os. Goes w ls os P run) (sym (append-nil ls)) g

scope_fine : (w : Option Mode) (ls : Shapes) (P : Completion → Type 0) (outer : List Local) (r : Answer Completion) → map shape outer ≡ ls → FineOpen w ls P r → Fine w ls P (go_on r (λ end t. Gives end (record t { locals = take (length outer) t.locals })))
scope_fine w ls P outer (Gives end now) e f = (f.0, same_taken outer now.locals f.1.0 (f.1.1 ∙ ap (λ x. x ++ f.1.0) (sym e)) ∙ e, f.2)
scope_fine w ls P outer (Stops why now) e f = f

pub scoped_goes : {w : Option Mode} {ls : Shapes} {P : Completion → Type 0} {run : Action Completion} → Opens w ls P run → Goes w ls ls P (in_scope run)
scoped_goes {w = w} {ls = ls} {P = P} {run = run} g = record { goes = λ s e f. scope_fine w ls P s.locals (run s) f (g.opens s e f) }

on_open : {A B : Type 0} (w : Option Mode) (ls os : Shapes) (P : A → Type 0) (Q : B → Type 0) (r : Answer A) (rest : A → Action B) → FineOpen w ls P r → ((a : A) → P a → (ms : Shapes) → Goes w ms os Q (rest a)) → Fine w os Q (go_on r rest)
on_open w ls os P Q (Gives a now) rest f h = (h a f.2 (map shape now.locals)).goes now f.0 refl
on_open w ls os P Q (Stops why now) rest f h = f

pub on_opens : {A B : Type 0} {w : Option Mode} {ls os : Shapes} {P : A → Type 0} {Q : B → Type 0} {run : Action A} {rest : A → Action B} → Opens w ls P run → ((a : A) → P a → (ms : Shapes) → Goes w ms os Q (rest a)) → Goes w ls os Q (run >>= rest)
on_opens {w = w} {ls = ls} {os = os} {P = P} {Q = Q} {run = run} {rest = rest} g h = record { goes = λ s e f. on_open w ls os P Q (run s) rest (g.opens s e f) h }

-- how a statement ends: a break or a continue only in a loop, a cancel only in an atomic transaction, an outer cancel
-- only in an outer one
abbrev pub CompletionFits : (looping in_atomic in_outer : Bool) → Completion → Type 0
CompletionFits looping in_atomic in_outer Next = Unit {0}
CompletionFits looping in_atomic in_outer Breaks = IsTrue looping
CompletionFits looping in_atomic in_outer Continues = IsTrue looping
CompletionFits looping in_atomic in_outer (Returns v) = Unit {0}
CompletionFits looping in_atomic in_outer Cancels = IsTrue in_atomic
CompletionFits looping in_atomic in_outer CancelsOuter = IsTrue in_outer

abbrev pub TurnFits : (looping in_atomic in_outer : Bool) → Option Completion → Type 0
TurnFits looping in_atomic in_outer None = Unit {0}
TurnFits looping in_atomic in_outer (Some end) = CompletionFits looping in_atomic in_outer end

-- one statement, and others behind it
open_further : (w : Option Mode) (l b u : Bool) (ls more : Shapes) (r : Answer Completion) → FineOpen w (ls ++ more) (CompletionFits l b u) r → FineOpen w ls (CompletionFits l b u) r
open_further w l b u ls more (Gives end now) f = (f.0, (more ++ f.1.0, f.1.1 ∙ append_assoc ls more f.1.0), f.2)
open_further w l b u ls more (Stops why now) f = f

next_fine : (w : Option Mode) (l b u : Bool) (ls more : Shapes) (rest : Action Completion) → Opens w (ls ++ more) (CompletionFits l b u) rest → (r : Answer Completion) → Fine w (ls ++ more) (CompletionFits l b u) r → FineOpen w ls (CompletionFits l b u) (go_on r (on_next rest))
next_fine w l b u ls more rest h (Gives Next now) f = open_further w l b u ls more (rest now) (h.opens now f.0 f.1)
next_fine w l b u ls more rest h (Gives Breaks now) f = (f.0, (more, f.1), f.2)
next_fine w l b u ls more rest h (Gives Continues now) f = (f.0, (more, f.1), f.2)
next_fine w l b u ls more rest h (Gives (Returns v) now) f = (f.0, (more, f.1), f.2)
next_fine w l b u ls more rest h (Gives Cancels now) f = (f.0, (more, f.1), f.2)
next_fine w l b u ls more rest h (Gives CancelsOuter now) f = (f.0, (more, f.1), f.2)
next_fine w l b u ls more rest h (Stops why now) f = f

pub next_opens : {w : Option Mode} {ls : Shapes} {run rest : Action Completion} (l b u : Bool) (more : Shapes) → Goes w ls (ls ++ more) (CompletionFits l b u) run → Opens w (ls ++ more) (CompletionFits l b u) rest → Opens w ls (CompletionFits l b u) (run >>= on_next rest)
next_opens {w = w} {ls = ls} {run = run} {rest = rest} l b u more g h = record { opens = λ s e f. next_fine w l b u ls more rest h (run s) (g.goes s e f) }

-- loops
pub after_body_goes : {w : Option Mode} {ls : Shapes} (l b u : Bool) {go : Action (Option Completion)} → Goes w ls ls (TurnFits l b u) go → (end : Completion) → CompletionFits true b u end → Goes w ls ls (TurnFits l b u) (after_body go end)
after_body_goes l b u h Next f = h
after_body_goes l b u h Breaks f = pure_goes (Some Next) tt
after_body_goes l b u h Continues f = h
after_body_goes l b u h (Returns v) f = pure_goes (Some (Returns v)) tt
after_body_goes l b u h Cancels f = pure_goes (Some Cancels) f
after_body_goes l b u h CancelsOuter f = pure_goes (Some CancelsOuter) f

after_turn_goes : {w : Option Mode} {ls : Shapes} (l b u : Bool) {rest : Action Completion} → Goes w ls ls (CompletionFits l b u) rest → (o : Option Completion) → TurnFits l b u o → Goes w ls ls (CompletionFits l b u) (after_turn rest o)
after_turn_goes l b u h None f = h
after_turn_goes l b u h (Some end) f = pure_goes end f

turns_go : {w : Option Mode} {ls : Shapes} (l b u : Bool) {turn : Action (Option Completion)} → Goes w ls ls (TurnFits l b u) turn → (n : ℕ) → Goes w ls ls (CompletionFits l b u) (turns n turn)
turns_go l b u h zero = record { goes = λ s e f. tt }
turns_go l b u h (suc n) = then_goes tick_goes (on_goes h (after_turn_goes l b u (turns_go l b u h n)))

pub loop_goes : {w : Option Mode} {ls : Shapes} (l b u : Bool) {turn : Action (Option Completion)} → Goes w ls ls (TurnFits l b u) turn → Goes w ls ls (CompletionFits l b u) (loop turn)
loop_goes l b u h = record { goes = λ s e f. (turns_go l b u h s.ticks).goes s e f }

-- transactions: a cancel goes no further, and an outer cancel not out of an outer one
abbrev pub in_outer : TransactionKind → Bool → Bool
in_outer Outer u = true
in_outer (Plain mode) u = u

left_fits : (l b b' u : Bool) (kind : TransactionKind) (mine : List Local) (found : Memory) (end : Completion) (now : State) → CompletionFits l b (in_outer kind u) end → CompletionFits l b' u (left_by kind mine found end now).end
left_fits l b b' u kind mine found Cancels now h = tt
left_fits l b b' u Outer mine found CancelsOuter now h = tt
left_fits l b b' u (Plain mode) mine found CancelsOuter now h = h
left_fits l b b' u kind mine found Next now h = h
left_fits l b b' u kind mine found Breaks now h = h
left_fits l b b' u kind mine found Continues now h = h
left_fits l b b' u kind mine found (Returns v) now h = h

left_shapes : (ls : Shapes) (kind : TransactionKind) (mine : List Local) (found : Memory) (end : Completion) (now : State) → map shape mine ≡ ls → map shape now.locals ≡ ls → map shape (left_by kind mine found end now).locals ≡ ls
left_shapes ls kind mine found Cancels now g h = g
left_shapes ls Outer mine found CancelsOuter now g h = g
left_shapes ls (Plain mode) mine found CancelsOuter now g h = h
left_shapes ls kind mine found Next now g h = h
left_shapes ls kind mine found Breaks now g h = h
left_shapes ls kind mine found Continues now g h = h
left_shapes ls kind mine found (Returns v) now g h = h

leave_fine : (w : Option Mode) (ls : Shapes) (P : Completion → Type 0) (n : ℕ) (founds lefts : List Memory) (left : Left) (now : State) → None ≡ w → map shape left.locals ≡ ls → P left.end → Fine w ls P (go_on (spend n (record now { context = Outside founds lefts })) (λ u then_. Gives left.end (record then_ { locals = left.locals; context = Outside founds (lefts ++ left.memory ∷ []) })))
leave_fine w ls P zero founds lefts left now e f h = tt
leave_fine w ls P (suc n) founds lefts left now e f h = (e, f, h)

-- how a body ends fits how its transaction then does
abbrev Handed : TransactionKind → (P Q : Completion → Type 0) → Type 0
Handed kind P Q = (mine : List Local) (found : Memory) (end : Completion) (now : State) → P end → Q (left_by kind mine found end now).end

module _ (kind : TransactionKind) (P Q : Completion → Type 0) (handed : Handed kind P Q) (ls : Shapes) (mine : List Local) (found : Memory) (same : map shape mine ≡ ls) where
  close_fine : (w : Option Mode) (founds lefts : List Memory) (r : Answer Completion) → None ≡ w → Fine (Some (mode_of kind)) ls P r → Fine w ls Q (close kind founds lefts mine found r)
  close_fine w founds lefts (Gives end now) e f = leave_fine w ls Q now.ticks founds lefts (left_by kind mine found end now) now e (left_shapes ls kind mine found end now same f.1) (handed mine found end now f.2)
  close_fine w founds lefts (Stops (Trapped k) now) e f = tt
  close_fine w founds lefts (Stops Wants now) e f = tt
  close_fine w founds lefts (Stops Spent now) e f = tt
  close_fine w founds lefts (Stops Astray now) e f = f

  inner_fine : (w : Option Mode) (outer : Mode) (r : Answer Completion) → Some outer ≡ w → Fine (Some (mode_of kind)) ls P r → Fine w ls Q (close_inner outer kind mine found r)
  inner_fine w outer (Gives end now) e f = (e, left_shapes ls kind mine found end now same f.1, handed mine found end now f.2)
  inner_fine w outer (Stops why now) e f = f

relaxed_absurd : {A : Type 0} (w : Option Mode) → MayBegin w Relaxed → Some Atomic ≡ w → A
relaxed_absurd None h e = absurd (cc)
relaxed_absurd (Some Relaxed) h e = absurd (cc)
relaxed_absurd (Some Atomic) h e = absurd h

module _ (P Q : Completion → Type 0) where
  enter_fine : (w : Option Mode) (ls : Shapes) (kind : TransactionKind) → Handed kind P Q → (run : Action Completion) → Goes (Some (mode_of kind)) ls ls P run → MayBegin w (mode_of kind) → (pl : Context) (s : State) → mode_at pl ≡ w → map shape s.locals ≡ ls → Fine w ls Q (enter pl kind run s)
  enter_fine w ls kind handed run h g (Outside [] lefts) s e f = tt
  enter_fine w ls kind handed run h g (Outside (m ∷ founds) lefts) s e f =
      close_fine kind P Q handed ls s.locals m f w founds lefts (run (record s { context = Inside (mode_of kind) m })) e (h.goes (record s { context = Inside (mode_of kind) m }) refl f)
  enter_fine w ls kind handed run h g (Inside Relaxed m) s e f =
      inner_fine kind P Q handed ls s.locals m f w Relaxed (run (record s { context = Inside (mode_of kind) m })) e (h.goes (record s { context = Inside (mode_of kind) m }) refl f)
  enter_fine w ls (Plain Relaxed) handed run h g (Inside Atomic m) s e f = relaxed_absurd w g e
  enter_fine w ls (Plain Atomic) handed run h g (Inside Atomic m) s e f =
      inner_fine (Plain Atomic) P Q handed ls s.locals m f w Atomic (run (record s { context = Inside Atomic m })) e (h.goes (record s { context = Inside Atomic m }) refl f)
  enter_fine w ls Outer handed run h g (Inside Atomic m) s e f =
      inner_fine Outer P Q handed ls s.locals m f w Atomic (run (record s { context = Inside Atomic m })) e (h.goes (record s { context = Inside Atomic m }) refl f)

  enters : {w : Option Mode} {ls : Shapes} (kind : TransactionKind) → Handed kind P Q → {run : Action Completion} → MayBegin w (mode_of kind) → Goes (Some (mode_of kind)) ls ls P run → Goes w ls ls Q (transaction kind run)
  enters {w = w} {ls = ls} kind handed {run = run} g h = record { goes = λ s e f. enter_fine w ls kind handed run h g s.context s e f }

pub transaction_goes : {w : Option Mode} {ls : Shapes} (l b b' u : Bool) (kind : TransactionKind) {run : Action Completion} → MayBegin w (mode_of kind) → Goes (Some (mode_of kind)) ls ls (CompletionFits l b (in_outer kind u)) run → Goes w ls ls (CompletionFits l b' u) (transaction kind run)
transaction_goes l b b' u kind g h = enters (CompletionFits l b (in_outer kind u)) (CompletionFits l b' u) kind (left_fits l b b' u kind) g h

-- a transaction that is an expression: its body returns the value, and ends in no other way
abbrev IsReturn : Completion → Type 0
IsReturn (Returns v) = Unit {0}
IsReturn end = ⊥

left_returns : (mode : Mode) → Handed (Plain mode) IsReturn IsReturn
left_returns mode mine found (Returns v) now h = tt
left_returns mode mine found Next now h = h
left_returns mode mine found Breaks now h = h
left_returns mode mine found Continues now h = h
left_returns mode mine found Cancels now h = absurd h
left_returns mode mine found CancelsOuter now h = h

begin_fine : (w : Option Mode) (ls : Shapes) (pl : Context) (s : State) → mode_at s.context ≡ w → map shape s.locals ≡ ls → Fine w ls Any (begin_at pl s)
begin_fine w ls (Outside founds lefts) s e f = spend_fine w ls s.ticks s e f
begin_fine w ls (Inside mode m) s e f = (e, f, tt)

begin_value_goes : {w : Option Mode} {ls : Shapes} → Goes w ls ls Any begin_value
begin_value_goes {w = w} {ls = ls} = record { goes = λ s e f. begin_fine w ls s.context s e f }

value_at_goes : {w : Option Mode} {ls : Shapes} (end : Completion) → IsReturn end → Goes w ls ls Any (value_at end)
value_at_goes (Returns v) h = pure_goes v tt
value_at_goes Next h = absurd h
value_at_goes Breaks h = absurd h
value_at_goes Continues h = absurd h
value_at_goes Cancels h = absurd h
value_at_goes CancelsOuter h = absurd h

pub value_transaction_goes : {w : Option Mode} {ls : Shapes} (mode : Mode) {run : Action Value} → MayBegin w mode → Goes (Some mode) ls ls Any run → Goes w ls ls Any (value_transaction mode run)
value_transaction_goes mode g h =
    then_goes begin_value_goes (on_goes (enters IsReturn IsReturn (Plain mode) (left_returns mode) g (on_goes h (λ v _. pure_goes (Returns v) tt))) value_at_goes)
