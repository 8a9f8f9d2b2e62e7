-- One tick more shows at most one piece of what the program prints, or one memory left more.
use Rattle.std.proofs.Common.{◌≡◌, ℕ, zero, suc, ◌+◌, ◌≤◌, ◌⊎◌, inl, inr, refl, sym, ap, subst, ◌∙◌, arith, List, [], ◌∷◌, ◌++◌, Option, Some, None, Bool, true, false}
use Rattle.syntax.specs.declared.tree.Mode.{Mode}
use Rattle.syntax.specs.declared.tree.Mode.TheVariants.{Atomic, Relaxed}
use Rattle.syntax.specs.declared.tree.TransactionKind.{TransactionKind}
use Rattle.syntax.specs.declared.tree.TransactionKind.TheVariants.{Plain, Outer}
use Rattle.syntax.specs.declared.thread_end.Trap.{Trap}
use Rattle.syntax.specs.declared.thread_end.Halt.TheVariants.{Trapped, Wants, Spent, Astray}
use Rattle.syntax.specs.Tree.{Program}
use Rattle.syntax.specs.Names.{Local}
use Rattle.syntax.specs.Behaviours.{Memory, Outcome}
use Rattle.syntax.specs.Actions.{Context, Outside, Inside, State, Answer, Gives, Stops, Action, stop, go_on, ◌>>=◌, spend, tick, trap, load_at, store, may_print_at, write, print_piece, lefts_in}
use Rattle.syntax.specs.Meaning.{Completion, after_turn, turns, loop, Left, undoes, left_or, left_by, leave_inner, close_inner, close, enter, mode_of, begin_at}
use Rattle.syntax.specs.Threads.{outcome_of, first_state, worker_run, thread}
use Rattle.syntax.specs.Laws.{IsPieceOf, ShowsOneMore, OneTickMore}
use Rattle.syntax.proofs.running.Further.{state_of}
use Rattle.syntax.proofs.running.Preserved.{IsPreserved, any_cells, worker_holds}

-- nothing left between two contexts, and one memory left
abbrev Quiet : Context → Context → Type 0
Quiet (Outside f l) (Outside f' l') = l' ≡ l
Quiet (Outside f l) (Inside mode m) = ⊥
Quiet (Inside mode m) (Outside f l) = ⊥
Quiet (Inside mode m) (Inside mode' m') = Unit {0}

abbrev LeavesOne : Context → Context → Type 0
LeavesOne (Outside f l) (Outside f' l') = (m : Memory) × (l' ≡ l ++ m ∷ [])
LeavesOne (Outside f l) (Inside mode m) = ⊥
LeavesOne (Inside mode m) q = ⊥

quiet_refl : (p : Context) → Quiet p p
quiet_refl (Outside f l) = refl
quiet_refl (Inside mode m) = tt

quiet_trans : (p q r : Context) → Quiet p q → Quiet q r → Quiet p r
quiet_trans (Outside f l) (Outside f' l') (Outside f'' l'') a b = b ∙ a
quiet_trans (Outside f l) (Outside f' l') (Inside mode m) a b = b
quiet_trans (Outside f l) (Inside mode m) r a b = absurd a
quiet_trans (Inside mode m) (Outside f l) r a b = absurd a
quiet_trans (Inside mode m) (Inside mode' m') (Outside f l) a b = b
quiet_trans (Inside mode m) (Inside mode' m') (Inside mode'' m'') a b = tt

leaves_then_quiet : (p q r : Context) → LeavesOne p q → Quiet q r → LeavesOne p r
leaves_then_quiet (Outside f l) (Outside f' l') (Outside f'' l'') a b = (a.0, b ∙ a.1)
leaves_then_quiet (Outside f l) (Outside f' l') (Inside mode m) a b = b
leaves_then_quiet (Outside f l) (Inside mode m) r a b = absurd a
leaves_then_quiet (Inside mode m) q r a b = absurd a

-- both outside, or both inside
abbrev SameSide : Context → Context → Type 0
SameSide (Outside f l) (Outside f' l') = Unit {0}
SameSide (Outside f l) (Inside mode m) = ⊥
SameSide (Inside mode m) (Outside f l) = ⊥
SameSide (Inside mode m) (Inside mode' m') = Unit {0}

side_refl : (p : Context) → SameSide p p
side_refl (Outside f l) = tt
side_refl (Inside mode m) = tt

side_trans : (p q r : Context) → SameSide p q → SameSide q r → SameSide p r
side_trans (Outside f l) (Outside f' l') r a b = b
side_trans (Outside f l) (Inside mode m) r a b = absurd a
side_trans (Inside mode m) (Outside f l) r a b = absurd a
side_trans (Inside mode m) (Inside mode' m') r a b = b

abbrev IsInside : Context → Type 0
IsInside (Outside f l) = ⊥
IsInside (Inside mode m) = Unit {0}

inside_side : (mode : Mode) (m : Memory) (q : Context) → SameSide (Inside mode m) q → IsInside q
inside_side mode m (Outside f l) h = h
inside_side mode m (Inside mode' m') h = tt

inside_quiet : (p : Context) (mode : Mode) (m : Memory) → IsInside p → Quiet p (Inside mode m)
inside_quiet (Outside f l) mode m h = h
inside_quiet (Inside mode' m') mode m h = tt

inside_leaves : (p q : Context) → IsInside p → LeavesOne p q → ⊥
inside_leaves (Outside f l) q h o = h
inside_leaves (Inside mode m) q h o = o

-- without ticks a run shows nothing, and does not trap
abbrev NoTrap : {A : Type 0} → Answer A → Type 0
NoTrap (Stops (Trapped k) s) = ⊥
NoTrap _ = Unit {0}

record IsIdle {A : Type 0} (s : State) (r : Answer A) : Type 0 where
  ticks : (state_of r).ticks ≡ 0
  text : (state_of r).text ≡ s.text
  context : Quiet s.context (state_of r).context
  free : NoTrap r

same_lefts : (p q : Context) → Quiet p q → lefts_in q ≡ lefts_in p
same_lefts (Outside f l) (Outside f' l') e = e
same_lefts (Outside f l) (Inside mode m) e = absurd e
same_lefts (Inside mode m) (Outside f l) e = absurd e
same_lefts (Inside mode m) (Inside mode' m') e = refl

one_left : (p q : Context) → LeavesOne p q → (m : Memory) × (lefts_in q ≡ lefts_in p ++ m ∷ [])
one_left (Outside f l) (Outside f' l') e = e
one_left (Outside f l) (Inside mode m) e = absurd e
one_left (Inside mode m) q e = absurd e

outcome_lefts : (r : Answer (Unit {0})) → (outcome_of r).lefts ≡ lefts_in (state_of r).context
outcome_lefts (Gives u s) = refl
outcome_lefts (Stops why s) = refl

outcome_text : (r : Answer (Unit {0})) → (outcome_of r).text ≡ (state_of r).text
outcome_text (Gives u s) = refl
outcome_text (Stops why s) = refl

module _ (program : Program) where
  -- what is reached from a spent state with one tick more
  abbrev Shown : {A : Type 0} → State → Answer A → Type 0
  Shown t r =
      (((state_of r).text ≡ t.text) × Quiet t.context (state_of r).context)
      ⊎ (((piece : List ℕ) × ((state_of r).text ≡ t.text ++ piece) × Quiet t.context (state_of r).context × NoTrap r × IsPieceOf program piece)
      ⊎ (((state_of r).text ≡ t.text) × LeavesOne t.context (state_of r).context))

  abbrev later : State → State
  later s = record s { ticks = suc s.ticks }

  -- what an answer says of the answer with one tick more
  abbrev OneMore : {A : Type 0} → Answer A → Answer A → Type 0
  OneMore (Gives a t) more = more ≡ Gives a (later t)
  OneMore (Stops (Trapped k) t) more = more ≡ Stops (Trapped k) (later t)
  OneMore (Stops Wants t) more = more ≡ Stops Wants (later t)
  OneMore (Stops Astray t) more = more ≡ Stops Astray (later t)
  OneMore (Stops Spent t) more = ((state_of more).ticks ≡ 0) × Shown t more

  record IsSlow {A : Type 0} (run : Action A) : Type 0 where
    falls : (s : State) → (state_of (run s)).ticks ≤ s.ticks
    side : (s : State) → SameSide s.context (state_of (run s)).context
    idle : (s : State) → s.ticks ≡ 0 → IsIdle s (run s)
    one : (s : State) → OneMore (run s) (run (later s))

  still : {A : Type 0} (s : State) (a : A) → s.ticks ≡ 0 → IsIdle s (Gives a s)
  still s a e = record { ticks = e; text = refl; context = quiet_refl s.context; free = tt }

  idle_trans : {A B : Type 0} (s t : State) (a : A) (r : Answer B) → IsIdle s (Gives a t) → IsIdle t r → IsIdle s r
  idle_trans s t a r g h = record { ticks = h.ticks; text = h.text ∙ g.text; context = quiet_trans s.context t.context (state_of r).context g.context h.context; free = h.free }

  on_falls : {A B : Type 0} (n : ℕ) (r : Answer A) (rest : A → Action B) → (state_of r).ticks ≤ n → ((a : A) (t : State) → (state_of (rest a t)).ticks ≤ t.ticks) → (state_of (go_on r rest)).ticks ≤ n
  on_falls n (Gives a t) rest b h = let c : (state_of (rest a t)).ticks ≤ t.ticks = h a t in omega (arith, b, c)
  on_falls n (Stops why t) rest b h = b

  on_side : {A B : Type 0} (p : Context) (r : Answer A) (rest : A → Action B) → SameSide p (state_of r).context → ((a : A) (t : State) → SameSide t.context (state_of (rest a t)).context) → SameSide p (state_of (go_on r rest)).context
  on_side p (Gives a t) rest c h = side_trans p t.context (state_of (rest a t)).context c (h a t)
  on_side p (Stops why t) rest c h = c

  on_idle : {A B : Type 0} (s : State) (r : Answer A) (rest : A → Action B) → IsIdle s r → ((a : A) (t : State) → t.ticks ≡ 0 → IsIdle t (rest a t)) → IsIdle s (go_on r rest)
  on_idle s (Gives a t) rest g h = idle_trans s t a (rest a t) g (h a t g.ticks)
  on_idle s (Stops (Trapped k) t) rest g h = absurd g.free
  on_idle s (Stops Wants t) rest g h = record { ticks = g.ticks; text = g.text; context = g.context; free = tt }
  on_idle s (Stops Spent t) rest g h = record { ticks = g.ticks; text = g.text; context = g.context; free = tt }
  on_idle s (Stops Astray t) rest g h = record { ticks = g.ticks; text = g.text; context = g.context; free = tt }

  shown_then_idle : {A B : Type 0} (s t : State) (a : A) (r : Answer B) → Shown s (Gives a t) → IsIdle t r → Shown s r
  shown_then_idle s t a r (inl x) i = inl (i.text ∙ x.0, quiet_trans s.context t.context (state_of r).context x.1 i.context)
  shown_then_idle s t a r (inr (inl x)) i = inr (inl (x.0, i.text ∙ x.1, quiet_trans s.context t.context (state_of r).context x.2 i.context, i.free, x.4))
  shown_then_idle s t a r (inr (inr x)) i = inr (inr (i.text ∙ x.0, leaves_then_quiet s.context t.context (state_of r).context x.1 i.context))

  on_shown : {A B : Type 0} (s : State) (r : Answer A) (rest : A → Action B) → (state_of r).ticks ≡ 0 → Shown s r → ((a : A) (t : State) → t.ticks ≡ 0 → IsIdle t (rest a t)) → ((state_of (go_on r rest)).ticks ≡ 0) × Shown s (go_on r rest)
  on_shown s (Gives a t) rest e x h = ((h a t e).ticks, shown_then_idle s t a (rest a t) x (h a t e))
  on_shown s (Stops (Trapped k) t) rest e x h = (e, x)
  on_shown s r rest e x h = (e, x)

  on_one : {A B : Type 0} (n : ℕ) (r more : Answer A) (rest rest' : A → Action B) → (state_of r).ticks ≤ n → OneMore r more → ((a : A) (t : State) → t.ticks ≡ 0 → IsIdle t (rest' a t)) → ((a : A) (t : State) → t.ticks ≤ n → OneMore (rest a t) (rest' a (later t))) → OneMore (go_on r rest) (go_on more rest')
  on_one n (Gives a t) more rest rest' b e i h = subst (λ x. OneMore (rest a t) (go_on x rest')) (sym e) (h a t b)
  on_one n (Stops (Trapped k) t) more rest rest' b e i h = ap (λ x. go_on x rest') e
  on_one n (Stops Wants t) more rest rest' b e i h = ap (λ x. go_on x rest') e
  on_one n (Stops Astray t) more rest rest' b e i h = ap (λ x. go_on x rest') e
  on_one n (Stops Spent t) more rest rest' b e i h = on_shown t more rest' e.0 e.1 i

  on_slow : {A B : Type 0} {run : Action A} {rest : A → Action B} → IsSlow run → ((a : A) → IsSlow (rest a)) → IsSlow (run >>= rest)
  on_slow {run = run} {rest = rest} g h = record {
    falls = λ s. on_falls s.ticks (run s) rest (g.falls s) (λ a t. (h a).falls t);
    side = λ s. on_side s.context (run s) rest (g.side s) (λ a t. (h a).side t);
    idle = λ s e. on_idle s (run s) rest (g.idle s e) (λ a t. (h a).idle t);
    one = λ s. on_one s.ticks (run s) (run (later s)) rest rest (g.falls s) (g.one s) (λ a t. (h a).idle t) (λ a t _. (h a).one t);
  }

  pure_slow : {A : Type 0} (a : A) → IsSlow (λ s. Gives a s)
  pure_slow a = record { falls = λ s. omega arith; side = λ s. side_refl s.context; idle = λ s e. still s a e; one = λ s. refl }

  astray_slow : {A : Type 0} → IsSlow (stop {A = A} Astray)
  astray_slow = record { falls = λ s. omega arith; side = λ s. side_refl s.context; idle = λ s e. record { ticks = e; text = refl; context = quiet_refl s.context; free = tt }; one = λ s. refl }

  spend_falls : (n : ℕ) (s : State) → n ≡ s.ticks → (state_of (spend n s)).ticks ≤ s.ticks
  spend_falls zero s e = omega arith
  spend_falls (suc n) s e = omega (arith, e)

  spend_side : (n : ℕ) (s : State) → SameSide s.context (state_of (spend n s)).context
  spend_side zero s = side_refl s.context
  spend_side (suc n) s = side_refl s.context

  spend_idle : (n : ℕ) (s : State) → n ≡ 0 → s.ticks ≡ 0 → IsIdle s (spend n s)
  spend_idle zero s e f = record { ticks = f; text = refl; context = quiet_refl s.context; free = tt }
  spend_idle (suc n) s e f = absurd (cc)

  spend_one : (n : ℕ) (s : State) → OneMore (spend n s) (spend (suc n) (later s))
  spend_one zero s = (refl, inl (refl, quiet_refl s.context))
  spend_one (suc n) s = refl

  tick_slow : IsSlow tick
  tick_slow = record { falls = λ s. spend_falls s.ticks s refl; side = λ s. spend_side s.ticks s; idle = λ s e. spend_idle s.ticks s e e; one = λ s. spend_one s.ticks s }

  -- a trap takes the tick itself
  trap_idle : {A : Type 0} (k : Trap) (n : ℕ) (s : State) → n ≡ 0 → s.ticks ≡ 0 → IsIdle s (go_on (spend n s) (λ _. stop {A = A} (Trapped k)))
  trap_idle k zero s e f = record { ticks = f; text = refl; context = quiet_refl s.context; free = tt }
  trap_idle k (suc n) s e f = absurd (cc)

  trap_one : (A : Type 0) (k : Trap) (n : ℕ) (s : State) → OneMore (go_on (spend n s) (λ _. stop {A = A} (Trapped k))) (go_on (spend (suc n) (later s)) (λ _. stop {A = A} (Trapped k)))
  trap_one A k zero s = (refl, inl (refl, quiet_refl s.context))
  trap_one A k (suc n) s = refl

  trap_slow : {A : Type 0} (k : Trap) → IsSlow (trap {A = A} k)
  trap_slow {A} k = record {
    falls = λ s. on_falls s.ticks (tick s) (λ _. stop (Trapped k)) (spend_falls s.ticks s refl) (λ _ t. omega arith);
    side = λ s. on_side s.context (tick s) (λ _. stop (Trapped k)) (spend_side s.ticks s) (λ _ t. side_refl t.context);
    idle = λ s e. trap_idle k s.ticks s e e;
    one = λ s. trap_one A k s.ticks s;
  }

  -- so does a piece
  piece_idle : (text : List ℕ) (n : ℕ) (s : State) → n ≡ 0 → s.ticks ≡ 0 → IsIdle s (go_on (spend n s) (λ _. write text))
  piece_idle text zero s e f = record { ticks = f; text = refl; context = quiet_refl s.context; free = tt }
  piece_idle text (suc n) s e f = absurd (cc)

  piece_one : (text : List ℕ) → IsPieceOf program text → (n : ℕ) (s : State) → OneMore (go_on (spend n s) (λ _. write text)) (go_on (spend (suc n) (later s)) (λ _. write text))
  piece_one text shown zero s = (refl, inr (inl (text, refl, quiet_refl s.context, tt, shown)))
  piece_one text shown (suc n) s = refl

  piece_slow : (text : List ℕ) → IsPieceOf program text → IsSlow (print_piece text)
  piece_slow text shown = record {
    falls = λ s. on_falls s.ticks (tick s) (λ _. write text) (spend_falls s.ticks s refl) (λ _ t. omega arith);
    side = λ s. on_side s.context (tick s) (λ _. write text) (spend_side s.ticks s) (λ _ t. side_refl t.context);
    idle = λ s e. piece_idle text s.ticks s e e;
    one = λ s. piece_one text shown s.ticks s;
  }

  load_falls : (p : Context) (c : ℕ) (s : State) → (state_of (load_at p c s)).ticks ≤ s.ticks
  load_falls (Outside f l) c s = omega arith
  load_falls (Inside mode m) c s = omega arith

  load_side : (p : Context) (c : ℕ) (s : State) → SameSide s.context (state_of (load_at p c s)).context
  load_side (Outside f l) c s = side_refl s.context
  load_side (Inside mode m) c s = side_refl s.context

  load_idle : (p : Context) (c : ℕ) (s : State) → s.ticks ≡ 0 → IsIdle s (load_at p c s)
  load_idle (Outside f l) c s e = record { ticks = e; text = refl; context = quiet_refl s.context; free = tt }
  load_idle (Inside mode m) c s e = record { ticks = e; text = refl; context = quiet_refl s.context; free = tt }

  load_one : (p : Context) (c : ℕ) (s : State) → OneMore (load_at p c s) (load_at p c (later s))
  load_one (Outside f l) c s = refl
  load_one (Inside mode m) c s = refl

  may_print_falls : (p : Context) (s : State) → (state_of (may_print_at p s)).ticks ≤ s.ticks
  may_print_falls (Outside f l) s = omega arith
  may_print_falls (Inside Relaxed m) s = omega arith
  may_print_falls (Inside Atomic m) s = omega arith

  may_print_side : (p : Context) (s : State) → SameSide s.context (state_of (may_print_at p s)).context
  may_print_side (Outside f l) s = side_refl s.context
  may_print_side (Inside Relaxed m) s = side_refl s.context
  may_print_side (Inside Atomic m) s = side_refl s.context

  may_print_idle : (p : Context) (s : State) → s.ticks ≡ 0 → IsIdle s (may_print_at p s)
  may_print_idle (Outside f l) s e = still s tt e
  may_print_idle (Inside Relaxed m) s e = still s tt e
  may_print_idle (Inside Atomic m) s e = record { ticks = e; text = refl; context = quiet_refl s.context; free = tt }

  may_print_one : (p : Context) (s : State) → OneMore (may_print_at p s) (may_print_at p (later s))
  may_print_one (Outside f l) s = refl
  may_print_one (Inside Relaxed m) s = refl
  may_print_one (Inside Atomic m) s = refl

  abbrev state : ℕ → List Local → Context → List ℕ → State
  state n ls p t = record { ticks = n; locals = ls; context = p; text = t }

  module _ (c w : ℕ) where
    store_falls : (n : ℕ) (ls : List Local) (p : Context) (t : List ℕ) → (state_of (store c w (state n ls p t))).ticks ≤ n
    store_falls n ls (Outside f l) t = omega arith
    store_falls n ls (Inside mode m) t = omega arith

    store_side : (n : ℕ) (ls : List Local) (p : Context) (t : List ℕ) → SameSide p (state_of (store c w (state n ls p t))).context
    store_side n ls (Outside f l) t = tt
    store_side n ls (Inside mode m) t = tt

    store_idle : (n : ℕ) (ls : List Local) (p : Context) (t : List ℕ) → n ≡ 0 → IsIdle (state n ls p t) (store c w (state n ls p t))
    store_idle n ls (Outside f l) t e = record { ticks = e; text = refl; context = refl; free = tt }
    store_idle n ls (Inside mode m) t e = record { ticks = e; text = refl; context = tt; free = tt }

    store_one : (n : ℕ) (ls : List Local) (p : Context) (t : List ℕ) → OneMore (store c w (state n ls p t)) (store c w (state (suc n) ls p t))
    store_one n ls (Outside f l) t = refl
    store_one n ls (Inside mode m) t = refl

  -- a loop never has more turns than ticks, so that with one tick more it has one turn more at most
  after_falls : (rest : Action Completion) → ((s : State) → (state_of (rest s)).ticks ≤ s.ticks) → (o : Option Completion) (s : State) → (state_of (after_turn rest o s)).ticks ≤ s.ticks
  after_falls rest h None s = h s
  after_falls rest h (Some end) s = omega arith

  after_side : (rest : Action Completion) → ((s : State) → SameSide s.context (state_of (rest s)).context) → (o : Option Completion) (s : State) → SameSide s.context (state_of (after_turn rest o s)).context
  after_side rest h None s = h s
  after_side rest h (Some end) s = side_refl s.context

  after_idle : (rest : Action Completion) → ((s : State) → s.ticks ≡ 0 → IsIdle s (rest s)) → (o : Option Completion) (s : State) → s.ticks ≡ 0 → IsIdle s (after_turn rest o s)
  after_idle rest h None s e = h s e
  after_idle rest h (Some end) s e = still s end e

  after_one : (n : ℕ) (rest rest' : Action Completion) → ((s : State) → s.ticks ≤ n → OneMore (rest s) (rest' (later s))) → (o : Option Completion) (s : State) → s.ticks ≤ n → OneMore (after_turn rest o s) (after_turn rest' o (later s))
  after_one n rest rest' h None s b = h s b
  after_one n rest rest' h (Some end) s b = refl

  module _ (turn : Action (Option Completion)) (h : IsSlow turn) where
    turns_fall : (n : ℕ) (s : State) → (state_of (turns n turn s)).ticks ≤ s.ticks
    turns_fall zero s = omega arith
    turns_fall (suc n) s =
        on_falls s.ticks (tick s) (λ _. turn >>= after_turn (turns n turn)) (tick_slow.falls s)
        (λ _ t. on_falls t.ticks (turn t) (after_turn (turns n turn)) (h.falls t) (after_falls (turns n turn) (turns_fall n)))

    turns_side : (n : ℕ) (s : State) → SameSide s.context (state_of (turns n turn s)).context
    turns_side zero s = side_refl s.context
    turns_side (suc n) s =
        on_side s.context (tick s) (λ _. turn >>= after_turn (turns n turn)) (tick_slow.side s)
        (λ _ t. on_side t.context (turn t) (after_turn (turns n turn)) (h.side t) (after_side (turns n turn) (turns_side n)))

    turns_idle : (n : ℕ) (s : State) → s.ticks ≡ 0 → IsIdle s (turns n turn s)
    turns_idle zero s e = record { ticks = e; text = refl; context = quiet_refl s.context; free = tt }
    turns_idle (suc n) s e =
        on_idle s (tick s) (λ _. turn >>= after_turn (turns n turn)) (tick_slow.idle s e)
        (λ _ t f. on_idle t (turn t) (after_turn (turns n turn)) (h.idle t f) (after_idle (turns n turn) (turns_idle n)))

    turn_idle : (n : ℕ) (t : State) → t.ticks ≡ 0 → IsIdle t ((turn >>= after_turn (turns n turn)) t)
    turn_idle n t e = on_idle t (turn t) (after_turn (turns n turn)) (h.idle t e) (after_idle (turns n turn) (turns_idle n))

    -- the ticks of a turn's rest, where the turn's own is spent
    spend_turn : (m n : ℕ) (s : State) → m ≡ s.ticks → m ≤ suc n → (state_of (spend m s)).ticks ≤ n
    spend_turn zero n s e b = omega (arith, e)
    spend_turn (suc m) n s e b = omega (arith, b)

    turns_one : (n : ℕ) (s : State) → s.ticks ≤ n → OneMore (turns n turn s) (turns (suc n) turn (later s))
    turns_one zero s b = on_shown {A = Unit {0}} s (Gives tt s) (λ _. turn >>= after_turn (turns zero turn)) (omega (arith, b)) (inl (refl, quiet_refl s.context)) (λ _ t e. turn_idle zero t e)
    turns_one (suc n) s b =
        on_one n (tick s) (tick (later s)) (λ _. turn >>= after_turn (turns n turn)) (λ _. turn >>= after_turn (turns (suc n) turn)) (spend_turn s.ticks n s refl b) (tick_slow.one s)
        (λ _ t e. turn_idle (suc n) t e)
        (λ _ t c. on_one n (turn t) (turn (later t)) (after_turn (turns n turn)) (after_turn (turns (suc n) turn)) (let d : (state_of (turn t)).ticks ≤ t.ticks = h.falls t in omega (arith, c, d)) (h.one t) (after_idle (turns (suc n) turn) (turns_idle (suc n))) (after_one n (turns n turn) (turns (suc n) turn) (turns_one n)))

  loop_slow : {turn : Action (Option Completion)} → IsSlow turn → IsSlow (loop turn)
  loop_slow {turn = turn} h = record {
    falls = λ s. turns_fall turn h s.ticks s;
    side = λ s. turns_side turn h s.ticks s;
    idle = λ s e. turns_idle turn h s.ticks s e;
    one = λ s. turns_one turn h s.ticks s (omega arith);
  }

  -- a transaction that is left
  abbrev leave_at : ℕ → State → List Memory → List Memory → Left → Answer Completion
  leave_at n now founds lefts left =
      go_on (spend n (record now { context = Outside founds lefts }))
      (λ u then_. Gives left.end (record then_ { locals = left.locals; context = Outside founds (lefts ++ left.memory ∷ []) }))

  left_later : (undone : Bool) (mine : List Local) (found : Memory) (end : Completion) (now : State) → left_or undone mine found end (later now) ≡ left_or undone mine found end now
  left_later true mine found end now = refl
  left_later false mine found end now = refl

  -- what an answer inside shows is shown outside, where nothing is left
  carried : {A B : Type 0} (t : State) (r : Answer A) (founds lefts : List Memory) (r' : Answer B) → IsInside t.context → Shown t r → (state_of r').text ≡ (state_of r).text → Quiet (Outside founds lefts) (state_of r').context → NoTrap r' → Shown (record t { context = Outside founds lefts }) r'
  carried t r founds lefts r' i (inl x) e q free = inl (e ∙ x.0, q)
  carried t r founds lefts r' i (inr (inl x)) e q free = inr (inl (x.0, e ∙ x.1, q, free, x.4))
  carried t r founds lefts r' i (inr (inr x)) e q free = absurd (inside_leaves t.context (state_of r).context i x.1)

  -- a trap leaves the memory that was found
  trap_carried : (k : Trap) (t u : State) (founds lefts : List Memory) (found : Memory) → IsInside t.context → Shown {A = Completion} t (Stops (Trapped k) u) → Shown {A = Completion} (record t { context = Outside founds lefts }) (Stops (Trapped k) (record u { context = Outside founds (lefts ++ found ∷ []) }))
  trap_carried k t u founds lefts found i (inl x) = inr (inr (x.0, (found, refl)))
  trap_carried k t u founds lefts found i (inr (inl x)) = absurd x.3
  trap_carried k t u founds lefts found i (inr (inr x)) = absurd (inside_leaves t.context u.context i x.1)

  module _ (founds lefts : List Memory) where
    leave_falls : (n : ℕ) (now : State) (left : Left) → n ≡ now.ticks → (state_of (leave_at n now founds lefts left)).ticks ≤ now.ticks
    leave_falls zero now left e = omega arith
    leave_falls (suc n) now left e = omega (arith, e)

    leave_side : (n : ℕ) (now : State) (left : Left) (f l : List Memory) → SameSide (Outside f l) (state_of (leave_at n now founds lefts left)).context
    leave_side zero now left f l = tt
    leave_side (suc n) now left f l = tt

    leave_one : (n : ℕ) (now : State) (left : Left) → OneMore (leave_at n now founds lefts left) (leave_at (suc n) (later now) founds lefts left)
    leave_one zero now left = (refl, inr (inr (refl, (left.memory, refl))))
    leave_one (suc n) now left = refl

    leave_idle : (k : ℕ) (ls : List Local) (t : List ℕ) (found : Memory) (n : ℕ) (now : State) (left : Left) → n ≡ 0 → now.ticks ≡ 0 → now.text ≡ t → IsIdle (state k ls (Outside (found ∷ founds) lefts) t) (leave_at n now founds lefts left)
    leave_idle k ls t found zero now left e f g = record { ticks = f; text = g; context = refl; free = tt }
    leave_idle k ls t found (suc n) now left e f g = absurd (cc)

    leave_shown : (t : State) (n : ℕ) (end : Completion) (u : State) (left : Left) → n ≡ 0 → IsInside t.context → u.ticks ≡ 0 → Shown t (Gives end u) → ((state_of (leave_at n u founds lefts left)).ticks ≡ 0) × Shown (record t { context = Outside founds lefts }) (leave_at n u founds lefts left)
    leave_shown t zero end u left e i f x = (f, carried {A = Completion} {B = Completion} t (Gives end u) founds lefts (Stops Spent (record u { context = Outside founds lefts })) i x refl refl tt)
    leave_shown t (suc n) end u left e i f x = absurd (cc)

    module _ (kind : TransactionKind) (mine : List Local) (found : Memory) where
      close_falls : (n : ℕ) (r : Answer Completion) → (state_of r).ticks ≤ n → (state_of (close kind founds lefts mine found r)).ticks ≤ n
      close_falls n (Gives end now) b = let c : (state_of (leave_at now.ticks now founds lefts (left_by kind mine found end now))).ticks ≤ now.ticks = leave_falls now.ticks now (left_by kind mine found end now) refl in omega (arith, b, c)
      close_falls n (Stops (Trapped k) now) b = b
      close_falls n r b = b

      close_side : (f l : List Memory) (r : Answer Completion) → SameSide (Outside f l) (state_of (close kind founds lefts mine found r)).context
      close_side f l (Gives end now) = leave_side now.ticks now (left_by kind mine found end now) f l
      close_side f l (Stops (Trapped k) now) = tt
      close_side f l r = tt

      close_idle : (mode : Mode) (k : ℕ) (ls : List Local) (t : List ℕ) (r : Answer Completion) → IsIdle (state k ls (Inside mode found) t) r → IsIdle (state k ls (Outside (found ∷ founds) lefts) t) (close kind founds lefts mine found r)
      close_idle mode k ls t (Gives end now) g = leave_idle k ls t found now.ticks now (left_by kind mine found end now) g.ticks g.ticks g.text
      close_idle mode k ls t (Stops (Trapped x) now) g = absurd g.free
      close_idle mode k ls t (Stops Wants now) g = record { ticks = g.ticks; text = g.text; context = refl; free = tt }
      close_idle mode k ls t (Stops Spent now) g = record { ticks = g.ticks; text = g.text; context = refl; free = tt }
      close_idle mode k ls t (Stops Astray now) g = record { ticks = g.ticks; text = g.text; context = refl; free = tt }

      close_shown : (t : State) (more : Answer Completion) → IsInside t.context → (state_of more).ticks ≡ 0 → Shown t more → ((state_of (close kind founds lefts mine found more)).ticks ≡ 0) × Shown (record t { context = Outside founds lefts }) (close kind founds lefts mine found more)
      close_shown t (Gives end u) i e x = leave_shown t u.ticks end u (left_by kind mine found end u) e i e x
      close_shown t (Stops (Trapped k) u) i e x = (e, trap_carried k t u founds lefts found i x)
      close_shown t (Stops Wants u) i e x = (e, carried {A = Completion} {B = Completion} t (Stops Wants u) founds lefts (Stops Wants (record u { context = Outside founds lefts })) i x refl refl tt)
      close_shown t (Stops Spent u) i e x = (e, carried {A = Completion} {B = Completion} t (Stops Spent u) founds lefts (Stops Spent (record u { context = Outside founds lefts })) i x refl refl tt)
      close_shown t (Stops Astray u) i e x = (e, carried {A = Completion} {B = Completion} t (Stops Astray u) founds lefts (Stops Astray (record u { context = Outside founds lefts })) i x refl refl tt)

      close_one : (r more : Answer Completion) → IsInside (state_of r).context → OneMore r more → OneMore (close kind founds lefts mine found r) (close kind founds lefts mine found more)
      close_one (Gives end now) more i e =
          let left = left_by kind mine found end now in
          let same = ap (close kind founds lefts mine found) e ∙ ap (λ l. leave_at (suc now.ticks) (later now) founds lefts l) (left_later (undoes end kind) mine found end now) in
          subst (λ x. OneMore (leave_at now.ticks now founds lefts left) x) (sym same) (leave_one now.ticks now left)
      close_one (Stops (Trapped k) t) more i e = ap (close kind founds lefts mine found) e
      close_one (Stops Wants t) more i e = ap (close kind founds lefts mine found) e
      close_one (Stops Astray t) more i e = ap (close kind founds lefts mine found) e
      close_one (Stops Spent t) more i e = close_shown t more i e.0 e.1

  -- an inner transaction
  module _ (outer : Mode) (kind : TransactionKind) (mine : List Local) (found : Memory) where
    inner_falls : (n : ℕ) (r : Answer Completion) → (state_of r).ticks ≤ n → (state_of (close_inner outer kind mine found r)).ticks ≤ n
    inner_falls n (Gives end now) b = b
    inner_falls n (Stops why now) b = b

    inner_side : (mode : Mode) (r : Answer Completion) → SameSide (Inside mode found) (state_of r).context → SameSide (Inside outer found) (state_of (close_inner outer kind mine found r)).context
    inner_side mode (Gives end now) c = tt
    inner_side mode (Stops why now) c = c

    inner_idle : (mode : Mode) (k : ℕ) (ls : List Local) (t : List ℕ) (r : Answer Completion) → IsIdle (state k ls (Inside mode found) t) r → IsIdle (state k ls (Inside outer found) t) (close_inner outer kind mine found r)
    inner_idle mode k ls t (Gives end now) g = record { ticks = g.ticks; text = g.text; context = tt; free = tt }
    inner_idle mode k ls t (Stops why now) g = record { ticks = g.ticks; text = g.text; context = g.context; free = g.free }

    inner_carried : (t : State) (end end' : Completion) (u u' : State) → IsInside t.context → u'.text ≡ u.text → IsInside u'.context → Quiet t.context u'.context → Shown t (Gives end u) → Shown t (Gives end' u')
    inner_carried t end end' u u' i e j q (inl x) = inl (e ∙ x.0, q)
    inner_carried t end end' u u' i e j q (inr (inl x)) = inr (inl (x.0, e ∙ x.1, q, tt, x.4))
    inner_carried t end end' u u' i e j q (inr (inr x)) = absurd (inside_leaves t.context u.context i x.1)

    inner_shown : (t : State) (more : Answer Completion) → IsInside t.context → (state_of more).ticks ≡ 0 → Shown t more → ((state_of (close_inner outer kind mine found more)).ticks ≡ 0) × Shown t (close_inner outer kind mine found more)
    inner_shown t (Gives end u) i e x =
        let left = left_by kind mine found end u in
        (e, inner_carried t end left.end u (record u { locals = left.locals; context = Inside outer left.memory }) i refl tt (inside_quiet t.context outer left.memory i) x)
    inner_shown t (Stops why u) i e x = (e, x)

    inner_one : (r more : Answer Completion) → IsInside (state_of r).context → OneMore r more → OneMore (close_inner outer kind mine found r) (close_inner outer kind mine found more)
    inner_one (Gives end now) more i e = ap (close_inner outer kind mine found) e ∙ ap (λ l. leave_inner outer l (later now)) (left_later (undoes end kind) mine found end now)
    inner_one (Stops (Trapped k) t) more i e = ap (close_inner outer kind mine found) e
    inner_one (Stops Wants t) more i e = ap (close_inner outer kind mine found) e
    inner_one (Stops Astray t) more i e = ap (close_inner outer kind mine found) e
    inner_one (Stops Spent t) more i e = inner_shown t more i e.0 e.1

  module _ (run : Action Completion) (h : IsSlow run) where
    abbrev from : Mode → Memory → ℕ → List Local → List ℕ → State
    from mode m n ls t = state n ls (Inside mode m) t

    stays_in : (mode : Mode) (m : Memory) (n : ℕ) (ls : List Local) (t : List ℕ) → IsInside (state_of (run (from mode m n ls t))).context
    stays_in mode m n ls t = inside_side mode m (state_of (run (from mode m n ls t))).context (h.side (from mode m n ls t))

    enter_falls : (kind : TransactionKind) (p : Context) (n : ℕ) (ls : List Local) (t : List ℕ) → (state_of (enter p kind run (state n ls p t))).ticks ≤ n
    enter_falls kind (Outside [] lefts) n ls t = omega arith
    enter_falls kind (Outside (m ∷ founds) lefts) n ls t = close_falls founds lefts kind ls m n (run (from (mode_of kind) m n ls t)) (h.falls (from (mode_of kind) m n ls t))
    enter_falls kind (Inside Relaxed m) n ls t = inner_falls Relaxed kind ls m n (run (from (mode_of kind) m n ls t)) (h.falls (from (mode_of kind) m n ls t))
    enter_falls (Plain Atomic) (Inside Atomic m) n ls t = inner_falls Atomic (Plain Atomic) ls m n (run (from Atomic m n ls t)) (h.falls (from Atomic m n ls t))
    enter_falls Outer (Inside Atomic m) n ls t = inner_falls Atomic Outer ls m n (run (from Atomic m n ls t)) (h.falls (from Atomic m n ls t))
    enter_falls (Plain Relaxed) (Inside Atomic m) n ls t = omega arith

    enter_side : (kind : TransactionKind) (p : Context) (n : ℕ) (ls : List Local) (t : List ℕ) → SameSide p (state_of (enter p kind run (state n ls p t))).context
    enter_side kind (Outside [] lefts) n ls t = tt
    enter_side kind (Outside (m ∷ founds) lefts) n ls t = close_side founds lefts kind ls m (m ∷ founds) lefts (run (from (mode_of kind) m n ls t))
    enter_side kind (Inside Relaxed m) n ls t = inner_side Relaxed kind ls m (mode_of kind) (run (from (mode_of kind) m n ls t)) (h.side (from (mode_of kind) m n ls t))
    enter_side (Plain Atomic) (Inside Atomic m) n ls t = inner_side Atomic (Plain Atomic) ls m Atomic (run (from Atomic m n ls t)) (h.side (from Atomic m n ls t))
    enter_side Outer (Inside Atomic m) n ls t = inner_side Atomic Outer ls m Atomic (run (from Atomic m n ls t)) (h.side (from Atomic m n ls t))
    enter_side (Plain Relaxed) (Inside Atomic m) n ls t = tt

    enter_idle : (kind : TransactionKind) (p : Context) (n : ℕ) (ls : List Local) (t : List ℕ) → n ≡ 0 → IsIdle (state n ls p t) (enter p kind run (state n ls p t))
    enter_idle kind (Outside [] lefts) n ls t e = record { ticks = e; text = refl; context = refl; free = tt }
    enter_idle kind (Outside (m ∷ founds) lefts) n ls t e = close_idle founds lefts kind ls m (mode_of kind) n ls t (run (from (mode_of kind) m n ls t)) (h.idle (from (mode_of kind) m n ls t) e)
    enter_idle kind (Inside Relaxed m) n ls t e = inner_idle Relaxed kind ls m (mode_of kind) n ls t (run (from (mode_of kind) m n ls t)) (h.idle (from (mode_of kind) m n ls t) e)
    enter_idle (Plain Atomic) (Inside Atomic m) n ls t e = inner_idle Atomic (Plain Atomic) ls m Atomic n ls t (run (from Atomic m n ls t)) (h.idle (from Atomic m n ls t) e)
    enter_idle Outer (Inside Atomic m) n ls t e = inner_idle Atomic Outer ls m Atomic n ls t (run (from Atomic m n ls t)) (h.idle (from Atomic m n ls t) e)
    enter_idle (Plain Relaxed) (Inside Atomic m) n ls t e = record { ticks = e; text = refl; context = tt; free = tt }

    enter_one : (kind : TransactionKind) (p : Context) (n : ℕ) (ls : List Local) (t : List ℕ) → OneMore (enter p kind run (state n ls p t)) (enter p kind run (state (suc n) ls p t))
    enter_one kind (Outside [] lefts) n ls t = refl
    enter_one kind (Outside (m ∷ founds) lefts) n ls t = close_one founds lefts kind ls m (run (from (mode_of kind) m n ls t)) (run (from (mode_of kind) m (suc n) ls t)) (stays_in (mode_of kind) m n ls t) (h.one (from (mode_of kind) m n ls t))
    enter_one kind (Inside Relaxed m) n ls t = inner_one Relaxed kind ls m (run (from (mode_of kind) m n ls t)) (run (from (mode_of kind) m (suc n) ls t)) (stays_in (mode_of kind) m n ls t) (h.one (from (mode_of kind) m n ls t))
    enter_one (Plain Atomic) (Inside Atomic m) n ls t = inner_one Atomic (Plain Atomic) ls m (run (from Atomic m n ls t)) (run (from Atomic m (suc n) ls t)) (stays_in Atomic m n ls t) (h.one (from Atomic m n ls t))
    enter_one Outer (Inside Atomic m) n ls t = inner_one Atomic Outer ls m (run (from Atomic m n ls t)) (run (from Atomic m (suc n) ls t)) (stays_in Atomic m n ls t) (h.one (from Atomic m n ls t))
    enter_one (Plain Relaxed) (Inside Atomic m) n ls t = refl

  begin_falls : (p : Context) (s : State) → (state_of (begin_at p s)).ticks ≤ s.ticks
  begin_falls (Outside f l) s = tick_slow.falls s
  begin_falls (Inside mode m) s = omega arith

  begin_side : (p : Context) (s : State) → SameSide s.context (state_of (begin_at p s)).context
  begin_side (Outside f l) s = tick_slow.side s
  begin_side (Inside mode m) s = side_refl s.context

  begin_idle : (p : Context) (s : State) → s.ticks ≡ 0 → IsIdle s (begin_at p s)
  begin_idle (Outside f l) s e = tick_slow.idle s e
  begin_idle (Inside mode m) s e = still s tt e

  begin_one : (p : Context) (s : State) → OneMore (begin_at p s) (begin_at p (later s))
  begin_one (Outside f l) s = tick_slow.one s
  begin_one (Inside mode m) s = refl

  slow_preserved : IsPreserved (IsPieceOf program) (λ c t. Unit {0}) (λ A run. IsSlow run)
  slow_preserved = record {
    pure_holds = pure_slow;
    on_holds = on_slow;
    astray_holds = astray_slow;
    trap_holds = trap_slow;
    tick_holds = tick_slow;
    locals_holds = record { falls = λ s. omega arith; side = λ s. side_refl s.context; idle = λ s e. still s s.locals e; one = λ s. refl };
    put_locals_holds = λ ls. record { falls = λ s. omega arith; side = λ s. side_refl s.context; idle = λ s e. record { ticks = e; text = refl; context = quiet_refl s.context; free = tt }; one = λ s. refl };
    load_holds = λ c. record { falls = λ s. load_falls s.context c s; side = λ s. load_side s.context c s; idle = λ s e. load_idle s.context c s e; one = λ s. load_one s.context c s };
    store_holds = λ c w t cell below. record { falls = λ s. store_falls c w s.ticks s.locals s.context s.text; side = λ s. store_side c w s.ticks s.locals s.context s.text; idle = λ s e. store_idle c w s.ticks s.locals s.context s.text e; one = λ s. store_one c w s.ticks s.locals s.context s.text };
    may_print_holds = record { falls = λ s. may_print_falls s.context s; side = λ s. may_print_side s.context s; idle = λ s e. may_print_idle s.context s e; one = λ s. may_print_one s.context s };
    print_piece_holds = piece_slow;
    loop_holds = loop_slow;
    transaction_holds = λ kind h. record {
      falls = λ s. enter_falls _ h kind s.context s.ticks s.locals s.text;
      side = λ s. enter_side _ h kind s.context s.ticks s.locals s.text;
      idle = λ s e. enter_idle _ h kind s.context s.ticks s.locals s.text e;
      one = λ s. enter_one _ h kind s.context s.ticks s.locals s.text;
    };
    begin_value_holds = record { falls = λ s. begin_falls s.context s; side = λ s. begin_side s.context s; idle = λ s e. begin_idle s.context s e; one = λ s. begin_one s.context s };
  }

  same_shown : (o after : Outcome) → after ≡ o → ShowsOneMore program o after
  same_shown o after e = subst (λ x. ShowsOneMore program o x) (sym e) (inl (refl, refl))

  spent_shown : (t : State) (more : Answer (Unit {0})) → Shown t more → ShowsOneMore program (outcome_of (Stops Spent t)) (outcome_of more)
  spent_shown t more (inl x) = inl (outcome_text more ∙ x.0, outcome_lefts more ∙ same_lefts t.context (state_of more).context x.1)
  spent_shown t more (inr (inl x)) = inr (inl (x.0, x.4, outcome_text more ∙ x.1, outcome_lefts more ∙ same_lefts t.context (state_of more).context x.2))
  spent_shown t more (inr (inr x)) = let l = one_left t.context (state_of more).context x.1 in inr (inr (l.0, outcome_text more ∙ x.0, outcome_lefts more ∙ l.1))

  shows : (r more : Answer (Unit {0})) → OneMore r more → ShowsOneMore program (outcome_of r) (outcome_of more)
  shows (Gives u t) more e = same_shown (outcome_of (Gives u t)) (outcome_of more) (ap outcome_of e)
  shows (Stops (Trapped k) t) more e = same_shown (outcome_of (Stops (Trapped k) t)) (outcome_of more) (ap outcome_of e)
  shows (Stops Wants t) more e = same_shown (outcome_of (Stops Wants t)) (outcome_of more) (ap outcome_of e)
  shows (Stops Astray t) more e = same_shown (outcome_of (Stops Astray t)) (outcome_of more) (ap outcome_of e)
  shows (Stops Spent t) more e = spent_shown t more e.1

  worker_one : (t : ℕ) (founds : List Memory) (n : ℕ) → ShowsOneMore program (thread program t founds n) (thread program t founds (suc n))
  worker_one t founds n = shows (worker_run program t (first_state founds n)) (worker_run program t (first_state founds (suc n))) ((worker_holds program (λ c t. Unit {0}) (any_cells program) (λ A run. IsSlow run) slow_preserved t).one (first_state founds n))

pub one_tick_more : OneTickMore
one_tick_more p t founds n =
    let next : suc n ≡ n + 1 = omega arith in
    subst (λ k. ShowsOneMore p (thread p t founds n) (thread p t founds k)) next (worker_one p t founds n)
