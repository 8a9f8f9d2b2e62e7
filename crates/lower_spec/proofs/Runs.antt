-- A thread of a code that stands where a run of the source stands, and one instruction of it.
use Rattle.std.proofs.Common.{◌≡◌, ◌≢◌, ◌⊎◌, inl, inr, Option, ℕ, zero, suc, ◌+◌, ◌<◌, ◌≤◌, Bool, true, false, List, [], ◌∷◌, ◌++◌, length, Some, None, refl, ap, ◌∙◌, subst, arith}
use Rattle.std.specs.Prelude.{slice_get, slice_index, slice_set, nat_lt}
use Rattle.std.specs.List.{AllByRecursion}
use Rattle.std.proofs.lemmas.List.{get_or-set_other, length-set}
use Rattle.syntax.specs.declared.tree.Mode.{Mode}
use Rattle.syntax.specs.declared.tree.Mode.TheVariants.{Atomic, Relaxed}
use Rattle.syntax.specs.declared.tree.TransactionKind.{TransactionKind}
use Rattle.syntax.specs.declared.tree.TransactionKind.TheVariants.{Plain, Outer}
use Rattle.syntax.specs.declared.thread_end.Trap.{Trap}
use Rattle.syntax.specs.declared.thread_end.Halt.TheVariants.{Trapped, Wants, Spent, Astray}
use Rattle.lex.specs.declared.token.Scalar.{Scalar}
use Rattle.syntax.specs.Tree.{Program}
use Rattle.syntax.specs.Numbers.{modulus}
use Rattle.syntax.specs.Names.{Local, word_at, cells, GlobalCells, global_of}
use Rattle.syntax.specs.declared.thread_end.Status.TheVariants.{Running, Trapped as HasTrapped}
use Rattle.syntax.specs.Behaviours.{Memory, IsMemory, Outcome, Stopped}
use Rattle.syntax.proofs.words.Words.{some_below}
use Rattle.syntax.specs.Actions.{Context, Outside, Inside, State, Answer, Stops, Action, stop, go_on, tick, trap, lefts_in, print_piece, ◌>>◌}
use Rattle.syntax.specs.Meaning.{Completion, mode_of, close_inner, enter}
use Rattle.bytecode.specs.Effects.{Effect}
use Rattle.bytecode.specs.Sequential.{Sequential, InnerTransaction, next, outcome_of, sequential_step, cancel_step, print_step, outside}
use Rattle.bytecode.specs.Code.{Code, Configuration, Frame, Instr, bounds_of, effect, effect_of}
use Rattle.lower_spec.specs.Expressions.{LocalScope, IsLike, InstructionAt, MayTake, Layout}
use Rattle.lower_spec.proofs.Locals.{AreWords}
use Rattle.lower_spec.proofs.Agreement.{Agrees, quiet, ticked, shown, over, fewer}

-- the transactions round a run: what of them no instruction inside changes
pub record Transactions : Type 0 where
  pub outer : Mode
  pub must : Bool  -- it is known that an irrevocable was carried out
  pub mode : Mode
  pub cancelled : Configuration
  pub found : Memory
  pub inner : List (InnerTransaction Configuration)
  pub founds : List Memory
  pub lefts : List Memory

pub data Around : Type 0 where
  Bare : Around
  Within : (h : Transactions) → Around

-- what instructions change: outside transactions the founds and the lefts, inside the memory and whether it is kept
pub record Shared : Type 0 where
  pub founds : List Memory
  pub lefts : List Memory
  pub memory : Memory
  pub kept : Bool

abbrev pub context_of : Around → Shared → Context
context_of Bare sh = Outside sh.founds sh.lefts
context_of (Within h) sh = Inside h.mode sh.memory

abbrev pub sequential_state : Around → Shared → List ℕ → Configuration → Sequential Configuration
sequential_state Bare sh text c = outside c sh.founds sh.lefts text Running
sequential_state (Within h) sh text c = record { configuration = c; inside = Some (record { cancelled = h.cancelled; found = h.found; mem = sh.memory; inner = h.inner; kept = sh.kept }); founds = h.founds; lefts = h.lefts; text = text; status = Running; wants = false }

abbrev pub state : ℕ → List Local → Context → List ℕ → State
state n ls c text = record { ticks = n; locals = ls; context = c; text = text }

-- the lefts that are seen where a run stops, and where it traps
abbrev pub lefts_at : Around → Context → List Memory
lefts_at Bare p = lefts_in p
lefts_at (Within h) p = h.lefts

abbrev pub trapped_at : Around → Context → List Memory
trapped_at Bare p = lefts_in p
trapped_at (Within h) p = h.lefts ++ h.found ∷ []

-- what is seen of an answer, where the rest of the thread follows what it gives
pub record IsSeen (a : Around) {A : Type 0} (after : Answer A → Outcome) : Type 0 where
  pub spent : (t : State) → after (Stops Spent t) ≡ record { lefts = lefts_at a t.context; text = t.text; end = Stopped Spent }
  pub wants : (t : State) → after (Stops Wants t) ≡ record { lefts = lefts_at a t.context; text = t.text; end = Stopped Wants }
  pub trapped : (k : Trap) (t : State) → after (Stops (Trapped k) t) ≡ record { lefts = trapped_at a t.context; text = t.text; end = Stopped (Trapped k) }
  pub astray : (t : State) → (after (Stops Astray t)).end ≡ Stopped Astray

pub on_seen : {A B : Type 0} (a : Around) (after : Answer B → Outcome) (rest : A → Action B) → IsSeen a after → IsSeen a (λ r. after (go_on r rest))
on_seen a after rest s = record { spent = s.spent; wants = s.wants; trapped = s.trapped; astray = s.astray }

-- a transaction inside another: an atomic one holds only atomic ones
abbrev pub Enters : Mode → TransactionKind → Type 0
Enters o kind =
    (((m : Memory) (run : Action Completion) (s : State) → enter (Inside o m) kind run s ≡ close_inner o kind s.locals m (run (record s { context = Inside (mode_of kind) m }))) × (o ≡ Atomic → mode_of kind ≡ Atomic))
    ⊎ ((m : Memory) (run : Action Completion) (s : State) → enter (Inside o m) kind run s ≡ Stops Astray s)

pub enters : (o : Mode) (kind : TransactionKind) → Enters o kind
enters Relaxed kind = inl ((λ m run s. refl), (λ e. absurd (apart e)))
  where
    apart : Relaxed ≡ Atomic → ⊥
    apart e = cc
enters Atomic (Plain Atomic) = inl ((λ m run s. refl), (λ e. refl))
enters Atomic Outer = inl ((λ m run s. refl), (λ e. refl))
enters Atomic (Plain Relaxed) = inr (λ m run s. refl)

-- how many registers a function has
abbrev pub registers_in : Layout → ℕ
registers_in layout = layout.writable + length layout.constants

-- the constants lie in the registers behind those that are written
abbrev pub ArePreloaded : Layout → List ℕ → Type 0
ArePreloaded layout registers = (k w : ℕ) → slice_get layout.constants k ≡ Some w → slice_index registers (layout.writable + k) ≡ w

-- the registers hold the locals and the constants
pub record HasLocals (scope : LocalScope) (ls : List Local) (layout : Layout) (free : ℕ) (registers : List ℕ) : Type 0 where
  pub like : IsLike scope ls
  pub room : length ls ≤ free
  pub fits : length ls ≤ layout.writable
  pub size_is : length registers ≡ registers_in layout
  pub each : (i : ℕ) → i < length ls → slice_index registers i ≡ word_at ls i
  pub words : AreWords ls
  pub preloaded : ArePreloaded layout registers

-- what a value's home leaves as it was
abbrev pub IsSpared : Option ℕ → ℕ → Type 0
IsSpared None i = Unit {0}
IsSpared (Some home) i = i ≢ home

-- the registers below one are as they were, but for a value's home, and so are those behind all that are written
pub record Keeps (layout : Layout) (home : Option ℕ) (free : ℕ) (old new : List ℕ) : Type 0 where
  pub size : length new ≡ length old
  pub below : (i : ℕ) → i < free → IsSpared home i → slice_index new i ≡ slice_index old i
  pub behind : (i : ℕ) → layout.writable ≤ i → slice_index new i ≡ slice_index old i

pub keeps_all : (layout : Layout) (home : Option ℕ) (free : ℕ) (rs : List ℕ) → Keeps layout home free rs rs
keeps_all layout home free rs = record { size = refl; below = λ i h s. refl; behind = λ i h. refl }

-- with no home nothing below is written
pub keeps_more : (layout : Layout) (home : Option ℕ) (free : ℕ) (old new : List ℕ) → Keeps layout None free old new → Keeps layout home free old new
keeps_more layout home free old new k = record { size = k.size; below = λ i h s. k.below i h tt; behind = k.behind }

apart : (home : Option ℕ) (free d i : ℕ) → MayTake home free d → i < free → IsSpared home i → i ≢ d
apart None free d i h b s e = omega (arith, h, b, e)
apart (Some home) free d i (inl h) b s e = omega (arith, h, b, e)
apart (Some home) free d i (inr h) b s e = s (e ∙ h)

pub keeps_set : (layout : Layout) (home : Option ℕ) (free : ℕ) (old new : List ℕ) (d w : ℕ) → MayTake home free d → d < layout.writable → Keeps layout home free old new → Keeps layout home free old (slice_set new d w)
keeps_set layout home free old new d w h l k = record {
  size = length-set new d w ∙ k.size;
  below = λ i b s. get_or-set_other new d i w 0 (apart home free d i h b s) ∙ k.below i b s;
  behind = λ i b. get_or-set_other new d i w 0 (λ e. omega (arith, b, l, e)) ∙ k.behind i b;
}

pub keeps_on : (layout : Layout) (home : Option ℕ) (free later : ℕ) (old mid new : List ℕ) → free ≤ later → Keeps layout None free old mid → Keeps layout home later mid new → Keeps layout home free old new
keeps_on layout home free later old mid new h k l = record {
  size = l.size ∙ k.size;
  below = λ i b s. l.below i (omega (arith, b, h)) s ∙ k.below i b tt;
  behind = λ i b. l.behind i b ∙ k.behind i b;
}

-- a register that is not free, or lies behind all that are written
pub unchanged_at : (layout : Layout) (free i : ℕ) (old new : List ℕ) → (i < free) ⊎ (layout.writable ≤ i) → Keeps layout None free old new → slice_index new i ≡ slice_index old i
unchanged_at layout free i old new (inl h) k = k.below i h tt
unchanged_at layout free i old new (inr h) k = k.behind i h

-- the constants lie there still
pub preloaded_stay : (layout : Layout) (home : Option ℕ) (free : ℕ) (old new : List ℕ) → ArePreloaded layout old → Keeps layout home free old new → ArePreloaded layout new
preloaded_stay layout home free old new h k i w e = k.behind (layout.writable + i) (omega arith) ∙ h i w e

pub has_locals_on : (scope : LocalScope) (ls : List Local) (layout : Layout) (free later : ℕ) (old new : List ℕ) → free ≤ later → HasLocals scope ls layout free old → Keeps layout None free old new → HasLocals scope ls layout later new
has_locals_on scope ls layout free later old new b h k = record {
  like = h.like;
  room = let r = h.room in omega (arith, r, b);
  fits = h.fits;
  size_is = k.size ∙ h.size_is;
  each = λ i l. let r = h.room in k.below i (omega (arith, l, r)) tt ∙ h.each i l;
  words = h.words;
  preloaded = preloaded_stay layout None free old new h.preloaded k;
}

-- a memory's word is below the bound of its cell
word_in_memory : (bs : List ℕ) (m : Memory) (cell n : ℕ) → IsMemory bs m → slice_index bs cell ≡ n → 0 < n → slice_index m cell < n
word_in_memory [] [] cell n h e some = absurd (omega (arith, e, some))
word_in_memory [] (w ∷ m) cell n h e some = absurd h
word_in_memory (b ∷ bs) [] cell n h e some = absurd h
word_in_memory (b ∷ bs) (w ∷ m) zero n h e some = subst (λ k. w < k) e h.0
word_in_memory (b ∷ bs) (w ∷ m) (suc cell) n h e some = word_in_memory bs m cell n h.1 e some

module _ (code : Code) where
  -- a cell's bound is that of a type
  abbrev pub IsBounded : ℕ → Scalar → Type 0
  IsBounded cell t = slice_index (bounds_of code) cell ≡ modulus t

  -- the cells of a global have the bound of its type: the first, and each that an index reaches
  abbrev pub AreBounded : GlobalCells → Type 0
  AreBounded g = IsBounded g.cell g.global.ty × ((k : ℕ) → nat_lt k (cells g.global) ≡ true → IsBounded (g.cell + k) g.global.ty)

  abbrev pub KnownCells : Option GlobalCells → Type 0
  KnownCells None = Unit {0}
  KnownCells (Some g) = AreBounded g

  -- so have those of each global of a program
  abbrev pub HasCellsOf : Program → Type 0
  HasCellsOf p = (x : List ℕ) → KnownCells (global_of p x)

  -- memories of the program, and what is known of the transactions round a run
  abbrev pub AreMemories : List Memory → Type 0
  AreMemories ms = AllByRecursion (IsMemory (bounds_of code)) ms

  abbrev pub IsGood : Around → Shared → Type 0
  IsGood Bare sh = AreMemories sh.founds
  IsGood (Within h) sh = IsMemory (bounds_of code) sh.memory × (h.outer ≡ Atomic → (sh.kept ≡ false) × (h.mode ≡ Atomic)) × (h.must ≡ true → sh.kept ≡ true)

  abbrev pub configuration : ℕ → List ℕ → List Frame → Configuration
  configuration at registers frames = record { place = at; registers = registers; frames = frames }

  -- what the instruction at a place does
  pub effect_at : (q : ℕ) (i : Instr) (registers : List ℕ) (frames : List Frame) → InstructionAt code q i → effect code (configuration q registers frames) ≡ effect_of code (configuration q registers frames) (Some i)
  effect_at q i registers frames h = ap (λ o. effect_of code (configuration q registers frames) o) h

  next_pure : (a : Around) (sh : Shared) (text : List ℕ) (c c' : Configuration) → effect code c ≡ Effect.Pure c' → next (effect code) (sequential_state a sh text c) ≡ sequential_state a sh text c'
  next_pure Bare sh text c c' e = ap (λ x. sequential_step (sequential_state Bare sh text c) false Running None x) e
  next_pure (Within h) sh text c c' e = ap (λ x. sequential_step (sequential_state (Within h) sh text c) false Running (sequential_state (Within h) sh text c).inside x) e

  same_outcome : (a : Around) (sh : Shared) (text : List ℕ) (c c' : Configuration) → outcome_of (sequential_state a sh text c') ≡ outcome_of (sequential_state a sh text c)
  same_outcome Bare sh text c c' = refl
  same_outcome (Within h) sh text c c' = refl

  -- an instruction that works on registers and place
  pub goes : {N K : ℕ} (a : Around) (sh : Shared) (text : List ℕ) {does : ℕ → Outcome} (c c' : Configuration) → effect code c ≡ Effect.Pure c' → Agrees (effect code) N K (sequential_state a sh text c') does → Agrees (effect code) N (suc K) (sequential_state a sh text c) does
  goes a sh text c c' e m = quiet (effect code) (next_pure a sh text c c' e) (same_outcome a sh text c c') m

  pub less : (K : ℕ) → K ≤ suc K
  less K = omega arith

  pub all : (K : ℕ) → K ≤ K
  all K = omega arith

  pub goes_by : {N K : ℕ} (a : Around) (sh : Shared) (text : List ℕ) {does : ℕ → Outcome} (c c' : Configuration) → effect code c ≡ Effect.Pure c' → Agrees (effect code) N K (sequential_state a sh text c') does → Agrees (effect code) N K (sequential_state a sh text c) does
  goes_by {N = N} {K = K} a sh text c c' e m = fewer (effect code) (all N) (less K) (goes a sh text c c' e m)

  -- what is seen of a thread that runs
  pub seen_spent : (a : Around) {A : Type 0} (after : Answer A → Outcome) (sh : Shared) (n : ℕ) (ls : List Local) (text : List ℕ) (c : Configuration) → IsSeen a after → after (Stops Spent (state n ls (context_of a sh) text)) ≡ outcome_of (sequential_state a sh text c)
  seen_spent Bare after sh n ls text c s = s.spent _
  seen_spent (Within h) after sh n ls text c s = s.spent _

  -- a tick
  pub tick_goes : {N K : ℕ} (a : Around) {A : Type 0} (after : Answer A → Outcome) (rest : Action A) (sh : Shared) (ls : List Local) (text : List ℕ) (c : Configuration) → IsSeen a after → Agrees (effect code) N K (sequential_state a sh text c) (λ n. after (rest (state n ls (context_of a sh) text))) → Agrees (effect code) N K (sequential_state a sh text c) (λ n. after (go_on (tick (state n ls (context_of a sh) text)) (λ _. rest)))
  tick_goes {N = N} {K = K} a after rest sh ls text c s m = fewer (effect code) (less N) (all K) (ticked (effect code) _ (seen_spent a after sh 0 ls text c s) (λ n. refl) m)

  pub tick_counts : {N K : ℕ} (a : Around) {A : Type 0} (after : Answer A → Outcome) (rest : Action A) (sh : Shared) (ls : List Local) (text : List ℕ) (c : Configuration) → IsSeen a after → Agrees (effect code) N K (sequential_state a sh text c) (λ n. after (rest (state n ls (context_of a sh) text))) → Agrees (effect code) (suc N) K (sequential_state a sh text c) (λ n. after (go_on (tick (state n ls (context_of a sh) text)) (λ _. rest)))
  tick_counts a after rest sh ls text c s m = ticked (effect code) _ (seen_spent a after sh 0 ls text c s) (λ n. refl) m

  -- a trap, which takes a tick
  trapped_thread : Around → Shared → List ℕ → Configuration → Trap → Sequential Configuration
  trapped_thread Bare sh text c k = outside c sh.founds sh.lefts text (HasTrapped k)
  trapped_thread (Within h) sh text c k = outside c h.founds (h.lefts ++ h.found ∷ []) text (HasTrapped k)

  next_trap : (a : Around) (sh : Shared) (text : List ℕ) (c : Configuration) (k : Trap) → effect code c ≡ Effect.Traps k → next (effect code) (sequential_state a sh text c) ≡ trapped_thread a sh text c k
  unfolding trapped_thread
  next_trap Bare sh text c k e = ap (λ x. sequential_step (sequential_state Bare sh text c) false Running None x) e
  next_trap (Within h) sh text c k e = ap (λ x. sequential_step (sequential_state (Within h) sh text c) false Running (sequential_state (Within h) sh text c).inside x) e

  trapped_rests : (a : Around) (sh : Shared) (text : List ℕ) (c : Configuration) (k : Trap) → next (effect code) (trapped_thread a sh text c k) ≡ trapped_thread a sh text c k
  unfolding trapped_thread
  trapped_rests Bare sh text c k = refl
  trapped_rests (Within h) sh text c k = refl

  seen_trapped : (a : Around) {A : Type 0} (after : Answer A → Outcome) (sh : Shared) (n : ℕ) (ls : List Local) (text : List ℕ) (c : Configuration) (k : Trap) → IsSeen a after → after (Stops (Trapped k) (state n ls (context_of a sh) text)) ≡ outcome_of (trapped_thread a sh text c k)
  unfolding trapped_thread
  seen_trapped Bare after sh n ls text c k s = s.trapped k _
  seen_trapped (Within h) after sh n ls text c k s = s.trapped k _

  pub traps : {N K : ℕ} (a : Around) {A : Type 0} (after : Answer A → Outcome) (sh : Shared) (ls : List Local) (text : List ℕ) (c : Configuration) (k : Trap) → IsSeen a after → effect code c ≡ Effect.Traps k → Agrees (effect code) N K (sequential_state a sh text c) (λ n. after (trap k (state n ls (context_of a sh) text)))
  traps {N = N} {K = K} a after sh ls text c k s e =
      fewer (effect code) (less N) (less K)
      (shown (effect code) (λ n. after (Stops (Trapped k) (state n ls (context_of a sh) text))) (next_trap a sh text c k e) (seen_spent a after sh 0 ls text c s) (λ n. refl)
      (over (effect code) (trapped_rests a sh text c k) (λ n. seen_trapped a after sh n ls text c k s)))

  -- what is read is a word of the cell's type
  pub word_read : (m : Memory) (cell : ℕ) (t : Scalar) → IsMemory (bounds_of code) m → IsBounded cell t → slice_index m cell < modulus t
  word_read m cell t h e = word_in_memory (bounds_of code) m cell (modulus t) h e (some_below t)

  -- a shared read inside a transaction
  pub reads_by : {N K : ℕ} (h : Transactions) (sh : Shared) (text : List ℕ) {does : ℕ → Outcome} (c : Configuration) (cell : ℕ) (k : ℕ → Configuration) → effect code c ≡ Effect.Read cell k → Agrees (effect code) N K (sequential_state (Within h) sh text (k (slice_index sh.memory cell))) does → Agrees (effect code) N K (sequential_state (Within h) sh text c) does
  reads_by {N = N} {K = K} h sh text c cell k e m =
      fewer (effect code) (all N) (less K) (quiet (effect code) (ap (λ x. sequential_step (sequential_state (Within h) sh text c) false Running (sequential_state (Within h) sh text c).inside x) e) refl m)

  -- a shared write inside a transaction
  pub writes_by : {N K : ℕ} (h : Transactions) (sh : Shared) (text : List ℕ) {does : ℕ → Outcome} (c c' : Configuration) (cell w : ℕ) → effect code c ≡ Effect.Write cell w c' → Agrees (effect code) N K (sequential_state (Within h) (record sh { memory = slice_set sh.memory cell w }) text c') does → Agrees (effect code) N K (sequential_state (Within h) sh text c) does
  writes_by {N = N} {K = K} h sh text c c' cell w e m =
      fewer (effect code) (all N) (less K) (quiet (effect code) (ap (λ x. sequential_step (sequential_state (Within h) sh text c) false Running (sequential_state (Within h) sh text c).inside x) e) refl m)

  -- the transactions round what runs inside one more, which begins
  abbrev pub with_inner : Transactions → Mode → Memory → Configuration → Transactions
  with_inner h mode m cancelled = record h { mode = mode; inner = record { cancelled = cancelled; mem = m } ∷ h.inner }

  abbrev pub outermost_alone : Mode → Configuration → Memory → List Memory → List Memory → Transactions
  outermost_alone mode cancelled found founds lefts = record { outer = mode; must = false; mode = mode; cancelled = cancelled; found = found; inner = []; founds = founds; lefts = lefts }

  pub begins_inner : {N K : ℕ} (h : Transactions) (sh : Shared) (text : List ℕ) {does : ℕ → Outcome} (mode : Mode) (c c' d : Configuration) → effect code c ≡ Effect.Begin c' d → Agrees (effect code) N K (sequential_state (Within (with_inner h mode sh.memory d)) sh text c') does → Agrees (effect code) N K (sequential_state (Within h) sh text c) does
  begins_inner {N = N} {K = K} h sh text mode c c' d e m =
      fewer (effect code) (all N) (less K) (quiet (effect code) (ap (λ x. sequential_step (sequential_state (Within h) sh text c) false Running (sequential_state (Within h) sh text c).inside x) e) refl m)

  pub begins_outermost : {N K : ℕ} (found : Memory) (founds lefts : List Memory) (memory : Memory) (kept : Bool) (text : List ℕ) {does : ℕ → Outcome} (mode : Mode) (c c' d : Configuration) → effect code c ≡ Effect.Begin c' d → Agrees (effect code) N K (sequential_state (Within (outermost_alone mode d found founds lefts)) (record { founds = founds; lefts = lefts; memory = found; kept = false }) text c') does → Agrees (effect code) N K (sequential_state Bare (record { founds = found ∷ founds; lefts = lefts; memory = memory; kept = kept }) text c) does
  begins_outermost {N = N} {K = K} found founds lefts memory kept text mode c c' d e m =
      fewer (effect code) (all N) (less K) (quiet (effect code) (ap (λ x. sequential_step (outside c (found ∷ founds) lefts text Running) false Running None x) e) refl m)

  -- no memory is there to find: the tick before it and the instruction are one
  wanting : Configuration → List Memory → List ℕ → Sequential Configuration
  wanting c lefts text = record { configuration = c; inside = None; founds = []; lefts = lefts; text = text; status = Running; wants = true }

  next_wants : (c c' d : Configuration) (lefts : List Memory) (text : List ℕ) → effect code c ≡ Effect.Begin c' d → next (effect code) (outside c [] lefts text Running) ≡ wanting c lefts text
  unfolding wanting
  next_wants c c' d lefts text e = ap (λ x. sequential_step (outside c [] lefts text Running) false Running None x) e

  wanting_rests : (c : Configuration) (lefts : List Memory) (text : List ℕ) → next (effect code) (wanting c lefts text) ≡ wanting c lefts text
  unfolding wanting
  wanting_rests c lefts text = refl

  wanting_seen : {A : Type 0} (after : Answer A → Outcome) (c : Configuration) (lefts : List Memory) (text : List ℕ) (n : ℕ) (ls : List Local) → IsSeen Bare after → after (Stops Wants (state n ls (Outside [] lefts) text)) ≡ outcome_of (wanting c lefts text)
  unfolding wanting
  wanting_seen after c lefts text n ls s = s.wants _

  pub wants_one : {N K : ℕ} {A : Type 0} (after : Answer A → Outcome) (lefts : List Memory) (memory : Memory) (kept : Bool) (text : List ℕ) (ls : List Local) (c c' d : Configuration) → IsSeen Bare after → effect code c ≡ Effect.Begin c' d → Agrees (effect code) N K (sequential_state Bare (record { founds = []; lefts = lefts; memory = memory; kept = kept }) text c) (λ n. after (go_on (tick (state n ls (Outside [] lefts) text)) (λ u. stop Wants)))
  wants_one {N = N} {K = K} after lefts memory kept text ls c c' d s e =
      fewer (effect code) (less N) (less K)
      (shown (effect code) (λ n. after (Stops Wants (state n ls (Outside [] lefts) text))) (next_wants c c' d lefts text e) (s.spent _) (λ n. refl)
      (over (effect code) (wanting_rests c lefts text) (λ n. wanting_seen after c lefts text n ls s)))

  -- an inner commit, and an inner cancel
  pub commits_inner : {N K : ℕ} (h : Transactions) (sh : Shared) (text : List ℕ) {does : ℕ → Outcome} (mode : Mode) (m : Memory) (c c' d : Configuration) → effect code c ≡ Effect.Commit c' → Agrees (effect code) N K (sequential_state (Within h) sh text c') does → Agrees (effect code) N K (sequential_state (Within (with_inner h mode m d)) sh text c) does
  commits_inner {N = N} {K = K} h sh text mode m c c' d e g =
      fewer (effect code) (all N) (less K) (quiet (effect code) (ap (λ x. sequential_step (sequential_state (Within (with_inner h mode m d)) sh text c) false Running (sequential_state (Within (with_inner h mode m d)) sh text c).inside x) e) refl g)

  pub cancels_inner : {N K : ℕ} (h : Transactions) (sh : Shared) (text : List ℕ) {does : ℕ → Outcome} (mode : Mode) (m : Memory) (c d : Configuration) → effect code c ≡ Effect.Cancel → Agrees (effect code) N K (sequential_state (Within h) (record sh { memory = m }) text d) does → Agrees (effect code) N K (sequential_state (Within (with_inner h mode m d)) sh text c) does
  cancels_inner {N = N} {K = K} h sh text mode m c d e g =
      fewer (effect code) (all N) (less K) (quiet (effect code) (ap (λ x. sequential_step (sequential_state (Within (with_inner h mode m d)) sh text c) false Running (sequential_state (Within (with_inner h mode m d)) sh text c).inside x) e) refl g)

  -- an outermost transaction is left: its tick and the instruction are one
  pub leaves_outermost : {N K : ℕ} {A : Type 0} (after : Answer A → Outcome) (give : State → Answer A) (mode : Mode) (found left : Memory) (founds lefts : List Memory) (sh : Shared) (text : List ℕ) (ls ls' : List Local) (c c' d : Configuration) → next (effect code) (sequential_state (Within (outermost_alone mode d found founds lefts)) sh text c) ≡ outside c' founds (lefts ++ left ∷ []) text Running → IsSeen Bare after → Agrees (effect code) N K (outside c' founds (lefts ++ left ∷ []) text Running) (λ n. after (give (state n ls' (Outside founds (lefts ++ left ∷ [])) text))) → Agrees (effect code) N K (sequential_state (Within (outermost_alone mode d found founds lefts)) sh text c) (λ n. after (go_on (tick (state n ls (Outside founds lefts) text)) (λ u then_. give (record then_ { locals = ls'; context = Outside founds (lefts ++ left ∷ []) }))))
  leaves_outermost {N = N} {K = K} after give mode found left founds lefts sh text ls ls' c c' d e s g =
      fewer (effect code) (less N) (less K) (shown (effect code) _ e (s.spent _) (λ n. refl) g)

  pub next_commit : (mode : Mode) (found : Memory) (founds lefts : List Memory) (sh : Shared) (text : List ℕ) (c c' d : Configuration) → effect code c ≡ Effect.Commit c' → next (effect code) (sequential_state (Within (outermost_alone mode d found founds lefts)) sh text c) ≡ outside c' founds (lefts ++ sh.memory ∷ []) text Running
  next_commit mode found founds lefts sh text c c' d e = ap (λ x. sequential_step (sequential_state (Within (outermost_alone mode d found founds lefts)) sh text c) false Running (sequential_state (Within (outermost_alone mode d found founds lefts)) sh text c).inside x) e

  pub next_cancel : (mode : Mode) (found : Memory) (founds lefts : List Memory) (sh : Shared) (text : List ℕ) (c d : Configuration) → effect code c ≡ Effect.Cancel → sh.kept ≡ false → next (effect code) (sequential_state (Within (outermost_alone mode d found founds lefts)) sh text c) ≡ outside d founds (lefts ++ found ∷ []) text Running
  next_cancel mode found founds lefts sh text c d e k =
      ap (λ x. sequential_step (sequential_state (Within (outermost_alone mode d found founds lefts)) sh text c) false Running (sequential_state (Within (outermost_alone mode d found founds lefts)) sh text c).inside x) e
      ∙ ap (λ b. cancel_step (sequential_state (Within (outermost_alone mode d found founds lefts)) sh text c) (record { cancelled = d; found = found; mem = sh.memory; inner = []; kept = sh.kept }) [] b) k

  -- what may be printed: outside, or behind an irrevocable
  abbrev pub PrintsIn : Around → Shared → Type 0
  PrintsIn Bare sh = Unit {0}
  PrintsIn (Within h) sh = sh.kept ≡ true

  next_prints : (a : Around) (sh : Shared) (text piece : List ℕ) (c c' : Configuration) → PrintsIn a sh → effect code c ≡ Effect.Print piece c' → next (effect code) (sequential_state a sh text c) ≡ sequential_state a sh (text ++ piece) c'
  next_prints Bare sh text piece c c' m e = ap (λ x. sequential_step (sequential_state Bare sh text c) false Running None x) e
  next_prints (Within h) sh text piece c c' m e =
      ap (λ x. sequential_step (sequential_state (Within h) sh text c) false Running (sequential_state (Within h) sh text c).inside x) e
      ∙ ap (λ b. print_step (sequential_state (Within h) sh text c) piece c' b) m

  -- a piece is printed: its tick and the instruction are one
  pub prints_piece : {N K : ℕ} (a : Around) {A : Type 0} (after : Answer A → Outcome) (rest : Action A) (sh : Shared) (ls : List Local) (text piece : List ℕ) (c c' : Configuration) → IsSeen a after → PrintsIn a sh → effect code c ≡ Effect.Print piece c' → Agrees (effect code) N K (sequential_state a sh (text ++ piece) c') (λ n. after (rest (state n ls (context_of a sh) (text ++ piece)))) → Agrees (effect code) N K (sequential_state a sh text c) (λ n. after ((print_piece piece >> rest) (state n ls (context_of a sh) text)))
  prints_piece {N = N} {K = K} a after rest sh ls text piece c c' s m e g =
      fewer (effect code) (less N) (less K) (shown (effect code) _ (next_prints a sh text piece c c' m e) (seen_spent a after sh 0 ls text c s) (λ n. refl) g)

  pub irrevocable_bare : {N K : ℕ} (sh : Shared) (text : List ℕ) {does : ℕ → Outcome} (c c' : Configuration) → effect code c ≡ Effect.Irrevocable c' → Agrees (effect code) N K (sequential_state Bare sh text c') does → Agrees (effect code) N K (sequential_state Bare sh text c) does
  irrevocable_bare {N = N} {K = K} sh text c c' e m =
      fewer (effect code) (all N) (less K) (quiet (effect code) (ap (λ x. sequential_step (sequential_state Bare sh text c) false Running None x) e) refl m)

  pub irrevocable_within : {N K : ℕ} (h : Transactions) (sh : Shared) (text : List ℕ) {does : ℕ → Outcome} (c c' : Configuration) → effect code c ≡ Effect.Irrevocable c' → Agrees (effect code) N K (sequential_state (Within h) (record sh { kept = true }) text c') does → Agrees (effect code) N K (sequential_state (Within h) sh text c) does
  irrevocable_within {N = N} {K = K} h sh text c c' e m =
      fewer (effect code) (all N) (less K) (quiet (effect code) (ap (λ x. sequential_step (sequential_state (Within h) sh text c) false Running (sequential_state (Within h) sh text c).inside x) e) refl m)
