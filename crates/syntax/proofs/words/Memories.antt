-- A thread that finds memories of its program leaves memories of its program.
use Rattle.std.proofs.Common.{◌≡◌, ℕ, zero, suc, ◌+◌, ◌<◌, Bool, true, false, leb-true, ap, sym, ◌∙◌, subst, arith, List, [], ◌∷◌, ◌++◌, Option, Some, None}
use Rattle.std.specs.Prelude.{All, slice_index, slice_set, drop, bytes_eq, codes, nat_le, option_map, unwrap_or, ◌&&◌, if◌then◌else◌}
use Rattle.std.proofs.lemmas.Bool.Decides.{nat_tests}
use Rattle.syntax.specs.Tree.{Span, Scalar, Global, Item, Defines, Shares}
use Rattle.syntax.specs.Numbers.{modulus}
use Rattle.syntax.specs.Typing.{is_unknown, is_worker, all_cells, demand, IsLength, HaveCells, AreTypedGlobals, IsTypedItem, AreTypedItems, AreDefined, IsTypedProgram}
use Rattle.syntax.specs.Types.{file_scope}
use Rattle.syntax.proofs.typing.Demands.{AreMet, met_before, met_behind, is_met}
use Rattle.syntax.proofs.typing.ValueTypes.{rest_met, both_true}
use Rattle.syntax.proofs.words.Words.{cell_bound}
use Rattle.std.proofs.lemmas.List.Elements.{All-nil, All-from_recursion, recursion_from_All, All-head, All-tail, All-push}
use Rattle.syntax.specs.declared.tree.Mode.{Mode}
use Rattle.syntax.specs.declared.tree.Mode.TheVariants.{Atomic, Relaxed}
use Rattle.syntax.specs.declared.tree.TransactionKind.{TransactionKind}
use Rattle.syntax.specs.declared.tree.TransactionKind.TheVariants.{Plain, Outer}
use Rattle.syntax.specs.declared.thread_end.Halt.TheVariants.{Trapped, Wants, Spent, Astray}
use Rattle.syntax.specs.Tree.{Program}
use Rattle.syntax.specs.Names.{Local, GlobalCells, cells, globals, global_from, global_of, bounds}
use Rattle.syntax.specs.Behaviours.{Memory, IsMemory}
use Rattle.syntax.specs.Actions.{Context, Outside, Inside, State, Answer, Gives, Stops, Action, stop, go_on, ◌>>=◌, spend, tick, load_at, store, may_print_at, write, lefts_in, memory_in}
use Rattle.syntax.specs.Meaning.{Completion, after_turn, turns, Left, undoes, left_or, left_by, close_inner, close, enter, mode_of, begin_at}
use Rattle.syntax.specs.Threads.{outcome_of, first_state, worker_run, thread}
use Rattle.syntax.specs.Laws.{IsPieceOf, LeavesMemories}
use Rattle.syntax.proofs.running.Further.{state_of}
use Rattle.syntax.proofs.running.Preserved.{IsPreserved, AreCells, worker_holds}

-- a typed global has a cell
size_some : (l : Option (ℕ × Span)) → AreMet (IsLength l) → 0 < unwrap_or (option_map (λ n. n.0) l) 1
size_some None h = omega arith
size_some (Some n) h =
    let m = both_true (nat_le 1 n.0) (nat_le n.0 4096) (is_met 25 n.1 (nat_le 1 n.0 && nat_le n.0 4096) h) in
    leb-true 1 n.0 m

among_some : (earlier : List Item) (before : List Global) (taken : ℕ) (gs more : List Global) → AreMet (AreTypedGlobals earlier before taken gs) → (c : ℕ) (x : List ℕ) (at : GlobalCells) → ((d : ℕ) → global_from d more x ≡ Some at → 0 < cells at.global) → global_from c (gs ++ more) x ≡ Some at → 0 < cells at.global
among_some earlier before taken [] more h c x at later e = later c e
among_some earlier before taken (g ∷ gs) more h c x at later e =
    let new = demand 21 g.name.span (is_unknown (file_scope (earlier ++ Shares before ∷ []) g.name.text)) in
    let size = IsLength g.length in
    let room = HaveCells (drop (cells g) g.first) in
    let few = demand 25 g.name.span (nat_le (taken + cells g) 4096) in
    let others = AreTypedGlobals earlier (before ++ g ∷ []) (taken + cells g) gs in
    let all = met_before (new ++ size ++ room ++ few) others h in
    by (bytes_eq g.name.text x) (size_some g.length (met_behind new size (met_before (new ++ size) room (met_before (new ++ size ++ room) few all))))
    (λ f. among_some earlier (before ++ g ∷ []) (taken + cells g) gs more (met_behind (new ++ size ++ room ++ few) others h) (c + cells g) x at later f) e
  where
    by : (b : Bool) → 0 < cells g → (global_from (c + cells g) (gs ++ more) x ≡ Some at → 0 < cells at.global) → (if b then Some (record { global = g; cell = c }) else global_from (c + cells g) (gs ++ more) x) ≡ Some at → 0 < cells at.global
    by true some next f = let same : record { global = g; cell = c } ≡ at = cc in subst (λ (d : GlobalCells). 0 < cells d.global) same some
    by false some next f = next f

items_some : (earlier items : List Item) → AreMet (AreTypedItems earlier items) → (c : ℕ) (x : List ℕ) (at : GlobalCells) → global_from c (globals items) x ≡ Some at → 0 < cells at.global
items_some earlier [] h c x at e = absurd cc
items_some earlier (Shares gs ∷ items) h c x at e =
    among_some earlier [] (all_cells earlier) gs (globals items) (met_before (IsTypedItem earlier (Shares gs)) (AreTypedItems (earlier ++ Shares gs ∷ []) items) h) c x at
    (λ d f. items_some (earlier ++ Shares gs ∷ []) items (rest_met earlier (Shares gs) items h) d x at f) e
items_some earlier (Defines f ∷ items) h c x at e = items_some (earlier ++ Defines f ∷ []) items (rest_met earlier (Defines f) items h) c x at e

some_cells : (p : Program) → IsTypedProgram p → (x : List ℕ) (g : GlobalCells) → global_of p x ≡ Some g → 0 < cells g.global
some_cells p checked x g e =
    let worker = demand 28 (record { start = 0; end = 0 }) (is_worker (file_scope p (codes "worker"))) in
    items_some [] p (met_before (AreTypedItems [] p) (AreDefined p [] p) (met_before (AreTypedItems [] p ++ AreDefined p [] p) worker checked)) 0 x g e

-- a property of memories that each write of a word keeps
module _ (M : Memory → Type 0) (IsCell : ℕ → Scalar → Type 0) (written : (m : Memory) (c w : ℕ) (t : Scalar) → IsCell c t → w < modulus t → M m → M (slice_set m c w)) where
  -- where the memories in one context have it, so have those in the other
  abbrev Keeps : Context → Context → Type 0
  Keeps (Outside f l) (Outside f' l') = All M f → All M l → All M f' × All M l'
  Keeps (Outside f l) (Inside mode m) = ⊥
  Keeps (Inside mode m) (Outside f l) = ⊥
  Keeps (Inside mode m) (Inside mode' m') = M m → M m'

  record IsKeeping {A : Type 0} (run : Action A) : Type 0 where
    keeps : (s : State) → Keeps s.context (state_of (run s)).context

  keeps_refl : (p : Context) → Keeps p p
  keeps_refl (Outside f l) = λ x y. (x, y)
  keeps_refl (Inside mode m) = λ x. x

  keeps_trans : (p q r : Context) → Keeps p q → Keeps q r → Keeps p r
  keeps_trans (Outside f l) (Outside f' l') (Outside f'' l'') a b = λ x y. b (a x y).0 (a x y).1
  keeps_trans (Outside f l) (Outside f' l') (Inside mode m) a b = b
  keeps_trans (Outside f l) (Inside mode m) r a b = absurd a
  keeps_trans (Inside mode m) (Outside f l) r a b = absurd a
  keeps_trans (Inside mode m) (Inside mode' m') (Outside f l) a b = b
  keeps_trans (Inside mode m) (Inside mode' m') (Inside mode'' m'') a b = λ x. b (a x)

  on_keeps : {A B : Type 0} (p : Context) (r : Answer A) (rest : A → Action B) → Keeps p (state_of r).context → ((a : A) (t : State) → Keeps t.context (state_of (rest a t)).context) → Keeps p (state_of (go_on r rest)).context
  on_keeps p (Gives a t) rest c h = keeps_trans p t.context (state_of (rest a t)).context c (h a t)
  on_keeps p (Stops why t) rest c h = c

  on_keeping : {A B : Type 0} {run : Action A} {rest : A → Action B} → IsKeeping run → ((a : A) → IsKeeping (rest a)) → IsKeeping (run >>= rest)
  on_keeping {run = run} {rest = rest} g h = record { keeps = λ s. on_keeps s.context (run s) rest (g.keeps s) (λ a t. (h a).keeps t) }

  spend_keeps : (n : ℕ) (s : State) → Keeps s.context (state_of (spend n s)).context
  spend_keeps zero s = keeps_refl s.context
  spend_keeps (suc n) s = keeps_refl s.context

  load_keeps : (p : Context) (c : ℕ) (s : State) → Keeps s.context (state_of (load_at p c s)).context
  load_keeps (Outside f l) c s = keeps_refl s.context
  load_keeps (Inside mode m) c s = keeps_refl s.context

  store_keeps : (n : ℕ) (ls : List Local) (p : Context) (t : List ℕ) (c w : ℕ) (u : Scalar) → IsCell c u → w < modulus u → Keeps p (state_of (store c w (record { ticks = n; locals = ls; context = p; text = t }))).context
  store_keeps n ls (Outside f l) t c w u cell below = keeps_refl (Outside f l)
  store_keeps n ls (Inside mode m) t c w u cell below = written m c w u cell below

  may_print_keeps : (p : Context) (s : State) → Keeps s.context (state_of (may_print_at p s)).context
  may_print_keeps (Outside f l) s = keeps_refl s.context
  may_print_keeps (Inside Relaxed m) s = keeps_refl s.context
  may_print_keeps (Inside Atomic m) s = keeps_refl s.context

  after_turn_keeps : (rest : Action Completion) → ((s : State) → Keeps s.context (state_of (rest s)).context) → (o : Option Completion) (s : State) → Keeps s.context (state_of (after_turn rest o s)).context
  after_turn_keeps rest h None s = h s
  after_turn_keeps rest h (Some end) s = keeps_refl s.context

  turns_keep : (turn : Action (Option Completion)) → IsKeeping turn → (n : ℕ) (s : State) → Keeps s.context (state_of (turns n turn s)).context
  turns_keep turn h zero s = keeps_refl s.context
  turns_keep turn h (suc n) s =
      on_keeps s.context (tick s) (λ _. turn >>= after_turn (turns n turn)) (spend_keeps s.ticks s)
      (λ _ t. on_keeps t.context (turn t) (after_turn (turns n turn)) (h.keeps t) (after_turn_keeps (turns n turn) (turns_keep turn h n)))

  memory_satisfies : (mode : Mode) (m : Memory) (q : Context) → Keeps (Inside mode m) q → M m → M (memory_in q)
  memory_satisfies mode m (Outside f l) c h = absurd c
  memory_satisfies mode m (Inside mode' m') c h = c h

  left_satisfies : (undone : Bool) (mode : Mode) (m : Memory) (mine : List Local) (end : Completion) (now : State) → Keeps (Inside mode m) now.context → M m → M (left_or undone mine m end now).memory
  left_satisfies true mode m mine end now c h = h
  left_satisfies false mode m mine end now c h = memory_satisfies mode m now.context c h

  leave_keeps : (n : ℕ) (now : State) (m : Memory) (founds lefts : List Memory) (left : Left) → (M m → M left.memory) → Keeps (Outside (m ∷ founds) lefts) (state_of (go_on (spend n (record now { context = Outside founds lefts })) (λ u then_. Gives left.end (record then_ { locals = left.locals; context = Outside founds (lefts ++ left.memory ∷ []) })))).context
  leave_keeps zero now m founds lefts left h = λ f l. (All-tail M m founds f, l)
  leave_keeps (suc n) now m founds lefts left h = λ f l. (All-tail M m founds f, All-push M lefts left.memory l (h (All-head M m founds f)))

  close_keeps : (kind : TransactionKind) (m : Memory) (founds lefts : List Memory) (mine : List Local) (r : Answer Completion) → Keeps (Inside (mode_of kind) m) (state_of r).context → Keeps (Outside (m ∷ founds) lefts) (state_of (close kind founds lefts mine m r)).context
  close_keeps kind m founds lefts mine (Gives end now) c = leave_keeps now.ticks now m founds lefts (left_by kind mine m end now) (left_satisfies (undoes end kind) (mode_of kind) m mine end now c)
  close_keeps kind m founds lefts mine (Stops (Trapped k) now) c = λ f l. (All-tail M m founds f, All-push M lefts m l (All-head M m founds f))
  close_keeps kind m founds lefts mine (Stops Wants now) c = λ f l. (All-tail M m founds f, l)
  close_keeps kind m founds lefts mine (Stops Spent now) c = λ f l. (All-tail M m founds f, l)
  close_keeps kind m founds lefts mine (Stops Astray now) c = λ f l. (All-tail M m founds f, l)

  close_inner_keeps : (outer : Mode) (kind : TransactionKind) (m : Memory) (mine : List Local) (r : Answer Completion) → Keeps (Inside (mode_of kind) m) (state_of r).context → Keeps (Inside outer m) (state_of (close_inner outer kind mine m r)).context
  close_inner_keeps outer kind m mine (Gives end now) c = λ h. left_satisfies (undoes end kind) (mode_of kind) m mine end now c h
  close_inner_keeps outer kind m mine (Stops why now) c = c

  enter_keeps : (kind : TransactionKind) (run : Action Completion) → IsKeeping run → (p : Context) (n : ℕ) (ls : List Local) (t : List ℕ) → Keeps p (state_of (enter p kind run (record { ticks = n; locals = ls; context = p; text = t }))).context
  enter_keeps kind run h (Outside [] lefts) n ls t = keeps_refl (Outside [] lefts)
  enter_keeps kind run h (Outside (m ∷ founds) lefts) n ls t = close_keeps kind m founds lefts ls (run (record { ticks = n; locals = ls; context = Inside (mode_of kind) m; text = t })) (h.keeps (record { ticks = n; locals = ls; context = Inside (mode_of kind) m; text = t }))
  enter_keeps kind run h (Inside Relaxed m) n ls t = close_inner_keeps Relaxed kind m ls (run (record { ticks = n; locals = ls; context = Inside (mode_of kind) m; text = t })) (h.keeps (record { ticks = n; locals = ls; context = Inside (mode_of kind) m; text = t }))
  enter_keeps (Plain Atomic) run h (Inside Atomic m) n ls t = close_inner_keeps Atomic (Plain Atomic) m ls (run (record { ticks = n; locals = ls; context = Inside Atomic m; text = t })) (h.keeps (record { ticks = n; locals = ls; context = Inside Atomic m; text = t }))
  enter_keeps Outer run h (Inside Atomic m) n ls t = close_inner_keeps Atomic Outer m ls (run (record { ticks = n; locals = ls; context = Inside Atomic m; text = t })) (h.keeps (record { ticks = n; locals = ls; context = Inside Atomic m; text = t }))
  enter_keeps (Plain Relaxed) run h (Inside Atomic m) n ls t = keeps_refl (Inside Atomic m)

  begin_keeps : (p : Context) (s : State) → Keeps s.context (state_of (begin_at p s)).context
  begin_keeps (Outside f l) s = spend_keeps s.ticks s
  begin_keeps (Inside mode m) s = keeps_refl s.context

  keeping_preserved : (IsPiece : List ℕ → Type 0) → IsPreserved IsPiece IsCell (λ A run. IsKeeping run)
  keeping_preserved IsPiece = record {
    pure_holds = λ a. record { keeps = λ s. keeps_refl s.context };
    on_holds = on_keeping;
    astray_holds = record { keeps = λ s. keeps_refl s.context };
    trap_holds = λ t. record { keeps = λ s. on_keeps s.context (tick s) (λ _. stop (Trapped t)) (spend_keeps s.ticks s) (λ _ u. keeps_refl u.context) };
    tick_holds = record { keeps = λ s. spend_keeps s.ticks s };
    locals_holds = record { keeps = λ s. keeps_refl s.context };
    put_locals_holds = λ ls. record { keeps = λ s. keeps_refl s.context };
    load_holds = λ c. record { keeps = λ s. load_keeps s.context c s };
    store_holds = λ c w t cell below. record { keeps = λ s. store_keeps s.ticks s.locals s.context s.text c w t cell below };
    may_print_holds = record { keeps = λ s. may_print_keeps s.context s };
    print_piece_holds = λ text shown. record { keeps = λ s. on_keeps s.context (tick s) (λ _. write text) (spend_keeps s.ticks s) (λ _ u. keeps_refl u.context) };
    loop_holds = λ h. record { keeps = λ s. turns_keep _ h s.ticks s };
    transaction_holds = λ kind h. record { keeps = λ s. enter_keeps kind _ h s.context s.ticks s.locals s.text };
    begin_value_holds = record { keeps = λ s. begin_keeps s.context s };
  }

  lefts_satisfy : (founds : List Memory) (q : Context) → Keeps (Outside founds []) q → All M founds → All M (lefts_in q)
  lefts_satisfy founds (Outside f l) c h = (c h (All-nil M)).1
  lefts_satisfy founds (Inside mode m) c h = absurd c

  answer_satisfies : (founds : List Memory) (r : Answer (Unit {0})) → Keeps (Outside founds []) (state_of r).context → All M founds → All M (outcome_of r).lefts
  answer_satisfies founds (Gives u s) c h = lefts_satisfy founds s.context c h
  answer_satisfies founds (Stops why s) c h = lefts_satisfy founds s.context c h

  threads_keep : (p : Program) → AreCells p IsCell → (t : ℕ) (founds : List Memory) (n : ℕ) → All M founds → All M (thread p t founds n).lefts
  threads_keep p are t founds n h = answer_satisfies founds (worker_run p t (first_state founds n)) ((worker_holds p IsCell are (λ A run. IsKeeping run) (keeping_preserved (IsPieceOf p)) t).keeps (first_state founds n)) h

-- a write keeps a memory
pub written_memory : (bs : List ℕ) (m : Memory) (c w : ℕ) → w < slice_index bs c → IsMemory bs m → IsMemory bs (slice_set m c w)
written_memory [] [] c w below h = h
written_memory [] (v ∷ m) c w below h = absurd h
written_memory (b ∷ bs) [] c w below h = absurd h
written_memory (b ∷ bs) (v ∷ m) zero w below h = (below, h.1)
written_memory (b ∷ bs) (v ∷ m) (suc c) w below h = (h.0, written_memory bs m c w below h.1)

-- a cell whose bound is that of a type
abbrev pub IsBounded : Program → ℕ → Scalar → Type 0
IsBounded p c t = slice_index (bounds p) c ≡ modulus t

pub typed_cells : (p : Program) → IsTypedProgram p → AreCells p (IsBounded p)
typed_cells p checked = record {
  first = λ x g e. (let none : g.cell + 0 ≡ g.cell = omega arith in ap (slice_index (bounds p)) (sym none) ∙ cell_bound (globals p) x g 0 e (some_cells p checked x g e));
  each = λ x g k e h. cell_bound (globals p) x g k e (grind (arith, nat_tests, h));
}

pub leaves_memories : LeavesMemories
leaves_memories p checked t founds n h =
    let M = IsMemory (bounds p) in
    recursion_from_All M (thread p t founds n).lefts (threads_keep M (IsBounded p) (λ m c w t cell below. written_memory (bounds p) m c w (subst (λ b. w < b) (sym cell) below)) p (typed_cells p checked) t founds n (All-from_recursion M founds h))
