-- Words stay words of their types, and memories those of their program.
use Rattle.std.specs.Option.{option_or}
use Rattle.std.specs.Int.{int_div_euclid}
use Rattle.std.proofs.Common.{◌≡◌, refl, sym, ap, subst, length-append, append_assoc, ◌+◌, ◌∙◌, ℕ, zero, suc, ◌<◌, ◌^◌, List, [], ◌∷◌, ◌++◌, length, take, Option, Some, None, Bool, true, false, not, Result, Ok, Err, arith}
use Rattle.std.specs.Prelude.{if◌then◌else◌, nat_lt, bytes_eq, IfOk, pos, neg_ℤ, ◌*ℤ◌, slice_index, option_map, unwrap_or}
use Rattle.std.specs.List.{AllByRecursion}
use Rattle.lex.specs.declared.token.Scalar.{Scalar}
use Rattle.lex.specs.declared.token.Scalar.TheVariants.{Int, Unsigned, LongLong}
use Rattle.syntax.specs.declared.tree.UnaryOp.{UnaryOp}
use Rattle.syntax.specs.declared.tree.UnaryOp.TheVariants.{Negate, Keep, Not, Complement}
use Rattle.syntax.specs.declared.tree.BinaryOp.{BinaryOp}
use Rattle.syntax.specs.declared.tree.BinaryOp.TheVariants.{ShiftLeft, ShiftRight}
use Rattle.syntax.specs.declared.tree.LogicalOp.TheVariants.{AndThen, OrElse}
use Rattle.syntax.specs.declared.tree.Mode.{Mode}
use Rattle.syntax.specs.declared.tree.Mode.TheVariants.{Atomic, Relaxed}
use Rattle.syntax.specs.declared.tree.TransactionKind.{TransactionKind}
use Rattle.syntax.specs.declared.tree.TransactionKind.TheVariants.{Plain, Outer}
use Rattle.syntax.specs.declared.thread_end.Trap.{Trap}
use Rattle.syntax.specs.declared.thread_end.Trap.TheVariants.{Index, Frames}
use Rattle.syntax.specs.declared.thread_end.Halt.{Halt}
use Rattle.syntax.specs.declared.thread_end.Halt.TheVariants.{Trapped, Spent, Astray}
use Rattle.syntax.specs.declared.value.Value.{Value}
use Rattle.syntax.specs.Tree as Tree
use Rattle.syntax.specs.Tree.{Expr, Exprs, Variable, Constant, Element, Call, Parenthesized, Cast, Unary, Binary, Logical, Conditional, InTransaction, Simple, Evaluate, Assign, Adjust, Declarator, Start, Nothing, Declares, Does, Stmt, Stmts, Empty, Declare, Do, Block, Print, If, IfElse, While, DoWhile, For, Break, Continue, Return, Transaction, Cancel, CancelOuter, Parameter, Program}
use Rattle.syntax.specs.Numbers.{modulus, number, common, bitwise_complement, number_of, is_zero, flag, value_in_type, fit_result, operation_result, typed_result, operand_type, result_type, unary, binary}
use Rattle.syntax.specs.Types.{type_of, running_scope}
use Rattle.syntax.specs.Names.{Local, newest, newest_from, word_at, with_word, GlobalCells, cells, global_of, definition_of, bounds}
use Rattle.syntax.specs.Behaviours.{Memory, IsMemory}
use Rattle.syntax.specs.Actions.{Context, Outside, Inside, State, Answer, Gives, Stops, Action, pure, stop, go_on, ◌>>=◌, ◌>>◌, spend, tick, trap, or_trap, or_astray, locals, put_locals, load_at, store, may_print_at, may_print, write, print_piece, memory_in}
use Rattle.syntax.specs.Formats.{Piece, Literal, Specifier, pieces}
use Rattle.syntax.specs.Meaning.{Lvalue, InLocal, InCell, fetch, assign, print_pieces, Completion, Next, Breaks, Continues, Returns, Cancels, CancelsOuter, mode_of, begin_at, value_at, on_next, in_scope, after_turn, turns, loop, after_body, Left, undoes, left_or, left_by, close_inner, close, enter, transaction, op_of, int_one, Caller, lvalue_from, lvalue_of_name, element, expr, exprs, lvalue, assign_by_operator, assign_by, simple, first_value, declare, start_with, for_condition, optional_step, return_value, stmt, stmts, parameter_local, call_locals, result_of, invoke, calls}
use Rattle.syntax.specs.Laws.{WhereGiven, StaysIn, memories_of, HasWords, WordsStay}
use Rattle.syntax.specs.Typing.{IsTypedProgram}
use Rattle.syntax.proofs.locals.Expressions.{LeavesLocals, expr_holds, fetch_holds, or_trap_holds, calls_holds}
use Rattle.syntax.proofs.words.Memories.{IsBounded, typed_cells, written_memory}
use Rattle.syntax.proofs.words.Words.{some_below, word_below, truth_below, fitted_below, shift_below, computed_below}
use Rattle.syntax.proofs.running.Preserved.{AreCells, block_holds, returned_holds, called_holds}
use Rattle.syntax.proofs.running.Contexts.{Stays, stays_preserved}

abbrev IsOwn : Local → Type 0
IsOwn l = l.word < modulus l.ty

abbrev AreLocals : List Local → Type 0
AreLocals ls = AllByRecursion IsOwn ls

abbrev IsValue : Value → Type 0
IsValue v = v.word < modulus v.ty

abbrev IsAny : {A : Type 0} → A → Type 0
IsAny a = Unit {0}

abbrev IsCompletion : Completion → Type 0
IsCompletion (Returns v) = IsValue v
IsCompletion end = Unit {0}

abbrev IsTurn : Option Completion → Type 0
IsTurn None = Unit {0}
IsTurn (Some end) = IsCompletion end

-- the local at an index has this type, if there is one
abbrev TypeIs : List Local → ℕ → Scalar → Type 0
TypeIs [] i t = Unit {0}
TypeIs (l ∷ ls) zero t = l.ty ≡ t
TypeIs (l ∷ ls) (suc i) t = TypeIs ls i t

word_of_local : (ls : List Local) (i : ℕ) (t : Scalar) → TypeIs ls i t → AreLocals ls → word_at ls i < modulus t
word_of_local [] zero t e h = some_below t
word_of_local [] (suc i) t e h = some_below t
word_of_local (l ∷ ls) zero t e h = subst (λ (u : Scalar). l.word < modulus u) e h.0
word_of_local (l ∷ ls) (suc i) t e h = word_of_local ls i t e h.1

with_words : (ls : List Local) (i w : ℕ) (t : Scalar) → TypeIs ls i t → w < modulus t → AreLocals ls → AreLocals (with_word ls i w)
with_words [] i w t e below h = tt
with_words (l ∷ ls) zero w t e below h = (subst (λ (u : Scalar). w < modulus u) (sym e) below, h.1)
with_words (l ∷ ls) (suc i) w t e below h = (h.0, with_words ls i w t e below h.1)

-- a name's newest local has the type that is said of it
newest_is : (n : ℕ) (before ls : List Local) (x : List ℕ) (l : ℕ × Scalar) → length before ≡ n → newest_from n ls x ≡ Some l → TypeIs (before ++ ls) l.0 l.1
newest_is n before [] x l size e = absurd cc
newest_is n before (k ∷ ls) x l size e = by (newest_from (n + 1) ls x) (λ f. shifted (newest_is (n + 1) (before ++ k ∷ []) ls x l grown f)) (bytes_eq k.name x) e
  where
    grown : length (before ++ k ∷ []) ≡ n + 1
    grown = length-append before (k ∷ []) ∙ ap (λ (m : ℕ). m + 1) size

    shifted : TypeIs ((before ++ k ∷ []) ++ ls) l.0 l.1 → TypeIs (before ++ k ∷ ls) l.0 l.1
    shifted h = subst (λ (ms : List Local). TypeIs ms l.0 l.1) (append_assoc before (k ∷ []) ls) h

    at_last : (before : List Local) → TypeIs (before ++ k ∷ ls) (length before) k.ty
    at_last [] = refl
    at_last (b ∷ before) = at_last before

    by : (o : Option (ℕ × Scalar)) → (o ≡ Some l → TypeIs (before ++ k ∷ ls) l.0 l.1) → (b : Bool) → option_or o (if b then Some (n, k.ty) else None) ≡ Some l → TypeIs (before ++ k ∷ ls) l.0 l.1
    by (Some m) later b e = later e
    by None later true e =
        let same : ◌≡◌ {A = ℕ × Scalar} (n, k.ty) l = cc in
        subst (λ (m : ℕ × Scalar). TypeIs (before ++ k ∷ ls) m.0 m.1) same (subst (λ (m : ℕ). TypeIs (before ++ k ∷ ls) m k.ty) size (at_last before))
    by None later false e = absurd cc

module _ {X : Type 0} (P : X → Type 0) where
  all_taken : (n : ℕ) (xs : List X) → AllByRecursion P xs → AllByRecursion P (take n xs)
  all_taken zero [] h = tt
  all_taken zero (x ∷ xs) h = tt
  all_taken (suc n) [] h = tt
  all_taken (suc n) (x ∷ xs) h = (h.0, all_taken n xs h.1)

  all_joined : (xs ys : List X) → AllByRecursion P xs → AllByRecursion P ys → AllByRecursion P (xs ++ ys)
  all_joined [] ys h k = k
  all_joined (x ∷ xs) ys h k = (h.0, all_joined xs ys h.1 k)

  all_before : (xs ys : List X) → AllByRecursion P (xs ++ ys) → AllByRecursion P xs
  all_before [] ys h = tt
  all_before (x ∷ xs) ys h = (h.0, all_before xs ys h.1)

  all_behind : (xs ys : List X) → AllByRecursion P (xs ++ ys) → AllByRecursion P ys
  all_behind [] ys h = h
  all_behind (x ∷ xs) ys h = all_behind xs ys h.1

-- operators
typed_word : (t : Scalar) (r : Result ℕ Trap) → IfOk r (λ w. w < modulus t) → IfOk (typed_result t r) IsValue
typed_word t (Ok w) h = h
typed_word t (Err k) h = tt

complement_below : (t : Scalar) (w : ℕ) → bitwise_complement t w < modulus t
complement_below Int w = omega arith
complement_below Unsigned w = omega arith
complement_below LongLong w = omega arith

unary_word : (op : UnaryOp) (v : Value) → IsValue v → IfOk (unary op v) IsValue
unary_word Negate v h = typed_word v.ty (fit_result v.ty (neg_ℤ (number_of v))) (fitted_below v.ty (neg_ℤ (number_of v)))
unary_word Keep v h = h
unary_word Not v h = truth_below _
unary_word Complement v h = complement_below v.ty v.word

shift_left_below : (s : Scalar) (a b : ℕ) → IfOk (operation_result ShiftLeft s a b) (λ w. w < modulus s)
shift_left_below s a b = shift_below s (λ k. fit_result s (number s a *ℤ pos (2 ^ k))) b (λ k. fitted_below s (number s a *ℤ pos (2 ^ k)))

shift_right_below : (s : Scalar) (a b : ℕ) → IfOk (operation_result ShiftRight s a b) (λ w. w < modulus s)
shift_right_below s a b = shift_below s (λ k. fit_result s (int_div_euclid (number s a) (pos (2 ^ k)))) b (λ k. fitted_below s (int_div_euclid (number s a) (pos (2 ^ k))))

-- of two operands that are of one type but for a shift's count
common_same : (s t : Scalar) → common t s ≡ common s t
common_same Int Int = refl
common_same Int Unsigned = refl
common_same Int LongLong = refl
common_same Unsigned Int = refl
common_same Unsigned Unsigned = refl
common_same Unsigned LongLong = refl
common_same LongLong Int = refl
common_same LongLong Unsigned = refl
common_same LongLong LongLong = refl

pub any_below : (op : BinaryOp) (s t : Scalar) (a b : ℕ) → a < modulus (operand_type op s t) → b < modulus (operand_type op t s) → IfOk (operation_result op (operand_type op s t) a b) (λ w. w < modulus (result_type op (operand_type op s t)))
any_below ShiftLeft s t a b g h = shift_left_below s a b
any_below ShiftRight s t a b g h = shift_right_below s a b
any_below op s t a b g h = computed_below op (common s t) a b g (subst (λ (u : Scalar). b < modulus u) (common_same s t) h)

-- what an operator gives, of two values
binary_word : (op : BinaryOp) (v w : Value) → IfOk (binary op v w) IsValue
binary_word op v w =
    let t = operand_type op v.ty w.ty in
    let a = value_in_type t v in
    let b = value_in_type (operand_type op w.ty v.ty) w in
    typed_word (result_type op t) (operation_result op t a.word b.word) (any_below op v.ty w.ty a.word b.word (word_below t (number_of v)) (word_below (operand_type op w.ty v.ty) (number_of w)))

-- a memory's word is below the bound of its cell
memory_word : (bs : List ℕ) (m : Memory) (c n : ℕ) → IsMemory bs m → slice_index bs c ≡ n → 0 < n → slice_index m c < n
memory_word [] [] c n h e some = absurd (omega (arith, e, some))
memory_word [] (w ∷ m) c n h e some = absurd h
memory_word (b ∷ bs) [] c n h e some = absurd h
memory_word (b ∷ bs) (w ∷ m) zero n h e some = subst (λ (k : ℕ). w < k) e h.0
memory_word (b ∷ bs) (w ∷ m) (suc c) n h e some = memory_word bs m c n h.1 e some

module _ (q : Program) (checked : IsTypedProgram q) where
  -- a run that gives such a thing, and keeps words
  record Keeps {A : Type 0} (P : A → Type 0) (run : Action A) : Type 0 where
    keeps : (s : State) → HasWords q s → WhereGiven (run s) (λ a now. P a × HasWords q now)

  on_given : {A B : Type 0} (P : A → Type 0) (Q : B → Type 0) (r : Answer A) (rest : A → Action B) → WhereGiven r (λ a now. P a × HasWords q now) → ((a : A) → P a → Keeps Q (rest a)) → WhereGiven (go_on r rest) (λ b now. Q b × HasWords q now)
  on_given P Q (Gives a t) rest h k = (k a h.0).keeps t h.1
  on_given P Q (Stops why t) rest h k = tt

  on : {A B : Type 0} (P : A → Type 0) (Q : B → Type 0) {run : Action A} {rest : A → Action B} → Keeps P run → ((a : A) → P a → Keeps Q (rest a)) → Keeps Q (run >>= rest)
  on P Q {run} {rest} g h = record { keeps = λ s w. on_given P Q (run s) rest (g.keeps s w) h }

  then_ : {A B : Type 0} (P : A → Type 0) (Q : B → Type 0) {run : Action A} {rest : Action B} → Keeps P run → Keeps Q rest → Keeps Q (run >> rest)
  then_ P Q g h = on P Q g (λ a _. h)

  pure_keeps : {A : Type 0} (P : A → Type 0) (a : A) → P a → Keeps P (pure a)
  pure_keeps P a h = record { keeps = λ s w. (h, w) }

  stop_keeps : {A : Type 0} (P : A → Type 0) (why : Halt) → Keeps P (stop why)
  stop_keeps P why = record { keeps = λ s w. tt }

  if_keeps : {A : Type 0} (P : A → Type 0) (b : Bool) {x y : Action A} → Keeps P x → Keeps P y → Keeps P (if b then x else y)
  if_keeps P true g h = g
  if_keeps P false g h = h

  spend_keeps : (n : ℕ) (s : State) → HasWords q s → WhereGiven (spend n s) (λ a now. Unit {0} × HasWords q now)
  spend_keeps zero s w = tt
  spend_keeps (suc n) s w = (tt, record { locals = w.locals; memories = w.memories })

  tick_keeps : Keeps IsAny tick
  tick_keeps = record { keeps = λ s w. spend_keeps s.ticks s w }

  trap_keeps : {A : Type 0} (P : A → Type 0) (k : Trap) → Keeps P (trap k)
  trap_keeps P k = then_ IsAny P tick_keeps (stop_keeps P (Trapped k))

  or_trap_keeps : {A : Type 0} (P : A → Type 0) (r : Result A Trap) → IfOk r P → Keeps P (or_trap r)
  or_trap_keeps P (Ok a) h = pure_keeps P a h
  or_trap_keeps P (Err k) h = trap_keeps P k

  or_astray_keeps : {A : Type 0} (P : A → Type 0) (o : Option A) → ((a : A) → o ≡ Some a → P a) → Keeps P (or_astray o)
  or_astray_keeps P (Some a) h = pure_keeps P a (h a refl)
  or_astray_keeps P None h = stop_keeps P Astray

  any_or_astray : {A : Type 0} (o : Option A) → Keeps IsAny (or_astray o)
  any_or_astray o = or_astray_keeps IsAny o (λ a e. tt)

  locals_keeps : Keeps AreLocals locals
  locals_keeps = record { keeps = λ s w. (w.locals, w) }

  put_locals_keeps : (ls : List Local) → AreLocals ls → Keeps IsAny (put_locals ls)
  put_locals_keeps ls h = record { keeps = λ s w. (tt, record { locals = h; memories = w.memories }) }

  may_print_given : (p : Context) (s : State) → HasWords q s → WhereGiven (may_print_at p s) (λ a now. Unit {0} × HasWords q now)
  may_print_given (Outside f l) s w = (tt, w)
  may_print_given (Inside Relaxed m) s w = (tt, w)
  may_print_given (Inside Atomic m) s w = tt

  may_print_keeps : Keeps IsAny may_print
  may_print_keeps = record { keeps = λ s w. may_print_given s.context s w }

  write_keeps : (text : List ℕ) → Keeps IsAny (write text)
  write_keeps text = record { keeps = λ s w. (tt, record { locals = w.locals; memories = w.memories }) }

  piece_keeps : (text : List ℕ) → Keeps IsAny (print_piece text)
  piece_keeps text = then_ IsAny IsAny tick_keeps (write_keeps text)

  -- the same where the locals are these
  record KeepsAt {A : Type 0} (ls : List Local) (P : A → Type 0) (run : Action A) : Type 0 where
    keeps : (s : State) → s.locals ≡ ls → HasWords q s → WhereGiven (run s) (λ a now. P a × HasWords q now)

  any_at : {A : Type 0} (ls : List Local) (P : A → Type 0) {run : Action A} → Keeps P run → KeepsAt ls P run
  any_at ls P g = record { keeps = λ s e w. g.keeps s w }

  on_at_given : {A B : Type 0} (ls : List Local) (P : A → Type 0) (Q : B → Type 0) (r : Answer A) (rest : A → Action B) → WhereGiven r (λ a now. now.locals ≡ ls) → WhereGiven r (λ a now. P a × HasWords q now) → ((a : A) → P a → KeepsAt ls Q (rest a)) → WhereGiven (go_on r rest) (λ b now. Q b × HasWords q now)
  on_at_given ls P Q (Gives a t) rest e h k = (k a h.0).keeps t e h.1
  on_at_given ls P Q (Stops why t) rest e h k = tt

  same_locals : {A : Type 0} (ls ms : List Local) (r : Answer A) → ms ≡ ls → WhereGiven r (λ a now. now.locals ≡ ms) → WhereGiven r (λ a now. now.locals ≡ ls)
  same_locals ls ms (Gives a t) e h = h ∙ e
  same_locals ls ms (Stops why t) e h = tt

  on_at : {A B : Type 0} (ls : List Local) (P : A → Type 0) (Q : B → Type 0) {run : Action A} {rest : A → Action B} → LeavesLocals run → KeepsAt ls P run → ((a : A) → P a → KeepsAt ls Q (rest a)) → KeepsAt ls Q (run >>= rest)
  on_at ls P Q {run} {rest} l g h = record { keeps = λ s e w. on_at_given ls P Q (run s) rest (same_locals ls s.locals (run s) e (l.leaves s)) (g.keeps s e w) h }

  -- what an lvalue is, among these locals
  abbrev Fits : List Local → Lvalue → Type 0
  Fits ls (InLocal i t) = TypeIs ls i t
  Fits ls (InCell c t) = slice_index (bounds q) c ≡ modulus t

  cell_fetched : (p : Context) (c : ℕ) (t : Scalar) (s : State) → slice_index (bounds q) c ≡ modulus t → AllByRecursion (IsMemory (bounds q)) (memories_of p) → HasWords q s → WhereGiven (go_on (load_at p c s) (λ w. pure (record { ty = t; word = w }))) (λ v now. IsValue v × HasWords q now)
  cell_fetched (Outside f l) c t s e m w = tt
  cell_fetched (Inside mode memory) c t s e m w = (memory_word (bounds q) memory c (modulus t) m.0 e (some_below t), w)

  fetch_at : (ls : List Local) (at : Lvalue) → Fits ls at → KeepsAt ls IsValue (fetch at)
  fetch_at ls (InLocal i t) f = record { keeps = λ s e w. (word_of_local s.locals i t (subst (λ (ms : List Local). TypeIs ms i t) (sym e) f) w.locals, w) }
  fetch_at ls (InCell c t) f = record { keeps = λ s e w. cell_fetched s.context c t s f w.memories w }

  cell_stored : (n : ℕ) (ls : List Local) (p : Context) (text : List ℕ) (c w : ℕ) (t : Scalar) → slice_index (bounds q) c ≡ modulus t → w < modulus t → AreLocals ls → AllByRecursion (IsMemory (bounds q)) (memories_of p) → WhereGiven (store c w (record { ticks = n; locals = ls; context = p; text = text })) (λ a now. Unit {0} × HasWords q now)
  cell_stored n ls (Outside f l) text c w t e below h m = tt
  cell_stored n ls (Inside mode memory) text c w t e below h m =
      (tt, record { locals = h; memories = (written_memory (bounds q) memory c w (subst (λ (k : ℕ). w < k) (sym e) below) m.0, tt) })

  assign_at : (ls : List Local) (at : Lvalue) → Fits ls at → (v : Value) → KeepsAt ls IsAny (assign at v)
  assign_at ls (InLocal i t) f v = record {
    keeps = λ s e w. (tt, record { locals = with_words s.locals i (value_in_type t v).word t (subst (λ (ms : List Local). TypeIs ms i t) (sym e) f) (word_below t (number_of v)) w.locals; memories = w.memories });
  }
  assign_at ls (InCell c t) f v = record { keeps = λ s e w. cell_stored s.ticks s.locals s.context s.text c (value_in_type t v).word t f (word_below t (number_of v)) w.locals w.memories }

  -- a run that gives an lvalue among the locals that it leaves
  record GivesLvalue (run : Action Lvalue) : Type 0 where
    gives : (s : State) → HasWords q s → WhereGiven (run s) (λ at now. Fits now.locals at × HasWords q now)

  on_lvalue_given : {B : Type 0} (Q : B → Type 0) (r : Answer Lvalue) (rest : Lvalue → Action B) → WhereGiven r (λ at now. Fits now.locals at × HasWords q now) → ((ls : List Local) (at : Lvalue) → Fits ls at → KeepsAt ls Q (rest at)) → WhereGiven (go_on r rest) (λ b now. Q b × HasWords q now)
  on_lvalue_given Q (Gives at t) rest h k = (k t.locals at h.0).keeps t refl h.1
  on_lvalue_given Q (Stops why t) rest h k = tt

  on_lvalue : {B : Type 0} (Q : B → Type 0) {run : Action Lvalue} {rest : Lvalue → Action B} → GivesLvalue run → ((ls : List Local) (at : Lvalue) → Fits ls at → KeepsAt ls Q (rest at)) → Keeps Q (run >>= rest)
  on_lvalue Q {run} {rest} g h = record { keeps = λ s w. on_lvalue_given Q (run s) rest (g.gives s w) h }

  then_lvalue_given : {A : Type 0} (P : A → Type 0) (r : Answer A) (rest : A → Action Lvalue) → WhereGiven r (λ a now. P a × HasWords q now) → ((a : A) → P a → GivesLvalue (rest a)) → WhereGiven (go_on r rest) (λ at now. Fits now.locals at × HasWords q now)
  then_lvalue_given P (Gives a t) rest h k = (k a h.0).gives t h.1
  then_lvalue_given P (Stops why t) rest h k = tt

  then_lvalue : {A : Type 0} (P : A → Type 0) {run : Action A} {rest : A → Action Lvalue} → Keeps P run → ((a : A) → P a → GivesLvalue (rest a)) → GivesLvalue (run >>= rest)
  then_lvalue P {run} {rest} g h = record { gives = λ s w. then_lvalue_given P (run s) rest (g.keeps s w) h }

  pieces_keep : (ps : List Piece) (vs : List Value) → Keeps IsAny (print_pieces ps vs)
  pieces_keep [] vs = pure_keeps IsAny tt tt
  pieces_keep (Literal text ∷ ps) vs = then_ IsAny IsAny (piece_keeps text) (pieces_keep ps vs)
  pieces_keep (Specifier t ∷ ps) [] = stop_keeps IsAny Astray
  pieces_keep (Specifier t ∷ ps) (v ∷ vs) = then_ IsAny IsAny (piece_keeps _) (pieces_keep ps vs)

  on_next_keeps : {rest : Action Completion} → Keeps IsCompletion rest → (end : Completion) → IsCompletion end → Keeps IsCompletion (on_next rest end)
  on_next_keeps h Next e = h
  on_next_keeps h Breaks e = pure_keeps IsCompletion Breaks tt
  on_next_keeps h Continues e = pure_keeps IsCompletion Continues tt
  on_next_keeps h (Returns v) e = pure_keeps IsCompletion (Returns v) e
  on_next_keeps h Cancels e = pure_keeps IsCompletion Cancels tt
  on_next_keeps h CancelsOuter e = pure_keeps IsCompletion CancelsOuter tt

  value_at_keeps : (end : Completion) → IsCompletion end → Keeps IsValue (value_at end)
  value_at_keeps (Returns v) e = pure_keeps IsValue v e
  value_at_keeps Next e = stop_keeps IsValue Astray
  value_at_keeps Breaks e = stop_keeps IsValue Astray
  value_at_keeps Continues e = stop_keeps IsValue Astray
  value_at_keeps Cancels e = stop_keeps IsValue Astray
  value_at_keeps CancelsOuter e = stop_keeps IsValue Astray

  begin_keeps : (c : Context) (s : State) → HasWords q s → WhereGiven (begin_at c s) (λ u now. IsAny u × HasWords q now)
  begin_keeps (Outside f l) s w = tick_keeps.keeps s w
  begin_keeps (Inside mode m) s w = (tt, w)

  scoped_keeps : {run : Action Completion} → Keeps IsCompletion run → Keeps IsCompletion (in_scope run)
  scoped_keeps g =
      on AreLocals IsCompletion locals_keeps (λ outer _. on IsCompletion IsCompletion g (λ end e. on AreLocals IsCompletion locals_keeps (λ all h. then_ IsAny IsCompletion (put_locals_keeps _ (all_taken IsOwn (length outer) all h)) (pure_keeps IsCompletion end e))))

  after_body_keeps : {go : Action (Option Completion)} → Keeps IsTurn go → (end : Completion) → IsCompletion end → Keeps IsTurn (after_body go end)
  after_body_keeps h Next e = h
  after_body_keeps h Breaks e = pure_keeps IsTurn (Some Next) tt
  after_body_keeps h Continues e = h
  after_body_keeps h (Returns v) e = pure_keeps IsTurn (Some (Returns v)) e
  after_body_keeps h Cancels e = pure_keeps IsTurn (Some Cancels) tt
  after_body_keeps h CancelsOuter e = pure_keeps IsTurn (Some CancelsOuter) tt

  after_turn_keeps : {rest : Action Completion} → Keeps IsCompletion rest → (o : Option Completion) → IsTurn o → Keeps IsCompletion (after_turn rest o)
  after_turn_keeps h None e = h
  after_turn_keeps h (Some end) e = pure_keeps IsCompletion end e

  turns_keep : {turn : Action (Option Completion)} → Keeps IsTurn turn → (n : ℕ) → Keeps IsCompletion (turns n turn)
  turns_keep h zero = stop_keeps IsCompletion Spent
  turns_keep h (suc n) = then_ IsAny IsCompletion tick_keeps (on IsTurn IsCompletion h (λ o e. after_turn_keeps (turns_keep h n) o e))

  loop_keeps : {turn : Action (Option Completion)} → Keeps IsTurn turn → Keeps IsCompletion (loop turn)
  loop_keeps h = record { keeps = λ s w. (turns_keep h s.ticks).keeps s w }

  -- what a transaction leaves
  record IsLeft (left : Left) : Type 0 where
    end : IsCompletion left.end
    locals : AreLocals left.locals
    memory : IsMemory (bounds q) left.memory

  inside_memory : (mode : Mode) (m : Memory) (c : Context) → StaysIn (Inside mode m) c → AllByRecursion (IsMemory (bounds q)) (memories_of c) → IsMemory (bounds q) (memory_in c)
  inside_memory mode m (Outside f l) e h = absurd e
  inside_memory mode m (Inside mode' m') e h = h.0

  is_left : (undone : Bool) (mode : Mode) (mine : List Local) (m : Memory) (end : Completion) (now : State) → AreLocals mine → IsMemory (bounds q) m → StaysIn (Inside mode m) now.context → IsCompletion end → HasWords q now → IsLeft (left_or undone mine m end now)
  is_left true mode mine m end now h k in_ e w = record { end = tt; locals = h; memory = k }
  is_left false mode mine m end now h k in_ e w = record { end = e; locals = w.locals; memory = inside_memory mode m now.context in_ w.memories }

  leave_keeps : (n : ℕ) (founds lefts : List Memory) (left : Left) (now : State) → IsLeft left → AllByRecursion (IsMemory (bounds q)) (founds ++ lefts) → WhereGiven (go_on (spend n (record now { context = Outside founds lefts })) (λ u then_. Gives left.end (record then_ { locals = left.locals; context = Outside founds (lefts ++ left.memory ∷ []) }))) (λ end last. IsCompletion end × HasWords q last)
  leave_keeps zero founds lefts left now h k = tt
  leave_keeps (suc n) founds lefts left now h k =
      let M = IsMemory (bounds q) in
      (h.end, record { locals = h.locals; memories = all_joined M founds (lefts ++ left.memory ∷ []) (all_before M founds lefts k) (all_joined M lefts (left.memory ∷ []) (all_behind M founds lefts k) (h.memory, tt)) })

  close_keeps : (kind : TransactionKind) (founds lefts : List Memory) (mine : List Local) (m : Memory) (r : Answer Completion) → AreLocals mine → IsMemory (bounds q) m → AllByRecursion (IsMemory (bounds q)) (founds ++ lefts) → WhereGiven r (λ end now. StaysIn (Inside (mode_of kind) m) now.context) → WhereGiven r (λ end now. IsCompletion end × HasWords q now) → WhereGiven (close kind founds lefts mine m r) (λ end now. IsCompletion end × HasWords q now)
  close_keeps kind founds lefts mine m (Gives end now) h k ms in_ w = leave_keeps now.ticks founds lefts (left_by kind mine m end now) now (is_left (undoes end kind) (mode_of kind) mine m end now h k in_ w.0 w.1) ms
  close_keeps kind founds lefts mine m (Stops (Trapped t) now) h k ms in_ w = tt
  close_keeps kind founds lefts mine m r h k ms in_ w = tt

  inner_keeps : (outer : Mode) (kind : TransactionKind) (mine : List Local) (m : Memory) (r : Answer Completion) → AreLocals mine → IsMemory (bounds q) m → WhereGiven r (λ end now. StaysIn (Inside (mode_of kind) m) now.context) → WhereGiven r (λ end now. IsCompletion end × HasWords q now) → WhereGiven (close_inner outer kind mine m r) (λ end now. IsCompletion end × HasWords q now)
  inner_keeps outer kind mine m (Gives end now) h k in_ w =
      let left = is_left (undoes end kind) (mode_of kind) mine m end now h k in_ w.0 w.1 in
      (left.end, record { locals = left.locals; memories = (left.memory, tt) })
  inner_keeps outer kind mine m (Stops why now) h k in_ w = tt

  enter_keeps : (kind : TransactionKind) (run : Action Completion) → Stays run → Keeps IsCompletion run → (p : Context) (n : ℕ) (ls : List Local) (t : List ℕ) → AreLocals ls → AllByRecursion (IsMemory (bounds q)) (memories_of p) → WhereGiven (enter p kind run (record { ticks = n; locals = ls; context = p; text = t })) (λ end now. IsCompletion end × HasWords q now)
  enter_keeps kind run g h (Outside [] lefts) n ls t w ms = tt
  enter_keeps kind run g h (Outside (m ∷ founds) lefts) n ls t w ms =
      let s : State = record { ticks = n; locals = ls; context = Inside (mode_of kind) m; text = t } in
      close_keeps kind founds lefts ls m (run s) w ms.0 ms.1 (g.stays s) (h.keeps s (record { locals = w; memories = (ms.0, tt) }))
  enter_keeps kind run g h (Inside Relaxed m) n ls t w ms =
      let s : State = record { ticks = n; locals = ls; context = Inside (mode_of kind) m; text = t } in
      inner_keeps Relaxed kind ls m (run s) w ms.0 (g.stays s) (h.keeps s (record { locals = w; memories = ms }))
  enter_keeps Outer run g h (Inside Atomic m) n ls t w ms =
      let s : State = record { ticks = n; locals = ls; context = Inside Atomic m; text = t } in
      inner_keeps Atomic Outer ls m (run s) w ms.0 (g.stays s) (h.keeps s (record { locals = w; memories = ms }))
  enter_keeps (Plain Atomic) run g h (Inside Atomic m) n ls t w ms =
      let s : State = record { ticks = n; locals = ls; context = Inside Atomic m; text = t } in
      inner_keeps Atomic (Plain Atomic) ls m (run s) w ms.0 (g.stays s) (h.keeps s (record { locals = w; memories = ms }))
  enter_keeps (Plain Relaxed) run g h (Inside Atomic m) n ls t w ms = tt

  transaction_keeps : (kind : TransactionKind) {run : Action Completion} → Stays run → Keeps IsCompletion run → Keeps IsCompletion (transaction kind run)
  transaction_keeps kind {run} g h = record { keeps = λ s w. enter_keeps kind run g h s.context s.ticks s.locals s.text w.locals w.memories }

  -- the parameters hold words
  bound_words : (d : Parameter) (v : Value) (o : Option Tree.Name) (ls : List Local) → AreLocals ls → AreLocals (unwrap_or (option_map (λ (x : Tree.Name). record { name = x.text; ty = d.ty; word = (value_in_type d.ty v).word } ∷ []) o) [] ++ ls)
  bound_words d v None ls h = h
  bound_words d v (Some x) ls h = (word_below d.ty (number_of v), h)

  put_before : (d : Parameter) (v : Value) (o : Option (List Local)) → ((ls : List Local) → o ≡ Some ls → AreLocals ls) → (ls : List Local) → option_map (λ (ms : List Local). parameter_local d v ++ ms) o ≡ Some ls → AreLocals ls
  put_before d v None h ls e = absurd cc
  put_before d v (Some ms) h ls e = same (parameter_local d v ++ ms) ls e (bound_words d v d.name ms (h ms refl))
    where
      same : (xs ys : List Local) → Some xs ≡ Some ys → AreLocals xs → AreLocals ys
      same xs ys e h = subst_locals xs ys (unpack xs ys e) h
        where
          unpack : (xs ys : List Local) → Some xs ≡ Some ys → xs ≡ ys
          unpack xs ys e = cc

          subst_locals : (xs ys : List Local) → xs ≡ ys → AreLocals xs → AreLocals ys
          subst_locals xs ys e h = rw (← e) h

  entered_words : (qs : List Parameter) (vs : List Value) (ls : List Local) → call_locals qs vs ≡ Some ls → AreLocals ls
  entered_words [] [] ls e = let none : [] ≡ ls = cc in rw (← none) tt
  entered_words [] (v ∷ vs) ls e = absurd cc
  entered_words (d ∷ ds) [] ls e = absurd cc
  entered_words (d ∷ ds) (v ∷ vs) ls e = put_before d v (call_locals ds vs) (λ ms f. entered_words ds vs ms f) ls e

  module _ (call : Caller) (g : (x : List ℕ) (vs : List Value) → Stays (call x vs)) (leave : (x : List ℕ) (vs : List Value) → LeavesLocals (call x vs)) (h : (x : List ℕ) (vs : List Value) → Keeps IsValue (call x vs)) where
    cells_are : AreCells q (IsBounded q)
    cells_are = typed_cells q checked

    global_lvalue : (x : List ℕ) (o : Option GlobalCells) → global_of q x ≡ o → GivesLvalue (or_astray o >>= λ g. pure (InCell g.cell g.global.ty))
    global_lvalue x (Some g) e = record { gives = λ s w. (cells_are.first x g e, w) }
    global_lvalue x None e = record { gives = λ s w. tt }

    from_lvalue : (x : List ℕ) (s : State) (o : Option (ℕ × Scalar)) → newest s.locals x ≡ o → HasWords q s → WhereGiven (lvalue_from q call x o s) (λ at now. Fits now.locals at × HasWords q now)
    from_lvalue x s (Some l) e w = (newest_is 0 [] s.locals x l refl e, w)
    from_lvalue x s None e w = (global_lvalue x (global_of q x) refl).gives s w

    named_lvalue : (x : List ℕ) → GivesLvalue (lvalue_of_name q call x)
    named_lvalue x = record { gives = λ s w. from_lvalue x s (newest s.locals x) refl w }

    trapped_lvalue : (n : ℕ) (s : State) → WhereGiven {A = Lvalue} (go_on (spend n s) (λ _. stop (Trapped Index))) (λ at now. Fits now.locals at × HasWords q now)
    trapped_lvalue zero s = tt
    trapped_lvalue (suc n) s = tt

    element_if : (x : List ℕ) (k : Value) (g : GlobalCells) → global_of q x ≡ Some g → (b : Bool) → nat_lt k.word (cells g.global) ≡ b → GivesLvalue (if b then pure (InCell (g.cell + k.word) g.global.ty) else trap Index)
    element_if x k g e true lt = record { gives = λ s w. (cells_are.each x g k.word e lt, w) }
    element_if x k g e false lt = record { gives = λ s w. trapped_lvalue s.ticks s }

    element_of : (x : List ℕ) (k : Value) (o : Option GlobalCells) → global_of q x ≡ o → GivesLvalue (or_astray o >>= λ g. if nat_lt k.word (cells g.global) then pure (InCell (g.cell + k.word) g.global.ty) else trap Index)
    element_of x k (Some g) e = record { gives = λ s w. (element_if x k g e (nat_lt k.word (cells g.global)) refl).gives s w }
    element_of x k None e = record { gives = λ s w. tt }

    element_lvalue : (x : List ℕ) (k : Value) → GivesLvalue (element q call x k)
    element_lvalue x k = element_of x k (global_of q x) refl

    leaves_expr : (e : Expr) → LeavesLocals (expr q call e)
    leaves_expr = expr_holds q call leave

    mutual
      expr_keeps : (e : Expr) → Keeps IsValue (expr q call e)
      expr_keeps (Variable x) = on_lvalue IsValue (named_lvalue x.text) fetch_at
      expr_keeps (Constant n t at) = pure_keeps IsValue _ (word_below t (pos n))
      expr_keeps (Element x i at) = on IsValue IsValue (expr_keeps i) (λ k _. on_lvalue IsValue (element_lvalue x.text k) fetch_at)
      expr_keeps (Call f es at) = on IsAny IsValue (exprs_keep es) (λ vs _. then_ IsAny IsValue tick_keeps (h f.text vs))
      expr_keeps (Parenthesized e at) = expr_keeps e
      expr_keeps (Cast t e at) = on IsValue IsValue (expr_keeps e) (λ v _. pure_keeps IsValue _ (word_below t (number_of v)))
      expr_keeps (Unary op e at) = on IsValue IsValue (expr_keeps e) (λ v w. or_trap_keeps IsValue (unary op v) (unary_word op v w))
      expr_keeps (Binary op a b at) = on IsValue IsValue (expr_keeps a) (λ v _. on IsValue IsValue (expr_keeps b) (λ w _. or_trap_keeps IsValue (binary op v w) (binary_word op v w)))
      expr_keeps (Logical AndThen a b at) = on IsValue IsValue (expr_keeps a) (λ v w. on IsValue IsValue (if_keeps IsValue _ (pure_keeps IsValue v w) (expr_keeps b)) (λ x _. pure_keeps IsValue (flag (not (is_zero x))) (truth_below (not (is_zero x)))))
      expr_keeps (Logical OrElse a b at) = on IsValue IsValue (expr_keeps a) (λ v w. on IsValue IsValue (if_keeps IsValue _ (expr_keeps b) (pure_keeps IsValue v w)) (λ x _. pure_keeps IsValue (flag (not (is_zero x))) (truth_below (not (is_zero x)))))
      expr_keeps (Conditional c a b at) = on IsValue IsValue (expr_keeps c) (λ v _. on IsValue IsValue (if_keeps IsValue _ (expr_keeps b) (expr_keeps a)) (λ w _. on AreLocals IsValue locals_keeps (λ mine _. on IsAny IsValue (any_or_astray (type_of (running_scope q mine) (Conditional c a b at))) (λ t _. pure_keeps IsValue (value_in_type t w) (word_below t (number_of w))))))
      expr_keeps (InTransaction mode keyword e at) =
          then_ IsAny IsValue (record { keeps = λ s w. begin_keeps s.context s w })
          (on IsCompletion IsValue (transaction_keeps (Plain mode) (returned_holds q (λ A run. Stays run) stays_preserved call g e) (on IsValue IsCompletion (expr_keeps e) (λ v w. pure_keeps IsCompletion (Returns v) w))) value_at_keeps)

      exprs_keep : (es : Exprs) → Keeps IsAny (exprs q call es)
      exprs_keep Tree.[] = pure_keeps IsAny [] tt
      exprs_keep (Tree.◌∷◌ e es) = on IsValue IsAny (expr_keeps e) (λ v _. on IsAny IsAny (exprs_keep es) (λ vs _. pure_keeps IsAny _ tt))

    lvalue_gives : (e : Expr) → GivesLvalue (lvalue q call e)
    lvalue_gives (Variable x) = named_lvalue x.text
    lvalue_gives (Element x i at) = then_lvalue IsValue (expr_keeps i) (λ k _. element_lvalue x.text k)
    lvalue_gives e = record { gives = λ s w. tt }

    changed_keeps : (ls : List Local) (at : Lvalue) → Fits ls at → {by : Action Value} → LeavesLocals by → Keeps IsValue by → (op : BinaryOp) → KeepsAt ls IsAny (assign_by_operator q call at by op)
    changed_keeps ls at f l k op =
        on_at ls IsValue IsAny (fetch_holds at) (fetch_at ls at f) (λ old _. on_at ls IsValue IsAny l (any_at ls IsValue k) (λ v _. on_at ls IsValue IsAny (or_trap_holds (binary op old v)) (any_at ls IsValue (or_trap_keeps IsValue (binary op old v) (binary_word op old v))) (λ new _. assign_at ls at f new)))

    assigned_keeps : (ls : List Local) (at : Lvalue) → Fits ls at → {by : Action Value} → LeavesLocals by → Keeps IsValue by → (op : Option BinaryOp) → KeepsAt ls IsAny (assign_by q call at by op)
    assigned_keeps ls at f l k None = on_at ls IsValue IsAny l (any_at ls IsValue k) (λ v _. assign_at ls at f v)
    assigned_keeps ls at f l k (Some op) = changed_keeps ls at f l k op

    one_below : IsValue int_one
    one_below = omega arith

    one_leaves : LeavesLocals (pure int_one)
    one_leaves = record { leaves = λ s. refl }

    -- and then the next thing
    next_at : (ls : List Local) {run : Action (Unit {0})} → KeepsAt ls IsAny run → KeepsAt ls IsCompletion (run >> pure Next)
    next_at ls {run} g = record { keeps = λ s e w. on_given IsAny IsCompletion (run s) (λ _. pure Next) (g.keeps s e w) (λ a _. pure_keeps IsCompletion Next tt) }

    simple_keeps : (s : Simple) → Keeps IsCompletion (simple q call s)
    simple_keeps (Evaluate e) = then_ IsValue IsCompletion (expr_keeps e) (pure_keeps IsCompletion Next tt)
    simple_keeps (Assign to op e) = on_lvalue IsCompletion (lvalue_gives to) (λ ls at f. next_at ls (assigned_keeps ls at f (leaves_expr e) (expr_keeps e) op))
    simple_keeps (Adjust to by) = on_lvalue IsCompletion (lvalue_gives to) (λ ls at f. next_at ls (changed_keeps ls at f one_leaves (pure_keeps IsValue int_one one_below) (op_of by)))

    first_value_keeps : (ls : List Local) (at : Lvalue) → Fits ls at → (o : Option Expr) → KeepsAt ls IsAny (first_value q call at o)
    first_value_keeps ls at f None = any_at ls IsAny (pure_keeps IsAny tt tt)
    first_value_keeps ls at f (Some e) = on_at ls IsValue IsAny (leaves_expr e) (any_at ls IsValue (expr_keeps e)) (λ v _. assign_at ls at f v)

    last_is : (mine : List Local) (l : Local) → TypeIs (mine ++ l ∷ []) (length mine) l.ty
    last_is [] l = refl
    last_is (m ∷ mine) l = last_is mine l

    -- a new local, and what follows with it
    put_new : {B : Type 0} (Q : B → Type 0) (ls : List Local) {rest : Action B} → AreLocals ls → KeepsAt ls Q rest → Keeps Q (put_locals ls >> rest)
    put_new Q ls {rest} h k = record { keeps = λ s w. k.keeps (record s { locals = ls }) refl (record { locals = h; memories = w.memories }) }

    then_at : {A B : Type 0} (Q : B → Type 0) (ls : List Local) (P : A → Type 0) {run : Action A} {rest : Action B} → KeepsAt ls P run → Keeps Q rest → KeepsAt ls Q (run >> rest)
    then_at Q ls P {run} {rest} g h = record { keeps = λ s e w. on_given P Q (run s) (λ _. rest) (g.keeps s e w) (λ a _. h) }

    declare_keeps : (t : Scalar) (ds : List Declarator) → Keeps IsCompletion (declare q call t ds)
    declare_keeps t [] = pure_keeps IsCompletion Next tt
    declare_keeps t (d ∷ ds) =
        on AreLocals IsCompletion locals_keeps (λ mine w.
        let new : Local = record { name = d.name.text; ty = t; word = 0 } in
        put_new IsCompletion (mine ++ new ∷ []) (all_joined IsOwn mine (new ∷ []) w (some_below t, tt))
        (then_at IsCompletion (mine ++ new ∷ []) IsAny (first_value_keeps (mine ++ new ∷ []) (InLocal (length mine) t) (last_is mine new) d.first) (declare_keeps t ds)))

    start_keeps : (s : Start) → Keeps IsCompletion (start_with q call s)
    start_keeps Nothing = pure_keeps IsCompletion Next tt
    start_keeps (Declares d) = declare_keeps d.ty d.declarators
    start_keeps (Does s) = simple_keeps s

    holds_keeps : (o : Option Expr) → Keeps IsAny (for_condition q call o)
    holds_keeps None = pure_keeps IsAny true tt
    holds_keeps (Some e) = on IsValue IsAny (expr_keeps e) (λ v _. pure_keeps IsAny _ tt)

    stepped_keeps : (o : Option Simple) → Keeps IsTurn (optional_step q call o)
    stepped_keeps None = pure_keeps IsTurn None tt
    stepped_keeps (Some s) = then_ IsCompletion IsTurn (simple_keeps s) (pure_keeps IsTurn None tt)

    return_keeps : (o : Option Expr) → Keeps IsValue (return_value q call o)
    return_keeps None = pure_keeps IsValue (flag false) (truth_below false)
    return_keeps (Some e) = expr_keeps e

    -- how a loop goes on after its condition
    ends_or_not : (b : Bool) → IsTurn (if b then Some Next else None)
    ends_or_not true = tt
    ends_or_not false = tt

    mutual
      stmt_keeps : (s : Stmt) → Keeps IsCompletion (stmt q call s)
      stmt_keeps Empty = then_ IsAny IsCompletion tick_keeps (pure_keeps IsCompletion Next tt)
      stmt_keeps (Declare d) = then_ IsAny IsCompletion tick_keeps (declare_keeps d.ty d.declarators)
      stmt_keeps (Do s) = then_ IsAny IsCompletion tick_keeps (simple_keeps s)
      stmt_keeps (Block ss) = then_ IsAny IsCompletion tick_keeps (scoped_keeps (stmts_keep ss))
      stmt_keeps (Print at format format_at es) = then_ IsAny IsCompletion tick_keeps (then_ IsAny IsCompletion may_print_keeps (on IsAny IsCompletion (exprs_keep es) (λ vs _. then_ IsAny IsCompletion (pieces_keep (pieces format) vs) (pure_keeps IsCompletion Next tt))))
      stmt_keeps (If c a) = then_ IsAny IsCompletion tick_keeps (on IsValue IsCompletion (expr_keeps c) (λ v _. if_keeps IsCompletion _ (pure_keeps IsCompletion Next tt) (scoped_keeps (stmt_keeps a))))
      stmt_keeps (IfElse c a b) = then_ IsAny IsCompletion tick_keeps (on IsValue IsCompletion (expr_keeps c) (λ v _. if_keeps IsCompletion _ (scoped_keeps (stmt_keeps b)) (scoped_keeps (stmt_keeps a))))
      stmt_keeps (While c a) = then_ IsAny IsCompletion tick_keeps (loop_keeps (on IsValue IsTurn (expr_keeps c) (λ v _. if_keeps IsTurn _ (pure_keeps IsTurn (Some Next) tt) (on IsCompletion IsTurn (scoped_keeps (stmt_keeps a)) (after_body_keeps (pure_keeps IsTurn None tt))))))
      stmt_keeps (DoWhile a c) = then_ IsAny IsCompletion tick_keeps (loop_keeps (on IsCompletion IsTurn (scoped_keeps (stmt_keeps a)) (after_body_keeps (on IsValue IsTurn (expr_keeps c) (λ v _. pure_keeps IsTurn _ (ends_or_not _))))))
      stmt_keeps (For start c step a) = then_ IsAny IsCompletion tick_keeps (scoped_keeps (then_ IsCompletion IsCompletion (start_keeps start) (loop_keeps (on IsAny IsTurn (holds_keeps c) (λ more _. if_keeps IsTurn _ (on IsCompletion IsTurn (scoped_keeps (stmt_keeps a)) (after_body_keeps (stepped_keeps step))) (pure_keeps IsTurn (Some Next) tt))))))
      stmt_keeps (Break at) = then_ IsAny IsCompletion tick_keeps (pure_keeps IsCompletion Breaks tt)
      stmt_keeps (Continue at) = then_ IsAny IsCompletion tick_keeps (pure_keeps IsCompletion Continues tt)
      stmt_keeps (Return e at) = then_ IsAny IsCompletion tick_keeps (on IsValue IsCompletion (return_keeps e) (λ v w. pure_keeps IsCompletion (Returns v) w))
      stmt_keeps (Transaction kind ss at) = then_ IsAny IsCompletion tick_keeps (transaction_keeps kind (block_holds q (λ A run. Stays run) stays_preserved call g ss) (scoped_keeps (stmts_keep ss)))
      stmt_keeps (Cancel at) = then_ IsAny IsCompletion tick_keeps (pure_keeps IsCompletion Cancels tt)
      stmt_keeps (CancelOuter at) = then_ IsAny IsCompletion tick_keeps (pure_keeps IsCompletion CancelsOuter tt)

      stmts_keep : (ss : Stmts) → Keeps IsCompletion (stmts q call ss)
      stmts_keep Tree.[] = pure_keeps IsCompletion Next tt
      stmts_keep (Tree.◌∷◌ s ss) = on IsCompletion IsCompletion (stmt_keeps s) (on_next_keeps (stmts_keep ss))

    result_keeps : (t : Option Scalar) (end : Completion) → Keeps IsValue (result_of t end)
    result_keeps t Next = pure_keeps IsValue (value_in_type (unwrap_or t Int) (flag false)) (word_below (unwrap_or t Int) (number_of (flag false)))
    result_keeps t (Returns v) = pure_keeps IsValue (value_in_type (unwrap_or t Int) v) (word_below (unwrap_or t Int) (number_of v))
    result_keeps t Breaks = stop_keeps IsValue Astray
    result_keeps t Continues = stop_keeps IsValue Astray
    result_keeps t Cancels = stop_keeps IsValue Astray
    result_keeps t CancelsOuter = stop_keeps IsValue Astray

    invoke_keeps : (x : List ℕ) (vs : List Value) → Keeps IsValue (invoke q call x vs)
    invoke_keeps x vs =
        on IsAny IsValue (any_or_astray (definition_of q x)) (λ f _. on AreLocals IsValue (or_astray_keeps AreLocals (call_locals f.0.parameters vs) (λ ls e. entered_words f.0.parameters vs ls e)) (λ mine w.
        on AreLocals IsValue locals_keeps (λ outer o. then_ IsAny IsValue (put_locals_keeps mine w) (on IsCompletion IsValue (stmts_keep f.1) (λ end _. then_ IsAny IsValue (put_locals_keeps outer o) (result_keeps f.0.result end))))))

  calls_keep : (n : ℕ) (x : List ℕ) (vs : List Value) → Keeps IsValue (calls q n x vs)
  calls_keep zero x vs = trap_keeps IsValue Frames
  calls_keep (suc n) x vs = invoke_keeps (calls q n) (called_holds q (λ A run. Stays run) stays_preserved n) (calls_holds q n) (calls_keep n) x vs

-- what a statement ends with is left out
words_of : (q : Program) (r : Answer Completion) → WhereGiven r (λ end now. IsCompletion end × HasWords q now) → WhereGiven r (λ end now. HasWords q now)
words_of q (Gives end now) h = h.1
words_of q (Stops why now) h = tt

pub words_stay : WordsStay
words_stay p checked frames =
    let stay = called_holds p (λ A run. Stays run) stays_preserved frames in (
      λ e s w. (expr_keeps p checked (calls p frames) stay (calls_holds p frames) (calls_keep p checked frames) e).keeps s w,
      λ st s w. words_of p (stmt p (calls p frames) st s) ((stmt_keeps p checked (calls p frames) stay (calls_holds p frames) (calls_keep p checked frames) st).keeps s w),
    )
