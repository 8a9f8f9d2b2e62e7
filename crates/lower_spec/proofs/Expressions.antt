-- The instructions of an expression do what the expression does.
use Rattle.std.proofs.Common.{◌≡◌, ◌++◌, ℕ, zero, suc, ◌+◌, ◌<◌, Bool, true, false, List, [], ◌∷◌, length, Option, Some, None, Result, Ok, Err, refl, sym, ap, ◌∙◌, subst, arith, inl, inr, pos}
use Rattle.std.specs.Prelude.{slice_get, slice_index, slice_set, map, if◌then◌else◌, nat_lt, ◌==◌, not, IfOk}
use Rattle.std.proofs.lemmas.List.{get_or-set_same, get_or-set_other, length-set, length-map}
use Rattle.lex.specs.declared.token.Span.{Span}
use Rattle.lex.specs.declared.token.Scalar.{Scalar}
use Rattle.lex.specs.declared.token.Scalar.TheVariants.{Int, Unsigned, LongLong}
use Rattle.syntax.specs.declared.tree.UnaryOp.TheVariants.{Negate, Keep, Not, Complement}
use Rattle.syntax.specs.declared.tree.BinaryOp.{BinaryOp}
use Rattle.syntax.specs.declared.tree.BinaryOp.TheVariants.{Or, Equal, NotEqual}
use Rattle.syntax.specs.declared.tree.LogicalOp.TheVariants.{AndThen, OrElse}
use Rattle.std.specs.Prelude.{unwrap_or}
use Rattle.syntax.specs.Names.{definition_of}
use Rattle.bytecode.specs.Code.{FunctionCode}
use Rattle.syntax.specs.Tree.{Exprs, Stmts, Function, Expr, Variable, Constant, Element, Call, Parenthesized, Cast, Unary, Binary, Logical, Conditional, InTransaction, Program}
use Rattle.syntax.specs.declared.tree.Mode.{Mode}
use Rattle.syntax.specs.declared.tree.TransactionKind.TheVariants.{Plain}
use Rattle.syntax.specs.declared.thread_end.Halt.TheVariants.{Wants, Astray}
use Rattle.syntax.specs.declared.thread_end.Trap.{Trap}
use Rattle.syntax.specs.declared.thread_end.Trap.TheVariants.{Index}
use Rattle.syntax.specs.declared.value.Value.{Value}
use Rattle.syntax.specs.Numbers.{modulus, residue, number, word_of, number_of, common, bitwise_complement, operation_result, typed_result, operand_type, result_type, binary, unary, value_in_type, is_zero, flag, truth}
use Rattle.syntax.specs.Names.{Local, newest, newest_from, word_at, global_of, cells, GlobalCells}
use Rattle.syntax.specs.Types.{type_of, running_scope}
use Rattle.syntax.specs.Laws.{shape}
use Rattle.syntax.specs.Behaviours.{Memory, Outcome}
use Rattle.syntax.specs.Actions.{Outside, Inside, State, Answer, Gives, Stops, Action, pure, stop, go_on, ◌>>=◌, ◌>>◌, tick, trap, or_trap, or_astray, locals}
use Rattle.syntax.specs.Meaning.{Lvalue, InLocal, InCell, Completion, Returns, fetch, close_inner, close, transaction, value_at, value_transaction, Caller, lvalue_from, expr, exprs}
use Rattle.std.specs.Option.{option_or}
use Rattle.std.specs.Prelude.{bytes_eq, neg_ℤ}
use Rattle.syntax.specs.Numbers.{fit_result}
use Rattle.syntax.proofs.words.Words.{fitted_below, narrows, truth_below, word_below}
use Rattle.bytecode.specs.Effects.{Effect}
use Rattle.bytecode.specs.Code.{Code, Configuration, Frame, Instr, computing, effect, effect_of, or_traps, setting}
use Rattle.lower_spec.specs.Expressions.{ValueTransactionCode, LocalScope, IsLike, InstructionAt, LeadsTo, Branching, MayTake, constant_in, complementing, argument_order, Layout, GivenBy, Converts, DueCode, TypedCode, HandedCode, WordCode, OperandCode, VariableCode, ElementAt, Branches, BothHold, EitherHolds, ComparedWithZero, TruthCode, BranchCode, ConditionalCode, types_left, ExprCode, OwnTests, ArgsCode, CondCode}
use Rattle.lower_spec.proofs.Locals.{word_typed, type_like, KnownLocal, newest_known}
use Rattle.lower_spec.proofs.Conversions.{unconverted, truth_under, truth_converted, zero_in, zero_preserved, operated_below}
use Rattle.lower_spec.proofs.Agreement.{Agrees, astray, same, fewer}
use Rattle.lower_spec.proofs.Runs.{Enters, enters, Transactions, with_inner, outermost_alone, begins_inner, begins_outermost, wants_one, commits_inner, leaves_outermost, next_commit, IsBounded, AreBounded, KnownCells, HasCellsOf, AreMemories, Around, Bare, Within, Shared, context_of, sequential_state, state, IsSeen, on_seen, IsGood, registers_in, HasLocals, Keeps, keeps_all, keeps_more, keeps_set, keeps_on, unchanged_at, has_locals_on, configuration, effect_at, goes, goes_by, reads_by, word_read, tick_goes, traps}

complement_below : (t : Scalar) (w : ℕ) → bitwise_complement t w < modulus t
complement_below Int w = omega arith
complement_below Unsigned w = omega arith
complement_below LongLong w = omega arith

-- the instruction of an operator computes it
pub computing_does : (code : Code) (op : BinaryOp) (t : Scalar) (c : Configuration) (d a b : ℕ) → effect_of code c (Some (computing op t d a b)) ≡ or_traps (operation_result op t (slice_index c.registers a) (slice_index c.registers b)) (setting c d)
computing_does code Or t c d a b = refl
computing_does code op t c d a b = refl

-- and that of a complement makes it
complementing_does : (code : Code) (t : Scalar) (c : Configuration) (d a : ℕ) → effect_of code c (Some (complementing t d a)) ≡ Effect.Pure (setting c d (bitwise_complement t (slice_index c.registers a)))
complementing_does code Int c d a = refl
complementing_does code Unsigned c d a = refl
complementing_does code LongLong c d a = refl

-- the newest local of a name hangs on names and types alone
newest_shape : ℕ → List (List ℕ × Scalar) → List ℕ → Option (ℕ × Scalar)
newest_shape i [] x = None
newest_shape i (l ∷ ls) x = option_or (newest_shape (i + 1) ls x) (if bytes_eq l.0 x then Some (i, l.1) else None)

newest_shaped : (ls : List Local) (i : ℕ) (x : List ℕ) → newest_from i ls x ≡ newest_shape i (map shape ls) x
unfolding newest_shape
newest_shaped [] i x = refl
newest_shaped (l ∷ ls) i x = ap (λ o. option_or o (if bytes_eq l.name x then Some (i, l.ty) else None)) (newest_shaped ls (i + 1) x)

pub newest_like : (x : List ℕ) (scope ls : List Local) → IsLike scope ls → newest ls x ≡ newest scope x
newest_like x scope ls e = newest_shaped ls 0 x ∙ ap (λ ss. newest_shape 0 ss x) e ∙ sym (newest_shaped scope 0 x)

-- the words of values that are due in these types
abbrev pub first_word : List Scalar → Value → ℕ
first_word [] v = v.word
first_word (t ∷ ts) v = (value_in_type t v).word

abbrev pub handed : List Scalar → List Value → List ℕ
handed ts [] = []
handed ts (v ∷ vs) = first_word ts v ∷ handed (types_left ts) vs

-- an element's cell, or a trap
abbrev pub element_in : Option GlobalCells → Value → Action Lvalue
element_in o k = or_astray o >>= λ g. if nat_lt k.word (cells g.global) then pure (InCell (g.cell + k.word) g.global.ty) else trap Index

module _ (p : Program) (call : Caller) (code : Code) (layout : Layout) (frames : List Frame) where
  -- what is known where an expression's value has come into a register
  pub record Computed (a : Around) (t : Scalar) (r : ℕ) (home : Option ℕ) (free : ℕ) (old : List ℕ) (v : Value) (sh : Shared) (new : List ℕ) : Type 0 where
    pub typed_so : v.ty ≡ t
    pub word : v.word < modulus v.ty
    pub here : slice_index new r ≡ v.word
    pub keeps : Keeps layout home free old new
    pub good : IsGood code a sh

  -- the thread goes on from there as the source does
  abbrev pub GoesOn : ℕ → ℕ → (a : Around) → (Answer Value → Outcome) → List Local → (to : ℕ) → Option ℕ → (free r : ℕ) → Scalar → List ℕ → Type 0
  GoesOn N K a after ls to home free r t old =
      (v : Value) (sh : Shared) (text : List ℕ) (new : List ℕ) → Computed a t r home free old v sh new → Agrees (effect code) N K (sequential_state a sh text (configuration code to new frames)) (λ n. after (Gives v (state n ls (context_of a sh) text)))

  -- from a place on, the thread does what the source does
  abbrev pub Does : ℕ → ℕ → Around → Shared → List ℕ → List Local → ℕ → List ℕ → (State → Outcome) → Type 0
  Does N K a sh text ls from registers does = Agrees (effect code) N K (sequential_state a sh text (configuration code from registers frames)) (λ n. does (state n ls (context_of a sh) text))

  -- a word is set in a register
  arrives : (a : Around) (sh : Shared) (home : Option ℕ) (free r w : ℕ) (t : Scalar) (old rs : List ℕ) → MayTake home free r → r < layout.writable → length rs ≡ registers_in layout → w < modulus t → Keeps layout home free old rs → IsGood code a sh → Computed a t r home free old (record { ty = t; word = w }) sh (slice_set rs r w)
  arrives a sh home free r w t old rs f b len h k g = record { typed_so = refl; word = h; here = get_or-set_same rs r w 0 (omega (arith, b, len)); keeps = keeps_set layout home free old rs r w f b k; good = g }

  -- the end of a stretch under other names
  go_at : {N K : ℕ} (a : Around) (after : Answer Value → Outcome) (ls : List Local) (to to' : ℕ) (home : Option ℕ) (free r : ℕ) (t u : Scalar) (old : List ℕ) → to ≡ to' → t ≡ u → GoesOn N K a after ls to home free r t old → GoesOn N K a after ls to' home free r u old
  go_at {N = N} {K = K} a after ls to to' home free r t u old e f go =
      subst (λ x. GoesOn N K a after ls x home free r u old) e (subst (λ y. GoesOn N K a after ls to home free r y old) f go)

  -- an instruction that gives a word in a register
  pub sets : {N K : ℕ} (i : Instr) (u : Scalar) (a : Around) (sh : Shared) (text : List ℕ) (ls : List Local) (after : Answer Value → Outcome) (q to : ℕ) (home : Option ℕ) (free r w : ℕ) (t : Scalar) (old rs : List ℕ) → GivenBy code layout home i u q to free r t → effect_of code (configuration code q rs frames) (Some i) ≡ Effect.Pure (setting (configuration code q rs frames) r w) → length rs ≡ registers_in layout → w < modulus u → Keeps layout home free old rs → IsGood code a sh → GoesOn N K a after ls to home free r t old → Does N K a sh text ls q rs (λ s. after (Gives (record { ty = u; word = w }) s))
  sets i u a sh text ls after q to home free r w t old rs c e len h k g go =
      goes_by code a sh text (configuration code q rs frames) (setting (configuration code q rs frames) r w) (effect_at code q i rs frames c.instr ∙ e)
      (go_at a after ls to (suc q) home free r t u old c.to_is c.type_is go (record { ty = u; word = w }) sh text (slice_set rs r w) (arrives a sh home free r w u old rs c.takes c.register len h k g))

  -- an operator's result, or its trap
  pub results : {N K : ℕ} (i : Instr) (u : Scalar) (a : Around) (sh : Shared) (text : List ℕ) (ls : List Local) (after : Answer Value → Outcome) (q to : ℕ) (home : Option ℕ) (free r : ℕ) (t : Scalar) (old rs : List ℕ) (res : Result ℕ Trap) → GivenBy code layout home i u q to free r t → effect_of code (configuration code q rs frames) (Some i) ≡ or_traps res (setting (configuration code q rs frames) r) → IfOk res (λ w. w < modulus u) → length rs ≡ registers_in layout → Keeps layout home free old rs → IsGood code a sh → IsSeen a after → GoesOn N K a after ls to home free r t old → Does N K a sh text ls q rs (λ s. after (or_trap (typed_result u res) s))
  results i u a sh text ls after q to home free r t old rs (Ok w) c e h len k g s go = sets i u a sh text ls after q to home free r w t old rs c e len h k g go
  results i u a sh text ls after q to home free r t old rs (Err x) c e h len k g s go = traps code a after sh ls text (configuration code q rs frames) x s (effect_at code q i rs frames c.instr ∙ e)

  -- a shared cell that is read
  pub reads : {N K : ℕ} (i : Instr) (u : Scalar) (a : Around) (sh : Shared) (text : List ℕ) (ls : List Local) (after : Answer Value → Outcome) (q to : ℕ) (home : Option ℕ) (free r cell : ℕ) (t : Scalar) (old rs : List ℕ) → GivenBy code layout home i u q to free r t → effect_of code (configuration code q rs frames) (Some i) ≡ Effect.Read cell (setting (configuration code q rs frames) r) → IsBounded code cell u → length rs ≡ registers_in layout → Keeps layout home free old rs → IsGood code a sh → IsSeen a after → GoesOn N K a after ls to home free r t old → Does N K a sh text ls q rs (λ s. after (fetch (InCell cell u) s))
  reads i u Bare sh text ls after q to home free r cell t old rs c e bounded len k g s go = astray (effect code) 0 (s.astray _)
  reads i u (Within h) sh text ls after q to home free r cell t old rs c e bounded len k g s go =
      let w = slice_index sh.memory cell in
      reads_by code h sh text (configuration code q rs frames) cell (setting (configuration code q rs frames) r) (effect_at code q i rs frames c.instr ∙ e)
      (go_at (Within h) after ls to (suc q) home free r t u old c.to_is c.type_is go (record { ty = u; word = w }) sh text (slice_set rs r w) (arrives (Within h) sh home free r w u old rs c.takes c.register len (word_read code sh.memory cell u g.0 bounded) k g))

  -- a register is set, and the thread goes on from the place behind
  pub set_on : {N K : ℕ} (i : Instr) (w : ℕ) (u : Scalar) (a : Around) (sh : Shared) (text : List ℕ) (does : ℕ → Outcome) (q to : ℕ) (home : Option ℕ) (free r : ℕ) (old rs : List ℕ) → GivenBy code layout home i u q to free r u → effect_of code (configuration code q rs frames) (Some i) ≡ Effect.Pure (setting (configuration code q rs frames) r w) → length rs ≡ registers_in layout → Keeps layout home free old rs → ((new : List ℕ) → slice_index new r ≡ w → Keeps layout home free old new → Agrees (effect code) N K (sequential_state a sh text (configuration code to new frames)) does) → Agrees (effect code) N K (sequential_state a sh text (configuration code q rs frames)) does
  set_on {N = N} {K = K} i w u a sh text does q to home free r old rs c e len k go =
      goes_by code a sh text (configuration code q rs frames) (setting (configuration code q rs frames) r w) (effect_at code q i rs frames c.instr ∙ e)
      (subst (λ x. Agrees (effect code) N K (sequential_state a sh text (configuration code x (slice_set rs r w) frames)) does) c.to_is
      (go (slice_set rs r w) (get_or-set_same rs r w 0 (let b = c.register in omega (arith, b, len))) (keeps_set layout home free old rs r w c.takes c.register k)))

  -- a value that lies in a register in the other type too
  remains : {N K : ℕ} (s u : Scalar) (v : Value) (a : Around) (sh : Shared) (text : List ℕ) (does : ℕ → Outcome) (q to : ℕ) (home : Option ℕ) (free ra r : ℕ) (old rs : List ℕ) → to ≡ q → r ≡ ra → word_of u (number s v.word) ≡ v.word → Computed a s ra home free old v sh rs → ((new : List ℕ) → slice_index new r ≡ (value_in_type u v).word → Keeps layout home free old new → Agrees (effect code) N K (sequential_state a sh text (configuration code to new frames)) does) → Agrees (effect code) N K (sequential_state a sh text (configuration code q rs frames)) does
  remains {N = N} {K = K} s u v a sh text does q to home free ra r old rs at there same d go =
      subst (λ x. Agrees (effect code) N K (sequential_state a sh text (configuration code x rs frames)) does) at
      (go rs (ap (slice_index rs) there ∙ d.here ∙ sym same ∙ ap (λ o. word_of u (number o v.word)) (sym d.typed_so)) d.keeps)

  -- a conversion of a value that lies in a register
  pub comes : {N K : ℕ} (s u : Scalar) (v : Value) (a : Around) (sh : Shared) (text : List ℕ) (does : ℕ → Outcome) (q to : ℕ) (home : Option ℕ) (free ra r : ℕ) (old rs : List ℕ) → Converts code layout home s u ra q to free r → Computed a s ra home free old v sh rs → length rs ≡ registers_in layout → ((new : List ℕ) → slice_index new r ≡ (value_in_type u v).word → Keeps layout home free old new → Agrees (effect code) N K (sequential_state a sh text (configuration code to new frames)) does) → Agrees (effect code) N K (sequential_state a sh text (configuration code q rs frames)) does
  comes Int LongLong v a sh text does q to home free ra r old rs c d len go =
      set_on (Instr.Extend r ra) (word_of LongLong (number Int (slice_index rs ra))) LongLong a sh text does q to home free r old rs c refl len d.keeps
      (λ new here keeps. go new (here ∙ ap (λ w. word_of LongLong (number Int w)) d.here ∙ ap (λ o. word_of LongLong (number o v.word)) (sym d.typed_so)) keeps)
  comes LongLong Int v a sh text does q to home free ra r old rs c d len go =
      set_on (Instr.Low r ra) (residue Unsigned (slice_index rs ra)) Int a sh text does q to home free r old rs c refl len d.keeps
      (λ new here keeps. go new (here ∙ ap (residue Unsigned) d.here ∙ sym (narrows LongLong Int v.word (omega arith)) ∙ ap (λ o. word_of Int (number o v.word)) (sym d.typed_so)) keeps)
  comes LongLong Unsigned v a sh text does q to home free ra r old rs c d len go =
      set_on (Instr.Low r ra) (residue Unsigned (slice_index rs ra)) Unsigned a sh text does q to home free r old rs c refl len d.keeps
      (λ new here keeps. go new (here ∙ ap (residue Unsigned) d.here ∙ sym (narrows LongLong Unsigned v.word (omega arith)) ∙ ap (λ o. word_of Unsigned (number o v.word)) (sym d.typed_so)) keeps)
  comes s u v a sh text does q to home free ra r old rs c d len go =
      remains s u v a sh text does q to home free ra r old rs c.0 c.1 (unconverted s u v.word (subst (λ o. v.word < modulus o) d.typed_so d.word) tt) d go

  -- an operator on two values that lie in registers, each in the type in which it is due
  pub operates : {N K : ℕ} (op : BinaryOp) (v w : Value) (ta tb : Scalar) (ra rb : ℕ) (a : Around) (sh : Shared) (text : List ℕ) (ls : List Local) (after : Answer Value → Outcome) (q to : ℕ) (home : Option ℕ) (free r : ℕ) (t : Scalar) (old rs : List ℕ) → v.ty ≡ ta → w.ty ≡ tb → slice_index rs ra ≡ (value_in_type (operand_type op ta tb) v).word → slice_index rs rb ≡ (value_in_type (operand_type op tb ta) w).word → GivenBy code layout home (computing op (operand_type op ta tb) r ra rb) (result_type op (operand_type op ta tb)) q to free r t → length rs ≡ registers_in layout → Keeps layout home free old rs → IsGood code a sh → IsSeen a after → GoesOn N K a after ls to home free r t old → Does N K a sh text ls q rs (λ s. after (or_trap (binary op v w) s))
  operates op v w ta tb ra rb a sh text ls after q to home free r t old rs of_v of_w left right c len keeps good s go =
      let o : Scalar = operand_type op ta tb in
      let other : Scalar = operand_type op tb ta in
      let found : binary op v w ≡ typed_result (result_type op o) (operation_result op o (value_in_type o v).word (value_in_type other w).word) =
      (λ j. typed_result (result_type op (operand_type op (of_v j) (of_w j))) (operation_result op (operand_type op (of_v j) (of_w j)) (value_in_type (operand_type op (of_v j) (of_w j)) v).word (value_in_type (operand_type op (of_w j) (of_v j)) w).word)) in
      let there : operation_result op o (value_in_type o v).word (value_in_type other w).word ≡ operation_result op o (slice_index rs ra) (slice_index rs rb) = (λ j. operation_result op o (sym left j) (sym right j)) in
      let below_a : slice_index rs ra < modulus o = subst (λ z. z < modulus o) (sym left) (word_below o (number_of v)) in
      let below_b : slice_index rs rb < modulus other = subst (λ z. z < modulus other) (sym right) (word_below other (number_of w)) in
      let res : Result ℕ Trap = operation_result op o (slice_index rs ra) (slice_index rs rb) in
      same (effect code) (λ n. after (or_trap (typed_result (result_type op o) res) (state n ls (context_of a sh) text)))
      (λ n. ap (λ z. after (or_trap z (state n ls (context_of a sh) text))) (found ∙ ap (typed_result (result_type op o)) there))
      (results (computing op o r ra rb) (result_type op o) a sh text ls after q to home free r t old rs res c (computing_does code op o (configuration code q rs frames) r ra rb) (operated_below op ta tb _ _ below_a below_b) len keeps good s go)

  -- where a variable stands
  abbrev pub lvalue_in : Option (ℕ × Scalar) → Option GlobalCells → Action Lvalue
  lvalue_in (Some l) g = pure (InLocal l.0 l.1)
  lvalue_in None g = or_astray g >>= λ g. pure (InCell g.cell g.global.ty)

  pub lvalue_from_is : (x : List ℕ) (o : Option (ℕ × Scalar)) (s : State) → lvalue_from p call x o s ≡ lvalue_in o (global_of p x) s
  lvalue_from_is x (Some l) s = refl
  lvalue_from_is x None s = refl

  same_length : (scope : LocalScope) (ls : List Local) → IsLike scope ls → length ls ≡ length scope
  same_length scope ls e = sym (length-map ls shape) ∙ ap length e ∙ length-map scope shape

  variable_runs : {N K : ℕ} (home : Option ℕ) (o : Option (ℕ × Scalar)) (g : Option GlobalCells) (scope : LocalScope) (from to free r : ℕ) (t : Scalar) → VariableCode code layout home (length scope) o g from to free r t → KnownLocal scope o → KnownCells code g → (a : Around) (sh : Shared) (text : List ℕ) (ls : List Local) (old : List ℕ) (after : Answer Value → Outcome) → HasLocals scope ls layout free old → IsGood code a sh → IsSeen a after → GoesOn N K a after ls to home free r t old → Does N K a sh text ls from old (λ s. after (go_on (lvalue_in o g s) fetch))
  variable_runs home (Some l) g scope from to free r t c type_is known a sh text ls old after h good s go =
      let below : l.0 < length ls = subst (λ n. l.0 < n) (sym (same_length scope ls h.like)) c.known in
      go_at a after ls to from home free r t l.1 old c.to_is c.type_is go (record { ty = l.1; word = word_at ls l.0 }) sh text old
      (record { typed_so = refl; word = word_typed ls l.0 l.1 (type_like scope ls l.0 l.1 h.like type_is) h.words; here = ap (slice_index old) c.register ∙ h.each l.0 below; keeps = keeps_all layout home free old; good = good })
  variable_runs home None None scope from to free r t c type_is known a sh text ls old after h good s go = absurd c
  variable_runs home None (Some g) scope from to free r t c type_is known a sh text ls old after h good s go =
      reads (Instr.Read r g.cell) g.global.ty a sh text ls after from to home free r g.cell t old old c refl known.0 h.size_is (keeps_all layout home free old) good s go

  -- what an expression's instructions do, wherever they stand
  abbrev pub Follows : Option ℕ → LocalScope → Expr → (N K from to free r : ℕ) → Scalar → Around → Shared → List ℕ → List Local → List ℕ → (Answer Value → Outcome) → Type 0
  Follows home scope e N K from to free r t a sh text ls old after =
      ExprCode code layout p home scope e from to free r t → HasLocals scope ls layout free old → IsGood code a sh → IsSeen a after →
      GoesOn N K a after ls to home free r t old → Does N K a sh text ls from old (λ s. after (expr p call e s))

  abbrev pub AlwaysFollows : Option ℕ → LocalScope → Expr → Type 0
  AlwaysFollows home scope e =
      (N K from to free r : ℕ) (t : Scalar) (a : Around) (sh : Shared) (text : List ℕ) (ls : List Local) (old : List ℕ) (after : Answer Value → Outcome) →
      Follows home scope e N K from to free r t a sh text ls old after

  -- an element that is read, once its index is there
  indexed : {N K : ℕ} (g : GlobalCells) (ri : ℕ) (b : Bool) (k : Value) (a : Around) (sh : Shared) (text : List ℕ) (ls : List Local) (after : Answer Value → Outcome) (q to : ℕ) (home : Option ℕ) (free r : ℕ) (t : Scalar) (old rs : List ℕ) → AreBounded code g → nat_lt k.word (cells g.global) ≡ b → slice_index rs ri ≡ k.word → GivenBy code layout home (Instr.ReadAt r g.cell (cells g.global) ri) g.global.ty q to free r t → length rs ≡ registers_in layout → Keeps layout home free old rs → IsGood code a sh → IsSeen a after → GoesOn N K a after ls to home free r t old → Does N K a sh text ls q rs (λ s. after (go_on ((if b then pure (InCell (g.cell + k.word) g.global.ty) else trap Index) s) fetch))
  indexed g ri true k a sh text ls after q to home free r t old rs known e f c len kp good s go =
      reads (Instr.ReadAt r g.cell (cells g.global) ri) g.global.ty a sh text ls after q to home free r (g.cell + k.word) t old rs c
      (ap (λ w. if nat_lt w (cells g.global) then Effect.Read (g.cell + w) (setting (configuration code q rs frames) r) else Effect.Traps Index) f
      ∙ ap (λ b. if b then Effect.Read (g.cell + k.word) (setting (configuration code q rs frames) r) else Effect.Traps Index) e)
      (known.1 k.word e) len kp good s go
  indexed g ri false k a sh text ls after q to home free r t old rs known e f c len kp good s go =
      traps code a (λ q. after (go_on q fetch)) sh ls text (configuration code q rs frames) Index (on_seen a after fetch s)
      (effect_at code q (Instr.ReadAt r g.cell (cells g.global) ri) rs frames c.instr
      ∙ ap (λ w. if nat_lt w (cells g.global) then Effect.Read (g.cell + w) (setting (configuration code q rs frames) r) else Effect.Traps Index) f
      ∙ ap (λ b. if b then Effect.Read (g.cell + k.word) (setting (configuration code q rs frames) r) else Effect.Traps Index) e)

  element_follows : (home : Option ℕ) (o : Option GlobalCells) (scope : LocalScope) (i : Expr) → AlwaysFollows None scope i → (N K from to free r : ℕ) (t : Scalar) (a : Around) (sh : Shared) (text : List ℕ) (ls : List Local) (old : List ℕ) (after : Answer Value → Outcome) → ElementAt code layout home o (ExprCode code layout p None scope i) from to free r t → KnownCells code o → HasLocals scope ls layout free old → IsGood code a sh → IsSeen a after → GoesOn N K a after ls to home free r t old → Does N K a sh text ls from old (λ s. after (go_on (expr p call i s) (λ k. element_in o k >>= fetch)))
  element_follows home None scope i ih N K from to free r t a sh text ls old after c known h good s go = absurd c
  element_follows home (Some g) scope i ih N K from to free r t a sh text ls old after c known h good s go =
      let rest : Value → Action Value = λ k. element_in (Some g) k >>= fetch in
      ih N K from c.mid free c.ri c.ti a sh text ls old (λ q. after (go_on q rest)) c.computes h good (on_seen a after rest s)
      (λ k sh1 text1 rs1 d. indexed g c.ri (nat_lt k.word (cells g.global)) k a sh1 text1 ls after c.mid to home free r t old rs1 known refl d.here c.reads (d.keeps.size ∙ h.size_is) (keeps_more layout home free old rs1 d.keeps) d.good s go)

  -- an unconditional jump, and a place that leads on
  pub passes : {N K : ℕ} (a : Around) (sh : Shared) (text : List ℕ) (q to : ℕ) (rs : List ℕ) {does : ℕ → Outcome} → InstructionAt code q (Instr.Jump to) → Agrees (effect code) N K (sequential_state a sh text (configuration code to rs frames)) does → Agrees (effect code) N K (sequential_state a sh text (configuration code q rs frames)) does
  passes a sh text q to rs at go = goes_by code a sh text (configuration code q rs frames) (configuration code to rs frames) (effect_at code q (Instr.Jump to) rs frames at) go

  pub leads : {N K : ℕ} (a : Around) (sh : Shared) (text : List ℕ) (q to : ℕ) (rs : List ℕ) {does : ℕ → Outcome} → LeadsTo code q to → Agrees (effect code) N K (sequential_state a sh text (configuration code to rs frames)) does → Agrees (effect code) N K (sequential_state a sh text (configuration code q rs frames)) does
  leads {N = N} {K = K} a sh text q to rs {does = does} (inl e) go = subst (λ y. Agrees (effect code) N K (sequential_state a sh text (configuration code y rs frames)) does) (sym e) go
  leads a sh text q to rs (inr i) go = passes a sh text q to rs i go

  -- a jump on a register, where it is known whether that is 0: it counts as an instruction
  jumps : {N K : ℕ} (i : Instr) (hit miss : ℕ) (b : Bool) (w : ℕ) (a : Around) (sh : Shared) (text : List ℕ) (q ra : ℕ) (rs : List ℕ) (does : ℕ → Outcome) → InstructionAt code q i → effect_of code (configuration code q rs frames) (Some i) ≡ Effect.Pure (if slice_index rs ra == 0 then configuration code hit rs frames else configuration code miss rs frames) → slice_index rs ra ≡ w → (w == 0) ≡ b → Agrees (effect code) N K (sequential_state a sh text (configuration code (if b then hit else miss) rs frames)) does → Agrees (effect code) N (suc K) (sequential_state a sh text (configuration code q rs frames)) does
  jumps i hit miss b w a sh text q ra rs does at e here zero_is go =
      goes code a sh text (configuration code q rs frames) (configuration code (if b then hit else miss) rs frames)
      (effect_at code q i rs frames at ∙ e ∙ ap (λ x. Effect.Pure (if x == 0 then configuration code hit rs frames else configuration code miss rs frames)) here ∙ ap (λ x. Effect.Pure (if x then configuration code hit rs frames else configuration code miss rs frames)) zero_is ∙ joined b hit miss rs)
      go
    where
      joined : (b : Bool) (hit miss : ℕ) (rs : List ℕ) → Effect.Pure (if b then configuration code hit rs frames else configuration code miss rs frames) ≡ Effect.Pure (configuration code (if b then hit else miss) rs frames)
      joined true hit miss rs = refl
      joined false hit miss rs = refl

  -- the two places of a condition: the thread goes on from there with its value, or with the flag that it is
  abbrev pub GoesBoth : ℕ → ℕ → (a : Around) → (Answer Value → Outcome) → List Local → (true_exit false_exit free : ℕ) → List ℕ → Type 0
  GoesBoth N K a after ls true_exit false_exit free old =
      (v : Value) (b : Bool) (sh : Shared) (text : List ℕ) (new : List ℕ) → is_zero v ≡ b → v.word < modulus v.ty → Keeps layout None free old new → IsGood code a sh →
      Agrees (effect code) N K (sequential_state a sh text (configuration code (if b then false_exit else true_exit) new frames)) (λ n. after (Gives v (state n ls (context_of a sh) text)))

  abbrev GoesFlag : ℕ → ℕ → (a : Around) → (Answer Value → Outcome) → List Local → (true_exit false_exit free : ℕ) → List ℕ → Type 0
  GoesFlag N K a after ls true_exit false_exit free old =
      (b : Bool) (sh : Shared) (text : List ℕ) (new : List ℕ) → Keeps layout None free old new → IsGood code a sh →
      Agrees (effect code) N K (sequential_state a sh text (configuration code (if b then false_exit else true_exit) new frames)) (λ n. after (Gives (flag (not b)) (state n ls (context_of a sh) text)))

  -- or with a 0 or 1 of whatever type
  abbrev GoesTruth : ℕ → ℕ → (a : Around) → (Answer Value → Outcome) → List Local → (true_exit false_exit free : ℕ) → List ℕ → Type 0
  GoesTruth N K a after ls true_exit false_exit free old =
      (t : Scalar) (b : Bool) (sh : Shared) (text : List ℕ) (new : List ℕ) → Keeps layout None free old new → IsGood code a sh →
      Agrees (effect code) N K (sequential_state a sh text (configuration code (if b then false_exit else true_exit) new frames)) (λ n. after (Gives (record { ty = t; word = truth (not b) }) (state n ls (context_of a sh) text)))

  truth_of : {N K : ℕ} (a : Around) (after : Answer Value → Outcome) (ls : List Local) (true_exit false_exit free : ℕ) (old : List ℕ) → GoesBoth N K a after ls true_exit false_exit free old → GoesTruth N K a after ls true_exit false_exit free old
  truth_of a after ls true_exit false_exit free old go t true sh text new k g = go (record { ty = t; word = truth false }) true sh text new refl (truth_under t false) k g
  truth_of a after ls true_exit false_exit free old go t false sh text new k g = go (record { ty = t; word = truth true }) false sh text new refl (truth_under t true) k g

  flag_of : {N K : ℕ} (a : Around) (after : Answer Value → Outcome) (ls : List Local) (true_exit false_exit free : ℕ) (old : List ℕ) → GoesTruth N K a after ls true_exit false_exit free old → GoesFlag N K a after ls true_exit false_exit free old
  flag_of a after ls true_exit false_exit free old go b sh text new k g = go Int b sh text new k g

  -- what the code of a condition does: from its two places back to its beginning, by at least one instruction
  abbrev pub BranchingFollows : LocalScope → Action Value → Branching → Type 0
  BranchingFollows scope run tests =
      (N K from true_exit false_exit free : ℕ) (a : Around) (sh : Shared) (text : List ℕ) (ls : List Local) (old : List ℕ) (after : Answer Value → Outcome) →
      tests from true_exit false_exit free → HasLocals scope ls layout free old → IsGood code a sh → IsSeen a after →
      GoesBoth N K a after ls true_exit false_exit free old → Does N (suc K) a sh text ls from old (λ s. after (run s))

  -- the same of one that gives a 0 or 1
  abbrev OwnFollows : LocalScope → Action Value → Branching → Type 0
  OwnFollows scope run tests =
      (N K from true_exit false_exit free : ℕ) (a : Around) (sh : Shared) (text : List ℕ) (ls : List Local) (old : List ℕ) (after : Answer Value → Outcome) →
      tests from true_exit false_exit free → HasLocals scope ls layout free old → IsGood code a sh → IsSeen a after →
      GoesTruth N K a after ls true_exit false_exit free old → Does N (suc K) a sh text ls from old (λ s. after (run s))

  -- and of one that gives a flag
  abbrev FlagFollows : LocalScope → Action Value → Branching → Type 0
  FlagFollows scope run tests =
      (N K from true_exit false_exit free : ℕ) (a : Around) (sh : Shared) (text : List ℕ) (ls : List Local) (old : List ℕ) (after : Answer Value → Outcome) →
      tests from true_exit false_exit free → HasLocals scope ls layout free old → IsGood code a sh → IsSeen a after →
      GoesFlag N K a after ls true_exit false_exit free old → Does N (suc K) a sh text ls from old (λ s. after (run s))

  zero_jumps : {N K : ℕ} (b : Bool) (w : ℕ) (a : Around) (sh : Shared) (text : List ℕ) (q r there on : ℕ) (rs : List ℕ) (does : ℕ → Outcome) → InstructionAt code q (Instr.JumpZero r there) → LeadsTo code (suc q) on → slice_index rs r ≡ w → (w == 0) ≡ b → Agrees (effect code) N K (sequential_state a sh text (configuration code (if b then there else on) rs frames)) does → Agrees (effect code) N (suc K) (sequential_state a sh text (configuration code q rs frames)) does
  zero_jumps true w a sh text q r there on rs does at l here e go = jumps (Instr.JumpZero r there) there (suc q) true w a sh text q r rs does at refl here e go
  zero_jumps false w a sh text q r there on rs does at l here e go = jumps (Instr.JumpZero r there) there (suc q) false w a sh text q r rs does at refl here e (leads a sh text (suc q) on rs l go)

  nonzero_jumps : {N K : ℕ} (b : Bool) (w : ℕ) (a : Around) (sh : Shared) (text : List ℕ) (q r there on : ℕ) (rs : List ℕ) (does : ℕ → Outcome) → InstructionAt code q (Instr.JumpNonzero r there) → LeadsTo code (suc q) on → slice_index rs r ≡ w → (w == 0) ≡ b → Agrees (effect code) N K (sequential_state a sh text (configuration code (if b then on else there) rs frames)) does → Agrees (effect code) N (suc K) (sequential_state a sh text (configuration code q rs frames)) does
  nonzero_jumps true w a sh text q r there on rs does at l here e go = jumps (Instr.JumpNonzero r there) (suc q) there true w a sh text q r rs does at refl here e (leads a sh text (suc q) on rs l go)
  nonzero_jumps false w a sh text q r there on rs does at l here e go = jumps (Instr.JumpNonzero r there) (suc q) there false w a sh text q r rs does at refl here e go

  -- a condition, by its value or by its operator
  branches_follow : (scope : LocalScope) (e : Expr) (own : Branching) → AlwaysFollows None scope e → OwnFollows scope (expr p call e) own → BranchingFollows scope (expr p call e) (Branches code layout (ExprCode code layout p None scope e) own)
  branches_follow scope e own ih iho N K from true_exit false_exit free a sh text ls old after (inl c) h good s go =
      ih N (suc K) from c.mid free c.r c.t a sh text ls old after c.computes h good s
      (λ v sh1 text1 rs1 d. zero_jumps (is_zero v) v.word a sh1 text1 c.mid c.r false_exit true_exit rs1 _ c.jumps c.leads d.here refl (go v (is_zero v) sh1 text1 rs1 refl d.word d.keeps d.good))
  branches_follow scope e own ih iho N K from true_exit false_exit free a sh text ls old after (inr (inl c)) h good s go =
      ih N (suc K) from c.mid free c.r c.t a sh text ls old after c.computes h good s
      (λ v sh1 text1 rs1 d. nonzero_jumps (is_zero v) v.word a sh1 text1 c.mid c.r true_exit false_exit rs1 _ c.jumps c.leads d.here refl (go v (is_zero v) sh1 text1 rs1 refl d.word d.keeps d.good))
  branches_follow scope e own ih iho N K from true_exit false_exit free a sh text ls old after (inr (inr c)) h good s go =
      iho N K from true_exit false_exit free a sh text ls old after c h good s (truth_of a after ls true_exit false_exit free old go)

  abbrev tested : Value → Action Value
  tested w = pure (flag (not (is_zero w)))

  -- the last operand of `&&` and `||`, which gives the answer
  goes_tested : {N K : ℕ} (a : Around) (after : Answer Value → Outcome) (ls : List Local) (true_exit false_exit free : ℕ) (old : List ℕ) → GoesFlag N K a after ls true_exit false_exit free old → GoesBoth N K a (λ q. after (go_on q tested)) ls true_exit false_exit free old
  goes_tested a after ls true_exit false_exit free old go v b sh text new e below k g =
      same (effect code) (λ n. after (Gives (flag (not b)) (state n ls (context_of a sh) text))) (λ n. ap (λ x. after (Gives (flag (not x)) (state n ls (context_of a sh) text))) e)
      (go b sh text new k g)

  -- further on, with the registers of before
  goes_later : {N K : ℕ} (a : Around) (after : Answer Value → Outcome) (ls : List Local) (true_exit false_exit free : ℕ) (old mid : List ℕ) → Keeps layout None free old mid → GoesFlag N K a after ls true_exit false_exit free old → GoesFlag N K a after ls true_exit false_exit free mid
  goes_later a after ls true_exit false_exit free old mid k go b sh text new l g = go b sh text new (keeps_on layout None free free old mid new (omega arith) k l) g

  both_follow : (scope : LocalScope) (x y : Action Value) (A B : Branching) → BranchingFollows scope x A → BranchingFollows scope y B → FlagFollows scope (x >>= λ v. (if is_zero v then pure v else y) >>= tested) (BothHold code layout A B)
  both_follow scope x y A B ihx ihy N K from true_exit false_exit free a sh text ls old after c h good s go =
      let rest : Value → Action Value = λ v. (if is_zero v then pure v else y) >>= tested in
      ihx N K from c.mid false_exit free a sh text ls old (λ q. after (go_on q rest)) c.first h good (on_seen a after rest s) first
    where
      first : GoesBoth N K a (λ q. after (go_on q (λ v. (if is_zero v then pure v else y) >>= tested))) ls c.mid false_exit free old
      first v true sh1 text1 new e below k g =
          same (effect code) (λ n. after (Gives (flag (not (is_zero v))) (state n ls (context_of a sh1) text1))) (λ n. ap (λ z. after (go_on ((if z then pure v else y) (state n ls (context_of a sh1) text1)) tested)) e)
          (goes_tested a after ls true_exit false_exit free old go v true sh1 text1 new e below k g)
      first v false sh1 text1 new e below k g =
          same (effect code) (λ n. after (go_on (y (state n ls (context_of a sh1) text1)) tested)) (λ n. ap (λ z. after (go_on ((if z then pure v else y) (state n ls (context_of a sh1) text1)) tested)) e)
          (fewer (effect code) (omega arith) (omega arith)
          (ihy N K c.mid true_exit false_exit free a sh1 text1 ls new (λ q. after (go_on q tested)) c.second (has_locals_on scope ls layout free free old new (omega arith) h k) g (on_seen a after tested s)
          (goes_tested a after ls true_exit false_exit free new (goes_later a after ls true_exit false_exit free old new k go))))

  either_follows : (scope : LocalScope) (x y : Action Value) (A B : Branching) → BranchingFollows scope x A → BranchingFollows scope y B → FlagFollows scope (x >>= λ v. (if is_zero v then y else pure v) >>= tested) (EitherHolds code layout A B)
  either_follows scope x y A B ihx ihy N K from true_exit false_exit free a sh text ls old after c h good s go =
      let rest : Value → Action Value = λ v. (if is_zero v then y else pure v) >>= tested in
      ihx N K from true_exit c.mid free a sh text ls old (λ q. after (go_on q rest)) c.first h good (on_seen a after rest s) first
    where
      first : GoesBoth N K a (λ q. after (go_on q (λ v. (if is_zero v then y else pure v) >>= tested))) ls true_exit c.mid free old
      first v false sh1 text1 new e below k g =
          same (effect code) (λ n. after (Gives (flag (not (is_zero v))) (state n ls (context_of a sh1) text1))) (λ n. ap (λ z. after (go_on ((if z then y else pure v) (state n ls (context_of a sh1) text1)) tested)) e)
          (goes_tested a after ls true_exit false_exit free old go v false sh1 text1 new e below k g)
      first v true sh1 text1 new e below k g =
          same (effect code) (λ n. after (go_on (y (state n ls (context_of a sh1) text1)) tested)) (λ n. ap (λ z. after (go_on ((if z then y else pure v) (state n ls (context_of a sh1) text1)) tested)) e)
          (fewer (effect code) (omega arith) (omega arith)
          (ihy N K c.mid true_exit false_exit free a sh1 text1 ls new (λ q. after (go_on q tested)) c.second (has_locals_on scope ls layout free free old new (omega arith) h k) g (on_seen a after tested s)
          (goes_tested a after ls true_exit false_exit free new (goes_later a after ls true_exit false_exit free old new k go))))

  -- the other way round
  goes_swapped : {N K : ℕ} (a : Around) (after : Answer Value → Outcome) (ls : List Local) (true_exit false_exit free : ℕ) (old : List ℕ) (rest : Value → Action Value) → ((v : Value) (s : State) → v.word < modulus v.ty → rest v s ≡ Gives (flag (is_zero v)) s) → GoesFlag N K a after ls true_exit false_exit free old → GoesBoth N K a (λ q. after (go_on q rest)) ls false_exit true_exit free old
  goes_swapped a after ls true_exit false_exit free old rest is go v true sh text new e below k g =
      same (effect code) (λ n. after (Gives (flag true) (state n ls (context_of a sh) text))) (λ n. ap after (is v (state n ls (context_of a sh) text) below) ∙ ap (λ x. after (Gives (flag x) (state n ls (context_of a sh) text))) e)
      (go false sh text new k g)
  goes_swapped a after ls true_exit false_exit free old rest is go v false sh text new e below k g =
      same (effect code) (λ n. after (Gives (flag false) (state n ls (context_of a sh) text))) (λ n. ap after (is v (state n ls (context_of a sh) text) below) ∙ ap (λ x. after (Gives (flag x) (state n ls (context_of a sh) text))) e)
      (go true sh text new k g)

  -- a comparison with the constant 0
  goes_same : {N K : ℕ} (a : Around) (after : Answer Value → Outcome) (ls : List Local) (true_exit false_exit free : ℕ) (old : List ℕ) (rest : Value → Action Value) → ((v : Value) (s : State) → v.word < modulus v.ty → rest v s ≡ Gives (flag (not (is_zero v))) s) → GoesFlag N K a after ls true_exit false_exit free old → GoesBoth N K a (λ q. after (go_on q rest)) ls true_exit false_exit free old
  goes_same a after ls true_exit false_exit free old rest is go v b sh text new e below k g =
      same (effect code) (λ n. after (Gives (flag (not b)) (state n ls (context_of a sh) text))) (λ n. ap after (is v (state n ls (context_of a sh) text) below) ∙ ap (λ x. after (Gives (flag (not x)) (state n ls (context_of a sh) text))) e)
      (go b sh text new k g)

  abbrev comparing : BinaryOp → Expr → Value → Action Value
  comparing op y v = expr p call y >>= λ w. or_trap (binary op v w)

  -- the word of the constant, and whether the other side is 0
  zero_asked : (t : Scalar) (v : Value) → v.word < modulus v.ty → (word_of (common v.ty t) (number v.ty v.word) == word_of (common t v.ty) (number t (word_of t (pos 0)))) ≡ is_zero v
  zero_asked t v below = ap (λ w. word_of (common v.ty t) (number v.ty v.word) == w) (zero_in (common t v.ty) t) ∙ zero_preserved v.ty t v.word below

  zero_differs : (t : Scalar) (at : Span) (v : Value) (s : State) → v.word < modulus v.ty → comparing NotEqual (Constant 0 t at) v s ≡ Gives (flag (not (is_zero v))) s
  zero_differs t at v s below = ap (λ b. Gives (flag (not b)) s) (zero_asked t v below)

  zero_equals : (t : Scalar) (at : Span) (v : Value) (s : State) → v.word < modulus v.ty → comparing Equal (Constant 0 t at) v s ≡ Gives (flag (is_zero v)) s
  zero_equals t at v s below = ap (λ b. Gives (flag b) s) (zero_asked t v below)

  compared_follows : (scope : LocalScope) (op : BinaryOp) (x y : Expr) (A : Branching) → BranchingFollows scope (expr p call x) A → FlagFollows scope (expr p call x >>= comparing op y) (ComparedWithZero code layout op y A)
  compared_follows scope op x y A ih N K from true_exit false_exit free a sh text ls old after (nought, inl c) h good s go =
      ih N K from true_exit false_exit free a sh text ls old (λ q. after (go_on q (comparing op y))) c.1 h good (on_seen a after (comparing op y) s)
      (goes_same a after ls true_exit false_exit free old (comparing op y)
      (λ v s below. ap (λ z. comparing z y v s) c.0 ∙ ap (λ z. comparing NotEqual z v s) nought.2 ∙ zero_differs nought.0 nought.1 v s below) go)
  compared_follows scope op x y A ih N K from true_exit false_exit free a sh text ls old after (nought, inr c) h good s go =
      ih N K from false_exit true_exit free a sh text ls old (λ q. after (go_on q (comparing op y))) c.1 h good (on_seen a after (comparing op y) s)
      (goes_swapped a after ls true_exit false_exit free old (comparing op y)
      (λ v s below. ap (λ z. comparing z y v s) c.0 ∙ ap (λ z. comparing Equal z v s) nought.2 ∙ zero_equals nought.0 nought.1 v s below) go)

  -- the flag of a condition in a register
  truth_follows : (home : Option ℕ) (scope : LocalScope) (run : Action Value) (tests : Branching) → FlagFollows scope run tests → (N K from to free r : ℕ) (t : Scalar) (a : Around) (sh : Shared) (text : List ℕ) (ls : List Local) (old : List ℕ) (after : Answer Value → Outcome) → TruthCode code layout home tests from to free r t → HasLocals scope ls layout free old → IsGood code a sh → IsSeen a after → GoesOn N K a after ls to home free r t old → Does N K a sh text ls from old (λ s. after (run s))
  truth_follows home scope run tests ih N K from to free r t a sh text ls old after c h good s go =
      fewer (effect code) (omega arith) (omega arith) (ih N K from c.true_exit c.false_exit free a sh text ls old after c.decides h good s places)
    where
      places : GoesFlag N K a after ls c.true_exit c.false_exit free old
      places true sh1 text1 new k g =
          sets (Instr.Constant r 0) Int a sh1 text1 ls after c.false_exit (suc c.false_exit) home free r 0 t old new c.gives_zero refl (k.size ∙ h.size_is) (omega arith) (keeps_more layout home free old new k) g
          (λ v sh2 text2 rs2 d. leads a sh2 text2 (suc c.false_exit) to rs2 c.zero_leads (go v sh2 text2 rs2 d))
      places false sh1 text1 new k g =
          sets (Instr.Constant r 1) Int a sh1 text1 ls after c.true_exit (suc c.true_exit) home free r 1 t old new c.gives_one refl (k.size ∙ h.size_is) (omega arith) (keeps_more layout home free old new k) g
          (λ v sh2 text2 rs2 d. leads a sh2 text2 (suc c.true_exit) to rs2 c.one_leads (go v sh2 text2 rs2 d))

  -- `?:` once the chosen operand is there
  abbrev choosing : Expr → Value → Action Value
  choosing whole w = locals >>= λ mine. or_astray (type_of (running_scope p mine) whole) >>= λ t. pure (value_in_type t w)

  moved : {N K : ℕ} (x : Value) (a : Around) (sh : Shared) (text : List ℕ) (ls : List Local) (after : Answer Value → Outcome) (q to : ℕ) (home : Option ℕ) (free r rc : ℕ) (t : Scalar) (old rs : List ℕ) → GivenBy code layout home (Instr.Move r rc) t q to free r t → Computed a t rc None free old x sh rs → length rs ≡ registers_in layout → GoesOn N K a after ls to home free r t old → Does N K a sh text ls q rs (λ s. after (Gives x s))
  moved x a sh text ls after q to home free r rc t old rs c d len go =
      same (effect code) (λ n. after (Gives (record { ty = t; word = slice_index rs rc }) (state n ls (context_of a sh) text)))
      (λ n j. after (Gives (record { ty = d.typed_so j; word = sym d.here j }) (state n ls (context_of a sh) text)))
      (sets (Instr.Move r rc) t a sh text ls after q to home free r (slice_index rs rc) t old rs c refl len (subst (λ z. z < modulus t) (sym d.here) (subst (λ z. x.word < modulus z) d.typed_so d.word)) (keeps_more layout home free old rs d.keeps) d.good go)

  -- a word that is set, or that is preloaded
  pub word_comes : {N K : ℕ} (w : ℕ) (u : Scalar) (a : Around) (sh : Shared) (text : List ℕ) (scope : LocalScope) (ls : List Local) (does : ℕ → Outcome) (from to free r : ℕ) (old : List ℕ) → WordCode code layout w u from to free r → HasLocals scope ls layout free old → ((new : List ℕ) → slice_index new r ≡ w → Keeps layout None free old new → Agrees (effect code) N K (sequential_state a sh text (configuration code to new frames)) does) → Agrees (effect code) N K (sequential_state a sh text (configuration code from old frames)) does
  word_comes w u a sh text scope ls does from to free r old (inl c) h go =
      set_on (Instr.Constant r w) w u a sh text does from to None free r old old c refl h.size_is (keeps_all layout None free old) go
  word_comes {N = N} {K = K} w u a sh text scope ls does from to free r old (inr c) h go =
      subst (λ x. Agrees (effect code) N K (sequential_state a sh text (configuration code x old frames)) does) c.to_is
      (go old (ap (slice_index old) c.register ∙ h.preloaded c.number w c.known) (keeps_all layout None free old))

  -- a value of type t that is due in u: the register has its word in that type
  pub record Taken (a : Around) (u t : Scalar) (r : ℕ) (home : Option ℕ) (free : ℕ) (old : List ℕ) (v : Value) (sh : Shared) (new : List ℕ) : Type 0 where
    pub typed_so : v.ty ≡ t
    pub here : slice_index new r ≡ (value_in_type u v).word
    pub keeps : Keeps layout home free old new
    pub good : IsGood code a sh

  abbrev pub GoesTaken : ℕ → ℕ → (a : Around) → (Answer Value → Outcome) → List Local → (to : ℕ) → Option ℕ → (free r : ℕ) → (u t : Scalar) → List ℕ → Type 0
  GoesTaken N K a after ls to home free r u t old =
      (v : Value) (sh : Shared) (text : List ℕ) (new : List ℕ) → Taken a u t r home free old v sh new → Agrees (effect code) N K (sequential_state a sh text (configuration code to new frames)) (λ n. after (Gives v (state n ls (context_of a sh) text)))

  -- a value that lies in a register, once it is converted
  pub taken : {N K : ℕ} (u t : Scalar) (v : Value) (a : Around) (sh : Shared) (text : List ℕ) (ls : List Local) (after : Answer Value → Outcome) (q to : ℕ) (home : Option ℕ) (free ra r : ℕ) (old rs : List ℕ) → Converts code layout home t u ra q to free r → Computed a t ra home free old v sh rs → length rs ≡ registers_in layout → GoesTaken N K a after ls to home free r u t old → Does N K a sh text ls q rs (λ s. after (Gives v s))
  taken u t v a sh text ls after q to home free ra r old rs c d len go =
      comes t u v a sh text (λ m. after (Gives v (state m ls (context_of a sh) text))) q to home free ra r old rs c d len
      (λ new here keeps. go v sh text new (record { typed_so = d.typed_so; here = here; keeps = keeps; good = d.good }))

  pub due_follows : (home : Option ℕ) (scope : LocalScope) (e : Expr) → AlwaysFollows home scope e → (u : Scalar) (N K from to free r : ℕ) (t : Scalar) (a : Around) (sh : Shared) (text : List ℕ) (ls : List Local) (old : List ℕ) (after : Answer Value → Outcome) → DueCode code layout home e (ExprCode code layout p home scope e) u from to free r t → HasLocals scope ls layout free old → IsGood code a sh → IsSeen a after → GoesTaken N K a after ls to home free r u t old → Does N K a sh text ls from old (λ s. after (expr p call e s))
  due_follows home scope (Constant n x at) ih u N K from to free r t a sh text ls old after c h good s go =
      let v : Value = record { ty = x; word = word_of x (pos n) } in
      set_on (Instr.Constant r (constant_in u x n)) (constant_in u x n) u a sh text (λ m. after (Gives v (state m ls (context_of a sh) text))) from to home free r old old c.1 refl h.size_is (keeps_all layout home free old)
      (λ new here keeps. go v sh text new (record { typed_so = sym c.0; here = here; keeps = keeps; good = good }))
  due_follows home scope e ih u N K from to free r t a sh text ls old after c h good s go =
      ih N K from c.mid free c.ra t a sh text ls old after c.computes h good s
      (λ v sh1 text1 rs1 d. taken u t v a sh1 text1 ls after c.mid to home free c.ra r old rs1 c.converts d (d.keeps.size ∙ h.size_is) go)

  -- a branch's value, in the type of both, straight
  straight_follows : (home : Option ℕ) (whole : Expr) (scope : LocalScope) (e : Expr) → AlwaysFollows home scope e → (N K from to free r : ℕ) (t : Scalar) (a : Around) (sh : Shared) (text : List ℕ) (ls : List Local) (old : List ℕ) (after : Answer Value → Outcome) → TypedCode code layout home e (ExprCode code layout p home scope e) t from to free r → type_of (running_scope p ls) whole ≡ Some t → HasLocals scope ls layout free old → IsGood code a sh → IsSeen a after → GoesOn N K a after ls to home free r t old → Does N K a sh text ls from old (λ s. after (go_on (expr p call e s) (choosing whole)))
  straight_follows home whole scope e ih N K from to free r t a sh text ls old after c is h good s go =
      due_follows home scope e ih t N K from to free r c.0 a sh text ls old (λ q. after (go_on q (choosing whole))) c.1 h good (on_seen a after (choosing whole) s)
      (λ w sh1 text1 rs1 d.
      same (effect code) (λ n. after (Gives (value_in_type t w) (state n ls (context_of a sh1) text1)))
      (λ n. ap (λ o. after (go_on (or_astray o (state n ls (context_of a sh1) text1)) (λ t. pure (value_in_type t w)))) is)
      (go (value_in_type t w) sh1 text1 rs1 (record { typed_so = refl; word = word_below t (number_of w); here = d.here; keeps = d.keeps; good = d.good })))

  -- and where it is moved
  branch_follows : (home : Option ℕ) (whole : Expr) (scope : LocalScope) (e : Expr) → ((h : Option ℕ) → AlwaysFollows h scope e) → (N K from to free r : ℕ) (t : Scalar) (a : Around) (sh : Shared) (text : List ℕ) (ls : List Local) (old : List ℕ) (after : Answer Value → Outcome) → BranchCode code layout home e (λ h. ExprCode code layout p h scope e) from to free r t → type_of (running_scope p ls) whole ≡ Some t → HasLocals scope ls layout free old → IsGood code a sh → IsSeen a after → GoesOn N K a after ls to home free r t old → Does N K a sh text ls from old (λ s. after (go_on (expr p call e s) (choosing whole)))
  branch_follows home whole scope e ih N K from to free r t a sh text ls old after (inl c) is h good s go =
      straight_follows home whole scope e (ih home) N K from to free r t a sh text ls old after c is h good s go
  branch_follows home whole scope e ih N K from to free r t a sh text ls old after (inr c) is h good s go =
      straight_follows None whole scope e (ih None) N K from c.mid free c.rc t a sh text ls old after c.computes is h good s
      (λ x sh1 text1 rs1 d. moved x a sh1 text1 ls after c.mid to home free r c.rc t old rs1 c.moves d (d.keeps.size ∙ h.size_is) go)

  goes_after : {N K : ℕ} (a : Around) (after : Answer Value → Outcome) (ls : List Local) (to : ℕ) (home : Option ℕ) (free r : ℕ) (t : Scalar) (old mid : List ℕ) → Keeps layout None free old mid → GoesOn N K a after ls to home free r t old → GoesOn N K a after ls to home free r t mid
  goes_after a after ls to home free r t old mid k go v sh text new d = go v sh text new (record { typed_so = d.typed_so; word = d.word; here = d.here; keeps = keeps_on layout home free free old mid new (omega arith) k d.keeps; good = d.good })

  conditional_follows : (home : Option ℕ) (whole : Expr) (scope : LocalScope) (run : Action Value) (x y : Expr) (T : Branching) → BranchingFollows scope run T → ((h : Option ℕ) → AlwaysFollows h scope x) → ((h : Option ℕ) → AlwaysFollows h scope y) → (N K from to free r : ℕ) (t : Scalar) (a : Around) (sh : Shared) (text : List ℕ) (ls : List Local) (old : List ℕ) (after : Answer Value → Outcome) → ConditionalCode code layout home T (BranchCode code layout home x (λ h. ExprCode code layout p h scope x)) (BranchCode code layout home y (λ h. ExprCode code layout p h scope y)) from to free r t → type_of (running_scope p ls) whole ≡ Some t → HasLocals scope ls layout free old → IsGood code a sh → IsSeen a after → GoesOn N K a after ls to home free r t old → Does N K a sh text ls from old (λ s. after ((run >>= λ v. (if is_zero v then expr p call y else expr p call x) >>= choosing whole) s))
  conditional_follows home whole scope run x y T iht ihx ihy N K from to free r t a sh text ls old after c is h good s go =
      let rest : Value → Action Value = λ v. (if is_zero v then expr p call y else expr p call x) >>= choosing whole in
      fewer (effect code) (omega arith) (omega arith)
      (iht N K from c.true_exit c.false_exit free a sh text ls old (λ q. after (go_on q rest)) c.tests h good (on_seen a after rest s) places)
    where
      places : GoesBoth N K a (λ q. after (go_on q (λ v. (if is_zero v then expr p call y else expr p call x) >>= choosing whole))) ls c.true_exit c.false_exit free old
      places v true sh1 text1 new e below k g =
          same (effect code) (λ n. after (go_on (expr p call y (state n ls (context_of a sh1) text1)) (choosing whole))) (λ n. ap (λ z. after (go_on ((if z then expr p call y else expr p call x) (state n ls (context_of a sh1) text1)) (choosing whole))) e)
          (branch_follows home whole scope y ihy N K c.false_exit c.end free r t a sh1 text1 ls new after c.else_code is (has_locals_on scope ls layout free free old new (omega arith) h k) g s
          (λ w sh2 text2 rs2 d. leads a sh2 text2 c.end to rs2 c.else_leads (goes_after a after ls to home free r t old new k go w sh2 text2 rs2 d)))
      places v false sh1 text1 new e below k g =
          same (effect code) (λ n. after (go_on (expr p call x (state n ls (context_of a sh1) text1)) (choosing whole))) (λ n. ap (λ z. after (go_on ((if z then expr p call y else expr p call x) (state n ls (context_of a sh1) text1)) (choosing whole))) e)
          (branch_follows home whole scope x ihx N K c.true_exit c.last free r t a sh1 text1 ls new after c.then_code is (has_locals_on scope ls layout free free old new (omega arith) h k) g s
          (λ w sh2 text2 rs2 d. leads a sh2 text2 c.last to rs2 c.then_leads (goes_after a after ls to home free r t old new k go w sh2 text2 rs2 d)))

  -- a value that is computed in a transaction of its own: its body's end is the value
  returning : Value → Action Completion
  returning v = pure (Returns v)

  -- a value that is known in a transaction is known outside it
  given_there : {a b : Around} {t : Scalar} {r : ℕ} {home : Option ℕ} {free : ℕ} {old : List ℕ} {v : Value} {sh sh1 : Shared} {new : List ℕ} → IsGood code b sh1 → Computed a t r home free old v sh new → Computed b t r home free old v sh1 new
  given_there g d = record { typed_so = d.typed_so; word = d.word; here = d.here; keeps = d.keeps; good = g }

  bare_value : {N K : ℕ} (mode : Mode) (home : Option ℕ) (scope : LocalScope) (e : Expr) → AlwaysFollows home scope e → (from to free r : ℕ) (t : Scalar) (founds lefts : List Memory) (memory : Memory) (kept : Bool) (text : List ℕ) (ls : List Local) (old : List ℕ) (after : Answer Value → Outcome) → ValueTransactionCode code layout (ExprCode code layout p home scope e) from to free r t → HasLocals scope ls layout free old → AreMemories code founds → IsSeen Bare after → GoesOn N K Bare after ls to home free r t old → Does N K Bare (record { founds = founds; lefts = lefts; memory = memory; kept = kept }) text ls from old (λ s. after (value_transaction mode (expr p call e) s))
  unfolding returning
  bare_value mode home scope e ih from to free r t [] lefts memory kept text ls old after c h g s go =
      same (effect code) (λ n. after (go_on (tick (state n ls (Outside [] lefts) text)) (λ u. stop Wants))) wanted
      (wants_one code after lefts memory kept text ls (configuration code from old frames) (configuration code (suc from) old frames) (configuration code to old frames) s (effect_at code from (Instr.Begin to) old frames c.begins))
    where
      wanted : (n : ℕ) → after (value_transaction mode (expr p call e) (state n ls (Outside [] lefts) text)) ≡ after (go_on (tick (state n ls (Outside [] lefts) text)) (λ u. stop Wants))
      wanted zero = refl
      wanted (suc n) = refl
  bare_value {N = N} {K = K} mode home scope e ih from to free r t (found ∷ founds) lefts memory kept text ls old after c h g s go =
      let round : Transactions = outermost_alone code mode (configuration code to old frames) found founds lefts in
      let after1 : Answer Value → Outcome = λ q. after (go_on (close (Plain mode) founds lefts ls found (go_on q returning)) value_at) in
      let seen1 : IsSeen (Within round) after1 = record { spent = λ u. s.spent _; wants = λ u. s.wants _; trapped = λ k u. s.trapped k _; astray = λ u. s.astray _ } in
      tick_goes code Bare after (transaction (Plain mode) (expr p call e >>= returning) >>= value_at) (record { founds = found ∷ founds; lefts = lefts; memory = memory; kept = kept }) ls text (configuration code from old frames) s
      (begins_outermost code found founds lefts memory kept text mode (configuration code from old frames) (configuration code (suc from) old frames) (configuration code to old frames) (effect_at code from (Instr.Begin to) old frames c.begins)
      (ih N K (suc from) c.last free r t (Within round) (record { founds = founds; lefts = lefts; memory = found; kept = false }) text ls old after1 c.computes h (g.0, (λ d. (refl, d)), (λ d. cc)) seen1
      (λ v sh1 text1 new d.
      let after2 : Answer Completion → Outcome = λ q. after (go_on q value_at) in
      let sh2 : Shared = record { founds = founds; lefts = lefts ++ sh1.memory ∷ []; memory = sh1.memory; kept = sh1.kept } in
      leaves_outermost code after2 (Gives (Returns v)) mode found sh1.memory founds lefts sh1 text1 ls ls (configuration code c.last new frames) (configuration code (suc c.last) new frames) (configuration code to old frames)
      (next_commit code mode found founds lefts sh1 text1 (configuration code c.last new frames) (configuration code (suc c.last) new frames) (configuration code to old frames) (effect_at code c.last Instr.Commit new frames c.commits))
      (on_seen Bare after value_at s)
      (go_at Bare after ls to (suc c.last) home free r t t old c.to_is refl go v sh2 text1 new (given_there g.1 d)))))

  inner_value : {N K : ℕ} (mode : Mode) (home : Option ℕ) (scope : LocalScope) (e : Expr) → AlwaysFollows home scope e → (from to free r : ℕ) (t : Scalar) (k : Transactions) (sh : Shared) (text : List ℕ) (ls : List Local) (old : List ℕ) (after : Answer Value → Outcome) → Enters k.mode (Plain mode) → ValueTransactionCode code layout (ExprCode code layout p home scope e) from to free r t → HasLocals scope ls layout free old → IsGood code (Within k) sh → IsSeen (Within k) after → GoesOn N K (Within k) after ls to home free r t old → Does N K (Within k) sh text ls from old (λ s. after (value_transaction mode (expr p call e) s))
  unfolding returning
  inner_value mode home scope e ih from to free r t k sh text ls old after (inr f) c h g s go =
      same (effect code) (λ n. after (Stops Astray (state n ls (Inside k.mode sh.memory) text))) (λ n. ap (λ q. after (go_on q value_at)) (f sh.memory (expr p call e >>= returning) (state n ls (Inside k.mode sh.memory) text)))
      (astray (effect code) 0 (s.astray _))
  inner_value {N = N} {K = K} mode home scope e ih from to free r t k sh text ls old after (inl f) c h g s go =
      let round : Transactions = with_inner code k mode sh.memory (configuration code to old frames) in
      let after1 : Answer Value → Outcome = λ q. after (go_on (close_inner k.mode (Plain mode) ls sh.memory (go_on q returning)) value_at) in
      let seen1 : IsSeen (Within round) after1 = record { spent = s.spent; wants = s.wants; trapped = s.trapped; astray = s.astray } in
      same (effect code) (λ n. after1 (expr p call e (state n ls (Inside mode sh.memory) text))) (λ n. ap (λ q. after (go_on q value_at)) (f.0 sh.memory (expr p call e >>= returning) (state n ls (Inside k.mode sh.memory) text)))
      (begins_inner code k sh text mode (configuration code from old frames) (configuration code (suc from) old frames) (configuration code to old frames) (effect_at code from (Instr.Begin to) old frames c.begins)
      (ih N K (suc from) c.last free r t (Within round) sh text ls old after1 c.computes h (g.0, (λ d. ((g.1 d).0, f.1 (g.1 d).1)), g.2) seen1
      (λ v sh1 text1 new d.
      let good1 : IsGood code (Within k) sh1 = (d.good.0, (λ z. ((d.good.1 z).0, (g.1 z).1)), d.good.2) in
      commits_inner code k sh1 text1 mode sh.memory (configuration code c.last new frames) (configuration code (suc c.last) new frames) (configuration code to old frames) (effect_at code c.last Instr.Commit new frames c.commits)
      (go_at (Within k) after ls to (suc c.last) home free r t t old c.to_is refl go v sh1 text1 new (given_there good1 d)))))

  value_transaction_follows : (mode : Mode) (home : Option ℕ) (scope : LocalScope) (e : Expr) → AlwaysFollows home scope e → (N K from to free r : ℕ) (t : Scalar) (a : Around) (sh : Shared) (text : List ℕ) (ls : List Local) (old : List ℕ) (after : Answer Value → Outcome) → ValueTransactionCode code layout (ExprCode code layout p home scope e) from to free r t → HasLocals scope ls layout free old → IsGood code a sh → IsSeen a after → GoesOn N K a after ls to home free r t old → Does N K a sh text ls from old (λ s. after (value_transaction mode (expr p call e) s))
  value_transaction_follows mode home scope e ih N K from to free r t Bare sh text ls old after c h g s go =
      bare_value mode home scope e ih from to free r t sh.founds sh.lefts sh.memory sh.kept text ls old after c h g s go
  value_transaction_follows mode home scope e ih N K from to free r t (Within k) sh text ls old after c h g s go =
      inner_value mode home scope e ih from to free r t k sh text ls old after (enters k.mode (Plain mode)) c h g s go

  -- what a call's code does
  abbrev pub CallsFollow : Type 0
  CallsFollow =
      (N K : ℕ) (x : List ℕ) (vs : List Value) (number q d : ℕ) (args : List ℕ) (g : FunctionCode) (f : Function) (body : Stmts)
      (a : Around) (sh : Shared) (text : List ℕ) (ls : List Local) (rs : List ℕ) (after : Answer Value → Outcome) →
      InstructionAt code q (Instr.Call number d (argument_order f.parameters args)) → slice_get code.functions number ≡ Some g → g.name ≡ x → definition_of p x ≡ Some (f, body) →
      map (slice_index rs) args ≡ handed (map (λ q. q.ty) f.parameters) vs → IsGood code a sh → IsSeen a after →
      ((v : Value) (sh1 : Shared) (text1 : List ℕ) → v.ty ≡ unwrap_or f.result Int → v.word < modulus v.ty → IsGood code a sh1 →
      Agrees (effect code) N K (sequential_state a sh1 text1 (configuration code (suc q) (slice_set rs d v.word) frames)) (λ n. after (Gives v (state n ls (context_of a sh1) text1)))) →
      Agrees (effect code) N K (sequential_state a sh text (configuration code q rs frames)) (λ n. after (call x vs (state n ls (context_of a sh) text)))

  -- an operand of an operator
  pub operand_follows : (scope : LocalScope) (e : Expr) → AlwaysFollows None scope e → (u : Scalar) (N K from to free r : ℕ) (t : Scalar) (a : Around) (sh : Shared) (text : List ℕ) (ls : List Local) (old : List ℕ) (after : Answer Value → Outcome) → OperandCode code layout e (ExprCode code layout p None scope e) u from to free r t → HasLocals scope ls layout free old → IsGood code a sh → IsSeen a after → GoesTaken N K a after ls to None free r u t old → Does N K a sh text ls from old (λ s. after (expr p call e s))
  operand_follows scope (Constant n x at) ih u N K from to free r t a sh text ls old after c h good s go =
      let v : Value = record { ty = x; word = word_of x (pos n) } in
      word_comes (constant_in u x n) u a sh text scope ls (λ m. after (Gives v (state m ls (context_of a sh) text))) from to free r old c.1 h
      (λ new here keeps. go v sh text new (record { typed_so = sym c.0; here = here; keeps = keeps; good = good }))
  operand_follows scope e ih u N K from to free r t a sh text ls old after c h good s go =
      ih N K from c.mid free c.ra t a sh text ls old after c.computes h good s
      (λ v sh1 text1 rs1 d. taken u t v a sh1 text1 ls after c.mid to None free c.ra r old rs1 c.converts d (d.keeps.size ∙ h.size_is) go)

  -- the first of several values, in the type that is due
  abbrev GoesHanded : ℕ → ℕ → (a : Around) → (Answer Value → Outcome) → List Local → List Scalar → (to free r : ℕ) → List ℕ → Type 0
  GoesHanded N K a after ls ts to free r old =
      (v : Value) (sh : Shared) (text : List ℕ) (new : List ℕ) → slice_index new r ≡ first_word ts v → Keeps layout None free old new → IsGood code a sh → Agrees (effect code) N K (sequential_state a sh text (configuration code to new frames)) (λ n. after (Gives v (state n ls (context_of a sh) text)))

  handed_follows : (scope : LocalScope) (ts : List Scalar) (e : Expr) → AlwaysFollows None scope e → (N K from to free r : ℕ) (a : Around) (sh : Shared) (text : List ℕ) (ls : List Local) (old : List ℕ) (after : Answer Value → Outcome) → HandedCode code layout ts e (ExprCode code layout p None scope e) from to free r → HasLocals scope ls layout free old → IsGood code a sh → IsSeen a after → GoesHanded N K a after ls ts to free r old → Does N K a sh text ls from old (λ s. after (expr p call e s))
  handed_follows scope [] e ih N K from to free r a sh text ls old after c h good s go =
      ih N K from to free r c.0 a sh text ls old after c.1 h good s (λ v sh1 text1 rs1 d. go v sh1 text1 rs1 d.here d.keeps d.good)
  handed_follows scope (t ∷ ts) e ih N K from to free r a sh text ls old after c h good s go =
      due_follows None scope e ih t N K from to free r c.0 a sh text ls old after c.1 h good s (λ v sh1 text1 rs1 d. go v sh1 text1 rs1 d.here d.keeps d.good)

  -- after the arguments
  abbrev pub GoesArgs : ℕ → ℕ → (a : Around) → (Answer (List Value) → Outcome) → List Local → List Scalar → (to free : ℕ) → (args old : List ℕ) → Type 0
  GoesArgs N K a after ls ts to free args old =
      (vs : List Value) (sh : Shared) (text : List ℕ) (new : List ℕ) → map (slice_index new) args ≡ handed ts vs → Keeps layout None free old new → IsGood code a sh →
      Agrees (effect code) N K (sequential_state a sh text (configuration code to new frames)) (λ n. after (Gives vs (state n ls (context_of a sh) text)))

  module _ (cf : CallsFollow) (are : HasCellsOf code p) where
    mutual
      pub expr_follows : (home : Option ℕ) (scope : LocalScope) (e : Expr) (N K from to free r : ℕ) (t : Scalar) (a : Around) (sh : Shared) (text : List ℕ) (ls : List Local) (old : List ℕ) (after : Answer Value → Outcome) → Follows home scope e N K from to free r t a sh text ls old after
      expr_follows home scope (Variable x) N K from to free r t a sh text ls old after c h good s go =
          same (effect code) (λ n. after (go_on (lvalue_in (newest scope x.text) (global_of p x.text) (state n ls (context_of a sh) text)) fetch))
          (λ n. ap (λ o. after (go_on (lvalue_from p call x.text o (state n ls (context_of a sh) text)) fetch)) (newest_like x.text scope ls h.like) ∙ ap (λ y. after (go_on y fetch)) (lvalue_from_is x.text (newest scope x.text) (state n ls (context_of a sh) text)))
          (variable_runs home (newest scope x.text) (global_of p x.text) scope from to free r t c (newest_known scope x.text) (are x.text) a sh text ls old after h good s go)
      expr_follows home scope (Constant n u at) N K from to free r t a sh text ls old after c h good s go =
          sets (Instr.Constant r (word_of u (pos n))) u a sh text ls after from to home free r (word_of u (pos n)) t old old c refl h.size_is (word_below u (pos n)) (keeps_all layout home free old) good go
      expr_follows home scope (Element x i at) N K from to free r t a sh text ls old after c h good s go =
          element_follows home (global_of p x.text) scope i (expr_follows None scope i) N K from to free r t a sh text ls old after c (are x.text) h good s go
      expr_follows home scope (Call f es at) N K from to free r t a sh text ls old after c h good s go =
          let rest : List Value → Action Value = λ vs. tick >> call f.text vs in
          args_follow scope (map (λ q. q.ty) c.f.parameters) es N K from c.mid free c.registers_of a sh text ls old (λ q. after (go_on q rest)) c.gives_args h good (on_seen a after rest s)
          (λ vs sh1 text1 rs1 words keeps good1.
          tick_goes code a after (call f.text vs) sh1 ls text1 (configuration code c.mid rs1 frames) s
          (cf N K f.text vs c.number c.mid r c.registers_of c.function c.f c.body a sh1 text1 ls rs1 after c.calls.instr c.known c.named c.defined words good1 s
          (λ v sh2 text2 of_v below_v good2.
          go_at a after ls to (suc c.mid) home free r t (unwrap_or c.f.result Int) old c.calls.to_is c.calls.type_is go v sh2 text2 (slice_set rs1 r v.word)
          (record { typed_so = of_v; word = below_v; here = get_or-set_same rs1 r v.word 0 (let b = c.calls.register in let len = keeps.size ∙ h.size_is in omega (arith, b, len)); keeps = keeps_set layout home free old rs1 r v.word c.calls.takes c.calls.register (keeps_more layout home free old rs1 keeps); good = good2 }))))
      expr_follows home scope (Parenthesized e at) N K from to free r t a sh text ls old after c h good s go = expr_follows home scope e N K from to free r t a sh text ls old after c h good s go
      expr_follows home scope (Cast u e at) N K from to free r t a sh text ls old after c h good s go =
          let rest : Value → Action Value = λ v. pure (value_in_type u v) in
          due_follows home scope e (expr_follows home scope e) u N K from to free r c.1.0 a sh text ls old (λ q. after (go_on q rest)) c.1.1 h good (on_seen a after rest s)
          (λ v sh1 text1 rs1 d.
          go_at a after ls to to home free r t u old refl c.0 go (value_in_type u v) sh1 text1 rs1
          (record { typed_so = refl; word = word_below u (number_of v); here = d.here; keeps = d.keeps; good = d.good }))
      expr_follows home scope (Unary Negate e at) N K from to free r t a sh text ls old after c h good s go =
          let rest : Value → Action Value = λ v. or_trap (unary Negate v) in
          let negated : Scalar → ℕ → Result ℕ Trap = λ o w. fit_result o (neg_ℤ (number o w)) in
          expr_follows None scope e N K from c.mid free c.ra c.ta a sh text ls old (λ q. after (go_on q rest)) c.computes h good (on_seen a after rest s)
          (λ v sh1 text1 rs1 d.
          same (effect code) (λ n. after (or_trap (typed_result c.ta (negated c.ta (slice_index rs1 c.ra))) (state n ls (context_of a sh1) text1)))
          (λ n. ap (λ x. after (or_trap x (state n ls (context_of a sh1) text1))) (ap (λ o. typed_result o (negated o v.word)) d.typed_so ∙ ap (λ w. typed_result c.ta (negated c.ta w)) (sym d.here)))
          (results (Instr.Negate c.ta r c.ra) c.ta a sh1 text1 ls after c.mid to home free r t old rs1 (negated c.ta (slice_index rs1 c.ra)) c.operates refl (fitted_below c.ta _) (d.keeps.size ∙ h.size_is) (keeps_more layout home free old rs1 d.keeps) d.good s go))
      expr_follows home scope (Unary Keep e at) N K from to free r t a sh text ls old after c h good s go =
          let rest : Value → Action Value = λ v. or_trap (unary Keep v) in
          expr_follows home scope e N K from to free r t a sh text ls old (λ q. after (go_on q rest)) c h good (on_seen a after rest s) go
      expr_follows home scope (Unary Not e at) N K from to free r t a sh text ls old after c h good s go =
          let rest : Value → Action Value = λ v. or_trap (unary Not v) in
          expr_follows None scope e N K from c.mid free c.ra c.ta a sh text ls old (λ q. after (go_on q rest)) c.computes h good (on_seen a after rest s)
          (λ v sh1 text1 rs1 d.
          let len : length rs1 ≡ registers_in layout = d.keeps.size ∙ h.size_is in
          let rs2 : List ℕ = slice_set rs1 c.rz 0 in
          let zero_there : slice_index rs2 c.rz ≡ 0 = get_or-set_same rs1 c.rz 0 0 (let b = c.zeroes.register in omega (arith, b, len)) in
          let value_there : slice_index rs2 c.ra ≡ v.word = get_or-set_other rs1 c.rz c.ra 0 0 (λ e. let x = c.apart in absurd (omega (arith, x, e))) ∙ d.here in
          goes_by code a sh1 text1 (configuration code c.mid rs1 frames) (configuration code (suc c.mid) rs2 frames) (effect_at code c.mid (Instr.Constant c.rz 0) rs1 frames c.zeroes.instr)
          (same (effect code) (λ n. after (or_trap (typed_result Int (operation_result Equal Int (slice_index rs2 c.ra) (slice_index rs2 c.rz))) (state n ls (context_of a sh1) text1)))
          (λ n. ap (λ x. after (or_trap (typed_result Int (Ok x)) (state n ls (context_of a sh1) text1))) (ap (λ x. truth (x == 0)) (sym value_there) ∙ ap (λ y. truth (slice_index rs2 c.ra == y)) (sym zero_there)))
          (results (Instr.Compute Equal Unsigned r c.ra c.rz) Int a sh1 text1 ls after (suc c.mid) to home free r t old rs2 (operation_result Equal Int (slice_index rs2 c.ra) (slice_index rs2 c.rz)) c.compares refl (truth_below _) (length-set rs1 c.rz 0 ∙ len) (keeps_more layout home free old rs2 (keeps_set layout None free old rs1 c.rz 0 c.zeroes.takes c.zeroes.register d.keeps)) d.good s go)))
      expr_follows home scope (Unary Complement e at) N K from to free r t a sh text ls old after c h good s go =
          let rest : Value → Action Value = λ v. or_trap (unary Complement v) in
          expr_follows None scope e N K from c.mid free c.ra c.ta a sh text ls old (λ q. after (go_on q rest)) c.computes h good (on_seen a after rest s)
          (λ v sh1 text1 rs1 d.
          same (effect code) (λ n. after (Gives (record { ty = c.ta; word = bitwise_complement c.ta (slice_index rs1 c.ra) }) (state n ls (context_of a sh1) text1)))
          (λ n. ap (λ x. after (Gives x (state n ls (context_of a sh1) text1))) (ap (λ o. record { ty = o; word = bitwise_complement o v.word }) d.typed_so ∙ ap (λ w. record { ty = c.ta; word = bitwise_complement c.ta w }) (sym d.here)))
          (sets (complementing c.ta r c.ra) c.ta a sh1 text1 ls after c.mid to home free r (bitwise_complement c.ta (slice_index rs1 c.ra)) t old rs1 c.operates (complementing_does code c.ta (configuration code c.mid rs1 frames) r c.ra) (d.keeps.size ∙ h.size_is) (complement_below c.ta (slice_index rs1 c.ra)) (keeps_more layout home free old rs1 d.keeps) d.good go))
      expr_follows home scope (Binary op x y at) N K from to free r t a sh text ls old after c h good s go =
          let rest : Value → Action Value = λ v. expr p call y >>= λ w. or_trap (binary op v w) in
          operand_follows scope x (expr_follows None scope x) (operand_type op c.ta c.tb) N K from c.mid free c.ra c.ta a sh text ls old (λ q. after (go_on q rest)) c.left h good (on_seen a after rest s)
          (λ v sh1 text1 rs1 d.
          let rest1 : Value → Action Value = λ w. or_trap (binary op v w) in
          operand_follows scope y (expr_follows None scope y) (operand_type op c.tb c.ta) N K c.mid c.last c.later c.rb c.tb a sh1 text1 ls rs1 (λ q. after (go_on q rest1)) c.right (has_locals_on scope ls layout free c.later old rs1 c.is_above h d.keeps) d.good (on_seen a after rest1 s)
          (λ w sh2 text2 rs2 e.
          let keeps : Keeps layout None free old rs2 = keeps_on layout None free c.later old rs1 rs2 c.is_above d.keeps e.keeps in
          operates op v w c.ta c.tb c.ra c.rb a sh2 text2 ls after c.last to home free r t old rs2 d.typed_so e.typed_so (unchanged_at layout c.later c.ra rs1 rs2 c.apart e.keeps ∙ d.here) e.here c.operates (keeps.size ∙ h.size_is) (keeps_more layout home free old rs2 keeps) e.good s go))
      expr_follows home scope (Logical AndThen x y at) N K from to free r t a sh text ls old after c h good s go =
          truth_follows home scope (expr p call x >>= λ v. (if is_zero v then pure v else expr p call y) >>= tested)
          (BothHold code layout (Branches code layout (ExprCode code layout p None scope x) (OwnTests code layout p scope x)) (Branches code layout (ExprCode code layout p None scope y) (OwnTests code layout p scope y)))
          (both_follow scope (expr p call x) (expr p call y) _ _ (branches_follow scope x _ (expr_follows None scope x) (own_follows scope x)) (branches_follow scope y _ (expr_follows None scope y) (own_follows scope y)))
          N K from to free r t a sh text ls old after c h good s go
      expr_follows home scope (Logical OrElse x y at) N K from to free r t a sh text ls old after c h good s go =
          truth_follows home scope (expr p call x >>= λ v. (if is_zero v then expr p call y else pure v) >>= tested)
          (EitherHolds code layout (Branches code layout (ExprCode code layout p None scope x) (OwnTests code layout p scope x)) (Branches code layout (ExprCode code layout p None scope y) (OwnTests code layout p scope y)))
          (either_follows scope (expr p call x) (expr p call y) _ _ (branches_follow scope x _ (expr_follows None scope x) (own_follows scope x)) (branches_follow scope y _ (expr_follows None scope y) (own_follows scope y)))
          N K from to free r t a sh text ls old after c h good s go
      expr_follows home scope (Conditional b x y at) N K from to free r t a sh text ls old after c h good s go =
          conditional_follows home (Conditional b x y at) scope (expr p call b) x y (Branches code layout (ExprCode code layout p None scope b) (OwnTests code layout p scope b))
          (branches_follow scope b _ (expr_follows None scope b) (own_follows scope b)) (λ k. expr_follows k scope x) (λ k. expr_follows k scope y)
          N K from to free r t a sh text ls old after c.0 (c.1 ls h.like) h good s go
      expr_follows home scope (InTransaction mode keyword e at) N K from to free r t a sh text ls old after c h good s go =
          value_transaction_follows mode home scope e (expr_follows home scope e) N K from to free r t a sh text ls old after c h good s go

      -- conditions that lead on by themselves
      pub own_follows : (scope : LocalScope) (e : Expr) → OwnFollows scope (expr p call e) (OwnTests code layout p scope e)
      own_follows scope (Parenthesized e at) N K from true_exit false_exit free a sh text ls old after c h good s go =
          own_follows scope e N K from true_exit false_exit free a sh text ls old after c h good s go
      own_follows scope (Cast u e at) N K from true_exit false_exit free a sh text ls old after c h good s go =
          let rest : Value → Action Value = λ v. pure (value_in_type u v) in
          own_follows scope e N K from true_exit false_exit free a sh text ls old (λ q. after (go_on q rest)) c h good (on_seen a after rest s)
          (λ t b sh1 text1 new k g.
          same (effect code) (λ n. after (Gives (record { ty = u; word = truth (not b) }) (state n ls (context_of a sh1) text1)))
          (λ n. ap (λ v. after (Gives v (state n ls (context_of a sh1) text1))) (truth_converted t u (not b)))
          (go u b sh1 text1 new k g))
      own_follows scope (Unary Keep e at) N K from true_exit false_exit free a sh text ls old after c h good s go =
          let rest : Value → Action Value = λ v. or_trap (unary Keep v) in
          own_follows scope e N K from true_exit false_exit free a sh text ls old (λ q. after (go_on q rest)) c h good (on_seen a after rest s) go
      own_follows scope (Unary Not e at) N K from true_exit false_exit free a sh text ls old after c h good s go =
          let rest : Value → Action Value = λ v. or_trap (unary Not v) in
          branches_follow scope e (OwnTests code layout p scope e) (expr_follows None scope e) (own_follows scope e) N K from false_exit true_exit free a sh text ls old (λ q. after (go_on q rest)) c h good (on_seen a after rest s)
          (goes_swapped a after ls true_exit false_exit free old rest (λ v s below. refl) (flag_of a after ls true_exit false_exit free old go))
      own_follows scope (Binary op x y at) N K from true_exit false_exit free a sh text ls old after c h good s go =
          compared_follows scope op x y (Branches code layout (ExprCode code layout p None scope x) (OwnTests code layout p scope x)) (branches_follow scope x _ (expr_follows None scope x) (own_follows scope x))
          N K from true_exit false_exit free a sh text ls old after c h good s (flag_of a after ls true_exit false_exit free old go)
      own_follows scope (Logical AndThen x y at) N K from true_exit false_exit free a sh text ls old after c h good s go =
          both_follow scope (expr p call x) (expr p call y) _ _ (branches_follow scope x _ (expr_follows None scope x) (own_follows scope x)) (branches_follow scope y _ (expr_follows None scope y) (own_follows scope y))
          N K from true_exit false_exit free a sh text ls old after c h good s (flag_of a after ls true_exit false_exit free old go)
      own_follows scope (Logical OrElse x y at) N K from true_exit false_exit free a sh text ls old after c h good s go =
          either_follows scope (expr p call x) (expr p call y) _ _ (branches_follow scope x _ (expr_follows None scope x) (own_follows scope x)) (branches_follow scope y _ (expr_follows None scope y) (own_follows scope y))
          N K from true_exit false_exit free a sh text ls old after c h good s (flag_of a after ls true_exit false_exit free old go)
      own_follows scope e N K from true_exit false_exit free a sh text ls old after c h good s go = absurd c

      pub args_follow : (scope : LocalScope) (ts : List Scalar) (es : Exprs) (N K from to free : ℕ) (args : List ℕ) (a : Around) (sh : Shared) (text : List ℕ) (ls : List Local) (old : List ℕ) (after : Answer (List Value) → Outcome) → ArgsCode code layout p scope ts es from to free args → HasLocals scope ls layout free old → IsGood code a sh → IsSeen a after → GoesArgs N K a after ls ts to free args old → Does N K a sh text ls from old (λ s. after (exprs p call es s))
      args_follow scope ts Exprs.[] N K from to free args a sh text ls old after c h good s go =
          subst (λ q. Agrees (effect code) N K (sequential_state a sh text (configuration code q old frames)) (λ n. after (Gives [] (state n ls (context_of a sh) text)))) c.0 (go [] sh text old (ap (map (slice_index old)) c.1) (keeps_all layout None free old) good)
      args_follow scope ts (Exprs.◌∷◌ e es) N K from to free args a sh text ls old after c h good s go =
          let rest : Value → Action (List Value) = λ v. exprs p call es >>= λ vs. pure (v ∷ vs) in
          handed_follows scope ts e (expr_follows None scope e) N K from c.last free c.r a sh text ls old (λ q. after (go_on q rest)) c.computes h good (on_seen a after rest s)
          (λ v sh1 text1 rs1 here keeps1 good1.
          let rest1 : List Value → Action (List Value) = λ vs. pure (v ∷ vs) in
          args_follow scope (types_left ts) es N K c.last to c.later c.others a sh1 text1 ls rs1 (λ q. after (go_on q rest1)) c.goes_on (has_locals_on scope ls layout free c.later old rs1 c.is_above h keeps1) good1 (on_seen a after rest1 s)
          (λ vs sh2 text2 rs2 words keeps good2.
          go (v ∷ vs) sh2 text2 rs2 (ap (map (slice_index rs2)) c.are ∙ ap (λ w. w ∷ map (slice_index rs2) c.others) (keeps.below c.r c.apart tt ∙ here) ∙ ap (λ ws. first_word ts v ∷ ws) words) (keeps_on layout None free c.later old rs1 rs2 c.is_above keeps1 keeps) good2))

    -- a condition's code
    pub cond_follows : (scope : LocalScope) (e : Expr) → BranchingFollows scope (expr p call e) (CondCode code layout p scope e)
    cond_follows scope e = branches_follow scope e (OwnTests code layout p scope e) (expr_follows None scope e) (own_follows scope e)
