-- The instructions of a statement do what the statement does.
use Rattle.std.proofs.Common.{◌≡◌, ◌≢◌, ℕ, suc, ◌+◌, ◌<◌, ◌≤◌, ◌%◌, Bool, true, false, List, length, Option, Some, None, refl, sym, ap, ◌∙◌, subst, arith, inl, inr, pos}
use Rattle.std.specs.Prelude.{slice_index, slice_set, if◌then◌else◌, nat_lt, unwrap_or}
use Rattle.std.proofs.lemmas.List.{get_or-set_same}
use Rattle.std.proofs.lemmas.Bool.{cases_eq}
use Rattle.std.proofs.Common.{◌⊎◌}
use Rattle.lex.specs.declared.token.Scalar.{Scalar}
use Rattle.lex.specs.declared.token.Scalar.TheVariants.{Int, LongLong}
use Rattle.syntax.specs.declared.tree.BinaryOp.{BinaryOp}
use Rattle.syntax.specs.Tree.{Expr, Variable, Constant, Element, Simple, Evaluate, Assign, Adjust, Program}
use Rattle.syntax.specs.declared.thread_end.Trap.TheVariants.{Index}
use Rattle.syntax.specs.declared.value.Value.{Value}
use Rattle.syntax.specs.Numbers.{modulus, residue, number_of, word_of, value_in_type, operand_type, binary, is_zero}
use Rattle.syntax.specs.Names.{Local, newest, word_at, with_word, global_of, cells, GlobalCells}
use Rattle.syntax.specs.Behaviours.{Outcome}
use Rattle.syntax.specs.Actions.{Inside, State, Answer, Gives, Action, pure, go_on, ◌>>=◌, ◌>>◌, trap, or_trap}
use Rattle.syntax.specs.Meaning.{Lvalue, InLocal, InCell, fetch, assign, Completion, Next, op_of, int_one, Caller, lvalue_from, expr, lvalue, assign_by_operator, assign_by, simple}
use Rattle.syntax.proofs.words.Words.{residue_below, word_below}
use Rattle.syntax.proofs.words.Memories.{written_memory}
use Rattle.bytecode.specs.Effects.{Effect}
use Rattle.bytecode.specs.Code.{Code, Frame, Instr, effect, effect_of, setting, bounds_of, word_for_cell}
use Rattle.lower_spec.specs.Expressions.{LocalScope, IsLike, InstructionAt, Layout, Due, widening, constant_in, ConvertedBy}
use Rattle.lower_spec.specs.Statements.{Target, LocalAt, CellAt, ElementOf, assigning, home_of, target_type, Spares, Coding, Testing, ValueCode, ResultCode, TestCode, VariableTarget, CheckedAt, UncheckedAt, TargetCode, ReadTarget, FetchCode, StoreCode, StoredCode, ExprStored, AssignCode, ChangeCode, Operating, OneCode, SimpleCode}
use Rattle.lower_spec.proofs.Conversions.{residue_same, cell_residue, truth_converted}
use Rattle.lower_spec.proofs.Agreement.{Agrees, astray, same}
use Rattle.lower_spec.proofs.Runs.{Around, Bare, Within, Shared, context_of, sequential_state, state, IsSeen, on_seen, IsBounded, AreBounded, KnownCells, HasCellsOf, IsGood, registers_in, HasLocals, Keeps, preloaded_stay, keeps_all, keeps_more, keeps_set, keeps_on, unchanged_at, has_locals_on, configuration, effect_at, goes_by, writes_by, traps}
use Rattle.lower_spec.proofs.Expressions.{CallsFollow, element_in, newest_like, GoesOn, GoesTaken, Does, Computed, set_on, comes, taken, reads, operates, lvalue_in, lvalue_from_is, word_comes, operand_follows, due_follows, expr_follows, cond_follows}
use Rattle.lower_spec.proofs.Locals.{TypeIs, word_typed, type_like, KnownLocal, newest_known, word_written, word_other, words_written, shape_written, length_like}

-- one local is written: the registers are as they were, but for its own
each_written : (ls : List Local) (rs : List ℕ) (i w j : ℕ) → (j ≡ i) ⊎ (j ≢ i) → i < length ls → slice_index rs i ≡ w → (j ≢ i → slice_index rs j ≡ word_at ls j) → slice_index rs j ≡ word_at (with_word ls i w) j
each_written ls rs i w j (inl e) d here each = ap (slice_index rs) e ∙ here ∙ sym (word_written ls i w d) ∙ ap (word_at (with_word ls i w)) (sym e)
each_written ls rs i w j (inr e) d here each = each e ∙ sym (word_other ls i j w e)

pub written_local : (scope : LocalScope) (ls : List Local) (old new : List ℕ) (layout : Layout) (later i w : ℕ) (t : Scalar) → i < length scope → TypeIs scope i t → length scope ≤ later → HasLocals scope ls layout (length scope) old → Keeps layout (Some i) later old new → slice_index new i ≡ w → w < modulus t → HasLocals scope (with_word ls i w) layout (length scope) new
written_local scope ls old new layout later i w t b type_is room h k here below =
    let len : length ls ≡ length scope = length_like scope ls h.like in
    let like : IsLike scope (with_word ls i w) = shape_written ls i w ∙ h.like in
    let len2 : length (with_word ls i w) ≡ length scope = length_like scope (with_word ls i w) like in
    let fits = h.fits in
    record {
      like = like;
      room = omega (arith, len2);
      fits = omega (arith, len2, len, fits);
      size_is = k.size ∙ h.size_is;
      each = λ j l. each_written ls new i w j (cases_eq j i) (omega (arith, b, len)) here (λ e. k.below j (omega (arith, l, len2, room)) e ∙ h.each j (omega (arith, l, len2, len)));
      words = words_written ls i w t (type_like scope ls i t h.like type_is) below h.words;
      preloaded = preloaded_stay layout (Some i) later old new h.preloaded k;
    }

-- the locals hold at the start of what the registers may be used for
pub lowered : (scope : LocalScope) (ls : List Local) (layout : Layout) (free : ℕ) (old new : List ℕ) → length scope ≤ free → HasLocals scope ls layout (length scope) old → Keeps layout None free old new → HasLocals scope ls layout (length scope) new
lowered scope ls layout free old new b h k =
    has_locals_on scope ls layout (length scope) (length scope) old new (omega arith) h (record { size = k.size; below = λ i c u. k.below i (omega (arith, c, b)) tt; behind = k.behind })

pub raised : (scope : LocalScope) (ls : List Local) (layout : Layout) (free : ℕ) (rs : List ℕ) → length scope ≤ free → HasLocals scope ls layout (length scope) rs → HasLocals scope ls layout free rs
raised scope ls layout free rs b h = has_locals_on scope ls layout (length scope) free rs rs b h (keeps_all layout None (length scope) rs)

-- what is there is not missing
IsMissing : Option ℕ → Type 0
IsMissing None = Unit {0}
IsMissing (Some r) = ⊥

missing : (r : ℕ) → None ≡ Some r → ⊥
unfolding IsMissing
missing r e = subst IsMissing e tt

module _ (p : Program) (call : Caller) (code : Code) (layout : Layout) (frames : List Frame) (cf : CallsFollow p call code layout frames) (are : HasCellsOf code p) where
  -- where a target stands
  abbrev pub IsAt : LocalScope → Target → List ℕ → Lvalue → Type 0
  IsAt scope (LocalAt l) rs at = (at ≡ InLocal l.0 l.1) × (l.0 < length scope) × TypeIs scope l.0 l.1
  IsAt scope (CellAt g) rs at = (at ≡ InCell g.cell g.global.ty) × AreBounded code g
  IsAt scope (ElementOf g ri) rs at = (at ≡ InCell (g.cell + slice_index rs ri) g.global.ty) × (nat_lt (slice_index rs ri) (cells g.global) ≡ true) × AreBounded code g

  at_unchanged : (scope : LocalScope) (tg : Target) (later : ℕ) (old new : List ℕ) (at : Lvalue) → Spares tg later → Keeps layout None later old new → IsAt scope tg old at → IsAt scope tg new at
  at_unchanged scope (LocalAt l) later old new at s k i = i
  at_unchanged scope (CellAt g) later old new at s k i = i
  at_unchanged scope (ElementOf g ri) later old new at s k i = (i.0 ∙ ap (λ w. InCell (g.cell + w) g.global.ty) (sym (k.below ri s tt)), ap (λ w. nat_lt w (cells g.global)) (k.below ri s tt) ∙ i.1, i.2)

  abbrev pub Goes : ℕ → ℕ → Around → Shared → List ℕ → List Local → ℕ → List ℕ → (State → Outcome) → Type 0
  Goes N K a sh text ls from registers does = Does p call code layout frames N K a sh text ls from registers does

  -- what gives an operand, and the code for it
  abbrev FollowTaken : LocalScope → Action Value → Due → Type 0
  FollowTaken scope run C =
      (u : Scalar) (N K from to free r : ℕ) (t : Scalar) (a : Around) (sh : Shared) (text : List ℕ) (ls : List Local) (old : List ℕ) (after : Answer Value → Outcome) →
      C u from to free r t → HasLocals scope ls layout free old → IsGood code a sh → IsSeen a after → GoesTaken p call code layout frames N K a after ls to None free r u t old → Goes N K a sh text ls from old (λ s. after (run s))

  -- after a simple statement
  abbrev pub GoesNext : ℕ → ℕ → (a : Around) → (Answer Completion → Outcome) → LocalScope → (to : ℕ) → Type 0
  GoesNext N K a after scope to =
      (sh : Shared) (text : List ℕ) (ls : List Local) (rs : List ℕ) → IsGood code a sh → HasLocals scope ls layout (length scope) rs →
      Goes N K a sh text ls to rs (λ s. after (Gives Next s))

  -- what lies in a register on its way to a target: the word of the value in the target's type, or for a cell one of which
  -- that is the residue
  abbrev pub Lies : Target → (w : ℕ) → Value → Type 0
  Lies (LocalAt l) w v = w ≡ (value_in_type l.1 v).word
  Lies (CellAt g) w v = residue g.global.ty w ≡ (value_in_type g.global.ty v).word
  Lies (ElementOf g ri) w v = residue g.global.ty w ≡ (value_in_type g.global.ty v).word

  stored_is : (cell : ℕ) (t : Scalar) (v : Value) (w : ℕ) → IsBounded code cell t → residue t w ≡ (value_in_type t v).word → (value_in_type t v).word ≡ word_for_cell code cell w
  stored_is cell t v w bounded e = sym e ∙ ap (λ n. w % n) (sym bounded)

  stored_below : (cell : ℕ) (t : Scalar) (w : ℕ) → IsBounded code cell t → word_for_cell code cell w < slice_index (bounds_of code) cell
  stored_below cell t w bounded = subst (λ n. w % n < n) (sym bounded) (residue_below t w)

  -- a cell is written
  cell_written : {N K : ℕ} (scope : LocalScope) (a : Around) (sh : Shared) (text : List ℕ) (ls : List Local) (after : Answer Completion → Outcome) (i : Instr) (q ra cell : ℕ) (t : Scalar) (rs : List ℕ) (v : Value) → InstructionAt code q i → effect_of code (configuration code q rs frames) (Some i) ≡ Effect.Write cell (word_for_cell code cell (slice_index rs ra)) (configuration code (suc q) rs frames) → IsBounded code cell t → residue t (slice_index rs ra) ≡ (value_in_type t v).word → HasLocals scope ls layout (length scope) rs → IsGood code a sh → IsSeen a after → GoesNext N K a after scope (suc q) → Goes N K a sh text ls q rs (λ s. after (go_on (assign (InCell cell t) v s) (λ u. pure Next)))
  cell_written scope Bare sh text ls after i q ra cell t rs v at e bounded here h g s go = astray (effect code) 0 (s.astray _)
  cell_written scope (Within k) sh text ls after i q ra cell t rs v at e bounded here h g s go =
      let w : ℕ = word_for_cell code cell (slice_index rs ra) in
      writes_by code k sh text (configuration code q rs frames) (configuration code (suc q) rs frames) cell w (effect_at code q i rs frames at ∙ e)
      (same (effect code) (λ n. after (Gives Next (state n ls (Inside k.mode (slice_set sh.memory cell w)) text)))
      (λ n. ap (λ x. after (Gives Next (state n ls (Inside k.mode (slice_set sh.memory cell x)) text))) (stored_is cell t v (slice_index rs ra) bounded here))
      (go (record sh { memory = slice_set sh.memory cell w }) text ls rs (written_memory (bounds_of code) sh.memory cell w (stored_below cell t (slice_index rs ra) bounded) g.0, g.1, g.2) h))

  -- a target is written
  assigns : {N K : ℕ} (tg : Target) (at : Lvalue) (scope : LocalScope) (later : ℕ) (a : Around) (sh : Shared) (text : List ℕ) (ls : List Local) (after : Answer Completion → Outcome) (q ra : ℕ) (old rs : List ℕ) (v : Value) → length scope ≤ later → IsAt scope tg old at → Spares tg later → InstructionAt code q (assigning tg ra) → Keeps layout (home_of tg) later old rs → Lies tg (slice_index rs ra) v → HasLocals scope ls layout (length scope) old → IsGood code a sh → IsSeen a after → GoesNext N K a after scope (suc q) → Goes N K a sh text ls q rs (λ s. after (go_on (assign at v s) (λ u. pure Next)))
  assigns (LocalAt l) at scope later a sh text ls after q ra old rs v room is_at sp i k here h g s go =
      let w : ℕ = slice_index rs ra in
      let len : length ls ≡ length scope = length_like scope ls h.like in
      let in_scope = is_at.1 in
      let fits = h.fits in
      let size_is = k.size ∙ h.size_is in
      same (effect code) (λ n. after (Gives Next (state n (with_word ls l.0 w) (context_of a sh) text)))
      (λ n. ap (λ x. after (go_on (assign x v (state n ls (context_of a sh) text)) (λ u. pure Next))) is_at.0 ∙ ap (λ x. after (Gives Next (state n (with_word ls l.0 x) (context_of a sh) text))) (sym here))
      (goes_by code a sh text (configuration code q rs frames) (configuration code (suc q) (slice_set rs l.0 w) frames) (effect_at code q (Instr.Move l.0 ra) rs frames i)
      (go sh text (with_word ls l.0 w) (slice_set rs l.0 w) g
      (written_local scope ls old (slice_set rs l.0 w) layout later l.0 w l.1 is_at.1 is_at.2 room h (keeps_set layout (Some l.0) later old rs l.0 w (inr refl) (omega (arith, in_scope, len, fits)) k) (get_or-set_same rs l.0 w 0 (omega (arith, in_scope, len, fits, size_is))) (subst (λ x. x < modulus l.1) (sym here) (word_below l.1 (number_of v))))))
  assigns (CellAt c) at scope later a sh text ls after q ra old rs v room is_at sp i k here h g s go =
      same (effect code) (λ n. after (go_on (assign (InCell c.cell c.global.ty) v (state n ls (context_of a sh) text)) (λ u. pure Next)))
      (λ n. ap (λ x. after (go_on (assign x v (state n ls (context_of a sh) text)) (λ u. pure Next))) is_at.0)
      (cell_written scope a sh text ls after (Instr.Write c.cell ra) q ra c.cell c.global.ty rs v i refl is_at.1.0 here (lowered scope ls layout later old rs room h k) g s go)
  assigns (ElementOf c ri) at scope later a sh text ls after q ra old rs v room is_at0 sp i k here h g s go =
      let is_at : IsAt scope (ElementOf c ri) rs at = at_unchanged scope (ElementOf c ri) later old rs at sp k is_at0 in
      same (effect code) (λ n. after (go_on (assign (InCell (c.cell + slice_index rs ri) c.global.ty) v (state n ls (context_of a sh) text)) (λ u. pure Next)))
      (λ n. ap (λ x. after (go_on (assign x v (state n ls (context_of a sh) text)) (λ u. pure Next))) is_at.0)
      (cell_written scope a sh text ls after (Instr.WriteAt c.cell (cells c.global) ri ra) q ra (c.cell + slice_index rs ri) c.global.ty rs v i
      (ap (λ b. if b then Effect.Write (c.cell + slice_index rs ri) (word_for_cell code (c.cell + slice_index rs ri) (slice_index rs ra)) (configuration code (suc q) rs frames) else Effect.Traps Index) is_at.1)
      (is_at.2.1 (slice_index rs ri) is_at.1) here (lowered scope ls layout later old rs room h k) g s go)

  -- a value goes to its target, or lies there already
  stored_at : {N K : ℕ} (tg : Target) (at : Lvalue) (scope : LocalScope) (later : ℕ) (a : Around) (sh : Shared) (text : List ℕ) (ls : List Local) (after : Answer Completion → Outcome) (q to ra : ℕ) (old rs : List ℕ) (v : Value) → length scope ≤ later → IsAt scope tg old at → Spares tg later → StoreCode code layout p tg ra q to → Keeps layout (home_of tg) later old rs → Lies tg (slice_index rs ra) v → HasLocals scope ls layout (length scope) old → IsGood code a sh → IsSeen a after → GoesNext N K a after scope to → Goes N K a sh text ls q rs (λ s. after (go_on (assign at v s) (λ u. pure Next)))
  stored_at {N = N} {K = K} tg at scope later a sh text ls after q to ra old rs v room is_at sp (inl c) k here h g s go =
      assigns tg at scope later a sh text ls after q ra old rs v room is_at sp c.1 k here h g s (subst (λ x. GoesNext N K a after scope x) c.0 go)
  stored_at {N = N} {K = K} (LocalAt l) at scope later a sh text ls after q to ra old rs v room is_at sp (inr c) k here h g s go =
      let same_register : l.0 ≡ ra = ap (λ o. unwrap_or o 0) c.1 in
      let w : ℕ = slice_index rs ra in
      same (effect code) (λ n. after (Gives Next (state n (with_word ls l.0 w) (context_of a sh) text)))
      (λ n. ap (λ x. after (go_on (assign x v (state n ls (context_of a sh) text)) (λ u. pure Next))) is_at.0 ∙ ap (λ x. after (Gives Next (state n (with_word ls l.0 x) (context_of a sh) text))) (sym here))
      (subst (λ x. GoesNext N K a after scope x) c.0 go sh text (with_word ls l.0 w) rs g
      (written_local scope ls old rs layout later l.0 w l.1 is_at.1 is_at.2 room h k (ap (slice_index rs) same_register) (subst (λ x. x < modulus l.1) (sym here) (word_below l.1 (number_of v)))))
  stored_at (CellAt g0) at scope later a sh text ls after q to ra old rs v room is_at sp (inr c) k here h g s go = absurd (missing ra c.1)
  stored_at (ElementOf g0 ri) at scope later a sh text ls after q to ra old rs v room is_at sp (inr c) k here h g s go = absurd (missing ra c.1)

  -- a conversion of a value that goes to a cell
  widens : {N K : ℕ} (x t : Scalar) (v : Value) (a : Around) (sh : Shared) (text : List ℕ) (does : ℕ → Outcome) (q to : ℕ) (free ra r : ℕ) (old rs : List ℕ) → ConvertedBy code layout (widening x t) None t ra q to free r → Computed p call code layout frames a x ra None free old v sh rs → length rs ≡ registers_in layout → ((new : List ℕ) → residue t (slice_index new r) ≡ (value_in_type t v).word → Keeps layout None free old new → Agrees (effect code) N K (sequential_state a sh text (configuration code to new frames)) does) → Agrees (effect code) N K (sequential_state a sh text (configuration code q rs frames)) does
  widens Int LongLong v a sh text does q to free ra r old rs c d len go =
      comes p call code layout frames Int LongLong v a sh text does q to None free ra r old rs c d len
      (λ new here keeps. go new (ap (residue LongLong) here ∙ residue_same LongLong (value_in_type LongLong v).word (word_below LongLong (number_of v))) keeps)
  widens {N = N} {K = K} x t v a sh text does q to free ra r old rs c d len go =
      let below : v.word < modulus x = subst (λ o. v.word < modulus o) d.typed_so d.word in
      let there : slice_index rs r ≡ v.word = ap (slice_index rs) c.1 ∙ d.here in
      subst (λ y. Agrees (effect code) N K (sequential_state a sh text (configuration code y rs frames)) does) c.0
      (go rs (ap (residue t) there ∙ sym (cell_residue x t v.word below tt) ∙ ap (λ o. word_of t (number_of (record { ty = o; word = v.word }))) (sym d.typed_so)) d.keeps)

  -- a value in a register goes to its target, once it is converted
  pub stores : {N K : ℕ} (tg : Target) (at : Lvalue) (scope : LocalScope) (later : ℕ) (a : Around) (sh : Shared) (text : List ℕ) (ls : List Local) (after : Answer Completion → Outcome) (q to ra : ℕ) (t : Scalar) (old rs : List ℕ) (v : Value) → length scope ≤ later → IsAt scope tg old at → Spares tg later → StoredCode code layout p tg t ra q to later → Computed p call code layout frames a t ra (home_of tg) later old v sh rs → length rs ≡ registers_in layout → HasLocals scope ls layout (length scope) old → IsSeen a after → GoesNext N K a after scope to → Goes N K a sh text ls q rs (λ s. after (go_on (assign at v s) (λ u. pure Next)))
  stores (LocalAt l) at scope later a sh text ls after q to ra t old rs v room is_at sp c d len h s go =
      comes p call code layout frames t l.1 v a sh text (λ n. after (go_on (assign at v (state n ls (context_of a sh) text)) (λ u. pure Next))) q c.mid (Some l.0) later ra c.r old rs c.converts d len
      (λ new here keeps. stored_at (LocalAt l) at scope later a sh text ls after c.mid to c.r old new v room is_at sp c.stores keeps here h d.good s go)
  stores (CellAt g) at scope later a sh text ls after q to ra t old rs v room is_at sp c d len h s go =
      widens t g.global.ty v a sh text (λ n. after (go_on (assign at v (state n ls (context_of a sh) text)) (λ u. pure Next))) q c.mid later ra c.r old rs c.converts d len
      (λ new here keeps. stored_at (CellAt g) at scope later a sh text ls after c.mid to c.r old new v room is_at sp c.stores keeps here h d.good s go)
  stores (ElementOf g ri) at scope later a sh text ls after q to ra t old rs v room is_at sp c d len h s go =
      widens t g.global.ty v a sh text (λ n. after (go_on (assign at v (state n ls (context_of a sh) text)) (λ u. pure Next))) q c.mid later ra c.r old rs c.converts d len
      (λ new here keeps. stored_at (ElementOf g ri) at scope later a sh text ls after c.mid to c.r old new v room is_at sp c.stores keeps here h d.good s go)

  -- a constant's word lies at its target as it should
  constant_lies : (tg : Target) (x : Scalar) (n w : ℕ) → w ≡ constant_in (target_type tg) x n → Lies tg w (record { ty = x; word = word_of x (pos n) })
  constant_lies (LocalAt l) x n w e = e
  constant_lies (CellAt g) x n w e = ap (residue g.global.ty) e ∙ residue_same g.global.ty (constant_in g.global.ty x n) (word_below g.global.ty (number_of (record { ty = x; word = word_of x (pos n) })))
  constant_lies (ElementOf g ri) x n w e = ap (residue g.global.ty) e ∙ residue_same g.global.ty (constant_in g.global.ty x n) (word_below g.global.ty (number_of (record { ty = x; word = word_of x (pos n) })))

  -- an expression's value goes to its target, whatever follows
  pub expr_stores : {N K : ℕ} (e : Expr) (tg : Target) (at : Lvalue) (scope : LocalScope) (later : ℕ) (a : Around) (sh : Shared) (text : List ℕ) (ls : List Local) (after : Answer Completion → Outcome) (whole : Answer (Unit {0}) → Outcome) (from to : ℕ) (old : List ℕ) → ((v : Value) (s : State) → whole (assign at v s) ≡ after (go_on (assign at v s) (λ u. pure Next))) → length scope ≤ later → IsAt scope tg old at → Spares tg later → ExprStored code layout p scope tg e from to later → HasLocals scope ls layout (length scope) old → IsGood code a sh → IsSeen a after → IsSeen a whole → GoesNext N K a after scope to → Goes N K a sh text ls from old (λ s. whole (go_on (expr p call e s) (assign at)))
  expr_stores (Constant n x y) tg at scope later a sh text ls after whole from to old is room is_at sp c h g s s1 go =
      let v : Value = record { ty = x; word = word_of x (pos n) } in
      same (effect code) (λ m. after (go_on (assign at v (state m ls (context_of a sh) text)) (λ u. pure Next))) (λ m. is v (state m ls (context_of a sh) text))
      (set_on p call code layout frames (Instr.Constant c.r (constant_in (target_type tg) x n)) (constant_in (target_type tg) x n) (target_type tg) a sh text (λ m. after (go_on (assign at v (state m ls (context_of a sh) text)) (λ u. pure Next))) from c.mid (home_of tg) later c.r old old c.sets refl h.size_is (keeps_all layout (home_of tg) later old)
      (λ new here keeps. stored_at tg at scope later a sh text ls after c.mid to c.r old new v room is_at sp c.stores keeps (constant_lies tg x n (slice_index new c.r) here) h g s go))
  expr_stores {N = N} {K = K} e tg at scope later a sh text ls after whole from to old is room is_at sp c h g s s1 go =
      expr_follows p call code layout frames cf are (home_of tg) scope e N K from c.mid later c.r c.t a sh text ls old (λ q. whole (go_on q (assign at))) c.value (raised scope ls layout later old room h) g (on_seen a whole (assign at) s1)
      (λ v sh1 text1 rs1 d.
      same (effect code) (λ m. after (go_on (assign at v (state m ls (context_of a sh1) text1)) (λ u. pure Next))) (λ m. is v (state m ls (context_of a sh1) text1))
      (stores tg at scope later a sh1 text1 ls after c.mid to c.r c.t old rs1 v room is_at sp c.stores d (d.keeps.size ∙ h.size_is) h s go))

  -- the left side of an assignment
  abbrev GoesAt : ℕ → ℕ → (a : Around) → (Answer Lvalue → Outcome) → LocalScope → Target → List Local → (to : ℕ) → List ℕ → Type 0
  GoesAt N K a after scope tg ls to old =
      (at : Lvalue) (sh : Shared) (text : List ℕ) (rs : List ℕ) → IsAt scope tg rs at → HasLocals scope ls layout (length scope) rs → IsGood code a sh → Goes N K a sh text ls to rs (λ s. after (Gives at s))

  variable_lvalue : {N K : ℕ} (o : Option (ℕ × Scalar)) (g : Option GlobalCells) (scope : LocalScope) (tg : Target) (from to : ℕ) → to ≡ from → VariableTarget code layout p scope o g tg → KnownLocal scope o → KnownCells code g → (a : Around) (sh : Shared) (text : List ℕ) (ls : List Local) (old : List ℕ) (after : Answer Lvalue → Outcome) → HasLocals scope ls layout (length scope) old → IsGood code a sh → GoesAt N K a after scope tg ls to old → Goes N K a sh text ls from old (λ s. after (lvalue_in p call code layout frames o g s))
  variable_lvalue {N = N} {K = K} (Some l) g scope tg from to e c type_is known a sh text ls old after h good go =
      let go1 : GoesAt N K a after scope (LocalAt l) ls from old = subst (λ x. GoesAt N K a after scope x ls from old) c.1 (subst (λ x. GoesAt N K a after scope tg ls x old) e go) in
      go1 (InLocal l.0 l.1) sh text old (refl, c.0, type_is) h good
  variable_lvalue None None scope tg from to e c type_is known a sh text ls old after h good go = absurd c
  variable_lvalue {N = N} {K = K} None (Some g) scope tg from to e c type_is known a sh text ls old after h good go =
      let go1 : GoesAt N K a after scope (CellAt g) ls from old = subst (λ x. GoesAt N K a after scope x ls from old) c (subst (λ x. GoesAt N K a after scope tg ls x old) e go) in
      go1 (InCell g.cell g.global.ty) sh text old (refl, known) h good

  checked : {N K : ℕ} (g : GlobalCells) (ri : ℕ) (b : Bool) (k : Value) (scope : LocalScope) (tg : Target) (a : Around) (sh : Shared) (text : List ℕ) (ls : List Local) (after : Answer Lvalue → Outcome) (q to : ℕ) (old rs : List ℕ) → AreBounded code g → nat_lt k.word (cells g.global) ≡ b → slice_index rs ri ≡ k.word → InstructionAt code q (Instr.Check ri (cells g.global)) → to ≡ suc q → tg ≡ ElementOf g ri → HasLocals scope ls layout (length scope) rs → IsGood code a sh → IsSeen a after → GoesAt N K a after scope tg ls to old → Goes N K a sh text ls q rs (λ s. after ((if b then pure (InCell (g.cell + k.word) g.global.ty) else trap Index) s))
  checked {N = N} {K = K} g ri true k scope tg a sh text ls after q to old rs known e f i to_is tg_is h good s go =
      let go1 : GoesAt N K a after scope (ElementOf g ri) ls (suc q) old = subst (λ x. GoesAt N K a after scope x ls (suc q) old) tg_is (subst (λ x. GoesAt N K a after scope tg ls x old) to_is go) in
      goes_by code a sh text (configuration code q rs frames) (configuration code (suc q) rs frames)
      (effect_at code q (Instr.Check ri (cells g.global)) rs frames i
      ∙ ap (λ w. if nat_lt w (cells g.global) then Effect.Pure (configuration code (suc q) rs frames) else Effect.Traps Index) f
      ∙ ap (λ b. if b then Effect.Pure (configuration code (suc q) rs frames) else Effect.Traps Index) e)
      (go1 (InCell (g.cell + k.word) g.global.ty) sh text rs (ap (λ w. InCell (g.cell + w) g.global.ty) (sym f), ap (λ w. nat_lt w (cells g.global)) f ∙ e, known) h good)
  checked g ri false k scope tg a sh text ls after q to old rs known e f i to_is tg_is h good s go =
      traps code a after sh ls text (configuration code q rs frames) Index s
      (effect_at code q (Instr.Check ri (cells g.global)) rs frames i
      ∙ ap (λ w. if nat_lt w (cells g.global) then Effect.Pure (configuration code (suc q) rs frames) else Effect.Traps Index) f
      ∙ ap (λ b. if b then Effect.Pure (configuration code (suc q) rs frames) else Effect.Traps Index) e)

  element_lvalue : {N K : ℕ} (o : Option GlobalCells) (scope : LocalScope) (i : Expr) (tg : Target) (from to : ℕ) → CheckedAt code layout p o (Coding code layout p None scope i) from to (length scope) tg → KnownCells code o → (a : Around) (sh : Shared) (text : List ℕ) (ls : List Local) (old : List ℕ) (after : Answer Lvalue → Outcome) → HasLocals scope ls layout (length scope) old → IsGood code a sh → IsSeen a after → GoesAt N K a after scope tg ls to old → Goes N K a sh text ls from old (λ s. after (go_on (expr p call i s) (element_in o)))
  element_lvalue None scope i tg from to c known a sh text ls old after h good s go = absurd c
  element_lvalue {N = N} {K = K} (Some g) scope i tg from to c known a sh text ls old after h good s go =
      expr_follows p call code layout frames cf are None scope i N K from c.mid (length scope) c.ri c.ti a sh text ls old (λ q. after (go_on q (element_in (Some g)))) c.computes h good (on_seen a after (element_in (Some g)) s)
      (λ k sh1 text1 rs1 d. checked g c.ri (nat_lt k.word (cells g.global)) k scope tg a sh1 text1 ls after c.mid to old rs1 known refl d.here c.checks c.to_is c.target_is (lowered scope ls layout (length scope) old rs1 (omega arith) h d.keeps) d.good s go)

  lvalue_follows : {N K : ℕ} (scope : LocalScope) (e : Expr) (tg : Target) (from to : ℕ) → TargetCode code layout p scope e from to (length scope) tg → (a : Around) (sh : Shared) (text : List ℕ) (ls : List Local) (old : List ℕ) (after : Answer Lvalue → Outcome) → HasLocals scope ls layout (length scope) old → IsGood code a sh → IsSeen a after → GoesAt N K a after scope tg ls to old → Goes N K a sh text ls from old (λ s. after (lvalue p call e s))
  lvalue_follows scope (Variable x) tg from to c a sh text ls old after h good s go =
      same (effect code) (λ n. after (lvalue_in p call code layout frames (newest scope x.text) (global_of p x.text) (state n ls (context_of a sh) text)))
      (λ n. ap (λ o. after (lvalue_from p call x.text o (state n ls (context_of a sh) text))) (newest_like x.text scope ls h.like) ∙ ap after (lvalue_from_is p call code layout frames x.text (newest scope x.text) (state n ls (context_of a sh) text)))
      (variable_lvalue (newest scope x.text) (global_of p x.text) scope tg from to c.0 c.1 (newest_known scope x.text) (are x.text) a sh text ls old after h good go)
  lvalue_follows scope (Element x i at) tg from to c a sh text ls old after h good s go =
      element_lvalue (global_of p x.text) scope i tg from to c (are x.text) a sh text ls old after h good s go
  lvalue_follows scope e tg from to c a sh text ls old after h good s go = absurd c

  -- an element that is read at once, whose index the read checks
  unchecked : {N K : ℕ} (g : GlobalCells) (ri : ℕ) (b : Bool) (k : Value) (scope : LocalScope) (tg : Target) (a : Around) (sh : Shared) (text : List ℕ) (ls : List Local) (after : Answer Lvalue → Outcome) (q fetched free r : ℕ) (t : Scalar) (old rs : List ℕ) → AreBounded code g → nat_lt k.word (cells g.global) ≡ b → slice_index rs ri ≡ k.word → FetchCode code layout p (ElementOf g ri) q fetched free r t → tg ≡ ElementOf g ri → HasLocals scope ls layout (length scope) rs → IsGood code a sh → IsSeen a after → GoesAt N K a after scope tg ls q old → Goes N K a sh text ls q rs (λ s. after ((if b then pure (InCell (g.cell + k.word) g.global.ty) else trap Index) s))
  unchecked {N = N} {K = K} g ri true k scope tg a sh text ls after q fetched free r t old rs known e f c tg_is h good s go =
      let go1 : GoesAt N K a after scope (ElementOf g ri) ls q old = subst (λ x. GoesAt N K a after scope x ls q old) tg_is go in
      go1 (InCell (g.cell + k.word) g.global.ty) sh text rs (ap (λ w. InCell (g.cell + w) g.global.ty) (sym f), ap (λ w. nat_lt w (cells g.global)) f ∙ e, known) h good
  unchecked g ri false k scope tg a sh text ls after q fetched free r t old rs known e f c tg_is h good s go =
      traps code a after sh ls text (configuration code q rs frames) Index s
      (effect_at code q (Instr.ReadAt r g.cell (cells g.global) ri) rs frames c.instr
      ∙ ap (λ w. if nat_lt w (cells g.global) then Effect.Read (g.cell + w) (setting (configuration code q rs frames) r) else Effect.Traps Index) f
      ∙ ap (λ b. if b then Effect.Read (g.cell + k.word) (setting (configuration code q rs frames) r) else Effect.Traps Index) e)

  read_element : {N K : ℕ} (o : Option GlobalCells) (scope : LocalScope) (i : Expr) (tg : Target) (from to fetched free r : ℕ) (t : Scalar) → UncheckedAt code layout p o (Coding code layout p None scope i) from to (length scope) tg → FetchCode code layout p tg to fetched free r t → KnownCells code o → (a : Around) (sh : Shared) (text : List ℕ) (ls : List Local) (old : List ℕ) (after : Answer Lvalue → Outcome) → HasLocals scope ls layout (length scope) old → IsGood code a sh → IsSeen a after → GoesAt N K a after scope tg ls to old → Goes N K a sh text ls from old (λ s. after (go_on (expr p call i s) (element_in o)))
  read_element None scope i tg from to fetched free r t c d known a sh text ls old after h good s go = absurd c
  read_element {N = N} {K = K} (Some g) scope i tg from to fetched free r t c d known a sh text ls old after h good s go =
      expr_follows p call code layout frames cf are None scope i N K from to (length scope) c.ri c.ti a sh text ls old (λ q. after (go_on q (element_in (Some g)))) c.computes h good (on_seen a after (element_in (Some g)) s)
      (λ k sh1 text1 rs1 e. unchecked g c.ri (nat_lt k.word (cells g.global)) k scope tg a sh1 text1 ls after to fetched free r t old rs1 known refl e.here (subst (λ x. FetchCode code layout p x to fetched free r t) c.target_is d) c.target_is (lowered scope ls layout (length scope) old rs1 (omega arith) h e.keeps) e.good s go)

  read_follows : {N K : ℕ} (scope : LocalScope) (e : Expr) (tg : Target) (from to fetched free r : ℕ) (t : Scalar) → ReadTarget code layout p scope e from to (length scope) tg → FetchCode code layout p tg to fetched free r t → (a : Around) (sh : Shared) (text : List ℕ) (ls : List Local) (old : List ℕ) (after : Answer Lvalue → Outcome) → HasLocals scope ls layout (length scope) old → IsGood code a sh → IsSeen a after → GoesAt N K a after scope tg ls to old → Goes N K a sh text ls from old (λ s. after (lvalue p call e s))
  read_follows scope (Element x i at) tg from to fetched free r t c d a sh text ls old after h good s go =
      read_element (global_of p x.text) scope i tg from to fetched free r t c d (are x.text) a sh text ls old after h good s go
  read_follows scope e tg from to fetched free r t c d a sh text ls old after h good s go = absurd c

  -- the old value of a target
  fetch_follows : {N K : ℕ} (tg : Target) (at : Lvalue) (scope : LocalScope) (free : ℕ) (a : Around) (sh : Shared) (text : List ℕ) (ls : List Local) (after : Answer Value → Outcome) (from to r : ℕ) (t : Scalar) (old : List ℕ) → FetchCode code layout p tg from to free r t → IsAt scope tg old at → HasLocals scope ls layout free old → IsGood code a sh → IsSeen a after → GoesOn p call code layout frames N K a after ls to None free r t old → Goes N K a sh text ls from old (λ s. after (fetch at s))
  fetch_follows {N = N} {K = K} (LocalAt l) at scope free a sh text ls after from to r t old c i h good s go =
      let below : l.0 < length ls = subst (λ n. l.0 < n) (sym (length_like scope ls h.like)) i.1 in
      let go1 : GoesOn p call code layout frames N K a after ls from None free r l.1 old = subst (λ x. GoesOn p call code layout frames N K a after ls x None free r l.1 old) c.0 (subst (λ y. GoesOn p call code layout frames N K a after ls to None free r y old) c.2 go) in
      same (effect code) (λ n. after (Gives (record { ty = l.1; word = word_at ls l.0 }) (state n ls (context_of a sh) text)))
      (λ n. ap (λ x. after (fetch x (state n ls (context_of a sh) text))) i.0)
      (go1 (record { ty = l.1; word = word_at ls l.0 }) sh text old (record { typed_so = refl; word = word_typed ls l.0 l.1 (type_like scope ls l.0 l.1 h.like i.2) h.words; here = ap (slice_index old) c.1 ∙ h.each l.0 below; keeps = keeps_all layout None free old; good = good }))
  fetch_follows (CellAt g) at scope free a sh text ls after from to r t old c i h good s go =
      same (effect code) (λ n. after (fetch (InCell g.cell g.global.ty) (state n ls (context_of a sh) text))) (λ n. ap (λ x. after (fetch x (state n ls (context_of a sh) text))) i.0)
      (reads p call code layout frames (Instr.Read r g.cell) g.global.ty a sh text ls after from to None free r g.cell t old old c refl i.1.0 h.size_is (keeps_all layout None free old) good s go)
  fetch_follows (ElementOf g ri) at scope free a sh text ls after from to r t old c i h good s go =
      same (effect code) (λ n. after (fetch (InCell (g.cell + slice_index old ri) g.global.ty) (state n ls (context_of a sh) text))) (λ n. ap (λ x. after (fetch x (state n ls (context_of a sh) text))) i.0)
      (reads p call code layout frames (Instr.ReadAt r g.cell (cells g.global) ri) g.global.ty a sh text ls after from to None free r (g.cell + slice_index old ri) t old old c
      (ap (λ b. if b then Effect.Read (g.cell + slice_index old ri) (setting (configuration code from old frames) r) else Effect.Traps Index) i.1)
      (i.2.1 (slice_index old ri) i.1) h.size_is (keeps_all layout None free old) good s go)

  -- an assignment, and one with an operator
  abbrev ended : Action (Unit {0}) → Action Completion
  ended run = run >> pure Next

  assigned_follows : {N K : ℕ} (scope : LocalScope) (lhs e : Expr) (from to : ℕ) → AssignCode code layout p scope lhs e from to → (a : Around) (sh : Shared) (text : List ℕ) (ls : List Local) (old : List ℕ) (after : Answer Completion → Outcome) → HasLocals scope ls layout (length scope) old → IsGood code a sh → IsSeen a after → GoesNext N K a after scope to → Goes N K a sh text ls from old (λ s. after ((lvalue p call lhs >>= λ at. ended (assign_by p call at (expr p call e) None)) s))
  assigned_follows scope lhs e from to c a sh text ls old after h good s go =
      let rest : Lvalue → Action Completion = λ at. ended (assign_by p call at (expr p call e) None) in
      lvalue_follows scope lhs c.target from c.mid c.goes_to a sh text ls old (λ q. after (go_on q rest)) h good (on_seen a after rest s)
      (λ at sh1 text1 rs1 is_at h1 good1. expr_stores e c.target at scope c.later a sh1 text1 ls after (λ q. after (go_on q (λ u. pure Next))) c.mid to rs1 (λ v s1. refl) c.room is_at c.spares c.stores h1 good1 s (on_seen a after (λ u. pure Next) s) go)

  -- once the target is known
  changed_from : {N K : ℕ} (scope : LocalScope) (lhs : Expr) (op : BinaryOp) (by : Action Value) (C : Due) → FollowTaken scope by C → (from to : ℕ) (c : ChangeCode code layout p scope lhs op C from to) (at : Lvalue) (a : Around) (sh1 : Shared) (text1 : List ℕ) (ls : List Local) (rs1 : List ℕ) (after : Answer Completion → Outcome) → IsAt scope c.target rs1 at → HasLocals scope ls layout (length scope) rs1 → IsGood code a sh1 → IsSeen a after → GoesNext N K a after scope to → Goes N K a sh1 text1 ls c.mid rs1 (λ s. after (ended (assign_by_operator p call at by op) s))
  changed_from {N = N} {K = K} scope lhs op by C follow from to c at a sh1 text1 ls rs1 after is_at h1 good1 s go =
      let after1 : Answer (Unit {0}) → Outcome = λ q. after (go_on q (λ u. pure Next)) in
      let seen1 : IsSeen a after1 = on_seen a after (λ u. pure Next) s in
      let rest1 : Value → Action (Unit {0}) = λ o. by >>= λ v. or_trap (binary op o v) >>= assign at in
      let b = c.operates in
      fetch_follows c.target at scope c.later a sh1 text1 ls (λ q. after1 (go_on q rest1)) c.mid b.left.mid b.left.ra b.ta rs1 b.left.computes is_at (raised scope ls layout c.later rs1 c.room h1) good1 (on_seen a after1 rest1 seen1)
      (λ o sh2 text2 rs2 d.
      taken p call code layout frames (operand_type op b.ta b.tb) b.ta o a sh2 text2 ls (λ q. after1 (go_on q rest1)) b.left.mid b.mid None c.later b.left.ra b.ra rs1 rs2 b.left.converts d (d.keeps.size ∙ h1.size_is)
      (λ o1 sh3 text3 rs3 e.
      let rest2 : Value → Action (Unit {0}) = λ v. or_trap (binary op o1 v) >>= assign at in
      follow (operand_type op b.tb b.ta) N K b.mid b.last b.later b.rb b.tb a sh3 text3 ls rs3 (λ q. after1 (go_on q rest2)) b.right (has_locals_on scope ls layout c.later b.later rs1 rs3 b.is_above (raised scope ls layout c.later rs1 c.room h1) e.keeps) e.good (on_seen a after1 rest2 seen1)
      (λ v sh4 text4 rs4 f.
      let keeps : Keeps layout None c.later rs1 rs4 = keeps_on layout None c.later b.later rs1 rs3 rs4 b.is_above e.keeps f.keeps in
      operates p call code layout frames op o1 v b.ta b.tb b.ra b.rb a sh4 text4 ls (λ q. after1 (go_on q (assign at))) b.last c.done (home_of c.target) c.later c.r c.t rs1 rs4 e.typed_so f.typed_so (unchanged_at layout b.later b.ra rs3 rs4 b.apart f.keeps ∙ e.here) f.here b.operates (keeps.size ∙ h1.size_is) (keeps_more layout (home_of c.target) c.later rs1 rs4 keeps) f.good (on_seen a after1 (assign at) seen1)
      (λ new sh5 text5 rs5 g. stores c.target at scope c.later a sh5 text5 ls after c.done to c.r c.t rs1 rs5 new c.room is_at c.spares c.stores g (g.keeps.size ∙ h1.size_is) h1 s go))))

  changed_follows : {N K : ℕ} (scope : LocalScope) (lhs : Expr) (op : BinaryOp) (by : Action Value) (C : Due) → FollowTaken scope by C → (from to : ℕ) → ChangeCode code layout p scope lhs op C from to → (a : Around) (sh : Shared) (text : List ℕ) (ls : List Local) (old : List ℕ) (after : Answer Completion → Outcome) → HasLocals scope ls layout (length scope) old → IsGood code a sh → IsSeen a after → GoesNext N K a after scope to → Goes N K a sh text ls from old (λ s. after ((lvalue p call lhs >>= λ at. ended (assign_by_operator p call at by op)) s))
  changed_follows {N = N} {K = K} scope lhs op by C follow from to c a sh text ls old after h good s go = by_target c.goes_to
    where
      by_target : TargetCode code layout p scope lhs from c.mid (length scope) c.target ⊎ ReadTarget code layout p scope lhs from c.mid (length scope) c.target → Goes N K a sh text ls from old (λ s. after ((lvalue p call lhs >>= λ at. ended (assign_by_operator p call at by op)) s))
      by_target (inl d) =
          lvalue_follows scope lhs c.target from c.mid d a sh text ls old (λ q. after (go_on q (λ at. ended (assign_by_operator p call at by op)))) h good (on_seen a after (λ at. ended (assign_by_operator p call at by op)) s)
          (λ at sh1 text1 rs1 is_at h1 good1. changed_from scope lhs op by C follow from to c at a sh1 text1 ls rs1 after is_at h1 good1 s go)
      by_target (inr d) =
          read_follows scope lhs c.target from c.mid c.operates.left.mid c.later c.operates.left.ra c.operates.ta d c.operates.left.computes a sh text ls old (λ q. after (go_on q (λ at. ended (assign_by_operator p call at by op)))) h good (on_seen a after (λ at. ended (assign_by_operator p call at by op)) s)
          (λ at sh1 text1 rs1 is_at h1 good1. changed_from scope lhs op by C follow from to c at a sh1 text1 ls rs1 after is_at h1 good1 s go)

  one_follows : (scope : LocalScope) → FollowTaken scope (pure int_one) (OneCode code layout p)
  one_follows scope u N K from to free r t a sh text ls old after c h good s go =
      word_comes p call code layout frames 1 u a sh text scope ls (λ n. after (Gives int_one (state n ls (context_of a sh) text))) from to free r old c.1 h
      (λ new here keeps. go int_one sh text new (record { typed_so = sym c.0; here = here ∙ ap (λ (v : Value). v.word) (sym (truth_converted Int u true)); keeps = keeps; good = good }))

  operand_given : (scope : LocalScope) (e : Expr) → FollowTaken scope (expr p call e) (Operating code layout p scope e)
  operand_given scope e u N K from to free r t a sh text ls old after c h good s go =
      operand_follows p call code layout frames scope e (expr_follows p call code layout frames cf are None scope e) u N K from to free r t a sh text ls old after c h good s go

  -- a value somewhere above the locals
  abbrev pub GoesValue : ℕ → ℕ → (a : Around) → (Answer Value → Outcome) → LocalScope → List Local → (to r : ℕ) → Type 0
  GoesValue N K a after scope ls to r =
      (v : Value) (sh : Shared) (text : List ℕ) (rs : List ℕ) → v.word < modulus v.ty → slice_index rs r ≡ v.word → HasLocals scope ls layout (length scope) rs → IsGood code a sh → Goes N K a sh text ls to rs (λ s. after (Gives v s))

  pub value_follows : {N K : ℕ} (scope : LocalScope) (e : Expr) (from to r : ℕ) → ValueCode code layout p scope (Coding code layout p None scope e) from to r → (a : Around) (sh : Shared) (text : List ℕ) (ls : List Local) (old : List ℕ) (after : Answer Value → Outcome) → HasLocals scope ls layout (length scope) old → IsGood code a sh → IsSeen a after → GoesValue N K a after scope ls to r → Goes N K a sh text ls from old (λ s. after (expr p call e s))
  value_follows {N = N} {K = K} scope e from to r c a sh text ls old after h good s go =
      expr_follows p call code layout frames cf are None scope e N K from to c.free r c.t a sh text ls old after c.computes (raised scope ls layout c.free old c.room h) good s
      (λ v sh1 text1 rs1 d. go v sh1 text1 rs1 d.word d.here (lowered scope ls layout c.free old rs1 c.room h d.keeps) d.good)

  -- likewise in the type that is due
  abbrev pub GoesResult : ℕ → ℕ → (a : Around) → (Answer Value → Outcome) → LocalScope → List Local → (to r : ℕ) → Scalar → Type 0
  GoesResult N K a after scope ls to r u =
      (v : Value) (sh : Shared) (text : List ℕ) (rs : List ℕ) → slice_index rs r ≡ (value_in_type u v).word → HasLocals scope ls layout (length scope) rs → IsGood code a sh → Goes N K a sh text ls to rs (λ s. after (Gives v s))

  pub result_follows : {N K : ℕ} (scope : LocalScope) (u : Scalar) (e : Expr) (from to r : ℕ) → ResultCode code layout p scope u e from to r → (a : Around) (sh : Shared) (text : List ℕ) (ls : List Local) (old : List ℕ) (after : Answer Value → Outcome) → HasLocals scope ls layout (length scope) old → IsGood code a sh → IsSeen a after → GoesResult N K a after scope ls to r u → Goes N K a sh text ls from old (λ s. after (expr p call e s))
  result_follows {N = N} {K = K} scope u e from to r c a sh text ls old after h good s go =
      due_follows p call code layout frames None scope e (expr_follows p call code layout frames cf are None scope e) u N K from to c.free r c.computes.0 a sh text ls old after c.computes.1 (raised scope ls layout c.free old c.room h) good s
      (λ v sh1 text1 rs1 d. go v sh1 text1 rs1 d.here (lowered scope ls layout c.free old rs1 c.room h d.keeps) d.good)

  -- a condition, from its two places back to its beginning
  abbrev pub GoesTest : ℕ → ℕ → (a : Around) → (Answer Value → Outcome) → LocalScope → List Local → (true_exit false_exit : ℕ) → Type 0
  GoesTest N K a after scope ls true_exit false_exit =
      (v : Value) (b : Bool) (sh : Shared) (text : List ℕ) (rs : List ℕ) → is_zero v ≡ b → HasLocals scope ls layout (length scope) rs → IsGood code a sh → Goes N K a sh text ls (if b then false_exit else true_exit) rs (λ s. after (Gives v s))

  pub test_follows : {N K : ℕ} (scope : LocalScope) (e : Expr) (from true_exit false_exit : ℕ) → TestCode code layout p scope (Testing code layout p scope e) from true_exit false_exit → (a : Around) (sh : Shared) (text : List ℕ) (ls : List Local) (old : List ℕ) (after : Answer Value → Outcome) → HasLocals scope ls layout (length scope) old → IsGood code a sh → IsSeen a after → GoesTest N K a after scope ls true_exit false_exit → Goes N (suc K) a sh text ls from old (λ s. after (expr p call e s))
  test_follows {N = N} {K = K} scope e from true_exit false_exit c a sh text ls old after h good s go =
      cond_follows p call code layout frames cf are scope e N K from true_exit false_exit c.free a sh text ls old after c.leads (raised scope ls layout c.free old c.room h) good s
      (λ v b sh1 text1 rs1 z below k g. go v b sh1 text1 rs1 z (lowered scope ls layout c.free old rs1 c.room h k) g)

  pub simple_follows : {N K : ℕ} (scope : LocalScope) (st : Simple) (from to : ℕ) → SimpleCode code layout p scope st from to → (a : Around) (sh : Shared) (text : List ℕ) (ls : List Local) (old : List ℕ) (after : Answer Completion → Outcome) → HasLocals scope ls layout (length scope) old → IsGood code a sh → IsSeen a after → GoesNext N K a after scope to → Goes N K a sh text ls from old (λ s. after (simple p call st s))
  simple_follows scope (Evaluate e) from to c a sh text ls old after h good s go =
      value_follows scope e from to c.0 c.1 a sh text ls old (λ q. after (go_on q (λ v. pure Next))) h good (on_seen a after (λ v. pure Next) s)
      (λ v sh1 text1 rs1 b i h1 good1. go sh1 text1 ls rs1 good1 h1)
  simple_follows scope (Assign lhs None e) from to c a sh text ls old after h good s go =
      assigned_follows scope lhs e from to c a sh text ls old after h good s go
  simple_follows scope (Assign lhs (Some op) e) from to c a sh text ls old after h good s go =
      changed_follows scope lhs op (expr p call e) (Operating code layout p scope e) (operand_given scope e) from to c a sh text ls old after h good s go
  simple_follows scope (Adjust lhs by) from to c a sh text ls old after h good s go =
      changed_follows scope lhs (op_of by) (pure int_one) (OneCode code layout p) (one_follows scope) from to c a sh text ls old after h good s go
