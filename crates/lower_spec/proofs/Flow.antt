-- The instructions of a statement do what the statement does: control.
use Rattle.std.proofs.Common.{◌≡◌, ◌≢◌, ◌⊎◌, ℕ, zero, suc, ◌+◌, ◌<◌, ◌≤◌, Bool, true, false, List, [], ◌∷◌, ◌++◌, length, take, Option, Some, None, refl, sym, ap, ◌∙◌, subst, arith, inl, inr, append_assoc, append-nil}
use Rattle.std.specs.Prelude.{slice_index, slice_set, if◌then◌else◌, not}
use Rattle.std.proofs.lemmas.List.{get_or-set_same, get_or-set_other, length-set, length-append}
use Rattle.std.proofs.lemmas.Bool.{cases_eq}
use Rattle.lower_spec.proofs.Expressions.{CallsFollow, passes, leads}
use Rattle.lex.specs.declared.token.Scalar.{Scalar}
use Rattle.lex.specs.declared.token.Scalar.TheVariants.{Int}
use Rattle.syntax.specs.declared.tree.Mode.{Mode}
use Rattle.syntax.specs.declared.tree.Mode.TheVariants.{Atomic}
use Rattle.syntax.specs.declared.tree.TransactionKind.{TransactionKind}
use Rattle.syntax.specs.declared.tree.TransactionKind.TheVariants.{Plain, Outer}
use Rattle.syntax.specs.Tree.{Expr, Simple, Declarator, Start, Nothing, Declares, Does, Stmt, Stmts, Empty, Declare, Do, Block, Print, If, IfElse, While, DoWhile, For, Break, Continue, Return, Transaction, Cancel, CancelOuter, Program}
use Rattle.syntax.specs.declared.value.Value.{Value}
use Rattle.syntax.specs.declared.thread_end.Halt.TheVariants.{Wants, Astray}
use Rattle.syntax.specs.Numbers.{value_in_type, is_zero, flag}
use Rattle.syntax.specs.Names.{Local, word_at}
use Rattle.syntax.specs.Behaviours.{Memory, Outcome}
use Rattle.bytecode.specs.Sequential.{cancel_step}
use Rattle.lower_spec.proofs.Agreement.{quiet, Agrees, astray, same, fewer, none_left}
use Rattle.lower_spec.proofs.OuterCancels.{opened, OuterGoes, outer_as, outer_fewer, through_plain, through_bare, leaves_by, outer_follows}
use Rattle.syntax.specs.Actions.{Outside, Inside, Answer, Gives, Stops, Action, pure, stop, go_on, ◌>>=◌, ◌>>◌, tick, locals, put_locals, may_print}
use Rattle.syntax.specs.Meaning.{InLocal, Completion, Next, Breaks, Continues, Returns, Cancels, CancelsOuter, mode_of, on_next, in_scope, after_turn, loop, after_body, close_inner, close, leave, transaction, Caller, expr, simple, first_value, declare, for_condition, optional_step, start_with, stmt, stmts}
use Rattle.bytecode.specs.Code.{Code, Configuration, Frame, Instr, effect}
use Rattle.lower_spec.specs.Expressions.{LocalScope, IsLike, InstructionAt, LeadsTo, Layout}
use Rattle.lower_spec.specs.Statements.{LocalAt, Exits, with_level, in_transaction, looping, with_local, with_declared, locals_of_start, locals_after, Testing, Leaves, FirstValueCode, DeclareCode, IfCode, IfElseCode, WhileCode, DoWhileCode, HoldsCode, SteppedCode, StartCode, ForCode, TransactionCode, StmtCode, StmtsCode}
use Rattle.lower_spec.specs.inner.Locals.{locals_at_end}
use Rattle.lower_spec.proofs.Runs.{Enters, enters, Transactions, Around, Bare, Within, Shared, context_of, sequential_state, state, IsSeen, on_seen, HasCellsOf, AreMemories, IsGood, HasLocals, configuration, effect_at, goes, goes_by, seen_spent, tick_goes, tick_counts, with_inner, outermost_alone, begins_inner, begins_outermost, wants_one, commits_inner, cancels_inner, leaves_outermost, next_commit, next_cancel}
use Rattle.lower_spec.proofs.Conversions.{truth_converted}
use Rattle.lower_spec.proofs.Locals.{TypeIs, type_last, length_like, word_taken, words_taken, shape_taken, word_new, word_last, words_new, shape_new}
use Rattle.lower_spec.proofs.Statements.{Goes, GoesNext, GoesTest, expr_stores, result_follows, test_follows, simple_follows}
use Rattle.lower_spec.proofs.Prints.{print_rest, print_follows}
use Rattle.lower_spec.proofs.Turns.{while_turn, do_turn, for_turn, Falls}
use Rattle.syntax.proofs.running.Loops.{loop_is_its_turns}
use Rattle.syntax.proofs.words.Words.{some_below}

-- the registers hold what a scope knows, and further names declared in it
pub record HasMoreLocals (scope : LocalScope) (ls : List Local) (layout : Layout) (registers : List ℕ) : Type 0 where
  pub more : LocalScope
  pub locals : HasLocals (scope ++ more) ls layout (length (scope ++ more)) registers

abbrev pub ArrivalCondition : Type 1
ArrivalCondition = List Local → List ℕ → Type 0

-- the end of a scope
pub has_locals_taken : (scope more : LocalScope) (ls : List Local) (layout : Layout) (free : ℕ) (rs : List ℕ) → HasLocals (scope ++ more) ls layout free rs → HasLocals scope (take (length scope) ls) layout (length scope) rs
has_locals_taken scope more ls layout free rs h =
    let like : IsLike scope (take (length scope) ls) = shape_taken ls scope more h.like in
    let len : length (take (length scope) ls) ≡ length scope = length_like scope (take (length scope) ls) like in
    let whole : length ls ≡ length (scope ++ more) = length_like (scope ++ more) ls h.like in
    let parts : length (scope ++ more) ≡ length scope + length more = length-append scope more in
    let fits = h.fits in
    record {
      like = like;
      room = omega (arith, len);
      fits = omega (arith, len, whole, parts, fits);
      size_is = h.size_is;
      each = λ i l. h.each i (omega (arith, l, len, whole, parts)) ∙ sym (word_taken ls (length scope) i (omega (arith, l, len)));
      words = words_taken ls (length scope) h.words;
      preloaded = h.preloaded;
    }

pub declared_grows : (t : Scalar) (ds : List Declarator) (scope : LocalScope) → (more : LocalScope) × (with_declared t ds scope ≡ scope ++ more)
declared_grows t [] scope = ([], sym (append-nil scope))
declared_grows t (d ∷ ds) scope =
    let g = declared_grows t ds (with_local scope d.name.text t) in
    (record { name = d.name.text; ty = t; word = 0 } ∷ g.0, g.1 ∙ append_assoc scope (record { name = d.name.text; ty = t; word = 0 } ∷ []) g.0)

pub after_grows : (st : Stmt) (scope : LocalScope) → (more : LocalScope) × (locals_after st scope ≡ scope ++ more)
after_grows (Declare d) scope = declared_grows d.ty d.declarators scope
after_grows Empty scope = ([], sym (append-nil scope))
after_grows (Do s) scope = ([], sym (append-nil scope))
after_grows (Block ss) scope = ([], sym (append-nil scope))
after_grows (Print at f g es) scope = ([], sym (append-nil scope))
after_grows (If c a) scope = ([], sym (append-nil scope))
after_grows (IfElse c a b) scope = ([], sym (append-nil scope))
after_grows (While c a) scope = ([], sym (append-nil scope))
after_grows (DoWhile a c) scope = ([], sym (append-nil scope))
after_grows (For b c d a) scope = ([], sym (append-nil scope))
after_grows (Break at) scope = ([], sym (append-nil scope))
after_grows (Continue at) scope = ([], sym (append-nil scope))
after_grows (Return e at) scope = ([], sym (append-nil scope))
after_grows (Transaction m ss at) scope = ([], sym (append-nil scope))
after_grows (Cancel at) scope = ([], sym (append-nil scope))
after_grows (CancelOuter at) scope = ([], sym (append-nil scope))

pub end_grows : (ss : Stmts) (scope : LocalScope) → (more : LocalScope) × (locals_at_end ss scope ≡ scope ++ more)
end_grows Stmts.[] scope = ([], sym (append-nil scope))
end_grows (Stmts.◌∷◌ s ss) scope =
    let a = after_grows s scope in
    let b = end_grows ss (locals_after s scope) in
    (a.0 ++ b.0, b.1 ∙ ap (λ x. x ++ b.0) a.1 ∙ append_assoc scope a.0 b.0)

-- the word that a return gives
abbrev pub word_in : Option ℕ → List ℕ → ℕ
word_in None rs = 0
word_in (Some r) rs = slice_index rs r

module _ (p : Program) (code : Code) (layout : Layout) where
  -- how the code stands where a statement has come to its end: what its registers hold, and what is next
  abbrev pub ArrivedAt : Exits → (next others : ArrivalCondition) → (to : ℕ) → Completion → ℕ → List Local → List ℕ → Type 0
  ArrivedAt x after others to Next q ls rs = (q ≡ to) × after ls rs
  ArrivedAt x after others to Breaks q ls rs = Leaves code layout p q x.in_loop (Instr.Jump x.break_to) × others ls rs
  ArrivedAt x after others to Continues q ls rs = Leaves code layout p q x.in_loop (Instr.Jump x.continue_to) × others ls rs
  ArrivedAt x after others to (Returns v) q ls rs = (r : Option ℕ) × Leaves code layout p q x.in_function (Instr.Return r) × (word_in r rs ≡ (value_in_type x.gives v).word)
  ArrivedAt x after others to Cancels q ls rs = (x.innermost ≡ Some Atomic) × InstructionAt code q Instr.Cancel
  ArrivedAt x after others to CancelsOuter q ls rs = ⊥

  abbrev pub HereAt : LocalScope → ArrivalCondition
  HereAt scope ls rs = HasLocals scope ls layout (length scope) rs

  abbrev pub MoreAt : LocalScope → ArrivalCondition
  MoreAt scope ls rs = HasMoreLocals scope ls layout rs

module _ (p : Program) (call : Caller) (code : Code) (layout : Layout) (frames : List Frame) (cf : CallsFollow p call code layout frames) (are : HasCellsOf code p) where
  abbrev pub Arrived : Exits → (next others : ArrivalCondition) → (to : ℕ) → Completion → ℕ → List Local → List ℕ → Type 0
  Arrived x after others to end q ls rs = ArrivedAt p code layout x after others to end q ls rs

  abbrev pub Here : LocalScope → ArrivalCondition
  Here scope ls rs = HereAt p code layout scope ls rs

  abbrev pub More : LocalScope → ArrivalCondition
  More scope ls rs = MoreAt p code layout scope ls rs

  -- where control goes by the end: no place of the code is an outer cancel's, so that one is said by itself
  abbrev EndsGo : ℕ → ℕ → (a : Around) → (Answer Completion → Outcome) → Exits → (next others : ArrivalCondition) → (to : ℕ) → Type 0
  EndsGo N K a after x later others to =
      (end : Completion) (sh : Shared) (text : List ℕ) (ls : List Local) (rs : List ℕ) (q : ℕ) → IsGood code a sh → Arrived x later others to end q ls rs →
      Goes p call code layout frames cf are N K a sh text ls q rs (λ s. after (Gives end s))

  pub record GoesByCompletion (N K : ℕ) (a : Around) (after : Answer Completion → Outcome) (x : Exits) (later others : ArrivalCondition) (to : ℕ) : Type 0 where
    pub ends : EndsGo N K a after x later others to
    pub outer : OuterGoes code N K a after x.in_outer

  abbrev pub StmtFollows : Stmt → Type 0
  StmtFollows st =
      (N K : ℕ) (x : Exits) (scope : LocalScope) (from to : ℕ) (a : Around) (sh : Shared) (text : List ℕ) (ls : List Local) (old : List ℕ) (after : Answer Completion → Outcome) →
      StmtCode code layout p x scope st from to → Here scope ls old → IsGood code a sh → IsSeen a after →
      GoesByCompletion N K a after x (Here (locals_after st scope)) (Here scope) to → Goes p call code layout frames cf are N K a sh text ls from old (λ s. after (stmt p call st s))

  abbrev pub StmtsFollow : Stmts → Type 0
  StmtsFollow ss =
      (N K : ℕ) (x : Exits) (scope : LocalScope) (from to : ℕ) (a : Around) (sh : Shared) (text : List ℕ) (ls : List Local) (old : List ℕ) (after : Answer Completion → Outcome) →
      StmtsCode code layout p x scope ss from to → Here scope ls old → IsGood code a sh → IsSeen a after →
      GoesByCompletion N K a after x (Here (locals_at_end ss scope)) (More scope) to → Goes p call code layout frames cf are N K a sh text ls from old (λ s. after (stmts p call ss s))

  -- a scope ends
  closing : List Local → Completion → Action Completion
  closing outer end = locals >>= λ all. put_locals (take (length outer) all) >> pure end

  ends_scope : (x : Exits) (scope later : LocalScope) (end : Completion) (to q : ℕ) (ls : List Local) (rs : List ℕ) → (more : LocalScope) × (later ≡ scope ++ more) → Arrived x (Here later) (More scope) to end q ls rs → Arrived x (Here scope) (Here scope) to end q (take (length scope) ls) rs
  ends_scope x scope later Next to q ls rs g a = (a.0, has_locals_taken scope g.0 ls layout (length later) rs (subst (λ y. HasLocals y ls layout (length later) rs) g.1 a.1))
  ends_scope x scope later Breaks to q ls rs g a = (a.0, has_locals_taken scope a.1.more ls layout (length (scope ++ a.1.more)) rs a.1.locals)
  ends_scope x scope later Continues to q ls rs g a = (a.0, has_locals_taken scope a.1.more ls layout (length (scope ++ a.1.more)) rs a.1.locals)
  ends_scope x scope later (Returns v) to q ls rs g a = a
  ends_scope x scope later Cancels to q ls rs g a = a
  ends_scope x scope later CancelsOuter to q ls rs g a = a

  scope_goes : {N K : ℕ} (ss : Stmts) (x : Exits) (scope : LocalScope) (to : ℕ) (a : Around) (ls : List Local) (after : Answer Completion → Outcome) → length ls ≡ length scope → GoesByCompletion N K a after x (Here scope) (Here scope) to → GoesByCompletion N K a (λ q. after (go_on q (closing ls))) x (Here (locals_at_end ss scope)) (More scope) to
  unfolding closing
  scope_goes ss x scope to a ls after len go = record {
    ends = λ end sh1 text1 ls1 rs1 q good1 arrived.
        same (effect code) (λ n. after (Gives end (state n (take (length scope) ls1) (context_of a sh1) text1))) (λ n. ap (λ k. after (Gives end (state n (take k ls1) (context_of a sh1) text1))) len)
        (go.ends end sh1 text1 (take (length scope) ls1) rs1 q good1 (ends_scope x scope (locals_at_end ss scope) end to q ls1 rs1 (end_grows ss scope) arrived));
    outer = outer_as code _ _ a after (λ q. after (go_on q (closing ls))) (take (length ls)) (λ k ms m mode text. refl) x.in_outer go.outer;
  }

  scoped_follows : (ss : Stmts) → StmtsFollow ss → (N K : ℕ) (x : Exits) (scope : LocalScope) (from to : ℕ) (a : Around) (sh : Shared) (text : List ℕ) (ls : List Local) (old : List ℕ) (after : Answer Completion → Outcome) → StmtsCode code layout p x scope ss from to → Here scope ls old → IsGood code a sh → IsSeen a after → GoesByCompletion N K a after x (Here scope) (Here scope) to → Goes p call code layout frames cf are N K a sh text ls from old (λ s. after (in_scope (stmts p call ss) s))
  unfolding closing
  scoped_follows ss ih N K x scope from to a sh text ls old after c h good s go =
      ih N K x scope from to a sh text ls old (λ q. after (go_on q (closing ls))) c h good (on_seen a after (closing ls) s)
      (scope_goes ss x scope to a ls after (length_like scope ls h.like) go)

  -- a branch or a loop's body is a scope of its own
  part_ends : (x : Exits) (scope : LocalScope) (st : Stmt) (end : Completion) (to q : ℕ) (ls : List Local) (rs : List ℕ) → Arrived x (Here (locals_after st scope)) (Here scope) to end q ls rs → Arrived x (Here scope) (Here scope) to end q (take (length scope) ls) rs
  part_ends x scope st Next to q ls rs a = (a.0, has_locals_taken scope (after_grows st scope).0 ls layout (length (locals_after st scope)) rs (subst (λ y. HasLocals y ls layout (length (locals_after st scope)) rs) (after_grows st scope).1 a.1))
  part_ends x scope st Breaks to q ls rs a = (a.0, has_locals_taken scope [] ls layout (length scope) rs (subst (λ y. HasLocals y ls layout (length scope) rs) (sym (append-nil scope)) a.1))
  part_ends x scope st Continues to q ls rs a = (a.0, has_locals_taken scope [] ls layout (length scope) rs (subst (λ y. HasLocals y ls layout (length scope) rs) (sym (append-nil scope)) a.1))
  part_ends x scope st (Returns v) to q ls rs a = a
  part_ends x scope st Cancels to q ls rs a = a
  part_ends x scope st CancelsOuter to q ls rs a = a

  part_goes : {N K : ℕ} (x : Exits) (scope : LocalScope) (st : Stmt) (to : ℕ) (a : Around) (ls : List Local) (after : Answer Completion → Outcome) → length ls ≡ length scope → GoesByCompletion N K a after x (Here scope) (Here scope) to → GoesByCompletion N K a (λ q. after (go_on q (closing ls))) x (Here (locals_after st scope)) (Here scope) to
  unfolding closing
  part_goes x scope st to a ls after len go = record {
    ends = λ end sh1 text1 ls1 rs1 q good1 arrived.
        same (effect code) (λ n. after (Gives end (state n (take (length scope) ls1) (context_of a sh1) text1))) (λ n. ap (λ k. after (Gives end (state n (take k ls1) (context_of a sh1) text1))) len)
        (go.ends end sh1 text1 (take (length scope) ls1) rs1 q good1 (part_ends x scope st end to q ls1 rs1 arrived));
    outer = outer_as code _ _ a after (λ q. after (go_on q (closing ls))) (take (length ls)) (λ k ms m mode text. refl) x.in_outer go.outer;
  }

  part_follows : (st : Stmt) → StmtFollows st → (N K : ℕ) (x : Exits) (scope : LocalScope) (from to : ℕ) (a : Around) (sh : Shared) (text : List ℕ) (ls : List Local) (old : List ℕ) (after : Answer Completion → Outcome) → StmtCode code layout p x scope st from to → Here scope ls old → IsGood code a sh → IsSeen a after → GoesByCompletion N K a after x (Here scope) (Here scope) to → Goes p call code layout frames cf are N K a sh text ls from old (λ s. after (in_scope (stmt p call st) s))
  unfolding closing
  part_follows st ih N K x scope from to a sh text ls old after c h good s go =
      ih N K x scope from to a sh text ls old (λ q. after (go_on q (closing ls))) c h good (on_seen a after (closing ls) s)
      (part_goes x scope st to a ls after (length_like scope ls h.like) go)

  -- statements one after another
  later_ends : (x : Exits) (scope mid later : LocalScope) (end : Completion) (to q : ℕ) (ls : List Local) (rs : List ℕ) → (more : LocalScope) × (mid ≡ scope ++ more) → Arrived x (Here later) (More mid) to end q ls rs → Arrived x (Here later) (More scope) to end q ls rs
  later_ends x scope mid later Next to q ls rs g a = a
  later_ends x scope mid later Breaks to q ls rs g a = (a.0, more_of scope mid ls rs g a.1)
    where
      more_of : (scope mid : LocalScope) (ls : List Local) (rs : List ℕ) → (more : LocalScope) × (mid ≡ scope ++ more) → More mid ls rs → More scope ls rs
      more_of scope mid ls rs g h = record { more = g.0 ++ h.more; locals = subst (λ y. HasLocals y ls layout (length y) rs) (ap (λ y. y ++ h.more) g.1 ∙ append_assoc scope g.0 h.more) h.locals }
  later_ends x scope mid later Continues to q ls rs g a = (a.0, more_of scope mid ls rs g a.1)
    where
      more_of : (scope mid : LocalScope) (ls : List Local) (rs : List ℕ) → (more : LocalScope) × (mid ≡ scope ++ more) → More mid ls rs → More scope ls rs
      more_of scope mid ls rs g h = record { more = g.0 ++ h.more; locals = subst (λ y. HasLocals y ls layout (length y) rs) (ap (λ y. y ++ h.more) g.1 ∙ append_assoc scope g.0 h.more) h.locals }
  later_ends x scope mid later (Returns v) to q ls rs g a = a
  later_ends x scope mid later Cancels to q ls rs g a = a
  later_ends x scope mid later CancelsOuter to q ls rs g a = a

  no_more : (scope : LocalScope) (ls : List Local) (rs : List ℕ) → Here scope ls rs → More scope ls rs
  no_more scope ls rs h = record { more = []; locals = subst (λ y. HasLocals y ls layout (length y) rs) (sym (append-nil scope)) h }

  later_goes : {N K : ℕ} (x : Exits) (scope mid later : LocalScope) (to : ℕ) (a : Around) (after : Answer Completion → Outcome) → (more : LocalScope) × (mid ≡ scope ++ more) → GoesByCompletion N K a after x (Here later) (More scope) to → GoesByCompletion N K a after x (Here later) (More mid) to
  later_goes x scope mid later to a after grown go = record {
    ends = λ end sh1 text1 ls1 rs1 q1 good1 arrived1. go.ends end sh1 text1 ls1 rs1 q1 good1 (later_ends x scope mid later end to q1 ls1 rs1 grown arrived1);
    outer = go.outer;
  }

  sequence_ends : (N K : ℕ) (x : Exits) (st : Stmt) (ss : Stmts) → StmtsFollow ss → (scope : LocalScope) (mid to : ℕ) (a : Around) (after : Answer Completion → Outcome) → StmtsCode code layout p x (locals_after st scope) ss mid to → IsSeen a after → GoesByCompletion N K a after x (Here (locals_at_end ss (locals_after st scope))) (More scope) to → EndsGo N K a (λ q. after (go_on q (on_next (stmts p call ss)))) x (Here (locals_after st scope)) (Here scope) mid
  sequence_ends N K x st ss ih scope mid to a after c s go Next sh text ls rs q good arrived =
      ih N K x (locals_after st scope) q to a sh text ls rs after (subst (λ y. StmtsCode code layout p x (locals_after st scope) ss y to) (sym arrived.0) c) arrived.1 good s
      (later_goes x scope (locals_after st scope) (locals_at_end ss (locals_after st scope)) to a after (after_grows st scope) go)
  sequence_ends N K x st ss ih scope mid to a after c s go Breaks sh text ls rs q good arrived = go.ends Breaks sh text ls rs q good (arrived.0, no_more scope ls rs arrived.1)
  sequence_ends N K x st ss ih scope mid to a after c s go Continues sh text ls rs q good arrived = go.ends Continues sh text ls rs q good (arrived.0, no_more scope ls rs arrived.1)
  sequence_ends N K x st ss ih scope mid to a after c s go (Returns v) sh text ls rs q good arrived = go.ends (Returns v) sh text ls rs q good arrived
  sequence_ends N K x st ss ih scope mid to a after c s go Cancels sh text ls rs q good arrived = go.ends Cancels sh text ls rs q good arrived
  sequence_ends N K x st ss ih scope mid to a after c s go CancelsOuter sh text ls rs q good arrived = absurd arrived

  sequence : (N K : ℕ) (x : Exits) (st : Stmt) (ss : Stmts) → StmtsFollow ss → (scope : LocalScope) (mid to : ℕ) (a : Around) (after : Answer Completion → Outcome) → StmtsCode code layout p x (locals_after st scope) ss mid to → IsSeen a after → GoesByCompletion N K a after x (Here (locals_at_end ss (locals_after st scope))) (More scope) to → GoesByCompletion N K a (λ q. after (go_on q (on_next (stmts p call ss)))) x (Here (locals_after st scope)) (Here scope) mid
  sequence N K x st ss ih scope mid to a after c s go = record {
    ends = sequence_ends N K x st ss ih scope mid to a after c s go;
    outer = outer_as code _ _ a after (λ q. after (go_on q (on_next (stmts p call ss)))) (λ ms. ms) (λ k ms m mode text. refl) x.in_outer go.outer;
  }

  -- a declaration: its register is 0, and then has its first value
  zeroed : (scope : LocalScope) (x : List ℕ) (t : Scalar) (ls : List Local) (rs : List ℕ) → length scope < layout.writable → Here scope ls rs → Here (with_local scope x t) (ls ++ record { name = x; ty = t; word = 0 } ∷ []) (slice_set rs (length scope) 0)
  zeroed scope x t ls rs below h =
      let new : Local = record { name = x; ty = t; word = 0 } in
      let len : length ls ≡ length scope = length_like scope ls h.like in
      let len2 : length (ls ++ new ∷ []) ≡ length ls + 1 = length-append ls (new ∷ []) in
      let len3 : length (scope ++ new ∷ []) ≡ length scope + 1 = length-append scope (new ∷ []) in
      let fits = h.fits in
      let size_is = h.size_is in
      record {
        like = shape_new scope ls new new h.like refl;
        room = omega (arith, len, len2, len3);
        fits = omega (arith, len, len2, below);
        size_is = length-set rs (length scope) 0 ∙ h.size_is;
        each = λ i l. each_zeroed scope ls rs new i refl (cases_eq i (length scope)) len (omega (arith, below, size_is)) (λ d. omega (arith, l, len, len2, d)) h.each;
        words = words_new ls new h.words (some_below t);
        preloaded = λ k w e. get_or-set_other rs (length scope) (layout.writable + k) 0 0 (λ d. omega (arith, below, d)) ∙ h.preloaded k w e;
      }
    where
      each_zeroed : (scope : LocalScope) (ls : List Local) (rs : List ℕ) (new : Local) (i : ℕ) → new.word ≡ 0 → (i ≡ length scope) ⊎ (i ≢ length scope) → length ls ≡ length scope → length scope < length rs → (i ≢ length scope → i < length ls) → ((j : ℕ) → j < length ls → slice_index rs j ≡ word_at ls j) → slice_index (slice_set rs (length scope) 0) i ≡ word_at (ls ++ new ∷ []) i
      each_zeroed scope ls rs new i z (inl e) len b later each =
          ap (slice_index (slice_set rs (length scope) 0)) e ∙ get_or-set_same rs (length scope) 0 0 b ∙ sym z ∙ sym (word_last ls new) ∙ ap (word_at (ls ++ new ∷ [])) (len ∙ sym e)
      each_zeroed scope ls rs new i z (inr e) len b later each = get_or-set_other rs (length scope) i 0 0 e ∙ each i (later e) ∙ sym (word_new ls new i (later e))

  -- the first value, and what follows it
  first_follows : {N K : ℕ} (inner : LocalScope) (i : ℕ) (t : Scalar) (o : Option Expr) (rest : Action Completion) (from to : ℕ) → i < length inner → TypeIs inner i t → FirstValueCode code layout p inner (i, t) o from to → (a : Around) (sh : Shared) (text : List ℕ) (ls : List Local) (old : List ℕ) (after : Answer Completion → Outcome) → Here inner ls old → IsGood code a sh → IsSeen a after
      → ((sh1 : Shared) (text1 : List ℕ) (ls1 : List Local) (rs1 : List ℕ) → IsGood code a sh1 → Here inner ls1 rs1 → Goes p call code layout frames cf are N K a sh1 text1 ls1 to rs1 (λ s. after (rest s)))
      → Goes p call code layout frames cf are N K a sh text ls from old (λ s. after ((first_value p call (InLocal i t) o >> rest) s))
  first_follows {N = N} {K = K} inner i t None rest from to below type_is c a sh text ls old after h good s go =
      subst (λ q. Goes p call code layout frames cf are N K a sh text ls q old (λ s. after (rest s))) c (go sh text ls old good h)
  first_follows {N = N} {K = K} inner i t (Some e) rest from to below type_is c a sh text ls old after h good s go =
      expr_stores p call code layout frames cf are e (LocalAt (i, t)) (InLocal i t) inner c.free a sh text ls (λ q. after (go_on q (λ e. rest))) (λ q. after (go_on q (λ u. rest))) from to old (λ v s1. refl) c.room (refl, below, type_is) tt c.stores h good (on_seen a after (λ e. rest) s) (on_seen a after (λ u. rest) s)
      (λ sh2 text2 ls2 rs2 good2 h2. go sh2 text2 ls2 rs2 good2 h2)

  declare_follows : {N K : ℕ} (t : Scalar) (ds : List Declarator) (x : Exits) (scope : LocalScope) (from to : ℕ) → DeclareCode code layout p t ds scope from to → (a : Around) (sh : Shared) (text : List ℕ) (ls : List Local) (old : List ℕ) (after : Answer Completion → Outcome) → Here scope ls old → IsGood code a sh → IsSeen a after → GoesNext p call code layout frames cf are N K a after (with_declared t ds scope) to → Goes p call code layout frames cf are N K a sh text ls from old (λ s. after (declare p call t ds s))
  declare_follows {N = N} {K = K} t [] x scope from to c a sh text ls old after h good s go =
      subst (λ q. Goes p call code layout frames cf are N K a sh text ls q old (λ s. after (Gives Next s))) c (go sh text ls old good h)
  declare_follows {N = N} {K = K} t (d ∷ ds) x scope from to c a sh text ls old after h good s go =
      let new : Local = record { name = d.name.text; ty = t; word = 0 } in
      let inner : LocalScope = with_local scope d.name.text t in
      let rs1 : List ℕ = slice_set old (length scope) 0 in
      let len : length ls ≡ length scope = length_like scope ls h.like in
      let len3 : length (scope ++ new ∷ []) ≡ length scope + 1 = length-append scope (new ∷ []) in
      goes_by code a sh text (configuration code from old frames) (configuration code (suc from) rs1 frames) (effect_at code from (Instr.Constant (length scope) 0) old frames c.zeroes)
      (same (effect code) (λ n. after ((first_value p call (InLocal (length scope) t) d.first >> declare p call t ds) (state n (ls ++ new ∷ []) (context_of a sh) text)))
      (λ n. ap (λ k. after ((first_value p call (InLocal k t) d.first >> declare p call t ds) (state n (ls ++ new ∷ []) (context_of a sh) text))) len)
      (first_follows inner (length scope) t d.first (declare p call t ds) (suc from) c.mid (omega (arith, len3)) (type_last scope new) c.value a sh text (ls ++ new ∷ []) rs1 after (zeroed scope d.name.text t ls old c.below h) good s
      (λ sh1 text1 ls1 rs2 good1 h1. declare_follows t ds x inner c.mid to c.goes_on a sh1 text1 ls1 rs2 after h1 good1 s go)))

  -- where the loop goes on with its next turn
  abbrev Again : ℕ → ℕ → (a : Around) → (Answer Completion → Outcome) → LocalScope → (head : ℕ) → Action (Option Completion) → Type 0
  Again N K a after scope head turn =
      (sh : Shared) (text : List ℕ) (ls : List Local) (rs : List ℕ) → IsGood code a sh → Here scope ls rs →
      Goes p call code layout frames cf are N K a sh text ls head rs (λ s. after (loop turn s))

  fewer_end : {N K N' K' : ℕ} (a : Around) (after : Answer Completion → Outcome) (x : Exits) (later others : ArrivalCondition) (to : ℕ) → N' ≤ N → K' ≤ K → GoesByCompletion N K a after x later others to → GoesByCompletion N' K' a after x later others to
  fewer_end a after x later others to b d go =
      record { ends = λ end sh text ls rs q good arrived. fewer (effect code) b d (go.ends end sh text ls rs q good arrived); outer = outer_fewer code a after b d x.in_outer go.outer }

  -- where a stretch leads to its end
  leads_ends : {N K : ℕ} (a : Around) (after : Answer Completion → Outcome) (x : Exits) (scope : LocalScope) (last to : ℕ) → LeadsTo code last to → GoesByCompletion N K a after x (Here scope) (Here scope) to → EndsGo N K a after x (Here scope) (Here scope) last
  leads_ends {N = N} {K = K} a after x scope last to j go Next sh text ls rs q good arrived =
      subst (λ y. Goes p call code layout frames cf are N K a sh text ls y rs (λ s. after (Gives Next s))) (sym arrived.0)
      (leads p call code layout frames a sh text last to rs j (go.ends Next sh text ls rs to good (refl, arrived.1)))
  leads_ends a after x scope last to j go Breaks sh text ls rs q good arrived = go.ends Breaks sh text ls rs q good arrived
  leads_ends a after x scope last to j go Continues sh text ls rs q good arrived = go.ends Continues sh text ls rs q good arrived
  leads_ends a after x scope last to j go (Returns v) sh text ls rs q good arrived = go.ends (Returns v) sh text ls rs q good arrived
  leads_ends a after x scope last to j go Cancels sh text ls rs q good arrived = go.ends Cancels sh text ls rs q good arrived
  leads_ends a after x scope last to j go CancelsOuter sh text ls rs q good arrived = absurd arrived

  leads_end : {N K : ℕ} (a : Around) (after : Answer Completion → Outcome) (x : Exits) (scope : LocalScope) (last to : ℕ) → LeadsTo code last to → GoesByCompletion N K a after x (Here scope) (Here scope) to → GoesByCompletion N K a after x (Here scope) (Here scope) last
  leads_end a after x scope last to j go = record { ends = leads_ends a after x scope last to j go; outer = go.outer }

  -- what one turn does, from the head of the loop on: there is an instruction in it
  abbrev TurnFollows : (a : Around) → (Answer Completion → Outcome) → Exits → LocalScope → (head to : ℕ) → Action (Option Completion) → Type 0
  TurnFollows a after x scope head to turn =
      (N K M : ℕ) → M ≤ K → K ≤ suc M → (sh : Shared) (text : List ℕ) (ls : List Local) (rs : List ℕ) → Again N M a after scope head turn → Here scope ls rs → IsGood code a sh → GoesByCompletion N K a after x (Here scope) (Here scope) to →
      Goes p call code layout frames cf are N K a sh text ls head rs (λ s. after (go_on (turn s) (after_turn (loop turn))))

  -- a loop: each turn takes a tick and at least one instruction
  loop_follows : (m N K : ℕ) → N + K ≤ m → (x : Exits) (scope : LocalScope) (turn : Action (Option Completion)) (head to : ℕ) (a : Around) (sh : Shared) (text : List ℕ) (ls : List Local) (rs : List ℕ) (after : Answer Completion → Outcome) → Falls turn → TurnFollows a after x scope head to turn → Here scope ls rs → IsGood code a sh → IsSeen a after → GoesByCompletion N K a after x (Here scope) (Here scope) to → Goes p call code layout frames cf are N K a sh text ls head rs (λ s. after (loop turn s))
  loop_follows m zero zero b x scope turn head to a sh text ls rs after f each h good s go =
      none_left (effect code) (seen_spent code a after sh 0 ls text (configuration code head rs frames) s)
  loop_follows zero zero (suc K) b x scope turn head to a sh text ls rs after f each h good s go = absurd (omega (arith, b))
  loop_follows zero (suc N) K b x scope turn head to a sh text ls rs after f each h good s go = absurd (omega (arith, b))
  loop_follows (suc m) zero (suc K) b x scope turn head to a sh text ls rs after f each h good s go =
      same (effect code) (λ n. after ((tick >> (turn >>= after_turn (loop turn))) (state n ls (context_of a sh) text))) (λ n. ap after (loop_is_its_turns turn f (state n ls (context_of a sh) text)))
      (tick_goes code a after (turn >>= after_turn (loop turn)) sh ls text (configuration code head rs frames) s
      (each zero (suc K) K (omega arith) (omega arith) sh text ls rs
      (λ sh1 text1 ls1 rs1 good1 h1.
      loop_follows m zero K (omega (arith, b)) x scope turn head to a sh1 text1 ls1 rs1 after f each h1 good1 s (fewer_end a after x (Here scope) (Here scope) to (omega arith) (omega arith) go))
      h good go))
  loop_follows (suc m) (suc N) K b x scope turn head to a sh text ls rs after f each h good s go =
      same (effect code) (λ n. after ((tick >> (turn >>= after_turn (loop turn))) (state n ls (context_of a sh) text))) (λ n. ap after (loop_is_its_turns turn f (state n ls (context_of a sh) text)))
      (tick_counts code a after (turn >>= after_turn (loop turn)) sh ls text (configuration code head rs frames) s
      (each N K K (omega arith) (omega arith) sh text ls rs
      (λ sh1 text1 ls1 rs1 good1 h1.
      loop_follows m N K (omega (arith, b)) x scope turn head to a sh1 text1 ls1 rs1 after f each h1 good1 s (fewer_end a after x (Here scope) (Here scope) to (omega arith) (omega arith) go))
      h good (fewer_end a after x (Here scope) (Here scope) to (omega arith) (omega arith) go)))

  -- the end of a body whose turn goes on with `rest`
  turn_ends : {N K : ℕ} (x : Exits) (scope : LocalScope) (turn : Action (Option Completion)) (rest : Action (Option Completion)) (break_to continue_to next_at to last : ℕ) (a : Around) (after : Answer Completion → Outcome) → LeadsTo code break_to to → LeadsTo code continue_to next_at → LeadsTo code last next_at
      → ((sh : Shared) (text : List ℕ) (ls : List Local) (rs : List ℕ) → IsGood code a sh → Here scope ls rs → Goes p call code layout frames cf are N K a sh text ls next_at rs (λ s. after (go_on (rest s) (after_turn (loop turn)))))
      → GoesByCompletion N K a after x (Here scope) (Here scope) to → EndsGo N K a (λ q. after (go_on (go_on q (after_body rest)) (after_turn (loop turn)))) (looping x break_to continue_to) (Here scope) (Here scope) last
  turn_ends {N = N} {K = K} x scope turn rest break_to continue_to next_at to last a after breaks continues goes_on on go Next sh text ls rs q good arrived =
      subst (λ y. Goes p call code layout frames cf are N K a sh text ls y rs (λ s. after (go_on (rest s) (after_turn (loop turn))))) (sym arrived.0)
      (leads p call code layout frames a sh text last next_at rs goes_on (on sh text ls rs good arrived.1))
  turn_ends x scope turn rest break_to continue_to next_at to last a after breaks continues goes_on on go Breaks sh text ls rs q good arrived =
      passes p call code layout frames a sh text q break_to rs arrived.0 (leads p call code layout frames a sh text break_to to rs breaks (go.ends Next sh text ls rs to good (refl, arrived.1)))
  turn_ends x scope turn rest break_to continue_to next_at to last a after breaks continues goes_on on go Continues sh text ls rs q good arrived =
      passes p call code layout frames a sh text q continue_to rs arrived.0 (leads p call code layout frames a sh text continue_to next_at rs continues (on sh text ls rs good arrived.1))
  turn_ends x scope turn rest break_to continue_to next_at to last a after breaks continues goes_on on go (Returns v) sh text ls rs q good arrived = go.ends (Returns v) sh text ls rs q good arrived
  turn_ends x scope turn rest break_to continue_to next_at to last a after breaks continues goes_on on go Cancels sh text ls rs q good arrived = go.ends Cancels sh text ls rs q good arrived
  turn_ends x scope turn rest break_to continue_to next_at to last a after breaks continues goes_on on go CancelsOuter sh text ls rs q good arrived = absurd arrived

  body_ends : {N K : ℕ} (x : Exits) (scope : LocalScope) (turn : Action (Option Completion)) (rest : Action (Option Completion)) (break_to continue_to next_at to last : ℕ) (a : Around) (after : Answer Completion → Outcome) → LeadsTo code break_to to → LeadsTo code continue_to next_at → LeadsTo code last next_at
      → ((sh : Shared) (text : List ℕ) (ls : List Local) (rs : List ℕ) → IsGood code a sh → Here scope ls rs → Goes p call code layout frames cf are N K a sh text ls next_at rs (λ s. after (go_on (rest s) (after_turn (loop turn)))))
      → GoesByCompletion N K a after x (Here scope) (Here scope) to → GoesByCompletion N K a (λ q. after (go_on (go_on q (after_body rest)) (after_turn (loop turn)))) (looping x break_to continue_to) (Here scope) (Here scope) last
  body_ends x scope turn rest break_to continue_to next_at to last a after breaks continues goes_on on go = record {
    ends = turn_ends x scope turn rest break_to continue_to next_at to last a after breaks continues goes_on on go;
    outer = outer_as code _ _ a after (λ q. after (go_on (go_on q (after_body rest)) (after_turn (loop turn)))) (λ ms. ms) (λ k ms m mode text. refl) x.in_outer go.outer;
  }

  -- `while`
  while_follows : (x : Exits) (scope : LocalScope) (e : Expr) (st : Stmt) → StmtFollows st → (from to : ℕ) (c : WhileCode code layout p x scope (Testing code layout p scope e) (λ y. StmtCode code layout p y scope st) from to) (a : Around) (after : Answer Completion → Outcome) → IsSeen a after → TurnFollows a after x scope c.test_at to (while_turn p call e st)
  while_follows x scope e st ih from to c a after s N K M less enough sh text ls rs again h good go =
      fewer (effect code) (omega arith) enough
      (test_follows p call code layout frames cf are scope e c.test_at c.body_at c.out c.tests a sh text ls rs (λ q. after1 (go_on q branches)) h good (on_seen a after1 branches seen1) places)
    where
      turn : Action (Option Completion)
      turn = while_turn p call e st

      branches : Value → Action (Option Completion)
      branches v = if is_zero v then pure (Some Next) else (in_scope (stmt p call st) >>= after_body (pure None))

      after1 : Answer (Option Completion) → Outcome
      after1 q = after (go_on q (after_turn (loop (while_turn p call e st))))

      seen1 : IsSeen a after1
      seen1 = on_seen a after (after_turn (loop (while_turn p call e st))) s

      places : GoesTest p call code layout frames cf are N M a (λ q. after1 (go_on q branches)) scope ls c.body_at c.out
      places v true sh1 text1 rs1 z h1 good1 =
          same (effect code) (λ n. after (Gives Next (state n ls (context_of a sh1) text1)))
          (λ n. ap (λ b. after1 ((if b then pure (Some Next) else (in_scope (stmt p call st) >>= after_body (pure None))) (state n ls (context_of a sh1) text1))) z)
          (leads p call code layout frames a sh1 text1 c.out to rs1 c.ends (fewer (effect code) (omega arith) less (go.ends Next sh1 text1 ls rs1 to good1 (refl, h1))))
      places v false sh1 text1 rs1 z h1 good1 =
          same (effect code) (λ n. after1 ((in_scope (stmt p call st) >>= after_body (pure None)) (state n ls (context_of a sh1) text1)))
          (λ n. ap (λ b. after1 ((if b then pure (Some Next) else (in_scope (stmt p call st) >>= after_body (pure None))) (state n ls (context_of a sh1) text1))) z)
          (part_follows st ih N M (looping x c.break_to c.continue_to) scope c.body_at c.last a sh1 text1 ls rs1 (λ q. after1 (go_on q (after_body (pure None)))) c.body h1 good1 (on_seen a after1 (after_body (pure None)) seen1)
          (body_ends x scope (while_turn p call e st) (pure None) c.break_to c.continue_to c.test_at to c.last a after c.breaks c.continues c.again
          (λ sh2 text2 ls2 rs2 good2 h2. again sh2 text2 ls2 rs2 good2 h2)
          (fewer_end a after x (Here scope) (Here scope) to (omega arith) less go)))

  -- `do` and `while`
  do_follows : (x : Exits) (scope : LocalScope) (e : Expr) (st : Stmt) → StmtFollows st → (from to : ℕ) (c : DoWhileCode code layout p x scope (Testing code layout p scope e) (λ y. StmtCode code layout p y scope st) from to) (a : Around) (after : Answer Completion → Outcome) → IsSeen a after → TurnFollows a after x scope c.body_at to (do_turn p call st e)
  do_follows x scope e st ih from to c a after s N K M less enough sh text ls rs again h good go =
      part_follows st ih N K (looping x c.break_to c.continue_to) scope c.body_at c.last a sh text ls rs (λ q. after1 (go_on q (after_body rest))) c.body h good (on_seen a after1 (after_body rest) seen1)
      (body_ends x scope (do_turn p call st e) rest c.break_to c.continue_to c.test_at to c.last a after c.breaks c.continues c.goes_on
      (λ sh1 text1 ls1 rs1 good1 h1.
      fewer (effect code) (omega arith) enough
      (test_follows p call code layout frames cf are scope e c.test_at c.again_at c.out c.tests a sh1 text1 ls1 rs1 (λ q. after1 (go_on q ends)) h1 good1 (on_seen a after1 ends seen1) (places ls1)))
      go)
    where
      ends : Value → Action (Option Completion)
      ends v = pure (if is_zero v then Some Next else None)

      rest : Action (Option Completion)
      rest = expr p call e >>= λ v. pure (if is_zero v then Some Next else None)

      after1 : Answer (Option Completion) → Outcome
      after1 q = after (go_on q (after_turn (loop (do_turn p call st e))))

      seen1 : IsSeen a after1
      seen1 = on_seen a after (after_turn (loop (do_turn p call st e))) s

      places : (ls : List Local) → GoesTest p call code layout frames cf are N M a (λ q. after1 (go_on q ends)) scope ls c.again_at c.out
      places ls v true sh1 text1 rs1 z h1 good1 =
          same (effect code) (λ n. after (Gives Next (state n ls (context_of a sh1) text1)))
          (λ n. ap (λ b. after1 (Gives (if b then Some Next else None) (state n ls (context_of a sh1) text1))) z)
          (leads p call code layout frames a sh1 text1 c.out to rs1 c.ends (fewer (effect code) (omega arith) less (go.ends Next sh1 text1 ls rs1 to good1 (refl, h1))))
      places ls v false sh1 text1 rs1 z h1 good1 =
          same (effect code) (λ n. after (loop (do_turn p call st e) (state n ls (context_of a sh1) text1)))
          (λ n. ap (λ b. after1 (Gives (if b then Some Next else None) (state n ls (context_of a sh1) text1))) z)
          (leads p call code layout frames a sh1 text1 c.again_at c.body_at rs1 c.again (again sh1 text1 ls rs1 good1 h1))

  -- `for`
  stepped_follows : {N K : ℕ} (scope : LocalScope) (turn : Action (Option Completion)) (o : Option Simple) (from last head : ℕ) → SteppedCode code layout p scope o from last → LeadsTo code last head → (a : Around) (sh : Shared) (text : List ℕ) (ls : List Local) (rs : List ℕ) (after : Answer Completion → Outcome) → IsSeen a after → Again N K a after scope head turn → Here scope ls rs → IsGood code a sh → Goes p call code layout frames cf are N K a sh text ls from rs (λ s. after (go_on (optional_step p call o s) (after_turn (loop turn))))
  stepped_follows scope turn None from last head c i a sh text ls rs after s again h good = leads p call code layout frames a sh text from head rs (subst (λ y. LeadsTo code y head) c i) (again sh text ls rs good h)
  stepped_follows scope turn (Some st) from last head c i a sh text ls rs after s again h good =
      let after1 : Answer (Option Completion) → Outcome = λ q. after (go_on q (after_turn (loop turn))) in
      simple_follows p call code layout frames cf are scope st from last c a sh text ls rs (λ q. after1 (go_on q (λ e. pure None))) h good (on_seen a after1 (λ e. pure None) (on_seen a after (after_turn (loop turn)) s))
      (λ sh1 text1 ls1 rs1 good1 h1. leads p call code layout frames a sh1 text1 last head rs1 i (again sh1 text1 ls1 rs1 good1 h1))

  -- a condition that may be missing
  holds_follows : {N K : ℕ} (scope : LocalScope) (o : Option Expr) (rest : Bool → Action (Option Completion)) (from true_exit out : ℕ) → HoldsCode code layout p scope o from true_exit out → (a : Around) (sh : Shared) (text : List ℕ) (ls : List Local) (rs : List ℕ) (after : Answer (Option Completion) → Outcome) → Here scope ls rs → IsGood code a sh → IsSeen a after
      → ((sh1 : Shared) (text1 : List ℕ) (rs1 : List ℕ) → IsGood code a sh1 → Here scope ls rs1 → Goes p call code layout frames cf are N K a sh1 text1 ls true_exit rs1 (λ s. after (rest true s)))
      → ((sh1 : Shared) (text1 : List ℕ) (rs1 : List ℕ) → IsGood code a sh1 → Here scope ls rs1 → Goes p call code layout frames cf are N K a sh1 text1 ls out rs1 (λ s. after (rest false s)))
      → Goes p call code layout frames cf are N (suc K) a sh text ls from rs (λ s. after ((for_condition p call o >>= rest) s))
  holds_follows {N = N} {K = K} scope None rest from true_exit out c a sh text ls rs after h good s where_so where_not =
      goes code a sh text (configuration code from rs frames) (configuration code true_exit rs frames) (effect_at code from (Instr.Jump true_exit) rs frames c) (where_so sh text rs good h)
  holds_follows {N = N} {K = K} scope (Some e) rest from true_exit out c a sh text ls rs after h good s where_so where_not =
      test_follows p call code layout frames cf are scope e from true_exit out c a sh text ls rs (λ q. after (go_on (go_on q (λ v. pure (not (is_zero v)))) rest)) h good (on_seen a (λ q. after (go_on q rest)) (λ v. pure (not (is_zero v))) (on_seen a after rest s)) places
    where
      places : GoesTest p call code layout frames cf are N K a (λ q. after (go_on (go_on q (λ v. pure (not (is_zero v)))) rest)) scope ls true_exit out
      places v true sh1 text1 rs1 z h1 good1 =
          same (effect code) (λ n. after (rest false (state n ls (context_of a sh1) text1))) (λ n. ap (λ b. after (rest (not b) (state n ls (context_of a sh1) text1))) z) (where_not sh1 text1 rs1 good1 h1)
      places v false sh1 text1 rs1 z h1 good1 =
          same (effect code) (λ n. after (rest true (state n ls (context_of a sh1) text1))) (λ n. ap (λ b. after (rest (not b) (state n ls (context_of a sh1) text1))) z) (where_so sh1 text1 rs1 good1 h1)

  for_follows : (x : Exits) (scope : LocalScope) (starts : ℕ → ℕ → Type 0) (o : Option Expr) (step : Option Simple) (st : Stmt) → StmtFollows st → (from to : ℕ) (c : ForCode code layout p x scope starts o step (λ y. StmtCode code layout p y scope st) from to) (a : Around) (after : Answer Completion → Outcome) → IsSeen a after → TurnFollows a after x scope c.test_at to (for_turn p call o step st)
  for_follows x scope starts o step st ih from to c a after s N K M less enough sh text ls rs again h good go =
      let turn : Action (Option Completion) = for_turn p call o step st in
      let rest : Bool → Action (Option Completion) = λ more. if more then (in_scope (stmt p call st) >>= after_body (optional_step p call step)) else pure (Some Next) in
      let after1 : Answer (Option Completion) → Outcome = λ q. after (go_on q (after_turn (loop turn))) in
      let seen1 : IsSeen a after1 = on_seen a after (after_turn (loop turn)) s in
      fewer (effect code) (omega arith) enough
      (holds_follows scope o rest c.test_at c.body_at c.out c.tests a sh text ls rs after1 h good seen1
      (λ sh1 text1 rs1 good1 h1.
      part_follows st ih N M (looping x c.break_to c.continue_to) scope c.body_at c.last a sh1 text1 ls rs1 (λ q. after1 (go_on q (after_body (optional_step p call step)))) c.body h1 good1 (on_seen a after1 (after_body (optional_step p call step)) seen1)
      (body_ends x scope turn (optional_step p call step) c.break_to c.continue_to c.step_at to c.last a after c.breaks c.continues c.goes_on
      (λ sh2 text2 ls2 rs2 good2 h2. stepped_follows scope turn step c.step_at c.stepped c.test_at c.steps c.again a sh2 text2 ls2 rs2 after s again h2 good2)
      (fewer_end a after x (Here scope) (Here scope) to (omega arith) less go)))
      (λ sh1 text1 rs1 good1 h1. leads p call code layout frames a sh1 text1 c.out to rs1 c.ends (fewer (effect code) (omega arith) less (go.ends Next sh1 text1 ls rs1 to good1 (refl, h1)))))

  -- the head of a `for`
  start_follows : {N K : ℕ} (st : Start) (x : Exits) (scope : LocalScope) (from to : ℕ) → StartCode code layout p scope st from to → (a : Around) (sh : Shared) (text : List ℕ) (ls : List Local) (old : List ℕ) (after : Answer Completion → Outcome) → Here scope ls old → IsGood code a sh → IsSeen a after → GoesNext p call code layout frames cf are N K a after (locals_of_start st scope) to → Goes p call code layout frames cf are N K a sh text ls from old (λ s. after (start_with p call st s))
  start_follows {N = N} {K = K} Nothing x scope from to c a sh text ls old after h good s go =
      subst (λ q. Goes p call code layout frames cf are N K a sh text ls q old (λ s. after (Gives Next s))) c (go sh text ls old good h)
  start_follows (Declares d) x scope from to c a sh text ls old after h good s go = declare_follows d.ty d.declarators x scope from to c a sh text ls old after h good s go
  start_follows (Does st) x scope from to c a sh text ls old after h good s go = simple_follows p call code layout frames cf are scope st from to c a sh text ls old after h good s go

  start_grows : (st : Start) (scope : LocalScope) → (more : LocalScope) × (locals_of_start st scope ≡ scope ++ more)
  start_grows Nothing scope = ([], sym (append-nil scope))
  start_grows (Declares d) scope = declared_grows d.ty d.declarators scope
  start_grows (Does st) scope = ([], sym (append-nil scope))

  -- a scope that a run ends with no statements
  shrinks : (x : Exits) (scope later : LocalScope) (end : Completion) (to q : ℕ) (ls : List Local) (rs : List ℕ) → (more : LocalScope) × (later ≡ scope ++ more) → Arrived x (Here later) (Here later) to end q ls rs → Arrived x (Here scope) (Here scope) to end q (take (length scope) ls) rs
  shrinks x scope later Next to q ls rs g a = (a.0, has_locals_taken scope g.0 ls layout (length later) rs (subst (λ y. HasLocals y ls layout (length later) rs) g.1 a.1))
  shrinks x scope later Breaks to q ls rs g a = (a.0, has_locals_taken scope g.0 ls layout (length later) rs (subst (λ y. HasLocals y ls layout (length later) rs) g.1 a.1))
  shrinks x scope later Continues to q ls rs g a = (a.0, has_locals_taken scope g.0 ls layout (length later) rs (subst (λ y. HasLocals y ls layout (length later) rs) g.1 a.1))
  shrinks x scope later (Returns v) to q ls rs g a = a
  shrinks x scope later Cancels to q ls rs g a = a
  shrinks x scope later CancelsOuter to q ls rs g a = a

  for_goes : {N K : ℕ} (x : Exits) (scope later : LocalScope) (to : ℕ) (a : Around) (ls : List Local) (after : Answer Completion → Outcome) → length ls ≡ length scope → (more : LocalScope) × (later ≡ scope ++ more) → GoesByCompletion N K a after x (Here scope) (Here scope) to → GoesByCompletion N K a (λ q. after (go_on q (closing ls))) x (Here later) (Here later) to
  unfolding closing
  for_goes x scope later to a ls after len grown go = record {
    ends = λ end sh2 text2 ls2 rs2 q good2 arrived.
        same (effect code) (λ n. after (Gives end (state n (take (length scope) ls2) (context_of a sh2) text2))) (λ n. ap (λ k. after (Gives end (state n (take k ls2) (context_of a sh2) text2))) len)
        (go.ends end sh2 text2 (take (length scope) ls2) rs2 q good2 (shrinks x scope later end to q ls2 rs2 grown arrived));
    outer = outer_as code _ _ a after (λ q. after (go_on q (closing ls))) (take (length ls)) (λ k ms m mode text. refl) x.in_outer go.outer;
  }

  whole_for : (x : Exits) (scope : LocalScope) (start : Start) (o : Option Expr) (step : Option Simple) (st : Stmt) → StmtFollows st → Falls (for_turn p call o step st) → (N K from to : ℕ) (c : ForCode code layout p x (locals_of_start start scope) (StartCode code layout p scope start) o step (λ y. StmtCode code layout p y (locals_of_start start scope) st) from to) (a : Around) (sh : Shared) (text : List ℕ) (ls : List Local) (old : List ℕ) (after : Answer Completion → Outcome) → Here scope ls old → IsGood code a sh → IsSeen a after → GoesByCompletion N K a after x (Here scope) (Here scope) to → Goes p call code layout frames cf are N K a sh text ls from old (λ s. after (in_scope (start_with p call start >> loop (for_turn p call o step st)) s))
  unfolding closing
  whole_for x scope start o step st ih f N K from to c a sh text ls old after h good s go =
      let inner : LocalScope = locals_of_start start scope in
      let turn : Action (Option Completion) = for_turn p call o step st in
      let after1 : Answer Completion → Outcome = λ q. after (go_on q (closing ls)) in
      let seen1 : IsSeen a after1 = on_seen a after (closing ls) s in
      start_follows start x scope from c.started c.start_code a sh text ls old (λ q. after1 (go_on q (λ e. loop turn))) h good (on_seen a after1 (λ e. loop turn) seen1)
      (λ sh1 text1 ls1 rs1 good1 h1.
      leads p call code layout frames a sh1 text1 c.started c.test_at rs1 c.enters
      (loop_follows (N + K) N K (omega arith) x inner turn c.test_at to a sh1 text1 ls1 rs1 after1 f (for_follows x inner (StartCode code layout p scope start) o step st ih from to c a after1 seen1) h1 good1 seen1
      (for_goes x scope inner to a ls after (length_like scope ls h.like) (start_grows start scope) go)))

  -- what a transaction's code needs: the body from the place behind its begin
  abbrev BodyCode : LocalScope → Stmts → Exits → (from to : ℕ) → Type 0
  BodyCode scope ss x from to = StmtsCode code layout p x scope ss from to

  some_mode : Option Mode → Mode
  some_mode None = Atomic
  some_mode (Some m) = m

  atomic_of : (mode : Mode) → Some mode ≡ Some Atomic → mode ≡ Atomic
  unfolding some_mode
  atomic_of mode e = ap some_mode e

  -- an outermost transaction is left by a commit
  bare_commits : {N K : ℕ} (end : Completion) (kind : TransactionKind) (found : Memory) (founds lefts : List Memory) (to : ℕ) (sh : Shared) (text : List ℕ) (ls : List Local) (old rs : List ℕ) (q : ℕ) (after : Answer Completion → Outcome) → InstructionAt code q Instr.Commit → IsSeen Bare after → AreMemories code founds → Goes p call code layout frames cf are N K Bare (record { founds = founds; lefts = lefts ++ sh.memory ∷ []; memory = sh.memory; kept = sh.kept }) text ls (suc q) rs (λ s. after (Gives end s)) → Agrees (effect code) N K (sequential_state (Within (outermost_alone code (mode_of kind) (configuration code to old frames) found founds lefts)) sh text (configuration code q rs frames)) (λ n. after (leave founds lefts (record { end = end; locals = ls; memory = sh.memory }) (state n ls (Inside (mode_of kind) sh.memory) text)))
  bare_commits end kind found founds lefts to sh text ls old rs q after i s g go =
      leaves_outermost code after (Gives end) (mode_of kind) found sh.memory founds lefts sh text ls ls (configuration code q rs frames) (configuration code (suc q) rs frames) (configuration code to old frames)
      (next_commit code (mode_of kind) found founds lefts sh text (configuration code q rs frames) (configuration code (suc q) rs frames) (configuration code to old frames) (effect_at code q Instr.Commit rs frames i)) s go

  bare_each : {N K : ℕ} (kind : TransactionKind) (x : Exits) (scope : LocalScope) (ss : Stmts) (from to : ℕ) (c : TransactionCode code layout p kind x (BodyCode scope ss) from to) (found : Memory) (founds lefts : List Memory) (ls : List Local) (old : List ℕ) (after : Answer Completion → Outcome) → Here scope ls old → IsSeen Bare after → AreMemories code founds → GoesByCompletion N K Bare after x (Here scope) (Here scope) to → EndsGo N K (Within (outermost_alone code (mode_of kind) (configuration code to old frames) found founds lefts)) (λ q. after (close kind founds lefts ls found q)) (in_transaction kind x) (Here scope) (Here scope) c.last
  bare_each kind x scope ss from to c found founds lefts ls old after h s g go Next sh text ls1 rs q good arrived =
      bare_commits Next kind found founds lefts to sh text ls1 old rs q after (subst (λ y. InstructionAt code y Instr.Commit) (sym arrived.0) c.commits) s g
      (go.ends Next (record { founds = founds; lefts = lefts ++ sh.memory ∷ []; memory = sh.memory; kept = sh.kept }) text ls1 rs (suc q) g (ap suc arrived.0 ∙ sym c.to_is, arrived.1))
  bare_each kind x scope ss from to c found founds lefts ls old after h s g go Breaks sh text ls1 rs q good arrived =
      bare_commits Breaks kind found founds lefts to sh text ls1 old rs q after arrived.0.0 s g (go.ends Breaks (record { founds = founds; lefts = lefts ++ sh.memory ∷ []; memory = sh.memory; kept = sh.kept }) text ls1 rs (suc q) g (arrived.0.1, arrived.1))
  bare_each kind x scope ss from to c found founds lefts ls old after h s g go Continues sh text ls1 rs q good arrived =
      bare_commits Continues kind found founds lefts to sh text ls1 old rs q after arrived.0.0 s g (go.ends Continues (record { founds = founds; lefts = lefts ++ sh.memory ∷ []; memory = sh.memory; kept = sh.kept }) text ls1 rs (suc q) g (arrived.0.1, arrived.1))
  bare_each kind x scope ss from to c found founds lefts ls old after h s g go (Returns v) sh text ls1 rs q good arrived =
      bare_commits (Returns v) kind found founds lefts to sh text ls1 old rs q after arrived.1.0 s g (go.ends (Returns v) (record { founds = founds; lefts = lefts ++ sh.memory ∷ []; memory = sh.memory; kept = sh.kept }) text ls1 rs (suc q) g (arrived.0, arrived.1.1, arrived.2))
  bare_each kind x scope ss from to c found founds lefts ls old after h s g go Cancels sh text ls1 rs q good arrived =
      leaves_outermost code after (Gives Next) (mode_of kind) found found founds lefts sh text ls1 ls (configuration code q rs frames) (configuration code to old frames) (configuration code to old frames)
      (next_cancel code (mode_of kind) found founds lefts sh text (configuration code q rs frames) (configuration code to old frames) (effect_at code q Instr.Cancel rs frames arrived.1) (good.1 (atomic_of (mode_of kind) arrived.0)).0) s
      (go.ends Next (record { founds = founds; lefts = lefts ++ found ∷ []; memory = sh.memory; kept = sh.kept }) text ls old to g (refl, h))
  bare_each kind x scope ss from to c found founds lefts ls old after h s g go CancelsOuter sh text ls1 rs q good arrived = absurd arrived

  bare_outer : {N K : ℕ} (kind : TransactionKind) (x : Exits) (scope : LocalScope) (ss : Stmts) (from to : ℕ) (c : TransactionCode code layout p kind x (BodyCode scope ss) from to) (found : Memory) (founds lefts : List Memory) (ls : List Local) (old : List ℕ) (after : Answer Completion → Outcome) → Here scope ls old → IsSeen Bare after → AreMemories code founds → GoesByCompletion N K Bare after x (Here scope) (Here scope) to → OuterGoes code N K (Within (outermost_alone code (mode_of kind) (configuration code to old frames) found founds lefts)) (λ q. after (close kind founds lefts ls found q)) (with_level kind x.in_outer)
  bare_outer Outer x scope ss from to c found founds lefts ls old after h s g go = (
    (λ e. refl),
    λ sh text ls1 s0 good cancels.
        leaves_by code after (Gives Next) found founds lefts text ls1 ls (configuration code to old frames) s0
        (cancels.next_is ∙ ap (λ b. cancel_step (sequential_state (Within (outermost_alone code Atomic (configuration code to old frames) found founds lefts)) sh text s0.configuration) (opened code (outermost_alone code Atomic (configuration code to old frames) found founds lefts) sh) [] b) (cancels.free refl))
        cancels.seen s
        (go.ends Next (record { founds = founds; lefts = lefts ++ found ∷ []; memory = sh.memory; kept = sh.kept }) text ls old to g (refl, h)),
  )
  bare_outer (Plain mode) x scope ss from to c found founds lefts ls old after h s g go =
      through_bare code _ _ (outermost_alone code mode (configuration code to old frames) found founds lefts) after (λ q. after (close (Plain mode) founds lefts ls found q)) x.in_outer go.outer

  bare_ends : {N K : ℕ} (kind : TransactionKind) (x : Exits) (scope : LocalScope) (ss : Stmts) (from to : ℕ) (c : TransactionCode code layout p kind x (BodyCode scope ss) from to) (found : Memory) (founds lefts : List Memory) (ls : List Local) (old : List ℕ) (after : Answer Completion → Outcome) → Here scope ls old → IsSeen Bare after → AreMemories code founds → GoesByCompletion N K Bare after x (Here scope) (Here scope) to → GoesByCompletion N K (Within (outermost_alone code (mode_of kind) (configuration code to old frames) found founds lefts)) (λ q. after (close kind founds lefts ls found q)) (in_transaction kind x) (Here scope) (Here scope) c.last
  bare_ends kind x scope ss from to c found founds lefts ls old after h s g go = record {
    ends = bare_each kind x scope ss from to c found founds lefts ls old after h s g go;
    outer = bare_outer kind x scope ss from to c found founds lefts ls old after h s g go;
  }

  bare_transaction : (kind : TransactionKind) (ss : Stmts) → StmtsFollow ss → (N K : ℕ) (x : Exits) (scope : LocalScope) (from to : ℕ) (founds lefts : List Memory) (memory : Memory) (kept : Bool) (text : List ℕ) (ls : List Local) (old : List ℕ) (after : Answer Completion → Outcome) → TransactionCode code layout p kind x (BodyCode scope ss) from to → Here scope ls old → AreMemories code founds → IsSeen Bare after → GoesByCompletion N K Bare after x (Here scope) (Here scope) to → Goes p call code layout frames cf are N K Bare (record { founds = founds; lefts = lefts; memory = memory; kept = kept }) text ls from old (λ s. after (go_on (tick s) (λ u. transaction kind (in_scope (stmts p call ss)))))
  bare_transaction kind ss ih N K x scope from to [] lefts memory kept text ls old after c h g s go =
      same (effect code) (λ n. after (go_on (tick (state n ls (Outside [] lefts) text)) (λ u. stop Wants))) (wanted kind (in_scope (stmts p call ss)) lefts text ls after)
      (wants_one code after lefts memory kept text ls (configuration code from old frames) (configuration code (suc from) old frames) (configuration code to old frames) s (effect_at code from (Instr.Begin to) old frames c.begins))
    where
      wanted : (kind : TransactionKind) (run : Action Completion) (lefts : List Memory) (text : List ℕ) (ls : List Local) (after : Answer Completion → Outcome) (n : ℕ) → after (go_on (tick (state n ls (Outside [] lefts) text)) (λ u. transaction kind run)) ≡ after (go_on (tick (state n ls (Outside [] lefts) text)) (λ u. stop Wants))
      wanted kind run lefts text ls after zero = refl
      wanted kind run lefts text ls after (suc n) = refl
  bare_transaction kind ss ih N K x scope from to (found ∷ founds) lefts memory kept text ls old after c h g s go =
      let round : Transactions = outermost_alone code (mode_of kind) (configuration code to old frames) found founds lefts in
      let after1 : Answer Completion → Outcome = λ q. after (close kind founds lefts ls found q) in
      let seen1 : IsSeen (Within round) after1 = record { spent = λ t. s.spent _; wants = λ t. s.wants _; trapped = λ k t. s.trapped k _; astray = λ t. s.astray _ } in
      tick_goes code Bare after (transaction kind (in_scope (stmts p call ss))) (record { founds = found ∷ founds; lefts = lefts; memory = memory; kept = kept }) ls text (configuration code from old frames) s
      (begins_outermost code found founds lefts memory kept text (mode_of kind) (configuration code from old frames) (configuration code (suc from) old frames) (configuration code to old frames) (effect_at code from (Instr.Begin to) old frames c.begins)
      (scoped_follows ss ih N K (in_transaction kind x) scope (suc from) c.last (Within round) (record { founds = founds; lefts = lefts; memory = found; kept = false }) text ls old after1 c.runs h (g.0, (λ e. (refl, e)), (λ e. e)) seen1
      (bare_ends kind x scope ss from to c found founds lefts ls old after h s g.1 go)))

  -- what is good in an inner transaction is good outside it
  good_out : (h : Transactions) (kind : TransactionKind) (sh sh1 : Shared) (m : Memory) (d : Configuration) → IsGood code (Within h) sh → IsGood code (Within (with_inner code h (mode_of kind) m d)) sh1 → IsGood code (Within h) sh1
  good_out h kind sh sh1 m d g g1 = (g1.0, (λ e. ((g1.1 e).0, (g.1 e).1)), g1.2)

  inner_each : {N K : ℕ} (k : Transactions) (kind : TransactionKind) (x : Exits) (scope : LocalScope) (ss : Stmts) (from to : ℕ) (c : TransactionCode code layout p kind x (BodyCode scope ss) from to) (sh : Shared) (ls : List Local) (old : List ℕ) (after : Answer Completion → Outcome) → Here scope ls old → IsGood code (Within k) sh → GoesByCompletion N K (Within k) after x (Here scope) (Here scope) to → EndsGo N K (Within (with_inner code k (mode_of kind) sh.memory (configuration code to old frames))) (λ q. after (close_inner k.mode kind ls sh.memory q)) (in_transaction kind x) (Here scope) (Here scope) c.last
  inner_each k kind x scope ss from to c sh ls old after h g go Next sh1 text ls1 rs q good arrived =
      commits_inner code k sh1 text (mode_of kind) sh.memory (configuration code q rs frames) (configuration code (suc q) rs frames) (configuration code to old frames) (effect_at code q Instr.Commit rs frames (subst (λ y. InstructionAt code y Instr.Commit) (sym arrived.0) c.commits))
      (go.ends Next sh1 text ls1 rs (suc q) (good_out k kind sh sh1 sh.memory (configuration code to old frames) g good) (ap suc arrived.0 ∙ sym c.to_is, arrived.1))
  inner_each k kind x scope ss from to c sh ls old after h g go Breaks sh1 text ls1 rs q good arrived =
      commits_inner code k sh1 text (mode_of kind) sh.memory (configuration code q rs frames) (configuration code (suc q) rs frames) (configuration code to old frames) (effect_at code q Instr.Commit rs frames arrived.0.0)
      (go.ends Breaks sh1 text ls1 rs (suc q) (good_out k kind sh sh1 sh.memory (configuration code to old frames) g good) (arrived.0.1, arrived.1))
  inner_each k kind x scope ss from to c sh ls old after h g go Continues sh1 text ls1 rs q good arrived =
      commits_inner code k sh1 text (mode_of kind) sh.memory (configuration code q rs frames) (configuration code (suc q) rs frames) (configuration code to old frames) (effect_at code q Instr.Commit rs frames arrived.0.0)
      (go.ends Continues sh1 text ls1 rs (suc q) (good_out k kind sh sh1 sh.memory (configuration code to old frames) g good) (arrived.0.1, arrived.1))
  inner_each k kind x scope ss from to c sh ls old after h g go (Returns v) sh1 text ls1 rs q good arrived =
      commits_inner code k sh1 text (mode_of kind) sh.memory (configuration code q rs frames) (configuration code (suc q) rs frames) (configuration code to old frames) (effect_at code q Instr.Commit rs frames arrived.1.0)
      (go.ends (Returns v) sh1 text ls1 rs (suc q) (good_out k kind sh sh1 sh.memory (configuration code to old frames) g good) (arrived.0, arrived.1.1, arrived.2))
  inner_each k kind x scope ss from to c sh ls old after h g go Cancels sh1 text ls1 rs q good arrived =
      cancels_inner code k sh1 text (mode_of kind) sh.memory (configuration code q rs frames) (configuration code to old frames) (effect_at code q Instr.Cancel rs frames arrived.1)
      (go.ends Next (record sh1 { memory = sh.memory }) text ls old to (g.0, (λ e. ((good.1 e).0, (g.1 e).1)), good.2) (refl, h))
  inner_each k kind x scope ss from to c sh ls old after h g go CancelsOuter sh1 text ls1 rs q good arrived = absurd arrived

  inner_outer : {N K : ℕ} (k : Transactions) (kind : TransactionKind) (x : Exits) (scope : LocalScope) (ss : Stmts) (from to : ℕ) (c : TransactionCode code layout p kind x (BodyCode scope ss) from to) (sh : Shared) (ls : List Local) (old : List ℕ) (after : Answer Completion → Outcome) → Here scope ls old → IsGood code (Within k) sh → GoesByCompletion N K (Within k) after x (Here scope) (Here scope) to → OuterGoes code N K (Within (with_inner code k (mode_of kind) sh.memory (configuration code to old frames))) (λ q. after (close_inner k.mode kind ls sh.memory q)) (with_level kind x.in_outer)
  inner_outer k Outer x scope ss from to c sh ls old after h g go = (
    (λ e. absurd (cc e)),
    λ sh1 text ls1 s0 good cancels.
        fewer (effect code) (omega arith) (omega arith)
        (quiet (effect code) cancels.next_is (sym cancels.seen)
        (go.ends Next (record sh1 { memory = sh.memory }) text ls old to (g.0, (λ e. ((good.1 e).0, (g.1 e).1)), good.2) (refl, h))),
  )
  inner_outer k (Plain mode) x scope ss from to c sh ls old after h g go =
      through_plain code _ _ k mode sh.memory (configuration code to old frames) sh ls after g x.in_outer go.outer

  inner_ends : {N K : ℕ} (k : Transactions) (kind : TransactionKind) (x : Exits) (scope : LocalScope) (ss : Stmts) (from to : ℕ) (c : TransactionCode code layout p kind x (BodyCode scope ss) from to) (sh : Shared) (ls : List Local) (old : List ℕ) (after : Answer Completion → Outcome) → Here scope ls old → IsGood code (Within k) sh → GoesByCompletion N K (Within k) after x (Here scope) (Here scope) to → GoesByCompletion N K (Within (with_inner code k (mode_of kind) sh.memory (configuration code to old frames))) (λ q. after (close_inner k.mode kind ls sh.memory q)) (in_transaction kind x) (Here scope) (Here scope) c.last
  inner_ends k kind x scope ss from to c sh ls old after h g go =
      record { ends = inner_each k kind x scope ss from to c sh ls old after h g go; outer = inner_outer k kind x scope ss from to c sh ls old after h g go }

  inner_transaction : (kind : TransactionKind) (ss : Stmts) → StmtsFollow ss → (N K : ℕ) (x : Exits) (scope : LocalScope) (from to : ℕ) (k : Transactions) (sh : Shared) (text : List ℕ) (ls : List Local) (old : List ℕ) (after : Answer Completion → Outcome) → Enters k.mode kind → TransactionCode code layout p kind x (BodyCode scope ss) from to → Here scope ls old → IsGood code (Within k) sh → IsSeen (Within k) after → GoesByCompletion N K (Within k) after x (Here scope) (Here scope) to → Goes p call code layout frames cf are N K (Within k) sh text ls from old (λ s. after (transaction kind (in_scope (stmts p call ss)) s))
  inner_transaction kind ss ih N K x scope from to k sh text ls old after (inl e) c h g s go =
      let run : Action Completion = in_scope (stmts p call ss) in
      let round : Transactions = with_inner code k (mode_of kind) sh.memory (configuration code to old frames) in
      let after1 : Answer Completion → Outcome = λ q. after (close_inner k.mode kind ls sh.memory q) in
      let seen1 : IsSeen (Within round) after1 = record { spent = s.spent; wants = s.wants; trapped = s.trapped; astray = s.astray } in
      same (effect code) (λ n. after1 (run (state n ls (Inside (mode_of kind) sh.memory) text))) (λ n. ap after (e.0 sh.memory run (state n ls (Inside k.mode sh.memory) text)))
      (begins_inner code k sh text (mode_of kind) (configuration code from old frames) (configuration code (suc from) old frames) (configuration code to old frames) (effect_at code from (Instr.Begin to) old frames c.begins)
      (scoped_follows ss ih N K (in_transaction kind x) scope (suc from) c.last (Within round) sh text ls old after1 c.runs h (g.0, (λ d. ((g.1 d).0, e.1 (g.1 d).1)), g.2) seen1
      (inner_ends k kind x scope ss from to c sh ls old after h g go)))
  inner_transaction kind ss ih N K x scope from to k sh text ls old after (inr e) c h g s go =
      let run : Action Completion = in_scope (stmts p call ss) in
      same (effect code) (λ n. after (Stops Astray (state n ls (Inside k.mode sh.memory) text))) (λ n. ap after (e sh.memory run (state n ls (Inside k.mode sh.memory) text)))
      (astray (effect code) 0 (s.astray _))

  transaction_follows : (kind : TransactionKind) (ss : Stmts) → StmtsFollow ss → (N K : ℕ) (x : Exits) (scope : LocalScope) (from to : ℕ) (a : Around) (sh : Shared) (text : List ℕ) (ls : List Local) (old : List ℕ) (after : Answer Completion → Outcome) → TransactionCode code layout p kind x (BodyCode scope ss) from to → Here scope ls old → IsGood code a sh → IsSeen a after → GoesByCompletion N K a after x (Here scope) (Here scope) to → Goes p call code layout frames cf are N K a sh text ls from old (λ s. after (go_on (tick s) (λ u. transaction kind (in_scope (stmts p call ss)))))
  transaction_follows kind ss ih N K x scope from to Bare sh text ls old after c h g s go =
      bare_transaction kind ss ih N K x scope from to sh.founds sh.lefts sh.memory sh.kept text ls old after c h g s go
  transaction_follows kind ss ih N K x scope from to (Within k) sh text ls old after c h g s go =
      tick_goes code (Within k) after (transaction kind (in_scope (stmts p call ss))) sh ls text (configuration code from old frames) s
      (inner_transaction kind ss ih N K x scope from to k sh text ls old after (enters k.mode kind) c h g s go)

  -- `if` and `else`
  if_follows : {N K : ℕ} (x : Exits) (scope : LocalScope) (e : Expr) (st : Stmt) → StmtFollows st → (from to : ℕ) (c : IfCode code layout p scope (Testing code layout p scope e) (StmtCode code layout p x scope st) from to) (a : Around) (sh : Shared) (text : List ℕ) (ls : List Local) (old : List ℕ) (after : Answer Completion → Outcome) → Here scope ls old → IsGood code a sh → IsSeen a after → GoesByCompletion N K a after x (Here scope) (Here scope) to → Goes p call code layout frames cf are N K a sh text ls from old (λ s. after ((expr p call e >>= λ v. if is_zero v then pure Next else in_scope (stmt p call st)) s))
  if_follows {N = N} {K = K} x scope e st ih from to c a sh text ls old after h good s go =
      fewer (effect code) (omega arith) (omega arith)
      (test_follows p call code layout frames cf are scope e from c.true_exit c.false_exit c.tests a sh text ls old (λ q. after (go_on q rest)) h good (on_seen a after rest s) places)
    where
      rest : Value → Action Completion
      rest v = if is_zero v then pure Next else in_scope (stmt p call st)

      places : GoesTest p call code layout frames cf are N K a (λ q. after (go_on q rest)) scope ls c.true_exit c.false_exit
      places v true sh1 text1 rs1 z h1 good1 =
          same (effect code) (λ n. after (Gives Next (state n ls (context_of a sh1) text1)))
          (λ n. ap (λ b. after ((if b then pure Next else in_scope (stmt p call st)) (state n ls (context_of a sh1) text1))) z)
          (leads p call code layout frames a sh1 text1 c.false_exit to rs1 c.else_leads (go.ends Next sh1 text1 ls rs1 to good1 (refl, h1)))
      places v false sh1 text1 rs1 z h1 good1 =
          same (effect code) (λ n. after (in_scope (stmt p call st) (state n ls (context_of a sh1) text1)))
          (λ n. ap (λ b. after ((if b then pure Next else in_scope (stmt p call st)) (state n ls (context_of a sh1) text1))) z)
          (part_follows st ih N K x scope c.true_exit c.last a sh1 text1 ls rs1 after c.then_code h1 good1 s (leads_end a after x scope c.last to c.then_leads go))

  else_follows : {N K : ℕ} (x : Exits) (scope : LocalScope) (e : Expr) (st su : Stmt) → StmtFollows st → StmtFollows su → (from to : ℕ) (c : IfElseCode code layout p scope (Testing code layout p scope e) (StmtCode code layout p x scope st) (StmtCode code layout p x scope su) from to) (a : Around) (sh : Shared) (text : List ℕ) (ls : List Local) (old : List ℕ) (after : Answer Completion → Outcome) → Here scope ls old → IsGood code a sh → IsSeen a after → GoesByCompletion N K a after x (Here scope) (Here scope) to → Goes p call code layout frames cf are N K a sh text ls from old (λ s. after ((expr p call e >>= λ v. if is_zero v then in_scope (stmt p call su) else in_scope (stmt p call st)) s))
  else_follows {N = N} {K = K} x scope e st su iht ihu from to c a sh text ls old after h good s go =
      fewer (effect code) (omega arith) (omega arith)
      (test_follows p call code layout frames cf are scope e from c.true_exit c.false_exit c.tests a sh text ls old (λ q. after (go_on q rest)) h good (on_seen a after rest s) places)
    where
      rest : Value → Action Completion
      rest v = if is_zero v then in_scope (stmt p call su) else in_scope (stmt p call st)

      places : GoesTest p call code layout frames cf are N K a (λ q. after (go_on q rest)) scope ls c.true_exit c.false_exit
      places v true sh1 text1 rs1 z h1 good1 =
          same (effect code) (λ n. after (in_scope (stmt p call su) (state n ls (context_of a sh1) text1)))
          (λ n. ap (λ b. after ((if b then in_scope (stmt p call su) else in_scope (stmt p call st)) (state n ls (context_of a sh1) text1))) z)
          (part_follows su ihu N K x scope c.false_exit c.end a sh1 text1 ls rs1 after c.else_code h1 good1 s (leads_end a after x scope c.end to c.else_leads go))
      places v false sh1 text1 rs1 z h1 good1 =
          same (effect code) (λ n. after (in_scope (stmt p call st) (state n ls (context_of a sh1) text1)))
          (λ n. ap (λ b. after ((if b then in_scope (stmt p call su) else in_scope (stmt p call st)) (state n ls (context_of a sh1) text1))) z)
          (part_follows st iht N K x scope c.true_exit c.last a sh1 text1 ls rs1 after c.then_code h1 good1 s (leads_end a after x scope c.last to c.then_leads go))

  -- turns gain no ticks
  pub record TurnsFall : Type 0 where
    pub while_falls : (c : Expr) (st : Stmt) → Falls (while_turn p call c st)
    pub do_falls : (st : Stmt) (c : Expr) → Falls (do_turn p call st c)
    pub for_falls : (c : Option Expr) (step : Option Simple) (st : Stmt) → Falls (for_turn p call c step st)

  module _ (fall : TurnsFall) where
    timed : (run : Action Completion) (N K from : ℕ) (a : Around) (sh : Shared) (text : List ℕ) (ls : List Local) (old : List ℕ) (after : Answer Completion → Outcome) → IsSeen a after → Goes p call code layout frames cf are N K a sh text ls from old (λ s. after (run s)) → Goes p call code layout frames cf are N K a sh text ls from old (λ s. after (go_on (tick s) (λ u. run)))
    timed run N K from a sh text ls old after s go = tick_goes code a after run sh ls text (configuration code from old frames) s go

    mutual
      pub stmt_follows : (st : Stmt) → StmtFollows st
      stmt_follows Empty N K x scope from to a sh text ls old after c h good s go =
          timed (pure Next) N K from a sh text ls old after s (go.ends Next sh text ls old from good (sym c, h))
      stmt_follows (Declare d) N K x scope from to a sh text ls old after c h good s go =
          timed (declare p call d.ty d.declarators) N K from a sh text ls old after s
          (declare_follows d.ty d.declarators x scope from to c a sh text ls old after h good s (λ sh1 text1 ls1 rs1 good1 h1. go.ends Next sh1 text1 ls1 rs1 to good1 (refl, h1)))
      stmt_follows (Do st) N K x scope from to a sh text ls old after c h good s go =
          timed (simple p call st) N K from a sh text ls old after s
          (simple_follows p call code layout frames cf are scope st from to c a sh text ls old after h good s (λ sh1 text1 ls1 rs1 good1 h1. go.ends Next sh1 text1 ls1 rs1 to good1 (refl, h1)))
      stmt_follows (Block ss) N K x scope from to a sh text ls old after c h good s go =
          timed (in_scope (stmts p call ss)) N K from a sh text ls old after s
          (scoped_follows ss (stmts_follow ss) N K x scope from to a sh text ls old after c h good s go)
      stmt_follows (Print at f g es) N K x scope from to a sh text ls old after c h good s go =
          timed (may_print >> print_rest p call code layout frames cf are f es) N K from a sh text ls old after s
          (print_follows p call code layout frames cf are scope f es from to c a sh text ls old after h good s (λ sh1 text1 ls1 rs1 good1 h1. go.ends Next sh1 text1 ls1 rs1 to good1 (refl, h1)))
      stmt_follows (If e st) N K x scope from to a sh text ls old after c h good s go =
          timed (expr p call e >>= λ v. if is_zero v then pure Next else in_scope (stmt p call st)) N K from a sh text ls old after s
          (if_follows x scope e st (stmt_follows st) from to c a sh text ls old after h good s go)
      stmt_follows (IfElse e st su) N K x scope from to a sh text ls old after c h good s go =
          timed (expr p call e >>= λ v. if is_zero v then in_scope (stmt p call su) else in_scope (stmt p call st)) N K from a sh text ls old after s
          (else_follows x scope e st su (stmt_follows st) (stmt_follows su) from to c a sh text ls old after h good s go)
      stmt_follows (While e st) N K x scope from to a sh text ls old after c h good s go =
          timed (loop (while_turn p call e st)) N K from a sh text ls old after s
          (leads p call code layout frames a sh text from c.test_at old c.enters
          (loop_follows (N + K) N K (omega arith) x scope (while_turn p call e st) c.test_at to a sh text ls old after (fall.while_falls e st) (while_follows x scope e st (stmt_follows st) from to c a after s) h good s go))
      stmt_follows (DoWhile st e) N K x scope from to a sh text ls old after c h good s go =
          timed (loop (do_turn p call st e)) N K from a sh text ls old after s
          (leads p call code layout frames a sh text from c.body_at old c.enters
          (loop_follows (N + K) N K (omega arith) x scope (do_turn p call st e) c.body_at to a sh text ls old after (fall.do_falls st e) (do_follows x scope e st (stmt_follows st) from to c a after s) h good s go))
      stmt_follows (For b e d st) N K x scope from to a sh text ls old after c h good s go =
          timed (in_scope (start_with p call b >> loop (for_turn p call e d st))) N K from a sh text ls old after s
          (whole_for x scope b e d st (stmt_follows st) (fall.for_falls e d st) N K from to c a sh text ls old after h good s go)
      stmt_follows (Break at) N K x scope from to a sh text ls old after c h good s go =
          timed (pure Breaks) N K from a sh text ls old after s (go.ends Breaks sh text ls old from good (c, h))
      stmt_follows (Continue at) N K x scope from to a sh text ls old after c h good s go =
          timed (pure Continues) N K from a sh text ls old after s (go.ends Continues sh text ls old from good (c, h))
      stmt_follows (Return None at) N K x scope from to a sh text ls old after c h good s go =
          timed (pure (Returns (flag false))) N K from a sh text ls old after s (go.ends (Returns (flag false)) sh text ls old from good (None, c, sym (ap (λ (v : Value). v.word) (truth_converted Int x.gives false))))
      stmt_follows (Return (Some e) at) N K x scope from to a sh text ls old after c h good s go =
          let rest : Value → Action Completion = λ v. pure (Returns v) in
          timed (expr p call e >>= rest) N K from a sh text ls old after s
          (result_follows p call code layout frames cf are scope x.gives e from c.0 c.1 c.2 a sh text ls old (λ q. after (go_on q rest)) h good (on_seen a after rest s)
          (λ v sh1 text1 rs1 here h1 good1. go.ends (Returns v) sh1 text1 ls rs1 c.0 good1 (Some c.1, c.3, here)))
      stmt_follows (Transaction kind ss at) N K x scope from to a sh text ls old after c h good s go =
          transaction_follows kind ss (stmts_follow ss) N K x scope from to a sh text ls old after c h good s go
      stmt_follows (Cancel at) N K x scope from to a sh text ls old after c h good s go =
          timed (pure Cancels) N K from a sh text ls old after s (go.ends Cancels sh text ls old from good c)
      stmt_follows (CancelOuter at) N K x scope from to a sh text ls old after c h good s go =
          timed (pure CancelsOuter) N K from a sh text ls old after s (outer_follows code p layout frames x.in_outer from c a sh text ls old after good go.outer)

      pub stmts_follow : (ss : Stmts) → StmtsFollow ss
      stmts_follow Stmts.[] N K x scope from to a sh text ls old after c h good s go = go.ends Next sh text ls old from good (sym c, h)
      stmts_follow (Stmts.◌∷◌ st ss) N K x scope from to a sh text ls old after c h good s go =
          stmt_follows st N K x scope from c.0 a sh text ls old (λ q. after (go_on q (on_next (stmts p call ss)))) c.1 h good (on_seen a after (on_next (stmts p call ss)) s)
          (sequence N K x st ss (stmts_follow ss) scope c.0 to a after c.2 s go)
