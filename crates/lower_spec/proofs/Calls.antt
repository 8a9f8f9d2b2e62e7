-- The instructions of functions do what calls of them do, and the code means the program.
use Rattle.std.proofs.Common.{◌≡◌, ℕ, zero, suc, ◌+◌, ◌-◌, ◌<◌, ◌≤◌, ◌^◌, Bool, true, false, List, [], ◌∷◌, ◌++◌, length, Option, Some, None, refl, sym, ap, ◌∙◌, subst, arith}
use Rattle.std.specs.Prelude.{bytes_eq, codes, slice_get, slice_index, slice_set, map, replicate, if◌then◌else◌, nat_lt, is_some, unwrap_or, option_map}
use Rattle.std.proofs.lemmas.Slice.Eq.{bytes_eq-Decides}
use Rattle.std.specs.List.{AllByRecursion}
use Rattle.std.proofs.lemmas.List.{get_or-set_same, get_or-set_other, length-set, length-append, length-map, length-replicate, map-append}
use Rattle.std.proofs.lemmas.Bool.{lt-ltb}
use Rattle.lex.specs.declared.token.Scalar.{Scalar}
use Rattle.lex.specs.declared.token.Scalar.TheVariants.{Int, Unsigned, LongLong}
use Rattle.syntax.specs.declared.thread_end.Trap.TheVariants.{Frames}
use Rattle.syntax.specs.declared.value.Value.{Value}
use Rattle.syntax.specs.Tree.{Name, Parameter, Function, Stmts, Program}
use Rattle.syntax.specs.Numbers.{modulus, number_of, value_in_type, flag}
use Rattle.syntax.specs.Names.{Local, word_at, definition_of, GlobalCells, global_of, bounds, bounds_of as cell_bounds}
use Rattle.syntax.specs.Laws.{shape}
use Rattle.syntax.specs.declared.thread_end.Status.TheVariants.{Running}
use Rattle.syntax.specs.Behaviours.{Memory, IsMemory, Outcome, Ended, Means}
use Rattle.syntax.specs.Actions.{Outside, Answer, Gives, Action, go_on, ◌>>=◌, ◌>>◌, tick, or_astray, locals, put_locals}
use Rattle.syntax.specs.Meaning.{Completion, Next, Breaks, Continues, Returns, Cancels, CancelsOuter, stmts, call_locals, result_of, calls}
use Rattle.syntax.specs.Threads.{outcome_of, first_state, thread}
use Rattle.syntax.specs.Typing.{IsTypedProgram}
use Rattle.syntax.proofs.words.Words.{word_below}
use Rattle.syntax.proofs.words.Memories.{typed_cells}
use Rattle.bytecode.specs.Effects.{Effect}
use Rattle.bytecode.specs.Sequential.{start, meaning, sequential_step, outside}
use Rattle.bytecode.specs.Code.{Code, FunctionCode, Configuration, Frame, Instr, bounds_of, effect, effect_of, call_effect}
use Rattle.bytecode.specs.Beginning.{worker_among, beginning_in, beginning}
use Rattle.lower_spec.specs.Expressions.{LocalScope, InstructionAt, Layout, named_ones, nameless_ones, argument_order}
use Rattle.lower_spec.specs.inner.Locals.{locals_at_end}
use Rattle.lower_spec.specs.Programs.{parameter_locals, no_exits, ConstantsCode, FunctionIsLowered, IsLowered}
use Rattle.lower_spec.specs.Means.{MeansItsProgram}
use Rattle.lower_spec.proofs.Agreement.{Agrees, NeverAstray, astray, same, fewer, shown, over}
use Rattle.lower_spec.proofs.Runs.{Around, Bare, Shared, context_of, sequential_state, state, IsSeen, on_seen, KnownCells, HasCellsOf, AreMemories, IsGood, registers_in, HasLocals, configuration, effect_at, goes_by, traps, less, all}
use Rattle.lower_spec.proofs.Conversions.{conversions, truth_converted}
use Rattle.lower_spec.proofs.Expressions.{CallsFollow, handed}
use Rattle.lower_spec.proofs.Locals.{AreWords, length_like}
use Rattle.lower_spec.proofs.Flow.{GoesByCompletion, word_in, ArrivedAt, HereAt, MoreAt, TurnsFall, stmts_follow}
use Rattle.lower_spec.proofs.Turns.{while_falls, do_falls, for_falls}

-- the words of arguments in the types of parameters
abbrev words_for : List Parameter → List Value → List ℕ
words_for qs vs = handed (map (λ (q : Parameter). q.ty) qs) vs

length_handed : (ts : List Scalar) (vs : List Value) → length (handed ts vs) ≡ length vs
length_handed ts [] = refl
length_handed [] (v ∷ vs) = ap suc (length_handed [] vs)
length_handed (t ∷ ts) (v ∷ vs) = ap suc (length_handed ts vs)

-- locals that a call begins with: its arguments, where a parameter's name binds them
record Entered (qs : List Parameter) (vs : List Value) (ls : List Local) : Type 0 where
  count : length vs ≡ length qs
  shapes : map shape ls ≡ map shape (parameter_locals qs)
  words : map (λ (l : Local). l.word) ls ≡ named_ones qs (words_for qs vs)
  own : AreWords ls

abbrev EnteredSo : List Parameter → List Value → Option (List Local) → Type 0
EnteredSo qs vs None = Unit {0}
EnteredSo qs vs (Some ls) = Entered qs vs ls

first_entered : (q : Parameter) (n : Option Name) (qs : List Parameter) (v : Value) (vs : List Value) (o : Option (List Local)) → q.name ≡ n → EnteredSo qs vs o → EnteredSo (q ∷ qs) (v ∷ vs) (option_map (λ ls. unwrap_or (option_map (λ (x : Name). record { name = x.text; ty = q.ty; word = (value_in_type q.ty v).word } ∷ []) n) [] ++ ls) o)
first_entered q n qs v vs None e h = tt
first_entered q None qs v vs (Some ls) e h =
    let w : ℕ = (value_in_type q.ty v).word in
    let ws : List ℕ = words_for qs vs in
    record {
      count = ap suc h.count;
      shapes = h.shapes ∙ ap (λ (n : Option Name). map shape (unwrap_or (option_map (λ (x : Name). record { name = x.text; ty = q.ty; word = 0 } ∷ []) n) [] ++ parameter_locals qs)) (sym e);
      words = h.words ∙ ap (λ (n : Option Name). if is_some n then w ∷ named_ones qs ws else named_ones qs ws) (sym e);
      own = h.own;
    }
first_entered q (Some x) qs v vs (Some ls) e h =
    let w : ℕ = (value_in_type q.ty v).word in
    let ws : List ℕ = words_for qs vs in
    record {
      count = ap suc h.count;
      shapes = ap (λ (s : List (List ℕ × Scalar)). (x.text, q.ty) ∷ s) h.shapes ∙ ap (λ (n : Option Name). map shape (unwrap_or (option_map (λ (x : Name). record { name = x.text; ty = q.ty; word = 0 } ∷ []) n) [] ++ parameter_locals qs)) (sym e);
      words = ap (λ us. w ∷ us) h.words ∙ ap (λ (n : Option Name). if is_some n then w ∷ named_ones qs ws else named_ones qs ws) (sym e);
      own = (word_below q.ty (number_of v), h.own);
    }

all_entered : (qs : List Parameter) (vs : List Value) → EnteredSo qs vs (call_locals qs vs)
all_entered [] [] = record { count = refl; shapes = refl; words = refl; own = tt }
all_entered [] (v ∷ vs) = tt
all_entered (q ∷ qs) [] = tt
all_entered (q ∷ qs) (v ∷ vs) = first_entered q q.name qs v vs (call_locals qs vs) refl (all_entered qs vs)

-- what is arranged: each once, whatever it is taken to
mapped_or : (b : Bool) (f : ℕ → ℕ) (r : ℕ) (xs : List ℕ) → map f (if b then r ∷ xs else xs) ≡ (if b then f r ∷ map f xs else map f xs)
mapped_or true f r xs = refl
mapped_or false f r xs = refl

mapped_else : (b : Bool) (f : ℕ → ℕ) (r : ℕ) (xs : List ℕ) → map f (if b then xs else r ∷ xs) ≡ (if b then map f xs else f r ∷ map f xs)
mapped_else true f r xs = refl
mapped_else false f r xs = refl

named_mapped : (f : ℕ → ℕ) (qs : List Parameter) (rs : List ℕ) → map f (named_ones qs rs) ≡ named_ones qs (map f rs)
named_mapped f [] rs = refl
named_mapped f (q ∷ qs) [] = refl
named_mapped f (q ∷ qs) (r ∷ rs) = mapped_or (is_some q.name) f r (named_ones qs rs) ∙ ap (λ xs. if is_some q.name then f r ∷ xs else xs) (named_mapped f qs rs)

nameless_mapped : (f : ℕ → ℕ) (qs : List Parameter) (rs : List ℕ) → map f (nameless_ones qs rs) ≡ nameless_ones qs (map f rs)
nameless_mapped f [] rs = refl
nameless_mapped f (q ∷ qs) [] = refl
nameless_mapped f (q ∷ qs) (r ∷ rs) = mapped_else (is_some q.name) f r (nameless_ones qs rs) ∙ ap (λ xs. if is_some q.name then xs else f r ∷ xs) (nameless_mapped f qs rs)

arranged_mapped : (f : ℕ → ℕ) (qs : List Parameter) (rs : List ℕ) → map f (argument_order qs rs) ≡ argument_order qs (map f rs)
arranged_mapped f qs rs = map-append f (named_ones qs rs) (nameless_ones qs rs) ∙ ap (λ xs. xs ++ map f (nameless_ones qs rs)) (named_mapped f qs rs) ∙ ap (λ xs. named_ones qs (map f rs) ++ xs) (nameless_mapped f qs rs)

length_one : (b : Bool) (r k m : ℕ) (xs ys : List ℕ) → length xs + length ys ≡ k → length (if b then r ∷ xs else xs) + length (if b then ys else r ∷ ys) ≡ suc k
length_one true r k m xs ys e = omega (arith, e)
length_one false r k m xs ys e = omega (arith, e)

length_parts : (qs : List Parameter) (rs : List ℕ) → length rs ≡ length qs → length (named_ones qs rs) + length (nameless_ones qs rs) ≡ length qs
length_parts [] [] e = refl
length_parts [] (r ∷ rs) e = absurd (omega (arith, e))
length_parts (q ∷ qs) [] e = absurd (omega (arith, e))
length_parts (q ∷ qs) (r ∷ rs) e = length_one (is_some q.name) r (length qs) 0 (named_ones qs rs) (nameless_ones qs rs) (length_parts qs rs (omega (arith, e)))

length_arranged : (qs : List Parameter) (rs : List ℕ) → length rs ≡ length qs → length (argument_order qs rs) ≡ length qs
length_arranged qs rs e = length-append (named_ones qs rs) (nameless_ones qs rs) ∙ length_parts qs rs e

one_of : (b : Bool) (w : ℕ) → (if b then w ∷ [] else []) ++ (if b then [] else w ∷ []) ≡ w ∷ []
one_of true w = refl
one_of false w = refl

one_arranged : (qs : List Parameter) (w : ℕ) → 1 ≡ length qs → argument_order qs (w ∷ []) ≡ w ∷ []
one_arranged [] w e = absurd (omega (arith, e))
one_arranged (q ∷ []) w e = one_of (is_some q.name) w
one_arranged (q ∷ r ∷ qs) w e = absurd (omega (arith, e))

-- a thread's number, in whatever type
one_handed : (qs : List Parameter) (t : ℕ) → t < 2 ^ 32 → 1 ≡ length qs → argument_order qs (words_for qs (record { ty = Unsigned; word = t } ∷ [])) ≡ t ∷ []
one_handed [] t below e = absurd (omega (arith, e))
one_handed (q ∷ qs) t below e = ap (λ w. argument_order (q ∷ qs) (w ∷ [])) (own q.ty) ∙ one_arranged (q ∷ qs) t e
  where
    own : (u : Scalar) → (value_in_type u (record { ty = Unsigned; word = t })).word ≡ t
    own Int = conversions Unsigned Int t below
    own Unsigned = conversions Unsigned Unsigned t below
    own LongLong = conversions Unsigned LongLong t below

word_listed : (ls : List Local) (i : ℕ) → word_at ls i ≡ slice_index (map (λ (l : Local). l.word) ls) i
word_listed [] i = refl
word_listed (l ∷ ls) zero = refl
word_listed (l ∷ ls) (suc i) = word_listed ls i

front_index : (xs ys : List ℕ) (i : ℕ) → i < length xs → slice_index (xs ++ ys) i ≡ slice_index xs i
front_index [] ys i h = absurd (omega (arith, h))
front_index (x ∷ xs) ys zero h = refl
front_index (x ∷ xs) ys (suc i) h = front_index xs ys i (omega (arith, h))

-- the registers that a function begins with
abbrev first_registers : FunctionCode → List ℕ → List ℕ
first_registers g words = words ++ replicate (g.registers - g.parameters) 0

-- words set in registers from one on, one after another
abbrev set_from : ℕ → List ℕ → List ℕ → List ℕ
set_from r [] rs = rs
set_from r (w ∷ ws) rs = set_from (suc r) ws (slice_set rs r w)

length_set_from : (r : ℕ) (ws rs : List ℕ) → length (set_from r ws rs) ≡ length rs
length_set_from r [] rs = refl
length_set_from r (w ∷ ws) rs = length_set_from (suc r) ws (slice_set rs r w) ∙ length-set rs r w

below_set : (r : ℕ) (ws rs : List ℕ) (i : ℕ) → i < r → slice_index (set_from r ws rs) i ≡ slice_index rs i
below_set r [] rs i h = refl
below_set r (w ∷ ws) rs i h = below_set (suc r) ws (slice_set rs r w) i (omega (arith, h)) ∙ get_or-set_other rs r i w 0 (λ e. omega (arith, h, e))

is_set : (r : ℕ) (ws rs : List ℕ) (k w i : ℕ) → i ≡ r + k → slice_get ws k ≡ Some w → r + length ws ≤ length rs → slice_index (set_from r ws rs) i ≡ w
is_set r [] rs k w i at e h = cc e
is_set r (x ∷ ws) rs zero w i at e h =
    below_set (suc r) ws (slice_set rs r x) i (omega (arith, at)) ∙ ap (slice_index (slice_set rs r x)) (omega (arith, at)) ∙ get_or-set_same rs r x 0 (omega (arith, h)) ∙ ap (λ o. unwrap_or o 0) e
is_set r (x ∷ ws) rs (suc k) w i at e h =
    let len : length (slice_set rs r x) ≡ length rs = length-set rs r x in
    is_set (suc r) ws (slice_set rs r x) k w i (omega (arith, at)) e (omega (arith, h, len))

entered_has_locals : (g : FunctionCode) (layout : Layout) (qs : List Parameter) (vs : List Value) (ls : List Local) → Entered qs vs ls → g.parameters ≡ length qs → length qs ≤ layout.writable → g.registers ≡ registers_in layout → HasLocals (parameter_locals qs) ls layout (length (parameter_locals qs)) (set_from layout.writable layout.constants (first_registers g (argument_order qs (words_for qs vs))))
entered_has_locals g layout qs vs ls h n fits all =
    let ws : List ℕ = words_for qs vs in
    let zeros : List ℕ = replicate (g.registers - g.parameters) 0 in
    let old : List ℕ = first_registers g (argument_order qs ws) in
    let len : length ls ≡ length (parameter_locals qs) = length_like (parameter_locals qs) ls h.shapes in
    let len2 : length ws ≡ length qs = length_handed (map (λ (q : Parameter). q.ty) qs) vs ∙ h.count in
    let len3 : length ls ≡ length (named_ones qs ws) = sym (length-map ls (λ (l : Local). l.word)) ∙ ap length h.words in
    let parts : length (named_ones qs ws) + length (nameless_ones qs ws) ≡ length qs = length_parts qs ws len2 in
    let whole : length (argument_order qs ws) ≡ length qs = length_arranged qs ws len2 in
    let len4 : length old ≡ length (argument_order qs ws) + length zeros = length-append (argument_order qs ws) zeros in
    let len5 : length zeros ≡ g.registers - g.parameters = length-replicate (g.registers - g.parameters) 0 in
    let size_is : length old ≡ registers_in layout = omega (arith, len4, len5, whole, n, fits, all) in
    record {
      like = h.shapes;
      room = omega (arith, len);
      fits = omega (arith, len3, parts, fits);
      size_is = length_set_from layout.writable layout.constants old ∙ size_is;
      each = λ i l. below_set layout.writable layout.constants old i (omega (arith, l, len3, parts, fits)) ∙ front_index (argument_order qs ws) zeros i (omega (arith, l, len3, parts, whole)) ∙ front_index (named_ones qs ws) (nameless_ones qs ws) i (omega (arith, l, len3)) ∙ ap (λ us. slice_index us i) (sym h.words) ∙ sym (word_listed ls i);
      words = h.own;
      preloaded = λ k w e. is_set layout.writable layout.constants old k w (layout.writable + k) refl e (omega (arith, size_is));
    }

-- the function of worker's name
worker_one : (b : Bool) (f : FunctionCode) (fs : List FunctionCode) (g : FunctionCode) → bytes_eq f.name (codes "worker") ≡ b → (if b then Some f else worker_among fs) ≡ Some g → ((e : worker_among fs ≡ Some g) → (i : ℕ) × (slice_get fs i ≡ Some g) × (g.name ≡ codes "worker")) → (i : ℕ) × (slice_get (f ∷ fs) i ≡ Some g) × (g.name ≡ codes "worker")
worker_one true f fs g e h more = (0, h, ap (λ (o : Option FunctionCode). unwrap_or (option_map (λ (k : FunctionCode). k.name) o) []) (sym h) ∙ (bytes_eq-Decides f.name (codes "worker")).0 e)
worker_one false f fs g e h more = let m = more h in (suc m.0, m.1, m.2)

is_nothing : Option FunctionCode → Type 0
is_nothing None = Unit {0}
is_nothing (Some f) = ⊥

worker_known : (fs : List FunctionCode) (g : FunctionCode) → worker_among fs ≡ Some g → (i : ℕ) × (slice_get fs i ≡ Some g) × (g.name ≡ codes "worker")
unfolding is_nothing
worker_known [] g e = absurd (subst is_nothing e tt)
worker_known (f ∷ fs) g e = worker_one (bytes_eq f.name (codes "worker")) f fs g refl e (worker_known fs g)

module _ (p : Program) (code : Code) (are : HasCellsOf code p) where
  -- turns gain no ticks
  turns_fall : (k : ℕ) (layout : Layout) (frames : List Frame) (cf : CallsFollow p (calls p k) code layout frames) → TurnsFall p (calls p k) code layout frames cf are
  turns_fall k layout frames cf = record { while_falls = while_falls p k; do_falls = do_falls p k; for_falls = for_falls p k }

  -- a function's body, up to its return
  abbrev GoesReturn : ℕ → ℕ → (a : Around) → (Answer Value → Outcome) → List Local → List Frame → Option Scalar → Type 0
  GoesReturn N K a after ls frames u =
      (v : Value) (sh : Shared) (text : List ℕ) (rs : List ℕ) (q : ℕ) (r : Option ℕ) → InstructionAt code q (Instr.Return r) → word_in r rs ≡ v.word → v.ty ≡ unwrap_or u Int → v.word < modulus v.ty → IsGood code a sh →
      Agrees (effect code) N K (sequential_state a sh text (configuration code q rs frames)) (λ n. after (Gives v (state n ls (context_of a sh) text)))

  -- what follows a body
  abbrev leaving : List Local → Option Scalar → Completion → Action Value
  leaving outer u end = put_locals outer >> result_of u end

  body_ends : (N K : ℕ) (layout : Layout) (a : Around) (ls : List Local) (frames : List Frame) (u : Option Scalar) (after : Answer Value → Outcome) (scope later : LocalScope) (last : ℕ) → InstructionAt code last (Instr.Return None) → IsSeen a after → GoesReturn N K a after ls frames u →
      (end : Completion) (sh : Shared) (text : List ℕ) (ls1 : List Local) (rs : List ℕ) (q : ℕ) → IsGood code a sh → ArrivedAt p code layout (no_exits u) (HereAt p code layout later) (MoreAt p code layout scope) last end q ls1 rs →
      Agrees (effect code) N K (sequential_state a sh text (configuration code q rs frames)) (λ n. after (go_on (Gives end (state n ls1 (context_of a sh) text)) (leaving ls u)))
  body_ends N K layout a ls frames u after scope later last i s go Next sh text ls1 rs q good arrived =
      go (value_in_type (unwrap_or u Int) (flag false)) sh text rs q None (subst (λ y. InstructionAt code y (Instr.Return None)) (sym arrived.0) i) (sym (ap (λ (v : Value). v.word) (truth_converted Int (unwrap_or u Int) false))) refl (word_below (unwrap_or u Int) (number_of (flag false))) good
  body_ends N K layout a ls frames u after scope later last i s go Breaks sh text ls1 rs q good arrived = astray (effect code) 0 (s.astray _)
  body_ends N K layout a ls frames u after scope later last i s go Continues sh text ls1 rs q good arrived = astray (effect code) 0 (s.astray _)
  body_ends N K layout a ls frames u after scope later last i s go (Returns v) sh text ls1 rs q good arrived =
      go (value_in_type (unwrap_or u Int) v) sh text rs q arrived.0 arrived.1 arrived.2 refl (word_below (unwrap_or u Int) (number_of v)) good
  body_ends N K layout a ls frames u after scope later last i s go Cancels sh text ls1 rs q good arrived = astray (effect code) 0 (s.astray _)
  body_ends N K layout a ls frames u after scope later last i s go CancelsOuter sh text ls1 rs q good arrived = absurd arrived

  -- the constants are set
  constants_run : {N K : ℕ} (ws : List ℕ) (r from to : ℕ) (a : Around) (sh : Shared) (text rs : List ℕ) (frames : List Frame) {does : ℕ → Outcome} → ConstantsCode code r ws from to → Agrees (effect code) N K (sequential_state a sh text (configuration code to (set_from r ws rs) frames)) does → Agrees (effect code) N K (sequential_state a sh text (configuration code from rs frames)) does
  constants_run {N = N} {K = K} [] r from to a sh text rs frames {does = does} c go = subst (λ q. Agrees (effect code) N K (sequential_state a sh text (configuration code q rs frames)) does) c go
  constants_run (w ∷ ws) r from to a sh text rs frames c go =
      goes_by code a sh text (configuration code from rs frames) (configuration code (suc from) (slice_set rs r w) frames) (effect_at code from (Instr.Constant r w) rs frames c.0)
      (constants_run ws (suc r) (suc from) to a sh text (slice_set rs r w) frames c.1 go)

  body_goes : (k : ℕ) (frames : List Frame) (layout : Layout) (cf : CallsFollow p (calls p k) code layout frames) (N K : ℕ) (a : Around) (ls : List Local) (u : Option Scalar) (after : Answer Value → Outcome) (scope later : LocalScope) (last : ℕ) → InstructionAt code last (Instr.Return None) → IsSeen a after → GoesReturn N K a after ls frames u → GoesByCompletion p (calls p k) code layout frames cf are N K a (λ q. after (go_on q (leaving ls u))) (no_exits u) (HereAt p code layout later) (MoreAt p code layout scope) last
  body_goes k frames layout cf N K a ls u after scope later last i s go = record { ends = body_ends N K layout a ls frames u after scope later last i s go; outer = tt }

  body_follows : (k : ℕ) (frames : List Frame) (g : FunctionCode) (f : Function) (body : Stmts) → (c : FunctionIsLowered p code g f body) → CallsFollow p (calls p k) code c.layout frames → (N K : ℕ) (vs : List Value) (rs : List ℕ) (o : Option (List Local)) → EnteredSo f.parameters vs o → (length vs ≡ length f.parameters → rs ≡ first_registers g (argument_order f.parameters (words_for f.parameters vs))) → (a : Around) (sh : Shared) (text : List ℕ) (ls : List Local) (after : Answer Value → Outcome) → IsGood code a sh → IsSeen a after → GoesReturn N K a after ls frames f.result → Agrees (effect code) N K (sequential_state a sh text (configuration code g.first rs frames)) (λ n. after (go_on (or_astray o (state n ls (context_of a sh) text)) (λ mine. locals >>= λ outer. put_locals mine >> (stmts p (calls p k) body >>= leaving outer f.result))))
  body_follows k frames g f body c cf N K vs rs None h e a sh text ls after good s go = astray (effect code) 0 (s.astray _)
  body_follows k frames g f body c cf N K vs rs (Some mine) h e a sh text ls after good s go =
      constants_run c.layout.constants c.layout.writable g.first c.begins a sh text rs frames c.sets
      (stmts_follow p (calls p k) code c.layout frames cf are (turns_fall k c.layout frames cf) body N K (no_exits f.result) (parameter_locals f.parameters) c.begins c.last a sh text mine (set_from c.layout.writable c.layout.constants rs) (λ q. after (go_on q (leaving ls f.result))) c.runs
      (subst (λ xs. HasLocals (parameter_locals f.parameters) mine c.layout (length (parameter_locals f.parameters)) (set_from c.layout.writable c.layout.constants xs)) (sym (e h.count)) (entered_has_locals g c.layout f.parameters vs mine h c.parameters c.fits c.registers)) good (on_seen a after (leaving ls f.result) s)
      (body_goes k frames c.layout cf N K a ls f.result after (parameter_locals f.parameters) (locals_at_end body (parameter_locals f.parameters)) c.last c.returns s go))

  -- calls, with so many further frames to come
  enters_frame : (frames : List Frame) (q d : ℕ) (rs : List ℕ) (args : List ℕ) (g : FunctionCode) (i : Instr) → length frames < 63 → effect_of code (configuration code q rs frames) (Some i) ≡ call_effect (configuration code q rs frames) d args (Some g) → InstructionAt code q i → effect code (configuration code q rs frames) ≡ Effect.Pure (configuration code g.first (first_registers g (map (slice_index rs) args)) (record { place = suc q; result = d; registers = rs } ∷ frames))
  enters_frame frames q d rs args g i b e at =
      effect_at code q i rs frames at ∙ e
      ∙ ap (λ x. if x then Effect.Pure (configuration code g.first (first_registers g (map (slice_index rs) args)) (record { place = suc q; result = d; registers = rs } ∷ frames)) else Effect.Traps Frames) (lt-ltb (length frames) 63 b)

  returns_word : (q d : ℕ) (rs : List ℕ) (frames : List Frame) (r : Option ℕ) (rs1 : List ℕ) (q1 w : ℕ) → word_in r rs1 ≡ w → effect_of code (configuration code q1 rs1 (record { place = suc q; result = d; registers = rs } ∷ frames)) (Some (Instr.Return r)) ≡ Effect.Pure (configuration code (suc q) (slice_set rs d w) frames)
  returns_word q d rs frames None rs1 q1 w e = ap (λ w. Effect.Pure (configuration code (suc q) (slice_set rs d w) frames)) e
  returns_word q d rs frames (Some r) rs1 q1 w e = ap (λ w. Effect.Pure (configuration code (suc q) (slice_set rs d w) frames)) e

  module _ (lowered : IsLowered p code) where
    calls_follow : (k : ℕ) (frames : List Frame) (layout : Layout) → k + length frames ≡ 63 → CallsFollow p (calls p k) code layout frames
    calls_follow zero frames layout deep N K x vs number q d args g f body a sh text ls rs after at known named defined words good s go =
        let full : length frames ≡ 63 = omega (arith, deep) in
        traps code a after sh ls text (configuration code q rs frames) Frames s
        (effect_at code q (Instr.Call number d (argument_order f.parameters args)) rs frames at ∙ ap (call_effect (configuration code q rs frames) d (argument_order f.parameters args)) known
        ∙ ap (λ n. if nat_lt n 63 then Effect.Pure (configuration code g.first (first_registers g (map (slice_index rs) (argument_order f.parameters args))) (record { place = suc q; result = d; registers = rs } ∷ frames)) else Effect.Traps Frames) full)
    calls_follow (suc k) frames layout deep N K x vs number q d args g f body a sh text ls rs after at known named defined words good s go =
        let inner : List Frame = record { place = suc q; result = d; registers = rs } ∷ frames in
        let here : definition_of p g.name ≡ Some (f, body) = ap (definition_of p) named ∙ defined in
        let c : FunctionIsLowered p code g f body = lowered.each number g f body known here in
        goes_by code a sh text (configuration code q rs frames) (configuration code g.first (first_registers g (map (slice_index rs) (argument_order f.parameters args))) inner)
        (enters_frame frames q d rs (argument_order f.parameters args) g (Instr.Call number d (argument_order f.parameters args)) (omega (arith, deep)) (ap (call_effect (configuration code q rs frames) d (argument_order f.parameters args)) known) at)
        (same (effect code) (λ n. after (go_on (or_astray (call_locals f.parameters vs) (state n ls (context_of a sh) text)) (λ mine. locals >>= λ outer. put_locals mine >> (stmts p (calls p k) body >>= leaving outer f.result))))
        (λ n. ap (λ o. after (go_on (or_astray o (state n ls (context_of a sh) text)) (λ f. or_astray (call_locals f.0.parameters vs) >>= λ mine. locals >>= λ outer. put_locals mine >> (stmts p (calls p k) f.1 >>= λ end. put_locals outer >> result_of f.0.result end)))) defined)
        (body_follows k inner g f body c (calls_follow k inner c.layout (omega (arith, deep))) N K vs (first_registers g (map (slice_index rs) (argument_order f.parameters args))) (call_locals f.parameters vs) (all_entered f.parameters vs) (λ count. ap (first_registers g) (arranged_mapped (slice_index rs) f.parameters args ∙ ap (argument_order f.parameters) words)) a sh text ls after good s
        (λ v sh1 text1 rs1 q1 r at1 word of_v below_v good1.
        goes_by code a sh1 text1 (configuration code q1 rs1 inner) (configuration code (suc q) (slice_set rs d v.word) frames)
        (effect_at code q1 (Instr.Return r) rs1 inner at1 ∙ returns_word q d rs frames r rs1 q1 v.word word)
        (go v sh1 text1 of_v below_v good1))))

    -- the worker's return ends the thread: its tick and the instruction are one
    ends : {N K : ℕ} (c : Configuration) (founds lefts : List Memory) (text : List ℕ) (ls : List Local) (memory : Memory) (kept : Bool) → effect code c ≡ Effect.End → Agrees (effect code) N K (sequential_state Bare (record { founds = founds; lefts = lefts; memory = memory; kept = kept }) text c) (λ n. outcome_of (tick (state n ls (Outside founds lefts) text)))
    ends {N = N} {K = K} c founds lefts text ls memory kept e =
        fewer (effect code) (less code N) (less code K)
        (shown (effect code) (λ n. record { lefts = lefts; text = text; end = Ended }) (ap (λ x. sequential_step (outside c founds lefts text Running) false Running None x) e) refl (λ n. refl)
        (over (effect code) refl (λ n. refl)))

    returns_end : (r : Option ℕ) (rs : List ℕ) (q : ℕ) → effect_of code (configuration code q rs []) (Some (Instr.Return r)) ≡ Effect.End
    returns_end r rs q = refl

    worker_started : (N K t : ℕ) (founds : List Memory) (o : Option (Function × Stmts)) → definition_of p (codes "worker") ≡ o → t < 2 ^ 32 → AreMemories code founds → Agrees (effect code) N K (start (beginning_in (Some lowered.worker) t) founds) (λ n. outcome_of (go_on (go_on (or_astray o (first_state founds n)) (λ f. or_astray (call_locals f.0.parameters (record { ty = Unsigned; word = t } ∷ [])) >>= λ mine. locals >>= λ outer. put_locals mine >> (stmts p (calls p 63) f.1 >>= λ end. put_locals outer >> result_of f.0.result end))) (λ v. tick)))
    worker_started N K t founds None e below good = astray (effect code) 0 refl
    worker_started N K t founds (Some d) e below good =
        let g : FunctionCode = lowered.worker in
        let w = worker_known code.functions g lowered.has_worker in
        let vs : List Value = record { ty = Unsigned; word = t } ∷ [] in
        let after : Answer Value → Outcome = λ q. outcome_of (go_on q (λ v. tick)) in
        let sh : Shared = record { founds = founds; lefts = []; memory = []; kept = false } in
        let here : definition_of p g.name ≡ Some (d.0, d.1) = ap (definition_of p) w.2 ∙ e in
        let c : FunctionIsLowered p code g d.0 d.1 = lowered.each w.0 g d.0 d.1 w.1 here in
        body_follows 63 [] g d.0 d.1 c (calls_follow 63 [] c.layout (omega arith)) N K vs (first_registers g (t ∷ [])) (call_locals d.0.parameters vs) (all_entered d.0.parameters vs)
        (λ count. ap (first_registers g) (sym (one_handed d.0.parameters t below count))) Bare sh [] [] after good
        (record { spent = λ t. refl; wants = λ t. refl; trapped = λ k t. refl; astray = λ t. refl })
        (λ v sh1 text1 rs1 q r at word of_v below_v good1. ends (configuration code q rs1 []) sh1.founds sh1.lefts text1 [] sh1.memory sh1.kept (effect_at code q (Instr.Return r) rs1 [] at ∙ returns_end r rs1 q))

    worker_follows : (N K t : ℕ) (founds : List Memory) → t < 2 ^ 32 → AreMemories code founds → Agrees (effect code) N K (start (beginning code t) founds) (λ n. thread p t founds n)
    worker_follows N K t founds below good =
        subst (λ o. Agrees (effect code) N K (start (beginning_in o t) founds) (λ n. thread p t founds n)) (sym lowered.has_worker)
        (worker_started N K t founds (definition_of p (codes "worker")) refl below good)

    follows : ((t : ℕ) (founds : List Memory) → t < 2 ^ 32 → AreMemories code founds → NeverAstray (λ n. thread p t founds n)) → Means (bounds_of code) (meaning (effect code) (beginning code)) (thread p)
    follows never = record {
      there = λ t founds below memories n. (worker_follows n 0 t founds below memories (never t founds below memories)).there n (all code n);
      back = λ t founds below memories k. (worker_follows 0 k t founds below memories (never t founds below memories)).back k (all code k);
    }

-- the cells of a code are those of its program
pub same_bounds : (p : Program) (code : Code) → IsLowered p code → bounds_of code ≡ bounds p
same_bounds p code l = ap cell_bounds l.globals_are

has_cells : (p : Program) (code : Code) → IsTypedProgram p → IsLowered p code → HasCellsOf code p
has_cells p code checked l x = known (global_of p x) refl
  where
    known : (o : Option GlobalCells) → global_of p x ≡ o → KnownCells code o
    known None e = tt
    known (Some g) e =
        let cells_are = typed_cells p checked in
        (ap (λ bs. slice_index bs g.cell) (same_bounds p code l) ∙ cells_are.first x g e, λ k h. ap (λ bs. slice_index bs (g.cell + k)) (same_bounds p code l) ∙ cells_are.each x g k e h)

-- the code means the program, in both directions
pub means : (p : Program) (code : Code) → IsTypedProgram p → IsLowered p code → ((t : ℕ) (founds : List Memory) → t < 2 ^ 32 → AllByRecursion (IsMemory (bounds p)) founds → NeverAstray (λ n. thread p t founds n)) → MeansItsProgram p code
means p code checked l never =
    subst (λ bs. Means bs (meaning (effect code) (beginning code)) (thread p)) (same_bounds p code l)
    (follows p code (has_cells p code checked l) l (λ t founds below memories. never t founds below (subst (λ bs. AllByRecursion (IsMemory bs) founds) (same_bounds p code l) memories)))
