-- The code that is picked for a typed and safe program is valid within the limits.
use Rattle.std.proofs.Common.{◌≡◌, refl, sym, ap, subst, ◌∙◌, ℕ, zero, suc, ◌+◌, ◌^◌, ◌≤◌, ◌<◌, List, [], ◌∷◌, ◌++◌, length, map, replicate, drop, arith, Option, Some, None, Bool, true, false, ◌&&◌, ◌||◌, not, IsTrue, ◌⊎◌, inl, inr}
use Rattle.std.specs.Prelude.{if◌then◌else◌, nat_le, bytes_eq, codes, unwrap_or, slice_get, is_none, option_map}
use Rattle.std.proofs.lemmas.List.{length-append, length-replicate, length-map}
use Rattle.std.proofs.lemmas.Bool.{cases_lt}
use Rattle.std.proofs.lemmas.Slice.Eq.{bytes_eq-Decides}
use Rattle.lex.specs.declared.token.Scalar.{Scalar}
use Rattle.lex.specs.declared.token.Scalar.TheVariants.{Int}
use Rattle.syntax.specs.Tree.{Stmts, Function, Defines, Shares, Program}
use Rattle.syntax.specs.declared.value.Value.{Value}
use Rattle.syntax.specs.Names.{globals, definition_of}
use Rattle.syntax.specs.Types.{Scope, Known, Callable, file_scope, running_scope, known_function}
use Rattle.syntax.specs.Typing.{demand, may_be_function, has_name, defined_names, parameter_names, agrees, is_worker, same_types, AreDistinct, AreTypedItems, IsTypedBody, IsTypedFunction, IsTypedProgram}
use Rattle.syntax.specs.ScopeLaws.{IsSubscope, body_scope}
use Rattle.syntax.proofs.typing.Demands.{AreMet, met_before, is_met}
use Rattle.syntax.proofs.typing.TypedParts.{stmts_parts}
use Rattle.syntax.proofs.typing.Fits.{scope_in, agrees_by_shape, shape_agrees}
use Rattle.syntax.proofs.typing.ValueTypes.{rest_met}
use Rattle.syntax.proofs.typing.Called.{called_are_defined, bodies_are_typed, worker_known, entered_shapes, all_enter}
use Rattle.bytecode.specs.declared.limits.TheConstants.{MOST_REGISTERS}
use Rattle.bytecode.specs.declared.instr.Instr.{Instr}
use Rattle.bytecode.specs.declared.instr.Instr.TheVariants as own
use Rattle.bytecode.specs.Code.{Code, FunctionCode}
use Rattle.bytecode.specs.Valid.{IsWritten, end_before, IsValidFunction, HasWorker, IsValid}
use Rattle.bytecode.specs.Views.{instr_of}
use Rattle.lower_spec.specs.Expressions.{LocalScope, Layout}
use Rattle.lower_spec.specs.Programs.{parameter_locals}
use Rattle.selection.specs.Lists.{Lists}
use Rattle.selection.specs.Names.{callee_at}
use Rattle.selection.specs.Simples.{Written}
use Rattle.selection.specs.Statements.{stmts_code}
use Rattle.selection.specs.Loops.{Looped, is_more, one_more, looped_by, looped_from, in_loops}
use Rattle.selection.specs.Programs.{no_exits, body_with, nothing_preloaded, all_set, body_preloaded, body_better, body_written, FunctionCodes, function_code, put_before, made_first, all_made, made_of, picked_code}
use Rattle.selection.specs.Laws.{IsWithinLimits}
use Rattle.selection.proofs.Leaner.{body_leaner}
use Rattle.selection.proofs.stands.Standing.{Stand, front, behind, IsFront, front_same}
use Rattle.selection.proofs.stands.Statements.{not_enclosed}
use Rattle.selection.proofs.stands.Cancelling.{CancelsAreFit}
use Rattle.selection.proofs.stands.Functions.{callee_is_there, defined_are_callees, parameters_are, GoesOn, on_same, on_further, or_false, names_apart, own_first, Firsts, firsts_from, items_met, all_stand, callable_worker, sets_length}
use Rattle.selection.proofs.valid.Fitting.{AreFoundBelow, nothing_below, all_below, Fits}
use Rattle.selection.proofs.valid.Begins.{Are, are_front, are_behind, opens as opens_along, opens_many}
use Rattle.selection.proofs.valid.Goods.{AreGood, good_append, Runs, runs_to, meets_first, next_run, good_on}
use Rattle.selection.proofs.valid.Sounds.{AreBelow, below_append}
use Rattle.selection.proofs.valid.Shared.{all_shaped, cells_fit}
use Rattle.selection.proofs.valid.Expressions.{CalleesTake}
use Rattle.selection.proofs.valid.Parts.{Exiting}
use Rattle.selection.proofs.valid.Statements.{stmts_part}
use Rattle.selection.proofs.valid.Ways.{opened, are_opened, all_written as are_all_written, keeps_open}

abbrev none_made : Lists
none_made = record { arguments = []; texts = []; registers = 0; layout = nothing_preloaded }

pub callees_take : (p : Program) → CalleesTake p (picked_code p)
callees_take p x c e =
    let r = callee_is_there p 0 p 0 none_made x c e in
    let same : r.number ≡ c.number = (let k = r.is in omega (arith, k)) in
    (r.function, subst (λ n. slice_get (made_of p).functions n ≡ Some r.function) same r.there, r.takes)

-- the number of worker's parameters
same_number : (ss ts : List Scalar) → IsTrue (same_types ss ts) → length ss ≡ length ts
same_number [] [] h = refl
same_number [] (t ∷ ts) h = absurd (cc)
same_number (s ∷ ss) [] h = absurd (cc)
same_number (s ∷ ss) (t ∷ ts) h = ap suc (same_number ss ts (second_true _ (same_types ss ts) h))
  where
    second_true : (a b : Bool) → IsTrue (a && b) → IsTrue b
    second_true true b h = h
    second_true false b h = absurd (cc)

worker_takes : (result : Option Scalar) (takes : List Scalar) → IsTrue (is_worker (Callable result takes)) → length takes ≡ 1
worker_takes None takes h = same_number takes (Int ∷ []) h
worker_takes (Some t) takes h = absurd (cc)

abbrev number_taken : Known → ℕ
number_taken (Callable result takes) = length takes
number_taken k = 0

-- the number of parameters is that of the types that a function takes
parameters_of : (f : Function) (result : Option Scalar) (takes : List Scalar) → known_function f ≡ Callable result takes → length f.parameters ≡ length takes
parameters_of f result takes e =
    let a : length (map (λ q. q.ty) f.parameters) ≡ length takes = ap number_taken e in
    let b : length (map (λ q. q.ty) f.parameters) ≡ length f.parameters = length-map f.parameters (λ q. q.ty) in
    sym b ∙ a

-- a definition's name is not that of an earlier one
new_name : (earlier items : Program) (f : Function) (body : Stmts) → f.body ≡ Some body → AreMet (AreTypedItems earlier (Defines f ∷ items)) → (p : Program) → IsTypedProgram p → CancelsAreFit p → has_name (defined_names earlier) f.name.text ≡ false
new_name earlier items f body e h p typed cancels =
    let true_exit = may_be_function (file_scope earlier f.name.text) && (is_none f.body || not (has_name (defined_names earlier) f.name.text)) in
    let all : AreMet (IsTypedFunction earlier f) = met_before (IsTypedFunction earlier f) (AreTypedItems (earlier ++ Defines f ∷ []) items) h in
    let type = demand 22 f.name.span (agrees f (file_scope earlier f.name.text)) in
    let two = met_before (demand 21 f.name.span true_exit ++ type ++ AreDistinct [] f.parameters) (IsTypedBody earlier f f.body) all in
    let one = met_before (demand 21 f.name.span true_exit ++ type) (AreDistinct [] f.parameters) two in
    own_first p typed cancels f body (may_be_function (file_scope earlier f.name.text)) (has_name (defined_names earlier) f.name.text) e
    (is_met 21 f.name.span true_exit (met_before (demand 21 f.name.span true_exit) type one))

module _ (code : Code) (arguments : List ℕ) (g : FunctionCode) (end : ℕ) (open_at : ℕ → List ℕ) where
  -- the constants of loops are words
  more_words : (at r w : ℕ) (looped : Looped) → w < 2 ^ 64 → AreBelow (2 ^ 64) looped.constants → AreBelow (2 ^ 64) (one_more at r w looped).constants
  more_words at r w looped low h = by (is_more at r w looped)
    where
      by : (b : Bool) → AreBelow (2 ^ 64) (if b then record looped { constants = looped.constants ++ w ∷ [] } else looped).constants
      by true = below_append (2 ^ 64) looped.constants (w ∷ []) h (low, tt)
      by false = h

  words_by : (i : Instr) (at : ℕ) (looped : Looped) → IsWritten code g end (instr_of arguments i) → AreBelow (2 ^ 64) looped.constants → AreBelow (2 ^ 64) (looped_by i at looped).constants
  words_by (own.Constant r w) at looped written h = more_words at r w looped written.1 h
  words_by i at looped written h = h

  looped_words : (is : List Instr) (at q : ℕ) → AreGood code arguments g end open_at q is → AreBelow (2 ^ 64) (in_loops at is)
  looped_words [] at q h = tt
  looped_words (i ∷ is) at q h = words_by i at (looped_from (suc at) is) h.0.written (looped_words is (suc at) (suc q) h.1)

  sets_good : (r : ℕ) (ws : List ℕ) (q : ℕ) → r + length ws ≤ g.registers → AreBelow (2 ^ 64) ws → Runs code arguments g end open_at q [] (all_set r ws) → AreGood code arguments g end open_at q (all_set r ws)
  sets_good r [] q room words run = tt
  sets_good r (w ∷ ws) q room words run = (
    good_on code arguments g end open_at q [] (own.Constant r w) (all_set (suc r) ws) (λ q bs. (refl, tt)) (omega (arith, room), words.0) run,
    sets_good (suc r) ws (suc q) (omega (arith, room)) words.1 (next_run code arguments g end open_at q [] (own.Constant r w) (all_set (suc r) ws) (λ q bs. refl) run),
  )

-- a body with its return is in order in a function that ends behind it
module _ (p : Program) (typed : IsTypedProgram p) (cancels : CancelsAreFit p) (code : Code) (arguments : List ℕ) (takes : CalleesTake p code) (shares : code.globals ≡ globals p) (g : FunctionCode) where
  record BodyGood (layout : Layout) (f : Function) (from : ℕ) (l : Lists) (w : Written) : Type 0 where
    to_is : w.to ≡ from + length w.code
    some : from < w.to
    goes_on : GoesOn l w.lists
    named : length f.parameters ≤ w.lists.registers
    opens : List (List ℕ)
    enters : (open_at : ℕ → List ℕ) → Are open_at from opens → open_at from ≡ []
    goods : (open_at : ℕ → List ℕ) → Are open_at from opens → g.first ≤ from → w.lists.registers ≤ g.registers → AreFoundBelow g.registers layout → IsFront w.lists.arguments arguments → IsFront w.lists.texts code.texts → Stand code arguments from w.code →
        AreGood code arguments g w.to open_at from w.code

  body_good : (layout : Layout) (f : Function) (body : Stmts) → definition_of p f.name.text ≡ Some (f, body) → (from : ℕ) (l : Lists) → BodyGood layout f from l (body_with layout p f body from l)
  body_good layout f body e from l =
      let n : ℕ = length f.parameters in
      let scope : LocalScope = parameter_locals f.parameters in
      let t = bodies_are_typed p typed f.name.text (f, body) e in
      let known : Scope = body_scope t.earlier f in
      let vs : List Value = replicate n (record { ty = Int; word = 0 }) in
      let enters = all_enter f.parameters vs (length-replicate n (record { ty = Int; word = 0 })) in
      let agrees : IsSubscope known (running_scope p scope) = agrees_by_shape p known scope (subst (λ m. IsSubscope known (scope_in p m)) (entered_shapes f.parameters vs enters.0 enters.1 ∙ sym (parameters_are f.parameters)) (shape_agrees p known enters.0 (t.fits vs enters.0 enters.1))) in
      let first : Lists = record l { registers = n; layout = layout } in
      let made = stmts_code p body (no_exits f.result) scope from first in
      let end : ℕ = made.to + 1 in
      let part = stmts_part code arguments g end p typed takes (defined_are_callees p) shares body known false scope (no_exits f.result) not_enclosed agrees
      (stmts_parts f.result body known (parameter_names f.parameters) false t.body) (cancels f.name.text (f, body) e) [] from first in
      let a = part.to_is in
      let b = part.many in
      let u : length (made.code ++ own.Return ∷ []) ≡ length made.code + 1 = length-append made.code (own.Return ∷ []) in
      let last_list : List (List ℕ) = [] ∷ [] in
      let opens_is : made.to ≡ from + length part.opens = omega (arith, a, b) in
      record {
        to_is = omega (arith, a, u);
        some = omega (arith, a);
        goes_on = record { arguments = part.grows.arguments; texts = part.grows.texts };
        named = part.grows.registers;
        opens = part.opens ++ last_list;
        enters = λ o are. part.enters o (are_front o from part.opens last_list are) (are_behind o from made.to part.opens last_list opens_is are).0;
        goods = λ o are low few ready handed texts st.
            let at_end = (are_behind o from made.to part.opens last_list opens_is are).0 in
            let exits : Exiting code arguments g end [] (no_exits f.result) false not_enclosed o = (record { in_function = refl; in_loop = λ t. absurd (cc); breaks = λ t. absurd (cc); continues = λ t. absurd (cc); cancels = λ t. absurd (cc); to_outer = refl; outer_cancels = tt }) in
            let fits : Fits code arguments g.registers made.lists = (record { arguments = handed; texts = texts; registers = few; preloaded = subst (AreFoundBelow g.registers) (sym part.grows.layout) ready }) in
            good_append code arguments g end o from made.to made.code (own.Return ∷ []) a
            (part.goods o fits (front code arguments from made.code (own.Return ∷ []) st) low (omega arith) (are_front o from part.opens last_list are) at_end exits)
            (record { begins = []; are = at_end; written = tt; asks = refl; leads = tt }, tt);
      }

module _ (p : Program) (typed : IsTypedProgram p) (cancels : CancelsAreFit p) where
  abbrev code : Code
  code = picked_code p

  abbrev final : Lists
  final = (made_of p).lists

  -- the code of one function
  record BodyValid (f : Function) (from : ℕ) (l : Lists) (w : Written) : Type 0 where
    to_is : w.to ≡ from + length w.code
    some : from < w.to
    goes_on : GoesOn l w.lists
    valid : GoesOn w.lists final → Stand code final.arguments from w.code → w.lists.registers ≤ MOST_REGISTERS → IsValidFunction code (function_code f from w) w.to

  plain_valid : (f : Function) (body : Stmts) → definition_of p f.name.text ≡ Some (f, body) → (from : ℕ) (l : Lists) → BodyValid f from l (body_with nothing_preloaded p f body from l)
  plain_valid f body e from l =
      let w = body_with nothing_preloaded p f body from l in
      let g : FunctionCode = function_code f from w in
      let b = body_good p typed cancels code final.arguments (callees_take p) refl g nothing_preloaded f body e from l in
      let open_at : ℕ → List ℕ = opened b.opens from in
      let are = are_opened b.opens from in
      let starts = b.enters open_at are in
      record {
        to_is = b.to_is;
        some = b.some;
        goes_on = b.goes_on;
        valid = λ goes st few.
            let goods = b.goods open_at are (omega arith) (omega arith) (nothing_below g.registers) goes.arguments goes.texts st in
            record {
              named = b.named;
              few = few;
              starts = b.some;
              written = are_all_written code final.arguments g w.to open_at w.code goods st b.to_is starts b.some;
              ways = keeps_open code final.arguments g w.to open_at w.code goods st b.to_is starts b.some;
            };
      }

  -- the constants of a body's loops are words, as the body shows in a code of its own
  loops_are_words : (f : Function) (body : Stmts) → definition_of p f.name.text ≡ Some (f, body) → (from : ℕ) (l : Lists) → AreBelow (2 ^ 64) (in_loops from (body_with nothing_preloaded p f body from l).code)
  loops_are_words f body e from l =
      let w = body_with nothing_preloaded p f body from l in
      let before : List Instr = replicate from own.Return in
      let alone : Code = record code { instructions = map (instr_of w.lists.arguments) (before ++ w.code); texts = w.lists.texts } in
      let g : FunctionCode = function_code f from w in
      let b = body_good p typed cancels alone w.lists.arguments (callees_take p) refl g nothing_preloaded f body e from l in
      let open_at : ℕ → List ℕ = opened b.opens from in
      let many : length before ≡ from = length-replicate from own.Return in
      let st : Stand alone w.lists.arguments from w.code = subst (λ q. Stand alone w.lists.arguments q w.code) many (all_stand alone w.lists.arguments before w.code refl) in
      looped_words alone w.lists.arguments g w.to open_at w.code from from
      (b.goods open_at (are_opened b.opens from) (omega arith) (omega arith) (nothing_below g.registers) (front_same w.lists.arguments) (front_same w.lists.texts) st)

  -- a body behind the instructions that set its constants
  ready_valid : (layout : Layout) (f : Function) (body : Stmts) → definition_of p f.name.text ≡ Some (f, body) → (from : ℕ) (l : Lists) →
      (body_with layout p f body (from + length layout.constants) l).lists.registers ≤ layout.writable → AreBelow (2 ^ 64) layout.constants → BodyValid f from l (body_preloaded layout p f body from l)
  ready_valid layout f body e from l room words =
      let n : ℕ = length layout.constants in
      let begins : ℕ = from + n in
      let made = body_with layout p f body begins l in
      let sets : List Instr = all_set layout.writable layout.constants in
      let w = body_preloaded layout p f body from l in
      let g : FunctionCode = function_code f from w in
      let b = body_good p typed cancels code final.arguments (callees_take p) refl g layout f body e begins l in
      let flat : List (List ℕ) = opens_along final.arguments from [] sets in
      let many = sets_length layout.writable layout.constants in
      let flat_many : length flat ≡ length sets = opens_many final.arguments from [] sets in
      let open_at : ℕ → List ℕ = opened (flat ++ b.opens) from in
      let are = are_opened (flat ++ b.opens) from in
      let behind_sets = are_behind open_at from begins flat b.opens (omega (arith, flat_many, many)) are in
      let sets_is : begins ≡ from + length sets = omega (arith, many) in
      let a = b.to_is in
      let last = b.some in
      let u : length (sets ++ made.code) ≡ length sets + length made.code = length-append sets made.code in
      let end_is : w.to ≡ from + length w.code = omega (arith, a, u, many) in
      let some : from < w.to = omega (arith, last) in
      let run : Runs code final.arguments g w.to open_at from [] sets = runs_to code final.arguments g w.to open_at from begins [] sets sets_is (omega arith) last (are_front open_at from flat b.opens are) (b.enters open_at behind_sets) in
      let starts = (meets_first code final.arguments g w.to open_at from from [] sets refl run).1 in
      record {
        to_is = end_is;
        some = some;
        goes_on = record { arguments = b.goes_on.arguments; texts = b.goes_on.texts };
        valid = λ goes st few.
            let named = b.named in
            let goods : AreGood code final.arguments g w.to open_at from w.code =
            good_append code final.arguments g w.to open_at from begins sets made.code sets_is
            (sets_good code final.arguments g w.to open_at layout.writable layout.constants from (omega arith) words run)
            (b.goods open_at behind_sets (omega arith) (omega (arith, room)) (all_below layout) goes.arguments goes.texts (behind code final.arguments from begins sets made.code sets_is st)) in
            record {
              named = omega (arith, named, room);
              few = few;
              starts = some;
              written = are_all_written code final.arguments g w.to open_at w.code goods st end_is starts some;
              ways = keeps_open code final.arguments g w.to open_at w.code goods st end_is starts some;
            };
      }

  body_valid : (f : Function) (body : Stmts) → definition_of p f.name.text ≡ Some (f, body) → (from : ℕ) (l : Lists) → BodyValid f from l (body_written p f body from l)
  body_valid f body e from l = by (in_loops from plain.code) (loops_are_words f body e from l)
    where
      plain : Written
      plain = body_with nothing_preloaded p f body from l

      by_room : (layout : Layout) → plain.lists.registers ≡ layout.writable → AreBelow (2 ^ 64) layout.constants → (b : Bool) → BodyValid f from l (if b then body_preloaded layout p f body from l else plain)
      by_room layout same words true =
          let leaner = body_leaner p f body layout from (from + length layout.constants) l l in
          ready_valid layout f body e from l (omega (arith, same, leaner)) words
      by_room layout same words false = plain_valid f body e from l

      by : (ws : List ℕ) → AreBelow (2 ^ 64) ws → BodyValid f from l (body_better p f body from l plain ws)
      by [] words = plain_valid f body e from l
      by (w ∷ ws) words = by_room (record { writable = plain.lists.registers; constants = w ∷ ws }) refl words (nat_le (plain.lists.registers + length (w ∷ ws)) MOST_REGISTERS)

  -- a place is one of a function's
  abbrev Covers : List FunctionCode → ℕ → Type 0
  Covers functions q = (number : ℕ) × (g : FunctionCode) × (slice_get functions number ≡ Some g) × (g.first ≤ q) × (q < end_before code (drop (suc number) functions))

  record MadeValid (from : ℕ) (l : Lists) (made : FunctionCodes) : Type 0 where
    to_is : made.to ≡ from + length made.code
    goes_on : GoesOn l made.lists
    begins : made.to ≡ length code.instructions → end_before code made.functions ≡ from
    covers : made.to ≡ length code.instructions → (q : ℕ) → from ≤ q → q < made.to → Covers made.functions q
    valid : made.to ≡ length code.instructions → GoesOn made.lists final → Stand code final.arguments from made.code → ((number : ℕ) (g : FunctionCode) → slice_get made.functions number ≡ Some g → g.registers ≤ MOST_REGISTERS) →
        (number : ℕ) (g : FunctionCode) → slice_get made.functions number ≡ Some g → IsValidFunction code g (end_before code (drop (suc number) made.functions))

  one_more_valid : (f : Function) (from : ℕ) (l : Lists) (w : Written) (rest : FunctionCodes) → BodyValid f from l w → MadeValid w.to w.lists rest → MadeValid from l (put_before (function_code f from w) w rest)
  one_more_valid f from l w rest b r = record {
    to_is = let x = b.to_is in let y = r.to_is in let u : length (w.code ++ rest.code) ≡ length w.code + length rest.code = length-append w.code rest.code in omega (arith, x, y, u);
    goes_on = on_further l w.lists rest.lists b.goes_on r.goes_on;
    begins = λ e. refl;
    covers = λ e q low high. by q low high (r.begins e) (r.covers e) (cases_lt q w.to);
    valid = λ e goes st few number h e'. at number h e' (r.begins e) (few 0 g refl) goes (front code final.arguments from w.code rest.code st)
        (r.valid e goes (behind code final.arguments from w.to w.code rest.code b.to_is st) (λ m k k'. few (suc m) k k'));
  }
    where
      g : FunctionCode
      g = function_code f from w

      by : (q : ℕ) → from ≤ q → q < rest.to → end_before code rest.functions ≡ w.to → ((q : ℕ) → w.to ≤ q → q < rest.to → Covers rest.functions q) → (q < w.to) ⊎ (w.to ≤ q) → Covers (g ∷ rest.functions) q
      by q low high begins others (inl h) = (0, g, refl, low, omega (arith, h, begins))
      by q low high begins others (inr h) = let c = others q h high in (suc c.0, c.1, c.2, c.3, c.4)

      at : (number : ℕ) (h : FunctionCode) → slice_get (g ∷ rest.functions) number ≡ Some h → end_before code rest.functions ≡ w.to → g.registers ≤ MOST_REGISTERS → GoesOn rest.lists final → Stand code final.arguments from w.code →
          ((m : ℕ) (k : FunctionCode) → slice_get rest.functions m ≡ Some k → IsValidFunction code k (end_before code (drop (suc m) rest.functions))) → IsValidFunction code h (end_before code (drop (suc number) (g ∷ rest.functions)))
      at zero h e begins few goes st others =
          subst (λ x. IsValidFunction code x (end_before code rest.functions)) (ap (λ o. unwrap_or o g) e)
          (subst (λ n. IsValidFunction code g n) (sym begins) (b.valid (on_further w.lists rest.lists final r.goes_on goes) st few))
      at (suc n) h e begins few goes st others = others n h e

  made_valid : (items : Program) → Firsts p typed cancels items → (from : ℕ) (l : Lists) → MadeValid from l (all_made p items from l)
  made_valid [] h from l = record {
    to_is = omega arith;
    goes_on = on_same l;
    begins = λ e. sym e;
    covers = λ e q low high. absurd (omega (arith, low, high));
    valid = λ e goes st few number g k. absurd (cc);
  }
  made_valid (Shares gs ∷ items) h from l = made_valid items h from l
  made_valid (Defines f ∷ items) h from l = by f.body h.0 (λ to m. made_valid items h.1 to m)
    where
      by : (o : Option Stmts) → ((body : Stmts) → o ≡ Some body → definition_of p f.name.text ≡ Some (f, body)) → ((to : ℕ) (m : Lists) → MadeValid to m (all_made p items to m)) → MadeValid from l (made_first p f o (all_made p items) from l)
      by None first others = others from l
      by (Some body) first others =
          let w = body_written p f body from l in
          one_more_valid f from l w (all_made p items w.to w.lists) (body_valid f body (first body refl) from l) (others w.to w.lists)

  -- functions that are made have other names than those that are defined before
  names_new : (earlier items : Program) → AreMet (AreTypedItems earlier items) → (from : ℕ) (l : Lists) (number : ℕ) (g : FunctionCode) → slice_get (all_made p items from l).functions number ≡ Some g → has_name (defined_names earlier) g.name ≡ false
  names_new earlier [] h from l number g e = absurd (cc)
  names_new earlier (Shares gs ∷ items) h from l number g e =
      (names_apart p typed cancels earlier (Shares gs ∷ []) g.name (names_new (earlier ++ Shares gs ∷ []) items (rest_met earlier (Shares gs) items h) from l number g e)).0
  names_new earlier (Defines f ∷ items) h from l number g e =
      by f.body refl number (λ to m n k. names_new (earlier ++ Defines f ∷ []) items (rest_met earlier (Defines f) items h) to m n g k) e
    where
      by : (o : Option Stmts) → f.body ≡ o → (number : ℕ) → ((to : ℕ) (m : Lists) (n : ℕ) → slice_get (all_made p items to m).functions n ≡ Some g → has_name (defined_names (earlier ++ Defines f ∷ [])) g.name ≡ false) →
          slice_get (made_first p f o (all_made p items) from l).functions number ≡ Some g → has_name (defined_names earlier) g.name ≡ false
      by None own number others k = (names_apart p typed cancels earlier (Defines f ∷ []) g.name (others from l number k)).0
      by (Some body) own zero others k =
          let first = function_code f from (body_written p f body from l) in
          let same : first ≡ g = ap (λ o. unwrap_or o first) k in
          subst (λ (x : FunctionCode). has_name (defined_names earlier) x.name ≡ false) same (new_name earlier items f body own h p typed cancels)
      by (Some body) own (suc n) others k =
          let w = body_written p f body from l in
          (names_apart p typed cancels earlier (Defines f ∷ []) g.name (others w.to w.lists n k)).0

  other_name : (f : Function) (body : Stmts) (x : List ℕ) → f.body ≡ Some body → has_name (defined_names (Defines f ∷ [])) x ≡ false → f.name.text ≡ x → ⊥
  other_name f body x own h same =
      let listed : has_name (f.name.text ∷ []) x ≡ false = subst (λ o. has_name (unwrap_or (option_map (λ b. f.name.text ∷ []) o) []) x ≡ false) own h in
      let differ : bytes_eq f.name.text x ≡ false = (or_false p typed cancels (bytes_eq f.name.text x) false listed).0 in
      let agree : bytes_eq f.name.text x ≡ true = (bytes_eq-Decides f.name.text x).1 same in
      cc (differ, agree)

  distinct_from : (earlier items : Program) → AreMet (AreTypedItems earlier items) → (from : ℕ) (l : Lists) (i j : ℕ) (g k : FunctionCode) →
      slice_get (all_made p items from l).functions i ≡ Some g → slice_get (all_made p items from l).functions j ≡ Some k → g.name ≡ k.name → i ≡ j
  distinct_from earlier [] h from l i j g k e d same = absurd (cc)
  distinct_from earlier (Shares gs ∷ items) h from l i j g k e d same = distinct_from (earlier ++ Shares gs ∷ []) items (rest_met earlier (Shares gs) items h) from l i j g k e d same
  distinct_from earlier (Defines f ∷ items) h from l i j g k e d same =
      by f.body refl i j (λ to m a b x y. distinct_from (earlier ++ Defines f ∷ []) items (rest_met earlier (Defines f) items h) to m a b g k x y same) e d
    where
      later : Program
      later = earlier ++ Defines f ∷ []

      apart : (body : Stmts) → f.body ≡ Some body → (to : ℕ) (m : Lists) (n : ℕ) (x : FunctionCode) → slice_get (all_made p items to m).functions n ≡ Some x → f.name.text ≡ x.name → ⊥
      apart body own to m n x y =
          other_name f body x.name own (names_apart p typed cancels earlier (Defines f ∷ []) x.name (names_new later items (rest_met earlier (Defines f) items h) to m n x y)).1

      by : (o : Option Stmts) → f.body ≡ o → (i j : ℕ) → ((to : ℕ) (m : Lists) (a b : ℕ) → slice_get (all_made p items to m).functions a ≡ Some g → slice_get (all_made p items to m).functions b ≡ Some k → a ≡ b) →
          slice_get (made_first p f o (all_made p items) from l).functions i ≡ Some g → slice_get (made_first p f o (all_made p items) from l).functions j ≡ Some k → i ≡ j
      by None own i j others x y = others from l i j x y
      by (Some body) own zero zero others x y = refl
      by (Some body) own zero (suc j) others x y =
          let w = body_written p f body from l in
          let first = function_code f from w in
          let is : first ≡ g = ap (λ o. unwrap_or o first) x in
          absurd (apart body own w.to w.lists j k y (ap (λ (z : FunctionCode). z.name) is ∙ same))
      by (Some body) own (suc i) zero others x y =
          let w = body_written p f body from l in
          let first = function_code f from w in
          let is : first ≡ k = ap (λ o. unwrap_or o first) y in
          absurd (apart body own w.to w.lists i g x (ap (λ (z : FunctionCode). z.name) is ∙ sym same))
      by (Some body) own (suc i) (suc j) others x y = let w = body_written p f body from l in ap suc (others w.to w.lists i j x y)

  whole : MadeValid 0 none_made (made_of p)
  whole = made_valid p (firsts_from p typed cancels [] p (items_met p typed cancels) (λ x n. refl)) 0 none_made

  ends : (made_of p).to ≡ length code.instructions
  ends = let a = whole.to_is in let b : length code.instructions ≡ length (made_of p).code = length-map (made_of p).code (instr_of final.arguments) in omega (arith, a, b)

  has_worker : HasWorker code
  has_worker =
      let k = callable_worker p typed cancels (file_scope p (codes "worker")) (worker_known p typed) in
      let d = called_are_defined p typed (codes "worker") k.0 k.1 k.2 in
      let c = defined_are_callees p (codes "worker") d.0.0 d.0.1 d.1 in
      let g = callee_is_there p 0 p 0 none_made (codes "worker") (callee_at c.0 d.0.0) c.1 in
      let one : length k.1 ≡ 1 = worker_takes k.0 k.1 (subst (λ x. IsTrue (is_worker x)) k.2 (worker_known p typed)) in
      (g.number, g.function, g.there, g.named, sym g.takes ∙ parameters_of d.0.0 k.0 k.1 d.2 ∙ one)

  pub picked_is_valid : IsWithinLimits code → IsValid code
  picked_is_valid within = record {
    each = whole.valid ends (on_same final) (all_stand code final.arguments [] (made_of p).code refl) within.registers;
    distinct = distinct_from [] p (items_met p typed cancels) 0 none_made;
    covered = λ q low. whole.covers ends q (omega arith) (let e = ends in omega (arith, low, e));
    few = within.instructions;
    shaped = all_shaped [] p (items_met p typed cancels);
    cells = let h = cells_fit [] p (omega arith) (items_met p typed cancels) in omega (arith, h);
    worker = has_worker;
  }
