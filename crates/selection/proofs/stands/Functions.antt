-- The code that is picked for a typed and safe program stands for it.
use Rattle.std.proofs.Common.{◌≡◌, refl, sym, ap, subst, ◌∙◌, ℕ, zero, suc, ◌+◌, ◌≤◌, List, [], ◌∷◌, ◌++◌, append_assoc, length, map, replicate, arith, Option, Some, None, Bool, true, false, ◌&&◌, ◌||◌, not, IsTrue}
use Rattle.std.specs.Prelude.{if◌then◌else◌, nat_le, bytes_eq, codes, unwrap_or, option_map, slice_get, is_none}
use Rattle.std.proofs.lemmas.List.{length-append, length-replicate}
use Rattle.std.proofs.lemmas.Slice.Eq.{bytes_eq-Decides}
use Rattle.lex.specs.declared.token.Scalar.{Scalar}
use Rattle.lex.specs.declared.token.Scalar.TheVariants.{Int}
use Rattle.syntax.specs.Tree.{Name, Stmts, Parameter, Function, Defines, Shares, Program}
use Rattle.syntax.specs.declared.value.Value.{Value}
use Rattle.syntax.specs.Names.{definition_or, definition_of}
use Rattle.syntax.specs.Types.{Scope, Callable, Number, Array, Unknown, Known, file_scope, running_scope}
use Rattle.syntax.specs.Typing.{demand, may_be_function, has_name, defined_names, parameter_names, agrees, is_worker, AreDefined, AreDistinct, AreTypedItems, IsTypedBody, IsTypedFunction, IsTypedProgram}
use Rattle.syntax.specs.Laws.{shape}
use Rattle.syntax.specs.ScopeLaws.{IsSubscope, body_scope}
use Rattle.syntax.proofs.typing.Demands.{AreMet, met_before, is_met}
use Rattle.syntax.proofs.typing.TypedParts.{stmts_parts}
use Rattle.syntax.proofs.typing.Fits.{scope_in, agrees_by_shape, shape_agrees}
use Rattle.syntax.proofs.typing.ValueTypes.{rest_met}
use Rattle.syntax.proofs.typing.Called.{called_are_defined, bodies_are_typed, worker_known, shapes_of, entered_shapes, all_enter}
use Rattle.bytecode.specs.declared.instr.Instr.{Instr}
use Rattle.bytecode.specs.declared.instr.Instr.TheVariants as own
use Rattle.bytecode.specs.declared.limits.TheConstants.{MOST_REGISTERS}
use Rattle.bytecode.specs.Code.{Code, FunctionCode, Instr as Plain}
use Rattle.bytecode.specs.Views.{instr_of}
use Rattle.bytecode.specs.Beginning.{worker_among}
use Rattle.lower_spec.specs.Expressions.{LocalScope, Layout, InstructionAt}
use Rattle.lower_spec.specs.Statements.{StmtsCode}
use Rattle.lower_spec.specs.Programs as Lowered
use Rattle.lower_spec.specs.Programs.{parameter_locals, FunctionIsLowered, IsLowered}
use Rattle.selection.specs.Lists.{Lists}
use Rattle.program_tables.specs.Functions.{NumberedFunction, function_first, function_from}
use Rattle.program_tables.proofs.Defined.{defined_by, definition_from}
use Rattle.selection.specs.Names.{Callee, callee_at, callee_by}
use Rattle.selection.specs.Simples.{Written}
use Rattle.selection.specs.Statements.{stmts_code}
use Rattle.selection.specs.Loops.{in_loops}
use Rattle.selection.specs.Programs.{no_exits, body_with, nothing_preloaded, all_set, body_preloaded, body_better, body_written, FunctionCodes, function_code, put_before, made_first, all_made, made_of, picked_code}
use Rattle.selection.proofs.stands.Standing.{Stand, front, behind, IsFront, front_same, front_front, IsPreloadedIn, nothing_is_found, all_are_found}
use Rattle.selection.proofs.stands.Exprs.{CalleesStand, DefinedAreCallees}
use Rattle.selection.proofs.Leaner.{body_leaner}
use Rattle.selection.proofs.stands.Writing.{Writes}
use Rattle.selection.proofs.stands.Statements.{stmts_write}
use Rattle.selection.proofs.stands.Cancelling.{CancelsAreFit}

-- a function that is defined is a callee
found_by : (f : Function) (body : Stmts) (o : Option NumberedFunction) (s : Option (Function × Stmts)) → option_map defined_by o ≡ s → s ≡ Some (f, body) → (m : ℕ) × (option_map callee_by o ≡ Some (callee_at m f))
found_by f body None s same e = let none : None ≡ Some (f, body) = same ∙ e in absurd cc
found_by f body (Some d) s same e =
    let is : d.definition ≡ (f, body) = ap (λ o. unwrap_or o d.definition) (same ∙ e) in
    (d.number, ap (λ (q : Function × Stmts). Some (callee_at d.number q.0)) is)

-- a callee's number, counted from the first one, is that of a function of its name and with its parameters
pub record IsThere (functions : List FunctionCode) (n : ℕ) (x : List ℕ) (c : Callee) : Type 0 where
  pub number : ℕ
  pub function : FunctionCode
  pub is : c.number ≡ n + number
  pub there : slice_get functions number ≡ Some function
  pub named : function.name ≡ x
  pub takes : length c.parameters ≡ function.parameters

pub callee_is_there : (p : Program) (n : ℕ) (items : Program) (from : ℕ) (l : Lists) (x : List ℕ) (c : Callee) → option_map callee_by (function_from n items x) ≡ Some c → IsThere (all_made p items from l).functions n x c
callee_is_there p n [] from l x c e = absurd (cc)
callee_is_there p n (Shares gs ∷ items) from l x c e = callee_is_there p n items from l x c e
callee_is_there p n (Defines f ∷ items) from l x c e = by f.body (λ h. callee_is_there p n items from l x c h) (λ to m h. callee_is_there p (suc n) items to m x c h) e
  where
    by_name : (b : Stmts) → ((to : ℕ) (m : Lists) → option_map callee_by (function_from (suc n) items x) ≡ Some c → IsThere (all_made p items to m).functions (suc n) x c) → (same : Bool) → bytes_eq f.name.text x ≡ same → option_map callee_by (if same then Some (record { number = n; definition = (f, b) }) else function_from (suc n) items x) ≡ Some c → IsThere (made_first p f (Some b) (all_made p items) from l).functions n x c
    by_name b others true s h =
        let w = body_written p f b from l in
        record {
          number = 0;
          function = function_code f from w;
          is = let g : callee_at n f ≡ c = ap (λ o. unwrap_or o (callee_at n f)) h in let k : n ≡ c.number = ap (λ (d : Callee). d.number) g in omega (arith, k);
          there = refl;
          named = (bytes_eq-Decides f.name.text x).0 s;
          takes = let g : callee_at n f ≡ c = ap (λ o. unwrap_or o (callee_at n f)) h in sym (ap (λ (d : Callee). length d.parameters) g);
        }
    by_name b others false s h =
        let w = body_written p f b from l in
        let r = others w.to w.lists h in
        record { number = suc r.number; function = r.function; is = let k = r.is in omega (arith, k); there = r.there; named = r.named; takes = r.takes }

    by : (o : Option Stmts) → (option_map callee_by (function_from n items x) ≡ Some c → IsThere (all_made p items from l).functions n x c) → ((to : ℕ) (m : Lists) → option_map callee_by (function_from (suc n) items x) ≡ Some c → IsThere (all_made p items to m).functions (suc n) x c) → option_map callee_by (function_first n f o (λ m. function_from m items x) x) ≡ Some c → IsThere (made_first p f o (all_made p items) from l).functions n x c
    by None here others h = here h
    by (Some b) here others h = by_name b others (bytes_eq f.name.text x) refl h

pub callees_stand : (p : Program) → CalleesStand p (picked_code p)
callees_stand p x c e =
    let r = callee_is_there p 0 p 0 (record { arguments = []; texts = []; registers = 0; layout = nothing_preloaded }) x c e in
    let same : r.number ≡ c.number = (let k = r.is in omega (arith, k)) in
    (r.function, subst (λ n. slice_get (made_of p).functions n ≡ Some r.function) same r.there, r.named)

pub defined_are_callees : (p : Program) → DefinedAreCallees p
defined_are_callees p x f body e = found_by f body (function_from 0 p x) (definition_of p x) (definition_from 0 p x) e

-- the parameters that have names are a function's first locals
pub parameters_are : (qs : List Parameter) → map shape (parameter_locals qs) ≡ shapes_of qs
parameters_are [] = refl
parameters_are (q ∷ qs) = by q.name (parameters_are qs)
  where
    by : (n : Option Name) → map shape (parameter_locals qs) ≡ shapes_of qs → map shape (unwrap_or (option_map (λ (x : Name). record { name = x.text; ty = q.ty; word = 0 } ∷ []) n) [] ++ parameter_locals qs) ≡ unwrap_or (option_map (λ (x : Name). (x.text, q.ty) ∷ []) n) [] ++ shapes_of qs
    by None h = h
    by (Some x) h = ap (λ ls. (x.text, q.ty) ∷ ls) h

-- arguments and texts go on; each function has its own number of registers
pub record GoesOn (l m : Lists) : Type 0 where
  pub arguments : IsFront l.arguments m.arguments
  pub texts : IsFront l.texts m.texts

pub on_same : (l : Lists) → GoesOn l l
on_same l = record { arguments = front_same l.arguments; texts = front_same l.texts }

pub on_further : (l m n : Lists) → GoesOn l m → GoesOn m n → GoesOn l n
on_further l m n h g = record { arguments = front_front l.arguments m.arguments n.arguments h.arguments g.arguments; texts = front_front l.texts m.texts n.texts h.texts g.texts }

pub sets_length : (r : ℕ) (ws : List ℕ) → length (all_set r ws) ≡ length ws
sets_length r [] = refl
sets_length r (w ∷ ws) = ap suc (sets_length (suc r) ws)

-- all instructions of a code stand in it
at_front : (arguments : List ℕ) (before : List Instr) (i : Instr) (after : List Instr) → slice_get (map (instr_of arguments) (before ++ i ∷ after)) (length before) ≡ Some (instr_of arguments i)
at_front arguments [] i after = refl
at_front arguments (j ∷ before) i after = at_front arguments before i after

pub all_stand : (code : Code) (arguments : List ℕ) (before is : List Instr) → code.instructions ≡ map (instr_of arguments) (before ++ is) → Stand code arguments (length before) is
all_stand code arguments before [] e = tt
all_stand code arguments before (i ∷ is) e =
    let longer : length (before ++ i ∷ []) ≡ suc (length before) = (let h : length (before ++ i ∷ []) ≡ length before + 1 = length-append before (i ∷ []) in omega (arith, h)) in
    let rest = all_stand code arguments (before ++ i ∷ []) is (e ∙ ap (λ xs. map (instr_of arguments) xs) (sym (append_assoc before (i ∷ []) is))) in
    (ap (λ xs. slice_get xs (length before)) e ∙ at_front arguments before i is, subst (λ q. Stand code arguments q is) longer rest)

module _ (p : Program) (typed : IsTypedProgram p) (cancels : CancelsAreFit p) where
  abbrev code : Code
  code = picked_code p

  abbrev final : Lists
  final = (made_of p).lists

  record BodyStands (f : Function) (body : Stmts) (from : ℕ) (l : Lists) (w : Written) : Type 0 where
    to_is : w.to ≡ from + length w.code
    goes_on : GoesOn l w.lists
    stands : GoesOn w.lists final → Stand code final.arguments from w.code → FunctionIsLowered p code (function_code f from w) f body

  -- a body with its return, by what is preloaded
  record BodyRuns (found : Layout) (f : Function) (body : Stmts) (from : ℕ) (l : Lists) (w : Written) : Type 0 where
    last : ℕ
    to_is : w.to ≡ from + length w.code
    goes_on : GoesOn l w.lists
    named : length f.parameters ≤ w.lists.registers
    stands : (layout : Layout) → IsPreloadedIn layout found → w.lists.registers ≤ layout.writable → GoesOn w.lists final → Stand code final.arguments from w.code →
        StmtsCode code layout p (Lowered.no_exits f.result) (parameter_locals f.parameters) body from last × InstructionAt code last (Plain.Return None)

  body_runs : (found : Layout) (f : Function) (body : Stmts) → definition_of p f.name.text ≡ Some (f, body) → (from : ℕ) (l : Lists) → BodyRuns found f body from l (body_with found p f body from l)
  body_runs found f body e from l =
      let n : ℕ = length f.parameters in
      let scope : LocalScope = parameter_locals f.parameters in
      let t = bodies_are_typed p typed f.name.text (f, body) e in
      let known : Scope = body_scope t.earlier f in
      let vs : List Value = replicate n (record { ty = Int; word = 0 }) in
      let enters = all_enter f.parameters vs (length-replicate n (record { ty = Int; word = 0 })) in
      let agrees : IsSubscope known (running_scope p scope) = agrees_by_shape p known scope (subst (λ m. IsSubscope known (scope_in p m)) (entered_shapes f.parameters vs enters.0 enters.1 ∙ sym (parameters_are f.parameters)) (shape_agrees p known enters.0 (t.fits vs enters.0 enters.1))) in
      let first : Lists = record l { registers = n; layout = found } in
      let made = stmts_code p body (no_exits f.result) scope from first in
      let writes : (layout : Layout) → Writes p code final.arguments layout (StmtsCode code layout p (Lowered.no_exits f.result) scope body) from first made = (λ layout.
      stmts_write p code final.arguments layout typed (callees_stand p) (defined_are_callees p) body known false scope (no_exits f.result) (Lowered.no_exits f.result) agrees
      (record { break_to = refl; continue_to = refl; in_loop = refl; in_function = refl; gives = refl; to_outer = refl })
      (stmts_parts f.result body known (parameter_names f.parameters) false t.body) (cancels f.name.text (f, body) e) from first) in
      let w = writes found in
      record {
        last = made.to;
        to_is = let a = w.to_is in let u : length (made.code ++ own.Return ∷ []) ≡ length made.code + 1 = length-append made.code (own.Return ∷ []) in omega (arith, a, u);
        goes_on = record { arguments = w.grows.arguments; texts = w.grows.texts };
        named = w.grows.registers;
        stands = λ layout ready room g st. (
          (writes layout).stands (record { arguments = g.arguments; texts = g.texts; registers = room; preloaded = subst (IsPreloadedIn layout) (sym w.grows.layout) ready }) (front code final.arguments from made.code (own.Return ∷ []) st),
          (behind code final.arguments from made.to made.code (own.Return ∷ []) w.to_is st).0,
        );
      }

  plain_stands : (f : Function) (body : Stmts) (from : ℕ) (l : Lists) (w : Written) → BodyRuns nothing_preloaded f body from l w → BodyStands f body from l w
  plain_stands f body from l w b = record {
    to_is = b.to_is;
    goes_on = b.goes_on;
    stands = λ g st.
        let layout : Layout = record { writable = w.lists.registers; constants = [] } in
        let runs = b.stands layout (nothing_is_found layout) (omega arith) g st in
        record { layout = layout; begins = from; last = b.last; parameters = refl; fits = b.named; registers = omega arith; sets = refl; runs = runs.0; returns = runs.1 };
  }

  sets_stand : (r : ℕ) (ws : List ℕ) (from : ℕ) → Stand code final.arguments from (all_set r ws) → Lowered.ConstantsCode code r ws from (from + length ws)
  sets_stand r [] from st = omega arith
  sets_stand r (w ∷ ws) from st = (st.0, subst (λ q. Lowered.ConstantsCode code (suc r) ws (suc from) q) (omega arith) (sets_stand (suc r) ws (suc from) st.1))

  -- a body behind the instructions that set its constants
  ready_stands : (layout : Layout) (f : Function) (body : Stmts) → definition_of p f.name.text ≡ Some (f, body) → (from : ℕ) (l : Lists) → length f.parameters ≤ layout.writable →
      (body_with layout p f body (from + length layout.constants) l).lists.registers ≤ layout.writable → BodyStands f body from l (body_preloaded layout p f body from l)
  ready_stands layout f body e from l named room =
      let begins : ℕ = from + length layout.constants in
      let made = body_with layout p f body begins l in
      let sets : List Instr = all_set layout.writable layout.constants in
      let b = body_runs layout f body e begins l in
      let many = sets_length layout.writable layout.constants in
      let begins_is : begins ≡ from + length sets = omega (arith, many) in
      record {
        to_is = let a = b.to_is in let u : length (sets ++ made.code) ≡ length sets + length made.code = length-append sets made.code in omega (arith, a, many, u);
        goes_on = record { arguments = b.goes_on.arguments; texts = b.goes_on.texts };
        stands = λ g st.
            let runs = b.stands layout (all_are_found layout) room (record { arguments = g.arguments; texts = g.texts }) (behind code final.arguments from begins sets made.code begins_is st) in
            record {
              layout = layout;
              begins = begins;
              last = b.last;
              parameters = refl;
              fits = named;
              registers = refl;
              sets = sets_stand layout.writable layout.constants from (front code final.arguments from sets made.code st);
              runs = runs.0;
              returns = runs.1;
            };
      }

  body_stands : (f : Function) (body : Stmts) → definition_of p f.name.text ≡ Some (f, body) → (from : ℕ) (l : Lists) → BodyStands f body from l (body_written p f body from l)
  body_stands f body e from l = by (in_loops from plain.code)
    where
      plain : Written
      plain = body_with nothing_preloaded p f body from l

      runs : BodyRuns nothing_preloaded f body from l plain
      runs = body_runs nothing_preloaded f body e from l

      by_room : (layout : Layout) → plain.lists.registers ≡ layout.writable → (b : Bool) → BodyStands f body from l (if b then body_preloaded layout p f body from l else plain)
      by_room layout same true =
          let named = runs.named in
          let leaner = body_leaner p f body layout from (from + length layout.constants) l l in
          ready_stands layout f body e from l (omega (arith, same, named)) (omega (arith, same, leaner))
      by_room layout same false = plain_stands f body from l plain runs

      by : (ws : List ℕ) → BodyStands f body from l (body_better p f body from l plain ws)
      by [] = plain_stands f body from l plain runs
      by (w ∷ ws) = by_room (record { writable = plain.lists.registers; constants = w ∷ ws }) refl (nat_le (plain.lists.registers + length (w ∷ ws)) MOST_REGISTERS)

  -- each definition among these items is the first one of its name in the program
  abbrev pub Firsts : Program → Type 0
  Firsts [] = Unit {0}
  Firsts (Shares gs ∷ items) = Firsts items
  Firsts (Defines f ∷ items) = ((body : Stmts) → f.body ≡ Some body → definition_of p f.name.text ≡ Some (f, body)) × Firsts items

  pub or_false : (a b : Bool) → (a || b) ≡ false → (a ≡ false) × (b ≡ false)
  or_false true b h = absurd (cc)
  or_false false b h = (refl, h)

  pub names_apart : (a b : Program) (x : List ℕ) → has_name (defined_names (a ++ b)) x ≡ false → (has_name (defined_names a) x ≡ false) × (has_name (defined_names b) x ≡ false)
  names_apart [] b x h = (refl, h)
  names_apart (Shares gs ∷ a) b x h = names_apart a b x h
  names_apart (Defines f ∷ a) b x h = by f.body (λ g. names_apart a b x g) h
    where
      by : (o : Option Stmts) → (has_name (defined_names (a ++ b)) x ≡ false → (has_name (defined_names a) x ≡ false) × (has_name (defined_names b) x ≡ false)) →
          has_name (unwrap_or (option_map (λ c. f.name.text ∷ defined_names (a ++ b)) o) (defined_names (a ++ b))) x ≡ false →
          (has_name (unwrap_or (option_map (λ c. f.name.text ∷ defined_names a) o) (defined_names a)) x ≡ false) × (has_name (defined_names b) x ≡ false)
      by None others g = others g
      by (Some c) others g =
          let first = or_false (bytes_eq f.name.text x) (has_name (defined_names (a ++ b)) x) g in
          let rest = others first.1 in
          (ap (λ y. y || has_name (defined_names a) x) first.0 ∙ rest.0, rest.1)

  past : (f : Function) (items : Program) (x : List ℕ) → has_name (defined_names (Defines f ∷ [])) x ≡ false → definition_of (Defines f ∷ items) x ≡ definition_of items x
  past f items x h = by f.body h
    where
      by : (o : Option Stmts) → has_name (unwrap_or (option_map (λ c. f.name.text ∷ []) o) []) x ≡ false → definition_or f x o (definition_of items x) ≡ definition_of items x
      by None g = refl
      by (Some b) g = ap (λ y. if y then Some (f, b) else definition_of items x) (or_false (bytes_eq f.name.text x) false g).0

  pub own_first : (f : Function) (body : Stmts) (before named : Bool) → f.body ≡ Some body → IsTrue (before && (is_none f.body || not named)) → named ≡ false
  own_first f body true true e h = absurd (let g = subst (λ o. IsTrue (is_none o || false)) e h in cc)
  own_first f body true false e h = refl
  own_first f body false true e h = absurd (cc)
  own_first f body false false e h = refl

  pub firsts_from : (earlier items : Program) → AreMet (AreTypedItems earlier items) → ((x : List ℕ) → has_name (defined_names earlier) x ≡ false → definition_of p x ≡ definition_of items x) → Firsts items
  firsts_from earlier [] h g = tt
  firsts_from earlier (Shares gs ∷ items) h g =
      firsts_from (earlier ++ Shares gs ∷ []) items (rest_met earlier (Shares gs) items h) (λ x n. g x (names_apart earlier (Shares gs ∷ []) x n).0)
  firsts_from earlier (Defines f ∷ items) h g = (
    λ body e. g f.name.text (own_first f body (may_be_function (file_scope earlier f.name.text)) (has_name (defined_names earlier) f.name.text) e own) ∙ ap (λ o. definition_or f f.name.text o (definition_of items f.name.text)) e ∙ ap (λ y. if y then Some (f, body) else definition_of items f.name.text) ((bytes_eq-Decides f.name.text f.name.text).1 refl),
    firsts_from (earlier ++ Defines f ∷ []) items (rest_met earlier (Defines f) items h)
        (λ x n. let a = names_apart earlier (Defines f ∷ []) x n in g x a.0 ∙ past f items x a.1),
  )
    where
      own : IsTrue (may_be_function (file_scope earlier f.name.text) && (is_none f.body || not (has_name (defined_names earlier) f.name.text)))
      own =
          let true_exit = may_be_function (file_scope earlier f.name.text) && (is_none f.body || not (has_name (defined_names earlier) f.name.text)) in
          let all : AreMet (IsTypedFunction earlier f) = met_before (IsTypedFunction earlier f) (AreTypedItems (earlier ++ Defines f ∷ []) items) h in
          let type = demand 22 f.name.span (agrees f (file_scope earlier f.name.text)) in
          let two = met_before (demand 21 f.name.span true_exit ++ type ++ AreDistinct [] f.parameters) (IsTypedBody earlier f f.body) all in
          let one = met_before (demand 21 f.name.span true_exit ++ type) (AreDistinct [] f.parameters) two in
          is_met 21 f.name.span true_exit (met_before (demand 21 f.name.span true_exit) type one)

  pub items_met : AreMet (AreTypedItems [] p)
  items_met =
      let worker = demand 28 (record { start = 0; end = 0 }) (is_worker (file_scope p (codes "worker"))) in
      met_before (AreTypedItems [] p) (AreDefined p [] p) (met_before (AreTypedItems [] p ++ AreDefined p [] p) worker typed)

  -- a function of the code stands for the definition of its name
  record IsOne (g : FunctionCode) : Type 0 where
    function : Function
    body : Stmts
    defines : definition_of p g.name ≡ Some (function, body)
    lowered : FunctionIsLowered p code g function body

  record MadeStands (from : ℕ) (l : Lists) (made : FunctionCodes) : Type 0 where
    to_is : made.to ≡ from + length made.code
    goes_on : GoesOn l made.lists
    stands : GoesOn made.lists final → Stand code final.arguments from made.code → (number : ℕ) (g : FunctionCode) → slice_get made.functions number ≡ Some g → IsOne g

  one_more_stands : (f : Function) (body : Stmts) → definition_of p f.name.text ≡ Some (f, body) → (from : ℕ) (l : Lists) (w : Written) (rest : FunctionCodes) → BodyStands f body from l w → MadeStands w.to w.lists rest → MadeStands from l (put_before (function_code f from w) w rest)
  one_more_stands f body e from l w rest b r = record {
    to_is = let x = b.to_is in let y = r.to_is in let u : length (w.code ++ rest.code) ≡ length w.code + length rest.code = length-append w.code rest.code in omega (arith, x, y, u);
    goes_on = on_further l w.lists rest.lists b.goes_on r.goes_on;
    stands = λ g st number h e'. at number h e' g (front code final.arguments from w.code rest.code st) (behind code final.arguments from w.to w.code rest.code b.to_is st);
  }
    where
      at : (number : ℕ) (h : FunctionCode) → slice_get (function_code f from w ∷ rest.functions) number ≡ Some h → GoesOn rest.lists final → Stand code final.arguments from w.code → Stand code final.arguments w.to rest.code → IsOne h
      at zero h e' g st st' = subst IsOne (ap (λ o. unwrap_or o (function_code f from w)) e') (record { function = f; body = body; defines = e; lowered = b.stands (on_further w.lists rest.lists final r.goes_on g) st })
      at (suc n) h e' g st st' = r.stands g st' n h e'

  made_stands : (items : Program) → Firsts items → (from : ℕ) (l : Lists) → MadeStands from l (all_made p items from l)
  made_stands [] h from l = record { to_is = omega arith; goes_on = on_same l; stands = λ g st number k e. absurd (cc) }
  made_stands (Shares gs ∷ items) h from l = made_stands items h from l
  made_stands (Defines f ∷ items) h from l = by f.body h.0 (λ to m. made_stands items h.1 to m)
    where
      by : (o : Option Stmts) → ((body : Stmts) → o ≡ Some body → definition_of p f.name.text ≡ Some (f, body)) → ((to : ℕ) (m : Lists) → MadeStands to m (all_made p items to m)) → MadeStands from l (made_first p f o (all_made p items) from l)
      by None first others = others from l
      by (Some body) first others =
          let w = body_written p f body from l in
          one_more_stands f body (first body refl) from l w (all_made p items w.to w.lists) (body_stands f body (first body refl) from l) (others w.to w.lists)

  each_is_one : (number : ℕ) (g : FunctionCode) → slice_get code.functions number ≡ Some g → IsOne g
  each_is_one number g e =
      (made_stands p (firsts_from [] p items_met (λ x n. refl)) 0 (record { arguments = []; texts = []; registers = 0; layout = nothing_preloaded })).stands (on_same final) (all_stand code final.arguments [] (made_of p).code refl) number g e

  some_same : (a b : Function × Stmts) → Some a ≡ Some b → a ≡ b
  some_same a b e = ap (λ o. unwrap_or o a) e

  each_is_lowered : (number : ℕ) (g : FunctionCode) (f : Function) (body : Stmts) → slice_get code.functions number ≡ Some g → definition_of p g.name ≡ Some (f, body) → FunctionIsLowered p code g f body
  each_is_lowered number g f body e d =
      let one = each_is_one number g e in
      let same : (one.function, one.body) ≡ (f, body) = some_same (one.function, one.body) (f, body) (sym one.defines ∙ d) in
      subst (λ (x : Function × Stmts). FunctionIsLowered p code g x.0 x.1) same one.lowered

  -- worker's code
  worker_found : (functions : List FunctionCode) (number : ℕ) (g : FunctionCode) → slice_get functions number ≡ Some g → g.name ≡ codes "worker" → (w : FunctionCode) × (worker_among functions ≡ Some w)
  worker_found [] number g e n = absurd (cc)
  worker_found (f ∷ functions) zero g e n =
      let same : f ≡ g = ap (λ o. unwrap_or o f) e in
      (f, ap (λ y. if y then Some f else worker_among functions) ((bytes_eq-Decides f.name (codes "worker")).1 (ap (λ (x : FunctionCode). x.name) same ∙ n)))
  worker_found (f ∷ functions) (suc number) g e n = by (bytes_eq f.name (codes "worker")) (worker_found functions number g e n)
    where
      by : (b : Bool) → (w : FunctionCode) × (worker_among functions ≡ Some w) → (w : FunctionCode) × ((if b then Some f else worker_among functions) ≡ Some w)
      by true h = (f, refl)
      by false h = h

  pub callable_worker : (k : Known) → IsTrue (is_worker k) → (result : Option Scalar) × (takes : List Scalar) × (k ≡ Callable result takes)
  callable_worker Unknown h = absurd (cc)
  callable_worker (Number t) h = absurd (cc)
  callable_worker (Array t n) h = absurd (cc)
  callable_worker (Callable r ts) h = (r, ts, refl)

  pub picked_code_is_lowered : IsLowered p code
  picked_code_is_lowered =
      let k = callable_worker (file_scope p (codes "worker")) (worker_known p typed) in
      let d = called_are_defined p typed (codes "worker") k.0 k.1 k.2 in
      let c = defined_are_callees p (codes "worker") d.0.0 d.0.1 d.1 in
      let g = callees_stand p (codes "worker") (callee_at c.0 d.0.0) c.1 in
      let w = worker_found code.functions c.0 g.0 g.1 g.2 in
      record { each = each_is_lowered; worker = w.0; has_worker = w.1; globals_are = refl }
