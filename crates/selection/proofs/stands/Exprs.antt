-- What is emitted for an expression of a typed program stands for it, and what is picked for a condition decides it.
use Rattle.std.proofs.Common.{◌≡◌, refl, sym, ap, subst, ◌∙◌, ℕ, pos, ◌+◌, List, [], ◌∷◌, ◌++◌, append_assoc, length, map, take, drop, arith, Option, Some, None, ◌⊎◌, inl, inr, ⊎_elim, not, IsTrue}
use Rattle.std.specs.Prelude.{unwrap_or, slice_get}
use Rattle.std.specs.Option.{IfSome}
use Rattle.std.proofs.lemmas.List.{length-append}
use Rattle.std.proofs.Math.Seq.{drop-append_seam, take-append_seam}
use Rattle.lex.specs.declared.token.Scalar.{Scalar}
use Rattle.lex.specs.declared.token.Scalar.TheVariants.{Int}
use Rattle.syntax.specs.declared.tree.UnaryOp.TheVariants.{Negate, Keep, Not, Complement}
use Rattle.syntax.specs.declared.tree.BinaryOp.{BinaryOp}
use Rattle.syntax.specs.declared.tree.BinaryOp.TheVariants.{ShiftLeft}
use Rattle.syntax.specs.declared.tree.LogicalOp.TheVariants.{AndThen, OrElse}
use Rattle.syntax.specs.Tree.{Name, Expr, Exprs, Variable, Constant, Element, Call, Parenthesized, Cast, Unary, Binary, Logical, Conditional, InTransaction, Stmts, Function, Program}
use Rattle.syntax.specs.Numbers.{word_of, common, operand_type, result_type}
use Rattle.syntax.specs.Names.{Local, GlobalCells, newest, global_of, definition_of}
use Rattle.syntax.specs.Types.{Callable, Scope, number_type, element_type as element_of_symbol, call_type, common_of, binary_type, type_of, running_scope, known_function}
use Rattle.syntax.specs.Typing.{may_be_function, gives_nothing}
use Rattle.syntax.specs.Typing.{IsTypedProgram}
use Rattle.syntax.specs.ScopeLaws.{IsSubscope}
use Rattle.syntax.proofs.typing.TypedParts.{Knows, Gives, TypedExpr, TypedExprs}
use Rattle.syntax.proofs.typing.Fits.{scope_in, same_type_of, agrees_by_shape, shape_agrees}
use Rattle.syntax.proofs.typing.ValueTypes.{Found}
use Rattle.bytecode.specs.declared.instr.Instr.{Instr}
use Rattle.bytecode.specs.declared.instr.Instr.TheVariants as own
use Rattle.bytecode.specs.Code.{Code, FunctionCode, Instr as Plain}
use Rattle.bytecode.specs.Views.{args_of, instr_of}
use Rattle.lower_spec.specs.Expressions.{LocalScope, Layout, IsLike, Coded, Branching, MayTake, GivenBy, TypedCode, BranchCode, VariableCode, ElementAt, BothHold, EitherHolds, CallCode, argument_order, types_left, OperandCode, ExprCode, OwnTests, ArgsCode, CondCode}
use Rattle.selection.specs.Lists.{Lists, with_register, with_registers}
use Rattle.selection.specs.Names.{Callee, callee_at, callee_of}
use Rattle.selection.specs.Conditions.{Condition, logical_condition}
use Rattle.selection.specs.Expressions.{Emitted, AllEmitted, above, variable, element, call_code, value_into, converting, where_same, in_type, in_first_type, variable_type, element_type, called_type, taken_types, emitted_type, emit, as_type, operand, own_condition, condition, emit_all}
use Rattle.selection.proofs.stands.Standing.{Stand, front, behind, front_same, front_more, max_left, Grows, grows_same, grows_further, grows_used, Fits, fits_before, is_register, given}
use Rattle.selection.proofs.stands.Named.{VariableFound, variable_found, array_found, function_found, known_number, known_array, known_callable}
use Rattle.selection.proofs.stands.Kinds.{in_type_of, emitted_is}
use Rattle.selection.proofs.stands.Emitting.{above_free, above_it, Emits, one_emits, in_local_emits, element_emits, OwnIs, in_type_emits, in_type_elsewhere, typed_emits, cast_emits, in_first_emits, in_own_emits, negated_emits, complemented_emits, compared_emits, operand_emits, left_emits, both_emits, into_emits}
use Rattle.selection.proofs.stands.Conds.{Decides, opposite_decides, and_decides, or_decides, tested_decides, zero_decides, answered_emits, chosen_emits}

-- a callee's number is that of a function of its name
abbrev pub CalleesStand : Program → Code → Type 0
CalleesStand p code = (x : List ℕ) (c : Callee) → callee_of p x ≡ Some c → (g : FunctionCode) × (slice_get code.functions c.number ≡ Some g) × (g.name ≡ x)

-- a function that is defined is a callee
abbrev pub DefinedAreCallees : Program → Type 0
DefinedAreCallees p = (x : List ℕ) (f : Function) (body : Stmts) → definition_of p x ≡ Some (f, body) → (n : ℕ) × (callee_of p x ≡ Some (callee_at n f))

-- what a call hands over stands in the code's list of arguments
pub handed_over : (arguments made handed rest : List ℕ) → arguments ≡ (made ++ handed) ++ rest → args_of arguments (length made) (length handed) ≡ handed
handed_over arguments made handed rest e =
    ap (λ xs. take (length handed) (drop (length made) xs)) (e ∙ append_assoc made handed rest)
    ∙ ap (λ xs. take (length handed) xs) (drop-append_seam made (handed ++ rest))
    ∙ take-append_seam handed rest

binary_of : (op : BinaryOp) (s t : Scalar) → binary_type op (Some s) (Some t) ≡ Some (result_type op (operand_type op s t))
binary_of ShiftLeft s t = refl
binary_of op s t = refl

variable_of : (locals : ℕ) (o : Option (ℕ × Scalar)) (g : Option GlobalCells) (t : Scalar) → VariableFound locals o g t → variable_type o g ≡ t
variable_of locals (Some x) g t h = h.1
variable_of locals None (Some g) t h = h
variable_of locals None None t h = absurd h

element_of : (g : Option GlobalCells) (t : Scalar) → Found g t → element_type g ≡ t
element_of None t f = absurd (cc f.1)
element_of (Some g) t f = let same : g ≡ f.0 = ap (λ o. unwrap_or o g) f.1 in ap (λ (k : GlobalCells). k.global.ty) same ∙ f.2

called_of : (o : Option Callee) (c : Callee) → o ≡ Some c → called_type o ≡ c.ty
called_of None c e = absurd (cc)
called_of (Some d) c e = let same : d ≡ c = ap (λ o. unwrap_or o d) e in ap (λ (x : Callee). x.ty) same

taken_of : (o : Option Callee) (n : ℕ) (f : Function) → o ≡ Some (callee_at n f) → taken_types o ≡ map (λ q. q.ty) f.parameters
taken_of None n f e = absurd (cc)
taken_of (Some d) n f e = let same : d ≡ callee_at n f = ap (λ o. unwrap_or o d) e in ap (λ (x : Callee). map (λ q. q.ty) x.parameters) same

called_into : (o : Option Callee) (args : AllEmitted) (from into : ℕ) (l : Lists) → (call_code o args from into l).location.register ≡ into
called_into None args from into l = refl
called_into (Some d) args from into l = refl

element_into : (g : Option GlobalCells) (e : Emitted) (from into : ℕ) (l : Lists) → (element g e from into l).location.register ≡ into
element_into None e from into l = refl
element_into (Some g) e from into l = refl

call_gives : (result : Option Scalar) (takes : List Scalar) → IsTrue (not (gives_nothing (Callable result takes))) → result ≡ Some (unwrap_or result Int)
call_gives None takes h = absurd (cc)
call_gives (Some t) takes h = refl

result_of : (f : Function) (result : Option Scalar) (takes : List Scalar) → known_function f ≡ Callable result takes → f.result ≡ result
result_of f result takes e = ap call_type e

module _ (p : Program) (code : Code) (arguments : List ℕ) (layout : Layout) (typed : IsTypedProgram p) (stand : CalleesStand p code) (defined : DefinedAreCallees p) where
  -- the values of a call's arguments
  pub record AllEmits (A : (from to free : ℕ) → List ℕ → Type 0) (from free : ℕ) (l : Lists) (e : AllEmitted) : Type 0 where
    pub to_is : e.to ≡ from + length e.code
    pub grows : Grows l e.lists
    pub stands : Fits code arguments layout e.lists → Stand code arguments from e.code → A from e.to free e.registers

  module _ (known : Scope) (scope : LocalScope) (agrees : IsSubscope known (running_scope p scope)) where
    variable_emits : (home : Option ℕ) (o : Option (ℕ × Scalar)) (g : Option GlobalCells) (t : Scalar) → VariableFound (length scope) o g t → (from into free : ℕ) (l : Lists) → MayTake home free into →
        Emits code arguments layout (VariableCode code layout home (length scope) o g) from free l (variable o g from into l)
    variable_emits home (Some x) g t h from into free l m = in_local_emits code arguments layout (length scope) x.0 x.1 from free l h.0
    variable_emits home None (Some g) t h from into free l m = one_emits code arguments layout home (λ r. Plain.Read r g.cell) (own.Read into g.cell) g.global.ty from free into l refl m
    variable_emits home None None t h from into free l m = absurd h

    element_at_emits : (home : Option ℕ) (A : Coded) (g : Option GlobalCells) (t : Scalar) → Found g t → (from into free : ℕ) (l : Lists) (e : Emitted) → Emits code arguments layout A from free l e → MayTake home free into →
        Emits code arguments layout (ElementAt code layout home g A) from free l (element g e from into l)
    element_at_emits home A None t f from into free l e h m = absurd (cc f.1)
    element_at_emits home A (Some g) t f from into free l e h m = element_emits code arguments layout home g A from free into l e h m

    -- the callee of a call
    record Calls (x : List ℕ) : Type 0 where
      definition : Function × Stmts
      number : ℕ
      function : FunctionCode
      defines : definition_of p x ≡ Some definition
      callee : callee_of p x ≡ Some (callee_at number definition.0)
      stands : slice_get code.functions number ≡ Some function
      named : function.name ≡ x
      result : definition.0.result ≡ call_type (known x)

    calls : (x : Name) → Knows known x → IsTrue (may_be_function (known x.text)) → Calls x.text
    calls x h f =
        let k = known_callable (known x.text) h f in
        let d = function_found p scope typed x.text k.0 k.1 (agrees x.text h ∙ k.2) in
        let c = defined x.text d.0.0 d.0.1 d.1 in
        let g = stand x.text (callee_at c.0 d.0.0) c.1 in
        record {
          definition = d.0;
          number = c.0;
          function = g.0;
          defines = d.1;
          callee = c.1;
          stands = g.1;
          named = g.2;
          result = result_of d.0.0 k.0 k.1 d.2 ∙ sym (ap call_type k.2);
        }

    -- the type of what is emitted is the expression's
    pub type_is : (e : Expr) → TypedExpr known e → Gives known e → type_of known e ≡ Some (emitted_type p scope e)
    type_is (Variable x) h g =
        let k = known_number (known x.text) h.0 h.1 in
        ap number_type k.1 ∙ ap Some (sym (variable_of (length scope) (newest scope x.text) (global_of p x.text) k.0 (variable_found p scope x.text k.0 (agrees x.text h.0 ∙ k.1))))
    type_is (Element x i at) h g =
        let k = known_array (known x.text) h.0 h.2 in
        ap element_of_symbol k.2 ∙ ap Some (sym (element_of (global_of p x.text) k.0 (array_found p scope x.text k.0 k.1 (agrees x.text h.0 ∙ k.2))))
    type_is (Call f es at) h g =
        let c = calls f h.0 h.2 in
        let k = known_callable (known f.text) h.0 h.2 in
        let gives = subst (λ y. IsTrue (not (gives_nothing y))) k.2 g in
        let has : call_type (known f.text) ≡ Some (unwrap_or c.definition.0.result Int) = (ap call_type k.2 ∙ call_gives k.0 k.1 gives ∙ ap (λ o. Some (unwrap_or o Int)) (sym (c.result ∙ ap call_type k.2))) in
        has ∙ ap Some (sym (called_of (callee_of p f.text) (callee_at c.number c.definition.0) c.callee))
    type_is (Parenthesized e at) h g = type_is e h g
    type_is (Unary Negate e at) h g = type_is e h.0 h.1
    type_is (Unary Keep e at) h g = type_is e h.0 h.1
    type_is (Unary Complement e at) h g = type_is e h.0 h.1
    type_is (Binary op a b at) h g =
        ap (λ o. binary_type op o (type_of known b)) (type_is a h.0 h.1)
        ∙ ap (λ o. binary_type op (Some (emitted_type p scope a)) o) (type_is b h.2 h.3)
        ∙ binary_of op (emitted_type p scope a) (emitted_type p scope b)
    type_is (Conditional c a b at) h g =
        ap (λ o. common_of o (type_of known b)) (type_is a h.1 h.2)
        ∙ ap (λ o. common_of (Some (emitted_type p scope a)) o) (type_is b h.3 h.4)
    type_is (InTransaction mode keyword e at) h g = type_is e h.0 h.1
    type_is e h g = refl

    -- of a constant it is its own
    own_is : (e : Expr) → OwnIs code arguments layout e (emitted_type p scope e)
    own_is (Constant n t at) = refl
    own_is e = tt

    call_emits : (home : Option ℕ) (x : List ℕ) (A : List Scalar → (from to free : ℕ) → List ℕ → Type 0) (c : Calls x) (o : Option Callee) → o ≡ Some (callee_at c.number c.definition.0) → (from into free : ℕ) (l : Lists) (args : AllEmitted) → AllEmits (A (map (λ q. q.ty) c.definition.0.parameters)) from free l args → MayTake home free into →
        Emits code arguments layout (CallCode code layout home p x A) from free l (call_code o args from into l)
    call_emits home x A c None e from into free l args h m = absurd (cc)
    call_emits home x A c (Some d) e from into free l args h m = subst (λ k. Emits code arguments layout (CallCode code layout home p x A) from free l (call_code (Some k) args from into l)) (sym (ap (λ o. unwrap_or o d) e)) whole
      where
        whole : Emits code arguments layout (CallCode code layout home p x A) from free l (call_code (Some (callee_at c.number c.definition.0)) args from into l)
        whole =
            let f : Function = c.definition.0 in
            let made : List ℕ = args.lists.arguments in
            let handed : List ℕ = argument_order f.parameters args.registers in
            let i : Instr = own.Call into (length handed) c.number (length made) in
            let more : Lists = record args.lists { arguments = made ++ handed } in
            let lists : Lists = with_registers (length handed) more in
            let grows_more : Grows args.lists more = record { arguments = front_more made handed; texts = front_same args.lists.texts; registers = omega arith; layout = refl } in
            let grows_lists : Grows more lists = record { arguments = front_same (made ++ handed); texts = front_same args.lists.texts; registers = max_left args.lists.registers (length handed); layout = refl } in
            let all : Grows args.lists (with_register into lists) = grows_used args.lists lists into (grows_further args.lists more lists grows_more grows_lists) in
            record {
              to_is = let a = h.to_is in let b : length (args.code ++ i ∷ []) ≡ length args.code + 1 = length-append args.code (i ∷ []) in omega (arith, a, b);
              grows = grows_further l args.lists (with_register into lists) h.grows all;
              stands = λ g st.
                  let at = (behind code arguments from args.to args.code (i ∷ []) h.to_is st).0 in
                  let same : instr_of arguments i ≡ Plain.Call c.number into handed = ap (λ xs. Plain.Call c.number into xs) (handed_over arguments made handed g.arguments.0 g.arguments.1) in
                  let own_one = given code arguments layout home i (unwrap_or f.result Int) args.to (args.to + 1) free into (omega arith) m (is_register code arguments layout lists into g) at in
                  record {
                    mid = args.to;
                    number = c.number;
                    function = c.function;
                    f = f;
                    body = c.definition.1;
                    registers_of = args.registers;
                    gives_args = h.stands (fits_before code arguments layout args.lists (with_register into lists) all g) (front code arguments from args.code (i ∷ []) st);
                    calls = subst (λ j. GivenBy code layout home j (unwrap_or f.result Int) args.to (args.to + 1) free into (unwrap_or f.result Int)) same own_one;
                    known = c.stands;
                    named = c.named;
                    defined = c.defines;
                  };
            }

    like_agrees : (ls : List Local) → IsLike scope ls → IsSubscope known (running_scope p ls)
    like_agrees ls like = agrees_by_shape p known ls (subst (λ m. IsSubscope known (scope_in p m)) (sym like) (shape_agrees p known scope agrees))

    -- a value that did not come into the register that was asked for lies in a local's own
    elsewhere : (e : Expr) → TypedExpr known e → (from into free : ℕ) (l : Lists) →
        Emits code arguments layout (ExprCode code layout p None scope e) from free l (emit p scope e from into free l) ⊎ ((emit p scope e from into free l).location.register ≡ into)
    elsewhere (Variable x) h from into free l =
        let k = known_number (known x.text) h.0 h.1 in
        by (newest scope x.text) (global_of p x.text) k.0 (variable_found p scope x.text k.0 (agrees x.text h.0 ∙ k.1))
      where
        by : (o : Option (ℕ × Scalar)) (g : Option GlobalCells) (t : Scalar) → VariableFound (length scope) o g t →
            Emits code arguments layout (VariableCode code layout None (length scope) o g) from free l (variable o g from into l) ⊎ ((variable o g from into l).location.register ≡ into)
        by (Some x) g t f = inl (in_local_emits code arguments layout (length scope) x.0 x.1 from free l f.0)
        by None (Some g) t f = inr refl
        by None None t f = absurd f
    elsewhere (Element x i at) h from into free l = inr (element_into (global_of p x.text) (emit p scope i from free free l) from into l)
    elsewhere (Call f es at) h from into free l = inr (called_into (callee_of p f.text) (emit_all p scope (taken_types (callee_of p f.text)) es from free l) from into l)
    elsewhere (Parenthesized e at) h from into free l = elsewhere e h from into free l
    elsewhere (Cast t e at) h from into free l =
        let s = emitted_type p scope e in
        let x = emit p scope e from into free l in
        ⊎_elim (λ g. inl (cast_emits code arguments layout None e (ExprCode code layout p None scope e) s t from free l (in_type s t e x from into l) (in_type_of s t e x from into l) g)) (λ g. inr g)
        (in_type_elsewhere code arguments layout e (ExprCode code layout p None scope e) s t from free into l x (elsewhere e h from into free l) (emitted_is p scope e from into free l))
    elsewhere (Unary Keep e at) h from into free l = elsewhere e h.0 from into free l
    elsewhere (InTransaction mode keyword e at) h from into free l =
        ⊎_elim (λ g. inl (in_own_emits code arguments layout (ExprCode code layout p None scope e) from free l (emit p scope e (from + 1) into free l) g)) (λ g. inr g) (elsewhere e h.0 (from + 1) into free l)
    elsewhere e h from into free l = inr refl

    -- a branch's value in the type of both
    branch_elsewhere : (t : Scalar) (e : Expr) → TypedExpr known e → (from into free : ℕ) (l : Lists) →
        Emits code arguments layout (λ from to free r x. TypedCode code layout None e (ExprCode code layout p None scope e) t from to free r) from free l (as_type p scope t e from into free l) ⊎ ((as_type p scope t e from into free l).location.register ≡ into)
    branch_elsewhere t e h from into free l =
        let s = emitted_type p scope e in
        let x = emit p scope e from into free l in
        ⊎_elim (λ g. inl (typed_emits code arguments layout None e (ExprCode code layout p None scope e) s t from free l (in_type s t e x from into l) g)) (λ g. inr g)
        (in_type_elsewhere code arguments layout e (ExprCode code layout p None scope e) s t from free into l x (elsewhere e h from into free l) (emitted_is p scope e from into free l))

    same_decides : (i : Option (ℕ → ℕ → Instr)) (T : Branching) (from free : ℕ) (l : Lists) (o : Option Condition) → IfSome o (Decides code arguments layout T from free l) → IfSome (where_same i o) (Decides code arguments layout T from free l)
    same_decides None T from free l o h = h
    same_decides (Some i) T from free l o h = tt

    abbrev Tests : Expr → Branching
    Tests e = CondCode code layout p scope e

    by_parts : (e : Expr) (from free : ℕ) (l : Lists) → IfSome (own_condition p scope e from free l) (Decides code arguments layout (OwnTests code layout p scope e) from free l) → Emits code arguments layout (ExprCode code layout p None scope e) from free l (emit p scope e from free free l) →
        Decides code arguments layout (Tests e) from free l (condition p scope e from free l)
    by_parts e from free l h g = tested_decides code arguments layout (ExprCode code layout p None scope e) (OwnTests code layout p scope e) from free l (own_condition p scope e from free l) (emit p scope e from free free l) h g

    mutual
      pub expr_emits : (home : Option ℕ) (e : Expr) → TypedExpr known e → (from into free : ℕ) (l : Lists) → MayTake home free into →
          Emits code arguments layout (ExprCode code layout p home scope e) from free l (emit p scope e from into free l)
      expr_emits home (Variable x) h from into free l m =
          let k = known_number (known x.text) h.0 h.1 in
          variable_emits home (newest scope x.text) (global_of p x.text) k.0 (variable_found p scope x.text k.0 (agrees x.text h.0 ∙ k.1)) from into free l m
      expr_emits home (Constant n t at) h from into free l m = one_emits code arguments layout home (λ r. Plain.Constant r (word_of t (pos n))) (own.Constant into (word_of t (pos n))) t from free into l refl m
      expr_emits home (Element x i at) h from into free l m =
          let k = known_array (known x.text) h.0 h.2 in
          element_at_emits home (ExprCode code layout p None scope i) (global_of p x.text) k.0 (array_found p scope x.text k.0 k.1 (agrees x.text h.0 ∙ k.2)) from into free l (emit p scope i from free free l)
          (expr_emits None i h.1 from free free l (omega arith)) m
      expr_emits home (Call f es at) h from into free l m =
          let c = calls f h.0 h.2 in
          call_emits home f.text (λ ts. ArgsCode code layout p scope ts es) c (callee_of p f.text) c.callee from into free l (emit_all p scope (taken_types (callee_of p f.text)) es from free l)
          (subst (λ ts. AllEmits (ArgsCode code layout p scope ts es) from free l (emit_all p scope (taken_types (callee_of p f.text)) es from free l)) (taken_of (callee_of p f.text) c.number c.definition.0 c.callee) (all_emits (taken_types (callee_of p f.text)) es h.1 from free l)) m
      expr_emits home (Parenthesized e at) h from into free l m = expr_emits home e h from into free l m
      expr_emits home (Cast t e at) h from into free l m =
          let s = emitted_type p scope e in
          let x = emit p scope e from into free l in
          cast_emits code arguments layout home e (ExprCode code layout p home scope e) s t from free l (in_type s t e x from into l) (in_type_of s t e x from into l)
          (in_type_emits code arguments layout home e (ExprCode code layout p home scope e) s t from free into l x (expr_emits home e h from into free l m) (emitted_is p scope e from into free l) (own_is e) m)
      expr_emits home (Unary Negate e at) h from into free l m =
          negated_emits code arguments layout home (ExprCode code layout p None scope e) from free into l (emit p scope e from free free l) (expr_emits None e h.0 from free free l (omega arith)) m
      expr_emits home (Unary Keep e at) h from into free l m = expr_emits home e h.0 from into free l m
      expr_emits home (Unary Not e at) h from into free l m =
          compared_emits code arguments layout home (ExprCode code layout p None scope e) from free into l (emit p scope e from free free l) (expr_emits None e h.0 from free free l (omega arith)) m
      expr_emits home (Unary Complement e at) h from into free l m =
          complemented_emits code arguments layout home (ExprCode code layout p None scope e) from free into l (emit p scope e from free free l) (expr_emits None e h.0 from free free l (omega arith)) m
      expr_emits home (Binary op a b at) h from into free l m =
          let ta = emitted_type p scope a in
          let tb = emitted_type p scope b in
          let t = operand_type op ta tb in
          let u = operand_type op tb ta in
          let x = emit p scope a from free free l in
          let left = in_type ta t a x from free l in
          let later : ℕ = above free left.location.register in
          let y = emit p scope b left.location.to later later left.lists in
          both_emits code arguments layout home op (OperandCode code layout a (ExprCode code layout p None scope a)) (OperandCode code layout b (ExprCode code layout p None scope b)) ta tb from free into l left (operand p scope u b left.location.to later left.lists)
          (left_emits code arguments layout a (ExprCode code layout p None scope a) ta t from free l x (expr_emits None a h.0 from free free l (omega arith)) (emitted_is p scope a from free free l) (own_is a))
          (operand_emits code arguments layout b (ExprCode code layout p None scope b) tb u left.location.to later left.lists y (expr_emits None b h.2 left.location.to later later left.lists (omega arith)) (emitted_is p scope b left.location.to later later left.lists) (own_is b)) m
      expr_emits home (Logical AndThen a b at) h from into free l m =
          let first = condition p scope a from free l in
          let second = condition p scope b (first.to + 1) free first.lists in
          answered_emits code arguments layout home (BothHold code layout (Tests a) (Tests b)) from free into l (logical_condition AndThen first second)
          (and_decides code arguments layout (Tests a) (Tests b) from free l first second
          (by_parts a from free l (own_decides a h.0 from free l) (expr_emits None a h.0 from free free l (omega arith)))
          (by_parts b (first.to + 1) free first.lists (own_decides b h.1 (first.to + 1) free first.lists) (expr_emits None b h.1 (first.to + 1) free free first.lists (omega arith)))) m
      expr_emits home (Logical OrElse a b at) h from into free l m =
          let first = condition p scope a from free l in
          let second = condition p scope b (first.to + 1) free first.lists in
          answered_emits code arguments layout home (EitherHolds code layout (Tests a) (Tests b)) from free into l (logical_condition OrElse first second)
          (or_decides code arguments layout (Tests a) (Tests b) from free l first second
          (by_parts a from free l (own_decides a h.0 from free l) (expr_emits None a h.0 from free free l (omega arith)))
          (by_parts b (first.to + 1) free first.lists (own_decides b h.1 (first.to + 1) free first.lists) (expr_emits None b h.1 (first.to + 1) free free first.lists (omega arith)))) m
      expr_emits home (Conditional c a b at) h from into free l m =
          let test = condition p scope c from free l in
          let ta = emitted_type p scope a in
          let tb = emitted_type p scope b in
          let t : Scalar = common ta tb in
          let x = emit p scope a (test.to + 1) into free test.lists in
          let x1 = in_type ta t a x (test.to + 1) into test.lists in
          let first = value_into into x1 in
          let y = emit p scope b (first.location.to + 1) into free first.lists in
          let y1 = in_type tb t b y (first.location.to + 1) into first.lists in
          let second = value_into into y1 in
          let A : Option ℕ → Coded = λ k. ExprCode code layout p k scope a in
          let B : Option ℕ → Coded = λ k. ExprCode code layout p k scope b in
          let left = typed_emits code arguments layout home a (A home) ta t (test.to + 1) free test.lists x1
          (in_type_emits code arguments layout home a (A home) ta t (test.to + 1) free into test.lists x (expr_emits home a h.1 (test.to + 1) into free test.lists m) (emitted_is p scope a (test.to + 1) into free test.lists) (own_is a) m) in
          let right = typed_emits code arguments layout home b (B home) tb t (first.location.to + 1) free first.lists y1
          (in_type_emits code arguments layout home b (B home) tb t (first.location.to + 1) free into first.lists y (expr_emits home b h.3 (first.location.to + 1) into free first.lists m) (emitted_is p scope b (first.location.to + 1) into free first.lists) (own_is b) m) in
          let whole = chosen_emits code arguments layout home (Tests c) (BranchCode code layout home a A) (BranchCode code layout home b B) t from into free l test first second
          (by_parts c from free l (own_decides c h.0 from free l) (expr_emits None c h.0 from free free l (omega arith)))
          (into_emits code arguments layout home a A t (test.to + 1) into free test.lists x1 left (branch_elsewhere t a h.1 (test.to + 1) into free test.lists) m)
          (into_emits code arguments layout home b B t (first.location.to + 1) into free first.lists y1 right (branch_elsewhere t b h.3 (first.location.to + 1) into free first.lists) m) in
          record {
            to_is = whole.to_is;
            grows = whole.grows;
            stands = λ f st. (
              whole.stands f st,
              λ ls like.
                  same_type_of known (running_scope p ls) (like_agrees ls like) (Conditional c a b at) h
                  ∙ type_is (Conditional c a b at) h refl,
            );
          }
      expr_emits home (InTransaction mode keyword e at) h from into free l m =
          in_own_emits code arguments layout (ExprCode code layout p home scope e) from free l (emit p scope e (from + 1) into free l) (expr_emits home e h.0 (from + 1) into free l m)

      own_decides : (e : Expr) → TypedExpr known e → (from free : ℕ) (l : Lists) → IfSome (own_condition p scope e from free l) (Decides code arguments layout (OwnTests code layout p scope e) from free l)
      own_decides (Parenthesized e at) h from free l = own_decides e h from free l
      own_decides (Cast t e at) h from free l = same_decides (converting (emitted_type p scope e) t) (OwnTests code layout p scope e) from free l (own_condition p scope e from free l) (own_decides e h from free l)
      own_decides (Unary Keep e at) h from free l = own_decides e h.0 from free l
      own_decides (Unary Not e at) h from free l =
          opposite_decides code arguments layout (Tests e) (OwnTests code layout p scope (Unary Not e at)) from free l (condition p scope e from free l) (λ true_exit false_exit t. t)
          (by_parts e from free l (own_decides e h.0 from free l) (expr_emits None e h.0 from free free l (omega arith)))
      own_decides (Binary op a b at) h from free l =
          zero_decides code arguments layout op b (Tests a) (OwnTests code layout p scope (Binary op a b at)) from free l (condition p scope a from free l)
          (by_parts a from free l (own_decides a h.0 from free l) (expr_emits None a h.0 from free free l (omega arith)))
          (λ true_exit false_exit t. t)
      own_decides (Logical AndThen a b at) h from free l =
          let first = condition p scope a from free l in
          let second = condition p scope b (first.to + 1) free first.lists in
          and_decides code arguments layout (Tests a) (Tests b) from free l first second
          (by_parts a from free l (own_decides a h.0 from free l) (expr_emits None a h.0 from free free l (omega arith)))
          (by_parts b (first.to + 1) free first.lists (own_decides b h.1 (first.to + 1) free first.lists) (expr_emits None b h.1 (first.to + 1) free free first.lists (omega arith)))
      own_decides (Logical OrElse a b at) h from free l =
          let first = condition p scope a from free l in
          let second = condition p scope b (first.to + 1) free first.lists in
          or_decides code arguments layout (Tests a) (Tests b) from free l first second
          (by_parts a from free l (own_decides a h.0 from free l) (expr_emits None a h.0 from free free l (omega arith)))
          (by_parts b (first.to + 1) free first.lists (own_decides b h.1 (first.to + 1) free first.lists) (expr_emits None b h.1 (first.to + 1) free free first.lists (omega arith)))
      own_decides e h from free l = tt

      pub all_emits : (ts : List Scalar) (es : Exprs) → TypedExprs known es → (from free : ℕ) (l : Lists) → AllEmits (ArgsCode code layout p scope ts es) from free l (emit_all p scope ts es from free l)
      all_emits ts Exprs.[] h from free l = record { to_is = omega arith; grows = grows_same l; stands = λ f st. (refl, refl) }
      all_emits ts (Exprs.◌∷◌ e es) h from free l =
          let s = emitted_type p scope e in
          let x = emit p scope e from free free l in
          let first = in_first_type s ts e x from free l in
          let later : ℕ = above free first.location.register in
          let rest = emit_all p scope (types_left ts) es first.location.to later first.lists in
          let one = in_first_emits code arguments layout ts e (ExprCode code layout p None scope e) s from free l x (expr_emits None e h.0 from free free l (omega arith)) (emitted_is p scope e from free free l) (own_is e) in
          let others = all_emits (types_left ts) es h.1 first.location.to later first.lists in
          record {
            to_is = let a = one.to_is in let b = others.to_is in let u : length (first.code ++ rest.code) ≡ length first.code + length rest.code = length-append first.code rest.code in omega (arith, a, b, u);
            grows = grows_further l first.lists rest.lists one.grows others.grows;
            stands = λ f st. record {
              last = first.location.to;
              later = later;
              r = first.location.register;
              others = rest.registers;
              computes = one.stands (fits_before code arguments layout first.lists rest.lists others.grows f) (front code arguments from first.code rest.code st);
              is_above = above_free free first.location.register;
              apart = above_it free first.location.register;
              goes_on = others.stands f (behind code arguments from first.location.to first.code rest.code one.to_is st);
              are = refl;
            };
          }

    -- an expression's value in the type that is due
    pub due_emits : (home : Option ℕ) (u : Scalar) (e : Expr) → TypedExpr known e → (from into free : ℕ) (l : Lists) → MayTake home free into →
        Emits code arguments layout (λ from to free r x. TypedCode code layout home e (ExprCode code layout p home scope e) u from to free r) from free l (as_type p scope u e from into free l)
    due_emits home u e h from into free l m =
        let s = emitted_type p scope e in
        typed_emits code arguments layout home e (ExprCode code layout p home scope e) s u from free l (as_type p scope u e from into free l)
        (in_type_emits code arguments layout home e (ExprCode code layout p home scope e) s u from free into l (emit p scope e from into free l) (expr_emits home e h from into free l m) (emitted_is p scope e from into free l) (own_is e) m)

    -- the right side of an operator
    pub right_emits : (u : Scalar) (e : Expr) → TypedExpr known e → (from free : ℕ) (l : Lists) →
        Emits code arguments layout (λ from to free r x. OperandCode code layout e (ExprCode code layout p None scope e) u from to free r (emitted_type p scope e)) from free l (operand p scope u e from free l)
    right_emits u e h from free l =
        operand_emits code arguments layout e (ExprCode code layout p None scope e) (emitted_type p scope e) u from free l (emit p scope e from free free l)
        (expr_emits None e h from free free l (omega arith)) (emitted_is p scope e from free free l) (own_is e)

    pub cond_decides : (e : Expr) → TypedExpr known e → (from free : ℕ) (l : Lists) → Decides code arguments layout (CondCode code layout p scope e) from free l (condition p scope e from free l)
    cond_decides e h from free l = by_parts e from free l (own_decides e h from free l) (expr_emits None e h from free free l (omega arith))
