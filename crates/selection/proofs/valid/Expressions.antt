-- What is picked for expressions and conditions of a typed program is in order.
use Rattle.std.proofs.Common.{◌≡◌, refl, sym, ap, subst, ◌∙◌, ℕ, pos, ◌+◌, ◌≤◌, List, length, map, arith, Option, Some, None, IsTrue, eqb-true}
use Rattle.std.specs.Prelude.{option_map, unwrap_or}
use Rattle.std.specs.Option.{IfSome}
use Rattle.std.proofs.lemmas.List.{length-map}
use Rattle.lex.specs.declared.token.Scalar.{Scalar}
use Rattle.lex.specs.declared.token.Scalar.TheVariants.{Int}
use Rattle.syntax.specs.declared.tree.UnaryOp.TheVariants.{Negate, Keep, Not, Complement}
use Rattle.syntax.specs.Tree.{Name, Expr, Exprs, Variable, Constant, Element, Call, Parenthesized, Cast, Unary, Binary, Logical, Conditional, InTransaction, Program}
use Rattle.syntax.specs.Numbers.{common, operand_type}
use Rattle.syntax.specs.Names.{GlobalCells, cells, newest, global_of, globals, initial_from}
use Rattle.syntax.specs.Types.{Known, Number, Callable, Scope, file_scope, running_scope}
use Rattle.syntax.specs.Typing.{may_be_function, takes_so_many, count, IsTypedProgram}
use Rattle.syntax.specs.ScopeLaws.{IsSubscope}
use Rattle.syntax.proofs.typing.TypedParts.{Knows, TypedExpr, TypedExprs}
use Rattle.bytecode.specs.declared.instr.Instr.{Instr}
use Rattle.bytecode.specs.declared.instr.Instr.TheVariants as own
use Rattle.bytecode.specs.Code.{Code, FunctionCode}
use Rattle.bytecode.specs.Valid.{cells_of, Takes}
use Rattle.lower_spec.specs.Expressions.{LocalScope, types_left}
use Rattle.selection.specs.Lists.{Lists}
use Rattle.selection.specs.Names.{Callee, callee_at, callee_of}
use Rattle.selection.specs.Expressions.{Emitted, AllEmitted, above, converting, where_same, in_type, in_first_type, variable, element, call_code, value_into, taken_types, emitted_type, emit, as_type, operand, own_condition, condition, emit_all}
use Rattle.selection.specs.Conditions.{Condition, logical_condition, zero_test}
use Rattle.selection.proofs.stands.Standing.{grows_same}
use Rattle.selection.proofs.stands.Named.{known_number, known_callable, function_found}
use Rattle.selection.proofs.stands.Exprs.{DefinedAreCallees}
use Rattle.selection.proofs.stands.Statements.{registers_are}
use Rattle.selection.proofs.valid.Sounds.{into_into, Sound, TestSound, AllSound, one_sound, in_local_sound, then_sound, constant_sound, in_type_sound, in_first_sound, in_own_sound, negated_sound, complemented_sound, compared_sound, operand_sound, both_sound, opposite_sound, joined_sound, tested_sound, zero_sound, answered_sound, into_sound, chosen_sound, followed_sound, called_sound}
use Rattle.selection.proofs.valid.Shared.{cells_lie, variable_has_one}

-- a callee's number is that of a function of so many parameters
abbrev pub CalleesTake : Program → Code → Type 0
CalleesTake p code = (x : List ℕ) (c : Callee) → callee_of p x ≡ Some c → Takes code c.number (length c.parameters)

abbrev number_taken : Known → ℕ
number_taken (Callable result takes) = length takes
number_taken k = 0

module _ (p : Program) (code : Code) (arguments : List ℕ) (f : FunctionCode) (end : ℕ) (typed : IsTypedProgram p) (takes : CalleesTake p code) (defined : DefinedAreCallees p) (shares : code.globals ≡ globals p) where
  pub cells_are : (x : List ℕ) (c : GlobalCells) → global_of p x ≡ Some c → c.cell + cells c.global ≤ cells_of code
  cells_are x c e = subst (λ gs. c.cell + cells c.global ≤ length (initial_from gs)) (sym shares) (let h = cells_lie 0 (globals p) x c e in omega (arith, h))

  module _ (known : Scope) (scope : LocalScope) (agrees : IsSubscope known (running_scope p scope)) where
    -- a global that a variable stands for has its one cell
    pub cell_is : (x : Name) (t : Scalar) → Knows known x → known x.text ≡ Number t → newest scope x.text ≡ None → (c : GlobalCells) → global_of p x.text ≡ Some c → c.cell + 1 ≤ cells_of code
    cell_is x t h k n c e =
        let over : running_scope p scope x.text ≡ file_scope p x.text = ap (λ (o : Option (ℕ × Scalar)). unwrap_or (option_map (λ l. Number l.1) o) (file_scope p x.text)) n in
        let one = variable_has_one p 0 x.text t c (sym over ∙ agrees x.text h ∙ k) e in
        let lies = cells_are x.text c e in
        omega (arith, one, lies)

    variable_sound : (o : Option (ℕ × Scalar)) (g : Option GlobalCells) → (o ≡ None → (c : GlobalCells) → g ≡ Some c → c.cell + 1 ≤ cells_of code) → (from into : ℕ) (l : Lists) → Sound code arguments f end from l (variable o g from into l)
    variable_sound (Some x) g h from into l = in_local_sound code arguments f end x.0 x.1 from l
    variable_sound None (Some c) h from into l = one_sound code arguments f end (own.Read into c.cell) from into c.global.ty l (λ q bs. (refl, tt)) (λ r s. (r, h refl c refl))
    variable_sound None None h from into l = one_sound code arguments f end (own.Constant into 0) from into Int l (λ q bs. (refl, tt)) (λ r s. (r, omega arith))

    element_sound : (g : Option GlobalCells) → ((c : GlobalCells) → g ≡ Some c → c.cell + cells c.global ≤ cells_of code) → (from into : ℕ) (l : Lists) (e : Emitted) → Sound code arguments f end from l e → Sound code arguments f end from l (element g e from into l)
    element_sound None h from into l e s = one_sound code arguments f end (own.Constant into 0) from into Int l (λ q bs. (refl, tt)) (λ r s. (r, omega arith))
    element_sound (Some c) h from into l e s =
        then_sound code arguments f end (own.ReadAt into e.location.register c.cell (cells c.global)) into c.global.ty from l e s (λ q bs. (refl, tt)) (λ r i. (r, i, h c refl))

    call_counts : (x : Name) (n : ℕ) → Knows known x → IsTrue (may_be_function (known x.text)) → IsTrue (takes_so_many (known x.text) n) → (c : Callee) → callee_of p x.text ≡ Some c → n ≡ length c.parameters
    call_counts x n h m many c e =
        let k = known_callable (known x.text) h m in
        let d = function_found p scope typed x.text k.0 k.1 (agrees x.text h ∙ k.2) in
        let at = defined x.text d.0.0 d.0.1 d.1 in
        let number : n ≡ length k.1 = eqb-true n (length k.1) (subst (λ y. IsTrue (takes_so_many y n)) k.2 many) in
        let as_many : length (map (λ q. q.ty) d.0.0.parameters) ≡ length k.1 = ap number_taken d.2 in
        let mapped : length (map (λ q. q.ty) d.0.0.parameters) ≡ length d.0.0.parameters = length-map d.0.0.parameters (λ q. q.ty) in
        let same : callee_at at.0 d.0.0 ≡ c = ap (λ o. unwrap_or o (callee_at at.0 d.0.0)) (sym at.1 ∙ e) in
        number ∙ sym as_many ∙ mapped ∙ ap (λ (y : Callee). length y.parameters) same

    call_sound : (o : Option Callee) → (x : List ℕ) → callee_of p x ≡ o → (from into : ℕ) (l : Lists) (args : AllEmitted) → AllSound code arguments f end from l args → ((c : Callee) → o ≡ Some c → length args.registers ≡ length c.parameters) → Sound code arguments f end from l (call_code o args from into l)
    call_sound None x e from into l args h many = one_sound code arguments f end (own.Constant into 0) from into Int l (λ q bs. (refl, tt)) (λ r s. (r, omega arith))
    call_sound (Some c) x e from into l args h many = called_sound code arguments f end c into from l args h (many c refl) (takes x c e)

    by_parts : (e : Expr) (from free : ℕ) (l : Lists) → IfSome (own_condition p scope e from free l) (TestSound code arguments f end from l) → Sound code arguments f end from l (emit p scope e from free free l) →
        TestSound code arguments f end from l (condition p scope e from free l)
    by_parts e from free l h g = tested_sound code arguments f end from l (own_condition p scope e from free l) (emit p scope e from free free l) h g

    same_sound : (i : Option (ℕ → ℕ → Instr)) (from : ℕ) (l : Lists) (o : Option Condition) → IfSome o (TestSound code arguments f end from l) → IfSome (where_same i o) (TestSound code arguments f end from l)
    same_sound None from l o h = h
    same_sound (Some i) from l o h = tt

    mutual
      pub expr_sound : (e : Expr) → TypedExpr known e → (from into free : ℕ) (l : Lists) → Sound code arguments f end from l (emit p scope e from into free l)
      expr_sound (Variable x) h from into free l =
          let k = known_number (known x.text) h.0 h.1 in
          variable_sound (newest scope x.text) (global_of p x.text) (cell_is x k.0 h.0 k.1) from into l
      expr_sound (Constant n t at) h from into free l = constant_sound code arguments f end (pos n) t from into l
      expr_sound (Element x i at) h from into free l = element_sound (global_of p x.text) (cells_are x.text) from into l (emit p scope i from free free l) (expr_sound i h.1 from free free l)
      expr_sound (Call g es at) h from into free l =
          let counts = call_counts g (count es) h.0 h.2 h.3 in
          let ts = taken_types (callee_of p g.text) in
          call_sound (callee_of p g.text) g.text refl from into l (emit_all p scope ts es from free l) (all_sound ts es h.1 from free l) (λ c e. registers_are p scope ts es from free l ∙ counts c e)
      expr_sound (Parenthesized e at) h from into free l = expr_sound e h from into free l
      expr_sound (Cast t e at) h from into free l = in_type_sound code arguments f end (emitted_type p scope e) t e (emit p scope e from into free l) from into l (expr_sound e h from into free l)
      expr_sound (Unary Negate e at) h from into free l = negated_sound code arguments f end into from l (emit p scope e from free free l) (expr_sound e h.0 from free free l)
      expr_sound (Unary Keep e at) h from into free l = expr_sound e h.0 from into free l
      expr_sound (Unary Not e at) h from into free l = compared_sound code arguments f end into free from l (emit p scope e from free free l) (expr_sound e h.0 from free free l)
      expr_sound (Unary Complement e at) h from into free l = complemented_sound code arguments f end into from l (emit p scope e from free free l) (expr_sound e h.0 from free free l)
      expr_sound (Binary op a b at) h from into free l =
          let ta = emitted_type p scope a in
          let tb = emitted_type p scope b in
          let t = operand_type op ta tb in
          let u = operand_type op tb ta in
          let x = emit p scope a from free free l in
          let left = in_type ta t a x from free l in
          let later : ℕ = above free left.location.register in
          let y = emit p scope b left.location.to later later left.lists in
          both_sound code arguments f end op t into from l left (operand p scope u b left.location.to later left.lists)
          (in_type_sound code arguments f end ta t a x from free l (expr_sound a h.0 from free free l))
          (operand_sound code arguments f end b tb u left.location.to later left.lists y (expr_sound b h.2 left.location.to later later left.lists))
      expr_sound (Logical op a b at) h from into free l =
          let first = condition p scope a from free l in
          let second = condition p scope b (first.to + 1) free first.lists in
          answered_sound code arguments f end into from l (logical_condition op first second)
          (joined_sound code arguments f end op from l first second
          (by_parts a from free l (own_sound a h.0 from free l) (expr_sound a h.0 from free free l))
          (by_parts b (first.to + 1) free first.lists (own_sound b h.1 (first.to + 1) free first.lists) (expr_sound b h.1 (first.to + 1) free free first.lists)))
      expr_sound (Conditional c a b at) h from into free l =
          let test = condition p scope c from free l in
          let ta = emitted_type p scope a in
          let tb = emitted_type p scope b in
          let t = common ta tb in
          let x = emit p scope a (test.to + 1) into free test.lists in
          let x1 = in_type ta t a x (test.to + 1) into test.lists in
          let first = value_into into x1 in
          let y = emit p scope b (first.location.to + 1) into free first.lists in
          let y1 = in_type tb t b y (first.location.to + 1) into first.lists in
          chosen_sound code arguments f end t into from l test first (value_into into y1)
          (by_parts c from free l (own_sound c h.0 from free l) (expr_sound c h.0 from free free l))
          (into_sound code arguments f end into (test.to + 1) test.lists x1 (in_type_sound code arguments f end ta t a x (test.to + 1) into test.lists (expr_sound a h.1 (test.to + 1) into free test.lists)))
          (into_sound code arguments f end into (first.location.to + 1) first.lists y1 (in_type_sound code arguments f end tb t b y (first.location.to + 1) into first.lists (expr_sound b h.3 (first.location.to + 1) into free first.lists))) (into_into into y1)
      expr_sound (InTransaction mode keyword e at) h from into free l =
          in_own_sound code arguments f end from l (emit p scope e (from + 1) into free l) (expr_sound e h.0 (from + 1) into free l)

      own_sound : (e : Expr) → TypedExpr known e → (from free : ℕ) (l : Lists) → IfSome (own_condition p scope e from free l) (TestSound code arguments f end from l)
      own_sound (Parenthesized e at) h from free l = own_sound e h from free l
      own_sound (Cast t e at) h from free l = same_sound (converting (emitted_type p scope e) t) from l (own_condition p scope e from free l) (own_sound e h from free l)
      own_sound (Unary Keep e at) h from free l = own_sound e h.0 from free l
      own_sound (Unary Not e at) h from free l =
          opposite_sound code arguments f end from l (condition p scope e from free l) (by_parts e from free l (own_sound e h.0 from free l) (expr_sound e h.0 from free free l))
      own_sound (Binary op a b at) h from free l =
          zero_sound code arguments f end (zero_test op b) from l (condition p scope a from free l) (by_parts a from free l (own_sound a h.0 from free l) (expr_sound a h.0 from free free l))
      own_sound (Logical op a b at) h from free l =
          let first = condition p scope a from free l in
          joined_sound code arguments f end op from l first (condition p scope b (first.to + 1) free first.lists)
          (by_parts a from free l (own_sound a h.0 from free l) (expr_sound a h.0 from free free l))
          (by_parts b (first.to + 1) free first.lists (own_sound b h.1 (first.to + 1) free first.lists) (expr_sound b h.1 (first.to + 1) free free first.lists))
      own_sound e h from free l = tt

      pub all_sound : (ts : List Scalar) (es : Exprs) → TypedExprs known es → (from free : ℕ) (l : Lists) → AllSound code arguments f end from l (emit_all p scope ts es from free l)
      all_sound ts Exprs.[] h from free l = record { to_is = omega arith; grows = grows_same l; location = tt; balanced = λ q bs. refl; goods = λ o bs k run. tt }
      all_sound ts (Exprs.◌∷◌ e es) h from free l =
          let x = emit p scope e from free free l in
          let first = in_first_type (emitted_type p scope e) ts e x from free l in
          let later : ℕ = above free first.location.register in
          followed_sound code arguments f end from l first (emit_all p scope (types_left ts) es first.location.to later first.lists)
          (in_first_sound code arguments f end (emitted_type p scope e) ts e x from free l (expr_sound e h.0 from free free l)) (all_sound (types_left ts) es h.1 first.location.to later first.lists)

    -- an expression's value in the type that is due
    pub due_sound : (u : Scalar) (e : Expr) → TypedExpr known e → (from into free : ℕ) (l : Lists) → Sound code arguments f end from l (as_type p scope u e from into free l)
    due_sound u e h from into free l = in_type_sound code arguments f end (emitted_type p scope e) u e (emit p scope e from into free l) from into l (expr_sound e h from into free l)

    pub test_sound : (e : Expr) → TypedExpr known e → (from free : ℕ) (l : Lists) → TestSound code arguments f end from l (condition p scope e from free l)
    test_sound e h from free l = by_parts e from free l (own_sound e h from free l) (expr_sound e h from free free l)
