-- The clean tree of a node by the parts that are read of it, and what is picked for it there.
use Rattle.std.proofs.Common.{◌≡◌, ℕ, List, Option, Some, None, true, false, Result, Ok, pos, ◌≤◌, arith, refl, sym, ap, subst, ◌∙◌, append-nil}
use Rattle.std.specs.Prelude.{is_some, unwrap_or}
use Rattle.lex.specs.declared.token.Scalar.{Scalar}
use Rattle.lex.specs.declared.token.Scalar.TheVariants.{Int, Unsigned, LongLong}
use Rattle.lex.specs.declared.token.Span.{Span}
use Rattle.syntax.specs.declared.tree.UnaryOp.{UnaryOp}
use Rattle.syntax.specs.declared.tree.BinaryOp.{BinaryOp}
use Rattle.syntax.specs.declared.tree.LogicalOp.{LogicalOp}
use Rattle.syntax.specs.declared.tree.Mode.{Mode}
use Rattle.syntax.specs.declared.tree.Name as N
use Rattle.syntax.specs.declared.tree.Expr as E
use Rattle.syntax.specs.declared.tree.Expr.TheOpen.{Expr-F}
use Rattle.syntax.specs.declared.tree.Expr.TheFolds.{fold-roll-Expr}
use Rattle.syntax.specs.declared.tree.Expr.TheVariants as EV
use Rattle.syntax.specs.Tree as Tree
use Rattle.syntax.specs.Tree.{Program}
use Rattle.syntax.specs.Numbers.{word_of}
use Rattle.syntax.proofs.words.Words.{word_below}
use Rattle.syntax.specs.Views.{name_of, expr_step, expr_of, exprs_of}
use Rattle.syntax.proofs.trees.Seen.{expr_of_variable, expr_of_call, expr_of_element, expr_of_parenthesized, expr_of_cast, expr_of_unary, expr_of_binary, expr_of_logical, expr_of_conditional, expr_of_in_transaction}
use Rattle.bytecode.specs.declared.instr.Instr.{Instr}
use Rattle.lower_spec.specs.Expressions.{LocalScope, constant_in, converting as lowered_converting}
use Rattle.lower_spec.proofs.Conversions.{IsNone, unconverted}
use Rattle.selection.specs.declared.draft.Draft.{Draft}
use Rattle.selection.specs.declared.locations.ValueRegister.{ValueRegister}
use Rattle.selection.specs.declared.locations.ConditionRegister.{ConditionRegister}
use Rattle.selection.specs.Lists.{Lists}
use Rattle.selection.specs.Conditions.{Condition}
use Rattle.selection.specs.Expressions.{Emitted, constant, converting, converted_by, where_same, emitted_type, emit, as_type, own_condition, condition, condition_of}
use Rattle.selection.specs.inner.Parts.{constant_of}
use Rattle.selection.proofs.Growing.{converted_more}
use Rattle.selection.proofs.stands.Kinds.{emitted_is}
use Rattle.lower_exprs.specs.declared.fault.LowerFailure.{LowerFailure}
use Rattle.lower_exprs.specs.Fragments.{Adds, of_value, of_test}
use Rattle.lower_exprs.specs.inner.Stretches.{in_place}
use Rattle.lower_exprs.proofs.Adding.{behind, same, in_turn}

module _ {A : Type 0} where
  pub variable_is : {e : E.Expr A} {x : N.Name A} → e ≡ E.Variable x → expr_of e ≡ Tree.Variable (name_of x)
  variable_is {x = x} is = ap expr_of is ∙ expr_of_variable x

  pub constant_is : {e : E.Expr A} {n : ℕ} {t : Scalar} {at : Span} → e ≡ E.Constant n t at → expr_of e ≡ Tree.Constant n t at
  constant_is {n = n} {t = t} {at = at} is = ap expr_of (is ∙ sym (EV.rolls-Constant n t at)) ∙ fold-roll-Expr A Tree.Expr expr_step (Expr-F.Constant n t at)

  pub call_is : {e : E.Expr A} {f : N.Name A} {es es' : List (E.Expr A)} {at : Span} → e ≡ E.Call f es at → es' ≡ es → expr_of e ≡ Tree.Call (name_of f) (exprs_of es') at
  call_is {f = f} {es = es} {at = at} is a = ap expr_of is ∙ expr_of_call f es at ∙ (λ j. Tree.Call (name_of f) (exprs_of (sym a j)) at)

  pub element_is : {e : E.Expr A} {x : N.Name A} {i i' : E.Expr A} {at : Span} → e ≡ E.Element x i at → i' ≡ i → expr_of e ≡ Tree.Element (name_of x) (expr_of i') at
  element_is {x = x} {i = i} {at = at} is a = ap expr_of is ∙ expr_of_element x i at ∙ (λ j. Tree.Element (name_of x) (expr_of (sym a j)) at)

  pub parenthesized_is : {e a a' : E.Expr A} {at : Span} → e ≡ E.Parenthesized a at → a' ≡ a → expr_of e ≡ Tree.Parenthesized (expr_of a') at
  parenthesized_is {a = a} {at = at} is k = ap expr_of is ∙ expr_of_parenthesized a at ∙ (λ j. Tree.Parenthesized (expr_of (sym k j)) at)

  pub cast_is : {e a a' : E.Expr A} {t : Scalar} {at : Span} → e ≡ E.Cast t a at → a' ≡ a → expr_of e ≡ Tree.Cast t (expr_of a') at
  cast_is {a = a} {t = t} {at = at} is k = ap expr_of is ∙ expr_of_cast t a at ∙ (λ j. Tree.Cast t (expr_of (sym k j)) at)

  pub unary_is : {e a a' : E.Expr A} {op op' : UnaryOp} {at : Span} → e ≡ E.Unary op a at → op ≡ op' → a' ≡ a → expr_of e ≡ Tree.Unary op' (expr_of a') at
  unary_is {a = a} {op = op} {at = at} is o k = ap expr_of is ∙ expr_of_unary op a at ∙ (λ j. Tree.Unary (o j) (expr_of (sym k j)) at)

  pub binary_is : {e a b a' b' : E.Expr A} {op : BinaryOp} {at : Span} → e ≡ E.Binary op a b at → a' ≡ a → b' ≡ b → expr_of e ≡ Tree.Binary op (expr_of a') (expr_of b') at
  binary_is {a = a} {b = b} {op = op} {at = at} is k m = ap expr_of is ∙ expr_of_binary op a b at ∙ (λ j. Tree.Binary op (expr_of (sym k j)) (expr_of (sym m j)) at)

  pub logical_is : {e a b a' b' : E.Expr A} {op : LogicalOp} {at : Span} → e ≡ E.Logical op a b at → a' ≡ a → b' ≡ b → expr_of e ≡ Tree.Logical op (expr_of a') (expr_of b') at
  logical_is {a = a} {b = b} {op = op} {at = at} is k m = ap expr_of is ∙ expr_of_logical op a b at ∙ (λ j. Tree.Logical op (expr_of (sym k j)) (expr_of (sym m j)) at)

  pub conditional_is : {e c a b c' a' b' : E.Expr A} {at : Span} → e ≡ E.Conditional c a b at → c' ≡ c → a' ≡ a → b' ≡ b → expr_of e ≡ Tree.Conditional (expr_of c') (expr_of a') (expr_of b') at
  conditional_is {c = c} {a = a} {b = b} {at = at} is h k m =
      ap expr_of is ∙ expr_of_conditional c a b at ∙ (λ j. Tree.Conditional (expr_of (sym h j)) (expr_of (sym k j)) (expr_of (sym m j)) at)

  pub in_transaction_is : {e a a' : E.Expr A} {mode : Mode} {keyword at : Span} → e ≡ E.InTransaction mode keyword a at → a' ≡ a → expr_of e ≡ Tree.InTransaction mode keyword (expr_of a') at
  in_transaction_is {a = a} {mode = mode} {keyword = keyword} {at = at} is k =
      ap expr_of is ∙ expr_of_in_transaction mode keyword a at ∙ (λ j. Tree.InTransaction mode keyword (expr_of (sym k j)) at)

module _ (p : Program) (scope : LocalScope) {e x : Tree.Expr} (from : ℕ) where
  -- the value of a node
  pub value_there : (into free : ℕ) (l : Lists) {old new : List Instr} {m : Lists} {r : Result ValueRegister LowerFailure} → e ≡ x → Adds (of_value (emit p scope x from into free l)) old new m r → Adds (of_value (emit p scope e from into free l)) old new m r
  value_there into free l {old = old} {new = new} {m = m} {r = r} is k = subst (λ (y : Tree.Expr). Adds (of_value (emit p scope y from into free l)) old new m r) (sym is) k

  -- and its condition: that of its operator, or the test of its value, where its operator has none
  pub test_there : (free : ℕ) (l : Lists) {old new : List Draft} {m : Lists} {r : Result ConditionRegister LowerFailure} → e ≡ x → Adds (of_test (condition p scope x from free l)) old new m r → Adds (of_test (condition p scope e from free l)) old new m r
  test_there free l {old = old} {new = new} {m = m} {r = r} is k = subst (λ (y : Tree.Expr). Adds (of_test (condition p scope y from free l)) old new m r) (sym is) k

  pub value_test_there : (free : ℕ) (l : Lists) {old new : List Draft} {m : Lists} {r : Result ConditionRegister LowerFailure} → e ≡ x → own_condition p scope x from free l ≡ None → Adds (of_test (condition_of None (emit p scope e from free free l))) old new m r → Adds (of_test (condition p scope e from free l)) old new m r
  value_test_there free l {old = old} {new = new} {m = m} {r = r} is none k =
      subst (λ o. Adds (of_test (condition_of o (emit p scope e from free free l))) old new m r) (sym (ap (λ y. own_condition p scope y from free l) is ∙ none)) k

-- what is due, of a constant and of another expression
pub due_constant : (p : Program) (scope : LocalScope) (u : Scalar) (e : Tree.Expr) (n : ℕ) (t : Scalar) (from into free : ℕ) (l : Lists) → constant_of e ≡ Some (n, t) → as_type p scope u e from into free l ≡ constant (constant_in u t n) u from into l
due_constant p scope u (Tree.Constant m s at) n t from into free l e =
    let same : (m, s) ≡ (n, t) = ap (λ o. unwrap_or o (m, s)) e in
    ap (λ (k : ℕ × Scalar). constant (constant_in u k.1 k.0) u from into l) same
due_constant p scope u e n t from into free l k = absurd (cc)

pub due_other : (p : Program) (scope : LocalScope) (u : Scalar) (e : Tree.Expr) (from into free : ℕ) (l : Lists) → constant_of e ≡ None → as_type p scope u e from into free l ≡ converted_by (converting (emitted_type p scope e) u) u (emit p scope e from into free l) into
due_other p scope u (Tree.Constant m s at) from into free l k = absurd (cc)
due_other p scope u e from into free l k = refl

-- a value that is converted behind its instructions is converted with them
pub converted_behind : (o : Option (ℕ → ℕ → Instr)) (u : Scalar) (e : Emitted) (into : ℕ) → behind (of_value e) (of_value (converted_by o u (in_place e.location e.lists) into)) ≡ of_value (converted_by o u e into)
converted_behind None u e into = λ j. record { code = append-nil e.code j; lists = e.lists; end = record { register = e.location.register; ty = u; to = e.location.to } }
converted_behind (Some i) u e into = refl

-- of a value that stands there already its type is the expression's
pub due_there : (p : Program) (scope : LocalScope) (u : Scalar) (e : Tree.Expr) (from into free : ℕ) (l : Lists) → constant_of e ≡ None → {old mid new : List Instr} {l1 l2 : Lists} {h : ValueRegister} {r : Result ValueRegister LowerFailure} → Adds (of_value (emit p scope e from into free l)) old mid l1 (Ok h) → Adds (of_value (converted_by (converting h.ty u) u (in_place h l1) into)) mid new l2 r → Adds (of_value (as_type p scope u e from into free l)) old new l2 r
due_there p scope u e from into free l none {new = new} {l2 = l2} {r = r} k m =
    let own = emitted_is p scope e from into free l in
    let whole = in_turn k (λ j. of_value (converted_by (converting ((ap (λ (x : ValueRegister). x.ty) k.end ∙ own) j) u) u (in_place (k.end j) (k.lists j)) into)) m in
    same (converted_behind (converting (emitted_type p scope e) u) u (emit p scope e from into free l) into ∙ ap of_value (sym (due_other p scope u e from into free l none))) whole

no_instruction : (s u : Scalar) → is_some (converting s u) ≡ false → IsNone (lowered_converting s u)
no_instruction Int LongLong none = absurd (cc)
no_instruction LongLong Int none = absurd (cc)
no_instruction LongLong Unsigned none = absurd (cc)
no_instruction Int Int none = tt
no_instruction Int Unsigned none = tt
no_instruction Unsigned Int none = tt
no_instruction Unsigned Unsigned none = tt
no_instruction Unsigned LongLong none = tt
no_instruction LongLong LongLong none = tt

where_none : (i : Option (ℕ → ℕ → Instr)) → where_same i None ≡ None
where_none None = refl
where_none (Some i) = refl

pub due_within : (p : Program) (scope : LocalScope) (u : Scalar) (e : Tree.Expr) (from into free : ℕ) (l : Lists) → constant_of e ≡ None → (emit p scope e from into free l).lists.registers ≤ (as_type p scope u e from into free l).lists.registers
due_within p scope u e from into free l none =
    let x = converted_more (converting (emitted_type p scope e) u) u (emit p scope e from into free l) into in
    let y = ap (λ (w : Emitted). w.lists.registers) (due_other p scope u e from into free l none) in
    omega (arith, x, y)

-- a cast that is no instruction is tested as its operand is
cast_tested : (p : Program) (scope : LocalScope) (u : Scalar) (a : Tree.Expr) (at : Span) (from free : ℕ) (l : Lists) → is_some (converting (emitted_type p scope a) u) ≡ false → condition p scope a from free l ≡ condition p scope (Tree.Cast u a at) from free l
cast_tested p scope u (Tree.Constant n t at') at from free l none =
    ap (λ w. condition_of None (constant w t from free l)) (sym (unconverted t u (word_of t (pos n)) (word_below t (pos n)) (no_instruction t u none)))
    ∙ ap (λ o. condition_of o (constant (constant_in u t n) u from free l)) (sym (where_none (converting t u)))
cast_tested p scope u a at from free l none = by (converting (emitted_type p scope a) u) none (own_condition p scope a from free l)
  where
    by : (i : Option (ℕ → ℕ → Instr)) → is_some i ≡ false → (o : Option Condition) → condition_of o (emit p scope a from free free l) ≡ condition_of (where_same i o) (converted_by i u (emit p scope a from free free l) free)
    by None none (Some c) = refl
    by None none None = refl
    by (Some i) none o = absurd (cc)

pub cast_test_there : (p : Program) (scope : LocalScope) {e a : Tree.Expr} {t : Scalar} {at : Span} (from free : ℕ) (l : Lists) {old new : List Draft} {m : Lists} {r : Result ConditionRegister LowerFailure} → e ≡ Tree.Cast t a at → is_some (converting (emitted_type p scope a) t) ≡ false → Adds (of_test (condition p scope a from free l)) old new m r → Adds (of_test (condition p scope e from free l)) old new m r
cast_test_there p scope {a = a} {t = t} {at = at} from free l is none k = test_there p scope from free l is (same (ap of_test (cast_tested p scope t a at from free l none)) k)

-- and one that is an instruction by its value
pub cast_by_value : (p : Program) (scope : LocalScope) (a : Tree.Expr) (t : Scalar) (at : Span) (from free : ℕ) (l : Lists) → is_some (converting (emitted_type p scope a) t) ≡ true → own_condition p scope (Tree.Cast t a at) from free l ≡ None
cast_by_value p scope a t at from free l some = by (converting (emitted_type p scope a) t) some (own_condition p scope a from free l)
  where
    by : (i : Option (ℕ → ℕ → Instr)) → is_some i ≡ true → (o : Option Condition) → where_same i o ≡ None
    by None some o = absurd (cc)
    by (Some i) some o = refl
