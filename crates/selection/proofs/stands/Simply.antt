-- What is picked for assignments and declarations of a typed program stands for them.
use Rattle.std.proofs.Common.{◌≡◌, refl, sym, subst, ◌∙◌, ℕ, suc, ◌+◌, List, [], ◌∷◌, ◌++◌, length, map, arith, Option, Some, None, Bool, true, false, ◌⊎◌, inl, inr, IsTrue}
use Rattle.std.specs.Option.{IfSome}
use Rattle.std.proofs.lemmas.List.{length-append, map-append}
use Rattle.lex.specs.declared.token.Span.{Span}
use Rattle.lex.specs.declared.token.Scalar.{Scalar}
use Rattle.syntax.specs.declared.tree.BinaryOp.{BinaryOp}
use Rattle.syntax.specs.Tree.{Name, Expr, Variable, Element, Simple, Evaluate, Assign, Adjust, Declarator, Start, Nothing, Declares, Does, Program}
use Rattle.syntax.specs.Numbers.{operand_type, result_type}
use Rattle.syntax.specs.Meaning.{op_of}
use Rattle.syntax.specs.Names.{GlobalCells, cells, newest, global_of}
use Rattle.syntax.specs.Types.{Scope, with_number, running_scope}
use Rattle.syntax.specs.Typing.{IsTypedProgram, knows, may_be_assigned, scope_of_start}
use Rattle.syntax.specs.Laws.{shape}
use Rattle.syntax.specs.ScopeLaws.{IsSubscope}
use Rattle.syntax.proofs.typing.TypedParts.{TypedExpr, TypedTarget, TypedSimple, TypedDeclarators, TypedStart}
use Rattle.syntax.proofs.typing.Fits.{scope_in, agrees_by_shape, shape_agrees, one_more_fits}
use Rattle.syntax.proofs.typing.ValueTypes.{Found}
use Rattle.bytecode.specs.declared.instr.Instr.{Instr}
use Rattle.bytecode.specs.declared.instr.Instr.TheVariants as own
use Rattle.bytecode.specs.Code.{Code}
use Rattle.lower_spec.specs.Expressions.{LocalScope, Coded, Due, Layout, ConvertedCode, BinaryCode, ExprCode}
use Rattle.lower_spec.specs.Statements.{Target, LocalAt, CellAt, ElementOf, home_of, with_local, with_declared, locals_of_start, VariableTarget, CheckedAt, UncheckedAt, TargetCode, ReadTarget, FetchCode, ExprStored, AssignCode, ChangeCode, Operating, OneCode, SimpleCode, FirstValueCode, DeclareCode, StartCode}
use Rattle.selection.specs.declared.locations.AssignmentTarget.{AssignmentTarget as OwnTarget}
use Rattle.selection.specs.Lists.{Lists, with_register}
use Rattle.selection.specs.Expressions.{Emitted, above, converting, converted_by, both, emitted_type, emit}
use Rattle.selection.specs.Simples.{Written, Aimed, variable_target, element_target, above_target, target_value, home_or, type_at, expr_fitting, then_stored, behind as aimed_then, target_code, value_or_one, type_or_int, compound_value, assignment_code, compound_code, simple_written, first_written, declared_written, start_written}
use Rattle.selection.proofs.stands.Standing.{Stand, front, behind, Grows, grows_same, grows_further, grows_used, Fits, fits_before, is_register}
use Rattle.selection.proofs.stands.Named.{VariableFound, variable_found, array_found, known_number, known_array}
use Rattle.selection.proofs.stands.Kinds.{emitted_is}
use Rattle.selection.proofs.stands.Emitting.{Emits, converted_emits, word_emits, both_emits}
use Rattle.selection.proofs.stands.Exprs.{CalleesStand, DefinedAreCallees, expr_emits, right_emits}
use Rattle.selection.proofs.stands.Writing.{own_of, spares, target_above, may_take_home, Writes, nothing_writes, fetched_emits, ValueStored, then_stored_writes, Fitted, fitting_emits, expr_stored}

abbrev with_target : Aimed → OwnTarget → Aimed
with_target a t = record { code = a.code; lists = a.lists; target = t; to = a.to }

module _ (p : Program) where
  -- one more local is known in both
  pub one_more_agrees : (known : Scope) (scope : LocalScope) (x : List ℕ) (t : Scalar) → IsSubscope known (running_scope p scope) → IsSubscope (with_number x t known) (running_scope p (with_local scope x t))
  one_more_agrees known scope x t h =
      agrees_by_shape p (with_number x t known) (with_local scope x t)
      (subst (λ m. IsSubscope (with_number x t known) (scope_in p m)) (sym (map-append shape scope (record { name = x; ty = t; word = 0 } ∷ [])))
      (one_more_fits p known (map shape scope) x t (shape_agrees p known scope h)))

  pub declared_agrees : (t : Scalar) (ds : List Declarator) (known : Scope) (scope : LocalScope) → IsSubscope known (running_scope p scope) → IsSubscope (knows t ds known) (running_scope p (with_declared t ds scope))
  declared_agrees t [] known scope h = h
  declared_agrees t (d ∷ ds) known scope h = declared_agrees t ds (with_number d.name.text t known) (with_local scope d.name.text t) (one_more_agrees known scope d.name.text t h)

  pub start_agrees : (s : Start) (known : Scope) (scope : LocalScope) → IsSubscope known (running_scope p scope) → IsSubscope (scope_of_start s known) (running_scope p (locals_of_start s scope))
  start_agrees Nothing known scope h = h
  start_agrees (Declares d) known scope h = declared_agrees d.ty d.declarators known scope h
  start_agrees (Does s) known scope h = h

module _ (p : Program) (code : Code) (arguments : List ℕ) (layout : Layout) (typed : IsTypedProgram p) (stand : CalleesStand p code) (defined : DefinedAreCallees p) where
  module _ (known : Scope) (scope : LocalScope) (agrees : IsSubscope known (running_scope p scope)) where
    -- where an assignment goes, with its index tested or to be read at once
    abbrev Goes : Bool → Expr → (from to : ℕ) → Target → Type 0
    Goes true lhs from to t = TargetCode code layout p scope lhs from to (length scope) t
    Goes false lhs from to t = TargetCode code layout p scope lhs from to (length scope) t ⊎ ReadTarget code layout p scope lhs from to (length scope) t

    record Aims (check : Bool) (lhs : Expr) (from : ℕ) (l : Lists) (a : Aimed) : Type 0 where
      goal : Target
      same : a.target ≡ own_of goal
      to_is : a.to ≡ from + length a.code
      grows : Grows l a.lists
      stands : Fits code arguments layout a.lists → Stand code arguments from a.code → Goes check lhs from a.to goal

    checked_or_not : (check : Bool) (lhs : Expr) (from to : ℕ) (t : Target) → TargetCode code layout p scope lhs from to (length scope) t → Goes check lhs from to t
    checked_or_not true lhs from to t h = h
    checked_or_not false lhs from to t h = inl h

    variable_aims : (check : Bool) (x : Name) (o : Option (ℕ × Scalar)) (g : Option GlobalCells) (t : Scalar) → newest scope x.text ≡ o → global_of p x.text ≡ g → VariableFound (length scope) o g t → (from : ℕ) (l : Lists) → Aims check (Variable x) from l (variable_target o g from l)
    variable_aims check x (Some y) g t e f h from l = record {
      goal = LocalAt y;
      same = refl;
      to_is = omega arith;
      grows = grows_used l l y.0 (grows_same l);
      stands = λ k st. checked_or_not check (Variable x) from from (LocalAt y) (refl, subst (λ o. VariableTarget code layout p scope o (global_of p x.text) (LocalAt y)) (sym e) (h.0, refl));
    }
    variable_aims check x None (Some g) t e f h from l = record {
      goal = CellAt g;
      same = refl;
      to_is = omega arith;
      grows = grows_same l;
      stands = λ k st. checked_or_not check (Variable x) from from (CellAt g) (refl, subst (λ o. VariableTarget code layout p scope o (global_of p x.text) (CellAt g)) (sym e) (subst (λ q. VariableTarget code layout p scope None q (CellAt g)) (sym f) refl));
    }
    variable_aims check x None None t e f h from l = absurd h

    element_aims : (check : Bool) (x : Name) (i : Expr) (at : Span) (g : Option GlobalCells) (t : Scalar) → global_of p x.text ≡ g → Found g t → (from : ℕ) (l : Lists) (e : Emitted) →
        Emits code arguments layout (ExprCode code layout p None scope i) from (length scope) l e → Aims check (Element x i at) from l (element_target check g e from l)
    element_aims check x i at None t f found from l e h = absurd (cc found.1)
    element_aims true x i at (Some g) t f found from l e h =
        let test : Instr = own.Check e.location.register (cells g.global) in
        record {
          goal = ElementOf g e.location.register;
          same = refl;
          to_is = let a = h.to_is in let b : length (e.code ++ test ∷ []) ≡ length e.code + 1 = length-append e.code (test ∷ []) in omega (arith, a, b);
          grows = h.grows;
          stands = λ k st. subst (λ q. CheckedAt code layout p q (ExprCode code layout p None scope i) from (e.location.to + 1) (length scope) (ElementOf g e.location.register)) (sym f) (record {
            mid = e.location.to;
            ri = e.location.register;
            ti = e.location.ty;
            computes = h.stands k (front code arguments from e.code (test ∷ []) st);
            checks = (behind code arguments from e.location.to e.code (test ∷ []) h.to_is st).0;
            to_is = omega arith;
            target_is = refl;
          });
        }
    element_aims false x i at (Some g) t f found from l e h = record {
      goal = ElementOf g e.location.register;
      same = refl;
      to_is = let a = h.to_is in let b : length (e.code ++ []) ≡ length e.code + 0 = length-append e.code [] in omega (arith, a, b);
      grows = h.grows;
      stands = λ k st. inr (subst (λ q. UncheckedAt code layout p q (ExprCode code layout p None scope i) from (e.location.to + 0) (length scope) (ElementOf g e.location.register)) (sym f) (record {
        ri = e.location.register;
        ti = e.location.ty;
        computes = subst (λ q. ExprCode code layout p None scope i from q (length scope) e.location.register e.location.ty) (omega arith) (h.stands k (front code arguments from e.code [] st));
        target_is = refl;
      }));
    }

    aims : (check : Bool) (lhs : Expr) → TypedTarget known lhs → IsTrue (may_be_assigned known lhs) → (from : ℕ) (l : Lists) → Aims check lhs from l (target_code p scope check lhs from (length scope) l)
    aims check (Variable x) h m from l =
        let k = known_number (known x.text) h m in
        variable_aims check x (newest scope x.text) (global_of p x.text) k.0 refl refl (variable_found p scope x.text k.0 (agrees x.text h ∙ k.1)) from l
    aims check (Element x i at) h m from l =
        let k = known_array (known x.text) h.0 h.2 in
        element_aims check x i at (global_of p x.text) k.0 refl (array_found p scope x.text k.0 k.1 (agrees x.text h.0 ∙ k.2)) from l (emit p scope i from (length scope) (length scope) l)
        (expr_emits p code arguments layout typed stand defined known scope agrees None i h.1 from (length scope) (length scope) l (omega arith))
    aims check lhs h m from l = absurd (cc)

    -- what finds a target, and then what goes there
    aimed_writes : (check : Bool) (lhs : Expr) (from : ℕ) (l : Lists) (a : Aimed) (goal : Target) → a.to ≡ from + length a.code → Grows l a.lists → (Fits code arguments layout a.lists → Stand code arguments from a.code → Goes check lhs from a.to goal) →
        (B A : ℕ → ℕ → Type 0) (w : Written) → Writes p code arguments layout B a.to a.lists w → (Goes check lhs from a.to goal → B a.to w.to → A from w.to) → Writes p code arguments layout A from l (aimed_then a w)
    aimed_writes check lhs from l a goal to_is grows stands B A w h make = record {
      to_is = let y = h.to_is in let u : length (a.code ++ w.code) ≡ length a.code + length w.code = length-append a.code w.code in omega (arith, to_is, y, u);
      grows = grows_further l a.lists w.lists grows h.grows;
      stands = λ f st.
          make (stands (fits_before code arguments layout a.lists w.lists h.grows f) (front code arguments from a.code w.code st))
          (h.stands f (behind code arguments from a.to a.code w.code to_is st));
    }

    assigned_to : (lhs e : Expr) → TypedExpr known e → (from : ℕ) (l : Lists) (a : Aimed) (goal : Target) → a.to ≡ from + length a.code → Grows l a.lists → (Fits code arguments layout a.lists → Stand code arguments from a.code → Goes true lhs from a.to goal) →
        let later : ℕ = above_target (own_of goal) (length scope) in
        let home : ℕ = home_or (own_of goal) later in
        Writes p code arguments layout (AssignCode code layout p scope lhs e) from l
        (aimed_then (with_target a (own_of goal)) (then_stored (own_of goal) (expr_fitting (own_of goal) (emitted_type p scope e) e (emit p scope e a.to home later a.lists) a.to home a.lists)))
    assigned_to lhs e h from l a goal to_is grows stands =
        let later : ℕ = above_target (own_of goal) (length scope) in
        let home : ℕ = home_or (own_of goal) later in
        let s : Scalar = emitted_type p scope e in
        let v = emit p scope e a.to home later a.lists in
        aimed_writes true lhs from l (with_target a (own_of goal)) goal to_is grows stands
        (λ from to. ExprStored code layout p scope goal e from to later) (AssignCode code layout p scope lhs e) (then_stored (own_of goal) (expr_fitting (own_of goal) s e v a.to home a.lists))
        (expr_stored p code arguments layout scope e goal s a.to later a.lists v
        (expr_emits p code arguments layout typed stand defined known scope agrees (home_of goal) e h a.to home later a.lists (may_take_home goal later)) (emitted_is p scope e a.to home later a.lists))
        (λ g s. record {
          target = goal;
          mid = a.to;
          later = later;
          goes_to = g;
          room = target_above goal (length scope);
          spares = spares goal (length scope);
          stores = s;
        })

    assigned_writes : (lhs e : Expr) → TypedTarget known lhs → TypedExpr known e → IsTrue (may_be_assigned known lhs) → (from : ℕ) (l : Lists) → Writes p code arguments layout (SimpleCode code layout p scope (Assign lhs None e)) from l (assignment_code p scope lhs e from (length scope) l)
    assigned_writes lhs e ht he m from l =
        let a = target_code p scope true lhs from (length scope) l in
        let g = aims true lhs ht m from l in
        let result : OwnTarget → Type 0 = λ x.
        let later : ℕ = above_target x (length scope) in
        let home : ℕ = home_or x later in
        Writes p code arguments layout (SimpleCode code layout p scope (Assign lhs None e)) from l (aimed_then (with_target a x) (then_stored x (expr_fitting x (emitted_type p scope e) e (emit p scope e a.to home later a.lists) a.to home a.lists))) in
        subst result (sym g.same) (assigned_to lhs e he from l a g.goal g.to_is g.grows g.stands)

    -- the right side of an operator
    abbrev RightEmits : Option Expr → Due → Type 0
    RightEmits by B = (u : Scalar) (from free : ℕ) (l : Lists) → Emits code arguments layout (λ from to free r x. B u from to free r (type_or_int p scope by)) from free l (value_or_one p scope u by from free l)

    fetched_of : (t : Target) (from free : ℕ) (l : Lists) → (target_value (own_of t) from free l).location.ty ≡ type_at (own_of t)
    fetched_of (LocalAt x) from free l = refl
    fetched_of (CellAt g) from free l = refl
    fetched_of (ElementOf g ri) from free l = refl

    changed_emits : (op : BinaryOp) (by : Option Expr) (B : Due) → RightEmits by B → (goal : Target) (from free : ℕ) (l : Lists) →
        Emits code arguments layout (λ from to free r x. Fitted p code arguments layout (BinaryCode code layout (home_of goal) op (ConvertedCode code layout None (FetchCode code layout p goal)) B) goal (result_type op (operand_type op (type_at (own_of goal)) (type_or_int p scope by))) from to free r)
        from free l (compound_value p scope op by (own_of goal) from free l)
    changed_emits op by B other goal from free l =
        let s : Scalar = type_at (own_of goal) in
        let t : Scalar = type_or_int p scope by in
        let u : Scalar = operand_type op s t in
        let first = target_value (own_of goal) from free l in
        let old = converted_by (converting s u) u first free in
        let v = value_or_one p scope (operand_type op t s) by old.location.to (above free old.location.register) old.lists in
        let home : ℕ = home_or (own_of goal) free in
        fitting_emits p code arguments layout goal (BinaryCode code layout (home_of goal) op (ConvertedCode code layout None (FetchCode code layout p goal)) B) (result_type op u) from free l (both op u old v home)
        (both_emits code arguments layout (home_of goal) op (ConvertedCode code layout None (FetchCode code layout p goal)) B s t from free home l old v
        (converted_emits code arguments layout None (FetchCode code layout p goal) s u from free free l first (fetched_emits p code arguments layout goal from free l) (fetched_of goal from free l) (omega arith))
        (other (operand_type op t s) old.location.to (above free old.location.register) old.lists) (may_take_home goal free)) refl

    adjusted_to : (op : BinaryOp) (lhs : Expr) (by : Option Expr) (B : Due) → RightEmits by B → (from : ℕ) (l : Lists) (a : Aimed) (goal : Target) → a.to ≡ from + length a.code → Grows l a.lists → (Fits code arguments layout a.lists → Stand code arguments from a.code → Goes false lhs from a.to goal) →
        Writes p code arguments layout (ChangeCode code layout p scope lhs op B) from l
        (aimed_then (with_target a (own_of goal)) (then_stored (own_of goal) (compound_value p scope op by (own_of goal) a.to (above_target (own_of goal) (length scope)) a.lists)))
    adjusted_to op lhs by B other from l a goal to_is grows stands =
        let later : ℕ = above_target (own_of goal) (length scope) in
        let t : Scalar = result_type op (operand_type op (type_at (own_of goal)) (type_or_int p scope by)) in
        let A : Coded = BinaryCode code layout (home_of goal) op (ConvertedCode code layout None (FetchCode code layout p goal)) B in
        let whole = compound_value p scope op by (own_of goal) a.to later a.lists in
        aimed_writes false lhs from l (with_target a (own_of goal)) goal to_is grows stands
        (ValueStored p code arguments layout (λ from to free r x. Fitted p code arguments layout A goal t from to free r) later goal) (ChangeCode code layout p scope lhs op B) (then_stored (own_of goal) whole)
        (then_stored_writes p code arguments layout (λ from to free r x. Fitted p code arguments layout A goal t from to free r) goal a.to later a.lists whole (changed_emits op by B other goal a.to later a.lists))
        (λ g s. record {
          target = goal;
          mid = a.to;
          done = s.value.mid;
          later = later;
          r = s.value.ra;
          t = t;
          goes_to = g;
          room = target_above goal (length scope);
          spares = spares goal (length scope);
          operates = s.value.value;
          stores = record { mid = s.mid; r = s.r; converts = s.value.converts; stores = s.stores };
        })

    adjusted_writes : (op : BinaryOp) (lhs : Expr) (by : Option Expr) (B : Due) → RightEmits by B → TypedTarget known lhs → IsTrue (may_be_assigned known lhs) → (from : ℕ) (l : Lists) →
        Writes p code arguments layout (ChangeCode code layout p scope lhs op B) from l (compound_code p scope op lhs by from (length scope) l)
    adjusted_writes op lhs by B other ht m from l =
        let a = target_code p scope false lhs from (length scope) l in
        let g = aims false lhs ht m from l in
        let result : OwnTarget → Type 0 = λ x.
        Writes p code arguments layout (ChangeCode code layout p scope lhs op B) from l
        (aimed_then (with_target a x) (then_stored x (compound_value p scope op by x a.to (above_target x (length scope)) a.lists))) in
        subst result (sym g.same) (adjusted_to op lhs by B other from l a g.goal g.to_is g.grows g.stands)

    one_is_emitted : RightEmits None (OneCode code layout p)
    one_is_emitted u from free l =
        let g = word_emits code arguments layout 1 u from free l in
        record { to_is = g.to_is; grows = g.grows; stands = λ f st. (refl, g.stands f st) }

    value_is_emitted : (e : Expr) → TypedExpr known e → RightEmits (Some e) (Operating code layout p scope e)
    value_is_emitted e h u from free l = right_emits p code arguments layout typed stand defined known scope agrees u e h from free l

    pub simple_writes : (s : Simple) → TypedSimple known s → (from : ℕ) (l : Lists) → Writes p code arguments layout (SimpleCode code layout p scope s) from l (simple_written p scope s from (length scope) l)
    simple_writes (Evaluate e) h from l =
        let v = emit p scope e from (length scope) (length scope) l in
        let g = expr_emits p code arguments layout typed stand defined known scope agrees None e h from (length scope) (length scope) l (omega arith) in
        record {
          to_is = g.to_is;
          grows = g.grows;
          stands = λ f st. (v.location.register, record { free = length scope; room = omega arith; t = v.location.ty; computes = g.stands f st });
        }
    simple_writes (Assign lhs None e) h from l = assigned_writes lhs e h.0 h.1 h.2 from l
    simple_writes (Assign lhs (Some op) e) h from l = adjusted_writes op lhs (Some e) (Operating code layout p scope e) (value_is_emitted e h.1) h.0 h.2 from l
    simple_writes (Adjust lhs by) h from l = adjusted_writes (op_of by) lhs None (OneCode code layout p) one_is_emitted h.0 h.1 from l

  one_longer : (scope : LocalScope) (x : List ℕ) (t : Scalar) → length (with_local scope x t) ≡ suc (length scope)
  one_longer scope x t = let h : length (with_local scope x t) ≡ length scope + 1 = length-append scope (record { name = x; ty = t; word = 0 } ∷ []) in omega (arith, h)

  first_writes : (known : Scope) (scope : LocalScope) → IsSubscope known (running_scope p scope) → (i : ℕ) (t : Scalar) (first : Option Expr) → length scope ≡ suc i → IfSome first (TypedExpr known) → (from : ℕ) (l : Lists) →
      Writes p code arguments layout (FirstValueCode code layout p scope (i, t) first) from l (first_written p scope i t first from l)
  first_writes known scope agrees i t None n h from l = nothing_writes p code arguments layout from l
  first_writes known scope agrees i t (Some e) n h from l =
      let v = emit p scope e from i (suc i) l in
      let w = expr_stored p code arguments layout scope e (LocalAt (i, t)) (emitted_type p scope e) from (suc i) l v
      (expr_emits p code arguments layout typed stand defined known scope agrees (Some i) e h from i (suc i) l (inr refl)) (emitted_is p scope e from i (suc i) l) in
      record {
        to_is = w.to_is;
        grows = w.grows;
        stands = λ f st. record { free = suc i; room = omega (arith, n); stores = w.stands f st };
      }

  pub declared_writes : (t : Scalar) (ds : List Declarator) (known : Scope) (scope : LocalScope) → IsSubscope known (running_scope p scope) → TypedDeclarators known t ds → (from : ℕ) (l : Lists) →
      Writes p code arguments layout (DeclareCode code layout p t ds scope) from l (declared_written p t ds scope from l)
  declared_writes t [] known scope agrees h from l = nothing_writes p code arguments layout from l
  declared_writes t (d ∷ ds) known scope agrees h from l =
      let i : ℕ = length scope in
      let x : List ℕ = d.name.text in
      let inner = with_local scope x t in
      let ahead = one_more_agrees p known scope x t agrees in
      let first = first_written p inner i t d.first (from + 1) (with_register i l) in
      let rest = declared_written p t ds inner first.to first.lists in
      let f = first_writes (with_number x t known) inner ahead i t d.first (one_longer scope x t) h.0 (from + 1) (with_register i l) in
      let r = declared_writes t ds (with_number x t known) inner ahead h.1 first.to first.lists in
      let zero : Instr = own.Constant i 0 in
      let own_growth : Grows l (with_register i l) = grows_used l l i (grows_same l) in
      let all : Grows (with_register i l) rest.lists = grows_further (with_register i l) first.lists rest.lists f.grows r.grows in
      let first_is : first.to ≡ from + length (zero ∷ first.code) = (let a = f.to_is in omega (arith, a)) in
      record {
        to_is = let b = r.to_is in let u : length (zero ∷ first.code ++ rest.code) ≡ length (zero ∷ first.code) + length rest.code = length-append (zero ∷ first.code) rest.code in omega (arith, first_is, b, u);
        grows = grows_further l (with_register i l) rest.lists own_growth all;
        stands = λ k st.
            let head = front code arguments from (zero ∷ first.code) rest.code st in
            let kf = fits_before code arguments layout first.lists rest.lists r.grows k in
            record {
              below = is_register code arguments layout l i (fits_before code arguments layout (with_register i l) rest.lists all k);
              zeroes = head.0;
              mid = first.to;
              value = subst (λ q. FirstValueCode code layout p inner (i, t) d.first q first.to) (omega arith) (f.stands kf (subst (λ q. Stand code arguments q first.code) (omega arith) head.1));
              goes_on = r.stands k (behind code arguments from first.to (zero ∷ first.code) rest.code first_is st);
            };
      }

  pub start_writes : (s : Start) (known : Scope) (scope : LocalScope) → IsSubscope known (running_scope p scope) → TypedStart known s → (from : ℕ) (l : Lists) →
      Writes p code arguments layout (StartCode code layout p scope s) from l (start_written p s scope from l)
  start_writes Nothing known scope agrees h from l = nothing_writes p code arguments layout from l
  start_writes (Declares d) known scope agrees h from l = declared_writes d.ty d.declarators known scope agrees h from l
  start_writes (Does s) known scope agrees h from l = simple_writes known scope agrees s h from l
