-- What is picked for assignments and declarations of a typed program is in order.
use Rattle.std.proofs.Common.{◌≡◌, refl, ℕ, suc, pos, ◌+◌, ◌≤◌, ◌<◌, List, [], ◌∷◌, ◌++◌, length, arith, Option, Some, None, Bool, true, false, IsTrue}
use Rattle.std.specs.Prelude.{if◌then◌else◌, ◌==◌}
use Rattle.std.specs.Option.{IfSome}
use Rattle.std.proofs.lemmas.List.{length-append}
use Rattle.lex.specs.declared.token.Scalar.{Scalar}
use Rattle.lex.specs.declared.token.Scalar.TheVariants.{Int}
use Rattle.syntax.specs.declared.tree.BinaryOp.{BinaryOp}
use Rattle.syntax.specs.Numbers.{number, word_of, operand_type, result_type}
use Rattle.syntax.specs.Tree.{Expr, Variable, Constant, Element, Simple, Evaluate, Assign, Adjust, Declarator, Start, Nothing, Declares, Does, Program}
use Rattle.syntax.specs.Meaning.{op_of}
use Rattle.syntax.specs.Names.{GlobalCells, cells, newest, global_of, globals}
use Rattle.syntax.specs.Types.{Scope, with_number, running_scope}
use Rattle.syntax.specs.Typing.{IsTypedProgram, may_be_assigned}
use Rattle.syntax.specs.ScopeLaws.{IsSubscope}
use Rattle.syntax.proofs.typing.TypedParts.{TypedExpr, TypedTarget, TypedSimple, TypedDeclarators, TypedStart}
use Rattle.bytecode.specs.declared.instr.Instr.{Instr}
use Rattle.bytecode.specs.declared.instr.Instr.TheVariants as own
use Rattle.bytecode.specs.Code.{Code, FunctionCode}
use Rattle.bytecode.specs.Valid.{cells_of, IsWritten}
use Rattle.bytecode.specs.Views.{instr_of}
use Rattle.lower_spec.specs.Expressions.{LocalScope}
use Rattle.lower_spec.specs.Statements.{with_local}
use Rattle.selection.specs.declared.locations.AssignmentTarget.{AssignmentTarget}
use Rattle.selection.specs.declared.locations.AssignmentTarget.TheVariants as target
use Rattle.selection.specs.Lists.{Lists, with_register}
use Rattle.selection.specs.Expressions.{Emitted, above, constant, converting, converted_by, both, emitted_type, emit}
use Rattle.selection.specs.Simples.{Written, Aimed, aimed_at, variable_target, element_target, above_target, target_value, home_or, one_written, target_store, type_at, fitting, expr_fitting, and_then, code_of_value, then_stored, behind as aimed_then, target_code, value_or_one, type_or_int, compound_value, compound_code, simple_written, nothing_written, first_written, declarator_written, declared_written, start_written}
use Rattle.selection.proofs.stands.Standing.{Grows, grows_same, grows_further, grows_used, max_right}
use Rattle.selection.proofs.stands.Named.{known_number}
use Rattle.selection.proofs.stands.Exprs.{DefinedAreCallees}
use Rattle.selection.proofs.stands.Simply.{one_more_agrees}
use Rattle.selection.proofs.valid.Fitting.{Fits, fits_before, is_register}
use Rattle.selection.proofs.valid.Begins.{IsBalanced, balanced_append}
use Rattle.selection.proofs.valid.Goods.{GoesOn, AreGood, balanced_one, Runs, good_parts, good_on}
use Rattle.selection.proofs.valid.Sounds.{Sound, OperandSound, in_size, one_sound, in_local_sound, constant_sound, converted_sound, widened_sound, ready_or_sound, operand_sound, both_sound}
use Rattle.selection.proofs.valid.Expressions.{CalleesTake, cells_are, cell_is, expr_sound}

module _ (code : Code) (arguments : List ℕ) (f : FunctionCode) (end : ℕ) where
  -- what is written from a place on leaves what it opens, and is in order where those begins are open that its text says
  pub record Flat (from : ℕ) (l : Lists) (w : Written) : Type 0 where
    pub to_is : w.to ≡ from + length w.code
    pub grows : Grows l w.lists
    pub balanced : IsBalanced arguments w.code
    pub goods : (open_at : ℕ → List ℕ) (bs : List ℕ) → Fits code arguments f.registers w.lists → Runs code arguments f end open_at from bs w.code → AreGood code arguments f end open_at from w.code

  pub nothing_flat : (from : ℕ) (l : Lists) → Flat from l (nothing_written from l)
  nothing_flat from l = record { to_is = omega arith; grows = grows_same l; balanced = λ q bs. refl; goods = λ o bs k run. tt }

  pub one_flat : (i : Instr) (from : ℕ) (l : Lists) → GoesOn code arguments f end (instr_of arguments i) → (Fits code arguments f.registers l → IsWritten code f end (instr_of arguments i)) → Flat from l (one_written i from l)
  one_flat i from l way w = record {
    to_is = omega arith;
    grows = grows_same l;
    balanced = balanced_one code arguments f end i way;
    goods = λ o bs k run. (good_on code arguments f end o from bs i [] way (w k) run, tt);
  }

  pub then_flat : (from : ℕ) (l : Lists) (a b : Written) → Flat from l a → Flat a.to a.lists b → Flat from l (and_then a b)
  then_flat from l a b h g =
      let x = h.to_is in
      let y = g.to_is in
      record {
        to_is = let u : length (a.code ++ b.code) ≡ length a.code + length b.code = length-append a.code b.code in omega (arith, x, y, u);
        grows = grows_further l a.lists b.lists h.grows g.grows;
        balanced = balanced_append arguments a.code b.code h.balanced g.balanced;
        goods = λ o bs k run.
            good_parts code arguments f end o from a.to bs a.code b.code h.to_is h.balanced run (h.goods o bs (fits_before code arguments f.registers a.lists b.lists g.grows k)) (g.goods o bs k);
      }

  pub evaluated_flat : (from : ℕ) (l : Lists) (e : Emitted) → Sound code arguments f end from l e → Flat from l (code_of_value e)
  evaluated_flat from l e h = record { to_is = h.to_is; grows = h.grows; balanced = h.balanced; goods = h.goods }

  -- a target whose register is below a number
  abbrev pub IsIn : ℕ → AssignmentTarget → Type 0
  IsIn n (target.Local i t) = i < n
  IsIn n (target.Cell c t) = c + 1 ≤ cells_of code
  IsIn n (target.Element i c k t) = (i < n) × (c + k ≤ cells_of code)
  IsIn n target.Nowhere = Unit {0}

  in_more : (n m : ℕ) (t : AssignmentTarget) → n ≤ m → IsIn n t → IsIn m t
  in_more n m (target.Local i t) e h = omega (arith, e, h)
  in_more n m (target.Cell c t) e h = h
  in_more n m (target.Element i c k t) e h = (let x = h.0 in omega (arith, e, x), h.1)
  in_more n m target.Nowhere e h = tt

  fetched_sound : (t : AssignmentTarget) (from free : ℕ) (l : Lists) → IsIn l.registers t → Sound code arguments f end from l (target_value t from free l)
  fetched_sound (target.Local i t) from free l h = in_local_sound code arguments f end i t from l
  fetched_sound (target.Cell c t) from free l h = one_sound code arguments f end (own.Read free c) from free t l (λ q bs. (refl, tt)) (λ r s. (r, h))
  fetched_sound (target.Element i c n t) from free l h = one_sound code arguments f end (own.ReadAt free i c n) from free t l (λ q bs. (refl, tt)) (λ r s. (r, let x = h.0 in omega (arith, x, s), h.1))
  fetched_sound target.Nowhere from free l h = one_sound code arguments f end (own.Constant free 0) from free Int l (λ q bs. (refl, tt)) (λ r s. (r, omega arith))

  stored_flat : (t : AssignmentTarget) (r from : ℕ) (l : Lists) → r < l.registers → IsIn l.registers t → Flat from l (target_store t r from l)
  stored_flat (target.Local i t) r from l k h = by (r == i)
    where
      by : (b : Bool) → Flat from l (if b then nothing_written from l else one_written (own.Move i r) from l)
      by true = nothing_flat from l
      by false = one_flat (own.Move i r) from l (λ q bs. (refl, tt)) (λ fits. (in_size code arguments f end i l h fits, in_size code arguments f end r l k fits))
  stored_flat (target.Cell c t) r from l k h = one_flat (own.Write r c) from l (λ q bs. (refl, tt)) (λ fits. (in_size code arguments f end r l k fits, h))
  stored_flat (target.Element i c n t) r from l k h = one_flat (own.WriteAt i r c n) from l (λ q bs. (refl, tt)) (λ fits. (in_size code arguments f end i l h.0 fits, in_size code arguments f end r l k fits, h.1))
  stored_flat target.Nowhere r from l k h = nothing_flat from l

  pub then_stored_flat : (t : AssignmentTarget) (from : ℕ) (l : Lists) (e : Emitted) → Sound code arguments f end from l e → IsIn l.registers t → Flat from l (then_stored t e)
  then_stored_flat t from l e h i =
      then_flat from l (code_of_value e) (target_store t e.location.register e.location.to e.lists) (evaluated_flat from l e h)
      (stored_flat t e.location.register e.location.to e.lists h.location (in_more l.registers e.lists.registers t h.grows.registers i))

  -- a value on its way to a target
  fitting_sound : (t : AssignmentTarget) (s : Scalar) (into from : ℕ) (l : Lists) (e : Emitted) → Sound code arguments f end from l e → Sound code arguments f end from l (fitting t s e into)
  fitting_sound (target.Local i t) s into from l e h = converted_sound code arguments f end s t into from l e h
  fitting_sound (target.Cell c t) s into from l e h = widened_sound code arguments f end s t into from l e h
  fitting_sound (target.Element i c n t) s into from l e h = widened_sound code arguments f end s t into from l e h
  fitting_sound target.Nowhere s into from l e h = converted_sound code arguments f end Int Int into from l e h

  expr_fitting_sound : (t : AssignmentTarget) (s : Scalar) (e' : Expr) (e : Emitted) (from into : ℕ) (l : Lists) → Sound code arguments f end from l e → Sound code arguments f end from l (expr_fitting t s e' e from into l)
  expr_fitting_sound t s (Constant n x at) e from into l h = constant_sound code arguments f end (number x (word_of x (pos n))) (type_at t) from into l
  expr_fitting_sound t s e' e from into l h = fitting_sound t s into from l e h

  -- what finds a target
  record Aims (from : ℕ) (l : Lists) (a : Aimed) : Type 0 where
    to_is : a.to ≡ from + length a.code
    grows : Grows l a.lists
    aim : IsIn a.lists.registers a.target
    balanced : IsBalanced arguments a.code
    goods : (open_at : ℕ → List ℕ) (bs : List ℕ) → Fits code arguments f.registers a.lists → Runs code arguments f end open_at from bs a.code → AreGood code arguments f end open_at from a.code

  aimed_flat : (from : ℕ) (l : Lists) (a : Aimed) (w : Written) → Aims from l a → Flat a.to a.lists w → Flat from l (aimed_then a w)
  aimed_flat from l a w h g =
      let x = h.to_is in
      let y = g.to_is in
      record {
        to_is = let u : length (a.code ++ w.code) ≡ length a.code + length w.code = length-append a.code w.code in omega (arith, x, y, u);
        grows = grows_further l a.lists w.lists h.grows g.grows;
        balanced = balanced_append arguments a.code w.code h.balanced g.balanced;
        goods = λ o bs k run.
            good_parts code arguments f end o from a.to bs a.code w.code h.to_is h.balanced run (h.goods o bs (fits_before code arguments f.registers a.lists w.lists g.grows k)) (g.goods o bs k);
      }

  nowhere_aims : (from : ℕ) (l : Lists) → Aims from l (aimed_at target.Nowhere from l)
  nowhere_aims from l = record { to_is = omega arith; grows = grows_same l; aim = tt; balanced = λ q bs. refl; goods = λ o bs k run. tt }

  variable_aims : (o : Option (ℕ × Scalar)) (g : Option GlobalCells) → (o ≡ None → (c : GlobalCells) → g ≡ Some c → c.cell + 1 ≤ cells_of code) → (from : ℕ) (l : Lists) → Aims from l (variable_target o g from l)
  variable_aims (Some x) g h from l = record {
    to_is = omega arith;
    grows = grows_used l l x.0 (grows_same l);
    aim = let m = max_right l.registers (suc x.0) in omega (arith, m);
    balanced = λ q bs. refl;
    goods = λ o bs k run. tt;
  }
  variable_aims None (Some c) h from l = record { to_is = omega arith; grows = grows_same l; aim = h refl c refl; balanced = λ q bs. refl; goods = λ o bs k run. tt }
  variable_aims None None h from l = nowhere_aims from l

  element_aims : (check : Bool) (g : Option GlobalCells) → ((c : GlobalCells) → g ≡ Some c → c.cell + cells c.global ≤ cells_of code) → (from : ℕ) (l : Lists) (e : Emitted) → Sound code arguments f end from l e → Aims from l (element_target check g e from l)
  element_aims check None h from l e s = nowhere_aims from l
  element_aims true (Some c) h from l e s =
      let test : Instr = own.Check e.location.register (cells c.global) in
      let x = s.to_is in
      record {
        to_is = let b : length (e.code ++ test ∷ []) ≡ length e.code + 1 = length-append e.code (test ∷ []) in omega (arith, x, b);
        grows = s.grows;
        aim = (s.location, h c refl);
        balanced = balanced_append arguments e.code (test ∷ []) s.balanced (λ q bs. refl);
        goods = λ o bs k run.
            good_parts code arguments f end o from e.location.to bs e.code (test ∷ []) s.to_is s.balanced run (s.goods o bs k)
            (λ r. (good_on code arguments f end o e.location.to bs test [] (λ q bs. (refl, tt)) (in_size code arguments f end e.location.register e.lists s.location k) r, tt));
      }
  element_aims false (Some c) h from l e s =
      let x = s.to_is in
      record {
        to_is = let b : length (e.code ++ []) ≡ length e.code + 0 = length-append e.code [] in omega (arith, x, b);
        grows = s.grows;
        aim = (s.location, h c refl);
        balanced = balanced_append arguments e.code [] s.balanced (λ q bs. refl);
        goods = λ o bs k run. good_parts code arguments f end o from e.location.to bs e.code [] s.to_is s.balanced run (s.goods o bs k) (λ r. tt);
      }

  module _ (p : Program) (typed : IsTypedProgram p) (takes : CalleesTake p code) (defined : DefinedAreCallees p) (shares : code.globals ≡ globals p) where
    module _ (known : Scope) (scope : LocalScope) (agrees : IsSubscope known (running_scope p scope)) where
      sound : (e : Expr) → TypedExpr known e → (from into free : ℕ) (l : Lists) → Sound code arguments f end from l (emit p scope e from into free l)
      sound e h from into free l = expr_sound p code arguments f end typed takes defined shares known scope agrees e h from into free l

      aims : (check : Bool) (lhs : Expr) → TypedTarget known lhs → IsTrue (may_be_assigned known lhs) → (from : ℕ) (l : Lists) → Aims from l (target_code p scope check lhs from (length scope) l)
      aims check (Variable x) h m from l =
          let k = known_number (known x.text) h m in
          variable_aims (newest scope x.text) (global_of p x.text) (cell_is p code arguments f end typed takes defined shares known scope agrees x k.0 h k.1) from l
      aims check (Element x i at) h m from l =
          element_aims check (global_of p x.text) (cells_are p code arguments f end typed takes defined shares x.text) from l (emit p scope i from (length scope) (length scope) l) (sound i h.1 from (length scope) (length scope) l)
      aims check lhs h m from l = nowhere_aims from l

      value_or_one_sound : (u : Scalar) (by : Option Expr) → IfSome by (TypedExpr known) → (from free : ℕ) (l : Lists) → OperandSound code arguments f end from l (value_or_one p scope u by from free l)
      value_or_one_sound u None h from free l =
          ready_or_sound code arguments f end 1 u from l (constant 1 u from free l) (one_sound code arguments f end (own.Constant free 1) from free u l (λ q bs. (refl, tt)) (λ r s. (r, omega arith)))
      value_or_one_sound u (Some e) h from free l = operand_sound code arguments f end e (emitted_type p scope e) u from free l (emit p scope e from free free l) (sound e h from free free l)

      changed_sound : (op : BinaryOp) (by : Option Expr) → IfSome by (TypedExpr known) → (t : AssignmentTarget) (from free : ℕ) (l : Lists) → IsIn l.registers t → Sound code arguments f end from l (compound_value p scope op by t from free l)
      changed_sound op by hb t from free l i =
          let s = type_at t in
          let u = operand_type op s (type_or_int p scope by) in
          let first = target_value t from free l in
          let old = converted_by (converting s u) u first free in
          let v = operand_type op (type_or_int p scope by) s in
          let other = value_or_one p scope v by old.location.to (above free old.location.register) old.lists in
          let home : ℕ = home_or t free in
          fitting_sound t (result_type op u) home from l (both op u old other home)
          (both_sound code arguments f end op u home from l old other (converted_sound code arguments f end s u free from l first (fetched_sound t from free l i))
          (value_or_one_sound v by hb old.location.to (above free old.location.register) old.lists))

      adjusted_flat : (op : BinaryOp) (lhs : Expr) (by : Option Expr) → TypedTarget known lhs → IfSome by (TypedExpr known) → IsTrue (may_be_assigned known lhs) → (from : ℕ) (l : Lists) → Flat from l (compound_code p scope op lhs by from (length scope) l)
      adjusted_flat op lhs by ht hb m from l =
          let a = target_code p scope false lhs from (length scope) l in
          let g = aims false lhs ht m from l in
          let later : ℕ = above_target a.target (length scope) in
          let whole = compound_value p scope op by a.target a.to later a.lists in
          aimed_flat from l a (then_stored a.target whole) g
          (then_stored_flat a.target a.to a.lists whole (changed_sound op by hb a.target a.to later a.lists g.aim) g.aim)

      pub simple_flat : (s : Simple) → TypedSimple known s → (from : ℕ) (l : Lists) → Flat from l (simple_written p scope s from (length scope) l)
      simple_flat (Evaluate e) h from l = evaluated_flat from l (emit p scope e from (length scope) (length scope) l) (sound e h from (length scope) (length scope) l)
      simple_flat (Assign lhs None e) h from l =
          let a = target_code p scope true lhs from (length scope) l in
          let g = aims true lhs h.0 h.2 from l in
          let later : ℕ = above_target a.target (length scope) in
          let home : ℕ = home_or a.target later in
          let s : Scalar = emitted_type p scope e in
          let v = emit p scope e a.to home later a.lists in
          let w = expr_fitting a.target s e v a.to home a.lists in
          aimed_flat from l a (then_stored a.target w) g
          (then_stored_flat a.target a.to a.lists w (expr_fitting_sound a.target s e v a.to home a.lists (sound e h.1 a.to home later a.lists)) g.aim)
      simple_flat (Assign lhs (Some op) e) h from l = adjusted_flat op lhs (Some e) h.0 h.1 h.2 from l
      simple_flat (Adjust lhs by) h from l = adjusted_flat (op_of by) lhs None h.0 tt h.1 from l

    first_flat : (known : Scope) (scope : LocalScope) → IsSubscope known (running_scope p scope) → (i : ℕ) (t : Scalar) (first : Option Expr) → IfSome first (TypedExpr known) → (from : ℕ) (l : Lists) → i < l.registers → Flat from l (first_written p scope i t first from l)
    first_flat known scope agrees i t None h from l k = nothing_flat from l
    first_flat known scope agrees i t (Some e) h from l k =
        let s : Scalar = emitted_type p scope e in
        let v = emit p scope e from i (suc i) l in
        then_stored_flat (target.Local i t) from l (expr_fitting (target.Local i t) s e v from i l)
        (expr_fitting_sound (target.Local i t) s e v from i l (sound known scope agrees e h from i (suc i) l)) k

    pub declared_flat : (t : Scalar) (ds : List Declarator) (known : Scope) (scope : LocalScope) → IsSubscope known (running_scope p scope) → TypedDeclarators known t ds → (from : ℕ) (l : Lists) → Flat from l (declared_written p t ds scope from l)
    declared_flat t [] known scope agrees h from l = nothing_flat from l
    declared_flat t (d ∷ ds) known scope agrees h from l =
        let i : ℕ = length scope in
        let x : List ℕ = d.name.text in
        let inner = with_local scope x t in
        let ahead = one_more_agrees p known scope x t agrees in
        let known' = with_number x t known in
        let here : i < (with_register i l).registers = (let m = max_right l.registers (suc i) in omega (arith, m)) in
        let first = first_written p inner i t d.first (from + 1) (with_register i l) in
        let g = first_flat known' inner ahead i t d.first h.0 (from + 1) (with_register i l) here in
        let own_growth : Grows l (with_register i l) = grows_used l l i (grows_same l) in
        let one = declarator_written p t d scope from l in
        let zero : Instr = own.Constant i 0 in
        let y = g.to_is in
        let one_is : Flat from l one = (record {
          to_is = omega (arith, y);
          grows = grows_further l (with_register i l) first.lists own_growth g.grows;
          balanced = balanced_append arguments (zero ∷ []) first.code (λ q bs. refl) g.balanced;
          goods = λ o bs k run.
              let fits = fits_before code arguments f.registers (with_register i l) first.lists g.grows k in
              good_parts code arguments f end o from (from + 1) bs (zero ∷ []) first.code (omega arith) (λ q bs. refl) run
              (λ r. (good_on code arguments f end o from bs zero [] (λ q bs. (refl, tt)) (is_register code arguments f.registers l i fits, omega arith) r, tt)) (g.goods o bs k);
        }) in
        then_flat from l one (declared_written p t ds inner one.to one.lists) one_is (declared_flat t ds known' inner ahead h.1 one.to one.lists)

    pub start_flat : (s : Start) (known : Scope) (scope : LocalScope) → IsSubscope known (running_scope p scope) → TypedStart known s → (from : ℕ) (l : Lists) → Flat from l (start_written p s scope from l)
    start_flat Nothing known scope agrees h from l = nothing_flat from l
    start_flat (Declares d) known scope agrees h from l = declared_flat d.ty d.declarators known scope agrees h from l
    start_flat (Does s) known scope agrees h from l = simple_flat known scope agrees s h from l
