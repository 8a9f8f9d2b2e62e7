-- The parts of an expression, as they are picked, are in order.
use Rattle.std.proofs.Common.{◌≡◌, refl, sym, ap, subst, ◌∙◌, ℕ, suc, pos, ◌+◌, ◌≤◌, ◌<◌, ◌^◌, List, [], ◌∷◌, ◌++◌, length, map, drop, arith, Option, Some, None, Bool, true, false, eqb-true}
use Rattle.std.specs.Prelude.{ℤ, if◌then◌else◌, ◌==◌, is_some, option_map}
use Rattle.std.specs.List.{AllByRecursion}
use Rattle.std.specs.Option.{IfSome}
use Rattle.std.proofs.lemmas.List.{length-append, length-map, map-append}
use Rattle.lex.specs.declared.token.Scalar.{Scalar}
use Rattle.lex.specs.declared.token.Scalar.TheVariants.{Int, Unsigned, LongLong}
use Rattle.syntax.specs.declared.tree.BinaryOp.{BinaryOp}
use Rattle.syntax.specs.declared.tree.BinaryOp.TheVariants.{Equal, Greater, GreaterEqual}
use Rattle.syntax.specs.declared.tree.LogicalOp.{LogicalOp}
use Rattle.syntax.specs.declared.tree.LogicalOp.TheVariants.{AndThen, OrElse}
use Rattle.syntax.specs.Tree.{Parameter, Expr, Constant}
use Rattle.syntax.specs.Numbers.{number, word_of}
use Rattle.syntax.proofs.words.Words.{word_below}
use Rattle.bytecode.specs.declared.instr.Instr.{Instr}
use Rattle.bytecode.specs.declared.instr.Instr.TheVariants as own
use Rattle.bytecode.specs.Code.{Code, FunctionCode, Instr as Plain, computing}
use Rattle.bytecode.specs.Valid.{IsWritten, Takes}
use Rattle.bytecode.specs.Views.{instr_of}
use Rattle.lower_spec.specs.Expressions as Lowered
use Rattle.lower_spec.specs.Expressions.{constant_in, named_ones, nameless_ones, argument_order}
use Rattle.selection.specs.Lists.{Lists, with_register, with_registers}
use Rattle.selection.specs.Names.{Callee}
use Rattle.selection.specs.declared.draft.Draft.TheVariants as draft
use Rattle.selection.specs.Conditions.{Condition, test_in, jump_if, jump_if_not, instruction_of_draft, opposite_draft, going_on, going_back, by_value, opposite, first_of, logical_condition, zero_tested}
use Rattle.selection.specs.Simples.{widening}
use Rattle.selection.specs.Expressions.{negating, complementing, Emitted, AllEmitted, above, one, then_one, preloaded_from, preloaded, preloaded_constant, preloaded_or, in_local, converting, converted_by, in_type, in_first_type, constant, in_own_transaction, negation, complement, logical_negation, both, condition_value, condition_of, value_into, conditional_value, with_argument, call_code}
use Rattle.selection.proofs.Drafted.{whole_are, turned_are, first_and, first_or, completed_length, on_length, back_length, first_length}
use Rattle.selection.proofs.stands.Standing.{front_same, front_more, Grows, grows_same, grows_further, grows_used, max_left, max_right}
use Rattle.selection.proofs.stands.Exprs.{handed_over}
use Rattle.selection.proofs.valid.Fitting.{Fits, fits_before, is_register}
use Rattle.selection.proofs.valid.Begins.{IsBalanced, left_append, balanced_append, opens_split}
use Rattle.selection.proofs.valid.Goods.{GoesOn, IsGood, AreGood, good_append, balanced_one, Meets, Runs, runs_to, meets_first, meets_out, parted, good_parts, next_run, good_on, good_jump, good_zero, good_nonzero}

-- registers that are below a number
abbrev pub AreBelow : ℕ → List ℕ → Type 0
AreBelow n rs = AllByRecursion (λ r. r < n) rs

pub below_more : (n m : ℕ) (rs : List ℕ) → n ≤ m → AreBelow n rs → AreBelow m rs
below_more n m [] e h = tt
below_more n m (r ∷ rs) e h = (let x = h.0 in omega (arith, e, x), below_more n m rs e h.1)

pub below_append : (n : ℕ) (rs ss : List ℕ) → AreBelow n rs → AreBelow n ss → AreBelow n (rs ++ ss)
below_append n [] ss h g = g
below_append n (r ∷ rs) ss h g = (h.0, below_append n rs ss h.1 g)

-- arguments in the order that a callee takes them
named_below : (n : ℕ) (qs : List Parameter) (rs : List ℕ) → AreBelow n rs → AreBelow n (named_ones qs rs)
named_below n [] rs h = tt
named_below n (q ∷ qs) [] h = tt
named_below n (q ∷ qs) (r ∷ rs) h = by (is_some q.name) (named_below n qs rs h.1)
  where
    by : (b : Bool) → AreBelow n (named_ones qs rs) → AreBelow n (if b then r ∷ named_ones qs rs else named_ones qs rs)
    by true g = (h.0, g)
    by false g = g

nameless_below : (n : ℕ) (qs : List Parameter) (rs : List ℕ) → AreBelow n rs → AreBelow n (nameless_ones qs rs)
nameless_below n [] rs h = tt
nameless_below n (q ∷ qs) [] h = tt
nameless_below n (q ∷ qs) (r ∷ rs) h = by (is_some q.name) (nameless_below n qs rs h.1)
  where
    by : (b : Bool) → AreBelow n (nameless_ones qs rs) → AreBelow n (if b then nameless_ones qs rs else r ∷ nameless_ones qs rs)
    by true g = g
    by false g = (h.0, g)

arranged_below : (n : ℕ) (qs : List Parameter) (rs : List ℕ) → AreBelow n rs → AreBelow n (argument_order qs rs)
arranged_below n qs rs h = below_append n (named_ones qs rs) (nameless_ones qs rs) (named_below n qs rs h) (nameless_below n qs rs h)

split_length : (qs : List Parameter) (rs : List ℕ) → length rs ≡ length qs → length (named_ones qs rs) + length (nameless_ones qs rs) ≡ length qs
split_length [] rs e = refl
split_length (q ∷ qs) [] e = absurd (omega (arith, e))
split_length (q ∷ qs) (r ∷ rs) e = by (is_some q.name) (split_length qs rs (omega (arith, e)))
  where
    by : (b : Bool) → length (named_ones qs rs) + length (nameless_ones qs rs) ≡ length qs → length (if b then r ∷ named_ones qs rs else named_ones qs rs) + length (if b then nameless_ones qs rs else r ∷ nameless_ones qs rs) ≡ length (q ∷ qs)
    by true h = omega (arith, h)
    by false h = omega (arith, h)

arranged_length : (qs : List Parameter) (rs : List ℕ) → length rs ≡ length qs → length (argument_order qs rs) ≡ length qs
arranged_length qs rs e = length-append (named_ones qs rs) (nameless_ones qs rs) ∙ split_length qs rs e

-- a word is one that an instruction may set
pub word_fits : (t : Scalar) (z : ℤ) → word_of t z < 2 ^ 64
word_fits Int z = let h = word_below Int z in omega (arith, h)
word_fits Unsigned z = let h = word_below Unsigned z in omega (arith, h)
word_fits LongLong z = word_below LongLong z

pub into_into : (r : ℕ) (e : Emitted) → (value_into r e).location.register ≡ r
into_into r e = by (e.location.register == r) refl
  where
    by : (b : Bool) → (e.location.register == r) ≡ b → (if b then e else then_one e (own.Move r e.location.register) r e.location.ty).location.register ≡ r
    by true n = eqb-true e.location.register r n
    by false n = refl

module _ (code : Code) (arguments : List ℕ) (f : FunctionCode) (end : ℕ) where
  computing_goes : (op : BinaryOp) (t : Scalar) (d a b : ℕ) → GoesOn code arguments f end (computing op t d a b)
  computing_goes Greater t d a b = λ q bs. (refl, tt)
  computing_goes GreaterEqual t d a b = λ q bs. (refl, tt)
  computing_goes op t d a b = λ q bs. (refl, tt)

  computing_written : (op : BinaryOp) (t : Scalar) (d a b : ℕ) → d < f.registers → a < f.registers → b < f.registers → IsWritten code f end (computing op t d a b)
  computing_written Greater t d a b x y z = (x, z, y)
  computing_written GreaterEqual t d a b x y z = (x, z, y)
  computing_written op t d a b x y z = (x, y, z)

  pub size_of : (l : Lists) → Fits code arguments f.registers l → l.registers ≤ f.registers
  size_of l k = k.registers

  pub in_size : (r : ℕ) (l : Lists) → r < l.registers → Fits code arguments f.registers l → r < f.registers
  in_size r l h k = let a = k.registers in omega (arith, a, h)

  -- what is emitted from a place on, with these lists before it, is in order
  pub record Sound (from : ℕ) (l : Lists) (e : Emitted) : Type 0 where
    pub to_is : e.location.to ≡ from + length e.code
    pub grows : Grows l e.lists
    pub location : e.location.register < e.lists.registers
    pub balanced : IsBalanced arguments e.code
    pub goods : (open_at : ℕ → List ℕ) (bs : List ℕ) → Fits code arguments f.registers e.lists → Runs code arguments f end open_at from bs e.code → AreGood code arguments f end open_at from e.code

  pub one_sound : (i : Instr) (from r : ℕ) (t : Scalar) (l : Lists) → GoesOn code arguments f end (instr_of arguments i) → (r < f.registers → l.registers ≤ f.registers → IsWritten code f end (instr_of arguments i)) → Sound from l (one i from r t l)
  one_sound i from r t l way w = record {
    to_is = omega arith;
    grows = grows_used l l r (grows_same l);
    location = let h = max_right l.registers (suc r) in omega (arith, h);
    balanced = balanced_one code arguments f end i way;
    goods = λ o bs k run. (good_on code arguments f end o from bs i [] way (w (is_register code arguments f.registers l r k) (let a = k.registers in let b = max_left l.registers (suc r) in omega (arith, a, b))) run, tt);
  }

  pub in_local_sound : (i : ℕ) (t : Scalar) (from : ℕ) (l : Lists) → Sound from l (in_local i t from l)
  in_local_sound i t from l = record {
    to_is = omega arith;
    grows = grows_used l l i (grows_same l);
    location = let h = max_right l.registers (suc i) in omega (arith, h);
    balanced = λ q bs. refl;
    goods = λ o bs k run. tt;
  }

  pub then_sound : (i : Instr) (r : ℕ) (t : Scalar) (from : ℕ) (l : Lists) (e : Emitted) → Sound from l e → GoesOn code arguments f end (instr_of arguments i) → (r < f.registers → e.location.register < f.registers → IsWritten code f end (instr_of arguments i)) → Sound from l (then_one e i r t)
  then_sound i r t from l e h way w = record {
    to_is = let a = h.to_is in let b : length (e.code ++ i ∷ []) ≡ length e.code + 1 = length-append e.code (i ∷ []) in omega (arith, a, b);
    grows = grows_used l e.lists r h.grows;
    location = let x = max_right e.lists.registers (suc r) in omega (arith, x);
    balanced = balanced_append arguments e.code (i ∷ []) h.balanced (balanced_one code arguments f end i way);
    goods = λ o bs k run.
        let inner = fits_before code arguments f.registers e.lists (with_register r e.lists) (grows_used e.lists e.lists r (grows_same e.lists)) k in
        good_parts code arguments f end o from e.location.to bs e.code (i ∷ []) h.to_is h.balanced run (h.goods o bs inner)
        (λ g. (good_on code arguments f end o e.location.to bs i [] way (w (is_register code arguments f.registers e.lists r k) (in_size e.location.register e.lists h.location inner)) g, tt));
  }

  remains_sound : (u : Scalar) (into from : ℕ) (l : Lists) (e : Emitted) → Sound from l e → Sound from l (converted_by None u e into)
  remains_sound u into from l e h = record { to_is = h.to_is; grows = h.grows; location = h.location; balanced = h.balanced; goods = h.goods }

  -- a value by a conversion, and on its way to a cell
  pub converted_sound : (s u : Scalar) (into from : ℕ) (l : Lists) (e : Emitted) → Sound from l e → Sound from l (converted_by (converting s u) u e into)
  converted_sound Int LongLong into from l e h = then_sound (own.Extend into e.location.register) into LongLong from l e h (λ q bs. (refl, tt)) (λ x y. (x, y))
  converted_sound LongLong Int into from l e h = then_sound (own.Low into e.location.register) into Int from l e h (λ q bs. (refl, tt)) (λ x y. (x, y))
  converted_sound LongLong Unsigned into from l e h = then_sound (own.Low into e.location.register) into Unsigned from l e h (λ q bs. (refl, tt)) (λ x y. (x, y))
  converted_sound s u into from l e h = remains_sound u into from l e h

  pub widened_sound : (s u : Scalar) (into from : ℕ) (l : Lists) (e : Emitted) → Sound from l e → Sound from l (converted_by (widening s u) u e into)
  widened_sound Int LongLong into from l e h = then_sound (own.Extend into e.location.register) into LongLong from l e h (λ q bs. (refl, tt)) (λ x y. (x, y))
  widened_sound s u into from l e h = remains_sound u into from l e h

  -- a constant in some type
  pub constant_sound : (z : ℤ) (u : Scalar) (from into : ℕ) (l : Lists) → Sound from l (constant (word_of u z) u from into l)
  constant_sound z u from into l = one_sound (own.Constant into (word_of u z)) from into u l (λ q bs. (refl, tt)) (λ r s. (r, word_fits u z))

  -- an expression's value in some type
  pub in_type_sound : (s u : Scalar) (e' : Expr) (e : Emitted) (from into : ℕ) (l : Lists) → Sound from l e → Sound from l (in_type s u e' e from into l)
  in_type_sound s u (Constant n t at) e from into l h = constant_sound (number t (word_of t (pos n))) u from into l
  in_type_sound s u e' e from into l h = converted_sound s u into from l e h

  pub in_first_sound : (s : Scalar) (ts : List Scalar) (e' : Expr) (e : Emitted) (from into : ℕ) (l : Lists) → Sound from l e → Sound from l (in_first_type s ts e' e from into l)
  in_first_sound s [] e' e from into l h = h
  in_first_sound s (u ∷ us) e' e from into l h = in_type_sound s u e' e from into l h

  balanced_within : (to : ℕ) (a : List Instr) → IsBalanced arguments a → IsBalanced arguments (own.Begin to ∷ a ++ own.Commit ∷ [])
  balanced_within to a h = λ q bs. left_append arguments (suc q) (q ∷ bs) a (own.Commit ∷ []) ∙ ap (λ xs. drop 1 xs) (h (suc q) (q ∷ bs))

  -- a value's transaction: the begin is open along the operand, and the commit leaves it
  pub in_own_sound : (from : ℕ) (l : Lists) (e : Emitted) → Sound (from + 1) l e → Sound from l (in_own_transaction e)
  in_own_sound from l e h =
      let begin : Instr = own.Begin (e.location.to + 1) in
      let x = h.to_is in
      let next : from + 1 ≡ suc from = omega arith in
      let mid_is : e.location.to ≡ suc from + length e.code = omega (arith, x) in
      let last_is : e.location.to ≡ from + length (begin ∷ e.code) = omega (arith, x) in
      let whole : length (begin ∷ e.code ++ own.Commit ∷ []) ≡ length (begin ∷ e.code) + 1 = length-append (begin ∷ e.code) (own.Commit ∷ []) in
      let to_is : e.location.to + 1 ≡ from + length (begin ∷ e.code ++ own.Commit ∷ []) = omega (arith, last_is, whole) in
      record {
        to_is = to_is;
        grows = h.grows;
        location = h.location;
        balanced = balanced_within (e.location.to + 1) e.code h.balanced;
        goods = λ o bs k run.
            let first = run.first in
            let two = opens_split arguments o (suc from) e.location.to (from ∷ bs) e.code (own.Commit ∷ []) mid_is run.are.1 in
            let at_commit : o e.location.to ≡ from ∷ bs = two.1.0 ∙ h.balanced (suc from) (from ∷ bs) in
            let out = meets_out code arguments f end o (e.location.to + 1) from bs (begin ∷ e.code ++ own.Commit ∷ []) to_is run in
            let last = out.0.1 in
            let inner : Runs code arguments f end o (suc from) (from ∷ bs) e.code = runs_to code arguments f end o (suc from) e.location.to (from ∷ bs) e.code mid_is (omega (arith, first)) (omega (arith, last)) two.0 at_commit in
            good_append code arguments f end o from e.location.to (begin ∷ e.code) (own.Commit ∷ []) last_is (
              record { begins = bs; are = run.are.0; written = out.0; asks = tt; leads = (meets_first code arguments f end o (suc from) (suc from) (from ∷ bs) e.code refl inner, tt) },
              subst (λ q. AreGood code arguments f end o q e.code) next (h.goods o (from ∷ bs) k (subst (λ q. Runs code arguments f end o q (from ∷ bs) e.code) (sym next) inner)),
            )
            (record { begins = from ∷ bs; are = at_commit; written = tt; asks = λ t. cc t; leads = (((omega (arith, first, x), omega (arith, last)), let same : e.location.to + 1 ≡ suc e.location.to = omega arith in subst (λ q. o q ≡ bs) same out.1), tt) }, tt);
      }

  pub negated_sound : (into from : ℕ) (l : Lists) (e : Emitted) → Sound from l e → Sound from l (negation e into)
  negated_sound into from l e h = by e.location.ty
    where
      by : (t : Scalar) → Sound from l (then_one e (negating t into e.location.register) into e.location.ty)
      by Int = then_sound (own.NegateSigned into e.location.register) into e.location.ty from l e h (λ q bs. (refl, tt)) (λ x y. (x, y))
      by Unsigned = then_sound (own.NegateUnsigned into e.location.register) into e.location.ty from l e h (λ q bs. (refl, tt)) (λ x y. (x, y))
      by LongLong = then_sound (own.NegateLong into e.location.register) into e.location.ty from l e h (λ q bs. (refl, tt)) (λ x y. (x, y))

  pub complemented_sound : (into from : ℕ) (l : Lists) (e : Emitted) → Sound from l e → Sound from l (complement e into)
  complemented_sound into from l e h = by e.location.ty
    where
      by : (t : Scalar) → Sound from l (then_one e (complementing t into e.location.register) into e.location.ty)
      by Int = then_sound (own.Complement into e.location.register) into e.location.ty from l e h (λ q bs. (refl, tt)) (λ x y. (x, y))
      by Unsigned = then_sound (own.Complement into e.location.register) into e.location.ty from l e h (λ q bs. (refl, tt)) (λ x y. (x, y))
      by LongLong = then_sound (own.ComplementLong into e.location.register) into e.location.ty from l e h (λ q bs. (refl, tt)) (λ x y. (x, y))

  pub compared_sound : (into free from : ℕ) (l : Lists) (e : Emitted) → Sound from l e → Sound from l (logical_negation e into free)
  compared_sound into free from l e h =
      let rz : ℕ = above free e.location.register in
      let zero : Instr = own.Constant rz 0 in
      let equal : Instr = own.Compute Equal Unsigned into e.location.register rz in
      let lists : Lists = with_register rz e.lists in
      let to_is = h.to_is in
      record {
        to_is = let b : length (e.code ++ zero ∷ equal ∷ []) ≡ length e.code + 2 = length-append e.code (zero ∷ equal ∷ []) in omega (arith, to_is, b);
        grows = grows_used l lists into (grows_used l e.lists rz h.grows);
        location = let x = max_right lists.registers (suc into) in omega (arith, x);
        balanced = balanced_append arguments e.code (zero ∷ equal ∷ []) h.balanced (λ q bs. refl);
        goods = λ o bs k run.
            let inner = fits_before code arguments f.registers lists (with_register into lists) (grows_used lists lists into (grows_same lists)) k in
            let first = fits_before code arguments f.registers e.lists lists (grows_used e.lists e.lists rz (grows_same e.lists)) inner in
            let z = is_register code arguments f.registers e.lists rz inner in
            good_parts code arguments f end o from e.location.to bs e.code (zero ∷ equal ∷ []) h.to_is h.balanced run (h.goods o bs first)
            (λ g. (
              good_on code arguments f end o e.location.to bs zero (equal ∷ []) (λ q bs. (refl, tt)) (z, omega arith) g,
              (
                good_on code arguments f end o (suc e.location.to) bs equal [] (λ q bs. (refl, tt)) (is_register code arguments f.registers lists into k, in_size e.location.register e.lists h.location first, z)
                    (next_run code arguments f end o e.location.to bs zero (equal ∷ []) (λ q bs. refl) g),
                tt,
              ),
            ));
      }

  -- the right side of an operator, which may be preloaded
  pub record OperandSound (from : ℕ) (l : Lists) (e : Emitted) : Type 0 where
    pub to_is : e.location.to ≡ from + length e.code
    pub grows : Grows l e.lists
    pub location : Fits code arguments f.registers e.lists → e.location.register < f.registers
    pub balanced : IsBalanced arguments e.code
    pub goods : (open_at : ℕ → List ℕ) (bs : List ℕ) → Fits code arguments f.registers e.lists → Runs code arguments f end open_at from bs e.code → AreGood code arguments f end open_at from e.code

  computed_sound : (from : ℕ) (l : Lists) (e : Emitted) → Sound from l e → OperandSound from l e
  computed_sound from l e h = record { to_is = h.to_is; grows = h.grows; location = λ k. in_size e.location.register e.lists h.location k; balanced = h.balanced; goods = h.goods }

  pub ready_or_sound : (w : ℕ) (t : Scalar) (from : ℕ) (l : Lists) (e : Emitted) → Sound from l e → OperandSound from l (preloaded_or (preloaded l.layout w t from) l e)
  ready_or_sound w t from l e h = by (preloaded_from l.layout.writable l.layout.constants w) refl
    where
      by : (o : Option ℕ) → preloaded_from l.layout.writable l.layout.constants w ≡ o → OperandSound from l (preloaded_or (option_map (λ r. record { register = r; ty = t; to = from }) o) l e)
      by None n = computed_sound from l e h
      by (Some r) n = record { to_is = omega arith; grows = grows_same l; location = λ k. k.preloaded w r n; balanced = λ q bs. refl; goods = λ o bs k run. tt }

  pub operand_sound : (b : Expr) (s u : Scalar) (from free : ℕ) (l : Lists) (e : Emitted) → Sound from l e → OperandSound from l (preloaded_or (preloaded_constant l.layout u b from) l (in_type s u b e from free l))
  operand_sound (Constant n t at) s u from free l e h =
      ready_or_sound (constant_in u t n) u from l (constant (constant_in u t n) u from free l) (constant_sound (number t (word_of t (pos n))) u from free l)
  operand_sound b s u from free l e h = computed_sound from l (converted_by (converting s u) u e free) (converted_sound s u free from l e h)

  pub both_sound : (op : BinaryOp) (t : Scalar) (into from : ℕ) (l : Lists) (a b : Emitted) → Sound from l a → OperandSound a.location.to a.lists b → Sound from l (both op t a b into)
  both_sound op t into from l a b h g =
      let i : Instr = own.Compute op t into a.location.register b.location.register in
      let two : length (a.code ++ b.code) ≡ length a.code + length b.code = length-append a.code b.code in
      let x = h.to_is in
      let y = g.to_is in
      let last_is : b.location.to ≡ from + length (a.code ++ b.code) = omega (arith, x, y, two) in
      record {
        to_is = let u : length (a.code ++ b.code ++ i ∷ []) ≡ length (a.code ++ b.code) + 1 = length-append (a.code ++ b.code) (i ∷ []) in omega (arith, last_is, u);
        grows = grows_used l b.lists into (grows_further l a.lists b.lists h.grows g.grows);
        location = let z = max_right b.lists.registers (suc into) in omega (arith, z);
        balanced = balanced_append arguments (a.code ++ b.code) (i ∷ []) (balanced_append arguments a.code b.code h.balanced g.balanced) (balanced_one code arguments f end i way);
        goods = λ o bs k run.
            let inner = fits_before code arguments f.registers b.lists (with_register into b.lists) (grows_used b.lists b.lists into (grows_same b.lists)) k in
            let first = fits_before code arguments f.registers a.lists b.lists g.grows inner in
            let there = computing_written op t into a.location.register b.location.register (is_register code arguments f.registers b.lists into k) (in_size a.location.register a.lists h.location first) (g.location inner) in
            good_parts code arguments f end o from b.location.to bs (a.code ++ b.code) (i ∷ []) last_is (balanced_append arguments a.code b.code h.balanced g.balanced) run
            (λ r. good_parts code arguments f end o from a.location.to bs a.code b.code h.to_is h.balanced r (h.goods o bs first) (g.goods o bs inner))
            (λ r. (good_on code arguments f end o b.location.to bs i [] way there r, tt));
      }
    where
      way : GoesOn code arguments f end (instr_of arguments (own.Compute op t into a.location.register b.location.register))
      way = computing_goes op t into a.location.register b.location.register

  -- a condition, up to its jump
  pub record TestSound (from : ℕ) (l : Lists) (c : Condition) : Type 0 where
    pub to_is : c.to ≡ from + length c.code
    pub grows : Grows l c.lists
    pub location : c.register < c.lists.registers
    pub balanced : (true_exit false_exit : ℕ) → IsBalanced arguments (map (instruction_of_draft true_exit false_exit) c.code)
    pub goods : (open_at : ℕ → List ℕ) (bs : List ℕ) → Fits code arguments f.registers c.lists → (true_exit false_exit : ℕ) → Meets code arguments f end open_at (true_exit, bs) → Meets code arguments f end open_at (false_exit, bs) →
        Runs code arguments f end open_at from bs (map (instruction_of_draft true_exit false_exit) c.code) → AreGood code arguments f end open_at from (map (instruction_of_draft true_exit false_exit) c.code)

  value_sound : (from : ℕ) (l : Lists) (e : Emitted) → Sound from l e → TestSound from l (by_value e.code e.lists e.location)
  value_sound from l e h = record {
    to_is = let x = h.to_is in let y : length (map draft.Whole e.code) ≡ length e.code = length-map e.code draft.Whole in omega (arith, x, y);
    grows = h.grows;
    location = h.location;
    balanced = λ true_exit false_exit. subst (IsBalanced arguments) (sym (whole_are true_exit false_exit e.code)) h.balanced;
    goods = λ o bs k true_exit false_exit m u run. subst (AreGood code arguments f end o from) (sym (whole_are true_exit false_exit e.code)) (h.goods o bs k (subst (Runs code arguments f end o from bs) (whole_are true_exit false_exit e.code) run));
  }

  pub opposite_sound : (from : ℕ) (l : Lists) (c : Condition) → TestSound from l c → TestSound from l (opposite c)
  opposite_sound from l c h = record {
    to_is = let x = h.to_is in let y : length (map opposite_draft c.code) ≡ length c.code = length-map c.code opposite_draft in omega (arith, x, y);
    grows = h.grows;
    location = h.location;
    balanced = λ true_exit false_exit. subst (IsBalanced arguments) (sym (turned_are true_exit false_exit c.code)) (h.balanced false_exit true_exit);
    goods = λ o bs k true_exit false_exit m u run. subst (AreGood code arguments f end o from) (sym (turned_are true_exit false_exit c.code)) (h.goods o bs k false_exit true_exit u m (subst (Runs code arguments f end o from bs) (turned_are true_exit false_exit c.code) run));
  }

  good_if : (open_at : ℕ → List ℕ) (zero : Bool) (q : ℕ) (bs : List ℕ) (a there : ℕ) (is : List Instr) → a < f.registers → Meets code arguments f end open_at (there, bs) → Runs code arguments f end open_at q bs (jump_if zero a there ∷ is) →
      IsGood code arguments f end open_at q (instr_of arguments (jump_if zero a there))
  good_if o true q bs a there is h m r = good_zero code arguments f end o q bs a there is h m r
  good_if o false q bs a there is h m r = good_nonzero code arguments f end o q bs a there is h m r

  good_if_not : (open_at : ℕ → List ℕ) (zero : Bool) (q : ℕ) (bs : List ℕ) (a there : ℕ) (is : List Instr) → a < f.registers → Meets code arguments f end open_at (there, bs) → Runs code arguments f end open_at q bs (jump_if_not zero a there ∷ is) →
      IsGood code arguments f end open_at q (instr_of arguments (jump_if_not zero a there))
  good_if_not o true q bs a there is h m r = good_nonzero code arguments f end o q bs a there is h m r
  good_if_not o false q bs a there is h m r = good_zero code arguments f end o q bs a there is h m r

  balanced_if : (zero : Bool) (a there : ℕ) → IsBalanced arguments (jump_if zero a there ∷ [])
  balanced_if true a there = λ q bs. refl
  balanced_if false a there = λ q bs. refl

  balanced_if_not : (zero : Bool) (a there : ℕ) → IsBalanced arguments (jump_if_not zero a there ∷ [])
  balanced_if_not true a there = λ q bs. refl
  balanced_if_not false a there = λ q bs. refl

  -- a condition with its jump
  module _ (from : ℕ) (l : Lists) (c : Condition) (h : TestSound from l c) where
    at_jump : (true_exit false_exit : ℕ) → c.to ≡ from + length (map (instruction_of_draft true_exit false_exit) c.code)
    at_jump true_exit false_exit = let x = h.to_is in let y = completed_length true_exit false_exit c.code in omega (arith, x, y)

    pub test_on_is : (false_exit : ℕ) → c.to + 1 ≡ from + length (going_on c.code (test_in c) false_exit)
    test_on_is false_exit = let x = h.to_is in let y = on_length c.code (test_in c) false_exit in omega (arith, x, y)

    pub test_back_is : (true_exit : ℕ) → c.to + 1 ≡ from + length (going_back c.code (test_in c) true_exit)
    test_back_is true_exit = let x = h.to_is in let y = back_length c.code (test_in c) true_exit in omega (arith, x, y)

    pub on_balanced : (false_exit : ℕ) → IsBalanced arguments (going_on c.code (test_in c) false_exit)
    on_balanced false_exit = balanced_append arguments (map (instruction_of_draft (c.to + 1) false_exit) c.code) (jump_if_not c.at_zero c.register false_exit ∷ []) (h.balanced (c.to + 1) false_exit) (balanced_if_not c.at_zero c.register false_exit)

    pub back_balanced : (true_exit : ℕ) → IsBalanced arguments (going_back c.code (test_in c) true_exit)
    back_balanced true_exit = balanced_append arguments (map (instruction_of_draft true_exit (c.to + 1)) c.code) (jump_if c.at_zero c.register true_exit ∷ []) (h.balanced true_exit (c.to + 1)) (balanced_if c.at_zero c.register true_exit)

    module _ (open_at : ℕ → List ℕ) (bs : List ℕ) (k : Fits code arguments f.registers c.lists) (there : ℕ) (m : Meets code arguments f end open_at (there, bs)) where
      pub going_on_good : Runs code arguments f end open_at from bs (going_on c.code (test_in c) there) → AreGood code arguments f end open_at from (going_on c.code (test_in c) there)
      going_on_good run =
          let test : List Instr = map (instruction_of_draft (c.to + 1) there) c.code in
          let jump : Instr = jump_if_not c.at_zero c.register there in
          let next = meets_out code arguments f end open_at (c.to + 1) from bs (going_on c.code (test_in c) there) (test_on_is there) run in
          good_parts code arguments f end open_at from c.to bs test (jump ∷ []) (at_jump (c.to + 1) there) (h.balanced (c.to + 1) there) run (h.goods open_at bs k (c.to + 1) there next m)
          (λ r. (good_if_not open_at c.at_zero c.to bs c.register there [] (in_size c.register c.lists h.location k) m r, tt))

      pub going_back_good : Runs code arguments f end open_at from bs (going_back c.code (test_in c) there) → AreGood code arguments f end open_at from (going_back c.code (test_in c) there)
      going_back_good run =
          let test : List Instr = map (instruction_of_draft there (c.to + 1)) c.code in
          let jump : Instr = jump_if c.at_zero c.register there in
          let next = meets_out code arguments f end open_at (c.to + 1) from bs (going_back c.code (test_in c) there) (test_back_is there) run in
          good_parts code arguments f end open_at from c.to bs test (jump ∷ []) (at_jump there (c.to + 1)) (h.balanced there (c.to + 1)) run (h.goods open_at bs k there (c.to + 1) m next)
          (λ r. (good_if open_at c.at_zero c.to bs c.register there [] (in_size c.register c.lists h.location k) m r, tt))

  -- two conditions, one behind the other
  pub joined_sound : (op : LogicalOp) (from : ℕ) (l : Lists) (a b : Condition) → TestSound from l a → TestSound (a.to + 1) a.lists b → TestSound from l (logical_condition op a b)
  joined_sound op from l a b h g =
      let x = h.to_is in
      let y = g.to_is in
      let z = first_length op a in
      record {
        to_is = let u : length (first_of op a ++ b.code) ≡ length (first_of op a) + length b.code = length-append (first_of op a) b.code in omega (arith, x, y, z, u);
        grows = grows_further l a.lists b.lists h.grows g.grows;
        location = g.location;
        balanced = λ true_exit false_exit.
            subst (IsBalanced arguments) (sym (map-append (instruction_of_draft true_exit false_exit) (first_of op a) b.code))
            (balanced_append arguments (map (instruction_of_draft true_exit false_exit) (first_of op a)) (map (instruction_of_draft true_exit false_exit) b.code) (first_balanced op true_exit false_exit) (g.balanced true_exit false_exit));
        goods = λ o bs k true_exit false_exit m u run.
            let first : List Instr = map (instruction_of_draft true_exit false_exit) (first_of op a) in
            let second : List Instr = map (instruction_of_draft true_exit false_exit) b.code in
            let apart = map-append (instruction_of_draft true_exit false_exit) (first_of op a) b.code in
            let mid_is : a.to + 1 ≡ from + length first = (let v = completed_length true_exit false_exit (first_of op a) in omega (arith, x, z, v)) in
            subst (AreGood code arguments f end o from) (sym apart)
            (good_parts code arguments f end o from (a.to + 1) bs first second mid_is (first_balanced op true_exit false_exit) (subst (Runs code arguments f end o from bs) apart run)
            (by op o bs (fits_before code arguments f.registers a.lists b.lists g.grows k) true_exit false_exit m u) (g.goods o bs k true_exit false_exit m u));
      }
    where
      first_balanced : (op : LogicalOp) (true_exit false_exit : ℕ) → IsBalanced arguments (map (instruction_of_draft true_exit false_exit) (first_of op a))
      first_balanced AndThen true_exit false_exit = subst (IsBalanced arguments) (sym (first_and true_exit false_exit a)) (on_balanced from l a h false_exit)
      first_balanced OrElse true_exit false_exit = subst (IsBalanced arguments) (sym (first_or true_exit false_exit a)) (back_balanced from l a h true_exit)

      by : (op : LogicalOp) (o : ℕ → List ℕ) (bs : List ℕ) → Fits code arguments f.registers a.lists → (true_exit false_exit : ℕ) → Meets code arguments f end o (true_exit, bs) → Meets code arguments f end o (false_exit, bs) →
          Runs code arguments f end o from bs (map (instruction_of_draft true_exit false_exit) (first_of op a)) → AreGood code arguments f end o from (map (instruction_of_draft true_exit false_exit) (first_of op a))
      by AndThen o bs k true_exit false_exit m u run =
          subst (AreGood code arguments f end o from) (sym (first_and true_exit false_exit a)) (going_on_good from l a h o bs k false_exit u (subst (Runs code arguments f end o from bs) (first_and true_exit false_exit a) run))
      by OrElse o bs k true_exit false_exit m u run =
          subst (AreGood code arguments f end o from) (sym (first_or true_exit false_exit a)) (going_back_good from l a h o bs k true_exit m (subst (Runs code arguments f end o from bs) (first_or true_exit false_exit a) run))

  pub tested_sound : (from : ℕ) (l : Lists) (o : Option Condition) (e : Emitted) → IfSome o (TestSound from l) → Sound from l e → TestSound from l (condition_of o e)
  tested_sound from l None e h g = value_sound from l e g
  tested_sound from l (Some c) e h g = h

  pub zero_sound : (o : Option Bool) (from : ℕ) (l : Lists) (c : Condition) → TestSound from l c → IfSome (zero_tested o c) (TestSound from l)
  zero_sound None from l c h = tt
  zero_sound (Some true) from l c h = opposite_sound from l c h
  zero_sound (Some false) from l c h = h

  pub answered_sound : (into from : ℕ) (l : Lists) (c : Condition) → TestSound from l c → Sound from l (condition_value c into)
  answered_sound into from l c h =
      let long : Instr = own.Constant into 1 in
      let skip : Instr = own.Jump (c.to + 4) in
      let short : Instr = own.Constant into 0 in
      let tail : List Instr = long ∷ skip ∷ short ∷ [] in
      let head : List Instr = going_on c.code (test_in c) (c.to + 3) in
      let next = test_on_is from l c h (c.to + 3) in
      let x = h.to_is in
      record {
        to_is = let u : length (head ++ tail) ≡ length head + 3 = length-append head tail in omega (arith, next, u);
        grows = grows_used l c.lists into h.grows;
        location = let z = max_right c.lists.registers (suc into) in omega (arith, z);
        balanced = balanced_append arguments head tail (on_balanced from l c h (c.to + 3)) (λ q bs. refl);
        goods = λ o bs k run.
            let inner = fits_before code arguments f.registers c.lists (with_register into c.lists) (grows_used c.lists c.lists into (grows_same c.lists)) k in
            let here = is_register code arguments f.registers c.lists into k in
            let two = parted code arguments f end o from (c.to + 1) bs head tail next (on_balanced from l c h (c.to + 3)) run in
            let at_skip = next_run code arguments f end o (c.to + 1) bs long (skip ∷ short ∷ []) (λ q bs. refl) two.1 in
            let at_short = next_run code arguments f end o (suc (c.to + 1)) bs skip (short ∷ []) (λ q bs. refl) at_skip in
            let there = meets_first code arguments f end o (c.to + 3) (suc (suc (c.to + 1))) bs (short ∷ []) (omega arith) at_short in
            let out = meets_out code arguments f end o (c.to + 4) (suc (suc (c.to + 1))) bs (short ∷ []) (omega arith) at_short in
            good_append code arguments f end o from (c.to + 1) head tail next (going_on_good from l c h o bs inner (c.to + 3) there two.0) (
              good_on code arguments f end o (c.to + 1) bs long (skip ∷ short ∷ []) (λ q bs. (refl, tt)) (here, omega arith) two.1,
              (
                good_jump code arguments f end o (suc (c.to + 1)) bs (c.to + 4) (short ∷ []) out at_skip,
                (good_on code arguments f end o (suc (suc (c.to + 1))) bs short [] (λ q bs. (refl, tt)) (here, omega arith) at_short, tt),
              ),
            );
      }

  pub into_sound : (r from : ℕ) (l : Lists) (e : Emitted) → Sound from l e → Sound from l (value_into r e)
  into_sound r from l e h = by (e.location.register == r)
    where
      by : (b : Bool) → Sound from l (if b then e else then_one e (own.Move r e.location.register) r e.location.ty)
      by true = h
      by false = then_sound (own.Move r e.location.register) r e.location.ty from l e h (λ q bs. (refl, tt)) (λ x y. (x, y))

  pub chosen_sound : (t : Scalar) (into from : ℕ) (l : Lists) (c : Condition) (a b : Emitted) → TestSound from l c → Sound (c.to + 1) c.lists a → Sound (a.location.to + 1) a.lists b → b.location.register ≡ into → Sound from l (conditional_value t c a b into)
  chosen_sound t into from l c a b h g w same =
      let test : List Instr = going_on c.code (test_in c) (a.location.to + 1) in
      let skip : Instr = own.Jump b.location.to in
      let head : List Instr = test ++ a.code in
      let two : length head ≡ length test + length a.code = length-append test a.code in
      let next = test_on_is from l c h (a.location.to + 1) in
      let x = h.to_is in
      let y = g.to_is in
      let z = w.to_is in
      let last_is : a.location.to ≡ from + length head = omega (arith, next, y, two) in
      let head_balanced = balanced_append arguments test a.code (on_balanced from l c h (a.location.to + 1)) g.balanced in
      record {
        to_is = let u : length (head ++ skip ∷ b.code) ≡ length head + length (skip ∷ b.code) = length-append head (skip ∷ b.code) in omega (arith, last_is, z, u);
        grows = grows_further l c.lists b.lists h.grows (grows_further c.lists a.lists b.lists g.grows w.grows);
        location = let e = w.location in omega (arith, e, same);
        balanced = balanced_append arguments head (skip ∷ b.code) head_balanced (balanced_append arguments (skip ∷ []) b.code (λ q bs. refl) w.balanced);
        goods = λ o bs k run.
            let fa = fits_before code arguments f.registers a.lists b.lists w.grows k in
            let fc = fits_before code arguments f.registers c.lists a.lists g.grows fa in
            let second : a.location.to + 1 ≡ a.location.to + length (skip ∷ []) = omega arith in
            let behind_head = (parted code arguments f end o from a.location.to bs head (skip ∷ b.code) last_is head_balanced run).1 in
            let behind_skip = (parted code arguments f end o a.location.to (a.location.to + 1) bs (skip ∷ []) b.code second (λ q bs. refl) behind_head).1 in
            let other = meets_first code arguments f end o (a.location.to + 1) (a.location.to + 1) bs b.code refl behind_skip in
            let out = meets_out code arguments f end o b.location.to (a.location.to + 1) bs b.code z behind_skip in
            good_parts code arguments f end o from a.location.to bs head (skip ∷ b.code) last_is head_balanced run
            (λ r. good_parts code arguments f end o from (c.to + 1) bs test a.code next (on_balanced from l c h (a.location.to + 1)) r (going_on_good from l c h o bs fc (a.location.to + 1) other) (g.goods o bs fa))
            (λ r. good_parts code arguments f end o a.location.to (a.location.to + 1) bs (skip ∷ []) b.code second (λ q bs. refl) r (λ j. (good_jump code arguments f end o a.location.to bs b.location.to [] out j, tt)) (w.goods o bs k));
      }

  -- the values of a call's arguments
  pub record AllSound (from : ℕ) (l : Lists) (e : AllEmitted) : Type 0 where
    pub to_is : e.to ≡ from + length e.code
    pub grows : Grows l e.lists
    pub location : AreBelow e.lists.registers e.registers
    pub balanced : IsBalanced arguments e.code
    pub goods : (open_at : ℕ → List ℕ) (bs : List ℕ) → Fits code arguments f.registers e.lists → Runs code arguments f end open_at from bs e.code → AreGood code arguments f end open_at from e.code

  pub followed_sound : (from : ℕ) (l : Lists) (e : Emitted) (es : AllEmitted) → Sound from l e → AllSound e.location.to e.lists es → AllSound from l (with_argument e es)
  followed_sound from l e es h g =
      let x = h.to_is in
      let y = g.to_is in
      record {
        to_is = let u : length (e.code ++ es.code) ≡ length e.code + length es.code = length-append e.code es.code in omega (arith, x, y, u);
        grows = grows_further l e.lists es.lists h.grows g.grows;
        location = (let a = h.location in let b = g.grows.registers in omega (arith, a, b), g.location);
        balanced = balanced_append arguments e.code es.code h.balanced g.balanced;
        goods = λ o bs k run.
            good_parts code arguments f end o from e.location.to bs e.code es.code h.to_is h.balanced run (h.goods o bs (fits_before code arguments f.registers e.lists es.lists g.grows k)) (g.goods o bs k);
      }

  pub called_sound : (c : Callee) (into from : ℕ) (l : Lists) (args : AllEmitted) → AllSound from l args → length args.registers ≡ length c.parameters → Takes code c.number (length c.parameters) → Sound from l (call_code (Some c) args from into l)
  called_sound c into from l args h many takes =
      let made : List ℕ = args.lists.arguments in
      let handed : List ℕ = argument_order c.parameters args.registers in
      let i : Instr = own.Call into (length handed) c.number (length made) in
      let more : Lists = record args.lists { arguments = made ++ handed } in
      let lists : Lists = with_registers (length handed) more in
      let grows_more : Grows args.lists more = record { arguments = front_more made handed; texts = front_same args.lists.texts; registers = omega arith; layout = refl } in
      let grows_lists : Grows more lists = record { arguments = front_same (made ++ handed); texts = front_same args.lists.texts; registers = max_left args.lists.registers (length handed); layout = refl } in
      let all : Grows args.lists (with_register into lists) = grows_used args.lists lists into (grows_further args.lists more lists grows_more grows_lists) in
      let to_is = h.to_is in
      record {
        to_is = let b : length (args.code ++ i ∷ []) ≡ length args.code + 1 = length-append args.code (i ∷ []) in omega (arith, to_is, b);
        grows = grows_further l args.lists (with_register into lists) h.grows all;
        location = let x = max_right lists.registers (suc into) in omega (arith, x);
        balanced = balanced_append arguments args.code (i ∷ []) h.balanced (λ q bs. refl);
        goods = λ o bs k run.
            let first = fits_before code arguments f.registers args.lists (with_register into lists) all k in
            let same : instr_of arguments i ≡ Plain.Call c.number into handed = ap (λ xs. Plain.Call c.number into xs) (handed_over arguments made handed k.arguments.0 k.arguments.1) in
            let below : AreBelow f.registers handed = arranged_below f.registers c.parameters args.registers (below_more args.lists.registers f.registers args.registers (size_of args.lists first) h.location) in
            let takes_them : Takes code c.number (length handed) = subst (Takes code c.number) (sym (arranged_length c.parameters args.registers many)) takes in
            good_parts code arguments f end o from args.to bs args.code (i ∷ []) h.to_is h.balanced run (h.goods o bs first)
            (λ r. (good_on code arguments f end o args.to bs i [] (λ q bs. (refl, tt)) (subst (IsWritten code f end) (sym same) (is_register code arguments f.registers lists into k, below, takes_them)) r, tt));
      }
