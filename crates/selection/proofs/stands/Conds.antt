-- What is picked for a condition decides it, part by part.
use Rattle.std.proofs.Common.{◌≡◌, refl, subst, ◌∙◌, ℕ, zero, suc, ◌+◌, List, [], ◌∷◌, ◌++◌, length, map, arith, Option, Some, None, Bool, true, false, inl, inr}
use Rattle.std.specs.Prelude.{if◌then◌else◌}
use Rattle.std.specs.Option.{IfSome}
use Rattle.std.proofs.lemmas.List.{length-append, length-map, map-append}
use Rattle.lex.specs.declared.token.Scalar.{Scalar}
use Rattle.lex.specs.declared.token.Scalar.TheVariants.{Int}
use Rattle.syntax.specs.declared.tree.BinaryOp.{BinaryOp}
use Rattle.syntax.specs.declared.tree.BinaryOp.TheVariants.{Equal, NotEqual}
use Rattle.syntax.specs.declared.tree.LogicalOp.{LogicalOp}
use Rattle.syntax.specs.declared.tree.LogicalOp.TheVariants.{AndThen, OrElse}
use Rattle.syntax.specs.Tree.{Expr, Constant}
use Rattle.bytecode.specs.declared.instr.Instr.{Instr}
use Rattle.bytecode.specs.declared.instr.Instr.TheVariants as own
use Rattle.bytecode.specs.Code.{Code}
use Rattle.bytecode.specs.Views.{instr_of}
use Rattle.lower_spec.specs.Expressions.{Coded, Layout, Branching, InstructionAt, LeadsTo, MayTake, Branches, BothHold, EitherHolds, IsZeroConstant, ComparedWithZero, TruthCode, ConditionalCode}
use Rattle.selection.specs.declared.draft.Draft.TheVariants as draft
use Rattle.selection.specs.Lists.{Lists, with_register}
use Rattle.selection.specs.Conditions.{Condition, test_in, jump_if, jump_if_not, instruction_of_draft, going_on, going_back, opposite_draft, by_value, opposite, first_of, logical_condition, is_zero_constant, zero_test, zero_tested}
use Rattle.selection.specs.Expressions.{Emitted, condition_value, conditional_value, condition_of}
use Rattle.selection.proofs.Drafted.{opposite_if, opposite_if_not, whole_are, turned_are, first_and, first_or, completed_length, on_length, back_length, first_length}
use Rattle.selection.proofs.stands.Standing.{Stand, front, behind, Grows, grows_same, grows_further, grows_used, Fits, fits_before, is_register, given}
use Rattle.selection.proofs.stands.Emitting.{Emits}

nought : (e : Expr) → is_zero_constant e ≡ true → IsZeroConstant e
nought (Constant zero t at) h = (t, at, refl)
nought e h = absurd (cc)

module _ (code : Code) (arguments : List ℕ) (layout : Layout) where
  -- a condition, and a jump behind it that is taken where it holds, or where it does not
  pub record Decides (T : Branching) (from free : ℕ) (l : Lists) (c : Condition) : Type 0 where
    pub to_is : c.to ≡ from + length c.code
    pub grows : Grows l c.lists
    pub holds : Fits code arguments layout c.lists → (there on : ℕ) → Stand code arguments from (map (instruction_of_draft there on) c.code) →
        InstructionAt code c.to (instr_of arguments (jump_if c.at_zero c.register there)) → LeadsTo code (suc c.to) on → T from there on free
    pub fails : Fits code arguments layout c.lists → (there on : ℕ) → Stand code arguments from (map (instruction_of_draft on there) c.code) →
        InstructionAt code c.to (instr_of arguments (jump_if_not c.at_zero c.register there)) → LeadsTo code (suc c.to) on → T from on there free

  value_decides : (A : Coded) (B : Branching) (from free : ℕ) (l : Lists) (e : Emitted) → Emits code arguments layout A from free l e → Decides (Branches code layout A B) from free l (by_value e.code e.lists e.location)
  value_decides A B from free l e h = record {
    to_is = let x = h.to_is in let y : length (map draft.Whole e.code) ≡ length e.code = length-map e.code draft.Whole in omega (arith, x, y);
    grows = h.grows;
    holds = λ f there on st at leads. inr (inl (record { mid = e.location.to; r = e.location.register; t = e.location.ty; computes = h.stands f (subst (Stand code arguments from) (whole_are there on e.code) st); jumps = at; leads = leads }));
    fails = λ f there on st at leads. inl (record { mid = e.location.to; r = e.location.register; t = e.location.ty; computes = h.stands f (subst (Stand code arguments from) (whole_are on there e.code) st); jumps = at; leads = leads });
  }

  -- the same in other words, and the other way round
  pub same_decides : (T U : Branching) (from free : ℕ) (l : Lists) (c : Condition) → ((true_exit false_exit : ℕ) → T from true_exit false_exit free → U from true_exit false_exit free) → Decides T from free l c → Decides U from free l c
  same_decides T U from free l c make h = record {
    to_is = h.to_is;
    grows = h.grows;
    holds = λ f there on st at leads. make there on (h.holds f there on st at leads);
    fails = λ f there on st at leads. make on there (h.fails f there on st at leads);
  }

  pub opposite_decides : (T U : Branching) (from free : ℕ) (l : Lists) (c : Condition) → ((true_exit false_exit : ℕ) → T from false_exit true_exit free → U from true_exit false_exit free) → Decides T from free l c → Decides U from free l (opposite c)
  opposite_decides T U from free l c make h = record {
    to_is = let x = h.to_is in let y : length (map opposite_draft c.code) ≡ length c.code = length-map c.code opposite_draft in omega (arith, x, y);
    grows = h.grows;
    holds = λ f there on st at leads. make there on
        (h.fails f there on (subst (Stand code arguments from) (turned_are there on c.code) st) (subst (λ i. InstructionAt code c.to (instr_of arguments i)) (opposite_if c.at_zero c.register there) at) leads);
    fails = λ f there on st at leads. make on there
        (h.holds f there on (subst (Stand code arguments from) (turned_are on there c.code) st) (subst (λ i. InstructionAt code c.to (instr_of arguments i)) (opposite_if_not c.at_zero c.register there) at) leads);
  }

  -- a condition with its jump
  module _ (T : Branching) (from free : ℕ) (l : Lists) (c : Condition) (h : Decides T from free l c) where
    at_jump : (m u : ℕ) → c.to ≡ from + length (map (instruction_of_draft m u) c.code)
    at_jump m u = let x = h.to_is in let y = completed_length m u c.code in omega (arith, x, y)

    pub on_is : (false_exit : ℕ) → c.to + 1 ≡ from + length (going_on c.code (test_in c) false_exit)
    on_is false_exit = let x = h.to_is in let y = on_length c.code (test_in c) false_exit in omega (arith, x, y)

    pub back_is : (true_exit : ℕ) → c.to + 1 ≡ from + length (going_back c.code (test_in c) true_exit)
    back_is true_exit = let x = h.to_is in let y = back_length c.code (test_in c) true_exit in omega (arith, x, y)

    pub goes_on : Fits code arguments layout c.lists → (false_exit : ℕ) → Stand code arguments from (going_on c.code (test_in c) false_exit) → T from (c.to + 1) false_exit free
    goes_on f false_exit st =
        let own_code : List Instr = map (instruction_of_draft (c.to + 1) false_exit) c.code in
        let jump : Instr = jump_if_not c.at_zero c.register false_exit in
        h.fails f false_exit (c.to + 1) (front code arguments from own_code (jump ∷ []) st) (behind code arguments from c.to own_code (jump ∷ []) (at_jump (c.to + 1) false_exit) st).0 (inl (omega arith))

    pub goes_back : Fits code arguments layout c.lists → (true_exit : ℕ) → Stand code arguments from (going_back c.code (test_in c) true_exit) → T from true_exit (c.to + 1) free
    goes_back f true_exit st =
        let own_code : List Instr = map (instruction_of_draft true_exit (c.to + 1)) c.code in
        let jump : Instr = jump_if c.at_zero c.register true_exit in
        h.holds f true_exit (c.to + 1) (front code arguments from own_code (jump ∷ []) st) (behind code arguments from c.to own_code (jump ∷ []) (at_jump true_exit (c.to + 1)) st).0 (inl (omega arith))

  -- two conditions, one behind the other
  module _ (A B : Branching) (from free : ℕ) (l : Lists) (a b : Condition) (h : Decides A from free l a) (g : Decides B (a.to + 1) free a.lists b) where
    joined_to_is : (op : LogicalOp) → b.to ≡ from + length (first_of op a ++ b.code)
    joined_to_is op =
        let x = h.to_is in let y = g.to_is in let z = first_length op a in
        let u : length (first_of op a ++ b.code) ≡ length (first_of op a) + length b.code = length-append (first_of op a) b.code in
        omega (arith, x, y, z, u)

    abbrev first_fits : Fits code arguments layout b.lists → Fits code arguments layout a.lists
    first_fits f = fits_before code arguments layout a.lists b.lists g.grows f

    and_parts : (m u : ℕ) → Stand code arguments from (map (instruction_of_draft m u) (first_of AndThen a ++ b.code)) → Stand code arguments from (going_on a.code (test_in a) u) × Stand code arguments (a.to + 1) (map (instruction_of_draft m u) b.code)
    and_parts m u st =
        let one : List Instr = going_on a.code (test_in a) u in
        let two : List Instr = map (instruction_of_draft m u) b.code in
        let both = subst (Stand code arguments from) (map-append (instruction_of_draft m u) (first_of AndThen a) b.code ∙ (λ j. first_and m u a j ++ two)) st in
        (front code arguments from one two both, behind code arguments from (a.to + 1) one two (on_is A from free l a h u) both)

    or_parts : (m u : ℕ) → Stand code arguments from (map (instruction_of_draft m u) (first_of OrElse a ++ b.code)) → Stand code arguments from (going_back a.code (test_in a) m) × Stand code arguments (a.to + 1) (map (instruction_of_draft m u) b.code)
    or_parts m u st =
        let one : List Instr = going_back a.code (test_in a) m in
        let two : List Instr = map (instruction_of_draft m u) b.code in
        let both = subst (Stand code arguments from) (map-append (instruction_of_draft m u) (first_of OrElse a) b.code ∙ (λ j. first_or m u a j ++ two)) st in
        (front code arguments from one two both, behind code arguments from (a.to + 1) one two (back_is A from free l a h m) both)

    pub and_decides : Decides (BothHold code layout A B) from free l (logical_condition AndThen a b)
    and_decides = record {
      to_is = joined_to_is AndThen;
      grows = grows_further l a.lists b.lists h.grows g.grows;
      holds = λ f there on st at leads.
          let parts = and_parts there on st in
          record { mid = a.to + 1; first = goes_on A from free l a h (first_fits f) on parts.0; second = g.holds f there on parts.1 at leads };
      fails = λ f there on st at leads.
          let parts = and_parts on there st in
          record { mid = a.to + 1; first = goes_on A from free l a h (first_fits f) there parts.0; second = g.fails f there on parts.1 at leads };
    }

    pub or_decides : Decides (EitherHolds code layout A B) from free l (logical_condition OrElse a b)
    or_decides = record {
      to_is = joined_to_is OrElse;
      grows = grows_further l a.lists b.lists h.grows g.grows;
      holds = λ f there on st at leads.
          let parts = or_parts there on st in
          record { mid = a.to + 1; first = goes_back A from free l a h (first_fits f) there parts.0; second = g.holds f there on parts.1 at leads };
      fails = λ f there on st at leads.
          let parts = or_parts on there st in
          record { mid = a.to + 1; first = goes_back A from free l a h (first_fits f) on parts.0; second = g.fails f there on parts.1 at leads };
    }

  -- a condition by its operator, or else by its value
  pub tested_decides : (A : Coded) (B : Branching) (from free : ℕ) (l : Lists) (o : Option Condition) (e : Emitted) → IfSome o (Decides B from free l) → Emits code arguments layout A from free l e →
      Decides (Branches code layout A B) from free l (condition_of o e)
  tested_decides A B from free l None e h g = value_decides A B from free l e g
  tested_decides A B from free l (Some c) e h g = same_decides B (Branches code layout A B) from free l c (λ true_exit false_exit t. inr (inr t)) h

  -- a comparison with 0
  pub zero_decides : (op : BinaryOp) (b : Expr) (A : Branching) (T : Branching) (from free : ℕ) (l : Lists) (other : Condition) → Decides A from free l other →
      ((true_exit false_exit : ℕ) → ComparedWithZero code layout op b A from true_exit false_exit free → T from true_exit false_exit free) → IfSome (zero_tested (zero_test op b) other) (Decides T from free l)
  zero_decides Equal b A T from free l other h make = by (is_zero_constant b) refl
    where
      by : (n : Bool) → is_zero_constant b ≡ n → IfSome (zero_tested (if n then Some true else None) other) (Decides T from free l)
      by true n = opposite_decides A T from free l other (λ true_exit false_exit t. make true_exit false_exit (nought b n, inr (refl, t))) h
      by false n = tt
  zero_decides NotEqual b A T from free l other h make = by (is_zero_constant b) refl
    where
      by : (n : Bool) → is_zero_constant b ≡ n → IfSome (zero_tested (if n then Some false else None) other) (Decides T from free l)
      by true n = same_decides A T from free l other (λ true_exit false_exit t. make true_exit false_exit (nought b n, inl (refl, t))) h
      by false n = tt
  zero_decides op b A T from free l other h make = tt

  -- a condition, and the answers behind it
  pub answered_emits : (home : Option ℕ) (T : Branching) (from free into : ℕ) (l : Lists) (c : Condition) → Decides T from free l c → MayTake home free into → Emits code arguments layout (TruthCode code layout home T) from free l (condition_value c into)
  answered_emits home T from free into l c h m =
      let head : List Instr = going_on c.code (test_in c) (c.to + 3) in
      let long : Instr = own.Constant into 1 in
      let skip : Instr = own.Jump (c.to + 4) in
      let short : Instr = own.Constant into 0 in
      let tail : List Instr = long ∷ skip ∷ short ∷ [] in
      let next = on_is T from free l c h (c.to + 3) in
      record {
        to_is = let u : length (head ++ tail) ≡ length head + 3 = length-append head tail in omega (arith, next, u);
        grows = grows_used l c.lists into h.grows;
        stands = λ f st.
            let first = front code arguments from head tail st in
            let rest = behind code arguments from (c.to + 1) head tail next st in
            let register = is_register code arguments layout c.lists into f in
            record {
              true_exit = c.to + 1;
              false_exit = c.to + 3;
              decides = goes_on T from free l c h (fits_before code arguments layout c.lists (with_register into c.lists) (grows_used c.lists c.lists into (grows_same c.lists)) f) (c.to + 3) first;
              gives_one = given code arguments layout home long Int (c.to + 1) (suc (c.to + 1)) free into refl m register rest.0;
              one_leads = inr rest.1.0;
              gives_zero = given code arguments layout home short Int (c.to + 3) (suc (c.to + 3)) free into refl m register (subst (λ q. InstructionAt code q (instr_of arguments short)) (omega arith) rest.1.1.0);
              zero_leads = inl (omega arith);
            };
      }

  -- a condition, and one of two values
  pub chosen_emits : (home : Option ℕ) (T : Branching) (A B : Coded) (t : Scalar) (from into free : ℕ) (l : Lists) (c : Condition) (a b : Emitted) →
      Decides T from free l c → Emits code arguments layout (λ from to free r x. A from to free into t) (c.to + 1) free c.lists a
      → Emits code arguments layout (λ from to free r x. B from to free into t) (a.location.to + 1) free a.lists b →
      Emits code arguments layout (ConditionalCode code layout home T A B) from free l (conditional_value t c a b into)
  chosen_emits home T A B t from into free l c a b h g k =
      let test : List Instr = going_on c.code (test_in c) (a.location.to + 1) in
      let skip : Instr = own.Jump b.location.to in
      let head : List Instr = test ++ a.code in
      let next = on_is T from free l c h (a.location.to + 1) in
      let two : length head ≡ length test + length a.code = length-append test a.code in
      let last_is : a.location.to ≡ from + length head = (let y = g.to_is in omega (arith, next, y, two)) in
      record {
        to_is = let z = k.to_is in let u : length (head ++ skip ∷ b.code) ≡ length head + length (skip ∷ b.code) = length-append head (skip ∷ b.code) in omega (arith, last_is, z, u);
        grows = grows_further l c.lists b.lists h.grows (grows_further c.lists a.lists b.lists g.grows k.grows);
        stands = λ f st.
            let first = front code arguments from head (skip ∷ b.code) st in
            let rest = behind code arguments from a.location.to head (skip ∷ b.code) last_is st in
            let fa = fits_before code arguments layout a.lists b.lists k.grows f in
            record {
              true_exit = c.to + 1;
              false_exit = a.location.to + 1;
              last = a.location.to;
              end = b.location.to;
              tests = goes_on T from free l c h (fits_before code arguments layout c.lists a.lists g.grows fa) (a.location.to + 1) (front code arguments from test a.code first);
              then_code = g.stands fa (behind code arguments from (c.to + 1) test a.code next first);
              then_leads = inr rest.0;
              else_code = k.stands f (subst (λ q. Stand code arguments q b.code) (omega arith) rest.1);
              else_leads = inl refl;
            };
      }
