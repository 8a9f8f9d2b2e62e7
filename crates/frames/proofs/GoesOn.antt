-- An instruction that opens no begin and closes none leaves the begins that are open as they are.
use Rattle.std.proofs.Common.{◌≡◌, ℕ, suc, ◌+◌, ◌-◌, ◌<◌, ◌^◌, Bool, true, false, List, [], ◌∷◌, ◌++◌, length, map, Option, Some, None, Result, Ok, Err, refl, sym, ap, ◌∙◌, subst, arith, length-append}
use Rattle.std.specs.Prelude.{slice_get, slice_index, slice_set, replicate, if◌then◌else◌, nat_lt, ◌==◌, IfOk}
use Rattle.std.proofs.lemmas.Bool.{ltb-true}
use Rattle.std.proofs.lemmas.List.{length-set, length-map, length-replicate}
use Rattle.syntax.specs.declared.thread_end.Trap.{Trap}
use Rattle.syntax.specs.declared.thread_end.Trap.TheVariants.{Index}
use Rattle.lex.specs.declared.token.Scalar.TheVariants.{Int, Unsigned, LongLong}
use Rattle.syntax.specs.Numbers.{number, word_of, residue, bitwise_complement}
use Rattle.nesting.specs.Begins.{Saved}
use Rattle.bytecode.specs.Effects.{Effect}
use Rattle.bytecode.specs.Code.{Code, FunctionCode, Configuration, Frame, Instr, setting, word_for_cell, effect, effect_of, or_traps, call_effect, entering, return_effect, value_in, print_effect}
use Rattle.bytecode.specs.Valid.{Has, IsReached, at_first, IsWritten, IsValid, end_of}
use Rattle.bytecode.proofs.Tables.{some_same}
use Rattle.local_steps.specs.Local.{standing, AreWords}
use Rattle.frames.specs.Open.{AreSaved, MayStand, AreRestored, IsSuccessor}
use Rattle.frames.proofs.Reached.{to_next, to_place, or_next, or_place}
use Rattle.frames.proofs.Operators.{computed_fits, fitted_fits, word_fits, complemented_fits}
use Rattle.frames.proofs.Registers.{words_set, words_append, words_of_registers, words_zero}
use Rattle.frames.proofs.Levels.{AreUpTo, callers_up_to, all_up_to, restored_under}
use Rattle.frames.proofs.Leading.{Way, way_of}

abbrev pub Stays : Code → Configuration → List Saved → Configuration → Type 0
Stays code c ss d = MayStand code d ss × AreRestored c d ss

-- wherever the effect goes on
abbrev pub GoesWell : Code → Configuration → List Saved → Effect Configuration → Type 0
GoesWell code c ss x = (d : Configuration) → IsSuccessor x d → Stays code c ss d

-- back in a caller's frame
returns_well : (code : Code) (p : ℕ) (rs : List ℕ) (fs : List Frame) (ss : List Saved) (w : ℕ) (m : MayStand code (standing p rs fs) ss) → m.top.begins ≡ [] → w < 2 ^ 64 → GoesWell code (standing p rs fs) ss (return_effect fs w)
returns_well code p rs [] ss w m none h d g = absurd g
returns_well code p rs (f ∷ fs) ss w m none h d g =
    let same : ss ≡ m.callers = subst (λ bs. AreSaved m.top.function (suc (suc (length fs))) bs ss m.callers) none m.top.saved in
    let b = m.below in
    let new = slice_set f.registers f.result w in
    let few : length fs < 64 = (let l = m.few in omega arith) in
    let stands : MayStand code (standing f.place new fs) ss = record {
      callers = b.0;
      top = record {
        index = b.1.index;
        function = b.1.function;
        begins = b.1.begins;
        has = b.1.has;
        reached = b.1.reached;
        long = length-set f.registers f.result w ∙ b.1.long;
        words = words_set f.registers f.result w b.1.words h;
        saved = subst (λ xs. AreSaved b.1.function (suc (length fs)) b.1.begins xs b.0) (sym same) b.1.saved;
      };
      below = b.3;
      few = few;
    } in
    let up : AreUpTo (suc (length fs)) ss = subst (AreUpTo (suc (length fs))) (sym same) (callers_up_to code (f ∷ fs) m.callers b) in
    subst (Stays code (standing p rs (f ∷ fs)) ss) (sym g) (stands, sym (restored_under p f.place rs new f fs ss up))

module _ (code : Code) (v : IsValid code) (p : ℕ) (rs : List ℕ) (fs : List Frame) (ss : List Saved) (m : MayStand code (standing p rs fs) ss) where
  here : (q : ℕ) (new : List ℕ) → IsReached code m.top.function q m.top.begins → length new ≡ length rs → AreWords new → Stays code (standing p rs fs) ss (standing q new fs)
  here q new r l w = (
    record {
      callers = m.callers;
      top = record {
        index = m.top.index;
        function = m.top.function;
        begins = m.top.begins;
        has = m.top.has;
        reached = r;
        long = l ∙ m.top.long;
        words = w;
        saved = m.top.saved;
      };
      below = m.below;
      few = m.few;
    },
    refl,
  )

  well_pure : (d : Configuration) → Stays code (standing p rs fs) ss d → GoesWell code (standing p rs fs) ss (Effect.Pure d)
  well_pure d h e g = subst (Stays code (standing p rs fs) ss) (sym g) h

  well_tested : (b : Bool) (x : Effect Configuration) (k : Trap) → GoesWell code (standing p rs fs) ss x → GoesWell code (standing p rs fs) ss (if b then x else Effect.Traps k)
  well_tested true x k h = h
  well_tested false x k h = λ d g. absurd g

  module _ (i : Instr) (at : slice_get code.instructions p ≡ Some i) where
    next_set : (d w : ℕ) → way_of i ≡ Way.On → w < 2 ^ 64 → Stays code (standing p rs fs) ss (standing (suc p) (slice_set rs d w) fs)
    next_set d w e h = here (suc p) (slice_set rs d w) (to_next code m.top.function p m.top.begins i m.top.reached at e) (length-set rs d w) (words_set rs d w m.top.words h)

    next : way_of i ≡ Way.On → Stays code (standing p rs fs) ss (standing (suc p) rs fs)
    next e = here (suc p) rs (to_next code m.top.function p m.top.begins i m.top.reached at e) refl m.top.words

    well_or_traps : (r : Result ℕ Trap) (d : ℕ) → way_of i ≡ Way.On → IfOk r (λ w. w < 2 ^ 64) → GoesWell code (standing p rs fs) ss (or_traps r (setting (standing p rs fs) d))
    well_or_traps (Ok w) d e h = well_pure (standing (suc p) (slice_set rs d w) fs) (next_set d w e h)
    well_or_traps (Err k) d e h = λ x g. absurd g

    well_read : (a d : ℕ) → way_of i ≡ Way.On → GoesWell code (standing p rs fs) ss (Effect.Read a (setting (standing p rs fs) d))
    well_read a d e x g = subst (Stays code (standing p rs fs) ss) (sym g.2) (next_set d g.0 e g.1)

    well_next : way_of i ≡ Way.On → (d : Configuration) → d ≡ standing (suc p) rs fs → Stays code (standing p rs fs) ss d
    well_next e d g = subst (Stays code (standing p rs fs) ss) (sym g) (next e)

    well_branch : (b : Bool) (q to : ℕ) → IsReached code m.top.function q m.top.begins → IsReached code m.top.function to m.top.begins → GoesWell code (standing p rs fs) ss (Effect.Pure (if b then standing q rs fs else standing to rs fs))
    well_branch true q to g h = well_pure (standing q rs fs) (here q rs g refl m.top.words)
    well_branch false q to g h = well_pure (standing to rs fs) (here to rs h refl m.top.words)

    -- in the frame of a function that is called
    call_stays : (d : ℕ) (args : List ℕ) (number : ℕ) (callee : FunctionCode) → way_of i ≡ Way.On → Has code number callee → length args ≡ callee.parameters → d < length rs → length fs < 63 → Stays code (standing p rs fs) ss (entering (standing p rs fs) d args callee)
    call_stays d args number callee e has takes there few =
        let valid = v.each number callee has in
        let laid : List ℕ = map (λ r. slice_index rs r) args ++ replicate (callee.registers - callee.parameters) 0 in
        let long : length laid ≡ callee.registers = simp (length-append, length-map, length-replicate) (let n = valid.named in omega (arith, takes, n)) in (
          record {
            callers = ss;
            top = record {
              index = number;
              function = callee;
              begins = [];
              has = has;
              reached = at_first;
              long = long;
              words = words_append _ _ (words_of_registers rs args m.top.words) (words_zero (callee.registers - callee.parameters));
              saved = refl;
            };
            below = (
              m.callers,
              record {
                index = m.top.index;
                function = m.top.function;
                begins = m.top.begins;
                has = m.top.has;
                reached = to_next code m.top.function p m.top.begins i m.top.reached at e;
                long = m.top.long;
                words = m.top.words;
                saved = m.top.saved;
              },
              there,
              m.below,
            );
            few = omega arith;
          },
          restored_under callee.first p laid rs (record { place = suc p; result = d; registers = rs }) fs ss (all_up_to code p rs fs ss m),
        )

    well_called_by : (b : Bool) (d : ℕ) (args : List ℕ) (number : ℕ) (callee : FunctionCode) (k : Trap) → nat_lt (length fs) 63 ≡ b → way_of i ≡ Way.On → Has code number callee → length args ≡ callee.parameters → d < length rs → GoesWell code (standing p rs fs) ss (if b then Effect.Pure (entering (standing p rs fs) d args callee) else Effect.Traps k)
    well_called_by true d args number callee k l e has takes there = well_pure (entering (standing p rs fs) d args callee) (call_stays d args number callee e has takes there (ltb-true (length fs) 63 l))
    well_called_by false d args number callee k l e has takes there = λ x g. absurd g

    well_called : (d : ℕ) (args : List ℕ) (number : ℕ) (o : Option FunctionCode) → slice_get code.functions number ≡ o → way_of i ≡ Way.On → ((callee : FunctionCode) × Has code number callee × (length args ≡ callee.parameters)) → d < length rs → GoesWell code (standing p rs fs) ss (call_effect (standing p rs fs) d args o)
    well_called d args number None h e takes there = well_pure (standing p rs fs) (m, refl)
    well_called d args number (Some callee) h e takes there =
        let same : takes.0 ≡ callee = some_same takes.0 callee (sym takes.1 ∙ h) in
        well_called_by (nat_lt (length fs) 63) d args number callee _ refl e h (takes.2 ∙ ap (λ (f : FunctionCode). f.parameters) same) there

    well_printed : (o : Option (List ℕ)) → way_of i ≡ Way.On → GoesWell code (standing p rs fs) ss (print_effect (standing p rs fs) o)
    well_printed None e = well_pure (standing p rs fs) (m, refl)
    well_printed (Some t) e = well_next e

  word_of_value : (a : Option ℕ) → value_in (standing p rs fs) a < 2 ^ 64
  word_of_value None = omega arith
  word_of_value (Some r) = m.top.words r

  in_frame : (r : ℕ) → r < m.top.function.registers → r < length rs
  in_frame r h = let l = m.top.long in omega (arith, l, h)

  goes_by : (i : Instr) → slice_get code.instructions p ≡ Some i → IsWritten code m.top.function (end_of code m.top.index) i → GoesWell code (standing p rs fs) ss (effect_of code (standing p rs fs) (Some i))
  goes_by (Instr.Constant d n) at w = well_pure (standing (suc p) (slice_set rs d n) fs) (next_set _ at d n refl (let h = w.1 in omega (arith, h)))
  goes_by (Instr.Move d a) at w = well_pure (standing (suc p) (slice_set rs d (slice_index rs a)) fs) (next_set _ at d _ refl (m.top.words a))
  goes_by (Instr.Compute op t d a b) at w = well_or_traps _ at _ d refl (computed_fits op t _ _ (m.top.words a) (m.top.words b))
  goes_by (Instr.Negate t d a) at w = well_or_traps _ at _ d refl (fitted_fits t _)
  goes_by (Instr.Complement u d a) at w = well_pure (standing (suc p) (slice_set rs d (bitwise_complement u (slice_index rs a))) fs) (next_set _ at d _ refl (complemented_fits u (slice_index rs a)))
  goes_by (Instr.Extend d a) at w = well_pure (standing (suc p) (slice_set rs d (word_of LongLong (number Int (slice_index rs a)))) fs) (next_set _ at d _ refl (word_fits LongLong (number Int (slice_index rs a))))
  goes_by (Instr.Low d a) at w = well_pure (standing (suc p) (slice_set rs d (residue Unsigned (slice_index rs a))) fs) (next_set _ at d _ refl (omega arith))
  goes_by (Instr.Jump to) at w = well_pure (standing to rs fs) (here to rs (to_place code m.top.function p m.top.begins (Instr.Jump to) m.top.reached at to refl) refl m.top.words)
  goes_by (Instr.JumpZero a to) at w = well_branch _ at (slice_index rs a == 0) to (suc p) (or_place code m.top.function p m.top.begins (Instr.JumpZero a to) m.top.reached at to refl) (or_next code m.top.function p m.top.begins (Instr.JumpZero a to) m.top.reached at to refl)
  goes_by (Instr.JumpNonzero a to) at w = well_branch _ at (slice_index rs a == 0) (suc p) to (or_next code m.top.function p m.top.begins (Instr.JumpNonzero a to) m.top.reached at to refl) (or_place code m.top.function p m.top.begins (Instr.JumpNonzero a to) m.top.reached at to refl)
  goes_by (Instr.Check j n) at w = well_tested (nat_lt (slice_index rs j) n) (Effect.Pure (standing (suc p) rs fs)) Index (well_pure (standing (suc p) rs fs) (next _ at refl))
  goes_by (Instr.Read d a) at w = well_read _ at a d refl
  goes_by (Instr.ReadAt d a n j) at w = well_tested (nat_lt (slice_index rs j) n) (Effect.Read (a + slice_index rs j) (setting (standing p rs fs) d)) Index (well_read _ at (a + slice_index rs j) d refl)
  goes_by (Instr.Write a r) at w = well_next _ at refl
  goes_by (Instr.WriteAt a n j r) at w = well_tested (nat_lt (slice_index rs j) n) (Effect.Write (a + slice_index rs j) (word_for_cell code (a + slice_index rs j) (slice_index rs r)) (standing (suc p) rs fs)) Index (well_next _ at refl)
  goes_by (Instr.Begin to) at w = λ d g. absurd g
  goes_by Instr.Commit at w = λ d g. absurd g
  goes_by Instr.Cancel at w = λ d g. absurd g
  goes_by (Instr.CancelOuter n) at w = λ d g. absurd g
  goes_by Instr.Irrevocable at w = well_next _ at refl
  goes_by (Instr.Call g d args) at w = well_called (Instr.Call g d args) at d args g (slice_get code.functions g) refl refl w.2 (in_frame d w.0)
  goes_by (Instr.Return a) at w =
      let asked : m.top.begins ≡ [] = rw at at ((v.each m.top.index m.top.function m.top.has).ways.asks p m.top.begins m.top.reached) in
      returns_well code p rs fs ss _ m asked (word_of_value a)
  goes_by (Instr.PrintText k) at w = well_printed _ at (slice_get code.texts k) refl
  goes_by (Instr.PrintNumber t a) at w = well_next _ at refl

  goes_of : (o : Option Instr) → slice_get code.instructions p ≡ o → GoesWell code (standing p rs fs) ss (effect_of code (standing p rs fs) o)
  goes_of None at = well_pure (standing p rs fs) (m, refl)
  goes_of (Some i) at =
      let valid = v.each m.top.index m.top.function m.top.has in
      let inside = valid.ways.inside p m.top.begins m.top.reached in
      goes_by i at (valid.written p i inside.0 inside.1 at)

  pub goes_well : GoesWell code (standing p rs fs) ss (effect code (standing p rs fs))
  goes_well = goes_of (slice_get code.instructions p) refl
