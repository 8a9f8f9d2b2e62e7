-- The results of calls that append a fragment of code.
use Rattle.std.specs.Prelude.{◌≡◌, ℕ, List, ◌++◌, Vec, Result, OnOk, IfOk, IfErr}
use Rattle.bytecode.specs.declared.instr.Instr.{Instr}
use Rattle.selection.specs.declared.draft.Draft.{Draft}
use Rattle.selection.specs.declared.locations.ValueRegister.{ValueRegister}
use Rattle.selection.specs.declared.locations.ConditionRegister.{ConditionRegister}
use Rattle.selection.specs.Lists.{Lists}
use Rattle.selection.specs.Conditions.{Condition, test_in}
use Rattle.selection.specs.Expressions.{Emitted, AllEmitted}
use Rattle.selection.specs.Simples.{Written}
use Rattle.lower_exprs.specs.declared.fault.LowerFailure.{LowerFailure}
use Rattle.lower_exprs.specs.declared.lists.Lists.{Lists as OwnLists}
use Rattle.lower_exprs.specs.Limits.{NeedsMore}
use Rattle.lower_exprs.specs.Lists.{lists_of}

-- instructions, the lists after them, and what is known of their end: where a value is, how a condition is tested,
-- or the place alone
pub record Fragment (I E : Type 0) : Type 0 where
  pub code : List I
  pub lists : Lists
  pub end : E

-- a fragment is appended to the old instructions, or it needs more registers than there are, if that is the reason for
-- having none
pub record Adds {I E : Type 0} (s : Fragment I E) (old new : List I) (l : Lists) (r : Result E LowerFailure) :
    Type 0 where
  pub code : OnOk r (new ≡ old ++ s.code)
  pub lists : OnOk r (l ≡ s.lists)
  pub end : IfOk r (λ e. e ≡ s.end)
  pub fails : IfErr r (λ why. NeedsMore why s.lists.registers)

-- the fragment picked for an expression, for a condition, for an assignment or a statement, and for several values
abbrev pub of_value : Emitted → Fragment Instr ValueRegister
of_value e = record { code = e.code; lists = e.lists; end = e.location }

abbrev pub of_test : Condition → Fragment Draft ConditionRegister
of_test c = record { code = c.code; lists = c.lists; end = test_in c }

abbrev pub of_written : Written → Fragment Instr ℕ
of_written w = record { code = w.code; lists = w.lists; end = w.to }

abbrev pub of_values : AllEmitted → Fragment Instr ℕ
of_values es = record { code = es.code; lists = es.lists; end = es.to }

module _ {A : Type 0} where
  abbrev pub AddsValue : Emitted → (old new : Vec Instr A) → OwnLists A → Result ValueRegister LowerFailure → Type 0
  AddsValue e old new l r = Adds (of_value e) old.items new.items (lists_of l) r

  abbrev pub AddsTest : Condition → (old new : Vec Draft A) → OwnLists A →
      Result ConditionRegister LowerFailure → Type 0
  AddsTest c old new l r = Adds (of_test c) old.items new.items (lists_of l) r

  abbrev pub AddsWritten : Written → (old new : Vec Instr A) → OwnLists A → Result ℕ LowerFailure → Type 0
  AddsWritten w old new l r = Adds (of_written w) old.items new.items (lists_of l) r

  abbrev pub AddsValues : AllEmitted → (old new : Vec Instr A) → OwnLists A → Result ℕ LowerFailure → Type 0
  AddsValues es old new l r = Adds (of_values es) old.items new.items (lists_of l) r
