-- The instructions of a condition, once it is known where it leads.
use Rattle.std.proofs.Common.{◌≡◌, refl, ap, ◌∙◌, ℕ, ◌+◌, List, [], ◌∷◌, ◌++◌, length, map, arith, Bool, true, false, not}
use Rattle.std.proofs.lemmas.List.{length-append, length-map, map-append}
use Rattle.syntax.specs.declared.tree.LogicalOp.{LogicalOp}
use Rattle.syntax.specs.declared.tree.LogicalOp.TheVariants.{AndThen, OrElse}
use Rattle.bytecode.specs.declared.instr.Instr.{Instr}
use Rattle.selection.specs.declared.locations.ConditionRegister.{ConditionRegister}
use Rattle.selection.specs.declared.draft.Draft.{Draft}
use Rattle.selection.specs.declared.draft.Draft.TheVariants as draft
use Rattle.selection.specs.Conditions.{Condition, test_in, jump_if, jump_if_not, instruction_of_draft, opposite_draft, with_second_at, short_jump, going_on, going_back, first_of}

pub opposite_if : (b : Bool) (r to : ℕ) → jump_if (not b) r to ≡ jump_if_not b r to
opposite_if true r to = refl
opposite_if false r to = refl

pub opposite_if_not : (b : Bool) (r to : ℕ) → jump_if_not (not b) r to ≡ jump_if b r to
opposite_if_not true r to = refl
opposite_if_not false r to = refl

pub whole_are : (m u : ℕ) (is : List Instr) → map (instruction_of_draft m u) (map draft.Whole is) ≡ is
whole_are m u [] = refl
whole_are m u (i ∷ is) = ap (λ xs. i ∷ xs) (whole_are m u is)

turned_one : (m u : ℕ) (d : Draft) → instruction_of_draft m u (opposite_draft d) ≡ instruction_of_draft u m d
turned_one m u (draft.Whole i) = refl
turned_one m u (draft.ToTrueExit z r) = refl
turned_one m u (draft.ToFalseExit z r) = refl

pub turned_are : (m u : ℕ) (ds : List Draft) → map (instruction_of_draft m u) (map opposite_draft ds) ≡ map (instruction_of_draft u m) ds
turned_are m u [] = refl
turned_are m u (d ∷ ds) = λ j. turned_one m u d j ∷ turned_are m u ds j

and_one : (next m u : ℕ) (d : Draft) → instruction_of_draft m u (with_second_at AndThen next d) ≡ instruction_of_draft next u d
and_one next m u (draft.Whole i) = refl
and_one next m u (draft.ToTrueExit z r) = refl
and_one next m u (draft.ToFalseExit z r) = refl

or_one : (next m u : ℕ) (d : Draft) → instruction_of_draft m u (with_second_at OrElse next d) ≡ instruction_of_draft m next d
or_one next m u (draft.Whole i) = refl
or_one next m u (draft.ToTrueExit z r) = refl
or_one next m u (draft.ToFalseExit z r) = refl

and_are : (next m u : ℕ) (ds : List Draft) → map (instruction_of_draft m u) (map (with_second_at AndThen next) ds) ≡ map (instruction_of_draft next u) ds
and_are next m u [] = refl
and_are next m u (d ∷ ds) = λ j. and_one next m u d j ∷ and_are next m u ds j

or_are : (next m u : ℕ) (ds : List Draft) → map (instruction_of_draft m u) (map (with_second_at OrElse next) ds) ≡ map (instruction_of_draft m next) ds
or_are next m u [] = refl
or_are next m u (d ∷ ds) = λ j. or_one next m u d j ∷ or_are next m u ds j

-- a first condition leads on to the second one, or past it
pub first_and : (m u : ℕ) (a : Condition) → map (instruction_of_draft m u) (first_of AndThen a) ≡ going_on a.code (test_in a) u
first_and m u a =
    map-append (instruction_of_draft m u) (map (with_second_at AndThen (a.to + 1)) a.code) (short_jump AndThen (test_in a) ∷ [])
    ∙ (λ j. and_are (a.to + 1) m u a.code j ++ opposite_if a.at_zero a.register u j ∷ [])

pub first_or : (m u : ℕ) (a : Condition) → map (instruction_of_draft m u) (first_of OrElse a) ≡ going_back a.code (test_in a) m
first_or m u a =
    map-append (instruction_of_draft m u) (map (with_second_at OrElse (a.to + 1)) a.code) (short_jump OrElse (test_in a) ∷ [])
    ∙ (λ j. or_are (a.to + 1) m u a.code j ++ jump_if a.at_zero a.register m ∷ [])

pub completed_length : (m u : ℕ) (ds : List Draft) → length (map (instruction_of_draft m u) ds) ≡ length ds
completed_length m u ds = length-map ds (instruction_of_draft m u)

pub on_length : (ds : List Draft) (t : ConditionRegister) (u : ℕ) → length (going_on ds t u) ≡ length ds + 1
on_length ds t u =
    let a : length (going_on ds t u) ≡ length (map (instruction_of_draft (t.to + 1) u) ds) + 1 = length-append (map (instruction_of_draft (t.to + 1) u) ds) (jump_if_not t.at_zero t.register u ∷ []) in
    let b = completed_length (t.to + 1) u ds in
    omega (arith, a, b)

pub back_length : (ds : List Draft) (t : ConditionRegister) (m : ℕ) → length (going_back ds t m) ≡ length ds + 1
back_length ds t m =
    let a : length (going_back ds t m) ≡ length (map (instruction_of_draft m (t.to + 1)) ds) + 1 = length-append (map (instruction_of_draft m (t.to + 1)) ds) (jump_if t.at_zero t.register m ∷ []) in
    let b = completed_length m (t.to + 1) ds in
    omega (arith, a, b)

pub first_length : (op : LogicalOp) (a : Condition) → length (first_of op a) ≡ length a.code + 1
first_length op a =
    let x : length (first_of op a) ≡ length (map (with_second_at op (a.to + 1)) a.code) + 1 = length-append (map (with_second_at op (a.to + 1)) a.code) (short_jump op (test_in a) ∷ []) in
    let y : length (map (with_second_at op (a.to + 1)) a.code) ≡ length a.code = length-map a.code (with_second_at op (a.to + 1)) in
    omega (arith, x, y)
