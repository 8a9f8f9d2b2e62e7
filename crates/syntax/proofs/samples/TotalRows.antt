-- Trees that no text spells are typed and mean something too.
use Rattle.std.proofs.Common.{◌≡◌, refl, [], ◌∷◌, Some, None}
use Rattle.std.specs.Prelude.{codes}
use Rattle.lex.specs.declared.token.Scalar.TheVariants.{Int}
use Rattle.syntax.specs.Tree as Tree
use Rattle.syntax.specs.Tree.{Element, Call, Conditional, Evaluate, Declare, Do, If, Defines, Shares, Program}
use Rattle.syntax.specs.Behaviours.{Ended}
use Rattle.syntax.specs.Threads.{thread}
use Rattle.syntax.specs.Typing.{Meets, IsTypedProgram}
use Rattle.syntax.proofs.typing.Demands.{all_met}
use Rattle.syntax.proofs.samples.Rows.{here, called, var, num, atomic, just, worker_with}
use Rattle.syntax.proofs.samples.MoreRows.{then_}

-- void f(int) { } W{ f(1); }: a parameter without a name binds nothing
abbrev nameless : Program
nameless =
    Defines (record { attributes = []; result = None; name = called (codes "f"); parameters = record { ty = Int; name = None } ∷ []; body = Some Tree.[] })
    ∷ worker_with (just (Do (Evaluate (Call (called (codes "f")) (Tree.◌∷◌ (num 1) Tree.[]) here)))) ∷ []

nameless_typed : IsTypedProgram nameless
nameless_typed = all_met (Meets 0 nameless) refl

nameless_ends : thread nameless 0 [] 100 ≡ record { lefts = []; text = []; end = Ended }
nameless_ends = refl

-- int a[1]; W{ atomic { if (1) int a; self ? a[0] : 1; } }: a declaration that is a branch is gone after it
abbrev branch_declares : Program
branch_declares =
    Shares (record { ty = Int; name = called (codes "a"); length = Some (1, here); first = [] } ∷ [])
    ∷ worker_with (just (atomic (then_ (If (num 1) (Declare (record { ty = Int; declarators = record { name = called (codes "a"); first = None } ∷ [] })))
    (just (Do (Evaluate (Conditional (var (codes "self")) (Element (called (codes "a")) (num 0) here) (num 1) here))))))) ∷ []

branch_typed : IsTypedProgram branch_declares
branch_typed = all_met (Meets 0 branch_declares) refl

branch_ends : thread branch_declares 0 ((7 ∷ []) ∷ []) 100 ≡ record { lefts = (7 ∷ []) ∷ []; text = []; end = Ended }
branch_ends = refl
