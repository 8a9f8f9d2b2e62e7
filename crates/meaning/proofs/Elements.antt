-- An index that is tested.
use Rattle.std.proofs.Common.{◌≡◌, ℕ, List, Some, Bool, false, ap, ◌∙◌}
use Rattle.std.specs.Prelude.{nat_lt, if◌then◌else◌, ◌+◌}
use Rattle.syntax.specs.declared.value.Value.{Value}
use Rattle.syntax.specs.Tree.{Program}
use Rattle.syntax.specs.Names.{GlobalCells, global_of, cells}
use Rattle.syntax.specs.declared.thread_end.Trap.TheVariants.{Index}
use Rattle.syntax.specs.Actions.{State, pure, trap, go_on, or_astray}
use Rattle.syntax.specs.Meaning.{Caller, InCell, element}

pub element_traps : (p : Program) (call : Caller) (x : List ℕ) (v : Value) (g : GlobalCells) (s : State) →
    global_of p x ≡ Some g → nat_lt v.word (cells g.global) ≡ false → element p call x v s ≡ trap Index s
element_traps p call x v g s found outside =
    ap (λ o. go_on (or_astray o s) (λ g. if nat_lt v.word (cells g.global) then pure (InCell (g.cell + v.word) g.global.ty) else trap Index)) found
    ∙ ap (λ (b : Bool). (if b then pure (InCell (g.cell + v.word) g.global.ty) else trap Index) s) outside
