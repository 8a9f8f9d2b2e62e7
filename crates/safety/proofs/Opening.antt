-- The least set that keeps to the links of outer transactions tells which functions lead to one.
use Rattle.std.proofs.Common.{arith, refl, ℕ, List, Some, true, IsTrue}
use Rattle.syntax.specs.Tree.{Program}
use Rattle.safety.specs.Sites.{Construct, Prints, Relaxes, OpensOuter, Cancels, CancelsOuter, Calls, Uses}
use Rattle.safety.specs.Safe.{FunctionSet, Opens, TellsOuter}
use Rattle.safety.specs.Links.{KeepsTo, IsLeast}
use Rattle.safety.specs.inner.OuterLinks.{opening_links, opening_at, outer_links}
use Rattle.safety.proofs.Linked.{keeps_none, keeps_one, keeps_if, in_set_if}
use Rattle.safety.proofs.Spread.{tells_least}

module _ (set : FunctionSet) where
  abbrev In : List ℕ → Type 0
  In f = IsTrue (set f)

  opener_in_set : (f : List ℕ) (c : Construct) → KeepsTo (opening_links f c) set → Opens In c → In f
  opener_in_set f OpensOuter h u = in_set_if set true f h refl
  opener_in_set f (Calls g) h u = h (record { caller = f; callee = Some g }) (0, omega arith, refl) u
  opener_in_set f Prints h u = absurd u
  opener_in_set f Relaxes h u = absurd u
  opener_in_set f Cancels h u = absurd u
  opener_in_set f CancelsOuter h u = absurd u
  opener_in_set f (Uses x) h u = absurd u

  keep : (f : List ℕ) (c : Construct) → (Opens In c → In f) → KeepsTo (opening_links f c) set
  keep f OpensOuter h = keeps_if set true f (λ e. h tt)
  keep f (Calls g) h = keeps_one set (record { caller = f; callee = Some g }) h
  keep f Prints h = keeps_none set
  keep f Relaxes h = keeps_none set
  keep f Cancels h = keeps_none set
  keep f CancelsOuter h = keeps_none set
  keep f (Uses x) h = keeps_none set

pub tells_outer : (p : Program) (set : FunctionSet) → IsLeast (outer_links p) set → TellsOuter p set
tells_outer p set h =
    tells_least opening_at (λ s t. Opens (λ g. IsTrue (s g)) t.construct)
    (λ s f t. opener_in_set s f t.construct) (λ s f t. keep s f t.construct) p set h
