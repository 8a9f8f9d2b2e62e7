use Rattle.std.proofs.Common.{ℕ, List, Bor}
use Rattle.std.specs.Prelude.{◌↔◌, IsTrue, nat_eq}
use Rattle.std.specs.Cmp.Lexicographic.{pointwise}
use Rattle.std.specs.HashSet.{contains}
use Rattle.bytecode.specs.Views.{code_of}
use Rattle.bytecode.proofs.Names.{IsNamed, AreDistinct}
use Rattle.bytecode.proofs.valid.have_distinct_names.Given as goal

abbrev pub invariant-each : goal.invariant-each
invariant-each g l = record {
  known : (q : Bor (List ℕ)) → IsTrue (contains (λ x y. pointwise nat_eq x.now y.now) l.names q) ↔ IsNamed (code_of l.parts) l.f-index q.now;
  distinct : AreDistinct (code_of l.parts) l.f-index;
}
