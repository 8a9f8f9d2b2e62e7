-- A context that says that no store, or no comparison, comes next is right of the thread that is shown.
use Rattle.std.proofs.Common.{◌≡◌, ℕ, Option, None, Some, sym, subst}
use Rattle.std.specs.Prelude.{IfNone, IsSomeAnd}
use Rattle.nesting.specs.Begins.{Saved}
use Rattle.bytecode.specs.Code.{Code, Configuration}
use Rattle.norec_core.specs.Attempts.{Attempt}
use Rattle.norec_core.specs.Cores.{IsComparing, IsStoring}
use Rattle.machine.specs.Threads.{Thread}
use Rattle.machine.specs.States.{ComparesNext, StoresNext, ThreadState}
use Rattle.machine.specs.inner.Contexts.{PlainContext, machine_thread, shown_from}
use Rattle.machine.proofs.contexts.Committing.{core_is_storing}

core_is_comparing : (c : Configuration) (time index : ℕ) (o : Option (Attempt Saved)) → IsSomeAnd (shown_from c o) (λ a. IsComparing time index a) → IsSomeAnd o (λ a. IsComparing time index a)
core_is_comparing c time index None h = absurd h
core_is_comparing c time index (Some a) h = h

module _ (k : PlainContext) (s : ThreadState) (is : machine_thread k ≡ s.thread) where
  pub no_store : (r : Option ℕ) → IfNone r ((index : ℕ) → IsSomeAnd k.core.attempt (λ a. IsStoring index a) → ⊥) → IfNone r ((index : ℕ) → StoresNext s index → ⊥)
  no_store (Some index) h = tt
  no_store None h = λ index n. h index (core_is_storing k.configuration index k.core.attempt (subst (λ (th : Thread Configuration). IsSomeAnd th.attempt (λ a. IsStoring index a)) (sym is) n.stores))

  pub no_comparison : (code : Code) (r : Option (ℕ × ℕ)) → IfNone r ((time index : ℕ) → IsSomeAnd k.core.attempt (λ a. IsComparing time index a) → ⊥) → IfNone r ((time index : ℕ) → ComparesNext code s time index → ⊥)
  no_comparison code (Some at) h = tt
  no_comparison code None h = λ time index n. h time index (core_is_comparing k.configuration time index k.core.attempt (subst (λ (th : Thread Configuration). IsSomeAnd th.attempt (λ a. IsComparing time index a)) (sym is) n.compares))
