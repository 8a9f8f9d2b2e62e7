-- Words are refused because something is so.
use Rattle.std.proofs.Common.{◌≡◌, Result, Ok, Err, IsErr, sym, subst}
use Rattle.std.specs.Prelude.{IfErr}
use Rattle.std.specs.Result.{IsErrAnd}
use Rattle.command.specs.declared.request.UsageFault.{UsageFault}
use Rattle.command.specs.declared.request.UsageFault.TheVariants.{OutOfMemory, Help, Wrong}
use Rattle.command.specs.inner.Refusals.{IsOwn}

pub own_of : (P : Type 0) (f : UsageFault) → P → IsOwn (Unit {0}) f → IsOwn P f
own_of P OutOfMemory so own = tt
own_of P (Help text) so own = absurd own
own_of P (Wrong text) so own = so

pub own_weaker : (P Q : Type 0) → (P → Q) → (f : UsageFault) → IsOwn P f → IsOwn Q f
own_weaker P Q weaker OutOfMemory own = tt
own_weaker P Q weaker (Help text) own = absurd own
own_weaker P Q weaker (Wrong text) own = weaker own

-- a fault that `?` passes on
pub own_passed : {T : Type 0} (P Q : Type 0) (f : UsageFault) (r : Result T UsageFault) → IsErr r × IsErrAnd r (λ y. y ≡ f) → IsOwn P f → (P → Q) → IfErr r (IsOwn Q)
own_passed P Q f (Ok x) told own weaker = tt
own_passed P Q f (Err e) told own weaker = subst (IsOwn Q) (sym told.1) (own_weaker P Q weaker f own)
