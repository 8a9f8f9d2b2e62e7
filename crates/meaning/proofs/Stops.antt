-- What stops a part stops the whole.
use Rattle.std.proofs.Common.{◌≡◌, Result, Ok, Err, sym, ap, subst}
use Rattle.std.specs.Result.{IsErrAnd}
use Rattle.syntax.specs.Actions.{Answer, Stops}
use Rattle.meaning.specs.inner.SourceThread.{IsDone, Happened, given_as, halt_of, state_in}
use Rattle.meaning.specs.declared.source_thread.Halted.{Halted}
use Rattle.meaning.specs.declared.source_thread.SourceThread.{SourceThread}

pub err_of : {X : Type 0} (r : Result X Halted) (h : Halted) → IsErrAnd r (λ e. e ≡ h) → r ≡ Err h
err_of (Err e) h is = ap Err is
err_of (Ok x) h is = absurd is

pub stops_as : {A X Y : Type 0} (f : X → Y) (r : Result X Halted) (h : Halted) (does : Answer Y) (m : SourceThread A) → r ≡ Err h → (Happened m.why → does ≡ Stops (halt_of m.why) (state_in m)) → IsDone r m → does ≡ given_as f r m
stops_as f r h does m is stops = subst (λ q. IsDone q m → does ≡ given_as f q m) (sym is) stops
