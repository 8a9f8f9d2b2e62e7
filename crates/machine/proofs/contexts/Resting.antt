-- Where a thread rests, by what stands at its place to be done.
use Rattle.std.proofs.Common.{◌≡◌, ◌<◌, ◌∙◌, ℕ, List, [], ◌∷◌, Option, None, Some, length, refl, sym, ap, subst, arith}
use Rattle.std.specs.Prelude.{IsSome}
use Rattle.syntax.specs.declared.thread_end.Status.{Status}
use Rattle.syntax.specs.declared.thread_end.Status.TheVariants.{Running, Ended as HasEnded, Trapped as HasTrapped}
use Rattle.bytecode.specs.Effects.{Effect}
use Rattle.bytecode.specs.Effects.Effect.{Begin, Pure}
use Rattle.bytecode.specs.Code.{Code, Configuration, Frame, effect, going, onward, return_effect}
use Rattle.nesting.specs.Begins.{Saved}
use Rattle.norec_core.specs.Attempts.{Attempt}
use Rattle.frames.specs.Doings.{IsDoingAt}
use Rattle.frames.specs.declared.doing.Doing.{Doing}
use Rattle.frames.specs.declared.doing.Doing.TheVariants as doing
use Rattle.machine.specs.Resting.{IsThreadAtRest}
use Rattle.machine.specs.inner.Doings.{IsBegin}
use Rattle.machine.specs.Standing.{IsStanding, IsThreadOf}
use Rattle.machine.specs.States.{StandsAt, ThreadState}
use Rattle.machine.specs.Threads.{Thread}
use Rattle.machine.specs.inner.Contexts.{shown_from}
use Rattle.machine.proofs.contexts.Left.{none_shown}

begin_stands : (code : Code) (c : Configuration) (d : Doing) → IsDoingAt code c d → IsBegin d → (first : Configuration) × (cancelled : Configuration) × (effect code c ≡ Begin first cancelled)
begin_stands code c (doing.Begin to) is b = (onward c, going c to, is)
begin_stands code c d is b = absurd b

no_return : (fs : List Frame) (w : ℕ) (e f : Configuration) → 0 < length fs → return_effect fs w ≡ Begin e f → ⊥
no_return [] w e f some is = omega (arith, some)
no_return (x ∷ fs) w e f some is = cc

no_begin : (code : Code) (c : Configuration) (d : Doing) → IsDoingAt code c d → (IsBegin d → ⊥) → (e f : Configuration) → effect code c ≡ Begin e f → ⊥
no_begin code c (doing.Begin to) is not e f b = not tt
no_begin code c doing.Local is not e f b = let p : Pure is.1 ≡ Begin e f = sym is.4 ∙ b in cc
no_begin code c (doing.Read r a) is not e f b = let p = sym is.0 ∙ b in cc
no_begin code c (doing.Write a w) is not e f b = let p = sym is.0 ∙ b in cc
no_begin code c doing.Commit is not e f b = let p = sym is ∙ b in cc
no_begin code c doing.Cancel is not e f b = let p = sym is ∙ b in cc
no_begin code c (doing.CancelOuter n) is not e f b = let p = sym is ∙ b in cc
no_begin code c doing.Irrevocable is not e f b = let p = sym is ∙ b in cc
no_begin code c doing.Call is not e f b = let p : Pure is.3 ≡ Begin e f = sym is.5 ∙ b in cc
no_begin code c (doing.Return w) is not e f b = no_return c.frames w e f is.1 (sym is.0 ∙ b)
no_begin code c doing.End is not e f b = let p = sym is ∙ b in cc
no_begin code c (doing.PrintText k) is not e f b = let p = sym is ∙ b in cc
no_begin code c (doing.PrintNumber z) is not e f b = let p = sym is ∙ b in cc
no_begin code c (doing.Traps cause) is not e f b = let p = sym is ∙ b in cc

pub rests_at_begin : (code : Code) (s : ThreadState) (d : Doing) → s.thread.attempt ≡ None → StandsAt code s d → IsBegin d → IsThreadAtRest (effect code) s.thread
rests_at_begin code s d none stands is = record {
  attempt = none;
  begins = λ running. let b = begin_stands code s.thread.configuration d (stands running) is in record { running = running; first = b.0; cancelled = b.1; begins = b.2 };
}

pub goes_on_elsewhere : (code : Code) (s : ThreadState) (d : Doing) → s.thread.status ≡ Running → StandsAt code s d → (IsBegin d → ⊥) → IsThreadAtRest (effect code) s.thread → ⊥
goes_on_elsewhere code s d running stands not r = let b = r.begins running in no_begin code s.thread.configuration d (stands running) not b.first b.cancelled b.begins

pub rests_over : (code : Code) (th : Thread Configuration) → IsThreadOf code th → (th.status ≡ Running → ⊥) → IsThreadAtRest (effect code) th
rests_over code th of over = record { attempt = by th.status (λ e. over e) of.stands; begins = λ running. absurd (over running) }
  where
    by : (st : Status) → (st ≡ Running → ⊥) → IsStanding code th st → th.attempt ≡ None
    by Running none s = absurd (none refl)
    by HasEnded none s = s
    by (HasTrapped cause) none s = s

-- an attempt that the core has is one of the thread
pub has_one : (c : Configuration) (o : Option (Attempt Saved)) → IsSome o → shown_from c o ≡ None → ⊥
has_one c o some none = by o some (none_shown c o none)
  where
    by : (x : Option (Attempt Saved)) → IsSome x → x ≡ None → ⊥
    by None some e = cc
    by (Some a) some e = cc

pub has_none : (c : Configuration) (o : Option (Attempt Saved)) → (IsSome o → ⊥) → shown_from c o ≡ None
has_none c None none = refl
has_none c (Some a) none = absurd (none refl)
