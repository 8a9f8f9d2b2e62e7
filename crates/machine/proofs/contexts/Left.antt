-- What a thread leaves undone where it makes steps by itself.
use Rattle.std.proofs.Common.{◌≡◌, ℕ, Bool, true, false, List, [], ◌∷◌, length, Option, None, Some, refl, subst, arith}
use Rattle.std.specs.Prelude.{IfSome, IsSomeAnd, map, slice_get}
use Rattle.nesting.specs.Begins.{Saved}
use Rattle.bytecode.specs.Effects.{Effect}
use Rattle.bytecode.specs.Effects.Effect.{Pure}
use Rattle.bytecode.specs.Code.{Code, Configuration, Instr, effect}
use Rattle.local_steps.specs.declared.step.Pause.{Pause}
use Rattle.local_steps.specs.declared.step.Pause.TheVariants as pause
use Rattle.local_steps.specs.Local.{MayEnd}
use Rattle.frames.specs.Open.{begin_configuration}
use Rattle.frames.specs.Doings.{IsLocalStep, IsDoingAt, IsToldAs}
use Rattle.frames.specs.declared.doing.Doing.{Doing}
use Rattle.frames.specs.declared.doing.Doing.TheVariants as doing
use Rattle.norec_core.specs.declared.step.Access.TheVariants.{Local}
use Rattle.norec_core.specs.Attempts.{Attempt, Checkpoint}
use Rattle.norec_core.specs.Cores.{CommitsLocally}
use Rattle.norec_core.specs.Phases.{commit_access}
use Rattle.norec_core.specs.Saved.{attempt_as, checkpoint_as}
use Rattle.machine.specs.States.{IsLeft}
use Rattle.machine.specs.inner.Contexts.{shown_from}

-- where local steps end stands no local step
ends_at : (code : Code) (c : Configuration) → MayEnd (slice_get code.instructions c.place) (effect code c) → IsLocalStep code c → ⊥
ends_at code c m t =
    let f : MayEnd (Some t.0) (Pure t.1) = subst (λ (x : Effect Configuration). MayEnd (Some t.0) x) t.4 (subst (λ (o : Option Instr). MayEnd o (effect code c)) t.2 m) in
    let z : false ≡ true = f t.3 in cc

-- nor a commit that is made at once, nor a return to a caller
pub left_told : (code : Code) (c : Configuration) (o : Option (Attempt Saved)) (x : Doing) (why : Pause) → IsDoingAt code c x → IsToldAs x why → MayEnd (slice_get code.instructions c.place) (effect code c)
    → (why ≡ pause.Commit → IsSomeAnd o (λ a. CommitsLocally a) → ⊥) → ((w : ℕ) → why ≡ pause.Return w → length c.frames ≡ 0) → IsLeft o x
left_told code c o doing.Local why is told ends commits returns = ends_at code c ends is
left_told code c o (doing.Return w) why is told ends commits returns = let none = returns w told in let some = is.1 in absurd (omega (arith, none, some))
left_told code c o doing.Commit why is told ends commits returns = commits told
left_told code c o x why is told ends commits returns = tt

-- the machine's attempt shows the same
module _ (c : Configuration) where
  commit_shown : (a : Attempt Saved) (inner : List (Checkpoint Saved)) (kept : Bool) (ws : List (ℕ × ℕ)) → commit_access (attempt_as (begin_configuration c) a) (map (checkpoint_as (begin_configuration c)) inner) kept ws ≡ Local → commit_access a inner kept ws ≡ Local
  commit_shown a [] true ws e = e
  commit_shown a [] false [] e = refl
  commit_shown a [] false (p ∷ ps) e = absurd (cc)
  commit_shown a (l ∷ ls) kept ws e = refl

  locally_shown : (o : Option (Attempt Saved)) → IsSomeAnd (shown_from c o) (λ a. CommitsLocally a) → IsSomeAnd o (λ a. CommitsLocally a)
  locally_shown None h = h
  locally_shown (Some a) h = (h.0, h.1, commit_shown a a.inner a.kept a.writes h.2)

  left_at : (o : Option (Attempt Saved)) (x : Doing) → IsLeft o x → IsLeft (shown_from c o) x
  left_at o doing.Local h = h
  left_at o (doing.Return w) h = h
  left_at o doing.Commit h = λ z. h (locally_shown o z)
  left_at o x h = tt

  pub left_shown : (o : Option (Attempt Saved)) (d : Option Doing) → IfSome d (λ x. IsLeft o x) → IfSome d (λ x. IsLeft (shown_from c o) x)
  left_shown o None h = tt
  left_shown o (Some x) h = left_at o x h

  pub none_shown : (o : Option (Attempt Saved)) → shown_from c o ≡ None → o ≡ None
  none_shown None e = refl
  none_shown (Some a) e = absurd (cc)
