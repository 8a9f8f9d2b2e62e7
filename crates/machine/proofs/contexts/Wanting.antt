-- Which steps of a thread may want memory.
use Rattle.std.proofs.Common.{◌≡◌, ℕ, Bool, true, false, Option, None, Some, sym, subst}
use Rattle.std.specs.Prelude.{IfSome}
use Rattle.syntax.specs.declared.thread_end.Trap.{Trap}
use Rattle.nesting.specs.Begins.{Saved}
use Rattle.bytecode.specs.Effects.{Effect}
use Rattle.bytecode.specs.Effects.Effect.{Pure, Print, Begin, Read, Write, Commit, Cancel, CancelOuter, Irrevocable, Traps, End}
use Rattle.bytecode.specs.Code.{Code, Configuration, effect, going, onward, setting}
use Rattle.frames.specs.declared.doing.Doing.{Doing}
use Rattle.frames.specs.declared.doing.Doing.TheVariants as doing
use Rattle.frames.specs.Doings.{IsDoingAt}
use Rattle.norec_core.specs.declared.step.Op.{Op}
use Rattle.norec_core.specs.declared.step.Op.TheVariants as op
use Rattle.norec_core.specs.Attempts.{Attempt}
use Rattle.norec_core.specs.Cores.{MayLog, MayWantRoom}
use Rattle.machine.specs.States.{Ready, WantsRoom}
use Rattle.machine.specs.inner.Contexts.{LacksRoom, shown_from, op_by, op_asked}

module _ (code : Code) (c : Configuration) (r : Ready) where
  log_shown : (o : Option (Attempt Saved)) → IfSome o (λ a. MayLog a.phase) → IfSome (shown_from c o) (λ a. MayLog a.phase)
  log_shown None h = h
  log_shown (Some a) h = h

  module _ (o : Option (Attempt Saved)) where
    -- what an instruction of the thread's own wants
    pub own_wants : (x : Effect Configuration) → LacksRoom code c r.call_room r.text_room x → WantsRoom code c r (shown_from c o) x
    own_wants (Print piece d) h = h
    own_wants (Pure d) h = h
    own_wants (Begin d e) h = absurd h
    own_wants (Read cell k) h = absurd h
    own_wants (Write cell v d) h = absurd h
    own_wants (Commit d) h = absurd h
    own_wants Cancel h = absurd h
    own_wants (CancelOuter n) h = absurd h
    own_wants (Irrevocable d) h = absurd h
    own_wants (Traps cause) h = absurd h
    own_wants End h = absurd h

    at : (x : Effect Configuration) → effect code c ≡ x → WantsRoom code c r (shown_from c o) x → WantsRoom code c r (shown_from c o) (effect code c)
    at x e h = subst (WantsRoom code c r (shown_from c o)) (sym e) h

  trap_wants : (reads writes : ℕ) (a : Attempt Saved) (kept trapping : Bool) (cause : Trap) (q : Op) → op_by (doing.Traps cause) kept trapping ≡ Some q → MayWantRoom reads writes (Some a) q → ⊥
  trap_wants reads writes a true false cause q e h = absurd (cc)
  trap_wants reads writes a true true cause q e h = let s : op.Release ≡ q = cc in subst (MayWantRoom reads writes (Some a)) (sym s) h
  trap_wants reads writes a false t cause q e h = let s : op.Release ≡ q = cc in subst (MayWantRoom reads writes (Some a)) (sym s) h

  -- what an operation wants
  pub operation_wants : (o : Option (Attempt Saved)) (trapping : Bool) (x : Doing) (q : Op) → IsDoingAt code c x → op_asked x o trapping ≡ Some q →
      MayWantRoom r.read_room r.write_room o q → WantsRoom code c r (shown_from c o) (effect code c)
  operation_wants o t (doing.Begin to) q d e h = at o (Begin (onward c) (going c to)) d tt
  operation_wants (Some a) t (doing.Read m cell) q d e h =
      let s : op.Read cell ≡ q = cc in
      let w = subst (MayWantRoom r.read_room r.write_room (Some a)) (sym s) h in
      at (Some a) (Read cell (setting c m)) d.0 (w.0, w.1)
  operation_wants (Some a) t (doing.Write cell v) q d e h =
      let s : op.Write cell v ≡ q = cc in
      let w = subst (MayWantRoom r.read_room r.write_room (Some a)) (sym s) h in
      at (Some a) (Write cell v (onward c)) d.0 (w.0, w.1)
  operation_wants (Some a) t doing.Commit q d e h = let s : op.Commit ≡ q = cc in absurd (subst (MayWantRoom r.read_room r.write_room (Some a)) (sym s) h)
  operation_wants (Some a) t doing.Cancel q d e h = let s : op.Cancel ≡ q = cc in absurd (subst (MayWantRoom r.read_room r.write_room (Some a)) (sym s) h)
  operation_wants (Some a) t (doing.CancelOuter n) q d e h = let s : op.CancelOuter n ≡ q = cc in absurd (subst (MayWantRoom r.read_room r.write_room (Some a)) (sym s) h)
  operation_wants (Some a) t doing.Irrevocable q d e h = let s : op.Irrevocable ≡ q = cc in absurd (subst (MayWantRoom r.read_room r.write_room (Some a)) (sym s) h)
  operation_wants (Some a) t (doing.Traps cause) q d e h = absurd (trap_wants r.read_room r.write_room a a.kept t cause q e h)
  operation_wants (Some a) t doing.Local q d e h = absurd (cc)
  operation_wants (Some a) t doing.Call q d e h = absurd (cc)
  operation_wants (Some a) t (doing.Return w) q d e h = absurd (cc)
  operation_wants (Some a) t doing.End q d e h = absurd (cc)
  operation_wants (Some a) t (doing.PrintText k) q d e h = absurd (cc)
  operation_wants (Some a) t (doing.PrintNumber z) q d e h = absurd (cc)
  operation_wants None t (doing.Read m cell) q d e h = absurd (cc)
  operation_wants None t (doing.Write cell v) q d e h = absurd (cc)
  operation_wants None t doing.Commit q d e h = absurd (cc)
  operation_wants None t doing.Cancel q d e h = absurd (cc)
  operation_wants None t (doing.CancelOuter n) q d e h = absurd (cc)
  operation_wants None t doing.Irrevocable q d e h = absurd (cc)
  operation_wants None t (doing.Traps cause) q d e h = absurd (cc)
  operation_wants None t doing.Local q d e h = absurd (cc)
  operation_wants None t doing.Call q d e h = absurd (cc)
  operation_wants None t (doing.Return w) q d e h = absurd (cc)
  operation_wants None t doing.End q d e h = absurd (cc)
  operation_wants None t (doing.PrintText k) q d e h = absurd (cc)
  operation_wants None t (doing.PrintNumber z) q d e h = absurd (cc)
