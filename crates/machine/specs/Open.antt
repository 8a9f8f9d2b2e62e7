-- A code's meaning inside an outermost transaction, by an attempt's logs and a memory that it may have found.
use Rattle.std.specs.Prelude.{ℕ, Bool, false, List, Some, map}
use Rattle.write_log.specs.Overlay.{overlay}
use Rattle.syntax.specs.Behaviours.{Memory}
use Rattle.syntax.specs.declared.thread_end.Status.TheVariants.{Running}
use Rattle.bytecode.specs.Effects.{Effect, after_cancel}
use Rattle.bytecode.specs.Sequential.{InnerTransaction, OpenTransaction, Sequential}
use Rattle.norec_core.specs.Attempts.{Checkpoint}

abbrev pub inside : {C : Type 0} → C → OpenTransaction C → List Memory → List Memory → List ℕ → Sequential C
inside c i founds lefts text = record {
  configuration = c;
  inside = Some i;
  founds = founds;
  lefts = lefts;
  text = text;
  status = Running;
  wants = false;
}

module _ {C : Type 0} (code : C → Effect C) where
  abbrev pub inner_of : Memory → Checkpoint C → InnerTransaction C
  inner_of m k = record { cancelled = after_cancel (code k.saved) k.saved; mem = overlay m k.writes }

  abbrev pub inners_of : Memory → List (Checkpoint C) → List (InnerTransaction C)
  inners_of m ks = map (inner_of m) ks

  -- the code meaning's thread inside a transaction that found m
  abbrev pub inside_of : Memory → C → List (ℕ × ℕ) → List (Checkpoint C) → Bool → OpenTransaction C
  inside_of m saved writes inner kept = record {
    cancelled = after_cancel (code saved) saved;
    found = m;
    mem = overlay m writes;
    inner = inners_of m inner;
    kept = kept;
  }
