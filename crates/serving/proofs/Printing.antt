-- Answers for a text after an output was printed.
use Rattle.std.proofs.Common.{ℕ, List, Option}
use Rattle.serving.specs.inner.Serves.{Serves}

pub serves_so : {most : ℕ} {Says Now : ℕ → Option (List ℕ) → Option (List ℕ) → Type 0} {Refuses : Type 0} {Writes Will : Option (List ℕ) → Option (List ℕ) → Type 0} {status : ℕ} {old new : Option (List ℕ)} → Serves most Says ⊥ Writes status old new → (Says status old new → Now status old new) → (Writes old new → Will old new) → Serves most Now Refuses Will status old new
serves_so s says writes = record {
  within = s.within;
  answers = says s.answers;
  refused = λ e. absurd (s.refused e);
  written = writes s.written;
  untouched = s.untouched;
}
