-- The state that begins save.
use Rattle.std.specs.Prelude.{ℕ, List}

-- for a thread that runs code: the registers of the frame on top, the number of frames, and the begin's place
pub record Saved : Type 0 where
  pub registers : List ℕ
  pub frames : ℕ
  pub place : ℕ

-- an inner begin: the state saved there, and the write log at that time
pub record Checkpoint (S : Type 0) : Type 0 where
  pub saved : S
  pub writes : List (ℕ × ℕ)
