use Rattle.std.proofs.Common.{◌≡◌, List}
use Rattle.syntax.specs.Behaviours.{Memory}
use Rattle.meaning.specs.inner.Standing.{rest}
use Rattle.meaning.proofs.standing.run.Given as goal

-- the same is left to do as at the beginning
abbrev pub invariant-steps : goal.invariant-steps
invariant-steps g l = (founds : List Memory) → rest l.source l.thread founds ≡ rest l.source l.initial.thread founds
