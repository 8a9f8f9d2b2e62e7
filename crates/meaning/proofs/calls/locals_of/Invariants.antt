use Rattle.std.proofs.Common.{◌≡◌, ◌++◌, drop, map, option_map}
use Rattle.syntax.specs.Meaning.{call_locals}
use Rattle.syntax.specs.Views.{parameter_of}
use Rattle.meaning.specs.inner.SourceThread.{items_in}
use Rattle.meaning.proofs.calls.locals_of.Given as goal

-- what is left goes behind what there is
abbrev pub invariant-parameters : goal.invariant-parameters
invariant-parameters g l = option_map (λ ls. items_in l.mine ++ ls) (call_locals (map parameter_of (drop l.i l.parameters)) (drop l.i l.values)) ≡ call_locals (map parameter_of l.parameters) l.values
