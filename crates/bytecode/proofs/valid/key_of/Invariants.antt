use Rattle.std.proofs.Common.{◌≡◌, take}
use Rattle.std.specs.List.{fold, flat_map}
use Rattle.std.specs.Hash as fed
use Rattle.std.specs.Hash.DefaultHasher as sip
use Rattle.bytecode.proofs.valid.key_of.Given as goal

-- the hasher has read the names that were passed
abbrev pub invariant-each : goal.invariant-each
invariant-each g l = l.hasher ≡ fold sip.write sip.initial (flat_map (λ f. fed.str f.name) (take l.f-index l.functions))
