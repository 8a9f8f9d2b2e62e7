-- The greatest safe set is a safe set.
use Rattle.std.proofs.Common.{ℕ, List, IsTrue}
use Rattle.std.specs.Prelude.{slice_index_or}
use Rattle.safety.specs.Sites.{Construct, Prints, Relaxes, OpensOuter, Cancels, CancelsOuter, Calls, Uses, sites_of}
use Rattle.safety.specs.Safe.{IsSafeConstruct, IsSafe}
use Rattle.safety.specs.Laws.{SafeIsSafeSet}

-- what is safe for a set is safe for a larger one
safe_in_larger : (small large : List ℕ → Type 0) → ((f : List ℕ) → small f → large f) → (c : Construct) → IsSafeConstruct small c → IsSafeConstruct large c
safe_in_larger small large within Prints h = h
safe_in_larger small large within Relaxes h = h
safe_in_larger small large within OpensOuter h = tt
safe_in_larger small large within Cancels h = tt
safe_in_larger small large within CancelsOuter h = tt
safe_in_larger small large within (Calls f) h = within f h
safe_in_larger small large within (Uses x) h = tt

pub the_law : SafeIsSafeSet
the_law p f (set, member, closed) =
    let here = closed f member in
    (here.0, λ k d below. safe_in_larger (λ g. IsTrue (set g)) (IsSafe p) (λ g h. (set, h, closed)) (slice_index_or (sites_of p f) k d).construct (here.1 k d below))
