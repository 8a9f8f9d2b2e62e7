-- What a cancel of several begins comes to.
use Rattle.std.proofs.Common.{◌≡◌, ◌≤◌, ℕ, List, ◌∷◌, refl, sym, ap, subst, ◌∙◌, length, drop}
use Rattle.std.proofs.Math.ListN.{drop_of_length-le}
use Rattle.nesting.specs.Begins.{Saved, Checkpoint}
use Rattle.nesting.specs.Nests.{Nest, IsCancelled}

-- back at an inner begin, which so many lie inside
pub inner_cancelled : (old new : Nest) (k n : ℕ) → drop k old.begins.inner ≡ record { saved = new.aside; writes = new.writes } ∷ new.begins.inner → k ≡ n → new.begins.saved ≡ old.begins.saved → IsCancelled old (drop n old.begins.inner) new
inner_cancelled old new k n back so_many same =
    subst (λ xs. IsCancelled old xs new) (sym (ap (λ m. drop m old.begins.inner) (sym so_many) ∙ back)) (ap (λ (s : Saved). record { saved = s; inner = new.begins.inner }) same, refl, refl)

-- back at the outermost one
pub outermost_cancelled : (old new : Nest) (n : ℕ) (ls : List (Checkpoint Saved)) → length ls ≤ n → new.aside ≡ old.begins.saved → new.writes ≡ old.writes → IsCancelled old (drop n ls) new
outermost_cancelled old new n ls le back same = subst (λ xs. IsCancelled old xs new) (sym (drop_of_length-le ls le)) (back, same)
