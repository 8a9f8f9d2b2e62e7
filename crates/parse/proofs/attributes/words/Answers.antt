use Rattle.std.proofs.Common.{refl}
use Rattle.std.proofs.lemmas.List.{map-id}
use Rattle.parse.proofs.code.Made.{seen_as}
use Rattle.parse.proofs.attributes.words.Goals as goal

pub returns : goal.returns
returns g c = seen_as _ _ (λ x. rw (map-id x.0) refl) c.comma_list.result _ c.comma_list.ensures
