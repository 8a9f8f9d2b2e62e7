-- The links that the touching functions satisfy.
use Rattle.std.specs.Prelude.{ℕ, List, [], ◌∷◌, Some, Bool, true, false}
use Rattle.syntax.specs.Tree.{Item}
use Rattle.safety.specs.Sites.{Construct, Calls, Uses, Site}
use Rattle.safety.specs.Links.{Link}
use Rattle.safety.specs.SiteLinks.{link_if}
use Rattle.safety.specs.inner.SiteLinks.{site_links}

-- a function with an unprotected access touches, and so does one with an unprotected call of a touching one
abbrev pub bare_links : List ℕ → Bool → Construct → List Link
bare_links f true c = []
bare_links f false (Uses x) = link_if true f
bare_links f false (Calls g) = record { caller = f; callee = Some g } ∷ []
bare_links f false c = []

abbrev pub links_at : List ℕ → Site → List Link
links_at f s = bare_links f s.in_any s.construct

abbrev pub touching_links : List Item → List Link
touching_links = site_links links_at
