-- The links that the functions that lead to an outer transaction satisfy.
use Rattle.std.specs.Prelude.{ℕ, List, [], ◌∷◌, Some, true}
use Rattle.syntax.specs.Tree.{Item}
use Rattle.safety.specs.Sites.{Construct, OpensOuter, Calls, Site}
use Rattle.safety.specs.Links.{Link}
use Rattle.safety.specs.SiteLinks.{link_if}
use Rattle.safety.specs.inner.SiteLinks.{site_links}

-- a function with an outer transaction is in the set, and so is one that calls one of the set
abbrev pub opening_links : List ℕ → Construct → List Link
opening_links f OpensOuter = link_if true f
opening_links f (Calls g) = record { caller = f; callee = Some g } ∷ []
opening_links f c = []

abbrev pub opening_at : List ℕ → Site → List Link
opening_at f s = opening_links f s.construct

abbrev pub outer_links : List Item → List Link
outer_links = site_links opening_at
