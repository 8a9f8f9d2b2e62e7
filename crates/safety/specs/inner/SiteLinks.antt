-- The links of items, if only sites give links.
use Rattle.std.specs.Prelude.{ℕ, List, Bool, false}
use Rattle.syntax.specs.declared.tree.Attribute.{Attribute}
use Rattle.syntax.specs.Tree.{Item}
use Rattle.safety.specs.Sites.{Site}
use Rattle.safety.specs.Links.{Link}
use Rattle.safety.specs.SiteLinks.{links_by}

-- attributes give no links
abbrev pub no_attribute : List Attribute → Bool
no_attribute attributes = false

-- the links of items, if only sites give links
abbrev pub site_links : (List ℕ → Site → List Link) → List Item → List Link
site_links = links_by no_attribute
