-- The sites of one item.
use Rattle.std.specs.Prelude.{ℕ, List, [], bytes_eq, if◌then◌else◌}
use Rattle.syntax.specs.Tree.{Item, Defines, Shares}
use Rattle.safety.specs.Sites.{Site, body_sites}

-- the sites of an item that is a function of this name; other items have none
abbrev pub own_sites : Item → List ℕ → List Site
own_sites (Shares gs) x = []
own_sites (Defines f) x = if bytes_eq f.name.text x then body_sites f.parameters f.body else []
