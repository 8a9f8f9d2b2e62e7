-- The sites that a traversal adds to a list.
use Rattle.std.specs.Prelude.{◌≡◌, List, ◌++◌, Option}
use Rattle.syntax.specs.Tree.{Expr, Simple, Start}
use Rattle.safety.specs.declared.site.Site.{Site as OwnSite}
use Rattle.safety.specs.Sites.{Site, Around, with_names, sites_if_any, expr_sites, simple_sites, start_sites}
use Rattle.safety.specs.Sites.{names_of_start}
use Rattle.safety.specs.Views.{sites_of_own}

-- these sites are appended
abbrev pub Appends : List OwnSite → List OwnSite → List Site → Type 0
Appends old new more = sites_of_own new ≡ sites_of_own old ++ more

-- the sites of the head of a `for`
abbrev pub head_sites : Start → Option Expr → Option Simple → Around → List Site
head_sites start c step w =
    let w' = with_names (names_of_start start) w in
    start_sites start w ++ sites_if_any expr_sites c w' ++ sites_if_any simple_sites step w'
