-- The links that the unsafe functions satisfy, and those of the functions that are declared safe.
use Rattle.std.specs.Prelude.{ℕ, List, [], ◌∷◌, Some, Bool, true, false}
use Rattle.std.specs.List.{flat_map}
use Rattle.syntax.specs.declared.tree.Attribute.{Attribute}
use Rattle.syntax.specs.declared.tree.Attribute.TheVariants.{Unsafe}
use Rattle.syntax.specs.Tree.{Item, Defines, Shares}
use Rattle.safety.specs.Sites.{Construct, Prints, Relaxes, Calls, Site}
use Rattle.safety.specs.Faults.{says_safe}
use Rattle.safety.specs.Links.{Link}
use Rattle.safety.specs.SiteLinks.{link_if, links_by}

abbrev pub says_unsafe : List Attribute → Bool
says_unsafe [] = false
says_unsafe (Unsafe ∷ rest) = true
says_unsafe (other ∷ rest) = says_unsafe rest

-- a function with anything unsafe is unsafe, and so is one that calls an unsafe one
abbrev pub construct_links : List ℕ → Construct → List Link
construct_links f Prints = link_if true f
construct_links f Relaxes = link_if true f
construct_links f (Calls g) = record { caller = f; callee = Some g } ∷ []
construct_links f c = []

abbrev pub unsafe_at : List ℕ → Site → List Link
unsafe_at f s = construct_links f s.construct

abbrev pub unsafe_links : List Item → List Link
unsafe_links = links_by says_unsafe unsafe_at

-- a function that is declared safe is in the set
abbrev pub safe_links_of : Item → List Link
safe_links_of (Defines f) = link_if (says_safe f.attributes) f.name.text
safe_links_of (Shares gs) = []

abbrev pub safe_links : List Item → List Link
safe_links items = flat_map safe_links_of items
