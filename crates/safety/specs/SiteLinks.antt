-- The links of functions, from their declarations and the sites of their bodies.
use Rattle.std.specs.Prelude.{ℕ, List, [], ◌∷◌, ◌++◌, None, Bool, if◌then◌else◌}
use Rattle.std.specs.List.{flat_map}
use Rattle.syntax.specs.declared.tree.Attribute.{Attribute}
use Rattle.syntax.specs.Tree.{Item, Defines, Shares}
use Rattle.safety.specs.Sites.{Site, body_sites}
use Rattle.safety.specs.Links.{Link}

-- a function is in the set if this holds
abbrev pub link_if : Bool → List ℕ → List Link
link_if b f = if b then record { caller = f; callee = None } ∷ [] else []

-- the links of an item: those of the attributes that put a declared function into the set, and those of its sites
abbrev pub item_links : (List Attribute → Bool) → (List ℕ → Site → List Link) → Item → List Link
item_links declares own (Defines f) =
    link_if (declares f.attributes) f.name.text ++ flat_map (own f.name.text) (body_sites f.parameters f.body)
item_links declares own (Shares gs) = []

abbrev pub links_by : (List Attribute → Bool) → (List ℕ → Site → List Link) → List Item → List Link
links_by declares own items = flat_map (item_links declares own) items
