-- The meaning of the program's own links and sets of functions.
use Rattle.std.specs.Prelude.{ℕ, List, [], ◌∷◌, Option, Some, None, Bool, false, map, option_map, unwrap_or}
use Rattle.std.specs.Prelude.{slice_index_or}
use Rattle.name_tables.specs.Named.{first}
use Rattle.name_tables.specs.Known.{entries_in}
use Rattle.safety.specs.declared.set.Link.{Link as OwnLink}
use Rattle.safety.specs.declared.set.FunctionSet.{FunctionSet as OwnSet}
use Rattle.safety.specs.Safe.{FunctionSet}
use Rattle.safety.specs.Links.{Link}

abbrev pub link_of : OwnLink → Link
link_of l = record { caller = l.caller.now; callee = option_map (λ f. f.now) l.callee }

abbrev pub links_of : List OwnLink → List Link
links_of ls = map link_of ls

abbrev pub link_if_any : Option OwnLink → List Link
link_if_any None = []
link_if_any (Some l) = link_of l ∷ []

-- a name is in a set if its number is a member
abbrev pub set_by : (List ℕ → Option ℕ) → List Bool → FunctionSet
set_by numbers members f = unwrap_or (option_map (λ k. slice_index_or members k false) (numbers f)) false

module _ {A : Type 0} where
  abbrev pub set_of : OwnSet A → FunctionSet
  set_of s = set_by (first (entries_in s.numbers)) s.members.items
