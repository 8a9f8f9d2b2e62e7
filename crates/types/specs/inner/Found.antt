-- The results of checking item by item.
use Rattle.std.specs.Prelude.{◌≡◌, ◌≤◌, List}
use Rattle.syntax.specs.declared.limits.TheConstants.{MOST_CELLS}
use Rattle.syntax.specs.Tree.{Item}
use Rattle.syntax.specs.Types.{file_scope}
use Rattle.syntax.specs.Typing.{all_cells}
use Rattle.types.specs.declared.unit.FoundItems.{FoundItems}
use Rattle.types.specs.inner.Known.{known_in, count_in}
use Rattle.types.specs.inner.Bodies.{AreBodies}

-- this is the result of these items
pub record IsFound {A : Type 0} (found : FoundItems A) (items : List Item) : Type 0 where
  pub known : known_in found.names ≡ file_scope items
  pub none : count_in found.names ≡ 0
  pub defined : AreBodies found.bodies items
  pub taken : found.taken ≡ all_cells items
  pub few : found.taken ≤ MOST_CELLS
