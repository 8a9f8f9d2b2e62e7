-- The items of a block.
use Rattle.std.specs.Prelude.{Option, Some, None}
use Rattle.syntax.specs.Tree.{Declaration, Stmt, Declare}

-- the declaration that a statement is, if it is one
abbrev pub declaration_in : Stmt → Option Declaration
declaration_in (Declare d) = Some d
declaration_in s = None
