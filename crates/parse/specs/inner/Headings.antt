-- The first tokens of an item, and the branches of an if, as the functions on lists see them.
use Rattle.std.specs.Prelude.{Option, option_map}
use Rattle.syntax.specs.Tree.{Stmt}
use Rattle.syntax.specs.Views.{name_of, stmt_of}
use Rattle.parse.specs.declared.functions.Heading.{Heading}
use Rattle.parse.specs.declared.stmt.Choice.{Choice}
use Rattle.parse.specs.inner.Items.{Header}

abbrev pub heading_of : {A : Type 0} → Heading A → Header
heading_of h = (h.attributes, (h.result, name_of h.name))

abbrev pub branches_of : {A : Type 0} → Choice A → Stmt × Option Stmt
branches_of c = (stmt_of c.then, option_map stmt_of c.other)
