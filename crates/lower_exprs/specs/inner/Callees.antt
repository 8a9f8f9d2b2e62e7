-- The contents of a function that may be called.
use Rattle.std.specs.Prelude.{map}
use Rattle.syntax.specs.Views.{parameter_of}
use Rattle.selection.specs.Names.{Callee}
use Rattle.lower_exprs.specs.declared.names.Callee.{Callee as OwnCallee}

module _ {A : Type 0} where
  abbrev pub callee_in : OwnCallee A → Callee
  callee_in c = record { number = c.number; ty = c.ty; parameters = map parameter_of c.parameters.now }
