-- How a call begins.
use Rattle.std.specs.Prelude.{ℕ, List, Option}
use Rattle.syntax.specs.Tree.{Scalar, Program, Stmts}
use Rattle.syntax.specs.declared.value.Value.{Value}
use Rattle.syntax.specs.Names.{Local, definition_of}
use Rattle.syntax.specs.Views.{stmts_of}
use Rattle.syntax.specs.Actions.{Action, pure, or_astray, ◌>>=◌}
use Rattle.syntax.specs.Meaning.{call_locals}
use Rattle.meaning.specs.declared.calls.Begun.{Begun as OwnBegun}
use Rattle.meaning.specs.inner.SourceThread.{items_in}

-- a call at its beginning: the type of its value, its body and its locals
pub record Begins : Type 0 where
  pub ty : Option Scalar
  pub body : Stmts
  pub mine : List Local

abbrev pub begin_call : Program → List ℕ → List Value → Action Begins
begin_call p x vs = do
  f ← or_astray (definition_of p x)
  mine ← or_astray (call_locals f.0.parameters vs)
  pure (record { ty = f.0.result; body = f.1; mine = mine })

module _ {A : Type 0} where
  abbrev pub begun_in : OwnBegun A → Begins
  begun_in b = record { ty = b.ty; body = stmts_of b.body.now; mine = items_in b.mine }
