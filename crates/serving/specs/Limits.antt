-- Why no code is generated from a text: its program is refused, or the code chosen for it exceeds a limit.
use Rattle.std.specs.Prelude.{ℕ, List, []}
use Rattle.syntax.specs.Grammar.{ParsedSource}
use Rattle.separation.specs.Touching.{IsAccepted}
use Rattle.meaning.specs.InOrder.{IsFaultOfOrder}
use Rattle.lower.specs.Faults.{IsLowerFaultOf}
use Rattle.lower.specs.declared.fault.LowerFault.{LowerFault}
use Rattle.serving.specs.declared.program.SourceFault.{SourceFault}
use Rattle.serving.specs.declared.program.SourceFault.TheVariants.{NoCode}
use Rattle.serving.specs.declared.source.OrderFault.{OrderFault}
use Rattle.serving.specs.declared.source.OrderFault.TheVariants.{Source, Order}
use Rattle.serving.specs.Checks.{Accepts, IsSourceOf}
use Rattle.serving.specs.Refusals.{IsFaultOfSource, IsFaulty}

-- the code chosen for the accepted program of a text exceeds a limit
pub record PassesLimit (text : List ℕ) (fault : LowerFault) : Type 0 where
  pub source : ParsedSource
  pub spelled : IsSourceOf text source
  pub accepted : ∥ IsAccepted source.program ∥₁
  pub because : IsLowerFaultOf source.program fault

-- the meaning of a fault for a text from which code is generated
abbrev pub IsFaultOfText : List ℕ → SourceFault → Type 0
IsFaultOfText text (NoCode fault) = PassesLimit text fault
IsFaultOfText text fault = IsFaultOfSource text fault

-- the meaning of a fault for a text and for this many threads in all orders: these are checked last
abbrev pub IsFaultInOrders : (text : List ℕ) → (threads : ℕ) → OrderFault → Type 0
IsFaultInOrders text threads (Source fault) = IsFaultOfText text fault
IsFaultInOrders text threads (Order fault) = Accepts text × IsFaultOfOrder threads [] fault

-- a program breaks a rule of the language at a position, or has no code, since it exceeds a limit
abbrev pub HasNoCode : List ℕ → Type 0
HasNoCode text = IsFaulty IsFaultOfText text
