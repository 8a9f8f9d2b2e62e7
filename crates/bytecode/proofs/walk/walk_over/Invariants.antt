use Rattle.std.proofs.Common.{◌≡◌, ℕ, List, ◌-◌, length, map}
use Rattle.bytecode.specs.Code.{Code, FunctionCode}
use Rattle.bytecode.specs.Views.{instr_of}
use Rattle.bytecode.proofs.Walks.{Walked}
use Rattle.bytecode.proofs.walk.walk_over.Given as goal

-- what stays so of the arrivals and of the places to go on from
abbrev pub invariant-places : goal.invariant-places
invariant-places g l = record {
  walked : (code : Code) (arguments : List ℕ) (f : FunctionCode) → code.instructions ≡ map (instr_of arguments) l.instrs → f.first ≡ l.first → Walked code f l.arrivals l.work.items l.made;
  long : length l.arrivals ≡ l.behind - l.first;
}
