-- Which code is a lowering of a program.
use Rattle.std.specs.Prelude.{◌≡◌, ℕ, suc, ◌≤◌, ◌+◌, List, [], ◌∷◌, ◌++◌, length, Option, Some, None, unwrap_or}
use Rattle.std.specs.Prelude.{option_map, slice_get}
use Rattle.lex.specs.declared.token.Scalar.{Scalar}
use Rattle.lex.specs.declared.token.Scalar.TheVariants.{Int}
use Rattle.syntax.specs.Tree.{Parameter, Stmts, Function, Program}
use Rattle.syntax.specs.Names.{globals, definition_of}
use Rattle.bytecode.specs.Code.{Instr, FunctionCode, Code}
use Rattle.bytecode.specs.Beginning.{worker_among}
use Rattle.lower_spec.specs.Expressions.{LocalScope, Layout, InstructionAt}
use Rattle.lower_spec.specs.Statements.{Exits, StmtsCode}

-- the locals that a function begins with: its parameters, if they have names
abbrev pub parameter_locals : List Parameter → LocalScope
parameter_locals [] = []
parameter_locals (q ∷ qs) =
    unwrap_or (option_map (λ x. record { name = x.text; ty = q.ty; word = 0 } ∷ []) q.name) [] ++ parameter_locals qs

-- a function's own statements are in no loop and in no transaction, and return values of its type
abbrev pub no_exits : Option Scalar → Exits
no_exits result = record {
  break_to = 0;
  continue_to = 0;
  in_loop = 0;
  in_function = 0;
  innermost = None;
  in_outer = None;
  gives = unwrap_or result Int;
}

-- words are set in registers from one on, one after another
abbrev pub ConstantsCode : Code → ℕ → List ℕ → (from to : ℕ) → Type 0
ConstantsCode code r [] from to = to ≡ from
ConstantsCode code r (w ∷ ws) from to = InstructionAt code from (Instr.Constant r w)
    × ConstantsCode code (suc r) ws (suc from) to

-- the code of a function: its constants, its body, and a return if that runs off its end
pub record FunctionIsLowered (p : Program) (code : Code) (g : FunctionCode) (f : Function) (body : Stmts) : Type 0 where
  pub layout : Layout
  pub begins : ℕ
  pub last : ℕ
  pub parameters : g.parameters ≡ length f.parameters
  pub fits : length f.parameters ≤ layout.writable
  pub registers : g.registers ≡ layout.writable + length layout.constants
  pub sets : ConstantsCode code layout.writable layout.constants g.first begins
  pub runs : StmtsCode code layout p (no_exits f.result) (parameter_locals f.parameters) body begins last
  pub returns : InstructionAt code last (Instr.Return None)

-- the code of a program: each function's code is that of the definition of its name, one is worker's, and its globals
-- are the program's
pub record IsLowered (p : Program) (code : Code) : Type 0 where
  pub each : (number : ℕ) (g : FunctionCode) (f : Function) (body : Stmts) →
      slice_get code.functions number ≡ Some g → definition_of p g.name ≡ Some (f, body) →
      FunctionIsLowered p code g f body
  pub worker : FunctionCode
  pub has_worker : worker_among code.functions ≡ Some worker
  pub globals_are : code.globals ≡ globals p
