-- The instructions that are picked for functions and programs.
use Rattle.std.specs.Prelude.{ℕ, suc, ◌+◌, nat_le, if◌then◌else◌, List, [], ◌∷◌, ◌++◌, length, map, Option, Some, None}
use Rattle.std.specs.Prelude.{unwrap_or}
use Rattle.lex.specs.declared.token.Scalar.{Scalar}
use Rattle.lex.specs.declared.token.Scalar.TheVariants.{Int}
use Rattle.syntax.specs.Tree.{Function, Stmts, Defines, Shares, Program}
use Rattle.syntax.specs.Names.{globals}
use Rattle.bytecode.specs.declared.instr.Instr.{Instr}
use Rattle.bytecode.specs.declared.instr.Instr.TheVariants as own
use Rattle.bytecode.specs.Code.{FunctionCode, Code}
use Rattle.bytecode.specs.Views.{instr_of}
use Rattle.selection.specs.declared.locations.Exits.{Exits}
use Rattle.selection.specs.Lists.{Lists}
use Rattle.bytecode.specs.declared.limits.TheConstants.{MOST_REGISTERS}
use Rattle.lower_spec.specs.Expressions.{Layout}
use Rattle.lower_spec.specs.Programs.{parameter_locals}
use Rattle.selection.specs.Simples.{Written}
use Rattle.selection.specs.Loops.{in_loops}
use Rattle.selection.specs.Statements.{stmts_code}

abbrev pub no_exits : Option Scalar → Exits
no_exits result = record {
  break_to = 0;
  continue_to = 0;
  in_loop = 0;
  in_function = 0;
  to_outer = 0;
  gives = unwrap_or result Int;
}

-- a function's body with these constants, and a return if that runs off its end
abbrev pub body_with : Layout → Program → Function → Stmts → ℕ → Lists → Written
body_with layout p f body from l =
    let first = record l { registers = length f.parameters; layout = layout } in
    let made = stmts_code p body (no_exits f.result) (parameter_locals f.parameters) from first in
    record { code = made.code ++ own.Return ∷ []; lists = made.lists; to = made.to + 1 }

abbrev pub nothing_preloaded : Layout
nothing_preloaded = record { writable = 0; constants = [] }

-- words are set in registers from one on
abbrev pub all_set : ℕ → List ℕ → List Instr
all_set r [] = []
all_set r (w ∷ ws) = own.Constant r w ∷ all_set (suc r) ws

-- a body that finds these constants preloaded, and before it the instructions that set them
abbrev pub body_preloaded : Layout → Program → Function → Stmts → ℕ → Lists → Written
body_preloaded layout p f body from l =
    let made = body_with layout p f body (from + length layout.constants) l in
    record {
      code = all_set layout.writable layout.constants ++ made.code;
      lists = record made.lists { registers = layout.writable + length layout.constants };
      to = made.to;
    }

-- a body unchanged, if its loops have no constant operands or a function may not have so many registers; or else
-- one that finds them preloaded, in registers after all those of the unchanged body
abbrev pub body_better : Program → Function → Stmts → ℕ → Lists → (plain : Written) → (constants : List ℕ) → Written
body_better p f body from l plain [] = plain
body_better p f body from l plain (w ∷ ws) =
    if nat_le (plain.lists.registers + length (w ∷ ws)) MOST_REGISTERS
    then body_preloaded (record { writable = plain.lists.registers; constants = w ∷ ws }) p f body from l
    else plain

abbrev pub body_written : Program → Function → Stmts → ℕ → Lists → Written
body_written p f body from l =
    let plain = body_with nothing_preloaded p f body from l in
    body_better p f body from l plain (in_loops from plain.code)

-- the codes of functions, and the lists after them
pub record FunctionCodes : Type 0 where
  pub functions : List FunctionCode
  pub code : List Instr
  pub lists : Lists
  pub to : ℕ

abbrev pub nothing_made : ℕ → Lists → FunctionCodes
nothing_made from l = record { functions = []; code = []; lists = l; to = from }

abbrev pub function_code : Function → ℕ → Written → FunctionCode
function_code f from w =
    record { name = f.name.text; first = from; registers = w.lists.registers; parameters = length f.parameters }

abbrev pub put_before : FunctionCode → Written → FunctionCodes → FunctionCodes
put_before g w rest =
    record { functions = g ∷ rest.functions; code = w.code ++ rest.code; lists = rest.lists; to = rest.to }

-- a function's code, if it has a body, and then the rest
abbrev pub made_first : Program → Function → Option Stmts → (ℕ → Lists → FunctionCodes) → ℕ → Lists → FunctionCodes
made_first p f None rest from l = rest from l
made_first p f (Some body) rest from l =
    let w = body_written p f body from l in put_before (function_code f from w) w (rest w.to w.lists)

-- the functions that these items of a program define, in order
abbrev pub all_made : Program → Program → ℕ → Lists → FunctionCodes
all_made p [] from l = nothing_made from l
all_made p (Shares gs ∷ items) from l = all_made p items from l
all_made p (Defines f ∷ items) from l = made_first p f f.body (all_made p items) from l

-- the codes of the functions that these first items of a program define
abbrev pub made_for : Program → Program → FunctionCodes
made_for p items = all_made p items 0 (record { arguments = []; texts = []; registers = 0; layout = nothing_preloaded })

abbrev pub made_of : Program → FunctionCodes
made_of p = made_for p p

-- the code that is picked for a program
abbrev pub picked_code : Program → Code
picked_code p =
    let made = made_of p in
    record {
      functions = made.functions;
      instructions = map (instr_of made.lists.arguments) made.code;
      texts = made.lists.texts;
      globals = globals p;
    }
