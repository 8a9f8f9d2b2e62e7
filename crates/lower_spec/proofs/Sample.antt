-- A sample: a program with code that stands for it, and what both do.
-- int x; void worker(int self) { int i = 0; while (i < 3) { __transaction_atomic { x += i; } i++; } }
use Rattle.std.proofs.Common.{◌≡◌, ℕ, suc, zero, List, [], ◌∷◌, Option, Some, None, refl, ap, ◌∙◌, subst, arith, inl, inr}
use Rattle.std.specs.Prelude.{slice_get, codes}
use Rattle.lex.specs.declared.token.Span.{Span}
use Rattle.lex.specs.declared.token.Scalar.TheVariants.{Int}
use Rattle.syntax.specs.declared.tree.BinaryOp.TheVariants.{Add, Less}
use Rattle.syntax.specs.declared.tree.IncDec.TheVariants.{Increment}
use Rattle.syntax.specs.declared.tree.Mode.TheVariants.{Atomic}
use Rattle.syntax.specs.declared.tree.TransactionKind.TheVariants.{Plain}
use Rattle.syntax.specs.Tree.{Name, Variable, Constant, Binary, Assign, Adjust, Stmt, Stmts, Declare, Block, Do, While, Transaction, Function, Global, Defines, Shares, Program}
use Rattle.syntax.specs.Names.{definition_of}
use Rattle.syntax.specs.Threads.{thread}
use Rattle.bytecode.specs.Sequential.{meaning}
use Rattle.bytecode.specs.Code.{Code, FunctionCode, Instr, effect}
use Rattle.bytecode.specs.Beginning.{beginning}
use Rattle.lower_spec.specs.Expressions.{Layout}
use Rattle.lower_spec.specs.Statements.{LocalAt, CellAt}
use Rattle.lower_spec.specs.Programs.{FunctionIsLowered, IsLowered}
use Rattle.lower_spec.proofs.Unconverted.{own_is, stored_is}

abbrev nowhere : Span
nowhere = record { start = 0; end = 0 }

abbrev named : List ℕ → Name
named text = record { text = text; span = nowhere }

abbrev adding : Stmt
adding = Transaction (Plain Atomic) (Stmts.◌∷◌ (Do (Assign (Variable (named (codes "x"))) (Some Add) (Variable (named (codes "i"))))) Stmts.[]) nowhere

abbrev stepping : Stmt
stepping = Do (Adjust (Variable (named (codes "i"))) Increment)

abbrev looping : Stmt
looping = While (Binary Less (Variable (named (codes "i"))) (Constant 3 Int nowhere) nowhere) (Block (Stmts.◌∷◌ adding (Stmts.◌∷◌ stepping Stmts.[])))

abbrev declaring : Stmt
declaring = Declare (record { ty = Int; declarators = record { name = named (codes "i"); first = Some (Constant 0 Int nowhere) } ∷ [] })

abbrev body : Stmts
body = Stmts.◌∷◌ declaring (Stmts.◌∷◌ looping Stmts.[])

abbrev worker : Function
worker = record { attributes = []; result = None; name = named (codes "worker"); parameters = record { ty = Int; name = Some (named (codes "self")) } ∷ []; body = Some body }

abbrev x : Global
x = record { ty = Int; name = named (codes "x"); length = None; first = [] }

abbrev program : Program
program = Shares (x ∷ []) ∷ Defines worker ∷ []

abbrev function : FunctionCode
function = record { name = codes "worker"; first = 0; registers = 5; parameters = 1 }

-- i is computed into its own register, the loop tests at its bottom, and its 3 and its 1 are preloaded
abbrev code : Code
code = record {
  functions = function ∷ [];
  instructions =
      Instr.Constant 3 3 ∷ Instr.Constant 4 1
      ∷ Instr.Constant 1 0 ∷ Instr.Constant 1 0 ∷ Instr.Jump 11
      ∷ Instr.Begin 10 ∷ Instr.Read 2 0 ∷ Instr.Compute Add Int 2 2 1 ∷ Instr.Write 0 2 ∷ Instr.Commit
      ∷ Instr.Compute Add Int 1 1 4
      ∷ Instr.Compute Less Int 2 1 3 ∷ Instr.JumpNonzero 2 5
      ∷ Instr.Return None ∷ [];
  texts = [];
  globals = x ∷ [];
}

abbrev layout : Layout
layout = record { writable = 3; constants = 3 ∷ 1 ∷ [] }

worker_is_lowered : FunctionIsLowered program code function worker body
worker_is_lowered = record {
  layout = layout;
  begins = 2;
  last = 13;
  parameters = refl;
  fits = omega arith;
  registers = refl;
  sets = (refl, (refl, refl));
  returns = refl;
  runs = (
    4,
    record {
      below = omega arith;
      zeroes = refl;
      mid = 4;
      value = record {
        free = 2;
        room = omega arith;
        stores = record {
          mid = 4;
          r = 1;
          sets = record { to_is = refl; takes = inr refl; register = omega arith; type_is = refl; instr = refl };
          stores = inr (refl, refl);
        };
      };
      goes_on = refl;
    },
    (
      13,
      record {
        test_at = 11;
        body_at = 5;
        out = 13;
        last = 11;
        break_to = 13;
        continue_to = 11;
        enters = inr refl;
        tests = record {
          free = 2;
          room = omega arith;
          leads = inr (inl (record {
            mid = 12;
            r = 2;
            t = Int;
            computes = record {
              mid = 11;
              last = 11;
              later = 2;
              ra = 1;
              rb = 3;
              ta = Int;
              tb = Int;
              left = own_is code layout _ _ _ _ _ _ _ (record { known = omega arith; to_is = refl; register = refl; type_is = refl });
              is_above = omega arith;
              apart = inl (omega arith);
              right = (refl, inr (record { number = 0; known = refl; to_is = refl; register = refl; type_is = refl }));
              operates = record { to_is = refl; takes = omega arith; register = omega arith; type_is = refl; instr = refl };
            };
            jumps = refl;
            leads = inl refl;
          }));
        };
        ends = inl refl;
        body = (
          10,
          record {
            last = 9;
            begins = refl;
            commits = refl;
            to_is = refl;
            runs = (
              9,
              record {
                target = CellAt (record { global = x; cell = 0 });
                mid = 6;
                done = 8;
                later = 2;
                r = 2;
                t = Int;
                goes_to = inl (refl, refl);
                room = omega arith;
                spares = tt;
                operates = record {
                  mid = 7;
                  last = 7;
                  later = 3;
                  ra = 2;
                  rb = 1;
                  ta = Int;
                  tb = Int;
                  left = own_is code layout _ _ _ _ _ _ _ (record { to_is = refl; takes = omega arith; register = omega arith; type_is = refl; instr = refl });
                  is_above = omega arith;
                  apart = inl (omega arith);
                  right = own_is code layout _ _ _ _ _ _ _ (record { known = omega arith; to_is = refl; register = refl; type_is = refl });
                  operates = record { to_is = refl; takes = omega arith; register = omega arith; type_is = refl; instr = refl };
                };
                stores = stored_is code layout program _ _ _ _ _ (inl (refl, refl));
              },
              refl,
            );
          },
          (
            11,
            record {
              target = LocalAt (1, Int);
              mid = 10;
              done = 11;
              later = 2;
              r = 1;
              t = Int;
              goes_to = inl (refl, (omega arith, refl));
              room = omega arith;
              spares = tt;
              operates = record {
                mid = 10;
                last = 10;
                later = 2;
                ra = 1;
                rb = 4;
                ta = Int;
                tb = Int;
                left = own_is code layout _ _ _ _ _ _ _ (refl, refl, refl);
                is_above = omega arith;
                apart = inl (omega arith);
                right = (refl, inr (record { number = 1; known = refl; to_is = refl; register = refl; type_is = refl }));
                operates = record { to_is = refl; takes = inr refl; register = omega arith; type_is = refl; instr = refl };
              };
              stores = stored_is code layout program _ _ _ _ _ (inr (refl, refl));
            },
            refl,
          ),
        );
        again = inl refl;
        breaks = inl refl;
        continues = inl refl;
      },
      refl,
    ),
  );
}

abbrev function_or : FunctionCode → Option FunctionCode → FunctionCode
function_or d None = d
function_or d (Some g) = g

abbrev definition_or : Function → Option (Function × Stmts) → Function
definition_or d None = d
definition_or d (Some f) = f.0

abbrev body_or : Stmts → Option (Function × Stmts) → Stmts
body_or d None = d
body_or d (Some f) = f.1

each_is : (number : ℕ) (g : FunctionCode) (f : Function) (b : Stmts) → slice_get code.functions number ≡ Some g → definition_of program g.name ≡ Some (f, b) → FunctionIsLowered program code g f b
each_is zero g f b e d =
    let same : function ≡ g = ap (function_or function) e in
    let there : definition_of program function.name ≡ Some (f, b) = ap (λ (h : FunctionCode). definition_of program h.name) same ∙ d in
    subst (λ (h : FunctionCode). FunctionIsLowered program code h f b) same
    (subst (λ (h : Function). FunctionIsLowered program code function h b) (ap (definition_or worker) there)
    (subst (λ (s : Stmts). FunctionIsLowered program code function worker s) (ap (body_or body) there) worker_is_lowered))
each_is (suc n) g f b e d = cc e

sample_is_lowered : IsLowered program code
sample_is_lowered = record { each = each_is; worker = function; has_worker = refl; globals_are = refl }

-- three transactions, which find 5, 7 and 0, leave 5, 8 and 2: the source after enough ticks, the code after enough
-- instructions
abbrev founds : List (List ℕ)
founds = (5 ∷ []) ∷ (7 ∷ []) ∷ (0 ∷ []) ∷ []

source_leaves : (thread program 0 founds 40).lefts ≡ (5 ∷ []) ∷ (8 ∷ []) ∷ (2 ∷ []) ∷ []
source_leaves = refl

code_leaves : (meaning (effect code) (beginning code) 0 founds 60).lefts ≡ (5 ∷ []) ∷ (8 ∷ []) ∷ (2 ∷ []) ∷ []
code_leaves = refl

both_end : meaning (effect code) (beginning code) 0 founds 60 ≡ thread program 0 founds 40
both_end = refl
