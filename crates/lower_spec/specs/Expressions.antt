-- Which instructions implement an expression, by cases on the tree. A code may choose its registers: those below `free`
-- hold the locals and values still needed, and an expression writes only registers from `free` on, or its value's home.
-- After all written registers may come constants.
use Rattle.std.specs.Prelude.{◌≡◌, ◌⊎◌, ℕ, suc, ◌<◌, ◌≤◌, ◌+◌, pos, List, [], ◌∷◌, ◌++◌, length, map, Option, Some}
use Rattle.std.specs.Prelude.{None, is_some, unwrap_or, slice_get, if◌then◌else◌}
use Rattle.lex.specs.declared.token.Span.{Span}
use Rattle.lex.specs.declared.token.Scalar.{Scalar}
use Rattle.lex.specs.declared.token.Scalar.TheVariants.{Int, Unsigned, LongLong}
use Rattle.syntax.specs.declared.tree.UnaryOp.TheVariants.{Negate, Keep, Not, Complement}
use Rattle.syntax.specs.declared.tree.BinaryOp.{BinaryOp}
use Rattle.syntax.specs.declared.tree.BinaryOp.TheVariants.{Equal, NotEqual}
use Rattle.syntax.specs.declared.tree.LogicalOp.TheVariants.{AndThen, OrElse}
use Rattle.syntax.specs.Tree.{Expr, Exprs, Variable, Constant, Element, Call, Parenthesized, Cast, Unary, Binary}
use Rattle.syntax.specs.Tree.{Logical, Conditional, InTransaction, Stmts, Parameter, Function, Program}
use Rattle.syntax.specs.Numbers.{word_of, number, operand_type, result_type}
use Rattle.syntax.specs.Names.{Local, newest, global_of, cells, GlobalCells, definition_of}
use Rattle.syntax.specs.Types.{type_of, running_scope}
use Rattle.syntax.specs.Laws.{shape}
use Rattle.bytecode.specs.Code.{Instr, Code, FunctionCode, computing}

-- the locals known at a point, by name and type; their words are irrelevant
abbrev pub LocalScope : Type 0
LocalScope = List Local

abbrev pub IsLike : LocalScope → List Local → Type 0
IsLike scope ls = map shape ls ≡ map shape scope

-- an instruction is at a place
abbrev pub InstructionAt : Code → ℕ → Instr → Type 0
InstructionAt code q i = slice_get code.instructions q ≡ Some i

-- one place is another, or has a jump to it
abbrev pub LeadsTo : Code → (q to : ℕ) → Type 0
LeadsTo code q to = (q ≡ to) ⊎ InstructionAt code q (Instr.Jump to)

-- code from one place to another that leaves a value of a type in a register and preserves the registers below `free`
abbrev pub Coded : Type 1
Coded = (from to free r : ℕ) → Scalar → Type 0

-- code that yields a value due in one type, and leaves it in the register; the other type is its own
abbrev pub Due : Type 1
Due = (due : Scalar) → Coded

-- code from a place that leads to one place if a condition holds, and to another if it does not
abbrev pub Branching : Type 1
Branching = (from true_exit false_exit free : ℕ) → Type 0

-- a register that a value may be in: a free one, or its home, the register of the local that is to receive it
abbrev pub MayTake : Option ℕ → (free r : ℕ) → Type 0
MayTake None free r = free ≤ r
MayTake (Some home) free r = (free ≤ r) ⊎ (r ≡ home)

-- the instruction of a complement: for narrow types it is that of unsigned operands
abbrev pub complementing : Scalar → (d a : ℕ) → Instr
complementing LongLong d a = Instr.Complement LongLong d a
complementing t d a = Instr.Complement Unsigned d a

-- the instruction of a conversion, if values may have other words in the new type: an int is sign-extended, and a
-- long long is truncated to its lower half
abbrev pub converting : (s u : Scalar) → Option (ℕ → ℕ → Instr)
converting Int LongLong = Some Instr.Extend
converting LongLong Int = Some Instr.Low
converting LongLong Unsigned = Some Instr.Low
converting s u = None

-- the instruction of a conversion on the way to a cell; a write truncates to the lower half by itself
abbrev pub widening : (s u : Scalar) → Option (ℕ → ℕ → Instr)
widening Int LongLong = Some Instr.Extend
widening s u = None

-- the word of a constant of type s in type u
abbrev pub constant_in : (u s : Scalar) → ℕ → ℕ
constant_in u s n = word_of u (number s (word_of s (pos n)))

abbrev pub types_left : List Scalar → List Scalar
types_left [] = []
types_left (u ∷ us) = us

-- the argument order of a call: first the arguments that a parameter's name binds, and then the others
abbrev pub named_ones : List Parameter → List ℕ → List ℕ
named_ones (q ∷ qs) (r ∷ rs) = if is_some q.name then r ∷ named_ones qs rs else named_ones qs rs
named_ones qs rs = []

abbrev pub nameless_ones : List Parameter → List ℕ → List ℕ
nameless_ones (q ∷ qs) (r ∷ rs) = if is_some q.name then nameless_ones qs rs else r ∷ nameless_ones qs rs
nameless_ones qs rs = []

abbrev pub argument_order : List Parameter → List ℕ → List ℕ
argument_order qs rs = named_ones qs rs ++ nameless_ones qs rs

-- how a function uses its registers: those below `writable` hold its locals and values, and those from there on
-- hold these words from its beginning to its end
pub record Layout : Type 0 where
  pub writable : ℕ
  pub constants : List ℕ

-- a constant 0, against which a comparison tests the other side
abbrev pub IsZeroConstant : Expr → Type 0
IsZeroConstant e = (t : Scalar) × (at : Span) × (e ≡ Constant 0 t at)

module _ (code : Code) (layout : Layout) where
  -- one instruction that yields a value
  pub record GivenBy (home : Option ℕ) (i : Instr) (u : Scalar) (from to free r : ℕ) (t : Scalar) : Type 0 where
    pub to_is : to ≡ suc from
    pub takes : MayTake home free r
    pub register : r < layout.writable
    pub type_is : t ≡ u
    pub instr : InstructionAt code from i

  -- a value in the register ra comes to a register by a conversion: it is there already, or one instruction computes it
  abbrev pub ConvertedBy : Option (ℕ → ℕ → Instr) → Option ℕ → Scalar → (ra from to free r : ℕ) → Type 0
  ConvertedBy None home u ra from to free r = (to ≡ from) × (r ≡ ra)
  ConvertedBy (Some i) home u ra from to free r = GivenBy home (i r ra) u from to free r u

  -- a value in the register ra comes to a register by the conversion from one type to another
  abbrev pub Converts : Option ℕ → (s u : Scalar) → (ra from to free r : ℕ) → Type 0
  Converts home s u ra from to free r = ConvertedBy (converting s u) home u ra from to free r

  -- a value is computed and then converted
  pub record ConvertedCode (home : Option ℕ) (e : Coded) (u : Scalar) (from to free r : ℕ) (t : Scalar) : Type 0 where
    pub mid : ℕ
    pub ra : ℕ
    pub computes : e from mid free ra t
    pub converts : Converts home t u ra mid to free r

  -- an expression's value in the type that is due: a constant is set after conversion
  abbrev pub DueCode : Option ℕ → Expr → Coded → Due
  DueCode home (Constant n s at) e u from to free r t =
      (t ≡ s) × GivenBy home (Instr.Constant r (constant_in u s n)) u from to free r u
  DueCode home e' e u from to free r t = ConvertedCode home e u from to free r t

  -- an expression's value in this type, whatever its own type is
  abbrev pub TypedCode : Option ℕ → Expr → Coded → (u : Scalar) → (from to free r : ℕ) → Type 0
  TypedCode home e' e u from to free r = (t : Scalar) × DueCode home e' e u from to free r t

  -- a local's value is in its register
  pub record LocalIs (locals : ℕ) (l : ℕ × Scalar) (from to r : ℕ) (t : Scalar) : Type 0 where
    pub known : l.0 < locals
    pub to_is : to ≡ from
    pub register : r ≡ l.0
    pub type_is : t ≡ l.1

  -- a word is in a register from the function's beginning on
  pub record IsPreloaded (w : ℕ) (u : Scalar) (from to r : ℕ) (t : Scalar) : Type 0 where
    pub number : ℕ
    pub known : slice_get layout.constants number ≡ Some w
    pub to_is : to ≡ from
    pub register : r ≡ layout.writable + number
    pub type_is : t ≡ u

  -- a word is set in a register, or is preloaded in one
  abbrev pub WordCode : (w : ℕ) (u : Scalar) (from to free r : ℕ) → Type 0
  WordCode w u from to free r =
      GivenBy None (Instr.Constant r w) u from to free r u ⊎ IsPreloaded w u from to r u

  -- an operand of an operator: a constant is set, or is preloaded, after conversion
  abbrev pub OperandCode : Expr → Coded → Due
  OperandCode (Constant n s at) e u from to free r t = (t ≡ s) × WordCode (constant_in u s n) u from to free r
  OperandCode e' e u from to free r t = ConvertedCode None e u from to free r t

  abbrev pub VariableCode : Option ℕ → (locals : ℕ) → Option (ℕ × Scalar) → Option GlobalCells → Coded
  VariableCode home locals (Some l) g from to free r t = LocalIs locals l from to r t
  VariableCode home locals None None from to free r t = ⊥
  VariableCode home locals None (Some g) from to free r t =
      GivenBy home (Instr.Read r g.cell) g.global.ty from to free r t

  pub record ElementCode (home : Option ℕ) (g : GlobalCells) (index : Coded) (from to free r : ℕ) (t : Scalar) :
      Type 0 where
    pub mid : ℕ
    pub ri : ℕ
    pub ti : Scalar
    pub computes : index from mid free ri ti
    pub reads : GivenBy home (Instr.ReadAt r g.cell (cells g.global) ri) g.global.ty mid to free r t

  abbrev pub ElementAt : Option ℕ → Option GlobalCells → Coded → Coded
  ElementAt home None index from to free r t = ⊥
  ElementAt home (Some g) index from to free r t = ElementCode home g index from to free r t

  abbrev pub CastCode : Option ℕ → Expr → Coded → Scalar → Coded
  CastCode home e' e u from to free r t = (t ≡ u) × TypedCode home e' e u from to free r

  -- an operator on one value, whose result has the value's type
  pub record UnaryCode (home : Option ℕ) (instr_of : Scalar → ℕ → Instr) (e : Coded) (from to free r : ℕ) (t : Scalar) :
      Type 0 where
    pub mid : ℕ
    pub ra : ℕ
    pub ta : Scalar
    pub computes : e from mid free ra ta
    pub operates : GivenBy home (instr_of ta ra) ta mid to free r t

  pub record NotCode (home : Option ℕ) (e : Coded) (from to free r : ℕ) (t : Scalar) : Type 0 where
    pub mid : ℕ
    pub ra : ℕ
    pub ta : Scalar
    pub rz : ℕ
    pub computes : e from mid free ra ta
    pub apart : ra < rz
    pub zeroes : GivenBy None (Instr.Constant rz 0) Int mid (suc mid) free rz Int
    pub compares : GivenBy home (Instr.Compute Equal Unsigned r ra rz) Int (suc mid) to free r t

  -- an operator on two values, each in the type in which it is due
  pub record BinaryCode (home : Option ℕ) (op : BinaryOp) (a b : Due) (from to free r : ℕ) (t : Scalar) : Type 0 where
    pub mid : ℕ
    pub last : ℕ
    pub later : ℕ
    pub ra : ℕ
    pub rb : ℕ
    pub ta : Scalar
    pub tb : Scalar
    pub left : a (operand_type op ta tb) from mid free ra ta
    pub is_above : free ≤ later
    pub apart : (ra < later) ⊎ (layout.writable ≤ ra)
    pub right : b (operand_type op tb ta) mid last later rb tb
    pub operates : GivenBy home (computing op (operand_type op ta tb) r ra rb)
        (result_type op (operand_type op ta tb)) last to free r t

  -- a value is computed and tested by a jump; if the jump is not taken, the code continues
  pub record ValueTested (jump : ℕ → ℕ → Instr) (value : Coded) (from there on free : ℕ) : Type 0 where
    pub mid : ℕ
    pub r : ℕ
    pub t : Scalar
    pub computes : value from mid free r t
    pub jumps : InstructionAt code mid (jump r there)
    pub leads : LeadsTo code (suc mid) on

  -- a condition: by its value, or by its operator
  abbrev pub Branches : Coded → Branching → Branching
  Branches value own from true_exit false_exit free =
      ValueTested Instr.JumpZero value from false_exit true_exit free
      ⊎ (ValueTested Instr.JumpNonzero value from true_exit false_exit free ⊎ own from true_exit false_exit free)

  -- one condition and then another: both hold, or either does
  pub record BothHold (a b : Branching) (from true_exit false_exit free : ℕ) : Type 0 where
    pub mid : ℕ
    pub first : a from mid false_exit free
    pub second : b mid true_exit false_exit free

  pub record EitherHolds (a b : Branching) (from true_exit false_exit free : ℕ) : Type 0 where
    pub mid : ℕ
    pub first : a from true_exit mid free
    pub second : b mid true_exit false_exit free

  -- a comparison with 0
  abbrev pub ComparedWithZero : BinaryOp → Expr → Branching → Branching
  ComparedWithZero op b tests from true_exit false_exit free =
      IsZeroConstant b × (((op ≡ NotEqual) × tests from true_exit false_exit free)
      ⊎ ((op ≡ Equal) × tests from false_exit true_exit free))

  -- the int 1 if a condition holds, and 0 if it does not
  pub record TruthCode (home : Option ℕ) (tests : Branching) (from to free r : ℕ) (t : Scalar) : Type 0 where
    pub true_exit : ℕ
    pub false_exit : ℕ
    pub decides : tests from true_exit false_exit free
    pub gives_one : GivenBy home (Instr.Constant r 1) Int true_exit (suc true_exit) free r t
    pub one_leads : LeadsTo code (suc true_exit) to
    pub gives_zero : GivenBy home (Instr.Constant r 0) Int false_exit (suc false_exit) free r t
    pub zero_leads : LeadsTo code (suc false_exit) to

  -- a branch's value, in the type of both, is computed into a register directly, or is moved there
  pub record MovedCode (home : Option ℕ) (e' : Expr) (e : Coded) (from to free r : ℕ) (t : Scalar) : Type 0 where
    pub mid : ℕ
    pub rc : ℕ
    pub computes : TypedCode None e' e t from mid free rc
    pub moves : GivenBy home (Instr.Move r rc) t mid to free r t

  abbrev pub BranchCode : Option ℕ → Expr → (Option ℕ → Coded) → Coded
  BranchCode home e' e from to free r t =
      TypedCode home e' (e home) t from to free r ⊎ MovedCode home e' (e None) from to free r t

  pub record ConditionalCode (home : Option ℕ) (c : Branching) (a b : Coded) (from to free r : ℕ) (t : Scalar) :
      Type 0 where
    pub true_exit : ℕ
    pub false_exit : ℕ
    pub last : ℕ
    pub end : ℕ
    pub tests : c from true_exit false_exit free
    pub then_code : a true_exit last free r t
    pub then_leads : LeadsTo code last to
    pub else_code : b false_exit end free r t
    pub else_leads : LeadsTo code end to

  -- the first of several values, which are due in these types: without a type it keeps its own
  abbrev pub HandedCode : List Scalar → Expr → Coded → (from to free r : ℕ) → Type 0
  HandedCode [] e' e from to free r = (t : Scalar) × e from to free r t
  HandedCode (u ∷ us) e' e from to free r = TypedCode None e' e u from to free r

  -- values from left to right, each in a register of its own
  pub record ArgCode (first : (from to free r : ℕ) → Type 0) (rest : ℕ → ℕ → List ℕ → Type 0) (from free : ℕ)
      (rs : List ℕ) : Type 0 where
    pub last : ℕ
    pub later : ℕ
    pub r : ℕ
    pub others : List ℕ
    pub computes : first from last free r
    pub is_above : free ≤ later
    pub apart : r < later
    pub goes_on : rest last later others
    pub are : rs ≡ r ∷ others

  pub record CallCode (home : Option ℕ) (p : Program) (x : List ℕ)
      (args : List Scalar → (from to free : ℕ) → List ℕ → Type 0) (from to free r : ℕ) (t : Scalar) : Type 0 where
    pub mid : ℕ
    pub number : ℕ
    pub function : FunctionCode
    pub f : Function
    pub body : Stmts
    pub registers_of : List ℕ
    pub gives_args : args (map (λ q. q.ty) f.parameters) from mid free registers_of
    pub calls : GivenBy home (Instr.Call number r (argument_order f.parameters registers_of)) (unwrap_or f.result Int)
        mid to free r t
    pub known : slice_get code.functions number ≡ Some function
    pub named : function.name ≡ x
    pub defined : definition_of p x ≡ Some (f, body)

  -- a value that is computed in a transaction of its own
  pub record ValueTransactionCode (e : Coded) (from to free r : ℕ) (t : Scalar) : Type 0 where
    pub last : ℕ
    pub begins : InstructionAt code from (Instr.Begin to)
    pub computes : e (suc from) last free r t
    pub commits : InstructionAt code last Instr.Commit
    pub to_is : to ≡ suc last

  module _ (p : Program) where
    abbrev mutual
      -- an expression's value is computed into the register r; its type is t
      pub ExprCode : Option ℕ → LocalScope → Expr → Coded
      ExprCode home scope (Variable x) = VariableCode home (length scope) (newest scope x.text) (global_of p x.text)
      ExprCode home scope (Constant n u at) = λ from to free r t.
          GivenBy home (Instr.Constant r (word_of u (pos n))) u from to free r t
      ExprCode home scope (Element x i at) = ElementAt home (global_of p x.text) (ExprCode None scope i)
      ExprCode home scope (Call f es at) = CallCode home p f.text (λ ts. ArgsCode scope ts es)
      ExprCode home scope (Parenthesized e at) = ExprCode home scope e
      ExprCode home scope (Cast u e at) = CastCode home e (ExprCode home scope e) u
      ExprCode home scope (Unary Negate e at) = λ from to free r t.
          UnaryCode home (λ ta ra. Instr.Negate ta r ra) (ExprCode None scope e) from to free r t
      ExprCode home scope (Unary Keep e at) = ExprCode home scope e
      ExprCode home scope (Unary Not e at) = NotCode home (ExprCode None scope e)
      ExprCode home scope (Unary Complement e at) = λ from to free r t.
          UnaryCode home (λ ta ra. complementing ta r ra) (ExprCode None scope e) from to free r t
      ExprCode home scope (Binary op a b at) =
          BinaryCode home op (OperandCode a (ExprCode None scope a)) (OperandCode b (ExprCode None scope b))
      ExprCode home scope (Logical AndThen a b at) =
          TruthCode home (BothHold (Branches (ExprCode None scope a) (OwnTests scope a))
          (Branches (ExprCode None scope b) (OwnTests scope b)))
      ExprCode home scope (Logical OrElse a b at) =
          TruthCode home (EitherHolds (Branches (ExprCode None scope a) (OwnTests scope a))
          (Branches (ExprCode None scope b) (OwnTests scope b)))
      ExprCode home scope (Conditional c a b at) = λ from to free r t.
          ConditionalCode home (Branches (ExprCode None scope c) (OwnTests scope c))
          (BranchCode home a (λ h. ExprCode h scope a)) (BranchCode home b (λ h. ExprCode h scope b)) from to free r t
          × ((ls : List Local) → IsLike scope ls → type_of (running_scope p ls) (Conditional c a b at) ≡ Some t)
      ExprCode home scope (InTransaction mode keyword e at) = ValueTransactionCode (ExprCode home scope e)

      -- a condition whose operator jumps by itself, without a value: that would be 0 or 1, which each type represents,
      -- so that no cast changes the test
      pub OwnTests : LocalScope → Expr → Branching
      OwnTests scope (Parenthesized e at) = OwnTests scope e
      OwnTests scope (Cast u e at) = OwnTests scope e
      OwnTests scope (Unary Keep e at) = OwnTests scope e
      OwnTests scope (Unary Not e at) = λ from true_exit false_exit free.
          Branches (ExprCode None scope e) (OwnTests scope e) from false_exit true_exit free
      OwnTests scope (Binary op a b at) = ComparedWithZero op b (Branches (ExprCode None scope a) (OwnTests scope a))
      OwnTests scope (Logical AndThen a b at) =
          BothHold (Branches (ExprCode None scope a) (OwnTests scope a))
          (Branches (ExprCode None scope b) (OwnTests scope b))
      OwnTests scope (Logical OrElse a b at) =
          EitherHolds (Branches (ExprCode None scope a) (OwnTests scope a))
          (Branches (ExprCode None scope b) (OwnTests scope b))
      OwnTests scope e = λ from true_exit false_exit free. ⊥

      pub ArgsCode : LocalScope → List Scalar → Exprs → (from to free : ℕ) → List ℕ → Type 0
      ArgsCode scope ts Exprs.[] from to free rs = (to ≡ from) × (rs ≡ [])
      ArgsCode scope ts (Exprs.◌∷◌ e es) from to free rs =
          ArgCode (HandedCode ts e (ExprCode None scope e))
          (λ mid later others. ArgsCode scope (types_left ts) es mid to later others) from free rs

    -- code that leads to `true_exit` if an expression's value is not 0, and to `false_exit` if it is
    abbrev pub CondCode : LocalScope → Expr → Branching
    CondCode scope e = Branches (ExprCode None scope e) (OwnTests scope e)
