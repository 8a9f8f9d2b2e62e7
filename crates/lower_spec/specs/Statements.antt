-- Which instructions implement a statement, by cases on the tree. Locals are in registers 0, 1, .., in order.
use Rattle.std.specs.Prelude.{◌≡◌, ◌⊎◌, ℕ, zero, suc, ◌<◌, ◌≤◌, List, [], ◌∷◌, ◌++◌, length, Option, Some, None}
use Rattle.std.specs.Prelude.{slice_get, option_map}
use Rattle.lex.specs.declared.token.Scalar.{Scalar}
use Rattle.lex.specs.declared.token.Scalar.TheVariants.{Int}
use Rattle.syntax.specs.declared.tree.BinaryOp.{BinaryOp}
use Rattle.syntax.specs.declared.tree.Mode.{Mode}
use Rattle.syntax.specs.declared.tree.Mode.TheVariants.{Atomic}
use Rattle.syntax.specs.declared.tree.TransactionKind.{TransactionKind}
use Rattle.syntax.specs.declared.tree.TransactionKind.TheVariants.{Plain, Outer}
use Rattle.syntax.specs.Tree.{Expr, Exprs, Variable, Constant, Element, Simple, Evaluate, Assign, Adjust, Declarator}
use Rattle.syntax.specs.Tree.{Start, Nothing, Declares, Does, Stmt, Stmts, Empty, Declare, Do, Block, Print, If, IfElse}
use Rattle.syntax.specs.Tree.{While, DoWhile, For, Break, Continue, Return, Transaction, Cancel, CancelOuter, Program}
use Rattle.syntax.specs.Meaning.{op_of, mode_of}
use Rattle.syntax.specs.Formats.{Piece, Literal, Specifier, pieces}
use Rattle.syntax.specs.Names.{newest, global_of, cells, GlobalCells}
use Rattle.bytecode.specs.Code.{Instr, Code}
use Rattle.lower_spec.specs.Expressions.{LocalScope, Layout, InstructionAt, LeadsTo, Coded, Due, Branching, converting}
use Rattle.lower_spec.specs.Expressions.{widening}
use Rattle.lower_spec.specs.Expressions.{constant_in, GivenBy, ConvertedBy, ConvertedCode, TypedCode, WordCode}
use Rattle.lower_spec.specs.Expressions.{OperandCode, BinaryCode, ExprCode, CondCode, ArgsCode}

-- the target of an assignment: a local's register, a cell, or an element whose index is in a register
pub data Target : Type 0 where
  LocalAt : (l : ℕ × Scalar) → Target
  CellAt : (g : GlobalCells) → Target
  ElementOf : (g : GlobalCells) (ri : ℕ) → Target

abbrev pub assigning : Target → ℕ → Instr
assigning (LocalAt l) ra = Instr.Move l.0 ra
assigning (CellAt g) ra = Instr.Write g.cell ra
assigning (ElementOf g ri) ra = Instr.WriteAt g.cell (cells g.global) ri ra

-- the home of a value for this target
abbrev pub home_of : Target → Option ℕ
home_of (LocalAt l) = Some l.0
home_of target = None

-- the type of a target's contents, and the instruction that stores a value of another type there
abbrev pub target_type : Target → Scalar
target_type (LocalAt l) = l.1
target_type (CellAt g) = g.global.ty
target_type (ElementOf g ri) = g.global.ty

abbrev pub due : Target → Scalar → Option (ℕ → ℕ → Instr)
due (LocalAt l) s = converting s l.1
due (CellAt g) s = widening s g.global.ty
due (ElementOf g ri) s = widening s g.global.ty

-- the index of an element is below the free registers
abbrev pub Spares : Target → ℕ → Type 0
Spares (ElementOf g ri) later = ri < later
Spares target later = Unit {0}

-- where break and continue lead, how many transactions are open in the loop and in the function, how the innermost of
-- them runs, how many are open inside the innermost outer one, if there is one, and the type of what is returned
pub record Exits : Type 0 where
  pub break_to : ℕ
  pub continue_to : ℕ
  pub in_loop : ℕ
  pub in_function : ℕ
  pub innermost : Option Mode
  pub in_outer : Option ℕ
  pub gives : Scalar

abbrev pub with_level : TransactionKind → Option ℕ → Option ℕ
with_level Outer levels = Some 0
with_level (Plain mode) levels = option_map suc levels

abbrev pub in_transaction : TransactionKind → Exits → Exits
in_transaction kind x = record x {
  in_loop = suc x.in_loop;
  in_function = suc x.in_function;
  innermost = Some (mode_of kind);
  in_outer = with_level kind x.in_outer;
}

-- the instruction that cancels a transaction together with so many that are open inside it
abbrev pub cancelling : ℕ → Instr
cancelling zero = Instr.Cancel
cancelling (suc n) = Instr.CancelOuter (suc (suc n))

abbrev pub looping : Exits → (break_to continue_to : ℕ) → Exits
looping x break_to continue_to = record x { break_to = break_to; continue_to = continue_to; in_loop = 0 }

abbrev pub with_local : LocalScope → List ℕ → Scalar → LocalScope
with_local scope x t = scope ++ record { name = x; ty = t; word = 0 } ∷ []

-- the locals known after a declaration, after a statement, and at the end of statements
abbrev pub with_declared : Scalar → List Declarator → LocalScope → LocalScope
with_declared t [] scope = scope
with_declared t (d ∷ ds) scope = with_declared t ds (with_local scope d.name.text t)

abbrev pub locals_of_start : Start → LocalScope → LocalScope
locals_of_start Nothing scope = scope
locals_of_start (Declares d) scope = with_declared d.ty d.declarators scope
locals_of_start (Does s) scope = scope

abbrev pub locals_after : Stmt → LocalScope → LocalScope
locals_after (Declare d) scope = with_declared d.ty d.declarators scope
locals_after s scope = scope

module _ (code : Code) (layout : Layout) (p : Program) where
  abbrev pub Coding : Option ℕ → LocalScope → Expr → Coded
  Coding home scope e = ExprCode code layout p home scope e

  abbrev pub Testing : LocalScope → Expr → Branching
  Testing scope e = CondCode code layout p scope e

  -- n commits, and then an instruction
  abbrev pub Leaves : ℕ → ℕ → Instr → Type 0
  Leaves q zero i = InstructionAt code q i
  Leaves q (suc n) i = InstructionAt code q Instr.Commit × Leaves (suc q) n i

  -- a value in some register above the locals
  pub record ValueCode (scope : LocalScope) (e : Coded) (from to r : ℕ) : Type 0 where
    pub free : ℕ
    pub room : length scope ≤ free
    pub t : Scalar
    pub computes : e from to free r t

  -- a value in the type that is due, in some register above the locals
  pub record ResultCode (scope : LocalScope) (u : Scalar) (e : Expr) (from to r : ℕ) : Type 0 where
    pub free : ℕ
    pub room : length scope ≤ free
    pub computes : TypedCode code layout None e (Coding None scope e) u from to free r

  -- a condition, with what it needs above the locals
  pub record TestCode (scope : LocalScope) (c : Branching) (from true_exit false_exit : ℕ) : Type 0 where
    pub free : ℕ
    pub room : length scope ≤ free
    pub leads : c from true_exit false_exit free

  abbrev pub VariableTarget : LocalScope → Option (ℕ × Scalar) → Option GlobalCells → Target → Type 0
  VariableTarget scope (Some l) g target = (l.0 < length scope) × (target ≡ LocalAt l)
  VariableTarget scope None None target = ⊥
  VariableTarget scope None (Some g) target = target ≡ CellAt g

  -- an index in a register; it is checked there, unless it is read at once
  pub record ElementTarget (g : GlobalCells) (index : Coded) (from to free : ℕ) (target : Target) : Type 0 where
    pub ri : ℕ
    pub ti : Scalar
    pub computes : index from to free ri ti
    pub target_is : target ≡ ElementOf g ri

  pub record CheckedTarget (g : GlobalCells) (index : Coded) (from to free : ℕ) (target : Target) : Type 0 where
    pub mid : ℕ
    pub ri : ℕ
    pub ti : Scalar
    pub computes : index from mid free ri ti
    pub checks : InstructionAt code mid (Instr.Check ri (cells g.global))
    pub to_is : to ≡ suc mid
    pub target_is : target ≡ ElementOf g ri

  abbrev pub CheckedAt : Option GlobalCells → Coded → (from to free : ℕ) → Target → Type 0
  CheckedAt None index from to free target = ⊥
  CheckedAt (Some g) index from to free target = CheckedTarget g index from to free target

  abbrev pub UncheckedAt : Option GlobalCells → Coded → (from to free : ℕ) → Target → Type 0
  UncheckedAt None index from to free target = ⊥
  UncheckedAt (Some g) index from to free target = ElementTarget g index from to free target

  abbrev pub TargetCode : LocalScope → Expr → (from to free : ℕ) → Target → Type 0
  TargetCode scope (Variable x) from to free target =
      (to ≡ from) × VariableTarget scope (newest scope x.text) (global_of p x.text) target
  TargetCode scope (Element x i at) from to free target =
      CheckedAt (global_of p x.text) (Coding None scope i) from to free target
  TargetCode scope e from to free target = ⊥

  -- an element whose old value is read at once: the read checks the index
  abbrev pub ReadTarget : LocalScope → Expr → (from to free : ℕ) → Target → Type 0
  ReadTarget scope (Element x i at) from to free target =
      UncheckedAt (global_of p x.text) (Coding None scope i) from to free target
  ReadTarget scope e from to free target = ⊥

  abbrev pub FetchCode : Target → Coded
  FetchCode (LocalAt l) from to free r t = (to ≡ from) × (r ≡ l.0) × (t ≡ l.1)
  FetchCode (CellAt g) from to free r t =
      GivenBy code layout None (Instr.Read r g.cell) g.global.ty from to free r t
  FetchCode (ElementOf g ri) from to free r t =
      GivenBy code layout None (Instr.ReadAt r g.cell (cells g.global) ri) g.global.ty from to free r t

  -- a value goes to its target, or is there already
  abbrev pub StoreCode : Target → (r from to : ℕ) → Type 0
  StoreCode target r from to =
      ((to ≡ suc from) × InstructionAt code from (assigning target r)) ⊎ ((to ≡ from) × (home_of target ≡ Some r))

  -- a value of some type in the register ra, which is converted first
  pub record StoredCode (target : Target) (s : Scalar) (ra from to free : ℕ) : Type 0 where
    pub mid : ℕ
    pub r : ℕ
    pub converts : ConvertedBy code layout (due target s) (home_of target) (target_type target) ra from mid free r
    pub stores : StoreCode target r mid to

  -- a value that is computed and goes to a target
  pub record ValueStored (target : Target) (e : Coded) (from to free : ℕ) : Type 0 where
    pub mid : ℕ
    pub r : ℕ
    pub t : Scalar
    pub value : e from mid free r t
    pub stores : StoredCode target t r mid to free

  -- a word of the target's type that is set and goes there
  pub record WordStored (target : Target) (w : ℕ) (from to free : ℕ) : Type 0 where
    pub mid : ℕ
    pub r : ℕ
    pub sets :
        GivenBy code layout (home_of target) (Instr.Constant r w) (target_type target) from mid free r
        (target_type target)
    pub stores : StoreCode target r mid to

  -- an expression's value goes to a target: a constant is set after conversion
  abbrev pub ExprStored : LocalScope → Target → Expr → (from to free : ℕ) → Type 0
  ExprStored scope target (Constant n s at) from to free =
      WordStored target (constant_in (target_type target) s n) from to free
  ExprStored scope target e from to free = ValueStored target (Coding (home_of target) scope e) from to free

  pub record AssignCode (scope : LocalScope) (lhs e : Expr) (from to : ℕ) : Type 0 where
    pub target : Target
    pub mid : ℕ
    pub later : ℕ
    pub goes_to : TargetCode scope lhs from mid (length scope) target
    pub room : length scope ≤ later
    pub spares : Spares target later
    pub stores : ExprStored scope target e mid to later

  -- the old value is read first, and the result replaces it
  pub record ChangeCode (scope : LocalScope) (lhs : Expr) (op : BinaryOp) (by : Due) (from to : ℕ) : Type 0 where
    pub target : Target
    pub mid : ℕ
    pub done : ℕ
    pub later : ℕ
    pub r : ℕ
    pub t : Scalar
    pub goes_to :
        TargetCode scope lhs from mid (length scope) target ⊎ ReadTarget scope lhs from mid (length scope) target
    pub room : length scope ≤ later
    pub spares : Spares target later
    pub operates :
        BinaryCode code layout (home_of target) op (ConvertedCode code layout None (FetchCode target)) by mid done later
        r t
    pub stores : StoredCode target t r done to later

  -- the right side of an operator, and the int 1 that is added or subtracted, whose word is the same in each type
  abbrev pub Operating : LocalScope → Expr → Due
  Operating scope e = OperandCode code layout e (Coding None scope e)

  abbrev pub OneCode : Due
  OneCode u from to free r t = (t ≡ Int) × WordCode code layout 1 u from to free r

  abbrev pub SimpleCode : LocalScope → Simple → (from to : ℕ) → Type 0
  SimpleCode scope (Evaluate e) from to = (r : ℕ) × ValueCode scope (Coding None scope e) from to r
  SimpleCode scope (Assign lhs None e) from to = AssignCode scope lhs e from to
  SimpleCode scope (Assign lhs (Some op) e) from to = ChangeCode scope lhs op (Operating scope e) from to
  SimpleCode scope (Adjust lhs by) from to = ChangeCode scope lhs (op_of by) OneCode from to

  -- the first value of the local in a register, in its own scope
  pub record FirstCode (scope : LocalScope) (local : ℕ × Scalar) (e : Expr) (from to : ℕ) : Type 0 where
    pub free : ℕ
    pub room : length scope ≤ free
    pub stores : ExprStored scope (LocalAt local) e from to free

  abbrev pub FirstValueCode : LocalScope → ℕ × Scalar → Option Expr → (from to : ℕ) → Type 0
  FirstValueCode scope local None from to = to ≡ from
  FirstValueCode scope local (Some e) from to = FirstCode scope local e from to

  -- a local's register is set to 0, and then has its first value
  pub record DeclaratorCode (scope inner : LocalScope) (t : Scalar) (first : Option Expr) (rest : ℕ → Type 0)
      (from : ℕ) : Type 0 where
    pub below : length scope < layout.writable
    pub zeroes : InstructionAt code from (Instr.Constant (length scope) 0)
    pub mid : ℕ
    pub value : FirstValueCode inner (length scope, t) first (suc from) mid
    pub goes_on : rest mid

  abbrev pub DeclareCode : Scalar → List Declarator → LocalScope → (from to : ℕ) → Type 0
  DeclareCode t [] scope from to = to ≡ from
  DeclareCode t (d ∷ ds) scope from to =
      let inner = with_local scope d.name.text t in
      DeclaratorCode scope inner t d.first (λ mid. DeclareCode t ds inner mid to) from

  pub record IfCode (scope : LocalScope) (c : Branching) (a : ℕ → ℕ → Type 0) (from to : ℕ) : Type 0 where
    pub true_exit : ℕ
    pub false_exit : ℕ
    pub last : ℕ
    pub tests : TestCode scope c from true_exit false_exit
    pub then_code : a true_exit last
    pub then_leads : LeadsTo code last to
    pub else_leads : LeadsTo code false_exit to

  pub record IfElseCode (scope : LocalScope) (c : Branching) (a b : ℕ → ℕ → Type 0) (from to : ℕ) : Type 0 where
    pub true_exit : ℕ
    pub false_exit : ℕ
    pub last : ℕ
    pub end : ℕ
    pub tests : TestCode scope c from true_exit false_exit
    pub then_code : a true_exit last
    pub then_leads : LeadsTo code last to
    pub else_code : b false_exit end
    pub else_leads : LeadsTo code end to

  -- a loop's test may come before its body or after it
  pub record WhileCode (x : Exits) (scope : LocalScope) (c : Branching) (a : Exits → ℕ → ℕ → Type 0) (from to : ℕ) :
      Type 0 where
    pub test_at : ℕ
    pub body_at : ℕ
    pub out : ℕ
    pub last : ℕ
    pub break_to : ℕ
    pub continue_to : ℕ
    pub enters : LeadsTo code from test_at
    pub tests : TestCode scope c test_at body_at out
    pub ends : LeadsTo code out to
    pub body : a (looping x break_to continue_to) body_at last
    pub again : LeadsTo code last test_at
    pub breaks : LeadsTo code break_to to
    pub continues : LeadsTo code continue_to test_at

  pub record DoWhileCode (x : Exits) (scope : LocalScope) (c : Branching) (a : Exits → ℕ → ℕ → Type 0) (from to : ℕ) :
      Type 0 where
    pub body_at : ℕ
    pub last : ℕ
    pub test_at : ℕ
    pub again_at : ℕ
    pub out : ℕ
    pub break_to : ℕ
    pub continue_to : ℕ
    pub enters : LeadsTo code from body_at
    pub body : a (looping x break_to continue_to) body_at last
    pub goes_on : LeadsTo code last test_at
    pub tests : TestCode scope c test_at again_at out
    pub again : LeadsTo code again_at body_at
    pub ends : LeadsTo code out to
    pub breaks : LeadsTo code break_to to
    pub continues : LeadsTo code continue_to test_at

  -- a condition; one that is missing always holds
  abbrev pub HoldsCode : LocalScope → Option Expr → (from true_exit false_exit : ℕ) → Type 0
  HoldsCode scope None from true_exit false_exit = InstructionAt code from (Instr.Jump true_exit)
  HoldsCode scope (Some e) from true_exit false_exit = TestCode scope (Testing scope e) from true_exit false_exit

  abbrev pub SteppedCode : LocalScope → Option Simple → (from to : ℕ) → Type 0
  SteppedCode scope None from to = to ≡ from
  SteppedCode scope (Some s) from to = SimpleCode scope s from to

  abbrev pub StartCode : LocalScope → Start → (from to : ℕ) → Type 0
  StartCode scope Nothing from to = to ≡ from
  StartCode scope (Declares d) from to = DeclareCode d.ty d.declarators scope from to
  StartCode scope (Does s) from to = SimpleCode scope s from to

  pub record ForCode (x : Exits) (inner : LocalScope) (starts : ℕ → ℕ → Type 0) (c : Option Expr) (step : Option Simple)
      (a : Exits → ℕ → ℕ → Type 0) (from to : ℕ) : Type 0 where
    pub started : ℕ
    pub test_at : ℕ
    pub body_at : ℕ
    pub out : ℕ
    pub last : ℕ
    pub step_at : ℕ
    pub stepped : ℕ
    pub break_to : ℕ
    pub continue_to : ℕ
    pub start_code : starts from started
    pub enters : LeadsTo code started test_at
    pub tests : HoldsCode inner c test_at body_at out
    pub ends : LeadsTo code out to
    pub body : a (looping x break_to continue_to) body_at last
    pub goes_on : LeadsTo code last step_at
    pub steps : SteppedCode inner step step_at stepped
    pub again : LeadsTo code stepped test_at
    pub breaks : LeadsTo code break_to to
    pub continues : LeadsTo code continue_to step_at

  -- the pieces of a format, with these registers for its specifiers
  pub record LiteralCode (text : List ℕ) (q : ℕ) : Type 0 where
    pub number : ℕ
    pub known : slice_get code.texts number ≡ Some text
    pub prints : InstructionAt code q (Instr.PrintText number)

  abbrev pub PiecesCode : List Piece → List ℕ → (from to : ℕ) → Type 0
  PiecesCode [] rs from to = to ≡ from
  PiecesCode (Literal text ∷ ps) rs from to = LiteralCode text from × PiecesCode ps rs (suc from) to
  PiecesCode (Specifier t ∷ ps) [] from to = ⊥
  PiecesCode (Specifier t ∷ ps) (r ∷ rs) from to = InstructionAt code from (Instr.PrintNumber t r)
      × PiecesCode ps rs (suc from) to

  pub record PrintCode (scope : LocalScope) (format : List ℕ) (es : Exprs) (from to : ℕ) : Type 0 where
    pub irrevocable : InstructionAt code from Instr.Irrevocable
    pub free : ℕ
    pub room : length scope ≤ free
    pub mid : ℕ
    pub rs : List ℕ
    pub args : ArgsCode code layout p scope [] es (suc from) mid free rs
    pub prints : PiecesCode (pieces format) rs mid to

  pub record TransactionCode (kind : TransactionKind) (x : Exits) (body : Exits → ℕ → ℕ → Type 0)
      (from to : ℕ) : Type 0 where
    pub last : ℕ
    pub begins : InstructionAt code from (Instr.Begin to)
    pub runs : body (in_transaction kind x) (suc from) last
    pub commits : InstructionAt code last Instr.Commit
    pub to_is : to ≡ suc last

  abbrev pub OuterCancelCode : Option ℕ → ℕ → Type 0
  OuterCancelCode None q = ⊥
  OuterCancelCode (Some n) q = InstructionAt code q (cancelling n)

  abbrev mutual
    pub StmtCode : Exits → LocalScope → Stmt → (from to : ℕ) → Type 0
    StmtCode x scope Empty from to = to ≡ from
    StmtCode x scope (Declare d) from to = DeclareCode d.ty d.declarators scope from to
    StmtCode x scope (Do s) from to = SimpleCode scope s from to
    StmtCode x scope (Block ss) from to = StmtsCode x scope ss from to
    StmtCode x scope (Print at format format_at es) from to = PrintCode scope format es from to
    StmtCode x scope (If c a) from to = IfCode scope (Testing scope c) (StmtCode x scope a) from to
    StmtCode x scope (IfElse c a b) from to =
        IfElseCode scope (Testing scope c) (StmtCode x scope a) (StmtCode x scope b) from to
    StmtCode x scope (While c a) from to = WhileCode x scope (Testing scope c) (λ y. StmtCode y scope a) from to
    StmtCode x scope (DoWhile a c) from to = DoWhileCode x scope (Testing scope c) (λ y. StmtCode y scope a) from to
    StmtCode x scope (For start c step a) from to =
        let inner = locals_of_start start scope in
        ForCode x inner (StartCode scope start) c step (λ y. StmtCode y inner a) from to
    StmtCode x scope (Break at) from to = Leaves from x.in_loop (Instr.Jump x.break_to)
    StmtCode x scope (Continue at) from to = Leaves from x.in_loop (Instr.Jump x.continue_to)
    StmtCode x scope (Return None at) from to = Leaves from x.in_function (Instr.Return None)
    StmtCode x scope (Return (Some e) at) from to =
        (mid : ℕ) × (r : ℕ) × ResultCode scope x.gives e from mid r
        × Leaves mid x.in_function (Instr.Return (Some r))
    StmtCode x scope (Transaction kind ss at) from to = TransactionCode kind x (λ y. StmtsCode y scope ss) from to
    StmtCode x scope (Cancel at) from to = (x.innermost ≡ Some Atomic) × InstructionAt code from Instr.Cancel
    StmtCode x scope (CancelOuter at) from to = OuterCancelCode x.in_outer from

    pub StmtsCode : Exits → LocalScope → Stmts → (from to : ℕ) → Type 0
    StmtsCode x scope Stmts.[] from to = to ≡ from
    StmtsCode x scope (Stmts.◌∷◌ s ss) from to =
        (mid : ℕ) × StmtCode x scope s from mid × StmtsCode x (locals_after s scope) ss mid to
