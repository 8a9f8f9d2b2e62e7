-- Which tokens spell which tree.
use Rattle.std.specs.Prelude.{◌≡◌, ℕ, ◌≤◌, ◌<◌, List, [], ◌∷◌, ◌++◌, Option, Some, None, IsSome, Bool, true, false}
use Rattle.std.specs.Prelude.{IsFalse, codes, bytes_eq, option_map, if◌then◌else◌}
use Rattle.lex.specs.{declared.token.Fixed.Fixed, Tokens.Terminal, Tokens.Tok, Tokens.string_value}
use Rattle.lex.specs.declared.token.Fixed.TheVariants.{Keyword, Punctuator}
use Rattle.lex.specs.declared.token.Keyword.TheVariants as key
use Rattle.lex.specs.declared.token.Punctuator.TheVariants as punct
use Rattle.syntax.specs.Tree.{Span, Scalar, Int, Unsigned, LongLong, UnaryOp, Negate, Keep, Not, Complement, BinaryOp}
use Rattle.syntax.specs.Tree.{Or, Xor, And, Equal, NotEqual, Less, Greater, LessEqual, GreaterEqual, ShiftLeft}
use Rattle.syntax.specs.Tree.{ShiftRight, Add, Subtract, Multiply, Divide, Remainder, LogicalOp, AndThen, OrElse}
use Rattle.syntax.specs.Tree.{IncDec, Increment, Decrement, Mode, Atomic, Relaxed, TransactionKind, Plain, Outer}
use Rattle.syntax.specs.Tree.{Attribute, Safe}
use Rattle.syntax.specs.Tree.{Unsafe, Callable, Initialiser, Name, Expr, Exprs, Variable, Constant, Element, Call}
use Rattle.syntax.specs.Tree.{Parenthesized, Cast, Unary, Binary, Logical, Conditional, InTransaction, Simple, Evaluate}
use Rattle.syntax.specs.Tree.{Assign, Adjust, Declarator, Declaration, Start, Nothing, Declares, Does, Stmt, Stmts}
use Rattle.syntax.specs.Tree.{Empty, Declare, Do, Block, Print, If, IfElse, While, DoWhile, For, Break, Continue}
use Rattle.syntax.specs.Tree.{Return, Transaction, Cancel, CancelOuter, Parameter, Function, Global, Item, Defines}
use Rattle.syntax.specs.Tree.{Shares, Program}
use Rattle.syntax.specs.Depth.{program_depth}
use Rattle.syntax.specs.Phrases.{Phrase, One, Nil, never, ◌⨾◌, ◌∣◌, phrase_if, Many, Sign, Word, IsAt, Listed, spanning}
use Rattle.syntax.specs.Phrases.{end_of}

-- ---- single tokens (C11 6.4)

-- the value of a keyword or punctuator, by a table
abbrev pub by_fixed : {A : Type 0} → (Fixed → Option A) → Terminal → Option A
by_fixed table (Terminal.fixed k) = table k
by_fixed table _ = None

abbrev pub name_in : Terminal → Span → Option Name
name_in (Terminal.name s) at = Some (record { text = s; span = at })
name_in _ at = None

abbrev pub the_name : Tok → Option Name
the_name t = name_in t.terminal t.span

-- a constant: its value, its type, and its span
pub record IntegerConstant : Type 0 where
  pub value : ℕ
  pub ty : Scalar
  pub span : Span

abbrev pub integer_constant_in : Terminal → Span → Option IntegerConstant
integer_constant_in (Terminal.constant n ty) at = Some (record { value = n; ty = ty; span = at })
integer_constant_in _ at = None

abbrev pub the_integer_constant : Tok → Option IntegerConstant
the_integer_constant t = integer_constant_in t.terminal t.span

-- the bytes that a string denotes, and its span
abbrev pub text_in : Terminal → Span → Option (List ℕ × Span)
text_in (Terminal.string_literal s) at = Some (string_value s, at)
text_in _ at = None

abbrev pub the_text : Tok → Option (List ℕ × Span)
the_text t = text_in t.terminal t.span

abbrev pub attribute_named : List ℕ → Option Attribute
attribute_named s =
    if bytes_eq s (codes "transaction_safe") then Some Safe else
    (if bytes_eq s (codes "transaction_unsafe") then Some Unsafe else
    (if bytes_eq s (codes "transaction_callable") then Some Callable else None))

abbrev pub attribute_in : Terminal → Option Attribute
attribute_in (Terminal.name s) = attribute_named s
attribute_in _ = None

abbrev pub the_attribute : Tok → Option Attribute
the_attribute t = attribute_in t.terminal

-- the keyword of a transaction, or a cancel, an outer one
abbrev pub outer_in : Terminal → Option (Unit {0})
outer_in (Terminal.name s) = if bytes_eq s (codes "outer") then Some tt else None
outer_in _ = None

abbrev pub the_outer : Tok → Option (Unit {0})
the_outer t = outer_in t.terminal

abbrev pub unary_of : Fixed → Option UnaryOp
unary_of (Punctuator punct.Minus) = Some Negate
unary_of (Punctuator punct.Plus) = Some Keep
unary_of (Punctuator punct.Not) = Some Not
unary_of (Punctuator punct.Complement) = Some Complement
unary_of _ = None

abbrev pub the_unary : Tok → Option UnaryOp
the_unary t = by_fixed unary_of t.terminal

abbrev pub binary_of : Fixed → Option BinaryOp
binary_of (Punctuator punct.Or) = Some Or
binary_of (Punctuator punct.Xor) = Some Xor
binary_of (Punctuator punct.And) = Some And
binary_of (Punctuator punct.Equal) = Some Equal
binary_of (Punctuator punct.NotEqual) = Some NotEqual
binary_of (Punctuator punct.Less) = Some Less
binary_of (Punctuator punct.Greater) = Some Greater
binary_of (Punctuator punct.LessEqual) = Some LessEqual
binary_of (Punctuator punct.GreaterEqual) = Some GreaterEqual
binary_of (Punctuator punct.ShiftLeft) = Some ShiftLeft
binary_of (Punctuator punct.ShiftRight) = Some ShiftRight
binary_of (Punctuator punct.Plus) = Some Add
binary_of (Punctuator punct.Minus) = Some Subtract
binary_of (Punctuator punct.Star) = Some Multiply
binary_of (Punctuator punct.Slash) = Some Divide
binary_of (Punctuator punct.Percent) = Some Remainder
binary_of _ = None

abbrev pub the_binary : Tok → Option BinaryOp
the_binary t = by_fixed binary_of t.terminal

abbrev pub logical_of : Fixed → Option LogicalOp
logical_of (Punctuator punct.LogicalAnd) = Some AndThen
logical_of (Punctuator punct.LogicalOr) = Some OrElse
logical_of _ = None

abbrev pub the_logical : Tok → Option LogicalOp
the_logical t = by_fixed logical_of t.terminal

-- the operator of an assignment, if it has one
abbrev pub assigning_of : Fixed → Option (Option BinaryOp)
assigning_of (Punctuator punct.Assign) = Some None
assigning_of (Punctuator punct.AddAssign) = Some (Some Add)
assigning_of (Punctuator punct.SubtractAssign) = Some (Some Subtract)
assigning_of (Punctuator punct.MultiplyAssign) = Some (Some Multiply)
assigning_of (Punctuator punct.DivideAssign) = Some (Some Divide)
assigning_of (Punctuator punct.RemainderAssign) = Some (Some Remainder)
assigning_of (Punctuator punct.ShiftLeftAssign) = Some (Some ShiftLeft)
assigning_of (Punctuator punct.ShiftRightAssign) = Some (Some ShiftRight)
assigning_of (Punctuator punct.AndAssign) = Some (Some And)
assigning_of (Punctuator punct.OrAssign) = Some (Some Or)
assigning_of (Punctuator punct.XorAssign) = Some (Some Xor)
assigning_of _ = None

abbrev pub the_assigning : Tok → Option (Option BinaryOp)
the_assigning t = by_fixed assigning_of t.terminal

abbrev pub step_of : Fixed → Option IncDec
step_of (Punctuator punct.Increment) = Some Increment
step_of (Punctuator punct.Decrement) = Some Decrement
step_of _ = None

abbrev pub the_step : Tok → Option IncDec
the_step t = by_fixed step_of t.terminal

-- ---- levels (C11 6.5.3 to 6.5.15)

-- the precedence of an operator, from ?: at 0 up to names at 12
abbrev pub precedence : BinaryOp → ℕ
precedence Or = 3
precedence Xor = 4
precedence And = 5
precedence Equal = 6
precedence NotEqual = 6
precedence Less = 7
precedence Greater = 7
precedence LessEqual = 7
precedence GreaterEqual = 7
precedence ShiftLeft = 8
precedence ShiftRight = 8
precedence Add = 9
precedence Subtract = 9
precedence Multiply = 10
precedence Divide = 10
precedence Remainder = 10

abbrev pub logical_precedence : LogicalOp → ℕ
logical_precedence OrElse = 1
logical_precedence AndThen = 2

abbrev pub level : Expr → ℕ
level (Conditional c a b at) = 0
level (Logical op a b at) = logical_precedence op
level (Binary op a b at) = precedence op
level (Unary op e at) = 11
level (Cast t e at) = 11
level e = 12

-- operands of a left-associative operator
abbrev pub Groups : ℕ → Expr → Expr → Type 0
Groups n a b = (n ≤ level a) × (n < level b)

-- ---- expressions (C11 6.5.1 to 6.5.15)

abbrev pub scalar : Scalar → Phrase
scalar Int = Word key.Int ∣ Word key.Signed ∣ Word key.Signed ⨾ Word key.Int
scalar Unsigned = Word key.Unsigned ∣ Word key.Unsigned ⨾ Word key.Int
scalar LongLong = (Nil ∣ Word key.Signed) ⨾ Word key.Long ⨾ Word key.Long ⨾ (Nil ∣ Word key.Int)

abbrev pub name_phrase : Name → Phrase
name_phrase = One the_name

abbrev pub mode_keyword : Mode → Fixed
mode_keyword Atomic = (Keyword key.Atomic)
mode_keyword Relaxed = (Keyword key.Relaxed)

abbrev mutual
  pub expr : Expr → Phrase
  expr (Variable x) = name_phrase x
  expr (Constant n t at) = One the_integer_constant (record { value = n; ty = t; span = at })
  expr (Element x i at) = spanning at (name_phrase x ⨾ Sign punct.OpenBracket ⨾ expr i ⨾ Sign punct.CloseBracket)
  expr (Call f es at) = spanning at (name_phrase f ⨾ Sign punct.OpenParen ⨾ arguments es ⨾ Sign punct.CloseParen)
  expr (Parenthesized e at) = spanning at (Sign punct.OpenParen ⨾ expr e ⨾ Sign punct.CloseParen)
  expr (Cast t e at) =
      phrase_if (11 ≤ level e) (spanning at (Sign punct.OpenParen ⨾ scalar t ⨾ Sign punct.CloseParen ⨾ expr e))
  expr (Unary op e at) = phrase_if (11 ≤ level e) (spanning at (One the_unary op ⨾ expr e))
  expr (Binary op a b at) = phrase_if (Groups (precedence op) a b) (spanning at (expr a ⨾ One the_binary op ⨾ expr b))
  expr (Logical op a b at) =
      phrase_if (Groups (logical_precedence op) a b) (spanning at (expr a ⨾ One the_logical op ⨾ expr b))
  expr (Conditional c a b at) =
      phrase_if (1 ≤ level c) (spanning at (expr c ⨾ Sign punct.Question ⨾ expr a ⨾ Sign punct.Colon ⨾ expr b))
  expr (InTransaction mode keyword e at) =
      spanning at (IsAt (mode_keyword mode) keyword ⨾ Sign punct.OpenParen ⨾ expr e ⨾ Sign punct.CloseParen)

  pub arguments : Exprs → Phrase
  arguments Exprs.[] = Nil
  arguments (Exprs.◌∷◌ e es) = expr e ⨾ further es

  -- further arguments, each after a comma
  pub further : Exprs → Phrase
  further Exprs.[] = Nil
  further (Exprs.◌∷◌ e es) = Sign punct.Comma ⨾ expr e ⨾ further es

abbrev pub optional : {A : Type 0} → (A → Phrase) → Option A → Phrase
optional L None = Nil
optional L (Some x) = L x

-- ---- statements (C11 6.8; assignments 6.5.16, steps 6.5.2.4, 6.5.3.1, declarations 6.7)

abbrev pub simple : Simple → Phrase
simple (Evaluate e) = expr e
simple (Assign to op e) = expr to ⨾ One the_assigning op ⨾ expr e
simple (Adjust to by) = expr to ⨾ One the_step by ∣ One the_step by ⨾ expr to

abbrev pub declarator : Declarator → Phrase
declarator d = name_phrase d.name ⨾ optional (λ e. Sign punct.Assign ⨾ expr e) d.first

abbrev pub declaration : Declaration → Phrase
declaration d = scalar d.ty ⨾ Listed declarator d.declarators ⨾ Sign punct.Semicolon

abbrev pub start : Start → Phrase
start Nothing = Sign punct.Semicolon
start (Declares d) = declaration d
start (Does s) = simple s ⨾ Sign punct.Semicolon

-- `[[outer]]`, or the same as GCC's attribute (the C++ draft on transactions 1.1: outer transactions)
abbrev pub outer_phrase : Phrase
outer_phrase =
    Sign punct.OpenBracket ⨾ Sign punct.OpenBracket ⨾ One the_outer tt ⨾ Sign punct.CloseBracket
    ⨾ Sign punct.CloseBracket
    ∣ Word key.Attribute ⨾ Sign punct.OpenParen ⨾ Sign punct.OpenParen ⨾ One the_outer tt ⨾ Sign punct.CloseParen
    ⨾ Sign punct.CloseParen

-- the head of a transaction's statement, with its keyword at this span (the C++ draft on transactions 1.1, in GCC's
-- words for C)
abbrev pub kind : TransactionKind → Span → Phrase
kind (Plain mode) at = IsAt (mode_keyword mode) at
kind Outer at = IsAt (mode_keyword Atomic) at ⨾ outer_phrase

-- a statement that a further else would belong to
abbrev pub ends_open : Stmt → Bool
ends_open (If c a) = true
ends_open (IfElse c a b) = ends_open b
ends_open (While c a) = ends_open a
ends_open (For first c step a) = ends_open a
ends_open s = false

abbrev pub in_parens : Expr → Phrase
in_parens e = Sign punct.OpenParen ⨾ expr e ⨾ Sign punct.CloseParen

abbrev mutual
  pub stmt : Stmt → Phrase
  stmt Empty = Sign punct.Semicolon
  stmt (Declare d) = never
  stmt (Do s) = simple s ⨾ Sign punct.Semicolon
  stmt (Block ss) = Sign punct.OpenBrace ⨾ stmts ss ⨾ Sign punct.CloseBrace
  stmt (Print at format format_at es) =
      IsAt (Keyword key.Printf) at ⨾ Sign punct.OpenParen ⨾ One the_text (format, format_at) ⨾ further es
      ⨾ Sign punct.CloseParen ⨾ Sign punct.Semicolon
  stmt (If c a) = Word key.If ⨾ in_parens c ⨾ stmt a
  stmt (IfElse c a b) = phrase_if (IsFalse (ends_open a)) (Word key.If ⨾ in_parens c ⨾ stmt a ⨾ Word key.Else ⨾ stmt b)
  stmt (While c a) = Word key.While ⨾ in_parens c ⨾ stmt a
  stmt (DoWhile a c) = Word key.Do ⨾ stmt a ⨾ Word key.While ⨾ in_parens c ⨾ Sign punct.Semicolon
  stmt (For first c step a) =
      Word key.For ⨾ Sign punct.OpenParen ⨾ start first ⨾ optional expr c ⨾ Sign punct.Semicolon ⨾ optional simple step
      ⨾ Sign punct.CloseParen ⨾ stmt a
  stmt (Break at) = IsAt (Keyword key.Break) at ⨾ Sign punct.Semicolon
  stmt (Continue at) = IsAt (Keyword key.Continue) at ⨾ Sign punct.Semicolon
  stmt (Return e at) = IsAt (Keyword key.Return) at ⨾ optional expr e ⨾ Sign punct.Semicolon
  stmt (Transaction k ss at) = kind k at ⨾ Sign punct.OpenBrace ⨾ stmts ss ⨾ Sign punct.CloseBrace
  stmt (Cancel at) = IsAt (Keyword key.Cancel) at ⨾ Sign punct.Semicolon
  stmt (CancelOuter at) = IsAt (Keyword key.Cancel) at ⨾ outer_phrase ⨾ Sign punct.Semicolon

  -- the items of a block: declarations too
  pub stmts : Stmts → Phrase
  stmts Stmts.[] = Nil
  stmts (Stmts.◌∷◌ (Declare d) ss) = declaration d ⨾ stmts ss
  stmts (Stmts.◌∷◌ s ss) = stmt s ⨾ stmts ss

abbrev pub block : Stmts → Phrase
block ss = Sign punct.OpenBrace ⨾ stmts ss ⨾ Sign punct.CloseBrace

-- ---- functions (C11 6.7.6.3, 6.9.1)

abbrev pub attribute_list : List Attribute → Phrase
attribute_list words =
    Sign punct.OpenBracket ⨾ Sign punct.OpenBracket ⨾ Listed (One the_attribute) words ⨾ Sign punct.CloseBracket
    ⨾ Sign punct.CloseBracket
    ∣ Word key.Attribute ⨾ Sign punct.OpenParen ⨾ Sign punct.OpenParen ⨾ Listed (One the_attribute) words
    ⨾ Sign punct.CloseParen ⨾ Sign punct.CloseParen

abbrev pub attributes_of : List (List Attribute) → List Attribute
attributes_of [] = []
attributes_of (words ∷ rest) = words ++ attributes_of rest

-- lists of attributes, which amount to these (the C++ draft on transactions 1.1: `transaction_safe`,
-- `transaction_callable` and so on)
abbrev pub attributes : List Attribute → Phrase
attributes words ts = (lists : List (List Attribute)) × (words ≡ attributes_of lists) × Many attribute_list lists ts

abbrev pub result : Option Scalar → Phrase
result None = Word key.Void
result (Some t) = scalar t

abbrev pub parameter : Parameter → Phrase
parameter q = scalar q.ty ⨾ optional name_phrase q.name

abbrev pub parameters : List Parameter → Phrase
parameters [] = Sign punct.OpenParen ⨾ (Nil ∣ Word key.Void) ⨾ Sign punct.CloseParen
parameters (q ∷ qs) = Sign punct.OpenParen ⨾ Listed parameter (q ∷ qs) ⨾ Sign punct.CloseParen

abbrev pub AreNamed : List Parameter → Type 0
AreNamed [] = Unit {0}
AreNamed (q ∷ qs) = IsSome q.name × AreNamed qs

-- a prototype ends here, and a definition's parameters all have names
abbrev pub body : List Parameter → Option Stmts → Phrase
body qs None = Sign punct.Semicolon
body qs (Some ss) = phrase_if (AreNamed qs) (block ss)

abbrev pub function : Function → Phrase
function f ts =
    (before after : List Attribute) × (f.attributes ≡ before ++ after)
    × (attributes before ⨾ result f.result ⨾ name_phrase f.name ⨾ parameters f.parameters ⨾ attributes after
    ⨾ body f.parameters f.body) ts

-- ---- globals (C11 6.7, 6.7.6.2, 6.7.9)

abbrev pub minus : Bool → Phrase
minus true = Sign punct.Minus
minus false = Nil

-- a constant's value and type
abbrev pub value_in : Terminal → Option (ℕ × Scalar)
value_in (Terminal.constant n ty) = Some (n, ty)
value_in _ = None

abbrev pub the_value : Tok → Option (ℕ × Scalar)
the_value t = value_in t.terminal

abbrev pub initialiser : Initialiser → Phrase
initialiser i = spanning i.span (minus i.negative ⨾ One the_value (i.value, i.ty))

-- a length: a constant of any type, by its value and span
abbrev pub length_in : Terminal → Span → Option (ℕ × Span)
length_in terminal at = option_map (λ v. (v.0, at)) (value_in terminal)

abbrev pub the_length : Tok → Option (ℕ × Span)
the_length t = length_in t.terminal t.span

abbrev pub first_value : List Initialiser → Phrase
first_value [] = Nil
first_value (i ∷ []) = Sign punct.Assign ⨾ initialiser i
first_value (i ∷ j ∷ is) = never

abbrev pub first_values : List Initialiser → Phrase
first_values [] = Nil
first_values (i ∷ is) =
    Sign punct.Assign ⨾ Sign punct.OpenBrace ⨾ Listed initialiser (i ∷ is) ⨾ (Nil ∣ Sign punct.Comma)
    ⨾ Sign punct.CloseBrace

abbrev pub global_phrase : Option (ℕ × Span) → List Initialiser → Phrase
global_phrase None is = first_value is
global_phrase (Some n) is = Sign punct.OpenBracket ⨾ One the_length n ⨾ Sign punct.CloseBracket ⨾ first_values is

abbrev pub global : Global → Phrase
global g = name_phrase g.name ⨾ global_phrase g.length g.first

-- globals of one declaration have one type
abbrev pub globals : Scalar → List Global → Phrase
globals t gs = scalar t ⨾ Listed (λ g. phrase_if (g.ty ≡ t) (global g)) gs ⨾ Sign punct.Semicolon

abbrev pub item : Item → Phrase
item (Defines f) = function f
item (Shares gs) = λ ts. (t : Scalar) × globals t gs ts

-- ---- programs (C11 6.9)

-- a program, and where its last token ends
pub record ParsedSource : Type 0 where
  pub program : Program
  pub ends : ℕ

abbrev pub Spells : ParsedSource → Phrase
Spells s ts = Many item s.program ts × (s.ends ≡ end_of ts)

-- the depth limit of a program
abbrev pub deepest_program : ℕ
deepest_program = 100

abbrev pub source_depth : ParsedSource → ℕ
source_depth s = program_depth s.program
