-- The sites of a function's body: the constructs that the rules on transactions restrict (the C++ draft on
-- transactions 1.1), in the order of the text.
use Rattle.std.specs.Prelude.{ℕ, List, [], ◌∷◌, ◌++◌, Option, Some, None, Bool, true, false, if◌then◌else◌, bytes_eq}
use Rattle.syntax.specs.declared.tree.{Mode.TheVariants.Atomic, Mode.TheVariants.Relaxed}
use Rattle.syntax.specs.declared.tree.{TransactionKind.TransactionKind}
use Rattle.syntax.specs.declared.tree.{TransactionKind.TheVariants.Plain, TransactionKind.TheVariants.Outer}
use Rattle.syntax.specs.declared.tree.{Attribute.Attribute}
use Rattle.syntax.specs.Tree.{Span, Name, Expr, Exprs, Variable, Constant, Element, Call, Parenthesized, Cast, Unary}
use Rattle.syntax.specs.Tree.{Binary, Logical, Conditional, InTransaction, Simple, Evaluate, Assign, Adjust, Declarator}
use Rattle.syntax.specs.Tree.{Start, Nothing, Declares, Does, Stmt, Stmts, Declare, Do, Block, Print, If, IfElse, While}
use Rattle.syntax.specs.Tree.{DoWhile, For, Return, Transaction, Cancel, CancelOuter, Parameter, Defines, Shares}
use Rattle.syntax.specs.Tree.{Program}
use Rattle.syntax.specs.Typing.{has_name, names_of, parameter_names}

-- a construct that the rules on transactions restrict: a print, a relaxed transaction, an outer one, a cancel,
-- an outer cancel, a call of a function, and an access to a global
pub data Construct : Type 0 where
  Prints Relaxes OpensOuter Cancels CancelsOuter : Construct
  Calls : (f : List ℕ) → Construct
  Uses : (x : List ℕ) → Construct

-- a construct with its surroundings: inside an atomic transaction of its function, inside an outer one, and inside any
pub record Site : Type 0 where
  pub construct : Construct
  pub span : Span
  pub atomic : Bool
  pub outer : Bool
  pub in_any : Bool

-- the surroundings of a point of a body: the names of locals, and the transactions
pub record Around : Type 0 where
  pub locals : List (List ℕ)
  pub atomic : Bool
  pub outer : Bool
  pub in_any : Bool

-- a construct in these surroundings
abbrev pub site : Around → Construct → Span → List Site
site w c at = record { construct = c; span = at; atomic = w.atomic; outer = w.outer; in_any = w.in_any } ∷ []

abbrev pub with_names : List (List ℕ) → Around → Around
with_names xs w = record w { locals = xs ++ w.locals }

abbrev pub in_transaction : TransactionKind → Around → Around
in_transaction (Plain Atomic) w = record w { atomic = true; in_any = true }
in_transaction (Plain Relaxed) w = record w { in_any = true }
in_transaction Outer w = record w { atomic = true; outer = true; in_any = true }

abbrev pub kind_site : TransactionKind → Around → Span → List Site
kind_site (Plain Atomic) w at = []
kind_site (Plain Relaxed) w at = site w Relaxes at
kind_site Outer w at = site w OpensOuter at

-- a name that is not a local's is a global's
abbrev pub uses : Name → Around → List Site
uses x w = if has_name w.locals x.text then [] else site w (Uses x.text) x.span

-- the sites of an expression, in the order of the text
abbrev mutual
  pub expr_sites : Expr → Around → List Site
  expr_sites (Variable x) w = uses x w
  expr_sites (Constant n t at) w = []
  expr_sites (Element x i at) w = uses x w ++ expr_sites i w
  expr_sites (Call f es at) w = site w (Calls f.text) f.span ++ exprs_sites es w
  expr_sites (Parenthesized e at) w = expr_sites e w
  expr_sites (Cast t e at) w = expr_sites e w
  expr_sites (Unary op e at) w = expr_sites e w
  expr_sites (Binary op a b at) w = expr_sites a w ++ expr_sites b w
  expr_sites (Logical op a b at) w = expr_sites a w ++ expr_sites b w
  expr_sites (Conditional c a b at) w = expr_sites c w ++ expr_sites a w ++ expr_sites b w
  expr_sites (InTransaction mode keyword e at) w =
      kind_site (Plain mode) w keyword ++ expr_sites e (in_transaction (Plain mode) w)

  pub exprs_sites : Exprs → Around → List Site
  exprs_sites Exprs.[] w = []
  exprs_sites (Exprs.◌∷◌ e es) w = expr_sites e w ++ exprs_sites es w

-- the sites of an optional part
abbrev pub sites_if_any : {A : Type 0} → (A → Around → List Site) → Option A → Around → List Site
sites_if_any sites None w = []
sites_if_any sites (Some x) w = sites x w

abbrev pub simple_sites : Simple → Around → List Site
simple_sites (Evaluate e) w = expr_sites e w
simple_sites (Assign to op e) w = expr_sites to w ++ expr_sites e w
simple_sites (Adjust to by) w = expr_sites to w

abbrev pub declarator_sites : List Declarator → Around → List Site
declarator_sites [] w = []
declarator_sites (d ∷ ds) w =
    let w' = with_names (d.name.text ∷ []) w in
    sites_if_any expr_sites d.first w' ++ declarator_sites ds w'

abbrev pub start_sites : Start → Around → List Site
start_sites Nothing w = []
start_sites (Declares d) w = declarator_sites d.declarators w
start_sites (Does s) w = simple_sites s w

abbrev pub names_of_start : Start → List (List ℕ)
names_of_start (Declares d) = names_of (Declare d)
names_of_start start = []

abbrev mutual
  pub stmt_sites : Stmt → Around → List Site
  stmt_sites (Declare d) w = declarator_sites d.declarators w
  stmt_sites (Do s) w = simple_sites s w
  stmt_sites (Block ss) w = stmts_sites ss w
  stmt_sites (Print at format format_at es) w = site w Prints at ++ exprs_sites es w
  stmt_sites (If c a) w = expr_sites c w ++ stmt_sites a w
  stmt_sites (IfElse c a b) w = expr_sites c w ++ stmt_sites a w ++ stmt_sites b w
  stmt_sites (While c a) w = expr_sites c w ++ stmt_sites a w
  stmt_sites (DoWhile a c) w = stmt_sites a w ++ expr_sites c w
  stmt_sites (For start c step a) w =
      let w' = with_names (names_of_start start) w in
      start_sites start w ++ sites_if_any expr_sites c w' ++ sites_if_any simple_sites step w' ++ stmt_sites a w'
  stmt_sites (Return e at) w = sites_if_any expr_sites e w
  stmt_sites (Transaction kind ss at) w = kind_site kind w at ++ stmts_sites ss (in_transaction kind w)
  stmt_sites (Cancel at) w = site w Cancels at
  stmt_sites (CancelOuter at) w = site w CancelsOuter at
  stmt_sites s w = []

  pub stmts_sites : Stmts → Around → List Site
  stmts_sites Stmts.[] w = []
  stmts_sites (Stmts.◌∷◌ s ss) w = stmt_sites s w ++ stmts_sites ss (with_names (names_of s) w)

abbrev pub body_sites : List Parameter → Option Stmts → List Site
body_sites qs None = []
body_sites qs (Some ss) =
    stmts_sites ss (record { locals = parameter_names qs; atomic = false; outer = false; in_any = false })

-- the sites of a function, by its name; a prototype has none
abbrev pub sites_of : Program → List ℕ → List Site
sites_of [] f = []
sites_of (Shares gs ∷ items) f = sites_of items f
sites_of (Defines g ∷ items) f =
    (if bytes_eq g.name.text f then body_sites g.parameters g.body else []) ++ sites_of items f

-- the attributes of all declarations of a function
abbrev pub attributes_of : Program → List ℕ → List Attribute
attributes_of [] f = []
attributes_of (Shares gs ∷ items) f = attributes_of items f
attributes_of (Defines g ∷ items) f = (if bytes_eq g.name.text f then g.attributes else []) ++ attributes_of items f
