-- Which programs are typed, demand by demand.
--
-- Each rule is a demand: a fault number, a span, and whether it is met. They are in one list, in the order in which
-- they are checked: a program is typed if every demand is met, and its fault is the first that is not.
use Rattle.std.specs.Prelude.{ℕ, ◌+◌, List, [], ◌∷◌, ◌++◌, length, map, drop, sum_by, Option, Some, None, Bool, true}
use Rattle.std.specs.Prelude.{false, not, ◌&&◌, ◌||◌, IsTrue, is_some, is_none, if◌then◌else◌, codes, option_map}
use Rattle.std.specs.Prelude.{unwrap_or, ◌==◌, nat_le, bytes_eq, All}
use Rattle.std.specs.List.{list_any}
use Rattle.syntax.specs.declared.limits.TheConstants.{MOST_CELLS}
use Rattle.syntax.specs.Tree.{Span, Scalar, Int, Unsigned, LongLong, Initialiser, Name, Expr, Exprs, Variable, Constant}
use Rattle.syntax.specs.Tree.{Element, Call, Parenthesized, Cast, Unary, Binary, Logical, Conditional, InTransaction}
use Rattle.syntax.specs.Tree.{Simple, Evaluate, Assign, Adjust, Declarator, Start, Nothing, Declares, Does, Stmt, Stmts}
use Rattle.syntax.specs.Tree.{Declare, Do, Block, Print, If, IfElse, While, DoWhile, For, Break, Continue, Return}
use Rattle.syntax.specs.Tree.{Transaction, Parameter, Function, Global, Item, Defines, Shares, Program}
use Rattle.syntax.specs.Names.{cells, definition_of}
use Rattle.syntax.specs.Types.{Known, Unknown, Callable, Scope, file_scope, with_number, number_type, element_type}
use Rattle.syntax.specs.Types.{type_of}
use Rattle.syntax.specs.Formats.{pieces, is_format, specifiers}

-- a list of names contains a name
abbrev pub has_name : List (List ℕ) → List ℕ → Bool
has_name xs x = list_any (λ y. bytes_eq y x) xs

abbrev pub is_unknown : Known → Bool
is_unknown Unknown = true
is_unknown other = false

-- a name may denote a variable, an array or a function; an unknown one breaks another rule
abbrev pub may_be_number : Known → Bool
may_be_number k = is_unknown k || is_some (number_type k)

abbrev pub may_be_array : Known → Bool
may_be_array k = is_unknown k || is_some (element_type k)

abbrev pub may_be_function : Known → Bool
may_be_function Unknown = true
may_be_function (Callable result takes) = true
may_be_function other = false

-- a call with this many arguments
abbrev pub takes_so_many : Known → ℕ → Bool
takes_so_many (Callable result takes) n = n == length takes
takes_so_many other n = true

-- the number of expressions
abbrev pub count : Exprs → ℕ
count Exprs.[] = 0
count (Exprs.◌∷◌ e es) = count es + 1

abbrev pub same_type : Scalar → Scalar → Bool
same_type Int Int = true
same_type Unsigned Unsigned = true
same_type LongLong LongLong = true
same_type s t = false

abbrev pub is_type : Scalar → Option Scalar → Bool
is_type t None = false
is_type t (Some s) = same_type s t

abbrev pub same_result : Option Scalar → Option Scalar → Bool
same_result None o = is_none o
same_result (Some s) o = is_type s o

abbrev pub same_types : List Scalar → List Scalar → Bool
same_types [] [] = true
same_types (s ∷ ss) (t ∷ ts) = same_type s t && same_types ss ts
same_types ss ts = false

-- a function is declared with the same types as before, if it was (6.7)
abbrev pub agrees : Function → Known → Bool
agrees f (Callable result takes) = same_result result f.result && same_types takes (map (λ q. q.ty) f.parameters)
agrees f other = true

-- a value is returned exactly if the function gives one (6.8.6.4)
abbrev pub returns_right : Option Scalar → Option Expr → Bool
returns_right gives e = if is_some gives then is_some e else is_none e

-- the span of an expression
abbrev pub span_of : Expr → Span
span_of (Variable x) = x.span
span_of (Constant n t at) = at
span_of (Element x i at) = at
span_of (Call f es at) = at
span_of (Parenthesized e at) = at
span_of (Cast t e at) = at
span_of (Unary op e at) = at
span_of (Binary op a b at) = at
span_of (Logical op a b at) = at
span_of (Conditional c a b at) = at
span_of (InTransaction mode keyword e at) = at

-- no value: a call of a function that returns none (6.3.2.2)
abbrev pub gives_nothing : Known → Bool
gives_nothing (Callable result takes) = is_none result
gives_nothing other = false

abbrev pub is_void : Scope → Expr → Bool
is_void known (Call f es at) = gives_nothing (known f.text)
is_void known (Parenthesized e at) = is_void known e
is_void known e = false

abbrev pub knows : Scalar → List Declarator → Scope → Scope
knows t [] known = known
knows t (d ∷ ds) known = knows t ds (with_number d.name.text t known)

abbrev pub scope_after : Stmt → Scope → Scope
scope_after (Declare d) known = knows d.ty d.declarators known
scope_after s known = known

abbrev pub names_of : Stmt → List (List ℕ)
names_of (Declare d) = map (λ e. e.name.text) d.declarators
names_of s = []

abbrev pub scope_of_start : Start → Scope → Scope
scope_of_start (Declares d) known = knows d.ty d.declarators known
scope_of_start start known = known

-- the parameters' names, and the scope with them
abbrev pub parameter_names : List Parameter → List (List ℕ)
parameter_names [] = []
parameter_names (q ∷ qs) = unwrap_or (option_map (λ x. x.text ∷ parameter_names qs) q.name) (parameter_names qs)

abbrev pub with_parameters : List Parameter → Scope → Scope
with_parameters [] known = known
with_parameters (q ∷ qs) known =
    with_parameters qs (unwrap_or (option_map (λ x. with_number x.text q.ty known) q.name) known)

-- the names of the definitions among these items
abbrev pub defined_names : List Item → List (List ℕ)
defined_names [] = []
defined_names (Shares gs ∷ items) = defined_names items
defined_names (Defines f ∷ items) =
    unwrap_or (option_map (λ b. f.name.text ∷ defined_names items) f.body) (defined_names items)

abbrev pub all_cells : List Item → ℕ
all_cells [] = 0
all_cells (Defines f ∷ items) = all_cells items
all_cells (Shares gs ∷ items) = sum_by cells gs + all_cells items

-- a function that returns nothing and takes one int
abbrev pub is_worker : Known → Bool
is_worker (Callable result takes) = is_none result && same_types takes (Int ∷ [])
is_worker other = false

-- the demands on a program, by the constraints of C11 6.5 to 6.9: a fault's number, its span, and whether it is met
pub record Demand : Type 0 where
  pub number : ℕ
  pub span : Span
  pub met : Bool

abbrev pub demand : ℕ → Span → Bool → List Demand
demand n at met = record { number = n; span = at; met = met } ∷ []

abbrev pub demands_of : {A : Type 0} → Option A → (A → List Demand) → List Demand
demands_of None f = []
demands_of (Some x) f = f x

module _ (known : Scope) where
  -- a name that is known (C11 6.5.1)
  abbrev pub IsKnown : Name → List Demand
  IsKnown x = demand 20 x.span (not (is_unknown (known x.text)))

  -- no value of a void call (6.3.2.2)
  abbrev pub GivesNumber : Expr → List Demand
  GivesNumber e = demand 22 (span_of e) (not (is_void known e))

  -- names, elements and calls, then operators, whose operands are numbers (6.5.1, 6.5.2.1, 6.5.2.2; 6.5.3 to 6.5.15)
  abbrev mutual
    pub IsTyped : Expr → List Demand
    IsTyped (Variable x) = IsKnown x ++ demand 22 x.span (may_be_number (known x.text))
    IsTyped (Constant n t at) = []
    IsTyped (Element x i at) = IsKnown x ++ (IsTyped i ++ GivesNumber i) ++ demand 22 at (may_be_array (known x.text))
    IsTyped (Call f es at) =
        IsKnown f ++ AreNumbers es
        ++ (demand 22 at (may_be_function (known f.text)) ++ demand 23 f.span (takes_so_many (known f.text) (count es)))
    IsTyped (Parenthesized e at) = IsTyped e
    IsTyped (Cast t e at) = IsTyped e ++ GivesNumber e
    IsTyped (Unary op e at) = IsTyped e ++ GivesNumber e
    IsTyped (Binary op a b at) = (IsTyped a ++ GivesNumber a) ++ (IsTyped b ++ GivesNumber b)
    IsTyped (Logical op a b at) = (IsTyped a ++ GivesNumber a) ++ (IsTyped b ++ GivesNumber b)
    IsTyped (Conditional c a b at) =
        (IsTyped c ++ GivesNumber c) ++ (IsTyped a ++ GivesNumber a) ++ (IsTyped b ++ GivesNumber b)
    IsTyped (InTransaction mode keyword e at) = IsTyped e ++ GivesNumber e

    pub AreNumbers : Exprs → List Demand
    AreNumbers Exprs.[] = []
    AreNumbers (Exprs.◌∷◌ e es) = (IsTyped e ++ GivesNumber e) ++ AreNumbers es

  -- a value that is a number
  abbrev pub IsNumber : Expr → List Demand
  IsNumber e = IsTyped e ++ GivesNumber e

  -- the left side of an assignment: a variable, or an element (6.3.2.1, 6.5.16)
  abbrev pub may_be_assigned : Expr → Bool
  may_be_assigned (Variable x) = may_be_number (known x.text)
  may_be_assigned (Element x i at) = true
  may_be_assigned e = false

  abbrev pub IsTypedTarget : Expr → List Demand
  IsTypedTarget (Variable x) = IsKnown x
  IsTypedTarget e = IsTyped e

  abbrev pub IsAssignable : Expr → List Demand
  IsAssignable e = demand 24 (span_of e) (may_be_assigned e)

  abbrev pub IsTypedSimple : Simple → List Demand
  IsTypedSimple (Evaluate e) = IsTyped e
  IsTypedSimple (Assign to op e) = IsTypedTarget to ++ IsNumber e ++ IsAssignable to
  IsTypedSimple (Adjust to by) = IsTypedTarget to ++ IsAssignable to

  -- each specifier has an argument of its own type (7.21.6.1)
  abbrev pub HaveTypes : List Scalar → Exprs → List Demand
  HaveTypes (t ∷ ts) (Exprs.◌∷◌ e es) =
      demand 27 (span_of e) (is_none (type_of known e) || is_type t (type_of known e)) ++ HaveTypes ts es
  HaveTypes ts es = []

  abbrev pub IsTypedPrint : List ℕ → Span → Exprs → List Demand
  IsTypedPrint format at es =
      let printed = specifiers (pieces format) in
      AreNumbers es ++ demand 27 at (is_format format && (length printed == count es)) ++ HaveTypes printed es

-- each new name is new in its scope, and known from its own initialiser on (6.2.1, 6.7)
abbrev pub AreTypedDeclarators : Scope → List (List ℕ) → Scalar → List Declarator → List Demand
AreTypedDeclarators known declared t [] = []
AreTypedDeclarators known declared t (d ∷ ds) =
    let known' = with_number d.name.text t known in
    demand 21 d.name.span (not (has_name declared d.name.text))
    ++ demands_of d.first (IsNumber known')
    ++ AreTypedDeclarators known' (d.name.text ∷ declared) t ds

abbrev pub IsTypedStart : Scope → Start → List Demand
IsTypedStart known Nothing = []
IsTypedStart known (Declares d) = AreTypedDeclarators known [] d.ty d.declarators
IsTypedStart known (Does s) = IsTypedSimple known s

-- statements of a function that returns this, in a loop or not; declared are the names of the enclosing scope
-- (6.8.4.1, 6.8.5, 6.8.6.2 to 6.8.6.4)
module _ (gives : Option Scalar) where
  abbrev mutual
    pub IsTypedStmt : Stmt → (known : Scope) (declared : List (List ℕ)) (looping : Bool) → List Demand
    IsTypedStmt (Declare d) known declared looping = AreTypedDeclarators known declared d.ty d.declarators
    IsTypedStmt (Do s) known declared looping = IsTypedSimple known s
    IsTypedStmt (Block ss) known declared looping = AreTypedStmts ss known [] looping
    IsTypedStmt (Print at format format_at es) known declared looping = IsTypedPrint known format format_at es
    IsTypedStmt (If c a) known declared looping = IsNumber known c ++ IsTypedStmt a known declared looping
    IsTypedStmt (IfElse c a b) known declared looping =
        IsNumber known c ++ IsTypedStmt a known declared looping ++ IsTypedStmt b known declared looping
    IsTypedStmt (While c a) known declared looping = IsNumber known c ++ IsTypedStmt a known declared true
    IsTypedStmt (DoWhile a c) known declared looping = IsTypedStmt a known declared true ++ IsNumber known c
    IsTypedStmt (For start c step a) known declared looping =
        let known' = scope_of_start start known in
        IsTypedStart known start ++ demands_of c (IsNumber known') ++ demands_of step (IsTypedSimple known')
        ++ IsTypedStmt a known' [] true
    IsTypedStmt (Break at) known declared looping = demand 26 at looping
    IsTypedStmt (Continue at) known declared looping = demand 26 at looping
    IsTypedStmt (Return e at) known declared looping =
        demands_of e (IsTyped known) ++ demand 22 at (returns_right gives e) ++ demands_of e (GivesNumber known)
    IsTypedStmt (Transaction kind ss at) known declared looping = AreTypedStmts ss known [] looping
    IsTypedStmt s known declared looping = []

    pub AreTypedStmts : Stmts → (known : Scope) (declared : List (List ℕ)) (looping : Bool) → List Demand
    AreTypedStmts Stmts.[] known declared looping = []
    AreTypedStmts (Stmts.◌∷◌ s ss) known declared looping =
        IsTypedStmt s known declared looping ++ AreTypedStmts ss (scope_after s known) (names_of s ++ declared) looping

abbrev pub AreDistinct : List (List ℕ) → List Parameter → List Demand
AreDistinct declared [] = []
AreDistinct declared (q ∷ qs) =
    demands_of q.name (λ x. demand 21 x.span (not (has_name declared x.text)))
    ++ AreDistinct (parameter_names (q ∷ []) ++ declared) qs

abbrev pub IsTypedBody : List Item → Function → Option Stmts → List Demand
IsTypedBody earlier f None = []
IsTypedBody earlier f (Some ss) =
    AreTypedStmts f.result ss (with_parameters f.parameters (file_scope (earlier ++ Defines f ∷ [])))
    (parameter_names f.parameters) false

-- a function after these items: no global has its name, it has no second body, and earlier types are the same (6.7,
-- 6.9.1)
abbrev pub IsTypedFunction : List Item → Function → List Demand
IsTypedFunction earlier f =
    let before = file_scope earlier f.name.text in
    demand 21 f.name.span
    (may_be_function before && (is_none f.body || not (has_name (defined_names earlier) f.name.text)))
    ++ demand 22 f.name.span (agrees f before)
    ++ AreDistinct [] f.parameters
    ++ IsTypedBody earlier f f.body

-- the length of an array (6.7.6.2), and its initialisers (6.7.9)
abbrev pub IsLength : Option (ℕ × Span) → List Demand
IsLength None = []
IsLength (Some n) = demand 25 n.1 (nat_le 1 n.0 && nat_le n.0 MOST_CELLS)

-- no initialiser is in excess of the cells
abbrev pub HaveCells : List Initialiser → List Demand
HaveCells [] = []
HaveCells (i ∷ is) = demand 25 i.span false

-- globals after these items and globals, which occupy this many cells
abbrev pub AreTypedGlobals : List Item → List Global → ℕ → List Global → List Demand
AreTypedGlobals earlier before taken [] = []
AreTypedGlobals earlier before taken (g ∷ gs) =
    demand 21 g.name.span (is_unknown (file_scope (earlier ++ Shares before ∷ []) g.name.text))
    ++ IsLength g.length
    ++ HaveCells (drop (cells g) g.first)
    ++ demand 25 g.name.span (nat_le (taken + cells g) MOST_CELLS)
    ++ AreTypedGlobals earlier (before ++ g ∷ []) (taken + cells g) gs

abbrev pub IsTypedItem : List Item → Item → List Demand
IsTypedItem earlier (Defines f) = IsTypedFunction earlier f
IsTypedItem earlier (Shares gs) = AreTypedGlobals earlier [] (all_cells earlier) gs

abbrev pub AreTypedItems : List Item → List Item → List Demand
AreTypedItems earlier [] = []
AreTypedItems earlier (i ∷ items) = IsTypedItem earlier i ++ AreTypedItems (earlier ++ i ∷ []) items

-- each function that is declared is defined (6.9); the span is its first name's
abbrev pub AreDefined : Program → (earlier items : List Item) → List Demand
AreDefined p earlier [] = []
AreDefined p earlier (Shares gs ∷ items) = AreDefined p (earlier ++ Shares gs ∷ []) items
AreDefined p earlier (Defines f ∷ items) =
    demand 29 f.name.span (not (is_unknown (file_scope earlier f.name.text)) || is_some (definition_of p f.name.text))
    ++ AreDefined p (earlier ++ Defines f ∷ []) items

-- the demands of a program whose last token ends at this offset
abbrev pub Meets : ℕ → Program → List Demand
Meets end p =
    AreTypedItems [] p
    ++ AreDefined p [] p
    ++ demand 28 (record { start = end; end = end }) (is_worker (file_scope p (codes "worker")))

-- every demand is met
abbrev pub IsTypedProgram : Program → Type 0
IsTypedProgram p = All (λ d. IsTrue d.met) (Meets 0 p)

-- the first demand that is not met
abbrev pub first_unmet : List Demand → Option (ℕ × Span)
first_unmet [] = None
first_unmet (d ∷ ds) = if d.met then first_unmet ds else Some (d.number, d.span)
