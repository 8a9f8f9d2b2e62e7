-- Laws of names, scopes and the ends of statements.
use Rattle.std.specs.Prelude.{◌≡◌, ℕ, List, [], ◌∷◌, ◌++◌, map, Option, Some, false, not, IsTrue, All, is_some}
use Rattle.syntax.specs.Tree.{Scalar, Expr, Stmt, Stmts, Declare, Function, Item, Defines, Program}
use Rattle.syntax.specs.Numbers.{Value}
use Rattle.syntax.specs.Names.{Local, definition_of}
use Rattle.syntax.specs.Types.{Scope, Callable, known_function, file_scope, type_of, running_scope}
use Rattle.syntax.specs.Typing.{is_unknown, is_void, scope_after, parameter_names, with_parameters, Demand, IsTyped}
use Rattle.syntax.specs.Typing.{IsTypedStmt, AreTypedStmts, IsTypedProgram}
use Rattle.syntax.specs.Actions.{State}
use Rattle.syntax.specs.Meaning.{Completion, Breaks, Continues, stmt, call_locals, calls}
use Rattle.syntax.specs.Laws.{WhereGiven, shape}

-- each of these demands is met
abbrev pub AreAllMet : List Demand → Type 0
AreAllMet ds = All (λ d. IsTrue d.met) ds

-- a known function has a definition, with these types
abbrev pub CalledAreDefined : Type 0
CalledAreDefined =
    (p : Program) → IsTypedProgram p → (x : List ℕ) (result : Option Scalar) (takes : List Scalar) →
    file_scope p x ≡ Callable result takes →
    (d : Function × Stmts) × (definition_of p x ≡ Some d) × (known_function d.0 ≡ Callable result takes)

-- each name that is known in one scope is known as the same in another
abbrev pub IsSubscope : (known other : Scope) → Type 0
IsSubscope known other = (x : List ℕ) → IsTrue (not (is_unknown (known x))) → other x ≡ known x

-- the scope of a definition's body: the items up to it, and its parameters
abbrev pub body_scope : List Item → Function → Scope
body_scope earlier f = with_parameters f.parameters (file_scope (earlier ++ Defines f ∷ []))

-- a definition among the items of a program, with its body typed in its own scope
pub record StandsTyped (p : Program) (d : Function × Stmts) : Type 0 where
  pub earlier : List Item
  pub later : List Item
  pub stands : p ≡ (earlier ++ Defines d.0 ∷ []) ++ later
  pub body : AreAllMet (AreTypedStmts d.0.result d.1 (body_scope earlier d.0) (parameter_names d.0.parameters) false)
  -- with the arguments as its locals, the environment as it runs agrees with that of its body
  pub fits : (vs : List Value) (ls : List Local) → call_locals d.0.parameters vs ≡ Some ls →
      IsSubscope (body_scope earlier d.0) (running_scope p ls)

abbrev pub BodiesAreTyped : Type 0
BodiesAreTyped =
    (p : Program) → IsTypedProgram p → (x : List ℕ) (d : Function × Stmts) → definition_of p x ≡ Some d →
    StandsTyped p d

-- a typed expression has the same type if the environments agree, and it has one if it is not void
abbrev pub TypesAgree : Type 0
TypesAgree =
    (known other : Scope) → IsSubscope known other → (e : Expr) → AreAllMet (IsTyped known e) →
    (type_of other e ≡ type_of known e) × (IsTrue (not (is_void known e)) → IsTrue (is_some (type_of known e)))

-- if the environment as a program runs agrees with that of a statement, it does so after the statement
abbrev pub ScopeFits : Type 0
ScopeFits =
    (p : Program) (frames : ℕ) (st : Stmt) (s : State) (known : Scope) → IsSubscope known (running_scope p s.locals) →
    WhereGiven (stmt p (calls p frames) st s)
    (λ end now. IsSubscope (scope_after st known) (running_scope p now.locals))

-- the names and types that a statement declares
abbrev pub declared_by : Stmt → List (List ℕ × Scalar)
declared_by (Declare d) = map (λ e. (e.name.text, d.ty)) d.declarators
declared_by st = []

-- after a statement the locals are, by name and type, those before it and those that it declares
abbrev pub LocalsExact : Type 0
LocalsExact =
    (p : Program) (frames : ℕ) (st : Stmt) (s : State) →
    WhereGiven (stmt p (calls p frames) st s) (λ end now. map shape now.locals ≡ map shape s.locals ++ declared_by st)

-- an end that exits no loop
abbrev pub IsNoJump : Completion → Type 0
IsNoJump Breaks = ⊥
IsNoJump Continues = ⊥
IsNoJump end = Unit {0}

-- a statement that is typed outside loops ends by no break and by no continue
abbrev pub EndsFit : Type 0
EndsFit =
    (p : Program) (frames : ℕ) (gives : Option Scalar) (st : Stmt) (known : Scope) (declared : List (List ℕ))
    (s : State) →
    AreAllMet (IsTypedStmt gives st known declared false) →
    WhereGiven (stmt p (calls p frames) st s) (λ end now. IsNoJump end)
