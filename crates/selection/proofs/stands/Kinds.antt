-- The type of what is emitted for an expression.
use Rattle.std.proofs.Common.{◌≡◌, refl, ℕ, ◌+◌, Option, Some, None}
use Rattle.lex.specs.declared.token.Scalar.{Scalar}
use Rattle.syntax.specs.declared.tree.UnaryOp.TheVariants.{Negate, Keep, Not, Complement}
use Rattle.syntax.specs.Tree.{Expr, Variable, Constant, Element, Call, Parenthesized, Cast, Unary, Binary, Logical, Conditional, InTransaction, Program}
use Rattle.syntax.specs.Names.{newest, global_of, GlobalCells}
use Rattle.bytecode.specs.declared.instr.Instr.{Instr}
use Rattle.lower_spec.specs.Expressions.{LocalScope}
use Rattle.selection.specs.Lists.{Lists}
use Rattle.selection.specs.Names.{Callee, callee_of}
use Rattle.selection.specs.Expressions.{Emitted, AllEmitted, converting, converted_by, in_type, variable, element, call_code, variable_type, element_type, called_type, taken_types, emitted_type, emit, emit_all}

pub converted_of : (o : Option (ℕ → ℕ → Instr)) (u : Scalar) (e : Emitted) (into : ℕ) → (converted_by o u e into).location.ty ≡ u
converted_of None u e into = refl
converted_of (Some i) u e into = refl

pub in_type_of : (s u : Scalar) (e' : Expr) (e : Emitted) (from into : ℕ) (l : Lists) → (in_type s u e' e from into l).location.ty ≡ u
in_type_of s u (Constant n t at) e from into l = refl
in_type_of s u e' e from into l = converted_of (converting s u) u e into

variable_is : (o : Option (ℕ × Scalar)) (g : Option GlobalCells) (from into : ℕ) (l : Lists) → (variable o g from into l).location.ty ≡ variable_type o g
variable_is (Some x) g from into l = refl
variable_is None (Some g) from into l = refl
variable_is None None from into l = refl

element_is : (g : Option GlobalCells) (e : Emitted) (from into : ℕ) (l : Lists) → (element g e from into l).location.ty ≡ element_type g
element_is None e from into l = refl
element_is (Some g) e from into l = refl

called_is : (o : Option Callee) (args : AllEmitted) (from into : ℕ) (l : Lists) → (call_code o args from into l).location.ty ≡ called_type o
called_is None args from into l = refl
called_is (Some f) args from into l = refl

pub emitted_is : (p : Program) (scope : LocalScope) (e : Expr) (from into free : ℕ) (l : Lists) → (emit p scope e from into free l).location.ty ≡ emitted_type p scope e
emitted_is p scope (Variable x) from into free l = variable_is (newest scope x.text) (global_of p x.text) from into l
emitted_is p scope (Constant n t at) from into free l = refl
emitted_is p scope (Element x i at) from into free l = element_is (global_of p x.text) (emit p scope i from free free l) from into l
emitted_is p scope (Call f es at) from into free l = called_is (callee_of p f.text) (emit_all p scope (taken_types (callee_of p f.text)) es from free l) from into l
emitted_is p scope (Parenthesized e at) from into free l = emitted_is p scope e from into free l
emitted_is p scope (Cast t e at) from into free l = in_type_of (emitted_type p scope e) t e (emit p scope e from into free l) from into l
emitted_is p scope (Unary Negate e at) from into free l = emitted_is p scope e from free free l
emitted_is p scope (Unary Keep e at) from into free l = emitted_is p scope e from into free l
emitted_is p scope (Unary Not e at) from into free l = refl
emitted_is p scope (Unary Complement e at) from into free l = emitted_is p scope e from free free l
emitted_is p scope (Binary op a b at) from into free l = refl
emitted_is p scope (Logical op a b at) from into free l = refl
emitted_is p scope (Conditional c a b at) from into free l = refl
emitted_is p scope (InTransaction mode keyword e at) from into free l = emitted_is p scope e (from + 1) into free l
