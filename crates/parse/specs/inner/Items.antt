-- The results of the parser's functions on functions and globals, as functions on lists.
use Rattle.std.specs.Prelude.{ℕ, Bool, true, false, List, [], ◌∷◌, ◌++◌, length, Option, Some, None, Result}
use Rattle.std.specs.Prelude.{if◌then◌else◌, is_some}
use Rattle.lex.specs.declared.token.Fixed.TheVariants.{Keyword, Punctuator}
use Rattle.lex.specs.declared.token.Keyword.TheVariants as key
use Rattle.lex.specs.declared.token.Punctuator.TheVariants as punct
use Rattle.lex.specs.declared.token.Scalar.{Scalar}
use Rattle.lex.specs.declared.token.Span.{Span}
use Rattle.lex.specs.Tokens.{Terminal, name, constant, string_literal, fixed, reserved, Tok}
use Rattle.syntax.specs.declared.tree.Attribute.{Attribute}
use Rattle.syntax.specs.declared.tree.Initialiser.{Initialiser}
use Rattle.syntax.specs.Tree.{Name, Stmts, Parameter, Global, Item, Defines, Shares, Program}
use Rattle.syntax.specs.Views.{stmts_from}
use Rattle.syntax.specs.Grammar.{the_name, the_attribute, the_length, attributes_of}
use Rattle.parse.specs.inner.Reading.{Fault, ◌>>=◌, Parser, none, give, bind, seq, map_parser, either, many_until}
use Rattle.parse.specs.inner.Reading.{in_front, trailing, comma_list, take, expect, expect_span, is_next, is_other}
use Rattle.parse.specs.inner.Reading.{perhaps}
use Rattle.parse.specs.inner.Reading.{behind, before, across, whole_input}
use Rattle.parse.specs.inner.Expressions.{says, scalar}
use Rattle.parse.specs.inner.Statements.{block_at}

-- ---- attributes

abbrev pub words : Parser (List Attribute)
words = comma_list (take the_attribute)

-- `[[ .. ]]`
abbrev pub bracket_attributes : Parser (List Attribute)
bracket_attributes =
    behind (Punctuator punct.OpenBracket)
    (behind (Punctuator punct.OpenBracket)
    (before (Punctuator punct.CloseBracket) (before (Punctuator punct.CloseBracket) words)))

-- `__attribute__((..))`
abbrev pub gnu_attributes : Parser (List Attribute)
gnu_attributes =
    behind (Keyword key.Attribute)
    (behind (Punctuator punct.OpenParen)
    (behind (Punctuator punct.OpenParen)
    (before (Punctuator punct.CloseParen) (before (Punctuator punct.CloseParen) words))))

abbrev pub attribute_list : Parser (List Attribute)
attribute_list = either (is_next (Punctuator punct.OpenBracket)) bracket_attributes gnu_attributes

abbrev pub is_plain : Option Tok → Bool
is_plain h = if is_next (Punctuator punct.OpenBracket) h then false else is_other (Keyword key.Attribute) h

abbrev pub attributes : Parser (List Attribute)
attributes = map_parser attributes_of (many_until is_plain attribute_list)

-- ---- functions

abbrev pub result : Parser (Option Scalar)
result = either (is_next (Keyword key.Void)) (map_parser (λ x. None) (expect (Keyword key.Void)))
    (map_parser Some scalar)

abbrev pub parameter_tree : Scalar × Option Name → Parameter
parameter_tree x = record { ty = x.0; name = x.1 }

abbrev pub maybe_name : Parser (Option Name)
maybe_name = either (says the_name) (map_parser Some (take the_name)) (give None)

abbrev pub parameter : Parser Parameter
parameter = map_parser parameter_tree (seq scalar maybe_name)

-- nothing, `void`, or parameters
abbrev pub parameter_list : Parser (List Parameter)
parameter_list =
    either (is_next (Punctuator punct.CloseParen)) (give [])
    (either (is_next (Keyword key.Void)) (map_parser (λ x. []) (expect (Keyword key.Void))) (comma_list parameter))

abbrev pub parameters : Parser (List Parameter)
parameters = behind (Punctuator punct.OpenParen) (before (Punctuator punct.CloseParen) parameter_list)

-- all parameters have names
abbrev pub are_named : List Parameter → Bool
are_named [] = true
are_named (q ∷ qs) = if is_some q.name then are_named qs else false

-- a function's body, if its parameters allow one, or the end of a prototype
abbrev pub defined_at : ℕ → Bool → Parser (Option Stmts)
defined_at d true = map_parser (λ ss. Some (stmts_from ss)) (block_at d)
defined_at d false = none

abbrev pub body_at : ℕ → List Parameter → Parser (Option Stmts)
body_at d qs =
    either (is_next (Punctuator punct.OpenBrace)) (defined_at d (are_named qs))
    (map_parser (λ x. None) (expect (Punctuator punct.Semicolon)))

-- what precedes a function's parameters or follows the first global's name
abbrev pub Header : Type 0
Header = List Attribute × (Option Scalar × Name)

abbrev pub header : Parser Header
header = seq attributes (seq result (take the_name))

abbrev pub function_tree : Header → (List Parameter × List Attribute) × Option Stmts → Item
function_tree h x =
    Defines (record { attributes = h.0 ++ x.0.1; result = h.1.0; name = h.1.1; parameters = x.0.0; body = x.1 })

abbrev pub function_at : ℕ → Header → Parser Item
function_at d h = map_parser (function_tree h) (bind (seq parameters attributes) (λ x. body_at d x.0))

-- ---- globals

abbrev pub value_in : Terminal → Span → Option ((ℕ × Scalar) × Span)
value_in (name s) at = None
value_in (constant n ty) at = Some ((n, ty), at)
value_in (string_literal s) at = None
value_in (fixed k) at = None
value_in reserved at = None

-- a constant, and its span
abbrev pub value_with_span : Tok → Option ((ℕ × Scalar) × Span)
value_with_span t = value_in t.terminal t.span

abbrev pub first_tree : Option Span × ((ℕ × Scalar) × Span) → Initialiser
first_tree (None, x) = record { negative = false; value = x.0.0; ty = x.0.1; span = x.1 }
first_tree (Some at, x) = record { negative = true; value = x.0.0; ty = x.0.1; span = across at x.1 }

abbrev pub initialiser : Parser Initialiser
initialiser =
    map_parser first_tree (seq (perhaps (Punctuator punct.Minus) (expect_span (Punctuator punct.Minus)))
    (take value_with_span))

abbrev pub one_first : Initialiser → List Initialiser
one_first i = i ∷ []

-- the first value of a variable
abbrev pub first_value : Parser (List Initialiser)
first_value =
    either (is_next (Punctuator punct.Assign)) (map_parser one_first (behind (Punctuator punct.Assign) initialiser))
    (give [])

-- further first values up to the closing brace: as many as there are tokens suffice
abbrev pub further_values : Parser (List Initialiser)
further_values ts = trailing (length ts) initialiser ts

-- the first values between an array's braces
abbrev pub value_list : Parser (List Initialiser)
value_list = map_parser in_front (seq initialiser further_values)

-- the first values of an array
abbrev pub first_values : Parser (List Initialiser)
first_values =
    either (is_next (Punctuator punct.Assign))
    (behind (Punctuator punct.Assign)
    (behind (Punctuator punct.OpenBrace) (before (Punctuator punct.CloseBrace) value_list)))
    (give [])

abbrev pub Size : Type 0
Size = Option (ℕ × Span) × List Initialiser

abbrev pub array_tree : (ℕ × Span) × List Initialiser → Size
array_tree x = (Some x.0, x.1)

abbrev pub variable_tree : List Initialiser → Size
variable_tree is = (None, is)

-- what follows a global's name
abbrev pub global_tail : Parser Size
global_tail =
    either (is_next (Punctuator punct.OpenBracket))
    (map_parser array_tree
    (seq (behind (Punctuator punct.OpenBracket) (before (Punctuator punct.CloseBracket) (take the_length)))
    first_values))
    (map_parser variable_tree first_value)

abbrev pub global_tree : Scalar → Name → Size → Global
global_tree t x size = record { ty = t; name = x; length = size.0; first = size.1 }

abbrev pub global : Scalar → Parser Global
global t = map_parser (λ x. global_tree t x.0 x.1) (seq (take the_name) global_tail)

-- the globals of one declaration, after the first one's name
abbrev pub several : Scalar → Name → Parser (List Global)
several t x =
    map_parser (λ y. global_tree t x y.0 ∷ y.1)
    (seq global_tail (many_until (is_other (Punctuator punct.Comma)) (behind (Punctuator punct.Comma) (global t))))

abbrev pub globals_tree : Scalar → Name → Size × List Global → Item
globals_tree t x y = Shares (global_tree t x y.0 ∷ y.1)

abbrev pub globals_from : Scalar → Name → Parser Item
globals_from t x =
    map_parser (globals_tree t x)
    (before (Punctuator punct.Semicolon)
    (seq global_tail (many_until (is_other (Punctuator punct.Comma)) (behind (Punctuator punct.Comma) (global t)))))

-- ---- items

-- globals have a type, and no attributes
abbrev pub shared_from : Header → Parser Item
shared_from ([], (Some t, x)) = globals_from t x
shared_from ([], (None, x)) = none
shared_from (word ∷ more, r) = none

abbrev pub item_from : ℕ → Header → Parser Item
item_from d h = either (is_next (Punctuator punct.OpenParen)) (function_at d h) (shared_from h)

-- an item within this depth
abbrev pub item_at : ℕ → Parser Item
item_at d = map_parser (λ x. x.1) (bind header (item_from d))

abbrev pub at_end : Option Tok → Bool
at_end None = true
at_end (Some t) = false

-- a program within this depth
abbrev pub program_at : ℕ → Parser Program
program_at d = many_until at_end (item_at d)

-- a program, and no token after it
abbrev pub whole_program : ℕ → List Tok → Result Program Fault
whole_program d ts = program_at d ts >>= whole_input
