-- The results of the parser's functions, as functions on lists.
use Rattle.std.specs.Prelude.{◌≡◌, ℕ, zero, suc, Bool, true, false, not, List, [], ◌∷◌, length, Option, Some, None}
use Rattle.std.specs.Prelude.{Result, Ok, Err, if◌then◌else◌, nat_lt, nat_le, IfOk}
use Rattle.std.specs.Borrow.{Bor}
use Rattle.lex.specs.declared.token.Fixed.{Fixed}
use Rattle.lex.specs.declared.token.Fixed.TheVariants.{Punctuator}
use Rattle.lex.specs.declared.token.Punctuator.TheVariants as punct
use Rattle.lex.specs.declared.token.Span.{Span}
use Rattle.lex.specs.declared.token.Token.{Token}
use Rattle.lex.specs.Tokens.{Tok, toks}
use Rattle.syntax.specs.Phrases.{is_fixed, the_fixed, fixed_span}
use Rattle.parse.specs.declared.fault.ParseFailure.{ParseFailure}
use Rattle.parse.specs.declared.fault.ParseFailure.TheVariants.{Memory, Wrong, Deep}

-- why nothing is parsed, with the tokens from there on
pub data Fault : Type 0 where
  wrong : List Tok → Fault
  deep : List Tok → Fault

infixl 10 ◌>>=◌
abbrev pub ◌>>=◌ : {A B : Type 0} → Result A Fault → (A → Result B Fault) → Result B Fault
(Ok x) >>= f = f x
(Err e) >>= f = Err e

-- The result of a function, seen by view, is that of parsing, unless memory ran out.
abbrev pub Fails : {Y : Type 0} → ParseFailure → Result Y Fault → Type 0
Fails Memory read = Unit {0}
Fails (Wrong r) read = read ≡ Err (wrong (toks r.now))
Fails (Deep r) read = read ≡ Err (deep (toks r.now))

abbrev pub Gives : {X Y : Type 0} → (X → Y) → Result X ParseFailure → Result Y Fault → Type 0
Gives view (Ok x) read = read ≡ Ok (view x)
Gives view (Err e) read = Fails e read

-- If one parse returns a value, seen by view, the other returns it mapped by make, unless memory ran out.
abbrev pub GivesOn : {X Y U V : Type 0} → (X → U) → (Y → V) → (U → V) → Result (X × Bor (List Token)) ParseFailure →
    Result (Y × Bor (List Token)) ParseFailure → Type 0
GivesOn {U = U} {V = V} view seen make one other =
    (read : Result (U × List Tok) Fault) → Gives {Y = U × List Tok} (λ x. (view x.0, toks x.1.now)) one read →
    Gives {Y = V × List Tok} (λ y. (seen y.0, toks y.1.now)) other (read >>= λ x. Ok (make x.0, x.1))

-- parses something at the front, and returns it with the tokens after it
abbrev pub Parser : Type 0 → Type 0
Parser A = List Tok → Result (A × List Tok) Fault

-- the first token
abbrev pub head : List Tok → Option Tok
head [] = None
head (t ∷ ts) = Some t

-- the parser by which nothing is spelled
abbrev pub none : {A : Type 0} → Parser A
none ts = Err (wrong ts)

abbrev pub give : {A : Type 0} → A → Parser A
give x ts = Ok (x, ts)

-- one thing, and then another that depends on it
abbrev pub bind : {A B : Type 0} → Parser A → (A → Parser B) → Parser (A × B)
bind P Q ts = P ts >>= λ x. Q x.0 x.1 >>= λ y. Ok ((x.0, y.0), y.1)

abbrev pub seq : {A B : Type 0} → Parser A → Parser B → Parser (A × B)
seq P Q = bind P (λ x. Q)

-- what is parsed, as another value
abbrev pub map_parser : {A B : Type 0} → (A → B) → Parser A → Parser B
map_parser f P ts = P ts >>= λ x. Ok (f x.0, x.1)

-- parses by the first token
abbrev pub choice : {A : Type 0} → (Option Tok → Parser A) → Parser A
choice c ts = c (head ts) ts

-- one thing or another, by a test of the first token
abbrev pub either : {A : Type 0} → (Option Tok → Bool) → Parser A → Parser A → Parser A
either test P Q ts = if test (head ts) then P ts else Q ts

-- too deep, if something begins here
abbrev pub too_deep_at : {A : Type 0} → (Option Tok → Bool) → Parser A
too_deep_at starts ts = if starts (head ts) then Err (deep ts) else Err (wrong ts)

-- too deep, if no depth is left
abbrev pub unless_too_deep : {A : Type 0} → ℕ → Parser A → Parser A
unless_too_deep zero P ts = Err (deep ts)
unless_too_deep (suc d) P ts = P ts

-- at most n things, up to a token that stops them
abbrev pub many : {A : Type 0} → (Option Tok → Bool) → ℕ → Parser A → Parser (List A)
many stop zero P ts = if stop (head ts) then Ok ([], ts) else Err (wrong ts)
many stop (suc n) P ts =
    if stop (head ts) then Ok ([], ts) else (P ts >>= λ x. many stop n P x.1 >>= λ y. Ok (x.0 ∷ y.0, y.1))

abbrev pub many_until : {A : Type 0} → (Option Tok → Bool) → Parser A → Parser (List A)
many_until stop P ts = many stop (length ts) P ts

-- one token that has a value
abbrev pub take_value : {A : Type 0} → Option A → Tok → List Tok → Result (A × List Tok) Fault
take_value (Some x) t ts = Ok (x, ts)
take_value None t ts = Err (wrong (t ∷ ts))

abbrev pub take : {A : Type 0} → (Tok → Option A) → Parser A
take f [] = Err (wrong [])
take f (t ∷ ts) = take_value (f t) t ts

abbrev pub expect : Fixed → Parser (Unit {0})
expect m = take (the_fixed m)

-- If a fixed token follows what was parsed, the other returns it with the tokens after that token.
abbrev pub GivesBefore : {X : Type 0} → Fixed → Result (X × Bor (List Token)) ParseFailure →
    Result (X × Bor (List Token)) ParseFailure → Type 0
GivesBefore k (Ok x) other =
    IfOk other (λ y. y.0 ≡ x.0)
    × Gives {Y = Unit {0} × List Tok} (λ y. (tt, toks y.1.now)) other (expect k (toks x.1.now))
GivesBefore k (Err e) other = other ≡ Err e

-- a fixed token, by its span
abbrev pub expect_span : Fixed → Parser Span
expect_span m = take (fixed_span m)

-- this fixed token is the first
abbrev pub is_next : Fixed → Option Tok → Bool
is_next m None = false
is_next m (Some t) = is_fixed m t.terminal

abbrev pub is_other : Fixed → Option Tok → Bool
is_other m h = not (is_next m h)

-- what was found after a fixed token, if that is next
abbrev pub GivesBehind : Fixed → List Tok → Option (Bor (List Token)) → Type 0
GivesBehind k ts None = is_next k (head ts) ≡ false
GivesBehind k ts (Some rest) = (is_next k (head ts) ≡ true) × (expect k ts ≡ Ok (tt, toks rest.now))

abbrev pub if_there : {A : Type 0} → Bool → Parser A → Parser (Option A)
if_there true P = map_parser Some P
if_there false P = give None

-- something that begins with this fixed token, if that is next
abbrev pub perhaps : {A : Type 0} → Fixed → Parser A → Parser (Option A)
perhaps k P = choice (λ h. if_there (is_next k h) P)

-- what follows a fixed token
abbrev pub behind : {A : Type 0} → Fixed → Parser A → Parser A
behind k P = map_parser (λ x. x.1) (seq (expect k) P)

-- what precedes a fixed token
abbrev pub before : {A : Type 0} → Fixed → Parser A → Parser A
before k P = map_parser (λ x. x.0) (seq P (expect k))

-- nothing, if the next token is this fixed token
abbrev pub unless : {A : Type 0} → Fixed → Parser A → Parser (Option A)
unless k P = either (is_next k) (give None) (map_parser Some P)

abbrev pub in_front : {A : Type 0} → A × List A → List A
in_front x = x.0 ∷ x.1

-- one or more things, with commas between
abbrev pub comma_list : {A : Type 0} → Parser A → Parser (List A)
comma_list P =
    map_parser in_front (seq P (many_until (is_other (Punctuator punct.Comma)) (behind (Punctuator punct.Comma) P)))

-- further things, each after a comma, and perhaps a comma after the last, up to a brace; at most n
abbrev pub trailing : {A : Type 0} → ℕ → Parser A → Parser (List A)
trailing zero P ts = if is_next (Punctuator punct.Comma) (head ts) then Err (wrong ts) else Ok ([], ts)
trailing (suc n) P ts =
    if is_next (Punctuator punct.Comma) (head ts) then
    (expect (Punctuator punct.Comma) ts
    >>= λ c. if is_next (Punctuator punct.CloseBrace) (head c.1) then Ok ([], c.1) else
    (P c.1 >>= λ x. trailing n P x.1 >>= λ y. Ok (x.0 ∷ y.0, y.1)))
    else Ok ([], ts)

-- ---- operators that group to the left

-- operators, by their tokens and levels, and the trees that they make
pub record Operators (E Op : Type 0) : Type 0 where
  pub the : Tok → Option Op
  pub precedence : Op → ℕ
  pub node : Op → E → E → E
  pub depth : E → ℕ

module _ {E Op : Type 0} (ops : Operators E Op) where
  abbrev pub at_least : ℕ → Option Op → Option Op
  at_least min (Some op) = if nat_le min (ops.precedence op) then Some op else None
  at_least min None = None

  abbrev pub after_op : List Tok → Option Op → Option (Op × List Tok)
  after_op ts (Some op) = Some (op, ts)
  after_op ts None = None

  -- the operator at the front that binds at least so tightly, and the tokens after it
  abbrev pub next_op : ℕ → List Tok → Option (Op × List Tok)
  next_op min [] = None
  next_op min (t ∷ ts) = after_op ts (at_least min (ops.the t))

  -- the operator of a token, if it binds so tightly
  abbrev pub op_at : ℕ → Option Tok → Option Op
  op_at min None = None
  op_at min (Some t) = at_least min (ops.the t)

  abbrev pub operand_or : Option (Op × List Tok) → E → List Tok → (Op → List Tok → Result (E × List Tok) Fault) →
      Result (E × List Tok) Fault
  operand_or None left ts go = Ok (left, ts)
  operand_or (Some x) left ts go = go x.0 x.1

  -- further operands of a chain within depth d, at most n
  unfoldable pub climb_loop : (ℕ → Parser E) → ℕ → ℕ → ℕ → E → Parser E
  climb_loop below min d zero left ts = operand_or (next_op min ts) left ts (λ op after. Err (deep ts))
  climb_loop below min d (suc n) left ts = operand_or (next_op min ts) left ts (λ op after.
      if nat_lt (ops.depth left) d then
      (below (suc (ops.precedence op)) after >>= λ b. climb_loop below min d n (ops.node op left b.0) b.1)
      else Err (deep ts))

abbrev pub GivesOp : {Op : Type 0} → Option (Op × Bor (List Token)) → Option (Op × List Tok) → Type 0
GivesOp None read = read ≡ None
GivesOp (Some x) read = read ≡ Some (x.0, toks (x.1).now)

-- from the start of one span to the end of the other
abbrev pub across : Span → Span → Span
across a b = record { start = a.start; «end» = b.«end» }

abbrev pub whole_input : {A : Type 0} → A × List Tok → Result A Fault
whole_input (x, []) = Ok x
whole_input (x, t ∷ ts) = Err (wrong (t ∷ ts))
