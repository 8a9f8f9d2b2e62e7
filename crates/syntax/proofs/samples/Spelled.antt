-- Small texts and their trees.
use Rattle.std.proofs.Common.{ℕ, ◌+◌, List, [], ◌∷◌, None, refl, inl}
use Rattle.std.specs.Prelude.{codes}
use Rattle.lex.specs.declared.token.Fixed.{Fixed}
use Rattle.lex.specs.declared.token.Fixed.TheVariants.{Keyword, Punctuator}
use Rattle.lex.specs.declared.token.Keyword.TheVariants as key
use Rattle.lex.specs.declared.token.Punctuator.TheVariants as punct
use Rattle.lex.specs.declared.token.Scalar.TheVariants.{Int}
use Rattle.lex.specs.declared.token.Span.{Span}
use Rattle.lex.specs.Tokens.{name, fixed, Tok}
use Rattle.syntax.specs.declared.tree.Mode.TheVariants.{Atomic}
use Rattle.syntax.specs.Tree.{Name, Expr, Variable, InTransaction, Stmt, Empty, CancelOuter, If, IfElse, Shares}
use Rattle.syntax.specs.Grammar.{Spells, in_parens, outer_phrase, expr, stmt}

-- one byte from here on
abbrev byte : ℕ → Span
byte n = record { start = n; «end» = n + 1 }

abbrev sign : Fixed → ℕ → Tok
sign k n = record { terminal = fixed k; span = byte n }

-- the name `x`
abbrev x_token : ℕ → Tok
x_token n = record { terminal = name (120 ∷ []); span = byte n }

abbrev x_name : ℕ → Name
x_name n = record { text = 120 ∷ []; span = byte n }

-- `int x;`, of tokens one byte long
pub one_variable : Spells (record { program = Shares (record { ty = Int; name = x_name 2; length = None; first = [] } ∷ []) ∷ []; ends = 5 }) (sign (Keyword key.Int) 0 ∷ x_token 2 ∷ sign (Punctuator punct.Semicolon) 4 ∷ [])
one_variable = (
  record {
    front = sign (Keyword key.Int) 0 ∷ x_token 2 ∷ sign (Punctuator punct.Semicolon) 4 ∷ [];
    back = [];
    second = refl;
    whole = refl;
    first = (
      Int,
      record {
        front = sign (Keyword key.Int) 0 ∷ [];
        back = x_token 2 ∷ sign (Punctuator punct.Semicolon) 4 ∷ [];
        whole = refl;
        first = inl (record { token = sign (Keyword key.Int) 0; has = refl; whole = refl });
        second = record {
          front = x_token 2 ∷ [];
          back = sign (Punctuator punct.Semicolon) 4 ∷ [];
          whole = refl;
          first = record { front = x_token 2 ∷ []; back = []; first = (refl, record { front = x_token 2 ∷ []; back = []; first = record { token = x_token 2; has = refl; whole = refl }; second = refl; whole = refl }); second = refl; whole = refl };
          second = record { token = sign (Punctuator punct.Semicolon) 4; has = refl; whole = refl };
        };
      },
    );
  },
  refl,
)

-- `(x)`
parens : (n : ℕ) → in_parens (Variable (x_name (n + 1))) (sign (Punctuator punct.OpenParen) n ∷ x_token (n + 1) ∷ sign (Punctuator punct.CloseParen) (n + 2) ∷ [])
parens n = record {
  front = sign (Punctuator punct.OpenParen) n ∷ [];
  back = x_token (n + 1) ∷ sign (Punctuator punct.CloseParen) (n + 2) ∷ [];
  whole = refl;
  first = record { token = sign (Punctuator punct.OpenParen) n; has = refl; whole = refl };
  second = record { front = x_token (n + 1) ∷ []; back = sign (Punctuator punct.CloseParen) (n + 2) ∷ []; whole = refl; first = record { token = x_token (n + 1); has = refl; whole = refl }; second = record { token = sign (Punctuator punct.CloseParen) (n + 2); has = refl; whole = refl } };
}

-- `__transaction_atomic (x)`, of tokens one byte long: the keyword's span stands beside the whole's
pub one_transaction : expr (InTransaction Atomic (byte 0) (Variable (x_name 2)) (record { start = 0; «end» = 4 })) (sign (Keyword key.Atomic) 0 ∷ sign (Punctuator punct.OpenParen) 1 ∷ x_token 2 ∷ sign (Punctuator punct.CloseParen) 3 ∷ [])
one_transaction = (
  refl,
  record {
    front = sign (Keyword key.Atomic) 0 ∷ [];
    back = _;
    whole = refl;
    first = record { token = sign (Keyword key.Atomic) 0; has = refl; whole = refl };
    second = parens 1;
  },
)

-- `[[outer]]`
abbrev outer_token : ℕ → Tok
outer_token n = record { terminal = name (codes "outer"); span = byte n }

outer_spelled : (n : ℕ) → outer_phrase (sign (Punctuator punct.OpenBracket) n ∷ sign (Punctuator punct.OpenBracket) (n + 1) ∷ outer_token (n + 2) ∷ sign (Punctuator punct.CloseBracket) (n + 3) ∷ sign (Punctuator punct.CloseBracket) (n + 4) ∷ [])
outer_spelled n = inl (record {
  front = sign (Punctuator punct.OpenBracket) n ∷ [];
  back = _;
  whole = refl;
  first = record { token = sign (Punctuator punct.OpenBracket) n; has = refl; whole = refl };
  second = record {
    front = sign (Punctuator punct.OpenBracket) (n + 1) ∷ [];
    back = _;
    whole = refl;
    first = record { token = sign (Punctuator punct.OpenBracket) (n + 1); has = refl; whole = refl };
    second = record {
      front = outer_token (n + 2) ∷ [];
      back = _;
      whole = refl;
      first = record { token = outer_token (n + 2); has = refl; whole = refl };
      second = record {
        front = sign (Punctuator punct.CloseBracket) (n + 3) ∷ [];
        back = _;
        whole = refl;
        first = record { token = sign (Punctuator punct.CloseBracket) (n + 3); has = refl; whole = refl };
        second = record { token = sign (Punctuator punct.CloseBracket) (n + 4); has = refl; whole = refl };
      };
    };
  };
})

-- `__transaction_cancel [[outer]];`, of tokens one byte long
pub one_outer_cancel : stmt (CancelOuter (byte 0)) (sign (Keyword key.Cancel) 0 ∷ sign (Punctuator punct.OpenBracket) 1 ∷ sign (Punctuator punct.OpenBracket) 2 ∷ outer_token 3 ∷ sign (Punctuator punct.CloseBracket) 4 ∷ sign (Punctuator punct.CloseBracket) 5 ∷ sign (Punctuator punct.Semicolon) 6 ∷ [])
one_outer_cancel = record {
  front = sign (Keyword key.Cancel) 0 ∷ [];
  back = _;
  whole = refl;
  first = record { token = sign (Keyword key.Cancel) 0; has = refl; whole = refl };
  second = record {
    front = sign (Punctuator punct.OpenBracket) 1 ∷ sign (Punctuator punct.OpenBracket) 2 ∷ outer_token 3 ∷ sign (Punctuator punct.CloseBracket) 4 ∷ sign (Punctuator punct.CloseBracket) 5 ∷ [];
    back = sign (Punctuator punct.Semicolon) 6 ∷ [];
    whole = refl;
    first = outer_spelled 1;
    second = record { token = sign (Punctuator punct.Semicolon) 6; has = refl; whole = refl };
  };
}

-- an `else` behind two `if`s belongs to the second
pub nearest_if : (c d : Expr) (a b : Stmt) (ts : List Tok) → stmt (IfElse c (If d a) b) ts → ⊥
nearest_if c d a b ts l = let h = l.0 in cc

-- `if (x) if (x) ; else ;`
pub inner_else : stmt (If (Variable (x_name 2)) (IfElse (Variable (x_name 6)) Empty Empty)) (sign (Keyword key.If) 0 ∷ sign (Punctuator punct.OpenParen) 1 ∷ x_token 2 ∷ sign (Punctuator punct.CloseParen) 3 ∷ sign (Keyword key.If) 4 ∷ sign (Punctuator punct.OpenParen) 5 ∷ x_token 6 ∷ sign (Punctuator punct.CloseParen) 7 ∷ sign (Punctuator punct.Semicolon) 8 ∷ sign (Keyword key.Else) 9 ∷ sign (Punctuator punct.Semicolon) 10 ∷ [])
inner_else = record {
  front = sign (Keyword key.If) 0 ∷ [];
  back = _;
  whole = refl;
  first = record { token = sign (Keyword key.If) 0; has = refl; whole = refl };
  second = record {
    front = sign (Punctuator punct.OpenParen) 1 ∷ x_token 2 ∷ sign (Punctuator punct.CloseParen) 3 ∷ [];
    back = _;
    whole = refl;
    first = parens 1;
    second = (
      refl,
      record {
        front = sign (Keyword key.If) 4 ∷ [];
        back = _;
        whole = refl;
        first = record { token = sign (Keyword key.If) 4; has = refl; whole = refl };
        second = record {
          front = sign (Punctuator punct.OpenParen) 5 ∷ x_token 6 ∷ sign (Punctuator punct.CloseParen) 7 ∷ [];
          back = _;
          whole = refl;
          first = parens 5;
          second = record {
            front = sign (Punctuator punct.Semicolon) 8 ∷ [];
            back = sign (Keyword key.Else) 9 ∷ sign (Punctuator punct.Semicolon) 10 ∷ [];
            whole = refl;
            first = record { token = sign (Punctuator punct.Semicolon) 8; has = refl; whole = refl };
            second = record { front = sign (Keyword key.Else) 9 ∷ []; back = sign (Punctuator punct.Semicolon) 10 ∷ []; whole = refl; first = record { token = sign (Keyword key.Else) 9; has = refl; whole = refl }; second = record { token = sign (Punctuator punct.Semicolon) 10; has = refl; whole = refl } };
          };
        };
      },
    );
  };
}
