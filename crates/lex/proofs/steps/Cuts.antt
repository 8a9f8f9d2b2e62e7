-- One turn of the lexer's loop.
use Rattle.std.proofs.Common.{◌≡◌, ℕ, ◌+◌, ◌≤◌, List, [], ◌∷◌, ◌++◌, length, Option, Some, None, sym, arith, subst, length-drop}
use Rattle.std.proofs.lemmas.List.{map-append}
use Rattle.lex.specs.declared.token.Kind.{Kind}
use Rattle.lex.specs.declared.token.Token.{Token}
use Rattle.lex.specs.Tokens.{toks, terminal}
use Rattle.lex.specs.Pieces.{Cut, gap, token, IsGap, IsToken}
use Rattle.lex.specs.inner.Answers.{IsPieceAt}

within_gap : (text : List ℕ) (at len : ℕ) → at ≤ length text → IsGap text at len → at + len ≤ length text
within_gap text at len le g = let h = g.front.within in let size = length-drop at text in omega arith

pub gap_cut : (text : List ℕ) (at len : ℕ) (items : List Token) (kind : Option Kind) → at ≤ length text → Cut text at (toks items) → kind ≡ None → IsPieceAt text at kind len → record { within : at + len ≤ length text; cut : Cut text (at + len) (toks items) }
gap_cut text at len items kind le cut e s =
    let g : IsGap text at len = subst (λ (k : Option Kind). IsPieceAt text at k len) e s in
    record { within = within_gap text at len le g; cut = gap len cut g }

pub token_cut : (text : List ℕ) (at len : ℕ) (items more : List Token) (kind : Option Kind) (k : Kind) → at ≤ length text → Cut text at (toks items) → kind ≡ Some k → IsPieceAt text at kind len → more ≡ items ++ record { kind = k; span = record { start = at; «end» = at + len } } ∷ [] → record { within : at + len ≤ length text; cut : Cut text (at + len) (toks more) }
token_cut text at len items more kind k le cut e s i =
    let t : IsToken text at len (terminal k) = subst (λ (o : Option Kind). IsPieceAt text at o len) e s in
    let h = t.front.within in
    let size = length-drop at text in
    record {
      within = omega arith;
      cut = subst (λ (z : List Token). Cut text (at + len) (toks z)) (sym i) (rw map-append (token len (terminal k) cut t));
    }
