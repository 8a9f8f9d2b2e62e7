-- The tokens of a text lie in it in their order.
use Rattle.std.proofs.Common.{◌≡◌, ℕ, zero, suc, ◌+◌, ◌-◌, ◌<◌, ◌≤◌, List, [], ◌∷◌, ◌++◌, length, take, drop, arith, subst}
use Rattle.lex.specs.Tokens.{Tok, Terminal}
use Rattle.lex.specs.Pieces.{Cut, Says, Longest, IsLexed}
use Rattle.lex.specs.Pieces as s
use Rattle.lex.specs.Laws.{Lie}
use Rattle.lex.proofs.pieces.Punctuators.{empty_shape}

-- a piece is not empty
pub some_len : (rest : List ℕ) (len : ℕ) → Longest rest len → 0 < len
some_len rest zero l = absurd (empty_shape l.shaped)
some_len rest (suc n) l = omega arith

lie_on : (text : List ℕ) (from to more : ℕ) (ts : List Tok) → to ≤ more → Lie text from to ts → Lie text from more ts
lie_on text from to more [] le h = omega arith
lie_on text from to more (t ∷ ts) le h = (h.0, h.1, h.2, lie_on text t.span.«end» to more ts le h.3)

lie_last : (text : List ℕ) (from at len : ℕ) (ts : List Tok) (says : Terminal) → Lie text from at ts → 0 < len → Says (take len (drop at text)) says → Lie text from (at + len) (ts ++ record { terminal = says; span = record { start = at; «end» = at + len } } ∷ [])
lie_last text from at len [] says h lt m =
    let sum : len ≡ at + len - at = omega arith in
    (h, omega arith, subst (λ (n : ℕ). Says (take n (drop at text)) says) sum m, omega arith)
lie_last text from at len (t ∷ ts) says h lt m = (h.0, h.1, h.2, lie_last text t.span.«end» at len ts says h.3 lt m)

lie_cut : (text : List ℕ) (at : ℕ) (ts : List Tok) → Cut text at ts → Lie text 0 at ts
lie_cut text at ts s.start = omega arith
lie_cut text at ts (s.gap {at = from} len c g) = lie_on text 0 from (from + len) ts (omega arith) (lie_cut text from ts c)
lie_cut text at ts (s.token {at = from} {ts = us} len says c t) = lie_last text 0 from len us says (lie_cut text from us c) (some_len (drop from text) len t.front) t.means

pub lie_law : (text : List ℕ) (ts : List Tok) → IsLexed text ts → Lie text 0 (length text) ts
lie_law text ts l = lie_cut text (length text) ts l.cut
