-- Where the last token ends.
use Rattle.std.proofs.Common.{◌≡◌, ℕ, ◌-◌, ◌≤◌, List, [], ◌∷◌, ◌++◌, length, refl, sym, ap, ◌∙◌, append_assoc, arith, slice_index_or}
use Rattle.lex.specs.declared.token.Token.{Token}
use Rattle.lex.specs.declared.token.Span.{Span}
use Rattle.lex.specs.Tokens.{Tok, toks}
use Rattle.syntax.specs.Phrases.{end_from, end_of, Covers}
use Rattle.parse.specs.inner.Reading.{across}

last_end : (ts : List Token) (t other : Token) (e : ℕ) → (slice_index_or (t ∷ ts) (length ts) other).span.«end» ≡ end_from e (toks (t ∷ ts))
last_end [] t other e = refl
last_end (u ∷ ts) t other e = last_end ts u other t.span.«end»

pub end_is : (ts : List Token) (other : Token) → 1 ≤ length ts → (slice_index_or ts (length ts - 1) other).span.«end» ≡ end_of (toks ts)
end_is [] other le = absurd (omega arith)
end_is (t ∷ ts) other le =
    let n : length (t ∷ ts) - 1 ≡ length ts = omega arith in
    rw n (last_end ts t other 0)

-- ---- what phrases cover

last_of : (e : ℕ) (p : List Tok) (u : Tok) (q : List Tok) → end_from e (p ++ u ∷ q) ≡ end_from u.span.«end» q
last_of e [] u q = refl
last_of e (v ∷ p) u q = last_of v.span.«end» p u q

-- two phrases, whatever stands between them
pub covers_across : (a b : Span) (p mid q : List Tok) → Covers a p → Covers b q → Covers (across a b) (p ++ (mid ++ q))
covers_across a b [] mid q ca cb = absurd ca
covers_across a b (v ∷ p) mid [] ca cb = absurd cb
covers_across a b (v ∷ p) mid (u ∷ q) ca cb =
    let s : a.start ≡ v.span.start = ap (λ (x : Span). x.start) ca in
    let parts = ap (end_from v.span.«end») (append_assoc p mid (u ∷ q)) in
    let e : b.«end» ≡ end_from v.span.«end» (p ++ (mid ++ u ∷ q)) = ap (λ (x : Span). x.«end») cb ∙ sym (last_of v.span.«end» (p ++ mid) u q) ∙ parts in
    rw (s, e) refl

-- two phrases with a token between
pub covers_both : (a b : Span) (p : List Tok) (t : Tok) (q : List Tok) → Covers a p → Covers b q → Covers (across a b) (p ++ t ∷ q)
covers_both a b p t q ca cb = covers_across a b p (t ∷ []) q ca cb

pub covers_one : (a b : Span) (p : List Tok) → Covers a p → Covers b p → a ≡ b
covers_one a b [] ca cb = absurd ca
covers_one a b (t ∷ p) ca cb = ca ∙ sym cb
