-- What statements begin with.
use Rattle.std.proofs.Common.{◌≡◌, Bool, true, false, List, [], ◌∷◌, ◌++◌, Option, Some, None, refl, ap, ◌∙◌, ◌⊎◌, inl, inr}
use Rattle.lex.specs.declared.token.Fixed.{Fixed}
use Rattle.lex.specs.declared.token.Fixed.TheVariants.{Keyword, Punctuator}
use Rattle.lex.specs.declared.token.Keyword.TheVariants as key
use Rattle.lex.specs.declared.token.Punctuator.TheVariants as punct
use Rattle.lex.specs.declared.token.Span.{Span}
use Rattle.lex.specs.Tokens.{Terminal, name, constant, string_literal, fixed, reserved, Tok}
use Rattle.syntax.specs.declared.tree.TransactionKind.TheVariants.{Plain, Outer}
use Rattle.syntax.specs.declared.tree.Mode.{Mode}
use Rattle.syntax.specs.declared.tree.Mode.TheVariants.{Atomic, Relaxed}
use Rattle.syntax.specs.Tree.{Stmt, Empty, Declare, Do, Block, Print, If, IfElse, While, DoWhile, For, Break, Continue, Return, Transaction, Cancel, CancelOuter}
use Rattle.syntax.specs.Phrases.{Phrase, Seq, Is, IsAt, is_fixed}
use Rattle.syntax.specs.Grammar.{stmt, ends_open, mode_keyword}
use Rattle.syntax.specs.Meaning.{mode_of}
use Rattle.parse.specs.declared.lead.Lead.{Lead}
use Rattle.parse.specs.declared.lead.Lead.TheVariants as lead
use Rattle.parse.specs.inner.Reading.{head, is_next}
use Rattle.parse.specs.inner.Expressions.{starts_type}
use Rattle.parse.specs.inner.Statements.{starts_simple, lead_fixed, lead_terminal, lead_at, is_lead, starts_stmt}
use Rattle.parse.proofs.combinators.Exact.{Nonempty}
use Rattle.parse.proofs.combinators.FixedTokens.{fixed_is, that_fixed, a_fixed, seq_head, one_head}
use Rattle.parse.proofs.combinators.Parts.{seq_right, span_is_fixed}
use Rattle.parse.proofs.combinators.Starts.{true_not_false}
use Rattle.parse.proofs.expressions.Wholes.{seq_heads}
use Rattle.parse.proofs.statements.Simples.{simple_first}

-- What may follow a statement, and what does follow one that was read: no else that would belong to it.
abbrev pub OpenS : Stmt → Option Tok → Type 0
OpenS s h = ends_open s ≡ true → is_next (Keyword key.Else) h ≡ false

-- ---- what tokens begin

-- a token by what it says
abbrev pub made : Terminal → Span → Tok
made k at = record { terminal = k; span = at }

-- what begins an expression or an assignment leads to that, or is the keyword of a transaction
abbrev pub LeadsTo : Option Tok → Lead → Type 0
LeadsTo h k = (k ≡ lead.Simple) ⊎ ((mode : Mode) × (k ≡ lead.Transaction mode) × (is_next (mode_keyword mode) h ≡ true))

pub simple_lead : (h : Option Tok) → starts_simple h ≡ true → LeadsTo h (lead_at h)
simple_lead None e = inl refl
simple_lead (Some t) e = go t.terminal t.span e
  where
    go : (k : Terminal) (at : Span) → starts_simple (Some (made k at)) ≡ true → LeadsTo (Some (made k at)) (lead_terminal k)
    go (name s) at e = inl refl
    go (constant n ty) at e = inl refl
    go (string_literal s) at e = inl refl
    go (fixed (Punctuator punct.Semicolon)) at e = absurd cc
    go (fixed (Punctuator punct.OpenBrace)) at e = absurd cc
    go (fixed (Keyword key.Printf)) at e = absurd cc
    go (fixed (Keyword key.If)) at e = absurd cc
    go (fixed (Keyword key.While)) at e = absurd cc
    go (fixed (Keyword key.Do)) at e = absurd cc
    go (fixed (Keyword key.For)) at e = absurd cc
    go (fixed (Keyword key.Break)) at e = absurd cc
    go (fixed (Keyword key.Continue)) at e = absurd cc
    go (fixed (Keyword key.Return)) at e = absurd cc
    go (fixed (Keyword key.Atomic)) at e = inr (Atomic, refl, refl)
    go (fixed (Keyword key.Relaxed)) at e = inr (Relaxed, refl, refl)
    go (fixed (Keyword key.Cancel)) at e = absurd cc
    go (fixed _) at e = inl refl
    go reserved at e = inl refl

-- a statement begins with no type
pub not_type : (h : Option Tok) → starts_stmt h ≡ true → starts_type h ≡ false
not_type None e = refl
not_type (Some t) e = go t.terminal t.span e
  where
    go : (k : Terminal) (at : Span) → starts_stmt (Some (made k at)) ≡ true → starts_type (Some (made k at)) ≡ false
    go (name s) at e = refl
    go (constant n ty) at e = refl
    go (string_literal s) at e = refl
    go (fixed (Keyword key.Int)) at e = absurd cc
    go (fixed (Keyword key.Signed)) at e = absurd cc
    go (fixed (Keyword key.Unsigned)) at e = absurd cc
    go (fixed (Keyword key.Long)) at e = absurd cc
    go (fixed _) at e = refl
    go reserved at e = refl

-- where a token stands is nothing to that
anywhere : (l : Lead) (k : Terminal) (a b : Span) → is_lead l (Some (made k a)) ≡ is_lead l (Some (made k b))
anywhere lead.Simple k a b = refl
anywhere _ k a b = refl

-- nor with a fixed token that begins none
pub stmt_not_fixed : (k : Fixed) (h : Option Tok) → starts_stmt (Some (a_fixed k)) ≡ false → starts_stmt h ≡ true → is_next k h ≡ false
stmt_not_fixed k None apart e = refl
stmt_not_fixed k (Some t) apart e = go (is_fixed k t.terminal) refl
  where
    go : (b : Bool) → is_fixed k t.terminal ≡ b → is_fixed k t.terminal ≡ false
    go false is = is
    go true is = absurd (true_not_false e (ap (λ (z : Terminal). starts_stmt (Some (made z t.span))) (that_fixed k t is) ∙ anywhere (lead_fixed k) (fixed k) t.span (a_fixed k).span ∙ apart))

-- a closing brace is no else
pub closing_no_else : (h : Option Tok) → is_next (Punctuator punct.CloseBrace) h ≡ true → is_next (Keyword key.Else) h ≡ false
closing_no_else None e = refl
closing_no_else (Some t) e = rw (that_fixed (Punctuator punct.CloseBrace) t e) refl

-- ---- what statements begin with

-- the kind of a statement that begins with this token
abbrev pub lead_of : Stmt → Option Tok → Lead
lead_of Empty h = lead.Empty
lead_of (Declare d) h = lead.Simple
lead_of (Do s) h = lead_at h
lead_of (Block ss) h = lead.Block
lead_of (Print at format format_at es) h = lead.Print
lead_of (If c a) h = lead.If
lead_of (IfElse c a b) h = lead.If
lead_of (While c a) h = lead.While
lead_of (DoWhile a c) h = lead.Do
lead_of (For first c step a) h = lead.For
lead_of (Break at) h = lead.Break
lead_of (Continue at) h = lead.Continue
lead_of (Return e at) h = lead.Return
lead_of (Transaction k ss at) h = lead.Transaction (mode_of k)
lead_of (Cancel at) h = lead.Cancel
lead_of (CancelOuter at) h = lead.Cancel

seq_lead : (k : Fixed) {M : Phrase} {p : List Tok} (q : List Tok) → Seq (Is k) M p → lead_at (head (p ++ q)) ≡ lead_fixed k
seq_lead k q s = ap lead_at (seq_head s q) ∙ ap lead_terminal (fixed_is k s.first.token tt s.first.has)

span_lead : (k : Fixed) {at : Span} {M : Phrase} {p : List Tok} (q : List Tok) → Seq (IsAt k at) M p → lead_at (head (p ++ q)) ≡ lead_fixed k
span_lead k {at = at} q s = ap lead_at (seq_head s q) ∙ ap lead_terminal (fixed_is k s.first.token tt (span_is_fixed k s.first.token at s.first.has).0)

mode_lead : (mode : Mode) → lead_fixed (mode_keyword mode) ≡ lead.Transaction mode
mode_lead Atomic = refl
mode_lead Relaxed = refl

pub simple_stmt_starts : (s : _) (p q : List Tok) → stmt (Do s) p → starts_simple (head (p ++ q)) ≡ true
simple_stmt_starts s p q l = ap starts_simple (seq_heads l q) ∙ simple_first s l.front (l.back ++ q) l.first

-- a statement begins with a token of its kind
pub stmt_lead : (s : Stmt) (p q : List Tok) → stmt s p → lead_at (head (p ++ q)) ≡ lead_of s (head (p ++ q))
stmt_lead Empty p q l = ap lead_at (one_head l q) ∙ ap lead_terminal (fixed_is (Punctuator punct.Semicolon) l.token tt l.has)
stmt_lead (Declare d) p q l = absurd l
stmt_lead (Do s) p q l = refl
stmt_lead (Block ss) p q l = seq_lead (Punctuator punct.OpenBrace) q l
stmt_lead (Print at format format_at es) p q l = span_lead (Keyword key.Printf) q l
stmt_lead (If c a) p q l = seq_lead (Keyword key.If) q l
stmt_lead (IfElse c a b) p q l = seq_lead (Keyword key.If) q l.1
stmt_lead (While c a) p q l = seq_lead (Keyword key.While) q l
stmt_lead (DoWhile a c) p q l = seq_lead (Keyword key.Do) q l
stmt_lead (For first c step a) p q l = seq_lead (Keyword key.For) q l
stmt_lead (Break at) p q l = span_lead (Keyword key.Break) q l
stmt_lead (Continue at) p q l = span_lead (Keyword key.Continue) q l
stmt_lead (Return e at) p q l = span_lead (Keyword key.Return) q l
stmt_lead (Transaction (Plain mode) ss at) p q l = span_lead (mode_keyword mode) q l ∙ mode_lead mode
stmt_lead (Transaction Outer ss at) p q l = span_lead (mode_keyword Atomic) q (seq_right l)
stmt_lead (Cancel at) p q l = span_lead (Keyword key.Cancel) q l
stmt_lead (CancelOuter at) p q l = span_lead (Keyword key.Cancel) q l

-- and with one that may begin a statement
pub stmt_starts : (s : Stmt) (p q : List Tok) → stmt s p → starts_stmt (head (p ++ q)) ≡ true
stmt_starts s p q l = ap (λ (k : Lead). is_lead k (head (p ++ q))) (stmt_lead s p q l) ∙ is_led s p q l
  where
    simple_led : (h : Option Tok) → starts_simple h ≡ true → is_lead (lead_at h) h ≡ true
    simple_led h e = elim (simple_lead h e) [ inl is ↦ rw is e | inr x ↦ rw x.1 refl ]

    is_led : (s : Stmt) (p q : List Tok) → stmt s p → is_lead (lead_of s (head (p ++ q))) (head (p ++ q)) ≡ true
    is_led (Declare d) p q l = absurd l
    is_led (Do s) p q l = simple_led (head (p ++ q)) (simple_stmt_starts s p q l)
    is_led _ p q l = refl

-- a statement is not empty
pub stmt_solid : (s : Stmt) (p : List Tok) → stmt s p → Nonempty p
stmt_solid s [] l = absurd (let h : starts_stmt None ≡ true = stmt_starts s [] [] l in cc)
stmt_solid s (t ∷ p) l = tt
