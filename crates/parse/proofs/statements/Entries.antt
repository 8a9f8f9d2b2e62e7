-- What stands in a block is read exactly where a statement is.
use Rattle.std.proofs.Common.{◌≡◌, ℕ, suc, ◌≤◌, true, false, List, [], ◌∷◌, ◌++◌, None, refl, ap, arith, ◌⊎◌, inl, inr}
use Rattle.lex.specs.declared.token.Fixed.TheVariants.{Keyword, Punctuator}
use Rattle.lex.specs.declared.token.Keyword.TheVariants as key
use Rattle.lex.specs.declared.token.Punctuator.TheVariants as punct
use Rattle.lex.specs.Tokens.{Tok}
use Rattle.syntax.specs.Tree as Tree
use Rattle.syntax.specs.Tree.{Stmt, Stmts, Empty, Declare, Do, Block, Print, If, IfElse, While, DoWhile, For, Break, Continue, Return, Transaction, Cancel, CancelOuter}
use Rattle.syntax.specs.Depth.{declaration_depth, stmt_depth, block_depth}
use Rattle.syntax.specs.Views.{stmts_from}
use Rattle.syntax.specs.Phrases.{Phrase, Seq, Is, Begins, Many}
use Rattle.syntax.specs.Grammar.{declaration, stmt, stmts, block}
use Rattle.parse.specs.inner.Reading.{Parser, head, is_next, map_parser}
use Rattle.parse.specs.inner.Expressions.{starts_type}
use Rattle.parse.specs.inner.Statements.{declaration_at, entry, block_items}
use Rattle.parse.proofs.combinators.Exact.{Exact, Always, Comes, relabel, value_of, Nonempty}
use Rattle.parse.proofs.combinators.Many.{ManyFit, many_exact}
use Rattle.parse.proofs.combinators.Parts.{seq_map, head_begins, tail_begins, behind_exact, before_exact}
use Rattle.parse.proofs.combinators.Choices.{either_exact}
use Rattle.parse.proofs.expressions.Scalars.{type_not_fixed}
use Rattle.parse.proofs.statements.Leads.{OpenS, not_type, stmt_not_fixed, stmt_starts, stmt_solid, closing_no_else}
use Rattle.parse.proofs.statements.Declarations.{declaration_first, declaration_exact}

-- within this depth
abbrev pub Within : ℕ → Stmt → Type 0
Within d s = stmt_depth s ≤ d

-- within one more
abbrev pub Below : ℕ → Stmt → Type 0
Below d = Within (suc d)

-- ---- declarations and statements

-- a declaration, as it stands in a block
abbrev pub DeclareL : Stmt → Phrase
DeclareL (Declare x) p = declaration x p
DeclareL _ p = ⊥

-- a declaration or a statement
abbrev pub EntryL : Stmt → Phrase
EntryL s p = DeclareL s p ⊎ stmt s p

declared_type : (s : Stmt) (p q : List Tok) → DeclareL s p → starts_type (head (p ++ q)) ≡ true
declared_type (Declare x) p q l = declaration_first x p q l
declared_type _ p q l = absurd l

declare_exact : (d : ℕ) → Exact (λ D. map_parser Declare (declaration_at D)) DeclareL Within OpenS OpenS d
declare_exact d = value_of Declare DeclareL Within OpenS OpenS (declaration_exact d) comes (λ x p l. l) (λ x w. w) (λ x h c e. absurd cc)
  where
    comes : (s : Stmt) (p : List Tok) → DeclareL s p → Comes Declare declaration (λ x. declaration_depth x ≤ d) (Within d) Always OpenS s p
    comes (Declare x) p l = record { value = x; same = refl; spelled = l; within = λ w. w; stops = λ h s. tt }
    comes _ p l = absurd l

-- what stands in a block, by its first token
pub entry_exact : (P : ℕ → Parser Stmt) (d : ℕ) → Exact P stmt Within OpenS OpenS d → Exact (λ D. entry D (P D)) EntryL Within OpenS OpenS d
entry_exact P d E =
    either_exact starts_type OpenS (declare_exact d) E
    (λ s p q l h. declared_type s p q l) (λ s p q l h. not_type (head (p ++ q)) (stmt_starts s p q l))
    (λ s p r l e c. c) (λ s p r l e c. c)

entry_not_closing : (s : Stmt) (p q : List Tok) → EntryL s p → is_next (Punctuator punct.CloseBrace) (head (p ++ q)) ≡ false
entry_not_closing s p q (inl l) = type_not_fixed (Punctuator punct.CloseBrace) (head (p ++ q)) refl (declared_type s p q l)
entry_not_closing s p q (inr l) = stmt_not_fixed (Punctuator punct.CloseBrace) (head (p ++ q)) refl (stmt_starts s p q l)

entry_not_else : (s : Stmt) (p q : List Tok) → EntryL s p → is_next (Keyword key.Else) (head (p ++ q)) ≡ false
entry_not_else s p q (inl l) = type_not_fixed (Keyword key.Else) (head (p ++ q)) refl (declared_type s p q l)
entry_not_else s p q (inr l) = stmt_not_fixed (Keyword key.Else) (head (p ++ q)) refl (stmt_starts s p q l)

entry_solid : (s : Stmt) (p : List Tok) → EntryL s p → Nonempty p
entry_solid s [] (inl l) = absurd (let h : starts_type None ≡ true = declared_type s [] [] l in cc)
entry_solid s (t ∷ p) (inl l) = tt
entry_solid s p (inr l) = stmt_solid s p l

-- ---- blocks

-- the statements of a block, one by one
abbrev pub statements : Stmts → List Stmt
statements Tree.[] = []
statements (Tree.◌∷◌ s ss) = s ∷ statements ss

-- and together again
pub from_statements : (ss : Stmts) → stmts_from (statements ss) ≡ ss
from_statements Tree.[] = refl
from_statements (Tree.◌∷◌ s ss) = ap (Tree.◌∷◌ s) (from_statements ss)

-- statements in braces
abbrev pub BlockL : List Stmt → Phrase
BlockL ss = block (stmts_from ss)

-- a block within this depth
abbrev pub BlockW : ℕ → List Stmt → Type 0
BlockW d ss = block_depth (stmts_from ss) ≤ d

put_in : (s : Stmt) (ss : Stmts) (p : List Tok) → Seq (EntryL s) (stmts ss) p → stmts (Tree.◌∷◌ s ss) p
put_in s ss p l = go s l.front l.first (λ q e. record { front = l.front; back = l.back; first = e; second = l.second; whole = l.whole })
  where
    go : (s : Stmt) (q : List Tok) → EntryL s q → ((L : Phrase) → L q → Seq L (stmts ss) p) → stmts (Tree.◌∷◌ s ss) p
    go (Declare x) q (inl l) f = f (declaration x) l
    go (Declare x) q (inr l) f = absurd l
    go Empty q (inr l) f = f (stmt Empty) l
    go (Do x) q (inr l) f = f (stmt (Do x)) l
    go (Block x) q (inr l) f = f (stmt (Block x)) l
    go (Print at t t_at es) q (inr l) f = f (stmt (Print at t t_at es)) l
    go (If c a) q (inr l) f = f (stmt (If c a)) l
    go (IfElse c a b) q (inr l) f = f (stmt (IfElse c a b)) l
    go (While c a) q (inr l) f = f (stmt (While c a)) l
    go (DoWhile a c) q (inr l) f = f (stmt (DoWhile a c)) l
    go (For first c step a) q (inr l) f = f (stmt (For first c step a)) l
    go (Break at) q (inr l) f = f (stmt (Break at)) l
    go (Continue at) q (inr l) f = f (stmt (Continue at)) l
    go (Return e at) q (inr l) f = f (stmt (Return e at)) l
    go (Transaction k x at) q (inr l) f = f (stmt (Transaction k x at)) l
    go (Cancel at) q (inr l) f = f (stmt (Cancel at)) l
    go (CancelOuter at) q (inr l) f = f (stmt (CancelOuter at)) l
    go _ q (inl l) f = absurd l

take_out : (s : Stmt) (ss : Stmts) (p : List Tok) → stmts (Tree.◌∷◌ s ss) p → Seq (EntryL s) (stmts ss) p
take_out (Declare x) ss p l = seq_map l (λ q e. inl e) (λ q e. e)
take_out _ ss p l = seq_map l (λ q e. inr e) (λ q e. e)

block_goes : (xs : List Stmt) (p : List Tok) → Many EntryL xs p → stmts (stmts_from xs) p
block_goes [] p l = l
block_goes (x ∷ xs) p l = put_in x (stmts_from xs) p (seq_map l (λ q e. e) (block_goes xs))

block_comes : (xs : List Stmt) (p : List Tok) → stmts (stmts_from xs) p → Many EntryL xs p
block_comes [] p l = l
block_comes (x ∷ xs) p l = seq_map (take_out x (stmts_from xs) p l) (λ q e. e) (block_comes xs)

-- one deeper than the deepest statement, and 1 at least
block_fits : (d : ℕ) (xs : List Stmt) → ManyFit Within d xs → block_depth (stmts_from xs) ≤ suc d
block_fits d [] w = omega arith
block_fits d (x ∷ xs) w = let f : stmt_depth x ≤ d = w.0 in let g = block_fits d xs w.1 in omega arith

fits_block : (d : ℕ) (xs : List Stmt) → block_depth (stmts_from xs) ≤ suc d → ManyFit Within d xs
fits_block d [] w = tt
fits_block d (x ∷ xs) w = (omega arith, fits_block d xs (omega arith))

no_statements : Begins (Many EntryL) []
no_statements = record { value = []; more = []; spelled = refl }

-- behind the opening brace
abbrev pub InnerL : List Stmt → Phrase
InnerL xs = Seq (stmts (stmts_from xs)) (Is (Punctuator punct.CloseBrace))

-- an empty one
pub inner_begins : Begins InnerL []
inner_begins = tail_begins (Punctuator punct.CloseBrace) (λ xs. stmts (stmts_from xs)) (record { value = []; more = []; spelled = refl })

-- the empty block
pub block_begins : Begins BlockL []
block_begins = head_begins (Punctuator punct.OpenBrace) InnerL inner_begins

-- statements in braces, where what stands in them is read exactly
pub braced_exact : (P : ℕ → Parser Stmt) (d : ℕ) → Exact P EntryL Within OpenS OpenS d → Exact (λ D. block_items (P D)) BlockL (λ D. BlockW (suc D)) Always Always d
braced_exact P d E =
    relabel (λ D. block_items (P D)) (λ xs. Seq (Is (Punctuator punct.OpenBrace)) (Seq (Many EntryL xs) (Is (Punctuator punct.CloseBrace)))) BlockL (ManyFit Within) (λ D. BlockW (suc D)) Always Always Always Always d
    (behind_exact (Punctuator punct.OpenBrace)
    (before_exact (Punctuator punct.CloseBrace)
    (many_exact P EntryL Within OpenS OpenS d E (is_next (Punctuator punct.CloseBrace)) (λ h. Unit {0}) entry_solid entry_not_closing (λ s h e t o. closing_no_else h e) (λ x y p q l o. entry_not_else y p q l))
    (λ a t is. (rw is refl, tt)))
    (tail_begins (Punctuator punct.CloseBrace) (Many EntryL) no_statements))
    (λ xs p l. seq_map l (λ q o. o) (λ q e. seq_map e (block_goes xs) (λ r o. o)))
    (λ xs p l. seq_map l (λ q o. o) (λ q e. seq_map e (block_comes xs) (λ r o. o)))
    (λ xs p l w. block_fits d xs w) (fits_block d) (λ x h s. s) (λ x h c. c)
