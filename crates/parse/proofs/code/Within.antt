-- What is read within no depth, and within one more than the parts have.
use Rattle.std.proofs.Common.{◌≡◌, ℕ, zero, suc, ◌+◌, Bool, true, false, cond, List, [], ◌∷◌, Some, None, Ok, Err, refl, sym, ap, ◌∙◌, arith}
use Rattle.lex.specs.declared.token.Fixed.{Fixed}
use Rattle.lex.specs.declared.token.Fixed.TheVariants.{Punctuator}
use Rattle.lex.specs.declared.token.Punctuator.TheVariants as punct
use Rattle.lex.specs.Tokens.{Tok}
use Rattle.syntax.specs.Tree.{Declaration, Stmt, Declare, Do, Block}
use Rattle.syntax.specs.Views.{stmts_from}
use Rattle.syntax.specs.Phrases.{is_fixed}
use Rattle.parse.specs.declared.lead.Lead.{Lead}
use Rattle.parse.specs.inner.Reading.{Fault, wrong, deep, head, take_value, expect, map_parser, before, is_next}
use Rattle.parse.specs.inner.Expressions.{starts_type, whole_at}
use Rattle.parse.specs.inner.Statements.{simple, simple_at, declaration, declaration_at, lead_at, starts_stmt, block_items, entry, simple_stmt, block_stmt, stmt_of, stmt_at, block_at}

pub simple_start : (d b : ℕ) (ts : List Tok) → b + 1 ≡ d → simple_at d ts ≡ simple (whole_at b) ts
simple_start d b ts e =
    let s : d ≡ suc b = omega arith in
    rw s refl

pub declaration_start : (d b : ℕ) (ts : List Tok) → b + 1 ≡ d → declaration_at d ts ≡ declaration (whole_at b) ts
declaration_start d b ts e =
    let s : d ≡ suc b = omega arith in
    rw s refl

-- ---- statements

pub stmt_none : (d : ℕ) (ts : List Tok) → d ≡ 0 → starts_stmt (head ts) ≡ false → stmt_at d ts ≡ Err (wrong ts)
unfolding stmt_at
stmt_none d ts z h = rw (z, h) refl

pub stmt_deep : (d : ℕ) (ts : List Tok) → d ≡ 0 → starts_stmt (head ts) ≡ true → stmt_at d ts ≡ Err (deep ts)
unfolding stmt_at
stmt_deep d ts z h = rw (z, h) refl

-- a statement by what its first token begins
pub stmt_start : (d b : ℕ) (ts : List Tok) (k : Lead) → b + 1 ≡ d → lead_at (head ts) ≡ k → stmt_at d ts ≡ stmt_of b (stmt_at b) (block_at b) k ts
unfolding stmt_at
stmt_start d b ts k e h =
    let s : d ≡ suc b = omega arith in
    rw (s, h) refl

-- a fixed token that was read was next
expected : (k : Fixed) (ts inner : List Tok) → expect k ts ≡ Ok (tt, inner) → is_next k (head ts) ≡ true
expected k [] inner e = absurd cc
expected k (t ∷ ts) inner e = go (is_fixed k t.terminal) e
  where
    go : (b : Bool) → take_value {A = Unit {0}} (cond b (Some tt) None) t ts ≡ Ok (tt, inner) → b ≡ true
    go true h = refl
    go false h = absurd cc

missing : (k : Fixed) (ts : List Tok) (f : Fault) → expect k ts ≡ Err f → (is_next k (head ts) ≡ false) × (wrong ts ≡ f)
missing k [] f e = (refl, cc)
missing k (t ∷ ts) f e = go (is_fixed k t.terminal) e
  where
    go : (b : Bool) → take_value {A = Unit {0}} (cond b (Some tt) None) t ts ≡ Err f → (b ≡ false) × (wrong (t ∷ ts) ≡ f)
    go true h = absurd cc
    go false h = (refl, cc)

pub block_none : (d : ℕ) (ts : List Tok) (f : Fault) → expect (Punctuator punct.OpenBrace) ts ≡ Err f → block_at d ts ≡ Err f
unfolding block_at
block_none zero ts f e = let x = missing (Punctuator punct.OpenBrace) ts f e in rw x.0 (ap Err x.1)
block_none (suc d) ts f e = rw e refl

pub block_deep : (d : ℕ) (ts inner : List Tok) → d ≡ 0 → expect (Punctuator punct.OpenBrace) ts ≡ Ok (tt, inner) → block_at d ts ≡ Err (deep ts)
unfolding block_at
block_deep d ts inner z e = rw (z, expected (Punctuator punct.OpenBrace) ts inner e) refl

pub block_start : (d b : ℕ) (ts : List Tok) → b + 1 ≡ d → block_at d ts ≡ block_items (entry b (stmt_at b)) ts
unfolding block_at
block_start d b ts e =
    let s : d ≡ suc b = omega arith in
    rw s refl

-- a block as a statement has the depth of the statement
pub block_stmt_is : (d b : ℕ) (ts r : List Tok) (ss : List Stmt) → b + 1 ≡ d → block_at d ts ≡ Ok (ss, r) → block_stmt b (stmt_at b) (block_at b) ts ≡ Ok (Block (stmts_from ss), r)
block_stmt_is d b ts r ss e h =
    let inner : block_items (entry b (stmt_at b)) ts ≡ Ok (ss, r) = sym (block_start d b ts e) ∙ h in
    rw inner refl

pub block_stmt_fails : (d b : ℕ) (ts : List Tok) (f : Fault) → b + 1 ≡ d → block_at d ts ≡ Err f → block_stmt b (stmt_at b) (block_at b) ts ≡ Err f
block_stmt_fails d b ts f e h =
    let inner : block_items (entry b (stmt_at b)) ts ≡ Err f = sym (block_start d b ts e) ∙ h in
    rw inner refl

-- and so have an assignment, a step or a value
pub simple_stmt_is : (d b : ℕ) (ts : List Tok) → b + 1 ≡ d → simple_stmt b ts ≡ map_parser Do (before (Punctuator punct.Semicolon) (simple_at d)) ts
simple_stmt_is d b ts e =
    let s : d ≡ suc b = omega arith in
    rw s refl

-- a declaration stands where a type begins
pub entry_is : (d : ℕ) (ts r : List Tok) (x : Declaration) → starts_type (head ts) ≡ true → declaration_at d ts ≡ Ok (x, r) → entry d (stmt_at d) ts ≡ Ok (Declare x, r)
entry_is d ts r x a b = rw (a, b) refl
