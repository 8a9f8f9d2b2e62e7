-- The depth of a list of expressions from an index on, and depths that are cut at the greatest number of a type.
use Rattle.std.proofs.Common.{◌≡◌, ℕ, ◌+◌, ◌<◌, ◌≤◌, min, max, List, length, drop, get_or, map, option_map, sym, ap, ◌∙◌, arith}
use Rattle.std.proofs.lemmas.Bool.Decides.{nat_tests}
use Rattle.std.proofs.lemmas.List.{at_drop_more, at_drop_all}
use Rattle.std.specs.Ordering.{ord_max, nat_cmp}
use Rattle.lex.specs.declared.token.Span.{Span}
use Rattle.syntax.specs.declared.tree.Name as N
use Rattle.syntax.specs.declared.tree.Expr as E
use Rattle.syntax.specs.Tree as Tree
use Rattle.syntax.specs.Tree.{Expr, Stmts}
use Rattle.syntax.specs.declared.tree.Declarator as R
use Rattle.syntax.specs.declared.tree.Stmt as S
use Rattle.syntax.specs.declared.tree.Item as T
use Rattle.syntax.specs.Views.{expr_of, exprs_of, declarator_of, stmt_of, stmts_of, item_of}
use Rattle.syntax.specs.Depth.{expr_depth, deepest, optional_depth, deepest_value, stmt_depth, block_depth, item_depth, program_depth}
use Rattle.syntax.proofs.trees.Seen.{expr_of_call}

pub ord_max_is : (a b : ℕ) → ord_max nat_cmp a b ≡ max a b
ord_max_is a b = grind (arith, nat_tests)

-- one part more of a greatest depth
pub cut_more : (top most new d here rest all : ℕ) → max most (min (max here rest) top) ≡ min all top → d ≡ min here top → new ≡ max most d → max new (min rest top) ≡ min all top
cut_more top most new d here rest all a b e = omega arith

pub cut_all : (top most rest all : ℕ) → max most (min rest top) ≡ min all top → rest ≡ 0 → most ≡ min all top
cut_all top most rest all a b = omega arith

-- a block without statements has depth 1
pub block_some : (ss : Stmts) → 1 ≤ block_depth ss
block_some Tree.[] = omega arith
block_some (Tree.◌∷◌ s ss) = let h = block_some ss in omega arith

-- the same where what is left, nothing, has depth 1
pub cut_all_one : (top most rest all : ℕ) → (max most (min rest top) ≡ min all top) × (1 ≤ most) → rest ≡ 1 → most ≡ min all top
cut_all_one top most rest all a b = omega arith

-- the first step, where nothing has been looked at
pub cut_none_one : (top all : ℕ) → 1 ≤ all → 1 ≤ top → max 1 (min all top) ≡ min all top
cut_none_one top all a b = omega arith

-- the greater of two depths
pub cut_max : (top a b x y m : ℕ) → x ≡ min a top → y ≡ min b top → m ≡ max x y → m ≡ min (max a b) top
cut_max top a b x y m c d e = omega arith

-- one more than a depth
pub cut_one_more : (top depth part cut result : ℕ) → depth ≡ part + 1 → cut ≡ min part top → result ≡ min (cut + 1) top → result ≡ min depth top
cut_one_more top depth part cut result a b e = omega arith

module _ {A : Type 0} where
  pub read_depth : (top : ℕ) (e f : E.Expr A) (n : ℕ) → n ≡ min (expr_depth (expr_of e)) top → e ≡ f → n ≡ min (expr_depth (expr_of f)) top
  read_depth top e f n a b = a ∙ ap (λ x. min (expr_depth (expr_of x)) top) b

  pub deepest_more : (es : List (E.Expr A)) (i : ℕ) (e : E.Expr A) → e ≡ get_or es i e → i < length es → deepest (exprs_of (drop i es)) ≡ max (expr_depth (expr_of e)) (deepest (exprs_of (drop (i + 1) es)))
  deepest_more es i e is h = at_drop_more (λ xs. deepest (exprs_of xs)) es i e h ∙ ap (λ x. max (expr_depth (expr_of x)) (deepest (exprs_of (drop (i + 1) es)))) (sym is)

  pub deepest_all : (es : List (E.Expr A)) (i : ℕ) → length es ≤ i → deepest (exprs_of (drop i es)) ≡ 0
  deepest_all es i h = at_drop_all (λ xs. deepest (exprs_of xs)) es i h

  pub depth_call : (e : E.Expr A) (f : N.Name A) (es : List (E.Expr A)) (at : Span) → e ≡ E.Call f es at → expr_depth (expr_of e) ≡ deepest (exprs_of es) + 1
  depth_call e f es at is = ap (λ x. expr_depth (expr_of x)) is ∙ ap expr_depth (expr_of_call f es at)

  pub first_more : (ds : List (R.Declarator A)) (i : ℕ) (d : R.Declarator A) → d ≡ get_or ds i d → i < length ds → deepest_value (map declarator_of (drop i ds)) ≡ max (optional_depth (option_map expr_of d.first)) (deepest_value (map declarator_of (drop (i + 1) ds)))
  first_more ds i d is h = at_drop_more (λ xs. deepest_value (map declarator_of xs)) ds i d h ∙ ap (λ x. max (optional_depth (option_map expr_of x.first)) (deepest_value (map declarator_of (drop (i + 1) ds)))) (sym is)

  pub first_all : (ds : List (R.Declarator A)) (i : ℕ) → length ds ≤ i → deepest_value (map declarator_of (drop i ds)) ≡ 0
  first_all ds i h = at_drop_all (λ xs. deepest_value (map declarator_of xs)) ds i h

  pub block_more : (ss : List (S.Stmt A)) (i : ℕ) (s : S.Stmt A) → s ≡ get_or ss i s → i < length ss → block_depth (stmts_of (drop i ss)) ≡ max (stmt_depth (stmt_of s) + 1) (block_depth (stmts_of (drop (i + 1) ss)))
  block_more ss i s is h = at_drop_more (λ xs. block_depth (stmts_of xs)) ss i s h ∙ ap (λ x. max (stmt_depth (stmt_of x) + 1) (block_depth (stmts_of (drop (i + 1) ss)))) (sym is)

  pub block_all : (ss : List (S.Stmt A)) (i : ℕ) → length ss ≤ i → block_depth (stmts_of (drop i ss)) ≡ 1
  block_all ss i h = at_drop_all (λ xs. block_depth (stmts_of xs)) ss i h

  pub items_more : (ts : List (T.Item A)) (i : ℕ) (t : T.Item A) → t ≡ get_or ts i t → i < length ts → program_depth (map item_of (drop i ts)) ≡ max (item_depth (item_of t)) (program_depth (map item_of (drop (i + 1) ts)))
  items_more ts i t is h = at_drop_more (λ xs. program_depth (map item_of xs)) ts i t h ∙ ap (λ x. max (item_depth (item_of x)) (program_depth (map item_of (drop (i + 1) ts)))) (sym is)

  pub items_all : (ts : List (T.Item A)) (i : ℕ) → length ts ≤ i → program_depth (map item_of (drop i ts)) ≡ 0
  items_all ts i h = at_drop_all (λ xs. program_depth (map item_of xs)) ts i h
