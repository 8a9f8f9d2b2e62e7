-- The sites of a tree depend on which names the locals have, and not on their order.
use Rattle.std.proofs.Common.{◌≡◌, refl, ap, sym, ◌∙◌, ℕ, List, [], ◌∷◌, ◌++◌, Option, Some, None, Bool, true, false, ◌||◌}
use Rattle.std.specs.Prelude.{if◌then◌else◌, bytes_eq}
use Rattle.std.proofs.lemmas.List.Folds.{list_any-append}
use Rattle.syntax.specs.Tree.{Name, Expr, Exprs, Variable, Constant, Element, Call, Parenthesized, Cast, Unary, Binary, Logical, Conditional, InTransaction, Simple, Evaluate, Assign, Adjust, Declarator, Start, Nothing, Declares, Does, Stmt, Stmts, Empty, Declare, Do, Block, Print, If, IfElse, While, DoWhile, For, Break, Continue, Return, Transaction, Cancel, CancelOuter}
use Rattle.syntax.specs.declared.tree.{Mode.TheVariants.Atomic, Mode.TheVariants.Relaxed, TransactionKind.TheVariants.Plain, TransactionKind.TheVariants.Outer}
use Rattle.syntax.specs.Typing.{has_name, names_of}
use Rattle.safety.specs.Sites.{Prints, Relaxes, OpensOuter, Calls, Uses, Site, Around, site, in_transaction, uses, expr_sites, exprs_sites, sites_if_any, simple_sites, declarator_sites, start_sites, names_of_start, stmt_sites, stmts_sites}

abbrev NameList : Type 0
NameList = List (List ℕ)

-- the same names
abbrev pub Same : NameList → NameList → Type 0
Same xs ys = (x : List ℕ) → has_name xs x ≡ has_name ys x

or_more : (b c d : Bool) → c ≡ d → (b || c) ≡ (b || d)
or_more b c d h = ap (λ e. b || e) h

or_swapped : (b c : Bool) → (b || c) ≡ (c || b)
or_swapped true true = refl
or_swapped true false = refl
or_swapped false true = refl
or_swapped false false = refl

pub swapped : (xs ys : NameList) → Same (xs ++ ys) (ys ++ xs)
swapped xs ys x =
    list_any-append (λ y. bytes_eq y x) xs ys ∙ or_swapped (has_name xs x) (has_name ys x) ∙ sym (list_any-append (λ y. bytes_eq y x) ys xs)

-- names put behind others, and those put before them
pub behind : (old new names : NameList) → new ≡ old ++ names → Same (names ++ old) new
behind old new names is x = swapped names old x ∙ ap (λ ns. has_name ns x) (sym is)

more : (zs xs ys : NameList) → Same xs ys → Same (zs ++ xs) (zs ++ ys)
more zs xs ys h x =
    list_any-append (λ y. bytes_eq y x) zs xs ∙ or_more (has_name zs x) (has_name xs x) (has_name ys x) (h x) ∙ sym (list_any-append (λ y. bytes_eq y x) zs ys)

abbrev within : NameList → Around → Around
within xs w = record w { locals = xs }

both : (us vs xs ys : List Site) → us ≡ vs → xs ≡ ys → us ++ xs ≡ vs ++ ys
both us vs xs ys h k = (λ i. h i ++ k i)

uses_same : (x : Name) (w : Around) (xs ys : NameList) → Same xs ys → uses x (within xs w) ≡ uses x (within ys w)
uses_same x w xs ys h = ap (λ b. if b then [] else site w (Uses x.text) x.span) (h x.text)

mutual
  expr_same : (e : Expr) (w : Around) (xs ys : NameList) → Same xs ys → expr_sites e (within xs w) ≡ expr_sites e (within ys w)
  expr_same (Variable x) w xs ys h = uses_same x w xs ys h
  expr_same (Constant n t at) w xs ys h = refl
  expr_same (Element x e at) w xs ys h = both _ _ _ _ (uses_same x w xs ys h) (expr_same e w xs ys h)
  expr_same (Call f es at) w xs ys h = ap (λ ss. site w (Calls f.text) f.span ++ ss) (exprs_same es w xs ys h)
  expr_same (Parenthesized e at) w xs ys h = expr_same e w xs ys h
  expr_same (Cast t e at) w xs ys h = expr_same e w xs ys h
  expr_same (Unary op e at) w xs ys h = expr_same e w xs ys h
  expr_same (Binary op c d at) w xs ys h = both _ _ _ _ (expr_same c w xs ys h) (expr_same d w xs ys h)
  expr_same (Logical op c d at) w xs ys h = both _ _ _ _ (expr_same c w xs ys h) (expr_same d w xs ys h)
  expr_same (Conditional c d e at) w xs ys h = both _ _ _ _ (both _ _ _ _ (expr_same c w xs ys h) (expr_same d w xs ys h)) (expr_same e w xs ys h)
  expr_same (InTransaction Atomic keyword e at) w xs ys h = expr_same e (in_transaction (Plain Atomic) w) xs ys h
  expr_same (InTransaction Relaxed keyword e at) w xs ys h = ap (λ ss. site w Relaxes keyword ++ ss) (expr_same e (in_transaction (Plain Relaxed) w) xs ys h)

  exprs_same : (es : Exprs) (w : Around) (xs ys : NameList) → Same xs ys → exprs_sites es (within xs w) ≡ exprs_sites es (within ys w)
  exprs_same Exprs.[] w xs ys h = refl
  exprs_same (Exprs.◌∷◌ e es) w xs ys h = both _ _ _ _ (expr_same e w xs ys h) (exprs_same es w xs ys h)

pub expr_if_any_same : (e : Option Expr) (w : Around) (xs ys : NameList) → Same xs ys → sites_if_any expr_sites e (within xs w) ≡ sites_if_any expr_sites e (within ys w)
expr_if_any_same None w xs ys h = refl
expr_if_any_same (Some e) w xs ys h = expr_same e w xs ys h

simple_same : (s : Simple) (w : Around) (xs ys : NameList) → Same xs ys → simple_sites s (within xs w) ≡ simple_sites s (within ys w)
simple_same (Evaluate e) w xs ys h = expr_same e w xs ys h
simple_same (Assign to op e) w xs ys h = both _ _ _ _ (expr_same to w xs ys h) (expr_same e w xs ys h)
simple_same (Adjust to by) w xs ys h = expr_same to w xs ys h

pub simple_if_any_same : (s : Option Simple) (w : Around) (xs ys : NameList) → Same xs ys → sites_if_any simple_sites s (within xs w) ≡ sites_if_any simple_sites s (within ys w)
simple_if_any_same None w xs ys h = refl
simple_if_any_same (Some s) w xs ys h = simple_same s w xs ys h

pub declarators_same : (ds : List Declarator) (w : Around) (xs ys : NameList) → Same xs ys → declarator_sites ds (within xs w) ≡ declarator_sites ds (within ys w)
declarators_same [] w xs ys h = refl
declarators_same (d ∷ ds) w xs ys h =
    let names = d.name.text ∷ [] in
    both _ _ _ _ (expr_if_any_same d.first w (names ++ xs) (names ++ ys) (more names xs ys h)) (declarators_same ds w (names ++ xs) (names ++ ys) (more names xs ys h))

start_same : (s : Start) (w : Around) (xs ys : NameList) → Same xs ys → start_sites s (within xs w) ≡ start_sites s (within ys w)
start_same Nothing w xs ys h = refl
start_same (Declares d) w xs ys h = declarators_same d.declarators w xs ys h
start_same (Does s) w xs ys h = simple_same s w xs ys h

mutual
  pub stmt_same : (s : Stmt) (w : Around) (xs ys : NameList) → Same xs ys → stmt_sites s (within xs w) ≡ stmt_sites s (within ys w)
  stmt_same Empty w xs ys h = refl
  stmt_same (Declare d) w xs ys h = declarators_same d.declarators w xs ys h
  stmt_same (Do s) w xs ys h = simple_same s w xs ys h
  stmt_same (Block ss) w xs ys h = stmts_same ss w xs ys h
  stmt_same (Print at format format_at es) w xs ys h = ap (λ ss. site w Prints at ++ ss) (exprs_same es w xs ys h)
  stmt_same (If c s) w xs ys h = both _ _ _ _ (expr_same c w xs ys h) (stmt_same s w xs ys h)
  stmt_same (IfElse c s s') w xs ys h = both _ _ _ _ (both _ _ _ _ (expr_same c w xs ys h) (stmt_same s w xs ys h)) (stmt_same s' w xs ys h)
  stmt_same (While c s) w xs ys h = both _ _ _ _ (expr_same c w xs ys h) (stmt_same s w xs ys h)
  stmt_same (DoWhile s c) w xs ys h = both _ _ _ _ (stmt_same s w xs ys h) (expr_same c w xs ys h)
  stmt_same (For start c step s) w xs ys h =
      let names = names_of_start start in
      let further = more names xs ys h in
      both _ _ _ _ (both _ _ _ _ (both _ _ _ _ (start_same start w xs ys h) (expr_if_any_same c w (names ++ xs) (names ++ ys) further)) (simple_if_any_same step w (names ++ xs) (names ++ ys) further)) (stmt_same s w (names ++ xs) (names ++ ys) further)
  stmt_same (Break at) w xs ys h = refl
  stmt_same (Continue at) w xs ys h = refl
  stmt_same (Return e at) w xs ys h = expr_if_any_same e w xs ys h
  stmt_same (Transaction (Plain Atomic) ss at) w xs ys h = stmts_same ss (in_transaction (Plain Atomic) w) xs ys h
  stmt_same (Transaction (Plain Relaxed) ss at) w xs ys h = ap (λ ts. site w Relaxes at ++ ts) (stmts_same ss (in_transaction (Plain Relaxed) w) xs ys h)
  stmt_same (Transaction Outer ss at) w xs ys h = ap (λ ts. site w OpensOuter at ++ ts) (stmts_same ss (in_transaction Outer w) xs ys h)
  stmt_same (Cancel at) w xs ys h = refl
  stmt_same (CancelOuter at) w xs ys h = refl

  pub stmts_same : (ss : Stmts) (w : Around) (xs ys : NameList) → Same xs ys → stmts_sites ss (within xs w) ≡ stmts_sites ss (within ys w)
  stmts_same Stmts.[] w xs ys h = refl
  stmts_same (Stmts.◌∷◌ s ss) w xs ys h =
      let names = names_of s in
      both _ _ _ _ (stmt_same s w xs ys h) (stmts_same ss w (names ++ xs) (names ++ ys) (more names xs ys h))
