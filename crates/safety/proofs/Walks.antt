-- Sites put one behind another, and the sites of each kind of tree.
use Rattle.std.proofs.Common.{◌≡◌, refl, ap, sym, ◌∙◌, ℕ, ◌+◌, ◌<◌, List, [], ◌∷◌, ◌++◌, length, map, drop, get_or, append_assoc, Option, Some, None, option_map, unwrap_or, Result, Ok, Err}
use Rattle.std.specs.Result.{OnOk}
use Rattle.std.proofs.lemmas.List.{append-nil, at_drop_more}
use Rattle.syntax.specs.declared.tree.Name as N
use Rattle.syntax.specs.declared.tree.Expr as E
use Rattle.syntax.specs.declared.tree.Declaration as D
use Rattle.syntax.specs.declared.tree.Declarator as R
use Rattle.syntax.specs.declared.tree.ForHead as H
use Rattle.syntax.specs.declared.tree.Parameter as P
use Rattle.syntax.specs.declared.tree.Stmt as S
use Rattle.lex.specs.declared.token.Scalar.{Scalar}
use Rattle.syntax.specs.declared.tree.Simple as I
use Rattle.syntax.specs.declared.tree.Stmt.TheOpen.{Stmt-F}
use Rattle.syntax.specs.declared.tree.Stmt.TheFolds.{fold-roll-Stmt}
use Rattle.syntax.specs.declared.tree.Stmt.TheVariants as SV
use Rattle.syntax.specs.declared.tree.{UnaryOp.UnaryOp, BinaryOp.BinaryOp, LogicalOp.LogicalOp}
use Rattle.syntax.proofs.trees.Seen.{expr_of_variable, expr_of_element, expr_of_call, expr_of_parenthesized, expr_of_cast, expr_of_unary, expr_of_binary, expr_of_logical, expr_of_conditional, expr_of_in_transaction, stmt_of_declare, stmt_of_block, stmt_of_print, stmt_of_while, stmt_of_do_while, stmt_of_for, stmt_of_return, stmt_of_transaction}
use Rattle.syntax.specs.Tree as Tree
use Rattle.syntax.specs.Tree.{Span}
use Rattle.syntax.specs.declared.tree.{Mode.Mode, Mode.TheVariants.Atomic, Mode.TheVariants.Relaxed, TransactionKind.TransactionKind, TransactionKind.TheVariants.Plain, TransactionKind.TheVariants.Outer}
use Rattle.syntax.specs.Views.{name_of, expr_of, exprs_of, declarator_of, declaration_of, start_of, simple_of, stmt_step, stmt_of, stmts_of, parameter_of}
use Rattle.syntax.specs.Typing.{names_of, parameter_names}
use Rattle.safety.specs.declared.site.Site.{Site as OwnSite}
use Rattle.safety.specs.Sites.{Calls, Cancels, CancelsOuter, Prints, Site, names_of_start, Around, site, uses, with_names, in_transaction, expr_sites, exprs_sites, sites_if_any, simple_sites, declarator_sites, kind_site, stmt_sites, stmts_sites}
use Rattle.safety.specs.Views.{sites_of_own}
use Rattle.safety.specs.declared.site.TransactionsAround.{TransactionsAround}
use Rattle.safety.specs.inner.Known.{around}
use Rattle.safety.specs.inner.Walks.{Appends, head_sites}
use Rattle.safety.proofs.SameNames.{behind, expr_if_any_same, simple_if_any_same, declarators_same, stmt_same, stmts_same}
use Rattle.types.specs.BlockItems.{declaration_in}
use Rattle.types.proofs.BlockItems.{declaration_is}

pub two : (o m n : List OwnSite) (a b all : List Site) → all ≡ a ++ b → Appends o m a → Appends m n b → Appends o n all
two o m n a b all is h k = k ∙ ap (λ xs. xs ++ b) h ∙ append_assoc (sites_of_own o) a b ∙ ap (λ xs. sites_of_own o ++ xs) (sym is)

pub same : (o n : List OwnSite) (a all : List Site) → all ≡ a → Appends o n a → Appends o n all
same o n a all is h = h ∙ ap (λ xs. sites_of_own o ++ xs) (sym is)

-- what holds anyway
pub where_ok : {T E P : Type 0} (r : Result T E) → P → OnOk r P
where_ok (Ok x) h = h
where_ok (Err e) h = tt

-- one step of a loop
pub next : (o m n : List OwnSite) (a rest now all : List Site) → now ≡ a ++ rest → Appends m n a → sites_of_own m ++ now ≡ sites_of_own o ++ all → sites_of_own n ++ rest ≡ sites_of_own o ++ all
next o m n a rest now all is h k = ap (λ xs. xs ++ rest) h ∙ append_assoc (sites_of_own m) a rest ∙ ap (λ xs. sites_of_own m ++ xs) (sym is) ∙ k

pub done : (o m : List OwnSite) (rest all : List Site) → [] ≡ rest → sites_of_own m ++ rest ≡ sites_of_own o ++ all → Appends o m all
done o m rest all none k = sym (append-nil (sites_of_own m)) ∙ ap (λ xs. sites_of_own m ++ xs) none ∙ k

-- the same of any lists
module _ {X : Type 0} where
  pub next_of : (o m n a rest now all : List X) → now ≡ a ++ rest → n ≡ m ++ a → m ++ now ≡ o ++ all → n ++ rest ≡ o ++ all
  next_of o m n a rest now all is h k = ap (λ xs. xs ++ rest) h ∙ append_assoc m a rest ∙ ap (λ xs. m ++ xs) (sym is) ∙ k

  pub done_of : (o m rest all : List X) → [] ≡ rest → m ++ rest ≡ o ++ all → m ≡ o ++ all
  done_of o m rest all none k = sym (append-nil m) ∙ ap (λ xs. m ++ xs) none ∙ k

module _ {A : Type 0} (w : Around) where
  pub variable_sites : (e : E.Expr A) (x : N.Name A) → e ≡ E.Variable x → expr_sites (expr_of e) w ≡ uses (name_of x) w
  variable_sites e x is = ap (λ t. expr_sites t w) (ap expr_of is ∙ expr_of_variable x)

  pub parenthesized_sites : (e a b : E.Expr A) (at : Span) → e ≡ E.Parenthesized a at → b ≡ a → expr_sites (expr_of e) w ≡ expr_sites (expr_of b) w
  parenthesized_sites e a b at is h = ap (λ t. expr_sites t w) (ap expr_of is ∙ expr_of_parenthesized a at) ∙ ap (λ k. expr_sites (expr_of k) w) (sym h)

  pub cast_sites : (e : E.Expr A) (to : Scalar) (a b : E.Expr A) (at : Span) → e ≡ E.Cast to a at → b ≡ a → expr_sites (expr_of e) w ≡ expr_sites (expr_of b) w
  cast_sites e to a b at is h = ap (λ t. expr_sites t w) (ap expr_of is ∙ expr_of_cast to a at) ∙ ap (λ k. expr_sites (expr_of k) w) (sym h)

  pub unary_sites : (e : E.Expr A) (op : UnaryOp) (a b : E.Expr A) (at : Span) → e ≡ E.Unary op a at → b ≡ a → expr_sites (expr_of e) w ≡ expr_sites (expr_of b) w
  unary_sites e op a b at is h = ap (λ t. expr_sites t w) (ap expr_of is ∙ expr_of_unary op a at) ∙ ap (λ k. expr_sites (expr_of k) w) (sym h)

  pub element_sites : (e : E.Expr A) (x : N.Name A) (i j : E.Expr A) (at : Span) → e ≡ E.Element x i at → j ≡ i → expr_sites (expr_of e) w ≡ uses (name_of x) w ++ expr_sites (expr_of j) w
  element_sites e x i j at is h = ap (λ t. expr_sites t w) (ap expr_of is ∙ expr_of_element x i at) ∙ ap (λ k. uses (name_of x) w ++ expr_sites (expr_of k) w) (sym h)

  pub call_sites : (e : E.Expr A) (f : N.Name A) (es fs : List (E.Expr A)) (at : Span) (g : List ℕ) → e ≡ E.Call f es at → fs ≡ es → g ≡ f.text → expr_sites (expr_of e) w ≡ site w (Calls g) f.span ++ exprs_sites (exprs_of fs) w
  call_sites e f es fs at g is h k = ap (λ t. expr_sites t w) (ap expr_of is ∙ expr_of_call f es at) ∙ (λ i. site w (Calls (sym k i)) f.span ++ exprs_sites (exprs_of (sym h i)) w)

  pub binary_sites : (e : E.Expr A) (op : BinaryOp) (a b c d : E.Expr A) (at : Span) → e ≡ E.Binary op a b at → c ≡ a → d ≡ b → expr_sites (expr_of e) w ≡ expr_sites (expr_of c) w ++ expr_sites (expr_of d) w
  binary_sites e op a b c d at is h k = ap (λ t. expr_sites t w) (ap expr_of is ∙ expr_of_binary op a b at) ∙ (λ i. expr_sites (expr_of (sym h i)) w ++ expr_sites (expr_of (sym k i)) w)

  pub logical_sites : (e : E.Expr A) (op : LogicalOp) (a b c d : E.Expr A) (at : Span) → e ≡ E.Logical op a b at → c ≡ a → d ≡ b → expr_sites (expr_of e) w ≡ expr_sites (expr_of c) w ++ expr_sites (expr_of d) w
  logical_sites e op a b c d at is h k = ap (λ t. expr_sites t w) (ap expr_of is ∙ expr_of_logical op a b at) ∙ (λ i. expr_sites (expr_of (sym h i)) w ++ expr_sites (expr_of (sym k i)) w)

  pub conditional_sites : (e : E.Expr A) (a b c a' b' c' : E.Expr A) (at : Span) → e ≡ E.Conditional a b c at → a' ≡ a → b' ≡ b → c' ≡ c → expr_sites (expr_of e) w ≡ expr_sites (expr_of a') w ++ expr_sites (expr_of b') w ++ expr_sites (expr_of c') w
  conditional_sites e a b c a' b' c' at is h k l = ap (λ t. expr_sites t w) (ap expr_of is ∙ expr_of_conditional a b c at) ∙ (λ i. expr_sites (expr_of (sym h i)) w ++ expr_sites (expr_of (sym k i)) w ++ expr_sites (expr_of (sym l i)) w)

  pub in_transaction_sites : (e : E.Expr A) (mode : Mode) (keyword : Span) (a b : E.Expr A) (at : Span) → e ≡ E.InTransaction mode keyword a at → b ≡ a → expr_sites (expr_of e) w ≡ kind_site (Plain mode) w keyword ++ expr_sites (expr_of b) (in_transaction (Plain mode) w)
  in_transaction_sites e mode keyword a b at is h = ap (λ t. expr_sites t w) (ap expr_of is ∙ expr_of_in_transaction mode keyword a at) ∙ ap (λ k. kind_site (Plain mode) w keyword ++ expr_sites (expr_of k) (in_transaction (Plain mode) w)) (sym h)

  pub exprs_more : (es : List (E.Expr A)) (i : ℕ) (e : E.Expr A) → e ≡ get_or es i e → i < length es → exprs_sites (exprs_of (drop i es)) w ≡ expr_sites (expr_of e) w ++ exprs_sites (exprs_of (drop (i + 1) es)) w
  exprs_more es i e is h = at_drop_more (λ xs. exprs_sites (exprs_of xs) w) es i e h ∙ ap (λ x. expr_sites (expr_of x) w ++ exprs_sites (exprs_of (drop (i + 1) es)) w) (sym is)

  pub declare_sites : (s : S.Stmt A) (d : D.Declaration A) → s ≡ S.Declare d → stmt_sites (stmt_of s) w ≡ declarator_sites (map declarator_of d.declarators) w
  declare_sites s d is = ap (λ t. stmt_sites t w) (ap stmt_of is ∙ stmt_of_declare d)

  pub do_sites : (s : S.Stmt A) (d : I.Simple A) → s ≡ S.Do d → stmt_sites (stmt_of s) w ≡ simple_sites (simple_of d) w
  do_sites s d is = ap (λ t. stmt_sites t w) (ap stmt_of (is ∙ sym (SV.rolls-Do d)) ∙ fold-roll-Stmt A Tree.Stmt stmt_step (Stmt-F.Do d))

  pub while_sites : (s : S.Stmt A) (c : E.Expr A) (a b : S.Stmt A) → s ≡ S.While c a → b ≡ a → stmt_sites (stmt_of s) w ≡ expr_sites (expr_of c) w ++ stmt_sites (stmt_of b) w
  while_sites s c a b is h = ap (λ t. stmt_sites t w) (ap stmt_of is ∙ stmt_of_while c a) ∙ ap (λ t. expr_sites (expr_of c) w ++ stmt_sites (stmt_of t) w) (sym h)

  pub do_while_sites : (s : S.Stmt A) (a b : S.Stmt A) (c : E.Expr A) (v : Around) → s ≡ S.DoWhile a c → b ≡ a → w ≡ v → stmt_sites (stmt_of s) w ≡ stmt_sites (stmt_of b) w ++ expr_sites (expr_of c) v
  do_while_sites s a b c v is h k = ap (λ t. stmt_sites t w) (ap stmt_of is ∙ stmt_of_do_while a c) ∙ (λ i. stmt_sites (stmt_of (sym h i)) w ++ expr_sites (expr_of c) (k i))

  pub return_sites : (s : S.Stmt A) (e : Option (E.Expr A)) (at : Span) → s ≡ S.Return e at → stmt_sites (stmt_of s) w ≡ sites_if_any expr_sites (option_map expr_of e) w
  return_sites s e at is = ap (λ t. stmt_sites t w) (ap stmt_of is ∙ stmt_of_return e at)

  pub cancel_sites : (s : S.Stmt A) (at : Span) → s ≡ S.Cancel at → stmt_sites (stmt_of s) w ≡ site w Cancels at
  cancel_sites s at is = ap (λ t. stmt_sites t w) (ap stmt_of (is ∙ sym (SV.rolls-Cancel at)) ∙ fold-roll-Stmt A Tree.Stmt stmt_step (Stmt-F.Cancel at))

  pub cancel_outer_sites : (s : S.Stmt A) (at : Span) → s ≡ S.CancelOuter at → stmt_sites (stmt_of s) w ≡ site w CancelsOuter at
  cancel_outer_sites s at is = ap (λ t. stmt_sites t w) (ap stmt_of (is ∙ sym (SV.rolls-CancelOuter at)) ∙ fold-roll-Stmt A Tree.Stmt stmt_step (Stmt-F.CancelOuter at))

  pub block_sites : (s : S.Stmt A) (ss ts : List (S.Stmt A)) → s ≡ S.Block ss → ts ≡ ss → stmt_sites (stmt_of s) w ≡ stmts_sites (stmts_of ts) w
  block_sites s ss ts is h = ap (λ t. stmt_sites t w) (ap stmt_of is ∙ stmt_of_block ss) ∙ ap (λ us. stmts_sites (stmts_of us) w) (sym h)

  pub print_sites : (s : S.Stmt A) (at : Span) (text : List ℕ) (text_at : Span) (es fs : List (E.Expr A)) → s ≡ S.Print at text text_at es → fs ≡ es → stmt_sites (stmt_of s) w ≡ site w Prints at ++ exprs_sites (exprs_of fs) w
  print_sites s at text text_at es fs is h = ap (λ t. stmt_sites t w) (ap stmt_of is ∙ stmt_of_print at text text_at es) ∙ ap (λ us. site w Prints at ++ exprs_sites (exprs_of us) w) (sym h)

  pub transaction_sites : (s : S.Stmt A) (kind : TransactionKind) (ss ts : List (S.Stmt A)) (at : Span) → s ≡ S.Transaction kind ss at → ts ≡ ss → stmt_sites (stmt_of s) w ≡ kind_site kind w at ++ stmts_sites (stmts_of ts) (in_transaction kind w)
  transaction_sites s kind ss ts at is h = ap (λ t. stmt_sites t w) (ap stmt_of is ∙ stmt_of_transaction kind ss at) ∙ ap (λ us. kind_site kind w at ++ stmts_sites (stmts_of us) (in_transaction kind w)) (sym h)

  pub for_sites : (s : S.Stmt A) (head head' : H.ForHead A) (a a' : S.Stmt A) → s ≡ S.For head a → head' ≡ head → a' ≡ a → stmt_sites (stmt_of s) w ≡ head_sites (start_of head'.start) (option_map expr_of head'.condition) (option_map simple_of head'.step) w ++ stmt_sites (stmt_of a') (with_names (names_of_start (start_of head'.start)) w)
  for_sites s head head' a a' is h k =
      ap (λ t. stmt_sites t w) (ap stmt_of is ∙ stmt_of_for head a)
      ∙ (λ i. head_sites (start_of (sym h i).start) (option_map expr_of (sym h i).condition) (option_map simple_of (sym h i).step) w ++ stmt_sites (stmt_of (sym k i)) (with_names (names_of_start (start_of (sym h i).start)) w))

-- names that are declared in order
module _ (surroundings : TransactionsAround) where
  pub first_sites : (e : Option Tree.Expr) (old new names : List (List ℕ)) → new ≡ old ++ names → sites_if_any expr_sites e (with_names names (around old surroundings)) ≡ sites_if_any expr_sites e (around new surroundings)
  first_sites e old new names is = expr_if_any_same e (around old surroundings) (names ++ old) new (behind old new names is)

  pub step_sites : (e : Option Tree.Simple) (old new names : List (List ℕ)) → new ≡ old ++ names → sites_if_any simple_sites e (with_names names (around old surroundings)) ≡ sites_if_any simple_sites e (around new surroundings)
  step_sites e old new names is = simple_if_any_same e (around old surroundings) (names ++ old) new (behind old new names is)

  pub body_behind : (s : Tree.Stmt) (old new names : List (List ℕ)) → new ≡ old ++ names → stmt_sites s (with_names names (around old surroundings)) ≡ stmt_sites s (around new surroundings)
  body_behind s old new names is = stmt_same s (around old surroundings) (names ++ old) new (behind old new names is)

  pub kind_anywhere : (kind : TransactionKind) (at : Span) (names : List (List ℕ)) → kind_site kind (around names surroundings) at ≡ kind_site kind (around [] surroundings) at
  kind_anywhere (Plain Atomic) at names = refl
  kind_anywhere (Plain Relaxed) at names = refl
  kind_anywhere Outer at names = refl

module _ {A : Type 0} (surroundings : TransactionsAround) where
  pub declarators_more : (ds : List (R.Declarator A)) (i : ℕ) (d : R.Declarator A) (old new : List (List ℕ)) → d ≡ get_or ds i d → i < length ds → new ≡ old ++ d.name.text ∷ [] → declarator_sites (map declarator_of (drop i ds)) (around old surroundings) ≡ sites_if_any expr_sites (option_map expr_of d.first) (with_names (d.name.text ∷ []) (around old surroundings)) ++ declarator_sites (map declarator_of (drop (i + 1) ds)) (around new surroundings)
  declarators_more ds i d old new is h names =
      let rest = map declarator_of (drop (i + 1) ds) in
      at_drop_more (λ es. declarator_sites (map declarator_of es) (around old surroundings)) ds i d h
      ∙ ap (λ e. sites_if_any expr_sites (option_map expr_of e.first) (with_names (e.name.text ∷ []) (around old surroundings)) ++ declarator_sites rest (with_names (e.name.text ∷ []) (around old surroundings))) (sym is)
      ∙ ap (λ ss. sites_if_any expr_sites (option_map expr_of d.first) (with_names (d.name.text ∷ []) (around old surroundings)) ++ ss) (declarators_same rest (around old surroundings) (d.name.text ∷ old) new (behind old new (d.name.text ∷ []) names))

  pub stmts_more : (ss : List (S.Stmt A)) (i : ℕ) (s : S.Stmt A) (old new : List (List ℕ)) → s ≡ get_or ss i s → i < length ss → new ≡ old ++ names_of (stmt_of s) → stmts_sites (stmts_of (drop i ss)) (around old surroundings) ≡ stmt_sites (stmt_of s) (around old surroundings) ++ stmts_sites (stmts_of (drop (i + 1) ss)) (around new surroundings)
  stmts_more ss i s old new is h names =
      let rest = stmts_of (drop (i + 1) ss) in
      at_drop_more (λ ts. stmts_sites (stmts_of ts) (around old surroundings)) ss i s h
      ∙ ap (λ t. stmt_sites (stmt_of t) (around old surroundings) ++ stmts_sites rest (with_names (names_of (stmt_of t)) (around old surroundings))) (sym is)
      ∙ ap (λ xs. stmt_sites (stmt_of s) (around old surroundings) ++ xs) (stmts_same rest (around old surroundings) (names_of (stmt_of s) ++ old) new (behind old new (names_of (stmt_of s)) names))

parameters_split : (q : Tree.Parameter) (qs : List Tree.Parameter) (o : Option Tree.Name) → unwrap_or (option_map (λ x. x.text ∷ parameter_names qs) o) (parameter_names qs) ≡ unwrap_or (option_map (λ x. x.text ∷ []) o) [] ++ parameter_names qs
parameters_split q qs None = refl
parameters_split q qs (Some x) = refl

module _ {A : Type 0} where
  pub names_more : (ds : List (R.Declarator A)) (i : ℕ) (d : R.Declarator A) → d ≡ get_or ds i d → i < length ds → map (λ e. e.name.text) (map declarator_of (drop i ds)) ≡ (d.name.text ∷ []) ++ map (λ e. e.name.text) (map declarator_of (drop (i + 1) ds))
  names_more ds i d is h = at_drop_more (λ es. map (λ e. e.name.text) (map declarator_of es)) ds i d h ∙ ap (λ e. e.name.text ∷ map (λ e. e.name.text) (map declarator_of (drop (i + 1) ds))) (sym is)

  pub parameters_more : (qs : List (P.Parameter A)) (i : ℕ) (q : P.Parameter A) → q ≡ get_or qs i q → i < length qs → parameter_names (map parameter_of (drop i qs)) ≡ parameter_names (parameter_of q ∷ []) ++ parameter_names (map parameter_of (drop (i + 1) qs))
  parameters_more qs i q is h =
      let rest = map parameter_of (drop (i + 1) qs) in
      at_drop_more (λ ps. parameter_names (map parameter_of ps)) qs i q h
      ∙ ap (λ p. parameter_names (parameter_of p ∷ rest)) (sym is)
      ∙ parameters_split (parameter_of q) rest (parameter_of q).name

  -- an item of a block
  pub item_sites : (s : S.Stmt A) (d : D.Declaration A) (ds : List (R.Declarator A)) (w : Around) → Some (declaration_of d) ≡ declaration_in (stmt_of s) → ds ≡ d.declarators → stmt_sites (stmt_of s) w ≡ declarator_sites (map declarator_of ds) w
  item_sites s d ds w is h = ap (λ t. stmt_sites t w) (declaration_is (stmt_of s) (declaration_of d) (sym is)) ∙ ap (λ es. declarator_sites (map declarator_of es) w) (sym h)

  pub item_names : (s : S.Stmt A) (d : D.Declaration A) (ds : List (R.Declarator A)) → Some (declaration_of d) ≡ declaration_in (stmt_of s) → ds ≡ d.declarators → names_of (stmt_of s) ≡ map (λ e. e.name.text) (map declarator_of ds)
  item_names s d ds is h = ap names_of (declaration_is (stmt_of s) (declaration_of d) (sym is)) ∙ ap (λ es. map (λ e. e.name.text) (map declarator_of es)) (sym h)
