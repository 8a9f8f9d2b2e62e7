-- What is made of a body, of an item and of items one after another.
use Rattle.std.proofs.Common.{◌≡◌, ℕ, ◌+◌, ◌<◌, ◌≤◌, List, [], ◌∷◌, ◌++◌, length, map, take, get_or, refl, sym, ap, ◌∙◌, append_assoc, append-nil, Option, Some, None, option_map, subst}
use Rattle.std.specs.Prelude.{slice_get, unwrap_or, zero, suc}
use Rattle.std.specs.List.{AllByRecursion}
use Rattle.std.proofs.lemmas.List.{take_all, map_more}
use Rattle.syntax.specs.declared.tree.Item.{Item as OwnItem}
use Rattle.syntax.specs.declared.tree.Item.TheVariants as own
use Rattle.syntax.specs.declared.tree.Function.{Function as OwnFunction}
use Rattle.syntax.specs.declared.tree.Stmt.{Stmt as OwnStmt}
use Rattle.lex.specs.declared.token.Scalar.{Scalar}
use Rattle.syntax.specs.Tree.{Function, Stmts, Item, Defines, Shares, Program}
use Rattle.syntax.specs.Views.{item_of, function_of, stmts_of}
use Rattle.bytecode.specs.Code.{FunctionCode}
use Rattle.lower_spec.specs.Expressions.{LocalScope}
use Rattle.selection.specs.Lists.{Lists}
use Rattle.selection.specs.declared.locations.Exits.{Exits}
use Rattle.selection.specs.Statements.{stmts_code}
use Rattle.selection.specs.Programs.{body_written, FunctionCodes, nothing_made, function_code, put_before, made_first, all_made, made_for}
use Rattle.lower.specs.inner.Parts.{made_behind}

abbrev pub exits_of : Scalar → Exits
exits_of u = record { break_to = 0; continue_to = 0; in_loop = 0; in_function = 0; to_outer = 0; gives = u }

-- a body in equal scopes, with equal numbers of registers
pub same_body : (p : Program) (body : Stmts) (from : ℕ) (l : Lists) (u u' : Scalar) (scope scope' : LocalScope) (n n' : ℕ) → u ≡ u' → scope ≡ scope' → n ≡ n' →
    stmts_code p body (exits_of u) scope from (record l { registers = n }) ≡ stmts_code p body (exits_of u') scope' from (record l { registers = n' })
same_body p body from l u u' scope scope' n n' t s e = λ j. stmts_code p body (exits_of (t j)) (s j) from (record l { registers = e j })

-- an item alone
pub definition_made : {A : Type 0} (p : Program) (item : OwnItem A) (f : OwnFunction A) (body : List (OwnStmt A)) (from : ℕ) (l : Lists) → item ≡ own.Function f → f.body ≡ Some body →
    all_made p (item_of item ∷ []) from l ≡ put_before (function_code (function_of f) from (body_written p (function_of f) (stmts_of body) from l)) (body_written p (function_of f) (stmts_of body) from l) (nothing_made (body_written p (function_of f) (stmts_of body) from l).to (body_written p (function_of f) (stmts_of body) from l).lists)
definition_made p item f body from l is e =
    ap (λ i. all_made p (item_of i ∷ []) from l) is ∙ ap (λ o. made_first p (function_of f) (option_map stmts_of o) (all_made p []) from l) e

pub prototype_made : {A : Type 0} (p : Program) (item : OwnItem A) (f : OwnFunction A) (from : ℕ) (l : Lists) → item ≡ own.Function f → f.body ≡ None → all_made p (item_of item ∷ []) from l ≡ nothing_made from l
prototype_made p item f from l is e =
    ap (λ i. all_made p (item_of i ∷ []) from l) is ∙ ap (λ o. made_first p (function_of f) (option_map stmts_of o) (all_made p []) from l) e

pub nothing_behind : (m : FunctionCodes) → made_behind m (nothing_made m.to m.lists) ≡ m
nothing_behind m = λ j. record m { functions = append-nil m.functions j; code = append-nil m.code j }

-- an item, and then the others
definition_and_rest : (p : Program) (f : Function) (items : Program) (o : Option Stmts) (from : ℕ) (l : Lists) →
    made_first p f o (all_made p items) from l ≡ made_behind (made_first p f o (all_made p []) from l) (all_made p items (made_first p f o (all_made p []) from l).to (made_first p f o (all_made p []) from l).lists)
definition_and_rest p f items None from l = refl
definition_and_rest p f items (Some body) from l =
    let w = body_written p f body from l in
    let rest = all_made p items w.to w.lists in
    ap (λ c. record { functions = function_code f from w ∷ rest.functions; code = c ++ rest.code; lists = rest.lists; to = rest.to }) (sym (append-nil w.code))

first_and_rest : (p : Program) (item : Item) (items : Program) (from : ℕ) (l : Lists) →
    all_made p (item ∷ items) from l ≡ made_behind (all_made p (item ∷ []) from l) (all_made p items (all_made p (item ∷ []) from l).to (all_made p (item ∷ []) from l).lists)
first_and_rest p (Shares gs) items from l = refl
first_and_rest p (Defines f) items from l = definition_and_rest p f items f.body from l

-- items, and then the others
pub front_and_rest : (p : Program) (front items : Program) (from : ℕ) (l : Lists) →
    all_made p (front ++ items) from l ≡ made_behind (all_made p front from l) (all_made p items (all_made p front from l).to (all_made p front from l).lists)
front_and_rest p [] items from l = refl
front_and_rest p (item ∷ front) items from l =
    let one = all_made p (item ∷ []) from l in
    let more = all_made p front one.to one.lists in
    let rest = all_made p items more.to more.lists in
    first_and_rest p item (front ++ items) from l
    ∙ ap (λ (m : FunctionCodes). made_behind one m) (front_and_rest p front items one.to one.lists)
    ∙ (λ j. record { functions = sym (append_assoc one.functions more.functions rest.functions) j; code = sym (append_assoc one.code more.code rest.code) j; lists = rest.lists; to = rest.to })
    ∙ sym (ap (λ (m : FunctionCodes). made_behind m (all_made p items m.to m.lists)) (first_and_rest p item front from l))

module _ (p : Program) {A : Type 0} (items : List (OwnItem A)) (i : ℕ) (x : OwnItem A) (h : i < length items) (is : x ≡ get_or items i x) where
  pub one_more : map item_of (take (i + 1) items) ≡ map item_of (take i items) ++ item_of x ∷ []
  one_more = map_more item_of items i x h ∙ ap (λ y. map item_of (take i items) ++ item_of y ∷ []) (sym is)

  -- what is made of the first items, and of the next one
  pub front_more : {done done' : FunctionCodes} → done ≡ made_for p (map item_of (take i items)) → done' ≡ made_behind done (all_made p (item_of x ∷ []) done.to done.lists) → done' ≡ made_for p (map item_of (take (i + 1) items))
  front_more d n =
      n
      ∙ (λ j. made_behind (d j) (all_made p (item_of x ∷ []) (d j).to (d j).lists))
      ∙ sym (ap (made_for p) one_more ∙ front_and_rest p (map item_of (take i items)) (item_of x ∷ []) 0 _)

-- of all items
pub front_last : (p : Program) {A : Type 0} (items : List (OwnItem A)) (i : ℕ) {done : FunctionCodes} → length items ≤ i → done ≡ made_for p (map item_of (take i items)) → done ≡ made_for p (map item_of items)
front_last p items i h d = d ∙ ap (λ its. made_for p (map item_of its)) (take_all i items h)

-- functions of few registers
pub few_more : (fs : List FunctionCode) (f : FunctionCode) → AllByRecursion (λ (g : FunctionCode). g.registers ≤ 65535) fs → f.registers ≤ 65535 → AllByRecursion (λ (g : FunctionCode). g.registers ≤ 65535) (fs ++ f ∷ [])
few_more [] f h k = (k, tt)
few_more (g ∷ fs) f h k = (h.0, few_more fs f h.1 k)

pub few_at : (fs : List FunctionCode) (n : ℕ) (f : FunctionCode) → AllByRecursion (λ (g : FunctionCode). g.registers ≤ 65535) fs → slice_get fs n ≡ Some f → f.registers ≤ 65535
few_at [] n f h e = absurd (cc)
few_at (g ∷ fs) zero f h e = subst (λ (x : FunctionCode). x.registers ≤ 65535) (ap (λ o. unwrap_or o g) e) h.0
few_at (g ∷ fs) (suc n) f h e = few_at fs n f h.1 e
