-- The instructions of declared locals one after another.
use Rattle.std.proofs.Common.{◌≡◌, ℕ, ◌+◌, ◌<◌, ◌≤◌, List, [], ◌∷◌, ◌++◌, length, map, drop, get_or, Result, Ok, sym, ap, arith, ◌∙◌, append_assoc, append-nil}
use Rattle.std.proofs.lemmas.List.{at_drop_more, drop_all}
use Rattle.lex.specs.declared.token.Scalar.{Scalar}
use Rattle.syntax.specs.declared.tree.Declarator.{Declarator as OwnDeclarator}
use Rattle.syntax.specs.Tree.{Declarator, Program}
use Rattle.syntax.specs.Views.{declarator_of}
use Rattle.bytecode.specs.declared.instr.Instr.{Instr}
use Rattle.bytecode.specs.declared.instr.Instr.TheVariants as own
use Rattle.lower_spec.specs.Expressions.{LocalScope}
use Rattle.lower_spec.specs.Statements.{with_local, with_declared}
use Rattle.selection.specs.Lists.{Lists, with_register}
use Rattle.selection.specs.Simples.{Written, and_then, first_written, declarator_written, declared_written}
use Rattle.selection.proofs.GrowingStmts.{first_more, declared_more}
use Rattle.lower_exprs.specs.declared.fault.LowerFailure.{LowerFailure}
use Rattle.lower_exprs.specs.Fragments.{Fragment, Adds, of_written}
use Rattle.lower_exprs.proofs.Adding.{written_behind, in_turn}

-- a local that is 0, and its first value behind that
module _ (p : Program) (t : Scalar) (d : Declarator) (scope : LocalScope) (from : ℕ) (l : Lists) where
  pub declarator_there : {scope' : LocalScope} {i next : ℕ} {old c1 new : List Instr} {l1 l2 : Lists} {r : Result ℕ LowerFailure} → i ≡ length scope → scope' ≡ with_local scope d.name.text t → c1 ≡ old ++ own.Constant i 0 ∷ [] → l1 ≡ with_register (length scope) l → next ≡ from + 1 →
      Adds (of_written (first_written p scope' i t d.first next l1)) c1 new l2 r → Adds (of_written (declarator_written p t d scope from l)) old new l2 r
  declarator_there {next = next} {old = old} {c1 = c1} {l1 = l1} ei es ec el en m =
      let zero : Fragment Instr ℕ = record { code = own.Constant (length scope) 0 ∷ []; lists = with_register (length scope) l; end = from + 1 } in
      let k : Adds zero old c1 l1 (Ok next) = record { code = ec ∙ ap (λ i. old ++ own.Constant i 0 ∷ []) ei; lists = el; end = en; fails = tt } in
      in_turn k (λ j. of_written (first_written p (es j) (ei j) t d.first (en j) (el j))) m

  pub zero_within : (with_register (length scope) l).registers ≤ (declarator_written p t d scope from l).lists.registers
  zero_within = let x = first_more p (with_local scope d.name.text t) (length scope) t d.first (from + 1) (with_register (length scope) l) in omega (arith, x)

module _ (t : Scalar) {A : Type 0} (ys : List (OwnDeclarator A)) (i : ℕ) (scope : LocalScope) where
  pub next_scope : (y : OwnDeclarator A) (whole scope' : LocalScope) → i < length ys → y ≡ get_or ys i y → scope' ≡ with_local scope y.name.text t → with_declared t (map declarator_of (drop i ys)) scope ≡ whole → with_declared t (map declarator_of (drop (i + 1) ys)) scope' ≡ whole
  next_scope y whole scope' h is es inv =
      ap (λ s. with_declared t (map declarator_of (drop (i + 1) ys)) s) es
      ∙ sym (at_drop_more (λ xs. with_declared t (map declarator_of xs) scope) ys i y h ∙ ap (λ x. with_declared t (map declarator_of (x ∷ drop (i + 1) ys)) scope) (sym is))
      ∙ inv

  pub last_scope : (whole : LocalScope) → length ys ≤ i → with_declared t (map declarator_of (drop i ys)) scope ≡ whole → scope ≡ whole
  last_scope whole h inv = sym (ap (λ xs. with_declared t (map declarator_of xs) scope) (drop_all i ys h)) ∙ inv

module _ (p : Program) (t : Scalar) {A : Type 0} (ys : List (OwnDeclarator A)) (i to : ℕ) (scope : LocalScope) (l : Lists) (code : List Instr) (whole : Written) where
  row : ℕ → LocalScope → ℕ → Lists → Written
  row j s k m = declared_written p t (map declarator_of (drop j ys)) s k m

  module _ (y : OwnDeclarator A) (h : i < length ys) (is : y ≡ get_or ys i y) (inv : written_behind code (declared_written p t (map declarator_of (drop i ys)) scope to l) ≡ whole) where
    abbrev First : Written
    First = declarator_written p t (declarator_of y) scope to l

    abbrev Behind : LocalScope
    Behind = with_local scope y.name.text t

    here : row i scope to l ≡ and_then First (row (i + 1) Behind First.to First.lists)
    unfolding row
    here =
        at_drop_more (λ xs. declared_written p t (map declarator_of xs) scope to l) ys i y h
        ∙ ap (λ x. declared_written p t (map declarator_of (x ∷ drop (i + 1) ys)) scope to l) (sym is)

    pub next_declared : {scope' : LocalScope} {code' : List Instr} {to' : ℕ} {l' : Lists} → scope' ≡ with_local scope y.name.text t → Adds (of_written (declarator_written p t (declarator_of y) scope to l)) code code' l' (Ok to') →
        written_behind code' (declared_written p t (map declarator_of (drop (i + 1) ys)) scope' to' l') ≡ whole
    unfolding row
    next_declared {code' = code'} es k =
        let rest = row (i + 1) Behind First.to First.lists in
        let there : written_behind code' (row (i + 1) _ _ _) ≡ written_behind (code ++ First.code) rest = (λ j. written_behind (k.code j) (row (i + 1) (es j) (k.end j) (k.lists j))) in
        there
        ∙ (λ j. record rest { code = append_assoc code First.code rest.code j })
        ∙ sym (ap (written_behind code) here)
        ∙ inv

    -- the first one needs no more registers than all
    pub declared_first_within : First.lists.registers ≤ whole.lists.registers
    unfolding row
    declared_first_within =
        let a = declared_more p t (map declarator_of (drop (i + 1) ys)) Behind First.to First.lists in
        let b = ap (λ (w : Written). w.lists.registers) here in
        let d = ap (λ (w : Written). w.lists.registers) inv in
        omega (arith, a, b, d)

  pub no_more_declared : length ys ≤ i → written_behind code (declared_written p t (map declarator_of (drop i ys)) scope to l) ≡ whole → record { code = code; lists = l; to = to } ≡ whole
  no_more_declared h inv =
      (λ j. record { code = sym (append-nil code) j; lists = l; to = to })
      ∙ sym (ap (λ xs. written_behind code (declared_written p t (map declarator_of xs) scope to l)) (drop_all i ys h))
      ∙ inv
