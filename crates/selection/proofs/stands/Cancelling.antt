-- In a safe program a cancel stands directly in an atomic transaction, and an outer cancel in an outer one.
use Rattle.std.proofs.Common.{◌≡◌, refl, ℕ, suc, List, ◌++◌, arith, Option, Some, None, true, false}
use Rattle.std.specs.Prelude.{option_map, Contains}
use Rattle.std.proofs.Math.Logic.{∥∥₁_elim, ∥∥₁_prop}
use Rattle.std.proofs.lemmas.List.Elements.{All-contains, Contains-append_left, Contains-append_right}
use Rattle.syntax.specs.declared.tree.Mode.{Mode}
use Rattle.syntax.specs.declared.tree.Mode.TheVariants.{Atomic, Relaxed}
use Rattle.syntax.specs.declared.tree.TransactionKind.{TransactionKind}
use Rattle.syntax.specs.declared.tree.TransactionKind.TheVariants.{Plain, Outer}
use Rattle.syntax.specs.Tree as Tree
use Rattle.syntax.specs.Tree.{Stmt, Stmts, Empty, Declare, Do, Block, Print, If, IfElse, While, DoWhile, For, Break, Continue, Return, Transaction, Cancel, CancelOuter, Function, Program}
use Rattle.syntax.specs.Names.{definition_of}
use Rattle.syntax.specs.Typing.{names_of, parameter_names}
use Rattle.safety.specs.Sites.{Cancels, CancelsOuter, Relaxes, Site, Around, with_names, in_transaction, kind_site, expr_sites, simple_sites, sites_if_any, start_sites, names_of_start, stmt_sites, stmts_sites, sites_of}
use Rattle.safety.specs.Safe.{KeepsAtomic, KeepsOuter, IsSafeProgram}
use Rattle.safety.proofs.CancelsStay.{definition_sites}
use Rattle.selection.proofs.stands.Statements.{Enclosing, not_enclosed, enclosed_in, IsInOuter, CancelsFit, AllCancelsFit}

module _ (p : Program) where
  record AllKeep (ms : List Site) : Type 0 where
    each : (m : Site) → Contains ms m → KeepsAtomic p m × KeepsOuter p m

  before : (ms os : List Site) → AllKeep (ms ++ os) → AllKeep ms
  before ms os h = record { each = λ m c. h.each m (Contains-append_left ms os m c) }

  after : (ms os : List Site) → AllKeep (ms ++ os) → AllKeep os
  after ms os h = record { each = λ m c. h.each m (Contains-append_right ms os m c) }

  -- the transactions round a place, where it is known to be inside an atomic one, and where inside an outer one
  record Encloses (a : Around) (m : Enclosing) : Type 0 where
    innermost : a.atomic ≡ true → m.innermost ≡ Some Atomic
    in_outer : a.outer ≡ true → IsInOuter m.in_outer

  with_more : (xs : List (List ℕ)) (a : Around) (m : Enclosing) → Encloses a m → Encloses (with_names xs a) m
  with_more xs a m n = record { innermost = n.innermost; in_outer = n.in_outer }

  one_deeper : (levels : Option ℕ) → IsInOuter levels → IsInOuter (option_map suc levels)
  one_deeper None inside = inside
  one_deeper (Some n) inside = tt

  in_kind : (kind : TransactionKind) (a : Around) (m : Enclosing) (at : Tree.Span) → AllKeep (kind_site kind a at) → Encloses a m → Encloses (in_transaction kind a) (enclosed_in kind m)
  in_kind (Plain Atomic) a m at h n = record { innermost = λ e. refl; in_outer = λ e. one_deeper m.in_outer (n.in_outer e) }
  in_kind (Plain Relaxed) a m at h n = record {
    innermost = λ e. absurd ((h.each (record { construct = Relaxes; span = at; atomic = a.atomic; outer = a.outer; in_any = a.in_any }) (0, omega arith, refl)).0.0 e);
    in_outer = λ e. one_deeper m.in_outer (n.in_outer e);
  }
  in_kind Outer a m at h n = record { innermost = λ e. refl; in_outer = λ e. tt }

  mutual
    cancels_fit : (s : Stmt) (a : Around) (m : Enclosing) → Encloses a m → AllKeep (stmt_sites s a) → CancelsFit s m
    cancels_fit Empty a m n h = tt
    cancels_fit (Declare d) a m n h = tt
    cancels_fit (Do s) a m n h = tt
    cancels_fit (Block ss) a m n h = all_cancels_fit ss a m n h
    cancels_fit (Print at format format_at es) a m n h = tt
    cancels_fit (If e s) a m n h = cancels_fit s a m n (after (expr_sites e a) (stmt_sites s a) h)
    cancels_fit (IfElse e s s') a m n h = (
      cancels_fit s a m n (after (expr_sites e a) (stmt_sites s a) (before (expr_sites e a ++ stmt_sites s a) (stmt_sites s' a) h)),
      cancels_fit s' a m n (after (expr_sites e a ++ stmt_sites s a) (stmt_sites s' a) h),
    )
    cancels_fit (While e s) a m n h = cancels_fit s a m n (after (expr_sites e a) (stmt_sites s a) h)
    cancels_fit (DoWhile s e) a m n h = cancels_fit s a m n (before (stmt_sites s a) (expr_sites e a) h)
    cancels_fit (For start e step s) a m n h =
        let a' = with_names (names_of_start start) a in
        cancels_fit s a' m (with_more (names_of_start start) a m n) (after (start_sites start a ++ sites_if_any expr_sites e a' ++ sites_if_any simple_sites step a') (stmt_sites s a') h)
    cancels_fit (Break at) a m n h = tt
    cancels_fit (Continue at) a m n h = tt
    cancels_fit (Return e at) a m n h = tt
    cancels_fit (Transaction kind ss at) a m n h =
        let a' = in_transaction kind a in
        all_cancels_fit ss a' (enclosed_in kind m) (in_kind kind a m at (before (kind_site kind a at) (stmts_sites ss a') h) n) (after (kind_site kind a at) (stmts_sites ss a') h)
    cancels_fit (Cancel at) a m n h =
        n.innermost ((h.each (record { construct = Cancels; span = at; atomic = a.atomic; outer = a.outer; in_any = a.in_any }) (0, omega arith, refl)).0.1 refl)
    cancels_fit (CancelOuter at) a m n h =
        n.in_outer ((h.each (record { construct = CancelsOuter; span = at; atomic = a.atomic; outer = a.outer; in_any = a.in_any }) (0, omega arith, refl)).1.1 refl)

    all_cancels_fit : (ss : Stmts) (a : Around) (m : Enclosing) → Encloses a m → AllKeep (stmts_sites ss a) → AllCancelsFit ss m
    all_cancels_fit Tree.[] a m n h = tt
    all_cancels_fit (Tree.◌∷◌ s ss) a m n h =
        let a' = with_names (names_of s) a in
        (cancels_fit s a m n (before (stmt_sites s a) (stmts_sites ss a') h), all_cancels_fit ss a' m (with_more (names_of s) a m n) (after (stmt_sites s a) (stmts_sites ss a') h))

  -- in a definition each cancel stands directly in an atomic transaction, and each outer cancel in an outer one
  abbrev pub CancelsAreFit : Type 0
  CancelsAreFit = (x : List ℕ) (d : Function × Stmts) → definition_of p x ≡ Some d → AllCancelsFit d.1 not_enclosed

  pub safe_cancels_fit : IsSafeProgram p → CancelsAreFit
  safe_cancels_fit safe x d e =
      all_cancels_fit d.1 (record { locals = parameter_names d.0.parameters; atomic = false; outer = false; in_any = false }) not_enclosed (record { innermost = λ f. absurd (cc); in_outer = λ f. absurd (cc) })
      (record {
        each = λ m c.
            let at = definition_sites p x d e m c in
            (All-contains (KeepsAtomic p) (sites_of p x) m (safe.atomic x) at, All-contains (KeepsOuter p) (sites_of p x) m (safe.outer x) at);
      })

-- that cancels fit has no more than one proof
part : {P Q : Type 0} → (P → Q) → ∥ P ∥₁ → ∥ Q ∥₁
part f h = ∥∥₁_elim h ∥∥₁_prop (λ x. ∣ f x ∣₁)

not_atomic : (m n : Option Mode) → m ≡ None → n ≡ Some Atomic → m ≡ n → ⊥
not_atomic m n a b e = cc

not_relaxed : (m n : Option Mode) → m ≡ Some Relaxed → n ≡ Some Atomic → m ≡ n → ⊥
not_relaxed m n a b e = cc

innermost_sure : (m : Option Mode) → ∥ m ≡ Some Atomic ∥₁ → m ≡ Some Atomic
innermost_sure None h = absurd (∥∥₁_elim h (λ x y. absurd x) (not_atomic None (Some Atomic) refl refl))
innermost_sure (Some Relaxed) h = absurd (∥∥₁_elim h (λ x y. absurd x) (not_relaxed (Some Relaxed) (Some Atomic) refl refl))
innermost_sure (Some Atomic) h = refl

outer_sure : (levels : Option ℕ) → ∥ IsInOuter levels ∥₁ → IsInOuter levels
outer_sure None h = ∥∥₁_elim h (λ x y. absurd x) (λ x. x)
outer_sure (Some n) h = tt

mutual
  fit_sure : (s : Stmt) (m : Enclosing) → ∥ CancelsFit s m ∥₁ → CancelsFit s m
  fit_sure Empty m h = tt
  fit_sure (Declare d) m h = tt
  fit_sure (Do s) m h = tt
  fit_sure (Block ss) m h = all_sure ss m h
  fit_sure (Print at format format_at es) m h = tt
  fit_sure (If e s) m h = fit_sure s m h
  fit_sure (IfElse e s s') m h = (fit_sure s m (part (λ x. x.0) h), fit_sure s' m (part (λ x. x.1) h))
  fit_sure (While e s) m h = fit_sure s m h
  fit_sure (DoWhile s e) m h = fit_sure s m h
  fit_sure (For start e step s) m h = fit_sure s m h
  fit_sure (Break at) m h = tt
  fit_sure (Continue at) m h = tt
  fit_sure (Return e at) m h = tt
  fit_sure (Transaction kind ss at) m h = all_sure ss (enclosed_in kind m) h
  fit_sure (Cancel at) m h = innermost_sure m.innermost h
  fit_sure (CancelOuter at) m h = outer_sure m.in_outer h

  all_sure : (ss : Stmts) (m : Enclosing) → ∥ AllCancelsFit ss m ∥₁ → AllCancelsFit ss m
  all_sure Tree.[] m h = tt
  all_sure (Tree.◌∷◌ s ss) m h = (fit_sure s m (part (λ x. x.0) h), all_sure ss m (part (λ x. x.1) h))

pub cancels_surely_fit : (p : Program) → ∥ IsSafeProgram p ∥₁ → CancelsAreFit p
cancels_surely_fit p h x d e = all_sure d.1 not_enclosed (part (λ safe. safe_cancels_fit p safe x d e) h)
