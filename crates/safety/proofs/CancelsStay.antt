-- In a safe program no cancel and no outer cancel leaves the body that it stands in.
use Rattle.std.proofs.Common.{◌≡◌, ◌≢◌, refl, sym, ap, subst, ℕ, List, [], ◌∷◌, ◌++◌, arith, Option, Some, None, Bool, true, false, IsTrue}
use Rattle.std.specs.Prelude.{if◌then◌else◌, bytes_eq, Contains, unwrap_or}
use Rattle.std.proofs.lemmas.List.Elements.{All-contains, Contains-append_left, Contains-append_right}
use Rattle.syntax.specs.declared.tree.{Mode.TheVariants.Atomic, Mode.TheVariants.Relaxed, TransactionKind.TheVariants.Plain, TransactionKind.TheVariants.Outer}
use Rattle.syntax.specs.Tree as Tree
use Rattle.syntax.specs.Tree.{Stmt, Stmts, Empty, Declare, Do, Block, Print, If, IfElse, While, DoWhile, For, Break, Continue, Return, Transaction, Cancel, CancelOuter, Function, Defines, Shares, Program}
use Rattle.syntax.specs.Names.{definition_or, definition_of}
use Rattle.syntax.specs.Typing.{names_of, parameter_names}
use Rattle.syntax.specs.Actions.{Answer, Gives, Stops}
use Rattle.syntax.specs.Meaning.{Completion, Next, Breaks, Continues, Returns, Cancels as CancelEnd, CancelsOuter as OuterEnd, stmts, calls}
use Rattle.syntax.specs.Laws.{WhereGiven}
use Rattle.syntax.proofs.locals.Ends.{Fits, JumpsFit, AllJumpsFit, stmts_end}
use Rattle.safety.specs.Sites.{Cancels, CancelsOuter, Site, Around, with_names, in_transaction, kind_site, expr_sites, simple_sites, sites_if_any, start_sites, names_of_start, stmt_sites, stmts_sites, body_sites, sites_of}
use Rattle.safety.specs.Safe.{KeepsAtomic, KeepsOuter}
use Rattle.safety.specs.Laws.{CancelsStay}

-- the sites of a definition are sites of its name
some_is : (a b : Function × Stmts) → Some a ≡ Some b → a ≡ b
some_is a b e = ap (λ o. unwrap_or o a) e

pub definition_sites : (p : Program) (x : List ℕ) (d : Function × Stmts) → definition_of p x ≡ Some d → (m : Site) → Contains (body_sites d.0.parameters (Some d.1)) m → Contains (sites_of p x) m
definition_sites [] x d e m c = absurd (cc)
definition_sites (Shares gs ∷ items) x d e m c = definition_sites items x d e m c
definition_sites (Defines f ∷ items) x d e m c = here f.body e (λ g. definition_sites items x d g m c)
  where
    by_name : (b : Stmts) (same : Bool) → (if same then Some (f, b) else definition_of items x) ≡ Some d → (definition_of items x ≡ Some d → Contains (sites_of items x) m) → Contains ((if same then body_sites f.parameters (Some b) else []) ++ sites_of items x) m
    by_name b true g others =
        Contains-append_left (body_sites f.parameters (Some b)) (sites_of items x) m
        (subst (λ d. Contains (body_sites d.0.parameters (Some d.1)) m) (sym (some_is (f, b) d g)) c)
    by_name b false g others = others g

    no_body : (same : Bool) → Contains (sites_of items x) m → Contains ((if same then body_sites f.parameters None else []) ++ sites_of items x) m
    no_body true h = h
    no_body false h = h

    here : (body : Option Stmts) → definition_or f x body (definition_of items x) ≡ Some d → (definition_of items x ≡ Some d → Contains (sites_of items x) m) → Contains ((if bytes_eq f.name.text x then body_sites f.parameters body else []) ++ sites_of items x) m
    here None g others = no_body (bytes_eq f.name.text x) (others g)
    here (Some b) g others = by_name b (bytes_eq f.name.text x) g others

-- in a transaction what fits outside fits too
mutual
  looser : (s : Stmt) (l c o : Bool) → JumpsFit s l c o → JumpsFit s l true o
  looser Empty l c o h = tt
  looser (Declare d) l c o h = tt
  looser (Do s) l c o h = tt
  looser (Block ss) l c o h = all_looser ss l c o h
  looser (Print at format format_at es) l c o h = tt
  looser (If e a) l c o h = looser a l c o h
  looser (IfElse e a b) l c o h = (looser a l c o h.0, looser b l c o h.1)
  looser (While e a) l c o h = looser a true c o h
  looser (DoWhile a e) l c o h = looser a true c o h
  looser (For start e step a) l c o h = looser a true c o h
  looser (Break at) l c o h = h
  looser (Continue at) l c o h = h
  looser (Return e at) l c o h = tt
  looser (Transaction kind ss at) l c o h = h
  looser (Cancel at) l c o h = refl
  looser (CancelOuter at) l c o h = h

  all_looser : (ss : Stmts) (l c o : Bool) → AllJumpsFit ss l c o → AllJumpsFit ss l true o
  all_looser Tree.[] l c o h = tt
  all_looser (Tree.◌∷◌ s ss) l c o h = (looser s l c o h.0, all_looser ss l c o h.1)

-- a cancel among these sites stands in an atomic transaction, and an outer cancel in an outer one
record CancelsInside (ms : List Site) : Type 0 where
  each : (m : Site) → Contains ms m → m.construct ≡ Cancels → IsTrue m.atomic
  outer : (m : Site) → Contains ms m → m.construct ≡ CancelsOuter → IsTrue m.outer

front : (ms os : List Site) → CancelsInside (ms ++ os) → CancelsInside ms
front ms os h = record { each = λ m c. h.each m (Contains-append_left ms os m c); outer = λ m c. h.outer m (Contains-append_left ms os m c) }

back : (ms os : List Site) → CancelsInside (ms ++ os) → CancelsInside os
back ms os h = record { each = λ m c. h.each m (Contains-append_right ms os m c); outer = λ m c. h.outer m (Contains-append_right ms os m c) }

mutual
  cancels_fit : (s : Stmt) (a : Around) → CancelsInside (stmt_sites s a) → JumpsFit s true a.atomic a.outer
  cancels_fit Empty a h = tt
  cancels_fit (Declare d) a h = tt
  cancels_fit (Do s) a h = tt
  cancels_fit (Block ss) a h = all_cancels_fit ss a h
  cancels_fit (Print at format format_at es) a h = tt
  cancels_fit (If e s) a h = cancels_fit s a (back (expr_sites e a) (stmt_sites s a) h)
  cancels_fit (IfElse e s s') a h = (
    cancels_fit s a (back (expr_sites e a) (stmt_sites s a) (front (expr_sites e a ++ stmt_sites s a) (stmt_sites s' a) h)),
    cancels_fit s' a (back (expr_sites e a ++ stmt_sites s a) (stmt_sites s' a) h),
  )
  cancels_fit (While e s) a h = cancels_fit s a (back (expr_sites e a) (stmt_sites s a) h)
  cancels_fit (DoWhile s e) a h = cancels_fit s a (front (stmt_sites s a) (expr_sites e a) h)
  cancels_fit (For start e step s) a h =
      let a' = with_names (names_of_start start) a in
      cancels_fit s a' (back (start_sites start a ++ sites_if_any expr_sites e a' ++ sites_if_any simple_sites step a') (stmt_sites s a') h)
  cancels_fit (Break at) a h = refl
  cancels_fit (Continue at) a h = refl
  cancels_fit (Return e at) a h = tt
  cancels_fit (Transaction (Plain Atomic) ss at) a h = all_cancels_fit ss (in_transaction (Plain Atomic) a) h
  cancels_fit (Transaction (Plain Relaxed) ss at) a h =
      let a' = in_transaction (Plain Relaxed) a in
      all_looser ss true a.atomic a.outer (all_cancels_fit ss a' (back (kind_site (Plain Relaxed) a at) (stmts_sites ss a') h))
  cancels_fit (Transaction Outer ss at) a h =
      let a' = in_transaction Outer a in
      all_cancels_fit ss a' (back (kind_site Outer a at) (stmts_sites ss a') h)
  cancels_fit (Cancel at) a h = h.each (record { construct = Cancels; span = at; atomic = a.atomic; outer = a.outer; in_any = a.in_any }) (0, omega arith, refl) refl
  cancels_fit (CancelOuter at) a h = h.outer (record { construct = CancelsOuter; span = at; atomic = a.atomic; outer = a.outer; in_any = a.in_any }) (0, omega arith, refl) refl

  all_cancels_fit : (ss : Stmts) (a : Around) → CancelsInside (stmts_sites ss a) → AllJumpsFit ss true a.atomic a.outer
  all_cancels_fit Tree.[] a h = tt
  all_cancels_fit (Tree.◌∷◌ s ss) a h =
      let a' = with_names (names_of s) a in
      (cancels_fit s a (front (stmt_sites s a) (stmts_sites ss a') h), all_cancels_fit ss a' (back (stmt_sites s a) (stmts_sites ss a') h))

no_cancel : (end : Completion) → Fits true false false end → (end ≢ CancelEnd) × (end ≢ OuterEnd)
no_cancel Next h = (λ e. cc, λ e. cc)
no_cancel Breaks h = (λ e. cc, λ e. cc)
no_cancel Continues h = (λ e. cc, λ e. cc)
no_cancel (Returns v) h = (λ e. cc, λ e. cc)
no_cancel CancelEnd h = (λ e. cc, λ e. cc)
no_cancel OuterEnd h = (λ e. cc, λ e. cc)

pub cancels_stay : CancelsStay
cancels_stay p safe x d e frames s = stays (stmts p (calls p frames) d.1 s) ((stmts_end p (calls p frames) d.1 true false false (all_cancels_fit d.1 (record { locals = parameter_names d.0.parameters; atomic = false; outer = false; in_any = false }) inside)).ends s)
  where
    inside : CancelsInside (body_sites d.0.parameters (Some d.1))
    inside = record {
      each = λ m c k. (All-contains (KeepsAtomic p) (sites_of p x) m (safe.atomic x) (definition_sites p x d e m c)).1 k;
      outer = λ m c k. (All-contains (KeepsOuter p) (sites_of p x) m (safe.outer x) (definition_sites p x d e m c)).1 k;
    }

    stays : (r : Answer Completion) → WhereGiven r (λ end now. Fits true false false end) → WhereGiven r (λ end now. (end ≢ CancelEnd) × (end ≢ OuterEnd))
    stays (Gives end now) f = no_cancel end f
    stays (Stops why now) f = tt
