-- Parts of a tree one after another, and turns of a loop one after another.
use Rattle.std.proofs.Common.{◌≡◌, ℕ, zero, suc, ◌+◌, ◌<◌, ◌≤◌, List, [], ◌∷◌, ◌++◌, length, map, take, drop, get_or, Option, Some, None, option_map, Bool, true, false, refl, sym, ap, ◌∙◌, append_assoc}
use Rattle.std.specs.Prelude.{if◌then◌else◌}
use Rattle.std.proofs.lemmas.List.{at_drop_more, at_drop_all, length-map, append-nil}
use Rattle.syntax.specs.declared.tree.Expr as E
use Rattle.syntax.specs.declared.tree.Stmt as S
use Rattle.syntax.specs.declared.tree.Declarator as R
use Rattle.syntax.specs.declared.value.Value.{Value}
use Rattle.syntax.specs.declared.thread_end.Halt.{Halt}
use Rattle.syntax.specs.Numbers.{is_zero}
use Rattle.syntax.specs.Tree.{Program, Scalar, Expr, Stmt}
use Rattle.syntax.specs.Views.{expr_of, exprs_of, stmt_of, stmts_of, declarator_of}
use Rattle.syntax.specs.Names.{Local}
use Rattle.syntax.specs.Actions.{State, Answer, Gives, Stops, Action, pure, go_on, tick, ◌>>=◌}
use Rattle.syntax.specs.Meaning.{Caller, Completion, Next, expr, exprs, stmt, stmts, declare, in_scope, on_next, after_body, after_turn, turns}
use Rattle.meaning.specs.declared.source_thread.StmtCompletion.{StmtCompletion as OwnCompletion}
use Rattle.meaning.specs.declared.source_thread.StmtCompletion.TheVariants as end
use Rattle.meaning.specs.inner.SourceThread.{completion_of}
use Rattle.meaning.specs.inner.Does.{declared_one, joined_to, left_or, loop_condition, while_turn}

-- a part that gives something, and one that stops
pub after : {X Y : Type 0} (r : Answer X) (rest : X → Action Y) (x : X) (s : State) → r ≡ Gives x s → go_on r rest ≡ rest x s
after r rest x s e = ap (λ q. go_on q rest) e

pub halts : {X Y : Type 0} (r : Answer X) (rest : X → Action Y) (why : Halt) (s : State) → r ≡ Stops why s → go_on r rest ≡ Stops why s
halts r rest why s e = ap (λ q. go_on q rest) e

-- what goes on twice
pub twice : {X Y Z : Type 0} (r : Answer X) (f : X → Action Y) (rest : Y → Action Z) → go_on r (λ x. f x >>= rest) ≡ go_on (go_on r f) rest
twice (Gives x s) f rest = refl
twice (Stops why s) f rest = refl

-- an end that is not the next statement's
pub left_at : (rest : Action Completion) (e : OwnCompletion) (s : State) → (e ≡ end.Next → ⊥) → on_next rest (completion_of e) s ≡ Gives (completion_of e) s
left_at rest end.Next s differs = absurd (differs refl)
left_at rest e s differs = refl

joins : (us : List Value) (v : Value) (r : Answer (List Value)) → go_on (go_on r (λ vs. pure (v ∷ vs))) (joined_to us) ≡ go_on r (joined_to (us ++ v ∷ []))
joins us v (Gives vs s) = ap (λ xs. Gives xs s) (sym (append_assoc us (v ∷ []) vs))
joins us v (Stops why s) = refl

joined_nothing : (r : Answer (List Value)) → go_on r (joined_to []) ≡ r
joined_nothing (Gives vs now) = refl
joined_nothing (Stops why now) = refl

module _ {A : Type 0} (p : Program) (call : Caller) where
  -- the statements that are left
  pub stmts_more : (ss : List (S.Stmt A)) (i : ℕ) (x : S.Stmt A) (s : State) → i < length ss → x ≡ get_or ss i x →
      stmts p call (stmts_of (drop i ss)) s ≡ go_on (stmt p call (stmt_of x) s) (on_next (stmts p call (stmts_of (drop (i + 1) ss))))
  stmts_more ss i x s h is =
      at_drop_more (λ xs. stmts p call (stmts_of xs) s) ss i x h
      ∙ ap (λ y. go_on (stmt p call (stmt_of y) s) (on_next (stmts p call (stmts_of (drop (i + 1) ss))))) (sym is)

  pub stmts_next : (ss : List (S.Stmt A)) (i : ℕ) (x : S.Stmt A) (s now : State) (e : OwnCompletion) (whole : Answer Completion) → i < length ss → x ≡ get_or ss i x →
      stmts p call (stmts_of (drop i ss)) s ≡ whole → stmt p call (stmt_of x) s ≡ Gives (completion_of e) now → e ≡ end.Next → stmts p call (stmts_of (drop (i + 1) ss)) now ≡ whole
  stmts_next ss i x s now e whole h is inv d next =
      sym (stmts_more ss i x s h is ∙ after _ (on_next (stmts p call (stmts_of (drop (i + 1) ss)))) (completion_of e) now d ∙ ap (λ k. on_next (stmts p call (stmts_of (drop (i + 1) ss))) (completion_of k) now) next) ∙ inv

  pub stmts_left : (ss : List (S.Stmt A)) (i : ℕ) (x : S.Stmt A) (s now : State) (e : OwnCompletion) (whole : Answer Completion) → i < length ss → x ≡ get_or ss i x →
      stmts p call (stmts_of (drop i ss)) s ≡ whole → stmt p call (stmt_of x) s ≡ Gives (completion_of e) now → (e ≡ end.Next → ⊥) → whole ≡ Gives (completion_of e) now
  stmts_left ss i x s now e whole h is inv d differs =
      sym inv ∙ stmts_more ss i x s h is ∙ after _ (on_next (stmts p call (stmts_of (drop (i + 1) ss)))) (completion_of e) now d ∙ left_at (stmts p call (stmts_of (drop (i + 1) ss))) e now differs

  pub stmts_halt : (ss : List (S.Stmt A)) (i : ℕ) (x : S.Stmt A) (s now : State) (why : Halt) (whole : Answer Completion) → i < length ss → x ≡ get_or ss i x →
      stmts p call (stmts_of (drop i ss)) s ≡ whole → stmt p call (stmt_of x) s ≡ Stops why now → whole ≡ Stops why now
  stmts_halt ss i x s now why whole h is inv d =
      sym inv ∙ stmts_more ss i x s h is ∙ halts _ (on_next (stmts p call (stmts_of (drop (i + 1) ss)))) why now d

  pub stmts_end : (ss : List (S.Stmt A)) (i : ℕ) (s : State) (whole : Answer Completion) → length ss ≤ i → stmts p call (stmts_of (drop i ss)) s ≡ whole → whole ≡ Gives Next s
  stmts_end ss i s whole h inv = sym inv ∙ at_drop_all (λ xs. stmts p call (stmts_of xs) s) ss i h

  -- the arguments that are left
  exprs_more : (es : List (E.Expr A)) (i : ℕ) (x : E.Expr A) (s : State) → i < length es → x ≡ get_or es i x →
      exprs p call (exprs_of (drop i es)) s ≡ go_on (expr p call (expr_of x) s) (λ v. exprs p call (exprs_of (drop (i + 1) es)) >>= (λ vs. pure (v ∷ vs)))
  exprs_more es i x s h is =
      at_drop_more (λ xs. exprs p call (exprs_of xs) s) es i x h
      ∙ ap (λ y. go_on (expr p call (expr_of y) s) (λ v. exprs p call (exprs_of (drop (i + 1) es)) >>= (λ vs. pure (v ∷ vs)))) (sym is)

  pub values_next : (es : List (E.Expr A)) (i : ℕ) (x : E.Expr A) (s now : State) (us vs : List Value) (v : Value) (whole : Answer (List Value)) → i < length es → x ≡ get_or es i x →
      go_on (exprs p call (exprs_of (drop i es)) s) (joined_to us) ≡ whole → expr p call (expr_of x) s ≡ Gives v now → vs ≡ us ++ v ∷ [] →
      go_on (exprs p call (exprs_of (drop (i + 1) es)) now) (joined_to vs) ≡ whole
  values_next es i x s now us vs v whole h is inv d grown =
      ap (λ xs. go_on (exprs p call (exprs_of (drop (i + 1) es)) now) (joined_to xs)) grown
      ∙ sym (joins us v (exprs p call (exprs_of (drop (i + 1) es)) now))
      ∙ sym (ap (λ r. go_on r (joined_to us)) (exprs_more es i x s h is ∙ after _ (λ w. exprs p call (exprs_of (drop (i + 1) es)) >>= (λ ws. pure (w ∷ ws))) v now d))
      ∙ inv

  pub values_halt : (es : List (E.Expr A)) (i : ℕ) (x : E.Expr A) (s now : State) (us : List Value) (why : Halt) (whole : Answer (List Value)) → i < length es → x ≡ get_or es i x →
      go_on (exprs p call (exprs_of (drop i es)) s) (joined_to us) ≡ whole → expr p call (expr_of x) s ≡ Stops why now → whole ≡ Stops why now
  values_halt es i x s now us why whole h is inv d =
      sym inv ∙ ap (λ r. go_on r (joined_to us)) (exprs_more es i x s h is ∙ halts _ (λ w. exprs p call (exprs_of (drop (i + 1) es)) >>= (λ ws. pure (w ∷ ws))) why now d)

  pub values_end : (es : List (E.Expr A)) (i : ℕ) (s : State) (us : List Value) (whole : Answer (List Value)) → length es ≤ i →
      go_on (exprs p call (exprs_of (drop i es)) s) (joined_to us) ≡ whole → whole ≡ Gives us s
  values_end es i s us whole h inv =
      sym inv ∙ at_drop_all (λ xs. go_on (exprs p call (exprs_of xs) s) (joined_to us)) es i h ∙ ap (λ xs. Gives xs s) (append-nil us)

  pub values_start : (es : List (E.Expr A)) (s : State) → go_on (exprs p call (exprs_of es) s) (joined_to []) ≡ exprs p call (exprs_of es) s
  values_start es s = joined_nothing (exprs p call (exprs_of es) s)

  -- the declarators that are left
  declare_more : (t : Scalar) (ds : List (R.Declarator A)) (i : ℕ) (x : R.Declarator A) (s : State) → i < length ds → x ≡ get_or ds i x →
      declare p call t (map declarator_of (drop i ds)) s ≡ go_on (declared_one p call t (declarator_of x) s) (λ _. declare p call t (map declarator_of (drop (i + 1) ds)))
  declare_more t ds i x s h is =
      at_drop_more (λ xs. declare p call t (map declarator_of xs) s) ds i x h
      ∙ ap (λ y. go_on (declared_one p call t (declarator_of y) s) (λ _. declare p call t (map declarator_of (drop (i + 1) ds)))) (sym is)

  pub declare_next : (t : Scalar) (ds : List (R.Declarator A)) (i : ℕ) (x : R.Declarator A) (s now : State) (u : Unit {0}) (whole : Answer Completion) → i < length ds → x ≡ get_or ds i x →
      declare p call t (map declarator_of (drop i ds)) s ≡ whole → declared_one p call t (declarator_of x) s ≡ Gives u now →
      declare p call t (map declarator_of (drop (i + 1) ds)) now ≡ whole
  declare_next t ds i x s now u whole h is inv d =
      sym (declare_more t ds i x s h is ∙ after _ (λ _. declare p call t (map declarator_of (drop (i + 1) ds))) u now d) ∙ inv

  pub declare_halt : (t : Scalar) (ds : List (R.Declarator A)) (i : ℕ) (x : R.Declarator A) (s now : State) (why : Halt) (whole : Answer Completion) → i < length ds → x ≡ get_or ds i x →
      declare p call t (map declarator_of (drop i ds)) s ≡ whole → declared_one p call t (declarator_of x) s ≡ Stops why now → whole ≡ Stops why now
  declare_halt t ds i x s now why whole h is inv d =
      sym inv ∙ declare_more t ds i x s h is ∙ halts _ (λ _. declare p call t (map declarator_of (drop (i + 1) ds))) why now d

-- a stretch that gives something drops the names behind those of before
pub scoped_gives : (run : Action Completion) (s now : State) (e : Completion) (ls : List Local) → run s ≡ Gives e now → take (length s.locals) now.locals ≡ ls → in_scope run s ≡ Gives e (record now { locals = ls })
scoped_gives run s now e ls h k =
    ap (λ q. go_on q (λ end now. Gives end (record now { locals = take (length s.locals) now.locals }))) h ∙ ap (λ ks. Gives e (record now { locals = ks })) k

pub scoped_stops : (run : Action Completion) (s now : State) (why : Halt) → run s ≡ Stops why now → in_scope run s ≡ Stops why now
scoped_stops run s now why h = ap (λ q. go_on q (λ end now. Gives end (record now { locals = take (length s.locals) now.locals }))) h

take_map : {X Y : Type 0} (f : X → Y) (n : ℕ) (xs : List X) → take n (map f xs) ≡ map f (take n xs)
take_map f zero xs = refl
take_map f (suc n) [] = refl
take_map f (suc n) (x ∷ xs) = ap (λ ys. f x ∷ ys) (take_map f n xs)

pub truncated : {X Y : Type 0} (f : X → Y) (xs ys zs : List X) (n : ℕ) → n ≡ length xs → zs ≡ take n ys → take (length (map f xs)) (map f ys) ≡ map f zs
truncated f xs ys zs n e k = ap (λ i. take i (map f ys)) (length-map xs f ∙ sym e) ∙ take_map f n ys ∙ ap (map f) (sym k)

-- turns of a loop: what is left of them, after a tick
module _ (turn : Action (Option Completion)) (n k : ℕ) (s now : State) (whole : Answer Completion) where
  next_turn : turns n turn s ≡ whole → n ≡ suc k → whole ≡ go_on (tick s) (λ _. turn >>= after_turn (turns k turn))
  next_turn inv more = sym inv ∙ ap (λ i. turns i turn s) more

  pub turns_spent : (why : Halt) → turns n turn s ≡ whole → n ≡ suc k → tick s ≡ Stops why now → whole ≡ Stops why now
  turns_spent why inv more t = next_turn inv more ∙ halts _ (λ _. turn >>= after_turn (turns k turn)) why now t

  module _ (u : Unit {0}) (then_ : State) (inv : turns n turn s ≡ whole) (more : n ≡ suc k) (t : tick s ≡ Gives u then_) where
    ticked : whole ≡ go_on (turn then_) (after_turn (turns k turn))
    ticked = next_turn inv more ∙ after _ (λ _. turn >>= after_turn (turns k turn)) u then_ t

    pub turns_next : (o : Option OwnCompletion) → turn then_ ≡ Gives (option_map completion_of o) now → o ≡ None → turns k turn now ≡ whole
    turns_next o d none = sym (ticked ∙ after _ (after_turn (turns k turn)) (option_map completion_of o) now d ∙ ap (λ x. after_turn (turns k turn) (option_map completion_of x) now) none)

    pub turns_ended : (o : Option OwnCompletion) (e : OwnCompletion) → turn then_ ≡ Gives (option_map completion_of o) now → o ≡ Some e → whole ≡ Gives (completion_of e) now
    turns_ended o e d some = ticked ∙ after _ (after_turn (turns k turn)) (option_map completion_of o) now d ∙ ap (λ x. after_turn (turns k turn) (option_map completion_of x) now) some

-- a test before a body: it ends the loop, or the body runs
abbrev or_body : Action (Option Completion) → Option Completion → Action (Option Completion)
or_body body None = body
or_body body (Some e) = pure (Some e)

tested_here : (body : Action (Option Completion)) (z : Bool) (s : State) → (if z then pure (Some Next) else body) s ≡ or_body body (if z then Some Next else None) s
tested_here body true s = refl
tested_here body false s = refl

tested_first : (body : Action (Option Completion)) (r : Answer Value) → go_on r (λ v. if is_zero v then pure (Some Next) else body) ≡ go_on (go_on r (λ v. pure (if is_zero v then Some Next else None))) (or_body body)
tested_first body (Gives v s) = tested_here body (is_zero v) s
tested_first body (Stops why s) = refl

left_behind : (o : Option OwnCompletion) (s : State) → left_or (pure None) o s ≡ Gives (option_map completion_of o) s
left_behind None s = refl
left_behind (Some e) s = refl

module _ (p : Program) (call : Caller) (c : Expr) (a : Stmt) (s now : State) where
  abbrev body_turn : Action (Option Completion)
  body_turn = in_scope (stmt p call a) >>= after_body (pure None)

  pub while_stops : (why : Halt) → loop_condition p call c s ≡ Stops why now → while_turn p call c a s ≡ Stops why now
  while_stops why d = tested_first body_turn (expr p call c s) ∙ halts (loop_condition p call c s) (or_body body_turn) why now d

  while_tested : (o : Option OwnCompletion) → loop_condition p call c s ≡ Gives (option_map completion_of o) now → while_turn p call c a s ≡ or_body body_turn (option_map completion_of o) now
  while_tested o d = tested_first body_turn (expr p call c s) ∙ after (loop_condition p call c s) (or_body body_turn) (option_map completion_of o) now d

  module _ (o : Option OwnCompletion) (d : loop_condition p call c s ≡ Gives (option_map completion_of o) now) where
    pub while_ends : (e : OwnCompletion) → o ≡ Some e → while_turn p call c a s ≡ Gives (Some (completion_of e)) now
    while_ends e some = while_tested o d ∙ ap (λ x. or_body body_turn (option_map completion_of x) now) some

    module _ (then_ : State) (none : o ≡ None) where
      while_runs : while_turn p call c a s ≡ body_turn now
      while_runs = while_tested o d ∙ ap (λ x. or_body body_turn (option_map completion_of x) now) none

      pub while_halts : (why : Halt) → in_scope (stmt p call a) now ≡ Stops why then_ → while_turn p call c a s ≡ Stops why then_
      while_halts why h = while_runs ∙ halts (in_scope (stmt p call a) now) (after_body (pure None)) why then_ h

      pub while_goes : (e : OwnCompletion) (r : Option OwnCompletion) → in_scope (stmt p call a) now ≡ Gives (completion_of e) then_ → after_body (pure None) (completion_of e) then_ ≡ left_or (pure None) r then_ →
          while_turn p call c a s ≡ Gives (option_map completion_of r) then_
      while_goes e r h left =
          while_runs ∙ after (in_scope (stmt p call a) now) (after_body (pure None)) (completion_of e) then_ h ∙ left ∙ left_behind r then_
