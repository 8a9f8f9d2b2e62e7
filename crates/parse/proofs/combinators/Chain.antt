-- A chain of operators that group to the left is read exactly, where its operands are.
use Rattle.std.proofs.Common.{◌≡◌, ℕ, zero, suc, ◌+◌, ◌-◌, ◌<◌, ◌≤◌, Bool, true, false, cond, max, List, [], ◌∷◌, ◌++◌, Option, Some, None, Result, Ok, Err, refl, sym, ap, subst, ◌∙◌, append_assoc, arith, inl, inr, nat_le}
use Rattle.std.proofs.lemmas.Bool.{cases_lt, le-leb, leb-true, leb-false}
use Rattle.std.proofs.lemmas.List.{append-nil}
use Rattle.lex.specs.Tokens.{Tok}
use Rattle.syntax.specs.Phrases.{Phrase, Begins}
use Rattle.parse.specs.inner.Reading.{Fault, wrong, deep, ◌>>=◌, Parser, head, Operators, at_least, after_op, next_op, op_at, climb_loop}
use Rattle.parse.proofs.combinators.Exact.{head_append, Nonempty, Reads, Refuses, FailsTooDeep, Exact, bind_ok, bind_err, ok_pair, err_is}
use Rattle.parse.proofs.code.Climbing.{loop_none, loop_deep, loop_full, loop_turn}

-- an expression of a chain: its operator, and what stands on both sides
pub record Split {E Op : Type 0} (ops : Operators E Op) (L : E → Phrase) (level : E → ℕ) (e : E) (p : List Tok) : Type 0 where
  pub op : Op
  pub left : E
  pub right : E
  pub token : Tok
  pub before : List Tok
  pub after : List Tok
  pub same : e ≡ ops.node op left right
  pub has : ops.the token ≡ Some op
  pub first : L left before
  pub second : L right after
  pub loose : ops.precedence op ≤ level left
  pub tight : ops.precedence op < level right
  pub whole : p ≡ before ++ token ∷ after

-- floor: the loosest level of a chain. top: the level of its operands. Calm: what may follow an expression, operators aside.
module _ {E Op : Type 0} (ops : Operators E Op) (L : E → Phrase) (level : E → ℕ) (floor top : ℕ) (Calm : E → Option Tok → Type 0)
    (climb_at : ℕ → ℕ → Parser E) (first : ℕ → Parser E)
    (start : (D b m : ℕ) (ts : List Tok) → floor ≤ m → b + 1 ≡ D → climb_at D m ts ≡ (first b ts >>= λ x. climb_loop ops (climb_at b) m D D x.0 x.1))
    (under : (op : Op) → ops.precedence op < top)
    (over : (op : Op) → floor ≤ ops.precedence op)
    (level_of : (op : Op) (a b : E) → level (ops.node op a b) ≡ ops.precedence op)
    (depth_of : (op : Op) (a b : E) → ops.depth (ops.node op a b) ≡ suc (max (ops.depth a) (ops.depth b)))
    (joined : (op : Op) (a b : E) (t : Tok) (pa pb : List Tok) → ops.the t ≡ Some op → L a pa → L b pb → ops.precedence op ≤ level a → ops.precedence op < level b → L (ops.node op a b) (pa ++ (t ∷ pb)))
    (split : (e : E) (p : List Tok) → L e p → floor ≤ level e → level e < top → Split ops L level e p)
    (some : Begins (λ e p. L e p × (top ≤ level e)) [])
    (calm_over : (op : Op) (a b : E) (h : Option Tok) → Calm b h → Calm (ops.node op a b) h)
    (calm_right : (op : Op) (a b : E) (h : Option Tok) → Calm (ops.node op a b) h → Calm b h)
    (calm_op : (a : E) (t : Tok) (op : Op) → ops.the t ≡ Some op → Calm a (Some t)) where
  -- an expression of at least this level
  abbrev pub Level : ℕ → E → List Tok → Type 0
  Level m e p = L e p × (m ≤ level e)

  abbrev pub Fits : ℕ → E → Type 0
  Fits d e = ops.depth e ≤ d

  -- no operator follows that binds so tightly
  abbrev pub Stops : ℕ → E → Option Tok → Type 0
  Stops m e h = (op_at ops m h ≡ None) × Calm e h

  pub next_none : (m : ℕ) (ts : List Tok) → op_at ops m (head ts) ≡ None → next_op ops m ts ≡ None
  next_none m [] e = refl
  next_none m (t ∷ ts) e = ap (after_op ops ts) e

  after_some : (ts : List Tok) (o : Option Op) (x : Op × List Tok) → after_op ops ts o ≡ Some x → (o ≡ Some x.0) × (ts ≡ x.1)
  after_some ts (Some op) x e =
      let whole : ◌≡◌ {A = Op × List Tok} (op, ts) x = cc in
      (ap (λ (y : Op × List Tok). Some y.0) whole, ap (λ (y : Op × List Tok). y.1) whole)
  after_some ts None x e = absurd cc

  least_some : (m : ℕ) (o : Option Op) (op : Op) → at_least ops m o ≡ Some op → (o ≡ Some op) × (m ≤ ops.precedence op)
  least_some m (Some q) op e = go (nat_le m (ops.precedence q)) refl e
    where
      go : (b : Bool) → nat_le m (ops.precedence q) ≡ b → cond b (Some q) None ≡ Some op → (◌≡◌ {A = Option Op} (Some q) (Some op)) × (m ≤ ops.precedence op)
      go true is h = (h, let same : q ≡ op = cc in subst (λ (o : Op). m ≤ ops.precedence o) same (leb-true m (ops.precedence q) is))
      go false is h = absurd cc
  least_some m None op e = absurd cc

  -- what stands at the front of a list with an operator there
  pub record Operator (m : ℕ) (ts : List Tok) (x : Op × List Tok) : Type 0 where
    pub token : Tok
    pub whole : ts ≡ token ∷ x.1
    pub has : ops.the token ≡ Some x.0
    pub tight : m ≤ ops.precedence x.0

  pub next_some : (m : ℕ) (ts : List Tok) (x : Op × List Tok) → next_op ops m ts ≡ Some x → Operator m ts x
  next_some m [] x e = absurd cc
  next_some m (t ∷ ts) x e =
      let a = after_some ts (at_least ops m (ops.the t)) x e in
      let l = least_some m (ops.the t) x.0 a.0 in
      record { token = t; whole = ap (λ (z : List Tok). t ∷ z) a.1; has = l.0; tight = l.1 }

  -- no operator follows that binds more tightly than this one
  pub none_below : (m : ℕ) (op : Op) → at_least ops m (Some op) ≡ None → ops.precedence op < m
  none_below m op e = go (nat_le m (ops.precedence op)) refl e
    where
      go : (b : Bool) → nat_le m (ops.precedence op) ≡ b → cond b (Some op) None ≡ None → ops.precedence op < m
      go true is h = absurd cc
      go false is h = leb-false m (ops.precedence op) is

  pub below_none : (m : ℕ) (o : Option Op) (op : Op) → o ≡ Some op → ops.precedence op < m → at_least ops m o ≡ None
  below_none m o op e lt = rw e (go (nat_le m (ops.precedence op)) refl)
    where
      go : (b : Bool) → nat_le m (ops.precedence op) ≡ b → cond b (Some op) None ≡ None
      go true is = absurd (let le = leb-true m (ops.precedence op) is in omega arith)
      go false is = refl

  pub some_here : (m : ℕ) (t : Tok) (ts : List Tok) (op : Op) → ops.the t ≡ Some op → m ≤ ops.precedence op → next_op ops m (t ∷ ts) ≡ Some (op, ts)
  some_here m t ts op e le = rw (e, le-leb m (ops.precedence op) le) refl

  -- ---- a loop that ends

  module _ (d m : ℕ) where
    pub record Looped (left : E) (pl ts : List Tok) (x : E) (r : List Tok) : Type 0 where
      pub front : List Tok
      pub whole : ts ≡ front ++ r
      pub spelled : L x (pl ++ front)
      pub high : m ≤ level x
      pub within : ops.depth x ≤ suc d
      pub closed : Stops m x (head r)
      pub stable : (D N : ℕ) (s : List Tok) → d ≤ D → suc D ≤ N + ops.depth left → head r ≡ head s → climb_loop ops (climb_at D) m (suc D) N left (front ++ s) ≡ Ok (x, s)

  module _ (d m : ℕ) where
    pub record Stopped (left : E) (pl ts r : List Tok) : Type 0 where
      pub front : List Tok
      pub whole : ts ≡ front ++ r
      pub begins : Begins (Level m) (pl ++ front)
      pub stable : (D N : ℕ) (s : List Tok) → d ≤ D → suc D ≤ N + ops.depth left → head r ≡ head s → climb_loop ops (climb_at D) m (suc D) N left (front ++ s) ≡ Err (wrong s)

    pub record LoopTooDeep (left : E) (pl ts r : List Tok) : Type 0 where
      pub front : List Tok
      pub whole : ts ≡ front ++ r
      pub at : Tok
      pub after : List Tok
      pub here : r ≡ at ∷ after
      pub begins : Begins (Level m) (pl ++ (front ++ at ∷ []))
      pub stable : (N : ℕ) (s : List Tok) → suc d ≤ N + ops.depth left → head r ≡ head s → climb_loop ops (climb_at d) m (suc d) N left (front ++ s) ≡ Err (deep s)

  pub some_begins : (k : ℕ) → k ≤ top → Begins (Level k) []
  some_begins k le = let high : top ≤ level some.value = some.spelled.1 in record { value = some.value; more = some.more; spelled = (some.spelled.0, omega arith) }

  no_both : {A : Type 0} (r : Result A Fault) (x : A) (f : Fault) → r ≡ Ok x → r ≡ Err f → ⊥
  no_both r x f p q = cc

  none_at : (m : ℕ) (ts : List Tok) → next_op ops m ts ≡ None → op_at ops m (head ts) ≡ None
  none_at m [] e = refl
  none_at m (t ∷ ts) e = go (at_least ops m (ops.the t)) e
    where
      go : (o : Option Op) → after_op ops ts o ≡ None → o ≡ None
      go None h = refl
      go (Some op) h = absurd cc

  module _ (d m : ℕ) (EB : (op : Op) → Exact (λ D. climb_at D (suc (ops.precedence op))) (Level (suc (ops.precedence op))) Fits (Stops (suc (ops.precedence op))) (Stops (suc (ops.precedence op))) d) where
    -- what holds of a left side so far
    pub record Left (n : ℕ) (left : E) (pl ts : List Tok) : Type 0 where
      pub spelled : L left pl
      pub high : m ≤ level left
      pub within : ops.depth left ≤ suc d
      pub tight : op_at ops (suc (level left)) (head ts) ≡ None
      pub calm : Calm left (head ts)
      pub fuel : suc d ≤ n + ops.depth left

    loose : (n : ℕ) (left : E) (pl ts : List Tok) (y : Op × List Tok) → Left n left pl ts → Operator m ts y → ops.precedence y.0 ≤ level left
    loose n left pl ts y K O =
        let at : at_least ops (suc (level left)) (Some y.0) ≡ None = subst (λ (o : Option Op). at_least ops (suc (level left)) o ≡ None) O.has (subst (λ (z : List Tok). op_at ops (suc (level left)) (head z) ≡ None) O.whole K.tight) in
        let lt = none_below (suc (level left)) y.0 at in
        omega arith

    -- the left side after one more operand
    next_left : (n : ℕ) (left b : E) (pl ts r : List Tok) (y : Op × List Tok) (K : Left (suc n) left pl ts) (O : Operator m ts y) (lt : ops.depth left < suc d) (RB : Reads (λ D. climb_at D (suc (ops.precedence y.0))) (Level (suc (ops.precedence y.0))) Fits (Stops (suc (ops.precedence y.0))) d y.1 b r)
        → Left n (ops.node y.0 left b) (pl ++ (O.token ∷ RB.front)) r
    next_left n left b pl ts r y K O lt RB = record {
      spelled = joined y.0 left b O.token pl RB.front O.has K.spelled RB.spelled.0 (loose (suc n) left pl ts y K O) (let h = RB.spelled.1 in omega arith);
      high = let is = level_of y.0 left b in let t = O.tight in omega arith;
      within = let w = RB.within in let is = depth_of y.0 left b in omega arith;
      tight = subst (λ (n : ℕ). op_at ops (suc n) (head r) ≡ None) (sym (level_of y.0 left b)) RB.closed.0;
      calm = calm_over y.0 left b (head r) RB.closed.1;
      fuel = let f = K.fuel in let is = depth_of y.0 left b in omega arith;
    }

    -- a turn that is made again over other tokens
    turn_again : (D N : ℕ) (left b : E) (t : Tok) (op : Op) (fb fi s : List Tok) → ops.the t ≡ Some op → m ≤ ops.precedence op → ops.depth left < suc D → suc D ≤ N + ops.depth left → climb_at D (suc (ops.precedence op)) (fb ++ (fi ++ s)) ≡ Ok (b, fi ++ s)
        → climb_loop ops (climb_at D) m (suc D) N left ((t ∷ (fb ++ fi)) ++ s) ≡ climb_loop ops (climb_at D) m (suc D) (N - 1) (ops.node op left b) (fi ++ s)
    turn_again D N left b t op fb fi s has le lt fuel e =
        let k : N ≡ suc (N - 1) = omega arith in
        loop_turn ops (climb_at D) m (suc D) N (N - 1) left ((t ∷ (fb ++ fi)) ++ s) (op, (fb ++ fi) ++ s) k (some_here m t ((fb ++ fi) ++ s) op has le) lt
        ∙ rw (append_assoc fb fi s, e) refl

    turn_not : (D N : ℕ) (left : E) (t : Tok) (op : Op) (ts : List Tok) (f : Fault) → ops.the t ≡ Some op → m ≤ ops.precedence op → ops.depth left < suc D → suc D ≤ N + ops.depth left → climb_at D (suc (ops.precedence op)) ts ≡ Err f
        → climb_loop ops (climb_at D) m (suc D) N left (t ∷ ts) ≡ Err f
    turn_not D N left t op ts f has le lt fuel e =
        let k : N ≡ suc (N - 1) = omega arith in
        loop_turn ops (climb_at D) m (suc D) N (N - 1) left (t ∷ ts) (op, ts) k (some_here m t ts op has le) lt
        ∙ rw e refl

    ended_ok : (n : ℕ) (left : E) (pl ts : List Tok) → Left n left pl ts → next_op ops m ts ≡ None → Looped d m left pl ts left ts
    ended_ok n left pl ts K none = record {
      front = [];
      whole = refl;
      spelled = subst (L left) (sym (append-nil pl)) K.spelled;
      high = K.high;
      within = K.within;
      closed = (none_at m ts none, K.calm);
      stable = λ D N s le fuel same. loop_none ops (climb_at D) m (suc D) N left s (next_none m s (ap (op_at ops m) (sym same) ∙ none_at m ts none));
    }

    turned_ok : (n : ℕ) (left b : E) (pl ts r1 : List Tok) (y : Op × List Tok) (x : E) (r : List Tok) (K : Left (suc n) left pl ts) (O : Operator m ts y) (lt : ops.depth left < suc d) (RB : Reads (λ D. climb_at D (suc (ops.precedence y.0))) (Level (suc (ops.precedence y.0))) Fits (Stops (suc (ops.precedence y.0))) d y.1 b r1)
        → Looped d m (ops.node y.0 left b) (pl ++ (O.token ∷ RB.front)) r1 x r → Looped d m left pl ts x r
    turned_ok n left b pl ts r1 y x r K O lt RB I = record {
      front = O.token ∷ (RB.front ++ I.front);
      whole = O.whole ∙ ap (λ (z : List Tok). O.token ∷ z) (RB.whole ∙ ap (λ (z : List Tok). RB.front ++ z) I.whole ∙ sym (append_assoc RB.front I.front r));
      spelled = subst (L x) (append_assoc pl (O.token ∷ RB.front) I.front) I.spelled;
      high = I.high;
      within = I.within;
      closed = I.closed;
      stable = λ D N s le fuel same.
          turn_again D N left b O.token y.0 RB.front I.front s O.has O.tight (omega arith) fuel (RB.stable D (I.front ++ s) le (ap head I.whole ∙ head_append I.front r s same))
          ∙ I.stable D (N - 1) s le (let is = depth_of y.0 left b in omega arith) same;
    }

    loop_ok : (n : ℕ) (left : E) (pl ts : List Tok) (x : E) (r : List Tok) → Left n left pl ts → climb_loop ops (climb_at d) m (suc d) n left ts ≡ Ok (x, r) → Looped d m left pl ts x r
    loop_ok zero left pl ts x r K e = go (next_op ops m ts) refl
      where
        go : (o : Option (Op × List Tok)) → next_op ops m ts ≡ o → Looped d m left pl ts x r
        go None is =
            let same = ok_pair left x ts r (climb_loop ops (climb_at d) m (suc d) zero left ts) (loop_none ops (climb_at d) m (suc d) zero left ts is) e in
            subst (λ (z : E). Looped d m left pl ts z r) same.0 (subst (Looped d m left pl ts left) same.1 (ended_ok zero left pl ts K is))
        go (Some y) is = absurd (no_both (climb_loop ops (climb_at d) m (suc d) zero left ts) (x, r) (deep ts) e (loop_full ops (climb_at d) m (suc d) zero left ts y refl is))
    loop_ok (suc n) left pl ts x r K e = go (loop_ok n) (next_op ops m ts) refl
      where
        go : ((left : E) (pl ts : List Tok) (x : E) (r : List Tok) → Left n left pl ts → climb_loop ops (climb_at d) m (suc d) n left ts ≡ Ok (x, r) → Looped d m left pl ts x r) → (o : Option (Op × List Tok)) → next_op ops m ts ≡ o → Looped d m left pl ts x r
        go rec None is =
            let same = ok_pair left x ts r (climb_loop ops (climb_at d) m (suc d) (suc n) left ts) (loop_none ops (climb_at d) m (suc d) (suc n) left ts is) e in
            subst (λ (z : E). Looped d m left pl ts z r) same.0 (subst (Looped d m left pl ts left) same.1 (ended_ok (suc n) left pl ts K is))
        go rec (Some y) is =
            elim (cases_lt (ops.depth left) (suc d)) [
              | inl lt ↦
                  let b = bind_ok (climb_at d (suc (ops.precedence y.0)) y.1) (λ (b : E × List Tok). climb_loop ops (climb_at d) m (suc d) n (ops.node y.0 left b.0) b.1) (x, r) (sym (loop_turn ops (climb_at d) m (suc d) (suc n) n left ts y refl is lt) ∙ e) in
                  let O = next_some m ts y is in
                  let RB = (EB y.0).ok y.1 (b.0).0 (b.0).1 b.1 in
                  turned_ok n left (b.0).0 pl ts (b.0).1 y x r K O lt RB (rec (ops.node y.0 left (b.0).0) (pl ++ (O.token ∷ RB.front)) (b.0).1 x r (next_left n left (b.0).0 pl ts (b.0).1 y K O lt RB) b.2)
              | inr le ↦ absurd (no_both (climb_loop ops (climb_at d) m (suc d) (suc n) left ts) (x, r) (deep ts) e (loop_deep ops (climb_at d) m (suc d) (suc n) left ts y is le))
            ]

    -- a phrase begins with a left side, an operator and the beginning of an operand
    right_begins : (n : ℕ) (left : E) (pl ts : List Tok) (y : Op × List Tok) (K : Left (suc n) left pl ts) (O : Operator m ts y) (p : List Tok) → Begins (Level (suc (ops.precedence y.0))) p → Begins (Level m) (pl ++ (O.token ∷ p))
    right_begins n left pl ts y K O p b = record {
      value = ops.node y.0 left b.value;
      more = b.more;
      spelled = (subst (L (ops.node y.0 left b.value)) (sym (append_assoc pl (O.token ∷ p) b.more)) (joined y.0 left b.value O.token pl (p ++ b.more) O.has K.spelled b.spelled.0 (loose (suc n) left pl ts y K O) (let h = b.spelled.1 in omega arith)), (let is = level_of y.0 left b.value in let t = O.tight in omega arith));
    }

    some_right : (op : Op) (p : List Tok) → (Nonempty p → Begins (Level (suc (ops.precedence op))) p) → Begins (Level (suc (ops.precedence op))) p
    some_right op [] b = some_begins (suc (ops.precedence op)) (let h = under op in omega arith)
    some_right op (t ∷ p) b = b tt

    other : {A : Type 0} (r : Result A Fault) (x y : List Tok) → r ≡ Err (wrong x) → r ≡ Err (deep y) → ⊥
    other r x y p q = cc

    loop_wrong : (n : ℕ) (left : E) (pl ts r : List Tok) → Left n left pl ts → climb_loop ops (climb_at d) m (suc d) n left ts ≡ Err (wrong r) → Stopped d m left pl ts r
    loop_wrong zero left pl ts r K e = go (next_op ops m ts) refl
      where
        go : (o : Option (Op × List Tok)) → next_op ops m ts ≡ o → Stopped d m left pl ts r
        go None is = absurd (no_both (climb_loop ops (climb_at d) m (suc d) zero left ts) (left, ts) (wrong r) (loop_none ops (climb_at d) m (suc d) zero left ts is) e)
        go (Some y) is = absurd (other (climb_loop ops (climb_at d) m (suc d) zero left ts) r ts e (loop_full ops (climb_at d) m (suc d) zero left ts y refl is))
    loop_wrong (suc n) left pl ts r K e = go (loop_wrong n) (next_op ops m ts) refl
      where
        go : ((left : E) (pl ts r : List Tok) → Left n left pl ts → climb_loop ops (climb_at d) m (suc d) n left ts ≡ Err (wrong r) → Stopped d m left pl ts r) → (o : Option (Op × List Tok)) → next_op ops m ts ≡ o → Stopped d m left pl ts r
        go rec None is = absurd (no_both (climb_loop ops (climb_at d) m (suc d) (suc n) left ts) (left, ts) (wrong r) (loop_none ops (climb_at d) m (suc d) (suc n) left ts is) e)
        go rec (Some y) is =
            elim (cases_lt (ops.depth left) (suc d)) [
              | inl lt ↦
                  let O = next_some m ts y is in
                  elim (bind_err (climb_at d (suc (ops.precedence y.0)) y.1) (λ (b : E × List Tok). climb_loop ops (climb_at d) m (suc d) n (ops.node y.0 left b.0) b.1) (wrong r) (sym (loop_turn ops (climb_at d) m (suc d) (suc n) n left ts y refl is lt) ∙ e)) [
                    | inl p ↦
                        let RB = (EB y.0).wrong y.1 r p in
                        record {
                          front = O.token ∷ RB.front;
                          whole = O.whole ∙ ap (λ (z : List Tok). O.token ∷ z) RB.whole;
                          begins = right_begins n left pl ts y K O RB.front (some_right y.0 RB.front RB.begins);
                          stable = λ D N s le fuel same. turn_not D N left O.token y.0 (RB.front ++ s) (wrong s) O.has O.tight (omega arith) fuel (RB.stable D s le same);
                        }
                    | inr b ↦
                        let RB = (EB y.0).ok y.1 (b.0).0 (b.0).1 b.1 in
                        let I = rec (ops.node y.0 left (b.0).0) (pl ++ (O.token ∷ RB.front)) (b.0).1 r (next_left n left (b.0).0 pl ts (b.0).1 y K O lt RB) b.2 in
                        record {
                          front = O.token ∷ (RB.front ++ I.front);
                          whole = O.whole ∙ ap (λ (z : List Tok). O.token ∷ z) (RB.whole ∙ ap (λ (z : List Tok). RB.front ++ z) I.whole ∙ sym (append_assoc RB.front I.front r));
                          begins = subst (Begins (Level m)) (append_assoc pl (O.token ∷ RB.front) I.front) I.begins;
                          stable = λ D N s le fuel same.
                              turn_again D N left (b.0).0 O.token y.0 RB.front I.front s O.has O.tight (omega arith) fuel (RB.stable D (I.front ++ s) le (ap head I.whole ∙ head_append I.front r s same))
                              ∙ I.stable D (N - 1) s le (let is = depth_of y.0 left (b.0).0 in omega arith) same;
                        }
                  ]
              | inr le ↦ absurd (other (climb_loop ops (climb_at d) m (suc d) (suc n) left ts) r ts e (loop_deep ops (climb_at d) m (suc d) (suc n) left ts y is le))
            ]

    -- the loop stops at an operator
    deep_here : (n : ℕ) (left : E) (pl ts r : List Tok) (y : Op × List Tok) → Left n left pl ts → suc d ≤ ops.depth left → next_op ops m ts ≡ Some y → ts ≡ r → LoopTooDeep d m left pl ts r
    deep_here n left pl ts r y K le is same =
        let O = next_some m ts y is in
        let K' : Left (suc n) left pl ts = record { spelled = K.spelled; high = K.high; within = K.within; tight = K.tight; calm = K.calm; fuel = let f = K.fuel in omega arith } in
        record {
          front = [];
          whole = same;
          at = O.token;
          after = y.1;
          here = sym same ∙ O.whole;
          begins = right_begins n left pl ts y K' O [] (some_right y.0 [] (λ n. absurd n));
          stable = λ N s fuel heads. at_op N s O (ap head (sym O.whole ∙ same) ∙ heads);
        }
      where
        at_op : (N : ℕ) (s : List Tok) (O : Operator m ts y) → Some O.token ≡ head s → climb_loop ops (climb_at d) m (suc d) N left s ≡ Err (deep s)
        at_op N [] O h = absurd cc
        at_op N (t ∷ s) O h =
            let same : O.token ≡ t = cc in
            loop_deep ops (climb_at d) m (suc d) N left (t ∷ s) (y.0, s) (some_here m t s y.0 (ap ops.the (sym same) ∙ O.has) O.tight) le

    loop_too_deep : (n : ℕ) (left : E) (pl ts r : List Tok) → Left n left pl ts → climb_loop ops (climb_at d) m (suc d) n left ts ≡ Err (deep r) → LoopTooDeep d m left pl ts r
    loop_too_deep zero left pl ts r K e = go (next_op ops m ts) refl
      where
        same_deep : (a : Result (E × List Tok) Fault) → a ≡ Err (deep ts) → a ≡ Err (deep r) → ts ≡ r
        same_deep a p q = let h : deep ts ≡ deep r = err_is (deep ts) (deep r) a p q in cc

        go : (o : Option (Op × List Tok)) → next_op ops m ts ≡ o → LoopTooDeep d m left pl ts r
        go None is = absurd (no_both (climb_loop ops (climb_at d) m (suc d) zero left ts) (left, ts) (deep r) (loop_none ops (climb_at d) m (suc d) zero left ts is) e)
        go (Some y) is = deep_here zero left pl ts r y K (let f = K.fuel in omega arith) is (same_deep (climb_loop ops (climb_at d) m (suc d) zero left ts) (loop_full ops (climb_at d) m (suc d) zero left ts y refl is) e)
    loop_too_deep (suc n) left pl ts r K e = go (loop_too_deep n) (next_op ops m ts) refl
      where
        same_deep : (a : Result (E × List Tok) Fault) → a ≡ Err (deep ts) → a ≡ Err (deep r) → ts ≡ r
        same_deep a p q = let h : deep ts ≡ deep r = err_is (deep ts) (deep r) a p q in cc

        go : ((left : E) (pl ts r : List Tok) → Left n left pl ts → climb_loop ops (climb_at d) m (suc d) n left ts ≡ Err (deep r) → LoopTooDeep d m left pl ts r) → (o : Option (Op × List Tok)) → next_op ops m ts ≡ o → LoopTooDeep d m left pl ts r
        go rec None is = absurd (no_both (climb_loop ops (climb_at d) m (suc d) (suc n) left ts) (left, ts) (deep r) (loop_none ops (climb_at d) m (suc d) (suc n) left ts is) e)
        go rec (Some y) is =
            elim (cases_lt (ops.depth left) (suc d)) [
              | inl lt ↦
                  let O = next_some m ts y is in
                  elim (bind_err (climb_at d (suc (ops.precedence y.0)) y.1) (λ (b : E × List Tok). climb_loop ops (climb_at d) m (suc d) n (ops.node y.0 left b.0) b.1) (deep r) (sym (loop_turn ops (climb_at d) m (suc d) (suc n) n left ts y refl is lt) ∙ e)) [
                    | inl p ↦
                        let RB = (EB y.0).deep y.1 r p in
                        record {
                          front = O.token ∷ RB.front;
                          whole = O.whole ∙ ap (λ (z : List Tok). O.token ∷ z) RB.whole;
                          at = RB.at;
                          after = RB.after;
                          here = RB.here;
                          begins = right_begins n left pl ts y K O (RB.front ++ RB.at ∷ []) RB.begins;
                          stable = λ N s fuel same. turn_not d N left O.token y.0 (RB.front ++ s) (deep s) O.has O.tight lt fuel (RB.stable s same);
                        }
                    | inr b ↦
                        let RB = (EB y.0).ok y.1 (b.0).0 (b.0).1 b.1 in
                        let I = rec (ops.node y.0 left (b.0).0) (pl ++ (O.token ∷ RB.front)) (b.0).1 r (next_left n left (b.0).0 pl ts (b.0).1 y K O lt RB) b.2 in
                        record {
                          front = O.token ∷ (RB.front ++ I.front);
                          whole = O.whole ∙ ap (λ (z : List Tok). O.token ∷ z) (RB.whole ∙ ap (λ (z : List Tok). RB.front ++ z) I.whole ∙ sym (append_assoc RB.front I.front r));
                          at = I.at;
                          after = I.after;
                          here = I.here;
                          begins = subst (Begins (Level m)) (append_assoc pl (O.token ∷ RB.front) (I.front ++ I.at ∷ []) ∙ ap (λ (z : List Tok). pl ++ (O.token ∷ z)) (sym (append_assoc RB.front I.front (I.at ∷ [])))) I.begins;
                          stable = λ N s fuel same.
                              turn_again d N left (b.0).0 O.token y.0 RB.front I.front s O.has O.tight lt fuel (RB.stable d (I.front ++ s) (omega arith) (ap head I.whole ∙ head_append I.front r s same))
                              ∙ I.stable (N - 1) s (let is = depth_of y.0 left (b.0).0 in omega arith) same;
                        }
                  ]
              | inr le ↦ deep_here (suc n) left pl ts r y K le is (same_deep (climb_loop ops (climb_at d) m (suc d) (suc n) left ts) (loop_deep ops (climb_at d) m (suc d) (suc n) left ts y is le) e)
            ]

  pub far : (k : ℕ) (h : Option Tok) → top ≤ k → op_at ops k h ≡ None
  far k None le = refl
  far k (Some t) le = go (ops.the t) refl
    where
      go : (o : Option Op) → ops.the t ≡ o → at_least ops k o ≡ None
      go None is = refl
      go (Some op) is = below_none k (Some op) op refl (let h = under op in omega arith)

  module _ (d m : ℕ) (floored : floor ≤ m) (low : m ≤ top) (EB : (op : Op) → Exact (λ D. climb_at D (suc (ops.precedence op))) (Level (suc (ops.precedence op))) Fits (Stops (suc (ops.precedence op))) (Stops (suc (ops.precedence op))) d)
      (EF : Exact first (Level top) (λ D. Fits (suc D)) Calm Calm d) where
    -- the reading has come to a left side
    record Reaches (e : E) (ts q : List Tok) : Type 0 where
      spare : ℕ
      fuel : suc d ≤ spare + ops.depth e
      same : climb_at (suc d) m ts ≡ climb_loop ops (climb_at d) m (suc d) spare e q

    at_first : (e : E) (p q : List Tok) → Level top e p → Fits (suc d) e → Calm e (head q) → Reaches e (p ++ q) q
    at_first e p q l w calm = record {
      spare = suc d;
      fuel = omega arith;
      same = start (suc d) d m (p ++ q) floored (omega arith) ∙ rw (EF.again e p q l w calm) refl;
    }

    -- an operand, its operator and another come to the loop as the first one does
    over_right : (n : ℕ) (rec : (e : E) (p q : List Tok) → ops.depth e ≤ n → L e p → m ≤ level e → Fits (suc d) e → op_at ops (suc (level e)) (head q) ≡ None → Calm e (head q) → Reaches e (p ++ q) q)
        (e : E) (p q : List Tok) (V : Split ops L level e p) → ops.depth e ≤ suc n → m ≤ level e → Fits (suc d) e → op_at ops (suc (level e)) (head q) ≡ None → Calm e (head q) → Reaches (ops.node V.op V.left V.right) (p ++ q) q
    over_right n rec e p q V small high w tight calm =
        let a = V.left in
        let t = V.token in
        let parts : p ++ q ≡ V.before ++ (t ∷ (V.after ++ q)) = rw V.whole (append_assoc V.before (t ∷ V.after) q) in
        let levels : level e ≡ ops.precedence V.op = ap level V.same ∙ level_of V.op a V.right in
        let depths : ops.depth e ≡ suc (max (ops.depth a) (ops.depth V.right)) = ap ops.depth V.same ∙ depth_of V.op a V.right in
        let la : ops.precedence V.op ≤ level a = V.loose in
        let lb : ops.precedence V.op < level V.right = V.tight in
        let fits : ops.depth e ≤ suc d = w in
        let I = rec a V.before (t ∷ (V.after ++ q)) (omega arith) V.first (omega arith) (omega arith) (below_none (suc (level a)) (ops.the t) V.op V.has (omega arith)) (calm_op a t V.op V.has) in
        let stops : Stops (suc (ops.precedence V.op)) V.right (head q) = (subst (λ (k : ℕ). op_at ops (suc k) (head q) ≡ None) levels tight, calm_right V.op a V.right (head q) (subst (λ (z : E). Calm z (head q)) V.same calm)) in
        let again = (EB V.op).again V.right V.after q (V.second, omega arith) (omega arith) stops in
        let fuel = I.fuel in
        let joined_depth : ops.depth (ops.node V.op a V.right) ≡ suc (max (ops.depth a) (ops.depth V.right)) = depth_of V.op a V.right in
        record {
          spare = I.spare - 1;
          fuel = omega arith;
          same = ap (climb_at (suc d) m) parts ∙ I.same
              ∙ loop_turn ops (climb_at d) m (suc d) I.spare (I.spare - 1) a (t ∷ (V.after ++ q)) (V.op, V.after ++ q) (omega arith) (some_here m t (V.after ++ q) V.op V.has (omega arith)) (omega arith)
              ∙ rw again refl;
        }

    to_loop : (n : ℕ) (e : E) (p q : List Tok) → ops.depth e ≤ n → L e p → m ≤ level e → Fits (suc d) e → op_at ops (suc (level e)) (head q) ≡ None → Calm e (head q) → Reaches e (p ++ q) q
    to_loop zero e p q small l high w tight calm = elim (cases_lt (level e) top) [
      | inl lt ↦ absurd (let V = split e p l (omega arith) lt in let depths : ops.depth e ≡ suc (max (ops.depth V.left) (ops.depth V.right)) = ap ops.depth V.same ∙ depth_of V.op V.left V.right in omega arith)
      | inr le ↦ at_first e p q (l, le) w calm
    ]
    to_loop (suc n) e p q small l high w tight calm = go (to_loop n)
      where
        go : ((e : E) (p q : List Tok) → ops.depth e ≤ n → L e p → m ≤ level e → Fits (suc d) e → op_at ops (suc (level e)) (head q) ≡ None → Calm e (head q) → Reaches e (p ++ q) q) → Reaches e (p ++ q) q
        go rec = elim (cases_lt (level e) top) [
          | inl lt ↦ (let V = split e p l (omega arith) lt in subst (λ (z : E). Reaches z (p ++ q) q) (sym V.same) (over_right n rec e p q V small high w tight calm))
          | inr le ↦ at_first e p q (l, le) w calm
        ]

    -- an operator above a level is above each lower one
    higher : (k : ℕ) (h : Option Tok) → op_at ops m h ≡ None → m ≤ k → op_at ops k h ≡ None
    higher k None e le = refl
    higher k (Some t) e le = go (ops.the t) refl
      where
        go : (o : Option Op) → ops.the t ≡ o → at_least ops k o ≡ None
        go None is = refl
        go (Some op) is = below_none k (Some op) op refl (let lt = none_below m op (ap (at_least ops m) (sym is) ∙ e) in omega arith)

    climb_again : (e : E) (p q : List Tok) → Level m e p → Fits (suc d) e → Stops m e (head q) → climb_at (suc d) m (p ++ q) ≡ Ok (e, q)
    climb_again e p q l w h =
        let le : m ≤ level e = l.1 in
        let R = to_loop (ops.depth e) e p q (omega arith) l.0 l.1 w (higher (suc (level e)) (head q) h.0 (omega arith)) h.1 in
        R.same ∙ loop_none ops (climb_at d) m (suc d) R.spare e q (next_none m q h.0)

    begun : (ts : List Tok) (x : E) (r : List Tok) (RF : Reads first (Level top) (λ D. Fits (suc D)) Calm d ts x r) → Left d m EB (suc d) x RF.front r
    begun ts x r RF =
        let l : top ≤ level x = RF.spelled.1 in
        record {
          spelled = RF.spelled.0;
          high = omega arith;
          within = RF.within;
          tight = far (suc (level x)) (head r) (omega arith);
          calm = RF.closed;
          fuel = omega arith;
        }

    -- the same from the start
    from_start : (D : ℕ) (front more s : List Tok) (x : E) → suc d ≤ D → first (D - 1) (front ++ (more ++ s)) ≡ Ok (x, more ++ s) → climb_at D m ((front ++ more) ++ s) ≡ climb_loop ops (climb_at (D - 1)) m (suc (D - 1)) (suc (D - 1)) x (more ++ s)
    from_start D front more s x le e =
        let k : suc (D - 1) ≡ D = omega arith in
        start D (D - 1) m ((front ++ more) ++ s) floored (omega arith) ∙ rw (append_assoc front more s, e, k) refl

    climb_ok : (ts : List Tok) (x : E) (r : List Tok) → climb_at (suc d) m ts ≡ Ok (x, r) → Reads (λ D. climb_at D m) (Level m) Fits (Stops m) (suc d) ts x r
    climb_ok ts x r e =
        let b = bind_ok (first d ts) (λ (x : E × List Tok). climb_loop ops (climb_at d) m (suc d) (suc d) x.0 x.1) (x, r) (sym (start (suc d) d m ts floored (omega arith)) ∙ e) in
        let RF = EF.ok ts (b.0).0 (b.0).1 b.1 in
        let I = loop_ok d m EB (suc d) (b.0).0 RF.front (b.0).1 x r (begun ts (b.0).0 (b.0).1 RF) b.2 in
        record {
          front = RF.front ++ I.front;
          whole = RF.whole ∙ ap (λ (z : List Tok). RF.front ++ z) I.whole ∙ sym (append_assoc RF.front I.front r);
          spelled = (I.spelled, I.high);
          within = I.within;
          closed = I.closed;
          stable = λ D s le same.
              from_start D RF.front I.front s (b.0).0 le (RF.stable (D - 1) (I.front ++ s) (omega arith) (ap head I.whole ∙ head_append I.front r s same))
              ∙ I.stable (D - 1) (suc (D - 1)) s (omega arith) (omega arith) same;
        }

    climb_wrong : (ts r : List Tok) → climb_at (suc d) m ts ≡ Err (wrong r) → Refuses (λ D. climb_at D m) (Level m) Fits (Stops m) (suc d) ts r
    climb_wrong ts r e =
        elim (bind_err (first d ts) (λ (x : E × List Tok). climb_loop ops (climb_at d) m (suc d) (suc d) x.0 x.1) (wrong r) (sym (start (suc d) d m ts floored (omega arith)) ∙ e)) [
          | inl p ↦
              let RF = EF.wrong ts r p in
              record {
                front = RF.front;
                whole = RF.whole;
                begins = λ n. lower RF.front (RF.begins n);
                stable = λ D s le same. start D (D - 1) m (RF.front ++ s) floored (omega arith) ∙ rw (RF.stable (D - 1) s (omega arith) same) refl;
              }
          | inr b ↦
              let RF = EF.ok ts (b.0).0 (b.0).1 b.1 in
              let I = loop_wrong d m EB (suc d) (b.0).0 RF.front (b.0).1 r (begun ts (b.0).0 (b.0).1 RF) b.2 in
              record {
                front = RF.front ++ I.front;
                whole = RF.whole ∙ ap (λ (z : List Tok). RF.front ++ z) I.whole ∙ sym (append_assoc RF.front I.front r);
                begins = λ n. I.begins;
                stable = λ D s le same.
                    from_start D RF.front I.front s (b.0).0 le (RF.stable (D - 1) (I.front ++ s) (omega arith) (ap head I.whole ∙ head_append I.front r s same))
                    ∙ I.stable (D - 1) (suc (D - 1)) s (omega arith) (omega arith) same;
              }
        ]
      where
        lower : (p : List Tok) → Begins (Level top) p → Begins (Level m) p
        lower p b = let le : top ≤ level b.value = b.spelled.1 in record { value = b.value; more = b.more; spelled = (b.spelled.0, omega arith) }

    climb_too_deep : (ts r : List Tok) → climb_at (suc d) m ts ≡ Err (deep r) → FailsTooDeep (λ D. climb_at D m) (Level m) Fits (Stops m) (suc d) ts r
    climb_too_deep ts r e =
        elim (bind_err (first d ts) (λ (x : E × List Tok). climb_loop ops (climb_at d) m (suc d) (suc d) x.0 x.1) (deep r) (sym (start (suc d) d m ts floored (omega arith)) ∙ e)) [
          | inl p ↦
              let RF = EF.deep ts r p in
              record {
                front = RF.front;
                whole = RF.whole;
                at = RF.at;
                after = RF.after;
                here = RF.here;
                begins = lower (RF.front ++ RF.at ∷ []) RF.begins;
                stable = λ s same. start (suc d) d m (RF.front ++ s) floored (omega arith) ∙ rw (RF.stable s same) refl;
              }
          | inr b ↦
              let RF = EF.ok ts (b.0).0 (b.0).1 b.1 in
              let I = loop_too_deep d m EB (suc d) (b.0).0 RF.front (b.0).1 r (begun ts (b.0).0 (b.0).1 RF) b.2 in
              record {
                front = RF.front ++ I.front;
                whole = RF.whole ∙ ap (λ (z : List Tok). RF.front ++ z) I.whole ∙ sym (append_assoc RF.front I.front r);
                at = I.at;
                after = I.after;
                here = I.here;
                begins = subst (Begins (Level m)) (sym (append_assoc RF.front I.front (I.at ∷ []))) I.begins;
                stable = λ s same.
                    start (suc d) d m ((RF.front ++ I.front) ++ s) floored (omega arith)
                    ∙ rw (append_assoc RF.front I.front s, RF.stable d (I.front ++ s) (omega arith) (ap head I.whole ∙ head_append I.front r s same)) (I.stable (suc d) s (omega arith) same);
              }
        ]
      where
        lower : (p : List Tok) → Begins (Level top) p → Begins (Level m) p
        lower p b = let le : top ≤ level b.value = b.spelled.1 in record { value = b.value; more = b.more; spelled = (b.spelled.0, omega arith) }

    pub climb_step : Exact (λ D. climb_at D m) (Level m) Fits (Stops m) (Stops m) (suc d)
    climb_step = record { again = climb_again; ok = climb_ok; wrong = climb_wrong; deep = climb_too_deep }
