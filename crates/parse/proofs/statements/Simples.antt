-- Assignments, steps and values are read exactly.
use Rattle.std.proofs.Common.{◌≡◌, ℕ, zero, suc, ◌+◌, ◌≤◌, max, Bool, true, false, List, [], ◌∷◌, ◌++◌, Option, Some, None, Err, refl, sym, ap, subst, ◌∙◌, arith, ◌⊎◌, inl, inr, if◌then◌else◌, is_some}
use Rattle.lex.specs.declared.token.Fixed.{Fixed}
use Rattle.lex.specs.declared.token.Fixed.TheVariants.{Keyword, Punctuator}
use Rattle.lex.specs.declared.token.Keyword.TheVariants as key
use Rattle.lex.specs.declared.token.Punctuator.TheVariants as punct
use Rattle.lex.specs.Tokens.{Terminal, name, constant, string_literal, fixed, reserved, Tok}
use Rattle.syntax.specs.declared.tree.BinaryOp.{BinaryOp}
use Rattle.syntax.specs.declared.tree.IncDec.{IncDec}
use Rattle.syntax.specs.Tree.{Expr, Simple, Evaluate, Assign, Adjust}
use Rattle.syntax.specs.Depth.{expr_depth, simple_depth}
use Rattle.syntax.specs.Phrases.{Phrase, Seq, One, Begins, is_fixed}
use Rattle.syntax.specs.Grammar.{by_fixed, expr, assigning_of, the_assigning, step_of, the_step, simple}
use Rattle.parse.specs.inner.Reading.{wrong, head, bind, map_parser, is_next}
use Rattle.parse.specs.inner.Expressions.{type_of_fixed, says, starts_type, is_operand, operand_terminal, starts_expr, whole_at}
use Rattle.parse.specs.inner.Statements.{assigned_from, changed_from, simple_from, prefix_step, starts_simple, simple_at}
use Rattle.parse.specs.inner.Statements as S
use Rattle.parse.proofs.combinators.Exact.{Exact, Always, Comes, Two, Dep, Empty, take_exact, give_exact, relabel, two, chained_one, value_of}
use Rattle.parse.proofs.combinators.Choices.{either_exact}
use Rattle.parse.proofs.combinators.FixedTokens.{that_fixed, a_fixed, one_head, seq_head}
use Rattle.parse.proofs.combinators.Parts.{no_seq, un_seq}
use Rattle.parse.proofs.combinators.Knot.{knot_exact, base_exact}
use Rattle.parse.proofs.combinators.Starts.{true_not_false, first_of, stops_exact}
use Rattle.parse.proofs.expressions.Wholes.{WholeS, whole_begins, whole_first, start_not_step, starts_begins, closing_follows, assigning_follows, step_follows}
use Rattle.parse.proofs.expressions.Levels.{whole_exact}

-- ---- what stands behind

-- a semicolon or a closing parenthesis
abbrev pub IsEnd : Option Tok → Type 0
IsEnd h = (is_next (Punctuator punct.Semicolon) h ≡ true) ⊎ (is_next (Punctuator punct.CloseParen) h ≡ true)

abbrev pub EndS : {A : Type 0} → A → Option Tok → Type 0
EndS x h = IsEnd h

-- a semicolon ends
pub semicolon_ends : {A : Type 0} (x : A) (t : Tok) → t.terminal ≡ fixed (Punctuator punct.Semicolon) → EndS x (Some t)
semicolon_ends x t is = inl (rw is refl)

-- a closing parenthesis does
pub paren_ends : {A : Type 0} (x : A) (t : Tok) → t.terminal ≡ fixed (Punctuator punct.CloseParen) → EndS x (Some t)
paren_ends x t is = inr (rw is refl)

end_follows : (e : Expr) (h : Option Tok) → IsEnd h → WholeS e h
end_follows e None (inl i) = absurd cc
end_follows e None (inr i) = absurd cc
end_follows e (Some t) (inl i) = closing_follows e t (Punctuator punct.Semicolon) (that_fixed (Punctuator punct.Semicolon) t i) refl
end_follows e (Some t) (inr i) = closing_follows e t (Punctuator punct.CloseParen) (that_fixed (Punctuator punct.CloseParen) t i) refl

-- what ends says nothing else
end_says : {A : Type 0} (table : Fixed → Option A) (h : Option Tok) → is_some (table (Punctuator punct.Semicolon)) ≡ false → is_some (table (Punctuator punct.CloseParen)) ≡ false → IsEnd h → says (λ t. by_fixed table t.terminal) h ≡ false
end_says table None a b i = refl
end_says table (Some t) a b (inl i) = ap (λ (k : Terminal). is_some (by_fixed table k)) (that_fixed (Punctuator punct.Semicolon) t i) ∙ a
end_says table (Some t) a b (inr i) = ap (λ (k : Terminal). is_some (by_fixed table k)) (that_fixed (Punctuator punct.CloseParen) t i) ∙ b

-- ---- punctuators

step_fixed : (k : Fixed) (by : IncDec) → step_of k ≡ Some by → is_some (assigning_of k) ≡ false
step_fixed (Punctuator punct.Increment) by e = refl
step_fixed (Punctuator punct.Decrement) by e = refl
step_fixed _ by e = absurd cc

-- a step's punctuator is no assignment's
step_not_assigning : (k : Terminal) (by : IncDec) → by_fixed step_of k ≡ Some by → is_some (by_fixed assigning_of k) ≡ false
step_not_assigning (fixed k) by e = step_fixed k by e
step_not_assigning k by e = refl

says_one : {A : Type 0} (f : Tok → Option A) (x : A) (p q : List Tok) → One f x p → says f (head (p ++ q)) ≡ true
says_one f x p q o = ap (says f) (one_head o q) ∙ ap is_some o.has

says_seq : {A : Type 0} (f : Tok → Option A) (x : A) (M : Phrase) (p q : List Tok) → Seq (One f x) M p → says f (head (p ++ q)) ≡ true
says_seq f x M p q s = ap (says f) (seq_head s q) ∙ ap is_some s.first.has

-- ---- behind an expression

abbrev AssignL : Expr → Simple → Phrase
AssignL to (Assign a op e) p = (a ≡ to) × Seq (One the_assigning op) (expr e) p
AssignL to (Evaluate e) p = ⊥
AssignL to (Adjust a by) p = ⊥

abbrev ChangeL : Expr → Simple → Phrase
ChangeL to (Adjust a by) p = (a ≡ to) × One the_step by p
ChangeL to (Evaluate e) p = ⊥
ChangeL to (Assign a op e) p = ⊥

abbrev TailL : Expr → Simple → Phrase
TailL to s p = AssignL to s p ⊎ (ChangeL to s p ⊎ Empty (Evaluate to) s p)

-- the expression in front
abbrev front_of : Simple → Expr
front_of (Evaluate e) = e
front_of (Assign to op e) = to
front_of (Adjust to by) = to

abbrev BackW : ℕ → Simple → Type 0
BackW d (Evaluate e) = Unit {0}
BackW d (Assign a op e) = expr_depth e ≤ d
BackW d (Adjust a by) = Unit {0}

-- the depth allows what stands behind the punctuator
abbrev TailW : Expr → ℕ → Simple → Type 0
TailW to d s = BackW d s × (front_of s ≡ to)

assigned_exact : (to : Expr) (d : ℕ) → Exact (λ D. assigned_from (whole_at D) to) (AssignL to) (TailW to) EndS Always d
assigned_exact to d =
    value_of (λ (x : Option BinaryOp × Expr). Assign to x.0 x.1) (AssignL to) (TailW to) EndS Always
    (two (take_exact the_assigning d) (whole_exact d) (λ a b p q l h. tt) whole_begins)
    comes (λ x p l. (refl, l)) (λ x w. (w.1, refl)) (λ x h c. tt)
  where
    comes : (y : Simple) (p : List Tok) → AssignL to y p → Comes (λ (x : Option BinaryOp × Expr). Assign to x.0 x.1) (Two (One the_assigning) expr) (λ x. Unit {0} × (expr_depth x.1 ≤ d)) (TailW to d) (λ x h. WholeS x.1 h) EndS y p
    comes (Assign a op e) p l = record { value = (op, e); same = ap (λ (z : Expr). Assign z op e) l.0; spelled = l.1; within = λ w. (tt, w.0); stops = λ h s. end_follows e h s }
    comes (Evaluate e) p l = absurd l
    comes (Adjust a by) p l = absurd l

changed_exact : (to : Expr) (d : ℕ) → Exact (λ D. changed_from (whole_at D) to) (ChangeL to) (TailW to) EndS Always d
changed_exact to d =
    value_of (Adjust to) (ChangeL to) (TailW to) EndS Always
    (take_exact the_step d)
    comes (λ x p l. (refl, l)) (λ x w. (tt, refl)) (λ x h c. tt)
  where
    comes : (y : Simple) (p : List Tok) → ChangeL to y p → Comes (Adjust to) (One the_step) (λ x. Unit {0}) (TailW to d) Always EndS y p
    comes (Adjust a by) p l = record { value = by; same = ap (λ (z : Expr). Adjust z by) l.0; spelled = l.1; within = λ w. tt; stops = λ h s. tt }
    comes (Evaluate e) p l = absurd l
    comes (Assign a op e) p l = absurd l

empty_head : (p q : List Tok) → p ≡ [] → head (p ++ q) ≡ head q
empty_head p q e = ap (λ (z : List Tok). head (z ++ q)) e

tail_exact : (to : Expr) (d : ℕ) → Exact (λ D. simple_from (whole_at D) to) (TailL to) (TailW to) EndS Always d
tail_exact to d =
    either_exact (says the_assigning) Always (assigned_exact to d)
    (either_exact (says the_step) Always (changed_exact to d) (give_exact (Evaluate to) (TailW to) EndS Always d (tt, refl) (λ h. tt)) changes stays (λ x p r l h c. tt) (λ x p r l h c. tt))
    assigns others (λ x p r l h c. tt) (λ x p r l h c. tt)
  where
    changes : (x : Simple) (p q : List Tok) → ChangeL to x p → IsEnd (head q) → says the_step (head (p ++ q)) ≡ true
    changes (Adjust a by) p q l h = says_one the_step by p q l.1
    changes (Evaluate e) p q l h = absurd l
    changes (Assign a op e) p q l h = absurd l

    stays : (x : Simple) (p q : List Tok) → Empty (Evaluate to) x p → IsEnd (head q) → says the_step (head (p ++ q)) ≡ false
    stays x p q l h = ap (says the_step) (empty_head p q l.1) ∙ end_says step_of (head q) refl refl h

    assigns : (x : Simple) (p q : List Tok) → AssignL to x p → IsEnd (head q) → says the_assigning (head (p ++ q)) ≡ true
    assigns (Assign a op e) p q l h = says_seq the_assigning op (expr e) p q l.1
    assigns (Evaluate e) p q l h = absurd l
    assigns (Adjust a by) p q l h = absurd l

    others : (x : Simple) (p q : List Tok) → ChangeL to x p ⊎ Empty (Evaluate to) x p → IsEnd (head q) → says the_assigning (head (p ++ q)) ≡ false
    others (Adjust a by) p q (inl l) h = ap (says the_assigning) (one_head l.1 q) ∙ step_not_assigning l.1.token.terminal by l.1.has
    others (Evaluate e) p q (inl l) h = absurd l
    others (Assign a op e) p q (inl l) h = absurd l
    others x p q (inr l) h = ap (says the_assigning) (empty_head p q l.1) ∙ end_says assigning_of (head q) refl refl h

tail_begins : (to : Expr) → Begins (TailL to) []
tail_begins to = record { value = Evaluate to; more = []; spelled = inr (inr (refl, refl)) }

-- ---- behind an expression, or before one

abbrev StepL : Simple → Phrase
StepL (Adjust to by) p = Seq (One the_step by) (expr to) p
StepL (Evaluate e) p = ⊥
StepL (Assign to op e) p = ⊥

abbrev RestL : Simple → Phrase
RestL (Evaluate e) p = expr e p
RestL (Assign to op e) p = Seq (expr to) (Seq (One the_assigning op) (expr e)) p
RestL (Adjust to by) p = Seq (expr to) (One the_step by) p

abbrev PartW : ℕ → Simple → Type 0
PartW d s = simple_depth s ≤ suc d

stepped_exact : (d : ℕ) → Exact (λ D. prefix_step (whole_at D)) StepL PartW EndS Always d
stepped_exact d =
    value_of (λ (x : IncDec × Expr). Adjust x.1 x.0) StepL PartW EndS Always
    (two (take_exact the_step d) (whole_exact d) (λ a b p q l h. tt) whole_begins)
    comes (λ x p l. l) deepens (λ x h c. tt)
  where
    comes : (y : Simple) (p : List Tok) → StepL y p → Comes (λ (x : IncDec × Expr). Adjust x.1 x.0) (Two (One the_step) expr) (λ x. Unit {0} × (expr_depth x.1 ≤ d)) (PartW d) (λ x h. WholeS x.1 h) EndS y p
    comes (Adjust to by) p l = record { value = (by, to); same = refl; spelled = l; within = λ w. (tt, let h : expr_depth to + 1 ≤ suc d = w in omega arith); stops = λ h s. end_follows to h s }
    comes (Evaluate e) p l = absurd l
    comes (Assign a op e) p l = absurd l

    deepens : (x : IncDec × Expr) → Unit {0} × (expr_depth x.1 ≤ d) → expr_depth x.1 + 1 ≤ suc d
    deepens x w = let h : expr_depth x.1 ≤ d = w.1 in omega arith

rest_exact : (d : ℕ) → Exact (λ D. map_parser (λ x. x.1) (bind (whole_at D) (simple_from (whole_at D)))) RestL PartW EndS Always d
rest_exact d =
    value_of (λ (x : Expr × Simple). x.1) RestL PartW EndS Always
    (chained_one (whole_exact d) (λ to. tail_exact to d) follow tail_begins)
    comes goes deepens (λ x h c. tt)
  where
    follow : (a : Expr) (b : Simple) (p q : List Tok) → TailL a b p → IsEnd (head q) → WholeS a (head (p ++ q))
    follow a (Assign to op e) p q (inl l) h = subst (WholeS a) (sym (seq_head l.1 q)) (assigning_follows a l.1.first.token op l.1.first.has)
    follow a (Adjust to by) p q (inl l) h = absurd l
    follow a (Evaluate e) p q (inl l) h = absurd l
    follow a (Adjust to by) p q (inr (inl l)) h = subst (WholeS a) (sym (one_head l.1 q)) (step_follows a l.1.token by l.1.has)
    follow a (Assign to op e) p q (inr (inl l)) h = absurd l
    follow a (Evaluate e) p q (inr (inl l)) h = absurd l
    follow a b p q (inr (inr l)) h = subst (WholeS a) (sym (empty_head p q l.1)) (end_follows a (head q) h)

    comes : (y : Simple) (p : List Tok) → RestL y p → Comes (λ (x : Expr × Simple). x.1) (Dep expr TailL) (λ x. (expr_depth x.0 ≤ d) × TailW x.0 d x.1) (PartW d) (λ x h. IsEnd h) EndS y p
    comes (Evaluate e) p l = record {
      value = (e, Evaluate e);
      same = refl;
      spelled = let s = no_seq {L = expr e} l in record { front = s.front; back = s.back; first = s.first; second = inr (inr (refl, s.second)); whole = s.whole };
      within = λ w. (let h : expr_depth e + 1 ≤ suc d = w in omega arith, (tt, refl));
      stops = λ h s. s;
    }
    comes (Assign to op e) p l = record {
      value = (to, Assign to op e);
      same = refl;
      spelled = record { front = l.front; back = l.back; first = l.first; second = inl (refl, l.second); whole = l.whole };
      within = λ w. let h : max (expr_depth to) (expr_depth e) + 1 ≤ suc d = w in (omega arith, (omega arith, refl));
      stops = λ h s. s;
    }
    comes (Adjust to by) p l = record {
      value = (to, Adjust to by);
      same = refl;
      spelled = record { front = l.front; back = l.back; first = l.first; second = inr (inl (refl, l.second)); whole = l.whole };
      within = λ w. (let h : expr_depth to + 1 ≤ suc d = w in omega arith, (tt, refl));
      stops = λ h s. s;
    }

    of_value : (a : Expr) (y : Simple) (p : List Tok) → y ≡ Evaluate a → expr a p → RestL y p
    of_value a y p e l = subst (λ (z : Simple). RestL z p) (sym e) l

    tail_goes : (a : Expr) (y : Simple) (front back : List Tok) → expr a front → TailL a y back → RestL y (front ++ back)
    tail_goes a (Assign to op e) front back l (inl t) = record { front = front; back = back; first = subst (λ (z : Expr). expr z front) (sym t.0) l; second = t.1; whole = refl }
    tail_goes a (Evaluate e) front back l (inl t) = absurd t
    tail_goes a (Adjust to by) front back l (inl t) = absurd t
    tail_goes a (Adjust to by) front back l (inr (inl t)) = record { front = front; back = back; first = subst (λ (z : Expr). expr z front) (sym t.0) l; second = t.1; whole = refl }
    tail_goes a (Evaluate e) front back l (inr (inl t)) = absurd t
    tail_goes a (Assign to op e) front back l (inr (inl t)) = absurd t
    tail_goes a y front back l (inr (inr t)) = of_value a y (front ++ back) t.0 (un_seq {L = expr a} (record { front = front; back = back; first = l; second = t.1; whole = refl }))

    goes : (x : Expr × Simple) (p : List Tok) → Dep expr TailL x p → RestL x.1 p
    goes x p s = subst (RestL x.1) (sym s.whole) (tail_goes x.0 x.1 s.front s.back s.first s.second)

    deepens : (x : Expr × Simple) → (expr_depth x.0 ≤ d) × TailW x.0 d x.1 → PartW d x.1
    deepens (a, Evaluate e) w = let h : expr_depth a ≤ d = w.0 in let same = ap expr_depth w.1.1 in omega arith
    deepens (a, Assign to op e) w = let h : expr_depth a ≤ d = w.0 in let g : expr_depth e ≤ d = w.1.0 in let same = ap expr_depth w.1.1 in omega arith
    deepens (a, Adjust to by) w = let h : expr_depth a ≤ d = w.0 in let same = ap expr_depth w.1.1 in omega arith

rest_first : (x : Simple) (p q : List Tok) → RestL x p → starts_expr (head (p ++ q)) ≡ true
rest_first (Evaluate e) p q l = whole_first e p q l
rest_first (Assign to op e) p q l = first_of (λ h. starts_expr h ≡ true) p q l (whole_first to)
rest_first (Adjust to by) p q l = first_of (λ h. starts_expr h ≡ true) p q l (whole_first to)

-- ---- within a depth

part_exact : (d : ℕ) → Exact (λ D. S.simple (whole_at D)) simple PartW EndS Always d
part_exact d =
    relabel (λ D. S.simple (whole_at D)) (λ s p. StepL s p ⊎ RestL s p) simple PartW PartW EndS EndS Always Always d
    (either_exact (says the_step) Always (stepped_exact d) (rest_exact d) steps rests (λ x p r l h c. tt) (λ x p r l h c. tt))
    to from (λ x p l w. w) (λ x w. w) (λ x h s. s) (λ x h c. c)
  where
    steps : (x : Simple) (p q : List Tok) → StepL x p → IsEnd (head q) → says the_step (head (p ++ q)) ≡ true
    steps (Adjust to by) p q l h = says_seq the_step by (expr to) p q l
    steps (Evaluate e) p q l h = absurd l
    steps (Assign to op e) p q l h = absurd l

    rests : (x : Simple) (p q : List Tok) → RestL x p → IsEnd (head q) → says the_step (head (p ++ q)) ≡ false
    rests x p q l h = start_not_step (head (p ++ q)) (rest_first x p q l)

    to : (x : Simple) (p : List Tok) → StepL x p ⊎ RestL x p → simple x p
    to (Evaluate e) p (inr l) = l
    to (Evaluate e) p (inl l) = absurd l
    to (Assign a op e) p (inr l) = l
    to (Assign a op e) p (inl l) = absurd l
    to (Adjust a by) p (inr l) = inl l
    to (Adjust a by) p (inl l) = inr l

    from : (x : Simple) (p : List Tok) → simple x p → StepL x p ⊎ RestL x p
    from (Evaluate e) p l = inr l
    from (Assign a op e) p l = inr l
    from (Adjust a by) p (inl l) = inr l
    from (Adjust a by) p (inr l) = inl l

-- what begins none of these is refused
simple_first_at : (b c : Bool) → (b ≡ true) ⊎ (c ≡ true) → (if b then true else c) ≡ true
simple_first_at true c h = refl
simple_first_at false c (inr h) = h
simple_first_at false c (inl h) = absurd cc

-- The first token of an assignment, a step or a value.
pub simple_first : (s : Simple) (p q : List Tok) → simple s p → starts_simple (head (p ++ q)) ≡ true
simple_first (Evaluate e) p q l = simple_first_at _ _ (inr (rest_first (Evaluate e) p q l))
simple_first (Assign to op e) p q l = simple_first_at _ _ (inr (rest_first (Assign to op e) p q l))
simple_first (Adjust to by) p q (inl l) = simple_first_at _ _ (inr (rest_first (Adjust to by) p q l))
simple_first (Adjust to by) p q (inr l) = simple_first_at _ _ (inl (says_seq the_step by (expr to) p q l))

pub simple_starts : (t : Tok) → starts_simple (Some t) ≡ true → Begins simple (t ∷ [])
simple_starts t h = go (the_step t) refl
  where
    go : (o : Option IncDec) → the_step t ≡ o → Begins simple (t ∷ [])
    go (Some by) is =
        let b = whole_begins in
        record { value = Adjust b.value by; more = b.more; spelled = inr (record { front = t ∷ []; back = b.more; first = record { token = t; has = is; whole = refl }; second = b.spelled; whole = refl }) }
    go None is =
        let e : starts_expr (Some t) ≡ true = rw (ap is_some is) at h in
        let b = starts_begins t e in
        record { value = Evaluate b.value; more = b.more; spelled = b.spelled }

-- a fixed token that none of these begins with
pub simple_not_fixed : (k : Fixed) (h : Option Tok) → starts_simple (Some (a_fixed k)) ≡ false → starts_simple h ≡ true → is_next k h ≡ false
simple_not_fixed k None apart e = refl
simple_not_fixed k (Some t) apart e = go (is_fixed k t.terminal) refl
  where
    go : (b : Bool) → is_fixed k t.terminal ≡ b → is_fixed k t.terminal ≡ false
    go false is = is
    go true is = absurd (let same = that_fixed k t is in true_not_false e (ap (λ (z : Terminal). if is_some (by_fixed step_of z) then true else is_operand (operand_terminal z)) same ∙ apart))

-- none of these begins with a type
pub simple_not_type : (h : Option Tok) → starts_simple h ≡ true → starts_type h ≡ false
simple_not_type None e = refl
simple_not_type (Some t) e = go t.terminal e
  where
    no_word : (k : Fixed) → (if is_some (step_of k) then true else is_operand (operand_terminal (fixed k))) ≡ true → is_some (type_of_fixed k) ≡ false
    no_word (Keyword key.Int) e = absurd cc
    no_word (Keyword key.Signed) e = absurd cc
    no_word (Keyword key.Unsigned) e = absurd cc
    no_word (Keyword key.Long) e = absurd cc
    no_word _ e = refl

    go : (k : Terminal) → (if is_some (by_fixed step_of k) then true else is_operand (operand_terminal k)) ≡ true → is_some (by_fixed type_of_fixed k) ≡ false
    go (name s) e = refl
    go (constant n ty) e = refl
    go (string_literal s) e = refl
    go (fixed k) e = no_word k e
    go reserved e = refl

start_at : (D b : ℕ) (ts : List Tok) → b + 1 ≡ D → simple_at D ts ≡ S.simple (whole_at b) ts
start_at zero b ts e = absurd (omega arith)
start_at (suc n) b ts e = let same : n ≡ b = omega arith in ap (λ (k : ℕ). S.simple (whole_at k) ts) same

simple_stops : (D : ℕ) (ts : List Tok) → starts_simple (head ts) ≡ false → simple_at D ts ≡ Err (wrong ts)
simple_stops zero ts h = rw h refl
simple_stops (suc d) ts h = stops_exact starts_simple (part_exact d) simple_first ts h

simple_positive : (s : Simple) → simple_depth s ≤ 0 → ⊥
simple_positive (Evaluate e) w = omega arith
simple_positive (Assign to op e) w = omega arith
simple_positive (Adjust to by) w = omega arith

-- An assignment, a step or a value is read exactly before its end.
pub simple_exact : (d : ℕ) → Exact simple_at simple (λ D s. simple_depth s ≤ D) EndS Always d
simple_exact zero =
    base_exact simple_at (λ b. S.simple (whole_at b)) simple (λ D s. simple_depth s ≤ D) EndS Always start_at
    starts_simple simple_stops (λ ts h. rw h refl) simple_starts refl simple_positive
simple_exact (suc d) = knot_exact simple_at (λ b. S.simple (whole_at b)) simple (λ D s. simple_depth s ≤ D) EndS Always start_at d (part_exact d)
