-- Declarations, and the first part of a loop's head, are read exactly.
use Rattle.std.proofs.Common.{◌≡◌, ℕ, zero, suc, ◌+◌, ◌≤◌, true, false, List, [], ◌∷◌, ◌++◌, Option, Some, None, Err, refl, sym, ap, append_assoc, arith, ◌⊎◌, inl, inr}
use Rattle.lex.specs.declared.token.Fixed.TheVariants.{Punctuator}
use Rattle.lex.specs.declared.token.Punctuator.TheVariants as punct
use Rattle.lex.specs.declared.token.Scalar.{Scalar}
use Rattle.lex.specs.Tokens.{fixed, Tok}
use Rattle.syntax.specs.Tree.{Name, Expr, Simple, Declarator, Declaration, Start, Nothing, Declares, Does}
use Rattle.syntax.specs.Depth.{expr_depth, optional_depth, deepest_value, declaration_depth, start_depth, simple_depth}
use Rattle.syntax.specs.Phrases.{Phrase, Seq, One, Is, Begins, Listed, the_fixed}
use Rattle.syntax.specs.Grammar.{the_name, optional, expr, simple}
use Rattle.syntax.specs.Grammar as Grammar
use Rattle.parse.specs.inner.Reading.{wrong, head, map_parser, expect, is_next, is_other, before}
use Rattle.parse.specs.inner.Expressions.{starts_type, whole_at}
use Rattle.parse.specs.inner.Statements.{starts_simple, declarator_tree, declarator, declaration_tree, declaration, simple_at, declaration_at, start}
use Rattle.parse.proofs.combinators.Exact.{Exact, Always, Comes, Two, take_exact, relabel, two, value_of}
use Rattle.parse.proofs.combinators.Many.{ManyFit}
use Rattle.parse.proofs.combinators.Choices.{either_exact}
use Rattle.parse.proofs.combinators.Lists.{listed_exact, listed_begins}
use Rattle.parse.proofs.combinators.FixedTokens.{that_fixed, one_begins}
use Rattle.parse.proofs.combinators.Parts.{MaybeW, MaybeS, is_here, seq_here, behind_exact, before_exact, tail_begins, perhaps_exact}
use Rattle.parse.proofs.combinators.Knot.{knot_exact, base_exact}
use Rattle.parse.proofs.combinators.Starts.{first_of, stops_exact}
use Rattle.parse.proofs.expressions.Scalars.{TypeEnds, name_begins, name_ends, fixed_differs, type_not_fixed, scalar_exact, scalar_first, type_begins}
use Rattle.parse.proofs.expressions.Wholes.{WholeS, whole_begins, closing_follows}
use Rattle.parse.proofs.expressions.Levels.{whole_exact}
use Rattle.parse.proofs.statements.Simples.{semicolon_ends, simple_exact, simple_first, simple_not_fixed, simple_not_type}

-- ---- names that are declared

abbrev FirstL : Expr → Phrase
FirstL e = Seq (Is (Punctuator punct.Assign)) (expr e)

abbrev NamedL : Name × Option Expr → Phrase
NamedL = Two (One the_name) (optional FirstL)

abbrev DeclaratorS : Declarator → Option Tok → Type 0
DeclaratorS x h = MaybeS (Punctuator punct.Assign) WholeS x.first h

abbrev DeclaratorW : ℕ → Declarator → Type 0
DeclaratorW d x = optional_depth x.first ≤ d

declarator_exact : (d : ℕ) → Exact (λ D. declarator (whole_at D)) Grammar.declarator DeclaratorW DeclaratorS DeclaratorS d
declarator_exact d =
    value_of declarator_tree Grammar.declarator DeclaratorW DeclaratorS DeclaratorS
    (two (take_exact the_name d) (perhaps_exact (Punctuator punct.Assign) (behind_exact (Punctuator punct.Assign) (whole_exact d) whole_begins) (λ x p q l. seq_here (Punctuator punct.Assign) (expr x) p q l)) (λ a b p q l h. tt) (record { value = None; more = []; spelled = refl }))
    comes (λ x p l. l) (λ x w. deepens x.1 w.1) (λ x h c. c)
  where
    allows : (o : Option Expr) → optional_depth o ≤ d → MaybeW (λ D e. expr_depth e ≤ D) d o
    allows None w = tt
    allows (Some e) w = w

    deepens : (o : Option Expr) → MaybeW (λ D e. expr_depth e ≤ D) d o → optional_depth o ≤ d
    deepens None w = omega arith
    deepens (Some e) w = w

    comes : (y : Declarator) (p : List Tok) → Grammar.declarator y p → Comes declarator_tree NamedL (λ x. Unit {0} × MaybeW (λ D e. expr_depth e ≤ D) d x.1) (DeclaratorW d) (λ x h. MaybeS (Punctuator punct.Assign) WholeS x.1 h) DeclaratorS y p
    comes y p l = record { value = (y.name, y.first); same = refl; spelled = l; within = λ w. (tt, allows y.first w); stops = λ h s. s }

abbrev declarator_begins : Begins Grammar.declarator []
declarator_begins = record { value = record { name = name_begins.value; first = None }; more = name_begins.more ++ []; spelled = record { front = name_begins.more; back = []; first = name_begins.spelled; second = refl; whole = refl } }

-- ---- declarations

abbrev DeclarationW : ℕ → Declaration → Type 0
DeclarationW d x = declaration_depth x ≤ suc d

abbrev TailL : List Declarator → Phrase
TailL xs = Seq (Listed Grammar.declarator xs) (Is (Punctuator punct.Semicolon))

tail_starts : Begins TailL []
tail_starts = tail_begins (Punctuator punct.Semicolon) (Listed Grammar.declarator) (listed_begins declarator_begins)

declared_exact : (d : ℕ) → Exact (λ D. declaration (whole_at D)) Grammar.declaration DeclarationW Always Always d
declared_exact d =
    value_of declaration_tree Grammar.declaration DeclarationW Always Always
    (two (scalar_exact d)
    (before_exact (Punctuator punct.Semicolon) (listed_exact (λ h. is_next (Punctuator punct.Semicolon) h ≡ true) (declarator_exact d) declarator_begins follows comma) (λ a t is. (rw is refl, rw is refl)))
    follow tail_starts)
    comes (λ x p l. l) deepens (λ x h c. tt)
  where
    follows_value : (o : Option Expr) (t : Tok) → t.terminal ≡ fixed (Punctuator punct.Semicolon) → MaybeS (Punctuator punct.Assign) WholeS o (Some t)
    follows_value None t is = fixed_differs (Punctuator punct.Semicolon) (Punctuator punct.Assign) t refl is
    follows_value (Some e) t is = closing_follows e t (Punctuator punct.Semicolon) is refl

    comma_value : (o : Option Expr) (t : Tok) → t.terminal ≡ fixed (Punctuator punct.Comma) → MaybeS (Punctuator punct.Assign) WholeS o (Some t)
    comma_value None t is = fixed_differs (Punctuator punct.Comma) (Punctuator punct.Assign) t refl is
    comma_value (Some e) t is = closing_follows e t (Punctuator punct.Comma) is refl

    follows : (x : Declarator) (h : Option Tok) → is_other (Punctuator punct.Comma) h ≡ true → is_next (Punctuator punct.Semicolon) h ≡ true → DeclaratorS x h
    follows x None o i = absurd cc
    follows x (Some t) o i = follows_value x.first t (that_fixed (Punctuator punct.Semicolon) t i)

    comma : (x : Declarator) (t : Tok) → t.terminal ≡ fixed (Punctuator punct.Comma) → DeclaratorS x (Some t)
    comma x t is = comma_value x.first t is

    follow : (a : Scalar) (b : List Declarator) (p q : List Tok) → TailL b p → Unit {0} → TypeEnds a (head (p ++ q))
    follow a [] p q l h = absurd l.first
    follow a (x ∷ xs) p q l h = first_of (λ h. TypeEnds a h) p q l (λ r s n. first_of (λ h. TypeEnds a h) r s n (λ r s n. first_of (λ h. TypeEnds a h) r s n (name_ends x.name)))

    fits : (xs : List Declarator) → deepest_value xs ≤ d → ManyFit DeclaratorW d xs
    fits [] w = tt
    fits (x ∷ xs) w = (omega arith, fits xs (omega arith))

    deepest : (xs : List Declarator) → ManyFit DeclaratorW d xs → deepest_value xs ≤ d
    deepest [] w = omega arith
    deepest (x ∷ xs) w = let h : optional_depth x.first ≤ d = w.0 in let g = deepest xs w.1 in omega arith

    comes : (y : Declaration) (p : List Tok) → Grammar.declaration y p → Comes declaration_tree (Two Grammar.scalar TailL) (λ x. Unit {0} × ManyFit DeclaratorW d x.1) (DeclarationW d) (λ x h. Unit {0}) Always y p
    comes y p l = record { value = (y.ty, y.declarators); same = refl; spelled = l; within = λ w. (tt, fits y.declarators (let h : deepest_value y.declarators + 1 ≤ suc d = w in omega arith)); stops = λ h s. tt }

    deepens : (x : Scalar × List Declarator) → Unit {0} × ManyFit DeclaratorW d x.1 → deepest_value x.1 + 1 ≤ suc d
    deepens x w = let h = deepest x.1 w.1 in omega arith

-- The first token of a declaration.
pub declaration_first : (x : Declaration) (p q : List Tok) → Grammar.declaration x p → starts_type (head (p ++ q)) ≡ true
declaration_first x p q l = first_of (λ h. starts_type h ≡ true) p q l (scalar_first x.ty)

-- a declaration of a type
declares : (t : Scalar) (p : List Tok) (more : List Tok) → Grammar.scalar t (p ++ more) → Begins Grammar.declaration p
declares t p more l =
    let b = tail_starts in
    record {
      value = record { ty = t; declarators = b.value };
      more = more ++ b.more;
      spelled = record { front = p ++ more; back = b.more; first = l; second = b.spelled; whole = sym (append_assoc p more b.more) };
    }

pub declaration_starts : (t : Tok) → starts_type (Some t) ≡ true → Begins Grammar.declaration (t ∷ [])
declaration_starts t h = let b = type_begins t h in declares b.value (t ∷ []) b.more b.spelled

start_at : (D b : ℕ) (ts : List Tok) → b + 1 ≡ D → declaration_at D ts ≡ declaration (whole_at b) ts
start_at zero b ts e = absurd (omega arith)
start_at (suc n) b ts e = let same : n ≡ b = omega arith in ap (λ (k : ℕ). declaration (whole_at k) ts) same

declaration_stops : (D : ℕ) (ts : List Tok) → starts_type (head ts) ≡ false → declaration_at D ts ≡ Err (wrong ts)
declaration_stops zero ts h = rw h refl
declaration_stops (suc d) ts h = stops_exact starts_type (declared_exact d) declaration_first ts h

-- A declaration is read exactly.
pub declaration_exact : (d : ℕ) → Exact declaration_at Grammar.declaration (λ D x. declaration_depth x ≤ D) Always Always d
declaration_exact zero =
    base_exact declaration_at (λ b. declaration (whole_at b)) Grammar.declaration (λ D x. declaration_depth x ≤ D) Always Always start_at
    starts_type declaration_stops (λ ts h. rw h refl) declaration_starts refl (λ x w. omega arith)
declaration_exact (suc d) = knot_exact declaration_at (λ b. declaration (whole_at b)) Grammar.declaration (λ D x. declaration_depth x ≤ D) Always Always start_at d (declared_exact d)

-- ---- the first part of a loop's head

abbrev NothingL : Start → Phrase
NothingL Nothing p = Is (Punctuator punct.Semicolon) p
NothingL (Declares x) p = ⊥
NothingL (Does s) p = ⊥

abbrev DeclaresL : Start → Phrase
DeclaresL Nothing p = ⊥
DeclaresL (Declares x) p = Grammar.declaration x p
DeclaresL (Does s) p = ⊥

abbrev DoesL : Start → Phrase
DoesL Nothing p = ⊥
DoesL (Declares x) p = ⊥
DoesL (Does s) p = Seq (simple s) (Is (Punctuator punct.Semicolon)) p

abbrev StartW : ℕ → Start → Type 0
StartW d x = start_depth x ≤ d

nothing_exact : (d : ℕ) → Exact (λ D. map_parser (λ x. Nothing) (expect (Punctuator punct.Semicolon))) NothingL StartW Always Always d
nothing_exact d = value_of (λ x. Nothing) NothingL StartW Always Always (take_exact (the_fixed (Punctuator punct.Semicolon)) d) comes (λ x p l. l) (λ x w. omega arith) (λ x h c. tt)
  where
    comes : (y : Start) (p : List Tok) → NothingL y p → Comes (λ (x : Unit {0}). Nothing) (One (the_fixed (Punctuator punct.Semicolon))) (λ x. Unit {0}) (StartW d) Always Always y p
    comes Nothing p l = record { value = tt; same = refl; spelled = l; within = λ w. tt; stops = λ h s. tt }
    comes (Declares x) p l = absurd l
    comes (Does s) p l = absurd l

declares_exact : (d : ℕ) → Exact (λ D. map_parser Declares (declaration_at D)) DeclaresL StartW Always Always d
declares_exact d = value_of Declares DeclaresL StartW Always Always (declaration_exact d) comes (λ x p l. l) (λ x w. w) (λ x h c. tt)
  where
    comes : (y : Start) (p : List Tok) → DeclaresL y p → Comes Declares Grammar.declaration (λ x. declaration_depth x ≤ d) (StartW d) Always Always y p
    comes (Declares x) p l = record { value = x; same = refl; spelled = l; within = λ w. w; stops = λ h s. tt }
    comes Nothing p l = absurd l
    comes (Does s) p l = absurd l

does_exact : (d : ℕ) → Exact (λ D. map_parser Does (before (Punctuator punct.Semicolon) (simple_at D))) DoesL StartW Always Always d
does_exact d = value_of Does DoesL StartW Always Always (before_exact (Punctuator punct.Semicolon) (simple_exact d) semicolon_ends) comes (λ x p l. l) (λ x w. w) (λ x h c. tt)
  where
    comes : (y : Start) (p : List Tok) → DoesL y p → Comes Does (λ s. Seq (simple s) (Is (Punctuator punct.Semicolon))) (λ s. simple_depth s ≤ d) (StartW d) Always Always y p
    comes (Does s) p l = record { value = s; same = refl; spelled = l; within = λ w. w; stops = λ h s. tt }
    comes Nothing p l = absurd l
    comes (Declares x) p l = absurd l

does_first : (s : Simple) (p q : List Tok) → Seq (simple s) (Is (Punctuator punct.Semicolon)) p → starts_simple (head (p ++ q)) ≡ true
does_first s p q l = first_of (λ h. starts_simple h ≡ true) p q l (simple_first s)

-- The first part of a loop's head is read exactly.
pub start_exact : (d : ℕ) → Exact start Grammar.start (λ D x. start_depth x ≤ D) Always Always d
start_exact d =
    relabel start (λ x p. NothingL x p ⊎ (DeclaresL x p ⊎ DoesL x p)) Grammar.start StartW StartW Always Always Always Always d
    (either_exact (is_next (Punctuator punct.Semicolon)) Always (nothing_exact d)
    (either_exact starts_type Always (declares_exact d) (does_exact d) types no_types (λ x p r l h c. tt) (λ x p r l h c. tt))
    semicolons no_semicolons (λ x p r l h c. tt) (λ x p r l h c. tt))
    to from (λ x p l w. w) (λ x w. w) (λ x h s. s) (λ x h c. c)
  where
    types : (x : Start) (p q : List Tok) → DeclaresL x p → Unit {0} → starts_type (head (p ++ q)) ≡ true
    types (Declares x) p q l h = declaration_first x p q l
    types Nothing p q l h = absurd l
    types (Does s) p q l h = absurd l

    no_types : (x : Start) (p q : List Tok) → DoesL x p → Unit {0} → starts_type (head (p ++ q)) ≡ false
    no_types (Does s) p q l h = simple_not_type (head (p ++ q)) (does_first s p q l)
    no_types Nothing p q l h = absurd l
    no_types (Declares x) p q l h = absurd l

    semicolons : (x : Start) (p q : List Tok) → NothingL x p → Unit {0} → is_next (Punctuator punct.Semicolon) (head (p ++ q)) ≡ true
    semicolons Nothing p q l h = is_here (Punctuator punct.Semicolon) p q l
    semicolons (Declares x) p q l h = absurd l
    semicolons (Does s) p q l h = absurd l

    no_semicolons : (x : Start) (p q : List Tok) → DeclaresL x p ⊎ DoesL x p → Unit {0} → is_next (Punctuator punct.Semicolon) (head (p ++ q)) ≡ false
    no_semicolons (Declares x) p q (inl l) h = type_not_fixed (Punctuator punct.Semicolon) (head (p ++ q)) refl (declaration_first x p q l)
    no_semicolons (Does s) p q (inr l) h = simple_not_fixed (Punctuator punct.Semicolon) (head (p ++ q)) refl (does_first s p q l)
    no_semicolons Nothing p q (inl l) h = absurd l
    no_semicolons Nothing p q (inr l) h = absurd l
    no_semicolons (Declares x) p q (inr l) h = absurd l
    no_semicolons (Does s) p q (inl l) h = absurd l

    to : (x : Start) (p : List Tok) → NothingL x p ⊎ (DeclaresL x p ⊎ DoesL x p) → Grammar.start x p
    to Nothing p (inl l) = l
    to Nothing p (inr (inl l)) = absurd l
    to Nothing p (inr (inr l)) = absurd l
    to (Declares x) p (inl l) = absurd l
    to (Declares x) p (inr (inl l)) = l
    to (Declares x) p (inr (inr l)) = absurd l
    to (Does s) p (inl l) = absurd l
    to (Does s) p (inr (inl l)) = absurd l
    to (Does s) p (inr (inr l)) = l

    from : (x : Start) (p : List Tok) → Grammar.start x p → NothingL x p ⊎ (DeclaresL x p ⊎ DoesL x p)
    from Nothing p l = inl l
    from (Declares x) p l = inr (inl l)
    from (Does s) p l = inr (inr l)

abbrev pub start_begins : Begins Grammar.start []
start_begins = let b = one_begins (Punctuator punct.Semicolon) in record { value = Nothing; more = b.more; spelled = b.spelled }
