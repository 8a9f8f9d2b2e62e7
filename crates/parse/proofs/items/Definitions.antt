-- What stands behind a function's name is read exactly.
use Rattle.std.proofs.Common.{◌≡◌, ℕ, ◌≤◌, Bool, true, false, not, if◌then◌else◌, IsSome, List, [], ◌∷◌, ◌++◌, Option, Some, None, refl, sym, ap, subst, ◌∙◌, append_assoc, arith, ◌⊎◌, inl, inr, is_some}
use Rattle.std.proofs.lemmas.List.{append-nil}
use Rattle.lex.specs.declared.token.Fixed.{Fixed}
use Rattle.lex.specs.declared.token.Fixed.TheVariants.{Keyword, Punctuator}
use Rattle.lex.specs.declared.token.Keyword.TheVariants as key
use Rattle.lex.specs.declared.token.Punctuator.TheVariants as punct
use Rattle.lex.specs.declared.token.Scalar.{Scalar}
use Rattle.lex.specs.Tokens.{Terminal, fixed, Tok}
use Rattle.syntax.specs.declared.tree.Attribute.{Attribute}
use Rattle.syntax.specs.Tree.{Name, Stmt, Stmts, Parameter, Item}
use Rattle.syntax.specs.Depth.{block_depth, body_depth, item_depth}
use Rattle.syntax.specs.Views.{stmts_from}
use Rattle.syntax.specs.Phrases.{Phrase, Seq, One, Is, Nil, Begins, Listed, is_fixed}
use Rattle.syntax.specs.Grammar.{name_in, the_name, optional, block, attributes, parameter, parameters, AreNamed, body}
use Rattle.parse.specs.inner.Reading.{head, none, map_parser, either, comma_list, expect, is_next}
use Rattle.parse.specs.inner.Expressions.{says, type_of_fixed}
use Rattle.parse.specs.inner.Items.{parameter_tree, parameter_list, maybe_name, is_plain, are_named, defined_at, body_at, Header, function_tree, function_at}
use Rattle.parse.specs.inner.Items as read
use Rattle.parse.proofs.combinators.Exact.{Exact, Always, Shallow, Comes, Two, Dep, Empty, Nothing, take_exact, give_exact, none_exact, relabel, restated, two, chained_one, value_of}
use Rattle.parse.proofs.combinators.FixedTokens.{that_fixed, one_begins, one_head}
use Rattle.parse.proofs.combinators.Parts.{is_here, is_not_here, seq_here, seq_not_here, tail_begins, behind_exact, before_exact}
use Rattle.parse.proofs.combinators.Lists.{listed_exact}
use Rattle.parse.proofs.combinators.Starts.{true_not_false}
use Rattle.parse.proofs.expressions.Scalars.{TypeEnds, name_ends, scalar_exact, scalar_begins}
use Rattle.parse.proofs.statements.Entries.{statements, from_statements}
use Rattle.parse.proofs.statements.Stmts.{block_exact}
use Rattle.parse.proofs.items.Headers.{next_not, Next, Parted, parted_not, front_head, one_of, SomeL, some_exact, sign_exact, plain_true, all_shallow, attributes_exact, no_words, scalar_not}

-- ---- parameters

-- a fixed token is no name
no_name : (k : Fixed) (h : Option Tok) → is_next k h ≡ true → says the_name h ≡ false
no_name k None e = refl
no_name k (Some t) e = ap (λ (l : Terminal). is_some (name_in l t.span)) (that_fixed k t e)

parted_no_name : {A : Type 0} (x : A) (h : Option Tok) → Parted (Punctuator punct.CloseParen) x h → says the_name h ≡ false
parted_no_name x h (inl e) = no_name (Punctuator punct.Comma) h e
parted_no_name x h (inr e) = no_name (Punctuator punct.CloseParen) h e

maybe_exact : (d : ℕ) → Exact (λ D. maybe_name) (optional (One the_name)) (λ D. Shallow D) (λ x. Parted (Punctuator punct.CloseParen) x) Always d
maybe_exact d =
    one_of (says the_name) (optional (One the_name)) (some_exact (λ x. Parted (Punctuator punct.CloseParen) x) (take_exact the_name d) (λ x h s. tt)) (give_exact None (λ D. Shallow D) (λ x. Parted (Punctuator punct.CloseParen) x) Always d tt (λ h. tt))
    name_here nothing_here some_is (λ x p l. subst (λ (z : Option Name). optional (One the_name) z p) (sym l.0) l.1) from
  where
    name_here : (x : Option Name) (p q : List Tok) → SomeL (One the_name) x p → Parted (Punctuator punct.CloseParen) x (head q) → says the_name (head (p ++ q)) ≡ true
    name_here None p q l h = absurd l
    name_here (Some x) p q l h = ap (says the_name) (one_head l q) ∙ ap is_some l.has

    nothing_here : (x : Option Name) (p q : List Tok) → Empty None x p → Parted (Punctuator punct.CloseParen) x (head q) → says the_name (head (p ++ q)) ≡ false
    nothing_here x p q l h = ap (λ (z : List Tok). says the_name (head (z ++ q))) l.1 ∙ parted_no_name x (head q) h

    some_is : (x : Option Name) (p : List Tok) → SomeL (One the_name) x p → optional (One the_name) x p
    some_is None p l = absurd l
    some_is (Some x) p l = l

    from : (x : Option Name) (p : List Tok) → optional (One the_name) x p → SomeL (One the_name) x p ⊎ Empty None x p
    from None p l = inr (refl, l)
    from (Some x) p l = inl l

-- what stands between the parentheses
abbrev InnerL : List Parameter → Phrase
InnerL [] p = Nil p ⊎ Is (Keyword key.Void) p
InnerL (q ∷ qs) p = Listed parameter (q ∷ qs) p

abbrev VoidL : List Parameter → Phrase
VoidL x p = (x ≡ []) × Is (Keyword key.Void) p

abbrev WrittenL : List Parameter → Phrase
WrittenL x p = VoidL x p ⊎ Listed parameter x p

parameter_exact : (d : ℕ) → Exact (λ D. read.parameter) parameter (λ D. Shallow D) (λ x. Parted (Punctuator punct.CloseParen) x) Always d
parameter_exact d =
    value_of parameter_tree parameter (λ D. Shallow D) (λ x. Parted (Punctuator punct.CloseParen) x) Always
    (two (scalar_exact d) (maybe_exact d) follow (record { value = None; more = []; spelled = refl }))
    (λ y p l. record { value = (y.ty, y.name); same = refl; spelled = l; within = λ w. (tt, tt); stops = λ h s. s }) (λ x p l. l) (λ x w. tt) (λ x h c. tt)
  where
    follow : (a : Scalar) (b : Option Name) (p q : List Tok) → optional (One the_name) b p → Parted (Punctuator punct.CloseParen) b (head q) → TypeEnds a (head (p ++ q))
    follow a None p q l h = subst (λ (z : List Tok). TypeEnds a (head (z ++ q))) (sym l) (parted_not (Punctuator punct.CloseParen) (Keyword key.Int) a refl refl (head q) h, parted_not (Punctuator punct.CloseParen) (Keyword key.Long) a refl refl (head q) h)
    follow a (Some x) p q l h = name_ends x p q l

parameter_begins : Begins parameter []
parameter_begins = let b = scalar_begins in record { value = record { ty = b.value; name = None }; more = b.more; spelled = record { front = b.more; back = []; first = b.spelled; second = refl; whole = sym (append-nil b.more) } }

listed_parameters : (d : ℕ) → Exact (λ D. comma_list read.parameter) (Listed parameter) (λ D. Shallow D) (λ x. Next (Punctuator punct.CloseParen) x) Always d
listed_parameters d =
    restated (Listed parameter) (λ D. Shallow D) (λ x. Next (Punctuator punct.CloseParen) x) Always
    (listed_exact (λ h. is_next (Punctuator punct.CloseParen) h ≡ true) (parameter_exact d) parameter_begins (λ x h o e. inr e) (λ x t is. inl (rw is refl)))
    (λ x p l. l) (λ x p l. l) (λ x p l w. tt) (λ x p l w. all_shallow d x) (λ x p h l s. (ap not (next_not (Punctuator punct.CloseParen) (Punctuator punct.Comma) refl h s), s)) (λ x p h l c. tt)

parameter_not : (j : Fixed) → is_some (type_of_fixed j) ≡ false → (xs : List Parameter) (p q : List Tok) → Listed parameter xs p → is_next j (head (p ++ q)) ≡ false
parameter_not j apart [] p q l = absurd l
parameter_not j apart (x ∷ xs) p q l =
    let outer = front_head p q l in
    let inner = front_head l.front (l.back ++ q) l.first in
    ap (is_next j) (outer ∙ inner) ∙ scalar_not j apart x.ty l.first.front (l.first.back ++ (l.back ++ q)) l.first.first

written_exact : (d : ℕ) → Exact (λ D. either (is_next (Keyword key.Void)) (map_parser (λ x. []) (expect (Keyword key.Void))) (comma_list read.parameter)) WrittenL (λ D. Shallow D) (λ x. Next (Punctuator punct.CloseParen) x) Always d
written_exact d =
    one_of (is_next (Keyword key.Void)) WrittenL (sign_exact (Keyword key.Void) [] (λ D. Shallow D) (λ x. Next (Punctuator punct.CloseParen) x) d tt) (listed_parameters d)
    (λ x p q l h. is_here (Keyword key.Void) p q l.1) (λ x p q l h. parameter_not (Keyword key.Void) refl x p q l) (λ x p l. inl l) (λ x p l. inr l) (λ x p l. l)

written_not : (x : List Parameter) (p q : List Tok) → WrittenL x p → is_next (Punctuator punct.CloseParen) (head (p ++ q)) ≡ false
written_not x p q (inl l) = is_not_here (Keyword key.Void) (Punctuator punct.CloseParen) p q refl l.1
written_not x p q (inr l) = parameter_not (Punctuator punct.CloseParen) refl x p q l

inner_exact : (d : ℕ) → Exact (λ D. parameter_list) InnerL (λ D. Shallow D) (λ x. Next (Punctuator punct.CloseParen) x) Always d
inner_exact d =
    one_of (is_next (Punctuator punct.CloseParen)) InnerL (give_exact [] (λ D. Shallow D) (λ x. Next (Punctuator punct.CloseParen) x) Always d tt (λ h. tt)) (written_exact d)
    (λ x p q l h. ap (λ (z : List Tok). is_next (Punctuator punct.CloseParen) (head (z ++ q))) l.1 ∙ h) (λ x p q l h. written_not x p q l)
    (λ x p l. subst (λ (z : List Parameter). InnerL z p) (sym l.0) (inl l.1)) written_is from
  where
    written_is : (x : List Parameter) (p : List Tok) → WrittenL x p → InnerL x p
    written_is x p (inl l) = subst (λ (z : List Parameter). InnerL z p) (sym l.0) (inr l.1)
    written_is [] p (inr l) = absurd l
    written_is (q ∷ qs) p (inr l) = l

    from : (x : List Parameter) (p : List Tok) → InnerL x p → Empty [] x p ⊎ WrittenL x p
    from [] p (inl l) = inl (refl, l)
    from [] p (inr l) = inr (inl (refl, l))
    from (q ∷ qs) p l = inr (inr l)

pub parameters_exact : (d : ℕ) → Exact (λ D. read.parameters) parameters (λ D. Shallow D) Always Always d
parameters_exact d =
    relabel (λ D. read.parameters) (λ x. Seq (Is (Punctuator punct.OpenParen)) (Seq (InnerL x) (Is (Punctuator punct.CloseParen)))) parameters (λ D. Shallow D) (λ D. Shallow D) Always Always Always Always d
    (behind_exact (Punctuator punct.OpenParen) (before_exact (Punctuator punct.CloseParen) (inner_exact d) (λ a t is. rw is refl)) (tail_begins (Punctuator punct.CloseParen) InnerL (record { value = []; more = []; spelled = inl refl })))
    to from (λ x p l w. tt) (λ x w. tt) (λ x h s. tt) (λ x h c. tt)
  where
    to : (x : List Parameter) (p : List Tok) → Seq (Is (Punctuator punct.OpenParen)) (Seq (InnerL x) (Is (Punctuator punct.CloseParen))) p → parameters x p
    to [] p l = l
    to (q ∷ qs) p l = l

    from : (x : List Parameter) (p : List Tok) → parameters x p → Seq (Is (Punctuator punct.OpenParen)) (Seq (InnerL x) (Is (Punctuator punct.CloseParen))) p
    from [] p l = l
    from (q ∷ qs) p l = l

-- ---- bodies

some_is : (o : Option Name) → IsSome o → is_some o ≡ true
some_is None h = absurd cc
some_is (Some x) h = refl

is_some_too : (o : Option Name) → is_some o ≡ true → IsSome o
is_some_too None e = absurd cc
is_some_too (Some x) e = refl

are_named_is : (qs : List Parameter) → AreNamed qs → are_named qs ≡ true
are_named_is [] n = refl
are_named_is (q ∷ qs) n = ap (λ (b : Bool). if b then are_named qs else false) (some_is q.name n.0) ∙ are_named_is qs n.1

is_are_named : (qs : List Parameter) → are_named qs ≡ true → AreNamed qs
is_are_named [] e = tt
is_are_named (q ∷ qs) e = go (is_are_named qs) (is_some q.name) refl e
  where
    go : (are_named qs ≡ true → AreNamed qs) → (b : Bool) → is_some q.name ≡ b → (if b then are_named qs else false) ≡ true → AreNamed (q ∷ qs)
    go rest true is h = (is_some_too q.name is, rest h)
    go rest false is h = absurd cc

abbrev BodyW : ℕ → Option Stmts → Type 0
BodyW d b = body_depth b ≤ d

abbrev DefinedL : List Parameter → Option Stmts → Phrase
DefinedL qs None p = ⊥
DefinedL qs (Some ss) p = AreNamed qs × block ss p

abbrev PrototypeL : Option Stmts → Phrase
PrototypeL b p = (b ≡ None) × Is (Punctuator punct.Semicolon) p

body_begins : (qs : List Parameter) → Begins (body qs) []
body_begins qs = let b = one_begins (Punctuator punct.Semicolon) in record { value = None; more = b.more; spelled = b.spelled }

body_not : (j : Fixed) → is_fixed j (fixed (Punctuator punct.Semicolon)) ≡ false → is_fixed j (fixed (Punctuator punct.OpenBrace)) ≡ false → (qs : List Parameter) (b : Option Stmts) (p q : List Tok) → body qs b p → is_next j (head (p ++ q)) ≡ false
body_not j semicolon brace qs None p q l = is_not_here (Punctuator punct.Semicolon) j p q semicolon l
body_not j semicolon brace qs (Some ss) p q l = seq_not_here (Punctuator punct.OpenBrace) j _ p q brace l.1

-- ---- functions

-- behind a header: the parts of the function
abbrev PartsL : (List Parameter × List Attribute) × Option Stmts → Phrase
PartsL = Dep (Two parameters attributes) (λ x. body x.0)

abbrev pub FunctionL : Header → Item → Phrase
FunctionL h i p = (x : (List Parameter × List Attribute) × Option Stmts) × (i ≡ function_tree h x) × PartsL x p

abbrev pub ItemW : ℕ → Item → Type 0
ItemW d i = item_depth i ≤ d

-- a function's parts begin with a parenthesis
pub function_first : (h : Header) (i : Item) (p q : List Tok) → FunctionL h i p → is_next (Punctuator punct.OpenParen) (head (p ++ q)) ≡ true
function_first h i p q l =
    let s = l.2 in
    let outer = front_head p q s in
    let inner = front_head s.front (s.back ++ q) s.first in
    ap (is_next (Punctuator punct.OpenParen)) (outer ∙ inner) ∙ parameters_first l.0.0.0 s.first.front (s.first.back ++ (s.back ++ q)) s.first.first
  where
    parameters_first : (x : List Parameter) (p q : List Tok) → parameters x p → is_next (Punctuator punct.OpenParen) (head (p ++ q)) ≡ true
    parameters_first [] p q l = seq_here (Punctuator punct.OpenParen) _ p q l
    parameters_first (x ∷ xs) p q l = seq_here (Punctuator punct.OpenParen) _ p q l

pub function_begins : (h : Header) → Begins (FunctionL h) []
function_begins h =
    let o = one_begins (Punctuator punct.OpenParen) in
    let c = one_begins (Punctuator punct.CloseParen) in
    let b = body_begins [] in
    record {
      value = function_tree h (([], []), b.value);
      more = o.more ++ (c.more ++ b.more);
      spelled = (
        (([], []), b.value),
        refl,
        record {
          front = o.more ++ c.more;
          back = b.more;
          first = record {
            front = o.more ++ c.more;
            back = [];
            first = record { front = o.more; back = c.more; first = o.spelled; second = record { front = []; back = c.more; first = inl refl; second = c.spelled; whole = refl }; whole = refl };
            second = no_words;
            whole = sym (append-nil (o.more ++ c.more));
          };
          second = b.spelled;
          whole = sym (append_assoc o.more c.more b.more);
        },
      );
    }

defined_exact : (d : ℕ) (qs : List Parameter) (b : Bool) → are_named qs ≡ b → Exact (λ D. defined_at D b) (DefinedL qs) BodyW Always Always d
defined_exact d qs true e = value_of (λ ss. Some (stmts_from ss)) (DefinedL qs) BodyW Always Always (block_exact d) comes (λ x p l. (is_are_named qs e, l)) (λ x w. w) (λ x h c. tt)
  where
    comes : (y : Option Stmts) (p : List Tok) → DefinedL qs y p → Comes (λ (ss : List Stmt). Some (stmts_from ss)) (λ ss. block (stmts_from ss)) (λ ss. block_depth (stmts_from ss) ≤ d) (λ b. body_depth b ≤ d) (λ x h. Unit {0}) Always y p
    comes None p l = absurd l
    comes (Some ss) p l =
        record {
          value = statements ss;
          same = ap Some (sym (from_statements ss));
          spelled = subst (λ (z : Stmts). block z p) (sym (from_statements ss)) l.1;
          within = λ w. subst (λ (z : Stmts). block_depth z ≤ d) (sym (from_statements ss)) w;
          stops = λ h s. tt;
        }
defined_exact d qs false e = relabel (λ D. none) Nothing (DefinedL qs) BodyW BodyW Always Always Always Always d (none_exact BodyW Always Always d) (λ x p l. absurd l) from (λ x p l w. w) (λ x w. w) (λ x h s. s) (λ x h c. c)
  where
    from : (x : Option Stmts) (p : List Tok) → DefinedL qs x p → Nothing x p
    from None p l = l
    from (Some ss) p l = let n = are_named_is qs l.0 in true_not_false n e

body_exact : (d : ℕ) (qs : List Parameter) → Exact (λ D. body_at D qs) (body qs) BodyW Always Always d
body_exact d qs =
    one_of (is_next (Punctuator punct.OpenBrace)) (body qs) (defined_exact d qs (are_named qs) refl) (sign_exact (Punctuator punct.Semicolon) None BodyW Always d (omega arith))
    defined_here (λ x p q l h. is_not_here (Punctuator punct.Semicolon) (Punctuator punct.OpenBrace) p q refl l.1) defined_is (λ x p l. subst (λ (z : Option Stmts). body qs z p) (sym l.0) l.1) from
  where
    defined_here : (x : Option Stmts) (p q : List Tok) → DefinedL qs x p → Unit {0} → is_next (Punctuator punct.OpenBrace) (head (p ++ q)) ≡ true
    defined_here None p q l h = absurd l
    defined_here (Some ss) p q l h = seq_here (Punctuator punct.OpenBrace) _ p q l.1

    defined_is : (x : Option Stmts) (p : List Tok) → DefinedL qs x p → body qs x p
    defined_is None p l = absurd l
    defined_is (Some ss) p l = l

    from : (x : Option Stmts) (p : List Tok) → body qs x p → DefinedL qs x p ⊎ PrototypeL x p
    from None p l = inr (refl, l)
    from (Some ss) p l = inl l

pub function_exact : (d : ℕ) (h : Header) → Exact (λ D. function_at D h) (FunctionL h) ItemW Always Always d
function_exact d h =
    value_of (function_tree h) (FunctionL h) ItemW Always Always
    (chained_one (two (parameters_exact d) (attributes_exact d) (λ a b p q l s. tt) (record { value = []; more = []; spelled = no_words })) (λ x. body_exact d x.0) follow (λ x. body_begins x.0))
    comes (λ x p l. (x, refl, l)) (λ x w. w.1) (λ x h c. tt)
  where
    follow : (a : List Parameter × List Attribute) (b : Option Stmts) (p q : List Tok) → body a.0 b p → Unit {0} → is_plain (head (p ++ q)) ≡ true
    follow a b p q l s = plain_true (head (p ++ q)) (body_not (Punctuator punct.OpenBracket) refl refl a.0 b p q l) (body_not (Keyword key.Attribute) refl refl a.0 b p q l)

    comes : (y : Item) (p : List Tok) → FunctionL h y p → Comes (function_tree h) PartsL (λ x. (Unit {0} × Unit {0}) × BodyW d x.1) (ItemW d) (λ x o. Unit {0}) Always y p
    comes y p l = record { value = l.0; same = l.1; spelled = l.2; within = λ w. ((tt, tt), subst (λ (z : Item). item_depth z ≤ d) l.1 w); stops = λ o s. tt }
