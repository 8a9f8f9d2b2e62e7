-- Global variables are read exactly, behind the first one's name.
use Rattle.std.proofs.Common.{◌≡◌, ℕ, Bool, true, false, List, [], ◌∷◌, ◌++◌, Option, Some, None, refl, sym, ap, subst, ◌∙◌, ◌⊎◌, inl, inr}
use Rattle.std.proofs.lemmas.List.{append-nil}
use Rattle.lex.specs.declared.token.Fixed.{Fixed}
use Rattle.lex.specs.declared.token.Fixed.TheVariants.{Punctuator}
use Rattle.lex.specs.declared.token.Punctuator.TheVariants as punct
use Rattle.lex.specs.declared.token.Scalar.{Scalar}
use Rattle.lex.specs.declared.token.Scalar.TheVariants.{Int}
use Rattle.lex.specs.declared.token.Span.{Span}
use Rattle.lex.specs.Tokens.{Terminal, name, constant, string_literal, fixed, reserved, Tok}
use Rattle.syntax.specs.declared.tree.Initialiser.{Initialiser}
use Rattle.syntax.specs.Tree.{Name, Global, Item}
use Rattle.syntax.specs.Phrases.{Phrase, Seq, One, Is, Begins, Many, Covers, is_fixed, fixed_span}
use Rattle.syntax.specs.Grammar.{the_name, the_value, the_length, minus, initialiser, first_value, first_values, optional, global_phrase, global}
use Rattle.syntax.specs.Grammar as grammar
use Rattle.parse.specs.inner.Reading.{head, take, is_next, is_other, across, map_parser, seq, many_until, behind, before, in_front}
use Rattle.parse.specs.inner.Items.{value_in, value_with_span, first_tree, one_first, further_values, Size, array_tree, variable_tree, global_tree, globals_tree, globals_from}
use Rattle.parse.specs.inner.Items as read
use Rattle.parse.proofs.combinators.Exact.{Exact, Always, Shallow, Comes, Two, Empty, take_exact, give_exact, restated, two, value_of}
use Rattle.parse.proofs.combinators.Many.{ManyFit}
use Rattle.parse.proofs.combinators.FixedTokens.{one_head}
use Rattle.parse.proofs.combinators.Parts.{seq_map, seq_left, seq_right, un_seq_left, is_here, is_not_here, seq_here, seq_not_here, fixed_has_span, span_is_fixed, head_begins, tail_begins, behind_exact, before_exact, perhaps_exact, MaybeW, MaybeS}
use Rattle.parse.proofs.combinators.Lists as lists
use Rattle.parse.proofs.combinators.Trailing.{Trailed, trailing_exact}
use Rattle.parse.proofs.expressions.Scalars.{name_begins}
use Rattle.parse.proofs.items.Headers.{Next, Parted, parted_not, front_head, all_shallow, one_of}

-- ---- first values

-- a constant that is seen with its span
value_has_span : (k : Terminal) (at : Span) (x : ℕ × Scalar) → grammar.value_in k ≡ Some x → value_in k at ≡ Some (x, at)
value_has_span (constant n t) at x h = let same : ◌≡◌ {A = ℕ × Scalar} (n, t) x = cc in ap (λ (z : ℕ × Scalar). Some (z, at)) same
value_has_span k at x h = absurd cc

span_has_value : (k : Terminal) (at : Span) (x : (ℕ × Scalar) × Span) → value_in k at ≡ Some x → (grammar.value_in k ≡ Some x.0) × (at ≡ x.1) × (is_fixed (Punctuator punct.Minus) k ≡ false)
span_has_value (constant n t) at x h =
    let same : ◌≡◌ {A = (ℕ × Scalar) × Span} ((n, t), at) x = cc in
    (ap (λ (z : (ℕ × Scalar) × Span). Some z.0) same, ap (λ (z : (ℕ × Scalar) × Span). z.1) same, refl)
span_has_value k at x h = absurd cc

abbrev SignedL : Option Span × ((ℕ × Scalar) × Span) → Phrase
SignedL = Two (optional (One (fixed_span (Punctuator punct.Minus)))) (One value_with_span)

first_goes : (x : Option Span × ((ℕ × Scalar) × Span)) (p : List Tok) → SignedL x p → initialiser (first_tree x) p
first_goes (None, n) p s =
    let o = s.second in
    let i = span_has_value o.token.terminal o.token.span n o.has in
    let whole : p ≡ o.token ∷ [] = s.whole ∙ ap (λ (z : List Tok). z ++ s.back) s.first ∙ o.whole in
    subst (initialiser (first_tree (None, n))) (sym whole)
    (sym i.1, record { front = []; back = o.token ∷ []; first = refl; second = record { token = o.token; has = i.0; whole = refl }; whole = refl })
first_goes (Some at, n) p s =
    let o = s.second in
    let i = span_has_value o.token.terminal o.token.span n o.has in
    let h = span_is_fixed (Punctuator punct.Minus) s.first.token at s.first.has in
    let whole : p ≡ s.first.token ∷ o.token ∷ [] = rw (s.whole, s.first.whole, o.whole) refl in
    let covers : ◌≡◌ (across at n.1) (record { start = s.first.token.span.start; «end» = o.token.span.«end» }) = rw (h.1, i.1) refl in
    subst (initialiser (first_tree (Some at, n))) (sym whole)
    (covers, record { front = s.first.token ∷ []; back = o.token ∷ []; first = record { token = s.first.token; has = h.0; whole = refl }; second = record { token = o.token; has = i.0; whole = refl }; whole = refl })

first_comes : (d : ℕ) (i : Initialiser) (p : List Tok) → initialiser i p → Comes first_tree SignedL (λ x. MaybeW (λ D. Shallow D) d x.0 × Unit {0}) (λ x. Unit {0}) (λ x h. Unit {0}) Always i p
first_comes d i p l = go i.negative refl l.1
  where
    go : (b : Bool) → i.negative ≡ b → Seq (minus b) (One the_value (i.value, i.ty)) p → Comes first_tree SignedL (λ x. MaybeW (λ D. Shallow D) d x.0 × Unit {0}) (λ x. Unit {0}) (λ x h. Unit {0}) Always i p
    go true is s =
        let o = s.second in
        let whole : p ≡ s.first.token ∷ o.token ∷ [] = rw (s.whole, s.first.whole, o.whole) refl in
        let covers : Covers i.span (s.first.token ∷ o.token ∷ []) = subst (Covers i.span) whole l.0 in
        let same : ◌≡◌ {A = Initialiser} (record { negative = i.negative; value = i.value; ty = i.ty; span = i.span }) (first_tree (Some s.first.token.span, ((i.value, i.ty), o.token.span))) = rw (is, covers) refl in
        record {
          value = (Some s.first.token.span, ((i.value, i.ty), o.token.span));
          same = same;
          spelled = record { front = s.front; back = s.back; first = record { token = s.first.token; has = fixed_has_span (Punctuator punct.Minus) s.first.token s.first.has; whole = s.first.whole }; second = record { token = o.token; has = value_has_span o.token.terminal o.token.span (i.value, i.ty) o.has; whole = o.whole }; whole = s.whole };
          within = λ w. (tt, tt);
          stops = λ h c. tt;
        }
    go false is s =
        let o = s.second in
        let whole : p ≡ o.token ∷ [] = s.whole ∙ ap (λ (z : List Tok). z ++ s.back) s.first ∙ o.whole in
        let covers : Covers i.span (o.token ∷ []) = subst (Covers i.span) whole l.0 in
        let same : ◌≡◌ {A = Initialiser} (record { negative = i.negative; value = i.value; ty = i.ty; span = i.span }) (first_tree (None, ((i.value, i.ty), o.token.span))) = rw (is, covers) refl in
        record {
          value = (None, ((i.value, i.ty), o.token.span));
          same = same;
          spelled = record { front = s.front; back = s.back; first = s.first; second = record { token = o.token; has = value_has_span o.token.terminal o.token.span (i.value, i.ty) o.has; whole = o.whole }; whole = s.whole };
          within = λ w. (tt, tt);
          stops = λ h c. tt;
        }

-- a span says its fixed token
expect_span_here : (k : Fixed) (at : Span) (p q : List Tok) → One (fixed_span k) at p → is_next k (head (p ++ q)) ≡ true
expect_span_here k at p q o = let pm = span_is_fixed k o.token at o.has in is_here k p q (record { token = o.token; has = pm.0; whole = o.whole })

abbrev some_constant : Tok
some_constant = record { terminal = constant 0 Int; span = record { start = 0; «end» = 0 } }

abbrev value_begins : Begins (One value_with_span) []
value_begins = record { value = ((0, Int), record { start = 0; «end» = 0 }); more = some_constant ∷ []; spelled = record { token = some_constant; has = refl; whole = refl } }

first_exact : (d : ℕ) → Exact (λ D. read.initialiser) initialiser (λ D. Shallow D) Always Always d
first_exact d =
    value_of first_tree initialiser (λ D. Shallow D) Always Always
    (two (perhaps_exact (Punctuator punct.Minus) (take_exact (fixed_span (Punctuator punct.Minus)) d) (expect_span_here (Punctuator punct.Minus))) (take_exact value_with_span d) follow value_begins)
    (first_comes d) first_goes (λ x w. tt) (λ x h c. tt)
  where
    follow : (a : Option Span) (b : (ℕ × Scalar) × Span) (p q : List Tok) → One value_with_span b p → Unit {0} → MaybeS (Punctuator punct.Minus) Always a (head (p ++ q))
    follow None b p q o h = ap (is_next (Punctuator punct.Minus)) (one_head o q) ∙ (span_has_value o.token.terminal o.token.span b o.has).2
    follow (Some x) b p q o h = tt

abbrev first_begins : Begins initialiser []
first_begins = let b = value_begins in record { value = first_tree (None, b.value); more = b.more; spelled = first_goes (None, b.value) b.more (record { front = []; back = b.more; first = refl; second = b.spelled; whole = refl }) }

-- a value does not begin with a brace
first_inside : (i : Initialiser) (p q : List Tok) → initialiser i p → is_next (Punctuator punct.CloseBrace) (head (p ++ q)) ≡ false
first_inside i p q l = go i.negative l.1
  where
    no_brace : (k : Terminal) (x : ℕ × Scalar) → grammar.value_in k ≡ Some x → is_fixed (Punctuator punct.CloseBrace) k ≡ false
    no_brace (name s) x h = refl
    no_brace (constant n t) x h = refl
    no_brace (string_literal s) x h = refl
    no_brace (fixed k) x h = absurd cc
    no_brace reserved x h = refl

    go : (b : Bool) → Seq (minus b) (One the_value (i.value, i.ty)) p → is_next (Punctuator punct.CloseBrace) (head (p ++ q)) ≡ false
    go true s = seq_not_here (Punctuator punct.Minus) (Punctuator punct.CloseBrace) _ p q refl s
    go false s =
        let o : One the_value (i.value, i.ty) p = un_seq_left s in
        ap (is_next (Punctuator punct.CloseBrace)) (one_head o q) ∙ no_brace o.token.terminal (i.value, i.ty) o.has

-- one value behind `=`
abbrev OneL : List Initialiser → Phrase
OneL [] p = ⊥
OneL (i ∷ []) p = Seq (Is (Punctuator punct.Assign)) (initialiser i) p
OneL (i ∷ j ∷ is) p = ⊥

value_exact : (d : ℕ) → Exact (λ D. read.first_value) first_value (λ D. Shallow D) (λ x. Parted (Punctuator punct.Semicolon) x) Always d
value_exact d =
    one_of (is_next (Punctuator punct.Assign)) first_value
    (value_of one_first OneL (λ D. Shallow D) (λ x. Parted (Punctuator punct.Semicolon) x) Always (behind_exact (Punctuator punct.Assign) (first_exact d) first_begins) comes (λ x p l. l) (λ x w. tt) (λ x h c. tt))
    (give_exact [] (λ D. Shallow D) (λ x. Parted (Punctuator punct.Semicolon) x) Always d tt (λ h. tt))
    here nothing_here one_is (λ x p l. subst (λ (z : List Initialiser). first_value z p) (sym l.0) l.1) from
  where
    comes : (y : List Initialiser) (p : List Tok) → OneL y p → Comes one_first (λ i. Seq (Is (Punctuator punct.Assign)) (initialiser i)) (λ x. Unit {0}) (λ x. Unit {0}) (λ x h. Unit {0}) (λ x. Parted (Punctuator punct.Semicolon) x) y p
    comes [] p l = absurd l
    comes (i ∷ []) p l = record { value = i; same = refl; spelled = l; within = λ w. tt; stops = λ h s. tt }
    comes (i ∷ j ∷ is) p l = absurd l

    here : (x : List Initialiser) (p q : List Tok) → OneL x p → Parted (Punctuator punct.Semicolon) x (head q) → is_next (Punctuator punct.Assign) (head (p ++ q)) ≡ true
    here [] p q l h = absurd l
    here (i ∷ []) p q l h = seq_here (Punctuator punct.Assign) _ p q l
    here (i ∷ j ∷ is) p q l h = absurd l

    nothing_here : (x : List Initialiser) (p q : List Tok) → Empty [] x p → Parted (Punctuator punct.Semicolon) x (head q) → is_next (Punctuator punct.Assign) (head (p ++ q)) ≡ false
    nothing_here x p q l h = ap (λ (z : List Tok). is_next (Punctuator punct.Assign) (head (z ++ q))) l.1 ∙ parted_not (Punctuator punct.Semicolon) (Punctuator punct.Assign) x refl refl (head q) h

    one_is : (x : List Initialiser) (p : List Tok) → OneL x p → first_value x p
    one_is [] p l = absurd l
    one_is (i ∷ []) p l = l
    one_is (i ∷ j ∷ is) p l = absurd l

    from : (x : List Initialiser) (p : List Tok) → first_value x p → OneL x p ⊎ Empty [] x p
    from [] p l = inr (refl, l)
    from (i ∷ []) p l = inl l
    from (i ∷ j ∷ is) p l = absurd l

-- ---- the values of an array

abbrev FurtherL : List Initialiser → Phrase
FurtherL = Trailed initialiser

further_exact : (d : ℕ) → Exact (λ D. further_values) FurtherL (λ D. Shallow D) (λ x. Next (Punctuator punct.CloseBrace) x) Always d
further_exact d =
    restated FurtherL (λ D. Shallow D) (λ x. Next (Punctuator punct.CloseBrace) x) Always
    (trailing_exact (first_exact d) first_inside (λ x t is. tt) (λ x t is. tt))
    (λ x p l. l) (λ x p l. l) (λ x p l w. tt) (λ x p l w. all_shallow d x) (λ x p h l s. s) (λ x p h l c. tt)

abbrev ListL : List Initialiser → Phrase
ListL [] p = ⊥
ListL (i ∷ is) p = Seq (initialiser i) (FurtherL is) p

list_exact : (d : ℕ) → Exact (λ D. map_parser in_front (seq read.initialiser further_values)) ListL (λ D. Shallow D) (λ x. Next (Punctuator punct.CloseBrace) x) Always d
list_exact d =
    value_of in_front ListL (λ D. Shallow D) (λ x. Next (Punctuator punct.CloseBrace) x) Always
    (two (first_exact d) (further_exact d) (λ a b p q l h. tt) (record { value = []; more = []; spelled = record { front = []; back = []; first = refl; second = inl refl; whole = refl } }))
    comes (λ x p l. l) (λ x w. tt) (λ x h c. tt)
  where
    comes : (y : List Initialiser) (p : List Tok) → ListL y p → Comes in_front (Two initialiser FurtherL) (λ x. Unit {0} × Unit {0}) (λ x. Unit {0}) (λ x h. Next (Punctuator punct.CloseBrace) x.1 h) (λ x. Next (Punctuator punct.CloseBrace) x) y p
    comes [] p l = absurd l
    comes (i ∷ is) p l = record { value = (i, is); same = refl; spelled = l; within = λ w. (tt, tt); stops = λ h s. s }

-- what stands behind `=`
abbrev InBracesL : List Initialiser → Phrase
InBracesL is = Seq (Is (Punctuator punct.OpenBrace)) (Seq (ListL is) (Is (Punctuator punct.CloseBrace)))

list_begins : Begins ListL []
list_begins = let b = first_begins in record { value = b.value ∷ []; more = b.more; spelled = record { front = b.more; back = []; first = b.spelled; second = record { front = []; back = []; first = refl; second = inl refl; whole = refl }; whole = sym (append-nil b.more) } }

values_exact : (d : ℕ) → Exact (λ D. read.first_values) first_values (λ D. Shallow D) (λ x. Parted (Punctuator punct.Semicolon) x) Always d
values_exact d =
    let closed = before_exact (Punctuator punct.CloseBrace) (list_exact d) (λ a t is. rw is refl) in
    let closed_begins = tail_begins (Punctuator punct.CloseBrace) ListL list_begins in
    let braces = behind_exact (Punctuator punct.OpenBrace) closed closed_begins in
    let assigned = behind_exact (Punctuator punct.Assign) braces (head_begins (Punctuator punct.OpenBrace) (λ is. Seq (ListL is) (Is (Punctuator punct.CloseBrace))) closed_begins) in
    one_of (is_next (Punctuator punct.Assign)) first_values
    (restated (λ is. Seq (Is (Punctuator punct.Assign)) (InBracesL is)) (λ D. Shallow D) (λ x. Parted (Punctuator punct.Semicolon) x) Always assigned (λ x p l. l) (λ x p l. l) (λ x p l w. w) (λ x p l w. w) (λ x p h l s. tt) (λ x p h l c. c))
    (give_exact [] (λ D. Shallow D) (λ x. Parted (Punctuator punct.Semicolon) x) Always d tt (λ h. tt))
    (λ x p q l h. seq_here (Punctuator punct.Assign) _ p q l) nothing_here values_are (λ x p l. subst (λ (z : List Initialiser). first_values z p) (sym l.0) l.1) from
  where
    nothing_here : (x : List Initialiser) (p q : List Tok) → Empty [] x p → Parted (Punctuator punct.Semicolon) x (head q) → is_next (Punctuator punct.Assign) (head (p ++ q)) ≡ false
    nothing_here x p q l h = ap (λ (z : List Tok). is_next (Punctuator punct.Assign) (head (z ++ q))) l.1 ∙ parted_not (Punctuator punct.Semicolon) (Punctuator punct.Assign) x refl refl (head q) h

    values_are : (x : List Initialiser) (p : List Tok) → Seq (Is (Punctuator punct.Assign)) (InBracesL x) p → first_values x p
    values_are [] p l = absurd l.second.second.first
    values_are (i ∷ is) p l = seq_map l (λ q o. o) (λ q a. seq_map a (λ r o. o) (λ r b. seq_right (seq_map b (λ u c. seq_left c) (λ u o. o))))

    from : (x : List Initialiser) (p : List Tok) → first_values x p → Seq (Is (Punctuator punct.Assign)) (InBracesL x) p ⊎ Empty [] x p
    from [] p l = inr (refl, l)
    from (i ∷ is) p l = inl (seq_map l (λ q o. o) (λ q a. seq_map a (λ r o. o) (λ r b. seq_map (seq_left b) (λ u c. seq_right c) (λ u o. o))))

-- ---- what stands behind a global's name

abbrev pub SizedL : Size → Phrase
SizedL x = global_phrase x.0 x.1

abbrev ArrayL : Size → Phrase
ArrayL (None, is) p = ⊥
ArrayL (Some n, is) p = Seq (Seq (Is (Punctuator punct.OpenBracket)) (Seq (One the_length n) (Is (Punctuator punct.CloseBracket)))) (first_values is) p

abbrev VariableL : Size → Phrase
VariableL (None, is) p = first_value is p
VariableL (Some n, is) p = ⊥

abbrev length_begins : Begins (One the_length) []
length_begins = record { value = (0, record { start = 0; «end» = 0 }); more = some_constant ∷ []; spelled = record { token = some_constant; has = refl; whole = refl } }

array_exact : (d : ℕ) → Exact (λ D. map_parser array_tree (seq (behind (Punctuator punct.OpenBracket) (before (Punctuator punct.CloseBracket) (take the_length))) read.first_values)) ArrayL (λ D. Shallow D) (λ x. Parted (Punctuator punct.Semicolon) x) Always d
array_exact d =
    value_of array_tree ArrayL (λ D. Shallow D) (λ x. Parted (Punctuator punct.Semicolon) x) Always
    (two (behind_exact (Punctuator punct.OpenBracket) (before_exact (Punctuator punct.CloseBracket) (take_exact the_length d) (λ a t is. tt)) (tail_begins (Punctuator punct.CloseBracket) (One the_length) length_begins)) (values_exact d) (λ a b p q l h. tt) (record { value = []; more = []; spelled = refl }))
    comes (λ x p l. l) (λ x w. tt) (λ x h c. tt)
  where
    comes : (y : Size) (p : List Tok) → ArrayL y p → Comes array_tree (Two (λ n. Seq (Is (Punctuator punct.OpenBracket)) (Seq (One the_length n) (Is (Punctuator punct.CloseBracket)))) first_values) (λ x. Unit {0} × Unit {0}) (λ x. Unit {0}) (λ x h. Parted (Punctuator punct.Semicolon) x.1 h) (λ x. Parted (Punctuator punct.Semicolon) x) y p
    comes (None, is) p l = absurd l
    comes (Some n, is) p l = record { value = (n, is); same = refl; spelled = l; within = λ w. (tt, tt); stops = λ h s. s }

variable_exact : (d : ℕ) → Exact (λ D. map_parser variable_tree read.first_value) VariableL (λ D. Shallow D) (λ x. Parted (Punctuator punct.Semicolon) x) Always d
variable_exact d = value_of variable_tree VariableL (λ D. Shallow D) (λ x. Parted (Punctuator punct.Semicolon) x) Always (value_exact d) comes (λ x p l. l) (λ x w. tt) (λ x h c. tt)
  where
    comes : (y : Size) (p : List Tok) → VariableL y p → Comes variable_tree first_value (λ x. Unit {0}) (λ x. Unit {0}) (λ x. Parted (Punctuator punct.Semicolon) x) (λ x. Parted (Punctuator punct.Semicolon) x) y p
    comes (None, is) p l = record { value = is; same = refl; spelled = l; within = λ w. tt; stops = λ h s. s }
    comes (Some n, is) p l = absurd l

pub sized_exact : (d : ℕ) → Exact (λ D. read.global_tail) SizedL (λ D. Shallow D) (λ x. Parted (Punctuator punct.Semicolon) x) Always d
sized_exact d = one_of (is_next (Punctuator punct.OpenBracket)) SizedL (array_exact d) (variable_exact d) array_here variable_here array_is variable_is from
  where
    array_here : (x : Size) (p q : List Tok) → ArrayL x p → Parted (Punctuator punct.Semicolon) x (head q) → is_next (Punctuator punct.OpenBracket) (head (p ++ q)) ≡ true
    array_here (None, is) p q l h = absurd l
    array_here (Some n, is) p q l h = seq_here (Punctuator punct.OpenBracket) _ p q (seq_right l)

    value_not : (is : List Initialiser) (p q : List Tok) → first_value is p → is_next (Punctuator punct.OpenBracket) (head q) ≡ false → is_next (Punctuator punct.OpenBracket) (head (p ++ q)) ≡ false
    value_not [] p q l h = ap (λ (z : List Tok). is_next (Punctuator punct.OpenBracket) (head (z ++ q))) l ∙ h
    value_not (i ∷ []) p q l h = seq_not_here (Punctuator punct.Assign) (Punctuator punct.OpenBracket) _ p q refl l
    value_not (i ∷ j ∷ is) p q l h = absurd l

    variable_here : (x : Size) (p q : List Tok) → VariableL x p → Parted (Punctuator punct.Semicolon) x (head q) → is_next (Punctuator punct.OpenBracket) (head (p ++ q)) ≡ false
    variable_here (None, is) p q l h = value_not is p q l (parted_not (Punctuator punct.Semicolon) (Punctuator punct.OpenBracket) is refl refl (head q) h)
    variable_here (Some n, is) p q l h = absurd l

    array_is : (x : Size) (p : List Tok) → ArrayL x p → SizedL x p
    array_is (None, is) p l = absurd l
    array_is (Some n, is) p l = seq_map (seq_right l) (λ q o. o) (λ q a. seq_right a)

    variable_is : (x : Size) (p : List Tok) → VariableL x p → SizedL x p
    variable_is (None, is) p l = l
    variable_is (Some n, is) p l = absurd l

    from : (x : Size) (p : List Tok) → SizedL x p → ArrayL x p ⊎ VariableL x p
    from (None, is) p l = inr l
    from (Some n, is) p l = inl (seq_left (seq_map l (λ q o. o) (λ q a. seq_left a)))

-- ---- globals

-- a global of this type
abbrev pub GlobalL : Scalar → Global → Phrase
GlobalL t g p = (g.ty ≡ t) × global g p

-- a further one
abbrev pub NextL : Scalar → Global → Phrase
NextL t = lists.Behind (GlobalL t)

global_exact : (d : ℕ) (t : Scalar) → Exact (λ D. read.global t) (GlobalL t) (λ D. Shallow D) (λ x. Parted (Punctuator punct.Semicolon) x) Always d
global_exact d t =
    value_of (λ x. global_tree t x.0 x.1) (GlobalL t) (λ D. Shallow D) (λ x. Parted (Punctuator punct.Semicolon) x) Always
    (two (take_exact the_name d) (sized_exact d) (λ a b p q l h. tt) (record { value = (None, []); more = []; spelled = refl }))
    comes (λ x p l. (refl, l)) (λ x w. tt) (λ x h c. tt)
  where
    comes : (y : Global) (p : List Tok) → GlobalL t y p → Comes (λ (x : Name × Size). global_tree t x.0 x.1) (Two (One the_name) SizedL) (λ x. Unit {0} × Unit {0}) (λ x. Unit {0}) (λ x h. Parted (Punctuator punct.Semicolon) x.1 h) (λ x. Parted (Punctuator punct.Semicolon) x) y p
    comes y p l = record {
      value = (y.name, (y.length, y.first));
      same = ap (λ (z : Scalar). record { ty = z; name = y.name; length = y.length; first = y.first }) l.0;
      spelled = l.1;
      within = λ w. (tt, tt);
      stops = λ h s. s;
    }

global_begins : (t : Scalar) → Begins (GlobalL t) []
global_begins t = let b = name_begins in record { value = global_tree t b.value (None, []); more = b.more; spelled = (refl, record { front = b.more; back = []; first = b.spelled; second = refl; whole = refl }) }

-- behind the type and the first name
abbrev FromL : Scalar → Size × List Global → Phrase
FromL t x = Seq (Two SizedL (Many (NextL t)) x) (Is (Punctuator punct.Semicolon))

abbrev pub GlobalsL : Scalar → Name → Item → Phrase
GlobalsL t x i p = (y : Size × List Global) × (i ≡ globals_tree t x y) × FromL t y p

further_globals : (d : ℕ) (t : Scalar) → Exact (λ D. many_until (is_other (Punctuator punct.Comma)) (behind (Punctuator punct.Comma) (read.global t))) (Many (NextL t)) (ManyFit (λ D. Shallow D)) (λ xs h. (is_other (Punctuator punct.Comma) h ≡ true) × (is_next (Punctuator punct.Semicolon) h ≡ true)) (λ xs h. is_other (Punctuator punct.Comma) h ≡ true) d
further_globals d t = lists.further_exact (λ h. is_next (Punctuator punct.Semicolon) h ≡ true) (global_exact d t) (global_begins t) (λ x h o e. inr e) (λ x u is. inl (rw is refl))

pub globals_exact : (d : ℕ) (t : Scalar) (x : Name) (W : ℕ → Item → Type 0) → ((D : ℕ) (y : Size × List Global) → W D (globals_tree t x y)) → Exact (λ D. globals_from t x) (GlobalsL t x) W Always Always d
globals_exact d t x W w =
    value_of (globals_tree t x) (GlobalsL t x) W Always Always
    (before_exact (Punctuator punct.Semicolon) (two (sized_exact d) (further_globals d t) follow (record { value = []; more = []; spelled = refl })) (λ a u is. (rw is refl, rw is refl)))
    comes (λ y p l. (y, refl, l)) (λ y v. w d y) (λ y h c. tt)
  where
    follow : (a : Size) (b : List Global) (p q : List Tok) → Many (NextL t) b p → (is_other (Punctuator punct.Comma) (head q) ≡ true) × (is_next (Punctuator punct.Semicolon) (head q) ≡ true) → Parted (Punctuator punct.Semicolon) a (head (p ++ q))
    follow a [] p q l h = inr (ap (λ (z : List Tok). is_next (Punctuator punct.Semicolon) (head (z ++ q))) l ∙ h.1)
    follow a (b ∷ bs) p q s h = inl (ap (is_next (Punctuator punct.Comma)) (front_head p q s) ∙ seq_here (Punctuator punct.Comma) _ s.front (s.back ++ q) s.first)

    comes : (y : Item) (p : List Tok) → GlobalsL t x y p → Comes (globals_tree t x) (FromL t) (λ z. Unit {0} × ManyFit (λ D. Shallow D) d z.1) (W d) (λ z h. Unit {0}) Always y p
    comes y p l = record { value = l.0; same = l.1; spelled = l.2; within = λ v. (tt, all_shallow d (l.0).1); stops = λ h s. tt }

-- what stands behind a global's name does not begin with a parenthesis
pub globals_first : (t : Scalar) (x : Name) (i : Item) (p q : List Tok) → GlobalsL t x i p → is_next (Punctuator punct.OpenParen) (head (p ++ q)) ≡ false
globals_first t x i p q l =
    let s = seq_right l.2 in
    ap (is_next (Punctuator punct.OpenParen)) (front_head p q s) ∙ sized_not (l.0).0 s.front (s.back ++ q) s.first (ap (is_next (Punctuator punct.OpenParen)) (front_head s.back q s.second) ∙ rest_not (l.0).1 s.second.front (s.second.back ++ q) s.second.first (is_not_here (Punctuator punct.Semicolon) (Punctuator punct.OpenParen) s.second.back q refl s.second.second))
  where
    sized_not : (x : Size) (p q : List Tok) → SizedL x p → is_next (Punctuator punct.OpenParen) (head q) ≡ false → is_next (Punctuator punct.OpenParen) (head (p ++ q)) ≡ false
    sized_not (None, []) p q l h = ap (λ (z : List Tok). is_next (Punctuator punct.OpenParen) (head (z ++ q))) l ∙ h
    sized_not (None, i ∷ []) p q l h = seq_not_here (Punctuator punct.Assign) (Punctuator punct.OpenParen) _ p q refl l
    sized_not (None, i ∷ j ∷ is) p q l h = absurd l
    sized_not (Some n, is) p q l h = seq_not_here (Punctuator punct.OpenBracket) (Punctuator punct.OpenParen) _ p q refl l

    rest_not : (bs : List Global) (p q : List Tok) → Many (NextL t) bs p → is_next (Punctuator punct.OpenParen) (head q) ≡ false → is_next (Punctuator punct.OpenParen) (head (p ++ q)) ≡ false
    rest_not [] p q l h = ap (λ (z : List Tok). is_next (Punctuator punct.OpenParen) (head (z ++ q))) l ∙ h
    rest_not (b ∷ bs) p q s h = ap (is_next (Punctuator punct.OpenParen)) (front_head p q s) ∙ seq_not_here (Punctuator punct.Comma) (Punctuator punct.OpenParen) _ s.front (s.back ++ q) refl s.first
