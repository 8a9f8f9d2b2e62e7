-- Items and programs are read exactly.
use Rattle.std.proofs.Common.{◌≡◌, ℕ, ◌≤◌, true, false, List, [], ◌∷◌, ◌++◌, Some, None, refl, sym, ap, subst, ◌∙◌, arith, ◌⊎◌, inl, inr}
use Rattle.lex.specs.declared.token.Fixed.TheVariants.{Punctuator}
use Rattle.lex.specs.declared.token.Punctuator.TheVariants as punct
use Rattle.lex.specs.declared.token.Scalar.{Scalar}
use Rattle.lex.specs.Tokens.{Tok}
use Rattle.syntax.specs.declared.tree.Attribute.{Attribute}
use Rattle.syntax.specs.Tree.{Item, Defines, Shares, Program}
use Rattle.syntax.specs.Depth.{item_depth, program_depth}
use Rattle.syntax.specs.Phrases.{Phrase, Seq, One, Is, Begins, Many}
use Rattle.syntax.specs.Grammar.{the_name, attributes, scalar, result, parameters, body, item}
use Rattle.parse.specs.inner.Reading.{head, is_next}
use Rattle.parse.specs.inner.Items.{Header, function_tree, globals_tree, shared_from, item_from, item_at, at_end, program_at}
use Rattle.parse.proofs.combinators.Exact.{Exact, Always, Comes, Two, Dep, none_exact, relabel, chained_one, value_of, Nonempty}
use Rattle.parse.proofs.combinators.Many.{ManyFit, many_exact}
use Rattle.parse.proofs.combinators.Parts.{seq_map, seq_left, seq_right, un_seq_left}
use Rattle.parse.proofs.items.Headers.{one_of, no_words, no_attributes, HeaderL, HeaderW, header_exact}
use Rattle.parse.proofs.items.Definitions.{FunctionL, ItemW, function_first, function_begins, function_exact}
use Rattle.parse.proofs.items.Shares.{NextL, SizedL, GlobalsL, globals_exact, globals_first}

-- ---- what stands behind a header

-- globals have a type, and no attributes
abbrev SharedL : Header → Item → Phrase
SharedL ([], (Some t, x)) i p = GlobalsL t x i p
SharedL ([], (None, x)) i p = ⊥
SharedL (word ∷ more, r) i p = ⊥

abbrev RestL : Header → Item → Phrase
RestL h i p = FunctionL h i p ⊎ SharedL h i p

shared_exact : (d : ℕ) (h : Header) → Exact (λ D. shared_from h) (SharedL h) ItemW Always Always d
shared_exact d ([], (Some t, x)) = globals_exact d t x ItemW (λ D y. omega arith)
shared_exact d ([], (None, x)) = none_exact ItemW Always Always d
shared_exact d (word ∷ more, r) = none_exact ItemW Always Always d

shared_first : (h : Header) (i : Item) (p q : List Tok) → SharedL h i p → is_next (Punctuator punct.OpenParen) (head (p ++ q)) ≡ false
shared_first ([], (Some t, x)) i p q l = globals_first t x i p q l
shared_first ([], (None, x)) i p q l = absurd l
shared_first (word ∷ more, r) i p q l = absurd l

rest_begins : (h : Header) → Begins (RestL h) []
rest_begins h = let b = function_begins h in record { value = b.value; more = b.more; spelled = inl b.spelled }

-- ---- items, and what stands for them

function_goes : (h : Header) (i : Item) (p : List Tok) → Seq (HeaderL h) (FunctionL h i) p → item i p
function_goes h i p s =
    let x = s.second.0 in
    let parts : Seq (HeaderL h) (Seq (Two parameters attributes x.0) (body (x.0).0 x.1)) p = record { front = s.front; back = s.back; first = s.first; second = s.second.2; whole = s.whole } in
    subst (λ (z : Item). item z p) (sym s.second.1)
    (h.0, (x.0).1, refl, seq_map (seq_right parts) (λ q o. o) (λ q a. seq_map (seq_right a) (λ r o. o) (λ r b. seq_map b (λ u o. o) (λ u c. seq_right c))))

shared_goes : (h : Header) (i : Item) (p : List Tok) → Seq (HeaderL h) (SharedL h i) p → item i p
shared_goes ([], (Some t, x)) i p s =
    let y = s.second.0 in
    let parts : Seq (HeaderL ([], (Some t, x))) (Seq (Two SizedL (Many (NextL t)) y) (Is (Punctuator punct.Semicolon))) p = record { front = s.front; back = s.back; first = s.first; second = s.second.2; whole = s.whole } in
    let typed = un_seq_left (seq_map (seq_right parts) (λ q a. no_attributes q a) (λ q o. o)) in
    subst (λ (z : Item). item z p) (sym s.second.1)
    (t, seq_map (seq_right typed) (λ q o. o) (λ q a. seq_map (seq_left a) (λ r b. seq_map (seq_left b) (λ u g. (refl, g)) (λ u o. o)) (λ r o. o)))
shared_goes ([], (None, x)) i p s = absurd s.second
shared_goes (word ∷ more, r) i p s = absurd s.second

item_goes : (x : Header × Item) (p : List Tok) → Dep HeaderL RestL x p → item x.1 p
item_goes x p s = go s.second
  where
    go : RestL x.0 x.1 s.back → item x.1 p
    go (inl l) = function_goes x.0 x.1 p (record { front = s.front; back = s.back; first = s.first; second = l; whole = s.whole })
    go (inr l) = shared_goes x.0 x.1 p (record { front = s.front; back = s.back; first = s.first; second = l; whole = s.whole })

abbrev ItemComes : ℕ → Item → List Tok → Type 0
ItemComes d i p = Comes (λ (x : Header × Item). x.1) (Dep HeaderL RestL) (λ x. HeaderW d x.0 × ItemW d x.1) (ItemW d) (λ x h. Unit {0}) Always i p

item_comes : (d : ℕ) (i : Item) (p : List Tok) → item i p → ItemComes d i p
item_comes d (Defines f) p l =
    let same : Defines f ≡ function_tree (l.0, (f.result, f.name)) ((f.parameters, l.1), f.body) = ap (λ (z : List Attribute). Defines (record { attributes = z; result = f.result; name = f.name; parameters = f.parameters; body = f.body })) l.2 in
    record {
      value = ((l.0, (f.result, f.name)), Defines f);
      same = refl;
      spelled = seq_map (seq_left (seq_map l.3 (λ q o. o) (λ q a. seq_left a))) (λ q o. o) (λ q z. inl (((f.parameters, l.1), f.body), same, seq_left z));
      within = λ w. ((tt, (tt, tt)), w);
      stops = λ h s. tt;
    }
item_comes d (Shares []) p l = absurd l.1.second.first
item_comes d (Shares (g ∷ gs)) p l =
    let t = l.0 in
    let s = l.1 in
    let all = s.second.first in
    let same : Shares (g ∷ gs) ≡ globals_tree t g.name ((g.length, g.first), gs) = ap (λ (z : Scalar). Shares (record { ty = z; name = g.name; length = g.length; first = g.first } ∷ gs)) all.first.0 in
    let named : Seq (Seq (Seq (One the_name g.name) (SizedL (g.length, g.first))) (Many (NextL t) gs)) (Is (Punctuator punct.Semicolon)) s.back =
    record { front = s.second.front; back = s.second.back; first = record { front = all.front; back = all.back; first = all.first.1; second = all.second; whole = all.whole }; second = s.second.second; whole = s.second.whole } in
    let typed : Seq (scalar t) (Seq (One the_name g.name) (GlobalsL t g.name (Shares (g ∷ gs)))) p =
    record { front = s.front; back = s.back; first = s.first; second = seq_map (seq_right (seq_map named (λ q a. seq_right a) (λ q o. o))) (λ q o. o) (λ q a. (((g.length, g.first), gs), same, a)); whole = s.whole } in
    let bare : Seq (attributes []) (Seq (Two result (One the_name) (Some t, g.name)) (GlobalsL t g.name (Shares (g ∷ gs)))) p = record { front = []; back = p; first = no_words; second = seq_left typed; whole = refl } in
    record {
      value = (([], (Some t, g.name)), Shares (g ∷ gs));
      same = refl;
      spelled = seq_map (seq_left bare) (λ q o. o) (λ q a. inr a);
      within = λ w. ((tt, (tt, tt)), w);
      stops = λ h s. tt;
    }

-- ---- items are not empty

back_solid : (p q : List Tok) → Nonempty q → Nonempty (p ++ q)
back_solid [] q n = n
back_solid (t ∷ p) q n = tt

front_solid : (p q : List Tok) → Nonempty p → Nonempty (p ++ q)
front_solid [] q n = absurd n
front_solid (t ∷ p) q n = tt

header_solid : (h : Header) (p : List Tok) → HeaderL h p → Nonempty p
header_solid h p s =
    let one : Nonempty s.second.back = subst Nonempty (sym s.second.second.whole) tt in
    subst Nonempty (sym (s.whole ∙ ap (λ (z : List Tok). s.front ++ z) s.second.whole)) (back_solid s.front (s.second.front ++ s.second.back) (back_solid s.second.front s.second.back one))

pub item_solid : (i : Item) (p : List Tok) → item i p → Nonempty p
item_solid i p l =
    let c = item_comes 0 i p l in
    subst Nonempty (sym c.spelled.whole) (front_solid c.spelled.front c.spelled.back (header_solid (c.value).0 c.spelled.front c.spelled.first))

not_end : (p q : List Tok) → Nonempty p → at_end (head (p ++ q)) ≡ false
not_end [] q n = absurd n
not_end (t ∷ p) q n = refl

-- ---- programs

fits : (d : ℕ) (p : Program) → program_depth p ≤ d → ManyFit ItemW d p
fits d [] w = tt
fits d (i ∷ items) w = (omega arith, fits d items (omega arith))

deepens : (d : ℕ) (p : Program) → ManyFit ItemW d p → program_depth p ≤ d
deepens d [] w = omega arith
deepens d (i ∷ items) w = let one : item_depth i ≤ d = w.0 in let rest = deepens d items w.1 in omega arith

rest_exact : (d : ℕ) (h : Header) → Exact (λ D. item_from D h) (RestL h) ItemW Always Always d
rest_exact d h =
    one_of (is_next (Punctuator punct.OpenParen)) (RestL h) (function_exact d h) (shared_exact d h)
    (λ i p q l s. function_first h i p q l) (λ i p q l s. shared_first h i p q l) (λ i p l. inl l) (λ i p l. inr l) (λ i p l. l)

pub item_exact : (d : ℕ) → Exact item_at item ItemW Always Always d
item_exact d =
    value_of (λ x. x.1) item ItemW Always Always
    (chained_one (header_exact d) (rest_exact d) (λ a b p q l h. tt) rest_begins)
    (item_comes d) item_goes (λ x w. w.1) (λ x h c. tt)

pub program_exact : (d : ℕ) → Exact program_at (Many item) (λ D p. program_depth p ≤ D) (λ x h. h ≡ None) Always d
program_exact d =
    relabel program_at (Many item) (Many item) (ManyFit ItemW) (λ D p. program_depth p ≤ D) (λ xs h. (at_end h ≡ true) × Unit {0}) (λ x h. h ≡ None) (λ xs h. at_end h ≡ true) Always d
    (many_exact item_at item ItemW Always Always d (item_exact d) at_end (λ h. Unit {0}) item_solid (λ i p q l. not_end p q (item_solid i p l)) (λ x h s t. tt) (λ x y p q l. tt))
    (λ x p l. l) (λ x p l. l) (λ x p l w. deepens d x w) (λ x w. fits d x w) (λ x h s. (ap at_end s, tt)) (λ x h c. tt)
