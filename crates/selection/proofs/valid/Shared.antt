-- The cells of what a program shares lie within its memory; a typed program has no more than there may be, and each of
-- its globals is within the limits.
use Rattle.std.proofs.Common.{◌≡◌, refl, sym, ap, ◌∙◌, ℕ, zero, suc, ◌+◌, ◌-◌, ◌≤◌, List, [], ◌∷◌, ◌++◌, length, map, replicate, drop, arith, Option, Some, None, Bool, true, false}
use Rattle.std.specs.Prelude.{◌&&◌, if◌then◌else◌, bytes_eq, option_map, unwrap_or, sum_by, nat_le, min, take}
use Rattle.std.proofs.lemmas.Bool.{leb-true, le-leb}
use Rattle.std.proofs.lemmas.List.Folds.{list_all-append}
use Rattle.std.specs.Cmp.Derive.{both_true}
use Rattle.std.specs.List.{list_all}
use Rattle.std.proofs.lemmas.List.Sums.{sum_by-cons}
use Rattle.std.proofs.lemmas.List.{length-append, length-replicate, length-map, length-take}
use Rattle.lex.specs.declared.token.Span.{Span}
use Rattle.lex.specs.declared.token.Scalar.{Scalar}
use Rattle.syntax.specs.declared.tree.Initialiser.{Initialiser}
use Rattle.syntax.specs.Tree.{Global, Item, Defines, Shares, Program}
use Rattle.syntax.specs.Names.{GlobalCells, cells, globals, global_from, first_word, first_words, initial_from}
use Rattle.syntax.specs.Types.{Number, Array, Scope, known_global, known_among, known_function, file_scope}
use Rattle.syntax.specs.Typing.{is_unknown, demand, all_cells, IsTypedFunction, IsLength, HaveCells, AreTypedGlobals, AreTypedItems}
use Rattle.bytecode.specs.Valid.{is_shaped}
use Rattle.syntax.proofs.typing.Demands.{AreMet, met_before, met_behind, is_met}

-- a global has as many words as cells
words_are : (g : Global) → length (first_words g) ≡ cells g
words_are g =
    let given : List ℕ = map (first_word g.ty) g.first in
    let zeroes : List ℕ = replicate (cells g - length g.first) 0 in
    let a : length (first_words g) ≡ length (take (cells g) given) + length zeroes = length-append (take (cells g) given) zeroes in
    let b : length given ≡ length g.first = length-map g.first (first_word g.ty) in
    let c : length zeroes ≡ cells g - length g.first = length-replicate (cells g - length g.first) 0 in
    let d : length (take (cells g) given) ≡ min (cells g) (length given) = length-take (cells g) given in
    omega (arith, a, b, c, d)

pub cells_lie : (n : ℕ) (gs : List Global) (x : List ℕ) (c : GlobalCells) → global_from n gs x ≡ Some c → c.cell + cells c.global ≤ n + length (initial_from gs)
cells_lie n [] x c e = absurd (cc)
cells_lie n (g ∷ gs) x c e = by (bytes_eq g.name.text x) (λ h. cells_lie (n + cells g) gs x c h) e
  where
    whole : length (initial_from (g ∷ gs)) ≡ length (first_words g) + length (initial_from gs)
    whole = length-append (first_words g) (initial_from gs)

    by : (b : Bool) → (global_from (n + cells g) gs x ≡ Some c → c.cell + cells c.global ≤ (n + cells g) + length (initial_from gs)) → (if b then Some (record { global = g; cell = n }) else global_from (n + cells g) gs x) ≡ Some c → c.cell + cells c.global ≤ n + length (initial_from (g ∷ gs))
    by true h f =
        let here : GlobalCells = record { global = g; cell = n } in
        let same : here ≡ c = ap (λ o. unwrap_or o here) f in
        let at : n + cells g ≡ c.cell + cells c.global = ap (λ (d : GlobalCells). d.cell + cells d.global) same in
        let w = words_are g in
        omega (arith, at, w, whole)
    by false h f = let r = h f in let w = words_are g in omega (arith, r, w, whole)

-- what the file knows as a variable has one cell
one_cell : (ty t : Scalar) (l : Option (ℕ × Span)) → unwrap_or (option_map (λ n. Array ty n.0) l) (Number ty) ≡ Number t → unwrap_or (option_map (λ n. n.0) l) 1 ≡ 1
one_cell ty t None e = refl
one_cell ty t (Some n) e = absurd (cc)

among_has : (gs more : List Global) (rest : Scope) (n : ℕ) (x : List ℕ) (t : Scalar) (c : GlobalCells) → ((m : ℕ) → rest x ≡ Number t → global_from m more x ≡ Some c → cells c.global ≡ 1) → known_among gs rest x ≡ Number t → global_from n (gs ++ more) x ≡ Some c → cells c.global ≡ 1
among_has [] more rest n x t c h k e = h n k e
among_has (g ∷ gs) more rest n x t c h k e = by (bytes_eq g.name.text x) (λ a b. among_has gs more rest (n + cells g) x t c h a b) k e
  where
    by : (b : Bool) → (known_among gs rest x ≡ Number t → global_from (n + cells g) (gs ++ more) x ≡ Some c → cells c.global ≡ 1) → (if b then known_global g else known_among gs rest x) ≡ Number t → (if b then Some (record { global = g; cell = n }) else global_from (n + cells g) (gs ++ more) x) ≡ Some c → cells c.global ≡ 1
    by true others a b =
        let here : GlobalCells = record { global = g; cell = n } in
        let same : here ≡ c = ap (λ o. unwrap_or o here) b in
        sym (ap (λ (d : GlobalCells). cells d.global) same) ∙ one_cell g.ty t g.length a
    by false others a b = others a b

pub variable_has_one : (items : Program) (n : ℕ) (x : List ℕ) (t : Scalar) (c : GlobalCells) → file_scope items x ≡ Number t → global_from n (globals items) x ≡ Some c → cells c.global ≡ 1
variable_has_one [] n x t c k e = absurd (cc)
variable_has_one (Shares gs ∷ items) n x t c k e = among_has gs (globals items) (file_scope items) n x t c (λ m a b. variable_has_one items m x t c a b) k e
variable_has_one (Defines f ∷ items) n x t c k e = by (bytes_eq f.name.text x) (λ a. variable_has_one items n x t c a e) k
  where
    by : (b : Bool) → (file_scope items x ≡ Number t → cells c.global ≡ 1) → (if b then known_function f else file_scope items x) ≡ Number t → cells c.global ≡ 1
    by true others a = absurd (cc)
    by false others a = others a

record Fit (taken : ℕ) (gs : List Global) : Type 0 where
  words : length (initial_from gs) ≡ sum_by cells gs
  few : taken + length (initial_from gs) ≤ 4096

globals_fit : (earlier : List Item) (before : List Global) (taken : ℕ) (gs : List Global) → taken ≤ 4096 → AreMet (AreTypedGlobals earlier before taken gs) → Fit taken gs
globals_fit earlier before taken [] low h = record { words = refl; few = omega (arith, low) }
globals_fit earlier before taken (g ∷ gs) low h =
    let new = demand 21 g.name.span (is_unknown (file_scope (earlier ++ Shares before ∷ []) g.name.text)) in
    let size = IsLength g.length in
    let room = HaveCells (drop (cells g) g.first) in
    let few = demand 25 g.name.span (nat_le (taken + cells g) 4096) in
    let others = AreTypedGlobals earlier (before ++ g ∷ []) (taken + cells g) gs in
    let all = met_before (new ++ size ++ room ++ few) others h in
    let low' : taken + cells g ≤ 4096 = leb-true (taken + cells g) 4096 (is_met 25 g.name.span (nat_le (taken + cells g) 4096) (met_behind (new ++ size ++ room) few all)) in
    let rest = globals_fit earlier (before ++ g ∷ []) (taken + cells g) gs low' (met_behind (new ++ size ++ room ++ few) others h) in
    let own = words_are g in
    let whole : length (initial_from (g ∷ gs)) ≡ length (first_words g) + length (initial_from gs) = length-append (first_words g) (initial_from gs) in
    let words = rest.words in
    let few' = rest.few in
    let sum : sum_by cells (g ∷ gs) ≡ cells g + sum_by cells gs = sum_by-cons cells g gs in
    record { words = omega (arith, own, whole, words, sum); few = omega (arith, own, whole, few') }

initial_append : (a b : List Global) → length (initial_from (a ++ b)) ≡ length (initial_from a) + length (initial_from b)
initial_append [] b = omega arith
initial_append (g ∷ a) b =
    let h = initial_append a b in
    let x : length (initial_from (g ∷ (a ++ b))) ≡ length (first_words g) + length (initial_from (a ++ b)) = length-append (first_words g) (initial_from (a ++ b)) in
    let y : length (initial_from (g ∷ a)) ≡ length (first_words g) + length (initial_from a) = length-append (first_words g) (initial_from a) in
    omega (arith, h, x, y)

all_cells_append : (a b : List Item) → all_cells (a ++ b) ≡ all_cells a + all_cells b
all_cells_append [] b = omega arith
all_cells_append (Defines f ∷ a) b = all_cells_append a b
all_cells_append (Shares gs ∷ a) b = let h = all_cells_append a b in omega (arith, h)

pub cells_fit : (earlier items : List Item) → all_cells earlier ≤ 4096 → AreMet (AreTypedItems earlier items) → all_cells earlier + length (initial_from (globals items)) ≤ 4096
cells_fit earlier [] low h = omega (arith, low)
cells_fit earlier (Defines f ∷ items) low h =
    let more = all_cells_append earlier (Defines f ∷ []) in
    let rest = cells_fit (earlier ++ Defines f ∷ []) items (omega (arith, low, more)) (met_behind (IsTypedFunction earlier f) (AreTypedItems (earlier ++ Defines f ∷ []) items) h) in
    omega (arith, rest, more)
cells_fit earlier (Shares gs ∷ items) low h =
    let more = all_cells_append earlier (Shares gs ∷ []) in
    let own = globals_fit earlier [] (all_cells earlier) gs low (met_before (AreTypedGlobals earlier [] (all_cells earlier) gs) (AreTypedItems (earlier ++ Shares gs ∷ []) items) h) in
    let words = own.words in
    let few = own.few in
    let rest = cells_fit (earlier ++ Shares gs ∷ []) items (omega (arith, more, words, few)) (met_behind (AreTypedGlobals earlier [] (all_cells earlier) gs) (AreTypedItems (earlier ++ Shares gs ∷ []) items) h) in
    let whole = initial_append gs (globals items) in
    omega (arith, rest, more, whole, words)

both : (a b : Bool) → (a && b) ≡ true → (a ≡ true) × (b ≡ true)
both true b e = (refl, e)
both false b e = absurd (cc)

-- an array that is typed has a cell
sized : (o : Option (ℕ × Span)) → AreMet (IsLength o) → 1 ≤ unwrap_or (option_map (λ n. n.0) o) 1
sized None h = omega arith
sized (Some n) h = leb-true 1 n.0 (both (nat_le 1 n.0) (nat_le n.0 4096) (is_met 25 n.1 (nat_le 1 n.0 && nat_le n.0 4096) h)).0

-- a typed global has no more initialisers than cells
firsts_fit : (n : ℕ) (is : List Initialiser) → AreMet (HaveCells (drop n is)) → length is ≤ n
firsts_fit zero [] h = omega arith
firsts_fit zero (i ∷ is) h = absurd (let g = is_met 25 i.span false h in cc)
firsts_fit (suc n) [] h = omega arith
firsts_fit (suc n) (i ∷ is) h = let g = firsts_fit n is h in omega (arith, g)

shaped_so : (g : Global) → 1 ≤ cells g → cells g ≤ 4096 → length g.first ≤ cells g → is_shaped g ≡ true
shaped_so g some few enough =
    let a = le-leb 1 (cells g) some in
    let b = le-leb (cells g) 4096 few in
    let c = le-leb (length g.first) (cells g) enough in
    both_true a (both_true b c)

-- typed globals are within the limits
globals_shaped : (earlier : List Item) (before : List Global) (taken : ℕ) (gs : List Global) → AreMet (AreTypedGlobals earlier before taken gs) → list_all is_shaped gs ≡ true
globals_shaped earlier before taken [] h = refl
globals_shaped earlier before taken (g ∷ gs) h =
    let new = demand 21 g.name.span (is_unknown (file_scope (earlier ++ Shares before ∷ []) g.name.text)) in
    let size = IsLength g.length in
    let room = HaveCells (drop (cells g) g.first) in
    let few = demand 25 g.name.span (nat_le (taken + cells g) 4096) in
    let others = AreTypedGlobals earlier (before ++ g ∷ []) (taken + cells g) gs in
    let all = met_before (new ++ size ++ room ++ few) others h in
    let some : 1 ≤ cells g = sized g.length (met_behind new size (met_before (new ++ size) room (met_before (new ++ size ++ room) few all))) in
    let fits = firsts_fit (cells g) g.first (met_behind (new ++ size) room (met_before (new ++ size ++ room) few all)) in
    let low : taken + cells g ≤ 4096 = leb-true (taken + cells g) 4096 (is_met 25 g.name.span (nat_le (taken + cells g) 4096) (met_behind (new ++ size ++ room) few all)) in
    both_true (shaped_so g some (omega (arith, low)) fits) (globals_shaped earlier (before ++ g ∷ []) (taken + cells g) gs (met_behind (new ++ size ++ room ++ few) others h))

pub all_shaped : (earlier items : List Item) → AreMet (AreTypedItems earlier items) → list_all is_shaped (globals items) ≡ true
all_shaped earlier [] h = refl
all_shaped earlier (Defines f ∷ items) h =
    all_shaped (earlier ++ Defines f ∷ []) items (met_behind (IsTypedFunction earlier f) (AreTypedItems (earlier ++ Defines f ∷ []) items) h)
all_shaped earlier (Shares gs ∷ items) h =
    let own = globals_shaped earlier [] (all_cells earlier) gs (met_before (AreTypedGlobals earlier [] (all_cells earlier) gs) (AreTypedItems (earlier ++ Shares gs ∷ []) items) h) in
    let rest = all_shaped (earlier ++ Shares gs ∷ []) items (met_behind (AreTypedGlobals earlier [] (all_cells earlier) gs) (AreTypedItems (earlier ++ Shares gs ∷ []) items) h) in
    list_all-append is_shaped gs (globals items) ∙ both_true own rest
