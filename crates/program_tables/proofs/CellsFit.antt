-- A typed program has at most so many cells.
use Rattle.std.proofs.Common.{◌≡◌, ℕ, zero, suc, ◌+◌, ◌≤◌, List, [], ◌∷◌, ◌++◌, drop, All, IsTrue, nat_le, codes, ap, ◌∙◌, arith}
use Rattle.std.specs.List.{sum_by}
use Rattle.std.proofs.lemmas.List.Sums.{sum_by-cons}
use Rattle.syntax.specs.Tree.{Global, Item, Defines, Shares, Program}
use Rattle.syntax.specs.Names.{cells, globals}
use Rattle.syntax.specs.Types.{file_scope}
use Rattle.syntax.specs.Typing.{Demand, demand, is_unknown, is_worker, IsLength, HaveCells, AreTypedGlobals, IsTypedItem, AreTypedItems, AreDefined, IsTypedProgram, all_cells}
use Rattle.types.proofs.AllMet.{le_true}
use Rattle.types.proofs.Files.{all_cells_append}
use Rattle.program_tables.specs.inner.Tables.{total_cells}

-- the cells of two lists of globals
pub total_append : (gs hs : List Global) → total_cells (gs ++ hs) ≡ total_cells gs + total_cells hs
total_append [] hs = omega arith
total_append (g ∷ gs) hs = omega (arith, total_append gs hs)

all_left : (xs ys : List Demand) → All (λ d. IsTrue d.met) (xs ++ ys) → All (λ d. IsTrue d.met) xs
all_left [] ys h k d lt = absurd (omega (arith, lt))
all_left (x ∷ xs) ys h zero d lt = h zero d (omega arith)
all_left (x ∷ xs) ys h (suc k) d lt = all_left xs ys (λ j e l. h (suc j) e (omega (arith, l))) k d (omega (arith, lt))

all_right : (xs ys : List Demand) → All (λ d. IsTrue d.met) (xs ++ ys) → All (λ d. IsTrue d.met) ys
all_right [] ys h = h
all_right (x ∷ xs) ys h = all_right xs ys (λ j e l. h (suc j) e (omega (arith, l)))

-- one more global has cells that are left
globals_few : (earlier : List Item) (before : List Global) (taken : ℕ) (gs : List Global) → All (λ d. IsTrue d.met) (AreTypedGlobals earlier before taken gs) → taken ≤ 4096 → taken + total_cells gs ≤ 4096
globals_few earlier before taken [] h few = omega (arith, few)
globals_few earlier before taken (g ∷ gs) h few =
    let first = demand 21 g.name.span (is_unknown (file_scope (earlier ++ Shares before ∷ []) g.name.text)) ++ IsLength g.length ++ HaveCells (drop (cells g) g.first) in
    let here = demand 25 g.name.span (nat_le (taken + cells g) 4096) in
    let rest = AreTypedGlobals earlier (before ++ g ∷ []) (taken + cells g) gs in
    let fits : taken + cells g ≤ 4096 = le_true (taken + cells g) 4096 (all_right first here (all_left (first ++ here) rest h) 0 (record { number = 0; span = g.name.span; met = nat_le 0 0 }) (omega arith)) in
    let k = globals_few earlier (before ++ g ∷ []) (taken + cells g) gs (all_right (first ++ here) rest h) fits in
    omega (arith, k)

sums : (gs : List Global) → sum_by cells gs ≡ total_cells gs
sums [] = omega arith
sums (g ∷ gs) = sum_by-cons cells g gs ∙ ap (λ n. cells g + n) (sums gs)

items_few : (earlier items : List Item) → All (λ d. IsTrue d.met) (AreTypedItems earlier items) → all_cells earlier ≤ 4096 → all_cells earlier + total_cells (globals items) ≤ 4096
items_few earlier [] h few = omega (arith, few)
items_few earlier (Defines f ∷ items) h few =
    let e = all_cells_append earlier (Defines f ∷ []) in
    let k = items_few (earlier ++ Defines f ∷ []) items (all_right (IsTypedItem earlier (Defines f)) (AreTypedItems (earlier ++ Defines f ∷ []) items) h) (omega (arith, e, few)) in
    omega (arith, e, k)
items_few earlier (Shares gs ∷ items) h few =
    let e = all_cells_append earlier (Shares gs ∷ []) in
    let s = sums gs in
    let here = globals_few earlier [] (all_cells earlier) gs (all_left (IsTypedItem earlier (Shares gs)) (AreTypedItems (earlier ++ Shares gs ∷ []) items) h) few in
    let k = items_few (earlier ++ Shares gs ∷ []) items (all_right (IsTypedItem earlier (Shares gs)) (AreTypedItems (earlier ++ Shares gs ∷ []) items) h) (omega (arith, e, s, here)) in
    let t = total_append gs (globals items) in
    omega (arith, e, s, k, t)

pub cells_few : (p : Program) → IsTypedProgram p → total_cells (globals p) ≤ 4096
cells_few p h =
    let last = demand 28 (record { start = 0; end = 0 }) (is_worker (file_scope p (codes "worker"))) in
    let k = items_few [] p (all_left (AreTypedItems [] p) (AreDefined p [] p) (all_left (AreTypedItems [] p ++ AreDefined p [] p) last h)) (omega arith) in
    omega (arith, k)
