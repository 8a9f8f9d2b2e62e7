use Rattle.std.proofs.Common.{◌≡◌, ◌+◌, ◌∙◌, ◌∷◌, ◌++◌, [], None, map, take, drop, sum_by, refl, sym, ap, arith}
use Rattle.std.specs.Prelude.{nat_le}
use Rattle.std.proofs.lemmas.List.{take_all}
use Rattle.std.proofs.lemmas.List.Sums.{sum_by-append, sum_by-cons}
use Rattle.syntax.specs.Tree.{Shares}
use Rattle.syntax.specs.Views.{global_of, item_of}
use Rattle.syntax.specs.Names.{cells}
use Rattle.syntax.specs.Types.{file_scope}
use Rattle.syntax.specs.Typing.{is_unknown}
use Rattle.types.specs.inner.Unmet.{unmet_in}
use Rattle.syntax.specs.Typing.{demand, first_unmet, IsLength, HaveCells, AreTypedGlobals}
use Rattle.types.specs.inner.Known.{known_in}
use Rattle.types.proofs.AllMet.{first_met, last_met, le_true}
use Rattle.types.proofs.Files.{shares_none}
use Rattle.types.proofs.Items.{globals_more, globals_taken}
use Rattle.types.proofs.Steps.{skip, stop_at}
use Rattle.types.proofs.global.check_globals.Goals as goal

pub each-init : goal.each-init
each-init g c = (
  c.requires.none,
  shares_none (map item_of c.args.earlier.now) (known_in c.args.names.now) c.requires.known,
  omega arith,
  c.requires.few,
  refl,
)

pub returns-in_err-check_global-clause-answer : goal.returns-in_err-check_global-clause-answer
returns-in_err-check_global-clause-answer g c =
    let inv = c.each.invariant in
    let x = c.index-all-i.result in
    stop_at c.check_global.result _ c.in_err-check_global.field-0.0 _ _ _ (sym inv.4 ∙ globals_more c.args.all.now c.each.i x c.index-all-i.is c.each-test.true (map item_of c.args.earlier.now) c.each.taken) (c.check_global.ensures ∙ ap (λ k. first_unmet (demand 21 x.name.span (is_unknown (k x.name.text)) ++ IsLength x.length ++ HaveCells (drop (cells (global_of x)) x.first) ++ demand 25 x.name.span (nat_le (c.each.taken + cells (global_of x)) 4096))) inv.1) c.in_err-check_global.was c.from_residual.ensures

pub add_global-requires-clause-new : goal.add_global-requires-clause-new
add_global-requires-clause-new g c =
    let x = c.index-all-i.result in
    let none : None ≡ first_unmet (demand 21 x.name.span (is_unknown (known_in c.each.names x.name.text)) ++ IsLength x.length ++ HaveCells (drop (cells (global_of x)) x.first) ++ demand 25 x.name.span (nat_le (c.each.taken + cells (global_of x)) 4096)) = sym (ap unmet_in c.in_ok-check_global.was) ∙ c.check_global.ensures in
    first_met 21 x.name.span (is_unknown (known_in c.each.names x.name.text)) (IsLength x.length ++ HaveCells (drop (cells (global_of x)) x.first) ++ demand 25 x.name.span (nat_le (c.each.taken + cells (global_of x)) 4096)) none

pub overflow_add-taken : goal.overflow_add-taken
overflow_add-taken g c =
    let x = c.index-all-i.result in
    let none : None ≡ first_unmet (demand 21 x.name.span (is_unknown (known_in c.each.names x.name.text)) ++ IsLength x.length ++ HaveCells (drop (cells (global_of x)) x.first) ++ demand 25 x.name.span (nat_le (c.each.taken + cells (global_of x)) 4096)) = sym (ap unmet_in c.in_ok-check_global.was) ∙ c.check_global.ensures in
    let few = le_true _ _ (last_met (demand 21 x.name.span (is_unknown (known_in c.each.names x.name.text)) ++ IsLength x.length ++ HaveCells (drop (cells (global_of x)) x.first)) 25 x.name.span (nat_le (c.each.taken + cells (global_of x)) 4096) none) in
    let count = c.cell_count.ensures in
    omega (arith, few, count)

pub each-preserved : goal.each-preserved
each-preserved g c =
    let inv = c.each.invariant in
    let gs = c.args.all.now in
    let i = c.each.i in
    let x = c.index-all-i.result in
    let e = map item_of c.args.earlier.now in
    let before = map global_of (take i gs) in
    let n = cells (global_of x) in
    let ok = c.in_ok-add_global.ensures in
    let taken = globals_taken gs i x c.index-all-i.is c.each-test.true in
    let none : None ≡ first_unmet (demand 21 x.name.span (is_unknown (known_in c.each.names x.name.text)) ++ IsLength x.length ++ HaveCells (drop n x.first) ++ demand 25 x.name.span (nat_le (c.each.taken + n) 4096)) = sym (ap unmet_in c.in_ok-check_global.was) ∙ c.check_global.ensures in
    let few = le_true _ _ (last_met (demand 21 x.name.span (is_unknown (known_in c.each.names x.name.text)) ++ IsLength x.length ++ HaveCells (drop n x.first)) 25 x.name.span (nat_le (c.each.taken + n) 4096) none) in
    let count = c.cell_count.ensures in
    let sums : sum_by cells (map global_of (take (i + 1) gs)) ≡ sum_by cells before + n = ap (sum_by cells) taken ∙ sum_by-append cells before (global_of x ∷ []) ∙ ap (λ m. sum_by cells before + m) (sum_by-cons cells (global_of x) [] ∙ omega arith) in (
      ok.none,
      ok.known ∙ ap (λ b. file_scope (e ++ Shares b ∷ [])) (sym taken),
      (let a = inv.2 in omega (arith, a, count, sums)),
      omega (arith, few, count),
      ap (λ m. first_unmet (AreTypedGlobals e (map global_of (take (i + 1) gs)) (c.each.taken + m) (map global_of (drop (i + 1) gs)))) count
          ∙ sym (skip c.check_global.result _ _ _ _ (globals_more gs i x c.index-all-i.is c.each-test.true e c.each.taken) (c.check_global.ensures ∙ ap (λ k. first_unmet (demand 21 x.name.span (is_unknown (k x.name.text)) ++ IsLength x.length ++ HaveCells (drop n x.first) ++ demand 25 x.name.span (nat_le (c.each.taken + n) 4096))) inv.1) c.in_ok-check_global.was)
          ∙ inv.4,
    )

pub returns-clause-none : goal.returns-clause-none
returns-clause-none g c = c.each.invariant.0

pub returns-clause-known : goal.returns-clause-known
returns-clause-known g c =
    c.each.invariant.1 ∙ ap (λ gs. file_scope (map item_of c.args.earlier.now ++ Shares (map global_of gs) ∷ [])) (take_all c.each.i c.args.all.now c.each-test.false)

pub returns-clause-taken : goal.returns-clause-taken
returns-clause-taken g c =
    c.each.invariant.2 ∙ ap (λ gs. c.args.taken.now + sum_by cells (map global_of gs)) (take_all c.each.i c.args.all.now c.each-test.false)

pub returns-clause-few : goal.returns-clause-few
returns-clause-few g c = c.each.invariant.3
