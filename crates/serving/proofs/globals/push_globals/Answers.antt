use Rattle.std.proofs.Common.{map, ap, ◌∙◌, ◌++◌, ◌∷◌, []}
use Rattle.std.proofs.lemmas.List.{map-append}
use Rattle.syntax.specs.Views.{global_of}
use Rattle.report.specs.Views.{shown_of}
use Rattle.serving.proofs.Steps.{next_global, next_rest}
use Rattle.serving.proofs.globals.push_globals.Goals as goal

pub globals-preserved : goal.globals-preserved
globals-preserved g c =
    let one = rw (c.split.ensures.first, c.cell_count.ensures) at c.in_ok-global_shown.ensures in
    let pushed = ap (map shown_of) c.in_ok-push.ensures.ok ∙ map-append shown_of c.globals.shown _ ∙ ap (λ s. map shown_of c.globals.shown ++ s ∷ []) one in
    record {
      shown = rw (c.split.ensures.rest, c.cell_count.ensures) (next_global global_of c.args.globals.now c.globals.global-index c.global-item.result (map shown_of c.globals.shown) _ _ c.globals.rest.now c.global-item.is c.globals-test.true c.globals.invariant.shown pushed);
      rest = rw (c.split.ensures.rest, c.cell_count.ensures) (next_rest global_of c.args.globals.now c.globals.global-index c.global-item.result c.globals.rest.now _ c.global-item.is c.globals-test.true c.globals.invariant.rest);
    }
