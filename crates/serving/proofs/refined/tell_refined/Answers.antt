use Rattle.std.proofs.Common.{rules, [], ◌≡◌, ◌∙◌, ap, length, map, sym, List, ℕ}
use Rattle.std.proofs.lemmas.Bool.{eqb-true}
use Rattle.std.proofs.lemmas.List.{nil_from_length}
use Rattle.report.specs.Views.{reported_of}
use Rattle.refinements.specs.Told.{refined_text}
use Rattle.serving.proofs.Verdicts.{prints_text}
use Rattle.serving.proofs.refined.tell_refined.Goals as goal

pub returns-in-Ok : goal.returns-in-Ok
returns-in-Ok g c =
    let stuck = c.args.found.now.stuck in
    let none = ap (map reported_of) (nil_from_length stuck.items (sym stuck.ok.0 ∙ eqb-true stuck.len 0 (sym c.is_empty.ensures ∙ c.if-not-is_empty.false))) in
    prints_text (λ (w : List ℕ). (map reported_of stuck.items ≡ []) × (w ≡ refined_text c.args.name.now (length c.args.found.now.outcomes.items) (length c.args.others.now.outcomes.items) c.args.threads)) (λ (w : List ℕ). ⊥) c.as_slice.result.now c.print_text.result _ _
    (none, search rules) c.print_text.ensures.status c.print_text.ensures.printed c.print_text.ensures.written
