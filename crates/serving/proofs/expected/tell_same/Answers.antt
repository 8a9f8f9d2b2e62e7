use Rattle.std.proofs.Common.{◌≡◌, List, ℕ, refl}
use Rattle.std.specs.Prelude.{codes}
use Rattle.report.specs.declared.outcome_list.WalkEnd.TheVariants.{Whole}
use Rattle.serving.proofs.Verdicts.{prints_text}
use Rattle.serving.proofs.expected.tell_same.Goals as goal

pub returns-then-is_whole : goal.returns-then-is_whole
returns-then-is_whole g c =
    prints_text (λ (w : List ℕ). (c.args.found.now.end ≡ Whole) × (w ≡ codes "as expected\n")) (λ (w : List ℕ). ⊥) (codes "as expected\n") c.print_text.result _ _
    (c.is_whole.ensures c.if-is_whole.true, refl) c.print_text.ensures.status c.print_text.ensures.printed c.print_text.ensures.written
