use Rattle.std.proofs.Common.{◌∙◌, ap}
use Rattle.std.proofs.lemmas.Option.{IfSome_then}
use Rattle.syntax.specs.Actions.{pure, tick, ◌>>◌}
use Rattle.syntax.specs.Meaning.{Next, stmt}
use Rattle.syntax.specs.Tree.{Do}
use Rattle.syntax.specs.Views.{simple_of}
use Rattle.meaning.proofs.Parts.{do_is}
use Rattle.meaning.proofs.left.call_alone.Goals as goal

pub returns-in-Evaluate : goal.returns-in-Evaluate
returns-in-Evaluate g c =
    IfSome_then c.call_in.result c.call_in.ensures
    (λ w h p call. ap (stmt p call) (do_is c.args.s.now c.in-Do.i c.in-Do.is ∙ ap (λ i. Do (simple_of i)) c.in-Evaluate.is) ∙ ap (λ run. tick >> (run >> pure Next)) (h p call))
