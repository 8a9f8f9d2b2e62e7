use Rattle.std.proofs.Common.{◌∙◌, ap, map}
use Rattle.meaning.specs.Outcomes.{memories_in}
use Rattle.meaning.specs.inner.SourceThread.{local_in}
use Rattle.meaning.proofs.Advancing.{stands_bare}
use Rattle.meaning.proofs.standing.thread_at.Goals as goal

pub returns : goal.returns
returns g c =
    stands_bare c.args.at.now _ (memories_in c.as_slice-2.result.now) (memories_in c.new.result.items) c.new-2.result.items (c.in_ok-locals.ensures ∙ ap (map local_in) c.as_slice.ensures.value) (ap memories_in c.as_slice-2.ensures.value) (ap memories_in c.new.ensures.items) c.new-2.ensures.items
