use Rattle.std.proofs.Common.{◌++◌, [], ◌∷◌, None, Some, subst, sym}
use Rattle.system.specs.Kept.{AreReadFrom, IsFileKnown, StayKnown, kept_in}
use Rattle.system.proofs.Keeping.{last_known, one_more_read, still_known}
use Rattle.system.proofs.kept.read_into.Goals as goal

pub returns-clause-known : goal.returns-clause-known
returns-clause-known g c =
    let file = c.in_ok-file.file in
    subst (λ fs. IsFileKnown (kept_in fs) c.args.named.now.name.now) (sym c.in_ok-push.ensures.items)
    (subst (IsFileKnown (kept_in (c.args.kept.now.items ++ file ∷ []))) c.in_ok-file.ensures.name (last_known c.args.kept.now.items file))

pub returns-clause-others : goal.returns-clause-others
returns-clause-others g c =
    subst (λ fs. StayKnown (kept_in c.args.kept.now.items) (kept_in fs)) (sym c.in_ok-push.ensures.items)
    (still_known c.args.kept.now.items c.in_ok-file.file)

pub returns-clause-read : goal.returns-clause-read
returns-clause-read g c = λ request source before.
    let contents = g.F.Files.contents c.args.files.now in
    subst (AreReadFrom (Some request) contents) (sym c.in_ok-push.ensures.items)
    (one_more_read (Some request) contents c.args.kept.now.items c.in_ok-file.file before (c.in_ok-file.ensures.bytes (Some request) source))

pub returns-clause-tested : goal.returns-clause-tested
returns-clause-tested g c = λ before.
    let contents = g.F.Files.contents c.args.files.now in
    subst (AreReadFrom None contents) (sym c.in_ok-push.ensures.items)
    (one_more_read None contents c.args.kept.now.items c.in_ok-file.file before (c.in_ok-file.ensures.bytes None (λ is. tt)))
