use Rattle.system.proofs.kept.keep_sources.Goals as goal

pub names-preserved : goal.names-preserved
names-preserved g c = c.in_ok-keep.ensures.tested c.names.invariant
