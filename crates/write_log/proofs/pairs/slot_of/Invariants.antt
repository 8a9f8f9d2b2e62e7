use Rattle.write_log.proofs.pairs.slot_of.Given as goal

abbrev pub ghosts-index_uncounted : goal.ghosts-index_uncounted
ghosts-index_uncounted a = record { name = a.blank.name; parts = a.blank.parts }
