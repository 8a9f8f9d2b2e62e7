use Rattle.write_log.proofs.WriteLog.get.Given as goal

abbrev pub ghosts-find_uncounted : goal.ghosts-find_uncounted
ghosts-find_uncounted g a = record { name = a.blank.name; parts = a.blank.parts }
