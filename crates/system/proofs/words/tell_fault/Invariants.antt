use Rattle.system.proofs.words.tell_fault.Given as goal

-- the writer's contents when recording begins
abbrev pub ghosts-tell_recorded : goal.ghosts-tell_recorded
ghosts-tell_recorded g a = record { begun = g.W.Write.contents a.out }
