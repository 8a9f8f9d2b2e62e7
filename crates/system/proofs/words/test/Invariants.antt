use Rattle.system.proofs.words.test.Given as goal

-- the writer's contents when recording begins
abbrev pub ghosts-test_kept : goal.ghosts-test_kept
ghosts-test_kept g a = record { begun = g.W.Write.contents a.out }
