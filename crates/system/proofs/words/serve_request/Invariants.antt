use Rattle.system.proofs.words.serve_request.Given as goal

-- the writer's contents when recording begins
abbrev pub ghosts-serve_kept : goal.ghosts-serve_kept
ghosts-serve_kept g a = record { begun = g.W.Write.contents a.out }
