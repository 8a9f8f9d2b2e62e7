use Rattle.lex_and_core_tests.proofs.writes.finds_each.Given as goal

abbrev pub ghosts-finds_all : goal.ghosts-finds_all
ghosts-finds_all a = record { name = a.blank.name; parts = a.blank.parts }
