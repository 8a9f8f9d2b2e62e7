use Rattle.std.proofs.Common.{◌≡◌, ◌++◌, map, drop}
use Rattle.syntax.specs.Views.{global_of}
use Rattle.report.specs.Views.{shown_of}
use Rattle.serving.specs.Shows.{shown_globals}
use Rattle.serving.specs.inner.Words.{words_beyond}
use Rattle.serving.proofs.globals.push_globals.Given as goal

-- the globals shown and the remaining ones make up the whole; the remaining words are those of the remaining globals
abbrev pub invariant-globals : goal.invariant-globals
invariant-globals g l = record {
  shown : map shown_of l.shown ++ shown_globals (map global_of (drop l.global-index l.globals)) l.rest ≡ map shown_of l.initial.shown ++ shown_globals (map global_of l.globals) l.words;
  rest : words_beyond (map global_of (drop l.global-index l.globals)) l.rest ≡ words_beyond (map global_of l.globals) l.words;
}
