use Rattle.meaning.specs.inner.Does.{caller_in}
use Rattle.program_tables.specs.Views.{program_in}
use Rattle.meaning.proofs.Pieces.{apart_first, apart_none}
use Rattle.meaning.proofs.left.begin_apart.Goals as goal

pub returns-in-empty : goal.returns-in-empty
returns-in-empty g c = λ source. apart_none (program_in source) (caller_in source c.args.frames) c.args.ss.now c.in-empty.len_below

pub returns-in-len1-up : goal.returns-in-len1-up
returns-in-len1-up g c = λ source. apart_first (program_in source) (caller_in source c.args.frames) c.args.ss.now c.s-item.result c.in-len1-up.len_at_least c.s-item.is
