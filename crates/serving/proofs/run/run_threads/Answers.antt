use Rattle.serving.proofs.Codes.{compiles}
use Rattle.serving.proofs.run.run_threads.Goals as goal

pub returns-in-Ok-run_code-clause-ok : goal.returns-in-Ok-run_code-clause-ok
returns-in-Ok-run_code-clause-ok g c = record {
  code = c.in-Ok.compiled.code;
  compiled = compiles _ c.in-Ok.compiled c.in-Ok.ensures.source c.in-Ok.ensures.code;
  run = c.in-Ok-run_code.ensures.ok c.in-Ok.ensures.code;
}
