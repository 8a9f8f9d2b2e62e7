use Rattle.std.proofs.Common.{ap, subst, sym, ◌∙◌}
use Rattle.std.specs.Prelude.{string_bytes}
use Rattle.questions.specs.Questions.{questions_of}
use Rattle.system.specs.Kept.{kept_in}
use Rattle.system.specs.Tests.{AreQuestionsPassed}
use Rattle.verdicts.specs.Verdicts.{HaveAllPassed}
use Rattle.system.proofs.Testing.{kept_file_passed, next_file, refused_passed}
use Rattle.system.proofs.tests.test_files.Goals as goal
use Rattle.system.proofs.tests.test_files.Goals.{in-Some+in_ok-tally-in-Some, in-None}

pub names-preserved : goal.names-preserved
names-preserved g c =
    let contents = g.F.Files.contents c.args.files.now in
    let kept = kept_in c.args.kept.now in
    let name = c.name-item.result in
    elim c.match-bytes_of.branch [
      | in-Some+in_ok-tally-in-Some w ↦ λ all. (
          let passed = subst HaveAllPassed w.tally-is all in
          let bytes = w.in-Some.bytes.now in
          next_file contents kept string_bytes _ c.names.name-index name c.name-item.is c.names-test.true
          (c.names.invariant (w.in_ok-tally-in-Some.ensures.before passed))
          (kept_file_passed contents (string_bytes name) bytes (kept (string_bytes name)) (sym (w.in-Some.ensures ∙ ap kept c.as_str.ensures.value))
          (subst (λ file. AreQuestionsPassed contents file bytes (questions_of bytes)) w.as_str-in-Some.ensures.value (w.in_ok-tally-in-Some.ensures.passed passed))))
      | in-None w ↦ λ all. refused_passed (w.with-tally.ensures.this (subst HaveAllPassed w.tally-is all))
    ]
