-- The answers to questions in tested files.
use Rattle.std.specs.Prelude.{◌≡◌, ◌⊎◌, ◌∷◌, ℕ, List, [], Some, IsSomeAnd, bytes_eq, codes, false, if◌then◌else◌}
use Rattle.std.specs.Prelude.{map, string_bytes}
use Rattle.command.specs.Asked.{Requests}
use Rattle.command.specs.declared.request.Asked.{Asked}
use Rattle.command.specs.declared.request.Tests.{Tests}
use Rattle.questions.specs.Questions.{expected_of, questions_of, status_of, without_expected}
use Rattle.serving.specs.Files.{Contents}
use Rattle.system.specs.Kept.{AreReadFrom, kept_in}
use Rattle.system.specs.Served.{IsServed}
use Rattle.system.specs.declared.kept.KeptFile.{KeptFile}

-- the contents of files if the source has these bytes
abbrev pub with_source : (file bytes : List ℕ) → Contents → Contents
with_source file bytes contents name = if bytes_eq name file then Some bytes else contents name

-- the words of a command line: `txc outcomes` for a file, and then the words of a question
abbrev pub request_words : (file : List ℕ) → List (List ℕ) → List (List ℕ)
request_words file words = codes "txc" ∷ codes "outcomes" ∷ file ∷ words

-- These words make a request. It is answered with this status, over files that were read, if the source has these
-- bytes.
pub record IsRequestAnswered (contents : Contents) (file bytes : List ℕ) (words : List (List ℕ)) (status : ℕ) : Type 0 where
  pub asked : Asked
  pub requested : Requests words asked
  pub read : List KeptFile
  pub read_from : AreReadFrom (Some asked.request) (with_source file bytes contents) read
  pub printed : List ℕ
  pub served : IsServed asked (kept_in read) status (Some []) (Some printed)

-- a question of a source is answered with the status that it expects
abbrev pub IsQuestionPassed : Contents → (file bytes : List ℕ) → (words : List (List ℕ)) → Type 0
IsQuestionPassed contents file bytes words =
    IsRequestAnswered contents file bytes (request_words file (without_expected words)) (status_of (expected_of words))

-- likewise for each of these questions, which come with the numbers of their lines
abbrev pub AreQuestionsPassed : Contents → (file bytes : List ℕ) → List (ℕ × List (List ℕ)) → Type 0
AreQuestionsPassed contents file bytes [] = Unit {0}
AreQuestionsPassed contents file bytes (q ∷ qs) =
    IsQuestionPassed contents file bytes q.1 × AreQuestionsPassed contents file bytes qs

-- likewise for each question in these files, whose bytes are kept
abbrev pub AreFilesPassed : Contents → (kept : Contents) → List (List ℕ) → Type 0
AreFilesPassed contents kept [] = Unit {0}
AreFilesPassed contents kept (file ∷ files) =
    IsSomeAnd (kept file) (λ bytes. AreQuestionsPassed contents file bytes (questions_of bytes))
    × AreFilesPassed contents kept files

-- The status is 0 only if each question is answered with the status that it expects, unless the questions are listed.
-- Otherwise it is 2, 4 or 5.
pub record AnswersTests (contents : Contents) (tests : Tests) (kept : Contents) (status : ℕ) : Type 0 where
  pub passed : status ≡ 0 → tests.lists ≡ false → AreFilesPassed contents kept (map string_bytes tests.files.items)
  pub others : (status ≡ 0) ⊎ (status ≡ 2) ⊎ (status ≡ 4) ⊎ (status ≡ 5)
