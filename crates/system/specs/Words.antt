-- The response to the words of a command line, over files that were read.
use Rattle.std.specs.Prelude.{◌≡◌, ◌⊎◌, ℕ, List, [], Option, None, Some}
use Rattle.command.specs.Asked.{AskHelp, AskNothing, Requests}
use Rattle.command.specs.Tests.{RequestTests, WantNoTests}
use Rattle.command.specs.declared.request.Asked.{Asked}
use Rattle.command.specs.declared.request.Tests.{Tests}
use Rattle.serving.specs.Files.{Contents}
use Rattle.system.specs.Kept.{AreReadFrom}
use Rattle.system.specs.Served.{IsServed}
use Rattle.system.specs.Tests.{AnswersTests}
use Rattle.system.specs.declared.kept.KeptFile.{KeptFile}

-- Words make a request, and it is answered. Or they request tests, and their files are tested; other files may be read
-- for these. Or they request help, whose text is not specified. Or they make no request, and nothing is printed. Or
-- nothing is printed, with the status of an allocation failure.
abbrev pub AnswersWords : (all : Contents) → List (List ℕ) → (read : Contents) → (status : ℕ) → (old new : Option (List ℕ)) → Type 0
AnswersWords all words read status old new =
    ((asked : Asked) × Requests words asked × IsServed asked read status old new)
    ⊎ ((tests : Tests) × RequestTests words tests × AnswersTests all tests read status)
    ⊎ AskHelp words × ((status ≡ 0) ⊎ (status ≡ 4))
    ⊎ AskNothing words × WantNoTests words × (status ≡ 2) × (new ≡ old)
    ⊎ (status ≡ 4) × (new ≡ old)

-- words make a request, and each of these files was read for it; or they request tests, and each of these files was
-- read for them; or no file was read
abbrev pub AreReadFor : (words : List (List ℕ)) → Contents → List KeptFile → Type 0
AreReadFor words contents files =
    ((asked : Asked) × Requests words asked × AreReadFrom (Some asked.request) contents files)
    ⊎ ((tests : Tests) × RequestTests words tests × AreReadFrom None contents files)
    ⊎ (files ≡ [])
