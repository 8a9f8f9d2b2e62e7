-- Questions that pass, one at a time, and files of them.
use Rattle.std.proofs.Common.{◌≡◌, ◌∙◌, ◌+◌, ◌<◌, ◌≤◌, ℕ, Bool, true, false, List, [], ◌∷◌, ◌++◌, Option, Some, ap, get_or, length, map, sym, subst, take}
use Rattle.std.proofs.lemmas.Bool.{false≢true}
use Rattle.std.proofs.lemmas.List.{map_more, take_all}
use Rattle.std.specs.Prelude.{IsSomeAnd}
use Rattle.questions.specs.Questions.{expected_of, questions_of, status_of, without_expected}
use Rattle.questions.specs.declared.expected.Expected.{Expected}
use Rattle.serving.specs.Files.{Contents}
use Rattle.system.specs.Tests.{AreFilesPassed, AreQuestionsPassed, IsQuestionPassed, IsRequestAnswered, request_words}
use Rattle.verdicts.specs.declared.verdict.Verdict.{Verdict}
use Rattle.verdicts.specs.declared.verdict.Verdict.TheVariants.{Passed, Refused}

pub question_passed : (contents : Contents) (file bytes : List ℕ) (words asked : List (List ℕ)) (expected : Expected) (status : ℕ) → asked ≡ without_expected words → expected ≡ expected_of words → status ≡ status_of expected → IsRequestAnswered contents file bytes (request_words file asked) status → IsQuestionPassed contents file bytes words
question_passed contents file bytes words asked expected status are is same answered =
    subst (IsRequestAnswered contents file bytes (request_words file (without_expected words))) (same ∙ ap status_of is)
    (subst (λ ws. IsRequestAnswered contents file bytes (request_words file ws) status) are answered)

pub one_more_passed : (contents : Contents) (file bytes : List ℕ) (qs : List (ℕ × List (List ℕ))) (q : ℕ × List (List ℕ)) → AreQuestionsPassed contents file bytes qs → IsQuestionPassed contents file bytes q.1 → AreQuestionsPassed contents file bytes (qs ++ q ∷ [])
one_more_passed contents file bytes [] q are is = (is, tt)
one_more_passed contents file bytes (x ∷ qs) q are is = (are.0, one_more_passed contents file bytes qs q are.1 is)

pub one_more_file : (contents kept : Contents) (files : List (List ℕ)) (file : List ℕ) → AreFilesPassed contents kept files → IsSomeAnd (kept file) (λ bytes. AreQuestionsPassed contents file bytes (questions_of bytes)) → AreFilesPassed contents kept (files ++ file ∷ [])
one_more_file contents kept [] file are is = (is, tt)
one_more_file contents kept (x ∷ files) file are is = (are.0, one_more_file contents kept files file are.1 is)

-- one more question of a list passes
pub next_question : {X : Type 0} (contents : Contents) (file bytes : List ℕ) (f : X → ℕ × List (List ℕ)) (items : List X) (k : ℕ) (x : X) → x ≡ get_or items k x → k < length items → AreQuestionsPassed contents file bytes (map f (take k items)) → IsQuestionPassed contents file bytes (f x).1 → AreQuestionsPassed contents file bytes (map f (take (k + 1) items))
next_question contents file bytes f items k x at low are is =
    subst (AreQuestionsPassed contents file bytes) (sym (map_more f items k x low ∙ ap (λ y. map f (take k items) ++ f y ∷ []) (sym at)))
    (one_more_passed contents file bytes (map f (take k items)) (f x) are is)

-- if all questions of a list pass, so do the questions that it represents
pub all_questions : {X : Type 0} (contents : Contents) (file bytes : List ℕ) (f : X → ℕ × List (List ℕ)) (items found : List X) (k : ℕ) (qs : List (ℕ × List (List ℕ))) → length items ≤ k → items ≡ found → map f found ≡ qs → AreQuestionsPassed contents file bytes (map f (take k items)) → AreQuestionsPassed contents file bytes qs
all_questions contents file bytes f items found k qs low same is are = subst (AreQuestionsPassed contents file bytes) (ap (map f) (take_all k items low ∙ same) ∙ is) are

-- the questions of one more file of a list pass
pub next_file : {X : Type 0} (contents kept : Contents) (f : X → List ℕ) (items : List X) (k : ℕ) (x : X) → x ≡ get_or items k x → k < length items → AreFilesPassed contents kept (map f (take k items)) → IsSomeAnd (kept (f x)) (λ bytes. AreQuestionsPassed contents (f x) bytes (questions_of bytes)) → AreFilesPassed contents kept (map f (take (k + 1) items))
next_file contents kept f items k x at low are is =
    subst (AreFilesPassed contents kept) (sym (map_more f items k x low ∙ ap (λ y. map f (take k items) ++ f y ∷ []) (sym at)))
    (one_more_file contents kept (map f (take k items)) (f x) are is)

-- the questions of a kept file pass
pub kept_file_passed : (contents : Contents) (file bytes : List ℕ) (found : Option (List ℕ)) → found ≡ Some bytes → AreQuestionsPassed contents file bytes (questions_of bytes) → IsSomeAnd found (λ bs. AreQuestionsPassed contents file bs (questions_of bs))
kept_file_passed contents file bytes found is passed = subst (λ o. IsSomeAnd o (λ bs. AreQuestionsPassed contents file bs (questions_of bs))) (sym is) passed

is_passed : Verdict → Bool
is_passed Passed = true
is_passed _ = false

-- a refused question has not passed
pub refused_passed : {P : Type 0} → ◌≡◌ {A = Verdict} Refused Passed → P
unfolding is_passed
refused_passed is = absurd (false≢true (ap is_passed is))
