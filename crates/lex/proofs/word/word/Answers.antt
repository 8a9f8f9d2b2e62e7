use Rattle.std.proofs.Common.{◌≡◌, ℕ, List, drop, ap, ◌∙◌}
use Rattle.lex.specs.Pieces.{Says, IsWord, Parted}
use Rattle.lex.specs.Tokens as tokens
use Rattle.lex.proofs.steps.Steps.{word_ends, word_is, word_step}
use Rattle.lex.proofs.word.word.Goals as goal
use Rattle.lex.proofs.word.word.Goals.{in-Some, in-None+then-is_reserved, in-None+else-is_reserved}

pub range-word-requires-clause-end_boundary : goal.range-word-requires-clause-end_boundary
range-word-requires-clause-end_boundary c =
    let e : c.split_at.result.1.now ≡ drop c.args.at c.args.text.now = c.split_at.ensures.back ∙ ap (drop c.args.at) c.as_bytes.ensures.value in
    word_ends c.args.text.now c.split_at.result.1.now c.args.at c.word_len-len.result c.utf8.text e c.requires.within c.requires.begins c.word_len-len.ensures.value

pub keyword-requires : goal.keyword-requires
keyword-requires c =
    let e : c.split_at.result.1.now ≡ drop c.args.at c.args.text.now = c.split_at.ensures.back ∙ ap (drop c.args.at) c.as_bytes.ensures.value in
    word_is c.args.text.now c.split_at.result.1.now c.range-word.result.now c.args.at c.word_len-len.result e c.requires.within c.requires.begins c.word_len-len.ensures.value c.range-word.ensures.value

pub returns : goal.returns
returns c =
    let e : c.split_at.result.1.now ≡ drop c.args.at c.args.text.now = c.split_at.ensures.back ∙ ap (drop c.args.at) c.as_bytes.ensures.value in
    let is : IsWord c.range-word.result.now = word_is c.args.text.now c.split_at.result.1.now c.range-word.result.now c.args.at c.word_len-len.result e c.requires.within c.requires.begins c.word_len-len.ensures.value c.range-word.ensures.value in
    let step = λ (t : tokens.Terminal) (m : Says c.range-word.result.now t) (p : (z : List ℕ) → Parted t z). word_step c.args.text.now c.split_at.result.1.now c.range-word.result.now c.args.at c.word_len-len.result t e c.requires.within c.requires.begins c.word_len-len.ensures.value c.range-word.ensures.value m p in
    elim c.match-keyword.branch [
      | in-Some w ↦ rw (w.kind-is, w.kind_of-kind.ensures) (step (tokens.fixed w.in-Some.keyword) (Says.fixed w.in-Some.keyword w.in-Some.ensures) (λ z. tt))
      | in-None+then-is_reserved w ↦ rw w.kind-is (step tokens.reserved (Says.reserved w.if-is_reserved.ensures) (λ z. tt))
      | in-None+else-is_reserved w ↦ rw w.kind-is (step (tokens.name c.range-word.result.now) (Says.name is w.in-None.ensures w.if-is_reserved.ensures) (λ z. tt))
    ]
