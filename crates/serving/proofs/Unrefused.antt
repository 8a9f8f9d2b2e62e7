-- An accepted program within the depth is not refused, except for a limit of code.
use Rattle.std.proofs.Common.{◌≡◌, ◌∙◌, ◌<◌, ◌≤◌, inl, inr, ℕ, List, [], ◌∷◌, ◌++◌, Some, None, true, is_some, codes, append_assoc, subst, sym, arith}
use Rattle.std.proofs.Math.Logic.{∥∥₁_elim}
use Rattle.std.proofs.lemmas.Bool.{false≢true}
use Rattle.lex.specs.Faults.{IsFault, IsFirst}
use Rattle.lex.specs.Faults as lex
use Rattle.lex.specs.Pieces.{IsLexed}
use Rattle.lex.specs.Tokens.{Tok}
use Rattle.lex.specs.declared.fault.LexFault.{LexFault}
use Rattle.lex.specs.declared.fault.LexFault.TheVariants as lexical
use Rattle.lex.specs.declared.token.Span.{Span}
use Rattle.syntax.specs.Grammar.{ParsedSource, Spells, deepest_program, source_depth}
use Rattle.syntax.specs.Phrases.{Begins}
use Rattle.syntax.specs.Tree.{Program}
use Rattle.syntax.specs.Types.{file_scope}
use Rattle.syntax.specs.Typing.{AreDefined, AreTypedItems, IsTypedProgram, Meets, first_unmet, is_worker}
use Rattle.syntax.specs.Violations.{number_of, told_of}
use Rattle.syntax.proofs.typing.Demands.{none_unmet}
use Rattle.parse.specs.Faults.{IsParseFaultOf}
use Rattle.parse.specs.Faults as parse
use Rattle.parse.specs.declared.fault.ParseFault.{ParseFault}
use Rattle.parse.specs.declared.fault.ParseFault.TheVariants as syntactic
use Rattle.types.proofs.AllMet.{met_anywhere}
use Rattle.safety.specs.Faults.{IsSafetyFault}
use Rattle.safety.specs.Laws.{SafeHasNoFault}
use Rattle.separation.specs.Laws.{FaultTouches}
use Rattle.separation.specs.Touching.{IsSeparationFault}
use Rattle.serving.specs.declared.program.SourceFault.{SourceFault}
use Rattle.serving.specs.declared.program.SourceFault.TheVariants.{OutOfMemory, Lex, Parse, Broken, NoCode}
use Rattle.serving.specs.Checks.{Accepts}
use Rattle.serving.specs.Laws.{AcceptedAreNotRefused, AcceptedPassLimits}
use Rattle.serving.specs.Limits.{IsFaultOfText, PassesLimit}
use Rattle.serving.specs.Refusals.{IsFaultOfSource, span_of_source}
use Rattle.serving.proofs.ListedOutcomes.{one_source}
use Rattle.lower.specs.Answers as lower
use Rattle.lower.specs.declared.fault.LowerFault.{LowerFault}

-- the tokens of a program begin with those up to each token
abbrev begins : (s : ParsedSource) (ts before : List Tok) (token : Tok) (after : List Tok) → Spells s ts → ts ≡ before ++ token ∷ after → Begins Spells (before ++ token ∷ [])
begins s ts before token after is whole = record {
  value = s;
  more = after;
  spelled = subst (Spells s) (whole ∙ sym (append_assoc before (token ∷ []) after)) is;
}

-- tokens that spell a program within the depth have no fault
spelled : (ts : List Tok) (s : ParsedSource) (fault : ParseFault) → Spells s ts → source_depth s ≤ deepest_program → IsParseFaultOf ts fault → is_some (parse.span_of fault) ≡ true → ⊥
spelled ts s syntactic.OutOfMemory is few wrong placed = false≢true placed
spelled ts s (syntactic.Unexpected at) is few wrong placed =
    wrong.not (begins s ts wrong.here.before wrong.here.token wrong.here.after is wrong.here.whole)
spelled ts s (syntactic.TooDeep at) is few wrong placed =
    let deep : deepest_program < source_depth s = wrong.deep (begins s ts wrong.here.before wrong.here.token wrong.here.after is wrong.here.whole) in omega (arith, deep, few)
spelled ts s (syntactic.Unfinished at) is few wrong placed = wrong.not s is

nothing_is : {A : Type 0} (x : A) → None ≡ Some x → ⊥
nothing_is x e = cc

-- a typed program violates no demand, wherever its last token ends
typed : (end : ℕ) (p : Program) (x : ℕ × Span) → IsTypedProgram p → Some x ≡ first_unmet (Meets end p) → ⊥
typed end p x met first =
    nothing_is x (met_anywhere (AreTypedItems [] p ++ AreDefined p [] p) 28 (record { start = 0; end = 0 }) (record { start = end; end = end }) (is_worker (file_scope p (codes "worker"))) (none_unmet (Meets 0 p) met) ∙ sym first)

module _ (one_tokens : (text : List ℕ) (ts us : List Tok) → IsLexed text ts → IsLexed text us → ts ≡ us) (no_fault : (text : List ℕ) (ts : List Tok) (f : LexFault) → IsLexed text ts → IsFirst text f → ⊥) (one_tree : (ts : List Tok) (a b : ParsedSource) → Spells a ts → Spells b ts → a ≡ b) (is_safe : SafeHasNoFault) (touches : FaultTouches) where
  -- a text with tokens has no lexical fault
  lexed : (text : List ℕ) (ts : List Tok) (fault : LexFault) → IsLexed text ts → IsFault text fault → is_some (lex.span_of fault) ≡ true → ⊥
  lexed text ts lexical.OutOfMemory is wrong placed = false≢true placed
  lexed text ts lexical.FileTooLong is wrong placed = let short = is.short in omega (arith, short, wrong)
  lexed text ts (lexical.BadCharacter s) is wrong placed = no_fault text ts (lexical.BadCharacter s) is wrong
  lexed text ts (lexical.ConstantTooLarge s) is wrong placed = no_fault text ts (lexical.ConstantTooLarge s) is wrong
  lexed text ts (lexical.OpenComment s) is wrong placed = no_fault text ts (lexical.OpenComment s) is wrong
  lexed text ts (lexical.BadString s) is wrong placed = no_fault text ts (lexical.BadString s) is wrong
  lexed text ts (lexical.Directive s) is wrong placed = no_fault text ts (lexical.Directive s) is wrong

  -- the text of an accepted program within the depth has no fault of the source at a position
  source_right : (text : List ℕ) (is : Accepts text) → source_depth is.source ≤ deepest_program → (fault : SourceFault) → IsFaultOfSource text fault → is_some (span_of_source fault) ≡ true → ⊥
  source_right text is few OutOfMemory wrong placed = false≢true placed
  source_right text is few (Lex fault) wrong placed = lexed text is.spelled.tokens fault is.spelled.lexed wrong placed
  source_right text is few (Parse fault) wrong placed =
      spelled is.spelled.tokens is.source fault is.spelled.spelled few
      (subst (λ (ts : List Tok). IsParseFaultOf ts fault) (one_tokens text wrong.tokens is.spelled.tokens wrong.lexed is.spelled.lexed) wrong.fault) placed
  source_right text is few (Broken v) (inl wrong) placed =
      let same = one_source one_tokens one_tree text wrong.source is.source wrong.spelled is.spelled in
      ∥∥₁_elim is.accepted (hlevel) (λ a. typed is.source.ends is.source.program (told_of v) a.typed (subst (λ (s : ParsedSource). Some (told_of v) ≡ first_unmet (Meets s.ends s.program)) same wrong.first))
  source_right text is few (Broken v) (inr (inl wrong)) placed =
      let same = one_source one_tokens one_tree text wrong.source is.source wrong.spelled is.spelled in
      ∥∥₁_elim is.accepted (hlevel) (λ a. is_safe is.source.program a.safe (number_of v.rule) v.at (subst (λ (s : ParsedSource). IsSafetyFault (number_of v.rule) v.at s.program) same wrong.first))
  source_right text is few (Broken v) (inr (inr wrong)) placed =
      let same = one_source one_tokens one_tree text wrong.source is.source wrong.spelled is.spelled in
      ∥∥₁_elim is.accepted (hlevel) (λ a. a.separate (touches is.source.program (number_of v.rule) v.at (subst (λ (s : ParsedSource). IsSeparationFault (number_of v.rule) v.at s.program) same wrong.first)))
  source_right text is few (NoCode fault) wrong placed = wrong

  pub not_refused : AcceptedAreNotRefused
  not_refused text is few (fault, wrong, placed) = source_right text is few fault wrong placed

  passes : (text : List ℕ) (is : Accepts text) → source_depth is.source ≤ deepest_program → (fault : SourceFault) → IsFaultOfText text fault → is_some (span_of_source fault) ≡ true → (fault : LowerFault) × PassesLimit text fault × (is_some (lower.span_of fault) ≡ true)
  passes text is few OutOfMemory wrong placed = absurd (source_right text is few OutOfMemory wrong placed)
  passes text is few (Lex fault) wrong placed = absurd (source_right text is few (Lex fault) wrong placed)
  passes text is few (Parse fault) wrong placed = absurd (source_right text is few (Parse fault) wrong placed)
  passes text is few (Broken v) wrong placed = absurd (source_right text is few (Broken v) wrong placed)
  passes text is few (NoCode fault) wrong placed = (fault, wrong, placed)

  pub pass_limits : AcceptedPassLimits
  pass_limits text is few (fault, wrong, placed) = passes text is few fault wrong placed
