-- The instructions of a print do what it does.
use Rattle.std.proofs.Common.{◌≡◌, ◌⊎◌, ℕ, suc, true, List, [], ◌∷◌, ◌++◌, length, refl, ap, ◌∙◌, subst, inl, inr}
use Rattle.std.specs.Prelude.{slice_index, map}
use Rattle.lower_spec.proofs.Expressions.{CallsFollow, handed, args_follow}
use Rattle.syntax.specs.declared.tree.Mode.{Mode}
use Rattle.syntax.specs.declared.tree.Mode.TheVariants.{Atomic, Relaxed}
use Rattle.syntax.specs.Tree.{Program, Exprs}
use Rattle.syntax.specs.declared.value.Value.{Value}
use Rattle.syntax.specs.declared.thread_end.Halt.TheVariants.{Astray}
use Rattle.syntax.specs.Names.{Local}
use Rattle.syntax.specs.Behaviours.{Memory, Outcome}
use Rattle.syntax.specs.Actions.{Inside, State, Answer, Gives, Stops, Action, pure, go_on, ◌>>=◌, ◌>>◌, may_print, may_print_at}
use Rattle.syntax.specs.Meaning.{Completion, Next, Caller, print_pieces, exprs}
use Rattle.bytecode.specs.Effects.{Effect}
use Rattle.bytecode.specs.Code.{Code, Frame, Instr, effect, print_effect}
use Rattle.lower_spec.specs.Expressions.{LocalScope, Layout}
use Rattle.lower_spec.specs.Statements.{PiecesCode, PrintCode}
use Rattle.lower_spec.proofs.Agreement.{astray, same}
use Rattle.lower_spec.proofs.Runs.{Transactions, Around, Bare, Within, Shared, state, IsSeen, on_seen, HasCellsOf, IsGood, HasLocals, configuration, effect_at, PrintsIn, prints_piece, irrevocable_bare, irrevocable_within}
use Rattle.std.specs.Fmt.{signed_decimal}
use Rattle.syntax.specs.Numbers.{number}
use Rattle.syntax.specs.Formats.{Piece, Literal, Specifier, pieces}
use Rattle.lower_spec.proofs.Statements.{raised, lowered, Goes, GoesNext}

-- values that are due in no types
unhanded : (vs : List Value) → handed [] vs ≡ map (λ (v : Value). v.word) vs
unhanded [] = refl
unhanded (v ∷ vs) = ap (λ ws. v.word ∷ ws) (unhanded vs)

module _ (p : Program) (call : Caller) (code : Code) (layout : Layout) (frames : List Frame) (cf : CallsFollow p call code layout frames) (are : HasCellsOf code p) where
  -- printing: where it is allowed, an irrevocable was carried out
  abbrev MayPrint : Around → Shared → Type 0
  MayPrint Bare sh = Unit {0}
  MayPrint (Within k) sh = sh.kept ≡ true

  -- the specifiers' registers, one for each value
  pieces_follow : {N K : ℕ} (ps : List Piece) (rs : List ℕ) (vs : List Value) (from to : ℕ) → PiecesCode code layout p ps rs from to → (a : Around) (sh : Shared) (text : List ℕ) (ls : List Local) (registers : List ℕ) (after : Answer (Unit {0}) → Outcome) → map (slice_index registers) rs ≡ map (λ (v : Value). v.word) vs → MayPrint a sh → IsSeen a after → ((text1 : List ℕ) → Goes p call code layout frames cf are N K a sh text1 ls to registers (λ s. after (Gives tt s))) → Goes p call code layout frames cf are N K a sh text ls from registers (λ s. after (print_pieces ps vs s))
  pieces_follow {N = N} {K = K} [] rs vs from to c a sh text ls registers after words may s go =
      subst (λ q. Goes p call code layout frames cf are N K a sh text ls q registers (λ s. after (Gives tt s))) c (go text)
  pieces_follow (Literal piece ∷ ps) rs vs from to c a sh text ls registers after words may s go =
      prints_piece code a after (print_pieces ps vs) sh ls text piece (configuration code from registers frames) (configuration code (suc from) registers frames) s (may_of a sh may)
      (effect_at code from (Instr.PrintText c.0.number) registers frames c.0.prints ∙ ap (print_effect (configuration code from registers frames)) c.0.known)
      (pieces_follow ps rs vs (suc from) to c.1 a sh (text ++ piece) ls registers after words may s go)
    where
      may_of : (a : Around) (sh : Shared) → MayPrint a sh → PrintsIn code a sh
      may_of Bare sh m = m
      may_of (Within k) sh m = m
  pieces_follow (Specifier t ∷ ps) [] vs from to c a sh text ls registers after words may s go = absurd c
  pieces_follow (Specifier t ∷ ps) (r ∷ rs) [] from to c a sh text ls registers after words may s go = astray (effect code) 0 (s.astray _)
  pieces_follow (Specifier t ∷ ps) (r ∷ rs) (v ∷ vs) from to c a sh text ls registers after words may s go =
      prints_piece code a after (print_pieces ps vs) sh ls text (signed_decimal (number t v.word)) (configuration code from registers frames) (configuration code (suc from) registers frames) s (may_of a sh may)
      (effect_at code from (Instr.PrintNumber t r) registers frames c.0 ∙ ap (λ w. Effect.Print (signed_decimal (number t w)) (configuration code (suc from) registers frames)) (ap (first_or 0) words))
      (pieces_follow ps rs vs (suc from) to c.1 a sh (text ++ signed_decimal (number t v.word)) ls registers after (ap others_of words) may s go)
    where
      may_of : (a : Around) (sh : Shared) → MayPrint a sh → PrintsIn code a sh
      may_of Bare sh m = m
      may_of (Within k) sh m = m

      first_or : ℕ → List ℕ → ℕ
      first_or d [] = d
      first_or d (x ∷ xs) = x

      others_of : List ℕ → List ℕ
      others_of [] = []
      others_of (x ∷ xs) = xs

  -- what may be printed inside a transaction that runs so
  prints_inside : (o : Mode) → (((m : Memory) (s : State) → may_print_at (Inside o m) s ≡ Gives tt s) × (o ≡ Atomic → ⊥)) ⊎ ((m : Memory) (s : State) → may_print_at (Inside o m) s ≡ Stops Astray s)
  prints_inside Relaxed = inl ((λ m s. refl), apart)
    where
      apart : Relaxed ≡ Atomic → ⊥
      apart e = cc
  prints_inside Atomic = inr (λ m s. refl)

  -- the arguments and the pieces, once the irrevocable is carried out
  abbrev pub print_rest : List ℕ → Exprs → Action Completion
  print_rest format es = exprs p call es >>= λ vs. print_pieces (pieces format) vs >> pure Next

  print_goes : {N K : ℕ} (scope : LocalScope) (format : List ℕ) (es : Exprs) (from to : ℕ) (c : PrintCode code layout p scope format es from to) (a : Around) (sh : Shared) (text : List ℕ) (ls : List Local) (old : List ℕ) (after : Answer Completion → Outcome) → ((sh1 : Shared) → IsGood code a sh1 → MayPrint a sh1) → HasLocals scope ls layout (length scope) old → IsGood code a sh → IsSeen a after → GoesNext p call code layout frames cf are N K a after scope to → Goes p call code layout frames cf are N K a sh text ls (suc from) old (λ s. after (print_rest format es s))
  print_goes {N = N} {K = K} scope format es from to c a sh text ls old after may h good s go =
      let rest : List Value → Action Completion = λ vs. print_pieces (pieces format) vs >> pure Next in
      args_follow p call code layout frames cf are scope [] es N K (suc from) c.mid c.free c.rs a sh text ls old (λ q. after (go_on q rest)) c.args (raised scope ls layout c.free old c.room h) good (on_seen a after rest s)
      (λ vs sh1 text1 rs1 words keeps good1.
      pieces_follow (pieces format) c.rs vs c.mid to c.prints a sh1 text1 ls rs1 (λ q. after (go_on q (λ u. pure Next))) (words ∙ unhanded vs) (may sh1 good1) (on_seen a after (λ u. pure Next) s)
      (λ text2. go sh1 text2 ls rs1 good1 (lowered scope ls layout c.free old rs1 c.room h keeps)))

  pub print_follows : {N K : ℕ} (scope : LocalScope) (format : List ℕ) (es : Exprs) (from to : ℕ) (c : PrintCode code layout p scope format es from to) (a : Around) (sh : Shared) (text : List ℕ) (ls : List Local) (old : List ℕ) (after : Answer Completion → Outcome) → HasLocals scope ls layout (length scope) old → IsGood code a sh → IsSeen a after → GoesNext p call code layout frames cf are N K a after scope to → Goes p call code layout frames cf are N K a sh text ls from old (λ s. after (go_on (may_print s) (λ u. print_rest format es)))
  print_follows scope format es from to c Bare sh text ls old after h good s go =
      irrevocable_bare code sh text (configuration code from old frames) (configuration code (suc from) old frames) (effect_at code from Instr.Irrevocable old frames c.irrevocable)
      (print_goes scope format es from to c Bare sh text ls old after (λ sh1 g. tt) h good s go)
  print_follows scope format es from to c (Within k) sh text ls old after h good s go = inside_print k sh good go s (prints_inside k.mode)
    where
      inside_print : {N K : ℕ} (k : Transactions) (sh : Shared) → IsGood code (Within k) sh → GoesNext p call code layout frames cf are N K (Within k) after scope to → IsSeen (Within k) after → (((m : Memory) (s : State) → may_print_at (Inside k.mode m) s ≡ Gives tt s) × (k.mode ≡ Atomic → ⊥)) ⊎ ((m : Memory) (s : State) → may_print_at (Inside k.mode m) s ≡ Stops Astray s) → Goes p call code layout frames cf are N K (Within k) sh text ls from old (λ s. after (go_on (may_print s) (λ u. print_rest format es)))
      inside_print k sh good go s (inr e) =
          same (effect code) (λ n. after (Stops Astray (state n ls (Inside k.mode sh.memory) text))) (λ n. ap (λ q. after (go_on q (λ u. print_rest format es))) (e sh.memory (state n ls (Inside k.mode sh.memory) text)))
          (astray (effect code) 0 (s.astray _))
      inside_print k sh good go s (inl e) =
          let kept : Transactions = record k { must = true } in
          let sh1 : Shared = record sh { kept = true } in
          same (effect code) (λ n. after (print_rest format es (state n ls (Inside k.mode sh.memory) text))) (λ n. ap (λ q. after (go_on q (λ u. print_rest format es))) (e.0 sh.memory (state n ls (Inside k.mode sh.memory) text)))
          (irrevocable_within code k sh text (configuration code from old frames) (configuration code (suc from) old frames) (effect_at code from Instr.Irrevocable old frames c.irrevocable)
          (print_goes scope format es from to c (Within kept) sh1 text ls old after (λ sh2 g. g.2 refl) h (good.0, (λ d. absurd (e.1 (good.1 d).1)), (λ d. refl)) (record { spent = s.spent; wants = s.wants; trapped = s.trapped; astray = s.astray })
          (λ sh2 text2 ls2 rs2 good2 h2. go sh2 text2 ls2 rs2 (good2.0, good2.1, (λ d. good2.2 refl)) h2)))
