-- Where an outer cancel goes on. It is one instruction for all the transactions that it cancels: where a transaction
-- that is no outer one hands it on, the code has not moved. So it is said of any thread that is about to cancel.
use Rattle.std.proofs.Common.{◌≡◌, ℕ, zero, suc, ◌≤◌, Bool, true, false, List, [], ◌∷◌, ◌++◌, Option, Some, None, refl, sym, ap, ◌∙◌, arith}
use Rattle.std.specs.Prelude.{◌-◌, drop, option_map}
use Rattle.syntax.specs.declared.tree.Mode.{Mode}
use Rattle.syntax.specs.declared.tree.Mode.TheVariants.{Atomic}
use Rattle.syntax.specs.declared.tree.TransactionKind.TheVariants.{Plain}
use Rattle.syntax.specs.declared.thread_end.Halt.TheVariants.{Spent}
use Rattle.syntax.specs.declared.thread_end.Status.TheVariants.{Running}
use Rattle.syntax.specs.Tree.{Program}
use Rattle.syntax.specs.Names.{Local}
use Rattle.syntax.specs.Behaviours.{Memory, Outcome, Stopped}
use Rattle.syntax.specs.Actions.{Outside, Inside, State, Answer, Gives, go_on, tick}
use Rattle.syntax.specs.Meaning.{Completion, CancelsOuter, close_inner}
use Rattle.bytecode.specs.Code.{Code, Configuration, Frame, Instr, effect}
use Rattle.bytecode.specs.Sequential.{Sequential, OpenTransaction, InnerTransaction, next, outcome_of, sequential_step, cancel_step, outside}
use Rattle.lower_spec.specs.Expressions.{InstructionAt, Layout}
use Rattle.lower_spec.specs.Statements.{cancelling, OuterCancelCode}
use Rattle.lower_spec.proofs.Agreement.{Agrees, same, fewer, shown}
use Rattle.lower_spec.proofs.Runs.{Transactions, Around, Bare, Within, Shared, context_of, sequential_state, state, IsSeen, IsGood, configuration, effect_at, with_inner}

module _ (code : Code) where
  -- a thread whose next step cancels the innermost transaction of h, and with it so many that lie round it
  abbrev pub opened : Transactions → Shared → OpenTransaction Configuration
  opened h sh = record { cancelled = h.cancelled; found = h.found; mem = sh.memory; inner = h.inner; kept = sh.kept }

  pub record IsCancelling (n : ℕ) (h : Transactions) (sh : Shared) (text : List ℕ) (s : Sequential Configuration) : Type 0 where
    pub seen : outcome_of s ≡ record { lefts = h.lefts; text = text; end = Stopped Spent }
    pub next_is : next (effect code) s ≡ cancel_step (sequential_state (Within h) sh text s.configuration) (opened h sh) (drop n h.inner) sh.kept
    pub free : drop n h.inner ≡ [] → sh.kept ≡ false

  -- where an outer cancel goes on, by how many transactions lie inside the outer one
  abbrev pub OuterGoes : ℕ → ℕ → Around → (Answer Completion → Outcome) → Option ℕ → Type 0
  OuterGoes N K a after None = Unit {0}
  OuterGoes N K Bare after (Some n) = ⊥
  OuterGoes N K (Within h) after (Some n) =
      (drop n h.inner ≡ [] → h.outer ≡ Atomic)
      × ((sh : Shared) (text : List ℕ) (ls : List Local) (s : Sequential Configuration) → IsGood code (Within h) sh → IsCancelling n h sh text s → Agrees (effect code) N K s (λ k. after (Gives CancelsOuter (state k ls (Inside h.mode sh.memory) text))))

  -- the same where what follows leaves an outer cancel as it is, but for the locals
  pub outer_as : (N K : ℕ) (a : Around) (after after' : Answer Completion → Outcome) (change : List Local → List Local) → ((k : ℕ) (ls : List Local) (m : Memory) (mode : Mode) (text : List ℕ) → after' (Gives CancelsOuter (state k ls (Inside mode m) text)) ≡ after (Gives CancelsOuter (state k (change ls) (Inside mode m) text))) → (o : Option ℕ) → OuterGoes N K a after o → OuterGoes N K a after' o
  outer_as N K a after after' change e None g = tt
  outer_as N K Bare after after' change e (Some n) g = absurd g
  outer_as N K (Within h) after after' change e (Some n) g = (g.0, λ sh text ls s good c. same (effect code) (λ k. after (Gives CancelsOuter (state k (change ls) (Inside h.mode sh.memory) text))) (λ k. e k ls sh.memory h.mode text) (g.1 sh text (change ls) s good c))

  pub outer_fewer : {N K N' K' : ℕ} (a : Around) (after : Answer Completion → Outcome) → N' ≤ N → K' ≤ K → (o : Option ℕ) → OuterGoes N K a after o → OuterGoes N' K' a after o
  outer_fewer a after b d None g = tt
  outer_fewer Bare after b d (Some n) g = absurd g
  outer_fewer (Within h) after b d (Some n) g = (g.0, λ sh text ls s good c. fewer (effect code) b d (g.1 sh text ls s good c))

  -- through a plain transaction inside another
  through_step : (k : Transactions) (mode : Mode) (m : Memory) (d c : Configuration) (sh : Shared) (text : List ℕ) (ls : List (InnerTransaction Configuration)) (kept : Bool) → (ls ≡ [] → kept ≡ false) → cancel_step (sequential_state (Within (with_inner code k mode m d)) sh text c) (opened (with_inner code k mode m d) sh) ls kept ≡ cancel_step (sequential_state (Within k) sh text c) (opened k sh) ls kept
  through_step k mode m d c sh text [] false f = refl
  through_step k mode m d c sh text [] true f = absurd (cc (f refl))
  through_step k mode m d c sh text (l ∷ ls) kept f = refl

  pub through_plain : (N K : ℕ) (k : Transactions) (mode : Mode) (m : Memory) (d : Configuration) (sh0 : Shared) (mine : List Local) (after : Answer Completion → Outcome) → IsGood code (Within k) sh0 → (o : Option ℕ) → OuterGoes N K (Within k) after o → OuterGoes N K (Within (with_inner code k mode m d)) (λ q. after (close_inner k.mode (Plain mode) mine m q)) (option_map suc o)
  through_plain N K k mode m d sh0 mine after g0 None g = tt
  through_plain N K k mode m d sh0 mine after g0 (Some n) g = (
    g.0,
    λ sh text ls s good c. g.1 sh text ls s (good.0, (λ e. ((good.1 e).0, (g0.1 e).1)), good.2)
        (record { seen = c.seen; next_is = c.next_is ∙ through_step k mode m d s.configuration sh text (drop n k.inner) sh.kept c.free; free = c.free }),
  )

  pub through_bare : (N K : ℕ) (h : Transactions) (after after' : Answer Completion → Outcome) (o : Option ℕ) → OuterGoes N K Bare after o → OuterGoes N K (Within h) after' (option_map suc o)
  through_bare N K h after after' None g = tt
  through_bare N K h after after' (Some n) g = absurd g

  -- a thread whose next step leaves the outermost transaction
  pub leaves_by : {N K : ℕ} {A : Type 0} (after : Answer A → Outcome) (give : State → Answer A) (left : Memory) (founds lefts : List Memory) (text : List ℕ) (ls ls' : List Local) (d : Configuration) (s0 : Sequential Configuration) → next (effect code) s0 ≡ outside d founds (lefts ++ left ∷ []) text Running → outcome_of s0 ≡ record { lefts = lefts; text = text; end = Stopped Spent } → IsSeen Bare after → Agrees (effect code) N K (outside d founds (lefts ++ left ∷ []) text Running) (λ n. after (give (state n ls' (Outside founds (lefts ++ left ∷ [])) text))) → Agrees (effect code) N K s0 (λ n. after (go_on (tick (state n ls (Outside founds lefts) text)) (λ u then_. give (record then_ { locals = ls'; context = Outside founds (lefts ++ left ∷ []) }))))
  leaves_by after give left founds lefts text ls ls' d s0 e seen s g = fewer (effect code) (omega arith) (omega arith) (shown (effect code) _ e (s.spent _ ∙ sym seen) (λ n. refl) g)

  -- the instruction of an outer cancel
  cancels_next : (frames : List Frame) (n : ℕ) (h : Transactions) (sh : Shared) (text : List ℕ) (q : ℕ) (rs : List ℕ) → InstructionAt code q (cancelling n) → next (effect code) (sequential_state (Within h) sh text (configuration code q rs frames)) ≡ cancel_step (sequential_state (Within h) sh text (configuration code q rs frames)) (opened h sh) (drop n h.inner) sh.kept
  cancels_next frames zero h sh text q rs i = ap (λ x. sequential_step (sequential_state (Within h) sh text (configuration code q rs frames)) false Running (sequential_state (Within h) sh text (configuration code q rs frames)).inside x) (effect_at code q Instr.Cancel rs frames i)
  cancels_next frames (suc n) h sh text q rs i =
      let one_less : suc (suc n) - 1 ≡ suc n = omega arith in
      ap (λ x. sequential_step (sequential_state (Within h) sh text (configuration code q rs frames)) false Running (sequential_state (Within h) sh text (configuration code q rs frames)).inside x) (effect_at code q (Instr.CancelOuter (suc (suc n))) rs frames i)
      ∙ ap (λ k. cancel_step (sequential_state (Within h) sh text (configuration code q rs frames)) (opened h sh) (drop k h.inner) sh.kept) one_less

  pub outer_follows : {N K : ℕ} (p : Program) (layout : Layout) (frames : List Frame) (o : Option ℕ) (q : ℕ) → OuterCancelCode code layout p o q → (a : Around) (sh : Shared) (text : List ℕ) (ls : List Local) (rs : List ℕ) (after : Answer Completion → Outcome) → IsGood code a sh → OuterGoes N K a after o → Agrees (effect code) N K (sequential_state a sh text (configuration code q rs frames)) (λ n. after (Gives CancelsOuter (state n ls (context_of a sh) text)))
  outer_follows p layout frames None q c a sh text ls rs after good g = absurd c
  outer_follows p layout frames (Some n) q c Bare sh text ls rs after good g = absurd g
  outer_follows p layout frames (Some n) q c (Within h) sh text ls rs after good g =
      g.1 sh text ls (sequential_state (Within h) sh text (configuration code q rs frames)) good
      (record { seen = refl; next_is = cancels_next frames n h sh text q rs c; free = λ e. (good.1 (g.0 e)).0 })
