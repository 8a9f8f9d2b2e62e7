-- Every run satisfies whatever is confirmed for all orders.
use Rattle.std.proofs.Common.{◌≡◌, ◌∙◌, ℕ, ◌%◌, false, List, drop, get_or, map, sym, ap, subst, arith}
use Rattle.lex.specs.Pieces.{IsLexed}
use Rattle.lex.specs.Tokens.{Tok}
use Rattle.syntax.specs.Tree.{Program}
use Rattle.syntax.specs.Names.{bounds, initial_from, initial_memory}
use Rattle.syntax.specs.Behaviours.{Step, last_memory}
use Rattle.syntax.specs.Grammar.{ParsedSource, Spells}
use Rattle.syntax.specs.OrderLaws.{IsItsOrder}
use Rattle.syntax.specs.Threads.{IsSourceRun, thread}
use Rattle.syntax.proofs.ordering.RunOrders.{runs_are_orders}
use Rattle.syntax.proofs.running.ThreadLaws.{goes_on}
use Rattle.syntax.proofs.running.Counted.{left_as_many_as_found, never_more_left}
use Rattle.bytecode.specs.Beginning.{beginning}
use Rattle.bytecode.specs.Code.{Code, Configuration, effect}
use Rattle.bytecode.specs.Initial.{initial_of}
use Rattle.machine.specs.Merges.{Entry, run_of}
use Rattle.machine.specs.Serializable.{IsOpaque, merge_after, world_after}
use Rattle.machine.specs.Worlds.{World}
use Rattle.report.specs.Printed.{Printed}
use Rattle.serving.specs.Checks.{IsSourceOf}
use Rattle.serving.specs.Laws.{PropertiesHoldInReports, PropertiesHoldInWorlds, PropertiesHoldOfSharedWords, RefinedReportsAreOutcomes}
use Rattle.serving.specs.Orders.{IsOrderOf, RunsInSomeOrder}
use Rattle.serving.specs.Properties.{AlwaysHolds, HoldsOf}
use Rattle.serving.specs.Reports.{has_stopped}
use Rattle.serving.proofs.EachOrder.{all_leave}
use Rattle.serving.proofs.ListedOutcomes.{one_source}
use Rattle.serving.proofs.Serial.{free_words}
use Rattle.serving.proofs.SomeOrder.{named}

-- ---- shared memory

-- a run of the source leaves what its order leaves
holds_behind : (p : Program) (threads : ℕ) (run : List Step) → IsSourceRun p threads run → (x : List ℕ) → AlwaysHolds p threads x → HoldsOf p x (last_memory (initial_memory p) run)
holds_behind p threads run is_run x always =
    let n = all_leave p threads run is_run threads (omega arith) in
    let i : IsItsOrder p threads n.0 run = runs_are_orders left_as_many_as_found never_more_left goes_on p threads n.0 run is_run n.1 in
    subst (HoldsOf p x) i.memory (always (map (λ (s : Step). s.thread) run) n.0 (named threads run is_run.named))

-- if the lock is free, the words are also what a run leaves
pub holds_in_world : (p : Program) (code : Code) (threads : ℕ) (steps x : List ℕ) → IsOpaque (effect code) (beginning code) (thread p) (bounds p) (initial_memory p) threads steps → AlwaysHolds p threads x → (world_after (effect code) (beginning code) (initial_memory p) threads steps).lock % 2 ≡ 0 → HoldsOf p x (world_after (effect code) (beginning code) (initial_memory p) threads steps).words
holds_in_world p code threads steps x opaque always even =
    let w : World Configuration = world_after (effect code) (beginning code) (initial_memory p) threads steps in
    let es : List Entry = merge_after (effect code) (beginning code) (initial_memory p) threads steps in
    let e = opaque.serializable.each_merge es opaque.serializable.is_merge in
    subst (HoldsOf p x) (sym (free_words (initial_memory p) w es even e.held)) (holds_behind p threads (run_of es) e.is_run x always)

-- the words that real threads share are those of a world
pub hold_of_shared : PropertiesHoldInWorlds → PropertiesHoldOfSharedWords
hold_of_shared in_worlds p key lock words x views compiled few always rule even =
    let same : initial_of key.code ≡ initial_memory p = ap initial_from compiled.globals in
    let w : World Configuration = world_after (effect key.code) (beginning key.code) (initial_memory p) key.threads rule.trace in
    let is : rule.world ≡ w = rule.is_trace.world ∙ ap (λ m. world_after (effect key.code) (beginning key.code) m key.threads rule.trace) same in
    let locks : lock ≡ w.lock = ap (λ (ws : List ℕ). get_or ws 0 0) rule.words_are ∙ ap (λ (v : World Configuration). v.lock) is in
    let all : words ≡ w.words = ap (λ (ws : List ℕ). drop 1 ws) rule.words_are ∙ ap (λ (v : World Configuration). v.words) is in
    subst (HoldsOf p x) (sym all) (in_worlds p key.code key.threads rule.trace x rule.valid compiled few always (subst (λ n. n % 2 ≡ 0) locks even))

-- ---- reports

module _ (one_tokens : (text : List ℕ) (ts us : List Tok) → IsLexed text ts → IsLexed text us → ts ≡ us) (one_tree : (ts : List Tok) (a b : ParsedSource) → Spells a ts → Spells b ts → a ≡ b) where
  -- a report of a text is one of its source
  of_source : (threads : ℕ) (text : List ℕ) (source : ParsedSource) (shown : Printed) → IsSourceOf text source → (r : RunsInSomeOrder threads text shown) → IsOrderOf source.program threads r.ticks r.order shown
  of_source threads text source shown spelled r =
      subst (λ (s : ParsedSource). IsOrderOf s.program threads r.ticks r.order shown) (one_source one_tokens one_tree text r.in_order.source source r.in_order.spelled spelled) r.in_order.run

  pub hold_in_reports : PropertiesHoldInReports
  hold_in_reports threads text x source shown spelled holds r goes =
      let this = of_source threads text source shown spelled r in
      (r.ticks, r.order, this, holds r.order r.ticks this.named (subst (λ (s : Printed). has_stopped s ≡ false) this.shows goes))

  pub are_outcomes : RefinedReportsAreOutcomes
  are_outcomes threads text this that shown spelled refines r goes =
      refines (record { order = r.order; shown = shown }) (record { ticks = r.ticks; order = of_source threads text this shown spelled r }, goes)
