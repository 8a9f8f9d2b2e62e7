-- A replay of a code is one of the program that the code means.
use Rattle.std.proofs.Common.{◌≡◌, ◌≤◌, ◌%◌, ◌∙◌, ℕ, zero, suc, List, [], ◌∷◌, ◌++◌, Option, None, Some, length, map, refl, ap, subst, sym, arith, append_assoc}
use Rattle.std.specs.Io.KnownBytes.{Appends}
use Rattle.rand_core.specs.Steps.{first_words}
use Rattle.rand_pcg.specs.Lcg.{Lcg}
use Rattle.rand_pcg.specs.Pcg.{pcg32}
use Rattle.syntax.specs.Tree.{Program}
use Rattle.syntax.specs.Views.{program_of}
use Rattle.parse.specs.Faults.{source_of}
use Rattle.syntax.specs.Names.{bounds}
use Rattle.syntax.specs.Names.{bounds_of as cell_bounds}
use Rattle.syntax.specs.Behaviours.{Means}
use Rattle.syntax.specs.Threads.{thread}
use Rattle.bytecode.specs.Beginning.{beginning}
use Rattle.bytecode.specs.Code.{Code, effect}
use Rattle.bytecode.specs.Sequential.{meaning}
use Rattle.bytecode.specs.Valid.{bounds_of}
use Rattle.world.specs.declared.report.Report.{Report}
use Rattle.world.specs.declared.stop.WorldStop.{WorldStop}
use Rattle.world.specs.Simulations.{IsHolder, world_of}
use Rattle.command.specs.declared.request.Steps.{Steps}
use Rattle.replay.specs.declared.line.Line.{Line}
use Rattle.replay.specs.declared.line.TheConstants.{MOST_STEPS}
use Rattle.replay.specs.Replays.{IsReplay, simulation_after, timeline_of}
use Rattle.replay.specs.Schedules.{AreLines, AreRows, counts}
use Rattle.replay.specs.Seeds.{generator_of, one_step}
use Rattle.report.specs.Printed.{Printed}
use Rattle.report.specs.Timeline.{timeline_text}
use Rattle.serving.specs.declared.program.Compiled.{Compiled}
use Rattle.serving.specs.Codes.{IsCodeOf}
use Rattle.serving.specs.Checks.{IsSourceOf}
use Rattle.serving.specs.Replays.{AreLinesOf, IsReplayOf, IsReplayOfText, Replays, ReplaysShown, lines_of_seed}
use Rattle.picture.specs.Replayed.{IsDrawn}
use Rattle.serving.specs.Pictures.{ReplaysDrawn}
use Rattle.serving.specs.inner.Replayed.{report_shown}
use Rattle.serving.proofs.Codes.{compiles}

pub replay_of : {A : Type 0} (p : Program) (code : Code) (threads : ℕ) (found : List Line) (r : Report A) (made : List ℕ) (stop : Option WorldStop) (shown : Printed) → IsCodeOf p code → IsReplay code threads found r → made ≡ r.trace.items → stop ≡ r.stop → shown ≡ report_shown p r → IsReplayOf p code threads found made stop shown
replay_of p code threads found r made stop shown compiled replay made_is stop_is shows =
    let cells : bounds p ≡ bounds_of code = ap cell_bounds (sym compiled.globals) in
    let holder_is : shown.holder ≡ r.holder = ap (λ (s : Printed). s.holder) shows in
    let events = replay.events in
    let found_are = replay.threads_are in
    let words = replay.words in
    subst (λ (ms : List ℕ). IsReplayOf p code threads found ms stop shown) (sym (made_is ∙ replay.made_is))
    record {
      rest = replay.rest;
      stop = replay.stop;
      named = replay.named;
      ends = replay.ends;
      explained = replay.explained.programs (thread p) (subst (λ bs. Means bs (meaning (effect code) (beginning code)) (thread p)) cells compiled.means);
      holder = subst (λ (h : Option ℕ). IsHolder (world_of (simulation_after code threads replay.made)) h) (sym holder_is) replay.holder;
      shows = cc (shows, events, found_are, words, holder_is);
      stopped_is = stop_is ∙ replay.stop_is;
    }

-- a replay of a text's program
pub replay_of_text : {A : Type 0} (threads : ℕ) (steps : Steps) (schedule : Option (List ℕ)) (text : List ℕ) (c : Compiled A) (found slice : List Line) (made : List ℕ) (stop : Option WorldStop) (shown : Printed) → IsSourceOf text (source_of c.accepted.safe.typed.unit) → IsCodeOf (program_of c.accepted.safe.typed.unit) c.code → AreLinesOf steps c.code threads schedule found → slice ≡ found → IsReplayOf (program_of c.accepted.safe.typed.unit) c.code threads slice made stop shown → IsReplayOfText threads steps schedule text c.code made stop shown
replay_of_text threads steps schedule text c found slice made stop shown spelled compiled lines same replay = record {
  compiled = compiles text c spelled compiled;
  found = found;
  lines = lines;
  replay = subst (λ (ls : List Line). IsReplayOf (program_of c.accepted.safe.typed.unit) c.code threads ls made stop shown) same replay;
}

-- a replay whose steps were all made
pub replays : (threads : ℕ) (steps : Steps) (schedule : Option (List ℕ)) (text : List ℕ) (code : Code) (made : List ℕ) (stop : Option WorldStop) (shown : Printed) → stop ≡ None → IsReplayOfText threads steps schedule text code made stop shown → Replays threads steps schedule text shown
replays threads steps schedule text code made stop shown whole replay = record {
  code = code;
  made = made;
  replay = subst (λ (s : Option WorldStop). IsReplayOfText threads steps schedule text code made s shown) whole replay;
}

-- with the lines that show each step
pub replays_shown : (threads : ℕ) (steps : Steps) (schedule : Option (List ℕ)) (text : List ℕ) (code : Code) (made : List ℕ) (stop : Option WorldStop) (shown : Printed) → stop ≡ None → IsReplayOfText threads steps schedule text code made stop shown → ReplaysShown threads steps schedule text (timeline_text code (timeline_of (simulation_after code threads made))) shown
replays_shown threads steps schedule text code made stop shown whole replay = record {
  code = code;
  made = made;
  replay = subst (λ (s : Option WorldStop). IsReplayOfText threads steps schedule text code made s shown) whole replay;
  lines_are = refl;
}

-- one step for each word
counts_of_words : (threads : ℕ) (ws : List ℕ) → counts (map (λ w. one_step (w % threads)) ws) ≡ length ws
counts_of_words threads [] = refl
counts_of_words threads (w ∷ ws) = let h = counts_of_words threads ws in omega (arith, h)

words_counted : (n : ℕ) (g : Lcg) → length (first_words pcg32 n g) ≡ n
unfolding first_words
words_counted zero g = refl
words_counted (suc n) g = ap suc (words_counted n (pcg32 g).1)

-- rows that request few enough lines are a schedule
pub lines_written : (rows : List (List ℕ)) (found slice : List Line) → slice ≡ found → counts found ≤ MOST_STEPS → AreRows rows slice → AreLines rows found
lines_written rows found slice same few asked = (subst (λ (ls : List Line). AreRows rows ls) same asked, few)

-- rows that request the lines of a seed are a schedule
pub lines_of : (seed threads count : ℕ) (rows : List (List ℕ)) (found slice : List Line) → found ≡ lines_of_seed seed threads count → slice ≡ found → count ≤ MOST_STEPS → AreRows rows slice → AreLines rows (lines_of_seed seed threads count)
lines_of seed threads count rows found slice is same few asked =
    let words = first_words pcg32 count (generator_of seed) in
    let counted : counts (lines_of_seed seed threads count) ≡ count = counts_of_words threads words ∙ words_counted count (generator_of seed) in
    (subst (λ (ls : List Line). AreRows rows ls) (same ∙ is) asked, omega (arith, counted, few))

-- with its picture
pub replays_drawn : (threads from : ℕ) (steps : Steps) (schedule : Option (List ℕ)) (text : List ℕ) (code : Code) (made : List ℕ) (stop : Option WorldStop) (shown : Printed) (svg : List ℕ) → stop ≡ None → IsReplayOfText threads steps schedule text code made stop shown → IsDrawn text from code (timeline_of (simulation_after code threads made)) svg → ReplaysDrawn threads from steps schedule text svg shown
replays_drawn threads from steps schedule text code made stop shown svg whole replay drawn = record {
  code = code;
  made = made;
  replay = subst (λ (s : Option WorldStop). IsReplayOfText threads steps schedule text code made s shown) whole replay;
  drawn = drawn;
}

-- text that is written after other bytes
pub appends_more : (a b c : Option (List ℕ)) (bs cs : List ℕ) → Appends a b bs → Appends b c cs → Appends a c (bs ++ cs)
appends_more None b c bs cs p q = tt
appends_more (Some x) None c bs cs p q = absurd p
appends_more (Some x) (Some y) None bs cs p q = absurd q
appends_more (Some x) (Some y) (Some z) bs cs p q = q ∙ ap (λ (l : List ℕ). l ++ cs) p ∙ append_assoc x bs cs
