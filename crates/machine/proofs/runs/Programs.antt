-- What is said of a code holds of every program that it means.
use Rattle.std.proofs.Common.{◌≡◌, ◌≤◌, ◌+◌, ◌==◌, ◌^◌, ◌⊎◌, inl, inr, ℕ, Bool, true, false, cond, List, [], ◌∷◌, ◌++◌, Some, map, sym, ◌∙◌, ap, subst, slice_get, arith}
use Rattle.std.specs.List.{AllByRecursion}
use Rattle.std.proofs.lemmas.Option.{slice_get_within}
use Rattle.syntax.specs.Behaviours.{Behaviour, IsMemory, IsRun, Matches, Means, Outcome, Stands, Step, founds_of, last_memory, of_thread}
use Rattle.syntax.specs.Threads.{thread}
use Rattle.syntax.specs.Tree.{Program}
use Rattle.bytecode.specs.Effects.{Effect, FitsCells}
use Rattle.bytecode.specs.Sequential.{meaning}
use Rattle.machine.specs.Alone.{IsAtEnd, IsOver, ReachesEnd, zeros}
use Rattle.machine.specs.Explained.{IsExplainedBy}
use Rattle.machine.specs.Merges.{Entry, run_of}
use Rattle.machine.specs.Serializable.{IsOpaque, IsSerializable, world_after}
use Rattle.machine.specs.Worlds.{Part, World}
use Rattle.machine.proofs.runs.Extended.{extended}
use Rattle.machine.proofs.runs.InTime.{in_time}
use Rattle.machine.proofs.runs.Serializable.{serializable}
use Rattle.machine.proofs.alone.Founds.{founds_memories}
use Rattle.machine.proofs.alone.Lefts.{leaves_memories}
use Rattle.machine.proofs.alone.OneThread.{reaches_end}

-- what holds of all steps' memories holds of those that a thread finds
founds_all : (bounds : List ℕ) (t : ℕ) (ss : List Step) → AllByRecursion (λ (s : Step). IsMemory bounds s.found × IsMemory bounds s.left) ss → AllByRecursion (IsMemory bounds) (founds_of t ss)
founds_all bounds t [] all = tt
founds_all bounds t (s ∷ ss) all = at (s.thread == t) (founds_all bounds t ss all.1)
  where
    at : (b : Bool) → AllByRecursion (IsMemory bounds) (founds_of t ss) → AllByRecursion (IsMemory bounds) (map (λ (x : Step). x.found) (cond b (s ∷ of_thread t ss) (of_thread t ss)))
    at true ih = (all.0.0, ih)
    at false ih = ih

last_memories : (bounds : List ℕ) (m : List ℕ) (ss : List Step) → IsMemory bounds m → AllByRecursion (λ (s : Step). IsMemory bounds s.found × IsMemory bounds s.left) ss → IsMemory bounds (last_memory m ss)
last_memories bounds m [] is all = is
last_memories bounds m (s ∷ ss) is all = last_memories bounds s.left ss all.0.1 all.1

all_append : (P : List ℕ → Type 0) (xs ys : List (List ℕ)) → AllByRecursion P xs → AllByRecursion P ys → AllByRecursion P (xs ++ ys)
all_append P [] ys a b = b
all_append P (x ∷ xs) ys a b = (a.0, all_append P xs ys a.1 b)

module _ {C : Type 0} (bounds : List ℕ) (m0 : List ℕ) (is_memory : IsMemory bounds m0) (code source : Behaviour) (means : Means bounds code source) where
  module _ (threads : ℕ) (few : threads ≤ 2 ^ 32) (w : World C) (es : List Entry) (x : IsExplainedBy code bounds m0 threads w es) where
    run_source : IsRun source threads m0 (run_of es)
    run_source = record {
      named = x.is_run.named;
      chained = x.is_run.chained;
      each = λ t lt.
          let c = x.is_run.each t lt in
          let s = means.back t (founds_of t (run_of es)) (omega arith) (founds_all bounds t (run_of es) x.memories) c.0 in
          (s.0, ap (λ (o : Outcome). o.lefts) s.1 ∙ c.1);
    }

    stands_source : (t : ℕ) (p : Part C) → slice_get w.parts t ≡ Some p → Stands source m0 (run_of es) t p.thread.text p.thread.status
    stands_source t p e =
        let c = x.standing t p e in
        let lt = slice_get_within w.parts t p e in
        let count = x.count in
        let s = means.back t (founds_of t (run_of es) ++ c.extra) (omega arith) (all_append (IsMemory bounds) (founds_of t (run_of es)) c.extra (founds_all bounds t (run_of es) x.memories) (extra c.extra c.at_most_last)) c.ticks in
        record {
          ticks = s.0;
          extra = c.extra;
          at_most_last = c.at_most_last;
          lefts = ap (λ (o : Outcome). o.lefts) s.1 ∙ c.lefts;
          text = ap (λ (o : Outcome). o.text) s.1 ∙ c.text;
          end = subst (λ (o : Outcome). Matches p.thread.status c.extra o.end) (sym s.1) c.end;
        }
      where
        extra : (ms : List (List ℕ)) → (ms ≡ []) ⊎ (ms ≡ last_memory m0 (run_of es) ∷ []) → AllByRecursion (IsMemory bounds) ms
        extra ms (inl none) = subst (AllByRecursion (IsMemory bounds)) (sym none) tt
        extra ms (inr one) = subst (AllByRecursion (IsMemory bounds)) (sym one) (last_memories bounds m0 (run_of es) is_memory x.memories, tt)

    pub explained_source : IsExplainedBy source bounds m0 threads w es
    explained_source = record {
      count = x.count;
      is_run = run_source;
      memories = x.memories;
      standing = stands_source;
      held = x.held;
      words = x.words;
      numbered = x.numbered;
      moments = x.moments;
    }

module _ {C : Type 0} (code : C → Effect C) (init : ℕ → C) (bounds : List ℕ) (m0 : List ℕ) (is_memory : IsMemory bounds m0) (fits : FitsCells code bounds) where
  pub opaque : (threads : ℕ) (ts : List ℕ) → IsOpaque code init (meaning code init) bounds m0 threads ts
  opaque threads ts = record {
    serializable = serializable code init bounds m0 is_memory fits threads ts;
    in_time = in_time code init bounds m0 is_memory fits threads ts;
    extended = extended code init bounds m0 is_memory fits threads ts;
  }

  module _ (source : Behaviour) (means : Means bounds (meaning code init) source) where
    pub serializable_source : (threads : ℕ) → threads ≤ 2 ^ 32 → (ts : List ℕ) → IsSerializable code init source bounds m0 threads ts
    serializable_source threads few ts =
        let s = serializable code init bounds m0 is_memory fits threads ts in
        record {
          is_merge = s.is_merge;
          each_merge = λ es m. explained_source bounds m0 is_memory (meaning code init) source means threads few (world_after code init m0 threads ts) es (s.each_merge es m);
        }

    pub opaque_source : (threads : ℕ) → threads ≤ 2 ^ 32 → (ts : List ℕ) → IsOpaque code init source bounds m0 threads ts
    opaque_source threads few ts = record {
      serializable = serializable_source threads few ts;
      in_time = in_time code init bounds m0 is_memory fits threads ts;
      extended = extended code init bounds m0 is_memory fits threads ts;
    }

    reaches_end_source : (ss : List Step) (n : ℕ) → AllByRecursion (IsMemory bounds) (founds_of 0 ss) → ReachesEnd code init source m0 ss n
    reaches_end_source ss n all small chain zero_only le ov =
        let c = means.there 0 (founds_of 0 ss) (omega arith) all n in
        let r = reaches_end code init bounds m0 is_memory fits ss c.0 small chain zero_only (ap (λ (o : Outcome). o.lefts) c.1 ∙ le) (subst (λ (o : Outcome). IsOver o.end) (sym c.1) ov) in
        (r.0, λ j. (subst (λ (o : Outcome). IsAtEnd o (last_memory m0 ss) (world_after code init m0 1 (zeros (r.0 + j)))) c.1 (r.1 j).0, (r.1 j).1))

  pub reaches_end_program : (p : Program) → Means bounds (meaning code init) (thread p) → (ss : List Step) (n : ℕ) → ReachesEnd code init (thread p) m0 ss n
  reaches_end_program p means ss n small chain zero_only le ov =
      let all = founds_memories bounds (meaning code init) (leaves_memories code bounds fits init) p means m0 ss n is_memory chain zero_only le in
      reaches_end_source (thread p) means ss n all small chain zero_only le ov
