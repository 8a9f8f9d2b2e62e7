-- The world of one thread comes to the end of its meaning, by steps that do not stop.
use Rattle.std.proofs.Common.{◌≡◌, ◌+◌, ◌%◌, ℕ, zero, suc, false, List, [], ◌∷◌, refl, sym, ◌∙◌, ap, subst, length, arith}
use Rattle.machine.proofs.parts.Memories.{sized}
use Rattle.std.specs.List.{AllByRecursion}
use Rattle.std.proofs.lemmas.Bool.{eq-eqb}
use Rattle.syntax.specs.Behaviours.{IsChained, IsMemory, Step, founds_of, last_memory, lefts_of}
use Rattle.syntax.specs.declared.thread_end.Status.TheVariants.{Running}
use Rattle.bytecode.specs.Effects.{Effect, FitsCells}
use Rattle.bytecode.specs.Sequential.{end_of, meaning, thread}
use Rattle.machine.specs.Alone.{ReachesEnd, zeros}
use Rattle.machine.specs.Worlds.{Reached, Record, World, new_world, run}
use Rattle.machine.proofs.alone.Alone.{Feeds, Solo, alone, last_of, out_solo, solo, solo_with}
use Rattle.machine.proofs.runs.Serializable.{new_invariant, start_of}
use Rattle.machine.proofs.alone.Unstopped.{reached_run}

founds_first : (s : Step) (ss : List Step) → s.thread ≡ 0 → founds_of 0 (s ∷ ss) ≡ s.found ∷ founds_of 0 ss
founds_first s ss e = rw (eq-eqb s.thread 0 e) refl

lefts_first : (s : Step) (ss : List Step) → s.thread ≡ 0 → lefts_of 0 (s ∷ ss) ≡ s.left ∷ lefts_of 0 ss
lefts_first s ss e = rw (eq-eqb s.thread 0 e) refl

pub fed : (m : List ℕ) (ss : List Step) → IsChained m ss → AllByRecursion (λ (s : Step). s.thread ≡ 0) ss → Feeds m (founds_of 0 ss) (lefts_of 0 ss) × (last_of m (lefts_of 0 ss) ≡ last_memory m ss)
fed m [] c all = (tt, refl)
fed m (s ∷ ss) c all =
    let r = fed s.left ss c.1 all.1 in (
      subst (λ fs. Feeds m fs (lefts_of 0 (s ∷ ss))) (sym (founds_first s ss all.0)) (subst (λ ls. Feeds m (s.found ∷ founds_of 0 ss) ls) (sym (lefts_first s ss all.0)) (c.0, r.0)),
      ap (last_of m) (lefts_first s ss all.0) ∙ r.1,
    )

count_lefts : (ss : List Step) → AllByRecursion (λ (s : Step). s.thread ≡ 0) ss → length (lefts_of 0 ss) ≡ length ss
count_lefts [] all = refl
count_lefts (s ∷ ss) all = ap length (lefts_first s ss all.0) ∙ ap suc (count_lefts ss all.1)

module _ {C : Type 0} (code : C → Effect C) where
  one_world : (n : ℕ) (s : Solo C) (base : List ℕ) (records : List Record) → (base' : List ℕ) × (after : List Record) × (run code (zeros n) (record { lock = s.lock; words = s.words; parts = record { thread = s.thread; base = base; records = records } ∷ [] })
      ≡ record { lock = (solo code n s).lock; words = (solo code n s).words; parts = record { thread = (solo code n s).thread; base = base'; records = after } ∷ [] })
  one_world zero s base records = (base, records, refl)
  one_world (suc n) s base records = one_world n (solo_with code (code s.thread.configuration) s) _ _

  pub reaches_end : (init : ℕ → C) (bounds : List ℕ) (m0 : List ℕ) → IsMemory bounds m0 → FitsCells code bounds → (ss : List Step) (n : ℕ) → ReachesEnd code init (meaning code init) m0 ss n
  reaches_end init bounds m0 is_memory fits ss n small chain zero_only le ov =
      let f = fed m0 ss chain zero_only in
      let g = alone code bounds fits (init 0) m0 n (founds_of 0 ss) (lefts_of 0 ss) (sized bounds m0 is_memory) f.0 le ov in (
        g.0,
        λ j.
            let s : Solo C = out_solo 0 m0 (init 0) [] Running in
            let w = one_world (g.0 + j) s [] [] in
            let d = g.1 j in
            let bound = d.low in
            let count : length (thread code (init 0) (founds_of 0 ss) n).lefts ≡ length ss = ap length le ∙ count_lefts ss zero_only in
            let lock_is : (run code (zeros (g.0 + j)) (new_world init m0 1)).lock ≡ d.lock = ap (λ (x : World C). x.lock) w.2 ∙ ap (λ (x : Solo C). x.lock) d.machine in (
              record {
                part = record { thread = (solo code (g.0 + j) s).thread; base = w.0; records = w.1 };
                only = ap (λ (x : World C). x.parts) w.2;
                even = ap (λ l. l % 2) lock_is ∙ d.even;
                memory = ap (λ (x : World C). x.words) w.2 ∙ ap (λ (x : Solo C). x.words) d.machine ∙ f.1;
                text = ap (λ (x : Solo C). x.thread.text) d.machine;
                end = ap (λ (x : Solo C). end_of false x.thread.status) d.machine ∙ ap (λ b. end_of b (thread code (init 0) (founds_of 0 ss) n).status) (sym d.wants);
              },
              reached_run code init bounds m0 is_memory fits 1 (zeros (g.0 + j)) (new_world init m0 1) (start_of m0) (new_invariant code init bounds m0 is_memory 1) (omega arith) Reached.new,
            ),
      )
