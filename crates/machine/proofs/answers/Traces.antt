-- The worlds that steps which do not stop lead to are those of the traces that run on.
use Rattle.std.proofs.Common.{◌≡◌, ℕ, zero, suc, List, [], ◌∷◌, ◌++◌, Option, None, Some, length, replicate, slice_get, refl, sym, ◌∙◌, ap, subst, arith}
use Rattle.std.proofs.Math.ListN.{length-set}
use Rattle.std.proofs.lemmas.Option.{slice_get_within}
use Rattle.bytecode.specs.Effects.{Effect}
use Rattle.machine.specs.Answered.{Answered, Heard}
use Rattle.machine.specs.Serializable.{world_after}
use Rattle.machine.specs.Traces.{DoesNotStop, IsTraced, RunsOn, heard_of, heard_run}
use Rattle.machine.specs.Worlds.{Part, World, new_parts, new_world, run, step, step_of}
use Rattle.machine.proofs.runs.Explained.{part_at}

module _ {C : Type 0} (code : C → Effect C) where
  pub run-append : (ts us : List ℕ) (w : World C) → run code (ts ++ us) w ≡ run code us (run code ts w)
  run-append [] us w = refl
  run-append (t ∷ ts) us w = run-append ts us (step code w t)

  pub heard-append : (ts us : List ℕ) (w : World C) (heard : List (List Heard)) → heard_run code (ts ++ us) w heard ≡ heard_run code us (run code ts w) (heard_run code ts w heard)
  heard-append [] us w heard = refl
  heard-append (t ∷ ts) us w heard = heard-append ts us (step code w t) (heard_of code w heard t (slice_get w.parts t) (slice_get heard t))

  pub runs-append : (ts us : List ℕ) (w : World C) → RunsOn code ts w → RunsOn code us (run code ts w) → RunsOn code (ts ++ us) w
  runs-append [] us w f g = g
  runs-append (t ∷ ts) us w f g = (f.0, runs-append ts us (step code w t) f.1 g)

  step_count : (w : World C) (t : ℕ) → length (step code w t).parts ≡ length w.parts
  step_count w t = at (slice_get w.parts t)
    where
      at : (o : Option (Part C)) → length (step_of code w t o).parts ≡ length w.parts
      at None = refl
      at (Some p) = length-set w.parts t _

  module _ (init : ℕ → C) (m0 : List ℕ) (threads : ℕ) where
    new_count : (b n : ℕ) → length (new_parts init b n) ≡ n
    new_count b zero = refl
    new_count b (suc n) = ap suc (new_count (suc b) n)

    none_count : (n : ℕ) → length (replicate {A = List Heard} n []) ≡ n
    none_count zero = refl
    none_count (suc n) = ap suc (none_count n)

    -- each thread has its answers
    same_count : (w : World C) (heard : List (List Heard)) → Answered code init m0 threads w heard → length heard ≡ length w.parts
    same_count w heard Answered.new = none_count threads ∙ sym (new_count 0 threads)
    same_count w heard (Answered.moved v said t p hs r here there on) = length-set said t _ ∙ same_count v said r ∙ sym (step_count v t)

    pub traced : (w : World C) (heard : List (List Heard)) → Answered code init m0 threads w heard → IsTraced code init m0 threads w heard
    traced w heard Answered.new = record { trace = []; runs_on = tt; world = refl; answers = refl }
    traced w heard (Answered.moved v said t p hs r here there on) =
        let g = traced v said r in
        let at : slice_get (world_after code init m0 threads g.trace).parts t ≡ Some p = ap (λ (x : World C). slice_get x.parts t) (sym g.world) ∙ here in
        let said_at : slice_get (heard_run code g.trace (new_world init m0 threads) (replicate threads [])) t ≡ Some hs = ap (λ h. slice_get h t) (sym g.answers) ∙ there in
        record {
          trace = g.trace ++ t ∷ [];
          runs_on = runs-append g.trace (t ∷ []) (new_world init m0 threads) g.runs_on (subst (DoesNotStop code) (sym at) on, tt);
          world = ap (λ x. step code x t) g.world ∙ sym (run-append g.trace (t ∷ []) (new_world init m0 threads));
          answers =
              ap (λ (o : Option (Part C) × Option (List Heard)). heard_of code v said t o.0 o.1) (λ i. (sym here i, sym there i))
              ∙ (λ i. heard_of code (g.world i) (g.answers i) t (slice_get (g.world i).parts t) (slice_get (g.answers i) t))
              ∙ sym (heard-append g.trace (t ∷ []) (new_world init m0 threads) (replicate threads []));
        }

    -- a trace that runs on
    further : (ts : List ℕ) (w : World C) (heard : List (List Heard)) → Answered code init m0 threads w heard → RunsOn code ts w → Answered code init m0 threads (run code ts w) (heard_run code ts w heard)
    further [] w heard r f = r
    further (t ∷ ts) w heard r f = further ts (step code w t) _ (at (slice_get w.parts t) refl f.0) f.1
      where
        at : (o : Option (Part C)) → slice_get w.parts t ≡ o → DoesNotStop code o → Answered code init m0 threads (step code w t) (heard_of code w heard t o (slice_get heard t))
        at None e g = absurd g
        at (Some p) e g =
            let lt = slice_get_within w.parts t p e in
            let same = same_count w heard r in
            let h = part_at heard t (omega arith) in
            subst (λ o. Answered code init m0 threads (step code w t) (heard_of code w heard t (Some p) o)) (sym h.1) (Answered.moved w heard t p h.0 r e h.1 g)

    pub answered : (ts : List ℕ) → RunsOn code ts (new_world init m0 threads) → Answered code init m0 threads (world_after code init m0 threads ts) (heard_run code ts (new_world init m0 threads) (replicate threads []))
    answered ts f = further ts (new_world init m0 threads) (replicate threads []) Answered.new f
