-- The run of more steps extends the run of fewer.
use Rattle.std.proofs.Common.{◌≡◌, ◌≢◌, ◌==◌, ◌⊎◌, inl, inr, ℕ, true, false, cond, List, [], ◌∷◌, ◌++◌, Option, None, Some, map, refl, sym, ◌∙◌, ap, subst, slice_get, append_assoc, append-nil}
use Rattle.std.proofs.lemmas.List.{map-append}
use Rattle.std.proofs.lemmas.Bool.Decides.{eqb_tells}
use Rattle.syntax.specs.Behaviours.{IsMemory, IsSubsequence, Step, of_thread}
use Rattle.bytecode.specs.Effects.{Effect, FitsCells}
use Rattle.machine.specs.inner.Invariant.{History, Invariant}
use Rattle.machine.specs.Merges.{Entry, IsMerge, insert_made, made_of, stable_merge, own, run_of, step_of_entry}
use Rattle.machine.specs.Serializable.{IsExtended}
use Rattle.machine.specs.Worlds.{Record, World, new_world, run, step}
use Rattle.machine.proofs.runs.Serializable.{merge_step, new_invariant, own_grows, serializable, start_of}
use Rattle.machine.proofs.merges.Within.{within_run, within_self}
use Rattle.machine.proofs.steps.Worlds.{run_invariant, step_invariant}

-- the steps of a thread's records
abbrev steps_by : ℕ → List Record → List Step
steps_by t xs = map (λ (x : Record). record { thread = t; found = x.found; left = x.left }) xs

own_steps : (t : ℕ) (es : List Entry) → of_thread t (run_of es) ≡ steps_by t (own t es)
own_steps t [] = refl
own_steps t (e ∷ es) = at (eqb_tells e.thread t) (own_steps t es)
  where
    at : ((e.thread == t) ≡ true) × (e.thread ≡ t) ⊎ ((e.thread == t) ≡ false) × (e.thread ≢ t) → of_thread t (run_of es) ≡ steps_by t (own t es)
        → cond (e.thread == t) (step_of_entry e ∷ of_thread t (run_of es)) (of_thread t (run_of es)) ≡ steps_by t (cond (e.thread == t) (e.item ∷ own t es) (own t es))
    at (inl f) ih = rw f.0 (ap (λ (s : Step). s ∷ of_thread t (run_of es)) (ap (λ n. record { thread = n; found = e.item.found; left = e.item.left }) f.1) ∙ ap (λ ss. record { thread = t; found = e.item.found; left = e.item.left } ∷ ss) ih)
    at (inr f) ih = rw f.0 ih

module _ {C : Type 0} (code : C → Effect C) (init : ℕ → C) (bounds : List ℕ) (m0 : List ℕ) (is_memory : IsMemory bounds m0) (fits : FitsCells code bounds) where
  pub merged-append : (ts us : List ℕ) (w : World C) (es : List Entry) → stable_merge code (ts ++ us) w es ≡ stable_merge code us (run code ts w) (stable_merge code ts w es)
  merged-append [] us w es = refl
  merged-append (t ∷ ts) us w es = merged-append ts us (step code w t) _

  within_made : (seen : List Step) (u : ℕ) (o : Option Record) (es : List Entry) → IsSubsequence seen (run_of es) → IsSubsequence seen (run_of (insert_made u o es))
  within_made seen u None es w = w
  within_made seen u (Some x) es w = within_run (record { thread = u; item = x }) seen es w

  within_merged : (seen : List Step) (ts : List ℕ) (w : World C) (es : List Entry) → IsSubsequence seen (run_of es) → IsSubsequence seen (run_of (stable_merge code ts w es))
  within_merged seen [] w es i = i
  within_merged seen (t ∷ ts) w es i = within_merged seen ts (step code w t) _ (within_made seen t (made_of code w (slice_get w.parts t)) es i)

  own_merged : (t : ℕ) (ts : List ℕ) (w : World C) (h : History) (es : List Entry) → Invariant code bounds init m0 h w → IsMerge w.parts es → (further : List Record) × (own t (stable_merge code ts w es) ≡ own t es ++ further)
  own_merged t [] w h es v m = ([], sym (append-nil (own t es)))
  own_merged t (u ∷ us) w h es v m =
      let s = step_invariant code bounds init m0 fits w h u v in
      let first = own_grows code init bounds m0 is_memory fits w h u t es v m in
      let rest = own_merged t us (step code w u) s.0 (insert_made u (made_of code w (slice_get w.parts u)) es) s.1 (merge_step code init bounds m0 is_memory fits w h u es v m) in
      (first.0 ++ rest.0, rest.1 ∙ ap (λ l. l ++ rest.0) first.1 ∙ append_assoc (own t es) first.0 rest.0)

  pub extended : (threads : ℕ) (ts us : List ℕ) → IsExtended code init m0 threads ts us
  extended threads ts us =
      let w0 : World C = new_world init m0 threads in
      let w : World C = run code ts w0 in
      let es : List Entry = stable_merge code ts w0 [] in
      let r = run_invariant code bounds init m0 fits ts w0 (start_of m0) (new_invariant code init bounds m0 is_memory threads) in
      let m = (serializable code init bounds m0 is_memory fits threads ts).is_merge in
      let later = merged-append ts us w0 [] in
      record {
        in_order = subst (λ l. IsSubsequence (run_of es) (run_of l)) (sym later) (within_merged (run_of es) us w es (within_self (run_of es)));
        own_first = λ t.
            let g = own_merged t us w r.0 es r.1 m in (
              steps_by t g.0,
              ap (λ l. of_thread t (run_of l)) later
                  ∙ own_steps t (stable_merge code us w es)
                  ∙ ap (steps_by t) g.1
                  ∙ map-append (λ (x : Record). record { thread = t; found = x.found; left = x.left }) (own t es) g.0
                  ∙ ap (λ l. l ++ steps_by t g.0) (sym (own_steps t es)),
            );
      }
