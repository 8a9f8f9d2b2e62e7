-- What each function of a thread leaves is what the instruction comes to.
use Rattle.std.proofs.Common.{◌≡◌, ◌<◌, ◌-◌, ℕ, true, false, List, [], ◌∷◌, ◌++◌, Option, None, Some, refl, sym, ◌∙◌, ap, subst, length, map, take, drop, slice_index, append_assoc}
use Rattle.std.specs.Prelude.{Vec, slice_set}
use Rattle.std.proofs.lemmas.List.{map-append, take-append-drop}
use Rattle.syntax.specs.declared.thread_end.Status.TheVariants.{Running}
use Rattle.syntax.specs.Behaviours.{Memory, IsMemory}
use Rattle.nesting.specs.Begins.{Saved}
use Rattle.bytecode.specs.Effects.Effect.{Pure, Print, Begin, Read, Write, Commit, Irrevocable}
use Rattle.bytecode.specs.Code.{Code, Configuration, effect}
use Rattle.bytecode.specs.Sequential.{OpenTransaction, InnerTransaction}
use Rattle.bytecode.specs.Valid.{IsValid, bounds_of}
use Rattle.bytecode.proofs.Fits.{fits_cells}
use Rattle.frames.proofs.Keeping.{begins_stay_open}
use Rattle.frames.specs.Open.{CanRestore, IsConfigurationOf, MayStand, begin_configuration, saved_in}
use Rattle.atomic_code.specs.declared.context.Signal.{Signal}
use Rattle.atomic_code.specs.declared.context.Signal.TheVariants.{Goes, Leaves}
use Rattle.atomic_code.specs.Threads.{AtomicThread, AreTransactionMemories, RunsAtomically, begins_of, cancelled_from}
use Rattle.atomic_code.specs.inner.Making.{Cancels, Makes, MayPrint, at_hand, begun_in, made_irrevocable, with_memory}
use Rattle.atomic_code.proofs.Memories.{sized}
use Rattle.atomic_code.proofs.Making as making
use Rattle.atomic_code.proofs.Making.{at, same_thread}

-- the memory that is at hand
pub at_some : {M : Type 0} (f : M → Memory) (o : Option M) (x : M) → o ≡ Some x → at_hand f o ≡ Some (f x)
at_some f o x e = ap (at_hand f) e

module _ (code : Code) (v : IsValid code) (k : AtomicThread) (running : k.status ≡ Running) (runs : RunsAtomically code k) where
  abbrev c : Configuration
  c = k.configuration

  runs_at : (o : Option (OpenTransaction Saved)) → k.open_in ≡ o → RunsAtomically code (at c o k.text)
  runs_at o e = subst (λ z. RunsAtomically code (at c z k.text)) e (record { stands = runs.stands; memories = runs.memories })

  module _ (m : Option Memory) where
    -- a thread that goes on
    goes : {A : Type 0} (o p : Option (OpenTransaction Saved)) (d : Configuration) (u : List ℕ) (s : Signal A) → k.open_in ≡ o → Makes code m (at c o k.text) s (at d p u) →
        (l : AtomicThread) → l.configuration ≡ d → l.open_in ≡ p → l.text ≡ u → l.status ≡ k.status → Makes code m k s l
    goes o p d u s e h l cl ol tl sl = making.makes_of code v m k l (at c o k.text) (at d p u) s (same_thread k (at c o k.text) refl e refl running) (same_thread l (at d p u) cl ol tl (sl ∙ running)) h

    pub goes_pure : {A : Type 0} (l : AtomicThread) → effect code c ≡ Pure l.configuration → l.open_in ≡ k.open_in → l.text ≡ k.text → l.status ≡ k.status → Makes {A = A} code m k Goes l
    goes_pure l e ol tl sl = goes k.open_in k.open_in l.configuration k.text Goes refl (making.pure code v m c k.open_in k.text (runs_at k.open_in refl) l.configuration e) l refl ol tl sl

    pub goes_printing : {A : Type 0} (l : AtomicThread) (piece : List ℕ) (d : Configuration) → effect code c ≡ Print piece d → MayPrint k.open_in → l.configuration ≡ d → l.open_in ≡ k.open_in → l.text ≡ k.text ++ piece → l.status ≡ k.status → Makes {A = A} code m k Goes l
    goes_printing l piece d e may cl ol tl sl = goes k.open_in k.open_in d (k.text ++ piece) Goes refl (making.prints code v m c k.open_in k.text (runs_at k.open_in refl) piece d e may) l cl ol tl sl

    module _ (none : k.open_in ≡ None) where
      out : RunsAtomically code (at c None k.text)
      out = runs_at None none

      pub begins_outside : {A : Type 0} (l : AtomicThread) (mem : Memory) (d e : Configuration) → effect code c ≡ Begin d e → m ≡ Some mem → IsMemory (bounds_of code) mem → l.configuration ≡ d → l.open_in ≡ Some (begun_in c mem) → l.text ≡ k.text → l.status ≡ k.status → Makes {A = A} code m k Goes l
      begins_outside l mem d e x h is cl ol tl sl = goes None (Some (begun_in c mem)) d k.text Goes none (making.begins_outside code v m c k.text out mem d e x h is) l cl ol tl sl

      pub irrevocable_outside : {A : Type 0} (l : AtomicThread) (d : Configuration) → effect code c ≡ Irrevocable d → l.configuration ≡ d → l.open_in ≡ None → l.text ≡ k.text → l.status ≡ k.status → Makes {A = A} code m k Goes l
      irrevocable_outside l d e cl ol tl sl = goes None None d k.text Goes none (making.irrevocable_outside code v m c k.text out d e) l cl ol tl sl

    module _ (o : OpenTransaction Saved) (some : k.open_in ≡ Some o) where
      inn : RunsAtomically code (at c (Some o) k.text)
      inn = runs_at (Some o) some

      pub read_inside : {A : Type 0} (l : AtomicThread) (a w : ℕ) (f : ℕ → Configuration) → effect code c ≡ Read a f → w ≡ slice_index o.mem a → l.configuration ≡ f w → l.open_in ≡ Some o → l.text ≡ k.text → l.status ≡ k.status → Makes {A = A} code m k Goes l
      read_inside l a w f e h cl ol tl sl = goes (Some o) (Some o) (f (slice_index o.mem a)) k.text Goes some (making.read_inside code v m c o k.text inn a f e) l (cl ∙ ap f h) ol tl sl

      pub write_inside : {A : Type 0} (l : AtomicThread) (a w : ℕ) (d : Configuration) → effect code c ≡ Write a w d → l.configuration ≡ d → l.open_in ≡ Some (with_memory o (slice_set o.mem a w) o.inner) → l.text ≡ k.text → l.status ≡ k.status → Makes {A = A} code m k Goes l
      write_inside l a w d e cl ol tl sl = goes (Some o) (Some (with_memory o (slice_set o.mem a w) o.inner)) d k.text Goes some (making.write_inside code v m c o k.text inn a w d e) l cl ol tl sl

      pub irrevocable_inside : {A : Type 0} (l : AtomicThread) (d : Configuration) → effect code c ≡ Irrevocable d → l.configuration ≡ d → l.open_in ≡ Some (made_irrevocable o) → l.text ≡ k.text → l.status ≡ k.status → Makes {A = A} code m k Goes l
      irrevocable_inside l d e cl ol tl sl = goes (Some o) (Some (made_irrevocable o)) d k.text Goes some (making.irrevocable_inside code v m c o k.text inn d e) l cl ol tl sl

      pub begins_inside : {A : Type 0} (l : AtomicThread) (d e : Configuration) → effect code c ≡ Begin d e → l.configuration ≡ d → l.open_in ≡ Some (with_memory o o.mem (record { cancelled = saved_in c; mem = o.mem } ∷ o.inner)) → l.text ≡ k.text → l.status ≡ k.status → Makes {A = A} code m k Goes l
      begins_inside l d e x cl ol tl sl = goes (Some o) (Some (with_memory o o.mem (record { cancelled = saved_in c; mem = o.mem } ∷ o.inner))) d k.text Goes some (making.begins_inside code v m c o k.text inn d e x) l cl ol tl sl

    -- the innermost of several is closed
    module _ (o : OpenTransaction Saved) (i : InnerTransaction Saved) (some : k.open_in ≡ Some (with_memory o o.mem (i ∷ o.inner))) where
      deep : RunsAtomically code (at c (Some (with_memory o o.mem (i ∷ o.inner))) k.text)
      deep = runs_at (Some (with_memory o o.mem (i ∷ o.inner))) some

      pub commit_inner : {A : Type 0} (l : AtomicThread) (d : Configuration) → effect code c ≡ Commit d → l.configuration ≡ d → l.open_in ≡ Some o → l.text ≡ k.text → l.status ≡ k.status → Makes {A = A} code m k Goes l
      commit_inner l d e cl ol tl sl = goes (Some (with_memory o o.mem (i ∷ o.inner))) (Some o) d k.text Goes some (making.commit_inner code v m c o i o.inner k.text deep d e) l cl ol tl sl

    -- the outermost is closed
    module _ (o : OpenTransaction Saved) (some : k.open_in ≡ Some o) (last : o.inner ≡ []) where
      whole : k.open_in ≡ Some (with_memory o o.mem [])
      whole = some ∙ ap (λ is. Some (with_memory o o.mem is)) last

      one : RunsAtomically code (at c (Some (with_memory o o.mem [])) k.text)
      one = runs_at (Some (with_memory o o.mem [])) whole

      pub commit_outermost : {A : Type 0} (l : AtomicThread) (d : Configuration) (left : Vec ℕ A) → effect code c ≡ Commit d → left.items ≡ o.mem → l.configuration ≡ d → l.open_in ≡ None → l.text ≡ k.text → l.status ≡ k.status → Makes {A = A} code m k (Leaves left) l
      commit_outermost l d left e h cl ol tl sl = goes (Some (with_memory o o.mem [])) None d k.text (Leaves left) whole (making.commit_outermost code v m c o k.text one d left e h) l cl ol tl sl

    -- a cancel of so many levels
    module _ (n : ℕ) (cancels : Cancels (effect code c) n) where
      pub cancel_outside : {A : Type 0} (l : AtomicThread) → k.open_in ≡ None → l.configuration ≡ c → l.open_in ≡ None → l.text ≡ k.text → l.status ≡ k.status → Makes {A = A} code m k Goes l
      cancel_outside l none cl ol tl sl = goes None None c k.text Goes none (making.cancel_outside code v m c k.text (runs_at None none) n cancels) l cl ol tl sl

      -- p is what is left of o where the levels are closed, and i is the outermost one of them
      pub cancel_inner : {A : Type 0} (l : AtomicThread) (o p : OpenTransaction Saved) (i : InnerTransaction Saved) → k.open_in ≡ Some o → with_memory o o.mem (drop (n - 1) o.inner) ≡ with_memory p p.mem (i ∷ p.inner) →
          l.configuration ≡ cancelled_from code c i.cancelled → l.open_in ≡ Some (with_memory p i.mem p.inner) → l.text ≡ k.text → l.status ≡ k.status → Makes {A = A} code m k Goes l
      cancel_inner l o p i some e cl ol tl sl =
          goes (Some o) (Some (with_memory o i.mem p.inner)) (cancelled_from code c i.cancelled) k.text Goes some
          (making.cancel_inner code v m c o k.text (runs_at (Some o) some) n cancels i p.inner (ap (λ (t : OpenTransaction Saved). t.inner) e)) l cl (ol ∙ ap (λ (t : OpenTransaction Saved). Some (with_memory t i.mem p.inner)) (sym e)) tl sl

      module _ (o : OpenTransaction Saved) (some : k.open_in ≡ Some o) (all : drop (n - 1) o.inner ≡ []) where
        pub cancel_outermost : {A : Type 0} (l : AtomicThread) (left : Vec ℕ A) → o.kept ≡ false → left.items ≡ o.found → l.configuration ≡ cancelled_from code c o.cancelled → l.open_in ≡ None → l.text ≡ k.text → l.status ≡ k.status → Makes {A = A} code m k (Leaves left) l
        cancel_outermost l left f h cl ol tl sl = goes (Some o) None (cancelled_from code c o.cancelled) k.text (Leaves left) some (making.cancel_outermost code v m c o k.text (runs_at (Some o) some) n cancels all left f h) l cl ol tl sl

        pub cancel_kept : {A : Type 0} (l : AtomicThread) → o.kept ≡ true → l.configuration ≡ c → l.open_in ≡ Some o → l.text ≡ k.text → l.status ≡ k.status → Makes {A = A} code m k Goes l
        cancel_kept l f cl ol tl sl = goes (Some o) (Some o) c k.text Goes some (making.cancel_kept code v m c o k.text (runs_at (Some o) some) n cancels all f) l cl ol tl sl

  -- a shared access is to a cell of the memory
  module _ (o : OpenTransaction Saved) (some : k.open_in ≡ Some o) where
    words : AreTransactionMemories (bounds_of code) o
    words = (runs_at (Some o) some).memories

    pub cell_read : (a : ℕ) (f : ℕ → Configuration) → effect code c ≡ Read a f → a < length o.mem
    cell_read a f e = subst (λ n. a < n) (sym (sized (bounds_of code) o.mem words.now)) ((fits_cells code v).reads c a f e)

    pub cell_written : (a w : ℕ) (d : Configuration) → effect code c ≡ Write a w d → a < length o.mem
    cell_written a w d e = subst (λ n. a < n) (sym (sized (bounds_of code) o.mem words.now)) ((fits_cells code v).writes c d a w e).0

  -- a begin that is open can be gone back to
  pub goes_back : (inner : List Saved) (s : Saved) (ss : List Saved) → begins_of k.open_in ≡ inner ++ s ∷ ss → CanRestore c s × IsConfigurationOf code (begin_configuration c s)
  goes_back inner s ss e =
      let g = (begins_stay_open code v).goes_back c inner s ss (subst (MayStand code c) e runs.stands) in
      (g.2, (ss, g.0))

  -- the inner begins are those that are left out, and the others
  module _ (o : OpenTransaction Saved) (some : k.open_in ≡ Some o) (n : ℕ) where
    abbrev saved : InnerTransaction Saved → Saved
    saved j = j.cancelled

    begins_at : (is : List (InnerTransaction Saved)) → drop n o.inner ≡ is → begins_of k.open_in ≡ map saved (take n o.inner) ++ (map saved is ++ o.cancelled ∷ [])
    begins_at is e =
        ap begins_of some ∙ ap (λ js. map saved js ++ o.cancelled ∷ []) (sym (take-append-drop n o.inner)) ∙ ap (λ js. js ++ o.cancelled ∷ []) (map-append saved (take n o.inner) (drop n o.inner))
        ∙ append_assoc (map saved (take n o.inner)) (map saved (drop n o.inner)) (o.cancelled ∷ []) ∙ ap (λ js. map saved (take n o.inner) ++ (map saved js ++ o.cancelled ∷ [])) e

    pub goes_back_inside : (i : InnerTransaction Saved) (is : List (InnerTransaction Saved)) → drop n o.inner ≡ i ∷ is → CanRestore c i.cancelled × IsConfigurationOf code (begin_configuration c i.cancelled)
    goes_back_inside i is e = goes_back (map saved (take n o.inner)) i.cancelled (map saved is ++ o.cancelled ∷ []) (begins_at (i ∷ is) e)

    pub goes_back_outermost : drop n o.inner ≡ [] → CanRestore c o.cancelled × IsConfigurationOf code (begin_configuration c o.cancelled)
    goes_back_outermost e = goes_back (map saved (take n o.inner)) o.cancelled [] (begins_at [] e)
