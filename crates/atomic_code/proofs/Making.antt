-- What each instruction of a thread comes to.
use Rattle.std.proofs.Common.{◌≡◌, ◌-◌, ℕ, zero, suc, Bool, true, false, List, [], ◌∷◌, ◌++◌, Option, None, Some, refl, sym, ◌∙◌, ap, subst, map, length, drop, arith}
use Rattle.std.specs.Prelude.{slice_index, slice_set}
use Rattle.std.specs.List.{AllByRecursion}
use Rattle.std.proofs.lemmas.List.{drop-map}
use Rattle.syntax.specs.declared.thread_end.Status.TheVariants.{Running}
use Rattle.syntax.specs.Behaviours.{Memory, IsMemory}
use Rattle.syntax.specs.Names.{cell_types}
use Rattle.nesting.specs.Begins.{Saved}
use Rattle.bytecode.specs.Effects.{Effect, FitsCells, after_cancel}
use Rattle.bytecode.specs.Effects.Effect.{Pure, Print, Begin, Read, Write, Commit, Cancel, CancelOuter, Irrevocable}
use Rattle.bytecode.specs.Code.{Code, Configuration, effect}
use Rattle.bytecode.specs.Sequential.{Sequential, OpenTransaction, InnerTransaction, next, sequential_step, found_next, cancel_step, print_step}
use Rattle.bytecode.specs.Valid.{IsValid, bounds_of}
use Rattle.bytecode.proofs.Fits.{fits_cells}
use Rattle.frames.proofs.Keeping.{begins_stay_open}
use Rattle.frames.specs.Open.{BeginsStayOpen, MayStand, AreRestored, IsSuccessor, begin_configuration, saved_in}
use Rattle.atomic_code.specs.declared.context.Signal.{Signal}
use Rattle.atomic_code.specs.declared.context.Signal.TheVariants.{Goes, Leaves}
use Rattle.std.specs.Prelude.{Vec}
use Rattle.atomic_code.specs.Threads.{AtomicThread, cancelled_from, inner_by, transaction_by, open_by, begins_of, AreTransactionMemories, HasMemories, RunsAtomically}
use Rattle.atomic_code.specs.Carried.{finding, to_find}
use Rattle.atomic_code.specs.inner.Making.{Makes, Cancels, with_memory, made_irrevocable, begun_in, MayPrint}
use Rattle.atomic_code.proofs.Memories.{written, word_at}
use Rattle.atomic_code.proofs.Moves.{shown_there}

-- what a begin saves here is restored to all
restored_saved : (c : Configuration) → begin_configuration c (saved_in c) ≡ c
restored_saved c = ap (λ n. record { place = c.place; registers = c.registers; frames = drop n c.frames }) zero_left
  where
    zero_left : suc (length c.frames) - suc (length c.frames) ≡ 0
    zero_left = omega arith

-- The begins that are open, where those inside one of them are left out: it is the first of these transactions, or, where none is
-- left, the outermost one.
abbrev Parted : Saved → List (InnerTransaction Saved) → Saved → List Saved → Type 0
Parted outermost [] s rest = (s ≡ outermost) × (rest ≡ [])
Parted outermost (i ∷ is) s rest = (s ≡ i.cancelled) × (rest ≡ map (λ (j : InnerTransaction Saved). j.cancelled) is ++ outermost ∷ [])

parts : (outermost : Saved) (is : List (InnerTransaction Saved)) (inner : List Saved) (s : Saved) (rest : List Saved) →
    map (λ (j : InnerTransaction Saved). j.cancelled) is ++ outermost ∷ [] ≡ inner ++ s ∷ rest → Parted outermost (drop (length inner) is) s rest
parts outermost [] [] s rest e = ((let h : s ≡ outermost = cc in h), (let h : rest ≡ [] = cc in h))
parts outermost [] (j ∷ []) s rest e = absurd (cc)
parts outermost [] (j ∷ k ∷ inner) s rest e = absurd (cc)
parts outermost (i ∷ is) [] s rest e = ((let h : s ≡ i.cancelled = cc in h), (let h : rest ≡ map (λ (j : InnerTransaction Saved). j.cancelled) is ++ outermost ∷ [] = cc in h))
parts outermost (i ∷ is) (j ∷ inner) s rest e = parts outermost is inner s rest (let h : map (λ (j : InnerTransaction Saved). j.cancelled) is ++ outermost ∷ [] ≡ inner ++ s ∷ rest = cc in h)

all_dropped : {X : Type 0} (P : X → Type 0) (n : ℕ) (xs : List X) → AllByRecursion P xs → AllByRecursion P (drop n xs)
all_dropped P zero xs h = h
all_dropped P (suc n) [] h = h
all_dropped P (suc n) (x ∷ xs) h = all_dropped P n xs h.1

-- a thread that runs
abbrev pub at : Configuration → Option (OpenTransaction Saved) → List ℕ → AtomicThread
at c o t = record { configuration = c; open_in = o; text = t; status = Running }

-- the same thread of the meaning, its begins seen from where it was
abbrev state_at : Code → Option Memory → Configuration → Configuration → Option (OpenTransaction Saved) → List ℕ → Sequential Configuration
state_at code m from d o t = record { configuration = d; inside = open_by (cancelled_from code from) o; founds = to_find o m; lefts = []; text = t; status = Running; wants = false }

-- the configuration that is gone on at by a cancel of the begin that stands here
module _ (code : Code) where
  goes_on_at : (c d e : Configuration) → effect code c ≡ Begin d e → e ≡ cancelled_from code c (saved_in c)
  goes_on_at c d e x = sym (ap (λ y. after_cancel (effect code y) y) (restored_saved c) ∙ ap (λ y. after_cancel y c) x)

module _ (code : Code) (v : IsValid code) (m : Option Memory) where
  law : BeginsStayOpen code
  law = begins_stay_open code v

  fits : FitsCells (effect code) (bounds_of code)
  fits = fits_cells code v

  module _ (c : Configuration) (o : Option (OpenTransaction Saved)) (t : List ℕ) (runs : RunsAtomically code (at c o t)) where
    by_effect : (x : Effect Configuration) → effect code c ≡ x → next (effect code) (finding code m (at c o t)) ≡ sequential_step (finding code m (at c o t)) false Running (open_by (cancelled_from code c) o) x
    by_effect x e = ap (λ y. sequential_step (finding code m (at c o t)) false Running (open_by (cancelled_from code c) o) y) e

    -- the thread goes on, with these begins open
    goes_to : {A : Type 0} (d : Configuration) (p : Option (OpenTransaction Saved)) (u : List ℕ) → MayStand code d (begins_of p) → AreRestored c d (begins_of p) → HasMemories (bounds_of code) p →
        next (effect code) (finding code m (at c o t)) ≡ state_at code m c d p u → Makes {A = A} code m (at c o t) Goes (at d p u)
    goes_to d p u stands back words e = record {
      makes = e ∙ ap (λ i. record { configuration = d; inside = i; founds = to_find p m; lefts = []; text = u; status = Running; wants = false }) (sym (shown_there code c d p back));
      of = record { stands = stands; memories = words };
      left = tt;
    }

    -- one that goes on in its frames
    moves : {A : Type 0} (d : Configuration) (p : Option (OpenTransaction Saved)) (u : List ℕ) → IsSuccessor (effect code c) d → begins_of p ≡ begins_of o → HasMemories (bounds_of code) p →
        next (effect code) (finding code m (at c o t)) ≡ state_at code m c d p u → Makes {A = A} code m (at c o t) Goes (at d p u)
    moves d p u g b words e =
        let h = law.goes_on c d (begins_of o) runs.stands g in
        goes_to d p u (subst (MayStand code d) (sym b) h.0) (subst (AreRestored c d) (sym b) h.1) words e

    goes_by : (x : Effect Configuration) (d : Configuration) → effect code c ≡ x → IsSuccessor x d → IsSuccessor (effect code c) d
    goes_by x d e g = subst (λ y. IsSuccessor y d) (sym e) g

    pub pure : {A : Type 0} (d : Configuration) → effect code c ≡ Pure d → Makes {A = A} code m (at c o t) Goes (at d o t)
    pure d e = moves d o t (goes_by (Pure d) d e refl) refl runs.memories (by_effect (Pure d) e ∙ is o)
      where
        is : (p : Option (OpenTransaction Saved)) → sequential_step (finding code m (at c p t)) false Running (open_by (cancelled_from code c) p) (Pure d) ≡ state_at code m c d p t
        is None = refl
        is (Some p) = refl

    pub prints : {A : Type 0} (piece : List ℕ) (d : Configuration) → effect code c ≡ Print piece d → MayPrint o → Makes {A = A} code m (at c o t) Goes (at d o (t ++ piece))
    prints piece d e may = moves d o (t ++ piece) (goes_by (Print piece d) d e refl) refl runs.memories (by_effect (Print piece d) e ∙ is o may)
      where
        is : (p : Option (OpenTransaction Saved)) → MayPrint p → sequential_step (finding code m (at c p t)) false Running (open_by (cancelled_from code c) p) (Print piece d) ≡ state_at code m c d p (t ++ piece)
        is None h = refl
        is (Some p) h = ap (λ b. print_step (finding code m (at c (Some p) t)) piece d b) h

  module _ (c : Configuration) (t : List ℕ) (runs : RunsAtomically code (at c None t)) where
    pub begins_outside : {A : Type 0} (mem : Memory) (d e : Configuration) → effect code c ≡ Begin d e → m ≡ Some mem → IsMemory (bounds_of code) mem → Makes {A = A} code m (at c None t) Goes (at d (Some (begun_in c mem)) t)
    begins_outside mem d e x h is =
        let open_one = law.opens c d e [] runs.stands x in
        let back : begin_configuration d (saved_in c) ≡ begin_configuration c (saved_in c) = open_one.1 ∙ sym (restored_saved c) in
        goes_to c None t runs d (Some (begun_in c mem)) t open_one.0 (ap (λ y. y ∷ []) back) (record { found = is; now = is; inner = tt })
        (by_effect c None t runs (Begin d e) x ∙ ap (λ fs. found_next (finding code m (at c None t)) d e fs) (ap (to_find {S = Saved} None) h)
        ∙ ap (λ q. record { configuration = d; inside = Some (record { cancelled = q; found = mem; mem = mem; inner = []; kept = false }); founds = []; lefts = []; text = t; status = Running; wants = false }) (goes_on_at code c d e x))

    pub irrevocable_outside : {A : Type 0} (d : Configuration) → effect code c ≡ Irrevocable d → Makes {A = A} code m (at c None t) Goes (at d None t)
    irrevocable_outside d e = moves c None t runs d None t (goes_by c None t runs (Irrevocable d) d e refl) refl tt (by_effect c None t runs (Irrevocable d) e)

    -- a cancel stands still outside
    pub cancel_outside : {A : Type 0} (n : ℕ) → Cancels (effect code c) n → Makes {A = A} code m (at c None t) Goes (at c None t)
    cancel_outside n h = record { makes = by_effect c None t runs (effect code c) refl ∙ is (effect code c) h; of = runs; left = tt }
      where
        is : (x : Effect Configuration) → Cancels x n → sequential_step (finding code m (at c None t)) false Running None x ≡ finding code m (at c None t)
        is Cancel e = refl
        is (CancelOuter k) e = refl
        is x e = absurd e

  module _ (c : Configuration) (o : OpenTransaction Saved) (t : List ℕ) (runs : RunsAtomically code (at c (Some o) t)) where
    abbrev words : AreTransactionMemories (bounds_of code) o
    words = runs.memories

    pub read_inside : {A : Type 0} (a : ℕ) (f : ℕ → Configuration) → effect code c ≡ Read a f → Makes {A = A} code m (at c (Some o) t) Goes (at (f (slice_index o.mem a)) (Some o) t)
    read_inside a f e =
        moves c (Some o) t runs (f (slice_index o.mem a)) (Some o) t (goes_by c (Some o) t runs (Read a f) (f (slice_index o.mem a)) e (slice_index o.mem a, word_at (cell_types code.globals) o.mem a words.now, refl)) refl words (by_effect c (Some o) t runs (Read a f) e)

    pub write_inside : {A : Type 0} (a w : ℕ) (d : Configuration) → effect code c ≡ Write a w d → Makes {A = A} code m (at c (Some o) t) Goes (at d (Some (with_memory o (slice_set o.mem a w) o.inner)) t)
    write_inside a w d e =
        moves c (Some o) t runs d (Some (with_memory o (slice_set o.mem a w) o.inner)) t (goes_by c (Some o) t runs (Write a w d) d e refl) refl
        (record { found = words.found; now = written (bounds_of code) o.mem a w words.now (fits.writes c d a w e).1; inner = words.inner }) (by_effect c (Some o) t runs (Write a w d) e)

    pub irrevocable_inside : {A : Type 0} (d : Configuration) → effect code c ≡ Irrevocable d → Makes {A = A} code m (at c (Some o) t) Goes (at d (Some (made_irrevocable o)) t)
    irrevocable_inside d e =
        moves c (Some o) t runs d (Some (made_irrevocable o)) t (goes_by c (Some o) t runs (Irrevocable d) d e refl) refl
        (record { found = words.found; now = words.now; inner = words.inner }) (by_effect c (Some o) t runs (Irrevocable d) e)

    pub begins_inside : {A : Type 0} (d e : Configuration) → effect code c ≡ Begin d e → Makes {A = A} code m (at c (Some o) t) Goes (at d (Some (with_memory o o.mem (record { cancelled = saved_in c; mem = o.mem } ∷ o.inner))) t)
    begins_inside d e x =
        let open_one = law.opens c d e (begins_of (Some o)) runs.stands x in
        let back : begin_configuration d (saved_in c) ≡ begin_configuration c (saved_in c) = open_one.1 ∙ sym (restored_saved c) in
        let p = with_memory o o.mem (record { cancelled = saved_in c; mem = o.mem } ∷ o.inner) in
        goes_to c (Some o) t runs d (Some p) t open_one.0 (ap (λ y. y ∷ map (begin_configuration d) (begins_of (Some o))) back ∙ ap (λ ys. begin_configuration c (saved_in c) ∷ ys) open_one.2) (record { found = words.found; now = words.now; inner = (words.now, words.inner) })
        (by_effect c (Some o) t runs (Begin d e) x
        ∙ ap (λ q. record { configuration = d; inside = Some (record { cancelled = cancelled_from code c o.cancelled; found = o.found; mem = o.mem; inner = record { cancelled = q; mem = o.mem } ∷ map (inner_by (cancelled_from code c)) o.inner; kept = o.kept }); founds = []; lefts = []; text = t; status = Running; wants = false }) (goes_on_at code c d e x))

  -- the innermost of several
  module _ (c : Configuration) (o : OpenTransaction Saved) (i : InnerTransaction Saved) (is : List (InnerTransaction Saved)) (t : List ℕ) (runs : RunsAtomically code (at c (Some (with_memory o o.mem (i ∷ is))) t)) where
    abbrev whole : OpenTransaction Saved
    whole = with_memory o o.mem (i ∷ is)

    abbrev rest : Memory → OpenTransaction Saved
    rest mem = with_memory o mem is

    abbrev all : AreTransactionMemories (bounds_of code) whole
    all = runs.memories

    tail_is : (mem : Memory) (s : Saved) (ss : List Saved) → begins_of (Some whole) ≡ s ∷ ss → ss ≡ begins_of (Some (rest mem))
    tail_is mem s ss e = let h : ss ≡ map (λ (j : InnerTransaction Saved). j.cancelled) is ++ o.cancelled ∷ [] = cc in h

    pub commit_inner : {A : Type 0} (d : Configuration) → effect code c ≡ Commit d → Makes {A = A} code m (at c (Some whole) t) Goes (at d (Some (rest o.mem)) t)
    commit_inner d e =
        let r = law.closes c d (begins_of (Some whole)) runs.stands e in
        let tl = tail_is o.mem r.0 r.1 r.2 in
        goes_to c (Some whole) t runs d (Some (rest o.mem)) t (subst (MayStand code d) tl r.3) (subst (AreRestored c d) tl r.4) (record { found = all.found; now = all.now; inner = all.inner.1 }) (by_effect c (Some whole) t runs (Commit d) e)

  -- the outermost alone
  module _ (c : Configuration) (o : OpenTransaction Saved) (t : List ℕ) (runs : RunsAtomically code (at c (Some (with_memory o o.mem [])) t)) where
    abbrev alone : OpenTransaction Saved
    alone = with_memory o o.mem []

    abbrev both : AreTransactionMemories (bounds_of code) alone
    both = runs.memories

    pub commit_outermost : {A : Type 0} (d : Configuration) (left : Vec ℕ A) → effect code c ≡ Commit d → left.items ≡ o.mem → Makes {A = A} code m (at c (Some alone) t) (Leaves left) (at d None t)
    commit_outermost d left e l =
        let r = law.closes c d (begins_of (Some alone)) runs.stands e in
        let tl : r.1 ≡ [] = (let h = r.2 in cc) in
        record {
          makes = by_effect c (Some alone) t runs (Commit d) e ∙ ap (λ (x : Memory). record { configuration = d; inside = None; founds = []; lefts = x ∷ []; text = t; status = Running; wants = false }) (sym l);
          of = record { stands = subst (MayStand code d) tl r.3; memories = tt };
          left = (subst (IsMemory (bounds_of code)) (sym l) both.now, refl);
        }

  -- a cancel of so many levels
  module _ (c : Configuration) (o : OpenTransaction Saved) (t : List ℕ) (runs : RunsAtomically code (at c (Some o) t)) (n : ℕ) (cancels : Cancels (effect code c) n) where
    abbrev those : AreTransactionMemories (bounds_of code) o
    those = runs.memories

    abbrev step_from : List (InnerTransaction Saved) → Bool → Sequential Configuration
    step_from is kept = cancel_step (finding code m (at c (Some o) t)) (transaction_by (cancelled_from code c) o) (map (inner_by (cancelled_from code c)) is) kept

    by_levels : next (effect code) (finding code m (at c (Some o) t)) ≡ step_from (drop (n - 1) o.inner) o.kept
    by_levels = by_effect c (Some o) t runs (effect code c) refl ∙ is (effect code c) cancels
      where
        is : (x : Effect Configuration) → Cancels x n → sequential_step (finding code m (at c (Some o) t)) false Running (open_by (cancelled_from code c) (Some o)) x ≡ step_from (drop (n - 1) o.inner) o.kept
        is Cancel h = ap (λ k. step_from (drop (k - 1) o.inner) o.kept) (sym h)
        is (CancelOuter k) h = ap (λ ls. cancel_step (finding code m (at c (Some o) t)) (transaction_by (cancelled_from code c) o) ls o.kept) (drop-map (inner_by (cancelled_from code c)) (k - 1) o.inner) ∙ ap (λ j. step_from (drop (j - 1) o.inner) o.kept) (sym h)
        is x h = absurd h

    -- where it goes on, the begins outside are open
    abbrev Left : Type 0
    Left = (inner : List Saved) × (s : Saved) × (rest : List Saved) × (n - 1 ≡ length inner) × (begins_of (Some o) ≡ inner ++ s ∷ rest)
        × MayStand code (cancelled_from code c s) rest × AreRestored c (cancelled_from code c s) rest

    left_open : Left
    left_open = is (effect code c) refl cancels
      where
        is : (x : Effect Configuration) → effect code c ≡ x → Cancels x n → Left
        is Cancel e h = let r = law.cancels c (begins_of (Some o)) runs.stands e in ([], r.0, r.1, ap (λ k. k - 1) h, r.2, r.3, r.4)
        is (CancelOuter k) e h = let r = law.cancels_outer k c (begins_of (Some o)) runs.stands e in (r.0, r.1, r.2, (let one = r.3 in let z : n - 1 ≡ length r.0 = omega (arith, h) in z), r.4, r.5, r.6)
        is x e h = absurd h

    parted : (is : List (InnerTransaction Saved)) → drop (n - 1) o.inner ≡ is → Parted o.cancelled is left_open.1 left_open.2
    parted is e = subst (λ js. Parted o.cancelled js left_open.1 left_open.2) (ap (λ k. drop k o.inner) (sym left_open.3) ∙ e) (parts o.cancelled o.inner left_open.0 left_open.1 left_open.2 left_open.4)

    goes_from : (s : Saved) (rest : List Saved) → left_open.1 ≡ s → left_open.2 ≡ rest → MayStand code (cancelled_from code c s) rest × AreRestored c (cancelled_from code c s) rest
    goes_from s rest hd tl = (
      subst (MayStand code (cancelled_from code c s)) tl (subst (λ (z : Saved). MayStand code (cancelled_from code c z) left_open.2) hd left_open.5),
      subst (AreRestored c (cancelled_from code c s)) tl (subst (λ (z : Saved). AreRestored c (cancelled_from code c z) left_open.2) hd left_open.6),
    )

    pub cancel_inner : {A : Type 0} (i : InnerTransaction Saved) (is : List (InnerTransaction Saved)) → drop (n - 1) o.inner ≡ i ∷ is →
        Makes {A = A} code m (at c (Some o) t) Goes (at (cancelled_from code c i.cancelled) (Some (with_memory o i.mem is)) t)
    cancel_inner i is e =
        let p = parted (i ∷ is) e in
        let g = goes_from i.cancelled (begins_of (Some (with_memory o i.mem is))) p.0 p.1 in
        let words = subst (AllByRecursion (λ (j : InnerTransaction Saved). IsMemory (bounds_of code) j.mem)) e (all_dropped (λ (j : InnerTransaction Saved). IsMemory (bounds_of code) j.mem) (n - 1) o.inner those.inner) in
        goes_to c (Some o) t runs (cancelled_from code c i.cancelled) (Some (with_memory o i.mem is)) t g.0 g.1
        (record { found = those.found; now = words.0; inner = words.1 }) (by_levels ∙ ap (λ js. step_from js o.kept) e)

    -- the outermost one is among them
    module _ (all : drop (n - 1) o.inner ≡ []) where
      pub cancel_outermost : {A : Type 0} (left : Vec ℕ A) → o.kept ≡ false → left.items ≡ o.found → Makes {A = A} code m (at c (Some o) t) (Leaves left) (at (cancelled_from code c o.cancelled) None t)
      cancel_outermost left h l =
          let p = parted [] all in
          let g = goes_from o.cancelled [] p.0 p.1 in
          record {
            makes = by_levels ∙ ap (λ js. step_from js o.kept) all ∙ ap (λ b. step_from [] b) h
                ∙ ap (λ (x : Memory). record { configuration = cancelled_from code c o.cancelled; inside = None; founds = []; lefts = x ∷ []; text = t; status = Running; wants = false }) (sym l);
            of = record { stands = g.0; memories = tt };
            left = (subst (IsMemory (bounds_of code)) (sym l) those.found, refl);
          }

      -- with the lock kept it stands still
      pub cancel_kept : {A : Type 0} → o.kept ≡ true → Makes {A = A} code m (at c (Some o) t) Goes (at c (Some o) t)
      cancel_kept h = record { makes = by_levels ∙ ap (λ js. step_from js o.kept) all ∙ ap (λ b. step_from [] b) h; of = runs; left = tt }

  -- the same, of threads that are said otherwise
  pub makes_of : {A : Type 0} (k l p q : AtomicThread) (s : Signal A) → k ≡ p → l ≡ q → Makes code m p s q → Makes code m k s l
  makes_of k l p q s e f h = subst (λ z. Makes code m z s l) (sym e) (subst (λ z. Makes code m p s z) (sym f) h)

pub same_thread : (a b : AtomicThread) → a.configuration ≡ b.configuration → a.open_in ≡ b.open_in → a.text ≡ b.text → a.status ≡ b.status → a ≡ b
same_thread a b c d e f =
    ap (λ z. record { configuration = z; open_in = a.open_in; text = a.text; status = a.status }) c
    ∙ ap (λ z. record { configuration = b.configuration; open_in = z; text = a.text; status = a.status }) d
    ∙ ap (λ z. record { configuration = b.configuration; open_in = b.open_in; text = z; status = a.status }) e
    ∙ ap (λ z. record { configuration = b.configuration; open_in = b.open_in; text = b.text; status = z }) f
