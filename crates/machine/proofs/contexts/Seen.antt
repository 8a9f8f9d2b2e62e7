-- What a thread's context shows: attempts by a map of what their begins saved.
use Rattle.std.proofs.Common.{◌≡◌, ◌≢◌, ◌<◌, ◌≤◌, ◌-◌, ℕ, suc, List, [], ◌∷◌, ◌++◌, Option, None, Some, refl, sym, ◌∙◌, ap, subst, map, length, drop, arith}
use Rattle.std.proofs.lemmas.List.{length-drop}
use Rattle.std.specs.List.{AllByRecursion}
use Rattle.syntax.specs.declared.thread_end.Status.{Status}
use Rattle.syntax.specs.declared.thread_end.Status.TheVariants.{Running, Ended as HasEnded, Trapped as HasTrapped}
use Rattle.nesting.specs.Begins.{Saved}
use Rattle.bytecode.specs.Code.{Code, Configuration}
use Rattle.bytecode.specs.Valid.{IsValid}
use Rattle.frames.proofs.Keeping.{begins_stay_open}
use Rattle.frames.specs.Open.{MayStand, begin_configuration, saved_in, BeginsStayOpen}
use Rattle.norec_core.specs.declared.step.Op.{Op}
use Rattle.norec_core.specs.declared.step.Op.TheVariants as op
use Rattle.norec_core.specs.declared.step.Answer.{Answer}
use Rattle.norec_core.specs.declared.step.Phase.{Phase}
use Rattle.norec_core.specs.declared.step.Phase.TheVariants.{AtOperation, ReadsLock, ValidatesTime, ValidatesEntry, Stores}
use Rattle.norec_core.specs.Attempts.{Checkpoint, Attempt}
use Rattle.norec_core.specs.Phases.{core_step, core_phase}
use Rattle.norec_core.specs.Saved.{if_some, checkpoint_as, attempt_as}
use Rattle.machine.specs.Standing.{begins_of, HaveWords, HasInHand, GivesWordsIf, IsStanding, IsThreadOf}
use Rattle.machine.specs.inner.Contexts.{PlainContext, shown_from, machine_thread, AreWithin, ContextWith, IsContextOf}

module _ {S T : Type 0} where
  inner_begins : (f : S → T) (ks : List (Checkpoint S)) (s : S) → map (λ (k : Checkpoint T). k.saved) (map (checkpoint_as f) ks) ++ f s ∷ [] ≡ map f (map (λ (k : Checkpoint S). k.saved) ks ++ s ∷ [])
  inner_begins f [] s = refl
  inner_begins f (k ∷ ks) s = ap (λ (xs : List T). f k.saved ∷ xs) (inner_begins f ks s)

  -- the begins of an attempt that is shown by a map
  pub begins_shown : (f : S → T) (o : Option (Attempt S)) → begins_of (if_some (attempt_as f) o) ≡ map f (begins_of o)
  begins_shown f None = refl
  begins_shown f (Some a) = inner_begins f a.inner a.saved

  marks_shown : (f : S → T) (ks : List (Checkpoint S)) → AllByRecursion (λ (k : Checkpoint S). HaveWords k.writes) ks → AllByRecursion (λ (k : Checkpoint T). HaveWords k.writes) (map (checkpoint_as f) ks)
  marks_shown f [] h = tt
  marks_shown f (k ∷ ks) h = (h.0, marks_shown f ks h.1)

  marks_in_context : (f : S → T) (ks : List (Checkpoint S)) → AllByRecursion (λ (k : Checkpoint T). HaveWords k.writes) (map (checkpoint_as f) ks) → AllByRecursion (λ (k : Checkpoint S). HaveWords k.writes) ks
  marks_in_context f [] h = tt
  marks_in_context f (k ∷ ks) h = (h.0, marks_in_context f ks h.1)

  hand_shown : (f : S → T) (ks : List (Checkpoint S)) (q : Phase) → HasInHand ks q → HasInHand (map (checkpoint_as f) ks) q
  hand_shown f ks AtOperation h = tt
  hand_shown f ks (ReadsLock v) h = h
  hand_shown f ks ValidatesTime h = tt
  hand_shown f ks (ValidatesEntry t i) h = tt
  hand_shown f ks (Stores i) h = ap (map (checkpoint_as f)) h

  none_in_context : (f : S → T) (ks : List (Checkpoint S)) → map (checkpoint_as f) ks ≡ [] → ks ≡ []
  none_in_context f [] e = refl
  none_in_context f (k ∷ ks) e = absurd (cc)

  hand_in_context : (f : S → T) (ks : List (Checkpoint S)) (q : Phase) → HasInHand (map (checkpoint_as f) ks) q → HasInHand ks q
  hand_in_context f ks AtOperation h = tt
  hand_in_context f ks (ReadsLock v) h = h
  hand_in_context f ks ValidatesTime h = tt
  hand_in_context f ks (ValidatesEntry t i) h = tt
  hand_in_context f ks (Stores i) h = none_in_context f ks h

  pub words_shown : (f : S → T) (o : Option (Attempt S)) → GivesWordsIf o → GivesWordsIf (if_some (attempt_as f) o)
  words_shown f None w = tt
  words_shown f (Some a) w = record { writes = w.writes; marks = marks_shown f a.inner w.marks; in_hand = hand_shown f a.inner a.phase w.in_hand }

  pub words_in_context : (f : S → T) (o : Option (Attempt S)) → GivesWordsIf (if_some (attempt_as f) o) → GivesWordsIf o
  words_in_context f None w = tt
  words_in_context f (Some a) w = record { writes = w.writes; marks = marks_in_context f a.inner w.marks; in_hand = hand_in_context f a.inner a.phase w.in_hand }

  pub none_shown : (f : S → T) (o : Option (Attempt S)) → if_some (attempt_as f) o ≡ None → o ≡ None
  none_shown f None e = refl
  none_shown f (Some a) e = absurd (cc)

  -- two maps that agree on the begins show the same attempt
  agree_inner : (f g : S → T) (ks : List (Checkpoint S)) (s : S) → map f (map (λ (k : Checkpoint S). k.saved) ks ++ s ∷ []) ≡ map g (map (λ (k : Checkpoint S). k.saved) ks ++ s ∷ []) →
      (map (checkpoint_as f) ks ≡ map (checkpoint_as g) ks) × (f s ≡ g s)
  agree_inner f g [] s e = (refl, let h : f s ≡ g s = cc in h)
  agree_inner f g (k ∷ ks) s e =
      let a : f k.saved ≡ g k.saved = cc in
      let b : map f (map (λ (k : Checkpoint S). k.saved) ks ++ s ∷ []) ≡ map g (map (λ (k : Checkpoint S). k.saved) ks ++ s ∷ []) = cc in
      let r = agree_inner f g ks s b in
      (at a r.0, r.1)
    where
      at : f k.saved ≡ g k.saved → map (checkpoint_as f) ks ≡ map (checkpoint_as g) ks → map (checkpoint_as f) (k ∷ ks) ≡ map (checkpoint_as g) (k ∷ ks)
      at a b = ap (λ (p : T). record { saved = p; writes = k.writes } ∷ map (checkpoint_as f) ks) a ∙ ap (λ (xs : List (Checkpoint T)). checkpoint_as g k ∷ xs) b

  pub agree : (f g : S → T) (o : Option (Attempt S)) → map f (begins_of o) ≡ map g (begins_of o) → if_some (attempt_as f) o ≡ if_some (attempt_as g) o
  agree f g None e = refl
  agree f g (Some a) e = let r = agree_inner f g a.inner a.saved e in
      ap (λ (p : T). Some (record { saved = p; first = a.first; snapshot = a.snapshot; reads = a.reads; writes = a.writes; inner = map (checkpoint_as f) a.inner; kept = a.kept; phase = a.phase })) r.1
      ∙ ap (λ (ks : List (Checkpoint T)). Some (record { saved = g a.saved; first = a.first; snapshot = a.snapshot; reads = a.reads; writes = a.writes; inner = ks; kept = a.kept; phase = a.phase })) r.0

-- what a begin saves here is restored to all
pub restored_saved : (c : Configuration) → begin_configuration c (saved_in c) ≡ c
restored_saved c = ap (λ n. record { place = c.place; registers = c.registers; frames = drop n c.frames }) zero_left
  where
    zero_left : suc (length c.frames) - suc (length c.frames) ≡ 0
    zero_left = omega arith

-- only a begin looks at what it saves
module _ {S : Type 0} (now new : S) where
  pub now_unused : (o : Option (Attempt S)) (x : Op) (y : Answer) → x ≢ op.Begin → core_step now o x y ≡ core_step new o x y
  now_unused None op.Begin y ne = absurd (ne refl)
  now_unused (Some a) x y ne = at a.phase x ne
    where
      at : (q : Phase) (x : Op) → x ≢ op.Begin → core_phase now a q x y ≡ core_phase new a q x y
      at AtOperation op.Begin ne = absurd (ne refl)
      at AtOperation (op.Read ad) ne = refl
      at AtOperation (op.Write ad v) ne = refl
      at AtOperation op.Commit ne = refl
      at AtOperation op.Cancel ne = refl
      at AtOperation (op.CancelOuter levels) ne = refl
      at AtOperation op.Irrevocable ne = refl
      at AtOperation op.Release ne = refl
      at (ReadsLock v) x ne = refl
      at ValidatesTime x ne = refl
      at (ValidatesEntry t i) x ne = refl
      at (Stores i) op.Commit ne = refl
      at (Stores i) op.Begin ne = refl
      at (Stores i) (op.Read ad) ne = refl
      at (Stores i) (op.Write ad v) ne = refl
      at (Stores i) op.Cancel ne = refl
      at (Stores i) (op.CancelOuter levels) ne = refl
      at (Stores i) op.Irrevocable ne = refl
      at (Stores i) op.Release ne = refl
  now_unused o x y ne = refl

-- begins that are within are told apart by what they are restored to
same_drop : {X : Type 0} (fs : List X) (m n : ℕ) → 0 < m → m ≤ suc (length fs) → 0 < n → n ≤ suc (length fs) → drop (suc (length fs) - m) fs ≡ drop (suc (length fs) - n) fs → m ≡ n
same_drop fs m n a b c d e = let l = ap length e in omega (arith, length-drop (suc (length fs) - m) fs, length-drop (suc (length fs) - n) fs, l)

same_saved : (c : Configuration) (s t : Saved) → 0 < s.frames → s.frames ≤ suc (length c.frames) → 0 < t.frames → t.frames ≤ suc (length c.frames) → begin_configuration c s ≡ begin_configuration c t → s ≡ t
same_saved c s t a b d e h =
    let n = same_drop c.frames s.frames t.frames a b d e (ap (λ (x : Configuration). x.frames) h) in
    let p = ap (λ (x : Configuration). x.place) h in
    let r = ap (λ (x : Configuration). x.registers) h in
    ap (λ x. record { registers = x; frames = s.frames; place = s.place }) r ∙ ap (λ x. record { registers = t.registers; frames = x; place = s.place }) n ∙ ap (λ x. record { registers = t.registers; frames = t.frames; place = x }) p

pub same_begins : (c : Configuration) (ss ts : List Saved) → AreWithin c ss → AreWithin c ts → map (begin_configuration c) ss ≡ map (begin_configuration c) ts → ss ≡ ts
same_begins c [] [] a b e = refl
same_begins c [] (t ∷ ts) a b e = absurd (cc)
same_begins c (s ∷ ss) [] a b e = absurd (cc)
same_begins c (s ∷ ss) (t ∷ ts) a b e =
    let h : begin_configuration c s ≡ begin_configuration c t = cc in
    let k : map (begin_configuration c) ss ≡ map (begin_configuration c) ts = cc in
    ap (λ (x : Saved). x ∷ ss) (same_saved c s t a.0.0 a.0.1 b.0.0 b.0.1 h) ∙ ap (λ (xs : List Saved). t ∷ xs) (same_begins c ss ts a.1 b.1 k)

module _ (code : Code) (law : BeginsStayOpen code) where
  all_within : (c : Configuration) (inner ss : List Saved) → MayStand code c (inner ++ ss) → AreWithin c ss
  all_within c inner [] m = tt
  all_within c inner (s ∷ ss) m =
      let g = law.goes_back c inner s ss m in
      let r = g.2 in
      ((r.some, r.there), all_within c (inner ++ s ∷ []) ss (subst (MayStand code c) (regroup inner s ss) m))
    where
      regroup : (xs : List Saved) (y : Saved) (ys : List Saved) → xs ++ y ∷ ys ≡ (xs ++ y ∷ []) ++ ys
      regroup [] y ys = refl
      regroup (x ∷ xs) y ys = ap (λ (zs : List Saved). x ∷ zs) (regroup xs y ys)

  -- where a thread may stand, the frames of its open begins are there
  pub within : (c : Configuration) (ss : List Saved) → MayStand code c ss → AreWithin c ss
  within c ss m = all_within c [] ss m

  -- what the thread that is shown says of the context that shows it, and back
  context_with : (k : PlainContext) (s : Status) → AreWithin k.configuration (begins_of k.core.attempt) → IsStanding code (machine_thread k) s → ContextWith code k s
  context_with k Running w r =
      let same = same_begins k.configuration (begins_of k.core.attempt) r.saved w (within k.configuration r.saved r.stands) (sym (begins_shown (begin_configuration k.configuration) k.core.attempt) ∙ r.begins) in
      record { stands = subst (MayStand code k.configuration) (sym same) r.stands; words = words_in_context (begin_configuration k.configuration) k.core.attempt r.words }
  context_with k HasEnded w r = none_shown (begin_configuration k.configuration) k.core.attempt r
  context_with k (HasTrapped cause) w r = none_shown (begin_configuration k.configuration) k.core.attempt r

shown_by : (code : Code) (k : PlainContext) (s : Status) → ContextWith code k s → IsStanding code (machine_thread k) s
shown_by code k Running r = record {
  saved = begins_of k.core.attempt;
  stands = r.stands;
  begins = begins_shown (begin_configuration k.configuration) k.core.attempt;
  words = words_shown (begin_configuration k.configuration) k.core.attempt r.words;
}
shown_by code k HasEnded r = ap (shown_from k.configuration) r
shown_by code k (HasTrapped cause) r = ap (shown_from k.configuration) r

-- of a whole thread
pub context_of : (code : Code) (k : PlainContext) → AreWithin k.configuration (begins_of k.core.attempt) → IsThreadOf code (machine_thread k) → IsContextOf code k
context_of code k w t = context_with code (begins_stay_open code t.valid) k k.status w t.stands

pub thread_of : (code : Code) → IsValid code → (k : PlainContext) → IsContextOf code k → IsThreadOf code (machine_thread k)
thread_of code valid k r = record { valid = valid; stands = shown_by code k k.status r }
