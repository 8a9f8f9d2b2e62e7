-- A begin opens one more, a commit and a cancel close the innermost one, an outer cancel so many, and any of them can be gone
-- back to.
use Rattle.std.proofs.Common.{◌≡◌, ℕ, zero, suc, ◌-◌, ◌<◌, ◌≤◌, List, [], ◌∷◌, ◌++◌, ◌≢◌, ◌⊎◌, inl, inr, length, map, drop, Option, Some, refl, sym, ap, ◌∙◌, subst, arith}
use Rattle.std.specs.Prelude.{slice_get}
use Rattle.nesting.specs.Begins.{Saved}
use Rattle.bytecode.specs.Effects.{Effect, after_cancel}
use Rattle.bytecode.specs.Code.{Code, FunctionCode, Configuration, Frame, Instr, onward, going, effect, effect_of}
use Rattle.bytecode.specs.Valid.{cancelled_in, end_of, IsReached, IsWritten, AsksOpen, IsValid}
use Rattle.local_steps.specs.Local.{standing}
use Rattle.frames.specs.Open.{saved_in, begin_configuration, IsSavedAt, AreSaved, IsFrame, AreCallers, MayStand, AreRestored, CanRestore}
use Rattle.frames.proofs.Reached.{AreReached, IsBeginAt, are_reached, reached_behind, to_inside, to_outside, to_cancelled}
use Rattle.frames.proofs.ByWay.{kind_of, begins_only, commits_only, cancels_only, cancels_outer_only, ends_only}
use Rattle.frames.proofs.Levels.{AreUpTo, callers_up_to, frames_under, restored_under}
use Rattle.frames.proofs.Leading.{Way, way_of, leads_by, asks_of, asks_by}

same_level : (n k : ℕ) → k ≡ suc n → suc n - k ≡ 0
same_level n k e = omega arith

other_level : (n k : ℕ) → k ≤ suc n → suc (suc n) - k ≡ suc (suc n - k)
other_level n k h = omega arith

-- ---- the frame of a begin is there

can_restore_top : (f : FunctionCode) (p : ℕ) (rs : List ℕ) (fs : List Frame) (b : ℕ) (s : Saved) → length rs ≡ f.registers → IsSavedAt f (suc (length fs)) b s → CanRestore (standing p rs fs) s
can_restore_top f p rs fs b s long at = record {
  some = (let l = at.frame in omega arith);
  there = (let l = at.frame in omega arith);
  registers = rs;
  found = rw (same_level (length fs) s.frames at.frame) refl;
  long = at.long ∙ sym long;
}

can_restore_under : (p : ℕ) (rs : List ℕ) (g : Frame) (fs : List Frame) (s : Saved) → CanRestore (standing g.place g.registers fs) s → CanRestore (standing p rs (g ∷ fs)) s
can_restore_under p rs g fs s h = record {
  some = h.some;
  there = (let l = h.there in omega arith);
  registers = h.registers;
  found = rw (other_level (length fs) s.frames h.there) h.found;
  long = h.long;
}

in_frame : (f : FunctionCode) (n : ℕ) (begins : List ℕ) (inner : List Saved) (s : Saved) (outer callers : List Saved) → AreSaved f n begins (inner ++ s ∷ outer) callers → ((b : ℕ) × IsSavedAt f n b s) ⊎ ((more : List Saved) × (more ++ s ∷ outer ≡ callers))
in_frame f n [] inner s outer callers a = inr (inner, a)
in_frame f n (b ∷ begins) [] s outer callers a = inl (b, a.0)
in_frame f n (b ∷ begins) (x ∷ inner) s outer callers a = in_frame f n begins inner s outer callers a.1

not_empty : (more : List Saved) (s : Saved) (outer : List Saved) → more ++ s ∷ outer ≡ [] → ⊥
not_empty [] s outer e = cc e
not_empty (x ∷ more) s outer e = cc e

pub can_restore : (code : Code) (fs : List Frame) (p : ℕ) (rs : List ℕ) (inner : List Saved) (s : Saved) (outer callers : List Saved) → IsFrame code (suc (length fs)) p rs (inner ++ s ∷ outer) callers → AreCallers code fs callers → CanRestore (standing p rs fs) s
can_restore code [] p rs inner s outer callers top below = elim (in_frame top.function 1 top.begins inner s outer callers top.saved) [
  | inl h ↦ can_restore_top top.function p rs [] h.0 s top.long h.1
  | inr h ↦ absurd (not_empty h.0 s outer (h.1 ∙ below))
]
can_restore code (g ∷ fs) p rs inner s outer callers top below = elim (in_frame top.function (suc (suc (length fs))) top.begins inner s outer callers top.saved) [
  | inl h ↦ can_restore_top top.function p rs (g ∷ fs) h.0 s top.long h.1
  | inr h ↦ can_restore_under p rs g fs s (can_restore code fs g.place g.registers h.0 s outer below.0 (subst (λ xs. IsFrame code (suc (length fs)) g.place g.registers xs below.0) (sym h.1) below.1) below.3)
]

-- ---- back at a begin

-- back at the innermost begin
record IsBack (code : Code) (c : Configuration) (s : Saved) (outer : List Saved) : Type 0 where
  stands : MayStand code (begin_configuration c s) outer
  same : AreRestored c (begin_configuration c s) outer
  begins : IsBeginAt code s.place

-- in the frame of f on top, at a place with the other begins open
stands_on_top : (code : Code) (f : FunctionCode) (fs : List Frame) (s : Saved) (ss callers : List Saved) (number b : ℕ) (bs : List ℕ) (q : ℕ) → slice_get code.functions number ≡ Some f → IsSavedAt f (suc (length fs)) b s → AreSaved f (suc (length fs)) bs ss callers → IsReached code f q bs → AreCallers code fs callers → length fs < 64 → MayStand code (standing q s.registers (drop (suc (length fs) - s.frames) fs)) ss
stands_on_top code f fs s ss callers number b bs q has at saved r below few =
    subst (λ n. MayStand code (standing q s.registers (drop n fs)) ss) (sym (same_level (length fs) s.frames at.frame)) (record {
      callers = callers;
      top = record {
        index = number;
        function = f;
        begins = bs;
        has = has;
        reached = r;
        long = at.long;
        words = at.words;
        saved = saved;
      };
      below = below;
      few = few;
    })

same_on_top : (p q : ℕ) (rs ts : List ℕ) (fs : List Frame) (s : Saved) (ss : List Saved) → s.frames ≡ suc (length fs) → AreRestored (standing p rs fs) (standing q ts (drop (suc (length fs) - s.frames) fs)) ss
same_on_top p q rs ts fs s ss e = subst (λ n. AreRestored (standing p rs fs) (standing q ts (drop n fs)) ss) (sym (same_level (length fs) s.frames e)) refl

back_on_top : (code : Code) (fs : List Frame) (p : ℕ) (rs : List ℕ) (s : Saved) (ss callers : List Saved) (top : IsFrame code (suc (length fs)) p rs (s ∷ ss) callers) (b : ℕ) (bs : List ℕ) → top.begins ≡ b ∷ bs → AreCallers code fs callers → length fs < 64 → IsBack code (standing p rs fs) s ss
back_on_top code fs p rs s ss callers top b bs e below few =
    let saved : AreSaved top.function (suc (length fs)) (b ∷ bs) (s ∷ ss) callers = subst (λ xs. AreSaved top.function (suc (length fs)) xs (s ∷ ss) callers) e top.saved in
    let reached : AreReached code top.function (b ∷ bs) = are_reached code top.function p (b ∷ bs) (subst (IsReached code top.function p) e top.reached) in
    record {
      stands = stands_on_top code top.function fs s ss callers top.index b bs s.place top.has saved.0 saved.1 (subst (λ q. IsReached code top.function q bs) (sym saved.0.at) reached.0) below few;
      same = same_on_top p s.place rs s.registers fs s ss saved.0.frame;
      begins = subst (IsBeginAt code) (sym saved.0.at) reached.1;
    }

-- seen with one frame more on top
back_under : (code : Code) (p : ℕ) (rs : List ℕ) (g : Frame) (fs : List Frame) (s : Saved) (ss : List Saved) → AreUpTo (suc (length fs)) (s ∷ ss) → IsBack code (standing g.place g.registers fs) s ss → IsBack code (standing p rs (g ∷ fs)) s ss
back_under code p rs g fs s ss up h =
    let e : drop (suc (suc (length fs)) - s.frames) (g ∷ fs) ≡ drop (suc (length fs) - s.frames) fs = frames_under (suc (length fs)) g fs s up.0 in
    let at : begin_configuration (standing p rs (g ∷ fs)) s ≡ begin_configuration (standing g.place g.registers fs) s = ap (standing s.place s.registers) e in
    record {
      stands = subst (λ c. MayStand code c ss) (sym at) h.stands;
      same = ap (λ c. map (begin_configuration c) ss) at ∙ h.same ∙ sym (restored_under p g.place rs g.registers g fs ss up.1);
      begins = h.begins;
    }

back_at : (code : Code) (fs : List Frame) (p : ℕ) (rs : List ℕ) (s : Saved) (ss callers : List Saved) (top : IsFrame code (suc (length fs)) p rs (s ∷ ss) callers) (bs : List ℕ) → top.begins ≡ bs → AreCallers code fs callers → length fs < 64 → IsBack code (standing p rs fs) s ss
back_at code fs p rs s ss callers top (b ∷ bs) e below few = back_on_top code fs p rs s ss callers top b bs e below few
back_at code [] p rs s ss callers top [] e below few =
    let saved : s ∷ ss ≡ callers = subst (λ xs. AreSaved top.function 1 xs (s ∷ ss) callers) e top.saved in
    cc (saved, below)
back_at code (g ∷ fs) p rs s ss callers top [] e below few =
    let saved : s ∷ ss ≡ callers = subst (λ xs. AreSaved top.function (suc (suc (length fs))) xs (s ∷ ss) callers) e top.saved in
    let frame : IsFrame code (suc (length fs)) g.place g.registers (s ∷ ss) below.0 = subst (λ xs. IsFrame code (suc (length fs)) g.place g.registers xs below.0) (sym saved) below.1 in
    let few' : length fs < 64 = omega arith in
    let up : AreUpTo (suc (length fs)) (s ∷ ss) = subst (AreUpTo (suc (length fs))) (sym saved) (callers_up_to code (g ∷ fs) callers below) in
    back_under code p rs g fs s ss up (back_at code fs g.place g.registers s ss below.0 frame frame.begins refl below.3 few')

back : (code : Code) (c : Configuration) (s : Saved) (ss : List Saved) → MayStand code c (s ∷ ss) → IsBack code c s ss
back code c s ss m = back_at code c.frames c.place c.registers s ss m.callers m.top m.top.begins refl m.below m.few

-- two maps that agree on a list agree at each item and on what follows it
parted : (g h : Saved → Configuration) (inner : List Saved) (s : Saved) (outer : List Saved) → map g (inner ++ s ∷ outer) ≡ map h (inner ++ s ∷ outer) → (g s ≡ h s) × (map g outer ≡ map h outer)
parted g h [] s outer e = (cc e, cc e)
parted g h (x ∷ inner) s outer e = let rest : map g (inner ++ s ∷ outer) ≡ map h (inner ++ s ∷ outer) = cc e in parted g h inner s outer rest

back_to : (code : Code) (c : Configuration) (inner : List Saved) (s : Saved) (outer : List Saved) → MayStand code c (inner ++ s ∷ outer) → IsBack code c s outer
back_to code c [] s outer m = back code c s outer m
back_to code c (x ∷ inner) s outer m =
    let one = back code c x (inner ++ s ∷ outer) m in
    let rest = back_to code (begin_configuration c x) inner s outer one.stands in
    let same = parted (begin_configuration (begin_configuration c x)) (begin_configuration c) inner s outer one.same in
    record {
      stands = subst (λ d. MayStand code d outer) same.0 rest.stands;
      same = subst (λ d. map (begin_configuration d) outer ≡ map (begin_configuration c) outer) same.0 (rest.same ∙ same.1);
      begins = rest.begins;
    }

pub goes_back : (code : Code) (c : Configuration) (inner : List Saved) (s : Saved) (outer : List Saved) → MayStand code c (inner ++ s ∷ outer) → MayStand code (begin_configuration c s) outer × AreRestored c (begin_configuration c s) outer × CanRestore c s × ((d : Configuration) × (e : Configuration) × (effect code (begin_configuration c s) ≡ Effect.Begin d e))
goes_back code c inner s outer m =
    let b = back_to code c inner s outer m in (
      b.stands,
      b.same,
      can_restore code c.frames c.place c.registers inner s outer m.callers m.top m.below,
      (onward (begin_configuration c s), going (begin_configuration c s) b.begins.0, ap (effect_of code (begin_configuration c s)) b.begins.1),
    )

-- ---- an instruction that opens a begin or closes some

-- so many are closed, and the thread goes on where the outermost of these says
abbrev pub IsCancelled : Code → Configuration → List Saved → ℕ → Type 0
IsCancelled code c ss n = (inner : List Saved) × (s : Saved) × (rest : List Saved) × (n ≡ suc (length inner)) × (ss ≡ inner ++ s ∷ rest) × MayStand code (after_cancel (effect code (begin_configuration c s)) (begin_configuration c s)) rest × AreRestored c (after_cancel (effect code (begin_configuration c s)) (begin_configuration c s)) rest

-- the begin behind so many, and what it saved
record IsParted (f : FunctionCode) (number n : ℕ) (begins : List ℕ) (ss callers : List Saved) : Type 0 where
  place : ℕ
  others : List ℕ
  inner : List Saved
  saved : Saved
  rest : List Saved
  drops : drop n begins ≡ place ∷ others
  count : length inner ≡ n
  all : ss ≡ inner ++ saved ∷ rest
  is_saved : IsSavedAt f number place saved
  are_saved : AreSaved f number others rest callers

parted_by : (f : FunctionCode) (number n : ℕ) (begins : List ℕ) (ss callers : List Saved) → AreSaved f number begins ss callers → n < length begins → IsParted f number n begins ss callers
parted_by f number n [] ss callers a lt = absurd (omega arith)
parted_by f number n (b ∷ begins) [] callers a lt = absurd a
parted_by f number zero (b ∷ begins) (s ∷ ss) callers a lt = record {
  place = b;
  others = begins;
  inner = [];
  saved = s;
  rest = ss;
  drops = refl;
  count = refl;
  all = refl;
  is_saved = a.0;
  are_saved = a.1;
}
parted_by f number (suc n) (b ∷ begins) (s ∷ ss) callers a lt =
    let p = parted_by f number n begins ss callers a.1 (omega arith) in
    record {
      place = p.place;
      others = p.others;
      inner = s ∷ p.inner;
      saved = p.saved;
      rest = p.rest;
      drops = p.drops;
      count = ap suc p.count;
      all = ap (λ xs. s ∷ xs) p.all;
      is_saved = p.is_saved;
      are_saved = p.are_saved;
    }

some_open : (bs : List ℕ) → bs ≢ [] → 1 ≤ length bs
some_open [] some = absurd (some refl)
some_open (b ∷ bs) some = omega arith

none_inside : (inner : List Saved) → 1 ≡ suc (length inner) → inner ≡ []
none_inside [] e = refl
none_inside (s ∷ inner) e = absurd (omega (arith, e))

one_level : (code : Code) (c : Configuration) (ss : List Saved) → IsCancelled code c ss 1 → (s : Saved) × (rest : List Saved) × (ss ≡ s ∷ rest) × MayStand code (after_cancel (effect code (begin_configuration c s)) (begin_configuration c s)) rest × AreRestored c (after_cancel (effect code (begin_configuration c s)) (begin_configuration c s)) rest
one_level code c ss h = (h.1, h.2, h.4 ∙ ap (λ (xs : List Saved). xs ++ h.1 ∷ h.2) (none_inside h.0 h.3), h.5, h.6)

abbrev levels_on : Way → ℕ
levels_on (Way.CancelsOuter n) = n
levels_on w = 0

levels_written : (code : Code) (f : FunctionCode) (end n : ℕ) (i : Instr) → way_of i ≡ Way.CancelsOuter n → IsWritten code f end i → 2 ≤ n
levels_written code f end n (Instr.CancelOuter k) e w = let same : k ≡ n = ap levels_on e in omega (arith, same, w)
levels_written code f end n i e w = cc e

module _ (code : Code) (v : IsValid code) (c : Configuration) (ss : List Saved) (m : MayStand code c ss) where
  asked_of : (o : Option Instr) → slice_get code.instructions c.place ≡ o → AsksOpen o m.top.begins
  asked_of o at = subst (λ x. AsksOpen x m.top.begins) at ((v.each m.top.index m.top.function m.top.has).ways.asks c.place m.top.begins m.top.reached)

  module _ (i : Instr) (at : slice_get code.instructions c.place ≡ Some i) where
    written_here : IsWritten code m.top.function (end_of code m.top.index) i
    written_here =
        let valid = v.each m.top.index m.top.function m.top.has in
        let inside = valid.ways.inside c.place m.top.begins m.top.reached in
        valid.written c.place i inside.0 inside.1 at

    does : effect code c ≡ effect_of code c (Some i)
    does = ap (effect_of code c) at

    asked_by : (w : Way) → way_of i ≡ w → asks_by w m.top.begins
    asked_by w e = subst (λ x. asks_by x m.top.begins) e (asks_of m.top.begins i (asked_of (Some i) at))

    pub opens_by : (d e : Configuration) → effect code c ≡ Effect.Begin d e → MayStand code d (saved_in c ∷ ss) × (begin_configuration d (saved_in c) ≡ c) × AreRestored c d ss
    opens_by d e x =
        let k = begins_only c d e (way_of i) (effect_of code c (Some i)) (kind_of code c i) (sym does ∙ x) in
        let same : d ≡ onward c = cc (x, does, k.1.1) in
        let flat = same_level (length c.frames) (suc (length c.frames)) refl in
        subst (λ y. MayStand code y (saved_in c ∷ ss) × (begin_configuration y (saved_in c) ≡ c) × AreRestored c y ss) (sym same) (
          record {
            callers = m.callers;
            top = record {
              index = m.top.index;
              function = m.top.function;
              begins = c.place ∷ m.top.begins;
              has = m.top.has;
              reached = to_inside code m.top.function c.place m.top.begins i m.top.reached at k.0;
              long = m.top.long;
              words = m.top.words;
              saved = (record { at = refl; frame = refl; long = m.top.long; words = m.top.words }, m.top.saved);
            };
            below = m.below;
            few = m.few;
          },
          ap (λ n. standing c.place c.registers (drop n c.frames)) flat,
          refl,
        )

    -- the innermost begin of the frame on top
    closes_at : (ss : List Saved) (top : IsFrame code (suc (length c.frames)) c.place c.registers ss m.callers) (bs : List ℕ) → top.begins ≡ bs → bs ≢ [] → way_of i ≡ Way.Closes → (s : Saved) × (rest : List Saved) × (ss ≡ s ∷ rest) × MayStand code (onward c) rest × AreRestored c (onward c) rest
    closes_at ss top [] e some w = absurd (some refl)
    closes_at [] top (b ∷ bs) e some w = absurd (subst (λ xs. AreSaved top.function (suc (length c.frames)) xs [] m.callers) e top.saved)
    closes_at (s ∷ rest) top (b ∷ bs) e some w =
        let saved : AreSaved top.function (suc (length c.frames)) (b ∷ bs) (s ∷ rest) m.callers = subst (λ xs. AreSaved top.function (suc (length c.frames)) xs (s ∷ rest) m.callers) e top.saved in (
          s,
          rest,
          refl,
          record {
            callers = m.callers;
            top = record {
              index = top.index;
              function = top.function;
              begins = bs;
              has = top.has;
              reached = to_outside code top.function c.place b bs i (subst (IsReached code top.function c.place) e top.reached) at w;
              long = top.long;
              words = top.words;
              saved = saved.1;
            };
            below = m.below;
            few = m.few;
          },
          refl,
        )

    pub closes_by : (d : Configuration) → effect code c ≡ Effect.Commit d → (s : Saved) × (rest : List Saved) × (ss ≡ s ∷ rest) × MayStand code d rest × AreRestored c d rest
    closes_by d x =
        let k = commits_only c d (way_of i) (effect_of code c (Some i)) (kind_of code c i) (sym does ∙ x) in
        let same : d ≡ onward c = cc (x, does, k.1) in
        subst (λ y. (s : Saved) × (rest : List Saved) × (ss ≡ s ∷ rest) × MayStand code y rest × AreRestored c y rest) (sym same) (closes_at ss m.top m.top.begins refl (asked_by Way.Closes k.0) k.0)

    -- the begin behind so many of the frame on top
    cancels_at : (n : ℕ) (w : Way) → 0 < n → n ≤ length m.top.begins → way_of i ≡ w → leads_by code c.place m.top.begins w ≡ cancelled_in code (drop (n - 1) m.top.begins) → IsCancelled code c ss n
    cancels_at n w some within e l =
        let p = parted_by m.top.function (suc (length c.frames)) (n - 1) m.top.begins ss m.callers m.top.saved (omega (arith, some, within)) in
        let reached : AreReached code m.top.function (p.place ∷ p.others) = subst (AreReached code m.top.function) p.drops (reached_behind code m.top.function (n - 1) m.top.begins (are_reached code m.top.function c.place m.top.begins m.top.reached)) in
        let to = reached.1.0 in
        let stands_at : slice_get code.instructions p.saved.place ≡ Some (Instr.Begin to) = ap (slice_get code.instructions) p.is_saved.at ∙ reached.1.1 in
        let after : after_cancel (effect code (begin_configuration c p.saved)) (begin_configuration c p.saved) ≡ standing to p.saved.registers (drop (suc (length c.frames) - p.saved.frames) c.frames) = ap (λ o. after_cancel (effect_of code (begin_configuration c p.saved) o) (begin_configuration c p.saved)) stands_at in
        let r : IsReached code m.top.function to p.others = to_cancelled code m.top.function c.place m.top.begins p.place to p.others i w m.top.reached at e (l ∙ ap (cancelled_in code) p.drops) reached.1.1 in (
          p.inner,
          p.saved,
          p.rest,
          (let k = p.count in omega (arith, k, some)),
          p.all,
          subst (λ y. MayStand code y p.rest) (sym after) (stands_on_top code m.top.function c.frames p.saved p.rest m.callers m.top.index p.place p.others to m.top.has p.is_saved p.are_saved r m.below m.few),
          subst (λ y. AreRestored c y p.rest) (sym after) (same_on_top c.place to c.registers p.saved.registers c.frames p.saved p.rest p.is_saved.frame),
        )

    pub cancels_by : effect code c ≡ Effect.Cancel → (s : Saved) × (rest : List Saved) × (ss ≡ s ∷ rest) × MayStand code (after_cancel (effect code (begin_configuration c s)) (begin_configuration c s)) rest × AreRestored c (after_cancel (effect code (begin_configuration c s)) (begin_configuration c s)) rest
    cancels_by x =
        let k = cancels_only c (way_of i) (effect_of code c (Some i)) (kind_of code c i) (sym does ∙ x) in
        one_level code c ss (cancels_at 1 Way.Cancels (omega arith) (some_open m.top.begins (asked_by Way.Cancels k)) k refl)

    pub cancels_outer_by : (n : ℕ) → effect code c ≡ Effect.CancelOuter n → IsCancelled code c ss n
    cancels_outer_by n x =
        let k = cancels_outer_only n c (way_of i) (effect_of code c (Some i)) (kind_of code c i) (sym does ∙ x) in
        let levels = levels_written code m.top.function (end_of code m.top.index) n i k written_here in
        cancels_at n (Way.CancelsOuter n) (omega (arith, levels)) (asked_by (Way.CancelsOuter n) k) k refl

    -- the end of a thread: no caller, and no begin of its frame
    pub ends_by : effect code c ≡ Effect.End → m.top.begins ≡ []
    ends_by x = asked_by Way.Ends (ends_only c (way_of i) (effect_of code c (Some i)) (kind_of code c i) (sym does ∙ x))
