-- A thread alone, through its next transaction: the steps before it, in it and after it.
use Rattle.std.proofs.Common.{◌≡◌, ◌≢◌, ◌<◌, ◌+◌, ◌%◌, ◌⊎◌, inl, inr, ℕ, zero, suc, Bool, true, false, List, [], ◌∷◌, ◌++◌, refl, sym, ◌∙◌, ap, subst, length, suc-add, zero-add, arith}
use Rattle.std.proofs.lemmas.Bool.{eq-eqb, false≢true}
use Rattle.syntax.specs.Behaviours.{Memory}
use Rattle.syntax.specs.Orders.{last_left}
use Rattle.syntax.specs.declared.thread_end.Status.{Status}
use Rattle.syntax.specs.declared.thread_end.Status.TheVariants.{Running, Ended as HasEnded, Trapped as HasTrapped}
use Rattle.bytecode.specs.Effects.{Effect, FitsCells}
use Rattle.bytecode.specs.Effects.Effect.{Begin, End, Irrevocable, Print, Pure, Traps}
use Rattle.bytecode.specs.Sequential.{Sequential, next, outside, outside_step, steps}
use Rattle.norec_core.specs.declared.step.Phase.TheVariants.{AtOperation}
use Rattle.machine.specs.Resting.{IsThreadAtRest}
use Rattle.machine.specs.Solo.{GoesNoFurther}
use Rattle.machine.specs.inner.Invariant.{inside, inside_of}
use Rattle.machine.proofs.alone.Alone.{AllOpen, Comes, In, IsOpen, Out, Reach, ReachInside, Solo, at_attempt, in_solo, in_step, lock_for, once, out_solo, solo, solo-add, solo_with, then}

-- outside, with no memory left to find
abbrev pub found_all : {C : Type 0} → C → List Memory → List ℕ → Status → Bool → Sequential C
found_all c lefts text status wants = record (outside c [] lefts text status) { wants = wants }

-- a thread behind the step of an outermost begin in c
abbrev pub begun_solo : {C : Type 0} → ℕ → List ℕ → C → C → List ℕ → Solo C
begun_solo lock words c e text = in_solo lock words e text (at_attempt c lock lock [] [] [] false AtOperation)

module _ {C : Type 0} (code : C → Effect C) where
  -- the thread does not rest before any of so many steps
  abbrev pub AllGoOn : ℕ → Solo C → Type 0
  AllGoOn zero s = Unit {0}
  AllGoOn (suc n) s = (IsThreadAtRest code s.thread → ⊥) × AllGoOn n (solo_with code (code s.thread.configuration) s)

  pub going_at : (n m : ℕ) (s : Solo C) → AllGoOn n s → m < n → IsThreadAtRest code (solo code m s).thread → ⊥
  going_at zero m s g lt = absurd (omega (arith, lt))
  going_at (suc n) zero s g lt = g.0
  going_at (suc n) (suc m) s g lt = going_at n m (solo_with code (code s.thread.configuration) s) g.1 (omega (arith, lt))

  -- steps up to where the thread may rest
  abbrev pub Runs : Solo C → Solo C → Type 0
  Runs s r = (n : ℕ) × (solo code n s ≡ r) × AllGoOn n s

  going-add : (n m : ℕ) (s : Solo C) → AllGoOn n s → AllGoOn m (solo code n s) → AllGoOn (n + m) s
  going-add zero m s a b = subst (λ k. AllGoOn k s) (sym (zero-add m)) b
  going-add (suc n) m s a b = subst (λ k. AllGoOn k s) (sym (suc-add n m)) (a.0, going-add n m (solo_with code (code s.thread.configuration) s) a.1 b)

  pub then_on : (s r q : Solo C) → Runs s r → Runs r q → Runs s q
  then_on s r q a b = (a.0 + b.0, solo-add code a.0 b.0 s ∙ ap (solo code b.0) a.1 ∙ b.1, going-add a.0 b.0 s a.2 (subst (AllGoOn b.0) (sym a.1) b.2))

  -- an open attempt is no rest
  open_on : (n : ℕ) (s : Solo C) → AllOpen code n s → AllGoOn n s
  open_on zero s o = tt
  open_on (suc n) s o = (λ r. subst (IsOpen code) r.attempt o.0, open_on n (solo_with code (code s.thread.configuration) s) o.1)

  pub runs_inside : (s r : Solo C) → ReachInside code s r → Runs s r
  runs_inside s r a = (a.0, a.1, open_on a.0 s a.2)

  pub reaches_by : (s r : Solo C) → Runs s r → Reach code s r
  reaches_by s r a = (a.0, a.1)

  abbrev IsNoBegin : Effect C → Type 0
  IsNoBegin (Begin e d) = ⊥
  IsNoBegin x = Unit {0}

  -- one step of an instruction outside that is no begin
  once_on : (lock : ℕ) (words : List ℕ) (c : C) (text : List ℕ) (r : Solo C) (x : Effect C) → code c ≡ x → IsNoBegin x → solo_with code x (out_solo lock words c text Running) ≡ r → Runs (out_solo lock words c text Running) r
  once_on lock words c text r x ex other f =
      (1, ap (λ y. solo_with code y (out_solo lock words c text Running)) ex ∙ f, (λ rest. let b = rest.begins refl in subst IsNoBegin (sym ex ∙ b.begins) other, tt))

  -- where the meaning is outside, the machine's thread is
  pub record There (r : Sequential C) (s : Solo C) (lock : ℕ) (words : List ℕ) (lefts : List Memory) : Type 0 where
    pub c : C
    pub text : List ℕ
    pub status : Status
    pub wants : Bool
    -- what wants a memory is at an outermost begin
    pub begins : wants ≡ true → (status ≡ Running) × ((e : C) × (d : C) × (code c ≡ Begin e d))
    pub reach : Runs s (out_solo lock words c text status)
    pub meaning : r ≡ found_all c lefts text status wants

  ahead : (s q : Solo C) (r : Sequential C) (lock : ℕ) (words : List ℕ) (lefts : List Memory) → Runs s q → There r q lock words lefts → There r s lock words lefts
  ahead s q r lock words lefts g t = record { c = t.c; text = t.text; status = t.status; wants = t.wants; begins = t.begins; reach = then_on s q _ g t.reach; meaning = t.meaning }

  stays_wanting : (n : ℕ) (c : C) (lefts : List Memory) (text : List ℕ) (s : Status) → steps code n (found_all c lefts text s true) ≡ found_all c lefts text s true
  stays_wanting zero c lefts text s = refl
  stays_wanting (suc n) c lefts text s = stays_wanting n c lefts text s

  module _ (lock : ℕ) (words : List ℕ) (lefts : List Memory) where
    abbrev From : ℕ → C → List ℕ → Status → Type 0
    From n c text status = There (steps code n (outside c [] lefts text status)) (out_solo lock words c text status) lock words lefts

    out_by : (n : ℕ) → ((c : C) (text : List ℕ) (status : Status) → From n c text status) → (c : C) (text : List ℕ) (x : Effect C) → code c ≡ x
        → There (steps code n (outside_step (outside c [] lefts text Running) x)) (out_solo lock words c text Running) lock words lefts
    out_by n on c text (Begin e d) ex = record { c = c; text = text; status = Running; wants = true; begins = λ w. (refl, (e, d, ex)); reach = (0, refl, tt); meaning = stays_wanting n c lefts text Running }
    out_by n on c text (Pure e) ex = ahead _ (out_solo lock words e text Running) _ _ _ _ (once_on lock words c text _ (Pure e) ex tt refl) (on e text Running)
    out_by n on c text (Print piece e) ex = ahead _ (out_solo lock words e (text ++ piece) Running) _ _ _ _ (once_on lock words c text _ (Print piece e) ex tt refl) (on e (text ++ piece) Running)
    out_by n on c text (Irrevocable e) ex = ahead _ (out_solo lock words e text Running) _ _ _ _ (once_on lock words c text _ (Irrevocable e) ex tt refl) (on e text Running)
    out_by n on c text (Traps cause) ex = ahead _ (out_solo lock words c text (HasTrapped cause)) _ _ _ _ (once_on lock words c text _ (Traps cause) ex tt refl) (on c text (HasTrapped cause))
    out_by n on c text End ex = ahead _ (out_solo lock words c text HasEnded) _ _ _ _ (once_on lock words c text _ End ex tt refl) (on c text HasEnded)
    out_by n on c text x ex = on c text Running

    -- the steps after the transaction
    pub after : (n : ℕ) (c : C) (text : List ℕ) (status : Status) → From n c text status
    after zero c text status = record { c = c; text = text; status = status; wants = false; begins = λ w. absurd (false≢true w); reach = (0, refl, tt); meaning = refl }
    after (suc n) c text Running = out_by n (after n) c text (code c) refl
    after (suc n) c text HasEnded = after n c text HasEnded
    after (suc n) c text (HasTrapped cause) = after n c text (HasTrapped cause)

  module _ (bounds : List ℕ) (fits : FitsCells code bounds) where
    -- one memory more is left, which the words are
    pub record Left (from : ℕ) (r : Sequential C) (s : Solo C) (lefts : List Memory) : Type 0 where
      pub left : Memory
      pub lock : ℕ
      pub moved : (lock ≡ from) ⊎ (lock ≡ from + 2)
      pub sized : length left ≡ length bounds
      pub there : There r s lock left (lefts ++ left ∷ [])

    pub ahead_left : (from : ℕ) (s q : Solo C) (r : Sequential C) (lefts : List Memory) → Runs s q → Left from r q lefts → Left from r s lefts
    ahead_left from s q r lefts g l = record { left = l.left; lock = l.lock; moved = l.moved; sized = l.sized; there = ahead s q r l.lock l.left (lefts ++ l.left ∷ []) g l.there }

    -- the machine comes to where the meaning is: still inside, or outside again
    abbrev pub Follows : ℕ → Sequential C → Solo C → List ℕ → List Memory → Type 0
    Follows from r s words lefts = ((q : Solo C) × Runs s q × In code bounds fits from r q words [] lefts) ⊎ Left from r s lefts

    pub ahead_follows : (from : ℕ) (s q : Solo C) (r : Sequential C) (words : List ℕ) (lefts : List Memory) → Runs s q → Follows from r q words lefts → Follows from r s words lefts
    ahead_follows from s q r words lefts g (inl i) = inl (i.0, then_on s q i.0 g i.1, i.2)
    ahead_follows from s q r words lefts g (inr l) = inr (ahead_left from s q r lefts g l)

    abbrev pub InsideGoal : ℕ → Type 0
    InsideGoal n = (from : ℕ) (r : Sequential C) (s : Solo C) (words : List ℕ) (lefts : List Memory) → In code bounds fits from r s words [] lefts → Follows from (steps code n r) s words lefts

    in_goes_on : (n : ℕ) → InsideGoal n → InsideGoal (suc n)
    in_goes_on n on from r s words lefts i =
        subst (λ x. Follows from (steps code (suc n) x) s words lefts) (sym i.meaning)
        (subst (λ y. Follows from (steps code n r') y words lefts) (sym i.machine)
        (at (subst (λ v. Comes code bounds fits v r' here words [] lefts) i.began (in_step code bounds fits i.c i.text i.saved i.first i.snapshot i.reads i.writes i.inner words [] lefts i.even i.sized i.distinct i.marks i.kept (code i.c) refl))))
      where
        r' : Sequential C
        r' = next code (inside i.c (inside_of code words i.saved i.writes i.inner i.kept) [] lefts i.text)

        here : Solo C
        here = in_solo (lock_for i.snapshot i.kept) words i.c i.text (at_attempt i.saved i.first i.snapshot i.reads i.writes i.inner i.kept AtOperation)

        at : Comes code bounds fits from r' here words [] lefts → Follows from (steps code n r') here words lefts
        at g = by g.2
          where
            by : In code bounds fits from r' g.0 words [] lefts ⊎ ((left : List ℕ) × Out code bounds fits from r' g.0 left [] (lefts ++ left ∷ [])) → Follows from (steps code n r') here words lefts
            by (inl j) = ahead_follows from here g.0 _ _ _ (runs_inside here g.0 g.1) (on from r' g.0 words lefts j)
            by (inr o) = ahead_follows from here g.0 _ _ _ (runs_inside here g.0 g.1) (inr (record {
              left = o.0;
              lock = o.1.lock;
              moved = o.1.moved;
              sized = o.1.sized;
              there = subst (λ x. There (steps code n x) g.0 o.1.lock o.0 (lefts ++ o.0 ∷ [])) (sym o.1.meaning)
                  (subst (λ y. There (steps code n (outside o.1.c [] (lefts ++ o.0 ∷ []) o.1.text o.1.status)) y o.1.lock o.0 (lefts ++ o.0 ∷ [])) (sym o.1.machine)
                  (after o.1.lock o.0 (lefts ++ o.0 ∷ []) n o.1.c o.1.text o.1.status));
            }))

    -- the steps in the transaction
    pub within : (n : ℕ) → InsideGoal n
    within zero = λ from r s words lefts i. inl (s, (0, refl, tt), i)
    within (suc n) = in_goes_on n (within n)

    pub not_yet : (false ≡ true) ⊎ (Running ≢ Running) → ⊥
    not_yet (inl e) = false≢true e
    not_yet (inr ne) = ne refl

    -- a meaning that goes no further is outside again
    pub ends : (from : ℕ) (r : Sequential C) (s : Solo C) (words : List ℕ) (lefts : List Memory) → Follows from r s words lefts → GoesNoFurther r → Left from r s lefts
    ends from r s words lefts (inl i) over = absurd (not_yet (subst GoesNoFurther i.2.meaning over))
    ends from r s words lefts (inr l) over = l

    -- where the meaning goes no further, over the last memory that it left
    pub record Did (from : ℕ) (words : List ℕ) (r : Sequential C) (s : Solo C) : Type 0 where
      pub lock : ℕ
      pub moved : (lock ≡ from) ⊎ (lock ≡ from + 2)
      pub reach : Reach code s (out_solo lock (last_left words r.lefts) r.configuration r.text r.status)

    ahead_did : (from : ℕ) (words : List ℕ) (s q : Solo C) (r : Sequential C) → Reach code s q → Did from words r q → Did from words r s
    ahead_did from words s q r g d = record { lock = d.lock; moved = d.moved; reach = then code s q _ g d.reach }

    pub left_did : (from : ℕ) (words : List ℕ) (r : Sequential C) (s : Solo C) → Left from r s [] → Did from words r s
    left_did from words r s l = subst (λ x. Did from words x s) (sym l.there.meaning) (record { lock = l.lock; moved = l.moved; reach = reaches_by s _ l.there.reach })

    module _ (lock : ℕ) (words : List ℕ) (even : lock % 2 ≡ 0) (sized : length words ≡ length bounds) where
      pub begin_step : (c : C) (text : List ℕ) (e d : C) → code c ≡ Begin e d → solo_with code (code c) (out_solo lock words c text Running) ≡ begun_solo lock words c e text
      begin_step c text e d ex =
          let one : solo_with code (Begin e d) (out_solo lock words c text Running) ≡ begun_solo lock words c e text = rw (eq-eqb (lock % 2) 0 even) refl in
          ap (λ y. solo_with code y (out_solo lock words c text Running)) ex ∙ one

      -- it finds these words
      pub begins : (n : ℕ) (c : C) (text : List ℕ) (e d : C) → code c ≡ Begin e d
          → Follows lock (steps code n (outside_step (outside c (words ∷ []) [] text Running) (Begin e d))) (begun_solo lock words c e text) words []
      begins n c text e d ex =
          within n lock _ (begun_solo lock words c e text) words [] (record {
            c = e;
            text = text;
            saved = c;
            first = lock;
            snapshot = lock;
            reads = [];
            writes = [];
            inner = [];
            kept = false;
            even = even;
            sized = sized;
            began = refl;
            distinct = tt;
            marks = tt;
            meaning = rw ex refl;
            machine = refl;
          })

      abbrev Alone : ℕ → C → List ℕ → Status → Type 0
      Alone n c text status = GoesNoFurther (steps code n (outside c (words ∷ []) [] text status)) → Did lock words (steps code n (outside c (words ∷ []) [] text status)) (out_solo lock words c text status)

      alone_by : (n : ℕ) → ((c : C) (text : List ℕ) (status : Status) → Alone n c text status) → (c : C) (text : List ℕ) (x : Effect C) → code c ≡ x
          → GoesNoFurther (steps code n (outside_step (outside c (words ∷ []) [] text Running) x)) → Did lock words (steps code n (outside_step (outside c (words ∷ []) [] text Running) x)) (out_solo lock words c text Running)
      alone_by n on c text (Begin e d) ex over = ahead_did _ _ _ (begun_solo lock words c e text) _ (1, begin_step c text e d ex) (left_did _ _ _ _ (ends _ _ _ _ _ (begins n c text e d ex) over))
      alone_by n on c text (Pure e) ex over = ahead_did _ _ _ (out_solo lock words e text Running) _ (once code _ _ (Pure e) ex refl) (on e text Running over)
      alone_by n on c text (Print piece e) ex over = ahead_did _ _ _ (out_solo lock words e (text ++ piece) Running) _ (once code _ _ (Print piece e) ex refl) (on e (text ++ piece) Running over)
      alone_by n on c text (Irrevocable e) ex over = ahead_did _ _ _ (out_solo lock words e text Running) _ (once code _ _ (Irrevocable e) ex refl) (on e text Running over)
      alone_by n on c text (Traps cause) ex over = ahead_did _ _ _ (out_solo lock words c text (HasTrapped cause)) _ (once code _ _ (Traps cause) ex refl) (on c text (HasTrapped cause) over)
      alone_by n on c text End ex over = ahead_did _ _ _ (out_solo lock words c text HasEnded) _ (once code _ _ End ex refl) (on c text HasEnded over)
      alone_by n on c text x ex over = on c text Running over

      -- all of it, where the meaning goes no further
      pub goes_alone : (n : ℕ) (c : C) (text : List ℕ) (status : Status) → Alone n c text status
      goes_alone zero c text status over = record { lock = lock; moved = inl refl; reach = (0, refl) }
      goes_alone (suc n) c text Running over = alone_by n (goes_alone n) c text (code c) refl over
      goes_alone (suc n) c text HasEnded over = goes_alone n c text HasEnded over
      goes_alone (suc n) c text (HasTrapped cause) over = goes_alone n c text (HasTrapped cause) over
