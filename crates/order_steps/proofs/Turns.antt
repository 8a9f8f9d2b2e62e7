-- A turn of a thread that rests is steps of it alone.
use Rattle.std.proofs.Common.{◌≡◌, ◌≢◌, ◌⊎◌, inl, inr, ◌%◌, ℕ, zero, suc, Bool, true, false, List, [], ◌∷◌, Some, refl, sym, ◌∙◌, ap, subst, length, set as slice_set, slice_get}
use Rattle.syntax.specs.Behaviours.{Memory}
use Rattle.syntax.specs.declared.thread_end.Status.{Status}
use Rattle.syntax.specs.declared.thread_end.Status.TheVariants.{Running, Ended as HasEnded, Trapped as HasTrapped}
use Rattle.bytecode.specs.Effects.{Effect, FitsCells}
use Rattle.bytecode.specs.Effects.Effect.{Begin}
use Rattle.bytecode.specs.Sequential.{Sequential, next, outside, outside_step, sequential_step, steps}
use Rattle.machine.specs.Resting.{IsAtBegin, IsThreadAtRest}
use Rattle.machine.specs.Solo.{GoesNoFurther, outside_thread}
use Rattle.machine.specs.Threads.{Thread}
use Rattle.machine.specs.Worlds.{Part, World}
use Rattle.machine.proofs.alone.Alone.{Solo, out_solo, solo, solo_with}
use Rattle.machine.proofs.alone.Beside.{ComesBeside, comes_beside, rests_beside, rests_in_world, solo_of}
use Rattle.machine.proofs.alone.Transaction.{Left, begin_step, begins, begun_solo, ends, found_all, going_at, not_yet}
use Rattle.states.specs.Rests.{Turn}
use Rattle.states.proofs.Resting.{stays_wanting}
use Rattle.order_steps.specs.Resting.{RestsAs}
use Rattle.order_steps.specs.Stepped.{ComesToRest, GetsOn}

module _ {C : Type 0} (code : C → Effect C) where
  -- a meaning that goes no further stays
  pub stays_over : (n : ℕ) (s : Sequential C) → GoesNoFurther s → steps code n s ≡ s
  stays_over n s (inl w) = stays_wanting code n s w
  stays_over n s (inr over) = stopped n s s.status refl over
    where
      same : (st : Status) (s : Sequential C) → s.status ≡ st → ((w : Bool) → sequential_step s w st s.inside (code s.configuration) ≡ s) → next code s ≡ s
      same st s e by = ap (λ x. sequential_step s s.wants x s.inside (code s.configuration)) e ∙ by s.wants

      ended : (s : Sequential C) (w : Bool) → sequential_step s w HasEnded s.inside (code s.configuration) ≡ s
      ended s true = refl
      ended s false = refl

      trapped : (s : Sequential C) (cause : _) (w : Bool) → sequential_step s w (HasTrapped cause) s.inside (code s.configuration) ≡ s
      trapped s cause true = refl
      trapped s cause false = refl

      stopped : (n : ℕ) (s : Sequential C) (st : Status) → s.status ≡ st → s.status ≢ Running → steps code n s ≡ s
      stopped zero s st e over = refl
      stopped (suc n) s Running e over = absurd (over e)
      stopped (suc n) s HasEnded e over = ap (steps code n) (same HasEnded s e (ended s)) ∙ stopped n s HasEnded e over
      stopped (suc n) s (HasTrapped cause) e over = ap (steps code n) (same (HasTrapped cause) s e (trapped s cause)) ∙ stopped n s (HasTrapped cause) e over

  pub at_begin : (c : C) (status : Status) → (status ≡ Running) × ((e : C) × (d : C) × (code c ≡ Begin e d)) → IsAtBegin code c status
  at_begin c status b = record { running = b.0; first = b.1.0; cancelled = b.1.1; begins = b.1.2 }

  -- a thread that rests as the code's does
  pub at_rest : (k : Sequential C) (th : Thread C) → RestsAs code k th → IsThreadAtRest code th
  at_rest k th r = subst (IsThreadAtRest code) (sym r.thread) (record { attempt = refl; begins = λ runs. by runs r.rests.goes_no_further })
    where
      by : k.status ≡ Running → (k.wants ≡ true) ⊎ (k.status ≢ Running) → IsAtBegin code k.configuration k.status
      by runs (inl w) = r.begins w
      by runs (inr over) = absurd (over runs)

  module _ (bounds : List ℕ) (fits : FitsCells code bounds) where
    -- from an outermost begin to where the meaning goes no further
    pub from_begin : (lock : ℕ) (words : List ℕ) → lock % 2 ≡ 0 → length words ≡ length bounds → (n : ℕ) (c : C) (text : List ℕ) (e d : C) → code c ≡ Begin e d
        → GoesNoFurther (steps code n (outside c (words ∷ []) [] text Running)) → Left code bounds fits lock (steps code n (outside c (words ∷ []) [] text Running)) (begun_solo lock words c e text) []
    from_begin lock words even sized zero c text e d ex over = absurd (not_yet code bounds fits over)
    from_begin lock words even sized (suc n) c text e d ex over =
        let o : Sequential C = outside c (words ∷ []) [] text Running in
        subst (λ x. Left code bounds fits lock (steps code n (outside_step o x)) (begun_solo lock words c e text) []) (sym ex)
        (ends code bounds fits lock (steps code n (outside_step o (Begin e d))) (begun_solo lock words c e text) words [] (begins code bounds fits lock words even sized n c text e d ex)
        (subst (λ x. GoesNoFurther (steps code n (outside_step o x))) ex over))

    -- with the words' number
    pub record Got (w : World C) (t : ℕ) (left : Memory) (after : Sequential C) : Type 0 where
      pub comes : ComesToRest code w t left after
      pub sized : length left ≡ length bounds

    module _ (w : World C) (t : ℕ) (p : Part C) (k : Sequential C) (left : Memory) (after : Sequential C) (even : w.lock % 2 ≡ 0) (sized : length w.words ≡ length bounds) (here : slice_get w.parts t ≡ Some p) (rests : RestsAs code k p.thread) (turn : Turn code k w.words left after) where
      abbrev begun : Sequential C
      begun = outside k.configuration (w.words ∷ []) [] k.text Running

      one : (m d : Memory) (ms : List Memory) → m ∷ [] ≡ d ∷ ms → m ≡ d
      one m d ms e = cc

      wanted : k.wants ≡ true → Got w t left after
      wanted wants = record {
        comes = record {
          steps = suc made;
          part = part;
          lock = l.lock;
          world = c.world ∙ ap (λ m. record { lock = l.lock; words = m; parts = slice_set w.parts t part }) (sym is_left);
          rests = rests_as;
          locked = l.moved;
          undropped = c.dropped;
          turn = (
            record { part = p; there = here; running = ap (λ (th : Thread C). th.status) rests.thread ∙ b.running },
            record {
              first = λ m lt r. going_at code made m (begun_solo w.lock w.words k.configuration b.first k.text) l.there.reach.2 lt
                  (subst (λ x. IsThreadAtRest code (solo code m x).thread) second (rests_beside code w t p (suc m) here r));
              rests = rests_in_world code w t p (suc made) end here came (at_rest after end.thread rests_as);
            },
          );
        };
        sized = ap length is_left ∙ l.sized;
      }
        where
          b : IsAtBegin code k.configuration k.status
          b = rests.begins wants

          first : begun ≡ record k { wants = false; founds = w.words ∷ [] }
          first = λ i. record { configuration = k.configuration; inside = sym rests.outside i; founds = w.words ∷ []; lefts = sym rests.rests.left i; text = k.text; status = sym b.running i; wants = false }

          does : steps code turn.made begun ≡ record after { lefts = left ∷ [] }
          does = ap (steps code turn.made) first ∙ turn.does

          l : Left code bounds fits w.lock (steps code turn.made begun) (begun_solo w.lock w.words k.configuration b.first k.text) []
          l = from_begin w.lock w.words even sized turn.made k.configuration k.text b.first b.cancelled b.begins (subst GoesNoFurther (sym does) turn.rests.goes_no_further)

          is : record after { lefts = left ∷ [] } ≡ found_all l.there.c (l.left ∷ []) l.there.text l.there.status l.there.wants
          is = sym does ∙ l.there.meaning

          is_left : left ≡ l.left
          is_left = one left l.left [] (ap (λ (x : Sequential C). x.lefts) is)

          made : ℕ
          made = l.there.reach.0

          end : Solo C
          end = out_solo l.lock l.left l.there.c l.there.text l.there.status

          alone_is : solo_of code w p ≡ out_solo w.lock w.words k.configuration k.text Running
          alone_is = ap (λ th. record { lock = w.lock; words = w.words; thread = th; drops = 0 }) (rests.thread ∙ ap (outside_thread k.configuration k.text) b.running)

          second : solo_with code (code (solo_of code w p).thread.configuration) (solo_of code w p) ≡ begun_solo w.lock w.words k.configuration b.first k.text
          second = ap (λ (x : Solo C). solo_with code (code x.thread.configuration) x) alone_is ∙ begin_step code bounds fits w.lock w.words even sized k.configuration k.text b.first b.cancelled b.begins

          came : solo code (suc made) (solo_of code w p) ≡ end
          came = ap (solo code made) second ∙ l.there.reach.1

          c : ComesBeside code w t (suc made) end
          c = comes_beside code w t p (suc made) end here came

          part : Part C
          part = record { thread = end.thread; base = c.base; records = c.records }

          rests_as : RestsAs code after part.thread
          rests_as = record {
            rests = turn.rests;
            outside = ap (λ (x : Sequential C). x.inside) is;
            begins = λ wants'. at_begin after.configuration after.status
                (subst (λ (x : Sequential C). (x.status ≡ Running) × ((e : C) × (d : C) × (code x.configuration ≡ Begin e d))) (sym is) (l.there.begins (sym (ap (λ (x : Sequential C). x.wants) is) ∙ wants')));
            thread = λ i. outside_thread (sym is i).configuration (sym is i).text (sym is i).status;
          }

      -- a thread that is over leaves no memory
      none_left : k.status ≢ Running → ⊥
      none_left over =
          let s : Sequential C = record k { wants = false; founds = w.words ∷ [] } in
          let e : s ≡ record after { lefts = left ∷ [] } = sym (stays_over turn.made s (inr over)) ∙ turn.does in
          let l : [] ≡ left ∷ [] = sym rests.rests.left ∙ ap (λ (x : Sequential C). x.lefts) e in absurd (cc)

      pub gets_on_sized : Got w t left after
      gets_on_sized = by rests.rests.goes_no_further
        where
          by : GoesNoFurther k → Got w t left after
          by (inl wants) = wanted wants
          by (inr over) = absurd (none_left over)

    pub gets_on : GetsOn code bounds
    gets_on w t p k left after even sized here rests turn = let g = gets_on_sized w t p k left after even sized here rests turn in g.comes
