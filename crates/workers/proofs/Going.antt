-- What a worker does goes on from what it did.
use Rattle.std.proofs.Common.{◌≡◌, ◌≤◌, ℕ, ◌+◌, List, [], ◌++◌, refl, sym, ap, ◌∙◌, subst, arith, add-zero, append-nil, append_assoc}
use Rattle.atomic_table.specs.Seated.{TableId}
use Rattle.machine.specs.Answered.{StepsHearing}
use Rattle.bytecode.specs.Code.{Configuration}
use Rattle.machine.specs.Worlds.{Part}
use Rattle.machine.proofs.answers.Answering.{replays_on}
use Rattle.bytecode.specs.Code.{Code, effect}
use Rattle.shared_words.specs.Setup.{Setup}
use Rattle.workers.specs.declared.worker.Worker.{Worker}
use Rattle.shared_words.specs.Views.{ViewPart}
use Rattle.workers.specs.Works.{Grows, GoesOnFrom}
use Rattle.workers.specs.Workers.{IsWorkerAt, StepsOn}
use Rattle.workers.specs.inner.Stepping.{CanStep, StepsBy}

begins_on : {A : Type 0} (xs ys zs : List A) → Grows xs ys → Grows ys zs → Grows xs zs
begins_on xs ys zs g h = (g.0 ++ h.0, h.1 ∙ ap (λ l. l ++ h.0) g.1 ∙ append_assoc xs g.0 h.0)

pub goes_nowhere : (code : Code) (p : ViewPart) (now : Part Configuration) → GoesOnFrom code p now p now
goes_nowhere code p now = record { count = 0; more = []; heard = sym (append-nil p.heard); steps = StepsHearing.none; records = ([], sym (append-nil now.records)); floor = (refl, refl); seen = ([], sym (append-nil p.seen)) }

pub goes_further : (code : Code) (p q r : ViewPart) (a b c : Part Configuration) → GoesOnFrom code p a q b → GoesOnFrom code q b r c → GoesOnFrom code p a r c
goes_further code p q r a b c f g = record {
  count = f.count + g.count;
  more = f.more ++ g.more;
  heard = g.heard ∙ ap (λ l. l ++ g.more) f.heard ∙ append_assoc p.heard f.more g.more;
  steps = replays_on (effect code) a.thread b.thread c.thread f.count g.count f.more g.more f.steps g.steps;
  records = begins_on a.records b.records c.records f.records g.records;
  floor = (g.floor.0 ∙ f.floor.0, g.floor.1 ∙ f.floor.1);
  seen = begins_on p.seen q.seen r.seen f.seen g.seen;
}

module _ {A : Type 0} (z : TableId) (key : Setup) where
  pub stays : (a : Worker A) → StepsOn z key a a
  stays a was = (was, goes_nowhere key.code was.1.part was.1.now)

  pub further : (a b c : Worker A) → StepsOn z key a b → StepsOn z key b c → StepsOn z key a c
  further a b c f g was =
      let x = f was in
      let y = g x.0 in
      (y.0, goes_further key.code was.1.part x.0.1.part y.0.1.part was.1.now x.0.1.now y.0.1.now x.1 y.1)

  -- the same by steps that are not yet counted
  pub by_same : (a b : Worker A) → b.number ≡ a.number → b.steps ≡ a.steps → ((steps : ℕ) (was : IsWorkerAt z key steps a) → (is : IsWorkerAt z key steps b) × GoesOnFrom key.code was.1.part was.1.now is.1.part is.1.now) → StepsBy z key 0 a b
  by_same a b number same_steps f = (
    number,
    same_steps,
    λ steps was. subst (λ (n : ℕ). (is : IsWorkerAt z key n b) × GoesOnFrom key.code was.1.part was.1.now is.1.part is.1.now) (sym (add-zero steps)) (f steps was),
  )

  pub by_none : (a : Worker A) → StepsBy z key 0 a a
  by_none a = by_same a a refl refl (λ steps was. (was, goes_nowhere key.code was.1.part was.1.now))

  pub by_more : (m n k : ℕ) (a b c : Worker A) → m + n ≡ k → StepsBy z key m a b → StepsBy z key n b c → StepsBy z key k a c
  by_more m n k a b c e f g = (
    g.0 ∙ f.0,
    g.1 ∙ f.1,
    λ steps was.
        let x = f.2 steps was in
        let y = g.2 (steps + m) x.0 in
        subst (λ (i : ℕ). (is : IsWorkerAt z key i c) × GoesOnFrom key.code was.1.part was.1.now is.1.part is.1.now) (omega (arith, e))
        (y.0, goes_further key.code was.1.part x.0.1.part y.0.1.part was.1.now x.0.1.now y.0.1.now x.1 y.1),
  )

  -- after k of n steps m more can be made
  pub can_after : (n k m : ℕ) (a b : Worker A) → k + m ≤ n → CanStep z key n a → StepsBy z key k a b → CanStep z key m b
  can_after n k m a b few can by = (can.0 + k, (by.2 can.0 can.1).0, let room = can.2 in omega (arith, few, room))

  pub can_fewer : (n m : ℕ) (a : Worker A) → m ≤ n → CanStep z key n a → CanStep z key m a
  can_fewer n m a few can = (can.0, can.1, let room = can.2 in omega (arith, few, room))

  -- once they are counted
  pub counted : (n k : ℕ) (a b : Worker A) → a.steps + n ≡ k → StepsBy z key n a b → (b.number ≡ a.number) × StepsOn z key a (record b { steps = k })
  counted n k a b e f = (
    f.0,
    λ was. subst (λ (i : ℕ). (is : IsWorkerAt z key i b) × GoesOnFrom key.code was.1.part was.1.now is.1.part is.1.now) e (f.2 a.steps was),
  )
