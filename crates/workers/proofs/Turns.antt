-- What a step leaves of a worker.
use Rattle.std.proofs.Common.{◌≡◌, ℕ, suc, ◌+◌, ◌<◌, ◌≤◌, ◌^◌, ◌%◌, Bool, true, false, List, [], ◌∷◌, refl, sym, ap, ◌∙◌, subst, Some, arith, add-one, add-zero, length-append, append-nil}
use Rattle.std.specs.Prelude.{if◌then◌else◌, MatchBool}
use Rattle.norec_core.specs.declared.step.Access.{Access}
use Rattle.norec_core.specs.declared.step.Access.TheVariants.{LoadLock, LoadWord, Local, StoreLock, StoreWord, Swap}
use Rattle.norec_core.specs.declared.step.Answer.{Answer}
use Rattle.norec_core.specs.declared.step.Answer.TheVariants.{Done}
use Rattle.machine.specs.Answered.{Heard, StepsHearing, is_local, local_step, after_local_steps}
use Rattle.bytecode.specs.Code.{Configuration}
use Rattle.machine.specs.Threads.{Thread, access, step_with}
use Rattle.norec_core.specs.Accesses.{IsAnswerTo, cost, stops}
use Rattle.machine.specs.Worlds.{Part, part_after}
use Rattle.machine.specs.NamedCells.{AccessFits, IsMakeable}
use Rattle.machine.proofs.answers.Answering.{added_grows, local_grows, local_is, paused_more, pauses}
use Rattle.machine.proofs.answers.Reached.{swaps_even, within}
use Rattle.machine.proofs.steps.Worlds.{get-set_same}
use Rattle.bytecode.specs.Code.{Code, effect}
use Rattle.bytecode.specs.Beginning.{beginning}
use Rattle.machine.specs.Standing.{IsThreadOf}
use Rattle.bytecode.specs.Initial.{initial_of}
use Rattle.bytecode.specs.Valid.{bounds_of, cells_of}
use Rattle.bytecode.proofs.Fits.{fits_cells}
use Rattle.shared_words.proofs.Codes.{count_bounds, initial_fits}
use Rattle.shared_words.specs.Setup.{Setup, IsPartAfter}
use Rattle.shared_words.specs.inner.Parts.{IsPart}
use Rattle.shared_words.proofs.Traces.{is_part}
use Rattle.shared_words.specs.Rule.{IsNext, IsSeatStep, SeatView, Sits, Took, TookAs, more_heard, reply}
use Rattle.machine.specs.States.{IsWordOf}
use Rattle.workers.specs.Works.{GoesOnFrom, Works}

cost_is : (x : Access) → cost x ≡ (if is_local x then 0 else 1)
cost_is Local = refl
cost_is x = refl

-- an access more can be counted
pub room_for : (x : Access) (count accesses steps : ℕ) → count ≡ accesses → accesses ≤ steps → steps + 1 < 2 ^ 64 → count + cost x < 2 ^ 64
room_for x count accesses steps e f room = let c = at_most_one x in omega arith
  where
    at_most_one : (x : Access) → cost x ≤ 1
    at_most_one Local = omega arith
    at_most_one LoadLock = omega arith
    at_most_one (LoadWord a) = omega arith
    at_most_one (Swap from) = omega arith
    at_most_one (StoreWord a v) = omega arith
    at_most_one (StoreLock n) = omega arith

-- a world with the part as it is now
pub stands_now : (key : Setup) (number k : ℕ) (p now : Part Configuration) (hs : List Heard) → after_local_steps (effect key.code) k p ≡ Some now → IsPart key number p hs → IsPart key number now hs
stands_now key number k p now hs e s = record {
  world = record { lock = s.world.lock; words = s.world.words; parts = Rattle.std.proofs.Common.set s.world.parts number now };
  heard = s.heard;
  answered = pauses (effect key.code) (beginning key.code) (initial_of key.code) key.threads k number p now hs s.world.lock s.world.words s.world.parts s.heard s.answered s.part s.answers e;
  part = get-set_same s.world.parts number now p s.part;
  answers = s.answers;
}

module _ (key : Setup) (number : ℕ) (th : Thread Configuration) (steps accesses : ℕ) (m : SeatView) (works : Works key number th steps accesses m) where
  pub sits_at : Sits key m th
  sits_at = (works.now, (works.part, works.pauses, works.sits, works.setup, works.paused_to), works.thread_is)

  pub now_stands : IsPart key number works.now works.part.heard
  now_stands = stands_now key number works.pauses works.part.part works.now works.part.heard works.paused_to (is_part key works.part.seen number works.part.part works.part.heard works.stands)

  -- the next access can be made
  pub makeable : IsMakeable (cells_of key.code) (access (effect key.code) th)
  makeable =
      let s = now_stands in
      subst (λ (t : Thread Configuration). IsMakeable (cells_of key.code) (access (effect key.code) t)) works.thread_is
      (at (access (effect key.code) works.now.thread) (subst (λ n. AccessFits n (access (effect key.code) works.now.thread)) (count_bounds key.code) (within (effect key.code) (beginning key.code) (bounds_of key.code) (initial_of key.code) (initial_fits key.code) (fits_cells key.code works.valid) key.threads s.world s.heard s.answered number works.now s.part))
      (λ from e. swaps_even (effect key.code) (beginning key.code) (bounds_of key.code) (initial_of key.code) (initial_fits key.code) (fits_cells key.code works.valid) key.threads s.world s.heard s.answered number works.now from s.part e))
    where
      at : (x : Access) → AccessFits (cells_of key.code) x → ((from : ℕ) → x ≡ Swap from → from % 2 ≡ 0) → IsMakeable (cells_of key.code) x
      at Local f even = tt
      at LoadLock f even = tt
      at (LoadWord a) f even = f
      at (Swap from) f even = even from refl
      at (StoreWord a v) f even = f
      at (StoreLock n) f even = tt

  Later : Thread Configuration → ℕ → SeatView → Type 0
  Later t n w = (is : Works key number t (steps + 1) n w) × GoesOnFrom key.code works.part works.now is.part is.now

  -- after a local step
  works_local : is_local (access (effect key.code) th) ≡ true → IsThreadOf key.code (step_with (effect key.code) th Done).thread → Later (step_with (effect key.code) th Done).thread accesses m
  unfolding Later
  works_local far of_code =
      let far_now : is_local (access (effect key.code) works.now.thread) ≡ true = ap (λ (t : Thread Configuration). is_local (access (effect key.code) t)) works.thread_is ∙ far in (
        record {
          part = works.part;
          pauses = suc works.pauses;
          now = local_step (effect key.code) works.now;
          sits = works.sits;
          setup = works.setup;
          number_is = works.number_is;
          paused_to = paused_more (effect key.code) works.pauses works.part.part works.now works.paused_to far_now;
          thread_is = ap (λ (t : Thread Configuration). (step_with (effect key.code) t Done).thread) works.thread_is;
          valid = works.valid;
          of_code = of_code;
          replays = rw add-one (StepsHearing.local_more steps works.part.heard th works.replays far);
          counted = works.counted;
          fewer = (let f = works.fewer in omega arith);
          made = (let f = works.made in omega arith);
          since = works.since;
          stands = works.stands;
        },
        record {
          count = 1;
          more = [];
          heard = sym (append-nil works.part.heard);
          steps = StepsHearing.local_more 0 [] works.now.thread StepsHearing.none far_now;
          records = local_grows (effect key.code) works.now;
          floor = (refl, refl);
          seen = ([], sym (append-nil works.part.seen));
        },
      )

  module _ (n : ℕ) (w : SeatView) (took : Took m n w) (far : is_local (access (effect key.code) th) ≡ false) where
    abbrev a : Answer
    a = reply (access (effect key.code) th) n

    one : TookAs works.part works.pauses works.now (access (effect key.code) th) a w.0
    one =
        let same : works.part.setup.code ≡ key.code = ap (λ (s : Setup). s.code) works.setup in
        let pause : after_local_steps (effect works.part.setup.code) works.pauses works.part.part ≡ Some works.now = subst (λ (c : Code). after_local_steps (effect c) works.pauses works.part.part ≡ Some works.now) (sym same) works.paused_to in
        let access_is : access (effect works.part.setup.code) works.now.thread ≡ access (effect key.code) th = (λ i. access (effect (same i)) (works.thread_is i)) in
        let away : is_local (access (effect works.part.setup.code) works.now.thread) ≡ false = ap is_local access_is ∙ far in
        subst (λ (x : Access). TookAs works.part works.pauses works.now x (reply x n) w.0) access_is (took.1 works.part works.pauses works.now (ap (λ (x : SeatView). x.0) works.sits) pause away)

    works_heard : stops (access (effect key.code) th) ≡ false → IsThreadOf key.code (step_with (effect key.code) th a).thread → Later (step_with (effect key.code) th a).thread (accesses + 1) w
    unfolding Later
    works_heard on of_code =
        let x : Access = access (effect key.code) th in
        let same : works.part.setup ≡ key = works.setup in
        let access_now : access (effect key.code) works.now.thread ≡ access (effect key.code) th = ap (access (effect key.code)) works.thread_is in
        let q : Part Configuration = part_after one.words works.now (step_with (effect key.code) works.now.thread a) in
        let leaves : w.0 ≡ record works.part { part = q; heard = more_heard works.part.heard x a; seen = one.steps; made = works.part.made + suc works.pauses } ∷ [] =
        one.leaves ∙ ap (λ (s : Setup). record works.part { part = part_after one.words works.now (step_with (effect s.code) works.now.thread a); heard = more_heard works.part.heard x a; seen = one.steps; made = works.part.made + suc works.pauses } ∷ []) same in (
          record {
            part = record works.part { part = q; heard = more_heard works.part.heard x a; seen = one.steps; made = works.part.made + suc works.pauses };
            pauses = 0;
            now = q;
            sits = (let s : w.1 ≡ [] = took.0 ∙ ap (λ (x : SeatView). x.1) works.sits in λ i. (leaves i, s i));
            setup = works.setup;
            number_is = works.number_is;
            paused_to = refl;
            thread_is = ap (λ (t : Thread Configuration). (step_with (effect key.code) t a).thread) works.thread_is;
            valid = works.valid;
            of_code = of_code;
            replays = rw add-one (StepsHearing.heard_more steps works.part.heard th a works.replays far on);
            counted = (let c = works.counted in let l = length-append works.part.heard (record { access = x; answer = a } ∷ []) in omega arith);
            fewer = (let f = works.fewer in omega arith);
            made = (let f = works.made in omega arith);
            since = one.since;
            stands = subst (λ (k : ℕ). IsPartAfter key one.steps k q (more_heard works.part.heard x a)) works.number_is
                (subst (λ (s : Setup). IsPartAfter s one.steps works.part.number (part_after one.words works.now (step_with (effect s.code) works.now.thread a)) (more_heard works.part.heard x a)) same one.stands);
          },
          record {
            count = 1;
            more = record { access = x; answer = a } ∷ [];
            heard = refl;
            steps = subst (λ (y : Access). StepsHearing (effect key.code) works.now.thread 1 (record { access = y; answer = a } ∷ []) (step_with (effect key.code) works.now.thread a).thread) access_now
                (StepsHearing.heard_more 0 [] works.now.thread a StepsHearing.none (ap is_local access_now ∙ far) (ap stops access_now ∙ on));
            records = added_grows works.now.records _;
            floor = (refl, refl);
            seen = one.seen;
          },
        )

  -- the answer of a step is of its access, and a loaded word is one of its cell's type
  pub made_fits : (answer : Answer) (w : SeatView) → IsSeatStep (access (effect key.code) th) m answer w → IsAnswerTo (access (effect key.code) th) answer × IsWordOf key.code (access (effect key.code) th) answer
  made_fits answer w made = at (access (effect key.code) th) (is_local (access (effect key.code) th)) refl refl made
    where
      at : (x : Access) (b : Bool) → access (effect key.code) th ≡ x → is_local (access (effect key.code) th) ≡ b → MatchBool b ((w ≡ m) × (answer ≡ Done)) ((n : ℕ) × (answer ≡ reply (access (effect key.code) th) n) × Took m n w)
          → IsAnswerTo (access (effect key.code) th) answer × IsWordOf key.code (access (effect key.code) th) answer
      at x true is far made = subst (λ (y : Access). IsAnswerTo y answer × IsWordOf key.code y answer) (sym (local_is (access (effect key.code) th) far)) (subst (λ (y : Answer). IsAnswerTo Local y × IsWordOf key.code Local y) (sym made.1) (tt, tt))
      at x false is far made =
          let o = one made.0 w made.2 far in
          let word = subst (λ (s : Setup). IsWordOf s.code (access (effect key.code) th) (reply (access (effect key.code) th) made.0)) works.setup o.word in
          subst (λ (y : Answer). IsAnswerTo (access (effect key.code) th) y × IsWordOf key.code (access (effect key.code) th) y) (sym made.1) (o.answers, word)

  -- after a step
  pub steps_on : (answer : Answer) (w : SeatView) → stops (access (effect key.code) th) ≡ false → IsThreadOf key.code (step_with (effect key.code) th answer).thread → IsSeatStep (access (effect key.code) th) m answer w
      → (is : Works key number (step_with (effect key.code) th answer).thread (steps + 1) (accesses + cost (access (effect key.code) th)) w) × GoesOnFrom key.code works.part works.now is.part is.now
  unfolding Later
  steps_on answer w on of_code made =
      subst (λ n. (is : Works key number (step_with (effect key.code) th answer).thread (steps + 1) (accesses + n) w) × GoesOnFrom key.code works.part works.now is.part is.now) (sym (cost_is (access (effect key.code) th)))
      (at (is_local (access (effect key.code) th)) refl made)
    where
      at : (b : Bool) → is_local (access (effect key.code) th) ≡ b → MatchBool b ((w ≡ m) × (answer ≡ Done)) ((n : ℕ) × (answer ≡ reply (access (effect key.code) th) n) × Took m n w)
          → (is : Works key number (step_with (effect key.code) th answer).thread (steps + 1) (accesses + (if b then 0 else 1)) w) × GoesOnFrom key.code works.part works.now is.part is.now
      at true far made =
          subst (λ (z : Answer × SeatView × ℕ). IsThreadOf key.code (step_with (effect key.code) th z.0).thread → (is : Works key number (step_with (effect key.code) th z.0).thread (steps + 1) z.2 z.1) × GoesOnFrom key.code works.part works.now is.part is.now) (λ i. (sym made.1 i, sym made.0 i, sym (add-zero accesses) i)) (works_local far) of_code
      at false far made =
          subst (λ (z : Answer). IsThreadOf key.code (step_with (effect key.code) th z).thread → (is : Works key number (step_with (effect key.code) th z).thread (steps + 1) (accesses + 1) w) × GoesOnFrom key.code works.part works.now is.part is.now) (sym made.1) (works_heard made.0 w made.2 far on) of_code

module _ (key : Setup) (number : ℕ) (th : Thread Configuration) (steps accesses : ℕ) (m : SeatView) (works : Works key number th steps accesses m) (code : Code) (same : key.code ≡ code) where
  -- as the thread's calls say it, of the code that they were given
  module _ (ready : Thread Configuration) (r : ready ≡ th) (x : Access) (x_is : x ≡ access (effect code) th) where
    pub ready_makeable : IsMakeable (cells_of key.code) x
    ready_makeable = subst (IsMakeable (cells_of key.code)) ((λ i. access (effect (same i)) th) ∙ sym x_is) (makeable key number th steps accesses m works)

    is_now : x ≡ access (effect key.code) th
    is_now = x_is ∙ (λ i. access (effect (sym same i)) th)

    pub ready_next : IsNext key m x
    ready_next = (th, sits_at key number th steps accesses m works, sym is_now)

    module _ (answer : Answer) (w : SeatView) (made : IsSeatStep x m answer w) where
      made_it : IsSeatStep (access (effect key.code) th) m answer w
      made_it = subst (λ (y : Access). IsSeatStep y m answer w) is_now made

      pub answer_ready : IsAnswerTo (access (effect code) ready) answer × IsWordOf code (access (effect code) ready) answer
      answer_ready = subst (λ (z : Code × Access). IsAnswerTo z.1 answer × IsWordOf z.0 z.1 answer) (λ i. (same i, access (effect (same i)) (sym r i))) (made_fits key number th steps accesses m works answer w made_it)

      module _ (on : stops x ≡ false) (next : Thread Configuration) (next_is : next ≡ (step_with (effect code) ready answer).thread) (of_code : IsThreadOf code next) (count : ℕ) (count_is : count ≡ accesses + cost (access (effect code) ready)) where
        pub stepped : (is : Works key number next (steps + 1) count w) × GoesOnFrom key.code works.part works.now is.part is.now
        stepped =
            let e : next ≡ (step_with (effect key.code) th answer).thread = next_is ∙ (λ i. (step_with (effect (sym same i)) (r i) answer).thread) in
            let y : access (effect key.code) th ≡ x = (λ i. access (effect (same i)) th) ∙ sym x_is in
            let cnt : accesses + cost (access (effect key.code) th) ≡ count = (λ i. accesses + cost (access (effect (same i)) (sym r i))) ∙ sym count_is in
            subst (λ (z : Thread Configuration × ℕ). (is : Works key number z.0 (steps + 1) z.1 w) × GoesOnFrom key.code works.part works.now is.part is.now) (λ i. (sym e i, cnt i))
            (steps_on key number th steps accesses m works answer w (ap stops y ∙ on) (subst (λ (z : Code × Thread Configuration). IsThreadOf z.0 z.1) (λ i. (sym same i, e i)) of_code) made_it)

  -- a step that was not made
  module _ (ready : Thread Configuration) (r : ready ≡ th) (count : ℕ) (n : count ≡ accesses) where
    pub not_stepped : (is : Works key number ready steps count m) × GoesOnFrom key.code works.part works.now is.part is.now
    not_stepped = subst (λ (z : Thread Configuration × ℕ). (is : Works key number z.0 steps z.1 m) × GoesOnFrom key.code works.part works.now is.part is.now) (λ i. (sym r i, sym n i))
        (works, record { count = 0; more = []; heard = sym (append-nil works.part.heard); steps = StepsHearing.none; records = ([], sym (append-nil works.now.records)); floor = (refl, refl); seen = ([], sym (append-nil works.part.seen)) })
