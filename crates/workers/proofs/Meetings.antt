-- Two workers meet.
use Rattle.std.proofs.Common.{◌≡◌, ℕ, ◌+◌, List, [], ◌∷◌, Some, refl, sym, ap, ◌∙◌, subst, arith}
use Rattle.bytecode.specs.Code.{Configuration, effect}
use Rattle.machine.specs.Answered.{after_local_steps}
use Rattle.machine.specs.Worlds.{Part}
use Rattle.shared_words.proofs.Traces.{begins_on}
use Rattle.machine.specs.Threads.{Thread}
use Rattle.shared_words.specs.Setup.{IsPrefix, Setup, IsPartAfter}
use Rattle.shared_words.specs.Views.{ViewPart, with_floor}
use Rattle.shared_words.specs.Rule.{MayBeFloor, MeetsBoth, SeatView, Settled, SitsAfter}
use Rattle.workers.specs.Works.{MeetsAt, Works, settled}
use Rattle.shared_words.proofs.Parts.{none_since}

works_at : (key : Setup) (number : ℕ) (th : Thread Configuration) (steps accesses n : ℕ) (ts : List ℕ) (m w : SeatView) (works : Works key number th steps accesses m) → w ≡ (with_floor n ts works.part ∷ [], []) → IsPartAfter works.part.setup ts works.part.number works.part.part works.part.heard → (is : Works key number th steps accesses w) × (is.part ≡ with_floor n ts works.part) × (is.now ≡ works.now)
works_at key number th steps accesses n ts m w works e there = (
  record {
    part = with_floor n ts works.part;
    pauses = works.pauses;
    now = works.now;
    sits = e;
    setup = works.setup;
    number_is = works.number_is;
    paused_to = works.paused_to;
    thread_is = works.thread_is;
    valid = works.valid;
    of_code = works.of_code;
    replays = works.replays;
    counted = works.counted;
    fewer = works.fewer;
    made = works.made;
    since = none_since n works.part.heard;
    stands = subst (λ (z : Setup × ℕ). IsPartAfter z.0 ts z.1 works.part.part works.part.heard) (λ i. (works.setup i, works.number_is i)) there;
  },
  refl,
  refl,
)

-- the thread's last local steps are brought into the list
settle_at : (key : Setup) (number : ℕ) (th : Thread Configuration) (steps accesses : ℕ) (m w : SeatView) (works : Works key number th steps accesses m) → Settled steps m w
    → (is : Works key number th steps accesses w) × (s : List ℕ) × (is.part ≡ record works.part { part = works.now; seen = s; made = works.part.made + works.pauses }) × (is.now ≡ works.now) × IsPrefix works.part.seen s
settle_at key number th steps accesses m w works done =
    let pause : after_local_steps (effect works.part.setup.code) works.pauses works.part.part ≡ Some works.now = subst (λ (s : Setup). after_local_steps (effect s.code) works.pauses works.part.part ≡ Some works.now) (sym works.setup) works.paused_to in
    let did = done.1 works.part works.pauses works.now (ap (λ (x : SeatView). x.0) works.sits) pause works.made in
    let none : w.1 ≡ [] = done.0 ∙ ap (λ (x : SeatView). x.1) works.sits in (
      record {
        part = record works.part { part = works.now; seen = did.steps; made = works.part.made + works.pauses };
        pauses = 0;
        now = works.now;
        sits = (λ i. (did.leaves i, none i));
        setup = works.setup;
        number_is = works.number_is;
        paused_to = refl;
        thread_is = works.thread_is;
        valid = works.valid;
        of_code = works.of_code;
        replays = works.replays;
        counted = works.counted;
        fewer = works.fewer;
        made = (let f = works.made in omega (arith, f));
        since = works.since;
        stands = subst (λ (z : Setup × ℕ). IsPartAfter z.0 did.steps z.1 works.now works.part.heard) (λ i. (works.setup i, works.number_is i)) did.stands;
      },
      did.steps,
      refl,
      refl,
      did.seen,
    )

pub sits_after : (key : Setup) (number : ℕ) (th : Thread Configuration) (steps accesses : ℕ) (m : SeatView) → Works key number th steps accesses m → SitsAfter key m steps
sits_after key number th steps accesses m works = (works.part, works.pauses, works.now, works.sits, works.setup, works.paused_to, works.made)

-- a floor of the settled part is one of the part
from_before : (n : ℕ) (ts s : List ℕ) (p : ViewPart) (now : Part Configuration) (all : ℕ) → IsPrefix p.seen s → MayBeFloor n ts (record p { part = now; seen = s; made = all }) → MayBeFloor n ts (settled p now all)
from_before n ts s p now all b f = record { locks = f.locks; below = f.below; floor = f.floor; lock = f.lock; seen = begins_on p.seen s ts b f.seen; stands = f.stands }

module _ (n : ℕ) (m o m1 o1 m' o' : SeatView) (met : MeetsBoth n m1 o1 m' o') (key : Setup) (number number' : ℕ) (th th' : Thread Configuration) (steps steps' accesses accesses' : ℕ)
    (mine : Works key number th steps accesses m) (theirs : Works key number' th' steps' accesses' o) (first : Settled steps m m1) (second : Settled steps' o o1) where
  met_at : (number : ℕ) (th : Thread Configuration) (steps accesses : ℕ) (m m1 m' : SeatView) (works : Works key number th steps accesses m) (done : Settled steps m m1) → ((p : ViewPart) → m1 ≡ (p ∷ [], []) → (m' ≡ (with_floor n met.0 p ∷ [], [])) × MayBeFloor n met.0 p)
      → (is : Works key number th steps accesses m') × MeetsAt n met.0 works.part works.now is.part is.now
  met_at number th steps accesses m m1 m' works done floors =
      let s = settle_at key number th steps accesses m m1 works done in
      let f = floors s.0.part s.0.sits in
      let x = works_at key number th steps accesses n met.0 m1 m' s.0 f.0 f.1.stands in
      let part : x.0.part ≡ with_floor n met.0 (settled works.part works.now (works.part.made + works.pauses)) = x.1 ∙ ap (with_floor n met.0) s.2 in
      let all : x.0.part.made ≡ works.part.made + works.pauses = ap (λ (p : ViewPart). p.made) part in (
        x.0,
        record {
          part = part ∙ ap (λ (k : ℕ). with_floor n met.0 (settled works.part works.now k)) (sym all);
          same = x.2 ∙ s.3;
          may_be_floor = subst (λ (k : ℕ). MayBeFloor n met.0 (settled works.part works.now k)) (sym all)
              (from_before n met.0 s.1 works.part works.now (works.part.made + works.pauses) s.4 (subst (MayBeFloor n met.0) s.2 f.1));
        },
      )

  abbrev mine_set : Works key number th steps accesses m1
  mine_set = (settle_at key number th steps accesses m m1 mine first).0

  abbrev theirs_set : Works key number' th' steps' accesses' o1
  theirs_set = (settle_at key number' th' steps' accesses' o o1 theirs second).0

  pub meets_mine : (is : Works key number th steps accesses m') × MeetsAt n met.0 mine.part mine.now is.part is.now
  meets_mine = met_at number th steps accesses m m1 m' mine first (λ p e. (met.1 p theirs_set.part e theirs_set.sits).0)

  pub meets_theirs : (is : Works key number' th' steps' accesses' o') × MeetsAt n met.0 theirs.part theirs.now is.part is.now
  meets_theirs = met_at number' th' steps' accesses' o o1 o' theirs second (λ p e. (met.1 mine_set.part p mine_set.sits e).1)
