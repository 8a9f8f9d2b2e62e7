-- Each access keeps the rule.
use Rattle.std.proofs.Common.{◌≡◌, ◌≢◌, ℕ, suc, ◌++◌, replicate, ◌+◌, ◌≤◌, ◌==◌, Bool, true, false, List, [], ◌∷◌, get_or, drop, length, set, refl, sym, ap, ◌∙◌, subst, Some, arith, add-one, inl, ⊎_elim}
use Rattle.std.specs.Prelude.{if◌then◌else◌, nat_lt}
use Rattle.std.proofs.lemmas.List.{set-get_or}
use mathlib.Core.Option.{some}
use lib.ListN.{get_elem?}
use prog.Atomic.{either}
use Rattle.atomic_table.specs.Table.{keeps, Allows}
use Rattle.atomic_table.proofs.Lists.{at_set}
use Rattle.norec_core.specs.declared.step.Access.{Access}
use Rattle.norec_core.specs.declared.step.Access.TheVariants.{LoadLock, LoadWord, Swap, StoreWord, StoreLock}
use Rattle.norec_core.specs.declared.step.Answer.{Answer}
use Rattle.machine.specs.Answered.{Heard, LocksFrom, is_local, after_local_steps}
use Rattle.bytecode.specs.Code.{Configuration}
use Rattle.machine.specs.NamedCells.{AccessFits}
use Rattle.machine.specs.States.{IsWordOf}
use Rattle.machine.specs.Threads.{Thread, access, step_with}
use Rattle.norec_core.specs.Accesses.{stops}
use Rattle.machine.specs.Worlds.{Part, World, answer, lock_after, part_after, words_after}
use Rattle.machine.proofs.answers.Answering.{after_step, paused_once, pauses}
use Rattle.machine.proofs.answers.Hearing.{lock_value_is}
use Rattle.machine.proofs.answers.Reached.{lock_grows, memory, within}
use Rattle.machine.proofs.steps.Worlds.{get-set_other, get-set_same}
use Rattle.bytecode.specs.Code.{effect}
use Rattle.bytecode.specs.Beginning.{beginning}
use Rattle.bytecode.specs.Initial.{initial_of}
use Rattle.bytecode.specs.Valid.{bounds_of}
use Rattle.bytecode.proofs.Fits.{fits_cells}
use Rattle.machine.proofs.answers.Hearing.{answer_fits}
use Rattle.shared_words.proofs.Codes.{initial_fits, word_fits}
use Rattle.shared_words.specs.Setup.{IsPartAfter, IsPrefix, IsTraceOf, Setup}
use Rattle.shared_words.proofs.Traces.{begins_on, begins_self, counted_once, ruled_world, stands_here, turns_begin}
use Rattle.shared_words.proofs.Traces as traces
use Rattle.shared_words.specs.Views.{Among, ViewPart, Views, parts_in, parts_of}
use Rattle.shared_words.specs.Rule.{Fits, IsRuled, SeatView, Sits, Took, TookAs, more_heard, reply}
use Rattle.shared_words.proofs.Parts.{LocksFrom-more, among_one, counted, parts_in-set, parts_in-two}

-- another seat's parts are of other threads
pub apart : (views : Views) (seat other : ℕ) (v w : List ViewPart) (p q : ViewPart) → ((number : ℕ) → parts_in number views ≤ 1) → other ≢ seat → get_elem? views seat ≡ some v → get_elem? views other ≡ some w → Among p v → Among q w → q.number ≢ p.number
apart views seat other v w p q once ne e f a b same =
    let one = once p.number in
    let two = parts_in-two p.number views seat other v w ne e f in
    let c = counted p v a in
    let d : 1 ≤ parts_of p.number w = subst (λ (n : ℕ). 1 ≤ parts_of n w) same (counted q w b) in absurd (omega arith)

pub at_most_one : (b : Bool) (n : ℕ) → n ≡ (if b then 1 else 0) → n ≤ 1
at_most_one true n e = omega arith
at_most_one false n e = omega arith

module _ (key : Setup) where
  module _ (words : List ℕ) (views : Views) (rule : IsRuled key words views) (id : ℕ) (p : ViewPart) (at : get_elem? views id ≡ some (p ∷ [])) (k : ℕ) (now : Part Configuration) (x : Access) (pause : after_local_steps (effect key.code) k p.part ≡ Some now) (is : access (effect key.code) now.thread ≡ x) (far : is_local x ≡ false) (on : stops x ≡ false) where
    abbrev w : World Configuration
    w = rule.world

    abbrev a : Answer
    a = answer rule.world.lock rule.world.words x

    -- the thread's part after the access
    abbrev q : Part Configuration
    q = part_after rule.world.words now (step_with (effect key.code) now.thread (answer rule.world.lock rule.world.words x))

    -- and the seat's
    abbrev u : ViewPart
    u = record p { part = q; heard = more_heard p.heard x a; seen = (rule.trace ++ replicate k p.number) ++ p.number ∷ []; made = p.made + suc k }

    -- the steps made by then
    abbrev made : List ℕ
    made = (rule.trace ++ replicate k p.number) ++ p.number ∷ []

    mine : Fits key rule.trace w rule.heard p
    mine = rule.fits id (p ∷ []) p at (inl refl)

    turned : IsTraceOf key made (after_step (effect key.code) w p.number now x) (set rule.heard p.number (more_heard p.heard x a))
    turned = traces.turns key rule.trace k p.number p.part now p.heard w rule.heard x rule.is_trace mine.part mine.answers pause is far on

    longer : IsPrefix rule.trace made
    longer = turns_begin key rule.trace k p.number

    grows : rule.world.lock ≤ lock_after rule.world.lock x
    grows =
        let r = pauses (effect key.code) (beginning key.code) (initial_of key.code) key.threads k p.number p.part now p.heard w.lock w.words w.parts rule.heard (ruled_world key words views rule) mine.part mine.answers pause in
        subst (λ (y : Access). rule.world.lock ≤ lock_after rule.world.lock y) is
        (lock_grows (effect key.code) (beginning key.code) (bounds_of key.code) (initial_of key.code) (initial_fits key.code) (fits_cells key.code rule.valid) key.threads _ rule.heard r p.number now (get-set_same w.parts p.number now p.part mine.part))

    names_cell : AccessFits (length (bounds_of key.code)) x
    names_cell =
        let r = pauses (effect key.code) (beginning key.code) (initial_of key.code) key.threads k p.number p.part now p.heard w.lock w.words w.parts rule.heard (ruled_world key words views rule) mine.part mine.answers pause in
        subst (AccessFits (length (bounds_of key.code))) is
        (within (effect key.code) (beginning key.code) (bounds_of key.code) (initial_of key.code) (initial_fits key.code) (fits_cells key.code rule.valid) key.threads _ rule.heard r p.number now (get-set_same w.parts p.number now p.part mine.part))

    since_after : LocksFrom p.floor (drop p.floor_at (more_heard p.heard x a))
    since_after = LocksFrom-more p.floor p.floor_at p.heard (record { access = x; answer = a }) mine.since (λ l v. let s = lock_value_is x rule.world.lock rule.world.words l v in let m = mine.floor in omega arith)

    abbrev after : World Configuration
    after = after_step (effect key.code) rule.world p.number now x

    abbrev heard_after : List (List Heard)
    heard_after = set rule.heard p.number (more_heard p.heard x a)

    stands_after : IsPartAfter key made p.number q (more_heard p.heard x a)
    stands_after = stands_here key made after heard_after p.number q (more_heard p.heard x a) turned (get-set_same w.parts p.number q p.part mine.part) (get-set_same rule.heard p.number (more_heard p.heard x a) p.heard mine.answers)

    once : (number : ℕ) → parts_in number views ≤ 1
    once number = at_most_one (nat_lt number key.threads) (parts_in number views) (rule.once number)

    fits_after : (seat : ℕ) (view : List ViewPart) (r : ViewPart) → get_elem? (set views id (u ∷ [])) seat ≡ some view → Among r view → Fits key made after heard_after r
    fits_after seat view r e among = ⊎_elim
        (λ (h : (seat ≡ id) × ((u ∷ []) ≡ view)).
        let same : r ≡ u = among_one u r (subst (Among r) (sym h.1) among) in
        subst (Fits key made after heard_after) (sym same) (record {
          setup = mine.setup;
          part = get-set_same w.parts p.number q p.part mine.part;
          answers = get-set_same rule.heard p.number (more_heard p.heard x a) p.heard mine.answers;
          floor = (let m = mine.floor in let g = grows in omega arith);
          since = since_after;
          seen = begins_self made;
          stands = stands_after;
        }))
        (λ (h : (seat ≢ id) × (get_elem? views seat ≡ some view)).
        let old = rule.fits seat view r h.1 among in
        let other = apart views id seat (p ∷ []) view p r once h.0 at h.1 (inl refl) among in
        record {
          setup = old.setup;
          part = get-set_other w.parts p.number r.number q other ∙ old.part;
          answers = get-set_other rule.heard p.number r.number (more_heard p.heard x a) other ∙ old.answers;
          floor = (let m = old.floor in let g = grows in omega arith);
          since = old.since;
          seen = begins_on r.seen rule.trace made old.seen longer;
          stands = old.stands;
        })
        (at_set views id seat (u ∷ []) view e)

    pub ruled_after : IsRuled key (lock_after rule.world.lock x ∷ words_after rule.world.words x) (set views id (u ∷ []))
    ruled_after = record {
      trace = made;
      world = after;
      heard = heard_after;
      words_are = refl;
      valid = rule.valid;
      is_trace = turned;
      once = λ number. let c = parts_in-set number views id (p ∷ []) (u ∷ []) at in (omega arith) ∙ rule.once number;
      fits = fits_after;
    }

    pub took_as : p.setup ≡ key → TookAs p k now x a (u ∷ [])
    took_as same = record {
      words = rule.world.words;
      steps = made;
      leaves = ap (λ (s : Setup). record p { part = part_after rule.world.words now (step_with (effect s.code) now.thread a); heard = more_heard p.heard x a; seen = made; made = p.made + suc k } ∷ []) (sym same);
      answers = answer_fits x rule.world.lock rule.world.words;
      word = subst (λ (s : Setup). IsWordOf s.code x a) (sym same)
          (word_fits key.code x rule.world.lock rule.world.words names_cell (memory (effect key.code) (beginning key.code) (bounds_of key.code) (initial_of key.code) (initial_fits key.code) (fits_cells key.code rule.valid) key.threads rule.world rule.heard (ruled_world key words views rule)));
      since = since_after;
      seen = begins_on p.seen rule.trace made mine.seen longer;
      stands = subst (λ (s : Setup). IsPartAfter s made p.number (part_after rule.world.words now (step_with (effect s.code) now.thread a)) (more_heard p.heard x a)) (sym same) stands_after;
    }

  -- What the table makes of the words, as the world does
  abbrev Agrees : Access → ℕ → (ℕ → ℕ) → (ℕ → ℕ) → Type 0
  Agrees x i f g =
      (lock : ℕ) (words : List ℕ) → (set (lock ∷ words) i (f (get_or (lock ∷ words) i 0)) ≡ lock_after lock x ∷ words_after words x) × (reply x (g (get_or (lock ∷ words) i 0)) ≡ answer lock words x)

  module _ (x : Access) (i : ℕ) (f g : ℕ → ℕ) (agrees : Agrees x i f g) (far : is_local x ≡ false) (on : stops x ≡ false) where
    module _ (words : List ℕ) (views : Views) (rule : IsRuled key words views) (id : ℕ) (p : ViewPart) (at : get_elem? views id ≡ some (p ∷ [])) (k : ℕ) (now : Part Configuration) (same : p.setup ≡ key) (pause : after_local_steps (effect key.code) k p.part ≡ Some now) (is : access (effect key.code) now.thread ≡ x) (n : ℕ) (found : n ≡ g (get_or words i 0)) where
      abbrev left : List ViewPart
      left = u words views rule id p at k now x pause is far on ∷ []

      told_is : reply x n ≡ answer rule.world.lock rule.world.words x
      told_is = ap (reply x) (found ∙ ap (λ (ws : List ℕ). g (get_or ws i 0)) rule.words_are) ∙ (agrees rule.world.lock rule.world.words).1

      took_so : TookAs p k now x (reply x n) left
      took_so = subst (λ (y : Answer). TookAs p k now x y left) (sym told_is) (took_as words views rule id p at k now x pause is far on same)

      took_one : (j : ℕ) (other : Part Configuration) → after_local_steps (effect p.setup.code) j p.part ≡ Some other → is_local (access (effect p.setup.code) other.thread) ≡ false → TookAs p j other (access (effect p.setup.code) other.thread) (reply (access (effect p.setup.code) other.thread) n) left
      took_one j other ps away =
          let ps' : after_local_steps (effect key.code) j p.part ≡ Some other = subst (λ (s : Setup). after_local_steps (effect s.code) j p.part ≡ Some other) same ps in
          let away' : is_local (access (effect key.code) other.thread) ≡ false = subst (λ (s : Setup). is_local (access (effect s.code) other.thread) ≡ false) same away in
          let one : now ≡ other = paused_once (effect key.code) k j p.part now other pause ps' (ap is_local is ∙ far) away' in
          let count : k ≡ j = counted_once (effect key.code) k j p.part now other pause ps' (ap is_local is ∙ far) away' in
          let x' : x ≡ access (effect p.setup.code) other.thread = sym is ∙ (λ i. access (effect (sym same i).code) (one i).thread) in
          subst (λ (z : ℕ × Part Configuration × Access). TookAs p z.0 z.1 z.2 (reply z.2 n) left) (λ i. (count i, one i, x' i)) took_so

      took : (me : SeatView) → me.0 ≡ p ∷ [] → Took me n (left, me.1)
      took me mine = (
        refl,
        λ r j other mine' ps away.
            let same_part : p ≡ r = (let e : (p ∷ []) ≡ (r ∷ []) = sym mine ∙ mine' in cc) in
            subst (λ (r : ViewPart). (j : ℕ) (other : Part Configuration) → after_local_steps (effect r.setup.code) j r.part ≡ Some other → is_local (access (effect r.setup.code) other.thread) ≡ false → TookAs r j other (access (effect r.setup.code) other.thread) (reply (access (effect r.setup.code) other.thread) n) left)
            same_part took_one j other ps away,
      )

    pub access_keeps : (slots id : ℕ) (me : SeatView) (th : Thread Configuration) → Sits key me th → access (effect key.code) th ≡ x → Allows (λ s. IsRuled key s.words s.views) slots id me i f (λ n w. Took me (g n) w)
    access_keeps slots id me th sits is s rule _ at _ =
        let now = sits.0 in
        let p = sits.1.0 in
        let k = sits.1.1 in
        let mine : me.0 ≡ p ∷ [] = ap (λ (m : SeatView). m.0) sits.1.2 in
        let here = at ∙ ap some mine in
        let pause = sits.1.4 in
        let is' : access (effect key.code) now.thread ≡ x = ap (access (effect key.code)) sits.2 ∙ is in
        let words : set s.words i (f (get_or s.words i 0)) ≡ lock_after rule.world.lock x ∷ words_after rule.world.words x = ap (λ (ws : List ℕ). set ws i (f (get_or ws i 0))) rule.words_are ∙ (agrees rule.world.lock rule.world.words).0 in (
          u s.words s.views rule id p here k now x pause is' far on ∷ [],
          keeps,
          tt,
          subst (λ (ws : List ℕ). IsRuled key ws (set s.views id (u s.words s.views rule id p here k now x pause is' far on ∷ []))) (sym words) (ruled_after s.words s.views rule id p here k now x pause is' far on),
          took s.words s.views rule id p here k now sits.1.3 pause is' (g (get_or s.words i 0)) refl me mine,
        )

  -- the kinds of access
  pub loads_lock : (slots id : ℕ) (me : SeatView) (th : Thread Configuration) → Sits key me th → access (effect key.code) th ≡ LoadLock → Allows (λ s. IsRuled key s.words s.views) slots id me 0 (λ n. n) (Took me)
  loads_lock = access_keeps LoadLock 0 (λ n. n) (λ n. n) (λ lock words. (refl, refl)) refl refl

  pub loads_word : (a slots id : ℕ) (me : SeatView) (th : Thread Configuration) → Sits key me th → access (effect key.code) th ≡ LoadWord a → Allows (λ s. IsRuled key s.words s.views) slots id me (a + 1) (λ n. n) (Took me)
  loads_word a = rw add-one (access_keeps (LoadWord a) (suc a) (λ n. n) (λ n. n) (λ lock words. (ap (λ (l : List ℕ). lock ∷ l) (set-get_or words a 0), refl)) refl refl)

  pub swaps : (from slots id : ℕ) (me : SeatView) (th : Thread Configuration) → Sits key me th → (access (effect key.code) th ≡ Swap from) × (stops (Swap from) ≡ false) → Allows (λ s. IsRuled key s.words s.views) slots id me 0 (λ n. either (n == from) (from + 1) n) (Took me)
  swaps from slots id me th sits is = access_keeps (Swap from) 0 (λ n. either (n == from) (from + 1) n) (λ n. n) (λ lock words. (swapped lock (lock == from) words, refl)) refl is.1 slots id me th sits is.0
    where
      swapped : (lock : ℕ) (b : Bool) (words : List ℕ) → either b (from + 1) lock ∷ words ≡ (if b then from + 1 else lock) ∷ words
      swapped lock true words = refl
      swapped lock false words = refl

  pub stores_word : (a v slots id : ℕ) (me : SeatView) (th : Thread Configuration) → Sits key me th → access (effect key.code) th ≡ StoreWord a v → Allows (λ s. IsRuled key s.words s.views) slots id me (a + 1) (λ _. v) (λ _. Took me v)
  stores_word a v = rw add-one (access_keeps (StoreWord a v) (suc a) (λ _. v) (λ _. v) (λ lock words. (refl, refl)) refl refl)

  pub stores_lock : (n slots id : ℕ) (me : SeatView) (th : Thread Configuration) → Sits key me th → access (effect key.code) th ≡ StoreLock n → Allows (λ s. IsRuled key s.words s.views) slots id me 0 (λ _. n) (λ _. Took me n)
  stores_lock n = access_keeps (StoreLock n) 0 (λ _. n) (λ _. n) (λ lock words. (refl, refl)) refl refl
