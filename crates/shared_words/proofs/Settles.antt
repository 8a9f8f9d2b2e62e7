-- A seat brings its thread's last local steps into the list.
use Rattle.std.proofs.Common.{◌≡◌, ◌≢◌, ℕ, ◌+◌, ◌==◌, true, false, List, [], ◌∷◌, ◌++◌, get_or, replicate, set, refl, sym, ap, ◌∙◌, subst, Some, arith, ◌⊎◌, ◌≤◌, inl, inr, ⊎_elim}
use Rattle.std.specs.Prelude.{nat_lt}
use Rattle.std.proofs.lemmas.Bool.Decides.{eqb_tells}
use Rattle.std.proofs.lemmas.List.{set-get_or}
use mathlib.Core.Option.{some}
use lib.ListN.{get_elem?}
use prog.Atomic.{either}
use Rattle.atomic_table.specs.Table.{keeps, Allows}
use Rattle.atomic_table.proofs.Lists.{at_set}
use Rattle.bytecode.specs.Code.{Configuration, effect}
use Rattle.machine.specs.Answered.{after_local_steps}
use Rattle.machine.specs.Worlds.{Part, World}
use Rattle.machine.proofs.steps.Worlds.{get-set_other, get-set_same}
use Rattle.shared_words.specs.Setup.{IsPartAfter, IsPrefix, IsTraceOf, Setup}
use Rattle.shared_words.specs.Views.{Among, ViewPart, Views, parts_in}
use Rattle.shared_words.specs.Rule.{Fits, IsRuled, SeatView, Settled, SettledAs, SitsAfter}
use Rattle.shared_words.proofs.Keeps.{apart, at_most_one}
use Rattle.shared_words.proofs.Parts.{among_one, parts_in-set}
use Rattle.shared_words.proofs.Traces.{begins_on, begins_self, stands_here}
use Rattle.shared_words.proofs.Traces as traces

-- a swap of a value for itself leaves the word
unchanged : (n a : ℕ) → either (n == a) a n ≡ n
unchanged n a = at (eqb_tells n a)
  where
    at : (((n == a) ≡ true) × (n ≡ a)) ⊎ (((n == a) ≡ false) × (n ≢ a)) → either (n == a) a n ≡ n
    at (inl f) = rw f.0 (sym f.1)
    at (inr f) = rw f.0 refl

module _ (key : Setup) (words : List ℕ) (views : Views) (rule : IsRuled key words views) (id : ℕ) (p : ViewPart) (at : get_elem? views id ≡ some (p ∷ [])) (k : ℕ) (now : Part Configuration) (pause : after_local_steps (effect key.code) k p.part ≡ Some now) where
  abbrev longer : List ℕ
  longer = rule.trace ++ replicate k p.number

  abbrev after : World Configuration
  after = record { lock = rule.world.lock; words = rule.world.words; parts = set rule.world.parts p.number now }

  abbrev u : ViewPart
  u = record p { part = now; seen = rule.trace ++ replicate k p.number; made = p.made + k }

  mine : Fits key rule.trace rule.world rule.heard p
  mine = rule.fits id (p ∷ []) p at (inl refl)

  there : IsTraceOf key longer after rule.heard
  there = traces.pauses key k rule.trace p.number p.part now p.heard rule.world.lock rule.world.words rule.world.parts rule.heard rule.is_trace mine.part mine.answers pause

  begins : IsPrefix rule.trace longer
  begins = (replicate k p.number, refl)

  stands : IsPartAfter key longer p.number now p.heard
  stands = stands_here key longer after rule.heard p.number now p.heard there (get-set_same rule.world.parts p.number now p.part mine.part) mine.answers

  once : (number : ℕ) → parts_in number views ≤ 1
  once number = at_most_one (nat_lt number key.threads) (parts_in number views) (rule.once number)

  fits_after : (seat : ℕ) (view : List ViewPart) (r : ViewPart) → get_elem? (set views id (u ∷ [])) seat ≡ some view → Among r view → Fits key longer after rule.heard r
  fits_after seat view r e among = ⊎_elim
      (λ (h : (seat ≡ id) × ((u ∷ []) ≡ view)).
      let same : r ≡ u = among_one u r (subst (Among r) (sym h.1) among) in
      subst (Fits key longer after rule.heard) (sym same) (record {
        setup = mine.setup;
        part = get-set_same rule.world.parts p.number now p.part mine.part;
        answers = mine.answers;
        floor = mine.floor;
        since = mine.since;
        seen = begins_self longer;
        stands = stands;
      }))
      (λ (h : (seat ≢ id) × (get_elem? views seat ≡ some view)).
      let old = rule.fits seat view r h.1 among in
      let other = apart views id seat (p ∷ []) view p r once h.0 at h.1 (inl refl) among in
      record {
        setup = old.setup;
        part = get-set_other rule.world.parts p.number r.number now other ∙ old.part;
        answers = old.answers;
        floor = old.floor;
        since = old.since;
        seen = begins_on r.seen rule.trace longer old.seen begins;
        stands = old.stands;
      })
      (at_set views id seat (u ∷ []) view e)

  pub settled_rule : IsRuled key words (set views id (u ∷ []))
  settled_rule = record {
    trace = longer;
    world = after;
    heard = rule.heard;
    words_are = rule.words_are;
    valid = rule.valid;
    is_trace = there;
    once = λ number. let c = parts_in-set number views id (p ∷ []) (u ∷ []) at in (omega arith) ∙ rule.once number;
    fits = fits_after;
  }

  settled_as : p.setup ≡ key → SettledAs p k now (u ∷ [])
  settled_as same = record {
    steps = longer;
    leaves = refl;
    seen = begins_on p.seen rule.trace longer mine.seen begins;
    stands = subst (λ (s : Setup). IsPartAfter s longer p.number now p.heard) (sym same) stands;
  }

  pub settled : p.setup ≡ key → (me : SeatView) → me.0 ≡ p ∷ [] → (all : ℕ) → p.made + k ≡ all → Settled all me (u ∷ [], me.1)
  settled same me is all sum = (
    refl,
    λ r j other is' ps sum'.
        let same_part : p ≡ r = (let e : (p ∷ []) ≡ (r ∷ []) = sym is ∙ is' in cc) in
        subst (λ (r : ViewPart). (j : ℕ) (other : Part Configuration) → after_local_steps (effect r.setup.code) j r.part ≡ Some other → r.made + j ≡ all → SettledAs r j other (u ∷ [])) same_part
        (λ j other ps sum'.
        let count : k ≡ j = omega (arith, sum, sum') in
        let ps' : after_local_steps (effect key.code) j p.part ≡ Some other = subst (λ (s : Setup). after_local_steps (effect s.code) j p.part ≡ Some other) same ps in
        let both : Some now ≡ Some other = sym pause ∙ (ap (λ (i : ℕ). after_local_steps (effect key.code) i p.part) count ∙ ps') in
        let one : now ≡ other = cc in
        subst (λ (z : ℕ × Part Configuration). SettledAs p z.0 z.1 (u ∷ [])) (λ i. (count i, one i)) (settled_as same))
        j other ps sum',
  )

module _ (key : Setup) where
  pub settles : (slots id : ℕ) (me : SeatView) (all : ℕ) → SitsAfter key me all → Allows (λ s. IsRuled key s.words s.views) slots id me 0 (λ n. either (n == all) all n) (λ _. Settled all me)
  settles slots id me all sits s rule _ at _ =
      let p = sits.0 in
      let k = sits.1 in
      let now = sits.2 in
      let mine : me.0 ≡ p ∷ [] = ap (λ (m : SeatView). m.0) sits.3 in
      let here = at ∙ ap some mine in
      let n : ℕ = get_or s.words 0 0 in
      let same : set s.words 0 (either (n == all) all n) ≡ s.words = ap (set s.words 0) (unchanged n all) ∙ set-get_or s.words 0 0 in (
        u key s.words s.views rule id p here k now sits.5 ∷ [],
        keeps,
        tt,
        subst (λ (ws : List ℕ). IsRuled key ws (set s.views id (u key s.words s.views rule id p here k now sits.5 ∷ []))) (sym same) (settled_rule key s.words s.views rule id p here k now sits.5),
        settled key s.words s.views rule id p here k now sits.5 sits.4 me mine all sits.6,
      )
