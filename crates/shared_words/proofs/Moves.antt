-- Splits, joins and meetings keep the rule.
use Rattle.std.proofs.Common.{◌≡◌, ◌≢◌, ℕ, ◌+◌, List, [], ◌∷◌, ◌++◌, get_or, set, refl, sym, ap, ◌∙◌, subst, arith, inl, inr, ⊎_elim}
use Rattle.std.proofs.lemmas.List.{set-get_or}
use mathlib.Core.Option.{some}
use lib.ListN.{get_elem?}
use Rattle.atomic_table.specs.Table.{Me, keeps, Allows, Splits, Joins}
use Rattle.atomic_table.proofs.Lists.{at_set, at_snoc}
use Rattle.bytecode.specs.Initial.{initial_of}
use Rattle.bytecode.specs.Valid.{bounds_of}
use Rattle.bytecode.proofs.Fits.{fits_cells}
use Rattle.shared_words.proofs.Codes.{initial_fits}
use Rattle.shared_words.specs.Setup.{Setup, IsPartAfter, world_of}
use Rattle.shared_words.proofs.Traces.{begins_self, ruled_world, stands_here}
use Rattle.machine.specs.Worlds.{World}
use Rattle.bytecode.specs.Code.{Configuration}
use Rattle.shared_words.specs.Views.{Among, ViewPart, first_of, with_floor, parts_of, without_first}
use Rattle.shared_words.specs.inner.Floors.{all_floored}
use Rattle.shared_words.specs.Rule.{Fits, IsRuled, MayBeFloor}
use Rattle.shared_words.specs.inner.Floors.{Floored}
use Rattle.shared_words.proofs.Parts.{parts_in-set, parts_in-append, parts_of-append, among_append, none_since}
use Rattle.machine.proofs.answers.Reached.{answers_ok, numbers_below}
use Rattle.bytecode.specs.Code.{effect}
use Rattle.bytecode.specs.Beginning.{beginning}

-- a cut of a list of parts in two
record Cut (v left right : List ViewPart) : Type 0 where
  pub counts : (number : ℕ) → parts_of number left + parts_of number right ≡ parts_of number v
  pub lefts : (p : ViewPart) → Among p left → Among p v
  pub rights : (p : ViewPart) → Among p right → Among p v

first_cut : (v : List ViewPart) → Cut v (without_first v) (first_of v)
first_cut [] = record { counts = λ n. omega arith; lefts = λ p a. a; rights = λ p a. a }
first_cut (q ∷ qs) = record { counts = λ n. omega arith; lefts = λ p a. inr a; rights = λ p a. ⊎_elim (λ e. inl e) (λ b. absurd b) a }

rest_cut : (v : List ViewPart) → Cut v (first_of v) (without_first v)
rest_cut v = let c = first_cut v in record { counts = λ n. (let k = c.counts n in omega arith); lefts = c.rights; rights = c.lefts }

whole_cut : (v : List ViewPart) → Cut v [] v
whole_cut v = record { counts = λ n. omega arith; lefts = λ p a. absurd a; rights = λ p a. a }

module _ (key : Setup) where
  cuts : (id : ℕ) (v left right : List ViewPart) → Cut v left right → Splits {S = Unit {0}} (λ s. IsRuled key s.words s.views) id v left right
  cuts id v left right cut s rule at = record {
    trace = rule.trace;
    is_trace = rule.is_trace;
    world = rule.world;
    heard = rule.heard;
    valid = rule.valid;
    words_are = rule.words_are;
    once = λ n.
        let a = parts_in-append n (set s.views id left) (right ∷ []) in
        let b = parts_in-set n s.views id v left at in
        let c = cut.counts n in
        (omega arith) ∙ rule.once n;
    fits = λ seat view p e a. ⊎_elim
        (λ (old : get_elem? (set s.views id left) seat ≡ some view). ⊎_elim
        (λ (h : (seat ≡ id) × (left ≡ view)). rule.fits id v p at (cut.lefts p (subst (Among p) (sym h.1) a)))
        (λ (h : (seat ≢ id) × (get_elem? s.views seat ≡ some view)). rule.fits seat view p h.1 a)
        (at_set s.views id seat left view old))
        (λ (new : right ≡ view). rule.fits id v p at (cut.rights p (subst (Among p) (sym new) a)))
        (at_snoc (set s.views id left) right view seat e);
  }

  pub splits_first : (id : ℕ) (v : List ViewPart) → Splits {S = Unit {0}} (λ s. IsRuled key s.words s.views) id v (without_first v) (first_of v)
  splits_first id v = cuts id v (without_first v) (first_of v) (first_cut v)

  pub splits_rest : (id : ℕ) (v : List ViewPart) → Splits {S = Unit {0}} (λ s. IsRuled key s.words s.views) id v (first_of v) (without_first v)
  splits_rest id v = cuts id v (first_of v) (without_first v) (rest_cut v)

  pub splits_whole : (id : ℕ) (v : List ViewPart) → Splits {S = Unit {0}} (λ s. IsRuled key s.words s.views) id v [] v
  splits_whole id v = cuts id v [] v (whole_cut v)

  pub joins : (id : ℕ) (v : List ViewPart) (other : ℕ) (w : List ViewPart) → Joins {S = Unit {0}} (λ s. IsRuled key s.words s.views) id v other w (v ++ w) []
  joins id v other w s rule at ne there =
      let theirs = at_set s.views id other (v ++ w) w there in
      let was : get_elem? s.views other ≡ some w = ⊎_elim (λ (h : (other ≡ id) × ((v ++ w) ≡ w)). absurd (ne h.0)) (λ (h : (other ≢ id) × (get_elem? s.views other ≡ some w)). h.1) theirs in
      record {
        trace = rule.trace;
        is_trace = rule.is_trace;
        world = rule.world;
        heard = rule.heard;
        valid = rule.valid;
        words_are = rule.words_are;
        once = λ n.
            let a = parts_in-set n s.views id v (v ++ w) at in
            let b = parts_in-set n (set s.views id (v ++ w)) other w [] there in
            let c = parts_of-append n v w in
            (omega arith) ∙ rule.once n;
        fits = λ seat view p e a. ⊎_elim
            (λ (h : (seat ≡ other) × ([] ≡ view)). absurd (subst (Among p) (sym h.1) a))
            (λ (h : (seat ≢ other) × (get_elem? (set s.views id (v ++ w)) seat ≡ some view)). ⊎_elim
            (λ (g : (seat ≡ id) × ((v ++ w) ≡ view)). ⊎_elim (λ b. rule.fits id v p at b) (λ b. rule.fits other w p was b) (among_append p v w (subst (Among p) (sym g.1) a)))
            (λ (g : (seat ≢ id) × (get_elem? s.views seat ≡ some view)). rule.fits seat view p g.1 a)
            (at_set s.views id seat (v ++ w) view h.1))
            (at_set (set s.views id (v ++ w)) other seat [] view e);
      }

  -- a part with a new floor
  same_counts : (number n : ℕ) (ts : List ℕ) (v : List ViewPart) → parts_of number (all_floored n ts v) ≡ parts_of number v
  same_counts number n ts [] = refl
  same_counts number n ts (p ∷ ps) = let h = same_counts number n ts ps in omega arith

  was_among : (n : ℕ) (ts : List ℕ) (v : List ViewPart) (q : ViewPart) → Among q (all_floored n ts v) → (p : ViewPart) × (q ≡ with_floor n ts p) × Among p v
  was_among n ts [] q a = absurd a
  was_among n ts (p ∷ ps) q (inl e) = (p, e, inl refl)
  was_among n ts (p ∷ ps) q (inr a) = let r = was_among n ts ps q a in (r.0, r.1, inr r.2)

  pub meets : (slots id : ℕ) (me : Me (Unit {0}) (List ViewPart)) → Allows (λ s. IsRuled key s.words s.views) slots id me 0 (λ n. n) (Floored me)
  meets slots id me s rule _ at _ =
      let n : ℕ = get_or s.words 0 0 in
      let is : n ≡ rule.world.lock = ap (λ (ws : List ℕ). get_or ws 0 0) rule.words_are in (
        all_floored n rule.trace me.0,
        keeps,
        tt,
        record {
          trace = rule.trace;
          is_trace = rule.is_trace;
          world = rule.world;
          heard = rule.heard;
          valid = rule.valid;
          words_are = set-get_or s.words 0 0 ∙ rule.words_are;
          once = λ number. let a = parts_in-set number s.views id me.0 (all_floored n rule.trace me.0) at in let b = same_counts number n rule.trace me.0 in (omega arith) ∙ rule.once number;
          fits = λ seat view q e a. ⊎_elim
              (λ (h : (seat ≡ id) × (all_floored n rule.trace me.0 ≡ view)).
              let r = was_among n rule.trace me.0 q (subst (Among q) (sym h.1) a) in
              let f = rule.fits id me.0 r.0 at r.2 in
              subst (Fits key rule.trace rule.world rule.heard) (sym r.1) (record { setup = f.setup; part = f.part; answers = f.answers; floor = (omega arith); since = none_since n r.0.heard; seen = begins_self rule.trace; stands = stands_here key rule.trace rule.world rule.heard r.0.number r.0.part r.0.heard rule.is_trace f.part f.answers }))
              (λ (h : (seat ≢ id) × (get_elem? s.views seat ≡ some view)). rule.fits seat view q h.1 a)
              (at_set s.views id seat (all_floored n rule.trace me.0) view e);
        },
        (
          rule.trace,
          refl,
          refl,
          λ p a.
              let f = rule.fits id me.0 p at a in
              let ok = answers_ok (effect key.code) (beginning key.code) (bounds_of key.code) (initial_of key.code) (initial_fits key.code) (fits_cells key.code rule.valid) key.threads rule.world rule.heard (ruled_world key s.words s.views rule) p.number p.part p.heard f.part f.answers in
              let below = numbers_below (effect key.code) (beginning key.code) (bounds_of key.code) (initial_of key.code) (initial_fits key.code) (fits_cells key.code rule.valid) key.threads rule.world rule.heard (ruled_world key s.words s.views rule) p.number p.part f.part in
              subst (λ (l : ℕ). MayBeFloor l rule.trace p) (sym is) (record {
                locks = ok.bounded;
                below = below;
                floor = f.floor;
                lock = ap (λ (s : Setup). (world_of s rule.trace).lock) f.setup ∙ ap (λ (w : World Configuration). w.lock) (sym rule.is_trace.world);
                seen = f.seen;
                stands = subst (λ (s : Setup). IsPartAfter s rule.trace p.number p.part p.heard) (sym f.setup) (stands_here key rule.trace rule.world rule.heard p.number p.part p.heard rule.is_trace f.part f.answers);
              }),
        ),
      )
