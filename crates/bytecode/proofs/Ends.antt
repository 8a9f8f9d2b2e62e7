-- The beginning and the end of a walk, and the places that it takes.
use Rattle.std.proofs.Common.{◌≡◌, ℕ, zero, suc, ◌+◌, ◌-◌, ◌<◌, ◌≤◌, List, [], ◌∷◌, ◌++◌, length, Option, Some, None, refl, sym, ap, ◌∙◌, subst, arith, inl, inr}
use Rattle.std.specs.Prelude.{slice_get, Contains, replicate}
use Rattle.std.proofs.lemmas.List.Elements.{Contains-push}
use Rattle.std.proofs.lemmas.Bool.{cases_lt}
use Rattle.std.proofs.lemmas.Option.{slice_get_within}
use Rattle.bytecode.specs.Code.{Code, FunctionCode}
use Rattle.bytecode.specs.Valid.{leads_from, IsReached, at_first, AsksOpen, KeepsOpen}
use Rattle.bytecode.specs.declared.walk.Arrival.{Arrival}
use Rattle.bytecode.specs.declared.walk.Arrival.TheVariants.{Unseen, Outside, Inside}
use Rattle.bytecode.specs.inner.Walking.{Arrivals, arrival_at}
use Rattle.bytecode.proofs.Tables.{one_chain, IsClosed, reached_in_table, one_list_by_table}
use Rattle.bytecode.proofs.Arrivals.{before, from_on, inside_of, seen, seen_one, seen_within, innermost, table, Visited}
use Rattle.bytecode.proofs.Walks.{Walked, closed}

seen_arrival : (o : Option Arrival) (id : Option ℕ) → innermost o ≡ Some id → (m : Arrival) × (o ≡ Some m) × (seen_one m ≡ 1)
seen_arrival None id e = cc e
seen_arrival (Some Unseen) id e = cc e
seen_arrival (Some Outside) id e = (Outside, refl, refl)
seen_arrival (Some (Inside b)) id e = (Inside b, refl, refl)

pub seen_place : (first : ℕ) (ms : Arrivals) (q : ℕ) (id : Option ℕ) → table first ms q ≡ Some id → (m : Arrival) × (arrival_at first ms q ≡ Some m) × (seen_one m ≡ 1)
seen_place first ms q id e = seen_arrival (arrival_at first ms q) id e

pub place_bounds : (first : ℕ) (ms : Arrivals) (q : ℕ) (m : Arrival) → arrival_at first ms q ≡ Some m → (first ≤ q) × (q - first < length ms)
place_bounds first ms q m e =
    let le = inside_of first ms q m e in
    (le, slice_get_within ms (q - first) m (sym (from_on first q ms le) ∙ e))

unseen_get : (n i : ℕ) (o : Option Arrival) → slice_get (replicate n Unseen) i ≡ o → innermost o ≡ None
unseen_get zero i None e = refl
unseen_get zero i (Some m) e = cc e
unseen_get (suc n) zero o e = ap innermost (sym e)
unseen_get (suc n) (suc i) o e = unseen_get n i o e

pub unseen_table : (first n q : ℕ) → table first (replicate n Unseen) q ≡ None
unseen_table first n q = elim (cases_lt q first) [
  | inl lt ↦ ap innermost (before first q (replicate n Unseen) lt)
  | inr le ↦ ap innermost (from_on first q (replicate n Unseen) le) ∙ unseen_get n (q - first) (slice_get (replicate n Unseen) (q - first)) refl
]

unseen_seen : (n : ℕ) → seen (replicate n Unseen) ≡ 0
unseen_seen zero = refl
unseen_seen (suc n) = let h = unseen_seen n in omega (arith, h)

module _ (code : Code) (f : FunctionCode) where
  -- at the beginning
  pub starts : (n : ℕ) (ms : Arrivals) (work : List ℕ) → Visited f.first (replicate n Unseen) [] f.first Outside ms work → Walked code f ms work 0
  starts n ms work v = record {
    found = λ q id e. elim (v.new q id e) [
      | inl o ↦ cc (o, unseen_table f.first n q)
      | inr o ↦ ([], subst (λ x. IsReached code f x []) (sym o.1) at_first, o.2)
    ];
    begun = v.at;
    expanded = λ q id e. elim (v.new q id e) [
      | inl o ↦ cc (o, unseen_table f.first n q)
      | inr o ↦ inl o.0
    ];
    queued = λ q c. elim (v.queued q c) [
      | inl o ↦ absurd (omega (arith, o.1))
      | inr o ↦ (None, subst (λ x. table f.first ms x ≡ Some None) (sym o) v.at)
    ];
    count = let h = v.count in let z = unseen_seen n in omega (arith, h, z);
  }

  -- at the end
  is_closed : (ms : Arrivals) (made : ℕ) → Walked code f ms [] made → IsClosed code f (table f.first ms)
  is_closed ms made w = record {
    starts = w.begun;
    leads = λ q id bs e c q' bs' d.
        let s = closed code f ms made w q id e in
        s.leads q' bs' (subst (λ x. Contains (leads_from code q x (slice_get code.instructions q)) (q', bs')) (one_chain (table f.first ms) id bs s.begins c s.chain) d);
  }

  pub finishes : (ms : Arrivals) (made end : ℕ) → Walked code f ms [] made → f.first + length ms ≡ end → KeepsOpen code f end
  finishes ms made end w long = record {
    inside = λ q bs r.
        let h = reached_in_table code f (table f.first ms) (is_closed ms made w) q bs r in
        let m = seen_place f.first ms q h.0 h.1 in
        let b = place_bounds f.first ms q m.0 m.1 in
        (b.0, omega (arith, b.0, b.1, long));
    one_list = one_list_by_table code f (table f.first ms) (is_closed ms made w);
    asks = λ q bs r.
        let h = reached_in_table code f (table f.first ms) (is_closed ms made w) q bs r in
        let s = closed code f ms made w q h.0 h.1 in
        subst (AsksOpen (slice_get code.instructions q)) (one_chain (table f.first ms) h.0 s.begins bs s.chain h.2) s.asks;
  }

  empty_of : (work : List ℕ) → length work ≡ 0 → work ≡ []
  empty_of [] e = refl
  empty_of (x ∷ xs) e = absurd (omega (arith, e))

  -- each place is taken at most once
  pub all_made : (ms : Arrivals) (work : List ℕ) (end : ℕ) → Walked code f ms work (length ms) → f.first + length ms ≡ end → KeepsOpen code f end
  all_made ms work end w long =
      let e : work ≡ [] = empty_of work (let h = w.count in let l = seen_within ms in omega (arith, h, l)) in
      finishes ms (length ms) end (subst (λ x. Walked code f ms x (length ms)) e w) long

  -- a place that is taken has an arrival
  pub taken_arrival : (ms : Arrivals) (work : List ℕ) (q made : ℕ) → Walked code f ms (work ++ q ∷ []) made → (m : Arrival) × (arrival_at f.first ms q ≡ Some m) × (seen_one m ≡ 1)
  taken_arrival ms work q made w = let h = w.queued q (Contains-push work q) in seen_place f.first ms q h.0 h.1
