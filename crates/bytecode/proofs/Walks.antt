-- Following ways: what stays so while places are gone on from, and what is known at the end.
use Rattle.std.proofs.Common.{◌≡◌, ◌⊎◌, ℕ, suc, ◌+◌, List, [], ◌∷◌, ◌++◌, length, Option, Some, None, sym, ap, ◌∙◌, subst, arith, inl, inr}
use Rattle.std.specs.Prelude.{slice_get, Contains}
use Rattle.std.proofs.lemmas.List.{length-append}
use Rattle.std.proofs.lemmas.List.Elements.{Contains-append_left, Contains-push_cases}
use Rattle.bytecode.specs.Code.{Code, FunctionCode}
use Rattle.bytecode.specs.Valid.{leads_from, IsReached, AsksOpen}
use Rattle.bytecode.specs.declared.walk.Arrival.{Arrival}
use Rattle.bytecode.specs.inner.Walking.{Arrivals}
use Rattle.bytecode.proofs.Tables.{Table, IsChain, some_same, IsFound}
use Rattle.bytecode.proofs.Arrivals.{seen, id_of, table, Grows, chain_grows, Visited}

module _ (code : Code) (f : FunctionCode) where
  abbrev pub T : Arrivals → Table
  T ms = table f.first ms

  -- a place that is gone on from: what its instruction asks is there, and where it leads is in the table
  pub record Expanded (ms : Arrivals) (q : ℕ) (id : Option ℕ) : Type 0 where
    pub begins : List ℕ
    pub chain : IsChain (T ms) id begins
    pub asks : AsksOpen (slice_get code.instructions q) begins
    pub leads : (q' : ℕ) (begins' : List ℕ) → Contains (leads_from code q begins (slice_get code.instructions q)) (q', begins') → (id' : Option ℕ) × (T ms q' ≡ Some id') × IsChain (T ms) id' begins'

  pub expanded_grows : (ms ms' : Arrivals) → Grows (T ms) (T ms') → (q : ℕ) (id : Option ℕ) → Expanded ms q id → Expanded ms' q id
  expanded_grows ms ms' g q id s = record {
    begins = s.begins;
    chain = chain_grows (T ms) (T ms') g id s.begins s.chain;
    asks = s.asks;
    leads = λ q' bs c. let h = s.leads q' bs c in (h.0, g q' h.0 h.1, chain_grows (T ms) (T ms') g h.0 bs h.2);
  }

  -- what stays so: made places are gone on from, and those in work are not
  pub record Walked (ms : Arrivals) (work : List ℕ) (made : ℕ) : Type 0 where
    pub found : IsFound code f (T ms)
    pub begun : T ms f.first ≡ Some None
    pub expanded : (q : ℕ) (id : Option ℕ) → T ms q ≡ Some id → Contains work q ⊎ Expanded ms q id
    pub queued : (q : ℕ) → Contains work q → (id : Option ℕ) × (T ms q ≡ Some id)
    pub count : made + length work ≡ seen ms

  pub found_after : (ms ms' : Arrivals) (work work' : List ℕ) (q : ℕ) (m : Arrival) (begins : List ℕ) → IsFound code f (T ms) → IsReached code f q begins → IsChain (T ms) (id_of m) begins → Visited f.first ms work q m ms' work' → IsFound code f (T ms')
  found_after ms ms' work work' q m begins found r c v p id t = elim (v.new p id t) [
    | inl o ↦ let h = found p id o in (h.0, h.1, chain_grows (T ms) (T ms') v.grows id h.0 h.2)
    | inr o ↦ (begins, subst (λ x. IsReached code f x begins) (sym o.1) r, subst (λ i. IsChain (T ms') i begins) (sym o.2) (chain_grows (T ms) (T ms') v.grows (id_of m) begins c))
  ]

  -- a place is taken from the work: all that stays so but that it is expanded
  pub record Taken (ms : Arrivals) (work : List ℕ) (q : ℕ) (made : ℕ) : Type 0 where
    pub found : IsFound code f (T ms)
    pub begun : T ms f.first ≡ Some None
    pub expanded : (p : ℕ) (id : Option ℕ) → T ms p ≡ Some id → Contains work p ⊎ (p ≡ q) ⊎ Expanded ms p id
    pub queued : (p : ℕ) → Contains work p → (id : Option ℕ) × (T ms p ≡ Some id)
    pub count : suc made + length work ≡ seen ms

  pub taken : (ms : Arrivals) (work : List ℕ) (q made : ℕ) → Walked ms (work ++ q ∷ []) made → Taken ms work q made
  taken ms work q made w = record {
    found = w.found;
    begun = w.begun;
    expanded = λ p id t. elim (w.expanded p id t) [
      | inl c ↦ elim (Contains-push_cases work q p c) [
        | inl d ↦ inl d
        | inr e ↦ inr (inl (sym e))
      ]
      | inr s ↦ inr (inr s)
    ];
    queued = λ p c. w.queued p (Contains-append_left work (q ∷ []) p c);
    count = let h = w.count in let l = length-append work (q ∷ []) in omega (arith, h, l);
  }

  -- a visit keeps it
  pub visit_keeps : (ms ms' : Arrivals) (work work' : List ℕ) (q made p : ℕ) (m : Arrival) (begins : List ℕ) → Taken ms work q made → IsReached code f p begins → IsChain (T ms) (id_of m) begins → Visited f.first ms work p m ms' work' → Taken ms' work' q made
  visit_keeps ms ms' work work' q made p m begins k r c v = record {
    found = found_after ms ms' work work' p m begins k.found r c v;
    begun = v.grows f.first None k.begun;
    expanded = λ x id t. elim (v.new x id t) [
      | inl o ↦ elim (k.expanded x id o) [
        | inl d ↦ inl (v.waiting x d)
        | inr e ↦ elim e [
          | inl s ↦ inr (inl s)
          | inr s ↦ inr (inr (expanded_grows ms ms' v.grows x id s))
        ]
      ]
      | inr o ↦ inl o.0
    ];
    queued = λ x c. elim (v.queued x c) [
      | inl d ↦ let h = k.queued x d in (h.0, v.grows x h.0 h.1)
      | inr e ↦ (id_of m, subst (λ y. T ms' y ≡ Some (id_of m)) (sym e) v.at)
    ];
    count = let h = k.count in let l = v.count in omega (arith, h, l);
  }

  -- the place that was taken is expanded
  pub expands : (ms : Arrivals) (work : List ℕ) (q made : ℕ) (id : Option ℕ) → Taken ms work q made → T ms q ≡ Some id → Expanded ms q id → Walked ms work (suc made)
  expands ms work q made id k t s = record {
    found = k.found;
    begun = k.begun;
    expanded = λ p i u. elim (k.expanded p i u) [
      | inl d ↦ inl d
      | inr e ↦ elim e [
        | inl h ↦ inr (subst (λ x. Expanded ms x i) (sym h) (subst (λ j. Expanded ms q j) (some_same id i (sym t ∙ ap (T ms) (sym h) ∙ u)) s))
        | inr h ↦ inr h
      ]
    ];
    queued = k.queued;
    count = k.count;
  }

  -- at the end nothing is left to go on from, and the table is closed
  pub closed : (ms : Arrivals) (made : ℕ) → Walked ms [] made → (q : ℕ) (id : Option ℕ) → T ms q ≡ Some id → Expanded ms q id
  closed ms made w q id t = elim (w.expanded q id t) [
    | inl c ↦ absurd (omega (arith, c.1))
    | inr s ↦ s
  ]
