-- Going on from a place keeps what is known, and fails only where a way may not go where it goes.
use Rattle.std.proofs.Common.{◌≡◌, ℕ, zero, suc, ◌-◌, List, [], ◌∷◌, drop, Option, Some, None, refl, sym, ap, ◌∙◌, subst, arith, inl, inr}
use Rattle.std.specs.Prelude.{slice_get, Contains}
use Rattle.std.proofs.lemmas.List.Elements.{Contains-push, Contains-append_left}
use Rattle.bytecode.specs.Code.{Code, FunctionCode, Instr}
use Rattle.bytecode.specs.Valid.{Standing, cancel_of, cancelled_in, leads_from, IsReached, further, AsksOpen}
use Rattle.bytecode.specs.declared.walk.Arrival.{Arrival}
use Rattle.bytecode.specs.declared.walk.Arrival.TheVariants.{Unseen, Outside, Inside}
use Rattle.bytecode.specs.declared.walk.Successor.{Successor}
use Rattle.bytecode.specs.declared.walk.Successor.TheVariants.{On, To, Both, Opens, Closes, Cancels, CancelsOuter, Ends}
use Rattle.bytecode.specs.inner.Walking.{Arrivals, arrival_at, visit_place, way_of, reopen_begin, begin_target, cancel_to, begin_round, cancelled_at, twice, went_by}
use Rattle.bytecode.proofs.Tables.{IsChain, some_same}
use Rattle.bytecode.proofs.Arrivals.{seen_table, seen_one, innermost, id_of, table, chain_grows}
use Rattle.bytecode.proofs.Meets.{State, visited_gives}
use Rattle.bytecode.proofs.Rounds.{not_empty, enough, rounds}
use Rattle.bytecode.proofs.Leads.{leads_by, asks_by, leads_so, asks_to, only, either, first_of}
use Rattle.bytecode.proofs.Walks.{Walked, Taken, visit_keeps, expands}

module _ (code : Code) (f : FunctionCode) (ms : Arrivals) (work : List ℕ) (q made : ℕ) (i : Instr) (m : Arrival) (k : Taken code f ms work q made) (stands : slice_get code.instructions q ≡ Some i) (arrived : arrival_at f.first ms q ≡ Some m) (begins : List ℕ) (reached : IsReached code f q begins) (chain : IsChain (table f.first ms) (id_of m) begins) (at : table f.first ms q ≡ Some (id_of m)) where
  -- one way on
  leads_to : (to : ℕ) (bs : List ℕ) → Contains (leads_by code q begins (way_of i)) (to, bs) → IsReached code f to bs
  leads_to to bs c = further reached (subst (λ o. Contains (leads_from code q begins o) (to, bs)) (sym stands) (subst (λ l. Contains l (to, bs)) (sym (leads_so code q begins i)) c))

  leads_in : (l : List Standing) → leads_by code q begins (way_of i) ≡ l → (q' : ℕ) (bs : List ℕ) → Contains (leads_from code q begins (slice_get code.instructions q)) (q', bs) → Contains l (q', bs)
  leads_in l e q' bs c = subst (λ x. Contains x (q', bs)) (leads_so code q begins i ∙ e) (subst (λ o. Contains (leads_from code q begins o) (q', bs)) stands c)

  asked : asks_by (way_of i) begins → AsksOpen (slice_get code.instructions q) begins
  asked h = subst (λ o. AsksOpen o begins) (sym stands) (asks_to begins i h)

  one_way : (to : ℕ) (bs : List ℕ) (m' : Arrival) (s : State) → seen_one m' ≡ 1 → asks_by (way_of i) begins → leads_by code q begins (way_of i) ≡ (to, bs) ∷ [] → IsChain (table f.first ms) (id_of m') bs → visit_place f.first ms work to m' ≡ Some s → Walked code f s.0 s.1 (suc made)
  one_way to bs m' s one a l c h =
      let v = visited_gives f.first ms work to m' s one h in
      let r = leads_to to bs (subst (λ x. Contains x (to, bs)) (sym l) (first_of (to, bs))) in
      expands code f s.0 s.1 q made (id_of m) (visit_keeps code f ms s.0 work s.1 q made to m' bs k r c v) (v.grows q (id_of m) at) (record {
        begins = begins;
        chain = chain_grows (table f.first ms) (table f.first s.0) v.grows (id_of m) begins chain;
        asks = asked a;
        leads = λ q' bs' d.
            let e = only (to, bs) (q', bs') (leads_in ((to, bs) ∷ []) l q' bs' d) in
            (id_of m', subst (λ x. table f.first s.0 x ≡ Some (id_of m')) (ap (λ p. p.0) e) v.at, subst (λ x. IsChain (table f.first s.0) (id_of m') x) (ap (λ p. p.1) e) (chain_grows (table f.first ms) (table f.first s.0) v.grows (id_of m') bs c));
      })

  no_way : (s : State) → asks_by (way_of i) begins → leads_by code q begins (way_of i) ≡ [] → Some (ms, work) ≡ Some s → Walked code f s.0 s.1 (suc made)
  no_way s a l h = subst (λ (z : State). Walked code f z.0 z.1 (suc made)) (some_same (ms, work) s h) (expands code f ms work q made (id_of m) k at (record {
    begins = begins;
    chain = chain;
    asks = asked a;
    leads = λ q' bs' d. absurd (let c = leads_in [] l q' bs' d in omega (arith, c.1));
  }))

  two_ways : (to : ℕ) (s : State) (o : Option State) → seen_one m ≡ 1 → way_of i ≡ Both to → visit_place f.first ms work (suc q) m ≡ o → twice f.first to m o ≡ Some s → Walked code f s.0 s.1 (suc made)
  two_ways to s None one w e h = cc h
  two_ways to s (Some t) one w e h =
      let l : leads_by code q begins (way_of i) ≡ (suc q, begins) ∷ (to, begins) ∷ [] = ap (leads_by code q begins) w in
      let v = visited_gives f.first ms work (suc q) m t one e in
      let r = leads_to (suc q) begins (subst (λ x. Contains x (suc q, begins)) (sym l) (Contains-append_left ((suc q, begins) ∷ []) ((to, begins) ∷ []) (suc q, begins) (first_of (suc q, begins)))) in
      let r' = leads_to to begins (subst (λ x. Contains x (to, begins)) (sym l) (Contains-push ((suc q, begins) ∷ []) (to, begins))) in
      let c = chain_grows (table f.first ms) (table f.first t.0) v.grows (id_of m) begins chain in
      let k' = visit_keeps code f ms t.0 work t.1 q made (suc q) m begins k r chain v in
      let u = visited_gives f.first t.0 t.1 to m s one h in
      let c' = chain_grows (table f.first t.0) (table f.first s.0) u.grows (id_of m) begins c in
      expands code f s.0 s.1 q made (id_of m) (visit_keeps code f t.0 s.0 t.1 s.1 q made to m begins k' r' c u) (u.grows q (id_of m) (v.grows q (id_of m) at)) (record {
        begins = begins;
        chain = c';
        asks = asked (subst (λ x. asks_by x begins) (sym w) tt);
        leads = λ q' bs' d. elim (either (suc q, begins) (to, begins) (q', bs') (leads_in _ l q' bs' d)) [
          | inl e' ↦ (id_of m, subst (λ x. table f.first s.0 x ≡ Some (id_of m)) (ap (λ p. p.0) e') (u.grows (suc q) (id_of m) v.at), subst (λ x. IsChain (table f.first s.0) (id_of m) x) (ap (λ p. p.1) e') c')
          | inr e' ↦ (id_of m, subst (λ x. table f.first s.0 x ≡ Some (id_of m)) (ap (λ p. p.0) e') u.at, subst (λ x. IsChain (table f.first s.0) (id_of m) x) (ap (λ p. p.1) e') c')
        ];
      })

  -- back under an enclosing begin
  back : (to : ℕ) (bs : List ℕ) (b : ℕ) (parent : Option ℕ) (s : State) (o : Option Arrival) → asks_by (way_of i) begins → leads_by code q begins (way_of i) ≡ (to, bs) ∷ [] → table f.first ms b ≡ Some parent → IsChain (table f.first ms) parent bs → arrival_at f.first ms b ≡ o → reopen_begin f.first ms work to o ≡ Some s → Walked code f s.0 s.1 (suc made)
  back to bs b parent s None a l t c e h = cc h
  back to bs b parent s (Some Unseen) a l t c e h = cc h
  back to bs b parent s (Some Outside) a l t c e h = one_way to bs Outside s refl a l (subst (λ x. IsChain (table f.first ms) x bs) (some_same parent None (sym t ∙ ap innermost e)) c) h
  back to bs b parent s (Some (Inside d)) a l t c e h = one_way to bs (Inside d) s refl a l (subst (λ x. IsChain (table f.first ms) x bs) (some_same parent (Some d) (sym t ∙ ap innermost e)) c) h

  cancelled_back : (bs : List ℕ) (b : ℕ) (parent : Option ℕ) (s : State) (o : Option Instr) → slice_get code.instructions b ≡ o → asks_by (way_of i) begins → leads_by code q begins (way_of i) ≡ cancelled_in code (b ∷ bs) → table f.first ms b ≡ Some parent → IsChain (table f.first ms) parent bs → cancel_to f.first ms work (arrival_at f.first ms b) (begin_target o) ≡ Some s → Walked code f s.0 s.1 (suc made)
  cancelled_back bs b parent s (Some (Instr.Begin to)) e a l t c h =
      back to bs b parent s (arrival_at f.first ms b) a (l ∙ ap (λ x. cancel_of x [] (λ to. (to, bs) ∷ [])) e) t c refl h
  cancelled_back bs b parent s o e a l t c h = cc h

  closes : (b : ℕ) (bs : List ℕ) (s : State) → way_of i ≡ Closes → begins ≡ bs → IsChain (table f.first ms) (Some b) bs → reopen_begin f.first ms work (suc q) (arrival_at f.first ms b) ≡ Some s → Walked code f s.0 s.1 (suc made)
  closes b [] s w e c h = cc c
  closes b (d ∷ bs) s w e c h =
      let g : b ≡ d = some_same b d c.0 in
      back (suc q) bs b c.1 s (arrival_at f.first ms b) (subst (λ x. asks_by x begins) (sym w) (λ n. cc (e, n))) (ap (λ x. leads_by code q x (way_of i)) e ∙ ap (leads_by code q (d ∷ bs)) w) (ap (table f.first ms) g ∙ c.2) c.3 refl h

  -- a cancel of the first of these begins
  cancels : (b : ℕ) (bs : List ℕ) (s : State) → asks_by (way_of i) begins → leads_by code q begins (way_of i) ≡ cancelled_in code bs → IsChain (table f.first ms) (Some b) bs → cancel_to f.first ms work (arrival_at f.first ms b) (begin_target (slice_get code.instructions b)) ≡ Some s → Walked code f s.0 s.1 (suc made)
  cancels b [] s a l c h = cc c
  cancels b (d ∷ bs) s a l c h =
      let g : b ≡ d = some_same b d c.0 in
      cancelled_back bs b c.1 s (slice_get code.instructions b) refl a (l ∙ ap (λ x. cancelled_in code (x ∷ bs)) (sym g)) (ap (table f.first ms) g ∙ c.2) c.3 h

  cancels_one : (b : ℕ) (s : State) → way_of i ≡ Cancels → IsChain (table f.first ms) (Some b) begins → cancel_to f.first ms work (arrival_at f.first ms b) (begin_target (slice_get code.instructions b)) ≡ Some s → Walked code f s.0 s.1 (suc made)
  cancels_one b s w c h = cancels b begins s (subst (λ x. asks_by x begins) (sym w) (not_empty (table f.first ms) b begins c)) (ap (leads_by code q begins) w) c h

  cancels_outer : (n b : ℕ) (s : State) (x : Option ℕ) → begin_round f.first ms (n - 1) b ≡ x → way_of i ≡ CancelsOuter n → IsChain (table f.first ms) (Some b) begins → cancelled_at code.instructions f.first ms work x ≡ Some s → Walked code f s.0 s.1 (suc made)
  cancels_outer n b s None e w c h = cc h
  cancels_outer n b s (Some d) e w c h =
      let outer : IsChain (table f.first ms) (Some d) (drop (n - 1) begins) = rounds f.first ms (n - 1) b begins (Some d) c e in
      cancels d (drop (n - 1) begins) s (subst (λ x. asks_by x begins) (sym w) (enough (table f.first ms) n d begins outer)) (ap (leads_by code q begins) w) outer h

  -- with no begin open, a cancel of no levels leads nowhere
  cancels_none : (bs : List ℕ) (s : State) → way_of i ≡ CancelsOuter zero → begins ≡ bs → IsChain (table f.first ms) None bs → Some (ms, work) ≡ Some s → Walked code f s.0 s.1 (suc made)
  cancels_none [] s w e c h = no_way s (subst (λ x. asks_by x begins) (sym w) (omega arith)) (ap (leads_by code q begins) w ∙ ap (cancelled_in code) e) h
  cancels_none (d ∷ bs) s w e c h = cc c.0

  ends : (bs : List ℕ) (s : State) → way_of i ≡ Ends → begins ≡ bs → IsChain (table f.first ms) None bs → Some (ms, work) ≡ Some s → Walked code f s.0 s.1 (suc made)
  ends [] s w e c h = no_way s (subst (λ x. asks_by x begins) (sym w) e) (ap (leads_by code q begins) w) h
  ends (d ∷ bs) s w e c h = cc c.0

  -- all ways on, by the instruction
  goes_by : (w : Successor) (n : Arrival) (s : State) → seen_one m ≡ 1 → way_of i ≡ w → m ≡ n → went_by code.instructions f.first ms work q n w ≡ Some s → Walked code f s.0 s.1 (suc made)
  goes_by On n s one w e h = one_way (suc q) begins m s one (subst (λ x. asks_by x begins) (sym w) tt) (ap (leads_by code q begins) w) chain (ap (visit_place f.first ms work (suc q)) e ∙ h)
  goes_by (To to) n s one w e h = one_way to begins m s one (subst (λ x. asks_by x begins) (sym w) tt) (ap (leads_by code q begins) w) chain (ap (visit_place f.first ms work to) e ∙ h)
  goes_by (Both to) n s one w e h = two_ways to s (visit_place f.first ms work (suc q) m) one w refl (ap (λ x. twice f.first to x (visit_place f.first ms work (suc q) x)) e ∙ h)
  goes_by Opens n s one w e h = one_way (suc q) (q ∷ begins) (Inside q) s refl (subst (λ x. asks_by x begins) (sym w) tt) (ap (leads_by code q begins) w) (refl, id_of m, at, chain) h
  goes_by Closes (Inside b) s one w e h = closes b begins s w refl (subst (λ x. IsChain (table f.first ms) (id_of x) begins) e chain) h
  goes_by Cancels (Inside b) s one w e h = cancels_one b s w (subst (λ x. IsChain (table f.first ms) (id_of x) begins) e chain) h
  goes_by (CancelsOuter n) (Inside b) s one w e h = cancels_outer n b s (begin_round f.first ms (n - 1) b) refl w (subst (λ x. IsChain (table f.first ms) (id_of x) begins) e chain) h
  goes_by (CancelsOuter zero) Outside s one w e h = cancels_none begins s w refl (subst (λ x. IsChain (table f.first ms) (id_of x) begins) e chain) h
  goes_by (CancelsOuter zero) Unseen s one w e h = cc (one, e)
  goes_by Ends Outside s one w e h = ends begins s w refl (subst (λ x. IsChain (table f.first ms) (id_of x) begins) e chain) h
  goes_by _ n s one w e h = cc h

-- going on from a place that was taken from the work
pub goes_on : (code : Code) (f : FunctionCode) (ms : Arrivals) (work : List ℕ) (q made : ℕ) (i : Instr) (m : Arrival) (s : State) → Taken code f ms work q made → slice_get code.instructions q ≡ Some i → arrival_at f.first ms q ≡ Some m → seen_one m ≡ 1 → went_by code.instructions f.first ms work q m (way_of i) ≡ Some s → Walked code f s.0 s.1 (suc made)
goes_on code f ms work q made i m s k stands arrived one h =
    let at : table f.first ms q ≡ Some (id_of m) = ap innermost arrived ∙ seen_table m one in
    let r = k.found q (id_of m) at in
    goes_by code f ms work q made i m k stands arrived r.0 r.1 r.2 at (way_of i) m s one refl refl h
