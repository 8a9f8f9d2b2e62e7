-- Going on from a place fails only where one of its ways may not go where it goes.
use Rattle.std.proofs.Common.{◌≡◌, ◌≢◌, ℕ, zero, suc, ◌+◌, ◌-◌, ◌≤◌, List, [], ◌∷◌, length, drop, Option, Some, None, refl, sym, ap, ◌∙◌, subst, arith, inl, inr}
use Rattle.std.specs.Prelude.{slice_get, Contains}
use Rattle.std.proofs.lemmas.List.Elements.{Contains-push, Contains-append_left}
use Rattle.bytecode.specs.Code.{Code, FunctionCode, Instr}
use Rattle.bytecode.specs.Valid.{cancel_of, cancelled_in, leads_from, IsReached, at_first, further, AsksOpen, KeepsOpen}
use Rattle.bytecode.specs.declared.walk.Arrival.{Arrival}
use Rattle.bytecode.specs.declared.walk.Arrival.TheVariants.{Unseen, Outside, Inside}
use Rattle.bytecode.specs.declared.walk.Successor.{Successor}
use Rattle.bytecode.specs.declared.walk.Successor.TheVariants.{On, To, Both, Opens, Closes, Cancels, CancelsOuter, Ends}
use Rattle.bytecode.specs.inner.Walking.{Arrivals, arrival_at, visit_place, way_of, reopen_begin, begin_target, cancel_to, begin_round, cancelled_at, twice, went_by}
use Rattle.bytecode.proofs.Tables.{IsChain, some_same, IsFound}
use Rattle.bytecode.proofs.Arrivals.{seen_table, seen_one, innermost, id_of, table, chain_grows}
use Rattle.bytecode.proofs.Meets.{State, visited_gives, visited_fails}
use Rattle.bytecode.proofs.Rounds.{some_open, rounds}
use Rattle.bytecode.proofs.Leads.{leads_by, asks_by, leads_so, asks_of, only, either, first_of}
use Rattle.bytecode.proofs.Walks.{found_after}

-- ---- the open begins are begins

abbrev IsBegin : Option Instr → Type 0
IsBegin (Some (Instr.Begin to)) = Unit {0}
IsBegin i = ⊥

abbrev AreBegins : Code → List ℕ → Type 0
AreBegins code [] = Unit {0}
AreBegins code (b ∷ bs) = IsBegin (slice_get code.instructions b) × AreBegins code bs

opens_begins : (i : Instr) → way_of i ≡ Opens → IsBegin (Some i)
opens_begins (Instr.Begin to) e = tt
opens_begins i e = cc e

in_cancel : (code : Code) (o : Option Instr) (bs : List ℕ) (q : ℕ) (bs' : List ℕ) → Contains (cancel_of o [] (λ to. (to, bs) ∷ [])) (q, bs') → bs' ≡ bs
in_cancel code (Some (Instr.Begin to)) bs q bs' c = sym (ap (λ p. p.1) (only (to, bs) (q, bs') c))
in_cancel code o bs q bs' c = absurd (omega (arith, c.1))

begins_cancelled : (code : Code) (bs : List ℕ) (q : ℕ) (bs' : List ℕ) → AreBegins code bs → Contains (cancelled_in code bs) (q, bs') → AreBegins code bs'
begins_cancelled code [] q bs' a c = absurd (omega (arith, c.1))
begins_cancelled code (b ∷ bs) q bs' a c = subst (AreBegins code) (sym (in_cancel code (slice_get code.instructions b) bs q bs' c)) a.1

begins_behind : (code : Code) (n : ℕ) (bs : List ℕ) → AreBegins code bs → AreBegins code (drop n bs)
begins_behind code zero bs a = a
begins_behind code (suc n) [] a = tt
begins_behind code (suc n) (b ∷ bs) a = begins_behind code n bs a.1

begins_on : (code : Code) (q : ℕ) (i : Instr) (w : Successor) (bs : List ℕ) (q' : ℕ) (bs' : List ℕ) → slice_get code.instructions q ≡ Some i → way_of i ≡ w → AreBegins code bs → Contains (leads_by code q bs w) (q', bs') → AreBegins code bs'
begins_on code q i On bs q' bs' e w a c = subst (AreBegins code) (ap (λ p. p.1) (only (suc q, bs) (q', bs') c)) a
begins_on code q i (To to) bs q' bs' e w a c = subst (AreBegins code) (ap (λ p. p.1) (only (to, bs) (q', bs') c)) a
begins_on code q i (Both to) bs q' bs' e w a c = elim (either (suc q, bs) (to, bs) (q', bs') c) [
  | inl h ↦ subst (AreBegins code) (ap (λ p. p.1) h) a
  | inr h ↦ subst (AreBegins code) (ap (λ p. p.1) h) a
]
begins_on code q i Opens bs q' bs' e w a c = subst (AreBegins code) (ap (λ p. p.1) (only (suc q, q ∷ bs) (q', bs') c)) (subst IsBegin (sym e) (opens_begins i w), a)
begins_on code q i Closes [] q' bs' e w a c = absurd (omega (arith, c.1))
begins_on code q i Closes (b ∷ bs) q' bs' e w a c = subst (AreBegins code) (ap (λ p. p.1) (only (suc q, bs) (q', bs') c)) a.1
begins_on code q i Cancels bs q' bs' e w a c = begins_cancelled code bs q' bs' a c
begins_on code q i (CancelsOuter n) bs q' bs' e w a c = begins_cancelled code (drop (n - 1) bs) q' bs' (begins_behind code (n - 1) bs a) c
begins_on code q i Ends bs q' bs' e w a c = absurd (omega (arith, c.1))

begins_in : (code : Code) (q : ℕ) (o : Option Instr) (bs : List ℕ) (q' : ℕ) (bs' : List ℕ) → slice_get code.instructions q ≡ o → AreBegins code bs → Contains (leads_from code q bs o) (q', bs') → AreBegins code bs'
begins_in code q None bs q' bs' e a c = absurd (omega (arith, c.1))
begins_in code q (Some i) bs q' bs' e a c = begins_on code q i (way_of i) bs q' bs' e refl a (subst (λ l. Contains l (q', bs')) (leads_so code q bs i) c)

reached_begins : (code : Code) (f : FunctionCode) (q : ℕ) (bs : List ℕ) → IsReached code f q bs → AreBegins code bs
reached_begins code f q bs at_first = tt
reached_begins code f q bs (further {q = r} {xs = o} w c) = begins_in code r (slice_get code.instructions r) o q bs refl (reached_begins code f r o w) c

module _ (code : Code) (f : FunctionCode) (end : ℕ) (ms : Arrivals) (work : List ℕ) (q : ℕ) (i : Instr) (m : Arrival) (long : f.first + length ms ≡ end) (found : IsFound code f (table f.first ms)) (stands : slice_get code.instructions q ≡ Some i) (begins : List ℕ) (reached : IsReached code f q begins) (chain : IsChain (table f.first ms) (id_of m) begins) (opened : table f.first ms q ≡ Some (id_of m)) (keeps : KeepsOpen code f end) where
  leads_to : (to : ℕ) (bs : List ℕ) → Contains (leads_by code q begins (way_of i)) (to, bs) → IsReached code f to bs
  leads_to to bs c = further reached (subst (λ o. Contains (leads_from code q begins o) (to, bs)) (sym stands) (subst (λ l. Contains l (to, bs)) (sym (leads_so code q begins i)) c))

  asked : asks_by (way_of i) begins
  asked = asks_of begins i (subst (λ o. AsksOpen o begins) stands (keeps.asks q begins reached))

  no_one_way : (to : ℕ) (bs : List ℕ) (m' : Arrival) → seen_one m' ≡ 1 → leads_by code q begins (way_of i) ≡ (to, bs) ∷ [] → IsChain (table f.first ms) (id_of m') bs → visit_place f.first ms work to m' ≡ None → ⊥
  no_one_way to bs m' one l c h = visited_fails code f end ms work to m' bs long found (leads_to to bs (subst (λ x. Contains x (to, bs)) (sym l) (first_of (to, bs)))) c one h keeps

  no_two_ways : (to : ℕ) (o : Option State) → seen_one m ≡ 1 → way_of i ≡ Both to → visit_place f.first ms work (suc q) m ≡ o → twice f.first to m o ≡ None → ⊥
  no_two_ways to None one w e h =
      let l : leads_by code q begins (way_of i) ≡ (suc q, begins) ∷ (to, begins) ∷ [] = ap (leads_by code q begins) w in
      let r = leads_to (suc q) begins (subst (λ x. Contains x (suc q, begins)) (sym l) (Contains-append_left ((suc q, begins) ∷ []) ((to, begins) ∷ []) (suc q, begins) (first_of (suc q, begins)))) in
      visited_fails code f end ms work (suc q) m begins long found r chain one e keeps
  no_two_ways to (Some t) one w e h =
      let l : leads_by code q begins (way_of i) ≡ (suc q, begins) ∷ (to, begins) ∷ [] = ap (leads_by code q begins) w in
      let v = visited_gives f.first ms work (suc q) m t one e in
      let r = leads_to (suc q) begins (subst (λ x. Contains x (suc q, begins)) (sym l) (Contains-append_left ((suc q, begins) ∷ []) ((to, begins) ∷ []) (suc q, begins) (first_of (suc q, begins)))) in
      let r' = leads_to to begins (subst (λ x. Contains x (to, begins)) (sym l) (Contains-push ((suc q, begins) ∷ []) (to, begins))) in
      visited_fails code f end t.0 t.1 to m begins (let g = v.long in omega (arith, g, long)) (found_after code f ms t.0 work t.1 (suc q) m begins found r chain v) r' (chain_grows (table f.first ms) (table f.first t.0) v.grows (id_of m) begins chain) one h keeps

  no_way_back : (to : ℕ) (bs : List ℕ) (b : ℕ) (parent : Option ℕ) (o : Option Arrival) → leads_by code q begins (way_of i) ≡ (to, bs) ∷ [] → table f.first ms b ≡ Some parent → IsChain (table f.first ms) parent bs → arrival_at f.first ms b ≡ o → reopen_begin f.first ms work to o ≡ None → ⊥
  no_way_back to bs b parent None l t c e h = cc (t, ap innermost e)
  no_way_back to bs b parent (Some Unseen) l t c e h = cc (t, ap innermost e)
  no_way_back to bs b parent (Some Outside) l t c e h = no_one_way to bs Outside refl l (subst (λ x. IsChain (table f.first ms) x bs) (some_same parent None (sym t ∙ ap innermost e)) c) h
  no_way_back to bs b parent (Some (Inside d)) l t c e h = no_one_way to bs (Inside d) refl l (subst (λ x. IsChain (table f.first ms) x bs) (some_same parent (Some d) (sym t ∙ ap innermost e)) c) h

  no_cancel : (bs : List ℕ) (b : ℕ) (parent : Option ℕ) (o : Option Instr) → IsBegin o → slice_get code.instructions b ≡ o → leads_by code q begins (way_of i) ≡ cancelled_in code (b ∷ bs) → table f.first ms b ≡ Some parent → IsChain (table f.first ms) parent bs → cancel_to f.first ms work (arrival_at f.first ms b) (begin_target o) ≡ None → ⊥
  no_cancel bs b parent (Some (Instr.Begin to)) z e l t c h =
      no_way_back to bs b parent (arrival_at f.first ms b) (l ∙ ap (λ x. cancel_of x [] (λ to. (to, bs) ∷ [])) e) t c refl h
  no_cancel bs b parent o z e l t c h = z

  no_close : (b : ℕ) (bs : List ℕ) → way_of i ≡ Closes → begins ≡ bs → IsChain (table f.first ms) (Some b) bs → reopen_begin f.first ms work (suc q) (arrival_at f.first ms b) ≡ None → ⊥
  no_close b [] w e c h = cc c
  no_close b (d ∷ bs) w e c h =
      let g : b ≡ d = some_same b d c.0 in
      no_way_back (suc q) bs b c.1 (arrival_at f.first ms b) (ap (λ x. leads_by code q x (way_of i)) e ∙ ap (leads_by code q (d ∷ bs)) w) (ap (table f.first ms) g ∙ c.2) c.3 refl h

  -- a cancel of the first of these begins
  no_cancels : (b : ℕ) (bs : List ℕ) → AreBegins code bs → leads_by code q begins (way_of i) ≡ cancelled_in code bs → IsChain (table f.first ms) (Some b) bs → cancel_to f.first ms work (arrival_at f.first ms b) (begin_target (slice_get code.instructions b)) ≡ None → ⊥
  no_cancels b [] z l c h = cc c
  no_cancels b (d ∷ bs) z l c h =
      let g : b ≡ d = some_same b d c.0 in
      no_cancel bs b c.1 (slice_get code.instructions b) (subst (λ x. IsBegin (slice_get code.instructions x)) (sym g) z.0) refl (l ∙ ap (λ x. cancelled_in code (x ∷ bs)) (sym g)) (ap (table f.first ms) g ∙ c.2) c.3 h

  no_cancels_outer : (n b : ℕ) (x : Option ℕ) → begin_round f.first ms (n - 1) b ≡ x → way_of i ≡ CancelsOuter n → IsChain (table f.first ms) (Some b) begins → cancelled_at code.instructions f.first ms work x ≡ None → ⊥
  no_cancels_outer n b None e w c h =
      let few : length begins ≤ n - 1 = rounds f.first ms (n - 1) b begins None c e in
      let some = some_open (table f.first ms) b begins c in
      let asks : n ≤ length begins = subst (λ x. asks_by x begins) w asked in
      absurd (omega (arith, few, some, asks))
  no_cancels_outer n b (Some d) e w c h =
      no_cancels d (drop (n - 1) begins) (begins_behind code (n - 1) begins (reached_begins code f q begins reached)) (ap (leads_by code q begins) w) (rounds f.first ms (n - 1) b begins (Some d) c e) h

  -- with no begin open
  too_many : (n : ℕ) (bs : List ℕ) → begins ≡ bs → IsChain (table f.first ms) None bs → suc n ≤ length begins → ⊥
  too_many n [] e c few = absurd (let l = ap length e in omega (arith, few, l))
  too_many n (d ∷ bs) e c few = cc c.0

  -- with no begin open none may be asked for, and with one open none may be left
  none_open : (bs : List ℕ) → begins ≡ bs → IsChain (table f.first ms) None bs → begins ≢ [] → ⊥
  none_open [] e c n = n e
  none_open (d ∷ bs) e c n = cc c.0

  one_open : (b : ℕ) (bs : List ℕ) → begins ≡ bs → IsChain (table f.first ms) (Some b) bs → begins ≡ [] → ⊥
  one_open b [] e c n = cc c
  one_open b (d ∷ bs) e c n = cc (e, n)

  pub fails_by : (w : Successor) (n : Arrival) → seen_one m ≡ 1 → way_of i ≡ w → m ≡ n → went_by code.instructions f.first ms work q n w ≡ None → ⊥
  fails_by On n one w e h = no_one_way (suc q) begins m one (ap (leads_by code q begins) w) chain (ap (visit_place f.first ms work (suc q)) e ∙ h)
  fails_by (To to) n one w e h = no_one_way to begins m one (ap (leads_by code q begins) w) chain (ap (visit_place f.first ms work to) e ∙ h)
  fails_by (Both to) n one w e h = no_two_ways to (visit_place f.first ms work (suc q) m) one w refl (ap (λ x. twice f.first to x (visit_place f.first ms work (suc q) x)) e ∙ h)
  fails_by Opens n one w e h = no_one_way (suc q) (q ∷ begins) (Inside q) refl (ap (leads_by code q begins) w) (refl, id_of m, opened, chain) h
  fails_by Closes Unseen one w e h = cc (one, e)
  fails_by Closes Outside one w e h = none_open begins refl (subst (λ x. IsChain (table f.first ms) (id_of x) begins) e chain) (subst (λ x. asks_by x begins) w asked)
  fails_by Closes (Inside b) one w e h = no_close b begins w refl (subst (λ x. IsChain (table f.first ms) (id_of x) begins) e chain) h
  fails_by Cancels Unseen one w e h = cc (one, e)
  fails_by Cancels Outside one w e h = none_open begins refl (subst (λ x. IsChain (table f.first ms) (id_of x) begins) e chain) (subst (λ x. asks_by x begins) w asked)
  fails_by Cancels (Inside b) one w e h = no_cancels b begins (reached_begins code f q begins reached) (ap (leads_by code q begins) w) (subst (λ x. IsChain (table f.first ms) (id_of x) begins) e chain) h
  fails_by (CancelsOuter n) Unseen one w e h = cc (one, e)
  fails_by (CancelsOuter zero) Outside one w e h = cc h
  fails_by (CancelsOuter (suc n)) Outside one w e h = too_many n begins refl (subst (λ x. IsChain (table f.first ms) (id_of x) begins) e chain) (subst (λ x. asks_by x begins) w asked)
  fails_by (CancelsOuter n) (Inside b) one w e h = no_cancels_outer n b (begin_round f.first ms (n - 1) b) refl w (subst (λ x. IsChain (table f.first ms) (id_of x) begins) e chain) h
  fails_by Ends Unseen one w e h = cc (one, e)
  fails_by Ends Outside one w e h = cc h
  fails_by Ends (Inside b) one w e h = one_open b begins refl (subst (λ x. IsChain (table f.first ms) (id_of x) begins) e chain) (subst (λ x. asks_by x begins) w asked)

pub goes_nowhere : (code : Code) (f : FunctionCode) (end : ℕ) (ms : Arrivals) (work : List ℕ) (q : ℕ) (i : Instr) (m : Arrival) → f.first + length ms ≡ end → IsFound code f (table f.first ms) → slice_get code.instructions q ≡ Some i → arrival_at f.first ms q ≡ Some m → seen_one m ≡ 1 → went_by code.instructions f.first ms work q m (way_of i) ≡ None → KeepsOpen code f end → ⊥
goes_nowhere code f end ms work q i m long found stands arrived one h k =
    let at : table f.first ms q ≡ Some (id_of m) = ap innermost arrived ∙ seen_table m one in
    let r = found q (id_of m) at in
    fails_by code f end ms work q i m long found stands r.0 r.1 r.2 at k (way_of i) m one refl refl h
