-- The loop of the walk, in plain variables.
use Rattle.std.proofs.Common.{◌≡◌, ℕ, suc, ◌+◌, ◌-◌, ◌<◌, ◌≤◌, Bool, true, false, List, [], ◌∷◌, ◌++◌, length, Some, None, refl, sym, ap, ◌∙◌, subst, arith}
use Rattle.std.specs.Prelude.{slice_get, replicate, option_map}
use Rattle.std.specs.Prelude.{get_or, take, map, Result, Ok, Err, IfOk}
use Rattle.std.proofs.lemmas.Option.{slice_get-get_or, slice_get-map}
use Rattle.bytecode.specs.Code.{Code, FunctionCode, Instr}
use Rattle.bytecode.specs.declared.walk.Arrival.{Arrival}
use Rattle.bytecode.specs.declared.walk.Arrival.TheVariants.{Unseen, Outside}
use Rattle.bytecode.specs.Valid.{KeepsOpen}
use Rattle.bytecode.specs.inner.Walking.{Arrivals, arrival_at, visit_place, walk_answer, way_of, went_by}
use Rattle.bytecode.proofs.Tables.{some_same}
use Rattle.bytecode.proofs.Arrivals.{seen_one}
use Rattle.bytecode.proofs.Meets.{visited_gives}
use Rattle.bytecode.proofs.Walks.{Walked, taken}
use Rattle.bytecode.proofs.Goes.{goes_on}
use Rattle.bytecode.proofs.Fails.{goes_nowhere}
use Rattle.bytecode.proofs.Ends.{place_bounds, starts, finishes, all_made, taken_arrival}

module _ (code : Code) (f : FunctionCode) where
  pub init : (first n : ℕ) (ms0 ms : Arrivals) (work0 work : List ℕ) (b : Bool) → f.first ≡ first → ms0 ≡ replicate n Unseen → work0 ≡ [] → visit_place first ms0 work0 first Outside ≡ walk_answer b ms work → b ≡ true → Walked code f ms work 0
  init first n ms0 ms work0 work b e m w h t =
      let v : visit_place f.first (replicate n Unseen) [] f.first Outside ≡ Some (ms, work) = rw (e, ← m, ← w, h, t) refl in
      starts code f n ms work (visited_gives f.first (replicate n Unseen) [] f.first Outside (ms, work) refl v)

  -- a place that is taken lies among the arrivals
  pub takes : (first : ℕ) (ms : Arrivals) (old work : List ℕ) (q made : ℕ) → f.first ≡ first → Walked code f ms old made → old ≡ work ++ q ∷ [] → (first ≤ q) × (q - first < length ms)
  takes first ms old work q made e w o =
      let t = taken_arrival code f ms work q made (subst (λ x. Walked code f ms x made) o w) in
      subst (λ x. (x ≤ q) × (q - x < length ms)) e (place_bounds f.first ms q t.0 t.1)

  pub has_arrival : (first : ℕ) (ms : Arrivals) (old work : List ℕ) (q made : ℕ) → f.first ≡ first → Walked code f ms old made → old ≡ work ++ q ∷ [] → arrival_at first ms q ≡ None → ⊥
  has_arrival first ms old work q made e w o n =
      let t = taken_arrival code f ms work q made (subst (λ x. Walked code f ms x made) o w) in
      cc (t.1, subst (λ x. arrival_at x ms q ≡ None) (sym e) n)

  some_instr : (q : ℕ) → q < length code.instructions → (i : Instr) × (slice_get code.instructions q ≡ Some i)
  some_instr q h = (get_or code.instructions q Instr.Commit, slice_get-get_or code.instructions q Instr.Commit h)

  -- what going on from the place q with the arrival m by an instruction gives
  abbrev pub Went : (first : ℕ) (ms ms' : Arrivals) (work work' : List ℕ) (q : ℕ) (m : Arrival) (b : Bool) → List Instr → Type 0
  Went first ms ms' work work' q m b is = (i : Instr) → slice_get is q ≡ Some i → went_by is first ms work q m (way_of i) ≡ walk_answer b ms' work'

  went : (first : ℕ) (ms ms' : Arrivals) (work work' : List ℕ) (q : ℕ) (m : Arrival) (b : Bool) (is : List Instr) (i : Instr) → code.instructions ≡ is → f.first ≡ first → slice_get code.instructions q ≡ Some i → Went first ms ms' work work' q m b is → went_by code.instructions f.first ms work q m (way_of i) ≡ walk_answer b ms' work'
  went first ms ms' work work' q m b is i h e s g =
      subst (λ x. Went x ms ms' work work' q m b code.instructions) (sym e) (subst (Went first ms ms' work work' q m b) (sym h) g) i s

  -- a place that is taken lies in the code
  in_code : (first end : ℕ) (ms : Arrivals) (old work : List ℕ) (q made : ℕ) → f.first ≡ first → Walked code f ms old made → old ≡ work ++ q ∷ [] → first + length ms ≡ end → end ≤ length code.instructions → q < length code.instructions
  in_code first end ms old work q made e w o long ends = let t = takes first ms old work q made e w o in omega (arith, t.0, t.1, long, ends)

  pub goes : (first end : ℕ) (ms ms' : Arrivals) (old work work' : List ℕ) (q made : ℕ) (m : Arrival) (b : Bool) (is : List Instr) → code.instructions ≡ is → f.first ≡ first → first + length ms ≡ end → end ≤ length is → Walked code f ms old made → old ≡ work ++ q ∷ [] → arrival_at first ms q ≡ Some m → Went first ms ms' work work' q m b is → b ≡ true → Walked code f ms' work' (suc made)
  goes first end ms ms' old work work' q made m b is hs e long ends w o at g t0 =
      let w' = subst (λ x. Walked code f ms x made) o w in
      let t = taken_arrival code f ms work q made w' in
      let d : t.0 ≡ m = some_same t.0 m (sym t.1 ∙ subst (λ x. arrival_at x ms q ≡ Some m) (sym e) at) in
      let i = some_instr q (in_code first end ms old work q made e w o long (rw hs ends)) in
      let h = went first ms ms' work work' q m b is i.0 hs e i.1 g in
      goes_on code f ms work q made i.0 m (ms', work') (taken code f ms work q made w') i.1 (t.1 ∙ ap Some d) (subst (λ x. seen_one x ≡ 1) d t.2) (h ∙ ap (λ x. walk_answer x ms' work') t0)

  pub goes_not : (first end : ℕ) (ms ms' : Arrivals) (old work work' : List ℕ) (q made : ℕ) (m : Arrival) (b : Bool) (is : List Instr) → code.instructions ≡ is → f.first ≡ first → first + length ms ≡ end → end ≤ length is → Walked code f ms old made → old ≡ work ++ q ∷ [] → arrival_at first ms q ≡ Some m → Went first ms ms' work work' q m b is → b ≡ false → KeepsOpen code f end → ⊥
  goes_not first end ms ms' old work work' q made m b is hs e long ends w o at g t0 k =
      let w' = subst (λ x. Walked code f ms x made) o w in
      let t = taken_arrival code f ms work q made w' in
      let d : t.0 ≡ m = some_same t.0 m (sym t.1 ∙ subst (λ x. arrival_at x ms q ≡ Some m) (sym e) at) in
      let i = some_instr q (in_code first end ms old work q made e w o long (rw hs ends)) in
      let h = went first ms ms' work work' q m b is i.0 hs e i.1 g in
      goes_nowhere code f end ms work q i.0 m (rw e long) w.found i.1 (t.1 ∙ ap Some d) (subst (λ x. seen_one x ≡ 1) d t.2) (h ∙ ap (λ x. walk_answer x ms' work') t0) k

  pub ends_here : (first end : ℕ) (ms : Arrivals) (old : List ℕ) (made : ℕ) → f.first ≡ first → Walked code f ms old made → old ≡ [] → first + length ms ≡ end → KeepsOpen code f end
  ends_here first end ms old made e w o long = finishes code f ms made end (subst (λ x. Walked code f ms x made) o w) (rw e long)

  pub ends_full : (first end : ℕ) (ms : Arrivals) (old : List ℕ) (made : ℕ) → f.first ≡ first → Walked code f ms old made → made ≡ length ms → first + length ms ≡ end → KeepsOpen code f end
  ends_full first end ms old made e w o long = all_made code f ms old end (subst (λ x. Walked code f ms old x) o w) (rw e long)

pub none_left : (work rest : List ℕ) (n : ℕ) → n ≡ 0 → rest ≡ take (n - 1) work → work ≡ rest ++ [] → work ≡ []
none_left work rest n e r w =
    let h : rest ≡ [] = r ∙ ap (λ x. take (x - 1) work) e in
    w ∙ ap (λ x. x ++ []) h

-- the item that a list's view has at a place
pub item_of : {X : Type 0} (v : X → Instr) (xs : List X) (q : ℕ) (d : X) (i : Instr) → q < length xs → slice_get (map v xs) q ≡ Some i → v (get_or xs q d) ≡ i
item_of v xs q d i h e = some_same (v (get_or xs q d)) i (sym (ap (option_map v) (slice_get-get_or xs q d h)) ∙ sym (slice_get-map v xs q) ∙ e)

pub ok_map : {X E : Type 0} (r : Result X E) (P Q : X → Type 0) → IfOk r P → ((x : X) → P x → Q x) → IfOk r Q
ok_map (Ok x) P Q h g = g x h
ok_map (Err e) P Q h g = tt

pub whole : (first end n : ℕ) → n ≡ end - first → first < end → first + n ≡ end
whole first end n e h = omega (arith, e, h)

pub below : (first end q n m : ℕ) → first ≤ q → q - first < n → n ≡ end - first → first < end → end ≤ m → q < m
below first end q n m a b e h l = omega (arith, a, b, e, h, l)

-- some code of these instructions, and some function that begins here
abbrev pub code_with : List Instr → Code
code_with is = record { functions = []; instructions = is; texts = []; globals = [] }

abbrev pub from_first : ℕ → FunctionCode
from_first first = record { name = []; first = first; registers = 0; parameters = 0 }
