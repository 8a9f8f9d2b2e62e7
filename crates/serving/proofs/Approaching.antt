-- Orders of a complete search: each can end, or has passed through a stuck state that is reached first, whose depth is at
-- most the number of turns that led there.
use Rattle.std.proofs.Common.{◌≡◌, ◌≢◌, ◌⊎◌, inl, inr, ℕ, zero, suc, ◌+◌, ◌*◌, ◌<◌, ◌≤◌, List, [], ◌∷◌, length, set, refl, sym, ap, subst, arith}
use Rattle.std.specs.Prelude.{slice_index}
use Rattle.std.specs.List.Sorted.{apply_swaps}
use Rattle.std.proofs.lemmas.List.{length-set}
use Rattle.std.proofs.lemmas.List.Elements.{All-get_or}
use Rattle.std.proofs.lemmas.Nat.{div-mul-add}
use Rattle.syntax.specs.Tree.{Program}
use Rattle.syntax.specs.Behaviours.{Memory}
use Rattle.bytecode.specs.Code.{Code, Configuration, effect}
use Rattle.bytecode.specs.Sequential.{Sequential}
use Rattle.states.specs.Leads.{EntryLeads}
use Rattle.states.specs.Like.{TurnLike}
use Rattle.states.specs.Rests.{end_at_rest}
use Rattle.states.specs.Shown.{IsOrderAmong}
use Rattle.live_registers.specs.Live.{live_by, same_live}
use Rattle.renamings.specs.Renamed.{AreAllowed, IsRenaming, renamed}
use Rattle.renamings.proofs.Renaming.{renamed_entry}
use Rattle.renamings.proofs.Swapping.{renamed_back, renamed_from, renamed_from_below, renaming_itself, renaming_trans}
use Rattle.renamings.proofs.Within.{ends_renamed}
use Rattle.walks.specs.Ended.{AreEnds}
use Rattle.walks.specs.Found.{state_at}
use Rattle.walks.specs.States.{resting}
use Rattle.walks.specs.Walks.{IsWalk, LeadsUpTo, begin_alike, depth_of, told_of, untold}
use Rattle.walks.specs.declared.turns.Walk.{Walk}
use Rattle.walks.proofs.Deepening.{turn_within}
use Rattle.walks.proofs.Finding.{renamed_there, told_leads}
use Rattle.walks.proofs.Following.{EndsBehind, PassesStuck}
use Rattle.walks.proofs.Turning.{state_long}
use Rattle.serving.specs.inner.Walked.{TurnsAddOne}

module _ {A : Type 0} (code : Code) (w : Walk A) (far : List ℕ) where
  abbrev Threads : Type 0
  Threads = List (Sequential Configuration)

  -- an order from a state that is at most n deep has passed a stuck state that is not deeper than the turns allow
  pub record PassesNear (n : ℕ) (m : Memory) (ks : Threads) (order : List ℕ) : Type 0 where
    pub passes : PassesStuck code w far m ks order
    pub deep : depth_of w passes.number ≤ n + length passes.before

  module _ (h : IsWalk code w) (ends : AreEnds code w far) (adds : TurnsAddOne w w.rows.count) (init : ℕ → Configuration) (p : Program) where
    is_told : (j t : ℕ) → j < w.rows.count → t < w.threads → told_of w (j * w.threads + t) ≢ untold
    is_told j t lt named = All-get_or (λ k. k ≢ untold) w.next.items (j * w.threads + t) untold (turn_within code w h j t lt named) ends.told

    -- a turn of a renaming of a state, and then an order
    module _ (n j t : ℕ) (ks : Threads) (order : List ℕ) (lt : j < w.rows.count) (near : depth_of w j ≤ n) (named : t < w.threads) (r : IsRenaming (begin_alike w) (state_at w j).1 ks) (some : slice_index far j ≢ 0) where
      -- the thread of the state whose turn it is
      abbrev u : ℕ
      u = renamed_from r.exchanges t

      allowed : AreAllowed (begin_alike w) w.threads r.exchanges
      allowed = subst (λ k. AreAllowed (begin_alike w) k r.exchanges) (state_long code w j h lt) r.allowed

      u_named : u < w.threads
      u_named = renamed_from_below (begin_alike w) w.threads r.exchanges t allowed named

      abbrev to : ℕ
      to = told_of w (j * w.threads + u)

      to_near : depth_of w to ≤ n + 1
      to_near = let one = adds j lt u u_named in omega (arith, near, one)

      l : LeadsUpTo code w j u to
      l = told_leads code w h j u lt u_named (is_told j u lt u_named)

      -- the threads after the turn, in the state and in its renaming
      abbrev behind_state : LeadsUpTo code w j u to → Threads
      behind_state x = set (state_at w j).1 u (resting w.slots.threads.items x.slot)

      abbrev mids : LeadsUpTo code w j u to → Threads
      mids x = apply_swaps (behind_state x) r.exchanges

      entry : (x : LeadsUpTo code w j u to) → EntryLeads end_at_rest (TurnLike (same_live (live_by w.live)) (effect code)) t (state_at w j).0 ks (state_at w to).0 (mids x)
      entry x =
          subst (λ k. EntryLeads end_at_rest (TurnLike (same_live (live_by w.live)) (effect code)) k (state_at w j).0 ks (state_at w to).0 (mids x)) (renamed_back r.exchanges t)
          (subst (λ ys. EntryLeads end_at_rest (TurnLike (same_live (live_by w.live)) (effect code)) (renamed r.exchanges u) (state_at w j).0 ys (state_at w to).0 (mids x)) (sym r.is)
          (renamed_entry end_at_rest (TurnLike (same_live (live_by w.live)) (effect code)) (begin_alike w) r.exchanges u (state_at w j).0 (state_at w j).1 (state_at w to).0 (behind_state x) r.allowed x.leads))

      mids_renamed : (x : LeadsUpTo code w j u to) → IsRenaming (begin_alike w) (state_at w to).1 (mids x)
      mids_renamed x =
          renaming_trans (begin_alike w) (state_at w to).1 (behind_state x) (mids x) (renamed_there code w j u to x) (record {
            exchanges = r.exchanges;
            allowed = subst (λ k. AreAllowed (begin_alike w) k r.exchanges) (sym (length-set (state_at w j).1 u (resting w.slots.threads.items x.slot))) r.allowed;
            is = refl;
          })

      behind : (x : LeadsUpTo code w j u to) → EndsBehind code w far (state_at w to).0 (mids x) order ⊎ PassesNear (n + 1) (state_at w to).0 (mids x) order → EndsBehind code w far (state_at w j).0 ks (t ∷ order) ⊎ PassesNear n (state_at w j).0 ks (t ∷ order)
      behind x (inl c) = inl (record {
        further = c.further;
        last = c.last;
        rest = c.rest;
        names = c.names;
        leads = ((state_at w to).0, mids x, entry x, c.leads);
        over = c.over;
      })
      behind x (inr near_more) = let c = near_more.passes in inr (record {
        passes = record {
          before = t ∷ c.before;
          after = c.after;
          is = ap (λ xs. t ∷ xs) c.is;
          number = c.number;
          there = c.there;
          stuck = c.stuck;
          met = c.met;
          rest = c.rest;
          leads = ((state_at w to).0, mids x, entry x, c.leads);
          renaming = c.renaming;
        };
        deep = let deep = near_more.deep in omega (arith, deep);
      })

      by : (x : LeadsUpTo code w j u to) (k : ℕ) → slice_index far to ≡ k → (slice_index far to ≢ 0 → EndsBehind code w far (state_at w to).0 (mids x) order ⊎ PassesNear (n + 1) (state_at w to).0 (mids x) order) → EndsBehind code w far (state_at w j).0 ks (t ∷ order) ⊎ PassesNear n (state_at w j).0 ks (t ∷ order)
      by x zero e go = inr (record {
        passes = record {
          before = t ∷ [];
          after = order;
          is = refl;
          number = to;
          there = h.told_there (j * w.threads + u) (is_told j u lt u_named);
          stuck = e;
          met = inr (j * w.threads + u, turn_within code w h j u lt u_named, refl, subst (λ i. slice_index far i ≢ 0) (sym (div-mul-add j w.threads u u_named)) some);
          rest = mids x;
          leads = ((state_at w to).0, mids x, entry x, (refl, refl));
          renaming = mids_renamed x;
        };
        deep = to_near;
      })
      by x (suc k) e go = behind x (go (λ none. absurd (omega (arith, e, none))))

    follow : (order : List ℕ) (n j : ℕ) (ks : Threads) → j < w.rows.count → depth_of w j ≤ n → IsOrderAmong w.threads order → IsRenaming (begin_alike w) (state_at w j).1 ks → slice_index far j ≢ 0 → EndsBehind code w far (state_at w j).0 ks order ⊎ PassesNear n (state_at w j).0 ks order
    follow [] n j ks lt near named r some =
        let e = ends_renamed (same_live (live_by w.live)) (effect code) init p (begin_alike w) w.threads (state_at w j).0 (state_at w j).1 ks (state_long code w j h lt) r (ends.ends init p j lt some) in
        inl (record { further = e.order; last = e.last; rest = e.rest; names = e.names; leads = e.leads; over = e.over })
    follow (t ∷ order) n j ks lt near named r some =
        let first = named 0 t (omega arith) in
        let k = to n j t ks order lt near first r some in
        let x = l n j t ks order lt near first r some in
        by n j t ks order lt near first r some x (slice_index far k) refl
        (λ other. follow order (n + 1) k (mids n j t ks order lt near first r some x) (h.told_there (j * w.threads + u n j t ks order lt near first r some) (is_told j (u n j t ks order lt near first r some) lt (u_named n j t ks order lt near first r some)))
        (to_near n j t ks order lt near first r some) (λ i d below. named (suc i) d (omega (arith, below))) (mids_renamed n j t ks order lt near first r some x) other)

    -- an order from the first state
    pub follow_near : 0 < w.rows.count → (order : List ℕ) → IsOrderAmong w.threads order → EndsBehind code w far (state_at w 0).0 (state_at w 0).1 order ⊎ PassesNear 0 (state_at w 0).0 (state_at w 0).1 order
    follow_near there order named = from (slice_index far 0) refl
      where
        here : depth_of w 0 ≤ 0
        here = let e = h.first in omega (arith, e)

        itself : IsRenaming (begin_alike w) (state_at w 0).1 (state_at w 0).1
        itself = renaming_itself (begin_alike w) (state_at w 0).1

        from : (k : ℕ) → slice_index far 0 ≡ k → EndsBehind code w far (state_at w 0).0 (state_at w 0).1 order ⊎ PassesNear 0 (state_at w 0).0 (state_at w 0).1 order
        from zero e = inr (record {
          passes = record { before = []; after = order; is = refl; number = 0; there = there; stuck = e; met = inl refl; rest = (state_at w 0).1; leads = (refl, refl); renaming = itself };
          deep = here;
        })
        from (suc k) e = follow order 0 0 (state_at w 0).1 there here named itself (λ none. absurd (omega (arith, e, none)))
