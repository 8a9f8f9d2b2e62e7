-- Journals: undoing in two parts, and what each call leaves.
use Rattle.std.proofs.Common.{◌≡◌, ◌<◌, ◌≤◌, ◌+◌, ℕ, zero, suc, List, [], ◌∷◌, ◌++◌, Some, ◌⊎◌, inl, inr, refl, sym, ◌∙◌, ap, subst, length, get_or, take, drop, map, arith}
use Rattle.std.specs.List.{slice_get}
use Rattle.std.proofs.lemmas.Bool.{cases_lt}
use Rattle.std.proofs.lemmas.List.{take-append-drop, take-append-le, drop-append-le, drop_all, length-take-le, length_push, get_or-take, get_or_append_left, get_or_push, map-append}
use Rattle.write_log.specs.declared.pairs.Change.{Change}
use Rattle.write_log.specs.inner.Journal.{undone, CanUndo, all_undone, CanUndoAll, list_at, IsJournalOf}

pub undone-append : (cs ds : List Change) (ps : List (ℕ × ℕ)) → all_undone (cs ++ ds) ps ≡ all_undone cs (all_undone ds ps)
undone-append [] ds ps = refl
undone-append (c ∷ cs) ds ps = ap (undone c) (undone-append cs ds ps)

pub can-append : (cs ds : List Change) (ps : List (ℕ × ℕ)) → CanUndoAll cs (all_undone ds ps) → CanUndoAll ds ps → CanUndoAll (cs ++ ds) ps
can-append [] ds ps h k = k
can-append (c ∷ cs) ds ps h k = (can-append cs ds ps h.0 k, subst (CanUndo c) (sym (undone-append cs ds ps)) h.1)

pub can-split : (cs ds : List Change) (ps : List (ℕ × ℕ)) → CanUndoAll (cs ++ ds) ps → CanUndoAll cs (all_undone ds ps) × CanUndoAll ds ps
can-split [] ds ps h = (tt, h)
can-split (c ∷ cs) ds ps h = let r = can-split cs ds ps h.0 in ((r.0, subst (CanUndo c) (undone-append cs ds ps) h.1), r.1)

-- ---- one change undone

pub left_of : (n : ℕ) (journal left : List Change) (c : Change) → journal ≡ left ++ c ∷ [] → n ≤ length left → take n left ≡ take n journal
left_of n journal left c e le = sym (ap (take n) e ∙ take-append-le n left (c ∷ []) le)

drop_of : (n : ℕ) (journal left : List Change) (c : Change) → journal ≡ left ++ c ∷ [] → n ≤ length left → drop n journal ≡ drop n left ++ c ∷ []
drop_of n journal left c e le = ap (drop n) e ∙ drop-append-le n left (c ∷ []) le

pub leads_on : (n : ℕ) (journal left : List Change) (c : Change) (ps : List (ℕ × ℕ)) → journal ≡ left ++ c ∷ [] → n ≤ length left → all_undone (drop n left) (undone c ps) ≡ all_undone (drop n journal) ps
leads_on n journal left c ps e le = sym (ap (λ cs. all_undone cs ps) (drop_of n journal left c e le) ∙ undone-append (drop n left) (c ∷ []) ps)

pub can_last : (n : ℕ) (journal left : List Change) (c : Change) (ps : List (ℕ × ℕ)) → journal ≡ left ++ c ∷ [] → n ≤ length left → CanUndoAll (drop n journal) ps → CanUndo c ps × CanUndoAll (drop n left) (undone c ps)
can_last n journal left c ps e le h = let r = can-split (drop n left) (c ∷ []) ps (subst (λ cs. CanUndoAll cs ps) (drop_of n journal left c e le) h) in (r.1.1, r.0)

-- ---- marks by index

pub map_same : (f g : ℕ → List (ℕ × ℕ)) (marks : List ℕ) → ((i : ℕ) → i < length marks → f (get_or marks i 0) ≡ g (get_or marks i 0)) → map f marks ≡ map g marks
map_same f g [] h = refl
map_same f g (m ∷ marks) h = ap (λ x. x ∷ map f marks) (h 0 (omega arith)) ∙ ap (λ l. g m ∷ l) (map_same f g marks (λ i l. h (suc i) (omega arith)))

pub get_map : (f : ℕ → List (ℕ × ℕ)) (marks : List ℕ) (i : ℕ) → i < length marks → slice_get (map f marks) i ≡ Some (f (get_or marks i 0))
get_map f [] i l = absurd (omega arith)
get_map f (m ∷ marks) zero l = refl
get_map f (m ∷ marks) (suc i) l = get_map f marks i (omega arith)

-- ---- what each call leaves

-- a put: qs are the pairs with the change
pub journal-put : (ps qs : List (ℕ × ℕ)) (journal : List Change) (c : Change) (marks : List ℕ) → undone c qs ≡ ps → CanUndo c qs → IsJournalOf ps journal marks → IsJournalOf qs (journal ++ c ∷ []) marks
journal-put ps qs journal c marks e can j = record {
  rising = j.rising;
  within = λ i l. let h = j.within i l in omega (arith, length_push journal c);
  undoes = λ i l.
      rw (drop-append-le (get_or marks i 0) journal (c ∷ []) (j.within i l))
      (can-append (drop (get_or marks i 0) journal) (c ∷ []) qs (subst (CanUndoAll (drop (get_or marks i 0) journal)) (sym e) (j.undoes i l)) (tt, can));
}

pub lists-put : (ps qs : List (ℕ × ℕ)) (journal : List Change) (c : Change) (marks : List ℕ) → undone c qs ≡ ps → IsJournalOf ps journal marks → map (list_at (journal ++ c ∷ []) qs) marks ≡ map (list_at journal ps) marks
lists-put ps qs journal c marks e j = map_same _ _ marks (λ i l.
    ap (λ cs. all_undone cs qs) (drop-append-le (get_or marks i 0) journal (c ∷ []) (j.within i l))
    ∙ undone-append (drop (get_or marks i 0) journal) (c ∷ []) qs
    ∙ ap (all_undone (drop (get_or marks i 0) journal)) e)

-- without marks the journal is of any pairs
pub journal-none : (ps : List (ℕ × ℕ)) (journal : List Change) → IsJournalOf ps journal []
journal-none ps journal = record { rising = λ i j le l. absurd (omega arith); within = λ i l. absurd (omega arith); undoes = λ i l. absurd (omega arith) }

-- fewer marks
pub journal-taken : (ps : List (ℕ × ℕ)) (journal : List Change) (marks : List ℕ) (depth : ℕ) → depth ≤ length marks → IsJournalOf ps journal marks → IsJournalOf ps journal (take depth marks)
journal-taken ps journal marks depth le j = record {
  rising = λ i k ik l. rw (get_or-take depth marks i 0 (omega (arith, long)), get_or-take depth marks k 0 (omega (arith, long))) (j.rising i k ik (omega (arith, long)));
  within = λ i l. rw (get_or-take depth marks i 0 (omega (arith, long))) (j.within i (omega (arith, long)));
  undoes = λ i l. rw (get_or-take depth marks i 0 (omega (arith, long))) (j.undoes i (omega (arith, long)));
}
  where
    long : length (take depth marks) ≡ depth
    long = length-take-le depth marks le

-- a mark more
pub journal-marked : (ps : List (ℕ × ℕ)) (journal : List Change) (marks : List ℕ) → IsJournalOf ps journal marks → IsJournalOf ps journal (marks ++ length journal ∷ [])
journal-marked ps journal marks j = record {
  rising = λ i k ik l. rising i k ik (omega (arith, long)) (cases_lt k (length marks)) (cases_lt i (length marks));
  within = λ i l. within i (cases_lt i (length marks)) (omega (arith, long));
  undoes = λ i l. undoes i (cases_lt i (length marks)) (omega (arith, long));
}
  where
    long : length (marks ++ length journal ∷ []) ≡ length marks + 1
    long = length_push marks (length journal)

    rising : (i k : ℕ) → i ≤ k → k < length marks + 1 → (k < length marks) ⊎ (length marks ≤ k) → (i < length marks) ⊎ (length marks ≤ i) → get_or (marks ++ length journal ∷ []) i 0 ≤ get_or (marks ++ length journal ∷ []) k 0
    rising i k ik l (inl a) b = rw (get_or_append_left marks (length journal ∷ []) 0 i (omega arith), get_or_append_left marks (length journal ∷ []) 0 k a) (j.rising i k ik a)
    rising i k ik l (inr a) (inl b) = rw (get_or_append_left marks (length journal ∷ []) 0 i b, get_or_push marks (length journal) 0 k (omega arith)) (j.within i b)
    rising i k ik l (inr a) (inr b) = rw (get_or_push marks (length journal) 0 i (omega arith), get_or_push marks (length journal) 0 k (omega arith)) (omega arith)

    within : (i : ℕ) → (i < length marks) ⊎ (length marks ≤ i) → i < length marks + 1 → get_or (marks ++ length journal ∷ []) i 0 ≤ length journal
    within i (inl a) l = rw (get_or_append_left marks (length journal ∷ []) 0 i a) (j.within i a)
    within i (inr a) l = rw (get_or_push marks (length journal) 0 i (omega arith)) (omega arith)

    undoes : (i : ℕ) → (i < length marks) ⊎ (length marks ≤ i) → i < length marks + 1 → CanUndoAll (drop (get_or (marks ++ length journal ∷ []) i 0) journal) ps
    undoes i (inl a) l = rw (get_or_append_left marks (length journal ∷ []) 0 i a) (j.undoes i a)
    undoes i (inr a) l = rw (get_or_push marks (length journal) 0 i (omega arith), drop_all (length journal) journal (omega arith)) tt

pub lists-marked : (ps : List (ℕ × ℕ)) (journal : List Change) (marks : List ℕ) → map (list_at journal ps) (marks ++ length journal ∷ []) ≡ map (list_at journal ps) marks ++ ps ∷ []
lists-marked ps journal marks =
    map-append (list_at journal ps) marks (length journal ∷ [])
    ∙ ap (λ cs. map (list_at journal ps) marks ++ all_undone cs ps ∷ []) (drop_all (length journal) journal (omega arith))

-- the journal up to n, and what follows it, undone
module _ (ps : List (ℕ × ℕ)) (journal : List Change) (n m : ℕ) (mn : m ≤ n) (le : n ≤ length journal) where
  parts : drop m journal ≡ drop m (take n journal) ++ drop n journal
  parts = ap (drop m) (sym (take-append-drop n journal)) ∙ drop-append-le m (take n journal) (drop n journal) (rw (length-take-le n journal le) mn)

  pub list_back : list_at (take n journal) (list_at journal ps n) m ≡ list_at journal ps m
  list_back = sym (ap (λ cs. all_undone cs ps) parts ∙ undone-append (drop m (take n journal)) (drop n journal) ps)

  pub can_back : CanUndoAll (drop m journal) ps → CanUndoAll (drop m (take n journal)) (list_at journal ps n)
  can_back h = (can-split (drop m (take n journal)) (drop n journal) ps (subst (λ cs. CanUndoAll cs ps) parts h)).0

-- going back to the mark of a depth
module _ (ps : List (ℕ × ℕ)) (journal : List Change) (marks : List ℕ) (depth : ℕ) (lt : depth < length marks) (j : IsJournalOf ps journal marks) where
  pub journal-back : IsJournalOf (list_at journal ps (get_or marks depth 0)) (take (get_or marks depth 0) journal) (take depth marks)
  journal-back = record {
    rising = (journal-taken ps journal marks depth (omega arith) j).rising;
    within = λ i l. rw (get_or-take depth marks i 0 (omega (arith, long)), length-take-le (get_or marks depth 0) journal (j.within depth lt)) (j.rising i depth (omega (arith, long)) lt);
    undoes = λ i l. rw (get_or-take depth marks i 0 (omega (arith, long)))
        (can_back ps journal (get_or marks depth 0) (get_or marks i 0) (j.rising i depth (omega (arith, long)) lt) (j.within depth lt) (j.undoes i (omega (arith, long))));
  }
    where
      long : length (take depth marks) ≡ depth
      long = length-take-le depth marks (omega arith)

  pub lists-back : map (list_at (take (get_or marks depth 0) journal) (list_at journal ps (get_or marks depth 0))) (take depth marks) ≡ map (list_at journal ps) (take depth marks)
  lists-back = map_same _ _ (take depth marks) (λ i l.
      rw (get_or-take depth marks i 0 (omega (arith, long)))
      (list_back ps journal (get_or marks depth 0) (get_or marks i 0) (j.rising i depth (omega (arith, long)) lt) (j.within depth lt)))
    where
      long : length (take depth marks) ≡ depth
      long = length-take-le depth marks (omega arith)
