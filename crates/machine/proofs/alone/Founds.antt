-- What a program that a code means finds alone is memories.
use Rattle.std.proofs.Common.{◌≡◌, ◌+◌, ℕ, suc, List, [], ◌∷◌, ◌++◌, length, refl, sym, ◌∙◌, ap, subst, add-zero, append_assoc, length-append, arith}
use Rattle.std.specs.List.{AllByRecursion}
use Rattle.syntax.specs.Behaviours.{Behaviour, Ended, IsChained, IsMemory, Means, Memory, Outcome, Step, Stopped, ThreadEnd, founds_of, lefts_of}
use Rattle.syntax.specs.declared.thread_end.Halt.TheVariants.{Astray, Spent, Trapped, Wants}
use Rattle.syntax.specs.Threads.{thread}
use Rattle.syntax.specs.Tree.{Program}
use Rattle.syntax.proofs.running.Counted.{left_as_many_as_found, never_more_left}
use Rattle.syntax.proofs.running.MoreFounds.{more_founds}
use Rattle.syntax.proofs.running.ThreadLaws.{goes_on}
use Rattle.machine.proofs.alone.Alone.{Feeds}
use Rattle.machine.proofs.alone.OneThread.{fed}
use Rattle.machine.proofs.parts.Part.{each_append}

-- the one after these is among the first of the same list
at_end : (P : Memory → Type 0) (done front back : List Memory) (l : Memory) (ls : List Memory) → done ++ l ∷ ls ≡ front ++ back → length front ≡ suc (length done) → AllByRecursion P front → P l
at_end P done [] back l ls e n all = absurd (omega (arith, n))
at_end P [] (x ∷ front) back l ls e n all = let same : x ≡ l = cc in subst P same all.0
at_end P (d ∷ done) (x ∷ front) back l ls e n all = at_end P done front back l ls (cc) (let k : suc (length front) ≡ suc (suc (length done)) = n in omega (arith, k)) all.1

same_length : (m : Memory) (fs ls : List Memory) → Feeds m fs ls → length ls ≡ length fs
same_length m [] [] f = refl
same_length m (x ∷ fs) (l ∷ ls) f = ap suc (same_length l fs ls f.1)
same_length m [] (l ∷ ls) f = absurd f
same_length m (x ∷ fs) [] f = absurd f

module _ (bounds : List ℕ) (code : Behaviour) (leaves : (t : ℕ) (fs : List Memory) (n : ℕ) → AllByRecursion (IsMemory bounds) fs → AllByRecursion (IsMemory bounds) (code t fs n).lefts) (p : Program) (means : Means bounds code (thread p)) where
  source_leaves : (fs : List Memory) (n : ℕ) → AllByRecursion (IsMemory bounds) fs → AllByRecursion (IsMemory bounds) (thread p 0 fs n).lefts
  source_leaves fs n all = let c = means.there 0 fs (omega arith) all n in subst (λ (o : Outcome). AllByRecursion (IsMemory bounds) o.lefts) c.1 (leaves 0 fs c.0 all)

  -- where it finds one more, it has left one for each before
  firsts : (fs : List Memory) (m : Memory) (more : List Memory) (n : ℕ) → length (thread p 0 (fs ++ m ∷ more) n).lefts ≡ length (fs ++ m ∷ more)
      → (back : List Memory) × ((thread p 0 (fs ++ m ∷ more) n).lefts ≡ (thread p 0 fs n).lefts ++ back) × (length (thread p 0 fs n).lefts ≡ length fs)
  firsts fs m more n whole = at (thread p 0 fs n).end refl
    where
      no_more : ((thread p 0 fs n).end ≡ Stopped Wants → ⊥) → ⊥
      no_more ne =
          let same = more_founds p 0 fs (m ∷ more) n ne in
          let few = never_more_left p 0 fs n in
          let count : length (thread p 0 fs n).lefts ≡ length (fs ++ m ∷ more) = ap (λ (o : Outcome). length o.lefts) (sym same) ∙ whole in
          let long = length-append fs (m ∷ more) in
          omega (arith, few, count, long)

      at : (e : ThreadEnd) → (thread p 0 fs n).end ≡ e → (back : List Memory) × ((thread p 0 (fs ++ m ∷ more) n).lefts ≡ (thread p 0 fs n).lefts ++ back) × (length (thread p 0 fs n).lefts ≡ length fs)
      at (Stopped Wants) e =
          let g = goes_on p 0 fs (m ∷ more) n 0 in
          (g.further, ap (λ k. (thread p 0 (fs ++ m ∷ more) k).lefts) (sym (add-zero n)) ∙ g.lefts, left_as_many_as_found p 0 fs n e)
      at Ended e = absurd (no_more (λ f. let x : Ended ≡ Stopped Wants = sym e ∙ f in absurd (cc)))
      at (Stopped Spent) e = absurd (no_more (λ f. let x : Stopped Spent ≡ Stopped Wants = sym e ∙ f in absurd (cc)))
      at (Stopped Astray) e = absurd (no_more (λ f. let x : Stopped Astray ≡ Stopped Wants = sym e ∙ f in absurd (cc)))
      at (Stopped (Trapped cause)) e = absurd (no_more (λ f. let x : Stopped (Trapped cause) ≡ Stopped Wants = sym e ∙ f in absurd (cc)))

  -- from one found to the next
  walk : (n : ℕ) (before done : List Memory) (m : Memory) (fs ls : List Memory) → (thread p 0 (before ++ fs) n).lefts ≡ done ++ ls → length done ≡ length before → AllByRecursion (IsMemory bounds) before → IsMemory bounds m → Feeds m fs ls → AllByRecursion (IsMemory bounds) fs
  walk n before done m [] ls le count all is f = tt
  walk n before done m (x ∷ fs) [] le count all is f = absurd f
  walk n before done m (x ∷ []) (l ∷ ls) le count all is f = (subst (IsMemory bounds) (sym f.0) is, tt)
  walk n before done m (x ∷ y ∷ fs) (l ∷ ls) le count all is f =
      let here : IsMemory bounds x = subst (IsMemory bounds) (sym f.0) is in
      let all1 : AllByRecursion (IsMemory bounds) (before ++ x ∷ []) = each_append (IsMemory bounds) before x all here in
      let le1 : (thread p 0 ((before ++ x ∷ []) ++ y ∷ fs) n).lefts ≡ done ++ l ∷ ls = ap (λ zs. (thread p 0 zs n).lefts) (append_assoc before (x ∷ []) (y ∷ fs)) ∙ le in
      let le2 : (thread p 0 ((before ++ x ∷ []) ++ y ∷ fs) n).lefts ≡ (done ++ l ∷ []) ++ ls = le1 ∙ sym (append_assoc done (l ∷ []) ls) in
      let fed_more = same_length x (x ∷ y ∷ fs) (l ∷ ls) (refl, f.1) in
      let count1 : length (done ++ l ∷ []) ≡ length (before ++ x ∷ []) = (let a = length-append done (l ∷ []) in let b = length-append before (x ∷ []) in omega (arith, a, b, count)) in
      let sizes : length (thread p 0 ((before ++ x ∷ []) ++ y ∷ fs) n).lefts ≡ length ((before ++ x ∷ []) ++ y ∷ fs) = (
      let a = ap length le1 in
      let b = length-append done (l ∷ ls) in
      let c = length-append (before ++ x ∷ []) (y ∷ fs) in
      let d = length-append before (x ∷ []) in
      omega (arith, a, b, c, d, count, fed_more)
      ) in
      let g = firsts (before ++ x ∷ []) y fs n sizes in
      let d : length (before ++ x ∷ []) ≡ length before + 1 = length-append before (x ∷ []) in
      let left : IsMemory bounds l = at_end (IsMemory bounds) done (thread p 0 (before ++ x ∷ []) n).lefts g.0 l ls (sym le1 ∙ g.1) (omega (arith, g.2, d, count)) (source_leaves (before ++ x ∷ []) n all1) in
      (here, walk n (before ++ x ∷ []) (done ++ l ∷ []) l (y ∷ fs) ls le2 count1 all1 left f.1)

  -- what a run of thread 0 alone finds
  pub founds_memories : (m0 : Memory) (ss : List Step) (n : ℕ) → IsMemory bounds m0 → IsChained m0 ss → AllByRecursion (λ (s : Step). s.thread ≡ 0) ss → (thread p 0 (founds_of 0 ss) n).lefts ≡ lefts_of 0 ss → AllByRecursion (IsMemory bounds) (founds_of 0 ss)
  founds_memories m0 ss n is chain zero_only le = walk n [] [] m0 (founds_of 0 ss) (lefts_of 0 ss) le refl tt is (fed m0 ss chain zero_only).0
