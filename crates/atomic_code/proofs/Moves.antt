-- A thread under the moves of its frames: its begins stay where they are.
use Rattle.std.proofs.Common.{◌≡◌, List, [], ◌∷◌, ◌++◌, Option, None, Some, refl, sym, ◌∙◌, ap, map}
use Rattle.nesting.specs.Begins.{Saved}
use Rattle.bytecode.specs.Effects.{after_cancel}
use Rattle.bytecode.specs.Code.{Code, Configuration, effect}
use Rattle.bytecode.specs.Sequential.{OpenTransaction, InnerTransaction}
use Rattle.frames.specs.Open.{AreRestored, begin_configuration}
use Rattle.atomic_code.specs.Threads.{cancelled_from, inner_by, open_by, begins_of}

module _ {S T : Type 0} where
  -- two functions that agree on the begins say the same of the transactions
  same_inner : (f g : S → T) (is : List (InnerTransaction S)) (s : S) →
      map f (map (λ (i : InnerTransaction S). i.cancelled) is ++ s ∷ []) ≡ map g (map (λ (i : InnerTransaction S). i.cancelled) is ++ s ∷ []) →
      (map (inner_by f) is ≡ map (inner_by g) is) × (f s ≡ g s)
  same_inner f g [] s e = (refl, let h : f s ≡ g s = cc in h)
  same_inner f g (i ∷ is) s e =
      let a : f i.cancelled ≡ g i.cancelled = cc in
      let b : map f (map (λ (i : InnerTransaction S). i.cancelled) is ++ s ∷ []) ≡ map g (map (λ (i : InnerTransaction S). i.cancelled) is ++ s ∷ []) = cc in
      let r = same_inner f g is s b in
      (at a r.0, r.1)
    where
      at : f i.cancelled ≡ g i.cancelled → map (inner_by f) is ≡ map (inner_by g) is → map (inner_by f) (i ∷ is) ≡ map (inner_by g) (i ∷ is)
      at a b = ap (λ (p : T). record { cancelled = p; mem = i.mem } ∷ map (inner_by f) is) a ∙ ap (λ (xs : List (InnerTransaction T)). inner_by g i ∷ xs) b

  pub same_open : (f g : S → T) (o : Option (OpenTransaction S)) → map f (begins_of o) ≡ map g (begins_of o) → open_by f o ≡ open_by g o
  same_open f g None e = refl
  same_open f g (Some o) e =
      let r = same_inner f g o.inner o.cancelled e in
      ap (λ (p : T). Some (record { cancelled = p; found = o.found; mem = o.mem; inner = map (inner_by f) o.inner; kept = o.kept })) r.1
      ∙ ap (λ (is : List (InnerTransaction T)). Some (record { cancelled = g o.cancelled; found = o.found; mem = o.mem; inner = is; kept = o.kept })) r.0

  two_maps : {U : Type 0} (h : T → U) (f : S → T) (ss : List S) → map (λ s. h (f s)) ss ≡ map h (map f ss)
  two_maps h f [] = refl
  two_maps {U} h f (s ∷ ss) = ap (λ (us : List U). h (f s) ∷ us) (two_maps h f ss)

-- begins that are restored to the same are cancelled to the same
same_cancelled : (code : Code) (c d : Configuration) (ss : List Saved) → AreRestored c d ss → map (cancelled_from code d) ss ≡ map (cancelled_from code c) ss
same_cancelled code c d ss e =
    let h : Configuration → Configuration = λ x. after_cancel (effect code x) x in
    two_maps h (begin_configuration d) ss ∙ ap (map h) e ∙ sym (two_maps h (begin_configuration c) ss)

pub shown_there : (code : Code) (c d : Configuration) (o : Option (OpenTransaction Saved)) → AreRestored c d (begins_of o) → open_by (cancelled_from code d) o ≡ open_by (cancelled_from code c) o
shown_there code c d o e = same_open (cancelled_from code d) (cancelled_from code c) o (same_cancelled code c d (begins_of o) e)
