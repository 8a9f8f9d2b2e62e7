-- The locals of a call, from one parameter to the next.
use Rattle.std.proofs.Common.{◌≡◌, ℕ, suc, ◌+◌, ◌<◌, List, [], ◌∷◌, ◌++◌, length, map, drop, get_or, Option, Some, None, option_map, unwrap_or, refl, sym, ap, ◌∙◌, append_assoc, append-nil}
use Rattle.std.proofs.lemmas.List.{drop_more, map-append}
use Rattle.syntax.specs.declared.tree.Parameter.{Parameter as OwnParameter}
use Rattle.syntax.specs.declared.tree.Name.{Name as OwnName}
use Rattle.syntax.specs.Views.{parameter_of, name_of}
use Rattle.syntax.specs.Tree.{Parameter}
use Rattle.syntax.specs.Names.{Local}
use Rattle.syntax.specs.declared.value.Value.{Value}
use Rattle.syntax.specs.Numbers.{value_in_type}
use Rattle.syntax.specs.Meaning.{parameter_local, call_locals}
use Rattle.meaning.specs.declared.source_thread.Local as L
use Rattle.meaning.specs.inner.SourceThread.{local_in}

pushed_local : (ls ks : List L.Local) (l : L.Local) → ks ≡ ls ++ l ∷ [] → map local_in ks ≡ map local_in ls ++ local_in l ∷ []
pushed_local ls ks l e = ap (map local_in) e ∙ map-append local_in ls (l ∷ [])

-- as many arguments as parameters
pub unfit : (qs : List Parameter) (vs : List Value) → (length qs ≡ length vs → ⊥) → call_locals qs vs ≡ None
unfit [] [] h = absurd (h refl)
unfit [] (v ∷ vs) h = refl
unfit (q ∷ qs) [] h = refl
unfit (q ∷ qs) (v ∷ vs) h = ap (option_map (λ ls. parameter_local q v ++ ls)) (unfit qs vs (λ e. h (ap suc e)))

joined : (xs ys : List Local) (o : Option (List Local)) → option_map (λ ls. xs ++ ls) (option_map (λ ls. ys ++ ls) o) ≡ option_map (λ ls. (xs ++ ys) ++ ls) o
joined xs ys None = refl
joined xs ys (Some ls) = ap Some (sym (append_assoc xs ys ls))

module _ {A : Type 0} (ps : List (OwnParameter A)) (vs : List Value) (i : ℕ) (q : OwnParameter A) (d : Value) (mine : List L.Local) (whole : Option (List Local)) (h : i < length ps) (k : i < length vs) (is : q ≡ get_or ps i q)
    (so_far : option_map (λ ls. map local_in mine ++ ls) (call_locals (map parameter_of (drop i ps)) (drop i vs)) ≡ whole) where
  entered_more : (ms : List Local) → ms ≡ map local_in mine ++ parameter_local (parameter_of q) (get_or vs i d) → option_map (λ ls. ms ++ ls) (call_locals (map parameter_of (drop (i + 1) ps)) (drop (i + 1) vs)) ≡ whole
  entered_more ms e =
      ap (λ xs. option_map (λ ls. xs ++ ls) (call_locals (map parameter_of (drop (i + 1) ps)) (drop (i + 1) vs))) e
      ∙ sym (joined (map local_in mine) (parameter_local (parameter_of q) (get_or vs i d)) (call_locals (map parameter_of (drop (i + 1) ps)) (drop (i + 1) vs)))
      ∙ ap (λ x. option_map (λ ls. map local_in mine ++ ls) (call_locals (parameter_of x ∷ map parameter_of (drop (i + 1) ps)) (get_or vs i d ∷ drop (i + 1) vs))) is
      ∙ sym (ap (λ xs. option_map (λ ls. map local_in mine ++ ls) (call_locals (map parameter_of xs) (get_or vs i d ∷ drop (i + 1) vs))) (drop_more ps i q h))
      ∙ sym (ap (λ us. option_map (λ ls. map local_in mine ++ ls) (call_locals (map parameter_of (drop i ps)) us)) (drop_more vs i d k)) ∙ so_far

  pub unnamed : q.name ≡ None → option_map (λ ls. map local_in mine ++ ls) (call_locals (map parameter_of (drop (i + 1) ps)) (drop (i + 1) vs)) ≡ whole
  unnamed none =
      entered_more (map local_in mine)
      (sym (append-nil (map local_in mine)) ∙ sym (ap (λ o. map local_in mine ++ unwrap_or (option_map (λ x. record { name = x.text; ty = q.ty; word = (value_in_type q.ty (get_or vs i d)).word } ∷ []) (option_map name_of o)) []) none))

  pub named : (x : OwnName A) (l : L.Local) (now : List L.Local) → q.name ≡ Some x → now ≡ mine ++ l ∷ [] → l.name.now ≡ x.text → l.ty ≡ q.ty → l.word ≡ (value_in_type q.ty (get_or vs i d)).word →
      option_map (λ ls. map local_in now ++ ls) (call_locals (map parameter_of (drop (i + 1) ps)) (drop (i + 1) vs)) ≡ whole
  named x l now some grown one two three =
      entered_more (map local_in now)
      (pushed_local mine now l grown
      ∙ ap (λ t. map local_in mine ++ record { name = t; ty = l.ty; word = l.word } ∷ []) one
      ∙ ap (λ t. map local_in mine ++ record { name = x.text; ty = t; word = l.word } ∷ []) two
      ∙ ap (λ t. map local_in mine ++ record { name = x.text; ty = q.ty; word = t } ∷ []) three
      ∙ sym (ap (λ o. map local_in mine ++ unwrap_or (option_map (λ y. record { name = y.text; ty = q.ty; word = (value_in_type q.ty (get_or vs i d)).word } ∷ []) (option_map name_of o)) []) some))
