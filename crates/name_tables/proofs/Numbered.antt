-- What a scope's numbers say.
use denote.Ref.{Bor}
use Rattle.std.proofs.Common.{◌≡◌, ℕ, zero, suc, ◌+◌, ◌-◌, ◌<◌, ◌≤◌, List, [], ◌∷◌, ◌++◌, length, Bool, true, false, cond, refl, sym, ap, ◌∙◌, subst, map, reverse, bytes_eq, if◌then◌else◌, Option, Some, None, option_map, slice_get, unwrap_or, arith, get_or, Result, Ok, Err, OnOk, OnErr}
use Rattle.std.specs.Option.{option_or}
use Rattle.std.proofs.lemmas.List.{map-append, reverse-append, reverse-reverse, length-reverse, length-map}
use Rattle.std.proofs.lemmas.Slice.Eq.{bytes_eq-Decides}
use Rattle.std.proofs.lemmas.Map.Text.{hash_map_updates_str}
use Rattle.std.specs.HashMap.{Updates}
use Rattle.name_tables.specs.Named.{newest}
use Rattle.name_tables.specs.inner.Maps.{NameMap, value_at}
use Rattle.name_tables.proofs.Newest.{newest_last}
use Rattle.name_tables.specs.declared.entries.LocalEntry.{LocalEntry}
use Rattle.name_tables.specs.Known.{local_of}
use Rattle.name_tables.specs.inner.Numbers.{number_at, number_in, hidden_by, AreHidden, AreNumbered}

module _ {V : Type 0} where
  reverse-last : (ls : List (LocalEntry V)) (l : LocalEntry V) → reverse (ls ++ l ∷ []) ≡ l ∷ reverse ls
  reverse-last ls l = reverse-append ls (l ∷ [])

  reverse-first : (l : LocalEntry V) (rs : List (LocalEntry V)) → reverse (l ∷ rs) ≡ reverse rs ++ l ∷ []
  reverse-first l rs = reverse-append (l ∷ []) rs

  -- a number is no more than there are locals
  pub below : (rs : List (LocalEntry V)) (x : List ℕ) → number_in rs x ≤ length rs
  below [] x = omega arith
  below (l ∷ rs) x = by (bytes_eq l.name.now x) (below rs x)
    where
      by : (b : Bool) → number_in rs x ≤ length rs → (if b then suc (length rs) else number_in rs x) ≤ suc (length rs)
      by true h = omega arith
      by false h = omega (arith, h)

  -- the local of a number, by its index and value
  abbrev pub local_at : List (LocalEntry V) → ℕ → Option (ℕ × V)
  local_at ls zero = None
  local_at ls (suc k) = option_map (λ l. (k, l.value)) (slice_get ls k)

  get_left : (ls ms : List (LocalEntry V)) (k : ℕ) → k < length ls → slice_get (ls ++ ms) k ≡ slice_get ls k
  get_left [] ms k h = absurd (omega (arith, h))
  get_left (l ∷ ls) ms zero h = refl
  get_left (l ∷ ls) ms (suc k) h = get_left ls ms k (omega (arith, h))

  get_seam : (ls : List (LocalEntry V)) (l : LocalEntry V) → slice_get (ls ++ l ∷ []) (length ls) ≡ Some l
  get_seam [] l = refl
  get_seam (m ∷ ls) l = get_seam ls l

  at_left : (ls ms : List (LocalEntry V)) (k : ℕ) → k ≤ length ls → local_at (ls ++ ms) k ≡ local_at ls k
  at_left ls ms zero h = refl
  at_left ls ms (suc k) h = ap (option_map (λ l. (k, l.value))) (get_left ls ms k (omega (arith, h)))

  found_first : (rs : List (LocalEntry V)) (x : List ℕ) → newest (map local_of (reverse rs)) x ≡ local_at (reverse rs) (number_in rs x)
  found_first [] x = refl
  found_first (l ∷ rs) x =
      ap (λ ls. newest (map local_of ls) x) (reverse-first l rs)
      ∙ ap (λ es. newest es x) (map-append local_of (reverse rs) (l ∷ []))
      ∙ newest_last (map local_of (reverse rs)) (local_of l) 0 x
      ∙ by (bytes_eq l.name.now x) (found_first rs x)
      ∙ ap (λ ls. local_at ls (number_in (l ∷ rs) x)) (sym (reverse-first l rs))
    where
      by : (b : Bool) → newest (map local_of (reverse rs)) x ≡ local_at (reverse rs) (number_in rs x) → (if b then Some (0 + length (map local_of (reverse rs)), l.value) else newest (map local_of (reverse rs)) x)
          ≡ local_at (reverse rs ++ l ∷ []) (if b then suc (length rs) else number_in rs x)
      by true h =
          let e : 0 + length (map local_of (reverse rs)) ≡ length rs = (let s = length-map (reverse rs) local_of ∙ length-reverse rs in omega (arith, s)) in
          ap (λ n. Some (n, l.value)) e
          ∙ sym (ap (option_map (λ m. (length rs, m.value))) (ap (slice_get (reverse rs ++ l ∷ [])) (sym (length-reverse rs)) ∙ get_seam (reverse rs) l))
      by false h = h ∙ sym (at_left (reverse rs) (l ∷ []) (number_in rs x) (subst (λ n. number_in rs x ≤ n) (sym (length-reverse rs)) (below rs x)))

  -- the newest local of a name is the one of its number
  pub found : (ls : List (LocalEntry V)) (x : List ℕ) → newest (map local_of ls) x ≡ local_at ls (number_in (reverse ls) x)
  found ls x = subst (λ ms. newest (map local_of ms) x ≡ local_at ms (number_in (reverse ls) x)) (reverse-reverse ls) (found_first (reverse ls) x)

looked : (old new : NameMap ℕ) (n : Bor (List ℕ)) (k : ℕ) → Updates (λ a b. bytes_eq a.now b.now) old new n (Some k) → (x : List ℕ) → number_at new x ≡ unwrap_or (cond (bytes_eq n.now x) (Some k) (value_at old x)) 0
looked old new n k u x = ap (λ o. unwrap_or o 0) (hash_map_updates_str n.now old new (Some k) u x)

module _ {V : Type 0} (old new : NameMap ℕ) (n : Bor (List ℕ)) (k : ℕ) (u : Updates (λ a b. bytes_eq a.now b.now) old new n (Some k)) where
  -- with one local more
  pub numbered_more : (ls all : List (LocalEntry V)) (l : LocalEntry V) → all ≡ ls ++ l ∷ [] → l.name ≡ n → k ≡ length ls + 1 → AreNumbered old ls → AreNumbered new all
  numbered_more ls all l is named size h = λ x. looked old new n k u x ∙ by x (bytes_eq n.now x) refl ∙ sym (ap (λ ms. number_in (reverse ms) x) is ∙ ap (λ ms. number_in ms x) (reverse-last ls l))
    where
      by : (x : List ℕ) (b : Bool) → bytes_eq n.now x ≡ b → unwrap_or (cond b (Some k) (value_at old x)) 0 ≡ number_in (l ∷ reverse ls) x
      by x true e = (let s = length-reverse ls in let r : k ≡ suc (length (reverse ls)) = omega (arith, s, size) in r)
          ∙ sym (ap (λ b. if b then suc (length (reverse ls)) else number_in (reverse ls) x) (ap (λ m. bytes_eq m.now x) named ∙ e))
      by x false e = h x ∙ sym (ap (λ b. if b then suc (length (reverse ls)) else number_in (reverse ls) x) (ap (λ m. bytes_eq m.now x) named ∙ e))

  -- without the newest one
  pub numbered_less : (all ls : List (LocalEntry V)) (l : LocalEntry V) → all ≡ ls ++ l ∷ [] → l.name ≡ n → k ≡ number_in (reverse ls) n.now → AreNumbered old all → AreNumbered new ls
  numbered_less all ls l is named size h = λ x. looked old new n k u x ∙ by x (bytes_eq n.now x) refl
    where
      by : (x : List ℕ) (b : Bool) → bytes_eq n.now x ≡ b → unwrap_or (cond b (Some k) (value_at old x)) 0 ≡ number_in (reverse ls) x
      by x true e = size ∙ ap (number_in (reverse ls)) ((bytes_eq-Decides n.now x).0 e)
      by x false e = h x ∙ ap (λ ms. number_in (reverse ms) x) is ∙ ap (λ ms. number_in ms x) (reverse-last ls l)
          ∙ ap (λ b. if b then suc (length (reverse ls)) else number_in (reverse ls) x) (ap (λ m. bytes_eq m.now x) named ∙ e)

abbrev first_of : ℕ → List ℕ → ℕ
first_of d [] = d
first_of d (n ∷ ns) = n

abbrev rest_of : List ℕ → List ℕ
rest_of [] = []
rest_of (n ∷ ns) = ns

module _ {V : Type 0} where
  pub hidden_more : (ls all : List (LocalEntry V)) (l : LocalEntry V) → all ≡ ls ++ l ∷ [] → l.hidden ≡ number_in (reverse ls) l.name.now → AreHidden ls → AreHidden all
  hidden_more ls all l is own h =
      ap (λ ms. map (λ m. m.hidden) (reverse ms)) is ∙ ap (map (λ m. m.hidden)) (reverse-last ls l)
      ∙ ap (λ n. n ∷ map (λ m. m.hidden) (reverse ls)) own ∙ ap (λ ns. number_in (reverse ls) l.name.now ∷ ns) h
      ∙ sym (ap (λ ms. hidden_by (reverse ms)) is ∙ ap hidden_by (reverse-last ls l))

  both : (all ls : List (LocalEntry V)) (l : LocalEntry V) → all ≡ ls ++ l ∷ [] → AreHidden all → l.hidden ∷ map (λ m. m.hidden) (reverse ls) ≡ number_in (reverse ls) l.name.now ∷ hidden_by (reverse ls)
  both all ls l is h =
      sym (ap (λ ms. map (λ m. m.hidden) (reverse ms)) is ∙ ap (map (λ m. m.hidden)) (reverse-last ls l)) ∙ h
      ∙ ap (λ ms. hidden_by (reverse ms)) is ∙ ap hidden_by (reverse-last ls l)

  pub hidden_own : (all ls : List (LocalEntry V)) (l : LocalEntry V) → all ≡ ls ++ l ∷ [] → AreHidden all → l.hidden ≡ number_in (reverse ls) l.name.now
  hidden_own all ls l is h = ap (first_of 0) (both all ls l is h)

  pub hidden_less : (all ls : List (LocalEntry V)) (l : LocalEntry V) → all ≡ ls ++ l ∷ [] → AreHidden all → AreHidden ls
  hidden_less all ls l is h = ap rest_of (both all ls l is h)

  -- the newest local's name is in the table
  pub not_absent : (m : NameMap ℕ) (all ls : List (LocalEntry V)) (l : LocalEntry V) → all ≡ ls ++ l ∷ [] → AreNumbered m all → value_at m l.name.now ≡ None → ⊥
  not_absent m all ls l is h none =
      let own : bytes_eq l.name.now l.name.now ≡ true = (bytes_eq-Decides l.name.now l.name.now).1 refl in
      let zero_at : number_at m l.name.now ≡ 0 = ap (λ o. unwrap_or o 0) none in
      let there = h l.name.now ∙ ap (λ ms. number_in (reverse ms) l.name.now) is ∙ ap (λ ms. number_in ms l.name.now) (reverse-last ls l)
      ∙ ap (λ b. if b then suc (length (reverse ls)) else number_in (reverse ls) l.name.now) own in
      absurd (omega (arith, zero_at, there))

-- a result is good or bad
pub by_either : {X Y : Type 0} (r : Result X Y) (P Q G : Type 0) → OnOk r P → OnErr r Q → (P → G) → (Q → G) → G
by_either (Ok x) P Q G p q f h = f p
by_either (Err y) P Q G p q f h = h q

module _ {V : Type 0} where
  got : (ls : List (LocalEntry V)) (j : ℕ) (l : LocalEntry V) → j < length ls → l ≡ get_or ls j l → slice_get ls j ≡ Some l
  got [] j l h e = absurd (omega (arith, h))
  got (m ∷ ls) zero l h e = ap Some (sym e)
  got (m ∷ ls) (suc j) l h e = got ls j l (omega (arith, h)) e

  -- a local that is there, by the number behind it
  pub seen : (ls : List (LocalEntry V)) (k : ℕ) (l : LocalEntry V) → 0 < k → k ≤ length ls → l ≡ get_or ls (k - 1) l → local_at ls k ≡ Some (k - 1, l.value)
  seen ls zero l h le e = absurd (omega (arith, h))
  seen ls (suc j) l h le e =
      let less : suc j - 1 ≡ j = omega arith in
      ap (option_map (λ m. (j, m.value))) (got ls j l (omega (arith, le)) (e ∙ ap (λ n. get_or ls n l) less)) ∙ ap (λ n. Some (n, l.value)) (sym less)
