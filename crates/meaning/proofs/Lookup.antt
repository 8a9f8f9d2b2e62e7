-- Look-ups among locals.
use Rattle.std.proofs.Common.{set, zero, suc, ◌≡◌, ℕ, ◌+◌, ◌<◌, ◌≤◌, List, [], ◌∷◌, ◌++◌, length, map, take, get_or, length-take, Option, Some, None, true, false, refl, sym, ap, ◌∙◌, arith}
use Rattle.std.proofs.lemmas.List.{take_more, map-append, length-map}
use Rattle.std.specs.Prelude.{bytes_eq, if◌then◌else◌}
use Rattle.std.specs.Option.{option_or}
use Rattle.lex.specs.declared.token.Scalar.{Scalar}
use Rattle.meaning.specs.declared.source_thread.Local as L
use Rattle.meaning.specs.inner.SourceThread.{local_in}
use Rattle.syntax.specs.Names.{Local, newest_from, newest, with_word}

or_none : (a : Option (ℕ × Scalar)) → option_or a None ≡ a
or_none None = refl
or_none (Some x) = refl

or_assoc : (a b c : Option (ℕ × Scalar)) → option_or (option_or a b) c ≡ option_or a (option_or b c)
or_assoc None b c = refl
or_assoc (Some x) b c = refl

-- one more local hides the others of its name
newest_from-append : (n : ℕ) (ls : List Local) (l : Local) (x : List ℕ) → newest_from n (ls ++ l ∷ []) x ≡ option_or (if bytes_eq l.name x then Some (n + length ls, l.ty) else None) (newest_from n ls x)
newest_from-append n [] l x = let e : n ≡ n + 0 = omega arith in ap (λ m. option_or None (if bytes_eq l.name x then Some (m, l.ty) else None)) e ∙ sym (or_none _)
newest_from-append n (k ∷ ls) l x =
    let e : n + 1 + length ls ≡ n + length (k ∷ ls) = omega arith in
    ap (λ o. option_or o (if bytes_eq k.name x then Some (n, k.ty) else None)) (newest_from-append (n + 1) ls l x ∙ ap (λ m. option_or (if bytes_eq l.name x then Some (m, l.ty) else None) (newest_from (n + 1) ls x)) e)
    ∙ or_assoc (if bytes_eq l.name x then Some (n + length (k ∷ ls), l.ty) else None) (newest_from (n + 1) ls x) (if bytes_eq k.name x then Some (n, k.ty) else None)

newest-append : (ls : List Local) (l : Local) (x : List ℕ) → newest (ls ++ l ∷ []) x ≡ option_or (if bytes_eq l.name x then Some (0 + length ls, l.ty) else None) (newest ls x)
newest-append ls l x = newest_from-append 0 ls l x

-- one more local of a vector
newest_taken : (ls : List L.Local) (i : ℕ) (name : List ℕ) (d : L.Local) → i < length ls → newest (map local_in (take (i + 1) ls)) name ≡ option_or (if bytes_eq (get_or ls i d).name.now name then Some (i, (get_or ls i d).ty) else None) (newest (map local_in (take i ls)) name)
newest_taken ls i name d h =
    let l = get_or ls i d in
    let n : 0 + length (map local_in (take i ls)) ≡ i = omega (arith, length-map (take i ls) local_in, length-take i ls) in
    ap (λ xs. newest (map local_in xs) name) (take_more ls i d h)
    ∙ ap (λ xs. newest xs name) (map-append local_in (take i ls) (l ∷ []))
    ∙ newest-append (map local_in (take i ls)) (local_in l) name
    ∙ ap (λ m. option_or (if bytes_eq l.name.now name then Some (m, l.ty) else None) (newest (map local_in (take i ls)) name)) n

-- a local of that name, or another one
pub newest_here : (ls : List L.Local) (i j : ℕ) (name : List ℕ) (d : L.Local) → i < length ls → j ≡ i + 1 → bytes_eq (get_or ls i d).name.now name ≡ true → newest (map local_in (take j ls)) name ≡ Some (i, (get_or ls i d).ty)
newest_here ls i j name d h more e =
    ap (λ k. newest (map local_in (take k ls)) name) more ∙ newest_taken ls i name d h
    ∙ ap (λ b. option_or (if b then Some (i, (get_or ls i d).ty) else None) (newest (map local_in (take i ls)) name)) e

pub newest_before : (ls : List L.Local) (i j : ℕ) (name : List ℕ) (d : L.Local) → i < length ls → j ≡ i + 1 → bytes_eq (get_or ls i d).name.now name ≡ false → newest (map local_in (take j ls)) name ≡ newest (map local_in (take i ls)) name
newest_before ls i j name d h more e =
    ap (λ k. newest (map local_in (take k ls)) name) more ∙ newest_taken ls i name d h
    ∙ ap (λ b. option_or (if b then Some (i, (get_or ls i d).ty) else None) (newest (map local_in (take i ls)) name)) e

-- a word is written behind the view
pub with_word-map : (ls : List L.Local) (i : ℕ) (d : L.Local) (w : ℕ) → map local_in (set ls i (record (get_or ls i d) { word = w })) ≡ with_word (map local_in ls) i w
with_word-map [] i d w = refl
with_word-map (l ∷ ls) zero d w = refl
with_word-map (l ∷ ls) (suc i) d w = ap (λ rest. local_in l ∷ rest) (with_word-map ls i d w)

pub unwritten : (ls : List Local) (i w : ℕ) → length ls ≤ i → ls ≡ with_word ls i w
unwritten [] i w h = refl
unwritten (l ∷ ls) zero w h = absurd (omega (arith, h))
unwritten (l ∷ ls) (suc i) w h = let k : length ls ≤ i = omega (arith, h) in ap (λ rest. l ∷ rest) (unwritten ls i w k)
