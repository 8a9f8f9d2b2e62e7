-- Inner transactions that are closed: they lie in the order of their begins, and are seen the innermost first.
use Rattle.std.proofs.Common.{◌≡◌, ◌≤◌, ◌-◌, ℕ, List, ◌++◌, sym, ◌∙◌, ap, length, take, drop, map, reverse, arith}
use Rattle.std.proofs.Math.Seq.{drop-append_seam}
use Rattle.std.proofs.lemmas.List.{reverse-append, length-reverse, length-drop, take-append-drop, drop-map}

last_left_out : {X : Type 0} (n : ℕ) (xs : List X) → n ≤ length xs → reverse (take (length xs - n) xs) ≡ drop n (reverse xs)
last_left_out {X} n xs le =
    let left = length xs - n in
    let out : List X = reverse (drop left xs) in
    let whole : reverse xs ≡ out ++ reverse (take left xs) = ap reverse (sym (take-append-drop left xs)) ∙ reverse-append (take left xs) (drop left xs) in
    let count : length out ≡ n = (let e = length-reverse (drop left xs) in let f = length-drop left xs in omega arith) in
    sym (drop-append_seam out (reverse (take left xs))) ∙ ap (λ m. drop m (out ++ reverse (take left xs))) count ∙ ap (drop n) (sym whole)

pub innermost_left_out : {X Y : Type 0} (f : X → Y) (n : ℕ) (xs : List X) → n ≤ length xs → map f (reverse (take (length xs - n) xs)) ≡ drop n (map f (reverse xs))
innermost_left_out f n xs le = ap (map f) (last_left_out n xs le) ∙ sym (drop-map f n (reverse xs))
