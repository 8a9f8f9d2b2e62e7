use Rattle.std.proofs.Common.{◌≡◌, ℕ, ◌-◌, List, ◌++◌, length, map, replicate, take, ap, sym, ◌∙◌, subst}
use Rattle.std.specs.Prelude.{OnOk}
use Rattle.std.proofs.lemmas.List.{append_assoc, take-map, take_min}
use Rattle.syntax.specs.Names.{cells, first_word, first_words}
use Rattle.syntax.specs.Views.{global_of}
use Rattle.syntax.proofs.initial.push_global.Goals as goal

-- the words of as many initialisers as there are cells, and zeros in the others
with_zeros : {X : Type 0} (f : X → ℕ) (xs ys : List X) (n m k : ℕ) → xs ≡ ys → n ≡ m → k ≡ n - length xs → map f (take n xs) ++ replicate k 0 ≡ take m (map f ys) ++ replicate (m - length ys) 0
with_zeros f xs ys n m k e h s = (λ i. sym (take-map f n xs) i ++ replicate (s i) 0)
    ∙ (λ i. take (h i) (map f (e i)) ++ replicate (h i - length (e i)) 0)

pub returns : goal.returns
returns g c =
    let f = first_word c.args.global.now.ty in
    let xs = c.as_slice-firsts.result.now in
    let n = c.cell_count-cells.result in
    let k = c.saturating_sub.result in
    let words = c.args.words.now.items in
    let global = global_of c.args.global.now in
    let pushed : c.push_firsts.new.words.items ≡ words ++ map f (take n xs) = c.in_ok-push_firsts.ensures ∙ ap (λ m. words ++ map f (take m xs)) c.min-given.ensures ∙ ap (λ ys. words ++ map f ys) (take_min n xs) in
    let all : c.push_firsts.new.words.items ++ replicate k 0 ≡ words ++ first_words global = ap (λ ys. ys ++ replicate k 0) pushed
    ∙ append_assoc words (map f (take n xs)) (replicate k 0)
    ∙ ap (λ ys. words ++ ys) (with_zeros f xs global.first n (cells global) k c.as_slice-firsts.ensures c.cell_count-cells.ensures c.saturating_sub.ensures) in
    subst (λ ys. OnOk c.push_zeros.result (c.push_zeros.new.words.items ≡ ys)) all c.push_zeros.ensures
