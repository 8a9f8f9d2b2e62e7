-- Counts of parts in views, and answers one longer.
use Rattle.std.proofs.Common.{◌≡◌, ◌≢◌, ◌⊎◌, ℕ, zero, suc, ◌+◌, ◌≤◌, ◌==◌, List, [], ◌∷◌, ◌++◌, length, drop, set, refl, sym, ap, Some, arith, eq-eqb, inl, inr, ⊎_elim}
use Rattle.std.specs.Prelude.{if◌then◌else◌}
use mathlib.Core.Option.{some, some-ne-none, some-injective}
use lib.ListN.{get_elem?}
use Rattle.machine.specs.Answered.{Heard, LocksFrom, lock_value}
use Rattle.shared_words.specs.Views.{Among, ViewPart, Views, parts_in, parts_of}

-- the count after a change of one view
pub parts_in-set : (number : ℕ) (views : Views) (seat : ℕ) (v w : List ViewPart) → get_elem? views seat ≡ some v → parts_in number (set views seat w) + parts_of number v ≡ parts_in number views + parts_of number w
parts_in-set number [] seat v w e = absurd (some-ne-none v (sym e))
parts_in-set number (u ∷ us) zero v w e = let same : u ≡ v = some-injective u v e in let c : parts_of number u ≡ parts_of number v = ap (parts_of number) same in omega arith
parts_in-set number (u ∷ us) (suc seat) v w e = let h = parts_in-set number us seat v w e in omega arith

pub parts_in-append : (number : ℕ) (views more : Views) → parts_in number (views ++ more) ≡ parts_in number views + parts_in number more
parts_in-append number [] more = omega arith
parts_in-append number (v ∷ vs) more = let h = parts_in-append number vs more in omega arith

pub parts_of-append : (number : ℕ) (ps qs : List ViewPart) → parts_of number (ps ++ qs) ≡ parts_of number ps + parts_of number qs
parts_of-append number [] qs = omega arith
parts_of-append number (p ∷ ps) qs = let h = parts_of-append number ps qs in omega arith

-- one view has no more parts than all have, and two views no more
pub parts_in-at : (number : ℕ) (views : Views) (seat : ℕ) (v : List ViewPart) → get_elem? views seat ≡ some v → parts_of number v ≤ parts_in number views
parts_in-at number [] seat v e = absurd (some-ne-none v (sym e))
parts_in-at number (u ∷ us) zero v e = let c : parts_of number u ≡ parts_of number v = ap (parts_of number) (some-injective u v e) in omega arith
parts_in-at number (u ∷ us) (suc seat) v e = let h = parts_in-at number us seat v e in omega arith

pub parts_in-two : (number : ℕ) (views : Views) (seat other : ℕ) (v w : List ViewPart) → other ≢ seat → get_elem? views seat ≡ some v → get_elem? views other ≡ some w → parts_of number v + parts_of number w ≤ parts_in number views
parts_in-two number [] seat other v w ne e f = absurd (some-ne-none v (sym e))
parts_in-two number (u ∷ us) zero zero v w ne e f = absurd (ne refl)
parts_in-two number (u ∷ us) zero (suc other) v w ne e f = let c : parts_of number u ≡ parts_of number v = ap (parts_of number) (some-injective u v e) in let h = parts_in-at number us other w f in omega arith
parts_in-two number (u ∷ us) (suc seat) zero v w ne e f = let c : parts_of number u ≡ parts_of number w = ap (parts_of number) (some-injective u w f) in let h = parts_in-at number us seat v e in omega arith
parts_in-two number (u ∷ us) (suc seat) (suc other) v w ne e f = let h = parts_in-two number us seat other v w (λ s. ne (ap suc s)) e f in omega arith

pub one_if : (n m : ℕ) → n ≡ m → ◌≡◌ {A = ℕ} (if n == m then 1 else 0) 1
one_if n m e = rw (eq-eqb n m e) refl

pub counted : (p : ViewPart) (ps : List ViewPart) → Among p ps → 1 ≤ parts_of p.number ps
counted p [] a = absurd a
counted p (q ∷ qs) (inl e) = let o = one_if q.number p.number (ap (λ (r : ViewPart). r.number) (sym e)) in omega arith
counted p (q ∷ qs) (inr a) = let h = counted p qs a in omega arith

pub among_one : (p q : ViewPart) → Among q (p ∷ []) → q ≡ p
among_one p q (inl e) = e
among_one p q (inr a) = absurd a

pub among_append : (p : ViewPart) (ps qs : List ViewPart) → Among p (ps ++ qs) → Among p ps ⊎ Among p qs
among_append p [] qs a = inr a
among_append p (r ∷ ps) qs (inl e) = inl (inl e)
among_append p (r ∷ ps) qs (inr a) = ⊎_elim (λ b. inl (inr b)) (λ b. inr b) (among_append p ps qs a)

-- the lock values of answers one longer
pub LocksFrom-more : (n k : ℕ) (hs : List Heard) (h : Heard) → LocksFrom n (drop k hs) → ((l : ℕ) → lock_value h.access h.answer ≡ Some l → n ≤ l) → LocksFrom n (drop k (hs ++ h ∷ []))
LocksFrom-more n zero [] h f new = (new, tt)
LocksFrom-more n zero (x ∷ xs) h f new = (f.0, LocksFrom-more n zero xs h f.1 new)
LocksFrom-more n (suc k) [] h f new = none k
  where
    none : (k : ℕ) → LocksFrom n (drop k [])
    none zero = tt
    none (suc k) = tt
LocksFrom-more n (suc k) (x ∷ xs) h f new = LocksFrom-more n k xs h f new

pub none_since : (n : ℕ) (hs : List Heard) → LocksFrom n (drop (length hs) hs)
none_since n [] = tt
none_since n (h ∷ hs) = none_since n hs
