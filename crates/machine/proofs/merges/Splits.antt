-- Merges cut in two, and what is put into them.
use Rattle.std.proofs.Common.{◌≡◌, ◌≢◌, ◌<◌, ◌≤◌, ◌⊎◌, inl, inr, ℕ, Bool, true, false, leb, List, [], ◌∷◌, ◌++◌, refl, ◌∙◌, ap, arith}
use Rattle.std.specs.List.{AllByRecursion}
use Rattle.std.proofs.lemmas.Bool.Decides.{leb_tells}
use Rattle.machine.specs.Merges.{Entry, insert, key}
use Rattle.machine.specs.Strict.{StandsBehind}
use Rattle.machine.proofs.merges.Insert.{insert_all, own-insert_other}
use Rattle.machine.proofs.merges.Within.{within_insert}

-- an entry goes into the front where all of the rest are later
insert_in : (e : Entry) (front rest : List Entry) → AllByRecursion (λ (g : Entry). key e < key g) rest → insert e (front ++ rest) ≡ insert e front ++ rest
insert_in e [] [] late = refl
insert_in e [] (g ∷ gs) late = at (leb_tells (key g) (key e))
  where
    at : ((leb (key g) (key e) ≡ true) × (key g ≤ key e)) ⊎ ((leb (key g) (key e) ≡ false) × (key e < key g)) → insert e (g ∷ gs) ≡ e ∷ g ∷ gs
    at (inl f) = let lt = late.0 in let le = f.1 in absurd (omega arith)
    at (inr f) = rw f.0 refl
insert_in e (f ∷ fs) rest late = at (leb (key f) (key e)) refl (insert_in e fs rest late)
  where
    at : (b : Bool) → leb (key f) (key e) ≡ b → insert e (fs ++ rest) ≡ insert e fs ++ rest → insert e (f ∷ fs ++ rest) ≡ insert e (f ∷ fs) ++ rest
    at true q ih = rw q (ap (λ l. f ∷ l) ih)
    at false q ih = rw q refl

-- and behind it where none of the front is later
insert_past : (e : Entry) (front rest : List Entry) → AllByRecursion (λ (f : Entry). key f ≤ key e) front → insert e (front ++ rest) ≡ front ++ insert e rest
insert_past e [] rest low = refl
insert_past e (f ∷ fs) rest low = at (leb_tells (key f) (key e)) (insert_past e fs rest low.1)
  where
    at : ((leb (key f) (key e) ≡ true) × (key f ≤ key e)) ⊎ ((leb (key f) (key e) ≡ false) × (key e < key f)) → insert e (fs ++ rest) ≡ fs ++ insert e rest → insert e (f ∷ fs ++ rest) ≡ f ∷ fs ++ insert e rest
    at (inl g) ih = rw g.0 (ap (λ l. f ∷ l) ih)
    at (inr g) ih = let lt = g.1 in let le = low.0 in absurd (omega arith)

all_of : (P Q : Entry → Type 0) (es : List Entry) → ((e : Entry) → P e → Q e) → AllByRecursion P es → AllByRecursion Q es
all_of P Q [] f all = tt
all_of P Q (e ∷ es) f all = (f e all.0, all_of P Q es f all.1)

-- cut at a key: the front has these, and of thread t these alone
pub record SplitAt (n t : ℕ) (seen es : List Entry) : Type 0 where
  pub behind : StandsBehind t seen es
  pub low : AllByRecursion (λ (f : Entry). key f ≤ n) behind.front
  pub high : AllByRecursion (λ (f : Entry). n ≤ key f) behind.rest

-- it stays so where an entry is put in, which is late if it is thread t's
pub split_insert : (n t : ℕ) (seen es : List Entry) (e : Entry) → SplitAt n t seen es → (e.thread ≡ t → n ≤ key e) → SplitAt n t seen (insert e es)
split_insert n t seen es e s late = at (cases)
  where
    cases : (key e < n) ⊎ (n ≤ key e)
    cases = grind arith

    at : (key e < n) ⊎ (n ≤ key e) → SplitAt n t seen (insert e es)
    at (inl lt) =
        let b = s.behind in
        let other : e.thread ≢ t = (λ is. let le = late is in absurd (omega (arith, le, lt))) in
        record {
          behind = record {
            front = insert e b.front;
            rest = b.rest;
            place = ap (insert e) b.place ∙ insert_in e b.front b.rest (all_of (λ f. n ≤ key f) (λ f. key e < key f) b.rest (λ f le. omega (arith, le, lt)) s.high);
            all = within_insert e seen b.front b.all;
            mine = own-insert_other t e b.front other ∙ b.mine;
          };
          low = insert_all (λ (f : Entry). key f ≤ n) e b.front (omega (arith, lt)) s.low;
          high = s.high;
        }
    at (inr ge) =
        let b = s.behind in
        record {
          behind = record {
            front = b.front;
            rest = insert e b.rest;
            place = ap (insert e) b.place ∙ insert_past e b.front b.rest (all_of (λ f. key f ≤ n) (λ f. key f ≤ key e) b.front (λ f le. omega (arith, le, ge)) s.low);
            all = b.all;
            mine = b.mine;
          };
          low = s.low;
          high = insert_all (λ (f : Entry). n ≤ key f) e b.rest ge s.high;
        }
