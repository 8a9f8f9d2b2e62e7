-- How validity is found in one pass: a table holds, for each place that a way leads to, the place of the innermost begin that
-- is open there. The whole list of open begins is then the innermost one, those open where it stands, and so on.
use Rattle.std.proofs.Common.{◌≡◌, ◌≢◌, ℕ, List, [], ◌∷◌, Option, Some, None, refl, sym, ap, ◌∙◌, subst}
use Rattle.std.specs.Prelude.{slice_get, Contains}
use Rattle.bytecode.specs.Code.{Code, FunctionCode}
use Rattle.bytecode.specs.Valid.{leads_from, IsReached, at_first, further}

abbrev pub Table : Type 0
Table = ℕ → Option (Option ℕ)

-- the open begins that stand behind an innermost one
abbrev pub IsChain : Table → Option ℕ → List ℕ → Type 0
IsChain table id [] = id ≡ None
IsChain table id (b ∷ begins) = (id ≡ Some b) × (parent : Option ℕ) × (table b ≡ Some parent) × IsChain table parent begins

or_else : {X : Type 0} → X → Option X → X
or_else d None = d
or_else d (Some x) = x

pub some_same : {X : Type 0} (x y : X) → Some x ≡ Some y → x ≡ y
unfolding or_else
some_same x y e = ap (or_else x) e

-- one innermost begin has one list
pub one_chain : (table : Table) (id : Option ℕ) (xs ys : List ℕ) → IsChain table id xs → IsChain table id ys → xs ≡ ys
one_chain table id [] [] c d = refl
one_chain table id [] (y ∷ ys) c d = cc (c, d.0)
one_chain table id (x ∷ xs) [] c d = cc (c.0, d)
one_chain table id (x ∷ xs) (y ∷ ys) c d =
    let e : x ≡ y = some_same x y (sym c.0 ∙ d.0) in
    let f : c.1 ≡ d.1 = some_same c.1 d.1 (sym c.2 ∙ ap table e ∙ d.2) in
    ap (λ z. z ∷ xs) e ∙ ap (λ zs. y ∷ zs) (one_chain table d.1 xs ys (subst (λ i. IsChain table i xs) f c.3) d.3)

-- two innermost begins have two lists
pub two_chains : (table : Table) (id id' : Option ℕ) (xs : List ℕ) → IsChain table id xs → IsChain table id' xs → id ≡ id'
two_chains table id id' [] c d = c ∙ sym d
two_chains table id id' (x ∷ xs) c d = c.0 ∙ sym d.0

-- a table that each instruction keeps: what the walk ends with where it meets no conflict
pub record IsClosed (code : Code) (f : FunctionCode) (table : Table) : Type 0 where
  pub starts : table f.first ≡ Some None
  pub leads : (q : ℕ) (id : Option ℕ) (begins : List ℕ) → table q ≡ Some id → IsChain table id begins → (q' : ℕ) (begins' : List ℕ) → Contains (leads_from code q begins (slice_get code.instructions q)) (q', begins') → (id' : Option ℕ) × (table q' ≡ Some id') × IsChain table id' begins'

module _ (code : Code) (f : FunctionCode) (table : Table) (closed : IsClosed code f table) where
  -- each place that a way leads to is in the table, with the way's open begins
  pub reached_in_table : (q : ℕ) (begins : List ℕ) → IsReached code f q begins → (id : Option ℕ) × (table q ≡ Some id) × IsChain table id begins
  reached_in_table q begins at_first = (None, closed.starts, refl)
  reached_in_table q begins (further {q = r} {xs = bs} w c) =
      let h = reached_in_table r bs w in
      closed.leads r h.0 bs h.1 h.2 q begins c

  pub one_list_by_table : (q : ℕ) (xs ys : List ℕ) → IsReached code f q xs → IsReached code f q ys → xs ≡ ys
  one_list_by_table q xs ys v w =
      let a = reached_in_table q xs v in
      let b = reached_in_table q ys w in
      one_chain table a.0 xs ys a.2 (subst (λ i. IsChain table i ys) (some_same b.0 a.0 (sym b.1 ∙ a.1)) b.2)

-- a table all of whose entries are reached: what the walk keeps at every moment
abbrev pub IsFound : Code → FunctionCode → Table → Type 0
IsFound code f table = (q : ℕ) (id : Option ℕ) → table q ≡ Some id → (begins : List ℕ) × IsReached code f q begins × IsChain table id begins

-- a second way with another innermost begin is a second list
pub conflict : (code : Code) (f : FunctionCode) (table : Table) → IsFound code f table → (q : ℕ) (id id' : Option ℕ) (begins : List ℕ) → table q ≡ Some id → IsReached code f q begins → IsChain table id' begins → id ≢ id' → ((xs ys : List ℕ) → IsReached code f q xs → IsReached code f q ys → xs ≡ ys) → ⊥
conflict code f table found q id id' begins e w c apart one =
    let h = found q id e in
    apart (two_chains table id id' begins (subst (IsChain table id) (one h.0 begins h.1 w) h.2) c)
