-- What the tables of names say, as they are made and as they are read.
use Rattle.std.proofs.Common.{◌≡◌, ℕ, ◌+◌, ◌≤◌, List, [], ◌∷◌, Option, Some, None, option_map, Bool, true, false, refl, sym, ap, ◌∙◌, arith, bytes_eq, if◌then◌else◌}
use Rattle.std.specs.Prelude.{IfSome}
use Rattle.std.specs.Option.{option_or}
use Rattle.name_tables.specs.Named.{first, with_declaration}
use Rattle.name_tables.proofs.Firsts.{first_declared}
use Rattle.syntax.specs.Tree.{Global, Program}
use Rattle.syntax.specs.Names.{GlobalCells, global_from, global_of, globals, cells}
use Rattle.program_tables.specs.declared.entries.Shared.{Shared}
use Rattle.program_tables.specs.inner.Tables.{total_cells}
use Rattle.program_tables.specs.Entries.{shared_in}

-- with nothing else it is what was found
pub or_none : {T : Type 0} (o : Option T) → option_or o None ≡ o
or_none None = refl
or_none (Some v) = refl

-- what an option has, or else a value that is put there, or else something more
put_last : {V W : Type 0} (f : V → W) (b : Bool) (v : V) (o : Option V) (rest : Option W) →
    option_or (option_map f (option_or o (if b then Some v else None))) rest ≡ option_or (option_map f o) (if b then Some (f v) else rest)
put_last f true v None rest = refl
put_last f false v None rest = refl
put_last f b v (Some w) rest = refl

put_here : {V : Type 0} (b : Bool) (v : V) (o rest : Option V) → option_or (option_or o (if b then Some v else None)) rest ≡ option_or o (if b then Some v else rest)
put_here true v None rest = refl
put_here false v None rest = refl
put_here b v (Some w) rest = refl

-- one more declaration in a table, as it stands there
pub one_more_here : {V : Type 0} (old new : List (List ℕ × V)) (name : List ℕ) (v : V) (y : List ℕ) → new ≡ with_declaration old name v → name ≡ y →
    (x : List ℕ) (rest : Option V) → option_or (first new x) rest ≡ option_or (first old x) (if bytes_eq y x then Some v else rest)
one_more_here old new name v y more same x rest =
    ap (λ es. option_or (first es x) rest) more
    ∙ ap (λ o. option_or o rest) (first_declared old name v x)
    ∙ put_here (bytes_eq name x) v (first old x) rest
    ∙ ap (λ z. option_or (first old x) (if bytes_eq z x then Some v else rest)) same

-- one more declaration in a table
pub one_more : {V W : Type 0} (f : V → W) (old new : List (List ℕ × V)) (name : List ℕ) (v : V) (y : List ℕ) → new ≡ with_declaration old name v → name ≡ y →
    (x : List ℕ) (rest : Option W) → option_or (option_map f (first new x)) rest ≡ option_or (option_map f (first old x)) (if bytes_eq y x then Some (f v) else rest)
one_more f old new name v y more same x rest =
    ap (λ es. option_or (option_map f (first es x)) rest) more
    ∙ ap (λ o. option_or (option_map f o) rest) (first_declared old name v x)
    ∙ put_last f (bytes_eq name x) v (first old x) rest
    ∙ ap (λ z. option_or (option_map f (first old x)) (if bytes_eq z x then Some (f v) else rest)) same

-- a global's cells are among the cells
cell_step : (b : Bool) (g : Global) (c : ℕ) (gs : List Global) (x : List ℕ) (v : GlobalCells) → (if b then Some (record { global = g; cell = c }) else global_from (c + cells g) gs x) ≡ Some v → (global_from (c + cells g) gs x ≡ Some v → v.cell + cells v.global ≤ c + cells g + total_cells gs) → v.cell + cells v.global ≤ c + total_cells (g ∷ gs)
cell_step true g c gs x v h e = let k : c + cells g ≡ v.cell + cells v.global = ap (λ o. end_or o) h in omega (arith, k)
  where
    end_or : Option GlobalCells → ℕ
    end_or None = 0
    end_or (Some w) = w.cell + cells w.global
cell_step false g c gs x v h e = let k = e h in omega (arith, k)

pub cells_among : (c : ℕ) (gs : List Global) (x : List ℕ) (v : GlobalCells) → global_from c gs x ≡ Some v → v.cell + cells v.global ≤ c + total_cells gs
cells_among c [] x v h = absurd cc
cells_among c (g ∷ gs) x v h = cell_step (bytes_eq g.name.text x) g c gs x v h (cells_among (c + cells g) gs x v)

-- a global that a table has is among a program's cells
pub low_among : {A : Type 0} (p : Program) (x : List ℕ) (o : Option (Shared A)) → option_map shared_in o ≡ global_of p x → total_cells (globals p) ≤ 4096 → IfSome o (λ g. g.cell + cells (shared_in g).global ≤ 4096)
low_among p x None h few = tt
low_among p x (Some g) h few = let k = cells_among 0 (globals p) x (shared_in g) (sym h) in omega (arith, k, few)
