-- A declaration in a block, or a statement.
use Rattle.std.proofs.Common.{◌≡◌, List, [], ◌∷◌, ◌++◌, ℕ, map, Some, None, Bool, true, false, ◌||◌, refl, sym, ap, ◌∙◌, bytes_eq, Result, Ok, Err, OnOk}
use Rattle.syntax.specs.Tree.{Declaration, Declarator, Stmt, Declare}
use Rattle.syntax.specs.Types.{Scope}
use Rattle.syntax.specs.Typing.{has_name, scope_after, names_of}
use Rattle.types.specs.BlockItems.{declaration_in}
use Rattle.types.specs.inner.Known.{declared_by}

none_some : {X : Type 0} (d : X) → Some d ≡ None → ⊥
none_some d h = cc

some_is : {X : Type 0} (a b : X) → Some a ≡ Some b → a ≡ b
some_is a b h = cc

-- what is no declaration declares nothing
pub nothing_known : (s : Stmt) (known : Scope) → declaration_in s ≡ None → scope_after s known ≡ known
nothing_known (Declare d) known h = absurd (none_some d h)
nothing_known s known h = refl

pub nothing_named : (s : Stmt) (ns : List (List ℕ)) → declaration_in s ≡ None → names_of s ++ ns ≡ ns
nothing_named (Declare d) ns h = absurd (none_some d h)
nothing_named s ns h = refl

pub declaration_is : (s : Stmt) (d : Declaration) → declaration_in s ≡ Some d → s ≡ Declare d
declaration_is (Declare e) d h = ap Declare (some_is e d h)
declaration_is s d h = absurd (none_some d (sym h))

-- the names of a declaration, in whatever order
or_swap : (a b c : Bool) → (a || (b || c)) ≡ (b || (a || c))
or_swap true true c = refl
or_swap true false c = refl
or_swap false b c = refl

pub named_later : (ns ms : List (List ℕ)) (n x : List ℕ) → has_name (ns ++ n ∷ ms) x ≡ (bytes_eq n x || has_name (ns ++ ms) x)
named_later [] ms n x = refl
named_later (m ∷ ns) ms n x = ap (λ b. bytes_eq m x || b) (named_later ns ms n x) ∙ or_swap (bytes_eq m x) (bytes_eq n x) (has_name (ns ++ ms) x)

pub declared_named : (ds : List Declarator) (ns : List (List ℕ)) (x : List ℕ) → has_name (declared_by ds ns) x ≡ has_name (map (λ e. e.name.text) ds ++ ns) x
declared_named [] ns x = refl
declared_named (d ∷ ds) ns x = declared_named ds (d.name.text ∷ ns) x ∙ named_later (map (λ e. e.name.text) ds) ns d.name.text x

pub on_ok : {X Y : Type 0} (r : Result X Y) (P Q : Type 0) → OnOk r P → (P → Q) → OnOk r Q
on_ok (Ok x) P Q p f = f p
on_ok (Err y) P Q p f = tt

pub ok_any : {X Y : Type 0} (r : Result X Y) (P : Type 0) → P → OnOk r P
ok_any (Ok x) P p = p
ok_any (Err y) P p = tt
