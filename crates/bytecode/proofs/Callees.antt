-- What an instruction names.
use Rattle.std.proofs.Common.{◌≡◌, ℕ, false, List, Some, None, sym, ap, ◌∙◌, arith}
use Rattle.std.specs.Prelude.{slice_get, map, option_map, IsTrue, ◌↔◌, nat_eq}
use Rattle.std.proofs.lemmas.Option.{slice_get-map}
use Rattle.std.proofs.lemmas.Bool.Decides.{nat_tests}
use Rattle.bytecode.specs.Code.{FunctionCode}
use Rattle.bytecode.proofs.Tables.{some_same}

abbrev Callee : List FunctionCode → ℕ → ℕ → Type 0
Callee fs g count = (callee : FunctionCode) × (slice_get fs g ≡ Some callee) × (count ≡ callee.parameters)

pub callee_there : {X : Type 0} (v : X → FunctionCode) (fs : List X) (g count : ℕ) (x : X) → slice_get fs g ≡ Some x → IsTrue (nat_eq count (v x).parameters) ↔ Callee (map v fs) g count
callee_there v fs g count x e =
    let m : slice_get (map v fs) g ≡ Some (v x) = slice_get-map v fs g ∙ ap (option_map v) e in
    (λ t. (v x, m, grind (arith, nat_tests, t)), λ c. let d : c.0 ≡ v x = some_same c.0 (v x) (sym c.1 ∙ m) in let k : count ≡ (v x).parameters = c.2 ∙ ap (λ y. y.parameters) d in grind (arith, nat_tests, k))

pub callee_not : {X : Type 0} (v : X → FunctionCode) (fs : List X) (g count : ℕ) → slice_get fs g ≡ None → IsTrue false ↔ Callee (map v fs) g count
callee_not v fs g count e =
    let m : slice_get (map v fs) g ≡ None = slice_get-map v fs g ∙ ap (option_map v) e in
    (λ t. cc t, λ c. cc (m, c.1))
