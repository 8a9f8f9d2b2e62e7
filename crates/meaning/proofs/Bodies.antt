-- A body is no deeper than its program.
use Rattle.std.proofs.Common.{◌≡◌, ℕ, ◌+◌, ◌*◌, ◌≤◌, suc, max, List, [], ◌∷◌, Option, Some, None, Bool, true, false, ap, arith}
use Rattle.std.specs.Prelude.{bytes_eq, if◌then◌else◌}
use Rattle.syntax.specs.Tree.{Program, Function, Stmts, Defines, Shares}
use Rattle.syntax.specs.Names.{definition_of, definition_or}
use Rattle.syntax.specs.Depth.{block_depth, body_depth, program_depth}
use Rattle.meaning.specs.inner.Does.{weight}

tested : (t : Bool) (g : Function) (body : Stmts) (rest : Option (Function × Stmts)) (f : Function × Stmts) (n : ℕ) →
    (rest ≡ Some f → block_depth f.1 ≤ n) → (if t then Some (g, body) else rest) ≡ Some f → block_depth f.1 ≤ max (block_depth body) n
tested true g body rest f n k e = let same : (g, body) ≡ f = cc in let h = ap (λ (y : Function × Stmts). block_depth y.1) same in omega (arith, h)
tested false g body rest f n k e = let h = k e in omega (arith, h)

defined_deep : (g : Function) (x : List ℕ) (b : Option Stmts) (rest : Option (Function × Stmts)) (f : Function × Stmts) (n : ℕ) →
    (rest ≡ Some f → block_depth f.1 ≤ n) → definition_or g x b rest ≡ Some f → block_depth f.1 ≤ max (body_depth b) n
defined_deep g x None rest f n k e = let h = k e in omega (arith, h)
defined_deep g x (Some body) rest f n k e = tested (bytes_eq g.name.text x) g body rest f n k e

pub definition_deep : (p : Program) (x : List ℕ) (f : Function × Stmts) → definition_of p x ≡ Some f → block_depth f.1 ≤ program_depth p
definition_deep [] x f e = absurd (cc)
definition_deep (Shares gs ∷ items) x f e = let h = definition_deep items x f e in omega (arith, h)
definition_deep (Defines g ∷ items) x f e = defined_deep g x g.body (definition_of items x) f (program_depth items) (definition_deep items x f) e

weight_more : (p : Program) (k d : ℕ) → d ≤ program_depth p → weight p k + 8 * d + 16 ≤ weight p (suc k)
unfolding weight
weight_more p k d h = omega (arith, h)

-- one frame holds a whole body
pub weight_less : (p : Program) (n k d : ℕ) → n ≡ suc k → d ≤ program_depth p → weight p k + 8 * d + 16 ≤ weight p n
weight_less p n k d more h = let e = ap (weight p) more in let m = weight_more p k d h in omega (arith, e, m)
