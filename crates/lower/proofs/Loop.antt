-- A `for` by its parts: what it begins with, and its body, its step and its test behind jumps.
use Rattle.std.proofs.Common.{◌≡◌, ℕ, ◌+◌, List, [], ◌∷◌, ◌++◌, Option, Ok, sym, ap, ◌∙◌, append_assoc}
use Rattle.syntax.specs.Tree as Tree
use Rattle.syntax.specs.Tree.{Program}
use Rattle.bytecode.specs.declared.instr.Instr.{Instr}
use Rattle.bytecode.specs.declared.instr.Instr.TheVariants as own
use Rattle.lower_spec.specs.Expressions.{LocalScope}
use Rattle.lower_spec.specs.Statements.{locals_of_start}
use Rattle.selection.specs.declared.locations.Exits.{Exits}
use Rattle.selection.specs.Lists.{Lists}
use Rattle.selection.specs.Simples.{Written, start_written}
use Rattle.selection.specs.Statements.{for_step, for_test, looping, stmt_code}
use Rattle.lower_exprs.specs.Fragments.{Adds, of_written}
use Rattle.lower_exprs.proofs.Adding.{in_turn, written_alone}

module _ (p : Program) (x : Exits) (s : LocalScope) (from : ℕ) (l : Lists) (start : Tree.Start) (c : Option Tree.Expr) (step : Option Tree.Simple) (a : Tree.Stmt) where
  abbrev Inner : LocalScope
  Inner = locals_of_start start s

  abbrev F : Written
  F = start_written p start s from l

  abbrev B : Written
  B = stmt_code p a (looping x (F.to + 1) (F.to + 2)) Inner (F.to + 3) F.lists

  abbrev N : Written
  N = for_step p Inner step B.to B.lists

  abbrev T : Written
  T = for_test p Inner c (F.to + 3) N.to N.lists

  pub for_there : {old code none body stepped rest new : List Instr} {l1 l2 l3 l4 : Lists} {jumps step_at test_at to : ℕ} →
      Adds (of_written F) old code l1 (Ok jumps) → Adds (of_written B) none body l2 (Ok step_at) → Adds (of_written N) body stepped l3 (Ok test_at) → Adds (of_written T) stepped rest l4 (Ok to) →
      none ≡ [] → new ≡ code ++ own.Jump test_at ∷ own.Jump to ∷ own.Jump step_at ∷ rest → Adds (of_written (stmt_code p (Tree.For start c step a) x s from l)) old new l4 (Ok to)
  for_there {old = old} k0 k1 k2 k3 none n =
      let inner = written_alone (in_turn (in_turn k1 (λ j. of_written N) k2) (λ j. of_written T) k3) none in
      let jumps = own.Jump N.to ∷ own.Jump T.to ∷ own.Jump B.to ∷ B.code in
      record {
        code =
            n
            ∙ (λ j. k0.code j ++ own.Jump (k2.end j) ∷ own.Jump (k3.end j) ∷ own.Jump (k1.end j) ∷ (inner j).code)
            ∙ append_assoc old F.code ((jumps ++ N.code) ++ T.code)
            ∙ ap (λ y. old ++ y) (sym (append_assoc F.code (jumps ++ N.code) T.code))
            ∙ ap (λ y. old ++ (y ++ T.code)) (sym (append_assoc F.code jumps N.code));
        lists = k3.lists;
        end = k3.end;
        fails = tt;
      }
