-- Lists that become those of a finished code, in a function of so many registers.
use Rattle.std.proofs.Common.{◌≡◌, subst, ℕ, suc, ◌+◌, ◌≤◌, ◌<◌, List, length, arith, Some}
use Rattle.std.proofs.lemmas.Option.{slice_get_within}
use Rattle.bytecode.specs.Code.{Code}
use Rattle.lower_spec.specs.Expressions.{Layout}
use Rattle.selection.specs.Lists.{Lists, with_register}
use Rattle.selection.specs.Expressions.{preloaded_from}
use Rattle.selection.specs.Programs.{nothing_preloaded}
use Rattle.selection.proofs.stands.Standing.{IsFront, front_front, Grows, max_right, all_are_found}

-- what is found preloaded lies in registers below a number
abbrev pub AreFoundBelow : ℕ → Layout → Type 0
AreFoundBelow n layout = (w r : ℕ) → preloaded_from layout.writable layout.constants w ≡ Some r → r < n

pub nothing_below : (n : ℕ) → AreFoundBelow n nothing_preloaded
nothing_below n w r e = absurd (cc)

pub all_below : (layout : Layout) → AreFoundBelow (layout.writable + length layout.constants) layout
all_below layout w r e =
    let k = all_are_found layout w r e in
    let at = k.register in
    let within = slice_get_within layout.constants k.number w k.known in
    omega (arith, at, within)

pub record Fits (code : Code) (all : List ℕ) (size : ℕ) (l : Lists) : Type 0 where
  pub arguments : IsFront l.arguments all
  pub texts : IsFront l.texts code.texts
  pub registers : l.registers ≤ size
  pub preloaded : AreFoundBelow size l.layout

module _ (code : Code) (arguments : List ℕ) (size : ℕ) where
  pub fits_before : (l m : Lists) → Grows l m → Fits code arguments size m → Fits code arguments size l
  fits_before l m h g = record {
    arguments = front_front l.arguments m.arguments arguments h.arguments g.arguments;
    texts = front_front l.texts m.texts code.texts h.texts g.texts;
    registers = let a = h.registers in let b = g.registers in omega (arith, a, b);
    preloaded = subst (AreFoundBelow size) h.layout g.preloaded;
  }

  pub is_register : (l : Lists) (r : ℕ) → Fits code arguments size (with_register r l) → r < size
  is_register l r h = let a = h.registers in let b = max_right l.registers (suc r) in omega (arith, a, b)
