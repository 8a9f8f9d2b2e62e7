-- Instructions that stand in a finished code, and lists that become those of a finished code.
use Rattle.std.proofs.Common.{◌≡◌, refl, sym, ap, subst, ◌∙◌, ℕ, suc, ◌+◌, ◌≤◌, ◌<◌, List, [], ◌∷◌, ◌++◌, append_assoc, append-nil, length, arith, Option, Some, None, Bool, true, false, eqb-true}
use Rattle.std.specs.Prelude.{max, if◌then◌else◌, ◌==◌, unwrap_or, slice_get}
use Rattle.lex.specs.declared.token.Scalar.{Scalar}
use Rattle.bytecode.specs.declared.instr.Instr.{Instr}
use Rattle.bytecode.specs.Code.{Code}
use Rattle.bytecode.specs.Views.{instr_of}
use Rattle.bytecode.specs.declared.limits.TheConstants.{MOST_REGISTERS}
use Rattle.lower_spec.specs.Expressions.{Layout, InstructionAt, MayTake, GivenBy}
use Rattle.selection.specs.Lists.{Lists, with_register}
use Rattle.selection.specs.Expressions.{preloaded_from}
use Rattle.selection.specs.Programs.{nothing_preloaded}

-- instructions stand in a code from a place on
module _ (code : Code) (arguments : List ℕ) where
  abbrev pub Stand : ℕ → List Instr → Type 0
  Stand q [] = Unit {0}
  Stand q (i ∷ is) = InstructionAt code q (instr_of arguments i) × Stand (suc q) is

  pub front : (q : ℕ) (a b : List Instr) → Stand q (a ++ b) → Stand q a
  front q [] b h = tt
  front q (i ∷ a) b h = (h.0, front (suc q) a b h.1)

  pub behind : (q to : ℕ) (a b : List Instr) → to ≡ q + length a → Stand q (a ++ b) → Stand to b
  behind q to [] b e h = let f : q ≡ to = omega (arith, e) in subst (λ n. Stand n b) f h
  behind q to (i ∷ a) b e h = let f : to ≡ suc q + length a = omega (arith, e) in behind (suc q) to a b f h.1

-- one list begins another
abbrev pub IsFront : {A : Type 0} → List A → List A → Type 0
IsFront {A} xs ys = (rest : List A) × (ys ≡ xs ++ rest)

pub front_same : {A : Type 0} (xs : List A) → IsFront xs xs
front_same xs = ([], sym (append-nil xs))

pub front_more : {A : Type 0} (xs ys : List A) → IsFront xs (xs ++ ys)
front_more xs ys = (ys, refl)

pub front_front : {A : Type 0} (xs ys zs : List A) → IsFront xs ys → IsFront ys zs → IsFront xs zs
front_front xs ys zs h g = (h.0 ++ g.0, g.1 ∙ ap (λ l. l ++ g.0) h.1 ∙ append_assoc xs h.0 g.0)

-- lists go on as longer ones, and the same constants are preloaded
pub record Grows (l m : Lists) : Type 0 where
  pub arguments : IsFront l.arguments m.arguments
  pub texts : IsFront l.texts m.texts
  pub registers : l.registers ≤ m.registers
  pub layout : m.layout ≡ l.layout

pub grows_same : (l : Lists) → Grows l l
grows_same l = record { arguments = front_same l.arguments; texts = front_same l.texts; registers = omega arith; layout = refl }

pub grows_further : (l m n : Lists) → Grows l m → Grows m n → Grows l n
grows_further l m n h g = record {
  arguments = front_front l.arguments m.arguments n.arguments h.arguments g.arguments;
  texts = front_front l.texts m.texts n.texts h.texts g.texts;
  registers = let a = h.registers in let b = g.registers in omega (arith, a, b);
  layout = g.layout ∙ h.layout;
}

pub max_left : (a b : ℕ) → a ≤ max a b
max_left a b = grind arith

pub max_right : (a b : ℕ) → b ≤ max a b
max_right a b = grind arith

pub grows_used : (l m : Lists) (r : ℕ) → Grows l m → Grows l (with_register r m)
grows_used l m r h = record {
  arguments = h.arguments;
  texts = h.texts;
  registers = let a = h.registers in let b = max_left m.registers (suc r) in omega (arith, a, b);
  layout = h.layout;
}

-- a word is preloaded in this register
pub record IsFound (layout : Layout) (w r : ℕ) : Type 0 where
  pub number : ℕ
  pub known : slice_get layout.constants number ≡ Some w
  pub register : r ≡ layout.writable + number

-- what is found preloaded by one layout is preloaded in another
abbrev pub IsPreloadedIn : Layout → Layout → Type 0
IsPreloadedIn layout own = (w r : ℕ) → preloaded_from own.writable own.constants w ≡ Some r → IsFound layout w r

pub nothing_is_found : (layout : Layout) → IsPreloadedIn layout nothing_preloaded
nothing_is_found layout w r e = absurd (cc)

found_from : (n : ℕ) (ws : List ℕ) → IsPreloadedIn (record { writable = n; constants = ws }) (record { writable = n; constants = ws })
found_from n [] w r e = absurd (cc)
found_from n (x ∷ ws) w r e = by (x == w) refl (n == MOST_REGISTERS) (λ h. found_from (suc n) ws w r h) e
  where
    by : (same : Bool) → (x == w) ≡ same → (last : Bool) → (preloaded_from (suc n) ws w ≡ Some r → IsFound (record { writable = suc n; constants = ws }) w r) → (if same then Some n else if last then None else preloaded_from (suc n) ws w) ≡ Some r →
        IsFound (record { writable = n; constants = x ∷ ws }) w r
    by true s last rest h = record { number = 0; known = ap Some (eqb-true x w s); register = let k : n ≡ r = ap (λ o. unwrap_or o n) h in omega (arith, k) }
    by false s true rest h = absurd (cc)
    by false s false rest h = let k = rest h in record { number = suc k.number; known = k.known; register = let i = k.register in omega (arith, i) }

pub all_are_found : (layout : Layout) → IsPreloadedIn layout layout
all_are_found layout = found_from layout.writable layout.constants

-- what a finished code has for its lists, in a function whose registers are used so
pub record Fits (code : Code) (all : List ℕ) (layout : Layout) (l : Lists) : Type 0 where
  pub arguments : IsFront l.arguments all
  pub texts : IsFront l.texts code.texts
  pub registers : l.registers ≤ layout.writable
  pub preloaded : IsPreloadedIn layout l.layout

module _ (code : Code) (arguments : List ℕ) (layout : Layout) where
  pub fits_before : (l m : Lists) → Grows l m → Fits code arguments layout m → Fits code arguments layout l
  fits_before l m h g = record {
    arguments = front_front l.arguments m.arguments arguments h.arguments g.arguments;
    texts = front_front l.texts m.texts code.texts h.texts g.texts;
    registers = let a = h.registers in let b = g.registers in omega (arith, a, b);
    preloaded = subst (IsPreloadedIn layout) h.layout g.preloaded;
  }

  pub is_register : (l : Lists) (r : ℕ) → Fits code arguments layout (with_register r l) → r < layout.writable
  is_register l r h = let a = h.registers in let b = max_right l.registers (suc r) in omega (arith, a, b)

  -- one instruction that gives a value
  pub given : (home : Option ℕ) (i : Instr) (u : Scalar) (from to free r : ℕ) → to ≡ suc from → MayTake home free r → r < layout.writable → InstructionAt code from (instr_of arguments i) → GivenBy code layout home (instr_of arguments i) u from to free r u
  given home i u from to free r e m s at = record { to_is = e; takes = m; register = s; type_is = refl; instr = at }
