-- The rules of safety as one list of demands, in the order of the text.
use Rattle.std.specs.Prelude.{◌≡◌, ℕ, List, [], ◌∷◌, ◌++◌, Some, Bool, true, false, not, ◌||◌, is_none}
use Rattle.std.specs.List.{flat_map}
use Rattle.syntax.specs.declared.tree.Attribute.{Attribute}
use Rattle.syntax.specs.declared.tree.Attribute.TheVariants.{Safe}
use Rattle.syntax.specs.Tree.{Span, Function, Item, Defines, Shares, Program}
use Rattle.syntax.specs.Typing.{Demand, demand, first_unmet}
use Rattle.safety.specs.Sites.{Construct, Prints, Relaxes, OpensOuter, Cancels, CancelsOuter, Calls, Uses, Site}
use Rattle.safety.specs.Sites.{body_sites, attributes_of}
use Rattle.safety.specs.Safe.{FunctionSet, TellsSafe, TellsOuter}

-- 41: no relaxed transaction inside an atomic one; 40: nothing else unsafe there; 42: a cancel nowhere else
-- 44: no outer transaction inside an atomic one, nor a call that leads to one; 45: an outer cancel in an outer one
abbrev pub demands_at : (safe outer : FunctionSet) → Site → Construct → List Demand
demands_at safe outer s Prints = demand 40 s.span (not s.atomic)
demands_at safe outer s Relaxes = demand 41 s.span (not s.atomic)
demands_at safe outer s OpensOuter = demand 44 s.span (not s.atomic)
demands_at safe outer s Cancels = demand 42 s.span s.atomic
demands_at safe outer s CancelsOuter = demand 45 s.span s.outer
demands_at safe outer s (Calls f) =
    demand 40 s.span (not s.atomic || safe f) ++ demand 44 s.span (not s.atomic || not (outer f))
demands_at safe outer s (Uses x) = []

abbrev pub says_safe : List Attribute → Bool
says_safe [] = false
says_safe (Safe ∷ rest) = true
says_safe (other ∷ rest) = says_safe rest

-- 43: the definition of a function that is declared safe is safe; then the sites of its body
abbrev pub function_demands : Program → (safe outer : FunctionSet) → Function → List Demand
function_demands p safe outer f =
    demand 43 f.name.span (is_none f.body || not (says_safe (attributes_of p f.name.text)) || safe f.name.text)
    ++ flat_map (λ s. demands_at safe outer s s.construct) (body_sites f.parameters f.body)

abbrev pub item_demands : Program → (safe outer : FunctionSet) → Item → List Demand
item_demands p safe outer (Defines f) = function_demands p safe outer f
item_demands p safe outer (Shares gs) = []

-- the demands of a program, given the safe functions and those that lead to an outer transaction
abbrev pub safety_demands : Program → (safe outer : FunctionSet) → List Demand
safety_demands p safe outer = flat_map (item_demands p safe outer) p

-- the first demand of safety that a program does not meet has this number and span
abbrev pub IsSafetyFault : ℕ → Span → Program → Type 0
IsSafetyFault n at p =
    (safe : FunctionSet) × (outer : FunctionSet) × TellsSafe p safe × TellsOuter p outer
    × (first_unmet (safety_demands p safe outer) ≡ Some (n, at))
