-- The locals that are known at a point of a body.
use Rattle.std.specs.Prelude.{ℕ, List, map}
use Rattle.name_tables.specs.Known.{locals_in}
use Rattle.safety.specs.declared.locals.Locals.{Locals}
use Rattle.safety.specs.declared.site.TransactionsAround.{TransactionsAround}
use Rattle.safety.specs.Sites.{Around}

-- these locals and transactions surround a point
abbrev pub around : List (List ℕ) → TransactionsAround → Around
around names surroundings = record {
  locals = names;
  atomic = surroundings.atomic;
  outer = surroundings.outer;
  in_any = surroundings.in_any;
}

module _ {A : Type 0} where
  -- the names of locals, in order of declaration
  abbrev pub names_in : Locals A → List (List ℕ)
  names_in l = map (λ n. n.0) (locals_in l.scope)

  abbrev pub around_in : Locals A → TransactionsAround → Around
  around_in l surroundings = around (names_in l) surroundings
