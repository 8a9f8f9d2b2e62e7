-- What the whole call promises.
use Rattle.std.proofs.Common.{◌≡◌, ℕ, ◌<◌, ◌≤◌, List, [], ◌∷◌, ◌++◌, Ok, Err, refl, sym, ap, ◌∙◌, arith, length, slice_index_or}
use Rattle.lex.specs.declared.token.Token.{Token}
use Rattle.lex.specs.Tokens.{Tok, tok, toks}
use Rattle.syntax.specs.Tree.{Program}
use Rattle.syntax.specs.Depth.{program_depth}
use Rattle.syntax.specs.Phrases.{Begins, Many, IsUnexpected, IsUnfinished, IsTooDeep, end_of}
use Rattle.syntax.specs.Grammar.{ParsedSource, Spells, source_depth, item}
use Rattle.parse.specs.inner.Reading.{Fault, wrong, deep}
use Rattle.parse.specs.inner.Items.{program_at, whole_program}
use Rattle.parse.proofs.items.Programs.{program_exact}
use Rattle.parse.proofs.combinators.Theorems as theorems

-- no item at all
some_program : Begins (Many item) []
some_program = record { value = []; more = []; spelled = refl }

-- ---- programs with the offset of their end

source_spells : (p : Program) (ts : List Tok) → Many item p ts → Spells (record { program = p; ends = end_of ts }) ts
source_spells p ts l = (l, refl)

source_begins : (ts : List Tok) → Begins (Many item) ts → Begins Spells ts
source_begins ts b = record { value = record { program = b.value; ends = end_of (ts ++ b.more) }; more = b.more; spelled = source_spells b.value (ts ++ b.more) b.spelled }

abbrev program_begins : (ts : List Tok) → Begins Spells ts → Begins (Many item) ts
program_begins ts b = record { value = (b.value).program; more = b.more; spelled = b.spelled.0 }

source_same : (a b : ParsedSource) → a.program ≡ b.program → a.ends ≡ b.ends → a ≡ b
source_same a b p e = ap (λ (x : Program). record { program = x; ends = a.ends }) p ∙ ap (λ (n : ℕ). record { program = b.program; ends = n }) e

pub found : (ts : List Tok) (p : Program) (e : ℕ) → whole_program 100 ts ≡ Ok p → e ≡ end_of ts → Spells (record { program = p; ends = e }) ts × (program_depth p ≤ 100)
found ts p e h is =
    let l = theorems.whole_found program_at (Many item) program_depth program_exact some_program 100 ts p h in
    ((l.0, is), l.1)

same_program : (ts : List Tok) (a b : Program) → Many item a ts → Many item b ts → a ≡ b
same_program ts a b la lb = theorems.one_tree_law program_at (Many item) program_depth program_exact some_program ts a b la lb

pub one_source : (ts : List Tok) (a b : ParsedSource) → Spells a ts → Spells b ts → a ≡ b
one_source ts a b la lb = source_same a b (same_program ts a.program b.program la.0 lb.0) (la.1 ∙ sym lb.1)

pub too_deep_not : (ts : List Tok) (p : Program) (s : ParsedSource) → whole_program 100 ts ≡ Ok p → Spells s ts → 100 < source_depth s → ⊥
too_deep_not ts p s h l w =
    let f = found ts p (end_of ts) h refl in
    let same = one_source ts (record { program = p; ends = end_of ts }) s f.0 l in
    let deep : program_depth p ≡ source_depth s = ap source_depth same in
    let fits : program_depth p ≤ 100 = f.1 in
    omega arith

pub none_fails : (ts : List Tok) (f : Fault) → whole_program 100 ts ≡ Err f → (s : ParsedSource) → Spells s ts → source_depth s ≤ 100 → ⊥
none_fails ts f h s l w = theorems.none_fails program_at (Many item) program_depth program_exact some_program ts 100 f h s.program l.0 w

pub unexpected_at : (ts : List Tok) (rest : List Token) (other : Token) → 1 ≤ length rest → whole_program 100 ts ≡ Err (wrong (toks rest)) → IsUnexpected Spells ts (slice_index_or rest 0 other).span
unexpected_at ts [] other long h = absurd (omega arith)
unexpected_at ts (t ∷ rest) other long h =
    let u = theorems.unexpected program_at (Many item) program_depth program_exact some_program ts (tok t) (toks rest) 100 h in
    record { here = u.here; begins = source_begins (u.here).before u.begins; not = λ b. u.not (program_begins ((u.here).before ++ (u.here).token ∷ []) b) }

pub too_deep_at : (ts : List Tok) (rest : List Token) (other : Token) → 1 ≤ length rest → whole_program 100 ts ≡ Err (deep (toks rest)) → IsTooDeep Spells source_depth 100 ts (slice_index_or rest 0 other).span
too_deep_at ts [] other long h = absurd (omega arith)
too_deep_at ts (t ∷ rest) other long h =
    let u = theorems.too_deep program_at (Many item) program_depth program_exact some_program ts (tok t) (toks rest) 100 h in
    record { here = u.here; begins = source_begins ((u.here).before ++ (u.here).token ∷ []) u.begins; deep = λ b. u.deep (program_begins ((u.here).before ++ (u.here).token ∷ []) b) }

pub unfinished_at : (ts : List Tok) (rest : List Token) (e : ℕ) → length rest < 1 → e ≡ end_of ts → whole_program 100 ts ≡ Err (wrong (toks rest)) → IsUnfinished Spells ts (record { start = e; «end» = e })
unfinished_at ts [] e short is h = record {
  begins = source_begins ts (theorems.begins_all program_at (Many item) program_depth program_exact some_program ts 100 h);
  not = λ s l. theorems.spells_none program_at (Many item) program_depth program_exact some_program ts 100 h s.program l.0;
  empty = rw is refl;
}
unfinished_at ts (t ∷ rest) e short is h = absurd (omega arith)

pub no_deep_at : (ts : List Tok) (rest : List Token) → length rest < 1 → whole_program 100 ts ≡ Err (deep (toks rest)) → ⊥
no_deep_at ts [] short h = theorems.no_deep_end program_at (Many item) program_depth program_exact some_program ts 100 h
no_deep_at ts (t ∷ rest) short h = omega arith
