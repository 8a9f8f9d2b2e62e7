-- What words define, one word more, and words that define nothing.
use Rattle.std.proofs.Common.{◌≡◌, ◌∙◌, ◌<◌, ℕ, zero, suc, List, [], ◌∷◌, ◌++◌, true, false, Bor, Option, Some, None, length, map, get_or, refl, sym, ap, subst, arith}
use Rattle.std.specs.Prelude.{IsSomeAnd, codes, option_map, string_bytes, unwrap_or}
use Rattle.clap.specs.Words.{Row, Text, all_of}
use Rattle.command.specs.declared.request.Asked.{Asked}
use Rattle.command.specs.inner.Refusals.{AskNoMore, HasGiven}
use Rattle.command.specs.Asked.{IsCommanded, AreDefinitions, AreDefinitionsOf, IsNoNumber, IsSaidOr, IsCountOfThreads, has_twice, words_defining}
use Rattle.parameters.specs.declared.definition.Definition.{Definition}
use Rattle.parameters.specs.Definitions.{IsDefinition, name_part}

pub one_more : (threads : Option ℕ) (words : List Text) (ds : List Definition) (word : Text) (d : Definition) → AreDefinitionsOf threads words ds → IsDefinition threads word d → AreDefinitionsOf threads (words ++ word ∷ []) (ds ++ d ∷ [])
one_more threads [] [] word d are is = (is, tt)
one_more threads [] (e ∷ ds) word d are is = absurd are
one_more threads (w ∷ words) [] word d are is = absurd are
one_more threads (w ∷ words) (e ∷ ds) word d are is = (are.0, one_more threads words ds word d are.1 is)

-- where one word defines nothing, the words define nothing
pub undefined : (threads : Option ℕ) (words : List (Bor Text)) (k : ℕ) (w : Bor Text) → k < length words → ((d : Definition) → IsDefinition threads (get_or words k w).now d → ⊥) → (ds : List Definition) → AreDefinitionsOf threads (map (λ p. p.now) words) ds → ⊥
undefined threads [] k w low none ds are = absurd (omega (arith, low))
undefined threads (p ∷ words) zero w low none [] are = are
undefined threads (p ∷ words) zero w low none (d ∷ ds) are = none d are.0
undefined threads (p ∷ words) (suc k) w low none [] are = are
undefined threads (p ∷ words) (suc k) w low none (d ∷ ds) are = undefined threads words k w (omega (arith, low)) none ds are.1

-- the names that are defined are those of the words
pub same_names : (threads : Option ℕ) (words : List Text) (ds : List Definition) → AreDefinitionsOf threads words ds → map (λ d. string_bytes d.name) ds ≡ map name_part words
same_names threads [] [] are = refl
same_names threads [] (d ∷ ds) are = absurd are
same_names threads (w ∷ words) [] are = absurd are
same_names threads (w ∷ words) (d ∷ ds) are = let one = are.0.name_is in let more = same_names threads words ds are.1 in cc

-- the words that are given
pub words_given : (o : Option (List Text)) (given : List Row) (words : List Text) → Some words ≡ o → o ≡ all_of (codes "define") given → words_defining given ≡ words
words_given o given words found is = sym (ap (λ x. unwrap_or x []) (found ∙ is))

pub none_given : (o : Option (List Text)) (given : List Row) → None ≡ o → o ≡ all_of (codes "define") given → words_defining given ≡ []
none_given o given found is = sym (ap (λ x. unwrap_or x []) (found ∙ is))

-- a number that is said is one number
same_said : (default : ℕ) (o : Option Text) (a b : ℕ) → IsSaidOr default o a → IsSaidOr default o b → a ≡ b
same_said default None a b one other = one ∙ sym other
same_said default (Some text) a b one other = sym one.1 ∙ other.1

both_said : (default : ℕ) (o : Option Text) (n : ℕ) → IsSaidOr default o n → IsSomeAnd o IsNoNumber → ⊥
both_said default None n one none = none
both_said default (Some text) n one none = none n one

-- the number of threads is one, or none
pub counted_once : (name : Text) (given : List Row) (a b : Option ℕ) → IsCountOfThreads name given a → IsCountOfThreads name given b → a ≡ b
counted_once name given None None one other = refl
counted_once name given None (Some b) one other = absurd (both_said _ _ b other one)
counted_once name given (Some a) None one other = absurd (both_said _ _ a one other)
counted_once name given (Some a) (Some b) one other = ap Some (same_said _ _ a b one other)

-- where the words define nothing with this number of threads, nothing is defined
pub undefined_at : (name : Text) (given : List Row) (n : Option ℕ) → IsCountOfThreads name given n → ((ds : List Definition) → AreDefinitionsOf n (words_defining given) ds → ⊥) → (ds : List Definition) → AreDefinitions name given ds → ⊥
undefined_at name given n counted none ds are = none ds (subst (λ m. AreDefinitionsOf m (words_defining given) ds) (counted_once name given are.threads n are.counted counted) are.each)

-- nothing is defined where a name is defined twice
pub twice_defined : (name : Text) (given : List Row) (n : Option ℕ) (v : List Definition) → AreDefinitionsOf n (words_defining given) v → has_twice (map (λ d. string_bytes d.name) v) ≡ true → (ds : List Definition) → AreDefinitions name given ds → ⊥
twice_defined name given n v each twice ds are =
    let once = are.once in
    let e : has_twice (map name_part (words_defining given)) ≡ true = subst (λ ns. has_twice ns ≡ true) (same_names n (words_defining given) v each) twice in
    cc

pub defined_once : (name : Text) (given : List Row) (n : Option ℕ) (v : List Definition) → IsCountOfThreads name given n → AreDefinitionsOf n (words_defining given) v → has_twice (map (λ d. string_bytes d.name) v) ≡ false → AreDefinitions name given v
defined_once name given n v counted each once = record {
  threads = n;
  counted = counted;
  each = each;
  once = subst (λ ns. has_twice ns ≡ false) (same_names n (words_defining given) v each) once;
}

-- the name and the rows of what was met
abbrev paired : {B : Type 0} → (B → Text) → (B → List Row) → B → Text × List Row
paired f g b = (f b, g b)

pub both_met : {B : Type 0} (f : B → Text) (g : B → List Row) (o : Option B) (name : Text) (given : List Row) → Some name ≡ option_map f o → Some given ≡ option_map (λ (p : Text × List Row). p.1) (option_map (λ b. paired f g b) o) → ◌≡◌ {A = Option (Text × List Row)} (Some (name, given)) (option_map (λ b. paired f g b) o)
both_met f g None name given named rows = cc
both_met f g (Some b) name given named rows = let p : ◌≡◌ {A = Text × List Row} (paired f g b) (f b, g b) = refl in cc

-- a command that asks nothing more is the one that was met
pub none_met : (met : Option (Text × List Row)) (name : Text) (given : List Row) → Some (name, given) ≡ met → AskNoMore name given → (asked : Asked) → HasGiven met asked → ⊥
none_met met name given is none asked has =
    let command = has.command in
    let e : ◌≡◌ {A = Text × List Row} (has.name, has.given) (name, given) = cc in
    none asked (subst (λ p. IsCommanded p.0 p.1 asked) e has.made)
