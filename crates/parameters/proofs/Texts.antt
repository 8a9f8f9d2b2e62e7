-- A text has one list of tokens, or a fault and none.
use Rattle.std.proofs.Common.{◌∙◌, ◌≡◌, ◌≢◌, ◌≤◌, ◌<◌, ◌+◌, ℕ, List, [], ◌∷◌, Bool, true, false, length, drop, get_or, refl, sym, ap, subst, arith}
use Rattle.lex.specs.declared.fault.LexFault.{LexFault}
use Rattle.lex.specs.declared.fault.LexFault.TheVariants as fault
use Rattle.lex.specs.Faults.{IsFault}
use Rattle.lex.specs.Laws.{Lie}
use Rattle.lex.specs.Pieces.{IsLexed}
use Rattle.lex.specs.declared.token.Token.{Token}
use Rattle.lex.specs.Tokens.{Tok, tok, toks}
use Rattle.std.proofs.lemmas.List.{drop_more}
use Rattle.lex.proofs.unique.Ways.{no_fault_law, one_cut_law}
use Rattle.parameters.specs.declared.definition.Definition.{Definition}
use Rattle.parameters.specs.Definitions.{IsName, IsNameAlone}
use Rattle.parameters.specs.Puts.{IsPutIn, IsUsedIn, has_name, put_from}

-- a text with a fault has no tokens
pub no_tokens : (text : List ℕ) (f : LexFault) → f ≢ fault.OutOfMemory → IsFault text f → (ts : List Tok) → IsLexed text ts → ⊥
no_tokens text fault.OutOfMemory other is ts lexed = other refl
no_tokens text fault.FileTooLong other is ts lexed = let short = lexed.short in absurd (omega (arith, is, short))
no_tokens text (fault.BadCharacter s) other is ts lexed = no_fault_law text ts (fault.BadCharacter s) lexed is
no_tokens text (fault.ConstantTooLarge s) other is ts lexed = no_fault_law text ts (fault.ConstantTooLarge s) lexed is
no_tokens text (fault.OpenComment s) other is ts lexed = no_fault_law text ts (fault.OpenComment s) lexed is
no_tokens text (fault.BadString s) other is ts lexed = no_fault_law text ts (fault.BadString s) lexed is
no_tokens text (fault.Directive s) other is ts lexed = no_fault_law text ts (fault.Directive s) lexed is

-- a text without tokens stays as it is
pub unread_put : (ds : List Definition) (text new : List ℕ) → ((ts : List Tok) → IsLexed text ts → ⊥) → new ≡ text → IsPutIn ds text new
unread_put ds text new none same = record { put = λ ts lexed. absurd (none ts lexed); others = λ none. same }

-- numbers are put into the tokens that were read
pub read_put : (ds : List Definition) (text new : List ℕ) (ts : List Tok) → IsLexed text ts → new ≡ put_from ds text 0 ts → IsPutIn ds text new
read_put ds text new ts lexed is = record {
  put = λ us other. subst (λ vs. new ≡ put_from ds text 0 vs) (one_cut_law text ts us lexed other) is;
  others = λ none. absurd (none ts lexed);
}

-- a name among the tokens that were read is used
pub read_used : (text name : List ℕ) (ts : List Tok) (b : Bool) → IsLexed text ts → b ≡ has_name name ts → b ≡ true → IsUsedIn text name
read_used text name ts b lexed is so us other = subst (λ vs. has_name name vs ≡ true) (one_cut_law text ts us lexed other) (sym is ∙ so)

-- a word whose tokens are not this name is none
pub no_name : (word : List ℕ) (ts : List Tok) → IsLexed word ts → (IsNameAlone word ts → ⊥) → IsName word → ⊥
no_name word ts lexed never is = never (subst (IsNameAlone word) (one_cut_law word is.0 ts is.1 lexed) is.2)

pub no_tokens_no_name : (word : List ℕ) → ((ts : List Tok) → IsLexed word ts → ⊥) → IsName word → ⊥
no_tokens_no_name word none is = none is.0 is.1

-- tokens that lie between two offsets leave these in order
pub lie_within : (text : List ℕ) (from to : ℕ) (ts : List Tok) → Lie text from to ts → from ≤ to
lie_within text from to [] lie = lie
lie_within text from to (t ∷ ts) lie =
    let first = lie.0 in
    let second = lie.1 in
    let rest = lie_within text t.span.«end» to ts lie.3 in
    omega (arith, first, second, rest)

-- a token that lies between two offsets begins and ends between them
next_lie : (text : List ℕ) (from to : ℕ) (ts : List Token) (i : ℕ) (d : Token) → i < length ts → Lie text from to (toks (drop i ts)) → Lie text from to (tok (get_or ts i d) ∷ toks (drop (i + 1) ts))
next_lie text from to ts i d low lie = subst (λ us. Lie text from to (toks us)) (drop_more ts i d low) lie

pub second_within : (text : List ℕ) (from to : ℕ) (ts : List Token) (i : ℕ) (d : Token) → i < length ts → Lie text from to (toks (drop i ts)) → (get_or ts i d).span.«end» ≤ to
second_within text from to ts i d low lie = let next = next_lie text from to ts i d low lie in lie_within text _ to _ next.3

pub first_within : (text : List ℕ) (from to : ℕ) (ts : List Token) (i : ℕ) (d : Token) → i < length ts → Lie text from to (toks (drop i ts)) → (get_or ts i d).span.start ≤ to
first_within text from to ts i d low lie =
    let next = next_lie text from to ts i d low lie in
    let inside = next.1 in
    let rest = second_within text from to ts i d low lie in
    omega (arith, inside, rest)
