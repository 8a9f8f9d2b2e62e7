-- There is one way through a text.
use Rattle.std.proofs.Common.{◌≡◌, ℕ, ◌+◌, List, [], ◌∷◌, ◌++◌, length, take, drop, Option, Some, None, refl, sym, ap, ◌∙◌, subst, append_assoc}
use Rattle.std.proofs.lemmas.List.{append-nil}
use Rattle.lex.specs.declared.fault.LexFault.{LexFault}
use Rattle.lex.specs.Tokens.{Tok, Terminal}
use Rattle.lex.specs.Faults.{FaultAt, IsFirst}
use Rattle.lex.specs.Pieces.{Cut, IsGap, IsToken, IsLexed}
use Rattle.lex.specs.Pieces as s
use Rattle.lex.proofs.unique.Once.{says_same, gap_silent}
use Rattle.lex.proofs.unique.Flaws.{one_length, fault_gap, fault_token, one_fault, fault_end, no_end}

abbrev tok_at : ℕ → ℕ → Terminal → Tok
tok_at at len says = record { terminal = says; span = record { start = at; «end» = at + len } }

-- the text from an offset on, its tokens, and the fault behind them or none
data Rest (text : List ℕ) : ℕ → List Tok → Option LexFault → Type 0 where
  ended : {at : ℕ} → at ≡ length text → Rest text at [] None
  wrong : {at : ℕ} (f : LexFault) → FaultAt text at f → Rest text at [] (Some f)
  gap : {at : ℕ} {ts : List Tok} {o : Option LexFault} (len : ℕ) → IsGap text at len → Rest text (at + len) ts o → Rest text at ts o
  token : {at : ℕ} {ts : List Tok} {o : Option LexFault} (len : ℕ) (says : Terminal) → IsToken text at len says → Rest text (at + len) ts o → Rest text at (tok_at at len says ∷ ts) o

whole : (text : List ℕ) (at : ℕ) (ts us : List Tok) (o : Option LexFault) → Cut text at ts → Rest text at us o → Rest text 0 (ts ++ us) o
whole text at ts us o s.start r = r
whole text at ts us o (s.gap {at = from} len c g) r = whole text from ts us o c (gap len g r)
whole text at ts us o (s.token {at = from} {ts = xs} len says c t) r =
    let h = whole text from xs (tok_at from len says ∷ us) o c (token len says t r) in
    subst (λ (z : List Tok). Rest text 0 z o) (sym (append_assoc xs (tok_at from len says ∷ []) us)) h

gap_token : (text : List ℕ) (at a b : ℕ) (t : Terminal) → IsGap text at a → IsToken text at b t → ⊥
gap_token text at a b t g k =
    let e : b ≡ a = one_length (drop at text) b a k.front g.front in
    gap_silent (take at text) (take a (drop at text)) t g.gap (subst (λ (n : ℕ). s.Says (take n (drop at text)) t) e k.means)

abbrev Both : (ts us : List Tok) (o p : Option LexFault) → Type 0
Both ts us o p = (ts ≡ us) × (o ≡ p)

one_rest : (text : List ℕ) (at : ℕ) (ts us : List Tok) (o p : Option LexFault) → Rest text at ts o → Rest text at us p → Both ts us o p
one_rest text at ts us o p (ended e) (ended f) = (refl, refl)
one_rest text at ts us o p (ended e) (wrong g f) = absurd (fault_end text at g e f)
one_rest text at ts us o p (ended e) (gap len g r) = absurd (no_end text at len e g.front)
one_rest text at ts us o p (ended e) (token len t k r) = absurd (no_end text at len e k.front)
one_rest text at ts us o p (wrong f w) (ended e) = absurd (fault_end text at f e w)
one_rest text at ts us o p (wrong f w) (wrong g x) = (refl, ap (λ (z : LexFault). Some z) (one_fault text at f g w x))
one_rest text at ts us o p (wrong f w) (gap len g r) = absurd (fault_gap text at len f w g)
one_rest text at ts us o p (wrong f w) (token len t k r) = absurd (fault_token text at len t f w k)
one_rest text at ts us o p (gap len g r) (ended f) = absurd (no_end text at len f g.front)
one_rest text at ts us o p (gap len g r) (wrong f w) = absurd (fault_gap text at len f w g)
one_rest text at ts us o p (gap len g r) (gap other h q) =
    let e : other ≡ len = one_length (drop at text) other len h.front g.front in
    one_rest text (at + len) ts us o p r (subst (λ (n : ℕ). Rest text (at + n) us p) e q)
one_rest text at ts us o p (gap len g r) (token other t k q) = absurd (gap_token text at len other t g k)
one_rest text at ts us o p (token len t k r) (ended f) = absurd (no_end text at len f k.front)
one_rest text at ts us o p (token len t k r) (wrong f w) = absurd (fault_token text at len t f w k)
one_rest text at ts us o p (token len t k r) (gap other h q) = absurd (gap_token text at other len t h k)
one_rest text at ts us o p (token {ts = xs} len t k r) (token {ts = ys} other u j q) =
    let e : other ≡ len = one_length (drop at text) other len j.front k.front in
    let rest : Both xs ys o p = one_rest text (at + len) xs ys o p r (subst (λ (n : ℕ). Rest text (at + n) ys p) e q) in
    let says : t ≡ u = says_same (take len (drop at text)) t u k.means (subst (λ (n : ℕ). s.Says (take n (drop at text)) u) e j.means) in
    (ap (λ (z : List Tok). tok_at at len t ∷ z) rest.0 ∙ ap (λ (z : Terminal). tok_at at len z ∷ ys) says ∙ ap (λ (n : ℕ). tok_at at n u ∷ ys) (sym e), rest.1)

all_of : (text : List ℕ) (at : ℕ) (ts : List Tok) (o : Option LexFault) → Cut text at ts → Rest text at [] o → Rest text 0 ts o
all_of text at ts o c r = subst (λ (z : List Tok). Rest text 0 z o) (append-nil ts) (whole text at ts [] o c r)

pub one_cut_law : (text : List ℕ) (ts us : List Tok) → IsLexed text ts → IsLexed text us → ts ≡ us
one_cut_law text ts us l k = (one_rest text 0 ts us None None (all_of text (length text) ts None l.cut (ended refl)) (all_of text (length text) us None k.cut (ended refl))).0

fault_way : (text : List ℕ) (f : LexFault) (i : IsFirst text f) → Rest text 0 i.tokens (Some f)
fault_way text f i = all_of text i.at i.tokens (Some f) i.cut (wrong f i.wrong)

pub one_fault_law : (text : List ℕ) (f g : LexFault) → IsFirst text f → IsFirst text g → f ≡ g
one_fault_law text f g i j =
    let e : ◌≡◌ {A = Option LexFault} (Some f) (Some g) = (one_rest text 0 i.tokens j.tokens (Some f) (Some g) (fault_way text f i) (fault_way text g j)).1 in
    cc

pub no_fault_law : (text : List ℕ) (ts : List Tok) (f : LexFault) → IsLexed text ts → IsFirst text f → ⊥
no_fault_law text ts f l i =
    let e : ◌≡◌ {A = Option LexFault} None (Some f) = (one_rest text 0 ts i.tokens None (Some f) (all_of text (length text) ts None l.cut (ended refl)) (fault_way text f i)).1 in
    cc
