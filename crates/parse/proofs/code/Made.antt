-- What is made of something that was read, as what reads it gives.
use Rattle.std.proofs.Common.{◌≡◌, List, Result, Ok, Err, refl, subst}
use Rattle.lex.specs.declared.token.Fixed.{Fixed}
use Rattle.std.specs.Borrow.{Bor}
use Rattle.lex.specs.declared.token.Token.{Token}
use Rattle.lex.specs.Tokens.{Tok, toks}
use Rattle.parse.specs.declared.fault.ParseFailure.{ParseFailure}
use Rattle.parse.specs.declared.fault.ParseFailure.TheVariants as failure
use Rattle.parse.specs.inner.Reading.{Fault, ◌>>=◌, Fails, Gives, GivesBefore, Parser, before, behind, expect, map_parser, seq}
use Rattle.parse.proofs.code.Climbing.{fails_along}

module _ {X U V : Type 0} (view : X → U) (make : U → V) (one : Result (X × Bor (List Token)) ParseFailure) where
  abbrev Seen : Result (X × Bor (List Token)) ParseFailure → Result (U × List Tok) Fault → Type 0
  Seen r read = Gives {Y = U × List Tok} (λ (x : X × Bor (List Token)). (view x.0, toks x.1.now)) r read

  pub made_is : (x : X) (y : V) (rest : Bor (List Token)) → one ≡ Ok (x, rest) → y ≡ make (view x) → (read : Result (U × List Tok) Fault) → Seen one read → ◌>>=◌ {B = V × List Tok} read (λ x. Ok (make x.0, x.1)) ≡ Ok (y, toks rest.now)
  made_is x y rest is same read h =
      let h' : Seen (Ok (x, rest)) read = subst (λ (r : Result (X × Bor (List Token)) ParseFailure). Seen r read) is h in
      rw (h', same) refl

  pub made_fails : (e : ParseFailure) → one ≡ Err e → (read : Result (U × List Tok) Fault) → Seen one read → Fails {Y = V × List Tok} e (read >>= λ x. Ok (make x.0, x.1))
  made_fails e is read h =
      let h' : Seen (Err e) read = subst (λ (r : Result (X × Bor (List Token)) ParseFailure). Seen r read) is h in
      fails_along e read (read >>= λ (x : U × List Tok). Ok (make x.0, x.1)) (λ f failed. rw failed refl) h'

-- what is left as it was
pub made_same : {X U : Type 0} (view : X → U) (other : Result (X × Bor (List Token)) ParseFailure) (read : Result (U × List Tok) Fault)
    → Gives {Y = U × List Tok} (λ x. (view x.0, toks x.1.now)) other (◌>>=◌ {B = U × List Tok} read (λ x. Ok (x.0, x.1))) → Gives {Y = U × List Tok} (λ x. (view x.0, toks x.1.now)) other read
made_same view other (Ok x) h = h
made_same view other (Err f) h = h

-- what is seen otherwise, and looks the same
pub seen_as : {X Y : Type 0} (view other : X → Y) → ((x : X) → view x ≡ other x) → (r : Result X ParseFailure) (read : Result Y Fault) → Gives view r read → Gives other r read
seen_as view other same (Ok x) read h = rw (← same x) h
seen_as view other same (Err f) read h = h

-- what fails once it is made failed before
pub fails_before : {U V : Type 0} (make : U → V) (e : ParseFailure) (read : Result (U × List Tok) Fault) → Fails e (◌>>=◌ {B = V × List Tok} read (λ x. Ok (make x.0, x.1))) → Fails e read
fails_before make failure.Memory read h = tt
fails_before make (failure.Wrong r) (Ok x) h = absurd cc
fails_before make (failure.Wrong r) (Err f) h = cc
fails_before make (failure.Deep r) (Ok x) h = absurd cc
fails_before make (failure.Deep r) (Err f) h = cc

-- what stands before a fixed token that is read too
pub closes : {X Y : Type 0} (view : X → Y) (k : Fixed) (P : Parser Y) (ts : List Tok) (one other : Result (X × Bor (List Token)) ParseFailure)
    → Gives {Y = Y × List Tok} (λ x. (view x.0, toks x.1.now)) one (P ts) → GivesBefore k one other → Gives {Y = Y × List Tok} (λ x. (view x.0, toks x.1.now)) other (before k P ts)
closes view k P ts (Ok x) (Ok y) h b = rw (h, b.1, b.0) refl
closes view k P ts (Ok x) (Err e) h b = fails_along e (expect k (toks x.1.now)) (before k P ts) (λ f q. rw (h, q) refl) b.1
closes view k P ts (Err e) other h b = rw b (fails_along e (P ts) (before k P ts) (λ f q. rw q refl) h)

-- two parts behind a punctuator, where the first was read
module _ {A B C : Type 0} (k : Fixed) (P : Parser A) (Q : Parser B) (make : A × B → C) where
  last : (x : A) (r : Result (B × List Tok) Fault)
      → ◌>>=◌ {B = C × List Tok} (◌>>=◌ {B = (A × B) × List Tok} (◌>>=◌ {B = (Unit {0} × (A × B)) × List Tok} (◌>>=◌ {B = (A × B) × List Tok} r (λ y. Ok ((x, y.0), y.1))) (λ y. Ok ((tt, y.0), y.1))) (λ y. Ok (y.0.1, y.1))) (λ y. Ok (make y.0, y.1))
      ≡ ◌>>=◌ {B = C × List Tok} r (λ y. Ok (make (x, y.0), y.1))
  last x (Ok y) = refl
  last x (Err f) = refl

  pub second_is_left : (ts r s : List Tok) (x : A) → expect k ts ≡ Ok (tt, r) → P r ≡ Ok (x, s) → map_parser make (behind k (seq P Q)) ts ≡ ◌>>=◌ {B = C × List Tok} (Q s) (λ y. Ok (make (x, y.0), y.1))
  second_is_left ts r s x e a = rw (e, a) (last x (Q s))
