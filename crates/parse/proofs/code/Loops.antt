-- Loops that begin with an item, and loops over lists of items.
use Rattle.std.proofs.Common.{◌≡◌, ℕ, zero, suc, ◌+◌, ◌-◌, ◌<◌, Bool, true, false, List, [], ◌∷◌, ◌++◌, Option, Result, Ok, Err, length, ◌==◌, refl, sym, ap, ◌∙◌, append_assoc, arith}
use Rattle.std.proofs.Math.Dec.{eqb-suc-zero}
use Rattle.std.proofs.lemmas.List.{append-nil, length-map}
use Rattle.lex.specs.declared.token.Token.{Token}
use Rattle.lex.specs.declared.token.Fixed.{Fixed}
use Rattle.lex.specs.declared.token.Fixed.TheVariants.{Punctuator}
use Rattle.lex.specs.declared.token.Punctuator.TheVariants as punct
use Rattle.lex.specs.Tokens.{Tok, tok, toks}
use Rattle.lex.specs.declared.token.Scalar.{Scalar}
use Rattle.syntax.specs.Tree.{Name, Global, Shares}
use Rattle.syntax.specs.declared.tree.Attribute.{Attribute}
use Rattle.syntax.specs.Grammar.{attributes_of}
use Rattle.parse.specs.inner.Reading.{Fault, wrong, ◌>>=◌, Parser, head, seq, expect, is_next, is_other, many, many_until, map_parser, behind, before, trailing, in_front, whole_input}
use Rattle.parse.specs.inner.Items.{Header, at_end, Size, global_tree, global_tail, global, several, globals_from, function_at, header, item_at, item_from, shared_from}
use Rattle.parse.proofs.code.Turns.{onward}

-- as many turns as there are tokens
pub all_turns : (rest : List Token) → length rest - 0 ≡ length (toks rest)
all_turns rest = omega (arith, length-map rest tok)

-- whether tokens are left
pub ended : (rest : List Token) (b : Bool) → (length rest == 0) ≡ b → at_end (head (toks rest)) ≡ b
ended [] b h = h
ended (t ∷ rest) b h = sym (eqb-suc-zero (length rest)) ∙ h

pub ended_at : {A : Type 0} (rest : List Token) (all : A) → (length rest == 0) ≡ true → whole_input (all, toks rest) ≡ Ok all
ended_at [] all h = refl
ended_at (t ∷ rest) all h = let none : false ≡ true = sym (eqb-suc-zero (length rest)) ∙ h in absurd cc

-- a global was read whose name stood before, and others follow
pub several_is : (t : Scalar) (x : Name) (size : Size) (ts rest : List Tok) → global_tail ts ≡ Ok (size, rest)
    → several t x ts ≡ onward (global_tree t x size ∷ []) (many_until (is_other (Punctuator punct.Comma)) (behind (Punctuator punct.Comma) (global t)) rest)
several_is t x size ts rest e = rw e (same (many_until (is_other (Punctuator punct.Comma)) (behind (Punctuator punct.Comma) (global t)) rest))
  where
    same : (r : Result (List Global × List Tok) Fault) → ((r >>= λ (y : List Global × List Tok). Ok ((size, y.0), y.1)) >>= λ (z : (Size × List Global) × List Tok). Ok (global_tree t x z.0.0 ∷ z.0.1, z.1)) ≡ onward (global_tree t x size ∷ []) r
    same (Ok y) = refl
    same (Err f) = refl

-- another value, before or behind a fixed token
before_mapped : {A B C : Type 0} (k : Fixed) (g : A → B) (h : B → C) (P : Parser A) (ts : List Tok) → map_parser (λ x. h (g x)) (before k P) ts ≡ map_parser h (before k (map_parser g P)) ts
before_mapped {A} {B} {C} k g h P ts = go (P ts)
  where
    ends : (y : A × List Tok) (e : Result (Unit {0} × List Tok) Fault) → map_parser {A = A} {B = C} (λ x. h (g x)) (map_parser {A = A × Unit {0}} {B = A} (λ x. x.0) (λ inner. e >>= λ w. Ok ((y.0, w.0), w.1))) ts ≡ map_parser {A = B} {B = C} h (map_parser {A = B × Unit {0}} {B = B} (λ x. x.0) (λ inner. e >>= λ w. Ok ((g y.0, w.0), w.1))) ts
    ends y (Ok w) = refl
    ends y (Err f) = refl

    go : (r : Result (A × List Tok) Fault) → map_parser {A = A} {B = C} (λ x. h (g x)) (before {A = A} k (λ inner. r)) ts ≡ map_parser {A = B} {B = C} h (before {A = B} k (map_parser {A = A} {B = B} g (λ inner. r))) ts
    go (Ok y) = ends y (expect k y.1)
    go (Err f) = refl

pub globals_are : (t : Scalar) (x : Name) (ts : List Tok) → globals_from t x ts ≡ map_parser Shares (before (Punctuator punct.Semicolon) (several t x)) ts
globals_are t x ts = before_mapped (Punctuator punct.Semicolon) (λ y. global_tree t x y.0 ∷ y.1) Shares (seq global_tail (many_until (is_other (Punctuator punct.Comma)) (behind (Punctuator punct.Comma) (global t)))) ts

-- an item whose header was read is what follows it
goes_on_alone : {A B : Type 0} (x : A) (r : Result (B × List Tok) Fault) → ((r >>= λ (y : B × List Tok). Ok ((x, y.0), y.1)) >>= λ (z : (A × B) × List Tok). Ok (z.0.1, z.1)) ≡ r
goes_on_alone x (Ok y) = refl
goes_on_alone x (Err f) = refl

module _ (d : ℕ) (ts rest : List Tok) (h : Header) (read : header ts ≡ Ok (h, rest)) where
  item_goes : item_at d ts ≡ item_from d h rest
  item_goes = rw read (goes_on_alone h (item_from d h rest))

  pub function_goes : is_next (Punctuator punct.OpenParen) (head rest) ≡ true → item_at d ts ≡ function_at d h rest
  function_goes e = item_goes ∙ rw e refl

  pub shared_goes : is_next (Punctuator punct.OpenParen) (head rest) ≡ false → item_at d ts ≡ shared_from h rest
  shared_goes e = item_goes ∙ rw e refl

-- ---- lists of attributes, which the loop joins

-- what was read before, and what the lists say that are still read
abbrev pub poured : List Attribute → Result (List (List Attribute) × List Tok) Fault → Result (List Attribute × List Tok) Fault
poured front read = read >>= λ x. Ok (front ++ attributes_of x.0, x.1)

module _ (stop : Option Tok → Bool) (P : Parser (List Attribute)) where
  pub pours_begin : (front : List Attribute) (rest : List Token) → front ≡ [] → poured front (many stop (length rest - 0) P (toks rest)) ≡ map_parser attributes_of (many_until stop P) (toks rest)
  pours_begin front rest none = rw (none, all_turns rest) refl

  regroup : (front x : List Attribute) (read : Result (List (List Attribute) × List Tok) Fault) → poured front (read >>= λ (y : List (List Attribute) × List Tok). Ok (x ∷ y.0, y.1)) ≡ poured (front ++ x) read
  regroup front x (Ok y) = ap (λ (xs : List Attribute). Ok (xs, y.1)) (sym (append_assoc front x (attributes_of y.0)))
  regroup front x (Err f) = refl

  pub pours_on : (front : List Attribute) (len i : ℕ) (ts after : List Tok) (x : List Attribute) (total : Result (List Attribute × List Tok) Fault) → i < len → stop (head ts) ≡ false → P ts ≡ Ok (x, after)
      → poured front (many stop (len - i) P ts) ≡ total → poured (front ++ x) (many stop (len - (i + 1)) P after) ≡ total
  pours_on front len i ts after x total lt h e so_far =
      let k : len - i ≡ suc (len - (i + 1)) = omega arith in
      let one : poured front (many stop (len - i) P ts) ≡ poured (front ++ x) (many stop (len - (i + 1)) P after) = rw (k, h, e) (regroup front x (many stop (len - (i + 1)) P after)) in
      sym one ∙ so_far

  pub pours_fail : (front : List Attribute) (len i : ℕ) (ts : List Tok) (f : Fault) (total : Result (List Attribute × List Tok) Fault) → i < len → stop (head ts) ≡ false → P ts ≡ Err f
      → poured front (many stop (len - i) P ts) ≡ total → total ≡ Err f
  pours_fail front len i ts f total lt h e so_far =
      let k : len - i ≡ suc (len - (i + 1)) = omega arith in
      let one : poured front (many stop (len - i) P ts) ≡ Err f = rw (k, h, e) refl in
      sym so_far ∙ one

  pub pours_stop : (front : List Attribute) (n : ℕ) (ts : List Tok) (total : Result (List Attribute × List Tok) Fault) → stop (head ts) ≡ true → poured front (many stop n P ts) ≡ total → total ≡ Ok (front, ts)
  pours_stop front zero ts total h so_far = sym so_far ∙ rw h (ap (λ (xs : List Attribute). Ok (xs, ts)) (append-nil front))
  pours_stop front (suc n) ts total h so_far = sym so_far ∙ rw h (ap (λ (xs : List Attribute). Ok (xs, ts)) (append-nil front))

  pub pours_out : (front : List Attribute) (n : ℕ) (ts : List Tok) (total : Result (List Attribute × List Tok) Fault) → n ≡ 0 → stop (head ts) ≡ false → poured front (many stop n P ts) ≡ total → total ≡ Err (wrong ts)
  pours_out front n ts total z h so_far = sym so_far ∙ rw (z, h) refl

-- ---- values with commas between, and perhaps a comma behind the last one

pub trails_begin : {A : Type 0} (P : Parser A) (front : List A) (x : A) (ts : List Tok) (rest : List Token) → front ≡ x ∷ [] → P ts ≡ Ok (x, toks rest)
    → onward front (trailing (length rest - 0) P (toks rest)) ≡ map_parser in_front (seq P (λ inner. trailing (length inner) P inner)) ts
trails_begin {A} P front x ts rest one e = rw (one, all_turns rest, e) (same (trailing (length (toks rest)) P (toks rest)))
  where
    same : (r : Result (List A × List Tok) Fault) → onward (x ∷ []) r ≡ ((r >>= λ (y : List A × List Tok). Ok ((x, y.0), y.1)) >>= λ (z : (A × List A) × List Tok). Ok (z.0.0 ∷ z.0.1, z.1))
    same (Ok y) = refl
    same (Err f) = refl

-- ts: tokens from a comma on, next: those behind it
module _ {A : Type 0} (P : Parser A) (front : List A) (total : Result (List A × List Tok) Fault) where
  regroup_all : (x : A) (read : Result (List A × List Tok) Fault) → onward front (read >>= λ y. Ok (x ∷ y.0, y.1)) ≡ onward (front ++ x ∷ []) read
  regroup_all x (Ok y) = ap (λ (xs : List A). Ok (xs, y.1)) (sym (append_assoc front (x ∷ []) y.0))
  regroup_all x (Err f) = refl

  pub trails_stop : (n : ℕ) (ts : List Tok) → is_next (Punctuator punct.Comma) (head ts) ≡ false → onward front (trailing n P ts) ≡ total → total ≡ Ok (front, ts)
  trails_stop zero ts h so_far = sym so_far ∙ rw h (ap (λ (xs : List A). Ok (xs, ts)) (append-nil front))
  trails_stop (suc n) ts h so_far = sym so_far ∙ rw h (ap (λ (xs : List A). Ok (xs, ts)) (append-nil front))

  pub trails_out : (n : ℕ) (ts : List Tok) → n ≡ 0 → is_next (Punctuator punct.Comma) (head ts) ≡ true → onward front (trailing n P ts) ≡ total → total ≡ Err (wrong ts)
  trails_out n ts z h so_far = sym so_far ∙ rw (z, h) refl

  module _ (len i : ℕ) (ts : List Tok) (lt : i < len) (comma : is_next (Punctuator punct.Comma) (head ts) ≡ true) (so_far : onward front (trailing (len - i) P ts) ≡ total) where
    turns_left : len - i ≡ suc (len - (i + 1))
    turns_left = omega arith

    module _ (next : List Tok) (read : expect (Punctuator punct.Comma) ts ≡ Ok (tt, next)) where
      pub trails_last : is_next (Punctuator punct.CloseBrace) (head next) ≡ true → total ≡ Ok (front, next)
      trails_last h = sym so_far ∙ rw (turns_left, comma, read, h) (ap (λ (xs : List A). Ok (xs, next)) (append-nil front))

      pub trails_fail : (f : Fault) → is_next (Punctuator punct.CloseBrace) (head next) ≡ false → P next ≡ Err f → total ≡ Err f
      trails_fail f h e = sym so_far ∙ rw (turns_left, comma, read, h, e) refl

      pub trails_on : (after : List Tok) (x : A) → is_next (Punctuator punct.CloseBrace) (head next) ≡ false → P next ≡ Ok (x, after) → onward (front ++ x ∷ []) (trailing (len - (i + 1)) P after) ≡ total
      trails_on after x h e =
          let one : onward front (trailing (len - i) P ts) ≡ onward (front ++ x ∷ []) (trailing (len - (i + 1)) P after) = rw (turns_left, comma, read, h, e) (regroup_all x (trailing (len - (i + 1)) P after)) in
          sym one ∙ so_far
