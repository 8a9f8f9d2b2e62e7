-- One turn of a chain of operators, as the loop makes it.
use Rattle.std.proofs.Common.{◌≡◌, ℕ, zero, suc, ◌+◌, ◌-◌, ◌<◌, ◌≤◌, List, Some, None, Result, Ok, Err, refl, sym, ◌∙◌, arith}
use Rattle.std.proofs.lemmas.Bool.{le-ltb, lt-ltb}
use Rattle.lex.specs.Tokens.{Tok}
use Rattle.parse.specs.declared.fault.ParseFailure.{ParseFailure}
use Rattle.parse.specs.declared.fault.ParseFailure.TheVariants as failure
use Rattle.parse.specs.inner.Reading.{Fault, deep, ◌>>=◌, Fails, Parser, Operators, next_op, climb_loop}

-- what fails in a part fails in the whole
pub fails_along : {A B : Type 0} (e : ParseFailure) (part : Result A Fault) (whole : Result B Fault) → ((f : Fault) → part ≡ Err f → whole ≡ Err f) → Fails e part → Fails e whole
fails_along failure.Memory part whole along h = tt
fails_along (failure.Wrong r) part whole along h = along _ h
fails_along (failure.Deep r) part whole along h = along _ h

module _ {E Op : Type 0} (ops : Operators E Op) (below : ℕ → Parser E) (min d : ℕ) where
  pub loop_none : (n : ℕ) (left : E) (ts : List Tok) → next_op ops min ts ≡ None → climb_loop ops below min d n left ts ≡ Ok (left, ts)
  unfolding climb_loop
  loop_none zero left ts e = rw e refl
  loop_none (suc n) left ts e = rw e refl

  pub loop_deep : (n : ℕ) (left : E) (ts : List Tok) (x : Op × List Tok) → next_op ops min ts ≡ Some x → d ≤ ops.depth left → climb_loop ops below min d n left ts ≡ Err (deep ts)
  unfolding climb_loop
  loop_deep zero left ts x e le = rw e refl
  loop_deep (suc n) left ts x e le = rw (e, le-ltb (ops.depth left) d le) refl

  pub loop_full : (n : ℕ) (left : E) (ts : List Tok) (x : Op × List Tok) → n ≡ 0 → next_op ops min ts ≡ Some x → climb_loop ops below min d n left ts ≡ Err (deep ts)
  unfolding climb_loop
  loop_full n left ts x z e = rw (z, e) refl

  pub loop_turn : (n k : ℕ) (left : E) (ts : List Tok) (x : Op × List Tok) → n ≡ suc k → next_op ops min ts ≡ Some x → ops.depth left < d → climb_loop ops below min d n left ts ≡ (below (suc (ops.precedence x.0)) x.1 >>= λ b. climb_loop ops below min d k (ops.node x.0 left b.0) b.1)
  unfolding climb_loop
  loop_turn n k left ts x s e lt = rw (s, e, lt-ltb (ops.depth left) d lt) refl

  -- what a loop does with an operand that isn't there
  pub turn_fails : (i m : ℕ) (left : E) (ts : List Tok) (x : Op × List Tok) (f : Fault) (total : Result (E × List Tok) Fault) → i < d → m ≡ ops.precedence x.0 + 1 → next_op ops min ts ≡ Some x → ops.depth left < d
      → climb_loop ops below min d (d - i) left ts ≡ total → below m x.1 ≡ Err f → total ≡ Err f
  turn_fails i m left ts x f total lt is e shallow so_far failed =
      let k : d - i ≡ suc (d - (i + 1)) = omega arith in
      let same : m ≡ suc (ops.precedence x.0) = omega arith in
      let one = loop_turn (d - i) (d - (i + 1)) left ts x k e shallow in
      sym so_far ∙ one ∙ rw (← same, failed) refl

  -- and with one that is
  pub turn_goes : (i m : ℕ) (left right : E) (ts rest : List Tok) (x : Op × List Tok) (total : Result (E × List Tok) Fault) → i < d → m ≡ ops.precedence x.0 + 1 → next_op ops min ts ≡ Some x → ops.depth left < d
      → climb_loop ops below min d (d - i) left ts ≡ total → below m x.1 ≡ Ok (right, rest) → climb_loop ops below min d (d - (i + 1)) (ops.node x.0 left right) rest ≡ total
  turn_goes i m left right ts rest x total lt is e shallow so_far read =
      let k : d - i ≡ suc (d - (i + 1)) = omega arith in
      let same : m ≡ suc (ops.precedence x.0) = omega arith in
      let one = loop_turn (d - i) (d - (i + 1)) left ts x k e shallow in
      let two : climb_loop ops below min d (d - i) left ts ≡ climb_loop ops below min d (d - (i + 1)) (ops.node x.0 left right) rest = one ∙ rw (← same, read) refl in
      sym two ∙ so_far
