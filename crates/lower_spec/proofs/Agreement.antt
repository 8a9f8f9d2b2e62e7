-- A thread of a code does what something of the source does: its outcomes after so many ticks are the thread's outcomes
-- after so many instructions, and the other way round. Both up to a number, which goes down in a loop.
use Rattle.std.proofs.Common.{◌≡◌, ◌≢◌, ℕ, zero, suc, ◌≤◌, refl, sym, ap, ◌∙◌, arith}
use Rattle.syntax.specs.declared.thread_end.Halt.TheVariants.{Astray}
use Rattle.syntax.specs.Behaviours.{Outcome, Stopped}
use Rattle.bytecode.specs.Effects.{Effect}
use Rattle.bytecode.specs.Sequential.{Sequential, next, steps, outcome_of}

-- the source never goes astray
abbrev pub NeverAstray : (ℕ → Outcome) → Type 0
NeverAstray does = (n : ℕ) → (does n).end ≢ Stopped Astray

module _ {C : Type 0} (code : C → Effect C) where
  pub record Matches (N K : ℕ) (s : Sequential C) (does : ℕ → Outcome) : Type 0 where
    pub there : (n : ℕ) → n ≤ N → (k : ℕ) × (outcome_of (steps code k s) ≡ does n)
    pub back : (k : ℕ) → k ≤ K → (n : ℕ) × (does n ≡ outcome_of (steps code k s))

  -- up to N ticks and K instructions, the thread in s does what the source does
  abbrev pub Agrees : ℕ → ℕ → Sequential C → (ℕ → Outcome) → Type 0
  Agrees N K s does = NeverAstray does → Matches N K s does

  fewer_match : (N K N' K' : ℕ) (s : Sequential C) (does : ℕ → Outcome) → N' ≤ N → K' ≤ K → Matches N K s does → Matches N' K' s does
  fewer_match N K N' K' s does a b m = record {
    there = λ n h. m.there n (omega (arith, h, a));
    back = λ k h. m.back k (omega (arith, h, b));
  }

  pub fewer : {N K N' K' : ℕ} {s : Sequential C} {does : ℕ → Outcome} → N' ≤ N → K' ≤ K → Agrees N K s does → Agrees N' K' s does
  fewer {N = N} {K = K} {N' = N'} {K' = K'} {s = s} {does = does} a b m = λ f. fewer_match N K N' K' s does a b (m f)

  -- an instruction that shows nothing
  back_quiet : (N K : ℕ) (s s' : Sequential C) (does : ℕ → Outcome) → next code s ≡ s' → outcome_of s' ≡ outcome_of s → Matches N K s' does → (k : ℕ) → k ≤ suc K → (n : ℕ) × (does n ≡ outcome_of (steps code k s))
  back_quiet N K s s' does e o m zero h = let b = m.back 0 (omega arith) in (b.0, b.1 ∙ o)
  back_quiet N K s s' does e o m (suc k) h = let b = m.back k (omega (arith, h)) in (b.0, b.1 ∙ ap (λ x. outcome_of (steps code k x)) (sym e))

  pub quiet : {N K : ℕ} {s s' : Sequential C} {does : ℕ → Outcome} → next code s ≡ s' → outcome_of s' ≡ outcome_of s → Agrees N K s' does → Agrees N (suc K) s does
  quiet {N = N} {K = K} {s = s} {s' = s'} {does = does} e o m = λ f. record {
    there = λ n h. let a = (m f).there n h in (suc a.0, ap (λ x. outcome_of (steps code a.0 x)) e ∙ a.1);
    back = back_quiet N K s s' does e o (m f);
  }

  -- one tick, and nothing of the code
  there_tick : (N K : ℕ) (s : Sequential C) (does does' : ℕ → Outcome) → does 0 ≡ outcome_of s → ((n : ℕ) → does (suc n) ≡ does' n) → Matches N K s does' → (n : ℕ) → n ≤ suc N → (k : ℕ) × (outcome_of (steps code k s) ≡ does n)
  there_tick N K s does does' z e m zero h = (0, sym z)
  there_tick N K s does does' z e m (suc n) h = let a = m.there n (omega (arith, h)) in (a.0, a.1 ∙ sym (e n))

  later_never : (does does' : ℕ → Outcome) → ((n : ℕ) → does (suc n) ≡ does' n) → NeverAstray does → NeverAstray does'
  later_never does does' e f n x = f (suc n) (ap (λ (o : Outcome). o.end) (e n) ∙ x)

  pub ticked : {N K : ℕ} {s : Sequential C} {does : ℕ → Outcome} (does' : ℕ → Outcome) → does 0 ≡ outcome_of s → ((n : ℕ) → does (suc n) ≡ does' n) → Agrees N K s does' → Agrees (suc N) K s does
  ticked {N = N} {K = K} {s = s} {does = does} does' z e m = λ f. let w = m (later_never does does' e f) in record {
    there = there_tick N K s does does' z e w;
    back = λ k h. let b = w.back k h in (suc b.0, e b.0 ∙ b.1);
  }

  -- one tick and one instruction together, which may show something
  there_both : (N K : ℕ) (s s' : Sequential C) (does does' : ℕ → Outcome) → next code s ≡ s' → does 0 ≡ outcome_of s → ((n : ℕ) → does (suc n) ≡ does' n) → Matches N K s' does' → (n : ℕ) → n ≤ suc N → (k : ℕ) × (outcome_of (steps code k s) ≡ does n)
  there_both N K s s' does does' x z e m zero h = (0, sym z)
  there_both N K s s' does does' x z e m (suc n) h = let a = m.there n (omega (arith, h)) in (suc a.0, ap (λ y. outcome_of (steps code a.0 y)) x ∙ a.1 ∙ sym (e n))

  back_both : (N K : ℕ) (s s' : Sequential C) (does does' : ℕ → Outcome) → next code s ≡ s' → does 0 ≡ outcome_of s → ((n : ℕ) → does (suc n) ≡ does' n) → Matches N K s' does' → (k : ℕ) → k ≤ suc K → (n : ℕ) × (does n ≡ outcome_of (steps code k s))
  back_both N K s s' does does' x z e m zero h = (0, z)
  back_both N K s s' does does' x z e m (suc k) h = let b = m.back k (omega (arith, h)) in (suc b.0, e b.0 ∙ b.1 ∙ ap (λ y. outcome_of (steps code k y)) (sym x))

  pub shown : {N K : ℕ} {s s' : Sequential C} {does : ℕ → Outcome} (does' : ℕ → Outcome) → next code s ≡ s' → does 0 ≡ outcome_of s → ((n : ℕ) → does (suc n) ≡ does' n) → Agrees N K s' does' → Agrees (suc N) (suc K) s does
  shown {N = N} {K = K} {s = s} {s' = s'} {does = does} does' x z e m = λ f. let w = m (later_never does does' e f) in record {
    there = there_both N K s s' does does' x z e w;
    back = back_both N K s s' does does' x z e w;
  }

  -- a thread that is at its end
  rests : (s : Sequential C) → next code s ≡ s → (k : ℕ) → steps code k s ≡ s
  rests s e zero = refl
  rests s e (suc k) = ap (steps code k) e ∙ rests s e k

  pub over : {N K : ℕ} {s : Sequential C} {does : ℕ → Outcome} → next code s ≡ s → ((n : ℕ) → does n ≡ outcome_of s) → Agrees N K s does
  over {s = s} e o = λ f. record {
    there = λ n h. (0, sym (o n));
    back = λ k h. (0, o 0 ∙ sym (ap outcome_of (rests s e k)));
  }

  -- where the source goes astray nothing is said
  pub astray : {N K : ℕ} {s : Sequential C} {does : ℕ → Outcome} (n : ℕ) → (does n).end ≡ Stopped Astray → Agrees N K s does
  astray n e = λ f. absurd (f n e)

  -- the start of a loop: no tick and no instruction left
  pub none_left : {s : Sequential C} {does : ℕ → Outcome} → does 0 ≡ outcome_of s → Agrees 0 0 s does
  none_left {s = s} {does = does} z = λ f. record {
    there = only_there;
    back = only_back;
  }
    where
      only_there : (n : ℕ) → n ≤ 0 → (k : ℕ) × (outcome_of (steps code k s) ≡ does n)
      only_there zero h = (0, sym z)
      only_there (suc n) h = absurd (omega (arith, h))

      only_back : (k : ℕ) → k ≤ 0 → (n : ℕ) × (does n ≡ outcome_of (steps code k s))
      only_back zero h = (0, z)
      only_back (suc k) h = absurd (omega (arith, h))

  pub same : {N K : ℕ} {s : Sequential C} {does : ℕ → Outcome} (does' : ℕ → Outcome) → ((n : ℕ) → does n ≡ does' n) → Agrees N K s does' → Agrees N K s does
  same {N = N} {K = K} {s = s} {does = does} does' e m = λ f. let w = m (λ n x. f n (ap (λ (o : Outcome). o.end) (e n) ∙ x)) in record {
    there = λ n h. let a = w.there n h in (a.0, a.1 ∙ sym (e n));
    back = λ k h. let b = w.back k h in (b.0, e b.0 ∙ b.1);
  }
