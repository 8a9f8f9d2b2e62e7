-- Where a thread that is carried on may stand.
use Rattle.std.proofs.Common.{◌≡◌, ℕ, ◌<◌, ◌^◌, List, [], ◌∷◌, Some, Result, Ok, Err, sym, refl, ◌∙◌, subst}
use Rattle.std.specs.Prelude.{IfOk}
use Rattle.bytecode.specs.Effects.{Effect}
use Rattle.bytecode.specs.Code.{Code, Configuration, effect, onward, setting, return_effect}
use Rattle.bytecode.specs.Beginning.{beginning}
use Rattle.bytecode.specs.Valid.{IsValid}
use Rattle.local_steps.specs.Local.{after_local}
use Rattle.frames.specs.Open.{IsConfigurationOf, IsSuccessor, saved_in}
use Rattle.frames.proofs.Keeping.{begins_stay_open}

pub if_ok : {X E : Type 0} (P Q : X → Type 0) (r : Result X E) → ((x : X) → P x → Q x) → IfOk r P → IfOk r Q
if_ok P Q (Ok x) f h = f x h
if_ok P Q (Err e) f h = tt

module _ (code : Code) (v : IsValid code) where
  pub at_first : (t : ℕ) (c : Configuration) → t < 2 ^ 32 → c ≡ beginning code t → IsConfigurationOf code c
  at_first t c h e = subst (IsConfigurationOf code) (sym e) ([], (begins_stay_open code v).none_yet t h)

  on : (c d : Configuration) → IsConfigurationOf code c → IsSuccessor (effect code c) d → IsConfigurationOf code d
  on c d of g = (of.0, ((begins_stay_open code v).goes_on c d of.0 of.1 g).0)

  pub after_steps : (c d : Configuration) (n : ℕ) → IsConfigurationOf code c → after_local code n c ≡ Some d → IsConfigurationOf code d
  after_steps c d n of e = (of.0, ((begins_stay_open code v).steps n c d of.0 of.1 e).0)

  pub after_pure : (c d : Configuration) → IsConfigurationOf code c → effect code c ≡ Effect.Pure d → IsConfigurationOf code d
  after_pure c d of e = on c d of (subst (λ x. IsSuccessor x d) (sym e) refl)

  pub after_read : (c d : Configuration) (a r w : ℕ) → IsConfigurationOf code c → effect code c ≡ Effect.Read a (setting c r) → w < 2 ^ 64 → d ≡ setting c r w → IsConfigurationOf code d
  after_read c d a r w of e h s = on c d of (subst (λ x. IsSuccessor x d) (sym e) (w, h, s))

  pub after_write : (c d : Configuration) (a w : ℕ) → IsConfigurationOf code c → effect code c ≡ Effect.Write a w (onward c) → d ≡ onward c → IsConfigurationOf code d
  after_write c d a w of e s = on c d of (subst (λ x. IsSuccessor x d) (sym e) s)

  pub after_print : (c d : Configuration) (piece : List ℕ) → IsConfigurationOf code c → effect code c ≡ Effect.Print piece (onward c) → d ≡ onward c → IsConfigurationOf code d
  after_print c d piece of e s = on c d of (subst (λ x. IsSuccessor x d) (sym e) s)

  pub after_irrevocable : (c d : Configuration) → IsConfigurationOf code c → effect code c ≡ Effect.Irrevocable (onward c) → d ≡ onward c → IsConfigurationOf code d
  after_irrevocable c d of e s = on c d of (subst (λ x. IsSuccessor x d) (sym e) s)

  pub after_begin : (c d e : Configuration) → IsConfigurationOf code c → effect code c ≡ Effect.Begin (onward c) e → d ≡ onward c → IsConfigurationOf code d
  after_begin c d e of x s = subst (IsConfigurationOf code) (sym s) (saved_in c ∷ of.0, ((begins_stay_open code v).opens c (onward c) e of.0 of.1 x).0)

  pub after_commit : (c d : Configuration) → IsConfigurationOf code c → effect code c ≡ Effect.Commit (onward c) → d ≡ onward c → IsConfigurationOf code d
  after_commit c d of x s = let r = (begins_stay_open code v).closes c (onward c) of.0 of.1 x in subst (IsConfigurationOf code) (sym s) (r.1, r.3)

  pub after_return : (c d : Configuration) (w : ℕ) → IsConfigurationOf code c → effect code c ≡ return_effect c.frames w → return_effect c.frames w ≡ Effect.Pure d → IsConfigurationOf code d
  after_return c d w of e s = after_pure c d of (e ∙ s)
