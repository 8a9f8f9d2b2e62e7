-- Steps of the code meaning, put one after another.
use Rattle.std.proofs.Common.{◌≡◌, ◌+◌, ◌-◌, ℕ, zero, suc, Bool, false, List, [], ◌∷◌, ◌++◌, sym, ◌∙◌, ap, length, drop, zero-add, suc-add, append_assoc}
use Rattle.std.proofs.lemmas.List.{drop-map, map-append}
use Rattle.syntax.specs.declared.thread_end.Status.{Status}
use Rattle.syntax.specs.declared.thread_end.Status.TheVariants.{Running}
use Rattle.write_log.specs.Overlay.{overlay}
use Rattle.bytecode.specs.Effects.{Effect}
use Rattle.bytecode.specs.Effects.Effect.{CancelOuter}
use Rattle.bytecode.specs.Sequential.{Sequential, cancel_step, inside_step, next, outside, outside_step, start, steps}
use Rattle.norec_core.specs.Attempts.{Attempt, Checkpoint}
use Rattle.norec_core.specs.declared.step.Phase.{Phase}
use Rattle.machine.specs.inner.Invariant.{Begun, ComesTo, History, MayHaveFound, founds_in, inner_of, inners_of, inside, inside_of, lefts_in}
use Rattle.machine.specs.Worlds.{Record, record_of}

module _ {C : Type 0} (code : C → Effect C) where
  pub steps-add : (n m : ℕ) (s : Sequential C) → steps code (n + m) s ≡ steps code m (steps code n s)
  steps-add zero m s = ap (λ k. steps code k s) (zero-add m)
  steps-add (suc n) m s = ap (λ k. steps code k s) (suc-add n m) ∙ steps-add n m (next code s)

  -- n steps and then one more
  pub steps-last : (n : ℕ) (s r : Sequential C) → steps code n s ≡ r → steps code (n + 1) s ≡ next code r
  steps-last n s r e = steps-add n 1 s ∙ ap (next code) e

  -- a cancel of several levels, by the inner begins that it leaves
  pub outer_cancelled : (s : Sequential C) (m : List ℕ) (saved : C) (writes : List (ℕ × ℕ)) (inner left : List (Checkpoint C)) (kept : Bool) (levels : ℕ) → drop (levels - 1) inner ≡ left
      → inside_step s (inside_of code m saved writes inner kept) (CancelOuter levels) ≡ cancel_step s (inside_of code m saved writes inner kept) (inners_of code m left) kept
  outer_cancelled s m saved writes inner left kept levels e = ap (λ ls. cancel_step s (inside_of code m saved writes inner kept) ls kept) (drop-map (inner_of code m) (levels - 1) inner ∙ ap (inners_of code m) e)

  -- one more step outside transactions
  pub comes_step : (c0 : C) (xs : List Record) (c d : C) (text text' : List ℕ) (status : Status) (x : Effect C) → code c ≡ x → ((more : List (List ℕ)) → outside_step (outside c more (lefts_in xs) text Running) x ≡ outside d more (lefts_in xs) text' status) → ComesTo code c0 xs c text Running → ComesTo code c0 xs d text' status
  comes_step c0 xs c d text text' status x e one s = (
    s.0 + 1,
    λ more.
        steps-last s.0 _ _ (s.1 more)
        ∙ ap (outside_step (outside c more (lefts_in xs) text Running)) e
        ∙ one more,
  )

  -- one more step inside
  pub begun_step : (bounds : List ℕ) (h : History) (c0 : C) (xs : List Record) (c d : C) (a : Attempt C) (text text' : List ℕ) (reads writes : List (ℕ × ℕ)) (inner : List (Checkpoint C)) (phase : Phase) (x : Effect C)
      → code c ≡ x
      → ((m : List ℕ) → MayHaveFound reads a.kept (h.mem a.snapshot) m → MayHaveFound a.reads a.kept (h.mem a.snapshot) m)
      → (a.kept ≡ false → text ≡ text')
      → ((m : List ℕ) (founds lefts : List (List ℕ)) → length m ≡ length bounds → MayHaveFound reads a.kept (h.mem a.snapshot) m →
      inside_step (inside c (inside_of code m a.saved a.writes a.inner a.kept) founds lefts text) (inside_of code m a.saved a.writes a.inner a.kept) x ≡ inside d (inside_of code m a.saved writes inner a.kept) founds lefts text')
      → Begun code bounds h c0 xs c a text → Begun code bounds h c0 xs d (record a { reads = reads; writes = writes; inner = inner; phase = phase }) text'
  begun_step bounds h c0 xs c d a text text' reads writes inner phase x e less same one b = record {
    c1 = b.c1;
    text1 = b.text1;
    begins = b.begins;
    comes_to = b.comes_to;
    same_text = λ k. b.same_text k ∙ same k;
    reaches = (
      b.reaches.0 + 1,
      λ m founds lefts size ok.
          steps-last b.reaches.0 _ _ (b.reaches.1 m founds lefts size (less m ok))
          ∙ ap (inside_step (inside c (inside_of code m a.saved a.writes a.inner a.kept) founds lefts text) (inside_of code m a.saved a.writes a.inner a.kept)) e
          ∙ one m founds lefts size ok,
    );
  }

  -- the attempt takes effect
  pub joined : (bounds : List ℕ) (h : History) (c0 : C) (xs : List Record) (base : List ℕ) (c d : C) (a : Attempt C) (text : List ℕ) (status : Status) (took_lock : Bool) (writes : List (ℕ × ℕ)) (x : Effect C)
      → code c ≡ x
      → base ≡ h.mem a.snapshot
      → length base ≡ length bounds
      → MayHaveFound a.reads a.kept (h.mem a.snapshot) base
      → ((founds lefts : List (List ℕ)) →
      inside_step (inside c (inside_of code base a.saved a.writes a.inner a.kept) founds lefts text) (inside_of code base a.saved a.writes a.inner a.kept) x ≡ outside d founds (lefts ++ overlay base writes ∷ []) text status)
      → Begun code bounds h c0 xs c a text
      → ComesTo code c0 (xs ++ record_of base (record { snapshot = a.snapshot; took_lock = took_lock; writes = writes }) ∷ []) d text status
  joined bounds h c0 xs base c d a text status took_lock writes x e based size ok one b =
      let item : Record = record_of base (record { snapshot = a.snapshot; took_lock = took_lock; writes = writes }) in (
        ((b.comes_to.0 + 1) + b.reaches.0) + 1,
        λ more.
            ap (λ fs. steps code (((b.comes_to.0 + 1) + b.reaches.0) + 1) (start c0 fs)) (ap (λ fs. fs ++ more) (map-append (λ (r : Record). r.found) xs (item ∷ [])) ∙ append_assoc (founds_in xs) (base ∷ []) more)
            ∙ steps-last ((b.comes_to.0 + 1) + b.reaches.0) _ _
            (steps-add (b.comes_to.0 + 1) b.reaches.0 _
            ∙ ap (steps code b.reaches.0)
            (steps-last b.comes_to.0 _ _ (b.comes_to.1 (base ∷ more))
            ∙ ap (outside_step (outside a.saved (base ∷ more) (lefts_in xs) b.text1 Running)) b.begins)
            ∙ b.reaches.1 base more (lefts_in xs) size ok)
            ∙ ap (inside_step (inside c (inside_of code base a.saved a.writes a.inner a.kept) more (lefts_in xs) text) (inside_of code base a.saved a.writes a.inner a.kept)) e
            ∙ one more (lefts_in xs)
            ∙ ap (λ ls. outside d more ls text status) (sym (map-append (λ (r : Record). r.left) xs (item ∷ []))),
      )
