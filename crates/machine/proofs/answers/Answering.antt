-- The steps of a world in which each thread's answers are recorded, one thread at a time.
use Rattle.std.proofs.Common.{◌≡◌, ◌≢◌, ◌⊎◌, inl, inr, ℕ, zero, suc, ◌+◌, Bool, true, false, true≢false, cond, List, [], ◌∷◌, ◌++◌, Option, None, Some, set, refl, sym, ap, ◌∙◌, subst, add-suc, add-zero, append-nil, append_assoc, set-set, slice_get}
use Rattle.std.proofs.lemmas.Bool.Decides.{eqb_tells}
use Rattle.bytecode.specs.Effects.{Effect}
use Rattle.norec_core.specs.declared.step.Access.{Access}
use Rattle.norec_core.specs.declared.step.Access.TheVariants.{Local}
use Rattle.norec_core.specs.declared.step.Answer.{Answer}
use Rattle.norec_core.specs.declared.step.Answer.TheVariants.{Done}
use Rattle.machine.specs.Answered.{Answered, Heard, hearing, is_local, StepsHearing, local_step, after_local_steps}
use Rattle.machine.specs.Threads.{Thread, access, step_with}
use Rattle.machine.specs.Worlds.{Part, Reached, Record, World, with_record, answer, lock_after, part_after, step_record, step_of, words_after}
use Rattle.norec_core.specs.Accesses.{stops}
use Rattle.machine.proofs.answers.Quiet.{local_part}
use Rattle.machine.proofs.steps.Worlds.{get-set_other, get-set_same}

pub local_is : (x : Access) → is_local x ≡ true → x ≡ Local
local_is Local e = refl
local_is x e = absurd (true≢false (sym e))

module _ {X : Type 0} where
  pub set_same : (l : List X) (i : ℕ) (a : X) → slice_get l i ≡ Some a → set l i a ≡ l
  set_same [] i a e = refl
  set_same (x ∷ xs) zero a e = let r : a ≡ x = cc in ap (λ y. y ∷ xs) r
  set_same (x ∷ xs) (suc i) a e = ap (λ l. x ∷ l) (set_same xs i a e)

  pub at_set : (l : List X) (i j : ℕ) (a b c : X) → slice_get l i ≡ Some c → slice_get (set l i a) j ≡ Some b → ((j ≡ i) × (a ≡ b)) ⊎ ((j ≢ i) × (slice_get l j ≡ Some b))
  at_set l i j a b c there e = go (eqb_tells j i)
    where
      go : ((Rattle.std.proofs.Common.◌==◌ j i ≡ true) × (j ≡ i)) ⊎ ((Rattle.std.proofs.Common.◌==◌ j i ≡ false) × (j ≢ i)) → ((j ≡ i) × (a ≡ b)) ⊎ ((j ≢ i) × (slice_get l j ≡ Some b))
      go (inl f) = let x : Some a ≡ Some b = sym (get-set_same l i a c there) ∙ ap (slice_get (set l i a)) (sym f.1) ∙ e in inl (f.1, cc)
      go (inr f) = inr (f.1, sym (get-set_other l i j a f.1) ∙ e)

  pub if_some : (b : Bool) (x : Option X) (y : X) → cond b x None ≡ Some y → (b ≡ true) × (x ≡ Some y)
  if_some true x y e = (refl, e)
  if_some false x y e = absurd (cc)

  -- these begin with those
  abbrev pub Grows : List X → List X → Type 0
  Grows xs ys = (more : List X) × (ys ≡ xs ++ more)

  pub grows_on : (xs ys zs : List X) → Grows xs ys → Grows ys zs → Grows xs zs
  grows_on xs ys zs g h = (g.0 ++ h.0, h.1 ∙ ap (λ l. l ++ h.0) g.1 ∙ append_assoc xs g.0 h.0)

pub added_grows : (xs : List Record) (o : Option Record) → Grows xs (with_record xs o)
added_grows xs None = ([], sym (append-nil xs))
added_grows xs (Some x) = (x ∷ [], refl)

pub hears : (x : Access) (a : Answer) → is_local x ≡ false → hearing x a ≡ record { access = x; answer = a } ∷ []
hears x a e = rw e refl

module _ {C : Type 0} (code : C → Effect C) where
  -- the world after a step of thread t, whose part is p, with this access
  abbrev pub after_step : World C → ℕ → Part C → Access → World C
  after_step w t p x = record { lock = lock_after w.lock x; words = words_after w.words x; parts = set w.parts t (part_after w.words p (step_with code p.thread (answer w.lock w.words x))) }

  -- a local step keeps the records and perhaps adds one
  pub local_grows : (p : Part C) → Grows p.records (local_step code p).records
  local_grows p = added_grows p.records (step_record p.base (step_with code p.thread Done).completed)

  -- the local steps before an access are determined
  pub paused_once : (k j : ℕ) (t a b : Part C) → after_local_steps code k t ≡ Some a → after_local_steps code j t ≡ Some b → is_local (access code a.thread) ≡ false → is_local (access code b.thread) ≡ false → a ≡ b
  paused_once zero zero t a b p q fa fb = cc
  paused_once zero (suc j) t a b p q fa fb = let same : t ≡ a = cc in absurd (true≢false (sym (if_some _ _ b q).0 ∙ (ap (λ (y : Part C). is_local (access code y.thread)) same ∙ fa)))
  paused_once (suc k) zero t a b p q fa fb = let same : t ≡ b = cc in absurd (true≢false (sym (if_some _ _ a p).0 ∙ (ap (λ (y : Part C). is_local (access code y.thread)) same ∙ fb)))
  paused_once (suc k) (suc j) t a b p q fa fb = paused_once k j (local_step code t) a b (if_some _ _ a p).1 (if_some _ _ b q).1 fa fb

  -- one local step more
  pub paused_more : (k : ℕ) (t a : Part C) → after_local_steps code k t ≡ Some a → is_local (access code a.thread) ≡ true → after_local_steps code (suc k) t ≡ Some (local_step code a)
  paused_more zero t a p far = let same : t ≡ a = cc in rw (ap (λ (y : Part C). is_local (access code y.thread)) same ∙ far) (ap (λ (y : Part C). Some (local_step code y)) same)
  paused_more (suc k) t a p far = let q = if_some (is_local (access code t.thread)) (after_local_steps code k (local_step code t)) a p in rw q.0 (paused_more k (local_step code t) a q.1 far)

  -- a replay after another
  pub replays_on : (th u v : Thread C) (n m : ℕ) (hs gs : List Heard) → StepsHearing code th n hs u → StepsHearing code u m gs v → StepsHearing code th (n + m) (hs ++ gs) v
  replays_on th u v n m hs gs r StepsHearing.none = subst (λ (z : ℕ × List Heard). StepsHearing code th z.0 z.1 v) (λ i. (sym (add-zero n) i, sym (append-nil hs) i)) r
  replays_on th u v n m hs gs r (StepsHearing.local_more k fs x q far) = subst (λ (z : ℕ). StepsHearing code th z (hs ++ gs) v) (sym (add-suc n k)) (StepsHearing.local_more (n + k) (hs ++ gs) x (replays_on th u x n k hs gs r q) far)
  replays_on th u v n m hs gs r (StepsHearing.heard_more k fs x a q far on) =
      subst (λ (z : ℕ × List Heard). StepsHearing code th z.0 z.1 v) (λ i. (sym (add-suc n k) i, append_assoc hs fs (record { access = access code x; answer = a } ∷ []) i)) (StepsHearing.heard_more (n + k) (hs ++ fs) x a (replays_on th u x n k hs fs r q) far on)

  module _ (init : ℕ → C) (m0 : List ℕ) (threads : ℕ) where
    -- one step, by its access
    pub moves : (w : World C) (heard : List (List Heard)) (t : ℕ) (p : Part C) (hs : List Heard) (x : Access) → access code p.thread ≡ x → Answered code init m0 threads w heard → slice_get w.parts t ≡ Some p → slice_get heard t ≡ Some hs → stops x ≡ false
        → Answered code init m0 threads (after_step w t p x) (set heard t (hs ++ hearing x (answer w.lock w.words x)))
    moves w heard t p hs x is r here said on =
        subst (λ (y : Access). Answered code init m0 threads (after_step w t p y) (set heard t (hs ++ hearing y (answer w.lock w.words y)))) is
        (subst (λ o. Answered code init m0 threads (step_of code w t o) (set heard t (hs ++ hearing (access code p.thread) (answer w.lock w.words (access code p.thread))))) here
        (Answered.moved w heard t p hs r here said (ap stops is ∙ on)))

    -- local steps
    pub pauses : (k t : ℕ) (p now : Part C) (hs : List Heard) (lock : ℕ) (words : List ℕ) (parts : List (Part C)) (heard : List (List Heard)) → Answered code init m0 threads (record { lock = lock; words = words; parts = parts }) heard → slice_get parts t ≡ Some p → slice_get heard t ≡ Some hs → after_local_steps code k p ≡ Some now
        → Answered code init m0 threads (record { lock = lock; words = words; parts = set parts t now }) heard
    pauses zero t p now hs lock words parts heard r here said e =
        let same : p ≡ now = cc in
        subst (λ ps. Answered code init m0 threads (record { lock = lock; words = words; parts = ps }) heard) (sym (set_same parts t now (here ∙ ap (λ (q : Part C). Some q) same))) r
    pauses (suc k) t p now hs lock words parts heard r here said e =
        let q = if_some (is_local (access code p.thread)) (after_local_steps code k (local_step code p)) now e in
        let is : access code p.thread ≡ Local = local_is (access code p.thread) q.0 in
        let m = moves (record { lock = lock; words = words; parts = parts }) heard t p hs Local is r here said refl in
        let same : set heard t (hs ++ []) ≡ heard = ap (set heard t) (append-nil hs) ∙ set_same heard t hs said in
        let r1 : Answered code init m0 threads (record { lock = lock; words = words; parts = set parts t (local_step code p) }) heard =
        subst (λ (q : Part C). Answered code init m0 threads (record { lock = lock; words = words; parts = set parts t q }) heard) (local_part code words p)
        (subst (λ hh. Answered code init m0 threads (record { lock = lock; words = words; parts = set parts t (part_after words p (step_with code p.thread Done)) }) hh) same m) in
        let rest = pauses k t (local_step code p) now hs lock words (set parts t (local_step code p)) heard r1 (get-set_same parts t (local_step code p) p here) said q.1 in
        subst (λ ps. Answered code init m0 threads (record { lock = lock; words = words; parts = ps }) heard) (set-set parts t (local_step code p) now) rest

    -- one access, with the local steps before it
    pub turns : (k t : ℕ) (p now : Part C) (hs : List Heard) (w : World C) (heard : List (List Heard)) (x : Access) → Answered code init m0 threads w heard → slice_get w.parts t ≡ Some p → slice_get heard t ≡ Some hs → after_local_steps code k p ≡ Some now
        → access code now.thread ≡ x → is_local x ≡ false → stops x ≡ false
        → Answered code init m0 threads (after_step w t now x) (set heard t (hs ++ record { access = x; answer = answer w.lock w.words x } ∷ []))
    turns k t p now hs w heard x r here said e is far on =
        let r1 = pauses k t p now hs w.lock w.words w.parts heard r here said e in
        let m = moves (record { lock = w.lock; words = w.words; parts = set w.parts t now }) heard t now hs x is r1 (get-set_same w.parts t now p here) said on in
        subst (λ ps. Answered code init m0 threads (record { lock = lock_after w.lock x; words = words_after w.words x; parts = ps }) (set heard t (hs ++ record { access = x; answer = answer w.lock w.words x } ∷ []))) (set-set w.parts t now _)
        (subst (λ (l : List Heard). Answered code init m0 threads (record { lock = lock_after w.lock x; words = words_after w.words x; parts = set (set w.parts t now) t (part_after w.words now (step_with code now.thread (answer w.lock w.words x))) }) (set heard t (hs ++ l))) (hears x (answer w.lock w.words x) far) m)

    -- the answers aside
    pub reached : (w : World C) (heard : List (List Heard)) → Answered code init m0 threads w heard → Reached code init m0 threads w
    reached w heard Answered.new = Reached.new
    reached w heard (Answered.moved v said t p hs r here there on) = Reached.moved v t p (reached v said r) here on
