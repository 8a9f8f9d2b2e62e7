-- Lists of steps with what each thread was answered, by the steps of one thread.
use Rattle.std.proofs.Common.{◌≡◌, ℕ, zero, suc, true, false, List, [], ◌∷◌, ◌++◌, Some, append-nil, append_assoc, true≢false, replicate, set, set-set, slice_get, refl, sym, ap, ◌∙◌, subst}
use Rattle.norec_core.specs.declared.step.Access.{Access}
use Rattle.norec_core.specs.declared.step.Access.TheVariants.{Local}
use Rattle.norec_core.specs.declared.step.Answer.TheVariants.{Done}
use Rattle.norec_core.specs.Accesses.{stops}
use Rattle.bytecode.specs.Code.{Configuration, effect}
use Rattle.bytecode.specs.Effects.{Effect}
use Rattle.bytecode.specs.Beginning.{beginning}
use Rattle.bytecode.specs.Initial.{initial_of}
use Rattle.machine.specs.Answered.{Heard, after_local_steps, hearing, is_local, local_step}
use Rattle.machine.specs.Traces.{DoesNotStop, heard_of}
use Rattle.machine.specs.Threads.{access, step_with}
use Rattle.machine.specs.Worlds.{Part, World, answer, lock_after, new_world, part_after, step, step_of, words_after}
use Rattle.machine.proofs.answers.Answering.{after_step, hears, if_some, local_is, set_same}
use Rattle.machine.proofs.answers.Quiet.{local_part}
use Rattle.machine.proofs.answers.Traces.{answered, heard-append, run-append, runs-append}
use Rattle.machine.proofs.steps.Worlds.{get-set_same}
use Rattle.shared_words.specs.Rule.{IsRuled}
use Rattle.shared_words.specs.Views.{Views}
use Rattle.shared_words.specs.Setup.{AreMade, IsPrefix, IsTraceOf, IsWorldOf, Setup, IsPartAfter, heard_by, world_of}
use Rattle.shared_words.specs.inner.Parts.{IsPart}

pub begins_self : (ts : List ℕ) → IsPrefix ts ts
begins_self ts = ([], sym (append-nil ts))

pub begins_on : (ts us vs : List ℕ) → IsPrefix ts us → IsPrefix us vs → IsPrefix ts vs
begins_on ts us vs f g = (f.0 ++ g.0, g.1 ∙ ap (λ (l : List ℕ). l ++ g.0) f.1 ∙ append_assoc ts f.0 g.0)

module _ (key : Setup) where
  abbrev new : World Configuration
  new = new_world (beginning key.code) (initial_of key.code) key.threads

  abbrev unheard : List (List Heard)
  unheard = replicate key.threads []

  -- the answers of a trace
  pub answered_by : (ts : List ℕ) → AreMade key ts → IsWorldOf key (world_of key ts) (heard_by key ts)
  answered_by ts on = answered (effect key.code) (beginning key.code) (initial_of key.code) key.threads ts on

  pub world_is : (ts : List ℕ) (w : World Configuration) (heard : List (List Heard)) → IsTraceOf key ts w heard → IsWorldOf key w heard
  world_is ts w heard g = subst (λ (z : World Configuration × List (List Heard)). IsWorldOf key z.0 z.1) (λ i. (sym g.world i, sym g.answers i)) (answered_by ts g.steps)

  -- the rule's world
  pub ruled_world : (words : List ℕ) (views : Views) (rule : IsRuled key words views) → IsWorldOf key rule.world rule.heard
  ruled_world words views rule = world_is rule.trace rule.world rule.heard rule.is_trace

  pub is_part : (ts : List ℕ) (number : ℕ) (p : Part Configuration) (hs : List Heard) → IsPartAfter key ts number p hs → IsPart key number p hs
  is_part ts number p hs s = record { world = world_of key ts; heard = heard_by key ts; answered = answered_by ts s.steps; part = s.part; answers = s.answers }

  -- where the trace leads, a thread stands after it
  pub stands_here : (ts : List ℕ) (w : World Configuration) (heard : List (List Heard)) (number : ℕ) (p : Part Configuration) (hs : List Heard) → IsTraceOf key ts w heard → slice_get w.parts number ≡ Some p → slice_get heard number ≡ Some hs → IsPartAfter key ts number p hs
  stands_here ts w heard number p hs g here said = record {
    steps = g.steps;
    part = ap (λ (v : World Configuration). slice_get v.parts number) (sym g.world) ∙ here;
    answers = ap (λ (l : List (List Heard)). slice_get l number) (sym g.answers) ∙ said;
  }

  -- one step more, by its access
  moves : (ts : List ℕ) (w : World Configuration) (heard : List (List Heard)) (t : ℕ) (p : Part Configuration) (hs : List Heard) (x : Access) → access (effect key.code) p.thread ≡ x → IsTraceOf key ts w heard → slice_get w.parts t ≡ Some p → slice_get heard t ≡ Some hs → stops x ≡ false
      → IsTraceOf key (ts ++ t ∷ []) (after_step (effect key.code) w t p x) (set heard t (hs ++ hearing x (answer w.lock w.words x)))
  moves ts w heard t p hs x is g here said on =
      let at : slice_get (world_of key ts).parts t ≡ Some p = ap (λ (v : World Configuration). slice_get v.parts t) (sym g.world) ∙ here in
      let stepped : step (effect key.code) w t ≡ after_step (effect key.code) w t p x = ap (step_of (effect key.code) w t) here ∙ ap (after_step (effect key.code) w t p) is in
      let told : heard_of (effect key.code) w heard t (slice_get w.parts t) (slice_get heard t) ≡ set heard t (hs ++ hearing x (answer w.lock w.words x)) =
      (λ i. heard_of (effect key.code) w heard t (here i) (said i)) ∙ ap (λ (y : Access). set heard t (hs ++ hearing y (answer w.lock w.words y))) is in
      record {
        steps = runs-append (effect key.code) ts (t ∷ []) new g.steps (subst (DoesNotStop (effect key.code)) (sym at) (ap stops is ∙ on), tt);
        world = sym stepped ∙ ap (λ (v : World Configuration). step (effect key.code) v t) g.world ∙ sym (run-append (effect key.code) ts (t ∷ []) new);
        answers = sym told ∙ (λ i. heard_of (effect key.code) (g.world i) (g.answers i) t (slice_get (g.world i).parts t) (slice_get (g.answers i) t)) ∙ sym (heard-append (effect key.code) ts (t ∷ []) new unheard);
      }

  -- local steps
  pub pauses : (k : ℕ) (ts : List ℕ) (t : ℕ) (p now : Part Configuration) (hs : List Heard) (lock : ℕ) (words : List ℕ) (parts : List (Part Configuration)) (heard : List (List Heard)) → IsTraceOf key ts (record { lock = lock; words = words; parts = parts }) heard → slice_get parts t ≡ Some p → slice_get heard t ≡ Some hs → after_local_steps (effect key.code) k p ≡ Some now
      → IsTraceOf key (ts ++ replicate k t) (record { lock = lock; words = words; parts = set parts t now }) heard
  pauses zero ts t p now hs lock words parts heard g here said e =
      let same : p ≡ now = cc in
      subst (λ (z : List ℕ × List (Part Configuration)). IsTraceOf key z.0 (record { lock = lock; words = words; parts = z.1 }) heard) (λ i. (sym (append-nil ts) i, sym (set_same parts t now (here ∙ ap (λ (q : Part Configuration). Some q) same)) i)) g
  pauses (suc k) ts t p now hs lock words parts heard g here said e =
      let q = if_some (is_local (access (effect key.code) p.thread)) (after_local_steps (effect key.code) k (local_step (effect key.code) p)) now e in
      let is : access (effect key.code) p.thread ≡ Local = local_is (access (effect key.code) p.thread) q.0 in
      let m = moves ts (record { lock = lock; words = words; parts = parts }) heard t p hs Local is g here said refl in
      let same : set heard t (hs ++ []) ≡ heard = ap (set heard t) (append-nil hs) ∙ set_same heard t hs said in
      let g1 : IsTraceOf key (ts ++ t ∷ []) (record { lock = lock; words = words; parts = set parts t (local_step (effect key.code) p) }) heard =
      subst (λ (q : Part Configuration). IsTraceOf key (ts ++ t ∷ []) (record { lock = lock; words = words; parts = set parts t q }) heard) (local_part (effect key.code) words p)
      (subst (λ hh. IsTraceOf key (ts ++ t ∷ []) (record { lock = lock; words = words; parts = set parts t (part_after words p (step_with (effect key.code) p.thread Done)) }) hh) same m) in
      let rest = pauses k (ts ++ t ∷ []) t (local_step (effect key.code) p) now hs lock words (set parts t (local_step (effect key.code) p)) heard g1 (get-set_same parts t (local_step (effect key.code) p) p here) said q.1 in
      subst (λ (z : List ℕ × List (Part Configuration)). IsTraceOf key z.0 (record { lock = lock; words = words; parts = z.1 }) heard) (λ i. (append_assoc ts (t ∷ []) (replicate k t) i, set-set parts t (local_step (effect key.code) p) now i)) rest

  -- one access, with the local steps before it
  pub turns : (ts : List ℕ) (k t : ℕ) (p now : Part Configuration) (hs : List Heard) (w : World Configuration) (heard : List (List Heard)) (x : Access) → IsTraceOf key ts w heard → slice_get w.parts t ≡ Some p → slice_get heard t ≡ Some hs → after_local_steps (effect key.code) k p ≡ Some now
      → access (effect key.code) now.thread ≡ x → is_local x ≡ false → stops x ≡ false
      → IsTraceOf key ((ts ++ replicate k t) ++ t ∷ []) (after_step (effect key.code) w t now x) (set heard t (hs ++ record { access = x; answer = answer w.lock w.words x } ∷ []))
  turns ts k t p now hs w heard x g here said e is far on =
      let g1 = pauses k ts t p now hs w.lock w.words w.parts heard g here said e in
      let m = moves (ts ++ replicate k t) (record { lock = w.lock; words = w.words; parts = set w.parts t now }) heard t now hs x is g1 (get-set_same w.parts t now p here) said on in
      subst (λ ps. IsTraceOf key ((ts ++ replicate k t) ++ t ∷ []) (record { lock = lock_after w.lock x; words = words_after w.words x; parts = ps }) (set heard t (hs ++ record { access = x; answer = answer w.lock w.words x } ∷ []))) (set-set w.parts t now _)
      (subst (λ (l : List Heard). IsTraceOf key ((ts ++ replicate k t) ++ t ∷ []) (record { lock = lock_after w.lock x; words = words_after w.words x; parts = set (set w.parts t now) t (part_after w.words now (step_with (effect key.code) now.thread (answer w.lock w.words x))) }) (set heard t (hs ++ l))) (hears x (answer w.lock w.words x) far) m)

  pub turns_begin : (ts : List ℕ) (k t : ℕ) → IsPrefix ts ((ts ++ replicate k t) ++ t ∷ [])
  turns_begin ts k t = (replicate k t ++ t ∷ [], append_assoc ts (replicate k t) (t ∷ []))

-- the number of local steps before an access is determined
pub counted_once : {C : Type 0} (code : C → Effect C) (k j : ℕ) (t a b : Part C) → after_local_steps code k t ≡ Some a → after_local_steps code j t ≡ Some b → is_local (access code a.thread) ≡ false → is_local (access code b.thread) ≡ false → k ≡ j
counted_once code zero zero t a b p q fa fb = refl
counted_once code zero (suc j) t a b p q fa fb = let same : t ≡ a = cc in absurd (true≢false (sym (if_some _ _ b q).0 ∙ (ap (λ (y : Part _). is_local (access code y.thread)) same ∙ fa)))
counted_once code (suc k) zero t a b p q fa fb = let same : t ≡ b = cc in absurd (true≢false (sym (if_some _ _ a p).0 ∙ (ap (λ (y : Part _). is_local (access code y.thread)) same ∙ fb)))
counted_once code (suc k) (suc j) t a b p q fa fb = ap suc (counted_once code k j (local_step code t) a b (if_some _ _ a p).1 (if_some _ _ b q).1 fa fb)
