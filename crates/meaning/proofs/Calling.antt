-- A statement that is nothing but a call is done by the body that it calls.
use Rattle.std.proofs.Common.{◌≡◌, ℕ, zero, suc, List, Option, refl, sym, ap, ◌∙◌}
use Rattle.lex.specs.declared.token.Scalar.{Scalar}
use Rattle.syntax.specs.Tree.{Program, Exprs}
use Rattle.syntax.specs.Tree as tree
use Rattle.lex.specs.declared.token.Span.{Span}
use Rattle.syntax.specs.declared.value.Value.{Value}
use Rattle.syntax.specs.declared.thread_end.Halt.{Halt}
use Rattle.syntax.specs.declared.thread_end.Halt.TheVariants.{Trapped}
use Rattle.syntax.specs.declared.thread_end.Trap.TheVariants.{Frames}
use Rattle.syntax.specs.Names.{Local}
use Rattle.syntax.specs.Actions.{State, Answer, Gives, Stops, Action, pure, stop, go_on, tick, put_locals, ◌>>=◌, ◌>>◌}
use Rattle.syntax.specs.Meaning.{Caller, Completion, Next, calls, expr, exprs, result_of, stmts}
use Rattle.meaning.specs.inner.Calls.{Begins, begin_call}
use Rattle.meaning.specs.inner.Going.{Follow, Nests, call_alone, call_begun, call_left, call_of, follows, frame_at, frame_begun}
use Rattle.meaning.proofs.Going.{on_both}
use Rattle.meaning.proofs.Sequences.{after, halts, twice}
use Rattle.meaning.proofs.Steps.{call_rest, invoke_begun}

-- behind an answer, what does the same
on_pair : {X Y Z W : Type 0} (r : Answer X) (f : X → Action Y) (rest : Y → Action Z) (g : X → Action W) (other : W → Action Z) → ((x : X) (s : State) → go_on (f x s) rest ≡ go_on (g x s) other) → go_on (go_on r f) rest ≡ go_on (go_on r g) other
on_pair (Gives x s) f rest g other h = h x s
on_pair (Stops why s) f rest g other h = refl

-- a call's value counts no more
abbrev no_value : Value → Action Completion
no_value v = pure Next

leaves_call : (ty : Option Scalar) (outer : List Local) (r : Answer Completion) → go_on (go_on r (λ end. put_locals outer >> result_of ty end)) no_value ≡ go_on r (call_left ty outer)
leaves_call ty outer r = sym (twice r (λ end. put_locals outer >> result_of ty end) no_value)

module _ (p : Program) where
  frame_is : (k : ℕ) (x : List ℕ) (vs : List Value) (s : State) → go_on (calls p k x vs s) no_value ≡ go_on (frame_begun p k x vs s) follows
  frame_is zero x vs s = on_pair (tick s) (λ _. stop (Trapped Frames)) no_value (λ _. stop (Trapped Frames)) follows (λ u now. refl)
  frame_is (suc k) x vs s =
      ap (λ r. go_on r no_value) (invoke_begun p (calls p k) x vs s)
      ∙ on_pair (begin_call p x vs s) (call_rest p (calls p k)) no_value (frame_at p k) follows
      (λ b now. leaves_call b.ty now.locals (stmts p (calls p k) b.body (record now { locals = b.mine })))

  pub call_is : (k : ℕ) (x : List ℕ) (es : Exprs) (s : State) → call_alone p (calls p k) x es s ≡ go_on (call_begun p k x es s) follows
  call_is k x es s =
      on_both (tick s) (λ _. call_of p (calls p k) x es >> pure Next) (λ _. exprs p (calls p k) es >>= (λ vs. tick >> frame_begun p k x vs)) follows
      (λ u now. on_pair (exprs p (calls p k) es now) (λ vs. tick >> calls p k x vs) no_value (λ vs. tick >> frame_begun p k x vs) follows
      (λ vs then_. on_pair (tick then_) (λ _. calls p k x vs) no_value (λ _. frame_begun p k x vs) follows (λ v last. frame_is k x vs last)))

  -- a function that is entered
  pub enters : (n k : ℕ) (x : List ℕ) (vs : List Value) (s0 s1 : State) (b : Begins) (mine outer : List Local) → n ≡ suc k → begin_call p x vs s0 ≡ Gives b s1 → mine ≡ b.mine → outer ≡ s1.locals →
      frame_begun p n x vs s0 ≡ Gives (Nests (call_left b.ty outer) (stmts p (calls p k) b.body)) (record s1 { locals = mine })
  enters n k x vs s0 s1 b mine outer more h bound outer_is =
      ap (λ i. frame_begun p i x vs s0) more ∙ after (begin_call p x vs s0) (frame_at p k) b s1 h
      ∙ (λ i. Gives (Nests (call_left b.ty (sym outer_is i)) (stmts p (calls p k) b.body)) (record s1 { locals = sym bound i }))

-- the first step of a call, up to its function
module _ (p : Program) (k : ℕ) (x : List ℕ) (es : Exprs) (s0 s1 : State) where
  pub call_unticked : (why : Halt) → tick s0 ≡ Stops why s1 → call_begun p k x es s0 ≡ Stops why s1
  call_unticked why d = halts (tick s0) (λ _. exprs p (calls p k) es >>= (λ vs. tick >> frame_begun p k x vs)) why s1 d

  module _ (s2 : State) (ticked : tick s0 ≡ Gives tt s1) where
    call_ticked : call_begun p k x es s0 ≡ go_on (exprs p (calls p k) es s1) (λ vs. tick >> frame_begun p k x vs)
    call_ticked = after (tick s0) (λ _. exprs p (calls p k) es >>= (λ vs. tick >> frame_begun p k x vs)) tt s1 ticked

    pub call_unvalued : (why : Halt) → exprs p (calls p k) es s1 ≡ Stops why s2 → call_begun p k x es s0 ≡ Stops why s2
    call_unvalued why d = call_ticked ∙ halts (exprs p (calls p k) es s1) (λ vs. tick >> frame_begun p k x vs) why s2 d

    module _ (s3 : State) (vs : List Value) (valued : exprs p (calls p k) es s1 ≡ Gives vs s2) where
      call_valued : call_begun p k x es s0 ≡ go_on (tick s2) (λ _. frame_begun p k x vs)
      call_valued = call_ticked ∙ after (exprs p (calls p k) es s1) (λ us. tick >> frame_begun p k x us) vs s2 valued

      pub call_unentered : (why : Halt) → tick s2 ≡ Stops why s3 → call_begun p k x es s0 ≡ Stops why s3
      call_unentered why d = call_valued ∙ halts (tick s2) (λ _. frame_begun p k x vs) why s3 d

      pub call_enters : (r : Answer Follow) → tick s2 ≡ Gives tt s3 → frame_begun p k x vs s3 ≡ r → call_begun p k x es s0 ≡ r
      call_enters r d entered = call_valued ∙ after (tick s2) (λ _. frame_begun p k x vs) tt s3 d ∙ entered

-- a call in an expression, up to its function
pub called : (p : Program) (call : Caller) (f : tree.Name) (es : Exprs) (at : Span) (s0 s2 s3 : State) (vs : List Value) (r : Answer Value) → exprs p call es s0 ≡ Gives vs s2 → tick s2 ≡ Gives tt s3 → call f.text vs s3 ≡ r → expr p call (tree.Call f es at) s0 ≡ r
called p call f es at s0 s2 s3 vs r valued ticked entered =
    after (exprs p call es s0) (λ us. tick >> call f.text us) vs s2 valued ∙ after (tick s2) (λ _. call f.text vs) tt s3 ticked ∙ entered
