-- A thread goes on from where it stands.
use Rattle.std.proofs.Common.{◌≡◌, ℕ, suc, List, [], ◌∷◌, ◌++◌, Option, Some, None, refl, sym, ap, ◌∙◌, subst, append-nil, append_assoc, map, Vec}
use Rattle.std.proofs.lemmas.List.{map-append}
use Rattle.syntax.specs.declared.thread_end.Halt.{Halt}
use Rattle.syntax.specs.Behaviours.{Memory, Ended, Stopped}
use Rattle.syntax.specs.Names.{Local, definition_of}
use Rattle.syntax.specs.Actions.{Context, Outside, State, Answer, Gives, Stops, Action, go_on, spend, tick, lefts_in, locals, put_locals, pure, or_astray, ◌>>=◌, ◌>>◌}
use Rattle.syntax.specs.Meaning.{Completion, Next, calls, call_locals, invoke, result_of, stmts}
use Rattle.syntax.specs.Tree.{Function, Program, Scalar, Stmts, Unsigned}
use Rattle.syntax.specs.declared.value.Value.{Value}
use Rattle.std.specs.Prelude.{codes}
use Rattle.syntax.specs.Threads.{outcome_of, first_state, worker_run}
use Rattle.syntax.specs.Threads.{thread as behaviour}
use Rattle.meaning.specs.Outcomes.{memories_in}
use Rattle.meaning.specs.declared.left.Left.{Left}
use Rattle.meaning.specs.declared.left.Left.TheVariants as left
use Rattle.meaning.specs.declared.left.Pending.{Pending}
use Rattle.meaning.specs.declared.left.Stepped.{Stepped}
use Rattle.meaning.specs.declared.left.Stepped.TheVariants as to
use Rattle.meaning.specs.declared.source_thread.StmtCompletion.{StmtCompletion as OwnCompletion}
use Rattle.meaning.specs.declared.standing.Point.{Point}
use Rattle.meaning.specs.declared.standing.Observed.{Observed}
use Rattle.meaning.specs.declared.standing.StandingThread.{StandingThread}
use Rattle.meaning.specs.declared.standing.StoppedThread.{StoppedThread}
use Rattle.program_tables.specs.declared.program.ProgramTables.{ProgramTables}
use Rattle.meaning.specs.declared.source_thread.Local.{Local as OwnLocal}
use Rattle.meaning.specs.inner.SourceThread.{completion_of, items_in, local_in}
use Rattle.program_tables.specs.Views.{program_in}
use Rattle.meaning.specs.Frames.{StateExtension, context_framed, extended_state}
use Rattle.meaning.specs.inner.Calls.{Begins, begin_call}
use Rattle.meaning.specs.inner.Going.{Follow, IsStep, call_left, follows, gone_on}
use Rattle.meaning.specs.inner.Left.{does_task, follow_of, left_gone_on, continue_with}
use Rattle.meaning.specs.inner.Standing.{IsStop, bare, end_by, frame_of, rest, seen_of, state_at}
use Rattle.meaning.proofs.GoesOn.{gone_on_last, stopped_is, went_is}

abbrev state : ℕ → List Local → List Memory → List Memory → List ℕ → State
state n ls founds lefts text = record { ticks = n; locals = ls; context = Outside founds lefts; text = text }

module _ {A : Type 0} (source : ProgramTables A) where
  -- what was shown on the way stands round the new point
  reached : (founds : List Memory) (shown more all : Observed A) (at : Point A) → all.lefts.items ≡ shown.lefts.items ++ more.lefts.items → all.text.items ≡ shown.text.items ++ more.text.items →
      extended_state (frame_of founds shown) (state_at at more) ≡ extended_state (frame_of founds all) (bare at)
  reached founds shown more all at lefts text =
      let many = sym (map-append (λ v. v.items) shown.lefts.items more.lefts.items) ∙ sym (ap memories_in lefts) ∙ sym (append-nil (memories_in all.lefts.items)) in
      let long = sym text ∙ sym (append-nil all.text.items) in
      λ i. state at.ticks (items_in at.locals) (memories_in at.due.items ++ founds) (many i) (long i)

  -- the piece at the end is the innermost one
  at_last : (all ls : List (Left A)) (l : Left A) (e : Completion) (s : State) → all ≡ ls ++ l ∷ [] → left_gone_on source all e s ≡ gone_on (map (continue_with source) ls ++ continue_with source l ∷ []) e s
  at_last all ls l e s h = ap (λ ks. gone_on ks e s) (ap (map (continue_with source)) h ∙ map-append (continue_with source) ls (l ∷ []))

  last_goes : (ls : List (Left A)) (l : Left A) (e : Completion) (s : State) → left_gone_on source (ls ++ l ∷ []) e s ≡ go_on (continue_with source l e s) (left_gone_on source ls)
  last_goes ls l e s = ap (λ ks. gone_on ks e s) (map-append (continue_with source) ls (l ∷ [])) ∙ gone_on_last (map (continue_with source) ls) (continue_with source l) e s

  behind : (ls : List (Left A)) (l : Left A) (r : Answer Completion) → go_on r (left_gone_on source (ls ++ l ∷ [])) ≡ go_on (go_on r (continue_with source l)) (left_gone_on source ls)
  behind ls l (Gives e s) = last_goes ls l e s
  behind ls l (Stops why s) = refl

  -- what comes next is put behind what is left
  pub puts_end : (ls : List (Left A)) (e : OwnCompletion) (next : Stepped A) (s : State) → next ≡ to.Ends e → left_gone_on source ls (completion_of e) s ≡ go_on (follows (follow_of source next) s) (left_gone_on source ls)
  puts_end ls e next s is = ap (λ n. go_on (follows (follow_of source n) s) (left_gone_on source ls)) (sym is)

  pub puts_task : (ls new : List (Left A)) (t : Pending A) (next : Stepped A) (s : State) → next ≡ to.Goes t → new ≡ ls ++ left.Next t ∷ [] → left_gone_on source new Next s ≡ go_on (follows (follow_of source next) s) (left_gone_on source ls)
  puts_task ls new t next s is put =
      ap (λ ks. left_gone_on source ks Next s) put ∙ last_goes ls (left.Next t) Next s ∙ ap (λ n. go_on (follows (follow_of source n) s) (left_gone_on source ls)) (sym is)

  pub puts_both : (ls mid new : List (Left A)) (l : Left A) (t : Pending A) (next : Stepped A) (s : State) → next ≡ to.Nests l t → mid ≡ ls ++ l ∷ [] → new ≡ mid ++ left.Next t ∷ [] →
      left_gone_on source new Next s ≡ go_on (follows (follow_of source next) s) (left_gone_on source ls)
  puts_both ls mid new l t next s is outer put =
      ap (λ ks. left_gone_on source ks Next s) put ∙ last_goes mid (left.Next t) Next s ∙ ap (λ ks. go_on (does_task source t s) (left_gone_on source ks)) outer
      ∙ behind ls l (does_task source t s) ∙ ap (λ n. go_on (follows (follow_of source n) s) (left_gone_on source ls)) (sym is)

  -- a thread that has made a step has the same left to do
  pub advanced : (thread new : StandingThread A) (l : Left A) (ls : List (Left A)) (run : Action Follow) (next : Stepped A) (at : Point A) (more : Observed A) →
      thread.left.items ≡ ls ++ l ∷ [] → IsStep (continue_with source l) (completion_of thread.end) run → run (bare thread.at) ≡ Gives (follow_of source next) (state_at at more) →
      ((s : State) → left_gone_on source new.left.items (completion_of new.end) s ≡ go_on (follows (follow_of source next) s) (left_gone_on source ls)) → new.at ≡ at →
      new.shown.lefts.items ≡ thread.shown.lefts.items ++ more.lefts.items → new.shown.text.items ≡ thread.shown.text.items ++ more.text.items →
      (founds : List Memory) → rest source new founds ≡ rest source thread founds
  advanced thread new l ls run next at more last step h put there lefts text founds =
      let f = frame_of founds thread.shown in
      ap (λ r. go_on r (λ _. tick))
      (ap (λ p. left_gone_on source new.left.items (completion_of new.end) (extended_state (frame_of founds new.shown) (bare p))) there
      ∙ ap (left_gone_on source new.left.items (completion_of new.end)) (sym (reached founds thread.shown more new.shown at lefts text))
      ∙ put (extended_state f (state_at at more))
      ∙ sym (went_is (continue_with source l) (map (continue_with source) ls) (completion_of thread.end) run step f (bare thread.at) (state_at at more) (follow_of source next) h)
      ∙ sym (at_last thread.left.items ls l (completion_of thread.end) (extended_state f (bare thread.at)) last))

  shown_by : (why : Halt) (f : StateExtension) (s : State) (founds lefts : List Memory) (text : List ℕ) → s.context ≡ Outside founds lefts → s.text ≡ text →
      outcome_of (Stops why (extended_state f s)) ≡ record { lefts = f.lefts ++ lefts; text = f.text ++ text; end = Stopped why }
  shown_by why f s founds lefts text there printed = λ i. record { lefts = lefts_in (context_framed f (there i)); text = f.text ++ printed i; end = Stopped why }

  -- a thread that stops at a step
  pub stops_at : (thread : StandingThread A) (l : Left A) (ls : List (Left A)) (run : Action Follow) (why : Halt) (more : Observed A) (s : State) (founds : List Memory) →
      thread.left.items ≡ ls ++ l ∷ [] → IsStep (continue_with source l) (completion_of thread.end) run → run (bare thread.at) ≡ Stops why s →
      s.context ≡ Outside founds (memories_in more.lefts.items) → s.text ≡ more.text.items → (stop : StoppedThread A) → stop.why ≡ Some why → stop.shown ≡ more → IsStop source thread stop
  stops_at thread l ls run why more s founds last step h there printed stop is what =
      let f = frame_of [] thread.shown in
      ap (λ r. outcome_of (go_on r (λ _. tick))) (at_last thread.left.items ls l (completion_of thread.end) (extended_state f (bare thread.at)) last ∙ stopped_is (continue_with source l) (map (continue_with source) ls) (completion_of thread.end) run step f (bare thread.at) s why refl h)
      ∙ shown_by why f s founds (memories_in more.lefts.items) more.text.items there printed
      ∙ (λ i. record { lefts = f.lefts ++ memories_in (sym what i).lefts.items; text = f.text ++ (sym what i).text.items; end = end_by (sym is i) })

  -- a thread that finds a memory finds it before what it finds further
  pub finds : (thread new : StandingThread A) (m : Memory) → new.left ≡ thread.left → new.end ≡ thread.end → new.shown ≡ thread.shown → new.at.ticks ≡ thread.at.ticks → new.at.locals ≡ thread.at.locals →
      memories_in new.at.due.items ≡ memories_in thread.at.due.items ++ m ∷ [] → (further : List Memory) → rest source new further ≡ rest source thread (m ∷ further)
  finds thread new m left end shown ticks locals due further =
      let all = ap (λ ms. ms ++ further) due ∙ append_assoc (memories_in thread.at.due.items) (m ∷ []) further in
      λ i. go_on (left_gone_on source (left i).items (completion_of (end i)) (state (ticks i) (items_in (locals i)) (all i) (memories_in (shown i).lefts.items ++ []) ((shown i).text.items ++ []))) (λ _. tick)

  -- what is known of a thread from its beginning on
  module _ (p : Program) (ticks t : ℕ) (thread : StandingThread A) (founds : List Memory) (stands : (further : List Memory) → rest source thread further ≡ worker_run p t (first_state (founds ++ further) ticks)) where
    pub seen_is : (stop : StoppedThread A) → IsStop source thread stop → seen_of thread stop ≡ behaviour p t founds ticks
    seen_is stop h = sym h ∙ ap outcome_of (stands []) ∙ ap (λ fs. outcome_of (worker_run p t (first_state fs ticks))) (append-nil founds)

abbrev is_given : {X : Type 0} → Answer X → Type 0
is_given (Gives x s) = Unit {0}
is_given (Stops why s) = ⊥

abbrev given_by : Begins → Answer Begins → Begins
given_by d (Gives b s) = b
given_by d (Stops why s) = d

abbrev begun_of : Option Scalar → Stmts → List Local → Begins
begun_of ty body mine = record { ty = ty; body = body; mine = mine }

-- how a call begins is the same at every state
by_entered : (o : Option (List Local)) (ty : Option Scalar) (body : Stmts) (b : Begins) (s s1 : State) → go_on (or_astray o s) (λ mine. pure (begun_of ty body mine)) ≡ Gives b s1 →
    (after : Begins → Action Value) (s2 : State) → go_on (or_astray o s2) (λ mine. after (begun_of ty body mine)) ≡ after b s2
by_entered None ty body b s s1 h after s2 = absurd (subst is_given (sym h) tt)
by_entered (Some mine) ty body b s s1 h after s2 = ap (λ x. after x s2) (ap (given_by b) h)

by_found : (o : Option (Function × Stmts)) (vs : List Value) (b : Begins) (s s1 : State) → go_on (or_astray o s) (λ f. or_astray (call_locals f.0.parameters vs) >>= (λ mine. pure (begun_of f.0.result f.1 mine))) ≡ Gives b s1 →
    (after : Begins → Action Value) (s2 : State) → go_on (or_astray o s2) (λ f. or_astray (call_locals f.0.parameters vs) >>= (λ mine. after (begun_of f.0.result f.1 mine))) ≡ after b s2
by_found None vs b s s1 h after s2 = absurd (subst is_given (sym h) tt)
by_found (Some f) vs b s s1 h after s2 = by_entered (call_locals f.0.parameters vs) f.0.result f.1 b s s1 h after s2

abbrev invoked : Program → ℕ → Begins → Action Value
invoked p k b = do
  outer ← locals
  put_locals b.mine
  end ← stmts p (calls p k) b.body
  put_locals outer
  result_of b.ty end

invoke_is : (p : Program) (k : ℕ) (x : List ℕ) (vs : List Value) (b : Begins) (s s1 : State) → begin_call p x vs s ≡ Gives b s1 → (s2 : State) → invoke p (calls p k) x vs s2 ≡ invoked p k b s2
invoke_is p k x vs b s s1 h s2 = by_found (definition_of p x) vs b s s1 h (invoked p k) s2

-- a value that counts no more
uncounted : (q : Answer Value) → go_on (go_on q (λ _. pure Next)) (λ _. tick) ≡ go_on q (λ _. tick)
uncounted (Gives v s) = refl
uncounted (Stops why s) = refl

ends_call : (ty : Option Scalar) (r : Answer Completion) → go_on (go_on r (call_left ty [])) (λ _. tick) ≡ go_on (go_on r (λ end. put_locals [] >> result_of ty end)) (λ _. tick)
ends_call ty (Gives end s) = uncounted (result_of ty end (record s { locals = [] }))
ends_call ty (Stops why s) = refl

module _ {A : Type 0} (source : ProgramTables A) where
  -- a call of which all is still to do
  pub begins_left : (first second third : List (Left A)) (ty : Option Scalar) (outer : Vec OwnLocal A) (t : Pending A) → first ≡ [] → second ≡ first ++ left.Call ty outer ∷ [] → third ≡ second ++ left.Next t ∷ [] → outer.items ≡ [] →
      (now : State) → left_gone_on source third Next now ≡ go_on (does_task source t now) (call_left ty [])
  begins_left first second third ty outer t none call all outside now =
      ap (λ ls. left_gone_on source ls Next now) (all ∙ ap (λ ls. ls ++ left.Next t ∷ []) (call ∙ ap (λ ls. ls ++ left.Call ty outer ∷ []) none))
      ∙ ap (λ ls. go_on (does_task source t now) (call_left ty ls)) (ap (map local_in) outside)

  -- a thread before its first tick
  pub begins_so : (thread : StandingThread A) (ticks t : ℕ) (b : Begins) (s s1 : State) → begin_call (program_in source) (codes "worker") (record { ty = Unsigned; word = t } ∷ []) s ≡ Gives b s1 →
      ((now : State) → left_gone_on source thread.left.items (completion_of thread.end) now ≡ go_on (stmts (program_in source) (calls (program_in source) 63) b.body now) (call_left b.ty [])) →
      thread.at.ticks ≡ ticks → items_in thread.at.locals ≡ b.mine → memories_in thread.at.due.items ≡ [] → memories_in thread.shown.lefts.items ≡ [] → thread.shown.text.items ≡ [] →
      (founds : List Memory) → rest source thread founds ≡ worker_run (program_in source) t (first_state founds ticks)
  begins_so thread ticks t b s s1 h left same mine due lefts text founds =
      let p = program_in source in
      let there : extended_state (frame_of founds thread.shown) (bare thread.at) ≡ state ticks b.mine founds [] [] =
      λ i. extended_state (record { founds = founds; lefts = lefts i; text = text i }) (state (same i) (mine i) (due i) [] []) in
      ap (λ r. go_on r (λ _. tick)) (ap (left_gone_on source thread.left.items (completion_of thread.end)) there ∙ left (state ticks b.mine founds [] []))
      ∙ ends_call b.ty (stmts p (calls p 63) b.body (state ticks b.mine founds [] []))
      ∙ ap (λ r. go_on r (λ _. tick)) (sym (invoke_is p 63 (codes "worker") (record { ty = Unsigned; word = t } ∷ []) b s s1 h (first_state founds ticks)))

-- a thread that is made at a point, and the point that a thread leaves
module _ {A : Type 0} where
  pub stands_bare : (at : Point A) (ls : List Local) (due left : List Memory) (text : List ℕ) → ls ≡ items_in at.locals → due ≡ memories_in at.due.items → left ≡ [] → text ≡ [] → state at.ticks ls due left text ≡ bare at
  stands_bare at ls due left text a b c d = λ i. state at.ticks (a i) (b i) (c i) (d i)

  pub stands_at : (f : Follow) (at : Point A) (shown : Observed A) (there : Context) (founds : List Memory) → there ≡ Outside founds (memories_in shown.lefts.items) → memories_in at.due.items ≡ founds →
      Gives f (record { ticks = at.ticks; locals = items_in at.locals; context = there; text = shown.text.items }) ≡ Gives f (state_at at shown)
  stands_at f at shown there founds is due =
      ap (λ k. Gives f (record { ticks = at.ticks; locals = items_in at.locals; context = k; text = shown.text.items })) (is ∙ ap (λ ms. Outside ms (memories_in shown.lefts.items)) (sym due))
