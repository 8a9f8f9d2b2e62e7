use mir.Syntax.{w64}
use mir.Val.{Fits}
use Rattle.std.proofs.Common.{◌≡◌, ◌<◌, ◌≤◌, ◌+◌, ◌^◌, ◌∙◌, ℕ, List, [], ◌∷◌, ◌++◌, Some, refl, sym, ap, subst, slice_get, length, arith}
use Rattle.std.proofs.lemmas.Option.{slice_get_read}
use Rattle.world.specs.Simulations.{IsExplained, Simulation, further, shown_at, stops_at}
use Rattle.world.proofs.Stepping.{after_is, explained, same_world, same_simulation, never, of_code, ready_count, ready_counts, ready_shown, ready_fits, ready_makeable, ready_of, ready_word, stepped_now, stops_is, used_up_by}
use Rattle.world.proofs.world.World.step_shown.Goals as goal

room_for : (len now items cap : ℕ) → len + 1 ≤ cap → len ≡ now → cap < 2 ^ 63 → now ≡ items → items + 1 < 2 ^ 64
room_for len now items cap o l m k = omega (arith, o, l, m, k)

fits_word : (n : ℕ) → n < 2 ^ 64 → Fits w64 n
fits_word n h = omega (arith, h)

pub prepare-requires : goal.prepare-requires
prepare-requires g c =
    let s : Simulation = record { code = c.self.inside.code; threads = length c.self.inside.threads.items; trace = c.self.inside.trace.items } in
    let here : slice_get c.self.inside.threads.items c.args.t ≡ Some c.index_mut-thread.result.now = slice_get_read c.self.inside.threads.items (length c.self.inside.threads.items) c.args.t c.index_mut-thread.result.now refl (subst (λ (v : Simulation). c.args.t < v.threads) (sym c.self.view_is) c.requires) c.index_mut-thread.ensures.value in
    of_code s c.self.inside.lock c.self.inside.words.items c.self.inside.threads.items c.self.inside.accesses c.self.invariant c.args.t c.index_mut-thread.result.now here

pub invariant_of-self : goal.invariant_of-self
invariant_of-self g c =
    let s : Simulation = record { code = c.self.inside.code; threads = length c.self.inside.threads.items; trace = c.self.inside.trace.items } in
    let here : slice_get c.self.inside.threads.items c.args.t ≡ Some c.index_mut-thread.result.now = slice_get_read c.self.inside.threads.items (length c.self.inside.threads.items) c.args.t c.index_mut-thread.result.now refl (subst (λ (v : Simulation). c.args.t < v.threads) (sym c.self.view_is) c.requires) c.index_mut-thread.ensures.value in
    same_world s c.self.inside.lock c.self.inside.words.items c.self.inside.threads.items c.self.inside.accesses c.self.invariant c.args.t c.index_mut-thread.result.now here c.prepare.new.self c.prepare.ensures.thread c.prepare.ensures.accesses c.self.inside.trace.items refl

pub returns-in-Err-clause-err : goal.returns-in-Err-clause-err
returns-in-Err-clause-err g c =
    let s : Simulation = record { code = c.self.inside.code; threads = length c.self.inside.threads.items; trace = c.self.inside.trace.items } in
    let here : slice_get c.self.inside.threads.items c.args.t ≡ Some c.index_mut-thread.result.now = slice_get_read c.self.inside.threads.items (length c.self.inside.threads.items) c.args.t c.index_mut-thread.result.now refl (subst (λ (v : Simulation). c.args.t < v.threads) (sym c.self.view_is) c.requires) c.index_mut-thread.ensures.value in
    same_simulation s c.self.inside.lock c.self.inside.words.items c.self.inside.threads.items c.self.inside.accesses c.self.invariant c.args.t c.index_mut-thread.result.now here c.prepare.new.self c.prepare.ensures.thread c.prepare.ensures.accesses c.self.inside.trace.items refl ∙ c.self.view_is

pub returns-in-Err-clause-used_up : goal.returns-in-Err-clause-used_up
returns-in-Err-clause-used_up g c =
    let s : Simulation = record { code = c.self.inside.code; threads = length c.self.inside.threads.items; trace = c.self.inside.trace.items } in
    let here : slice_get c.self.inside.threads.items c.args.t ≡ Some c.index_mut-thread.result.now = slice_get_read c.self.inside.threads.items (length c.self.inside.threads.items) c.args.t c.index_mut-thread.result.now refl (subst (λ (v : Simulation). c.args.t < v.threads) (sym c.self.view_is) c.requires) c.index_mut-thread.ensures.value in
    used_up_by c.prepare.result _ c.in-Err.why _ (stops_at c.args.self.now c.args.t) c.in-Err.is refl c.prepare.ensures.used_up (ap (λ (v : Simulation). stops_at v c.args.t) (sym c.self.view_is) ∙ stops_is s c.self.inside.lock c.self.inside.words.items c.self.inside.threads.items c.self.inside.accesses c.self.invariant c.args.t c.index_mut-thread.result.now here)

pub returns-in-Err-clause-explained : goal.returns-in-Err-clause-explained
returns-in-Err-clause-explained g c =
    let s : Simulation = record { code = c.self.inside.code; threads = length c.self.inside.threads.items; trace = c.self.inside.trace.items } in
    let here : slice_get c.self.inside.threads.items c.args.t ≡ Some c.index_mut-thread.result.now = slice_get_read c.self.inside.threads.items (length c.self.inside.threads.items) c.args.t c.index_mut-thread.result.now refl (subst (λ (v : Simulation). c.args.t < v.threads) (sym c.self.view_is) c.requires) c.index_mut-thread.ensures.value in
    subst IsExplained (sym (same_simulation s c.self.inside.lock c.self.inside.words.items c.self.inside.threads.items c.self.inside.accesses c.self.invariant c.args.t c.index_mut-thread.result.now here c.prepare.new.self c.prepare.ensures.thread c.prepare.ensures.accesses c.self.inside.trace.items refl)) (explained s c.self.inside.lock c.self.inside.words.items c.self.inside.threads.items c.self.inside.accesses c.self.invariant)

pub make-answer-requires : goal.make-answer-requires
make-answer-requires g c =
    let s : Simulation = record { code = c.self.inside.code; threads = length c.self.inside.threads.items; trace = c.self.inside.trace.items } in
    let here : slice_get c.self.inside.threads.items c.args.t ≡ Some c.index_mut-thread.result.now = slice_get_read c.self.inside.threads.items (length c.self.inside.threads.items) c.args.t c.index_mut-thread.result.now refl (subst (λ (v : Simulation). c.args.t < v.threads) (sym c.self.view_is) c.requires) c.index_mut-thread.ensures.value in
    ready_makeable s c.self.inside.lock c.self.inside.words.items c.self.inside.threads.items c.self.inside.accesses c.self.invariant c.args.t c.index_mut-thread.result.now here c.prepare.new.self c.prepare.ensures.thread c.prepare.ensures.accesses c.in-Ok.access c.in-Ok.ensures.access.0

pub told-event-requires-clause-of : goal.told-event-requires-clause-of
told-event-requires-clause-of g c =
    let s : Simulation = record { code = c.self.inside.code; threads = length c.self.inside.threads.items; trace = c.self.inside.trace.items } in
    let here : slice_get c.self.inside.threads.items c.args.t ≡ Some c.index_mut-thread.result.now = slice_get_read c.self.inside.threads.items (length c.self.inside.threads.items) c.args.t c.index_mut-thread.result.now refl (subst (λ (v : Simulation). c.args.t < v.threads) (sym c.self.view_is) c.requires) c.index_mut-thread.ensures.value in
    ready_of s c.self.inside.lock c.self.inside.words.items c.self.inside.threads.items c.self.inside.accesses c.self.invariant c.args.t c.index_mut-thread.result.now here c.prepare.new.self c.prepare.ensures.thread c.prepare.ensures.accesses

pub told-event-requires-clause-fits : goal.told-event-requires-clause-fits
told-event-requires-clause-fits g c =
    let s : Simulation = record { code = c.self.inside.code; threads = length c.self.inside.threads.items; trace = c.self.inside.trace.items } in
    let here : slice_get c.self.inside.threads.items c.args.t ≡ Some c.index_mut-thread.result.now = slice_get_read c.self.inside.threads.items (length c.self.inside.threads.items) c.args.t c.index_mut-thread.result.now refl (subst (λ (v : Simulation). c.args.t < v.threads) (sym c.self.view_is) c.requires) c.index_mut-thread.ensures.value in
    ready_fits s c.self.inside.lock c.self.inside.words.items c.self.inside.threads.items c.self.inside.accesses c.self.invariant c.args.t c.index_mut-thread.result.now here c.prepare.new.self c.prepare.ensures.thread c.prepare.ensures.accesses c.in-Ok.access c.in-Ok.ensures.access.0 c.make-answer.result c.make-answer.ensures.answer

pub told-event-requires-clause-word : goal.told-event-requires-clause-word
told-event-requires-clause-word g c =
    let s : Simulation = record { code = c.self.inside.code; threads = length c.self.inside.threads.items; trace = c.self.inside.trace.items } in
    let here : slice_get c.self.inside.threads.items c.args.t ≡ Some c.index_mut-thread.result.now = slice_get_read c.self.inside.threads.items (length c.self.inside.threads.items) c.args.t c.index_mut-thread.result.now refl (subst (λ (v : Simulation). c.args.t < v.threads) (sym c.self.view_is) c.requires) c.index_mut-thread.ensures.value in
    ready_word s c.self.inside.lock c.self.inside.words.items c.self.inside.threads.items c.self.inside.accesses c.self.invariant c.args.t c.index_mut-thread.result.now here c.prepare.new.self c.prepare.ensures.thread c.prepare.ensures.accesses c.in-Ok.access c.in-Ok.ensures.access.0 c.make-answer.result c.make-answer.ensures.answer

pub told-event-requires-clause-count : goal.told-event-requires-clause-count
told-event-requires-clause-count g c =
    let s : Simulation = record { code = c.self.inside.code; threads = length c.self.inside.threads.items; trace = c.self.inside.trace.items } in
    let here : slice_get c.self.inside.threads.items c.args.t ≡ Some c.index_mut-thread.result.now = slice_get_read c.self.inside.threads.items (length c.self.inside.threads.items) c.args.t c.index_mut-thread.result.now refl (subst (λ (v : Simulation). c.args.t < v.threads) (sym c.self.view_is) c.requires) c.index_mut-thread.ensures.value in
    let room : length c.self.inside.trace.items + 1 < 2 ^ 64 = room_for _ _ _ _ c.in-Ok-reserve.ensures.ok c.reserve.ensures.len c.reserve.new.self.small c.self.inside.trace.ok.0 in
    ready_count s c.self.inside.lock c.self.inside.words.items c.self.inside.threads.items c.self.inside.accesses c.self.invariant c.args.t c.index_mut-thread.result.now here c.prepare.new.self c.prepare.ensures.thread c.prepare.ensures.accesses c.in-Ok.access c.in-Ok.ensures.access.0 room

pub overflow_add-self : goal.overflow_add-self
overflow_add-self g c =
    let s : Simulation = record { code = c.self.inside.code; threads = length c.self.inside.threads.items; trace = c.self.inside.trace.items } in
    let here : slice_get c.self.inside.threads.items c.args.t ≡ Some c.index_mut-thread.result.now = slice_get_read c.self.inside.threads.items (length c.self.inside.threads.items) c.args.t c.index_mut-thread.result.now refl (subst (λ (v : Simulation). c.args.t < v.threads) (sym c.self.view_is) c.requires) c.index_mut-thread.ensures.value in
    let room : length c.self.inside.trace.items + 1 < 2 ^ 64 = room_for _ _ _ _ c.in-Ok-reserve.ensures.ok c.reserve.ensures.len c.reserve.new.self.small c.self.inside.trace.ok.0 in
    fits_word _ (ready_counts s c.self.inside.lock c.self.inside.words.items c.self.inside.threads.items c.self.inside.accesses c.self.invariant c.args.t c.index_mut-thread.result.now here c.prepare.new.self c.prepare.ensures.thread c.prepare.ensures.accesses c.in-Ok.access c.in-Ok.ensures.access.0 room c.cost.result c.cost.ensures)

pub invariant_of-self-2 : goal.invariant_of-self-2
invariant_of-self-2 g c =
    let s : Simulation = record { code = c.self.inside.code; threads = length c.self.inside.threads.items; trace = c.self.inside.trace.items } in
    let here : slice_get c.self.inside.threads.items c.args.t ≡ Some c.index_mut-thread.result.now = slice_get_read c.self.inside.threads.items (length c.self.inside.threads.items) c.args.t c.index_mut-thread.result.now refl (subst (λ (v : Simulation). c.args.t < v.threads) (sym c.self.view_is) c.requires) c.index_mut-thread.ensures.value in
    stepped_now s c.self.inside.lock c.self.inside.words.items c.self.inside.threads.items c.self.inside.accesses c.self.invariant c.args.t c.index_mut-thread.result.now here c.prepare.new.self c.prepare.ensures.thread c.prepare.ensures.accesses c.in-Ok.access c.in-Ok.ensures.access.0 c.make-answer.result c.make-answer.ensures.answer c.told-event.new.self c.in-Ok.ensures.access.1 c.told-event.ensures.thread c.told-event.ensures.of c.told-event.ensures.accesses c.make-answer.new.lock c.make-answer.new.words.items c.cost.result c.push_reserved.new.self.items c.make-answer.ensures.lock c.make-answer.ensures.words c.cost.ensures (c.push_reserved.ensures.items ∙ ap (λ (l : List ℕ). l ++ c.args.t ∷ []) c.reserve.ensures.items)

pub returns-clause-ok : goal.returns-clause-ok
returns-clause-ok g c =
    let s : Simulation = record { code = c.self.inside.code; threads = length c.self.inside.threads.items; trace = c.self.inside.trace.items } in
    let here : slice_get c.self.inside.threads.items c.args.t ≡ Some c.index_mut-thread.result.now = slice_get_read c.self.inside.threads.items (length c.self.inside.threads.items) c.args.t c.index_mut-thread.result.now refl (subst (λ (v : Simulation). c.args.t < v.threads) (sym c.self.view_is) c.requires) c.index_mut-thread.ensures.value in
    after_is s c.self.inside.lock c.self.inside.words.items c.self.inside.threads.items c.self.inside.accesses c.self.invariant c.args.t c.index_mut-thread.result.now here c.prepare.new.self c.prepare.ensures.thread c.prepare.ensures.accesses c.in-Ok.access c.in-Ok.ensures.access.0 c.make-answer.result c.make-answer.ensures.answer c.told-event.new.self c.in-Ok.ensures.access.1 c.told-event.ensures.thread c.told-event.ensures.of c.told-event.ensures.accesses c.make-answer.new.lock c.make-answer.new.words.items c.cost.result c.push_reserved.new.self.items c.make-answer.ensures.lock c.make-answer.ensures.words c.cost.ensures (c.push_reserved.ensures.items ∙ ap (λ (l : List ℕ). l ++ c.args.t ∷ []) c.reserve.ensures.items) ∙ ap (λ (v : Simulation). further v (c.args.t ∷ [])) c.self.view_is

pub returns-clause-shown : goal.returns-clause-shown
returns-clause-shown g c =
    let s : Simulation = record { code = c.self.inside.code; threads = length c.self.inside.threads.items; trace = c.self.inside.trace.items } in
    let here : slice_get c.self.inside.threads.items c.args.t ≡ Some c.index_mut-thread.result.now = slice_get_read c.self.inside.threads.items (length c.self.inside.threads.items) c.args.t c.index_mut-thread.result.now refl (subst (λ (v : Simulation). c.args.t < v.threads) (sym c.self.view_is) c.requires) c.index_mut-thread.ensures.value in
    ap (λ (v : Simulation). shown_at v c.args.t) (sym c.self.view_is)
    ∙ ready_shown s c.self.inside.lock c.self.inside.words.items c.self.inside.threads.items c.self.inside.accesses c.self.invariant c.args.t c.index_mut-thread.result.now here c.prepare.new.self c.prepare.ensures.thread c.prepare.ensures.accesses c.in-Ok.access c.in-Ok.ensures.access.0 c.make-answer.result c.make-answer.ensures.answer c.told-event.result c.told-event.ensures.event
    ∙ (λ i. Some (record { status = sym c.status-status.ensures i; place = sym c.place-place.ensures i; access = c.in-Ok.access; answer = c.make-answer.result; event = c.told-event.result }))

pub returns-clause-used_up : goal.returns-clause-used_up
returns-clause-used_up g c =
    let s : Simulation = record { code = c.self.inside.code; threads = length c.self.inside.threads.items; trace = c.self.inside.trace.items } in
    let here : slice_get c.self.inside.threads.items c.args.t ≡ Some c.index_mut-thread.result.now = slice_get_read c.self.inside.threads.items (length c.self.inside.threads.items) c.args.t c.index_mut-thread.result.now refl (subst (λ (v : Simulation). c.args.t < v.threads) (sym c.self.view_is) c.requires) c.index_mut-thread.ensures.value in
    (λ e. absurd (cc), λ e. absurd (never s c.self.inside.lock c.self.inside.words.items c.self.inside.threads.items c.self.inside.accesses c.self.invariant c.args.t c.index_mut-thread.result.now here c.prepare.new.self c.prepare.ensures.thread c.prepare.ensures.accesses c.in-Ok.access c.in-Ok.ensures.access.0 c.in-Ok.ensures.access.1 (ap (λ (v : Simulation). stops_at v c.args.t) c.self.view_is ∙ e)))

pub returns-clause-explained : goal.returns-clause-explained
returns-clause-explained g c =
    let s : Simulation = record { code = c.self.inside.code; threads = length c.self.inside.threads.items; trace = c.self.inside.trace.items } in
    let here : slice_get c.self.inside.threads.items c.args.t ≡ Some c.index_mut-thread.result.now = slice_get_read c.self.inside.threads.items (length c.self.inside.threads.items) c.args.t c.index_mut-thread.result.now refl (subst (λ (v : Simulation). c.args.t < v.threads) (sym c.self.view_is) c.requires) c.index_mut-thread.ensures.value in
    explained _ _ _ _ _ (stepped_now s c.self.inside.lock c.self.inside.words.items c.self.inside.threads.items c.self.inside.accesses c.self.invariant c.args.t c.index_mut-thread.result.now here c.prepare.new.self c.prepare.ensures.thread c.prepare.ensures.accesses c.in-Ok.access c.in-Ok.ensures.access.0 c.make-answer.result c.make-answer.ensures.answer c.told-event.new.self c.in-Ok.ensures.access.1 c.told-event.ensures.thread c.told-event.ensures.of c.told-event.ensures.accesses c.make-answer.new.lock c.make-answer.new.words.items c.cost.result c.push_reserved.new.self.items c.make-answer.ensures.lock c.make-answer.ensures.words c.cost.ensures (c.push_reserved.ensures.items ∙ ap (λ (l : List ℕ). l ++ c.args.t ∷ []) c.reserve.ensures.items))

pub invariant_of-self-in_default : goal.invariant_of-self-in_default
invariant_of-self-in_default g c =
    let s : Simulation = record { code = c.self.inside.code; threads = length c.self.inside.threads.items; trace = c.self.inside.trace.items } in
    let here : slice_get c.self.inside.threads.items c.args.t ≡ Some c.index_mut-thread.result.now = slice_get_read c.self.inside.threads.items (length c.self.inside.threads.items) c.args.t c.index_mut-thread.result.now refl (subst (λ (v : Simulation). c.args.t < v.threads) (sym c.self.view_is) c.requires) c.index_mut-thread.ensures.value in
    same_world s c.self.inside.lock c.self.inside.words.items c.self.inside.threads.items c.self.inside.accesses c.self.invariant c.args.t c.index_mut-thread.result.now here c.prepare.new.self c.prepare.ensures.thread c.prepare.ensures.accesses c.reserve.new.self.items c.reserve.ensures.items

pub returns-in_default-clause-used_up : goal.returns-in_default-clause-used_up
returns-in_default-clause-used_up g c =
    let s : Simulation = record { code = c.self.inside.code; threads = length c.self.inside.threads.items; trace = c.self.inside.trace.items } in
    let here : slice_get c.self.inside.threads.items c.args.t ≡ Some c.index_mut-thread.result.now = slice_get_read c.self.inside.threads.items (length c.self.inside.threads.items) c.args.t c.index_mut-thread.result.now refl (subst (λ (v : Simulation). c.args.t < v.threads) (sym c.self.view_is) c.requires) c.index_mut-thread.ensures.value in
    (λ e. absurd (cc), λ e. absurd (never s c.self.inside.lock c.self.inside.words.items c.self.inside.threads.items c.self.inside.accesses c.self.invariant c.args.t c.index_mut-thread.result.now here c.prepare.new.self c.prepare.ensures.thread c.prepare.ensures.accesses c.in-Ok.access c.in-Ok.ensures.access.0 c.in-Ok.ensures.access.1 (ap (λ (v : Simulation). stops_at v c.args.t) c.self.view_is ∙ e)))

pub returns-in_default-clause-explained : goal.returns-in_default-clause-explained
returns-in_default-clause-explained g c =
    let s : Simulation = record { code = c.self.inside.code; threads = length c.self.inside.threads.items; trace = c.self.inside.trace.items } in
    let here : slice_get c.self.inside.threads.items c.args.t ≡ Some c.index_mut-thread.result.now = slice_get_read c.self.inside.threads.items (length c.self.inside.threads.items) c.args.t c.index_mut-thread.result.now refl (subst (λ (v : Simulation). c.args.t < v.threads) (sym c.self.view_is) c.requires) c.index_mut-thread.ensures.value in
    subst IsExplained (sym (same_simulation s c.self.inside.lock c.self.inside.words.items c.self.inside.threads.items c.self.inside.accesses c.self.invariant c.args.t c.index_mut-thread.result.now here c.prepare.new.self c.prepare.ensures.thread c.prepare.ensures.accesses c.reserve.new.self.items c.reserve.ensures.items)) (explained s c.self.inside.lock c.self.inside.words.items c.self.inside.threads.items c.self.inside.accesses c.self.invariant)
