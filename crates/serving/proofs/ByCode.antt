-- The report of a program's threads in an order, by its code.
use Rattle.std.proofs.Common.{◌≡◌, ◌∙◌, ◌||◌, ◌<◌, ◌≤◌, ℕ, false, List, [], ◌∷◌, Some, get_or, length, map, take, refl, sym, ap, subst, arith}
use Rattle.std.specs.List.{slice_get}
use Rattle.std.proofs.lemmas.List.{length-map, take_all}
use Rattle.std.proofs.lemmas.Option.{slice_get-get_or}
use Rattle.std.proofs.Math.ListN.{get_or-map}
use Rattle.std.proofs.lemmas.Bool.{false≢true}
use Rattle.syntax.specs.Behaviours.{Memory}
use Rattle.syntax.specs.Names.{bounds}
use Rattle.syntax.specs.Names.{bounds_of as cell_bounds}
use Rattle.syntax.specs.Tree.{Program}
use Rattle.syntax.specs.Typing.{IsTypedProgram}
use Rattle.bytecode.specs.Beginning.{beginning}
use Rattle.bytecode.specs.Code.{Code, Configuration, effect}
use Rattle.bytecode.specs.Initial.{initial_of}
use Rattle.bytecode.specs.Sequential.{Sequential}
use Rattle.bytecode.specs.Valid.{bounds_of}
use Rattle.states.specs.Comes.{AllBegin}
use Rattle.states.specs.Laws.{IsSetting, LeadsLike}
use Rattle.states.specs.Like.{RestsLike}
use Rattle.states.specs.Shown.{IsOrderAmong, ShowsAtRest, ToldOfThread}
use Rattle.states.proofs.Alike as alike
use Rattle.atomic_code.specs.Resting.{thread_at_rest}
use Rattle.atomic_code.specs.Threads.{AtomicThreadState}
use Rattle.walks.specs.Ordered.{ComesInOrder, all_resting, no_likeness}
use Rattle.walks.specs.States.{StateAtRest}
use Rattle.meaning.specs.InOrder.{report_in}
use Rattle.meaning.specs.declared.outcome.ThreadReport.{ThreadReport}
use Rattle.report.specs.Printed.{Printed}
use Rattle.serving.specs.Codes.{IsCodeOf}
use Rattle.serving.specs.Orders.{IsUnspentOrder}
use Rattle.serving.specs.Reports.{has_spent, is_spent}
use Rattle.serving.specs.Shows.{program_shown}
use Rattle.serving.specs.inner.ThreadReports.{report_shown}
use Rattle.serving.proofs.AtRest.{shows_told, told}
use Rattle.serving.proofs.StatesShown.{any_end, first_words, rests_unspent, shows_by}

none_spent_at_rest : (ks : List AtomicThreadState) → any_end is_spent (map told (all_resting ks)) ≡ false
none_spent_at_rest [] = refl
none_spent_at_rest (k ∷ ks) = ap (λ b. b || any_end is_spent (map told (all_resting ks))) (rests_unspent k.thread.status) ∙ none_spent_at_rest ks

-- ---- threads at rest, one after another

abbrev rest_of : AtomicThreadState → Sequential Configuration
rest_of k = thread_at_rest k.thread

pub resting_read : (ks : List AtomicThreadState) (t : ℕ) (k : AtomicThreadState) → k ≡ get_or ks t k → t < length ks → slice_get (all_resting ks) t ≡ Some (thread_at_rest k.thread)
resting_read ks t k is named =
    let size = length-map ks rest_of in
    slice_get-get_or (all_resting ks) t (rest_of k) (omega (arith, named, size)) ∙ ap Some (get_or-map rest_of ks t k ∙ ap rest_of (sym is))

pub all_of_threads : (ks : List AtomicThreadState) (n : ℕ) (xs : List ToldOfThread) → length ks ≤ n → xs ≡ take n (map told (all_resting ks)) → xs ≡ map told (all_resting ks)
all_of_threads ks n xs all taken =
    let size = length-map (all_resting ks) told ∙ length-map ks rest_of in
    taken ∙ take_all n (map told (all_resting ks)) (omega (arith, size, all))

-- ---- the report of an order

module _ (p : Program) (code : Code) (typed : IsTypedProgram p) (compiled : IsCodeOf p code) where
  -- threads are distinguished by each register
  setting : IsSetting no_likeness (effect code) (beginning code) p
  setting = record {
    typed = typed;
    means = compiled.means;
    likeness = record {
      goes_on = λ c d same. absurd (false≢true same);
      joins = λ c d e one other. absurd (false≢true one);
    };
  }

  cells : bounds p ≡ bounds_of code
  cells = ap cell_bounds (sym compiled.globals)

  module _ (threads : ℕ) (order : List ℕ) (first last : Memory) (ks : List AtomicThreadState) (is : first ≡ initial_of code) (c : ComesInOrder code first threads order last (all_resting ks)) where
    -- the code reaches in the order what the source reaches
    rests_there : ShowsAtRest p threads order last (map told (all_resting ks))
    rests_there =
        let begin = subst (λ b. AllBegin (RestsLike no_likeness (effect code) b (beginning code)) 0 c.first) (sym cells) c.begin in
        let leads = subst (λ m. LeadsLike no_likeness (effect code) order m c.first last (all_resting ks)) (is ∙ sym (first_words p code compiled)) c.leads in
        subst (λ n. ShowsAtRest p n order last (map told (all_resting ks))) c.count_is (alike.show no_likeness (effect code) (beginning code) p setting c.first begin order last (all_resting ks) leads)

    pub unspent_order : {A : Type 0} (q : Program) (rs : List (ThreadReport A)) (memory : Memory) (shown : Printed) → IsOrderAmong threads order → q ≡ p → map report_in rs ≡ map told (all_resting ks) → memory ≡ last → shown ≡ program_shown q (map report_shown rs) memory → IsUnspentOrder p threads order shown
    unspent_order q rs memory shown named same are left shows =
        let r = rests_there in
        let state : StateAtRest = (last, all_resting ks) in
        let this = shows_told p q rs state memory shown same are left shows in
        record {
          ticks = r.enough;
          run = record {
            named = named;
            shows = this ∙ sym (shows_by p threads r.enough order state (r.memory r.enough (omega arith)) (r.threads r.enough (omega arith)));
          };
          unspent = ap has_spent this ∙ none_spent_at_rest ks;
        }
