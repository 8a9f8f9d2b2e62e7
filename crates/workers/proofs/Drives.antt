-- Lists of workers, handles and results, one longer or one shorter.
use Rattle.std.proofs.Common.{◌≡◌, ℕ, suc, List, [], ◌∷◌, ◌++◌}
use Rattle.std.specs.declared.thread.PromisedHandle.{PromisedHandle}
use Rattle.atomic_table.specs.Seated.{TableId}
use Rattle.shared_words.specs.Setup.{Setup}
use Rattle.workers.specs.declared.hall.Hall.{Hall}
use Rattle.workers.specs.declared.worker.Worker.{Worker}
use Rattle.workers.specs.declared.run.Driven.{Driven}
use Rattle.workers.specs.declared.run.Ending.{Ending}
use Rattle.workers.specs.declared.run.OfHall.{OfHall}
use Rattle.workers.specs.Workers.{AreWorkersFrom, AreWorkersOf, IsWorkerOf}
use Rattle.workers.specs.Driving.{AreEnded, IsEndOfLoop}
use Rattle.workers.specs.inner.Driving.{AllPromise, AreDrivenOf, AreFresh}

module _ {A : Type 0} (z : TableId) (key : Setup) where
  pub without_last : (xs : List (Worker A)) (w : Worker A) → AreWorkersOf z key (xs ++ w ∷ []) → AreWorkersOf z key xs × IsWorkerOf z key w
  without_last [] w a = (tt, a.0)
  without_last (x ∷ xs) w a = let r = without_last xs w a.1 in ((a.0, r.0), r.1)

  pub driven_more : (all : ℕ) (ds : List (Driven A)) (d : Driven A) → AreDrivenOf z key all ds → IsWorkerOf z key d.worker × IsEndOfLoop key all d.stopped d.worker → AreDrivenOf z key all (ds ++ d ∷ [])
  driven_more all [] d a is = (is, tt)
  driven_more all (x ∷ xs) d a is = (a.0, driven_more all xs d a.1 is)

  pub driven_without : (all : ℕ) (ds : List (Driven A)) (d : Driven A) → AreDrivenOf z key all (ds ++ d ∷ []) → AreDrivenOf z key all ds × (IsWorkerOf z key d.worker × IsEndOfLoop key all d.stopped d.worker)
  driven_without all [] d a = (tt, a.0)
  driven_without all (x ∷ xs) d a = let r = driven_without all xs d a.1 in ((a.0, r.0), r.1)

  pub with_last : (ws : List (Worker A)) (w : Worker A) → AreWorkersOf z key ws → IsWorkerOf z key w → AreWorkersOf z key (ws ++ w ∷ [])
  with_last [] w a is = (is, tt)
  with_last (x ∷ xs) w a is = (a.0, with_last xs w a.1 is)

  pub in_any_order : (from : ℕ) (ws : List (Worker A)) → AreWorkersFrom z key from ws → AreWorkersOf z key ws × AreFresh ws
  in_any_order from [] a = (tt, tt)
  in_any_order from (w ∷ ws) a = let r = in_any_order (suc from) ws a.3 in ((a.0, r.0), (a.2, r.1))

pub fresh_without : {A : Type 0} (xs : List (Worker A)) (w : Worker A) → AreFresh (xs ++ w ∷ []) → AreFresh xs × (w.steps ≡ 0)
fresh_without [] w a = (tt, a.0)
fresh_without (x ∷ xs) w a = let r = fresh_without xs w a.1 in ((a.0, r.0), r.1)

pub ended_more : {A : Type 0} (key : Setup) (all : ℕ) (ws : List (Worker A)) (es : List Ending) (w : Worker A) (e : Ending) → AreEnded key all ws es → e.number ≡ w.number → IsEndOfLoop key all e.stopped w → AreEnded key all (ws ++ w ∷ []) (es ++ e ∷ [])
ended_more key all [] [] w e a n s = ((n, s), tt)
ended_more key all [] (f ∷ es) w e a n s = absurd a
ended_more key all (x ∷ ws) [] w e a n s = absurd a
ended_more key all (x ∷ ws) (f ∷ es) w e a n s = (a.0, ended_more key all ws es w e a.1 n s)

pub promised_more : {A : Type 0} (hall : Hall A) (all : ℕ) (hs : List (PromisedHandle (Driven A) (OfHall A))) (h : PromisedHandle (Driven A) (OfHall A)) → AllPromise hall all hs → (h.promise.hall.now ≡ hall) × (h.promise.budget ≡ all) → AllPromise hall all (hs ++ h ∷ [])
promised_more hall all [] h a is = (is, tt)
promised_more hall all (x ∷ xs) h a is = (a.0, promised_more hall all xs h a.1 is)

pub promised_without : {A : Type 0} (hall : Hall A) (all : ℕ) (hs : List (PromisedHandle (Driven A) (OfHall A))) (h : PromisedHandle (Driven A) (OfHall A)) → AllPromise hall all (hs ++ h ∷ []) → AllPromise hall all hs × ((h.promise.hall.now ≡ hall) × (h.promise.budget ≡ all))
promised_without hall all [] h a = (tt, a.0)
promised_without hall all (x ∷ xs) h a = let r = promised_without hall all xs h a.1 in ((a.0, r.0), r.1)
